use Rattle.std.proofs.Common.{◌∙◌, ap}
use Rattle.std.specs.List.{list_all}
use Rattle.op_eval.proofs.Numbering.{all_put}
use Rattle.op_eval.proofs.parts.Parts.put.Goals as goal

pub returns : goal.returns
returns c = λ holds. ap (list_all holds) c.in_ok-insert-2.ensures.items ∙ all_put holds c.args.self.now.plans.items c.min.result c.args.part.plan
