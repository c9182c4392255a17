use Rattle.std.proofs.Common.{rules}
use Rattle.std.proofs.lemmas.Fn.{filter_same}
use Rattle.op_eval.specs.Finding.{is_inside}
use Rattle.op_eval.proofs.joining.inside.Goals as goal

pub returns : goal.returns
returns c = filter_same _ (is_inside c.args.cover.now) _ (λ x b f k. search rules) c.args.hits.items c.retain.new.self.items c.retain.ensures.filtered
