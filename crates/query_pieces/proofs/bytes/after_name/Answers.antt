use Rattle.std.proofs.Common.{◌+◌, ◌-◌, ◌<◌, sym, subst, ap, ◌∙◌}
use Rattle.std.specs.List.{prefix_len}
use Rattle.query_pieces.specs.QueryBytes.{byte}
use Rattle.query_pieces.specs.steps.Names.{further_of}
use Rattle.query_pieces.proofs.ByteRuns.{run_last, rest_is, further_small}
use Rattle.query_pieces.proofs.bytes.after_name.Goals as goal

pub returns-then-place-text-clause-last : goal.returns-then-place-text-clause-last
returns-then-place-text-clause-last c =
    subst (λ n. c.args.place < c.args.place + n → byte c.args.text.now (c.args.place + n - 1) < 128) (sym (c.name_len.ensures.len ∙ ap (prefix_len (further_of c.args.kind)) (rest_is c.args.text.now c.args.place))) (run_last (further_of c.args.kind) c.args.text.now c.args.place (further_small c.args.kind) c.if-place-text.true)
