use Rattle.std.proofs.Common.{◌+◌, ◌-◌, ◌<◌, sym, subst, ap, ◌∙◌}
use Rattle.std.specs.List.{prefix_len}
use Rattle.query_pieces.specs.QueryBytes.{byte}
use Rattle.query_pieces.specs.Operators.{is_listed}
use Rattle.query_pieces.specs.steps.Names.{further_of}
use Rattle.query_pieces.proofs.ByteRuns.{run_last, rest_is, listed_small}
use Rattle.query_pieces.proofs.bytes.after_list.Goals as goal

pub returns-then-place-text-clause-last : goal.returns-then-place-text-clause-last
returns-then-place-text-clause-last c =
    subst (λ n. c.args.place < c.args.place + n → byte c.args.text.now (c.args.place + n - 1) < 128) (sym (c.list_len.ensures.len ∙ ap (prefix_len (is_listed (further_of c.args.kind))) (rest_is c.args.text.now c.args.place))) (run_last (is_listed (further_of c.args.kind)) c.args.text.now c.args.place (listed_small c.args.kind) c.if-place-text.true)
