use Rattle.std.proofs.Common.{ap, ◌∙◌}
use Rattle.std.specs.List.{prefix_len}
use Rattle.query_pieces.specs.Operators.{is_inside}
use Rattle.query_pieces.proofs.ByteRuns.{quote_stops, rest_is}
use Rattle.query_pieces.proofs.bytes.next_quote.Goals as goal

pub returns-then-place-text-clause-quote : goal.returns-then-place-text-clause-quote
returns-then-place-text-clause-quote c = quote_stops c.args.text.now c.args.place c.quoted_len.result (c.quoted_len.ensures.len ∙ ap (prefix_len is_inside) (rest_is c.args.text.now c.args.place))
