use Rattle.std.proofs.Common.{◌+◌, ◌-◌, ◌<◌, sym, subst, ap, ◌∙◌}
use Rattle.std.specs.Char.{is_ascii_digit}
use Rattle.std.specs.List.{prefix_len}
use Rattle.query_pieces.specs.QueryBytes.{byte}
use Rattle.query_pieces.proofs.ByteRuns.{run_last, rest_is, digit_small}
use Rattle.query_pieces.proofs.bytes.after_digits.Goals as goal

pub returns-then-place-text-clause-last : goal.returns-then-place-text-clause-last
returns-then-place-text-clause-last c =
    subst (λ n. c.args.place < c.args.place + n → byte c.args.text.now (c.args.place + n - 1) < 128) (sym (c.digits_len.ensures.len ∙ ap (prefix_len is_ascii_digit) (rest_is c.args.text.now c.args.place))) (run_last is_ascii_digit c.args.text.now c.args.place digit_small c.if-place-text.true)
