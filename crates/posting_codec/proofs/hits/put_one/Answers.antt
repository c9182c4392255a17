use Rattle.std.proofs.Common.{rules, ◌++◌, ap, ◌∙◌}
use Rattle.posting_codec.proofs.Writing.{far_spelled, middle_spelled, near_spelled}
use Rattle.posting_codec.proofs.hits.put_one.Goals as goal

pub returns-in_ok-extend_from_slice-clause-ok : goal.returns-in_ok-extend_from_slice-clause-ok
returns-in_ok-extend_from_slice-clause-ok c =
    c.in_ok-extend_from_slice.ensures.items ∙ ap (λ l. c.args.out.now.items ++ l) (near_spelled c.args.hit c.key_of-key.result _ c.key_of-key.ensures c.if-key-lt128.true (search rules))

pub returns-in_ok-extend_from_slice-2-clause-ok : goal.returns-in_ok-extend_from_slice-2-clause-ok
returns-in_ok-extend_from_slice-2-clause-ok c =
    c.in_ok-extend_from_slice-2.ensures.items ∙ ap (λ l. c.args.out.now.items ++ l) (middle_spelled c.args.hit c.key_of-key.result _ _ c.key_of-key.ensures c.if-key-lt128.false c.if-key-lt16384.true (search rules) (search rules))

pub returns-in_ok-extend_from_slice-3-clause-ok : goal.returns-in_ok-extend_from_slice-3-clause-ok
returns-in_ok-extend_from_slice-3-clause-ok c =
    c.in_ok-extend_from_slice-3.ensures.items ∙ ap (λ l. c.args.out.now.items ++ l) (far_spelled c.args.hit c.key_of-key.result _ _ _ c.key_of-key.ensures c.if-key-lt16384.false (search rules) (search rules) (search rules) (search rules))
