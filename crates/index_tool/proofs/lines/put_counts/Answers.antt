use Rattle.std.proofs.Common.{ap, length, ◌∙◌}
use Rattle.std.specs.Prelude.{decimal}
use Rattle.index_tool.proofs.Putting.{one_more, said_as}
use Rattle.index_tool.proofs.lines.put_counts.Goals as goal

pub returns : goal.returns
returns g c =
    one_more _ _ _ _ _ (one_more _ _ _ _ _ (one_more _ _ _ _ _ (one_more _ _ _ _ _ (one_more _ _ _ _ _ (one_more _ _ _ _ _ (one_more _ _ _ _ _ (one_more _ _ _ _ _ (one_more _ _ _ _ _ (one_more _ _ _ _ _
    (said_as _ _ _ _ (ap decimal c.from.ensures) c.in_ok-put_number.ensures)
    c.in_ok-extend_from_slice.ensures.items)
    (said_as _ _ _ _ (ap decimal (c.from-2.ensures ∙ c.rows.ensures)) c.in_ok-put_number-2.ensures))
    c.in_ok-extend_from_slice-2.ensures.items)
    (said_as _ _ _ _ (ap decimal (ap length c.as_slice.ensures)) c.in_ok-put_number-3.ensures))
    c.in_ok-extend_from_slice-3.ensures.items)
    (said_as _ _ _ _ (ap decimal (c.from-3.ensures ∙ c.words.ensures)) c.in_ok-put_number-4.ensures))
    c.in_ok-extend_from_slice-4.ensures.items)
    (said_as _ _ _ _ (ap decimal c.from-4.ensures) c.in_ok-put_number-5.ensures))
    c.in_ok-extend_from_slice-5.ensures.items)
    c.in_ok-extend_from_slice-6.ensures.items
