use Rattle.std.proofs.Common.{ap, ◌∙◌}
use Rattle.std.specs.Prelude.{decimal}
use Rattle.index_tool.proofs.Putting.{one_more, said_as}
use Rattle.index_tool.proofs.lines.put_word.Goals as goal

pub returns : goal.returns
returns g c =
    one_more _ _ _ _ _ (one_more _ _ _ _ _ (one_more _ _ _ _ _ (one_more _ _ _ _ _ (one_more _ _ _ _ _
    (said_as _ _ _ _ (ap decimal c.from.ensures) c.in_ok-put_number.ensures)
    c.in_ok-extend_from_slice.ensures.items)
    (said_as _ _ _ _ (ap decimal (c.from-2.ensures ∙ c.count.ensures)) c.in_ok-put_number-2.ensures))
    c.in_ok-extend_from_slice-2.ensures.items)
    c.in_ok-extend_from_slice-3.ensures.items)
    c.in_ok-extend_from_slice-4.ensures.items
