-- The definition is the pieces one after the other.
use Rattle.std.proofs.Common.{append_assoc}
use Rattle.mysql_wire.specs.LengthEncoded.{lenenc}
use Rattle.mysql_wire.specs.Rows.{column_payload}
use Rattle.mysql_wire.proofs.rows.put_definition.Goals as goal

pub returns-clause-ok : goal.returns-clause-ok
unfolding column_payload lenenc
returns-clause-ok c =
    rw (c.in_ok-extend_from_slice-3.ensures.items, c.in_ok-extend_from_slice-2.ensures.items, c.in_ok-push.ensures.items, c.in_ok-put_text-2.ensures.ok, c.in_ok-put_text.ensures.ok, c.in_ok-extend_from_slice.ensures.items, c.as_bytes.ensures, c.as_bytes-2.ensures, c.fields_of.ensures) (simp append_assoc)
