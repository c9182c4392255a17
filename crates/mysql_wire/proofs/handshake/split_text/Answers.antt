use Rattle.std.proofs.Common.{◌≡◌, ◌+◌, ◌-◌, length, take, drop, arith, length-drop, take_all}
use Rattle.mysql_wire.proofs.HandshakeLemmas.{text_front_split}
use Rattle.mysql_wire.proofs.handshake.split_text.Goals as goal

pub returns-clause-split : goal.returns-clause-split
returns-clause-split c =
    let bytes = c.args.bytes.now in
    let end = c.in_ok-end.end in
    let rest : take (length bytes - (end + 1)) (drop (end + 1) bytes) ≡ drop (end + 1) bytes = take_all (length bytes - (end + 1)) (drop (end + 1) bytes) (omega (arith, length-drop (end + 1) bytes)) in
    rw (rest, text_front_split, ← c.in_ok-end.ensures)

pub returns-in_err-end-clause-split : goal.returns-in_err-end-clause-split
returns-in_err-end-clause-split c = rw (c.from_residual.ensures, text_front_split, ← c.in_err-end.ensures)
