use Rattle.std.proofs.Common.{rules, ◌≡◌, ◌+◌, ◌*◌, length, arith, refl, ◌∙◌}
use Rattle.std.specs.Prelude.{slice_index}
use Rattle.self_test.proofs.Talking.{no_packet, rest_behind}
use Rattle.self_test.proofs.asking.behind_packet.Goals as goal

pub returns-in_default-clause-rest : goal.returns-in_default-clause-rest
returns-in_default-clause-rest c = λ seq payload rest short is. absurd (no_packet seq c.args.bytes.now payload rest c.in_default.len_below is)

pub returns-in-len4-up-clause-rest : goal.returns-in-len4-up-clause-rest
returns-in-len4-up-clause-rest c = λ seq payload rest short is.
    c.behind.ensures
    ∙ rest_behind seq (c.from.result + 256 * c.from-in-len4-up.result + 65536 * c.from-in-len4-up-2.result) c.args.bytes.now payload rest short is
    (rw (c.from.ensures, c.from-in-len4-up.ensures, c.from-in-len4-up-2.ensures) refl)
