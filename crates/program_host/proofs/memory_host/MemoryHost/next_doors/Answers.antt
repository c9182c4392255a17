use Rattle.std.proofs.Common.{◌≡◌, ◌+◌, ◌-◌, ℕ, List, take, drop, sym, subst, arith}
use Rattle.std.specs.List.{All}
use Rattle.srch_base.specs.Memory.{Lines}
use Rattle.program_host.proofs.Copies.{copies_same, copies_lent, IsLent}
use Rattle.program_host.proofs.memory_host.MemoryHost.next_doors.Goals as goal

pub returns-clause-within : goal.returns-clause-within
returns-clause-within c =
    let e = c.in_ok-extend_from_slice.ensures.items in
    let same : c.extend_from_slice.new.self.items ≡ e.0 = cc in
    subst (λ (doors : List Lines). All IsLent doors) (sym same) (copies_lent _ e.0 e.2)
