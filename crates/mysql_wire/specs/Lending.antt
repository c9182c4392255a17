-- What a framer is once the packet that borrows from it is gone.
use Rattle.std.specs.Prelude.{ℕ, ⊤}
use Rattle.std.specs.Borrow.{follows_so, MutBor, Fml}
use mathlib.Core.Option.{none}
use Rattle.mysql_wire.specs.Framing.{Stream, Leaves}
use Rattle.mysql_wire.specs.declared.framer.Next.{Next}
use Rattle.mysql_wire.specs.contracts.framer.Framer.{the_row}

-- It is as the answer leaves it.
abbrev pub LeavesFramer : MutBor Stream → ℕ → Next → Fml
LeavesFramer framer expect answer = follows_so the_row the_row framer.ghost_name none (λ _ _. ⊤) (Leaves expect framer.now answer)
