use Rattle.std.proofs.Common.{ℕ, sym, subst}
use Rattle.root_slots.specs.Roots.{HoldsOpen}
use Rattle.root_slots.proofs.Standing.{holds_own}
use Rattle.root_slots.proofs.root.Root.slot.Goals as goal

pub returns-clause-holds : goal.returns-clause-holds
returns-clause-holds c = λ own doubt slots stands. subst (λ (number : ℕ). HoldsOpen number own slots) (sym c.slot_of.ensures) (holds_own c.args.self.now.holder c.args.self.now.zeroth_shut c.args.self.now.first_shut own doubt slots stands.slots_are)
