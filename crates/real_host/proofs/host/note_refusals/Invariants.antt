use Rattle.std.proofs.Common.{◌≡◌}
use Rattle.real_host.proofs.host.note_refusals.Given as goal

abbrev pub invariant-doors : goal.invariant-doors
invariant-doors l = l.causes.faults ≡ l.initial.causes.faults
