use Rattle.std.proofs.Common.{◌≡◌, ℕ, take, reverse}
use Rattle.chunk_store.specs.Memory.{image_of, replayed, outcome}
use Rattle.chunk_store.proofs.crash.left_by.Given as goal

abbrev pub invariant-loop-call : goal.invariant-loop-call
invariant-loop-call l = record { now : (f : ℕ) → image_of l.now f ≡ replayed (image_of l.start) (reverse (take l.call-index l.calls)) f; left : (f : ℕ) → image_of l.left f ≡ outcome l.pick (image_of l.start) (reverse (take l.call-index l.calls)) f }
