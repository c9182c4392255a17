use Rattle.std.proofs.Common.{◌≡◌, ℕ, ◌+◌, ◌*◌, max, List, length, take}
use Rattle.query_tree.specs.declared.query.Node.{size-Node}
use Rattle.row_flags.specs.steps.Flags.{AreFlags, all_pass}
use Rattle.row_flags.proofs.trees.+flagging.Given as goal

abbrev pub decreases-flag : goal.decreases-flag
decreases-flag g l = 4 * goal.size-flag g l

abbrev pub decreases-flag_either : goal.decreases-flag_either
decreases-flag_either g l = 4 * max (size-Node l.a.now) (size-Node l.b.now) + 1

abbrev pub decreases-flag_all : goal.decreases-flag_all
decreases-flag_all g l = 4 * goal.size-flag_all g l + 1

abbrev pub invariant-flag_all-loop-item : goal.invariant-flag_all-loop-item
invariant-flag_all-loop-item g l = record {
  long : length l.into ≡ length l.initial.into;
  own : length l.own.items ≡ length l.initial.into;
  flags : (number : List ℕ → ℕ) → AreFlags (all_pass number (take l.item-index l.items)) (g.C.Chunk.content l.chunk) l.from l.into;
}
