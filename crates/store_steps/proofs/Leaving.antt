-- Several calls in a row: what a crash at any moment of them leaves.
use Rattle.std.proofs.Common.{inl, inr, ⊎_elim, ℕ, ◌≤◌, arith}
use Rattle.srch_base.specs.Counts.{Rose}
use Rattle.chunk_store.specs.Images.{Image}
use Rattle.chunk_store.specs.Calls.{Crashes}
use Rattle.chunk_store.specs.declared.disk.Disk.{Ghosts as DiskWords}
use Rattle.store_steps.specs.Kept.{LeavesOnly}

-- by what might be left before, and a step
pub leaves_by : {D : Type 0} (words : DiskWords D) (old new : D) {I P : Image → Type 0} {R : Image → Image → Type 0} → ((x : Image) → words.may_have_left old (words.clock old) x → words.may_leave old x)
    → ((x : Image) → words.may_leave old x → I x) → ((x : Image) → I x → P x) → ((d x : Image) → I d → R d x → P x) → Crashes words old new R → LeavesOnly words old new P
leaves_by words old new only left before step crashes = record {
  later = crashes.later;
  each = λ x may. ⊎_elim (λ was. before x (left x (only x was))) (λ from. step from.0 x (left from.0 from.1) from.2) (crashes.since (words.clock old) x (omega arith) may);
  since = λ t x le may. ⊎_elim (λ was. inl was) (λ from. inr (step from.0 x (left from.0 from.1) from.2)) (crashes.since t x le may);
}

-- some calls, and then some more
pub leaves_then : {D : Type 0} (words : DiskWords D) (old mid new : D) {P Q R : Image → Type 0} → LeavesOnly words old mid P → LeavesOnly words mid new Q → ((x : Image) → P x → R x) → ((x : Image) → Q x → R x) → LeavesOnly words old new R
leaves_then words old mid new first second one two = record {
  later = omega (arith, first.later, second.later);
  each = λ x may. ⊎_elim (λ was. one x (first.each x was)) (λ is. two x is) (second.since (words.clock old) x first.later may);
  since = λ t x le may. ⊎_elim (λ was. ⊎_elim (λ before. inl before) (λ is. inr (one x is)) (first.since t x le was)) (λ is. inr (two x is)) (second.since t x (omega (arith, le, first.later)) may);
}

-- a word that says less
pub leaves_weaker : {D : Type 0} (words : DiskWords D) (old new : D) {P R : Image → Type 0} → ((x : Image) → P x → R x) → LeavesOnly words old new P → LeavesOnly words old new R
leaves_weaker words old new weaker leaves = record {
  later = leaves.later;
  each = λ x may. weaker x (leaves.each x may);
  since = λ t x le may. ⊎_elim (λ was. inl was) (λ is. inr (weaker x is)) (leaves.since t x le may);
}

-- nothing was written
pub leaves_still : {D : Type 0} (words : DiskWords D) (disk : D) {P : Image → Type 0} → ((x : Image) → words.may_have_left disk (words.clock disk) x → words.may_leave disk x) → ((x : Image) → words.may_leave disk x → P x) → LeavesOnly words disk disk P
leaves_still words disk only now = record { later = omega arith; each = λ x may. now x (only x may); since = λ t x le may. inl may }

-- a count that rose later has risen since
pub rose_earlier : (a b c : ℕ) → a ≤ b → Rose b c → Rose a c
rose_earlier a b c le (inl rose) = inl (omega arith)
rose_earlier a b c le (inr last) = inr last
