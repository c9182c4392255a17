-- What a crash may leave of files that were written and not yet synced, and how that moves with each call.
--
-- Between two syncs of a file that succeeded, each range that was written may hold any bytes, and so may the part between the
-- old end and the greatest end of these ranges. The file never reaches beyond both of these ends, and the bytes outside of the
-- ranges stay. A file that was made or removed since may be there or not. After a sync a crash leaves what a read gives.
use Rattle.std.specs.Prelude.{◌≡◌, ◌⊎◌, ℕ, ◌+◌, ◌≤◌, max, min, List, length, take, drop, Option, Some, None, Result, Ok, Err}
use Rattle.chunk_store.specs.Images.{Image, Both, contents}

-- A write of n bytes at a place, cut short: any bytes in its range, and between the old end and its own; the same elsewhere.
pub record Torn (at n : ℕ) (old new : List ℕ) : Type 0 where
  pub before : take (min at (length old)) new ≡ take at old
  pub after : drop (at + n) new ≡ drop (at + n) old
  pub no_shorter : length old ≤ length new
  pub no_longer : length new ≤ max (length old) (at + n)

-- The same of a file: where it wasn't there it may still not be.
abbrev pub Tears : ℕ → ℕ → Option (List ℕ) → Option (List ℕ) → Type 0
Tears at n None None = Unit {0}
Tears at n (Some old) None = ⊥
Tears at n old (Some new) = Torn at n (contents old) new

-- The file is gone, or it is as before.
abbrev pub MayVanish : Option (List ℕ) → Option (List ℕ) → Type 0
MayVanish old new = (new ≡ None) ⊎ (new ≡ old)

-- Each new image comes from an old one by a step.
abbrev pub Follows : (Image → Image → Type 0) → (Image → Type 0) → (Image → Type 0) → Type 0
Follows step old new = (x : Image) → new x → (d : Image) × old d × step d x

-- What is told is moved by the one step where the call succeeded, and by the other where it failed.
abbrev pub Makes : {T E : Type 0} → (Image → Image → Type 0) → (Image → Image → Type 0) → Result T E → Option Image → Option Image → Type 0
Makes done failed (Ok value) old new = Both done old new
Makes done failed (Err fault) old new = Both failed old new

-- Time goes on: a crash since t may have left what it may have left before, or what it may leave now.
pub record Elapses {D : Type 0} (clock : D → ℕ) (may_leave : D → Image → Type 0) (may_have_left : D → ℕ → Image → Type 0) (old new : D) : Type 0 where
  pub later : clock old ≤ clock new
  pub nothing_else : (t : ℕ) (x : Image) → t ≤ clock old → may_have_left new t x → may_have_left old t x ⊎ may_leave new x
  pub keeps : (t : ℕ) (x : Image) → t ≤ clock old → may_have_left old t x → may_have_left new t x

-- A call moved what a crash may leave by this step at most.
pub record Moves {D : Type 0} (clock : D → ℕ) (may_leave : D → Image → Type 0) (may_have_left : D → ℕ → Image → Type 0) (step : Image → Image → Type 0) (old new : D) : Type 0 where
  pub now : Follows step (may_leave old) (may_leave new)
  pub time : Elapses clock may_leave may_have_left old new

-- Nothing else moved: a read gives the same, and a crash leaves nothing that it might not have left before.
pub record OnlyLooks {D : Type 0} (told : D → Option Image) (clock : D → ℕ) (may_leave : D → Image → Type 0) (may_have_left : D → ℕ → Image → Type 0) (old new : D) : Type 0 where
  pub same : told new ≡ told old
  pub now : (x : Image) → may_leave new x → may_leave old x
  pub time : Elapses clock may_leave may_have_left old new

-- Whatever a crash might have left before, it may leave still.
pub record KeepsAll {D : Type 0} (may_leave : D → Image → Type 0) (old new : D) : Type 0 where
  pub keeps : (x : Image) → may_leave old x → may_leave new x
