-- A step that says less.
use Rattle.std.proofs.Common.{◌≡◌, ⊎_elim, inl, inr, ℕ, List, Option, Some, None, Result, Ok, Err, refl, ◌∙◌, arith}
use Rattle.std.specs.Result.{OnErr}
use Rattle.chunk_store.specs.Images.{Image, Both, Changes}
use Rattle.chunk_store.specs.CrashModel.{Follows, Moves}
use Rattle.chunk_store.specs.Calls.{Crashes, IsSynced}
use Rattle.chunk_store.specs.declared.disk.Disk.{Ghosts as DiskWords}

pub crashes_by : {D : Type 0} (words : DiskWords D) (old new : D) {R S : Image → Image → Type 0} → ((d x : Image) → words.may_leave old d → R d x → S d x) → Crashes words old new R → Crashes words old new S
crashes_by words old new step crashes = record {
  later = crashes.later;
  now = λ x left. let from = crashes.now x left in (from.0, from.1, step from.0 x from.1 from.2);
  since = λ t x le left. ⊎_elim (λ before. inl before) (λ from. inr (from.0, from.1, step from.0 x from.1 from.2)) (crashes.since t x le left);
}

pub both_by : {R S : Image → Image → Type 0} (a b : Option Image) → ((d x : Image) → a ≡ Some d → R d x → S d x) → Both R a b → Both S a b
both_by None None step both = tt
both_by None (Some y) step both = absurd both
both_by (Some x) None step both = absurd both
both_by (Some x) (Some y) step both = step x y refl both

pub changes_by : (file : ℕ) {R S : Option (List ℕ) → Option (List ℕ) → Type 0} (d x : Image) → (R (d file) (x file) → S (d file) (x file)) → Changes file R d x → Changes file S d x
changes_by file d x step changes = record { here = step changes.here; others = changes.others }

-- what is so is so after an error
pub on_err : {T E : Type 0} (r : Result T E) (F : Type 0) → F → OnErr r F
on_err (Ok x) F fact = tt
on_err (Err e) F fact = fact

-- some more calls, after some that have left this
pub goes_on : {D : Type 0} (words : DiskWords D) (old mid new : D) {Q S T : Image → Image → Type 0} → Crashes words old mid T → Follows Q (words.may_leave old) (words.may_leave mid) → Crashes words mid new S
    → ((d e x : Image) → words.may_leave old d → words.may_leave mid e → Q d e → S e x → T d x) → Crashes words old new T
goes_on words old mid new first left second step = record {
  later = omega (arith, first.later, second.later);
  now = λ x may. let e = second.now x may in let d = left e.0 e.1 in (d.0, d.1, step d.0 e.0 x d.1 e.1 d.2 e.2);
  since = λ t x le may. ⊎_elim (λ before. first.since t x le before)
      (λ e. let d = left e.0 e.1 in inr (d.0, d.1, step d.0 e.0 x d.1 e.1 d.2 e.2)) (second.since t x (omega (arith, le, first.later)) may);
}

-- what is on the disk for good is what was written
pub left_by : (file : ℕ) {Q R : Option (List ℕ) → Option (List ℕ) → Type 0} (told_old told_new : Option Image) (may_old may_new : Image → Type 0)
    → ((x : Image) → may_new x → (image : Image) × (told_new ≡ Some image)) → IsSynced file told_new may_new → Follows (Changes file R) may_old may_new
    → ((d i x : Image) → may_old d → told_new ≡ Some i → R (d file) (x file) → x file ≡ i file → Q (d file) (x file)) → Follows (Changes file Q) may_old may_new
left_by file told_old told_new may_old may_new tells synced left step x may =
    let from = left x may in
    let told = tells x may in
    (from.0, from.1, record { here = step from.0 told.0 x from.1 told.1 from.2.here (synced told.0 told.1 x may); others = from.2.others })

-- one call of the disk
pub crashes_of : {D : Type 0} (words : DiskWords D) (old new : D) {R : Image → Image → Type 0} → Moves words.clock words.may_leave words.may_have_left R old new → Crashes words old new R
crashes_of words old new moves = record {
  later = moves.time.later;
  now = moves.now;
  since = λ t x le may. ⊎_elim (λ before. inl before) (λ here. inr (moves.now x here)) (moves.time.nothing_else t x le may);
}

pub changes_then : (file : ℕ) {R S T : Option (List ℕ) → Option (List ℕ) → Type 0} (d e x : Image) → ((a b c : Option (List ℕ)) → R a b → S b c → T a c) → Changes file R d e → Changes file S e x → Changes file T d x
changes_then file d e x step first second = record { here = step (d file) (e file) (x file) first.here second.here; others = λ f apart. second.others f apart ∙ first.others f apart }

-- nothing happened
pub both_same : (R : Image → Image → Type 0) (a : Option Image) → ((x : Image) → R x x) → Both R a a
both_same R None same = tt
both_same R (Some x) same = same x

pub changes_same : (file : ℕ) (R : Option (List ℕ) → Option (List ℕ) → Type 0) (x : Image) → R (x file) (x file) → Changes file R x x
changes_same file R x same = record { here = same; others = λ f apart. refl }

pub crashes_same : {D : Type 0} (words : DiskWords D) (disk : D) (R : Image → Image → Type 0) → ((x : Image) → R x x) → Crashes words disk disk R
crashes_same words disk R same = record { later = omega arith; now = λ x may. (x, may, same x); since = λ t x le may. inl may }
