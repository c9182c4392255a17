-- The first log and the first root are written.
use Rattle.std.proofs.Common.{◌≡◌, inl, inr, ⊎_elim, ℕ, List, [], Option, Some, None, refl, sym, ◌∙◌, ap, subst, arith}
use Rattle.chunk_store.specs.Images.{Both, Changes, Image, Told}
use Rattle.chunk_store.specs.Calls.{Crashes, IsSynced}
use Rattle.chunk_store.specs.declared.disk.Disk.{Ghosts as DiskWords}
use Rattle.chunk_store.proofs.Told.{both_then, told_after, told_by}
use Rattle.chunk_store.proofs.Weaker.{crashes_by, goes_on}
use Rattle.gate_log.specs.Logs.{Stands as LogStands, quiet_log}
use Rattle.gate_log.proofs.Standing.{gives_records}
use Rattle.root_slots.specs.Roots.{Replaces, Replacing, Stands as RootStands, Steps}
use Rattle.root_slots.specs.Slots.{ChangesSlots, IsRoot, Slot, Slots, slots_of}
use Rattle.root_slots.specs.declared.root.Root.{Root}
use Rattle.root_slots.specs.declared.state.RootState.{RootState}
use Rattle.root_slots.proofs.Standing.{root_leaves}
use Rattle.store_keep.specs.steps.Beginnings.{Begins, MayBegin}

slots_kept : (R : Option (List ℕ) → Option (List ℕ) → Type 0) (d x : Image) → Changes 2 R d x → slots_of x ≡ slots_of d
slots_kept R d x changes =
    ap (λ (f : Option (List ℕ)). record { zeroth = f; first = x 1 }) (changes.others 0 (λ (e : 0 ≡ 2). absurd (omega (arith, e))))
    ∙ ap (λ (f : Option (List ℕ)). record { zeroth = d 0; first = f }) (changes.others 1 (λ (e : 1 ≡ 2). absurd (omega (arith, e))))

stands_kept : (R : Option (List ℕ) → Option (List ℕ) → Type 0) (root : Root) (d x : Image) → Changes 2 R d x → RootStands root None None (slots_of d) → RootStands root None None (slots_of x)
stands_kept R root d x changes stands = subst (λ (s : Slots). RootStands root None None s) (sym (slots_kept R d x changes)) stands

closed_slots : (root : Root) (x : Image) → RootStands root None None (slots_of x) → IsRoot None (slots_of x)
closed_slots root x stands = root_leaves root None None (slots_of x) stands

-- the root may be replaced once the log is there
pub may_replace : (R : Option (List ℕ) → Option (List ℕ) → Type 0) (root : Root) (old mid : Option Image) → Told (λ image. RootStands root None None (slots_of image)) old → Both (Changes 2 R) old mid
    → Told (λ image. (own : Option Slot) × (doubt : Option Slot) × RootStands root own doubt (slots_of image)) mid
may_replace R root old mid told made =
    told_by {R = Changes 2 R} {P = λ image. RootStands root None None (slots_of image)} {Q = λ image. (own : Option Slot) × (doubt : Option Slot) × RootStands root own doubt (slots_of image)} old mid made told (λ d x stands changes. (None, None, stands_kept _ root d x changes stands))

-- what making the log may leave
pub log_leaves : {D : Type 0} (words : DiskWords D) (root : Root) (state : RootState) (old new : D) → Crashes words old new (Changes 2 (λ old new. Unit {0})) → Crashes words old new (MayBegin root state)
log_leaves words root state old new crashes = crashes_by words old new {R = Changes 2 (λ old new. Unit {0})} {S = MayBegin root state} (λ d x left changes stands. inl (closed_slots root x (stands_kept _ root d x changes stands))) crashes

log_there : {D : Type 0} (words : DiskWords D) (old mid : D) → Both (Changes 2 (λ old new. LogStands (quiet_log 2 0 None) [] None new)) (words.told old) (words.told mid) → IsSynced 2 (words.told mid) (words.may_leave mid)
    → ((x : Image) → words.may_leave mid x → (image : Image) × (words.told mid ≡ Some image)) → (e : Image) → words.may_leave mid e → LogStands (quiet_log 2 0 None) [] None (e 2)
log_there words old mid made synced tells e left =
    let i = tells e left in
    let here : LogStands (quiet_log 2 0 None) [] None (i.0 2) = told_after {R = Changes 2 (λ old new. LogStands (quiet_log 2 0 None) [] None new)} {Q = λ image. LogStands (quiet_log 2 0 None) [] None (image 2)} (words.told old) (words.told mid) made (λ d x changes. changes.here) i.0 i.1 in
    subst (λ (f : Option (List ℕ)). LogStands (quiet_log 2 0 None) [] None f) (sym (synced i.0 i.1 e left)) here

-- and replacing the root after it
pub root_leaves_it : {D : Type 0} (words : DiskWords D) (root : Root) (state : RootState) (old mid new : D) → Both (Changes 2 (λ old new. LogStands (quiet_log 2 0 None) [] None new)) (words.told old) (words.told mid) → IsSynced 2 (words.told mid) (words.may_leave mid)
    → ((x : Image) → words.may_leave mid x → (image : Image) × (words.told mid ≡ Some image)) → Crashes words old mid (Changes 2 (λ old new. Unit {0})) → Crashes words mid new (ChangesSlots (Replacing root state)) → Crashes words old new (MayBegin root state)
root_leaves_it words root state old mid new made synced tells first second =
    goes_on words old mid new {Q = Changes 2 (λ old new. Unit {0})} {S = ChangesSlots (Replacing root state)} {T = MayBegin root state} (log_leaves words root state old mid first) first.now second
    (λ d e x left_d left_e changes replaces stands.
    let log : LogStands (quiet_log 2 0 None) [] None (x 2) = subst (λ (f : Option (List ℕ)). LogStands (quiet_log 2 0 None) [] None f) (sym (replaces.others 2 (omega arith))) (log_there words old mid made synced tells e left_e) in
    ⊎_elim (λ none. inl none) (λ new. inr (new, gives_records (quiet_log 2 0 None) [] (x 2) refl log)) (replaces.here None None (stands_kept _ root d e changes stands)))

-- both are there
pub both_begin : {D : Type 0} (words : DiskWords D) (root : Root) (state : RootState) (old mid new : D) → Both (Changes 2 (λ old new. LogStands (quiet_log 2 0 None) [] None new)) (words.told old) (words.told mid) → IsSynced 2 (words.told mid) (words.may_leave mid)
    → ((x : Image) → words.may_leave mid x → (image : Image) × (words.told mid ≡ Some image)) → Crashes words old mid (Changes 2 (λ old new. Unit {0})) → Steps words (ChangesSlots (Replaces root state)) mid new → Steps words (Begins root state) old new
both_begin words root state old mid new made synced tells first steps = record {
  told = both_then {R = Changes 2 (λ old new. LogStands (quiet_log 2 0 None) [] None new)} {S = ChangesSlots (Replaces root state)} {T = Begins root state} (words.told old) (words.told mid) (words.told new)
      (λ d e x changes replaces. record {
        root_is = λ stands. replaces.here None None (stands_kept _ root d e changes stands);
        log_is = subst (λ (f : Option (List ℕ)). LogStands (quiet_log 2 0 None) [] None f) (sym (replaces.others 2 (omega arith))) changes.here;
      }) made steps.told;
  left = λ x left.
      let e = steps.left x left in
      let d = first.now e.0 e.1 in (
        d.0,
        d.1,
        record {
          root_is = λ stands. e.2.here None None (stands_kept _ root d.0 e.0 d.2 stands);
          log_is = subst (λ (f : Option (List ℕ)). LogStands (quiet_log 2 0 None) [] None f) (sym (e.2.others 2 (omega arith))) (log_there words old mid made synced tells e.0 e.1);
        },
      );
}
