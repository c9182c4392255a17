-- What replacing a slot makes of the two.
use Rattle.std.proofs.Common.{◌≡◌, ◌⊎◌, inl, inr, ℕ, ◌+◌, ◌<◌, ◌≤◌, Bool, true, false, Option, Some, None, refl, sym, ap, subst, arith}
use Rattle.chunk_store.specs.Images.{Changes, Image}
use Rattle.chunk_store.specs.declared.disk.Disk.{Ghosts as DiskWords}
use Rattle.chunk_store.specs.Calls.{Crashes}
use Rattle.chunk_store.proofs.Weaker.{both_by, crashes_by}
use Rattle.root_slots.specs.Roots.{Doubts, Failing, Leaves, Replaces, Replacing, Stands, Stays, Steps, next, replaced_in}
use Rattle.root_slots.specs.Slots.{ChangesSlots, IsClosed, IsOpen, IsRoot, Slot, Slots, slots_of}
use Rattle.root_slots.specs.declared.root.Holder.{Holder}
use Rattle.root_slots.specs.declared.root.Holder.TheVariants.{Neither, Zeroth, First}
use Rattle.root_slots.specs.declared.root.Root.{Root}
use Rattle.root_slots.specs.declared.state.RootState.{RootState}
use Rattle.root_slots.specs.steps.Gates.{SlotFailing, SlotReplaced, SlotReplacing, ToDoubt}
use Rattle.root_slots.proofs.Standing.{File, both, held_is, older_stays, own_left, stand_leaves, unused_closed}

-- ---- from one file to two

pub slots_zeroth : (R : File → File → Type 0) (S : Slots → Slots → Type 0) (d x : Image) → ((z z' f : File) → R z z' → S (both z f) (both z' f)) → Changes 0 R d x → ChangesSlots S d x
slots_zeroth R S d x step changes = record {
  here = subst (λ (f : File). S (slots_of d) (both (x 0) f)) (sym (changes.others 1 (λ is. absurd (omega (arith, is))))) (step (d 0) (x 0) (d 1) changes.here);
  others = λ f low. changes.others f (λ is. absurd (omega (arith, low, is)));
}

pub slots_first : (R : File → File → Type 0) (S : Slots → Slots → Type 0) (d x : Image) → ((z f f' : File) → R f f' → S (both z f) (both z f')) → Changes 1 R d x → ChangesSlots S d x
slots_first R S d x step changes = record {
  here = subst (λ (z : File). S (slots_of d) (both z (x 1))) (sym (changes.others 0 (λ is. absurd (omega (arith, is))))) (step (d 0) (d 1) (x 1) changes.here);
  others = λ f low. changes.others f (λ is. absurd (omega (arith, low, is)));
}

pub steps_by : {D : Type 0} (words : DiskWords D) (old new : D) {R S : Image → Image → Type 0} → ((d x : Image) → R d x → S d x) → Steps words R old new → Steps words S old new
steps_by words old new step steps = record {
  told = both_by (words.told old) (words.told new) (λ d x told r. step d x r) steps.told;
  left = λ x may. let from = steps.left x may in (from.0, from.1, step from.0 x from.2);
}

-- ---- one holder

abbrev root_at : Holder → ℕ → Bool → Bool → Root
root_at holder number zs fs = record { holder = holder; number = number; zeroth_shut = zs; first_shut = fs }

abbrev newer : ℕ → RootState → Slot
newer n state = record { number = n + 1; state = state }

same_number : (s t : Slot) → Some s ≡ Some t → s.number ≡ t.number
same_number s t is = ap (λ (o : Option Slot). number_in o) is
  where
    number_in : Option Slot → ℕ
    number_in None = 0
    number_in (Some u) = u.number

stays_more : (shut : Bool) (a b : ℕ) (file : File) → a ≤ b → Stays shut a None file → Stays shut b None file
stays_more true a b file le stays = stays
stays_more false a b file le (inl short) = inl short
stays_more false a b file le (inr (s, holds, inl lt)) = inr (s, holds, inl (omega (arith, lt, le)))
stays_more false a b file le (inr (s, holds, inr is)) = absurd (cc is)

stays_open : (s : Slot) (shut : Bool) (bound : ℕ) (file : File) → shut ≡ false → s.number < bound → IsOpen s file → Stays shut bound None file
stays_open s shut bound file is lt was = subst (λ (b : Bool). Stays b bound None file) (sym is) (older_stays s bound file lt was)

module _ (n : ℕ) (zs fs : Bool) (state : RootState) where
  -- once it is replaced
  pub done_neither : (after : Bool) → after ≡ false → (z z' f : File) → SlotReplaced zs (newer n state) z z' → (own doubt : Option Slot) → Stands (root_at Neither n zs fs) own doubt (both z f)
      → Stands (root_at Zeroth (n + 1) after fs) (Some (newer n state)) None (both z' f)
  done_neither after shut z z' f step None doubt stands = record {
    used = λ s is. omega (arith, same_number (newer n state) s is);
    slots_are = (shut, step 0 doubt stands.slots_are.0, stays_more fs 0 (n + 1 + 1) f (omega arith) stands.slots_are.1);
  }
  done_neither after shut z z' f step (Some s) doubt stands = absurd stands.slots_are

  pub done_first : (after : Bool) → after ≡ false → (z z' f : File) → SlotReplaced zs (newer n state) z z' → (own doubt : Option Slot) → Stands (root_at First n zs fs) own doubt (both z f)
      → Stands (root_at Zeroth (n + 1) after fs) (Some (newer n state)) None (both z' f)
  done_first after shut z z' f step None doubt stands = absurd stands.slots_are
  done_first after shut z z' f step (Some s) doubt stands = record {
    used = λ t is. omega (arith, same_number (newer n state) t is);
    slots_are = (shut, step s.number doubt stands.slots_are.2, stays_open s fs (n + 1 + 1) f stands.slots_are.0 (omega (arith, stands.used s refl)) stands.slots_are.1);
  }

  pub done_zeroth : (after : Bool) → after ≡ false → (z f f' : File) → SlotReplaced fs (newer n state) f f' → (own doubt : Option Slot) → Stands (root_at Zeroth n zs fs) own doubt (both z f)
      → Stands (root_at First (n + 1) zs after) (Some (newer n state)) None (both z f')
  done_zeroth after shut z f f' step None doubt stands = absurd stands.slots_are
  done_zeroth after shut z f f' step (Some s) doubt stands = record {
    used = λ t is. omega (arith, same_number (newer n state) t is);
    slots_are = (shut, step (s.number + 1) doubt stands.slots_are.2, stays_open s zs (n + 1) z stands.slots_are.0 (omega (arith, stands.used s refl)) stands.slots_are.1);
  }

  -- while it is replaced
  pub during_neither : (z z' f : File) → SlotReplacing zs (newer n state) z z' → (own doubt : Option Slot) → Stands (root_at Neither n zs fs) own doubt (both z f) → Leaves own doubt (both z' f) ⊎ IsRoot (Some (newer n state)) (both z' f)
  during_neither z z' f step None doubt stands =
      let first : IsClosed f = unused_closed fs f stands.slots_are.1 in
      elim (step 0 doubt stands.slots_are.0) [
        | inl stays ↦ inl (stand_leaves Neither zs fs None doubt z' f (stays, stands.slots_are.1))
        | inr (inl shut) ↦ inl (own_left None doubt (both z' f) (inr shut, first))
        | inr (inr holds) ↦ elim (held_is (newer n state) z' holds) [
          | inl shut ↦ inl (own_left None doubt (both z' f) (inr shut, first))
          | inr was ↦ inr (inl (was, inl first))
        ]
      ]
  during_neither z z' f step (Some s) doubt stands = absurd stands.slots_are

  pub during_first : (z z' f : File) → SlotReplacing zs (newer n state) z z' → (own doubt : Option Slot) → Stands (root_at First n zs fs) own doubt (both z f) → Leaves own doubt (both z' f) ⊎ IsRoot (Some (newer n state)) (both z' f)
  during_first z z' f step None doubt stands = absurd stands.slots_are
  during_first z z' f step (Some s) doubt stands =
      let was : IsOpen s f = stands.slots_are.1 in
      elim (step s.number doubt stands.slots_are.2) [
        | inl stays ↦ inl (stand_leaves First zs fs (Some s) doubt z' f (stands.slots_are.0, was, stays))
        | inr (inl shut) ↦ inl (own_left (Some s) doubt (both z' f) (inr (was, inl (inr shut))))
        | inr (inr holds) ↦ elim (held_is (newer n state) z' holds) [
          | inl shut ↦ inl (own_left (Some s) doubt (both z' f) (inr (was, inl (inr shut))))
          | inr now ↦ inr (inl (now, inr (s, omega (arith, stands.used s refl), was)))
        ]
      ]

  pub during_zeroth : (z f f' : File) → SlotReplacing fs (newer n state) f f' → (own doubt : Option Slot) → Stands (root_at Zeroth n zs fs) own doubt (both z f) → Leaves own doubt (both z f') ⊎ IsRoot (Some (newer n state)) (both z f')
  during_zeroth z f f' step None doubt stands = absurd stands.slots_are
  during_zeroth z f f' step (Some s) doubt stands =
      let was : IsOpen s z = stands.slots_are.1 in
      elim (step (s.number + 1) doubt stands.slots_are.2) [
        | inl stays ↦ inl (stand_leaves Zeroth zs fs (Some s) doubt z f' (stands.slots_are.0, was, stays))
        | inr (inl shut) ↦ inl (own_left (Some s) doubt (both z f') (inl (was, inl (inr shut))))
        | inr (inr holds) ↦ elim (held_is (newer n state) f' holds) [
          | inl shut ↦ inl (own_left (Some s) doubt (both z f') (inl (was, inl (inr shut))))
          | inr now ↦ inr (inr (now, inr (s, omega (arith, stands.used s refl), was)))
        ]
      ]

  -- after an error
  pub fails_neither : (after : Bool) (doubt later : Option Slot) (z z' f : File) → ToDoubt zs after doubt later z z' → (own : Option Slot) → Stands (root_at Neither n zs fs) own doubt (both z f) → Stands (root_at Neither (n + 1) after fs) own later (both z' f)
  fails_neither after doubt later z z' f step None stands = record { used = λ s is. absurd (cc is); slots_are = (step 0 stands.slots_are.0, stands.slots_are.1) }
  fails_neither after doubt later z z' f step (Some s) stands = absurd stands.slots_are

  pub fails_first : (after : Bool) (doubt later : Option Slot) (z z' f : File) → ToDoubt zs after doubt later z z' → (own : Option Slot) → Stands (root_at First n zs fs) own doubt (both z f) → Stands (root_at First (n + 1) after fs) own later (both z' f)
  fails_first after doubt later z z' f step None stands = absurd stands.slots_are
  fails_first after doubt later z z' f step (Some s) stands = record { used = λ t is. omega (arith, stands.used t is); slots_are = (stands.slots_are.0, stands.slots_are.1, step s.number stands.slots_are.2) }

  pub fails_zeroth : (after : Bool) (doubt later : Option Slot) (z f f' : File) → ToDoubt fs after doubt later f f' → (own : Option Slot) → Stands (root_at Zeroth n zs fs) own doubt (both z f) → Stands (root_at Zeroth (n + 1) zs after) own later (both z f')
  fails_zeroth after doubt later z f f' step None stands = absurd stands.slots_are
  fails_zeroth after doubt later z f f' step (Some s) stands = record { used = λ t is. omega (arith, stands.used t is); slots_are = (stands.slots_are.0, stands.slots_are.1, step (s.number + 1) stands.slots_are.2) }

-- ---- a root, by its holder

abbrev at_holder : Root → Holder → Root
at_holder root holder = record { holder = holder; number = root.number; zeroth_shut = root.zeroth_shut; first_shut = root.first_shut }

abbrev Done : Root → RootState → Slots → Slots → Holder → Type 0
Done root state old new holder = (own doubt : Option Slot) → Stands (at_holder root holder) own doubt old → Stands (replaced_in holder (at_holder root holder)) (Some (next root state)) None new

abbrev During : Root → RootState → Slots → Slots → Holder → Type 0
During root state old new holder = (own doubt : Option Slot) → Stands (at_holder root holder) own doubt old → Leaves own doubt new ⊎ IsRoot (Some (next root state)) new

-- the root after an error
abbrev pub zeroth_failed : Root → Bool → Root
zeroth_failed root shut = record { holder = root.holder; number = root.number + 1; zeroth_shut = shut; first_shut = root.first_shut }

abbrev pub first_failed : Root → Bool → Root
first_failed root shut = record { holder = root.holder; number = root.number + 1; zeroth_shut = root.zeroth_shut; first_shut = shut }

module _ {D : Type 0} (words : DiskWords D) (old new : D) (root : Root) (state : RootState) where
  pub stands_zeroth : root.holder ≡ Zeroth → Steps words (Changes 1 (SlotReplaced root.first_shut (next root state))) old new → Steps words (ChangesSlots (Replaces root state)) old new
  stands_zeroth is steps = steps_by words old new (λ d x changes. slots_first (SlotReplaced root.first_shut (next root state)) (Replaces root state) d x
      (λ z f f' step. subst (Done root state (both z f) (both z f')) (sym is) (done_zeroth root.number root.zeroth_shut root.first_shut state false refl z f f' step)) changes) steps

  pub stands_first : root.holder ≡ First → Steps words (Changes 0 (SlotReplaced root.zeroth_shut (next root state))) old new → Steps words (ChangesSlots (Replaces root state)) old new
  stands_first is steps = steps_by words old new (λ d x changes. slots_zeroth (SlotReplaced root.zeroth_shut (next root state)) (Replaces root state) d x
      (λ z z' f step. subst (Done root state (both z f) (both z' f)) (sym is) (done_first root.number root.zeroth_shut root.first_shut state false refl z z' f step)) changes) steps

  pub stands_neither : root.holder ≡ Neither → Steps words (Changes 0 (SlotReplaced root.zeroth_shut (next root state))) old new → Steps words (ChangesSlots (Replaces root state)) old new
  stands_neither is steps = steps_by words old new (λ d x changes. slots_zeroth (SlotReplaced root.zeroth_shut (next root state)) (Replaces root state) d x
      (λ z z' f step. subst (Done root state (both z f) (both z' f)) (sym is) (done_neither root.number root.zeroth_shut root.first_shut state false refl z z' f step)) changes) steps

  pub crash_zeroth : root.holder ≡ Zeroth → Crashes words old new (Changes 1 (SlotReplacing root.first_shut (next root state))) → Crashes words old new (ChangesSlots (Replacing root state))
  crash_zeroth is crashes = crashes_by words old new (λ d x may changes. slots_first (SlotReplacing root.first_shut (next root state)) (Replacing root state) d x
      (λ z f f' step. subst (During root state (both z f) (both z f')) (sym is) (during_zeroth root.number root.zeroth_shut root.first_shut state z f f' step)) changes) crashes

  pub crash_first : root.holder ≡ First → Crashes words old new (Changes 0 (SlotReplacing root.zeroth_shut (next root state))) → Crashes words old new (ChangesSlots (Replacing root state))
  crash_first is crashes = crashes_by words old new (λ d x may changes. slots_zeroth (SlotReplacing root.zeroth_shut (next root state)) (Replacing root state) d x
      (λ z z' f step. subst (During root state (both z f) (both z' f)) (sym is) (during_first root.number root.zeroth_shut root.first_shut state z z' f step)) changes) crashes

  pub crash_neither : root.holder ≡ Neither → Crashes words old new (Changes 0 (SlotReplacing root.zeroth_shut (next root state))) → Crashes words old new (ChangesSlots (Replacing root state))
  crash_neither is crashes = crashes_by words old new (λ d x may changes. slots_zeroth (SlotReplacing root.zeroth_shut (next root state)) (Replacing root state) d x
      (λ z z' f step. subst (During root state (both z f) (both z' f)) (sym is) (during_neither root.number root.zeroth_shut root.first_shut state z z' f step)) changes) crashes

  pub failing_zeroth : root.holder ≡ Zeroth → (shut : Bool) (doubt : Option Slot) → SlotFailing words 1 root.first_shut shut doubt (next root state) old new → Failing words root (first_failed root shut) doubt state old new
  failing_zeroth is shut doubt failing = record {
    later = failing.later;
    which = failing.which;
    stands = steps_by words old new (λ d x changes. slots_first (ToDoubt root.first_shut shut doubt failing.later) (Doubts root (first_failed root shut) doubt failing.later) d x
        (λ z f f' step. subst (λ (h : Holder). (own : Option Slot) → Stands (at_holder root h) own doubt (both z f) → Stands (first_failed (at_holder root h) shut) own failing.later (both z f')) (sym is)
        (fails_zeroth root.number root.zeroth_shut root.first_shut state shut doubt failing.later z f f' step)) changes) failing.stands;
  }

  pub failing_first : root.holder ≡ First → (shut : Bool) (doubt : Option Slot) → SlotFailing words 0 root.zeroth_shut shut doubt (next root state) old new → Failing words root (zeroth_failed root shut) doubt state old new
  failing_first is shut doubt failing = record {
    later = failing.later;
    which = failing.which;
    stands = steps_by words old new (λ d x changes. slots_zeroth (ToDoubt root.zeroth_shut shut doubt failing.later) (Doubts root (zeroth_failed root shut) doubt failing.later) d x
        (λ z z' f step. subst (λ (h : Holder). (own : Option Slot) → Stands (at_holder root h) own doubt (both z f) → Stands (zeroth_failed (at_holder root h) shut) own failing.later (both z' f)) (sym is)
        (fails_first root.number root.zeroth_shut root.first_shut state shut doubt failing.later z z' f step)) changes) failing.stands;
  }

  pub failing_neither : root.holder ≡ Neither → (shut : Bool) (doubt : Option Slot) → SlotFailing words 0 root.zeroth_shut shut doubt (next root state) old new → Failing words root (zeroth_failed root shut) doubt state old new
  failing_neither is shut doubt failing = record {
    later = failing.later;
    which = failing.which;
    stands = steps_by words old new (λ d x changes. slots_zeroth (ToDoubt root.zeroth_shut shut doubt failing.later) (Doubts root (zeroth_failed root shut) doubt failing.later) d x
        (λ z z' f step. subst (λ (h : Holder). (own : Option Slot) → Stands (at_holder root h) own doubt (both z f) → Stands (zeroth_failed (at_holder root h) shut) own failing.later (both z' f)) (sym is)
        (fails_neither root.number root.zeroth_shut root.first_shut state shut doubt failing.later z z' f step)) changes) failing.stands;
  }

-- ---- how the slot that is replaced stands before

abbrev SomeStay : Bool → File → Type 0
SomeStay shut file = (bound : ℕ) × (doubt : Option Slot) × Stays shut bound doubt file

stay_neither : (n : ℕ) (zs fs : Bool) (own doubt : Option Slot) (z f : File) → Stands (root_at Neither n zs fs) own doubt (both z f) → SomeStay zs z
stay_neither n zs fs None doubt z f stands = (0, doubt, stands.slots_are.0)
stay_neither n zs fs (Some s) doubt z f stands = absurd stands.slots_are

stay_zeroth : (n : ℕ) (zs fs : Bool) (own doubt : Option Slot) (z f : File) → Stands (root_at Zeroth n zs fs) own doubt (both z f) → SomeStay fs f
stay_zeroth n zs fs None doubt z f stands = absurd stands.slots_are
stay_zeroth n zs fs (Some s) doubt z f stands = (s.number + 1, doubt, stands.slots_are.2)

stay_first : (n : ℕ) (zs fs : Bool) (own doubt : Option Slot) (z f : File) → Stands (root_at First n zs fs) own doubt (both z f) → SomeStay zs z
stay_first n zs fs None doubt z f stands = absurd stands.slots_are
stay_first n zs fs (Some s) doubt z f stands = (s.number, doubt, stands.slots_are.2)

pub stays_neither : (root : Root) → root.holder ≡ Neither → (own doubt : Option Slot) (slots : Slots) → Stands root own doubt slots → SomeStay root.zeroth_shut slots.zeroth
stays_neither root is own doubt slots stands = stay_neither root.number root.zeroth_shut root.first_shut own doubt slots.zeroth slots.first (subst (λ (h : Holder). Stands (at_holder root h) own doubt slots) is stands)

pub stays_zeroth : (root : Root) → root.holder ≡ Zeroth → (own doubt : Option Slot) (slots : Slots) → Stands root own doubt slots → SomeStay root.first_shut slots.first
stays_zeroth root is own doubt slots stands = stay_zeroth root.number root.zeroth_shut root.first_shut own doubt slots.zeroth slots.first (subst (λ (h : Holder). Stands (at_holder root h) own doubt slots) is stands)

pub stays_first : (root : Root) → root.holder ≡ First → (own doubt : Option Slot) (slots : Slots) → Stands root own doubt slots → SomeStay root.zeroth_shut slots.zeroth
stays_first root is own doubt slots stands = stay_first root.number root.zeroth_shut root.first_shut own doubt slots.zeroth slots.first (subst (λ (h : Holder). Stands (at_holder root h) own doubt slots) is stands)
