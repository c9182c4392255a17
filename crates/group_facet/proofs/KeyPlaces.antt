-- Entries that are found and written by their place.
use Rattle.std.proofs.Common.{◌≡◌, ◌∙◌, ℕ, ℤ, Bool, true, false, cond, if◌then◌else◌, List, [], ◌∷◌, None, Some, position, slice_get, refl, sym, ap, is_some, true≢false}
use Rattle.std.specs.List.{IsDistinct}
use Rattle.std.specs.Map.{keys_of, values_of, lookup, set_value}
use Rattle.std.specs.Ordering.{int_eq}
use Rattle.std.proofs.lemmas.Cmp.{int_eq_equiv}
use Rattle.indexmap.specs.IndexMap.{insert_entry, set_value_at}
use Rattle.indexmap.proofs.MapLemmas.{Found-position, Missing-position, index-first, insert_entry-first}
use Rattle.indexmap.proofs.RemoveLemmas.{own_first}

-- an entry of a key is the first of it
pub place_is : {X : Type 0} (es : List (ℤ × X)) (i : ℕ) (k : ℤ) (v : X) → IsDistinct int_eq (keys_of es) → slice_get es i ≡ Some (k, v) → position (int_eq k) (keys_of es) ≡ Some i
place_is es i k v apart at = index-first (int_eq k) es i (own_first int_eq int_eq_equiv es i k v apart at)

-- a value put in again is one that is set
put_again : {X : Type 0} (k : ℤ) (es : List (ℤ × X)) (v w : X) → lookup (int_eq k) es ≡ Some v → insert_entry int_eq es k w ≡ set_value (int_eq k) es w
put_again k [] v w found = absurd (true≢false (sym (ap is_some found)))
put_again k (e ∷ es) v w found = by (int_eq k e.0) refl (put_again k es v w)
  where
    by : (b : Bool) → int_eq k e.0 ≡ b → (lookup (int_eq k) es ≡ Some v → insert_entry int_eq es k w ≡ set_value (int_eq k) es w) → insert_entry int_eq (e ∷ es) k w ≡ set_value (int_eq k) (e ∷ es) w
    by true is rest =
        ap (λ b. if b then (e.0, w) ∷ es else e ∷ insert_entry int_eq es k w) is ∙ sym (ap (λ b. cond b ((e.0, w) ∷ es) (e ∷ set_value (int_eq k) es w)) is)
    by false is rest =
        ap (λ b. if b then (e.0, w) ∷ es else e ∷ insert_entry int_eq es k w) is
        ∙ ap (λ l. e ∷ l) (rest (sym (ap (λ b. cond b (Some e.1) (lookup (int_eq k) es)) is) ∙ found))
        ∙ sym (ap (λ b. cond b ((e.0, w) ∷ es) (e ∷ set_value (int_eq k) es w)) is)

module _ {X : Type 0} (es : List (ℤ × X)) (i : ℕ) (k : ℤ) (at : position (int_eq k) (keys_of es) ≡ Some i) where
  -- the value at a key's place is the key's
  pub found_at : (v : X) → slice_get (values_of es) i ≡ Some v → lookup (int_eq k) es ≡ Some v
  found_at v there = (Found-position (int_eq k) es i at).value ∙ there

  -- and a write there sets it
  pub set_at : (v w : X) → slice_get (values_of es) i ≡ Some v → set_value_at es i w ≡ set_value (int_eq k) es w
  set_at v w there = sym (insert_entry-first int_eq k w es i (Found-position (int_eq k) es i at).first) ∙ put_again k es v w (found_at v there)

-- a key without a place isn't there
pub none_at : {X : Type 0} (es : List (ℤ × X)) (k : ℤ) → position (int_eq k) (keys_of es) ≡ None → lookup (int_eq k) es ≡ None
none_at es k missing = (Missing-position (int_eq k) es missing).value
