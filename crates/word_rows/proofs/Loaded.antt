-- Terms that have read their places in a row.
use Rattle.std.proofs.Common.{◌≡◌, ℕ, ◌+◌, ◌<◌, ◌≤◌, List, Bor, length, get_or, set, map, inl, inr, sym, ap, subst, ◌∙◌, arith, true, [], ◌∷◌}
use Rattle.std.specs.Prelude.{All}
use Rattle.std.specs.List.{AllZip}
use Rattle.std.proofs.lemmas.Bool.{cases_eq}
use Rattle.std.proofs.lemmas.List.{get_or-map, get_or-set_same, get_or-set_other, get_or_default, length-map}
use Rattle.std.proofs.lemmas.List.Elements.{All-nil, All-cons, All-filter, All-weaker}
use Rattle.std.proofs.lemmas.List.Kept.{AllPairs-filter}
use Rattle.doc_types.specs.declared.documents.DocRow.{DocRow}
use Rattle.doc_types.specs.declared.tokens.TheConstants.{MAX_POSITION}
use Rattle.doc_types.specs.Chunks.{hits_of}
use Rattle.query_tree.specs.declared.key.Key.{Key}
use Rattle.occ_lists.specs.declared.term.Term.{Term}
use Rattle.occ_lists.specs.Places.{ArePlaces, is_before}
use Rattle.occ_lists.specs.Terms.{IsPlaced}
use Rattle.word_rows.specs.Keywords.{allows, key_places}
use Rattle.word_rows.specs.Slots.{IsTermFor}
use Rattle.word_rows.specs.Terms.{IsSeenIn, IsTermOf}
use Rattle.word_rows.proofs.PlacedRows.{IsHit, IsPlacedRow, are_hits, hits_ascend}
use Rattle.word_rows.proofs.Zipped.{zip_at, zip_by_place, zip_length}

pub seen_still : (row : DocRow) (key : Key) (old new : Term) → new ≡ record old { places = new.places } → IsSeenIn row key old → IsSeenIn row key new
seen_still row key old new same seen = record {
  present = ap (λ (term : Term). term.present) same ∙ seen.present;
  free = λ free. seen.free (sym (ap (λ (term : Term). term.free) same) ∙ free);
}

for_still : (rows : List DocRow) (number : List ℕ → ℕ) (key : Key) (old new : Term) → new ≡ record old { places = new.places } → IsTermFor rows number key old → IsTermFor rows number key new
for_still rows number key old new same is = record {
  query = ap (λ (term : Term). term.query) same ∙ is.query;
  word = ap (λ (term : Term). term.word) same ∙ is.word;
  free = λ free. is.free (sym (ap (λ (term : Term). term.free) same) ∙ free);
}

of_loaded : (rows : List DocRow) (number : List ℕ → ℕ) (row : DocRow) (key : Key) (old new : Term) → new ≡ record old { places = new.places } → IsTermFor rows number key old → new.places.items ≡ key_places row key → IsTermOf row number key new
of_loaded rows number row key old new same is places = record {
  query = ap (λ (term : Term). term.query) same ∙ is.query;
  word = ap (λ (term : Term). term.word) same ∙ is.word;
  places = places;
}

module _ (rows : List DocRow) (number : List ℕ → ℕ) (keys : List (Bor Key)) (old new : List Term) (long : length new ≡ length old) (same : (k : ℕ) (d : Term) → get_or new k d ≡ record (get_or old k d) { places = (get_or new k d).places }) (are : AllZip (IsTermFor rows number) (map (λ key. key.now) keys) old) where
  as_many : length (map (λ (key : Bor Key). key.now) keys) ≡ length old
  as_many = zip_length (IsTermFor rows number) (map (λ (key : Bor Key). key.now) keys) old are

  pub still_for : AllZip (IsTermFor rows number) (map (λ (key : Bor Key). key.now) keys) new
  still_for = zip_by_place (IsTermFor rows number) (map (λ (key : Bor Key). key.now) keys) new (omega (arith, as_many, long)) (λ i d e within.
      for_still rows number (get_or (map (λ (key : Bor Key). key.now) keys) i d) (get_or old i e) (get_or new i e) (same i e) (zip_at (IsTermFor rows number) (map (λ (key : Bor Key). key.now) keys) old i d e are within))

  pub are_loaded : (row : DocRow) → ((k : ℕ) (d : Term) (key : Bor Key) → k < length old → (get_or new k d).places.items ≡ key_places row (get_or keys k key).now) → AllZip (IsTermOf row number) (map (λ (key : Bor Key). key.now) keys) new
  are_loaded row places = zip_by_place (IsTermOf row number) (map (λ (key : Bor Key). key.now) keys) new (omega (arith, as_many, long)) (λ i d e within.
      let ref : Bor Key = record { ref_ptr = (0, 0); now = d } in
      let inside : i < length keys = omega (arith, within, length-map keys (λ (key : Bor Key). key.now)) in
      let key_is : get_or (map (λ (key : Bor Key). key.now) keys) i d ≡ (get_or keys i ref).now = get_or-map (λ (key : Bor Key). key.now) keys i ref d inside in
      of_loaded rows number row (get_or (map (λ (key : Bor Key). key.now) keys) i d) (get_or old i e) (get_or new i e) (same i e)
      (zip_at (IsTermFor rows number) (map (λ (key : Bor Key). key.now) keys) old i d e are within)
      (places i e ref (omega (arith, within, as_many)) ∙ ap (key_places row) (sym key_is)))

-- ---- places in order
module _ (row : DocRow) (placed : IsPlacedRow row) where
  ascend : (key : Key) → ArePlaces (key_places row key)
  ascend key = AllPairs-filter (λ place later. is_before place later ≡ true) (allows row key) (hits_of key.word row) (hits_ascend key.word row placed)

  small : (key : Key) → All (λ place. (1 ≤ place.1) × (place.1 ≤ MAX_POSITION)) (key_places row key)
  small key = All-filter (allows row key) (λ place. (1 ≤ place.1) × (place.1 ≤ MAX_POSITION)) (hits_of key.word row)
      (All-weaker (IsHit row) (λ place. (1 ≤ place.1) × (place.1 ≤ MAX_POSITION)) (λ place hit. (hit.low, hit.high)) (hits_of key.word row) (are_hits key.word row placed))

  one_placed : (number : List ℕ → ℕ) (key : Key) (term : Term) → IsTermOf row number key term → IsPlaced term
  one_placed number key term is = record {
    ascend = subst ArePlaces (sym is.places) (ascend key);
    small = subst (All (λ place. (1 ≤ place.1) × (place.1 ≤ MAX_POSITION))) (sym is.places) (small key);
  }

  pub all_placed : (number : List ℕ → ℕ) (keys : List Key) (terms : List Term) → AllZip (IsTermOf row number) keys terms → All IsPlaced terms
  all_placed number [] [] are = All-nil IsPlaced
  all_placed number [] (term ∷ terms) are = absurd are
  all_placed number (key ∷ keys) [] are = absurd are
  all_placed number (key ∷ keys) (term ∷ terms) are = All-cons IsPlaced term terms (one_placed number key term are.0) (all_placed number keys terms are.1)

-- ---- one term more is read, with its places alone
module _ (at : ℕ) (first terms : List Term) (new : Term) (within : at < length terms)
    (same : (k : ℕ) (d : Term) → get_or terms k d ≡ record (get_or first k d) { places = (get_or terms k d).places })
    (its : (d : Term) → new ≡ record (get_or terms at d) { places = new.places }) where
  pub same_more : (k : ℕ) (d : Term) → get_or (set terms at new) k d ≡ record (get_or first k d) { places = (get_or (set terms at new) k d).places }
  same_more k d =
      elim (cases_eq k at) [
        | inl here ↦
            subst (λ (n : ℕ). get_or (set terms at new) n d ≡ record (get_or first n d) { places = (get_or (set terms at new) n d).places }) (sym here)
            (subst (λ (t : Term). t ≡ record (get_or first at d) { places = t.places }) (sym (get_or-set_same terms at new d within))
            (its d ∙ ap (λ (t : Term). record t { places = new.places }) (same at d)))
        | inr other ↦
            subst (λ (t : Term). t ≡ record (get_or first k d) { places = t.places }) (sym (get_or-set_other terms at k new d other)) (same k d)
      ]

  pub done_more : (row : DocRow) (keys : List (Bor Key)) (key : Bor Key) → key ≡ get_or keys at key → new.places.items ≡ key_places row key.now → ((k : ℕ) (d : Term) (e : Bor Key) → k < at → (get_or terms k d).places.items ≡ key_places row (get_or keys k e).now) → (long : at < length keys) → (k : ℕ) (d : Term) (e : Bor Key) → k < at + 1 → (get_or (set terms at new) k d).places.items ≡ key_places row (get_or keys k e).now
  done_more row keys key is read done long k d e below =
      elim (cases_eq k at) [
        | inl here ↦
            subst (λ (n : ℕ). (get_or (set terms at new) n d).places.items ≡ key_places row (get_or keys n e).now) (sym here)
            (ap (λ (t : Term). t.places.items) (get_or-set_same terms at new d within)
            ∙ read
            ∙ ap (λ (b : Bor Key). key_places row b.now) (is ∙ get_or_default keys at key e long))
        | inr other ↦ ap (λ (t : Term). t.places.items) (get_or-set_other terms at k new d other) ∙ done k d e (omega (arith, other))
      ]
