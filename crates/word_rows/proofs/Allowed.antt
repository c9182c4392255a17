-- The places of a word that a keyword's limits and marks allow.
use Rattle.std.proofs.Common.{◌≡◌, ℕ, zero, suc, map, slice_get, ◌<◌, Bool, true, false, List, [], ◌∷◌, length, get_or, refl, ap, ◌∙◌, arith}
use Rattle.std.specs.Prelude.{All, ◌&&◌, ◌||◌, ◌==◌, not, nat_le}
use Rattle.std.specs.List.{filter, list_any, AllZip}
use Rattle.std.specs.Option.{option_map_or}
use Rattle.std.proofs.lemmas.Bool.{le-leb}
use Rattle.std.proofs.lemmas.Bool.Decides.{nat_tests}
use Rattle.std.proofs.lemmas.Option.{slice_get_within}
use Rattle.std.proofs.lemmas.List.Elements.{All-weaker}
use Rattle.doc_types.specs.declared.documents.DocRow.{DocRow}
use Rattle.doc_types.specs.declared.tokens.ZoneSpan.{ZoneSpan}
use Rattle.doc_types.specs.declared.tokens.FieldTokens.{FieldTokens}
use Rattle.doc_types.specs.Chunks.{IsContent, hits_of, last_position, spans_of}
use Rattle.query_tree.specs.declared.key.Key.{Key}
use Rattle.occ_lists.specs.declared.occ.Occ.{Occ}
use Rattle.occ_lists.specs.declared.term.Term.{Term}
use Rattle.occ_lists.specs.Places.{holds}
use Rattle.occ_lists.proofs.Members.{any_filter, any_map}
use Rattle.word_rows.specs.Keywords.{Spans, allows, has_field, in_zones, is_among, is_first, is_last, key_places}
use Rattle.word_rows.specs.RowMarks.{has_zones}
use Rattle.word_rows.specs.steps.Loading.{Covers, in_some, is_allowed, is_at_ends, is_last_of, listed_in, occ_of}
use Rattle.word_rows.specs.steps.Cursors.{IsMadeFor, IsUnlimited}
use Rattle.word_rows.specs.Slots.{IsTermFor}
use Rattle.word_rows.proofs.Lists.{filter_alike, filter_whole}
use Rattle.word_rows.proofs.PlacedRows.{IsHit, IsPlacedRow, are_hits, placed_rows}

module _ (row : DocRow) (key : Key) (count : ℕ) (long : length row.doc.fields ≡ count) (unlimited : IsUnlimited key count) where
  allows_hit : (place : ℕ × ℕ) → IsHit row place → allows row key place ≡ true
  allows_hit place hit =
      let within : place.0 < count = omega (arith, slice_get_within row.doc.fields place.0 hit.field hit.at, long) in
      let field : has_field key.limit.fields place.0 ≡ true = unlimited.fields place.0 within in
      let position : nat_le place.1 key.limit.positions ≡ true = le-leb place.1 key.limit.positions (omega (arith, hit.high, unlimited.positions)) in
      let zones : in_zones row key.limit.zones place ≡ true = ap (λ zones. in_zones row zones place) unlimited.zones in
      let first : (not key.start || is_first row place) ≡ true = ap (λ b. not b || is_first row place) unlimited.start in
      let last : (not key.end || is_last row place) ≡ true = ap (λ b. not b || is_last row place) unlimited.end in
      rw (field, position, zones, first, last) refl

  pub all_allowed : IsPlacedRow row → filter (allows row key) (hits_of key.word row) ≡ hits_of key.word row
  all_allowed placed = filter_whole (allows row key) (hits_of key.word row) (All-weaker (IsHit row) (λ place. allows row key place ≡ true) allows_hit (hits_of key.word row) (are_hits key.word row placed))

module _ (rows : List DocRow) (number : List ℕ → ℕ) (count : ℕ) (content : ∥ IsContent rows ∥₁) (long : All (λ row. length row.doc.fields ≡ count) rows) where
  term_for : (key : Key) (term : Term) → IsMadeFor number count key term → IsTermFor rows number key term
  term_for key term made = record {
    query = made.query;
    word = made.word;
    free = λ free k d within. all_allowed (get_or rows k d) key count (long k d within) (made.free free) (placed_rows rows content k d within);
  }

  pub terms_for : (keys : List Key) (terms : List Term) → AllZip (IsMadeFor number count) keys terms → AllZip (IsTermFor rows number) keys terms
  terms_for [] [] made = tt
  terms_for [] (term ∷ terms) made = absurd made
  terms_for (key ∷ keys) [] made = absurd made
  terms_for (key ∷ keys) (term ∷ terms) made = (term_for key term made.0, terms_for keys terms made.1)

-- ---- spans that cover places
and_three : (a b c d : Bool) → ((a && (b && c)) && d) ≡ (a && (b && (c && d)))
and_three false b c d = refl
and_three true false c d = refl
and_three true true c d = refl

-- the spans of the zones hold what their occurrences hold
pub listed_cover : (zones : List ℕ) (spans : Spans) (place : ℕ × ℕ) → list_any (λ o. holds o place) (listed_in zones spans) ≡ in_some zones spans place
listed_cover zones spans place =
    any_map (λ o. holds o place) occ_of (filter (λ (span : ℕ × ZoneSpan). is_among zones span.1.zone) spans)
    ∙ any_filter (λ (span : ℕ × ZoneSpan). holds (occ_of span) place) (λ (span : ℕ × ZoneSpan). is_among zones span.1.zone) spans

zones_as_told : (row : DocRow) (zones : List ℕ) (spans : Spans) (cover : List Occ) (place : ℕ × ℕ) → Covers zones spans cover → (list_any (λ (zone : ℕ). true) zones ≡ true → spans ≡ spans_of row) → (not (list_any (λ (zone : ℕ). true) zones) || list_any (λ o. holds o place) cover) ≡ in_zones row zones place
zones_as_told row [] spans cover place covers told = refl
zones_as_told row (zone ∷ zones) spans cover place covers told = covers.holds place ∙ ap (λ all. in_some (zone ∷ zones) all place) (told refl)

first_as_told : (row : DocRow) (place : ℕ × ℕ) → IsHit row place → (place.1 == 1) ≡ is_first row place
first_as_told row place hit =
    let is : is_first row place ≡ (1 == place.1) = rw (hit.at, hit.first) refl in
    grind (arith, nat_tests)

last_at : (position : ℕ) (fields : List FieldTokens) (n : ℕ) → option_map_or (λ last. last == position) (slice_get (map last_position fields) n) false ≡ option_map_or (λ field. last_position field == position) (slice_get fields n) false
last_at position [] n = refl
last_at position (field ∷ fields) zero = refl
last_at position (field ∷ fields) (suc n) = last_at position fields n

last_as_told : (row : DocRow) (lasts : List ℕ) (place : ℕ × ℕ) (end : Bool) → (end ≡ true → lasts ≡ map last_position row.doc.fields) → (not end || is_last_of lasts place) ≡ (not end || is_last row place)
last_as_told row lasts place false told = refl
last_as_told row lasts place true told = ap (λ all. is_last_of all place) (told refl) ∙ last_at place.1 row.doc.fields place.0

module _ (row : DocRow) (key : Key) (spans : Spans) (lasts : List ℕ) (cover : List Occ) (covers : Covers key.limit.zones spans cover)
    (told : has_zones key ≡ true → spans ≡ spans_of row) (ends : key.end ≡ true → lasts ≡ map last_position row.doc.fields) where
  as_told : (place : ℕ × ℕ) → IsHit row place → is_allowed lasts key cover place ≡ allows row key place
  as_told place hit =
      let zones : (not (has_zones key) || list_any (λ o. holds o place) cover) ≡ in_zones row key.limit.zones place = zones_as_told row key.limit.zones spans cover place covers told in
      ap (λ b. (has_field key.limit.fields place.0 && (nat_le place.1 key.limit.positions && b)) && is_at_ends lasts key place) zones
      ∙ ap (λ b. (has_field key.limit.fields place.0 && (nat_le place.1 key.limit.positions && in_zones row key.limit.zones place)) && ((not key.start || b) && (not key.end || is_last_of lasts place))) (first_as_told row place hit)
      ∙ ap (λ b. (has_field key.limit.fields place.0 && (nat_le place.1 key.limit.positions && in_zones row key.limit.zones place)) && ((not key.start || is_first row place) && b)) (last_as_told row lasts place key.end ends)
      ∙ and_three (has_field key.limit.fields place.0) (nat_le place.1 key.limit.positions) (in_zones row key.limit.zones place) ((not key.start || is_first row place) && (not key.end || is_last row place))

  pub limited : IsPlacedRow row → filter (is_allowed lasts key cover) (hits_of key.word row) ≡ key_places row key
  limited placed = filter_alike (is_allowed lasts key cover) (allows row key) (hits_of key.word row) (All-weaker (IsHit row) (λ place. is_allowed lasts key cover place ≡ allows row key place) as_told (hits_of key.word row) (are_hits key.word row placed))
