-- The posting list of a word's occurrences, one row more at a time.
use Rattle.std.proofs.Common.{◌≡◌, ℕ, ◌+◌, ◌<◌, ◌≤◌, ◌/◌, List, [], ◌∷◌, ◌++◌, zero, suc, IsSomeAnd, slice_get, length, drop, take, get_or, map, refl, sym, ap, subst, ◌∙◌, arith, append_assoc, append-nil, length-drop, drop-cons}
use Rattle.std.proofs.lemmas.List.{take-append-drop, map_more, map-append, length-map, length-take, drop-drop}
use Rattle.posting_codec.specs.PostingLists.{posting, posting_list}
use Rattle.image_write.specs.declared.gathering.Occurrence.{Occurrence}
use Rattle.image_write.specs.steps.Gathering.{Place, ArePostable, grouped}
use Rattle.image_write.specs.steps.Places.{place_at}
use Rattle.image_write.specs.steps.Posting.{IsPosted}
use Rattle.image_write.proofs.Grouped.{Behind, one_entry}

-- the first occurrence is in this row
abbrev pub Begins : ℕ → List Occurrence → Type 0
Begins row os = IsSomeAnd (slice_get os 0) (λ o. o.stand / 32 ≡ row)

some_there : (row : ℕ) (os : List Occurrence) → Begins row os → 1 ≤ length os
some_there row [] first = absurd first
some_there row (o ∷ os) first = omega arith

-- what was taken of occurrences is an entry
taken : (row n : ℕ) (os : List Occurrence) (hits : List (ℕ × ℕ)) → map place_at (take n os) ≡ map (λ hit. (row, hit)) hits → 1 ≤ n → n ≤ length os → Behind row (map place_at (drop n os))
    → grouped (map place_at os) ≡ (row, hits) ∷ grouped (map place_at (drop n os))
taken row n os hits e some within behind =
    let long : length hits ≡ n = omega (arith, sym (length-map {B = Place} hits (λ hit. (row, hit))), ap length e, length-map {B = Place} (take n os) place_at, length-take n os, within) in
    let rest = map place_at (drop n os) in
    ap (λ l. grouped (map place_at l)) (sym (take-append-drop n os)) ∙ ap grouped (map-append place_at (take n os) (drop n os)) ∙ ap (λ l. grouped (l ++ rest)) e
    ∙ one_entry row hits rest (omega (arith, long, some)) behind

stops : (row n : ℕ) (os : List Occurrence) (d : Occurrence) → n < length os → ((get_or os n d).stand / 32 ≡ row → ⊥) → Behind row (map place_at (drop n os))
stops row n os d low ne = subst (λ (l : List Occurrence). Behind row (map place_at l)) (sym (drop-cons os n d low)) (λ e. ne (sym e))

none_behind : (row : ℕ) (os : List Occurrence) → Behind row (map place_at (drop (length os) os))
none_behind row [] = tt
none_behind row (o ∷ os) = none_behind row os

-- the exits of taking a row
some_taken : (row n : ℕ) (os : List Occurrence) (d : Occurrence) → n < length os → ((get_or os n d).stand / 32 ≡ row → ⊥) → Begins row os → 1 ≤ n
some_taken row zero [] d low ne first = absurd (omega (arith, low))
some_taken row zero (o ∷ os) d low ne first = absurd (ne first)
some_taken row (suc n) os d low ne first = omega arith

pub stopped : (row n : ℕ) (os : List Occurrence) (d : Occurrence) (hits : List (ℕ × ℕ)) → n < length os → ((get_or os n d).stand / 32 ≡ row → ⊥) → Begins row os → map place_at (take n os) ≡ map (λ hit. (row, hit)) hits
    → grouped (map place_at os) ≡ (row, hits) ∷ grouped (map place_at (drop n os))
stopped row n os d hits low ne first e = taken row n os hits e (some_taken row n os d low ne first) (omega (arith, low)) (stops row n os d low ne)

pub taken_all : (row : ℕ) (os : List Occurrence) (hits : List (ℕ × ℕ)) → Begins row os → map place_at (take (length os) os) ≡ map (λ hit. (row, hit)) hits
    → grouped (map place_at os) ≡ (row, hits) ∷ grouped (map place_at (drop (length os) os))
taken_all row os hits first e = taken row (length os) os hits e (some_there row os first) (omega arith) (none_behind row os)

-- one more occurrence in the row
pub pushed : (row n : ℕ) (os : List Occurrence) (d : Occurrence) (hits after : List (ℕ × ℕ)) → n < length os → (get_or os n d).stand / 32 ≡ row → map place_at (take n os) ≡ map (λ hit. (row, hit)) hits
    → after ≡ hits ++ (place_at (get_or os n d)).1 ∷ [] → map place_at (take (n + 1) os) ≡ map (λ hit. (row, hit)) after
pushed row n os d hits after low same e put =
    let hit = (place_at (get_or os n d)).1 in
    map_more place_at os n d low ∙ ap (λ l. l ++ place_at (get_or os n d) ∷ []) e ∙ ap (λ k. map (λ hit. (row, hit)) hits ++ (k, hit) ∷ []) same
    ∙ sym (map-append (λ (hit : ℕ × ℕ). (row, hit)) hits (hit ∷ [])) ∙ ap (map (λ (hit : ℕ × ℕ). (row, hit))) (sym put)

-- a list that is written up to an occurrence
pub record AreListed (os : List Occurrence) (at least count : ℕ) (start now : List ℕ) : Type 0 where
  pub within : at ≤ length os
  pub list : now ++ posting_list least (grouped (map place_at (drop at os))) ≡ start ++ posting_list 0 (grouped (map place_at os))
  pub fits : ArePostable least (grouped (map place_at (drop at os)))
  pub counted : count + length (grouped (map place_at (drop at os))) ≡ length (grouped (map place_at os))

pub listed_more : (os : List Occurrence) (at n least row count : ℕ) (start now after : List ℕ) → n ≤ length (drop at os) → AreListed os at least count start now
    → IsPosted least row (map place_at (drop at os)) (map place_at (drop n (drop at os))) now after → AreListed os (at + n) (row + 1) (count + 1) start after
listed_more os at n least row count start now after within was posted =
    let hits = posted.hits in
    let rest = grouped (map place_at (drop (at + n) os)) in
    let behind : drop n (drop at os) ≡ drop (at + n) os = drop-drop n at os ∙ ap (λ k. drop k os) (omega arith) in
    let next : grouped (map place_at (drop at os)) ≡ (row, hits) ∷ rest = posted.is ∙ ap (λ l. (row, hits) ∷ grouped (map place_at l)) behind in
    record {
      within = omega (arith, within, was.within, length-drop at os);
      list =
          ap (λ l. l ++ posting_list (row + 1) rest) posted.put ∙ append_assoc now (posting least row hits) (posting_list (row + 1) rest)
          ∙ ap (λ l. now ++ l) (sym (ap (posting_list least) next)) ∙ was.list;
      fits = (subst (ArePostable least) next was.fits).1;
      counted = omega (arith, was.counted, ap length next);
    }

pub listed_none : (os : List Occurrence) (out : List ℕ) → ArePostable 0 (grouped (map place_at os)) → AreListed os 0 0 0 out out
listed_none os out fits = record { within = omega arith; list = refl; fits = fits; counted = omega arith }

pub listed_all : (os : List Occurrence) (at least count : ℕ) (start now : List ℕ) → length os ≤ at → AreListed os at least count start now
    → (now ≡ start ++ posting_list 0 (grouped (map place_at os))) × (count ≡ length (grouped (map place_at os)))
listed_all os at least count start now past was =
    let end : drop at os ≡ [] = empty (drop at os) (omega (arith, length-drop at os, past)) in
    (sym (append-nil now) ∙ sym (ap (λ l. now ++ posting_list least (grouped (map place_at l))) end) ∙ was.list, omega (arith, was.counted, ap (λ l. length (grouped (map place_at l))) end))
  where
    empty : (xs : List Occurrence) → length xs ≤ 0 → xs ≡ []
    empty [] few = refl
    empty (x ∷ xs) few = absurd (omega (arith, few))
