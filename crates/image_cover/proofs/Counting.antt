-- Places while hits are read.
use Rattle.std.proofs.Common.{◌≡◌, ℕ, ◌+◌, ◌-◌, ◌<◌, Option, Some, None, MatchOption, List, [], ◌∷◌, ◌++◌, length, map, refl, sym, ap, ◌∙◌}
use Rattle.std.proofs.lemmas.List.{map-append}
use Rattle.posting_codec.specs.HitLists.{key, AreHitsAt, differences, hit_list}
use Rattle.posting_codec.specs.Numbers.{number, IsNumberAt}
use Rattle.posting_codec.specs.steps.Differences.{IsBehind, AreDifferencesAt}
use Rattle.posting_codec.proofs.Reading.{Gone, gone_none, gone_more, gone_all, none_differences, hits_spelled}
use Rattle.image_cover.specs.Places.{Seen, place_at, place_in, take_all, take_place}
use Rattle.image_cover.proofs.Taken.{take_append, take_long}

-- so many hits were read up to this place and counted
pub record Counted (bytes : List ℕ) (start at last i row : ℕ) (own : List ℕ) (before cells : Seen) : Type 0 where
  pub hits : List (ℕ × ℕ)
  pub gone : Gone bytes start at last hits i
  pub long : length cells.0 ≡ length before.0
  pub tally : cells ≡ take_all before (map (place_in row own) hits)

pub counted_none : (bytes : List ℕ) (start row : ℕ) (own : List ℕ) (before : Seen) → Counted bytes start start 0 0 row own before before
counted_none bytes start row own before = record { hits = []; gone = gone_none bytes start [] refl; long = refl; tally = refl }

pub counted_more : (bytes : List ℕ) (start at end last next i row : ℕ) (own : List ℕ) (before cells after : Seen) (hit : ℕ × ℕ) (rest : List ℕ) (place : ℕ) → Counted bytes start at last i row own before cells → IsBehind bytes at last hit rest → end ≡ at + length (number (key hit - last)) → next ≡ key hit
    → place ≡ place_at own hit → after ≡ take_place cells (row, place) → Counted bytes start end next (i + 1) row own before after
counted_more bytes start at end last next i row own before cells after hit rest place g is ends k p a =
    let made : after ≡ take_place cells (place_in row own hit) = a ∙ ap (λ n. take_place cells (row, n)) p in
    record {
      hits = g.hits ++ hit ∷ [];
      gone = gone_more bytes start at end last next g.hits (g.hits ++ hit ∷ []) hit rest i g.gone is ends refl k;
      long = ap (λ (s : Seen). length s.0) made ∙ take_long cells (place_in row own hit) ∙ g.long;
      tally = made ∙ ap (λ c. take_place c (place_in row own hit)) g.tally
          ∙ sym (ap (take_all before) (map-append (place_in row own) g.hits (hit ∷ [])) ∙ take_append before (map (place_in row own) g.hits) (place_in row own hit ∷ []));
    }

abbrev pub Read : List ℕ → ℕ → ℕ → ℕ → List ℕ → Seen → Seen → ℕ → Type 0
Read bytes start count row own before after end = (hits : List (ℕ × ℕ)) × (rest : List ℕ) × AreDifferencesAt bytes start count hits rest × (end ≡ start + length (differences 0 hits)) × (after ≡ take_all before (map (place_in row own) hits))

pub counted_all : (bytes : List ℕ) (start at last i count row : ℕ) (own : List ℕ) (before cells : Seen) → Counted bytes start at last i row own before cells → i ≡ count → Read bytes start count row own before cells at
counted_all bytes start at last i count row own before cells g e =
    let its = gone_all bytes start at last g.hits i count g.gone e in
    (g.hits, its.0, its.1, its.2, g.tally)

abbrev pub NoDifferences : List ℕ → ℕ → ℕ → Type 0
NoDifferences bytes start count = (hits : List (ℕ × ℕ)) (rest : List ℕ) → AreDifferencesAt bytes start count hits rest → ⊥

abbrev pub NoHits : List ℕ → ℕ → Type 0
NoHits bytes at = (hits : List (ℕ × ℕ)) (rest : List ℕ) → AreHitsAt bytes at hits rest → ⊥

abbrev pub HitsRead : List ℕ → ℕ → ℕ → List ℕ → Seen → Seen → ℕ → Type 0
HitsRead bytes at row own before after end = (hits : List (ℕ × ℕ)) × (rest : List ℕ) × AreHitsAt bytes at hits rest × (end ≡ at + length (hit_list hits)) × (after ≡ take_all before (map (place_in row own) hits))

-- a hit list is its count and its differences
pub hits_answer : (bytes : List ℕ) (at count start row : ℕ) (left own : List ℕ) (before after : Seen) (read : Option ℕ) → 0 < count → IsNumberAt bytes at count left → start ≡ at + length (number count)
    → MatchOption read (NoDifferences bytes start count) (Read bytes start count row own before after) → MatchOption read (NoHits bytes at) (HitsRead bytes at row own before after)
hits_answer bytes at count start row left own before after None some is e none = none_differences bytes at count start left is e none
hits_answer bytes at count start row left own before after (Some end) some is e found =
    let its = hits_spelled bytes at count start left found.0 found.1 end some is e found.2 found.3 in
    (found.0, found.1, its.0, its.1, found.4)
