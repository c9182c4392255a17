-- Names among others.
use Rattle.std.proofs.Common.{◌≡◌, ◌≢◌, ℕ, zero, suc, ◌<◌, true, false, List, [], ◌∷◌, ◌++◌, length, length-append, get_or, sym, ◌∙◌, arith, inl, inr}
use Rattle.std.specs.Str.{bytes_eq}
use Rattle.std.proofs.lemmas.Bool.{true≢false, or_cases, or_parts}
use Rattle.std.proofs.lemmas.List.{get_or_append_left}
use Rattle.std.proofs.Math.Seq.{get_or-append_seam}
use Rattle.std.proofs.lemmas.List.Quantifiers.{all_pairs_push}
use Rattle.std.proofs.lemmas.Slice.Eq.{bytes_eq-Decides}
use Rattle.doc_types.specs.Schemas.{AreDistinct}
use Rattle.conf_text.specs.Faults.{is_among}

pub bytes_same : (a b : List ℕ) → bytes_eq a b ≡ true → a ≡ b
bytes_same a b is = (bytes_eq-Decides a b).0 is

pub bytes_differ : (a b : List ℕ) → bytes_eq a b ≡ false → a ≢ b
bytes_differ a b is same = true≢false (sym ((bytes_eq-Decides a b).1 same) ∙ is)

-- a name that isn't among others is none of them
pub among_no : (name : List ℕ) (names : List (List ℕ)) → is_among name names ≡ false → (k : ℕ) (d : List ℕ) → k < length names → get_or names k d ≢ name
among_no name [] no_one k d below = absurd (omega arith)
among_no name (other ∷ names) no_one zero d below = bytes_differ other name ((or_parts (bytes_eq other name) (is_among name names) no_one).0)
among_no name (other ∷ names) no_one (suc k) d below = among_no name names ((or_parts (bytes_eq other name) (is_among name names) no_one).1) k d (omega arith)

-- one that is among others is one of them
pub among_yes : (name : List ℕ) (names : List (List ℕ)) → is_among name names ≡ true → (k : ℕ) × (k < length names) × ((d : List ℕ) → get_or names k d ≡ name)
among_yes name [] one = absurd (true≢false (sym one))
among_yes name (other ∷ names) one = elim (or_cases (bytes_eq other name) (is_among name names) one) [
  | inl here ↦ (0, omega arith, λ d. bytes_same other name here)
  | inr later ↦ (let found = among_yes name names later in (suc found.0, omega (arith, found.1), found.2))
]

-- distinct names with one that isn't among them
pub distinct_more : (names : List (List ℕ)) (name : List ℕ) → AreDistinct names → is_among name names ≡ false → AreDistinct (names ++ name ∷ [])
distinct_more names name distinct no_one = all_pairs_push (λ a b. a ≢ b) names name distinct (among_no name names no_one)

-- names in which one stands twice aren't distinct
pub not_distinct : (names more : List (List ℕ)) (name : List ℕ) → is_among name names ≡ true → ¬ (AreDistinct (names ++ name ∷ more))
not_distinct names more name one distinct =
    let found = among_yes name names one in
    let first : get_or (names ++ name ∷ more) found.0 name ≡ name = get_or_append_left names (name ∷ more) name found.0 found.1 ∙ found.2 name in
    let second : get_or (names ++ name ∷ more) (length names) name ≡ name = get_or-append_seam names name more name in
    distinct found.0 (length names) name found.1 (omega (arith, length-append names (name ∷ more))) (first ∙ sym second)
