-- The words of a dictionary that begin so.
use Rattle.std.proofs.Common.{◌≡◌, ℕ, ◌+◌, ◌-◌, ◌<◌, ◌≤◌, ◌^◌, List, [], Bool, true, false, ◌&&◌, ◌||◌, nat_lt, Some, None, slice_get, length, get_or, take, drop, min, refl, sym, ap, subst, ◌∙◌, arith, All, Contains, length-take, length-drop, ⊎_elim}
use Rattle.std.proofs.lemmas.Bool.{both_ways, cases_Bool, cases_lt, cases_order, le-ltb, lt-ltb, ltb-false, ltb-true, or_cases, or_parts}
use Rattle.std.proofs.lemmas.List.{get_or-drop, get_or-take}
use Rattle.std.proofs.lemmas.Option.{get_or_from_slice_get, same_Some, slice_get-get_or, slice_get_past, slice_get_within}
use Rattle.doc_types.specs.declared.documents.DocRow.{DocRow}
use Rattle.doc_types.specs.Chunks.{AreWordsOf, rows_with}
use Rattle.doc_types.specs.Snapshots.{LayerValue}
use Rattle.query_tree.specs.Taking.{begins_so}
use Rattle.prefix_terms.specs.steps.Parts.{Ascend, IsPartOf, IsRunWith, less, stands_before}
use Rattle.prefix_terms.proofs.Beginnings.{begins_behind, counts_down}

-- words at two numbers of a dictionary
pub in_order : (words : List (List ℕ)) (n m : ℕ) (word other : List ℕ) → Ascend words → n < m → slice_get words n ≡ Some word → slice_get words m ≡ Some other → less word other ≡ true
in_order words n m word other ascend low at behind =
    let within : m < length words = slice_get_within words m other behind in
    let one : get_or words n word ≡ word = get_or_from_slice_get words n word word at in
    let two : get_or words m word ≡ other = get_or_from_slice_get words m other word behind in
    let up = ascend n m word low within in
    let told : less (get_or words n word) (get_or words m word) ≡ true = rw up refl in
    subst (λ o. less word o ≡ true) two (subst (λ o. less o (get_or words m word) ≡ true) one told)

-- a search for the first word that doesn't count lies between these
pub record IsBetween (words : List (List ℕ)) (beginning : List ℕ) (with : Bool) (low high : ℕ) : Type 0 where
  pub order : low ≤ high
  pub within : high ≤ length words
  pub before : (n : ℕ) (word : List ℕ) → slice_get words n ≡ Some word → n < low → stands_before beginning with word ≡ true
  pub behind : (n : ℕ) (word : List ℕ) → slice_get words n ≡ Some word → high ≤ n → stands_before beginning with word ≡ false

at_number : (words : List (List ℕ)) (n m : ℕ) (word own : List ℕ) → n ≡ m → slice_get words m ≡ Some word → slice_get words n ≡ Some own → word ≡ own
at_number words n m word own same at here = same_Some word own (sym at ∙ ap (slice_get words) (sym same) ∙ here)

module _ (words : List (List ℕ)) (beginning : List ℕ) (with : Bool) (low high middle : ℕ) (word : List ℕ) (ascend : Ascend words) (was : IsBetween words beginning with low high) (here : slice_get words middle ≡ Some word) (first : low ≤ middle) (last : middle < high) where
  -- the word in the middle counts, or not
  pub upper_half : stands_before beginning with word ≡ true → IsBetween words beginning with (middle + 1) high
  upper_half counts = record {
    order = omega arith;
    within = was.within;
    before = λ n own at less_n.
        ⊎_elim
        (λ same. subst (λ (w : List ℕ). stands_before beginning with w ≡ true) (at_number words n middle word own same here at) counts)
        (λ other.
        ⊎_elim
        (λ below. counts_down beginning with word own counts (in_order words n middle own word ascend below at here))
        (λ above. absurd (omega (arith, above, less_n)))
        other)
        (cases_order n middle);
    behind = was.behind;
  }

  pub lower_half : stands_before beginning with word ≡ false → IsBetween words beginning with low middle
  lower_half counts = record {
    order = first;
    within = omega (arith, was.within, last);
    before = was.before;
    behind = λ n own at more_n.
        ⊎_elim
        (λ same. subst (λ (w : List ℕ). stands_before beginning with w ≡ false) (at_number words n middle word own same here at) counts)
        (λ other.
        ⊎_elim
        (λ below. absurd (omega (arith, below, more_n)))
        (λ above.
        ⊎_elim
        (λ (yes : stands_before beginning with own ≡ true). absurd (both_ways (stands_before beginning with word) counts (counts_down beginning with own word yes (in_order words middle n word own ascend above here at))))
        (λ (no : stands_before beginning with own ≡ false). no)
        (cases_Bool (stands_before beginning with own)))
        other)
        (cases_order n middle);
  }

-- so many words count
abbrev pub Splits : List (List ℕ) → List ℕ → Bool → ℕ → Type 0
Splits words beginning with count = (n : ℕ) (word : List ℕ) → slice_get words n ≡ Some word → stands_before beginning with word ≡ nat_lt n count

pub found_front : (words : List (List ℕ)) (beginning : List ℕ) (with : Bool) (low high : ℕ) → IsBetween words beginning with low high → high ≤ low → Splits words beginning with low
found_front words beginning with low high was end n word at =
    ⊎_elim
    (λ below. was.before n word at below ∙ sym (lt-ltb n low below))
    (λ above. was.behind n word at (omega (arith, was.order, end, above)) ∙ sym (le-ltb n low above))
    (cases_lt n low)

pub all_between : (words : List (List ℕ)) (beginning : List ℕ) (with : Bool) (count : ℕ) → count ≡ length words → IsBetween words beginning with 0 count
all_between words beginning with count is = record {
  order = omega arith;
  within = omega (arith, is);
  before = λ n word at low. absurd (omega (arith, low));
  behind = λ n word at high. absurd (let low = slice_get_within words n word at in omega (arith, low, high, is));
}

-- a word of the run is one of the dictionary
pub run_at : (words : List (List ℕ)) (first count k : ℕ) → first + count ≤ length words → k < count → slice_get (take count (drop first words)) k ≡ slice_get words (first + k)
run_at words first count k within low =
    let long : length (take count (drop first words)) ≡ count = length-take count (drop first words) ∙ short in
    slice_get-get_or (take count (drop first words)) k [] (omega (arith, long, low))
    ∙ ap Some (get_or-take count (drop first words) k [] low ∙ get_or-drop first words k [])
    ∙ sym (slice_get-get_or words (first + k) [] (omega (arith, within, low)))
  where
    short : min count (length (drop first words)) ≡ count
    short = let size = length-drop first words in grind arith

pub run_long : (words : List (List ℕ)) (first count : ℕ) → first + count ≤ length words → length (take count (drop first words)) ≡ count
run_long words first count within = length-take count (drop first words) ∙ short
  where
    short : min count (length (drop first words)) ≡ count
    short = let size = length-drop first words in grind arith

pub run_past : (words : List (List ℕ)) (first count k : ℕ) → first + count ≤ length words → count ≤ k → slice_get (take count (drop first words)) k ≡ None
run_past words first count k within high =
    let long = run_long words first count within in
    slice_get_past (take count (drop first words)) k (omega (arith, long, high))

-- the words that begin so don't end before they begin
pub run_order : (words : List (List ℕ)) (beginning : List ℕ) (first end : ℕ) → first ≤ length words → Splits words beginning false first → Splits words beginning true end → first ≤ end
run_order words beginning first end within one two =
    ⊎_elim
    (λ wrong.
    let word = get_or words end [] in
    let here : slice_get words end ≡ Some word = slice_get-get_or words end [] (omega (arith, within, wrong)) in
    let low : less word beginning ≡ true = only (less word beginning) (one end word here ∙ lt-ltb end first wrong) in
    let not_low = or_parts (less word beginning) (true && begins_so word beginning) (two end word here ∙ le-ltb end end (omega arith)) in
    absurd (both_ways (less word beginning) not_low.0 low))
    (λ right. right)
    (cases_lt end first)
  where
    only : (b : Bool) → (b || (false && begins_so (get_or words end []) beginning)) ≡ true → b ≡ true
    only true e = refl
    only false e = e

module _ (rows : List DocRow) (words : List (List ℕ)) (beginning : List ℕ) (first end count : ℕ) (are : AreWordsOf rows words) (within : end ≤ length words) (size : first + count ≡ end) (one : Splits words beginning false first) (two : Splits words beginning true end) where
  abbrev run : List (List ℕ)
  run = take count (drop first words)

  fits : first + count ≤ length words
  fits = omega (arith, size, within)

  pub run_ascends : Ascend run
  run_ascends i j d low high =
      let long = run_long words first count fits in
      let past : j < count = omega (arith, long, high) in
      let at : (k : ℕ) → k < count → get_or run k d ≡ get_or words (first + k) d = λ k inside. get_or-take count (drop first words) k d inside ∙ get_or-drop first words k d in
      rw (at i (omega (arith, low, past)), at j past) (are.ascend (first + i) (first + j) d (omega (arith, low)) (omega (arith, fits, past)))

  -- each word of the run begins so
  begins_at : (k : ℕ) (word : List ℕ) → k < count → slice_get run k ≡ Some word → begins_so word beginning ≡ true
  begins_at k word low here =
      let at : slice_get words (first + k) ≡ Some word = sym (run_at words first count k fits low) ∙ here in
      let not_before = or_parts (less word beginning) (false && begins_so word beginning) (one (first + k) word at ∙ le-ltb (first + k) first (omega arith)) in
      let with : stands_before beginning true word ≡ true = two (first + k) word at ∙ lt-ltb (first + k) end (omega (arith, size, low)) in
      ⊎_elim
      (λ before. absurd (both_ways (less word beginning) not_before.0 before))
      (λ begins. begins)
      (or_cases (less word beginning) (true && begins_so word beginning) with)

  pub run_begins : All (λ word. begins_so word beginning ≡ true) run
  run_begins k d low =
      let long = run_long words first count fits in
      begins_at k (get_or run k d) (omega (arith, long, low)) (slice_get-get_or run k d low)

  -- each word that begins so is in the run
  pub run_all : (word : List ℕ) → begins_so word beginning ≡ true → 0 < length (rows_with word rows) → Contains run word
  run_all word begins some =
      let its = are.all word some in
      let n = its.0 in
      let at : slice_get words n ≡ Some word = slice_get-get_or words n word its.1 ∙ ap Some its.2 in
      let high : first ≤ n = ltb-false n first (sym (one n word at) ∙ before_not (less word beginning) (begins_behind beginning word begins)) in
      let low : n < end = ltb-true n end (sym (two n word at) ∙ with_it (less word beginning) begins) in
      let k = n - first in
      let inside : k < count = omega (arith, high, low, size) in
      let back : first + k ≡ n = omega (arith, high) in
      let long = run_long words first count fits in
      let same : get_or run k word ≡ word = get_or_from_slice_get run k word word (run_at words first count k fits inside ∙ ap (slice_get words) back ∙ at) in
      (k, omega (arith, long, inside), same)
    where
      before_not : (b : Bool) → b ≡ false → (b || (false && begins_so word beginning)) ≡ false
      before_not true e = absurd cc
      before_not false e = refl

      with_it : (b : Bool) → begins_so word beginning ≡ true → (b || (true && begins_so word beginning)) ≡ true
      with_it true e = refl
      with_it false e = e

  pub run_is : length words < 2 ^ 32 → IsRunWith beginning rows words first count
  run_is few = record { within = fits; few = few; ascend = run_ascends; begin = run_begins; all = run_all }

-- the run is the part of a layer
pub run_is_part : (beginning : List ℕ) (rows : List DocRow) (words : List (List ℕ)) (first count : ℕ) (layer : LayerValue) (dead : List ℕ) → IsRunWith beginning rows words first count → rows ≡ layer.rows → dead ≡ layer.dead → IsPartOf beginning layer (record { rows = rows; words = take count (drop first words); dead = dead })
run_is_part beginning rows words first count layer dead is its gone = record {
  rows = its;
  dead = gone;
  ascend = is.ascend;
  begin = is.begin;
  all = is.all;
  few = let long = run_long words first count is.within in omega (arith, long, is.within, is.few);
}
