-- A phrase or a proximity with a word that the row hasn't matches nowhere.
use Rattle.std.proofs.Common.{arith, ◌≡◌, ◌≤◌, ◌+◌, ◌-◌, refl, sym, ap, ◌∙◌, subst, ℕ, suc, Bool, true, false, cond, List, [], ◌∷◌, length, get_or, map, ◌⊎◌, inl, inr}
use Rattle.std.specs.Prelude.{◌&&◌, ◌||◌, ◌==◌, Contains, count_by, nat_le}
use Rattle.std.specs.List.{filter, list_any, list_all, range_with_len}
use Rattle.std.proofs.lemmas.Bool.{cases_Bool, and_cases, and_left, and_right, or_cases, eqb-true, eq-eqb, lt-leb, true≢false}
use Rattle.std.proofs.lemmas.List.Elements.{Contains-get_or}
use Rattle.std.proofs.lemmas.List.Folds.{list_any_none, list_any_at}
use Rattle.std.proofs.lemmas.List.Sums.{sum_by-cons}
use Rattle.doc_types.specs.declared.documents.DocRow.{DocRow}
use Rattle.doc_types.specs.Chunks.{has_word}
use Rattle.query_tree.specs.declared.key.Key.{Key}
use Rattle.occ_lists.specs.declared.occ.Occ.{Occ}
use Rattle.occ_lists.specs.declared.term.Term.{Term}
use Rattle.occ_lists.specs.Places.{occ, has_place}
use Rattle.occ_lists.specs.Runs.{follow, runs}
use Rattle.occ_lists.specs.Windows.{Listed, times, stands, held, holds_all, windows}
use Rattle.word_rows.specs.Keywords.{places_within, Spans}
use Rattle.word_rows.specs.Terms.{AreSeenIn}
use Rattle.op_eval.specs.steps.Verdicts.{AreApart}
use Rattle.op_eval.proofs.Standing.{places_absent}

-- ---- tests

filter_never : {X : Type 0} (p : X → Bool) → ((x : X) → p x ≡ false) → (xs : List X) → filter p xs ≡ []
filter_never p never [] = refl
filter_never p never (x ∷ xs) = ap (λ t. cond t (x ∷ filter p xs) (filter p xs)) (never x) ∙ filter_never p never xs

any_map : {X Y : Type 0} (p : Y → Bool) (f : X → Y) (xs : List X) → list_any p (map f xs) ≡ list_any (λ x. p (f x)) xs
any_map p f [] = refl
any_map p f (x ∷ xs) = ap (λ t. p (f x) || t) (any_map p f xs)

any_member : {X : Type 0} (p : X → Bool) (xs : List X) (x : X) → Contains xs x → p x ≡ true → list_any p xs ≡ true
any_member p xs x member e = list_any_at p xs member.0 x member.1 (ap p member.2 ∙ e)

-- where some element passes the one, not all pass the other
all_fails : {X : Type 0} (p q : X → Bool) → ((x : X) → p x ≡ true → q x ≡ false) → (xs : List X) → list_any p xs ≡ true → list_all q xs ≡ false
all_fails p q apart [] e = absurd (true≢false (sym e))
all_fails p q apart (x ∷ xs) e = elim (or_cases (p x) (list_any p xs) e) [
  | inl here ↦ and_left (q x) (list_all q xs) (apart x here)
  | inr later ↦ and_right (q x) (list_all q xs) (all_fails p q apart xs later)
]

abbrev one : Bool → ℕ
one b = cond b 1 0

count_never : {X : Type 0} (p : X → Bool) → ((x : X) → p x ≡ false) → (xs : List X) → count_by p xs ≡ 0
count_never p never [] = refl
count_never p never (x ∷ xs) = omega (arith, sum_by-cons (λ y. cond (p y) 1 0) x xs, ap one (never x), count_never p never xs)

count_some : {X : Type 0} (p : X → Bool) (xs : List X) → list_any p xs ≡ true → 1 ≤ count_by p xs
count_some p [] e = absurd (true≢false (sym e))
count_some p (x ∷ xs) e = elim (or_cases (p x) (list_any p xs) e) [
  | inl here ↦ omega (arith, sum_by-cons (λ y. cond (p y) 1 0) x xs, ap one here)
  | inr later ↦ omega (arith, sum_by-cons (λ y. cond (p y) 1 0) x xs, count_some p xs later)
]

-- ---- runs

-- one of the lists of places is empty
abbrev Lacks : List (List (ℕ × ℕ)) → Type 0
Lacks [] = ⊥
Lacks (places ∷ rest) = (places ≡ []) ⊎ Lacks rest

follow_lacks : (place : ℕ × ℕ) (lists : List (List (ℕ × ℕ))) → Lacks lists → follow place lists ≡ false
follow_lacks place [] none = absurd none
follow_lacks place (next ∷ rest) (inl e) = and_left _ (follow (place.0, place.1 + 1) rest) (ap (λ places. has_place places (place.0, place.1 + 1)) e)
follow_lacks place (next ∷ rest) (inr later) = and_right (has_place next (place.0, place.1 + 1)) _ (follow_lacks (place.0, place.1 + 1) rest later)

runs_lack : (lists : List (List (ℕ × ℕ))) → Lacks lists → runs lists ≡ []
runs_lack [] none = absurd none
runs_lack (first ∷ rest) (inl e) = ap (λ places. map (λ (p : ℕ × ℕ). occ p.0 p.1 (p.1 + length rest)) (filter (λ p. follow p rest) places)) e
runs_lack (first ∷ rest) (inr later) = ap (map (λ (p : ℕ × ℕ). occ p.0 p.1 (p.1 + length rest))) (filter_never (λ p. follow p rest) (λ p. follow_lacks p rest later) first)

-- ---- windows

module _ (n : ℕ) (listed : List Listed) (word : ℕ) where
  -- a word is listed that stands nowhere
  windows_lack : list_any (λ (l : Listed). l.word == word) listed ≡ true → ((place : ℕ × ℕ) → stands listed word place ≡ false) → windows n listed ≡ []
  windows_lack some nowhere =
      let often : 1 ≤ times word listed = count_some (λ (l : Listed). l.word == word) listed some in
      let fails : (o : Occ) (l : Listed) → (l.word == word) ≡ true → nat_le (times l.word listed) (held listed l.word o) ≡ false = λ o l e.
      let none : held listed word o ≡ 0 = count_never (λ position. stands listed word (o.field, position)) (λ position. nowhere (o.field, position)) (range_with_len o.first (o.last + 1 - o.first)) in
      subst (λ (w : ℕ). nat_le (times w listed) (held listed w o) ≡ false) (sym (eqb-true l.word word e)) (lt-leb (times word listed) (held listed word o) (omega arith)) in
      filter_never (holds_all listed) (λ o. all_fails (λ (l : Listed). l.word == word) (λ (l : Listed). nat_le (times l.word listed) (held listed l.word o)) (fails o) listed some) _

-- ---- keywords

module _ (row : DocRow) where
  -- one of the words isn't in the row
  abbrev pub HasAbsent : List Key → Type 0
  HasAbsent [] = ⊥
  HasAbsent (key ∷ keys) = (has_word key.word row ≡ false) ⊎ HasAbsent keys

  pub absent_seen : (keys : List Key) (terms : List Term) → AreSeenIn row keys terms → list_all (λ (term : Term). term.present) terms ≡ false → HasAbsent keys
  absent_seen [] [] seen e = absurd (true≢false e)
  absent_seen [] (term ∷ terms) seen e = absurd seen
  absent_seen (key ∷ keys) [] seen e = absurd seen
  absent_seen (key ∷ keys) (term ∷ terms) seen e = elim (and_cases term.present (list_all (λ (t : Term). t.present) terms) e) [
    | inl here ↦ inl (sym seen.0.present ∙ here)
    | inr later ↦ inr (absent_seen keys terms seen.1 later)
  ]

  absent_lacks : (spans : Spans) (keys : List Key) → HasAbsent keys → Lacks (map (places_within row spans) keys)
  absent_lacks spans [] none = absurd none
  absent_lacks spans (key ∷ keys) (inl e) = inl (places_absent row key spans e)
  absent_lacks spans (key ∷ keys) (inr later) = inr (absent_lacks spans keys later)

  absent_key : (keys : List Key) → HasAbsent keys → (key : Key) × Contains keys key × (has_word key.word row ≡ false)
  absent_key [] none = absurd none
  absent_key (key ∷ keys) (inl e) = (key, (0, omega arith, refl), e)
  absent_key (key ∷ keys) (inr later) = let rest = absent_key keys later in (rest.0, (suc rest.1.0, omega (arith, rest.1.1), rest.1.2), rest.2)

  pub no_runs : (spans : Spans) (keys : List Key) → HasAbsent keys → runs (map (places_within row spans) keys) ≡ []
  no_runs spans keys absent = runs_lack (map (places_within row spans) keys) (absent_lacks spans keys absent)

  module _ (number : List ℕ → ℕ) (spans : Spans) where
    abbrev pub listed_key : Key → Listed
    listed_key key = record { word = number key.word; places = places_within row spans key }

    absent_stands : (absent : Key) (place : ℕ × ℕ) (key : Key) → has_word absent.word row ≡ false → (number key.word ≡ number absent.word → key.word ≡ absent.word)
        → ((number key.word == number absent.word) && has_place (places_within row spans key) place) ≡ false
    absent_stands absent place key e same = elim (cases_Bool (number key.word == number absent.word)) [
      | inl equal ↦
          let word : key.word ≡ absent.word = same (eqb-true (number key.word) (number absent.word) equal) in
          and_right (number key.word == number absent.word) _ (ap (λ places. has_place places place) (places_absent row key spans (ap (λ (w : List ℕ). has_word w row) word ∙ e)))
      | inr other ↦ and_left _ (has_place (places_within row spans key) place) other
    ]

    pub no_windows : (n : ℕ) (keys : List Key) → AreApart number keys → HasAbsent keys → windows n (map listed_key keys) ≡ []
    no_windows n keys apart has =
        let found = absent_key keys has in
        let absent = found.0 in
        windows_lack n (map listed_key keys) (number absent.word)
        (any_map (λ (l : Listed). l.word == number absent.word) listed_key keys ∙ any_member (λ (key : Key). number key.word == number absent.word) keys absent found.1 (eq-eqb (number absent.word) (number absent.word) refl))
        (λ place. any_map (λ (l : Listed). (l.word == number absent.word) && has_place l.places place) listed_key keys
        ∙ list_any_none (λ (key : Key). (number key.word == number absent.word) && has_place (places_within row spans key) place) keys
        (λ k d h. absent_stands absent place (get_or keys k d) found.2 (apart (get_or keys k d) absent (Contains-get_or keys k d h) found.1)))
