-- The numbers of a query's words tell its words apart.
use Rattle.std.proofs.Common.{arith, ◌≡◌, ◌<◌, sym, ap, ◌∙◌, ℕ, zero, suc, Bool, true, false, cond, List, [], ◌∷◌, length, get_or, map, inl, inr}
use Rattle.std.specs.Prelude.{not, Contains, Some, None, unwrap_or}
use Rattle.std.specs.List.{filter, list_any, position, position_or_len}
use Rattle.std.specs.Str.{bytes_eq}
use Rattle.std.proofs.lemmas.Bool.{cases_Bool, cases_lt, or_cases, or_left, or_right, lt-ltb, both_ways, true≢false}
use Rattle.std.proofs.lemmas.List.Folds.{list_any_none}
use Rattle.std.proofs.lemmas.List.Sums.{fails_before_first, passes_at_first}
use Rattle.std.proofs.lemmas.Slice.Eq.{bytes_eq-Decides}
use Rattle.query_tree.specs.declared.key.Key.{Key}
use Rattle.query_tree.specs.declared.query.Query.{Query}
use Rattle.query_tree.specs.TreeKeys.{query_keys}
use Rattle.word_rows.specs.Keywords.{first_uses}
use Rattle.op_eval.specs.Matching.{number_in}
use Rattle.op_eval.specs.steps.Verdicts.{AreApart}

-- ---- words among the first uses

kept_passes : (word : List ℕ) (b : Bool) (x : List ℕ) (xs : List (List ℕ)) → b ≡ true → bytes_eq word x ≡ true → list_any (bytes_eq word) (cond b (x ∷ xs) xs) ≡ true
kept_passes word b x xs kept e = ap (λ t. list_any (bytes_eq word) (cond t (x ∷ xs) xs)) kept ∙ or_left _ (list_any (bytes_eq word) xs) e

kept_later : (word : List ℕ) (b : Bool) (x : List ℕ) (xs : List (List ℕ)) → list_any (bytes_eq word) xs ≡ true → list_any (bytes_eq word) (cond b (x ∷ xs) xs) ≡ true
kept_later word true x xs e = or_right (bytes_eq word x) _ e
kept_later word false x xs e = e

-- a filter by another word keeps it
other_kept : (word other : List ℕ) → bytes_eq word other ≡ false → (words : List (List ℕ)) → list_any (bytes_eq word) words ≡ true → list_any (bytes_eq word) (filter (λ w. not (bytes_eq w other)) words) ≡ true
other_kept word other differs [] e = absurd (true≢false (sym e))
other_kept word other differs (x ∷ xs) e = elim (or_cases (bytes_eq word x) (list_any (bytes_eq word) xs) e) [
  | inl here ↦
      let same : word ≡ x = (bytes_eq-Decides word x).0 here in
      kept_passes word (not (bytes_eq x other)) x (filter (λ w. not (bytes_eq w other)) xs) (ap (λ w. not (bytes_eq w other)) (sym same) ∙ ap not differs) here
  | inr later ↦ kept_later word (not (bytes_eq x other)) x (filter (λ w. not (bytes_eq w other)) xs) (other_kept word other differs xs later)
]

used_first : (word : List ℕ) (words : List (List ℕ)) → list_any (bytes_eq word) words ≡ true → list_any (bytes_eq word) (first_uses words) ≡ true
used_first word [] e = absurd (true≢false (sym e))
used_first word (x ∷ xs) e = elim (cases_Bool (bytes_eq word x)) [
  | inl here ↦ or_left (bytes_eq word x) _ here
  | inr differs ↦ elim (or_cases (bytes_eq word x) (list_any (bytes_eq word) xs) e) [
    | inl here ↦ or_left (bytes_eq word x) _ here
    | inr later ↦ or_right (bytes_eq word x) _ (other_kept word x differs (first_uses xs) (used_first word xs later))
  ]
]

-- ---- places

place_found : (p : List ℕ → Bool) (xs : List (List ℕ)) → list_any p xs ≡ true → position_or_len p xs < length xs
place_found p xs e = elim (cases_lt (position_or_len p xs) (length xs)) [
  | inl before ↦ before
  | inr after ↦ absurd (both_ways (list_any p xs) (list_any_none p xs (λ k d h. fails_before_first p xs k d (omega arith))) e)
]

-- the word at its number
word_at : (word : List ℕ) (words : List (List ℕ)) → list_any (bytes_eq word) words ≡ true → word ≡ get_or words (unwrap_or (position (bytes_eq word) words) 0) []
word_at word words e =
    let within : position_or_len (bytes_eq word) words < length words = place_found (bytes_eq word) words e in
    let is : unwrap_or (position (bytes_eq word) words) 0 ≡ position_or_len (bytes_eq word) words = ap (λ t. unwrap_or (cond t (Some (position_or_len (bytes_eq word) words)) None) 0) (lt-ltb _ _ within) in
    (bytes_eq-Decides word (get_or words (position_or_len (bytes_eq word) words) [])).0 (passes_at_first (bytes_eq word) words [] within) ∙ ap (λ n. get_or words n []) (sym is)

-- ---- the keywords of a query

has_key_word : (keys : List Key) (key : Key) (k : ℕ) → k < length keys → get_or keys k key ≡ key → list_any (bytes_eq key.word) (map (λ (key : Key). key.word) keys) ≡ true
has_key_word [] key k within e = absurd (omega arith)
has_key_word (x ∷ xs) key zero within e = or_left _ _ ((bytes_eq-Decides key.word x.word).1 (ap (λ (k : Key). k.word) (sym e)))
has_key_word (x ∷ xs) key (suc k) within e = or_right (bytes_eq key.word x.word) _ (has_key_word xs key k (omega arith) e)

key_at : (query : Query) (key : Key) → Contains (query_keys query) key → key.word ≡ get_or (first_uses (map (λ (key : Key). key.word) (query_keys query))) (number_in query key.word) []
key_at query key member =
    let words = map (λ (key : Key). key.word) (query_keys query) in
    word_at key.word (first_uses words) (used_first key.word words (has_key_word (query_keys query) key member.0 member.1 member.2))

pub numbers_apart : (query : Query) → AreApart (number_in query) (query_keys query)
numbers_apart query a b in_a in_b same =
    key_at query a in_a ∙ ap (λ n. get_or (first_uses (map (λ (key : Key). key.word) (query_keys query))) n []) same ∙ sym (key_at query b in_b)
