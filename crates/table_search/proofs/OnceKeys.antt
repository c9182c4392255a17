-- The keywords of a query, one after the other, each once.
use Rattle.std.proofs.Common.{◌≡◌, ◌∙◌, ℕ, ◌+◌, ◌<◌, length, get_or, take, Bool, true, false, cond, ◌&&◌, ◌||◌, not, List, [], ◌∷◌, ◌++◌, map, append-nil, append_assoc, ap, refl, sym, inl, inr}
use Rattle.std.specs.Borrow.{Bor}
use Rattle.std.specs.List.{filter, list_any}
use Rattle.std.specs.Str.{bytes_eq}
use Rattle.std.proofs.lemmas.Bool.{and_from, and_parts, both_ways, cases_Bool}
use Rattle.std.proofs.lemmas.List.{map-append, map_more}
use Rattle.std.proofs.lemmas.List.Elements.{filter-append}
use Rattle.std.proofs.lemmas.Slice.Eq.{bytes_eq-Decides}
use Rattle.query_tree.specs.declared.key.Key.{Key}
use Rattle.occ_lists.proofs.Members.{any_alike, any_filter, any_map}
use Rattle.table_search.specs.Keywords.{are_one, first_keys}
use Rattle.table_search.specs.steps.Counting.{lent, with_key}

-- ---- keywords that are one

kinds_same : (a b : Bool) → cond a b (not b) ≡ true → a ≡ b
kinds_same true true is = refl
kinds_same false false is = refl
kinds_same true false is = absurd cc
kinds_same false true is = absurd cc

same_kinds : (a b : Bool) → a ≡ b → cond a b (not b) ≡ true
same_kinds true true is = refl
same_kinds false false is = refl
same_kinds true false is = absurd cc
same_kinds false true is = absurd cc

are_same : (a b : Key) → are_one a b ≡ true → (a.word ≡ b.word) × (a.prefix ≡ b.prefix)
are_same a b is =
    let parts = and_parts (bytes_eq a.word b.word) (cond a.prefix b.prefix (not b.prefix)) is in
    ((bytes_eq-Decides a.word b.word).0 parts.0, kinds_same a.prefix b.prefix parts.1)

same_are : (a b : Key) → a.word ≡ b.word → a.prefix ≡ b.prefix → are_one a b ≡ true
same_are a b words kinds = and_from (bytes_eq a.word b.word) (cond a.prefix b.prefix (not b.prefix)) ((bytes_eq-Decides a.word b.word).1 words) (same_kinds a.prefix b.prefix kinds)

flip : (a b : Key) → are_one a b ≡ true → are_one b a ≡ true
flip a b is = let same = are_same a b is in same_are b a (sym same.0) (sym same.1)

through : (a b c : Key) → are_one a b ≡ true → are_one a c ≡ true → are_one b c ≡ true
through a b c one two = let first = are_same a b one in let second = are_same a c two in same_are b c (sym first.0 ∙ second.0) (sym first.1 ∙ second.1)

not_flipped : (a b : Key) → are_one a b ≡ false → are_one b a ≡ false
not_flipped a b differs = elim (cases_Bool (are_one b a)) [
  | inl same ↦ absurd (both_ways (are_one a b) differs (flip b a same))
  | inr is ↦ is
]

-- ---- one keyword more

abbrev others : Key → List Key → List Key
others b keys = filter (λ other. not (are_one other b)) keys

module _ (b x : Key) where
  -- where x isn't b, none of the keywords that are x was left out
  kept_any : (keys : List Key) → are_one b x ≡ false → list_any (λ seen. are_one seen x) (others b keys) ≡ list_any (λ seen. are_one seen x) keys
  kept_any keys differs = any_filter (λ seen. are_one seen x) (λ other. not (are_one other b)) keys ∙ any_alike (λ seen. not (are_one seen b) && are_one seen x) (λ seen. are_one seen x) each keys
    where
      by : (c d : Bool) → (c ≡ true → d ≡ true → ⊥) → (not c && d) ≡ d
      by true true never = absurd (never refl refl)
      by true false never = refl
      by false d never = refl

      each : (seen : Key) → (not (are_one seen b) && are_one seen x) ≡ are_one seen x
      each seen = by (are_one seen b) (are_one seen x) (λ is also. both_ways (are_one b x) differs (through seen b x is also))

  kept_last : (keys : List Key) → are_one x b ≡ false → others b (keys ++ x ∷ []) ≡ others b keys ++ x ∷ []
  kept_last keys differs = filter-append (λ other. not (are_one other b)) keys (x ∷ []) ∙ ap (λ c. others b keys ++ cond (not c) (x ∷ []) []) differs

  left_last : (keys : List Key) → are_one x b ≡ true → others b (keys ++ x ∷ []) ≡ others b keys
  left_last keys same = filter-append (λ other. not (are_one other b)) keys (x ∷ []) ∙ ap (λ c. others b keys ++ cond (not c) (x ∷ []) []) same ∙ append-nil (others b keys)

  -- a keyword more behind b
  abbrev Behind : List Key → Type 0
  Behind keys = with_key (b ∷ others b keys) x ≡ b ∷ others b (with_key keys x)

  is_first : (keys : List Key) (u : Bool) → list_any (λ seen. are_one seen x) keys ≡ u → are_one b x ≡ true → Behind keys
  is_first keys u there same = ap (λ c. cond (c || list_any (λ seen. are_one seen x) (others b keys)) (b ∷ others b keys) ((b ∷ others b keys) ++ x ∷ [])) same ∙ sym (ap (λ ks. b ∷ ks) (by u there))
    where
      by : (u : Bool) → list_any (λ seen. are_one seen x) keys ≡ u → others b (with_key keys x) ≡ others b keys
      by true there = ap (λ c. others b (cond c keys (keys ++ x ∷ []))) there
      by false there = ap (λ c. others b (cond c keys (keys ++ x ∷ []))) there ∙ left_last keys (flip b x same)

  is_other : (keys : List Key) (u : Bool) → list_any (λ seen. are_one seen x) keys ≡ u → are_one b x ≡ false → Behind keys
  is_other keys u there differs =
      ap (λ c. cond (c || list_any (λ seen. are_one seen x) (others b keys)) (b ∷ others b keys) ((b ∷ others b keys) ++ x ∷ [])) differs
      ∙ ap (λ c. cond c (b ∷ others b keys) ((b ∷ others b keys) ++ x ∷ [])) (kept_any keys differs)
      ∙ by u there
    where
      by : (u : Bool) → list_any (λ seen. are_one seen x) keys ≡ u → cond (list_any (λ seen. are_one seen x) keys) (b ∷ others b keys) ((b ∷ others b keys) ++ x ∷ []) ≡ b ∷ others b (with_key keys x)
      by true there =
          ap (λ c. cond c (b ∷ others b keys) ((b ∷ others b keys) ++ x ∷ [])) there ∙ sym (ap (λ c. b ∷ others b (cond c keys (keys ++ x ∷ []))) there)
      by false there =
          ap (λ c. cond c (b ∷ others b keys) ((b ∷ others b keys) ++ x ∷ [])) there ∙ sym (ap (λ c. b ∷ others b (cond c keys (keys ++ x ∷ []))) there ∙ ap (λ ks. b ∷ ks) (kept_last keys (not_flipped b x differs)))

  behind : (keys : List Key) → Behind keys
  behind keys = elim (cases_Bool (are_one b x)) [
    | inl same ↦ is_first keys (list_any (λ seen. are_one seen x) keys) refl same
    | inr differs ↦ is_other keys (list_any (λ seen. are_one seen x) keys) refl differs
  ]

pub one_more : (before : List Key) (key : Key) → with_key (first_keys before) key ≡ first_keys (before ++ key ∷ [])
one_more [] key = refl
one_more (b ∷ before) key = behind b key (first_keys before) ∙ ap (λ keys. b ∷ others b keys) (one_more before key)

-- ---- keywords that are lent
lent_any : (keys : List (Bor Key)) (key : Key) → list_any (λ seen. are_one seen key) (lent keys) ≡ list_any (λ (seen : Bor Key). are_one seen.now key) keys
lent_any keys key = any_map (λ (seen : Key). are_one seen key) (λ (k : Bor Key). k.now) keys

pub key_added : (keys slice new : List (Bor Key)) (key : Bor Key) (among : Bool) → slice ≡ keys → among ≡ list_any (λ (seen : Bor Key). are_one seen.now key.now) slice → among ≡ false → new ≡ keys ++ key ∷ [] → lent new ≡ with_key (lent keys) key.now
key_added keys slice new key among is told not_there added =
    let test : list_any (λ seen. are_one seen key.now) (lent keys) ≡ false = lent_any keys key.now ∙ ap (list_any (λ (seen : Bor Key). are_one seen.now key.now)) (sym is) ∙ sym told ∙ not_there in
    ap lent added ∙ map-append (λ (k : Bor Key). k.now) keys (key ∷ []) ∙ sym (ap (λ c. cond c (lent keys) (lent keys ++ key.now ∷ [])) test)

pub key_there : (keys slice : List (Bor Key)) (key : Bor Key) (among : Bool) → slice ≡ keys → among ≡ list_any (λ (seen : Bor Key). are_one seen.now key.now) slice → among ≡ true → lent keys ≡ with_key (lent keys) key.now
key_there keys slice key among is told there =
    let test : list_any (λ seen. are_one seen key.now) (lent keys) ≡ true = lent_any keys key.now ∙ ap (list_any (λ (seen : Bor Key). are_one seen.now key.now)) (sym is) ∙ sym told ∙ there in
    sym (ap (λ c. cond c (lent keys) (lent keys ++ key.now ∷ [])) test)

pub first_more : (all : List (Bor Key)) (i : ℕ) (key : Bor Key) (keys new : List (Bor Key)) → i < length all → key ≡ get_or all i key → lent keys ≡ first_keys (lent (take i all)) → lent new ≡ with_key (lent keys) key.now → lent new ≡ first_keys (lent (take (i + 1) all))
first_more all i key keys new low at was more =
    more ∙ ap (λ ks. with_key ks key.now) was ∙ one_more (lent (take i all)) key.now
    ∙ ap first_keys (sym (map_more (λ (k : Bor Key). k.now) all i key low ∙ ap (λ (k : Bor Key). lent (take i all) ++ k.now ∷ []) (sym at)))
