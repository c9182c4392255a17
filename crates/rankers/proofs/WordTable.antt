-- The table of the words that were met, as it is after some hits.
use Rattle.std.proofs.Common.{◌≡◌, ◌≢◌, ℕ, ◌+◌, ◌<◌, Bool, true, false, cond, ◌||◌, ◌&&◌, ◌==◌, nat_eq, List, [], ◌∷◌, ◌++◌, map, length, get_or, take, set, inl, inr, refl, sym, ap, ◌∙◌, subst, arith}
use Rattle.std.specs.List.{All, list_any}
use Rattle.std.specs.Set.{unique_keys, is_member, distinct_count}
use Rattle.std.proofs.lemmas.Bool.{cases_eq, or_left, or_right, eq-eqb, ne_eqb, eqb-true, true≢false}
use Rattle.std.proofs.lemmas.List.{length-set, take_more, get_or-set_same, get_or-set_other, map-append, append-nil}
use Rattle.std.proofs.lemmas.List.Elements.{filter-append}
use Rattle.std.proofs.lemmas.List.Folds.{list_any-append}
use Rattle.doc_types.specs.declared.hits.Hit.{Hit}
use Rattle.rankers.specs.Weight.{in_field}

pub longer : (b : Bool) (n : ℕ) (ns : List ℕ) → length (cond b ns (n ∷ ns)) ≡ cond b 0 1 + length ns
longer true n ns = omega arith
longer false n ns = omega arith

joined : (met again same : Bool) (count : ℕ) → (same ≡ true → met ≡ again) → cond (met || (same || false)) 0 1 + (count + cond again 0 1) ≡ (cond met 0 1 + count) + cond (same || again) 0 1
joined true true true count h = omega arith
joined true true false count h = omega arith
joined true false true count h = absurd (true≢false (h refl))
joined true false false count h = omega arith
joined false true true count h = absurd (true≢false (sym (h refl)))
joined false true false count h = omega arith
joined false false true count h = omega arith
joined false false false count h = omega arith

flipped : (a b : ℕ) → nat_eq a b ≡ nat_eq b a
flipped a b =
    elim (cases_eq a b) [
      | inl same ↦ eq-eqb a b same ∙ sym (eq-eqb b a (sym same))
      | inr other ↦ ne_eqb a b other ∙ sym (ne_eqb b a (λ e. other (sym e)))
    ]

or_none : (b : Bool) → (b || false) ≡ b
or_none true = refl
or_none false = refl

-- what is among numbers with one more
pub member_push : (numbers : List ℕ) (number n : ℕ) → is_member nat_eq (numbers ++ number ∷ []) n ≡ (is_member nat_eq numbers n || (nat_eq n number || false))
member_push numbers number n = list_any-append (nat_eq n) numbers (number ∷ [])

-- one more number
pub distinct_push : (numbers : List ℕ) (number : ℕ) → distinct_count nat_eq (numbers ++ number ∷ []) ≡ distinct_count nat_eq numbers + cond (is_member nat_eq numbers number) 0 1
distinct_push [] number = refl
distinct_push (n ∷ ns) number =
    let met : Bool = is_member nat_eq ns n in
    let again : Bool = is_member nat_eq ns number in
    let count : ℕ = distinct_count nat_eq ns in
    longer (is_member nat_eq (ns ++ number ∷ []) n) n (unique_keys nat_eq (ns ++ number ∷ []))
    ∙ (ap (λ b. cond b 0 1 + distinct_count nat_eq (ns ++ number ∷ [])) (member_push ns number n)
    ∙ (ap (λ m. cond (met || (nat_eq n number || false)) 0 1 + m) (distinct_push ns number)
    ∙ (joined met again (nat_eq n number) count (λ t. ap (is_member nat_eq ns) (eqb-true n number t))
    ∙ (ap (λ b. (cond met 0 1 + count) + cond (b || again) 0 1) (flipped n number)
    ∙ ap (λ m. m + cond (nat_eq number n || again) 0 1) (sym (longer met n (unique_keys nat_eq ns)))))))

-- the words of the hits in a field
abbrev pub words_in : ℕ → List Hit → List ℕ
words_in field hits = map (λ hit. hit.word) (in_field field hits)

words_split : (field : ℕ) (hits : List Hit) (hit : Hit) → words_in field (hits ++ hit ∷ []) ≡ words_in field hits ++ words_in field (hit ∷ [])
words_split field hits hit =
    ap (map (λ hit. hit.word)) (filter-append (λ hit. hit.field == field) hits (hit ∷ []))
    ∙ map-append (λ (hit : Hit). hit.word) (in_field field hits) (in_field field (hit ∷ []))

words_push : (field : ℕ) (hits : List Hit) (hit : Hit) → hit.field ≡ field → words_in field (hits ++ hit ∷ []) ≡ words_in field hits ++ hit.word ∷ []
words_push field hits hit own =
    words_split field hits hit ∙ ap (λ b. words_in field hits ++ map (λ (hit : Hit). hit.word) (cond b (hit ∷ []) [])) (eq-eqb hit.field field own)

words_other : (field : ℕ) (hits : List Hit) (hit : Hit) → hit.field ≢ field → words_in field (hits ++ hit ∷ []) ≡ words_in field hits
words_other field hits hit other =
    words_split field hits hit
    ∙ (ap (λ b. words_in field hits ++ map (λ (hit : Hit). hit.word) (cond b (hit ∷ []) [])) (ne_eqb hit.field field other) ∙ append-nil (words_in field hits))

-- the table has the words of the field's hits, which are so many
pub record AreMet (field : ℕ) (met : List Bool) (count : ℕ) (hits : List Hit) : Type 0 where
  pub each : (word : ℕ) → word < length met → get_or met word false ≡ is_member nat_eq (words_in field hits) word
  pub counted : count ≡ distinct_count nat_eq (words_in field hits)

pub met_none : (field : ℕ) (met : List Bool) → All (λ word. word ≡ false) met → AreMet field met 0 []
met_none field met none = record { each = λ word h. none word false h; counted = refl }

-- a hit of another field
pub met_other : (field : ℕ) (met : List Bool) (count : ℕ) (hits : List Hit) (hit : Hit) → hit.field ≢ field → AreMet field met count hits → AreMet field met count (hits ++ hit ∷ [])
met_other field met count hits hit other are =
    let same = sym (words_other field hits hit other) in
    record {
      each = λ word h. are.each word h ∙ ap (λ ws. is_member nat_eq ws word) same;
      counted = are.counted ∙ ap (distinct_count nat_eq) same;
    }

module _ (field : ℕ) (met : List Bool) (count : ℕ) (hits : List Hit) (hit : Hit) (own : hit.field ≡ field) (within : hit.word < length met) (are : AreMet field met count hits) where
  members : (word : ℕ) → is_member nat_eq (words_in field (hits ++ hit ∷ [])) word ≡ (is_member nat_eq (words_in field hits) word || (nat_eq word hit.word || false))
  members word = ap (λ ws. is_member nat_eq ws word) (words_push field hits hit own) ∙ member_push (words_in field hits) hit.word word

  others : (word : ℕ) → word ≢ hit.word → is_member nat_eq (words_in field (hits ++ hit ∷ [])) word ≡ is_member nat_eq (words_in field hits) word
  others word other =
      members word
      ∙ (ap (λ b. is_member nat_eq (words_in field hits) word || (b || false)) (ne_eqb word hit.word other) ∙ or_none (is_member nat_eq (words_in field hits) word))

  itself : is_member nat_eq (words_in field (hits ++ hit ∷ [])) hit.word ≡ true
  itself = members hit.word ∙ or_right _ (nat_eq hit.word hit.word || false) (or_left (nat_eq hit.word hit.word) false (eq-eqb hit.word hit.word refl))

  counts : distinct_count nat_eq (words_in field (hits ++ hit ∷ [])) ≡ count + cond (get_or met hit.word false) 0 1
  counts =
      ap (distinct_count nat_eq) (words_push field hits hit own)
      ∙ (distinct_push (words_in field hits) hit.word
      ∙ (ap (λ n. n + cond (is_member nat_eq (words_in field hits) hit.word) 0 1) (sym are.counted) ∙ ap (λ b. count + cond b 0 1) (sym (are.each hit.word within))))

  -- a word that was met
  pub met_again : get_or met hit.word false ≡ true → AreMet field met count (hits ++ hit ∷ [])
  met_again known = record {
    each = λ word h.
        elim (cases_eq word hit.word) [
          | inl same ↦ subst (λ (w : ℕ). get_or met w false ≡ is_member nat_eq (words_in field (hits ++ hit ∷ [])) w) (sym same) (known ∙ sym itself)
          | inr other ↦ are.each word h ∙ sym (others word other)
        ];
    counted = (let is = counts ∙ ap (λ b. count + cond b 0 1) known in omega arith);
  }

  -- a word that wasn't
  pub met_more : get_or met hit.word false ≡ false → AreMet field (set met hit.word true) (count + 1) (hits ++ hit ∷ [])
  met_more new = record {
    each = λ word h.
        elim (cases_eq word hit.word) [
          | inl same ↦
              subst
              (λ (w : ℕ). get_or (set met hit.word true) w false ≡ is_member nat_eq (words_in field (hits ++ hit ∷ [])) w)
              (sym same)
              (get_or-set_same met hit.word true false within ∙ sym itself)
          | inr other ↦
              get_or-set_other met hit.word word true false other
              ∙ (are.each word (omega (arith, length-set met hit.word true)) ∙ sym (others word other))
        ];
    counted = (let is = counts ∙ ap (λ b. count + cond b 0 1) new in omega arith);
  }

-- the hit at a place of the list
module _ (field : ℕ) (met : List Bool) (count : ℕ) (hits : List Hit) (i : ℕ) (d : Hit) (inside : i < length hits) (are : AreMet field met count (take i hits)) where
  pub next_other : (get_or hits i d).field ≢ field → AreMet field met count (take (i + 1) hits)
  next_other other = subst (AreMet field met count) (sym (take_more hits i d inside)) (met_other field met count (take i hits) (get_or hits i d) other are)

  module _ (at : ℕ) (here : at ≡ (get_or hits i d).word) (own : (get_or hits i d).field ≡ field) (room : at < length met) where
    pub next_again : get_or met at false ≡ true → AreMet field met count (take (i + 1) hits)
    next_again known =
        subst
        (AreMet field met count)
        (sym (take_more hits i d inside))
        (met_again field met count (take i hits) (get_or hits i d) own (omega arith) are (subst (λ (w : ℕ). get_or met w false ≡ true) here known))

    pub next_more : get_or met at false ≡ false → AreMet field (set met at true) (count + 1) (take (i + 1) hits)
    next_more new =
        subst
        (λ (w : ℕ). AreMet field (set met w true) (count + 1) (take (i + 1) hits))
        (sym here)
        (subst
        (AreMet field (set met (get_or hits i d).word true) (count + 1))
        (sym (take_more hits i d inside))
        (met_more field met count (take i hits) (get_or hits i d) own (omega arith) are (subst (λ (w : ℕ). get_or met w false ≡ false) here new)))

-- ---- hits that are looked for among those before them

member_kept : (word : ℕ) (b : Bool) (hit : Hit) (hits : List Hit) → is_member nat_eq (map (λ (h : Hit). h.word) (cond b (hit ∷ hits) hits)) word ≡ ((b && nat_eq word hit.word) || is_member nat_eq (map (λ (h : Hit). h.word) hits) word)
member_kept word true hit hits = refl
member_kept word false hit hits = refl

any_is_member : (field word : ℕ) (hits : List Hit) → list_any (λ hit. (hit.field == field) && (hit.word == word)) hits ≡ is_member nat_eq (words_in field hits) word
any_is_member field word [] = refl
any_is_member field word (hit ∷ hits) =
    ap (λ b. ((hit.field == field) && (hit.word == word)) || b) (any_is_member field word hits)
    ∙ (ap (λ b. ((hit.field == field) && b) || is_member nat_eq (words_in field hits) word) (flipped hit.word word)
    ∙ sym (member_kept word (hit.field == field) hit (in_field field hits)))

module _ (field : ℕ) (hits : List Hit) (i : ℕ) (d : Hit) (inside : i < length hits) where
  -- a hit of another field, and one of this field, whose word was met or not
  pub count_other : (get_or hits i d).field ≢ field → distinct_count nat_eq (words_in field (take (i + 1) hits)) ≡ distinct_count nat_eq (words_in field (take i hits))
  count_other other =
      ap (λ hs. distinct_count nat_eq (words_in field hs)) (take_more hits i d inside) ∙ ap (distinct_count nat_eq) (words_other field (take i hits) (get_or hits i d) other)

  pub count_own : (get_or hits i d).field ≡ field → (met : Bool) → met ≡ list_any (λ hit. (hit.field == field) && (hit.word == (get_or hits i d).word)) (take i hits)
      → distinct_count nat_eq (words_in field (take (i + 1) hits)) ≡ distinct_count nat_eq (words_in field (take i hits)) + cond met 0 1
  count_own own met is =
      ap (λ hs. distinct_count nat_eq (words_in field hs)) (take_more hits i d inside)
      ∙ (ap (distinct_count nat_eq) (words_push field (take i hits) (get_or hits i d) own)
      ∙ (distinct_push (words_in field (take i hits)) (get_or hits i d).word
      ∙ ap (λ b. distinct_count nat_eq (words_in field (take i hits)) + cond b 0 1) (sym (is ∙ any_is_member field (get_or hits i d).word (take i hits)))))

pub met_same : (field : ℕ) (met met' : List Bool) (count count' : ℕ) (hits : List Hit) → met' ≡ met → count' ≡ count → AreMet field met count hits → AreMet field met' count' hits
met_same field met met' count count' hits e f are =
    subst (λ (n : ℕ). AreMet field met' n hits) (sym f) (subst (λ (ms : List Bool). AreMet field ms count hits) (sym e) are)
