-- The hits of a document are one list: they ascend, and it is given which hits they are.
use Rattle.std.proofs.Common.{◌≡◌, Bool, true, false, List, [], ◌∷◌, refl, sym, ap, ◌∙◌, subst, arith, ◌⊎◌, inl, inr, ⊎_elim}
use Rattle.std.specs.Prelude.{◌&&◌, ◌||◌, ◌==◌, not, IsTrue, All, AllPairs}
use Rattle.std.specs.List.{list_any}
use Rattle.std.proofs.Math.Bool.{and-true}
use Rattle.std.proofs.lemmas.Bool.{and_parts, and_right, eqb-true, false_from_ne_true, or_cases, or_left}
use Rattle.std.proofs.lemmas.Bool.Decides.{nat_tests}
use Rattle.std.proofs.lemmas.List.Elements.{All-head, All-tail}
use Rattle.doc_types.specs.declared.hits.Hit.{Hit}
use Rattle.occ_lists.specs.OccLists.{SameMembers}
use Rattle.op_eval.specs.Hits.{comes_before}
use Rattle.word_rows.proofs.Lists.{pairs_head, pairs_tail}

abbrev Before : Hit → Hit → Type 0
Before hit later = IsTrue (comes_before hit later)

abbrev pub Rises : List Hit → Type 0
Rises hits = AllPairs Before hits

-- the hit is this one
abbrev is_it : Hit → Hit → Bool
is_it x hit = (x.query == hit.query) && ((x.word == hit.word) && ((x.field == hit.field) && (x.position == hit.position)))

itself : (x : Hit) → is_it x x ≡ true
itself x = grind (arith, nat_tests)

not_both : (x y : Hit) → Before x y → Before y x → ⊥
not_both x y one other = grind (arith, nat_tests)

alike : (x y : Hit) → x.query ≡ y.query → x.word ≡ y.word → x.field ≡ y.field → x.position ≡ y.position → x ≡ y
alike x y queries words fields positions = λ i. record { query = queries i; word = words i; field = fields i; position = positions i }

it_is : (x y : Hit) → is_it x y ≡ true → x ≡ y
it_is x y is =
    let query = and_parts (x.query == y.query) ((x.word == y.word) && ((x.field == y.field) && (x.position == y.position))) is in
    let word = and_parts (x.word == y.word) ((x.field == y.field) && (x.position == y.position)) query.1 in
    let place = and_parts (x.field == y.field) (x.position == y.position) word.1 in
    alike x y (eqb-true _ _ query.0) (eqb-true _ _ word.0) (eqb-true _ _ place.0) (eqb-true _ _ place.1)

-- a hit after another one isn't it
apart : (x y : Hit) → Before x y → is_it x y ≡ false
apart x y before = false_from_ne_true (is_it x y) (λ is. not_both x y before (subst (λ z. Before z x) (it_is x y is) (subst (Before x) (sym (it_is x y is)) before)))

-- one that is among later ones is later
is_later : (x y : Hit) (ys : List Hit) → All (Before y) ys → list_any (is_it x) ys ≡ true → Before y x
is_later x y [] above among = cc
is_later x y (z ∷ ys) above among =
    ⊎_elim
    (λ is. subst (Before y) (sym (it_is x z is)) (All-head (Before y) z ys above))
    (λ later. is_later x y ys (All-tail (Before y) z ys above) later)
    (or_cases (is_it x z) (list_any (is_it x) ys) among)

-- the first of one list is the first of the other, or comes after that
first_or_later : (x y : Hit) (xs ys : List Hit) → Rises (y ∷ ys) → SameMembers (x ∷ xs) (y ∷ ys) → (x ≡ y) ⊎ Before y x
first_or_later x y xs ys rises same =
    let among : list_any (is_it x) (y ∷ ys) ≡ true = sym (same (is_it x)) ∙ or_left (is_it x x) (list_any (is_it x) xs) (itself x) in
    ⊎_elim
    (λ is. inl (it_is x y is))
    (λ later. inr (is_later x y ys (pairs_head Before y ys rises) later))
    (or_cases (is_it x y) (list_any (is_it x) ys) among)

one_first : (x y : Hit) (xs ys : List Hit) → Rises (x ∷ xs) → Rises (y ∷ ys) → SameMembers (x ∷ xs) (y ∷ ys) → x ≡ y
one_first x y xs ys one other same =
    ⊎_elim
    (λ is. is)
    (λ (later : Before y x).
    ⊎_elim
    (λ is. sym is)
    (λ earlier. absurd (not_both x y earlier later))
    (first_or_later y x ys xs one (λ passes. sym (same passes))))
    (first_or_later x y xs ys other same)

-- a test without the hits that are this one
abbrev but : Hit → (Hit → Bool) → Hit → Bool
but x passes hit = passes hit && not (is_it x hit)

but_first : (x : Hit) (passes : Hit → Bool) (xs : List Hit) → list_any (but x passes) (x ∷ xs) ≡ list_any (but x passes) xs
but_first x passes xs = ap (λ b. b || list_any (but x passes) xs) (and_right (passes x) (not (is_it x x)) (ap not (itself x)))

but_later : (x : Hit) (passes : Hit → Bool) (xs : List Hit) → All (Before x) xs → list_any (but x passes) xs ≡ list_any passes xs
but_later x passes [] above = refl
but_later x passes (y ∷ xs) above =
    ap (λ b. (passes y && not b) || list_any (but x passes) xs) (apart x y (All-head (Before x) y xs above))
    ∙ ap (λ b. b || list_any (but x passes) xs) (and-true (passes y))
    ∙ ap (λ b. passes y || b) (but_later x passes xs (All-tail (Before x) y xs above))

without_first : (x : Hit) (passes : Hit → Bool) (xs : List Hit) → Rises (x ∷ xs) → list_any (but x passes) (x ∷ xs) ≡ list_any passes xs
without_first x passes xs rises = but_first x passes xs ∙ but_later x passes xs (pairs_head Before x xs rises)

pub one_hits : (xs ys : List Hit) → Rises xs → Rises ys → SameMembers xs ys → xs ≡ ys
one_hits [] [] one other same = refl
one_hits [] (y ∷ ys) one other same = let none : false ≡ true = same (λ hit. true) in cc
one_hits (x ∷ xs) [] one other same = let none : true ≡ false = same (λ hit. true) in cc
one_hits (x ∷ xs) (y ∷ ys) one other same =
    let first : x ≡ y = one_first x y xs ys one other same in
    let rises : Rises (x ∷ ys) = subst (λ z. Rises (z ∷ ys)) (sym first) other in
    let both : SameMembers (x ∷ xs) (x ∷ ys) = subst (λ z. SameMembers (x ∷ xs) (z ∷ ys)) (sym first) same in
    let rest : xs ≡ ys = one_hits xs ys (pairs_tail Before x xs one) (pairs_tail Before y ys other) (λ passes. sym (without_first x passes xs one) ∙ both (but x passes) ∙ without_first x passes ys rises) in
    ap (λ z. z ∷ xs) first ∙ ap (λ zs. y ∷ zs) rest
