-- Each document has hits: what a query finds in it, put in order.
use Rattle.std.proofs.Common.{◌≡◌, ◌<◌, ℕ, Bool, true, false, cond, List, [], ◌∷◌, refl, sym, ap, ◌∙◌, arith, ◌⊎◌, inl, inr, ⊎_elim}
use Rattle.std.specs.Prelude.{◌&&◌, ◌||◌, ◌==◌, nat_lt, IsTrue, All}
use Rattle.std.specs.List.{list_any}
use Rattle.std.proofs.lemmas.Bool.{and_from, and_parts, eq-eqb, eqb-true, lt-ltb, ltb-true, or_cases, or_left, or_right}
use Rattle.std.proofs.lemmas.Bool.Decides.{nat_tests}
use Rattle.std.proofs.lemmas.List.Elements.{All-nil, All-cons, All-head, All-tail, All-weaker}
use Rattle.std.proofs.lemmas.List.Kept.{AllPairs-cons}
use Rattle.doc_types.specs.declared.documents.DocRow.{DocRow}
use Rattle.doc_types.specs.declared.hits.Hit.{Hit}
use Rattle.query_tree.specs.declared.query.Query.{Query}
use Rattle.occ_lists.specs.OccLists.{SameMembers}
use Rattle.op_eval.specs.Hits.{AreHits, comes_before}
use Rattle.op_eval.specs.Matching.{query_finds}
use Rattle.word_rows.proofs.Lists.{pairs_head, pairs_nil, pairs_tail}
use Rattle.doc_search.proofs.OneHits.{Rises}

abbrev Before : Hit → Hit → Type 0
Before hit later = IsTrue (comes_before hit later)

-- the one number is less, or they are the same and the rest decides
abbrev by_number : ℕ → ℕ → Bool → Bool
by_number a b rest = nat_lt a b || ((a == b) && rest)

number_cases : (a b : ℕ) (rest : Bool) → by_number a b rest ≡ true → (a < b) ⊎ ((a ≡ b) × (rest ≡ true))
number_cases a b rest is =
    ⊎_elim
    (λ less. inl (ltb-true a b less))
    (λ later. let parts = and_parts (a == b) rest later in inr (eqb-true a b parts.0, parts.1))
    (or_cases (nat_lt a b) ((a == b) && rest) is)

less : (a b : ℕ) (rest : Bool) → a < b → by_number a b rest ≡ true
less a b rest is = or_left (nat_lt a b) ((a == b) && rest) (lt-ltb a b is)

equal : (a b : ℕ) (rest : Bool) → a ≡ b → rest ≡ true → by_number a b rest ≡ true
equal a b rest is later = or_right (nat_lt a b) ((a == b) && rest) (and_from (a == b) rest (eq-eqb a b is) later)

then_by : (a b c : ℕ) (p q r : Bool) → (p ≡ true → q ≡ true → r ≡ true) → by_number a b p ≡ true → by_number b c q ≡ true → by_number a c r ≡ true
then_by a b c p q r rest one other =
    ⊎_elim
    (λ (low : a < b).
    ⊎_elim
    (λ (high : b < c). less a c r (omega (arith, low, high)))
    (λ (both : (b ≡ c) × (q ≡ true)). less a c r (omega (arith, low, both.0)))
    (number_cases b c q other))
    (λ (same : (a ≡ b) × (p ≡ true)).
    ⊎_elim
    (λ (high : b < c). less a c r (omega (arith, same.0, high)))
    (λ (both : (b ≡ c) × (q ≡ true)). equal a c r (same.0 ∙ both.0) (rest same.1 both.1))
    (number_cases b c q other))
    (number_cases a b p one)

later_still : (x y z : Hit) → Before x y → Before y z → Before x z
later_still x y z =
    then_by x.field y.field z.field _ _ _
    (then_by x.position y.position z.position _ _ _
    (then_by x.query y.query z.query _ _ _ (λ one other. lt-ltb x.word z.word (omega (arith, ltb-true x.word y.word one, ltb-true y.word z.word other)))))

by_fields : (x y : Hit) → x.query ≡ y.query → x.word ≡ y.word → x.field ≡ y.field → x.position ≡ y.position → x ≡ y
by_fields x y queries words fields positions = λ i. record { query = queries i; word = words i; field = fields i; position = positions i }

-- of two hits neither of which comes before the other there is one
same : (x y : Hit) → comes_before x y ≡ false → comes_before y x ≡ false → x ≡ y
same x y one other = by_fields x y (grind (arith, nat_tests)) (grind (arith, nat_tests)) (grind (arith, nat_tests)) (grind (arith, nat_tests))

-- a hit at its place, if it isn't there
abbrev with_hit : Hit → List Hit → List Hit
with_hit x [] = x ∷ []
with_hit x (y ∷ ys) = cond (comes_before x y) (x ∷ y ∷ ys) (cond (comes_before y x) (y ∷ with_hit x ys) (y ∷ ys))

-- ---- its members are the hit and the others
or_turn : (a b c : Bool) → (a || (b || c)) ≡ (b || (a || c))
or_turn true true c = refl
or_turn true false c = refl
or_turn false true c = refl
or_turn false false c = refl

or_twice : (a c : Bool) → (a || c) ≡ (a || (a || c))
or_twice true c = refl
or_twice false c = refl

module _ (passes : Hit → Bool) where
  members_by : (x y : Hit) (ys : List Hit) (b c : Bool) → comes_before x y ≡ b → comes_before y x ≡ c → list_any passes (with_hit x ys) ≡ (passes x || list_any passes ys) → list_any passes (cond b (x ∷ y ∷ ys) (cond c (y ∷ with_hit x ys) (y ∷ ys))) ≡ (passes x || list_any passes (y ∷ ys))
  members_by x y ys true c one other rest = refl
  members_by x y ys false true one other rest = ap (λ b. passes y || b) rest ∙ or_turn (passes y) (passes x) (list_any passes ys)
  members_by x y ys false false one other rest = or_twice (passes y) (list_any passes ys) ∙ ap (λ z. passes z || list_any passes (y ∷ ys)) (sym (same x y one other))

  members : (x : Hit) (ys : List Hit) → list_any passes (with_hit x ys) ≡ (passes x || list_any passes ys)
  members x [] = refl
  members x (y ∷ ys) = members_by x y ys (comes_before x y) (comes_before y x) refl refl (members x ys)

-- ---- and it ascends
all_by : (P : Hit → Type 0) (x y : Hit) (ys : List Hit) (b c : Bool) → P x → All P (y ∷ ys) → All P (with_hit x ys) → All P (cond b (x ∷ y ∷ ys) (cond c (y ∷ with_hit x ys) (y ∷ ys)))
all_by P x y ys true c one all rest = All-cons P x (y ∷ ys) one all
all_by P x y ys false true one all rest = All-cons P y (with_hit x ys) (All-head P y ys all) rest
all_by P x y ys false false one all rest = all

all_with : (P : Hit → Type 0) (x : Hit) (ys : List Hit) → P x → All P ys → All P (with_hit x ys)
all_with P x [] one all = All-cons P x [] one all
all_with P x (y ∷ ys) one all = all_by P x y ys (comes_before x y) (comes_before y x) one all (all_with P x ys one (All-tail P y ys all))

rises_by : (x y : Hit) (ys : List Hit) (b c : Bool) → comes_before x y ≡ b → comes_before y x ≡ c → Rises (y ∷ ys) → Rises (with_hit x ys) → Rises (cond b (x ∷ y ∷ ys) (cond c (y ∷ with_hit x ys) (y ∷ ys)))
rises_by x y ys true c one other rises rest =
    AllPairs-cons Before x (y ∷ ys) (All-cons (Before x) y ys one (All-weaker (Before y) (Before x) (λ z later. later_still x y z one later) ys (pairs_head Before y ys rises))) rises
rises_by x y ys false true one other rises rest = AllPairs-cons Before y (with_hit x ys) (all_with (Before y) x ys other (pairs_head Before y ys rises)) rest
rises_by x y ys false false one other rises rest = rises

rises_with : (x : Hit) (ys : List Hit) → Rises ys → Rises (with_hit x ys)
rises_with x [] rises = AllPairs-cons Before x [] (All-nil (Before x)) rises
rises_with x (y ∷ ys) rises = rises_by x y ys (comes_before x y) (comes_before y x) refl refl rises (rises_with x ys (pairs_tail Before y ys rises))

-- ---- all hits in order
abbrev in_order : List Hit → List Hit
in_order [] = []
in_order (x ∷ xs) = with_hit x (in_order xs)

ordered_rise : (xs : List Hit) → Rises (in_order xs)
ordered_rise [] = pairs_nil Before
ordered_rise (x ∷ xs) = rises_with x (in_order xs) (ordered_rise xs)

ordered_members : (xs : List Hit) → SameMembers (in_order xs) xs
ordered_members [] passes = refl
ordered_members (x ∷ xs) passes = members passes x (in_order xs) ∙ ap (λ b. passes x || b) (ordered_members xs passes)

-- what all of them have
pub all_ordered : (P : Hit → Type 0) (xs : List Hit) → All P xs → All P (in_order xs)
all_ordered P [] all = All-nil P
all_ordered P (x ∷ xs) all = all_with P x (in_order xs) (All-head P x xs all) (all_ordered P xs (All-tail P x xs all))

abbrev pub hits_of : Query → DocRow → List Hit
hits_of query doc = in_order (query_finds query doc).hits

pub are_its_hits : (query : Query) (doc : DocRow) → AreHits query doc (hits_of query doc)
are_its_hits query doc = record { ascend = ordered_rise (query_finds query doc).hits; all = ordered_members (query_finds query doc).hits }
