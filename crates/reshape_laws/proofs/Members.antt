-- Lists of rows apart, by their members.
use Rattle.std.proofs.Common.{◌≡◌, ◌≢◌, ℕ, zero, suc, List, [], ◌∷◌, ◌++◌, Bool, true, false, ◌==◌, ◌||◌, not, cond, get_or, refl, sym, ap, subst, ◌∙◌, arith, ◌⊎◌, inl, inr, ⊎_elim}
use Rattle.std.specs.List as holes
use Rattle.std.specs.List.{filter, Contains}
use Rattle.std.specs.List.Sorted.{IsPermutation}
use Rattle.std.proofs.lemmas.Bool.Decides.{nat_tests}
use Rattle.std.proofs.lemmas.List.Elements.{Contains-append_right, Contains-append_cases}
use Rattle.std.proofs.lemmas.List.Sorted.{IsPermutation-refl, IsPermutation-trans, IsPermutation-sym, IsPermutation-append_right, IsPermutation-swap_remove, IsPermutation-filter_both, Contains-permutation}
use Rattle.doc_types.specs.declared.documents.DocRow.{DocRow}
use Rattle.reshape_laws.specs.Rebasing.{has_id}
use Rattle.layer_joins.specs.Joins.{AreApart}
use Rattle.reshape_laws.proofs.Ids.{apart_permutation, apart_front}

one : (y z : DocRow) → Contains (y ∷ []) z → y ≡ z
one y z (zero, h, e) = e
one y z (suc k, h, e) = absurd (omega (arith, h))

pub cons_cases : (y : DocRow) (ys : List DocRow) (z : DocRow) → Contains (y ∷ ys) z → (y ≡ z) ⊎ Contains ys z
cons_cases y ys z has = ⊎_elim (λ h. inl (one y z h)) (λ h. inr h) (Contains-append_cases (y ∷ []) ys z has)

pub here : (y : DocRow) (ys : List DocRow) → Contains (y ∷ ys) y
here y ys = (zero, omega arith, refl)

pub later : (y : DocRow) (ys : List DocRow) (z : DocRow) → Contains ys z → Contains (y ∷ ys) z
later y ys z has = Contains-append_right (y ∷ []) ys z has

pub nothing : (z : DocRow) → Contains [] z → ⊥
nothing z has = let h = has.1 in absurd (omega (arith, h))

pub head_apart : (x : DocRow) (xs : List DocRow) (z : DocRow) → AreApart (x ∷ xs) → Contains xs z → x.doc.id ≢ z.doc.id
head_apart x xs z apart has e =
    let ne : x.doc.id ≢ (get_or xs has.0 z).doc.id = apart 0 (suc has.0) z (omega arith) (let h = has.1 in omega (arith, h)) in
    ne (e ∙ ap (λ (r : DocRow). r.doc.id) (sym has.2))

pub tail_apart : (x : DocRow) (xs : List DocRow) → AreApart (x ∷ xs) → AreApart xs
tail_apart x xs apart = λ i j d l h. apart (suc i) (suc j) d (omega (arith, l)) (omega (arith, h))

-- of rows apart, two of one id are one
pub one_row : (xs : List DocRow) (a b : DocRow) → AreApart xs → Contains xs a → Contains xs b → a.doc.id ≡ b.doc.id → a ≡ b
one_row [] a b apart ha hb e = absurd (nothing a ha)
one_row (x ∷ xs) a b apart ha hb e =
    ⊎_elim
    (λ (xa : x ≡ a). ⊎_elim
    (λ (xb : x ≡ b). sym xa ∙ xb)
    (λ hb'. absurd (head_apart x xs b apart hb' (ap (λ (r : DocRow). r.doc.id) xa ∙ e)))
    (cons_cases x xs b hb))
    (λ ha'. ⊎_elim
    (λ (xb : x ≡ b). absurd (head_apart x xs a apart ha' (ap (λ (r : DocRow). r.doc.id) xb ∙ sym e)))
    (λ hb'. one_row xs a b (tail_apart x xs apart) ha' hb' e)
    (cons_cases x xs b hb))
    (cons_cases x xs a ha)

-- rows apart with the same members are one list in two orders
pub same_members : (xs ys : List DocRow) → AreApart xs → AreApart ys → ((z : DocRow) → Contains xs z → Contains ys z) → ((z : DocRow) → Contains ys z → Contains xs z) → IsPermutation xs ys
same_members [] [] ax ay forth back = IsPermutation-refl []
same_members [] (y ∷ ys) ax ay forth back = absurd (nothing y (back y (here y ys)))
same_members (x ∷ xs) ys ax ay forth back =
    let c = forth x (here x xs) in
    let ys' = holes.swap_remove ys c.0 x in
    let p : IsPermutation ys (x ∷ ys') = IsPermutation-swap_remove ys c.0 x c.1 (sym c.2) in
    let ay' : AreApart (x ∷ ys') = apart_permutation ys (x ∷ ys') p ay in
    let rest : IsPermutation xs ys' =
    same_members xs ys' (tail_apart x xs ax) (tail_apart x ys' ay')
    (λ z h. ⊎_elim (λ (e : x ≡ z). absurd (head_apart x xs z ax h (ap (λ (r : DocRow). r.doc.id) e))) (λ h'. h') (cons_cases x ys' z (Contains-permutation ys (x ∷ ys') z p (forth z (later x xs z h)))))
    (λ z h. ⊎_elim (λ (e : x ≡ z). absurd (head_apart x ys' z ay' h (ap (λ (r : DocRow). r.doc.id) e))) (λ h'. h') (cons_cases x xs z (back z (Contains-permutation (x ∷ ys') ys z (IsPermutation-sym ys (x ∷ ys') p) (later x ys' z h))))) in
    IsPermutation-trans (x ∷ xs) (x ∷ ys') ys (IsPermutation-append_right (x ∷ []) xs ys' rest) (IsPermutation-sym ys (x ∷ ys') p)

-- what a filter keeps
pub kept : (p : DocRow → Bool) (xs : List DocRow) (z : DocRow) → Contains xs z → p z ≡ true → Contains (filter p xs) z
kept p [] z has pz = absurd (nothing z has)
kept p (x ∷ xs) z has pz =
    elim (p x) as (λ b. p x ≡ b → Contains (cond b (x ∷ filter p xs) (filter p xs)) z) [
      | true ↦ λ e. ⊎_elim (λ (xz : x ≡ z). subst (λ w. Contains (x ∷ filter p xs) w) xz (here x (filter p xs))) (λ h. later x (filter p xs) z (kept p xs z h pz)) (cons_cases x xs z has)
      | false ↦ λ e. ⊎_elim (λ (xz : x ≡ z). absurd (cc (e, ap p xz, pz))) (λ h. kept p xs z h pz) (cons_cases x xs z has)
    ] refl

pub passed : (p : DocRow → Bool) (xs : List DocRow) (z : DocRow) → Contains (filter p xs) z → Contains xs z × (p z ≡ true)
passed p [] z has = absurd (nothing z has)
passed p (x ∷ xs) z has =
    elim (p x) as (λ b. p x ≡ b → Contains (cond b (x ∷ filter p xs) (filter p xs)) z → Contains (x ∷ xs) z × (p z ≡ true)) [
      | true ↦ λ e has. ⊎_elim (λ (xz : x ≡ z). (subst (λ w. Contains (x ∷ xs) w) xz (here x xs), ap p (sym xz) ∙ e)) (λ h. (let r = passed p xs z h in (later x xs z r.0, r.1))) (cons_cases x (filter p xs) z has)
      | false ↦ λ e has. (let r = passed p xs z has in (later x xs z r.0, r.1))
    ] refl has

pub filter_apart : (p : DocRow → Bool) (xs : List DocRow) → AreApart xs → AreApart (filter p xs)
filter_apart p xs apart = apart_front (filter p xs) (filter (λ x. not (p x)) xs) (apart_permutation xs (filter p xs ++ filter (λ x. not (p x)) xs) (IsPermutation-filter_both p (λ x. not (p x)) (λ x. refl) xs) apart)

eq_true : (a b : ℕ) → a ≡ b → (a == b) ≡ true
eq_true a b h = grind (arith, nat_tests)

eq_of : (a b : ℕ) → (a == b) ≡ true → a ≡ b
eq_of a b h = grind (arith, nat_tests)

or_true : (b : Bool) → (b || true) ≡ true
or_true true = refl
or_true false = refl

pub id_there : (xs : List DocRow) (z : DocRow) → Contains xs z → has_id xs z.doc.id ≡ true
id_there [] z has = absurd (nothing z has)
id_there (x ∷ xs) z has =
    ⊎_elim (λ (e : x ≡ z). rw (eq_true x.doc.id z.doc.id (ap (λ (r : DocRow). r.doc.id) e)) refl) (λ h. rw (id_there xs z h) (or_true (x.doc.id == z.doc.id))) (cons_cases x xs z has)

pub there_id : (xs : List DocRow) (id : ℕ) → has_id xs id ≡ true → (z : DocRow) × Contains xs z × (z.doc.id ≡ id)
there_id [] id e = cc
there_id (x ∷ xs) id e =
    elim (x.doc.id == id) as (λ b. (x.doc.id == id) ≡ b → (b || has_id xs id) ≡ true → (z : DocRow) × Contains (x ∷ xs) z × (z.doc.id ≡ id)) [
      | true ↦ λ h e. (x, here x xs, eq_of x.doc.id id h)
      | false ↦ λ h e. (let r = there_id xs id e in (r.0, later x xs r.0 r.1, r.2))
    ] refl e

-- of rows apart, those whose ids some of them have are these
pub chosen : (all some : List DocRow) → AreApart all → AreApart some → ((z : DocRow) → Contains some z → Contains all z) → IsPermutation some (filter (λ row. has_id some row.doc.id) all)
chosen all some aa as_ inside =
    same_members some (filter (λ row. has_id some row.doc.id) all) as_ (filter_apart (λ row. has_id some row.doc.id) all aa)
    (λ z h. kept (λ row. has_id some row.doc.id) all z (inside z h) (id_there some z h))
    (λ z h. (let p = passed (λ row. has_id some row.doc.id) all z h in let t = there_id some z.doc.id p.1 in subst (λ w. Contains some w) (one_row all t.0 z aa (inside t.0 t.1) p.0 t.2) t.1))

-- rows of two parts that are apart have two ids
pub across : (xs ys : List DocRow) (a b : DocRow) → AreApart (xs ++ ys) → Contains xs a → Contains ys b → a.doc.id ≡ b.doc.id → ⊥
across [] ys a b apart ha hb e = nothing a ha
across (x ∷ xs) ys a b apart ha hb e =
    ⊎_elim
    (λ (xa : x ≡ a). head_apart x (xs ++ ys) b apart (Contains-append_right xs ys b hb) (ap (λ (r : DocRow). r.doc.id) xa ∙ e))
    (λ h. across xs ys a b (tail_apart x (xs ++ ys) apart) h hb e)
    (cons_cases x xs a ha)
