-- Rows apart by their ids: members of two parts have two ids, and parts without a common id are apart together.
use Rattle.std.proofs.Common.{◌≡◌, ◌≢◌, ℕ, zero, suc, List, [], ◌∷◌, ◌++◌, true, false, ◌==◌, ◌||◌, get_or, refl, sym, ap, ◌∙◌, arith, ◌⊎◌, inl, inr, ⊎_elim, AllPairs}
use Rattle.std.specs.List.{Contains, list_any}
use Rattle.std.proofs.lemmas.Bool.Decides.{nat_tests}
use Rattle.std.proofs.lemmas.List.Elements.{Contains-append_cases, Contains-append_right}
use Rattle.doc_types.specs.declared.documents.DocRow.{DocRow}

abbrev pub AreApart : List DocRow → Type 0
AreApart rows = AllPairs (λ row other. row.doc.id ≢ other.doc.id) rows

one : (y z : DocRow) → Contains (y ∷ []) z → y ≡ z
one y z (zero, h, e) = e
one y z (suc k, h, e) = absurd (omega (arith, h))

cons_cases : (y : DocRow) (ys : List DocRow) (z : DocRow) → Contains (y ∷ ys) z → (y ≡ z) ⊎ Contains ys z
cons_cases y ys z has = ⊎_elim (λ h. inl (one y z h)) (λ h. inr h) (Contains-append_cases (y ∷ []) ys z has)

nothing : (z : DocRow) → Contains [] z → ⊥
nothing z has = let h = has.1 in absurd (omega (arith, h))

head_apart : (x : DocRow) (xs : List DocRow) (z : DocRow) → AreApart (x ∷ xs) → Contains xs z → x.doc.id ≢ z.doc.id
head_apart x xs z apart has e =
    let ne : x.doc.id ≢ (get_or xs has.0 z).doc.id = apart 0 (suc has.0) z (omega arith) (let h = has.1 in omega (arith, h)) in
    ne (e ∙ ap (λ (r : DocRow). r.doc.id) (sym has.2))

tail_apart : (x : DocRow) (xs : List DocRow) → AreApart (x ∷ xs) → AreApart xs
tail_apart x xs apart = λ i j d l h. apart (suc i) (suc j) d (omega (arith, l)) (omega (arith, h))

-- rows of two parts that are apart have two ids
pub across : (xs ys : List DocRow) (a b : DocRow) → AreApart (xs ++ ys) → Contains xs a → Contains ys b → a.doc.id ≡ b.doc.id → ⊥
across [] ys a b apart ha hb e = nothing a ha
across (x ∷ xs) ys a b apart ha hb e =
    ⊎_elim
    (λ (xa : x ≡ a). head_apart x (xs ++ ys) b apart (Contains-append_right xs ys b hb) (ap (λ (r : DocRow). r.doc.id) xa ∙ e))
    (λ h. across xs ys a b (tail_apart x (xs ++ ys) apart) h hb e)
    (cons_cases x xs a ha)

eq_of : (a b : ℕ) → (a == b) ≡ true → a ≡ b
eq_of a b h = grind (arith, nat_tests)

-- a row has the id
pub there_id : (xs : List DocRow) (id : ℕ) → list_any (λ row. row.doc.id == id) xs ≡ true → (z : DocRow) × Contains xs z × (z.doc.id ≡ id)
there_id [] id e = cc
there_id (x ∷ xs) id e =
    elim (x.doc.id == id) as (λ b. (x.doc.id == id) ≡ b → (b || list_any (λ row. row.doc.id == id) xs) ≡ true → (z : DocRow) × Contains (x ∷ xs) z × (z.doc.id ≡ id)) [
      | true ↦ λ h e. (x, (zero, omega arith, refl), eq_of x.doc.id id h)
      | false ↦ λ h e. (let r = there_id xs id e in (r.0, Contains-append_right (x ∷ []) xs r.0 r.1, r.2))
    ] refl e
