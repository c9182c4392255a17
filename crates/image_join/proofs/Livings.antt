-- The rows that live, listed part by part.
use Rattle.std.proofs.Common.{◌≡◌, ℕ, ◌+◌, ◌<◌, List, [], ◌∷◌, ◌++◌, true, false, cond, ◌==◌, not, map, length, get_or, take, refl, sym, ap, ◌∙◌, arith, length-take, append_assoc, append-nil}
use Rattle.std.specs.List.{filter, flat_map, list_any, enumerate_from}
use Rattle.std.proofs.lemmas.List.{map-append, take_more}
use Rattle.std.proofs.lemmas.List.Concat.{flat_map-append}
use Rattle.std.proofs.lemmas.List.Elements.{filter-append}
use Rattle.doc_types.specs.declared.documents.DocRow.{DocRow}
use Rattle.image_join.specs.declared.ordering.Living.{Living}
use Rattle.image_join.specs.steps.Numbering.{all_living_in, living_in}
use Rattle.image_join.specs.steps.Parts.{PartValue}

-- a row with its number, in a part
abbrev pub living_as : ℕ → ℕ × DocRow → Living
living_as part e = record { id = e.1.doc.id; part = part; row = e.0 }

-- rows of a part that live
abbrev pub living_among : ℕ → List ℕ → List DocRow → List Living
living_among part dead rows = map (living_as part) (filter (λ e. not (list_any (λ d. d == e.0) dead)) (enumerate_from 0 rows))

-- one more element of an enumeration
pub enumerate_more : {X : Type 0} (n : ℕ) (xs : List X) (x : X) → enumerate_from n (xs ++ x ∷ []) ≡ enumerate_from n xs ++ (n + length xs, x) ∷ []
enumerate_more n [] x = ap (λ k. (k, x) ∷ []) (omega arith)
enumerate_more n (y ∷ xs) x = ap (λ es. (n, y) ∷ es) (enumerate_more (n + 1) xs x ∙ ap (λ k. enumerate_from (n + 1) xs ++ (k, x) ∷ []) (omega arith))

enumerate_take : {X : Type 0} (xs : List X) (i : ℕ) (x : X) → i < length xs → x ≡ get_or xs i x → enumerate_from 0 (take (i + 1) xs) ≡ enumerate_from 0 (take i xs) ++ (i, x) ∷ []
enumerate_take {X} xs i x low is =
    ap (enumerate_from 0) (take_more xs i x low ∙ ap (λ (r : X). take i xs ++ r ∷ []) (sym is)) ∙ enumerate_more 0 (take i xs) x
    ∙ ap (λ k. enumerate_from 0 (take i xs) ++ (k, x) ∷ []) (omega (arith, length-take i xs, low))

-- one row more
pub living_more : (part : ℕ) (dead : List ℕ) (rows : List DocRow) (i : ℕ) (row : DocRow) (start now after : List Living) → i < length rows → row ≡ get_or rows i row
    → now ≡ start ++ living_among part dead (take i rows) → after ≡ now ++ cond (list_any (λ d. d == i) dead) [] (living_as part (i, row) ∷ [])
    → after ≡ start ++ living_among part dead (take (i + 1) rows)
living_more part dead rows i row start now after low is was put =
    let lives : ℕ × DocRow → _ = λ (e : ℕ × DocRow). not (list_any (λ d. d == e.0) dead) in
    let before = enumerate_from 0 (take i rows) in
    let own : map (living_as part) (filter lives ((i, row) ∷ [])) ≡ cond (list_any (λ d. d == i) dead) [] (living_as part (i, row) ∷ []) =
    elim (list_any (λ d. d == i) dead) as (λ b. map (living_as part) (cond (not b) ((i, row) ∷ []) []) ≡ cond b [] (living_as part (i, row) ∷ [])) [ true ↦ refl | false ↦ refl ] in
    let all : living_among part dead (take (i + 1) rows) ≡ living_among part dead (take i rows) ++ cond (list_any (λ d. d == i) dead) [] (living_as part (i, row) ∷ []) =
    ap (λ es. map (living_as part) (filter lives es)) (enumerate_take rows i row low is)
    ∙ ap (map (living_as part)) (filter-append lives before ((i, row) ∷ []))
    ∙ map-append (living_as part) (filter lives before) (filter lives ((i, row) ∷ []))
    ∙ ap (λ rest. living_among part dead (take i rows) ++ rest) own in
    put ∙ ap (λ l. l ++ cond (list_any (λ d. d == i) dead) [] (living_as part (i, row) ∷ [])) was
    ∙ append_assoc start (living_among part dead (take i rows)) (cond (list_any (λ d. d == i) dead) [] (living_as part (i, row) ∷ []))
    ∙ ap (λ l. start ++ l) (sym all)

-- one part more
pub listed_more : (parts : List PartValue) (i : ℕ) (part : PartValue) (now after : List Living) → i < length parts → part ≡ get_or parts i part
    → now ≡ all_living_in (take i parts) → after ≡ now ++ living_in i part → after ≡ all_living_in (take (i + 1) parts)
listed_more parts i part now after low is was put =
    let of : ℕ × PartValue → List Living = λ e. living_in e.0 e.1 in
    put ∙ ap (λ l. l ++ living_in i part) was ∙ ap (λ l. all_living_in (take i parts) ++ l) (sym (append-nil (living_in i part)))
    ∙ sym (flat_map-append of (enumerate_from 0 (take i parts)) ((i, part) ∷ [])) ∙ ap (flat_map of) (sym (enumerate_take parts i part low is))
