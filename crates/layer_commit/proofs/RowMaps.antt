-- Rows by their ids, as lists and as maps, and what changes make of them.
use Rattle.std.proofs.Common.{◌≡◌, ℕ, List, [], ◌∷◌, ◌++◌, Bool, true, false, cond, ◌==◌, ◌||◌, not, Option, Some, None, is_some, map, refl, sym, ap, ◌∙◌}
use Rattle.std.specs.FinMap as finite
use Rattle.std.specs.List.{filter, find, fold}
use Rattle.std.specs.Option.{option_or}
use Rattle.std.specs.Ordering.{nat_cmp}
use Rattle.std.specs.Cmp.{unsigned_tied, unsigned_ties}
use Rattle.std.proofs.lemmas.Cmp.{eq_by_cmp_equiv, nat_cmp_total}
use Rattle.std.proofs.lemmas.List.Folds.{find-append}
use Rattle.std.proofs.lemmas.Map.Views.{exact_unsigned_eq}
use Rattle.doc_types.specs.declared.documents.DocRow.{DocRow}
use Rattle.doc_types.specs.Commits.{Change, Put, Kill, Clear, after_change}
use Rattle.doc_types.specs.Rows.{Rows, rows_of}
use Rattle.doc_types.proofs.Ids.{apart}
use Rattle.layer_commit.specs.Commits.{names, named, row_at}
use Rattle.layer_commit.specs.steps.Trying.{row_after, row_then}

pub true_false : true ≡ false → ⊥
true_false e = cc

pub flipped : (a b : ℕ) → (a == b) ≡ (b == a)
flipped a b = unsigned_ties a b ∙ (eq_by_cmp_equiv nat_cmp_total).symm a b ∙ unsigned_tied b a

pub equal : (a b : ℕ) → (a == b) ≡ true → a ≡ b
equal a b h = exact_unsigned_eq a b h

found : (rows : List DocRow) (id : ℕ) → finite.find nat_cmp id (map (λ row. (row.doc.id, row)) rows) ≡ find (λ row. row.doc.id == id) rows
found [] id = refl
found (row ∷ rows) id =
    ap (λ b. cond b (Some row) (finite.find nat_cmp id (map (λ (row : DocRow). (row.doc.id, row)) rows))) (unsigned_tied id row.doc.id ∙ flipped id row.doc.id)
    ∙ ap (cond (row.doc.id == id) (Some row)) (found rows id)

-- the map of rows gives the first one that has the id
pub get_rows : (rows : List DocRow) (id : ℕ) → finite.get (rows_of rows) id ≡ find (λ row. row.doc.id == id) rows
get_rows rows id = finite.get-from_entries nat_cmp_total (map (λ (row : DocRow). (row.doc.id, row)) rows) id ∙ found rows id

get_change : (number id : ℕ) (rows : Rows) (change : Change) → finite.get (after_change number rows change) id ≡ row_then number id (finite.get rows id) change
get_change number id rows (Put doc) =
    finite.get-insert nat_cmp_total rows doc.id (row_at number doc) id ∙ ap (λ b. cond b (Some (row_at number doc)) (finite.get rows id)) (unsigned_tied id doc.id ∙ flipped id doc.id)
get_change number id rows (Kill killed) = finite.get-remove nat_cmp_total rows killed id ∙ ap (λ b. cond b None (finite.get rows id)) (unsigned_tied id killed ∙ flipped id killed)
get_change number id rows Clear = finite.get-empty nat_cmp id

-- changes act on each id apart
pub get_changes : (number id : ℕ) (rows : Rows) (changes : List Change) → finite.get (fold (after_change number) rows changes) id ≡ row_after number id (finite.get rows id) changes
get_changes number id rows [] = refl
get_changes number id rows (change ∷ changes) =
    get_changes number id (after_change number rows change) changes ∙ ap (λ o. row_after number id o changes) (get_change number id rows change)

unnamed_then : (number id : ℕ) (o : Option DocRow) (change : Change) → names change id ≡ false → row_then number id o change ≡ o
unnamed_then number id o (Put doc) e = ap (λ b. cond b (Some (row_at number doc)) o) e
unnamed_then number id o (Kill killed) e = ap (λ b. cond b None o) e
unnamed_then number id o Clear e = absurd (true_false e)

named_then : (number id : ℕ) (o other : Option DocRow) (change : Change) → names change id ≡ true → row_then number id o change ≡ row_then number id other change
named_then number id o other (Put doc) e = ap (λ b. cond b (Some (row_at number doc)) o) e ∙ sym (ap (λ b. cond b (Some (row_at number doc)) other) e)
named_then number id o other (Kill killed) e = ap (λ b. cond b None o) e ∙ sym (ap (λ b. cond b None other) e)
named_then number id o other Clear e = refl

pub first_false : (a b : Bool) → (a || b) ≡ false → a ≡ false
first_false true b e = e
first_false false b e = refl

pub second_false : (a b : Bool) → (a || b) ≡ false → b ≡ false
second_false true b e = absurd (true_false e)
second_false false b e = e

-- the row of an id that no change names stays
pub unnamed : (number id : ℕ) (o : Option DocRow) (changes : List Change) → named changes id ≡ false → row_after number id o changes ≡ o
unnamed number id o [] e = refl
unnamed number id o (change ∷ changes) e =
    ap (λ p. row_after number id p changes) (unnamed_then number id o change (first_false (names change id) (named changes id) e))
    ∙ unnamed number id o changes (second_false (names change id) (named changes id) e)

-- what becomes of an id that is named doesn't depend on what was there
pub named_alike : (number id : ℕ) (changes : List Change) → named changes id ≡ true → (o other : Option DocRow) → row_after number id o changes ≡ row_after number id other changes
named_alike number id [] e o other = absurd (true_false (sym e))
named_alike number id (change ∷ changes) e o other =
    elim (names change id) as (λ b. names change id ≡ b → (b || named changes id) ≡ true → row_after number id (row_then number id o change) changes ≡ row_after number id (row_then number id other change) changes) [
      | true ↦ λ is h. ap (λ p. row_after number id p changes) (named_then number id o other change is)
      | false ↦ λ is h. named_alike number id changes h (row_then number id o change) (row_then number id other change)
    ] refl e

-- rows of which those of some ids are left out
module _ (out : ℕ → Bool) (id : ℕ) where
  pub dropped : (rows : List DocRow) → out id ≡ true → find (λ row. row.doc.id == id) (filter (λ row. not (out row.doc.id)) rows) ≡ None
  dropped [] e = refl
  dropped (row ∷ rows) e =
      elim (out row.doc.id) as (λ b. out row.doc.id ≡ b → find (λ row. row.doc.id == id) (cond (not b) (row ∷ filter (λ row. not (out row.doc.id)) rows) (filter (λ row. not (out row.doc.id)) rows)) ≡ None) [
        | true ↦ λ is. dropped rows e
        | false ↦ λ is.
            ap (λ b. cond b (Some row) (find (λ row. row.doc.id == id) (filter (λ row. not (out row.doc.id)) rows))) (apart row.doc.id id (λ same. true_false (sym e ∙ ap out (sym same) ∙ is)))
            ∙ dropped rows e
      ] refl

  pub kept : (rows : List DocRow) → out id ≡ false → find (λ row. row.doc.id == id) (filter (λ row. not (out row.doc.id)) rows) ≡ find (λ row. row.doc.id == id) rows
  kept [] e = refl
  kept (row ∷ rows) e =
      elim (out row.doc.id) as (λ b. out row.doc.id ≡ b → find (λ row. row.doc.id == id) (cond (not b) (row ∷ filter (λ row. not (out row.doc.id)) rows) (filter (λ row. not (out row.doc.id)) rows)) ≡ cond (row.doc.id == id) (Some row) (find (λ row. row.doc.id == id) rows)) [
        | true ↦ λ is.
            kept rows e
            ∙ sym (ap (λ b. cond b (Some row) (find (λ row. row.doc.id == id) rows)) (apart row.doc.id id (λ same. true_false (sym is ∙ ap out same ∙ e))))
        | false ↦ λ is. ap (cond (row.doc.id == id) (Some row)) (kept rows e)
      ] refl

or_none : (o : Option DocRow) → option_or o None ≡ o
or_none None = refl
or_none (Some row) = refl

-- the rows that changes put, by their ids
pub put_at : (number id : ℕ) (changes : List Change) (put : List DocRow) → rows_of put ≡ fold (after_change number) finite.empty changes → find (λ row. row.doc.id == id) put ≡ row_after number id None changes
put_at number id changes put are =
    sym (get_rows put id)
    ∙ ap (λ rows. finite.get rows id) are
    ∙ get_changes number id finite.empty changes
    ∙ ap (λ o. row_after number id o changes) (finite.get-empty nat_cmp id)

joined_at : (number id : ℕ) (changes : List Change) (rows put : List DocRow) → rows_of put ≡ fold (after_change number) finite.empty changes
    → option_or (find (λ row. row.doc.id == id) (filter (λ row. not (named changes row.doc.id)) rows)) (find (λ row. row.doc.id == id) put) ≡ row_after number id (find (λ row. row.doc.id == id) rows) changes
joined_at number id changes rows put are =
    elim (named changes id) as (λ b. named changes id ≡ b → option_or (find (λ row. row.doc.id == id) (filter (λ row. not (named changes row.doc.id)) rows)) (find (λ row. row.doc.id == id) put) ≡ row_after number id (find (λ row. row.doc.id == id) rows) changes) [
      | true ↦ λ e.
          ap (λ o. option_or o (find (λ row. row.doc.id == id) put)) (dropped (named changes) id rows e)
          ∙ put_at number id changes put are
          ∙ named_alike number id changes e None (find (λ row. row.doc.id == id) rows)
      | false ↦ λ e.
          ap (option_or (find (λ row. row.doc.id == id) (filter (λ row. not (named changes row.doc.id)) rows))) (put_at number id changes put are ∙ unnamed number id None changes e)
          ∙ or_none (find (λ row. row.doc.id == id) (filter (λ row. not (named changes row.doc.id)) rows))
          ∙ kept (named changes) id rows e
          ∙ sym (unnamed number id (find (λ row. row.doc.id == id) rows) changes e)
    ] refl

-- the rows that changes don't name and those that they put are all rows after them
pub rows_after : (number : ℕ) (changes : List Change) (rows put : List DocRow) → rows_of put ≡ fold (after_change number) finite.empty changes
    → rows_of (filter (λ row. not (named changes row.doc.id)) rows ++ put) ≡ fold (after_change number) (rows_of rows) changes
rows_after number changes rows put are =
    finite.same_map nat_cmp_total finite.nat_cmp-IsAntisymmetric (rows_of (filter (λ row. not (named changes row.doc.id)) rows ++ put)) (fold (after_change number) (rows_of rows) changes) (λ id.
    get_rows (filter (λ row. not (named changes row.doc.id)) rows ++ put) id
    ∙ find-append (λ (row : DocRow). row.doc.id == id) (filter (λ row. not (named changes row.doc.id)) rows) put
    ∙ joined_at number id changes rows put are
    ∙ ap (λ o. row_after number id o changes) (sym (get_rows rows id))
    ∙ sym (get_changes number id (rows_of rows) changes))

-- a row that was put is named
pub named_put : (number : ℕ) (changes : List Change) (put : List DocRow) (id : ℕ) → rows_of put ≡ fold (after_change number) finite.empty changes → is_some (find (λ row. row.doc.id == id) put) ≡ true → named changes id ≡ true
named_put number changes put id are some =
    elim (named changes id) as (λ b. named changes id ≡ b → b ≡ true) [
      | true ↦ λ e. refl
      | false ↦ λ e. absurd (true_false (sym some ∙ ap is_some (put_at number id changes put are ∙ unnamed number id None changes e)))
    ] refl
