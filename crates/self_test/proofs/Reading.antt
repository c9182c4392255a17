-- What a selftest's SELECTs read: the documents that were written and no others, whose ids are small.
use Rattle.std.proofs.Common.{◌≡◌, ◌≤◌, ◌<◌, ℕ, zero, suc, ◌+◌, ◌^◌, List, [], ◌∷◌, Bool, true, false, cond, Option, Some, map, length, refl, sym, ap, subst, ◌∙◌, arith}
use Rattle.std.specs.Prelude.{All, slice_index_or}
use Rattle.std.specs.FinMap as finite
use Rattle.std.specs.List.{AllByRecursion}
use Rattle.std.specs.Ordering.{eq_by_cmp, nat_cmp}
use Rattle.std.proofs.lemmas.Bool.Decides.{nat_tests}
use Rattle.std.proofs.lemmas.Cmp.{nat_cmp_total}
use Rattle.doc_types.specs.Rows.{Rows, rows_of}
use Rattle.doc_types.specs.declared.documents.Doc.{Doc}
use Rattle.doc_types.specs.declared.documents.DocRow.{DocRow}
use Rattle.index_conf.specs.declared.conf.IndexConf.{IndexConf}
use Rattle.self_test.specs.Loads.{AreStored}
use Rattle.self_test.specs.declared.generator.Document.{Document}
use Rattle.self_test.proofs.Brief.{IsSmallDoc}
use Rattle.self_test.proofs.Inserting.{docs_of}

abbrev keyed : DocRow → ℕ × DocRow
keyed row = (row.doc.id, row)

-- what is stored of few documents has small ids
pub small_stored : (conf : IndexConf) (before : ℕ) (documents : List Document) (rows : List DocRow) → AreStored conf before documents (docs_of rows) → before + length documents ≤ 100000 → AllByRecursion IsSmallDoc rows
small_stored conf before [] [] are few = tt
small_stored conf before [] (row ∷ rows) are few = absurd are
small_stored conf before (document ∷ documents) [] are few = absurd are
small_stored conf before (document ∷ documents) (row ∷ rows) are few =
    (omega (arith, few, ap (λ (d : Doc). d.id) are.0.is), small_stored conf (before + 1) documents rows are.1 (omega (arith, few)))

same_keys : (a b : ℕ) → eq_by_cmp nat_cmp a b ≡ true → a ≡ b
same_keys a b same = grind (arith, nat_tests)

own_key : (a : ℕ) → eq_by_cmp nat_cmp a a ≡ true
own_key a = grind (arith, nat_tests)

by_key : (b : Bool) (id other : ℕ) (row found : DocRow) (rest : Option DocRow) → (b ≡ true → id ≡ other) → other < 2 ^ 64 → (rest ≡ Some found → id < 2 ^ 64) → cond b (Some row) rest ≡ Some found → id < 2 ^ 64
by_key true id other row found rest same here there is = subst (λ (n : ℕ). n < 2 ^ 64) (sym (same refl)) here
by_key false id other row found rest same here there is = there is

-- an id under which one of such rows is found is small
found_small : (rows : List DocRow) (id : ℕ) (found : DocRow) → AllByRecursion IsSmallDoc rows → finite.find nat_cmp id (map keyed rows) ≡ Some found → id < 2 ^ 64
found_small [] id found small is = absurd (cc is)
found_small (row ∷ rows) id found small is =
    by_key (eq_by_cmp nat_cmp id row.doc.id) id row.doc.id row found (finite.find nat_cmp id (map keyed rows)) (same_keys id row.doc.id) small.0 (found_small rows id found small.1) is

either_row : (b : Bool) (row : DocRow) (rest : Option DocRow) → (b ≡ false → (found : DocRow) × (rest ≡ Some found)) → (found : DocRow) × (cond b (Some row) rest ≡ Some found)
either_row true row rest there = (row, refl)
either_row false row rest there = there refl

-- a row of a list is found under its id, or another one is
found_at : (rows : List DocRow) (k : ℕ) (d : DocRow) → k < length rows → (found : DocRow) × (finite.find nat_cmp (slice_index_or rows k d).doc.id (map keyed rows) ≡ Some found)
found_at [] k d below = absurd (omega (arith, below))
found_at (row ∷ rows) zero d below =
    either_row (eq_by_cmp nat_cmp row.doc.id row.doc.id) row (finite.find nat_cmp row.doc.id (map keyed rows)) (λ differs. absurd (cc (own_key row.doc.id, differs)))
found_at (row ∷ rows) (suc k) d below =
    either_row (eq_by_cmp nat_cmp (slice_index_or rows k d).doc.id row.doc.id) row (finite.find nat_cmp (slice_index_or rows k d).doc.id (map keyed rows)) (λ differs. found_at rows k d (omega (arith, below)))

-- rows that are the same by their ids have small ids too
pub small_read : (read rows : List DocRow) → rows_of read ≡ rows_of rows → AllByRecursion IsSmallDoc rows → All IsSmallDoc read
small_read read rows same small = λ k d below.
    let id : ℕ = (slice_index_or read k d).doc.id in
    let (found, at) = found_at read k d below in
    found_small rows id found small
    (sym (finite.get-from_entries nat_cmp_total (map keyed rows) id) ∙ ap (λ (m : Rows). finite.get m id) (sym same) ∙ finite.get-from_entries nat_cmp_total (map keyed read) id ∙ at)
