-- The rows of an index: a finite map from ids.
use Rattle.std.specs.Prelude.{List, map}
use Rattle.std.specs.Ordering.{nat_cmp}
use Rattle.std.specs.FinMap as finite
use Rattle.doc_types.specs.declared.documents.Doc.{Doc}
use Rattle.doc_types.specs.declared.documents.DocRow.{DocRow}

-- rows by their ids, and documents by their ids
abbrev pub Rows : Type 0
Rows = finite.FinMap nat_cmp DocRow

abbrev pub Docs : Type 0
Docs = finite.FinMap nat_cmp Doc

-- the documents of rows, without the numbers of the commits that put them
abbrev pub docs : Rows → Docs
docs rows = finite.from_entries (map (λ entry. (entry.0, entry.1.doc)) (finite.entries rows))

-- the map of a list of rows with distinct ids
abbrev pub rows_of : List DocRow → Rows
rows_of rows = finite.from_entries (map (λ row. (row.doc.id, row)) rows)
