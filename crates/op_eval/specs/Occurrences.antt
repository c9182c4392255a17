-- The occurrences of a query in a row.
use Rattle.std.specs.Prelude.{List}
use Rattle.doc_types.specs.declared.documents.DocRow.{DocRow}
use Rattle.query_tree.specs.declared.query.Query.{Query}
use Rattle.occ_lists.specs.declared.occ.Occ.{Occ}
use Rattle.occ_lists.specs.OccLists.{SameMembers, Ascend}
use Rattle.op_eval.specs.Matching.{query_finds}

-- these are all of them: by field, first and last position, each once
pub record AreOccurrences (query : Query) (row : DocRow) (occs : List Occ) : Type 0 where
  pub ascend : Ascend occs
  pub all : SameMembers occs (query_finds query row).occurrences
