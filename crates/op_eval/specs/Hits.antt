-- The hits of a query in a row.
use Rattle.std.specs.Prelude.{List, Bool, ◌&&◌, ◌||◌, ◌==◌, nat_lt, IsTrue, AllPairs}
use Rattle.doc_types.specs.declared.documents.DocRow.{DocRow}
use Rattle.doc_types.specs.declared.hits.Hit.{Hit}
use Rattle.query_tree.specs.declared.query.Query.{Query}
use Rattle.occ_lists.specs.OccLists.{SameMembers}
use Rattle.op_eval.specs.Matching.{query_finds}

-- the one comes before the other: by field, position, query position and word
abbrev pub comes_before : Hit → Hit → Bool
comes_before hit later =
    nat_lt hit.field later.field
    || ((hit.field == later.field) && (nat_lt hit.position later.position
    || ((hit.position == later.position) && (nat_lt hit.query later.query
    || ((hit.query == later.query) && nat_lt hit.word later.word)))))

-- these are all of them, in this order, each once
pub record AreHits (query : Query) (row : DocRow) (hits : List Hit) : Type 0 where
  pub ascend : AllPairs (λ hit later. IsTrue (comes_before hit later)) hits
  pub all : SameMembers hits (query_finds query row).hits
