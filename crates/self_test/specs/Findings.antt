-- What a SELECT finds through a store.
use Rattle.std.specs.Prelude.{◌≡◌, ℕ, List, length}
use Rattle.doc_types.specs.Snapshots.{all_living}
use Rattle.index_conf.specs.declared.conf.IndexConf.{IndexConf}
use Rattle.ql_tree.specs.declared.select.Select.{Select}
use Rattle.ql_select.specs.declared.selection.Selection.{Selection}
use Rattle.table_search.specs.Tables.{AreTables}
use Rattle.table_search.specs.declared.found.Found.{Found}
use Rattle.ql_answers.specs.Reading.{WantsSearch, table_set}
use Rattle.ql_session.specs.Events.{Follows, Read, StoreWords}

-- The index that a SELECT names was read, and by what the SELECT wants of it so many rows are shown of the documents that were seen.
pub record FindsRows {D F : Type 0} (confs : D → List IndexConf) (words : StoreWords D F) (select : Select) (rows : ℕ) (before left : D) : Type 0 where
  pub place : ℕ
  pub selection : Selection
  pub wants : WantsSearch (confs before) select place selection
  pub front : F
  pub reads : Follows confs words before (Read place front) left
  pub found : Found
  pub finds : AreTables selection.asked (all_living (words.documents front).layers) found
  pub many : length (table_set selection.shown found.table).rows ≡ rows
