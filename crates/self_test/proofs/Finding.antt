-- What a SELECT of ids replies: that it is refused, or the rows that it finds.
use Rattle.std.proofs.Common.{◌≡◌, ℕ, ◌+◌, List, [], ◌∷◌, ◌++◌, Option, Some, None, length, map, refl, sym, ap, ◌∙◌, subst, arith, inl, inr, length-append}
use Rattle.std.specs.Prelude.{codes, pos}
use Rattle.std.proofs.lemmas.List.{length-map}
use Rattle.mysql_wire.specs.LengthEncoded.{lenenc}
use Rattle.mysql_wire.specs.Replies.{eof_payload}
use Rattle.mysql_wire.specs.Rows.{column_payload, row_payload}
use Rattle.mysql_wire.specs.declared.rows.Column.{Column}
use Rattle.index_conf.specs.declared.conf.IndexConf.{IndexConf}
use Rattle.doc_types.specs.Snapshots.{SnapshotValue, all_living}
use Rattle.ql_tree.specs.declared.select.Select.{Select}
use Rattle.ql_tree.specs.declared.statement.Statement.{Statement}
use Rattle.ql_tree.specs.declared.statement.Statement.TheVariants as statements
use Rattle.ql_tree.specs.declared.select.Comparison.TheVariants as comparisons
use Rattle.ql_tree.specs.declared.select.Cond.{Cond}
use Rattle.ql_tree.specs.declared.select.Cond.TheVariants as conds
use Rattle.ql_tree.specs.declared.select.OptionValue.TheVariants as values
use Rattle.ql_tree.specs.declared.select.LimitPart.{LimitPart}
use Rattle.ql_tree.specs.declared.select.SelectOption.{SelectOption}
use Rattle.ql_refusals.specs.Refusals.{Refused, no_memory, rank_out_of_range, too_many_prefix_words}
use Rattle.ql_select.specs.Selections.{Selects}
use Rattle.ql_select.specs.declared.selection.Selection.{Selection}
use Rattle.ql_select.specs.declared.selection.Shown.{Shown}
use Rattle.reply_rows.specs.ResultSets.{sets_payloads}
use Rattle.reply_rows.specs.declared.result_set.ResultSet.{ResultSet}
use Rattle.table_search.specs.Tables.{AreTables}
use Rattle.table_search.specs.declared.found.Found.{Found}
use Rattle.table_search.specs.declared.found.FoundTable.{FoundTable}
use Rattle.table_search.specs.declared.found.FoundTable.TheVariants.{Groups as GroupTable, Rows}
use Rattle.ql_answers.specs.Reading.{WantsSearch, facet_sets, found_sets, table_set}
use Rattle.ql_answers.specs.Replies.{Fails, Reply, payloads}
use Rattle.ql_answers.specs.Sessions.{Decides, DecidesSearch, need_of, pending_of}
use Rattle.ql_answers.specs.declared.event.Need.TheVariants as needs
use Rattle.ql_answers.specs.declared.plan.Plan.{Plan}
use Rattle.ql_answers.specs.declared.plan.Plan.TheVariants.{Search}
use Rattle.ql_answers.specs.declared.state.State.{State}
use Rattle.ql_session.specs.Events.{Commit, Configured, Event, Follows, NoMemory, Nothing, Read, Reshape, StoreWords}
use Rattle.ql_session.specs.Statements.{Meets, Replies, told}
use Rattle.self_test.specs.Asking.{IsTold}
use Rattle.self_test.specs.Findings.{FindsRows}
use Rattle.self_test.specs.Texts.{count_select, query_of, selecting}
use Rattle.self_test.specs.declared.summary.Count.{Count}
use Rattle.self_test.specs.declared.summary.Count.TheVariants.{Words, Pairs, Groups}

-- a result set of one column has four packets beside its rows
pub one_set : (status : ℕ) (set : ResultSet) → length set.columns ≡ 1 → length (sets_payloads status (set ∷ [])) ≡ length set.rows + 4
one_set status set one =
    let head : List (List ℕ) = lenenc (length set.columns) ∷ map column_payload set.columns in
    let body : List (List ℕ) = eof_payload status ∷ map row_payload set.rows in
    let end : List (List ℕ) = eof_payload status ∷ [] in
    omega (arith, one, length-append (head ++ body ++ end) [], length-append (head ++ body) end, length-append head body, length-map set.columns column_payload, length-map set.rows row_payload)

-- What a SELECT of ids shows: one column, and no facets.

module _ (conf : IndexConf) (cond : Cond) (limit : LimitPart) (options : List SelectOption) (selection : Selection) (selects : Selects conf (selecting cond limit options) selection) where
  no_facets : selection.facets ≡ []
  no_facets = ap (λ (s : Selection). s.facets) selects.means

  one_shown : length selection.shown ≡ 1
  one_shown = ap (λ (s : Selection). length s.shown) selects.means

  one_column : (table : FoundTable) → length (table_set selection.shown table).columns ≡ 1
  one_column (Rows rows) = length-map selection.shown (λ (one : Shown). one.column) ∙ one_shown
  one_column (GroupTable groups) = length-map selection.shown (λ (one : Shown). one.column) ∙ one_shown

  sets_one : (found : Found) → found_sets selection found ≡ table_set selection.shown found.table ∷ []
  sets_one found = ap (λ (columns : List Column). table_set selection.shown found.table ∷ facet_sets columns found.facets) no_facets

module _ {D F : Type 0} (confs : D → List IndexConf) (words : StoreWords D F) where
  -- The rows that a SELECT finds are replied, as one result set of one column.
  pub record HasFound (select : Select) (reply : Reply) (before left : D) : Type 0 where
    pub set : ResultSet
    pub one : length set.columns ≡ 1
    pub finds : FindsRows confs words select (length set.rows) before left
    pub is : (status : ℕ) → payloads status reply ≡ sets_payloads status (set ∷ [])

  -- It is refused; or its rows are replied.
  pub data Answered (select : Select) (reply : Reply) (before left : D) : Type 0 where
    refused : (refusal : Refused) → reply ≡ Fails refusal → Answered select reply before left
    found : HasFound select reply before left → Answered select reply before left

  module _ (cond : Cond) (limit : LimitPart) (options : List SelectOption) (old new : State) (before left : D) (reply : Reply) where
    abbrev select : Select
    select = selecting cond limit options

    by_decision : (place at : ℕ) (front : F) (selection : Selection) → at ≡ place → WantsSearch (confs before) select place selection
        → DecidesSearch selection (all_living (words.documents front).layers) reply → Follows confs words before (Read at front) left → Answered select reply before left
    by_decision place at front selection here wants (inl (tables, are, is)) follows =
        let set : ResultSet = table_set selection.shown tables.table in
        let sets : found_sets selection tables ≡ set ∷ [] = sets_one wants.conf cond limit options selection wants.selects tables in
        found (record {
          set = set;
          one = one_column wants.conf cond limit options selection wants.selects tables.table;
          finds = record {
            place = place;
            selection = selection;
            wants = wants;
            front = front;
            reads = subst (λ (n : ℕ). Follows confs words before (Read n front) left) here follows;
            found = tables;
            finds = are;
            many = refl;
          };
          is = λ (status : ℕ). ap (λ (r : Reply). payloads status r) is ∙ ap (λ (list : List ResultSet). sets_payloads status list) sets;
        })
    by_decision place at front selection here wants (inr (inl (id, lacking, is))) follows = refused (rank_out_of_range id) is
    by_decision place at front selection here wants (inr (inr (count, many, is))) follows = refused (too_many_prefix_words count) is

    -- what came of the SELECT
    by_event : (place : ℕ) (selection : Selection) (event : Event F) → WantsSearch (confs before) select place selection
        → Meets (needs.Read place) None event → Decides (Search place selection) (told words.documents event) reply → Follows confs words before event left → Answered select reply before left
    by_event place selection (Configured others) wants meets decides follows = absurd meets
    by_event place selection Nothing wants meets decides follows = absurd meets
    by_event place selection NoMemory wants meets decides follows = absurd meets
    by_event place selection (Read at front) wants meets decides follows = by_decision place at front selection meets wants decides follows
    by_event place selection (Commit at ops outcome front) wants meets decides follows = absurd meets
    by_event place selection (Reshape at done outcome own front) wants meets decides follows = absurd meets

    by_replies : (event : Event F) → Replies words.documents (confs before) old (statements.Select select) event reply new → Follows confs words before event left → Answered select reply before left
    by_replies event (inl (refusal, refuses, idle, is, same)) follows = refused refusal is
    by_replies event (inr (inl (plan, (place, selection, wants, planned), meets, decides, next))) follows =
        by_event place selection event wants
        (subst (λ (p : Plan). Meets (need_of p) (pending_of old p) event) planned meets)
        (subst (λ (p : Plan). Decides p (told words.documents event) reply) planned decides) follows
    by_replies event (inr (inr (takes, none, is, same))) follows = refused no_memory is

    pub answered : IsTold confs words (statements.Select select) reply old before new left → Answered select reply before left
    answered is = by_replies is.event is.replies is.follows

  -- So it is of what a selftest counts.
  pub count_answered : (count : Count) (number : ℕ) (old new : State) (before left : D) (reply : Reply) → IsTold confs words (statements.Select (count_select count number)) reply old before new left
      → Answered (count_select count number) reply before left
  count_answered Words number old new before left reply is =
      answered (conds.Match (query_of Words number)) (record { first = 0; second = Some 100000 }) (record { name = codes "max_matches"; value = values.Number 100000 } ∷ []) old new before left reply is
  count_answered Pairs number old new before left reply is =
      answered (conds.Match (query_of Pairs number)) (record { first = 0; second = Some 100000 }) (record { name = codes "max_matches"; value = values.Number 100000 } ∷ []) old new before left reply is
  count_answered Groups number old new before left reply is =
      answered (conds.Compare (codes "gid") comparisons.Equal (pos number)) (record { first = 0; second = Some 1 }) [] old new before left reply is
