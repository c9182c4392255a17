-- What came of a plan has one reply, and what is replied to a search depends on the documents alone.
use Rattle.std.proofs.Common.{◌≡◌, ℕ, List, length, inl, inr, refl, sym, ap, ◌∙◌}
use Rattle.std.specs.FinMap as finite
use Rattle.std.specs.Prelude.{◌≢◌, AllPairs, min}
use Rattle.doc_types.specs.declared.documents.DocRow.{DocRow}
use Rattle.doc_types.specs.Rows.{Rows, rows_of}
use Rattle.doc_types.specs.Snapshots.{AreLayers, SnapshotValue, all_living, live}
use Rattle.query_tree.specs.declared.query.Query.{Query}
use Rattle.table_search.specs.Keywords.{word_docs}
use Rattle.table_search.specs.Tables.{AreTables}
use Rattle.table_search.specs.declared.asked.Asked.{Asked}
use Rattle.table_search.specs.declared.found.Found.{Found}
use Rattle.table_search.specs.declared.keywords.WordDocs.{WordDocs}
use Rattle.ql_answers.specs.declared.plan.Counted.TheVariants as counting
use Rattle.ql_answers.specs.declared.job_outcome.JobOutcome.{JobOutcome}
use Rattle.ql_answers.specs.declared.plan.Plan.{Plan}
use Rattle.ql_answers.specs.declared.plan.Plan.TheVariants.{Agree, Commit, Keep, Put, Reshape, Search, Show, Status}
use Rattle.ql_answers.specs.declared.state.State.{State}
use Rattle.ql_answers.specs.Metas.{max_matches, meta_of}
use Rattle.ql_answers.specs.Reading.{found_sets}
use Rattle.commit_outcomes.specs.declared.outcome.CommitOutcome.{CommitOutcome}
use Rattle.prefix_search.specs.Searches.{AreFound, AreTooMany, IsFirstLacking}
use Rattle.doc_search.specs.declared.question.Question.{Question}
use Rattle.row_select.specs.declared.row.Row.{Row}
use Rattle.ql_refusals.specs.Refusals.{no_memory, rank_out_of_range, too_many_prefix_words}
use Rattle.ql_answers.specs.Replies.{Fails, Finds, Reply, Shows}
use Rattle.ql_answers.specs.Sessions.{AreAlike, Committing, Decides, Happened, HasLayers, LookAlike, NoMemory, Nothing, Read, Reshaping, after_plan, disk_count, next_of, reply_to_commit, reply_to_job, told_by}
use Rattle.ql_answers.specs.Showing.{index_status}
use Rattle.ql_answers.specs.States.{telling}

abbrev DocsApart : List DocRow → Type 0
DocsApart docs = AllPairs (λ doc later. doc.doc.id ≢ later.doc.id) docs

-- a SELECT finds the same among the documents, in whatever order they are listed, and so are its words counted
abbrev FindsOne : Type 0
FindsOne =
    (asked : Asked) (docs others : List DocRow) (found other : Found) → DocsApart docs → DocsApart others → rows_of docs ≡ rows_of others → AreTables asked docs found → AreTables asked others other → found ≡ other

abbrev CountsOne : Type 0
CountsOne = (query : Query) (docs others : List DocRow) → DocsApart docs → DocsApart others → rows_of docs ≡ rows_of others → word_docs query docs ≡ word_docs query others

-- want of memory is told whatever the plan is
pub without_memory : (plan : Plan) (reply : Reply) → Decides plan NoMemory reply → reply ≡ Fails no_memory
without_memory (Agree turn) reply is = is
without_memory (Show set) reply is = is
without_memory (Search place selection) reply is = is
without_memory (Status place) reply is = is
without_memory (Keep place txn affected) reply is = is
without_memory (Put place txn counted) reply is = is
without_memory (Commit place turn) reply is = is
without_memory (Reshape place job) reply is = is

of_nothing : (plan : Plan) (a b : Reply) → Decides plan Nothing a → Decides plan Nothing b → a ≡ b
of_nothing (Agree turn) a b says says' = says ∙ sym says'
of_nothing (Show set) a b says says' = says ∙ sym says'
of_nothing (Keep place txn affected) a b says says' = says ∙ sym says'
of_nothing plan a b says says' = absurd says

of_commit : (plan : Plan) (outcome other : CommitOutcome) (a b : Reply) → outcome ≡ other → Decides plan (Committing outcome) a → Decides plan (Committing other) b → a ≡ b
of_commit (Put place txn counted) outcome other a b same says says' = says ∙ ap (reply_to_commit counted (length txn.ops)) same ∙ sym says'
of_commit (Commit place turn) outcome other a b same says says' = says ∙ ap (reply_to_commit counting.Nothing 0) same ∙ sym says'
of_commit plan outcome other a b same says says' = absurd says

of_job : (plan : Plan) (outcome other : JobOutcome) (a b : Reply) → outcome ≡ other → Decides plan (Reshaping outcome) a → Decides plan (Reshaping other) b → a ≡ b
of_job (Reshape place job) outcome other a b same says says' = says ∙ ap reply_to_job same ∙ sym says'
of_job plan outcome other a b same says says' = absurd says

-- a plan sees of a snapshot what it sees of it
looks_itself : (plan : Plan) (front : SnapshotValue) → LookAlike plan front front
looks_itself (Status place) front = refl
looks_itself plan front = tt

-- what happened is like itself
pub alike_itself : (plan : Plan) (happened : Happened) → HasLayers happened → AreAlike plan happened happened
alike_itself plan Nothing layers = tt
alike_itself plan NoMemory layers = tt
alike_itself plan (Read front) layers = (layers, layers, refl, looks_itself plan front)
alike_itself plan (Committing outcome) layers = refl
alike_itself plan (Reshaping outcome) layers = refl

-- and a document without a weight is the first one of all listings, and of none where each has its weight
abbrev LacksOne : Type 0
LacksOne = (question : Question) (docs others : List DocRow) (id other : ℕ) → DocsApart docs → DocsApart others → rows_of docs ≡ rows_of others → IsFirstLacking question docs id → IsFirstLacking question others other → id ≡ other

abbrev NeverBoth : Type 0
NeverBoth = (question : Question) (docs others : List DocRow) (found : List Row) (id : ℕ) → DocsApart docs → DocsApart others → rows_of docs ≡ rows_of others → AreFound question docs found → IsFirstLacking question others id → ⊥

-- nor is anything found, or a document without a weight, where the words of prefixes are too many; and these are so many
abbrev CountsMany : Type 0
CountsMany = (query : Query) (docs others : List DocRow) (count other : ℕ) → DocsApart docs → DocsApart others → rows_of docs ≡ rows_of others → AreTooMany query docs count → AreTooMany query others other → count ≡ other

abbrev NoneFound : Type 0
NoneFound = (question : Question) (docs others : List DocRow) (found : List Row) (count : ℕ) → DocsApart docs → DocsApart others → rows_of docs ≡ rows_of others → AreFound question docs found → AreTooMany question.query others count → ⊥

abbrev NobodyLacks : Type 0
NobodyLacks = (question : Question) (docs others : List DocRow) (id count : ℕ) → DocsApart docs → DocsApart others → rows_of docs ≡ rows_of others → IsFirstLacking question docs id → AreTooMany question.query others count → ⊥

module _ (finds_one : FindsOne) (counts_one : CountsOne) (lacks_one : LacksOne) (never_both : NeverBoth) (counts_many : CountsMany) (none_found : NoneFound) (nobody_lacks : NobodyLacks) where
  one_for_documents : (plan : Plan) (front other : SnapshotValue) (a b : Reply) → AreLayers front.layers → AreLayers other.layers → live front ≡ live other → LookAlike plan front other
      → Decides plan (Read front) a → Decides plan (Read other) b → a ≡ b
  one_for_documents (Search place selection) front other a b layers layers' same looks (inl (found, are, says)) (inl (others, are', says')) =
      let asked = selection.asked in
      let docs = all_living front.layers in
      let rest = all_living other.layers in
      let alike : found ≡ others = finds_one asked docs rest found others layers.distinct layers'.distinct same are are' in
      let words : word_docs asked.question.query docs ≡ word_docs asked.question.query rest = counts_one asked.question.query docs rest layers.distinct layers'.distinct same in
      says ∙ ap (λ (f : Found). Finds (found_sets selection f) (meta_of asked f docs)) alike
      ∙ ap (λ (w : List WordDocs). Finds (found_sets selection others) (record { total = min others.total_found (max_matches asked); total_found = others.total_found; words = w })) words
      ∙ sym says'
  one_for_documents (Search place selection) front other a b layers layers' same looks (inl (found, are, says)) (inr (inl (id, lacks, says'))) =
      absurd (never_both selection.asked.question (all_living front.layers) (all_living other.layers) are.found id layers.distinct layers'.distinct same are.are lacks)
  one_for_documents (Search place selection) front other a b layers layers' same looks (inl (found, are, says)) (inr (inr (count, many, says'))) =
      absurd (none_found selection.asked.question (all_living front.layers) (all_living other.layers) are.found count layers.distinct layers'.distinct same are.are many)
  one_for_documents (Search place selection) front other a b layers layers' same looks (inr (inl (id, lacks, says))) (inl (found, are, says')) =
      absurd (never_both selection.asked.question (all_living other.layers) (all_living front.layers) are.found id layers'.distinct layers.distinct (sym same) are.are lacks)
  one_for_documents (Search place selection) front other a b layers layers' same looks (inr (inl (id, lacks, says))) (inr (inl (next, lacks', says'))) =
      says ∙ ap (λ (n : ℕ). Fails (rank_out_of_range n)) (lacks_one selection.asked.question (all_living front.layers) (all_living other.layers) id next layers.distinct layers'.distinct same lacks lacks') ∙ sym says'
  one_for_documents (Search place selection) front other a b layers layers' same looks (inr (inl (id, lacks, says))) (inr (inr (count, many, says'))) =
      absurd (nobody_lacks selection.asked.question (all_living front.layers) (all_living other.layers) id count layers.distinct layers'.distinct same lacks many)
  one_for_documents (Search place selection) front other a b layers layers' same looks (inr (inr (count, many, says))) (inl (found, are, says')) =
      absurd (none_found selection.asked.question (all_living other.layers) (all_living front.layers) are.found count layers'.distinct layers.distinct (sym same) are.are many)
  one_for_documents (Search place selection) front other a b layers layers' same looks (inr (inr (count, many, says))) (inr (inl (id, lacks, says'))) =
      absurd (nobody_lacks selection.asked.question (all_living other.layers) (all_living front.layers) id count layers'.distinct layers.distinct (sym same) lacks many)
  one_for_documents (Search place selection) front other a b layers layers' same looks (inr (inr (count, many, says))) (inr (inr (next, many', says'))) =
      says ∙ ap (λ (n : ℕ). Fails (too_many_prefix_words n)) (counts_many selection.asked.question.query (all_living front.layers) (all_living other.layers) count next layers.distinct layers'.distinct same many many') ∙ sym says'
  one_for_documents (Status place) front other a b layers layers' same looks says says' =
      says ∙ (ap (λ (rows : Rows). Shows (index_status (finite.len rows) (disk_count front))) same
      ∙ ap (λ (chunks : ℕ). Shows (index_status (finite.len (live other)) chunks)) looks) ∙ sym says'
  one_for_documents plan front other a b layers layers' same looks says says' = absurd says

  -- what came of a plan has one reply
  pub one_reply : (plan : Plan) (happened other : Happened) (a b : Reply) → AreAlike plan happened other → Decides plan happened a → Decides plan other b → a ≡ b
  one_reply plan Nothing Nothing a b same says says' = of_nothing plan a b says says'
  one_reply plan NoMemory NoMemory a b same says says' = without_memory plan a says ∙ sym (without_memory plan b says')
  one_reply plan (Read front) (Read other) a b (layers, layers', same, looks) says says' = one_for_documents plan front other a b layers layers' same looks says says'
  one_reply plan (Committing outcome) (Committing other) a b same says says' = of_commit plan outcome other a b same says says'
  one_reply plan (Reshaping outcome) (Reshaping other) a b same says says' = of_job plan outcome other a b same says says'
  one_reply plan happened other a b same says says' = absurd same

-- a plan that reads leaves the transaction as it was
after_read : (plan : Plan) (front other : SnapshotValue) (state : State) → after_plan plan (Read front) state ≡ after_plan plan (Read other) state
after_read (Agree turn) front other state = refl
after_read (Show set) front other state = refl
after_read (Search place selection) front other state = refl
after_read (Status place) front other state = refl
after_read (Keep place txn affected) front other state = refl
after_read (Put place txn counted) front other state = refl
after_read (Commit place turn) front other state = refl
after_read (Reshape place job) front other state = refl

one_after : (plan : Plan) (happened other : Happened) (state : State) → AreAlike plan happened other → after_plan plan happened state ≡ after_plan plan other state
one_after plan Nothing Nothing state same = refl
one_after plan NoMemory NoMemory state same = refl
one_after plan (Read front) (Read other) state same = after_read plan front other state
one_after plan (Committing outcome) (Committing other) state same = ap (λ (o : CommitOutcome). after_plan plan (Committing o) state) same
one_after plan (Reshaping outcome) (Reshaping other) state same = ap (λ (o : JobOutcome). after_plan plan (Reshaping o) state) same
one_after plan happened other state same = absurd same

-- what came of a plan leaves the session in one state
pub one_state : (plan : Plan) (happened other : Happened) (reply : Reply) (state : State) → AreAlike plan happened other → next_of plan happened reply state ≡ next_of plan other reply state
one_state plan happened other reply state same = ap (telling (told_by reply)) (one_after plan happened other state same)
