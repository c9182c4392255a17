-- The code of each refusal, by what came of its statement.
use Rattle.std.proofs.Common.{◌≡◌, ⊎_elim, ◌==◌, ℕ, pos, nat_le, List, [], ◌∷◌, ◌++◌, Option, None, Some, length, refl, sym, ap, ◌∙◌}
use Rattle.std.specs.List.{zip}
use Rattle.std.specs.Str.{is_utf8}
use Rattle.commit_outcomes.specs.declared.outcome.CommitOutcome.{CommitOutcome}
use Rattle.commit_outcomes.specs.declared.outcome.CommitOutcome.TheVariants as outcomes
use Rattle.commit_outcomes.specs.declared.outcome.Doubt.TheVariants as doubts
use Rattle.doc_types.specs.Snapshots.{SnapshotValue}
use Rattle.doc_types.specs.declared.schema.Schema.{Schema}
use Rattle.doc_types.specs.declared.transactions.Txn.{Txn}
use Rattle.doc_types.specs.declared.transactions.TxnOp.{TxnOp}
use Rattle.index_conf.specs.declared.conf.IndexConf.{IndexConf}
use Rattle.ql_tree.specs.declared.select.OptionValue.{OptionValue}
use Rattle.ql_tree.specs.declared.select.OptionValue.TheVariants as values
use Rattle.ql_tree.specs.declared.select.Select.{Select}
use Rattle.ql_tree.specs.declared.statement.Statement.{Statement}
use Rattle.ql_tree.specs.declared.statement.Statement.TheVariants as statements
use Rattle.ql_tree.specs.declared.statement.Val.{Val}
use Rattle.ql_tree.specs.declared.statement.Val.TheVariants.{Number, Text}
use Rattle.ql_columns.specs.Columns.{id_name, kind_of, name_fault, name_of}
use Rattle.ql_columns.specs.declared.columns.IndexColumn.{IndexColumn}
use Rattle.ql_columns.specs.declared.columns.IndexColumn.TheVariants.{Attr, Field, Id}
use Rattle.ql_insert.specs.Insertions.{IsTooLongFor, RefusesValues, columns_fault, holds, id_fault, is_among, is_between, names_fault, row_fault, rows_fault, targets, value_fault, values_fault}
use Rattle.ql_refusals.specs.Refusals.{Refused, first, first_of, no_memory, unless}
use Rattle.ql_refusals.specs.Refusals as refusals
use Rattle.ql_select.specs.Options.{RefusesRankingIn, last_value, ranker_option}
use Rattle.ql_select.specs.Parts.{match_text}
use Rattle.ql_select.specs.Selections.{RefusesSelection, RefusesText}
use Rattle.ql_answers.specs.Indexes.{index_fault, place_fault, place_of}
use Rattle.ql_answers.specs.Pending.{PendingValue, size_of}
use Rattle.ql_answers.specs.Plans.{Refuses}
use Rattle.ql_answers.specs.Replies.{Fails}
use Rattle.ql_answers.specs.Sessions.{Committing, Decides, DecidesSearch, Happened, Reshaping, reply_to_commit, reply_to_job}
use Rattle.ql_answers.specs.Sessions as happenings
use Rattle.ql_answers.specs.Transactions.{index_fault_of, killing, size_fault, write_fault}
use Rattle.ql_answers.specs.States.{pending_ops}
use Rattle.ql_answers.specs.declared.pending.TheConstants.{MAX_OPERATIONS, MAX_TRANSACTION_BYTES}
use Rattle.ql_answers.specs.declared.plan.Counted.{Counted}
use Rattle.ql_answers.specs.declared.plan.Counted.TheVariants as counting
use Rattle.ql_answers.specs.declared.plan.Plan.{Plan}
use Rattle.ql_answers.specs.declared.plan.Plan.TheVariants as plans
use Rattle.ql_answers.specs.declared.state.State.{State}
use Rattle.ql_session.specs.Events.{Commit, Configured, Event, NoMemory, Nothing, Read, Reshape}
use Rattle.ql_session.specs.JobOutcome.{JobOutcome}
use Rattle.ql_session.specs.JobOutcome.TheVariants as job_outcomes
use Rattle.ql_session.specs.Statements.{Replies, told}
use Rattle.line_laws.specs.Codes.{code_of, commit_code, job_code}
use Rattle.line_laws.proofs.Plain.{Plain, plain_first, plain_first_of, plain_if, plain_is, plain_name, plain_select, plain_unless}

code : (refusal other : Refused) → refusal ≡ other → other.code ≡ 1064 → refusal.code ≡ 1064
code refusal other is plain = ap (λ (r : Refused). r.code) is ∙ plain

-- ---- what the text of a statement is refused for

plain_place : (place : Option ℕ) (name : List ℕ) → Plain (place_fault place name)
plain_place None name = refl
plain_place (Some place) name = tt

plain_index : (confs : List IndexConf) (name : List ℕ) (refusal : Refused) → index_fault confs name ≡ Some refusal → refusal.code ≡ 1064
plain_index confs name refusal is = plain_is (index_fault confs name) refusal (plain_place (place_of confs name) name) is

plain_ranking : (schema : Schema) (value : Option OptionValue) (refusal : Refused) → RefusesRankingIn schema value refusal → refusal.code ≡ 1064
plain_ranking schema (Some (values.Call name text)) refusal refuses = code refusal _ refuses.2 refl
plain_ranking schema value refusal refuses = absurd refuses

plain_text : (conf : IndexConf) (text : List ℕ) (refusal : Refused) → RefusesText conf text refusal → refusal.code ≡ 1064
plain_text conf text refusal refuses = ⊎_elim (λ kind. code refusal _ kind.1 refl) (λ query. code refusal _ query.1.2 refl) refuses

plain_selection : (conf : IndexConf) (select : Select) (refusal : Refused) → RefusesSelection conf select refusal → refusal.code ≡ 1064
plain_selection conf select refusal refuses =
    ⊎_elim (λ names. code refusal names.0.refusal names.2 (plain_select conf.schema select names.0 names.1))
    (λ later. ⊎_elim (λ text. plain_text conf (match_text select.conds) refusal text) (λ weights. plain_ranking conf.schema (last_value select.options ranker_option) refusal weights.1) later.1) refuses

plain_names : (schema : Schema) (before names : List (List ℕ)) → Plain (names_fault schema before names)
plain_names schema before [] = tt
plain_names schema before (name ∷ names) = plain_first (name_fault schema (is_among name before) name) (names_fault schema (before ++ name ∷ []) names) (plain_name schema (is_among name before) name) (plain_names schema (before ++ name ∷ []) names)

plain_columns : (schema : Schema) (columns : Option (List (List ℕ))) → Plain (columns_fault schema columns)
plain_columns schema None = tt
plain_columns schema (Some names) = plain_first (names_fault schema [] names) (id_fault names) (plain_names schema [] names) (plain_unless (is_among id_name names) refusals.id_missing refl)

plain_value : (schema : Schema) (target : IndexColumn) (value : Val) → Plain (value_fault schema target value)
plain_value schema Id (Number number) = plain_unless (is_between (pos 1) (pos 18446744073709551615) number) refusals.id_out_of_range refl
plain_value schema Id (Text text) = refl
plain_value schema (Field field) (Number number) = refl
plain_value schema (Field field) (Text text) = plain_unless (is_utf8 text) (refusals.wrong_kind (name_of schema (Field field))) refl
plain_value schema (Attr attr) (Number number) = plain_unless (holds (kind_of schema attr) number) (refusals.value_out_of_range (name_of schema (Attr attr))) refl
plain_value schema (Attr attr) (Text text) = refl

plain_row : (schema : Schema) (list : List IndexColumn) (row : List Val) → Plain (row_fault schema list row)
plain_row schema list row =
    plain_if (length row == length list) (values_fault schema list row) (Some refusals.wrong_number)
    (plain_first_of (λ (one : IndexColumn × Val). value_fault schema one.0 one.1) (λ one. plain_value schema one.0 one.1) (zip list row)) refl

plain_long : (conf : IndexConf) (target : IndexColumn) (value : Val) (refusal : Refused) → IsTooLongFor conf target value refusal → refusal.code ≡ 1064
plain_long conf (Field field) (Text text) refusal long = code refusal _ long.2 refl
plain_long conf target value refusal long = absurd long

plain_values : (conf : IndexConf) (columns : Option (List (List ℕ))) (rows : List (List Val)) (refusal : Refused) → RefusesValues conf columns rows refusal → refusal.code ≡ 1064
plain_values conf columns rows refusal refuses =
    ⊎_elim (λ wrong. plain_is (columns_fault conf.schema columns) refusal (plain_columns conf.schema columns) wrong)
    (λ later. ⊎_elim (λ wrong. plain_is (rows_fault conf.schema (targets conf.schema columns) rows) refusal (plain_first_of (row_fault conf.schema (targets conf.schema columns)) (plain_row conf.schema (targets conf.schema columns)) rows) wrong.1)
    (λ long. let refuses = long.1.refuses in plain_long conf refuses.target refuses.value refusal refuses.too_long) later) refuses

plain_pending : (pending : Option PendingValue) (place : ℕ) → Plain (index_fault_of pending place)
plain_pending None place = tt
plain_pending (Some pending) place = plain_unless (pending.place == place) refusals.other_index refl

plain_size : (ops : List TxnOp) → Plain (size_fault ops)
plain_size ops =
    plain_first (unless (nat_le (length ops) MAX_OPERATIONS) refusals.too_many_operations) (unless (nat_le (size_of ops) MAX_TRANSACTION_BYTES) refusals.transaction_too_large)
    (plain_unless (nat_le (length ops) MAX_OPERATIONS) refusals.too_many_operations refl) (plain_unless (nat_le (size_of ops) MAX_TRANSACTION_BYTES) refusals.transaction_too_large refl)

plain_write : (state : State) (place : ℕ) (txn : Txn) (refusal : Refused) → write_fault state place txn ≡ Some refusal → refusal.code ≡ 1064
plain_write state place txn refusal is =
    plain_is (write_fault state place txn) refusal
    (plain_first (index_fault_of state.pending place) (size_fault (pending_ops state.pending ++ txn.ops)) (plain_pending state.pending place) (plain_size (pending_ops state.pending ++ txn.ops))) is

pub plain_refusal : (confs : List IndexConf) (state : State) (statement : Statement) (refusal : Refused) → Refuses confs state statement refusal → refusal.code ≡ 1064
plain_refusal confs state (statements.Select select) refusal refuses = ⊎_elim (λ index. plain_index confs select.index refusal index) (λ own. plain_selection own.1 select refusal own.3) refuses
plain_refusal confs state (statements.Insert replace index columns rows) refusal refuses =
    ⊎_elim (λ store. ⊎_elim (λ there. plain_index confs index refusal there) (λ own. plain_values own.1 columns rows refusal own.3) store) (λ write. plain_write state write.0 write.1 refusal write.3) refuses
plain_refusal confs state (statements.Delete index ids) refusal refuses = ⊎_elim (λ there. plain_index confs index refusal there) (λ write. plain_write state write.0 (killing ids) refusal write.3) refuses
plain_refusal confs state (statements.SetAutocommit value) refusal refuses = code refusal _ refuses.1 refl
plain_refusal confs state (statements.FlushRamchunk index) refusal refuses = plain_index confs index refusal refuses
plain_refusal confs state (statements.FlushRtindex index) refusal refuses = plain_index confs index refusal refuses
plain_refusal confs state (statements.OptimizeIndex index) refusal refuses = plain_index confs index refusal refuses
plain_refusal confs state (statements.TruncateRtindex index) refusal refuses = ⊎_elim (λ there. plain_index confs index refusal there) (λ opened. code refusal _ opened.2 refl) refuses
plain_refusal confs state (statements.Describe index) refusal refuses = plain_index confs index refusal refuses
plain_refusal confs state (statements.ShowIndexStatus index) refusal refuses = plain_index confs index refusal refuses
plain_refusal confs state statement refusal refuses = absurd refuses

-- ---- what came of a statement

commit_is : (counted : Counted) (rows : ℕ) (outcome : CommitOutcome) (refusal : Refused) → Fails refusal ≡ reply_to_commit counted rows outcome → refusal.code ≡ commit_code outcome
commit_is counted rows (outcomes.Committed removed) refusal is = absurd (cc is)
commit_is counted rows (outcomes.Duplicate id) refusal is = cc is
commit_is counted rows (outcomes.Full full) refusal is = cc is
commit_is counted rows outcomes.Refused refusal is = cc is
commit_is counted rows (outcomes.InDoubt doubts.Disk) refusal is = cc is
commit_is counted rows (outcomes.InDoubt doubts.Memory) refusal is = cc is
commit_is counted rows (outcomes.Strayed numbers) refusal is = cc is

job_is : (outcome : JobOutcome) (refusal : Refused) → Fails refusal ≡ reply_to_job outcome → refusal.code ≡ job_code outcome
job_is job_outcomes.Shaped refusal is = absurd (cc is)
job_is (job_outcomes.Overtaken shape) refusal is = cc is
job_is (job_outcomes.Full full) refusal is = cc is
job_is job_outcomes.Refused refusal is = cc is
job_is job_outcomes.InDoubt refusal is = cc is
job_is (job_outcomes.Strayed numbers) refusal is = cc is

-- the code by what happened
happened_code : Happened → ℕ
happened_code happenings.Nothing = 1064
happened_code happenings.NoMemory = 1037
happened_code (happenings.Read front) = 1064
happened_code (happenings.Committing outcome) = commit_code outcome
happened_code (happenings.Reshaping outcome) = job_code outcome

decided : (plan : Plan) (happened : Happened) (refusal : Refused) → Decides plan happened (Fails refusal) → refusal.code ≡ happened_code happened
unfolding happened_code
decided plan happenings.NoMemory refusal is = cc is
decided (plans.Agree turn) happenings.Nothing refusal is = absurd (cc is)
decided (plans.Show set) happenings.Nothing refusal is = absurd (cc is)
decided (plans.Search place selection) (happenings.Read front) refusal is = ⊎_elim (λ found. absurd (cc (found.2))) (⊎_elim (λ lacks. (let same : Fails refusal ≡ _ = lacks.2 in cc same)) (λ many. (let same : Fails refusal ≡ _ = many.2 in cc same))) is
decided (plans.Status place) (happenings.Read front) refusal is = absurd (cc is)
decided (plans.Keep place txn affected) happenings.Nothing refusal is = absurd (cc is)
decided (plans.Put place txn counted) (happenings.Committing outcome) refusal is = commit_is counted (length txn.ops) outcome refusal is
decided (plans.Commit place turn) (happenings.Committing outcome) refusal is = commit_is counting.Nothing 0 outcome refusal is
decided (plans.Reshape place job) (happenings.Reshaping outcome) refusal is = job_is outcome refusal is
decided plan happened refusal is = absurd is

told_code : {F : Type 0} (documents : F → SnapshotValue) (event : Event F) → happened_code (told documents event) ≡ code_of event
unfolding happened_code
told_code documents (Configured confs) = refl
told_code documents Nothing = refl
told_code documents NoMemory = refl
told_code documents (Read place front) = refl
told_code documents (Commit place ops outcome front) = refl
told_code documents (Reshape place job outcome own front) = refl

pub code_is : {F : Type 0} (documents : F → SnapshotValue) (confs : List IndexConf) (old new : State) (statement : Statement) (event : Event F) (refusal : Refused) → Replies documents confs old statement event (Fails refusal) new → refusal.code ≡ code_of event
code_is {F} documents confs old new statement event refusal replies =
    ⊎_elim (λ refused. let own : refusal ≡ refused.0 = (let same : Fails refusal ≡ Fails refused.0 = refused.3 in cc same) in
    ap (λ (r : Refused). r.code) own ∙ plain_refusal confs old statement refused.0 refused.1 ∙ sym (ap (λ (e : Event F). code_of e) refused.2))
    (⊎_elim (λ met. decided met.0 (told documents event) refusal met.3 ∙ told_code documents event)
    (λ without. (let own : refusal ≡ no_memory = (let same : Fails refusal ≡ Fails no_memory = without.2 in cc same) in
    ap (λ (r : Refused). r.code) own ∙ sym (ap (λ (e : Event F). code_of e) without.1)))) replies
