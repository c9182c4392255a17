-- The conversation of a selftest: statements that write documents, each of which is done, and then statements that ask for them.
use Rattle.std.specs.Prelude.{◌≡◌, ◌≢◌, ◌⊎◌, ℕ, zero, suc, ◌+◌, ◌/◌, ◌%◌, ◌==◌, ◌||◌, List, [], ◌∷◌, ◌++◌, Result, Ok, Err, length, codes, take, drop, if◌then◌else◌}
use Rattle.srch_base.specs.declared.faults.Or.{Or}
use Rattle.srch_base.specs.declared.faults.Or.TheVariants as causes
use Rattle.index_conf.specs.declared.conf.IndexConf.{IndexConf}
use Rattle.ql_answers.specs.declared.state.State.{State}
use Rattle.ql_answers.specs.States.{new_state}
use Rattle.ql_session.specs.Events.{StoreWords}
use Rattle.ql_tree.specs.declared.statement.Statement.{Statement}
use Rattle.ql_tree.specs.declared.statement.Statement.TheVariants as statements
use Rattle.self_test.specs.Asking.{◌then◌, AreCounted, AreDone, GoAstray, LoseOne, SeesChunks, Telling}
use Rattle.self_test.specs.Summaries.{many}
use Rattle.self_test.specs.Texts.{count_select, insert_statement}
use Rattle.self_test.specs.declared.fault.Astray.{Astray}
use Rattle.self_test.specs.declared.fault.Astray.TheVariants.{JobFailed, Unexpected}
use Rattle.self_test.specs.declared.generator.Document.{Document}
use Rattle.self_test.specs.declared.summary.Count.{Count}
use Rattle.self_test.specs.declared.summary.Count.TheVariants.{Words, Pairs, Groups}
use Rattle.self_test.specs.declared.summary.Summary.{Summary}

-- a transaction begins, and ends
abbrev pub begin : Telling
begin = record { statement = statements.Begin; affected = 0; status = 3; otherwise = Unexpected }

abbrev pub commit : Telling
commit = record { statement = statements.Commit; affected = 0; status = 2; otherwise = Unexpected }

-- the INSERT of a document with this id into the transaction that is open
abbrev pub insert : ℕ → Document → Telling
insert id document = record { statement = insert_statement id document; affected = 1; status = 3; otherwise = Unexpected }

-- a job over the index
abbrev pub job : Statement → Telling
job statement = record { statement = statement; affected = 0; status = 2; otherwise = JobFailed }

-- before the first document of each hundred, behind so many others, a transaction begins
abbrev pub before_document : ℕ → List Telling
before_document number = if number % 100 == 0 then begin ∷ [] else []

-- behind the last document of each hundred, and behind the last of all, it ends
abbrev pub behind_document : ℕ → ℕ → List Telling
behind_document last number = if (number % 100 == 0) || (number == last) then commit ∷ [] else []

-- what writes documents behind so many of `last` ones, with the ids behind `first` + `number`
abbrev pub writing : ℕ → ℕ → ℕ → List Document → List Telling
writing first last number [] = []
writing first last number (document ∷ documents) =
    before_document number ++ insert (first + (number + 1)) document ∷ behind_document last (number + 1) ++ writing first last (number + 1) documents

-- what writes documents with the ids behind this one, a hundred in a transaction
abbrev pub transactions : ℕ → List Document → List Telling
transactions first documents = writing first (length documents) 0 documents

-- What writes all documents: the first half of them goes to the disk before the others are written, and in the end all go into one chunk.
abbrev pub loading : List Document → List Telling
loading documents =
    transactions 0 (take (length documents / 2) documents) ++ job (statements.FlushRamchunk (codes "t"))
    ∷ transactions (length documents / 2) (drop (length documents / 2) documents) ++ job (statements.OptimizeIndex (codes "t")) ∷ []

-- All that is counted was asked for of a session, and the sum of the rows that it replied is this.
abbrev pub Counts : {D F : Type 0} → (D → List IndexConf) → StoreWords D F → Count → ℕ → State → D → State → D → Type 0
Counts confs words count sum = AreCounted confs words (count_select count) (many count) sum

-- One of the SELECTs of what is counted was lost.
abbrev pub LosesOne : {D F : Type 0} → (D → List IndexConf) → StoreWords D F → Count → State → D → D → Type 0
LosesOne confs words count = LoseOne confs words (count_select count) (many count)

-- One of the SELECTs of what is counted was lost, or memory was refused.
abbrev pub LostOr : {D F : Type 0} → (D → List IndexConf) → StoreWords D F → Count → Or Astray → State → D → D → Type 0
LostOr confs words count (causes.Fault Unexpected) = LosesOne confs words count
LostOr confs words count (causes.Fault JobFailed) = λ begun first left. ⊥
LostOr confs words count causes.NoMemory = λ begun first left. Unit {0}

-- What is answered where all that is counted is asked for: the sum of the rows, or one of the SELECTs was lost. Out of memory is free.
abbrev pub CountsOr : {D F : Type 0} → (D → List IndexConf) → StoreWords D F → Count → Result ℕ (Or Astray) → State → D → State → D → Type 0
CountsOr confs words count (Ok sum) = Counts confs words count sum
CountsOr confs words count (Err fault) = λ old before new left. LostOr confs words count fault old before left

-- how many chunks OPTIMIZE leaves of so many documents: one, or none where there are none
abbrev pub merged_chunks : ℕ → ℕ
merged_chunks zero = 0
merged_chunks (suc documents) = 1

-- All that is counted was asked for, and then the index was read: what a summary of so many documents has.
pub record Sums {D F : Type 0} (confs : D → List IndexConf) (words : StoreWords D F) (documents : ℕ) (summary : Summary) (old : State) (before left : D) : Type 0 where
  pub many : summary.documents ≡ documents
  pub state : State
  pub between : D
  pub counts : (Counts confs words Words summary.words then Counts confs words Pairs summary.pairs then Counts confs words Groups summary.groups) old before state between
  pub sees : SeesChunks confs words summary.chunks between left

-- One of all SELECTs was lost: of those for words, of those for pairs behind these, or of those for groups behind both.
pub data LosesSome {D F : Type 0} (confs : D → List IndexConf) (words : StoreWords D F) (old : State) (before left : D) : Type 0 where
  of_words : LosesOne confs words Words old before left → LosesSome confs words old before left
  of_pairs : (sum : ℕ) (mid : State) (between : D) → Counts confs words Words sum old before mid between → LosesOne confs words Pairs mid between left → LosesSome confs words old before left
  of_groups : (first second : ℕ) (mid : State) (between : D) → (Counts confs words Words first then Counts confs words Pairs second) old before mid between → LosesOne confs words Groups mid between left
      → LosesSome confs words old before left

-- Where so many documents were written, what was asked for went astray: a SELECT was lost, or the read saw other chunks than those that
-- OPTIMIZE leaves.
abbrev pub SumsAstray : {D F : Type 0} → (D → List IndexConf) → StoreWords D F → ℕ → Astray → State → D → D → Type 0
SumsAstray confs words documents Unexpected old before left = LosesSome confs words old before left
SumsAstray confs words documents JobFailed old before left =
    (summary : Summary) × Sums confs words documents summary old before left × (summary.chunks ≢ merged_chunks documents)

-- The same, or memory was refused.
abbrev pub SumsFail : {D F : Type 0} → (D → List IndexConf) → StoreWords D F → ℕ → Or Astray → State → D → D → Type 0
SumsFail confs words documents (causes.Fault fault) = SumsAstray confs words documents fault
SumsFail confs words documents causes.NoMemory = λ old before left. Unit {0}

-- What is answered then. Out of memory is free.
abbrev pub SumsOr : {D F : Type 0} → (D → List IndexConf) → StoreWords D F → ℕ → Result Summary (Or Astray) → State → D → D → Type 0
SumsOr confs words documents (Ok summary) old before left = Sums confs words documents summary old before left × (summary.chunks ≡ merged_chunks documents)
SumsOr confs words documents (Err fault) old before left = SumsFail confs words documents fault old before left

-- One session, which began over a store, was told to write the documents and asked for all that is counted; then the index was read. The
-- numbers of the summary are those of its replies and of that read, which saw the chunks that OPTIMIZE leaves.
pub record Converses {D F : Type 0} (confs : D → List IndexConf) (words : StoreWords D F) (documents : List Document) (summary : Summary) (old new : D) : Type 0 where
  pub state : State
  pub between : D
  pub done : AreDone confs words (loading documents) new_state old state between
  pub sums : Sums confs words (length documents) summary state between new
  pub merged : summary.chunks ≡ merged_chunks (length documents)

-- Such a conversation went astray, for which this is answered. A statement that writes the documents went astray; or, behind these, which
-- all were done, what was asked for did.
abbrev pub ComesAstray : {D F : Type 0} → (D → List IndexConf) → StoreWords D F → List Document → Astray → D → D → Type 0
ComesAstray {D} confs words documents fault old left =
    ((new : State) × GoAstray confs words fault (loading documents) new_state old new left)
    ⊎ ((state : State) × (between : D) × AreDone confs words (loading documents) new_state old state between
    × SumsAstray confs words (length documents) fault state between left)

-- What is answered by a conversation: what it found, or that it went astray. Out of memory is free.
abbrev pub ConversesOr : {D F : Type 0} → (D → List IndexConf) → StoreWords D F → List Document → Result Summary (Or Astray) → D → D → Type 0
ConversesOr confs words documents (Ok summary) old left = Converses confs words documents summary old left
ConversesOr confs words documents (Err (causes.Fault fault)) old left = ComesAstray confs words documents fault old left
ConversesOr confs words documents (Err causes.NoMemory) old left = Unit {0}
