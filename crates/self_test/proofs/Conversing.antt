-- Statements that are done one after another or go astray, and sums of rows.
use Rattle.std.proofs.Common.{◌≡◌, ℕ, suc, ◌+◌, ◌/◌, ◌<◌, List, [], ◌∷◌, ◌++◌, Result, Ok, Err, length, take, drop, refl, sym, ap, ◌∙◌, subst, arith, inl, inr, append_assoc, append-nil}
use Rattle.std.specs.Prelude.{codes}
use Rattle.srch_base.specs.declared.faults.Or.{Or}
use Rattle.srch_base.specs.declared.faults.Or.TheVariants as causes
use Rattle.index_conf.specs.declared.conf.IndexConf.{IndexConf}
use Rattle.ql_tree.specs.declared.select.Select.{Select}
use Rattle.ql_tree.specs.declared.statement.Statement.TheVariants as statements
use Rattle.ql_answers.specs.declared.state.State.{State}
use Rattle.ql_answers.specs.States.{new_state}
use Rattle.ql_session.specs.Events.{StoreWords}
use Rattle.self_test.specs.Asking.{◌then◌, AreCounted, AreDone, AreTold, GoAstray, Shows, Telling}
use Rattle.self_test.specs.Conversations.{ConversesOr, Counts, LostOr, Sums, SumsFail, SumsOr, before_document, behind_document, insert, job, loading, merged_chunks, of_groups, of_pairs, of_words, transactions, writing}
use Rattle.self_test.specs.Summaries.{many}
use Rattle.self_test.specs.Texts.{count_select}
use Rattle.self_test.specs.declared.fault.Astray.{Astray}
use Rattle.self_test.specs.declared.fault.Astray.TheVariants.{JobFailed, Unexpected}
use Rattle.self_test.specs.declared.generator.Document.{Document}
use Rattle.self_test.specs.declared.summary.Count.{Count}
use Rattle.self_test.specs.declared.summary.Count.TheVariants.{Words, Pairs, Groups}
use Rattle.self_test.specs.declared.summary.Summary.{Summary}
use Rattle.self_test.specs.steps.Replies.{IsChecked, RowsOr}

module _ {D F : Type 0} (confs : D → List IndexConf) (words : StoreWords D F) where
  -- nothing was told
  pub done_none : (old : State) (before : D) → AreDone confs words [] old before old before
  done_none old before = (refl, refl)

  -- more was told
  pub done_then : (first next : List Telling) (old mid new : State) (before between left : D) → AreDone confs words first old before mid between → AreDone confs words next mid between new left
      → AreDone confs words (first ++ next) old before new left
  done_then [] next old mid new before between left (same, still) rest =
      subst (λ (state : State). AreDone confs words next state before new left) same (subst (λ (d : D). AreDone confs words next mid d new left) still rest)
  done_then (telling ∷ first) next old mid new before between left (state, d, one, more) rest =
      (state, d, one, done_then first next state mid new d between left more rest)

  -- All documents but these were written, so many.
  abbrev pub AreWritten : ℕ → ℕ → List Document → ℕ → List Document → State → D → State → D → Type 0
  AreWritten first last documents number rest old before new left =
      (told : List Telling) × (writing first last 0 documents ≡ told ++ writing first last number rest) × AreDone confs words told old before new left

  -- one more was written
  pub one_more_written : (first last : ℕ) (documents : List Document) (number : ℕ) (document : Document) (rest : List Document) (old mid new : State) (before between left : D)
      → AreWritten first last documents number (document ∷ rest) old before mid between
      → AreDone confs words (before_document number ++ insert (first + (number + 1)) document ∷ behind_document last (number + 1)) mid between new left
      → AreWritten first last documents (number + 1) rest old before new left
  one_more_written first last documents number document rest old mid new before between left (told, is, done) one =
      let more : List Telling = before_document number ++ insert (first + (number + 1)) document ∷ behind_document last (number + 1) in
      (told ++ more, is ∙ sym (append_assoc told more (writing first last (number + 1) rest)), done_then told more old mid new before between left done one)

  -- all were written
  pub all_written : (first last : ℕ) (documents : List Document) (number : ℕ) (old new : State) (before left : D) → AreWritten first last documents number [] old before new left
      → AreDone confs words (writing first last 0 documents) old before new left
  all_written first last documents number old new before left (told, is, done) =
      subst (λ (list : List Telling). AreDone confs words list old before new left) (sym (is ∙ append-nil told)) done

  -- one more was told, and its rows counted
  pub one_more_counted : (select : ℕ → Select) (number sum rows : ℕ) (old mid new : State) (before between left : D) → AreCounted confs words select number sum old before mid between
      → Shows confs words (select number) rows mid between new left → AreCounted confs words select (number + 1) (sum + rows) old before new left
  one_more_counted select number sum rows old mid new before between left counted has =
      let one : AreCounted confs words select (suc number) (sum + rows) old before new left = (sum, rows, mid, between, counted, has, refl) in
      let next : suc number ≡ number + 1 = omega arith in
      subst (λ (n : ℕ). AreCounted confs words select n (sum + rows) old before new left) next one

  -- one of what was told went astray, behind what was done
  pub astray_then : (fault : Astray) (first next : List Telling) (old mid new : State) (before between left : D) → AreDone confs words first old before mid between → GoAstray confs words fault next mid between new left
      → GoAstray confs words fault (first ++ next) old before new left
  astray_then fault [] next old mid new before between left (same, still) rest =
      subst (λ (state : State). GoAstray confs words fault next state before new left) same (subst (λ (d : D). GoAstray confs words fault next mid d new left) still rest)
  astray_then fault (telling ∷ first) next old mid new before between left (state, d, one, more) rest =
      inr (state, d, one, astray_then fault first next state mid new d between left more rest)

  -- one of what was told first went astray
  pub astray_first : (fault : Astray) (first next : List Telling) (old new : State) (before left : D) → GoAstray confs words fault first old before new left → GoAstray confs words fault (first ++ next) old before new left
  astray_first fault [] next old new before left astray = absurd astray
  astray_first fault (telling ∷ first) next old new before left (inl astray) = inl astray
  astray_first fault (telling ∷ first) next old new before left (inr (state, d, one, more)) = inr (state, d, one, astray_first fault first next state new d left more)

  -- both halves of what is told, with a job each
  both_halves : (a b : List Telling) (flush optimize : Telling) → (a ++ flush ∷ []) ++ (b ++ optimize ∷ []) ≡ a ++ flush ∷ b ++ optimize ∷ []
  both_halves a b flush optimize = append_assoc a (flush ∷ []) (b ++ optimize ∷ []) ∙ sym (append_assoc a (flush ∷ b) (optimize ∷ []))

  abbrev pub flush_job : Telling
  flush_job = job (statements.FlushRamchunk (codes "t"))

  abbrev pub optimize_job : Telling
  optimize_job = job (statements.OptimizeIndex (codes "t"))

  halves_are : (documents first others : List Document) (half : ℕ) → half ≡ length documents / 2 → first ≡ take half documents → others ≡ drop half documents
      → (transactions 0 first ++ flush_job ∷ []) ++ (transactions half others ++ optimize_job ∷ []) ≡ loading documents
  halves_are documents first others half halved front back =
      both_halves (transactions 0 first) (transactions half others) flush_job optimize_job
      ∙ ap (λ (list : List Document). transactions 0 list ++ flush_job ∷ transactions half others ++ optimize_job ∷ []) front
      ∙ ap (λ (list : List Document). transactions 0 (take half documents) ++ flush_job ∷ transactions half list ++ optimize_job ∷ []) back
      ∙ ap (λ (n : ℕ). transactions 0 (take n documents) ++ flush_job ∷ transactions n (drop n documents) ++ optimize_job ∷ []) halved

  -- what is answered where more was told behind what was done
  pub told_then : (result : Result (Unit {0}) (Or Astray)) (first next : List Telling) (old mid new : State) (before between left : D) → AreDone confs words first old before mid between
      → AreTold confs words next result mid between new left → AreTold confs words (first ++ next) result old before new left
  told_then (Ok done) first next old mid new before between left begun told = done_then first next old mid new before between left begun told
  told_then (Err (causes.Fault fault)) first next old mid new before between left begun told = astray_then fault first next old mid new before between left begun told
  told_then (Err causes.NoMemory) first next old mid new before between left begun told = tt

  -- and where nothing more was told
  pub told_first : (fault : Or Astray) (first next : List Telling) (old new : State) (before left : D) → AreTold {T = Unit {0}} confs words first (Err fault) old before new left
      → AreTold {T = Unit {0}} confs words (first ++ next) (Err fault) old before new left
  told_first (causes.Fault fault) first next old new before left told = astray_first fault first next old new before left told
  told_first causes.NoMemory first next old new before left told = tt

  -- a document of those that are written wasn't
  pub written_astray : (fault : Or Astray) (first last : ℕ) (documents : List Document) (number : ℕ) (document : Document) (rest : List Document) (old mid new : State) (before between left : D)
      → AreWritten first last documents number (document ∷ rest) old before mid between
      → AreTold {T = Unit {0}} confs words (before_document number ++ insert (first + (number + 1)) document ∷ behind_document last (number + 1)) (Err fault) mid between new left
      → AreTold {T = Unit {0}} confs words (writing first last 0 documents) (Err fault) old before new left
  written_astray fault first last documents number document rest old mid new before between left (told, is, done) astray =
      let one : List Telling = before_document number ++ insert (first + (number + 1)) document ∷ behind_document last (number + 1) in
      let left_over : List Telling = writing first last (number + 1) rest in
      subst (λ (list : List Telling). AreTold {T = Unit {0}} confs words list (Err fault) old before new left) (sym is)
      (told_then (Err fault) told (one ++ left_over) old mid new before between left done (told_first fault one left_over mid new between left astray))

  pub loaded : (result : Result (Unit {0}) (Or Astray)) (documents first others : List Document) (half : ℕ) (old mid new : State) (before between left : D) → half ≡ length documents / 2 → first ≡ take half documents → others ≡ drop half documents
      → AreDone confs words (transactions 0 first ++ flush_job ∷ []) old before mid between → AreTold confs words (transactions half others ++ optimize_job ∷ []) result mid between new left
      → AreTold confs words (loading documents) result old before new left
  loaded result documents first others half old mid new before between left halved front back begun told =
      subst (λ (list : List Telling). AreTold confs words list result old before new left) (halves_are documents first others half halved front back)
      (told_then result (transactions 0 first ++ flush_job ∷ []) (transactions half others ++ optimize_job ∷ []) old mid new before between left begun told)

  pub loaded_first : (fault : Or Astray) (documents first others : List Document) (half : ℕ) (old new : State) (before left : D) → half ≡ length documents / 2 → first ≡ take half documents → others ≡ drop half documents
      → AreTold {T = Unit {0}} confs words (transactions 0 first ++ flush_job ∷ []) (Err fault) old before new left
      → AreTold {T = Unit {0}} confs words (loading documents) (Err fault) old before new left
  loaded_first fault documents first others half old new before left halved front back told =
      subst (λ (list : List Telling). AreTold {T = Unit {0}} confs words list (Err fault) old before new left) (halves_are documents first others half halved front back)
      (told_first fault (transactions 0 first ++ flush_job ∷ []) (transactions half others ++ optimize_job ∷ []) old new before left told)

  -- a SELECT of some was lost
  pub lost_one : (fault : Or Astray) (count : Count) (number sum : ℕ) (begun old new : State) (first before left : D) → number < many count → AreCounted confs words (count_select count) number sum begun first old before
      → RowsOr confs words (count_select count number) (Err fault) old before new left → LostOr confs words count fault begun first left
  lost_one (causes.Fault Unexpected) count number sum begun old new first before left below counted lost =
      record { number = number; below = below; sum = sum; old = old; before = before; counted = counted; new = new; lost = lost }
  lost_one (causes.Fault JobFailed) count number sum begun old new first before left below counted lost = absurd lost
  lost_one causes.NoMemory count number sum begun old new first before left below counted lost = tt

  module _ (documents : ℕ) where
    -- so one of all was
    pub lost_words : (fault : Or Astray) (old : State) (before left : D) → LostOr confs words Words fault old before left → SumsFail confs words documents fault old before left
    lost_words (causes.Fault Unexpected) old before left lost = of_words lost
    lost_words (causes.Fault JobFailed) old before left lost = absurd lost
    lost_words causes.NoMemory old before left lost = tt

    pub lost_pairs : (fault : Or Astray) (sum : ℕ) (old mid : State) (before between left : D) → Counts confs words Words sum old before mid between → LostOr confs words Pairs fault mid between left
        → SumsFail confs words documents fault old before left
    lost_pairs (causes.Fault Unexpected) sum old mid before between left counts lost = of_pairs sum mid between counts lost
    lost_pairs (causes.Fault JobFailed) sum old mid before between left counts lost = absurd lost
    lost_pairs causes.NoMemory sum old mid before between left counts lost = tt

    pub lost_groups : (fault : Or Astray) (first second : ℕ) (old mid : State) (before between left : D) → (Counts confs words Words first then Counts confs words Pairs second) old before mid between
        → LostOr confs words Groups fault mid between left → SumsFail confs words documents fault old before left
    lost_groups (causes.Fault Unexpected) first second old mid before between left counts lost = of_groups first second mid between counts lost
    lost_groups (causes.Fault JobFailed) first second old mid before between left counts lost = absurd lost
    lost_groups causes.NoMemory first second old mid before between left counts lost = tt

    -- what is answered by a summary
    pub checked_so : (result : Result Summary (Or Astray)) (summary : Summary) (old : State) (before left : D) → Sums confs words documents summary old before left → IsChecked summary result
        → SumsOr confs words documents result old before left
    checked_so (Ok same) summary old before left sums (is, merged) =
        subst (λ (s : Summary). Sums confs words documents s old before left × (s.chunks ≡ merged_chunks documents)) (sym is) (sums, merged ∙ ap merged_chunks sums.many)
    checked_so (Err (causes.Fault JobFailed)) summary old before left sums others = (summary, sums, λ (same : summary.chunks ≡ merged_chunks documents). others (same ∙ ap merged_chunks (sym sums.many)))
    checked_so (Err (causes.Fault Unexpected)) summary old before left sums others = absurd others
    checked_so (Err causes.NoMemory) summary old before left sums others = absurd others

  -- so the conversation went astray
  pub comes_lost : (fault : Or Astray) (documents : List Document) (state : State) (start between left : D) → AreDone confs words (loading documents) new_state start state between
      → SumsFail confs words (length documents) fault state between left → ConversesOr confs words documents (Err fault) start left
  comes_lost (causes.Fault fault) documents state start between left done lost = inr (state, between, done, lost)
  comes_lost causes.NoMemory documents state start between left done lost = tt

  pub comes_astray : (fault : Or Astray) (documents : List Document) (new : State) (start left : D) → AreTold {T = Unit {0}} confs words (loading documents) (Err fault) new_state start new left
      → ConversesOr confs words documents (Err fault) start left
  comes_astray (causes.Fault fault) documents new start left astray = inl (new, astray)
  comes_astray causes.NoMemory documents new start left astray = tt

  -- what was found behind what was done
  pub comes_then : (result : Result Summary (Or Astray)) (documents : List Document) (state : State) (start between left : D) → AreDone confs words (loading documents) new_state start state between
      → SumsOr confs words (length documents) result state between left → ConversesOr confs words documents result start left
  comes_then (Ok summary) documents state start between left done sums = record { state = state; between = between; done = done; sums = sums.0; merged = sums.1 }
  comes_then (Err fault) documents state start between left done lost = comes_lost fault documents state start between left done lost
