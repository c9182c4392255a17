-- What is known between two statements of a selftest: which documents were written, and which wait.
use Rattle.std.proofs.Common.{◌≡◌, ◌⊎◌, inl, inr, ◌≤◌, ◌<◌, ℕ, suc, ◌+◌, List, [], ◌∷◌, ◌++◌, Bool, true, false, Some, None, length, refl, sym, ap, subst, ◌∙◌, arith}
use Rattle.std.specs.Prelude.{codes}
use Rattle.std.proofs.lemmas.List.{length-map}
use mathlib.Core.List.{IsPrefix}
use Rattle.commit_outcomes.specs.declared.outcome.CommitOutcome.{CommitOutcome}
use Rattle.doc_types.specs.declared.documents.Doc.{Doc}
use Rattle.doc_types.specs.declared.documents.DocRow.{DocRow}
use Rattle.doc_types.specs.declared.schema.Schema.{Schema}
use Rattle.index_conf.specs.declared.conf.IndexConf.{IndexConf}
use Rattle.ql_answers.specs.declared.job_outcome.JobOutcome.{JobOutcome}
use Rattle.ql_answers.specs.declared.plan.Counted.TheVariants as counting
use Rattle.ql_answers.specs.declared.state.State.{State}
use Rattle.ql_answers.specs.Replies.{Done, Fails, Reply}
use Rattle.ql_answers.specs.Sessions.{reply_to_commit}
use Rattle.ql_refusals.specs.Refusals.{no_memory}
use Rattle.ql_session.specs.Events.{Commit, Event, NoMemory, Nothing, Read, Reshape}
use Rattle.ql_session.specs.Statements.{Replies}
use Rattle.ql_tree.specs.declared.statement.Statement.{Statement}
use Rattle.ql_tree.specs.declared.statement.Statement.TheVariants as statements
use Rattle.step_book.specs.Fronts.{FrontValue}
use Rattle.step_history.specs.History.{Base, Step, commits}
use Rattle.step_history.specs.declared.job.Job.{Job}
use Rattle.step_history.specs.declared.job.Job.TheVariants.{Flush, Optimize}
use Rattle.step_tokens.specs.Tokens.{TokenValue}
use Rattle.engine_tables.specs.Outcomes.{numbers_of}
use Rattle.engine_tables.specs.Workers.{WorkerValue, by_tokens, documents_of}
use Rattle.self_test.specs.Asking.{IsTold, is_stop}
use Rattle.self_test.specs.Loads.{AreStored, IsStored}
use Rattle.self_test.specs.Own.{IsDrawn, IsEmpty, IsOwn}
use Rattle.self_test.specs.Texts.{insert_statement}
use Rattle.self_test.specs.declared.generator.Document.{Document}
use Rattle.self_test.proofs.Inserting.{AreLight, AreNumbered, docs_at, docs_of, docs_then, inserting, rows_at}
use Rattle.self_test.proofs.Knowing.{AreOwn, Knows, Tries, astray, knows_grown, knows_reshaped, stopped, tries, written}
use Rattle.step_book.proofs.Prefixes.{prefix_trans}
use Rattle.self_test.proofs.Seated.{Committed, Led, Moves, Seat, committed, or_next, reshaped, reshaped_onward, settled}
use Rattle.self_test.proofs.Stored.{stored_light}
use Rattle.self_test.proofs.Wants.{IsAsked, IsWithout, begins, commits_so, flushes, inserts, optimizes, state_at}

-- What is stored of documents.

pub long_stored : (conf : IndexConf) (before : ℕ) (documents : List Document) (docs : List Doc) → AreStored conf before documents docs → length docs ≡ length documents
long_stored conf before [] [] are = refl
long_stored conf before [] (doc ∷ docs) are = absurd are
long_stored conf before (document ∷ documents) [] are = absurd are
long_stored conf before (document ∷ documents) (doc ∷ docs) are = ap suc (long_stored conf (before + 1) documents docs are.1)

numbered_stored : (conf : IndexConf) (before : ℕ) (documents : List Document) (docs : List Doc) → AreStored conf before documents docs → AreNumbered before docs
numbered_stored conf before [] [] are = tt
numbered_stored conf before [] (doc ∷ docs) are = absurd are
numbered_stored conf before (document ∷ documents) [] are = absurd are
numbered_stored conf before (document ∷ documents) (doc ∷ docs) are = (ap (λ (d : Doc). d.id) are.0.is, numbered_stored conf (before + 1) documents docs are.1)

pub none_stored : (conf : IndexConf) (before : ℕ) (docs : List Doc) → AreStored conf before [] docs → docs ≡ []
none_stored conf before [] are = refl
none_stored conf before (doc ∷ docs) are = absurd are

stored_then : (conf : IndexConf) (before : ℕ) (front more : List Document) (docs others : List Doc) → AreStored conf before front docs → AreStored conf (before + length front) more others → AreStored conf before (front ++ more) (docs ++ others)
stored_then conf before [] more [] others are next = subst (λ (n : ℕ). AreStored conf n more others) (omega arith) next
stored_then conf before [] more (doc ∷ docs) others are next = absurd are
stored_then conf before (document ∷ front) more [] others are next = absurd are
stored_then conf before (document ∷ front) more (doc ∷ docs) others are next =
    (are.0, stored_then conf (before + 1) front more docs others are.1 (subst (λ (n : ℕ). AreStored conf n more others) (omega arith) next))

-- each is drawn
abbrev pub AreDrawn : List Document → Type 0
AreDrawn [] = Unit {0}
AreDrawn (document ∷ documents) = IsDrawn document × AreDrawn documents

drawn_then : (front : List Document) (document : Document) → AreDrawn front → IsDrawn document → AreDrawn (front ++ document ∷ [])
drawn_then [] document drawn one = (one, tt)
drawn_then (first ∷ front) document (here, drawn) one = (here, drawn_then front document drawn one)

light_stored : (conf : IndexConf) (before : ℕ) (documents : List Document) (docs : List Doc) → IsOwn conf → AreDrawn documents → AreStored conf before documents docs → AreLight docs
light_stored conf before [] [] is drawn are = tt
light_stored conf before [] (doc ∷ docs) is drawn are = absurd are
light_stored conf before (document ∷ documents) [] is drawn are = absurd are
light_stored conf before (document ∷ documents) (doc ∷ docs) is drawn are =
    (stored_light conf (before + 1) document doc is drawn.0 are.0, light_stored conf (before + 1) documents docs is drawn.1 are.1)

-- The worker knows of these documents: they are all that was written to its one index.
pub record Rests (conf : IndexConf) (known : List Step) (list : List DocRow) (documents : List Document) (worker : WorkerValue) : Type 0 where
  pub confs : worker.confs ≡ conf ∷ []
  pub seat : Seat worker
  pub knows : Knows known list seat.token
  pub are : AreStored conf 0 documents (docs_of list)

-- Between two statements: these documents are written, these wait, and a transaction is open or isn't.
pub record Stands (conf : IndexConf) (done waiting : List Document) (begun : Bool) (state : State) (worker : WorkerValue) : Type 0 where
  pub known : List Step
  pub list : List DocRow
  pub rests : Rests conf known list done worker
  pub docs : List Doc
  pub wait : AreStored conf (length done) waiting docs
  pub drawn : AreDrawn waiting
  pub state_is : state ≡ state_at begun docs

-- What a worker's token has seen begins the history, and no contradiction was told it.
pub record IsAhead (history : List Step) (worker : WorkerValue) : Type 0 where
  pub seat : Seat worker
  pub begins : IsPrefix seat.token.seen history
  pub untold : seat.had ≡ None

same_one : {X : Type 0} {x y : X} → ◌≡◌ {A = List X} (x ∷ []) (y ∷ []) → x ≡ y
same_one same = cc same

pub same_seat : (worker : WorkerValue) (one other : Seat worker) → (one.token ≡ other.token) × (one.had ≡ other.had)
same_seat worker one other = (same_one (sym one.list ∙ other.list), same_one (sym one.told ∙ other.told))

module _ (schema : ℕ → Schema) (base : ℕ → Base) (history : List Step) where
  abbrev Told : Statement → Reply → State → WorkerValue → State → WorkerValue → Type 0
  Told = IsTold (λ (worker : WorkerValue). worker.confs) (by_tokens schema base)

  -- what is ahead of a worker was ahead of it before
  pub ahead_before : (old new : WorkerValue) (seat : Seat old) (led : Led schema base old seat.token seat.had new) → IsAhead history new → IsAhead history old
  ahead_before old new seat led ahead =
      let same = same_seat new led.seat ahead.seat in
      let begins : IsPrefix led.seat.token.seen history = subst (λ (t : TokenValue). IsPrefix t.seen history) (sym same.0) ahead.begins in
      record { seat = seat; begins = prefix_trans seat.token.seen led.seat.token.seen history led.onward.seen begins; untold = led.onward.untold (same.1 ∙ ahead.untold) }

  module _ (conf : IndexConf) (is : IsOwn conf) where
    -- memory was refused: nothing changed but what was seen
    rests_settled : (known : List Step) (list : List DocRow) (documents : List Document) (old new : WorkerValue) → Rests conf known list documents old → (by_tokens schema base).settles old new → Rests conf known list documents new
    rests_settled known list documents old new rests (confs, grows) =
        let next = settled old new rests.seat grows in record {
          confs = confs ∙ rests.confs;
          seat = next.seat;
          knows = knows_grown known list rests.seat.token next.seat.token rests.knows next.grows;
          are = rests.are;
        }

    -- a read changes nothing but what was seen
    pub rests_read : (known : List Step) (list : List DocRow) (documents : List Document) (old new : WorkerValue) (place : ℕ) (seen : FrontValue) → Rests conf known list documents old → Moves schema base old (Read place seen) new → Rests conf known list documents new
    rests_read known list documents old new place seen rests follows = rests_settled known list documents old new rests follows.0

    -- nor does a job change which documents there are
    rests_reshaped : (known : List Step) (list : List DocRow) (documents : List Document) (old new : WorkerValue) (job : Job) (outcome : JobOutcome) (own seen : FrontValue) → Rests conf known list documents old
        → Moves schema base old (Reshape 0 job outcome own seen) new → Rests conf known list documents new
    rests_reshaped known list documents old new job outcome own seen rests follows =
        let mid = follows.0 in
        let middle = rests_settled known list documents old mid rests follows.1 in
        let led = reshaped schema base mid new middle.seat 0 job outcome own seen follows.3.1 in
        let on = reshaped_onward schema base mid new middle.seat job outcome led in record {
          confs = follows.3.0 ∙ middle.confs;
          seat = led.seat;
          knows = knows_reshaped (schema 0) (base 0) middle.seat.token led.seat.token known list job outcome middle.knows led.tells on.worker on.seen;
          are = middle.are;
        }

    by_event : (event other : Event FrontValue) (old new : WorkerValue) → event ≡ other → Moves schema base old event new → Moves schema base old other new
    by_event event other old new same follows = subst (λ (e : Event FrontValue). Moves schema base old e new) same follows

    module _ (done : List Document) (reply : Reply) (old new : State) (before left : WorkerValue) where
      -- BEGIN
      pub stands_begun : Stands conf done [] false old before → Told statements.Begin reply old before new left → (reply ≡ Done 0) × Stands conf done [] true new left
      stands_begun stands told =
          let state : old ≡ state_at false [] = stands.state_is ∙ ap (λ (docs : List Doc). state_at false docs) (none_stored conf (length done) stands.docs stands.wait) in
          let said = begins (documents_of base) before.confs told.event reply new (subst (λ (s : State). Replies (documents_of base) before.confs s statements.Begin told.event reply new) state told.replies) in
          let still : left ≡ before = by_event told.event Nothing before left said.0 told.follows in (
            said.1,
            record {
              known = stands.known;
              list = stands.list;
              rests = subst (λ (w : WorkerValue). Rests conf stands.known stands.list done w) (sym still) stands.rests;
              docs = [];
              wait = tt;
              drawn = tt;
              state_is = said.2;
            },
          )

      -- INSERT
      pub stands_inserted : (waiting : List Document) (document : Document) (id : ℕ) → IsDrawn document → length waiting ≤ 99 → id ≡ length done + (length waiting + 1) → id ≤ 100000
          → Stands conf done waiting true old before → Told (insert_statement id document) reply old before new left
          → (reply ≡ Fails no_memory) ⊎ ((reply ≡ Done 1) × Stands conf done (waiting ++ document ∷ []) true new left)
      stands_inserted waiting document id drawn few at small stands told =
          let long = long_stored conf (length done) waiting stands.docs stands.wait in
          let replies : Replies (documents_of base) (conf ∷ []) (state_at true stands.docs) (insert_statement id document) told.event reply new =
          subst (λ (s : State). Replies (documents_of base) (conf ∷ []) s (insert_statement id document) told.event reply new) stands.state_is
          (subst (λ (c : List IndexConf). Replies (documents_of base) c old (insert_statement id document) told.event reply new) stands.rests.confs told.replies) in
          elim (inserts (documents_of base) conf is id document drawn (omega (arith, at)) small stands.docs (light_stored conf (length done) waiting stands.docs is stands.drawn stands.wait) (omega (arith, long, few)) told.event reply new replies) [
            | inl without ↦ inl without.fails
            | inr kept ↦
                let still : left ≡ before = by_event told.event Nothing before left kept.idle told.follows in
                let one : IsStored conf ((length done + length waiting) + 1) document kept.doc = subst (λ (n : ℕ). IsStored conf n document kept.doc) (at ∙ omega arith) kept.stored in
                inr (
                  kept.done,
                  record {
                    known = stands.known;
                    list = stands.list;
                    rests = subst (λ (w : WorkerValue). Rests conf stands.known stands.list done w) (sym still) stands.rests;
                    docs = stands.docs ++ kept.doc ∷ [];
                    wait = stored_then conf (length done) waiting (document ∷ []) stands.docs (kept.doc ∷ []) stands.wait (one, tt);
                    drawn = drawn_then waiting document stands.drawn drawn;
                    state_is = kept.state;
                  },
                )
          ]

      -- a job
      stands_asked : (job : Job) (event : Event FrontValue) → Stands conf done [] false old before → IsWithout event reply old new ⊎ IsAsked job event reply old new → Moves schema base before event left → Stands conf done [] false new left
      stands_asked job event stands (inl without) follows = record {
        known = stands.known;
        list = stands.list;
        rests = rests_settled stands.known stands.list done before left stands.rests (by_event event NoMemory before left without.noted follows);
        docs = stands.docs;
        wait = stands.wait;
        drawn = tt;
        state_is = without.same ∙ stands.state_is;
      }
      stands_asked job event stands (inr asked) follows = record {
        known = stands.known;
        list = stands.list;
        rests = rests_reshaped stands.known stands.list done before left job asked.outcome asked.own asked.front stands.rests (by_event event (Reshape 0 job asked.outcome asked.own asked.front) before left asked.is follows);
        docs = stands.docs;
        wait = stands.wait;
        drawn = tt;
        state_is = asked.state ∙ stands.state_is;
      }

      pub stands_flushed : Stands conf done [] false old before → Told (statements.FlushRamchunk (codes "t")) reply old before new left → Stands conf done [] false new left
      stands_flushed stands told =
          stands_asked Flush told.event stands (flushes (documents_of base) conf is old reply new told.event
          (subst (λ (c : List IndexConf). Replies (documents_of base) c old (statements.FlushRamchunk (codes "t")) told.event reply new) stands.rests.confs told.replies)) told.follows

      pub stands_optimized : Stands conf done [] false old before → Told (statements.OptimizeIndex (codes "t")) reply old before new left → Stands conf done [] false new left
      stands_optimized stands told =
          stands_asked Optimize told.event stands (optimizes (documents_of base) conf is old reply new told.event
          (subst (λ (c : List IndexConf). Replies (documents_of base) c old (statements.OptimizeIndex (codes "t")) told.event reply new) stands.rests.confs told.replies)) told.follows

      -- COMMIT
      module _ (own : AreOwn (commits history)) (empty : IsEmpty (base 0)) (ahead : IsAhead history left) (waiting : List Document) (some : 0 < length waiting) (few : length done + length waiting ≤ 100000)
          (stands : Stands conf done waiting true old before) where
        abbrev Goal : Type 0
        Goal = (is_stop reply ≡ true) ⊎ ((reply ≡ Done 0) × Stands conf (done ++ waiting) [] false new left)

        long_list : length stands.list ≡ length done
        long_list = sym (length-map stands.list (λ (row : DocRow). row.doc)) ∙ long_stored conf 0 done (docs_of stands.list) stands.rests.are

        long_docs : length stands.docs ≡ length waiting
        long_docs = long_stored conf (length done) waiting stands.docs stands.wait

        -- what came of the commit
        by_tries : (outcome : CommitOutcome) (between : WorkerValue) (seat : Seat between) (led : Committed schema base seat.token seat.had (inserting stands.docs) outcome left) → left.confs ≡ conf ∷ []
            → reply ≡ reply_to_commit counting.Nothing 0 outcome → new ≡ state_at false [] → Tries stands.list stands.docs led.seat.token outcome → Goal
        by_tries outcome between seat led confs says state (written removed number known made knows) = inr (
          says ∙ ap (λ (o : CommitOutcome). reply_to_commit counting.Nothing 0 o) made,
          record {
            known = known;
            list = stands.list ++ rows_at number stands.docs;
            rests = record {
              confs = confs;
              seat = led.seat;
              knows = knows;
              are = subst (λ (docs : List Doc). AreStored conf 0 (done ++ waiting) docs)
                  (sym (docs_then stands.list (rows_at number stands.docs) ∙ ap (λ (docs : List Doc). docs_of stands.list ++ docs) (docs_at number stands.docs)))
                  (stored_then conf 0 done waiting (docs_of stands.list) stands.docs stands.rests.are (subst (λ (n : ℕ). AreStored conf n waiting stands.docs) (omega arith) stands.wait));
            };
            docs = [];
            wait = tt;
            drawn = tt;
            state_is = state;
          },
        )
        by_tries outcome between seat led confs says state (stopped stop) = inl (ap (λ (r : Reply). is_stop r) says ∙ stop)
        by_tries outcome between seat led confs says state (astray numbers strayed) =
            let same = same_seat left led.seat ahead.seat in
            let none : numbers_of outcome ≡ None = or_next seat.had (numbers_of outcome) (sym led.later ∙ (same.1 ∙ ahead.untold)) in
            let clash : Some numbers ≡ None = ap (λ (o : CommitOutcome). numbers_of o) (sym strayed) ∙ none in
            absurd (cc clash)

        by_follows : (outcome : CommitOutcome) (seen : FrontValue) → reply ≡ reply_to_commit counting.Nothing 0 outcome → new ≡ state_at false [] → Moves schema base before (Commit 0 (inserting stands.docs) outcome seen) left → Goal
        by_follows outcome seen says state follows =
            let mid = follows.0 in
            let middle = rests_settled stands.known stands.list done before mid stands.rests follows.1 in
            let led = committed schema base mid left middle.seat 0 (inserting stands.docs) outcome seen follows.2.1 in
            let same = same_seat left led.seat ahead.seat in
            let goes : IsPrefix led.seat.token.seen history = subst (λ (t : TokenValue). IsPrefix t.seen history) (sym same.0) ahead.begins in
            let next : AreNumbered (length stands.list) stands.docs = subst (λ (n : ℕ). AreNumbered n stands.docs) (sym long_list) (numbered_stored conf (length done) waiting stands.docs stands.wait) in
            by_tries outcome mid middle.seat led (follows.2.0 ∙ middle.confs) says state
            (tries (schema 0) (base 0) history own empty stands.known stands.list middle.seat.token led.seat.token middle.knows stands.docs next
            (light_stored conf (length done) waiting stands.docs is stands.drawn stands.wait) (omega (arith, some, long_docs)) (omega (arith, few, long_docs, long_list)) goes outcome led.tells)

        by_docs : (docs : List Doc) (event : Event FrontValue) → stands.docs ≡ docs → Replies (documents_of base) before.confs (state_at true docs) statements.Commit event reply new → Moves schema base before event left → Goal
        by_docs [] event are replies follows = absurd (omega (arith, some, long_docs, ap length are))
        by_docs (doc ∷ docs) event are replies follows =
            elim (commits_so (documents_of base) before.confs doc docs reply new event replies) [
              | inl without ↦ inl (ap (λ (r : Reply). is_stop r) without.fails)
              | inr tried ↦
                  by_follows tried.outcome tried.front tried.says tried.state
                  (by_event event (Commit 0 (inserting stands.docs) tried.outcome tried.front) before left
                  (tried.is ∙ ap (λ (list : List Doc). Commit 0 (inserting list) tried.outcome tried.front) (sym are)) follows)
            ]

        pub stands_committed : Told statements.Commit reply old before new left → Goal
        stands_committed told =
            by_docs stands.docs told.event refl (subst (λ (s : State). Replies (documents_of base) before.confs s statements.Commit told.event reply new) stands.state_is told.replies) told.follows
