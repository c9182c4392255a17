-- The statements that write the documents of a selftest, one after the other: each is done, or memory or the disk refuses.
use Rattle.std.proofs.Common.{◌≡◌, inl, inr, ◌≤◌, ◌<◌, ℕ, zero, suc, ◌+◌, ◌/◌, ◌%◌, List, [], ◌∷◌, ◌++◌, Bool, true, false, not, ◌==◌, ◌||◌, cond, Some, length, take, drop, refl, sym, ap, subst, ◌∙◌, arith, append_assoc, append-nil, length-append, length-take-le, take-append-drop}
use Rattle.std.specs.Prelude.{codes, slice_get}
use Rattle.std.proofs.lemmas.Bool.Decides.{nat_tests}
use Rattle.doc_types.specs.declared.documents.Doc.{Doc}
use Rattle.doc_types.specs.declared.schema.Schema.{Schema}
use Rattle.index_conf.specs.declared.conf.IndexConf.{IndexConf}
use Rattle.mysql_wire.specs.Packets.{packet}
use Rattle.mysql_wire.specs.Replies.{err_payload, ok_packet, ok_payload}
use Rattle.ql_answers.specs.declared.state.State.{State}
use Rattle.ql_answers.specs.Replies.{Done, Fails, Finds, Reply, Shows}
use Rattle.ql_refusals.specs.Refusals.{Refused, no_memory, state_of}
use Rattle.ql_tree.specs.declared.statement.Statement.TheVariants as statements
use Rattle.step_history.specs.History.{Base, Step, commits}
use Rattle.engine_tables.specs.Workers.{WorkerValue, by_tokens}
use Rattle.self_test.specs.Asking.{AreDone, GoAstray, IsAstray, IsDone, Telling, bytes_of, is_stop}
use Rattle.self_test.specs.Conversations.{begin, commit, insert, job, loading, transactions, writing}
use Rattle.self_test.specs.Documents.{after_document, documents_from}
use Rattle.self_test.specs.Own.{IsDrawn, IsEmpty, IsOwn}
use Rattle.self_test.specs.declared.fault.Astray.TheVariants.{JobFailed, Unexpected}
use Rattle.self_test.specs.declared.generator.Document.{Document}
use Rattle.self_test.proofs.Knowing.{AreOwn}
use Rattle.self_test.proofs.Seated.{Seat, one_led}
use Rattle.self_test.proofs.Standing.{AreDrawn, IsAhead, Stands, ahead_before, stands_begun, stands_committed, none_stored, stands_flushed, stands_inserted, stands_optimized}
use Rattle.self_test.proofs.Wants.{state_at}

-- Replies.

err_kind : (code : ℕ) (state text more : List ℕ) → slice_get (packet 1 (err_payload code state text) ++ more) 4 ≡ Some 255
unfolding packet err_payload
err_kind code state text more = refl

ok_kind : (affected status : ℕ) → slice_get (ok_packet 1 affected status) 4 ≡ Some 0
unfolding packet ok_payload
ok_kind affected status = refl

-- a refusal isn't OK
not_ok : (state : State) (reply : Reply) (refusal : Refused) (affected status : ℕ) → reply ≡ Fails refusal → bytes_of state reply ≡ ok_packet 1 affected status → ⊥
not_ok state reply refusal affected status fails ok =
    let err : slice_get (bytes_of state reply) 4 ≡ Some 255 = ap (λ (r : Reply). slice_get (bytes_of state r) 4) fails ∙ err_kind refusal.code (state_of refusal.code) refusal.text [] in
    let yes : slice_get (bytes_of state reply) 4 ≡ Some 0 = ap (λ (b : List ℕ). slice_get b 4) ok ∙ ok_kind affected status in
    let clash : Some 0 ≡ Some 255 = sym yes ∙ err in
    cc clash

stop_fails : (reply : Reply) → is_stop reply ≡ true → (refusal : Refused) × (reply ≡ Fails refusal)
stop_fails (Done affected) stop = absurd (cc stop)
stop_fails (Shows set) stop = absurd (cc stop)
stop_fails (Finds sets meta) stop = absurd (cc stop)
stop_fails (Fails refusal) stop = (refusal, refl)

-- what is replied where a statement is done
done_is : (state new : State) (reply : Reply) (affected status : ℕ) → reply ≡ Done affected → bytes_of state (Done affected) ≡ ok_packet 1 affected status → new ≡ state → bytes_of new reply ≡ ok_packet 1 affected status
done_is state new reply affected status done ok same = ap (λ (r : Reply). bytes_of new r) done ∙ ap (λ (s : State). bytes_of s (Done affected)) same ∙ ok

in_transaction : (affected : ℕ) (docs : List Doc) → bytes_of (state_at true docs) (Done affected) ≡ ok_packet 1 affected 3
in_transaction affected docs = append-nil (ok_packet 1 affected 3)

no_transaction : bytes_of (state_at false []) (Done 0) ≡ ok_packet 1 0 2
no_transaction = append-nil (ok_packet 1 0 2)

-- Scripts.

-- Statements that go on where these documents are written and these wait, and in the end all of those are written.
pub data Script : List Document → List Document → Bool → List Telling → List Document → Type 0 where
  finished : (done : List Document) → Script done [] false [] done
  begins : (done : List Document) (rest : List Telling) (all : List Document) → Script done [] true rest all → Script done [] false (begin ∷ rest) all
  inserts : (done waiting : List Document) (document : Document) (id : ℕ) (rest : List Telling) (all : List Document) → IsDrawn document → length waiting ≤ 99 → id ≡ length done + (length waiting + 1) → id ≤ 100000
      → Script done (waiting ++ document ∷ []) true rest all → Script done waiting true (insert id document ∷ rest) all
  commits_all : (done waiting : List Document) (rest : List Telling) (all : List Document) → 0 < length waiting → length done + length waiting ≤ 100000 → Script (done ++ waiting) [] false rest all
      → Script done waiting true (commit ∷ rest) all
  flushes : (done : List Document) (rest : List Telling) (all : List Document) → Script done [] false rest all → Script done [] false (job (statements.FlushRamchunk (codes "t")) ∷ rest) all
  optimizes : (done : List Document) (rest : List Telling) (all : List Document) → Script done [] false rest all → Script done [] false (job (statements.OptimizeIndex (codes "t")) ∷ rest) all

module _ (schema : ℕ → Schema) (base : ℕ → Base) (history : List Step) where
  abbrev pub AreAllDone : List Telling → State → WorkerValue → State → WorkerValue → Type 0
  AreAllDone = AreDone (λ (worker : WorkerValue). worker.confs) (by_tokens schema base)

  -- a statement went astray that is no job
  abbrev pub GoSomeAstray : List Telling → State → WorkerValue → State → WorkerValue → Type 0
  GoSomeAstray = GoAstray (λ (worker : WorkerValue). worker.confs) (by_tokens schema base) Unexpected

  -- what is ahead of statements that are done was ahead of the first one
  pub ahead_done : (tellings : List Telling) (old new : State) (before left : WorkerValue) → Seat before → AreAllDone tellings old before new left → IsAhead history left → IsAhead history before
  ahead_done [] old new before left seat done ahead = subst (IsAhead history) done.1 ahead
  ahead_done (telling ∷ tellings) old new before left seat (mid, between, one, rest) ahead =
      let led = one_led schema base before between one.replied.told.event seat one.replied.told.follows in
      ahead_before schema base history before between seat led (ahead_done tellings mid new between left led.seat rest ahead)

  pub ahead_astray : (tellings : List Telling) (old new : State) (before left : WorkerValue) → Seat before → GoSomeAstray tellings old before new left → IsAhead history left → IsAhead history before
  ahead_astray [] old new before left seat gone ahead = absurd gone
  ahead_astray (telling ∷ tellings) old new before left seat (inl (same, one)) ahead =
      ahead_before schema base history before left seat (one_led schema base before left one.replied.told.event seat one.replied.told.follows) ahead
  ahead_astray (telling ∷ tellings) old new before left seat (inr (mid, between, one, rest)) ahead =
      let led = one_led schema base before between one.replied.told.event seat one.replied.told.follows in
      ahead_before schema base history before between seat led (ahead_astray tellings mid new between left led.seat rest ahead)

  module _ (conf : IndexConf) (is : IsOwn conf) (own : AreOwn (commits history)) (empty : IsEmpty (base 0)) where
    -- where a statement has to be answered OK, the first possibility is none
    never_stops : (state : State) (reply : Reply) (affected status : ℕ) → is_stop reply ≡ true → bytes_of state reply ≡ ok_packet 1 affected status → ⊥
    never_stops state reply affected status stop ok = let (refusal, fails) = stop_fails reply stop in not_ok state reply refusal affected status fails ok

    -- what is ahead of the statements behind one that is done
    ahead_between : (telling : Telling) (tellings : List Telling) (old mid new : State) (before between left : WorkerValue) → Seat before → IsDone (λ (worker : WorkerValue). worker.confs) (by_tokens schema base) telling old before mid between
        → AreAllDone tellings mid between new left → IsAhead history left → IsAhead history between
    ahead_between telling tellings old mid new before between left seat one rest ahead =
        let led = one_led schema base before between one.replied.told.event seat one.replied.told.follows in
        ahead_done tellings mid new between left led.seat rest ahead

    ahead_middle : (telling : Telling) (tellings : List Telling) (old mid new : State) (before between left : WorkerValue) → Seat before → IsDone (λ (worker : WorkerValue). worker.confs) (by_tokens schema base) telling old before mid between
        → GoSomeAstray tellings mid between new left → IsAhead history left → IsAhead history between
    ahead_middle telling tellings old mid new before between left seat one rest ahead =
        let led = one_led schema base before between one.replied.told.event seat one.replied.told.follows in
        ahead_astray tellings mid new between left led.seat rest ahead

    -- the statement is done: what stands then
    insert_done : (done waiting : List Document) (document : Document) (id : ℕ) (old mid : State) (before between : WorkerValue) → IsDrawn document → length waiting ≤ 99 → id ≡ length done + (length waiting + 1) → id ≤ 100000
        → Stands conf done waiting true old before → IsDone (λ (worker : WorkerValue). worker.confs) (by_tokens schema base) (insert id document) old before mid between → Stands conf done (waiting ++ document ∷ []) true mid between
    insert_done done waiting document id old mid before between drawn few at small stands one =
        elim (stands_inserted schema base history conf is done one.reply old mid before between waiting document id drawn few at small stands one.replied.told) [
          | inl fails ↦ absurd (not_ok mid one.reply no_memory 1 3 fails one.wanted)
          | inr so ↦ so.1
        ]

    commit_done : (done waiting : List Document) (old mid : State) (before between : WorkerValue) → 0 < length waiting → length done + length waiting ≤ 100000 → IsAhead history between
        → Stands conf done waiting true old before → IsDone (λ (worker : WorkerValue). worker.confs) (by_tokens schema base) commit old before mid between → Stands conf (done ++ waiting) [] false mid between
    commit_done done waiting old mid before between some few ahead stands one =
        elim (stands_committed schema base history conf is done one.reply old mid before between own empty ahead waiting some few stands one.replied.told) [
          | inl stop ↦ absurd (never_stops mid one.reply 0 2 stop one.wanted)
          | inr so ↦ so.1
        ]

    -- a script that is done has written all documents
    pub script_done : (done waiting : List Document) (begun : Bool) (tellings : List Telling) (all : List Document) → Script done waiting begun tellings all → (old new : State) (before left : WorkerValue)
        → Stands conf done waiting begun old before → AreAllDone tellings old before new left → IsAhead history left → Stands conf all [] false new left
    script_done _ _ _ _ _ (finished done) old new before left stands told ahead =
        subst (λ (s : State). Stands conf done [] false s left) (sym told.0) (subst (λ (w : WorkerValue). Stands conf done [] false old w) (sym told.1) stands)
    script_done _ _ _ _ _ (begins done rest all script) old new before left stands (mid, between, one, told) ahead =
        let next = (stands_begun schema base history conf is done one.reply old mid before between stands one.replied.told).1 in
        script_done done [] true rest all script mid new between left next told ahead
    script_done _ _ _ _ _ (inserts done waiting document id rest all drawn few at small script) old new before left stands (mid, between, one, told) ahead =
        let next = insert_done done waiting document id old mid before between drawn few at small stands one in
        script_done done (waiting ++ document ∷ []) true rest all script mid new between left next told ahead
    script_done _ _ _ _ _ (commits_all done waiting rest all some few script) old new before left stands (mid, between, one, told) ahead =
        let here = ahead_between commit rest old mid new before between left stands.rests.seat one told ahead in
        let next = commit_done done waiting old mid before between some few here stands one in
        script_done (done ++ waiting) [] false rest all script mid new between left next told ahead
    script_done _ _ _ _ _ (flushes done rest all script) old new before left stands (mid, between, one, told) ahead =
        let next = stands_flushed schema base history conf is done one.reply old mid before between stands one.replied.told in
        script_done done [] false rest all script mid new between left next told ahead
    script_done _ _ _ _ _ (optimizes done rest all script) old new before left stands (mid, between, one, told) ahead =
        let next = stands_optimized schema base history conf is done one.reply old mid before between stands one.replied.told in
        script_done done [] false rest all script mid new between left next told ahead

    abbrev GoesAstray : Telling → State → WorkerValue → State → WorkerValue → Type 0
    GoesAstray = IsAstray (λ (worker : WorkerValue). worker.confs) (by_tokens schema base)

    yes_no : (b : Bool) → b ≡ true → b ≡ false → ⊥
    yes_no b yes_it no_it = cc (yes_it, no_it)

    insert_never : (done waiting : List Document) (document : Document) (id : ℕ) (old new : State) (before left : WorkerValue) → IsDrawn document → length waiting ≤ 99 → id ≡ length done + (length waiting + 1) → id ≤ 100000
        → Stands conf done waiting true old before → GoesAstray (insert id document) old before new left → ⊥
    insert_never done waiting document id old new before left drawn few at small stands one =
        elim (stands_inserted schema base history conf is done one.reply old new before left waiting document id drawn few at small stands one.replied.told) [
          | inl fails ↦ yes_no (is_stop one.reply) (ap (λ (r : Reply). is_stop r) fails) one.goes_on
          | inr so ↦ one.unwanted (done_is (state_at true so.1.docs) new one.reply 1 3 so.0 (in_transaction 1 so.1.docs) so.1.state_is)
        ]

    commit_never : (done waiting : List Document) (old new : State) (before left : WorkerValue) → 0 < length waiting → length done + length waiting ≤ 100000 → IsAhead history left
        → Stands conf done waiting true old before → GoesAstray commit old before new left → ⊥
    commit_never done waiting old new before left some few ahead stands one =
        elim (stands_committed schema base history conf is done one.reply old new before left own empty ahead waiting some few stands one.replied.told) [
          | inl stop ↦ yes_no (is_stop one.reply) stop one.goes_on
          | inr so ↦ one.unwanted (done_is (state_at false []) new one.reply 0 2 so.0 no_transaction (so.1.state_is ∙ ap (λ (docs : List Doc). state_at false docs) (none_stored conf (length (done ++ waiting)) so.1.docs so.1.wait)))
        ]

    -- no job is answered so
    job_never : JobFailed ≡ Unexpected → ⊥
    job_never same = cc same

    -- no statement of a script goes astray
    pub script_never : (done waiting : List Document) (begun : Bool) (tellings : List Telling) (all : List Document) → Script done waiting begun tellings all → (old new : State) (before left : WorkerValue)
        → Stands conf done waiting begun old before → GoSomeAstray tellings old before new left → IsAhead history left → ⊥
    script_never _ _ _ _ _ (finished done) old new before left stands gone ahead = gone
    script_never _ _ _ _ _ (begins done rest all script) old new before left stands (inl (same, one)) ahead =
        let so = stands_begun schema base history conf is done one.reply old new before left stands one.replied.told in
        one.unwanted (done_is (state_at true so.1.docs) new one.reply 0 3 so.0 (in_transaction 0 so.1.docs) so.1.state_is)
    script_never _ _ _ _ _ (begins done rest all script) old new before left stands (inr (mid, between, one, gone)) ahead =
        let next = (stands_begun schema base history conf is done one.reply old mid before between stands one.replied.told).1 in
        script_never done [] true rest all script mid new between left next gone ahead
    script_never _ _ _ _ _ (inserts done waiting document id rest all drawn few at small script) old new before left stands (inl (same, one)) ahead =
        insert_never done waiting document id old new before left drawn few at small stands one
    script_never _ _ _ _ _ (inserts done waiting document id rest all drawn few at small script) old new before left stands (inr (mid, between, one, gone)) ahead =
        let next = insert_done done waiting document id old mid before between drawn few at small stands one in
        script_never done (waiting ++ document ∷ []) true rest all script mid new between left next gone ahead
    script_never _ _ _ _ _ (commits_all done waiting rest all some few script) old new before left stands (inl (same, one)) ahead =
        commit_never done waiting old new before left some few ahead stands one
    script_never _ _ _ _ _ (commits_all done waiting rest all some few script) old new before left stands (inr (mid, between, one, gone)) ahead =
        let here = ahead_middle commit rest old mid new before between left stands.rests.seat one gone ahead in
        let next = commit_done done waiting old mid before between some few here stands one in
        script_never (done ++ waiting) [] false rest all script mid new between left next gone ahead
    script_never _ _ _ _ _ (flushes done rest all script) old new before left stands (inl (same, one)) ahead = job_never same
    script_never _ _ _ _ _ (flushes done rest all script) old new before left stands (inr (mid, between, one, gone)) ahead =
        let next = stands_flushed schema base history conf is done one.reply old mid before between stands one.replied.told in
        script_never done [] false rest all script mid new between left next gone ahead
    script_never _ _ _ _ _ (optimizes done rest all script) old new before left stands (inl (same, one)) ahead = job_never same
    script_never _ _ _ _ _ (optimizes done rest all script) old new before left stands (inr (mid, between, one, gone)) ahead =
        let next = stands_optimized schema base history conf is done one.reply old mid before between stands one.replied.told in
        script_never done [] false rest all script mid new between left next gone ahead

-- The statements of a selftest are a script.

not_equal : (a b : ℕ) → (a == b) ≡ true → a ≡ b
not_equal a b same = grind (arith, nat_tests)

is_equal : (a b : ℕ) → a ≡ b → (a == b) ≡ true
is_equal a b same = grind (arith, nat_tests)

apart : (a b : ℕ) → (a == b) ≡ false → a ≡ b → ⊥
apart a b differ same = let here : (a == b) ≡ true = is_equal a b same in cc (here, differ)

-- behind a document: a transaction may end
behind_script : (ends : Bool) (done waiting : List Document) (left : List Telling) (all : List Document) → 0 < length waiting → length done + length waiting ≤ 100000
    → (ends ≡ true → Script (done ++ waiting) [] false left all) → (ends ≡ false → Script done waiting true left all)
    → Script done waiting true (cond ends (commit ∷ []) [] ++ left) all
behind_script true done waiting left all some few over on = commits_all done waiting left all some few (over refl)
behind_script false done waiting left all some few over on = on refl

-- before a document: a transaction may begin
before_script : (starts begun : Bool) (done waiting : List Document) (left : List Telling) (all : List Document) → (starts ≡ true → length waiting ≡ 0) → begun ≡ not starts → Script done waiting true left all
    → Script done waiting begun (cond starts (begin ∷ []) [] ++ left) all
before_script true begun done [] left all none is script = subst (λ (b : Bool). Script done [] b (begin ∷ left) all) (sym is) (begins done left all script)
before_script true begun done (document ∷ waiting) left all none is script = absurd (omega (arith, none refl))
before_script false begun done waiting left all none is script = subst (λ (b : Bool). Script done waiting b left all) (sym is) script

-- what waits behind so many documents, before others
abbrev Fit : ℕ → List Document → Bool → List Document → Type 0
Fit number waiting begun [] = (waiting ≡ []) × (begun ≡ false)
Fit number waiting begun (document ∷ documents) = (length waiting ≡ number % 100) × (begun ≡ not (number % 100 == 0))

not_either : (p q : Bool) → (p || q) ≡ false → (p ≡ false) × (q ≡ false)
not_either true q none = absurd (cc none)
not_either false q none = (refl, none)

first_of_two : (p q : Bool) → (p || q) ≡ true → q ≡ false → p ≡ true
first_of_two true q one none = refl
first_of_two false q one none = absurd (cc (one, none))

-- after a transaction has ended
fit_ended : (number last : ℕ) (documents : List Document) → last ≡ number + length documents → ((number % 100 == 0) || (number == last)) ≡ true → Fit number [] false documents
fit_ended number last [] long ends = (refl, refl)
fit_ended number last (document ∷ documents) long ends =
    let more : (number == last) ≡ false = grind (arith, nat_tests, long) in
    let whole : (number % 100 == 0) ≡ true = first_of_two (number % 100 == 0) (number == last) ends more in
    (sym (not_equal (number % 100) 0 whole), rw whole refl)

-- within a transaction
fit_more : (number last : ℕ) (waiting documents : List Document) → last ≡ number + length documents → 0 < length waiting → (number % 100 ≡ 0 → ⊥) → ((0 < number % 100) → length waiting ≡ number % 100)
    → ((number % 100 == 0) || (number == last)) ≡ false → Fit number waiting true documents
fit_more number last waiting [] long some inside same ends = absurd (apart number last (not_either (number % 100 == 0) (number == last) ends).1 (omega (arith, long)))
fit_more number last waiting (document ∷ documents) long some inside same ends =
    let whole : (number % 100 == 0) ≡ false = (not_either (number % 100 == 0) (number == last) ends).0 in
    (same (omega (arith, inside)), rw whole refl)

three_same : (done waiting : List Document) (document : Document) (documents : List Document) → (done ++ (waiting ++ document ∷ [])) ++ documents ≡ (done ++ waiting) ++ document ∷ documents
three_same done waiting document documents =
    append_assoc done (waiting ++ document ∷ []) documents ∙ ap (λ (l : List Document). done ++ l) (append_assoc waiting (document ∷ []) documents) ∙ sym (append_assoc done waiting (document ∷ documents))

write_script : (first last number : ℕ) (documents done waiting : List Document) (begun : Bool) (rest : List Telling) (all : List Document) → AreDrawn documents → first + number ≡ length done + length waiting
    → last ≡ number + length documents → first + last ≤ 100000 → Fit number waiting begun documents → Script ((done ++ waiting) ++ documents) [] false rest all
    → Script done waiting begun (writing first last number documents ++ rest) all
write_script first last number [] done waiting begun rest all drawn at long few (none, idle) script =
    let same : (done ++ waiting) ++ [] ≡ done = append-nil (done ++ waiting) ∙ ap (λ (l : List Document). done ++ l) none ∙ append-nil done in
    subst (λ (w : List Document). Script done w begun rest all) (sym none) (subst (λ (b : Bool). Script done [] b rest all) (sym idle) (subst (λ (d : List Document). Script d [] false rest all) same script))
write_script first last number (document ∷ documents) done waiting begun rest all drawn at long few (inside, is) script =
    let put : Telling = insert (first + (number + 1)) document in
    let next : List Document = waiting ++ document ∷ [] in
    let more : List Telling = writing first last (number + 1) documents in
    let ends : Bool = ((number + 1) % 100 == 0) || (number + 1 == last) in
    let behind : List Telling = cond ends (commit ∷ []) [] in
    let here : List Telling = cond (number % 100 == 0) (begin ∷ []) [] in
    let one_more : length next ≡ length waiting + 1 = length-append waiting (document ∷ []) in
    let later : last ≡ (number + 1) + length documents = omega (arith, long) in
    let whole : Script ((done ++ next) ++ documents) [] false rest all = subst (λ (d : List Document). Script d [] false rest all) (sym (three_same done waiting document documents)) script in
    let over : ends ≡ true → Script (done ++ next) [] false (more ++ rest) all = λ ended.
    write_script first last (number + 1) documents (done ++ next) [] false rest all drawn.1 (omega (arith, at, one_more, length-append done next)) later few (fit_ended (number + 1) last documents later ended)
    (subst (λ (d : List Document). Script (d ++ documents) [] false rest all) (sym (append-nil (done ++ next))) whole) in
    let on : ends ≡ false → Script done next true (more ++ rest) all = λ open_still.
    write_script first last (number + 1) documents done next true rest all drawn.1 (omega (arith, at, one_more)) later few
    (fit_more (number + 1) last next documents later (omega (arith, one_more)) (λ none. apart ((number + 1) % 100) 0 (not_either ((number + 1) % 100 == 0) (number + 1 == last) open_still).0 none)
    (λ above. omega (arith, inside, one_more, above)) open_still) whole in
    let written : Script done next true (behind ++ (more ++ rest)) all = behind_script ends done next (more ++ rest) all (omega (arith, one_more)) (omega (arith, at, one_more, long, few)) over on in
    let added : Script done waiting true (put ∷ (behind ++ (more ++ rest))) all =
    inserts done waiting document (first + (number + 1)) (behind ++ (more ++ rest)) all drawn.0 (omega (arith, inside)) (omega (arith, at)) (omega (arith, long, few)) written in
    let begun_so : Script done waiting begun (here ++ (put ∷ (behind ++ (more ++ rest)))) all =
    before_script (number % 100 == 0) begun done waiting (put ∷ (behind ++ (more ++ rest))) all (λ starts. inside ∙ not_equal (number % 100) 0 starts) is added in
    subst (λ (tellings : List Telling). Script done waiting begun tellings all) (sym (append_assoc (here ++ put ∷ behind) more rest ∙ append_assoc here (put ∷ behind) (more ++ rest))) begun_so

fit_first : (documents : List Document) → Fit 0 [] false documents
fit_first [] = (refl, refl)
fit_first (document ∷ documents) = (refl, refl)

drawn_front : (front back : List Document) → AreDrawn (front ++ back) → AreDrawn front
drawn_front [] back drawn = tt
drawn_front (document ∷ front) back drawn = (drawn.0, drawn_front front back drawn.1)

drawn_back : (front back : List Document) → AreDrawn (front ++ back) → AreDrawn back
drawn_back [] back drawn = drawn
drawn_back (document ∷ front) back drawn = drawn_back front back drawn.1

-- all documents are written
pub loading_script : (documents : List Document) → AreDrawn documents → length documents ≤ 100000 → Script [] [] false (loading documents) documents
loading_script documents drawn few =
    let half : ℕ = length documents / 2 in
    let front : List Document = take half documents in
    let back : List Document = drop half documents in
    let flush : Telling = job (statements.FlushRamchunk (codes "t")) in
    let optimize : Telling = job (statements.OptimizeIndex (codes "t")) in
    let both : front ++ back ≡ documents = take-append-drop half documents in
    let sum : length documents ≡ length front + length back = ap length (sym both) ∙ length-append front back in
    let halved : length front ≡ half = length-take-le half documents (omega arith) in
    let all_drawn : AreDrawn (front ++ back) = subst AreDrawn (sym both) drawn in
    let ended : Script ((front ++ []) ++ back) [] false (optimize ∷ []) documents =
    subst (λ (d : List Document). Script d [] false (optimize ∷ []) documents) (sym (ap (λ (d : List Document). d ++ back) (append-nil front) ∙ both)) (optimizes documents [] documents (finished documents)) in
    let second : Script front [] false (transactions half back ++ optimize ∷ []) documents =
    write_script half (length back) 0 back front [] false (optimize ∷ []) documents (drawn_back front back all_drawn) (omega (arith, halved)) (omega arith) (omega (arith, halved, sum, few)) (fit_first back) ended in
    let first : Script [] [] false (transactions 0 front ++ (flush ∷ (transactions half back ++ optimize ∷ []))) documents =
    write_script 0 (length front) 0 front [] [] false (flush ∷ (transactions half back ++ optimize ∷ [])) documents (drawn_front front back all_drawn) (omega arith) (omega arith) (omega (arith, sum, few)) (fit_first front)
    (flushes front (transactions half back ++ optimize ∷ []) documents second) in
    subst (λ (tellings : List Telling). Script [] [] false tellings documents) (sym (append_assoc (transactions 0 front) (flush ∷ transactions half back) (optimize ∷ []))) first

-- the documents of a number are drawn
pub all_drawn : (x docs : ℕ) → AreDrawn (documents_from x docs)
all_drawn x zero = tt
all_drawn x (suc docs) = (record { first = omega arith; second = omega arith; third = omega arith; fourth = omega arith; group = omega arith }, all_drawn (after_document x) docs)
