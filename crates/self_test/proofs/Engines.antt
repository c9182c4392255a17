-- An engine for one worker: the names that it is given, and how it ends.
use Rattle.std.proofs.Common.{◌≡◌, ◌≤◌, ℕ, zero, suc, List, [], ◌∷◌, ◌++◌, Option, Some, None, All, Result, Ok, Err, refl, sym, ap, subst, ◌∙◌, arith, length, length-append, slice_get}
use Rattle.std.specs.Prelude.{IfOk}
use Rattle.std.proofs.lemmas.List.Elements.{All-cons, All-nil}
use Rattle.std.specs.List.{IsDistinct}
use Rattle.srch_base.specs.declared.faults.Or.{Or}
use Rattle.srch_base.specs.declared.faults.Or.TheVariants as causes
use Rattle.chunk_store.specs.declared.disk.Disk.{Ghosts as DiskWords}
use Rattle.commit_outcomes.specs.declared.strayed.Strayed.{Strayed}
use Rattle.doc_types.specs.Schemas.{IsSchema}
use Rattle.doc_types.specs.declared.schema.Schema.{Schema}
use Rattle.index_conf.specs.declared.conf.IndexConf.{IndexConf}
use Rattle.step_book.specs.Tellings.{AtOpening}
use Rattle.step_history.specs.History.{Base, Step}
use Rattle.store_keep.specs.Opens.{IsOpened, base_of, opening_of}
use Rattle.store_keep.specs.declared.opening.Opened.{Opened}
use Rattle.snap_share.specs.Closings.{Closes}
use Rattle.engine_tables.specs.Endings.{CanEnd, EndingValue, HasEnded, HaveEnded}
use Rattle.engine_tables.specs.Engines.{EnginesValue}
use Rattle.engine_tables.specs.Names.{AreNamed, AreServed, IsRoomFor}
use Rattle.engine_tables.specs.Tokens.{SeatsDiffer, SitsAt, TokensValue, told_at, tokens_at}
use Rattle.engine_tables.specs.Workers.{WorkerValue, by_tokens}
use Rattle.engine_tables.specs.declared.ended.Ended.{Ended}
use Rattle.self_test.specs.Asking.{Leads}
use Rattle.self_test.specs.Conversations.{ConversesOr}
use Rattle.self_test.specs.Documents.{after_document, documents_from}
use Rattle.self_test.specs.Ends.{Ends, EndsBy, Found, HasFound, IsOver, LeadsTo, Works, first_tokens}
use Rattle.self_test.specs.Own.{IsEmpty}
use Rattle.self_test.specs.Summaries.{IsSummary}
use Rattle.self_test.specs.declared.generator.Document.{Document}
use Rattle.self_test.specs.declared.fault.Astray.{Astray}
use Rattle.self_test.specs.declared.fault.Astray.TheVariants.{JobFailed}
use Rattle.self_test.specs.declared.fault.SelftestFault.{SelftestFault}
use Rattle.self_test.specs.declared.fault.SelftestFault.TheVariants.{NoMemory, JobFailed as FailsJob, Strayed as HasStrayed}
use Rattle.self_test.specs.declared.summary.Summary.{Summary}
use Rattle.self_test.specs.steps.Engines.{IsAnswered, IsNeverAstray, IsReady}
use Rattle.self_test.specs.steps.Servable.{IsServable}
use Rattle.self_test.proofs.Begun.{closed_well}
use Rattle.self_test.proofs.Counting.{astray_never, found_so}
use Rattle.self_test.proofs.Ending.{IsOver as IsWhole, closed_over, first_worker}
use Rattle.self_test.proofs.Losing.{Laws}
use Rattle.self_test.proofs.Scripts.{all_drawn}

-- so many documents
documents_length : (x docs : ℕ) → length (documents_from x docs) ≡ docs
documents_length x zero = refl
documents_length x (suc docs) = ap suc (documents_length (after_document x) docs)

-- one index that can be served
pub served_one : (index : IndexConf) → IsServable index → AreServed (index ∷ [])
served_one index servable = record {
  few = omega arith;
  schemas = All-cons (λ (conf : IndexConf). IsSchema conf.schema) index [] servable.schema (All-nil (λ (conf : IndexConf). IsSchema conf.schema));
  zones = All-cons (λ (conf : IndexConf). conf.rules.zones ≡ conf.schema.zones) index [] servable.zones (All-nil (λ (conf : IndexConf). conf.rules.zones ≡ conf.schema.zones));
}

-- the last element of a list of one
pub one_last : {X : Type 0} (xs front : List X) (x : X) → xs ≡ front ++ x ∷ [] → length xs ≡ 1 → slice_get xs 0 ≡ Some x
one_last xs [] x is one = ap (λ (list : List _). slice_get list 0) is
one_last xs (y ∷ front) x is one = absurd (omega (arith, ap length is, one, length-append (y ∷ front) (x ∷ [])))

-- the last tokens are the first ones, where there are no others
pub first_last : (seats front : List TokensValue) (last first : TokensValue) → seats ≡ front ++ last ∷ [] → seats ≡ first ∷ [] → last ≡ first
first_last seats front last first is one =
    let here : slice_get seats 0 ≡ Some last = one_last seats front last is (ap length one) in
    let there : slice_get seats 0 ≡ Some first = ap (λ (list : List TokensValue). slice_get list 0) one in
    cc (here, there)

-- what a worker with these tokens came to is what its conversation came to, which left others
pub found_by : (schema : ℕ → Schema) (base : ℕ → Base) (confs : List IndexConf) (documents : List Document) (result : Result Summary (Or Astray)) (first left : TokensValue) (old new : WorkerValue)
    → old ≡ record { confs = confs; tokens = first } → new.confs ≡ confs → new.tokens ≡ left → ConversesOr (λ (worker : WorkerValue). worker.confs) (by_tokens schema base) documents result old new
    → LeadsTo schema base confs documents result first left
found_by schema base confs documents result first left old new begun same leaves comes =
    let ended : new ≡ record { confs = confs; tokens = left } =
    ap (λ (list : List IndexConf). record { confs = list; tokens = new.tokens }) same ∙ ap (λ (tokens : TokensValue). record { confs = confs; tokens = tokens }) leaves in
    subst (λ (w : WorkerValue). ConversesOr (λ (worker : WorkerValue). worker.confs) (by_tokens schema base) documents result w (record { confs = confs; tokens = left })) begun
    (subst (λ (w : WorkerValue). ConversesOr (λ (worker : WorkerValue). worker.confs) (by_tokens schema base) documents result old w) ended comes)

-- the tokens of one worker
one_differs : (left : TokensValue) → SeatsDiffer (left ∷ [])
unfolding IsDistinct
one_differs left = record { apart = (tt, tt) }

-- what a worker with these tokens was led to is what its events led to
pub works_by : (schema : ℕ → Schema) (base : ℕ → Base) (confs : List IndexConf) (first left : TokensValue) (old new : WorkerValue) → old ≡ record { confs = confs; tokens = first } → new.confs ≡ confs → new.tokens ≡ left
    → Leads (λ (worker : WorkerValue). worker.confs) (by_tokens schema base) old new → Works schema base confs first left
works_by schema base confs first left old new begun same leaves leads =
    let ended : new ≡ record { confs = confs; tokens = left } =
    ap (λ (list : List IndexConf). record { confs = list; tokens = new.tokens }) same ∙ ap (λ (tokens : TokensValue). record { confs = confs; tokens = tokens }) leaves in
    subst (λ (w : WorkerValue). Leads (λ (worker : WorkerValue). worker.confs) (by_tokens schema base) w (record { confs = confs; tokens = left })) begun
    (subst (λ (w : WorkerValue). Leads (λ (worker : WorkerValue). worker.confs) (by_tokens schema base) old w) ended leads)

module _ (engines : EnginesValue) (old new : EndingValue) (left : TokensValue) where
  abbrev pub IsPut : Type 0
  IsPut = new ≡ record old { seats = old.seats ++ left ∷ [] }

  -- the tokens that are put into an empty place are all that are there
  pub put_one : IsRoomFor 1 1 old → IsPut → new.seats ≡ left ∷ []
  put_one room put = ap (λ (ending : EndingValue). ending.seats) put ∙ ap (λ (seats : List TokensValue). seats ++ left ∷ []) room.none

  -- with these tokens the engines can end
  pub can_end : length engines.confs ≡ 1 → IsRoomFor 1 1 old → SitsAt engines left → IsPut → CanEnd engines new
  can_end one room sits put = record {
    room = omega (arith, one, room.indexes_fit, ap (λ (ending : EndingValue). ending.indexes) put);
    sit = subst (All (SitsAt engines)) (sym (put_one room put)) (All-cons (SitsAt engines) left [] sits (All-nil (SitsAt engines)));
    differ = subst SeatsDiffer (sym (put_one room put)) (one_differs left);
  }

module _ {D : Type 0} (words : DiskWords D) where
  -- one store has its own book, columns and beginning for names
  pub named_one : (index : IndexConf) (store : Opened D) → IsReady words index store
      → AreNamed words (λ place. store.book.past.seen.book) (λ place. store.faults.past.seen.book) (λ place. store.stops.past.seen.book) (λ place. index.schema) (λ place. base_of store) (λ place. opening_of words store)
      (index ∷ []) (store ∷ [])
  named_one index store ready = record {
    many = refl;
    columns = columns;
    books = books;
    fault_books = fault_books;
    stop_books = stop_books;
    bases = bases;
    openings = openings;
    are_opened = are_opened;
  }
    where
      columns : (place : ℕ) (conf : IndexConf) → slice_get (index ∷ []) place ≡ Some conf → index.schema ≡ conf.schema
      columns zero conf at = cc at
      columns (suc place) conf at = absurd (cc at)

      books : (place : ℕ) (other : Opened D) → slice_get (store ∷ []) place ≡ Some other → other.book.past.seen.book ≡ store.book.past.seen.book
      books zero other at = cc at
      books (suc place) other at = absurd (cc at)

      fault_books : (place : ℕ) (other : Opened D) → slice_get (store ∷ []) place ≡ Some other → other.faults.past.seen.book ≡ store.faults.past.seen.book
      fault_books zero other at = cc at
      fault_books (suc place) other at = absurd (cc at)

      stop_books : (place : ℕ) (other : Opened D) → slice_get (store ∷ []) place ≡ Some other → other.stops.past.seen.book ≡ store.stops.past.seen.book
      stop_books zero other at = cc at
      stop_books (suc place) other at = absurd (cc at)

      openings : (place : ℕ) (other : Opened D) → slice_get (store ∷ []) place ≡ Some other → opening_of words store ≡ opening_of words other
      openings zero other at = let same : store ≡ other = cc at in ap (λ (o : Opened D). opening_of words o) same
      openings (suc place) other at = absurd (cc at)

      bases : (place : ℕ) (other : Opened D) → slice_get (store ∷ []) place ≡ Some other → base_of store ≡ base_of other
      bases zero other at = let same : store ≡ other = cc at in ap base_of same
      bases (suc place) other at = absurd (cc at)

      are_opened : (place : ℕ) (other : Opened D) → slice_get (store ∷ []) place ≡ Some other → IsOpened words index.schema other
      are_opened zero other at = let same : store ≡ other = cc at in subst (λ (o : Opened D). IsOpened words index.schema o) same ready.opened
      are_opened (suc place) other at = absurd (cc at)

  -- one store that has names is the one of their index
  pub over_one : (book faults stops : ℕ → _) (schema : ℕ → Schema) (base : ℕ → Base) (opened : ℕ → AtOpening) (index : IndexConf) (store : Opened D) (confs : List IndexConf) → confs ≡ index ∷ [] → IsReady words index store
      → AreNamed words book faults stops schema base opened (index ∷ []) (store ∷ []) → IsOver words schema base opened confs
  over_one book faults stops schema base opened index store confs is ready named = record {
    index = index;
    store = store;
    is = is;
    ours = ready.ours;
    columns = named.columns 0 index refl;
    begins = named.bases 0 store refl;
    empty = subst IsEmpty (sym (named.bases 0 store refl)) ready.empty;
    counted = named.openings 0 store refl;
    is_opened = named.are_opened 0 store refl;
  }

  -- one engine ended with these tokens
  pub ended_one : {J : Type 0} (schema : ℕ → Schema) (base : ℕ → Base) (opened : ℕ → AtOpening) (indexes workers : ℕ) (seats : List TokensValue) (left : TokensValue) (all : List (Ended D J)) → indexes ≡ 1 → workers ≡ 1 → seats ≡ left ∷ []
      → HaveEnded words schema base opened indexes workers seats all → HaveEnded words schema base opened 1 1 (left ∷ []) all
  ended_one schema base opened indexes workers seats left all one alone put ended =
      subst (λ (list : List TokensValue). HaveEnded words schema base opened 1 1 list all) put
      (subst (λ (n : ℕ). HaveEnded words schema base opened 1 n seats all) alone (subst (λ (n : ℕ). HaveEnded words schema base opened n workers seats all) one ended))

  -- where the engine ended well, its history has the commits of the one worker and no others
  whole : {J : Type 0} (schema : ℕ → Schema) (base : ℕ → Base) (opened : ℕ → AtOpening) (conf : IndexConf) (confs : List IndexConf) (left : TokensValue) (one : Ended D J) → confs ≡ conf ∷ [] → Works schema base confs first_tokens left
      → HasEnded words schema base opened 0 1 (told_at 0 (left ∷ [])) (tokens_at 0 (left ∷ [])) one → one.answer ≡ Ok tt → (history : List Step) × IsWhole history (record { confs = conf ∷ []; tokens = left })
  whole schema base opened conf confs left one is works (note, noted, new, closes) well =
      let worker : WorkerValue = record { confs = conf ∷ []; tokens = left } in
      let worked : Works schema base (conf ∷ []) first_tokens left = subst (λ (list : List IndexConf). Works schema base list first_tokens left) is works in
      closed_over schema base conf worker worked.events worked.follows
      (closed_well words schema base opened 0 1 (told_at 0 (left ∷ [])) (tokens_at 0 (left ∷ [])) one.disk note new
      (subst (λ (end : Result (Unit {0}) (Or Strayed)). Closes words schema base opened 0 1 (told_at 0 (left ∷ [])) (tokens_at 0 (left ∷ [])) one.disk note end new) well closes))

  module _ {J : Type 0} (laws : Laws) (schema : ℕ → Schema) (base : ℕ → Base) (opened : ℕ → AtOpening) (confs : List IndexConf) (number docs : ℕ) (left : TokensValue) (all : List (Ended D J)) (one : Ended D J) (found : Result Summary (Or Astray))
      (over : IsOver words schema base opened confs) (few : docs ≤ 100000) (works : Works schema base confs first_tokens left) (leads : LeadsTo schema base confs (documents_from number docs) found first_tokens left)
      (ended : HaveEnded words schema base opened 1 1 (left ∷ []) all) (at : slice_get all 0 ≡ Some one) where
    abbrev documents : List Document
    documents = documents_from number docs

    ends : HasEnded words schema base opened 0 1 (told_at 0 (left ∷ [])) (tokens_at 0 (left ∷ [])) one
    ends = ended.each 0 one at

    few_documents : length documents ≤ 100000
    few_documents = omega (arith, few, documents_length number docs)

    led : ConversesOr (λ (worker : WorkerValue). worker.confs) (by_tokens schema base) documents found (first_worker over.index) (record { confs = over.index ∷ []; tokens = left })
    led = subst (λ (list : List IndexConf). ConversesOr (λ (worker : WorkerValue). worker.confs) (by_tokens schema base) documents found (record { confs = list; tokens = first_tokens }) (record { confs = list; tokens = left })) over.is leads

    abbrev Came : Result Summary (Or Astray) → Type 0
    Came result = ConversesOr (λ (worker : WorkerValue). worker.confs) (by_tokens schema base) documents result (first_worker over.index) (record { confs = over.index ∷ []; tokens = left })

    by_found : (result : Result Summary (Or Astray)) → Came result → one.answer ≡ Ok tt → IfOk result (IsSummary documents)
    by_found (Ok summary) converses well =
        let (history, is_whole) = whole schema base opened over.index confs left one over.is works ends well in
        found_so laws schema base history over.index over.ours documents over.empty (all_drawn number docs) few_documents (record { confs = over.index ∷ []; tokens = left }) is_whole summary converses
    by_found (Err fault) astray well = tt

    -- where the engine ended well, what was found is a summary of the documents
    pub found_well : one.answer ≡ Ok tt → IfOk found (IsSummary documents)
    found_well well = by_found found led well

    -- and no statement went astray but a job
    pub never_so : IsNeverAstray found one.answer
    never_so well astray =
        let (history, is_whole) = whole schema base opened over.index confs left one over.is works ends well in
        astray_never laws schema base history over.index over.ours documents over.empty (all_drawn number docs) few_documents (record { confs = over.index ∷ []; tokens = left }) is_whole (subst Came astray led)

    -- how the one engine ended is what the answer says
    pub ends_so : (answer : Result Summary SelftestFault) → IsAnswered found one.answer answer → Ends words documents answer
    ends_so answer says = by_answer answer says
      where
        ends_by : (found : Option Found) (end : Result (Unit {0}) (Or Strayed)) → HasFound schema base confs found left → one.answer ≡ end → HasEnded words schema base opened 0 1 (told_at 0 (left ∷ [])) (tokens_at 0 (left ∷ [])) one
            → EndsBy words found end
        ends_by found end has is (note, noted, new, closes) = subst (λ (e : Result (Unit {0}) (Or Strayed)). EndsBy words found e) is
            (record { schema = schema; base = base; opened = opened; confs = confs; over = over; left = left; works = works; has = has; disk = one.disk; note = note; new = new; closes = closes })

        by_answer : (answer : Result Summary SelftestFault) → IsAnswered found one.answer answer → Ends words documents answer
        by_answer (Ok summary) (is, ok) =
            ends_by (Some (record { documents = documents; result = Ok summary })) (Ok tt) (subst (λ (r : Result Summary (Or Astray)). LeadsTo schema base confs documents r first_tokens left) is leads) ok ends
        by_answer (Err FailsJob) (is, ok) =
            ends_by (Some (record { documents = documents; result = Err (causes.Fault JobFailed) })) (Ok tt) (subst (λ (r : Result Summary (Or Astray)). LeadsTo schema base confs documents r first_tokens left) is leads) ok ends
        by_answer (Err (HasStrayed strayed)) says = ends_by None (Err (causes.Fault strayed)) tt says ends
        by_answer (Err NoMemory) says = tt

-- what holds of what was found, where the end was well, holds of the answer
pub answered_so : (P : Summary → Type 0) (found : Result Summary (Or Astray)) (end : Result (Unit {0}) (Or Strayed)) (answer : Result Summary SelftestFault) → IsAnswered found end answer → (end ≡ Ok tt → IfOk found P) → IfOk answer P
answered_so P found end (Ok summary) (is, ok) holds = subst (λ (r : Result Summary (Or Astray)). IfOk r P) is (holds ok)
answered_so P found end (Err fault) says holds = tt
