-- What a worker alone was shown of the documents, by its own commits.
use Rattle.std.proofs.Common.{◌≡◌, ℕ, suc, ◌+◌, ◌<◌, ◌==◌, ◌&&◌, Bool, true, false, List, [], ◌∷◌, ◌++◌, length, Some, slice_get, take, refl, sym, ap, subst, ◌∙◌, arith, append_assoc, append-nil, length-append}
use Rattle.std.specs.Prelude.{map}
use Rattle.std.specs.List.{AllByRecursion, filter, flat_map, fold}
use Rattle.std.proofs.Math.Seq.{take-append_seam}
use Rattle.std.proofs.lemmas.Bool.{and_left, and_right, eq-eqb, ne_eqb}
use Rattle.std.proofs.lemmas.List.{length-map}
use Rattle.std.proofs.lemmas.List.Elements.{filter-append, recursion_from_All}
use Rattle.std.proofs.lemmas.List.Sums.{fold-append, length-filter}
use Rattle.std.proofs.lemmas.Option.{slice_get_within}
use mathlib.Core.List.{IsPrefix}
use Rattle.commit_outcomes.specs.declared.outcome.CommitOutcome.{CommitOutcome}
use Rattle.commit_outcomes.specs.declared.outcome.CommitOutcome.TheVariants as outcomes
use Rattle.doc_types.specs.declared.schema.Schema.{Schema}
use Rattle.doc_types.specs.declared.transactions.TxnOp.{TxnOp}
use Rattle.doc_types.specs.Commits.{Entry, after, after_change, after_entry, verdict}
use Rattle.doc_types.specs.Rows.{Rows}
use Rattle.doc_types.specs.Snapshots.{LayerValue, SnapshotValue, live}
use Rattle.index_conf.specs.declared.conf.IndexConf.{IndexConf}
use Rattle.ql_answers.specs.Sessions.{disk_count}
use Rattle.ql_session.specs.Events.{Event, Configured, Nothing, NoMemory, Read, Commit, Reshape}
use Rattle.ql_session.specs.Machines.{FollowAll}
use Rattle.step_book.specs.Fronts.{FrontValue}
use Rattle.step_history.specs.History as steps
use Rattle.step_history.specs.History.{Base, IsGood, Step, commits, last_snapshot}
use Rattle.step_history.specs.Places.{disk_chunks, disk_layers}
use Rattle.step_history.proofs.Counts.{numbers, rows}
use Rattle.step_history.proofs.Steps.{front as beginning}
use Rattle.step_tokens.specs.Tokens.{TokenValue}
use Rattle.snap_share.specs.Answers.{seen_by}
use Rattle.engine_tables.specs.Outcomes.{Tells}
use Rattle.engine_tables.specs.Tokens.{TokensValue}
use Rattle.engine_tables.specs.Workers.{CommitsBy, Grows, HasSeen, WorkerValue, documents_of}
use Rattle.line_workers.specs.Alone.{IsAlone, IsClear, IsUntroubled, OpenAlike, chunks_read}
use Rattle.line_workers.specs.Attempts.{OnFront, attempts_on, is_attempt, may_stand}
use Rattle.line_workers.specs.Histories.{AreEntriesOf, IsDoubtful, IsOfHistory, IsOneHistory}
use Rattle.line_workers.proofs.Counting.{commits_then}
use Rattle.line_workers.proofs.Moving.{same_confs, same_shape}
use Rattle.line_workers.proofs.Moving as moving
use Rattle.line_workers.proofs.Places.{get_last, zip_long}
use Rattle.line_workers.proofs.Plainly.{over}
use Rattle.line_workers.proofs.Repeated.{IsShown, Keeps, Leads, Makes, Turns}
use Rattle.line_workers.proofs.Stands.{Plain, Stand}
use Rattle.line_workers.proofs.Standing.{alone, amid}
use Rattle.line_workers.proofs.Whole.{many_tokens}
use Rattle.line_workers.specs.Workers.{first_tokens}

-- an event that is untroubled leaves nothing in doubt
sure : (event : Event FrontValue) → IsUntroubled event → IsDoubtful event → ⊥
sure (Configured confs) calm doubtful = doubtful
sure Nothing calm doubtful = doubtful
sure NoMemory calm doubtful = doubtful
sure (Read place front) calm doubtful = doubtful
sure (Commit place ops (outcomes.Committed removed) front) calm doubtful = doubtful
sure (Commit place ops (outcomes.Duplicate id) front) calm doubtful = doubtful
sure (Commit place ops (outcomes.Full full) front) calm doubtful = doubtful
sure (Commit place ops outcomes.Refused front) calm doubtful = doubtful
sure (Commit place ops (outcomes.InDoubt doubt) front) calm doubtful = calm
sure (Commit place ops (outcomes.Strayed numbers) front) calm doubtful = doubtful
sure (Reshape place job outcome own front) calm doubtful = doubtful

kept_one : {X : Type 0} (P : X → Type 0) (p : X → Bool) (x : X) (xs : List X) (b : Bool) → p x ≡ b → P x → AllByRecursion P (filter p xs) → AllByRecursion P (filter p (x ∷ xs))
kept_one P p x xs true is here rest = rw is (here, rest)
kept_one P p x xs false is here rest = rw is rest

kept_all : {X : Type 0} (P : X → Type 0) (p : X → Bool) (xs : List X) → AllByRecursion P xs → AllByRecursion P (filter p xs)
kept_all P p [] all = tt
kept_all P p (x ∷ xs) all = kept_one P p x xs (p x) refl all.0 (kept_all P p xs all.1)

first_all : {X : Type 0} (P : X → Type 0) (xs ys : List X) → AllByRecursion P (xs ++ ys) → AllByRecursion P xs
first_all P [] ys all = tt
first_all P (x ∷ xs) ys all = (all.0, first_all P xs ys all.1)

-- where nothing is in doubt, each commit has its entry
as_many : (base : Base) (worker : ℕ) (events : List (Event FrontValue)) (entries : List Entry) → AreEntriesOf base worker events entries → AllByRecursion (λ e. IsUntroubled e) events → length entries ≡ length events
as_many base worker [] [] are calm = refl
as_many base worker [] (entry ∷ entries) are calm = absurd are
as_many base worker (event ∷ events) [] are calm = absurd (sure event calm.0 are.0)
as_many base worker (event ∷ events) (entry ∷ entries) are calm = ap suc (as_many base worker events entries are.1 calm.1)

-- how many chunks are on the disk
disks_are : (snapshot : SnapshotValue) → disk_count snapshot ≡ length (disk_chunks snapshot)
disks_are snapshot = sym (length-filter (λ (layer : LayerValue). layer.disk) snapshot.layers) ∙ sym (length-map (disk_layers snapshot) (λ (layer : LayerValue). layer.rows))

-- what the indexes stand for at opening, where they are read at so many chunks
abbrev pub opened : (ℕ → Base) → List ℕ → Stand
opened base chunks = record { of = λ p. record { number = (base p).opening.number + 0; rows = live (base p).opening }; chunks = chunks }

module _ (schema : ℕ → Schema) (base : ℕ → Base) (confs : List IndexConf) (events : List (Event FrontValue)) (history : ℕ → List Step)
    (calm : AllByRecursion (λ e. IsUntroubled e) events)
    (one : (index : ℕ) → index < length confs → IsOneHistory (schema index) (base index) index (history index) (events ∷ [])) where
  -- what an index stands for after so many commits
  abbrev plain_of : ℕ → ℕ → Plain
  plain_of p n = record { number = (base p).opening.number + n; rows = after (live (base p).opening) (take n (commits (history p))) }

  -- how many commits to the index there are among the events
  abbrev made : ℕ → List (Event FrontValue) → ℕ
  made p before = length (attempts_on p before)

  -- what the indexes stand for after some events and before others
  abbrev pub stand_at : List (Event FrontValue) → List (Event FrontValue) → Stand
  stand_at before rest = record { of = λ p. plain_of p (made p before); chunks = flat_map (chunks_read base) rest }

  abbrev doc_at : List (Event FrontValue) → ℕ → Plain
  doc_at before p = plain_of p (made p before)

  nothing_kept : (p : ℕ) (event : Event FrontValue) → is_attempt p event ≡ false → attempts_on p (event ∷ []) ≡ []
  nothing_kept p event none = rw none refl

  one_kept : (p : ℕ) (event : Event FrontValue) → is_attempt p event ≡ true → attempts_on p (event ∷ []) ≡ event ∷ []
  one_kept p event some = rw some refl

  none_more : (p : ℕ) (before : List (Event FrontValue)) (event : Event FrontValue) → is_attempt p event ≡ false → made p (before ++ event ∷ []) ≡ made p before
  none_more p before event none =
      ap length (filter-append (is_attempt p) before (event ∷ []) ∙ ap (λ (es : List (Event FrontValue)). attempts_on p before ++ es) (nothing_kept p event none) ∙ append-nil (attempts_on p before))

  one_more : (p : ℕ) (before : List (Event FrontValue)) (event : Event FrontValue) → is_attempt p event ≡ true → made p (before ++ event ∷ []) ≡ made p before + 1
  one_more p before event some =
      ap length (filter-append (is_attempt p) before (event ∷ []) ∙ ap (λ (es : List (Event FrontValue)). attempts_on p before ++ es) (one_kept p event some)) ∙ length-append (attempts_on p before) (event ∷ [])

  -- what no commit changes
  kept : (p : ℕ) (before : List (Event FrontValue)) (event : Event FrontValue) → is_attempt p event ≡ false → doc_at (before ++ event ∷ []) p ≡ doc_at before p
  kept p before event none = ap (λ (n : ℕ). plain_of p n) (none_more p before event none)

  -- The front is a beginning of the history, and has so many commits.
  record Shows (place n : ℕ) (front : FrontValue) : Type 0 where
    pub begins : IsPrefix front.steps (history place)
    pub many : length (commits front.steps) ≡ n
    pub taken : commits front.steps ≡ take n (commits (history place))

  shows : (place : ℕ) → place < length confs → (before : List (Event FrontValue)) (event : Event FrontValue) (later : List (Event FrontValue)) → events ≡ before ++ event ∷ later → (front : FrontValue)
      → ((P : FrontValue → Type 0) → OnFront place P event → P front) → Shows place (made place (before ++ event ∷ [])) front
  shows place below before event later is front pick =
      let it = one place below in
      let of : IsOfHistory (base place) place (history place) 1 events = it.each 0 events refl in
      let begins : IsPrefix front.steps (history place) = pick (λ (f : FrontValue). IsPrefix f.steps (history place)) (amid (OnFront place (λ (f : FrontValue). IsPrefix f.steps (history place))) before event later
      (subst (λ (es : List (Event FrontValue)). AllByRecursion (OnFront place (λ (f : FrontValue). IsPrefix f.steps (history place))) es) is (recursion_from_All (OnFront place (λ (f : FrontValue). IsPrefix f.steps (history place))) events of.begins))) in
      let entries = pick (λ (f : FrontValue). AreEntriesOf (base place) 1 (attempts_on place (before ++ event ∷ [])) (commits f.steps)) (alone (schema place) (base place) place (history place) events before event later it is) in
      let all : AllByRecursion (λ e. IsUntroubled e) ((before ++ event ∷ []) ++ later) = subst (λ (es : List (Event FrontValue)). AllByRecursion (λ e. IsUntroubled e) es) (is ∙ sym (append_assoc before (event ∷ []) later)) calm in
      let sofar : AllByRecursion (λ e. IsUntroubled e) (before ++ event ∷ []) = first_all (λ e. IsUntroubled e) (before ++ event ∷ []) later all in
      let many = as_many (base place) 1 (attempts_on place (before ++ event ∷ [])) (commits front.steps) entries (kept_all (λ e. IsUntroubled e) (is_attempt place) (before ++ event ∷ []) sofar) in
      let cut : commits front.steps ++ commits begins.0 ≡ commits (history place) = sym (commits_then front.steps begins.0) ∙ ap (λ (s : List Step). commits s) begins.1 in
      record {
        begins = begins;
        many = many;
        taken = sym (take-append_seam (commits front.steps) (commits begins.0)) ∙ ap (λ (es : List Entry). take (length (commits front.steps)) es) cut ∙ ap (λ (n : ℕ). take n (commits (history place))) many;
      }

  rows_at : (place n : ℕ) (front : FrontValue) → Shows place n front → IsGood (schema place) (base place) front.steps → live (last_snapshot (base place) front.steps) ≡ (plain_of place n).rows
  rows_at place n front shown good = rows (schema place) (base place) front.steps good ∙ ap (λ (es : List Entry). after (live (base place).opening) es) shown.taken

  read_shown : (place : ℕ) → place < length confs → (before : List (Event FrontValue)) (front : FrontValue) (tokens : TokensValue) → HasSeen schema base tokens place front → Shows place (made place (before ++ Read place front ∷ [])) front
      → IsShown (doc_at before place) (documents_of base front)
  read_shown place below before front tokens has shown =
      let same : documents_of base front ≡ last_snapshot (base place) front.steps = ap (λ (i : ℕ). last_snapshot (base i) front.steps) has.of in
      record {
        layers = has.layers;
        rows = ap live same ∙ rows_at place (made place (before ++ Read place front ∷ [])) front shown has.good ∙ ap (λ (n : ℕ). (plain_of place n).rows) (none_more place before (Read place front) refl);
      }

  attempted : (place : ℕ) (ops : List TxnOp) (removed : ℕ) (front : FrontValue) → is_attempt place (Commit place ops (outcomes.Committed removed) front) ≡ true
  attempted place ops removed front = ap (λ (b : Bool). b && true) (eq-eqb place place refl)

  committed : (place : ℕ) (before : List (Event FrontValue)) (ops : List TxnOp) (removed : ℕ) (front : FrontValue) (was now : TokenValue) → front ≡ seen_by now → IsGood (schema place) (base place) front.steps
      → Tells (schema place) (base place) was ops (outcomes.Committed removed) now → Shows place (made place (before ++ Commit place ops (outcomes.Committed removed) front ∷ [])) front
      → Makes ops removed (doc_at before place) (doc_at (before ++ Commit place ops (outcomes.Committed removed) front ∷ []) place)
  committed place before ops removed front was now is good tells shown =
      let commit = tells.2.1 in
      let event : Event FrontValue = Commit place ops (outcomes.Committed removed) front in
      let H : List Entry = commits (history place) in
      let earlier : List Entry = commits commit.earlier in
      let start : Rows = live (base place).opening in
      let n : ℕ = made place before in
      let N : ℕ = (base place).opening.number + n in
      let R : Rows = after start (take n H) in
      let more : made place (before ++ event ∷ []) ≡ n + 1 = one_more place before event (attempted place ops removed front) in
      let last : front.steps ≡ commit.earlier ++ steps.Commit commit.entry commit.snapshot ∷ [] = ap (λ (f : FrontValue). f.steps) is ∙ commit.last in
      let ends : commits front.steps ≡ earlier ++ commit.entry ∷ [] = ap (λ (s : List Step). commits s) last ∙ commits_then commit.earlier (steps.Commit commit.entry commit.snapshot ∷ []) in
      let size : length (commits front.steps) ≡ length earlier + 1 = ap length ends ∙ length-append earlier (commit.entry ∷ []) in
      let count : length earlier ≡ n = omega (arith, size, shown.many, more) in
      let rest : List Entry = commits shown.begins.0 in
      let cut : earlier ++ commit.entry ∷ rest ≡ H = sym (append_assoc earlier (commit.entry ∷ []) rest) ∙ ap (λ (es : List Entry). es ++ rest) (sym ends)
      ∙ sym (commits_then front.steps shown.begins.0) ∙ ap (λ (s : List Step). commits s) shown.begins.1 in
      let first : earlier ≡ take n H = sym (take-append_seam earlier (commit.entry ∷ rest)) ∙ ap (λ (es : List Entry). take (length earlier) es) cut ∙ ap (λ (k : ℕ). take k H) count in
      let good_before : IsGood (schema place) (base place) commit.earlier = beginning (schema place) (base place) commit.earlier (steps.Commit commit.entry commit.snapshot ∷ [])
      (subst (λ (s : List Step). IsGood (schema place) (base place) s) last good) in
      let rows_before : live (last_snapshot (base place) commit.earlier) ≡ R = rows (schema place) (base place) commit.earlier good_before ∙ ap (λ (es : List Entry). after start es) first in
      let stands : slice_get (commits front.steps) (length earlier) ≡ Some commit.entry = ap (λ (es : List Entry). slice_get es (length earlier)) ends ∙ get_last earlier commit.entry in
      let numbered = numbers (schema place) (base place) front.steps (length earlier) commit.entry good stands in
      let number : commit.entry.number ≡ N + 1 = omega (arith, numbered, count) in
      let as_plain : ℕ → Rows → Plain = λ k r. record { number = k; rows = r } in
      let rows_after : after start (take (made place (before ++ event ∷ [])) H) ≡ fold (after_change (N + 1)) R commit.entry.changes =
      ap (λ (es : List Entry). after start es) (sym shown.taken) ∙ ap (λ (es : List Entry). after start es) ends ∙ fold-append after_entry start earlier (commit.entry ∷ [])
      ∙ ap (λ (es : List Entry). after_entry (after start es) commit.entry) first ∙ ap (λ (k : ℕ). fold (after_change k) R commit.entry.changes) number in
      record {
        changes = commit.entry.changes;
        verdict = ap (λ (r : Rows). verdict ops r) (sym rows_before) ∙ commit.becomes.verdict;
        is = ap (λ (k : ℕ). as_plain k (after start (take (made place (before ++ event ∷ [])) H))) (omega (arith, more)) ∙ ap (λ (r : Rows). as_plain (N + 1) r) rows_after;
      }

  refused : (place : ℕ) (before : List (Event FrontValue)) (ops : List TxnOp) (id : ℕ) (front : FrontValue) (was now : TokenValue) → front ≡ seen_by now → IsGood (schema place) (base place) front.steps
      → Tells (schema place) (base place) was ops (outcomes.Duplicate id) now → Shows place (made place (before ++ Commit place ops (outcomes.Duplicate id) front ∷ [])) front
      → Turns ops (outcomes.Duplicate id) (doc_at before place) (doc_at (before ++ Commit place ops (outcomes.Duplicate id) front ∷ []) place)
  refused place before ops id front was now is good tells shown =
      let event : Event FrontValue = Commit place ops (outcomes.Duplicate id) front in
      let none : is_attempt place event ≡ false = and_right (place == place) false refl in
      let there : live (last_snapshot (base place) now.seen) ≡ (doc_at before place).rows =
      ap (λ (f : FrontValue). live (last_snapshot (base place) f.steps)) (sym is) ∙ rows_at place (made place (before ++ event ∷ [])) front shown good ∙ ap (λ (n : ℕ). (plain_of place n).rows) (none_more place before event none) in
      (ap (λ (r : Rows). verdict ops r) (sym there) ∙ tells.2, kept place before event none)

  turns : (place : ℕ) (before : List (Event FrontValue)) (ops : List TxnOp) (outcome : CommitOutcome) (front : FrontValue) (old new : TokensValue) → CommitsBy schema base old place ops outcome front new → IsClear outcome
      → Shows place (made place (before ++ Commit place ops outcome front ∷ [])) front → Turns ops outcome (doc_at before place) (doc_at (before ++ Commit place ops outcome front ∷ []) place)
  turns place before ops (outcomes.Committed removed) front old new by clear shown = committed place before ops removed front by.before by.after by.is by.good by.tells shown
  turns place before ops (outcomes.Duplicate id) front old new by clear shown = refused place before ops id front by.before by.after by.is by.good by.tells shown
  turns place before ops (outcomes.Full full) front old new by clear shown = absurd clear
  turns place before ops outcomes.Refused front old new by clear shown = absurd clear
  turns place before ops (outcomes.InDoubt doubt) front old new by clear shown = absurd clear
  turns place before ops (outcomes.Strayed numbers) front old new by clear shown = absurd clear

  calm_at : (before : List (Event FrontValue)) (event : Event FrontValue) (later : List (Event FrontValue)) → events ≡ before ++ event ∷ later → IsUntroubled event
  calm_at before event later is = amid (λ e. IsUntroubled e) before event later (subst (λ (es : List (Event FrontValue)). AllByRecursion (λ e. IsUntroubled e) es) is calm)

  -- what an event leaves that changes no documents and reads none
  keeps : (before : List (Event FrontValue)) (event : Event FrontValue) (later : List (Event FrontValue)) → ((p : ℕ) → is_attempt p event ≡ false) → chunks_read base event ≡ [] → Keeps (stand_at before (event ∷ later)) (stand_at (before ++ event ∷ []) later)
  keeps before event later none unread = (λ p. kept p before event (none p), ap (λ (ns : List ℕ). ns ++ flat_map (chunks_read base) later) (sym unread))

  -- what one event tells of the documents
  leads : (before : List (Event FrontValue)) (event : Event FrontValue) (later : List (Event FrontValue)) (old new : WorkerValue) → events ≡ before ++ event ∷ later → old.confs ≡ confs → length old.tokens.list ≡ length confs
      → moving.Leads schema base 0 old event new → Leads confs (stand_at before (event ∷ later)) (over (documents_of base) event) (stand_at (before ++ event ∷ []) later)
  leads before (Configured cs) later old new is same long follows = (follows.0 ∙ same, keeps before (Configured cs) later (λ p. refl) refl)
  leads before Nothing later old new is same long follows = keeps before Nothing later (λ p. refl) refl
  leads before NoMemory later old new is same long follows = absurd (calm_at before NoMemory later is)
  leads before (Read place front) later old new is same long follows =
      let has : HasSeen schema base new.tokens place front = follows.1 in
      let shape = same_shape schema base 0 old new (Read place front ∷ []) (new, follows, refl) in
      let below : place < length confs = omega (arith, slice_get_within new.tokens.list place has.token has.at, shape.1, long) in (
        below,
        read_shown place below before front new.tokens has (shows place below before (Read place front) later is front (λ P holds. holds refl)),
        ap (λ (n : ℕ). n ∷ flat_map (chunks_read base) later) (sym (disks_are (documents_of base front))),
        λ p. kept p before (Read place front) refl,
      )
  leads before (Commit place ops outcome front) later old new is same long follows =
      let mid = follows.0 in
      let event : Event FrontValue = Commit place ops outcome front in
      let by : CommitsBy schema base mid.tokens place ops outcome front new.tokens = follows.2.1 in
      let lists = zip_long Grows old.tokens.list mid.tokens.list follows.1.1.1 in
      let below : place < length confs = omega (arith, slice_get_within mid.tokens.list place by.before by.at, lists, long) in (
        below,
        turns place before ops outcome front mid.tokens new.tokens by (calm_at before event later is) (shows place below before event later is front (λ P holds. holds refl)),
        λ p apart. kept p before event (and_left (place == p) (may_stand outcome) (ne_eqb place p apart)),
        refl,
      )
  leads before (Reshape place job outcome own front) later old new is same long follows =
      let event : Event FrontValue = Reshape place job outcome own front in
      (calm_at before event later is, keeps before event later (λ p. and_right (place == p) false refl) refl)

  -- and what events one after another do
  follow_rows : (before rest : List (Event FrontValue)) (old new : WorkerValue) → events ≡ before ++ rest → old.confs ≡ confs → length old.tokens.list ≡ length confs → FollowAll (moving.Leads schema base 0) old rest new
      → (left : Stand) × FollowAll (Leads confs) (stand_at before rest) (map (over (documents_of base)) rest) left
  follow_rows before [] old new is same long follows = (stand_at before [], refl)
  follow_rows before (event ∷ rest) old new is same long (next, here, onward) =
      let shape = same_shape schema base 0 old next (event ∷ []) (next, here, refl) in
      let later = follow_rows (before ++ event ∷ []) rest next new (is ∙ sym (append_assoc before (event ∷ []) rest)) (same_confs schema base 0 old next (event ∷ []) (next, here, refl) ∙ same) (shape.1 ∙ long) onward in
      (later.0, (stand_at (before ++ event ∷ []) rest, leads before event rest old next is same long here, later.1))

  pub all_rows : (old new : WorkerValue) → old.confs ≡ confs → length old.tokens.list ≡ length confs → FollowAll (moving.Leads schema base 0) old events new
      → (left : Stand) × FollowAll (Leads confs) (opened base (flat_map (chunks_read base) events)) (map (over (documents_of base)) events) left
  all_rows old new same long follows = follow_rows [] events old new refl same long follows

-- what a worker alone was shown and told of the documents
pub run_rows : (schema : ℕ → Schema) (base : ℕ → Base) (confs : List IndexConf) (connection : ℕ) (chunks : List ℕ) (read written : List ℕ) → (run : IsAlone schema base confs connection chunks read written)
    → (left : Stand) × FollowAll (Leads confs) (opened base chunks) (map (over (documents_of base)) run.events) left
run_rows schema base confs connection chunks read written run =
    let rows = all_rows schema base confs run.events run.history (recursion_from_All (λ (e : Event FrontValue). IsUntroubled e) run.events run.untroubled) run.one
    (record { confs = confs; tokens = first_tokens confs 1 }) (record { confs = confs; tokens = run.left }) refl (many_tokens 1 (length confs)) run.follows in
    (rows.0, subst (λ (ns : List ℕ). FollowAll (Leads confs) (opened base ns) (map (over (documents_of base)) run.events) rows.0) run.reads rows.1)

-- the same at opening
pub open_alike : (base other : ℕ → Base) (p : ℕ) → OpenAlike (base p) (other p) → (opened base []).of p ≡ (opened other []).of p
open_alike base other p same =
    let as_plain : ℕ → Rows → Plain = λ k r. record { number = k + 0; rows = r } in
    ap (λ (k : ℕ). as_plain k (live (base p).opening)) same.number ∙ ap (λ (r : Rows). as_plain (other p).opening.number r) same.rows
