-- What the token of the one worker knows of the documents that were written: the history of the index has these commits and no others.
use Rattle.std.proofs.Common.{◌≡◌, inl, inr, ◌≤◌, ◌<◌, ℕ, suc, ◌+◌, List, [], ◌∷◌, ◌++◌, true, ◌==◌, Some, None, length, refl, sym, ap, subst, ◌∙◌, arith, append-nil, length-append}
use Rattle.std.specs.List.{filter}
use Rattle.std.proofs.lemmas.Bool.{eq-eqb}
use mathlib.Core.List.{IsPrefix}
use Rattle.commit_outcomes.specs.declared.outcome.CommitOutcome.{CommitOutcome}
use Rattle.commit_outcomes.specs.declared.outcome.CommitOutcome.TheVariants as outcomes
use Rattle.commit_outcomes.specs.declared.outcome.Doubt.TheVariants as doubts
use Rattle.commit_outcomes.specs.declared.outcome.Full.{Full}
use Rattle.commit_outcomes.specs.declared.strayed.Strayed.{Strayed}
use Rattle.doc_types.specs.Commits.{Accepted, Change, Duplicate, Entry, verdict}
use Rattle.doc_types.specs.Rows.{rows_of}
use Rattle.doc_types.specs.Snapshots.{live}
use Rattle.doc_types.specs.declared.documents.Doc.{Doc}
use Rattle.doc_types.specs.declared.documents.DocRow.{DocRow}
use Rattle.doc_types.specs.declared.schema.Schema.{Schema}
use Rattle.ql_answers.specs.declared.job_outcome.JobOutcome.{JobOutcome}
use Rattle.ql_answers.specs.declared.job_outcome.JobOutcome.TheVariants as job_outcomes
use Rattle.ql_answers.specs.declared.plan.Counted.TheVariants as counting
use Rattle.ql_answers.specs.Sessions.{reply_to_commit}
use Rattle.step_history.specs.History.{Base, Commit, IsGood, Reshape, Step, commits, last_snapshot, made_by}
use Rattle.step_history.specs.declared.job.Job.{Job}
use Rattle.step_history.proofs.Steps.{front}
use Rattle.step_tokens.specs.Tokens.{TokenValue}
use Rattle.store_steps.specs.Refusals.{full_of}
use Rattle.snap_share.specs.Answers.{IsNoteOf, IsOverLimit, seen_by}
use Rattle.engine_tables.specs.Outcomes.{Tells, TellsEnd, TellsJob}
use Rattle.engine_tables.specs.Workers.{Grows}
use Rattle.self_test.specs.Own.{IsEmpty}
use Rattle.self_test.specs.Asking.{is_stop}
use Rattle.self_test.proofs.Inserting.{AreLight, AreNumbered, Wrote, inserting, next_accepted, next_fits, putting, rows_are, rows_at, wrote_more}
use Rattle.step_book.proofs.Prefixes.{prefix_self, prefix_trans}

-- Entries of one worker.

-- all are the first worker's
abbrev pub AreOwn : List Entry → Type 0
AreOwn [] = Unit {0}
AreOwn (entry ∷ entries) = (entry.worker ≡ 1) × AreOwn entries

own_front : (one other : List Entry) → AreOwn (one ++ other) → AreOwn one
own_front [] other own = tt
own_front (entry ∷ one) other (first, own) = (first, own_front one other own)

own_all : (entries : List Entry) → AreOwn entries → length (filter (λ (e : Entry). e.worker == 1) entries) ≡ length entries
own_all [] own = refl
own_all (entry ∷ entries) (first, own) =
    let here : (entry.worker == 1) ≡ true = eq-eqb entry.worker 1 first in
    rw here (ap suc (own_all entries own))

pub commits_then : (xs ys : List Step) → commits (xs ++ ys) ≡ commits xs ++ commits ys
commits_then [] ys = refl
commits_then (Commit entry s ∷ xs) ys = ap (λ (es : List Entry). entry ∷ es) (commits_then xs ys)
commits_then (Reshape job through s ∷ xs) ys = commits_then xs ys

-- the entries of a beginning of a history of one worker
pub own_beginning : (steps history : List Step) → IsPrefix steps history → AreOwn (commits history) → AreOwn (commits steps)
own_beginning steps history begins own =
    let cut : commits history ≡ commits steps ++ commits begins.0 = ap (λ (s : List Step). commits s) (sym begins.1) ∙ commits_then steps begins.0 in
    own_front (commits steps) (commits begins.0) (subst AreOwn cut own)

-- how many they are is how many commits the worker made
pub made_all : (steps history : List Step) → IsPrefix steps history → AreOwn (commits history) → made_by 1 steps ≡ length (commits steps)
made_all steps history begins own = own_all (commits steps) (own_beginning steps history begins own)

no_more : (front more : List Entry) → length (front ++ more) ≤ length front → front ++ more ≡ front
no_more front [] least = append-nil front
no_more front (entry ∷ more) least = absurd (omega (arith, least, length-append front (entry ∷ more)))

-- where there are no more commits, they are the same
pub same_commits : (known steps : List Step) → IsPrefix known steps → length (commits steps) ≤ length (commits known) → commits steps ≡ commits known
same_commits known steps begins least =
    let cut : commits steps ≡ commits known ++ commits begins.0 = ap (λ (s : List Step). commits s) (sym begins.1) ∙ commits_then known begins.0 in
    cut ∙ no_more (commits known) (commits begins.0) (subst (λ (es : List Entry). length es ≤ length (commits known)) cut least)

-- The token is the first worker's; its commits are those of these steps, with which all that it has seen begins, and they wrote the rows.
pub record Knows (known : List Step) (list : List DocRow) (token : TokenValue) : Type 0 where
  pub worker : token.worker ≡ 1
  pub before : IsPrefix known token.seen
  pub wrote : Wrote (commits known) list
  pub made : length (commits known) ≡ token.made

knows_on : (known : List Step) (list : List DocRow) (old new : TokenValue) → Knows known list old → new.worker ≡ old.worker → new.made ≡ old.made → IsPrefix old.seen new.seen → Knows known list new
knows_on known list old new knows worker made seen = record {
  worker = worker ∙ knows.worker;
  before = prefix_trans known old.seen new.seen knows.before seen;
  wrote = knows.wrote;
  made = knows.made ∙ sym made;
}

pub knows_grown : (known : List Step) (list : List DocRow) (old new : TokenValue) → Knows known list old → Grows old new → Knows known list new
knows_grown known list old new knows grows = knows_on known list old new knows (ap (λ (t : TokenValue). t.worker) grows.is) (ap (λ (t : TokenValue). t.made) grows.is) grows.seen

module _ (schema : Schema) (base : Base) (old new : TokenValue) where
  end_made : (job : Job) (outcome : JobOutcome) → TellsEnd schema base old job outcome new → new.made ≡ old.made
  end_made job job_outcomes.Shaped tells = ap (λ (t : TokenValue). t.made) tells.0.is
  end_made job (job_outcomes.Overtaken shape) tells = ap (λ (t : TokenValue). t.made) tells.0.is
  end_made job (job_outcomes.Full full) tells = ap (λ (t : TokenValue). t.made) tells.0.is
  end_made job job_outcomes.Refused tells = ap (λ (t : TokenValue). t.made) tells.is
  end_made job job_outcomes.InDoubt tells = ap (λ (t : TokenValue). t.made) tells.0.is
  end_made job (job_outcomes.Strayed numbers) tells = ap (λ (t : TokenValue). t.made) tells.0

  -- a job counts no commit
  pub job_made : (job : Job) (outcome : JobOutcome) → TellsJob schema base old job outcome new → new.made ≡ old.made
  job_made job outcome (inl (room, tells)) = end_made job outcome tells
  job_made job (job_outcomes.Full full) (inr none) = ap (λ (t : TokenValue). t.made) none.1
  job_made job job_outcomes.Shaped (inr none) = absurd none
  job_made job (job_outcomes.Overtaken shape) (inr none) = absurd none
  job_made job job_outcomes.Refused (inr none) = absurd none
  job_made job job_outcomes.InDoubt (inr none) = absurd none
  job_made job (job_outcomes.Strayed numbers) (inr none) = absurd none

  pub knows_reshaped : (known : List Step) (list : List DocRow) (job : Job) (outcome : JobOutcome) → Knows known list old → TellsJob schema base old job outcome new → new.worker ≡ old.worker → IsPrefix old.seen new.seen → Knows known list new
  knows_reshaped known list job outcome knows tells worker seen = knows_on known list old new knows worker (job_made job outcome tells) seen

same_changes : (a b : List Change) (n m : ℕ) → Accepted a n ≡ Accepted b m → a ≡ b
same_changes a b n m same = cc same

-- What becomes of a commit of new documents: it is made; or the disk or memory refuses; or the numbers contradict each other.
pub data Tries (list : List DocRow) (docs : List Doc) (token : TokenValue) (outcome : CommitOutcome) : Type 0 where
  written : (removed number : ℕ) (known : List Step) → outcome ≡ outcomes.Committed removed → Knows known (list ++ rows_at number docs) token → Tries list docs token outcome
  stopped : is_stop (reply_to_commit counting.Nothing 0 outcome) ≡ true → Tries list docs token outcome
  astray : (numbers : Strayed) → outcome ≡ outcomes.Strayed numbers → Tries list docs token outcome

module _ (schema : Schema) (base : Base) (history : List Step) (own : AreOwn (commits history)) (begun : IsEmpty base)
    (known : List Step) (list : List DocRow) (old new : TokenValue) (knows : Knows known list old)
    (docs : List Doc) (next : AreNumbered (length list) docs) (light : AreLight docs) (some : 0 < length docs) (few : length list + length docs ≤ 100000)
    (goes : IsPrefix new.seen history) where
  -- the history of a note has no other commits
  noted : IsPrefix old.seen new.seen → IsNoteOf new (seen_by new) → new.made ≡ old.made → new.worker ≡ old.worker → Wrote (commits new.seen) list
  noted seen note made worker =
      let counted : made_by 1 new.seen ≡ new.made = subst (λ (w : ℕ). made_by w new.seen ≡ new.made) (worker ∙ knows.worker) note.counts in
      let all : made_by 1 new.seen ≡ length (commits new.seen) = made_all new.seen history goes own in
      let same : commits new.seen ≡ commits known = same_commits known new.seen (prefix_trans known old.seen new.seen knows.before seen) (omega (arith, counted, all, made, knows.made)) in
      subst (λ (es : List Entry). Wrote es list) (sym same) knows.wrote

  no_duplicate : (id : ℕ) → Tells schema base old (inserting docs) (outcomes.Duplicate id) new → ⊥
  no_duplicate id tells =
      let wrote = noted tells.0.seen tells.1 (ap (λ (t : TokenValue). t.made) tells.0.is) (ap (λ (t : TokenValue). t.worker) tells.0.is) in
      let accepted : verdict (inserting docs) (live (last_snapshot base new.seen)) ≡ Accepted (putting docs) 0 = next_accepted schema base new.seen list begun tells.0.good wrote docs next in
      let clash : Duplicate id ≡ Accepted (putting docs) 0 = sym tells.2 ∙ accepted in
      cc clash

  no_full : (full : Full) → Tells schema base old (inserting docs) (outcomes.Full full) new → ⊥
  no_full full tells =
      let wrote = noted tells.0.seen tells.1 (ap (λ (t : TokenValue). t.made) tells.0.is) (ap (λ (t : TokenValue). t.worker) tells.0.is) in
      let over : IsOverLimit base (inserting docs) full new = tells.2 in
      let accepted : verdict (inserting docs) (live (last_snapshot base new.seen)) ≡ Accepted (putting docs) 0 = next_accepted schema base new.seen list begun tells.0.good wrote docs next in
      let changes : over.changes ≡ putting docs = same_changes over.changes (putting docs) over.removed 0 (sym over.verdict ∙ accepted) in
      let none : full_of base new.seen (putting docs) ≡ None = next_fits schema base new.seen list begun tells.0.good wrote docs next light few in
      let at : full_of base new.seen (putting docs) ≡ Some full = ap (λ (c : List Change). full_of base new.seen c) (sym changes) ∙ over.over in
      cc (none, at)

  made : (removed : ℕ) → Tells schema base old (inserting docs) (outcomes.Committed removed) new → (number : ℕ) × Knows new.seen (list ++ rows_at number docs) new
  made removed tells =
      let ack = tells.2.1 in
      let entry : Entry = ack.entry in
      let worker : new.worker ≡ 1 = ap (λ (t : TokenValue). t.worker) tells.0.is ∙ knows.worker in
      let counted : made_by 1 new.seen ≡ new.made = subst (λ (w : ℕ). made_by w new.seen ≡ new.made) worker tells.1.counts in
      let more : new.made ≡ old.made + 1 = ap (λ (t : TokenValue). t.made) tells.0.is in
      let all : made_by 1 new.seen ≡ length (commits new.seen) = made_all new.seen history goes own in
      let cut : commits new.seen ≡ commits ack.earlier ++ entry ∷ [] = ap (λ (s : List Step). commits s) ack.last ∙ commits_then ack.earlier (Commit entry ack.snapshot ∷ []) in
      let long : length (commits new.seen) ≡ length (commits ack.earlier) + 1 = ap length cut ∙ length-append (commits ack.earlier) (entry ∷ []) in
      let same : commits ack.earlier ≡ commits known = same_commits known ack.earlier (prefix_trans known old.seen ack.earlier knows.before ack.before) (omega (arith, counted, more, all, long, knows.made)) in
      let wrote : Wrote (commits ack.earlier) list = subst (λ (es : List Entry). Wrote es list) (sym same) knows.wrote in
      let good : IsGood schema base ack.earlier = front schema base ack.earlier (Commit entry ack.snapshot ∷ []) (subst (IsGood schema base) ack.last tells.0.good) in
      let accepted : verdict (inserting docs) (live (last_snapshot base ack.earlier)) ≡ Accepted (putting docs) 0 = next_accepted schema base ack.earlier list begun good wrote docs next in
      let changes : entry.changes ≡ putting docs = same_changes entry.changes (putting docs) removed 0 (sym ack.becomes.verdict ∙ accepted) in (
        entry.number,
        record {
          worker = worker;
          before = prefix_self new.seen;
          wrote = subst (λ (es : List Entry). Wrote es (list ++ rows_at entry.number docs)) (sym cut) (wrote_more (commits ack.earlier) list entry docs wrote changes next light some);
          made = sym all ∙ counted;
        },
      )

  -- a commit of new documents is made, where memory and the disk let it be
  pub tries : (outcome : CommitOutcome) → Tells schema base old (inserting docs) outcome new → Tries list docs new outcome
  tries (outcomes.Committed removed) tells = let (number, so) = made removed tells in written removed number new.seen refl so
  tries (outcomes.Duplicate id) tells = absurd (no_duplicate id tells)
  tries (outcomes.Full full) tells = absurd (no_full full tells)
  tries outcomes.Refused tells = stopped refl
  tries (outcomes.InDoubt doubts.Disk) tells = stopped refl
  tries (outcomes.InDoubt doubts.Memory) tells = stopped refl
  tries (outcomes.Strayed numbers) tells = astray numbers refl

-- The rows of a history that has no other commits.
pub known_rows : (schema : Schema) (base : Base) (known steps : List Step) (list : List DocRow) (token : TokenValue) → IsEmpty base → Knows known list token → IsPrefix known steps → IsGood schema base steps
    → length (commits steps) ≤ token.made → live (last_snapshot base steps) ≡ rows_of list
known_rows schema base known steps list token begun knows begins good least =
    let same : commits steps ≡ commits known = same_commits known steps begins (omega (arith, least, knows.made)) in
    rows_are schema base steps list begun good (subst (λ (es : List Entry). Wrote es list) (sym same) knows.wrote)
