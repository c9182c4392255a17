-- What is known of counts between calls goes on over a call.
use Rattle.std.proofs.Common.{◌≡◌, ◌≢◌, ◌⊎◌, inl, inr, ⊎_elim, ℕ, ◌+◌, ◌≤◌, ◌<◌, List, [], ◌∷◌, ◌++◌, Option, Some, None, Result, Ok, Err, refl, sym, ◌∙◌, ap, subst, arith, length, length-append}
use Rattle.std.specs.List.{filter}
use Rattle.std.proofs.lemmas.List.Elements.{filter-append}
use Rattle.chunk_store.specs.declared.disk.Disk.{Ghosts as DiskWords}
use Rattle.commit_outcomes.specs.declared.strayed.Strayed.{Strayed}
use Rattle.doc_types.specs.declared.schema.Schema.{Schema}
use Rattle.gate_log.specs.declared.log.GateLog.{GateLog}
use Rattle.job_files.specs.Jobs.{TakesNumbers}
use Rattle.srch_base.specs.Counts.{Rose, last_count}
use Rattle.srch_base.specs.declared.faults.Failed.{Failed}
use Rattle.srch_base.specs.declared.faults.Or.{Or}
use Rattle.srch_base.specs.declared.faults.Or.TheVariants as causes
use Rattle.step_book.specs.Tellings.{AtOpening}
use Rattle.step_history.specs.History.{Base, Step}
use Rattle.step_line.specs.Lines.{LineValue, entered, with_waiting}
use Rattle.store_steps.specs.declared.files.Files.{Files}
use Rattle.store_keep.specs.Charges.{AreFew, HasEnded, HaveRisen, IsAtEnd, IsBacked, MayHaveStopped, is_reshape, jobs_in}
use Rattle.store_keep.specs.Commits.{Settles}
use Rattle.store_keep.specs.Keepers.{IsSound, Keeps}
use Rattle.store_keep.specs.steps.Charging.{MayCharge, TakesFew}
use Rattle.store_keep.specs.declared.charge.Charge.{Charge}
use Rattle.store_keep.specs.declared.charge.Charge.TheVariants as charges
use Rattle.store_keep.specs.declared.keeper.Keeper.{Keeper}
use Rattle.store_keep.specs.declared.kept.Kept.{Kept}

-- A line went on, and the count of faults with it.
pub record Moves (old : LineValue) (before : ℕ) (new : LineValue) (now : ℕ) : Type 0 where
  pub index : new.index ≡ old.index
  pub workers : new.workers ≡ old.workers
  pub later : before ≤ now
  pub history : jobs_in old.history ≤ jobs_in new.history
  pub all : jobs_in (entered old) ≤ jobs_in (entered new)

pub jobs_grow : (steps more : List Step) → jobs_in (steps ++ more) ≡ jobs_in steps + jobs_in more
jobs_grow steps more = ap length (filter-append is_reshape steps more) ∙ length-append (filter is_reshape steps) (filter is_reshape more)

-- as many jobs ended or more once what waits is published
pub jobs_entered : (steps : List Step) (waiting : Option Step) → jobs_in steps ≤ jobs_in (with_waiting steps waiting)
jobs_entered steps None = omega arith
jobs_entered steps (Some step) = let grown = jobs_grow steps (step ∷ []) in omega (arith, grown)

pub still_moves : (line new : LineValue) (before now : ℕ) → new ≡ line → before ≤ now → Moves line before new now
still_moves line new before now is later = subst (λ (l : LineValue). Moves line before l now) (sym is) (record { index = refl; workers = refl; later = later; history = omega arith; all = omega arith })

pub settled_moves : (line new : LineValue) (before now : ℕ) → new ≡ record line { history = entered line; waiting = None } → before ≤ now → Moves line before new now
settled_moves line new before now is later = subst (λ (l : LineValue). Moves line before l now) (sym is) (record { index = refl; workers = refl; later = later; history = jobs_entered line.history line.waiting; all = omega arith })

pub then_moves : (line mid new : LineValue) (before between now : ℕ) → Moves line before mid between → Moves mid between new now → Moves line before new now
then_moves line mid new before between now first second = record {
  index = second.index ∙ first.index;
  workers = second.workers ∙ first.workers;
  later = omega (arith, first.later, second.later);
  history = omega (arith, first.history, second.history);
  all = omega (arith, first.all, second.all);
}

pub settles_moves : (line new : LineValue) (before now : ℕ) (log : GateLog) (r : Result (Unit {0}) (Or Failed)) → Settles line before r new log now → Moves line before new now
settles_moves line new before now log (Ok done) is = settled_moves line new before now is.0 is.2
settles_moves line new before now log (Err causes.NoMemory) is = still_moves line new before now is.0 is.2
settles_moves line new before now log (Err (causes.Fault failed)) is = still_moves line new before now is.0 is.1

-- the same numbers were taken
pub few_still : (steps next : List Step) (before now : ℕ) (files kept : Files) → kept.next_file ≡ files.next_file → kept.root.number ≡ files.root.number → jobs_in steps ≤ jobs_in next → before ≤ now → TakesFew steps before files next now kept
few_still steps next before now files kept file root more later = record {
  few = λ opened risen.
      ⊎_elim
      (λ (few : AreFew opened steps before files). inl (record {
        later = omega (arith, few.later, later);
        file = omega (arith, few.file, few.later, file, more, later);
        root = omega (arith, few.root, few.later, root, more, later);
      }))
      (λ (end : IsAtEnd before). inr (omega (arith, end, later)))
      risen;
}

backed_later : (opened : AtOpening) (before now : ℕ) (calls : List ℕ) → before ≤ now → IsBacked opened before calls → IsBacked opened now calls
backed_later opened before now calls later backed =
    ⊎_elim (λ (low : opened.faults + length calls ≤ before). inl (omega (arith, low, later))) (λ (end : IsAtEnd before). inr (omega (arith, end, later))) backed

pub ended_later : (opened : AtOpening) (history next : List Step) (before now : ℕ) → jobs_in history ≤ jobs_in next → before ≤ now → HasEnded opened history before → HasEnded opened next now
ended_later opened history next before now more later ended =
    ⊎_elim (λ file. inl (omega (arith, file, more, later))) (λ other. ⊎_elim (λ root. inr (inl (omega (arith, root, more, later)))) (λ end. inr (inr (omega (arith, end, later)))) other) ended

stopped_later : (opened : AtOpening) (history next : List Step) (before now : ℕ) (held still : Option Strayed) (calls : List ℕ) → jobs_in history ≤ jobs_in next → before ≤ now → ((held ≢ None) → still ≢ None) → MayHaveStopped opened history before held calls → MayHaveStopped opened next now still calls
stopped_later opened history next before now held still calls more later holds stopped =
    ⊎_elim (λ none. inl none) (λ cause. ⊎_elim (λ some. inr (inl (holds some))) (λ ended. inr (inr (ended_later opened history next before now more later ended))) cause) stopped

-- the keeper is sound after a call that charged nothing
pub sound_after : {D J : Type 0} (words : DiskWords D) (schema : ℕ → Schema) (base : ℕ → Base) (opened : ℕ → AtOpening) (old : Keeper D J) (kept : Kept D J) (strayed : Option Strayed) → IsSound words schema base opened old → Keeps words schema base kept.disk kept.files kept.line
    → Moves old.kept.line (words.faults old.kept.disk) kept.line (words.faults kept.disk) → TakesFew (entered old.kept.line) (words.faults old.kept.disk) old.kept.files (entered kept.line) (words.faults kept.disk) kept.files → ((old.strayed ≢ None) → strayed ≢ None)
    → IsSound words schema base opened (record old { kept = kept; strayed = strayed })
sound_after words schema base opened old kept strayed sound keeps moves few holds =
    let same : old.kept.line.index ≡ kept.line.index = sym moves.index in
    record {
      kept = keeps;
      first = sound.first ∙ ap (λ (i : ℕ). (base i).opening.number + (base i).opening.shape) same;
      faults_of = (sound.faults_of.0 ∙ same, sound.faults_of.1 ∙ sym moves.workers);
      stops_of = (sound.stops_of.0 ∙ same, sound.stops_of.1 ∙ sym moves.workers);
      backed = subst (λ (i : ℕ). IsBacked (opened i) (words.faults kept.disk) old.faults.calls) same (backed_later (opened old.kept.line.index) (words.faults old.kept.disk) (words.faults kept.disk) old.faults.calls moves.later sound.backed);
      numbers = subst (λ (i : ℕ). HaveRisen (opened i) (entered kept.line) (words.faults kept.disk) kept.files) same (few.few (opened old.kept.line.index) sound.numbers);
      ended = subst (λ (i : ℕ). MayHaveStopped (opened i) kept.line.history (words.faults kept.disk) strayed old.stops.calls) same
          (stopped_later (opened old.kept.line.index) old.kept.line.history kept.line.history (words.faults old.kept.disk) (words.faults kept.disk) old.strayed strayed old.stops.calls moves.history moves.later holds sound.ended);
    }

pub few_then : (steps mid next : List Step) (before between now : ℕ) (files made kept : Files) → TakesFew steps before files mid between made → TakesFew mid between made next now kept → TakesFew steps before files next now kept
few_then steps mid next before between now files made kept first second = record { few = λ opened risen. second.few opened (first.few opened risen) }

-- one job more ended
pub few_ended : (steps next : List Step) (before now : ℕ) (files kept : Files) → TakesNumbers files kept → jobs_in next ≡ jobs_in steps + 1 → before ≤ now → TakesFew steps before files next now kept
few_ended steps next before now files kept takes one later = record {
  few = λ opened risen.
      ⊎_elim
      (λ (few : AreFew opened steps before files). inl (record {
        later = omega (arith, few.later, later);
        file = omega (arith, few.file, few.later, takes.file, one, later);
        root = omega (arith, few.root, few.later, takes.root, one, later);
      }))
      (λ (end : IsAtEnd before). inr (omega (arith, end, later)))
      risen;
}

-- a fault of the disk ended one
pub few_failed : (steps : List Step) (before now : ℕ) (files kept : Files) → TakesNumbers files kept → Rose before now → before ≤ now → TakesFew steps before files steps now kept
few_failed steps before now files kept takes rose later = record {
  few = λ opened risen.
      ⊎_elim
      (λ (few : AreFew opened steps before files).
      ⊎_elim
      (λ (more : before < now). inl (record {
        later = omega (arith, few.later, later);
        file = omega (arith, few.file, few.later, takes.file, more);
        root = omega (arith, few.root, few.later, takes.root, more);
      }))
      (λ (end : now ≡ last_count). inr (omega (arith, end)))
      rose)
      (λ (end : IsAtEnd before). inr (omega (arith, end, later)))
      risen;
}

-- a call may be charged where the count rose over it, or where there is a cause to stop
pub may_charge : (charge : Charge) (opened : AtOpening) (history : List Step) (before now : ℕ) (held : Option Strayed) (calls : List ℕ) → IsBacked opened before calls → before ≤ now → (charge ≡ charges.Fault → Rose before now) → (charge ≡ charges.Stop → (held ≢ None) ⊎ HasEnded opened history now)
    → MayCharge charge opened history now held calls
may_charge charges.Free opened history before now held calls backed later rose stop = tt
may_charge charges.Fault opened history before now held calls backed later rose stop =
    ⊎_elim
    (λ (low : opened.faults + length calls ≤ before). ⊎_elim (λ (more : before < now). inl (omega (arith, low, more))) (λ (end : now ≡ last_count). inr (omega (arith, end))) (rose refl))
    (λ (end : IsAtEnd before). inr (omega (arith, end, later)))
    backed
may_charge charges.Stop opened history before now held calls backed later rose stop = stop refl
