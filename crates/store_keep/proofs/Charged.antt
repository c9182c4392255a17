-- What the answers of commits and jobs say of counts: the line went on, the disk's count rose where a fault is charged, and a stop has
-- its cause.
use Rattle.std.proofs.Common.{◌≡◌, inl, inr, ⊎_elim, ℕ, ◌≤◌, ◌<◌, List, Some, Result, Ok, Err, refl, sym, ◌∙◌, ap, subst, arith}
use Rattle.commit_outcomes.specs.declared.outcome.Doubt.TheVariants as doubts
use Rattle.commit_outcomes.specs.declared.outcome.FullKind.{FullKind}
use Rattle.commit_outcomes.specs.declared.outcome.FullKind.TheVariants as limits
use Rattle.doc_types.specs.declared.transactions.TxnOp.{TxnOp}
use Rattle.gate_log.specs.declared.log.GateLog.{GateLog}
use Rattle.job_chunks.specs.Chunks.{NewChunkValue}
use Rattle.srch_base.specs.Counts.{Rose, last_count}
use Rattle.step_book.specs.Fronts.{FrontValue}
use Rattle.step_history.specs.History.{Base, Step}
use Rattle.step_line.specs.Lines.{LineValue, entered, settled}
use Rattle.step_tokens.specs.Tokens.{TokenValue}
use Rattle.store_steps.specs.declared.files.Files.{Files}
use Rattle.store_keep.specs.Charges.{charge_of, charge_of_job, charge_of_limit}
use Rattle.store_keep.specs.Commits.{Commits, Ends, IsAfter, IsStray, IsUnsettled}
use Rattle.store_keep.specs.Installs.{EndsJob, Installs, IsAfterJob, IsStrayJob, IsUnsettledJob}
use Rattle.store_keep.specs.declared.charge.Charge.TheVariants as charges
use Rattle.store_keep.specs.declared.fault.CommitFault.{CommitFault}
use Rattle.store_keep.specs.declared.fault.CommitFault.TheVariants as faults
use Rattle.store_keep.specs.declared.fault.Committed.{Committed}
use Rattle.store_keep.specs.declared.install_fault.InstallFault.{InstallFault}
use Rattle.store_keep.specs.declared.install_fault.InstallFault.TheVariants as endings
use Rattle.store_keep.proofs.Carrying.{Moves, jobs_entered, settled_moves, still_moves, then_moves}

-- ---- the line went on

-- one step more waits behind a line that was settled
put_moves : (line new : LineValue) (step : Step) (before now : ℕ) → new ≡ record (settled line) { waiting = Some step } → before ≤ now → Moves (settled line) before new now
put_moves line new step before now is later = subst (λ (l : LineValue). Moves (settled line) before l now) (sym is) (record { index = refl; workers = refl; later = later; history = omega arith; all = jobs_entered (entered line) (Some step) })

-- it is published
made_moves : (line new : LineValue) (step : Step) (before now : ℕ) → new ≡ settled (record (settled line) { waiting = Some step }) → before ≤ now → Moves (settled line) before new now
made_moves line new step before now is later = subst (λ (l : LineValue). Moves (settled line) before l now) (sym is) (record { index = refl; workers = refl; later = later; history = jobs_entered (entered line) (Some step); all = jobs_entered (entered line) (Some step) })

ends_moves : {J : Type 0} (base : Base) (line : LineValue) (token : TokenValue) (worker : ℕ) (ops : List TxnOp) (before now : ℕ) (new : LineValue) (log : GateLog) (after : TokenValue) (r : Result (Committed J) (CommitFault J))
    → Ends {J = J} base (settled line) token worker ops before r new log after now → Moves (settled line) before new now
ends_moves base line token worker ops before now new log after (Ok made) ends = made_moves line new ends.2 before now ends.4.0 ends.4.5
ends_moves base line token worker ops before now new log after (Err faults.NoMemory) ends = still_moves (settled line) new before now ends.line_is ends.later
ends_moves base line token worker ops before now new log after (Err (faults.Strayed strayed note)) ends = absurd ends
ends_moves base line token worker ops before now new log after (Err (faults.Duplicate id note)) ends = still_moves (settled line) new before now ends.0.line_is ends.0.later
ends_moves base line token worker ops before now new log after (Err (faults.Full full note)) ends = still_moves (settled line) new before now ends.0.line_is ends.0.later
ends_moves base line token worker ops before now new log after (Err faults.Refused) ends = still_moves (settled line) new before now ends.4.0 ends.4.2
ends_moves base line token worker ops before now new log after (Err (faults.InDoubt doubts.Disk)) ends = put_moves line new ends.2 before now ends.4.0 ends.4.3
ends_moves base line token worker ops before now new log after (Err (faults.InDoubt doubts.Memory)) ends = put_moves line new ends.2 before now ends.4.0 ends.4.3

pub commits_moves : {J : Type 0} (base : Base) (line : LineValue) (token : TokenValue) (worker : ℕ) (ops : List TxnOp) (before now : ℕ) (new : LineValue) (log : GateLog) (after : TokenValue) (r : Result (Committed J) (CommitFault J))
    → Commits {J = J} base line token worker ops before r new log after now → Moves line before new now
commits_moves {J} base line token worker ops before now new log after r commits =
    ⊎_elim
    (λ (stray : IsStray {J = J} base line token before r new after now). still_moves line new before now stray.same.line_is stray.same.later)
    (λ others.
    ⊎_elim
    (λ (left : IsUnsettled {J = J} base line token before r new after now). still_moves line new before now left.line_is left.later)
    (λ (then : IsAfter {J = J} base line token worker ops before r new log after now).
    then_moves line (settled line) new before then.between now (settled_moves line (settled line) before then.between refl then.later)
    (ends_moves {J = J} base line then.taught worker ops then.between now new log after r then.ends))
    others)
    commits

ends_job_moves : {J : Type 0} (base : Base) (line : LineValue) (files : Files) (token : TokenValue) (new : NewChunkValue) (before now : ℕ) (next : LineValue) (kept : Files) (after : TokenValue) (r : Result FrontValue (InstallFault J))
    → EndsJob {J = J} base (settled line) files token new before r next kept after now → Moves (settled line) before next now
ends_job_moves base line files token new before now next kept after (Ok note) ends = made_moves line next _ before now ends.1 ends.4
ends_job_moves base line files token new before now next kept after (Err endings.NoMemory) ends = still_moves (settled line) next before now ends.line_is ends.later
ends_job_moves base line files token new before now next kept after (Err (endings.Strayed strayed note)) ends = absurd ends
ends_job_moves base line files token new before now next kept after (Err (endings.Overtaken shape note)) ends = still_moves (settled line) next before now ends.0.line_is ends.0.later
ends_job_moves base line files token new before now next kept after (Err (endings.Full full)) ends = still_moves (settled line) next before now ends.0.line_is ends.0.later
ends_job_moves base line files token new before now next kept after (Err endings.DiskFault) ends = still_moves (settled line) next before now ends.0.line_is ends.0.later
ends_job_moves base line files token new before now next kept after (Err endings.InDoubt) ends = put_moves line next _ before now ends.1 ends.4

pub installs_moves : {J : Type 0} (base : Base) (line : LineValue) (files : Files) (token : TokenValue) (new : NewChunkValue) (before now : ℕ) (next : LineValue) (kept : Files) (after : TokenValue) (r : Result FrontValue (InstallFault J))
    → Installs {J = J} base line files token new before r next kept after now → Moves line before next now
installs_moves {J} base line files token new before now next kept after r installs =
    ⊎_elim
    (λ (stray : IsStrayJob {J = J} base line token before r next after now). still_moves line next before now stray.same.line_is stray.same.later)
    (λ others.
    ⊎_elim
    (λ (left : IsUnsettledJob {J = J} base line token before r next after now). still_moves line next before now left.line_is left.later)
    (λ (then : IsAfterJob {J = J} base line files token new before r next kept after now).
    then_moves line (settled line) next before then.between now (settled_moves line (settled line) before then.between refl then.later)
    (ends_job_moves {J = J} base line files then.taught new then.between now next kept after r then.ends))
    others)
    installs

-- ---- the count rose where a fault is charged

free_fault : charges.Free ≡ charges.Fault → ⊥
free_fault is = cc (is)

stop_fault : charges.Stop ≡ charges.Fault → ⊥
stop_fault is = cc (is)

free_stop : charges.Free ≡ charges.Stop → ⊥
free_stop is = cc (is)

fault_stop : charges.Fault ≡ charges.Stop → ⊥
fault_stop is = cc (is)

no_fault : (what : FullKind) → charge_of_limit what ≡ charges.Fault → ⊥
no_fault limits.Root is = stop_fault is
no_fault limits.Log is = free_fault is
no_fault limits.Documents is = free_fault is
no_fault limits.Numbers is = free_fault is
no_fault limits.Chunks is = free_fault is
no_fault limits.Images is = free_fault is

rose_since : (before between now : ℕ) → before ≤ between → Rose between now → Rose before now
rose_since before between now later rose = ⊎_elim (λ (more : between < now). inl (omega (arith, later, more))) (λ (end : now ≡ last_count). inr end) rose

ends_rose : {J : Type 0} (base : Base) (line : LineValue) (token : TokenValue) (worker : ℕ) (ops : List TxnOp) (before now : ℕ) (new : LineValue) (log : GateLog) (after : TokenValue) (r : Result (Committed J) (CommitFault J))
    → Ends {J = J} base line token worker ops before r new log after now → charge_of r ≡ charges.Fault → Rose before now
ends_rose base line token worker ops before now new log after (Ok made) ends is = absurd (free_fault is)
ends_rose base line token worker ops before now new log after (Err faults.NoMemory) ends is = absurd (free_fault is)
ends_rose base line token worker ops before now new log after (Err (faults.Strayed strayed note)) ends is = absurd ends
ends_rose base line token worker ops before now new log after (Err (faults.Duplicate id note)) ends is = absurd (free_fault is)
ends_rose base line token worker ops before now new log after (Err (faults.Full full note)) ends is = absurd (no_fault full.what is)
ends_rose base line token worker ops before now new log after (Err faults.Refused) ends is = ends.4.3
ends_rose base line token worker ops before now new log after (Err (faults.InDoubt doubts.Disk)) ends is = ends.4.4
ends_rose base line token worker ops before now new log after (Err (faults.InDoubt doubts.Memory)) ends is = absurd (free_fault is)

pub commits_rose : {J : Type 0} (base : Base) (line : LineValue) (token : TokenValue) (worker : ℕ) (ops : List TxnOp) (before now : ℕ) (new : LineValue) (log : GateLog) (after : TokenValue) (r : Result (Committed J) (CommitFault J))
    → Commits {J = J} base line token worker ops before r new log after now → charge_of r ≡ charges.Fault → Rose before now
commits_rose {J} base line token worker ops before now new log after r commits is =
    ⊎_elim
    (λ (stray : IsStray {J = J} base line token before r new after now). absurd (stop_fault (sym (ap (λ (a : Result (Committed J) (CommitFault J)). charge_of a) stray.answer) ∙ is)))
    (λ others.
    ⊎_elim
    (λ (left : IsUnsettled {J = J} base line token before r new after now).
    ⊎_elim (λ none. absurd (free_fault (sym (ap (λ (a : Result (Committed J) (CommitFault J)). charge_of a) none) ∙ is))) (λ refused. refused.1) left.answer)
    (λ (then : IsAfter {J = J} base line token worker ops before r new log after now).
    rose_since before then.between now then.later (ends_rose {J = J} base (settled line) then.taught worker ops then.between now new log after r then.ends is))
    others)
    commits

ends_job_rose : {J : Type 0} (base : Base) (line : LineValue) (files : Files) (token : TokenValue) (new : NewChunkValue) (before now : ℕ) (next : LineValue) (kept : Files) (after : TokenValue) (r : Result FrontValue (InstallFault J))
    → EndsJob {J = J} base line files token new before r next kept after now → charge_of_job r ≡ charges.Fault → Rose before now
ends_job_rose base line files token new before now next kept after (Ok note) ends is = absurd (free_fault is)
ends_job_rose base line files token new before now next kept after (Err endings.NoMemory) ends is = absurd (free_fault is)
ends_job_rose base line files token new before now next kept after (Err (endings.Strayed strayed note)) ends is = absurd ends
ends_job_rose base line files token new before now next kept after (Err (endings.Overtaken shape note)) ends is = absurd (free_fault is)
ends_job_rose base line files token new before now next kept after (Err (endings.Full full)) ends is = absurd (no_fault full.what is)
ends_job_rose base line files token new before now next kept after (Err endings.DiskFault) ends is = ends.1
ends_job_rose base line files token new before now next kept after (Err endings.InDoubt) ends is = absurd (free_fault is)

pub installs_rose : {J : Type 0} (base : Base) (line : LineValue) (files : Files) (token : TokenValue) (new : NewChunkValue) (before now : ℕ) (next : LineValue) (kept : Files) (after : TokenValue) (r : Result FrontValue (InstallFault J))
    → Installs {J = J} base line files token new before r next kept after now → charge_of_job r ≡ charges.Fault → Rose before now
installs_rose {J} base line files token new before now next kept after r installs is =
    ⊎_elim
    (λ (stray : IsStrayJob {J = J} base line token before r next after now). absurd (stop_fault (sym (ap (λ (a : Result FrontValue (InstallFault J)). charge_of_job a) stray.answer) ∙ is)))
    (λ others.
    ⊎_elim
    (λ (left : IsUnsettledJob {J = J} base line token before r next after now).
    ⊎_elim (λ none. absurd (free_fault (sym (ap (λ (a : Result FrontValue (InstallFault J)). charge_of_job a) none) ∙ is))) (λ failed. failed.1) left.answer)
    (λ (then : IsAfterJob {J = J} base line files token new before r next kept after now).
    rose_since before then.between now then.later (ends_job_rose {J = J} base (settled line) files then.taught new then.between now next kept after r then.ends is))
    others)
    installs
