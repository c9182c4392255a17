-- A stop has its cause: a contradiction is held, or numbers of files or roots have ended.
use Rattle.std.proofs.Common.{◌≡◌, ◌≢◌, ◌⊎◌, inl, inr, ⊎_elim, ℕ, ◌+◌, ◌≤◌, ◌<◌, List, Bool, true, false, cond, nat_lt, nat_le, Option, Some, None, Result, Ok, Err, refl, sym, ◌∙◌, ap, subst, arith}
use Rattle.std.specs.Option.{option_or}
use Rattle.std.proofs.lemmas.Bool.Decides.{nat_tests}
use Rattle.commit_outcomes.specs.Outcomes.{changed}
use Rattle.commit_outcomes.specs.declared.outcome.Doubt.TheVariants as doubts
use Rattle.commit_outcomes.specs.declared.outcome.Full.{Full}
use Rattle.commit_outcomes.specs.declared.outcome.FullKind.TheVariants as limits
use Rattle.commit_outcomes.specs.declared.outcome.TheConstants.{MAX_DOCUMENTS}
use Rattle.commit_outcomes.specs.declared.strayed.Strayed.{Strayed}
use Rattle.doc_types.specs.Commits.{Change}
use Rattle.doc_types.specs.declared.transactions.TxnOp.{TxnOp}
use Rattle.gate_log.specs.declared.log.GateLog.{GateLog}
use Rattle.job_chunks.specs.Chunks.{NewChunkValue}
use Rattle.std.specs.FinMap as finite
use Rattle.step_book.specs.Fronts.{FrontValue}
use Rattle.step_book.specs.Tellings.{AtOpening}
use Rattle.step_history.specs.History.{Base, Step, last_snapshot}
use Rattle.step_history.specs.Logs.{log_at}
use Rattle.step_line.specs.Lines.{LineValue, entered}
use Rattle.step_tokens.specs.Tokens.{TokenValue}
use Rattle.store_steps.specs.Refusals.{batch_length, full_documents, full_numbers, full_of, most_log}
use Rattle.store_steps.specs.declared.files.Files.{Files}
use Rattle.store_steps.specs.declared.limits.TheConstants.{LAST_COMMIT}
use Rattle.store_keep.specs.Charges.{AreFew, HasEnded, HaveRisen, IsAtEnd, charge_of, charge_of_job, charge_of_limit}
use Rattle.store_keep.specs.Commits.{Commits, IsAfter, IsStray, IsUnsettled, strayed_after}
use Rattle.store_keep.specs.Installs.{Installs, IsAfterJob, IsStrayJob, IsUnsettledJob, full_root, full_roots, strayed_after_job}
use Rattle.store_keep.specs.declared.charge.Charge.TheVariants as charges
use Rattle.store_keep.specs.declared.fault.CommitFault.{CommitFault}
use Rattle.store_keep.specs.declared.fault.CommitFault.TheVariants as faults
use Rattle.store_keep.specs.declared.fault.Committed.{Committed}
use Rattle.store_keep.specs.declared.install_fault.InstallFault.{InstallFault}
use Rattle.store_keep.specs.declared.install_fault.InstallFault.TheVariants as endings
use Rattle.store_keep.specs.declared.job_ends.TheConstants.{LAST_FILE, LAST_ROOT}
use Rattle.store_keep.proofs.Carrying.{ended_later}

free_stop : charges.Free ≡ charges.Stop → ⊥
free_stop is = cc (is)

fault_stop : charges.Fault ≡ charges.Stop → ⊥
fault_stop is = cc (is)

-- ---- a contradiction stays held

some_or : (held : Option Strayed) (numbers : Strayed) → option_or held (Some numbers) ≢ None
some_or None numbers is = cc (is)
some_or (Some first) numbers is = cc (is)

pub holds_still : {J : Type 0} (held : Option Strayed) (r : Result (Committed J) (CommitFault J)) → held ≢ None → strayed_after held r ≢ None
holds_still held (Ok made) some = some
holds_still held (Err faults.NoMemory) some = some
holds_still held (Err (faults.Strayed strayed note)) some = some_or held strayed
holds_still held (Err (faults.Duplicate id note)) some = some
holds_still held (Err (faults.Full full note)) some = some
holds_still held (Err faults.Refused) some = some
holds_still held (Err (faults.InDoubt doubt)) some = some

pub holds_still_job : {J : Type 0} (held : Option Strayed) (r : Result FrontValue (InstallFault J)) → held ≢ None → strayed_after_job held r ≢ None
holds_still_job held (Ok note) some = some
holds_still_job held (Err endings.NoMemory) some = some
holds_still_job held (Err (endings.Strayed strayed note)) some = some_or held strayed
holds_still_job held (Err (endings.Overtaken shape note)) some = some
holds_still_job held (Err (endings.Full full)) some = some
holds_still_job held (Err endings.DiskFault) some = some
holds_still_job held (Err endings.InDoubt) some = some

-- ---- no limit of a commit is the end of numbers of files or roots

abbrev full_or : Full → Option Full → Full
full_or other None = other
full_or other (Some full) = full

one_of : (b : Bool) (x full : Full) (others : Option Full) → cond b (Some x) others ≡ Some full → charge_of_limit x.what ≡ charges.Free → (others ≡ Some full → charge_of_limit full.what ≡ charges.Free) → charge_of_limit full.what ≡ charges.Free
one_of true x full others is free rest = ap (λ (f : Full). charge_of_limit f.what) (sym (ap (full_or full) is)) ∙ free
one_of false x full others is free rest = rest is

none_some : (full : Full) → None ≡ Some full → charge_of_limit full.what ≡ charges.Free
none_some full is = absurd (cc (is))

full_is_free : (base : Base) (steps : List Step) (changes : List Change) (full : Full) → full_of base steps changes ≡ Some full → charge_of_limit full.what ≡ charges.Free
full_is_free base steps changes full is =
    let before = last_snapshot base steps in
    one_of (nat_lt (most_log changes) (log_at base steps + batch_length changes)) _ full (full_documents before changes) is refl
    (λ documents. one_of (nat_lt MAX_DOCUMENTS (finite.len (changed before changes))) _ full (full_numbers before) documents refl
    (λ numbers. one_of (nat_lt LAST_COMMIT (before.number + 1)) _ full None numbers refl (none_some full)))

-- ---- a commit that is charged as a stop contradicted the keeper

full_commit : {J : Type 0} (base : Base) (line : LineValue) (token : TokenValue) (worker : ℕ) (ops : List TxnOp) (before now : ℕ) (new : LineValue) (log : GateLog) (after : TokenValue) (full : Full) (note : FrontValue)
    → Commits {J = J} base line token worker ops before (Err (faults.Full full note)) new log after now → charge_of_limit full.what ≡ charges.Free
full_commit {J} base line token worker ops before now new log after full note commits =
    ⊎_elim
    (λ (stray : IsStray {J = J} base line token before (Err (faults.Full full note)) new after now). absurd (cc (stray.answer)))
    (λ others.
    ⊎_elim
    (λ (left : IsUnsettled {J = J} base line token before (Err (faults.Full full note)) new after now). ⊎_elim (λ none. absurd (cc (none))) (λ refused. absurd (cc (refused.0))) left.answer)
    (λ (then : IsAfter {J = J} base line token worker ops before (Err (faults.Full full note)) new log after now). full_is_free base (entered line) then.ends.1.0.0 full then.ends.1.0.3)
    others)
    commits

pub stops_commit : {J : Type 0} (base : Base) (line : LineValue) (token : TokenValue) (worker : ℕ) (ops : List TxnOp) (before now : ℕ) (new : LineValue) (log : GateLog) (after : TokenValue) (held : Option Strayed) (r : Result (Committed J) (CommitFault J))
    → Commits {J = J} base line token worker ops before r new log after now → charge_of r ≡ charges.Stop → strayed_after held r ≢ None
stops_commit base line token worker ops before now new log after held (Ok made) commits is = absurd (free_stop is)
stops_commit base line token worker ops before now new log after held (Err faults.NoMemory) commits is = absurd (free_stop is)
stops_commit base line token worker ops before now new log after held (Err (faults.Strayed strayed note)) commits is = some_or held strayed
stops_commit base line token worker ops before now new log after held (Err (faults.Duplicate id note)) commits is = absurd (free_stop is)
stops_commit base line token worker ops before now new log after held (Err (faults.Full full note)) commits is = absurd (free_stop (sym (full_commit base line token worker ops before now new log after full note commits) ∙ is))
stops_commit base line token worker ops before now new log after held (Err faults.Refused) commits is = absurd (fault_stop is)
stops_commit base line token worker ops before now new log after held (Err (faults.InDoubt doubts.Disk)) commits is = absurd (fault_stop is)
stops_commit base line token worker ops before now new log after held (Err (faults.InDoubt doubts.Memory)) commits is = absurd (free_stop is)

-- ---- a job did so, or numbers have ended

no_root : (last : ℕ) (full : Full) (x : Full) → cond (nat_le LAST_ROOT last) (Some x) None ≡ Some full → LAST_ROOT ≤ last
no_root last full x is =
    elim (nat_le LAST_ROOT last) as (λ b. nat_le LAST_ROOT last ≡ b → cond b (Some x) None ≡ Some full → LAST_ROOT ≤ last) [
      | true ↦ λ low e. grind (arith, nat_tests, low)
      | false ↦ λ low e. absurd (cc (e))
    ] refl is

no_number : (files : Files) (full : Full) → full_root files ≡ Some full → (LAST_FILE < files.next_file + 2) ⊎ (LAST_ROOT ≤ files.root.number)
no_number files full is =
    elim (nat_lt LAST_FILE (files.next_file + 2)) as (λ b. nat_lt LAST_FILE (files.next_file + 2) ≡ b → cond b (Some (record { what = limits.Root; at = files.next_file; need = 1 })) (full_roots files) ≡ Some full → (LAST_FILE < files.next_file + 2) ⊎ (LAST_ROOT ≤ files.root.number)) [
      | true ↦ λ low e. inl (grind (arith, nat_tests, low))
      | false ↦ λ low e. inr (no_root files.root.number full _ e)
    ] refl is

few_ended : (opened : AtOpening) (steps : List Step) (now : ℕ) (files : Files) → AreFew opened steps now files → (LAST_FILE < files.next_file + 2) ⊎ (LAST_ROOT ≤ files.root.number) → HasEnded opened steps now
few_ended opened steps now files few ended =
    ⊎_elim (λ (file : LAST_FILE < files.next_file + 2). inl (omega (arith, file, few.file))) (λ (root : LAST_ROOT ≤ files.root.number). inr (inl (omega (arith, root, few.root)))) ended

full_ended : (opened : AtOpening) (steps : List Step) (now : ℕ) (files : Files) (full : Full) → HaveRisen opened steps now files → full_root files ≡ Some full → HasEnded opened steps now
full_ended opened steps now files full risen is =
    ⊎_elim (λ (few : AreFew opened steps now files). few_ended opened steps now files few (no_number files full is)) (λ (end : IsAtEnd now). inr (inr end)) risen

full_job : {J : Type 0} (base : Base) (line : LineValue) (files : Files) (token : TokenValue) (new : NewChunkValue) (before now : ℕ) (next : LineValue) (kept : Files) (after : TokenValue) (full : Full) (opened : AtOpening)
    → Installs {J = J} base line files token new before (Err (endings.Full full)) next kept after now → HaveRisen opened (entered line) before files → HasEnded opened next.history now
full_job {J} base line files token new before now next kept after full opened installs risen =
    ⊎_elim
    (λ (stray : IsStrayJob {J = J} base line token before (Err (endings.Full full)) next after now). absurd (cc (stray.answer)))
    (λ others.
    ⊎_elim
    (λ (left : IsUnsettledJob {J = J} base line token before (Err (endings.Full full)) next after now). ⊎_elim (λ none. absurd (cc (none))) (λ failed. absurd (cc (failed.0))) left.answer)
    (λ (then : IsAfterJob {J = J} base line files token new before (Err (endings.Full full)) next kept after now).
    subst (λ (l : LineValue). HasEnded opened l.history now) (sym then.ends.0.line_is)
    (ended_later opened (entered line) (entered line) before now (omega arith) (omega (arith, then.later, then.ends.0.later)) (full_ended opened (entered line) before files full risen then.ends.2)))
    others)
    installs

pub stops_job : {J : Type 0} (base : Base) (line : LineValue) (files : Files) (token : TokenValue) (new : NewChunkValue) (before now : ℕ) (next : LineValue) (kept : Files) (after : TokenValue) (held : Option Strayed) (opened : AtOpening) (r : Result FrontValue (InstallFault J))
    → Installs {J = J} base line files token new before r next kept after now → HaveRisen opened (entered line) before files → charge_of_job r ≡ charges.Stop → (strayed_after_job held r ≢ None) ⊎ HasEnded opened next.history now
stops_job base line files token new before now next kept after held opened (Ok note) installs risen is = absurd (free_stop is)
stops_job base line files token new before now next kept after held opened (Err endings.NoMemory) installs risen is = absurd (free_stop is)
stops_job base line files token new before now next kept after held opened (Err (endings.Strayed strayed note)) installs risen is = inl (some_or held strayed)
stops_job base line files token new before now next kept after held opened (Err (endings.Overtaken shape note)) installs risen is = absurd (free_stop is)
stops_job base line files token new before now next kept after held opened (Err (endings.Full full)) installs risen is = inr (full_job base line files token new before now next kept after full opened installs risen)
stops_job base line files token new before now next kept after held opened (Err endings.DiskFault) installs risen is = absurd (fault_stop is)
stops_job base line files token new before now next kept after held opened (Err endings.InDoubt) installs risen is = absurd (free_stop is)
