-- What the end of a job says of its token alone: the keeper's words, without the keeper.
use Rattle.std.proofs.Common.{◌≡◌, ◌⊎◌, ⊎_elim, inl, inr, Bool, true, false, cond, nat_lt, nat_le, Option, None, ℕ, ◌+◌, ◌≤◌, List, [], ◌∷◌, ◌++◌, length, Some, Result, Ok, Err, refl, sym, ◌∙◌, ap, subst, arith, length-append}
use mathlib.Core.List.{IsPrefix}
use Rattle.doc_types.specs.declared.schema.Schema.{Schema}
use Rattle.commit_outcomes.specs.declared.outcome.Full.{Full}
use Rattle.commit_outcomes.specs.declared.outcome.FullKind.TheVariants as limits
use Rattle.job_chunks.specs.Chunks.{NewChunkValue}
use Rattle.step_book.specs.Fronts.{FrontValue}
use Rattle.step_book.proofs.Prefixes.{prefix_trans}
use Rattle.step_history.specs.History.{Base, Step, IsGood, last_snapshot, made_by}
use Rattle.step_history.proofs.Counts.{add_up}
use Rattle.step_line.specs.Lines.{LineValue, entered, settled}
use Rattle.step_tokens.specs.Tokens.{Agrees, TokenValue}
use Rattle.store_steps.specs.declared.files.Files.{Files}
use Rattle.store_keep.specs.Answers.{AnswersInstall}
use Rattle.store_keep.specs.Charges.{charge_of_job}
use Rattle.store_keep.specs.declared.charge.Charge.TheVariants as charges
use Rattle.store_keep.specs.Commits.{Learns, front_of}
use Rattle.store_keep.specs.Installs.{EndsJob, Installs, IsAfterJob, IsStrayJob, IsUnsettledJob, end_of, full_root, installed}
use Rattle.store_keep.specs.declared.job_ends.TheConstants.{LAST_FILE, LAST_ROOT}
use Rattle.store_keep.specs.declared.install_fault.InstallFault.{InstallFault}
use Rattle.store_keep.specs.declared.install_fault.InstallFault.TheVariants as faults
use Rattle.store_keep.proofs.Straying.{counts_alike, seen_within}
use Rattle.snap_share.specs.Answers.{Advances, IsNoteOf, Stays}
use Rattle.snap_share.specs.Counts.{Shares}
use Rattle.snap_share.specs.Reshapes.{IsJobInDoubt, IsReshaped, ReshapeAnswers}
use Rattle.snap_share.proofs.Charging.{HasShares, charged_seen, kept_in_doubt, learnt_shares, reshaped_so, shares_same, shares_so, shares_then}
use Rattle.snap_share.proofs.Sharing.{learns_more, learnt_is, shares_stay, stays, within}

-- numbers of files and roots alone are full for a job
either : (a b : Bool) (x y z : Full) → cond a (Some x) (cond b (Some y) None) ≡ Some z → (x ≡ z) ⊎ (y ≡ z)
either true b x y z is = inl (cc (is))
either false true x y z is = inr (cc (is))
either false false x y z is = absurd (cc (is))

root_only : (files : Files) (full : Full) → full_root files ≡ Some full → (full.what ≡ limits.Root) × (full.need ≡ 1)
root_only files full is =
    ⊎_elim
    (λ same. (sym (ap (λ (f : Full). f.what) same), sym (ap (λ (f : Full). f.need) same)))
    (λ same. (sym (ap (λ (f : Full). f.what) same), sym (ap (λ (f : Full). f.need) same)))
    (either (nat_lt LAST_FILE (files.next_file + 2)) (nat_le LAST_ROOT files.root.number) (record { what = limits.Root; at = files.next_file; need = 1 }) (record { what = limits.Root; at = files.root.number; need = 1 }) full is)

module _ (schema : Schema) (base : Base) (line : LineValue) (token : TokenValue) (of : token.index ≡ line.index) (begins : IsPrefix token.seen line.history) (counts : token.made ≡ made_by token.worker line.history) where
  -- the token, once it has seen the line's history
  moved : (after : TokenValue) (entered : Option (List Step)) → after ≡ record token { seen = line.history; entered = entered } → IsGood schema base after.seen → Advances schema base token after token.made entered
  moved after entered is good =
      subst (λ (t : TokenValue). Advances schema base token t token.made entered) (sym is) (record { is = refl; seen = begins; good = subst (λ (t : TokenValue). IsGood schema base t.seen) is good })

  -- a note of the line is one of the token
  noted : (after : TokenValue) (note : FrontValue) → after ≡ record token { seen = line.history } → note ≡ front_of line → IsNoteOf after note
  noted after note is told =
      subst (λ (t : TokenValue). IsNoteOf t note) (sym is) (record { is = told ∙ ap (λ (i : ℕ). record { index = i; steps = line.history }) (sym of); counts = sym counts })

  ended : (new : NewChunkValue) (note : FrontValue) (next : LineValue) (after : TokenValue) → next ≡ settled (record line { waiting = Some (end_of base line new) }) → note ≡ front_of next
      → Learns (record token { seen = line.history }) after token.made next.history → IsGood schema base after.seen → Advances schema base token after token.made token.entered × IsNoteOf after note × IsReshaped token new after
  ended new note next after line_is note_is learns good =
      let step : Step = end_of base line new in
      let all : next.history ≡ line.history ++ step ∷ [] = ap (λ (l : LineValue). l.history) line_is in
      let learns' : Learns (record token { seen = line.history }) after token.made (line.history ++ step ∷ []) = subst (λ (s : List Step). Learns (record token { seen = line.history }) after token.made s) all learns in
      let same : after ≡ record token { seen = line.history ++ step ∷ []; made = token.made } = learnt_is (record token { seen = line.history }) after token.made (line.history ++ step ∷ []) learns' (omega (arith, length-append line.history (step ∷ []))) in
      let front : front_of next ≡ record { index = token.index; steps = line.history ++ step ∷ [] } = ap front_of line_is ∙ ap (λ (i : ℕ). record { index = i; steps = line.history ++ step ∷ [] }) (sym of) in
      let none : made_by token.worker (step ∷ []) ≡ 0 = refl in
      let sum : made_by token.worker (line.history ++ step ∷ []) ≡ made_by token.worker line.history + made_by token.worker (step ∷ []) = add_up token.worker line.history (step ∷ []) in (
        subst (λ (t : TokenValue). Advances schema base token t token.made token.entered) (sym same) (record {
          is = refl;
          seen = prefix_trans token.seen line.history (line.history ++ step ∷ []) begins (step ∷ [], refl);
          good = subst (λ (t : TokenValue). IsGood schema base t.seen) same good;
        }),
        subst (λ (t : TokenValue). IsNoteOf t note) (sym same) (record { is = note_is ∙ front; counts = omega (arith, none, sum, counts) }),
        subst (λ (t : TokenValue). IsReshaped token new t) (sym same) (record { earlier = line.history; snapshot = installed base line new; last = refl; before = begins }),
      )

  unended : (new : NewChunkValue) (after : TokenValue) → after ≡ record token { seen = line.history; entered = Some (line.history ++ end_of base line new ∷ []) } → Agrees token.entered (line.history ++ end_of base line new ∷ []) → IsGood schema base after.seen → Advances schema base token after token.made after.entered × IsJobInDoubt token new after
  unended new after same agrees good = (
    subst (λ (e : Option (List Step)). Advances schema base token after token.made e) (sym (ap (λ (t : TokenValue). t.entered) same)) (moved after (Some (line.history ++ end_of base line new ∷ [])) same good),
    subst (λ (t : TokenValue). IsJobInDoubt token new t) (sym same) (record { snapshot = installed base line new; leaves = record { entered = refl; before = agrees } }),
  )

  -- what is said behind a line in which nothing waits, of a token that has seen all of it
  ends_so : {J : Type 0} (files : Files) (new : NewChunkValue) (before now : ℕ) (result : Result FrontValue (InstallFault J)) (next : LineValue) (kept : Files) (after : TokenValue) → EndsJob {J = J} base line files (record token { seen = line.history }) new before result next kept after now → IsGood schema base after.seen
      → ReshapeAnswers {J = J} schema base token new result after
  ends_so files new before now (Ok note) next kept after ends good = ended new note next after ends.1 ends.2 ends.3 good
  ends_so files new before now (Err faults.NoMemory) next kept after ends good = moved after token.entered ends.token_is good
  ends_so files new before now (Err (faults.Strayed strayed note)) next kept after ends good = absurd ends
  ends_so files new before now (Err (faults.Overtaken shape note)) next kept after ends good = (
    moved after token.entered ends.0.token_is good,
    noted after note ends.0.token_is ends.3,
    subst (λ (t : TokenValue). (last_snapshot base t.seen).shape ≡ shape) (sym ends.0.token_is) (sym ends.1),
    ends.2,
  )
  ends_so files new before now (Err (faults.Full full)) next kept after ends good = let only = root_only files full ends.2 in (moved after token.entered ends.0.token_is good, only.0, only.1)
  ends_so files new before now (Err faults.DiskFault) next kept after ends good = moved after token.entered ends.0.token_is good
  ends_so files new before now (Err faults.InDoubt) next kept after ends good = unended new after ends.2 ends.3 good

stray_so : {J : Type 0} (schema : Schema) (base : Base) (line : LineValue) (token : TokenValue) (new : NewChunkValue) (before : ℕ) (result : Result FrontValue (InstallFault J)) (next : LineValue) (after : TokenValue) (now : ℕ) → token.index ≡ line.index → IsStrayJob {J = J} base line token before result next after now
    → ReshapeAnswers {J = J} schema base token new result after
stray_so {J} schema base line token new before result next after now of is =
    subst (λ (r : Result FrontValue (InstallFault J)). ReshapeAnswers {J = J} schema base token new r after) (sym is.answer) (
      subst (λ (t : TokenValue). Stays token t) (sym is.same.token_is) refl,
      record { line = line; note_is = is.note_is; of = ap (λ (n : FrontValue). n.index) is.note_is ∙ sym of; strays = is.strays },
    )

unsettled_so : {J : Type 0} (schema : Schema) (base : Base) (line : LineValue) (token : TokenValue) (new : NewChunkValue) (before : ℕ) (result : Result FrontValue (InstallFault J)) (next : LineValue) (after : TokenValue) (now : ℕ) → IsUnsettledJob {J = J} base line token before result next after now → IsGood schema base after.seen → ReshapeAnswers {J = J} schema base token new result after
unsettled_so {J} schema base line token new before result next after now is good =
    let more : Advances schema base token after token.made token.entered = learns_more schema base token after line.history is.learns good in
    ⊎_elim
    (λ none. subst (λ (r : Result FrontValue (InstallFault J)). ReshapeAnswers {J = J} schema base token new r after) (sym none) more)
    (λ failed. subst (λ (r : Result FrontValue (InstallFault J)). ReshapeAnswers {J = J} schema base token new r after) (sym failed.0) more)
    is.answer

after_so : {J : Type 0} (schema : Schema) (base : Base) (line : LineValue) (files : Files) (token : TokenValue) (new : NewChunkValue) (before : ℕ) (result : Result FrontValue (InstallFault J)) (next : LineValue) (kept : Files) (after : TokenValue) (now : ℕ) → token.index ≡ line.index
    → IsAfterJob {J = J} base line files token new before result next kept after now → IsGood schema base after.seen → ReshapeAnswers {J = J} schema base token new result after
after_so {J} schema base line files token new before result next kept after now of is good =
    let longer : length token.seen ≤ length (entered line) = let a = seen_within base line token is.none in let b = within line.history line.waiting in omega (arith, a, b) in
    let taught : is.taught ≡ record token { seen = entered line } = learnt_is token is.taught token.made (entered line) is.learns longer in
    let begins : IsPrefix token.seen (entered line) = subst (λ (t : TokenValue). IsPrefix token.seen t.seen) taught is.learns.seen in
    ends_so schema base (settled line) token of begins (counts_alike base line token is.none) {J = J} files new is.between now result next kept after
    (subst (λ (t : TokenValue). EndsJob {J = J} base (settled line) files t new is.between result next kept after now) taught is.ends)
    good

-- what the end of a job says of its token, before its answer is charged
installs_so : {J : Type 0} (schema : ℕ → Schema) (base : ℕ → Base) (line : LineValue) (files : Files) (token : TokenValue) (new : NewChunkValue) (before : ℕ) (result : Result FrontValue (InstallFault J)) (next : LineValue) (kept : Files) (after : TokenValue) (now : ℕ) → token.index ≡ line.index
    → Installs {J = J} (base line.index) line files token new before result next kept after now → IsGood (schema line.index) (base line.index) after.seen → ReshapeAnswers {J = J} (schema token.index) (base token.index) token new result after
installs_so {J} schema base line files token new before result next kept after now of installs good =
    subst (λ (i : ℕ). ReshapeAnswers {J = J} (schema i) (base i) token new result after) (sym of)
    (⊎_elim
    (λ stray. stray_so {J = J} (schema line.index) (base line.index) line token new before result next after now of stray)
    (λ rest. ⊎_elim (λ unsettled. unsettled_so {J = J} (schema line.index) (base line.index) line token new before result next after now unsettled good) (λ later. after_so {J = J} (schema line.index) (base line.index) line files token new before result next kept after now of later good) rest)
    installs)

-- what the end of a job leaves of the shares, before its answer is charged
kept_by_end : {J : Type 0} (base : Base) (line : LineValue) (files : Files) (token : TokenValue) (new : NewChunkValue) (before : ℕ) (result : Result FrontValue (InstallFault J)) (next : LineValue) (kept : Files) (after : TokenValue) (now : ℕ) → EndsJob {J = J} base line files token new before result next kept after now → HasShares token after
kept_by_end base line files token new before (Ok note) next kept after now ends = learnt_shares token after token.made next.history ends.3
kept_by_end base line files token new before (Err faults.NoMemory) next kept after now ends = shares_same token after ends.token_is
kept_by_end base line files token new before (Err (faults.Strayed strayed note)) next kept after now ends = absurd ends
kept_by_end base line files token new before (Err (faults.Overtaken shape note)) next kept after now ends = shares_same token after ends.0.token_is
kept_by_end base line files token new before (Err (faults.Full full)) next kept after now ends = shares_same token after ends.0.token_is
kept_by_end base line files token new before (Err faults.DiskFault) next kept after now ends = shares_same token after ends.0.token_is
kept_by_end base line files token new before (Err faults.InDoubt) next kept after now ends = kept_in_doubt token after token.made (Some (line.history ++ end_of base line new ∷ [])) ends.2

kept_by_install : {J : Type 0} (base : Base) (line : LineValue) (files : Files) (token : TokenValue) (new : NewChunkValue) (before : ℕ) (result : Result FrontValue (InstallFault J)) (next : LineValue) (kept : Files) (after : TokenValue) (now : ℕ) → Installs {J = J} base line files token new before result next kept after now → HasShares token after
kept_by_install {J} base line files token new before result next kept after now installs =
    ⊎_elim
    (λ stray. shares_same token after stray.same.token_is)
    (λ rest. ⊎_elim
    (λ unsettled. learnt_shares token after token.made line.history unsettled.learns)
    (λ later. shares_then token later.taught after (learnt_shares token later.taught token.made (entered line) later.learns) (kept_by_end {J = J} base (settled line) files later.taught new later.between result next kept after now later.ends))
    rest)
    installs

-- what the end of a job says of its token
pub reshape_answers_so : {J : Type 0} (schema : ℕ → Schema) (base : ℕ → Base) (line : LineValue) (files : Files) (token : TokenValue) (new : NewChunkValue) (before : ℕ) (result : Result FrontValue (InstallFault J)) (next : LineValue) (kept : Files) (after : TokenValue) (now : ℕ) → token.index ≡ line.index
    → AnswersInstall {J = J} (base line.index) line files token new before result next kept after now → IsGood (schema line.index) (base line.index) after.seen
    → ReshapeAnswers {J = J} (schema token.index) (base token.index) token new result after × Shares (charge_of_job result) token after
reshape_answers_so {J} schema base line files token new before result next kept after now of answers good =
    ⊎_elim
    (λ unready. subst (λ (r : Result FrontValue (InstallFault J)). ReshapeAnswers {J = J} (schema token.index) (base token.index) token new r after × Shares (charge_of_job {J = J} r) token after) (sym unready.answer)
    (subst (λ (t : TokenValue). Advances (schema token.index) (base token.index) token t token.made token.entered × Shares charges.Free token t) (sym unready.same.token_is)
    (stays (schema token.index) (base token.index) token (subst (λ (i : ℕ). IsGood (schema i) (base i) token.seen) (sym of) (subst (λ (t : TokenValue). IsGood (schema line.index) (base line.index) t.seen) unready.same.token_is good)), shares_stay token)))
    (λ charged. (
      reshaped_so {J = J} (schema token.index) (base token.index) token new result (charge_of_job {J = J} result) charged.mid after charged.charges
          (installs_so {J = J} schema base line files token new before result next kept charged.mid now of charged.installs (subst (λ (s : List Step). IsGood (schema line.index) (base line.index) s) (charged_seen (charge_of_job {J = J} result) charged.mid after charged.charges) good)),
      shares_so (charge_of_job {J = J} result) token charged.mid after (kept_by_install {J = J} (base line.index) line files token new before result next kept charged.mid now charged.installs) charged.charges,
    ))
    answers
