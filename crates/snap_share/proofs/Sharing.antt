-- What a commit says of its token alone: the keeper's words, without the keeper.
use Rattle.std.proofs.Common.{◌≡◌, ⊎_elim, ℕ, ◌+◌, ◌≤◌, ◌==◌, true, List, [], ◌∷◌, ◌++◌, length, Option, Some, None, Result, Ok, Err, refl, sym, ◌∙◌, ap, subst, arith, length-append}
use Rattle.std.proofs.lemmas.Bool.Decides.{nat_tests}
use mathlib.Core.List.{IsPrefix}
use Rattle.commit_outcomes.specs.declared.outcome.Doubt.TheVariants as doubts
use Rattle.doc_types.specs.Commits.{Duplicate, Entry, verdict}
use Rattle.doc_types.specs.Snapshots.{SnapshotValue, live}
use Rattle.doc_types.specs.declared.schema.Schema.{Schema}
use Rattle.doc_types.specs.declared.transactions.TxnOp.{TxnOp}
use Rattle.gate_log.specs.declared.log.GateLog.{GateLog}
use Rattle.step_book.specs.Fronts.{FrontValue}
use Rattle.step_book.proofs.Prefixes.{prefix_self, prefix_trans, prefix_whole}
use Rattle.step_history.specs.History.{Base, Step, Commit, IsGood, last_snapshot, made_by}
use Rattle.step_history.proofs.Counts.{add_up}
use Rattle.step_line.specs.Lines.{LineValue, entered, settled, with_waiting}
use Rattle.step_tokens.specs.Tokens.{Agrees, TokenValue}
use Rattle.store_steps.specs.Answers.{Becomes}
use Rattle.store_keep.specs.Answers.{AnswersCommit}
use Rattle.store_keep.specs.Charges.{charge_of}
use Rattle.store_keep.specs.Commits.{Commits, Ends, IsAfter, IsCommit, IsStray, IsUnsettled, Learns, Makes, front_of}
use Rattle.store_keep.specs.declared.charge.Charge.TheVariants as charges
use Rattle.store_keep.specs.declared.fault.CommitFault.{CommitFault}
use Rattle.store_keep.specs.declared.fault.CommitFault.TheVariants as faults
use Rattle.store_keep.specs.declared.fault.Committed.{Committed}
use Rattle.store_keep.proofs.Straying.{counts_alike, seen_within}
use Rattle.snap_share.specs.Answers.{Advances, Answers, IsAcknowledged, IsInDoubt, IsNoteOf, IsOverLimit, Stays}
use Rattle.snap_share.specs.Counts.{Shares}
use Rattle.snap_share.proofs.Charging.{HasShares, answered_so, charged_seen, kept_in_doubt, learnt_shares, shares_same, shares_so, shares_then}

-- a token of the same index and worker, with so many commits, which left these steps in doubt
pub same_but : (old new : TokenValue) (made : ℕ) (entered : Option (List Step)) → new.index ≡ old.index → new.worker ≡ old.worker → new.made ≡ made → new.entered ≡ entered → new ≡ record old { seen = new.seen; made = made; faults = new.faults; stops = new.stops; entered = entered }
same_but old new made entered index worker is left =
    ap (λ (i : ℕ). record new { index = i }) index
    ∙ ap (λ (w : ℕ). record new { index = old.index; worker = w }) worker
    ∙ ap (λ (m : ℕ). record new { index = old.index; worker = old.worker; made = m }) is
    ∙ ap (λ (e : Option (List Step)). record new { index = old.index; worker = old.worker; made = made; entered = e }) left

-- a token that learnt a history which is no shorter than what it had seen has seen exactly that one
pub learnt_is : (old new : TokenValue) (made : ℕ) (steps : List Step) → Learns old new made steps → length old.seen ≤ length steps → new ≡ record old { seen = steps; made = made }
learnt_is old new made steps learns longer =
    let seen : new.seen ≡ steps = ⊎_elim (λ (same : new.seen ≡ old.seen). same ∙ sym (prefix_whole steps old.seen (subst (λ (s : List Step). IsPrefix steps s) same learns.told) longer)) (λ (is : new.seen ≡ steps). is) learns.one in
    same_but old new made old.entered learns.index learns.worker learns.made_is learns.entered_is
    ∙ ap (λ (s : List Step). record old { seen = s; made = made; faults = new.faults; stops = new.stops }) seen
    ∙ ap (λ (f : List ℕ). record old { seen = steps; made = made; faults = f; stops = new.stops }) learns.faults_are
    ∙ ap (λ (s : List ℕ). record old { seen = steps; made = made; stops = s }) learns.stops_are

pub within : (steps : List Step) (waiting : Option Step) → length steps ≤ length (with_waiting steps waiting)
within steps None = omega arith
within steps (Some step) = omega (arith, length-append steps (step ∷ []))

own_one : (worker : ℕ) (entry : Entry) (next : SnapshotValue) → entry.worker ≡ worker → made_by worker (Commit entry next ∷ []) ≡ 1
own_one worker entry next own = let h : (entry.worker == worker) ≡ true = grind (arith, nat_tests) in rw h refl

-- nothing was done
pub stays : (schema : Schema) (base : Base) (token : TokenValue) → IsGood schema base token.seen → Advances schema base token token token.made token.entered
stays schema base token good = record { is = refl; seen = prefix_self token.seen; good = good }

pub shares_stay : (token : TokenValue) → Shares charges.Free token token
shares_stay token = shares_so charges.Free token token token (shares_same token token refl) refl

-- a token that learnt more
pub learns_more : (schema : Schema) (base : Base) (token after : TokenValue) (steps : List Step) → Learns token after token.made steps → IsGood schema base after.seen → Advances schema base token after token.made token.entered
learns_more schema base token after steps learns good = record { is = same_but token after token.made token.entered learns.index learns.worker learns.made_is learns.entered_is; seen = learns.seen; good = good }

module _ (schema : Schema) (base : Base) (line : LineValue) (token : TokenValue) (worker : ℕ) (ops : List TxnOp) (own : token.worker ≡ worker) (of : token.index ≡ line.index) (begins : IsPrefix token.seen line.history) (counts : token.made ≡ made_by token.worker line.history) where
  -- the token, once it has seen the line's history
  moved : (after : TokenValue) (made : ℕ) (entered : Option (List Step)) → after ≡ record token { seen = line.history; made = made; entered = entered } → IsGood schema base after.seen → Advances schema base token after made entered
  moved after made entered is good =
      subst (λ (t : TokenValue). Advances schema base token t made entered) (sym is) (record { is = refl; seen = begins; good = subst (λ (t : TokenValue). IsGood schema base t.seen) is good })

  -- a commit behind the line is its worker's next one
  next_seq : (removed number : ℕ) (step : Step) (is : IsCommit base line worker ops removed number step) → is.entry.seq ≡ token.made + 1
  next_seq removed number step is =
      is.becomes.follows.seq ∙ ap (λ (w : ℕ). made_by w line.history + 1) (is.becomes.by ∙ sym own) ∙ ap (λ (m : ℕ). m + 1) (sym counts)

  becomes_own : (removed number : ℕ) (step : Step) (is : IsCommit base line worker ops removed number step) → Becomes base line.history token.worker ops is.entry is.snapshot removed
  becomes_own removed number step is = subst (λ (w : ℕ). Becomes base line.history w ops is.entry is.snapshot removed) (sym own) is.becomes

  -- a note of the line is one of the token
  noted : (after : TokenValue) (note : FrontValue) → after ≡ record token { seen = line.history } → note ≡ front_of line → IsNoteOf after note
  noted after note is told =
      subst (λ (t : TokenValue). IsNoteOf t note) (sym is) (record { is = told ∙ ap (λ (i : ℕ). record { index = i; steps = line.history }) (sym of); counts = sym counts })

  in_doubt : (removed number : ℕ) (step : Step) (after : TokenValue) (is : IsCommit base line worker ops removed number step) → after ≡ record token { seen = line.history; made = token.made + 1; entered = Some (line.history ++ step ∷ []) } → Agrees token.entered (line.history ++ step ∷ []) → IsGood schema base after.seen
      → Advances schema base token after (token.made + 1) after.entered × IsInDoubt base ops token after
  in_doubt removed number step after is same agrees good = (
    subst (λ (e : Option (List Step)). Advances schema base token after (token.made + 1) e) (sym (ap (λ (t : TokenValue). t.entered) same)) (moved after (token.made + 1) (Some (line.history ++ step ∷ [])) same good),
    subst (λ (t : TokenValue). IsInDoubt base ops token t) (sym same)
        (record {
          entry = is.entry;
          snapshot = is.snapshot;
          removed = removed;
          becomes = becomes_own removed number step is;
          seq = next_seq removed number step is;
          counts = ap (λ (m : ℕ). m + 1) (sym counts);
          leaves = record { entered = ap (λ (s : Step). Some (line.history ++ s ∷ [])) is.is; before = subst (λ (s : Step). Agrees token.entered (line.history ++ s ∷ [])) is.is agrees };
        }),
  )

module _ {J : Type 0} (schema : Schema) (base : Base) (line : LineValue) (token : TokenValue) (worker : ℕ) (ops : List TxnOp) (own : token.worker ≡ worker) (of : token.index ≡ line.index) (begins : IsPrefix token.seen line.history) (counts : token.made ≡ made_by token.worker line.history) where
  acknowledged : (made : Committed J) (number removed : ℕ) (step : Step) (new : LineValue) (after : TokenValue) (is : IsCommit base line worker ops removed number step) → new ≡ settled (record line { waiting = Some step }) → made.note ≡ front_of new → made.number ≡ number → made.removed ≡ removed
      → Learns (record token { seen = line.history }) after (token.made + 1) new.history → IsGood schema base after.seen → Advances schema base token after (token.made + 1) token.entered × IsNoteOf after made.note × IsAcknowledged {J = J} base token ops made after
  acknowledged made number removed step new after is line_is note number_is removed_is learns good =
      let commit : Step = Commit is.entry is.snapshot in
      let all : new.history ≡ line.history ++ commit ∷ [] = ap (λ (l : LineValue). l.history) line_is ∙ ap (λ (s : Step). line.history ++ s ∷ []) is.is in
      let learns' : Learns (record token { seen = line.history }) after (token.made + 1) (line.history ++ commit ∷ []) = subst (λ (s : List Step). Learns (record token { seen = line.history }) after (token.made + 1) s) all learns in
      let same : after ≡ record token { seen = line.history ++ commit ∷ []; made = token.made + 1 } = learnt_is (record token { seen = line.history }) after (token.made + 1) (line.history ++ commit ∷ []) learns' (omega (arith, length-append line.history (commit ∷ []))) in
      let front : front_of new ≡ record { index = token.index; steps = line.history ++ commit ∷ [] } = ap front_of line_is ∙ ap (λ (s : Step). record { index = line.index; steps = line.history ++ s ∷ [] }) is.is ∙ ap (λ (i : ℕ). record { index = i; steps = line.history ++ commit ∷ [] }) (sym of) in
      let one : made_by token.worker (commit ∷ []) ≡ 1 = own_one token.worker is.entry is.snapshot (is.becomes.by ∙ sym own) in
      let sum : made_by token.worker (line.history ++ commit ∷ []) ≡ made_by token.worker line.history + made_by token.worker (commit ∷ []) = add_up token.worker line.history (commit ∷ []) in (
        subst (λ (t : TokenValue). Advances schema base token t (token.made + 1) token.entered) (sym same) (record {
          is = refl;
          seen = prefix_trans token.seen line.history (line.history ++ commit ∷ []) begins (commit ∷ [], refl);
          good = subst (λ (t : TokenValue). IsGood schema base t.seen) same good;
        }),
        subst (λ (t : TokenValue). IsNoteOf t made.note) (sym same) (record { is = note ∙ front; counts = omega (arith, one, sum, counts) }),
        subst (λ (t : TokenValue). IsAcknowledged {J = J} base token ops made t) (sym same) (record {
          earlier = line.history;
          entry = is.entry;
          snapshot = is.snapshot;
          last = refl;
          before = begins;
          becomes = subst (λ (r : ℕ). Becomes base line.history token.worker ops is.entry is.snapshot r) (sym removed_is) (becomes_own schema base line token worker ops own of begins counts removed number step is);
          number = number_is ∙ is.number_is;
          seq = next_seq schema base line token worker ops own of begins counts removed number step is;
        }),
      )

  -- what a commit says behind a line in which nothing waits, of a token that has seen all of it
  ends_so : (before now : ℕ) (result : Result (Committed J) (CommitFault J)) (new : LineValue) (log : GateLog) (after : TokenValue) → Ends {J = J} base line (record token { seen = line.history }) worker ops before result new log after now → IsGood schema base after.seen → Answers {J = J} schema base token ops result after
  ends_so before now (Ok made) new log after ends good = acknowledged made ends.1 ends.0 ends.2 new after ends.3 ends.4.0 ends.4.1 ends.4.2 ends.4.3 ends.4.4 good
  ends_so before now (Err faults.NoMemory) new log after ends good = moved schema base line token worker ops own of begins counts after token.made token.entered ends.token_is good
  ends_so before now (Err (faults.Strayed strayed note)) new log after ends good = absurd ends
  ends_so before now (Err (faults.Duplicate id note)) new log after ends good = (
    moved schema base line token worker ops own of begins counts after token.made token.entered ends.0.token_is good,
    noted schema base line token worker ops own of begins counts after note ends.0.token_is ends.1.1,
    subst (λ (t : TokenValue). verdict ops (live (last_snapshot base t.seen)) ≡ Duplicate id) (sym ends.0.token_is) ends.1.0,
  )
  ends_so before now (Err (faults.Full full note)) new log after ends good = (
    moved schema base line token worker ops own of begins counts after token.made token.entered ends.0.token_is good,
    noted schema base line token worker ops own of begins counts after note ends.0.token_is ends.1.1,
    subst (λ (t : TokenValue). IsOverLimit base ops full t) (sym ends.0.token_is) (record { changes = ends.1.0.0; removed = ends.1.0.1; verdict = ends.1.0.2; over = ends.1.0.3 }),
  )
  ends_so before now (Err faults.Refused) new log after ends good = moved schema base line token worker ops own of begins counts after token.made token.entered ends.4.1 good
  ends_so before now (Err (faults.InDoubt doubts.Disk)) new log after ends good = in_doubt schema base line token worker ops own of begins counts ends.0 ends.1 ends.2 after ends.3 ends.4.1 ends.4.2 good
  ends_so before now (Err (faults.InDoubt doubts.Memory)) new log after ends good = in_doubt schema base line token worker ops own of begins counts ends.0 ends.1 ends.2 after ends.3 ends.4.1 ends.4.2 good

stray_so : {J : Type 0} (schema : Schema) (base : Base) (line : LineValue) (token : TokenValue) (ops : List TxnOp) (before : ℕ) (result : Result (Committed J) (CommitFault J)) (new : LineValue) (after : TokenValue) (now : ℕ) → token.index ≡ line.index → IsStray {J = J} base line token before result new after now
    → Answers {J = J} schema base token ops result after
stray_so {J} schema base line token ops before result new after now of is =
    subst (λ (r : Result (Committed J) (CommitFault J)). Answers {J = J} schema base token ops r after) (sym is.answer) (
      subst (λ (t : TokenValue). Stays token t) (sym is.same.token_is) refl,
      record { line = line; note_is = is.note_is; of = ap (λ (n : FrontValue). n.index) is.note_is ∙ sym of; strays = is.strays },
    )

unsettled_so : {J : Type 0} (schema : Schema) (base : Base) (line : LineValue) (token : TokenValue) (ops : List TxnOp) (before : ℕ) (result : Result (Committed J) (CommitFault J)) (new : LineValue) (after : TokenValue) (now : ℕ) → IsUnsettled {J = J} base line token before result new after now → IsGood schema base after.seen → Answers {J = J} schema base token ops result after
unsettled_so {J} schema base line token ops before result new after now is good =
    let more : Advances schema base token after token.made token.entered = learns_more schema base token after line.history is.learns good in
    ⊎_elim
    (λ none. subst (λ (r : Result (Committed J) (CommitFault J)). Answers {J = J} schema base token ops r after) (sym none) more)
    (λ refused. subst (λ (r : Result (Committed J) (CommitFault J)). Answers {J = J} schema base token ops r after) (sym refused.0) more)
    is.answer

after_so : {J : Type 0} (schema : Schema) (base : Base) (line : LineValue) (token : TokenValue) (worker : ℕ) (ops : List TxnOp) (before : ℕ) (result : Result (Committed J) (CommitFault J)) (new : LineValue) (log : GateLog) (after : TokenValue) (now : ℕ) → token.index ≡ line.index → token.worker ≡ worker
    → IsAfter {J = J} base line token worker ops before result new log after now → IsGood schema base after.seen → Answers {J = J} schema base token ops result after
after_so {J} schema base line token worker ops before result new log after now of own is good =
    let longer : length token.seen ≤ length (entered line) = let a = seen_within base line token is.none in let b = within line.history line.waiting in omega (arith, a, b) in
    let taught : is.taught ≡ record token { seen = entered line } = learnt_is token is.taught token.made (entered line) is.learns longer in
    let begins : IsPrefix token.seen (entered line) = subst (λ (t : TokenValue). IsPrefix token.seen t.seen) taught is.learns.seen in
    ends_so {J = J} schema base (settled line) token worker ops own of begins (counts_alike base line token is.none) is.between now result new log after
    (subst (λ (t : TokenValue). Ends {J = J} base (settled line) t worker ops is.between result new log after now) taught is.ends)
    good

-- what a commit says of its token, before its answer is charged
commits_so : {J : Type 0} (schema : ℕ → Schema) (base : ℕ → Base) (line : LineValue) (token : TokenValue) (worker : ℕ) (ops : List TxnOp) (before : ℕ) (result : Result (Committed J) (CommitFault J)) (new : LineValue) (log : GateLog) (after : TokenValue) (now : ℕ) → token.index ≡ line.index → token.worker ≡ worker
    → Commits {J = J} (base line.index) line token worker ops before result new log after now → IsGood (schema line.index) (base line.index) after.seen → Answers {J = J} (schema token.index) (base token.index) token ops result after
commits_so {J} schema base line token worker ops before result new log after now of own commits good =
    subst (λ (i : ℕ). Answers {J = J} (schema i) (base i) token ops result after) (sym of)
    (⊎_elim
    (λ stray. stray_so {J = J} (schema line.index) (base line.index) line token ops before result new after now of stray)
    (λ rest. ⊎_elim (λ unsettled. unsettled_so {J = J} (schema line.index) (base line.index) line token ops before result new after now unsettled good) (λ later. after_so {J = J} (schema line.index) (base line.index) line token worker ops before result new log after now of own later good) rest)
    commits)

-- what a commit leaves of the shares, before its answer is charged
kept_by_makes : {J : Type 0} (line : LineValue) (token : TokenValue) (step : Step) (number removed before : ℕ) (result : Result (Committed J) (CommitFault J)) (new : LineValue) (log : GateLog) (after : TokenValue) (now : ℕ) → Makes {J = J} line token step number removed before result new log after now → HasShares token after
kept_by_makes line token step number removed before (Ok made) new log after now makes = learnt_shares token after (token.made + 1) new.history makes.4
kept_by_makes line token step number removed before (Err (faults.InDoubt doubts.Disk)) new log after now makes = kept_in_doubt token after (token.made + 1) (Some (line.history ++ step ∷ [])) makes.1
kept_by_makes line token step number removed before (Err (faults.InDoubt doubts.Memory)) new log after now makes = kept_in_doubt token after (token.made + 1) (Some (line.history ++ step ∷ [])) makes.1
kept_by_makes line token step number removed before (Err faults.Refused) new log after now makes = shares_same token after makes.1
kept_by_makes line token step number removed before (Err faults.NoMemory) new log after now makes = absurd makes
kept_by_makes line token step number removed before (Err (faults.Strayed strayed note)) new log after now makes = absurd makes
kept_by_makes line token step number removed before (Err (faults.Duplicate id note)) new log after now makes = absurd makes
kept_by_makes line token step number removed before (Err (faults.Full full note)) new log after now makes = absurd makes

kept_by_ends : {J : Type 0} (base : Base) (line : LineValue) (token : TokenValue) (worker : ℕ) (ops : List TxnOp) (before : ℕ) (result : Result (Committed J) (CommitFault J)) (new : LineValue) (log : GateLog) (after : TokenValue) (now : ℕ) → Ends {J = J} base line token worker ops before result new log after now → HasShares token after
kept_by_ends {J} base line token worker ops before (Ok made) new log after now ends = kept_by_makes {J = J} line token ends.2 ends.1 ends.0 before (Ok made) new log after now ends.4
kept_by_ends base line token worker ops before (Err faults.NoMemory) new log after now ends = shares_same token after ends.token_is
kept_by_ends base line token worker ops before (Err (faults.Strayed strayed note)) new log after now ends = absurd ends
kept_by_ends base line token worker ops before (Err (faults.Duplicate id note)) new log after now ends = shares_same token after ends.0.token_is
kept_by_ends base line token worker ops before (Err (faults.Full full note)) new log after now ends = shares_same token after ends.0.token_is
kept_by_ends {J} base line token worker ops before (Err faults.Refused) new log after now ends = kept_by_makes {J = J} line token ends.2 ends.1 ends.0 before (Err faults.Refused) new log after now ends.4
kept_by_ends {J} base line token worker ops before (Err (faults.InDoubt doubt)) new log after now ends = kept_by_makes {J = J} line token ends.2 ends.1 ends.0 before (Err (faults.InDoubt doubt)) new log after now ends.4

kept_by_commit : {J : Type 0} (base : Base) (line : LineValue) (token : TokenValue) (worker : ℕ) (ops : List TxnOp) (before : ℕ) (result : Result (Committed J) (CommitFault J)) (new : LineValue) (log : GateLog) (after : TokenValue) (now : ℕ) → Commits {J = J} base line token worker ops before result new log after now → HasShares token after
kept_by_commit {J} base line token worker ops before result new log after now commits =
    ⊎_elim
    (λ stray. shares_same token after stray.same.token_is)
    (λ rest. ⊎_elim
    (λ unsettled. learnt_shares token after token.made line.history unsettled.learns)
    (λ later. shares_then token later.taught after (learnt_shares token later.taught token.made (entered line) later.learns) (kept_by_ends {J = J} base (settled line) later.taught worker ops later.between result new log after now later.ends))
    rest)
    commits

-- what a commit says of its token
pub answers_so : {J : Type 0} (schema : ℕ → Schema) (base : ℕ → Base) (line : LineValue) (token : TokenValue) (worker : ℕ) (ops : List TxnOp) (before : ℕ) (result : Result (Committed J) (CommitFault J)) (new : LineValue) (log : GateLog) (after : TokenValue) (now : ℕ) → token.index ≡ line.index → token.worker ≡ worker
    → AnswersCommit {J = J} (base line.index) line token worker ops before result new log after now → IsGood (schema line.index) (base line.index) after.seen
    → Answers {J = J} (schema token.index) (base token.index) token ops result after × Shares (charge_of result) token after
answers_so {J} schema base line token worker ops before result new log after now of own answers good =
    ⊎_elim
    (λ unready. subst (λ (r : Result (Committed J) (CommitFault J)). Answers {J = J} (schema token.index) (base token.index) token ops r after × Shares (charge_of {J = J} r) token after) (sym unready.answer)
    (subst (λ (t : TokenValue). Advances (schema token.index) (base token.index) token t token.made token.entered × Shares charges.Free token t) (sym unready.same.token_is)
    (stays (schema token.index) (base token.index) token (subst (λ (i : ℕ). IsGood (schema i) (base i) token.seen) (sym of) (subst (λ (t : TokenValue). IsGood (schema line.index) (base line.index) t.seen) unready.same.token_is good)), shares_stay token)))
    (λ charged. (
      answered_so {J = J} (schema token.index) (base token.index) token ops result (charge_of {J = J} result) charged.mid after charged.charges
          (commits_so {J = J} schema base line token worker ops before result new log charged.mid now of own charged.commits (subst (λ (s : List Step). IsGood (schema line.index) (base line.index) s) (charged_seen (charge_of {J = J} result) charged.mid after charged.charges) good)),
      shares_so (charge_of {J = J} result) token charged.mid after (kept_by_commit {J = J} (base line.index) line token worker ops before result new log charged.mid now charged.commits) charged.charges,
    ))
    answers
