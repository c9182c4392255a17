-- What the end of a job through an engine is to a session: its outcome says the same of the token.
use Rattle.std.proofs.Common.{◌≡◌, ◌<◌, ℕ, List, [], Option, None, Some, Result, Ok, Err, OnErr, inl, inr, slice_get, slice_index_or, slice_set, zero, suc, ◌∷◌, ◌++◌, append-nil, length, arith, refl, sym, ap, subst, ◌∙◌}
use Rattle.std.specs.List.{AllZip}
use Rattle.std.specs.Option.{option_or}
use Rattle.srch_base.specs.declared.faults.NoMemory.{NoMemory}
use Rattle.srch_base.specs.declared.faults.Or.{Or}
use Rattle.srch_base.specs.declared.faults.Or.TheVariants as causes
use Rattle.commit_outcomes.specs.declared.outcome.Full.{Full}
use Rattle.commit_outcomes.specs.declared.outcome.FullKind.{FullKind}
use Rattle.commit_outcomes.specs.declared.outcome.FullKind.TheVariants as kinds
use Rattle.commit_outcomes.specs.declared.strayed.Strayed.{Strayed}
use Rattle.doc_types.specs.declared.schema.Schema.{Schema}
use Rattle.doc_types.specs.Snapshots.{SnapshotValue}
use Rattle.job_chunks.specs.Chunks.{NewChunkValue}
use Rattle.job_chunks.specs.Limits.{Builds, HasRoom, Passes}
use Rattle.job_states.specs.States.{HasSeen as HasSeenFrom}
use Rattle.ql_answers.specs.declared.job_outcome.JobOutcome.{JobOutcome}
use Rattle.ql_answers.specs.declared.job_outcome.JobOutcome.TheVariants as outcomes
use Rattle.step_book.specs.Fronts.{FrontValue}
use Rattle.step_book.proofs.Prefixes.{prefix_trans}
use Rattle.step_history.specs.History.{AreOf, Base, IsGood, Reshape, last_snapshot}
use Rattle.step_history.specs.declared.job.Job.{Job}
use Rattle.step_tokens.specs.Tokens.{LeavesInDoubt, TokenValue}
use Rattle.store_keep.specs.Charges.{charge_of_job, charge_of_limit}
use Rattle.store_keep.specs.declared.charge.Charge.{Charge}
use Rattle.store_keep.specs.declared.charge.Charge.TheVariants as charges
use Rattle.store_keep.specs.declared.install_fault.InstallFault.{InstallFault}
use Rattle.store_keep.specs.declared.install_fault.InstallFault.TheVariants as faults
use Rattle.snap_share.specs.Answers.{seen_by}
use Rattle.snap_share.specs.Counts.{Shares}
use Rattle.snap_share.specs.Reshapes.{IsJobInDoubt, IsReshaped, ReshapeAnswers}
use Rattle.snap_share.proofs.Sharing.{shares_stay}
use Rattle.engine_tables.specs.Outcomes.{IsShaped, IsUnended, TellsEnd, charge_by_job, job_outcome_of, numbers_of_job}
use Rattle.engine_tables.specs.Tokens.{AreInOrder, TokensValue}
use Rattle.engine_tables.specs.Workers.{GrowAll, Grows, HasSeen, ReshapesBy, documents_of}
use Rattle.store_keep.proofs.Following.{last_of}
use Rattle.engine_tables.proofs.Sitting.{long_zip}
use Rattle.engine_tables.proofs.Telling.{grows_so, kept, note_of}
use Rattle.engine_tables.proofs.Using.{IsUsed, grow_at, is_used, with_token}

-- a token that grew, and grew again
grows_then : (a b c : TokenValue) → Grows a b → Grows b c → Grows a c
grows_then a b c first next = record {
  is = next.is ∙ ap (λ (t : TokenValue). record t { seen = c.seen }) first.is;
  seen = prefix_trans a.seen b.seen c.seen first.seen next.seen;
}

zip_then : (xs ys zs : List TokenValue) → AllZip Grows xs ys → AllZip Grows ys zs → AllZip Grows xs zs
zip_then [] [] [] first next = tt
zip_then [] [] (z ∷ zs) first next = absurd next
zip_then [] (y ∷ ys) zs first next = absurd first
zip_then (x ∷ xs) [] zs first next = absurd first
zip_then (x ∷ xs) (y ∷ ys) [] first next = absurd next
zip_then (x ∷ xs) (y ∷ ys) (z ∷ zs) first next = (grows_then x y z first.0 next.0, zip_then xs ys zs first.1 next.1)

-- and so do all
pub grow_then : (a b c : TokensValue) → GrowAll a b → GrowAll b c → GrowAll a c
grow_then a b c first next = (next.0 ∙ first.0, zip_then a.list b.list c.list first.1 next.1, next.2 ∙ first.2)

-- out of memory after tokens grew, they are grown
pub fails_then : (a b c : TokensValue) (result : Result JobOutcome NoMemory) → GrowAll a b → OnErr result (GrowAll b c) → OnErr result (GrowAll a c)
fails_then a b c (Ok outcome) first next = tt
fails_then a b c (Err none) first next = grow_then a b c first next

-- what stands at a place, put there again
set_again : {A : Type 0} (xs : List A) (k : ℕ) (x : A) → slice_get xs k ≡ Some x → slice_set xs k x ≡ xs
set_again [] k x at = refl
set_again {A} (y ∷ ys) zero x at = let e : x ≡ y = cc in ap (λ (z : A). z ∷ ys) e
set_again {A} (y ∷ ys) (suc k) x at = ap (λ (zs : List A). y ∷ zs) (set_again ys k x at)

or_none : (had : Option Strayed) → option_or had None ≡ had
or_none None = refl
or_none (Some numbers) = refl

shaped_so : (base : Base) (old : TokenValue) (new : NewChunkValue) (after : TokenValue) → new.from ≡ last_snapshot base old.seen → IsReshaped old new after → IsShaped base new.job old after
shaped_so base old new after from is = record {
  earlier = is.earlier;
  snapshot = is.snapshot;
  last = subst (λ (s : SnapshotValue). after.seen ≡ is.earlier ++ Reshape new.job s.number is.snapshot ∷ []) from is.last;
  before = is.before;
}

unended_so : (base : Base) (old : TokenValue) (new : NewChunkValue) (after : TokenValue) → new.from ≡ last_snapshot base old.seen → IsJobInDoubt old new after → IsUnended base new.job old after
unended_so base old new after from is = record {
  snapshot = is.snapshot;
  leaves = subst (λ (s : SnapshotValue). LeavesInDoubt old after (after.seen ++ Reshape new.job s.number is.snapshot ∷ [])) from is.leaves;
}

abbrev said : JobOutcome → Result JobOutcome NoMemory
said outcome = Ok outcome

outcome_is : (a b : JobOutcome) → said a ≡ said b → a ≡ b
outcome_is a b is = cc (is)

-- an answer is charged as its outcome
charged_alike : {J : Type 0} (answer : Result FrontValue (InstallFault J)) (outcome : JobOutcome) → job_outcome_of {J = J} answer ≡ Ok outcome → charge_of_job {J = J} answer ≡ charge_by_job outcome
charged_alike (Ok note) outcome is = ap charge_by_job (outcome_is outcomes.Shaped outcome is)
charged_alike (Err faults.NoMemory) outcome is = absurd (cc (is))
charged_alike (Err (faults.Strayed numbers note)) outcome is = ap charge_by_job (outcome_is (outcomes.Strayed numbers) outcome is)
charged_alike (Err (faults.Overtaken shape note)) outcome is = ap charge_by_job (outcome_is (outcomes.Overtaken shape) outcome is)
charged_alike (Err (faults.Full full)) outcome is = ap charge_by_job (outcome_is (outcomes.Full full) outcome is)
charged_alike (Err faults.DiskFault) outcome is = ap charge_by_job (outcome_is outcomes.Refused outcome is)
charged_alike (Err faults.InDoubt) outcome is = ap charge_by_job (outcome_is outcomes.InDoubt outcome is)

-- no chunk that finds no room is a stop
free_limit : (job : Job) (from : SnapshotValue) (what : FullKind) (at need : ℕ) → Passes job from what at need → charge_of_limit what ≡ charges.Free
free_limit job from kinds.Log at need passes = absurd passes
free_limit job from kinds.Documents at need passes = absurd passes
free_limit job from kinds.Chunks at need passes = refl
free_limit job from kinds.Images at need passes = refl
free_limit job from kinds.Numbers at need passes = absurd passes
free_limit job from kinds.Root at need passes = absurd passes

as_told : (schema : Schema) (base : Base) (old : TokenValue) (job : Job) (new : TokenValue) (outcome its : JobOutcome) → its ≡ outcome → TellsEnd schema base old job its new → TellsEnd schema base old job outcome new
as_told schema base old job new outcome its same tells = subst (λ (o : JobOutcome). TellsEnd schema base old job o new) same tells

-- no answer changes whose the token is
pub job_stays_own : {J : Type 0} (schema : Schema) (base : Base) (old : TokenValue) (new : NewChunkValue) (after : TokenValue) (answer : Result FrontValue (InstallFault J)) → ReshapeAnswers {J = J} schema base old new answer after
    → (after.index ≡ old.index) × (after.worker ≡ old.worker)
job_stays_own schema base old new after (Ok note) says = kept schema base old after old.made old.entered says.0
job_stays_own schema base old new after (Err faults.NoMemory) says = kept schema base old after old.made old.entered says
job_stays_own schema base old new after (Err (faults.Strayed numbers note)) says = (ap (λ (t : TokenValue). t.index) says.0, ap (λ (t : TokenValue). t.worker) says.0)
job_stays_own schema base old new after (Err (faults.Overtaken shape note)) says = kept schema base old after old.made old.entered says.0
job_stays_own schema base old new after (Err (faults.Full full)) says = kept schema base old after old.made old.entered says.0
job_stays_own schema base old new after (Err faults.DiskFault) says = kept schema base old after old.made old.entered says
job_stays_own schema base old new after (Err faults.InDoubt) says = kept schema base old after old.made after.entered says.0

module _ {J : Type 0} (schema : Schema) (base : Base) (old : TokenValue) (new : NewChunkValue) (after : TokenValue) (from : new.from ≡ last_snapshot base old.seen) where
  -- an answer with an outcome says what the outcome does
  tells_so : (answer : Result FrontValue (InstallFault J)) (outcome : JobOutcome) → ReshapeAnswers {J = J} schema base old new answer after → job_outcome_of {J = J} answer ≡ Ok outcome → TellsEnd schema base old new.job outcome after
  tells_so (Ok note) outcome says is = as_told schema base old new.job after outcome outcomes.Shaped (cc (is)) (says.0, note_of after note says.1, shaped_so base old new after from says.2)
  tells_so (Err faults.NoMemory) outcome says is = absurd (cc (is))
  tells_so (Err (faults.Strayed numbers note)) outcome says is = as_told schema base old new.job after outcome (outcomes.Strayed numbers) (cc (is)) (says.0, (note, says.1))
  tells_so (Err (faults.Overtaken shape note)) outcome says is =
      as_told schema base old new.job after outcome (outcomes.Overtaken shape) (cc (is)) (says.0, note_of after note says.1, says.2, subst (λ (s : SnapshotValue). s.shape < shape) from says.3)
  tells_so (Err (faults.Full full)) outcome says is = as_told schema base old new.job after outcome (outcomes.Full full) (cc (is)) says
  tells_so (Err faults.DiskFault) outcome says is = as_told schema base old new.job after outcome outcomes.Refused (cc (is)) says
  tells_so (Err faults.InDoubt) outcome says is = as_told schema base old new.job after outcome outcomes.InDoubt (cc (is)) (says.0, unended_so base old new after from says.1)

  -- an answer without one leaves the token with what it had seen, or more
  grown_so : (answer : Result FrontValue (InstallFault J)) (none : NoMemory) → ReshapeAnswers {J = J} schema base old new answer after → Shares (charge_of_job {J = J} answer) old after → job_outcome_of {J = J} answer ≡ Err none → Grows old after
  grown_so (Ok note) none says shares is = absurd (cc (is))
  grown_so (Err faults.NoMemory) none says shares is = grows_so schema base old after says shares
  grown_so (Err (faults.Strayed numbers note)) none says shares is = absurd (cc (is))
  grown_so (Err (faults.Overtaken shape note)) none says shares is = absurd (cc (is))
  grown_so (Err (faults.Full full)) none says shares is = absurd (cc (is))
  grown_so (Err faults.DiskFault) none says shares is = absurd (cc (is))
  grown_so (Err faults.InDoubt) none says shares is = absurd (cc (is))

-- what the token at a place has seen, by what is seen of the index
pub from_seen : (schema : ℕ → Schema) (base : ℕ → Base) (tokens : TokensValue) (place : ℕ) (own : FrontValue) (token : TokenValue) (from : SnapshotValue) → HasSeen schema base tokens place own → slice_get tokens.list place ≡ Some token
    → from ≡ documents_of base own → (own ≡ seen_by token) × (from ≡ last_snapshot (base place) token.seen)
from_seen schema base tokens place own token from has at is =
    let same : has.token ≡ token = cc (has.at, at) in
    let own_is : own ≡ seen_by token = has.is ∙ ap seen_by same in
    (own_is, is ∙ ap (λ (i : ℕ). last_snapshot (base i) own.steps) has.of ∙ ap (λ (f : FrontValue). last_snapshot (base place) f.steps) own_is)

-- the snapshot of a token is the last one of a history that it has seen
pub seen_from : (base : Base) (token : TokenValue) (from : SnapshotValue) → from ≡ last_snapshot base token.seen → HasSeenFrom base token.seen from
seen_from base token from is = record { earlier = token.seen; since = []; both = sym (append-nil token.seen); last_one = sym is }

-- the same of a token that is about to be used
pub began_so : (schema : ℕ → Schema) (base : ℕ → Base) (view old : TokensValue) (place : ℕ) (before after : TokenValue) → IsUsed view old place before after
    → (seen : (own : FrontValue) × HasSeen schema base old place own) (from : SnapshotValue) → from ≡ documents_of base seen.0 → (seen.0 ≡ seen_by before) × (from ≡ last_snapshot (base place) before.seen)
began_so schema base view old place before after used (own, has) from is =
    from_seen schema base old place own before from has (subst (λ (t : TokensValue). slice_get t.list place ≡ Some before) used.view_is used.at) is

-- what is shown of an index has rows of its columns
pub rows_of_schema : (schema : ℕ → Schema) (base : ℕ → Base) (tokens : TokensValue) (place : ℕ) (shown : SnapshotValue) → (front : FrontValue) × HasSeen schema base tokens place front × (shown ≡ documents_of base front) → AreOf (schema place) shown
rows_of_schema schema base tokens place shown (front, seen, is) =
    let here : shown ≡ last_snapshot (base place) front.steps = is ∙ ap (λ (i : ℕ). last_snapshot (base i) front.steps) seen.of in
    subst (AreOf (schema place)) (sym here) (last_of (schema place) (base place) front.steps seen.good)

-- there is something at a place within a list
pub held : {A : Type 0} (xs : List A) (k : ℕ) → k < length xs → (x : A) × (slice_get xs k ≡ Some x)
held [] k within = absurd (omega (arith, within))
held (x ∷ xs) zero within = (x, refl)
held (x ∷ xs) (suc k) within = held xs k (omega (arith, within))

-- as many tokens once they grew
pub grown_long : (old new : TokensValue) → GrowAll old new → length new.list ≡ length old.list
grown_long old new grows = long_zip old.list new.list grows.1

-- The token at a place, which had seen where the job began, was used for its end.
pub record EndsBy {J : Type 0} (schema : ℕ → Schema) (base : ℕ → Base) (view old : TokensValue) (place : ℕ) (before after : TokenValue) (new : NewChunkValue) (answer : Result FrontValue (InstallFault J)) (own : FrontValue) : Type 0 where
  pub used : IsUsed view old place before after
  pub began : own ≡ seen_by before
  pub from : new.from ≡ last_snapshot (base place) before.seen
  pub says : ReshapeAnswers {J = J} (schema place) (base place) before new answer after
  pub shares : Shares (charge_of_job {J = J} answer) before after

pub ends_by : {J : Type 0} (schema : ℕ → Schema) (base : ℕ → Base) (view old : TokensValue) (n place index : ℕ) (before after : TokenValue) (new : NewChunkValue) (answer : Result FrontValue (InstallFault J)) → view ≡ old → n ≡ length view.list → AreInOrder view
    → place < length old.list → before ≡ slice_index_or view.list place before → index ≡ place → ReshapeAnswers {J = J} (schema index) (base index) before new answer after → Shares (charge_of_job {J = J} answer) before after
    → (seen : (own : FrontValue) × HasSeen schema base old place own × (new.from ≡ documents_of base own)) → EndsBy {J = J} schema base view old place before after new answer seen.0
ends_by {J} schema base view old n place index before after new answer is long order within read here says shares (own, has, from) =
    let told = subst (λ (i : ℕ). ReshapeAnswers {J = J} (schema i) (base i) before new answer after) here says in
    let stays = job_stays_own {J = J} (schema place) (base place) before new after answer told in
    let used = is_used view old n place before after is long order within read stays.0 stays.1 in
    let began = began_so schema base view old place before after used (own, has) new.from from in
    record { used = used; began = began.0; from = began.1; says = told; shares = shares }

-- the token that is about to be used has seen where the job began
pub had_seen : (schema : ℕ → Schema) (base : ℕ → Base) (view old : TokensValue) (n place index : ℕ) (before : TokenValue) (new : NewChunkValue) → view ≡ old → n ≡ length view.list → AreInOrder view
    → place < length old.list → before ≡ slice_index_or view.list place before → index ≡ place
    → (own : FrontValue) × HasSeen schema base old place own × (new.from ≡ documents_of base own) → HasSeenFrom (base index) before.seen new.from
had_seen schema base view old n place index before new is long order within read here (own, has, from) =
    let used = is_used view old n place before before is long order within read refl refl in
    let began = began_so schema base view old place before before used (own, has) new.from from in
    subst (λ (i : ℕ). HasSeenFrom (base i) before.seen new.from) (sym here) (seen_from (base place) before new.from began.1)

module _ {J : Type 0} (schema : ℕ → Schema) (base : ℕ → Base) (view old : TokensValue) (place : ℕ) (before after : TokenValue) (new : NewChunkValue) (answer : Result FrontValue (InstallFault J)) (own : FrontValue) (by : EndsBy {J = J} schema base view old place before after new answer own) (room : HasRoom new.job new.from) where
  -- what the end of a job by one of the tokens is to the store
  pub reshapes_so : (outcome : JobOutcome) → job_outcome_of {J = J} answer ≡ Ok outcome → IsGood (schema after.index) (base after.index) after.seen
      → (had : Option Strayed) → slice_get view.told place ≡ Some had → (told : List (Option Strayed)) → told ≡ slice_set view.told place (option_or had (numbers_of_job outcome))
      → ReshapesBy schema base old place new.job outcome own (seen_by after) (record (with_token view place after) { told = told })
  reshapes_so outcome is good had kept told told_is =
      let used = by.used in
      let placed = used.order.each place before used.at in
      let index : after.index ≡ place = used.index ∙ placed.0 in record {
        before = before;
        after = after;
        at = subst (λ (t : TokensValue). slice_get t.list place ≡ Some before) used.view_is used.at;
        began = by.began;
        had = had;
        told = subst (λ (t : TokensValue). slice_get t.told place ≡ Some had) used.view_is kept;
        left = ap (λ (l : List (Option Strayed)). record (with_token view place after) { told = l }) told_is
            ∙ ap (λ (t : TokensValue). record (with_token t place after) { told = slice_set t.told place (option_or had (numbers_of_job outcome)) }) used.view_is;
        is = refl;
        of = index;
        good = subst (λ (i : ℕ). IsGood (schema i) (base i) after.seen) index good;
        tells = inl (subst (λ (s : SnapshotValue). HasRoom new.job s) by.from room, tells_so {J = J} (schema place) (base place) before new after by.from answer outcome by.says is);
        shares = subst (λ (charge : Charge). Shares charge before after) (charged_alike {J = J} answer outcome is) by.shares;
      }

  pub job_fails : (result : Result JobOutcome NoMemory) (none : NoMemory) → job_outcome_of {J = J} answer ≡ Err none → OnErr result (GrowAll old (with_token view place after))
  job_fails (Ok outcome) none is = tt
  job_fails (Err other) none is =
      let used = by.used in
      subst (λ (o : TokensValue). GrowAll o (with_token view place after)) used.view_is
      (grow_at view place before after used.at (grown_so {J = J} (schema place) (base place) before new after by.from answer none by.says by.shares is))

-- there is no room, by an answer that says so
pub full_by : (job : Job) (from : SnapshotValue) (error : Or Full) (full : Full) → error ≡ causes.Fault full → Builds job from (Err error) → Passes job from full.what full.at full.need
full_by job from error full is builds = subst (λ (e : Or Full). Builds job from (Err e)) is builds

-- a job for which there is no room ends where it began
pub no_room : (schema : ℕ → Schema) (base : ℕ → Base) (tokens : TokensValue) (place : ℕ) (job : Job) (full : Full) (own : FrontValue) (from : SnapshotValue) (had : Option Strayed) → HasSeen schema base tokens place own
    → slice_get tokens.told place ≡ Some had → from ≡ documents_of base own → Passes job from full.what full.at full.need → ReshapesBy schema base tokens place job (outcomes.Full full) own own tokens
no_room schema base tokens place job full own from had has told is passes =
    let here = from_seen schema base tokens place own has.token from has has.at is in record {
      before = has.token;
      after = has.token;
      at = has.at;
      began = has.is;
      had = had;
      told = told;
      left = sym (ap (λ (l : List TokenValue). record tokens { list = l; told = slice_set tokens.told place (option_or had None) }) (set_again tokens.list place has.token has.at)
          ∙ ap (λ (l : List (Option Strayed)). record tokens { told = l }) (ap (λ (h : Option Strayed). slice_set tokens.told place h) (or_none had) ∙ set_again tokens.told place had told));
      is = has.is;
      of = has.of;
      good = has.good;
      tells = inr (subst (λ (s : SnapshotValue). Passes job s full.what full.at full.need) here.1 passes, refl);
      shares = subst (λ (charge : Charge). Shares charge has.token has.token) (sym (free_limit job from full.what full.at full.need passes)) (shares_stay has.token);
    }
