-- What a token keeps of the calls that its worker left in doubt: each begins those that come later.
use Rattle.std.proofs.Common.{◌≡◌, inl, inr, ⊎_elim, ℕ, ◌+◌, ◌≤◌, ◌<◌, Bool, true, false, List, [], ◌∷◌, ◌++◌, length, Option, Some, None, refl, sym, ap, subst, ◌∙◌, arith, length-append}
use Rattle.std.specs.Prelude.{⊤, IfSome}
use Rattle.std.proofs.lemmas.Bool.{cases_lt}
use mathlib.Core.List.{IsPrefix}
use Rattle.commit_outcomes.specs.declared.outcome.CommitOutcome.{CommitOutcome}
use Rattle.commit_outcomes.specs.declared.outcome.CommitOutcome.TheVariants as outcomes
use Rattle.doc_types.specs.declared.schema.Schema.{Schema}
use Rattle.doc_types.specs.declared.transactions.TxnOp.{TxnOp}
use Rattle.ql_session.specs.Events.{Event, Commit, Reshape}
use Rattle.ql_session.specs.JobOutcome.{JobOutcome}
use Rattle.ql_session.specs.JobOutcome.TheVariants as job_outcomes
use Rattle.snap_share.specs.Answers.{Advances, Stays, seen_by}
use Rattle.step_book.specs.Fronts.{FrontValue}
use Rattle.step_book.proofs.Prefixes.{prefix_length, prefix_self, prefix_shorter, prefix_trans, prefix_whole}
use Rattle.step_history.specs.History.{Base, Step, last_snapshot}
use Rattle.step_history.specs.History as history
use Rattle.step_history.specs.declared.job.Job.{Job}
use Rattle.step_tokens.specs.Tokens.{Agrees, AreOnOneLine, LeavesInDoubt, TokenValue}
use Rattle.store_steps.specs.Answers.{Becomes}
use Rattle.engine_tables.specs.Outcomes.{HasNoRoom, Tells, TellsEnd, TellsJob}
use Rattle.engine_tables.specs.Workers.{Grows}
use Rattle.line_workers.specs.Doubts.{IsWanted, is_doubtful, is_doubtful_job}

-- ---- beginnings of one history
-- of two on one line the one that isn't longer begins the other
line_shorter : (xs ys : List Step) → AreOnOneLine xs ys → length xs ≤ length ys → IsPrefix xs ys
line_shorter xs ys (inl begins) less = begins
line_shorter xs ys (inr begins) less = subst (λ (zs : List Step). IsPrefix zs ys) (prefix_whole ys xs begins less) (prefix_self ys)

-- what begins something on one line with a history is on one line with it
pub line_within : (xs ys history : List Step) → IsPrefix xs ys → AreOnOneLine ys history → AreOnOneLine xs history
line_within xs ys history begins (inl on) = inl (prefix_trans xs ys history begins on)
line_within xs ys history begins (inr on) =
    ⊎_elim
    (λ (less : length xs < length history). inl (prefix_shorter xs history ys begins on (omega (arith, less))))
    (λ (more : length history ≤ length xs). inr (prefix_shorter history xs ys on begins more))
    (cases_lt (length xs) (length history))

-- ---- what a token keeps
-- The steps that it left in doubt are at most one more than those that it has seen.
abbrev pub IsShort : TokenValue → Type 0
IsShort token = IfSome token.entered (λ steps. length steps ≤ length token.seen + 1)

-- what was left in doubt begins what is left so later
abbrev pub GoesOn : Option (List Step) → Option (List Step) → Type 0
GoesOn None later = ⊤
GoesOn (Some steps) later = (more : List Step) × (later ≡ Some more) × IsPrefix steps more

-- The token goes on with what it left in doubt.
pub record Keeps (old new : TokenValue) : Type 0 where
  pub goes : GoesOn old.entered new.entered
  pub short : IsShort new
  pub own : new.worker ≡ old.worker

goes_then : (a b c : Option (List Step)) → GoesOn a b → GoesOn b c → GoesOn a c
goes_then None b c one two = tt
goes_then (Some steps) b c one two =
    let later = subst (λ (o : Option (List Step)). GoesOn o c) one.1 two in
    (later.0, later.1, prefix_trans steps one.0 later.0 one.2 later.2)

goes_still : (a b : Option (List Step)) → b ≡ a → GoesOn a b
goes_still None b same = tt
goes_still (Some steps) b same = (steps, same, prefix_self steps)

pub goes_from : (a b : Option (List Step)) (steps : List Step) → a ≡ Some steps → GoesOn a b → GoesOn (Some steps) b
goes_from a b steps is goes = subst (λ (o : Option (List Step)). GoesOn o b) is goes

pub keeps_then : (a b c : TokenValue) → Keeps a b → Keeps b c → Keeps a c
keeps_then a b c one two = record { goes = goes_then a.entered b.entered c.entered one.goes two.goes; short = two.short; own = two.own ∙ one.own }

short_up : (entered : Option (List Step)) (seen more : List Step) → IsPrefix seen more → IfSome entered (λ steps. length steps ≤ length seen + 1) → IfSome entered (λ steps. length steps ≤ length more + 1)
short_up None seen more begins short = tt
short_up (Some steps) seen more begins short = omega (arith, prefix_length seen more begins, short)

-- nothing more is left in doubt
pub keeps_still : (old new : TokenValue) → new.entered ≡ old.entered → IsPrefix old.seen new.seen → new.worker ≡ old.worker → IsShort old → Keeps old new
keeps_still old new same seen worker short = record {
  goes = goes_still old.entered new.entered same;
  short = subst (λ (e : Option (List Step)). IfSome e (λ steps. length steps ≤ length new.seen + 1)) (sym same) (short_up old.entered old.seen new.seen seen short);
  own = worker;
}

goes_longer : (entered : Option (List Step)) (seen steps : List Step) (new : Option (List Step)) → new ≡ Some steps → length seen + 1 ≤ length steps → IfSome entered (λ earlier. length earlier ≤ length seen + 1)
    → Agrees entered steps → GoesOn entered new
goes_longer None seen steps new is long short line = tt
goes_longer (Some earlier) seen steps new is long short line = (steps, is, line_shorter earlier steps line (omega (arith, short, long)))

one_longer : (seen : List Step) (step : Step) → length (seen ++ step ∷ []) ≡ length seen + 1
one_longer seen step = length-append seen (step ∷ [])

-- a step behind what it has seen then is left in doubt
keeps_more : (old new : TokenValue) (step : Step) → LeavesInDoubt old new (new.seen ++ step ∷ []) → IsPrefix old.seen new.seen → new.worker ≡ old.worker → IsShort old → Keeps old new
keeps_more old new step leaves seen worker short =
    let size = one_longer new.seen step in
    record {
      goes = goes_longer old.entered old.seen (new.seen ++ step ∷ []) new.entered leaves.entered (omega (arith, prefix_length old.seen new.seen seen, size)) short leaves.before;
      short = subst (λ (e : Option (List Step)). IfSome e (λ steps. length steps ≤ length new.seen + 1)) (sym leaves.entered) (omega (arith, size));
      own = worker;
    }

-- what the event of a worker of this number left in doubt is what the token keeps
abbrev pub Left : Base → ℕ → Event FrontValue → TokenValue → Type 0
Left base worker event new = (wanted : List Step) × (new.entered ≡ Some wanted) × IsWanted base worker new.made event wanted

-- What a call does to the token: it goes on with what it left in doubt, and has left this so, where it is in doubt.
pub record Does (base : Base) (old : TokenValue) (event : Event FrontValue) (doubtful : Bool) (new : TokenValue) : Type 0 where
  pub keeps : IsShort old → Keeps old new
  pub left : doubtful ≡ true → Left base old.worker event new

-- ---- calls that leave nothing
none_advanced : (schema : Schema) (base at : Base) (old new : TokenValue) (event : Event FrontValue) (made : ℕ) → Advances schema base old new made old.entered → Does at old event false new
none_advanced schema base at old new event made advances = record {
  keeps = keeps_still old new (ap (λ (t : TokenValue). t.entered) advances.is) advances.seen (ap (λ (t : TokenValue). t.worker) advances.is);
  left = λ is. absurd (cc is);
}

none_stayed : (base : Base) (old new : TokenValue) (event : Event FrontValue) → Stays old new → Does base old event false new
none_stayed base old new event stays = record {
  keeps = keeps_still old new (ap (λ (t : TokenValue). t.entered) stays) (subst (IsPrefix old.seen) (sym (ap (λ (t : TokenValue). t.seen) stays)) (prefix_self old.seen)) (ap (λ (t : TokenValue). t.worker) stays);
  left = λ is. absurd (cc is);
}

pub none_same : (base : Base) (old new : TokenValue) (event : Event FrontValue) → new ≡ old → Does base old event false new
none_same base old new event is = record {
  keeps = keeps_still old new (ap (λ (t : TokenValue). t.entered) is) (subst (IsPrefix old.seen) (sym (ap (λ (t : TokenValue). t.seen) is)) (prefix_self old.seen)) (ap (λ (t : TokenValue). t.worker) is);
  left = λ is. absurd (cc is);
}

pub grown_keeps : (old new : TokenValue) → Grows old new → IsShort old → Keeps old new
grown_keeps old new grows = keeps_still old new (ap (λ (t : TokenValue). t.entered) grows.is) grows.seen (ap (λ (t : TokenValue). t.worker) grows.is)

-- ---- what an outcome does
pub commit_does : (schema : Schema) (base : Base) (place : ℕ) (old new : TokenValue) (ops : List TxnOp) (outcome : CommitOutcome) → Tells schema base old ops outcome new
    → Does base old (Commit place ops outcome (seen_by new)) (is_doubtful outcome) new
commit_does schema base place old new ops (outcomes.Committed removed) tells = none_advanced schema base base old new (Commit place ops (outcomes.Committed removed) (seen_by new)) (old.made + 1) tells.0
commit_does schema base place old new ops (outcomes.Duplicate id) tells = none_advanced schema base base old new (Commit place ops (outcomes.Duplicate id) (seen_by new)) old.made tells.0
commit_does schema base place old new ops (outcomes.Full full) tells = none_advanced schema base base old new (Commit place ops (outcomes.Full full) (seen_by new)) old.made tells.0
commit_does schema base place old new ops outcomes.Refused tells = none_advanced schema base base old new (Commit place ops outcomes.Refused (seen_by new)) old.made tells
commit_does schema base place old new ops (outcomes.InDoubt doubt) tells =
    let worker : new.worker ≡ old.worker = ap (λ (t : TokenValue). t.worker) tells.0.is in
    record {
      keeps = keeps_more old new (history.Commit tells.1.entry tells.1.snapshot) tells.1.leaves tells.0.seen worker;
      left = λ is. (
        _,
        tells.1.leaves.entered,
        (tells.1.entry, tells.1.snapshot, tells.1.removed, subst (λ (w : ℕ). Becomes base new.seen w ops tells.1.entry tells.1.snapshot tells.1.removed) worker tells.1.becomes, tells.1.seq, refl),
      );
    }
commit_does schema base place old new ops (outcomes.Strayed numbers) tells = none_stayed base old new (Commit place ops (outcomes.Strayed numbers) (seen_by new)) tells.0

end_does : (schema : Schema) (base : Base) (place : ℕ) (old new : TokenValue) (job : Job) (outcome : JobOutcome) → TellsEnd schema base old job outcome new
    → Does base old (Reshape place job outcome (seen_by old) (seen_by new)) (is_doubtful_job outcome) new
end_does schema base place old new job job_outcomes.Shaped tells = none_advanced schema base base old new (Reshape place job job_outcomes.Shaped (seen_by old) (seen_by new)) old.made tells.0
end_does schema base place old new job (job_outcomes.Overtaken shape) tells = none_advanced schema base base old new (Reshape place job (job_outcomes.Overtaken shape) (seen_by old) (seen_by new)) old.made tells.0
end_does schema base place old new job (job_outcomes.Full full) tells = none_advanced schema base base old new (Reshape place job (job_outcomes.Full full) (seen_by old) (seen_by new)) old.made tells.0
end_does schema base place old new job job_outcomes.Refused tells = none_advanced schema base base old new (Reshape place job job_outcomes.Refused (seen_by old) (seen_by new)) old.made tells
end_does schema base place old new job job_outcomes.InDoubt tells = record {
  keeps = keeps_more old new (history.Reshape job (last_snapshot base old.seen).number tells.1.snapshot) tells.1.leaves tells.0.seen (ap (λ (t : TokenValue). t.worker) tells.0.is);
  left = λ is. (_, tells.1.leaves.entered, (tells.1.snapshot, refl));
}
end_does schema base place old new job (job_outcomes.Strayed numbers) tells = none_stayed base old new (Reshape place job (job_outcomes.Strayed numbers) (seen_by old) (seen_by new)) tells.0

no_room_does : (base : Base) (place : ℕ) (old new : TokenValue) (job : Job) (outcome : JobOutcome) → HasNoRoom base old job outcome new
    → Does base old (Reshape place job outcome (seen_by old) (seen_by new)) (is_doubtful_job outcome) new
no_room_does base place old new job job_outcomes.Shaped none = absurd none
no_room_does base place old new job (job_outcomes.Overtaken shape) none = absurd none
no_room_does base place old new job (job_outcomes.Full full) none = none_same base old new (Reshape place job (job_outcomes.Full full) (seen_by old) (seen_by new)) none.1
no_room_does base place old new job job_outcomes.Refused none = absurd none
no_room_does base place old new job job_outcomes.InDoubt none = absurd none
no_room_does base place old new job (job_outcomes.Strayed numbers) none = absurd none

pub job_does : (schema : Schema) (base : Base) (place : ℕ) (old new : TokenValue) (job : Job) (outcome : JobOutcome) → TellsJob schema base old job outcome new
    → Does base old (Reshape place job outcome (seen_by old) (seen_by new)) (is_doubtful_job outcome) new
job_does schema base place old new job outcome (inl tells) = end_does schema base place old new job outcome tells.1
job_does schema base place old new job outcome (inr none) = no_room_does base place old new job outcome none

-- the same with the worker and the number that these are
pub wanted_as : (base : Base) (worker own number count : ℕ) (event : Event FrontValue) (wanted : List Step) → own ≡ worker → count ≡ number → IsWanted base own count event wanted → IsWanted base worker number event wanted
wanted_as base worker own number count event wanted same many is = subst (λ (n : ℕ). IsWanted base worker n event wanted) many (subst (λ (w : ℕ). IsWanted base w count event wanted) same is)
