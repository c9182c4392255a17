-- The same operations over the same documents have one outcome, and leave the same documents: each outcome says what their
-- verdict is, and whether the documents are too many then.
use Rattle.std.proofs.Common.{◌≡◌, ◌<◌, ◌≤◌, ◌+◌, ℕ, List, refl, sym, ap, subst, ◌∙◌, arith}
use Rattle.std.specs.FinMap as finite
use Rattle.std.specs.List.{fold}
use Rattle.doc_types.specs.declared.transactions.TxnOp.{TxnOp}
use Rattle.doc_types.specs.Commits.{Change, Verdict, after_change, verdict}
use Rattle.doc_types.specs.Commits as verdicts
use Rattle.doc_types.specs.Rows.{Rows}
use Rattle.doc_types.specs.Snapshots.{SnapshotValue, live}
use Rattle.commit_outcomes.specs.declared.outcome.Full.{Full}
use Rattle.commit_outcomes.specs.declared.outcome.CommitOutcome.{CommitOutcome}
use Rattle.commit_outcomes.specs.declared.outcome.CommitOutcome.TheVariants as outcomes
use Rattle.commit_outcomes.specs.Outcomes.{Accepts, IsFull, Leaves, SameRows, changed}
use Rattle.commit_outcomes.specs.declared.outcome.TheConstants.{MAX_DOCUMENTS}

-- the same changes make the same of the same documents
same_changed : (old other : SnapshotValue) (changes its : List Change) → SameRows old other → changes ≡ its → changed old changes ≡ changed other its
same_changed old other changes its same is =
    ap (λ (n : ℕ). fold (after_change (n + 1)) (live old) changes) same.number
    ∙ ap (λ (rows : Rows). fold (after_change (other.number + 1)) rows changes) same.rows
    ∙ ap (changed other) is

-- two verdicts of the same operations over the same documents
same_verdict : (ops : List TxnOp) (old other : SnapshotValue) (a b : Verdict) → SameRows old other → verdict ops (live old) ≡ a → verdict ops (live other) ≡ b → a ≡ b
same_verdict ops old other a b same is is' = sym is ∙ ap (verdict ops) same.rows ∙ is'

accepted_twice : (ops : List TxnOp) (old other : SnapshotValue) (changes its : List Change) (removed more : ℕ) → SameRows old other
    → verdict ops (live old) ≡ verdicts.Accepted changes removed → verdict ops (live other) ≡ verdicts.Accepted its more → (changes ≡ its) × (removed ≡ more)
accepted_twice ops old other changes its removed more same is is' =
    let both : verdicts.Accepted changes removed ≡ verdicts.Accepted its more = same_verdict ops old other (verdicts.Accepted changes removed) (verdicts.Accepted its more) same is is' in
    (cc, cc)

not_refused : (ops : List TxnOp) (old other : SnapshotValue) (changes : List Change) (removed id : ℕ) → SameRows old other
    → verdict ops (live old) ≡ verdicts.Accepted changes removed → verdict ops (live other) ≡ verdicts.Duplicate id → ⊥
not_refused ops old other changes removed id same is is' =
    let clash : verdicts.Accepted changes removed ≡ verdicts.Duplicate id = same_verdict ops old other (verdicts.Accepted changes removed) (verdicts.Duplicate id) same is is' in cc

not_full : (ops : List TxnOp) (old other new : SnapshotValue) (removed : ℕ) (full : Full) → SameRows old other → Accepts ops old removed new → IsFull MAX_DOCUMENTS ops other full → ⊥
not_full ops old other new removed full same accepts is =
    let changes = (accepted_twice ops old other accepts.changes is.changes removed is.removed same accepts.verdict is.verdict).0 in
    let many : finite.len (live new) ≡ finite.len (changed other is.changes) = ap finite.len (accepts.rows ∙ same_changed old other accepts.changes is.changes same changes) in
    absurd (omega (arith, accepts.few, is.above, many))

same_full : (ops : List TxnOp) (old other : SnapshotValue) (a b : Full) → SameRows old other → IsFull MAX_DOCUMENTS ops old a → IsFull MAX_DOCUMENTS ops other b → a ≡ b
same_full ops old other a b same one two =
    let changes = (accepted_twice ops old other one.changes two.changes one.removed two.removed same one.verdict two.verdict).0 in
    let before : finite.len (live old) ≡ finite.len (live other) = ap finite.len same.rows in
    let after : finite.len (changed old one.changes) ≡ finite.len (changed other two.changes) = ap finite.len (same_changed old other one.changes two.changes same changes) in
    one.says ∙ rw (before, after) refl ∙ sym two.says

left_alike : (old other new left : SnapshotValue) → new ≡ old → left ≡ other → SameRows old other → SameRows new left
left_alike old other new left is is' same =
    subst (λ (s : SnapshotValue). SameRows s left) (sym is) (subst (λ (s : SnapshotValue). SameRows old s) (sym is') same)

accepted_alike : (ops : List TxnOp) (old other new left : SnapshotValue) (removed more : ℕ) → SameRows old other → Accepts ops old removed new → Accepts ops other more left → SameRows new left
accepted_alike ops old other new left removed more same one two =
    let changes = (accepted_twice ops old other one.changes two.changes removed more same one.verdict two.verdict).0 in
    record {
      number = one.number ∙ ap (λ (n : ℕ). n + 1) same.number ∙ sym two.number;
      rows = one.rows ∙ same_changed old other one.changes two.changes same changes ∙ sym two.rows;
    }

turned : (a b : SnapshotValue) → SameRows a b → SameRows b a
turned a b same = record { number = sym same.number; rows = sym same.rows }

-- one outcome, and the same documents
pub one_outcome : (ops : List TxnOp) (old other new left : SnapshotValue) (a b : CommitOutcome) → SameRows old other → Leaves ops old a new → Leaves ops other b left → (a ≡ b) × SameRows new left
one_outcome ops old other new left (outcomes.Committed removed) (outcomes.Committed more) same one two =
    (ap outcomes.Committed (accepted_twice ops old other one.changes two.changes removed more same one.verdict two.verdict).1, accepted_alike ops old other new left removed more same one two)
one_outcome ops old other new left (outcomes.Committed removed) (outcomes.Duplicate id) same one two = absurd (not_refused ops old other one.changes removed id same one.verdict two.0)
one_outcome ops old other new left (outcomes.Committed removed) (outcomes.Full full) same one two = absurd (not_full ops old other new removed full same one two.0)
one_outcome ops old other new left (outcomes.Duplicate id) (outcomes.Committed removed) same one two = absurd (not_refused ops other old two.changes removed id (turned old other same) two.verdict one.0)
one_outcome ops old other new left (outcomes.Duplicate id) (outcomes.Duplicate its) same one two =
    let both : verdicts.Duplicate id ≡ verdicts.Duplicate its = same_verdict ops old other (verdicts.Duplicate id) (verdicts.Duplicate its) same one.0 two.0 in
    (cc, left_alike old other new left one.1 two.1 same)
one_outcome ops old other new left (outcomes.Duplicate id) (outcomes.Full full) same one two = absurd (not_refused ops other old two.0.changes two.0.removed id (turned old other same) two.0.verdict one.0)
one_outcome ops old other new left (outcomes.Full full) (outcomes.Committed removed) same one two = absurd (not_full ops other old left removed full (turned old other same) two one.0)
one_outcome ops old other new left (outcomes.Full full) (outcomes.Duplicate id) same one two = absurd (not_refused ops old other one.0.changes one.0.removed id same one.0.verdict two.0)
one_outcome ops old other new left (outcomes.Full full) (outcomes.Full its) same one two =
    (ap outcomes.Full (same_full ops old other full its same one.0 two.0), left_alike old other new left one.1 two.1 same)
one_outcome ops old other new left (outcomes.Committed removed) outcomes.Refused same one two = absurd two
one_outcome ops old other new left (outcomes.Committed removed) (outcomes.InDoubt doubt) same one two = absurd two
one_outcome ops old other new left (outcomes.Committed removed) (outcomes.Strayed numbers) same one two = absurd two
one_outcome ops old other new left (outcomes.Duplicate id) outcomes.Refused same one two = absurd two
one_outcome ops old other new left (outcomes.Duplicate id) (outcomes.InDoubt doubt) same one two = absurd two
one_outcome ops old other new left (outcomes.Duplicate id) (outcomes.Strayed numbers) same one two = absurd two
one_outcome ops old other new left (outcomes.Full full) outcomes.Refused same one two = absurd two
one_outcome ops old other new left (outcomes.Full full) (outcomes.InDoubt doubt) same one two = absurd two
one_outcome ops old other new left (outcomes.Full full) (outcomes.Strayed numbers) same one two = absurd two
one_outcome ops old other new left outcomes.Refused b same one two = absurd one
one_outcome ops old other new left (outcomes.InDoubt doubt) b same one two = absurd one
one_outcome ops old other new left (outcomes.Strayed numbers) b same one two = absurd one
