-- Tellings: what all tokens of an index are told at the end.
use Rattle.std.specs.Prelude.{◌≡◌, ◌⊎◌, ℕ, ◌<◌, ◌≤◌, List, [], ◌∷◌, Option, Some, None, Result, Ok, Err}
use Rattle.std.specs.List.{AllZip}
use Rattle.std.specs.Option.{option_or}
use mathlib.Core.List.{IsPrefix}
use Rattle.srch_base.specs.declared.faults.Or.{Or}
use Rattle.srch_base.specs.declared.faults.Or.TheVariants as causes
use Rattle.commit_outcomes.specs.declared.strayed.Strayed.{Strayed}
use Rattle.step_book.specs.Fronts.{FrontValue}
use Rattle.step_history.specs.History.{Base}
use Rattle.step_line.specs.Lines.{LineValue, kept_by}
use Rattle.step_tokens.specs.Tokens.{IsSameBut, TokenValue}
use Rattle.store_steps.specs.Refusals.{stray_of}
use Rattle.store_keep.specs.Commits.{front_of}

-- the tokens are of the index
abbrev pub AreOfIndex : ℕ → List TokenValue → Type 0
AreOfIndex index [] = Unit {0}
AreOfIndex index (token ∷ tokens) = (token.index ≡ index) × AreOfIndex index tokens

-- they are of the line's index, and of its workers
abbrev pub AreTokensOf : LineValue → List TokenValue → Type 0
AreTokensOf line [] = Unit {0}
AreTokensOf line (token ∷ tokens) = (token.index ≡ line.index) × (0 < token.worker) × (token.worker ≤ line.workers) × AreTokensOf line tokens

-- the numbers of the first token that contradicts the keeper, if one does
abbrev pub first_stray : Base → LineValue → List TokenValue → Option Strayed
first_stray base line [] = None
first_stray base line (token ∷ tokens) = option_or (stray_of base line token) (first_stray base line tokens)

-- The token learnt the history of a note.
pub record IsTold (note : FrontValue) (old new : TokenValue) : Type 0 where
  pub one : (new.seen ≡ old.seen) ⊎ (new.seen ≡ note.steps)
  pub before : IsPrefix old.seen new.seen
  pub told : IsPrefix note.steps new.seen
  pub same : IsSameBut old new

-- The token has seen exactly the history of the line, which begins with all that it had seen, and counts its worker's commits as the
-- keeper does, the one that waits included.
pub record HasSeenAll (line : LineValue) (old new : TokenValue) : Type 0 where
  pub is : new ≡ record old { seen = line.history }
  pub before : IsPrefix old.seen line.history
  pub counts : old.made ≡ kept_by old.worker line

-- what telling all tokens the whole history says and leaves, where this contradiction was answered before
abbrev pub TellsAll : Base → LineValue → Option Strayed → List TokenValue → Result FrontValue (Or Strayed) → List TokenValue → Type 0
TellsAll base line held old (Ok note) new = (held ≡ None) × (first_stray base line old ≡ None) × (note ≡ front_of line) × AllZip (HasSeenAll line) old new
TellsAll base line held old (Err (causes.Fault strayed)) new = (option_or held (first_stray base line old) ≡ Some strayed) × (new ≡ old)
TellsAll base line held old (Err causes.NoMemory) new = ⊥
