-- What parts of the reader answer that join what was read.
use Rattle.std.specs.Prelude.{◌≡◌, ◌⊎◌, ℕ, List, [], Result, Ok, Err}
use Rattle.srch_base.specs.declared.faults.Or.{Or}
use Rattle.srch_base.specs.declared.faults.Or.TheVariants.{NoMemory, Fault}
use Rattle.token_grammar.specs.Language.{one}
use Rattle.token_grammar.specs.Reading.{ReadsPart}
use Rattle.token_grammar.specs.Values.{IsStop}
use Rattle.rank_expr.specs.declared.expr.Expr.{Expr}
use Rattle.rank_expr.specs.declared.mark.Mark.{Mark}
use Rattle.rank_expr.specs.declared.mark.Sign.{Sign}
use Rattle.rank_expr.specs.Grammar.{Is, IsText}
use Rattle.rank_expr.specs.steps.Classes.{class_of}
use Rattle.rank_expr.specs.steps.MarkAlphabet.{expr_marks}

-- what is made of a part that was read, or not
abbrev pub Makes : (Expr → Expr) → Result Expr (Or ℕ) → Result Expr (Or ℕ) → Type 0
Makes make part (Ok e) = (x : Expr) × (part ≡ Ok x) × (e ≡ make x)
Makes make part (Err error) = (error ≡ NoMemory) ⊎ (part ≡ Err error)

-- A part that was read, or not, and then a mark with the sign.
abbrev pub IsFollowed : Sign → Result Expr (Or ℕ) → List Mark → Result Expr (Or ℕ) → List Mark → Type 0
IsFollowed sign (Ok x) before result now = ReadsPart expr_marks (one (class_of sign)) [] (λ e u. (e ≡ x) × Is sign u) before result now
IsFollowed sign (Err error) before result now = result ≡ Err error

-- two parts, of which the second was read, or not
abbrev pub AreBoth : Expr → Result Expr (Or ℕ) → Result (Expr × Expr) (Or ℕ) → Type 0
AreBoth first second (Ok both) = (second ≡ Ok both.1) × (both.0 ≡ first)
AreBoth first second (Err error) = second ≡ Err error

-- what the reader of all marks answers
abbrev pub ReadsWhole : List Mark → Result Expr (Or ℕ) → Type 0
ReadsWhole marks (Ok e) = IsText e marks
ReadsWhole marks (Err NoMemory) = Unit {0}
ReadsWhole marks (Err (Fault place)) = (stop : Mark) × IsStop IsText marks stop × (place ≡ stop.at)
