-- What the reader of a text answers: its value, where the text is in the grammar, and else its first fault.
use Rattle.std.specs.Prelude.{◌≡◌, ◌⊎◌, ◌≤◌, ◌<◌, ℕ, List, [], Result, Ok, Err, if◌then◌else◌, length, take, drop}
use Rattle.std.specs.List.{prefix_len}
use Rattle.std.specs.Str.{str_to_ascii_lowercase}
use Rattle.srch_base.specs.declared.faults.Or.{Or}
use Rattle.srch_base.specs.declared.faults.Or.TheVariants.{NoMemory, Fault}
use Rattle.doc_types.specs.declared.schema.Schema.{Schema}
use Rattle.token_grammar.specs.Values.{IsStop}
use Rattle.rank_expr.specs.declared.expr.RankExpr.{RankExpr}
use Rattle.rank_expr.specs.declared.fault.ExprFault.{ExprFault}
use Rattle.rank_expr.specs.declared.fault.ExprKind.{ExprKind}
use Rattle.rank_expr.specs.declared.fault.ExprKind.TheVariants as kinds
use Rattle.rank_expr.specs.declared.fault.TheConstants.{MAX_TEXT, MAX_NAME}
use Rattle.rank_expr.specs.declared.mark.Mark.{Mark}
use Rattle.rank_expr.specs.declared.mark.Sign.{Sign}
use Rattle.rank_expr.specs.declared.mark.Sign.TheVariants as signs
use Rattle.rank_expr.specs.Pieces.{is_name_byte}
use Rattle.rank_expr.specs.Marks.{marks_of}
use Rattle.rank_expr.specs.Grammar.{IsText}

-- why a piece doesn't stand where an expression is due; what may begin one is too deep
abbrev pub kind_due : Sign → ExprKind
kind_due signs.TooLarge = kinds.Number
kind_due signs.Unknown = kinds.Factor
kind_due signs.Misplaced = kinds.Scope
kind_due signs.Open = kinds.Nesting
kind_due (signs.Single call) = kinds.Nesting
kind_due (signs.Double op) = kinds.Nesting
kind_due signs.Triple = kinds.Nesting
kind_due signs.Minus = kinds.Nesting
kind_due signs.Division = kinds.Division
kind_due _ = kinds.Syntax

-- and why one doesn't where an operator may stand
abbrev pub kind_else : Sign → ExprKind
kind_else signs.Division = kinds.Division
kind_else _ = kinds.Syntax

abbrev pub kind_of : Mark → ExprKind
kind_of m = if m.due then kind_due m.sign else kind_else m.sign

-- the name that begins at the place, its first 64 bytes at most
abbrev pub name_at : List ℕ → ℕ → List ℕ
name_at text place = take MAX_NAME (take (prefix_len is_name_byte (drop place text)) (drop place text))

-- is told with the two kinds that are about a name, in small letters
abbrev pub told_name : ExprKind → List ℕ → List ℕ
told_name kinds.Factor name = str_to_ascii_lowercase name
told_name kinds.Scope name = str_to_ascii_lowercase name
told_name _ name = []

abbrev pub fault_of : List ℕ → Mark → ExprFault
fault_of text stop = record { place = stop.at; kind = kind_of stop; name = told_name (kind_of stop) (name_at text stop.at) }

abbrev pub too_long : ExprFault
too_long = record { place = MAX_TEXT; kind = kinds.Long; name = [] }

-- A text that is too long has no other fault. In others it is where reading stops: at the first mark with which no expression goes on.
abbrev pub IsRefused : Schema → List ℕ → ExprFault → Type 0
IsRefused schema text fault =
    ((MAX_TEXT < length text) × (fault ≡ too_long))
    ⊎ ((length text ≤ MAX_TEXT) × (stop : Mark) × IsStop IsText (marks_of schema text) stop × (fault ≡ fault_of text stop))

abbrev pub IsValue : Schema → List ℕ → RankExpr → Type 0
IsValue schema text expr = (length text ≤ MAX_TEXT) × IsText expr.root (marks_of schema text)

-- without memory nothing is said
abbrev pub ReadsExpr : Schema → List ℕ → Result RankExpr (Or ExprFault) → Type 0
ReadsExpr schema text (Ok expr) = IsValue schema text expr
ReadsExpr schema text (Err NoMemory) = Unit {0}
ReadsExpr schema text (Err (Fault fault)) = IsRefused schema text fault
