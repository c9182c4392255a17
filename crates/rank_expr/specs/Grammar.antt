-- The grammar of ranking expressions, with its values. What stands in parentheses, in calls and behind a sign is said with a bound
-- on the nesting.
use Rattle.std.specs.Prelude.{◌≡◌, ◌⊎◌, ℕ, zero, suc, List, [], ◌∷◌, Bool, true, false, Option, Some, None, pos}
use Rattle.token_grammar.specs.Values.{◌then◌, IsOne, IsGiven, AreInRow}
use Rattle.rank_expr.specs.declared.expr.Expr.{Expr}
use Rattle.rank_expr.specs.declared.expr.Expr.TheVariants as exprs
use Rattle.rank_expr.specs.declared.expr.PairOp.{PairOp}
use Rattle.rank_expr.specs.declared.expr.PairOp.TheVariants as ops
use Rattle.rank_expr.specs.declared.mark.Leaf.{Leaf}
use Rattle.rank_expr.specs.declared.mark.Leaf.TheVariants as leaves
use Rattle.rank_expr.specs.declared.mark.Mark.{Mark}
use Rattle.rank_expr.specs.declared.mark.Sign.{Sign}
use Rattle.rank_expr.specs.declared.mark.Sign.TheVariants as signs
use Rattle.rank_expr.specs.declared.mark.Single.{Single}
use Rattle.rank_expr.specs.declared.mark.Single.TheVariants as singles

-- one mark with this sign
abbrev pub Is : Sign → List Mark → Type 0
Is sign = IsOne (λ m. m.sign ≡ sign)

abbrev pub leaf_expr : Leaf → Expr
leaf_expr (leaves.Number value) = exprs.Number (pos value)
leaf_expr (leaves.Field factor) = exprs.Field factor
leaf_expr (leaves.Document factor) = exprs.Document factor
leaf_expr (leaves.Attr attr) = exprs.Attr attr

-- a number, a factor or an attribute
abbrev pub IsLeaf : Expr → List Mark → Type 0
IsLeaf e u = (leaf : Leaf) × (e ≡ leaf_expr leaf) × Is (signs.Leaf leaf) u

-- `*`, from the left
abbrev pub multiplied : Expr → List Expr → Expr
multiplied first [] = first
multiplied first (next ∷ rest) = multiplied (exprs.Pair ops.Multiply first next) rest

abbrev pub IsProduct : (Expr → List Mark → Type 0) → Expr → List Mark → Type 0
IsProduct IsOperand e u =
    (first : Expr) × (rest : List Expr) × (e ≡ multiplied first rest) × (IsOperand first then AreInRow (λ next. Is signs.Star then IsOperand next) rest) u

-- `+`, where the flag is true, and `-`, from the left
abbrev pub IsAdding : Bool → List Mark → Type 0
IsAdding true = Is signs.Plus
IsAdding false = Is signs.Minus

abbrev pub added : Expr → List (Bool × Expr) → Expr
added first [] = first
added first ((true, next) ∷ rest) = added (exprs.Pair ops.Add first next) rest
added first ((false, next) ∷ rest) = added (exprs.Pair ops.Subtract first next) rest

abbrev pub IsTotal : (Expr → List Mark → Type 0) → Expr → List Mark → Type 0
IsTotal IsOperand e u =
    (first : Expr) × (rest : List (Bool × Expr)) × (e ≡ added first rest)
    × (IsProduct IsOperand first then AreInRow (λ next. IsAdding next.0 then IsProduct IsOperand next.1) rest) u

-- one comparison, or none
abbrev pub compared : Expr → Option (PairOp × Expr) → Expr
compared first None = first
compared first (Some (op, next)) = exprs.Pair op first next

abbrev pub IsExpr : (Expr → List Mark → Type 0) → Expr → List Mark → Type 0
IsExpr IsOperand e u =
    (first : Expr) × (rest : Option (PairOp × Expr)) × (e ≡ compared first rest)
    × (IsTotal IsOperand first then IsGiven (λ next. Is (signs.Compare next.0) then IsTotal IsOperand next.1) rest) u

-- a sign, and what it stands before
abbrev pub IsNegative : (Expr → List Mark → Type 0) → Expr → List Mark → Type 0
IsNegative IsOperand e u = (a : Expr) × (e ≡ exprs.Negative a) × (Is signs.Minus then IsOperand a) u

-- parentheses stand for what is in them
abbrev pub IsGroup : (Expr → List Mark → Type 0) → Expr → List Mark → Type 0
IsGroup IsOperand e = Is signs.Open then IsExpr IsOperand e then Is signs.Close

abbrev pub single : Single → Expr → Expr
single singles.Sum a = exprs.Sum a
single singles.Abs a = exprs.Abs a

-- calls of one expression, of two, and of three
abbrev pub IsSingle : (Expr → List Mark → Type 0) → Expr → List Mark → Type 0
IsSingle IsOperand e u =
    (call : Single) × (a : Expr) × (e ≡ single call a) × (Is (signs.Single call) then IsExpr IsOperand a then Is signs.Close) u

abbrev pub IsDouble : (Expr → List Mark → Type 0) → Expr → List Mark → Type 0
IsDouble IsOperand e u =
    (op : PairOp) × (a : Expr) × (b : Expr) × (e ≡ exprs.Pair op a b)
    × (Is (signs.Double op) then IsExpr IsOperand a then Is signs.Comma then IsExpr IsOperand b then Is signs.Close) u

abbrev pub IsTriple : (Expr → List Mark → Type 0) → Expr → List Mark → Type 0
IsTriple IsOperand e u =
    (a : Expr) × (b : Expr) × (c : Expr) × (e ≡ exprs.If a b c)
    × (Is signs.Triple then IsExpr IsOperand a then Is signs.Comma then IsExpr IsOperand b then Is signs.Comma then IsExpr IsOperand c then Is signs.Close) u

abbrev pub IsNested : (Expr → List Mark → Type 0) → Expr → List Mark → Type 0
IsNested IsOperand e u = IsNegative IsOperand e u ⊎ IsGroup IsOperand e u ⊎ IsSingle IsOperand e u ⊎ IsDouble IsOperand e u ⊎ IsTriple IsOperand e u

-- with parentheses, calls and signs nested so deep at most
unfoldable pub IsOperand : ℕ → Expr → List Mark → Type 0
IsOperand zero e u = IsLeaf e u
IsOperand (suc depth) e u = IsLeaf e u ⊎ IsNested (IsOperand depth) e u

-- a whole text
abbrev pub IsText : Expr → List Mark → Type 0
IsText e = IsExpr (IsOperand 32) e then Is signs.End
