-- The classes by which the grammar names marks.
use Rattle.std.specs.Prelude.{◌≡◌, ℕ, List, [], ◌∷◌, Bool, true, false, ◌==◌}
use Rattle.rank_expr.specs.declared.mark.Mark.{Mark}
use Rattle.rank_expr.specs.declared.mark.Sign.{Sign}
use Rattle.rank_expr.specs.declared.mark.Sign.TheVariants as signs
use Rattle.rank_expr.specs.declared.class.Class.{Class}
use Rattle.rank_expr.specs.declared.class.Class.TheVariants as classes

abbrev pub class_of : Sign → Class
class_of (signs.Leaf leaf) = classes.Leaf
class_of signs.TooLarge = classes.Unfit
class_of signs.Unknown = classes.Unfit
class_of signs.Misplaced = classes.Unfit
class_of signs.Open = classes.Open
class_of signs.Close = classes.Close
class_of signs.Comma = classes.Comma
class_of (signs.Single call) = classes.Single
class_of (signs.Double op) = classes.Double
class_of signs.Triple = classes.Triple
class_of signs.Plus = classes.Plus
class_of signs.Minus = classes.Minus
class_of signs.Star = classes.Star
class_of (signs.Compare op) = classes.Compare
class_of signs.Division = classes.Unfit
class_of signs.Other = classes.Unfit
class_of signs.End = classes.End

-- a number for each, by which they are told apart
abbrev pub class_number : Class → ℕ
class_number classes.Leaf = 0
class_number classes.Open = 1
class_number classes.Close = 2
class_number classes.Comma = 3
class_number classes.Single = 4
class_number classes.Double = 5
class_number classes.Triple = 6
class_number classes.Plus = 7
class_number classes.Minus = 8
class_number classes.Star = 9
class_number classes.Compare = 10
class_number classes.Unfit = 11
class_number classes.End = 12

abbrev pub same_class : Class → Class → Bool
same_class c d = class_number c == class_number d

-- the mark is of the class
abbrev pub fits : Class → Mark → Bool
fits c m = same_class c (class_of m.sign)

-- the sign is the end
abbrev pub is_end : Sign → Bool
is_end signs.End = true
is_end _ = false

-- the next mark has the sign
pub record IsNextSign (sign : Sign) (marks : List Mark) : Type 0 where
  pub next : Mark
  pub rest : List Mark
  pub is : marks ≡ next ∷ rest
  pub sign_is : next.sign ≡ sign

-- the end is next, and nothing behind it
pub record IsAtEnd (marks : List Mark) : Type 0 where
  pub next : Mark
  pub is : marks ≡ next ∷ []
  pub sign_is : next.sign ≡ signs.End

-- another sign is next
pub record IsBeforeEnd (marks : List Mark) : Type 0 where
  pub next : Mark
  pub rest : List Mark
  pub is : marks ≡ next ∷ rest
  pub no_end : is_end next.sign ≡ false
