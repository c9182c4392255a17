-- The classes by which the grammar names marks.
use Rattle.std.specs.Prelude.{◌≡◌, ℕ, List, [], ◌∷◌, Bool, true, false, ◌==◌, ◌&&◌, not}
use Rattle.query_marks.specs.declared.mark.Mark.{Mark}
use Rattle.query_marks.specs.declared.mark.Sign.{Sign}
use Rattle.query_marks.specs.declared.mark.Sign.TheVariants as signs
use Rattle.query_grammar.specs.declared.class.Class.{Class}
use Rattle.query_grammar.specs.declared.class.Class.TheVariants as classes

abbrev pub class_of : Sign → Class
class_of (signs.Bare key) = classes.Leaf
class_of (signs.Phrase keys) = classes.Leaf
class_of (signs.Loose keys how) = classes.Loose
class_of signs.Open = classes.Open
class_of signs.Close = classes.Close
class_of signs.Or = classes.Or
class_of signs.Before = classes.Before
class_of signs.Not = classes.Not
class_of signs.Maybe = classes.Maybe
class_of signs.Sentence = classes.Sentence
class_of signs.Paragraph = classes.Paragraph
class_of (signs.Near n) = classes.Near
class_of signs.Limits = classes.Limit
class_of (signs.Spans zones) = classes.Limit
class_of signs.Relaxed = classes.Relaxed
class_of signs.Unclosed = classes.Unclosed
class_of signs.End = classes.End

-- a number for each, by which they are told apart
abbrev pub class_number : Class → ℕ
class_number classes.Leaf = 0
class_number classes.Loose = 1
class_number classes.Open = 2
class_number classes.Close = 3
class_number classes.Or = 4
class_number classes.Before = 5
class_number classes.Not = 6
class_number classes.Maybe = 7
class_number classes.Sentence = 8
class_number classes.Paragraph = 9
class_number classes.Near = 10
class_number classes.Limit = 11
class_number classes.Relaxed = 12
class_number classes.Unclosed = 13
class_number classes.End = 14

abbrev pub same_class : Class → Class → Bool
same_class c d = class_number c == class_number d

-- the mark is of the class
abbrev pub fits : Class → Mark → Bool
fits c m = same_class c (class_of m.sign)

-- the last of the marks, and none before it, is the end
abbrev pub is_ended : List Mark → Bool
is_ended [] = false
is_ended (m ∷ []) = fits classes.End m
is_ended (m ∷ n ∷ marks) = not (fits classes.End m) && is_ended (n ∷ marks)

-- the class of the next mark; after the last there is nothing but the end
abbrev pub next_class : List Mark → Class
next_class [] = classes.End
next_class (m ∷ marks) = class_of m.sign

-- the next mark is of the class
pub record IsNextClass (class : Class) (marks : List Mark) : Type 0 where
  pub next : Mark
  pub rest : List Mark
  pub is : marks ≡ next ∷ rest
  pub class_is : class_of next.sign ≡ class

-- the next mark has the sign
pub record IsNextSign (sign : Sign) (marks : List Mark) : Type 0 where
  pub next : Mark
  pub rest : List Mark
  pub is : marks ≡ next ∷ rest
  pub sign_is : next.sign ≡ sign

-- an item begins with a mark of the class
abbrev pub begins_item : Class → Bool
begins_item classes.Leaf = true
begins_item classes.Loose = true
begins_item classes.Open = true
begins_item classes.Not = true
begins_item _ = false
