-- The grammar of ranking expressions over classes of marks, one for each depth of nesting; and the classes with which a part may go on.
use Rattle.std.specs.Prelude.{ℕ, zero, suc, List, [], ◌∷◌}
use Rattle.token_grammar.specs.Language.{Re, one, many, optional, ◌⨾◌, ◌∣◌}
use Rattle.rank_expr.specs.declared.class.Class.{Class}
use Rattle.rank_expr.specs.declared.class.Class.TheVariants as classes

-- o: what is multiplied
abbrev pub product_of : Re Class → Re Class
product_of o = o ⨾ many (one classes.Star ⨾ o)

abbrev pub total_of : Re Class → Re Class
total_of o = product_of o ⨾ many (one classes.Plus ⨾ product_of o ∣ one classes.Minus ⨾ product_of o)

abbrev pub expr_of : Re Class → Re Class
expr_of o = total_of o ⨾ optional (one classes.Compare ⨾ total_of o)

abbrev pub negative_of : Re Class → Re Class
negative_of o = one classes.Minus ⨾ o

abbrev pub group_of : Re Class → Re Class
group_of o = one classes.Open ⨾ expr_of o ⨾ one classes.Close

abbrev pub single_of : Re Class → Re Class
single_of o = one classes.Single ⨾ expr_of o ⨾ one classes.Close

abbrev pub double_of : Re Class → Re Class
double_of o = one classes.Double ⨾ expr_of o ⨾ one classes.Comma ⨾ expr_of o ⨾ one classes.Close

abbrev pub triple_of : Re Class → Re Class
triple_of o = one classes.Triple ⨾ expr_of o ⨾ one classes.Comma ⨾ expr_of o ⨾ one classes.Comma ⨾ expr_of o ⨾ one classes.Close

abbrev pub nested_of : Re Class → Re Class
nested_of o = negative_of o ∣ group_of o ∣ single_of o ∣ double_of o ∣ triple_of o

unfoldable pub operand : ℕ → Re Class
operand zero = one classes.Leaf
operand (suc depth) = one classes.Leaf ∣ nested_of (operand depth)

abbrev pub text_of : Re Class → Re Class
text_of o = expr_of o ⨾ one classes.End

abbrev pub product_goes_on : List Class
product_goes_on = classes.Star ∷ []

abbrev pub total_goes_on : List Class
total_goes_on = classes.Plus ∷ classes.Minus ∷ product_goes_on

abbrev pub expr_goes_on : List Class
expr_goes_on = classes.Compare ∷ total_goes_on
