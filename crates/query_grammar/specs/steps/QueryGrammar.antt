-- The grammar of extended queries over classes of marks, one for each depth of nesting.
use Rattle.std.specs.Prelude.{ℕ, zero, suc}
use Rattle.token_grammar.specs.Language.{Re, one, many, optional, repeated, ◌⨾◌, ◌∣◌}
use Rattle.query_grammar.specs.declared.class.Class.{Class}
use Rattle.query_grammar.specs.declared.class.Class.TheVariants as classes

abbrev pub leaf : Re Class
leaf = one classes.Leaf

-- a leaf, or leaves that SENTENCE or PARAGRAPH joins
abbrev pub leaves : Re Class
leaves = leaf ⨾ (repeated classes.Sentence leaf ∣ repeated classes.Paragraph leaf)

-- o: the atoms that are no leaf
abbrev pub join_of : Re Class → Re Class
join_of o = leaves ∣ o

abbrev pub alternatives_of : Re Class → Re Class
alternatives_of o = join_of o ⨾ many (one classes.Or ⨾ join_of o ∣ one classes.Maybe ⨾ join_of o)

abbrev pub item_of : Re Class → Re Class
item_of o = one classes.Not ⨾ join_of o ∣ alternatives_of o

abbrev pub items_of : Re Class → Re Class
items_of o = item_of o ⨾ many (item_of o)

-- items after limits
abbrev pub section_of : Re Class → Re Class
section_of o = many (one classes.Limit) ⨾ items_of o

-- in a further section of an AND there is a limit
abbrev pub and_of : Re Class → Re Class
and_of o = section_of o ⨾ many (one classes.Limit ⨾ section_of o)

abbrev pub expr_of : Re Class → Re Class
expr_of o = and_of o ⨾ many (one classes.Before ⨾ and_of o ∣ one classes.Near ⨾ and_of o)

unfoldable pub others : ℕ → Re Class
others zero = one classes.Loose
others (suc d) = one classes.Loose ∣ one classes.Open ⨾ expr_of (others d) ⨾ one classes.Close

unfoldable pub query : ℕ → Re Class
query d = optional (one classes.Relaxed) ⨾ expr_of (others d) ⨾ one classes.End
