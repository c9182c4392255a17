-- What is computed of the grammar by its classes, for each depth of nesting.
use Rattle.std.proofs.Common.{◌≡◌, ℕ, zero, suc, [], ◌∷◌, true, false, refl}
use Rattle.std.specs.Prelude.{◌&&◌}
use Rattle.token_grammar.specs.Language.{one, many, ◌⨾◌}
use Rattle.token_grammar.specs.Firsts.{is_in, all_in, apart, may_follow}
use Rattle.token_grammar.specs.steps.Deciding.{excludes}
use Rattle.query_grammar.specs.declared.class.Class.{Class}
use Rattle.query_grammar.specs.declared.class.Class.TheVariants as classes
use Rattle.query_grammar.specs.steps.Classes.{begins_item}
use Rattle.query_grammar.specs.steps.MarkAlphabet.{query_marks}
use Rattle.query_read.specs.steps.Parts.{join_goes_on, alternatives_go_on, items_go_on}
use Rattle.query_grammar.specs.steps.QueryGrammar.{others, alternatives_of, item_of, items_of, expr_of}

-- no other atom begins with a leaf
pub leaf_excluded : (d : ℕ) → (excludes query_marks classes.Leaf (others d) && all_in query_marks join_goes_on join_goes_on) ≡ true
unfolding others
leaf_excluded zero = refl
leaf_excluded (suc d) = refl

-- no choice begins with NOT
pub not_excluded : (d : ℕ) → excludes query_marks classes.Not (alternatives_of (others d)) ≡ true
unfolding others
not_excluded zero = refl
not_excluded (suc d) = refl

-- an item may follow another, ..
pub items_follow : (d : ℕ) → may_follow query_marks alternatives_go_on (many (item_of (others d))) items_go_on ≡ true
unfolding others
items_follow zero = refl
items_follow (suc d) = refl

-- .. and items limits, ..
pub limits_follow : (d : ℕ) → may_follow query_marks (classes.Limit ∷ []) (items_of (others d)) items_go_on ≡ true
unfolding others
limits_follow zero = refl
limits_follow (suc d) = refl

-- .. and a query `@@relaxed`
pub relaxed_follows : (d : ℕ) → may_follow query_marks (classes.Relaxed ∷ []) (expr_of (others d) ⨾ one classes.End) [] ≡ true
unfolding others
relaxed_follows zero = refl
relaxed_follows (suc d) = refl

-- with what no item begins
pub item_apart : (d : ℕ) (c : Class) → begins_item c ≡ false → apart query_marks (c ∷ []) (item_of (others d)) ≡ true
unfolding others
item_apart d classes.Leaf e = cc
item_apart d classes.Loose e = cc
item_apart d classes.Open e = cc
item_apart d classes.Not e = cc
item_apart zero classes.Close e = refl
item_apart zero classes.Or e = refl
item_apart zero classes.Before e = refl
item_apart zero classes.Maybe e = refl
item_apart zero classes.Sentence e = refl
item_apart zero classes.Paragraph e = refl
item_apart zero classes.Near e = refl
item_apart zero classes.Limit e = refl
item_apart zero classes.Relaxed e = refl
item_apart zero classes.Unclosed e = refl
item_apart zero classes.End e = refl
item_apart (suc d) classes.Close e = refl
item_apart (suc d) classes.Or e = refl
item_apart (suc d) classes.Before e = refl
item_apart (suc d) classes.Maybe e = refl
item_apart (suc d) classes.Sentence e = refl
item_apart (suc d) classes.Paragraph e = refl
item_apart (suc d) classes.Near e = refl
item_apart (suc d) classes.Limit e = refl
item_apart (suc d) classes.Relaxed e = refl
item_apart (suc d) classes.Unclosed e = refl
item_apart (suc d) classes.End e = refl

-- items go on with what an item begins with
pub item_among : (c : Class) → begins_item c ≡ true → is_in query_marks c items_go_on ≡ true
item_among classes.Leaf e = refl
item_among classes.Loose e = refl
item_among classes.Open e = refl
item_among classes.Not e = refl
item_among classes.Close e = cc
item_among classes.Or e = refl
item_among classes.Before e = cc
item_among classes.Maybe e = refl
item_among classes.Sentence e = refl
item_among classes.Paragraph e = refl
item_among classes.Near e = cc
item_among classes.Limit e = cc
item_among classes.Relaxed e = cc
item_among classes.Unclosed e = cc
item_among classes.End e = cc
