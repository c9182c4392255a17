-- What may be there is one value, or isn't there, and never both.
use Rattle.std.proofs.Common.{◌≡◌, Option, None, Some, sym, ◌∙◌}
use Rattle.std.proofs.lemmas.Option.{none-some, same_Some}

pub one_value : {X : Type 0} (option : Option X) (a b : X) → option ≡ Some a → option ≡ Some b → a ≡ b
one_value option a b one two = same_Some a b (sym one ∙ two)

pub not_both : {X : Type 0} (option : Option X) (a : X) → option ≡ None → option ≡ Some a → ⊥
not_both option a none some = none-some a (sym none ∙ some)
