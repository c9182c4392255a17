-- Signs by their numbers.
use Rattle.std.proofs.Common.{◌≡◌, List, [], ◌∷◌, true, Option, Some, None, slice_get, refl, sym, ◌∙◌, ap}
use Rattle.std.proofs.lemmas.Bool.{eqb-true}
use Rattle.ql_lex.specs.declared.token.Sign.{Sign}
use Rattle.ql_lex.specs.declared.token.Sign.TheVariants as signs
use Rattle.ql_grammar.specs.Classes.{sign_number, same_sign}

abbrev sign_values : List Sign
sign_values = signs.OpenParen ∷ signs.CloseParen ∷ signs.Comma ∷ signs.Semicolon ∷ signs.Star ∷ signs.Minus ∷ signs.Equal ∷ signs.NotEqual ∷ signs.Less ∷ signs.Greater ∷ signs.LessOrEqual ∷ signs.GreaterOrEqual ∷ []

sign_numbered : (s : Sign) → slice_get sign_values (sign_number s) ≡ Some s
sign_numbered signs.OpenParen = refl
sign_numbered signs.CloseParen = refl
sign_numbered signs.Comma = refl
sign_numbered signs.Semicolon = refl
sign_numbered signs.Star = refl
sign_numbered signs.Minus = refl
sign_numbered signs.Equal = refl
sign_numbered signs.NotEqual = refl
sign_numbered signs.Less = refl
sign_numbered signs.Greater = refl
sign_numbered signs.LessOrEqual = refl
sign_numbered signs.GreaterOrEqual = refl

-- the value, where there is one
kept : Sign → Option Sign → Sign
kept v None = v
kept v (Some w) = w

some_same : (v w : Sign) → Some v ≡ Some w → v ≡ w
unfolding kept
some_same v w e = ap (kept v) e

pub sign_same : (v w : Sign) → same_sign v w ≡ true → v ≡ w
sign_same v w e =
    some_same v w (sym (sign_numbered v) ∙ ap (λ n. slice_get sign_values n) (eqb-true (sign_number v) (sign_number w) e) ∙ sign_numbered w)
