-- Signs, what is left, and that nothing is wrong, for a row of tokens that is two rows.
use Rattle.std.proofs.Common.{◌≡◌, List, [], ◌∷◌, ◌++◌, refl, ap, ◌∙◌}
use Rattle.std.specs.Prelude.{Option, Some, None}
use Rattle.doc_types.specs.declared.schema.Schema.{Schema}
use Rattle.query_marks.specs.declared.mark.Sign.{Sign}
use Rattle.query_write.specs.Written.{WrittenToken}
use Rattle.query_write.specs.steps.TokenRun.{Standing, token_sign, token_after, before_signs, signs_of, after_tokens, AreRight}

pub before_append : (o : Option Sign) (first second : List Sign) → before_signs o (first ++ second) ≡ before_signs o first ++ second
before_append None first second = refl
before_append (Some sign) first second = refl

pub signs_append : (s : Standing) (first second : List WrittenToken) → signs_of s (first ++ second) ≡ signs_of s first ++ signs_of (after_tokens s first) second
signs_append s [] second = refl
signs_append s (token ∷ first) second =
    ap (before_signs (token_sign s token)) (signs_append (token_after s token) first second)
    ∙ before_append (token_sign s token) (signs_of (token_after s token) first) (signs_of (after_tokens (token_after s token) first) second)

pub after_append : (s : Standing) (first second : List WrittenToken) → after_tokens s (first ++ second) ≡ after_tokens (after_tokens s first) second
after_append s [] second = refl
after_append s (token ∷ first) second = after_append (token_after s token) first second

pub right_append : (schema : Schema) (s : Standing) (first second : List WrittenToken) → AreRight schema s first → AreRight schema (after_tokens s first) second → AreRight schema s (first ++ second)
right_append schema s [] second right next = next
right_append schema s (token ∷ first) second right next = (right.0, right_append schema (token_after s token) first second right.1 next)
