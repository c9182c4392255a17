-- What a stop is called.
use Rattle.std.proofs.Common.{◌≡◌, ℕ, zero, suc, ◌-◌, ◌≤◌, List, [], ◌∷◌, ◌++◌, length, Bool, true, false, Some, refl, ◌∙◌, ap, arith}
use Rattle.std.specs.Prelude.{slice_get, ◌||◌}
use Rattle.query_marks.specs.declared.fault.QueryKind.{QueryKind}
use Rattle.query_marks.specs.declared.fault.QueryKind.TheVariants as kinds
use Rattle.query_marks.specs.declared.mark.Mark.{Mark}
use Rattle.query_marks.specs.declared.mark.Sign.{Sign}
use Rattle.query_marks.specs.declared.mark.Sign.TheVariants as signs
use Rattle.token_grammar.specs.Values.{Begins}
use Rattle.query_grammar.specs.Grammar.{IsQuery}
use Rattle.query_grammar.specs.QueryFaults.{Any, IsNamed, order}
use Rattle.query_grammar.specs.declared.class.Class.TheVariants as classes
use Rattle.query_grammar.specs.steps.Classes.{class_of, same_class}
use Rattle.query_grammar.specs.steps.Joined.{ends_joined}
use Rattle.query_read.specs.steps.Choice.{IsStopOfText, IsCalled}
use Rattle.query_grammar.proofs.Nesting.{goes_deeper, no_deeper}

-- a mark with this sign joins the leaf before it with the one after it
abbrev pub joins : Sign → Bool
joins sign = same_class classes.Sentence (class_of sign) || same_class classes.Paragraph (class_of sign)

-- the last mark
pub joined_last : (marks : List Mark) (m : Mark) → Some m ≡ slice_get marks (length marks - 1) → joins m.sign ≡ ends_joined marks
joined_last [] m is = cc
joined_last (n ∷ []) m is =
    let at : length (n ∷ []) - 1 ≡ zero = omega arith in
    let here : Some m ≡ Some n = is ∙ ap (slice_get (n ∷ [])) at in
    let same : m ≡ n = cc in
    ap (λ (k : Mark). joins k.sign) same
joined_last (n ∷ o ∷ marks) m is =
    let at : length (n ∷ o ∷ marks) - 1 ≡ suc (length (o ∷ marks) - 1) = omega (arith, more) in
    joined_last (o ∷ marks) m (is ∙ ap (slice_get (n ∷ o ∷ marks)) at)
  where
    more : length (n ∷ o ∷ marks) ≡ suc (suc (length marks))
    more = refl

pub joins_no : (sign : Sign) → (sign ≡ signs.Sentence → ⊥) → (sign ≡ signs.Paragraph → ⊥) → joins sign ≡ false
joins_no signs.Sentence no_sentence no_paragraph = absurd (no_sentence refl)
joins_no signs.Paragraph no_sentence no_paragraph = absurd (no_paragraph refl)
joins_no _ no_sentence no_paragraph = refl

clash : {P : Type 0} (sign : Sign) → sign ≡ signs.Open → sign ≡ signs.Unclosed → P
clash sign is other = cc

pub unclosed_called : (front : List Mark) (stop : Mark) → stop.sign ≡ signs.Unclosed → IsCalled front stop kinds.UnclosedQuote
unclosed_called front stop is = record { named = is; first = λ other named. omega arith }

-- no deeper query goes on with it
syntax_called : (front : List Mark) (stop : Mark) → (stop.sign ≡ signs.Unclosed → ⊥) → ((depth : ℕ) → Begins (IsQuery Any depth) (front ++ stop ∷ []) → ⊥) → IsCalled front stop kinds.Syntax
syntax_called front stop closed none = record { named = (closed, none); first = first }
  where
    first : (other : QueryKind) → IsNamed front stop other → order kinds.Syntax ≤ order other
    first kinds.UnclosedQuote named = absurd (closed named)
    first kinds.Syntax named = omega arith
    first kinds.Nesting named = omega arith
    first _ named = absurd named

pub joined_called : (front : List Mark) (stop : Mark) → IsStopOfText front stop → stop.sign ≡ signs.Open → ends_joined front ≡ true → IsCalled front stop kinds.Syntax
joined_called front stop (marks, stops, ended) is joined = syntax_called front stop (clash stop.sign is) (no_deeper stops (λ _. joined))

pub other_called : (front : List Mark) (stop : Mark) → IsStopOfText front stop → (stop.sign ≡ signs.Unclosed → ⊥) → (stop.sign ≡ signs.Open → ⊥) → IsCalled front stop kinds.Syntax
other_called front stop (marks, stops, ended) closed no_group = syntax_called front stop closed (no_deeper stops (λ is. absurd (no_group is)))

pub nesting_called : (front : List Mark) (stop : Mark) → IsStopOfText front stop → stop.sign ≡ signs.Open → ends_joined front ≡ false → IsCalled front stop kinds.Nesting
nesting_called front stop (marks, stops, ended) is apart = record { named = goes_deeper stops ended is apart; first = first }
  where
    first : (other : QueryKind) → IsNamed front stop other → order kinds.Nesting ≤ order other
    first kinds.UnclosedQuote named = clash stop.sign is named
    first kinds.Syntax named = absurd (named.1 (goes_deeper stops ended is apart).0 (goes_deeper stops ended is apart).1)
    first kinds.Nesting named = omega arith
    first _ named = absurd named
