-- What the cursor makes of one token.
use Rattle.std.proofs.Common.{◌≡◌, List, [], ◌∷◌, true, false, refl, sym, ◌∙◌, ap}
use Rattle.ql_lex.specs.declared.token.Sign.{Sign}
use Rattle.ql_lex.specs.Tokens.{Lexeme}
use Rattle.token_grammar.specs.Language.{one}
use Rattle.token_grammar.specs.Reading.{TakesPart, IsNextOf, second_fits}
use Rattle.token_grammar.proofs.Bools.{clash}
use Rattle.token_grammar.proofs.Rows.{takes_next}
use Rattle.ql_grammar.specs.declared.keyword.Keyword.{Keyword}
use Rattle.ql_grammar.specs.declared.kind.Kind.TheVariants as kinds
use Rattle.ql_grammar.specs.Alphabet.{sphinxql}
use Rattle.ql_grammar.specs.Classes.{Class, the_keyword, the_sign, fits}
use Rattle.ql_grammar.specs.Parts.{IsKeyword, IsSign}
use Rattle.ql_grammar.specs.Tokens.{kind, first_kind}
use Rattle.ql_grammar.proofs.ClassKinds.{keyword_is, sign_is}
use Rattle.ql_read.specs.steps.Seconds.{second_kind}

pub takes_keyword : {w : Keyword} {cs : List Class} {t : Lexeme} {before now : List Lexeme} → IsNextOf sphinxql (the_keyword w) before true → before ≡ t ∷ now → TakesPart sphinxql (one (the_keyword w)) cs (IsKeyword w) before now
takes_keyword {w} {cs} {t} {before} {now} n is = takes_next n is (λ fit. (t, refl, keyword_is w (kind t) fit))

pub takes_sign : {s : Sign} {cs : List Class} {t : Lexeme} {before now : List Lexeme} → IsNextOf sphinxql (the_sign s) before true → before ≡ t ∷ now → TakesPart sphinxql (one (the_sign s)) cs (IsSign s) before now
takes_sign {s} {cs} {t} {before} {now} n is = takes_next n is (λ fit. (t, refl, sign_is s (kind t) fit))

-- an answer that the next token is of a class rules out the end
pub not_end : {c : Class} {before : List Lexeme} → IsNextOf sphinxql c before true → fits c kinds.End ≡ false → first_kind before ≡ kinds.End → ⊥
not_end {c} {before} n other end =
    let k : kind n.next ≡ kinds.End = ap first_kind (sym n.is) ∙ end in
    clash (fits c kinds.End) (ap (fits c) (sym k) ∙ n.fits) other

-- the second token, by its kind
pub second_same : (s : Sign) (tokens : List Lexeme) → second_fits sphinxql (the_sign s) tokens ≡ fits (the_sign s) (second_kind tokens)
second_same s [] = refl
second_same s (t ∷ []) = refl
second_same s (t ∷ u ∷ ts) = refl
