-- Whole numbers are kept as they are handed on.
use Rattle.std.proofs.Common.{List, sym, subst}
use Rattle.std.specs.Prelude.{ℤ}
use Rattle.std.proofs.Math.Facts.{to_z-of_z}
use mir.Syntax.{w128}
use mir.Val.{SFits, of_z, to_z}
use Rattle.ql_lex.specs.Tokens.{Lexeme}
use Rattle.ql_grammar.specs.declared.keyword.Keyword.TheVariants as keywords
use Rattle.ql_grammar.specs.Classes.{Class}
use Rattle.token_grammar.specs.Language.{Re}
use Rattle.ql_grammar.specs.Terminals.{whole}
use Rattle.ql_grammar.specs.Parts.{IsKeyword, IsWhole}
use Rattle.token_grammar.specs.Values.{◌then◌}
use Rattle.token_grammar.specs.Reading.{TakesPart}
use Rattle.ql_grammar.specs.Alphabet.{sphinxql}

-- A signed number that is put into a value.
pub whole_kept : {cs : List Class} {before now : List Lexeme} {z : ℤ} → SFits w128 z → TakesPart sphinxql whole cs (IsWhole z) before now → TakesPart sphinxql whole cs (IsWhole (to_z w128 (of_z w128 z))) before now
whole_kept {cs} {before} {now} fits h = subst (λ (y : ℤ). TakesPart sphinxql whole cs (IsWhole y) before now) (sym (to_z-of_z fits)) h

-- two of them, of a BETWEEN
pub between_kept : {r : Re Class} {cs : List Class} {before now : List Lexeme} {low high : ℤ} → SFits w128 low → SFits w128 high → TakesPart sphinxql r cs (IsKeyword keywords.Between then IsWhole low then IsKeyword keywords.And then IsWhole high) before now → TakesPart sphinxql r cs (IsKeyword keywords.Between then IsWhole (to_z w128 (of_z w128 low)) then IsKeyword keywords.And then IsWhole (to_z w128 (of_z w128 high))) before now
between_kept {r} {cs} {before} {now} {low} {high} first second h =
    subst (λ (y : ℤ). TakesPart sphinxql r cs (IsKeyword keywords.Between then IsWhole y then IsKeyword keywords.And then IsWhole (to_z w128 (of_z w128 high))) before now) (sym (to_z-of_z first))
    (subst (λ (y : ℤ). TakesPart sphinxql r cs (IsKeyword keywords.Between then IsWhole low then IsKeyword keywords.And then IsWhole y) before now) (sym (to_z-of_z second)) h)
