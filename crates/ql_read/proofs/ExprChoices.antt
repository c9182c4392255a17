-- The choice of an expression by its first two tokens: what is left of it after each call that isn't next. What is taken of what is
-- left, is taken of the whole choice, and where it fails, the choice does.
use Rattle.std.proofs.Common.{ℕ, List, [], ◌∷◌, false, refl}
use Rattle.srch_base.specs.declared.faults.Or.{Or}
use Rattle.ql_lex.specs.declared.token.Sign.TheVariants as signs
use Rattle.ql_lex.specs.Tokens.{Lexeme}
use Rattle.ql_grammar.specs.declared.keyword.Keyword.{Keyword}
use Rattle.ql_grammar.specs.declared.keyword.Keyword.TheVariants as keywords
use Rattle.ql_grammar.specs.Alphabet.{sphinxql}
use Rattle.ql_grammar.specs.Classes.{Class, the_keyword, the_sign}
use Rattle.ql_grammar.specs.Terminals.{enclosed, keyword, name}
use Rattle.ql_grammar.specs.steps.Grammar.{expr, parens, weight}
use Rattle.token_grammar.specs.Language.{Re, ◌⨾◌, ◌∣◌}
use Rattle.token_grammar.specs.Reading.{FailsPart, IsFollowed, TakesPart}
use Rattle.token_grammar.proofs.Lookahead.{fails_unfollowed, takes_unfollowed}

abbrev pub from_group_by : Re Class
from_group_by = keyword keywords.GroupBy ⨾ parens ∣ name

abbrev pub from_weight : Re Class
from_weight = weight ∣ from_group_by

abbrev pub from_sum : Re Class
from_sum = keyword keywords.Sum ⨾ enclosed name ∣ from_weight

abbrev pub from_max : Re Class
from_max = keyword keywords.Max ⨾ enclosed name ∣ from_sum

abbrev pub from_min : Re Class
from_min = keyword keywords.Min ⨾ enclosed name ∣ from_max

-- with what an expression may go on
abbrev pub goes_on : List Class
goes_on = the_sign signs.OpenParen ∷ []

-- this call isn't next
abbrev pub IsNo : List Lexeme → Keyword → Type 0
IsNo before function = IsFollowed sphinxql (the_keyword function) (the_sign signs.OpenParen) before false

abbrev pub Takes : Re Class → (List Lexeme → Type 0) → List Lexeme → List Lexeme → Type 0
Takes part P before now = TakesPart sphinxql part goes_on P before now

abbrev pub Fails : Re Class → List Lexeme → Or ℕ → Type 0
Fails part before e = FailsPart sphinxql part goes_on before e

pub takes_past_count : {P : List Lexeme → Type 0} {before now : List Lexeme} → IsNo before keywords.Count → Takes from_min P before now → Takes expr P before now
takes_past_count n1 h = takes_unfollowed n1 refl h

pub fails_past_count : {before : List Lexeme} {e : Or ℕ} → IsNo before keywords.Count → Fails from_min before e → Fails expr before e
fails_past_count n1 h = fails_unfollowed n1 refl h

pub takes_past_min : {P : List Lexeme → Type 0} {before now : List Lexeme} → IsNo before keywords.Count → IsNo before keywords.Min → Takes from_max P before now → Takes expr P before now
takes_past_min n1 n2 h = takes_past_count n1 (takes_unfollowed n2 refl h)

pub fails_past_min : {before : List Lexeme} {e : Or ℕ} → IsNo before keywords.Count → IsNo before keywords.Min → Fails from_max before e → Fails expr before e
fails_past_min n1 n2 h = fails_past_count n1 (fails_unfollowed n2 refl h)

pub takes_past_max : {P : List Lexeme → Type 0} {before now : List Lexeme} → IsNo before keywords.Count → IsNo before keywords.Min → IsNo before keywords.Max → Takes from_sum P before now → Takes expr P before now
takes_past_max n1 n2 n3 h = takes_past_min n1 n2 (takes_unfollowed n3 refl h)

pub fails_past_max : {before : List Lexeme} {e : Or ℕ} → IsNo before keywords.Count → IsNo before keywords.Min → IsNo before keywords.Max → Fails from_sum before e → Fails expr before e
fails_past_max n1 n2 n3 h = fails_past_min n1 n2 (fails_unfollowed n3 refl h)

pub takes_past_sum : {P : List Lexeme → Type 0} {before now : List Lexeme} → IsNo before keywords.Count → IsNo before keywords.Min → IsNo before keywords.Max → IsNo before keywords.Sum → Takes from_weight P before now → Takes expr P before now
takes_past_sum n1 n2 n3 n4 h = takes_past_max n1 n2 n3 (takes_unfollowed n4 refl h)

pub fails_past_sum : {before : List Lexeme} {e : Or ℕ} → IsNo before keywords.Count → IsNo before keywords.Min → IsNo before keywords.Max → IsNo before keywords.Sum → Fails from_weight before e → Fails expr before e
fails_past_sum n1 n2 n3 n4 h = fails_past_max n1 n2 n3 (fails_unfollowed n4 refl h)

pub takes_past_weight : {P : List Lexeme → Type 0} {before now : List Lexeme} → IsNo before keywords.Count → IsNo before keywords.Min → IsNo before keywords.Max → IsNo before keywords.Sum → IsNo before keywords.Weight → Takes from_group_by P before now → Takes expr P before now
takes_past_weight n1 n2 n3 n4 n5 h = takes_past_sum n1 n2 n3 n4 (takes_unfollowed n5 refl h)

pub fails_past_weight : {before : List Lexeme} {e : Or ℕ} → IsNo before keywords.Count → IsNo before keywords.Min → IsNo before keywords.Max → IsNo before keywords.Sum → IsNo before keywords.Weight → Fails from_group_by before e → Fails expr before e
fails_past_weight n1 n2 n3 n4 n5 h = fails_past_sum n1 n2 n3 n4 (fails_unfollowed n5 refl h)

pub takes_past_group_by : {P : List Lexeme → Type 0} {before now : List Lexeme} → IsNo before keywords.Count → IsNo before keywords.Min → IsNo before keywords.Max → IsNo before keywords.Sum → IsNo before keywords.Weight → IsNo before keywords.GroupBy → Takes name P before now → Takes expr P before now
takes_past_group_by n1 n2 n3 n4 n5 n6 h = takes_past_weight n1 n2 n3 n4 n5 (takes_unfollowed n6 refl h)

pub fails_past_group_by : {before : List Lexeme} {e : Or ℕ} → IsNo before keywords.Count → IsNo before keywords.Min → IsNo before keywords.Max → IsNo before keywords.Sum → IsNo before keywords.Weight → IsNo before keywords.GroupBy → Fails name before e → Fails expr before e
fails_past_group_by n1 n2 n3 n4 n5 n6 h = fails_past_weight n1 n2 n3 n4 n5 (fails_unfollowed n6 refl h)
