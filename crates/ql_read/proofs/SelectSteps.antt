-- What the readers of a SELECT make of its parts, beside the steps of all readers.
use Rattle.std.proofs.Common.{◌≡◌, List, [], ◌∷◌, Bool, true, false, Option, Some, None, inl, inr, refl, sym, ◌∙◌, ap, subst}
use Rattle.ql_lex.specs.Tokens.{Lexeme}
use Rattle.ql_grammar.specs.declared.keyword.Keyword.TheVariants as keywords
use Rattle.ql_tree.specs.declared.select.Comparison.{Comparison}
use Rattle.ql_grammar.specs.Tokens.{kind}
use Rattle.ql_grammar.specs.Classes.{Class, the_keyword, any_name, the_sign, a_comparison, fits}
use Rattle.token_grammar.specs.Language.{Re, one, alt, In}
use Rattle.ql_grammar.specs.Terminals.{keyword}
use Rattle.ql_grammar.specs.steps.Grammar.{comparison, alias, direction}
use Rattle.token_grammar.specs.Language.{optional}
use Rattle.ql_grammar.specs.Parts.{IsKeyword}
use Rattle.token_grammar.specs.Values.{IsPerhaps, AreGiven}
use Rattle.token_grammar.specs.steps.Deciding.{begun}
use Rattle.token_grammar.specs.Reading.{TakesPart, IsNextOf}
use Rattle.ql_grammar.specs.Selects.{comparison_sign, IsComparison}
use Rattle.ql_read.specs.steps.Selecting.{IsNextComparison}
use Rattle.token_grammar.proofs.Choices.{optional_else, optional_if, takes_nothing}
use Rattle.token_grammar.proofs.Rows.{fits_next, takes_as, takes_next}
use Rattle.ql_grammar.proofs.ClassKinds.{sign_is}
use Rattle.ql_grammar.proofs.SelectAgreement.{sign_compares}
use Rattle.ql_grammar.specs.Alphabet.{sphinxql}
use Rattle.token_grammar.proofs.Bools.{clash}
use Rattle.token_grammar.proofs.Beginnings.{begun_fits}

-- A comparison.
compared_some : {o : Option Comparison} {op : Comparison} {before : List Lexeme} → IsNextComparison o before → o ≡ Some op → IsNextOf sphinxql (the_sign (comparison_sign op)) before true
compared_some {o} {op} {before} h is = subst (λ (x : Option Comparison). IsNextComparison x before) is h

pub compared_none : {o : Option Comparison} {before : List Lexeme} → IsNextComparison o before → o ≡ None → IsNextOf sphinxql a_comparison before false
compared_none {o} {before} h is = subst (λ (x : Option Comparison). IsNextComparison x before) is h

pub takes_comparison : {o : Option Comparison} {op : Comparison} {t : Lexeme} {before now : List Lexeme} → IsNextComparison o before → o ≡ Some op → before ≡ t ∷ now → TakesPart sphinxql comparison [] (IsComparison op) before now
takes_comparison {o} {op} {t} {before} {now} h some is =
    let n = compared_some h some in
    let s = comparison_sign op in
    let compares : fits a_comparison (kind n.next) ≡ true = ap (fits a_comparison) (sign_is s (kind n.next) n.fits) ∙ sign_compares op in
    let next : IsNextOf sphinxql a_comparison before true = record { next = n.next; rest = n.rest; is = n.is; fits = compares } in
    takes_next next is (λ fit. (t, refl, sign_is s (kind t) (fits_next n is)))

-- A list that has an element is given.
pub are_given : {A : Type 0} (Are : List A → List Lexeme → Type 0) {xs : List A} {r : Re Class} {cs : List Class} {before now : List Lexeme} → ((u : List Lexeme) → Are [] u → ⊥) → TakesPart sphinxql r cs (Are xs) before now → TakesPart sphinxql r cs (AreGiven Are xs) before now
are_given {A} Are {xs} {r} {cs} {before} {now} never h = go xs h
  where
    go : (ys : List A) → TakesPart sphinxql r cs (Are ys) before now → TakesPart sphinxql r cs (AreGiven Are ys) before now
    go [] i = absurd (never i.used i.has)
    go (y ∷ ys) i = i

pub none_given : {A : Type 0} (Are : List A → List Lexeme → Type 0) {xs : List A} → xs ≡ [] → AreGiven Are xs []
none_given {A} Are is = subst (λ (ys : List A). AreGiven Are ys []) (sym is) refl

-- What is said of the next token holds where nothing was taken.
pub next_there : {c : Class} {answer : Bool} {before there : List Lexeme} → there ≡ before → IsNextOf sphinxql c there answer → IsNextOf sphinxql c before answer
next_there {c} {answer} same n = subst (λ u. IsNextOf sphinxql c u answer) same n

-- An alias: AS, or none.
pub as_taken : {before now : List Lexeme} → IsNextOf sphinxql (the_keyword keywords.As) before true → TakesPart sphinxql (keyword keywords.As) [] (IsKeyword keywords.As) before now → TakesPart sphinxql (optional (keyword keywords.As)) (the_keyword keywords.As ∷ []) (IsPerhaps (IsKeyword keywords.As)) before now
as_taken n h = optional_if n refl (takes_as (λ u i. inl i) h)

pub no_as : {before there : List Lexeme} → IsNextOf sphinxql (the_keyword keywords.As) before false → there ≡ before → TakesPart sphinxql (optional (keyword keywords.As)) [] (IsPerhaps (IsKeyword keywords.As)) before there
no_as n same = optional_else n refl (inr refl) same

-- The next token is of neither class.
next_same : {c d : Class} {tokens : List Lexeme} (n : IsNextOf sphinxql c tokens false) (m : IsNextOf sphinxql d tokens false) → fits d (kind n.next) ≡ false
next_same {c} {d} n m = let same : m.next ≡ n.next = cc (n.is, m.is) in subst (λ (t : Lexeme). fits d (kind t) ≡ false) same m.fits

-- a token of no class of two begins neither
begins_neither : (c d : Class) (r s : Re Class) (t : Lexeme) → begun sphinxql c r ≡ true → begun sphinxql d s ≡ true → fits c (kind t) ≡ false → fits d (kind t) ≡ false → (u : List Lexeme) → In sphinxql (alt r s) (t ∷ u) → ⊥
unfolding In
begins_neither c d r s t e e' f f' u (inl h) = clash (fits c (kind t)) (begun_fits sphinxql c r t u e h) f
begins_neither c d r s t e e' f f' u (inr h) = clash (fits d (kind t)) (begun_fits sphinxql d s t u e' h) f'

-- neither AS nor a name begins an alias
alias_no : (t : Lexeme) → fits (the_keyword keywords.As) (kind t) ≡ false → fits any_name (kind t) ≡ false → (u : List Lexeme) → In sphinxql alias (t ∷ u) → ⊥
unfolding In
alias_no t e f u ([], b, is, first, second) = clash (fits any_name (kind t)) (begun_fits sphinxql any_name (one any_name) t u refl (subst (λ v. In sphinxql (one any_name) v) (sym is) second)) f
alias_no t e f u (x ∷ a, b, is, inl first, second) =
    let same : x ≡ t = cc in
    clash (fits (the_keyword keywords.As) (kind t)) (begun_fits sphinxql (the_keyword keywords.As) (keyword keywords.As) t a refl (subst (λ (y : Lexeme). In sphinxql (keyword keywords.As) (y ∷ a)) same first)) e
alias_no t e f u (x ∷ a, b, is, inr first, second) = cc

pub no_alias : {P : List Lexeme → Type 0} {cs : List Class} {before there : List Lexeme} → IsNextOf sphinxql (the_keyword keywords.As) before false → there ≡ before → IsNextOf sphinxql any_name there false → P [] → TakesPart sphinxql (optional alias) cs P before there
no_alias {P} {cs} {before} {there} n same other h =
    let m = next_there same other in
    subst (λ u. TakesPart sphinxql (optional alias) cs P before u) (sym same) (takes_nothing n.next n.rest n.is (alias_no n.next n.fits (next_same n m)) h)

pub no_direction : {P : List Lexeme → Type 0} {cs : List Class} {before there now : List Lexeme} → IsNextOf sphinxql (the_keyword keywords.Asc) before false → there ≡ before → IsNextOf sphinxql (the_keyword keywords.Desc) there false → now ≡ there → P [] → TakesPart sphinxql direction cs P before now
no_direction {P} {cs} {before} {there} {now} n same other after h =
    let m = next_there same other in
    subst (λ u. TakesPart sphinxql direction cs P before u) (sym (after ∙ same)) (takes_nothing n.next n.rest n.is (begins_neither (the_keyword keywords.Asc) (the_keyword keywords.Desc) (keyword keywords.Asc) (keyword keywords.Desc) n.next refl refl n.fits (next_same n m)) h)
