-- The command of `selftest` refuses exactly what isn't one.
use Rattle.std.proofs.Common.{◌≡◌, ◌∙◌, ◌&&◌, ◌||◌, ℕ, Bool, true, false, not, refl, sym, ap, ap₂, subst, true≢false, arith, List, [], Option, Some, None}
use Rattle.std.specs.Prelude.{codes, option_and_then, option_map}
use Rattle.clap.specs.Simple.{filled_from, filled, matches_of, with_index}
use Rattle.clap.specs.Walk.{Rule, Text, Row, nothing_held, settled}
use Rattle.command_line.specs.Modes.{Mode, by_options, number_of, selftest, selftest_of, selftest_options}
use Rattle.command_line.specs.steps.Commands.{selftest_rules, selftest_command}
use Rattle.command_line.specs.steps.Words.{are_options_in, has_selftest_form, is_numeral_in, value_in}
use Rattle.command_line.proofs.Walking.{AreOptions, IsOption, after, both_empty, refusals, shape}
use Rattle.command_line.proofs.Optional.{Each, no_number_of, none_after, HasRule, Passes, all_pass, bound, each_name, given_is, is_there, mapped, needed_passes, no_default, number_of_found, both_wanted, passes}
use Rattle.command_line.proofs.Commanding.{fault_is, DefaultsPass, matches_are, no_default_refused, rows_at_end}
use Rattle.command_line.proofs.Accepting.{each_passed, none_refused}
use Rattle.command_line.proofs.RowsRead.{nothing_fresh}
use Rattle.clap.specs.Faults.{check_fault, fault_of}
use Rattle.clap.specs.Kinds.{check_kinds, or_else}
use Rattle.std.proofs.lemmas.Bool.{and_parts}
use Rattle.clap.specs.Words.{App}
use Rattle.command_line.proofs.Pairing.{formed, some_is, unformed}
use Rattle.command_line.specs.steps.Options as o
use Rattle.command_line.specs.steps.Options.{text}
use Rattle.command_line.specs.steps.Found.{FindsSelftest}
use Rattle.std.specs.Option.{is_some}

abbrev rules : List Rule
rules = filled_from 1 selftest_rules

abbrev number_rule : Rule
number_rule = with_index 1 (filled (o.needed (codes "number") 0 2147483647))

abbrev docs_rule : Rule
docs_rule = with_index 1 (filled (o.needed (codes "docs") 1 100000))

-- ---- the options are those of the mode

option : (name : Text) (a : Rule) → IsOption rules name a → HasRule rules name
option name a is = (a, is)

each_option : Each (HasRule rules) selftest_options
each_option = (
  option (codes "--number") number_rule (record { spelled = refl; long = refl; other = refl; by_long = refl; by_id = refl; range = refl; action = refl; reading = refl }),
  (option (codes "--docs") docs_rule (record { spelled = refl; long = refl; other = refl; by_long = refl; by_id = refl; range = refl; action = refl; reading = refl }), tt),
)

options : AreOptions rules selftest_options
options = each_name (HasRule rules) selftest_options each_option

no_default_fails : DefaultsPass rules
no_default_fails = (no_default number_rule refl, (no_default docs_rule refl, tt))

-- ---- both ways

-- the last check fails only for a number that is wanted and isn't given
check_is : (words : List Text) → are_options_in selftest_options words ≡ true
    → check_fault (shape (codes "selftest") rules) (rows_at_end rules words) false
    ≡ check_kinds false false (not (is_some (value_in (codes "--number") words)) || (not (is_some (value_in (codes "--docs") words)) || false))
check_is words e =
    ap₂ (λ number docs. check_kinds false false (not number || (not docs || false)))
    (given_is rules selftest_options words options e (codes "number") refl)
    (given_is rules selftest_options words options e (codes "docs") refl)

parts : (words : List Text) → are_options_in selftest_options words ≡ true
    → fault_of selftest_command words ≡ or_else (refusals rules nothing_held words) (check_kinds false false (not (is_some (value_in (codes "--number") words)) || (not (is_some (value_in (codes "--docs") words)) || false)))
parts words e =
    fault_is (codes "selftest") selftest_rules selftest_options words options e
    ∙ ap₂ (λ d k. or_else (refusals rules nothing_held words) (or_else d k))
    (no_default_refused rules (settled rules (after rules nothing_held words)).rows no_default_fails) (check_is words e)

-- what is a selftest isn't refused
pub selftest_clean : (words : List Text) (mode : Mode) → are_options_in selftest_options words ≡ true → selftest_of (λ name. value_in name words) ≡ Some mode
    → fault_of selftest_command words ≡ []
selftest_clean words mode e is =
    let number = bound _ (number_of 0 2147483647 (value_in (codes "--number") words)) mode is in
    let docs = mapped _ (number_of 1 100000 (value_in (codes "--docs") words)) mode number.2 in
    let text = bound _ (value_in (codes "--number") words) number.0 number.1 in
    let docs_text = bound _ (value_in (codes "--docs") words) docs.0 docs.1 in
    let passed : Each (Passes rules words) selftest_options = (
      passes rules words (codes "--number") number_rule refl (λ v has. needed_passes v 0 2147483647 number.0 (value_in (codes "--number") words) has number.1 (omega arith)),
      (passes rules words (codes "--docs") docs_rule refl (λ v has. needed_passes v 1 100000 docs.0 (value_in (codes "--docs") words) has docs.1 (omega arith)), tt),
    ) in
    parts words e
    ∙ ap₂ (λ k b. or_else k (check_kinds false false (not (is_some b) || (not (is_some (value_in (codes "--docs") words)) || false))))
    (none_refused rules selftest_options options nothing_held words e (nothing_fresh rules words) refl (all_pass rules selftest_options words e passed)) text.1
    ∙ ap (λ b. check_kinds false false (not (is_some b) || false)) docs_text.1

selftest_is : (words : List Text) (number docs : ℕ) → number_of 0 2147483647 (value_in (codes "--number") words) ≡ Some number
    → number_of 1 100000 (value_in (codes "--docs") words) ≡ Some docs
    → selftest_of (λ name. value_in name words) ≡ Some (selftest number docs)
selftest_is words number docs n d = rw (n, d) refl

-- what isn't refused is a selftest, with the values that are found
pub selftest_found : (words : List Text) → are_options_in selftest_options words ≡ true
    → is_numeral_in (codes "--number") words ≡ true → is_numeral_in (codes "--docs") words ≡ true
    → fault_of selftest_command words ≡ [] → FindsSelftest (matches_of selftest_command words) (selftest_of (λ name. value_in name words))
selftest_found words e n d clean =
    let split = both_empty (refusals rules nothing_held words) _ (sym (parts words e) ∙ clean) in
    let needs = both_wanted (is_some (value_in (codes "--number") words)) (is_some (value_in (codes "--docs") words)) split.1 in
    let number_text = is_there (value_in (codes "--number") words) needs.0 in
    let docs_text = is_there (value_in (codes "--docs") words) needs.1 in
    let passed = each_passed rules selftest_options options nothing_held words e split.0 in
    let number = number_of_found rules selftest_options words options e (codes "number") number_text.0 0 2147483647 (omega arith) number_text.1
    (passed (codes "--number") number_text.0 number_rule number_text.1 refl) n in
    let docs = number_of_found rules selftest_options words options e (codes "docs") docs_text.0 1 100000 (omega arith) docs_text.1
    (passed (codes "--docs") docs_text.0 docs_rule docs_text.1 refl) d in
    subst (λ (rows : List Row). FindsSelftest rows (selftest_of (λ name. value_in name words))) (sym (matches_are (codes "selftest") selftest_rules selftest_options words options e)) (record {
      number = number.0;
      docs = docs.0;
      is = selftest_is words number.0 docs.0 number.1 docs.1;
      finds_number = number.2;
      finds_docs = docs.2;
    })

-- ---- words of another form, and the two answers of the command

record HasForm (words : List Text) : Type 0 where
  pub options : are_options_in selftest_options words ≡ true
  pub number : is_numeral_in (codes "--number") words ≡ true
  pub docs : is_numeral_in (codes "--docs") words ≡ true

has_form : (words : List Text) → has_selftest_form words ≡ true → HasForm words
has_form words e =
    let all = and_parts (are_options_in selftest_options words) (is_numeral_in (codes "--number") words && is_numeral_in (codes "--docs") words) e in
    let numbers = and_parts (is_numeral_in (codes "--number") words) (is_numeral_in (codes "--docs") words) all.1 in
    record { options = all.0; number = numbers.0; docs = numbers.1 }

pub selftest_formed : (words : List Text) → has_selftest_form words ≡ true → by_options selftest_options selftest_of words ≡ selftest_of (λ name. value_in name words)
selftest_formed words e = formed selftest_options words selftest_of (has_form words e).options

pub selftest_unformed : (words : List Text) → has_selftest_form words ≡ false → by_options selftest_options selftest_of words ≡ None
selftest_unformed words e = by (are_options_in selftest_options words) (is_numeral_in (codes "--number") words) (is_numeral_in (codes "--docs") words) refl refl refl e
  where
    by : (a b d : Bool) → are_options_in selftest_options words ≡ a → is_numeral_in (codes "--number") words ≡ b → is_numeral_in (codes "--docs") words ≡ d
        → (a && (b && d)) ≡ false → by_options selftest_options selftest_of words ≡ None
    by false b d are n m e = unformed selftest_options words selftest_of are
    by true false d are n m e =
        let none = no_number_of 0 2147483647 (value_in (codes "--number") words) n in
        formed selftest_options words selftest_of are
        ∙ ap (option_and_then (λ number. option_map (λ docs. selftest number docs) (number_of 1 100000 (value_in (codes "--docs") words)))) none
    by true true false are n m e =
        let none = no_number_of 1 100000 (value_in (codes "--docs") words) m in
        formed selftest_options words selftest_of are
        ∙ none_after (number_of 0 2147483647 (value_in (codes "--number") words)) _ (λ number. ap (option_map (λ docs. selftest number docs)) none)
    by true true true are n m e = absurd (true≢false e)

pub selftest_taken : (app : App) (words : List Text) (rows : List Row) → app ≡ selftest_command → has_selftest_form words ≡ true → fault_of app words ≡ [] → rows ≡ matches_of app words
    → FindsSelftest rows (selftest_of (λ name. value_in name words))
selftest_taken app words rows is e clean found =
    let form = has_form words e in
    let none : fault_of selftest_command words ≡ [] = ap (λ a. fault_of a words) (sym is) ∙ clean in
    subst (λ (list : List Row). FindsSelftest list (selftest_of (λ name. value_in name words))) (sym (found ∙ ap (λ a. matches_of a words) is))
    (selftest_found words form.options form.number form.docs none)

pub selftest_refused : (app : App) (words : List Text) → app ≡ selftest_command → has_selftest_form words ≡ true → ¬ (fault_of app words ≡ [])
    → None ≡ selftest_of (λ name. value_in name words)
selftest_refused app words is e refused = by (selftest_of (λ name. value_in name words)) refl
  where
    by : (o : Option Mode) → selftest_of (λ name. value_in name words) ≡ o → None ≡ o
    by None none = refl
    by (Some mode) is_mode = absurd (refused (ap (λ a. fault_of a words) is ∙ selftest_clean words mode (has_form words e).options is_mode))

-- ---- the values that are read

pub selftest_said : (rows : List Row) (mode : Option Mode) (finds : FindsSelftest rows mode) (number docs : ℕ)
    → Some number ≡ Some finds.number → Some docs ≡ Some finds.docs → Some (selftest number docs) ≡ mode
selftest_said rows mode finds number docs n d =
    let number_is : number ≡ finds.number = some_is number finds.number n in
    let docs_is : docs ≡ finds.docs = some_is docs finds.docs d in
    rw (number_is, docs_is) (sym finds.is)
