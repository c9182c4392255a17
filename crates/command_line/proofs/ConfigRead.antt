-- The command of a mode whose one option is the configuration's file.
use Rattle.std.proofs.Common.{◌≡◌, ◌∙◌, ◌||◌, true, false, not, refl, sym, ap, ap₂, List, [], Option, Some, None}
use Rattle.std.specs.Prelude.{codes}
use Rattle.clap.specs.Simple.{filled_from, filled, matches_of, with_index}
use Rattle.clap.specs.Walk.{Rule, Text, Row, first_of, nothing_held, settled}
use Rattle.command_line.specs.Modes.{session_options}
use Rattle.command_line.specs.steps.Commands.{config_rules}
use Rattle.command_line.specs.steps.Words.{are_options_in, value_in}
use Rattle.command_line.proofs.Walking.{AreOptions, IsOption, after, both_empty, refusals, shape}
use Rattle.command_line.proofs.Optional.{Each, HasRule, Passes, all_pass, each_name, given_is, is_there, no_default, one_wanted, passes, text_found}
use Rattle.command_line.proofs.Commanding.{fault_is, DefaultsPass, matches_are, no_default_refused, rows_at_end}
use Rattle.command_line.proofs.Accepting.{none_refused}
use Rattle.command_line.proofs.RowsRead.{nothing_fresh}
use Rattle.clap.specs.Faults.{check_fault, fault_of}
use Rattle.clap.specs.Kinds.{check_kinds, or_else}
use Rattle.clap.specs.Words.{App}
use Rattle.command_line.specs.steps.Options.{command, text}
use Rattle.std.specs.Option.{is_some}

abbrev rules : List Rule
rules = filled_from 1 config_rules

abbrev config_rule : Rule
config_rule = with_index 1 (filled (text (codes "config")))

option : (name : Text) (a : Rule) → IsOption rules name a → HasRule rules name
option name a is = (a, is)

each_option : Each (HasRule rules) session_options
each_option = (option (codes "--config") config_rule (record { spelled = refl; long = refl; other = refl; by_long = refl; by_id = refl; range = refl; action = refl; reading = refl }), tt)

options : AreOptions rules session_options
options = each_name (HasRule rules) session_options each_option

no_default_fails : DefaultsPass rules
no_default_fails = (no_default config_rule refl, tt)

check_is : (name : Text) (words : List Text) → are_options_in session_options words ≡ true
    → check_fault (shape name rules) (rows_at_end rules words) false ≡ check_kinds false false (not (is_some (value_in (codes "--config") words)) || false)
check_is name words e =
    ap (λ config. check_kinds false false (not config || false)) (given_is rules session_options words options e (codes "config") refl)

parts : (name : Text) (words : List Text) → are_options_in session_options words ≡ true
    → fault_of (command name config_rules) words ≡ or_else (refusals rules nothing_held words) (check_kinds false false (not (is_some (value_in (codes "--config") words)) || false))
parts name words e =
    fault_is name config_rules session_options words options e
    ∙ ap₂ (λ d k. or_else (refusals rules nothing_held words) (or_else d k))
    (no_default_refused rules (settled rules (after rules nothing_held words)).rows no_default_fails) (check_is name words e)

-- where the file is given, nothing is refused
pub config_clean : (name : Text) (words : List Text) (file : Text) → are_options_in session_options words ≡ true → value_in (codes "--config") words ≡ Some file
    → fault_of (command name config_rules) words ≡ []
config_clean name words file e has =
    let passed : Each (Passes rules words) session_options = (passes rules words (codes "--config") config_rule refl (λ v has. refl), tt) in
    parts name words e
    ∙ ap₂ (λ k b. or_else k (check_kinds false false (not (is_some b) || false)))
    (none_refused rules session_options options nothing_held words e (nothing_fresh rules words) refl (all_pass rules session_options words e passed)) has

-- where nothing is refused, the file is found
pub config_found : (name : Text) (words : List Text) → are_options_in session_options words ≡ true → fault_of (command name config_rules) words ≡ []
    → first_of (codes "config") (matches_of (command name config_rules) words) ≡ value_in (codes "--config") words
config_found name words e clean =
    let split = both_empty (refusals rules nothing_held words) _ (sym (parts name words e) ∙ clean) in
    let file = is_there (value_in (codes "--config") words) (one_wanted (is_some (value_in (codes "--config") words)) split.1) in
    ap (first_of (codes "config")) (matches_are name config_rules session_options words options e)
    ∙ text_found rules session_options words options e (codes "config") file.0 file.1 ∙ sym file.1

-- ---- the two answers of the command

pub config_taken : (app : App) (name : Text) (words : List Text) (rows : List Row) → app ≡ command name config_rules → are_options_in session_options words ≡ true
    → fault_of app words ≡ [] → rows ≡ matches_of app words → first_of (codes "config") rows ≡ value_in (codes "--config") words
config_taken app name words rows is e clean found =
    ap (first_of (codes "config")) (found ∙ ap (λ a. matches_of a words) is)
    ∙ config_found name words e (ap (λ a. fault_of a words) (sym is) ∙ clean)

pub config_refused : (app : App) (name : Text) (words : List Text) → app ≡ command name config_rules → are_options_in session_options words ≡ true
    → ¬ (fault_of app words ≡ []) → None ≡ value_in (codes "--config") words
config_refused app name words is e refused = by (value_in (codes "--config") words) refl
  where
    by : (o : Option Text) → value_in (codes "--config") words ≡ o → None ≡ o
    by None none = refl
    by (Some file) has = absurd (refused (ap (λ a. fault_of a words) is ∙ config_clean name words file e has))
