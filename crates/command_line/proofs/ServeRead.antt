-- The command of `serve` refuses exactly what isn't one.
use Rattle.std.proofs.Common.{◌≡◌, ◌∙◌, ◌&&◌, ◌||◌, ℕ, Bool, true, false, not, refl, sym, ap, ap₂, subst, true≢false, arith, List, [], Option, Some, None}
use Rattle.std.specs.Prelude.{codes, option_and_then, option_map}
use Rattle.clap.specs.Simple.{filled_from, filled, matches_of, with_index}
use Rattle.clap.specs.Walk.{Rule, Text, Row, first_of, nothing_held, settled}
use Rattle.command_line.specs.Modes.{Mode, by_options, number_or, serve, serve_of, serve_options}
use Rattle.command_line.specs.steps.Commands.{serve_rules, serve_command}
use Rattle.command_line.specs.steps.Words.{are_options_in, has_serve_form, is_numeral_in, value_in}
use Rattle.command_line.proofs.Walking.{AreOptions, IsOption, after, both_empty, refusals, shape}
use Rattle.command_line.proofs.Optional.{Each, no_number_or, none_after, HasRule, Passes, all_pass, both_wanted, bound, each_name, given_is, good_default, is_there, mapped, no_default, number_or_found, number_passes, passes, text_found}
use Rattle.command_line.proofs.Commanding.{fault_is, DefaultsPass, matches_are, no_default_refused, rows_at_end}
use Rattle.command_line.proofs.Accepting.{each_passed, none_refused}
use Rattle.command_line.proofs.RowsRead.{by_default, nothing_fresh}
use Rattle.clap.specs.Faults.{check_fault, fault_of}
use Rattle.clap.specs.Kinds.{check_kinds, or_else}
use Rattle.std.specs.Str.Parse.{IsNumeral, without_leading_plus}
use Rattle.std.proofs.lemmas.Bool.{and_parts}
use Rattle.clap.specs.Words.{App}
use Rattle.command_line.proofs.Numbers.{is_numeral}
use Rattle.command_line.proofs.Pairing.{formed, some_is, unformed}
use Rattle.command_line.specs.steps.Options as o
use Rattle.command_line.specs.steps.Options.{text}
use Rattle.command_line.specs.steps.Found.{FindsServe}
use Rattle.std.specs.Option.{is_some}

abbrev rules : List Rule
rules = filled_from 1 serve_rules

abbrev config_rule : Rule
config_rule = with_index 1 (filled (text (codes "config")))

abbrev listen_rule : Rule
listen_rule = with_index 1 (filled (text (codes "listen")))

abbrev workers_rule : Rule
workers_rule = with_index 1 (filled (o.defaulted (codes "workers") (codes "4") 1 64))

abbrev sessions_rule : Rule
sessions_rule = with_index 1 (filled (o.defaulted (codes "sessions") (codes "1000000") 1 1000000))

-- ---- the options are those of the mode

option : (name : Text) (a : Rule) → IsOption rules name a → HasRule rules name
option name a is = (a, is)

each_option : Each (HasRule rules) serve_options
each_option = (
  option (codes "--config") config_rule (record { spelled = refl; long = refl; other = refl; by_long = refl; by_id = refl; range = refl; action = refl; reading = refl }),
  (
    option (codes "--listen") listen_rule (record { spelled = refl; long = refl; other = refl; by_long = refl; by_id = refl; range = refl; action = refl; reading = refl }),
    (
      option (codes "--workers") workers_rule (record { spelled = refl; long = refl; other = refl; by_long = refl; by_id = refl; range = refl; action = refl; reading = refl }),
      (option (codes "--sessions") sessions_rule (record { spelled = refl; long = refl; other = refl; by_long = refl; by_id = refl; range = refl; action = refl; reading = refl }), tt),
    ),
  ),
)

options : AreOptions rules serve_options
options = each_name (HasRule rules) serve_options each_option

no_default_fails : DefaultsPass rules
no_default_fails =
    (no_default config_rule refl, (no_default listen_rule refl, (good_default workers_rule refl refl, (good_default sessions_rule refl refl, tt))))

-- ---- both ways

-- the last check fails only for a text that is wanted and isn't given
check_is : (words : List Text) → are_options_in serve_options words ≡ true
    → check_fault (shape (codes "serve") rules) (rows_at_end rules words) false
    ≡ check_kinds false false (not (is_some (value_in (codes "--config") words)) || (not (is_some (value_in (codes "--listen") words)) || false))
check_is words e =
    ap₂ (λ config listen. check_kinds false false (not config || (not listen || false)))
    (given_is rules serve_options words options e (codes "config") refl)
    (given_is rules serve_options words options e (codes "listen") refl)

parts : (words : List Text) → are_options_in serve_options words ≡ true
    → fault_of serve_command words ≡ or_else (refusals rules nothing_held words) (check_kinds false false (not (is_some (value_in (codes "--config") words)) || (not (is_some (value_in (codes "--listen") words)) || false)))
parts words e =
    fault_is (codes "serve") serve_rules serve_options words options e
    ∙ ap₂ (λ d k. or_else (refusals rules nothing_held words) (or_else d k))
    (no_default_refused rules (settled rules (after rules nothing_held words)).rows no_default_fails) (check_is words e)

-- what is a serve isn't refused
pub serve_clean : (words : List Text) (mode : Mode) → are_options_in serve_options words ≡ true → serve_of (λ name. value_in name words) ≡ Some mode
    → fault_of serve_command words ≡ []
serve_clean words mode e is =
    let config = bound _ (value_in (codes "--config") words) mode is in
    let listen = bound _ (value_in (codes "--listen") words) mode config.2 in
    let workers = bound _ (number_or 4 1 64 (value_in (codes "--workers") words)) mode listen.2 in
    let sessions = mapped _ (number_or 1000000 1 1000000 (value_in (codes "--sessions") words)) mode workers.2 in
    let passed : Each (Passes rules words) serve_options = (
      passes rules words (codes "--config") config_rule refl (λ v has. refl),
      (
        passes rules words (codes "--listen") listen_rule refl (λ v has. refl),
        (
          passes rules words (codes "--workers") workers_rule refl (λ v has. number_passes v 4 1 64 workers.0 (value_in (codes "--workers") words) has workers.1 (omega arith)),
          (passes rules words (codes "--sessions") sessions_rule refl (λ v has. number_passes v 1000000 1 1000000 sessions.0 (value_in (codes "--sessions") words) has sessions.1 (omega arith)), tt),
        ),
      ),
    ) in
    parts words e
    ∙ ap₂ (λ k b. or_else k (check_kinds false false (not (is_some b) || (not (is_some (value_in (codes "--listen") words)) || false))))
    (none_refused rules serve_options options nothing_held words e (nothing_fresh rules words) refl (all_pass rules serve_options words e passed)) config.1
    ∙ ap (λ b. check_kinds false false (not (is_some b) || false)) listen.1

four : IsNumeral 10 (without_leading_plus (codes "4"))
four = (is_numeral (codes "4") refl).0

million : IsNumeral 10 (without_leading_plus (codes "1000000"))
million = (is_numeral (codes "1000000") refl).0

serve_is : (words : List Text) (config listen : Text) (workers sessions : ℕ) → value_in (codes "--config") words ≡ Some config → value_in (codes "--listen") words ≡ Some listen
    → number_or 4 1 64 (value_in (codes "--workers") words) ≡ Some workers → number_or 1000000 1 1000000 (value_in (codes "--sessions") words) ≡ Some sessions
    → serve_of (λ name. value_in name words) ≡ Some (serve config listen workers sessions)
serve_is words config listen workers sessions c l w s = rw (c, l, w, s) refl

-- what isn't refused is a serve, with the values that are found
pub serve_found : (words : List Text) → are_options_in serve_options words ≡ true
    → is_numeral_in (codes "--workers") words ≡ true → is_numeral_in (codes "--sessions") words ≡ true
    → fault_of serve_command words ≡ [] → FindsServe (matches_of serve_command words) (serve_of (λ name. value_in name words))
serve_found words e w s clean =
    let split = both_empty (refusals rules nothing_held words) _ (sym (parts words e) ∙ clean) in
    let needs = both_wanted (is_some (value_in (codes "--config") words)) (is_some (value_in (codes "--listen") words)) split.1 in
    let config = is_there (value_in (codes "--config") words) needs.0 in
    let listen = is_there (value_in (codes "--listen") words) needs.1 in
    let passed = each_passed rules serve_options options nothing_held words e split.0 in
    let workers = number_or_found rules serve_options words options e (codes "workers") (codes "4") 4 1 64 (by_default workers_rule) refl refl four refl (omega arith) (omega arith)
    (λ v has. passed (codes "--workers") v workers_rule has refl) w in
    let sessions = number_or_found rules serve_options words options e (codes "sessions") (codes "1000000") 1000000 1 1000000 (by_default sessions_rule) refl refl million refl (omega arith) (omega arith)
    (λ v has. passed (codes "--sessions") v sessions_rule has refl) s in
    let value : serve_of (λ name. value_in name words) ≡ Some (serve config.0 listen.0 workers.0 sessions.0) =
    serve_is words config.0 listen.0 workers.0 sessions.0 config.1 listen.1 workers.1 sessions.1 in
    subst (λ (rows : List Row). FindsServe rows (serve_of (λ name. value_in name words))) (sym (matches_are (codes "serve") serve_rules serve_options words options e)) (record {
      config = config.0;
      listen = listen.0;
      workers = workers.0;
      sessions = sessions.0;
      is = value;
      finds_config = text_found rules serve_options words options e (codes "config") config.0 config.1;
      finds_listen = text_found rules serve_options words options e (codes "listen") listen.0 listen.1;
      finds_workers = workers.2;
      finds_sessions = sessions.2;
    })

-- ---- words of another form, and the two answers of the command

record HasForm (words : List Text) : Type 0 where
  pub options : are_options_in serve_options words ≡ true
  pub workers : is_numeral_in (codes "--workers") words ≡ true
  pub sessions : is_numeral_in (codes "--sessions") words ≡ true

has_form : (words : List Text) → has_serve_form words ≡ true → HasForm words
has_form words e =
    let all = and_parts (are_options_in serve_options words) (is_numeral_in (codes "--workers") words && is_numeral_in (codes "--sessions") words) e in
    let numbers = and_parts (is_numeral_in (codes "--workers") words) (is_numeral_in (codes "--sessions") words) all.1 in
    record { options = all.0; workers = numbers.0; sessions = numbers.1 }

pub serve_formed : (words : List Text) → has_serve_form words ≡ true → by_options serve_options serve_of words ≡ serve_of (λ name. value_in name words)
serve_formed words e = formed serve_options words serve_of (has_form words e).options

pub serve_unformed : (words : List Text) → has_serve_form words ≡ false → by_options serve_options serve_of words ≡ None
serve_unformed words e = by (are_options_in serve_options words) (is_numeral_in (codes "--workers") words) (is_numeral_in (codes "--sessions") words) refl refl refl e
  where
    after_workers : (o : Option ℕ) → number_or 1000000 1 1000000 (value_in (codes "--sessions") words) ≡ None → (config listen : Text)
        → option_and_then (λ workers. option_map (λ sessions. serve config listen workers sessions) (number_or 1000000 1 1000000 (value_in (codes "--sessions") words))) o ≡ None
    after_workers o none config listen = none_after o _ (λ workers. ap (option_map (λ sessions. serve config listen workers sessions)) none)

    by : (a b d : Bool) → are_options_in serve_options words ≡ a → is_numeral_in (codes "--workers") words ≡ b → is_numeral_in (codes "--sessions") words ≡ d
        → (a && (b && d)) ≡ false → by_options serve_options serve_of words ≡ None
    by false b d are w s e = unformed serve_options words serve_of are
    by true false d are w s e =
        let none = no_number_or 4 1 64 (value_in (codes "--workers") words) w in
        formed serve_options words serve_of are
        ∙ none_after (value_in (codes "--config") words) _ (λ config. none_after (value_in (codes "--listen") words) _ (λ listen.
        ap (option_and_then (λ workers. option_map (λ sessions. serve config listen workers sessions) (number_or 1000000 1 1000000 (value_in (codes "--sessions") words)))) none))
    by true true false are w s e =
        let none = no_number_or 1000000 1 1000000 (value_in (codes "--sessions") words) s in
        formed serve_options words serve_of are
        ∙ none_after (value_in (codes "--config") words) _ (λ config. none_after (value_in (codes "--listen") words) _ (λ listen.
        after_workers (number_or 4 1 64 (value_in (codes "--workers") words)) none config listen))
    by true true true are w s e = absurd (true≢false e)

pub serve_taken : (app : App) (words : List Text) (rows : List Row) → app ≡ serve_command → has_serve_form words ≡ true → fault_of app words ≡ [] → rows ≡ matches_of app words
    → FindsServe rows (serve_of (λ name. value_in name words))
serve_taken app words rows is e clean found =
    let form = has_form words e in
    let none : fault_of serve_command words ≡ [] = ap (λ a. fault_of a words) (sym is) ∙ clean in
    subst (λ (list : List Row). FindsServe list (serve_of (λ name. value_in name words))) (sym (found ∙ ap (λ a. matches_of a words) is))
    (serve_found words form.options form.workers form.sessions none)

pub serve_refused : (app : App) (words : List Text) → app ≡ serve_command → has_serve_form words ≡ true → ¬ (fault_of app words ≡ [])
    → None ≡ serve_of (λ name. value_in name words)
serve_refused app words is e refused = by (serve_of (λ name. value_in name words)) refl
  where
    by : (o : Option Mode) → serve_of (λ name. value_in name words) ≡ o → None ≡ o
    by None none = refl
    by (Some mode) is_mode = absurd (refused (ap (λ a. fault_of a words) is ∙ serve_clean words mode (has_form words e).options is_mode))

-- ---- the values that are read

pub serve_said : (rows : List Row) (mode : Option Mode) (finds : FindsServe rows mode) (config listen : Text) (workers sessions : ℕ)
    → Some config ≡ first_of (codes "config") rows → Some listen ≡ first_of (codes "listen") rows → Some workers ≡ Some finds.workers → Some sessions ≡ Some finds.sessions
    → Some (serve config listen workers sessions) ≡ mode
serve_said rows mode finds config listen workers sessions c l w s =
    let config_is : config ≡ finds.config = some_is config finds.config (c ∙ finds.finds_config) in
    let listen_is : listen ≡ finds.listen = some_is listen finds.listen (l ∙ finds.finds_listen) in
    let workers_is : workers ≡ finds.workers = some_is workers finds.workers w in
    let sessions_is : sessions ≡ finds.sessions = some_is sessions finds.sessions s in
    rw (config_is, listen_is, workers_is, sessions_is) (sym finds.is)
