-- What a command of options finds at words, and when it refuses none of them.
use Rattle.std.proofs.Common.{◌≡◌, ◌∙◌, true, false, refl, sym, ap, List, [], ◌∷◌, Option, Some, None}
use Rattle.std.specs.Prelude.{drop, fold, option_map, option_and_then, slice_get}
use Rattle.std.specs.Option.{is_some, option_map_or, option_or}
use Rattle.std.specs.List.{list_all, list_any}
use Rattle.std.specs.Str.{bytes_eq}
use Rattle.clap.specs.Faults.{check_fault, default_fault, defaults_fault, fault_of, settle_fault, walk_fault}
use Rattle.clap.specs.Kinds.{or_else}
use Rattle.clap.specs.Simple.{built, filled_from, matches_of}
use Rattle.clap.specs.Walk.{Row, Rule, Text, Walk, finished, nothing_held, settled, walk_from, with_default}
use Rattle.clap.proofs.FaultLemmas.{leaf_fault}
use Rattle.command_line.specs.steps.Options.{command}
use Rattle.command_line.specs.steps.Words.{are_options_in, value_in}
use Rattle.command_line.proofs.Walking.{AreOptions, after, or_else_assoc, refusals, refusals_are, shape, walk_is}
use Rattle.command_line.proofs.RowsRead.{default_row, defaults_are, given, nothing_fresh, row_at, rows_are, word_of}

-- the rows that a command finds
abbrev pub rows_at_end : List Rule → List Text → List Row
rows_at_end c words = finished c (after c nothing_held words)

pub matches_are : (name : Text) (rules : List Rule) (names words : List Text) → AreOptions (filled_from 1 rules) names → are_options_in names words ≡ true
    → matches_of (command name rules) words ≡ rows_at_end (filled_from 1 rules) words
matches_are name rules names words opts e = ap (λ (m : Walk). finished (filled_from 1 rules) m.held) (walk_is (filled_from 1 rules) names opts nothing_held words e)

pub fault_is : (name : Text) (rules : List Rule) (names words : List Text) → AreOptions (filled_from 1 rules) names → are_options_in names words ≡ true
    → fault_of (command name rules) words
    ≡ or_else (refusals (filled_from 1 rules) nothing_held words)
    (or_else (defaults_fault (settled (filled_from 1 rules) (after (filled_from 1 rules) nothing_held words)).rows (filled_from 1 rules))
    (check_fault (shape name (filled_from 1 rules)) (rows_at_end (filled_from 1 rules) words) false))
fault_is name rules names words opts e =
    let c = filled_from 1 rules in
    let end = after c nothing_held words in
    let last = or_else (defaults_fault (settled c end).rows c) (check_fault (shape name c) (rows_at_end c words) false) in
    leaf_fault (built (command name rules)) nothing_held words refl
    ∙ ap (λ (m : Walk). or_else (walk_fault (shape name c) [] (walk_from nothing_held) words) (or_else (settle_fault c false m.held)
    (or_else (defaults_fault (settled c m.held).rows c) (check_fault (shape name c) (finished c m.held) false)))) (walk_is c names opts nothing_held words e)
    ∙ sym (or_else_assoc (walk_fault (shape name c) [] (walk_from nothing_held) words) (settle_fault c false end) last)
    ∙ ap (λ k. or_else k last) (refusals_are name c names opts nothing_held words e)

-- the row of a name: what was given, or its default
pub row_is : (c : List Rule) (names words : List Text) → AreOptions c names → are_options_in names words ≡ true → (id : Text)
    → row_at id (rows_at_end c words) ≡ option_or (option_map (given id) (value_in (word_of id) words)) (default_row id c)
row_is c names words opts e id =
    defaults_are id c (settled c (after c nothing_held words)).rows
    ∙ ap (λ o. option_or o (default_row id c)) (rows_are c names opts nothing_held words e (nothing_fresh c words) id ∙ or_none (option_map (given id) (value_in (word_of id) words)))
  where
    or_none : (o : Option Row) → option_or o None ≡ o
    or_none None = refl
    or_none (Some r) = refl

-- ---- the last checks

-- a default passes the parser of its option, which takes values
abbrev pub DefaultPasses : Rule → Type 0
DefaultPasses a = (rows : List Row) → default_fault rows a ≡ []

abbrev pub DefaultsPass : List Rule → Type 0
DefaultsPass [] = Rattle.std.specs.Prelude.⊤
DefaultsPass (a ∷ rest) = DefaultPasses a × DefaultsPass rest

pub no_default_refused : (c : List Rule) (rows : List Row) → DefaultsPass c → defaults_fault rows c ≡ []
unfolding defaults_fault
no_default_refused [] rows ok = refl
no_default_refused (a ∷ rest) rows ok = ap (λ k. or_else k (defaults_fault (with_default rows a) rest)) (ok.0 rows) ∙ no_default_refused rest (with_default rows a) ok.1
