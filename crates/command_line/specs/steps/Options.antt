-- Commands whose arguments are options with one value each, as `clap` sees them.
use Rattle.std.specs.Prelude.{ℕ, true, List, [], ◌∷◌, Some}
use Rattle.clap.specs.Words.{App, Rule, Text, new_rule}
use Rattle.clap.specs.Simple.{new_shape}
use Rattle.clap.specs.declared.builder.action.ArgAction.TheVariants.{Set}
use Rattle.clap.specs.declared.builder.value_parser.ValueParser.TheVariants as parser

-- an option `--id` with one value
abbrev pub option : Text → Rule
option id = record (new_rule id) { long = Some id; action = Some Set }

-- a text that has to be given
abbrev pub text : Text → Rule
text id = record (option id) { required = true }

-- a number from `low` to `high`
abbrev pub number : Text → ℕ → ℕ → Rule
number id low high = record (option id) { parser = Some (parser.Unsigned low high) }

-- a number that has to be given
abbrev pub needed : Text → ℕ → ℕ → Rule
needed id low high = record (number id low high) { required = true }

-- a number that is this one without the option
abbrev pub defaulted : Text → Text → ℕ → ℕ → Rule
defaulted id default low high = record (number id low high) { defaults = default ∷ [] }

-- a command with these options alone, whose words begin with the first option
abbrev pub command : Text → List Rule → App
command name rules = record {
  top = record (new_shape name) {
    rules = rules;
    no_binary_name = true;
    disable_help_flag = true;
  };
  subs = [];
}
