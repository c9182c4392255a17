-- The names of a SELECT, or the fault that decides.
use Rattle.std.specs.Prelude.{◌≡◌, None, Result, Ok, Err}
use Rattle.srch_base.specs.declared.faults.Or.{Or}
use Rattle.srch_base.specs.declared.faults.Or.TheVariants.{NoMemory, Fault}
use Rattle.doc_types.specs.declared.schema.Schema.{Schema}
use Rattle.ql_tree.specs.declared.select.Select.{Select}
use Rattle.ql_refusals.specs.Refusals.{Refused}
use Rattle.ql_select.specs.declared.names.Names.{Names}
use Rattle.ql_select.specs.Faults.{select_fault}
use Rattle.ql_select.specs.Names.{names_of}
use Rattle.ql_select.specs.Selections.{RefusesNames}

-- nothing is wrong, and these are the names; or the SELECT is refused; without memory nothing is said
abbrev pub NamesOr : Schema → Select → Result Names (Or Refused) → Type 0
NamesOr schema select (Ok names) = (select_fault schema select ≡ None) × (names ≡ names_of schema select)
NamesOr schema select (Err NoMemory) = Unit {0}
NamesOr schema select (Err (Fault refusal)) = RefusesNames schema select refusal
