-- Which of several faults decides: of the first class that has any, the one that stands first.
use Rattle.std.specs.Prelude.{◌≡◌, ℕ, ◌<◌, ◌≤◌, List, ◌∷◌, ◌++◌, All, nat_lt, Option, Some, None, fold, if◌then◌else◌}
use Rattle.std.specs.Option.{option_map, option_to_list}
use Rattle.ql_refusals.specs.Refusals.{Refused}
use Rattle.ql_select.specs.declared.first_fault.Fault.{Fault}
use Rattle.ql_select.specs.declared.first_fault.FaultClass.{FaultClass}
use Rattle.ql_select.specs.declared.first_fault.FaultClass.TheVariants.{OptionName, Name, Kind, Limit}

-- how many classes come before a class
abbrev pub rank : FaultClass → ℕ
rank OptionName = 0
rank Name = 1
rank Kind = 2
rank Limit = 3

-- The fault that decides is one of all of them, in the order of the text: those before it are of later classes, and those after
-- it aren't of earlier ones.
pub record IsFirstFault (faults : List Fault) (fault : Fault) : Type 0 where
  pub before : List Fault
  pub after : List Fault
  pub stands : faults ≡ before ++ fault ∷ after
  pub before_it : All (λ other. rank fault.class < rank other.class) before
  pub after_it : All (λ other. rank fault.class ≤ rank other.class) after

-- the same by going over them: a fault takes the place of the one that decided so far, if its class is an earlier one
abbrev pub sooner : Option Fault → Fault → Option Fault
sooner None later = Some later
sooner (Some fault) later = Some (if nat_lt (rank later.class) (rank fault.class) then later else fault)

abbrev pub first_fault : List Fault → Option Fault
first_fault faults = fold sooner None faults

-- a fault of a class, where there is a refusal
abbrev pub fault_in : FaultClass → Option Refused → List Fault
fault_in class refusal = option_to_list (option_map (λ says. record { class = class; refusal = says }) refusal)
