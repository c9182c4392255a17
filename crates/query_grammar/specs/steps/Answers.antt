-- What the parts of the reader answer.
use Rattle.std.specs.Prelude.{◌≡◌, ℕ, List, Option, Some, None, Result, Ok, Err}
use Rattle.srch_base.specs.declared.faults.Or.{Or}
use Rattle.srch_base.specs.declared.faults.Or.TheVariants.{NoMemory, Fault}
use Rattle.query_marks.specs.declared.mark.Mark.{Mark}
use Rattle.query_tree.specs.declared.query.Node.{Node}
use Rattle.query_grammar.specs.declared.fault.QueryFault.{QueryFault}
use Rattle.query_grammar.specs.Grammar.{IsQuery}
use Rattle.query_grammar.specs.QueryFaults.{Any, Stops, Told, IsCandidate, IsFirstFault}
use Rattle.query_grammar.specs.Queries.{told_of}

-- reading stops at the place, or not at all
abbrev pub StopsAt : List Mark → Option ℕ → Type 0
StopsAt marks None = (node : Node) × IsQuery Any 32 node marks
StopsAt marks (Some place) = (front : List Mark) × (stop : Mark) × Stops marks front stop × (place ≡ stop.at)

-- what the reader of all marks answers
abbrev pub ReadsWhole : List Mark → Result Node (Or ℕ) → Type 0
ReadsWhole marks (Ok node) = IsQuery Any 32 node marks
ReadsWhole marks (Err NoMemory) = Unit {0}
ReadsWhole marks (Err (Fault place)) = StopsAt marks (Some place)

-- what is found for a fault
abbrev pub IsFound : List Mark → Option QueryFault → Type 0
IsFound marks None = (told : Told) → IsCandidate marks told → ⊥
IsFound marks (Some fault) = IsFirstFault marks (told_of fault)
