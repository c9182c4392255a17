-- What a door answers.
use Rattle.std.specs.Prelude.{List, [], Bool, true, false, Option, Some, None, option_to_list, Result, Ok, Err}
use Rattle.srch_base.specs.declared.faults.Failed.{Failed}

-- the line that was given, if one was
abbrev pub lines_in : {L : Type 0} → Result (Option L) Failed → List L
lines_in (Ok line) = option_to_list line
lines_in (Err e) = []

-- the answer that there is no further line
abbrev pub says_end : {L : Type 0} → Result (Option L) Failed → Bool
says_end (Ok None) = true
says_end (Ok (Some line)) = false
says_end (Err e) = false
