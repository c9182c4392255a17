-- What the faults print.
use Rattle.std.specs.Prelude.{ℕ, List, ◌++◌, codes}
use Rattle.std.specs.Fmt.{decimal}
use Rattle.ql_grammar.specs.declared.fault.ParseFault.{ParseFault}
use Rattle.ql_grammar.specs.declared.fault.ParseKind.{ParseKind}
use Rattle.ql_grammar.specs.declared.fault.ParseKind.TheVariants.{Syntax, TooMany}

abbrev pub kind_text : ParseKind → List ℕ
kind_text Syntax = codes "syntax error"
kind_text TooMany = codes "too many statements"

-- the kind, and the place of a syntax error
abbrev pub text_by : ParseKind → ℕ → List ℕ
text_by Syntax place = kind_text Syntax ++ codes " at " ++ decimal place
text_by TooMany place = kind_text TooMany

abbrev pub fault_text : ParseFault → List ℕ
fault_text fault = text_by fault.kind fault.place
