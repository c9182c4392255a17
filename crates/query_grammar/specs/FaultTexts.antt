-- What the faults of a query print.
use Rattle.std.specs.Prelude.{ℕ, List, ◌++◌, codes}
use Rattle.std.specs.Fmt.{decimal}
use Rattle.query_grammar.specs.declared.fault.QueryFault.{QueryFault}
use Rattle.query_marks.specs.declared.fault.QueryKind.{QueryKind}
use Rattle.query_marks.specs.declared.fault.QueryKind.TheVariants as kinds
use Rattle.query_marks.specs.KindTexts.{kind_text}

-- the name, in quotes, where a name isn't known
abbrev pub name_text : QueryKind → List ℕ → List ℕ
name_text kinds.UnknownField name = codes " '" ++ name ++ codes "'"
name_text kinds.UnknownZone name = codes " '" ++ name ++ codes "'"
name_text _ name = codes ""

-- `query: `, the kind, the name and the place
abbrev pub fault_text : QueryFault → List ℕ
fault_text fault = codes "query: " ++ kind_text fault.kind ++ name_text fault.kind fault.name ++ codes " at " ++ decimal fault.place
