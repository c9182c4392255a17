-- What the kinds of faults print.
use Rattle.std.specs.Prelude.{ℕ, List, codes}
use Rattle.query_marks.specs.declared.fault.QueryKind.{QueryKind}
use Rattle.query_marks.specs.declared.fault.QueryKind.TheVariants as kinds

abbrev pub kind_text : QueryKind → List ℕ
kind_text kinds.UnclosedQuote = codes "unclosed quote"
kind_text kinds.Syntax = codes "syntax error"
kind_text kinds.OnlyNot = codes "only NOT"
kind_text kinds.UnknownField = codes "unknown field"
kind_text kinds.UnknownZone = codes "unknown zone"
kind_text kinds.NameTooLong = codes "name too long"
kind_text kinds.NumberOutOfRange = codes "number out of range"
kind_text kinds.Nesting = codes "nesting above 32"
kind_text kinds.TooManyKeywords = codes "too many keywords"
kind_text kinds.ZoneSpanBeforeOperator = codes "ZONESPAN before operator"
kind_text kinds.PrefixTooShort = codes "prefix too short"
