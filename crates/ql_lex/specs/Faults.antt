-- What the faults of a text print.
use Rattle.std.specs.Prelude.{ℕ, List, ◌++◌, codes}
use Rattle.std.specs.Fmt.{decimal}
use Rattle.ql_lex.specs.declared.fault.LexFault.{LexFault}
use Rattle.ql_lex.specs.declared.fault.LexKind.{LexKind}
use Rattle.ql_lex.specs.declared.fault.LexKind.TheVariants.{NotUtf8, UnclosedQuote, UnclosedComment, BadCharacter, NumberTooLarge, NumberWithPoint, NameTooLong}

abbrev pub kind_text : LexKind → List ℕ
kind_text NotUtf8 = codes "text is not UTF-8"
kind_text UnclosedQuote = codes "unclosed quote"
kind_text UnclosedComment = codes "unclosed comment"
kind_text BadCharacter = codes "bad character"
kind_text NumberTooLarge = codes "number too large"
kind_text NumberWithPoint = codes "number with a point"
kind_text NameTooLong = codes "name too long"

-- the kind, and the place
abbrev pub fault_text : LexFault → List ℕ
fault_text fault = kind_text fault.kind ++ codes " at " ++ decimal fault.place
