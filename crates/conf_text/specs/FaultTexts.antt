-- What the kinds of faults print.
use Rattle.std.specs.Prelude.{ℕ, List, codes}
use Rattle.conf_text.specs.declared.fault.ConfKind.{ConfKind}
use Rattle.conf_text.specs.declared.fault.ConfKind.TheVariants as kinds

abbrev pub kind_text : ConfKind → List ℕ
kind_text kinds.NotText = codes "not UTF-8"
kind_text kinds.Syntax = codes "syntax"
kind_text kinds.UnknownSection = codes "unknown section"
kind_text kinds.UnknownKey = codes "unknown key"
kind_text kinds.BadValue = codes "bad value"
kind_text kinds.Repeated = codes "repeated"
kind_text kinds.Missing = codes "missing key"
kind_text kinds.Limit = codes "limit"
