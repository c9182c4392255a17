-- What is answered to the text of a MATCH.
use Rattle.std.specs.Prelude.{◌≡◌, ℕ, List, true, Result, Ok, Err}
use Rattle.std.specs.Str.{is_utf8}
use Rattle.srch_base.specs.declared.faults.Or.{Or}
use Rattle.srch_base.specs.declared.faults.Or.TheVariants.{NoMemory, Fault}
use Rattle.index_conf.specs.declared.conf.IndexConf.{IndexConf}
use Rattle.ql_refusals.specs.Refusals.{Refused}
use Rattle.query_tree.specs.declared.query.Query.{Query}
use Rattle.query_read.specs.Queries.{ReadsQuery}
use Rattle.ql_select.specs.Selections.{RefusesText, setting}

-- the text is the query; without memory nothing is said
abbrev pub ReadsText : IndexConf → List ℕ → Result Query (Or Refused) → Type 0
ReadsText conf text (Ok query) = (is_utf8 text ≡ true) × ReadsQuery (setting conf) text (Ok query)
ReadsText conf text (Err NoMemory) = Unit {0}
ReadsText conf text (Err (Fault refusal)) = RefusesText conf text refusal
