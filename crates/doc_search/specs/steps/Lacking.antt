-- The search for the first document that has no weight: it asks whether each has one.
use Rattle.std.specs.Prelude.{ℕ, List, Bool, true, Option, Result, Ok, Err, Contains, ◌==◌, if◌then◌else◌}
use Rattle.srch_base.specs.declared.faults.Or.{Or}
use Rattle.srch_base.specs.declared.faults.Or.TheVariants.{NoMemory, Fault}
use Rattle.doc_types.specs.declared.documents.DocRow.{DocRow}
use Rattle.rankers.specs.Factors.{earlier}
use Rattle.row_select.specs.declared.row.Row.{Row}
use Rattle.doc_search.specs.Searches.{IsFirstLacking, LacksWeight}
use Rattle.doc_search.specs.declared.lacking.NoWeight.{NoWeight}
use Rattle.doc_search.specs.declared.question.Question.{Question}
use Rattle.doc_search.specs.declared.ranking.Ranking.{Ranking}
use Rattle.doc_search.specs.declared.ranking.Ranking.TheVariants as rankings

-- the ranker that tells whether this one gives a weight, if that may be asked
abbrev pub sought : Bool → Ranking → Ranking
sought true (rankings.Expr expr) = rankings.Lacking expr
sought lacking ranking = ranking

-- the question with that ranker
abbrev pub sought_question : Bool → Question → Question
sought_question lacking question = record question { ranker = sought lacking question.ranker }

-- one of these documents lacks a weight
abbrev pub LacksSome : Question → List DocRow → Type 0
LacksSome question docs = (doc : DocRow) × Contains docs doc × LacksWeight question doc

-- A search says this where it ended at a document without a weight.
abbrev pub IfStopped : {A : Type 0} → Result A (Or NoWeight) → Type 0 → Type 0
IfStopped (Ok answer) fact = Unit {0}
IfStopped (Err NoMemory) fact = Unit {0}
IfStopped (Err (Fault stop)) fact = fact

-- This is the first document that lacks a weight. Without memory nothing is said.
abbrev pub FirstOr : Question → List DocRow → Or ℕ → Type 0
FirstOr question docs NoMemory = Unit {0}
FirstOr question docs (Fault id) = IsFirstLacking question docs id

-- the least id so far of rows that weigh 0, with one row more
abbrev pub at_zero : Option ℕ → Row → Option ℕ
at_zero least row = if row.weight == 0 then earlier least row.id else least
