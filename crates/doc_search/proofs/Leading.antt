-- A search that goes on past rows that fail.
use Rattle.std.proofs.Common.{◌≡◌, ℕ, ◌+◌, ◌≤◌, List, Option, Some, None, ◌++◌, sym, subst, arith}
use Rattle.std.specs.List.{filter}
use Rattle.std.proofs.lemmas.Option.{IfSome_then}
use Rattle.doc_types.specs.declared.documents.DocRow.{DocRow}
use Rattle.doc_types.specs.Snapshots.{LayerValue, living}
use Rattle.op_eval.specs.Matching.{matches}
use Rattle.op_eval.specs.Streams.{GoesOn, Stream}
use Rattle.row_select.specs.declared.row.Row.{Row}
use Rattle.doc_search.specs.declared.listed_rows.ListedRows.{ListedRows}
use Rattle.doc_search.specs.declared.question.Question.{Question}
use Rattle.doc_search.specs.steps.Gathering.{Gathers, IsOnWay}
use Rattle.doc_search.specs.steps.ListedRows.{GoBy, GoesPast, IsLed, Leaves}
use Rattle.doc_search.proofs.Gathering.{on_way_last, on_way_past}

-- what is left is left at a later row too
pub leaves_later : (question : Question) (docs : List DocRow) (from to : ℕ) (rows : ListedRows) → from ≤ to → Leaves question docs from rows → Leaves question docs to rows
leaves_later question docs from to rows up leaves = record {
  first = leaves.first;
  ends = leaves.ends;
  listed = IfSome_then rows.ids leaves.listed (λ ids so. (so.0, λ k doc on there holding. so.1 k doc (omega (arith, up, on)) there holding));
}

-- past the rows that fail, the stream went on by itself
pub goes_past : (question : Question) (docs : List DocRow) (at from : ℕ) (old : Stream) (row : Option ℕ) (new : Stream) (rows : ListedRows) → GoBy question docs at from → Leaves question docs (from + 1) rows → GoesOn (record old { at = from }) row new → GoesPast question docs at old row new rows
goes_past question docs at from old None new rows by leaves on = record { from = from; by = by; on = on; leaves = tt }
goes_past question docs at from old (Some row) new rows by leaves on = record {
  from = from;
  by = by;
  on = on;
  leaves = leaves_later question docs (from + 1) (row + 1) rows (omega (arith, on.on)) leaves;
}

module _ {S : Type 0} (Took : S → List Row → S → Type 0) (question : Question) (layer : LayerValue) (docs : List DocRow) (its : docs ≡ layer.rows) (start here : S) where
  -- the rows that fail went by
  pub led_past : (at : ℕ) (old new : Stream) (row : Option ℕ) (rows later : ListedRows) → IsLed Took question layer start old at rows here → (Leaves question docs at rows → GoesPast question docs at old row new later) → (past : GoesPast question layer.rows at old row new later) × IsOnWay Took question layer start (record old { at = past.from }) here
  led_past at old new row rows later led goes =
      let past : GoesPast question layer.rows at old row new later =
      subst (λ all. GoesPast question all at old row new later) its (goes (subst (λ all. Leaves question all at rows) (sym its) led.leaves)) in
      (past, on_way_past Took question layer old start here at past.from led.stands past.by led.way)

  -- no row is left
  pub led_last : (at : ℕ) (old new : Stream) (rows later : ListedRows) → IsLed Took question layer start old at rows here → (Leaves question docs at rows → GoesPast question docs at old None new later) → (first : S) (before : List DocRow) → Gathers Took question first before start → Gathers Took question first (before ++ filter (matches question.query) (living layer)) here
  led_last at old new rows later led goes =
      let past = led_past at old new None rows later led goes in
      on_way_last Took question layer (record old { at = past.0.from }) start here past.0.on.0 past.1
