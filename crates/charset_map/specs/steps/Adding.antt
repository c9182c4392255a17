-- Spans that stand for the entries of a table, and what it is to add one.
use Rattle.std.specs.Prelude.{◌≡◌, ◌≢◌, ℕ, List, Bool, true, false, Option, Result, Ok, Err}
use Rattle.std.specs.Char.{IsScalar}
use Rattle.std.specs.Option.{option_map, option_or}
use Rattle.srch_base.specs.declared.faults.NoMemory.{NoMemory}
use Rattle.srch_base.specs.declared.faults.Or.{Or}
use Rattle.srch_base.specs.declared.faults.Or.TheVariants as causes
use Rattle.charset_map.specs.declared.fault.CharsetKind.{CharsetKind}
use Rattle.charset_map.specs.declared.fault.CharsetKind.TheVariants as kinds
use Rattle.charset_map.specs.declared.entries.Entry.{Entry}
use Rattle.charset_map.specs.declared.span.Span.{Span}
use Rattle.charset_map.specs.Characters.{ordinal, character_at}
use Rattle.charset_map.specs.Table.{Rises, steps, IsEven, value_of, IsTable}
use Rattle.charset_map.specs.Spans.{number_in}
use Rattle.charset_map.specs.steps.SpanLists.{SameWhereBoth, Differ}
use Rattle.std.specs.Prelude.{◌≡◌, ◌≢◌, ℕ, List, Option, Result, Ok, Err}
use Rattle.charset_map.specs.declared.fault.CharsetFault.{CharsetFault}
use Rattle.charset_map.specs.Spans.{folded}
use Rattle.charset_map.specs.Table.{Rises, steps, IsEven, value_of, IsTable}
use Rattle.charset_map.specs.TableText.{IsTableOf, IsFirstFault}

-- the map between characters, by the map between their numbers
abbrev pub by_numbers : (ℕ → Option ℕ) → ℕ → Option ℕ
by_numbers numbers c = option_map character_at (numbers (ordinal c))

-- the map between numbers is that of a table's entries
pub record StandsFor (numbers : ℕ → Option ℕ) (entries : List Entry) : Type 0 where
  pub sound : IsTable entries
  pub values : (c : ℕ) → IsScalar c → by_numbers numbers c ≡ value_of entries c

-- the span of an even entry
pub record IsSpanOf (entry : Entry) (span : Span) : Type 0 where
  pub even : IsEven entry
  pub first : span.first ≡ ordinal entry.from.first
  pub last : span.last ≡ ordinal entry.from.last
  pub value : span.value ≡ ordinal entry.to.first

-- an entry has its span, or it isn't even
abbrev pub HasSpan : Entry → Result Span CharsetKind → Type 0
HasSpan entry (Ok span) = IsSpanOf entry span
HasSpan entry (Err kinds.Range) = ¬ (Rises entry.from × Rises entry.to)
HasSpan entry (Err kinds.Lengths) = (Rises entry.from × Rises entry.to) × (steps entry.to ≢ steps entry.from)
HasSpan entry (Err kinds.Entry) = ⊥
HasSpan entry (Err kinds.Twice) = ⊥
HasSpan entry (Err kinds.Empty) = ⊥

-- the span is added where no number has another value, and else nothing is
abbrev pub AddsSpan : (ℕ → Option ℕ) → (ℕ → Option ℕ) → Span → Result Bool NoMemory → Type 0
AddsSpan old new span (Ok true) = SameWhereBoth old (number_in span) × ((n : ℕ) → new n ≡ option_or (old n) (number_in span n))
AddsSpan old new span (Ok false) = Differ old (number_in span)
AddsSpan old new span (Err e) = Unit {0}

-- what reading the entries of a text gives, where it is not blank: their table, or the first fault
abbrev pub ReadsEntries : List ℕ → Result (List Span) (Or CharsetFault) → Type 0
ReadsEntries text (Ok table) = IsTableOf text (folded table)
ReadsEntries text (Err causes.NoMemory) = Unit {0}
ReadsEntries text (Err (causes.Fault fault)) = IsFirstFault text fault
