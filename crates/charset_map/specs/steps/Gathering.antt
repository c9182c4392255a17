-- The entries of a text, gathered in its order, and the table of their spans.
use Rattle.std.specs.Prelude.{◌≡◌, ℕ, List, [], ◌∷◌, ◌++◌, Option, Some, None, Result, Ok, Err, Contains}
use Rattle.std.specs.List.{AllZip}
use Rattle.charset_map.specs.declared.entries.Entry.{Entry}
use Rattle.charset_map.specs.declared.fault.CharsetFault.{CharsetFault}
use Rattle.charset_map.specs.declared.fault.CharsetKind.{CharsetKind}
use Rattle.charset_map.specs.declared.gathering.Written.{Written}
use Rattle.charset_map.specs.declared.span.Span.{Span}
use Rattle.charset_map.specs.Entries.{IsEntry}
use Rattle.charset_map.specs.Spans.{number_in, number_of}
use Rattle.charset_map.specs.TableText.{EntryText, IsFaulty, entry_texts}
use Rattle.charset_map.specs.steps.Adding.{IsSpanOf}
use Rattle.charset_map.specs.steps.SpanLists.{Differ, IsSound, SameWhereBoth}

-- the text is an entry, and this is its span
pub record IsEntrySpan (text : List ℕ) (span : Span) : Type 0 where
  pub entry : Entry
  pub is : IsEntry text entry
  pub span_is : IsSpanOf entry span
  pub sound : IsSound span

-- what a text gives: the span of its entry, or what is wrong with it whatever comes before
abbrev pub WritesSpan : List ℕ → Result Span CharsetKind → Type 0
WritesSpan text (Ok span) = IsEntrySpan text span
WritesSpan text (Err kind) = (entries : List Entry) → IsFaulty entries text kind

-- these texts are entries, with these places and spans
abbrev pub AreWritten : List EntryText → List Written → Type 0
AreWritten texts list = AllZip (λ text written. (written.place ≡ text.place) × IsEntrySpan text.text written.span) texts list

-- the list has the entries of the text before the last of its parts
pub record IsGathered (text : List ℕ) (list : List Written) (rest : List EntryText) : Type 0 where
  pub before : List EntryText
  pub are : entry_texts text ≡ before ++ rest
  pub written : AreWritten before list

-- the list has the entries before one that is faulty by itself
pub record StopsAt (text : List ℕ) (list : List Written) (fault : CharsetFault) : Type 0 where
  pub entry_text : EntryText
  pub after : List EntryText
  pub gathered : IsGathered text list (entry_text ∷ after)
  pub place : fault.place ≡ entry_text.place
  pub faulty : (entries : List Entry) → IsFaulty entries entry_text.text fault.kind

-- the list has all entries of the text, or those before the first that is faulty by itself
abbrev pub Gathers : List ℕ → List Written → Option CharsetFault → Type 0
Gathers text list None = IsGathered text list []
Gathers text list (Some fault) = StopsAt text list fault

abbrev pub span_in : Written → Span
span_in written = written.span

-- no two of the spans give a number different values
abbrev pub NoneDiffer : List Span → Type 0
NoneDiffer spans = (one other : Span) → Contains spans one → Contains spans other → SameWhereBoth (number_in one) (number_in other)

-- two of the spans do
pub record SomeDiffer (spans : List Span) : Type 0 where
  pub one : Span
  pub other : Span
  pub has_one : Contains spans one
  pub has_other : Contains spans other
  pub differ : Differ (number_in one) (number_in other)

-- the table of the spans, or none where two of them differ
abbrev pub Joins : List Span → Option (List Span) → Type 0
Joins spans None = SomeDiffer spans
Joins spans (Some table) = NoneDiffer spans × ((n : ℕ) → number_of table n ≡ number_of spans n)
