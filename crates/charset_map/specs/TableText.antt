-- How a text is read: its entry_texts, and the first fault.
use Rattle.std.specs.Prelude.{◌≡◌, ◌≢◌, ℕ, ◌+◌, ◌-◌, List, [], ◌∷◌, ◌++◌, ◌==◌, Option, Some, Result, Ok, Err, codes, length, take, drop}
use Rattle.std.specs.Bool.{MatchBool}
use Rattle.std.specs.Char.{IsScalar}
use Rattle.std.specs.List.{AllZip, list_all, prefix_len, slice_split, suffix_len}
use Rattle.srch_base.specs.declared.faults.Or.{Or}
use Rattle.srch_base.specs.declared.faults.Or.TheVariants as causes
use Rattle.charset_map.specs.declared.fault.CharsetFault.{CharsetFault}
use Rattle.charset_map.specs.declared.fault.CharsetKind.{CharsetKind}
use Rattle.charset_map.specs.declared.fault.CharsetKind.TheVariants as kinds
use Rattle.charset_map.specs.declared.entries.Entry.{Entry}
use Rattle.charset_map.specs.declared.span.Span.{Span}
use Rattle.charset_map.specs.Spans.{folded}
use Rattle.charset_map.specs.Characters.{is_blank}
use Rattle.charset_map.specs.Entries.{IsEntry}
use Rattle.charset_map.specs.Table.{Rises, steps, IsEven, value_in, value_of, IsTable}

-- what stands between two commas: its bytes, and their place in the text
pub record EntryText : Type 0 where
  pub place : ℕ
  pub text : List ℕ

-- without the blanks before it
abbrev pub without_front : List ℕ → List ℕ
without_front part = drop (prefix_len is_blank part) part

-- without those after it
abbrev pub without_back : List ℕ → List ℕ
without_back part = take (length part - suffix_len is_blank part) part

-- a part that begins at this place, without the blanks around it
abbrev pub entry_text_at : ℕ → List ℕ → EntryText
entry_text_at place part = record { place = place + prefix_len is_blank part; text = without_back (without_front part) }

-- the parts of a text from a place on; a comma stands between two
abbrev pub entry_texts_from : ℕ → List (List ℕ) → List EntryText
entry_texts_from place [] = []
entry_texts_from place (part ∷ parts) = entry_text_at place part ∷ entry_texts_from (place + length part + 1) parts

-- the entry_texts of a text
abbrev pub entry_texts : List ℕ → List EntryText
entry_texts text = entry_texts_from 0 (slice_split (λ b. b == 44) text)

-- the entry_texts are these entries, one each
abbrev pub AreEntries : List EntryText → List Entry → Type 0
AreEntries entry_texts entries = AllZip (λ entry_text entry. IsEntry entry_text.text entry) entry_texts entries

-- some character of the entry has another value by what stands before
pub record GivesAnother (before : ℕ → Option ℕ) (entry : Entry) : Type 0 where
  pub character : ℕ
  pub scalar : IsScalar character
  pub had : ℕ
  pub has_had : before character ≡ Some had
  pub gets : ℕ
  pub would_get : value_in entry character ≡ Some gets
  pub differ : had ≢ gets

-- what is wrong with a entry_text after the entries of a table: the first of the kinds, in this order
abbrev pub IsFaulty : List Entry → List ℕ → CharsetKind → Type 0
IsFaulty before text kinds.Entry = (entry : Entry) → ¬ (IsEntry text entry)
IsFaulty before text kinds.Range = (entry : Entry) × IsEntry text entry × ¬ (Rises entry.from × Rises entry.to)
IsFaulty before text kinds.Lengths = (entry : Entry) × IsEntry text entry × (Rises entry.from × Rises entry.to) × (steps entry.to ≢ steps entry.from)
IsFaulty before text kinds.Twice = (entry : Entry) × IsEntry text entry × IsEven entry × GivesAnother (value_of before) entry
IsFaulty before text kinds.Empty = ⊥

-- the text is this table
pub record IsTableOf (text : List ℕ) (table : ℕ → Option ℕ) : Type 0 where
  pub entries : List Entry
  pub spelled : AreEntries (entry_texts text) entries
  pub sound : IsTable entries
  pub values : (c : ℕ) → IsScalar c → table c ≡ value_of entries c

-- this fault comes first: the entry_texts before it are a table's entries
pub record IsFirstFault (text : List ℕ) (fault : CharsetFault) : Type 0 where
  pub before : List EntryText
  pub entry_text : EntryText
  pub after : List EntryText
  pub are : entry_texts text ≡ before ++ entry_text ∷ after
  pub entries : List Entry
  pub spelled : AreEntries before entries
  pub sound : IsTable entries
  pub place : fault.place ≡ entry_text.place
  pub faulty : IsFaulty entries entry_text.text fault.kind

-- what reading a text gives: its table, or the first fault, or nothing for want of memory
abbrev pub ReadsTable : List ℕ → Result (List Span) (Or CharsetFault) → Type 0
ReadsTable text (Ok table) = IsTableOf text (folded table)
ReadsTable text (Err causes.NoMemory) = Unit {0}
ReadsTable text (Err (causes.Fault fault)) = MatchBool (list_all is_blank text) (fault ≡ record { place = 0; kind = kinds.Empty }) (IsFirstFault text fault)

-- the text of the default table
abbrev pub default_text : List ℕ
default_text = codes "0..9, A..Z->a..z, _, a..z, U+410..U+42F->U+430..U+44F, U+430..U+44F, U+401->U+451, U+451"
