-- What reading a line makes of the indexes and the section that is being read.
use Rattle.std.specs.Prelude.{◌≡◌, ℕ, List, [], ◌∷◌, ◌++◌, Bool, true, false, ◌||◌, nat_le, Option, Some, None, Result, Ok, Err, length}
use Rattle.std.specs.List.{list_any}
use Rattle.srch_base.specs.declared.faults.Or.{Or}
use Rattle.srch_base.specs.declared.faults.Or.TheVariants as causes
use Rattle.index_conf.specs.declared.conf.IndexConf.{IndexConf}
use Rattle.index_conf.specs.declared.conf.TheConstants.{MAX_INDEXES}
use Rattle.conf_text.specs.declared.draft.Draft.{Draft}
use Rattle.conf_text.specs.declared.fault.ConfKind.{ConfKind}
use Rattle.conf_text.specs.declared.fault.ConfKind.TheVariants as kinds
use Rattle.conf_text.specs.declared.keys.Key.{Key}
use Rattle.conf_text.specs.declared.reading.LinePlace.{LinePlace as CodePlace}
use Rattle.conf_text.specs.declared.reading.LinePlace.TheVariants as places
use Rattle.conf_text.specs.declared.reading.Section.{Section as CodeSection}
use Rattle.conf_text.specs.declared.reading.Section.TheVariants as sections
use Rattle.conf_text.specs.steps.Drafts.{AreIndexes, IsDraft, IsEndFault, IsEntryFault, IsGoodEnd, IsGoodEntry, entry_with}
use Rattle.conf_text.specs.Faults.{IsFaultAt, IsGoodAt, has_name, is_long}
use Rattle.conf_text.specs.Sections.{Entry, IndexText, LinePlace, Section, Spot, after_head, entries_after, headed, index, indexes_after, inside, other, outside, place_after}
use Rattle.conf_text.specs.Shapes.{Shape}

-- a section, and a place, without what is read of an index
abbrev pub section_of : CodeSection → Section
section_of (sections.Index draft) = index draft.name
section_of sections.Other = other

abbrev pub place_of : CodePlace → LinePlace
place_of places.Outside = outside
place_of (places.Headed section) = headed (section_of section)
place_of (places.Inside section) = inside (section_of section)

-- an index that is being read has these entries
abbrev pub SectionHas : List Entry → CodeSection → Type 0
SectionHas entries (sections.Index draft) = IsDraft draft.name entries draft
SectionHas entries sections.Other = Unit {0}

abbrev pub PlaceHas : List Entry → CodePlace → Type 0
PlaceHas entries places.Outside = Unit {0}
PlaceHas entries (places.Headed section) = SectionHas entries section
PlaceHas entries (places.Inside section) = SectionHas entries section

-- what was reached, where no fault came
abbrev pub reached : {A E : Type 0} → A → Result (Unit {0}) E → Result A E
reached new (Ok done) = Ok new
reached new (Err fault) = Err fault

-- an index may begin, or the fault of its head is of this kind
pub record IsGoodHead (texts : List IndexText) (name : List ℕ) : Type 0 where
  pub new : list_any (has_name name) texts ≡ false
  pub within : (is_long name || nat_le MAX_INDEXES (length texts)) ≡ false

abbrev pub IsHeadFault : ConfKind → List IndexText → List ℕ → Type 0
IsHeadFault kinds.Repeated texts name = list_any (has_name name) texts ≡ true
IsHeadFault kinds.Limit texts name = (list_any (has_name name) texts ≡ false) × ((is_long name || nat_le MAX_INDEXES (length texts)) ≡ true)
IsHeadFault _ texts name = ⊥

-- the place after a line, and what is read there
pub record Leads (place : LinePlace) (entries : List Entry) (next : CodePlace) : Type 0 where
  pub place_is : place_of next ≡ place
  pub has : PlaceHas entries next

-- An index began, or its head is faulty.
abbrev pub Begins : List IndexText → List ℕ → Bool → Result CodePlace (Or ConfKind) → Type 0
Begins texts name opens (Ok next) = IsGoodHead texts name × Leads (after_head (index name) opens) [] next
Begins texts name opens (Err causes.NoMemory) = Unit {0}
Begins texts name opens (Err (causes.Fault kind)) = IsHeadFault kind texts name

-- An index took an entry, or the entry is faulty.
abbrev pub EntersIndex : List IndexText → List Entry → List ℕ → Option Key → List ℕ → Result Draft (Or ConfKind) → Type 0
EntersIndex texts entries name key value (Err causes.NoMemory) = Unit {0}
EntersIndex texts entries name None value (Ok new) = ⊥
EntersIndex texts entries name None value (Err (causes.Fault kind)) = kind ≡ kinds.UnknownKey
EntersIndex texts entries name (Some key) value (Ok new) = IsGoodEntry texts entries key value × IsDraft name (entries ++ entry_with key value ∷ []) new
EntersIndex texts entries name (Some key) value (Err (causes.Fault kind)) = IsEntryFault kind texts entries key value

-- A section took an entry, or the entry is faulty. A section that is no index takes every entry.
abbrev pub Enters : List IndexText → List Entry → LinePlace → Option Key → List ℕ → Result CodePlace (Or ConfKind) → Type 0
Enters texts entries place key value (Err causes.NoMemory) = Unit {0}
Enters texts entries (inside (index name)) None value (Ok next) = ⊥
Enters texts entries (inside (index name)) None value (Err (causes.Fault kind)) = kind ≡ kinds.UnknownKey
Enters texts entries (inside (index name)) (Some key) value (Ok next) = IsGoodEntry texts entries key value × Leads (inside (index name)) (entries ++ entry_with key value ∷ []) next
Enters texts entries (inside (index name)) (Some key) value (Err (causes.Fault kind)) = IsEntryFault kind texts entries key value
Enters texts entries (inside other) key value (Ok next) = next ≡ places.Inside sections.Other
Enters texts entries (inside other) key value (Err (causes.Fault kind)) = ⊥
Enters texts entries outside key value result = Unit {0}
Enters texts entries (headed section) key value result = Unit {0}

-- A section ended, or an index ends with a fault.
abbrev pub Closes : List IndexText → List Entry → LinePlace → List IndexConf → Result CodePlace (Or ConfKind) → Type 0
Closes texts entries place new (Err causes.NoMemory) = Unit {0}
Closes texts entries (inside (index name)) new (Ok next) = IsGoodEnd entries × AreIndexes (texts ++ record { name = name; entries = entries } ∷ []) new × (next ≡ places.Outside)
Closes texts entries (inside (index name)) new (Err (causes.Fault kind)) = IsEndFault kind entries
Closes texts entries (inside other) new (Ok next) = AreIndexes texts new × (next ≡ places.Outside)
Closes texts entries (inside other) new (Err (causes.Fault kind)) = ⊥
Closes texts entries outside new result = Unit {0}
Closes texts entries (headed section) new result = Unit {0}

-- the indexes and the place after a line, at which no fault stands
pub record IsBehind (spot : Spot) (line : Shape) (last : Bool) (new : List IndexConf) (next : CodePlace) : Type 0 where
  pub good : IsGoodAt spot line last
  pub indexes : AreIndexes (indexes_after spot.indexes spot.place spot.entries line) new
  pub leads : Leads (place_after spot.place line) (entries_after spot.entries line) next

-- A line was taken, or it is faulty.
abbrev pub TakesLine : Spot → Shape → Bool → List IndexConf → Result CodePlace (Or ConfKind) → Type 0
TakesLine spot line last new (Ok next) = IsBehind spot line last new next
TakesLine spot line last new (Err causes.NoMemory) = Unit {0}
TakesLine spot line last new (Err (causes.Fault kind)) = IsFaultAt kind spot line last
