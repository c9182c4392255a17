-- Where lines stand: the sections of a configuration. Lines before a line are given from the last one on.
use Rattle.std.specs.Prelude.{ℕ, List, [], ◌∷◌, ◌++◌, Bool, Option, Some, None, if◌then◌else◌}
use Rattle.std.specs.List.{filter_map}
use Rattle.std.specs.Option.{option_map}
use Rattle.doc_types.specs.declared.schema.AttrKind.{AttrKind}
use Rattle.conf_text.specs.declared.keys.Key.{Key}
use Rattle.conf_text.specs.declared.keys.Key.TheVariants as keys
use Rattle.conf_text.specs.Keys.{attr_kind, same_key}
use Rattle.conf_text.specs.Shapes.{Shape, blank, index_head, other_head, unknown_head, opening, closing, entry, misformed, small}

-- a section: an index with its name, or another one
pub data Section : Type 0 where
  index : List ℕ → Section
  other : Section

-- where a line stands: outside of sections, after the head of one before its `{`, or inside
pub data LinePlace : Type 0 where
  outside : LinePlace
  headed : Section → LinePlace
  inside : Section → LinePlace

-- after the head of a section
abbrev pub after_head : Section → Bool → LinePlace
after_head section opens = if opens then inside section else headed section

-- after `{`
abbrev pub after_opening : LinePlace → LinePlace
after_opening outside = outside
after_opening (headed section) = inside section
after_opening (inside section) = inside section

-- where the line after a line stands
abbrev pub place_after : LinePlace → Shape → LinePlace
place_after place blank = place
place_after place (index_head name opens) = after_head (index name) opens
place_after place (other_head opens) = after_head other opens
place_after place unknown_head = place
place_after place opening = after_opening place
place_after place closing = outside
place_after place (entry key value) = place
place_after place misformed = place

-- where the line after these lines stands
abbrev pub place_in : List Shape → LinePlace
place_in [] = outside
place_in (line ∷ before) = place_after (place_in before) line

-- a key of an index, and its value
pub record Entry : Type 0 where
  pub key : Key
  pub value : List ℕ

-- an entry, where the key is one of an index
abbrev pub entry_of : Option Key → List ℕ → List Entry
entry_of None value = []
entry_of (Some key) value = record { key = key; value = value } ∷ []

-- the entries of a section with a line: a head begins a new one
abbrev pub entries_after : List Entry → Shape → List Entry
entries_after entries blank = entries
entries_after entries (index_head name opens) = []
entries_after entries (other_head opens) = []
entries_after entries unknown_head = entries
entries_after entries opening = entries
entries_after entries closing = entries
entries_after entries (entry key value) = entries ++ entry_of key value
entries_after entries misformed = entries

-- the entries since the last head, in order
abbrev pub entries_in : List Shape → List Entry
entries_in [] = []
entries_in (line ∷ before) = entries_after (entries_in before) line

-- an index as the text has it: its name in small letters, and its entries in order
pub record IndexText : Type 0 where
  pub name : List ℕ
  pub entries : List Entry

-- the index that `}` ends, where it ends one
abbrev pub ended : LinePlace → List Entry → List IndexText
ended outside entries = []
ended (headed section) entries = []
ended (inside (index name)) entries = record { name = name; entries = entries } ∷ []
ended (inside other) entries = []

-- the indexes with the one that a line ends
abbrev pub indexes_after : List IndexText → LinePlace → List Entry → Shape → List IndexText
indexes_after indexes place entries blank = indexes
indexes_after indexes place entries (index_head name opens) = indexes
indexes_after indexes place entries (other_head opens) = indexes
indexes_after indexes place entries unknown_head = indexes
indexes_after indexes place entries opening = indexes
indexes_after indexes place entries closing = indexes ++ ended place entries
indexes_after indexes place entries (entry key value) = indexes
indexes_after indexes place entries misformed = indexes

-- the indexes that these lines have whole, in order
abbrev pub indexes_in : List Shape → List IndexText
indexes_in [] = []
indexes_in (line ∷ before) = indexes_after (indexes_in before) (place_in before) (entries_in before) line

-- what stands before a line: the indexes that are whole, the entries since the last head, and the place of the line
pub record Spot : Type 0 where
  pub indexes : List IndexText
  pub entries : List Entry
  pub place : LinePlace

abbrev pub spot_at : List IndexText → List Entry → LinePlace → Spot
spot_at indexes entries place = record { indexes = indexes; entries = entries; place = place }

-- what these lines are before the line after them
abbrev pub spot_in : List Shape → Spot
spot_in before = spot_at (indexes_in before) (entries_in before) (place_in before)

-- the value of the first entry with this key
abbrev pub given : Key → List Entry → Option (List ℕ)
given key [] = None
given key (first ∷ entries) = if same_key first.key key then Some first.value else given key entries

-- the field that an entry declares, in small letters
abbrev pub field_by : Key → List ℕ → Option (List ℕ)
field_by keys.RtField value = Some (small value)
field_by _ value = None

-- the attribute that an entry declares: its name in small letters, and its kind
abbrev pub attr_by : Key → List ℕ → Option (List ℕ × AttrKind)
attr_by key value = option_map (λ kind. (small value, kind)) (attr_kind key)

-- the fields and the attributes that entries declare, in order
abbrev pub fields_in : List Entry → List (List ℕ)
fields_in entries = filter_map (λ e. field_by e.key e.value) entries

abbrev pub attrs_in : List Entry → List (List ℕ × AttrKind)
attrs_in entries = filter_map (λ e. attr_by e.key e.value) entries
