-- What is wrong with a line: the kinds of faults, each by the line and what stands before it.
use Rattle.std.specs.Prelude.{◌≡◌, ℕ, List, [], ◌∷◌, ◌++◌, Bool, true, false, ◌==◌, ◌&&◌, ◌||◌, not, nat_lt, nat_le, Option, Some, None, is_some, codes, length, map}
use Rattle.std.specs.List.{list_any}
use Rattle.std.specs.Str.{bytes_eq}
use Rattle.doc_types.specs.declared.schema.TheConstants.{MAX_FIELDS, MAX_ATTRS, MAX_ZONES, MAX_NAME_BYTES}
use Rattle.index_conf.specs.declared.conf.TheConstants.{MAX_INDEXES}
use Rattle.conf_text.specs.declared.fault.ConfKind.{ConfKind}
use Rattle.conf_text.specs.declared.fault.ConfKind.TheVariants as kinds
use Rattle.conf_text.specs.declared.keys.Key.{Key}
use Rattle.conf_text.specs.declared.keys.Key.TheVariants as keys
use Rattle.conf_text.specs.Sections.{index, LinePlace, outside, headed, inside, place_after, Entry, IndexText, Spot, spot_in, given, fields_in, attrs_in}
use Rattle.conf_text.specs.Shapes.{Shape, blank, index_head, other_head, unknown_head, opening, closing, entry, small}
use Rattle.conf_text.specs.Values.{IsValue, zones_in}

-- the grammar can have a line of this shape at the place; the head of an unknown section is told apart
abbrev pub fits : LinePlace → Shape → Bool
fits outside blank = true
fits outside (index_head name opens) = true
fits outside (other_head opens) = true
fits outside unknown_head = true
fits (headed section) blank = true
fits (headed section) opening = true
fits (inside section) blank = true
fits (inside section) (entry key value) = true
fits (inside section) closing = true
fits _ _ = false

-- the text can end here
abbrev pub is_outside : LinePlace → Bool
is_outside outside = true
is_outside (headed section) = false
is_outside (inside section) = false

-- the line is misplaced, or it is the last one and a section is left open
abbrev pub is_syntax : LinePlace → Shape → Bool → Bool
is_syntax place line last = not (fits place line) || (last && not (is_outside (place_after place line)))

-- a name stands among others
abbrev pub is_among : List ℕ → List (List ℕ) → Bool
is_among name names = list_any (λ other. bytes_eq other name) names

-- a column has this name
abbrev pub is_column : List ℕ → List Entry → Bool
is_column name entries = is_among name (fields_in entries ++ map (λ attr. attr.0) (attrs_in entries))

-- the value is this text
abbrev pub is_text : List ℕ → Option (List ℕ) → Bool
is_text text None = false
is_text text (Some value) = bytes_eq value text

-- an index has this name, or this path
abbrev pub has_name : List ℕ → IndexText → Bool
has_name name text = bytes_eq text.name name

abbrev pub has_path : List ℕ → IndexText → Bool
has_path path text = is_text path (given keys.Path text.entries)

-- An entry repeats what the index or an earlier one has: a column, a path, or a key.
abbrev pub is_repeated : List IndexText → List Entry → Key → List ℕ → Bool
is_repeated indexes entries keys.RtField value = is_column (small value) entries
is_repeated indexes entries keys.RtAttrUint value = is_column (small value) entries
is_repeated indexes entries keys.RtAttrBool value = is_column (small value) entries
is_repeated indexes entries keys.RtAttrBigint value = is_column (small value) entries
is_repeated indexes entries keys.RtAttrTimestamp value = is_column (small value) entries
is_repeated indexes entries keys.Path value = is_some (given keys.Path entries) || list_any (has_path value) indexes
is_repeated indexes entries key value = is_some (given key entries)

-- a name has too many bytes
abbrev pub is_long : List ℕ → Bool
is_long name = nat_lt MAX_NAME_BYTES (length name)

-- an entry passes a limit
abbrev pub passes_limit : List Entry → Key → List ℕ → Bool
passes_limit entries keys.RtField value = is_long (small value) || nat_le MAX_FIELDS (length (fields_in entries))
passes_limit entries keys.RtAttrUint value = is_long (small value) || nat_le MAX_ATTRS (length (attrs_in entries))
passes_limit entries keys.RtAttrBool value = is_long (small value) || nat_le MAX_ATTRS (length (attrs_in entries))
passes_limit entries keys.RtAttrBigint value = is_long (small value) || nat_le MAX_ATTRS (length (attrs_in entries))
passes_limit entries keys.RtAttrTimestamp value = is_long (small value) || nat_le MAX_ATTRS (length (attrs_in entries))
passes_limit entries keys.IndexZones value = list_any is_long (zones_in value) || nat_lt MAX_ZONES (length (zones_in value))
passes_limit entries key value = false

-- a switch is on where its value is 1
abbrev pub is_on : Option (List ℕ) → Bool
is_on value = is_text (codes "1") value

-- an index has zones, but its markup isn't stripped
abbrev pub lacks_strip : List Entry → Bool
lacks_strip entries = is_some (given keys.IndexZones entries) && not (is_on (given keys.HtmlStrip entries))

-- an index lacks what each has: a type, a path, or a field
abbrev pub lacks_key : List Entry → Bool
lacks_key entries = not (is_some (given keys.Type entries)) || not (is_some (given keys.Path entries)) || (length (fields_in entries) == 0)

-- A fault of this kind stands at the head of an index, after other indexes.
abbrev pub StandsAtHead : ConfKind → List IndexText → List ℕ → Type 0
StandsAtHead kinds.Repeated indexes name = list_any (has_name name) indexes ≡ true
StandsAtHead kinds.Limit indexes name = (is_long name || nat_le MAX_INDEXES (length indexes)) ≡ true
StandsAtHead _ indexes name = ⊥

-- A fault of this kind stands at an entry of an index, after other indexes and other entries of this one.
abbrev pub StandsAtEntry : ConfKind → List IndexText → List Entry → Key → List ℕ → Type 0
StandsAtEntry kinds.BadValue indexes entries key value = ¬ (IsValue key value)
StandsAtEntry kinds.Repeated indexes entries key value = is_repeated indexes entries key value ≡ true
StandsAtEntry kinds.Limit indexes entries key value = passes_limit entries key value ≡ true
StandsAtEntry _ indexes entries key value = ⊥

-- A fault of this kind stands at the `}` of an index with these entries.
abbrev pub StandsAtEnd : ConfKind → List Entry → Type 0
StandsAtEnd kinds.BadValue entries = lacks_strip entries ≡ true
StandsAtEnd kinds.Missing entries = lacks_key entries ≡ true
StandsAtEnd _ entries = ⊥

-- The one fault of a head of no known kind, and of a key of no known kind.
abbrev pub IsUnknownSection : ConfKind → Type 0
IsUnknownSection kinds.UnknownSection = Unit {0}
IsUnknownSection _ = ⊥

abbrev pub IsUnknownKey : ConfKind → Type 0
IsUnknownKey kinds.UnknownKey = Unit {0}
IsUnknownKey _ = ⊥

-- A fault of this kind stands at a line of this shape at a place, after these indexes and these entries.
abbrev pub StandsAt : ConfKind → List IndexText → List Entry → LinePlace → Shape → Type 0
StandsAt kind indexes entries outside unknown_head = IsUnknownSection kind
StandsAt kind indexes entries outside (index_head name opens) = StandsAtHead kind indexes name
StandsAt kind indexes entries (inside (index name)) (entry None value) = IsUnknownKey kind
StandsAt kind indexes entries (inside (index name)) (entry (Some key) value) = StandsAtEntry kind indexes entries key value
StandsAt kind indexes entries (inside (index name)) closing = StandsAtEnd kind entries
StandsAt _ _ _ _ _ = ⊥

-- A fault of this kind stands at a line, which may be the last one.
abbrev pub Stands : ConfKind → Spot → Shape → Bool → Type 0
Stands kinds.Syntax spot line last = is_syntax spot.place line last ≡ true
Stands kind spot line last = StandsAt kind spot.indexes spot.entries spot.place line

-- The kinds that are looked for before this one.
abbrev pub kinds_before : ConfKind → List ConfKind
kinds_before kinds.NotText = []
kinds_before kinds.Syntax = kinds.NotText ∷ []
kinds_before kinds.UnknownSection = kinds.Syntax ∷ kinds.NotText ∷ []
kinds_before kinds.UnknownKey = kinds.UnknownSection ∷ kinds.Syntax ∷ kinds.NotText ∷ []
kinds_before kinds.BadValue = kinds.UnknownKey ∷ kinds.UnknownSection ∷ kinds.Syntax ∷ kinds.NotText ∷ []
kinds_before kinds.Repeated = kinds.BadValue ∷ kinds.UnknownKey ∷ kinds.UnknownSection ∷ kinds.Syntax ∷ kinds.NotText ∷ []
kinds_before kinds.Missing = kinds.Repeated ∷ kinds.BadValue ∷ kinds.UnknownKey ∷ kinds.UnknownSection ∷ kinds.Syntax ∷ kinds.NotText ∷ []
kinds_before kinds.Limit = kinds.Missing ∷ kinds.Repeated ∷ kinds.BadValue ∷ kinds.UnknownKey ∷ kinds.UnknownSection ∷ kinds.Syntax ∷ kinds.NotText ∷ []

-- None of these kinds stands at a line.
abbrev pub NoneStands : List ConfKind → Spot → Shape → Bool → Type 0
NoneStands [] spot line last = Unit {0}
NoneStands (kind ∷ kinds) spot line last = ¬ (Stands kind spot line last) × NoneStands kinds spot line last

-- The fault of a line is of this kind: no kind that is looked for before it stands there.
pub record IsFaultAt (kind : ConfKind) (spot : Spot) (line : Shape) (last : Bool) : Type 0 where
  pub stands : Stands kind spot line last
  pub first : NoneStands (kinds_before kind) spot line last

-- No fault stands at a line.
abbrev pub IsGoodAt : Spot → Shape → Bool → Type 0
IsGoodAt spot line last = NoneStands (kinds.Limit ∷ kinds_before kinds.Limit) spot line last

-- No fault stands at any of these lines, which others follow. They are given from the last one on.
abbrev pub AreGood : List Shape → Type 0
AreGood [] = Unit {0}
AreGood (line ∷ before) = IsGoodAt (spot_in before) line false × AreGood before
