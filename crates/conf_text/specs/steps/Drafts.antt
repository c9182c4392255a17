-- Indexes that are being read.
use Rattle.std.specs.Prelude.{◌||◌, nat_le, nat_lt, length, ◌≡◌, ℕ, List, [], ◌∷◌, ◌++◌, Bool, true, false, Option, Some, None, Result, Ok, Err, map}
use Rattle.std.specs.List.{AllZip, list_any}
use Rattle.std.specs.Str.{bytes_eq}
use Rattle.doc_types.specs.declared.schema.TheConstants.{MAX_FIELDS, MAX_ATTRS, MAX_ZONES}
use Rattle.charset_map.specs.declared.span.Span.{Span}
use Rattle.charset_map.specs.TableText.{IsTableOf, default_text}
use Rattle.charset_map.specs.Spans.{folded}
use Rattle.srch_base.specs.declared.faults.Or.{Or}
use Rattle.srch_base.specs.declared.faults.Or.TheVariants as causes
use Rattle.index_conf.specs.declared.conf.IndexConf.{IndexConf}
use Rattle.conf_text.specs.declared.draft.Draft.{Draft}
use Rattle.conf_text.specs.declared.fault.ConfKind.{ConfKind}
use Rattle.conf_text.specs.declared.fault.ConfKind.TheVariants as kinds
use Rattle.conf_text.specs.declared.keys.Key.{Key}
use Rattle.conf_text.specs.declared.keys.Key.TheVariants as keys
use Rattle.conf_text.specs.declared.setting.Setting.{Setting}
use Rattle.conf_text.specs.declared.setting.Setting.TheVariants as settings
use Rattle.conf_text.specs.Keys.{same_key}
use Rattle.conf_text.specs.Confs.{IsIndexOf, prefix_len_by, zones_by}
use Rattle.conf_text.specs.Faults.{is_among, is_long, is_on, is_repeated, lacks_key, lacks_strip, passes_limit}
use Rattle.conf_text.specs.Sections.{Entry, IndexText, attrs_in, fields_in, given}
use Rattle.conf_text.specs.Values.{IsValue}

-- the table that a draft has, by the value of its key
abbrev pub HasCharset : Option (List ℕ) → Option (List Span) → Type 0
HasCharset None None = Unit {0}
HasCharset (Some value) (Some charset) = IsTableOf value (folded charset)
HasCharset _ _ = ⊥

-- an index being read has what these entries say
pub record IsDraft (name : List ℕ) (entries : List Entry) (draft : Draft) : Type 0 where
  pub named : draft.name ≡ name
  pub given_are : draft.given.items ≡ map (λ e. e.key) entries
  pub fields : draft.fields.items ≡ fields_in entries
  pub attrs : draft.attrs.items ≡ attrs_in entries
  pub path : draft.path ≡ given keys.Path entries
  pub charset : HasCharset (given keys.CharsetTable entries) draft.charset
  pub zones : draft.zones.items ≡ zones_by (given keys.IndexZones entries)
  pub strip : draft.strip ≡ is_on (given keys.HtmlStrip entries)
  pub sp : draft.sp ≡ is_on (given keys.IndexSp entries)
  pub prefix : draft.min_prefix ≡ prefix_len_by (given keys.MinPrefixLen entries)

-- one of the keys is this one
abbrev pub has_key : List Key → Key → Bool
has_key keys key = list_any (λ k. same_key k key) keys

-- a column of a draft has this name
abbrev pub has_column : Draft → List ℕ → Bool
has_column draft name = is_among name draft.fields.items || list_any (λ attr. bytes_eq attr.0 name) draft.attrs.items

-- an entry that sets this repeats what a draft or an index has
abbrev pub repeats : Draft → List IndexConf → Key → Setting → Bool
repeats draft indexes key (settings.Field name) = has_column draft name
repeats draft indexes key (settings.Attr name kind) = has_column draft name
repeats draft indexes key (settings.Path path) = has_key draft.given.items key || list_any (λ index. bytes_eq index.path path) indexes
repeats draft indexes key _ = has_key draft.given.items key

-- an entry that sets this passes a limit
abbrev pub exceeds : Draft → Setting → Bool
exceeds draft (settings.Field name) = is_long name || nat_le MAX_FIELDS (length draft.fields.items)
exceeds draft (settings.Attr name kind) = is_long name || nat_le MAX_ATTRS (length draft.attrs.items)
exceeds draft (settings.Zones zones) = list_any is_long zones.items || nat_lt MAX_ZONES (length zones.items)
exceeds draft _ = false

-- a draft in which this is set
abbrev pub Sets : Setting → Draft → Draft → Type 0
Sets settings.Plain old new = new ≡ old
Sets (settings.Path path) old new = new ≡ record old { path = Some path }
Sets (settings.Field name) old new = (new ≡ record old { fields = new.fields }) × (new.fields.items ≡ old.fields.items ++ name ∷ [])
Sets (settings.Attr name kind) old new = (new ≡ record old { attrs = new.attrs }) × (new.attrs.items ≡ old.attrs.items ++ (name, kind) ∷ [])
Sets (settings.Charset charset) old new = new ≡ record old { charset = Some charset }
Sets (settings.Strip on) old new = new ≡ record old { strip = on }
Sets (settings.Sp on) old new = new ≡ record old { sp = on }
Sets (settings.Prefix len) old new = new ≡ record old { min_prefix = len }
Sets (settings.Zones zones) old new = new ≡ record old { zones = zones }

-- a draft's table, or the default one
abbrev pub IsTableIn : Option (List Span) → List Span → Type 0
IsTableIn None charset = IsTableOf default_text (folded charset)
IsTableIn (Some own) charset = charset ≡ own

-- an index is what a draft has
pub record IsFinished (draft : Draft) (index : IndexConf) : Type 0 where
  pub name : index.schema.name ≡ draft.name
  pub fields : index.schema.fields ≡ draft.fields.items
  pub attrs : index.schema.attrs ≡ draft.attrs.items
  pub zones : index.schema.zones ≡ draft.zones.items
  pub sp : index.schema.sp ≡ draft.sp
  pub prefix : index.schema.min_prefix ≡ draft.min_prefix
  pub charset : IsTableIn draft.charset index.charset
  pub strip : index.rules.strip ≡ draft.strip
  pub rules_zones : index.rules.zones ≡ index.schema.zones
  pub rules_sp : index.rules.sp ≡ index.schema.sp
  pub path : draft.path ≡ Some index.path

-- the indexes are those of these texts
abbrev pub AreIndexes : List IndexText → List IndexConf → Type 0
AreIndexes texts indexes = AllZip IsIndexOf texts indexes

-- an entry, by its key and value
abbrev pub entry_with : Key → List ℕ → Entry
entry_with key value = record { key = key; value = value }

-- no fault stands at an entry
pub record IsGoodEntry (texts : List IndexText) (entries : List Entry) (key : Key) (value : List ℕ) : Type 0 where
  pub value_is : IsValue key value
  pub new : is_repeated texts entries key value ≡ false
  pub within : passes_limit entries key value ≡ false

-- the fault of an entry is of this kind
abbrev pub IsEntryFault : ConfKind → List IndexText → List Entry → Key → List ℕ → Type 0
IsEntryFault kinds.BadValue texts entries key value = ¬ (IsValue key value)
IsEntryFault kinds.Repeated texts entries key value = IsValue key value × (is_repeated texts entries key value ≡ true)
IsEntryFault kinds.Limit texts entries key value = IsValue key value × (is_repeated texts entries key value ≡ false) × (passes_limit entries key value ≡ true)
IsEntryFault _ texts entries key value = ⊥

-- An index being read took an entry, or the entry is faulty.
abbrev pub TakesEntry : List IndexText → List ℕ → List Entry → Key → List ℕ → Draft → Result (Unit {0}) (Or ConfKind) → Type 0
TakesEntry texts name entries key value new (Ok done) = IsGoodEntry texts entries key value × IsDraft name (entries ++ entry_with key value ∷ []) new
TakesEntry texts name entries key value new (Err causes.NoMemory) = Unit {0}
TakesEntry texts name entries key value new (Err (causes.Fault kind)) = IsEntryFault kind texts entries key value

-- the fault of an index's end is of this kind
abbrev pub IsEndFault : ConfKind → List Entry → Type 0
IsEndFault kinds.BadValue entries = lacks_strip entries ≡ true
IsEndFault kinds.Missing entries = (lacks_strip entries ≡ false) × (lacks_key entries ≡ true)
IsEndFault _ entries = ⊥

-- no fault stands at an index's end
pub record IsGoodEnd (entries : List Entry) : Type 0 where
  pub stripped : lacks_strip entries ≡ false
  pub whole : lacks_key entries ≡ false

-- An index being read is whole, or its end is faulty.
abbrev pub EndsIndex : List ℕ → List Entry → Result IndexConf (Or ConfKind) → Type 0
EndsIndex name entries (Ok index) = IsGoodEnd entries × IsIndexOf (record { name = name; entries = entries }) index
EndsIndex name entries (Err causes.NoMemory) = Unit {0}
EndsIndex name entries (Err (causes.Fault kind)) = IsEndFault kind entries
