-- What the values of keys set.
use Rattle.std.specs.Prelude.{◌≡◌, ℕ, List, [], ◌∷◌, ◌++◌, Bool, true, false, ◌&&◌, not, Some, Result, Ok, Err, codes}
use Rattle.std.specs.BTreeSet.{BTreeSet, contains}
use Rattle.std.specs.Cmp.Lexicographic.{slice_cmp}
use Rattle.std.specs.Ordering.{nat_cmp}
use Rattle.std.specs.Str.{bytes_eq}
use Rattle.charset_map.specs.TableText.{IsTableOf}
use Rattle.charset_map.specs.Spans.{folded}
use Rattle.srch_base.specs.declared.faults.Or.{Or}
use Rattle.srch_base.specs.declared.faults.Or.TheVariants as causes
use Rattle.conf_text.specs.declared.fault.ConfKind.{ConfKind}
use Rattle.conf_text.specs.declared.fault.ConfKind.TheVariants as kinds
use Rattle.conf_text.specs.declared.keys.Key.{Key}
use Rattle.conf_text.specs.declared.keys.Key.TheVariants as keys
use Rattle.conf_text.specs.declared.setting.Setting.{Setting}
use Rattle.conf_text.specs.declared.setting.Setting.TheVariants as settings
use Rattle.conf_text.specs.Faults.{is_among}
use Rattle.conf_text.specs.Keys.{attr_kind}
use Rattle.conf_text.specs.Shapes.{small}
use Rattle.conf_text.specs.Values.{IsValue, is_tag_name, prefix_len_in, zones_in}

-- A value was read, or it is bad, or memory was refused.
abbrev pub ReadsValue : {X : Type 0} → (X → Type 0) → Type 0 → Result X (Or ConfKind) → Type 0
ReadsValue Good bad (Ok x) = Good x
ReadsValue Good bad (Err causes.NoMemory) = Unit {0}
ReadsValue Good bad (Err (causes.Fault kind)) = (kind ≡ kinds.BadValue) × bad

-- the keys whose value isn't kept
abbrev pub is_plain : Key → Bool
is_plain keys.CharsetTable = false
is_plain keys.HtmlStrip = false
is_plain keys.IndexSp = false
is_plain keys.IndexZones = false
is_plain keys.MinPrefixLen = false
is_plain keys.Path = false
is_plain keys.RtField = false
is_plain keys.RtAttrUint = false
is_plain keys.RtAttrBool = false
is_plain keys.RtAttrBigint = false
is_plain keys.RtAttrTimestamp = false
is_plain _ = true

-- A key with this value sets this.
abbrev pub IsSetting : Key → List ℕ → Setting → Type 0
IsSetting key value settings.Plain = is_plain key ≡ true
IsSetting key value (settings.Path path) = (key ≡ keys.Path) × (path ≡ value)
IsSetting key value (settings.Field name) = (key ≡ keys.RtField) × (name ≡ small value)
IsSetting key value (settings.Attr name kind) = (attr_kind key ≡ Some kind) × (name ≡ small value)
IsSetting key value (settings.Charset charset) = (key ≡ keys.CharsetTable) × IsTableOf value (folded charset)
IsSetting key value (settings.Strip on) = (key ≡ keys.HtmlStrip) × (on ≡ bytes_eq value (codes "1"))
IsSetting key value (settings.Sp on) = (key ≡ keys.IndexSp) × (on ≡ bytes_eq value (codes "1"))
IsSetting key value (settings.Prefix len) = (key ≡ keys.MinPrefixLen) × (prefix_len_in value ≡ Some len)
IsSetting key value (settings.Zones zones) = (key ≡ keys.IndexZones) × (zones.items ≡ zones_in value)

-- What a key with this value sets was read, or it can't have the value.
abbrev pub ReadsSetting : Key → List ℕ → Result Setting (Or ConfKind) → Type 0
ReadsSetting key value result = ReadsValue (λ setting. IsValue key value × IsSetting key value setting) (¬ (IsValue key value)) result

-- a set has these names and no others
abbrev pub HasNames : BTreeSet (List ℕ) → List (List ℕ) → Type 0
HasNames set names = (name : List ℕ) → contains (slice_cmp nat_cmp) set name ≡ is_among name names

-- A name is a zone after others or it isn't, and a set of the others has it then.
abbrev pub TakesZone : {E : Type 0} → List (List ℕ) → List ℕ → BTreeSet (List ℕ) → Result Bool E → Type 0
TakesZone zones name set (Ok new) = (new ≡ (is_tag_name name && not (is_among name zones))) × (new ≡ true → HasNames set (zones ++ name ∷ []))
TakesZone zones name set (Err e) = Unit {0}
