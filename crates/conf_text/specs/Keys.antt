-- The keys of an index.
use Rattle.std.specs.Prelude.{ℕ, List, [], ◌∷◌, Bool, ◌==◌, Option, Some, None, codes}
use Rattle.doc_types.specs.declared.schema.AttrKind.{AttrKind}
use Rattle.doc_types.specs.declared.schema.AttrKind.TheVariants as kinds
use Rattle.name_table.specs.NamedValues.{value_named}
use Rattle.conf_text.specs.declared.keys.Key.{Key}
use Rattle.conf_text.specs.declared.keys.Key.TheVariants as keys

-- the names of the keys, sorted
abbrev pub key_words : List (List ℕ)
key_words =
    codes "charset_table" ∷ codes "charset_type" ∷ codes "dict" ∷ codes "docinfo" ∷ codes "html_strip" ∷ codes "index_sp" ∷ codes "index_zones" ∷ codes "min_prefix_len" ∷ codes "min_word_len" ∷ codes "mlock" ∷ codes "morphology" ∷ codes "ondisk_attrs" ∷ codes "path" ∷ codes "preopen" ∷ codes "rt_attr_bigint" ∷ codes "rt_attr_bool" ∷ codes "rt_attr_timestamp" ∷ codes "rt_attr_uint" ∷ codes "rt_field" ∷ codes "rt_mem_limit" ∷ codes "type" ∷ []

-- the keys of these names
abbrev pub key_values : List Key
key_values =
    keys.CharsetTable ∷ keys.CharsetType ∷ keys.Dict ∷ keys.Docinfo ∷ keys.HtmlStrip ∷ keys.IndexSp ∷ keys.IndexZones ∷ keys.MinPrefixLen ∷ keys.MinWordLen ∷ keys.Mlock ∷ keys.Morphology ∷ keys.OndiskAttrs ∷ keys.Path ∷ keys.Preopen ∷ keys.RtAttrBigint ∷ keys.RtAttrBool ∷ keys.RtAttrTimestamp ∷ keys.RtAttrUint ∷ keys.RtField ∷ keys.RtMemLimit ∷ keys.Type ∷ []

-- the key with this name, which is given in small letters
unfoldable pub key_named : List ℕ → Option Key
key_named word = value_named key_words key_values word

-- the place of a key among all
abbrev pub key_number : Key → ℕ
key_number keys.CharsetTable = 0
key_number keys.CharsetType = 1
key_number keys.Dict = 2
key_number keys.Docinfo = 3
key_number keys.HtmlStrip = 4
key_number keys.IndexSp = 5
key_number keys.IndexZones = 6
key_number keys.MinPrefixLen = 7
key_number keys.MinWordLen = 8
key_number keys.Mlock = 9
key_number keys.Morphology = 10
key_number keys.OndiskAttrs = 11
key_number keys.Path = 12
key_number keys.Preopen = 13
key_number keys.RtAttrBigint = 14
key_number keys.RtAttrBool = 15
key_number keys.RtAttrTimestamp = 16
key_number keys.RtAttrUint = 17
key_number keys.RtField = 18
key_number keys.RtMemLimit = 19
key_number keys.Type = 20

-- whether two keys are the same
abbrev pub same_key : Key → Key → Bool
same_key key other = key_number key == key_number other

-- the kind of the attribute that a key declares
abbrev pub attr_kind : Key → Option AttrKind
attr_kind keys.RtAttrUint = Some kinds.Uint
attr_kind keys.RtAttrBool = Some kinds.Bool
attr_kind keys.RtAttrBigint = Some kinds.Bigint
attr_kind keys.RtAttrTimestamp = Some kinds.Timestamp
attr_kind _ = None
