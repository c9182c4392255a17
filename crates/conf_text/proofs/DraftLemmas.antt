-- What drafts have, by the entries that they took.
use Rattle.std.proofs.Common.{◌≡◌, ℕ, true, false, List, map, length, refl, sym, ◌∙◌, ap, subst}
use Rattle.std.specs.Prelude.{Option, Some, None, ◌||◌, ◌&&◌, ◌==◌, not, nat_le, nat_lt}
use Rattle.std.specs.List.{list_any}
use Rattle.std.specs.Option.{is_some}
use Rattle.std.specs.Str.{bytes_eq}
use Rattle.std.proofs.lemmas.Bool.{true≢false}
use Rattle.doc_types.specs.declared.schema.AttrKind.{AttrKind}
use Rattle.doc_types.specs.declared.schema.TheConstants.{MAX_FIELDS, MAX_ATTRS, MAX_ZONES}
use Rattle.std.proofs.lemmas.List.Folds.{list_any-append}
use Rattle.index_conf.specs.declared.conf.IndexConf.{IndexConf}
use Rattle.conf_text.specs.declared.draft.Draft.{Draft}
use Rattle.conf_text.specs.declared.keys.Key.{Key}
use Rattle.conf_text.specs.declared.keys.Key.TheVariants as keys
use Rattle.conf_text.specs.declared.setting.Setting.{Setting}
use Rattle.conf_text.specs.declared.setting.Setting.TheVariants as settings
use Rattle.charset_map.specs.declared.span.Span.{Span}
use Rattle.charset_map.specs.TableText.{IsTableOf}
use Rattle.charset_map.specs.Spans.{folded}
use Rattle.conf_text.specs.Confs.{IsCharsetBy, IsIndexOf}
use Rattle.conf_text.specs.steps.Drafts.{AreIndexes, HasCharset, IsDraft, IsFinished, IsTableIn, exceeds, has_column, has_key, repeats}
use Rattle.conf_text.specs.Faults.{has_path, is_among, is_column, is_long, is_repeated, lacks_key, lacks_strip, passes_limit}
use Rattle.conf_text.specs.Keys.{attr_kind}
use Rattle.conf_text.specs.Sections.{Entry, IndexText, attrs_in, fields_in, given}
use Rattle.conf_text.specs.steps.Settings.{IsSetting, is_plain}
use Rattle.conf_text.specs.Shapes.{small}
use Rattle.conf_text.proofs.Entries.{has_given, list_any_map, pathed_by}

-- a key that a draft has
pub key_has : (name : List ℕ) (entries : List Entry) (draft : Draft) (key : Key) → IsDraft name entries draft → has_key draft.given.items key ≡ is_some (given key entries)
key_has name entries draft key is = ap (λ (ks : List Key). has_key ks key) is.given_are ∙ has_given key entries

-- a column that a draft has
pub column_has : (name : List ℕ) (entries : List Entry) (draft : Draft) (column : List ℕ) → IsDraft name entries draft → has_column draft column ≡ is_column column entries
column_has name entries draft column is =
    ap (λ (fs : List (List ℕ)). is_among column fs || list_any (λ attr. bytes_eq attr.0 column) draft.attrs.items) is.fields
    ∙ ap (λ (all : List (List ℕ × AttrKind)). is_among column (fields_in entries) || list_any (λ attr. bytes_eq attr.0 column) all) is.attrs
    ∙ ap (λ b. is_among column (fields_in entries) || b) (sym (list_any_map (λ other. bytes_eq other column) (λ (attr : List ℕ × AttrKind). attr.0) (attrs_in entries)))
    ∙ sym (list_any-append (λ other. bytes_eq other column) (fields_in entries) (map (λ attr. attr.0) (attrs_in entries)))

-- the keys whose values aren't kept stand once
plain_repeated : (texts : List IndexText) (entries : List Entry) (key : Key) (value : List ℕ) → is_plain key ≡ true → is_repeated texts entries key value ≡ is_some (given key entries)
plain_repeated texts entries keys.CharsetTable value plain = absurd (true≢false (sym plain))
plain_repeated texts entries keys.HtmlStrip value plain = absurd (true≢false (sym plain))
plain_repeated texts entries keys.IndexSp value plain = absurd (true≢false (sym plain))
plain_repeated texts entries keys.IndexZones value plain = absurd (true≢false (sym plain))
plain_repeated texts entries keys.MinPrefixLen value plain = absurd (true≢false (sym plain))
plain_repeated texts entries keys.Path value plain = absurd (true≢false (sym plain))
plain_repeated texts entries keys.RtField value plain = absurd (true≢false (sym plain))
plain_repeated texts entries keys.RtAttrUint value plain = absurd (true≢false (sym plain))
plain_repeated texts entries keys.RtAttrBool value plain = absurd (true≢false (sym plain))
plain_repeated texts entries keys.RtAttrBigint value plain = absurd (true≢false (sym plain))
plain_repeated texts entries keys.RtAttrTimestamp value plain = absurd (true≢false (sym plain))
plain_repeated texts entries _ value plain = refl

attr_repeated : (texts : List IndexText) (entries : List Entry) (key : Key) (value : List ℕ) (kind : AttrKind) → attr_kind key ≡ Some kind → is_repeated texts entries key value ≡ is_column (small value) entries
attr_repeated texts entries keys.RtAttrUint value kind is = refl
attr_repeated texts entries keys.RtAttrBool value kind is = refl
attr_repeated texts entries keys.RtAttrBigint value kind is = refl
attr_repeated texts entries keys.RtAttrTimestamp value kind is = refl
attr_repeated texts entries _ value kind is = cc

-- what an entry repeats
pub repeats_is : (texts : List IndexText) (indexes : List IndexConf) (name : List ℕ) (entries : List Entry) (draft : Draft) (key : Key) (value : List ℕ) (setting : Setting) → AreIndexes texts indexes → IsDraft name entries draft → IsSetting key value setting → repeats draft indexes key setting ≡ is_repeated texts entries key value
repeats_is texts indexes name entries draft key value settings.Plain are is sets = key_has name entries draft key is ∙ sym (plain_repeated texts entries key value sets)
repeats_is texts indexes name entries draft key value (settings.Path path) are is sets =
    ap (λ b. b || list_any (λ index. bytes_eq index.path path) indexes) (key_has name entries draft key is)
    ∙ ap (λ b. is_some (given key entries) || b) (sym (pathed_by path texts indexes are))
    ∙ ap (λ (p : List ℕ). is_some (given key entries) || list_any (has_path p) texts) sets.1
    ∙ ap (λ k. is_some (given k entries) || list_any (has_path value) texts) sets.0
    ∙ ap (λ k. is_repeated texts entries k value) (sym sets.0)
repeats_is texts indexes name entries draft key value (settings.Field column) are is sets =
    ap (has_column draft) sets.1 ∙ column_has name entries draft (small value) is ∙ ap (λ k. is_repeated texts entries k value) (sym sets.0)
repeats_is texts indexes name entries draft key value (settings.Attr column kind) are is sets =
    ap (has_column draft) sets.1 ∙ column_has name entries draft (small value) is ∙ sym (attr_repeated texts entries key value kind sets.0)
repeats_is texts indexes name entries draft key value (settings.Charset charset) are is sets =
    key_has name entries draft key is ∙ ap (λ k. is_some (given k entries)) sets.0 ∙ ap (λ k. is_repeated texts entries k value) (sym sets.0)
repeats_is texts indexes name entries draft key value (settings.Strip on) are is sets =
    key_has name entries draft key is ∙ ap (λ k. is_some (given k entries)) sets.0 ∙ ap (λ k. is_repeated texts entries k value) (sym sets.0)
repeats_is texts indexes name entries draft key value (settings.Sp on) are is sets =
    key_has name entries draft key is ∙ ap (λ k. is_some (given k entries)) sets.0 ∙ ap (λ k. is_repeated texts entries k value) (sym sets.0)
repeats_is texts indexes name entries draft key value (settings.Prefix len) are is sets =
    key_has name entries draft key is ∙ ap (λ k. is_some (given k entries)) sets.0 ∙ ap (λ k. is_repeated texts entries k value) (sym sets.0)
repeats_is texts indexes name entries draft key value (settings.Zones zones) are is sets =
    key_has name entries draft key is ∙ ap (λ k. is_some (given k entries)) sets.0 ∙ ap (λ k. is_repeated texts entries k value) (sym sets.0)

plain_within : (entries : List Entry) (key : Key) (value : List ℕ) → is_plain key ≡ true → passes_limit entries key value ≡ false
plain_within entries keys.RtField value plain = absurd (true≢false (sym plain))
plain_within entries keys.RtAttrUint value plain = absurd (true≢false (sym plain))
plain_within entries keys.RtAttrBool value plain = absurd (true≢false (sym plain))
plain_within entries keys.RtAttrBigint value plain = absurd (true≢false (sym plain))
plain_within entries keys.RtAttrTimestamp value plain = absurd (true≢false (sym plain))
plain_within entries keys.IndexZones value plain = absurd (true≢false (sym plain))
plain_within entries keys.MinPrefixLen value plain = absurd (true≢false (sym plain))
plain_within entries _ value plain = refl

attr_within : (entries : List Entry) (key : Key) (value : List ℕ) (kind : AttrKind) → attr_kind key ≡ Some kind → passes_limit entries key value ≡ (is_long (small value) || nat_le MAX_ATTRS (length (attrs_in entries)))
attr_within entries keys.RtAttrUint value kind is = refl
attr_within entries keys.RtAttrBool value kind is = refl
attr_within entries keys.RtAttrBigint value kind is = refl
attr_within entries keys.RtAttrTimestamp value kind is = refl
attr_within entries _ value kind is = cc

-- what limit an entry passes
pub exceeds_is : (name : List ℕ) (entries : List Entry) (draft : Draft) (key : Key) (value : List ℕ) (setting : Setting) → IsDraft name entries draft → IsSetting key value setting → exceeds draft setting ≡ passes_limit entries key value
exceeds_is name entries draft key value settings.Plain is sets = sym (plain_within entries key value sets)
exceeds_is name entries draft key value (settings.Path path) is sets = ap (λ k. passes_limit entries k value) (sym sets.0)
exceeds_is name entries draft key value (settings.Field column) is sets =
    ap (λ (c : List ℕ). is_long c || nat_le MAX_FIELDS (length draft.fields.items)) sets.1
    ∙ ap (λ (fs : List (List ℕ)). is_long (small value) || nat_le MAX_FIELDS (length fs)) is.fields
    ∙ ap (λ k. passes_limit entries k value) (sym sets.0)
exceeds_is name entries draft key value (settings.Attr column kind) is sets =
    ap (λ (c : List ℕ). is_long c || nat_le MAX_ATTRS (length draft.attrs.items)) sets.1
    ∙ ap (λ (all : List (List ℕ × AttrKind)). is_long (small value) || nat_le MAX_ATTRS (length all)) is.attrs
    ∙ sym (attr_within entries key value kind sets.0)
exceeds_is name entries draft key value (settings.Charset charset) is sets = ap (λ k. passes_limit entries k value) (sym sets.0)
exceeds_is name entries draft key value (settings.Strip on) is sets = ap (λ k. passes_limit entries k value) (sym sets.0)
exceeds_is name entries draft key value (settings.Sp on) is sets = ap (λ k. passes_limit entries k value) (sym sets.0)
exceeds_is name entries draft key value (settings.Prefix len) is sets = ap (λ k. passes_limit entries k value) (sym sets.0)
exceeds_is name entries draft key value (settings.Zones zones) is sets =
    ap (λ (zs : List (List ℕ)). list_any is_long zs || nat_lt MAX_ZONES (length zs)) sets.1 ∙ ap (λ k. passes_limit entries k value) (sym sets.0)

-- what a draft lacks
pub strip_lacks : (name : List ℕ) (entries : List Entry) (draft : Draft) → IsDraft name entries draft → (has_key draft.given.items keys.IndexZones && not draft.strip) ≡ lacks_strip entries
strip_lacks name entries draft is =
    ap (λ b. b && not draft.strip) (key_has name entries draft keys.IndexZones is) ∙ ap (λ s. is_some (given keys.IndexZones entries) && not s) is.strip

pub key_lacks : (name : List ℕ) (entries : List Entry) (draft : Draft) → IsDraft name entries draft → (not (has_key draft.given.items keys.Type) || not (is_some draft.path) || (length draft.fields.items == 0)) ≡ lacks_key entries
key_lacks name entries draft is =
    ap (λ b. not b || not (is_some draft.path) || (length draft.fields.items == 0)) (key_has name entries draft keys.Type is)
    ∙ ap (λ (p : Option (List ℕ)). not (is_some (given keys.Type entries)) || not (is_some p) || (length draft.fields.items == 0)) is.path
    ∙ ap (λ (fs : List (List ℕ)). not (is_some (given keys.Type entries)) || not (is_some (given keys.Path entries)) || (length fs == 0)) is.fields

charset_by : (value : Option (List ℕ)) (own : Option (List Span)) (charset : List Span) → HasCharset value own → IsTableIn own charset → IsCharsetBy value charset
charset_by None None charset has is = is
charset_by None (Some own) charset has is = absurd has
charset_by (Some value) None charset has is = absurd has
charset_by (Some value) (Some own) charset has is = subst (λ (cs : List Span). IsTableOf value (folded cs)) (sym is) has

-- what is made of a draft is the index of its entries
pub finished : (name : List ℕ) (entries : List Entry) (draft : Draft) (made : IndexConf) → IsDraft name entries draft → IsFinished draft made → IsIndexOf (record { name = name; entries = entries }) made
finished name entries draft made is done = record {
  name = done.name ∙ is.named;
  fields = done.fields ∙ is.fields;
  attrs = done.attrs ∙ is.attrs;
  zones = done.zones ∙ is.zones;
  sp = done.sp ∙ is.sp;
  prefix = done.prefix ∙ is.prefix;
  charset = charset_by (given keys.CharsetTable entries) draft.charset made.charset is.charset done.charset;
  strip = done.strip ∙ is.strip;
  rules_zones = done.rules_zones;
  rules_sp = done.rules_sp;
  path = sym is.path ∙ done.path;
}
