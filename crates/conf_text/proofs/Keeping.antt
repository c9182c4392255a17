-- Drafts with one more entry.
use Rattle.std.proofs.Common.{◌≡◌, ℕ, Bool, true, false, List, [], ◌∷◌, ◌++◌, append-nil, map, refl, sym, ◌∙◌, ap, subst}
use Rattle.std.specs.Prelude.{Option, Some, None}
use Rattle.std.specs.List.{cons_option}
use Rattle.std.specs.Option.{is_some, option_map}
use Rattle.std.proofs.lemmas.Bool.{true≢false, or_parts}
use Rattle.doc_types.specs.declared.schema.AttrKind.{AttrKind}
use Rattle.charset_map.specs.declared.span.Span.{Span}
use Rattle.conf_text.specs.declared.draft.Draft.{Draft}
use Rattle.conf_text.specs.declared.keys.Key.{Key}
use Rattle.conf_text.specs.declared.keys.Key.TheVariants as keys
use Rattle.conf_text.specs.declared.setting.Setting.{Setting}
use Rattle.conf_text.specs.declared.setting.Setting.TheVariants as settings
use Rattle.conf_text.specs.Confs.{prefix_len_by, zones_by}
use Rattle.conf_text.specs.steps.Drafts.{HasCharset, IsDraft, Sets, entry_with}
use Rattle.conf_text.specs.Faults.{is_on, is_repeated}
use Rattle.conf_text.specs.Keys.{attr_kind, same_key}
use Rattle.conf_text.specs.Sections.{Entry, IndexText, attr_by, field_by, given}
use Rattle.conf_text.specs.steps.Settings.{IsSetting, is_plain}
use Rattle.conf_text.specs.Shapes.{small}
use Rattle.conf_text.specs.Values.{prefix_len_in}
use Rattle.conf_text.proofs.Entries.{filter_map_more, given_new, given_other}

map_more : {X Y : Type 0} (f : X → Y) (xs : List X) (x : X) → map f (xs ++ x ∷ []) ≡ map f xs ++ f x ∷ []
map_more f [] x = refl
map_more f (first ∷ xs) x = ap (λ ys. f first ∷ ys) (map_more f xs x)

-- none of the values that are kept is this key's
pub record IsOther (key : Key) : Type 0 where
  pub path : same_key key keys.Path ≡ false
  pub charset : same_key key keys.CharsetTable ≡ false
  pub zones : same_key key keys.IndexZones ≡ false
  pub strip : same_key key keys.HtmlStrip ≡ false
  pub sp : same_key key keys.IndexSp ≡ false
  pub prefix : same_key key keys.MinPrefixLen ≡ false

-- the values that are kept, once more entries are there
pub record HasValues (entries : List Entry) (draft : Draft) : Type 0 where
  pub path : draft.path ≡ given keys.Path entries
  pub charset : HasCharset (given keys.CharsetTable entries) draft.charset
  pub zones : draft.zones.items ≡ zones_by (given keys.IndexZones entries)
  pub strip : draft.strip ≡ is_on (given keys.HtmlStrip entries)
  pub sp : draft.sp ≡ is_on (given keys.IndexSp entries)
  pub prefix : draft.min_prefix ≡ prefix_len_by (given keys.MinPrefixLen entries)

path_stays : (entries : List Entry) (e : Entry) (path : Option (List ℕ)) → same_key e.key keys.Path ≡ false → path ≡ given keys.Path entries → path ≡ given keys.Path (entries ++ e ∷ [])
path_stays entries e path other is = is ∙ sym (given_other keys.Path entries e other)

charset_stays : (entries : List Entry) (e : Entry) (charset : Option (List Span)) → same_key e.key keys.CharsetTable ≡ false → HasCharset (given keys.CharsetTable entries) charset → HasCharset (given keys.CharsetTable (entries ++ e ∷ [])) charset
charset_stays entries e charset other is = subst (λ (o : Option (List ℕ)). HasCharset o charset) (sym (given_other keys.CharsetTable entries e other)) is

zones_stay : (entries : List Entry) (e : Entry) (zones : List (List ℕ)) → same_key e.key keys.IndexZones ≡ false → zones ≡ zones_by (given keys.IndexZones entries) → zones ≡ zones_by (given keys.IndexZones (entries ++ e ∷ []))
zones_stay entries e zones other is = is ∙ ap zones_by (sym (given_other keys.IndexZones entries e other))

strip_stays : (entries : List Entry) (e : Entry) (strip : Bool) → same_key e.key keys.HtmlStrip ≡ false → strip ≡ is_on (given keys.HtmlStrip entries) → strip ≡ is_on (given keys.HtmlStrip (entries ++ e ∷ []))
strip_stays entries e strip other is = is ∙ ap is_on (sym (given_other keys.HtmlStrip entries e other))

sp_stays : (entries : List Entry) (e : Entry) (sp : Bool) → same_key e.key keys.IndexSp ≡ false → sp ≡ is_on (given keys.IndexSp entries) → sp ≡ is_on (given keys.IndexSp (entries ++ e ∷ []))
sp_stays entries e sp other is = is ∙ ap is_on (sym (given_other keys.IndexSp entries e other))

prefix_stays : (entries : List Entry) (e : Entry) (len : ℕ) → same_key e.key keys.MinPrefixLen ≡ false → len ≡ prefix_len_by (given keys.MinPrefixLen entries) → len ≡ prefix_len_by (given keys.MinPrefixLen (entries ++ e ∷ []))
prefix_stays entries e len other is = is ∙ ap prefix_len_by (sym (given_other keys.MinPrefixLen entries e other))

all_stay : (name : List ℕ) (entries : List Entry) (e : Entry) (draft : Draft) → IsDraft name entries draft → IsOther e.key → HasValues (entries ++ e ∷ []) draft
all_stay name entries e draft is other = record {
  path = path_stays entries e draft.path other.path is.path;
  charset = charset_stays entries e draft.charset other.charset is.charset;
  zones = zones_stay entries e draft.zones.items other.zones is.zones;
  strip = strip_stays entries e draft.strip other.strip is.strip;
  sp = sp_stays entries e draft.sp other.sp is.sp;
  prefix = prefix_stays entries e draft.min_prefix other.prefix is.prefix;
}

draft_more : (name : List ℕ) (entries : List Entry) (e : Entry) (old mid : Draft) (after : Draft) → IsDraft name entries old → mid.name ≡ old.name → after.given.items ≡ old.given.items ++ e.key ∷ [] → mid.fields.items ≡ old.fields.items ++ cons_option (field_by e.key e.value) [] → mid.attrs.items ≡ old.attrs.items ++ cons_option (attr_by e.key e.value) [] → HasValues (entries ++ e ∷ []) mid → after ≡ record mid { given = after.given } → IsDraft name (entries ++ e ∷ []) after
draft_more name entries e old mid after is named keys_are fields attrs values shape =
    let made : IsDraft name (entries ++ e ∷ []) (record mid { given = after.given }) = record {
      named = named ∙ is.named;
      given_are = keys_are ∙ ap (λ ks. ks ++ e.key ∷ []) is.given_are ∙ sym (map_more (λ (x : Entry). x.key) entries e);
      fields = fields ∙ ap (λ fs. fs ++ cons_option (field_by e.key e.value) []) is.fields ∙ sym (filter_map_more (λ (x : Entry). field_by x.key x.value) entries e);
      attrs = attrs ∙ ap (λ all. all ++ cons_option (attr_by e.key e.value) []) is.attrs ∙ sym (filter_map_more (λ (x : Entry). attr_by x.key x.value) entries e);
      path = values.path;
      charset = values.charset;
      zones = values.zones;
      strip = values.strip;
      sp = values.sp;
      prefix = values.prefix;
    } in
    subst (λ (d : Draft). IsDraft name (entries ++ e ∷ []) d) (sym shape) made

plain_other : (key : Key) → is_plain key ≡ true → IsOther key
plain_other keys.CharsetTable plain = absurd (true≢false (sym plain))
plain_other keys.HtmlStrip plain = absurd (true≢false (sym plain))
plain_other keys.IndexSp plain = absurd (true≢false (sym plain))
plain_other keys.IndexZones plain = absurd (true≢false (sym plain))
plain_other keys.MinPrefixLen plain = absurd (true≢false (sym plain))
plain_other keys.Path plain = absurd (true≢false (sym plain))
plain_other _ plain = record { path = refl; charset = refl; zones = refl; strip = refl; sp = refl; prefix = refl }

plain_field : (key : Key) (value : List ℕ) → is_plain key ≡ true → field_by key value ≡ None
plain_field keys.RtField value plain = absurd (true≢false (sym plain))
plain_field _ value plain = refl

plain_attr : (key : Key) (value : List ℕ) → is_plain key ≡ true → attr_by key value ≡ None
plain_attr keys.RtAttrUint value plain = absurd (true≢false (sym plain))
plain_attr keys.RtAttrBool value plain = absurd (true≢false (sym plain))
plain_attr keys.RtAttrBigint value plain = absurd (true≢false (sym plain))
plain_attr keys.RtAttrTimestamp value plain = absurd (true≢false (sym plain))
plain_attr _ value plain = refl

field_other : (key : Key) → key ≡ keys.RtField → IsOther key
field_other key is = record {
  path = ap (λ k. same_key k keys.Path) is;
  charset = ap (λ k. same_key k keys.CharsetTable) is;
  zones = ap (λ k. same_key k keys.IndexZones) is;
  strip = ap (λ k. same_key k keys.HtmlStrip) is;
  sp = ap (λ k. same_key k keys.IndexSp) is;
  prefix = ap (λ k. same_key k keys.MinPrefixLen) is;
}

attr_other : (key : Key) (kind : AttrKind) → attr_kind key ≡ Some kind → IsOther key
attr_other keys.RtAttrUint kind is = record { path = refl; charset = refl; zones = refl; strip = refl; sp = refl; prefix = refl }
attr_other keys.RtAttrBool kind is = record { path = refl; charset = refl; zones = refl; strip = refl; sp = refl; prefix = refl }
attr_other keys.RtAttrBigint kind is = record { path = refl; charset = refl; zones = refl; strip = refl; sp = refl; prefix = refl }
attr_other keys.RtAttrTimestamp kind is = record { path = refl; charset = refl; zones = refl; strip = refl; sp = refl; prefix = refl }
attr_other _ kind is = cc

attr_field : (key : Key) (value : List ℕ) (kind : AttrKind) → attr_kind key ≡ Some kind → field_by key value ≡ None
attr_field keys.RtField value kind is = cc
attr_field _ value kind is = refl

none_more : {X : Type 0} (xs : List X) (o : Option X) → o ≡ None → xs ≡ xs ++ cons_option o []
none_more xs o none = sym (append-nil xs) ∙ ap (λ o. xs ++ cons_option o []) (sym none)

-- a key that stands once, and wasn't given
once : (texts : List IndexText) (entries : List Entry) (key wanted : Key) (value : List ℕ) → key ≡ wanted → is_repeated texts entries wanted value ≡ is_some (given wanted entries) → is_repeated texts entries key value ≡ false → is_some (given wanted entries) ≡ false
once texts entries key wanted value is stands new = sym stands ∙ ap (λ k. is_repeated texts entries k value) (sym is) ∙ new

-- the number that a value writes
len_is : (len : ℕ) (value : List ℕ) → prefix_len_in value ≡ Some len → len ≡ prefix_len_by (Some value)
len_is len value is = ap (λ (o : Option ℕ). elim o [ None ↦ 0 | Some n ↦ n ]) (sym is)

-- what a setting and its key make of a draft
pub kept : (texts : List IndexText) (name : List ℕ) (entries : List Entry) (old mid : Draft) (after : Draft) (key : Key) (value : List ℕ) (setting : Setting) → IsDraft name entries old → IsSetting key value setting → is_repeated texts entries key value ≡ false → Sets setting old mid → after.given.items ≡ mid.given.items ++ key ∷ [] → after ≡ record mid { given = after.given } → IsDraft name (entries ++ entry_with key value ∷ []) after
kept texts name entries old mid after key value settings.Plain is sets new set keys_are shape =
    draft_more name entries (entry_with key value) old mid after is (ap (λ (d : Draft). d.name) set) (keys_are ∙ ap (λ (d : Draft). d.given.items ++ key ∷ []) set)
    (ap (λ (d : Draft). d.fields.items) set ∙ none_more old.fields.items _ (plain_field key value sets))
    (ap (λ (d : Draft). d.attrs.items) set ∙ none_more old.attrs.items _ (plain_attr key value sets))
    (subst (λ (d : Draft). HasValues (entries ++ entry_with key value ∷ []) d) (sym set) (all_stay name entries (entry_with key value) old is (plain_other key sets))) shape
kept texts name entries old mid after key value (settings.Path path) is sets new set keys_are shape =
    let e : Entry = entry_with key value in
    let now : given keys.Path (entries ++ e ∷ []) ≡ Some value = given_new keys.Path entries e (ap (λ k. same_key k keys.Path) sets.0) ((or_parts (is_some (given keys.Path entries)) _ (ap (λ k. is_repeated texts entries k value) (sym sets.0) ∙ new)).0) in
    let values : HasValues (entries ++ e ∷ []) (record old { path = Some path }) = record {
      path = ap Some sets.1 ∙ sym now;
      charset = charset_stays entries e old.charset (ap (λ k. same_key k keys.CharsetTable) sets.0) is.charset;
      zones = zones_stay entries e old.zones.items (ap (λ k. same_key k keys.IndexZones) sets.0) is.zones;
      strip = strip_stays entries e old.strip (ap (λ k. same_key k keys.HtmlStrip) sets.0) is.strip;
      sp = sp_stays entries e old.sp (ap (λ k. same_key k keys.IndexSp) sets.0) is.sp;
      prefix = prefix_stays entries e old.min_prefix (ap (λ k. same_key k keys.MinPrefixLen) sets.0) is.prefix;
    } in
    draft_more name entries e old mid after is (ap (λ (d : Draft). d.name) set) (keys_are ∙ ap (λ (d : Draft). d.given.items ++ key ∷ []) set)
    (ap (λ (d : Draft). d.fields.items) set ∙ none_more old.fields.items _ (ap (λ k. field_by k value) sets.0))
    (ap (λ (d : Draft). d.attrs.items) set ∙ none_more old.attrs.items _ (ap (λ k. attr_by k value) sets.0))
    (subst (λ (d : Draft). HasValues (entries ++ e ∷ []) d) (sym set) values) shape
kept texts name entries old mid after key value (settings.Field column) is sets new set keys_are shape =
    let e : Entry = entry_with key value in
    let stay : HasValues (entries ++ e ∷ []) old = all_stay name entries e old is (field_other key sets.0) in
    draft_more name entries e old mid after is (ap (λ (d : Draft). d.name) set.0) (keys_are ∙ ap (λ (d : Draft). d.given.items ++ key ∷ []) set.0)
    (set.1 ∙ ap (λ (c : List ℕ). old.fields.items ++ c ∷ []) sets.1 ∙ ap (λ k. old.fields.items ++ cons_option (field_by k value) []) (sym sets.0))
    (ap (λ (d : Draft). d.attrs.items) set.0 ∙ none_more old.attrs.items _ (ap (λ k. attr_by k value) sets.0))
    (subst (λ (d : Draft). HasValues (entries ++ e ∷ []) d) (sym set.0) (record { path = stay.path; charset = stay.charset; zones = stay.zones; strip = stay.strip; sp = stay.sp; prefix = stay.prefix })) shape
kept texts name entries old mid after key value (settings.Attr column kind) is sets new set keys_are shape =
    let e : Entry = entry_with key value in
    let stay : HasValues (entries ++ e ∷ []) old = all_stay name entries e old is (attr_other key kind sets.0) in
    draft_more name entries e old mid after is (ap (λ (d : Draft). d.name) set.0) (keys_are ∙ ap (λ (d : Draft). d.given.items ++ key ∷ []) set.0)
    (ap (λ (d : Draft). d.fields.items) set.0 ∙ none_more old.fields.items _ (attr_field key value kind sets.0))
    (set.1 ∙ ap (λ (c : List ℕ). old.attrs.items ++ (c, kind) ∷ []) sets.1 ∙ ap (λ o. old.attrs.items ++ cons_option (option_map (λ k. (small value, k)) o) []) (sym sets.0))
    (subst (λ (d : Draft). HasValues (entries ++ e ∷ []) d) (sym set.0) (record { path = stay.path; charset = stay.charset; zones = stay.zones; strip = stay.strip; sp = stay.sp; prefix = stay.prefix })) shape
kept texts name entries old mid after key value (settings.Charset charset) is sets new set keys_are shape =
    let e : Entry = entry_with key value in
    let now : given keys.CharsetTable (entries ++ e ∷ []) ≡ Some value = given_new keys.CharsetTable entries e (ap (λ k. same_key k keys.CharsetTable) sets.0) (once texts entries key keys.CharsetTable value sets.0 refl new) in
    let values : HasValues (entries ++ e ∷ []) (record old { charset = Some charset }) = record {
      path = path_stays entries e old.path (ap (λ k. same_key k keys.Path) sets.0) is.path;
      charset = subst (λ (o : Option (List ℕ)). HasCharset o (Some charset)) (sym now) sets.1;
      zones = zones_stay entries e old.zones.items (ap (λ k. same_key k keys.IndexZones) sets.0) is.zones;
      strip = strip_stays entries e old.strip (ap (λ k. same_key k keys.HtmlStrip) sets.0) is.strip;
      sp = sp_stays entries e old.sp (ap (λ k. same_key k keys.IndexSp) sets.0) is.sp;
      prefix = prefix_stays entries e old.min_prefix (ap (λ k. same_key k keys.MinPrefixLen) sets.0) is.prefix;
    } in
    draft_more name entries e old mid after is (ap (λ (d : Draft). d.name) set) (keys_are ∙ ap (λ (d : Draft). d.given.items ++ key ∷ []) set)
    (ap (λ (d : Draft). d.fields.items) set ∙ none_more old.fields.items _ (ap (λ k. field_by k value) sets.0))
    (ap (λ (d : Draft). d.attrs.items) set ∙ none_more old.attrs.items _ (ap (λ k. attr_by k value) sets.0))
    (subst (λ (d : Draft). HasValues (entries ++ e ∷ []) d) (sym set) values) shape
kept texts name entries old mid after key value (settings.Strip on) is sets new set keys_are shape =
    let e : Entry = entry_with key value in
    let now : given keys.HtmlStrip (entries ++ e ∷ []) ≡ Some value = given_new keys.HtmlStrip entries e (ap (λ k. same_key k keys.HtmlStrip) sets.0) (once texts entries key keys.HtmlStrip value sets.0 refl new) in
    let values : HasValues (entries ++ e ∷ []) (record old { strip = on }) = record {
      path = path_stays entries e old.path (ap (λ k. same_key k keys.Path) sets.0) is.path;
      charset = charset_stays entries e old.charset (ap (λ k. same_key k keys.CharsetTable) sets.0) is.charset;
      zones = zones_stay entries e old.zones.items (ap (λ k. same_key k keys.IndexZones) sets.0) is.zones;
      strip = sets.1 ∙ ap is_on (sym now);
      sp = sp_stays entries e old.sp (ap (λ k. same_key k keys.IndexSp) sets.0) is.sp;
      prefix = prefix_stays entries e old.min_prefix (ap (λ k. same_key k keys.MinPrefixLen) sets.0) is.prefix;
    } in
    draft_more name entries e old mid after is (ap (λ (d : Draft). d.name) set) (keys_are ∙ ap (λ (d : Draft). d.given.items ++ key ∷ []) set)
    (ap (λ (d : Draft). d.fields.items) set ∙ none_more old.fields.items _ (ap (λ k. field_by k value) sets.0))
    (ap (λ (d : Draft). d.attrs.items) set ∙ none_more old.attrs.items _ (ap (λ k. attr_by k value) sets.0))
    (subst (λ (d : Draft). HasValues (entries ++ e ∷ []) d) (sym set) values) shape
kept texts name entries old mid after key value (settings.Sp on) is sets new set keys_are shape =
    let e : Entry = entry_with key value in
    let now : given keys.IndexSp (entries ++ e ∷ []) ≡ Some value = given_new keys.IndexSp entries e (ap (λ k. same_key k keys.IndexSp) sets.0) (once texts entries key keys.IndexSp value sets.0 refl new) in
    let values : HasValues (entries ++ e ∷ []) (record old { sp = on }) = record {
      path = path_stays entries e old.path (ap (λ k. same_key k keys.Path) sets.0) is.path;
      charset = charset_stays entries e old.charset (ap (λ k. same_key k keys.CharsetTable) sets.0) is.charset;
      zones = zones_stay entries e old.zones.items (ap (λ k. same_key k keys.IndexZones) sets.0) is.zones;
      strip = strip_stays entries e old.strip (ap (λ k. same_key k keys.HtmlStrip) sets.0) is.strip;
      sp = sets.1 ∙ ap is_on (sym now);
      prefix = prefix_stays entries e old.min_prefix (ap (λ k. same_key k keys.MinPrefixLen) sets.0) is.prefix;
    } in
    draft_more name entries e old mid after is (ap (λ (d : Draft). d.name) set) (keys_are ∙ ap (λ (d : Draft). d.given.items ++ key ∷ []) set)
    (ap (λ (d : Draft). d.fields.items) set ∙ none_more old.fields.items _ (ap (λ k. field_by k value) sets.0))
    (ap (λ (d : Draft). d.attrs.items) set ∙ none_more old.attrs.items _ (ap (λ k. attr_by k value) sets.0))
    (subst (λ (d : Draft). HasValues (entries ++ e ∷ []) d) (sym set) values) shape
kept texts name entries old mid after key value (settings.Prefix len) is sets new set keys_are shape =
    let e : Entry = entry_with key value in
    let now : given keys.MinPrefixLen (entries ++ e ∷ []) ≡ Some value = given_new keys.MinPrefixLen entries e (ap (λ k. same_key k keys.MinPrefixLen) sets.0) (once texts entries key keys.MinPrefixLen value sets.0 refl new) in
    let values : HasValues (entries ++ e ∷ []) (record old { min_prefix = len }) = record {
      path = path_stays entries e old.path (ap (λ k. same_key k keys.Path) sets.0) is.path;
      charset = charset_stays entries e old.charset (ap (λ k. same_key k keys.CharsetTable) sets.0) is.charset;
      zones = zones_stay entries e old.zones.items (ap (λ k. same_key k keys.IndexZones) sets.0) is.zones;
      strip = strip_stays entries e old.strip (ap (λ k. same_key k keys.HtmlStrip) sets.0) is.strip;
      sp = sp_stays entries e old.sp (ap (λ k. same_key k keys.IndexSp) sets.0) is.sp;
      prefix = len_is len value sets.1 ∙ ap prefix_len_by (sym now);
    } in
    draft_more name entries e old mid after is (ap (λ (d : Draft). d.name) set) (keys_are ∙ ap (λ (d : Draft). d.given.items ++ key ∷ []) set)
    (ap (λ (d : Draft). d.fields.items) set ∙ none_more old.fields.items _ (ap (λ k. field_by k value) sets.0))
    (ap (λ (d : Draft). d.attrs.items) set ∙ none_more old.attrs.items _ (ap (λ k. attr_by k value) sets.0))
    (subst (λ (d : Draft). HasValues (entries ++ e ∷ []) d) (sym set) values) shape
kept texts name entries old mid after key value (settings.Zones zones) is sets new set keys_are shape =
    let e : Entry = entry_with key value in
    let now : given keys.IndexZones (entries ++ e ∷ []) ≡ Some value = given_new keys.IndexZones entries e (ap (λ k. same_key k keys.IndexZones) sets.0) (once texts entries key keys.IndexZones value sets.0 refl new) in
    let values : HasValues (entries ++ e ∷ []) (record old { zones = zones }) = record {
      path = path_stays entries e old.path (ap (λ k. same_key k keys.Path) sets.0) is.path;
      charset = charset_stays entries e old.charset (ap (λ k. same_key k keys.CharsetTable) sets.0) is.charset;
      zones = sets.1 ∙ ap zones_by (sym now);
      strip = strip_stays entries e old.strip (ap (λ k. same_key k keys.HtmlStrip) sets.0) is.strip;
      sp = sp_stays entries e old.sp (ap (λ k. same_key k keys.IndexSp) sets.0) is.sp;
      prefix = prefix_stays entries e old.min_prefix (ap (λ k. same_key k keys.MinPrefixLen) sets.0) is.prefix;
    } in
    draft_more name entries e old mid after is (ap (λ (d : Draft). d.name) set) (keys_are ∙ ap (λ (d : Draft). d.given.items ++ key ∷ []) set)
    (ap (λ (d : Draft). d.fields.items) set ∙ none_more old.fields.items _ (ap (λ k. field_by k value) sets.0))
    (ap (λ (d : Draft). d.attrs.items) set ∙ none_more old.attrs.items _ (ap (λ k. attr_by k value) sets.0))
    (subst (λ (d : Draft). HasValues (entries ++ e ∷ []) d) (sym set) values) shape
