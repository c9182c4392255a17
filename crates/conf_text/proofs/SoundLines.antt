-- The indexes of good lines are sound.
use Rattle.std.proofs.Common.{◌≡◌, ◌≢◌, ℕ, ◌+◌, ◌-◌, ◌*◌, ◌<◌, ◌≤◌, Bool, true, false, cond, List, [], ◌∷◌, ◌++◌, append-nil, length, length-append, map, refl, sym, ◌∙◌, ap, subst, arith, get_or}
use Rattle.std.specs.Prelude.{All, Option, Some, None, ◌&&◌, ◌||◌, ◌==◌, not, nat_le, if◌then◌else◌, codes, reverse}
use Rattle.std.specs.Char.{is_ascii_digit}
use Rattle.std.specs.Int.{is_in_range}
use Rattle.std.specs.List.{list_all, list_any, filter_map, cons_option}
use Rattle.std.specs.Str.{bytes_eq}
use Rattle.std.proofs.lemmas.Bool.{leb-false, leb-true, ltb-false, or_parts}
use Rattle.std.proofs.lemmas.List.{map-append, reverse-append, length-map}
use Rattle.doc_types.specs.declared.schema.AttrKind.{AttrKind}
use Rattle.index_conf.specs.declared.conf.Conf.{Conf}
use Rattle.std.proofs.lemmas.List.Elements.{All-nil, All-push, All-append, All-map}
use Rattle.doc_types.specs.Schemas.{AreDistinct, AreZones, IsName, IsSchema, columns, is_capital, is_column_name}
use Rattle.index_conf.specs.declared.conf.IndexConf.{IndexConf}
use Rattle.index_conf.specs.declared.conf.TheConstants.{MAX_INDEXES}
use Rattle.conf_text.specs.declared.keys.Key.TheVariants as keys
use Rattle.conf_text.specs.Confs.{IsIndexOf, prefix_len_by, shape, shapes_back}
use Rattle.index_conf.specs.Soundness.{IsSound}
use Rattle.conf_text.specs.steps.Drafts.{AreIndexes, entry_with}
use Rattle.conf_text.specs.Faults.{AreGood, IsGoodAt, has_name, has_path, is_among, is_long, is_text}
use Rattle.conf_text.specs.Lines.{Line, content}
use Rattle.conf_text.specs.Sections.{Entry, IndexText, LinePlace, Spot, attrs_in, after_head, entry_of, fields_in, entries_after, entries_in, given, headed, index, indexes_after, indexes_in, inside, other, outside, place_after, place_in, spot_at, spot_in}
use Rattle.conf_text.specs.Shapes.{Shape, bare_head, before_brace, before_equals, after_equals, after_word, blank, closing, entry, entry_shape, first_word, has_equals, head, head_of, head_shape, index_head, is_name, misformed, named_head, opening, opens_section, other_head, shape_of, small, unknown_head, wants_name, wants_no_name, words_shape}
use Rattle.conf_text.specs.Keys.{key_named}
use Rattle.conf_text.specs.Values.{prefix_len_in, prefix_len_of}
use Rattle.doc_types.specs.declared.tokens.TheConstants.{MAX_WORD_CHARS}
use Rattle.conf_text.proofs.Pairs.{all_cons, all_head, all_tail, distinct_both}
use Rattle.conf_text.proofs.Among.{distinct_more}
use Rattle.conf_text.proofs.Entries.{filter_map_more, list_any_map}
use Rattle.conf_text.proofs.Spots.{as_many}
use Rattle.conf_text.proofs.Sizes.{either_way}
use Rattle.conf_text.proofs.Soundness.{GoodEntries, attr_names_in, good_more, good_none, is_false, small_name}

-- the name of a head is in small letters
abbrev pub HasSmall : Shape → Type 0
HasSmall (index_head name opens) = list_all (λ b. not (is_capital b)) name ≡ true
HasSmall _ = Unit {0}

bare_small : (word : List ℕ) (opens : Bool) → HasSmall (bare_head word opens)
bare_small word opens =
    either_way HasSmall (wants_no_name word) (other_head opens) (cond (wants_name word) misformed unknown_head) tt
    (either_way HasSmall (wants_name word) misformed unknown_head tt tt)

named_small : (word name : List ℕ) (opens : Bool) → HasSmall (named_head word (small name) opens)
named_small word name opens =
    either_way HasSmall (bytes_eq word (codes "index")) (index_head (small name) opens) (cond (bytes_eq word (codes "source")) (other_head opens) (cond (wants_no_name word) misformed unknown_head)) (small_name name)
    (either_way HasSmall (bytes_eq word (codes "source")) (other_head opens) (cond (wants_no_name word) misformed unknown_head) tt
    (either_way HasSmall (wants_no_name word) misformed unknown_head tt tt))

head_small : (word rest : List ℕ) (opens : Bool) → HasSmall (head word rest opens)
unfolding head
head_small word [] opens = either_way HasSmall (is_name word) (bare_head (small word) opens) misformed (bare_small (small word) opens) tt
head_small word (b ∷ rest) opens = either_way HasSmall (is_name word && is_name (b ∷ rest)) (named_head (small word) (small (b ∷ rest)) opens) misformed (named_small (small word) (b ∷ rest) opens) tt

shape_small : (text : List ℕ) → HasSmall (shape_of text)
unfolding shape_of
shape_small text =
    let keyed : HasSmall (entry_shape (before_equals text) (after_equals text)) =
    either_way HasSmall (is_name (before_equals text)) (entry (key_named (small (before_equals text))) (after_equals text)) misformed tt tt in
    let headed : HasSmall (head_shape text) =
    either_way HasSmall (opens_section text) (head_of (before_brace text) true) (head_of text false)
    (head_small (first_word (before_brace text)) (after_word (before_brace text)) true)
    (head_small (first_word text) (after_word text) false) in
    let worded : HasSmall (words_shape text) =
    either_way HasSmall (has_equals text) (entry_shape (before_equals text) (after_equals text)) (head_shape text) keyed headed in
    either_way HasSmall (length text == 0) blank (cond (bytes_eq text (codes "{")) opening (cond (bytes_eq text (codes "}")) closing (words_shape text))) tt
    (either_way HasSmall (bytes_eq text (codes "{")) opening (cond (bytes_eq text (codes "}")) closing (words_shape text)) tt
    (either_way HasSmall (bytes_eq text (codes "}")) closing (words_shape text) tt worded))

-- the paths that indexes have
abbrev pub paths_in : List IndexText → List (List ℕ)
paths_in texts = filter_map (λ (t : IndexText). given keys.Path t.entries) texts

-- what a whole index has
pub record GoodText (t : IndexText) : Type 0 where
  pub name : IsName t.name
  pub parts : GoodEntries [] t.entries

-- an index that begins
pub record GoodStart (texts : List IndexText) (name : List ℕ) : Type 0 where
  pub name_is : IsName name
  pub new : list_any (has_name name) texts ≡ false
  pub few : length texts < MAX_INDEXES

abbrev pub GoodPlace : List IndexText → List Entry → LinePlace → Type 0
GoodPlace texts entries outside = Unit {0}
GoodPlace texts entries (headed (index name)) = GoodStart texts name × GoodEntries texts entries
GoodPlace texts entries (headed other) = Unit {0}
GoodPlace texts entries (inside (index name)) = GoodStart texts name × GoodEntries texts entries
GoodPlace texts entries (inside other) = Unit {0}

-- what stands before a line is sound
pub record SoundSpot (spot : Spot) : Type 0 where
  pub texts : All GoodText spot.indexes
  pub few : length spot.indexes ≤ MAX_INDEXES
  pub names : AreDistinct (map (λ t. t.name) spot.indexes)
  pub paths : AreDistinct (paths_in spot.indexes)
  pub place : GoodPlace spot.indexes spot.entries spot.place

pub sound_none : SoundSpot (spot_in [])
sound_none = record {
  texts = All-nil GoodText;
  few = omega arith;
  names = λ i j d order below. absurd (omega arith);
  paths = λ i j d order below. absurd (omega arith);
  place = tt;
}

alone : (texts : List IndexText) (entries : List Entry) → GoodEntries texts entries → GoodEntries [] entries
alone texts entries good = record {
  few_fields = good.few_fields;
  few_attrs = good.few_attrs;
  field_names = good.field_names;
  attr_names = good.attr_names;
  field_forms = good.field_forms;
  attr_forms = good.attr_forms;
  fields_distinct = good.fields_distinct;
  attrs_distinct = good.attrs_distinct;
  apart = good.apart;
  zones_are = good.zones_are;
  path_new = λ p is. refl;
}

among_paths : (path : List ℕ) (texts : List IndexText) → is_among path (paths_in texts) ≡ list_any (has_path path) texts
among_paths path [] = refl
among_paths path (t ∷ texts) = elim (given keys.Path t.entries) as (λ o. is_among path (cons_option o (paths_in texts)) ≡ (is_text path o || list_any (has_path path) texts)) [
  | None ↦ among_paths path texts
  | Some p ↦ ap (λ b. bytes_eq p path || b) (among_paths path texts)
]

-- the paths with that of one more index
paths_more : (texts : List IndexText) (path : Option (List ℕ)) → AreDistinct (paths_in texts) → ((p : List ℕ) → path ≡ Some p → list_any (has_path p) texts ≡ false) → AreDistinct (paths_in texts ++ cons_option path [])
paths_more texts None distinct new = subst AreDistinct (sym (append-nil (paths_in texts))) distinct
paths_more texts (Some p) distinct new = distinct_more (paths_in texts) p distinct (among_paths p texts ∙ new p refl)

-- an index that ends
sound_end : (texts : List IndexText) (entries : List Entry) (name : List ℕ) → SoundSpot (spot_at texts entries (inside (index name))) → SoundSpot (spot_at (texts ++ record { name = name; entries = entries } ∷ []) entries outside)
sound_end texts entries name sound =
    let t : IndexText = record { name = name; entries = entries } in
    let fresh : is_among name (map (λ x. x.name) texts) ≡ false = list_any_map (λ other. bytes_eq other name) (λ (x : IndexText). x.name) texts ∙ sound.place.0.new in
    record {
      texts = All-push GoodText texts t sound.texts (record { name = sound.place.0.name_is; parts = alone texts entries sound.place.1 });
      few = omega (arith, sound.place.0.few, length-append texts (t ∷ []));
      names = subst AreDistinct (sym (map-append (λ (x : IndexText). x.name) texts (t ∷ []))) (distinct_more (map (λ x. x.name) texts) name sound.names fresh);
      paths = subst AreDistinct (sym (filter_map_more (λ (x : IndexText). given keys.Path x.entries) texts t)) (paths_more texts (given keys.Path entries) sound.paths sound.place.1.path_new);
      place = tt;
    }

-- a section that is no index ends
sound_other_end : (texts : List IndexText) (entries : List Entry) (place : LinePlace) → SoundSpot (spot_at texts entries place) → SoundSpot (spot_at (texts ++ []) entries outside)
sound_other_end texts entries place sound =
    subst (λ (ts : List IndexText). SoundSpot (spot_at ts entries outside)) (sym (append-nil texts))
    (record { texts = sound.texts; few = sound.few; names = sound.names; paths = sound.paths; place = tt })

-- another place
sound_at : (texts : List IndexText) (entries more : List Entry) (place next : LinePlace) → SoundSpot (spot_at texts entries place) → GoodPlace texts more next → SoundSpot (spot_at texts more next)
sound_at texts entries more place next sound good = record { texts = sound.texts; few = sound.few; names = sound.names; paths = sound.paths; place = good }

-- the head of an index
start_good : (texts : List IndexText) (entries : List Entry) (name : List ℕ) (opens : Bool) → HasSmall (index_head name opens) → IsGoodAt (spot_at texts entries outside) (index_head name opens) false → GoodStart texts name
start_good texts entries name opens is_small good =
    let within : (is_long name || nat_le MAX_INDEXES (length texts)) ≡ false = is_false _ good.0 in
    record {
      name_is = record { short = ltb-false _ _ (or_parts _ _ within).0; small = is_small };
      new = is_false _ good.1.1.0;
      few = leb-false MAX_INDEXES (length texts) (or_parts _ _ within).1;
    }

headed_good : (texts : List IndexText) (name : List ℕ) (opens : Bool) → GoodStart texts name → GoodPlace texts [] (after_head (index name) opens)
headed_good texts name true start = (start, good_none texts)
headed_good texts name false start = (start, good_none texts)

other_good : (texts : List IndexText) (opens : Bool) → GoodPlace texts [] (after_head other opens)
other_good texts true = tt
other_good texts false = tt

-- a good line more
sound_more : (texts : List IndexText) (entries : List Entry) (place : LinePlace) (line : Shape) → HasSmall line → IsGoodAt (spot_at texts entries place) line false → SoundSpot (spot_at texts entries place) → SoundSpot (spot_at (indexes_after texts place entries line) (entries_after entries line) (place_after place line))
sound_more texts entries place blank is_small good sound = sound
sound_more texts entries outside (index_head name opens) is_small good sound =
    sound_at texts entries [] outside (after_head (index name) opens) sound (headed_good texts name opens (start_good texts entries name opens is_small good))
sound_more texts entries (headed section) (index_head name opens) is_small good sound = absurd (good.1.1.1.1.1.1.0 refl)
sound_more texts entries (inside section) (index_head name opens) is_small good sound = absurd (good.1.1.1.1.1.1.0 refl)
sound_more texts entries place (other_head opens) is_small good sound = sound_at texts entries [] place (after_head other opens) sound (other_good texts opens)
sound_more texts entries place unknown_head is_small good sound = sound
sound_more texts entries outside opening is_small good sound = sound
sound_more texts entries (headed (index name)) opening is_small good sound = sound_at texts entries entries (headed (index name)) (inside (index name)) sound sound.place
sound_more texts entries (headed other) opening is_small good sound = sound_at texts entries entries (headed other) (inside other) sound tt
sound_more texts entries (inside section) opening is_small good sound = sound
sound_more texts entries outside closing is_small good sound = sound_other_end texts entries outside sound
sound_more texts entries (headed section) closing is_small good sound = sound_other_end texts entries (headed section) sound
sound_more texts entries (inside (index name)) closing is_small good sound = sound_end texts entries name sound
sound_more texts entries (inside other) closing is_small good sound = sound_other_end texts entries (inside other) sound
sound_more texts entries outside (entry key value) is_small good sound = sound_at texts entries (entries ++ entry_of key value) outside outside sound tt
sound_more texts entries (headed section) (entry key value) is_small good sound = absurd (good.1.1.1.1.1.1.0 refl)
sound_more texts entries (inside (index name)) (entry None value) is_small good sound = absurd (good.1.1.1.1.0 tt)
sound_more texts entries (inside (index name)) (entry (Some key) value) is_small good sound =
    sound_at texts entries (entries ++ entry_with key value ∷ []) (inside (index name)) (inside (index name)) sound
    (sound.place.0, good_more texts entries key value (record { value_is = good.1.1.1.0; new = good.1.1.0; within = good.0 }) sound.place.1)
sound_more texts entries (inside other) (entry key value) is_small good sound = sound_at texts entries (entries ++ entry_of key value) (inside other) (inside other) sound tt
sound_more texts entries place misformed is_small good sound = sound

sound_lines : (before : List Shape) → All HasSmall before → AreGood before → SoundSpot (spot_in before)
sound_lines [] are_small good = sound_none
sound_lines (line ∷ before) are_small good =
    sound_more (indexes_in before) (entries_in before) (place_in before) line (all_head HasSmall line before are_small) good.0
    (sound_lines before (all_tail HasSmall line before are_small) good.1)

all_reverse : {X : Type 0} (P : X → Type 0) (xs : List X) → All P xs → All P (reverse xs)
all_reverse P [] all = All-nil P
all_reverse P (x ∷ xs) all =
    subst (All P) (sym (reverse-append (x ∷ []) xs)) (All-push P (reverse xs) x (all_reverse P xs (all_tail P x xs all)) (all_head P x xs all))

all_small : (lines : List Line) → All HasSmall (shapes_back lines)
all_small lines = all_reverse HasSmall (map shape lines) (All-map HasSmall shape lines (λ k d below. shape_small (content (get_or lines k d))))

-- the names and the paths of indexes are those of their texts
names_are : (texts : List IndexText) (indexes : List IndexConf) → AreIndexes texts indexes → map (λ t. t.name) texts ≡ map (λ i. i.schema.name) indexes
names_are [] [] are = refl
names_are [] (i ∷ indexes) are = absurd are
names_are (t ∷ texts) [] are = absurd are
names_are (t ∷ texts) (i ∷ indexes) are = ap (λ n. n ∷ map (λ t. t.name) texts) (sym are.0.name) ∙ ap (λ ns. i.schema.name ∷ ns) (names_are texts indexes are.1)

paths_are : (texts : List IndexText) (indexes : List IndexConf) → AreIndexes texts indexes → paths_in texts ≡ map (λ i. i.path) indexes
paths_are [] [] are = refl
paths_are [] (i ∷ indexes) are = absurd are
paths_are (t ∷ texts) [] are = absurd are
paths_are (t ∷ texts) (i ∷ indexes) are = ap (λ o. cons_option o (paths_in texts)) are.0.path ∙ ap (λ ps. i.path ∷ ps) (paths_are texts indexes are.1)

short_of : (n : ℕ) (b : Bool) → nat_le n MAX_WORD_CHARS ≡ b → elim (if b then Some n else None) [ None ↦ 0 | Some k ↦ k ] ≤ MAX_WORD_CHARS
short_of n true e = leb-true n MAX_WORD_CHARS e
short_of n false e = omega arith

short_if : (b : Bool) (o : Option ℕ) → elim o [ None ↦ 0 | Some k ↦ k ] ≤ MAX_WORD_CHARS → elim (if b then o else None) [ None ↦ 0 | Some k ↦ k ] ≤ MAX_WORD_CHARS
short_if true o short = short
short_if false o short = omega arith

-- no value makes prefixes longer than words
short_in : (value : List ℕ) → elim (prefix_len_in value) [ None ↦ 0 | Some k ↦ k ] ≤ MAX_WORD_CHARS
short_in [] = omega arith
short_in (b ∷ []) = short_if (is_ascii_digit b) (prefix_len_of (b - 48)) (short_of (b - 48) (nat_le (b - 48) MAX_WORD_CHARS) refl)
short_in (a ∷ b ∷ []) = short_if (is_in_range 49 57 a && is_ascii_digit b) (prefix_len_of (10 * (a - 48) + (b - 48))) (short_of (10 * (a - 48) + (b - 48)) (nat_le (10 * (a - 48) + (b - 48)) MAX_WORD_CHARS) refl)
short_in (a ∷ b ∷ c ∷ rest) = omega arith

short_by : (o : Option (List ℕ)) → prefix_len_by o ≤ MAX_WORD_CHARS
short_by None = omega arith
short_by (Some value) = short_in value

schema_of : (t : IndexText) (i : IndexConf) → GoodText t → IsIndexOf t i → IsSchema i.schema
schema_of t i good is =
    let parts : GoodEntries [] t.entries = good.parts in
    let columns_are : columns i.schema ≡ fields_in t.entries ++ attr_names_in t.entries =
    ap (λ fs. fs ++ map (λ attr. attr.0) i.schema.attrs) is.fields ∙ ap (λ (all : List (List ℕ × AttrKind)). fields_in t.entries ++ map (λ attr. attr.0) all) is.attrs in
    record {
      name = subst IsName (sym is.name) good.name;
      few_fields = omega (arith, ap length is.fields, parts.few_fields);
      few_attrs = omega (arith, ap length is.attrs, length-map (attrs_in t.entries) (λ (a : List ℕ × AttrKind). a.0), parts.few_attrs);
      names = subst (All IsName) (sym columns_are) (All-append IsName (fields_in t.entries) (attr_names_in t.entries) parts.field_names parts.attr_names);
      form = subst (All (λ n. is_column_name n ≡ true)) (sym columns_are) (All-append (λ n. is_column_name n ≡ true) (fields_in t.entries) (attr_names_in t.entries) parts.field_forms parts.attr_forms);
      distinct = subst AreDistinct (sym columns_are) (distinct_both (fields_in t.entries) (attr_names_in t.entries) parts.fields_distinct parts.attrs_distinct parts.apart);
      zones = subst AreZones (sym is.zones) parts.zones_are;
      prefixes = omega (arith, is.prefix, short_by (given keys.MinPrefixLen t.entries));
    }

schemas_are : (texts : List IndexText) (indexes : List IndexConf) → All GoodText texts → AreIndexes texts indexes → All (λ i. IsSchema i.schema) indexes
schemas_are [] [] good are = All-nil (λ i. IsSchema i.schema)
schemas_are [] (i ∷ indexes) good are = absurd are
schemas_are (t ∷ texts) [] good are = absurd are
schemas_are (t ∷ texts) (i ∷ indexes) good are =
    all_cons (λ (x : IndexConf). IsSchema x.schema) i indexes (schema_of t i (all_head GoodText t texts good) are.0) (schemas_are texts indexes (all_tail GoodText t texts good) are.1)

zones_same : (texts : List IndexText) (indexes : List IndexConf) → AreIndexes texts indexes → All (λ i. i.rules.zones ≡ i.schema.zones) indexes
zones_same [] [] are = All-nil (λ i. i.rules.zones ≡ i.schema.zones)
zones_same [] (i ∷ indexes) are = absurd are
zones_same (t ∷ texts) [] are = absurd are
zones_same (t ∷ texts) (i ∷ indexes) are = all_cons (λ (x : IndexConf). x.rules.zones ≡ x.schema.zones) i indexes are.0.rules_zones (zones_same texts indexes are.1)

sp_same : (texts : List IndexText) (indexes : List IndexConf) → AreIndexes texts indexes → All (λ i. i.rules.sp ≡ i.schema.sp) indexes
sp_same [] [] are = All-nil (λ i. i.rules.sp ≡ i.schema.sp)
sp_same [] (i ∷ indexes) are = absurd are
sp_same (t ∷ texts) [] are = absurd are
sp_same (t ∷ texts) (i ∷ indexes) are = all_cons (λ (x : IndexConf). x.rules.sp ≡ x.schema.sp) i indexes are.0.rules_sp (sp_same texts indexes are.1)

some_indexes : (indexes : List IndexConf) → indexes ≢ [] → 0 < length indexes
some_indexes [] some = absurd (some refl)
some_indexes (i ∷ indexes) some = omega arith

-- a configuration of good lines is sound
pub sound_conf : (lines : List Line) (conf : Conf) → AreGood (shapes_back lines) → AreIndexes (indexes_in (shapes_back lines)) conf.indexes → conf.indexes ≢ [] → IsSound conf
sound_conf lines conf good are some =
    let before : List Shape = shapes_back lines in
    let sound : SoundSpot (spot_in before) = sound_lines before (all_small lines) good in
    record {
      some = some_indexes conf.indexes some;
      few = omega (arith, as_many (indexes_in before) conf.indexes are, sound.few);
      names = subst AreDistinct (names_are (indexes_in before) conf.indexes are) sound.names;
      paths = subst AreDistinct (paths_are (indexes_in before) conf.indexes are) sound.paths;
      schemas = schemas_are (indexes_in before) conf.indexes sound.texts are;
      zones = zones_same (indexes_in before) conf.indexes are;
      sp = sp_same (indexes_in before) conf.indexes are;
    }
