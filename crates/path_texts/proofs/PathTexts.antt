-- The paths of a configuration are texts: its lines are, and they are cut at ASCII characters alone.
use Rattle.std.proofs.Common.{◌≡◌, ◌⊎◌, ℕ, zero, suc, ◌+◌, ◌-◌, ◌<◌, Bool, true, false, cond, List, [], ◌∷◌, ◌++◌, All, length, take, drop, get_or, map, arith, refl, sym, ap, subst, ◌∙◌, inl, inr}
use Rattle.std.specs.Prelude.{⊤, not, Option, Some, None, ◌&&◌, ◌==◌, codes, reverse}
use Rattle.std.specs.List.{AllZip, after_first, position_or_len, prefix_len, suffix_len}
use Rattle.std.specs.Str.{IsUtf8, IsCharBoundary, bytes_eq}
use Rattle.std.proofs.lemmas.List.{get_or-reverse, reverse-append}
use Rattle.std.proofs.lemmas.List.Elements.{All-nil, All-cons, All-head, All-tail}
use Rattle.std.proofs.lemmas.List.Sums.{prefix_len_passes, prefix_len_stops, suffix_len-le-length}
use Rattle.std.proofs.lemmas.Str.{IsUtf8-append, IsUtf8-drop, IsUtf8-nil, IsUtf8-take, IsCharBoundary-after_ascii, IsCharBoundary-before_ascii, IsCharBoundary-end}
use Rattle.charset_map.specs.Characters.{is_blank}
use Rattle.charset_map.specs.TableText.{without_front}
use Rattle.index_conf.specs.declared.conf.Conf.{Conf}
use Rattle.index_conf.specs.declared.conf.IndexConf.{IndexConf}
use Rattle.conf_text.specs.Confs.{IsConfOf, IsIndexOf, IsUtf8Line, shape, shapes_back}
use Rattle.conf_text.specs.Keys.{key_named, same_key}
use Rattle.conf_text.specs.Lines.{Line, begins_comment, content, content_of, is_joined, joined_parts, trimmed, uncommented, uncommented_after, unjoined}
use Rattle.conf_text.specs.Sections.{Entry, IndexText, LinePlace, ended, entries_after, entries_in, entry_of, given, headed, indexes_after, indexes_in, inside, outside, place_in, other, index}
use Rattle.conf_text.specs.Shapes.{Shape, after_equals, after_word, bare_head, before_brace, before_equals, blank, closing, entry, entry_shape, first_word, has_equals, head, head_of, head_shape, index_head, is_name, misformed, named_head, opening, opens_section, other_head, shape_of, small, unknown_head, wants_name, wants_no_name, words_shape}
use Rattle.conf_text.specs.declared.keys.Key.{Key}
use Rattle.conf_text.specs.declared.keys.Key.TheVariants as keys
use Rattle.conf_text.proofs.Sizes.{either_way}

-- ---- cuts of a text

-- the text is cut at its end, or before an ASCII character
abbrev IsCut : ℕ → List ℕ → Type 0
IsCut n text = (n ≡ length text) ⊎ ((n < length text) × (get_or text n 0 < 128))

cut_text : (n : ℕ) (text : List ℕ) → IsCut n text → IsUtf8 text → IsUtf8 (take n text)
cut_text n text (inl end) utf8 = IsUtf8-take text n utf8 (subst (IsCharBoundary text) (sym end) (IsCharBoundary-end text))
cut_text n text (inr at) utf8 = IsUtf8-take text n utf8 (IsCharBoundary-before_ascii text n at.0 at.1)

blank_ascii : (b : ℕ) → is_blank b ≡ true → b < 128
blank_ascii b is = grind arith

front_text : (text : List ℕ) → IsUtf8 text → IsUtf8 (without_front text)
front_text [] utf8 = utf8
front_text (b ∷ text) utf8 = elim (is_blank b) as (λ t. is_blank b ≡ t → IsUtf8 (drop (cond t (1 + prefix_len is_blank text) 0) (b ∷ text))) [
  | true ↦ λ is.
      let one : 1 + prefix_len is_blank text ≡ suc (prefix_len is_blank text) = omega arith in
      subst (λ (n : ℕ). IsUtf8 (drop n (b ∷ text))) (sym one) (front_text text (IsUtf8-drop (b ∷ text) 1 utf8 (IsCharBoundary-after_ascii (b ∷ text) 0 utf8 (omega arith) (blank_ascii b is))))
  | false ↦ λ is. utf8
] refl

back_cut : (text : List ℕ) → IsCut (length text - suffix_len is_blank text) text
back_cut text = elim (suffix_len is_blank text) as (λ n. suffix_len is_blank text ≡ n → IsCut (length text - n) text) [
  | zero ↦ λ is. inl (omega arith)
  | suc n ↦ λ is.
      let le = suffix_len-le-length is_blank text in
      let passes : is_blank (get_or (reverse text) n 0) ≡ true = prefix_len_passes is_blank (reverse text) n 0 (omega (arith, is)) in
      let place : length text - 1 - n ≡ length text - suc n = omega arith in
      let same : get_or (reverse text) n 0 ≡ get_or text (length text - suc n) 0 = get_or-reverse text n 0 (omega (arith, le, is)) ∙ ap (λ i. get_or text i 0) place in
      inr (omega (arith, le, is), blank_ascii (get_or text (length text - suc n) 0) (ap is_blank (sym same) ∙ passes))
] refl

trimmed_text : (text : List ℕ) → IsUtf8 text → IsUtf8 (trimmed text)
trimmed_text text utf8 = cut_text (length (without_front text) - suffix_len is_blank (without_front text)) (without_front text) (back_cut (without_front text)) (front_text text utf8)

-- a text without its comment is cut before the `#`
comment_ascii : (before b : ℕ) → begins_comment before b ≡ true → b < 128
comment_ascii before b is = grind arith

comment_cut : (before : ℕ) (text : List ℕ) → (n : ℕ) × (uncommented_after before text ≡ take n text) × IsCut n text
comment_cut before [] = (0, refl, inl refl)
comment_cut before (b ∷ text) = elim (begins_comment before b) as (λ t. begins_comment before b ≡ t → (n : ℕ) × (cond t [] (b ∷ uncommented_after b text) ≡ take n (b ∷ text)) × IsCut n (b ∷ text)) [
  | true ↦ λ is. (0, refl, inr (omega arith, comment_ascii before b is))
  | false ↦ λ is. let (n, same, cut) = comment_cut b text in (suc n, ap (λ rest. b ∷ rest) same, cut_more b n text cut)
] refl
  where
    cut_more : (b n : ℕ) (text : List ℕ) → IsCut n text → IsCut (suc n) (b ∷ text)
    cut_more b n text (inl end) = inl (ap suc end)
    cut_more b n text (inr at) = inr (omega (arith, at.0), at.1)

uncommented_text : (text : List ℕ) → IsUtf8 text → IsUtf8 (uncommented text)
uncommented_text text utf8 = let (n, same, cut) = comment_cut 32 text in subst IsUtf8 (sym same) (cut_text n text cut utf8)

-- ---- what a line says

joined_cut : (part : List ℕ) → is_joined part ≡ true → IsCut (length part - 1) part
joined_cut [] is = absurd (clash_zero is)
  where
    clash_zero : (0 == 92) ≡ true → ⊥
    clash_zero e = grind arith
joined_cut (b ∷ part) is = inr (omega arith, grind arith)

unjoined_text : (part : List ℕ) → IsUtf8 part → IsUtf8 (unjoined part)
unjoined_text part utf8 = elim (is_joined part) as (λ t. is_joined part ≡ t → IsUtf8 (cond t (take (length part - 1) part) part)) [
  | true ↦ λ is. cut_text (length part - 1) part (joined_cut part is) utf8
  | false ↦ λ is. utf8
] refl

parts_text : (parts : List (List ℕ)) → All IsUtf8 parts → IsUtf8 (joined_parts parts)
parts_text [] all = IsUtf8-nil
parts_text (part ∷ parts) all = IsUtf8-append (unjoined part) (joined_parts parts) (unjoined_text part (All-head IsUtf8 part parts all)) (parts_text parts (All-tail IsUtf8 part parts all))

content_text : (text : List ℕ) → IsUtf8 text → IsUtf8 (content_of text)
unfolding content_of
content_text text utf8 = trimmed_text (uncommented text) (uncommented_text text utf8)

-- ---- the values of entries

-- the value of an entry is a text
abbrev HasText : Shape → Type 0
HasText (entry key value) = IsUtf8 value
HasText _ = ⊤

bare_text : (word : List ℕ) (opens : Bool) → HasText (bare_head word opens)
bare_text word opens =
    either_way HasText (wants_no_name word) (other_head opens) (cond (wants_name word) misformed unknown_head) tt
    (either_way HasText (wants_name word) misformed unknown_head tt tt)

named_text : (word name : List ℕ) (opens : Bool) → HasText (named_head word name opens)
named_text word name opens =
    either_way HasText (bytes_eq word (codes "index")) (index_head name opens) (cond (bytes_eq word (codes "source")) (other_head opens) (cond (wants_no_name word) misformed unknown_head)) tt
    (either_way HasText (bytes_eq word (codes "source")) (other_head opens) (cond (wants_no_name word) misformed unknown_head) tt
    (either_way HasText (wants_no_name word) misformed unknown_head tt tt))

head_text : (word rest : List ℕ) (opens : Bool) → HasText (head word rest opens)
unfolding head
head_text word [] opens = either_way HasText (is_name word) (bare_head (small word) opens) misformed (bare_text (small word) opens) tt
head_text word (b ∷ rest) opens = either_way HasText (is_name word && is_name (b ∷ rest)) (named_head (small word) (small (b ∷ rest)) opens) misformed (named_text (small word) (small (b ∷ rest)) opens) tt

after_text : (text : List ℕ) → has_equals text ≡ true → IsUtf8 text → IsUtf8 (after_equals text)
after_text text has utf8 =
    let at = position_or_len (λ b. b == 61) text in
    let within : at < length text = grind arith in
    let is : get_or text at 0 < 128 = let stops = prefix_len_stops (λ b. not (b == 61)) text 0 within in grind arith in
    trimmed_text (after_first (λ b. b == 61) text) (IsUtf8-drop text (at + 1) utf8 (IsCharBoundary-after_ascii text at utf8 within is))

shape_text : (text : List ℕ) → IsUtf8 text → HasText (shape_of text)
unfolding shape_of
shape_text text utf8 =
    let keyed : has_equals text ≡ true → HasText (entry_shape (before_equals text) (after_equals text)) =
    λ has. either_way HasText (is_name (before_equals text)) (entry (key_named (small (before_equals text))) (after_equals text)) misformed (after_text text has utf8) tt in
    let headed : HasText (head_shape text) =
    either_way HasText (opens_section text) (head_of (before_brace text) true) (head_of text false)
    (head_text (first_word (before_brace text)) (after_word (before_brace text)) true)
    (head_text (first_word text) (after_word text) false) in
    let worded : HasText (words_shape text) =
    elim (has_equals text) as (λ t. has_equals text ≡ t → HasText (cond t (entry_shape (before_equals text) (after_equals text)) (head_shape text))) [
      | true ↦ λ has. keyed has
      | false ↦ λ has. headed
    ] refl in
    either_way HasText (length text == 0) blank (cond (bytes_eq text (codes "{")) opening (cond (bytes_eq text (codes "}")) closing (words_shape text))) tt
    (either_way HasText (bytes_eq text (codes "{")) opening (cond (bytes_eq text (codes "}")) closing (words_shape text)) tt
    (either_way HasText (bytes_eq text (codes "}")) closing (words_shape text) tt worded))

-- ---- the indexes

abbrev AreTextEntries : List Entry → Type 0
AreTextEntries [] = ⊤
AreTextEntries (e ∷ entries) = IsUtf8 e.value × AreTextEntries entries

abbrev AreTextIndexes : List IndexText → Type 0
AreTextIndexes [] = ⊤
AreTextIndexes (t ∷ texts) = AreTextEntries t.entries × AreTextIndexes texts

entries_more : (entries : List Entry) (key : Option Key) (value : List ℕ) → AreTextEntries entries → IsUtf8 value → AreTextEntries (entries ++ entry_of key value)
entries_more [] None value all utf8 = tt
entries_more [] (Some key) value all utf8 = (utf8, tt)
entries_more (e ∷ entries) key value all utf8 = (all.0, entries_more entries key value all.1 utf8)

entries_text : (entries : List Entry) (line : Shape) → AreTextEntries entries → HasText line → AreTextEntries (entries_after entries line)
entries_text entries blank all text = all
entries_text entries (index_head name opens) all text = tt
entries_text entries (other_head opens) all text = tt
entries_text entries unknown_head all text = all
entries_text entries opening all text = all
entries_text entries closing all text = all
entries_text entries (entry key value) all text = entries_more entries key value all text
entries_text entries misformed all text = all

indexes_more : (texts more : List IndexText) → AreTextIndexes texts → AreTextIndexes more → AreTextIndexes (texts ++ more)
indexes_more [] more all others = others
indexes_more (t ∷ texts) more all others = (all.0, indexes_more texts more all.1 others)

ended_text : (place : LinePlace) (entries : List Entry) → AreTextEntries entries → AreTextIndexes (ended place entries)
ended_text outside entries all = tt
ended_text (headed section) entries all = tt
ended_text (inside (index name)) entries all = (all, tt)
ended_text (inside other) entries all = tt

indexes_text : (texts : List IndexText) (place : LinePlace) (entries : List Entry) (line : Shape) → AreTextIndexes texts → AreTextEntries entries → AreTextIndexes (indexes_after texts place entries line)
indexes_text texts place entries blank all values = all
indexes_text texts place entries (index_head name opens) all values = all
indexes_text texts place entries (other_head opens) all values = all
indexes_text texts place entries unknown_head all values = all
indexes_text texts place entries opening all values = all
indexes_text texts place entries closing all values = indexes_more texts (ended place entries) all (ended_text place entries values)
indexes_text texts place entries (entry key value) all values = all
indexes_text texts place entries misformed all values = all

abbrev AreTextShapes : List Shape → Type 0
AreTextShapes [] = ⊤
AreTextShapes (line ∷ before) = HasText line × AreTextShapes before

entries_in_text : (before : List Shape) → AreTextShapes before → AreTextEntries (entries_in before)
entries_in_text [] all = tt
entries_in_text (line ∷ before) all = entries_text (entries_in before) line (entries_in_text before all.1) all.0

indexes_in_text : (before : List Shape) → AreTextShapes before → AreTextIndexes (indexes_in before)
indexes_in_text [] all = tt
indexes_in_text (line ∷ before) all = indexes_text (indexes_in before) (place_in before) (entries_in before) line (indexes_in_text before all.1) (entries_in_text before all.1)

given_text : (key : Key) (entries : List Entry) (value : List ℕ) → AreTextEntries entries → given key entries ≡ Some value → IsUtf8 value
given_text key [] value all is = let clash : None ≡ Some value = is in cc
given_text key (e ∷ entries) value all is = elim (same_key e.key key) as (λ t. cond t (Some e.value) (given key entries) ≡ Some value → IsUtf8 value) [
  | true ↦ λ here. let same : Some e.value ≡ Some value = here in let value_is : e.value ≡ value = cc in subst IsUtf8 value_is all.0
  | false ↦ λ there. given_text key entries value all.1 there
] is

both_shapes : (xs ys : List Shape) → AreTextShapes xs → AreTextShapes ys → AreTextShapes (xs ++ ys)
both_shapes [] ys all others = others
both_shapes (x ∷ xs) ys all others = (all.0, both_shapes xs ys all.1 others)

shapes_text : (lines : List Line) → All IsUtf8Line lines → AreTextShapes (shapes_back lines)
shapes_text [] all = tt
shapes_text (line ∷ lines) all =
    let first : HasText (shape line) = shape_text (content line) (content_text (joined_parts line.parts) (parts_text line.parts (All-head IsUtf8Line line lines all))) in
    subst AreTextShapes (sym (reverse-append (shape line ∷ []) (map shape lines)))
    (both_shapes (shapes_back lines) (shape line ∷ []) (shapes_text lines (All-tail IsUtf8Line line lines all)) (first, tt))

paths_text : (texts : List IndexText) (indexes : List IndexConf) → AllZip IsIndexOf texts indexes → AreTextIndexes texts → All (λ (index : IndexConf). IsUtf8 index.path) indexes
paths_text [] [] are all = All-nil (λ (index : IndexConf). IsUtf8 index.path)
paths_text [] (conf ∷ indexes) are all = absurd are
paths_text (t ∷ texts) [] are all = absurd are
paths_text (t ∷ texts) (conf ∷ indexes) are all =
    All-cons (λ (index : IndexConf). IsUtf8 index.path) conf indexes (given_text keys.Path t.entries conf.path all.0 are.0.path) (paths_text texts indexes are.1 all.1)

-- the paths of a configuration's indexes are texts
pub paths_are_texts : (text : List ℕ) (conf : Conf) → IsConfOf text conf → All (λ (index : IndexConf). IsUtf8 index.path) conf.indexes
paths_are_texts text conf is = paths_text (indexes_in (shapes_back is.lines)) conf.indexes is.indexes (indexes_in_text (shapes_back is.lines) (shapes_text is.lines is.are.texts))
