-- No line says more than its text has.
use Rattle.std.proofs.Common.{ℕ, ◌+◌, ◌-◌, ◌≤◌, Bool, true, false, cond, List, [], ◌∷◌, length, length-take, length-drop, arith}
use Rattle.std.specs.Prelude.{◌&&◌, ◌==◌, codes}
use Rattle.std.specs.List.{after_first, position_or_len, prefix_len, suffix_len}
use Rattle.std.specs.Str.{bytes_eq}
use Rattle.charset_map.specs.Characters.{is_blank}
use Rattle.charset_map.specs.TableText.{without_back, without_front}
use Rattle.conf_text.specs.Keys.{key_named}
use Rattle.conf_text.specs.Lines.{begins_comment, content_of, trimmed, uncommented, uncommented_after}
use Rattle.conf_text.specs.Shapes.{Shape, bare_head, before_brace, before_equals, after_equals, blank, closing, entry, entry_shape, has_equals, head, head_of, head_shape, index_head, after_word, first_word, is_name, misformed, named_head, opening, opens_section, other_head, shape_of, small, unknown_head, wants_name, wants_no_name, words_shape}
use Rattle.conf_text.specs.steps.SeenShapes.{value_length}

front_size : (text : List ℕ) → length (without_front text) ≤ length text
front_size text = omega (arith, length-drop (prefix_len is_blank text) text)

back_size : (text : List ℕ) → length (without_back text) ≤ length text
back_size text = omega (arith, length-take (length text - suffix_len is_blank text) text)

pub trimmed_size : (text : List ℕ) → length (trimmed text) ≤ length text
trimmed_size text = omega (arith, back_size (without_front text), front_size text)

uncommented_size : (before : ℕ) (text : List ℕ) → length (uncommented_after before text) ≤ length text
uncommented_size before [] = omega arith
uncommented_size before (b ∷ text) = elim (begins_comment before b) as (λ t. length (cond t [] (b ∷ uncommented_after b text)) ≤ length (b ∷ text)) [
  | true ↦ omega arith
  | false ↦ omega (arith, uncommented_size b text)
]

pub content_size : (text : List ℕ) → length (content_of text) ≤ length text
unfolding content_of
content_size text = omega (arith, trimmed_size (uncommented text), uncommented_size 32 text)

-- what holds of both holds of either
pub either_way : (P : Shape → Type 0) (test : Bool) (a b : Shape) → P a → P b → P (cond test a b)
either_way P true a b first second = first
either_way P false a b first second = second

-- the value of a line's entry has at most so many bytes
abbrev pub IsWithin : ℕ → Shape → Type 0
IsWithin size line = value_length line ≤ size

bare_within : (size : ℕ) (word : List ℕ) (opens : Bool) → IsWithin size (bare_head word opens)
bare_within size word opens =
    either_way (IsWithin size) (wants_no_name word) (other_head opens) (cond (wants_name word) misformed unknown_head) (omega arith)
    (either_way (IsWithin size) (wants_name word) misformed unknown_head (omega arith) (omega arith))

named_within : (size : ℕ) (word name : List ℕ) (opens : Bool) → IsWithin size (named_head word name opens)
named_within size word name opens =
    either_way (IsWithin size) (bytes_eq word (codes "index")) (index_head name opens) (cond (bytes_eq word (codes "source")) (other_head opens) (cond (wants_no_name word) misformed unknown_head)) (omega arith)
    (either_way (IsWithin size) (bytes_eq word (codes "source")) (other_head opens) (cond (wants_no_name word) misformed unknown_head) (omega arith)
    (either_way (IsWithin size) (wants_no_name word) misformed unknown_head (omega arith) (omega arith)))

head_within : (size : ℕ) (word rest : List ℕ) (opens : Bool) → IsWithin size (head word rest opens)
unfolding head
head_within size word [] opens = either_way (IsWithin size) (is_name word) (bare_head (small word) opens) misformed (bare_within size (small word) opens) (omega arith)
head_within size word (b ∷ rest) opens = either_way (IsWithin size) (is_name word && is_name (b ∷ rest)) (named_head (small word) (small (b ∷ rest)) opens) misformed (named_within size (small word) (small (b ∷ rest)) opens) (omega arith)

after_size : (text : List ℕ) → length (after_equals text) ≤ length text
after_size text = omega (arith, trimmed_size (after_first (λ b. b == 61) text), length-drop (position_or_len (λ b. b == 61) text + 1) text)

-- no value is longer than its line
pub shape_size : (text : List ℕ) → value_length (shape_of text) ≤ length text
unfolding shape_of
shape_size text =
    let keyed : IsWithin (length text) (entry_shape (before_equals text) (after_equals text)) =
    either_way (IsWithin (length text)) (is_name (before_equals text)) (entry (key_named (small (before_equals text))) (after_equals text)) misformed (after_size text) (omega arith) in
    let headed : IsWithin (length text) (head_shape text) =
    either_way (IsWithin (length text)) (opens_section text) (head_of (before_brace text) true) (head_of text false)
    (head_within (length text) (first_word (before_brace text)) (after_word (before_brace text)) true)
    (head_within (length text) (first_word text) (after_word text) false) in
    let worded : IsWithin (length text) (words_shape text) =
    either_way (IsWithin (length text)) (has_equals text) (entry_shape (before_equals text) (after_equals text)) (head_shape text) keyed headed in
    either_way (IsWithin (length text)) (length text == 0) blank (cond (bytes_eq text (codes "{")) opening (cond (bytes_eq text (codes "}")) closing (words_shape text))) (omega arith)
    (either_way (IsWithin (length text)) (bytes_eq text (codes "{")) opening (cond (bytes_eq text (codes "}")) closing (words_shape text)) (omega arith)
    (either_way (IsWithin (length text)) (bytes_eq text (codes "}")) closing (words_shape text) (omega arith) worded))
