-- The places of words in rows: in order, from 1 to the greatest position.
use Rattle.std.proofs.Common.{◌≡◌, ℕ, ◌+◌, ◌<◌, ◌≤◌, suc, Bool, true, List, [], ◌∷◌, length, get_or, map, Some, slice_get, refl, ap, subst, ◌∙◌, add-zero, zero-add, arith}
use Rattle.std.specs.Prelude.{All, AllPairs, IsTrue}
use Rattle.std.specs.List.{filter}
use Rattle.std.specs.Coded.{le_prop}
use Rattle.std.proofs.Math.Logic.{∥∥₁_elim}
use Rattle.std.proofs.Math.Nat.{ℕ_set}
use Rattle.std.proofs.lemmas.Option.{get_or_from_slice_get, slice_get_within}
use Rattle.std.proofs.lemmas.Bool.Decides.{nat_tests}
use Rattle.std.proofs.lemmas.List.Elements.{All-nil, All-cons, All-head, All-tail, All-append, All-map, All-filter, All-weaker}
use Rattle.std.proofs.lemmas.List.Kept.{AllPairs-cons, AllPairs-filter}
use Rattle.doc_types.specs.declared.documents.DocRow.{DocRow}
use Rattle.doc_types.specs.declared.tokens.TheConstants.{MAX_POSITION}
use Rattle.doc_types.specs.declared.tokens.FieldTokens.{FieldTokens}
use Rattle.doc_types.specs.declared.tokens.Gap.{Gap}
use Rattle.doc_types.specs.declared.tokens.Gap.TheVariants as gaps
use Rattle.doc_types.specs.declared.tokens.TokenWord.{TokenWord}
use Rattle.doc_types.specs.Documents.{IsField, ArePlaced, Follow, step}
use Rattle.doc_types.specs.Chunks.{IsContent, is_word, positions_of, hits_of}
use Rattle.occ_lists.specs.Places.{is_before, ArePlaces}
use Rattle.word_rows.specs.Keywords.{first_position}
use Rattle.doc_types.proofs.FieldParts.{parts}
pub use Rattle.word_rows.specs.steps.Loading.{IsPlacedField, IsPlacedRow}
use Rattle.word_rows.proofs.Lists.{pairs_nil, pairs_append, pairs_map, pairs_weaker}

some_step : (gap : Gap) → 1 ≤ step gap
some_step gaps.None = omega arith
some_step gaps.Sentence = omega arith
some_step gaps.Paragraph = omega arith

follow_above : (before : ℕ) (words : List TokenWord) → Follow before words → All (λ word. before < word.position) words
follow_above before [] follow = All-nil (λ word. before < word.position)
follow_above before (word ∷ words) follow =
    let here : before < word.position = omega (arith, follow.0, some_step word.gap) in
    All-cons (λ word. before < word.position) word words here
    (All-weaker (λ later. word.position < later.position) (λ later. before < later.position) (λ later above. omega (arith, above, here)) words (follow_above word.position words follow.1))

follow_ascend : (before : ℕ) (words : List TokenWord) → Follow before words → AllPairs (λ word later. word.position < later.position) words
follow_ascend before [] follow = pairs_nil (λ word later. word.position < later.position)
follow_ascend before (word ∷ words) follow = AllPairs-cons (λ word later. word.position < later.position) word words (follow_above word.position words follow.1) (follow_ascend word.position words follow.1)

begins_at_one : (words : List TokenWord) → ArePlaced words → 0 < length words → first_position (record { words = words; spans = [] }) ≡ 1
begins_at_one [] placed some = absurd (omega arith)
begins_at_one (word ∷ words) placed some = placed.follow.0 ∙ ap (λ gap. 0 + step gap) placed.begin

pub placed_field : (tokens : FieldTokens) → IsField tokens → IsPlacedField tokens
placed_field tokens is = record {
  bounds = λ k d within. (follow_above 0 tokens.words is.placed.follow k d within, is.within k d within);
  ascend = follow_ascend 0 tokens.words is.placed.follow;
  first = begins_at_one tokens.words is.placed;
}

pub placed_rows : (rows : List DocRow) → ∥ IsContent rows ∥₁ → All IsPlacedRow rows
placed_rows rows content = ∥∥₁_elim content (hlevel (le_prop, ℕ_set)) (λ is k d within i e inside. placed_field _ ((is.of.docs k d within).tokens i e inside))

-- ---- what the fields of a row have, one field after the other
pub at_one : {X : Type 0} (P : X → Type 0) (xs : List X) → All P xs → (k : ℕ) (x : X) → slice_get xs k ≡ Some x → P x
at_one P xs all k x at = subst P (get_or_from_slice_get xs k x x at) (all k x (slice_get_within xs k x at))

pub all_parts : {X Y : Type 0} (P : ℕ × X → Type 0) (items : Y → List X) (ys : List Y) (n : ℕ) → ((k : ℕ) (y : Y) → slice_get ys k ≡ Some y → All (λ x. P (n + k, x)) (items y)) → All P (parts n items ys)
all_parts P items [] n each = All-nil P
all_parts P items (y ∷ ys) n each =
    All-append P (map (λ x. (n, x)) (items y)) (parts (n + 1) items ys)
    (All-map P (λ x. (n, x)) (items y) (subst (λ m. All (λ x. P (m, x)) (items y)) (add-zero n) (each 0 y refl)))
    (all_parts P items ys (n + 1) (λ k z at. let same : n + suc k ≡ (n + 1) + k = omega arith in subst (λ m. All (λ x. P (m, x)) (items z)) same (each (suc k) z at)))

before_in_field : (n a b : ℕ) → a < b → is_before (n, a) (n, b) ≡ true
before_in_field n a b less = grind (arith, nat_tests)

before_fields : (n m a b : ℕ) → n < m → is_before (n, a) (m, b) ≡ true
before_fields n m a b less = grind (arith, nat_tests)

module _ {X Y : Type 0} (pos : X → ℕ) (items : Y → List X) where
  abbrev Before : ℕ × X → ℕ × X → Type 0
  Before a b = IsTrue (is_before (a.0, pos a.1) (b.0, pos b.1))

  pub pairs_parts : (ys : List Y) (n : ℕ) → All (λ y. AllPairs (λ a b. pos a < pos b) (items y)) ys → AllPairs Before (parts n items ys)
  pairs_parts [] n each = pairs_nil Before
  pairs_parts (y ∷ ys) n each =
      pairs_append Before (map (λ x. (n, x)) (items y)) (parts (n + 1) items ys)
      (pairs_map Before (λ x. (n, x)) (items y) (pairs_weaker (λ a b. pos a < pos b) (λ a b. Before (n, a) (n, b)) (λ a b less. before_in_field n (pos a) (pos b) less) (items y) (All-head (λ y. AllPairs (λ a b. pos a < pos b) (items y)) y ys each)))
      (pairs_parts ys (n + 1) (All-tail (λ y. AllPairs (λ a b. pos a < pos b) (items y)) y ys each))
      (All-map (λ a. All (Before a) (parts (n + 1) items ys)) (λ x. (n, x)) (items y)
      (λ k x within. All-weaker (λ b. n + 1 ≤ b.0) (Before (n, get_or (items y) k x)) (λ b above. before_fields n b.0 (pos (get_or (items y) k x)) (pos b.1) (omega (arith, above))) (parts (n + 1) items ys)
      (all_parts (λ b. n + 1 ≤ b.0) items ys (n + 1) (λ i z at j d inside. omega arith))))

-- ---- places
module _ (word : List ℕ) (tokens : FieldTokens) (placed : IsPlacedField tokens) where
  positions_ascend : AllPairs (λ a b. a < b) (positions_of word tokens)
  positions_ascend =
      pairs_map (λ a b. a < b) (λ (token : TokenWord). token.position) (filter (is_word word) tokens.words)
      (AllPairs-filter (λ (a b : TokenWord). a.position < b.position) (is_word word) tokens.words placed.ascend)

  positions_bounds : All (λ p. (1 ≤ p) × (p ≤ MAX_POSITION)) (positions_of word tokens)
  positions_bounds =
      All-map (λ p. (1 ≤ p) × (p ≤ MAX_POSITION)) (λ (token : TokenWord). token.position) (filter (is_word word) tokens.words)
      (All-filter (is_word word) (λ (token : TokenWord). (1 ≤ token.position) × (token.position ≤ MAX_POSITION)) tokens.words placed.bounds)

-- a place of a word: in a field of the row, and at a position of it
pub record IsHit (row : DocRow) (place : ℕ × ℕ) : Type 0 where
  pub field : FieldTokens
  pub at : slice_get row.doc.fields place.0 ≡ Some field
  pub first : first_position field ≡ 1
  pub low : 1 ≤ place.1
  pub high : place.1 ≤ MAX_POSITION

some_if_more : {X : Type 0} (f : X → ℕ) (p : X → Bool) (xs : List X) (k : ℕ) → k < length (map f (filter p xs)) → 0 < length xs
some_if_more f p [] k within = absurd (omega arith)
some_if_more f p (x ∷ xs) k within = omega arith

module _ (word : List ℕ) (row : DocRow) (placed : IsPlacedRow row) where
  pub hits_ascend : ArePlaces (hits_of word row)
  hits_ascend = pairs_parts (λ p. p) (positions_of word) row.doc.fields 0 (λ k d within. positions_ascend word (get_or row.doc.fields k d) (placed k d within))

  pub are_hits : All (IsHit row) (hits_of word row)
  are_hits = all_parts (IsHit row) (positions_of word) row.doc.fields 0 (λ k tokens at i p within.
      let its : IsPlacedField tokens = at_one IsPlacedField row.doc.fields placed k tokens at in
      let bounds = positions_bounds word tokens its i p within in
      record {
        field = tokens;
        at = ap (slice_get row.doc.fields) (zero-add k) ∙ at;
        first = its.first (some_if_more (λ (token : TokenWord). token.position) (is_word word) tokens.words i within);
        low = bounds.0;
        high = bounds.1;
      })
