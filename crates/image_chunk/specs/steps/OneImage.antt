-- Bytes are the image of one list of rows, with its words.
use Rattle.std.specs.Prelude.{◌≡◌, ◌<◌, ℕ, List, [], ◌∷◌, Option, Some, None, Contains, length}
use Rattle.std.specs.List.{position, position_from}
use Rattle.std.specs.Str.{bytes_eq}
use Rattle.std.specs.Coded.{codes, le_prop}
use Rattle.std.proofs.Props.{props}
use Rattle.std.proofs.Common.{refl, sym, subst, ◌∙◌, arith, get_or, zero, suc, ◌+◌, true, false, cond}
use Rattle.std.proofs.Math.Logic.{∥∥₁_elim}
use Rattle.std.proofs.lemmas.List.Quantifiers.{position-Some}
use Rattle.std.proofs.lemmas.Iterator.Adapters.{position_from-zero}
use Rattle.std.proofs.lemmas.Slice.Eq.{bytes_eq-Decides}
use mathlib.Core.HLevel.{Σ_prop_path}
use Rattle.doc_types.specs.declared.documents.DocRow.{DocRow}
use Rattle.doc_types.specs.Chunks.{AreWordsOf, IsContent, rows_with}
use Rattle.chunk_image.specs.ChunkImage.{IsImageOf}
use Rattle.chunk_image.proofs.OneImage.{one_image as one_list}
use Rattle.image_parts.specs.Images.{IsWhole}
use Rattle.image_chunk.specs.Images.{Image}
use Rattle.image_chunk.specs.steps.OneWords.{one_words}

kept_set : IsSet (List DocRow × List (List ℕ))
kept_set = hlevel codes

written : (rows : List DocRow) (words : List (List ℕ)) (bytes : List ℕ) → (is : IsWhole rows words bytes) → IsImageOf is.schema rows bytes
written rows words bytes is = record { words = words; are = is.are; few_words = is.few_words; room = is.room; is = is.is }

same_kept : (bytes : List ℕ) (a b : List DocRow × List (List ℕ)) → IsWhole a.0 a.1 bytes → IsWhole b.0 b.1 bytes → a ≡ b
same_kept bytes a b is its =
    let rows : a.0 ≡ b.0 = one_list is.schema its.schema a.0 b.0 bytes is.limits its.limits is.of its.of is.small its.small (written a.0 a.1 bytes is) (written b.0 b.1 bytes its) in
    let words : a.1 ≡ b.1 = one_words a.0 a.1 b.1 is.are (subst (λ rs. AreWordsOf rs b.1) (sym rows) its.are) in
    λ i. (rows i, words i)

pub one_image : (bytes : List ℕ) → IsProp (Image bytes)
one_image bytes a b = Σ_prop_path (λ kept. hlevel props) (∥∥₁_elim a.1 (kept_set a.0 b.0) (λ x. ∥∥₁_elim b.1 (kept_set a.0 b.0) (λ y. same_kept bytes a.0 b.0 x y)))

pub content_whole : (bytes : List ℕ) (is : Image bytes) → ∥ IsContent is.0.0 ∥₁
content_whole bytes is = ∥∥₁_elim is.1 (hlevel props) (λ x. ∣ record { schema = x.schema; limits = x.limits; of = x.of; small = x.small } ∣₁)

-- its words are those of its rows
there_from : (words : List (List ℕ)) (word : List ℕ) (i k : ℕ) → k < length words → get_or words k word ≡ word → position_from (λ w. bytes_eq w word) i words ≡ None → ⊥
there_from [] word i k low is missed = absurd (omega (arith, low))
there_from (w ∷ ws) word i zero low is missed =
    let hit : bytes_eq w word ≡ true = (bytes_eq-Decides w word).1 is in
    let here : position_from (λ v. bytes_eq v word) i (w ∷ ws) ≡ Some i = rw hit refl in
    cc
there_from (w ∷ ws) word i (suc k) low is missed =
    elim (bytes_eq w word) as (λ b. cond b (Some i) (position_from (λ v. bytes_eq v word) (i + 1) ws) ≡ None → ⊥) [
      | true ↦ λ m. cc
      | false ↦ λ m. there_from ws word (i + 1) k (omega (arith, low)) is m
    ] missed

not_there : (words : List (List ℕ)) (word : List ℕ) → position (λ w. bytes_eq w word) words ≡ None → Contains words word → ⊥
not_there words word missed there = there_from words word 0 there.0 there.1 there.2 (sym (position_from-zero (λ (w : List ℕ). bytes_eq w word) words) ∙ missed)

pub none_else : (bytes : List ℕ) (is : Image bytes) (word : List ℕ) → position (λ w. bytes_eq w word) is.0.1 ≡ None → 0 < length (rows_with word is.0.0) → ⊥
none_else bytes is word missed some = ∥∥₁_elim is.1 (hlevel props) (λ x. not_there is.0.1 word missed (x.are.all word some))

found_word : (bytes : List ℕ) (is : Image bytes) (word : List ℕ) → 0 < length (rows_with word is.0.0) → (found : Option ℕ) → position (λ w. bytes_eq w word) is.0.1 ≡ found → Contains is.0.1 word
found_word bytes is word some None e = absurd (none_else bytes is word e some)
found_word bytes is word some (Some n) e =
    let its = position-Some (λ (w : List ℕ). bytes_eq w word) is.0.1 n word e in
    (n, its.0, (bytes_eq-Decides (get_or is.0.1 n word) word).0 its.1)

pub words_are : (bytes : List ℕ) (is : Image bytes) → AreWordsOf is.0.0 is.0.1
words_are bytes is = record {
  ascend = ∥∥₁_elim is.1 (hlevel props) (λ x. x.are.ascend);
  each = ∥∥₁_elim is.1 (hlevel (le_prop, props)) (λ x. x.are.each);
  all = λ word some. found_word bytes is word some (position (λ w. bytes_eq w word) is.0.1) refl;
}
