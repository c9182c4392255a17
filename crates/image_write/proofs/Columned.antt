-- Columns and marks, one row more.
use Rattle.std.proofs.Common.{◌≡◌, ℕ, ◌+◌, ◌<◌, List, [], ◌∷◌, ◌++◌, length, drop, take, get_or, map, refl, sym, ap, subst, ◌∙◌, append_assoc, append-nil, length-append, All}
use Rattle.std.specs.List.{flat_map}
use Rattle.std.proofs.lemmas.Grind.{flat_map-append}
use Rattle.std.proofs.lemmas.List.{map-append, take_more}
use Rattle.std.proofs.lemmas.List.Elements.{All-nil, All-cons, All-append}
use Rattle.doc_types.specs.declared.documents.Doc.{Doc}
use Rattle.doc_types.specs.declared.documents.DocRow.{DocRow}
use Rattle.doc_types.specs.declared.schema.Value.{Value}
use Rattle.doc_bytes.specs.Payload.{value_bytes}
use Rattle.chunk_image.specs.Marks.{row_marks}
use Rattle.chunk_image.specs.ChunkImage.{row_bytes, rows_bytes}
use Rattle.image_write.specs.Written.{row_of}
use Rattle.image_write.proofs.Marked.{drop_next}

pub all_more : {X : Type 0} (P : X → Type 0) (xs : List X) (i : ℕ) (x : X) → i < length xs → x ≡ get_or xs i x → All P (take i xs) → P x → All P (take (i + 1) xs)
all_more P xs i x low is all own = subst (All P) (sym (take_more xs i x low ∙ ap (λ y. take i xs ++ y ∷ []) (sym is))) (All-append P (take i xs) (x ∷ []) all (All-cons P x [] own (All-nil P)))

module _ {X : Type 0} (row_at : X → DocRow) (xs : List X) where
  pub columns_more : (i place : ℕ) (x : X) (now marks after after_marks all : List ℕ) → i < length xs → x ≡ get_or xs i x
      → now ++ rows_bytes (length marks) (map row_at (drop i xs)) ≡ all → place ≡ length marks → after ≡ now ++ row_bytes place (row_at x) → after_marks ≡ marks ++ row_marks (row_at x)
      → after ++ rows_bytes (length after_marks) (map row_at (drop (i + 1) xs)) ≡ all
  columns_more i place x now marks after after_marks all low is was at put marked =
      let here : drop i xs ≡ x ∷ drop (i + 1) xs = drop_next xs i x low is in
      let rest = map row_at (drop (i + 1) xs) in
      let long : length after_marks ≡ length marks + length (row_marks (row_at x)) = ap length marked ∙ length-append marks (row_marks (row_at x)) in
      let more = rows_bytes (length marks + length (row_marks (row_at x))) rest in
      ap (λ k. after ++ rows_bytes k rest) long ∙ ap (λ l. l ++ more) (put ∙ ap (λ k. now ++ row_bytes k (row_at x)) at) ∙ append_assoc now (row_bytes (length marks) (row_at x)) more
      ∙ ap (λ l. now ++ l) (sym (ap (λ l. rows_bytes (length marks) (map row_at l)) here)) ∙ was

  pub marks_more : (i : ℕ) (x : X) (marks after : List ℕ) → i < length xs → x ≡ get_or xs i x → marks ≡ flat_map row_marks (map row_at (take i xs)) → after ≡ marks ++ row_marks (row_at x)
      → after ≡ flat_map row_marks (map row_at (take (i + 1) xs))
  marks_more i x marks after low is was put =
      let split : take (i + 1) xs ≡ take i xs ++ x ∷ [] = take_more xs i x low ∙ ap (λ (y : X). take i xs ++ y ∷ []) (sym is) in
      let before = map row_at (take i xs) in
      put ∙ ap (λ l. l ++ row_marks (row_at x)) was ∙ ap (λ l. flat_map row_marks before ++ l) (sym (append-nil (row_marks (row_at x))))
      ∙ sym (flat_map-append row_marks before (row_at x ∷ [])) ∙ ap (flat_map row_marks) (sym (map-append row_at (take i xs) (x ∷ [])) ∙ ap (map row_at) (sym split))

-- a document's marks are those of its row, whatever commit put it
pub marked : (doc : Doc) (born : ℕ) → row_marks (row_of doc 0) ≡ row_marks (row_of doc born)
unfolding row_marks
marked doc born = refl

-- one value more
pub all_values : (P : Value → Type 0) (values : List Value) (i : ℕ) (d : Value) → i < length values → All P (take i values) → P (get_or values i d) → All P (take (i + 1) values)
all_values P values i d low all own = subst (All P) (sym (take_more values i d low)) (All-append P (take i values) (get_or values i d ∷ []) all (All-cons P (get_or values i d) [] own (All-nil P)))

pub values_more : (values : List Value) (i : ℕ) (d : Value) (start now after : List ℕ) → i < length values → now ≡ start ++ flat_map value_bytes (take i values) → after ≡ now ++ value_bytes (get_or values i d) → after ≡ start ++ flat_map value_bytes (take (i + 1) values)
values_more values i d start now after low was put =
    let own = value_bytes (get_or values i d) in
    put ∙ ap (λ l. l ++ own) was ∙ append_assoc start (flat_map value_bytes (take i values)) own
    ∙ ap (λ l. start ++ l) (ap (λ l. flat_map value_bytes (take i values) ++ l) (sym (append-nil own)) ∙ sym (flat_map-append value_bytes (take i values) (get_or values i d ∷ [])) ∙ ap (flat_map value_bytes) (sym (take_more values i d low)))
