-- A part of an image, split at one of the rows or words that it is of.
use Rattle.std.proofs.Common.{◌≡◌, ℕ, zero, suc, ◌+◌, ◌*◌, List, [], ◌∷◌, ◌++◌, Some, length, take, drop, slice_get, refl, sym, ap, subst, ◌∙◌, arith, All, append_assoc, length-append}
use Rattle.std.specs.Int.{w32, to_le_bytes}
use Rattle.std.specs.List.{flat_map}
use Rattle.std.proofs.lemmas.List.Concat.{flat_map-append}
use Rattle.doc_types.proofs.Numbers.{All-tail}
use Rattle.doc_types.specs.declared.documents.DocRow.{DocRow}
use Rattle.doc_types.specs.declared.schema.Value.{Value}
use Rattle.doc_types.specs.declared.schema.Value.TheVariants as values
use Rattle.doc_types.specs.Chunks.{rows_with}
use Rattle.doc_bytes.specs.Payload.{value_bytes}
use Rattle.chunk_image.specs.Marks.{row_marks}
use Rattle.chunk_image.specs.ChunkImage.{dictionary_bytes, marks_bytes, postings_bytes, row_bytes, rows_bytes, table_bytes, word_bytes, word_postings}

-- a list is what lies before an element, the element, and what lies behind it
pub split : {X : Type 0} (xs : List X) (i : ℕ) (x : X) → slice_get xs i ≡ Some x → xs ≡ take i xs ++ x ∷ drop (suc i) xs
split [] i x e = absurd cc
split (y ∷ ys) zero x e = let same : y ≡ x = cc in cc
split (y ∷ ys) (suc i) x e = ap (λ zs. y ∷ zs) (split ys i x e)

-- pieces of elements one behind the other
pub flat : {X : Type 0} (f : X → List ℕ) (xs : List X) (i : ℕ) (x : X) → slice_get xs i ≡ Some x → flat_map f xs ≡ flat_map f (take i xs) ++ (f x ++ flat_map f (drop (suc i) xs))
flat f xs i x e = ap (flat_map f) (split xs i x e) ∙ flat_map-append f (take i xs) (x ∷ drop (suc i) xs)

-- rows
pub rows_split : (at m : ℕ) (rows : List DocRow) (i : ℕ) (row : DocRow) → slice_get rows i ≡ Some row → m ≡ at + length (marks_bytes (take i rows))
    → rows_bytes at rows ≡ rows_bytes at (take i rows) ++ (row_bytes m row ++ rows_bytes (m + length (row_marks row)) (drop (suc i) rows))
rows_split at m [] i row e is = absurd cc
rows_split at m (r ∷ rs) zero row e is =
    let place : at ≡ m = omega (arith, is) in
    let same : r ≡ row = cc in
    subst (λ n. rows_bytes at (r ∷ rs) ≡ row_bytes n row ++ rows_bytes (n + length (row_marks row)) rs) place
    (subst (λ s. rows_bytes at (r ∷ rs) ≡ row_bytes at s ++ rows_bytes (at + length (row_marks s)) rs) same refl)
rows_split at m (r ∷ rs) (suc i) row e is =
    let others = rows_split (at + length (row_marks r)) m rs i row e (omega (arith, is, length-append (row_marks r) (marks_bytes (take i rs)))) in
    ap (λ l. row_bytes at r ++ l) others ∙ sym (append_assoc (row_bytes at r) (rows_bytes (at + length (row_marks r)) (take i rs)) (row_bytes m row ++ rows_bytes (m + length (row_marks row)) (drop (suc i) rs)))

pub values_size : (values : List Value) → length (flat_map value_bytes values) ≡ 8 * length values
values_size [] = omega arith
values_size (values.Whole number ∷ others) = omega (arith, values_size others)

pub row_size : (at : ℕ) (row : DocRow) → length (row_bytes at row) ≡ 20 + 8 * length row.doc.values
row_size at row = omega (arith, length-append (flat_map value_bytes row.doc.values) (to_le_bytes w32 at), values_size row.doc.values)

pub rows_size : (at size : ℕ) (rows : List DocRow) → All (λ row. 20 + 8 * length row.doc.values ≡ size) rows → length (rows_bytes at rows) ≡ length rows * size
rows_size at size [] are = omega arith
rows_size at size (r ∷ rs) are =
    omega (arith, length-append (row_bytes at r) (rows_bytes (at + length (row_marks r)) rs), row_size at r, are zero r (omega arith), rows_size (at + length (row_marks r)) size rs (All-tail (λ (row : DocRow). 20 + 8 * length row.doc.values ≡ size) r rs are))

-- entries of words
abbrev pub entry_bytes : List DocRow → ℕ → ℕ → List ℕ → List ℕ
entry_bytes rows word_at list_at word = to_le_bytes w32 word_at ++ to_le_bytes w32 (length (rows_with word rows)) ++ to_le_bytes w32 list_at

pub table_split : (rows : List DocRow) (a b p q : ℕ) (ws : List (List ℕ)) (i : ℕ) (word : List ℕ) → slice_get ws i ≡ Some word
    → p ≡ a + length (dictionary_bytes (take i ws)) → q ≡ b + length (postings_bytes rows (take i ws))
    → table_bytes rows a b ws ≡ table_bytes rows a b (take i ws) ++ (entry_bytes rows p q word ++ table_bytes rows (p + 1 + length word) (q + length (word_postings rows word)) (drop (suc i) ws))
table_split rows a b p q [] i word e word_is list_is = absurd cc
table_split rows a b p q (w ∷ ws) zero word e word_is list_is =
    let place : a ≡ p = omega (arith, word_is) in
    let list : b ≡ q = omega (arith, list_is) in
    let same : w ≡ word = cc in
    subst (λ n. table_bytes rows a b (w ∷ ws) ≡ entry_bytes rows n q word ++ table_bytes rows (n + 1 + length word) (q + length (word_postings rows word)) ws) place
    (subst (λ n. table_bytes rows a b (w ∷ ws) ≡ entry_bytes rows a n word ++ table_bytes rows (a + 1 + length word) (n + length (word_postings rows word)) ws) list
    (subst (λ v. table_bytes rows a b (w ∷ ws) ≡ entry_bytes rows a b v ++ table_bytes rows (a + 1 + length v) (b + length (word_postings rows v)) ws) same refl))
table_split rows a b p q (w ∷ ws) (suc i) word e word_is list_is =
    let others = table_split rows (a + 1 + length w) (b + length (word_postings rows w)) p q ws i word e
    (omega (arith, word_is, length-append (word_bytes w) (dictionary_bytes (take i ws)))) (omega (arith, list_is, length-append (word_postings rows w) (postings_bytes rows (take i ws)))) in
    ap (λ l. entry_bytes rows a b w ++ l) others

pub table_size : (rows : List DocRow) (a b : ℕ) (ws : List (List ℕ)) → length (table_bytes rows a b ws) ≡ 12 * length ws
table_size rows a b [] = omega arith
table_size rows a b (w ∷ ws) = omega (arith, table_size rows (a + 1 + length w) (b + length (word_postings rows w)) ws)
