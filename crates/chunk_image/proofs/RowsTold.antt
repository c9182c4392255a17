-- The part of an image with rows tells ids, commits and values.
use Rattle.std.proofs.Common.{◌≡◌, ℕ, ◌+◌, List, [], ◌∷◌, ◌++◌, length, sym, ◌∙◌, arith, All, zero, append_assoc}
use Rattle.std.specs.Int.{w32, w64, to_le_bytes}
use Rattle.std.specs.List.{flat_map, AllZip}
use Rattle.doc_types.specs.declared.documents.DocRow.{DocRow}
use Rattle.doc_types.proofs.Numbers.{All-tail}
use Rattle.doc_bytes.specs.Payload.{value_bytes}
use Rattle.chunk_image.specs.Marks.{row_marks}
use Rattle.chunk_image.specs.ChunkImage.{HasRoom, rows_bytes}
use Rattle.chunk_image.proofs.Fixed.{all_values, eight, four_any}

-- two rows with one id, one commit and the same values
pub record AreKeptAlike (r s : DocRow) : Type 0 where
  pub ids : r.doc.id ≡ s.doc.id
  pub born : r.born ≡ s.born
  pub values : r.doc.values ≡ s.doc.values

pub rows_told : (a b n : ℕ) (rs ss : List DocRow) (x y : List ℕ) → length rs ≡ length ss → All (λ r. length r.doc.values ≡ n) rs → All (λ s. length s.doc.values ≡ n) ss → All HasRoom rs → All HasRoom ss
    → rows_bytes a rs ++ x ≡ rows_bytes b ss ++ y → AllZip AreKeptAlike rs ss × (x ≡ y)
rows_told a b n [] [] x y long nr ns room its_room e = (tt, e)
rows_told a b n [] (s ∷ ss) x y long nr ns room its_room e = absurd (omega (arith, long))
rows_told a b n (r ∷ rs) [] x y long nr ns room its_room e = absurd (omega (arith, long))
rows_told a b n (r ∷ rs) (s ∷ ss) x y long nr ns room its_room e =
    let own = room zero r (omega arith) in let its = its_room zero s (omega arith) in
    let v = flat_map value_bytes r.doc.values in let w = flat_map value_bytes s.doc.values in
    let p = to_le_bytes w32 a in let q = to_le_bytes w32 b in
    let rest = rows_bytes (a + length (row_marks r)) rs in let its_rest = rows_bytes (b + length (row_marks s)) ss in
    let id = eight r.doc.id s.doc.id (to_le_bytes w64 r.born ++ (v ++ p ++ rest ++ x)) (to_le_bytes w64 s.born ++ (w ++ q ++ its_rest ++ y)) own.id its.id e in
    let born = eight r.born s.born (v ++ p ++ rest ++ x) (w ++ q ++ its_rest ++ y) own.born its.born id.1 in
    let values = all_values r.doc.values s.doc.values (p ++ (rest ++ x)) (q ++ (its_rest ++ y)) (nr zero r (omega arith) ∙ sym (ns zero s (omega arith))) own.values its.values
    (sym (append_assoc v p (rest ++ x)) ∙ sym (append_assoc (v ++ p) rest x) ∙ born.1 ∙ append_assoc (w ++ q) its_rest y ∙ append_assoc w q (its_rest ++ y)) in
    let others = rows_told (a + length (row_marks r)) (b + length (row_marks s)) n rs ss x y (omega (arith, long)) (All-tail (λ (r : DocRow). length r.doc.values ≡ n) r rs nr) (All-tail (λ (r : DocRow). length r.doc.values ≡ n) s ss ns)
    (All-tail HasRoom r rs room) (All-tail HasRoom s ss its_room) (four_any a b (rest ++ x) (its_rest ++ y) values.1) in
    ((record { ids = id.0; born = born.0; values = values.0 }, others.0), others.1)
