-- Where the parts of an image stand.
use Rattle.std.proofs.Common.{◌≡◌, ℕ, ◌+◌, ◌≤◌, List, [], ◌∷◌, ◌++◌, length, drop, refl, sym, ap, ◌∙◌, arith, append_assoc, append-nil, length-append}
use Rattle.std.specs.Coded.{codes, le_prop}
use Rattle.std.proofs.Props.{props}
use Rattle.std.proofs.Math.Logic.{∥∥₁_elim}
use Rattle.std.proofs.lemmas.List.{drop-drop, drop_at, length-drop}
use Rattle.doc_types.specs.declared.documents.DocRow.{DocRow}
use Rattle.chunk_image.specs.ChunkImage.{dictionary_bytes, header_bytes, marks_bytes, postings_bytes, rows_bytes, table_bytes}
use Rattle.image_parts.specs.declared.parts.Parts.{Parts}
use Rattle.image_parts.specs.Images.{ArePartsOf, HaveImage, IsWhole}
use Rattle.image_parts.specs.steps.Standing.{StandsAt}
use Rattle.image_parts.proofs.Pieces.{behind, front, from_there, stands}
use Rattle.image_parts.proofs.Split.{table_size}

pub record IsLaid (rows : List DocRow) (words : List (List ℕ)) (bytes : List ℕ) (parts : Parts) : Type 0 where
  pub columns : StandsAt bytes 32 (rows_bytes 0 rows)
  pub marks : StandsAt bytes parts.marks (marks_bytes rows)
  pub table : StandsAt bytes parts.table (table_bytes rows 0 0 words)
  pub dictionary : StandsAt bytes parts.dictionary (dictionary_bytes words)
  pub postings : drop parts.postings bytes ≡ postings_bytes rows words
  pub end : parts.postings + length (postings_bytes rows words) ≡ length bytes
  pub short : length bytes ≤ 536870912

five : (h r m t d p : List ℕ) → h ++ r ++ m ++ t ++ d ++ p ≡ h ++ (r ++ (m ++ (t ++ (d ++ p))))
five h r m t d p = append_assoc (h ++ r ++ m ++ t) d p ∙ append_assoc (h ++ r ++ m) t (d ++ p) ∙ append_assoc (h ++ r) m (t ++ (d ++ p)) ∙ append_assoc h r (m ++ (t ++ (d ++ p)))

sizes : (h r m t d p : List ℕ) → length (h ++ (r ++ (m ++ (t ++ (d ++ p))))) ≡ length h + length r + length m + length t + length d + length p
sizes h r m t d p = omega (arith, length-append h (r ++ (m ++ (t ++ (d ++ p)))), length-append r (m ++ (t ++ (d ++ p))), length-append m (t ++ (d ++ p)), length-append t (d ++ p), length-append d p)

-- the five parts behind a header of 32 bytes
module _ (bytes h r m t d p : List ℕ) (is : bytes ≡ h ++ r ++ m ++ t ++ d ++ p) (head : length h ≡ 32) where
  all : StandsAt bytes 0 (h ++ (r ++ (m ++ (t ++ (d ++ p)))))
  all = stands bytes (h ++ (r ++ (m ++ (t ++ (d ++ p))))) [] 0 (is ∙ five h r m t d p ∙ sym (append-nil (h ++ (r ++ (m ++ (t ++ (d ++ p)))))))

  from_r : StandsAt bytes 32 (r ++ (m ++ (t ++ (d ++ p))))
  from_r = behind bytes h (r ++ (m ++ (t ++ (d ++ p)))) 0 32 all (omega (arith, head))

  from_m : (at : ℕ) → at ≡ 32 + length r → StandsAt bytes at (m ++ (t ++ (d ++ p)))
  from_m at e = behind bytes r (m ++ (t ++ (d ++ p))) 32 at from_r e

  from_t : (at : ℕ) → at ≡ 32 + length r + length m → StandsAt bytes at (t ++ (d ++ p))
  from_t at e = behind bytes m (t ++ (d ++ p)) (32 + length r) at (from_m (32 + length r) refl) e

  from_d : (at : ℕ) → at ≡ 32 + length r + length m + length t → StandsAt bytes at (d ++ p)
  from_d at e = behind bytes t (d ++ p) (32 + length r + length m) at (from_t (32 + length r + length m) refl) e

  pub whole_length : length bytes ≡ 32 + length r + length m + length t + length d + length p
  whole_length = omega (arith, ap length (is ∙ five h r m t d p), sizes h r m t d p, head)

  from_p : (at : ℕ) → at ≡ 32 + length r + length m + length t + length d → drop at bytes ≡ p
  from_p at e =
      let front : ℕ = 32 + length r + length m + length t in
      let before : StandsAt bytes front (d ++ p) = from_d front refl in
      let rest = drop (front + length (d ++ p)) bytes in
      ap (λ n. drop n bytes) e ∙ sym (drop-drop (length d) front bytes) ∙ ap (drop (length d)) (from_there bytes (d ++ p) front before ∙ append_assoc d p rest) ∙ drop_at d (p ++ rest) (length d) refl
      ∙ ap (λ l. p ++ l) (none rest (omega (arith, whole_length, length-drop (front + length (d ++ p)) bytes, length-append d p))) ∙ append-nil p where
        none : (xs : List ℕ) → length xs ≡ 0 → xs ≡ []
        none [] e = refl
        none (x ∷ xs) e = absurd (omega (arith, e))

laid_of : (rows : List DocRow) (words : List (List ℕ)) (bytes : List ℕ) (parts : Parts) → ArePartsOf rows words parts → IsWhole rows words bytes → IsLaid rows words bytes parts
laid_of rows words bytes parts are is =
    let h = header_bytes is.schema rows words in
    let r = rows_bytes 0 rows in let m = marks_bytes rows in let t = table_bytes rows 0 0 words in
    let d = dictionary_bytes words in let p = postings_bytes rows words in
    record {
      columns = front bytes r (m ++ (t ++ (d ++ p))) 32 (from_r bytes h r m t d p is.is refl);
      marks = front bytes m (t ++ (d ++ p)) parts.marks (from_m bytes h r m t d p is.is refl parts.marks are.marks_at);
      table = front bytes t (d ++ p) parts.table (from_t bytes h r m t d p is.is refl parts.table (omega (arith, are.marks_at, are.table_at)));
      dictionary = front bytes d p parts.dictionary (from_d bytes h r m t d p is.is refl parts.dictionary (omega (arith, are.marks_at, are.table_at, are.dictionary_at, table_size rows 0 0 words)));
      postings = from_p bytes h r m t d p is.is refl parts.postings (omega (arith, are.marks_at, are.table_at, are.dictionary_at, are.postings_at, table_size rows 0 0 words));
      end = omega (arith, whole_length bytes h r m t d p is.is refl, are.marks_at, are.table_at, are.dictionary_at, are.postings_at, table_size rows 0 0 words);
      short = is.short;
    }

pub laid : (rows : List DocRow) (words : List (List ℕ)) (bytes : List ℕ) (parts : Parts) → HaveImage rows words bytes → ArePartsOf rows words parts → IsLaid rows words bytes parts
laid rows words bytes parts have are = ∥∥₁_elim have (hlevel (codes, le_prop, props)) (laid_of rows words bytes parts are)
