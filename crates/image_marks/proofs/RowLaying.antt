-- The marks of a row, laid out with its positions or without them.
use Rattle.std.proofs.Common.{◌≡◌, ℕ, zero, suc, ◌+◌, ◌<◌, ◌≤◌, cond, List, [], ◌∷◌, ◌++◌, length, replicate, refl, sym, ap, ◌∙◌, append-nil, append_assoc}
use Rattle.std.proofs.lemmas.Bool.{le-leb, lt-leb}
use Rattle.chunk_damage.specs.RowMarks.{RowMarks, empty_field, mark_bytes}
use Rattle.image_marks.specs.Markings.{emptied, field_bits, fields_bits, fields_least, fields_starts, laid_row, laid_rows, row_bits, row_starts}
use Rattle.image_marks.specs.steps.MarkItems.{AreRowMarksAt}

abbrev pub RowLaid : List ℕ → ℕ → ℕ → ℕ → ℕ → List ℕ → List ℕ → List ℕ → List ℕ → ℕ → ℕ → ℕ → Type 0
RowLaid bytes at enough fields row starts bits starts_after bits_after least least_after end =
    (m : RowMarks) × (rest : List ℕ) × AreRowMarksAt bytes at fields m rest × (end ≡ at + length (mark_bytes m)) × (starts_after ≡ starts ++ row_starts bits (laid_row enough bits m).fields) × (bits_after ≡ row_bits bits (laid_row enough bits m).fields) × (least_after ≡ fields_least row least (laid_row enough bits m).fields)

-- ---- fields without words

empty_bits : (bits : List ℕ) → field_bits bits empty_field ≡ bits
empty_bits bits = append-nil bits

pub none_bits : (bits : List ℕ) (count : ℕ) → fields_bits bits (replicate count empty_field) ≡ bits
none_bits bits zero = refl
none_bits bits (suc count) = ap (λ b. fields_bits b (replicate count empty_field)) (empty_bits bits) ∙ none_bits bits count

pub none_starts : (bits : List ℕ) (count : ℕ) → fields_starts bits (replicate count empty_field) ≡ replicate count (length bits)
none_starts bits zero = refl
none_starts bits (suc count) = ap (λ b. length bits ∷ fields_starts b (replicate count empty_field)) (empty_bits bits) ∙ ap (λ l. length bits ∷ l) (none_starts bits count)

none_least : (row least count : ℕ) → fields_least row least (replicate count empty_field) ≡ least
none_least row least zero = refl
none_least row least (suc count) = none_least row least count

-- its own start, and one for each field
pub empty_laid : (count field : ℕ) (starts bits begun grown starts_after bits_after : List ℕ) (least least_grown : ℕ) → field ≡ length grown → begun ≡ starts ++ length bits ∷ [] → grown ≡ bits ++ 1 ∷ [] → least_grown ≡ least → starts_after ≡ begun ++ replicate count field → bits_after ≡ grown
    → (starts_after ≡ starts ++ row_starts bits (replicate count empty_field)) × (bits_after ≡ row_bits bits (replicate count empty_field)) × (least_grown ≡ least)
empty_laid count field starts bits begun grown starts_after bits_after least least_grown f b g l s a =
    let c = bits ++ 1 ∷ [] in (
      s
          ∙ ap (λ k. k ++ replicate count field) b
          ∙ append_assoc starts (length bits ∷ []) (replicate count field)
          ∙ ap (λ n. starts ++ (length bits ∷ replicate count n)) (f ∙ ap length g)
          ∙ ap (λ k. starts ++ (length bits ∷ k)) (sym (none_starts c count)),
      a ∙ g ∙ sym (none_bits c count),
      l,
    )

-- ---- a row

pub laid_whole : (enough : ℕ) (bits : List ℕ) (m : RowMarks) → length bits ≤ enough → laid_row enough bits m ≡ m
laid_whole enough bits m few = ap (λ b. cond b m (emptied m)) (le-leb (length bits) enough few)

laid_empty : (enough : ℕ) (bits : List ℕ) (m : RowMarks) → enough < length bits → laid_row enough bits m ≡ emptied m
laid_empty enough bits m many = ap (λ b. cond b m (emptied m)) (lt-leb (length bits) enough many)

pub apart : (bytes : List ℕ) (at enough fields row : ℕ) (starts bits starts_after bits_after : List ℕ) (least least_after end : ℕ) → enough < length bits → (m : RowMarks) × (rest : List ℕ) × AreRowMarksAt bytes at fields m rest × (end ≡ at + length (mark_bytes m))
    → (starts_after ≡ starts ++ row_starts bits (replicate fields empty_field)) × (bits_after ≡ row_bits bits (replicate fields empty_field)) × (least_after ≡ least)
    → RowLaid bytes at enough fields row starts bits starts_after bits_after least least_after end
apart bytes at enough fields row starts bits starts_after bits_after least least_after end many read laid =
    let m = read.0 in
    let same = sym (laid_empty enough bits m many) in
    let count : fields ≡ length m.fields = sym read.2.fits.many in (
      m,
      read.1,
      read.2,
      read.3,
      laid.0 ∙ ap (λ n. starts ++ row_starts bits (replicate n empty_field)) count ∙ ap (λ (k : RowMarks). starts ++ row_starts bits k.fields) same,
      laid.1 ∙ ap (λ n. row_bits bits (replicate n empty_field)) count ∙ ap (λ (k : RowMarks). row_bits bits k.fields) same,
      laid.2 ∙ sym (none_least row least (length m.fields)) ∙ ap (λ (k : RowMarks). fields_least row least k.fields) same,
    )

-- ---- rows

pub laid_many : (enough : ℕ) (bits : List ℕ) (marks : List RowMarks) → length (laid_rows enough bits marks) ≡ length marks
laid_many enough bits [] = refl
laid_many enough bits (m ∷ marks) = ap suc (laid_many enough (row_bits bits (laid_row enough bits m).fields) marks)
