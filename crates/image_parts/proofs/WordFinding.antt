-- Halving words by their bytes.
use Rattle.std.proofs.Common.{◌≡◌, ℕ, ◌+◌, ◌<◌, ◌≤◌, List, slice_get, Some, None, get_or, ap, ◌∙◌, arith}
use Rattle.std.specs.List.{position}
use Rattle.std.specs.Str.{bytes_eq}
use Rattle.std.specs.Cmp.Lexicographic.{slice_cmp, texts_ties}
use Rattle.std.specs.Ordering.{nat_cmp}
use Rattle.std.specs.declared.cmp.Ordering.TheVariants.{Less, Equal, Greater}
use Rattle.std.proofs.lemmas.Cmp.{nat_list_cmp_total}
use Rattle.std.proofs.lemmas.Option.{get_or_from_slice_get}
use Rattle.doc_types.specs.declared.documents.DocRow.{DocRow}
use Rattle.image_parts.specs.Images.{HaveImage}
use Rattle.image_parts.proofs.Halving.{Halved, halved_down, halved_found, halved_none, halved_up}
use Rattle.image_parts.proofs.WordPlaces.{words_ascend}

module _ (rows : List DocRow) (words : List (List ℕ)) (bytes : List ℕ) (have : HaveImage rows words bytes) (word : List ℕ) (low high : ℕ) (h : Halved (slice_cmp nat_cmp) (λ (w : List ℕ). w) word words low high) where
  pub nowhere : high ≤ low → low ≤ high → None ≡ position (λ w. bytes_eq w word) words
  nowhere left order = halved_none nat_list_cmp_total (λ w. w) word words (words_ascend rows words bytes have) low high low h (λ w. bytes_eq w word) (λ w. texts_ties w word) left (omega (arith, order, h.within))

  module _ (m : ℕ) (lent : List ℕ) (before : m < high) (read : slice_get words m ≡ Some lent) where
    there : (d : List ℕ) → slice_cmp nat_cmp (get_or words m d) word ≡ slice_cmp nat_cmp lent word
    there d = ap (λ w. slice_cmp nat_cmp w word) (get_or_from_slice_get words m lent d read)

    pub smaller : slice_cmp nat_cmp lent word ≡ Less → Halved (slice_cmp nat_cmp) (λ (w : List ℕ). w) word words (m + 1) high
    smaller less = halved_up nat_list_cmp_total (λ w. w) word words (words_ascend rows words bytes have) low high m h before (λ d. there d ∙ less)

    pub greater : slice_cmp nat_cmp lent word ≡ Greater → Halved (slice_cmp nat_cmp) (λ (w : List ℕ). w) word words low m
    greater more = halved_down nat_list_cmp_total (λ w. w) word words (words_ascend rows words bytes have) low high m h before (λ d. there d ∙ more)

    pub here : slice_cmp nat_cmp lent word ≡ Equal → Some m ≡ position (λ w. bytes_eq w word) words
    here same = halved_found nat_list_cmp_total (λ w. w) word words (words_ascend rows words bytes have) low high m h (λ w. bytes_eq w word) (λ w. texts_ties w word) before (λ d. there d ∙ same)
