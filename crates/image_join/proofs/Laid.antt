-- Parts that are laid one behind the other.
use Rattle.std.proofs.Common.{◌≡◌, ℕ, zero, suc, ◌+◌, ◌-◌, ◌<◌, ◌≤◌, List, [], ◌∷◌, ◌++◌, length, get_or, ap, ◌∙◌, arith, length-append, append-nil}
use Rattle.std.proofs.lemmas.List.{get_or_append_left, get_or-append-add}
use Rattle.std.proofs.lemmas.List.Concat.{flat_map-append}
use Rattle.image_join.specs.steps.Parts.{AreLaid, PartValue, all_rows, blank_row, part_at, row_at}

laid_from : (n : ℕ) (parts : List PartValue) (k : ℕ) → AreLaid n parts → k < length parts → n ≤ (part_at parts k).first
laid_from n [] k laid low = absurd (omega (arith, low))
laid_from n (p ∷ ps) zero laid low = omega (arith, laid.0)
laid_from n (p ∷ ps) (suc k) laid low = let rest = laid_from (n + length p.rows) ps k laid.1 (omega (arith, low)) in omega (arith, rest)

-- a part's row among all rows
pub laid_at : (n : ℕ) (parts : List PartValue) (k row p : ℕ) → AreLaid n parts → k < length parts → row < length (part_at parts k).rows → (part_at parts k).first + row ≡ n + p
    → (p < length (all_rows parts)) × (get_or (all_rows parts) p blank_row ≡ row_at (part_at parts k) row)
laid_at n [] k row p laid low within at = absurd (omega (arith, low))
laid_at n (a ∷ ps) zero row p laid low within at =
    let same : p ≡ row = omega (arith, at, laid.0) in (
      omega (arith, length-append a.rows (all_rows ps), same, within),
      ap (λ i. get_or (a.rows ++ all_rows ps) i blank_row) same ∙ get_or_append_left a.rows (all_rows ps) blank_row row within,
    )
laid_at n (a ∷ ps) (suc k) row p laid low within at =
    let from = laid_from (n + length a.rows) ps k laid.1 (omega (arith, low)) in
    let q = p - length a.rows in
    let split : p ≡ length a.rows + q = omega (arith, from, at) in
    let rest = laid_at (n + length a.rows) ps k row q laid.1 (omega (arith, low)) within (omega (arith, from, at)) in (
      omega (arith, length-append a.rows (all_rows ps), split, rest.0),
      ap (λ i. get_or (a.rows ++ all_rows ps) i blank_row) split ∙ get_or-append-add a.rows (all_rows ps) q blank_row ∙ rest.1,
    )

-- the rows of a part among all
pub laid_within : (n : ℕ) (parts : List PartValue) (k : ℕ) → AreLaid n parts → k < length parts → (part_at parts k).first + length (part_at parts k).rows ≤ n + length (all_rows parts)
laid_within n [] k laid low = absurd (omega (arith, low))
laid_within n (a ∷ ps) zero laid low = omega (arith, laid.0, length-append a.rows (all_rows ps))
laid_within n (a ∷ ps) (suc k) laid low =
    let rest = laid_within (n + length a.rows) ps k laid.1 (omega (arith, low)) in
    omega (arith, rest, length-append a.rows (all_rows ps))

-- one part more
pub laid_more : (n : ℕ) (parts : List PartValue) (part : PartValue) → AreLaid n parts → part.first ≡ n + length (all_rows parts) → AreLaid n (parts ++ part ∷ [])
laid_more n [] part laid at = (omega (arith, at), tt)
laid_more n (a ∷ ps) part laid at = (laid.0, laid_more (n + length a.rows) ps part laid.1 (omega (arith, at, length-append a.rows (all_rows ps))))

pub rows_more : (parts : List PartValue) (part : PartValue) → length (all_rows (parts ++ part ∷ [])) ≡ length (all_rows parts) + length part.rows
rows_more parts part =
    ap length (flat_map-append (λ (p : PartValue). p.rows) parts (part ∷ []) ∙ ap (λ l. all_rows parts ++ l) (append-nil part.rows)) ∙ length-append (all_rows parts) part.rows

laid_behind : (n : ℕ) (parts : List PartValue) (k : ℕ) → AreLaid n parts → suc k < length parts → (part_at parts (suc k)).first ≡ (part_at parts k).first + length (part_at parts k).rows
laid_behind n [] k laid low = absurd (omega (arith, low))
laid_behind n (a ∷ []) k laid low = absurd (omega (arith, low))
laid_behind n (a ∷ b ∷ ps) zero laid low = omega (arith, laid.0, laid.1.0)
laid_behind n (a ∷ b ∷ ps) (suc k) laid low = laid_behind (n + length a.rows) (b ∷ ps) k laid.1 (omega (arith, low))

-- a part begins where the one before it ends
pub laid_next : (n : ℕ) (parts : List PartValue) (k : ℕ) → AreLaid n parts → k + 1 < length parts → (part_at parts (k + 1)).first ≡ (part_at parts k).first + length (part_at parts k).rows
laid_next n parts k laid low =
    let next : k + 1 ≡ suc k = omega arith in
    ap (λ (m : ℕ). (part_at parts m).first) next ∙ laid_behind n parts k laid (omega (arith, low))
