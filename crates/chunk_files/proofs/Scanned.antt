-- Rows that are looked at one after the other.
use Rattle.std.proofs.Common.{◌≡◌, ℕ, ◌+◌, ◌<◌, ◌≤◌, List, [], ◌∷◌, Bool, true, false, nat_lt, Some, None, length, get_or, slice_get, sym, ◌∙◌, ap, arith, All}
use Rattle.std.specs.List.{enumerate_from, position}
use Rattle.std.specs.Option.{option_map}
use Rattle.std.proofs.lemmas.Bool.Decides.{nat_tests}
use Rattle.std.proofs.lemmas.List.FromFn.{get_or-enumerate_from, length-enumerate_from}
use Rattle.std.proofs.lemmas.Option.{get_or_from_slice_get, slice_get-get_or}
use Rattle.doc_types.specs.Snapshots.{LayerValue}
use Rattle.doc_types.specs.declared.documents.DocRow.{DocRow}
use Rattle.store_steps.specs.Damage.{again_in, is_again}
use Rattle.chunk_files.proofs.First.{NonePass, first_found, none_found, none_more}
use Rattle.chunk_files.proofs.Once.{none_of}

pub some_row : (rows : List DocRow) (i : ℕ) → i < length rows → (found : DocRow) × (slice_get rows i ≡ Some found)
some_row [] i lt = absurd (omega (arith, lt))
some_row (r ∷ rows) i lt = (get_or (r ∷ rows) i r, slice_get-get_or (r ∷ rows) i r lt)

pub some_is : (a b : ℕ) → Some a ≡ Some b → a ≡ b
some_is a b is = cc

-- ---- rows that are newer

newer_test : (through born : ℕ) → through < born → nat_lt through born ≡ true
newer_test through born lt = grind (arith, nat_tests)

older_test : (through born : ℕ) → born ≤ through → nat_lt through born ≡ false
older_test through born le = grind (arith, nat_tests)

born_is : (rows : List DocRow) (row born : ℕ) (found : DocRow) → slice_get rows row ≡ Some found → option_map (λ found. found.born) (slice_get rows row) ≡ Some born → found.born ≡ born
born_is rows row born found at is = some_is found.born born (sym (ap (option_map (λ (r : DocRow). r.born)) at) ∙ is)

pub newer_here : (through : ℕ) (rows : List DocRow) (row born : ℕ) → NonePass (λ r. nat_lt through r.born) row rows → row < length rows → option_map (λ found. found.born) (slice_get rows row) ≡ Some born → through < born → position (λ r. nat_lt through r.born) rows ≡ Some row
newer_here through rows row born none lt is newer =
    let at = some_row rows row lt in
    let here : get_or rows row at.0 ≡ at.0 = get_or_from_slice_get rows row at.0 at.0 at.1 in
    first_found (λ (r : DocRow). nat_lt through r.born) row rows at.0 none lt (ap (λ (r : DocRow). nat_lt through r.born) here ∙ newer_test through at.0.born (let same = born_is rows row born at.0 at.1 is in omega (arith, same, newer)))

pub newer_later : (through : ℕ) (rows : List DocRow) (row born : ℕ) → NonePass (λ r. nat_lt through r.born) row rows → row < length rows → option_map (λ found. found.born) (slice_get rows row) ≡ Some born → born ≤ through → NonePass (λ r. nat_lt through r.born) (row + 1) rows
newer_later through rows row born none lt is older =
    let at = some_row rows row lt in
    let here : get_or rows row at.0 ≡ at.0 = get_or_from_slice_get rows row at.0 at.0 at.1 in
    none_more (λ (r : DocRow). nat_lt through r.born) row rows at.0 none (ap (λ (r : DocRow). nat_lt through r.born) here ∙ older_test through at.0.born (let same = born_is rows row born at.0 at.1 is in omega (arith, same, older)))

older_by : (through born : ℕ) → nat_lt through born ≡ false → born ≤ through
older_by through born is = grind (arith, nat_tests)

pub none_newer : (through : ℕ) (rows : List DocRow) → position (λ r. nat_lt through r.born) rows ≡ None → All (λ row. row.born ≤ through) rows
none_newer through rows is k d h = older_by through (get_or rows k d).born (none_of (λ (r : DocRow). nat_lt through r.born) rows is k d h)

-- ---- rows whose ids live before

-- what is told of a row
abbrev pub Tells : List LayerValue → LayerValue → ℕ → Bool → Type 0
Tells before layer row b = (found : DocRow) → slice_get layer.rows row ≡ Some found → b ≡ is_again before layer (row, found)

entry_is : (before : List LayerValue) (layer : LayerValue) (row : ℕ) (b : Bool) (lt : row < length layer.rows) → Tells before layer row b → b ≡ is_again before layer (get_or (enumerate_from 0 layer.rows) row (0, (some_row layer.rows row lt).0))
entry_is before layer row b lt told =
    let at = some_row layer.rows row lt in
    let here : 0 + row ≡ row = omega arith in
    let same : get_or layer.rows row at.0 ≡ at.0 = get_or_from_slice_get layer.rows row at.0 at.0 at.1 in
    told at.0 at.1 ∙ sym (ap (is_again before layer) (get_or-enumerate_from 0 layer.rows row (0, at.0) lt) ∙ ap (λ (n : ℕ). is_again before layer (n, get_or layer.rows row at.0)) here ∙ ap (λ (r : DocRow). is_again before layer (row, r)) same)

pub again_here : (before : List LayerValue) (layer : LayerValue) (row : ℕ) (b : Bool) → NonePass (is_again before layer) row (enumerate_from 0 layer.rows) → row < length layer.rows → Tells before layer row b → b ≡ true → again_in before layer ≡ Some row
again_here before layer row b none lt told is =
    first_found (is_again before layer) row (enumerate_from 0 layer.rows) (0, (some_row layer.rows row lt).0) none (omega (arith, lt, length-enumerate_from 0 layer.rows)) (sym (entry_is before layer row b lt told) ∙ is)

pub again_later : (before : List LayerValue) (layer : LayerValue) (row : ℕ) (b : Bool) → NonePass (is_again before layer) row (enumerate_from 0 layer.rows) → row < length layer.rows → Tells before layer row b → b ≡ false → NonePass (is_again before layer) (row + 1) (enumerate_from 0 layer.rows)
again_later before layer row b none lt told is =
    none_more (is_again before layer) row (enumerate_from 0 layer.rows) (0, (some_row layer.rows row lt).0) none (sym (entry_is before layer row b lt told) ∙ is)

pub again_none : (before : List LayerValue) (layer : LayerValue) (row : ℕ) → NonePass (is_again before layer) row (enumerate_from 0 layer.rows) → length layer.rows ≤ row → again_in before layer ≡ None
again_none before layer row none le = none_found (is_again before layer) row (enumerate_from 0 layer.rows) none (omega (arith, le, length-enumerate_from 0 layer.rows))
