-- The parts of a text, which LF ends.
use Rattle.std.proofs.Common.{◌≡◌, ◌≢◌, ℕ, ◌+◌, ◌<◌, ◌≤◌, eqb, cond, List, [], ◌∷◌, length, take, drop, refl, sym, ◌∙◌, ap, arith, inl, inr}
use Rattle.std.specs.Prelude.{not}
use Rattle.std.specs.List.{position_or_len, slice_split, onto_first}
use Rattle.std.specs.Str.Lines.{lines, lines_of_parts, strip_carriage_return}
use Rattle.std.proofs.lemmas.Bool.{cases_Bool, ne_eqb}
use Rattle.std.proofs.lemmas.List.Splits.{slice_split_first, slice_split_none}
use Rattle.std.proofs.lemmas.List.Sums.{prefix_len-le-length, fails_before_first}

-- the place of the first such byte
abbrev pub place : ℕ → List ℕ → ℕ
place byte text = position_or_len (λ b. eqb b byte) text

pub place_within : (byte : ℕ) (text : List ℕ) → place byte text ≤ length text
place_within byte text = prefix_len-le-length (λ b. not (eqb b byte)) text

-- no list of parts is empty
some_parts : (text : List ℕ) → (part : List ℕ) × (parts : List (List ℕ)) × (slice_split (λ b. eqb b 10) text ≡ part ∷ parts)
some_parts [] = ([], [], refl)
some_parts (b ∷ text) =
    let rest = some_parts text in
    elim (cases_Bool (eqb b 10)) [
      | inl here ↦ ([], slice_split (λ b. eqb b 10) text, ap (λ t. cond t ([] ∷ slice_split (λ b. eqb b 10) text) (onto_first b (slice_split (λ b. eqb b 10) text))) here)
      | inr later ↦ (b ∷ rest.0, rest.1, ap (λ t. cond t ([] ∷ slice_split (λ b. eqb b 10) text) (onto_first b (slice_split (λ b. eqb b 10) text))) later ∙ ap (onto_first b) rest.2)
    ]

ended_part : (part : List ℕ) (text : List ℕ) → lines_of_parts (part ∷ slice_split (λ b. eqb b 10) text) ≡ strip_carriage_return part ∷ lines_of_parts (slice_split (λ b. eqb b 10) text)
ended_part part text =
    let rest = some_parts text in
    ap (λ (parts : List (List ℕ)). lines_of_parts (part ∷ parts)) rest.2 ∙ ap (λ (parts : List (List ℕ)). strip_carriage_return part ∷ lines_of_parts parts) (sym rest.2)

-- a part that LF ends, and the lines after it
pub first_line : (text : List ℕ) → place 10 text < length text → lines text ≡ strip_carriage_return (take (place 10 text) text) ∷ lines (drop (place 10 text + 1) text)
first_line text within = ap lines_of_parts (slice_split_first (λ b. eqb b 10) text 0 within) ∙ ended_part (take (place 10 text) text) (drop (place 10 text + 1) text)

last_of : (text : List ℕ) → 0 < length text → lines_of_parts (text ∷ []) ≡ text ∷ []
last_of [] some = absurd (omega arith)
last_of (b ∷ text) some =
    let other : length (b ∷ text) ≢ 0 = omega arith in
    ap (λ t. cond t [] ((b ∷ text) ∷ [])) (ne_eqb (length (b ∷ text)) 0 other)

-- the last part, which no LF ends
pub last_line : (text : List ℕ) → 0 < length text → place 10 text ≡ length text → lines text ≡ text ∷ []
last_line text some end = ap lines_of_parts (slice_split_none (λ b. eqb b 10) text (λ k d below. fails_before_first (λ b. eqb b 10) text k d (omega (arith, end)))) ∙ last_of text some
