-- The longest run of bytes from a place on that pass a test.
use Rattle.std.proofs.Common.{◌≡◌, ℕ, ◌+◌, ◌-◌, ◌<◌, ◌≤◌, Bool, true, false, List, length, get_or, drop, slice_range, sym, ap, ◌∙◌, subst, arith, length-drop, get_or-drop, ⊎_elim}
use Rattle.std.specs.List.{list_all, prefix_len}
use Rattle.std.proofs.lemmas.Bool.{cases_lt}
use Rattle.std.proofs.lemmas.List.{get_or_past}
use Rattle.std.proofs.lemmas.List.Elements.{All-from_get_or, All-get_or}
use Rattle.std.proofs.lemmas.List.Sums.{prefix_len-le-length, prefix_len_passes, prefix_len_stops, list_all-from_AllPass, AllPass-from_list_all}
use Rattle.ql_lex.proofs.Slices.{slice_length, slice_byte}

pub run_within : (p : ℕ → Bool) (text : List ℕ) (at : ℕ) → at ≤ length text → at + prefix_len p (drop at text) ≤ length text
run_within p text at within = omega (arith, prefix_len-le-length p (drop at text), length-drop at text)

-- each byte of a run passes
pub run_passes : (p : ℕ → Bool) (text : List ℕ) (at : ℕ) → at ≤ length text → list_all p (slice_range text at (at + prefix_len p (drop at text))) ≡ true
run_passes p text at within =
    list_all-from_AllPass p _ (All-from_get_or (λ b. p b ≡ true) _ 0 (λ k below.
    let size : k < prefix_len p (drop at text) = omega (arith, slice_length text at (at + prefix_len p (drop at text)) (run_within p text at within)) in
    let place : at + k < at + prefix_len p (drop at text) = omega arith in
    subst (λ b. p b ≡ true) (sym (slice_byte text at (at + prefix_len p (drop at text)) k place)) (subst (λ b. p b ≡ true) (get_or-drop at text k 0) (prefix_len_passes p (drop at text) k 0 size))))

-- the byte after a run doesn't pass
pub run_stops : (p : ℕ → Bool) (text : List ℕ) (at : ℕ) → p 0 ≡ false → p (get_or text (at + prefix_len p (drop at text)) 0) ≡ false
run_stops p text at zero =
    subst (λ b. p b ≡ false) (get_or-drop at text (prefix_len p (drop at text)) 0)
    (⊎_elim (λ below. prefix_len_stops p (drop at text) 0 below) (λ past. subst (λ b. p b ≡ false) (sym (get_or_past (drop at text) (prefix_len p (drop at text)) 0 past)) zero) (cases_lt (prefix_len p (drop at text)) (length (drop at text))))

-- a run that begins with a byte that passes isn't empty
pub run_some : (p : ℕ → Bool) (text : List ℕ) (at : ℕ) → p 0 ≡ false → p (get_or text at 0) ≡ true → 0 < prefix_len p (drop at text)
run_some p text at zero passes =
    ⊎_elim (λ none. let is : prefix_len p (drop at text) ≡ 0 = omega arith in
    let e : at + prefix_len p (drop at text) ≡ at = omega arith in
    let stops : p (get_or text at 0) ≡ false = subst (λ n. p (get_or text n 0) ≡ false) e (run_stops p text at zero) in cc) (λ some. omega arith) (cases_lt (prefix_len p (drop at text)) 1)

-- each byte of a part passes where the test of the whole part says so
pub passes_at : (p : ℕ → Bool) (text : List ℕ) (from to k : ℕ) → to ≤ length text → from ≤ k → k < to → list_all p (slice_range text from to) ≡ true → p (get_or text k 0) ≡ true
passes_at p text from to k within above below all =
    let place : from + (k - from) < to = omega arith in
    let e : from + (k - from) ≡ k = omega arith in
    let size : k - from < length (slice_range text from to) = omega (arith, slice_length text from to within) in
    subst (λ b. p b ≡ true) (slice_byte text from to (k - from) place ∙ ap (λ n. get_or text n 0) e)
    (All-get_or (λ b. p b ≡ true) (slice_range text from to) (k - from) 0 size (AllPass-from_list_all p _ all))
