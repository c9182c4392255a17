-- Words of a text: a letter or `_`, and the longest run of bytes of a name.
use Rattle.std.proofs.Common.{◌≡◌, ℕ, ◌+◌, ◌<◌, ◌≤◌, Bool, true, false, List, length, get_or, drop, slice_range, sym, ap, ◌∙◌, subst, arith}
use Rattle.std.specs.List.{list_all, prefix_len}
use Rattle.std.proofs.lemmas.Bool.{and_from}
use Rattle.std.proofs.lemmas.List.{take_rest}
use Rattle.ql_lex.specs.Shapes.{is_letter, is_word}
use Rattle.ql_lex.proofs.Slices.{slice_byte}
use Rattle.ql_lex.proofs.Runs.{run_within, run_passes, run_stops, run_some}

-- the run at a place
pub record IsRun (p : ℕ → Bool) (text : List ℕ) (at to : ℕ) : Type 0 where
  pub within : to ≤ length text
  pub some : at < to
  pub passes : list_all p (slice_range text at to) ≡ true
  pub first : get_or (slice_range text at to) 0 0 ≡ get_or text at 0
  pub stops : p (get_or text to 0) ≡ false

pub run_is : (p : ℕ → Bool) (text : List ℕ) (at len : ℕ) → p 0 ≡ false → at < length text → p (get_or text at 0) ≡ true → len ≡ prefix_len p (slice_range text at (length text)) → IsRun p text at (at + len)
run_is p text at len zero within passes is =
    let same : at + len ≡ at + prefix_len p (drop at text) = ap (λ n. at + n) (is ∙ ap (λ (l : List ℕ). prefix_len p l) (take_rest text at)) in
    let some = run_some p text at zero passes in
    let place : at + 0 < at + prefix_len p (drop at text) = omega arith in
    let e : at + 0 ≡ at = omega arith in
    subst (IsRun p text at) (sym same) (record {
      within = run_within p text at (omega arith);
      some = omega arith;
      passes = run_passes p text at (omega arith);
      first = slice_byte text at (at + prefix_len p (drop at text)) 0 place ∙ ap (λ n. get_or text n 0) e;
      stops = run_stops p text at zero;
    })

-- a run that begins with a letter is a word
pub run_word : (p : ℕ → Bool) (text : List ℕ) (at to : ℕ) → is_letter (get_or text at 0) ≡ true → IsRun p text at to → is_word p (slice_range text at to) ≡ true
run_word p text at to letter run = and_from _ _ (subst (λ b. is_letter b ≡ true) (sym run.first) letter) run.passes
