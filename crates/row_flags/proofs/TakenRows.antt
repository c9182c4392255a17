-- Rows that are taken of a cursor, many at a time, and what each of them changes.
use Rattle.std.proofs.Common.{◌≡◌, ℕ, ◌+◌, ◌<◌, ◌≤◌, Bool, true, false, cond, ◌||◌, List, [], ◌∷◌, Some, length, drop, fold, get_or, slice_get, inl, inr, refl, sym, ap, subst, ◌∙◌, arith, true≢false}
use Rattle.std.specs.Prelude.{◌==◌}
use Rattle.std.proofs.lemmas.Bool.{cases_eq, eq-eqb, ne_eqb}
use Rattle.doc_types.specs.declared.documents.DocRow.{DocRow}
use Rattle.doc_types.specs.Chunks.{CursorPlace, IsCursorPlace, has_word, rows_from, rows_with}
use Rattle.row_plans.proofs.Seeking.{Rises, is_in, is_in_below, numbers_rise, rises_last}
use Rattle.row_flags.specs.steps.Flags.{AreFlags}
use Rattle.row_flags.specs.steps.Tallies.{changed}
use Rattle.row_flags.proofs.RowsAhead.{all_ahead, in_sought, rises_sought}

-- ---- the rows ahead

pub rises_ahead : (rows : List DocRow) (place : CursorPlace) → IsCursorPlace rows place → Rises 0 place.ahead
rises_ahead rows place is = rises_last 0 is.behind place.ahead (subst (λ xs. Rises 0 xs) (sym is.both) (numbers_rise (has_word place.word) 0 rows))

-- none is ahead that comes before the next one
pub none_before : (row number : ℕ) (ahead : List ℕ) → slice_get ahead 0 ≡ Some row → Rises 0 ahead → number < row → is_in number ahead ≡ false
none_before row number [] next rise low = absurd (cc)
none_before row number (x ∷ ahead) next rise low =
    let same : x ≡ row = cc in
    is_in_below x number (x ∷ ahead) (omega (arith, low, same)) (omega arith, rise.1)

-- ---- flags that they set

or_false : (a b : Bool) → b ≡ false → (a || b) ≡ a
or_false true b is = refl
or_false false b is = is

pub flags_end : (from number : ℕ) (first : Bool) (flag : Bool) (ahead rows : List ℕ) → from ≤ number → is_in number ahead ≡ false → (flag || is_in number ahead) ≡ (first || is_in number (rows_from from rows)) → flag ≡ (first || is_in number rows)
flags_end from number first flag ahead rows on none is =
    sym (or_false flag (is_in number ahead) none) ∙ is ∙ ap (λ b. first || b) (in_sought from number rows on)

-- the flags of rows of which those are ahead that have a word
pub flags_with : (rows : List DocRow) (word : List ℕ) (from : ℕ) (ahead : List ℕ) (old new : List Bool) → ahead ≡ rows_with word rows → length new ≡ length old → ((i : ℕ) (d : Bool) → i < length old → get_or old i d ≡ false) → ((i : ℕ) (d : Bool) → i < length old → get_or new i d ≡ (get_or old i d || is_in (from + i) ahead)) → AreFlags (has_word word) rows from new
flags_with rows word from ahead old new is long none each = λ i row d within there.
    each i d (omega (arith, within, long))
    ∙ ap (λ b. b || is_in (from + i) ahead) (none i d (omega (arith, within, long)))
    ∙ ap (is_in (from + i)) is
    ∙ (all_ahead rows word).all (from + i) row (omega arith) there

pub unset_flags : (rows : List DocRow) (word : List ℕ) (from : ℕ) (flags : List Bool) → rows_with word rows ≡ [] → ((i : ℕ) (d : Bool) → i < length flags → get_or flags i d ≡ false) → AreFlags (has_word word) rows from flags
unset_flags rows word from flags is none = flags_with rows word from [] flags flags (sym is) refl none (λ i d within. sym (or_false (get_or flags i d) false refl))

-- ---- what they change

neither : (a b : Bool) → (a || b) ≡ false → (a ≡ false) × (b ≡ false)
neither true b is = absurd (true≢false is)
neither false b is = (refl, is)

module _ {X : Type 0} (change : X → X) (number : ℕ) where
  abbrev step : X → ℕ → X
  step x row = cond (row == number) (change x) x

  pub changed_none : (x : X) (rows : List ℕ) → is_in number rows ≡ false → changed change number x rows ≡ x
  changed_none x [] none = refl
  changed_none x (row ∷ rows) none =
      let both = neither (row == number) (is_in number rows) none in
      ap (λ b. fold step (cond b (change x) x) rows) both.0 ∙ changed_none x rows both.1

  changed_once : (low : ℕ) (x : X) (rows : List ℕ) → Rises low rows → changed change number x rows ≡ cond (is_in number rows) (change x) x
  changed_once low x [] rise = refl
  changed_once low x (row ∷ rows) rise =
      elim (cases_eq row number) [
        | inl same ↦
            let is : (row == number) ≡ true = eq-eqb row number same in
            ap (λ b. fold step (cond b (change x) x) rows) is
            ∙ changed_none (change x) rows (is_in_below (row + 1) number rows (omega (arith, same)) rise.1)
            ∙ sym (ap (λ b. cond (b || is_in number rows) (change x) x) is)
        | inr differ ↦
            let is : (row == number) ≡ false = ne_eqb row number differ in
            ap (λ b. fold step (cond b (change x) x) rows) is
            ∙ changed_once (row + 1) x rows rise.1
            ∙ sym (ap (λ b. cond (b || is_in number rows) (change x) x) is)
      ]

  pub changed_end : (from : ℕ) (x y : X) (ahead rows : List ℕ) → from ≤ number → Rises 0 rows → is_in number ahead ≡ false → changed change number y ahead ≡ changed change number x (rows_from from rows) → y ≡ cond (is_in number rows) (change x) x
  changed_end from x y ahead rows on rise none is =
      sym (changed_none y ahead none)
      ∙ is
      ∙ changed_once from x (rows_from from rows) (rises_sought from 0 rows rise)
      ∙ ap (λ b. cond b (change x) x) (in_sought from number rows on)

  -- by the next row alone
  pub changed_next : (row : ℕ) (x y : X) (ahead later : List ℕ) → slice_get ahead 0 ≡ Some row → later ≡ drop 1 ahead → y ≡ cond (row == number) (change x) x → changed change number y later ≡ changed change number x ahead
  changed_next row x y [] later next rest is = absurd (cc)
  changed_next row x y (r ∷ ahead) later next rest is =
      let same : row ≡ r = cc in
      let left : later ≡ ahead = rest in
      ap (λ z. fold step z later) (is ∙ ap (λ n. cond (n == number) (change x) x) same) ∙ ap (λ rows. fold step (cond (r == number) (change x) x) rows) left
