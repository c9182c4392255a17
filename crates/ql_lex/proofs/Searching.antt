-- Searches for the bytes that don't stand for themselves, many bytes at a time.
use Rattle.std.proofs.Common.{◌≡◌, ◌≢◌, ℕ, zero, suc, ◌+◌, ◌-◌, ◌<◌, ◌≤◌, true, false, eqb, List, Some, None, length, get_or, slice_range, sym, ap, ◌∙◌, subst, arith, ⊎_elim}
use Rattle.std.proofs.lemmas.Bool.{or_left, or_right, or_cases, eq-eqb, eqb-true, ne_eqb, cases_lt}
use Rattle.memchr.specs.Find.{IsFirstByte, is_byte2}
use Rattle.ql_lex.specs.Shapes.{is_inner, is_quote}
use Rattle.ql_lex.proofs.Inner.{Scanned, scan_start, scan_next, scan_escaped, scan_end}
use Rattle.ql_lex.proofs.Slices.{slice_byte, slice_length}

-- no byte from a place up to another is the quote or a `\`
abbrev Plain : ℕ → List ℕ → ℕ → ℕ → Type 0
Plain quote text from to = (k : ℕ) → from ≤ k → k < to → (get_or text k 0 ≢ quote) × (get_or text k 0 ≢ 92)

-- the bytes of a rest of a text before a place at which none of them passes a test
passed : (quote : ℕ) (text : List ℕ) (at n : ℕ) → at + n ≤ length text
    → ((k : ℕ) → 0 ≤ k → k < n → is_byte2 quote 92 (get_or (slice_range text at (length text)) k 0) ≡ true → ⊥) → Plain quote text at (at + n)
passed quote text at n within none k above below =
    let j = k - at in
    let small : j < n = omega arith in
    let e : at + j ≡ k = omega arith in
    let here : get_or (slice_range text at (length text)) j 0 ≡ get_or text k 0 = slice_byte text at (length text) j (omega arith) ∙ ap (λ i. get_or text i 0) e in
    let byte = get_or (slice_range text at (length text)) j 0 in (
      λ is. none j (omega arith) small (or_left (eqb byte quote) (eqb byte 92) (eq-eqb byte quote (here ∙ is))),
      λ is. none j (omega arith) small (or_right (eqb byte quote) (eqb byte 92) (eq-eqb byte 92 (here ∙ is))),
    )

-- plain bytes are scanned
scan_plain : (quote : ℕ) (text : List ℕ) (from at n : ℕ) → from ≤ at → at + n ≤ length text → Plain quote text at (at + n) → Scanned quote text from at false → Scanned quote text from (at + n) false
scan_plain quote text from at zero above within plain scan = let e : at ≡ at + 0 = omega arith in subst (λ k. Scanned quote text from k false) e scan
scan_plain quote text from at (suc n) above within plain scan =
    let here = plain at (omega arith) (omega arith) in
    let next : Scanned quote text from (at + 1) false = subst (λ b. Scanned quote text from (at + 1) b) (ne_eqb (get_or text at 0) 92 here.1) (scan_next quote text from at above (omega arith) scan here.0) in
    let e : at + 1 + n ≡ at + suc n = omega arith in
    subst (λ k. Scanned quote text from k false) e
    (scan_plain quote text from (at + 1) n (omega arith) (omega arith) (λ k after before. plain k (omega arith) (omega arith)) next)

-- What was looked at: the bytes up to the place, or, where a `\` is the last byte, all of them.
pub record Searched (quote : ℕ) (text : List ℕ) (from at : ℕ) : Type 0 where
  pub above : from ≤ at
  pub scan : at ≤ length text → Scanned quote text from at false
  pub all : length text < at → Scanned quote text from (length text) true

pub search_start : (quote : ℕ) (text : List ℕ) (from : ℕ) → from ≤ length text → Searched quote text from from
search_start quote text from within = record {
  above = omega arith;
  scan = λ below. scan_start quote text from;
  all = λ past. absurd (omega arith);
}

-- the first byte that doesn't stand for itself
pub search_found : (quote : ℕ) (text : List ℕ) (from at plain : ℕ) → at < length text → Searched quote text from at
    → IsFirstByte (is_byte2 quote 92) (slice_range text at (length text)) (Some plain)
    → (at + plain < length text) × Scanned quote text from (at + plain) false
search_found quote text from at plain below searched found =
    let size = slice_length text at (length text) (omega arith) in
    let high = found.0.high in
    let within : at + plain < length text = omega (arith, size, high) in (
      within,
      scan_plain quote text from at plain searched.above (omega arith) (passed quote text at plain (omega arith) found.0.before) (searched.scan (omega arith)),
    )

-- and it is a `\`
pub search_next : (quote : ℕ) (text : List ℕ) (from at plain : ℕ) → at < length text → Searched quote text from at
    → IsFirstByte (is_byte2 quote 92) (slice_range text at (length text)) (Some plain)
    → get_or text (at + plain) 0 ≢ quote → Searched quote text from (at + plain + 2)
search_next quote text from at plain below searched found other =
    let place = at + plain in
    let here = search_found quote text from at plain below searched found in
    let above = searched.above in
    let byte : get_or (slice_range text at (length text)) plain 0 ≡ get_or text place 0 = slice_byte text at (length text) plain here.0 in
    let backslash : get_or text place 0 ≡ 92 =
    ⊎_elim (λ is. absurd (other (sym byte ∙ eqb-true (get_or (slice_range text at (length text)) plain 0) quote is)))
    (λ is. sym byte ∙ eqb-true (get_or (slice_range text at (length text)) plain 0) 92 is)
    (or_cases (eqb (get_or (slice_range text at (length text)) plain 0) quote) (eqb (get_or (slice_range text at (length text)) plain 0) 92) found.1) in
    let escaped : Scanned quote text from (place + 1) true =
    subst (λ b. Scanned quote text from (place + 1) b) (eq-eqb (get_or text place 0) 92 backslash) (scan_next quote text from place (omega (arith, above)) here.0 here.1 other) in
    record {
      above = omega (arith, above);
      scan = λ within. let e : place + 1 + 1 ≡ place + 2 = omega arith in subst (λ k. Scanned quote text from k false) e (scan_escaped quote text from (place + 1) (omega (arith, within)) escaped);
      all = λ past. let e : place + 1 ≡ length text = omega (arith, past, here.0) in subst (λ k. Scanned quote text from k true) e escaped;
    }

-- no quote ends the text where no byte from the place on is one
pub search_none : (quote : ℕ) (text : List ℕ) (from at : ℕ) → is_quote quote ≡ true → at < length text → Searched quote text from at
    → IsFirstByte (is_byte2 quote 92) (slice_range text at (length text)) None
    → (last : ℕ) → from ≤ last → get_or text last 0 ≡ quote → is_inner quote (slice_range text from last) ≡ true → ⊥
search_none quote text from at is_one below searched none =
    let n = length text - at in
    let size = slice_length text at (length text) (omega arith) in
    let plain : Plain quote text at (at + n) = passed quote text at n (omega arith) (λ k low high. none k low (omega (arith, size))) in
    scan_end quote text from (at + n) false is_one (omega arith) (scan_plain quote text from at n searched.above (omega arith) plain (searched.scan (omega arith)))

-- nor where all bytes were looked at
pub search_end : (quote : ℕ) (text : List ℕ) (from at : ℕ) → is_quote quote ≡ true → length text ≤ at → Searched quote text from at
    → (last : ℕ) → from ≤ last → get_or text last 0 ≡ quote → is_inner quote (slice_range text from last) ≡ true → ⊥
search_end quote text from at is_one past searched =
    ⊎_elim (λ beyond. scan_end quote text from (length text) true is_one (omega arith) (searched.all beyond))
    (λ within. scan_end quote text from at false is_one past (searched.scan (omega arith)))
    (cases_lt (length text) at)
