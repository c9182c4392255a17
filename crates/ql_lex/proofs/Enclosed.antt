-- Parts of a text between two quotes.
use Rattle.std.proofs.Common.{◌≡◌, ℕ, ◌+◌, ◌-◌, ◌<◌, ◌≤◌, List, length, get_or, slice_range, sym, ap, ◌∙◌, arith}
use Rattle.ql_lex.specs.Shapes.{IsEnclosed, inside}
use Rattle.ql_lex.proofs.Slices.{slice_length, slice_byte, slice_slice}

-- a quote stands at one place, and at another one after it
pub record QuotesAt (quote : ℕ) (text : List ℕ) (at last : ℕ) : Type 0 where
  pub before : at < last
  pub within : last < length text
  pub opens : get_or text at 0 ≡ quote
  pub closes : get_or text last 0 ≡ quote

pub inside_at : (text : List ℕ) (at last : ℕ) → at < last → last < length text → inside (slice_range text at (last + 1)) ≡ slice_range text (at + 1) last
inside_at text at last before within =
    let size : length (slice_range text at (last + 1)) - 1 ≡ last - at = omega (arith, slice_length text at (last + 1) (omega arith)) in
    let e : at + (last - at) ≡ last = omega arith in
    ap (λ n. slice_range (slice_range text at (last + 1)) 1 n) size
    ∙ slice_slice text at (last + 1) 1 (last - at) (omega arith) (omega arith) (omega arith)
    ∙ ap (λ n. slice_range text (at + 1) n) e

pub enclosed_at : (quote : ℕ) (text : List ℕ) (at last : ℕ) → QuotesAt quote text at last → IsEnclosed quote (slice_range text at (last + 1))
enclosed_at quote text at last quotes =
    let size : length (slice_range text at (last + 1)) ≡ last + 1 - at = slice_length text at (last + 1) (omega arith) in
    let first : at + 0 < last + 1 = omega arith in
    let e : at + 0 ≡ at = omega arith in
    let back : at + (length (slice_range text at (last + 1)) - 1) ≡ last = omega arith in
    let end : at + (length (slice_range text at (last + 1)) - 1) < last + 1 = omega arith in
    record {
      two = omega arith;
      opens = slice_byte text at (last + 1) 0 first ∙ ap (λ n. get_or text n 0) e ∙ quotes.opens;
      closes = slice_byte text at (last + 1) (length (slice_range text at (last + 1)) - 1) end ∙ ap (λ n. get_or text n 0) back ∙ quotes.closes;
    }

-- where what stands between two places is enclosed, quotes stand at its ends
pub quotes_from : (quote : ℕ) (text : List ℕ) (at to : ℕ) → to ≤ length text → IsEnclosed quote (slice_range text at to) → (to ≡ (to - 1) + 1) × QuotesAt quote text at (to - 1)
quotes_from quote text at to within enclosed =
    let size : length (slice_range text at to) ≡ to - at = slice_length text at to within in
    let two : 2 ≤ length (slice_range text at to) = enclosed.two in
    let first : at + 0 < to = omega arith in
    let e : at + 0 ≡ at = omega arith in
    let back : at + (length (slice_range text at to) - 1) ≡ to - 1 = omega arith in
    let end : at + (length (slice_range text at to) - 1) < to = omega arith in (
      omega arith,
      record {
        before = omega arith;
        within = omega arith;
        opens = ap (λ n. get_or text n 0) (sym e) ∙ sym (slice_byte text at to 0 first) ∙ enclosed.opens;
        closes = ap (λ n. get_or text n 0) (sym back) ∙ sym (slice_byte text at to (length (slice_range text at to) - 1) end) ∙ enclosed.closes;
      },
    )

-- what stands inside of it
pub inside_from : (quote : ℕ) (text : List ℕ) (at to : ℕ) → to ≤ length text → IsEnclosed quote (slice_range text at to) → inside (slice_range text at to) ≡ slice_range text (at + 1) (to - 1)
inside_from quote text at to within enclosed =
    let quotes = quotes_from quote text at to within enclosed in
    ap (λ n. inside (slice_range text at n)) quotes.0 ∙ inside_at text at (to - 1) quotes.1.before quotes.1.within
