-- Texts between quotes.
use Rattle.std.proofs.Common.{◌≡◌, ℕ, ◌+◌, ◌-◌, ◌≤◌, true, List, length, get_or, slice_range, sym, ap, ◌∙◌, subst, arith}
use Rattle.std.specs.Str.{IsUtf8}
use Rattle.ql_lex.specs.declared.token.TokenKind.TheVariants.{Text}
use Rattle.ql_lex.specs.Shapes.{is_quote, is_inner, inside, IsEnclosed, IsQuotedText}
use Rattle.ql_lex.specs.Tokens.{IsToken, IsNotUtf8, IsUnclosed, open_text}
use Rattle.ql_lex.proofs.Heads.{quote_some}
use Rattle.ql_lex.proofs.Slices.{slice_first}
use Rattle.ql_lex.proofs.Enclosed.{QuotesAt, enclosed_at, inside_at, quotes_from, inside_from}

-- a text up to a quote that isn't escaped
pub record EndsAt (text : List ℕ) (at last : ℕ) : Type 0 where
  pub quote : is_quote (get_or text at 0) ≡ true
  pub quotes : QuotesAt (get_or text at 0) text at last
  pub inner : is_inner (get_or text at 0) (slice_range text (at + 1) last) ≡ true

text_is : (text : List ℕ) (at last : ℕ) → EndsAt text at last → IsQuotedText (slice_range text at (last + 1))
text_is text at last ends =
    let enclosed = enclosed_at (get_or text at 0) text at last ends.quotes in
    let within : is_inner (get_or text at 0) (inside (slice_range text at (last + 1))) ≡ true = ap (is_inner (get_or text at 0)) (inside_at text at last ends.quotes.before ends.quotes.within) ∙ ends.inner in
    record {
      quote = ap is_quote enclosed.opens ∙ ends.quote;
      enclosed = subst (λ q. IsEnclosed q (slice_range text at (last + 1))) (sym enclosed.opens) enclosed;
      inner = subst (λ q. is_inner q (inside (slice_range text at (last + 1))) ≡ true) (sym enclosed.opens) within;
    }

pub text_token : (text : List ℕ) (at last : ℕ) → EndsAt text at last → IsUtf8 (slice_range text (at + 1) last) → IsToken Text text at (last + 1)
text_token text at last ends utf8 = record {
  within = omega (arith, ends.quotes.within);
  lexeme = (text_is text at last ends, subst IsUtf8 (sym (inside_at text at last ends.quotes.before ends.quotes.within)) utf8);
  whole = tt;
}

pub text_other : (text : List ℕ) (at last : ℕ) → EndsAt text at last → (IsUtf8 (slice_range text (at + 1) last) → ⊥) → IsNotUtf8 text at
text_other text at last ends other = record {
  to = last + 1;
  within = omega (arith, ends.quotes.within);
  quoted = text_is text at last ends;
  other = λ utf8. other (subst IsUtf8 (inside_at text at last ends.quotes.before ends.quotes.within) utf8);
}

-- a text that stands at a place ends at a quote that isn't escaped
pub ends_from : (text : List ℕ) (at to : ℕ) → to ≤ length text → IsQuotedText (slice_range text at to) → (to ≡ (to - 1) + 1) × EndsAt text at (to - 1)
ends_from text at to within is =
    let first = (slice_first text at to (quote_some (get_or (slice_range text at to) 0 0) is.quote)).1 in
    let quotes = quotes_from (get_or (slice_range text at to) 0 0) text at to within is.enclosed in
    let inner : is_inner (get_or (slice_range text at to) 0 0) (slice_range text (at + 1) (to - 1)) ≡ true = ap (is_inner (get_or (slice_range text at to) 0 0)) (sym (inside_from (get_or (slice_range text at to) 0 0) text at to within is.enclosed)) ∙ is.inner in (
      quotes.0,
      record {
        quote = ap is_quote (sym first) ∙ is.quote;
        quotes = subst (λ q. QuotesAt q text at (to - 1)) first quotes.1;
        inner = subst (λ q. is_inner q (slice_range text (at + 1) (to - 1)) ≡ true) first inner;
      },
    )

pub text_open : (text : List ℕ) (at : ℕ) → is_quote (get_or text at 0) ≡ true → ((last : ℕ) → at + 1 ≤ last → get_or text last 0 ≡ get_or text at 0 → is_inner (get_or text at 0) (slice_range text (at + 1) last) ≡ true → ⊥) → IsUnclosed text at
text_open text at quote none = open_text quote (λ to within is.
    let ends = ends_from text at to within is in
    none (to - 1) (omega (arith, ends.1.quotes.before)) ends.1.quotes.closes ends.1.inner)
