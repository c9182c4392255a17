-- Names: plain ones, those between backquotes, and system variables.
use Rattle.std.proofs.Common.{◌≡◌, ℕ, ◌+◌, ◌-◌, ◌<◌, ◌≤◌, true, List, length, get_or, drop, slice_range, refl, sym, ap, ◌∙◌, subst, arith}
use Rattle.std.specs.List.{prefix_len}
use Rattle.ql_lex.specs.declared.token.TokenKind.TheVariants.{Name, Quoted, SysVar}
use Rattle.ql_lex.specs.Shapes.{is_letter, is_name_byte, is_variable_byte, is_word, IsNamed, bare_name}
use Rattle.ql_lex.specs.Tokens.{IsToken, IsTooLong}
use Rattle.ql_lex.proofs.Slices.{slice_length, slice_byte, slice_drop, byte_within}
use Rattle.ql_lex.proofs.Heads.{letter_in_name, letter_in_variable, letter_some}
use Rattle.ql_lex.proofs.Words.{IsRun, run_is, run_word}
use Rattle.ql_lex.proofs.Enclosed.{QuotesAt, enclosed_at, inside_at}

-- the name at a place
name_run : (text : List ℕ) (at len : ℕ) → at < length text → is_letter (get_or text at 0) ≡ true → len ≡ prefix_len is_name_byte (slice_range text at (length text)) → IsRun is_name_byte text at (at + len)
name_run text at len within letter is = run_is is_name_byte text at len refl within (letter_in_name (get_or text at 0) letter) is

pub name_token : (text : List ℕ) (at len : ℕ) → at < length text → is_letter (get_or text at 0) ≡ true → len ≡ prefix_len is_name_byte (slice_range text at (length text)) → len ≤ 64 → IsToken Name text at (at + len)
name_token text at len within letter is short =
    let run : IsRun is_name_byte text at (at + len) = name_run text at len within letter is in
    record {
      within = run.within;
      lexeme = (run_word is_name_byte text at (at + len) letter run, omega (arith, slice_length text at (at + len) run.within));
      whole = run.stops;
    }

pub name_long : (text : List ℕ) (at len : ℕ) → at < length text → is_letter (get_or text at 0) ≡ true → len ≡ prefix_len is_name_byte (slice_range text at (length text)) → 64 < len → IsTooLong text at
name_long text at len within letter is long =
    let run : IsRun is_name_byte text at (at + len) = name_run text at len within letter is in
    record {
      kind = Name;
      to = at + len;
      within = run.within;
      named = run_word is_name_byte text at (at + len) letter run;
      whole = run.stops;
      above = omega (arith, slice_length text at (at + len) run.within);
    }

-- the system variable at a place
pub record IsVariable (text : List ℕ) (at len : ℕ) : Type 0 where
  pub run : IsRun is_variable_byte text (at + 2) (at + 2 + len)
  pub named : IsNamed SysVar (slice_range text at (at + 2 + len))
  pub size : length (drop 2 (slice_range text at (at + 2 + len))) ≡ len

pub variable_is : (text : List ℕ) (at len : ℕ) → get_or text at 0 ≡ 64 → get_or text (at + 1) 0 ≡ 64 → is_letter (get_or text (at + 2) 0) ≡ true → len ≡ prefix_len is_variable_byte (slice_range text (at + 2) (length text)) → IsVariable text at len
variable_is text at len first second letter is =
    let within : at + 2 < length text = byte_within text (at + 2) (letter_some (get_or text (at + 2) 0) letter) in
    let run : IsRun is_variable_byte text (at + 2) (at + 2 + len) = run_is is_variable_byte text (at + 2) len refl within (letter_in_variable (get_or text (at + 2) 0) letter) is in
    let behind : drop 2 (slice_range text at (at + 2 + len)) ≡ slice_range text (at + 2) (at + 2 + len) = slice_drop text at (at + 2 + len) 2 run.within (omega arith) in
    let p0 : at + 0 < at + 2 + len = omega arith in
    let e0 : at + 0 ≡ at = omega arith in
    let p1 : at + 1 < at + 2 + len = omega arith in
    record {
      run = run;
      named = (
        slice_byte text at (at + 2 + len) 0 p0 ∙ ap (λ n. get_or text n 0) e0 ∙ first,
        slice_byte text at (at + 2 + len) 1 p1 ∙ second,
        subst (λ (l : List ℕ). is_word is_variable_byte l ≡ true) (sym behind) (run_word is_variable_byte text (at + 2) (at + 2 + len) letter run),
      );
      size = ap length behind ∙ slice_length text (at + 2) (at + 2 + len) run.within ∙ (let e : at + 2 + len - (at + 2) ≡ len = omega arith in e);
    }

pub variable_token : (text : List ℕ) (at len : ℕ) → IsVariable text at len → len ≤ 64 → IsToken SysVar text at (at + 2 + len)
variable_token text at len is short = record {
  within = is.run.within;
  lexeme = (is.named, omega (arith, is.size));
  whole = is.run.stops;
}

pub variable_long : (text : List ℕ) (at len : ℕ) → IsVariable text at len → 64 < len → IsTooLong text at
variable_long text at len is long = record {
  kind = SysVar;
  to = at + 2 + len;
  within = is.run.within;
  named = is.named;
  whole = is.run.stops;
  above = omega (arith, is.size);
}

-- the name between backquotes at a place
quoted_named : (text : List ℕ) (at last : ℕ) → QuotesAt 96 text at last → is_word is_name_byte (slice_range text (at + 1) last) ≡ true → IsNamed Quoted (slice_range text at (last + 1))
quoted_named text at last quotes word =
    (enclosed_at 96 text at last quotes, subst (λ (l : List ℕ). is_word is_name_byte l ≡ true) (sym (inside_at text at last quotes.before quotes.within)) word)

quoted_size : (text : List ℕ) (at last : ℕ) → QuotesAt 96 text at last → length (bare_name Quoted (slice_range text at (last + 1))) ≡ length (slice_range text (at + 1) last)
quoted_size text at last quotes = ap length (inside_at text at last quotes.before quotes.within)

pub quoted_token : (text : List ℕ) (at last : ℕ) → QuotesAt 96 text at last → is_word is_name_byte (slice_range text (at + 1) last) ≡ true → length (slice_range text (at + 1) last) ≤ 64 → IsToken Quoted text at (last + 1)
quoted_token text at last quotes word short = record {
  within = omega (arith, quotes.within);
  lexeme = (quoted_named text at last quotes word, omega (arith, quoted_size text at last quotes));
  whole = tt;
}

pub quoted_long : (text : List ℕ) (at last : ℕ) → QuotesAt 96 text at last → is_word is_name_byte (slice_range text (at + 1) last) ≡ true → 64 < length (slice_range text (at + 1) last) → IsTooLong text at
quoted_long text at last quotes word long = record {
  kind = Quoted;
  to = last + 1;
  within = omega (arith, quotes.within);
  named = quoted_named text at last quotes word;
  whole = tt;
  above = omega (arith, quoted_size text at last quotes);
}
