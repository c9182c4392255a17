-- A text that is read part by part.
use Rattle.std.proofs.Common.{◌≡◌, ◌≢◌, ℕ, ◌+◌, ◌<◌, ◌≤◌, true, List, [], ◌∷◌, ◌++◌, All, length, get_or, slice_range, refl, sym, ap, ◌∙◌, subst, arith}
use Rattle.std.specs.Char.{is_ascii_digit}
use Rattle.std.specs.List.{list_all}
use Rattle.std.proofs.lemmas.Bool.{and_parts}
use Rattle.std.proofs.lemmas.List.{append-nil}
use Rattle.std.proofs.lemmas.List.Elements.{All-push, All-nil}
use Rattle.ql_lex.specs.declared.part.Part.{Part}
use Rattle.ql_lex.specs.declared.part.Part.TheVariants as parts
use Rattle.ql_lex.specs.declared.token.TokenKind.{TokenKind}
use Rattle.ql_lex.specs.declared.token.TokenKind.TheVariants.{Name, Quoted, Number, Text, SysVar, Sign, End}
use Rattle.ql_lex.specs.Shapes.{is_letter, is_name_byte, IsLexeme}
use Rattle.ql_lex.specs.Tokens.{IsToken, Stands, end_of, Splits, Lexeme, tokens_among, end_token, AreTokens, AreLexemes}
use Rattle.ql_lex.proofs.Heads.{letter_some, digit_some, quote_some, blank_some}
use Rattle.ql_lex.proofs.PartHeads.{signs_head}
use Rattle.ql_lex.proofs.Slices.{slice_first, byte_within}

-- a token has bytes
token_some : (kind : TokenKind) (text : List ℕ) (at to : ℕ) → IsToken kind text at to → at < to
token_some Name text at to is =
    let letter : is_letter (get_or (slice_range text at to) 0 0) ≡ true = (and_parts (is_letter (get_or (slice_range text at to) 0 0)) (list_all is_name_byte (slice_range text at to)) is.lexeme.0).0 in
    (slice_first text at to (letter_some (get_or (slice_range text at to) 0 0) letter)).0
token_some Quoted text at to is = (slice_first text at to (omega (arith, is.lexeme.0.0.opens))).0
token_some SysVar text at to is = (slice_first text at to (omega (arith, is.lexeme.0.0))).0
token_some Number text at to is =
    let digit : is_ascii_digit (get_or (slice_range text at to) 0 0) ≡ true = (and_parts (is_ascii_digit (get_or (slice_range text at to) 0 0)) (list_all is_ascii_digit (slice_range text at to)) is.lexeme.0).0 in
    (slice_first text at to (digit_some (get_or (slice_range text at to) 0 0) digit)).0
token_some Text text at to is = (slice_first text at to (quote_some (get_or (slice_range text at to) 0 0) is.lexeme.0.quote)).0
token_some Sign text at to is = (slice_first text at to (signs_head (slice_range text at to) is.lexeme).0).0
token_some End text at to is = absurd is.whole

-- a part has bytes, and lies in the text
pub part_within : (text : List ℕ) (at : ℕ) (part : Part) → Stands text at part → (at < end_of at part) × (end_of at part ≤ length text)
part_within text at parts.Blank is = (omega arith, omega (arith, byte_within text at (blank_some (get_or text at 0) is)))
part_within text at (parts.Comment to) is =
    let last : is.last + 1 < length text = byte_within text (is.last + 1) (omega (arith, is.closes.slash)) in
    (omega (arith, is.is, is.behind), omega (arith, is.is))
part_within text at (parts.Token kind to) is = (token_some kind text at to is, is.within)

-- a token that stands in a text isn't its end
token_other : (kind : TokenKind) (text : List ℕ) (at to : ℕ) → IsToken kind text at to → kind ≢ End
token_other Name text at to is e = cc
token_other Quoted text at to is e = cc
token_other Number text at to is e = cc
token_other Text text at to is e = cc
token_other SysVar text at to is e = cc
token_other Sign text at to is e = cc
token_other End text at to is e = is.whole

-- one part more
splits_push : (text : List ℕ) (from at : ℕ) (list : List Part) (part : Part) → Splits text from list at → Stands text at part → Splits text from (list ++ part ∷ []) (end_of at part)
splits_push text from at [] part splits stands = (subst (λ n. Stands text n part) (sym splits) stands, ap (λ n. end_of n part) splits)
splits_push text from at (first ∷ list) part splits stands = (splits.0, splits_push text (end_of from first) at list part splits.1 stands)

tokens_push : (text : List ℕ) (from at : ℕ) (list : List Part) (part : Part) → Splits text from list at → tokens_among text from (list ++ part ∷ []) ≡ tokens_among text from list ++ tokens_among text at (part ∷ [])
tokens_push text from at [] part splits = ap (λ n. tokens_among text n (part ∷ [])) splits
tokens_push text from at (parts.Blank ∷ list) part splits = tokens_push text (from + 1) at list part splits.1
tokens_push text from at (parts.Comment to ∷ list) part splits = tokens_push text to at list part splits.1
tokens_push text from at (parts.Token kind to ∷ list) part splits =
    ap (λ (l : List Lexeme). record { kind = kind; text = slice_range text from to; at = from } ∷ l) (tokens_push text to at list part splits.1)

-- What was read of a text up to a place.
pub record Read (text : List ℕ) (at : ℕ) (tokens : List Lexeme) : Type 0 where
  pub list : List Part
  pub splits : Splits text 0 list at
  pub are : tokens ≡ tokens_among text 0 list
  pub within : at ≤ length text
  pub each : All (λ t. IsLexeme t.kind t.text) tokens
  pub others : All (λ t. t.kind ≢ End) tokens

pub read_start : (text : List ℕ) (tokens : List Lexeme) → tokens ≡ [] → Read text 0 tokens
read_start text tokens none = subst (Read text 0) (sym none) (record {
  list = [];
  splits = refl;
  are = refl;
  within = omega arith;
  each = All-nil (λ (t : Lexeme). IsLexeme t.kind t.text);
  others = All-nil (λ (t : Lexeme). t.kind ≢ End);
})

-- a part that is no token
pub read_gap : (text : List ℕ) (at : ℕ) (part : Part) (tokens : List Lexeme) → tokens_among text at (part ∷ []) ≡ [] → Stands text at part → Read text at tokens → Read text (end_of at part) tokens
read_gap text at part tokens gap stands read = record {
  list = read.list ++ part ∷ [];
  splits = splits_push text 0 at read.list part read.splits stands;
  are = read.are ∙ sym (append-nil (tokens_among text 0 read.list)) ∙ ap (λ (l : List Lexeme). tokens_among text 0 read.list ++ l) (sym gap) ∙ sym (tokens_push text 0 at read.list part read.splits);
  within = (part_within text at part stands).1;
  each = read.each;
  others = read.others;
}

-- a token
pub read_token : (text : List ℕ) (at to : ℕ) (kind : TokenKind) (tokens more : List Lexeme) → IsToken kind text at to → Read text at tokens → more ≡ tokens ++ record { kind = kind; text = slice_range text at to; at = at } ∷ [] → Read text to more
read_token text at to kind tokens more stands read is = subst (Read text to) (sym is) (record {
  list = read.list ++ parts.Token kind to ∷ [];
  splits = splits_push text 0 at read.list (parts.Token kind to) read.splits stands;
  are = ap (λ (l : List Lexeme). l ++ record { kind = kind; text = slice_range text at to; at = at } ∷ []) read.are ∙ sym (tokens_push text 0 at read.list (parts.Token kind to) read.splits);
  within = stands.within;
  each = All-push (λ (t : Lexeme). IsLexeme t.kind t.text) tokens (record { kind = kind; text = slice_range text at to; at = at }) read.each stands.lexeme;
  others = All-push (λ (t : Lexeme). t.kind ≢ End) tokens (record { kind = kind; text = slice_range text at to; at = at }) read.others (token_other kind text at to stands);
})

-- at the end
pub read_end : (text : List ℕ) (at : ℕ) (tokens all : List Lexeme) → length text ≤ at → Read text at tokens → all ≡ tokens ++ end_token text ∷ [] → AreTokens text all × AreLexemes all
read_end text at tokens all past read is =
    let e : at ≡ length text = omega (arith, read.within) in (
      record { parts = read.list; splits = subst (Splits text 0 read.list) e read.splits; are = is ∙ ap (λ (l : List Lexeme). l ++ end_token text ∷ []) read.are },
      record {
        each = subst (All (λ (t : Lexeme). IsLexeme t.kind t.text)) (sym is) (All-push (λ (t : Lexeme). IsLexeme t.kind t.text) tokens (end_token text) read.each refl);
        front = tokens;
        last = end_token text;
        is = is;
        ends = refl;
        others = read.others;
      },
    )
