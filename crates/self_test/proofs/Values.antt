-- The statements of a selftest are values of the grammar: some tokens stand for each.
use Rattle.std.proofs.Common.{◌≡◌, ℕ, zero, suc, ◌+◌, ◌%◌, ◌^◌, ◌<◌, ℤ, pos, List, [], ◌∷◌, ◌++◌, Option, Some, None, refl, sym, ap, ◌∙◌, subst, arith, inl, inr}
use Rattle.std.proofs.lemmas.Fmt.{IsAscii-decimal}
use Rattle.std.proofs.lemmas.List.Elements.{All-append, All-cons, All-nil}
use Rattle.std.proofs.lemmas.Str.{IsAscii-append, IsUtf8-from_ascii}
use Rattle.std.proofs.lemmas.Str.Ascii.{IsAscii-nil}
use Rattle.std.specs.Prelude.{All, codes, decimal, slice_index}
use Rattle.std.specs.Str.{IsAscii, IsUtf8}
use Rattle.ql_lex.specs.declared.token.Sign.{Sign}
use Rattle.ql_lex.specs.declared.token.Sign.TheVariants as signs
use Rattle.ql_lex.specs.Shapes.{IsLexeme, is_name_byte}
use Rattle.ql_lex.specs.Spacing.{IsSpelled}
use Rattle.ql_lex.specs.Tokens.{Lexeme}
use Rattle.ql_grammar.specs.declared.keyword.Keyword.{Keyword}
use Rattle.ql_grammar.specs.declared.keyword.Keyword.TheVariants as keywords
use Rattle.ql_grammar.specs.declared.kind.Kind.TheVariants as kinds
use Rattle.ql_grammar.specs.Classes.{is_name}
use Rattle.ql_grammar.specs.Parts.{IsComma, IsEnclosed, IsKeyword, IsName, IsNumber, IsSign, IsText, IsWhole}
use Rattle.ql_grammar.specs.Selects.{AreOptions, IsCond}
use Rattle.ql_grammar.specs.Statements.{IsStatement}
use Rattle.ql_grammar.specs.Tokens.{kind}
use Rattle.token_grammar.specs.Values.{◌then◌, AreGiven, IsAbsent, IsOne}
use Rattle.ql_tree.specs.declared.select.Cond.{Cond}
use Rattle.ql_tree.specs.declared.select.Cond.TheVariants as conds
use Rattle.ql_tree.specs.declared.select.Comparison.TheVariants as comparisons
use Rattle.ql_tree.specs.declared.select.OptionValue.TheVariants as values
use Rattle.ql_tree.specs.declared.select.SelectOption.{SelectOption}
use Rattle.ql_tree.specs.declared.statement.Statement.{Statement}
use Rattle.ql_tree.specs.declared.statement.Statement.TheVariants as statements
use Rattle.ql_write.specs.Pieces.{Piece, keyword, sign, name, number, text, spelling}
use Rattle.ql_session.specs.Statements.{States}
use Rattle.ql_write.specs.Canonical.{canonical_text}
use Rattle.ql_write.specs.Reading.{IsValue, ReadsAs}
use Rattle.ql_write.proofs.CanonicalNames.{IsNameBy, decimal_fits}
use Rattle.ql_write.proofs.CanonicalPieces.{form, spelled_as, word_fits, word_reads, sign_fits, sign_reads, kind_is, quoted_fits, quoted_kind, quoted_name, number_kind, number_is, text_kind, text_is}
use Rattle.ql_write.proofs.CanonicalTexts.{text_fits}
use Rattle.self_test.specs.Documents.{document_from}
use Rattle.self_test.specs.Texts.{count_statement, insert_statement, matching, query_of, selecting, title_of, word_of}
use Rattle.self_test.specs.declared.generator.Document.{Document}
use Rattle.self_test.specs.declared.summary.Count.{Count}
use Rattle.self_test.specs.declared.summary.Count.TheVariants.{Words, Pairs, Groups}
use Rattle.self_test.specs.steps.Letters.{IsSmall}

-- Some tokens have the property.
record Some_of (P : List Lexeme → Type 0) : Type 0 where
  tokens : List Lexeme
  each : All (λ t. IsLexeme t.kind t.text) tokens
  is : P tokens

-- a piece as a token, wherever it stands
abbrev token : Piece → Lexeme
token p = record { kind = form p; text = spelling p; at = 0 }

spelled : (p : Piece) → IsSpelled (spelled_as p) (token p)
spelled p = record { kind = refl; bytes = refl }

some_one : {P : Lexeme → Type 0} (p : Piece) → IsLexeme (form p) (spelling p) → P (token p) → Some_of (IsOne P)
some_one {P} p fits holds = record {
  tokens = token p ∷ [];
  each = All-cons (λ (t : Lexeme). IsLexeme t.kind t.text) (token p) [] fits (All-nil (λ (t : Lexeme). IsLexeme t.kind t.text));
  is = (token p, refl, holds);
}

some_then : {P Q : List Lexeme → Type 0} → Some_of P → Some_of Q → Some_of (P then Q)
some_then first second = record {
  tokens = first.tokens ++ second.tokens;
  each = All-append (λ (t : Lexeme). IsLexeme t.kind t.text) first.tokens second.tokens first.each second.each;
  is = (first.tokens, second.tokens, refl, first.is, second.is);
}

some_absent : Some_of IsAbsent
some_absent = record { tokens = []; each = All-nil (λ (t : Lexeme). IsLexeme t.kind t.text); is = refl }

some_word : (w : Keyword) → Some_of (IsKeyword w)
some_word w = some_one (keyword w) (word_fits w) (kind_is (keyword w) (token (keyword w)) (spelled (keyword w)) ∙ word_reads w)

some_sign : (s : Sign) → Some_of (IsSign s)
some_sign s = some_one (sign s) (sign_fits s) (kind_is (sign s) (token (sign s)) (spelled (sign s)) ∙ sign_reads s)

some_comma : Some_of IsComma
some_comma = some_sign signs.Comma

some_name : (bytes : List ℕ) → IsNameBy is_name_byte bytes → Some_of (IsName bytes)
some_name bytes is = some_one (name bytes) (quoted_fits bytes is)
    (ap is_name (quoted_kind bytes (token (name bytes)) (spelled (name bytes))), quoted_name bytes (token (name bytes)) is.small (spelled (name bytes)))

some_number : (n : ℕ) → n < 2 ^ 64 → Some_of (IsNumber n)
some_number n below = some_one (number n) (decimal_fits n below) (number_kind n (token (number n)) (spelled (number n)), number_is n (token (number n)) below (spelled (number n)))

some_text : (bytes : List ℕ) → IsUtf8 bytes → Some_of (IsText bytes)
some_text bytes utf8 = some_one (text bytes) (text_fits bytes utf8) (text_kind bytes (token (text bytes)) (spelled (text bytes)), text_is bytes (token (text bytes)) (spelled (text bytes)))

some_whole : (n : ℕ) → n < 2 ^ 64 → Some_of (IsWhole (pos n))
some_whole n below =
    let one : Some_of (IsNumber n) = some_number n below in
    record { tokens = one.tokens; each = one.each; is = inl (n, refl, one.is) }

some_enclosed : {P : List Lexeme → Type 0} → Some_of P → Some_of (IsEnclosed P)
some_enclosed some = some_then (some_sign signs.OpenParen) (some_then some (some_sign signs.CloseParen))

-- The names of a selftest.

index_name : IsNameBy is_name_byte (codes "t")
index_name = record { keyword = refl; size = omega arith; small = refl }

id_name : IsNameBy is_name_byte (codes "id")
id_name = record { keyword = refl; size = omega arith; small = refl }

title_name : IsNameBy is_name_byte (codes "title")
title_name = record { keyword = refl; size = omega arith; small = refl }

gid_name : IsNameBy is_name_byte (codes "gid")
gid_name = record { keyword = refl; size = omega arith; small = refl }

option_name : IsNameBy is_name_byte (codes "max_matches")
option_name = record { keyword = refl; size = omega arith; small = refl }

-- Its texts.

ascii_one : (b : ℕ) → b < 128 → IsAscii (b ∷ [])
ascii_one b below zero = below
ascii_one b below (suc i) = omega arith

ascii_word : (n : ℕ) → n < 2 ^ 64 → IsAscii (word_of n)
ascii_word n below = IsAscii-append (codes "w") (decimal n) (ascii_one 119 (omega arith)) (IsAscii-decimal n below)

-- words with a space between two of them
ascii_then : (before : List ℕ) (n : ℕ) → IsAscii before → n < 2 ^ 64 → IsAscii (before ++ codes " " ++ word_of n)
ascii_then before n ascii below = IsAscii-append (before ++ codes " ") (word_of n) (IsAscii-append before (codes " ") ascii (ascii_one 32 (omega arith))) (ascii_word n below)

title_utf8 : (document : Document) → IsSmall document → IsUtf8 (title_of document)
title_utf8 document small =
    let a = word_of (slice_index document.title 0) in
    let b = a ++ codes " " ++ word_of (slice_index document.title 1) in
    let c = b ++ codes " " ++ word_of (slice_index document.title 2) in
    IsUtf8-from_ascii (title_of document)
    (ascii_then c (slice_index document.title 3) (ascii_then b (slice_index document.title 2) (ascii_then a (slice_index document.title 1) (ascii_word (slice_index document.title 0) small.first) small.second) small.third) small.fourth)

pub query_utf8 : (count : Count) (n : ℕ) → n < 50 → IsUtf8 (query_of count n)
query_utf8 Words n below = IsUtf8-from_ascii (word_of n) (ascii_word n (omega arith))
query_utf8 Pairs n below =
    let quote : List ℕ = codes "\"" in
    IsUtf8-from_ascii (query_of Pairs n)
    (IsAscii-append (quote ++ word_of n ++ codes " " ++ word_of ((n + 1) % 50)) quote
    (ascii_then (quote ++ word_of n) ((n + 1) % 50) (IsAscii-append quote (word_of n) (ascii_one 34 (omega arith)) (ascii_word n (omega arith))) (omega arith))
    (ascii_one 34 (omega arith)))
query_utf8 Groups n below = IsUtf8-from_ascii [] IsAscii-nil

-- Its statements.

value_of : (statement : Statement) → Some_of (IsStatement statement) → IsValue statement
value_of statement some = record { tokens = some.tokens; each = some.each; are = some.is }

pub insert_value : (id : ℕ) (document : Document) → id < 2 ^ 64 → IsSmall document → IsValue (insert_statement id document)
insert_value id document below small =
    value_of (insert_statement id document)
    (some_then (some_word keywords.Insert)
    (some_then (some_word keywords.Into)
    (some_then (some_name (codes "t") index_name)
    (some_then (some_enclosed (some_then (some_name (codes "id") id_name) (some_then some_comma (some_then (some_name (codes "title") title_name) (some_then some_comma (some_name (codes "gid") gid_name))))))
    (some_then (some_word keywords.Values)
    (some_enclosed (some_then (some_whole id below) (some_then some_comma (some_then (some_text (title_of document) (title_utf8 document small)) (some_then some_comma (some_whole document.gid small.group)))))))))))

-- the tokens of a SELECT of this form
select_value : (cond : Cond) (second : ℕ) (options : List SelectOption) → second < 2 ^ 64 → Some_of (IsCond cond) → Some_of (AreGiven AreOptions options)
    → IsValue (statements.Select (selecting cond (record { first = 0; second = Some second }) options))
select_value cond second options below some given =
    value_of (statements.Select (selecting cond (record { first = 0; second = Some second }) options))
    (some_then (some_word keywords.Select)
    (some_then (some_then (some_name (codes "id") id_name) some_absent)
    (some_then (some_word keywords.From)
    (some_then (some_name (codes "t") index_name)
    (some_then (some_then (some_word keywords.Where) some)
    (some_then some_absent
    (some_then some_absent
    (some_then some_absent
    (some_then some_absent
    (some_then (some_then (some_word keywords.Limit) (some_then (some_number 0 (omega arith)) (some_then some_comma (some_number second below))))
    (some_then given some_absent)))))))))))

-- OPTION max_matches = 100000
option_given : Some_of (AreGiven AreOptions (record { name = codes "max_matches"; value = values.Number 100000 } ∷ []))
option_given =
    some_then (some_word keywords.Option) (some_then (some_name (codes "max_matches") option_name) (some_then (some_sign signs.Equal) (some_number 100000 (omega arith))))

match_value : (query : List ℕ) → IsUtf8 query → IsValue (statements.Select (matching query))
match_value query utf8 =
    select_value (conds.Match query) 100000 (record { name = codes "max_matches"; value = values.Number 100000 } ∷ []) (omega arith)
    (some_then (some_word keywords.Match) (some_enclosed (some_text query utf8))) option_given

pub count_value : (count : Count) (n : ℕ) → n < 50 → IsValue (count_statement count n)
count_value Words n below = match_value (query_of Words n) (query_utf8 Words n below)
count_value Pairs n below = match_value (query_of Pairs n) (query_utf8 Pairs n below)
count_value Groups n below =
    select_value (conds.Compare (codes "gid") comparisons.Equal (pos n)) 1 [] (omega arith)
    (some_then (some_name (codes "gid") gid_name) (some_then (some_sign signs.Equal) (some_whole n (omega arith)))) some_absent

pub begin_value : IsValue statements.Begin
begin_value = value_of statements.Begin (some_word keywords.Begin)

pub commit_value : IsValue statements.Commit
commit_value = value_of statements.Commit (some_word keywords.Commit)

pub flush_value : IsValue (statements.FlushRamchunk (codes "t"))
flush_value = value_of (statements.FlushRamchunk (codes "t")) (some_then (some_word keywords.Flush) (some_then (some_word keywords.RamChunk) (some_name (codes "t") index_name)))

pub optimize_value : IsValue (statements.OptimizeIndex (codes "t"))
optimize_value = value_of (statements.OptimizeIndex (codes "t")) (some_then (some_then (some_word keywords.Optimize) (some_word keywords.Index)) (some_name (codes "t") index_name))

-- What is read of a statement's canonical text.

-- what the law on canonical texts says
abbrev pub AllRead : Type 0
AllRead = (statement : Statement) → IsValue statement → ReadsAs (canonical_text statement) statement

pub states_one : AllRead → (statement : Statement) → IsValue statement → States (canonical_text statement) (statement ∷ [])
states_one law statement value =
    let read : ReadsAs (canonical_text statement) statement = law statement value in
    (read.tokens, read.are, read.is, omega arith)

pub drawn_small : (x : ℕ) → IsSmall (document_from x)
drawn_small x = record { first = omega arith; second = omega arith; third = omega arith; fourth = omega arith; group = omega arith }
