-- A statement is read from its canonical text.
use Rattle.std.proofs.Common.{◌≡◌, ℕ, Bool, true, false, ◌&&◌, List, [], ◌∷◌, ◌++◌, map, refl, sym, ap, subst, append_assoc, inr}
use Rattle.std.proofs.lemmas.Bool.{and_parts}
use Rattle.std.proofs.lemmas.List.Elements.{All-cons, All-nil}
use Rattle.std.specs.Prelude.{not, All}
use Rattle.ql_lex.specs.declared.token.Sign.TheVariants as signs
use Rattle.ql_lex.specs.Shapes.{is_name_byte}
use Rattle.ql_lex.specs.Spacing.{Spelling, AreSpellings, spaced, HasTokens}
use Rattle.ql_lex.specs.Tokens.{Lexeme, AreTokens, AreLexemes, end_token}
use Rattle.ql_grammar.specs.declared.keyword.Keyword.TheVariants as keywords
use Rattle.ql_tree.specs.declared.statement.Ids.{Ids}
use Rattle.ql_tree.specs.declared.statement.Ids.TheVariants as ids
use Rattle.ql_tree.specs.declared.statement.Plain.{Plain}
use Rattle.ql_tree.specs.declared.statement.Plain.TheVariants as plains
use Rattle.ql_tree.specs.declared.statement.Scope.{Scope}
use Rattle.ql_tree.specs.declared.statement.Scope.TheVariants as scopes
use Rattle.ql_tree.specs.declared.statement.SetValue.{SetValue}
use Rattle.ql_tree.specs.declared.statement.SetValue.TheVariants as settings
use Rattle.ql_tree.specs.declared.statement.Statement.{Statement}
use Rattle.ql_tree.specs.declared.statement.Statement.TheVariants as statements
use Rattle.ql_tree.specs.declared.statement.Target.{Target}
use Rattle.ql_tree.specs.declared.statement.Target.TheVariants as targets
use Rattle.ql_tree.specs.declared.statement.Val.{Val}
use Rattle.ql_tree.specs.declared.statement.Val.TheVariants as vals
use Rattle.ql_grammar.specs.Classes.{fits, is_name, is_keyword, name_but}
use Rattle.ql_grammar.specs.Packets.{IsPacket}
use Rattle.ql_grammar.specs.Parts.{IsSign, IsTargetName}
use Rattle.token_grammar.specs.Values.{AreListed}
use Rattle.ql_write.specs.Pieces.{Piece, keyword, sign, name, written, spelling, with_commas, given}
use Rattle.ql_write.specs.Reading.{IsValue, ReadsAs}
use Rattle.ql_grammar.specs.Statements.{IsVal, IsPut, AreIds, IsPlain, IsScope, IsTarget, IsSetting, AreColumns, IsRow, IsRowLimit, IsStatement}
use Rattle.ql_grammar.specs.Tokens.{kind, kind_by}
use Rattle.ql_write.specs.Canonical.{value, put_word, columns_pieces, row, ids_pieces, plain, scope, target, setting, row_limit, pieces, canonical_text}
use Rattle.ql_write.proofs.CanonicalNames.{IsNameBy, name_facts}
use Rattle.ql_write.proofs.CanonicalPieces.{AllFit, spelled_as, quoted_fits, quoted_kind, quoted_name}
use Rattle.ql_write.proofs.CanonicalParts.{Stays, AreGood, good_front, good_back, stays_then, stays_absent, stays_given, stays_with_commas, stays_one, stays_word, stays_words, stays_sign, stays_name, stays_variable, stays_number, stays_text, stays_whole, stays_enclosed, stays_parens}
use Rattle.ql_write.proofs.CanonicalSelects.{stays_select}

target_is_name : (t : Lexeme) → fits (name_but keywords.Autocommit keywords.Names) (kind t) ≡ true → is_name (kind t) ≡ true
target_is_name t e =
    let both = and_parts (is_name (kind t) && not (is_keyword keywords.Autocommit (kind t))) (not (is_keyword keywords.Names (kind t))) e in
    (and_parts (is_name (kind t)) (not (is_keyword keywords.Autocommit (kind t))) both.0).0

stays_target_name : (bytes : List ℕ) → Stays (IsTargetName bytes) (name bytes ∷ [])
stays_target_name bytes = stays_one (name bytes)
    (λ t good (e, v). quoted_fits bytes (subst (λ b. IsNameBy is_name_byte b) (sym v) (name_facts t.kind t.text good (target_is_name t e))))
    (λ t good (e, v) s is.
    (ap (fits (name_but keywords.Autocommit keywords.Names)) (quoted_kind bytes s is), quoted_name bytes s (subst (λ b. IsNameBy is_name_byte b) (sym v) (name_facts t.kind t.text good (target_is_name t e))).small is))

stays_val : (v : Val) → Stays (IsVal v) (value v)
stays_val (vals.Number z) = stays_whole z
stays_val (vals.Text bytes) = stays_text bytes

stays_put : (replace : Bool) → Stays (IsPut replace) (put_word replace)
stays_put true = stays_word keywords.Replace
stays_put false = stays_word keywords.Insert

stays_ids : (which : Ids) → Stays (AreIds which) (ids_pieces which)
stays_ids (ids.One n) = stays_then (stays_sign signs.Equal) (stays_number n)
stays_ids (ids.Several ns) = stays_then (stays_word keywords.In) (stays_enclosed (stays_with_commas stays_number ns))

stays_plain : (p : Plain) → Stays (IsPlain p) (plain p)
stays_plain (plains.Name bytes) = stays_name bytes
stays_plain (plains.Text bytes) = stays_text bytes

stays_scope : (s : Scope) → Stays (IsScope s) (scope s)
stays_scope scopes.Absent = stays_absent
stays_scope scopes.Global = stays_word keywords.Global
stays_scope scopes.Session = stays_word keywords.Session

stays_target : (t : Target) → Stays (IsTarget t) (target t)
stays_target (targets.Name bytes) = stays_target_name bytes
stays_target (targets.Var bytes) = stays_variable bytes

stays_setting : (v : SetValue) → Stays (IsSetting v) (setting v)
stays_setting (settings.Name bytes) = stays_name bytes
stays_setting (settings.Number z) = stays_whole z
stays_setting (settings.Text bytes) = stays_text bytes
stays_setting settings.Null = stays_word keywords.Null

stays_columns : (names : List (List ℕ)) → Stays (AreColumns names) (columns_pieces names)
stays_columns names = stays_enclosed (stays_with_commas stays_name names)

stays_row : (cells : List Val) → Stays (IsRow cells) (row cells)
stays_row cells = stays_enclosed (stays_with_commas stays_val cells)

stays_row_limit : (n : ℕ) → Stays (IsRowLimit n) (row_limit n)
stays_row_limit n = stays_then (stays_word keywords.Limit) (stays_number n)

pub stays_statement : (s : Statement) → Stays (IsStatement s) (pieces s)
stays_statement (statements.Select select) = stays_select select
stays_statement (statements.SelectVar bytes limit) = stays_then (stays_word keywords.Select) (stays_then (stays_variable bytes) (stays_given stays_row_limit limit))
stays_statement statements.SelectDatabase = stays_then (stays_word keywords.Select) (stays_then (stays_word keywords.Database) stays_parens)
stays_statement (statements.Insert replace index columns rows) =
    subst (λ ps. Stays (IsStatement (statements.Insert replace index columns rows)) ps)
    (sym (append_assoc (put_word replace) (keyword keywords.Into ∷ name index ∷ given columns_pieces columns) (keyword keywords.Values ∷ with_commas row rows)))
    (stays_then (stays_put replace) (stays_then (stays_word keywords.Into) (stays_then (stays_name index)
    (stays_then (stays_given stays_columns columns) (stays_then (stays_word keywords.Values) (stays_with_commas stays_row rows))))))
stays_statement (statements.Delete index which) =
    stays_then (stays_words keywords.Delete keywords.From) (stays_then (stays_name index) (stays_then (stays_words keywords.Where keywords.Id) (stays_ids which)))
stays_statement statements.Begin = stays_word keywords.Begin
stays_statement statements.StartTransaction = stays_words keywords.Start keywords.Transaction
stays_statement statements.Commit = stays_word keywords.Commit
stays_statement statements.Rollback = stays_word keywords.Rollback
stays_statement (statements.SetAutocommit n) = stays_then (stays_word keywords.Set) (stays_then (stays_word keywords.Autocommit) (stays_then (stays_sign signs.Equal) (stays_number n)))
stays_statement (statements.SetNames what) = stays_then (stays_word keywords.Set) (stays_then (stays_word keywords.Names) (stays_plain what))
stays_statement (statements.SetOther for_whom what setting_value) =
    subst (λ ps. Stays (IsStatement (statements.SetOther for_whom what setting_value)) ps)
    (sym (append_assoc (keyword keywords.Set ∷ scope for_whom) (target what) (sign signs.Equal ∷ setting setting_value)))
    (stays_then (stays_word keywords.Set) (stays_then (stays_scope for_whom) (stays_then (stays_target what) (stays_then (stays_sign signs.Equal) (stays_setting setting_value)))))
stays_statement (statements.FlushRamchunk index) = stays_then (stays_word keywords.Flush) (stays_then (stays_word keywords.RamChunk) (stays_name index))
stays_statement (statements.FlushRtindex index) = stays_then (stays_word keywords.Flush) (stays_then (stays_word keywords.RtIndex) (stays_name index))
stays_statement (statements.OptimizeIndex index) = stays_then (stays_words keywords.Optimize keywords.Index) (stays_name index)
stays_statement (statements.TruncateRtindex index) = stays_then (stays_words keywords.Truncate keywords.RtIndex) (stays_name index)
stays_statement (statements.Describe index) = stays_then (stays_word keywords.Describe) (stays_name index)
stays_statement (statements.ShowIndexStatus index) = stays_then (stays_word keywords.Show) (stays_then (stays_word keywords.Index) (stays_then (stays_name index) (stays_word keywords.Status)))
stays_statement statements.ShowMeta = stays_words keywords.Show keywords.Meta
stays_statement statements.ShowTables = stays_words keywords.Show keywords.Tables
stays_statement statements.ShowWarnings = stays_words keywords.Show keywords.Warnings
stays_statement statements.ShowVariables = stays_words keywords.Show keywords.Variables
stays_statement statements.ShowDatabases = stays_words keywords.Show keywords.Databases

-- pieces with spaces between them are spellings with spaces between them
written_spaced : (ps : List Piece) → spaced (map spelled_as ps) ≡ written ps
written_spaced [] = refl
written_spaced (p ∷ []) = refl
written_spaced (p ∷ q ∷ ps) = ap (λ v. spelling p ++ 32 ∷ v) (written_spaced (q ∷ ps))

abbrev pub SpacedLaw : Type 0
SpacedLaw = (list : List Spelling) → AreSpellings list → HasTokens (spaced list) list

-- a statement's tokens, and the end after them, are a packet
packet_of : (s : Statement) (body : List ℕ) (front : List Lexeme) → IsStatement s front → IsPacket (s ∷ []) (front ++ end_token body ∷ [])
unfolding kind_by
packet_of s body front is = (front, end_token body ∷ [], refl, is, ([], end_token body ∷ [], refl, inr refl, (end_token body, refl, refl)))

pub text_reads : SpacedLaw → (s : Statement) → IsValue s → ReadsAs (canonical_text s) s
unfolding canonical_text
text_reads law s is =
    let fit : AllFit (pieces s) = (stays_statement s).fit is.tokens is.each is.are in
    let read : HasTokens (written (pieces s)) (map spelled_as (pieces s)) = subst (λ v. HasTokens v (map spelled_as (pieces s))) (written_spaced (pieces s)) (law (map spelled_as (pieces s)) fit) in
    record {
      tokens = read.front ++ end_token (written (pieces s)) ∷ [];
      are = read.are;
      is = packet_of s (written (pieces s)) read.front ((stays_statement s).is is.tokens is.each is.are read.front read.spelled);
    }

abbrev pub OneReading : Type 0
OneReading = (text : List ℕ) (a b : List Lexeme) → AreTokens text a → AreTokens text b → a ≡ b

pub only_reading : SpacedLaw → OneReading → (s : Statement) (tokens : List Lexeme) → IsValue s → AreTokens (canonical_text s) tokens → IsPacket (s ∷ []) tokens
only_reading law one s tokens is are =
    let reads : ReadsAs (canonical_text s) s = text_reads law s is in
    subst (λ u. IsPacket (s ∷ []) u) (one (canonical_text s) reads.tokens tokens reads.are are) reads.is

-- What packets hold.

all_one : (s : Statement) → IsValue s → All IsValue (s ∷ [])
all_one s is = All-cons IsValue s [] is (All-nil IsValue)

list_values : (list : List Statement) (u : List Lexeme) → AreGood u → AreListed (IsSign signs.Semicolon) IsStatement list u → All IsValue list
list_values [] u good p = absurd p
list_values (s ∷ []) u good p = all_one s (record { tokens = u; each = good; are = p })
list_values (s ∷ r ∷ list) u good (a, bd, e, p, (b, d, f, q, rest)) =
    let whole : AreGood (a ++ bd) = subst AreGood e good in
    let behind : AreGood (b ++ d) = subst AreGood f (good_back a bd whole) in
    All-cons IsValue s (r ∷ list) (record { tokens = a; each = good_front a bd whole; are = p }) (list_values (r ∷ list) d (good_back b d behind) rest)

pub packet_values : (list : List Statement) (tokens : List Lexeme) → AreLexemes tokens → IsPacket list tokens → All IsValue list
packet_values list tokens lexemes (a, b, e, p, rest) = list_values list a (good_front a b (subst AreGood e lexemes.each)) p
