-- What the reader of a packet makes of the tokens.
use Rattle.std.specs.Prelude.{◌≡◌, ◌≤◌, ◌+◌, ℕ, suc, List, ◌++◌, Bool, true, false, length, Option, Some, None, Result, Ok, Err}
use Rattle.srch_base.specs.declared.faults.Or.{Or}
use Rattle.srch_base.specs.declared.faults.Or.TheVariants.{NoMemory, Fault}
use Rattle.ql_lex.specs.declared.token.Sign.TheVariants as signs
use Rattle.ql_lex.specs.Tokens.{Lexeme}
use Rattle.ql_grammar.specs.declared.fault.ParseFault.{ParseFault}
use Rattle.ql_grammar.specs.declared.fault.ParseKind.TheVariants.{Syntax}
use Rattle.ql_tree.specs.declared.statement.TheConstants.{MAX_STATEMENTS}
use Rattle.ql_tree.specs.declared.statement.Statement.{Statement}
use Rattle.ql_grammar.specs.steps.Grammar.{more_statements, packet}
use Rattle.token_grammar.specs.Language.{verdict}
use Rattle.token_grammar.specs.Reading.{first_place}
use Rattle.ql_grammar.specs.Packets.{IsPacket}
use Rattle.ql_grammar.specs.Parts.{IsSign}
use Rattle.token_grammar.specs.Values.{AreListed}
use Rattle.ql_read.specs.steps.Progress.{IsStart}
use Rattle.ql_grammar.specs.Statements.{IsStatement}
use Rattle.ql_grammar.specs.Alphabet.{sphinxql}

-- The tokens leave the packets at this place, however many statements more than are allowed these may have.
pub record LeavesPackets (tokens : List Lexeme) (place : ℕ) : Type 0 where
  pub rest : List Lexeme
  pub place_is : place ≡ first_place sphinxql rest
  pub leaves : (more : ℕ) → MAX_STATEMENTS ≤ more + 1 → verdict sphinxql (packet more) tokens ≡ Some rest

-- As many statements as are allowed have been read, a `;` after each, and one more begins.
pub record IsTooLong (tokens now : List Lexeme) : Type 0 where
  pub list : List Statement
  pub count : length list ≡ MAX_STATEMENTS
  pub used : List Lexeme
  pub semicolon : List Lexeme
  pub is : tokens ≡ (used ++ semicolon) ++ now
  pub has : AreListed (IsSign signs.Semicolon) IsStatement list used
  pub behind : IsSign signs.Semicolon semicolon
  pub starts : IsStart now true
  pub leaves : (more : ℕ) → more + 1 ≡ MAX_STATEMENTS → verdict sphinxql (packet more) tokens ≡ Some now

-- The whole list of tokens is a packet, one that is too long, or none.
abbrev pub ReadsPacket : List Lexeme → Result (Option (List Statement)) (Or ℕ) → List Lexeme → Type 0
ReadsPacket tokens (Ok (Some list)) now = IsPacket list tokens × (length list ≤ MAX_STATEMENTS)
ReadsPacket tokens (Ok None) now = IsTooLong tokens now
ReadsPacket tokens (Err error) now = (place : ℕ) → error ≡ Fault place → LeavesPackets tokens place

-- the answer of a reader whose list has these statements, by whether they are all
abbrev pub listed_in : List Statement → Result Bool (Or ℕ) → Result (Option (List Statement)) (Or ℕ)
listed_in list (Ok true) = Ok (Some list)
listed_in list (Ok false) = Ok None
listed_in list (Err error) = Err error

-- These statements have been read.
pub record StatementsRead (before : List Lexeme) (list : List Statement) (now : List Lexeme) : Type 0 where
  pub others : ℕ
  pub count : length list ≡ suc others
  pub few : length list ≤ MAX_STATEMENTS
  pub takes : (m n : ℕ) → m ≡ n + others → verdict sphinxql (packet m) before ≡ verdict sphinxql (more_statements n) now
  pub used : List Lexeme
  pub is : before ≡ used ++ now
  pub has : AreListed (IsSign signs.Semicolon) IsStatement list used

-- the fault of a syntax error's place
abbrev pub syntax_error : Or ℕ → Or ParseFault
syntax_error NoMemory = NoMemory
syntax_error (Fault place) = Fault (record { place = place; kind = Syntax })
