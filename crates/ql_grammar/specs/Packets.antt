-- Packets of statements, and where tokens are no packet.
use Rattle.std.specs.Prelude.{◌≡◌, ◌≤◌, List, [], ◌∷◌, ◌++◌, length, Result, Ok, Err, Vec}
use Rattle.srch_base.specs.declared.faults.Or.{Or}
use Rattle.srch_base.specs.declared.faults.Or.TheVariants.{NoMemory, Fault}
use Rattle.ql_lex.specs.declared.token.Sign.TheVariants as signs
use Rattle.ql_lex.specs.Tokens.{Lexeme}
use Rattle.ql_grammar.specs.declared.fault.ParseFault.{ParseFault}
use Rattle.ql_grammar.specs.declared.fault.ParseKind.{ParseKind}
use Rattle.ql_grammar.specs.declared.fault.ParseKind.TheVariants.{Syntax, TooMany}
use Rattle.ql_grammar.specs.declared.kind.Kind.TheVariants as kinds
use Rattle.ql_tree.specs.declared.statement.TheConstants.{MAX_STATEMENTS}
use Rattle.ql_tree.specs.declared.statement.Statement.{Statement}
use Rattle.ql_grammar.specs.Tokens.{kind}
use Rattle.ql_grammar.specs.Parts.{IsSign}
use Rattle.token_grammar.specs.Values.{◌then◌, IsOne, IsPerhaps, AreListed}
use Rattle.ql_grammar.specs.Statements.{IsStatement}

-- the end of a text
abbrev pub IsEnd : List Lexeme → Type 0
IsEnd = IsOne (λ t. kind t ≡ kinds.End)

-- statement (; statement)* [;]
abbrev pub IsPacket : List Statement → List Lexeme → Type 0
IsPacket list = AreListed (IsSign signs.Semicolon) IsStatement list then IsPerhaps (IsSign signs.Semicolon) then IsEnd

-- Some packet begins with these tokens, however many statements it has.
pub record BeginsLong (front : List Lexeme) : Type 0 where
  pub behind : List Lexeme
  pub list : List Statement
  pub is : IsPacket list (front ++ behind)

-- Some packet of so few statements as are allowed begins with these tokens.
pub record BeginsPacket (front : List Lexeme) : Type 0 where
  pub behind : List Lexeme
  pub list : List Statement
  pub few : length list ≤ MAX_STATEMENTS
  pub is : IsPacket list (front ++ behind)

-- A packet that is too long goes on with the tokens, or none does.
abbrev pub HasKind : ParseKind → List Lexeme → Type 0
HasKind Syntax front = BeginsLong front → ⊥
HasKind TooMany front = BeginsLong front

-- The fault stands at the first token behind the longest front of the tokens with which a packet of so few statements as
-- are allowed begins. There are too many statements where a longer packet goes on with this token.
pub record IsFault (tokens : List Lexeme) (fault : ParseFault) : Type 0 where
  pub front : List Lexeme
  pub next : Lexeme
  pub behind : List Lexeme
  pub is : tokens ≡ front ++ next ∷ behind
  pub place : fault.place ≡ next.at
  pub begins : BeginsPacket front
  pub stops : BeginsPacket (front ++ next ∷ []) → ⊥
  pub kind : HasKind fault.kind (front ++ next ∷ [])

-- The tokens are a packet of these statements, or they have the fault.
abbrev pub Parses : {M : Type 0} → List Lexeme → Result (Vec Statement M) (Or ParseFault) → Type 0
Parses tokens (Ok list) = IsPacket list.items tokens × (length list.items ≤ MAX_STATEMENTS)
Parses tokens (Err NoMemory) = Unit {0}
Parses tokens (Err (Fault fault)) = IsFault tokens fault
