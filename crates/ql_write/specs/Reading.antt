-- What it is for a text to be read as a statement.
use Rattle.std.specs.Prelude.{List, [], ◌∷◌, ℕ, All}
use Rattle.ql_lex.specs.Shapes.{IsLexeme}
use Rattle.ql_lex.specs.Tokens.{Lexeme, AreTokens}
use Rattle.ql_tree.specs.declared.statement.Statement.{Statement}
use Rattle.ql_grammar.specs.Packets.{IsPacket}
use Rattle.ql_grammar.specs.Statements.{IsStatement}

-- The statement is a value of the grammar, within its limits: some tokens stand for it.
pub record IsValue (statement : Statement) : Type 0 where
  pub tokens : List Lexeme
  pub each : All (λ t. IsLexeme t.kind t.text) tokens
  pub are : IsStatement statement tokens

-- The text has tokens, and they are the packet of this statement alone.
pub record ReadsAs (text : List ℕ) (statement : Statement) : Type 0 where
  pub tokens : List Lexeme
  pub are : AreTokens text tokens
  pub is : IsPacket (statement ∷ []) tokens
