-- Queries without the limit on nesting, and the tables by which a written query is read back.
use Rattle.std.specs.Prelude.{◌≡◌, ◌≤◌, ℕ, List, ◌++◌, Option, Some, None, Contains, length}
use Rattle.std.specs.List.{flat_map}
use Rattle.std.specs.Str.{chars}
use Rattle.std.specs.Char.{IsScalar}
use Rattle.query_tree.specs.declared.key.Key.{Key}
use Rattle.query_marks.specs.declared.mark.Mark.{Mark}
use Rattle.query_marks.specs.declared.mark.Sign.TheVariants as signs
use Rattle.query_marks.specs.Enough.{depth_after}
use Rattle.query_tree.specs.declared.query.Node.{Node}
use Rattle.query_tree.specs.declared.query.Query.{Query}
use Rattle.query_tree.specs.TreeKeys.{query_keys}
use Rattle.query_grammar.specs.Grammar.{Is, IsOpenAnd, IsQuery}
use Rattle.query_grammar.specs.Queries.{keys_of}

-- The marks have this query as their value, with groups nested to any depth.
abbrev pub IsDeepRoot : Option Node → List Mark → Type 0
IsDeepRoot None marks = Is signs.End marks
IsDeepRoot (Some node) marks = (depth : ℕ) × IsQuery IsOpenAnd depth node marks

pub record IsDeepValue (query : Query) (marks : List Mark) : Type 0 where
  pub root : IsDeepRoot query.root marks
  pub right : (m : Mark) → Contains marks m → m.wrong ≡ None
  pub keywords : query.keywords ≡ length (flat_map (λ m. keys_of m.sign) marks)

-- nowhere are more than 32 groups open
abbrev pub IsShallow : List Mark → Type 0
IsShallow marks = (front rest : List Mark) → marks ≡ front ++ rest → depth_after 0 front ≤ 32

-- a table folds to characters
abbrev pub GivesChars : (ℕ → Option ℕ) → Type 0
GivesChars fold = (c v : ℕ) → fold c ≡ Some v → IsScalar v

-- The table keeps each character of the query's words, and has none of `"`, `\` and the space.
pub record ReadsBack (fold : ℕ → Option ℕ) (query : Query) : Type 0 where
  pub quote : fold 34 ≡ None
  pub escape : fold 92 ≡ None
  pub space : fold 32 ≡ None
  pub keeps : (key : Key) → Contains (query_keys query) key → (c : ℕ) → Contains (chars key.word) c → fold c ≡ Some c
