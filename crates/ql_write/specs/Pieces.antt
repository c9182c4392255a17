-- The one way to write a statement: its pieces, how each is spelled, and one space between them.
use Rattle.std.specs.Prelude.{ℕ, ℤ, pos, negsuc, suc, ◌==◌, ◌||◌, if◌then◌else◌, List, [], ◌∷◌, ◌++◌, Option, Some, None, codes, decimal}
use Rattle.std.specs.List.{flat_map, join_by}
use Rattle.ql_lex.specs.declared.token.Sign.{Sign}
use Rattle.ql_lex.specs.declared.token.Sign.TheVariants as signs
use Rattle.ql_grammar.specs.declared.keyword.Keyword.{Keyword}
use Rattle.ql_grammar.specs.declared.keyword.Keyword.TheVariants as keywords

-- A token of a statement, by what it stands for.
pub data Piece : Type 0 where
  keyword : Keyword → Piece
  sign : Sign → Piece
  name : List ℕ → Piece
  number : ℕ → Piece
  text : List ℕ → Piece
  -- a system variable
  variable : List ℕ → Piece

-- a keyword in capitals
abbrev pub in_capitals : Keyword → List ℕ
in_capitals keywords.And = codes "AND"
in_capitals keywords.As = codes "AS"
in_capitals keywords.Asc = codes "ASC"
in_capitals keywords.Autocommit = codes "AUTOCOMMIT"
in_capitals keywords.Begin = codes "BEGIN"
in_capitals keywords.Between = codes "BETWEEN"
in_capitals keywords.By = codes "BY"
in_capitals keywords.Commit = codes "COMMIT"
in_capitals keywords.Count = codes "COUNT"
in_capitals keywords.Database = codes "DATABASE"
in_capitals keywords.Databases = codes "DATABASES"
in_capitals keywords.Delete = codes "DELETE"
in_capitals keywords.Desc = codes "DESC"
in_capitals keywords.Describe = codes "DESCRIBE"
in_capitals keywords.Distinct = codes "DISTINCT"
in_capitals keywords.Facet = codes "FACET"
in_capitals keywords.Flush = codes "FLUSH"
in_capitals keywords.From = codes "FROM"
in_capitals keywords.Global = codes "GLOBAL"
in_capitals keywords.Group = codes "GROUP"
in_capitals keywords.GroupBy = codes "GROUPBY"
in_capitals keywords.Having = codes "HAVING"
in_capitals keywords.Id = codes "ID"
in_capitals keywords.In = codes "IN"
in_capitals keywords.Index = codes "INDEX"
in_capitals keywords.Insert = codes "INSERT"
in_capitals keywords.Into = codes "INTO"
in_capitals keywords.Limit = codes "LIMIT"
in_capitals keywords.Match = codes "MATCH"
in_capitals keywords.Max = codes "MAX"
in_capitals keywords.Meta = codes "META"
in_capitals keywords.Min = codes "MIN"
in_capitals keywords.Names = codes "NAMES"
in_capitals keywords.Not = codes "NOT"
in_capitals keywords.Null = codes "NULL"
in_capitals keywords.Optimize = codes "OPTIMIZE"
in_capitals keywords.Option = codes "OPTION"
in_capitals keywords.Order = codes "ORDER"
in_capitals keywords.RamChunk = codes "RAMCHUNK"
in_capitals keywords.Replace = codes "REPLACE"
in_capitals keywords.Rollback = codes "ROLLBACK"
in_capitals keywords.RtIndex = codes "RTINDEX"
in_capitals keywords.Select = codes "SELECT"
in_capitals keywords.Session = codes "SESSION"
in_capitals keywords.Set = codes "SET"
in_capitals keywords.Show = codes "SHOW"
in_capitals keywords.Start = codes "START"
in_capitals keywords.Status = codes "STATUS"
in_capitals keywords.Sum = codes "SUM"
in_capitals keywords.Tables = codes "TABLES"
in_capitals keywords.Transaction = codes "TRANSACTION"
in_capitals keywords.Truncate = codes "TRUNCATE"
in_capitals keywords.Values = codes "VALUES"
in_capitals keywords.Variables = codes "VARIABLES"
in_capitals keywords.Warnings = codes "WARNINGS"
in_capitals keywords.Weight = codes "WEIGHT"
in_capitals keywords.Where = codes "WHERE"
in_capitals keywords.Within = codes "WITHIN"

-- a sign; `!=` for "not equal"
abbrev pub sign_text : Sign → List ℕ
sign_text signs.OpenParen = codes "("
sign_text signs.CloseParen = codes ")"
sign_text signs.Comma = codes ","
sign_text signs.Semicolon = codes ";"
sign_text signs.Star = codes "*"
sign_text signs.Minus = codes "-"
sign_text signs.Equal = codes "="
sign_text signs.NotEqual = codes "!="
sign_text signs.Less = codes "<"
sign_text signs.Greater = codes ">"
sign_text signs.LessOrEqual = codes "<="
sign_text signs.GreaterOrEqual = codes ">="

-- `\` before each `'` and each `\`
abbrev pub escaped_byte : ℕ → List ℕ
escaped_byte b = if (b == 39) || (b == 92) then (92 ∷ b ∷ []) else (b ∷ [])

abbrev pub escaped_text : List ℕ → List ℕ
escaped_text bytes = flat_map escaped_byte bytes

-- a name between backquotes, a number in decimal digits, a text between `'`, a system variable after `@@`
abbrev pub spelling : Piece → List ℕ
spelling (keyword w) = in_capitals w
spelling (sign s) = sign_text s
spelling (name bytes) = 96 ∷ bytes ++ 96 ∷ []
spelling (number n) = decimal n
spelling (text bytes) = 39 ∷ escaped_text bytes ++ 39 ∷ []
spelling (variable bytes) = 64 ∷ 64 ∷ bytes

-- the pieces, with one space between two of them
abbrev pub written : List Piece → List ℕ
written [] = []
written (p ∷ []) = spelling p
written (p ∷ q ∷ ps) = spelling p ++ 32 ∷ written (q ∷ ps)

-- The pieces of parts that several statements have.

-- a number, after a `-` if it is negative
abbrev pub whole : ℤ → List Piece
whole (pos n) = number n ∷ []
whole (negsuc n) = sign signs.Minus ∷ number (suc n) ∷ []

-- values, with a piece between two of them
abbrev pub listed : {A : Type 0} → Piece → (A → List Piece) → List A → List Piece
listed between f xs = join_by f (between ∷ []) xs

abbrev pub with_commas : {A : Type 0} → (A → List Piece) → List A → List Piece
with_commas f xs = listed (sign signs.Comma) f xs

abbrev pub in_parentheses : List Piece → List Piece
in_parentheses ps = sign signs.OpenParen ∷ ps ++ sign signs.CloseParen ∷ []

-- nothing where there is no value
abbrev pub given : {A : Type 0} → (A → List Piece) → Option A → List Piece
given f None = []
given f (Some x) = f x

-- nothing where the list is empty
abbrev pub given_all : {A : Type 0} → (List A → List Piece) → List A → List Piece
given_all f [] = []
given_all f (x ∷ xs) = f (x ∷ xs)

-- values one after the other
abbrev pub in_row : {A : Type 0} → (A → List Piece) → List A → List Piece
in_row f xs = flat_map f xs

abbrev pub name_piece : List ℕ → List Piece
name_piece bytes = name bytes ∷ []

abbrev pub number_piece : ℕ → List Piece
number_piece n = number n ∷ []
