-- What the writers of a statement's parts append.
use Rattle.std.specs.Prelude.{◌≡◌, ℕ, List, [], ◌∷◌, ◌++◌, Result, Ok, Err}
use Rattle.std.specs.List.{flat_map}
use Rattle.srch_base.specs.declared.faults.NoMemory.{NoMemory}
use Rattle.ql_write.specs.declared.writing.Token.{Token}
use Rattle.ql_write.specs.declared.writing.Token.TheVariants as tokens
use Rattle.ql_grammar.specs.declared.keyword.Keyword.TheVariants as keywords
use Rattle.ql_tree.specs.declared.select.Select.{Select}
use Rattle.ql_write.specs.Pieces.{Piece, keyword, sign, name, number, text, variable, spelling, with_commas, given, given_all, in_row}
use Rattle.ql_write.specs.Canonical.{item, where_pieces, group_pieces, within_pieces, having_pieces, ordered, limit_pieces, option_pieces, facet}

-- the piece that a token of the writer is
abbrev pub piece_of : Token → Piece
piece_of (tokens.Keyword w) = keyword w
piece_of (tokens.Sign s) = sign s
piece_of (tokens.Name bytes) = name bytes.now
piece_of (tokens.Number n) = number n
piece_of (tokens.Text bytes) = text bytes.now
piece_of (tokens.Var bytes) = variable bytes.now

-- a piece, with a space after it
abbrev pub with_space : Piece → List ℕ
with_space p = spelling p ++ 32 ∷ []

abbrev pub with_spaces : List Piece → List ℕ
with_spaces ps = flat_map with_space ps

-- nothing of what stood before is lost
pub record Keeps (before after : List ℕ) : Type 0 where
  pub more : List ℕ
  pub is : after ≡ before ++ more

-- These bytes stand after what was there before; without memory, maybe a part of them.
abbrev pub Appended : List ℕ → List ℕ → Result (Unit {0}) NoMemory → List ℕ → Type 0
Appended bytes before (Ok done) after = after ≡ before ++ bytes
Appended bytes before (Err e) after = Keeps before after

-- The pieces stand after what was there before; without memory, maybe a part of them.
abbrev pub Appends : List Piece → List ℕ → Result (Unit {0}) NoMemory → List ℕ → Type 0
Appends ps before result after = Appended (with_spaces ps) before result after

-- A SELECT in three parts: its items, its index and its conditions,
abbrev pub head_pieces : Select → List Piece
head_pieces select =
    keyword keywords.Select ∷ with_commas item select.items
    ++ keyword keywords.From ∷ name select.index
    ∷ given_all where_pieces select.conds

-- what it says of groups,
abbrev pub groups_pieces : Select → List Piece
groups_pieces select =
    given group_pieces select.group
    ++ given_all within_pieces select.within
    ++ given having_pieces select.having

-- and what stands after them.
abbrev pub tail_pieces : Select → List Piece
tail_pieces select =
    given_all ordered select.order
    ++ given limit_pieces select.limit
    ++ given_all option_pieces select.options
    ++ in_row facet select.facets
