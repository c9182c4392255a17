-- The statements of a selftest. Each is sent to a session as its canonical text.
use Rattle.std.specs.Prelude.{ℕ, ◌+◌, ◌%◌, pos, List, [], ◌∷◌, ◌++◌, false, Option, Some, None, codes, decimal, slice_index}
use Rattle.ql_tree.specs.declared.select.Comparison.TheVariants as comparisons
use Rattle.ql_tree.specs.declared.select.Cond.{Cond}
use Rattle.ql_tree.specs.declared.select.Cond.TheVariants as conds
use Rattle.ql_tree.specs.declared.select.LimitPart.{LimitPart}
use Rattle.ql_tree.specs.declared.select.OptionValue.TheVariants as values
use Rattle.ql_tree.specs.declared.select.Select.{Select}
use Rattle.ql_tree.specs.declared.select.SelectExpr.TheVariants as exprs
use Rattle.ql_tree.specs.declared.select.SelectItem.TheVariants as items
use Rattle.ql_tree.specs.declared.select.SelectOption.{SelectOption}
use Rattle.ql_tree.specs.declared.statement.Statement.{Statement}
use Rattle.ql_tree.specs.declared.statement.Statement.TheVariants as statements
use Rattle.ql_tree.specs.declared.statement.Val.TheVariants as vals
use Rattle.self_test.specs.declared.generator.Document.{Document}
use Rattle.self_test.specs.declared.summary.Count.{Count}
use Rattle.self_test.specs.declared.summary.Count.TheVariants.{Words, Pairs, Groups}

-- a word, and what a document has for its title
abbrev pub word_of : ℕ → List ℕ
word_of number = codes "w" ++ decimal number

abbrev pub title_of : Document → List ℕ
title_of document =
    word_of (slice_index document.title 0) ++ codes " " ++ word_of (slice_index document.title 1) ++ codes " " ++ word_of (slice_index document.title 2)
    ++ codes " " ++ word_of (slice_index document.title 3)

-- the INSERT of a document with this id
abbrev pub insert_statement : ℕ → Document → Statement
insert_statement id document =
    statements.Insert false (codes "t") (Some (codes "id" ∷ codes "title" ∷ codes "gid" ∷ []))
    ((vals.Number (pos id) ∷ vals.Text (title_of document) ∷ vals.Number (pos document.gid) ∷ []) ∷ [])

-- a SELECT of ids from the index, under a condition
abbrev pub selecting : Cond → LimitPart → List SelectOption → Select
selecting cond limit options = record {
  items = items.One (exprs.Column (codes "id")) None ∷ [];
  index = codes "t";
  conds = cond ∷ [];
  group = None;
  within = [];
  having = None;
  order = [];
  limit = Some limit;
  options = options;
  facets = [];
}

-- the SELECT of all documents that a query finds, at most 100,000
abbrev pub matching : List ℕ → Select
matching query = selecting (conds.Match query) (record { first = 0; second = Some 100000 }) (record { name = codes "max_matches"; value = values.Number 100000 } ∷ [])

-- the query of the word or the phrase with this number
abbrev pub query_of : Count → ℕ → List ℕ
query_of Words number = word_of number
query_of Pairs number = codes "\"" ++ word_of number ++ codes " " ++ word_of ((number + 1) % 50) ++ codes "\""
query_of Groups number = []

-- the SELECT whose rows are what is counted of the word, the phrase or the group with this number
abbrev pub count_select : Count → ℕ → Select
count_select Words number = matching (query_of Words number)
count_select Pairs number = matching (query_of Pairs number)
count_select Groups number = selecting (conds.Compare (codes "gid") comparisons.Equal (pos number)) (record { first = 0; second = Some 1 }) []

-- the same as a statement
abbrev pub count_statement : Count → ℕ → Statement
count_statement count number = statements.Select (count_select count number)
