-- The keywords of SphinxQL.
use Rattle.std.specs.Prelude.{ℕ, List, [], ◌∷◌, Bool, true, false, Option, codes, ◌==◌}
use Rattle.std.specs.Str.{str_to_ascii_lowercase}
use Rattle.name_table.specs.NamedValues.{value_named}
use Rattle.ql_grammar.specs.declared.keyword.Keyword.{Keyword}
use Rattle.ql_grammar.specs.declared.keyword.Keyword.TheVariants as keywords

-- the words, sorted
abbrev pub keyword_words : List (List ℕ)
keyword_words =
    codes "and" ∷ codes "as" ∷ codes "asc" ∷ codes "autocommit" ∷ codes "begin" ∷ codes "between" ∷ codes "by" ∷ codes "commit" ∷ codes "count" ∷ codes "database" ∷ codes "databases" ∷ codes "delete" ∷ codes "desc" ∷ codes "describe" ∷ codes "distinct" ∷ codes "facet" ∷ codes "flush" ∷ codes "from" ∷ codes "global" ∷ codes "group" ∷ codes "groupby" ∷ codes "having" ∷ codes "id" ∷ codes "in" ∷ codes "index" ∷ codes "insert" ∷ codes "into" ∷ codes "limit" ∷ codes "match" ∷ codes "max" ∷ codes "meta" ∷ codes "min" ∷ codes "names" ∷ codes "not" ∷ codes "null" ∷ codes "optimize" ∷ codes "option" ∷ codes "order" ∷ codes "ramchunk" ∷ codes "replace" ∷ codes "rollback" ∷ codes "rtindex" ∷ codes "select" ∷ codes "session" ∷ codes "set" ∷ codes "show" ∷ codes "start" ∷ codes "status" ∷ codes "sum" ∷ codes "tables" ∷ codes "transaction" ∷ codes "truncate" ∷ codes "values" ∷ codes "variables" ∷ codes "warnings" ∷ codes "weight" ∷ codes "where" ∷ codes "within" ∷ []

-- the keywords that they are, in the same order
abbrev pub keyword_values : List Keyword
keyword_values =
    keywords.And ∷ keywords.As ∷ keywords.Asc ∷ keywords.Autocommit ∷ keywords.Begin ∷ keywords.Between ∷ keywords.By ∷ keywords.Commit ∷ keywords.Count ∷ keywords.Database ∷ keywords.Databases ∷ keywords.Delete ∷ keywords.Desc ∷ keywords.Describe ∷ keywords.Distinct ∷ keywords.Facet ∷ keywords.Flush ∷ keywords.From ∷ keywords.Global ∷ keywords.Group ∷ keywords.GroupBy ∷ keywords.Having ∷ keywords.Id ∷ keywords.In ∷ keywords.Index ∷ keywords.Insert ∷ keywords.Into ∷ keywords.Limit ∷ keywords.Match ∷ keywords.Max ∷ keywords.Meta ∷ keywords.Min ∷ keywords.Names ∷ keywords.Not ∷ keywords.Null ∷ keywords.Optimize ∷ keywords.Option ∷ keywords.Order ∷ keywords.RamChunk ∷ keywords.Replace ∷ keywords.Rollback ∷ keywords.RtIndex ∷ keywords.Select ∷ keywords.Session ∷ keywords.Set ∷ keywords.Show ∷ keywords.Start ∷ keywords.Status ∷ keywords.Sum ∷ keywords.Tables ∷ keywords.Transaction ∷ keywords.Truncate ∷ keywords.Values ∷ keywords.Variables ∷ keywords.Warnings ∷ keywords.Weight ∷ keywords.Where ∷ keywords.Within ∷ []

-- the keyword that a name is, in either case, if it is one
unfoldable pub keyword_named : List ℕ → Option Keyword
keyword_named name = value_named keyword_words keyword_values (str_to_ascii_lowercase name)

-- a reserved keyword is a name nowhere; every other keyword is one wherever the grammar has a name
abbrev pub is_reserved : Keyword → Bool
is_reserved keywords.And = true
is_reserved keywords.As = true
is_reserved keywords.Asc = true
is_reserved keywords.Between = true
is_reserved keywords.By = true
is_reserved keywords.Desc = true
is_reserved keywords.Distinct = true
is_reserved keywords.Facet = true
is_reserved keywords.From = true
is_reserved keywords.Group = true
is_reserved keywords.Having = true
is_reserved keywords.In = true
is_reserved keywords.Into = true
is_reserved keywords.Limit = true
is_reserved keywords.Match = true
is_reserved keywords.Not = true
is_reserved keywords.Null = true
is_reserved keywords.Option = true
is_reserved keywords.Order = true
is_reserved keywords.Select = true
is_reserved keywords.Values = true
is_reserved keywords.Where = true
is_reserved keywords.Within = true
is_reserved keywords.Begin = false
is_reserved keywords.Commit = false
is_reserved keywords.Count = false
is_reserved keywords.Database = false
is_reserved keywords.Databases = false
is_reserved keywords.Delete = false
is_reserved keywords.Describe = false
is_reserved keywords.Flush = false
is_reserved keywords.Global = false
is_reserved keywords.GroupBy = false
is_reserved keywords.Index = false
is_reserved keywords.Insert = false
is_reserved keywords.Max = false
is_reserved keywords.Meta = false
is_reserved keywords.Min = false
is_reserved keywords.Names = false
is_reserved keywords.Optimize = false
is_reserved keywords.RamChunk = false
is_reserved keywords.Replace = false
is_reserved keywords.Rollback = false
is_reserved keywords.RtIndex = false
is_reserved keywords.Session = false
is_reserved keywords.Set = false
is_reserved keywords.Show = false
is_reserved keywords.Start = false
is_reserved keywords.Status = false
is_reserved keywords.Sum = false
is_reserved keywords.Tables = false
is_reserved keywords.Transaction = false
is_reserved keywords.Truncate = false
is_reserved keywords.Variables = false
is_reserved keywords.Warnings = false
is_reserved keywords.Weight = false
is_reserved keywords.Autocommit = false
is_reserved keywords.Id = false

-- the place of a keyword in the list
abbrev pub keyword_number : Keyword → ℕ
keyword_number keywords.And = 0
keyword_number keywords.As = 1
keyword_number keywords.Asc = 2
keyword_number keywords.Autocommit = 3
keyword_number keywords.Begin = 4
keyword_number keywords.Between = 5
keyword_number keywords.By = 6
keyword_number keywords.Commit = 7
keyword_number keywords.Count = 8
keyword_number keywords.Database = 9
keyword_number keywords.Databases = 10
keyword_number keywords.Delete = 11
keyword_number keywords.Desc = 12
keyword_number keywords.Describe = 13
keyword_number keywords.Distinct = 14
keyword_number keywords.Facet = 15
keyword_number keywords.Flush = 16
keyword_number keywords.From = 17
keyword_number keywords.Global = 18
keyword_number keywords.Group = 19
keyword_number keywords.GroupBy = 20
keyword_number keywords.Having = 21
keyword_number keywords.Id = 22
keyword_number keywords.In = 23
keyword_number keywords.Index = 24
keyword_number keywords.Insert = 25
keyword_number keywords.Into = 26
keyword_number keywords.Limit = 27
keyword_number keywords.Match = 28
keyword_number keywords.Max = 29
keyword_number keywords.Meta = 30
keyword_number keywords.Min = 31
keyword_number keywords.Names = 32
keyword_number keywords.Not = 33
keyword_number keywords.Null = 34
keyword_number keywords.Optimize = 35
keyword_number keywords.Option = 36
keyword_number keywords.Order = 37
keyword_number keywords.RamChunk = 38
keyword_number keywords.Replace = 39
keyword_number keywords.Rollback = 40
keyword_number keywords.RtIndex = 41
keyword_number keywords.Select = 42
keyword_number keywords.Session = 43
keyword_number keywords.Set = 44
keyword_number keywords.Show = 45
keyword_number keywords.Start = 46
keyword_number keywords.Status = 47
keyword_number keywords.Sum = 48
keyword_number keywords.Tables = 49
keyword_number keywords.Transaction = 50
keyword_number keywords.Truncate = 51
keyword_number keywords.Values = 52
keyword_number keywords.Variables = 53
keyword_number keywords.Warnings = 54
keyword_number keywords.Weight = 55
keyword_number keywords.Where = 56
keyword_number keywords.Within = 57

abbrev pub same_keyword : Keyword → Keyword → Bool
same_keyword a b = keyword_number a == keyword_number b

-- the keywords with which the forms of SET other than `name = value` begin
abbrev pub is_set_form : Keyword → Bool
is_set_form keywords.Autocommit = true
is_set_form keywords.Names = true
is_set_form _ = false

-- the keywords with which a statement begins
abbrev pub begins_statement : Keyword → Bool
begins_statement keywords.Begin = true
begins_statement keywords.Commit = true
begins_statement keywords.Delete = true
begins_statement keywords.Describe = true
begins_statement keywords.Flush = true
begins_statement keywords.Insert = true
begins_statement keywords.Optimize = true
begins_statement keywords.Replace = true
begins_statement keywords.Rollback = true
begins_statement keywords.Select = true
begins_statement keywords.Set = true
begins_statement keywords.Show = true
begins_statement keywords.Start = true
begins_statement keywords.Truncate = true
begins_statement _ = false
