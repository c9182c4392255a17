-- Keywords by their numbers.
use Rattle.std.proofs.Common.{◌≡◌, true, Option, Some, None, slice_get, refl, sym, ◌∙◌, ap}
use Rattle.std.proofs.lemmas.Bool.{eqb-true, eq-eqb}
use Rattle.ql_grammar.specs.declared.keyword.Keyword.{Keyword}
use Rattle.ql_grammar.specs.declared.keyword.Keyword.TheVariants as keywords
use Rattle.ql_grammar.specs.Keywords.{keyword_values, keyword_number, same_keyword}

numbered : (w : Keyword) → slice_get keyword_values (keyword_number w) ≡ Some w
numbered keywords.And = refl
numbered keywords.As = refl
numbered keywords.Asc = refl
numbered keywords.Autocommit = refl
numbered keywords.Begin = refl
numbered keywords.Between = refl
numbered keywords.By = refl
numbered keywords.Commit = refl
numbered keywords.Count = refl
numbered keywords.Database = refl
numbered keywords.Databases = refl
numbered keywords.Delete = refl
numbered keywords.Desc = refl
numbered keywords.Describe = refl
numbered keywords.Distinct = refl
numbered keywords.Facet = refl
numbered keywords.Flush = refl
numbered keywords.From = refl
numbered keywords.Global = refl
numbered keywords.Group = refl
numbered keywords.GroupBy = refl
numbered keywords.Having = refl
numbered keywords.Id = refl
numbered keywords.In = refl
numbered keywords.Index = refl
numbered keywords.Insert = refl
numbered keywords.Into = refl
numbered keywords.Limit = refl
numbered keywords.Match = refl
numbered keywords.Max = refl
numbered keywords.Meta = refl
numbered keywords.Min = refl
numbered keywords.Names = refl
numbered keywords.Not = refl
numbered keywords.Null = refl
numbered keywords.Optimize = refl
numbered keywords.Option = refl
numbered keywords.Order = refl
numbered keywords.RamChunk = refl
numbered keywords.Replace = refl
numbered keywords.Rollback = refl
numbered keywords.RtIndex = refl
numbered keywords.Select = refl
numbered keywords.Session = refl
numbered keywords.Set = refl
numbered keywords.Show = refl
numbered keywords.Start = refl
numbered keywords.Status = refl
numbered keywords.Sum = refl
numbered keywords.Tables = refl
numbered keywords.Transaction = refl
numbered keywords.Truncate = refl
numbered keywords.Values = refl
numbered keywords.Variables = refl
numbered keywords.Warnings = refl
numbered keywords.Weight = refl
numbered keywords.Where = refl
numbered keywords.Within = refl

-- the value, where there is one
kept : Keyword → Option Keyword → Keyword
kept v None = v
kept v (Some w) = w

some_same : (v w : Keyword) → Some v ≡ Some w → v ≡ w
unfolding kept
some_same v w e = ap (kept v) e

-- keywords that compare as the same are the same
pub keyword_same : (v w : Keyword) → same_keyword v w ≡ true → v ≡ w
keyword_same v w e =
    some_same v w (sym (numbered v) ∙ ap (λ n. slice_get keyword_values n) (eqb-true (keyword_number v) (keyword_number w) e) ∙ numbered w)

pub same_to_itself : (v : Keyword) → same_keyword v v ≡ true
same_to_itself v = eq-eqb (keyword_number v) (keyword_number v) refl
