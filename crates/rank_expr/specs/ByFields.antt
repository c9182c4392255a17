-- Expressions that look at no more of a query's one keyword than which fields have a hit of it: not at how many hits a field has, nor
-- at where they are.
use Rattle.std.specs.Prelude.{◌≡◌, ◌≢◌, ◌≤◌, ℕ, List, Bool, true, false, ◌&&◌, All, length}
use Rattle.doc_types.specs.declared.hits.Hits.{Hits}
use Rattle.rankers.specs.Fields.{AreFieldsOf, AreOfOne}
use Rattle.rankers.specs.Weight.{AreRanked}
use Rattle.rankers.specs.declared.ranker.TheConstants.{MAX_FIELD_WEIGHT}
use Rattle.rank_expr.specs.declared.expr.DocFactor.{DocFactor}
use Rattle.rank_expr.specs.declared.expr.DocFactor.TheVariants as document
use Rattle.rank_expr.specs.declared.expr.Expr.{Expr}
use Rattle.rank_expr.specs.declared.expr.Expr.TheOpen.{Expr-F}
use Rattle.rank_expr.specs.declared.expr.Expr.TheFolds.{fold-Expr}
use Rattle.rank_expr.specs.declared.expr.FieldFactor.{FieldFactor}
use Rattle.rank_expr.specs.declared.expr.FieldFactor.TheVariants as fields

abbrev pub factor_by_fields : FieldFactor → Bool
factor_by_fields fields.Lcs = true
factor_by_fields fields.HitCount = false
factor_by_fields fields.WordCount = true
factor_by_fields fields.UserWeight = true
factor_by_fields fields.MinHitPos = false

abbrev pub document_by_fields : DocFactor → Bool
document_by_fields document.MaxLcs = true
document_by_fields document.FieldMask = true
document_by_fields document.DocWordCount = false

-- each part of it looks at no more
abbrev pub by_fields_step : Expr-F Bool → Bool
by_fields_step (Expr-F.Number n) = true
by_fields_step (Expr-F.Field factor) = factor_by_fields factor
by_fields_step (Expr-F.Document factor) = document_by_fields factor
by_fields_step (Expr-F.Attr attr) = true
by_fields_step (Expr-F.Negative a) = a
by_fields_step (Expr-F.Abs a) = a
by_fields_step (Expr-F.Pair op a b) = a && b
by_fields_step (Expr-F.If test a b) = test && (a && b)
by_fields_step (Expr-F.Sum a) = a

unfoldable pub goes_by_fields : Expr → Bool
goes_by_fields = fold-Expr Bool by_fields_step

-- Keywords are few, and so are fields, which have weights.
pub record AreFew (count : ℕ) (weights : List ℕ) : Type 0 where
  pub keywords : count ≤ 255
  pub fields : length weights ≤ 32
  pub each_weight : All (λ weight. (1 ≤ weight) × (weight ≤ MAX_FIELD_WEIGHT)) weights

-- Hits of one keyword of a query with so many, in the fields whose bits are set.
pub record AreAlone (count fields : ℕ) (weights : List ℕ) (hits : Hits) : Type 0 where
  pub query : ℕ
  pub word : ℕ
  pub keywords : hits.keywords ≡ count
  pub some : hits.keywords ≢ 0
  pub ranked : AreRanked hits weights
  pub one : AreOfOne query word hits.list
  pub are : AreFieldsOf fields hits.list
