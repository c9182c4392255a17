-- The weight that a ranking expression gives a document: its value, where that is there and fits.
use Rattle.std.specs.Prelude.{ℕ, zero, suc, ◌^◌, Bool, true, false, not, ◌==◌, nat_lt, List, length, Option, Some, None, if◌then◌else◌, slice_get, slice_index, ℤ, pos, negsuc, ◌+ℤ◌, ◌-ℤ◌, ◌*ℤ◌, neg_ℤ, int_lt}
use Rattle.std.specs.Int.{int_min, int_max}
use Rattle.std.specs.List.{list_any}
use Rattle.std.specs.Ordering.{int_eq}
use Rattle.doc_types.specs.declared.hits.Hits.{Hits}
use Rattle.doc_types.specs.declared.schema.Value.{Value}
use Rattle.doc_types.specs.declared.schema.Value.TheVariants as kinds
use Rattle.rankers.specs.Weight.{in_field, hit_count, word_count, lcs, max_lcs, over_matched}
use Rattle.rankers.specs.Factors.{min_hit_pos}
use Rattle.rank_expr.specs.declared.expr.DocFactor.{DocFactor}
use Rattle.rank_expr.specs.declared.expr.DocFactor.TheVariants as document
use Rattle.rank_expr.specs.declared.expr.Expr.{Expr}
use Rattle.rank_expr.specs.declared.expr.Expr.TheOpen.{Expr-F}
use Rattle.rank_expr.specs.declared.expr.Expr.TheFolds.{fold-Expr}
use Rattle.rank_expr.specs.declared.expr.FieldFactor.{FieldFactor}
use Rattle.rank_expr.specs.declared.expr.FieldFactor.TheVariants as fields
use Rattle.rank_expr.specs.declared.expr.PairOp.{PairOp}
use Rattle.rank_expr.specs.declared.expr.PairOp.TheVariants as ops

-- the number, where it is from -2^127 to 2^127 - 1
abbrev pub within : ℤ → Option ℤ
within (pos n) = if nat_lt n (2 ^ 127) then Some (pos n) else None
within (negsuc n) = if nat_lt n (2 ^ 127) then Some (negsuc n) else None

abbrev pub flag : Bool → ℤ
flag true = pos 1
flag false = pos 0

-- what is made of two values
abbrev pub paired : PairOp → ℤ → ℤ → Option ℤ
paired ops.Add x y = within (x +ℤ y)
paired ops.Subtract x y = within (x -ℤ y)
paired ops.Multiply x y = within (x *ℤ y)
paired ops.Min x y = Some (int_min x y)
paired ops.Max x y = Some (int_max x y)
paired ops.Less x y = Some (flag (int_lt x y))
paired ops.Greater x y = Some (flag (int_lt y x))
paired ops.AtMost x y = Some (flag (not (int_lt y x)))
paired ops.AtLeast x y = Some (flag (not (int_lt x y)))
paired ops.Equal x y = Some (flag (int_eq x y))
paired ops.NotEqual x y = Some (flag (not (int_eq x y)))

-- both values are looked at
abbrev pub both : PairOp → Option ℤ → Option ℤ → Option ℤ
both op None y = None
both op (Some x) None = None
both op (Some x) (Some y) = paired op x y

abbrev pub negative : Option ℤ → Option ℤ
negative None = None
negative (Some x) = within (neg_ℤ x)

abbrev pub absolute : Option ℤ → Option ℤ
absolute None = None
absolute (Some (pos n)) = Some (pos n)
absolute (Some (negsuc n)) = within (neg_ℤ (negsuc n))

-- `if` looks at one of its other two parts
abbrev pub chosen : Option ℤ → Option ℤ → Option ℤ → Option ℤ
chosen None a b = None
chosen (Some x) a b = if int_eq x (pos 0) then b else a

-- what a field gives
abbrev pub factor_of : Hits → List ℕ → FieldFactor → ℕ → ℕ
factor_of hits weights fields.Lcs field = lcs (in_field field hits.list)
factor_of hits weights fields.HitCount field = hit_count (in_field field hits.list)
factor_of hits weights fields.WordCount field = word_count (in_field field hits.list)
factor_of hits weights fields.UserWeight field = slice_index weights field
factor_of hits weights fields.MinHitPos field = min_hit_pos (in_field field hits.list)

-- it has a value inside of a `sum`, which goes over fields
abbrev pub field_value : Hits → List ℕ → FieldFactor → Option ℕ → Option ℤ
field_value hits weights factor None = None
field_value hits weights factor (Some field) = Some (pos (factor_of hits weights factor field))

-- what a document gives
abbrev pub document_value : Hits → List ℕ → DocFactor → ℕ
document_value hits weights document.MaxLcs = max_lcs hits.keywords weights
document_value hits weights document.FieldMask = over_matched (λ field weight own. 2 ^ field) weights hits.list
document_value hits weights document.DocWordCount = word_count hits.list

abbrev pub whole_of : Value → ℤ
whole_of (kinds.Whole x) = x

-- the value of an attribute, where there is one
abbrev pub attr_value : Option Value → Option ℤ
attr_value None = None
attr_value (Some value) = Some (whole_of value)

-- the field has a hit
abbrev pub is_matched : Hits → ℕ → Bool
is_matched hits field = list_any (λ hit. hit.field == field) hits.list

-- the sum of what the fields below one give that have a hit, in order
unfoldable pub sum_below : (ℕ → Bool) → (ℕ → Option ℤ) → ℕ → Option ℤ
sum_below matched value zero = Some (pos 0)
sum_below matched value (suc field) = if matched field then both ops.Add (sum_below matched value field) (value field) else sum_below matched value field

-- The value of each kind of part, by the field over which a `sum` goes.
abbrev pub value_step : Hits → List ℕ → List Value → Expr-F (Option ℕ → Option ℤ) → Option ℕ → Option ℤ
value_step hits weights values (Expr-F.Number n) at = Some n
value_step hits weights values (Expr-F.Field factor) at = field_value hits weights factor at
value_step hits weights values (Expr-F.Document factor) at = Some (pos (document_value hits weights factor))
value_step hits weights values (Expr-F.Attr attr) at = attr_value (slice_get values attr)
value_step hits weights values (Expr-F.Negative a) at = negative (a at)
value_step hits weights values (Expr-F.Abs a) at = absolute (a at)
value_step hits weights values (Expr-F.Pair op a b) at = both op (a at) (b at)
value_step hits weights values (Expr-F.If test a b) at = chosen (test at) (a at) (b at)
value_step hits weights values (Expr-F.Sum a) at = sum_below (is_matched hits) (λ field. a (Some field)) (length weights)

unfoldable pub value_of : Hits → List ℕ → List Value → Expr → Option ℕ → Option ℤ
value_of hits weights values = fold-Expr (Option ℕ → Option ℤ) (value_step hits weights values)

-- a weight has 64 bits and no sign
abbrev pub weight_of : Option ℤ → Option ℕ
weight_of None = None
weight_of (Some (pos n)) = if nat_lt n (2 ^ 64) then Some n else None
weight_of (Some (negsuc n)) = None

-- The weight, where there is one: 1 for a query without a keyword.
abbrev pub weight_by : Expr → Hits → List ℕ → List Value → Option ℕ
weight_by expr hits weights values = if hits.keywords == 0 then Some 1 else weight_of (value_of hits weights values expr None)
