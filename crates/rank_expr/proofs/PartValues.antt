-- The value of an expression, by the kinds of its parts; and a word more.
use Rattle.std.proofs.Common.{◌≡◌, ◌+◌, ◌<◌, ℕ, zero, suc, List, [], ◌∷◌, Bool, true, false, Option, Some, None, refl, sym, ◌∙◌, ap, add-one, nat_eq, cond, map, take, get_or, length}
use Rattle.std.specs.Prelude.{ℤ, pos, ◌==◌, ◌||◌, if◌then◌else◌, slice_get, replicate}
use Rattle.std.specs.List.{list_any}
use Rattle.std.specs.Ordering.{int_eq}
use Rattle.std.specs.Set.{distinct_count, is_member}
use Rattle.std.proofs.lemmas.List.{take_more, map-append}
use Rattle.doc_types.specs.declared.hits.Hit.{Hit}
use Rattle.doc_types.specs.declared.hits.Hits.{Hits}
use Rattle.doc_types.specs.declared.schema.Value.{Value}
use Rattle.rankers.proofs.WordTable.{distinct_push}
use Rattle.rank_expr.specs.declared.expr.DocFactor.{DocFactor}
use Rattle.rank_expr.specs.declared.expr.Expr.{Expr}
use Rattle.rank_expr.specs.declared.expr.Expr.TheVariants as exprs
use Rattle.rank_expr.specs.declared.expr.Expr.TheVariants.{rolls-Number, rolls-Field, rolls-Document, rolls-Attr, rolls-Negative, rolls-Abs, rolls-Pair, rolls-If, rolls-Sum}
use Rattle.rank_expr.specs.declared.expr.Expr.TheOpen.{Expr-F}
use Rattle.rank_expr.specs.declared.expr.Expr.TheFolds.{fold-roll-Expr}
use Rattle.rank_expr.specs.declared.expr.FieldFactor.{FieldFactor}
use Rattle.rank_expr.specs.declared.expr.PairOp.{PairOp}
use Rattle.rank_expr.specs.declared.expr.PairOp.TheVariants as ops
use Rattle.rankers.specs.declared.ranker.Factors.{Factors}
use Rattle.rank_expr.specs.steps.Summing.{IsMemo, zero_of}
use Rattle.rank_expr.specs.ExpressionWeight.{value_step, value_of, field_value, document_value, attr_value, negative, absolute, both, chosen, sum_below, is_matched}

module _ (hits : Hits) (weights : List ℕ) (values : List Value) where
  abbrev V : Expr → Option ℕ → Option ℤ
  V e at = value_of hits weights values e at

  pub value_number : (n : ℤ) (at : Option ℕ) → V (exprs.Number n) at ≡ Some n
  unfolding value_of
  value_number n at = ap (λ (e : Expr). V e at) (sym (rolls-Number n)) ∙ ap (λ (f : Option ℕ → Option ℤ). f at) (fold-roll-Expr (Option ℕ → Option ℤ) (value_step hits weights values) (Expr-F.Number n))

  pub value_field : (factor : FieldFactor) (at : Option ℕ) → V (exprs.Field factor) at ≡ field_value hits weights factor at
  unfolding value_of
  value_field factor at = ap (λ (e : Expr). V e at) (sym (rolls-Field factor)) ∙ ap (λ (f : Option ℕ → Option ℤ). f at) (fold-roll-Expr (Option ℕ → Option ℤ) (value_step hits weights values) (Expr-F.Field factor))

  pub value_document : (factor : DocFactor) (at : Option ℕ) → V (exprs.Document factor) at ≡ Some (pos (document_value hits weights factor))
  unfolding value_of
  value_document factor at = ap (λ (e : Expr). V e at) (sym (rolls-Document factor)) ∙ ap (λ (f : Option ℕ → Option ℤ). f at) (fold-roll-Expr (Option ℕ → Option ℤ) (value_step hits weights values) (Expr-F.Document factor))

  pub value_attr : (attr : ℕ) (at : Option ℕ) → V (exprs.Attr attr) at ≡ attr_value (slice_get values attr)
  unfolding value_of
  value_attr attr at = ap (λ (e : Expr). V e at) (sym (rolls-Attr attr)) ∙ ap (λ (f : Option ℕ → Option ℤ). f at) (fold-roll-Expr (Option ℕ → Option ℤ) (value_step hits weights values) (Expr-F.Attr attr))

  pub value_negative : (a : Expr) (at : Option ℕ) → V (exprs.Negative a) at ≡ negative (V a at)
  unfolding value_of
  value_negative a at = ap (λ (e : Expr). V e at) (sym (rolls-Negative a)) ∙ ap (λ (f : Option ℕ → Option ℤ). f at) (fold-roll-Expr (Option ℕ → Option ℤ) (value_step hits weights values) (Expr-F.Negative a))

  pub value_abs : (a : Expr) (at : Option ℕ) → V (exprs.Abs a) at ≡ absolute (V a at)
  unfolding value_of
  value_abs a at = ap (λ (e : Expr). V e at) (sym (rolls-Abs a)) ∙ ap (λ (f : Option ℕ → Option ℤ). f at) (fold-roll-Expr (Option ℕ → Option ℤ) (value_step hits weights values) (Expr-F.Abs a))

  pub value_pair : (op : PairOp) (a b : Expr) (at : Option ℕ) → V (exprs.Pair op a b) at ≡ both op (V a at) (V b at)
  unfolding value_of
  value_pair op a b at = ap (λ (e : Expr). V e at) (sym (rolls-Pair op a b)) ∙ ap (λ (f : Option ℕ → Option ℤ). f at) (fold-roll-Expr (Option ℕ → Option ℤ) (value_step hits weights values) (Expr-F.Pair op a b))

  pub value_if : (a b c : Expr) (at : Option ℕ) → V (exprs.If a b c) at ≡ chosen (V a at) (V b at) (V c at)
  unfolding value_of
  value_if a b c at = ap (λ (e : Expr). V e at) (sym (rolls-If a b c)) ∙ ap (λ (f : Option ℕ → Option ℤ). f at) (fold-roll-Expr (Option ℕ → Option ℤ) (value_step hits weights values) (Expr-F.If a b c))

  pub value_sum : (a : Expr) (at : Option ℕ) → V (exprs.Sum a) at ≡ sum_below (is_matched hits) (λ field. V a (Some field)) (length weights)
  unfolding value_of
  value_sum a at = ap (λ (e : Expr). V e at) (sym (rolls-Sum a)) ∙ ap (λ (f : Option ℕ → Option ℤ). f at) (fold-roll-Expr (Option ℕ → Option ℤ) (value_step hits weights values) (Expr-F.Sum a))

-- one field more
pub sum_more : (matched : ℕ → Bool) (value : ℕ → Option ℤ) (field : ℕ) → matched field ≡ true → sum_below matched value (field + 1) ≡ both ops.Add (sum_below matched value field) (value field)
unfolding sum_below
sum_more matched value field e = ap (λ k. sum_below matched value k) (add-one field) ∙ ap (λ b. if b then both ops.Add (sum_below matched value field) (value field) else sum_below matched value field) e

pub sum_same : (matched : ℕ → Bool) (value : ℕ → Option ℤ) (field : ℕ) → matched field ≡ false → sum_below matched value (field + 1) ≡ sum_below matched value field
unfolding sum_below
sum_same matched value field e = ap (λ k. sum_below matched value k) (add-one field) ∙ ap (λ b. if b then both ops.Add (sum_below matched value field) (value field) else sum_below matched value field) e

pub sum_none : (matched : ℕ → Bool) (value : ℕ → Option ℤ) → Some (pos 0) ≡ sum_below matched value 0
unfolding sum_below
sum_none matched value = refl

-- ---- words

abbrev word : Hit → ℕ
word hit = hit.word

met_before : (n : ℕ) (hits : List Hit) → is_member nat_eq (map word hits) n ≡ list_any (λ hit. n == hit.word) hits
met_before n [] = refl
met_before n (hit ∷ hits) = ap (λ b. nat_eq n hit.word || b) (met_before n hits)

pub words_more : (hits : List Hit) (i : ℕ) (d : Hit) (met : Bool) → i < length hits → met ≡ list_any (λ hit. (get_or hits i d).word == hit.word) (take i hits) → distinct_count nat_eq (map word (take (i + 1) hits)) ≡ distinct_count nat_eq (map word (take i hits)) + cond met 0 1
words_more hits i d met within is =
    ap (λ u. distinct_count nat_eq (map word u)) (take_more hits i d within)
    ∙ ap (distinct_count nat_eq) (map-append word (take i hits) (get_or hits i d ∷ []))
    ∙ distinct_push (map word (take i hits)) (get_or hits i d).word
    ∙ ap (λ b. distinct_count nat_eq (map word (take i hits)) + cond b 0 1) (met_before (get_or hits i d).word (take i hits) ∙ sym is)

-- ---- what is kept

abbrev nothing : Option Factors
nothing = None

none_kept : (n field : ℕ) (factors : Factors) → slice_get (replicate n nothing) field ≡ Some (Some factors) → ⊥
none_kept zero field factors e = cc
none_kept (suc n) zero factors e = cc
none_kept (suc n) (suc field) factors e = none_kept n field factors e

pub nothing_kept : (hits : Hits) (n : ℕ) → IsMemo hits (replicate n nothing)
nothing_kept hits n = record { right = λ field factors e. absurd (none_kept n field factors e) }

-- ---- `if`

pub if_none : (test : Option ℤ) → None ≡ zero_of test → (a b : Option ℤ) → None ≡ chosen test a b
if_none None e a b = refl
if_none (Some x) e a b = cc

pub if_zero : (test : Option ℤ) (is_zero : Bool) → Some is_zero ≡ zero_of test → is_zero ≡ true → (a b : Option ℤ) → chosen test a b ≡ b
if_zero None is_zero e is a b = cc
if_zero (Some x) is_zero e is a b =
    let so : int_eq x (pos 0) ≡ true = cc in
    ap (λ (t : Bool). if t then b else a) so

pub if_other : (test : Option ℤ) (is_zero : Bool) → Some is_zero ≡ zero_of test → is_zero ≡ false → (a b : Option ℤ) → chosen test a b ≡ a
if_other None is_zero e is a b = cc
if_other (Some x) is_zero e is a b =
    let so : int_eq x (pos 0) ≡ false = cc in
    ap (λ (t : Bool). if t then b else a) so
