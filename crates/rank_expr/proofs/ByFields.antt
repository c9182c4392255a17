-- What an expression looks at, by the kinds of its parts; and what a field gives that has hits of one keyword alone.
use Rattle.std.proofs.Common.{◌≡◌, ◌≢◌, ◌+◌, ◌<◌, ℕ, List, [], ◌∷◌, Bool, true, false, refl, sym, ◌∙◌, ap, arith, nat_eq, cond, map, length}
use Rattle.std.specs.Prelude.{ℤ, ◌&&◌, ◌==◌, All, Some, None, if◌then◌else◌}
use Rattle.std.specs.Set.{distinct_count, is_member, unique_keys}
use Rattle.std.proofs.lemmas.Bool.{eq-eqb, ne_eqb, or_left}
use Rattle.std.proofs.lemmas.List.{length-map}
use Rattle.std.proofs.lemmas.List.Elements.{All-map, All-filter, All-head, All-tail}
use Rattle.doc_types.specs.declared.hits.Hit.{Hit}
use Rattle.doc_types.specs.declared.hits.Hits.{Hits}
use Rattle.doc_types.specs.declared.schema.Value.{Value}
use Rattle.rankers.specs.declared.ranker.Ranker.TheVariants as rankers
use Rattle.rankers.specs.Weight.{in_field, lcs, weight, word_count}
use Rattle.rankers.proofs.FieldValues.{some_kept}
use Rattle.rankers.proofs.LoneValues.{one_together}
use Rattle.rankers.proofs.WordTable.{longer}
use Rattle.rank_expr.specs.declared.expr.DocFactor.{DocFactor}
use Rattle.rank_expr.specs.declared.expr.DocFactor.TheVariants as document
use Rattle.rank_expr.specs.declared.expr.Expr.{Expr}
use Rattle.rank_expr.specs.declared.expr.Expr.TheVariants as exprs
use Rattle.rank_expr.specs.declared.expr.Expr.TheVariants.{rolls-Number, rolls-Field, rolls-Document, rolls-Attr, rolls-Negative, rolls-Abs, rolls-Pair, rolls-If, rolls-Sum}
use Rattle.rank_expr.specs.declared.expr.Expr.TheOpen.{Expr-F}
use Rattle.rank_expr.specs.declared.expr.Expr.TheFolds.{fold-roll-Expr}
use Rattle.rank_expr.specs.declared.expr.FieldFactor.{FieldFactor}
use Rattle.rank_expr.specs.declared.expr.PairOp.{PairOp}
use Rattle.rank_expr.specs.ByFields.{AreAlone, by_fields_step, document_by_fields, factor_by_fields, goes_by_fields}
use Rattle.rank_expr.specs.ExpressionWeight.{document_value, is_matched, value_of, weight_by, weight_of}

pub goes_number : (n : ℤ) → goes_by_fields (exprs.Number n) ≡ true
unfolding goes_by_fields
goes_number n = ap goes_by_fields (sym (rolls-Number n)) ∙ fold-roll-Expr Bool by_fields_step (Expr-F.Number n)

pub goes_field : (factor : FieldFactor) → goes_by_fields (exprs.Field factor) ≡ factor_by_fields factor
unfolding goes_by_fields
goes_field factor = ap goes_by_fields (sym (rolls-Field factor)) ∙ fold-roll-Expr Bool by_fields_step (Expr-F.Field factor)

pub goes_document : (factor : DocFactor) → goes_by_fields (exprs.Document factor) ≡ document_by_fields factor
unfolding goes_by_fields
goes_document factor = ap goes_by_fields (sym (rolls-Document factor)) ∙ fold-roll-Expr Bool by_fields_step (Expr-F.Document factor)

pub goes_attr : (attr : ℕ) → goes_by_fields (exprs.Attr attr) ≡ true
unfolding goes_by_fields
goes_attr attr = ap goes_by_fields (sym (rolls-Attr attr)) ∙ fold-roll-Expr Bool by_fields_step (Expr-F.Attr attr)

pub goes_negative : (a : Expr) → goes_by_fields (exprs.Negative a) ≡ goes_by_fields a
unfolding goes_by_fields
goes_negative a = ap goes_by_fields (sym (rolls-Negative a)) ∙ fold-roll-Expr Bool by_fields_step (Expr-F.Negative a)

pub goes_abs : (a : Expr) → goes_by_fields (exprs.Abs a) ≡ goes_by_fields a
unfolding goes_by_fields
goes_abs a = ap goes_by_fields (sym (rolls-Abs a)) ∙ fold-roll-Expr Bool by_fields_step (Expr-F.Abs a)

pub goes_pair : (op : PairOp) (a b : Expr) → goes_by_fields (exprs.Pair op a b) ≡ (goes_by_fields a && goes_by_fields b)
unfolding goes_by_fields
goes_pair op a b = ap goes_by_fields (sym (rolls-Pair op a b)) ∙ fold-roll-Expr Bool by_fields_step (Expr-F.Pair op a b)

pub goes_if : (a b c : Expr) → goes_by_fields (exprs.If a b c) ≡ (goes_by_fields a && (goes_by_fields b && goes_by_fields c))
unfolding goes_by_fields
goes_if a b c = ap goes_by_fields (sym (rolls-If a b c)) ∙ fold-roll-Expr Bool by_fields_step (Expr-F.If a b c)

pub goes_sum : (a : Expr) → goes_by_fields (exprs.Sum a) ≡ goes_by_fields a
unfolding goes_by_fields
goes_sum a = ap goes_by_fields (sym (rolls-Sum a)) ∙ fold-roll-Expr Bool by_fields_step (Expr-F.Sum a)

-- both hold, or the first doesn't
pub both_hold : (x y : Bool) → x ≡ true → y ≡ (x && y)
both_hold x y is = ap (λ b. b && y) (sym is)

pub first_fails : (x y : Bool) → x ≡ false → x ≡ (x && y)
first_fails x y is = is ∙ ap (λ b. b && y) (sym is)

-- ---- hits of one keyword

-- a word that is listed again and again is one word
one_word : (word : ℕ) (words : List ℕ) → All (λ w. w ≡ word) words → 0 < length words → distinct_count nat_eq words ≡ 1
one_word word [] all some = absurd (omega arith)
one_word word (w ∷ []) all some = refl
one_word word (w ∷ v ∷ vs) all some =
    let rest = All-tail (λ w. w ≡ word) w (v ∷ vs) all in
    let same = eq-eqb w v (All-head (λ w. w ≡ word) w (v ∷ vs) all ∙ sym (All-head (λ w. w ≡ word) v vs rest)) in
    longer (is_member nat_eq (v ∷ vs) w) w (unique_keys nat_eq (v ∷ vs))
    ∙ (ap (λ b. cond b 0 1 + distinct_count nat_eq (v ∷ vs)) (or_left (nat_eq w v) (is_member nat_eq vs w) same)
    ∙ (let is = one_word word (v ∷ vs) rest (omega arith) in omega arith))

module _ (keywords fields : ℕ) (weights : List ℕ) (hits : Hits) (alone : AreAlone keywords fields weights hits) (field : ℕ) (matched : is_matched hits field ≡ true) where
  some : 0 < length (in_field field hits.list)
  some = some_kept (λ hit. hit.field == field) hits.list matched

  pub lcs_alone : lcs (in_field field hits.list) ≡ 1
  lcs_alone = one_together field alone.query alone.word hits.list alone.ranked.apart alone.one some

  pub words_alone : word_count (in_field field hits.list) ≡ 1
  words_alone =
      one_word alone.word (map (λ (hit : Hit). hit.word) (in_field field hits.list))
      (All-map (λ w. w ≡ alone.word) (λ (hit : Hit). hit.word) (in_field field hits.list)
      (λ k d h. (All-filter (λ hit. hit.field == field) (λ hit. (hit.query ≡ alone.query) × (hit.word ≡ alone.word)) hits.list alone.one k d h).1))
      (omega (arith, length-map (in_field field hits.list) (λ (hit : Hit). hit.word), some))

-- the weight by the fields is what the document gives
pub mask_alone : (weights : List ℕ) (hits : Hits) → hits.keywords ≢ 0 → weight rankers.FieldMask hits weights ≡ document_value hits weights document.FieldMask
mask_alone weights hits some =
    ap (λ b. cond b 1 (document_value hits weights document.FieldMask)) (ne_eqb hits.keywords 0 some)

-- and the weight by an expression is that of its value
pub weight_alone : (expr : Expr) (hits : Hits) (weights : List ℕ) (values : List Value) → hits.keywords ≢ 0 → weight_of (value_of hits weights values expr None) ≡ weight_by expr hits weights values
weight_alone expr hits weights values some =
    ap (λ b. if b then Some 1 else weight_of (value_of hits weights values expr None)) (sym (ne_eqb hits.keywords 0 some))
