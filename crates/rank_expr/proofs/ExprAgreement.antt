-- The grammar stands twice, as expressions over classes of marks and as a relation of values: at each depth the texts of the one are
-- those that have a value by the other, and marks stand for one value at most.
use Rattle.std.proofs.Common.{◌≡◌, ℕ, zero, suc, List, [], ◌++◌, Bool, true, false, Option, ◌⊎◌, inl, inr, refl, sym, subst}
use Rattle.std.specs.Prelude.{if◌then◌else◌}
use Rattle.token_grammar.specs.Language.{Re, one, nullable, ◌⨾◌, ◌∣◌}
use Rattle.token_grammar.specs.Values.{◌then◌, IsGiven, AreInRow}
use Rattle.token_grammar.proofs.Agreement.{Agree, Agrees, IsEither, agree_one, agree_seq, agree_or, agree_as, agree_after, agree_before, agree_optional, agree_row}
use Rattle.token_grammar.proofs.Beginnings.{apart_none}
use Rattle.token_grammar.proofs.Once.{Once, IsOnce, goes, once_one, once_wider, once_seq, once_as, once_after, once_before}
use Rattle.token_grammar.proofs.OnceChoices.{once_either, once_optional, once_row}
use Rattle.rank_expr.specs.declared.expr.Expr.{Expr}
use Rattle.rank_expr.specs.declared.expr.Expr.TheVariants as exprs
use Rattle.rank_expr.specs.declared.expr.PairOp.{PairOp}
use Rattle.rank_expr.specs.declared.mark.Mark.{Mark}
use Rattle.rank_expr.specs.declared.mark.Sign.{Sign}
use Rattle.rank_expr.specs.declared.mark.Sign.TheVariants as signs
use Rattle.rank_expr.specs.declared.mark.Single.{Single}
use Rattle.rank_expr.specs.declared.class.Class.{Class}
use Rattle.rank_expr.specs.declared.class.Class.TheVariants as classes
use Rattle.rank_expr.specs.Grammar.{Is, leaf_expr, IsLeaf, multiplied, IsProduct, IsAdding, added, IsTotal, compared, IsExpr, IsNegative, IsGroup, single, IsSingle, IsDouble, IsTriple, IsNested, IsOperand, IsText}
use Rattle.rank_expr.specs.steps.Classes.{class_of}
use Rattle.rank_expr.specs.steps.MarkAlphabet.{expr_marks}
use Rattle.rank_expr.specs.steps.ExprGrammar.{product_of, total_of, expr_of, negative_of, group_of, single_of, double_of, triple_of, nested_of, operand, text_of, product_goes_on, total_goes_on, expr_goes_on}
use Rattle.rank_expr.proofs.MarkSigns.{IsOf, sign_is, class_fits}

-- the values of the one relation are those of the other
record Shape {A B : Type 0} (P : A → List Mark → Type 0) (Q : B → List Mark → Type 0) : Type 0 where
  value : A → B
  there : (x : A) (u : List Mark) → P x u → Q (value x) u
  back : (y : B) (u : List Mark) → Q y u → (x : A) × P x u × (value x ≡ y)

agree_by : {A B : Type 0} {r : Re Class} {P : A → List Mark → Type 0} {Q : B → List Mark → Type 0} → Agree expr_marks r P → Shape P Q → Agree expr_marks r Q
agree_by h shape = agree_as h (λ x u p. (shape.value x, shape.there x u p)) (λ y u q. let (x, p, e) = shape.back y u q in (x, p))

once_by : {A B : Type 0} {r : Re Class} {cs : List Class} {P : A → List Mark → Type 0} {Q : B → List Mark → Type 0} → Once expr_marks r cs P → Shape P Q → Once expr_marks r cs Q
once_by h shape = once_as h shape.value shape.back

either_shape : {P Q : Expr → List Mark → Type 0} → Shape (IsEither P Q) (λ e u. P e u ⊎ Q e u)
either_shape {P} {Q} = record { value = value; there = there; back = back }
  where
    value : Expr ⊎ Expr → Expr
    value (inl e) = e
    value (inr e) = e

    there : (x : Expr ⊎ Expr) (u : List Mark) → IsEither P Q x u → P (value x) u ⊎ Q (value x) u
    there (inl e) u p = inl p
    there (inr e) u q = inr q

    back : (y : Expr) (u : List Mark) → P y u ⊎ Q y u → (x : Expr ⊎ Expr) × IsEither P Q x u × (value x ≡ y)
    back y u (inl p) = (inl y, p, refl)
    back y u (inr q) = (inr y, q, refl)

-- ---- single marks

agree_sign : (sign : Sign) → ((m : Mark) → IsOf (class_of sign) m.sign → m.sign ≡ sign) → Agrees expr_marks (one (class_of sign)) (Is sign)
agree_sign sign only = agree_one expr_marks (class_of sign) (λ _ m. m.sign ≡ sign) (λ x m h. class_fits sign m h) (λ m fit. (tt, only m (sign_is (class_of sign) m fit)))

once_sign : (sign : Sign) → IsOnce expr_marks (one (class_of sign)) [] (Is sign)
once_sign sign = once_one expr_marks (class_of sign) (λ _ m. m.sign ≡ sign) (λ x m h. class_fits sign m h) (λ x y m h k. refl)

leaf_shape : Shape (λ leaf. Is (signs.Leaf leaf)) IsLeaf
leaf_shape = record { value = leaf_expr; there = λ leaf u h. (leaf, refl, h); back = λ e u (leaf, is, h). (leaf, h, sym is) }

agree_leaf : Agree expr_marks (one classes.Leaf) IsLeaf
agree_leaf = agree_by (agree_one expr_marks classes.Leaf (λ leaf m. m.sign ≡ signs.Leaf leaf) (λ leaf m h. class_fits (signs.Leaf leaf) m h) (λ m fit. sign_is classes.Leaf m fit)) leaf_shape

once_leaf : Once expr_marks (one classes.Leaf) [] IsLeaf
once_leaf = once_by (once_one expr_marks classes.Leaf (λ leaf m. m.sign ≡ signs.Leaf leaf) (λ leaf m h. class_fits (signs.Leaf leaf) m h) (λ x y m h k. cc)) leaf_shape

agree_compare : Agree expr_marks (one classes.Compare) (λ op. Is (signs.Compare op))
agree_compare = agree_one expr_marks classes.Compare (λ op m. m.sign ≡ signs.Compare op) (λ op m h. class_fits (signs.Compare op) m h) (λ m fit. sign_is classes.Compare m fit)

once_compare : Once expr_marks (one classes.Compare) [] (λ op. Is (signs.Compare op))
once_compare = once_one expr_marks classes.Compare (λ op m. m.sign ≡ signs.Compare op) (λ op m h. class_fits (signs.Compare op) m h) (λ x y m h k. cc)

agree_call : Agree expr_marks (one classes.Single) (λ call. Is (signs.Single call))
agree_call = agree_one expr_marks classes.Single (λ call m. m.sign ≡ signs.Single call) (λ call m h. class_fits (signs.Single call) m h) (λ m fit. sign_is classes.Single m fit)

once_call : Once expr_marks (one classes.Single) [] (λ call. Is (signs.Single call))
once_call = once_one expr_marks classes.Single (λ call m. m.sign ≡ signs.Single call) (λ call m h. class_fits (signs.Single call) m h) (λ x y m h k. cc)

agree_two : Agree expr_marks (one classes.Double) (λ op. Is (signs.Double op))
agree_two = agree_one expr_marks classes.Double (λ op m. m.sign ≡ signs.Double op) (λ op m h. class_fits (signs.Double op) m h) (λ m fit. sign_is classes.Double m fit)

once_two : Once expr_marks (one classes.Double) [] (λ op. Is (signs.Double op))
once_two = once_one expr_marks classes.Double (λ op m. m.sign ≡ signs.Double op) (λ op m h. class_fits (signs.Double op) m h) (λ x y m h k. cc)

-- ---- parts of an expression

module _ (P : Expr → List Mark → Type 0) where
  product_shape : Shape (λ (x : Expr × List Expr). P x.0 then AreInRow (λ next. Is signs.Star then P next) x.1) (IsProduct P)
  product_shape = record { value = λ x. multiplied x.0 x.1; there = λ x u h. (x.0, x.1, refl, h); back = λ e u (first, rest, is, h). ((first, rest), h, sym is) }

  adding_shape : Shape (IsEither (λ e. Is signs.Plus then IsProduct P e) (λ e. Is signs.Minus then IsProduct P e)) (λ (x : Bool × Expr). IsAdding x.0 then IsProduct P x.1)
  adding_shape = record { value = value; there = there; back = back }
    where
      value : Expr ⊎ Expr → Bool × Expr
      value (inl e) = (true, e)
      value (inr e) = (false, e)

      there : (x : Expr ⊎ Expr) (u : List Mark) → IsEither (λ e. Is signs.Plus then IsProduct P e) (λ e. Is signs.Minus then IsProduct P e) x u → (IsAdding (value x).0 then IsProduct P (value x).1) u
      there (inl e) u h = h
      there (inr e) u h = h

      back : (y : Bool × Expr) (u : List Mark) → (IsAdding y.0 then IsProduct P y.1) u → (x : Expr ⊎ Expr) × IsEither (λ e. Is signs.Plus then IsProduct P e) (λ e. Is signs.Minus then IsProduct P e) x u × (value x ≡ y)
      back (true, e) u h = (inl e, h, refl)
      back (false, e) u h = (inr e, h, refl)

  total_shape : Shape (λ (x : Expr × List (Bool × Expr)). IsProduct P x.0 then AreInRow (λ next. IsAdding next.0 then IsProduct P next.1) x.1) (IsTotal P)
  total_shape = record { value = λ x. added x.0 x.1; there = λ x u h. (x.0, x.1, refl, h); back = λ e u (first, rest, is, h). ((first, rest), h, sym is) }

  expr_shape : Shape (λ (x : Expr × Option (PairOp × Expr)). IsTotal P x.0 then IsGiven (λ next. Is (signs.Compare next.0) then IsTotal P next.1) x.1) (IsExpr P)
  expr_shape = record { value = λ x. compared x.0 x.1; there = λ x u h. (x.0, x.1, refl, h); back = λ e u (first, rest, is, h). ((first, rest), h, sym is) }

  negative_shape : Shape (λ e. Is signs.Minus then P e) (IsNegative P)
  negative_shape = record { value = exprs.Negative; there = λ e u h. (e, refl, h); back = λ e u (a, is, h). (a, h, sym is) }

  single_shape : Shape (λ (x : Single × Expr). Is (signs.Single x.0) then IsExpr P x.1 then Is signs.Close) (IsSingle P)
  single_shape = record { value = λ x. single x.0 x.1; there = λ x u h. (x.0, x.1, refl, h); back = λ e u (call, a, is, h). ((call, a), h, sym is) }

  double_shape : Shape (λ (x : PairOp × (Expr × Expr)). Is (signs.Double x.0) then IsExpr P x.1.0 then Is signs.Comma then IsExpr P x.1.1 then Is signs.Close) (IsDouble P)
  double_shape = record { value = λ x. exprs.Pair x.0 x.1.0 x.1.1; there = λ x u h. (x.0, x.1.0, x.1.1, refl, h); back = λ e u (op, a, b, is, h). ((op, (a, b)), h, sym is) }

  triple_shape : Shape (λ (x : Expr × (Expr × Expr)). Is signs.Triple then IsExpr P x.0 then Is signs.Comma then IsExpr P x.1.0 then Is signs.Comma then IsExpr P x.1.1 then Is signs.Close) (IsTriple P)
  triple_shape = record { value = λ x. exprs.If x.0 x.1.0 x.1.1; there = λ x u h. (x.0, x.1.0, x.1.1, refl, h); back = λ e u (a, b, c, is, h). ((a, (b, c)), h, sym is) }

-- ---- the two grammars agree

module _ (P : Expr → List Mark → Type 0) (o : Re Class) (operands : Agree expr_marks o P) where
  agree_product : Agree expr_marks (product_of o) (IsProduct P)
  agree_product = agree_by (agree_seq operands (agree_row (agree_after (agree_sign signs.Star (λ m h. h)) operands))) (product_shape P)

  agree_total : Agree expr_marks (total_of o) (IsTotal P)
  agree_total =
      agree_by (agree_seq agree_product (agree_row (agree_by (agree_or (agree_after (agree_sign signs.Plus (λ m h. h)) agree_product) (agree_after (agree_sign signs.Minus (λ m h. h)) agree_product)) (adding_shape P)))) (total_shape P)

  agree_expr : Agree expr_marks (expr_of o) (IsExpr P)
  agree_expr = agree_by (agree_seq agree_total (agree_optional (agree_seq agree_compare agree_total))) (expr_shape P)

  agree_closed : Agree expr_marks (expr_of o ⨾ one classes.Close) (λ e. IsExpr P e then Is signs.Close)
  agree_closed = agree_before agree_expr (agree_sign signs.Close (λ m h. h))

  agree_negative : Agree expr_marks (negative_of o) (IsNegative P)
  agree_negative = agree_by (agree_after (agree_sign signs.Minus (λ m h. h)) operands) (negative_shape P)

  agree_group : Agree expr_marks (group_of o) (IsGroup P)
  agree_group = agree_after (agree_sign signs.Open (λ m h. h)) agree_closed

  agree_single : Agree expr_marks (single_of o) (IsSingle P)
  agree_single = agree_by (agree_seq agree_call agree_closed) (single_shape P)

  agree_double : Agree expr_marks (double_of o) (IsDouble P)
  agree_double = agree_by (agree_seq agree_two (agree_seq agree_expr (agree_after (agree_sign signs.Comma (λ m h. h)) agree_closed))) (double_shape P)

  agree_triple : Agree expr_marks (triple_of o) (IsTriple P)
  agree_triple =
      agree_by (agree_after (agree_sign signs.Triple (λ m h. h)) (agree_seq agree_expr (agree_after (agree_sign signs.Comma (λ m h. h)) (agree_seq agree_expr (agree_after (agree_sign signs.Comma (λ m h. h)) agree_closed))))) (triple_shape P)

  agree_nested : Agree expr_marks (nested_of o) (IsNested P)
  agree_nested =
      agree_by (agree_or agree_negative (agree_by (agree_or agree_group (agree_by (agree_or agree_single (agree_by (agree_or agree_double agree_triple) either_shape)) either_shape)) either_shape)) either_shape

agree_operand : (depth : ℕ) → Agree expr_marks (operand depth) (IsOperand depth)
unfolding operand IsOperand
agree_operand zero = agree_leaf
agree_operand (suc depth) = agree_by (agree_or agree_leaf (agree_nested (IsOperand depth) (operand depth) (agree_operand depth))) either_shape

pub agree_text : Agree expr_marks (text_of (operand 32)) IsText
agree_text = agree_before (agree_expr (IsOperand 32) (operand 32) (agree_operand 32)) (agree_sign signs.End (λ m h. h))

-- ---- one value

goes_empty : (r : Re Class) (ds : List Class) → goes [] r ds ≡ ds
goes_empty r ds = by (nullable r)
  where
    by : (b : Bool) → (if b then [] ++ ds else ds) ≡ ds
    by true = refl
    by false = refl

-- a mark, and then a part
once_then : {A : Type 0} {c : Class} {r : Re Class} {ds : List Class} {S : List Mark → Type 0} {Q : A → List Mark → Type 0} → IsOnce expr_marks (one c) [] S → Once expr_marks r ds Q → Once expr_marks (one c ⨾ r) ds (λ x. S then Q x)
once_then {A} {c} {r} {ds} {S} {Q} first h = subst (λ (cs : List Class). Once expr_marks (one c ⨾ r) cs (λ x. S then Q x)) (goes_empty r ds) (once_after first h (apart_none expr_marks r))

once_pair : {A B : Type 0} {c : Class} {r : Re Class} {ds : List Class} {P : A → List Mark → Type 0} {Q : B → List Mark → Type 0} → Once expr_marks (one c) [] P → Once expr_marks r ds Q → Once expr_marks (one c ⨾ r) ds (λ (x : A × B). P x.0 then Q x.1)
once_pair {A} {B} {c} {r} {ds} {P} {Q} first h = subst (λ (cs : List Class). Once expr_marks (one c ⨾ r) cs (λ (x : A × B). P x.0 then Q x.1)) (goes_empty r ds) (once_seq first h (apart_none expr_marks r))

module _ (P : Expr → List Mark → Type 0) (o : Re Class) (operands : Once expr_marks o [] P) where
  once_product : Once expr_marks (product_of o) product_goes_on (IsProduct P)
  once_product = once_wider (once_by (once_seq operands (once_row (once_then (once_sign signs.Star) operands) refl refl) refl) (product_shape P)) refl

  once_adding : Once expr_marks (one classes.Plus ⨾ product_of o ∣ one classes.Minus ⨾ product_of o) product_goes_on (λ (x : Bool × Expr). IsAdding x.0 then IsProduct P x.1)
  once_adding = once_wider (once_by (once_either (once_then (once_sign signs.Plus) once_product) (once_then (once_sign signs.Minus) once_product) refl refl refl) (adding_shape P)) refl

  once_total : Once expr_marks (total_of o) total_goes_on (IsTotal P)
  once_total = once_wider (once_by (once_seq once_product (once_row once_adding refl refl) refl) (total_shape P)) refl

  once_expr : Once expr_marks (expr_of o) expr_goes_on (IsExpr P)
  once_expr = once_wider (once_by (once_seq once_total (once_optional (once_pair once_compare once_total) refl) refl) (expr_shape P)) refl

  once_closed : Once expr_marks (expr_of o ⨾ one classes.Close) [] (λ e. IsExpr P e then Is signs.Close)
  once_closed = once_before once_expr (once_sign signs.Close) refl

  once_negative : Once expr_marks (negative_of o) [] (IsNegative P)
  once_negative = once_by (once_then (once_sign signs.Minus) operands) (negative_shape P)

  once_group : Once expr_marks (group_of o) [] (IsGroup P)
  once_group = once_then (once_sign signs.Open) once_closed

  once_single : Once expr_marks (single_of o) [] (IsSingle P)
  once_single = once_by (once_pair once_call once_closed) (single_shape P)

  once_double : Once expr_marks (double_of o) [] (IsDouble P)
  once_double = once_by (once_pair once_two (once_seq once_expr (once_then (once_sign signs.Comma) once_closed) refl)) (double_shape P)

  once_triple : Once expr_marks (triple_of o) [] (IsTriple P)
  once_triple = once_by (once_then (once_sign signs.Triple) (once_seq once_expr (once_then (once_sign signs.Comma) (once_seq once_expr (once_then (once_sign signs.Comma) once_closed) refl)) refl)) (triple_shape P)

  once_nested : Once expr_marks (nested_of o) [] (IsNested P)
  once_nested =
      once_by (once_either once_negative (once_by (once_either once_group (once_by (once_either once_single (once_by (once_either once_double once_triple refl refl refl) either_shape) refl refl refl) either_shape) refl refl refl) either_shape) refl refl refl) either_shape

once_operand : (depth : ℕ) → Once expr_marks (operand depth) [] (IsOperand depth)
unfolding operand IsOperand
once_operand zero = once_leaf
once_operand (suc depth) = once_by (once_either once_leaf (once_nested (IsOperand depth) (operand depth) (once_operand depth)) refl refl refl) either_shape

pub one_text : (a b : Expr) (marks : List Mark) → IsText a marks → IsText b marks → a ≡ b
one_text a b marks h k = (whole.once a b marks marks [] [] h k refl tt tt).0
  where
    whole : Once expr_marks (text_of (operand 32)) [] IsText
    whole = once_before (once_expr (IsOperand 32) (operand 32) (once_operand 32)) (once_sign signs.End) refl
