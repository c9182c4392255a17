-- What the readers make of the marks before them.
use Rattle.std.proofs.Common.{◌≡◌, ℕ, zero, suc, List, [], ◌∷◌, ◌++◌, Bool, true, false, Some, None, inl, inr, refl, sym, ◌∙◌, ap, subst}
use Rattle.std.specs.Prelude.{Result, Ok, Err}
use Rattle.srch_base.specs.declared.faults.Or.{Or}
use Rattle.srch_base.specs.declared.faults.Or.TheVariants.{NoMemory, Fault}
use Rattle.token_grammar.specs.Language.{Re, one, optional, ◌⨾◌, ◌∣◌}
use Rattle.token_grammar.specs.Firsts.{may_follow}
use Rattle.token_grammar.specs.Values.{◌then◌, IsOne, IsGiven}
use Rattle.token_grammar.specs.Reading.{first_place, TakesPart, FailsPart, ReadsPart, IsNextOf, TakesIf}
use Rattle.token_grammar.proofs.Rows.{plain_seq, plain_first, plain_next, takes_seq, fails_first, fails_next, takes_as, fails_at, now_there, takes_next}
use Rattle.token_grammar.proofs.Choices.{takes_if, fails_if, takes_second, fails_second, fails_else, reads_if, reads_else, optional_if, optional_fails, optional_else}
use Rattle.token_grammar.proofs.Stops.{stop_of, value_of}
use Rattle.rank_expr.specs.declared.class.Class.{Class}
use Rattle.rank_expr.specs.declared.class.Class.TheVariants as classes
use Rattle.rank_expr.specs.declared.expr.Expr.{Expr}
use Rattle.rank_expr.specs.declared.expr.Expr.TheVariants as exprs
use Rattle.rank_expr.specs.declared.expr.PairOp.{PairOp}
use Rattle.rank_expr.specs.declared.expr.PairOp.TheVariants as ops
use Rattle.rank_expr.specs.declared.mark.Leaf.{Leaf}
use Rattle.rank_expr.specs.declared.mark.Mark.{Mark}
use Rattle.rank_expr.specs.declared.mark.Sign.{Sign}
use Rattle.rank_expr.specs.declared.mark.Sign.TheVariants as signs
use Rattle.rank_expr.specs.declared.mark.Single.{Single}
use Rattle.rank_expr.specs.Grammar.{Is, leaf_expr, multiplied, IsProduct, IsAdding, added, IsTotal, IsExpr, IsNegative, IsGroup, single, IsSingle, IsDouble, IsTriple, IsNested, IsOperand, IsText}
use Rattle.rank_expr.specs.steps.Classes.{class_of, same_class, fits, is_end, IsNextSign, IsAtEnd, IsBeforeEnd}
use Rattle.rank_expr.specs.steps.MarkAlphabet.{expr_marks}
use Rattle.rank_expr.specs.steps.ExprGrammar.{product_of, total_of, expr_of, negative_of, group_of, single_of, double_of, triple_of, nested_of, operand, text_of, product_goes_on, total_goes_on, expr_goes_on}
use Rattle.rank_expr.specs.steps.Joining.{Makes, IsFollowed, AreBoth, ReadsWhole}
use Rattle.rank_expr.proofs.MarkSigns.{IsOf, next_other, next_is, next_not, takes_sign, takes_as_sign}
use Rattle.rank_expr.proofs.ExprAgreement.{agree_text}
use Rattle.rank_expr.proofs.RowSteps.{TakesFrom, from_first, from_more, from_fails, from_done, joined_fails, over_else, over_either}

-- a reader of a part answered so
pub record Reading (r : Re Class) (cs : List Class) (Q : Expr → List Mark → Type 0) (before : List Mark) (result : Result Expr (Or ℕ)) (now : List Mark) : Type 0 where
  pub is : ReadsPart expr_marks r cs Q before result now

-- ---- readers whose answers are said in other words, or stand behind a part

pub reads_as : {r : Re Class} {cs : List Class} (Is Js : Expr → List Mark → Type 0) {before : List Mark} (now : List Mark) (result : Result Expr (Or ℕ)) → ((e : Expr) (u : List Mark) → Is e u → Js e u) → Reading r cs Is before result now → Reading r cs Js before result now
reads_as Is Js now (Ok e) f h = record { is = takes_as (f e) h.is }
reads_as Is Js now (Err e) f h = record { is = h.is }

then_reads : {c : Class} {r : Re Class} {cs : List Class} {S : List Mark → Type 0} (Q : Expr → List Mark → Type 0) {before mid : List Mark} (now : List Mark) (result : Result Expr (Or ℕ)) → TakesPart expr_marks (one c) [] S before mid → Reading r cs Q mid result now → Reading (one c ⨾ r) cs (λ e. S then Q e) before result now
then_reads Q now (Ok e) taken h = record { is = plain_seq taken h.is }
then_reads Q now (Err e) taken h = record { is = plain_next taken h.is }

seq_reads : {r s : Re Class} {cs ds : List Class} {S : List Mark → Type 0} (Q : Expr → List Mark → Type 0) {before mid : List Mark} (now : List Mark) (result : Result Expr (Or ℕ)) → TakesPart expr_marks r cs S before mid → may_follow expr_marks cs s ds ≡ true → Reading s ds Q mid result now → Reading (r ⨾ s) ds (λ e. S then Q e) before result now
seq_reads Q now (Ok e) taken follows h = record { is = takes_seq taken follows h.is }
seq_reads Q now (Err e) taken follows h = record { is = fails_next taken follows h.is }

-- what is made of a part
made : {r : Re Class} {cs : List Class} (make : Expr → Expr) (Q : Expr → List Mark → Type 0) {before : List Mark} (now : List Mark) (part result : Result Expr (Or ℕ)) → Makes make part result → Reading r cs Q before part now → Reading r cs (λ e u. (x : Expr) × (e ≡ make x) × Q x u) before result now
made {r} {cs} make Q {before} now part (Ok e) (x, was, is) h =
    let read : TakesPart expr_marks r cs (Q x) before now = subst (λ (p : Result Expr (Or ℕ)). ReadsPart expr_marks r cs Q before p now) was h.is in
    record { is = takes_as (λ u q. (x, is, q)) read }
made {r} {cs} make Q now part (Err e) m h = record { is = joined_fails expr_marks r cs Q now part m h.is }

-- ---- a mark behind a part

pub follows : {r : Re Class} {cs : List Class} (sign : Sign) (Q : Expr → List Mark → Type 0) {before mid : List Mark} (now : List Mark) (part result : Result Expr (Or ℕ)) → may_follow expr_marks cs (one (class_of sign)) [] ≡ true → Reading r cs Q before part mid → IsFollowed sign part mid result now → Reading (r ⨾ one (class_of sign)) [] (λ e. Q e then Is sign) before result now
follows sign Q now (Ok x) (Ok e) may h f = record { is = takes_as (λ u (a, b, eq, q, (is, s)). (a, b, eq, subst (λ (y : Expr). Q y a) (sym is) q, s)) (takes_seq h.is may f) }
follows sign Q now (Ok x) (Err e) may h f = record { is = fails_next h.is may f }
follows {r} {cs} sign Q {before} now (Err error) result may h f =
    let failed : Reading (r ⨾ one (class_of sign)) [] (λ e. Q e then Is sign) before (Err error) now = record { is = fails_first h.is may } in
    subst (λ (p : Result Expr (Or ℕ)). Reading (r ⨾ one (class_of sign)) [] (λ e. Q e then Is sign) before p now) (sym f) failed

-- .. with more behind it
comma_fails : {r s : Re Class} {cs : List Class} (sign : Sign) (Q : Expr → List Mark → Type 0) {before mid : List Mark} (now : List Mark) (part : Result Expr (Or ℕ)) {e : Or ℕ} → may_follow expr_marks cs (one (class_of sign) ⨾ s) [] ≡ true → Reading r cs Q before part mid → IsFollowed sign part mid (Err e) now → FailsPart expr_marks (r ⨾ one (class_of sign) ⨾ s) [] before e
comma_fails sign Q now (Ok x) may h f = fails_next h.is may (plain_first f)
comma_fails {r} {s} {cs} sign Q {before} now (Err error) {e} may h f =
    let same : error ≡ e = cc in
    subst (λ (x : Or ℕ). FailsPart expr_marks (r ⨾ one (class_of sign) ⨾ s) [] before x) same (fails_first h.is may)

comma_part : {r : Re Class} {cs : List Class} (sign : Sign) (Q : Expr → List Mark → Type 0) {before mid : List Mark} (now : List Mark) (part : Result Expr (Or ℕ)) (first : Expr) → Reading r cs Q before part mid → IsFollowed sign part mid (Ok first) now → TakesPart expr_marks r cs (Q first) before mid
comma_part {r} {cs} sign Q {before} {mid} now (Ok x) first h f = subst (λ (y : Expr). TakesPart expr_marks r cs (Q y) before mid) (sym f.has.0) h.is
comma_part sign Q now (Err error) first h f = cc

comma_mark : (sign : Sign) {mid : List Mark} (now : List Mark) (part : Result Expr (Or ℕ)) (first : Expr) → IsFollowed sign part mid (Ok first) now → TakesPart expr_marks (one (class_of sign)) [] (Is sign) mid now
comma_mark sign now (Ok x) first f = takes_as (λ u (is, s). s) f
comma_mark sign now (Err error) first f = cc

-- the exits of a function that takes the mark
pub taken_sign : (sign : Sign) {before : List Mark} (now : List Mark) (part : Expr) → ((s : Sign) → IsOf (class_of sign) s → s ≡ sign) → TakesIf expr_marks (class_of sign) (IsOne (λ m. fits (class_of sign) m ≡ true)) before true now → Reading (one (class_of sign)) [] (λ e u. (e ≡ part) × Is sign u) before (Ok part) now
taken_sign sign now part only t = record { is = takes_as (λ u s. (refl, s)) (takes_as_sign (class_of sign) sign only t.0) }

pub missed_sign : (c : Class) {before : List Mark} (now : List Mark) {place : ℕ} → TakesIf expr_marks c (IsOne (λ m. fits c m ≡ true)) before false now → place ≡ first_place expr_marks now → FailsPart expr_marks (one c) [] before (Fault place)
missed_sign c now t at = fails_at t.1 (at ∙ ap (first_place expr_marks) t.0)

-- ---- operands

pub leaf_taken : (d : ℕ) {s : Sign} {leaf : Leaf} {m : Mark} {e : Expr} {before now : List Mark} → IsNextSign s before → s ≡ signs.Leaf leaf → before ≡ m ∷ now → e ≡ leaf_expr leaf → TakesPart expr_marks (operand d) [] (IsOperand d e) before now
unfolding operand IsOperand
leaf_taken zero {leaf = leaf} n s is same = takes_as (λ u h. (leaf, same, h)) (takes_sign classes.Leaf n s refl is)
leaf_taken (suc d) {leaf = leaf} n s is same = takes_if (next_is classes.Leaf true n s refl) refl (takes_as (λ u h. inl (leaf, same, h)) (takes_sign classes.Leaf n s refl is))

none_here : {before : List Mark} {place : ℕ} → IsNextOf expr_marks classes.Leaf before false → place ≡ first_place expr_marks before → FailsPart expr_marks (operand 0) [] before (Fault place)
unfolding operand
none_here n at = fails_at n at

pub operand_none : (d : ℕ) {s : Sign} {before : List Mark} {place : ℕ} → d ≡ 0 → IsNextSign s before → ((leaf : Leaf) → s ≡ signs.Leaf leaf → ⊥) → place ≡ first_place expr_marks before → FailsPart expr_marks (operand d) [] before (Fault place)
operand_none d {before = before} {place = place} none n other at = subst (λ (k : ℕ). FailsPart expr_marks (operand k) [] before (Fault place)) (sym none) (none_here (next_not classes.Leaf n (λ (leaf, is). other leaf is)) at)

deeper : (k : ℕ) {before : List Mark} (now : List Mark) (result : Result Expr (Or ℕ)) → IsNextOf expr_marks classes.Leaf before false → Reading (nested_of (operand k)) [] (IsNested (IsOperand k)) before result now → Reading (operand (suc k)) [] (IsOperand (suc k)) before result now
unfolding operand IsOperand
deeper k now result n h = record { is = reads_else (one classes.Leaf) (nested_of (operand k)) [] (IsOperand (suc k)) now result n refl (reads_as (IsNested (IsOperand k)) (IsOperand (suc k)) now result (λ e u x. inr x) h).is }

pub operand_nested : (d k : ℕ) {s : Sign} {before : List Mark} (now : List Mark) (result : Result Expr (Or ℕ)) → d ≡ suc k → IsNextSign s before → ((leaf : Leaf) → s ≡ signs.Leaf leaf → ⊥) → Reading (nested_of (operand k)) [] (IsNested (IsOperand k)) before result now → Reading (operand d) [] (IsOperand d) before result now
operand_nested d k {before = before} now result is n other h =
    subst (λ (j : ℕ). Reading (operand j) [] (IsOperand j) before result now) (sym is) (deeper k now result (next_not classes.Leaf n (λ (leaf, e). other leaf e)) h)

module _ (o : Re Class) (P : Expr → List Mark → Type 0) where
  -- ---- what is nested

  pub nested_negative : {before : List Mark} (now : List Mark) (result : Result Expr (Or ℕ)) → IsNextOf expr_marks classes.Minus before true → Reading (negative_of o) [] (IsNegative P) before result now → Reading (nested_of o) [] (IsNested P) before result now
  nested_negative now result n h =
      record {
        is = reads_if (negative_of o) (group_of o ∣ single_of o ∣ double_of o ∣ triple_of o) [] [] (IsNested P) now result n refl (reads_as (IsNegative P) (IsNested P) now result (λ e u x. inl x) h).is;
      }

  pub nested_group : {before : List Mark} (now : List Mark) (result : Result Expr (Or ℕ)) → IsNextOf expr_marks classes.Open before true → Reading (group_of o) [] (IsGroup P) before result now → Reading (nested_of o) [] (IsNested P) before result now
  nested_group now result n h =
      record {
        is = reads_else (negative_of o) (group_of o ∣ single_of o ∣ double_of o ∣ triple_of o) [] (IsNested P) now result (next_other classes.Minus n refl) refl
            (reads_if (group_of o) (single_of o ∣ double_of o ∣ triple_of o) [] [] (IsNested P) now result n refl (reads_as (IsGroup P) (IsNested P) now result (λ e u x. inr (inl x)) h).is);
      }

  pub nested_single : {before : List Mark} (now : List Mark) (result : Result Expr (Or ℕ)) → IsNextOf expr_marks classes.Single before true → Reading (single_of o) [] (IsSingle P) before result now → Reading (nested_of o) [] (IsNested P) before result now
  nested_single now result n h =
      record {
        is = reads_else (negative_of o) (group_of o ∣ single_of o ∣ double_of o ∣ triple_of o) [] (IsNested P) now result (next_other classes.Minus n refl) refl
            (reads_else (group_of o) (single_of o ∣ double_of o ∣ triple_of o) [] (IsNested P) now result (next_other classes.Open n refl) refl
            (reads_if (single_of o) (double_of o ∣ triple_of o) [] [] (IsNested P) now result n refl (reads_as (IsSingle P) (IsNested P) now result (λ e u x. inr (inr (inl x))) h).is));
      }

  pub nested_double : {before : List Mark} (now : List Mark) (result : Result Expr (Or ℕ)) → IsNextOf expr_marks classes.Double before true → Reading (double_of o) [] (IsDouble P) before result now → Reading (nested_of o) [] (IsNested P) before result now
  nested_double now result n h =
      record {
        is = reads_else (negative_of o) (group_of o ∣ single_of o ∣ double_of o ∣ triple_of o) [] (IsNested P) now result (next_other classes.Minus n refl) refl
            (reads_else (group_of o) (single_of o ∣ double_of o ∣ triple_of o) [] (IsNested P) now result (next_other classes.Open n refl) refl
            (reads_else (single_of o) (double_of o ∣ triple_of o) [] (IsNested P) now result (next_other classes.Single n refl) refl
            (reads_if (double_of o) (triple_of o) [] [] (IsNested P) now result n refl (reads_as (IsDouble P) (IsNested P) now result (λ e u x. inr (inr (inr (inl x)))) h).is)));
      }

  pub nested_triple : {before : List Mark} (now : List Mark) (result : Result Expr (Or ℕ)) → IsNextOf expr_marks classes.Triple before true → Reading (triple_of o) [] (IsTriple P) before result now → Reading (nested_of o) [] (IsNested P) before result now
  nested_triple now result n h =
      record {
        is = reads_else (negative_of o) (group_of o ∣ single_of o ∣ double_of o ∣ triple_of o) [] (IsNested P) now result (next_other classes.Minus n refl) refl
            (reads_else (group_of o) (single_of o ∣ double_of o ∣ triple_of o) [] (IsNested P) now result (next_other classes.Open n refl) refl
            (reads_else (single_of o) (double_of o ∣ triple_of o) [] (IsNested P) now result (next_other classes.Single n refl) refl
            (reads_else (double_of o) (triple_of o) [] (IsNested P) now result (next_other classes.Double n refl) refl (reads_as (IsTriple P) (IsNested P) now result (λ e u x. inr (inr (inr (inr x)))) h).is)));
      }

  pub nested_none : {s : Sign} {before : List Mark} {place : ℕ} → IsNextSign s before → (s ≡ signs.Minus → ⊥) → (s ≡ signs.Open → ⊥) → ((call : Single) → s ≡ signs.Single call → ⊥) → ((op : PairOp) → s ≡ signs.Double op → ⊥) → (s ≡ signs.Triple → ⊥) → place ≡ first_place expr_marks before → FailsPart expr_marks (nested_of o) [] before (Fault place)
  nested_none n minus group single double triple at =
      fails_else (next_not classes.Minus n minus) refl (fails_else (next_not classes.Open n group) refl (fails_else (next_not classes.Single n (λ (call, is). single call is)) refl (fails_else (next_not classes.Double n (λ (op, is). double op is)) refl (plain_first (fails_at (next_not classes.Triple n triple) at)))))

  pub negative_read : {before mid : List Mark} (now : List Mark) (part result : Result Expr (Or ℕ)) → TakesPart expr_marks (one classes.Minus) [] (Is signs.Minus) before mid → Reading o [] P mid part now → Makes exprs.Negative part result → Reading (negative_of o) [] (IsNegative P) before result now
  negative_read now part result taken h makes =
      reads_as (λ e. Is signs.Minus then (λ u. (x : Expr) × (e ≡ exprs.Negative x) × P x u)) (IsNegative P) now result (λ e u (a, b, eq, s, (x, is, q)). (x, is, (a, b, eq, s, q)))
      (then_reads (λ e u. (x : Expr) × (e ≡ exprs.Negative x) × P x u) now result taken (made exprs.Negative P now part result makes h))

  abbrev Closed : Expr → List Mark → Type 0
  Closed e = IsExpr P e then Is signs.Close

  closed_read : {before mid : List Mark} (now : List Mark) (part result : Result Expr (Or ℕ)) → Reading (expr_of o) expr_goes_on (IsExpr P) before part mid → IsFollowed signs.Close part mid result now → Reading (expr_of o ⨾ one classes.Close) [] Closed before result now
  closed_read now part result h f = follows signs.Close (IsExpr P) now part result refl h f

  pub group_read : {before mid there : List Mark} (now : List Mark) (part result : Result Expr (Or ℕ)) → TakesPart expr_marks (one classes.Open) [] (Is signs.Open) before mid → Reading (expr_of o) expr_goes_on (IsExpr P) mid part there → IsFollowed signs.Close part there result now → Reading (group_of o) [] (IsGroup P) before result now
  group_read now part result taken h f = then_reads Closed now result taken (closed_read now part result h f)

  pub single_read : (call : Single) {before mid there : List Mark} (now : List Mark) (part inner result : Result Expr (Or ℕ)) → TakesPart expr_marks (one classes.Single) [] (Is (signs.Single call)) before mid → Reading (expr_of o) expr_goes_on (IsExpr P) mid part there → IsFollowed signs.Close part there inner now → Makes (single call) inner result → Reading (single_of o) [] (IsSingle P) before result now
  single_read call now part inner result taken h f makes =
      reads_as (λ e. Is (signs.Single call) then (λ u. (x : Expr) × (e ≡ single call x) × Closed x u)) (IsSingle P) now result (λ e u (a, b, eq, s, (x, is, q)). (call, x, is, (a, b, eq, s, q)))
      (then_reads (λ e u. (x : Expr) × (e ≡ single call x) × Closed x u) now result taken (made (single call) Closed now inner result makes (closed_read now part inner h f)))

  -- an expression, a comma and an expression with `)` behind it
  last_read : (make : Expr → Expr) {S : List Mark → Type 0} {before there mid at : List Mark} (now : List Mark) (part inner result : Result Expr (Or ℕ)) → TakesPart expr_marks (expr_of o) expr_goes_on S before there → TakesPart expr_marks (one classes.Comma) [] (Is signs.Comma) there mid → Reading (expr_of o) expr_goes_on (IsExpr P) mid part at → IsFollowed signs.Close part at inner now → Makes make inner result
      → Reading (expr_of o ⨾ one classes.Comma ⨾ expr_of o ⨾ one classes.Close) [] (λ e. S then Is signs.Comma then (λ u. (x : Expr) × (e ≡ make x) × Closed x u)) before result now
  last_read make now part inner result first comma h f makes =
      seq_reads (λ e. Is signs.Comma then (λ u. (x : Expr) × (e ≡ make x) × Closed x u)) now result first refl
      (then_reads (λ e u. (x : Expr) × (e ≡ make x) × Closed x u) now result comma (made make Closed now inner result makes (closed_read now part inner h f)))

  pub double_read : (op : PairOp) (first : Expr) {before mid there next at : List Mark} (now : List Mark) (head part inner result : Result Expr (Or ℕ)) → TakesPart expr_marks (one classes.Double) [] (Is (signs.Double op)) before mid
      → Reading (expr_of o) expr_goes_on (IsExpr P) mid head there → IsFollowed signs.Comma head there (Ok first) next
      → Reading (expr_of o) expr_goes_on (IsExpr P) next part at → IsFollowed signs.Close part at inner now → Makes (λ x. exprs.Pair op first x) inner result → Reading (double_of o) [] (IsDouble P) before result now
  double_read op first {next = next} now head part inner result taken g comma h f makes =
      reads_as (λ e. Is (signs.Double op) then IsExpr P first then Is signs.Comma then (λ u. (x : Expr) × (e ≡ exprs.Pair op first x) × Closed x u)) (IsDouble P) now result
      (λ e u (a, b, eq, s, (c, d, eq2, t, (k, l, eq3, m, (x, is, q)))). (op, first, x, is, (a, b, eq, s, (c, d, eq2, t, (k, l, eq3, m, q)))))
      (then_reads (λ e. IsExpr P first then Is signs.Comma then (λ u. (x : Expr) × (e ≡ exprs.Pair op first x) × Closed x u)) now result taken
      (last_read (λ x. exprs.Pair op first x) now part inner result (comma_part signs.Comma (IsExpr P) next head first g comma) (comma_mark signs.Comma next head first comma) h f makes))

  pub double_fails : (op : PairOp) {before mid there : List Mark} (next : List Mark) (head : Result Expr (Or ℕ)) {e : Or ℕ} → TakesPart expr_marks (one classes.Double) [] (Is (signs.Double op)) before mid → Reading (expr_of o) expr_goes_on (IsExpr P) mid head there → IsFollowed signs.Comma head there (Err e) next → FailsPart expr_marks (double_of o) [] before e
  double_fails op next head taken g comma = plain_next taken (comma_fails {s = expr_of o ⨾ one classes.Close} signs.Comma (IsExpr P) next head refl g comma)

  pub triple_fails : {before mid there : List Mark} (next : List Mark) (head : Result Expr (Or ℕ)) {e : Or ℕ} → TakesPart expr_marks (one classes.Triple) [] (Is signs.Triple) before mid → Reading (expr_of o) expr_goes_on (IsExpr P) mid head there → IsFollowed signs.Comma head there (Err e) next → FailsPart expr_marks (triple_of o) [] before e
  triple_fails next head taken g comma = plain_next taken (comma_fails {s = expr_of o ⨾ one classes.Comma ⨾ expr_of o ⨾ one classes.Close} signs.Comma (IsExpr P) next head refl g comma)

  pub second_fails : (test : Expr) {before mid there next at : List Mark} (after : List Mark) (head part second : Result Expr (Or ℕ)) {e : Or ℕ} → TakesPart expr_marks (one classes.Triple) [] (Is signs.Triple) before mid
      → Reading (expr_of o) expr_goes_on (IsExpr P) mid head there → IsFollowed signs.Comma head there (Ok test) next
      → Reading (expr_of o) expr_goes_on (IsExpr P) next part at → IsFollowed signs.Comma part at second after → AreBoth test second (Err e) → FailsPart expr_marks (triple_of o) [] before e
  second_fails test {next = next} {at = at} after head part second taken g comma h f fails =
      let failed = subst (λ (r : Result Expr (Or ℕ)). IsFollowed signs.Comma part at r after) fails f in
      plain_next taken (fails_next (comma_part signs.Comma (IsExpr P) next head test g comma) refl (plain_next (comma_mark signs.Comma next head test comma) (comma_fails {s = expr_of o ⨾ one classes.Close} signs.Comma (IsExpr P) after part refl h failed)))

  pub triple_read : (test : Expr) (pair : Expr × Expr) {before mid there next at then_at last : List Mark} (now : List Mark) (head part second third inner result : Result Expr (Or ℕ)) → TakesPart expr_marks (one classes.Triple) [] (Is signs.Triple) before mid
      → Reading (expr_of o) expr_goes_on (IsExpr P) mid head there → IsFollowed signs.Comma head there (Ok test) next
      → Reading (expr_of o) expr_goes_on (IsExpr P) next part at → IsFollowed signs.Comma part at second then_at → AreBoth test second (Ok pair)
      → Reading (expr_of o) expr_goes_on (IsExpr P) then_at third last → IsFollowed signs.Close third last inner now → Makes (λ x. exprs.If pair.0 pair.1 x) inner result → Reading (triple_of o) [] (IsTriple P) before result now
  triple_read test pair {mid = mid} {there = there} {next = next} {at = at} {then_at = then_at} now head part second third inner result taken g comma h f both k i makes =
      let followed = subst (λ (r : Result Expr (Or ℕ)). IsFollowed signs.Comma part at r then_at) both.0 f in
      let first = subst (λ (y : Expr). TakesPart expr_marks (expr_of o) expr_goes_on (IsExpr P y) mid there) (sym both.1) (comma_part signs.Comma (IsExpr P) next head test g comma) in
      reads_as (λ e. Is signs.Triple then IsExpr P pair.0 then Is signs.Comma then IsExpr P pair.1 then Is signs.Comma then (λ u. (x : Expr) × (e ≡ exprs.If pair.0 pair.1 x) × Closed x u)) (IsTriple P) now result
      (λ e u (a, b, eq, s, (c, d, eq2, t, (m, n, eq3, v, (p, q, eq4, w, (y, z, eq5, j, (x, is, r)))))). (pair.0, pair.1, x, is, (a, b, eq, s, (c, d, eq2, t, (m, n, eq3, v, (p, q, eq4, w, (y, z, eq5, j, r)))))))
      (then_reads (λ e. IsExpr P pair.0 then Is signs.Comma then IsExpr P pair.1 then Is signs.Comma then (λ u. (x : Expr) × (e ≡ exprs.If pair.0 pair.1 x) × Closed x u)) now result taken
      (seq_reads (λ e. Is signs.Comma then IsExpr P pair.1 then Is signs.Comma then (λ u. (x : Expr) × (e ≡ exprs.If pair.0 pair.1 x) × Closed x u)) now result first refl
      (then_reads (λ e. IsExpr P pair.1 then Is signs.Comma then (λ u. (x : Expr) × (e ≡ exprs.If pair.0 pair.1 x) × Closed x u)) now result (comma_mark signs.Comma next head test comma)
      (last_read (λ x. exprs.If pair.0 pair.1 x) now third inner result (comma_part signs.Comma (IsExpr P) then_at part pair.1 h followed) (comma_mark signs.Comma then_at part pair.1 followed) k i makes))))

  -- ---- operands with `*` between them

  abbrev pub ProductRead : List Mark → Expr → List Mark → Type 0
  ProductRead before product now =
      (first : Expr) × (rest : List Expr) × (product ≡ multiplied first rest) × TakesFrom expr_marks o (one classes.Star ⨾ o) product_goes_on (P first) (λ next. Is signs.Star then P next) before rest now

  pub product_first : {first : Expr} {before now : List Mark} → TakesPart expr_marks o [] (P first) before now → ProductRead before first now
  product_first {first} h = (first, [], refl, from_first {cs = []} h refl)

  multiplied_last : (first : Expr) (rest : List Expr) (next : Expr) → multiplied first (rest ++ next ∷ []) ≡ exprs.Pair ops.Multiply (multiplied first rest) next
  multiplied_last first [] next = refl
  multiplied_last first (e ∷ rest) next = multiplied_last (exprs.Pair ops.Multiply first e) rest next

  pub product_more : {product product' : Expr} {before mid there : List Mark} (now : List Mark) (part : Result Expr (Or ℕ)) → ProductRead before product mid → TakesIf expr_marks classes.Star (IsOne (λ m. fits classes.Star m ≡ true)) mid true there → Reading o [] P there part now → Makes (λ x. exprs.Pair ops.Multiply product x) part (Ok product') → ProductRead before product' now
  product_more {product} {product'} {before} {mid} {there} now part (first, rest, is, row) t read (next, was, same) =
      let h : TakesPart expr_marks o [] (P next) there now = subst (λ (r : Result Expr (Or ℕ)). ReadsPart expr_marks o [] P there r now) was read.is in (
        first,
        rest ++ next ∷ [],
        same ∙ ap (λ x. exprs.Pair ops.Multiply x next) is ∙ sym (multiplied_last first rest next),
        from_more {cs = []} row t.1 refl (plain_seq (takes_as_sign classes.Star signs.Star (λ s e. e) t.0) h) refl,
      )

  pub product_fails : {product : Expr} {before mid there : List Mark} (now : List Mark) (part : Result Expr (Or ℕ)) {e : Or ℕ} → ProductRead before product mid → TakesIf expr_marks classes.Star (IsOne (λ m. fits classes.Star m ≡ true)) mid true there → Reading o [] P there part now → Makes (λ x. exprs.Pair ops.Multiply product x) part (Err e) → FailsPart expr_marks (product_of o) product_goes_on before e
  product_fails now part (first, rest, is, row) t read makes = from_fails {cs = []} row t.1 refl (plain_next t.0 (joined_fails expr_marks o [] P now part makes read.is)) refl

  pub product_done : {product : Expr} {before mid now : List Mark} → ProductRead before product mid → TakesIf expr_marks classes.Star (IsOne (λ m. fits classes.Star m ≡ true)) mid false now → TakesPart expr_marks (product_of o) product_goes_on (IsProduct P product) before now
  product_done (first, rest, is, row) t = now_there t.0 (takes_as (λ u h. (first, rest, is, h)) (from_done row (over_else expr_marks (one classes.Star ⨾ o) t.1 refl)))

  -- ---- products with `+` and `-` between them

  abbrev Adding : Re Class
  Adding = one classes.Plus ⨾ product_of o ∣ one classes.Minus ⨾ product_of o

  abbrev pub TotalRead : List Mark → Expr → List Mark → Type 0
  TotalRead before total now =
      (first : Expr) × (rest : List (Bool × Expr)) × (total ≡ added first rest)
      × TakesFrom expr_marks (product_of o) Adding total_goes_on (IsProduct P first) (λ next. IsAdding next.0 then IsProduct P next.1) before rest now

  pub total_first : {first : Expr} {before now : List Mark} → TakesPart expr_marks (product_of o) product_goes_on (IsProduct P first) before now → TotalRead before first now
  total_first {first} h = (first, [], refl, from_first h refl)

  added_last : (first : Expr) (rest : List (Bool × Expr)) (next : Bool × Expr) → added first (rest ++ next ∷ []) ≡ added (added first rest) (next ∷ [])
  added_last first [] next = refl
  added_last first ((true, e) ∷ rest) next = added_last (exprs.Pair ops.Add first e) rest next
  added_last first ((false, e) ∷ rest) next = added_last (exprs.Pair ops.Subtract first e) rest next

  pub total_plus : {total total' : Expr} {before mid there : List Mark} (now : List Mark) (part : Result Expr (Or ℕ)) → TotalRead before total mid → TakesIf expr_marks classes.Plus (IsOne (λ m. fits classes.Plus m ≡ true)) mid true there → Reading (product_of o) product_goes_on (IsProduct P) there part now → Makes (λ x. exprs.Pair ops.Add total x) part (Ok total') → TotalRead before total' now
  total_plus {total} {total'} {before} {mid} {there} now part (first, rest, is, row) t read (next, was, same) =
      let h : TakesPart expr_marks (product_of o) product_goes_on (IsProduct P next) there now = subst (λ (r : Result Expr (Or ℕ)). ReadsPart expr_marks (product_of o) product_goes_on (IsProduct P) there r now) was read.is in (
        first,
        rest ++ (true, next) ∷ [],
        same ∙ ap (λ x. exprs.Pair ops.Add x next) is ∙ sym (added_last first rest (true, next)),
        from_more row t.1 refl (takes_if t.1 refl (plain_seq (takes_as_sign classes.Plus signs.Plus (λ s e. e) t.0) h)) refl,
      )

  pub total_minus : {total total' : Expr} {before mid there : List Mark} (now : List Mark) (part : Result Expr (Or ℕ)) → TotalRead before total mid → TakesIf expr_marks classes.Minus (IsOne (λ m. fits classes.Minus m ≡ true)) mid true there → Reading (product_of o) product_goes_on (IsProduct P) there part now → Makes (λ x. exprs.Pair ops.Subtract total x) part (Ok total') → TotalRead before total' now
  total_minus {total} {total'} {before} {mid} {there} now part (first, rest, is, row) t read (next, was, same) =
      let h : TakesPart expr_marks (product_of o) product_goes_on (IsProduct P next) there now = subst (λ (r : Result Expr (Or ℕ)). ReadsPart expr_marks (product_of o) product_goes_on (IsProduct P) there r now) was read.is in (
        first,
        rest ++ (false, next) ∷ [],
        same ∙ ap (λ x. exprs.Pair ops.Subtract x next) is ∙ sym (added_last first rest (false, next)),
        from_more row t.1 refl (takes_second t.1 refl (plain_seq (takes_as_sign classes.Minus signs.Minus (λ s e. e) t.0) h)) refl,
      )

  pub plus_fails : {total : Expr} {before mid there : List Mark} (now : List Mark) (part : Result Expr (Or ℕ)) {e : Or ℕ} → TotalRead before total mid → TakesIf expr_marks classes.Plus (IsOne (λ m. fits classes.Plus m ≡ true)) mid true there → Reading (product_of o) product_goes_on (IsProduct P) there part now → Makes (λ x. exprs.Pair ops.Add total x) part (Err e) → FailsPart expr_marks (total_of o) total_goes_on before e
  plus_fails now part (first, rest, is, row) t read makes = from_fails row t.1 refl (fails_if t.1 refl (plain_next t.0 (joined_fails expr_marks (product_of o) product_goes_on (IsProduct P) now part makes read.is))) refl

  pub minus_fails : {total : Expr} {before mid there : List Mark} (now : List Mark) (part : Result Expr (Or ℕ)) {e : Or ℕ} → TotalRead before total mid → TakesIf expr_marks classes.Minus (IsOne (λ m. fits classes.Minus m ≡ true)) mid true there → Reading (product_of o) product_goes_on (IsProduct P) there part now → Makes (λ x. exprs.Pair ops.Subtract total x) part (Err e) → FailsPart expr_marks (total_of o) total_goes_on before e
  minus_fails now part (first, rest, is, row) t read makes = from_fails row t.1 refl (fails_second t.1 refl (plain_next t.0 (joined_fails expr_marks (product_of o) product_goes_on (IsProduct P) now part makes read.is))) refl

  pub total_done : {total : Expr} {before mid : List Mark} → TotalRead before total mid → IsNextOf expr_marks classes.Plus mid false → IsNextOf expr_marks classes.Minus mid false → TakesPart expr_marks (total_of o) total_goes_on (IsTotal P total) before mid
  total_done (first, rest, is, row) n m =
      takes_as (λ u h. (first, rest, is, h)) (from_done row (over_either expr_marks _ _ (over_else expr_marks _ n refl) (over_else expr_marks _ m refl)))

  -- ---- expressions

  abbrev Compares : Re Class
  Compares = one classes.Compare ⨾ total_of o

  compared_read : (Q : Expr → List Mark → Type 0) {before : List Mark} (now : List Mark) (result : Result Expr (Or ℕ)) → IsNextOf expr_marks classes.Compare before true → Reading Compares total_goes_on Q before result now → Reading (optional Compares) expr_goes_on Q before result now
  compared_read Q now (Ok e) n h = record { is = optional_if n refl h.is }
  compared_read Q now (Err e) n h = record { is = optional_fails n refl h.is }

  pub expr_compared : {s : Sign} (op : PairOp) (first : Expr) {m : Mark} {before mid there : List Mark} (now : List Mark) (part result : Result Expr (Or ℕ)) → TakesPart expr_marks (total_of o) total_goes_on (IsTotal P first) before mid → IsNextSign s mid → s ≡ signs.Compare op → mid ≡ m ∷ there
      → Reading (total_of o) total_goes_on (IsTotal P) there part now → Makes (λ x. exprs.Pair op first x) part result → Reading (expr_of o) expr_goes_on (IsExpr P) before result now
  expr_compared op first now part result h n s is g makes =
      reads_as (λ e. IsTotal P first then Is (signs.Compare op) then (λ u. (x : Expr) × (e ≡ exprs.Pair op first x) × IsTotal P x u)) (IsExpr P) now result
      (λ e u (a, b, eq, t, (c, d, eq2, k, (x, same, q))). (first, Some (op, x), same, (a, b, eq, t, (c, d, eq2, k, q))))
      (seq_reads (λ e. Is (signs.Compare op) then (λ u. (x : Expr) × (e ≡ exprs.Pair op first x) × IsTotal P x u)) now result h refl
      (compared_read (λ e. Is (signs.Compare op) then (λ u. (x : Expr) × (e ≡ exprs.Pair op first x) × IsTotal P x u)) now result (next_is classes.Compare true n s refl)
      (then_reads (λ e u. (x : Expr) × (e ≡ exprs.Pair op first x) × IsTotal P x u) now result (takes_sign classes.Compare n s refl is) (made (λ x. exprs.Pair op first x) (IsTotal P) now part result makes g))))

  pub expr_alone : {s : Sign} {first : Expr} {before mid : List Mark} → TakesPart expr_marks (total_of o) total_goes_on (IsTotal P first) before mid → IsNextSign s mid → ((op : PairOp) → s ≡ signs.Compare op → ⊥) → TakesPart expr_marks (expr_of o) expr_goes_on (IsExpr P first) before mid
  expr_alone {s} {first} {before} {mid} h n other =
      let nothing : TakesPart expr_marks (optional Compares) expr_goes_on (IsGiven (λ (next : PairOp × Expr). Is (signs.Compare next.0) then IsTotal P next.1) None) mid mid = optional_else (next_not classes.Compare n (λ (op, is). other op is)) refl refl refl in
      takes_as (λ u k. (first, None, refl, k)) (takes_seq h refl nothing)

-- ---- whole texts

end_class : (s : Sign) → is_end s ≡ false → same_class classes.End (class_of s) ≡ false
end_class (signs.Leaf leaf) e = refl
end_class signs.TooLarge e = refl
end_class signs.Unknown e = refl
end_class signs.Misplaced e = refl
end_class signs.Open e = refl
end_class signs.Close e = refl
end_class signs.Comma e = refl
end_class (signs.Single call) e = refl
end_class (signs.Double op) e = refl
end_class signs.Triple e = refl
end_class signs.Plus e = refl
end_class signs.Minus e = refl
end_class signs.Star e = refl
end_class (signs.Compare op) e = refl
end_class signs.Division e = refl
end_class signs.Other e = refl
end_class signs.End e = cc

pub end_taken : {marks : List Mark} (part : Expr) → IsAtEnd marks → Reading (one classes.End) [] (λ e u. (e ≡ part) × Is signs.End u) marks (Ok part) []
end_taken part n = record { is = takes_next (record { next = n.next; rest = []; is = n.is; fits = ap (λ (s : Sign). same_class classes.End (class_of s)) n.sign_is }) n.is (λ fit. (refl, (n.next, refl, n.sign_is))) }

pub end_missed : {marks : List Mark} {place : ℕ} → IsBeforeEnd marks → place ≡ first_place expr_marks marks → FailsPart expr_marks (one classes.End) [] marks (Fault place)
end_missed n at = fails_at (record { next = n.next; rest = n.rest; is = n.is; fits = end_class n.next.sign n.no_end }) at

whole : (marks : List Mark) (result : Result Expr (Or ℕ)) → Reading (text_of (operand 32)) [] IsText marks result [] → ReadsWhole marks result
whole marks (Ok e) h = value_of h.is
whole marks (Err NoMemory) h = tt
whole marks (Err (Fault place)) h = stop_of agree_text h.is

pub text_read : (marks : List Mark) {mid : List Mark} (part result : Result Expr (Or ℕ)) → Reading (expr_of (operand 32)) expr_goes_on (IsExpr (IsOperand 32)) marks part mid → IsFollowed signs.End part mid result [] → ReadsWhole marks result
text_read marks part result h f = whole marks result (follows signs.End (IsExpr (IsOperand 32)) [] part result refl h f)
