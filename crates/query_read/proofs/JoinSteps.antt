-- What the readers of leaves make of the marks before them.
use Rattle.std.proofs.Common.{◌≡◌, ◌≢◌, ℕ, List, [], ◌∷◌, ◌++◌, true, false, inl, inr, refl, sym, ◌∙◌, ap, subst, append-nil}
use Rattle.std.specs.Prelude.{Result, Ok, Err}
use Rattle.std.proofs.lemmas.Bool.{eq-eqb}
use Rattle.srch_base.specs.declared.faults.Or.{Or}
use Rattle.token_grammar.specs.Language.{one, seq, many, repeated}
use Rattle.token_grammar.specs.Values.{◌then◌, IsAbsent, IsOne}
use Rattle.token_grammar.specs.Reading.{TakesPart, FailsPart, ReadsPart, IsNextOf}
use Rattle.token_grammar.specs.steps.Progress.{TakesRow}
use Rattle.token_grammar.proofs.Rows.{plain_seq, plain_next, any_follows, takes_as, takes_wider, fails_wider, unlike_no}
use Rattle.token_grammar.proofs.Lists.{row_more, row_fails, row_done}
use Rattle.query_marks.specs.declared.mark.Mark.{Mark}
use Rattle.query_marks.specs.declared.mark.Sign.{Sign}
use Rattle.query_marks.specs.declared.mark.Sign.TheVariants as signs
use Rattle.query_grammar.specs.declared.class.Class.{Class}
use Rattle.query_grammar.specs.declared.class.Class.TheVariants as classes
use Rattle.query_read.specs.declared.operators.Operator.{Operator}
use Rattle.query_tree.specs.declared.query.Node.{Node}
use Rattle.query_tree.specs.declared.query.Node.TheVariants as nodes
use Rattle.query_grammar.specs.Grammar.{Is, IsLeaf, joined}
use Rattle.query_grammar.specs.steps.Classes.{class_number, fits}
use Rattle.query_read.specs.steps.Joining.{by_operator, Joins}
use Rattle.query_grammar.specs.steps.MarkAlphabet.{query_marks}
use Rattle.query_grammar.specs.steps.QueryGrammar.{leaf, leaves}
use Rattle.query_read.specs.steps.Parts.{join_goes_on, AreAdded, IsLeaves}
use Rattle.query_grammar.proofs.MarkSigns.{IsOf}
use Rattle.query_read.proofs.SignSteps.{takes_as_sign}
use Rattle.query_read.proofs.RowSteps.{over_else, over_if, over_many, takes_left, takes_right, fails_left, fails_right, row_empty, joined_fails}

pub joined_last : (join : Node → Node → Node) (first : Node) (rest : List Node) (x : Node) → joined join first (rest ++ x ∷ []) ≡ join (joined join first rest) x
joined_last join first [] x = refl
joined_last join first (y ∷ rest) x = joined_last join (join first y) rest x

-- Leaves that were read so far, and joined to the first.
abbrev pub LeavesRead : Class → Sign → (Node → Node → Node) → Node → List Mark → Node → List Mark → Type 0
LeavesRead c sign join first before node now =
    (rest : List Node) × (node ≡ joined join first rest) × TakesRow query_marks (seq (one c) leaf) (c ∷ []) (λ leaf. Is sign then IsLeaf leaf) before rest now

-- one more leaf, ..
pub leaves_more : {c : Class} {sign : Sign} (operator : Operator) {first node node' : Node} {before mid there : List Mark} (now : List Mark) (result : Result Node (Or ℕ)) → LeavesRead c sign (by_operator operator) first before node mid → ((s : Sign) → IsOf c s → s ≡ sign) → TakesPart query_marks (one c) [] (IsOne (λ m. fits c m ≡ true)) mid there → IsNextOf query_marks c mid true → ReadsPart query_marks leaf [] IsLeaf there result now → Joins operator node result (Ok node') → LeavesRead c sign (by_operator operator) first before node' now
leaves_more {c} {sign} operator {first} {node} {node'} {before} {mid} {there} now result (rest, is, row) only between n read (x, was, same) =
    let next : TakesPart query_marks leaf [] (IsLeaf x) there now = subst (λ (r : Result Node (Or ℕ)). ReadsPart query_marks leaf [] IsLeaf there r now) was read in
    (rest ++ x ∷ [], same ∙ ap (λ y. by_operator operator y x) is ∙ sym (joined_last (by_operator operator) first rest x), row_more row n (plain_seq (takes_as_sign c sign only between) next) (any_follows query_marks (many (seq (one c) leaf)) (c ∷ [])))

-- .. one that can't be read, ..
pub leaf_fails : {c : Class} {sign : Sign} (operator : Operator) {first node : Node} {before mid there : List Mark} (now : List Mark) (result : Result Node (Or ℕ)) {e : Or ℕ} → LeavesRead c sign (by_operator operator) first before node mid → TakesPart query_marks (one c) [] (IsOne (λ m. fits c m ≡ true)) mid there → IsNextOf query_marks c mid true → ReadsPart query_marks leaf [] IsLeaf there result now → Joins operator node result (Err e) → FailsPart query_marks (repeated c leaf) (c ∷ []) before e
leaf_fails {c} operator now result (rest, is, row) between n read joins =
    row_fails row n (plain_next between (joined_fails query_marks leaf [] IsLeaf now result joins read)) (any_follows query_marks (many (seq (one c) leaf)) (c ∷ []))

-- .. and none, where there was one
pub leaves_done : {c : Class} {sign : Sign} {join : Node → Node → Node} {first node : Node} {before now : List Mark} → LeavesRead c sign join first before node now → IsNextOf query_marks c before true → IsNextOf query_marks c now false → TakesPart query_marks (repeated c leaf) (c ∷ []) (AreAdded sign join first node) before now
leaves_done {c} {sign} {join} {first} {node} {before} {now} (rest, is, row) n over =
    takes_as (λ u h. (rest, filled rest row, is, h)) (row_done row over same)
  where
    filled : (rest : List Node) → TakesRow query_marks (seq (one c) leaf) (c ∷ []) (λ leaf. Is sign then IsLeaf leaf) before rest now → rest ≢ []
    filled [] row e = unlike_no (subst (λ u. IsNextOf query_marks c u true) (row.is ∙ ap (λ v. v ++ now) row.has) n) over
    filled (x ∷ rest) row e = cc

    same : query_marks.within c c ≡ true
    same = eq-eqb (class_number c) (class_number c) refl

-- a leaf alone
pub leaf_alone : {first : Node} {before now : List Mark} → TakesPart query_marks leaf [] (IsLeaf first) before now → IsNextOf query_marks classes.Sentence now false → IsNextOf query_marks classes.Paragraph now false → TakesPart query_marks leaves join_goes_on (IsLeaves first) before now
leaf_alone {first} h sentence paragraph =
    takes_as (λ u (a, b, is, p, nil). inl (subst (λ v. IsLeaf first v) (sym (is ∙ ap (λ v. a ++ v) nil ∙ append-nil a)) p))
    (plain_seq {Q = IsAbsent} h (takes_left refl (over_many query_marks _ (over_else query_marks _ paragraph refl)) (row_empty (over_else query_marks _ sentence refl) refl)))

-- leaves that SENTENCE joins
pub sentences_joined : {first : Node} {before mid : List Mark} (now : List Mark) (result : Result Node (Or ℕ)) → TakesPart query_marks leaf [] (IsLeaf first) before mid → IsNextOf query_marks classes.Sentence mid true → ReadsPart query_marks (repeated classes.Sentence leaf) (classes.Sentence ∷ []) (AreAdded signs.Sentence nodes.Sentence first) mid result now → ReadsPart query_marks leaves join_goes_on IsLeaves before result now
sentences_joined {first} now (Ok node) h n read =
    takes_as (λ u (a, b, is, p, (rest, filled, same, row)). inr (inl (first, rest, filled, same, (a, b, is, p, row))))
    (plain_seq h (takes_wider refl (takes_left refl (over_many query_marks _ (over_if query_marks _ n refl)) read)))
sentences_joined now (Err e) h n read = plain_next h (fails_wider refl (fails_left refl (over_many query_marks _ (over_if query_marks _ n refl)) read))

-- leaves that PARAGRAPH joins
pub paragraphs_joined : {first : Node} {before mid : List Mark} (now : List Mark) (result : Result Node (Or ℕ)) → TakesPart query_marks leaf [] (IsLeaf first) before mid → IsNextOf query_marks classes.Paragraph mid true → ReadsPart query_marks (repeated classes.Paragraph leaf) (classes.Paragraph ∷ []) (AreAdded signs.Paragraph nodes.Paragraph first) mid result now → ReadsPart query_marks leaves join_goes_on IsLeaves before result now
paragraphs_joined {first} now (Ok node) h n read =
    takes_as (λ u (a, b, is, p, (rest, filled, same, row)). inr (inr (first, rest, filled, same, (a, b, is, p, row))))
    (plain_seq h (takes_wider refl (takes_right refl (over_many query_marks _ (over_if query_marks _ n refl)) read)))
paragraphs_joined now (Err e) h n read = plain_next h (fails_wider refl (fails_right refl (over_many query_marks _ (over_if query_marks _ n refl)) read))
