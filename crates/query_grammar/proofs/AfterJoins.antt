-- In each query a leaf stands after SENTENCE and PARAGRAPH.
use Rattle.std.proofs.Common.{◌≡◌, ℕ, zero, suc, List, [], ◌∷◌, ◌++◌, Bool, true, false, refl, sym, ◌∙◌, ap, subst}
use Rattle.std.specs.Prelude.{◌&&◌, ◌||◌, not}
use Rattle.token_grammar.specs.Language.{one, In, ◌⨾◌}
use Rattle.token_grammar.proofs.Bools.{and_first, and_second, both_true, clash}
use Rattle.query_marks.specs.declared.mark.Mark.{Mark}
use Rattle.query_grammar.specs.declared.class.Class.{Class}
use Rattle.query_grammar.specs.declared.class.Class.TheVariants as classes
use Rattle.query_grammar.specs.steps.Classes.{same_class, fits}
use Rattle.query_grammar.specs.steps.Joined.{is_joining, ends_joined}
use Rattle.query_grammar.specs.steps.MarkAlphabet.{query_marks}
use Rattle.query_grammar.specs.steps.QueryGrammar.{leaf, others, query}
use Rattle.query_grammar.proofs.MarkClasses.{fits_like, joining_like}
use Rattle.query_grammar.proofs.KeptInTexts.{Keeps, IsKept, keeps_empty, keeps_seq, keeps_alt, expr_keeps}

-- after each mark that joins leaves a leaf is next; the flag says that one was just before
abbrev pub leaf_next : List Mark → Bool → Bool
leaf_next [] after = not after
leaf_next (m ∷ marks) true = fits classes.Leaf m && leaf_next marks (is_joining m)
leaf_next (m ∷ marks) false = leaf_next marks (is_joining m)

abbrev pub LeafNext : List Mark → Type 0
LeafNext marks = leaf_next marks false ≡ true

next_append : (a b : List Mark) (after : Bool) → leaf_next a after ≡ true → leaf_next b false ≡ true → leaf_next (a ++ b) after ≡ true
next_append [] b true e f = cc
next_append [] b false e f = f
next_append (m ∷ a) b true e f =
    both_true (fits classes.Leaf m) (leaf_next (a ++ b) (is_joining m)) (and_first (fits classes.Leaf m) (leaf_next a (is_joining m)) e) (next_append a b (is_joining m) (and_second (fits classes.Leaf m) (leaf_next a (is_joining m)) e) f)
next_append (m ∷ a) b false e f = next_append a b (is_joining m) e f

next_kept : IsKept LeafNext
next_kept = record { nothing = refl; append = λ a b e f. next_append a b false e f; alone = λ m opens closes joins. ap not joins }

one_next : (c : Class) → (same_class classes.Sentence c || same_class classes.Paragraph c) ≡ false → Keeps LeafNext (one c)
unfolding In
one_next c unlike = record { holds = λ u (m, e, f). subst (λ w. LeafNext w) (sym e) (ap not (joining_like c m f ∙ unlike)) }

leaf_alone : (m : Mark) (after : Bool) → fits classes.Leaf m ≡ true → leaf_next (m ∷ []) after ≡ true
leaf_alone m true f = both_true (fits classes.Leaf m) (not (is_joining m)) f (ap not (joining_like classes.Leaf m f))
leaf_alone m false f = ap not (joining_like classes.Leaf m f)

joined_next : (c : Class) → Keeps LeafNext (one c ⨾ leaf)
unfolding In
joined_next c = record {
  holds = λ u (a, b, e, (m, em, fm), (n, en, fn)). subst (λ w. LeafNext w) (sym (e ∙ ap (λ w. w ++ b) em ∙ ap (λ w. m ∷ w) en)) (leaf_alone n (is_joining m) fn);
}

others_next : (d : ℕ) → Keeps LeafNext (others d)
unfolding others
others_next zero = one_next classes.Loose refl
others_next (suc d) =
    let inside = expr_keeps next_kept (others d) (joined_next classes.Sentence) (joined_next classes.Paragraph) (others_next d) in
    keeps_alt next_kept (one_next classes.Loose refl) (keeps_seq next_kept (one_next classes.Open refl) (keeps_seq next_kept inside (one_next classes.Close refl)))

query_next : (d : ℕ) → Keeps LeafNext (query d)
unfolding query
query_next d =
    let whole = expr_keeps next_kept (others d) (joined_next classes.Sentence) (joined_next classes.Paragraph) (others_next d) in
    keeps_seq next_kept (keeps_alt next_kept (one_next classes.Relaxed refl) (keeps_empty next_kept)) (keeps_seq next_kept whole (one_next classes.End refl))

next_rest : (m : Mark) (marks : List Mark) (after : Bool) → leaf_next (m ∷ marks) after ≡ true → leaf_next marks (is_joining m) ≡ true
next_rest m marks true e = and_second (fits classes.Leaf m) (leaf_next marks (is_joining m)) e
next_rest m marks false e = e

leaf_there : (front : List Mark) (m : Mark) (later : List Mark) (after : Bool) → ends_joined front ≡ true → leaf_next (front ++ (m ∷ later)) after ≡ true → fits classes.Leaf m ≡ true
leaf_there [] m later after joins e = cc
leaf_there (x ∷ []) m later after joins e =
    let next : leaf_next (m ∷ later) true ≡ true = subst (λ (b : Bool). leaf_next (m ∷ later) b ≡ true) joins (next_rest x (m ∷ later) after e) in
    and_first (fits classes.Leaf m) (leaf_next later (is_joining m)) next
leaf_there (x ∷ y ∷ front) m later after joins e = leaf_there (y ∷ front) m later (is_joining x) joins (next_rest x ((y ∷ front) ++ (m ∷ later)) after e)

-- no group begins there
pub none_after_joins : (d : ℕ) (front : List Mark) (m : Mark) (later : List Mark) → ends_joined front ≡ true → fits classes.Open m ≡ true → In query_marks (query d) (front ++ (m ∷ later)) → ⊥
none_after_joins d front m later joins opens h =
    clash (fits classes.Leaf m) (leaf_there front m later false joins ((query_next d).holds (front ++ (m ∷ later)) h)) (fits_like classes.Leaf classes.Open m opens)
