-- A property of lists of marks that holds of the empty list, and of two lists in a row where it holds of each, holds of the
-- texts of a part if it does of the texts of the parts of it.
use Rattle.std.proofs.Common.{◌≡◌, List, [], ◌∷◌, ◌++◌, false, inl, inr, refl, sym, ◌∙◌, subst}
use Rattle.std.specs.Prelude.{◌||◌}
use Rattle.token_grammar.specs.Language.{Re, empty, one, seq, alt, many, Repeats, none, more, In, ◌⨾◌}
use Rattle.query_marks.specs.declared.mark.Mark.{Mark}
use Rattle.query_grammar.specs.declared.class.Class.{Class}
use Rattle.query_grammar.specs.declared.class.Class.TheVariants as classes
use Rattle.query_grammar.specs.steps.Classes.{same_class, fits}
use Rattle.query_grammar.specs.steps.Joined.{is_joining}
use Rattle.query_grammar.specs.steps.MarkAlphabet.{query_marks}
use Rattle.query_grammar.specs.steps.QueryGrammar.{leaf, leaves, join_of, alternatives_of, item_of, items_of, section_of, and_of, expr_of}
use Rattle.query_grammar.proofs.MarkClasses.{fits_like, joining_like}

-- each text of the part has the property
pub record Keeps (P : List Mark → Type 0) (r : Re Class) : Type 0 where
  pub holds : (u : List Mark) → In query_marks r u → P u

-- The property is kept, and holds of a mark alone, unless that is a bracket or joins leaves.
pub record IsKept (P : List Mark → Type 0) : Type 0 where
  pub nothing : P []
  pub append : (a b : List Mark) → P a → P b → P (a ++ b)
  pub alone : (m : Mark) → fits classes.Open m ≡ false → fits classes.Close m ≡ false → is_joining m ≡ false → P (m ∷ [])

module _ {P : List Mark → Type 0} (kept : IsKept P) where
  pub keeps_empty : Keeps P empty
  unfolding In
  keeps_empty = record { holds = λ u e. subst P (sym e) kept.nothing }

  pub keeps_one : (c : Class) → same_class classes.Open c ≡ false → same_class classes.Close c ≡ false → (same_class classes.Sentence c || same_class classes.Paragraph c) ≡ false → Keeps P (one c)
  unfolding In
  keeps_one c unlike_open unlike_close unlike_joins = record {
    holds = λ u (m, e, f). subst P (sym e) (kept.alone m (fits_like classes.Open c m f ∙ unlike_open) (fits_like classes.Close c m f ∙ unlike_close) (joining_like c m f ∙ unlike_joins));
  }

  pub keeps_seq : {r s : Re Class} → Keeps P r → Keeps P s → Keeps P (seq r s)
  unfolding In
  keeps_seq first second = record { holds = λ u (a, b, e, i, j). subst P (sym e) (kept.append a b (first.holds a i) (second.holds b j)) }

  pub keeps_alt : {r s : Re Class} → Keeps P r → Keeps P s → Keeps P (alt r s)
  unfolding In
  keeps_alt first second = record { holds = λ u h. elim h [ inl i ↦ first.holds u i | inr j ↦ second.holds u j ] }

  repeats_keep : {r : Re Class} → Keeps P r → (u : List Mark) → Repeats (In query_marks r) u → P u
  repeats_keep each u (none e) = subst P (sym e) kept.nothing
  repeats_keep each u (more a b e i rest) = subst P (sym e) (kept.append a b (each.holds a i) (repeats_keep each b rest))

  pub keeps_many : {r : Re Class} → Keeps P r → Keeps P (many r)
  unfolding In
  keeps_many each = record { holds = repeats_keep each }

  -- of an expression it holds if it does of leaves that are joined and of groups
  pub expr_keeps : (o : Re Class) → Keeps P (one classes.Sentence ⨾ leaf) → Keeps P (one classes.Paragraph ⨾ leaf) → Keeps P o → Keeps P (expr_of o)
  expr_keeps o sentence paragraph group =
      let leaves_keep : Keeps P leaves = keeps_seq (keeps_one classes.Leaf refl refl refl) (keeps_alt (keeps_many sentence) (keeps_many paragraph)) in
      let join_keeps : Keeps P (join_of o) = keeps_alt leaves_keep group in
      let choice : Keeps P (one classes.Or ⨾ join_of o) = keeps_seq (keeps_one classes.Or refl refl refl) join_keeps in
      let maybe : Keeps P (one classes.Maybe ⨾ join_of o) = keeps_seq (keeps_one classes.Maybe refl refl refl) join_keeps in
      let alternatives_keep : Keeps P (alternatives_of o) = keeps_seq join_keeps (keeps_many (keeps_alt choice maybe)) in
      let item_keeps : Keeps P (item_of o) = keeps_alt (keeps_seq (keeps_one classes.Not refl refl refl) join_keeps) alternatives_keep in
      let items_keep : Keeps P (items_of o) = keeps_seq item_keeps (keeps_many item_keeps) in
      let limit : Keeps P (one classes.Limit) = keeps_one classes.Limit refl refl refl in
      let section_keeps : Keeps P (section_of o) = keeps_seq (keeps_many limit) items_keep in
      let and_keeps : Keeps P (and_of o) = keeps_seq section_keeps (keeps_many (keeps_seq limit section_keeps)) in
      let before : Keeps P (one classes.Before ⨾ and_of o) = keeps_seq (keeps_one classes.Before refl refl refl) and_keeps in
      let near : Keeps P (one classes.Near ⨾ and_of o) = keeps_seq (keeps_one classes.Near refl refl refl) and_keeps in
      keeps_seq and_keeps (keeps_many (keeps_alt before near))
