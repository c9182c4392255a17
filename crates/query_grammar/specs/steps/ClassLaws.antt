-- The tests of classes are right. These are proofs: nothing in them has to be believed.
use Rattle.std.proofs.Common.{◌≡◌, [], true, refl, sym, ◌∙◌}
use Rattle.std.specs.Prelude.{None}
use Rattle.std.proofs.lemmas.Bool.{eqb-true, eq-eqb}
use Rattle.query_tree.specs.declared.key.How.TheVariants as hows
use Rattle.query_marks.specs.declared.mark.Mark.{Mark}
use Rattle.query_marks.specs.declared.mark.Sign.{Sign}
use Rattle.query_marks.specs.declared.mark.Sign.TheVariants as signs
use Rattle.query_marks.specs.Marks.{mark_at}
use Rattle.query_grammar.specs.declared.class.Class.{Class}
use Rattle.query_grammar.specs.declared.class.Class.TheVariants as classes
use Rattle.query_grammar.specs.steps.Classes.{class_of, class_number, same_class, fits}

abbrev mark : Sign → Mark
mark sign = mark_at 0 None sign

pub some_mark : (c : Class) → (m : Mark) × (fits c m ≡ true)
some_mark classes.Leaf = (mark (signs.Phrase []), refl)
some_mark classes.Loose = (mark (signs.Loose [] hows.Phrase), refl)
some_mark classes.Open = (mark signs.Open, refl)
some_mark classes.Close = (mark signs.Close, refl)
some_mark classes.Or = (mark signs.Or, refl)
some_mark classes.Before = (mark signs.Before, refl)
some_mark classes.Not = (mark signs.Not, refl)
some_mark classes.Maybe = (mark signs.Maybe, refl)
some_mark classes.Sentence = (mark signs.Sentence, refl)
some_mark classes.Paragraph = (mark signs.Paragraph, refl)
some_mark classes.Near = (mark (signs.Near 0), refl)
some_mark classes.Limit = (mark signs.Limits, refl)
some_mark classes.Relaxed = (mark signs.Relaxed, refl)
some_mark classes.Unclosed = (mark signs.Unclosed, refl)
some_mark classes.End = (mark signs.End, refl)

pub meeting : (c d : Class) (m : Mark) → fits c m ≡ true → fits d m ≡ true → same_class c d ≡ true
meeting c d m e f = eq-eqb (class_number c) (class_number d) (eqb-true (class_number c) (class_number (class_of m.sign)) e ∙ sym (eqb-true (class_number d) (class_number (class_of m.sign)) f))

pub inside : (c d : Class) (m : Mark) → same_class c d ≡ true → fits c m ≡ true → fits d m ≡ true
inside c d m e f = eq-eqb (class_number d) (class_number (class_of m.sign)) (sym (eqb-true (class_number c) (class_number d) e) ∙ eqb-true (class_number c) (class_number (class_of m.sign)) f)
