-- The tests of classes are right. These are proofs: nothing in them has to be believed.
use Rattle.std.proofs.Common.{◌≡◌, true, refl, sym, ◌∙◌}
use Rattle.std.proofs.lemmas.Bool.{eqb-true, eq-eqb}
use Rattle.rank_expr.specs.declared.expr.PairOp.TheVariants as ops
use Rattle.rank_expr.specs.declared.mark.Leaf.TheVariants as leaves
use Rattle.rank_expr.specs.declared.mark.Mark.{Mark}
use Rattle.rank_expr.specs.declared.mark.Sign.{Sign}
use Rattle.rank_expr.specs.declared.mark.Sign.TheVariants as signs
use Rattle.rank_expr.specs.declared.mark.Single.TheVariants as singles
use Rattle.rank_expr.specs.declared.class.Class.{Class}
use Rattle.rank_expr.specs.declared.class.Class.TheVariants as classes
use Rattle.rank_expr.specs.steps.Classes.{class_of, class_number, same_class, fits}

abbrev mark : Sign → Mark
mark sign = record { at = 0; sign = sign; due = true }

pub some_mark : (c : Class) → (m : Mark) × (fits c m ≡ true)
some_mark classes.Leaf = (mark (signs.Leaf (leaves.Attr 0)), refl)
some_mark classes.Open = (mark signs.Open, refl)
some_mark classes.Close = (mark signs.Close, refl)
some_mark classes.Comma = (mark signs.Comma, refl)
some_mark classes.Single = (mark (signs.Single singles.Sum), refl)
some_mark classes.Double = (mark (signs.Double ops.Min), refl)
some_mark classes.Triple = (mark signs.Triple, refl)
some_mark classes.Plus = (mark signs.Plus, refl)
some_mark classes.Minus = (mark signs.Minus, refl)
some_mark classes.Star = (mark signs.Star, refl)
some_mark classes.Compare = (mark (signs.Compare ops.Less), refl)
some_mark classes.Unfit = (mark signs.Other, refl)
some_mark classes.End = (mark signs.End, refl)

pub meeting : (c d : Class) (m : Mark) → fits c m ≡ true → fits d m ≡ true → same_class c d ≡ true
meeting c d m e f = eq-eqb (class_number c) (class_number d) (eqb-true (class_number c) (class_number (class_of m.sign)) e ∙ sym (eqb-true (class_number d) (class_number (class_of m.sign)) f))

pub inside : (c d : Class) (m : Mark) → same_class c d ≡ true → fits c m ≡ true → fits d m ≡ true
inside c d m e f = eq-eqb (class_number d) (class_number (class_of m.sign)) (sym (eqb-true (class_number c) (class_number d) e) ∙ eqb-true (class_number c) (class_number (class_of m.sign)) f)
