use Rattle.std.proofs.Common.{ℕ, List, arith, sym, ◌∙◌}
use Rattle.std.specs.Cmp.Lexicographic.{slice_cmp}
use Rattle.std.specs.Ordering.{nat_cmp}
use Rattle.image_parts.proofs.Halving.{halved_all}
use Rattle.image_parts.proofs.WordFinding.{greater, here, nowhere, smaller}
use Rattle.image_parts.proofs.parts.Parts.number.Goals as goal

pub halves-init : goal.halves-init
halves-init c = (omega arith, omega arith, λ rows words have are. halved_all (slice_cmp nat_cmp) (λ (word : List ℕ). word) c.args.word.now words c.args.self.words are.words_n)

pub word-requires : goal.word-requires
word-requires c =
    let r = c.requires in
    (r.0, r.1, r.2, r.3, omega (arith, (c.halves.invariant.2 r.0 r.1 r.2 r.3).within, c.halves-test.true))

pub returns-in-Equal : goal.returns-in-Equal
returns-in-Equal c = λ rows words have are.
    here rows words c.args.image.now have c.args.word.now c.halves.low c.halves.high (c.halves.invariant.2 rows words have are) _ c.word.result.now (omega (arith, c.halves-test.true)) (c.word.ensures rows words have are) (sym c.cmp.ensures ∙ c.in-Equal.is)

pub halves-preserved-in-Less : goal.halves-preserved-in-Less
halves-preserved-in-Less c = (
  omega (arith, c.halves-test.true),
  omega (arith, c.halves.invariant.1),
  λ rows words have are.
      smaller rows words c.args.image.now have c.args.word.now c.halves.low c.halves.high (c.halves.invariant.2 rows words have are) _ c.word.result.now (omega (arith, c.halves-test.true)) (c.word.ensures rows words have are) (sym c.cmp.ensures ∙ c.in-Less.is),
)

pub halves-preserved : goal.halves-preserved
halves-preserved c = (
  omega arith,
  omega (arith, c.halves.invariant.1, c.halves-test.true),
  λ rows words have are.
      greater rows words c.args.image.now have c.args.word.now c.halves.low c.halves.high (c.halves.invariant.2 rows words have are) _ c.word.result.now (omega (arith, c.halves-test.true)) (c.word.ensures rows words have are) (sym c.cmp.ensures ∙ c.in-Greater.is),
)

pub returns : goal.returns
returns c = λ rows words have are.
    nowhere rows words c.args.image.now have c.args.word.now c.halves.low c.halves.high (c.halves.invariant.2 rows words have are) c.halves-test.false c.halves.invariant.0
