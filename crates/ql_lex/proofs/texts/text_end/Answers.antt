use Rattle.std.proofs.Common.{refl, arith}
use Rattle.ql_lex.proofs.Searching.{search_start, search_found, search_next, search_none, search_end}
use Rattle.ql_lex.proofs.texts.text_end.Goals as goal

pub pieces-init : goal.pieces-init
pieces-init c = search_start c.args.quote c.args.text.now c.args.from c.requires.within

pub returns-in-None-clause-none : goal.returns-in-None-clause-none
returns-in-None-clause-none c = search_none c.args.quote c.args.text.now c.args.from c.pieces.at c.requires.quote c.pieces-test.true c.pieces.invariant c.in-None.ensures

pub returns-then-text-place-clause-place : goal.returns-then-text-place-clause-place
returns-then-text-place-clause-place c =
    let found = search_found c.args.quote c.args.text.now c.args.from c.pieces.at c.in-Some.plain c.pieces-test.true c.pieces.invariant c.in-Some.ensures in
    (omega (arith, c.pieces.invariant.above), found.0, c.if-text-place.true)

pub returns-then-text-place-clause-inner : goal.returns-then-text-place-clause-inner
returns-then-text-place-clause-inner c =
    let found = search_found c.args.quote c.args.text.now c.args.from c.pieces.at c.in-Some.plain c.pieces-test.true c.pieces.invariant c.in-Some.ensures in
    found.1.plain refl

pub pieces-preserved : goal.pieces-preserved
pieces-preserved c = search_next c.args.quote c.args.text.now c.args.from c.pieces.at c.in-Some.plain c.pieces-test.true c.pieces.invariant c.in-Some.ensures c.if-text-place.false

pub returns-clause-none : goal.returns-clause-none
returns-clause-none c = search_end c.args.quote c.args.text.now c.args.from c.pieces.at c.requires.quote c.pieces-test.false c.pieces.invariant
