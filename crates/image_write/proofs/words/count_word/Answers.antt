use Rattle.std.proofs.Common.{map, arith}
use Rattle.image_write.specs.declared.gathering.Occurrence.{Occurrence}
use Rattle.image_write.specs.steps.Places.{word_at}
use Rattle.image_write.proofs.ByWord.{agree, are_more, differ, some_counted, stopped, taken_all}
use Rattle.image_write.proofs.words.count_word.Goals as goal

abbrev none : Occurrence
none = record { head = 0; stand = 0; token = 0; position = 0 }

pub returns-then-not-are_of_one-clause-some : goal.returns-then-not-are_of_one-clause-some
returns-then-not-are_of_one-clause-some g c =
    let docs = map g.R.LendsDoc.lent c.args.rows.now in
    some_counted docs (word_at docs c.args.first.now) c.loop-number.number c.args.places.now none c.loop-number-test.true
    (differ c.are_of_one.result _ _ c.if-not-are_of_one.true c.are_of_one.ensures) c.requires.first

pub returns-then-not-are_of_one-clause-word : goal.returns-then-not-are_of_one-clause-word
returns-then-not-are_of_one-clause-word g c =
    let docs = map g.R.LendsDoc.lent c.args.rows.now in
    stopped docs (word_at docs c.args.first.now) c.loop-number.number c.args.places.now none c.loop-number-test.true
    (differ c.are_of_one.result _ _ c.if-not-are_of_one.true c.are_of_one.ensures) c.requires.first c.loop-number.invariant

pub loop-number-preserved : goal.loop-number-preserved
loop-number-preserved g c =
    let docs = map g.R.LendsDoc.lent c.args.rows.now in
    are_more docs (word_at docs c.args.first.now) c.loop-number.number c.args.places.now none c.loop-number-test.true (agree c.are_of_one.result _ _ c.if-not-are_of_one.false c.are_of_one.ensures) c.loop-number.invariant

pub returns-clause-word : goal.returns-clause-word
returns-clause-word g c =
    let docs = map g.R.LendsDoc.lent c.args.rows.now in
    taken_all docs (word_at docs c.args.first.now) c.loop-number.number c.args.places.now (omega arith) c.requires.first c.loop-number.invariant
