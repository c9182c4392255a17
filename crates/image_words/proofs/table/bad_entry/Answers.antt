use Rattle.std.proofs.Common.{arith}
use Rattle.image_words.proofs.TableReading.{entered_left, entered_more, entered_stop}
use Rattle.image_words.proofs.table.bad_entry.Goals as goal

pub returns-in-None : goal.returns-in-None
returns-in-None c = entered_stop c.args.table.now c.args.postings.now c.args.rows c.args.dictionary.now c.words.at c.words.last c.words.word c.args.words c.words.list c.words.invariant c.words-test.true c.in-None.ensures

pub words-preserved : goal.words-preserved
words-preserved c =
    let its = c.in-Some.ensures in
    entered_more c.args.table.now c.args.postings.now c.args.rows c.args.dictionary.now c.words.at c.in-Some.end c.words.last c.words.word c.words.list c.list_behind-list.result its.0 its.1 c.words.invariant its.2 its.3 c.list_behind-list.ensures

pub returns-then-at-dictionary : goal.returns-then-at-dictionary
returns-then-at-dictionary c = entered_left c.args.table.now c.args.postings.now c.args.rows c.args.dictionary.now c.words.at c.words.last c.words.word c.args.words c.words.list c.words.invariant (omega arith) c.requires.none c.if-at-dictionary.true
