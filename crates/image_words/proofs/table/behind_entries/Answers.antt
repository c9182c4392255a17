use Rattle.image_words.proofs.HeadReading.{skipped_more, skipped_stop}
use Rattle.image_words.proofs.table.behind_entries.Goals as goal

pub returns-in-None : goal.returns-in-None
returns-in-None c = skipped_stop c.args.postings.now c.args.at c.entries.place c.entries.counter c.args.count c.entries.invariant c.entries-test.true c.in-None.ensures

pub entries-preserved : goal.entries-preserved
entries-preserved c = let its = c.in-Some.ensures in skipped_more c.args.postings.now c.args.at c.entries.place c.in-Some.end c.entries.counter its.0 its.1 c.entries.invariant its.2 its.3
