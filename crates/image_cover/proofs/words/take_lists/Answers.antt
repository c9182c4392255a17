use Rattle.std.proofs.Common.{arith}
use Rattle.image_cover.proofs.AllLists.{read_left, read_more}
use Rattle.image_cover.specs.Covers.{seen}
use Rattle.image_cover.proofs.words.take_lists.Goals as goal

pub words-preserved : goal.words-preserved
words-preserved c =
    read_more c.args.table.now c.args.rows c.args.postings.now c.words.at c.in-Some.end c.words.last c.words.word c.count_of-count.result c.args.starts.now c.args.width (seen c.args.cover.now) (seen c.words.cover) (seen c.take_list.new.cover) c.words.invariant c.count_of-count.ensures c.in-Some.ensures

pub returns-then-at-postings : goal.returns-then-at-postings
returns-then-at-postings c =
    read_left c.args.table.now c.args.rows c.args.postings.now c.words.at c.words.last c.words.word c.args.words c.args.starts.now c.args.width (seen c.args.cover.now) (seen c.words.cover) c.words.invariant (omega arith) c.requires.none c.if-at-postings.true
