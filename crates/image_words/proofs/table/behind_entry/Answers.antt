use Rattle.std.proofs.Common.{arith}
use Rattle.image_words.proofs.HeadReading.{entry_found, no_size, too_few}
use Rattle.image_words.proofs.table.behind_entry.Goals as goal

pub returns-in-None-short_of : goal.returns-in-None-short_of
returns-in-None-short_of c =
    let a = c.in-Some.ensures in
    no_size c.args.postings.now c.args.at c.in-Some.read.0 c.in-Some.read.1 a.0 a.1 a.2 c.in-None-short_of.ensures

pub returns-then-saturating_sub-size : goal.returns-then-saturating_sub-size
returns-then-saturating_sub-size c =
    let a = c.in-Some.ensures in let b = c.in-Some-short_of.ensures in
    too_few c.args.postings.now c.args.at c.in-Some.read.0 c.in-Some.read.1 c.in-Some-short_of.read.0 c.in-Some-short_of.read.1 a.0 b.0 a.1 a.2 b.1 b.2 (omega arith)

pub returns : goal.returns
returns c =
    let a = c.in-Some.ensures in let b = c.in-Some-short_of.ensures in
    entry_found c.args.postings.now c.args.at c.in-Some.read.0 c.in-Some.read.1 c.in-Some-short_of.read.0 c.in-Some-short_of.read.1 a.0 b.0 a.1 a.2 b.1 b.2 (omega arith)
