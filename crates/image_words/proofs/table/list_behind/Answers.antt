use Rattle.image_words.proofs.TableReading.{end_never, ends_answer}
use Rattle.image_words.proofs.table.list_behind.Goals as goal

pub returns-in-Some : goal.returns-in-Some
returns-in-Some c =
    let so_far = rw c.in-Some.is at c.requires.so_far in
    ends_answer c.args.table.now c.args.postings.now c.args.word c.in-Some.place c.u32_in-docs.result c.behind_entries.result so_far c.u32_in-docs.ensures c.behind_entries.ensures

pub returns-in-None : goal.returns-in-None
returns-in-None c =
    let so_far = rw c.in-None.is at c.requires.so_far in
    end_never c.args.table.now c.args.postings.now c.args.word so_far
