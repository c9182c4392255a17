use Rattle.std.proofs.Common.{◌+◌, ◌-◌, List, drop, take, map}
use Rattle.image_write.specs.steps.Gathering.{Place}
use Rattle.image_write.specs.steps.Places.{place_at}
use Rattle.image_write.proofs.Tabled.{can_post, counted_of, one_more, within_ahead}
use Rattle.image_write.proofs.words.put_words.Goals as goal

pub put_word-requires : goal.put_word-requires
put_word-requires g c =
    let docs = map g.R.LendsDoc.lent c.args.rows.now in
    let at = c.loop-at.at in
    let n = c.count_word.result in
    let word = c.word_of-word.result.now in
    let group : List Place = map place_at (take (at + n - at) (drop at c.args.places.now)) in
    can_post docs c.args.places.now at c.loop-at.count n word group c.args.table.now.items c.loop-at.table.items c.loop-at.dictionary.items c.loop-at.postings.items c.loop-at.invariant
    (counted_of docs c.args.places.now at n word _ c.word_of-word.ensures c.count_word.ensures.word)

pub loop-at-preserved : goal.loop-at-preserved
loop-at-preserved g c =
    let docs = map g.R.LendsDoc.lent c.args.rows.now in
    let at = c.loop-at.at in
    let n = c.count_word.result in
    let word = c.word_of-word.result.now in
    let group : List Place = map place_at (take (at + n - at) (drop at c.args.places.now)) in
    one_more docs c.args.places.now at c.loop-at.count n word group c.args.table.now.items c.loop-at.table.items c.loop-at.dictionary.items c.loop-at.postings.items
    c.put_word.new.table.items c.put_word.new.dictionary.items c.put_word.new.postings.items
    c.count_word.ensures.some (within_ahead docs c.args.places.now at n c.count_word.ensures.within) c.loop-at.invariant
    (counted_of docs c.args.places.now at n word _ c.word_of-word.ensures c.count_word.ensures.word)
    c.in_ok-put_word.ensures.table c.in_ok-put_word.ensures.dictionary c.in_ok-put_word.ensures.postings
