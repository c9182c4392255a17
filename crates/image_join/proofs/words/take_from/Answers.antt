use Rattle.std.proofs.Common.{◌≡◌, [], sym, ap, append-nil}
use Rattle.std.specs.List.{flat_map}
use Rattle.std.proofs.lemmas.Option.{slice_get_within}
use Rattle.image_join.specs.steps.Entries.{entries_in, entry_of, lent}
use Rattle.image_join.proofs.Passed.{goes_on, no_rows, stays}
use Rattle.image_join.proofs.words.take_from.Goals as goal

pub returns-then-not-is_next-clause-next : goal.returns-then-not-is_next-clause-next
returns-then-not-is_next-clause-next g c = λ last stands before ahead.
    stays last c.args.part.now c.args.next c.args.word.now c.requires.words stands before ahead c.if-not-is_next.ensures

pub returns-then-not-is_next-clause-found : goal.returns-then-not-is_next-clause-found
returns-then-not-is_next-clause-found g c = λ last stands before ahead.
    let part = c.args.part.now in
    let none : entries_in c.args.word.now c.args.numbers.now part ≡ [] =
    ap (flat_map (entry_of c.args.word.now c.args.numbers.now part.first part.rows)) (no_rows last part c.args.next c.args.word.now c.requires.words stands before ahead c.if-not-is_next.ensures) in
    rw none (sym (append-nil (lent c.args.found.now.items)))

pub collect-requires-clause-word : goal.collect-requires-clause-word
collect-requires-clause-word g c = slice_get_within c.args.part.now.words c.args.next.number c.args.word.now c.if-not-is_next.ensures

pub next_of-requires : goal.next_of-requires
next_of-requires g c = slice_get_within c.args.part.now.words c.args.next.number c.args.word.now c.if-not-is_next.ensures

pub returns-clause-next : goal.returns-clause-next
returns-clause-next g c = λ last stands before ahead.
    goes_on last c.args.part.now c.args.next c.args.word.now c.requires.words stands before ahead c.next_of.result c.if-not-is_next.ensures c.next_of.ensures.number c.next_of.ensures.headed

pub returns-clause-found : goal.returns-clause-found
returns-clause-found g c = λ last stands before ahead. c.in_ok-collect.ensures c.args.word.now c.if-not-is_next.ensures
