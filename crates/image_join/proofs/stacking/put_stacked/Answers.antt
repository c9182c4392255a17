use Rattle.std.proofs.Common.{◌≡◌, ◌+◌, ◌<◌, ◌++◌, ◌∷◌, ◌∙◌, [], Some, length, get_or, slice_get, subst, ap, arith, rules}
use Rattle.posting_codec.specs.PostingLists.{posting_list}
use Rattle.image_join.specs.steps.Stacking.{behind, moved}
use Rattle.std.proofs.lemmas.Option.{get_or_from_slice_get, slice_get-get_or}
use Rattle.doc_types.specs.declared.cursor.TheConstants.{NO_ROW}
use Rattle.doc_types.specs.Chunks.{rows_with}
use Rattle.image_join.proofs.Stacked.{behind_one, first_of, list_of, posted_part}
use Rattle.image_join.proofs.stacking.put_stacked.Goals as goal

pub put_moved-requires-clause-list : goal.put_moved-requires-clause-list
put_moved-requires-clause-list g c =
    let part = c.args.part.now in
    let w = get_or part.words c.args.word [] in
    let there : slice_get part.words c.args.word ≡ Some w = slice_get-get_or part.words c.args.word [] c.requires.word in
    let some : 0 < length (rows_with w part.rows) = c.requires.words.each c.args.word [] c.requires.word in
    let its = first_of w part some c.requires.few in
    (its.entry, its.more, list_of w c.list.result.now part its (c.list.ensures w there), omega (arith, its.low, c.first-by.ensures))

pub behind_all-least-requires-clause-first : goal.behind_all-least-requires-clause-first
behind_all-least-requires-clause-first g c = λ w there one.
    let part = c.args.part.now in
    let counted : c.count-rows.result ≡ length (rows_with w part.rows) = c.count-rows.ensures w there in
    let its = first_of w part (omega (arith, counted, one)) c.requires.few in
    let low : c.first-by.result + its.entry.0 < NO_ROW = omega (arith, its.low, c.first-by.ensures) in
    let first : c.in_ok-first.first ≡ c.first-by.result + its.entry.0 + 1 = c.in_ok-first.ensures.behind its.entry its.more (list_of w c.list.result.now part its (c.list.ensures w there)) low in
    let last : behind 0 (rows_with w part.rows) ≡ its.entry.0 + 1 = behind_one w part its (omega (arith, counted, one)) in
    omega (arith, first, last, c.first-by.ensures)

pub returns-clause-posted : goal.returns-clause-posted
returns-clause-posted g c = λ w there.
    let part = c.args.part.now in
    let same : get_or part.words c.args.word w ≡ w = get_or_from_slice_get part.words c.args.word w w there in
    let some : 0 < length (rows_with w part.rows) = subst (λ v. 0 < length (rows_with v part.rows)) same (c.requires.words.each c.args.word w c.requires.word) in
    let its = first_of w part some c.requires.few in
    let list = list_of w c.list.result.now part its (c.list.ensures w there) in
    let low : c.first-by.result + its.entry.0 < NO_ROW = omega (arith, its.low, c.first-by.ensures) in
    let count : c.in_ok-count.count ≡ c.args.reached.count + c.count-rows.result = search rules in
    posted_part w part its c.args.out.now.items c.put_moved.new.out.items c.args.reached _ c.requires.few (omega (arith, c.requires.least))
    (c.in_ok-first.ensures.list its.entry its.more list low ∙ ap (λ by. c.args.out.now.items ++ posting_list c.args.reached.least (moved by (its.entry ∷ its.more))) c.first-by.ensures)
    (c.behind_all-least.ensures.is w there) (count ∙ ap (λ n. c.args.reached.count + n) (c.count-rows.ensures w there))
