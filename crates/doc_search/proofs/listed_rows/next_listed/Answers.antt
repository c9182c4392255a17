use Rattle.std.proofs.Common.{◌≡◌, Some, slice_get, length, refl, arith}
use Rattle.std.proofs.lemmas.Option.{slice_get_read}
use Rattle.doc_search.proofs.ListedIds.{found_at, goes_by, missed_at, past_last}
use Rattle.doc_search.proofs.listed_rows.next_listed.Goals as goal

pub returns-then-has_id-clause-next : goal.returns-then-has_id-clause-next
returns-then-has_id-clause-next g c = λ question sorted have.
    let docs = g.C.Chunk.content c.args.chunk.now in
    let here : slice_get c.args.ids.now c.ids.passed ≡ Some c.in-Some.number.now =
    slice_get_read c.args.ids.now (length c.args.ids.now) c.ids.passed c.in-Some.number.now refl c.in-Some.ensures.lookup.3.0 c.in-Some.ensures.lookup.1 in
    let past = c.ids.invariant.2 question sorted have in (
      goes_by docs c.requires.rows question c.args.ids.now sorted c.args.at c.ids.from c.ids.passed c.first_from-from.result c.in-Some.number.now here c.first_from-from.ensures past,
      found_at docs c.requires.rows question c.args.ids.now sorted c.args.at c.ids.from c.ids.passed c.first_from-from.result c.in-Some.number.now here c.first_from-from.ensures past
          c.has_id.result (c.has_id.ensures.within c.if-has_id.true) c.has_id.ensures.told c.if-has_id.true,
    )

pub ids-preserved : goal.ids-preserved
ids-preserved g c = (
  omega (arith, c.ids.invariant.0, c.first_from-from.ensures.on),
  c.first_from-from.ensures.within,
  λ question sorted have.
      let here : slice_get c.args.ids.now c.ids.passed ≡ Some c.in-Some.number.now =
      slice_get_read c.args.ids.now (length c.args.ids.now) c.ids.passed c.in-Some.number.now refl c.in-Some.ensures.lookup.3.0 c.in-Some.ensures.lookup.1 in
      missed_at (g.C.Chunk.content c.args.chunk.now) c.requires.rows question c.args.ids.now sorted c.args.at c.ids.from c.ids.passed c.first_from-from.result c.in-Some.number.now here c.first_from-from.ensures
      (c.ids.invariant.2 question sorted have) c.has_id.result c.has_id.ensures.told c.if-has_id.false,
)

pub returns-clause-next : goal.returns-clause-next
returns-clause-next g c = λ question sorted have.
    past_last (g.C.Chunk.content c.args.chunk.now) c.requires.rows question c.args.ids.now sorted c.args.at c.ids.from c.ids.passed c.rows.result c.rows.ensures c.in_default.ensures.lookup.3 (c.ids.invariant.2 question sorted have)
