use Rattle.std.proofs.Common.{◌-◌, ◌++◌, length, arith}
use Rattle.posting_codec.specs.HitLists.{key, differences}
use Rattle.posting_codec.proofs.Reading.{count_there}
use Rattle.image_chunk.proofs.Fields.{seen_none, seen_more, seen_next, seen_small, seen_all}
use Rattle.image_chunk.proofs.steps.hit_fields.Goals as goal

pub number_at-count-requires : goal.number_at-count-requires
number_at-count-requires c =
    let r = c.requires in
    (length r.0, differences 0 r.0 ++ r.1, count_there c.args.bytes.now c.args.at r.0 r.1 r.2)

pub hits-init : goal.hits-init
hits-init c = λ hits rest are.
    seen_none c.args.bytes.now c.args.at hits rest c.number_at-count.result.1 c.number_at-count.result.0 are (c.number_at-count.ensures (length hits) (differences 0 hits ++ rest) (count_there c.args.bytes.now c.args.at hits rest are))

pub number_at-step-requires : goal.number_at-step-requires
number_at-step-requires c =
    let r = c.requires in
    let n = seen_next c.args.bytes.now r.0 r.1 c.hits.place c.hits.key c.hits.known c.number_at-count.result.0 c.hits.counter (c.hits.invariant r.0 r.1 r.2) (omega arith) in
    (key n.hit - c.hits.key, differences (key n.hit) n.later ++ r.1, n.spelled)

pub overflow_add-key : goal.overflow_add-key
overflow_add-key c =
    let r = c.requires in
    omega (arith, seen_small c.args.bytes.now r.0 r.1 c.hits.place c.number_at-step.result.1 c.hits.key c.number_at-step.result.0 c.hits.known c.number_at-count.result.0 c.hits.counter (c.hits.invariant r.0 r.1 r.2) (omega arith) c.number_at-step.ensures)

pub with_field-known-requires-clause-few : goal.with_field-known-requires-clause-few
with_field-known-requires-clause-few c =
    let r = c.requires in
    omega (arith, seen_small c.args.bytes.now r.0 r.1 c.hits.place c.number_at-step.result.1 c.hits.key c.number_at-step.result.0 c.hits.known c.number_at-count.result.0 c.hits.counter (c.hits.invariant r.0 r.1 r.2) (omega arith) c.number_at-step.ensures)

pub with_field-known-requires-clause-below : goal.with_field-known-requires-clause-below
with_field-known-requires-clause-below c = let r = c.requires in (c.hits.invariant r.0 r.1 r.2).below

pub hits-preserved : goal.hits-preserved
hits-preserved c = λ hits rest are.
    seen_more c.args.bytes.now hits rest c.hits.place c.number_at-step.result.1 c.hits.key c.number_at-step.result.0 c.hits.known c.with_field-known.result c.number_at-count.result.0 c.hits.counter (c.hits.invariant hits rest are) (omega arith) c.number_at-step.ensures c.with_field-known.ensures

pub returns : goal.returns
returns c = λ hits rest are.
    seen_all c.args.bytes.now hits rest c.hits.place c.hits.key c.hits.known c.number_at-count.result.0 c.hits.counter (c.hits.invariant hits rest are) (omega arith)
