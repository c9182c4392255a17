use Rattle.std.proofs.Common.{rules, ◌≡◌, ◌-◌, [], ◌∷◌, ◌++◌, length, ap, ◌∙◌, arith}
use Rattle.posting_codec.specs.HitLists.{key, differences}
use Rattle.posting_codec.proofs.Reading.{count_there, left_none, left_more, next, step_small}
use Rattle.posting_codec.proofs.hits.hits_at.Goals as goal

pub number_at-count-requires : goal.number_at-count-requires
number_at-count-requires c =
    let r = c.requires in
    (length r.0, differences 0 r.0 ++ r.1, count_there c.args.bytes.now c.args.at r.0 r.1 r.2)

pub hits-init : goal.hits-init
hits-init c = λ hits rest are.
    left_none c.args.bytes.now c.args.at hits rest c.args.into.now.items c.number_at-count.result.1 c.number_at-count.result.0 are (c.number_at-count.ensures (length hits) (differences 0 hits ++ rest) (count_there c.args.bytes.now c.args.at hits rest are))

pub number_at-step-requires : goal.number_at-step-requires
number_at-step-requires c =
    let r = c.requires in
    let n = next c.args.bytes.now r.0 r.1 c.args.into.now.items c.hits.into.items c.hits.place c.hits.key c.number_at-count.result.0 c.hits.counter (c.hits.invariant r.0 r.1 r.2) (omega arith) in
    (key n.hit - c.hits.key, differences (key n.hit) n.later ++ r.1, n.spelled)

pub overflow_add-key : goal.overflow_add-key
overflow_add-key c =
    let r = c.requires in
    omega (arith, step_small c.args.bytes.now r.0 r.1 c.args.into.now.items c.hits.into.items c.hits.place c.number_at-step.result.1 c.hits.key c.number_at-step.result.0 c.number_at-count.result.0 c.hits.counter (c.hits.invariant r.0 r.1 r.2) (omega arith) c.number_at-step.ensures)

pub hit_of-requires : goal.hit_of-requires
hit_of-requires c =
    let r = c.requires in
    omega (arith, step_small c.args.bytes.now r.0 r.1 c.args.into.now.items c.hits.into.items c.hits.place c.number_at-step.result.1 c.hits.key c.number_at-step.result.0 c.number_at-count.result.0 c.hits.counter (c.hits.invariant r.0 r.1 r.2) (omega arith) c.number_at-step.ensures)

pub hits-preserved : goal.hits-preserved
hits-preserved c =
    let pushed : c.push.new.self.items ≡ c.hits.into.items ++ c.hit_of.result ∷ [] = search rules in
    let after = pushed ∙ ap (λ hit. c.hits.into.items ++ hit ∷ []) c.hit_of.ensures in
    λ hits rest are.
    left_more c.args.bytes.now hits rest c.args.into.now.items c.hits.into.items c.push.new.self.items c.hits.place c.number_at-step.result.1 c.hits.key c.number_at-step.result.0 c.number_at-count.result.0 c.hits.counter (c.hits.invariant hits rest are) (omega arith) c.number_at-step.ensures after
