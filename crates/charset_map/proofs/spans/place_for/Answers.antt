use Rattle.std.proofs.Common.{◌+◌, ◌<◌, ltb, rules, sym, subst}
use Rattle.std.proofs.lemmas.List.Sorted.{IsPartitionPoint-from_clause}
use Rattle.std.proofs.lemmas.List.{get_or_default}
use Rattle.charset_map.specs.declared.span.Span.{Span}
use Rattle.charset_map.proofs.SpanLemmas.{ends_parted, sound_at}
use Rattle.charset_map.proofs.Overlaps.{Gathers, gathers_none, gathers_more, gathered_all, gathers_differ}
use Rattle.charset_map.proofs.spans.place_for.Goals as goal

pub loop-to-init : goal.loop-to-init
loop-to-init c =
    gathers_none c.args.span.now c.args.spans.now c.partition_point-from.result c.partition_point-from.ensures.bound
    (IsPartitionPoint-from_clause (λ (s : Span). ltb s.last c.args.span.now.first) c.args.spans.now c.partition_point-from.result c.partition_point-from.ensures.partitioned (ends_parted c.args.spans.now c.args.span.now.first c.requires.apart) (λ a r f' k. search rules))

pub alike-requires-clause-sound : goal.alike-requires-clause-sound
alike-requires-clause-sound c = sound_at 0 c.args.spans.now c.loop-to.to _ c.requires.apart c.loop-to-test.true

pub returns-then-not-alike : goal.returns-then-not-alike
returns-then-not-alike c =
    gathers_differ c.args.span.now c.args.spans.now c.partition_point-from.result c.loop-to.to c.loop-to.whole (record { first = 0; last = 0; value = 0 }) c.requires.apart c.requires.sound c.loop-to.invariant c.loop-to-test.true c.if-span-old.false (search rules)

pub loop-to-preserved : goal.loop-to-preserved
loop-to-preserved c =
    let d : Span = record { first = 0; last = 0; value = 0 } in
    subst (Gathers c.args.span.now c.args.spans.now c.partition_point-from.result (c.loop-to.to + 1)) (sym c.join-whole.ensures)
    (gathers_more c.args.span.now c.args.spans.now c.partition_point-from.result c.loop-to.to c.loop-to.whole d c.requires.apart c.loop-to.invariant c.loop-to-test.true c.if-span-old.false (search rules))

pub returns-then-span-old : goal.returns-then-span-old
returns-then-span-old c =
    gathered_all c.args.span.now c.args.spans.now c.partition_point-from.result c.loop-to.to c.loop-to.whole c.requires.apart c.loop-to.invariant (λ d within. subst (λ (s : Span). c.args.span.now.last < s.first) (get_or_default c.args.spans.now c.loop-to.to _ d within) c.if-span-old.true)
