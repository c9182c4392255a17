use Rattle.std.proofs.Common.{ltb, arith, rules, sym, is_some, ap, ◌∙◌}
use Rattle.std.proofs.lemmas.List.Sorted.{IsPartitionPoint-from_clause}
use Rattle.charset_map.specs.declared.span.Span.{Span}
use Rattle.charset_map.proofs.SpanLemmas.{ends_parted, found_here, not_here, none_left, sound_here, ends_here}
use Rattle.charset_map.proofs.spans.look_up.Goals as goal

pub overflow_add-result : goal.overflow_add-result
overflow_add-result c =
    let span = c.in-Some.span.now in
    let sound = sound_here c.args.spans.now c.partition_point-place.result span c.requires c.in-Some.ensures.lookup.0 c.in-Some.ensures.lookup.1 in
    let to = ends_here c.args.spans.now c.args.number c.partition_point-place.result span c.in-Some.ensures.lookup.0 c.in-Some.ensures.lookup.1 (IsPartitionPoint-from_clause (λ (s : Span). ltb s.last c.args.number) c.args.spans.now c.partition_point-place.result c.partition_point-place.ensures.partitioned (ends_parted c.args.spans.now c.args.number c.requires) (λ a r f' k. search rules)) in
    omega (arith, sound.ordered, sound.values, to)

pub returns-in-Some-clause-within : goal.returns-in-Some-clause-within
returns-in-Some-clause-within c =
    let span = c.in-Some.span.now in
    let sound = sound_here c.args.spans.now c.partition_point-place.result span c.requires c.in-Some.ensures.lookup.0 c.in-Some.ensures.lookup.1 in
    let to = ends_here c.args.spans.now c.args.number c.partition_point-place.result span c.in-Some.ensures.lookup.0 c.in-Some.ensures.lookup.1 (IsPartitionPoint-from_clause (λ (s : Span). ltb s.last c.args.number) c.args.spans.now c.partition_point-place.result c.partition_point-place.ensures.partitioned (ends_parted c.args.spans.now c.args.number c.requires) (λ a r f' k. search rules)) in
    omega (arith, sound.ordered, sound.values, to)

pub returns-in-Some-clause-value : goal.returns-in-Some-clause-value
returns-in-Some-clause-value c =
    sym (found_here c.args.spans.now c.args.number c.partition_point-place.result c.in-Some.span.now c.requires c.in-Some.ensures.lookup.0 c.in-Some.ensures.lookup.1
    (IsPartitionPoint-from_clause (λ (s : Span). ltb s.last c.args.number) c.args.spans.now c.partition_point-place.result c.partition_point-place.ensures.partitioned (ends_parted c.args.spans.now c.args.number c.requires) (λ a r f' k. search rules))
    c.if-span-number.true)

pub returns-in_default-clause-value : goal.returns-in_default-clause-value
returns-in_default-clause-value c =
    sym (not_here c.args.spans.now c.args.number c.partition_point-place.result c.in-Some.span.now c.requires c.in-Some.ensures.lookup.0 c.in-Some.ensures.lookup.1
    (IsPartitionPoint-from_clause (λ (s : Span). ltb s.last c.args.number) c.args.spans.now c.partition_point-place.result c.partition_point-place.ensures.partitioned (ends_parted c.args.spans.now c.args.number c.requires) (λ a r f' k. search rules))
    c.if-span-number.false)

pub returns-in_default-2-clause-value : goal.returns-in_default-2-clause-value
returns-in_default-2-clause-value c =
    sym (none_left c.args.spans.now c.args.number c.partition_point-place.result (sym (ap is_some c.in_default.is) ∙ c.get.ensures.lookup.0)
    (IsPartitionPoint-from_clause (λ (s : Span). ltb s.last c.args.number) c.args.spans.now c.partition_point-place.result c.partition_point-place.ensures.partitioned (ends_parted c.args.spans.now c.args.number c.requires) (λ a r f' k. search rules)))
