use Rattle.std.proofs.Common.{◌≡◌, ◌∙◌, ap, sym, subst, arith, length, rules}
use Rattle.std.specs.Arc.{arc_value}
use Rattle.doc_types.specs.Chunks.{IsContent}
use Rattle.doc_types.specs.declared.plain_chunk.PlainChunk.{PlainChunk}
use Rattle.doc_vectors.proofs.Layers.{layer_is}
use Rattle.doc_vectors.proofs.snapshots.layer.Goals as goal

pub invariant_of-result : goal.invariant_of-result
invariant_of-result c =
    let same : arc_value c.in_ok-chunk-2.chunk ≡ c.in_ok-chunk.chunk = search rules in
    let kept : c.in_ok-chunk.chunk.rows ≡ c.in_ok-rows.rows.items = search rules in
    let all : arc_value c.in_ok-dead-2.dead ≡ c.args.dead.now = search rules in
    let long : length c.in_ok-rows.rows.items ≡ c.args.count = search rules in
    let are : (arc_value c.in_ok-chunk-2.chunk).rows ≡ c.in_ok-rows.rows.items = ap (λ (chunk : PlainChunk). chunk.rows) same ∙ kept in
    layer_is (arc_value c.in_ok-chunk-2.chunk).rows c.args.disk (arc_value c.in_ok-dead-2.dead) c.args.dead.now c.args.count (subst IsContent (sym are) c.in_ok-rows.ensures.content) (ap length are ∙ long) all c.requires.ascend c.requires.below

pub returns-clause-is : goal.returns-clause-is
returns-clause-is c = invariant_of-result c
