use Rattle.std.proofs.Common.{rules, ◌≡◌, ◌∷◌, [], subst, sym}
use Rattle.doc_types.specs.Snapshots.{AreLayers}
use Rattle.eval_vectors.proofs.HeldRows.{one_whole}
use Rattle.eval_vectors.proofs.asking.snapshot_of.Goals as goal

pub invariant_of-result : goal.invariant_of-result
invariant_of-result g c =
    let all : c.new.result ≡ c.in_ok-layer_of.field-0 ∷ [] = search rules in
    subst AreLayers (sym all) (one_whole c.in_ok-layer_of.field-0 (g.C.Chunk.content c.args.chunk) c.in_ok-layer_of.ensures c.requires)
