use Rattle.std.proofs.Common.{◌∙◌, List, sym, subst, rules}
use Rattle.doc_types.specs.Snapshots.{LayerValue, all_living}
use Rattle.layer_joins.specs.Joins.{AreOfOne}
use Rattle.reshape.proofs.Taking.{taken_of}
use Rattle.job_chunks.proofs.Built.{of_one, takes}
use Rattle.job_chunks.proofs.building.made.Goals as goal

pub made_of-requires-clause-of : goal.made_of-requires-clause-of
made_of-requires-clause-of c =
    let from = c.args.snapshot.now in
    subst (λ (ls : List LayerValue). AreOfOne (all_living ls)) (sym (c.as_slice-2.ensures.value ∙ c.in_ok-layers.ensures.layers)) (taken_of c.args.job from (of_one c.requires.0 from c.requires.1 c.requires.2))

pub returns : goal.returns
returns c = takes c.args.job c.args.snapshot.now c.as_slice-2.result.now c.in_ok-staying.staying _ (c.as_slice-2.ensures.value ∙ c.in_ok-layers.ensures.layers) (search rules) c.made_of.ensures
