use Rattle.std.proofs.Common.{◌∙◌, [], subst, sym}
use Rattle.doc_types.specs.Snapshots.{SnapshotValue}
use Rattle.store_reads.specs.steps.Loads.{IsSnapshotOf}
use Rattle.store_keep.proofs.Begun.{first_snapshot}
use Rattle.store_keep.proofs.beginning.first_of.Goals as goal

pub returns-clause-snapshot : goal.returns-clause-snapshot
returns-clause-snapshot c =
    subst (λ (s : SnapshotValue). IsSnapshotOf c.args.schema.now [] 0 [] s) (sym (c.in_ok-new.ensures.ok ∙ c.empty_snapshot-snapshot.ensures)) (first_snapshot c.args.schema.now)
