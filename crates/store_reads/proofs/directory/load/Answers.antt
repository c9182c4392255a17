use Rattle.std.proofs.Common.{ap, ◌∙◌}
use Rattle.doc_types.specs.Snapshots.{SnapshotValue}
use Rattle.store_steps.specs.Doubts.{sure_files}
use Rattle.store_reads.proofs.RootFound.{loaded_as}
use Rattle.store_reads.proofs.directory.load.Goals as goal

pub returns : goal.returns
returns c = λ schema chunks records loaded.
    loaded_as schema chunks c.args.root c.args.state c.args.logs records _ c.into_snapshot-snapshot.result c.snapshot.inside.number (c.into_snapshot-snapshot.ensures schema chunks c.args.state.through records loaded) c.in_ok-new.ensures.ok
    (ap (λ (s : SnapshotValue). s.number) c.snapshot.view_is) loaded c.requires.late (c.sure.ensures ∙ ap (sure_files c.args.root c.args.state) c.behind-log.ensures) c.saturating_sub-records.ensures c.live_count-documents.ensures
