use Rattle.std.proofs.Common.{ap, length, sym, ◌∙◌}
use Rattle.step_history.specs.Places.{disk_chunks}
use Rattle.store_keep.proofs.Counted.{chunks_counted}
use Rattle.store_keep.proofs.opening.Opened.disk_chunks.Goals as goal

pub returns : goal.returns
returns g c = c.disk_chunks.ensures ∙ sym (chunks_counted c.deref-snapshot.result.now) ∙ ap (λ snapshot. length (disk_chunks snapshot)) c.deref-snapshot.ensures
