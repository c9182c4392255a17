-- All engines may be shared by threads.
use denote.RattleType.{RattleType}
use denote.Param.Send.{IsSend, IsSync, sendable}
use Rattle.std.proofs.Crossing.{crosses}
use Rattle.chunk_store.specs.declared.disk.Disk.{Ghosts as DiskWords}
use Rattle.index_conf.proofs.conf.IndexConf.TheSendSync as confs
use Rattle.step_book.specs.declared.naming.Naming.{Ghosts as Names}
use Rattle.snap_share.proofs.Crossing.{engine_field_sync, engine_sync}
use Rattle.engine_tables.specs.contracts.table.Table as table
use Rattle.engine_tables.specs.contracts.engines.Engines as engines

module _ (N : RattleType) (g : Names N.Denot) (s : IsSend N) (y : IsSync N) (D : RattleType) (d : IsSend D) (w : DiskWords D.Denot) where
  table_sync : IsSync (table.the_row D N w g)
  table_sync = let v = engine_sync N g s y D d w in let u = engine_field_sync N g s y D d w in search (sendable, crosses, confs.the_field_sync) depth 20

  pub engines_sync : IsSync (engines.the_row D N w g)
  engines_sync = let v = table_sync in search (sendable, crosses) depth 20
