use Rattle.self_test.proofs.Begun.{begun_empty}
use Rattle.self_test.proofs.engine.open_index.Goals as goal

pub returns-in-Ok : goal.returns-in-Ok
returns-in-Ok g c = record {
  servable = c.in_ok-index.ensures.servable;
  ours = c.in_ok-index.ensures.ours;
  opened = c.in-Ok.ensures.opened c.requires.hides;
  empty = begun_empty g.D.Disk c.in_ok-index.index.schema c.args.disk c.in-Ok.store c.requires.nothing c.in-Ok.ensures.found c.in-Ok.ensures.fresh;
}
