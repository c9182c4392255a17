use Rattle.std.proofs.Common.{ℕ, subst, arith}
use Rattle.engine_tables.specs.steps.Makings.{IsNone}
use Rattle.engine_tables.proofs.Composing.{all_sit, as_many, disks_back, placed_all}
use Rattle.engine_tables.proofs.engines.Engines.named.Goals as goal

pub make_all-requires : goal.make_all-requires
make_all-requires g c = record {
  nothing = subst (λ (n : ℕ). IsNone n c.in-Ok.none) (omega (arith, c.len.ensures, c.args.confs.ok.0)) c.in-Ok.ensures.none.0;
  named = c.requires.named;
  served = c.requires.served;
}

pub invariant_of-result : goal.invariant_of-result
invariant_of-result g c = (
  omega (arith, as_many c.args.confs.items c.args.stores.items c.in-Ok.none c.in-Going.made c.in-Going.ensures, c.requires.served.few),
  placed_all c.args.confs.items c.args.stores.items c.in-Ok.none c.in-Going.made c.in-Going.ensures,
)

pub returns-in-Going-clause-sit : goal.returns-in-Going-clause-sit
returns-in-Going-clause-sit g c = all_sit c.args.confs.items c.args.stores.items c.in-Ok.none c.in-Going.made c.in-Going.ensures

pub returns-in-Err-clause-disks : goal.returns-in-Err-clause-disks
returns-in-Err-clause-disks g c = disks_back g.D.Disk g.J.Naming.schema g.J.Naming.base g.J.Naming.opened c.args.workers c.args.stores.items c.give_back.result.items c.give_back.ensures.disks
