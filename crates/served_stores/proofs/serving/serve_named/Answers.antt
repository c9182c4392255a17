use Rattle.std.proofs.Common.{ℕ, arith, inr, refl, subst}
use Rattle.engine_tables.specs.Endings.{ComeBack}
use Rattle.served_stores.specs.declared.serving.Outcome.TheVariants as outcomes
use Rattle.served_stores.specs.declared.serving.Served.{Served}
use Rattle.served_stores.proofs.Wholes.{has_none, none_made}
use Rattle.served_stores.proofs.serving.serve_named.Goals as goal

pub returns-in-Err-named : goal.returns-in-Err-named
returns-in-Err-named g c =
    let served : Served g.row.D.Denot g.row.E.Denot = record { doors = c.args.doors; ends = c.without_notes.result; outcome = outcomes.NoMemory } in
    inr (has_none g.D.Disk g.J.Naming.schema g.J.Naming.base g.J.Naming.opened c.args.stores.items c.args.doors.items c.in-Err-named.ended.items served refl refl c.without_notes.ensures.ends
    (subst (λ (n : ℕ). ComeBack g.D.Disk g.J.Naming.schema g.J.Naming.base g.J.Naming.opened n c.args.stores.items c.in-Err-named.ended.items) (omega (arith, c.len-workers.ensures, c.args.doors.ok.0)) c.in-Err-named.ensures.disks))

pub returns-in-Err : goal.returns-in-Err
returns-in-Err g c =
    let served : Served g.row.D.Denot g.row.E.Denot = record { doors = c.args.doors; ends = c.unserved.result; outcome = outcomes.NoMemory } in
    inr (none_made g.D.Disk g.J.Naming.schema g.J.Naming.base g.J.Naming.opened c.args.stores.items c.args.doors.items served refl refl c.unserved.ensures.ends)
