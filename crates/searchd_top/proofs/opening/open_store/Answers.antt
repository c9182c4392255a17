use Rattle.std.proofs.Common.{◌∷◌, ◌++◌, List, [], sym, ap, subst, ◌∙◌}
use Rattle.std.specs.Prelude.{Some}
use Rattle.store_keep.proofs.Begun.{same_leaves}
use Rattle.store_keep.specs.declared.opening.Opened.{Opened}
use Rattle.program_host.specs.declared.status.Status.{Status}
use Rattle.program_host.specs.declared.status.Status.TheVariants.{NoMemory}
use Rattle.searchd_top.specs.Checks.{SaysUngiven}
use Rattle.searchd_top.specs.steps.Openings.{StopsOpening}
use Rattle.searchd_top.proofs.Held.{opens_one, says_ungiven, says_unopened, stops_ungiven, stops_unopened}
use Rattle.searchd_top.proofs.opening.open_store.Goals as goal

pub returns-in-Err-clause-opens : goal.returns-in-Err-clause-opens
returns-in-Err-clause-opens g c =
    stops_ungiven g.H.Host g.H.Store.Disk c.args.index.now c.from.result c.args.opened.now.items c.args.host.now c.open_store.new.self c.in-Err.ensures.gives_stores
    (subst (λ (status : Status). SaysUngiven status (record { before = g.H.Host.faults c.args.host.now; now = g.H.Host.faults c.open_store.new.self })) (sym c.from.ensures)
    (says_ungiven c.in-Err.fault (g.H.Host.faults c.args.host.now) (g.H.Host.faults c.open_store.new.self) c.in-Err.ensures.cause))
    (rw (← c.path_of.ensures) c.in-Err.ensures.asks)

pub returns-then-is_err-clause-opens : goal.returns-then-is_err-clause-opens
returns-then-is_err-clause-opens g c =
    subst (λ (after : List (Opened _)). StopsOpening g.H.Host g.H.Store.Disk (c.args.index.now ∷ []) (record { status = NoMemory; store = Some c.in-Ok.store }) c.args.opened.now.items after c.args.host.now c.open_store.new.self)
    (sym c.reserve.ensures.items)
    (stops_unopened g.H.Host g.H.Store.Disk c.args.index.now NoMemory c.in-Ok.store c.in-Ok.store c.args.opened.now.items c.args.host.now c.open_store.new.self c.in-Ok.ensures.gives_stores
    (λ hides. same_leaves g.H.Store.Disk c.args.index.now.schema c.in-Ok.store) tt c.in-Ok.ensures.cause (rw (← c.path_of.ensures) c.in-Ok.ensures.asks))

pub returns-in-Ok-open-clause-opens : goal.returns-in-Ok-open-clause-opens
returns-in-Ok-open-clause-opens g c =
    opens_one g.H.Host g.H.Store.Disk c.args.index.now c.in-Ok.store c.in-Ok-open.store c.args.opened.now.items c.push_reserved.new.self.items c.args.host.now c.open_store.new.self c.in-Ok.ensures.gives_stores
    (c.push_reserved.ensures.items ∙ ap (λ (before : List (Opened _)). before ++ c.in-Ok-open.store ∷ []) c.reserve.ensures.items)
    c.in-Ok-open.ensures.found c.in-Ok-open.ensures.leaves (c.in-Ok-open.ensures.opened c.in-Ok.ensures.hides) c.in-Ok.ensures.cause (rw (← c.path_of.ensures) c.in-Ok.ensures.asks)

pub returns-in-Err-open-clause-opens : goal.returns-in-Err-open-clause-opens
returns-in-Err-open-clause-opens g c =
    subst (λ (after : List (Opened _)). StopsOpening g.H.Host g.H.Store.Disk (c.args.index.now ∷ []) (record { status = c.status_of.result; store = Some c.in-Err-open.store }) c.args.opened.now.items after c.args.host.now c.open_store.new.self)
    (sym c.reserve.ensures.items)
    (stops_unopened g.H.Host g.H.Store.Disk c.args.index.now c.status_of.result c.in-Ok.store c.in-Err-open.store c.args.opened.now.items c.args.host.now c.open_store.new.self c.in-Ok.ensures.gives_stores
    c.in-Err-open.ensures.leaves
    (says_unopened g.H.Store.Disk c.args.index.now c.in-Ok.store c.in-Err-open.store c.in-Err-open.fault c.status_of.result c.status_of.ensures c.in-Err-open.ensures.refused c.in-Err-open.ensures.cause)
    c.in-Ok.ensures.cause (rw (← c.path_of.ensures) c.in-Ok.ensures.asks))
