use Rattle.std.proofs.Common.{◌≡◌, ◌∷◌, List, refl, sym, subst}
use Rattle.index_conf.specs.declared.conf.IndexConf.{IndexConf}
use Rattle.searchd_top.specs.steps.Openings.{OpensAll, OpensStores, StopsOpening}
use Rattle.searchd_top.proofs.Doing.{requested_none}
use Rattle.searchd_top.proofs.Held.{no_index, opens_none, opens_then, stops_first}
use Rattle.searchd_top.proofs.opening.+open_stores.Goals as goal

pub returns-in-Ok-clause-opens : goal.returns-in-Ok-clause-opens
returns-in-Ok-clause-opens g t c =
    let are : c.args.indexes.now ≡ c.in-Some.index.now ∷ c.in-Some.others.now = c.in-Some.ensures.cases.0 in
    subst (λ (indexes : List IndexConf). OpensStores g.H.Host g.H.Store.Disk indexes c.open_stores.result c.args.opened.now.items c.open_stores.new.opened.items c.args.host.now c.open_stores.new.host) (sym are)
    (opens_then g.H.Host g.H.Store.Disk c.in-Some.index.now c.in-Some.others.now c.open_stores.result c.args.opened.now.items c.open_store.new.opened.items c.open_stores.new.opened.items
    c.args.host.now c.open_store.new.host c.open_stores.new.host c.in-Ok.ensures.opens c.open_stores.ensures.opens)

pub returns-in-Err-clause-opens : goal.returns-in-Err-clause-opens
returns-in-Err-clause-opens g t c =
    let are : c.args.indexes.now ≡ c.in-Some.index.now ∷ c.in-Some.others.now = c.in-Some.ensures.cases.0 in
    subst (λ (indexes : List IndexConf). StopsOpening g.H.Host g.H.Store.Disk indexes c.in-Err.stop c.args.opened.now.items c.open_store.new.opened.items c.args.host.now c.open_store.new.host) (sym are)
    (stops_first g.H.Host g.H.Store.Disk c.in-Some.index.now c.in-Some.others.now c.in-Err.stop c.args.opened.now.items c.open_store.new.opened.items c.args.host.now c.open_store.new.host c.in-Err.ensures.opens)

pub returns-in-None-clause-opens : goal.returns-in-None-clause-opens
returns-in-None-clause-opens g t c =
    subst (λ (indexes : List IndexConf). OpensAll g.H.Host g.H.Store.Disk indexes c.args.opened.now.items c.args.opened.now.items c.args.host.now c.args.host.now) (sym (no_index c.args.indexes.now c.in-None.ensures.cases))
    (opens_none g.H.Host g.H.Store.Disk c.args.opened.now.items c.args.host.now (requested_none (g.H.Host.requests c.args.host.now) (g.H.Host.requests c.args.host.now) refl))
