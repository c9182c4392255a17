use Rattle.std.proofs.Common.{length-set, subst, sym, ◌∙◌}
use Rattle.std.specs.Arc.{arc_value}
use Rattle.doc_types.specs.Snapshots.{AreLayers, SnapshotValue}
use Rattle.engine_tables.specs.Tokens.{TokensValue}
use Rattle.engine_tables.proofs.Using.{is_used, used_grows, used_in_order, used_shows}
use Rattle.engine_tables.proofs.tokens.Tokens.read.Goals as goal

pub returns-in_err-found-clause-grow : goal.returns-in_err-found-clause-grow
returns-in_err-found-clause-grow g c =
    let view : TokensValue = record { worker = c.self.inside.worker; list = c.self.inside.list.items; told = c.self.inside.told.items } in
    let used = is_used view c.args.self.now c.self.inside.list.len c.args.place c.index_mut.result.now c.snapshot.new.token c.self.view_is c.self.inside.list.ok.0 c.self.invariant c.requires c.index_mut.ensures.value c.snapshot.ensures.same.index c.snapshot.ensures.same.worker in
    used_grows view c.args.self.now c.args.place c.index_mut.result.now c.snapshot.new.token used c.snapshot.ensures.same c.snapshot.ensures.seen

pub invariant_of-self-2 : goal.invariant_of-self-2
invariant_of-self-2 g c =
    let view : TokensValue = record { worker = c.self.inside.worker; list = c.self.inside.list.items; told = c.self.inside.told.items } in
    let used = is_used view c.args.self.now c.self.inside.list.len c.args.place c.index_mut.result.now c.snapshot.new.token c.self.view_is c.self.inside.list.ok.0 c.self.invariant c.requires c.index_mut.ensures.value c.snapshot.ensures.same.index c.snapshot.ensures.same.worker in
    used_in_order view c.args.self.now c.args.place c.index_mut.result.now c.snapshot.new.token used

pub returns-clause-found : goal.returns-clause-found
returns-clause-found g c =
    let view : TokensValue = record { worker = c.self.inside.worker; list = c.self.inside.list.items; told = c.self.inside.told.items } in
    let used = is_used view c.args.self.now c.self.inside.list.len c.args.place c.index_mut.result.now c.snapshot.new.token c.self.view_is c.self.inside.list.ok.0 c.self.invariant c.requires c.index_mut.ensures.value c.snapshot.ensures.same.index c.snapshot.ensures.same.worker in
    used_shows view c.args.self.now c.args.place c.index_mut.result.now c.snapshot.new.token used g.J.Naming.schema g.J.Naming.base (arc_value c.in_ok-found.found) c.in_ok-found.ensures.found c.snapshot.ensures.good
    (subst (λ (s : SnapshotValue). AreLayers s.layers) c.deref.ensures c.is_sound.ensures)

pub returns-clause-grow : goal.returns-clause-grow
returns-clause-grow g c =
    let view : TokensValue = record { worker = c.self.inside.worker; list = c.self.inside.list.items; told = c.self.inside.told.items } in
    let used = is_used view c.args.self.now c.self.inside.list.len c.args.place c.index_mut.result.now c.snapshot.new.token c.self.view_is c.self.inside.list.ok.0 c.self.invariant c.requires c.index_mut.ensures.value c.snapshot.ensures.same.index c.snapshot.ensures.same.worker in
    used_grows view c.args.self.now c.args.place c.index_mut.result.now c.snapshot.new.token used c.snapshot.ensures.same c.snapshot.ensures.seen

pub returns-in_err-found-clause-alike : goal.returns-in_err-found-clause-alike
returns-in_err-found-clause-alike g c = c.self.invariant.alike ∙ sym (length-set c.self.inside.list.items c.args.place c.snapshot.new.token)

pub returns-clause-alike : goal.returns-clause-alike
returns-clause-alike g c = c.self.invariant.alike ∙ sym (length-set c.self.inside.list.items c.args.place c.snapshot.new.token)
