use Rattle.std.proofs.Common.{List, length, subst, ap, arith, ◌∙◌}
use Rattle.doc_types.specs.Snapshots.{LayerValue, SnapshotValue, all_living}
use Rattle.query_tree.specs.TreeKeys.{query_keys}
use Rattle.prefix_terms.specs.Prefixes.{AreExpanded}
use Rattle.prefix_terms.proofs.Listing.{expands}
use Rattle.prefix_terms.proofs.expanding.expand.Goals as goal

pub list_all-requires-clause-layers : goal.list_all-requires-clause-layers
list_all-requires-clause-layers g c =
    let same = ap (λ (layers : List LayerValue). length layers) c.as_slice.ensures in
    omega (arith, same, c.snapshot.invariant.few_layers)

pub returns-in-Ok : goal.returns-in-Ok
returns-in-Ok g c =
    let its = c.in-Ok.ensures in
    let layers = c.as_slice.ensures ∙ ap (λ (snapshot : SnapshotValue). snapshot.layers) c.snapshot.view_is in
    expands c.args.snapshot.now c.args.query.now its.0 c.in-Ok.listed.lists.items c.in-Ok.listed.count c.told.result (subst (λ (ls : List LayerValue). AreExpanded (all_living ls) (query_keys c.args.query.now) its.0) layers its.1) its.2 c.told.ensures
