use Rattle.std.proofs.Common.{◌≡◌, ◌∙◌, List, subst, sym, ap, arith}
use Rattle.std.proofs.lemmas.List.{take_all}
use Rattle.doc_types.specs.Snapshots.{LayerValue, SnapshotValue, all_living}
use Rattle.prefix_terms.specs.Prefixes.{AreWordsWith}
use Rattle.prefix_terms.proofs.expanding.words_of_prefix.Goals as goal

pub returns : goal.returns
returns g c =
    let its = c.in_ok-found.ensures.words in
    let few = c.in_ok-found.ensures.few in
    let layers = c.as_slice.ensures ∙ ap (λ (snapshot : SnapshotValue). snapshot.layers) c.snapshot.view_is in
    let own = subst (λ (ls : List LayerValue). AreWordsWith (all_living ls) c.args.beginning.now its.0) layers its.1 in
    let whole : c.in_ok-found.found.kept.items ≡ its.0 = its.2.first ∙ take_all 18446744073709551615 its.0 (omega (arith, its.2.counted, few)) in
    subst (AreWordsWith (all_living c.args.snapshot.now.layers) c.args.beginning.now) (sym (c.new.ensures ∙ whole)) own
