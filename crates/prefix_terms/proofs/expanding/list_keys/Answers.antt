use Rattle.std.proofs.Common.{◌≡◌, ◌+◌, ◌++◌, ◌∷◌, [], List, map, take, subst, sym, ap, ◌∙◌, arith}
use Rattle.std.specs.Borrow.{Bor}
use Rattle.std.proofs.lemmas.List.{map_more, take_all}
use Rattle.doc_types.specs.Snapshots.{all_living}
use Rattle.query_tree.specs.declared.key.Key.{Key}
use Rattle.prefix_terms.specs.Prefixes.{AreExpanded}
use Rattle.prefix_terms.proofs.Listing.{expanded_more}
use Rattle.prefix_terms.proofs.expanding.list_keys.Goals as goal

-- the keywords behind references
abbrev behind : List (Bor Key) → List Key
behind keys = map (λ (key : Bor Key). key.now) keys

pub loop-key-init : goal.loop-key-init
loop-key-init g c = record {
  lists = [];
  are = tt;
  listed = record { counted = c.none_listed-listed.ensures.count; whole = λ low. c.none_listed-listed.ensures.lists };
  few = let none = c.none_listed-listed.ensures.count in omega (arith, none);
}

pub put_list-requires-clause-count : goal.put_list-requires-clause-count
put_list-requires-clause-count g c = omega (arith, c.requires.keys, c.loop-key-test.true, c.loop-key.invariant.few)

pub loop-key-preserved : goal.loop-key-preserved
loop-key-preserved g c =
    let keys = c.args.keys.now in
    let i = c.loop-key.key-index in
    let lists = c.loop-key.invariant.lists in
    let key = c.key-item.result in
    let its = c.in_ok-put_list.ensures.lists lists c.loop-key.invariant.listed in
    let step : behind (take (i + 1) keys) ≡ behind (take i keys) ++ key.now ∷ [] =
    map_more (λ (key : Bor Key). key.now) keys i key c.loop-key-test.true ∙ ap (λ (own : Bor Key). behind (take i keys) ++ own.now ∷ []) (sym c.key-item.is) in
    record {
      lists = lists ++ its.0;
      are = subst (λ (all : List Key). AreExpanded (all_living c.args.layers.now) all (lists ++ its.0)) (sym step) (expanded_more (all_living c.args.layers.now) (behind (take i keys)) (key.now ∷ []) lists its.0 c.loop-key.invariant.are its.1);
      listed = its.2;
      few = omega (arith, c.in_ok-put_list.ensures.count, c.loop-key.invariant.few);
    }

pub returns : goal.returns
returns g c =
    let all = ap behind (take_all c.loop-key.key-index c.args.keys.now c.loop-key-test.false) in
    (c.loop-key.invariant.lists, subst (λ (own : List Key). AreExpanded (all_living c.args.layers.now) own c.loop-key.invariant.lists) all c.loop-key.invariant.are, c.loop-key.invariant.listed)
