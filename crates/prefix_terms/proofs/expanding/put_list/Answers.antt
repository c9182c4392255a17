use Rattle.std.proofs.Common.{◌∷◌, [], ℕ, List, rules, subst}
use Rattle.doc_types.specs.Snapshots.{all_living}
use Rattle.prefix_terms.specs.Prefixes.{AreWordsWith}
use Rattle.prefix_terms.proofs.Listing.{expanded_none, expanded_one, listed_more, listed_same}
use Rattle.prefix_terms.proofs.expanding.put_list.Goals as goal

pub returns-then-not-is_prefix-clause-lists : goal.returns-then-not-is_prefix-clause-lists
returns-then-not-is_prefix-clause-lists g c = λ lists was. ([], expanded_none (all_living c.args.layers.now) c.args.key.now (search rules), listed_same lists _ _ was)

pub returns-clause-lists : goal.returns-clause-lists
returns-clause-lists g c = λ lists was.
    let its = c.in_ok-found.ensures.words in
    let own : AreWordsWith (all_living c.args.layers.now) c.args.key.now.word its.0 = subst (λ (beginning : List ℕ). AreWordsWith (all_living c.args.layers.now) beginning its.0) c.as_bytes.ensures its.1 in
    ((c.args.key.now.query, its.0) ∷ [], expanded_one (all_living c.args.layers.now) c.args.key.now its.0 (search rules) own, listed_more lists _ _ _ c.args.key.now.query _ _ _ its.0 _ was its.2 c.room_behind-room.ensures (search rules) (search rules))
