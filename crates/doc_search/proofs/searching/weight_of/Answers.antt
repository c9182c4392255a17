use Rattle.std.proofs.Common.{◌≡◌, true, rules}
use Rattle.doc_search.proofs.searching.weight_of.Goals as goal

pub returns-then-gives_one-clause-weighed : goal.returns-then-gives_one-clause-weighed
returns-then-gives_one-clause-weighed g c = λ doc here.
    let yes : c.gives_one.result ≡ true = search rules in
    c.weight_alike.ensures.weighed c.args.asked.now doc (c.gives_one.ensures yes) c.requires.query here
