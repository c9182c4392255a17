use Rattle.std.proofs.Common.{◌≡◌, ◌==◌, ◌+◌, ℕ, List, ◌∷◌, true, false, drop, sym, ap, ◌∙◌, rules}
use Rattle.std.proofs.lemmas.List.{at_drop_all, at_drop_more}
use Rattle.prefix_terms.specs.Prefixes.{Lists, list_of}
use Rattle.prefix_terms.proofs.Rewritten.{list_here, list_there}
use Rattle.prefix_terms.proofs.rewriting.list_of.Goals as goal

pub returns-then-list-query : goal.returns-then-list-query
returns-then-list-query c =
    let query = c.args.query in
    let lists : Lists = c.as_slice-list-items.result.now in
    let i = c.loop-list.list-index in
    let list = c.list-item.result in
    let same : (list.0 == query) ≡ true = search rules in
    let here : list_of query (drop i lists) ≡ list.1 =
    at_drop_more (list_of query) lists i list c.loop-list-test.true ∙ ap (λ (own : ℕ × List (List ℕ)). list_of query (own ∷ drop (i + 1) lists)) (sym c.list-item.is) ∙ list_here query list (drop (i + 1) lists) same in
    c.as_slice.ensures ∙ sym here ∙ c.loop-list.invariant ∙ ap (list_of query) c.as_slice-list-items.ensures

pub loop-list-preserved : goal.loop-list-preserved
loop-list-preserved c =
    let query = c.args.query in
    let lists : Lists = c.as_slice-list-items.result.now in
    let i = c.loop-list.list-index in
    let list = c.list-item.result in
    let other : (list.0 == query) ≡ false = search rules in
    let here : list_of query (drop i lists) ≡ list_of query (drop (i + 1) lists) =
    at_drop_more (list_of query) lists i list c.loop-list-test.true ∙ ap (λ (own : ℕ × List (List ℕ)). list_of query (own ∷ drop (i + 1) lists)) (sym c.list-item.is) ∙ list_there query list (drop (i + 1) lists) other in
    sym here ∙ c.loop-list.invariant

pub returns : goal.returns
returns c =
    let lists : Lists = c.as_slice-list-items.result.now in
    sym (at_drop_all (list_of c.args.query) lists c.loop-list.list-index c.loop-list-test.false) ∙ c.loop-list.invariant ∙ ap (list_of c.args.query) c.as_slice-list-items.ensures
