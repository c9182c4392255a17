use Rattle.std.proofs.Common.{◌≡◌, false, Bor, map, All, IfOk, subst, sym, ap, ◌∙◌}
use Rattle.std.specs.List.{list_any}
use Rattle.query_tree.specs.declared.key.Key.{Key}
use Rattle.query_tree.specs.TreeKeys.{node_keys}
use Rattle.occ_lists.specs.Terms.{IsPlaced}
use Rattle.op_eval.specs.Finding.{Found}
use Rattle.op_eval.specs.steps.Evaluating.{Finds}
use Rattle.op_eval.specs.steps.Searching.{node_found}
use Rattle.word_rows.specs.Slots.{keys_of, number_among}
use Rattle.word_rows.specs.Terms.{IsShort}
use Rattle.word_rows.proofs.FirstUses.{number_short}
use Rattle.op_eval.proofs.Searched.{finds_as, hits_are, knows_as, node_apart, nothing_found, occs_are, seen_as, terms_as, told_is}
use Rattle.op_eval.proofs.search.Search.find.Goals as goal

pub find-told-requires-clause-placed : goal.find-told-requires-clause-placed
find-told-requires-clause-placed g c = subst (All IsPlaced) (sym c.deref-2.ensures.value) c.in_ok-load.ensures.placed

pub returns-then-is_ruled_out-clause-told : goal.returns-then-is_ruled_out-clause-told
returns-then-is_ruled_out-clause-told g c = λ found here.
    let node = c.args.self.now.root.now in
    sym
    (c.is_ruled_out.ensures c.if-is_ruled_out.true found (number_among (node_keys node)) (node_apart node)
    (seen_as found (keys_of c.seek.new.slots) (node_keys node) c.seek.new.slots.terms.items c.deref.result.now
    (ap (λ keys. map (λ (key : Bor Key). key.now) keys.items) c.seek.ensures.keys ∙ c.requires.search.keys) c.deref.ensures.value (c.seek.ensures.seen found here)))

pub returns-then-is_ruled_out-clause-occs : goal.returns-then-is_ruled_out-clause-occs
returns-then-is_ruled_out-clause-occs g c = λ found here passes.
    let node = c.args.self.now.root.now in
    let fails : (node_found node found).matches ≡ false =
    c.is_ruled_out.ensures c.if-is_ruled_out.true found (number_among (node_keys node)) (node_apart node)
    (seen_as found (keys_of c.seek.new.slots) (node_keys node) c.seek.new.slots.terms.items c.deref.result.now
    (ap (λ keys. map (λ (key : Bor Key). key.now) keys.items) c.seek.ensures.keys ∙ c.requires.search.keys) c.deref.ensures.value (c.seek.ensures.seen found here)) in
    ap (list_any passes) (c.clear.ensures.occs ∙ sym (ap (λ (all : Found). all.occurrences) (nothing_found node found fails)))

pub returns-then-is_ruled_out-clause-hits : goal.returns-then-is_ruled_out-clause-hits
returns-then-is_ruled_out-clause-hits g c = λ found here few passes.
    let node = c.args.self.now.root.now in
    let fails : (node_found node found).matches ≡ false =
    c.is_ruled_out.ensures c.if-is_ruled_out.true found (number_among (node_keys node)) (node_apart node)
    (seen_as found (keys_of c.seek.new.slots) (node_keys node) c.seek.new.slots.terms.items c.deref.result.now
    (ap (λ keys. map (λ (key : Bor Key). key.now) keys.items) c.seek.ensures.keys ∙ c.requires.search.keys) c.deref.ensures.value (c.seek.ensures.seen found here)) in
    ap (list_any passes) (c.clear.ensures.hits ∙ sym (ap (λ (all : Found). all.hits) (nothing_found node found fails)))

pub returns-clause-told : goal.returns-clause-told
returns-clause-told g c = λ found here.
    let node = c.args.self.now.root.now in
    let same = ap (λ root. root.now) c.in_ok-load.ensures.root in
    let finds : IfOk c.find-told.result (Finds (IsShort (number_among (node_keys node))) (node_found node found) c.clear.new.self c.find-told.new.out) =
    finds_as found node c.load.new.self.root.now same (IsShort (number_among (node_keys node))) c.load.new.self.work.spans.items c.clear.new.self c.find-told.new.out c.find-told.result c.in_ok-load.ensures.search.none
    (c.find-told.ensures.found found (number_among (node_keys node))
    (terms_as found node c.load.new.self.root.now same c.load.new.self.slots.terms.items c.deref-2.result.now c.deref-2.ensures.value (c.in_ok-load.ensures.terms found here))
    (knows_as found node c.load.new.self.root.now same c.load.new.self.marks (c.in_ok-load.ensures.marks found here))) in
    told_is (IsShort (number_among (node_keys node))) (node_found node found) c.clear.new.self c.find-told.new.out c.find-told.result finds

pub returns-clause-occs : goal.returns-clause-occs
returns-clause-occs g c = λ found here.
    let node = c.args.self.now.root.now in
    let same = ap (λ root. root.now) c.in_ok-load.ensures.root in
    let finds : IfOk c.find-told.result (Finds (IsShort (number_among (node_keys node))) (node_found node found) c.clear.new.self c.find-told.new.out) =
    finds_as found node c.load.new.self.root.now same (IsShort (number_among (node_keys node))) c.load.new.self.work.spans.items c.clear.new.self c.find-told.new.out c.find-told.result c.in_ok-load.ensures.search.none
    (c.find-told.ensures.found found (number_among (node_keys node))
    (terms_as found node c.load.new.self.root.now same c.load.new.self.slots.terms.items c.deref-2.result.now c.deref-2.ensures.value (c.in_ok-load.ensures.terms found here))
    (knows_as found node c.load.new.self.root.now same c.load.new.self.marks (c.in_ok-load.ensures.marks found here))) in
    occs_are (IsShort (number_among (node_keys node))) (node_found node found) c.clear.new.self c.find-told.new.out c.find-told.result finds c.clear.ensures.occs

pub returns-clause-hits : goal.returns-clause-hits
returns-clause-hits g c = λ found here few.
    let node = c.args.self.now.root.now in
    let same = ap (λ root. root.now) c.in_ok-load.ensures.root in
    let finds : IfOk c.find-told.result (Finds (IsShort (number_among (node_keys node))) (node_found node found) c.clear.new.self c.find-told.new.out) =
    finds_as found node c.load.new.self.root.now same (IsShort (number_among (node_keys node))) c.load.new.self.work.spans.items c.clear.new.self c.find-told.new.out c.find-told.result c.in_ok-load.ensures.search.none
    (c.find-told.ensures.found found (number_among (node_keys node))
    (terms_as found node c.load.new.self.root.now same c.load.new.self.slots.terms.items c.deref-2.result.now c.deref-2.ensures.value (c.in_ok-load.ensures.terms found here))
    (knows_as found node c.load.new.self.root.now same c.load.new.self.marks (c.in_ok-load.ensures.marks found here))) in
    hits_are (IsShort (number_among (node_keys node))) (node_found node found) c.clear.new.self c.find-told.new.out c.find-told.result (number_short (node_keys node) few) finds c.clear.ensures.hits
