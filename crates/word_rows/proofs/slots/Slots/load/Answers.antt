use Rattle.std.proofs.Common.{◌≡◌, ◌≤◌, ◌+◌, ℕ, List, Bor, length, get_or, sym, ap, subst, ◌∙◌, arith}
use Rattle.std.specs.List.{AllZip, count_by, list_any}
use Rattle.std.specs.Vec.{with_items}
use Rattle.std.proofs.lemmas.List.{with_items_is, length-map}
use Rattle.query_tree.specs.declared.key.Key.{Key}
use Rattle.occ_lists.specs.declared.term.Term.{Term}
use Rattle.word_rows.specs.Keywords.{key_places}
use Rattle.word_rows.specs.Slots.{IsTermFor, keys_of, number_among}
use Rattle.word_rows.specs.Terms.{IsTermOf}
use Rattle.word_rows.proofs.Loaded.{are_loaded, still_for}
use Rattle.word_rows.proofs.PresentCounts.{present_count}
use Rattle.word_rows.proofs.Zipped.{zip_length}
use Rattle.word_rows.proofs.slots.Slots.load.Goals as goal

pub load_all-requires-clause-long : goal.load_all-requires-clause-long
load_all-requires-clause-long g c =
    let slots = c.args.self.now in
    let rows = g.C.Chunk.content c.args.chunk.now in
    ap length c.deref_mut.ensures.value
    ∙ sym (zip_length (IsTermFor rows (number_among (keys_of slots))) (keys_of slots) slots.terms.items c.requires.slots.terms)
    ∙ length-map slots.keys.items (λ (key : Bor Key). key.now)
    ∙ sym (ap length c.deref-2.ensures.value)

pub load_all-requires-clause-lasts : goal.load_all-requires-clause-lasts
load_all-requires-clause-lasts g c = λ found here ends.
    c.deref-4.ensures.value
    ∙ c.in_ok-load_lasts.ensures found here (ap (list_any (λ (key : Bor Key). key.now.end)) (c.deref.ensures.value ∙ sym c.deref-2.ensures.value) ∙ ends)

pub returns-clause-slots : goal.returns-clause-slots
returns-clause-slots g c =
    let slots = c.args.self.now in
    let rows = g.C.Chunk.content c.args.chunk.now in
    let is : (with_items slots.terms c.load_all.new.terms).items ≡ c.load_all.new.terms = with_items_is slots.terms c.load_all.new.terms (omega (arith, c.load_all.ensures.long)) in
    record {
      cursors = c.requires.slots.cursors;
      terms = subst (AllZip (IsTermFor rows (number_among (keys_of slots))) (keys_of slots)) (sym is)
          (still_for rows (number_among (keys_of slots)) slots.keys.items c.deref_mut.result.now c.load_all.new.terms c.load_all.ensures.long c.load_all.ensures.same
          (subst (AllZip (IsTermFor rows (number_among (keys_of slots))) (keys_of slots)) (sym c.deref_mut.ensures.value) c.requires.slots.terms));
    }

pub returns-clause-loaded : goal.returns-clause-loaded
returns-clause-loaded g c = λ found here.
    let slots = c.args.self.now in
    let rows = g.C.Chunk.content c.args.chunk.now in
    let is : (with_items slots.terms c.load_all.new.terms).items ≡ c.load_all.new.terms = with_items_is slots.terms c.load_all.new.terms (omega (arith, c.load_all.ensures.long)) in
    subst (AllZip (IsTermOf found (number_among (keys_of slots))) (keys_of slots)) (sym is)
    (are_loaded rows (number_among (keys_of slots)) slots.keys.items c.deref_mut.result.now c.load_all.new.terms c.load_all.ensures.long c.load_all.ensures.same
    (subst (AllZip (IsTermFor rows (number_among (keys_of slots))) (keys_of slots)) (sym c.deref_mut.ensures.value) c.requires.slots.terms)
    found
    (λ k d key below. c.in_ok-load_all.ensures.loaded found here k d key below ∙ ap (λ (keys : List (Bor Key)). key_places found (get_or keys k key).now) c.deref-2.ensures.value))

pub returns-in_err-load_all-clause-slots : goal.returns-in_err-load_all-clause-slots
returns-in_err-load_all-clause-slots g c =
    let slots = c.args.self.now in
    let rows = g.C.Chunk.content c.args.chunk.now in
    let is : (with_items slots.terms c.load_all.new.terms).items ≡ c.load_all.new.terms = with_items_is slots.terms c.load_all.new.terms (omega (arith, c.load_all.ensures.long)) in
    record {
      cursors = c.requires.slots.cursors;
      terms = subst (AllZip (IsTermFor rows (number_among (keys_of slots))) (keys_of slots)) (sym is)
          (still_for rows (number_among (keys_of slots)) slots.keys.items c.deref_mut.result.now c.load_all.new.terms c.load_all.ensures.long c.load_all.ensures.same
          (subst (AllZip (IsTermFor rows (number_among (keys_of slots))) (keys_of slots)) (sym c.deref_mut.ensures.value) c.requires.slots.terms));
    }

pub returns-in_err-load_all-clause-count : goal.returns-in_err-load_all-clause-count
returns-in_err-load_all-clause-count g c = λ found here.
    let slots = c.args.self.now in
    subst (λ (n : ℕ). c.load_all.new.steps ≤ c.args.steps.now + n)
    (ap (count_by (λ (term : Term). term.present)) c.deref_mut.ensures.value ∙ present_count found (keys_of slots) slots.terms.items (c.requires.seen found here))
    c.load_all.ensures.count

pub returns-clause-count : goal.returns-clause-count
returns-clause-count g c = λ found here.
    let slots = c.args.self.now in
    subst (λ (n : ℕ). c.load_all.new.steps ≤ c.args.steps.now + n)
    (ap (count_by (λ (term : Term). term.present)) c.deref_mut.ensures.value ∙ present_count found (keys_of slots) slots.terms.items (c.requires.seen found here))
    c.load_all.ensures.count
