use Rattle.std.proofs.Common.{◌≡◌, Bor, length, None, IfSome, All, ap, subst, sym, ◌∙◌, arith, get_or}
use Rattle.std.specs.List.{AllZip}
use Rattle.std.specs.Vec.{with_items}
use Rattle.std.proofs.lemmas.List.{with_items_is, length-map}
use Rattle.query_tree.specs.declared.key.Key.{Key}
use Rattle.word_rows.specs.steps.Cursors.{is_next}
use Rattle.word_rows.specs.Slots.{IsTermFor, Stands, keys_of, number_among, words_of}
use Rattle.word_rows.specs.Terms.{IsSeenIn}
use Rattle.word_rows.proofs.Marking.{marked_for, marked_seen}
use Rattle.word_rows.proofs.Passing.{all_belong}
use Rattle.word_rows.proofs.Zipped.{zip_length}
use Rattle.word_rows.proofs.slots.Slots.seek.Goals as goal

pub mark_all-requires : goal.mark_all-requires
mark_all-requires g c =
    let belongs = g.C.Chunk.belongs c.args.chunk.now in
    let place = g.C.Chunk.place c.args.chunk.now in
    let rows = g.C.Chunk.content c.args.chunk.now in
    let slots = c.pass.new.self in
    record {
      cursors = subst (λ cursors. All (λ cursor. IfSome cursor belongs) cursors) (sym c.deref.ensures.value)
          (all_belong belongs place rows c.args.row (words_of slots) slots.cursors.items c.pass.ensures.slots.cursors);
      long = ap length c.deref.ensures.value
          ∙ sym (zip_length (Stands belongs place rows c.args.row) (words_of slots) slots.cursors.items c.pass.ensures.slots.cursors)
          ∙ length-map slots.keys.items (λ (key : Bor Key). key.now.word) ∙ sym (length-map slots.keys.items (λ (key : Bor Key). key.now))
          ∙ zip_length (IsTermFor rows (number_among (keys_of slots))) (keys_of slots) slots.terms.items c.pass.ensures.slots.terms
          ∙ sym (ap length c.deref_mut.ensures.value);
    }

pub returns-clause-slots : goal.returns-clause-slots
returns-clause-slots g c =
    let place = g.C.Chunk.place c.args.chunk.now in
    let rows = g.C.Chunk.content c.args.chunk.now in
    let slots = c.pass.new.self in
    let is : (with_items slots.terms c.mark_all.new.terms).items ≡ c.mark_all.new.terms = with_items_is slots.terms c.mark_all.new.terms (omega (arith, c.mark_all.ensures.long)) in
    record {
      cursors = c.pass.ensures.slots.cursors;
      terms = subst (AllZip (IsTermFor rows (number_among (keys_of slots))) (keys_of slots)) (sym is)
          (marked_for rows (number_among (keys_of slots)) place c.args.row slots.keys.items slots.cursors.items c.deref_mut.result.now c.mark_all.new.terms c.mark_all.ensures.long
          (λ k below d. c.mark_all.ensures.each k below d ∙ ap (λ cursors. record (get_or c.deref_mut.result.now k d) { present = is_next place c.args.row (get_or cursors k None) }) c.deref.ensures.value)
          (subst (AllZip (IsTermFor rows (number_among (keys_of slots))) (keys_of slots)) (sym c.deref_mut.ensures.value) c.pass.ensures.slots.terms));
    }

pub returns-clause-seen : goal.returns-clause-seen
returns-clause-seen g c = λ found here.
    let place = g.C.Chunk.place c.args.chunk.now in
    let rows = g.C.Chunk.content c.args.chunk.now in
    let slots = c.pass.new.self in
    let is : (with_items slots.terms c.mark_all.new.terms).items ≡ c.mark_all.new.terms = with_items_is slots.terms c.mark_all.new.terms (omega (arith, c.mark_all.ensures.long)) in
    subst (AllZip (IsSeenIn found) (keys_of slots)) (sym is)
    (marked_seen rows (number_among (keys_of slots)) place c.args.row slots.keys.items slots.cursors.items c.deref_mut.result.now c.mark_all.new.terms c.mark_all.ensures.long
    (λ k below d. c.mark_all.ensures.each k below d ∙ ap (λ cursors. record (get_or c.deref_mut.result.now k d) { present = is_next place c.args.row (get_or cursors k None) }) c.deref.ensures.value)
    (subst (AllZip (IsTermFor rows (number_among (keys_of slots))) (keys_of slots)) (sym c.deref_mut.ensures.value) c.pass.ensures.slots.terms)
    c.pass.ensures.at found here)
