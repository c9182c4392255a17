use Rattle.std.proofs.Common.{arith, ◌≡◌, ◌∙◌, IfSome, All, ap, map, sym, subst, length, List, Option}
use Rattle.std.specs.List.{AllZip}
use Rattle.std.specs.Vec.{with_items}
use Rattle.std.proofs.lemmas.List.{with_items_is}
use Rattle.doc_types.specs.declared.cursor.Cursor.{Cursor}
use Rattle.query_tree.specs.declared.key.Key.{Key}
use Rattle.word_rows.specs.Slots.{Stands, words_of}
use Rattle.word_rows.proofs.Passing.{all_belong}
use Rattle.op_eval.proofs.Searched.{words_are}
use Rattle.row_plans.specs.Cursors.{Agree, has_at}
use Rattle.row_plans.specs.Living.{is_living}
use Rattle.row_plans.specs.Plans.{IsFirst}
use Rattle.op_eval.proofs.Walked.{all_kept, all_ended, living_there, living_gone}
use Rattle.op_eval.proofs.walking.next_row_alive.Goals as goal

pub next_living-row-requires-clause-belongs : goal.next_living-row-requires-clause-belongs
next_living-row-requires-clause-belongs g c =
    let belongs = g.C.Chunk.belongs c.args.chunk.now in
    subst (λ cursors. All (λ cursor. IfSome cursor belongs) cursors) (sym c.deref_mut.ensures.value)
    (all_belong belongs (g.C.Chunk.place c.args.chunk.now) (g.C.Chunk.content c.args.chunk.now) c.args.from (words_of c.args.slots.now) c.args.slots.now.cursors.items c.requires.slots.cursors)

pub returns-then-row-rows-clause-slots : goal.returns-then-row-rows-clause-slots
returns-then-row-rows-clause-slots g c =
    let belongs = g.C.Chunk.belongs c.args.chunk.now in
    let place = g.C.Chunk.place c.args.chunk.now in
    let rows = g.C.Chunk.content c.args.chunk.now in
    let is : (with_items c.args.slots.now.cursors c.next_living-row.new.cursors).items ≡ c.next_living-row.new.cursors = with_items_is c.args.slots.now.cursors c.next_living-row.new.cursors (omega arith) in
    let kept : AllZip (Stands belongs place rows c.next_living-row.result) (words_of c.args.slots.now) c.next_living-row.new.cursors =
    all_kept belongs place rows c.args.from c.next_living-row.result (words_of c.args.slots.now) c.args.slots.now.cursors.items c.next_living-row.new.cursors c.next_living-row.ensures.first.on c.requires.slots.cursors
    (subst (λ cursors. Agree belongs place c.next_living-row.result cursors c.next_living-row.new.cursors) c.deref_mut.ensures.value c.next_living-row.ensures.agree) in
    record {
      cursors = subst (AllZip (Stands belongs place rows c.next_living-row.result) (words_of c.args.slots.now)) (sym is) kept;
      terms = c.requires.slots.terms;
    }

pub returns-then-row-rows-clause-first : goal.returns-then-row-rows-clause-first
returns-then-row-rows-clause-first g c = λ root keys serves.
    let belongs = g.C.Chunk.belongs c.args.chunk.now in
    let place = g.C.Chunk.place c.args.chunk.now in
    let rows = g.C.Chunk.content c.args.chunk.now in
    let first = subst (λ (cursors : List (Option Cursor)). IsFirst (λ row. is_living (has_at place cursors row) c.args.plan.now c.args.dead.now row) c.args.from c.next_living-row.result) c.deref_mut.ensures.value c.next_living-row.ensures.first in
    let stand = subst (λ words. AllZip (Stands belongs place rows c.args.from) words c.args.slots.now.cursors.items) (words_are c.args.slots.now.keys.items ∙ ap (map (λ (key : Key). key.word)) keys) c.requires.slots.cursors in
    living_there belongs place rows c.args.plan.now root c.args.slots.now.cursors.items c.args.from stand serves c.args.dead.now c.next_living-row.result first (omega (arith, c.rows.ensures, c.if-row-rows.true)) (omega (arith, c.rows.type_inv, c.if-row-rows.true))

pub returns-clause-slots : goal.returns-clause-slots
returns-clause-slots g c =
    let belongs = g.C.Chunk.belongs c.args.chunk.now in
    let place = g.C.Chunk.place c.args.chunk.now in
    let rows = g.C.Chunk.content c.args.chunk.now in
    let is : (with_items c.args.slots.now.cursors c.next_living-row.new.cursors).items ≡ c.next_living-row.new.cursors = with_items_is c.args.slots.now.cursors c.next_living-row.new.cursors (omega arith) in
    let kept : AllZip (Stands belongs place rows c.next_living-row.result) (words_of c.args.slots.now) c.next_living-row.new.cursors =
    all_kept belongs place rows c.args.from c.next_living-row.result (words_of c.args.slots.now) c.args.slots.now.cursors.items c.next_living-row.new.cursors c.next_living-row.ensures.first.on c.requires.slots.cursors
    (subst (λ cursors. Agree belongs place c.next_living-row.result cursors c.next_living-row.new.cursors) c.deref_mut.ensures.value c.next_living-row.ensures.agree) in
    record {
      cursors = subst (AllZip (Stands belongs place rows (length rows)) (words_of c.args.slots.now)) (sym is) (all_ended belongs place rows (g.met.C.Chunk.places c.args.chunk.now) c.next_living-row.result (words_of c.args.slots.now) c.next_living-row.new.cursors (omega (arith, c.rows.ensures, c.if-row-rows.false)) kept);
      terms = c.requires.slots.terms;
    }

pub returns-clause-first : goal.returns-clause-first
returns-clause-first g c = λ root keys serves.
    let belongs = g.C.Chunk.belongs c.args.chunk.now in
    let place = g.C.Chunk.place c.args.chunk.now in
    let rows = g.C.Chunk.content c.args.chunk.now in
    let first = subst (λ (cursors : List (Option Cursor)). IsFirst (λ row. is_living (has_at place cursors row) c.args.plan.now c.args.dead.now row) c.args.from c.next_living-row.result) c.deref_mut.ensures.value c.next_living-row.ensures.first in
    let stand = subst (λ words. AllZip (Stands belongs place rows c.args.from) words c.args.slots.now.cursors.items) (words_are c.args.slots.now.keys.items ∙ ap (map (λ (key : Key). key.word)) keys) c.requires.slots.cursors in
    living_gone belongs place rows c.args.plan.now root c.args.slots.now.cursors.items c.args.from stand serves c.args.dead.now c.next_living-row.result first c.requires.from (omega (arith, c.rows.ensures, c.if-row-rows.false))
