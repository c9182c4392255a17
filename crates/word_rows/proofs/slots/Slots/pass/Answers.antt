use Rattle.std.proofs.Common.{◌≡◌, IfSome, All, subst, sym, arith}
use Rattle.std.specs.List.{AllZip}
use Rattle.std.specs.Vec.{with_items}
use Rattle.std.proofs.lemmas.List.{with_items_is}
use Rattle.word_rows.specs.steps.Cursors.{Passes}
use Rattle.word_rows.specs.Slots.{Stands, words_of, next_of, next_with}
use Rattle.word_rows.proofs.Passing.{all_belong, all_passed}
use Rattle.word_rows.proofs.slots.Slots.pass.Goals as goal

pub pass_all-requires : goal.pass_all-requires
pass_all-requires g c =
    let belongs = g.C.Chunk.belongs c.args.chunk.now in
    subst (λ cursors. All (λ cursor. IfSome cursor belongs) cursors) (sym c.deref_mut.ensures.value)
    (all_belong belongs (g.C.Chunk.place c.args.chunk.now) (g.C.Chunk.content c.args.chunk.now) c.args.row (words_of c.args.self.now) c.args.self.now.cursors.items c.requires.cursors)

pub returns-clause-slots : goal.returns-clause-slots
returns-clause-slots g c =
    let belongs = g.C.Chunk.belongs c.args.chunk.now in
    let place = g.C.Chunk.place c.args.chunk.now in
    let rows = g.C.Chunk.content c.args.chunk.now in
    let is : (with_items c.args.self.now.cursors c.pass_all.new.cursors).items ≡ c.pass_all.new.cursors = with_items_is c.args.self.now.cursors c.pass_all.new.cursors (omega arith) in
    record {
      cursors = subst (AllZip (Stands belongs place rows c.args.row) (words_of c.args.self.now)) (sym is)
          (all_passed belongs place rows c.args.row (words_of c.args.self.now) c.args.self.now.cursors.items c.pass_all.new.cursors c.requires.cursors (subst (λ cursors. AllZip (Passes belongs place c.args.row) cursors c.pass_all.new.cursors) c.deref_mut.ensures.value c.pass_all.ensures)).0;
      terms = c.requires.terms;
    }

pub returns-clause-at : goal.returns-clause-at
returns-clause-at g c =
    let belongs = g.C.Chunk.belongs c.args.chunk.now in
    let place = g.C.Chunk.place c.args.chunk.now in
    let rows = g.C.Chunk.content c.args.chunk.now in
    let is : (with_items c.args.self.now.cursors c.pass_all.new.cursors).items ≡ c.pass_all.new.cursors = with_items_is c.args.self.now.cursors c.pass_all.new.cursors (omega arith) in
    subst (λ cursors. AllZip (λ word cursor. next_of place cursor ≡ next_with word rows c.args.row) (words_of c.args.self.now) cursors) (sym is)
    (all_passed belongs place rows c.args.row (words_of c.args.self.now) c.args.self.now.cursors.items c.pass_all.new.cursors c.requires.cursors (subst (λ cursors. AllZip (Passes belongs place c.args.row) cursors c.pass_all.new.cursors) c.deref_mut.ensures.value c.pass_all.ensures)).1
