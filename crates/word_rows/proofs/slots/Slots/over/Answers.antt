use Rattle.std.proofs.Common.{Bor, List, map, subst}
use Rattle.std.specs.List.{AllZip}
use Rattle.query_tree.specs.declared.key.Key.{Key}
use Rattle.word_rows.specs.Slots.{IsTermFor, Stands, number_among}
use Rattle.word_rows.proofs.Allowed.{terms_for}
use Rattle.word_rows.proofs.slots.Slots.over.Goals as goal

pub returns-clause-slots : goal.returns-clause-slots
returns-clause-slots g c =
    let rows = g.C.Chunk.content c.args.chunk.now in
    record {
      cursors = subst (λ (keys : List (Bor Key)). AllZip (Stands (g.C.Chunk.belongs c.args.chunk.now) (g.C.Chunk.place c.args.chunk.now) rows 0) (map (λ key. key.now.word) keys) c.in_ok-cursors.cursors.items)
          c.deref.ensures.value c.in_ok-cursors.ensures;
      terms = subst (λ (keys : List (Bor Key)). AllZip (IsTermFor rows (number_among (map (λ key. key.now) keys))) (map (λ key. key.now) keys) c.in_ok-terms.terms.items)
          c.deref-2.ensures.value (terms_for rows _ _ (g.met.C.Chunk.whole c.args.chunk.now) c.fields.ensures _ _ c.in_ok-terms.ensures.made);
    }
