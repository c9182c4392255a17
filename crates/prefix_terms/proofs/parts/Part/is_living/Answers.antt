use Rattle.std.proofs.Common.{◌<◌, ℕ, List, AllPairs, subst, sym, ap, ◌∙◌, take, drop}
use Rattle.std.specs.Arc.{arc_value}
use Rattle.std.specs.List.{list_any}
use Rattle.doc_types.specs.Chunks.{has_word, rows_with}
use Rattle.prefix_terms.specs.steps.Parts.{PartValue, is_alive, living_of}
use Rattle.prefix_terms.proofs.Livings.{living_with}
use Rattle.prefix_terms.proofs.parts.Part.is_living.Goals as goal

pub is_living-requires : goal.is_living-requires
is_living-requires g c = subst (λ (dead : List ℕ). AllPairs (λ row later. row < later) dead) (sym (c.as_slice.ensures ∙ c.deref-dead.ensures)) c.self.invariant.ascend

pub returns : goal.returns
returns g c =
    let word = c.args.word.now in
    let part : PartValue = record { rows = g.C.Chunk.content (arc_value c.self.inside.chunk); words = take c.self.inside.count (drop c.self.inside.first (g.C.Chunk.words_of (arc_value c.self.inside.chunk))); dead = arc_value c.self.inside.dead } in
    c.is_living.ensures
    ∙ ap (λ (dead : List ℕ). list_any (is_alive dead) (rows_with word (g.C.Chunk.content c.deref-chunk.result.now))) (c.as_slice.ensures ∙ c.deref-dead.ensures)
    ∙ ap (λ (chunk : g.row.C.Denot). list_any (is_alive (arc_value c.self.inside.dead)) (rows_with word (g.C.Chunk.content chunk))) c.deref-chunk.ensures
    ∙ sym (living_with word part)
    ∙ ap (λ (p : PartValue). list_any (has_word word) (living_of p)) c.self.view_is
