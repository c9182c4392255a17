use Rattle.std.proofs.Common.{◌∙◌, ap, sym, refl, length}
use Rattle.doc_types.specs.declared.plain_index.WordRows.{WordRows}
use Rattle.doc_types.proofs.PlainPlaces.{starts_at, none_there}
use Rattle.doc_types.proofs.plain_chunk.PlainChunkChunk.count.Goals as goal

pub returns-in-Some : goal.returns-in-Some
returns-in-Some c =
    let its = starts_at _ _ _ _ c.in-Some.found c.index-index-found.result c.args.self.now.indexed c.as_slice-index.ensures (sym c.in-Some.ensures) c.index-index-found.is in
    c.len.ensures ∙ ap (λ (entry : WordRows). length entry.rows) (sym c.index-index-found.is) ∙ its.count

pub returns-in-None : goal.returns-in-None
returns-in-None c = rw (none_there _ _ _ _ c.args.self.now.indexed c.as_slice-index.ensures (sym c.in-None.ensures)) refl
