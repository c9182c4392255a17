use Rattle.std.proofs.Common.{List, length, All, sym, ◌∙◌, ap, subst}
use Rattle.doc_types.specs.Snapshots.{IsLayer, LayerValue}
use Rattle.chunk_files.specs.steps.Rests.{AscendAll}
use Rattle.chunk_files.proofs.Rooted.{all_read, are_layers, as_many, ascend_all}
use Rattle.chunk_files.proofs.files.read_chunks.Goals as goal

pub read_files-requires-clause-dead : goal.read_files-requires-clause-dead
read_files-requires-clause-dead g c = subst AscendAll (sym c.as_slice-entries.ensures) (ascend_all _ _ c.args.state.now.chunks c.requires.state.chunks)

pub again-requires-clause-layers : goal.again-requires-clause-layers
again-requires-clause-layers g c =
    let front = c.in-Ok.ensures.read in
    let up : AscendAll c.as_slice-entries.result.now = subst AscendAll (sym c.as_slice-entries.ensures) (ascend_all _ _ c.args.state.now.chunks c.requires.state.chunks) in
    subst (All IsLayer) (sym (c.as_slice.ensures.value ∙ front.are)) (are_layers c.args.schema.now c.args.state.now.through c.as_slice-entries.result.now front.chunks c.requires.schema up front.rows)

pub again-requires-clause-count : goal.again-requires-clause-count
again-requires-clause-count g c =
    let front = c.in-Ok.ensures.read in
    as_many c.args.schema.now c.args.state.now.through c.as_slice-entries.result.now front.chunks front.rows ∙ ap (λ (ls : List LayerValue). length ls) (sym (c.as_slice.ensures.value ∙ front.are))

pub returns-in-None-clause-read : goal.returns-in-None-clause-read
returns-in-None-clause-read g c =
    let front = c.in-Ok.ensures.read in
    all_read c.args.schema.now c.args.state.now (g.D.Disk.told c.read_files.new.disk) c.as_slice-entries.result.now c.in-Ok.layers.items c.as_slice-entries.ensures front (c.in-None.ensures front.chunks (c.as_slice.ensures.value ∙ front.are))
