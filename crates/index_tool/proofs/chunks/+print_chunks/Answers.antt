use Rattle.std.proofs.Common.{◌≡◌, ◌∙◌, ◌<◌, ◌∷◌, ℕ, List, Ok, true, ap, sym, subst, rules, All, AllPairs}
use Rattle.std.proofs.lemmas.List.Elements.{All-head, All-tail}
use Rattle.doc_types.specs.Snapshots.{LayerValue}
use Rattle.doc_types.specs.declared.documents.DocRow.{DocRow}
use Rattle.root_slots.specs.declared.state.ChunkEntry.{ChunkEntry}
use Rattle.index_tool.specs.steps.Shown.{lines_of, rows_on_disk}
use Rattle.index_tool.proofs.EachChunk.{PrintsChunks, chunks_more, chunks_none, no_layers, on_disk}
use Rattle.index_tool.proofs.chunks.+print_chunks.Goals as goal

abbrev Ascends : ChunkEntry → Type 0
Ascends entry = AllPairs (λ (row later : ℕ). row < later) entry.dead

pub print_layer-requires-clause-dead : goal.print_layer-requires-clause-dead
print_layer-requires-clause-dead g t c =
    let all = subst (λ (entries : List ChunkEntry). All Ascends entries) c.in-Some-split_first.ensures.cases.0 c.requires.dead in
    All-head Ascends c.in-Some-split_first.entry.now c.in-Some-split_first.entries.now all

pub print_chunks-requires-in-Ok : goal.print_chunks-requires-in-Ok
print_chunks-requires-in-Ok g t c κs =
    let all = subst (λ (entries : List ChunkEntry). All Ascends entries) c.in-Some-split_first.ensures.cases.0 c.requires.dead in
    let dead : All Ascends c.in-Some-split_first.entries.now = All-tail Ascends c.in-Some-split_first.entry.now c.in-Some-split_first.entries.now all in
    search rules

pub returns-in-Ok : goal.returns-in-Ok
returns-in-Ok g t c =
    let layer : LayerValue = c.in-Some.layer.now in
    let others : List LayerValue = c.in-Some.others.now in
    let entry : ChunkEntry = c.in-Some-split_first.entry.now in
    let entries : List ChunkEntry = c.in-Some-split_first.entries.now in
    let layers_are : c.args.layers.now ≡ layer ∷ others = c.in-Some.ensures.cases.0 in
    let entries_are : c.args.entries.now ≡ entry ∷ entries = c.in-Some-split_first.ensures.cases.0 in
    let disk : layer.disk ≡ true = sym (ap (λ (its : LayerValue). its.disk) c.layer.view_is) ∙ c.if-not-layer.false in
    subst (λ (es : List ChunkEntry). PrintsChunks (Unit {0}) g.H.ToolHost (lines_of c.args.part) c.print_chunks-in-Ok.result es (rows_on_disk c.args.layers.now) c.args.host.now c.print_chunks-in-Ok.new.host) (sym entries_are)
    (subst (λ (chunks : List (List DocRow)). PrintsChunks (Unit {0}) g.H.ToolHost (lines_of c.args.part) c.print_chunks-in-Ok.result (entry ∷ entries) chunks c.args.host.now c.print_chunks-in-Ok.new.host) (sym (ap rows_on_disk layers_are ∙ on_disk layer others disk))
    (chunks_more (Unit {0}) g.H.ToolHost (lines_of c.args.part) tt c.print_chunks-in-Ok.result entry entries layer.rows (rows_on_disk others) c.args.host.now c.print_layer.new.host c.print_chunks-in-Ok.new.host c.in-Ok.ensures.prints c.print_chunks-in-Ok.ensures))

pub returns-in-None : goal.returns-in-None
returns-in-None g t c =
    subst (λ (chunks : List (List DocRow)). PrintsChunks (Unit {0}) g.H.ToolHost (lines_of c.args.part) (Ok tt) c.args.entries.now chunks c.args.host.now c.args.host.now) (sym (no_layers c.args.layers.now c.in-None.ensures.cases))
    (chunks_none (Unit {0}) g.H.ToolHost (lines_of c.args.part) tt c.args.entries.now c.args.host.now)
