use Rattle.std.proofs.Common.{◌≡◌, ◌<◌, ◌^◌, ◌++◌, ◌∷◌, [], All, List, ℕ, length, sym, ◌∙◌, ap, subst}
use Rattle.std.specs.Prelude.{OnOk}
use Rattle.root_slots.specs.States.{chunks_bytes, numbers_bytes, text_bytes}
use Rattle.root_slots.specs.declared.state.ChunkEntry.{ChunkEntry}
use Rattle.root_slots.proofs.Joining.{few_dead, three}
use Rattle.root_slots.proofs.writing.put_state.Goals as goal

pub put_chunks-requires-clause-dead : goal.put_chunks-requires-clause-dead
put_chunks-requires-clause-dead c =
    let state = c.args.state.now in
    subst (λ (l : List ChunkEntry). All (λ (e : ChunkEntry). length e.dead < 2 ^ 32) l) (sym c.as_slice.ensures) (few_dead state.next_file (state.older ∷ state.newer ∷ []) state.chunks c.requires.chunks)

pub returns : goal.returns
returns c =
    let first = c.in_ok-put_text.ensures ∙ ap (λ (l : List ℕ). c.args.out.now.items ++ text_bytes l) c.as_bytes.ensures in
    let last = subst (λ (l : List ChunkEntry). OnOk c.put_chunks.result (c.put_chunks.new.out.items ≡ c.put_numbers.new.out.items ++ chunks_bytes l)) c.as_slice.ensures c.put_chunks.ensures in
    three c.put_chunks.result c.args.out.now.items c.put_text.new.out.items c.put_numbers.new.out.items c.put_chunks.new.out.items
    (text_bytes c.args.state.now.schema_text) (numbers_bytes c.args.state.now) (chunks_bytes c.args.state.now.chunks)
    first c.in_ok-put_numbers.ensures last
