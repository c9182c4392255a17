use Rattle.std.proofs.Common.{◌≡◌, ◌==◌, ◌||◌, ap, ◌∙◌, rules}
use Rattle.std.specs.List.{list_any}
use Rattle.root_slots.specs.declared.state.ChunkEntry.{ChunkEntry}
use Rattle.store_keep.proofs.Reshaping.{named_so}
use Rattle.store_keep.proofs.job_ends.names.Goals as goal

pub returns : goal.returns
returns c =
    let chunk : c.is_chunk-chunk.result ≡ list_any (λ (e : ChunkEntry). e.file == c.args.file) c.args.state.now.chunks = search rules in
    ap (λ b. ((c.args.state.now.older == c.args.file) || (c.args.state.now.newer == c.args.file)) || b) chunk ∙ named_so c.args.state.now c.args.file
