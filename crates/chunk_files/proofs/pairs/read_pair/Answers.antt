use Rattle.std.proofs.Common.{[], ◌∷◌, List, sym, subst}
use Rattle.root_slots.specs.declared.state.ChunkEntry.{ChunkEntry}
use Rattle.chunk_files.specs.steps.Rests.{AreFront}
use Rattle.chunk_files.proofs.Pairing.{one_entry, one_front}
use Rattle.chunk_files.proofs.pairs.read_pair.Goals as goal

pub returns-in-Ok-push_one-clause-read : goal.returns-in-Ok-push_one-clause-read
returns-in-Ok-push_one-clause-read g c = (
  c.in-Ok-read_one.one ∷ [],
  c.in-Ok-push_one.ensures,
  subst (λ (es : List ChunkEntry). AreFront c.args.schema.now c.args.through es (g.D.Disk.told c.read_one.new.disk) (c.in-Ok-read_one.one ∷ [])) (sym (one_entry c.args.pair.now c.index-pair-0.result c.requires.some c.in-None.ensures.lookup.3 (sym c.index-pair-0.is)))
      (one_front c.args.schema.now c.args.through c.index-pair-0.result (g.D.Disk.told c.read_one.new.disk) c.in-Ok-read_one.one c.in-Ok-read_one.ensures.read),
)
