use Rattle.std.proofs.Common.{◌-◌, arith, rules, tests, slice_index_or}
use Rattle.image_chunk.proofs.Cursors.{leapt}
use Rattle.image_chunk.proofs.image_chunk.ImageChunk.leap.Goals as goal

pub returns-then-skip-row-clause-place : goal.returns-then-skip-row-clause-place
returns-then-skip-row-clause-place c =
    leapt c.args.self.now.image.0.0 c.args.self.now.image.0.1 (slice_index_or c.as_slice-skips.result.now (c.before-found.result - 1) (record { word = 0; at = 0; index = 0 })) c.args.cursor.now c.args.row
    (search (rules, tests)) (omega arith) c.requires.before
