use Rattle.std.proofs.Common.{rules}
use Rattle.image_chunk.proofs.JoinedLayers.{image_joined}
use Rattle.job_chunks.proofs.making.chunk_over.Goals as goal

pub over-requires : goal.over-requires
over-requires c =
    let its = image_joined _ c.args.image.items c.layers_fit.ensures c.requires.joined c.requires.short in
    ((c.requires.joined.rows, its.0), its.1)

pub returns : goal.returns
returns c =
    let its = image_joined _ c.args.image.items c.layers_fit.ensures c.requires.joined c.requires.short in
    record {
      image = c.args.image.items;
      joined = c.requires.joined;
      bytes_are = c.in_ok-chunk.ensures.bytes;
      rows_are = c.in_ok-chunk.ensures.content c.requires.joined.rows its.0 its.1;
      zones = search rules;
      small = c.requires.short;
      room = c.requires.room;
    }
