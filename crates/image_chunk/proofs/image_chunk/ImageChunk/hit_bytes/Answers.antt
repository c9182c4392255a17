use Rattle.std.proofs.Common.{◌∙◌, sym, ap}
use Rattle.posting_codec.specs.HitLists.{hit_list}
use Rattle.image_chunk.proofs.Cursors.{goes_open, list_small, word_within}
use Rattle.image_chunk.proofs.Opening.{hits_are}
use Rattle.image_chunk.proofs.image_chunk.ImageChunk.hit_bytes.Goals as goal

pub list-requires : goal.list-requires
list-requires c = word_within c.args.self.now.image.0.1 c.args.cursor.now.word _ c.requires.belongs

pub hit_bytes-requires-clause-small : goal.hit_bytes-requires-clause-small
hit_bytes-requires-clause-small c = list_small c.args.self.now.bytes c.args.self.now.image c.args.cursor.now.word c.list.result.now c.list.ensures

pub hit_bytes-requires-clause-here : goal.hit_bytes-requires-clause-here
hit_bytes-requires-clause-here c =
    (goes_open c.args.self.now.bytes c.args.self.now.image c.args.cursor.now c.list.result.now c.list.ensures c.requires.belongs c.requires.left).here

pub returns : goal.returns
returns c =
    let chunk = c.args.self.now in
    let goes = goes_open chunk.bytes chunk.image c.args.cursor.now c.list.result.now c.list.ensures c.requires.belongs c.requires.left in
    c.hit_bytes.ensures goes.stood.entry goes.stood.entries goes.stood.here
    ∙ ap hit_list (sym (hits_are chunk.image.0.0 chunk.image.0.1 chunk.bytes c.list.result.now c.args.cursor.now goes))
