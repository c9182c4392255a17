use Rattle.std.proofs.Common.{◌∙◌}
use Rattle.image_chunk.proofs.Cursors.{goes_on, list_small, word_within}
use Rattle.image_chunk.proofs.Opening.{fields_are}
use Rattle.image_chunk.proofs.image_chunk.ImageChunk.read_fields.Goals as goal

pub list-requires : goal.list-requires
list-requires c = word_within c.args.self.now.image.0.1 c.args.cursor.now.word _ c.requires.belongs

pub fields_of-requires-clause-small : goal.fields_of-requires-clause-small
fields_of-requires-clause-small c = list_small c.args.self.now.bytes c.args.self.now.image c.args.cursor.now.word c.list.result.now c.list.ensures

pub fields_of-requires-clause-here : goal.fields_of-requires-clause-here
fields_of-requires-clause-here c = (goes_on c.args.self.now.bytes c.args.self.now.image c.args.cursor.now c.list.result.now c.list.ensures c.requires.belongs c.requires.left).here

pub returns : goal.returns
returns c =
    let chunk = c.args.self.now in
    let goes = goes_on c.args.self.now.bytes c.args.self.now.image c.args.cursor.now c.list.result.now c.list.ensures c.requires.belongs c.requires.left in
    c.fields_of.ensures goes.stood.entry goes.stood.entries goes.stood.here goes.stood.hits ∙ fields_are chunk.image.0.0 chunk.image.0.1 chunk.bytes c.list.result.now c.args.cursor.now goes
