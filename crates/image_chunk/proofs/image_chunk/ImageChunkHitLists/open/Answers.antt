use Rattle.std.proofs.Common.{◌∙◌, sym, ap, ◌++◌}
use Rattle.image_chunk.proofs.Cursors.{goes_open}
use Rattle.image_chunk.proofs.Opening.{hits_are}
use Rattle.image_chunk.proofs.image_chunk.ImageChunkHitLists.open.Goals as goal

pub put_hits-requires-clause-here : goal.put_hits-requires-clause-here
put_hits-requires-clause-here g c =
    (goes_open c.args.self.now.bytes c.args.self.now.image c.args.cursor.now c.list.result.now c.list.ensures c.requires.belongs c.requires.left).here

pub returns-clause-ok : goal.returns-clause-ok
returns-clause-ok g c =
    let chunk = c.args.self.now in
    let goes = goes_open chunk.bytes chunk.image c.args.cursor.now c.list.result.now c.list.ensures c.requires.belongs c.requires.left in
    c.in_ok-put_hits.ensures.ok goes.stood.entry goes.stood.entries goes.stood.here goes.stood.hits
    ∙ ap (λ hits. c.args.into.now.items ++ hits) (sym (hits_are chunk.image.0.0 chunk.image.0.1 chunk.bytes c.list.result.now c.args.cursor.now goes))
