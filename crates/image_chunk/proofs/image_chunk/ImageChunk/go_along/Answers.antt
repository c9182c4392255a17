use Rattle.image_chunk.proofs.Cursors.{goes_on, list_small}
use Rattle.image_chunk.proofs.image_chunk.ImageChunk.go_along.Goals as goal

pub step-at-requires-clause-small : goal.step-at-requires-clause-small
step-at-requires-clause-small c = list_small c.args.self.now.bytes c.args.self.now.image c.args.cursor.now.word c.args.list.now c.requires.list

pub step-at-requires-clause-here : goal.step-at-requires-clause-here
step-at-requires-clause-here c = (goes_on c.args.self.now.bytes c.args.self.now.image c.args.cursor.now c.args.list.now c.requires.list c.requires.belongs c.requires.left).here

pub returns-clause-stays : goal.returns-clause-stays
returns-clause-stays c = (goes_on c.args.self.now.bytes c.args.self.now.image c.args.cursor.now c.args.list.now c.requires.list c.requires.belongs c.requires.left).stays c.step-at.result.0 c.step-at.result.1 c.step-at.ensures

pub returns-clause-next : goal.returns-clause-next
returns-clause-next c = (goes_on c.args.self.now.bytes c.args.self.now.image c.args.cursor.now c.args.list.now c.requires.list c.requires.belongs c.requires.left).next c.step-at.result.0 c.step-at.result.1 c.step-at.ensures
