use Rattle.std.proofs.Common.{◌≡◌, Some, map, rules}
use Rattle.doc_types.specs.Commits.{change_of}
use Rattle.store_steps.specs.Refusals.{full_of}
use Rattle.store_keep.proofs.Accepting.{few_after, other_said}
use Rattle.store_keep.proofs.kept.Kept.prepare_next.Goals as goal

pub full-requires-clause-few : goal.full-requires-clause-few
full-requires-clause-few g c = few_after (g.J.Naming.base c.args.self.now.line.index) c.args.self.now.line.history c.args.txn.now.ops c.args.removed c.args.next c.requires.applies

pub returns-in-Ok-Some : goal.returns-in-Ok-Some
returns-in-Ok-Some g c =
    let is : Some c.in-Ok-Some.full ≡ full_of (g.J.Naming.base c.args.self.now.line.index) c.args.self.now.line.history (map change_of c.args.txn.now.ops) = search rules in
    (other_said (g.J.Naming.base c.args.self.now.line.index) c.args.self.now.line.history c.args.txn.now.ops c.args.removed c.args.next c.in-Ok-Some.full c.requires.applies is, c.note.ensures.note)
