use Rattle.std.proofs.Common.{◌≡◌, Some, None, map, rules}
use Rattle.doc_types.specs.Commits.{change_of}
use Rattle.store_keep.specs.steps.Limits.{full_log}
use Rattle.store_keep.proofs.Accepting.{documents_said, log_said}
use Rattle.store_keep.proofs.kept.Kept.refuse.Goals as goal

pub returns-in-Ok-Some : goal.returns-in-Ok-Some
returns-in-Ok-Some g c =
    let is : Some c.in-Ok-Some.full ≡ full_log (g.J.Naming.base c.args.self.now.line.index) c.args.self.now.line.history (map change_of c.args.txn.now.ops) = search rules in
    (log_said (g.J.Naming.base c.args.self.now.line.index) c.args.self.now.line.history c.args.txn.now.ops c.args.full c.requires.full c.in-Ok-Some.full is, c.note-note.ensures.note)

pub returns-in-Ok-None : goal.returns-in-Ok-None
returns-in-Ok-None g c =
    let is : None ≡ full_log (g.J.Naming.base c.args.self.now.line.index) c.args.self.now.line.history (map change_of c.args.txn.now.ops) = search rules in
    (documents_said (g.J.Naming.base c.args.self.now.line.index) c.args.self.now.line.history c.args.txn.now.ops c.args.full c.requires.full is, c.note-note.ensures.note)
