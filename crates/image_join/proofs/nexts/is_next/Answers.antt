use Rattle.std.proofs.Common.{◌≡◌, true, rules}
use Rattle.image_write.specs.Heads.{tells}
use Rattle.image_join.proofs.Least.{next_told}
use Rattle.image_join.proofs.nexts.is_next.Goals as goal

pub returns-then-tells : goal.returns-then-tells
returns-then-tells g c =
    let same : c.args.next.head ≡ c.args.head = search rules in
    let tell : tells c.args.head ≡ true = search rules in
    next_told c.args.part.now c.args.next c.args.word.now c.args.head c.requires.next c.requires.head same tell
