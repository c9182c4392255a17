use Rattle.std.proofs.Common.{Ok}
use Rattle.std.specs.declared.alloc.AllocError.{AllocError}
use Rattle.std.proofs.lemmas.Iterator.{YieldsList-from_chars, items_from_collect}
use Rattle.query_marks.proofs.words.characters.Goals as goal

pub returns : goal.returns
returns c = items_from_collect {E = AllocError} (Ok c.in_ok-list.list) c.in_ok-list.ensures.ran (YieldsList-from_chars c.args.slice.now c.utf8.slice c.chars.ensures.rest)
