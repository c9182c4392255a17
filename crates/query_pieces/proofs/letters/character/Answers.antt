use Rattle.query_pieces.proofs.Seams.{char_is, char_none, char_follows}
use Rattle.query_pieces.proofs.letters.character.Goals as goal

pub returns-in-Some-clause-is : goal.returns-in-Some-clause-is
returns-in-Some-clause-is c = char_is c.args.text.now c.split_at.result.1.now c.in-Some.field-0-1.now c.args.at c.in-Some.c c.utf8.text c.requires c.split_at.ensures.back c.in-Some.ensures.next

pub returns-in-Some-clause-ends : goal.returns-in-Some-clause-ends
returns-in-Some-clause-ends c = char_follows c.args.text.now c.split_at.result.1.now c.in-Some.field-0-1.now c.args.at c.in-Some.c c.utf8.text c.requires c.split_at.ensures.back c.in-Some.ensures.next

pub returns-in-None-clause-is : goal.returns-in-None-clause-is
returns-in-None-clause-is c = char_none c.args.text.now c.split_at.result.1.now c.args.at c.split_at.ensures.back c.in-None.ensures.next
