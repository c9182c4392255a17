use Rattle.mysql_wire.proofs.WrittenLaws.{greeting_written, ok_written, err_written, eof_written}
use Rattle.mysql_wire.proofs.both_ends.replies_are_read.Goals as goal

pub returns-clause-greeting : goal.returns-clause-greeting
returns-clause-greeting c = greeting_written

pub returns-clause-ok : goal.returns-clause-ok
returns-clause-ok c = ok_written

pub returns-clause-err : goal.returns-clause-err
returns-clause-err c = err_written

pub returns-clause-eof : goal.returns-clause-eof
returns-clause-eof c = eof_written
