use Rattle.mysql_wire.proofs.WrittenLaws.{number_written, column_written, row_written}
use Rattle.mysql_wire.proofs.both_ends.result_sets_are_read.Goals as goal

pub returns-clause-number : goal.returns-clause-number
returns-clause-number c = number_written

pub returns-clause-column : goal.returns-clause-column
returns-clause-column c = column_written

pub returns-clause-row : goal.returns-clause-row
returns-clause-row c = row_written
