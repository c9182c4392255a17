use Rattle.query_marks.specs.Marks.{setting_of, marks_of}
use Rattle.query_write.specs.Written.{written}
use Rattle.ext_query.proofs.WrittenBack.{read_back, shallow_value}
use Rattle.ext_query.proofs.written_law.a_written_query_is_read_back.Goals as goal

pub returns : goal.returns
returns c = λ schema query source fold text read pieces is gives utf8 are value back again.
    let found = read_back schema is query source fold text read pieces gives utf8 are value back again in
    (found, shallow_value query (marks_of (setting_of fold schema) (written schema query) pieces) found)
