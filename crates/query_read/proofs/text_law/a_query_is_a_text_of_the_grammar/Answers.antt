use Rattle.query_marks.specs.Marks.{marks_of}
use Rattle.query_read.proofs.OpenQueries.{text_of_root, root_of_text}
use Rattle.query_read.proofs.text_law.a_query_is_a_text_of_the_grammar.Goals as goal

pub returns : goal.returns
returns c = λ setting text pieces node. (text_of_root node (marks_of setting text pieces), root_of_text node (marks_of setting text pieces))
