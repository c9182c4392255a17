use Rattle.std.specs.Prelude.{codes}
use Rattle.ql_tree.specs.declared.statement.Statement.TheVariants as statements
use Rattle.self_test.specs.Documents.{document_from}
use Rattle.self_test.specs.Texts.{count_statement, insert_statement}
use Rattle.self_test.proofs.Values.{begin_value, commit_value, count_value, drawn_small, flush_value, insert_value, optimize_value, states_one}
use Rattle.self_test.proofs.laws.texts_are_read_as_statements.Goals as goal

pub returns-clause-inserts : goal.returns-clause-inserts
returns-clause-inserts c = λ id x below. states_one c.canonical_text_is_read.ensures.reads (insert_statement id (document_from x)) (insert_value id (document_from x) below (drawn_small x))

pub returns-clause-counts : goal.returns-clause-counts
returns-clause-counts c = λ count number below. states_one c.canonical_text_is_read.ensures.reads (count_statement count number) (count_value count number below)

pub returns-clause-begins : goal.returns-clause-begins
returns-clause-begins c = states_one c.canonical_text_is_read.ensures.reads statements.Begin begin_value

pub returns-clause-commits : goal.returns-clause-commits
returns-clause-commits c = states_one c.canonical_text_is_read.ensures.reads statements.Commit commit_value

pub returns-clause-flushes : goal.returns-clause-flushes
returns-clause-flushes c = states_one c.canonical_text_is_read.ensures.reads (statements.FlushRamchunk (codes "t")) flush_value

pub returns-clause-optimizes : goal.returns-clause-optimizes
returns-clause-optimizes c = states_one c.canonical_text_is_read.ensures.reads (statements.OptimizeIndex (codes "t")) optimize_value
