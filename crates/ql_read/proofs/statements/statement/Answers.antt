use Rattle.std.proofs.Common.{[], ◌∷◌, refl}
use Rattle.ql_lex.specs.declared.token.Sign.TheVariants as signs
use Rattle.ql_grammar.specs.declared.keyword.Keyword.TheVariants as keywords
use Rattle.ql_grammar.specs.Classes.{the_sign}
use Rattle.ql_grammar.specs.Alphabet.{sphinxql}
use Rattle.ql_grammar.specs.Terminals.{keyword, name, two_keywords}
use Rattle.ql_grammar.specs.Statements.{IsStatement}
use Rattle.ql_grammar.specs.steps.GoingOn.{select_goes_on}
use Rattle.ql_grammar.specs.steps.Grammar.{delete, flush, insert, selects, set, show}
use Rattle.token_grammar.specs.Language.{◌⨾◌}
use Rattle.token_grammar.proofs.Choices.{reads_if, reads_wider}
use Rattle.ql_read.proofs.StatementChoices.{from_begin, from_commit, from_delete, from_describe, from_flush, from_optimize, from_rollback, from_set, from_show, from_start, from_truncate, past_begin, past_commit, past_delete, past_describe, past_flush, past_optimize, past_rollback, past_select, past_set, past_show, past_start, past_truncate}
use Rattle.ql_read.proofs.statements.statement.Goals as goal

pub returns-then-is_keyword : goal.returns-then-is_keyword
returns-then-is_keyword c = reads_if selects from_delete select_goes_on select_goes_on IsStatement c.selects.new.input c.selects.result c.if-is_keyword.ensures refl c.selects.ensures

pub returns-then-is_keyword-2 : goal.returns-then-is_keyword-2
returns-then-is_keyword-2 c = past_select c.args.input.now c.delete.new.input c.delete.result c.if-is_keyword.ensures (reads_if delete from_set [] select_goes_on IsStatement c.delete.new.input c.delete.result c.if-is_keyword-2.ensures refl c.delete.ensures)

pub returns-then-is_keyword-3 : goal.returns-then-is_keyword-3
returns-then-is_keyword-3 c = past_delete c.args.input.now c.set.new.input c.set.result c.if-is_keyword.ensures c.if-is_keyword-2.ensures (reads_if set from_show [] select_goes_on IsStatement c.set.new.input c.set.result c.if-is_keyword-3.ensures refl c.set.ensures)

pub returns-then-is_keyword-4 : goal.returns-then-is_keyword-4
returns-then-is_keyword-4 c = past_set c.args.input.now c.show.new.input c.show.result c.if-is_keyword.ensures c.if-is_keyword-2.ensures c.if-is_keyword-3.ensures (reads_if show from_flush [] select_goes_on IsStatement c.show.new.input c.show.result c.if-is_keyword-4.ensures refl c.show.ensures)

pub returns-then-is_keyword-5 : goal.returns-then-is_keyword-5
returns-then-is_keyword-5 c = past_show c.args.input.now c.flush.new.input c.flush.result c.if-is_keyword.ensures c.if-is_keyword-2.ensures c.if-is_keyword-3.ensures c.if-is_keyword-4.ensures (reads_if flush from_begin [] select_goes_on IsStatement c.flush.new.input c.flush.result c.if-is_keyword-5.ensures refl c.flush.ensures)

pub returns-then-is_keyword-6 : goal.returns-then-is_keyword-6
returns-then-is_keyword-6 c = past_flush c.args.input.now c.begin.new.input c.begin.result c.if-is_keyword.ensures c.if-is_keyword-2.ensures c.if-is_keyword-3.ensures c.if-is_keyword-4.ensures c.if-is_keyword-5.ensures (reads_if (keyword keywords.Begin) from_start [] select_goes_on IsStatement c.begin.new.input c.begin.result c.if-is_keyword-6.ensures refl c.begin.ensures)

pub returns-then-is_keyword-7 : goal.returns-then-is_keyword-7
returns-then-is_keyword-7 c = past_begin c.args.input.now c.start_transaction.new.input c.start_transaction.result c.if-is_keyword.ensures c.if-is_keyword-2.ensures c.if-is_keyword-3.ensures c.if-is_keyword-4.ensures c.if-is_keyword-5.ensures c.if-is_keyword-6.ensures (reads_if (two_keywords keywords.Start keywords.Transaction) from_commit [] select_goes_on IsStatement c.start_transaction.new.input c.start_transaction.result c.if-is_keyword-7.ensures refl c.start_transaction.ensures)

pub returns-then-is_keyword-8 : goal.returns-then-is_keyword-8
returns-then-is_keyword-8 c = past_start c.args.input.now c.commit.new.input c.commit.result c.if-is_keyword.ensures c.if-is_keyword-2.ensures c.if-is_keyword-3.ensures c.if-is_keyword-4.ensures c.if-is_keyword-5.ensures c.if-is_keyword-6.ensures c.if-is_keyword-7.ensures (reads_if (keyword keywords.Commit) from_rollback [] select_goes_on IsStatement c.commit.new.input c.commit.result c.if-is_keyword-8.ensures refl c.commit.ensures)

pub returns-then-is_keyword-9 : goal.returns-then-is_keyword-9
returns-then-is_keyword-9 c = past_commit c.args.input.now c.rollback.new.input c.rollback.result c.if-is_keyword.ensures c.if-is_keyword-2.ensures c.if-is_keyword-3.ensures c.if-is_keyword-4.ensures c.if-is_keyword-5.ensures c.if-is_keyword-6.ensures c.if-is_keyword-7.ensures c.if-is_keyword-8.ensures (reads_if (keyword keywords.Rollback) from_optimize [] select_goes_on IsStatement c.rollback.new.input c.rollback.result c.if-is_keyword-9.ensures refl c.rollback.ensures)

pub returns-then-is_keyword-10 : goal.returns-then-is_keyword-10
returns-then-is_keyword-10 c = past_rollback c.args.input.now c.optimize.new.input c.optimize.result c.if-is_keyword.ensures c.if-is_keyword-2.ensures c.if-is_keyword-3.ensures c.if-is_keyword-4.ensures c.if-is_keyword-5.ensures c.if-is_keyword-6.ensures c.if-is_keyword-7.ensures c.if-is_keyword-8.ensures c.if-is_keyword-9.ensures (reads_if (two_keywords keywords.Optimize keywords.Index ⨾ name) from_truncate [] select_goes_on IsStatement c.optimize.new.input c.optimize.result c.if-is_keyword-10.ensures refl c.optimize.ensures)

pub returns-then-is_keyword-11 : goal.returns-then-is_keyword-11
returns-then-is_keyword-11 c = past_optimize c.args.input.now c.truncate.new.input c.truncate.result c.if-is_keyword.ensures c.if-is_keyword-2.ensures c.if-is_keyword-3.ensures c.if-is_keyword-4.ensures c.if-is_keyword-5.ensures c.if-is_keyword-6.ensures c.if-is_keyword-7.ensures c.if-is_keyword-8.ensures c.if-is_keyword-9.ensures c.if-is_keyword-10.ensures (reads_if (two_keywords keywords.Truncate keywords.RtIndex ⨾ name) from_describe [] select_goes_on IsStatement c.truncate.new.input c.truncate.result c.if-is_keyword-11.ensures refl c.truncate.ensures)

pub returns-then-is_keyword-12 : goal.returns-then-is_keyword-12
returns-then-is_keyword-12 c = past_truncate c.args.input.now c.describe.new.input c.describe.result c.if-is_keyword.ensures c.if-is_keyword-2.ensures c.if-is_keyword-3.ensures c.if-is_keyword-4.ensures c.if-is_keyword-5.ensures c.if-is_keyword-6.ensures c.if-is_keyword-7.ensures c.if-is_keyword-8.ensures c.if-is_keyword-9.ensures c.if-is_keyword-10.ensures c.if-is_keyword-11.ensures (reads_if (keyword keywords.Describe ⨾ name) insert [] select_goes_on IsStatement c.describe.new.input c.describe.result c.if-is_keyword-12.ensures refl c.describe.ensures)

pub returns : goal.returns
returns c = past_describe c.args.input.now c.insert.new.input c.insert.result c.if-is_keyword.ensures c.if-is_keyword-2.ensures c.if-is_keyword-3.ensures c.if-is_keyword-4.ensures c.if-is_keyword-5.ensures c.if-is_keyword-6.ensures c.if-is_keyword-7.ensures c.if-is_keyword-8.ensures c.if-is_keyword-9.ensures c.if-is_keyword-10.ensures c.if-is_keyword-11.ensures c.if-is_keyword-12.ensures (reads_wider sphinxql insert (the_sign signs.Comma ∷ []) select_goes_on IsStatement c.args.input.now c.insert.new.input c.insert.result refl c.insert.ensures)
