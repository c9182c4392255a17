use Rattle.searchd_top.proofs.self_testing.selftest_lines.Goals as goal

pub returns-in-Ok-lines-clause-ended : goal.returns-in-Ok-lines-clause-ended
returns-in-Ok-lines-clause-ended g c = record { summary = c.in-Ok.summary; is = c.in-Ok.ensures.summary; ended = c.in-Ok.ensures.ends; lines_are = c.in-Ok-lines.ensures }
