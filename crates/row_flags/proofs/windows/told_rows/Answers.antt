use Rattle.row_flags.proofs.windows.told_rows.Goals as goal

pub returns-in-Some-clause-told : goal.returns-in-Some-clause-told
returns-in-Some-clause-told g c = c.told_by_tree.ensures.told c.args.query.now c.in-Some.is

pub returns-in-Some-clause-exact : goal.returns-in-Some-clause-exact
returns-in-Some-clause-exact g c = c.told_by_tree.ensures.exact c.args.query.now c.in-Some.is
