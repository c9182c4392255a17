use Rattle.op_eval.proofs.search.Search.next_row.Goals as goal

pub returns-clause-first : goal.returns-clause-first
returns-clause-first g c = c.next_row_alive.ensures.first c.args.self.now.root.now c.requires.search.keys c.requires.search.plan
