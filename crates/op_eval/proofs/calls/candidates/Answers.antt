use Rattle.std.proofs.Common.{◌≡◌, ◌≤◌, ◌+◌, ℕ, List, IfOk, subst, sym}
use Rattle.query_tree.specs.declared.key.Key.{Key}
use Rattle.op_eval.specs.Debts.{due}
use Rattle.op_eval.proofs.Searches.{matching_is, matching_living, query_keys_are}
use Rattle.op_eval.proofs.calls.candidates.Goals as goal

pub returns-in-None-clause-rows : goal.returns-in-None-clause-rows
returns-in-None-clause-rows g c =
    subst (λ (numbers : List ℕ). IfOk c.living.result (λ rows. rows.items ≡ numbers))
    (sym (matching_living c.args.query.now (g.C.Chunk.content c.args.chunk.now) c.args.dead.now c.in-None.is)) c.living.ensures

pub returns-in-Some-clause-rows : goal.returns-in-Some-clause-rows
returns-in-Some-clause-rows g c =
    subst (λ (numbers : List ℕ). IfOk c.wanted.result (λ rows. rows.items ≡ numbers))
    (sym (matching_is c.args.query.now c.in-Some.root (g.C.Chunk.content c.args.chunk.now) c.args.dead.now c.in-Some.is)) c.wanted.ensures.rows

pub returns-in-Some-clause-debt : goal.returns-in-Some-clause-debt
returns-in-Some-clause-debt g c =
    subst (λ (keys : List Key). c.wanted.new.steps ≤ c.args.steps.now + due (g.C.Chunk.content c.args.chunk.now) keys 0)
    (sym (query_keys_are c.args.query.now c.in-Some.root c.in-Some.is)) c.wanted.ensures.debt
