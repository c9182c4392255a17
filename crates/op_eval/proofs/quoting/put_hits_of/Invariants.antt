use Rattle.std.proofs.Common.{◌≡◌, ℕ, ◌++◌, map, take}
use Rattle.op_eval.proofs.quoting.put_hits_of.Given as goal

abbrev pub invariant-loop-place : goal.invariant-loop-place
invariant-loop-place l =
    l.hits.items ≡ l.initial.hits.items ++ map (λ (p : ℕ × ℕ). record { query = l.term.query; word = l.word; field = p.0; position = p.1 }) (take l.place-index l.place-items)
