use Rattle.std.proofs.Common.{◌≡◌, ℕ, ◌++◌, map, take}
use Rattle.occ_lists.specs.Places.{at_place}
use Rattle.op_eval.proofs.quoting.put_keyword.Given as goal

abbrev pub invariant-loop-place : goal.invariant-loop-place
invariant-loop-place l = record {
  occs : l.out.occs.items ≡ l.initial.out.occs.items ++ map at_place (take l.place-index l.place-items);
  hits : l.out.hits.items ≡ l.initial.out.hits.items ++ map (λ (p : ℕ × ℕ). record { query = l.term.query; word = l.word; field = p.0; position = p.1 }) (take l.place-index l.place-items);
}
