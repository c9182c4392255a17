use Rattle.std.proofs.Common.{◌≡◌, ◌⊎◌, ◌≤◌, ◌+◌, length}
use Rattle.std.specs.Prelude.{drop}
use Rattle.query_pieces.specs.QueryBytes.{spells}
use Rattle.query_pieces.proofs.bytes.has.Given as goal

abbrev pub invariant-loop-k : goal.invariant-loop-k
invariant-loop-k l = record {
  rest : spells l.text l.place l.word ≡ spells l.text (l.place + l.k) (drop l.k l.word);
  within : (l.k ≡ 0) ⊎ (l.place + l.k ≤ length l.text);
}
