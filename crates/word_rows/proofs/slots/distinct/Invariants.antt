use Rattle.std.proofs.Common.{◌≡◌, map, take}
use Rattle.word_rows.specs.Keywords.{first_uses}
use Rattle.word_rows.proofs.slots.distinct.Given as goal

abbrev pub invariant-loop-key : goal.invariant-loop-key
invariant-loop-key l = map (λ word. word.now) l.words.items ≡ first_uses (map (λ key. key.word) (map (λ key. key.now) (take l.key-index l.keys)))
