use Rattle.std.proofs.Common.{◌≡◌, map, take, false, All}
use Rattle.std.specs.List.{AllZip}
use Rattle.word_rows.specs.steps.Cursors.{IsMadeFor}
use Rattle.word_rows.specs.Slots.{number_among}
use Rattle.word_rows.proofs.slots.terms_of.Given as goal

abbrev pub invariant-loop-key : goal.invariant-loop-key
invariant-loop-key l = record {
  made : AllZip (IsMadeFor (number_among (map (λ key. key.now) l.keys)) l.fields) (map (λ key. key.now) (take l.key-index l.keys)) l.terms.items;
  absent : All (λ term. term.present ≡ false) l.terms.items;
}
