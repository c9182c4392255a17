use Rattle.std.proofs.Common.{◌≡◌, false, take}
use Rattle.std.specs.List.{list_any}
use Rattle.word_rows.specs.RowMarks.{has_zones}
use Rattle.word_rows.proofs.asking.of_keys.Given as goal

abbrev pub invariant-loop-key : goal.invariant-loop-key
invariant-loop-key l = record {
  boundaries : l.all.boundaries ≡ false;
  spans : l.all.spans ≡ list_any has_zones (take l.key-index l.keys);
}
