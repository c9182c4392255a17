use Rattle.std.proofs.Common.{◌≡◌, ◌+◌, List, length}
use Rattle.charset_map.specs.Spans.{folded}
use Rattle.mark_scan.specs.Markup.{TextPart}
use Rattle.mark_scan.specs.steps.Scanning.{IsReadable, PartsOf}
use Rattle.mark_scan.proofs.MarkSteps.{Marked}
use Rattle.mark_scan.proofs.marking.marks.Given as goal

abbrev pub invariant-pieces : goal.invariant-pieces
invariant-pieces l = record {
  readable : IsReadable l.rest;
  size : l.reader.place + length l.rest.text.now ≡ length l.text;
  marked : (left : List TextPart) → PartsOf l.rest left → Marked (folded l.charset) l.rules l.text l.reader l.list.items left;
}

abbrev pub decreases-pieces : goal.decreases-pieces
decreases-pieces l = length l.rest.text.now
