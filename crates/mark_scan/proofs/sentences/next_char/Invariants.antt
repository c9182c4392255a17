use Rattle.std.proofs.Common.{List, length}
use Rattle.mark_scan.specs.Markup.{TextPart}
use Rattle.mark_scan.specs.steps.Scanning.{run_from, PartsOf, IsReadable, IsAhead}
use Rattle.mark_scan.proofs.sentences.next_char.Given as goal

abbrev pub invariant-pieces : goal.invariant-pieces
invariant-pieces l = record {
  readable : IsReadable l.rest;
  ahead : (parts : List TextPart) → PartsOf l.after parts → IsAhead l.rules.zones (run_from l.rules.zones l.text parts) l.rest;
}

abbrev pub decreases-pieces : goal.decreases-pieces
decreases-pieces l = length l.rest.text.now
