use Rattle.std.proofs.Common.{◌≡◌, ℕ, ◌+◌, List, length, IsUtf8}
use Rattle.std.specs.Str.{chars}
use Rattle.charset_map.specs.Spans.{folded}
use Rattle.mark_scan.specs.Markup.{TextPart}
use Rattle.mark_scan.specs.Marks.{run_of}
use Rattle.mark_scan.specs.steps.Scanning.{IsBefore, PartsOf}
use Rattle.mark_scan.proofs.SentenceSteps.{Reached}
use Rattle.mark_scan.proofs.sentences.push_sentences.Given as goal

abbrev pub invariant-chars : goal.invariant-chars
invariant-chars l = record {
  utf8 : IsUtf8 l.rest;
  size : l.place + length l.rest ≡ l.from + length l.text;
  reached : (parts : List TextPart) → PartsOf l.after parts → (seen : List ℕ) → IsBefore (folded l.charset) l.fn.start seen → Reached (folded l.charset) (chars (run_of l.rules.zones parts)) l.from (chars l.text) seen l.fn.list.items l.before l.place (chars l.rest) l.list.items;
}

abbrev pub decreases-chars : goal.decreases-chars
decreases-chars l = length l.rest
