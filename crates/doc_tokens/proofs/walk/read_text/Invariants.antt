use Rattle.std.proofs.Common.{◌≡◌, ◌+◌, length, IsUtf8}
use Rattle.std.specs.Str.{chars}
use Rattle.charset_map.specs.Spans.{folded}
use Rattle.doc_tokens.specs.TextSigns.{signs_from}
use Rattle.doc_tokens.specs.steps.TokenReader.{HasPassed, Wants}
use Rattle.doc_tokens.proofs.walk.read_text.Given as goal

abbrev pub invariant-chars : goal.invariant-chars
invariant-chars l = record {
  utf8 : IsUtf8 l.rest;
  size : l.place + length l.rest ≡ length l.text;
  passed : HasPassed l.marks l.passed l.place;
  wants : Wants (signs_from (folded l.charset) l.marks 0 (chars l.text)) l.reader (signs_from (folded l.charset) l.marks l.place (chars l.rest));
}

abbrev pub decreases-chars : goal.decreases-chars
decreases-chars l = length l.rest
