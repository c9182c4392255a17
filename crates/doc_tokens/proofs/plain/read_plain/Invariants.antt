use Rattle.std.proofs.Common.{IsUtf8, length}
use Rattle.std.specs.Str.{chars}
use Rattle.charset_map.specs.Spans.{folded}
use Rattle.doc_tokens.specs.steps.TokenReader.{Wants, plain_signs}
use Rattle.doc_tokens.proofs.plain.read_plain.Given as goal

abbrev pub invariant-chars : goal.invariant-chars
invariant-chars l = record {
  utf8 : IsUtf8 l.rest;
  wants : Wants (plain_signs (folded l.charset) (chars l.text)) l.reader (plain_signs (folded l.charset) (chars l.rest));
}

abbrev pub decreases-chars : goal.decreases-chars
decreases-chars l = length l.rest
