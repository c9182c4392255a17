use Rattle.std.proofs.Common.{◌≡◌, length}
use Rattle.charset_map.specs.steps.Ascii.{HasAscii}
use Rattle.charset_map.proofs.charset.Charset.of.Given as goal

abbrev pub invariant-loop-code : goal.invariant-loop-code
invariant-loop-code l = record { filled : HasAscii l.spans l.ascii l.code; whole : length l.ascii ≡ 128 }
