use Rattle.std.proofs.Common.{◌≡◌, ℕ, ◌<◌, ◌≤◌, length, map, drop, get_or}
use Rattle.std.specs.Prelude.{Contains, ◌↔◌}
use Rattle.doc_types.specs.declared.tokens.TokenWord.{TokenWord}
use Rattle.doc_types.specs.declared.tokens.ZoneSpan.{ZoneSpan}
use Rattle.doc_tokens.specs.Spans.{zone_end, spans_of}
use Rattle.doc_tokens.specs.steps.TokenReader.{Descend}
use Rattle.doc_tokens.proofs.spans.zone_spans.Given as goal

abbrev pub invariant-loop-left : goal.invariant-loop-left
invariant-loop-left l = record {
  within : l.left ≤ length l.tags;
  size : length l.ends ≡ 32;
  ends : (zone : ℕ) → zone < 32 → get_or l.ends zone 0 ≡ zone_end zone (length l.words) (drop l.left l.tags);
  descend : Descend l.spans.items;
  same : (span : ZoneSpan) → Contains l.spans.items span ↔ Contains (spans_of (map (λ (w : TokenWord). w.position) l.words) (drop l.left l.tags)) span;
}

abbrev pub decreases-loop-left : goal.decreases-loop-left
decreases-loop-left l = l.left
