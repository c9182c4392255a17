-- A field has fewer words than fit its count.
use Rattle.std.proofs.Common.{◌≤◌, ◌<◌, ◌^◌, ℕ, ◌+◌, List, [], ◌∷◌, length, arith}
use Rattle.std.specs.List.{All}
use Rattle.std.proofs.lemmas.List.Elements.{All-head, All-tail}
use Rattle.doc_types.specs.Documents.{Follow, IsField, step}
use Rattle.doc_types.specs.declared.tokens.TheConstants.{MAX_POSITION}
use Rattle.doc_types.specs.declared.tokens.FieldTokens.{FieldTokens}
use Rattle.doc_types.specs.declared.tokens.Gap.{Gap}
use Rattle.doc_types.specs.declared.tokens.Gap.TheVariants as gaps
use Rattle.doc_types.specs.declared.tokens.TokenWord.{TokenWord}

pub some_step : (gap : Gap) → 1 ≤ step gap
some_step gaps.None = omega arith
some_step gaps.Sentence = omega arith
some_step gaps.Paragraph = omega arith

within : (before : ℕ) (words : List TokenWord) → Follow before words → All (λ word. word.position ≤ MAX_POSITION) words → before ≤ MAX_POSITION → before + length words ≤ MAX_POSITION
within before [] follow positions low = omega (arith, low)
within before (word ∷ words) follow positions low =
    let rest = within word.position words follow.1 (All-tail (λ (w : TokenWord). w.position ≤ MAX_POSITION) word words positions) (All-head (λ (w : TokenWord). w.position ≤ MAX_POSITION) word words positions) in
    omega (arith, rest, follow.0, some_step word.gap)

pub few_words : (tokens : FieldTokens) → IsField tokens → length tokens.words < 2 ^ 32
few_words tokens field = omega (arith, within 0 tokens.words field.placed.follow field.within (omega arith))
