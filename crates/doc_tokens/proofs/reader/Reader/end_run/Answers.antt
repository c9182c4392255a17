use Rattle.std.proofs.Common.{◌≡◌, ℕ, ◌+◌, ◌≤◌, ◌++◌, [], ◌∷◌, refl, ◌∙◌, ap, subst, arith}
use Rattle.std.specs.String.{string_bytes}
use Rattle.std.proofs.lemmas.Str.{IsUtf8-string_bytes}
use Rattle.doc_types.specs.declared.tokens.TheConstants.{MAX_POSITION}
use Rattle.doc_types.specs.declared.tokens.TokenWord.{TokenWord}
use Rattle.doc_types.specs.Documents.{step}
use Rattle.doc_tokens.specs.steps.TokenReader.{gap_after}
use Rattle.doc_tokens.proofs.ReaderSteps.{run_above, run_ended}
use Rattle.doc_tokens.proofs.reader.Reader.end_run.Goals as goal

pub returns-then-position-gt-MAX_POSITION : goal.returns-then-position-gt-MAX_POSITION
returns-then-position-gt-MAX_POSITION c = λ all letters rest apart holds.
    let reader = c.args.self.now in
    run_above all reader letters rest (reader.position + c.step.result) c.if-self-eq0.false apart c.if-position-gt-MAX_POSITION.true
    (ap (λ (n : ℕ). reader.position + n) (c.step.ensures ∙ ap step c.gap_before-gap.ensures)) holds

pub returns : goal.returns
returns c = λ all letters rest apart holds.
    let reader = c.args.self.now in
    let step_is : c.step.result ≡ step (gap_after reader.position reader.gap) = c.step.ensures ∙ ap step c.gap_before-gap.ensures in
    let word_is : c.in_ok-word.word ≡ string_bytes reader.run = c.in_ok-word.ensures ∙ c.as_bytes.ensures.value in
    let word : TokenWord = record { word = c.in_ok-word.word; position = reader.position + c.step.result; gap = c.gap_before-gap.result } in
    run_ended all reader _ letters rest c.if-self-eq0.false apart (IsUtf8-string_bytes reader.run)
    (subst (λ (n : ℕ). reader.position + n ≤ MAX_POSITION) step_is (omega (arith, c.if-position-gt-MAX_POSITION.false)))
    c.clear.ensures.bytes refl (ap (λ (n : ℕ). reader.position + n) step_is) refl refl
    (c.in_ok-push.ensures.items ∙ (λ i. reader.found.words.items ++ record word { word = word_is i; position = reader.position + step_is i; gap = c.gap_before-gap.ensures i } ∷ []))
    holds
