use Rattle.std.proofs.Common.{◌≡◌, ℕ, ◌-◌, take, refl, ◌∙◌, ap, arith}
use Rattle.doc_tokens.proofs.ReaderSteps.{run_joined}
use Rattle.doc_tokens.proofs.reader.Reader.letters.Goals as goal

pub returns : goal.returns
returns c = λ all rest wants.
    let room = c.min-kept.ensures in
    let whole : c.min-kept.result - 0 ≡ c.min-kept.result = omega arith in
    run_joined all c.args.self.now _ c.args.run.now c.range.result.now c.min-kept.result rest refl refl refl c.requires
    (omega (arith, room)) (c.range.ensures.value ∙ ap (λ (n : ℕ). take n c.args.run.now) whole) c.in_ok-push_str.ensures.bytes refl wants
