-- The front of a file that is read.
use Rattle.std.proofs.Common.{◌≡◌, inl, inr, ℕ, List, Option, Some, None, length, take, min, refl, sym, ◌∙◌, ap, arith}
use Rattle.std.specs.Option.{option_map}
use Rattle.std.proofs.lemmas.Bool.{cases_lt}
use Rattle.std.proofs.lemmas.List.{take_all}
use Rattle.chunk_store.specs.Images.{Reads, contents}

take_least : (whole : List ℕ) (most : ℕ) → take (min (length whole) most) whole ≡ take most whole
take_least whole most = elim (cases_lt most (length whole)) [
  | inl lt ↦ let same : min (length whole) most ≡ most = omega (arith, lt) in ap (λ (n : ℕ). take n whole) same
  | inr ge ↦ take_all (min (length whole) most) whole (omega (arith, ge)) ∙ sym (take_all most whole ge)
]

pub front_by : (into : List ℕ) (file : Option (List ℕ)) (n most : ℕ) → Some n ≡ option_map length file → length into ≡ min n most → Reads (contents file) 0 into → (whole : List ℕ) × (file ≡ Some whole) × (into ≡ take most whole)
front_by into None n most len size reads = absurd (cc len)
front_by into (Some whole) n most len size reads =
    let same : n ≡ length whole = cc in
    let short : length into ≡ min (length whole) most = size ∙ ap (λ (k : ℕ). min k most) same in
    (whole, refl, reads ∙ ap (λ (k : ℕ). take k whole) short ∙ take_least whole most)
