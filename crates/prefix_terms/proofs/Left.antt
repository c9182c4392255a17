-- How many words are left.
use Rattle.std.proofs.Common.{◌≡◌, ◌≢◌, ℕ, zero, suc, ◌+◌, ◌-◌, ◌*◌, ◌<◌, ◌≤◌, ◌^◌, List, [], ◌∷◌, Option, Some, None, length, ap, ◌∙◌, arith, All, true, false, ◌⊎◌, inl, inr, ⊎_elim}
use Rattle.std.specs.Str.{bytes_eq}
use Rattle.std.proofs.lemmas.Bool.{both_ways, cases_Bool}
use Rattle.std.proofs.lemmas.List.Elements.{All-head, All-tail}
use Rattle.std.proofs.lemmas.Option.{none-some, same_Some, slice_get_within}
use Rattle.std.proofs.lemmas.Slice.Eq.{bytes_eq-Decides}
use Rattle.prefix_terms.specs.steps.Parts.{PartValue}
use Rattle.prefix_terms.specs.steps.Merging.{ArePassed, IsLeastWord, IsPassed, front_at, number_at, part_at}

-- how many words of the parts are left from these numbers on
abbrev pub left : List PartValue → List ℕ → ℕ
left [] numbers = 0
left (part ∷ parts) [] = length part.words + left parts []
left (part ∷ parts) (number ∷ numbers) = (length part.words - number) + left parts numbers

-- each number stays or grows
kept_or_less : (parts : List PartValue) (old new : List ℕ) → length old ≡ length parts → length new ≡ length parts → ((k : ℕ) → k < length parts → number_at old k ≤ number_at new k) → left parts new ≤ left parts old
kept_or_less [] old new long wide grow = omega arith
kept_or_less (p ∷ ps) [] new long wide grow = absurd (omega (arith, long))
kept_or_less (p ∷ ps) (o ∷ os) [] long wide grow = absurd (omega (arith, wide))
kept_or_less (p ∷ ps) (o ∷ os) (n ∷ ns) long wide grow =
    let first : o ≤ n = grow 0 (omega arith) in
    let rest = kept_or_less ps os ns (omega (arith, long)) (omega (arith, wide)) (λ k low. grow (suc k) (omega (arith, low))) in
    omega (arith, first, rest)

-- and one of them grows
pub fewer : (parts : List PartValue) (old new : List ℕ) (at : ℕ) → length old ≡ length parts → length new ≡ length parts → ((k : ℕ) → k < length parts → number_at old k ≤ number_at new k) → at < length parts → number_at old at < number_at new at → number_at old at < length (part_at parts at).words → left parts new < left parts old
fewer [] old new at long wide grow low more some = absurd (omega (arith, low))
fewer (p ∷ ps) [] new at long wide grow low more some = absurd (omega (arith, long))
fewer (p ∷ ps) (o ∷ os) [] at long wide grow low more some = absurd (omega (arith, wide))
fewer (p ∷ ps) (o ∷ os) (n ∷ ns) zero long wide grow low more some =
    let rest = kept_or_less ps os ns (omega (arith, long)) (omega (arith, wide)) (λ k below. grow (suc k) (omega (arith, below))) in
    omega (arith, more, some, rest)
fewer (p ∷ ps) (o ∷ os) (n ∷ ns) (suc at) long wide grow low more some =
    let first : o ≤ n = grow 0 (omega arith) in
    let rest = fewer ps os ns at (omega (arith, long)) (omega (arith, wide)) (λ k below. grow (suc k) (omega (arith, below))) (omega (arith, low)) more some in
    omega (arith, first, rest)

-- a part's number after the word was gone over
grown : (word : List ℕ) (front : Option (List ℕ)) (old new : ℕ) (same : (front ≡ Some word) ⊎ (front ≢ Some word)) → IsPassed word front old new → old ≤ new
grown word front old new same is = ⊎_elim (λ at. let e = is.over at in omega (arith, e)) (λ other. let e = is.stays other in omega (arith, e)) same

decided : (front : Option (List ℕ)) (word : List ℕ) → (front ≡ Some word) ⊎ (front ≢ Some word)
decided None word = inr (λ e. none-some word e)
decided (Some own) word =
    ⊎_elim
    (λ (yes : bytes_eq own word ≡ true). inl (ap Some ((bytes_eq-Decides own word).0 yes)))
    (λ (no : bytes_eq own word ≡ false). inr (λ e. both_ways (bytes_eq own word) no ((bytes_eq-Decides own word).1 (same_Some own word e))))
    (cases_Bool (bytes_eq own word))

-- a word that was gone over is left no more
pub one_fewer : (parts : List PartValue) (old new : List ℕ) (word : List ℕ) → length old ≡ length parts → length new ≡ length old → IsLeastWord parts old (length parts) (Some word) → ArePassed word parts old new (length parts) → left parts new < left parts old
one_fewer parts old new word long wide least passed =
    let at = least.0.0 in
    let next = (passed at least.0.1).over least.0.2 in
    let some = slice_get_within (part_at parts at).words (number_at old at) word least.0.2 in
    fewer parts old new at long (wide ∙ long) (λ k low. grown word (front_at parts old k) (number_at old k) (number_at new k) (decided (front_at parts old k) word) (passed k low)) least.0.1 (omega (arith, next)) some

-- a bound on all
pub left_most : (parts : List PartValue) (numbers : List ℕ) → All (λ part. length part.words < 2 ^ 32) parts → left parts numbers ≤ length parts * 2 ^ 32
left_most [] numbers short = omega arith
left_most (p ∷ ps) [] short =
    let first = All-head (λ (part : PartValue). length part.words < 2 ^ 32) p ps short in
    let rest = left_most ps [] (All-tail (λ (part : PartValue). length part.words < 2 ^ 32) p ps short) in
    omega (arith, first, rest)
left_most (p ∷ ps) (n ∷ ns) short =
    let first = All-head (λ (part : PartValue). length part.words < 2 ^ 32) p ps short in
    let rest = left_most ps ns (All-tail (λ (part : PartValue). length part.words < 2 ^ 32) p ps short) in
    omega (arith, first, rest)
