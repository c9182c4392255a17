-- What stood before stays in front.
use Rattle.std.proofs.Common.{◌≡◌, ℕ, List, ◌++◌, length, take, drop, sym, ap, ◌∙◌, append_assoc}
use Rattle.std.proofs.lemmas.List.{take_at, take-append-drop}

-- a prefix of a prefix is a prefix
pub front_stays : (old more mid new : List ℕ) (n m : ℕ) → length old ≡ n → mid ≡ old ++ more → take m new ≡ mid → take n new ≡ old
front_stays old more mid new n m len behind kept =
    let parts : new ≡ old ++ (more ++ drop m new) = sym (take-append-drop m new) ∙ ap (λ (front : List ℕ). front ++ drop m new) (kept ∙ behind) ∙ append_assoc old more (drop m new) in
    ap (take n) parts ∙ take_at old (more ++ drop m new) n len
