-- Copies of doors over memory.
use Rattle.std.proofs.Common.{◌≡◌, List, [], ◌∷◌, refl, arith}
use Rattle.std.specs.List.{All, AllZip}
use Rattle.std.proofs.lemmas.List.Elements.{All-cons}
use Rattle.srch_base.specs.Memory.{Lines, lines_given}
use Rattle.program_host.specs.Lending.{IsWithin}

abbrev pub IsLent : Lines → Type 0
IsLent = IsWithin (λ (door : Lines). door.returned) lines_given

abbrev pub IsCopy : Lines → Lines → Type 0
IsCopy door other = (other ≡ door) × IsLent other

-- copies are the doors themselves
pub copies_same : (doors copies : List Lines) → AllZip IsCopy doors copies → copies ≡ doors
copies_same [] [] a = refl
copies_same [] (y ∷ ys) a = absurd a
copies_same (x ∷ xs) [] a = absurd a
copies_same (x ∷ xs) (y ∷ ys) a = let rest : ys ≡ xs = copies_same xs ys a.1 in let first : y ≡ x = a.0.0 in cc

pub copies_lent : (doors copies : List Lines) → AllZip IsCopy doors copies → All IsLent copies
copies_lent [] [] a = λ k d h. absurd (omega arith)
copies_lent [] (y ∷ ys) a = absurd a
copies_lent (x ∷ xs) [] a = absurd a
copies_lent (x ∷ xs) (y ∷ ys) a = All-cons IsLent y ys a.0.1 (copies_lent xs ys a.1)
