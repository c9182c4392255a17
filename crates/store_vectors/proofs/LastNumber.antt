-- The number of the last record of a list.
use Rattle.std.proofs.Common.{◌≡◌, ℕ, ◌+◌, ◌-◌, suc, List, [], ◌∷◌, Option, Some, length, refl, sym, ◌∙◌, ap, subst, arith}
use Rattle.std.specs.Option.{option_map}
use Rattle.std.specs.List.{slice_get}
use Rattle.gate_log.specs.declared.records.LogRecord.{LogRecord}
use Rattle.gate_log.specs.Logs.{MayFollow, last_number}

last_is : (records : List LogRecord) → last_number records ≡ option_map (λ r. r.number) (slice_get records (length records - 1))
last_is [] = refl
last_is (r ∷ []) = refl
last_is (r ∷ s ∷ records) =
    let next : length (r ∷ s ∷ records) - 1 ≡ suc (length (s ∷ records) - 1) = omega arith in
    last_is (s ∷ records) ∙ sym (ap (λ (i : ℕ). option_map (λ (x : LogRecord). x.number) (slice_get (r ∷ s ∷ records) i)) next)

-- the number behind that of the last record may follow
pub follows_last : (records : List LogRecord) (r : LogRecord) (number : ℕ) → slice_get records (length records - 1) ≡ Some r → number ≡ r.number + 1 → MayFollow (last_number records) number
follows_last records r number is one =
    let last : last_number records ≡ Some r.number = last_is records ∙ ap (λ (o : Option LogRecord). option_map (λ (x : LogRecord). x.number) o) is in
    subst (λ (o : Option ℕ). MayFollow o number) (sym last) one
