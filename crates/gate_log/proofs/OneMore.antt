-- One more record.
use Rattle.std.proofs.Common.{◌≡◌, ℕ, ◌+◌, List, [], ◌∷◌, ◌++◌, Some, refl, ◌∙◌, ap, length, arith, append_assoc, length-append}
use Rattle.std.proofs.lemmas.List.Concat.{flat_map-append}
use Rattle.std.proofs.lemmas.List.{append-nil}
use Rattle.std.proofs.lemmas.List.Elements.{All-push}
use Rattle.gate_log.specs.declared.records.LogRecord.{LogRecord}
use Rattle.gate_log.specs.Frames.{frame}
use Rattle.gate_log.specs.Logs.{AreRecords, AreConsecutive, MayFollow, Fits, spelled, last_number}

pub last-push : (records : List LogRecord) (r : LogRecord) → last_number (records ++ r ∷ []) ≡ Some r.number
last-push [] r = refl
last-push (a ∷ []) r = refl
last-push (a ∷ b ∷ records) r = last-push (b ∷ records) r

consecutive-push : (records : List LogRecord) (r : LogRecord) → AreConsecutive records → MayFollow (last_number records) r.number → AreConsecutive (records ++ r ∷ [])
consecutive-push [] r before follows = tt
consecutive-push (a ∷ []) r before follows = (follows, tt)
consecutive-push (a ∷ b ∷ records) r before follows = (before.0, consecutive-push (b ∷ records) r before.1 follows)

pub records-push : (records : List LogRecord) (r : LogRecord) → AreRecords records → Fits r → MayFollow (last_number records) r.number → AreRecords (records ++ r ∷ [])
records-push records r before fits follows = record {
  fit = All-push Fits records r before.fit fits;
  numbers = consecutive-push records r before.numbers follows;
}

pub spelled-push : (records : List LogRecord) (r : LogRecord) (rest : List ℕ) → spelled (records ++ r ∷ []) ++ rest ≡ spelled records ++ 1 ∷ (frame r ++ rest)
spelled-push records r rest =
    ap (λ (l : List ℕ). l ++ rest) (flat_map-append (λ (s : LogRecord). 1 ∷ frame s) records (r ∷ []))
    ∙ append_assoc (spelled records) ((1 ∷ frame r) ++ []) rest
    ∙ ap (λ (l : List ℕ). spelled records ++ (l ++ rest)) (append-nil (1 ∷ frame r))

pub length-spelled-push : (records : List LogRecord) (r : LogRecord) → length (spelled (records ++ r ∷ [])) ≡ length (spelled records) + (13 + length r.payload)
length-spelled-push records r =
    omega (arith, ap length (spelled-push records r []), length-append (spelled (records ++ r ∷ [])) [], length-append (spelled records) (1 ∷ (frame r ++ [])), length-append (frame r) [])
