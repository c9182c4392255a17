-- One reading of a log: its records, and how they end.
use Rattle.std.proofs.Common.{◌≡◌, ◌⊎◌, inl, inr, ℕ, ◌<◌, List, [], ◌∷◌, ◌++◌, Option, Some, None, Ok, Err, length, map, refl, sym, ◌∙◌, ap, subst, arith, append_assoc, length-append}
use Rattle.std.specs.Prelude.{All}
use Rattle.std.specs.Option.{option_map}
use Rattle.std.proofs.lemmas.List.Elements.{All-nil, All-head, All-tail}
use Rattle.doc_types.specs.declared.schema.Schema.{Schema}
use Rattle.doc_types.specs.declared.transactions.Txn.{Txn}
use Rattle.doc_bytes.specs.Reading.{txn_at}
use Rattle.chunk_store.specs.Images.{contents}
use Rattle.gate_log.specs.Frames.{frame}
use Rattle.gate_log.specs.Logs.{AreConsecutive, Fits, IsLogOf, last_number, spelled}
use Rattle.gate_log.specs.Reading.{Begins, Ends, IsClosed, MayCome, behind}
use Rattle.gate_log.specs.declared.fault.LogKind.{LogKind}
use Rattle.gate_log.specs.declared.fault.LogKind.TheVariants as faults
use Rattle.gate_log.specs.declared.reading.Before.{Before}
use Rattle.gate_log.specs.declared.reading.Before.TheVariants as befores
use Rattle.gate_log.specs.declared.records.LogRecord.{LogRecord}
use Rattle.gate_log.proofs.OneReading.{Reading, behind_is, goes_on as record_goes_on, later, one_frame, one_reading, tail_of}
use Rattle.store_steps.specs.Batches.{Batch, IsBatchOf, record_of}
use Rattle.store_steps.specs.Damage.{IsBadBehind, IsBadLog, IsBadPayload, IsWrong}
use Rattle.store_steps.specs.declared.damage.DamageKind.{DamageKind}
use Rattle.store_steps.specs.declared.damage.DamageKind.TheVariants as kinds

-- ---- how records end

-- a closed gate stands here, or what is wrong
abbrev EndsAs : Schema → Option DamageKind → Before → List ℕ → Type 0
EndsAs schema None before rest = IsClosed rest
EndsAs schema (Some kind) before rest = IsWrong schema kind before rest

-- what is wrong with a log, whatever its payloads are, among the damage of an index
abbrev of_log : LogKind → DamageKind
of_log faults.Missing = kinds.LogMissing
of_log faults.Length = kinds.RecordLength
of_log faults.Number = kinds.RecordNumber

-- It ends as a log does, or by a payload.
abbrev EndsBy : Schema → Option DamageKind → Before → List ℕ → Type 0
EndsBy schema kind before rest = ((fault : Option LogKind) × (kind ≡ option_map of_log fault) × Ends fault before rest) ⊎ ((kind ≡ Some kinds.RecordPayload) × IsBadPayload schema before rest)

ends_by : (schema : Schema) (kind : Option DamageKind) (before : Before) (rest : List ℕ) → EndsAs schema kind before rest → EndsBy schema kind before rest
ends_by schema None before rest ends = inl (None, refl, ends)
ends_by schema (Some kinds.RecordLength) before rest ends = inl (Some faults.Length, refl, ends)
ends_by schema (Some kinds.RecordNumber) before rest ends = inl (Some faults.Number, refl, ends)
ends_by schema (Some kinds.RecordPayload) before rest ends = inr (refl, ends)
ends_by schema (Some kind) before rest ends = absurd ends

-- where a record with its gate stands that may come, a log doesn't end
log_goes_on : (before : Before) (fault : Option LogKind) (r : LogRecord) (after rest : List ℕ) → Fits r → MayCome before r.number → 0 < length after → rest ≡ 1 ∷ (frame r ++ after) → Ends fault before rest → ⊥
log_goes_on before fault r after rest fits may gate here ends = record_goes_on before fault r after fits may gate (subst (λ (l : List ℕ). Ends fault before l) here ends)

payload_goes_on : (schema : Schema) (before : Before) (fault : Option LogKind) (rest : List ℕ) → IsBadPayload schema before rest → Ends fault before rest → ⊥
payload_goes_on schema before fault rest bad ends = log_goes_on before fault bad.record_is bad.after rest (record { payload = bad.short; number = bad.number }) bad.may bad.gate bad.is ends

-- a reading that ends at once
at_once : (before : Before) (rest : List ℕ) (fault : Option LogKind) → Ends fault before rest → Reading before rest [] rest fault
at_once before rest fault ends = record { fit = All-nil Fits; numbers = tt; begins = tt; is = refl; gated = λ some. absurd (omega (arith, some)); ends = ends }

-- one thing alone is wrong
one_end : (schema : Schema) (before : Before) (rest : List ℕ) (a b : Option DamageKind) → EndsAs schema a before rest → EndsAs schema b before rest → a ≡ b
one_end schema before rest a b one two = elim (ends_by schema a before rest one) [
  | inl first ↦ elim (ends_by schema b before rest two) [
    | inl second ↦
        let same = one_reading before rest [] [] rest rest first.0 second.0 (at_once before rest first.0 first.2) (at_once before rest second.0 second.2) in
        first.1 ∙ ap (option_map of_log) same.1 ∙ sym second.1
    | inr payload ↦ absurd (payload_goes_on schema before first.0 rest payload.1 first.2)
  ]
  | inr payload ↦ elim (ends_by schema b before rest two) [
    | inl second ↦ absurd (payload_goes_on schema before second.0 rest payload.1 second.2)
    | inr other ↦ payload.0 ∙ sym other.0
  ]
]

-- ---- records from here on

-- The record's payload is read.
abbrev IsRead : Schema → LogRecord → Type 0
IsRead schema r = (txn : Txn) × (txn_at schema r.payload ≡ Ok txn)

-- This record stands here, and may.
record StandsHere (schema : Schema) (before : Before) (r : LogRecord) (more bytes : List ℕ) : Type 0 where
  fits : Fits r
  may : MayCome before r.number
  read : IsRead schema r
  gate : 0 < length more
  is : bytes ≡ 1 ∷ (frame r ++ more)

goes_on : (schema : Schema) (before : Before) (kind : Option DamageKind) (r : LogRecord) (more bytes : List ℕ) → StandsHere schema before r more bytes → EndsAs schema kind before bytes → ⊥
goes_on schema before kind r more bytes here ends = elim (ends_by schema kind before bytes ends) [
  | inl log ↦ log_goes_on before log.0 r more bytes here.fits here.may here.gate here.is log.2
  | inr payload ↦
      let bad = payload.1 in
      let is = here.is in
      let was = bad.is in
      let both : frame r ++ more ≡ frame bad.record_is ++ bad.after = cc in
      let n = here.fits.number in
      let k = bad.number in
      let one = one_frame r bad.record_is more bad.after here.fits.payload bad.short (omega (arith, n)) (omega (arith, k)) both in
      let read = here.read.1 in
      let wrong : txn_at schema r.payload ≡ Err bad.left = ap (λ (s : LogRecord). txn_at schema s.payload) one.0 ∙ bad.wrong in
      absurd cc
]

-- The bytes are these records, each of which may come, and end so.
abbrev Spells : Schema → Before → List LogRecord → Option DamageKind → List ℕ → Type 0
Spells schema before [] kind bytes = EndsAs schema kind before bytes
Spells schema before (r ∷ records) kind bytes = (more : List ℕ) × StandsHere schema before r more bytes × Spells schema (befores.Record r.number) records kind more

one_spelling : (schema : Schema) (before : Before) (records others : List LogRecord) (kind its : Option DamageKind) (bytes : List ℕ) → Spells schema before records kind bytes → Spells schema before others its bytes → (records ≡ others) × (kind ≡ its)
one_spelling schema before [] [] kind its bytes one two = (refl, one_end schema before bytes kind its one two)
one_spelling schema before [] (s ∷ others) kind its bytes one (more, here, rest) = absurd (goes_on schema before kind s more bytes here one)
one_spelling schema before (r ∷ records) [] kind its bytes (more, here, rest) two = absurd (goes_on schema before its r more bytes here two)
one_spelling schema before (r ∷ records) (s ∷ others) kind its bytes (more, here, rest) (after, there, left) =
    let is = here.is in
    let was = there.is in
    let both : frame r ++ more ≡ frame s ++ after = cc in
    let n = here.fits.number in
    let k = there.fits.number in
    let one = one_frame r s more after here.fits.payload there.fits.payload (omega (arith, n)) (omega (arith, k)) both in
    let same : s ≡ r = sym one.0 in
    let moved : Spells schema (befores.Record r.number) others its more =
    subst (λ (t : LogRecord). Spells schema (befores.Record t.number) others its more) same (subst (λ (l : List ℕ). Spells schema (befores.Record s.number) others its l) (sym one.1) left) in
    let all = one_spelling schema (befores.Record r.number) records others kind its more rest moved in
    (λ i. one.0 i ∷ all.0 i, all.1)

-- ---- logs and damage as such

spells : (schema : Schema) (before : Before) (batches : List Batch) (kind : Option DamageKind) (rest : List ℕ) → All Fits (map record_of batches) → AreConsecutive (map record_of batches) → Begins before (map record_of batches)
    → All (IsBatchOf schema) batches → (0 < length batches → 0 < length rest) → EndsAs schema kind (behind before (last_number (map record_of batches))) rest → Spells schema before (map record_of batches) kind (spelled (map record_of batches) ++ rest)
spells schema before [] kind rest fit numbers begins of gated ends = ends
spells schema before (b ∷ batches) kind rest fit numbers begins of gated ends =
    let r = record_of b in
    let records = map record_of batches in
    let some : 0 < length rest = gated (omega arith) in
    let batch = All-head (IsBatchOf schema) b batches of in
    let here : StandsHere schema before r (spelled records ++ rest) (spelled (r ∷ records) ++ rest) = record {
      fits = All-head Fits r records fit;
      may = begins;
      read = (_, batch.read);
      gate = omega (arith, some, length-append (spelled records) rest);
      is = append_assoc (1 ∷ frame r) (spelled records) rest;
    } in (
      spelled records ++ rest,
      here,
      spells schema (befores.Record b.number) batches kind rest (All-tail Fits r records fit) (tail_of r records numbers) (later r records numbers)
          (All-tail (IsBatchOf schema) b batches of) (λ _. some) (subst (λ (c : Before). EndsAs schema kind c rest) (behind_is before r records) ends),
    )

log_spells : (schema : Schema) (before : Before) (batches : List Batch) (bytes : List ℕ) → Begins before (map record_of batches) → All (IsBatchOf schema) batches → IsLogOf (map record_of batches) bytes → Spells schema before (map record_of batches) None bytes
log_spells schema before batches bytes begins of log =
    let closed : IsClosed (log.gate ∷ log.rest) = record { gate = log.gate; more = log.rest; closed = log.closed; is = refl } in
    subst (λ (l : List ℕ). Spells schema before (map record_of batches) None l) (sym log.is)
    (spells schema before batches None (log.gate ∷ log.rest) log.records_are.fit log.records_are.numbers begins of (λ _. omega arith) closed)

bad_spells : (schema : Schema) (before : Before) (kind : DamageKind) (place : ℕ) (batches : List Batch) (bytes : List ℕ) → IsBadBehind schema before kind place batches bytes → Spells schema before (map record_of batches) (Some kind) bytes
bad_spells schema before kind place batches bytes bad =
    subst (λ (l : List ℕ). Spells schema before (map record_of batches) (Some kind) l) (sym bad.is)
    (spells schema before batches (Some kind) bad.rest bad.records_are.fit bad.records_are.numbers bad.begins bad.of bad.gated bad.wrong)

-- A log isn't wrong.
pub never_bad_log : (schema : Schema) (before : Before) (batches : List Batch) (kind : DamageKind) (place : ℕ) (file : Option (List ℕ)) → Begins before (map record_of batches) → All (IsBatchOf schema) batches
    → IsLogOf (map record_of batches) (contents file) → IsBadLog schema before kind place file → ⊥
never_bad_log schema before batches kind place None begins of log bad = omega (arith, ap length log.is, length-append (spelled (map record_of batches)) (log.gate ∷ log.rest))
never_bad_log schema before batches kind place (Some bytes) begins of log (others, bad) =
    let both = one_spelling schema before (map record_of batches) (map record_of others) None (Some kind) bytes (log_spells schema before batches bytes begins of log) (bad_spells schema before kind place others bytes bad) in
    let same = both.1 in absurd cc

-- It is wrong in one way.
pub one_bad_log : (schema : Schema) (before : Before) (kind its : DamageKind) (place other : ℕ) (file : Option (List ℕ)) → IsBadLog schema before kind place file → IsBadLog schema before its other file → (kind ≡ its) × (place ≡ other)
one_bad_log schema before kind its place other None one two = (one.0 ∙ sym two.0, one.1 ∙ sym two.1)
one_bad_log schema before kind its place other (Some bytes) (batches, one) (others, two) =
    let both = one_spelling schema before (map record_of batches) (map record_of others) (Some kind) (Some its) bytes (bad_spells schema before kind place batches bytes one) (bad_spells schema before its other others bytes two) in
    (let same = both.1 in cc, one.place_is ∙ ap (λ (rs : List LogRecord). length (spelled rs)) both.0 ∙ sym two.place_is)
