-- A log is read to its end, or it is wrong somewhere: never neither.
use Rattle.std.proofs.Common.{◌≡◌, ◌≢◌, inl, inr, ℕ, zero, suc, ◌≤◌, ◌<◌, ◌^◌, List, [], ◌∷◌, ◌++◌, Some, Ok, length, take, drop, map, refl, sym, ◌∙◌, ap, subst, arith, append_assoc, length-append, All}
use Rattle.std.specs.Int.{w32, w64, from_le_bytes, to_le_bytes}
use Rattle.std.proofs.lemmas.Bool.{le-ltb}
use Rattle.std.proofs.lemmas.List.{drop_at, take_at}
use Rattle.std.proofs.lemmas.List.Elements.{All-cons, All-nil}
use Rattle.byte_fields.specs.Fields.{number_at, placed}
use Rattle.byte_fields.proofs.Taking.{IsBytes, IsBytes-drop, IsBytes-rest, IsBytes-take, inverse64}
use Rattle.doc_types.specs.declared.schema.Schema.{Schema}
use Rattle.doc_types.specs.declared.transactions.Txn.{Txn}
use Rattle.doc_types.specs.declared.transactions.TxnOp.{TxnOp}
use Rattle.doc_types.specs.declared.transactions.TxnOp.TheVariants as operations
use Rattle.doc_types.specs.Commits.{change_of}
use Rattle.doc_types.specs.Transactions.{IsTxnOf}
use Rattle.doc_bytes.specs.Payload.{payload}
use Rattle.doc_bytes.specs.Reading.{txn_at}
use Rattle.doc_bytes.specs.RoundTrip.{as_put, with_puts}
use Rattle.doc_bytes.proofs.Txns.{is_found}
use Rattle.gate_log.specs.Frames.{frame}
use Rattle.gate_log.specs.Logs.{AreConsecutive, AreRecords, Fits, IsLogOf, spelled}
use Rattle.gate_log.specs.Reading.{Begins, MayCome, behind}
use Rattle.gate_log.specs.declared.reading.Before.{Before}
use Rattle.gate_log.specs.declared.reading.Before.TheVariants as befores
use Rattle.gate_log.specs.declared.records.LogRecord.{LogRecord}
use Rattle.gate_log.proofs.OneReading.{behind_is}
use Rattle.store_steps.specs.Batches.{Batch, IsBatchOf, op_of, record_of, txn_of}
use Rattle.store_steps.specs.Damage.{IsBadBehind, IsBadLog, IsWrong}
use Rattle.store_steps.specs.declared.damage.DamageKind.{DamageKind}
use Rattle.store_steps.specs.declared.damage.DamageKind.TheVariants as kinds
use Rattle.store_laws.proofs.SomeRoot.{either_is}

-- ---- the batch of a record

op_again : (op : TxnOp) → op_of (change_of op) ≡ as_put op
op_again (operations.Insert doc) = refl
op_again (operations.Put doc) = refl
op_again (operations.Kill id) = refl
op_again operations.Clear = refl

ops_again : (ops : List TxnOp) → map op_of (map change_of ops) ≡ map as_put ops
ops_again [] = refl
ops_again (op ∷ ops) = (λ i. op_again op i ∷ ops_again ops i)

consecutive_more : (r : LogRecord) (records : List LogRecord) → AreConsecutive records → Begins (befores.Record r.number) records → AreConsecutive (r ∷ records)
consecutive_more r [] are begins = tt
consecutive_more r (s ∷ records) are begins = (begins, are)

module _ (schema : Schema) where
  -- The record is that of this batch of the schema.
  record IsItsBatch (r : LogRecord) (b : Batch) : Type 0 where
    of : IsBatchOf schema b
    is : record_of b ≡ r

  its_batch : (r : LogRecord) (txn : Txn) → txn_at schema r.payload ≡ Ok txn → IsTxnOf schema txn → with_puts txn ≡ txn → r.payload ≡ payload txn → (b : Batch) × IsItsBatch r b
  its_batch r txn read of puts spelled =
      let changes = map change_of txn.ops in
      let same : txn_of changes ≡ txn = ap (λ (ops : List TxnOp). record { ops = ops }) (ops_again txn.ops) ∙ puts in (
        record { number = r.number; changes = changes },
        record {
          of = record {
            of = subst (λ (t : Txn). IsTxnOf schema t) (sym same) of;
            read = subst (λ (t : Txn). txn_at schema (payload t) ≡ Ok t) (sym same) (ap (txn_at schema) (sym spelled) ∙ read);
          };
          is = ap (λ (l : List ℕ). record { number = r.number; payload = l }) (ap payload same ∙ sym spelled);
        },
      )

  -- The bytes are a log of these batches.
  pub record IsFine (before : Before) (bytes : List ℕ) (batches : List Batch) : Type 0 where
    pub of : All (IsBatchOf schema) batches
    pub begins : Begins before (map record_of batches)
    pub log : IsLogOf (map record_of batches) bytes

  -- They are these batches, and behind them they are wrong.
  abbrev IsWrongBehind : Before → List ℕ → DamageKind → List Batch → Type 0
  IsWrongBehind before bytes kind batches = IsBadBehind schema before kind (length (spelled (map record_of batches))) batches bytes

  -- ---- no record, and one more

  none_wrong : (before : Before) (bytes : List ℕ) (kind : DamageKind) → IsWrong schema kind before bytes → IsWrongBehind before bytes kind []
  none_wrong before bytes kind wrong = record {
    records_are = record { fit = All-nil Fits; numbers = tt };
    begins = tt;
    of = All-nil (IsBatchOf schema);
    rest = bytes;
    is = refl;
    gated = λ some. absurd (omega (arith, some));
    place_is = refl;
    wrong = wrong;
  }

  none_fine : (before : Before) (gate : ℕ) (rest : List ℕ) → gate ≢ 1 → IsFine before (gate ∷ rest) []
  none_fine before gate rest closed = record {
    of = All-nil (IsBatchOf schema);
    begins = tt;
    log = record { records_are = record { fit = All-nil Fits; numbers = tt }; gate = gate; rest = rest; closed = closed; is = refl };
  }

  -- A batch that may come stands before some bytes.
  record StandsBefore (before : Before) (b : Batch) (bytes after : List ℕ) : Type 0 where
    of : IsBatchOf schema b
    fits : Fits (record_of b)
    may : MayCome before b.number
    gate : 0 < length after
    is : bytes ≡ 1 ∷ (frame (record_of b) ++ after)

  more_records : (r : LogRecord) (records : List LogRecord) → Fits r → AreRecords records → Begins (befores.Record r.number) records → AreRecords (r ∷ records)
  more_records r records fits are begins = record { fit = All-cons Fits r records fits are.fit; numbers = consecutive_more r records are.numbers begins }

  spelled_more : (r : LogRecord) (records : List LogRecord) (bytes after rest : List ℕ) → bytes ≡ 1 ∷ (frame r ++ after) → after ≡ spelled records ++ rest → bytes ≡ spelled (r ∷ records) ++ rest
  spelled_more r records bytes after rest is behind = is ∙ ap (λ (l : List ℕ). 1 ∷ (frame r ++ l)) behind ∙ sym (append_assoc (1 ∷ frame r) (spelled records) rest)

  fine_more : (before : Before) (b : Batch) (batches : List Batch) (bytes after : List ℕ) → StandsBefore before b bytes after → IsFine (befores.Record b.number) after batches → IsFine before bytes (b ∷ batches)
  fine_more before b batches bytes after here fine = record {
    of = All-cons (IsBatchOf schema) b batches here.of fine.of;
    begins = here.may;
    log = record {
      records_are = more_records (record_of b) (map record_of batches) here.fits fine.log.records_are fine.begins;
      gate = fine.log.gate;
      rest = fine.log.rest;
      closed = fine.log.closed;
      is = spelled_more (record_of b) (map record_of batches) bytes after (fine.log.gate ∷ fine.log.rest) here.is fine.log.is;
    };
  }

  some_behind : (batches : List Batch) (after rest : List ℕ) → 0 < length after → after ≡ spelled (map record_of batches) ++ rest → (0 < length batches → 0 < length rest) → 0 < length rest
  some_behind [] after rest some is gated = omega (arith, some, ap length is)
  some_behind (b ∷ batches) after rest some is gated = gated (omega arith)

  wrong_more : (before : Before) (b : Batch) (batches : List Batch) (bytes after : List ℕ) (kind : DamageKind) → StandsBefore before b bytes after → IsWrongBehind (befores.Record b.number) after kind batches → IsWrongBehind before bytes kind (b ∷ batches)
  wrong_more before b batches bytes after kind here bad = record {
    records_are = more_records (record_of b) (map record_of batches) here.fits bad.records_are bad.begins;
    begins = here.may;
    of = All-cons (IsBatchOf schema) b batches here.of bad.of;
    rest = bad.rest;
    is = spelled_more (record_of b) (map record_of batches) bytes after bad.rest here.is bad.is;
    gated = λ _. some_behind batches after bad.rest here.gate bad.is bad.gated;
    place_is = refl;
    wrong = subst (λ (c : Before). IsWrong schema kind c bad.rest) (sym (behind_is before (record_of b) (map record_of batches))) bad.wrong;
  }

  -- ---- a record that stands here

  number_there : (bytes : List ℕ) → 8 ≤ length bytes → number_at w64 bytes ≡ Ok (from_le_bytes w64 (take 8 bytes), drop 8 bytes)
  number_there bytes long = rw (le-ltb (length bytes) 8 long) refl

  -- The record with a number that has room.
  record Small (payload after more : List ℕ) : Type 0 where
    number : ℕ
    low : number < 2 ^ 64
    is : more ≡ frame (record { number = number; payload = payload }) ++ after
    own : IsBytes payload
    others : IsBytes after

  small : (r : LogRecord) (after more : List ℕ) → IsBytes more → more ≡ frame r ++ after → Small r.payload after more
  small r after more fits is =
      let size = to_le_bytes w32 (length r.payload) in
      let eight = to_le_bytes w64 r.number in
      let rest = r.payload ++ after in
      let parts : more ≡ size ++ (eight ++ rest) = is ∙ append_assoc (size ++ eight) r.payload after ∙ append_assoc size eight rest in
      let tail : IsBytes (eight ++ rest) = subst IsBytes (ap (drop 4) parts ∙ drop_at size (eight ++ rest) 4 refl) (IsBytes-drop 4 more fits) in
      let long : 8 ≤ length (eight ++ rest) = omega (arith, length-append eight rest) in
      let number = from_le_bytes w64 (take 8 (eight ++ rest)) in
      let took = inverse64.takes (eight ++ rest) (number, drop 8 (eight ++ rest)) tail (number_there (eight ++ rest) long) in
      let behind : drop 8 (eight ++ rest) ≡ rest = drop_at eight rest 8 refl in
      let again : eight ++ rest ≡ to_le_bytes w64 number ++ rest = took.0.parts ∙ ap (λ (l : List ℕ). to_le_bytes w64 number ++ l) behind in
      let whole : IsBytes rest = subst IsBytes behind took.0.rest_fits in
      record {
        number = number;
        low = took.1;
        is = parts ∙ ap (λ (l : List ℕ). size ++ l) again ∙ sym (append_assoc size (to_le_bytes w64 number) rest) ∙ sym (append_assoc (size ++ to_le_bytes w64 number) r.payload after);
        own = subst IsBytes (take_at r.payload after (length r.payload) refl) (IsBytes-take (length r.payload) rest whole);
        others = subst IsBytes (drop_at r.payload after (length r.payload) refl) (IsBytes-drop (length r.payload) rest whole);
      }

  some_record : (before : Before) (bytes after : List ℕ) (r : LogRecord) → length r.payload < 2 ^ 32 → r.number < 2 ^ 64 → IsBytes r.payload → 0 < length after → bytes ≡ 1 ∷ (frame r ++ after) → ((kind : DamageKind) (batches : List Batch) → IsWrongBehind before bytes kind batches → ⊥)
      → ((b : Batch) → StandsBefore before b bytes after → ⊥) → ⊥
  some_record before bytes after r short low own gate is bad good =
      bad kinds.RecordNumber [] (none_wrong before bytes kinds.RecordNumber (record {
        record_is = r;
        after = after;
        short = short;
        number = low;
        gate = gate;
        is = is;
        wrong = λ fits may. elim (either_is (txn_at schema r.payload)) [
          | inl read ↦
              let its = is_found schema r.payload (Ok read.0) own (ap (placed (length r.payload)) read.1) in
              let batch = its_batch r read.0 read.1 its.0 its.1 its.2 in
              let same : r ≡ record_of batch.0 = sym batch.1.is in
              good batch.0 (record {
                of = batch.1.of;
                fits = subst Fits same (record { payload = short; number = fits });
                may = subst (λ (s : LogRecord). MayCome before s.number) same may;
                gate = gate;
                is = is ∙ ap (λ (s : LogRecord). 1 ∷ (frame s ++ after)) same;
              })
          | inr left ↦ bad kinds.RecordPayload [] (none_wrong before bytes kinds.RecordPayload (record { record_is = r; after = after; short = short; number = fits; may = may; gate = gate; is = is; left = left.0; wrong = left.1 }))
        ];
      }))

  after_shorter : (r : LogRecord) (after more : List ℕ) (n : ℕ) → more ≡ frame r ++ after → suc (length more) ≤ suc n → length after ≤ n
  after_shorter r after more n is short = omega (arith, ap length is, length-append (frame r) after, short)

  -- ---- all of it

  some_bytes : (n : ℕ) (before : Before) (bytes : List ℕ) → length bytes ≤ n → IsBytes bytes → ((kind : DamageKind) (batches : List Batch) → IsWrongBehind before bytes kind batches → ⊥) → ((batches : List Batch) → IsFine before bytes batches → ⊥) → ⊥
  some_bytes n before [] short fits bad good = bad kinds.RecordLength [] (none_wrong before [] kinds.RecordLength (inl refl))
  some_bytes n before (zero ∷ more) short fits bad good = good [] (none_fine before 0 more (λ is. absurd (omega (arith, is))))
  some_bytes n before (suc (suc gate) ∷ more) short fits bad good = good [] (none_fine before (suc (suc gate)) more (λ is. absurd (omega (arith, is))))
  some_bytes zero before (suc zero ∷ more) short fits bad good = absurd (omega (arith, short))
  some_bytes (suc n) before (suc zero ∷ more) short fits bad good =
      bad kinds.RecordLength [] (none_wrong before (1 ∷ more) kinds.RecordLength (inr (
        more,
        refl,
        λ found after size gate is.
            let its = small found after more (IsBytes-rest 1 more fits) is in
            let here : 1 ∷ more ≡ 1 ∷ (frame (record { number = its.number; payload = found.payload }) ++ after) = ap (λ (l : List ℕ). 1 ∷ l) its.is in
            some_record before (1 ∷ more) after (record { number = its.number; payload = found.payload }) size its.low its.own gate here bad
            (λ b stands. some_bytes n (befores.Record b.number) after (after_shorter found after more n is short) its.others
            (λ kind batches wrong. bad kind (b ∷ batches) (wrong_more before b batches (1 ∷ more) after kind stands wrong))
            (λ batches fine. good (b ∷ batches) (fine_more before b batches (1 ∷ more) after stands fine))),
      )))

  pub some_log : (before : Before) (bytes : List ℕ) → IsBytes bytes → ((kind : DamageKind) (place : ℕ) → IsBadLog schema before kind place (Some bytes) → ⊥) → ((batches : List Batch) → IsFine before bytes batches → ⊥) → ⊥
  some_log before bytes fits bad good = some_bytes (length bytes) before bytes (omega arith) fits (λ kind batches wrong. bad kind (length (spelled (map record_of batches))) (batches, wrong)) good
