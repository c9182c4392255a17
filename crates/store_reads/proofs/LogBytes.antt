-- The bytes of a log whose records were read, up to one of them, or to their end.
use Rattle.std.proofs.Common.{◌≡◌, ℕ, ◌+◌, ◌<◌, ◌^◌, List, [], ◌∷◌, ◌++◌, Option, Some, None, Ok, Err, refl, sym, ◌∙◌, ap, subst, arith, length, map, All, append_assoc, length-append}
use Rattle.std.proofs.Math.Seq.{drop-append_seam, take-append_seam}
use Rattle.std.proofs.lemmas.List.{length-map, map-append}
use Rattle.std.proofs.lemmas.List.Concat.{flat_map-append, flat_map-cons}
use Rattle.std.proofs.lemmas.List.Elements.{All-cons, All-drop, All-head, All-nil, All-tail, All-take}
use Rattle.doc_bytes.specs.Reading.{txn_at}
use Rattle.doc_types.specs.declared.schema.Schema.{Schema}
use Rattle.gate_log.specs.Frames.{frame}
use Rattle.gate_log.specs.Logs.{AreConsecutive, AreRecords, Fits, last_number, spelled}
use Rattle.gate_log.specs.Reading.{ArePlaced, Begins, Ends, IsClosed, IsReadAs, IsWrong as IsWrongRecord, MayCome, behind, record_of as read_of}
use Rattle.gate_log.specs.declared.fault.LogKind.{LogKind}
use Rattle.gate_log.specs.declared.fault.LogKind.TheVariants as logs
use Rattle.gate_log.specs.declared.reading.Before.{Before}
use Rattle.gate_log.specs.declared.reading.LogRead.{LogRead}
use Rattle.gate_log.specs.declared.reading.RecordAt.{RecordAt}
use Rattle.gate_log.specs.declared.records.LogRecord.{LogRecord}
use Rattle.store_steps.specs.Batches.{IsBatchOf, record_of}
use Rattle.store_steps.specs.Damage.{IsBadBehind, IsBadPayload, IsWrong}
use Rattle.store_steps.specs.declared.damage.DamageKind.TheVariants as kinds
use Rattle.store_steps.specs.Batches.{Batch}
use Rattle.store_steps.specs.declared.damage.Damage.{Damage}
use Rattle.store_reads.specs.declared.fault.StoreFault.{StoreFault}
use Rattle.store_reads.specs.declared.fault.StoreFault.TheVariants as faults
use Rattle.store_reads.specs.declared.loading.Loaded.{Loaded}
use Rattle.doc_types.specs.Snapshots.{LayerValue, SnapshotValue}
use Rattle.std.specs.Option.{option_or}
use Rattle.store_reads.proofs.Loads.{loaded_more}
use Rattle.store_reads.specs.steps.Loads.{IsLoaded, IsLogRead, TakesLog, bad_record, before_next, kind_of}
use Rattle.store_reads.specs.steps.Pieces.{AreShort, IsLaidOf, RefusesPiece}
use Rattle.store_reads.specs.steps.Records.{IsRead, batch_in, batches_in}

front_numbers : (xs ys : List LogRecord) → AreConsecutive (xs ++ ys) → AreConsecutive xs
front_numbers [] ys is = tt
front_numbers (x ∷ []) ys is = tt
front_numbers (x ∷ y ∷ xs) ys is = (is.0, front_numbers (y ∷ xs) ys is.1)

front_begins : (before : Before) (xs ys : List LogRecord) → Begins before (xs ++ ys) → Begins before xs
front_begins before [] ys begins = tt
front_begins before (x ∷ xs) ys begins = begins

comes_behind : (before : Before) (x : LogRecord) (xs : List LogRecord) (r : LogRecord) (ys : List LogRecord) → AreConsecutive ((x ∷ xs) ++ r ∷ ys) → MayCome (behind before (last_number (x ∷ xs))) r.number
comes_behind before x [] r ys is = is.0
comes_behind before x (y ∷ xs) r ys is = comes_behind before y xs r ys is.1

next_comes : (before : Before) (xs : List LogRecord) (r : LogRecord) (ys : List LogRecord) → AreConsecutive (xs ++ r ∷ ys) → Begins before (xs ++ r ∷ ys) → MayCome (behind before (last_number xs)) r.number
next_comes before [] r ys is begins = begins
next_comes before (x ∷ xs) r ys is begins = comes_behind before x xs r ys is

pub front_fits : (P : LogRecord → Type 0) (xs ys : List LogRecord) → All P (xs ++ ys) → All P xs
front_fits P xs ys all = subst (λ (l : List LogRecord). All P l) (take-append_seam xs ys) (All-take P (length xs) (xs ++ ys) all)

pub back_fits : (P : LogRecord → Type 0) (xs ys : List LogRecord) → All P (xs ++ ys) → All P ys
back_fits P xs ys all = subst (λ (l : List LogRecord). All P l) (drop-append_seam xs ys) (All-drop P (length xs) (xs ++ ys) all)

-- the records of the batches that were read
pub read_again : (schema : Schema) (records : List LogRecord) → All (IsRead schema) records → map record_of (batches_in schema records) ≡ records
read_again schema [] all = refl
read_again schema (r ∷ records) all =
    ap (λ (s : LogRecord). s ∷ map record_of (batches_in schema records)) (All-head (IsRead schema) r records all).is
    ∙ ap (λ (l : List LogRecord). r ∷ l) (read_again schema records (All-tail (IsRead schema) r records all))

pub batches_of : (schema : Schema) (records : List LogRecord) → All (IsRead schema) records → All (IsBatchOf schema) (batches_in schema records)
batches_of schema [] all = All-nil (IsBatchOf schema)
batches_of schema (r ∷ records) all = All-cons (IsBatchOf schema) _ (batches_in schema records) (All-head (IsRead schema) r records all).of (batches_of schema records (All-tail (IsRead schema) r records all))

size_cons : (r : RecordAt) (records : List LogRecord) → length (spelled (read_of r ∷ records)) ≡ 13 + length r.payload.now + length (spelled records)
size_cons r records = omega (arith, ap length (flat_map-cons (λ (s : LogRecord). 1 ∷ frame s) (read_of r) records), length-append (1 ∷ frame (read_of r)) (spelled records))

placed_there : (at : ℕ) (xs : List RecordAt) (r : RecordAt) (ys : List RecordAt) → ArePlaced at (xs ++ r ∷ ys) → r.place ≡ at + length (spelled (map read_of xs))
placed_there at [] r ys placed = omega (arith, placed.0)
placed_there at (a ∷ xs) r ys placed = omega (arith, placed_there (at + (13 + length a.payload.now)) xs r ys placed.1, size_cons a (map read_of xs))

spelled_at : (xs : List LogRecord) (r : LogRecord) (ys : List LogRecord) (rest : List ℕ) → spelled (xs ++ r ∷ ys) ++ rest ≡ spelled xs ++ 1 ∷ (frame r ++ (spelled ys ++ rest))
spelled_at xs r ys rest =
    ap (λ (l : List ℕ). l ++ rest) (flat_map-append (λ (s : LogRecord). 1 ∷ frame s) xs (r ∷ ys))
    ∙ append_assoc (spelled xs) (spelled (r ∷ ys)) rest
    ∙ ap (λ (l : List ℕ). spelled xs ++ (l ++ rest)) (flat_map-cons (λ (s : LogRecord). 1 ∷ frame s) r ys)
    ∙ ap (λ (l : List ℕ). spelled xs ++ l) (append_assoc (1 ∷ frame r) (spelled ys) rest)

-- a record that holds no transaction
pub bad_there : (schema : Schema) (before : Before) (bytes : List ℕ) (read : LogRead) (xs : List RecordAt) (r : RecordAt) (ys : List RecordAt) → IsReadAs before bytes read → read.records.items ≡ xs ++ r ∷ ys → All (IsRead schema) (map read_of xs)
    → (left : ℕ) → txn_at schema r.payload.now ≡ Err left → IsBadBehind schema before kinds.RecordPayload r.place (batches_in schema (map read_of xs)) bytes
bad_there schema before bytes read xs r ys found is good left wrong =
    let front = map read_of xs in
    let back = map read_of ys in
    let behind_it : List ℕ = spelled back ++ found.rest in
    let all : map read_of read.records.items ≡ front ++ read_of r ∷ back = ap (map read_of) is ∙ map-append read_of xs (r ∷ ys) in
    let again : map record_of (batches_in schema front) ≡ front = read_again schema front good in
    let records : AreRecords (front ++ read_of r ∷ back) = subst AreRecords all found.records_are in
    let begins : Begins before (front ++ read_of r ∷ back) = subst (λ (l : List LogRecord). Begins before l) all found.begins in
    let fits : Fits (read_of r) = All-head Fits (read_of r) back (back_fits Fits front (read_of r ∷ back) records.fit) in
    let some : 0 < length read.records.items = omega (arith, ap length is, length-append xs (r ∷ ys)) in
    let place : r.place ≡ length (spelled front) = omega (arith, placed_there 0 xs r ys (subst (λ (l : List RecordAt). ArePlaced 0 l) is found.placed)) in
    let bad : IsBadPayload schema (behind before (last_number front)) (1 ∷ (frame (read_of r) ++ behind_it)) = record {
      record_is = read_of r;
      after = behind_it;
      short = fits.payload;
      number = fits.number;
      may = next_comes before front (read_of r) back records.numbers begins;
      gate = omega (arith, length-append (spelled back) found.rest, found.gated some);
      is = refl;
      left = left;
      wrong = wrong;
    } in
    record {
      records_are = subst AreRecords (sym again) (record { fit = front_fits Fits front (read_of r ∷ back) records.fit; numbers = front_numbers front (read_of r ∷ back) records.numbers });
      begins = subst (λ (l : List LogRecord). Begins before l) (sym again) (front_begins before front (read_of r ∷ back) begins);
      of = batches_of schema front good;
      rest = 1 ∷ (frame (read_of r) ++ behind_it);
      is = found.is ∙ ap (λ (l : List LogRecord). spelled l ++ found.rest) all ∙ spelled_at front (read_of r) back found.rest ∙ ap (λ (l : List LogRecord). spelled l ++ 1 ∷ (frame (read_of r) ++ behind_it)) (sym again);
      gated = λ any. omega arith;
      place_is = place ∙ ap (λ (l : List LogRecord). length (spelled l)) (sym again);
      wrong = subst (λ (l : List LogRecord). IsBadPayload schema (behind before (last_number l)) (1 ∷ (frame (read_of r) ++ behind_it))) (sym again) bad;
    }

wrong_of : (schema : Schema) (kind : LogKind) (before : Before) (rest : List ℕ) → IsWrongRecord kind before rest → IsWrong schema (kind_of kind) before rest
wrong_of schema logs.Missing before rest wrong = absurd wrong
wrong_of schema logs.Length before rest wrong = wrong
wrong_of schema logs.Number before rest wrong = wrong

-- what is wrong behind all records
pub bad_end : (schema : Schema) (before : Before) (bytes : List ℕ) (read : LogRead) (kind : LogKind) → IsReadAs before bytes read → read.fault ≡ Some kind → All (IsRead schema) (map read_of read.records.items)
    → IsBadBehind schema before (kind_of kind) read.end (batches_in schema (map read_of read.records.items)) bytes
bad_end schema before bytes read kind found is good =
    let records = map read_of read.records.items in
    let again : map record_of (batches_in schema records) ≡ records = read_again schema records good in
    let ends : IsWrongRecord kind (behind before read.last) found.rest = subst (λ (f : Option LogKind). Ends f (behind before read.last) found.rest) is found.ends in
    let wrong : IsWrong schema (kind_of kind) (behind before (last_number records)) found.rest =
    subst (λ (last : Option ℕ). IsWrong schema (kind_of kind) (behind before last) found.rest) found.last (wrong_of schema kind (behind before read.last) found.rest ends) in
    record {
      records_are = subst AreRecords (sym again) found.records_are;
      begins = subst (λ (l : List LogRecord). Begins before l) (sym again) found.begins;
      of = batches_of schema records good;
      rest = found.rest;
      is = found.is ∙ ap (λ (l : List LogRecord). spelled l ++ found.rest) (sym again);
      gated = λ some. found.gated (omega (arith, some, length-map {B = LogRecord} read.records.items read_of, length-map records (batch_in schema)));
      place_is = found.end ∙ ap (λ (l : List LogRecord). length (spelled l)) (sym again);
      wrong = subst (λ (l : List LogRecord). IsWrong schema (kind_of kind) (behind before (last_number l)) found.rest) (sym again) wrong;
    }

-- a closed gate behind all records
pub good_end : (schema : Schema) (before : Before) (bytes : List ℕ) (read : LogRead) → IsReadAs before bytes read → read.fault ≡ None → All (IsRead schema) (map read_of read.records.items)
    → IsLogRead schema before (map read_of read.records.items) bytes (record { end = read.end; last = read.last })
good_end schema before bytes read found none good =
    let closed : IsClosed found.rest = subst (λ (f : Option LogKind). Ends f (behind before read.last) found.rest) none found.ends in
    record {
      records_are = found.records_are;
      begins = found.begins;
      all = good;
      gate = closed.gate;
      rest = closed.more;
      closed = closed.closed;
      is = found.is ∙ ap (λ (l : List ℕ). spelled (map read_of read.records.items) ++ l) closed.is;
      end_is = found.end;
      last_is = found.last;
    }

-- the payloads can be read
pub all_short : (before : Before) (bytes : List ℕ) (read : LogRead) (items : List RecordAt) → IsReadAs before bytes read → items ≡ read.records.items → AreShort items
all_short before bytes read items found same = subst AreShort (sym same) (short_all read.records.items found.records_are.fit)
  where
    short_all : (items : List RecordAt) → All Fits (map read_of items) → AreShort items
    short_all [] all = All-nil (λ (entry : RecordAt). length entry.payload.now < 2 ^ 32)
    short_all (r ∷ items) all = All-cons (λ (entry : RecordAt). length entry.payload.now < 2 ^ 32) r items (All-head Fits (read_of r) (map read_of items) all).payload (short_all items (All-tail Fits (read_of r) (map read_of items) all))

-- one of the records holds no transaction
pub records_wrong : (schema : Schema) (chunks : List LayerValue) (through : ℕ) (front : List LogRecord) (before : Before) (bytes : List ℕ) (read : LogRead) (items : List RecordAt) (file : ℕ) (fault : StoreFault) (new : Loaded) → before ≡ before_next through front → IsReadAs before bytes read
    → items ≡ read.records.items → RefusesPiece schema file items fault → TakesLog schema chunks through front file bytes (Err fault) new
records_wrong schema chunks through front before bytes read items file faults.NoMemory new is found same wrong = tt
records_wrong schema chunks through front before bytes read items file faults.DiskFault new is found same wrong = absurd wrong
records_wrong schema chunks through front before bytes read items file (faults.Damaged damage) new is found same wrong =
    let batches = batches_in schema (map read_of wrong.front) in
    let bad : IsBadBehind schema before kinds.RecordPayload wrong.entry.place batches bytes =
    bad_there schema before bytes read wrong.front wrong.entry wrong.back found (sym same ∙ wrong.are) wrong.read wrong.left wrong.wrong in
    let here : IsBadBehind schema (before_next through front) kinds.RecordPayload wrong.entry.place batches bytes = subst (λ (b : Before). IsBadBehind schema b kinds.RecordPayload wrong.entry.place batches bytes) is bad in
    (ap (λ (e : Damage). e.file) wrong.damage_is, (batches, subst (λ (e : Damage). IsBadBehind schema (before_next through front) e.kind e.place batches bytes) (sym wrong.damage_is) here))

-- what is wrong behind records that were laid
pub end_wrong : (schema : Schema) (chunks : List LayerValue) (through : ℕ) (front : List LogRecord) (before : Before) (bytes : List ℕ) (read : LogRead) (items : List RecordAt) (kind : LogKind) (file : ℕ) (damage : Damage) (laid : SnapshotValue) → before ≡ before_next through front → IsReadAs before bytes read
    → items ≡ read.records.items → read.fault ≡ Some kind → IsLaidOf schema chunks through (front ++ map read_of items) laid → damage ≡ bad_record file read.end kind
    → (damage.file ≡ file) × ((batches : List Batch) × IsBadBehind schema (before_next through front) damage.kind damage.place batches bytes)
end_wrong schema chunks through front before bytes read items kind file damage laid is found same fault laid_of which =
    let good : All (IsRead schema) (map read_of read.records.items) = subst (λ (l : List RecordAt). All (IsRead schema) (map read_of l)) same (back_fits (IsRead schema) front (map read_of items) laid_of.all) in
    let batches = batches_in schema (map read_of read.records.items) in
    let here : IsBadBehind schema (before_next through front) (kind_of kind) read.end batches bytes =
    subst (λ (b : Before). IsBadBehind schema b (kind_of kind) read.end batches bytes) is (bad_end schema before bytes read kind found fault good) in
    (ap (λ (e : Damage). e.file) which, (batches, subst (λ (e : Damage). IsBadBehind schema (before_next through front) e.kind e.place batches bytes) (sym which) here))

-- a log whose records were laid
pub end_well : (schema : Schema) (chunks : List LayerValue) (through file : ℕ) (front : List LogRecord) (before : Before) (bytes : List ℕ) (read : LogRead) (items : List RecordAt) (old new : Loaded) → before ≡ before_next through front → IsReadAs before bytes read → items ≡ read.records.items
    → read.fault ≡ None → IsLoaded schema chunks through front old → IsLaidOf schema chunks through (front ++ map read_of items) new.laid → new.last ≡ option_or read.last old.last → new.through ≡ old.through
    → TakesLog schema chunks through front file bytes (Ok (record { end = read.end; last = read.last })) new
end_well schema chunks through file front before bytes read items old new is found same none loaded laid last through_is =
    let here : IsLaidOf schema chunks through (front ++ map read_of read.records.items) new.laid = subst (λ (l : List RecordAt). IsLaidOf schema chunks through (front ++ map read_of l) new.laid) same laid in
    let good : All (IsRead schema) (map read_of read.records.items) = back_fits (IsRead schema) front (map read_of read.records.items) here.all in (
      map read_of read.records.items,
      subst (λ (b : Before). IsLogRead schema b (map read_of read.records.items) bytes (record { end = read.end; last = read.last })) is (good_end schema before bytes read found none good),
      loaded_more schema chunks through front (map read_of read.records.items) old new read.last loaded here found.last last through_is,
    )
