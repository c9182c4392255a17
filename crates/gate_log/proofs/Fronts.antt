-- Records that are read one after the other from the front of some bytes.
use Rattle.std.proofs.Common.{◌≡◌, ◌<◌, ℕ, ◌+◌, ◌-◌, List, [], ◌∷◌, ◌++◌, Option, Some, None, length, map, take, drop, refl, sym, ◌∙◌, ap, subst, arith, length-append, length-drop}
use Rattle.std.proofs.lemmas.List.{map-append, take_all}
use Rattle.std.proofs.lemmas.List.Concat.{flat_map-cons}
use Rattle.std.proofs.lemmas.List.Elements.{All-nil}
use Rattle.gate_log.specs.Frames.{frame}
use Rattle.gate_log.specs.Logs.{AreRecords, MayFollow, last_number, spelled}
use Rattle.gate_log.specs.Reading.{ArePlaced, Begins, Ends, IsReadAs, MayCome, behind, record_of}
use Rattle.gate_log.specs.steps.Parts.{IsNext}
use Rattle.gate_log.specs.declared.reading.Before.{Before}
use Rattle.gate_log.specs.declared.reading.LogRead.{LogRead}
use Rattle.gate_log.specs.declared.reading.RecordAt.{RecordAt}
use Rattle.gate_log.specs.declared.records.LogRecord.{LogRecord}
use Rattle.gate_log.proofs.OneMore.{last-push, records-push, spelled-push}

pub whole_tail : (rest : List ℕ) → take (length rest - 1) (drop 1 rest) ≡ drop 1 rest
whole_tail rest = take_all (length rest - 1) (drop 1 rest) (omega (arith, length-drop 1 rest))

-- What has been read of some bytes: records, the last of which has this number, and what is left.
pub record Front (before : Before) (bytes : List ℕ) (records : List RecordAt) (last : Option ℕ) (rest : List ℕ) : Type 0 where
  pub is : spelled (map record_of records) ++ rest ≡ bytes
  pub records_are : AreRecords (map record_of records)
  pub begins : Begins before (map record_of records)
  pub placed : ArePlaced 0 records
  pub last_is : last ≡ last_number (map record_of records)
  pub gated : 0 < length records → 0 < length rest

placed-push : (at : ℕ) (records : List RecordAt) (r : RecordAt) → ArePlaced at records → r.place ≡ at + length (spelled (map record_of records)) → ArePlaced at (records ++ r ∷ [])
placed-push at [] r placed is = (omega (arith, is), tt)
placed-push at (a ∷ records) r placed is =
    let size : length (spelled (map record_of (a ∷ records))) ≡ 13 + length a.payload.now + length (spelled (map record_of records)) =
    omega (arith, ap length (flat_map-cons (λ (s : LogRecord). 1 ∷ frame s) (record_of a) (map record_of records)), length-append (1 ∷ frame (record_of a)) (spelled (map record_of records))) in
    (placed.0, placed-push (at + (13 + length a.payload.now)) records r placed.1 (omega (arith, is, size)))

begins-push : (before : Before) (records : List LogRecord) (r : LogRecord) → Begins before records → MayCome (behind before (last_number records)) r.number → Begins before (records ++ r ∷ [])
begins-push before [] r begins may = may
begins-push before (a ∷ records) r begins may = begins

follows : (before : Before) (last : Option ℕ) (number : ℕ) → MayCome (behind before last) number → MayFollow last number
follows before None number may = tt
follows before (Some last) number may = may

-- where the rest begins
pub place_is : (before : Before) (bytes : List ℕ) (records : List RecordAt) (last : Option ℕ) (rest : List ℕ) → Front before bytes records last rest → length bytes - length rest ≡ length (spelled (map record_of records))
place_is before bytes records last rest front = omega (arith, ap length front.is, length-append (spelled (map record_of records)) rest)

-- one record more
pub front-push : (before : Before) (bytes : List ℕ) (records : List RecordAt) (last : Option ℕ) (rest after : List ℕ) (r : RecordAt) → Front before bytes records last rest → r.place ≡ length bytes - length rest
    → IsNext (behind before last) r.number r.payload.now after rest → Front before bytes (records ++ r ∷ []) (Some r.number) after
front-push before bytes records last rest after r front place next =
    let more : map record_of (records ++ r ∷ []) ≡ map record_of records ++ record_of r ∷ [] = map-append record_of records (r ∷ []) in
    let may : MayCome (behind before (last_number (map record_of records))) r.number = subst (λ (o : Option ℕ). MayCome (behind before o) r.number) front.last_is next.may in
    record {
      is = ap (λ (rs : List LogRecord). spelled rs ++ after) more ∙ spelled-push (map record_of records) (record_of r) after ∙ ap (λ (l : List ℕ). spelled (map record_of records) ++ l) (sym next.is) ∙ front.is;
      records_are = subst AreRecords (sym more) (records-push (map record_of records) (record_of r) front.records_are (record { payload = next.short; number = next.small }) (follows before (last_number (map record_of records)) r.number may));
      begins = subst (Begins before) (sym more) (begins-push before (map record_of records) (record_of r) front.begins may);
      placed = placed-push 0 records r front.placed (omega (arith, place, place_is before bytes records last rest front));
      last_is = sym (ap last_number more ∙ last-push (map record_of records) (record_of r));
      gated = λ some. next.gate;
    }

-- the records end here
pub front-ends : (before : Before) (bytes : List ℕ) (read : LogRead) (rest : List ℕ) → Front before bytes read.records.items read.last rest → read.end ≡ length bytes - length rest → Ends read.fault (behind before read.last) rest → IsReadAs before bytes read
front-ends before bytes read rest front end ends = record {
  records_are = front.records_are;
  begins = front.begins;
  placed = front.placed;
  rest = rest;
  is = sym front.is;
  end = end ∙ place_is before bytes read.records.items read.last rest front;
  last = front.last_is;
  ends = ends;
  gated = front.gated;
}

pub front-begins : (before : Before) (bytes : List ℕ) → Front before bytes [] None bytes
front-begins before bytes = record { is = refl; records_are = record { fit = All-nil _; numbers = tt }; begins = tt; placed = tt; last_is = refl; gated = λ some. absurd (omega (arith, some)) }
