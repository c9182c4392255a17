-- Pieces one behind the other: what was laid, and what refuses them.
use Rattle.std.proofs.Common.{◌≡◌, ℕ, ◌+◌, ◌<◌, suc, List, [], ◌∷◌, ◌++◌, Result, Ok, Err, sym, ◌∙◌, ap, subst, map, length, take, drop, get_or, All, append_assoc}
use Rattle.std.proofs.Math.Seq.{drop-cons}
use Rattle.std.proofs.lemmas.List.{map-append, take-append-drop, take_more}
use Rattle.std.proofs.lemmas.List.Elements.{All-append}
use Rattle.doc_types.specs.declared.schema.Schema.{Schema}
use Rattle.doc_types.specs.Snapshots.{LayerValue, SnapshotValue}
use Rattle.gate_log.specs.Reading.{record_of}
use Rattle.gate_log.specs.declared.reading.RecordAt.{RecordAt}
use Rattle.gate_log.specs.declared.records.LogRecord.{LogRecord}
use Rattle.store_reads.specs.declared.fault.StoreFault.{StoreFault}
use Rattle.store_reads.specs.declared.fault.StoreFault.TheVariants as faults
use Rattle.store_reads.specs.declared.recent.Recent.{Recent}
use Rattle.store_reads.specs.steps.Pieces.{IsLaidOf, IsTaken, Lays, RefusesPiece, TakesRecord}
use Rattle.store_reads.specs.steps.Records.{IsRead}
use Rattle.store_reads.proofs.LogBytes.{back_fits}

entry_split : (items : List RecordAt) (i : ℕ) (d : RecordAt) → i < length items → items ≡ take i items ++ get_or items i d ∷ drop (suc i) items
entry_split items i d lt = sym (take-append-drop i items) ∙ ap (λ (l : List RecordAt). take i items ++ l) (drop-cons items i d lt)

-- one of the records was taken behind those before it
pub taken_next : (schema : Schema) (through : ℕ) (items : List RecordAt) (i : ℕ) (d : RecordAt) (new : Recent) → i < length items → IsTaken schema through (map record_of (take i items) ++ record_of (get_or items i d) ∷ []) new
    → IsTaken schema through (map record_of (take (i + 1) items)) new
taken_next schema through items i d new lt taken =
    let r = get_or items i d in
    let same : map record_of (take i items) ++ record_of r ∷ [] ≡ map record_of (take (i + 1) items) = sym (map-append record_of (take i items) (r ∷ [])) ∙ ap (map record_of) (sym (take_more items i d lt)) in
    subst (λ (l : List LogRecord). IsTaken schema through l new) same taken

-- one of the records was refused behind those before it
pub refuses_next : (schema : Schema) (through file : ℕ) (items : List RecordAt) (i : ℕ) (d : RecordAt) (fault : StoreFault) (old new : Recent) → i < length items → IsTaken schema through (map record_of (take i items)) old
    → TakesRecord schema through (map record_of (take i items)) (get_or items i d) file (Err fault) new → RefusesPiece schema file items fault
refuses_next schema through file items i d faults.NoMemory old new lt taken wrong = tt
refuses_next schema through file items i d faults.DiskFault old new lt taken wrong = absurd wrong
refuses_next schema through file items i d (faults.Damaged damage) old new lt taken wrong = record {
  front = take i items;
  entry = get_or items i d;
  back = drop (suc i) items;
  are = entry_split items i d lt;
  read = taken.all;
  damage_is = wrong.0;
  left = wrong.1.0;
  wrong = wrong.1.1;
}

-- a fault among the first records is one of all
pub refuses_front : (schema : Schema) (file : ℕ) (first second : List RecordAt) (fault : StoreFault) → RefusesPiece schema file first fault → RefusesPiece schema file (first ++ second) fault
refuses_front schema file first second faults.NoMemory is = tt
refuses_front schema file first second faults.DiskFault is = absurd is
refuses_front schema file first second (faults.Damaged damage) is = record {
  front = is.front;
  entry = is.entry;
  back = is.back ++ second;
  are = ap (λ (l : List RecordAt). l ++ second) is.are ∙ append_assoc is.front (is.entry ∷ is.back) second;
  read = is.read;
  damage_is = is.damage_is;
  left = is.left;
  wrong = is.wrong;
}

-- a fault behind records that were read is one of all
pub refuses_back : (schema : Schema) (file : ℕ) (first second : List RecordAt) (fault : StoreFault) → All (IsRead schema) (map record_of first) → RefusesPiece schema file second fault → RefusesPiece schema file (first ++ second) fault
refuses_back schema file first second faults.NoMemory good is = tt
refuses_back schema file first second faults.DiskFault good is = absurd is
refuses_back schema file first second (faults.Damaged damage) good is = record {
  front = first ++ is.front;
  entry = is.entry;
  back = is.back;
  are = ap (λ (l : List RecordAt). first ++ l) is.are ∙ sym (append_assoc first is.front (is.entry ∷ is.back));
  read = subst (All (IsRead schema)) (sym (map-append record_of first is.front)) (All-append (IsRead schema) (map record_of first) (map record_of is.front) good is.read);
  damage_is = is.damage_is;
  left = is.left;
  wrong = is.wrong;
}

-- two pieces were laid
pub laid_both : (schema : Schema) (chunks : List LayerValue) (through : ℕ) (front : List LogRecord) (first second : List RecordAt) (new : SnapshotValue) → IsLaidOf schema chunks through ((front ++ map record_of first) ++ map record_of second) new → IsLaidOf schema chunks through (front ++ map record_of (first ++ second)) new
laid_both schema chunks through front first second new is =
    subst (λ (l : List LogRecord). IsLaidOf schema chunks through l new)
    (append_assoc front (map record_of first) (map record_of second) ∙ ap (λ (l : List LogRecord). front ++ l) (sym (map-append record_of first second))) is

-- records that are cut in three
pub cut_three : (records first others second rest : List RecordAt) (n m : ℕ) → first ≡ take n records → others ≡ drop n records → second ≡ take m others → rest ≡ drop m others → (first ++ second) ++ rest ≡ records
cut_three records first others second rest n m first_is others_are second_is rest_is =
    append_assoc first second rest
    ∙ ap (λ (l : List RecordAt). first ++ l) (cut others second rest m second_is rest_is)
    ∙ cut records first others n first_is others_are
  where
    cut : (items front back : List RecordAt) (n : ℕ) → front ≡ take n items → back ≡ drop n items → front ++ back ≡ items
    cut items front back n front_is back_is = ap (λ (l : List RecordAt). l ++ back) front_is ∙ ap (λ (l : List RecordAt). take n items ++ l) back_is ∙ take-append-drop n items

-- the records behind two pieces are laid
pub lays_then : (schema : Schema) (chunks : List LayerValue) (through : ℕ) (front : List LogRecord) (file : ℕ) (two rest records : List RecordAt) (result : Result (Unit {0}) StoreFault) (mid new : SnapshotValue) → two ++ rest ≡ records → IsLaidOf schema chunks through (front ++ map record_of two) mid
    → ((before : List LogRecord) → IsLaidOf schema chunks through before mid → Lays schema chunks through before file rest result new) → Lays schema chunks through front file records result new
lays_then schema chunks through front file two rest records (Ok done) mid new same laid lays =
    subst (λ (l : List RecordAt). IsLaidOf schema chunks through (front ++ map record_of l) new) same (laid_both schema chunks through front two rest new (lays (front ++ map record_of two) laid))
lays_then schema chunks through front file two rest records (Err fault) mid new same laid lays =
    subst (λ (l : List RecordAt). RefusesPiece schema file l fault) same
    (refuses_back schema file two rest fault (back_fits (IsRead schema) front (map record_of two) laid.all) (lays (front ++ map record_of two) laid))

-- a fault among the first records ends all of it
pub stops_then : (schema : Schema) (file : ℕ) (two rest records : List RecordAt) (fault : StoreFault) → two ++ rest ≡ records → RefusesPiece schema file two fault → RefusesPiece schema file records fault
stops_then schema file two rest records fault same wrong = subst (λ (l : List RecordAt). RefusesPiece schema file l fault) same (refuses_front schema file two rest fault wrong)
