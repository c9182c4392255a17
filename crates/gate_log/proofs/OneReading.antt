-- The bytes of a log are read in one way.
use Rattle.std.proofs.Common.{◌≡◌, ◌≢◌, inl, inr, ℕ, zero, suc, ◌+◌, ◌<◌, ◌^◌, List, [], ◌∷◌, ◌++◌, Option, Some, None, length, map, take, drop, refl, sym, ◌∙◌, ap, subst, arith, append_assoc, length-append}
use Rattle.std.specs.Prelude.{All}
use Rattle.std.specs.Int.{w32, w64, to_le_bytes, from_le_bytes}
use Rattle.std.proofs.Math.Seq.{take-append_seam, drop-append_seam}
use Rattle.std.proofs.lemmas.Nat.{from_le_bytes-to_le_bytes_4, from_le_bytes-to_le_bytes_8}
use Rattle.std.proofs.lemmas.List.{length-map}
use Rattle.std.proofs.lemmas.List.Elements.{All-head, All-tail}
use Rattle.gate_log.specs.Frames.{frame}
use Rattle.gate_log.specs.Logs.{AreConsecutive, Fits, IsLogOf, last_number, spelled}
use Rattle.gate_log.specs.Reading.{AreAlike, ArePlaced, Begins, Ends, IsBadAt, IsClosed, IsCut, IsMisnumbered, IsReadAs, IsWrong, behind, record_of}
use Rattle.gate_log.specs.declared.fault.LogKind.{LogKind}
use Rattle.gate_log.specs.declared.fault.LogKind.TheVariants as kinds
use Rattle.gate_log.specs.declared.reading.Before.{Before}
use Rattle.gate_log.specs.declared.reading.Before.TheVariants as befores
use Rattle.gate_log.specs.declared.reading.LogRead.{LogRead}
use Rattle.gate_log.specs.declared.reading.RecordAt.{RecordAt}
use Rattle.gate_log.specs.declared.records.LogRecord.{LogRecord}

-- lists of one length that go on are told apart from what follows
parted : (a b x y : List ℕ) → length a ≡ length b → a ++ x ≡ b ++ y → (a ≡ b) × (x ≡ y)
parted a b x y long e = (
  sym (take-append_seam a x) ∙ ap (take (length a)) e ∙ ap (λ (n : ℕ). take n (b ++ y)) long ∙ take-append_seam b y,
  sym (drop-append_seam a x) ∙ ap (drop (length a)) e ∙ ap (λ (n : ℕ). drop n (b ++ y)) long ∙ drop-append_seam b y,
)

four : (m n : ℕ) (x y : List ℕ) → m < 2 ^ 32 → n < 2 ^ 32 → to_le_bytes w32 m ++ x ≡ to_le_bytes w32 n ++ y → (m ≡ n) × (x ≡ y)
four m n x y sm sn e =
    let its = parted (to_le_bytes w32 m) (to_le_bytes w32 n) x y refl e in
    (sym (from_le_bytes-to_le_bytes_4 m sm) ∙ ap (from_le_bytes w32) its.0 ∙ from_le_bytes-to_le_bytes_4 n sn, its.1)

eight : (m n : ℕ) (x y : List ℕ) → m < 2 ^ 64 → n < 2 ^ 64 → to_le_bytes w64 m ++ x ≡ to_le_bytes w64 n ++ y → (m ≡ n) × (x ≡ y)
eight m n x y sm sn e =
    let its = parted (to_le_bytes w64 m) (to_le_bytes w64 n) x y refl e in
    (sym (from_le_bytes-to_le_bytes_8 m sm) ∙ ap (from_le_bytes w64) its.0 ∙ from_le_bytes-to_le_bytes_8 n sn, its.1)

-- bytes that begin with two frames are of one record, and go on alike
pub one_frame : (r s : LogRecord) (x y : List ℕ) → length r.payload < 2 ^ 32 → length s.payload < 2 ^ 32 → r.number < 2 ^ 64 → s.number < 2 ^ 64 → frame r ++ x ≡ frame s ++ y → (r ≡ s) × (x ≡ y)
one_frame r s x y short_r short_s small_r small_s e =
    let size = four (length r.payload) (length s.payload) (to_le_bytes w64 r.number ++ (r.payload ++ x)) (to_le_bytes w64 s.number ++ (s.payload ++ y)) short_r short_s e in
    let number = eight r.number s.number (r.payload ++ x) (s.payload ++ y) small_r small_s size.1 in
    let rest = parted r.payload s.payload x y size.0 number.1 in
    (λ i. record { number = number.0 i; payload = rest.0 i }, rest.1)

-- one thing alone is wrong
one_end : (before : Before) (rest : List ℕ) (a b : Option LogKind) → Ends a before rest → Ends b before rest → a ≡ b
one_end before rest None None ends ends' = refl
one_end before rest None (Some kinds.Missing) ends ends' = absurd ends'
one_end before rest None (Some kinds.Length) ends (inl none) = let is = ends.is in absurd cc
one_end before rest None (Some kinds.Length) ends (inr cut) = let is = ends.is in let open_is = cut.1 in absurd (ends.closed cc)
one_end before rest None (Some kinds.Number) ends ends' = let is = ends.is in let open_is = ends'.is in absurd (ends.closed cc)
one_end before rest (Some kinds.Missing) b ends ends' = absurd ends
one_end before rest (Some kinds.Length) None (inl none) ends' = let is = ends'.is in absurd cc
one_end before rest (Some kinds.Length) None (inr cut) ends' = let is = ends'.is in let open_is = cut.1 in absurd (ends'.closed cc)
one_end before rest (Some kinds.Length) (Some kinds.Missing) ends ends' = absurd ends'
one_end before rest (Some kinds.Length) (Some kinds.Length) ends ends' = refl
one_end before rest (Some kinds.Length) (Some kinds.Number) (inl none) ends' = let is = ends'.is in absurd cc
one_end before rest (Some kinds.Length) (Some kinds.Number) (inr cut) ends' =
    let is = ends'.is in
    let open_is = cut.1 in
    let more : cut.0 ≡ frame ends'.record_is ++ ends'.after = cc in
    absurd (cut.2 ends'.record_is ends'.after ends'.short ends'.gate more)
one_end before rest (Some kinds.Number) None ends ends' = let is = ends'.is in let open_is = ends.is in absurd (ends'.closed cc)
one_end before rest (Some kinds.Number) (Some kinds.Missing) ends ends' = absurd ends'
one_end before rest (Some kinds.Number) (Some kinds.Length) ends (inl none) = let is = ends.is in absurd cc
one_end before rest (Some kinds.Number) (Some kinds.Length) ends (inr cut) =
    let is = ends.is in
    let open_is = cut.1 in
    let more : cut.0 ≡ frame ends.record_is ++ ends.after = cc in
    absurd (cut.2 ends.record_is ends.after ends.short ends.gate more)
one_end before rest (Some kinds.Number) (Some kinds.Number) ends ends' = refl

-- where a record with its gate stands, records don't end
pub goes_on : (before : Before) (kind : Option LogKind) (r : LogRecord) (after : List ℕ) → Fits r → Begins before (r ∷ []) → 0 < length after → Ends kind before (1 ∷ (frame r ++ after)) → ⊥
goes_on before None r after fits begins gate ends = let is = ends.is in ends.closed cc
goes_on before (Some kinds.Missing) r after fits begins gate ends = ends
goes_on before (Some kinds.Length) r after fits begins gate (inl none) = absurd cc
goes_on before (Some kinds.Length) r after fits begins gate (inr cut) = let open_is = cut.1 in let more : cut.0 ≡ frame r ++ after = cc in cut.2 r after fits.payload gate more
goes_on before (Some kinds.Number) r after fits begins gate ends =
    let is = ends.is in
    let both : frame r ++ after ≡ frame ends.record_is ++ ends.after = cc in
    let small : r.number < 2 ^ 64 = (let n = fits.number in omega (arith, n)) in
    let one = one_frame r ends.record_is after ends.after fits.payload ends.short small ends.number both in
    subst (λ (s : LogRecord). s.number < 2 ^ 63 → Begins before (s ∷ []) → ⊥) (sym one.0) ends.wrong fits.number begins

-- records, and how they end
pub record Reading (before : Before) (bytes : List ℕ) (records : List LogRecord) (rest : List ℕ) (kind : Option LogKind) : Type 0 where
  pub fit : All Fits records
  pub numbers : AreConsecutive records
  pub begins : Begins before records
  pub is : bytes ≡ spelled records ++ rest
  pub gated : 0 < length records → 0 < length rest
  pub ends : Ends kind (behind before (last_number records)) rest

pub later : (r : LogRecord) (records : List LogRecord) → AreConsecutive (r ∷ records) → Begins (befores.Record r.number) records
later r [] numbers = tt
later r (s ∷ records) numbers = numbers.0

pub tail_of : (r : LogRecord) (records : List LogRecord) → AreConsecutive (r ∷ records) → AreConsecutive records
tail_of r [] numbers = tt
tail_of r (s ∷ records) numbers = numbers.1

pub behind_is : (before : Before) (r : LogRecord) (records : List LogRecord) → behind before (last_number (r ∷ records)) ≡ behind (befores.Record r.number) (last_number records)
behind_is before r [] = refl
behind_is before r (s ∷ []) = refl
behind_is before r (s ∷ t ∷ records) = behind_is before s (t ∷ records) ∙ sym (behind_is (befores.Record r.number) s (t ∷ records))

one_more : (r : LogRecord) (records : List LogRecord) (rest : List ℕ) → spelled (r ∷ records) ++ rest ≡ 1 ∷ (frame r ++ (spelled records ++ rest))
one_more r records rest = append_assoc (1 ∷ frame r) (spelled records) rest

-- what follows the first record
rest_of : (before : Before) (bytes : List ℕ) (r : LogRecord) (records : List LogRecord) (rest : List ℕ) (kind : Option LogKind) → Reading before bytes (r ∷ records) rest kind → Reading (befores.Record r.number) (spelled records ++ rest) records rest kind
rest_of before bytes r records rest kind reading = record {
  fit = All-tail Fits r records reading.fit;
  numbers = tail_of r records reading.numbers;
  begins = later r records reading.numbers;
  is = refl;
  gated = λ some. reading.gated (omega arith);
  ends = subst (λ (b : Before). Ends kind b rest) (behind_is before r records) reading.ends;
}

stays : (before : Before) (bytes : List ℕ) (rest : List ℕ) (kind kind' : Option LogKind) (r : LogRecord) (records : List LogRecord) (rest' : List ℕ) → Reading before bytes [] rest kind → Reading before bytes (r ∷ records) rest' kind' → ⊥
stays before bytes rest kind kind' r records rest' one two =
    let gate : 0 < length (spelled records ++ rest') = (let some : 0 < length rest' = two.gated (omega arith) in omega (arith, some, length-append (spelled records) rest')) in
    let is : rest ≡ 1 ∷ (frame r ++ (spelled records ++ rest')) = sym one.is ∙ two.is ∙ one_more r records rest' in
    goes_on before kind r (spelled records ++ rest') (All-head Fits r records two.fit) two.begins gate (subst (λ (l : List ℕ). Ends kind before l) is one.ends)

pub one_reading : (before : Before) (bytes : List ℕ) (records records' : List LogRecord) (rest rest' : List ℕ) (kind kind' : Option LogKind) → Reading before bytes records rest kind → Reading before bytes records' rest' kind' → (records ≡ records') × (kind ≡ kind')
one_reading before bytes [] [] rest rest' kind kind' one two =
    let same : rest' ≡ rest = sym two.is ∙ one.is in
    (refl, one_end before rest kind kind' one.ends (subst (λ (l : List ℕ). Ends kind' before l) same two.ends))
one_reading before bytes [] (r ∷ records') rest rest' kind kind' one two = absurd (stays before bytes rest kind kind' r records' rest' one two)
one_reading before bytes (r ∷ records) [] rest rest' kind kind' one two = absurd (stays before bytes rest' kind' kind r records rest two one)
one_reading before bytes (r ∷ records) (s ∷ records') rest rest' kind kind' one two =
    let fits : Fits r = All-head Fits r records one.fit in
    let fits' : Fits s = All-head Fits s records' two.fit in
    let small : r.number < 2 ^ 64 = (let n = fits.number in omega (arith, n)) in
    let small' : s.number < 2 ^ 64 = (let n = fits'.number in omega (arith, n)) in
    let whole : 1 ∷ (frame r ++ (spelled records ++ rest)) ≡ 1 ∷ (frame s ++ (spelled records' ++ rest')) = sym (one_more r records rest) ∙ sym one.is ∙ two.is ∙ one_more s records' rest' in
    let both : frame r ++ (spelled records ++ rest) ≡ frame s ++ (spelled records' ++ rest') = cc in
    let here = one_frame r s (spelled records ++ rest) (spelled records' ++ rest') fits.payload fits'.payload small small' both in
    let same : s ≡ r = sym here.0 in
    let tail : Reading (befores.Record r.number) (spelled records ++ rest) records' rest' kind' =
    subst (λ (b : List ℕ). Reading (befores.Record r.number) b records' rest' kind') (sym here.1) (subst (λ (t : LogRecord). Reading (befores.Record t.number) (spelled records' ++ rest') records' rest' kind') same (rest_of before bytes s records' rest' kind' two)) in
    let more = one_reading (befores.Record r.number) (spelled records ++ rest) records records' rest rest' kind kind' (rest_of before bytes r records rest kind one) tail in
    (let head : r ≡ s = here.0 in let others : records ≡ records' = more.0 in cc, more.1)

-- records in one order stand at one list of places
one_list_of_places : (at : ℕ) (a b : List RecordAt) → map record_of a ≡ map record_of b → ArePlaced at a → ArePlaced at b → map (λ (r : RecordAt). r.place) a ≡ map (λ (r : RecordAt). r.place) b
one_list_of_places at [] [] same placed placed' = refl
one_list_of_places at [] (s ∷ b) same placed placed' = absurd cc
one_list_of_places at (r ∷ a) [] same placed placed' = absurd cc
one_list_of_places at (r ∷ a) (s ∷ b) same placed placed' =
    let here : record_of r ≡ record_of s = cc in
    let more : map record_of a ≡ map record_of b = cc in
    let size : length s.payload.now ≡ length r.payload.now = sym (ap (λ (t : LogRecord). length t.payload) here) in
    let rest = one_list_of_places (at + (13 + length r.payload.now)) a b more placed.1 (subst (λ (n : ℕ). ArePlaced (at + (13 + n)) b) size placed'.1) in
    let place : r.place ≡ s.place = placed.0 ∙ sym placed'.0 in
    cc

as_reading : (before : Before) (bytes : List ℕ) (read : LogRead) (is : IsReadAs before bytes read) → Reading before bytes (map record_of read.records.items) is.rest read.fault
as_reading before bytes read is = record {
  fit = is.records_are.fit;
  numbers = is.records_are.numbers;
  begins = is.begins;
  is = is.is;
  gated = λ some. is.gated (omega (arith, some, length-map {B = LogRecord} read.records.items record_of));
  ends = subst (λ (last : Option ℕ). Ends read.fault (behind before last) is.rest) is.last is.ends;
}

pub alike : (before : Before) (bytes : List ℕ) (a b : LogRead) → IsReadAs before bytes a → IsReadAs before bytes b → AreAlike a b
alike before bytes a b one two =
    let both = one_reading before bytes (map record_of a.records.items) (map record_of b.records.items) one.rest two.rest a.fault b.fault (as_reading before bytes a one) (as_reading before bytes b two) in
    record {
      records = both.0;
      places = one_list_of_places 0 a.records.items b.records.items both.0 one.placed two.placed;
      end = one.end ∙ ap (λ (rs : List LogRecord). length (spelled rs)) both.0 ∙ sym two.end;
      last = one.last ∙ ap last_number both.0 ∙ sym two.last;
      fault = both.1;
    }

begins_anyhow : (records : List LogRecord) → Begins befores.Anything records
begins_anyhow [] = tt
begins_anyhow (r ∷ records) = tt

of_log : (records : List LogRecord) (bytes : List ℕ) (is : IsLogOf records bytes) → Reading befores.Anything bytes records (is.gate ∷ is.rest) None
of_log records bytes is = record {
  fit = is.records_are.fit;
  numbers = is.records_are.numbers;
  begins = begins_anyhow records;
  is = is.is;
  gated = λ some. omega arith;
  ends = record { gate = is.gate; more = is.rest; closed = is.closed; is = refl };
}

of_bad : (kind : LogKind) (place : ℕ) (bytes : List ℕ) (is : IsBadAt kind place bytes) → Reading befores.Anything bytes is.records is.rest (Some kind)
of_bad kind place bytes is = record {
  fit = is.records_are.fit;
  numbers = is.records_are.numbers;
  begins = begins_anyhow is.records;
  is = is.is;
  gated = is.gated;
  ends = is.wrong;
}

pub one_list : (bytes : List ℕ) (records records' : List LogRecord) → IsLogOf records bytes → IsLogOf records' bytes → records ≡ records'
one_list bytes records records' one two = (one_reading befores.Anything bytes records records' (one.gate ∷ one.rest) (two.gate ∷ two.rest) None None (of_log records bytes one) (of_log records' bytes two)).0

pub one_fault : (bytes : List ℕ) (kind kind' : LogKind) (place place' : ℕ) → IsBadAt kind place bytes → IsBadAt kind' place' bytes → (kind ≡ kind') × (place ≡ place')
one_fault bytes kind kind' place place' one two =
    let both = one_reading befores.Anything bytes one.records two.records one.rest two.rest (Some kind) (Some kind') (of_bad kind place bytes one) (of_bad kind' place' bytes two) in
    (let same = both.1 in cc, one.place_is ∙ ap (λ (rs : List LogRecord). length (spelled rs)) both.0 ∙ sym two.place_is)

pub never_both : (bytes : List ℕ) (records : List LogRecord) (kind : LogKind) (place : ℕ) → IsLogOf records bytes → IsBadAt kind place bytes → ⊥
never_both bytes records kind place one two =
    let both = one_reading befores.Anything bytes records two.records (one.gate ∷ one.rest) two.rest None (Some kind) (of_log records bytes one) (of_bad kind place bytes two) in
    let same = both.1 in absurd cc
