-- The marks of a row, from its fields and spans.
use Rattle.std.proofs.Common.{◌≡◌, ℕ, zero, suc, ◌+◌, ◌-◌, ◌<◌, ◌≤◌, Bool, true, false, cond, eqb, ltb, leb, ◌&&◌, List, [], ◌∷◌, ◌++◌, Option, Some, None, MatchOption, length, get_or, drop, refl, sym, ap, subst, ◌∙◌, arith, inl, inr, add-one, append-nil, append_assoc, length-append}
use Rattle.std.specs.Prelude.{not}
use Rattle.std.specs.List.{AllByRecursion, flat_map}
use Rattle.std.proofs.Math.Seq.{drop-append_seam}
use Rattle.std.proofs.lemmas.Bool.{cases_lt, le-leb, lt-leb, lt-ltb, le-ltb, leb-true, and_parts}
use Rattle.std.proofs.lemmas.List.Concat.{flat_map-append}
use Rattle.byte_fields.specs.Fields.{AllFrom}
use Rattle.doc_types.specs.declared.tokens.Gap.{Gap}
use Rattle.doc_types.specs.declared.tokens.TheConstants.{MAX_POSITION}
use Rattle.doc_bytes.specs.Reading.{FieldSpan}
use Rattle.posting_codec.specs.Numbers.{number}
use Rattle.chunk_image.specs.Marks.{gap_numbers, span_numbers}
use Rattle.item_lists.specs.Items.{AllFit, spelled}
use Rattle.item_lists.proofs.Reading.{behind, one_list}
use Rattle.chunk_damage.specs.RowMarks.{AreFieldMarks, FieldMarks, IsSpanIn, RowMarks, empty_field, field_numbers, has_word_at, is_taken, mark_bytes}
use Rattle.image_marks.specs.Markings.{field_bits, fields_bits, fields_least, fields_starts, row_bits, row_starts}
use Rattle.image_marks.specs.steps.MarkItems.{AreFieldsAt, AreRowMarksAt, IsField, and_field, and_gap, field_bytes, fields_bytes, gap_bytes}
use Rattle.image_marks.specs.steps.SpanItems.{AreCountedSpans, IsSpan, and_span, counted_spans, span_bytes, stands, stop_of}
use Rattle.image_marks.proofs.FieldReading.{field_bits_long, fields_apart}
use Rattle.image_marks.proofs.Bits.{FieldsTake, fields_long, fields_take}
use Rattle.image_marks.proofs.Laying.{starts_many}

-- ---- bytes

gaps_spelled : (before : ℕ) (gs : List (ℕ × Gap)) → flat_map number (gap_numbers before gs) ≡ spelled gap_bytes and_gap before gs
gaps_spelled before [] = refl
gaps_spelled before (g ∷ gs) = ap (λ l. gap_bytes before g ++ l) (gaps_spelled g.0 gs)

field_spelled : (m : FieldMarks) → flat_map number (field_numbers m) ≡ field_bytes tt m
field_spelled m = ap (λ l. number m.last ++ (number (length m.gaps) ++ l)) (gaps_spelled 0 m.gaps)

fields_spelled : (ms : List FieldMarks) → flat_map number (flat_map field_numbers ms) ≡ fields_bytes ms
fields_spelled [] = refl
fields_spelled (m ∷ ms) = flat_map-append number (field_numbers m) (flat_map field_numbers ms) ∙ ap (λ l. l ++ flat_map number (flat_map field_numbers ms)) (field_spelled m) ∙ ap (λ l. field_bytes tt m ++ l) (fields_spelled ms)

span_spelled : (before : Option FieldSpan) (s : FieldSpan) → flat_map number (span_numbers s) ≡ span_bytes before s
span_spelled before s = ap (λ l. number s.0 ++ (number s.1.zone ++ (number s.1.first ++ l))) (append-nil (number (s.1.last - s.1.first)))

spans_spelled : (before : Option FieldSpan) (ss : List FieldSpan) → flat_map number (flat_map span_numbers ss) ≡ spelled span_bytes and_span before ss
spans_spelled before [] = refl
spans_spelled before (s ∷ ss) = flat_map-append number (span_numbers s) (flat_map span_numbers ss) ∙ ap (λ l. l ++ flat_map number (flat_map span_numbers ss)) (span_spelled before s) ∙ ap (λ l. span_bytes before s ++ l) (spans_spelled (Some s) ss)

pub marks_spelled : (m : RowMarks) → mark_bytes m ≡ fields_bytes m.fields ++ counted_spans m.spans
unfolding mark_bytes
marks_spelled m =
    flat_map-append number (flat_map field_numbers m.fields) (length m.spans ∷ flat_map span_numbers m.spans)
    ∙ ap (λ l. l ++ flat_map number (length m.spans ∷ flat_map span_numbers m.spans)) (fields_spelled m.fields)
    ∙ ap (λ l. fields_bytes m.fields ++ (number (length m.spans) ++ l)) (spans_spelled None m.spans)

-- ---- where words stand

-- a field of a row, and where its counters are
pub record FieldAt (own : List ℕ) (total : ℕ) (final : List ℕ) (ms : List FieldMarks) (f : ℕ) : Type 0 where
  pub start : ℕ
  pub start_is : get_or own f 0 ≡ start
  pub stop_is : cond (ltb (f + 1) (length ms)) (get_or own (f + 1) 0) total ≡ start + (get_or ms f empty_field).last
  pub within : start + (get_or ms f empty_field).last ≤ total
  pub takes : (p : ℕ) → 1 ≤ p → p ≤ (get_or ms f empty_field).last → get_or final (start + p - 1) 0 ≡ cond (is_taken (get_or ms f empty_field).gaps p) 1 0

field_at : (bits final : List ℕ) (ms : List FieldMarks) (f : ℕ) → f < length ms → FieldsTake final bits ms → FieldAt (fields_starts bits ms) (length (fields_bits bits ms)) final ms f
field_at bits final [] f low count = absurd (omega (arith, low))
field_at bits final (m ∷ []) zero low count = record { start = length bits; start_is = refl; stop_is = field_bits_long bits m; within = omega (arith, field_bits_long bits m); takes = count.0 }
field_at bits final (m ∷ n ∷ ms) zero low count = record {
  start = length bits;
  start_is = refl;
  stop_is = ap (λ b. cond b (length (field_bits bits m)) (length (fields_bits (field_bits (field_bits bits m) n) ms))) (lt-ltb 1 (suc (suc (length ms))) (omega arith)) ∙ field_bits_long bits m;
  within = omega (arith, field_bits_long bits m, field_bits_long (field_bits bits m) n, fields_long (field_bits (field_bits bits m) n) ms);
  takes = count.0;
}
field_at bits final (m ∷ ms) (suc f) low count =
    let its = field_at (field_bits bits m) final ms f (omega (arith, low)) count.1 in
    record { start = its.start; start_is = its.start_is; stop_is = shifted ms f (fields_starts (field_bits bits m) ms) (length (fields_bits (field_bits bits m) ms)) (length bits) ∙ its.stop_is; within = its.within; takes = its.takes }
  where
    shifted : (ms : List FieldMarks) (f : ℕ) (own : List ℕ) (total x : ℕ) → cond (ltb (suc f + 1) (suc (length ms))) (get_or (x ∷ own) (suc f + 1) 0) total ≡ cond (ltb (f + 1) (length ms)) (get_or own (f + 1) 0) total
    shifted ms f own total x =
        elim (cases_lt (f + 1) (length ms)) [
          | inl low ↦ rw (lt-ltb (suc f + 1) (suc (length ms)) (omega (arith, low)), lt-ltb (f + 1) (length ms) low) (ap (λ k. get_or (x ∷ own) k 0) (up f))
          | inr high ↦ rw (le-ltb (suc f + 1) (suc (length ms)) (omega (arith, high)), le-ltb (f + 1) (length ms) high) refl
        ]
      where
        up : (f : ℕ) → suc f + 1 ≡ suc (f + 1)
        up f = omega arith

by_bit : (taken : Bool) (n : ℕ) → n ≡ cond taken 1 0 → not (eqb n 1) ≡ not taken
by_bit true n e = ap (λ k. not (eqb k 1)) e
by_bit false n e = ap (λ k. not (eqb k 1)) e

tests_agree : (start last p n total : ℕ) (taken : Bool) → (1 ≤ p → p ≤ last → n ≡ cond taken 1 0) → start + last ≤ total → (ltb 0 p && (leb (start + p) (start + last) && (leb (start + p) total && not (eqb n 1)))) ≡ (leb 1 p && (leb p last && not taken))
tests_agree start last p n total taken takes within =
    elim (cases_lt 0 p) [
      | inl some ↦ elim (cases_lt last p) [
        | inl past ↦ rw (lt-ltb 0 p some, lt-leb (start + p) (start + last) (omega (arith, past)), lt-leb p last past) refl
        | inr low ↦ rw (lt-ltb 0 p some, le-leb (start + p) (start + last) (omega (arith, low)), le-leb (start + p) total (omega (arith, low, within)), le-leb p last low) (by_bit taken n (takes some low))
      ]
      | inr none ↦ rw (le-ltb 0 p none) refl
    ]

stop_same : (ms : List FieldMarks) (f : ℕ) (fs final : List ℕ) (x : ℕ) → length fs ≡ length ms → stop_of (x ∷ fs) final f ≡ cond (ltb (f + 1) (length ms)) (get_or fs (f + 1) 0) (length final)
stop_same ms f fs final x l =
    elim (cases_lt (f + 1) (length ms)) [
      | inl low ↦ rw (lt-ltb (f + 2) (suc (length fs)) (omega (arith, l, low)), lt-ltb (f + 1) (length ms) low) (ap (λ k. get_or (x ∷ fs) k 0) (up f))
      | inr high ↦ rw (le-ltb (f + 2) (suc (length fs)) (omega (arith, l, high)), le-ltb (f + 1) (length ms) high) refl
    ]
  where
    up : (f : ℕ) → f + 2 ≡ suc (f + 1)
    up f = omega arith

-- the code's test is the one of the marks
pub same_test : (bits0 : List ℕ) (ms : List FieldMarks) (f p : ℕ) → AllByRecursion AreFieldMarks ms → f < length ms → stands (row_starts bits0 ms) (row_bits bits0 ms) f p ≡ has_word_at ms f p
same_test bits0 ms f p fit low =
    let c = bits0 ++ 1 ∷ [] in
    let own = row_starts bits0 ms in
    let final = row_bits bits0 ms in
    let takes = fields_take final c ms fit (λ k h. refl) in
    let at = field_at c final ms f low takes in
    let last = (get_or ms f empty_field).last in
    let begin : get_or own (f + 1) 0 ≡ at.start = ap (λ k. get_or own k 0) (add-one f) ∙ at.start_is in
    let stop : stop_of own final f ≡ at.start + last = stop_same ms f (fields_starts c ms) final (length bits0) (starts_many c ms) ∙ at.stop_is in
    let agreed = tests_agree at.start last p (get_or final (at.start + p - 1) 0) (length final) (is_taken (get_or ms f empty_field).gaps p) (at.takes p) at.within in
    ap (λ k. ltb 0 p && (leb (k + p) (stop_of own final f) && (leb (k + p) (length final) && not (eqb (get_or final (k + p - 1) 0) 1)))) begin
    ∙ ap (λ k. ltb 0 p && (leb (at.start + p) k && (leb (at.start + p) (length final) && not (eqb (get_or final (at.start + p - 1) 0) 1)))) stop ∙ agreed

-- ---- spans

word_small : (ms : List FieldMarks) (f p : ℕ) → AllByRecursion AreFieldMarks ms → f < length ms → has_word_at ms f p ≡ true → p ≤ MAX_POSITION
word_small ms f p fit low e =
    let a = and_parts (leb 1 p) (leb p (get_or ms f empty_field).last && not (is_taken (get_or ms f empty_field).gaps p)) e in
    let b = and_parts (leb p (get_or ms f empty_field).last) (not (is_taken (get_or ms f empty_field).gaps p)) a.1 in
    omega (arith, leb-true p (get_or ms f empty_field).last b.0, short ms f fit low)
  where
    short : (ms : List FieldMarks) (f : ℕ) → AllByRecursion AreFieldMarks ms → f < length ms → (get_or ms f empty_field).last ≤ MAX_POSITION
    short [] f fit low = absurd (omega (arith, low))
    short (m ∷ ms) zero fit low = fit.0.short
    short (m ∷ ms) (suc f) fit low = short ms f fit.1 (omega (arith, low))

module _ (bits0 : List ℕ) (ms : List FieldMarks) (few : length ms ≤ 32) (fit : AllByRecursion AreFieldMarks ms) where
  abbrev own : List ℕ
  own = row_starts bits0 ms

  abbrev final : List ℕ
  final = row_bits bits0 ms

  own_long : length own ≡ suc (length ms)
  own_long = ap suc (starts_many (bits0 ++ 1 ∷ []) ms)

  -- a span by the places is one by the marks, and the other way round
  to_marks : (before : Option FieldSpan) (s : FieldSpan) → IsSpan own final before s → IsSpanIn ms before s
  to_marks before s is =
      let low : s.0 < length ms = omega (arith, is.field, own_long) in
      record {
        field = low;
        zone = is.zone;
        order = is.order;
        begins = sym (same_test bits0 ms s.0 s.1.first fit low) ∙ is.begins;
        ends = sym (same_test bits0 ms s.0 s.1.last fit low) ∙ is.ends;
        behind = is.behind;
      }

  from_marks : (before : Option FieldSpan) (s : FieldSpan) → IsSpanIn ms before s → IsSpan own final before s
  from_marks before s is = record {
    field = omega (arith, is.field, own_long);
    small = omega (arith, is.field, few);
    zone = is.zone;
    first = omega (arith, word_small ms s.0 s.1.first fit is.field is.begins);
    order = is.order;
    size = omega (arith, word_small ms s.0 s.1.last fit is.field is.ends);
    begins = same_test bits0 ms s.0 s.1.first fit is.field ∙ is.begins;
    ends = same_test bits0 ms s.0 s.1.last fit is.field ∙ is.ends;
    behind = is.behind;
  }

  all_to_marks : (before : Option FieldSpan) (ss : List FieldSpan) → AllFit and_span (IsSpan own final) before ss → AllFrom (IsSpanIn ms) Some before ss
  all_to_marks before [] all = tt
  all_to_marks before (s ∷ ss) all = (to_marks before s all.0, all_to_marks (Some s) ss all.1)

  all_from_marks : (before : Option FieldSpan) (ss : List FieldSpan) → AllFrom (IsSpanIn ms) Some before ss → AllFit and_span (IsSpan own final) before ss
  all_from_marks before [] all = tt
  all_from_marks before (s ∷ ss) all = (from_marks before s all.0, all_from_marks (Some s) ss all.1)

-- fields that fit, as they are read and as they are said
all_fit : (ms : List FieldMarks) → AllByRecursion AreFieldMarks ms → AllFit and_field IsField tt ms
all_fit [] all = tt
all_fit (m ∷ ms) all = (all.0, all_fit ms all.1)

fit_all : (ms : List FieldMarks) → AllFit and_field IsField tt ms → AllByRecursion AreFieldMarks ms
fit_all [] all = tt
fit_all (m ∷ ms) all = (all.0, fit_all ms all.1)

-- ---- a row

abbrev pub NoRow : List ℕ → ℕ → ℕ → Type 0
NoRow bytes at fields = (m : RowMarks) (rest : List ℕ) → AreRowMarksAt bytes at fields m rest → ⊥

-- its fields stand first, and its spans behind them
parts_there : (bytes : List ℕ) (at fields : ℕ) (m : RowMarks) (rest : List ℕ) → AreRowMarksAt bytes at fields m rest → drop at bytes ≡ fields_bytes m.fields ++ (counted_spans m.spans ++ rest)
parts_there bytes at fields m rest is = is.here ∙ ap (λ l. l ++ rest) (marks_spelled m) ∙ append_assoc (fields_bytes m.fields) (counted_spans m.spans) rest

pub no_fields : (bytes : List ℕ) (at fields : ℕ) → ((ms : List FieldMarks) (rest : List ℕ) → AreFieldsAt bytes at fields ms rest → ⊥) → NoRow bytes at fields
no_fields bytes at fields none m rest is = none m.fields (counted_spans m.spans ++ rest) (record { counted = is.fits.many; fit = all_fit m.fields is.fits.fields_fit; here = parts_there bytes at fields m rest is })

abbrev pub RowRead : List ℕ → ℕ → ℕ → ℕ → List ℕ → List ℕ → List ℕ → List ℕ → ℕ → ℕ → ℕ → Type 0
RowRead bytes at fields row starts bits starts_after bits_after least least_after end =
    (m : RowMarks) × (rest : List ℕ) × AreRowMarksAt bytes at fields m rest × (end ≡ at + length (mark_bytes m)) × (starts_after ≡ starts ++ row_starts bits m.fields) × (bits_after ≡ row_bits bits m.fields) × (least_after ≡ fields_least row least m.fields)

abbrev SpansFound : List ℕ → List ℕ → List ℕ → ℕ → Option ℕ → Type 0
SpansFound own bits bytes place found =
    MatchOption found ((spans : List FieldSpan) (rest : List ℕ) → AreCountedSpans own bits bytes place spans rest → ⊥) (λ end. (spans : List FieldSpan) × (rest : List ℕ) × AreCountedSpans own bits bytes place spans rest × (end ≡ place + length (counted_spans spans)))

pub row_answer : (bytes : List ℕ) (at fields place first row : ℕ) (starts bits begun grown starts_after bits_after : List ℕ) (least least_grown least_after : ℕ) (found : Option ℕ) → fields ≤ 32 → first ≡ length starts → begun ≡ starts ++ length bits ∷ [] → grown ≡ bits ++ 1 ∷ [] → least_grown ≡ least
    → (ms : List FieldMarks) (rest : List ℕ) → AreFieldsAt bytes at fields ms rest → place ≡ at + length (fields_bytes ms) → starts_after ≡ begun ++ fields_starts grown ms → bits_after ≡ fields_bits grown ms → least_after ≡ fields_least row least_grown ms
    → SpansFound (drop first starts_after) bits_after bytes place found
    → MatchOption found (NoRow bytes at fields) (RowRead bytes at fields row starts bits starts_after bits_after least least_after)
row_answer bytes at fields place first row starts bits begun grown starts_after bits_after least least_grown least_after found few f b g l ms rest are p s c q answer = by found answer
  where
    own_is : drop first starts_after ≡ row_starts bits ms
    own_is = ap (drop first) (s ∙ ap (λ l. l ++ fields_starts grown ms) b ∙ append_assoc starts (length bits ∷ []) (fields_starts grown ms) ∙ ap (λ l. starts ++ (length bits ∷ fields_starts l ms)) g) ∙ ap (λ n. drop n (starts ++ row_starts bits ms)) f ∙ drop-append_seam starts (row_starts bits ms)

    bits_is : bits_after ≡ row_bits bits ms
    bits_is = c ∙ ap (λ l. fields_bits l ms) g

    fit : AllByRecursion AreFieldMarks ms
    fit = fit_all ms are.fit

    many : length ms ≤ 32
    many = omega (arith, are.counted, few)

    left : drop place bytes ≡ rest
    left = behind bytes (fields_bytes ms) rest at place are.here p

    by : (found : Option ℕ) → SpansFound (drop first starts_after) bits_after bytes place found → MatchOption found (NoRow bytes at fields) (RowRead bytes at fields row starts bits starts_after bits_after least least_after)
    by None none = λ m more is.
        let own = drop first starts_after in
        let same = one_list field_bytes and_field IsField fields_apart tt ms m.fields rest (counted_spans m.spans ++ more) are.fit (all_fit m.fields is.fits.fields_fit) (are.counted ∙ sym is.fits.many) (sym are.here ∙ parts_there bytes at fields m more is) in
        let spans : AllFrom (IsSpanIn ms) Some None m.spans = subst (λ (k : List FieldMarks). AllFrom (IsSpanIn k) Some None m.spans) (sym same.0) is.fits.spans_fit in
        let own_fit : AllFit and_span (IsSpan own bits_after) None m.spans =
        subst (λ (o : List ℕ). AllFit and_span (IsSpan o bits_after) None m.spans) (sym own_is) (subst (λ (k : List ℕ). AllFit and_span (IsSpan (row_starts bits ms) k) None m.spans) (sym bits_is) (all_from_marks bits ms many fit None m.spans spans)) in
        none m.spans more (record { few = is.fits.few; fit = own_fit; here = left ∙ same.1 })
    by (Some end) read =
        let own = drop first starts_after in
        let spans = read.0 in
        let m : RowMarks = record { fields = ms; spans = spans } in
        let their : AllFit and_span (IsSpan (row_starts bits ms) (row_bits bits ms)) None spans =
        subst (λ (k : List ℕ). AllFit and_span (IsSpan (row_starts bits ms) k) None spans) bits_is (subst (λ (o : List ℕ). AllFit and_span (IsSpan o bits_after) None spans) own_is read.2.fit) in
        let whole = marks_spelled m in (
          m,
          read.1,
          record {
            fits = record { many = are.counted; fields_fit = fit; few = read.2.few; spans_fit = all_to_marks bits ms many fit None spans their };
            here = are.here ∙ ap (λ l. fields_bytes ms ++ l) (sym left ∙ read.2.here) ∙ sym (append_assoc (fields_bytes ms) (counted_spans spans) read.1) ∙ ap (λ l. l ++ read.1) (sym whole);
          },
          omega (arith, read.3, p, ap length whole, length-append (fields_bytes ms) (counted_spans spans)),
          s ∙ ap (λ l. l ++ fields_starts grown ms) b ∙ append_assoc starts (length bits ∷ []) (fields_starts grown ms) ∙ ap (λ l. starts ++ (length bits ∷ fields_starts l ms)) g,
          bits_is,
          q ∙ ap (λ n. fields_least row n ms) l,
        )
