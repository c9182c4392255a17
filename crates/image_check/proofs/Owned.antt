-- No more places are taken than an image has bytes: each row, each boundary and each hit takes one, and has a byte of its own.
use Rattle.std.proofs.Common.{◌≡◌, ℕ, zero, suc, ◌+◌, ◌-◌, ◌/◌, ◌%◌, ◌<◌, ◌≤◌, Bool, true, false, cond, eqb, leb, set, List, [], ◌∷◌, ◌++◌, length, get_or, replicate, refl, ap, ◌∙◌, arith, length-append}
use Rattle.std.specs.Prelude.{nat_lt}
use Rattle.std.proofs.lemmas.List.{length-map}
use Rattle.doc_types.specs.declared.tokens.Gap.{Gap}
use Rattle.posting_codec.specs.Numbers.{number, spelled as spelled_number}
use Rattle.posting_codec.specs.HitLists.{differences, hit_list, key}
use Rattle.posting_codec.specs.PostingLists.{posting, posting_list}
use Rattle.item_lists.specs.Items.{spelled}
use Rattle.chunk_damage.specs.RowMarks.{Before, FieldMarks, RowMarks, and_marks, empty_field, mark_bytes}
use Rattle.chunk_damage.specs.RowMarks.{bytes_of as marks_of}
use Rattle.chunk_damage.specs.WordLists.{Entry, and_list}
use Rattle.chunk_damage.specs.WordLists.{bytes_of as list_of}
use Rattle.image_cover.specs.Lists.{places_in, places_of, places_of_lists}
use Rattle.image_cover.specs.Places.{Seen, own_at, place_in, take_all, take_place, with_row}
use Rattle.image_marks.specs.Markings.{emptied, field_bits, fields_bits, gap_bits, laid_row, laid_rows, row_bits, rows_bits, with_bit}
use Rattle.image_marks.specs.steps.MarkItems.{and_gap, field_bytes, fields_bytes, gap_bytes, gaps_bytes}
use Rattle.image_marks.specs.steps.SpanItems.{counted_spans}
use Rattle.image_marks.proofs.RowReading.{marks_spelled}

-- ---- how many of the first places are taken

abbrev pub ones : ℕ → List ℕ → ℕ
ones zero bits = 0
ones (suc n) [] = 0
ones (suc n) (b ∷ bits) = b + ones n bits

ones_set : (n : ℕ) (bits : List ℕ) (at : ℕ) → ones n (set bits at 1) ≤ ones n bits + 1
ones_set zero bits at = omega arith
ones_set (suc n) [] zero = omega arith
ones_set (suc n) [] (suc at) = omega arith
ones_set (suc n) (b ∷ bits) zero = omega arith
ones_set (suc n) (b ∷ bits) (suc at) = omega (arith, ones_set n bits at)

ones_take : (n : ℕ) (s : Seen) (x : ℕ × ℕ) → ones n (take_place s x).0 ≤ ones n s.0 + 1
ones_take n s x = by (eqb (get_or s.0 x.1 0) 1)
  where
    by : (b : Bool) → ones n (cond {A = Seen} b (s.0, with_row s.1 x.0) (set s.0 x.1 1, s.1)).0 ≤ ones n s.0 + 1
    by true = omega arith
    by false = ones_set n s.0 x.1

pub ones_all : (n : ℕ) (s : Seen) (xs : List (ℕ × ℕ)) → ones n (take_all s xs).0 ≤ ones n s.0 + length xs
ones_all n s [] = omega arith
ones_all n s (x ∷ xs) = omega (arith, ones_all n (take_place s x) xs, ones_take n s x)

pub ones_full : (n : ℕ) (bits : List ℕ) → ((k : ℕ) → k < n → get_or bits k 0 ≡ 1) → n ≤ ones n bits
ones_full zero bits full = omega arith
ones_full (suc n) [] full = absurd (omega (arith, full 0 (omega arith)))
ones_full (suc n) (b ∷ bits) full = omega (arith, full 0 (omega arith), ones_full n bits (λ k low. full (suc k) (omega (arith, low))))

-- ---- those that marks take

ones_gaps : (n start last : ℕ) (bits : List ℕ) (gs : List (ℕ × Gap)) → ones n (gap_bits start last bits gs) ≤ ones n bits + length gs
ones_gaps n start last bits [] = omega arith
ones_gaps n start last bits (g ∷ gs) = omega (arith, ones_gaps n start last (with_bit start last bits g.0) gs, by (leb g.0 last))
  where
    by : (b : Bool) → ones n (cond b (set bits (start + g.0 - 1) 1) bits) ≤ ones n bits + 1
    by true = ones_set n bits (start + g.0 - 1)
    by false = omega arith

none_there : (n count : ℕ) → ones n (replicate count 0) ≡ 0
none_there zero count = refl
none_there (suc n) zero = refl
none_there (suc n) (suc count) = omega (arith, none_there n count)

ones_clear : (n : ℕ) (bits : List ℕ) (count : ℕ) → ones n (bits ++ replicate count 0) ≤ ones n bits
ones_clear zero bits count = omega arith
ones_clear (suc n) [] count = omega (arith, none_there (suc n) count)
ones_clear (suc n) (b ∷ bits) count = omega (arith, ones_clear n bits count)

one_there : (n : ℕ) → ones n (1 ∷ []) ≤ 1
one_there zero = omega arith
one_there (suc zero) = omega arith
one_there (suc (suc n)) = omega arith

ones_own : (n : ℕ) (bits : List ℕ) → ones n (bits ++ 1 ∷ []) ≤ ones n bits + 1
ones_own zero bits = omega arith
ones_own (suc n) [] = omega (arith, one_there (suc n))
ones_own (suc n) (b ∷ bits) = omega (arith, ones_own n bits)

-- how many boundaries there are
abbrev pub gaps_in : List FieldMarks → ℕ
gaps_in [] = 0
gaps_in (m ∷ ms) = length m.gaps + gaps_in ms

abbrev pub all_gaps : List RowMarks → ℕ
all_gaps [] = 0
all_gaps (m ∷ marks) = gaps_in m.fields + all_gaps marks

ones_fields : (n : ℕ) (bits : List ℕ) (ms : List FieldMarks) → ones n (fields_bits bits ms) ≤ ones n bits + gaps_in ms
ones_fields n bits [] = omega arith
ones_fields n bits (m ∷ ms) = omega (arith, ones_fields n (field_bits bits m) ms, ones_gaps n (length bits) m.last (bits ++ replicate m.last 0) m.gaps, ones_clear n bits m.last)

pub ones_rows : (n : ℕ) (bits : List ℕ) (marks : List RowMarks) → ones n (rows_bits bits marks) ≤ ones n bits + length marks + all_gaps marks
ones_rows n bits [] = omega arith
ones_rows n bits (m ∷ marks) = omega (arith, ones_rows n (row_bits bits m.fields) marks, ones_fields n (bits ++ 1 ∷ []) m.fields, ones_own n bits)

pub ones_none : (n : ℕ) → ones n [] ≡ 0
ones_none zero = refl
ones_none (suc n) = refl

no_gaps : (count : ℕ) → gaps_in (replicate count empty_field) ≡ 0
no_gaps zero = refl
no_gaps (suc count) = omega (arith, no_gaps count)

pub laid_gaps : (enough : ℕ) (bits : List ℕ) (marks : List RowMarks) → all_gaps (laid_rows enough bits marks) ≤ all_gaps marks
laid_gaps enough bits [] = omega arith
laid_gaps enough bits (m ∷ marks) = omega (arith, by (leb (length bits) enough), laid_gaps enough (row_bits bits (laid_row enough bits m).fields) marks)
  where
    by : (b : Bool) → gaps_in (cond {A = RowMarks} b m (emptied m)).fields ≤ gaps_in m.fields
    by true = omega arith
    by false = omega (arith, no_gaps (length m.fields))

-- ---- bytes

number_some : (n : ℕ) → 1 ≤ length (number n)
unfolding number
number_some n =
    elim (nat_lt n 128) as (λ b. 1 ≤ length (cond b (n ∷ []) ((128 + n % 128) ∷ spelled_number 3 (n / 128)))) [
      | true ↦ omega arith
      | false ↦ omega arith
    ]

gap_some : (before : ℕ) (g : ℕ × Gap) → 1 ≤ length (gap_bytes before g)
gap_some before g = number_some _

gaps_some : (before : ℕ) (gs : List (ℕ × Gap)) → length gs ≤ length (spelled gap_bytes and_gap before gs)
gaps_some before [] = omega arith
gaps_some before (g ∷ gs) = omega (arith, length-append (gap_bytes before g) (spelled gap_bytes and_gap g.0 gs), gap_some before g, gaps_some g.0 gs)

fields_some : (ms : List FieldMarks) → gaps_in ms ≤ length (fields_bytes ms)
fields_some [] = omega arith
fields_some (m ∷ ms) =
    omega (arith, length-append (field_bytes tt m) (fields_bytes ms), length-append (number m.last) (number (length m.gaps) ++ gaps_bytes m.gaps), length-append (number (length m.gaps)) (gaps_bytes m.gaps), gaps_some 0 m.gaps, fields_some ms)

-- a byte for each boundary
pub marks_some : (before : Before) (marks : List RowMarks) → all_gaps marks ≤ length (spelled marks_of and_marks before marks)
marks_some before [] = omega arith
marks_some before (m ∷ marks) =
    let whole : length (mark_bytes m) ≡ length (fields_bytes m.fields) + length (counted_spans m.spans) = ap length (marks_spelled m) ∙ length-append (fields_bytes m.fields) (counted_spans m.spans) in
    omega (arith, length-append (mark_bytes m) (spelled marks_of and_marks (and_marks before m) marks), whole, fields_some m.fields, marks_some (and_marks before m) marks)

differences_some : (before : ℕ) (hits : List (ℕ × ℕ)) → length hits ≤ length (differences before hits)
differences_some before [] = omega arith
differences_some before (h ∷ hits) = omega (arith, length-append (number (key h - before)) (differences (key h) hits), number_some (key h - before), differences_some (key h) hits)

hits_some : (hits : List (ℕ × ℕ)) → length hits ≤ length (hit_list hits)
unfolding hit_list
hits_some hits = omega (arith, length-append (number (length hits)) (differences 0 hits), differences_some 0 hits)

module _ (starts : List ℕ) (width : ℕ) where
  list_some : (least : ℕ) (entries : List Entry) → length (places_in starts width entries) ≤ length (posting_list least entries)
  list_some least [] = omega arith
  list_some least (e ∷ entries) =
      let size = number (e.0 + 1 - least) ++ number (length (hit_list e.1)) in
      omega (
        arith,
        length-append (places_of starts width e) (places_in starts width entries),
        length-map e.1 (place_in e.0 (own_at starts width e.0)),
        length-append (posting least e.0 e.1) (posting_list (e.0 + 1) entries),
        length-append size (hit_list e.1),
        hits_some e.1,
        list_some (e.0 + 1) entries,
      )

  -- a byte for each hit
  pub lists_some : (n : ℕ) (lists : List (List Entry)) → length (places_of_lists starts width lists) ≤ length (spelled list_of and_list n lists)
  lists_some n [] = omega arith
  lists_some n (l ∷ lists) = omega (arith, length-append (places_in starts width l) (places_of_lists starts width lists), length-append (posting_list 0 l) (spelled list_of and_list (n + 1) lists), list_some 0 l, lists_some (n + 1) lists)
