-- Marks, one boundary, field or span more at a time.
use Rattle.std.proofs.Common.{◌≡◌, ℕ, ◌+◌, ◌-◌, ◌*◌, ◌<◌, List, [], ◌∷◌, ◌++◌, Bool, true, false, cond, Result, Ok, Err, length, drop, take, get_or, map, refl, sym, ap, ◌∙◌, suc, append_assoc, append-nil, length-append, add-one, drop-cons}
use Rattle.std.specs.Prelude.{OnOk}
use Rattle.std.specs.List.{flat_map, filter, sum_by}
use Rattle.std.proofs.lemmas.Grind.{flat_map-append}
use Rattle.std.proofs.lemmas.List.{length-map}
use Rattle.std.proofs.lemmas.List.Sums.{sum_by-cons}
use Rattle.doc_types.specs.declared.tokens.FieldTokens.{FieldTokens}
use Rattle.doc_types.specs.declared.tokens.TokenWord.{TokenWord}
use Rattle.doc_types.specs.declared.tokens.ZoneSpan.{ZoneSpan}
use Rattle.doc_types.specs.declared.tokens.Gap.{Gap}
use Rattle.doc_types.specs.Chunks.{is_boundary}
use Rattle.doc_types.proofs.FieldParts.{parts, parts_more}
use Rattle.posting_codec.specs.Numbers.{number}
use Rattle.chunk_image.specs.Marks.{field_numbers, gap_numbers, kind_bit, span_numbers}
use Rattle.image_write.specs.steps.Marking.{field_marks, marks_in, span_marks}

-- what lies ahead in a list, from its next element on
pub drop_next : {X : Type 0} (xs : List X) (i : ℕ) (x : X) → i < length xs → x ≡ get_or xs i x → drop i xs ≡ x ∷ drop (i + 1) xs
drop_next xs i x low is = rw (add-one i) (drop-cons xs i x low ∙ ap (λ y. y ∷ drop (suc i) xs) (sym is))

-- the boundaries before words
abbrev pub gaps_in : List TokenWord → List (ℕ × Gap)
gaps_in words = map (λ token. (token.position - 1, token.gap)) (filter (λ token. is_boundary token.gap) words)

-- two, three and four writes, the last of which may fail
pub two : {T E : Type 0} (r : Result T E) (o o1 o2 a b : List ℕ) → o1 ≡ o ++ a → OnOk r (o2 ≡ o1 ++ b) → OnOk r (o2 ≡ o ++ (a ++ b))
two (Err e) o o1 o2 a b one last = tt
two (Ok x) o o1 o2 a b one last = last ∙ ap (λ (l : List ℕ). l ++ b) one ∙ append_assoc o a b

pub three : {T E : Type 0} (r : Result T E) (o o1 o2 o3 a b c : List ℕ) → o1 ≡ o ++ a → o2 ≡ o1 ++ b → OnOk r (o3 ≡ o2 ++ c) → OnOk r (o3 ≡ o ++ (a ++ (b ++ c)))
three r o o1 o2 o3 a b c one next last = two r o o1 o3 a (b ++ c) one (two r o1 o2 o3 b c next last)

pub four : {T E : Type 0} (r : Result T E) (o o1 o2 o3 o4 a b c d : List ℕ) → o1 ≡ o ++ a → o2 ≡ o1 ++ b → o3 ≡ o2 ++ c → OnOk r (o4 ≡ o3 ++ d) → OnOk r (o4 ≡ o ++ (a ++ (b ++ (c ++ d))))
four r o o1 o2 o3 o4 a b c d one next third last = two r o o1 o4 a (b ++ (c ++ d)) one (three r o1 o2 o3 o4 b c d next third last)

-- four writes of which a list is made
pub four_listed : {T E : Type 0} (r : Result T E) (o o1 o2 o3 o4 a b c d : List ℕ) → o1 ≡ o ++ a → o2 ≡ o1 ++ b → o3 ≡ o2 ++ c → OnOk r (o4 ≡ o3 ++ d) → OnOk r (o4 ≡ o ++ (a ++ (b ++ (c ++ (d ++ [])))))
four_listed {T = T} {E = E} (Err e) o o1 o2 o3 o4 a b c d one next third last = tt
four_listed {T = T} {E = E} (Ok x) o o1 o2 o3 o4 a b c d one next third last =
    let all : o4 ≡ o ++ (a ++ (b ++ (c ++ d))) = four {T = T} {E = E} (Ok x) o o1 o2 o3 o4 a b c d one next third last in
    all ∙ ap (λ l. o ++ (a ++ (b ++ (c ++ l)))) (sym (append-nil d))

-- the fields' marks, and those of a row's spans
pub fields_marked : (fields : List FieldTokens) → flat_map number (flat_map field_numbers fields) ≡ flat_map field_marks fields
fields_marked [] = refl
fields_marked (f ∷ fs) = flat_map-append number (field_numbers f) (flat_map field_numbers fs) ∙ ap (λ l. field_marks f ++ l) (fields_marked fs)

pub spans_marked : (spans : List (ℕ × ZoneSpan)) → flat_map number (flat_map span_numbers spans) ≡ flat_map span_marks spans
spans_marked [] = refl
spans_marked (s ∷ ss) = flat_map-append number (span_numbers s) (flat_map span_numbers ss) ∙ ap (λ l. span_marks s ++ l) (spans_marked ss)

spans_counted : (n : ℕ) (fields : List FieldTokens) → length (parts n (λ (f : FieldTokens). f.spans) fields) ≡ sum_by (λ (f : FieldTokens). length f.spans) fields
spans_counted n [] = refl
spans_counted n (f ∷ fs) =
    let own : List (ℕ × ZoneSpan) = map (λ s. (n, s)) f.spans in
    length-append own (parts (n + 1) (λ (f : FieldTokens). f.spans) fs) ∙ ap (λ k. k + length (parts (n + 1) (λ (f : FieldTokens). f.spans) fs)) (length-map {B = ℕ × ZoneSpan} f.spans (λ s. (n, s))) ∙ ap (λ k. length f.spans + k) (spans_counted (n + 1) fs)
    ∙ sym (sum_by-cons (λ (f : FieldTokens). length f.spans) f fs)

pub all_counted : (fields : List FieldTokens) → length (parts 0 (λ (f : FieldTokens). f.spans) fields) ≡ sum_by (λ (f : FieldTokens). length f.spans) fields
all_counted fields = spans_counted 0 fields

-- the marks of a row, from its parts
pub row_marked : {T E : Type 0} (r : Result T E) (fields : List FieldTokens) (o o1 o2 o3 : List ℕ) (n : ℕ) → o1 ≡ o ++ flat_map field_marks fields → n ≡ sum_by (λ (f : FieldTokens). length f.spans) fields → o2 ≡ o1 ++ number n
    → OnOk r (o3 ≡ o2 ++ flat_map span_marks (parts 0 (λ (f : FieldTokens). f.spans) fields))
    → OnOk r (o3 ≡ o ++ flat_map number (flat_map field_numbers fields ++ length (parts 0 (λ (f : FieldTokens). f.spans) fields) ∷ flat_map span_numbers (parts 0 (λ (f : FieldTokens). f.spans) fields)))
row_marked {T = T} {E = E} (Err e) fields o o1 o2 o3 n one count next last = tt
row_marked {T = T} {E = E} (Ok x) fields o o1 o2 o3 n one count next last =
    let spans = parts 0 (λ (f : FieldTokens). f.spans) fields in
    let all : o3 ≡ o ++ (flat_map field_marks fields ++ (number n ++ flat_map span_marks spans)) = three {T = T} {E = E} (Ok x) o o1 o2 o3 (flat_map field_marks fields) (number n) (flat_map span_marks spans) one next last in
    let size : n ≡ length spans = count ∙ sym (all_counted fields) in
    all ∙ ap (λ l. o ++ l) (
    ap (λ l. l ++ (number n ++ flat_map span_marks spans)) (sym (fields_marked fields))
    ∙ ap (λ l. flat_map number (flat_map field_numbers fields) ++ l) (ap (λ k. number k ++ flat_map span_marks spans) size ∙ ap (λ l. number (length spans) ++ l) (sym (spans_marked spans)))
    ∙ sym (flat_map-append number (flat_map field_numbers fields) (length spans ∷ flat_map span_numbers spans)))

-- one boundary more
gap_marked : (before : ℕ) (t : TokenWord) (ts : List TokenWord) (b : Bool) → is_boundary t.gap ≡ b →
    flat_map number (gap_numbers before (gaps_in (t ∷ ts))) ≡ cond b (number (2 * (t.position - 1 - before) + kind_bit t.gap) ++ flat_map number (gap_numbers (t.position - 1) (gaps_in ts))) (flat_map number (gap_numbers before (gaps_in ts)))
gap_marked before t ts true e = rw e refl
gap_marked before t ts false e = rw e refl

pub gap_more : (words : List TokenWord) (i before : ℕ) (t : TokenWord) (old now after all : List ℕ) → i < length words → t ≡ get_or words i t → is_boundary t.gap ≡ true
    → now ++ flat_map number (gap_numbers before (gaps_in (drop i words))) ≡ all → after ≡ now ++ number (2 * (t.position - 1 - before) + kind_bit t.gap)
    → after ++ flat_map number (gap_numbers (t.position - 1) (gaps_in (drop (i + 1) words))) ≡ all
gap_more words i before t old now after all low is kind was put =
    let here : drop i words ≡ t ∷ drop (i + 1) words = drop_next words i t low is in
    let own = number (2 * (t.position - 1 - before) + kind_bit t.gap) in
    let rest = flat_map number (gap_numbers (t.position - 1) (gaps_in (drop (i + 1) words))) in
    ap (λ l. l ++ rest) put ∙ append_assoc now own rest ∙ ap (λ l. now ++ l) (sym (ap (λ ws. flat_map number (gap_numbers before (gaps_in ws))) here ∙ gap_marked before t (drop (i + 1) words) true kind)) ∙ was

pub gap_none : (words : List TokenWord) (i before : ℕ) (t : TokenWord) (now all : List ℕ) → i < length words → t ≡ get_or words i t → is_boundary t.gap ≡ false
    → now ++ flat_map number (gap_numbers before (gaps_in (drop i words))) ≡ all
    → now ++ flat_map number (gap_numbers before (gaps_in (drop (i + 1) words))) ≡ all
gap_none words i before t now all low is kind was =
    let here : drop i words ≡ t ∷ drop (i + 1) words = drop_next words i t low is in
    ap (λ l. now ++ l) (sym (ap (λ ws. flat_map number (gap_numbers before (gaps_in ws))) here ∙ gap_marked before t (drop (i + 1) words) false kind)) ∙ was

-- the spans of one field more
pub spans_more : (fields : List FieldTokens) (i : ℕ) (field : FieldTokens) (start now after : List ℕ) → i < length fields → field ≡ get_or fields i field
    → now ≡ start ++ flat_map span_marks (parts 0 (λ (f : FieldTokens). f.spans) (take i fields)) → after ≡ now ++ flat_map (marks_in i) field.spans
    → after ≡ start ++ flat_map span_marks (parts 0 (λ (f : FieldTokens). f.spans) (take (i + 1) fields))
spans_more fields i field start now after low is was put =
    let before = parts 0 (λ (f : FieldTokens). f.spans) (take i fields) in
    let more : List (ℕ × ZoneSpan) = map (λ s. (i, s)) field.spans in
    let grown : before ++ more ≡ parts 0 (λ (f : FieldTokens). f.spans) (take (i + 1) fields) = parts_more (λ (f : FieldTokens). f.spans) fields i field [] before (before ++ more) low is refl refl in
    put ∙ ap (λ l. l ++ flat_map (marks_in i) field.spans) was
    ∙ append_assoc start (flat_map span_marks before) (flat_map (marks_in i) field.spans)
    ∙ ap (λ l. start ++ l) (ap (λ l. flat_map span_marks before ++ l) (sym (mapped i field.spans)) ∙ sym (flat_map-append span_marks before more) ∙ ap (flat_map span_marks) grown)
  where
    mapped : (n : ℕ) (spans : List ZoneSpan) → flat_map span_marks (map (λ s. (n, s)) spans) ≡ flat_map (marks_in n) spans
    mapped n [] = refl
    mapped n (s ∷ ss) = ap (λ l. span_marks (n, s) ++ l) (mapped n ss)
