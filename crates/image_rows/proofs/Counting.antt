-- No row has more words than its lists have hits, and no list has more hits than bytes.
use Rattle.std.proofs.Common.{◌≡◌, ℕ, zero, suc, ◌+◌, ◌-◌, ◌*◌, ◌<◌, ◌≤◌, ◌/◌, ◌%◌, Bool, true, false, cond, eqb, ltb, List, [], ◌∷◌, ◌++◌, length, map, refl, ap, arith, length-append}
use Rattle.std.specs.List.{AllByRecursion, filter, flat_map, sum_by}
use Rattle.std.proofs.lemmas.Bool.{eqb-true}
use Rattle.std.proofs.lemmas.List.Sums.{sum_by-cons}
use Rattle.doc_types.specs.declared.tokens.FieldTokens.{FieldTokens}
use Rattle.doc_types.specs.declared.tokens.Gap.TheVariants as kinds
use Rattle.doc_bytes.specs.Reading.{FieldSpan, later_spans, own_spans, with_spans}
use Rattle.posting_codec.specs.HitLists.{Ascend, differences, hit_list, key}
use Rattle.posting_codec.specs.Numbers.{number, spelled}
use Rattle.posting_codec.specs.PostingLists.{posting, posting_list}
use Rattle.posting_codec.proofs.Entries.{posting_size}
use Rattle.chunk_damage.specs.RowMarks.{FieldMarks, is_taken}
use Rattle.chunk_damage.specs.Cover.{has_key, hits_in, owners}
use Rattle.chunk_damage.specs.WordLists.{Entry}
use Rattle.image_rows.specs.steps.Between.{from_on, words_between}
use Rattle.image_rows.specs.steps.Owned.{AllIn, AreOwned, all_places, row_words, word_at}
use Rattle.image_rows.specs.steps.Counts.{hit_count, total}
use Rattle.image_rows.proofs.Fields.{count_between}
use Rattle.image_rows.proofs.Filters.{differ, filter_in}
use Rattle.image_rows.proofs.Rowing.{lower, one_free}

-- ---- sums

total-map : {X Y : Type 0} (f : Y → ℕ) (g : X → Y) (xs : List X) → total f (map g xs) ≡ total (λ x. f (g x)) xs
total-map f g [] = refl
total-map f g (x ∷ xs) = ap (λ n. f (g x) + n) (total-map f g xs)

total-append : {X : Type 0} (f : X → ℕ) (xs ys : List X) → total f (xs ++ ys) ≡ total f xs + total f ys
total-append f [] ys = omega arith
total-append f (x ∷ xs) ys = omega (arith, total-append f xs ys)

total-both : {X : Type 0} (f g : X → ℕ) (xs : List X) → total (λ x. f x + g x) xs ≡ total f xs + total g xs
total-both f g [] = refl
total-both f g (x ∷ xs) = omega (arith, total-both f g xs)

total-none : {X : Type 0} (xs : List X) → total (λ (x : X). 0) xs ≡ 0
total-none [] = refl
total-none (x ∷ xs) = omega (arith, total-none xs)

total-le : {X : Type 0} (f g : X → ℕ) (xs : List X) → ((x : X) → f x ≤ g x) → total f xs ≤ total g xs
total-le f g [] le = omega arith
total-le f g (x ∷ xs) le = omega (arith, total-le f g xs le, le x)

abbrev one : Bool → ℕ
one b = cond b 1 0

total-filter : {X : Type 0} (test : X → Bool) (xs : List X) → total (λ x. one (test x)) xs ≡ length (filter test xs)
total-filter test [] = refl
total-filter test (x ∷ xs) = by (test x) (total-filter test xs)
  where
    by : (b : Bool) → total (λ x. one (test x)) xs ≡ length (filter test xs)
        → one b + total (λ x. one (test x)) xs ≡ length (cond b (x ∷ filter test xs) (filter test xs))
    by true e = omega (arith, e)
    by false e = omega (arith, e)

-- ---- words of a row

abbrev own_count : List (List Entry) → ℕ → ℕ × ℕ → ℕ
own_count lists row at = owners lists row (key at)

field_words : (words : List (List ℕ)) (lists : List (List Entry)) (row n : ℕ) (ms : List FieldMarks) (spans : List FieldSpan) → AreOwned lists row n ms
    → sum_by (λ (t : FieldTokens). length t.words) (with_spans n (row_words (word_at words lists row) n ms) spans) ≤ total (own_count lists row) (all_places n ms)
field_words words lists row n [] spans own = omega arith
field_words words lists row n (m ∷ ms) spans own =
    let rest = field_words words lists row (n + 1) ms (later_spans n spans) own.1 in
    let here = count_between (λ p. own_count lists row (n, p)) (λ p. word_at words lists row (n * 65536 + p)) m.last 1 m.last kinds.None m.gaps (omega arith) (lower m.last m.gaps own.0.placed.between)
    (λ at low up free. omega (arith, one_free (is_taken m.gaps at) (owners lists row (n * 65536 + at)) (own.0.each at low up) free)) in
    omega (
      arith,
      rest,
      here,
      total-map (own_count lists row) (λ p. (n, p)) (from_on m.last 1),
      total-append (own_count lists row) (map (λ p. (n, p)) (from_on m.last 1)) (all_places (n + 1) ms),
      sum_by-cons (λ (t : FieldTokens). length t.words) (record { words = words_between (λ p. word_at words lists row (n * 65536 + p)) m.last 1 kinds.None m.gaps; spans = map (λ (span : FieldSpan). span.1) (own_spans n spans) })
          (with_spans (n + 1) (row_words (word_at words lists row) (n + 1) ms) (later_spans n spans)),
    )

-- each place is of as many lists as have a hit there
owners_are_hits : (row : ℕ) (places : List (ℕ × ℕ)) (lists : List (List Entry)) → Ascend 0 places → AllByRecursion (λ list. AllIn places (hits_in row list)) lists
    → AllByRecursion (λ list. Ascend 0 (hits_in row list)) lists
    → total (own_count lists row) places ≡ total (λ (list : List Entry). length (hits_in row list)) lists
owners_are_hits row places [] ascend within up = total-none places
owners_are_hits row places (l ∷ ls) ascend within up =
    let split = total-both (λ (at : ℕ × ℕ). one (has_key (hits_in row l) (key at))) (own_count ls row) places in
    let first = total-filter (λ (at : ℕ × ℕ). has_key (hits_in row l) (key at)) places in
    let its = ap length (filter_in 0 0 places (hits_in row l) ascend up.0 within.0) in
    omega (arith, split, first, its, owners_are_hits row places ls ascend within.1 up.1)

pub row_count : (words : List (List ℕ)) (lists : List (List Entry)) (row : ℕ) (ms : List FieldMarks) (spans : List FieldSpan) → AreOwned lists row 0 ms
    → Ascend 0 (all_places 0 ms) → AllByRecursion (λ list. AllIn (all_places 0 ms) (hits_in row list)) lists → AllByRecursion (λ list. Ascend 0 (hits_in row list)) lists
    → sum_by (λ (t : FieldTokens). length t.words) (with_spans 0 (row_words (word_at words lists row) 0 ms) spans) ≤ total (λ (list : List Entry). length (hits_in row list)) lists
row_count words lists row ms spans own ascend within up = omega (arith, field_words words lists row 0 ms spans own, owners_are_hits row (all_places 0 ms) lists ascend within up)

-- ---- hits of all rows

none_later : (m k c n : ℕ) → m < n → total (λ r. cond (eqb m r) k 0) (from_on c n) ≡ 0
none_later m k zero n low = refl
none_later m k (suc c) n low = let first : cond (eqb m n) k 0 ≡ 0 = ap (λ b. cond b k 0) (differ m n (omega (arith, low))) in omega (arith, first, none_later m k c (n + 1) (omega (arith, low)))

at_most_once : (m k c n : ℕ) → total (λ r. cond (eqb m r) k 0) (from_on c n) ≤ k
at_most_once m k zero n = omega arith
at_most_once m k (suc c) n = by (at_most_once m k c (n + 1)) (eqb m n) refl
  where
    by : total (λ r. cond (eqb m r) k 0) (from_on c (n + 1)) ≤ k → (b : Bool) → eqb m n ≡ b → cond b k 0 + total (λ r. cond (eqb m r) k 0) (from_on c (n + 1)) ≤ k
    by later true is = omega (arith, none_later m k c (n + 1) (omega (arith, eqb-true m n is)))
    by later false not = omega (arith, later)

one_or_later : (b : Bool) (hits later : List (ℕ × ℕ)) → length (cond b hits later) ≤ cond b (length hits) 0 + length later
one_or_later true hits later = omega arith
one_or_later false hits later = omega arith

list_total : (c n : ℕ) (es : List Entry) → total (λ row. length (hits_in row es)) (from_on c n) ≤ hit_count es
list_total c n [] = omega (arith, total-none (from_on c n))
list_total c n (e ∷ es) =
    let one_more = total-le (λ row. length (hits_in row (e ∷ es))) (λ row. cond (eqb e.0 row) (length e.1) 0 + length (hits_in row es)) (from_on c n) (λ row. one_or_later (eqb e.0 row) e.1 (hits_in row es)) in
    let split = total-both (λ row. cond (eqb e.0 row) (length e.1) 0) (λ row. length (hits_in row es)) (from_on c n) in
    omega (arith, one_more, split, at_most_once e.0 (length e.1) c n, list_total c n es)

pub lists_total : (c n : ℕ) (lists : List (List Entry))
    → total (λ row. total (λ (list : List Entry). length (hits_in row list)) lists) (from_on c n) ≤ total hit_count lists
lists_total c n [] = omega (arith, total-none (from_on c n))
lists_total c n (l ∷ ls) =
    let split = total-both (λ row. length (hits_in row l)) (λ row. total (λ (list : List Entry). length (hits_in row list)) ls) (from_on c n) in
    omega (arith, split, list_total c n l, lists_total c n ls)

-- ---- each hit has a byte

part_some : (more n : ℕ) → 1 ≤ length (spelled more n)
part_some zero n = omega arith
part_some (suc more) n = by (ltb n 128)
  where
    by : (b : Bool) → 1 ≤ length (cond b (n ∷ []) ((128 + n % 128) ∷ spelled more (n / 128)))
    by true = omega arith
    by false = omega arith

number_some : (n : ℕ) → 1 ≤ length (number n)
unfolding number
number_some n = part_some 4 n

differences_long : (before : ℕ) (hits : List (ℕ × ℕ)) → length hits ≤ length (differences before hits)
differences_long before [] = omega arith
differences_long before (h ∷ hs) = omega (arith, number_some (key h - before), differences_long (key h) hs, length-append (number (key h - before)) (differences (key h) hs))

hits_long : (hits : List (ℕ × ℕ)) → length hits ≤ length (hit_list hits)
unfolding hit_list
hits_long hits = omega (arith, differences_long 0 hits, length-append (number (length hits)) (differences 0 hits))

list_long : (least : ℕ) (es : List Entry) → hit_count es ≤ length (posting_list least es)
list_long least [] = omega arith
list_long least (e ∷ es) = omega (arith, list_long (e.0 + 1) es, hits_long e.1, posting_size least e.0 e.1, length-append (posting least e.0 e.1) (posting_list (e.0 + 1) es))

pub lists_long : (lists : List (List Entry)) → total hit_count lists ≤ length (flat_map (posting_list 0) lists)
lists_long [] = omega arith
lists_long (l ∷ ls) = omega (arith, lists_long ls, list_long 0 l, length-append (posting_list 0 l) (flat_map (posting_list 0) ls))
