-- The tree of all rows, listed, is the index of them.
use Rattle.std.proofs.Common.{◌≡◌, ℕ, ◌+◌, ◌-◌, ◌<◌, ◌≤◌, ◌^◌, suc, zero, List, [], ◌∷◌, ◌++◌, Bool, true, false, cond, Option, Some, None, refl, sym, ap, subst, ◌∙◌, length, take, get_or, map, arith, All, AllPairs, slice_get, append-nil, length-take, ◌==◌, ⊎_elim}
use Rattle.std.specs.List.{filter, enumerate_from, position}
use Rattle.std.specs.Str.{bytes_eq}
use Rattle.std.proofs.Common.{Vec, Global}
use Rattle.std.specs.BTreeMap.{BTreeMap, IsOrdered, btree_map_len, get, keys}
use Rattle.std.specs.Cmp.Lexicographic.{slice_cmp}
use Rattle.std.specs.Ordering.{nat_cmp}
use Rattle.std.proofs.lemmas.List.{take_more}
use Rattle.std.proofs.lemmas.List.Elements.{All-nil, All-cons, filter-append}
use Rattle.std.proofs.lemmas.List.{map-append, length-map}
use Rattle.std.proofs.lemmas.Option.{slice_get_cases, slice_get-map, get_or_from_slice_get, slice_get_within}
use Rattle.std.proofs.lemmas.Bool.Decides.{nat_tests}
use Rattle.std.proofs.lemmas.Cmp.{nat_list_cmp_total}
use Rattle.std.proofs.lemmas.Map.Entries.{btree_map_get_place, place_from_lookup}
use Rattle.std.proofs.lemmas.Map.Text.{is_eq-slice_cmp}
use Rattle.std.proofs.lemmas.Slice.Eq.{bytes_eq-Decides}
use Rattle.std.proofs.lemmas.Iterator.Adapters.{position_from-zero}
use Rattle.std.specs.Option.{option_map_or, option_map}
use Rattle.std.specs.BTreeMap.{is_at}
use Rattle.std.specs.List.{position_from}
use Rattle.std.proofs.lemmas.Map.Keys.{Less-from_sorted}
use Rattle.std.proofs.Math.ListN.{get_or-map}
use Rattle.std.specs.declared.cmp.Ordering.TheVariants.{Less}
use Rattle.doc_types.specs.declared.schema.TheConstants.{MAX_FIELDS}
use Rattle.doc_types.specs.declared.documents.DocRow.{DocRow}
use Rattle.doc_types.specs.declared.plain_index.WordRows.{WordRows}
use Rattle.doc_types.specs.Chunks.{numbers_where, rows_with, has_word}
use Rattle.doc_types.specs.steps.Collecting.{rows_in, some_of, ends_in, with_row}
use Rattle.doc_types.specs.steps.PlainIndex.{IsIndex, IsEntryOf}

abbrev numbers_from : {X : Type 0} → (X → Bool) → ℕ → List X → List ℕ
numbers_from p n xs = map (λ e. e.0) (filter (λ e. p e.1) (enumerate_from n xs))

below : {X : Type 0} (p : X → Bool) (xs : List X) (n m : ℕ) → n + length xs ≤ m → All (λ y. y < m) (numbers_from p n xs)
below p [] n m h = All-nil (λ y. y < m)
below p (x ∷ xs) n m h =
    let rest : All (λ y. y < m) (numbers_from p (n + 1) xs) = below p xs (n + 1) m (omega arith) in
    elim (p x) as (λ b. All (λ y. y < m) (map (λ e. e.0) (cond b ((n, x) ∷ filter (λ e. p e.1) (enumerate_from (n + 1) xs)) (filter (λ e. p e.1) (enumerate_from (n + 1) xs))))) [
      | true ↦ All-cons (λ y. y < m) n (numbers_from p (n + 1) xs) (omega arith) rest
      | false ↦ rest
    ]

no_longer : {X : Type 0} (p : X → Bool) (xs : List X) (n : ℕ) → length (numbers_from p n xs) ≤ length xs
no_longer p [] n = omega arith
no_longer p (x ∷ xs) n =
    let rest : length (numbers_from p (n + 1) xs) ≤ length xs = no_longer p xs (n + 1) in
    elim (p x) as (λ b. length (map (λ e. e.0) (cond b ((n, x) ∷ filter (λ e. p e.1) (enumerate_from (n + 1) xs)) (filter (λ e. p e.1) (enumerate_from (n + 1) xs)))) ≤ suc (length xs)) [
      | true ↦ omega (arith, rest)
      | false ↦ omega (arith, rest)
    ]

-- one element more, with its number
pub enumerated : {X : Type 0} (xs : List X) (x : X) (n m : ℕ) → m ≡ n + length xs → enumerate_from n (xs ++ x ∷ []) ≡ enumerate_from n xs ++ (m, x) ∷ []
enumerated [] x n m e = let k : n ≡ m = omega (arith, e) in ap (λ i. (i, x) ∷ []) k
enumerated (y ∷ xs) x n m e = ap (λ es. (n, y) ∷ es) (enumerated xs x (n + 1) m (omega (arith, e)))

apart : (y i : ℕ) → y < i → (y == i) ≡ false
apart y i l = grind (arith, nat_tests)

by_end : (xs : List ℕ) (i : ℕ) → All (λ y. y < i) xs → (o : Option ℕ) → slice_get xs (length xs - 1) ≡ o → option_map_or (λ last. last == i) o false ≡ false
by_end xs i small None e = refl
by_end xs i small (Some y) e = apart y i (subst (λ z. z < i) (get_or_from_slice_get xs (length xs - 1) y y e) (small (length xs - 1) y (slice_get_within xs (length xs - 1) y e)))

not_at_end : (xs : List ℕ) (i : ℕ) → All (λ y. y < i) xs → ends_in i xs ≡ false
not_at_end xs i small = by_end xs i small (slice_get xs (length xs - 1)) refl

ended : (xs : List ℕ) (i : ℕ) → All (λ y. y < i) xs → some_of (xs ++ i ∷ []) ≡ with_row i true (some_of xs)
ended [] i small = refl
ended (x ∷ xs) i small = rw (not_at_end (x ∷ xs) i small) refl

one_number : {X : Type 0} (p : X → Bool) (x : X) (i : ℕ) (b : Bool) → p x ≡ b → (before : List ℕ) → All (λ y. y < i) before → some_of (before ++ map (λ (e : ℕ × X). e.0) (filter (λ (e : ℕ × X). p e.1) ((i, x) ∷ []))) ≡ with_row i b (some_of before)
one_number p x i true e before small = rw e (ended before i small)
one_number p x i false e before small = rw e (ap some_of (append-nil before))

-- the numbers of one element more
pub one_row : {X : Type 0} (p : X → Bool) (xs : List X) (i : ℕ) (x : X) → i < length xs → x ≡ get_or xs i x → some_of (numbers_where p (take (i + 1) xs)) ≡ with_row i (p x) (some_of (numbers_where p (take i xs)))
one_row {X = X} p xs i x h e =
    let long : length (take i xs) ≡ i = omega (arith, length-take i xs) in
    let split : take (i + 1) xs ≡ take i xs ++ x ∷ [] = take_more xs i x h ∙ ap (λ y. take i xs ++ y ∷ []) (sym e) in
    let numbered : enumerate_from 0 (take (i + 1) xs) ≡ enumerate_from 0 (take i xs) ++ (i, x) ∷ [] = ap (enumerate_from 0) split ∙ enumerated (take i xs) x 0 i (omega (arith, long)) in
    let all : numbers_where p (take (i + 1) xs) ≡ numbers_where p (take i xs) ++ map (λ (e : ℕ × X). e.0) (filter (λ (e : ℕ × X). p e.1) ((i, x) ∷ [])) =
    ap (λ es. map (λ e. e.0) (filter (λ e. p e.1) es)) numbered
    ∙ ap (map (λ e. e.0)) (filter-append (λ e. p e.1) (enumerate_from 0 (take i xs)) ((i, x) ∷ []))
    ∙ map-append (λ e. e.0) (filter (λ e. p e.1) (enumerate_from 0 (take i xs))) (filter (λ e. p e.1) ((i, x) ∷ [])) in
    ap some_of all ∙ one_number p x i (p x) refl (numbers_where p (take i xs)) (below p (take i xs) 0 i (omega (arith, long)))

some_is : (xs ys : List ℕ) → some_of xs ≡ Some ys → (ys ≡ xs) × (0 < length ys)
some_is [] ys e = cc
some_is (x ∷ xs) ys e = let same : x ∷ xs ≡ ys = cc in (sym same, subst (λ zs. 0 < length zs) same (omega arith))

none_is : (xs : List ℕ) → some_of xs ≡ None → xs ≡ []
none_is [] e = refl
none_is (x ∷ xs) e = cc

passes : {X : Type 0} (p : X → Bool) (xs : List X) (j : ℕ) (x : X) (i : ℕ) → slice_get xs j ≡ Some x → p x ≡ true → position_from p i xs ≡ None → ⊥
passes p [] j x i at hit missed = cc
passes p (y ∷ ys) zero x i at hit missed =
    let same : y ≡ x = cc in
    let here : position_from p i (y ∷ ys) ≡ Some i = rw (ap p same ∙ hit) refl in
    cc
passes p (y ∷ ys) (suc j) x i at hit missed =
    elim (p y) as (λ b. cond b (Some i) (position_from p (i + 1) ys) ≡ None → ⊥) [
      | true ↦ λ m. cc
      | false ↦ λ m. passes p ys j x (i + 1) at hit m
    ] missed

abbrev entry_of : List ℕ × Vec ℕ Global → WordRows
entry_of e = record { word = e.0; rows = e.1.items }

module _ (rows : List DocRow) (m : BTreeMap (List ℕ) (Vec ℕ Global)) (up : IsOrdered (slice_cmp nat_cmp) m) (few : length rows < 2 ^ 32) (has : (w : List ℕ) → rows_in m w ≡ some_of (rows_with w rows)) where
  abbrev index : List WordRows
  index = map entry_of m.entries

  entry : (k : ℕ) (x : List ℕ × Vec ℕ Global) → slice_get m.entries k ≡ Some x → IsEntryOf rows (entry_of x)
  entry k x at =
      let found : get (slice_cmp nat_cmp) m x.0 ≡ Some x.1 = btree_map_get_place nat_list_cmp_total m k x.0 x.1 up at in
      let its = some_is (rows_with x.0 rows) x.1.items (sym (has x.0) ∙ ap (option_map (λ (v : Vec ℕ Global). v.items)) found) in
      record {
        is = its.0;
        some = its.1;
        few = subst (λ xs. length xs < 2 ^ 32) (sym its.0) (omega (arith, no_longer (has_word x.0) rows 0, few));
        within = subst (λ xs. All (λ row. row < length rows) xs) (sym its.0) (below (has_word x.0) rows 0 (length rows) (omega arith));
      }

  each : All (IsEntryOf rows) index
  each k d h =
      ⊎_elim
      (λ there.
      let got : get_or index k d ≡ entry_of there.0 = get_or_from_slice_get index k (entry_of there.0) d (slice_get-map entry_of m.entries k ∙ ap (option_map entry_of) there.2) in
      subst (IsEntryOf rows) (sym got) (entry k there.0 there.2))
      (λ past. absurd (omega (arith, past.0, length-map m.entries entry_of, h)))
      (slice_get_cases m.entries k).1

  others : (word : List ℕ) → (o : Option (Vec ℕ Global)) → get (slice_cmp nat_cmp) m word ≡ o → position (λ entry. bytes_eq entry.word word) index ≡ None → rows_with word rows ≡ []
  others word None e missed = none_is (rows_with word rows) (sym (has word) ∙ ap (option_map (λ (v : Vec ℕ Global). v.items)) e)
  others word (Some v) e missed =
      let place = place_from_lookup (is_at (slice_cmp nat_cmp word)) m.entries v e in
      let hit : bytes_eq place.1 word ≡ true = (bytes_eq-Decides place.1 word).1 (sym ((bytes_eq-Decides word place.1).0 (sym (is_eq-slice_cmp word place.1) ∙ place.3))) in
      absurd
      (passes (λ (entry : WordRows). bytes_eq entry.word word) index place.0 (entry_of (place.1, v)) 0
      (slice_get-map entry_of m.entries place.0 ∙ ap (option_map entry_of) place.2) hit
      (sym (position_from-zero (λ (entry : WordRows). bytes_eq entry.word word) index) ∙ missed))

  words_are : (es : List (List ℕ × Vec ℕ Global)) → map (λ entry. entry.word) (map entry_of es) ≡ map (λ e. e.0) es
  words_are [] = refl
  words_are (e ∷ es) = ap (λ words. e.0 ∷ words) (words_are es)

  key_at : (k : ℕ) (d : WordRows) → get_or (keys m) k d.word ≡ (get_or index k d).word
  key_at k d = ap (λ words. get_or words k d.word) (sym (words_are m.entries)) ∙ get_or-map (λ (entry : WordRows). entry.word) index k d

  ascend : AllPairs (λ entry later. slice_cmp nat_cmp entry.word later.word ≡ Less) index
  ascend i j d l h =
      let long : length (keys m) ≡ length index = ap length (sym (words_are m.entries)) ∙ length-map index (λ (entry : WordRows). entry.word) in
      let less : slice_cmp nat_cmp (get_or (keys m) i d.word) (get_or (keys m) j d.word) ≡ Less = Less-from_sorted (slice_cmp nat_cmp) (keys m) i j d.word up l (omega (arith, long, h)) in
      rw (← key_at i d, ← key_at j d) less

  pub indexed : AllPairs (λ row later. row.doc.id < later.doc.id) rows → All (λ row. length row.doc.fields ≤ MAX_FIELDS) rows → btree_map_len m < 2 ^ 32 → IsIndex rows index
  indexed ids fields small = record {
    ids = ids;
    few_rows = few;
    few_words = omega (arith, length-map m.entries entry_of, small);
    few_fields = fields;
    ascend = ascend;
    each = each;
    others = λ word. others word (get (slice_cmp nat_cmp) m word) refl;
  }
