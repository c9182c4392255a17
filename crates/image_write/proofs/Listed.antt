-- Sorted occurrences by their words are all words of the rows, ascending, each with its places.
use Rattle.std.proofs.Common.{◌≡◌, ℕ, ◌+◌, ◌<◌, ◌≤◌, ◌^◌, suc, List, [], ◌∷◌, Bool, true, false, cond, Some, None, refl, sym, ap, subst, ◌∙◌, length, get_or, map, arith, All, AllPairs}
use Rattle.std.specs.List.{filter, enumerate_from, position, position_from}
use Rattle.std.specs.List.Sorted.{IsSortedBy}
use Rattle.std.specs.Str.{bytes_eq}
use Rattle.std.specs.Cmp.Lexicographic.{slice_cmp}
use Rattle.std.specs.Ordering.{is_lt, nat_cmp, ordering_reverse}
use Rattle.std.specs.declared.cmp.Ordering.{Ordering}
use Rattle.std.specs.declared.cmp.Ordering.TheVariants.{Less, Equal, Greater}
use Rattle.std.proofs.lemmas.Cmp.{nat_list_cmp_total, tied_itself}
use Rattle.std.proofs.lemmas.List.Elements.{All-nil, All-cons, All-head, All-tail}
use Rattle.std.proofs.lemmas.List.Kept.{AllPairs-cons}
use Rattle.std.proofs.lemmas.Iterator.Adapters.{position_from-zero}
use Rattle.std.proofs.lemmas.Map.Text.{is_eq-slice_cmp}
use Rattle.std.proofs.lemmas.Slice.Eq.{bytes_eq-Decides}
use Rattle.doc_types.specs.declared.documents.Doc.{Doc}
use Rattle.doc_types.specs.declared.documents.DocRow.{DocRow}
use Rattle.doc_types.specs.Chunks.{has_word, hits_of, rows_with}
use Rattle.chunk_image.specs.AlikeRows.{postings}
use Rattle.chunk_image.proofs.RowsPosted.{HasFields}
use Rattle.chunk_image.proofs.WordsTold.{many}
use Rattle.image_write.specs.declared.gathering.Occurrence.{Occurrence}
use Rattle.image_write.specs.Written.{row_of}
use Rattle.image_write.specs.steps.Gathering.{Place, Entry, WordPlaces, AreGathered, ArePostable, IsGathered, grouped, places_of}
use Rattle.image_write.specs.steps.Places.{AreInOrder, by_word, is_at, place_at, with_place, word_at}
use Rattle.image_write.proofs.ByWord.{apart, same}
use Rattle.image_write.proofs.Grouped.{grouped_places, postable}

-- the words of one order
abbrev before : List ℕ → List ℕ → Type 0
before v w = slice_cmp nat_cmp v w ≡ Less

less_apart : (v w : List ℕ) → before v w → bytes_eq v w ≡ false
less_apart v w less = apart v w (λ e. clash (sym (ap (slice_cmp nat_cmp v) e ∙ refl) ∙ tied_itself nat_list_cmp_total v) less)
  where
    clash : {o : Ordering} → o ≡ Equal → o ≡ Less → ⊥
    clash e l = cc

turned_apart : (v w : List ℕ) → bytes_eq v w ≡ false → bytes_eq w v ≡ false
turned_apart v w e = apart w v (λ f. clash (same v w (sym f)) e)
  where
    clash : {b : Bool} → b ≡ true → b ≡ false → ⊥
    clash t f = cc

-- a word that isn't after another one, and isn't that, is before it
then_before : (v w : List ℕ) → is_lt (slice_cmp nat_cmp w v) ≡ false → bytes_eq v w ≡ false → before v w
then_before v w late ne = by_cases (slice_cmp nat_cmp v w) refl
  where
    by_cases : (o : Ordering) → slice_cmp nat_cmp v w ≡ o → before v w
    by_cases Less e = e
    by_cases Equal e =
        let eq : bytes_eq v w ≡ true = sym (is_eq-slice_cmp v w) ∙ ap Rattle.std.specs.Ordering.is_eq e in
        absurd cc
    by_cases Greater e =
        let turned : slice_cmp nat_cmp w v ≡ Less = nat_list_cmp_total.antisymm w v ∙ ap ordering_reverse e in
        let lt : is_lt (slice_cmp nat_cmp w v) ≡ true = ap is_lt turned in
        absurd cc

module _ (docs : List Doc) where
  -- what the entries are of these occurrences
  abbrev IsAll : List Occurrence → WordPlaces → Type 0
  IsAll os entry = (entry.places ≡ map place_at (filter (is_at docs entry.word) os)) × (1 ≤ length entry.places)

  record AreAll (os : List Occurrence) (entries : List WordPlaces) : Type 0 where
    pub ascend : AllPairs (λ entry later. before entry.word later.word) entries
    pub each : All (IsAll os) entries
    pub missed : (w : List ℕ) → All (λ entry. bytes_eq entry.word w ≡ false) entries → filter (is_at docs w) os ≡ []

  passed : (o : Occurrence) (os : List Occurrence) (w : List ℕ) → bytes_eq (word_at docs o) w ≡ false → filter (is_at docs w) (o ∷ os) ≡ filter (is_at docs w) os
  passed o os w e = ap (λ b. cond b (o ∷ filter (is_at docs w) os) (filter (is_at docs w) os)) e

  found : (o : Occurrence) (os : List Occurrence) → filter (is_at docs (word_at docs o)) (o ∷ os) ≡ o ∷ filter (is_at docs (word_at docs o)) os
  found o os = ap (λ b. cond b (o ∷ filter (is_at docs (word_at docs o)) os) (filter (is_at docs (word_at docs o)) os)) (same (word_at docs o) (word_at docs o) refl)

  later : (o : Occurrence) (os : List Occurrence) (es : List WordPlaces) → All (λ entry. before (word_at docs o) entry.word) es → All (IsAll os) es → All (IsAll (o ∷ os)) es
  later o os es less each k d h =
      let its = each k d h in
      (its.0 ∙ ap (map place_at) (sym (passed o os _ (less_apart (word_at docs o) _ (less k d h)))), its.1)

  apart_from : (w : List ℕ) (es : List WordPlaces) → All (λ entry. before w entry.word) es → All (λ entry. bytes_eq entry.word w ≡ false) es
  apart_from w es less k d h = turned_apart w _ (less_apart w _ (less k d h))

  -- the first word of entries
  abbrev Begins : List ℕ → List WordPlaces → Type 0
  Begins word [] = ⊥
  Begins word (e ∷ es) = e.word ≡ word

  begins : (word : List ℕ) (p : Place) (es : List WordPlaces) → Begins word (with_place word p es)
  begins word p [] = refl
  begins word p (e ∷ es) =
      elim (bytes_eq word e.word) as (λ b. Begins word (cond b (record { word = word; places = p ∷ e.places } ∷ es) (record { word = word; places = p ∷ [] } ∷ e ∷ es))) [
        | true ↦ refl
        | false ↦ refl
      ]

  one_more : (o : Occurrence) (os : List Occurrence) (es : List WordPlaces) → (e : WordPlaces) → is_lt (slice_cmp nat_cmp e.word (word_at docs o)) ≡ false → AreAll os (e ∷ es) → AreAll (o ∷ os) (with_place (word_at docs o) (place_at o) (e ∷ es))
  one_more o os es e late are =
      let w = word_at docs o in
      let p = place_at o in
      elim (bytes_eq w e.word) as (λ b. bytes_eq w e.word ≡ b → AreAll (o ∷ os) (cond b (record { word = w; places = p ∷ e.places } ∷ es) (record { word = w; places = p ∷ [] } ∷ e ∷ es))) [
        | true ↦ λ eq.
            let one : w ≡ e.word = (bytes_eq-Decides w e.word).0 eq in
            let behind : All (λ entry. before w entry.word) es = subst (λ v. All (λ entry. before v entry.word) es) (sym one) (first_before e es are.ascend) in
            let own = All-head (IsAll os) e es are.each in
            record {
              ascend = AllPairs-cons (λ entry later. before entry.word later.word) (record { word = w; places = p ∷ e.places }) es behind (pairs_tail e es are.ascend);
              each = All-cons (IsAll (o ∷ os)) (record { word = w; places = p ∷ e.places }) es
                  (ap (λ l. p ∷ l) (own.0 ∙ ap (λ v. map place_at (filter (is_at docs v) os)) (sym one)) ∙ ap (map place_at) (sym (found o os)), omega arith)
                  (later o os es behind (All-tail (IsAll os) e es are.each));
              missed = λ v none.
                  let not_own : bytes_eq w v ≡ false = All-head (λ entry. bytes_eq entry.word v ≡ false) (record { word = w; places = p ∷ e.places }) es none in
                  passed o os v not_own ∙ are.missed v (All-cons (λ entry. bytes_eq entry.word v ≡ false) e es (subst (λ u. bytes_eq u v ≡ false) one not_own) (All-tail (λ entry. bytes_eq entry.word v ≡ false) (record { word = w; places = p ∷ e.places }) es none));
            }
        | false ↦ λ ne.
            let less : before w e.word = then_before w e.word late ne in
            let behind : All (λ entry. before w entry.word) (e ∷ es) = All-cons (λ entry. before w entry.word) e es less (λ k d h. nat_list_cmp_total.trans w e.word _ less (first_before e es are.ascend k d h)) in
            record {
              ascend = AllPairs-cons (λ entry later. before entry.word later.word) (record { word = w; places = p ∷ [] }) (e ∷ es) behind are.ascend;
              each = All-cons (IsAll (o ∷ os)) (record { word = w; places = p ∷ [] }) (e ∷ es)
                  (ap (λ l. p ∷ map place_at l) (sym (are.missed w (apart_from w (e ∷ es) behind))) ∙ ap (map place_at) (sym (found o os)), omega arith)
                  (later o os (e ∷ es) behind are.each);
              missed = λ v none.
                  let not_own : bytes_eq w v ≡ false = All-head (λ entry. bytes_eq entry.word v ≡ false) (record { word = w; places = p ∷ [] }) (e ∷ es) none in
                  passed o os v not_own ∙ are.missed v (All-tail (λ entry. bytes_eq entry.word v ≡ false) (record { word = w; places = p ∷ [] }) (e ∷ es) none);
            }
      ] refl
    where
      first_before : (e : WordPlaces) (es : List WordPlaces) → AllPairs (λ entry later. before entry.word later.word) (e ∷ es) → All (λ entry. before e.word entry.word) es
      first_before e es up k d h = up 0 (suc k) d (omega arith) (omega (arith, h))

      pairs_tail : (e : WordPlaces) (es : List WordPlaces) → AllPairs (λ entry later. before entry.word later.word) (e ∷ es) → AllPairs (λ entry later. before entry.word later.word) es
      pairs_tail e es up i j d low high = up (suc i) (suc j) d (omega (arith, low)) (omega (arith, high))

  abbrev AreSorted : List Occurrence → Type 0
  AreSorted = IsSortedBy (λ a b. is_lt (slice_cmp nat_cmp (word_at docs a) (word_at docs b)))

  sorted_tail : (o : Occurrence) (os : List Occurrence) → AreSorted (o ∷ os) → AreSorted os
  sorted_tail o os up k d low high =
      subst (λ n. is_lt (slice_cmp nat_cmp (word_at docs (get_or (o ∷ os) n d)) (word_at docs (get_or os k d))) ≡ false) (next k) (up (suc k) d (omega arith) (omega (arith, high)))
    where
      next : (k : ℕ) → suc k + 1 ≡ suc (k + 1)
      next k = omega arith

  are_all : (os : List Occurrence) → AreSorted os → AreAll os (by_word docs os)
  are_all [] up = record { ascend = λ i j d l h. absurd (omega (arith, h)); each = λ k d h. absurd (omega (arith, h)); missed = λ w none. refl }
  are_all (o ∷ []) up = record {
    ascend = λ i j d l h. absurd (omega (arith, l, h));
    each = All-cons (IsAll (o ∷ [])) (record { word = word_at docs o; places = place_at o ∷ [] }) [] (ap (map place_at) (sym (found o [])), omega arith) (All-nil (IsAll (o ∷ [])));
    missed = λ w none. passed o [] w (All-head (λ entry. bytes_eq entry.word w ≡ false) (record { word = word_at docs o; places = place_at o ∷ [] }) [] none);
  }
  are_all (o ∷ p ∷ os) up =
      next (by_word docs (p ∷ os)) (begins (word_at docs p) (place_at p) (by_word docs os)) (are_all (p ∷ os) (sorted_tail o (p ∷ os) up))
    where
      next : (es : List WordPlaces) → Begins (word_at docs p) es → AreAll (p ∷ os) es → AreAll (o ∷ p ∷ os) (with_place (word_at docs o) (place_at o) es)
      next [] first are = absurd first
      next (e ∷ es) first are =
          one_more o (p ∷ os) es e (subst (λ v. is_lt (slice_cmp nat_cmp v (word_at docs o)) ≡ false) (sym first) (up 0 o (omega arith) (omega arith))) are

  -- rows of these documents have the same postings, whatever commits put them
  same_postings : (w : List ℕ) (n : ℕ) (rows : List DocRow) → postings w n (map (λ doc. row_of doc 0) (map (λ (row : DocRow). row.doc) rows)) ≡ postings w n rows
  same_postings w n [] = refl
  same_postings w n (r ∷ rs) =
      let entry : ℕ × DocRow → Entry = λ e. (e.0, hits_of w e.1) in
      let has : ℕ × DocRow → Bool = λ e. has_word w e.1 in
      let plain = map (λ doc. row_of doc 0) (map (λ (row : DocRow). row.doc) rs) in
      elim (has_word w r) as (λ b. map entry (cond b ((n, row_of r.doc 0) ∷ filter has (enumerate_from (n + 1) plain)) (filter has (enumerate_from (n + 1) plain))) ≡ map entry (cond b ((n, r) ∷ filter has (enumerate_from (n + 1) rs)) (filter has (enumerate_from (n + 1) rs)))) [
        | true ↦ ap (λ l. (n, hits_of w r) ∷ l) (same_postings w (n + 1) rs)
        | false ↦ same_postings w (n + 1) rs
      ]

  -- entries have places
  no_entry : (least : ℕ) (es : List Entry) → ArePostable least es → places_of es ≡ [] → es ≡ []
  no_entry least [] fits e = refl
  no_entry least ((n, []) ∷ es) fits e = absurd (omega (arith, fits.0.are.some))
  no_entry least ((n, h ∷ hs) ∷ es) fits e = cc

  some_entry : (es : List Entry) → 0 < length (places_of es) → 0 < length es
  some_entry [] some = some
  some_entry (e ∷ es) some = omega arith

  empty : {X : Type 0} (xs : List X) → length xs ≤ 0 → xs ≡ []
  empty [] few = refl
  empty (x ∷ xs) few = absurd (omega (arith, few))

  none_is : {X : Type 0} (p : X → Bool) (i : ℕ) (xs : List X) → position_from p i xs ≡ None → All (λ x. p x ≡ false) xs
  none_is p i [] e = λ k d h. absurd (omega (arith, h))
  none_is p i (x ∷ xs) e =
      elim (p x) as (λ b. p x ≡ b → cond b (Some i) (position_from p (i + 1) xs) ≡ None → All (λ y. p y ≡ false) (x ∷ xs)) [
        | true ↦ λ _ h. absurd cc
        | false ↦ λ here h. All-cons (λ y. p y ≡ false) x xs here (none_is p (i + 1) xs h)
      ] refl e

  pub gathered : (rows : List DocRow) (places : List Occurrence) → map (λ (row : DocRow). row.doc) rows ≡ docs → AreInOrder docs places → length rows < 2 ^ 32 → All HasFields rows → AreGathered rows (by_word docs places)
  gathered rows places of order few fields = record {
    ascend = all.ascend;
    each = λ k d h. entry _ (all.each k d h);
    others = λ word none.
        let missed : filter (is_at docs word) places ≡ [] = all.missed word (none_is (λ entry. bytes_eq entry.word word) 0 (by_word docs places) (sym (position_from-zero (λ (entry : WordPlaces). bytes_eq entry.word word) (by_word docs places)) ∙ none)) in
        let posted : postings word 0 rows ≡ [] = no_entry 0 (postings word 0 rows) (fits word) (sym (each word) ∙ ap (map place_at) missed) in
        empty (rows_with word rows) (omega (arith, many word rows, ap length posted));
  }
    where
      all : AreAll places (by_word docs places)
      all = are_all places order.ascend

      fits : (w : List ℕ) → ArePostable 0 (postings w 0 rows)
      fits w = postable w 0 rows (omega (arith, few)) fields

      each : (w : List ℕ) → map place_at (filter (is_at docs w) places) ≡ places_of (postings w 0 rows)
      each w = order.each w ∙ ap (λ ds. places_of (postings w 0 (map (λ doc. row_of doc 0) ds))) (sym of) ∙ ap places_of (same_postings w 0 rows)

      entry : (e : WordPlaces) → IsAll places e → IsGathered rows e
      entry e its =
          let placed : e.places ≡ places_of (postings e.word 0 rows) = its.0 ∙ each e.word in
          let is : grouped e.places ≡ postings e.word 0 rows = ap grouped placed ∙ grouped_places 0 (postings e.word 0 rows) (fits e.word) in
          record {
            is = is;
            some = omega (arith, some_entry (postings e.word 0 rows) (omega (arith, its.1, ap length placed)), many e.word rows);
            fits = subst (ArePostable 0) (sym is) (fits e.word);
          }
