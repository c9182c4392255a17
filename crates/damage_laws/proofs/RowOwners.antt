-- Rows are covered by the posting lists of their words.
use Rattle.std.proofs.Common.{◌≡◌, ℕ, zero, ◌+◌, ◌*◌, ◌<◌, ◌≤◌, Bool, true, false, cond, eqb, eq-eqb, ◌||◌, List, [], ◌∷◌, ◌++◌, map, length, drop, get_or, refl, sym, ap, subst, ◌∙◌, arith, All, length-drop}
use Rattle.std.specs.List.{AllByRecursion, enumerate_from, filter, list_any}
use Rattle.std.specs.Str.{bytes_eq}
use Rattle.std.proofs.lemmas.Bool.{eqb-true}
use Rattle.std.proofs.lemmas.List.{drop_more, get_or_default}
use Rattle.std.proofs.lemmas.Slice.Eq.{bytes_eq-Decides}
use Rattle.doc_types.specs.declared.documents.DocRow.{DocRow}
use Rattle.doc_types.specs.declared.tokens.FieldTokens.{FieldTokens}
use Rattle.doc_types.specs.declared.tokens.Gap.{Gap}
use Rattle.doc_types.specs.declared.tokens.Gap.TheVariants as kinds
use Rattle.doc_types.specs.declared.tokens.TheConstants.{MAX_POSITION}
use Rattle.doc_types.specs.declared.tokens.TokenWord.{TokenWord}
use Rattle.doc_types.specs.Documents.{Follow, IsField, step}
use Rattle.doc_types.specs.Chunks.{AreWordsOf, gaps_of, has_word, hits_of, is_word, last_position, positions_of, spans_of}
use Rattle.doc_types.proofs.FieldParts.{parts}
use Rattle.doc_types.proofs.Numbers.{All-tail}
use Rattle.chunk_image.specs.AlikeRows.{postings}
use Rattle.posting_codec.specs.HitLists.{key}
use Rattle.chunk_image.proofs.WordsTold.{many}
use Rattle.chunk_damage.specs.RowMarks.{FieldMarks, RowMarks, empty_field}
use Rattle.chunk_damage.specs.WordLists.{Entry}
use Rattle.chunk_damage.specs.Cover.{AllCovered, AreBetween, AreCovered, IsCovered, IsFieldCovered, LiesIn, has_key, hits_in, owners}
use Rattle.damage_laws.proofs.FieldOwners.{between, differ, last_above, last_of, last_position-last_of, last_short, one, one_owner, or_false, stands_at}
use Rattle.damage_laws.proofs.WordOwners.{is_among, once, owned, places, tally, tally_same}

-- the marks of a field and of a row
abbrev pub marks_of : FieldTokens → FieldMarks
marks_of field = record { last = last_position field; gaps = gaps_of field }

abbrev pub row_marks_of : DocRow → RowMarks
row_marks_of row = record { fields = map marks_of row.doc.fields; spans = spans_of row }

-- the posting lists of some words
abbrev pub lists_of : List DocRow → List (List ℕ) → List (List Entry)
lists_of rows words = map (λ word. postings word 0 rows) words

-- ---- the hits of a row in the list of a word

no_places : (word : List ℕ) (ts : List TokenWord) → list_any (is_word word) ts ≡ false → places word ts ≡ []
no_places word [] e = refl
no_places word (t ∷ ts) e =
    elim (is_word word t) as (λ b. (b || list_any (is_word word) ts) ≡ false → map (λ (t : TokenWord). t.position) (cond b (t ∷ filter (is_word word) ts) (filter (is_word word) ts)) ≡ []) [
      | true ↦ λ no. absurd cc
      | false ↦ λ no. no_places word ts no
    ] e

neither : (b c : Bool) → (b || c) ≡ false → (b ≡ false) × (c ≡ false)
neither true c e = absurd cc
neither false c e = (refl, e)

no_parts : (word : List ℕ) (n : ℕ) (fields : List FieldTokens) → list_any (λ field. list_any (is_word word) field.words) fields ≡ false → parts n (positions_of word) fields ≡ []
no_parts word n [] e = refl
no_parts word n (f ∷ fs) e =
    let both = neither (list_any (is_word word) f.words) (list_any (λ field. list_any (is_word word) field.words) fs) e in
    let rest : parts (n + 1) (positions_of word) fs ≡ [] = no_parts word (n + 1) fs both.1 in
    rw (no_places word f.words both.0) rest

no_hits : (word : List ℕ) (row : DocRow) → has_word word row ≡ false → hits_of word row ≡ []
no_hits word row e = no_parts word 0 row.doc.fields e

-- the entries of some rows, the first of which has this number, where it has the word or not
abbrev pub listed : List ℕ → ℕ → DocRow → List DocRow → Bool → List Entry
listed word n r rs b = map (λ (e : ℕ × DocRow). (e.0, hits_of word e.1)) (cond b ((n, r) ∷ filter (λ e. has_word word e.1) (enumerate_from (n + 1) rs)) (filter (λ e. has_word word e.1) (enumerate_from (n + 1) rs)))

none_before : (word : List ℕ) (n m : ℕ) (rows : List DocRow) → n < m → hits_in n (postings word m rows) ≡ []
none_before word n m [] low = refl
none_before word n m (r ∷ rs) low =
    let rest = none_before word n (m + 1) rs (omega (arith, low)) in
    elim (has_word word r) as (λ b. hits_in n (listed word m r rs b) ≡ []) [
      | true ↦ ap (λ b. cond b (hits_of word r) (hits_in n (postings word (m + 1) rs))) (differ m n (omega (arith, low))) ∙ rest
      | false ↦ rest
    ]

-- each row has its hits in the list
abbrev HaveHits : List ℕ → List Entry → ℕ → List DocRow → Type 0
HaveHits word list n [] = Unit {0}
HaveHits word list n (row ∷ rows) = (hits_in n list ≡ hits_of word row) × HaveHits word list (n + 1) rows

behind_entry : (word : List ℕ) (entry : Entry) (list : List Entry) (n : ℕ) (rows : List DocRow) → entry.0 < n → HaveHits word list n rows → HaveHits word (entry ∷ list) n rows
behind_entry word entry list n [] low have = tt
behind_entry word entry list n (r ∷ rs) low have =
    (ap (λ b. cond b entry.1 (hits_in n list)) (differ entry.0 n (omega (arith, low))) ∙ have.0, behind_entry word entry list (n + 1) rs (omega (arith, low)) have.1)

have_hits : (word : List ℕ) (n : ℕ) (rows : List DocRow) → HaveHits word (postings word n rows) n rows
have_hits word n [] = tt
have_hits word n (r ∷ rs) =
    let rest = have_hits word (n + 1) rs in
    elim (has_word word r) as (λ b. has_word word r ≡ b → HaveHits word (listed word n r rs b) n (r ∷ rs)) [
      | true ↦ λ has. (ap (λ b. cond b (hits_of word r) (hits_in n (postings word (n + 1) rs))) (eq-eqb n n refl), behind_entry word (n, hits_of word r) (postings word (n + 1) rs) (n + 1) rs (omega arith) rest)
      | false ↦ λ no. (none_before word n (n + 1) rs (omega arith) ∙ sym (no_hits word r no), rest)
    ] refl

-- ---- the hits of a field in those of a row

same_test : (n x p : ℕ) → eqb (n * 65536 + x) (n * 65536 + p) ≡ eqb x p
same_test n x p = elim (eqb x p) as (λ b. eqb x p ≡ b → eqb (n * 65536 + x) (n * 65536 + p) ≡ b) [
  | true ↦ λ is. eq-eqb (n * 65536 + x) (n * 65536 + p) (omega (arith, eqb-true x p is))
  | false ↦ λ is. differ (n * 65536 + x) (n * 65536 + p) (λ same. let t : eqb x p ≡ true = eq-eqb x p (omega (arith, same)) in absurd cc)
] refl

own_key : (n p : ℕ) (xs : List ℕ) (rest : List (ℕ × ℕ)) → has_key rest (key (n, p)) ≡ false → has_key (map (λ x. (n, x)) xs ++ rest) (key (n, p)) ≡ is_among xs p
own_key n p [] rest free = free
own_key n p (x ∷ xs) rest free = ap (λ b. b || has_key (map (λ x. (n, x)) xs ++ rest) (key (n, p))) (same_test n x p) ∙ ap (λ b. eqb x p || b) (own_key n p xs rest free)

later_key : (n m p : ℕ) (xs : List ℕ) (rest : List (ℕ × ℕ)) → n < m → AllByRecursion (λ x. x < 65536) xs → has_key (map (λ x. (n, x)) xs ++ rest) (key (m, p)) ≡ has_key rest (key (m, p))
later_key n m p [] rest low small = refl
later_key n m p (x ∷ xs) rest low small =
    or_false (eqb (n * 65536 + x) (m * 65536 + p)) (has_key (map (λ x. (n, x)) xs ++ rest) (key (m, p))) (differ (n * 65536 + x) (m * 65536 + p) (omega (arith, low, small.0))) ∙ later_key n m p xs rest low small.1

earlier_key : (n m p : ℕ) (xs : List ℕ) (rest : List (ℕ × ℕ)) → n < m → p < 65536 → has_key rest (key (n, p)) ≡ false → has_key (map (λ x. (m, x)) xs ++ rest) (key (n, p)) ≡ false
earlier_key n m p [] rest low small free = free
earlier_key n m p (x ∷ xs) rest low small free =
    or_false (eqb (m * 65536 + x) (n * 65536 + p)) (has_key (map (λ x. (m, x)) xs ++ rest) (key (n, p))) (differ (m * 65536 + x) (n * 65536 + p) (omega (arith, low, small))) ∙ earlier_key n m p xs rest low small free

no_key : (word : List ℕ) (n m p : ℕ) (fields : List FieldTokens) → n < m → p < 65536 → has_key (parts m (positions_of word) fields) (key (n, p)) ≡ false
no_key word n m p [] low small = refl
no_key word n m p (f ∷ fs) low small = earlier_key n m p (positions_of word f) (parts (m + 1) (positions_of word) fs) low small (no_key word n (m + 1) p fs (omega (arith, low)) small)

small_places : (word : List ℕ) (words : List TokenWord) → All (λ (t : TokenWord). t.position ≤ MAX_POSITION) words → AllByRecursion (λ x. x < 65536) (places word words)
small_places word [] all = tt
small_places word (t ∷ ts) all =
    let rest = small_places word ts (All-tail (λ (t : TokenWord). t.position ≤ MAX_POSITION) t ts all) in
    let own : t.position ≤ MAX_POSITION = all zero t (omega arith) in
    elim (is_word word t) as (λ b. AllByRecursion (λ x. x < 65536) (map (λ (t : TokenWord). t.position) (cond b (t ∷ filter (is_word word) ts) (filter (is_word word) ts)))) [
      | true ↦ (omega (arith, own), rest)
      | false ↦ rest
    ]

-- each field has its positions among the hits
abbrev HaveKeys : List ℕ → List (ℕ × ℕ) → ℕ → List FieldTokens → Type 0
HaveKeys word hits n [] = Unit {0}
HaveKeys word hits n (f ∷ fs) = ((p : ℕ) → p < 65536 → has_key hits (key (n, p)) ≡ is_among (positions_of word f) p) × HaveKeys word hits (n + 1) fs

behind_field : (word : List ℕ) (n m : ℕ) (xs : List ℕ) (hits : List (ℕ × ℕ)) (fields : List FieldTokens) → n < m → AllByRecursion (λ x. x < 65536) xs → HaveKeys word hits m fields → HaveKeys word (map (λ x. (n, x)) xs ++ hits) m fields
behind_field word n m xs hits [] low small have = tt
behind_field word n m xs hits (f ∷ fs) low small have = (λ p fits. later_key n m p xs hits low small ∙ have.0 p fits, behind_field word n (m + 1) xs hits fs (omega (arith, low)) small have.1)

have_keys : (word : List ℕ) (n : ℕ) (fields : List FieldTokens) → All IsField fields → HaveKeys word (parts n (positions_of word) fields) n fields
have_keys word n [] are = tt
have_keys word n (f ∷ fs) are = (
  λ p fits. own_key n p (positions_of word f) (parts (n + 1) (positions_of word) fs) (no_key word n (n + 1) p fs (omega arith) fits),
  behind_field word n (n + 1) (positions_of word f) (parts (n + 1) (positions_of word) fs) fs (omega arith) (small_places word f.words (are zero f (omega arith)).within) (have_keys word (n + 1) fs (All-tail IsField f fs are)),
)

-- ---- hits lie in their fields

within_places : (word : List ℕ) (before : ℕ) (words : List TokenWord) → Follow before words → AllByRecursion (λ x. (before < x) × (x ≤ last_of before words)) (places word words)
within_places word before [] follow = tt
within_places word before (t ∷ ts) follow =
    let above : before < t.position = omega (arith, follow.0, some t.gap) in
    let rest = wider t.position before (last_of t.position ts) (places word ts) (omega (arith, above)) (within_places word t.position ts follow.1) in
    elim (is_word word t) as (λ b. AllByRecursion (λ x. (before < x) × (x ≤ last_of t.position ts)) (map (λ (t : TokenWord). t.position) (cond b (t ∷ filter (is_word word) ts) (filter (is_word word) ts)))) [
      | true ↦ ((above, last_above t.position ts follow.1), rest)
      | false ↦ rest
    ]
  where
    some : (gap : Gap) → 1 ≤ step gap
    some kinds.None = omega arith
    some kinds.Sentence = omega arith
    some kinds.Paragraph = omega arith

    wider : (low less high : ℕ) (xs : List ℕ) → less ≤ low → AllByRecursion (λ x. (low < x) × (x ≤ high)) xs → AllByRecursion (λ x. (less < x) × (x ≤ high)) xs
    wider low less high [] le all = tt
    wider low less high (x ∷ xs) le all = ((omega (arith, le, all.0.0), all.0.1), wider low less high xs le all.1)

drop_next : {X : Type 0} (n : ℕ) (all : List X) (x : X) (xs : List X) → drop n all ≡ x ∷ xs → (n < length all) × (get_or all n x ≡ x) × (drop (n + 1) all ≡ xs)
drop_next n all x xs e =
    let inside : n < length all = omega (arith, length-drop n all, ap length e) in
    let split : get_or all n x ∷ drop (n + 1) all ≡ x ∷ xs = sym (drop_more all n x inside) ∙ e in
    (inside, cc split, cc split)

lie_here : (all : List FieldMarks) (n high : ℕ) (xs : List ℕ) (rest : List (ℕ × ℕ)) → n < length all → (get_or all n empty_field).last ≡ high → AllByRecursion (λ x. (0 < x) × (x ≤ high)) xs → AllByRecursion (LiesIn all) rest
    → AllByRecursion (LiesIn all) (map (λ x. (n, x)) xs ++ rest)
lie_here all n high [] rest low last within others = others
lie_here all n high (x ∷ xs) rest low last within others = (record { field = low; from_one = within.0.0; within = omega (arith, last, within.0.1) }, lie_here all n high xs rest low last within.1 others)

lie : (word : List ℕ) (all : List FieldMarks) (n : ℕ) (fields : List FieldTokens) → drop n all ≡ map marks_of fields → All IsField fields → AllByRecursion (LiesIn all) (parts n (positions_of word) fields)
lie word all n [] behind are = tt
lie word all n (f ∷ fs) behind are =
    let next = drop_next n all (marks_of f) (map marks_of fs) behind in
    let own : get_or all n empty_field ≡ marks_of f = get_or_default all n empty_field (marks_of f) next.0 ∙ next.1 in
    let last : (get_or all n empty_field).last ≡ last_of 0 f.words = ap (λ (m : FieldMarks). m.last) own ∙ last_position-last_of f in
    lie_here all n (last_of 0 f.words) (positions_of word f) (parts (n + 1) (positions_of word) fs) next.0 last (within_places word 0 f.words (are zero f (omega arith)).placed.follow) (lie word all (n + 1) fs next.2 (All-tail IsField f fs are))

-- ---- a row

module _ (all : List DocRow) (words : List (List ℕ)) where
  abbrev lists : List (List Entry)
  lists = lists_of all words

  -- the owners of a key are the words whose lists have it
  owners_are : (n k : ℕ) (ws : List (List ℕ)) → owners (map (λ word. postings word 0 all) ws) n k ≡ tally (λ word. has_key (hits_in n (postings word 0 all)) k) ws
  owners_are n k [] = refl
  owners_are n k (w ∷ ws) = ap (λ m. one (has_key (hits_in n (postings w 0 all)) k) + m) (owners_are n k ws)

  -- a word that is one of the words, once
  abbrev IsOnce : List ℕ → Type 0
  IsOnce word = tally (bytes_eq word) words ≡ 1

  or_either : (a b : Bool) → a ≡ true → (a || b) ≡ true
  or_either true b e = refl
  or_either false b e = absurd cc

  or_later : (a b : Bool) → b ≡ true → (a || b) ≡ true
  or_later true b e = refl
  or_later false b e = e

  each_token : (ts : List TokenWord) → ((word : List ℕ) → list_any (is_word word) ts ≡ true → IsOnce word) → AllByRecursion (λ (t : TokenWord). IsOnce t.word) ts
  each_token [] has = tt
  each_token (t ∷ ts) has = (
    has t.word (or_either (is_word t.word t) (list_any (is_word t.word) ts) ((bytes_eq-Decides t.word t.word).1 refl)),
    each_token ts (λ word e. has word (or_later (is_word word t) (list_any (is_word word) ts) e)),
  )

  covered_field : (n field : ℕ) (f : FieldTokens) → IsField f → AllByRecursion (λ (t : TokenWord). IsOnce t.word) f.words
      → ((word : List ℕ) (p : ℕ) → p < 65536 → has_key (hits_in n (postings word 0 all)) (key (field, p)) ≡ is_among (positions_of word f) p) → IsFieldCovered lists n field (marks_of f)
  covered_field n field f is once keys = record {
    between = subst (λ last. AreBetween 2 last (gaps_of f)) (sym (last_position-last_of f)) (between f.words is.placed.begin is.placed.follow);
    each = λ p low high.
        let small : p ≤ MAX_POSITION = omega (arith, high, last_short f is) in
        let count : owners lists n (key (field, p)) ≡ one (stands_at p f.words) =
        owners_are n (key (field, p)) words
        ∙ tally_same (λ word. has_key (hits_in n (postings word 0 all)) (key (field, p))) (λ word. is_among (positions_of word f) p) words (λ word. keys word p (omega (arith, small)))
        ∙ owned words 0 p f.words is.placed.follow once in
        let own = one_owner 0 p f.words is.placed.follow low (omega (arith, high, last_position-last_of f)) in
        omega (arith, own, count);
  }

  covered_fields : (n field : ℕ) (r : DocRow) (fs : List FieldTokens) → All IsField fs → ((word : List ℕ) → hits_in n (postings word 0 all) ≡ hits_of word r) → ((word : List ℕ) → HaveKeys word (hits_of word r) field fs)
      → ((word : List ℕ) → list_any (λ field. list_any (is_word word) field.words) fs ≡ true → IsOnce word) → AreCovered lists n field (map marks_of fs)
  covered_fields n field r [] are hits keys has = tt
  covered_fields n field r (f ∷ fs) are hits keys has = (
    covered_field n field f (are zero f (omega arith)) (each_token f.words (λ word e. has word (or_either (list_any (is_word word) f.words) (list_any (λ field. list_any (is_word word) field.words) fs) e)))
        (λ word p fits. ap (λ h. has_key h (key (field, p))) (hits word) ∙ (keys word).0 p fits),
    covered_fields n (field + 1) r fs (All-tail IsField f fs are) hits (λ word. (keys word).1) (λ word e. has word (or_later (list_any (is_word word) f.words) (list_any (λ field. list_any (is_word word) field.words) fs) e)),
  )

  all_inside : (n : ℕ) (r : DocRow) (ws : List (List ℕ)) → All IsField r.doc.fields → ((word : List ℕ) → hits_in n (postings word 0 all) ≡ hits_of word r)
      → AllByRecursion (λ list. AllByRecursion (LiesIn (map marks_of r.doc.fields)) (hits_in n list)) (map (λ word. postings word 0 all) ws)
  all_inside n r [] are hits = tt
  all_inside n r (w ∷ ws) are hits =
      (subst (AllByRecursion (LiesIn (map marks_of r.doc.fields))) (sym (hits w)) (lie w (map marks_of r.doc.fields) 0 r.doc.fields refl are), all_inside n r ws are hits)

  covered : (n : ℕ) (r : DocRow) → All IsField r.doc.fields → ((word : List ℕ) → hits_in n (postings word 0 all) ≡ hits_of word r) → ((word : List ℕ) → has_word word r ≡ true → IsOnce word) → IsCovered lists n (row_marks_of r)
  covered n r are hits has = record {
    fields = covered_fields n 0 r r.doc.fields are hits (λ word. have_keys word 0 r.doc.fields are) has;
    inside = all_inside n r words are hits;
  }

  -- ---- all rows

  some_here : (word : List ℕ) (n : ℕ) (r : DocRow) (rs : List DocRow) → has_word word r ≡ true → 1 ≤ length (postings word n (r ∷ rs))
  some_here word n r rs has = subst (λ b. 1 ≤ length (listed word n r rs b)) (sym has) (omega arith)

  some_later : (word : List ℕ) (n : ℕ) (r : DocRow) (rs : List DocRow) → 1 ≤ length (postings word (n + 1) rs) → 1 ≤ length (postings word n (r ∷ rs))
  some_later word n r rs some = elim (has_word word r) as (λ b. 1 ≤ length (listed word n r rs b)) [
    | true ↦ omega arith
    | false ↦ some
  ]

  all_covered : (n : ℕ) (rows : List DocRow) → All (λ (row : DocRow). All IsField row.doc.fields) rows → ((word : List ℕ) → HaveHits word (postings word 0 all) n rows) → ((word : List ℕ) → 1 ≤ length (postings word n rows) → IsOnce word)
      → AllCovered lists n (map row_marks_of rows)
  all_covered n [] are hits has = tt
  all_covered n (r ∷ rs) are hits has = (
    covered n r (are zero r (omega arith)) (λ word. (hits word).0) (λ word e. has word (some_here word n r rs e)),
    all_covered (n + 1) rs (All-tail (λ (row : DocRow). All IsField row.doc.fields) r rs are) (λ word. (hits word).1) (λ word some. has word (some_later word n r rs some)),
  )

-- rows are covered by the lists of their words
pub rows_covered : (rows : List DocRow) (words : List (List ℕ)) → All (λ (row : DocRow). All IsField row.doc.fields) rows → AreWordsOf rows words → AllCovered (lists_of rows words) 0 (map row_marks_of rows)
rows_covered rows words fields are = all_covered rows words 0 rows fields (λ word. have_hits word 0 rows) (λ word some. once word words are.ascend (are.all word (omega (arith, many word rows, some))))
