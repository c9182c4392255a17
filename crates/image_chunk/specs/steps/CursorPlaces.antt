-- The rows that are ahead of a cursor, and so its place among all rows.
use Rattle.std.specs.Prelude.{◌≡◌, ◌<◌, ◌≤◌, ◌+◌, ◌==◌, ℕ, zero, suc, List, [], ◌∷◌, ◌++◌, true, false, Option, Some, None, IsSomeAnd, All, length, map, nat_lt, slice_get}
use Rattle.std.specs.List.{filter, enumerate_from}
use Rattle.std.specs.Coded.{le_prop}
use Rattle.std.proofs.Props.{props}
use Rattle.std.proofs.Common.{refl, sym, ap, subst, ◌∙◌, arith, cond}
use Rattle.std.proofs.Math.Logic.{∥∥₁_elim}
use Rattle.std.proofs.lemmas.Bool.{le-ltb, lt-ltb}
use Rattle.std.proofs.lemmas.Bool.Decides.{nat_tests}
use Rattle.std.proofs.lemmas.List.{map-append}
use Rattle.std.proofs.lemmas.Option.{get_or_from_slice_get, slice_get_within}
use Rattle.doc_types.proofs.Numbers.{All-tail}
use Rattle.doc_types.specs.declared.cursor.Cursor.{Cursor}
use Rattle.doc_types.specs.declared.cursor.TheConstants.{NO_ROW}
use Rattle.doc_types.specs.declared.documents.DocRow.{DocRow}
use Rattle.doc_types.specs.Chunks.{IsCursorPlace, has_word, hits_of, next_row, row_of, rows_from, rows_with}
use Rattle.chunk_image.specs.AlikeRows.{postings}
use Rattle.posting_codec.specs.HitLists.{IsHit, key, Ascend, AreHits}
use Rattle.chunk_image.proofs.RowsPosted.{HasFields, are_hits}
use Rattle.chunk_image.proofs.Orderly.{have_fields}
use Rattle.image_parts.specs.Images.{IsWhole}
use Rattle.image_chunk.specs.Images.{Image}
use Rattle.image_chunk.specs.Places.{Entry, Here, Rising, StandsIn, entries_from, list_in, place_of, place_in}
use Rattle.image_chunk.specs.steps.OneImage.{words_are}

abbrev pub rows_in : List Entry → List ℕ
rows_in entries = map (λ entry. entry.0) entries

pub lower : (least more most : ℕ) (entries : List Entry) → least ≤ more → Rising more most entries → Rising least most entries
lower least more most [] low rising = omega (arith, low, rising)
lower least more most (e ∷ es) low rising = (omega (arith, low, rising.0), rising.1, rising.2, rising.3)

rising_from : (word : List ℕ) (n : ℕ) (rows : List DocRow) → All HasFields rows → Rising n (n + length rows) (postings word n rows)
rising_from word n [] are = omega arith
rising_from word n (r ∷ rs) are =
    let rest : Rising (n + 1) (n + suc (length rs)) (postings word (n + 1) rs) = subst (λ m. Rising (n + 1) m (postings word (n + 1) rs)) (omega arith) (rising_from word (n + 1) rs (All-tail HasFields r rs are)) in
    let own = are zero r (omega arith) in
    elim (has_word word r) as (λ b. has_word word r ≡ b → Rising n (n + suc (length rs)) (map (λ (e : ℕ × DocRow). (e.0, hits_of word e.1)) (cond b ((n, r) ∷ filter (λ e. has_word word e.1) (enumerate_from (n + 1) rs)) (filter (λ e. has_word word e.1) (enumerate_from (n + 1) rs))))) [
      | true ↦ λ has. (omega arith, omega arith, are_hits word r own.few own.are has, rest)
      | false ↦ λ _. lower n (n + 1) (n + suc (length rs)) (postings word (n + 1) rs) (omega arith) rest
    ] refl

rows_listed : (word : List ℕ) (es : List (ℕ × DocRow)) → rows_in (map (λ e. (e.0, hits_of word e.1)) es) ≡ map (λ e. e.0) es
rows_listed word [] = refl
rows_listed word (e ∷ es) = ap (λ rows. e.0 ∷ rows) (rows_listed word es)

pub rows_are : (word : List ℕ) (rows : List DocRow) → rows_in (postings word 0 rows) ≡ rows_with word rows
rows_are word rows = rows_listed word (filter (λ e. has_word word e.1) (enumerate_from 0 rows))

-- the entries from a row on have the rows from it on
rows_from_in : (from : ℕ) (entries : List Entry) → rows_from from (rows_in entries) ≡ rows_in (entries_from from entries)
rows_from_in from [] = refl
rows_from_in from (e ∷ es) =
    elim (nat_lt e.0 from) as (λ b. cond b (rows_from from (rows_in es)) (e.0 ∷ rows_in es) ≡ rows_in (cond b (entries_from from es) (e ∷ es))) [
      | true ↦ rows_from_in from es
      | false ↦ refl
    ]

pub ahead_in : (rows : List DocRow) (word : List ℕ) (index : ℕ) → rows_from index (rows_with word rows) ≡ rows_in (entries_from index (postings word 0 rows))
ahead_in rows word index = ap (rows_from index) (sym (rows_are word rows)) ∙ rows_from_in index (postings word 0 rows)

-- a cursor among some entries: those behind it, and those from its row on
pub record Stands (list : List ℕ) (entries : List Entry) (cursor : Cursor) : Type 0 where
  pub behind : List Entry
  pub ahead : List Entry
  pub both : behind ++ ahead ≡ entries
  pub here : Here list cursor.at cursor.index ahead

parted : (from : ℕ) (entries : List Entry) → (behind : List Entry) × (behind ++ entries_from from entries ≡ entries)
parted from [] = ([], refl)
parted from (e ∷ es) =
    elim (nat_lt e.0 from) as (λ b. (behind : List Entry) × (behind ++ cond b (entries_from from es) (e ∷ es) ≡ e ∷ es)) [
      | true ↦ let rest = parted from es in (e ∷ rest.0, ap (λ tail. e ∷ tail) rest.1)
      | false ↦ ([], refl)
    ]

pub stands_of : (list : List ℕ) (entries : List Entry) (cursor : Cursor) → Here list cursor.at cursor.index (entries_from cursor.index entries) → Stands list entries cursor
stands_of list entries cursor here = let its = parted cursor.index entries in record { behind = its.0; ahead = entries_from cursor.index entries; both = its.1; here = here }

-- where entries rise, the ones from the cursor's row on are those that are left
none_from : (least most row : ℕ) (entries : List Entry) → Rising least most entries → most ≤ row → entries_from row entries ≡ []
none_from least most row [] rising low = refl
none_from least most row (e ∷ es) rising low = rw (lt-ltb e.0 row (omega (arith, rising.1, low))) (none_from (e.0 + 1) most row es rising.3 low)

at_least : (least most : ℕ) (b : List Entry) (e : Entry) (es : List Entry) → Rising least most (b ++ e ∷ es) → least ≤ e.0
at_least least most [] e es rising = rising.0
at_least least most (p ∷ b) e es rising = let rest = at_least (p.0 + 1) most b e es rising.3 in omega (arith, rest, rising.0)

some_from : (least most : ℕ) (b : List Entry) (e : Entry) (es : List Entry) → Rising least most (b ++ e ∷ es) → entries_from e.0 (b ++ e ∷ es) ≡ e ∷ es
some_from least most [] e es rising = rw (le-ltb e.0 e.0 (omega arith)) refl
some_from least most (p ∷ b) e es rising =
    let low : p.0 + 1 ≤ e.0 = at_least (p.0 + 1) most b e es rising.3 in
    rw (lt-ltb p.0 e.0 (omega (arith, low))) (some_from (p.0 + 1) most b e es rising.3)

ahead_is : (list : List ℕ) (entries behind ahead : List Entry) (at index : ℕ) → Rising 0 NO_ROW entries → behind ++ ahead ≡ entries → Here list at index ahead → entries_from index entries ≡ ahead
ahead_is list entries behind [] at index rising e here = none_from 0 NO_ROW index entries rising (omega (arith, here))
ahead_is list entries behind (post ∷ ahead) at index rising e here =
    let r : Rising 0 NO_ROW (behind ++ post ∷ ahead) = subst (Rising 0 NO_ROW) (sym e) rising in
    subst (λ i. entries_from i entries ≡ post ∷ ahead) (sym here.0) (subst (λ ps. entries_from post.0 ps ≡ post ∷ ahead) e (some_from 0 NO_ROW behind post ahead r))

pub left_from : (list : List ℕ) (entries : List Entry) (cursor : Cursor) → Rising 0 NO_ROW entries → (stands : Stands list entries cursor) → entries_from cursor.index entries ≡ stands.ahead
left_from list entries cursor rising stands = ahead_is list entries stands.behind stands.ahead cursor.at cursor.index rising stands.both stands.here

pub stands_here : (list : List ℕ) (entries : List Entry) (cursor : Cursor) → Rising 0 NO_ROW entries → Stands list entries cursor → Here list cursor.at cursor.index (entries_from cursor.index entries)
stands_here list entries cursor rising stands = subst (Here list cursor.at cursor.index) (sym (left_from list entries cursor rising stands)) stands.here

higher : (least most more : ℕ) (entries : List Entry) → most ≤ more → Rising least most entries → Rising least more entries
higher least most more [] low r = omega (arith, low, r)
higher least most more (e ∷ es) low r = (r.0, omega (arith, low, r.1), r.2, higher (e.0 + 1) most more es low r.3)

-- what is known of the rows of an image
record AreKnown (rows : List DocRow) : Type 0 where
  few : length rows ≤ NO_ROW
  fields : All HasFields rows

known : (rows : List DocRow) (words : List (List ℕ)) (bytes : List ℕ) → IsWhole rows words bytes → AreKnown rows
known rows words bytes is = record { few = omega (arith, is.small.few_rows); fields = have_fields is.schema rows is.limits is.of }

hit_prop : (hit : ℕ × ℕ) → IsProp (IsHit hit)
hit_prop hit = hlevel (le_prop, props)

Ascend-prop : (before : ℕ) (hits : List (ℕ × ℕ)) → IsProp (Ascend before hits)
Ascend-prop before [] = hlevel props
Ascend-prop before (hit ∷ hits) = hlevel (le_prop, props, hit_prop hit, Ascend-prop (key hit) hits)

hits_prop : (hits : List (ℕ × ℕ)) → IsProp (AreHits hits)
hits_prop hits = hlevel (le_prop, props, Ascend-prop 0 hits)

Rising-prop : (least most : ℕ) (entries : List Entry) → IsProp (Rising least most entries)
Rising-prop least most [] = le_prop
Rising-prop least most (entry ∷ entries) = hlevel (le_prop, props, hits_prop entry.1, Rising-prop (entry.0 + 1) most entries)

-- the entries of a word in the rows of an image rise
pub rising_in : (bytes : List ℕ) (is : Image bytes) (word : List ℕ) → Rising 0 NO_ROW (postings word 0 is.0.0)
rising_in bytes is word = ∥∥₁_elim is.1 (Rising-prop 0 NO_ROW (postings word 0 is.0.0)) (λ x.
    let its = known is.0.0 is.0.1 bytes x in
    higher 0 (0 + length is.0.0) NO_ROW (postings word 0 is.0.0) (omega (arith, its.few)) (rising_from word 0 is.0.0 its.fields))

-- so a cursor stands in at most one way
Here-prop : (list : List ℕ) (at index : ℕ) (entries : List Entry) → IsProp (Here list at index entries)
Here-prop list at index [] = hlevel props
Here-prop list at index (entry ∷ entries) = hlevel props

stands_prop : (found : Option (List ℕ)) (list : List ℕ) (rows : List DocRow) (cursor : Cursor) → IsProp (IsSomeAnd found (λ word. Here list cursor.at cursor.index (entries_from cursor.index (postings word 0 rows))))
stands_prop None list rows cursor = hlevel props
stands_prop (Some word) list rows cursor = Here-prop list cursor.at cursor.index (entries_from cursor.index (postings word 0 rows))

pub StandsIn-prop : (rows : List DocRow) (words : List (List ℕ)) (bytes : List ℕ) (cursor : Cursor) → IsProp (StandsIn rows words bytes cursor)
StandsIn-prop rows words bytes cursor = stands_prop (slice_get words cursor.word) (list_in rows words bytes cursor.word) rows cursor

pub all_stand_prop : (rows : List DocRow) (words : List (List ℕ)) (bytes : List ℕ) (cursors : List Cursor) → IsProp (All (StandsIn rows words bytes) cursors)
all_stand_prop rows words bytes cursors = hlevel (props, StandsIn-prop)

place_of-IsCursorPlace : (bytes : List ℕ) (is : Image bytes) (list : List ℕ) (cursor : Cursor) (found : Option (List ℕ)) → slice_get is.0.1 cursor.word ≡ found → IsSomeAnd found (λ word. Here list cursor.at cursor.index (entries_from cursor.index (postings word 0 is.0.0))) → IsCursorPlace is.0.0 (place_of is.0.0 found cursor.index)
place_of-IsCursorPlace bytes is list cursor None e here = absurd here
place_of-IsCursorPlace bytes is list cursor (Some word) e here =
    let rows = is.0.0 in
    let its = parted cursor.index (postings word 0 rows) in
    record {
      some = subst (λ w. 0 < length (rows_with w rows)) (get_or_from_slice_get is.0.1 cursor.word word word e) ((words_are bytes is).each cursor.word word (slice_get_within is.0.1 cursor.word word e));
      behind = rows_in its.0;
      both = ap (λ tail. rows_in its.0 ++ tail) (ahead_in rows word cursor.index)
          ∙ sym (map-append (λ (entry : Entry). entry.0) its.0 (entries_from cursor.index (postings word 0 rows))) ∙ ap rows_in its.1 ∙ rows_are word rows;
    }

-- a cursor that stands in the image has a place among the rows
pub place_in-IsCursorPlace : (bytes : List ℕ) (is : Image bytes) (cursor : Cursor) → StandsIn is.0.0 is.0.1 bytes cursor → IsCursorPlace is.0.0 (place_in is.0.0 is.0.1 cursor)
place_in-IsCursorPlace bytes is cursor stands = place_of-IsCursorPlace bytes is (list_in is.0.0 is.0.1 bytes cursor.word) cursor (slice_get is.0.1 cursor.word) refl stands

behind_within : (least most : ℕ) (b : List Entry) (e : Entry) (es : List Entry) → Rising least most (b ++ e ∷ es) → e.0 < most
behind_within least most [] e es rising = rising.1
behind_within least most (p ∷ b) e es rising = behind_within (p.0 + 1) most b e es rising.3

-- the first of the rows ahead is told by the cursor's row
told : (list : List ℕ) (behind ahead : List Entry) (at index : ℕ) → Rising 0 NO_ROW (behind ++ ahead) → Here list at index ahead → slice_get (rows_in ahead) 0 ≡ row_of index
told list behind [] at index rising here = rw here refl
told list behind (entry ∷ ahead) at index rising here =
    let low : entry.0 < NO_ROW = behind_within 0 NO_ROW behind entry ahead rising in
    let other : (entry.0 == NO_ROW) ≡ false = grind (arith, nat_tests) in
    rw (here.0, other) refl

place_of-row_of : (bytes : List ℕ) (is : Image bytes) (list : List ℕ) (cursor : Cursor) (found : Option (List ℕ)) → IsSomeAnd found (λ word. Here list cursor.at cursor.index (entries_from cursor.index (postings word 0 is.0.0))) → next_row (place_of is.0.0 found cursor.index) ≡ row_of cursor.index
place_of-row_of bytes is list cursor None here = absurd here
place_of-row_of bytes is list cursor (Some word) here =
    let entries = postings word 0 is.0.0 in
    let its = parted cursor.index entries in
    ap (λ ahead. slice_get ahead 0) (ahead_in is.0.0 word cursor.index)
    ∙ told list its.0 (entries_from cursor.index entries) cursor.at cursor.index (subst (Rising 0 NO_ROW) (sym its.1) (rising_in bytes is word)) here

-- its row is the next one of the place
pub place_in-row_of : (bytes : List ℕ) (is : Image bytes) (cursor : Cursor) → StandsIn is.0.0 is.0.1 bytes cursor → next_row (place_in is.0.0 is.0.1 cursor) ≡ row_of cursor.index
place_in-row_of bytes is cursor stands = place_of-row_of bytes is (list_in is.0.0 is.0.1 bytes cursor.word) cursor (slice_get is.0.1 cursor.word) stands
