-- Entries where each row's number is its place among all rows.
use Rattle.std.proofs.Common.{◌≡◌, ℕ, zero, suc, ◌+◌, ◌<◌, ◌≤◌, List, [], ◌∷◌, ◌++◌, ◌==◌, true, false, cond, Some, slice_get, slice_index, length, map, refl, sym, ap, subst, ◌∙◌, arith, All}
use Rattle.std.specs.List.{filter, flat_map, enumerate_from}
use Rattle.std.specs.Option.{option_map_or}
use Rattle.std.proofs.lemmas.Bool.Decides.{nat_tests}
use Rattle.std.proofs.lemmas.List.Elements.{All-head, All-tail}
use Rattle.doc_types.specs.declared.cursor.TheConstants.{NO_ROW}
use Rattle.doc_types.specs.declared.documents.DocRow.{DocRow}
use Rattle.doc_types.specs.Chunks.{has_word, hits_of}
use Rattle.chunk_image.specs.AlikeRows.{postings}
use Rattle.posting_codec.specs.HitLists.{hit_list}
use Rattle.image_write.specs.declared.words.Tables.{Tables}
use Rattle.image_join.specs.steps.Entries.{AreEntriesOf, Entry, entries_in, entry_of}
use Rattle.image_join.specs.steps.Merging.{AreTables, added}
use Rattle.image_join.specs.steps.Parts.{PartValue}
use Rattle.image_join.specs.steps.Stacking.{AreInOrder, stacked_in}
use Rattle.image_join.proofs.Listed.{spell}

abbrev with_word : List ℕ → ℕ → List DocRow → List (ℕ × DocRow)
with_word word n rows = filter (λ e. has_word word e.1) (enumerate_from n rows)

module _ (word numbers : List ℕ) (part : PartValue) (order : AreInOrder numbers) (within : part.first + length part.rows ≤ length numbers) where
  -- the entry of a row
  own : (n : ℕ) (row : DocRow) → slice_get part.rows n ≡ Some row → n < length part.rows → entry_of word numbers part.first part.rows n ≡ (part.first + n, hit_list (hits_of word row)) ∷ []
  own n row here low =
      let is : slice_index numbers (part.first + n) ≡ part.first + n = order.each (part.first + n) (omega (arith, low, within)) in
      let other : (slice_index numbers (part.first + n) == NO_ROW) ≡ false = differ (slice_index numbers (part.first + n)) NO_ROW (λ same. omega (arith, same, is, low, within, order.few)) in
      let hits : option_map_or (hits_of word) (slice_get part.rows n) [] ≡ hits_of word row = ap (λ o. option_map_or (hits_of word) o []) here in
      rw (other, is, hits) refl
    where
      differ : (a b : ℕ) → (a ≡ b → ⊥) → (a == b) ≡ false
      differ a b ne = grind (arith, nat_tests)

  -- those of the rows from one on
  from : (n : ℕ) (rows : List DocRow) → n + length rows ≤ length part.rows → ((k : ℕ) (row : DocRow) → slice_get rows k ≡ Some row → slice_get part.rows (n + k) ≡ Some row)
      → flat_map (entry_of word numbers part.first part.rows) (map (λ (e : ℕ × DocRow). e.0) (with_word word n rows)) ≡ map spell (postings word (part.first + n) rows)
  from n [] low there = refl
  from n (r ∷ rs) low there =
      let here : slice_get part.rows n ≡ Some r = ap (slice_get part.rows) (omega arith) ∙ there zero r refl in
      let next : flat_map (entry_of word numbers part.first part.rows) (map (λ (e : ℕ × DocRow). e.0) (with_word word (n + 1) rs)) ≡ map spell (postings word (part.first + n + 1) rs) =
      from (n + 1) rs (omega (arith, low)) (λ k row at. ap (slice_get part.rows) (omega arith) ∙ there (suc k) row at) ∙ ap (λ m. map spell (postings word m rs)) (omega arith) in
      elim (has_word word r) as (λ b. flat_map (entry_of word numbers part.first part.rows) (map (λ (e : ℕ × DocRow). e.0) (cond b ((n, r) ∷ with_word word (n + 1) rs) (with_word word (n + 1) rs)))
      ≡ map spell (map (λ (e : ℕ × DocRow). (e.0, hits_of word e.1)) (cond b ((part.first + n, r) ∷ with_word word (part.first + n + 1) rs) (with_word word (part.first + n + 1) rs)))) [
        | true ↦ ap (λ (l : List Entry). l ++ flat_map (entry_of word numbers part.first part.rows) (map (λ (e : ℕ × DocRow). e.0) (with_word word (n + 1) rs))) (own n r here (omega (arith, low)))
            ∙ ap (λ (l : List Entry). (part.first + n, hit_list (hits_of word r)) ∷ l) next
        | false ↦ next
      ]

  pub entries_are : entries_in word numbers part ≡ stacked_in word part
  entries_are = from 0 part.rows (omega arith) (λ k row here. ap (slice_get part.rows) (omega arith) ∙ here) ∙ ap (λ n. map spell (postings word n part.rows)) (omega arith)

-- those of all parts
pub all_entries : (word numbers : List ℕ) (parts : List PartValue) → AreInOrder numbers → All (λ part. part.first + length part.rows ≤ length numbers) parts → flat_map (entries_in word numbers) parts ≡ flat_map (stacked_in word) parts
all_entries word numbers [] order within = refl
all_entries word numbers (p ∷ ps) order within =
    let Fits : PartValue → Type 0 = λ part. part.first + length part.rows ≤ length numbers in
    ap (λ (l : List Entry). l ++ flat_map (entries_in word numbers) ps) (entries_are word numbers p order (All-head Fits p ps within))
    ∙ ap (λ (l : List Entry). stacked_in word p ++ l) (all_entries word numbers ps order (All-tail Fits p ps within))

-- each part's rows have room
pub all_few : (numbers : List ℕ) (parts : List PartValue) → AreInOrder numbers → All (λ part. part.first + length part.rows ≤ length numbers) parts → All (λ part. part.first + length part.rows < NO_ROW) parts
all_few numbers parts order within k d low = let fits = within k d low in omega (arith, fits, order.few)

-- the same tables for the same entries
pub tables_for : (rows : List DocRow) (words : List (List ℕ)) (word : List ℕ) (entries other : List Entry) (old new : Tables) → entries ≡ other → AreTables rows words old → AreEntriesOf word rows other
    → (AreTables rows words old → AreEntriesOf word rows entries → AreTables rows (added entries words word) new) → AreTables rows (added other words word) new
tables_for rows words word entries other old new same was are put =
    subst (λ (es : List Entry). AreTables rows (added es words word) new) same (put was (subst (AreEntriesOf word rows) (sym same) are))
