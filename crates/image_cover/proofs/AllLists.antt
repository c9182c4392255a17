-- Lists of words one at a time.
use Rattle.std.proofs.Common.{◌≡◌, ℕ, zero, suc, ◌+◌, ◌<◌, List, [], ◌∷◌, ◌++◌, length, drop, refl, sym, ap, subst, ◌∙◌, arith, append-nil, add-one, length-append}
use Rattle.std.proofs.lemmas.List.Concat.{flat_map-append}
use Rattle.image_cover.specs.Places.{Seen, take_all}
use Rattle.item_lists.specs.Items.{spelled}
use Rattle.item_lists.specs.steps.Places.{IsItemAt}
use Rattle.chunk_damage.specs.WordLists.{Entry, IsList, and_list, bytes_of}
use Rattle.chunk_damage.specs.WordTable.{row_count}
use Rattle.image_cover.specs.Lists.{AreEntriesAt, IsBadListIn, places_in, places_of_lists}
use Rattle.image_cover.proofs.Taken.{all_long, take_append}
use Rattle.item_lists.proofs.Reading.{Gone, gone_more, gone_none, left_wrong, none_wrong}
use Rattle.image_cover.proofs.Listing.{ListRead}

-- what the last list that was read is
abbrev pub Last : List ℕ → ℕ → List ℕ → ℕ → ℕ → ℕ → List (List Entry) → Type 0
Last table rows postings last at zero lists = (last ≡ 0) × (at ≡ 0)
Last table rows postings last at (suc i) lists =
    (earlier : List (List Entry)) × (entries : List Entry) × (rest : List ℕ) × (n : ℕ) × Gone bytes_of and_list (IsList table rows) postings 0 last 0 n i earlier × IsItemAt bytes_of (IsList table rows) postings last n entries rest × (at ≡ last + length (bytes_of n entries))

-- the lists of so many words were read and counted
pub record Read (table : List ℕ) (rows : ℕ) (postings : List ℕ) (at last i : ℕ) (starts : List ℕ) (width : ℕ) (before cells : Seen) : Type 0 where
  pub lists : List (List Entry)
  pub gone : Gone bytes_of and_list (IsList table rows) postings 0 at 0 i i lists
  pub its_last : Last table rows postings last at i lists
  pub long : length cells.0 ≡ length before.0
  pub tally : cells ≡ take_all before (places_of_lists starts width lists)

pub read_none : (table : List ℕ) (rows : ℕ) (postings starts : List ℕ) (width : ℕ) (before : Seen) → Read table rows postings 0 0 0 starts width before before
read_none table rows postings starts width before = record { lists = []; gone = gone_none bytes_of and_list (IsList table rows) postings 0 0; its_last = (refl, refl); long = refl; tally = refl }

item_of : (table : List ℕ) (rows n : ℕ) (postings : List ℕ) (at count : ℕ) (entries : List Entry) (rest : List ℕ) → count ≡ row_count table n → AreEntriesAt postings at rows 0 count entries rest → IsItemAt bytes_of (IsList table rows) postings at n entries rest
item_of table rows n postings at count entries rest c are = record { fits = record { counted = are.counted ∙ c; are = are.are }; here = are.here }

pub read_more : (table : List ℕ) (rows : ℕ) (postings : List ℕ) (at end last i count : ℕ) (starts : List ℕ) (width : ℕ) (before cells after : Seen) → Read table rows postings at last i starts width before cells → count ≡ row_count table i → ListRead postings rows at count starts width cells after end
    → Read table rows postings end at (i + 1) starts width before after
read_more table rows postings at end last i count starts width before cells after g c read =
    let item = item_of table rows i postings at count read.0 read.1 c read.2 in
    record {
      lists = g.lists ++ read.0 ∷ [];
      gone = gone_more bytes_of and_list (IsList table rows) postings 0 at end 0 i i g.lists read.0 read.1 g.gone item read.3;
      its_last = subst (λ k. Last table rows postings at end k (g.lists ++ read.0 ∷ [])) (sym (add-one i)) (g.lists, read.0, read.1, i, g.gone, item, read.3);
      long = ap (λ (s : Seen). length s.0) read.4 ∙ all_long cells (places_in starts width read.0) ∙ g.long;
      tally = read.4 ∙ ap (λ cs. take_all cs (places_in starts width read.0)) g.tally
          ∙ sym (ap (take_all before) (flat_map-append (places_in starts width) g.lists (read.0 ∷ []) ∙ ap (λ x. places_of_lists starts width g.lists ++ x) (append-nil (places_in starts width read.0))) ∙ take_append before (places_of_lists starts width g.lists) (places_in starts width read.0));
    }

-- where the next list isn't there
pub read_stop : (table : List ℕ) (rows : ℕ) (postings : List ℕ) (at last i count words : ℕ) (starts : List ℕ) (width : ℕ) (before cells : Seen) → Read table rows postings at last i starts width before cells → count ≡ row_count table i → i < words
    → ((entries : List Entry) (rest : List ℕ) → AreEntriesAt postings at rows 0 count entries rest → ⊥) → IsBadListIn table rows words postings at
read_stop table rows postings at last i count words starts width before cells g c low none =
    none_wrong bytes_of and_list (IsList table rows) postings at 0 i i words g.lists g.gone low (λ entries rest is. none entries rest (record { counted = is.fits.counted ∙ sym c; are = is.fits.are; here = is.here }))

-- where bytes are left
pub read_left : (table : List ℕ) (rows : ℕ) (postings : List ℕ) (at last i words : ℕ) (starts : List ℕ) (width : ℕ) (before cells : Seen) → Read table rows postings at last i starts width before cells → i ≡ words → (words ≡ 0 → length postings ≡ 0) → (at ≡ length postings → ⊥) → IsBadListIn table rows words postings last
read_left table rows postings at last zero words starts width before cells g e none more = absurd (more (g.its_last.1 ∙ sym (none (sym e))))
read_left table rows postings at last (suc i) words starts width before cells g e none more =
    let l = g.its_last in
    left_wrong bytes_of and_list (IsList table rows) postings last at 0 l.3 i words l.0 l.1 l.2 l.4 (omega (arith, e)) l.5 l.6 (not_past postings at (suc i) g.lists g.gone more)
  where
    not_past : (postings : List ℕ) (at i : ℕ) (lists : List (List Entry)) → Gone bytes_of and_list (IsList table rows) postings 0 at 0 i i lists → (at ≡ length postings → ⊥) → at < length postings
    not_past postings at i lists gone more =
        let long : length postings ≡ length (spelled bytes_of and_list 0 lists) + length (drop at postings) = ap length gone.here ∙ length-append (spelled bytes_of and_list 0 lists) (drop at postings) in
        omega (arith, long, gone.place, more)
