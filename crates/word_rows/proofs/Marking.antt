-- Terms that are told whether a row has their words.
use Rattle.std.proofs.Common.{◌≡◌, ℕ, ◌<◌, Bool, List, length, get_or, map, Option, Some, None, slice_get, Bor, sym, ap, subst, ◌∙◌, zero-add, arith}
use Rattle.std.specs.List.{AllZip, filter}
use Rattle.std.proofs.lemmas.List.{length-map, get_or-map}
use Rattle.doc_types.specs.declared.cursor.Cursor.{Cursor}
use Rattle.doc_types.specs.declared.documents.DocRow.{DocRow}
use Rattle.doc_types.specs.Chunks.{CursorPlace, has_word, hits_of}
use Rattle.query_tree.specs.declared.key.Key.{Key}
use Rattle.occ_lists.specs.declared.term.Term.{Term}
use Rattle.word_rows.specs.Keywords.{allows}
use Rattle.word_rows.specs.steps.Cursors.{is_next}
use Rattle.word_rows.specs.Slots.{IsTermFor, next_of, next_with}
use Rattle.word_rows.specs.Terms.{IsSeenIn}
use Rattle.word_rows.proofs.NextRows.{is_it, is_first_at}
use Rattle.word_rows.proofs.PlacedRows.{at_one}
use Rattle.word_rows.proofs.Zipped.{zip_at, zip_by_place, zip_length}

module _ (rows : List DocRow) (number : List ℕ → ℕ) (place : Cursor → CursorPlace) (row : ℕ) (keys : List (Bor Key)) (cursors : List (Option Cursor)) (old new : List Term) (long : length new ≡ length old) (each : (k : ℕ) → k < length old → (d : Term) → get_or new k d ≡ record (get_or old k d) { present = is_next place row (get_or cursors k None) }) (are : AllZip (IsTermFor rows number) (map (λ key. key.now) keys) old) where
  as_many : length (map (λ (key : Bor Key). key.now) keys) ≡ length old
  as_many = zip_length (IsTermFor rows number) (map (λ (key : Bor Key). key.now) keys) old are

  still_for : (key : Key) (term : Term) (present : Bool) → IsTermFor rows number key term → IsTermFor rows number key (record term { present = present })
  still_for key term present is = record { query = is.query; word = is.word; free = is.free }

  pub marked_for : AllZip (IsTermFor rows number) (map (λ (key : Bor Key). key.now) keys) new
  marked_for = zip_by_place (IsTermFor rows number) (map (λ (key : Bor Key). key.now) keys) new (omega (arith, as_many, long)) (λ i d e within.
      let below : i < length old = omega (arith, within, as_many) in
      subst (IsTermFor rows number (get_or (map (λ (key : Bor Key). key.now) keys) i d)) (sym (each i below e))
      (still_for (get_or (map (λ (key : Bor Key). key.now) keys) i d) (get_or old i e) (is_next place row (get_or cursors i None))
      (zip_at (IsTermFor rows number) (map (λ (key : Bor Key). key.now) keys) old i d e are within)))

  module _ (at : AllZip (λ word cursor. next_of place cursor ≡ next_with word rows row) (map (λ key. key.now.word) keys) cursors) (found : DocRow) (here : slice_get rows row ≡ Some found) where
    it_is_there : (word : List ℕ) (cursor : Option Cursor) → next_of place cursor ≡ next_with word rows row → is_next place row cursor ≡ has_word word found
    it_is_there word cursor next = ap (is_it row) next ∙ is_first_at (has_word word) 0 row row rows found (sym (zero-add row)) here

    present_is : (i : ℕ) (key : Bor Key) → i < length keys → is_next place row (get_or cursors i None) ≡ has_word (get_or keys i key).now.word found
    present_is i key within =
        let words = map (λ (key : Bor Key). key.now.word) keys in
        let long : length words ≡ length keys = length-map keys (λ (key : Bor Key). key.now.word) in
        it_is_there (get_or keys i key).now.word (get_or cursors i None)
        (zip_at (λ word cursor. next_of place cursor ≡ next_with word rows row) words cursors i key.now.word None at (omega (arith, within, long))
        ∙ ap (λ word. next_with word rows row) (get_or-map (λ (key : Bor Key). key.now.word) keys i key key.now.word within))

    seen_one : (key : Key) (term : Term) (present : Bool) → IsTermFor rows number key term → present ≡ has_word key.word found → IsSeenIn found key (record term { present = present })
    seen_one key term present is known = record {
      present = known;
      free = λ free. at_one (λ r. filter (allows r key) (hits_of key.word r) ≡ hits_of key.word r) rows (is.free free) row found here;
    }

    pub marked_seen : AllZip (IsSeenIn found) (map (λ (key : Bor Key). key.now) keys) new
    marked_seen = zip_by_place (IsSeenIn found) (map (λ (key : Bor Key). key.now) keys) new (omega (arith, as_many, long)) (λ i d e within.
        let below : i < length old = omega (arith, within, as_many) in
        let inside : i < length keys = omega (arith, within, length-map keys (λ (key : Bor Key). key.now)) in
        let ref : Bor Key = record { ref_ptr = (0, 0); now = d } in
        let key_is : get_or (map (λ (key : Bor Key). key.now) keys) i d ≡ (get_or keys i ref).now = get_or-map (λ (key : Bor Key). key.now) keys i ref d inside in
        subst (IsSeenIn found (get_or (map (λ (key : Bor Key). key.now) keys) i d)) (sym (each i below e))
        (seen_one (get_or (map (λ (key : Bor Key). key.now) keys) i d) (get_or old i e) (is_next place row (get_or cursors i None))
        (zip_at (IsTermFor rows number) (map (λ (key : Bor Key). key.now) keys) old i d e are within)
        (present_is i ref inside ∙ ap (λ (key : Key). has_word key.word found) (sym key_is))))
