-- The rows of layers that live.
use Rattle.std.proofs.Common.{◌≡◌, ◌≢◌, ℕ, ◌+◌, ◌<◌, ◌≤◌, zero, suc, List, [], ◌∷◌, Bool, true, false, ◌==◌, not, cond, map, length, get_or, refl, sym, ap, ◌∙◌, append-nil, arith, All, AllPairs, None, is_some, ⊎_elim}
use Rattle.std.specs.List.{filter, list_any, enumerate_from, sum_by}
use Rattle.std.specs.FinMap as finite
use Rattle.std.specs.Ordering.{nat_cmp}
use Rattle.std.proofs.Math.Nat.{eq-or-lt_of_le}
use Rattle.std.proofs.lemmas.Cmp.{nat_cmp_total}
use Rattle.std.proofs.lemmas.List.{length-map}
use Rattle.std.proofs.lemmas.List.Concat.{length-flat_map}
use Rattle.doc_types.specs.declared.documents.DocRow.{DocRow}
use Rattle.doc_types.specs.Rows.{rows_of}
use Rattle.doc_types.specs.Snapshots.{LayerValue, SnapshotValue, live, living, all_living, is_dead, IsLayer, AreLayers}
use Rattle.doc_types.proofs.Numbers.{All-tail}
use Rattle.doc_types.proofs.Ids.{apart, same, tied_apart}

kept : {X : Type 0} (n : ℕ) (xs : List X) → map (λ (e : ℕ × X). e.1) (filter (λ (e : ℕ × X). not (list_any (λ d. d == e.0) [])) (enumerate_from n xs)) ≡ xs
kept n [] = refl
kept n (x ∷ xs) = ap (λ ys. x ∷ ys) (kept (n + 1) xs)

-- where none is dead all live
pub whole_layer : (layer : LayerValue) → layer.dead ≡ [] → all_living (layer ∷ []) ≡ layer.rows
whole_layer layer e =
    append-nil (living layer)
    ∙ ap (λ dead. map (λ (e : ℕ × DocRow). e.1) (filter (λ (e : ℕ × DocRow). not (list_any (λ d. d == e.0) dead)) (enumerate_from 0 layer.rows))) e
    ∙ kept 0 layer.rows

-- a number below all of the list isn't among them
no_one : (n : ℕ) (xs : List ℕ) → All (λ x. n < x) xs → list_any (λ x. x == n) xs ≡ false
no_one n [] above = refl
no_one n (x ∷ xs) above =
    let here : n < x = above 0 x (omega arith) in
    rw (apart x n (omega arith)) (no_one n xs (All-tail (λ x. n < x) x xs above))

above : (n d : ℕ) (dead : List ℕ) → n < d → AllPairs (λ a b. a < b) (d ∷ dead) → All (λ x. n < x) (d ∷ dead)
above n d dead low up zero y h = low
above n d dead low up (suc k) y h = let over : d < get_or dead k y = up 0 (suc k) y (omega arith) h in omega (arith, over)

-- elements of which so many, told by ascending numbers, are left out
module _ {X : Type 0} (out : ℕ → Bool) where
  pub left : (xs : List X) (n : ℕ) (dead : List ℕ) → ((k : ℕ) → n ≤ k → out k ≡ list_any (λ d. d == k) dead) → AllPairs (λ a b. a < b) dead → All (λ d. n ≤ d) dead → All (λ d. d < n + length xs) dead → length (filter (λ e. not (out e.0)) (enumerate_from n xs)) + length dead ≡ length xs
  left [] n [] is up low high = refl
  left [] n (d ∷ dead) is up low high = absurd (omega (arith, low 0 d (omega arith), high 0 d (omega arith)))
  left (x ∷ xs) n [] is up low high =
      let here : out n ≡ false = is n (omega arith) in
      let rest : length (filter (λ e. not (out e.0)) (enumerate_from (n + 1) xs)) + 0 ≡ length xs = left xs (n + 1) [] (λ k h. is k (omega (arith, h))) up (λ k d h. absurd (omega (arith, h))) (λ k d h. absurd (omega (arith, h))) in
      rw here (omega (arith, rest))
  left (x ∷ xs) n (d ∷ dead) is up low high =
      ⊎_elim
      (λ (e : n ≡ d).
      let here : out n ≡ true = is n (omega arith) ∙ rw (same d n (sym e)) refl in
      let rest : length (filter (λ e. not (out e.0)) (enumerate_from (n + 1) xs)) + length dead ≡ length xs =
      left xs (n + 1) dead
      (λ k h. is k (omega (arith, h)) ∙ rw (apart d k (omega (arith, h, e))) refl)
      (λ i j y l h. up (suc i) (suc j) y (omega (arith, l)) (omega (arith, h)))
      (λ k y h. let above : d < get_or dead k y = up 0 (suc k) y (omega arith) (omega (arith, h)) in omega (arith, above, e))
      (λ k y h. let below : get_or dead k y < n + suc (length xs) = high (suc k) y (omega (arith, h)) in omega (arith, below)) in
      rw here (omega (arith, rest)))
      (λ (l : n < d).
      let here : out n ≡ false = is n (omega arith) ∙ no_one n (d ∷ dead) (above n d dead l up) in
      let rest : length (filter (λ e. not (out e.0)) (enumerate_from (n + 1) xs)) + suc (length dead) ≡ length xs =
      left xs (n + 1) (d ∷ dead)
      (λ k h. is k (omega (arith, h)))
      up
      (λ k y h. let over : n < get_or (d ∷ dead) k y = above n d dead l up k y h in omega (arith, over))
      (λ k y h. let below : get_or (d ∷ dead) k y < n + suc (length xs) = high k y h in omega (arith, below)) in
      rw here (omega (arith, rest)))
      (eq-or-lt_of_le (low 0 d (omega arith)))

-- the rows of a layer that live and those that are dead are all
pub all_rows : (layer : LayerValue) → IsLayer layer → length (living layer) + length layer.dead ≡ length layer.rows
all_rows layer is =
    let kept : length (living layer) ≡ length (filter (λ (e : ℕ × DocRow). not (is_dead layer e.0)) (enumerate_from 0 layer.rows)) = length-map _ (λ (e : ℕ × DocRow). e.1) in
    omega (arith, kept, left (is_dead layer) layer.rows 0 layer.dead (λ k h. refl) is.ascend (λ k d h. omega arith) (λ k d h. omega (arith, is.rows k d h)))

unknown : (id : ℕ) (rows : List DocRow) → All (λ row. id ≢ row.doc.id) rows → finite.find nat_cmp id (map (λ row. (row.doc.id, row)) rows) ≡ None
unknown id [] other = refl
unknown id (row ∷ rows) other = rw (tied_apart id row.doc.id (other 0 row (omega arith))) (unknown id rows (All-tail (λ (row : DocRow). id ≢ row.doc.id) row rows other))

-- the map of rows with distinct ids has as many
pub map_len : (rows : List DocRow) → AllPairs (λ row other. row.doc.id ≢ other.doc.id) rows → finite.len (rows_of rows) ≡ length rows
map_len [] distinct = finite.len-empty nat_cmp DocRow
map_len (row ∷ rows) distinct =
    let absent : finite.get (rows_of rows) row.doc.id ≡ None = finite.get-from_entries nat_cmp_total (map (λ (row : DocRow). (row.doc.id, row)) rows) row.doc.id ∙ unknown row.doc.id rows (λ k d h. distinct 0 (suc k) d (omega arith) (omega (arith, h))) in
    let rest : finite.len (rows_of rows) ≡ length rows = map_len rows (λ i j d l h. distinct (suc i) (suc j) d (omega (arith, l)) (omega (arith, h))) in
    let more : finite.len (rows_of (row ∷ rows)) ≡ finite.len (rows_of rows) + 1 = finite.len-insert nat_cmp_total (rows_of rows) row.doc.id row ∙ ap (λ o. cond (is_some o) (finite.len (rows_of rows)) (finite.len (rows_of rows) + 1)) absent in
    omega (arith, more, rest)

-- how many live is the sum over the layers
pub living_sum : (snapshot : SnapshotValue) → AreLayers snapshot.layers → finite.len (live snapshot) ≡ sum_by (λ layer. length (living layer)) snapshot.layers
living_sum snapshot are = map_len (all_living snapshot.layers) are.distinct ∙ length-flat_map living snapshot.layers
