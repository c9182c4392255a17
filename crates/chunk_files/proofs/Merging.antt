-- Two chunks gone over side by side.
use Rattle.std.proofs.Common.{◌≡◌, ◌≢◌, inl, inr, ℕ, ◌+◌, ◌<◌, ◌≤◌, List, [], ◌∷◌, ◌++◌, Bool, true, false, cond, ◌==◌, ◌||◌, ◌&&◌, not, is_some, Option, Some, None, length, get_or, slice_get, take, refl, sym, ◌∙◌, ap, subst, arith, AllPairs}
use Rattle.std.specs.List.{enumerate_from, list_any, position, position_from}
use Rattle.std.specs.Option.{option_and_then, option_map}
use Rattle.std.proofs.Math.Bool.{and-or_distrib_left}
use Rattle.std.proofs.lemmas.Bool.{cases_lt}
use Rattle.std.proofs.lemmas.Bool.Decides.{nat_tests}
use Rattle.std.proofs.lemmas.Grind.{flat_map-append}
use Rattle.std.proofs.lemmas.Iterator.Adapters.{position_from-zero}
use Rattle.std.proofs.lemmas.List.{take_more}
use Rattle.std.proofs.lemmas.List.Elements.{All-cons, All-nil}
use Rattle.std.proofs.lemmas.List.Folds.{list_any-append}
use Rattle.std.proofs.lemmas.Option.{get_or_from_slice_get}
use Rattle.doc_types.specs.Snapshots.{IsLayer, LayerValue, all_living, is_dead, living}
use Rattle.doc_types.specs.declared.documents.DocRow.{DocRow}
use Rattle.layer_commit.specs.steps.Finding.{has_living, unless_dead}
use Rattle.store_steps.specs.Damage.{again_in, is_again}
use Rattle.chunk_files.specs.steps.Merging.{AreBelow, IsFirst, sooner}
use Rattle.chunk_files.proofs.First.{NonePass, first_found, none_found}
use Rattle.chunk_files.proofs.Living.{lives_are}
use Rattle.chunk_files.proofs.Scanned.{some_is, some_row}

-- ids ascend
abbrev pub Ascend : List DocRow → Type 0
Ascend rows = AllPairs (λ row later. row.doc.id < later.doc.id) rows

-- ---- where an id stands

apart : (a b : ℕ) → a ≢ b → (a == b) ≡ false
apart a b h = grind (arith, nat_tests)

alike : (a b : ℕ) → a ≡ b → (a == b) ≡ true
alike a b h = grind (arith, nat_tests)

pub id_is : (rows : List DocRow) (row id : ℕ) (d : DocRow) → row < length rows → option_map (λ (found : DocRow). found.doc.id) (slice_get rows row) ≡ Some id → (get_or rows row d).doc.id ≡ id
id_is rows row id d lt is =
    let at = some_row rows row lt in
    let same : get_or rows row d ≡ at.0 = get_or_from_slice_get rows row at.0 d at.1 in
    ap (λ (r : DocRow). r.doc.id) same ∙ some_is at.0.doc.id id (sym (ap (option_map (λ (r : DocRow). r.doc.id)) at.1) ∙ is)

pub found_id : (rows : List DocRow) (row id : ℕ) (found : DocRow) → slice_get rows row ≡ Some found → option_map (λ (r : DocRow). r.doc.id) (slice_get rows row) ≡ Some id → found.doc.id ≡ id
found_id rows row id found at is = some_is found.doc.id id (sym (ap (option_map (λ (r : DocRow). r.doc.id)) at) ∙ is)

none_below : (rows : List DocRow) (id count : ℕ) → AreBelow id count rows → NonePass (λ row. row.doc.id == id) count rows
none_below rows id count below k d lt low = apart (get_or rows k d).doc.id id (λ e. absurd (let less = below k d lt low in omega (arith, e, less)))

found_dead : (layer : LayerValue) (row : ℕ) (b : Bool) → is_dead layer row ≡ b → is_some (unless_dead layer row) ≡ not b
found_dead layer row b is = ap (λ (dead : Bool). is_some (cond dead None (Some row))) is ∙ each b
  where
    each : (b : Bool) → is_some (cond b None (Some row)) ≡ not b
    each true = refl
    each false = refl

pub living_here : (layer : LayerValue) (id at own : ℕ) → IsFirst id at layer.rows → at < length layer.rows → option_map (λ (found : DocRow). found.doc.id) (slice_get layer.rows at) ≡ Some own → own ≡ id → has_living layer id ≡ not (is_dead layer at)
living_here layer id at own first lt is same =
    let d = (some_row layer.rows at lt).0 in
    ap (λ (o : Option ℕ). is_some (option_and_then (unless_dead layer) o))
    (first_found (λ (row : DocRow). row.doc.id == id) at layer.rows d (none_below layer.rows id at first.below) lt (alike (get_or layer.rows at d).doc.id id (id_is layer.rows at own d lt is ∙ same)))
    ∙ found_dead layer at (is_dead layer at) refl

none_living : (layer : LayerValue) (id : ℕ) → NonePass (λ row. row.doc.id == id) (length layer.rows) layer.rows → has_living layer id ≡ false
none_living layer id none =
    ap (λ (o : Option ℕ). is_some (option_and_then (unless_dead layer) o)) (none_found (λ (row : DocRow). row.doc.id == id) (length layer.rows) layer.rows none (omega arith))

pub living_past : (layer : LayerValue) (id at : ℕ) → IsFirst id at layer.rows → length layer.rows ≤ at → has_living layer id ≡ false
living_past layer id at first le = none_living layer id (λ k d lt low. none_below layer.rows id at first.below k d (omega (arith, lt, le)) low)

pub living_other : (layer : LayerValue) (id at own : ℕ) → Ascend layer.rows → IsFirst id at layer.rows → at < length layer.rows → option_map (λ (found : DocRow). found.doc.id) (slice_get layer.rows at) ≡ Some own → own ≢ id → has_living layer id ≡ false
living_other layer id at own up first lt is other = none_living layer id each
  where
    each : NonePass (λ row. row.doc.id == id) (length layer.rows) layer.rows
    each k d less low = elim (cases_lt k at) [
      | inl before ↦ none_below layer.rows id at first.below k d before low
      | inr le ↦ apart (get_or layer.rows k d).doc.id id (λ e.
          let here = id_is layer.rows at own d lt is in
          let least = first.behind at d (omega arith) lt in
          elim (cases_lt at k) [
            | inl later ↦ (let above = up at k d later low in absurd (other (omega (arith, here, least, above, e))))
            | inr back ↦ (let there : k ≡ at = omega (arith, le, back) in absurd (other (sym here ∙ ap (λ (n : ℕ). (get_or layer.rows n d).doc.id) (sym there) ∙ e)))
          ])
    ]

-- ---- the first row that isn't below an id

pub first_here : (rows : List DocRow) (id row own : ℕ) → Ascend rows → AreBelow id row rows → row < length rows → option_map (λ (found : DocRow). found.doc.id) (slice_get rows row) ≡ Some own → id ≤ own → IsFirst id row rows
first_here rows id row own up below lt is le = record {
  within = omega (arith, lt);
  below = below;
  behind = λ k d from low. elim (cases_lt row k) [
    | inl later ↦ (let here = id_is rows row own d lt is in let above = up row k d later low in omega (arith, here, above, le))
    | inr back ↦ (let there : row ≡ k = omega (arith, from, back) in subst (λ (n : ℕ). id ≤ (get_or rows n d).doc.id) there (let here = id_is rows row own d lt is in omega (arith, here, le)))
  ];
}

pub below_more : (rows : List DocRow) (id row own : ℕ) → AreBelow id row rows → row < length rows → option_map (λ (found : DocRow). found.doc.id) (slice_get rows row) ≡ Some own → own < id → AreBelow id (row + 1) rows
below_more rows id row own below lt is less k d before low = elim (cases_lt k row) [
  | inl earlier ↦ below k d earlier low
  | inr le ↦ (let there : row ≡ k = omega (arith, before, le) in subst (λ (n : ℕ). (get_or rows n d).doc.id < id) there (let here = id_is rows row own d lt is in omega (arith, here, less)))
]

pub first_past : (rows : List DocRow) (id row count : ℕ) → AreBelow id row rows → count ≡ length rows → count ≤ row → IsFirst id count rows
first_past rows id row count below are le = record {
  within = omega (arith, are);
  below = λ k d lt low. below k d (omega (arith, lt, le)) low;
  behind = λ k d from low. absurd (omega (arith, from, low, are));
}

-- ---- two chunks

-- the first rows of others, so many, have ids below those of the rows from this one on
abbrev pub AreBefore : ℕ → List DocRow → ℕ → List DocRow → Type 0
AreBefore at others row rows = (k j : ℕ) (d e : DocRow) → k < at → k < length others → row ≤ j → j < length rows → (get_or others k d).doc.id < (get_or rows j e).doc.id

pub before_id : (at : ℕ) (others : List DocRow) (row id : ℕ) (rows : List DocRow) → AreBefore at others row rows → row < length rows → option_map (λ (found : DocRow). found.doc.id) (slice_get rows row) ≡ Some id → AreBelow id at others
before_id at others row id rows before lt is k d less low =
    let e = (some_row rows row lt).0 in
    let above = before k row d e less low (omega arith) lt in
    let here = id_is rows row id e lt is in
    omega (arith, above, here)

pub before_next : (at : ℕ) (others : List DocRow) (row id : ℕ) (rows : List DocRow) → Ascend rows → IsFirst id at others → row < length rows → option_map (λ (found : DocRow). found.doc.id) (slice_get rows row) ≡ Some id → AreBefore at others (row + 1) rows
before_next at others row id rows up first lt is k j d e less low from in_rows =
    let under = first.below k d less low in
    let here = id_is rows row id e lt is in
    let above = up row j e (omega (arith, from)) in_rows in
    omega (arith, under, here, above)

-- an id that lives in one layer
lives_one : (other : LayerValue) (id : ℕ) → IsLayer other → has_living other id ≡ list_any (λ row. row.doc.id == id) (all_living (other ∷ []))
lives_one other id are = sym (or_nothing (has_living other id)) ∙ lives_are (other ∷ []) id (All-cons IsLayer other [] are (All-nil IsLayer))
  where
    or_nothing : (b : Bool) → (b || false) ≡ b
    or_nothing true = refl
    or_nothing false = refl

again_by : (other layer : LayerValue) (row id : ℕ) (found : DocRow) (b : Bool) → IsLayer other → found.doc.id ≡ id → has_living other id ≡ b → is_again (other ∷ []) layer (row, found) ≡ (not (is_dead layer row) && b)
again_by other layer row id found b are same is =
    ap (λ (n : ℕ). not (is_dead layer row) && list_any (λ (r : DocRow). r.doc.id == n) (all_living (other ∷ []))) same
    ∙ ap (λ (l : Bool). not (is_dead layer row) && l) (sym (lives_one other id are) ∙ is)

pub again_not : (other layer : LayerValue) (row id : ℕ) (found : DocRow) → IsLayer other → found.doc.id ≡ id → has_living other id ≡ false → false ≡ is_again (other ∷ []) layer (row, found)
again_not other layer row id found are same is = sym (again_by other layer row id found false are same is ∙ nothing (not (is_dead layer row)))
  where
    nothing : (b : Bool) → (b && false) ≡ false
    nothing true = refl
    nothing false = refl

pub again_unless : (other layer : LayerValue) (row id : ℕ) (found : DocRow) (dead : Bool) → IsLayer other → found.doc.id ≡ id → has_living other id ≡ true → dead ≡ is_dead layer row → not dead ≡ is_again (other ∷ []) layer (row, found)
again_unless other layer row id found dead are same is gone = ap not gone ∙ sym (again_by other layer row id found true are same is ∙ all (not (is_dead layer row)))
  where
    all : (b : Bool) → (b && true) ≡ b
    all true = refl
    all false = refl

-- ---- layers one after the other

-- the first that passes one of two tests
either_from : {X : Type 0} (p q : X → Bool) (n : ℕ) (xs : List X) → position_from (λ x. p x || q x) n xs ≡ sooner (position_from p n xs) (position_from q n xs)
either_from p q n [] = refl
either_from {X} p q n (x ∷ xs) =
    elim (p x) as (λ b. cond (b || q x) (Some n) (position_from (λ x. p x || q x) (n + 1) xs) ≡ sooner (cond b (Some n) (position_from p (n + 1) xs)) (cond (q x) (Some n) (position_from q (n + 1) xs))) [
      | true ↦ elim (q x) as (λ c. Some n ≡ sooner (Some n) (cond c (Some n) (position_from q (n + 1) xs))) [
        | true ↦ ap Some (omega arith)
        | false ↦ first_of n (n + 1) xs (omega arith)
      ]
      | false ↦ elim (q x) as (λ c. cond c (Some n) (position_from (λ x. p x || q x) (n + 1) xs) ≡ sooner (position_from p (n + 1) xs) (cond c (Some n) (position_from q (n + 1) xs))) [
        | true ↦ other_of n (n + 1) xs (omega arith)
        | false ↦ either_from p q (n + 1) xs
      ]
    ]
  where
    first_of : (low n : ℕ) (xs : List X) → low < n → Some low ≡ sooner (Some low) (position_from q n xs)
    first_of low n [] lt = refl
    first_of low n (x ∷ xs) lt = elim (q x) as (λ c. Some low ≡ sooner (Some low) (cond c (Some n) (position_from q (n + 1) xs))) [
      | true ↦ ap Some (omega (arith, lt))
      | false ↦ first_of low (n + 1) xs (omega (arith, lt))
    ]

    other_of : (low n : ℕ) (xs : List X) → low < n → Some low ≡ sooner (position_from p n xs) (Some low)
    other_of low n [] lt = refl
    other_of low n (x ∷ xs) lt = elim (p x) as (λ c. Some low ≡ sooner (cond c (Some n) (position_from p (n + 1) xs)) (Some low)) [
      | true ↦ ap Some (omega (arith, lt))
      | false ↦ other_of low (n + 1) xs (omega (arith, lt))
    ]

either : {X : Type 0} (p q : X → Bool) (xs : List X) → position (λ x. p x || q x) xs ≡ sooner (position p xs) (position q xs)
either p q xs = position_from-zero (λ x. p x || q x) xs ∙ either_from p q 0 xs ∙ (λ i. sooner (sym (position_from-zero p xs) i) (sym (position_from-zero q xs) i))

again_either : (before : List LayerValue) (other layer : LayerValue) (e : ℕ × DocRow) → is_again (before ++ other ∷ []) layer e ≡ (is_again before layer e || is_again (other ∷ []) layer e)
again_either before other layer e =
    let has : List DocRow → Bool = list_any (λ row. row.doc.id == e.1.doc.id) in
    ap (λ (rows : List DocRow). not (is_dead layer e.0) && has rows) (flat_map-append living before (other ∷ []))
    ∙ ap (λ (b : Bool). not (is_dead layer e.0) && b) (list_any-append (λ (row : DocRow). row.doc.id == e.1.doc.id) (all_living before) (all_living (other ∷ [])))
    ∙ and-or_distrib_left (not (is_dead layer e.0)) (has (all_living before)) (has (all_living (other ∷ [])))

pub again_more : (before : List LayerValue) (other layer : LayerValue) → again_in (before ++ other ∷ []) layer ≡ sooner (again_in before layer) (again_in (other ∷ []) layer)
again_more before other layer =
    (λ i. position (λ e. again_either before other layer e i) (enumerate_from 0 layer.rows)) ∙ either (is_again before layer) (is_again (other ∷ []) layer) (enumerate_from 0 layer.rows)

pub again_nothing : (layer : LayerValue) → None ≡ again_in [] layer
again_nothing layer = sym (none_found (is_again [] layer) (length (enumerate_from 0 layer.rows)) (enumerate_from 0 layer.rows) (λ k d lt low. nothing (not (is_dead layer (get_or (enumerate_from 0 layer.rows) k d).0))) (omega arith))
  where
    nothing : (b : Bool) → (b && false) ≡ false
    nothing true = refl
    nothing false = refl

-- one layer more
pub again_next : (layers : List LayerValue) (i : ℕ) (other layer : LayerValue) (first its now : Option ℕ) → i < length layers → get_or layers i other ≡ other → first ≡ again_in (take i layers) layer → its ≡ again_in (other ∷ []) layer → now ≡ sooner first its → now ≡ again_in (take (i + 1) layers) layer
again_next layers i other layer first its now lt is so one both =
    both ∙ (λ j. sooner (so j) (one j)) ∙ sym (again_more (take i layers) other layer) ∙ ap (λ (ls : List LayerValue). again_in ls layer) (sym (take_more layers i other lt ∙ ap (λ (l : LayerValue). take i layers ++ l ∷ []) is))
