-- Where no row lives whose id lives in a chunk before, no id lives twice.
use Rattle.std.proofs.Common.{◌≡◌, ◌≢◌, inl, inr, ◌≤◌, take, ℕ, zero, suc, ◌+◌, ◌<◌, List, [], ◌∷◌, ◌++◌, Bool, true, false, cond, ◌==◌, ◌||◌, ◌&&◌, not, Some, None, map, length, get_or, refl, sym, ◌∙◌, ap, subst, arith, append-nil, append_assoc, All, AllPairs}
use Rattle.std.specs.List.{AllZip, enumerate_from, filter, list_any, position, position_from}
use Rattle.std.proofs.lemmas.Bool.{cases_lt}
use Rattle.std.proofs.lemmas.Bool.Decides.{nat_tests}
use Rattle.std.proofs.lemmas.List.{get_or_default}
use Rattle.std.proofs.lemmas.Grind.{flat_map-append}
use Rattle.std.proofs.lemmas.Iterator.Adapters.{position_from-zero}
use Rattle.std.proofs.lemmas.List.Elements.{All-append, All-cons, All-head, All-nil, All-tail}
use Rattle.std.proofs.lemmas.List.Kept.{AllPairs-cons}
use Rattle.doc_types.specs.declared.documents.DocRow.{DocRow}
use Rattle.doc_types.specs.declared.schema.Schema.{Schema}
use Rattle.doc_types.specs.Snapshots.{LayerValue, all_living, is_dead, living}
use Rattle.root_slots.specs.declared.state.ChunkEntry.{ChunkEntry}
use Rattle.chunk_damage.specs.Header.{row_at}
use Rattle.store_steps.specs.Damage.{IsAgain, again_in, is_again}
use Rattle.store_steps.specs.declared.damage.Damage.{Damage}
use Rattle.store_steps.specs.declared.damage.DamageKind.TheVariants as kinds
use Rattle.store_steps.specs.Directory.{IsChunkOf, layer_from, layers_from}
use Rattle.store_steps.proofs.Apart.{AreApart}
use Rattle.chunk_files.specs.steps.Files.{damaged}
use Rattle.chunk_files.specs.steps.Rests.{NoneAgain, ReadsAgain}

none_each : {X : Type 0} (p : X → Bool) (n : ℕ) (xs : List X) → position_from p n xs ≡ None → All (λ x. p x ≡ false) xs
none_each p n [] is = All-nil (λ x. p x ≡ false)
none_each {X} p n (x ∷ xs) is =
    elim (p x) as (λ b. p x ≡ b → cond b (Some n) (position_from p (n + 1) xs) ≡ None → All (λ x. p x ≡ false) (x ∷ xs)) [
      | true ↦ λ e is. absurd cc
      | false ↦ λ e is. All-cons (λ (x : X). p x ≡ false) x xs e (none_each p (n + 1) xs is)
    ] refl is

pub none_of : {X : Type 0} (p : X → Bool) (xs : List X) → position p xs ≡ None → All (λ x. p x ≡ false) xs
none_of p xs is = none_each p 0 xs (sym (position_from-zero p xs) ∙ is)

-- the elements whose numbers aren't out
abbrev left : (ℕ → Bool) → List (ℕ × DocRow) → List DocRow
left out es = map (λ e. e.1) (filter (λ e. not (out e.0)) es)

left_all : (out : ℕ → Bool) (P : DocRow → Type 0) (n : ℕ) (rows : List DocRow) → All P rows → All P (left out (enumerate_from n rows))
left_all out P n [] all = All-nil P
left_all out P n (row ∷ rows) all =
    let rest = left_all out P (n + 1) rows (All-tail P row rows all) in
    elim (not (out n)) as (λ b. All P (map (λ (e : ℕ × DocRow). e.1) (cond b ((n, row) ∷ filter (λ e. not (out e.0)) (enumerate_from (n + 1) rows)) (filter (λ e. not (out e.0)) (enumerate_from (n + 1) rows))))) [
      | true ↦ All-cons P row (left out (enumerate_from (n + 1) rows)) (All-head P row rows all) rest
      | false ↦ rest
    ]

left_apart : (out : ℕ → Bool) (n : ℕ) (rows : List DocRow) → AllPairs (λ row later. row.doc.id < later.doc.id) rows → AreApart (left out (enumerate_from n rows))
left_apart out n [] up = λ i j d l h. absurd (omega (arith, h))
left_apart out n (row ∷ rows) up =
    let later : All (λ other. row.doc.id < other.doc.id) rows = λ k d h. up 0 (suc k) d (omega arith) (omega (arith, h)) in
    let rest = left_apart out (n + 1) rows (λ i j d l h. up (suc i) (suc j) d (omega (arith, l)) (omega (arith, h))) in
    elim (not (out n)) as (λ b. AreApart (map (λ (e : ℕ × DocRow). e.1) (cond b ((n, row) ∷ filter (λ e. not (out e.0)) (enumerate_from (n + 1) rows)) (filter (λ e. not (out e.0)) (enumerate_from (n + 1) rows))))) [
      | true ↦ AllPairs-cons (λ (row other : DocRow). row.doc.id ≢ other.doc.id) row (left out (enumerate_from (n + 1) rows))
          (left_all out (λ (other : DocRow). row.doc.id ≢ other.doc.id) (n + 1) rows (λ k d h e. absurd (omega (arith, e, later k d h)))) rest
      | false ↦ rest
    ]

-- rows that live aren't again
lives_not : (out : ℕ → Bool) (test : DocRow → Bool) (es : List (ℕ × DocRow)) → All (λ e. (not (out e.0) && test e.1) ≡ false) es → All (λ row. test row ≡ false) (left out es)
lives_not out test [] all = All-nil (λ (row : DocRow). test row ≡ false)
lives_not out test (e ∷ es) all =
    let here = All-head (λ (e : ℕ × DocRow). (not (out e.0) && test e.1) ≡ false) e es all in
    let rest = lives_not out test es (All-tail (λ (e : ℕ × DocRow). (not (out e.0) && test e.1) ≡ false) e es all) in
    elim (not (out e.0)) as (λ b. (b && test e.1) ≡ false → All (λ row. test row ≡ false) (map (λ (e : ℕ × DocRow). e.1) (cond b (e ∷ filter (λ e. not (out e.0)) es) (filter (λ e. not (out e.0)) es)))) [
      | true ↦ λ is. All-cons (λ (row : DocRow). test row ≡ false) e.1 (left out es) is rest
      | false ↦ λ is. rest
    ] here

pairs_append : (xs ys : List DocRow) → AreApart xs → AreApart ys → (P : DocRow → Type 0) → All P ys → All (λ row. (other : DocRow) → P other → row.doc.id ≢ other.doc.id) xs → AreApart (xs ++ ys)
pairs_append [] ys px py P all cross = py
pairs_append (x ∷ xs) ys px py P all cross =
    AllPairs-cons (λ (row other : DocRow). row.doc.id ≢ other.doc.id) x (xs ++ ys)
    (All-append (λ (other : DocRow). x.doc.id ≢ other.doc.id) xs ys (λ k d h. px 0 (suc k) d (omega arith) (omega (arith, h))) (λ k d h. All-head (λ (row : DocRow). (other : DocRow) → P other → row.doc.id ≢ other.doc.id) x xs cross (get_or ys k d) (all k d h)))
    (pairs_append xs ys (λ i j d l h. px (suc i) (suc j) d (omega (arith, l)) (omega (arith, h))) py P all (All-tail (λ (row : DocRow). (other : DocRow) → P other → row.doc.id ≢ other.doc.id) x xs cross))

-- no row has the id
abbrev HasNone : List DocRow → ℕ → Type 0
HasNone rows id = list_any (λ row. row.doc.id == id) rows ≡ false

eq_true : (a b : ℕ) → a ≡ b → (a == b) ≡ true
eq_true a b h = grind (arith, nat_tests)

or_false : (a b : Bool) → (a || b) ≡ false → (a ≡ false) × (b ≡ false)
or_false true b is = absurd cc
or_false false b is = (refl, is)

ids_differ : (rows : List DocRow) → All (λ row. (other : DocRow) → HasNone rows other.doc.id → row.doc.id ≢ other.doc.id) rows
ids_differ rows = each rows
  where
    each : (rows : List DocRow) → All (λ row. (other : DocRow) → HasNone rows other.doc.id → row.doc.id ≢ other.doc.id) rows
    each [] = All-nil (λ (row : DocRow). (other : DocRow) → HasNone [] other.doc.id → row.doc.id ≢ other.doc.id)
    each (row ∷ rows) =
        let Differs : DocRow → Type 0 = λ r. (other : DocRow) → HasNone (row ∷ rows) other.doc.id → r.doc.id ≢ other.doc.id in
        All-cons Differs row rows
        (λ other none e. (let here = (or_false (row.doc.id == other.doc.id) (list_any (λ r. r.doc.id == other.doc.id) rows) none).0 in let there = eq_true row.doc.id other.doc.id e in absurd cc))
        (λ k d h other none. each rows k d h other (or_false (row.doc.id == other.doc.id) (list_any (λ r. r.doc.id == other.doc.id) rows) none).1)

-- one layer more
apart_more : (before : List LayerValue) (layer : LayerValue) → AllPairs (λ row later. row.doc.id < later.doc.id) layer.rows → AreApart (all_living before) → again_in before layer ≡ None → AreApart (all_living (before ++ layer ∷ []))
apart_more before layer up apart none =
    let all = lives_not (is_dead layer) (λ row. list_any (λ other. other.doc.id == row.doc.id) (all_living before)) (enumerate_from 0 layer.rows) (none_of (is_again before layer) (enumerate_from 0 layer.rows) none) in
    subst AreApart (sym (flat_map-append living before (layer ∷ []) ∙ ap (λ (rows : List DocRow). all_living before ++ rows) (append-nil (living layer))))
    (pairs_append (all_living before) (living layer) apart (left_apart (is_dead layer) 0 layer.rows up) (λ row. HasNone (all_living before) row.doc.id) all (ids_differ (all_living before)))

pub apart_all : (schema : Schema) (through : ℕ) (before : List LayerValue) (entries : List ChunkEntry) (chunks : List (List DocRow)) → AllZip (IsChunkOf schema through) entries chunks → AreApart (all_living before) → NoneAgain before entries chunks → AreApart (all_living (before ++ layers_from entries chunks))
apart_all schema through before [] [] rows apart none = subst (λ (ls : List LayerValue). AreApart (all_living ls)) (sym (append-nil before)) apart
apart_all schema through before [] (rs ∷ chunks) rows apart none = absurd rows
apart_all schema through before (entry ∷ entries) [] rows apart none = absurd rows
apart_all schema through before (entry ∷ entries) (rs ∷ chunks) rows apart none =
    subst (λ (ls : List LayerValue). AreApart (all_living ls)) (append_assoc before (layer_from entry rs ∷ []) (layers_from entries chunks))
    (apart_all schema through (before ++ layer_from entry rs ∷ []) entries chunks rows.1 (apart_more before (layer_from entry rs) rows.0.of.ids apart none.0) none.1)

-- ---- layers one after the other

-- no row of so many layers is again
abbrev pub NoneFront : ℕ → List LayerValue → Type 0
NoneFront n layers = (k : ℕ) (d : LayerValue) → k < n → k < length layers → again_in (take k layers) (get_or layers k d) ≡ None

-- of these none is
abbrev NoneAt : List LayerValue → List LayerValue → ℕ → Type 0
NoneAt before layers n = (k : ℕ) (d : LayerValue) → k < n → k < length layers → again_in (before ++ take k layers) (get_or layers k d) ≡ None

later_at : (before : List LayerValue) (layer : LayerValue) (layers : List LayerValue) (n : ℕ) → NoneAt before (layer ∷ layers) (suc n) → NoneAt (before ++ layer ∷ []) layers n
later_at before layer layers n none k d lt low =
    ap (λ (ls : List LayerValue). again_in ls (get_or layers k d)) (append_assoc before (layer ∷ []) (take k layers)) ∙ none (suc k) d (omega (arith, lt)) (omega (arith, low))

none_from_all : (before : List LayerValue) (entries : List ChunkEntry) (chunks : List (List DocRow)) → ((n : ℕ) → NoneAt before (layers_from entries chunks) n) → NoneAgain before entries chunks
none_from_all before [] chunks none = tt
none_from_all before (entry ∷ entries) [] none = tt
none_from_all before (entry ∷ entries) (rs ∷ chunks) none = (
  ap (λ (ls : List LayerValue). again_in ls (layer_from entry rs)) (sym (append-nil before)) ∙ none 1 0 (layer_from entry rs) (omega arith) (omega arith),
  none_from_all (before ++ layer_from entry rs ∷ []) entries chunks (λ n. later_at before (layer_from entry rs) (layers_from entries chunks) n (none (suc n))),
)

pub none_again : (entries : List ChunkEntry) (chunks : List (List DocRow)) (layers : List LayerValue) (n : ℕ) → layers ≡ layers_from entries chunks → length layers ≤ n → NoneFront n layers → NoneAgain [] entries chunks
none_again entries chunks layers n are all none = none_from_all [] entries chunks (λ m k d lt low. subst (λ (ls : List LayerValue). k < length ls → again_in (take k ls) (get_or ls k d) ≡ None) are (λ low. none k d (omega (arith, low, all)) low) low)

pub none_front_more : (n : ℕ) (layers : List LayerValue) (layer : LayerValue) → NoneFront n layers → get_or layers n layer ≡ layer → again_in (take n layers) layer ≡ None → NoneFront (n + 1) layers
none_front_more n layers layer none here is k d lt low = elim (cases_lt k n) [
  | inl earlier ↦ none k d earlier low
  | inr le ↦
      let at : k ≡ n = omega (arith, lt, le) in
      ap (λ (m : ℕ). again_in (take m layers) (get_or layers m d)) at ∙ ap (again_in (take n layers)) (get_or_default layers n d layer (omega (arith, low, at)) ∙ here) ∙ is
]

some_at : (before : List LayerValue) (entries : List ChunkEntry) (chunks : List (List DocRow)) (n row file : ℕ) (e : ChunkEntry) (layer : LayerValue) → NoneAt before (layers_from entries chunks) n → n < length (layers_from entries chunks) → get_or (layers_from entries chunks) n layer ≡ layer
    → again_in (before ++ take n (layers_from entries chunks)) layer ≡ Some row → file ≡ (get_or entries n e).file → IsAgain before entries chunks file row
some_at before [] chunks n row file e layer none lt here is at = absurd (omega (arith, lt))
some_at before (entry ∷ entries) [] n row file e layer none lt here is at = absurd (omega (arith, lt))
some_at before (entry ∷ entries) (rs ∷ chunks) zero row file e layer none lt here is at =
    inl (ap (λ (ls : List LayerValue). again_in ls (layer_from entry rs)) (sym (append-nil before)) ∙ ap (again_in (before ++ [])) here ∙ is, at)
some_at before (entry ∷ entries) (rs ∷ chunks) (suc n) row file e layer none lt here is at =
    inr (
      ap (λ (ls : List LayerValue). again_in ls (layer_from entry rs)) (sym (append-nil before)) ∙ none 0 (layer_from entry rs) (omega arith) (omega arith),
      some_at (before ++ layer_from entry rs ∷ []) entries chunks n row file e layer (later_at before (layer_from entry rs) (layers_from entries chunks) n none) (omega (arith, lt)) here
          (ap (λ (ls : List LayerValue). again_in ls layer) (append_assoc before (layer_from entry rs ∷ []) (take n (layers_from entries chunks))) ∙ is) at,
    )

pub some_again : (schema : Schema) (entries : List ChunkEntry) (chunks : List (List DocRow)) (layers : List LayerValue) (n row : ℕ) (e : ChunkEntry) (layer : LayerValue) (damage : Damage) → layers ≡ layers_from entries chunks → NoneFront n layers → n < length layers → get_or layers n layer ≡ layer → again_in (take n layers) layer ≡ Some row
    → damage ≡ damaged (get_or entries n e).file (row_at schema row) kinds.IdTwice → ReadsAgain schema [] entries chunks (Some damage)
some_again schema entries chunks layers n row e layer damage are none lt here is damage_is =
    let file : damage.file ≡ (get_or entries n e).file = ap (λ (d : Damage). d.file) damage_is in (
      row,
      some_at [] entries chunks n row damage.file e layer (subst (NoneFront n) are none) (subst (λ (ls : List LayerValue). n < length ls) are lt) (ap (λ (ls : List LayerValue). get_or ls n layer) (sym are) ∙ here) (ap (λ (ls : List LayerValue). again_in (take n ls) layer) (sym are) ∙ is) file,
      damage_is ∙ ap (λ (f : ℕ). damaged f (row_at schema row) kinds.IdTwice) (sym file),
    )
