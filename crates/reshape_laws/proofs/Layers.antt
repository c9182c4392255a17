-- Layers: what lives in them by parts, and where some rows are left out.
use Rattle.std.proofs.Common.{◌≡◌, ℕ, ◌+◌, ◌<◌, ◌≤◌, List, [], ◌∷◌, ◌++◌, Bool, true, false, ◌==◌, ◌||◌, not, cond, map, length, refl, sym, ap, subst, ◌∙◌, arith, append_assoc, append-nil}
use Rattle.std.specs.List.{filter, list_any, enumerate_from}
use Rattle.std.specs.List.Sorted.{IsPermutation}
use Rattle.std.proofs.lemmas.Bool.Decides.{nat_tests}
use Rattle.std.proofs.lemmas.List.Elements.{filter-append, filter_agree}
use Rattle.std.proofs.lemmas.List.Folds.{list_any-append}
use Rattle.std.proofs.lemmas.List.Sorted.{IsPermutation-refl, IsPermutation-trans, IsPermutation-append_right, IsPermutation-append_left, IsPermutation-append_comm}
use Rattle.doc_types.specs.declared.documents.DocRow.{DocRow}
use Rattle.doc_types.specs.Snapshots.{LayerValue, all_living, living, is_dead}
use Rattle.reshape_laws.specs.Rebasing.{less, layer_with, lives, new_layers, has_id}
use Rattle.std.specs.Prelude.{nat_lt}
use Rattle.std.proofs.Common.{suc}

differ : (a b : ℕ) → a < b → (a == b) ≡ false
differ a b h = grind (arith, nat_tests)

differ' : (a b : ℕ) → b < a → (a == b) ≡ false
differ' a b h = grind (arith, nat_tests)

same : (a : ℕ) → (a == a) ≡ true
same a = grind (arith, nat_tests)

or_true : (b : Bool) → (b || true) ≡ true
or_true true = refl
or_true false = refl

-- the numbers of the elements that pass
abbrev numbers : {X : Type 0} → (ℕ × X → Bool) → ℕ → List X → List ℕ
numbers t n xs = map (λ e. e.0) (filter t (enumerate_from n xs))

low : {X : Type 0} (t : ℕ × X → Bool) (n k : ℕ) → k < n → (xs : List X) → list_any (λ d. d == k) (numbers t n xs) ≡ false
low t n k l [] = refl
low {X} t n k l (x ∷ xs) =
    let rest : list_any (λ d. d == k) (numbers t (n + 1) xs) ≡ false = low t (n + 1) k (omega (arith, l)) xs in
    elim (t (n, x)) as (λ b. list_any (λ d. d == k) (map (λ (e : ℕ × X). e.0) (cond b ((n, x) ∷ filter t (enumerate_from (n + 1) xs)) (filter t (enumerate_from (n + 1) xs)))) ≡ false) [
      | true ↦ rw (differ' n k l) rest
      | false ↦ rest
    ]

-- to leave out the numbers of those that pass is to keep those that don't
filtered : {X : Type 0} (t : ℕ × X → Bool) (before : List ℕ) (n : ℕ) → ((k : ℕ) → n ≤ k → list_any (λ d. d == k) before ≡ false) → (xs : List X)
    → filter (λ e. not (list_any (λ d. d == e.0) (before ++ numbers t n xs))) (enumerate_from n xs) ≡ filter (λ e. not (t e)) (enumerate_from n xs)
filtered t before n none [] = refl
filtered {X} t before n none (x ∷ xs) =
    let R = filter t (enumerate_from (n + 1) xs) in
    let G = filter (λ e. not (t e)) (enumerate_from (n + 1) xs) in
    elim (t (n, x)) as (λ b. filter (λ (e : ℕ × X). not (list_any (λ d. d == e.0) (before ++ map (λ (e : ℕ × X). e.0) (cond b ((n, x) ∷ R) R)))) ((n, x) ∷ enumerate_from (n + 1) xs) ≡ cond (not b) ((n, x) ∷ G) G) [
      | true ↦
          let out : list_any (λ d. d == n) (before ++ n ∷ map (λ (e : ℕ × X). e.0) R) ≡ true = list_any-append (λ d. d == n) before (n ∷ map (λ (e : ℕ × X). e.0) R) ∙ rw (same n) (or_true (list_any (λ d. d == n) before)) in
          let none' : (k : ℕ) → n + 1 ≤ k → list_any (λ d. d == k) (before ++ n ∷ []) ≡ false = λ k l. list_any-append (λ d. d == k) before (n ∷ []) ∙ rw (none k (omega (arith, l)), differ n k (omega (arith, l))) refl in
          let rest = filtered t (before ++ n ∷ []) (n + 1) none' xs in
          let rest' : filter (λ (e : ℕ × X). not (list_any (λ d. d == e.0) (before ++ n ∷ map (λ (e : ℕ × X). e.0) R))) (enumerate_from (n + 1) xs) ≡ G = subst (λ ds. filter (λ (e : ℕ × X). not (list_any (λ d. d == e.0) ds)) (enumerate_from (n + 1) xs) ≡ G) (append_assoc before (n ∷ []) (map (λ (e : ℕ × X). e.0) R)) rest in
          rw out rest'
      | false ↦
          let out : list_any (λ d. d == n) (before ++ map (λ (e : ℕ × X). e.0) R) ≡ false = list_any-append (λ d. d == n) before (map (λ (e : ℕ × X). e.0) R) ∙ rw (none n (omega arith), low t (n + 1) n (omega arith) xs) refl in
          let none' : (k : ℕ) → n + 1 ≤ k → list_any (λ d. d == k) before ≡ false = λ k l. none k (omega (arith, l)) in
          rw out (ap (λ es. (n, x) ∷ es) (filtered t before (n + 1) none' xs))
    ]

both : {X : Type 0} (q : ℕ → Bool) (p : X → Bool) (es : List (ℕ × X)) → map (λ e. e.1) (filter (λ e. not (q e.0 || p e.1)) es) ≡ filter (λ x. not (p x)) (map (λ e. e.1) (filter (λ e. not (q e.0)) es))
both q p [] = refl
both {X} q p (e ∷ es) =
    let rest = both q p es in
    elim (q e.0) as (λ b. map (λ (e : ℕ × X). e.1) (cond (not (b || p e.1)) (e ∷ filter (λ e. not (q e.0 || p e.1)) es) (filter (λ e. not (q e.0 || p e.1)) es)) ≡ filter (λ x. not (p x)) (map (λ (e : ℕ × X). e.1) (cond (not b) (e ∷ filter (λ e. not (q e.0)) es) (filter (λ e. not (q e.0)) es)))) [
      | true ↦ rest
      | false ↦ elim (p e.1) as (λ c. map (λ (e : ℕ × X). e.1) (cond (not c) (e ∷ filter (λ e. not (q e.0 || p e.1)) es) (filter (λ e. not (q e.0 || p e.1)) es)) ≡ cond (not c) (e.1 ∷ filter (λ x. not (p x)) (map (λ (e : ℕ × X). e.1) (filter (λ e. not (q e.0)) es))) (filter (λ x. not (p x)) (map (λ (e : ℕ × X). e.1) (filter (λ e. not (q e.0)) es)))) [
        | true ↦ rest
        | false ↦ ap (λ xs. e.1 ∷ xs) rest
      ]
    ]

-- the rows that pass are left out
pub living_less : (p : DocRow → Bool) (layer : LayerValue) → living (less p layer) ≡ filter (λ row. not (p row)) (living layer)
living_less p layer =
    ap (map (λ (e : ℕ × DocRow). e.1)) (filtered (λ e. is_dead layer e.0 || p e.1) [] 0 (λ k l. refl) layer.rows)
    ∙ both (is_dead layer) p (enumerate_from 0 layer.rows)

pub all_less : (p : DocRow → Bool) (layers : List LayerValue) → all_living (map (less p) layers) ≡ filter (λ row. not (p row)) (all_living layers)
all_less p [] = refl
all_less p (layer ∷ layers) =
    rw (living_less p layer, all_less p layers) (sym (filter-append (λ row. not (p row)) (living layer) (all_living layers)))

kept : {X : Type 0} (n : ℕ) (xs : List X) → map (λ (e : ℕ × X). e.1) (filter (λ (e : ℕ × X). not (list_any (λ d. d == e.0) [])) (enumerate_from n xs)) ≡ xs
kept n [] = refl
kept n (x ∷ xs) = ap (λ ys. x ∷ ys) (kept (n + 1) xs)

not_not : (b : Bool) → not (not b) ≡ b
not_not true = refl
not_not false = refl

pub layer_living : (rows live : List DocRow) → living (layer_with rows live) ≡ filter (λ row. has_id live row.doc.id) rows
layer_living rows live =
    living_less (λ row. not (has_id live row.doc.id)) (record { rows = rows; disk = true; dead = [] })
    ∙ ap (filter (λ (row : DocRow). not (not (has_id live row.doc.id)))) (kept 0 rows)
    ∙ filter_agree (λ (row : DocRow). not (not (has_id live row.doc.id))) (λ row. has_id live row.doc.id) (λ row. not_not (has_id live row.doc.id)) rows

pub new_living : (rows live : List DocRow) → all_living (new_layers rows live) ≡ filter (λ row. has_id live row.doc.id) rows
new_living [] live = refl
new_living (row ∷ rows) live = append-nil (living (layer_with (row ∷ rows) live)) ∙ layer_living (row ∷ rows) live

abbrev pub on : LayerValue → Bool
on layer = layer.disk

abbrev pub off : LayerValue → Bool
off layer = not layer.disk

-- what lives on the disk and what lives in memory is all that lives
pub parts : (layers : List LayerValue) → IsPermutation (all_living layers) (all_living (filter on layers) ++ all_living (filter off layers))
parts [] = IsPermutation-refl []
parts (layer ∷ layers) =
    let D = all_living (filter on layers) in
    let M = all_living (filter off layers) in
    let L = living layer in
    let rest : IsPermutation (L ++ all_living layers) (L ++ (D ++ M)) = IsPermutation-append_right L (all_living layers) (D ++ M) (parts layers) in
    elim layer.disk as (λ b. IsPermutation (L ++ all_living layers) (all_living (cond b (layer ∷ filter on layers) (filter on layers)) ++ all_living (cond (not b) (layer ∷ filter off layers) (filter off layers)))) [
      | true ↦ subst (IsPermutation (L ++ all_living layers)) (sym (append_assoc L D M)) rest
      | false ↦
          let over : IsPermutation ((L ++ D) ++ M) ((D ++ L) ++ M) = IsPermutation-append_left M (L ++ D) (D ++ L) (IsPermutation-append_comm L D) in
          subst (IsPermutation (L ++ all_living layers)) (append_assoc D L M) (IsPermutation-trans (L ++ all_living layers) ((L ++ D) ++ M) ((D ++ L) ++ M) (subst (IsPermutation (L ++ all_living layers)) (sym (append_assoc L D M)) rest) over)
    ]

pub on_again : (layers : List LayerValue) → filter on (filter on layers) ≡ filter on layers
on_again [] = refl
on_again (layer ∷ layers) =
    elim layer.disk as (λ b. layer.disk ≡ b → filter on (cond b (layer ∷ filter on layers) (filter on layers)) ≡ cond b (layer ∷ filter on layers) (filter on layers)) [
      | true ↦ λ e. ap (λ c. cond c (layer ∷ filter on (filter on layers)) (filter on (filter on layers))) e ∙ ap (λ ls. layer ∷ ls) (on_again layers)
      | false ↦ λ e. on_again layers
    ] refl

pub none_on : (p : DocRow → Bool) (layers : List LayerValue) → filter on (map (less p) (filter off layers)) ≡ []
none_on p [] = refl
none_on p (layer ∷ layers) =
    elim layer.disk as (λ b. layer.disk ≡ b → filter on (map (less p) (cond (not b) (layer ∷ filter off layers) (filter off layers))) ≡ []) [
      | true ↦ λ e. none_on p layers
      | false ↦ λ e. rw e (none_on p layers)
    ] refl

pub new_on : (rows live : List DocRow) → filter on (new_layers rows live) ≡ new_layers rows live
new_on [] live = refl
new_on (row ∷ rows) live = refl

-- layers in which no row lives may be left out
positive : (n : ℕ) → nat_lt 0 (suc n) ≡ true
positive n = grind (arith, nat_tests)

none_of : {X : Type 0} (xs : List X) → nat_lt 0 (length xs) ≡ false → xs ≡ []
none_of [] e = refl
none_of (x ∷ xs) e = absurd (cc (e, positive (length xs)))

pub all_lives : (layers : List LayerValue) → all_living (filter lives layers) ≡ all_living layers
all_lives [] = refl
all_lives (layer ∷ layers) =
    elim (lives layer) as (λ (b : Bool). lives layer ≡ b → all_living (cond b (layer ∷ filter lives layers) (filter lives layers)) ≡ living layer ++ all_living layers) [
      | true ↦ λ e. ap (λ rows. living layer ++ rows) (all_lives layers)
      | false ↦ λ e. all_lives layers ∙ ap (λ rows. rows ++ all_living layers) (sym (none_of (living layer) e))
    ] refl

pub still_none : (p q : LayerValue → Bool) (layers : List LayerValue) → filter p layers ≡ [] → filter p (filter q layers) ≡ []
still_none p q [] e = refl
still_none p q (layer ∷ layers) e =
    elim (p layer) as (λ (b : Bool). p layer ≡ b → cond b (layer ∷ filter p layers) (filter p layers) ≡ [] → filter p (cond (q layer) (layer ∷ filter q layers) (filter q layers)) ≡ []) [
      | true ↦ λ h e. absurd (cc (e))
      | false ↦ λ h e. elim (q layer) as (λ (c : Bool). filter p (cond c (layer ∷ filter q layers) (filter q layers)) ≡ []) [
        | true ↦ ap (λ (b : Bool). cond b (layer ∷ filter p (filter q layers)) (filter p (filter q layers))) h ∙ still_none p q layers e
        | false ↦ still_none p q layers e
      ]
    ] refl e
