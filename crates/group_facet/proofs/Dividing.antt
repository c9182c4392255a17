-- Rows in parts by a key, with what is kept of each part: with one row more.
use Rattle.std.proofs.Common.{◌≡◌, ℤ, Bool, true, false, ◌||◌, List, [], ◌∷◌, ◌++◌, All, cond, filter, if◌then◌else◌, map, None, Some, refl, sym, subst, ◌∙◌, ap, true≢false, is_some, unwrap_or}
use Rattle.std.specs.List.{IsDistinct, AllByRecursion, list_any}
use Rattle.std.specs.Map.{keys_of, lookup, set_value}
use Rattle.std.specs.Ordering.{int_eq}
use Rattle.std.proofs.lemmas.Bool.Decides.{Decides-int_eq}
use Rattle.std.proofs.lemmas.Cmp.{int_eq_equiv}
use Rattle.std.proofs.lemmas.List.{append-nil, map-append}
use Rattle.std.proofs.lemmas.List.Elements.{All-nil, All-cons, All-head, All-tail, All-append, filter-append}
use Rattle.indexmap.specs.IndexSet.{insert_key}
use Rattle.row_select.specs.declared.row.Row.{Row}
use Rattle.group_facet.specs.Distinct.{first_seen}
use Rattle.group_facet.proofs.FirstSeen.{first_seen_push, seen_any}

-- no entry has the key
abbrev pub IsAbsent : {X : Type 0} → ℤ → List (ℤ × X) → Type 0
IsAbsent k es = AllByRecursion (λ e. int_eq k e.0 ≡ false) es

none_is_absent : {X : Type 0} (k : ℤ) (es : List (ℤ × X)) → lookup (int_eq k) es ≡ None → IsAbsent k es
none_is_absent k [] none = tt
none_is_absent {X} k (e ∷ es) none = by (int_eq k e.0) refl (none_is_absent k es)
  where
    by : (b : Bool) → int_eq k e.0 ≡ b → (lookup (int_eq k) es ≡ None → IsAbsent k es) → IsAbsent k (e ∷ es)
    by true is rest = absurd (true≢false (ap is_some (sym (ap (λ b. cond b (Some e.1) (lookup (int_eq k) es)) is) ∙ none)))
    by false is rest = (is, rest (sym (ap (λ b. cond b (Some e.1) (lookup (int_eq k) es)) is) ∙ none))

absent_any : {X : Type 0} (k : ℤ) (es : List (ℤ × X)) → IsAbsent k es → list_any (int_eq k) (keys_of es) ≡ false
absent_any k [] absent = refl
absent_any k (e ∷ es) absent = ap (λ b. b || list_any (int_eq k) (keys_of es)) absent.0 ∙ absent_any k es absent.1

found_any : {X : Type 0} (k : ℤ) (v : X) (es : List (ℤ × X)) → lookup (int_eq k) es ≡ Some v → list_any (int_eq k) (keys_of es) ≡ true
found_any k v [] found = absurd (true≢false (sym (ap is_some found)))
found_any k v (e ∷ es) found = by (int_eq k e.0) refl (found_any k v es)
  where
    by : (b : Bool) → int_eq k e.0 ≡ b → (lookup (int_eq k) es ≡ Some v → list_any (int_eq k) (keys_of es) ≡ true) → list_any (int_eq k) (keys_of (e ∷ es)) ≡ true
    by true is rest = ap (λ b. b || list_any (int_eq k) (keys_of es)) is
    by false is rest = ap (λ b. b || list_any (int_eq k) (keys_of es)) is ∙ rest (sym (ap (λ b. cond b (Some e.1) (lookup (int_eq k) es)) is) ∙ found)

to_absent : {X : Type 0} (k x : ℤ) (es : List (ℤ × X)) → k ≡ x → AllByRecursion (λ y. int_eq x y ≡ false) (keys_of es) → IsAbsent k es
to_absent k x [] same apart = tt
to_absent k x (e ∷ es) same apart = (ap (λ z. int_eq z e.0) same ∙ apart.0, to_absent k x es same apart.1)

module _ {X : Type 0} (key : Row → ℤ) (R : List Row → X → Type 0) where
  -- the rows of one part
  abbrev rows_of : ℤ → List Row → List Row
  rows_of k rows = filter (λ row. int_eq k (key row)) rows

  -- what is kept of a part is that of its rows
  abbrev Holds : List Row → ℤ × X → Type 0
  Holds rows entry = R (rows_of entry.0 rows) entry.1

  kept_one : (k : ℤ) (row : Row) (keeps : Bool) → int_eq k (key row) ≡ keeps → rows_of k (row ∷ []) ≡ (if keeps then row ∷ [] else [])
  kept_one k row keeps is = ap (λ b. if b then row ∷ [] else []) is

  other_row : (k : ℤ) (rows : List Row) (row : Row) → int_eq k (key row) ≡ false → rows_of k (rows ++ row ∷ []) ≡ rows_of k rows
  other_row k rows row is =
      filter-append (λ each. int_eq k (key each)) rows (row ∷ []) ∙ ap (λ l. rows_of k rows ++ l) (kept_one k row false is) ∙ append-nil (rows_of k rows)

  own_row : (k : ℤ) (rows : List Row) (row : Row) → int_eq k (key row) ≡ true → rows_of k (rows ++ row ∷ []) ≡ rows_of k rows ++ row ∷ []
  own_row k rows row is = filter-append (λ each. int_eq k (key each)) rows (row ∷ []) ∙ ap (λ l. rows_of k rows ++ l) (kept_one k row true is)

  none_of : (k : ℤ) (rows : List Row) → list_any (int_eq k) (map key rows) ≡ false → rows_of k rows ≡ []
  none_of k [] none = refl
  none_of k (row ∷ rows) none = by (int_eq k (key row)) refl (none_of k rows)
    where
      by : (b : Bool) → int_eq k (key row) ≡ b → (list_any (int_eq k) (map key rows) ≡ false → rows_of k rows ≡ []) → rows_of k (row ∷ rows) ≡ []
      by true is rest = absurd (true≢false (sym (ap (λ b. b || list_any (int_eq k) (map key rows)) is) ∙ none))
      by false is rest = ap (λ b. if b then row ∷ rows_of k rows else rows_of k rows) is
          ∙ rest (sym (ap (λ b. b || list_any (int_eq k) (map key rows)) is) ∙ none)

  -- the other parts stay
  others_stay : (rows : List Row) (row : Row) (es : List (ℤ × X)) → IsAbsent (key row) es → All (Holds rows) es → All (Holds (rows ++ row ∷ [])) es
  others_stay rows row [] absent holds = All-nil (Holds (rows ++ row ∷ []))
  others_stay rows row (e ∷ es) absent holds =
      All-cons (Holds (rows ++ row ∷ [])) e es
      (subst (λ l. R l e.1) (sym (other_row e.0 rows row (int_eq_equiv.symm e.0 (key row) ∙ absent.0))) (All-head (Holds rows) e es holds))
      (others_stay rows row es absent.1 (All-tail (Holds rows) e es holds))

  -- the first row of a part
  new_part : (rows : List Row) (row : Row) (es : List (ℤ × X)) (v : X) → keys_of es ≡ first_seen (map key rows) → lookup (int_eq (key row)) es ≡ None → R (row ∷ []) v → All (Holds rows) es
      → All (Holds (rows ++ row ∷ [])) (es ++ (key row, v) ∷ [])
  new_part rows row es v keys none first holds =
      let absent = none_is_absent (key row) es none in
      let alone : rows_of (key row) (rows ++ row ∷ []) ≡ row ∷ [] =
      own_row (key row) rows row (int_eq_equiv.refl (key row)) ∙ ap (λ l. l ++ row ∷ []) (none_of (key row) rows (sym (seen_any (map key rows) (key row)) ∙ ap (list_any (int_eq (key row))) (sym keys) ∙ absent_any (key row) es absent)) in
      All-append (Holds (rows ++ row ∷ [])) es ((key row, v) ∷ []) (others_stay rows row es absent holds)
      (All-cons (Holds (rows ++ row ∷ [])) (key row, v) [] (subst (λ l. R l v) (sym alone) first) (All-nil (Holds (rows ++ row ∷ []))))

  new_keys : (rows : List Row) (row : Row) (es : List (ℤ × X)) (v : X) → keys_of es ≡ first_seen (map key rows) → lookup (int_eq (key row)) es ≡ None
      → keys_of (es ++ (key row, v) ∷ []) ≡ first_seen (map key (rows ++ row ∷ []))
  new_keys rows row es v keys none =
      map-append (λ e. e.0) es ((key row, v) ∷ []) ∙ sym (ap (λ b. if b then keys_of es else keys_of es ++ key row ∷ []) (absent_any (key row) es (none_is_absent (key row) es none)))
      ∙ ap (λ ks. insert_key int_eq ks (key row)) keys ∙ sym (first_seen_push (map key rows) (key row)) ∙ ap first_seen (sym (map-append key rows (row ∷ [])))

  -- one more row of a part that is there
  old_part : (rows : List Row) (row : Row) (es : List (ℤ × X)) (v w : X) → IsDistinct int_eq (keys_of es) → lookup (int_eq (key row)) es ≡ Some v
      → (R (rows_of (key row) rows) v → R (rows_of (key row) rows ++ row ∷ []) w) → All (Holds rows) es → All (Holds (rows ++ row ∷ [])) (set_value (int_eq (key row)) es w)
  unfolding IsDistinct
  old_part rows row [] v w apart found goes holds = absurd (true≢false (sym (ap is_some found)))
  old_part rows row (e ∷ es) v w apart found goes holds =
      by (int_eq (key row) e.0) refl (λ behind. old_part rows row es v w apart.1 behind goes (All-tail (Holds rows) e es holds))
    where
      by : (b : Bool) → int_eq (key row) e.0 ≡ b → (lookup (int_eq (key row)) es ≡ Some v → All (Holds (rows ++ row ∷ [])) (set_value (int_eq (key row)) es w)) → All (Holds (rows ++ row ∷ [])) (set_value (int_eq (key row)) (e ∷ es) w)
      by true is rest =
          let same : key row ≡ e.0 = (Decides-int_eq (key row) e.0).0 is in
          let here : Some e.1 ≡ Some v = sym (ap (λ b. cond b (Some e.1) (lookup (int_eq (key row)) es)) is) ∙ found in
          let value : e.1 ≡ v = ap (λ o. unwrap_or o e.1) here in
          let old : R (rows_of (key row) rows) v = subst (λ k. R (rows_of k rows) v) (sym same) (subst (R (rows_of e.0 rows)) value (All-head (Holds rows) e es holds)) in
          let new : R (rows_of e.0 (rows ++ row ∷ [])) w =
          subst (λ k. R (rows_of k (rows ++ row ∷ [])) w) same (subst (λ l. R l w) (sym (own_row (key row) rows row (int_eq_equiv.refl (key row)))) (goes old)) in
          subst (All (Holds (rows ++ row ∷ []))) (sym (ap (λ b. cond b ((e.0, w) ∷ es) (e ∷ set_value (int_eq (key row)) es w)) is))
          (All-cons (Holds (rows ++ row ∷ [])) (e.0, w) es new (others_stay rows row es (to_absent (key row) e.0 es same apart.0) (All-tail (Holds rows) e es holds)))
      by false is rest =
          subst (All (Holds (rows ++ row ∷ []))) (sym (ap (λ b. cond b ((e.0, w) ∷ es) (e ∷ set_value (int_eq (key row)) es w)) is))
          (All-cons (Holds (rows ++ row ∷ [])) e (set_value (int_eq (key row)) es w)
          (subst (λ l. R l e.1) (sym (other_row e.0 rows row (int_eq_equiv.symm e.0 (key row) ∙ is))) (All-head (Holds rows) e es holds))
          (rest (sym (ap (λ b. cond b (Some e.1) (lookup (int_eq (key row)) es)) is) ∙ found)))

  old_keys : (rows : List Row) (row : Row) (es : List (ℤ × X)) (v : X) → keys_of es ≡ first_seen (map key rows) → lookup (int_eq (key row)) es ≡ Some v
      → keys_of es ≡ first_seen (map key (rows ++ row ∷ []))
  old_keys rows row es v keys found =
      sym (ap (λ b. if b then keys_of es else keys_of es ++ key row ∷ []) (found_any (key row) v es found))
      ∙ ap (λ ks. insert_key int_eq ks (key row)) keys ∙ sym (first_seen_push (map key rows) (key row)) ∙ ap first_seen (sym (map-append key rows (row ∷ [])))

  -- what comes of the entries with one row more, where its part is there
  pub old_row : (rows : List Row) (row : Row) (es after : List (ℤ × X)) (value : ℤ) (v w : X) → value ≡ key row → IsDistinct int_eq (keys_of es) → keys_of es ≡ first_seen (map key rows) → lookup (int_eq value) es ≡ Some v
      → after ≡ set_value (int_eq value) es w → keys_of after ≡ keys_of es → ((own : List Row) → R own v → R (own ++ row ∷ []) w) → All (Holds rows) es
      → (keys_of after ≡ first_seen (map key (rows ++ row ∷ []))) × All (Holds (rows ++ row ∷ [])) after
  old_row rows row es after value v w same apart keys found is kept goes holds =
      let found_here : lookup (int_eq (key row)) es ≡ Some v = ap (λ k. lookup (int_eq k) es) (sym same) ∙ found in (
        kept ∙ old_keys rows row es v keys found_here,
        subst (All (Holds (rows ++ row ∷ []))) (sym (is ∙ ap (λ k. set_value (int_eq k) es w) same))
            (old_part rows row es v w apart found_here (goes (rows_of (key row) rows)) holds),
      )

  -- and where it is new
  pub new_row : (rows : List Row) (row : Row) (es after : List (ℤ × X)) (value : ℤ) (v : X) → value ≡ key row → keys_of es ≡ first_seen (map key rows) → lookup (int_eq value) es ≡ None
      → after ≡ es ++ (value, v) ∷ [] → R (row ∷ []) v → All (Holds rows) es
      → (keys_of after ≡ first_seen (map key (rows ++ row ∷ []))) × All (Holds (rows ++ row ∷ [])) after
  new_row rows row es after value v same keys none is first holds =
      let none_here : lookup (int_eq (key row)) es ≡ None = ap (λ k. lookup (int_eq k) es) (sym same) ∙ none in
      let longer : after ≡ es ++ (key row, v) ∷ [] = is ∙ ap (λ k. es ++ (k, v) ∷ []) same in (
        ap keys_of longer ∙ new_keys rows row es v keys none_here,
        subst (All (Holds (rows ++ row ∷ []))) (sym longer) (new_part rows row es v keys none_here first holds),
      )
