-- Rows by their ids: what halving finds, and what is left of the ids that a condition lists.
use Rattle.std.proofs.Common.{◌≡◌, ℕ, ℤ, pos, ◌+◌, ◌<◌, ◌≤◌, Bool, true, false, cond, ◌||◌, List, ◌∷◌, Some, slice_get, length, get_or, drop, refl, sym, ap, subst, ◌∙◌, inl, inr, arith}
use Rattle.std.specs.Prelude.{int_lt, AllPairs}
use Rattle.std.specs.List.Sorted.{IsSorted}
use Rattle.std.specs.Ordering.{int_cmp, int_eq, ordering_index}
use Rattle.std.specs.declared.cmp.Ordering.TheVariants.{Less, Equal, Greater}
use Rattle.std.proofs.lemmas.Bool.{cases_lt, true≢false}
use Rattle.std.proofs.lemmas.Cmp.{int_cmp_total}
use Rattle.std.proofs.lemmas.Int.{ints}
use Rattle.std.proofs.lemmas.List.{drop_all, drop_more, get_or-drop, length-drop}
use Rattle.std.proofs.lemmas.List.Folds.{list_any_none}
use Rattle.std.proofs.lemmas.List.Sorted.{searchable_from_sorted}
use Rattle.std.proofs.lemmas.Option.{get_or_from_slice_get, slice_get_within}
use Rattle.doc_types.specs.declared.documents.DocRow.{DocRow}
use Rattle.word_rows.proofs.Opening.{row_there}
use Rattle.row_select.specs.Filters.{is_among}
use Rattle.doc_search.specs.declared.question.Question.{Question}
use Rattle.doc_search.specs.steps.ListedRows.{GoBy, HaveIds, IsFirstFrom, IsHalved, IsPast, holds_of}

-- ---- numbers
lower : (a b : ℕ) (n : ℤ) → a ≤ b → int_lt (pos b) n ≡ true → int_lt (pos a) n ≡ true
lower a b n up below = grind (arith, ints)

higher : (a b : ℕ) (n : ℤ) → a ≤ b → int_lt (pos a) n ≡ false → int_lt (pos b) n ≡ false
higher a b n up above = grind (arith, ints)

-- a number that is below one of two in order isn't the other one
apart_by : (lt gt : Bool) (x n : ℤ) → int_lt n x ≡ lt → int_lt x n ≡ gt → 2 ≤ ordering_index (cond lt Less (cond gt Greater Equal)) → int_eq n x ≡ false
apart_by true gt x n l g up = absurd (omega (arith, up))
apart_by false true x n l g up = grind (arith, ints)
apart_by false false x n l g up = absurd (omega (arith, up))

greater : (x number : ℤ) → int_lt x number ≡ true → int_cmp number x ≡ Greater
greater x number below =
    let not_less : int_lt number x ≡ false = grind (arith, ints) in
    ap (λ b. cond b Less (cond (int_lt x number) Greater Equal)) not_less ∙ ap (λ b. cond b Greater Equal) below

apart : (x number n : ℤ) → int_lt x number ≡ true → ordering_index (int_cmp number x) ≤ ordering_index (int_cmp n x) → int_eq n x ≡ false
apart x number n below up =
    apart_by (int_lt n x) (int_lt x n) x n refl refl (omega (arith, up, ap ordering_index (greater x number below)))

-- a number below the first of some in order is none of them
pub none_below : (ids : List ℤ) (passed : ℕ) (number x : ℤ) → IsSorted int_cmp ids → slice_get ids passed ≡ Some number → int_lt x number ≡ true → is_among (drop passed ids) x ≡ false
none_below ids passed number x ascend here below =
    let its : get_or ids passed number ≡ number = get_or_from_slice_get ids passed number number here in
    list_any_none (λ n. int_eq n x) (drop passed ids)
    (λ k d within.
    ap (λ n. int_eq n x) (get_or-drop passed ids k d)
    ∙ apart x number (get_or ids (passed + k) d) below
    (subst (λ n. ordering_index (int_cmp n x) ≤ ordering_index (int_cmp (get_or ids (passed + k) d) x)) (get_or_from_slice_get ids passed number d here)
    (searchable_from_sorted int_cmp_total (λ (n : ℤ). n) ids x ascend passed (passed + k) d (omega arith) (omega (arith, within, length-drop passed ids)))))

-- what is left of them, by the first one
pub left_at : (ids : List ℤ) (passed : ℕ) (number : ℤ) → slice_get ids passed ≡ Some number → drop passed ids ≡ number ∷ drop (passed + 1) ids
left_at ids passed number here =
    drop_more ids passed number (slice_get_within ids passed number here) ∙ ap (λ n. n ∷ drop (passed + 1) ids) (get_or_from_slice_get ids passed number number here)

later : (first : Bool) (rest : Bool) → first ≡ false → (first || rest) ≡ true → rest ≡ true
later true rest not_first some = absurd (true≢false not_first)
later false rest not_first some = some

unlike : (a b : ℕ) (n : ℤ) → a < b → int_eq (pos a) n ≡ true → int_eq n (pos b) ≡ false
unlike a b n before same = grind (arith, ints)

unlike_from : (a b : ℕ) (n : ℤ) → a ≤ b → int_lt (pos a) n ≡ false → int_eq (pos a) n ≡ false → int_eq n (pos b) ≡ false
unlike_from a b n up above other = grind (arith, ints)

-- ---- rows
module _ (docs : List DocRow) (ascend : AllPairs (λ row later. row.doc.id < later.doc.id) docs) where
  pub ids_below : (k m : ℕ) (doc other : DocRow) → k < m → slice_get docs k ≡ Some doc → slice_get docs m ≡ Some other → doc.doc.id < other.doc.id
  ids_below k m doc other before here there =
      let low : get_or docs k doc ≡ doc = get_or_from_slice_get docs k doc doc here in
      let high : get_or docs m doc ≡ other = get_or_from_slice_get docs m other doc there in
      let apart : (get_or docs k doc).doc.id < (get_or docs m doc).doc.id = ascend k m doc before (slice_get_within docs m other there) in
      subst (λ (row : DocRow). doc.doc.id < row.doc.id) high (subst (λ (row : DocRow). row.doc.id < (get_or docs m doc).doc.id) low apart)

  pub ids_to : (k m : ℕ) (doc other : DocRow) → k ≤ m → slice_get docs k ≡ Some doc → slice_get docs m ≡ Some other → doc.doc.id ≤ other.doc.id
  ids_to k m doc other up here there = elim (cases_lt k m) [
    | inl before ↦ omega (arith, ids_below k m doc other before here there)
    | inr after ↦
        let at : k ≡ m = omega (arith, up, after) in
        let same : Some doc ≡ Some other = sym here ∙ ap (slice_get docs) at ∙ there in
        let its : doc ≡ other = cc in
        subst (λ (row : DocRow). doc.doc.id ≤ row.doc.id) its (omega arith)
  ]

  module _ (from : ℕ) (number : ℤ) where
    pub halved_first : (rows : ℕ) → from ≤ length docs → rows ≡ length docs → IsHalved docs from number from rows
    halved_first rows within all = record {
      on = omega arith;
      order = omega (arith, within, all);
      within = omega (arith, all);
      below = λ k doc on before here. absurd (omega (arith, on, before));
      rest = λ k doc behind here. absurd (omega (arith, behind, all, slice_get_within docs k doc here));
    }

    pub halved_up : (low high middle : ℕ) (told : Bool) → IsHalved docs from number low high → low ≤ middle → middle < high → ((doc : DocRow) → slice_get docs middle ≡ Some doc → told ≡ int_lt (pos doc.doc.id) number) → told ≡ true → IsHalved docs from number (middle + 1) high
    halved_up low high middle told halved on under tells is = record {
      on = omega (arith, halved.on, on);
      order = omega (arith, under);
      within = halved.within;
      below = λ k doc from_on before here.
          let there = row_there docs middle (omega (arith, under, halved.within)) in
          lower doc.doc.id there.0.doc.id number (ids_to k middle doc there.0 (omega (arith, before)) here there.1) (sym (tells there.0 there.1) ∙ is);
      rest = halved.rest;
    }

    pub halved_down : (low high middle : ℕ) (told : Bool) → IsHalved docs from number low high → low ≤ middle → middle < high → ((doc : DocRow) → slice_get docs middle ≡ Some doc → told ≡ int_lt (pos doc.doc.id) number) → told ≡ false → IsHalved docs from number low middle
    halved_down low high middle told halved on under tells is = record {
      on = halved.on;
      order = on;
      within = omega (arith, under, halved.within);
      below = halved.below;
      rest = λ k doc behind here.
          let there = row_there docs middle (omega (arith, under, halved.within)) in
          higher there.0.doc.id doc.doc.id number (ids_to middle k there.0 doc behind there.1 here) (sym (tells there.0 there.1) ∙ is);
    }

    pub halved_last : (low high : ℕ) → IsHalved docs from number low high → high ≤ low → IsFirstFrom docs from number low
    halved_last low high halved met =
        let same : low ≡ high = omega (arith, met, halved.order) in
        record {
          on = halved.on;
          within = omega (arith, halved.within, same);
          below = halved.below;
          rest = λ k doc behind here. halved.rest k doc (omega (arith, behind, same)) here;
        }

  -- ---- what is left of the ids
  module _ (question : Question) (ids : List ℤ) (sorted : IsSorted int_cmp ids) where
    pub past_first : (at : ℕ) (left : List ℤ) → at ≤ length docs → HaveIds question docs at left → IsPast question docs at at left
    past_first at left within have = record {
      by = record { on = omega arith; within = within; fail = λ k doc on before here. absurd (omega (arith, on, before)) };
      left = have;
    }

    -- a document that has none of the ids fails
    fails : (left : List ℤ) (doc : DocRow) (b : Bool) → holds_of question doc ≡ b → (holds_of question doc ≡ true → is_among left (pos doc.doc.id) ≡ true) → is_among left (pos doc.doc.id) ≡ false → b ≡ false
    fails left doc true is have none = absurd (true≢false (sym (have is) ∙ none))
    fails left doc false is have none = refl

    module _ (at from passed row : ℕ) (number : ℤ) (here : slice_get ids passed ≡ Some number) (first : IsFirstFrom docs from number row) (past : IsPast question docs at from (drop passed ids)) where
      -- the rows before the first that has no lower id
      pub goes_by : GoBy question docs at row
      goes_by = record {
        on = omega (arith, past.by.on, first.on);
        within = first.within;
        fail = λ k doc on before there. elim (cases_lt k from) [
          | inl earlier ↦ past.by.fail k doc on earlier there
          | inr after ↦ fails (drop passed ids) doc (holds_of question doc) refl (past.left k doc after there) (none_below ids passed number (pos doc.doc.id) sorted here (first.below k doc after before there))
        ];
      }

      -- from a row on that has another id than the number, those behind the number are left
      pub leaves : (behind : ℕ) → row ≤ behind → ((k : ℕ) (doc : DocRow) → behind ≤ k → slice_get docs k ≡ Some doc → int_eq number (pos doc.doc.id) ≡ false) → HaveIds question docs behind (drop (passed + 1) ids)
      leaves behind on others k doc after there holding =
          later (int_eq number (pos doc.doc.id)) (is_among (drop (passed + 1) ids) (pos doc.doc.id)) (others k doc after there)
          (ap (λ left. is_among left (pos doc.doc.id)) (sym (left_at ids passed number here)) ∙ past.left k doc (omega (arith, first.on, on, after)) there holding)

      -- the row has the number
      pub found_at : (told : Bool) → row < length docs → ((doc : DocRow) → slice_get docs row ≡ Some doc → told ≡ int_eq (pos doc.doc.id) number) → told ≡ true → HaveIds question docs (row + 1) (drop (passed + 1) ids)
      found_at told within tells is =
          let its = row_there docs row within in
          let same : int_eq (pos its.0.doc.id) number ≡ true = sym (tells its.0 its.1) ∙ is in
          leaves (row + 1) (omega arith)
          (λ k doc after there. unlike its.0.doc.id doc.doc.id number (ids_below row k its.0 doc (omega (arith, after)) its.1 there) same)

      -- no row has it
      pub missed_at : (told : Bool) → ((doc : DocRow) → slice_get docs row ≡ Some doc → told ≡ int_eq (pos doc.doc.id) number) → told ≡ false → IsPast question docs at row (drop (passed + 1) ids)
      missed_at told tells is = record {
        by = goes_by;
        left = leaves row (omega arith)
            (λ k doc after there.
            let its = row_there docs row (omega (arith, after, slice_get_within docs k doc there)) in
            unlike_from its.0.doc.id doc.doc.id number (ids_to row k its.0 doc after its.1 there) (first.rest row its.0 (omega arith) its.1) (sym (tells its.0 its.1) ∙ is));
      }

    -- no id is left
    pub past_last : (at from passed end : ℕ) → end ≡ length docs → length ids ≤ passed → IsPast question docs at from (drop passed ids) → GoBy question docs at end × HaveIds question docs (end + 1) (drop passed ids)
    past_last at from passed end all none past = (
      record {
        on = omega (arith, all, past.by.on, past.by.within);
        within = omega (arith, all);
        fail = λ k doc on before there. elim (cases_lt k from) [
          | inl earlier ↦ past.by.fail k doc on earlier there
          | inr after ↦ fails (drop passed ids) doc (holds_of question doc) refl (past.left k doc after there) (ap (λ left. is_among left (pos doc.doc.id)) (drop_all passed ids none))
        ];
      },
      λ k doc after there holding. absurd (omega (arith, all, after, slice_get_within docs k doc there)),
    )
