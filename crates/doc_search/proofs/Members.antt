-- The members of lists: of two side by side, of what passes a test, and of documents by their ids.
use Rattle.std.proofs.Common.{◌≡◌, ◌≢◌, ℕ, zero, suc, Bool, true, false, cond, List, [], ◌∷◌, Option, Some, map, refl, sym, ap, subst, ◌∙◌, arith}
use Rattle.std.specs.FinMap as finite
use Rattle.std.specs.Prelude.{AllPairs, Contains}
use Rattle.std.specs.List.{AllZip, filter}
use Rattle.std.specs.Ordering.{eq_by_cmp, nat_cmp}
use Rattle.std.proofs.lemmas.Bool.Decides.{nat_tests}
use Rattle.std.proofs.lemmas.Cmp.{eq_by_cmp_equiv, nat_cmp_total}
use Rattle.std.proofs.lemmas.List.Elements.{All-contains, All-contains_itself, All-filter, filter_passes}
use Rattle.doc_types.specs.declared.documents.DocRow.{DocRow}
use Rattle.doc_types.specs.Rows.{rows_of}
use Rattle.word_rows.proofs.Lists.{pairs_head, pairs_tail}

pub in_tail : {X : Type 0} (y : X) (ys : List X) (x : X) → Contains ys x → Contains (y ∷ ys) x
in_tail y ys x (k, low, is) = (suc k, omega (arith, low), is)

module _ {A B : Type 0} (R : A → B → Type 0) where
  -- beside a member of the second list stands one of the first
  pub beside_first : (xs : List A) (ys : List B) (y : B) → AllZip R xs ys → Contains ys y → (x : A) × Contains xs x × R x y
  beside_first xs [] y zip there = absurd (omega (arith, there.1))
  beside_first [] (b ∷ ys) y zip there = absurd zip
  beside_first (a ∷ xs) (b ∷ ys) y zip (zero, low, is) = (a, (0, omega arith, refl), subst (R a) is zip.0)
  beside_first (a ∷ xs) (b ∷ ys) y zip (suc k, low, is) =
      let rest = beside_first xs ys y zip.1 (k, omega (arith, low), is) in
      (rest.0, in_tail a xs rest.0 rest.1, rest.2)

  -- and the other way round
  pub beside_second : (xs : List A) (ys : List B) (x : A) → AllZip R xs ys → Contains xs x → (y : B) × Contains ys y × R x y
  beside_second [] ys x zip there = absurd (omega (arith, there.1))
  beside_second (a ∷ xs) [] x zip there = absurd zip
  beside_second (a ∷ xs) (b ∷ ys) x zip (zero, low, is) = (b, (0, omega arith, refl), subst (λ z. R z b) is zip.0)
  beside_second (a ∷ xs) (b ∷ ys) x zip (suc k, low, is) =
      let rest = beside_second xs ys x zip.1 (k, omega (arith, low), is) in
      (rest.0, in_tail b ys rest.0 rest.1, rest.2)

module _ {X : Type 0} (p : X → Bool) where
  -- what passes is a member that passes
  pub in_filter : (xs : List X) (x : X) → Contains (filter p xs) x → Contains xs x × (p x ≡ true)
  in_filter xs x there = (
    All-contains (Contains xs) (filter p xs) x (All-filter p (Contains xs) xs (All-contains_itself xs)) there,
    All-contains (λ y. p y ≡ true) (filter p xs) x (filter_passes p xs) there,
  )

  kept : (b : Bool) (y : X) (ys : List X) (x : X) → Contains ys x → Contains (cond b (y ∷ ys) ys) x
  kept true y ys x there = in_tail y ys x there
  kept false y ys x there = there

  -- and the other way round
  pub to_filter : (xs : List X) (x : X) → p x ≡ true → Contains xs x → Contains (filter p xs) x
  to_filter [] x passes there = absurd (omega (arith, there.1))
  to_filter (y ∷ ys) x passes (zero, low, is) =
      subst (λ b. Contains (cond b (y ∷ filter p ys) (filter p ys)) x) (sym (ap p is ∙ passes)) (0, omega arith, is)
  to_filter (y ∷ ys) x passes (suc k, low, is) = kept (p y) y (filter p ys) x (to_filter ys x passes (k, omega (arith, low), is))

-- ---- documents by their ids
abbrev pub DocsApart : List DocRow → Type 0
DocsApart docs = AllPairs (λ doc later. doc.doc.id ≢ later.doc.id) docs

-- a document with its id
abbrev entry_of : DocRow → ℕ × DocRow
entry_of doc = (doc.doc.id, doc)

abbrev same_id : ℕ → ℕ → Bool
same_id = eq_by_cmp nat_cmp

differ : (a b : ℕ) → a ≢ b → same_id b a ≡ false
differ a b apart = grind (arith, nat_tests)

-- a document is found by its id
finds : (docs : List DocRow) (doc : DocRow) → DocsApart docs → Contains docs doc → finite.find nat_cmp doc.doc.id (map entry_of docs) ≡ Some doc
finds [] doc apart there = absurd (omega (arith, there.1))
finds (d ∷ docs) doc apart (zero, low, is) =
    let same : same_id doc.doc.id d.doc.id ≡ true = ap (λ (other : DocRow). same_id doc.doc.id other.doc.id) is ∙ (eq_by_cmp_equiv nat_cmp_total).refl doc.doc.id in
    ap (λ b. cond b (Some d) (finite.find nat_cmp doc.doc.id (map entry_of docs))) same ∙ ap Some is
finds (d ∷ docs) doc apart (suc k, low, is) =
    let there : Contains docs doc = (k, omega (arith, low), is) in
    let other : d.doc.id ≢ doc.doc.id = All-contains (λ (later : DocRow). d.doc.id ≢ later.doc.id) docs doc (pairs_head (λ doc later. doc.doc.id ≢ later.doc.id) d docs apart) there in
    ap (λ b. cond b (Some d) (finite.find nat_cmp doc.doc.id (map entry_of docs))) (differ d.doc.id doc.doc.id other)
    ∙ finds docs doc (pairs_tail (λ doc later. doc.doc.id ≢ later.doc.id) d docs apart) there

first_or_later : (b : Bool) (d : DocRow) (docs : List DocRow) (later : Option DocRow) (doc : DocRow) → cond b (Some d) later ≡ Some doc → (later ≡ Some doc → Contains docs doc) → Contains (d ∷ docs) doc
first_or_later true d docs later doc found rest =
    let here : Some d ≡ Some doc = found in
    (0, omega arith, cc)
first_or_later false d docs later doc found rest = in_tail d docs doc (rest found)

-- what is found by an id is one of them
found_in : (docs : List DocRow) (id : ℕ) (doc : DocRow) → finite.find nat_cmp id (map entry_of docs) ≡ Some doc → Contains docs doc
found_in [] id doc found = absurd cc
found_in (d ∷ docs) id doc found = first_or_later (same_id id d.doc.id) d docs (finite.find nat_cmp id (map entry_of docs)) doc found (found_in docs id doc)

-- lists of one map have the same members
pub in_both : (docs others : List DocRow) → DocsApart docs → rows_of docs ≡ rows_of others → (doc : DocRow) → Contains docs doc → Contains others doc
in_both docs others apart same doc there =
    found_in others doc.doc.id doc
    (sym (finite.get-from_entries nat_cmp_total (map entry_of others) doc.doc.id)
    ∙ ap (λ rows. finite.get rows doc.doc.id) (sym same)
    ∙ finite.get-from_entries nat_cmp_total (map entry_of docs) doc.doc.id
    ∙ finds docs doc apart there)
