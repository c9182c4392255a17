-- Whether enough of some keywords have a place in a row, by what their terms tell of their words.
use Rattle.std.proofs.Common.{arith, ◌≡◌, ◌≤◌, ◌*◌, ◌^◌, refl, sym, ap, ◌∙◌, ℕ, Bool, true, false, cond, List, [], ◌∷◌, length, min}
use Rattle.std.specs.Prelude.{◌&&◌, not, count_by}
use Rattle.std.specs.List.{AllZip}
use Rattle.std.proofs.Math.Nat.{mul-le-mul_right}
use Rattle.std.proofs.lemmas.Bool.{leb-true, le-leb, both_ways, true_from_ne_false, false_from_ne_true}
use Rattle.std.proofs.lemmas.List.Sums.{sum_by-cons}
use Rattle.std.proofs.lemmas.Slice.Zip.{AllZip-long}
use Rattle.doc_types.specs.declared.documents.DocRow.{DocRow}
use Rattle.query_tree.specs.declared.key.Key.{Key}
use Rattle.query_tree.specs.declared.key.How.{How}
use Rattle.query_tree.specs.declared.key.How.TheVariants as hows
use Rattle.occ_lists.specs.declared.term.Term.{Term}
use Rattle.word_rows.specs.Keywords.{Spans}
use Rattle.op_eval.specs.Finding.{is_enough}
use Rattle.word_rows.specs.Terms.{AreSeenIn, IsSeenIn}
use Rattle.op_eval.specs.steps.Verdicts.{Concerns, stands_in}
use Rattle.op_eval.proofs.Standing.{seen_absent, seen_sure}

-- ---- counts

abbrev one : Bool → ℕ
one b = cond b 1 0

one_rises : (a b : Bool) → (a ≡ true → b ≡ true) → one a ≤ one b
one_rises false b rises = omega arith
one_rises true b rises = omega (arith, ap one (rises refl))

module _ {A B : Type 0} (R : A → B → Type 0) (p : A → Bool) (q : B → Bool) where
  -- what is so of the one is so of the other
  count_rises : ((a : A) (b : B) → R a b → p a ≡ true → q b ≡ true) → (xs : List A) (ys : List B) → AllZip R xs ys → count_by p xs ≤ count_by q ys
  count_rises rises [] [] z = omega arith
  count_rises rises [] (y ∷ ys) z = absurd z
  count_rises rises (x ∷ xs) [] z = absurd z
  count_rises rises (x ∷ xs) (y ∷ ys) z =
      omega (arith, sum_by-cons (λ a. one (p a)) x xs, sum_by-cons (λ b. one (q b)) y ys, one_rises (p x) (q y) (rises x y z.0), count_rises rises xs ys z.1)

  count_falls : ((a : A) (b : B) → R a b → q b ≡ true → p a ≡ true) → (xs : List A) (ys : List B) → AllZip R xs ys → count_by q ys ≤ count_by p xs
  count_falls falls [] [] z = omega arith
  count_falls falls [] (y ∷ ys) z = absurd z
  count_falls falls (x ∷ xs) [] z = absurd z
  count_falls falls (x ∷ xs) (y ∷ ys) z =
      omega (arith, sum_by-cons (λ a. one (p a)) x xs, sum_by-cons (λ b. one (q b)) y ys, one_rises (q y) (p x) (falls x y z.0), count_falls falls xs ys z.1)

-- ---- what is enough

-- more are enough too
pub enough_more : (how : How) (n few many : ℕ) → few ≤ many → is_enough how n few ≡ true → is_enough how n many ≡ true
enough_more hows.Phrase n few many more e = e
enough_more (hows.Within k) n few many more e = e
enough_more (hows.AtLeast k) n few many more e = le-leb (min k n) many (omega (arith, leb-true (min k n) few e))
enough_more (hows.Share digits places) n few many more e =
    le-leb (digits * n) (many * (10 ^ places)) (omega (arith, leb-true (digits * n) (few * (10 ^ places)) e, mul-le-mul_right (10 ^ places) more))

-- fewer aren't
pub few_less : (how : How) (n few many : ℕ) → few ≤ many → is_enough how n many ≡ false → is_enough how n few ≡ false
few_less how n few many more e = false_from_ne_true (is_enough how n few) (λ enough. both_ways (is_enough how n many) e (enough_more how n few many more enough))

module _ (row : DocRow) (keys : List Key) (terms : List Term) (how : How) (spans : Spans) where
  pub sure_enough : (spanned : Bool) (sure : ℕ) → AreSeenIn row keys terms → Concerns spanned spans → sure ≡ count_by (λ (term : Term). term.present && (term.free && not spanned)) terms
      → is_enough how (length terms) sure ≡ true → is_enough how (length keys) (count_by (stands_in row spans) keys) ≡ true
  sure_enough spanned sure seen concerns is e =
      let most = count_falls (IsSeenIn row) (stands_in row spans) (λ (term : Term). term.present && (term.free && not spanned)) (λ key term told certain. seen_sure row key term spanned spans told certain concerns) keys terms seen in
      enough_more how (length keys) sure (count_by (stands_in row spans) keys) (omega (arith, is, most)) (ap (λ n. is_enough how n sure) (sym (AllZip-long (IsSeenIn row) keys terms seen)) ∙ e)

  pub too_few : (there : ℕ) → AreSeenIn row keys terms → there ≡ count_by (λ (term : Term). term.present) terms
      → is_enough how (length terms) there ≡ false → is_enough how (length keys) (count_by (stands_in row spans) keys) ≡ false
  too_few there seen is e =
      let least = count_rises (IsSeenIn row) (stands_in row spans) (λ (term : Term). term.present)
      (λ key term told stands. true_from_ne_false term.present (λ absent. both_ways (stands_in row spans key) (seen_absent row key term spans told absent) stands)) keys terms seen in
      few_less how (length keys) (count_by (stands_in row spans) keys) there (omega (arith, is, least)) (ap (λ n. is_enough how n there) (sym (AllZip-long (IsSeenIn row) keys terms seen)) ∙ e)
