-- What stands between quotes.
use Rattle.std.proofs.Common.{◌≡◌, ◌≢◌, ℕ, ◌+◌, ◌<◌, ◌≤◌, Bool, true, false, eqb, ◌&&◌, List, [], ◌∷◌, ◌++◌, length, get_or, slice_range, refl, sym, ap, ◌∙◌, subst, arith, ⊎_elim, append_assoc}
use Rattle.std.specs.Prelude.{not}
use Rattle.std.proofs.lemmas.Bool.{and_parts, and_from, cases_Bool, cond-true, cond-false, both_ways, not-true, ne_eqb, eqb-true, eqb-false, not_from_false, false≢true, cases_order}
use Rattle.ql_lex.specs.Shapes.{is_plain, is_inner, is_quote}
use Rattle.ql_lex.proofs.Heads.{quote_some}
use Rattle.ql_lex.proofs.Slices.{slice_more, slice_none, byte_within}

-- what stands between quotes goes on as if nothing stood before
pub inner_append : (quote : ℕ) (xs ys : List ℕ) → is_inner quote xs ≡ true → is_inner quote (xs ++ ys) ≡ is_inner quote ys
inner_append quote [] ys is = refl
inner_append quote (b ∷ []) [] is = is
inner_append quote (b ∷ []) (c ∷ ys) is =
    let plain = and_parts (not (eqb b 92)) (not (eqb b quote)) is in
    cond-false (eqb b 92) (is_inner quote ys) (is_plain quote b && is_inner quote (c ∷ ys)) (not-true (eqb b 92) plain.0)
    ∙ ap (λ t. t && is_inner quote (c ∷ ys)) is
inner_append quote (b ∷ c ∷ xs) ys is =
    ⊎_elim (λ e.
    let rest : is_inner quote xs ≡ true = sym (cond-true (eqb b 92) (is_inner quote xs) (is_plain quote b && is_inner quote (c ∷ xs)) e) ∙ is in
    cond-true (eqb b 92) (is_inner quote (xs ++ ys)) (is_plain quote b && is_inner quote (c ∷ (xs ++ ys))) e ∙ inner_append quote xs ys rest)
    (λ e.
    let both = and_parts (is_plain quote b) (is_inner quote (c ∷ xs)) (sym (cond-false (eqb b 92) (is_inner quote xs) (is_plain quote b && is_inner quote (c ∷ xs)) e) ∙ is) in
    cond-false (eqb b 92) (is_inner quote (xs ++ ys)) (is_plain quote b && is_inner quote (c ∷ (xs ++ ys))) e
    ∙ ap (λ t. t && is_inner quote (c ∷ (xs ++ ys))) both.0
    ∙ inner_append quote (c ∷ xs) ys both.1)
    (cases_Bool (eqb b 92))

-- a plain byte
inner_plain : (quote b : ℕ) → b ≢ 92 → b ≢ quote → is_inner quote (b ∷ []) ≡ true
inner_plain quote b no_backslash no_quote = and_from (not (eqb b 92)) (not (eqb b quote)) (not_from_false (eqb b 92) (ne_eqb b 92 no_backslash)) (not_from_false (eqb b quote) (ne_eqb b quote no_quote))

-- `\` stands right before a place, and isn't escaped
pub record Escapes (quote : ℕ) (text : List ℕ) (from place : ℕ) : Type 0 where
  pub before : ℕ
  pub is : place ≡ before + 1
  pub above : from ≤ before
  pub backslash : get_or text before 0 ≡ 92
  pub inner : is_inner quote (slice_range text from before) ≡ true

-- The bytes from one place up to another were looked at for the quote that ends a text, and none of them is it.
pub record Scanned (quote : ℕ) (text : List ℕ) (from place : ℕ) (escaped : Bool) : Type 0 where
  pub plain : escaped ≡ false → is_inner quote (slice_range text from place) ≡ true
  pub escapes : escaped ≡ true → Escapes quote text from place
  pub none : (k : ℕ) → from ≤ k → k < place → get_or text k 0 ≡ quote → is_inner quote (slice_range text from k) ≡ true → ⊥

pub scan_start : (quote : ℕ) (text : List ℕ) (from : ℕ) → Scanned quote text from from false
scan_start quote text from = record {
  plain = λ e. ap (is_inner quote) (slice_none text from);
  escapes = λ e. absurd (false≢true e);
  none = λ k above below. absurd (omega arith);
}

-- after an escaped byte
pub scan_escaped : (quote : ℕ) (text : List ℕ) (from place : ℕ) → place < length text → Scanned quote text from place true → Scanned quote text from (place + 1) false
scan_escaped quote text from place within scan =
    let at : Escapes quote text from place = scan.escapes refl in
    let here : slice_range text from place ≡ slice_range text from at.before ++ 92 ∷ [] =
    ap (λ n. slice_range text from n) at.is ∙ slice_more text from at.before at.above (omega (arith, at.is)) ∙ ap (λ (b : ℕ). slice_range text from at.before ++ b ∷ []) at.backslash in
    let next : slice_range text from (place + 1) ≡ slice_range text from at.before ++ (92 ∷ get_or text place 0 ∷ []) =
    slice_more text from place (omega (arith, at.is, at.above)) within ∙ ap (λ (l : List ℕ). l ++ get_or text place 0 ∷ []) here ∙ append_assoc (slice_range text from at.before) (92 ∷ []) (get_or text place 0 ∷ []) in
    record {
      plain = λ e. ap (is_inner quote) next ∙ inner_append quote (slice_range text from at.before) (92 ∷ get_or text place 0 ∷ []) at.inner;
      escapes = λ e. absurd (false≢true e);
      none = λ k above below is inner.
          ⊎_elim (λ (same : k ≡ place).
          let no : is_inner quote (slice_range text from place) ≡ false = ap (is_inner quote) here ∙ inner_append quote (slice_range text from at.before) (92 ∷ []) at.inner in
          both_ways (is_inner quote (slice_range text from place)) no (subst (λ n. is_inner quote (slice_range text from n) ≡ true) same inner))
          (⊎_elim (λ (less : k < place). scan.none k above less is inner) (λ (more : place < k). absurd (omega arith)))
          (cases_order k place);
    }

-- after a byte that isn't escaped and isn't the quote
pub scan_next : (quote : ℕ) (text : List ℕ) (from place : ℕ) → from ≤ place → place < length text → Scanned quote text from place false → get_or text place 0 ≢ quote → Scanned quote text from (place + 1) (eqb (get_or text place 0) 92)
scan_next quote text from place above within scan no_quote = record {
  plain = λ e.
      ap (is_inner quote) (slice_more text from place above within)
      ∙ inner_append quote (slice_range text from place) (get_or text place 0 ∷ []) (scan.plain refl)
      ∙ inner_plain quote (get_or text place 0) (eqb-false (get_or text place 0) 92 e) no_quote;
  escapes = λ e. record { before = place; is = refl; above = above; backslash = eqb-true (get_or text place 0) 92 e; inner = scan.plain refl };
  none = λ k ordered below is inner.
      ⊎_elim (λ (same : k ≡ place). no_quote (subst (λ n. get_or text n 0 ≡ quote) same is))
      (⊎_elim (λ (less : k < place). scan.none k ordered less is inner) (λ (more : place < k). absurd (omega arith)))
      (cases_order k place);
}

-- no quote of a text ends it
pub scan_end : (quote : ℕ) (text : List ℕ) (from place : ℕ) (escaped : Bool) → is_quote quote ≡ true → length text ≤ place → Scanned quote text from place escaped → (last : ℕ) → from ≤ last → get_or text last 0 ≡ quote → is_inner quote (slice_range text from last) ≡ true → ⊥
scan_end quote text from place escaped is_one past scan last above is inner =
    let within : last < length text = byte_within text last (omega (arith, quote_some quote is_one, is)) in
    scan.none last above (omega arith) is inner
