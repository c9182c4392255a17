-- Items read one behind the other.
use Rattle.std.proofs.Common.{◌≡◌, ℕ, ◌+◌, ◌-◌, ◌<◌, ◌≤◌, List, [], ◌∷◌, ◌++◌, length, drop, refl, sym, ap, subst, ◌∙◌, arith, inl, inr, append_assoc, append-nil, length-append, length-drop}
use Rattle.std.proofs.Math.Seq.{drop-append_seam, drop-length}
use Rattle.std.proofs.lemmas.List.{drop-drop}
use Rattle.std.proofs.lemmas.Bool.{cases_lt}
use Rattle.item_lists.specs.Items.{AllFit, AreAllItems, AreApart, IsFirstWrong, IsWrong, left_by, spelled}
use Rattle.item_lists.specs.steps.Places.{AreItemsAt, IsItemAt}

-- what lies behind a piece that stands at a place
pub behind : (bytes piece rest : List ℕ) (at end : ℕ) → drop at bytes ≡ piece ++ rest → end ≡ at + length piece → drop end bytes ≡ rest
behind bytes piece rest at end here ends =
    ap (λ n. drop n bytes) ends ∙ sym (drop-drop (length piece) at bytes) ∙ ap (drop (length piece)) here ∙ drop-append_seam piece rest

module _ {S A : Type 0} (write : S → A → List ℕ) (next : S → A → S) (Fits : S → A → Type 0) where
  abbrev spell : S → List A → List ℕ
  spell = spelled write next

  abbrev leaves : S → List A → S
  leaves = left_by next

  abbrev Fit : S → List A → Type 0
  Fit = AllFit next Fits

  pub fit_more : (s : S) (xs : List A) (x : A) → Fit s xs → Fits (leaves s xs) x → Fit s (xs ++ x ∷ [])
  fit_more s [] x fit is = (is, tt)
  fit_more s (y ∷ xs) x fit is = (fit.0, fit_more (next s y) xs x fit.1 is)

  pub left_more : (s : S) (xs : List A) (x : A) → leaves s (xs ++ x ∷ []) ≡ next (leaves s xs) x
  left_more s [] x = refl
  left_more s (y ∷ xs) x = left_more (next s y) xs x

  pub spell_more : (s : S) (xs : List A) (x : A) → spell s (xs ++ x ∷ []) ≡ spell s xs ++ write (leaves s xs) x
  spell_more s [] x = append-nil (write s x)
  spell_more s (y ∷ xs) x = ap (λ l. write s y ++ l) (spell_more (next s y) xs x) ∙ sym (append_assoc (write s y) (spell (next s y) xs) (write (leaves (next s y) xs) x))

  -- what begins with some items begins with those of any longer list of them
  pub front : AreApart write Fits → (s : S) (xs all : List A) (x y : List ℕ) → Fit s xs → Fit s all → length xs ≤ length all → spell s xs ++ x ≡ spell s all ++ y
      → (later : List A) × (all ≡ xs ++ later) × (x ≡ spell (leaves s xs) later ++ y) × Fit (leaves s xs) later
  front apart s [] all x y fx fa long e = (all, refl, e, fa)
  front apart s (a ∷ xs) [] x y fx fa long e = absurd (omega (arith, long))
  front apart s (a ∷ xs) (b ∷ all) x y fx fa long e =
      let g : write s a ++ (spell (next s a) xs ++ x) ≡ write s b ++ (spell (next s b) all ++ y) = sym (append_assoc (write s a) (spell (next s a) xs) x) ∙ e ∙ append_assoc (write s b) (spell (next s b) all) y in
      let its = apart s a b (spell (next s a) xs ++ x) (spell (next s b) all ++ y) fx.0 fa.0 g in
      let same : a ≡ b = its.0 in
      let rest : spell (next s a) xs ++ x ≡ spell (next s a) all ++ y = its.1 ∙ ap (λ c. spell (next s c) all ++ y) (sym same) in
      let fit : Fit (next s a) all = subst (λ c. Fit (next s c) all) (sym same) fa.1 in
      let more = front apart (next s a) xs all x y fx.1 fit (omega (arith, long)) rest in
      (more.0, (let tail : all ≡ xs ++ more.0 = more.1 in cc), more.2, more.3)

  -- as many items with the same bytes are the same
  pub one_list : AreApart write Fits → (s : S) (xs ys : List A) (x y : List ℕ) → Fit s xs → Fit s ys → length xs ≡ length ys → spell s xs ++ x ≡ spell s ys ++ y → (xs ≡ ys) × (x ≡ y)
  one_list apart s [] [] x y fx fy long e = (refl, e)
  one_list apart s [] (b ∷ ys) x y fx fy long e = absurd (omega (arith, long))
  one_list apart s (a ∷ xs) [] x y fx fy long e = absurd (omega (arith, long))
  one_list apart s (a ∷ xs) (b ∷ ys) x y fx fy long e =
      let g : write s a ++ (spell (next s a) xs ++ x) ≡ write s b ++ (spell (next s b) ys ++ y) = sym (append_assoc (write s a) (spell (next s a) xs) x) ∙ e ∙ append_assoc (write s b) (spell (next s b) ys) y in
      let its = apart s a b (spell (next s a) xs ++ x) (spell (next s b) ys ++ y) fx.0 fy.0 g in
      let same : a ≡ b = its.0 in
      let more = one_list apart (next s a) xs ys x y fx.1 (subst (λ c. Fit (next s c) ys) (sym same) fy.1) (omega (arith, long)) (its.1 ∙ ap (λ c. spell (next s c) ys ++ y) (sym same)) in
      ((let tail : xs ≡ ys = more.0 in cc), more.1)

  -- so many items were read up to this place, and this is what they leave
  pub record Gone (bytes : List ℕ) (start at : ℕ) (first s : S) (i : ℕ) (xs : List A) : Type 0 where
    pub counted : length xs ≡ i
    pub fit : AllFit next Fits first xs
    pub ended : left_by next first xs ≡ s
    pub place : at ≡ start + length (spelled write next first xs)
    pub here : drop start bytes ≡ spelled write next first xs ++ drop at bytes

  pub gone_none : (bytes : List ℕ) (start : ℕ) (first : S) → Gone bytes start start first first 0 []
  gone_none bytes start first = record { counted = refl; fit = tt; ended = refl; place = omega arith; here = refl }

  pub gone_more : (bytes : List ℕ) (start at end : ℕ) (first s : S) (i : ℕ) (xs : List A) (x : A) (rest : List ℕ) → Gone bytes start at first s i xs → IsItemAt write Fits bytes at s x rest → end ≡ at + length (write s x) → Gone bytes start end first (next s x) (i + 1) (xs ++ x ∷ [])
  gone_more bytes start at end first s i xs x rest g is ends =
      let piece = write s x in
      let more : spell first (xs ++ x ∷ []) ≡ spell first xs ++ piece = spell_more first xs x ∙ ap (λ k. spell first xs ++ write k x) g.ended in
      let long : length (spell first (xs ++ x ∷ [])) ≡ length (spell first xs) + length piece = ap length more ∙ length-append (spell first xs) piece in
      let left : drop end bytes ≡ rest = behind bytes piece rest at end is.here ends in
      record {
        counted = length-append xs (x ∷ []) ∙ ap (λ n. n + 1) g.counted;
        fit = fit_more first xs x g.fit (subst (λ k. Fits k x) (sym g.ended) is.fits);
        ended = left_more first xs x ∙ ap (λ k. next k x) g.ended;
        place = omega (arith, ends, g.place, long);
        here = g.here ∙ ap (λ l. spell first xs ++ l) (is.here ∙ ap (λ l. piece ++ l) (sym left)) ∙ sym (append_assoc (spell first xs) piece (drop end bytes)) ∙ ap (λ l. l ++ drop end bytes) (sym more);
      }

  -- where none stands behind those that were read, there are no more
  pub gone_stop : AreApart write Fits → (bytes : List ℕ) (start at : ℕ) (first s : S) (i count : ℕ) (xs : List A) → Gone bytes start at first s i xs → i < count → ((x : A) (rest : List ℕ) → IsItemAt write Fits bytes at s x rest → ⊥)
      → (all : List A) (rest : List ℕ) → AreItemsAt write next Fits bytes start first count all rest → ⊥
  gone_stop apart bytes start at first s i count xs g low none all rest are =
      let its = front apart first xs all (drop at bytes) rest g.fit are.fit (omega (arith, g.counted, are.counted)) (sym g.here ∙ are.here) in
      stop its.0 its.1 its.2 its.3 where
        stop : (later : List A) → all ≡ xs ++ later → drop at bytes ≡ spelled write next (left_by next first xs) later ++ rest → AllFit next Fits (left_by next first xs) later → ⊥
        stop [] e here fit = absurd (omega (arith, low, g.counted, are.counted, ap length e, length-append xs []))
        stop (x ∷ later) e here fit =
            none x (spelled write next (next (left_by next first xs) x) later ++ rest) (record {
              fits = subst (λ k. Fits k x) g.ended fit.0;
              here = here ∙ append_assoc (write (left_by next first xs) x) (spelled write next (next (left_by next first xs) x) later) rest ∙ ap (λ k. write k x ++ (spelled write next (next (left_by next first xs) x) later ++ rest)) g.ended;
            })

  pub gone_all : (bytes : List ℕ) (start at : ℕ) (first s : S) (i count : ℕ) (xs : List A) → Gone bytes start at first s i xs → i ≡ count → AreItemsAt write next Fits bytes start first count xs (drop at bytes) × (at ≡ start + length (spelled write next first xs))
  gone_all bytes start at first s i count xs g e = (record { counted = g.counted ∙ e; fit = g.fit; here = g.here }, g.place)

  -- ---- the first that is wrong

  -- bytes that are all items have none that is wrong
  pub not_both : AreApart write Fits → (bytes : List ℕ) (s : S) (count place : ℕ) (xs : List A) → AreAllItems write next Fits bytes s count xs → IsFirstWrong write next Fits bytes s count place → ⊥
  not_both apart bytes s count place xs are bad =
      let its = front apart s bad.before xs bad.rest [] bad.fit are.fit (omega (arith, bad.some, are.counted)) (sym bad.is ∙ are.is ∙ sym (append-nil (spell s xs))) in
      by its.0 its.1 its.2 its.3 bad.wrong where
        by : (later : List A) → xs ≡ bad.before ++ later → bad.rest ≡ spelled write next (left_by next s bad.before) later ++ [] → AllFit next Fits (left_by next s bad.before) later → IsWrong write Fits (count - length bad.before) (left_by next s bad.before) bad.rest → ⊥
        by [] e here fit wrong = absurd (omega (arith, bad.some, are.counted, ap length e, length-append bad.before []))
        by (x ∷ later) e here fit (inl none) =
            none x (spelled write next (next (left_by next s bad.before) x) later ++ []) fit.0 (here ∙ append_assoc (write (left_by next s bad.before) x) (spelled write next (next (left_by next s bad.before) x) later) [])
        by (x ∷ []) e here fit (inr left) =
            let same = apart (left_by next s bad.before) left.1.0 x left.1.1 [] left.1.2 fit.0 (sym left.1.3 ∙ here ∙ append-nil (write (left_by next s bad.before) x ++ [])) in
            let long : length left.1.1 ≡ 0 = ap length same.1 in absurd (omega (arith, long, left.1.4))
        by (x ∷ y ∷ later) e here fit (inr left) = absurd (omega (arith, left.0, bad.some, are.counted, ap length e, length-append bad.before (x ∷ y ∷ later)))

  -- none that fits stands behind those that were read
  abbrev pub none_wrong : (bytes : List ℕ) (at : ℕ) (first s : S) (i count : ℕ) (xs : List A) → Gone bytes 0 at first s i xs → i < count → ((x : A) (rest : List ℕ) → IsItemAt write Fits bytes at s x rest → ⊥) → IsFirstWrong write next Fits bytes first count at
  none_wrong bytes at first s i count xs g low none = record {
    before = xs;
    rest = drop at bytes;
    fit = g.fit;
    is = g.here;
    place_is = omega (arith, g.place);
    some = omega (arith, g.counted, low);
    wrong = inl (λ x later fits here. none x later (record { fits = subst (λ k. Fits k x) g.ended fits; here = here ∙ ap (λ k. write k x ++ later) g.ended }));
  }

  -- all were read, and nothing is left
  pub all_read : (bytes : List ℕ) (at : ℕ) (first s : S) (i count : ℕ) (xs : List A) → Gone bytes 0 at first s i xs → i ≡ count → at ≡ length bytes → AreAllItems write next Fits bytes first count xs
  all_read bytes at first s i count xs g e all = record { counted = g.counted ∙ e; fit = g.fit; is = g.here ∙ ap (λ l. spell first xs ++ l) (nothing_left bytes at all) ∙ append-nil (spell first xs) }
    where
      nothing_left : (bytes : List ℕ) (at : ℕ) → at ≡ length bytes → drop at bytes ≡ []
      nothing_left bytes at e = ap (λ n. drop n bytes) e ∙ drop-length bytes

  -- all were read, and something is left behind the last one, which begins here
  abbrev pub left_wrong : (bytes : List ℕ) (last at : ℕ) (first s : S) (i count : ℕ) (xs : List A) (x : A) (rest : List ℕ) → Gone bytes 0 last first s i xs → i + 1 ≡ count → IsItemAt write Fits bytes last s x rest → at ≡ last + length (write s x) → at < length bytes → IsFirstWrong write next Fits bytes first count last
  left_wrong bytes last at first s i count xs x rest g e is ends more = record {
    before = xs;
    rest = drop last bytes;
    fit = g.fit;
    is = g.here;
    place_is = omega (arith, g.place);
    some = omega (arith, g.counted, e);
    wrong = inr (
      omega (arith, g.counted, e),
      (
        x,
        rest,
        subst (λ k. Fits k x) (sym g.ended) is.fits,
        is.here ∙ ap (λ k. write k x ++ rest) (sym g.ended),
        omega (arith, ap length is.here, length-append (write s x) rest, length-drop last bytes, ends, more),
      ),
    );
  }

  -- ---- the first that is wrong is one

  shorter : AreApart write Fits → (bytes : List ℕ) (s : S) (count p q : ℕ) (a : IsFirstWrong write next Fits bytes s count p) (b : IsFirstWrong write next Fits bytes s count q) → length a.before ≤ length b.before → b.before ≡ a.before
  shorter apart bytes s count p q a b le =
      let its = front apart s a.before b.before a.rest b.rest a.fit b.fit le (sym a.is ∙ b.is) in
      by its.0 its.1 its.2 its.3 a.wrong
    where
      by : (later : List A) → b.before ≡ a.before ++ later → a.rest ≡ spelled write next (left_by next s a.before) later ++ b.rest → AllFit next Fits (left_by next s a.before) later → IsWrong write Fits (count - length a.before) (left_by next s a.before) a.rest → b.before ≡ a.before
      by [] e here fit wrong = e ∙ append-nil a.before
      by (x ∷ later) e here fit (inl none) =
          absurd (none x (spelled write next (next (left_by next s a.before) x) later ++ b.rest) fit.0 (here ∙ append_assoc (write (left_by next s a.before) x) (spelled write next (next (left_by next s a.before) x) later) b.rest))
      by (x ∷ later) e here fit (inr left) = absurd (omega (arith, left.0, b.some, ap length e, length-append a.before (x ∷ later)))

  pub one_place : AreApart write Fits → (bytes : List ℕ) (s : S) (count p q : ℕ) (a : IsFirstWrong write next Fits bytes s count p) (b : IsFirstWrong write next Fits bytes s count q) → (a.before ≡ b.before) × (p ≡ q)
  one_place apart bytes s count p q a b =
      let same : a.before ≡ b.before = elim (cases_lt (length a.before) (length b.before)) [
        | inl low ↦ sym (shorter apart bytes s count p q a b (omega (arith, low)))
        | inr high ↦ shorter apart bytes s count q p b a high
      ] in
      (same, a.place_is ∙ ap (λ l. length (spelled write next s l)) same ∙ sym b.place_is)
