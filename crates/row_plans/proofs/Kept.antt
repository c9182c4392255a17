-- Cursors that have gone over no row from one on.
use Rattle.std.proofs.Common.{arith, ◌≡◌, ◌≤◌, ◌<◌, refl, sym, ap, ◌∙◌, subst, ℕ, zero, suc, Bool, true, false, cond, List, [], ◌∷◌, Option, Some, None, length, get_or, set}
use Rattle.std.specs.Prelude.{◌&&◌, ◌||◌, ◌==◌, nat_le, All, IfSome}
use Rattle.std.specs.List.{filter}
use Rattle.std.proofs.lemmas.Bool.{ne_eqb}
use Rattle.std.proofs.lemmas.Bool.Decides.{nat_tests}
use Rattle.std.proofs.lemmas.List.Elements.{All-nil, All-cons, All-head, All-tail, filter_agree}
use Rattle.doc_types.specs.declared.cursor.Cursor.{Cursor}
use Rattle.doc_types.specs.declared.cursor.TheConstants.{NO_ROW}
use Rattle.doc_types.specs.Chunks.{CursorPlace}
use Rattle.row_plans.specs.Cursors.{Agree, Keeps, has_at, is_ahead}
use Rattle.row_plans.specs.Plans.{IsBound}
use Rattle.row_plans.proofs.Seeking.{is_in}

-- ---- rows from a later one on

kept_twice : {X : Type 0} (p : X → Bool) (x : X) (xs : List X) (b : Bool) → filter p (cond b (x ∷ xs) xs) ≡ cond (b && p x) (x ∷ filter p xs) (filter p xs)
kept_twice p x xs true = refl
kept_twice p x xs false = refl

filter_twice : {X : Type 0} (p q : X → Bool) (xs : List X) → filter p (filter q xs) ≡ filter (λ x. q x && p x) xs
filter_twice p q [] = refl
filter_twice p q (x ∷ xs) = kept_twice p x (filter q xs) (q x) ∙ ap (λ ys. cond (q x && p x) (x ∷ ys) ys) (filter_twice p q xs)

above_both : (from row : ℕ) → from ≤ row → (m : ℕ) → (nat_le from m && nat_le row m) ≡ nat_le row m
above_both from row order m = grind (arith, nat_tests)

higher : (from row : ℕ) (ms : List ℕ) → from ≤ row → filter (nat_le row) (filter (nat_le from) ms) ≡ filter (nat_le row) ms
higher from row ms order = filter_twice (nat_le row) (nat_le from) ms ∙ filter_agree (λ m. nat_le from m && nat_le row m) (nat_le row) (above_both from row order) ms

in_by : (from row x : ℕ) (xs : List ℕ) (b : Bool) → from ≤ row → nat_le from x ≡ b → is_in row xs ≡ is_in row (filter (nat_le from) xs) → is_in row (x ∷ xs) ≡ is_in row (cond b (x ∷ filter (nat_le from) xs) (filter (nat_le from) xs))
in_by from row x xs true l e rest = ap (λ b. (x == row) || b) rest
in_by from row x xs false l e rest =
    let below : x < from = grind (arith, e) in
    ap (λ b. b || is_in row xs) (ne_eqb x row (λ same. absurd (omega (arith, same, below)))) ∙ rest

pub in_above : (from row : ℕ) (xs : List ℕ) → from ≤ row → is_in row xs ≡ is_in row (filter (nat_le from) xs)
in_above from row [] l = refl
in_above from row (x ∷ xs) l = in_by from row x xs (nat_le from x) l refl (in_above from row xs l)

-- ---- cursors

module _ (belongs : Cursor → Type 0) (place : Cursor → CursorPlace) where
  keeps_its : (from : ℕ) (old new : Option Cursor) → Keeps belongs place from old new → IfSome new belongs
  keeps_its from None new keeps = subst (λ (c : Option Cursor). IfSome c belongs) (sym keeps) tt
  keeps_its from (Some old) None keeps = absurd keeps
  keeps_its from (Some old) (Some new) keeps = keeps.its

  keeps_self : (from : ℕ) (cursor : Option Cursor) → IfSome cursor belongs → Keeps belongs place from cursor cursor
  keeps_self from None its = refl
  keeps_self from (Some cursor) its = record { its = its; word = refl; ahead = refl }

  keeps_both : (from later : ℕ) (old mid new : Option Cursor) → from ≤ later → Keeps belongs place from old mid → Keeps belongs place later mid new → Keeps belongs place later old new
  keeps_both from later None mid new l a b = subst (λ (c : Option Cursor). Keeps belongs place later c new) a b
  keeps_both from later (Some old) None new l a b = absurd a
  keeps_both from later (Some old) (Some mid) None l a b = absurd b
  keeps_both from later (Some old) (Some mid) (Some new) l a b = record {
    its = b.its;
    word = b.word ∙ a.word;
    ahead = b.ahead ∙ sym (higher from later (place mid).ahead l) ∙ ap (filter (nat_le later)) a.ahead ∙ higher from later (place old).ahead l;
  }

  keeps_ahead : (from row : ℕ) (old new : Option Cursor) → from ≤ row → Keeps belongs place from old new → is_ahead place row new ≡ is_ahead place row old
  keeps_ahead from row None new l keeps = ap (is_ahead place row) keeps
  keeps_ahead from row (Some old) None l keeps = absurd keeps
  keeps_ahead from row (Some old) (Some new) l keeps = in_above from row (place new).ahead l ∙ ap (is_in row) keeps.ahead ∙ sym (in_above from row (place old).ahead l)

  -- ---- all of them

  pub agree_its : (from : ℕ) (old new : List (Option Cursor)) → Agree belongs place from old new → All (λ cursor. IfSome cursor belongs) new
  agree_its from [] [] a = All-nil (λ cursor. IfSome cursor belongs)
  agree_its from [] (n ∷ new) a = absurd a
  agree_its from (o ∷ old) [] a = absurd a
  agree_its from (o ∷ old) (n ∷ new) a = All-cons (λ cursor. IfSome cursor belongs) n new (keeps_its from o n a.0) (agree_its from old new a.1)

  pub agree_self : (from : ℕ) (cursors : List (Option Cursor)) → All (λ cursor. IfSome cursor belongs) cursors → Agree belongs place from cursors cursors
  agree_self from [] its = tt
  agree_self from (c ∷ cursors) its = (keeps_self from c (All-head (λ cursor. IfSome cursor belongs) c cursors its), agree_self from cursors (All-tail (λ cursor. IfSome cursor belongs) c cursors its))

  pub agree_on : (from later : ℕ) (old mid new : List (Option Cursor)) → from ≤ later → Agree belongs place from old mid → Agree belongs place later mid new → Agree belongs place later old new
  agree_on from later [] [] [] l a b = tt
  agree_on from later [] [] (n ∷ new) l a b = absurd b
  agree_on from later [] (m ∷ mid) new l a b = absurd a
  agree_on from later (o ∷ old) [] new l a b = absurd a
  agree_on from later (o ∷ old) (m ∷ mid) [] l a b = absurd b
  agree_on from later (o ∷ old) (m ∷ mid) (n ∷ new) l a b = (keeps_both from later o m n l a.0 b.0, agree_on from later old mid new l a.1 b.1)

  pub agree_later : (from later : ℕ) (old new : List (Option Cursor)) → from ≤ later → Agree belongs place from old new → Agree belongs place later old new
  agree_later from later old new l a = agree_on from later old new new l a (agree_self later new (agree_its from old new a))

  same_number : (from row : ℕ) (old new : List (Option Cursor)) → from ≤ row → Agree belongs place from old new → (number : ℕ) → has_at place new row number ≡ has_at place old row number
  same_number from row [] [] l a number = refl
  same_number from row [] (n ∷ new) l a number = absurd a
  same_number from row (o ∷ old) [] l a number = absurd a
  same_number from row (o ∷ old) (n ∷ new) l a zero = keeps_ahead from row o n l a.0
  same_number from row (o ∷ old) (n ∷ new) l a (suc number) = same_number from row old new l a.1 number

  -- the rows from that one on have the same words
  pub agree_same : (from row : ℕ) (old new : List (Option Cursor)) → from ≤ row → Agree belongs place from old new → has_at place new row ≡ has_at place old row
  agree_same from row old new l a = λ i number. same_number from row old new l a number i

  -- ---- one of them

  pub agree_one : (from number : ℕ) (old : List (Option Cursor)) (d new : Option Cursor) → number < length old → All (λ cursor. IfSome cursor belongs) old → Keeps belongs place from (get_or old number d) new → Agree belongs place from old (set old number new)
  agree_one from number [] d new l its keeps = absurd (omega (arith, l))
  agree_one from zero (o ∷ old) d new l its keeps = (keeps, agree_self from old (All-tail (λ cursor. IfSome cursor belongs) o old its))
  agree_one from (suc number) (o ∷ old) d new l its keeps =
      (keeps_self from o (All-head (λ cursor. IfSome cursor belongs) o old its), agree_one from number old d new (omega arith) (All-tail (λ cursor. IfSome cursor belongs) o old its) keeps)

  has_one : (row number : ℕ) (old : List (Option Cursor)) (d : Option Cursor) → number < length old → has_at place old row number ≡ is_ahead place row (get_or old number d)
  has_one row number [] d l = absurd (omega (arith, l))
  has_one row zero (o ∷ old) d l = refl
  has_one row (suc number) (o ∷ old) d l = has_one row number old d (omega arith)

  has_none : (row number : ℕ) (old : List (Option Cursor)) → length old ≤ number → has_at place old row number ≡ false
  has_none row number [] l = refl
  has_none row zero (o ∷ old) l = absurd (omega (arith, l))
  has_none row (suc number) (o ∷ old) l = has_none row number old (omega arith)

  pub bound_one : (from far number : ℕ) (old : List (Option Cursor)) (d : Option Cursor) → number < length old → IsBound (λ row. is_ahead place row (get_or old number d)) from far → IsBound (λ row. has_at place old row number) from far
  bound_one from far number old d l b = record {
    on = b.on;
    none = λ row m n. has_one row number old d l ∙ b.none row m n;
    stands = λ e m. has_one from number old d l ∙ b.stands e m;
  }

  pub bound_none : (from number : ℕ) (old : List (Option Cursor)) → from ≤ NO_ROW → length old ≤ number → IsBound (λ row. has_at place old row number) from NO_ROW
  bound_none from number old on l = record { on = on; none = λ row m n. has_none row number old l; stands = λ e m. absurd (omega (arith, e, m)) }
