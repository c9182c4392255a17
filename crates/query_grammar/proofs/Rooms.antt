-- How many groups may still be opened after some marks, and the texts after which it is as before.
use Rattle.std.proofs.Common.{◌≡◌, ℕ, zero, suc, List, [], ◌∷◌, ◌++◌, Bool, true, false, Option, Some, None, refl, sym, ◌∙◌, ap, subst}
use Rattle.token_grammar.specs.Language.{one, In}
use Rattle.query_marks.specs.declared.mark.Mark.{Mark}
use Rattle.query_grammar.specs.declared.class.Class.{Class}
use Rattle.query_grammar.specs.declared.class.Class.TheVariants as classes
use Rattle.query_grammar.specs.steps.Classes.{same_class, fits}
use Rattle.query_grammar.proofs.MarkClasses.{fits_like}
use Rattle.query_grammar.proofs.KeptInTexts.{Keeps, IsKept}

-- after a mark that opens a group, closes one or does neither
abbrev pub turned : Bool → Bool → ℕ → Option ℕ
turned true closes zero = None
turned true closes (suc k) = Some k
turned false true k = Some (suc k)
turned false false k = Some k

abbrev pub passed : Mark → Option ℕ → Option ℕ
passed m None = None
passed m (Some k) = turned (fits classes.Open m) (fits classes.Close m) k

-- .. and after several; none where too many are opened
abbrev pub room : List Mark → Option ℕ → Option ℕ
room [] o = o
room (m ∷ marks) o = room marks (passed m o)

-- nowhere are more than so many groups open
abbrev pub Fits : ℕ → List Mark → Type 0
Fits k u = (j : ℕ) × (room u (Some k) ≡ Some j)

-- as many are closed as are opened
abbrev pub Balanced : ℕ → List Mark → Type 0
Balanced k u = room u (Some k) ≡ Some k

pub room_append : (a b : List Mark) (o : Option ℕ) → room (a ++ b) o ≡ room b (room a o)
room_append [] b o = refl
room_append (m ∷ a) b o = room_append a b (passed m o)

room_none : (u : List Mark) → room u None ≡ None
room_none [] = refl
room_none (m ∷ u) = room_none u

room_before : (o : Option ℕ) (u : List Mark) (j : ℕ) → room u o ≡ Some j → (i : ℕ) × (o ≡ Some i)
room_before None u j e =
    let clash : None ≡ Some j = sym (room_none u) ∙ e in
    cc
room_before (Some i) u j e = (i, refl)

pub fits_front : (k : ℕ) (a b : List Mark) → Fits k (a ++ b) → Fits k a
fits_front k a b (j, e) = room_before (room a (Some k)) b j (sym (room_append a b (Some k)) ∙ e)

pub fits_back : (k : ℕ) (a b : List Mark) → Balanced k a → Fits k (a ++ b) → Fits k b
fits_back k a b balanced (j, e) = (j, ap (λ o. room b o) (sym balanced) ∙ sym (room_append a b (Some k)) ∙ e)

-- the marks, by what they are
pub room_same : (k : ℕ) (m : Mark) → fits classes.Open m ≡ false → fits classes.Close m ≡ false → passed m (Some k) ≡ Some k
room_same k m opens closes = ap (λ b. turned b (fits classes.Close m) k) opens ∙ ap (λ b. turned false b k) closes

pub room_opened : (k : ℕ) (m : Mark) → fits classes.Open m ≡ true → passed m (Some (suc k)) ≡ Some k
room_opened k m opens = ap (λ b. turned b (fits classes.Close m) (suc k)) opens

pub room_closed : (k : ℕ) (m : Mark) → fits classes.Close m ≡ true → passed m (Some k) ≡ Some (suc k)
room_closed k m closes = ap (λ b. turned b (fits classes.Close m) k) (fits_like classes.Open classes.Close m closes) ∙ ap (λ b. turned false b k) closes

pub unfit_opened : (m : Mark) (u : List Mark) → fits classes.Open m ≡ true → Fits 0 (m ∷ u) → ⊥
unfit_opened m u opens (j, e) =
    let passes : passed m (Some 0) ≡ None = ap (λ b. turned b (fits classes.Close m) 0) opens in
    let clash : None ≡ Some j = sym (room_none u) ∙ ap (λ o. room u o) (sym passes) ∙ e in
    cc

-- a mark that doesn't open a group fits wherever the marks before it do
pub fits_one_more : (k : ℕ) (u : List Mark) (m : Mark) → fits classes.Open m ≡ false → Fits k u → Fits k (u ++ (m ∷ []))
fits_one_more k u m opens (j, e) =
    let (i, f) = passes (fits classes.Close m) in
    (i, room_append u (m ∷ []) (Some k) ∙ ap (λ o. passed m o) e ∙ ap (λ b. turned b (fits classes.Close m) j) opens ∙ f)
  where
    passes : (b : Bool) → (i : ℕ) × (turned false b j ≡ Some i)
    passes true = (suc j, refl)
    passes false = (j, refl)

pub balanced_kept : (k : ℕ) → IsKept (Balanced k)
balanced_kept k = record {
  nothing = refl;
  append = λ a b e f. room_append a b (Some k) ∙ ap (λ o. room b o) e ∙ f;
  alone = λ m opens closes joins. room_same k m opens closes;
}

pub balanced_one : (k : ℕ) (c : Class) → same_class classes.Open c ≡ false → same_class classes.Close c ≡ false → Keeps (Balanced k) (one c)
unfolding In
balanced_one k c unlike_open unlike_close = record {
  holds = λ u (m, e, f). subst (λ w. Balanced k w) (sym e) (room_same k m (fits_like classes.Open c m f ∙ unlike_open) (fits_like classes.Close c m f ∙ unlike_close));
}

-- a group leaves the room as it was
pub balanced_group : (k : ℕ) (a c : Mark) (u : List Mark) → fits classes.Open a ≡ true → Balanced k u → fits classes.Close c ≡ true → Balanced (suc k) (a ∷ (u ++ (c ∷ [])))
balanced_group k a c u opens balanced closes =
    ap (λ o. room (u ++ (c ∷ [])) o) (room_opened k a opens) ∙ room_append u (c ∷ []) (Some k) ∙ ap (λ o. passed c o) balanced ∙ room_closed k c closes
