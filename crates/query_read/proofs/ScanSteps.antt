-- A scan over a list goes on where it ended over the first part of it, and so do the places that it refuses.
use Rattle.std.proofs.Common.{◌≡◌, ℕ, ◌≤◌, min, Bool, List, [], ◌∷◌, ◌++◌, Option, Some, None, ◌⊎◌, inl, inr, refl, sym, ◌∙◌, ap, subst, arith}
use Rattle.std.proofs.lemmas.Bool.{cases_lt}
use Rattle.query_marks.specs.declared.mark.Mark.{Mark}
use Rattle.query_marks.specs.declared.mark.Sign.{Sign}
use Rattle.query_marks.specs.declared.mark.Sign.TheVariants as signs
use Rattle.query_read.specs.declared.levels.Level.{Level}
use Rattle.query_read.specs.declared.levels.Scan.{Scan}
use Rattle.query_read.specs.steps.Levels.{goes_on, next_level, next_around, step, scanned, at_start, innermost, outer, earlier, refused_at, Refuses, IsLeast}

pub innermost_is : (level : Level) (around : List Level) → innermost (around ++ level ∷ []) ≡ level
innermost_is level [] = refl
innermost_is level (first ∷ []) = refl
innermost_is level (first ∷ next ∷ around) = innermost_is level (next ∷ around)

pub outer_is : (level : Level) (around : List Level) → outer (around ++ level ∷ []) ≡ around
outer_is level [] = refl
outer_is level (first ∷ []) = refl
outer_is level (first ∷ next ∷ around) = ap (λ levels. first ∷ levels) (outer_is level (next ∷ around))

pub scanned_append : (scan : Scan) (a b : List Mark) → scanned scan (a ++ b) ≡ scanned (scanned scan a) b
scanned_append scan [] b = refl
scanned_append scan (m ∷ a) b = scanned_append (step scan m) a b

pub refused_before : (scan : Scan) (a b : List Mark) (place : ℕ) → Refuses scan a place → Refuses scan (a ++ b) place
refused_before scan [] b place is = absurd is
refused_before scan (m ∷ a) b place (inl here) = inl here
refused_before scan (m ∷ a) b place (inr later) = inr (refused_before (step scan m) a b place later)

pub refused_after : (scan : Scan) (a b : List Mark) (place : ℕ) → Refuses (scanned scan a) b place → Refuses scan (a ++ b) place
refused_after scan [] b place is = is
refused_after scan (m ∷ a) b place is = inr (refused_after (step scan m) a b place is)

pub refused_cases : (scan : Scan) (a b : List Mark) (place : ℕ) → Refuses scan (a ++ b) place → Refuses scan a place ⊎ Refuses (scanned scan a) b place
refused_cases scan [] b place is = inr is
refused_cases scan (m ∷ a) b place (inl here) = inl (inl here)
refused_cases scan (m ∷ a) b place (inr later) = elim (refused_cases (step scan m) a b place later) [ inl first ↦ inl (inr first) | inr second ↦ inr second ]

pub some_same : (a b : ℕ) → Some a ≡ Some b → a ≡ b
some_same a b is = cc

pub none_some : {P : Type 0} (a : ℕ) → None ≡ Some a → P
none_some a is = cc

-- the least place with one of two properties
pub least_earlier : (P Q R : ℕ → Type 0) (a b : Option ℕ) → ((n : ℕ) → R n → P n ⊎ Q n) → ((n : ℕ) → P n → R n) → ((n : ℕ) → Q n → R n) → IsLeast P a → IsLeast Q b → IsLeast R (earlier a b)
least_earlier P Q R None None cases left right none_left none_right = λ n r. elim (cases n r) [ inl p ↦ none_left n p | inr q ↦ none_right n q ]
least_earlier P Q R None (Some b) cases left right none_left (has, least) = (right b has, λ n r. elim (cases n r) [ inl p ↦ absurd (none_left n p) | inr q ↦ least n q ])
least_earlier P Q R (Some a) None cases left right (has, least) none_right = (left a has, λ n r. elim (cases n r) [ inl p ↦ least n p | inr q ↦ absurd (none_right n q) ])
least_earlier P Q R (Some a) (Some b) cases left right (has, least) (has', least') = (
  elim (cases_lt a b) [
    | inl below ↦ (let is : a ≡ min a b = omega (arith, below) in subst R is (left a has))
    | inr above ↦ (let is : b ≡ min a b = omega (arith, above) in subst R is (right b has'))
  ],
  λ n r. elim (cases n r) [
    | inl p ↦ (let up : a ≤ n = least n p in omega (arith, up))
    | inr q ↦ (let up : b ≤ n = least' n q in omega (arith, up))
  ],
)

one_least : (o : Option ℕ) → IsLeast (λ n. o ≡ Some n) o
one_least None = λ n is. none_some n is
one_least (Some a) = (refl, λ n is. let same : a ≡ n = some_same a n is in omega (arith, same))

-- one mark more
pub least_next : (marks all : List Mark) (m : Mark) (scan : Scan) (found now : Option ℕ) → all ≡ marks ++ m ∷ [] → scan ≡ scanned at_start marks → now ≡ earlier found (refused_at scan m) → IsLeast (Refuses at_start marks) found → IsLeast (Refuses at_start all) now
least_next marks all m scan found now all_is scan_is now_is least =
    let both : IsLeast (Refuses at_start (marks ++ m ∷ [])) (earlier found (refused_at (scanned at_start marks) m)) =
    least_earlier (Refuses at_start marks) (λ n. refused_at (scanned at_start marks) m ≡ Some n) (Refuses at_start (marks ++ m ∷ [])) found (refused_at (scanned at_start marks) m)
    (λ n is. elim (refused_cases at_start marks (m ∷ []) n is) [ inl before ↦ inl before | inr after ↦ elim after [ inl here ↦ inr here | inr none ↦ absurd none ] ])
    (λ n is. refused_before at_start marks (m ∷ []) n is)
    (λ n is. refused_after at_start marks (m ∷ []) n (inl is))
    least
    (one_least (refused_at (scanned at_start marks) m)) in
    let now_is' : now ≡ earlier found (refused_at (scanned at_start marks) m) = now_is ∙ ap (λ (s : Scan). earlier found (refused_at s m)) scan_is in
    subst (λ (l : List Mark). IsLeast (Refuses at_start l) now) (sym all_is) (subst (λ (o : Option ℕ). IsLeast (Refuses at_start (marks ++ m ∷ [])) o) (sym now_is') both)

pub scanned_next : (marks all : List Mark) (m : Mark) (scan next : Scan) → all ≡ marks ++ m ∷ [] → scan ≡ scanned at_start marks → next ≡ step scan m → next ≡ scanned at_start all
scanned_next marks all m scan next all_is scan_is next_is =
    next_is ∙ ap (λ (s : Scan). step s m) scan_is ∙ sym (scanned_append at_start marks (m ∷ [])) ∙ ap (scanned at_start) (sym all_is)

-- a scan by its parts
made : Level → List Level → Bool → Scan
made level around goes = record { level = level; around = around; goes = goes }

-- the scan after a group
pub closed_is : (scan : Scan) (m : Mark) (level : Level) (around : List Level) (goes : Bool) → m.sign ≡ signs.Close → goes ≡ goes_on m.sign → level ≡ innermost scan.around → around ≡ outer scan.around → ◌≡◌ {A = Scan} (record { level = level; around = around; goes = goes }) (step scan m)
unfolding made
closed_is scan m level around goes is goes_is level_is around_is =
    let level_is' : level ≡ next_level scan m.at m.sign = level_is ∙ sym (ap (λ (s : Sign). next_level scan m.at s) is) in
    let around_is' : around ≡ next_around scan m.at m.sign = around_is ∙ sym (ap (λ (s : Sign). next_around scan m.at s) is) in
    let all : made level around goes ≡ made (next_level scan m.at m.sign) (next_around scan m.at m.sign) (goes_on m.sign) =
    ap (λ l. made l around goes) level_is' ∙ ap (λ l. made (next_level scan m.at m.sign) l goes) around_is' ∙ ap (λ g. made (next_level scan m.at m.sign) (next_around scan m.at m.sign) g) goes_is in
    all

-- .. and after its parenthesis where a level is around it
pub closed_inner : (scan : Scan) (m : Mark) (level next : Level) (around : List Level) (goes : Bool) → m.sign ≡ signs.Close → goes ≡ goes_on m.sign → next ≡ level → scan.around ≡ around ++ level ∷ [] → ◌≡◌ {A = Scan} (record { level = next; around = around; goes = goes }) (step scan m)
closed_inner scan m level next around goes is goes_is next_is around_is =
    closed_is scan m next around goes is goes_is (next_is ∙ sym (innermost_is level around) ∙ sym (ap innermost around_is)) (sym (outer_is level around) ∙ sym (ap outer around_is))
