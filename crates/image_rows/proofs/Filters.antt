-- Filters of ascending lists: what is in a list, of all that may be.
use Rattle.std.proofs.Common.{◌≡◌, ℕ, ◌<◌, ◌≤◌, Bool, true, false, eqb, eq-eqb, List, [], ◌∷◌, ◌||◌, refl, sym, ap, ◌∙◌, arith, inl, inr, ◌⊎◌}
use Rattle.std.specs.List.{filter}
use Rattle.std.proofs.lemmas.Bool.{cases_lt, eqb-true}
use Rattle.posting_codec.specs.HitLists.{key, Ascend}
use Rattle.posting_codec.proofs.HitSteps.{one_key}
use Rattle.chunk_damage.specs.Cover.{has_key}
use Rattle.image_rows.specs.steps.Owned.{AllIn}

pub differ : (a b : ℕ) → (a ≡ b → ⊥) → eqb a b ≡ false
differ a b other = elim (eqb a b) as (λ t. eqb a b ≡ t → t ≡ false) [ true ↦ λ is. absurd (other (eqb-true a b is)) | false ↦ λ is. refl ] refl

-- no key is below those of an ascending list
pub none_below : (before k : ℕ) (hs : List (ℕ × ℕ)) → Ascend before hs → k ≤ before → has_key hs k ≡ false
none_below before k [] ascend low = refl
none_below before k (h ∷ hs) ascend low =
    ap (λ b. b || has_key hs k) (differ (key h) k (omega (arith, ascend.1, low))) ∙ none_below (key h) k hs ascend.2 (omega (arith, ascend.1, low))

-- so what is in one of them and not its first lies behind
abbrev Pass : List (ℕ × ℕ) → ℕ × ℕ → Bool
Pass hs a = has_key hs (key a)

none_pass : (before : ℕ) (all : List (ℕ × ℕ)) → filter (λ (a : ℕ × ℕ). has_key [] (key a)) all ≡ []
none_pass before [] = refl
none_pass before (a ∷ all) = none_pass before all

-- a first one that lies before all of a list changes nothing for it
without_first : (before : ℕ) (h : ℕ × ℕ) (hs all : List (ℕ × ℕ)) → Ascend before all → key h ≤ before → filter (Pass (h ∷ hs)) all ≡ filter (Pass hs) all
without_first before h hs [] ascend low = refl
without_first before h hs (a ∷ all) ascend low =
    let other : eqb (key h) (key a) ≡ false = differ (key h) (key a) (omega (arith, ascend.1, low)) in
    let same : Pass (h ∷ hs) a ≡ Pass hs a = ap (λ b. b || has_key hs (key a)) other in
    let rest : filter (Pass (h ∷ hs)) all ≡ filter (Pass hs) all = without_first (key a) h hs all ascend.2 (omega (arith, ascend.1, low)) in
    rw (same, rest) refl

-- nor does one that is before all that are in it
in_rest : (a : ℕ × ℕ) (all hs : List (ℕ × ℕ)) (before : ℕ) → Ascend before hs → key a ≤ before → AllIn (a ∷ all) hs → AllIn all hs
in_rest a all [] before ascend low within = tt
in_rest a all (h ∷ hs) before ascend low within =
    let other : eqb (key a) (key h) ≡ false = differ (key a) (key h) (omega (arith, ascend.1, low)) in
    (ap (λ b. b || has_key all (key h)) (sym other) ∙ within.0, in_rest a all hs (key h) ascend.2 (omega (arith, ascend.1, low)) within.1)

pub or_cases : (a b : Bool) → (a || b) ≡ true → (a ≡ true) ⊎ (b ≡ true)
or_cases true b e = inl refl
or_cases false b e = inr e

key_in : (before k : ℕ) (all : List (ℕ × ℕ)) → Ascend before all → has_key all k ≡ true → before < k
key_in before k [] ascend e = absurd cc
key_in before k (a ∷ all) ascend e =
    elim (or_cases (eqb (key a) k) (has_key all k) e) [
      | inl is ↦ omega (arith, eqb-true (key a) k is, ascend.1)
      | inr later ↦ omega (arith, key_in (key a) k all ascend.2 later, ascend.1)
    ]

pub filter_in : (before least : ℕ) (all hs : List (ℕ × ℕ)) → Ascend before all → Ascend least hs → AllIn all hs → filter (Pass hs) all ≡ hs
filter_in before least [] [] aa ah within = refl
filter_in before least [] (h ∷ hs) aa ah within = absurd (let no : false ≡ true = within.0 in cc)
filter_in before least (a ∷ all) [] aa ah within = none_pass 0 (a ∷ all)
filter_in before least (a ∷ all) (h ∷ hs) aa ah within =
    elim (cases_lt (key a) (key h)) [
      | inl low ↦
          let other : eqb (key h) (key a) ≡ false = differ (key h) (key a) (omega (arith, low)) in
          let later : has_key hs (key a) ≡ false = none_below (key h) (key a) hs ah.2 (omega (arith, low)) in
          let not : Pass (h ∷ hs) a ≡ false = ap (λ b. b || has_key hs (key a)) other ∙ later in
          let rest = filter_in (key a) (key a) all (h ∷ hs) aa.2 (ah.0, low, ah.2) (in_rest a all (h ∷ hs) (key a) (ah.0, low, ah.2) (omega arith) within) in
          rw not rest
      | inr high ↦
          let keys : key a ≡ key h = elim (or_cases (eqb (key a) (key h)) (has_key all (key h)) within.0) [
            | inl is ↦ eqb-true (key a) (key h) is
            | inr behind ↦ absurd (omega (arith, key_in (key a) (key h) all aa.2 behind, high))
          ] in
          let same : a ≡ h = one_key a h aa.0 ah.0 keys in
          let is : Pass (h ∷ hs) a ≡ true = ap (λ b. b || has_key hs (key a)) (eq-eqb (key h) (key a) (sym keys)) in
          let rest : filter (Pass hs) all ≡ hs = filter_in (key a) (key h) all hs aa.2 ah.2 (in_rest a all hs (key h) ah.2 (omega (arith, keys)) within.1) in
          let more : filter (Pass (h ∷ hs)) all ≡ hs = without_first (key a) h hs all aa.2 (omega (arith, keys)) ∙ rest in
          rw (is, more) (ap (λ x. x ∷ hs) same)
    ]
