-- Each position of a field, from 1 to that of its last word, is a word's or a boundary's, and boundaries lie between words.
use Rattle.std.proofs.Common.{◌≡◌, ℕ, zero, suc, ◌+◌, ◌-◌, ◌<◌, ◌≤◌, Bool, true, false, cond, eqb, eq-eqb, ◌||◌, List, [], ◌∷◌, map, length, refl, sym, ap, subst, ◌∙◌, arith, All, slice_get, ◌⊎◌, inl, inr}
use Rattle.std.specs.List.{filter, list_any}
use Rattle.std.specs.Option.{option_map_or}
use Rattle.std.proofs.lemmas.Bool.{cases_lt, eqb-true}
use Rattle.doc_types.specs.declared.tokens.FieldTokens.{FieldTokens}
use Rattle.doc_types.specs.declared.tokens.Gap.{Gap}
use Rattle.doc_types.specs.declared.tokens.Gap.TheVariants as kinds
use Rattle.doc_types.specs.declared.tokens.TheConstants.{MAX_POSITION}
use Rattle.doc_types.specs.declared.tokens.TokenWord.{TokenWord}
use Rattle.doc_types.specs.Documents.{BeginPlain, Follow, IsField, step}
use Rattle.doc_types.specs.Chunks.{is_boundary, last_position}
use Rattle.doc_types.proofs.Numbers.{All-tail}
use Rattle.byte_fields.specs.Fields.{AllFrom}
use Rattle.chunk_image.specs.Marks.{kind_bit}
use Rattle.chunk_damage.specs.RowMarks.{IsGapBehind, is_taken}
use Rattle.chunk_damage.specs.Cover.{AreBetween}

abbrev pub one : Bool → ℕ
one b = cond b 1 0

-- a word stands at the position
abbrev pub stands_at : ℕ → List TokenWord → Bool
stands_at p words = list_any (λ (t : TokenWord). eqb t.position p) words

abbrev mark : TokenWord → ℕ × Gap
mark t = (t.position - 1, t.gap)

-- the boundaries of some words
abbrev pub marks : List TokenWord → List (ℕ × Gap)
marks words = map mark (filter (λ (t : TokenWord). is_boundary t.gap) words)

-- where the last of some words stands, that before them if there is none
abbrev pub last_of : ℕ → List TokenWord → ℕ
last_of before [] = before
last_of before (t ∷ ts) = last_of t.position ts

pub differ : (a b : ℕ) → (a ≡ b → ⊥) → eqb a b ≡ false
differ a b other = elim (eqb a b) as (λ t. eqb a b ≡ t → t ≡ false) [ true ↦ λ is. absurd (other (eqb-true a b is)) | false ↦ λ is. refl ] refl

pub or_true : (a b : Bool) → a ≡ true → (a || b) ≡ true
or_true true b e = refl
or_true false b e = absurd cc

pub or_false : (a b : Bool) → a ≡ false → (a || b) ≡ b
or_false true b e = absurd cc
or_false false b e = refl

-- ---- where the last word stands

last_is : (t : TokenWord) (ts : List TokenWord) → option_map_or (λ (u : TokenWord). u.position) (slice_get (t ∷ ts) (length ts)) 0 ≡ last_of t.position ts
last_is t [] = refl
last_is t (u ∷ ts) = last_is u ts

one_less : (n : ℕ) → suc n - 1 ≡ n
one_less n = omega arith

last_words : (words : List TokenWord) → option_map_or (λ (u : TokenWord). u.position) (slice_get words (length words - 1)) 0 ≡ last_of 0 words
last_words [] = refl
last_words (t ∷ ts) = ap (λ n. option_map_or (λ (u : TokenWord). u.position) (slice_get (t ∷ ts) n) 0) (one_less (length ts)) ∙ last_is t ts

pub last_position-last_of : (field : FieldTokens) → last_position field ≡ last_of 0 field.words
last_position-last_of field = last_words field.words

pub last_above : (before : ℕ) (words : List TokenWord) → Follow before words → before ≤ last_of before words
last_above before [] follow = omega arith
last_above before (t ∷ ts) follow = omega (arith, follow.0, last_above t.position ts follow.1)

last_within : (before high : ℕ) (words : List TokenWord) → before ≤ high → All (λ (t : TokenWord). t.position ≤ high) words → last_of before words ≤ high
last_within before high [] low all = low
last_within before high (t ∷ ts) low all = last_within t.position high ts (all zero t (omega arith)) (All-tail (λ (t : TokenWord). t.position ≤ high) t ts all)

pub last_short : (field : FieldTokens) → IsField field → last_position field ≤ MAX_POSITION
last_short field is = omega (arith, last_position-last_of field, last_within 0 MAX_POSITION field.words (omega arith) is.within)

-- ---- a word with its boundary

-- the marks of a word and those behind it: none of its own, or a boundary directly before it
abbrev OwnMarks : ℕ → TokenWord → List TokenWord → Type 0
OwnMarks before t ts = ((t.position ≡ before + 1) × (marks (t ∷ ts) ≡ marks ts)) ⊎ ((t.position ≡ before + 2) × (is_boundary t.gap ≡ true) × (marks (t ∷ ts) ≡ (before + 1, t.gap) ∷ marks ts))

own_marks : (before : ℕ) (t : TokenWord) (ts : List TokenWord) → t.position ≡ before + step t.gap → OwnMarks before t ts
own_marks before t ts follow =
    elim t.gap as (λ g. t.gap ≡ g → OwnMarks before t ts) [
      | kinds.None ↦ λ kind. inl (omega (arith, follow, ap step kind), ap (λ g. map mark (cond (is_boundary g) (t ∷ filter (λ (t : TokenWord). is_boundary t.gap) ts) (filter (λ (t : TokenWord). is_boundary t.gap) ts))) kind)
      | kinds.Sentence ↦ λ kind. bound (omega (arith, follow, ap step kind)) (ap is_boundary kind)
      | kinds.Paragraph ↦ λ kind. bound (omega (arith, follow, ap step kind)) (ap is_boundary kind)
    ] refl
  where
    bound : t.position ≡ before + 2 → is_boundary t.gap ≡ true → OwnMarks before t ts
    bound at is =
        let place : t.position - 1 ≡ before + 1 = omega (arith, at) in
        inr (at, is, ap (λ b. map mark (cond b (t ∷ filter (λ (t : TokenWord). is_boundary t.gap) ts) (filter (λ (t : TokenWord). is_boundary t.gap) ts))) is ∙ ap (λ k. (k, t.gap) ∷ marks ts) place)

-- ---- positions and their owners

pub none_stands : (before p : ℕ) (words : List TokenWord) → Follow before words → p ≤ before → stands_at p words ≡ false
none_stands before p [] follow low = refl
none_stands before p (t ∷ ts) follow low =
    let above : before < t.position = elim (own_marks before t ts follow.0) [ inl plain ↦ omega (arith, plain.0) | inr bound ↦ omega (arith, bound.0) ] in
    or_false (eqb t.position p) (stands_at p ts) (differ t.position p (omega (arith, above, low))) ∙ none_stands t.position p ts follow.1 (omega (arith, above, low))

none_taken : (before p : ℕ) (words : List TokenWord) → Follow before words → p ≤ before → is_taken (marks words) p ≡ false
none_taken before p [] follow low = refl
none_taken before p (t ∷ ts) follow low =
    elim (own_marks before t ts follow.0) [
      | inl plain ↦ ap (λ gs. is_taken gs p) plain.1 ∙ none_taken t.position p ts follow.1 (omega (arith, plain.0, low))
      | inr bound ↦
          ap (λ gs. is_taken gs p) bound.2 ∙ or_false (eqb (before + 1) p) (is_taken (marks ts) p) (differ (before + 1) p (omega (arith, low)))
          ∙ none_taken t.position p ts follow.1 (omega (arith, bound.0, low))
    ]

-- each position has one owner
pub one_owner : (before p : ℕ) (words : List TokenWord) → Follow before words → before < p → p ≤ last_of before words → one (is_taken (marks words) p) + one (stands_at p words) ≡ 1
one_owner before p [] follow low high = absurd (omega (arith, low, high))
one_owner before p (t ∷ ts) follow low high =
    elim (cases_lt t.position p) [
      | inl later ↦
          let stands : stands_at p (t ∷ ts) ≡ stands_at p ts = or_false (eqb t.position p) (stands_at p ts) (differ t.position p (omega (arith, later))) in
          let rest = one_owner t.position p ts follow.1 later high in
          elim (own_marks before t ts follow.0) [
            | inl plain ↦ omega (arith, rest, ap one stands, ap (λ gs. one (is_taken gs p)) plain.1)
            | inr bound ↦
                let taken : is_taken (marks (t ∷ ts)) p ≡ is_taken (marks ts) p = ap (λ gs. is_taken gs p) bound.2 ∙ or_false (eqb (before + 1) p) (is_taken (marks ts) p) (differ (before + 1) p (omega (arith, later, bound.0))) in
                omega (arith, rest, ap one stands, ap one taken)
          ]
      | inr here ↦
          let behind = none_taken t.position p ts follow.1 here in
          let after = none_stands t.position p ts follow.1 here in
          elim (own_marks before t ts follow.0) [
            | inl plain ↦
                let stands : stands_at p (t ∷ ts) ≡ true = or_true (eqb t.position p) (stands_at p ts) (eq-eqb t.position p (omega (arith, plain.0, low, here))) in
                omega (arith, ap one stands, ap (λ gs. one (is_taken gs p)) plain.1, ap one behind)
            | inr bound ↦ elim (cases_lt (before + 1) p) [
              | inl second ↦
                  let stands : stands_at p (t ∷ ts) ≡ true = or_true (eqb t.position p) (stands_at p ts) (eq-eqb t.position p (omega (arith, bound.0, second, here))) in
                  let taken : is_taken (marks (t ∷ ts)) p ≡ false = ap (λ gs. is_taken gs p) bound.2 ∙ or_false (eqb (before + 1) p) (is_taken (marks ts) p) (differ (before + 1) p (omega (arith, second))) ∙ behind in
                  omega (arith, ap one stands, ap one taken)
              | inr first ↦
                  let stands : stands_at p (t ∷ ts) ≡ false = or_false (eqb t.position p) (stands_at p ts) (differ t.position p (omega (arith, bound.0, first))) ∙ after in
                  let taken : is_taken (marks (t ∷ ts)) p ≡ true = ap (λ gs. is_taken gs p) bound.2 ∙ or_true (eqb (before + 1) p) (is_taken (marks ts) p) (eq-eqb (before + 1) p (omega (arith, first, low))) in
                  omega (arith, ap one stands, ap one taken)
            ]
          ]
    ]

-- where a word stands is one of the field's positions
pub stands_within : (before p : ℕ) (words : List TokenWord) → Follow before words → stands_at p words ≡ true → (before < p) × (p ≤ last_of before words)
stands_within before p [] follow e = absurd cc
stands_within before p (t ∷ ts) follow e =
    let above : before < t.position = elim (own_marks before t ts follow.0) [ inl plain ↦ omega (arith, plain.0) | inr bound ↦ omega (arith, bound.0) ] in
    elim (eqb t.position p) as (λ b. eqb t.position p ≡ b → (b || stands_at p ts) ≡ true → (before < p) × (p ≤ last_of t.position ts)) [
      | true ↦ λ is _. let same = eqb-true t.position p is in (omega (arith, above, same), omega (arith, same, last_above t.position ts follow.1))
      | false ↦ λ _ later. let its = stands_within t.position p ts follow.1 later in (omega (arith, above, its.0), its.1)
    ] refl e

-- ---- boundaries

between_from : (before low high : ℕ) (words : List TokenWord) → Follow before words → low ≤ before + 1 → last_of before words ≤ high → AreBetween low high (marks words)
between_from before low high [] follow at end = tt
between_from before low high (t ∷ ts) follow at end =
    elim (own_marks before t ts follow.0) [
      | inl plain ↦ subst (AreBetween low high) (sym plain.1) (between_from t.position low high ts follow.1 (omega (arith, at, plain.0)) end)
      | inr bound ↦
          subst (AreBetween low high) (sym bound.2)
          (at, omega (arith, bound.0, end, last_above t.position ts follow.1), between_from t.position (before + 1 + 2) high ts follow.1 (omega (arith, bound.0)) end)
    ]

-- they lie between words
pub between : (words : List TokenWord) → BeginPlain words → Follow 0 words → AreBetween 2 (last_of 0 words) (marks words)
between [] begin follow = tt
between (t ∷ ts) begin follow =
    let plain : t.position ≡ 1 = omega (arith, follow.0, ap step begin) in
    let none : marks (t ∷ ts) ≡ marks ts = ap (λ g. map mark (cond (is_boundary g) (t ∷ filter (λ (t : TokenWord). is_boundary t.gap) ts) (filter (λ (t : TokenWord). is_boundary t.gap) ts))) begin in
    subst (AreBetween 2 (last_of t.position ts)) (sym none) (between_from t.position 2 (last_of t.position ts) ts follow.1 (omega (arith, plain)) (omega arith))

kind_small : (gap : Gap) → kind_bit gap ≤ 1
kind_small kinds.None = omega arith
kind_small kinds.Sentence = omega arith
kind_small kinds.Paragraph = omega arith

-- and ascend, each with a number that has room
pub marks_ascend : (earlier before : ℕ) (words : List TokenWord) → earlier ≤ before → Follow before words → All (λ (t : TokenWord). t.position ≤ MAX_POSITION) words → AllFrom IsGapBehind (λ (gap : ℕ × Gap). gap.0) earlier (marks words)
marks_ascend earlier before [] low follow within = tt
marks_ascend earlier before (t ∷ ts) low follow within =
    let small : t.position ≤ MAX_POSITION = within zero t (omega arith) in
    let rest = All-tail (λ (t : TokenWord). t.position ≤ MAX_POSITION) t ts within in
    elim (own_marks before t ts follow.0) [
      | inl plain ↦ subst (AllFrom IsGapBehind (λ (gap : ℕ × Gap). gap.0) earlier) (sym plain.1) (marks_ascend earlier t.position ts (omega (arith, low, plain.0)) follow.1 rest)
      | inr bound ↦
          subst (AllFrom IsGapBehind (λ (gap : ℕ × Gap). gap.0) earlier) (sym bound.2)
          (record { behind = omega (arith, low); kind = bound.1; counted = omega (arith, small, bound.0, kind_small t.gap) }, marks_ascend (before + 1) t.position ts (omega (arith, bound.0)) follow.1 rest)
    ]

few_marks : (words : List TokenWord) → length (marks words) ≤ length words
few_marks [] = omega arith
few_marks (t ∷ ts) =
    elim (is_boundary t.gap) as (λ b. length (map mark (cond b (t ∷ filter (λ (t : TokenWord). is_boundary t.gap) ts) (filter (λ (t : TokenWord). is_boundary t.gap) ts))) ≤ suc (length ts)) [
      | true ↦ omega (arith, few_marks ts)
      | false ↦ omega (arith, few_marks ts)
    ]

pub marks_few : (words : List TokenWord) → length (marks words) ≤ length words
marks_few = few_marks
