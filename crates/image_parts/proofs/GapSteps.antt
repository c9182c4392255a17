-- The boundaries of a field, one at a time.
use Rattle.std.proofs.Common.{◌≡◌, ℕ, ◌+◌, ◌-◌, ◌*◌, ◌/◌, ◌%◌, ◌<◌, ◌≤◌, ◌==◌, true, List, [], ◌∷◌, ◌++◌, length, take, drop, map, refl, sym, ap, subst, ◌∙◌, arith, append-nil, All}
use Rattle.std.specs.Prelude.{if◌then◌else◌}
use Rattle.std.proofs.lemmas.List.{drop_all}
use Rattle.doc_types.specs.declared.tokens.FieldTokens.{FieldTokens}
use Rattle.doc_types.specs.declared.tokens.Gap.{Gap}
use Rattle.doc_types.specs.declared.tokens.Gap.TheVariants as gaps
use Rattle.doc_types.specs.declared.tokens.TheConstants.{MAX_POSITION}
use Rattle.doc_types.specs.Chunks.{gaps_of, is_boundary}
use Rattle.chunk_image.specs.Marks.{gap_numbers, kind_bit}
use Rattle.image_parts.specs.steps.Reading.{AreNumbersAt, GoOn}
use Rattle.image_parts.proofs.FieldSteps.{Ahead, ahead, gaps_in, grown_all, grown_more, numbered}

-- of the boundaries so many were appended, and the others are spelled at this place, behind this position
pub record GapsLeft (bytes : List ℕ) (all : List (ℕ × Gap)) (others : List ℕ) (field : ℕ) (start list : List (ℕ × (ℕ × Gap))) (place position count i : ℕ) : Type 0 where
  pub counted : count ≡ length all
  pub numbers : AreNumbersAt bytes place (gap_numbers position (drop i all) ++ others)
  pub on : GoOn position (drop i all)
  pub grown : list ≡ start ++ map (λ gap. (field, gap)) (take i all)

pub gaps_none : (bytes : List ℕ) (all : List (ℕ × Gap)) (others : List ℕ) (field : ℕ) (start : List (ℕ × (ℕ × Gap))) (place count : ℕ) → GoOn 0 all → (count ≡ length all) × AreNumbersAt bytes place (gap_numbers 0 all ++ others)
    → GapsLeft bytes all others field start start place 0 count 0
gaps_none bytes all others field start place count on its = record { counted = its.0; numbers = its.1; on = on; grown = sym (append-nil start) }

-- the next one
pub record GapStep (bytes : List ℕ) (all : List (ℕ × Gap)) (others : List ℕ) (place position i : ℕ) : Type 0 where
  pub gap : Ahead all i
  pub numbers : AreNumbersAt bytes place ((2 * (gap.one.0 - position) + kind_bit gap.one.1) ∷ (gap_numbers gap.one.0 (drop (i + 1) all) ++ others))
  pub behind : position ≤ gap.one.0
  pub small : gap.one.0 ≤ MAX_POSITION
  pub kind : is_boundary gap.one.1 ≡ true
  pub on : GoOn gap.one.0 (drop (i + 1) all)

pub gap_step : (bytes : List ℕ) (all : List (ℕ × Gap)) (others : List ℕ) (field : ℕ) (start list : List (ℕ × (ℕ × Gap))) (place position count i : ℕ) → GapsLeft bytes all others field start list place position count i → i < count → GapStep bytes all others place position i
gap_step bytes all others field start list place position count i left low =
    let a = ahead all i (omega (arith, low, left.counted)) in
    let on : GoOn position (a.one ∷ drop (i + 1) all) = subst (GoOn position) a.drops left.on in
    record {
      gap = a;
      numbers = subst (λ gs. AreNumbersAt bytes place (gap_numbers position gs ++ others)) a.drops left.numbers;
      behind = on.0;
      small = on.1;
      kind = on.2;
      on = on.3;
    }

-- what its number tells
kind_told : (gap : Gap) (number twice : ℕ) → is_boundary gap ≡ true → number ≡ 2 * twice + kind_bit gap → (if number % 2 == 0 then gaps.Sentence else gaps.Paragraph) ≡ gap
kind_told gaps.None number twice is e = absurd cc
kind_told gaps.Sentence number twice is e = let even : number % 2 ≡ 0 = omega (arith, e) in rw even refl
kind_told gaps.Paragraph number twice is e = let odd : number % 2 ≡ 1 = omega (arith, e) in rw odd refl

half : (gap : Gap) (number twice : ℕ) → number ≡ 2 * twice + kind_bit gap → number / 2 ≡ twice
half gaps.None number twice e = omega (arith, e)
half gaps.Sentence number twice e = omega (arith, e)
half gaps.Paragraph number twice e = omega (arith, e)

pub position_told : (position number : ℕ) (gap : ℕ × Gap) → position ≤ gap.0 → number ≡ 2 * (gap.0 - position) + kind_bit gap.1 → position + number / 2 ≡ gap.0
position_told position number gap behind e = omega (arith, behind, half gap.1 number (gap.0 - position) e)

pub gap_told : (position number : ℕ) (gap : ℕ × Gap) → position ≤ gap.0 → is_boundary gap.1 ≡ true → number ≡ 2 * (gap.0 - position) + kind_bit gap.1
    → (position + number / 2, (if number % 2 == 0 then gaps.Sentence else gaps.Paragraph)) ≡ gap
gap_told position number gap behind is e =
    let place : position + number / 2 ≡ gap.0 = position_told position number gap behind e in
    let kind : (if number % 2 == 0 then gaps.Sentence else gaps.Paragraph) ≡ gap.1 = kind_told gap.1 number (gap.0 - position) is e in
    λ i. (place i, kind i)

pub gaps_more : (bytes : List ℕ) (all : List (ℕ × Gap)) (others : List ℕ) (field : ℕ) (start list after : List (ℕ × (ℕ × Gap))) (place next position number count i : ℕ) (kind : Gap)
    → GapsLeft bytes all others field start list place position count i → (s : GapStep bytes all others place position i)
    → (number ≡ 2 * (s.gap.one.0 - position) + kind_bit s.gap.one.1) × AreNumbersAt bytes next (gap_numbers s.gap.one.0 (drop (i + 1) all) ++ others)
    → kind ≡ (if number % 2 == 0 then gaps.Sentence else gaps.Paragraph) → after ≡ list ++ (field, (position + number / 2, kind)) ∷ []
    → GapsLeft bytes all others field start after next (position + number / 2) count (i + 1)
gaps_more bytes all others field start list after place next position number count i kind left s its told put =
    let gap : ℕ × Gap = s.gap.one in
    let at : position + number / 2 ≡ gap.0 = position_told position number gap s.behind its.0 in
    let same : (position + number / 2, kind) ≡ gap = ap (λ k. (position + number / 2, k)) told ∙ gap_told position number gap s.behind s.kind its.0 in
    record {
      counted = left.counted;
      numbers = subst (λ p. AreNumbersAt bytes next (gap_numbers p (drop (i + 1) all) ++ others)) (sym at) its.1;
      on = subst (λ p. GoOn p (drop (i + 1) all)) (sym at) s.on;
      grown = grown_more (λ (g : ℕ × Gap). (field, g)) all i s.gap start list after left.grown (put ∙ ap (λ g. list ++ (field, g) ∷ []) same);
    }

-- all were appended
pub gaps_all : (bytes : List ℕ) (all : List (ℕ × Gap)) (others : List ℕ) (field : ℕ) (start list : List (ℕ × (ℕ × Gap))) (place position count i : ℕ) → GapsLeft bytes all others field start list place position count i → count ≤ i
    → (list ≡ start ++ map (λ gap. (field, gap)) all) × AreNumbersAt bytes place others
gaps_all bytes all others field start list place position count i left past =
    let none : drop i all ≡ [] = drop_all i all (omega (arith, past, left.counted)) in
    (grown_all (λ (g : ℕ × Gap). (field, g)) all i start list (omega (arith, past, left.counted)) left.grown, subst (λ gs. AreNumbersAt bytes place (gap_numbers position gs ++ others)) none left.numbers)

-- the number of a field's boundaries, as it stands before them
pub recounted : (bytes : List ℕ) (at : ℕ) (tokens : FieldTokens) (rest : List ℕ) → AreNumbersAt bytes at (length (gaps_in tokens) ∷ (gaps_in tokens ++ rest)) → AreNumbersAt bytes at (length (gaps_of tokens) ∷ (gap_numbers 0 (gaps_of tokens) ++ rest))
recounted bytes at tokens rest are = subst (λ n. AreNumbersAt bytes at (n ∷ (gaps_in tokens ++ rest))) (numbered 0 (gaps_of tokens)) are

-- the boundaries of the field that is next are in order
pub on_there : (fields : List FieldTokens) (i : ℕ) (a : Ahead fields i) → i < length fields → All (λ tokens. GoOn 0 (gaps_of tokens)) fields → GoOn 0 (gaps_of a.one)
on_there fields i a low on = subst (λ (tokens : FieldTokens). GoOn 0 (gaps_of tokens)) (sym a.is) (on i a.one low)
