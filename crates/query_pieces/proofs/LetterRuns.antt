-- Letters that are read one by one, and pieces.
use Rattle.std.proofs.Common.{◌≡◌, ℕ, ◌<◌, Bool, true, false, List, [], ◌∷◌, ◌++◌, length, refl, sym, ap, ◌∙◌, subst, arith}
use Rattle.std.specs.Prelude.{Option, Some, None}
use Rattle.std.specs.Str.{IsCharBoundary}
use Rattle.query_pieces.specs.declared.piece.Piece.{Piece}
use Rattle.query_pieces.specs.Letters.{Alphabet, Letter, letter_at}
use Rattle.query_pieces.specs.Pieces.{AreLetters, IsRun, Stands, ends_in_letter, Splits}
use Rattle.query_pieces.specs.steps.Ends.{HasRead, Follows, Ahead, are_some}

-- the flag after letters
abbrev pub after_flag : Bool → List ℕ → Bool
after_flag flag [] = flag
after_flag flag (c ∷ cs) = true

pub letters_push : (alphabet : Alphabet) (text : List ℕ) (flag : Bool) (from : ℕ) (letters : List ℕ) (at : ℕ) (letter : Letter) → AreLetters alphabet text flag from letters at → letter_at alphabet text (after_flag flag letters) at ≡ Some letter → AreLetters alphabet text flag from (letters ++ letter.folded ∷ []) letter.to
letters_push alphabet text flag from [] at letter are is = (letter, subst (λ n. letter_at alphabet text flag n ≡ Some letter) (sym are) is, refl, refl)
letters_push alphabet text flag from (c ∷ []) at letter are is = (are.0, are.1, are.2, letters_push alphabet text true are.0.to [] at letter are.3 is)
letters_push alphabet text flag from (c ∷ d ∷ cs) at letter are is = (are.0, are.1, are.2, letters_push alphabet text true are.0.to (d ∷ cs) at letter are.3 is)

pub flag_is : (letters : List ℕ) → after_flag false letters ≡ are_some letters
flag_is [] = refl
flag_is (c ∷ cs) = refl

push_some : (letters : List ℕ) (c : ℕ) → true ≡ are_some (letters ++ c ∷ [])
push_some [] c = refl
push_some (d ∷ ds) c = refl

pub has_read_none : (alphabet : Alphabet) (text : List ℕ) (from : ℕ) → IsCharBoundary text from → HasRead alphabet text from false from
has_read_none alphabet text from seam = record { letters = []; are = refl; flag = refl; ahead = refl; seam = seam }

pub has_read_more : (alphabet : Alphabet) (text : List ℕ) (from : ℕ) (inside : Bool) (at : ℕ) (letter : Letter) → HasRead alphabet text from inside at → letter_at alphabet text inside at ≡ Some letter → Follows text at letter.to → HasRead alphabet text from true letter.to
has_read_more alphabet text from inside at letter h is follows = record {
  letters = h.letters ++ letter.folded ∷ [];
  are = letters_push alphabet text false from h.letters at letter h.are (ap (λ b. letter_at alphabet text b at) (flag_is h.letters ∙ sym h.flag) ∙ is);
  flag = push_some h.letters letter.folded;
  ahead = further inside h.ahead;
  seam = follows.seam;
}
  where
    further : (b : Bool) → Ahead b from at → from < letter.to
    further true ahead = omega (arith, ahead, follows.after)
    further false ahead = omega (arith, ahead, follows.after)

-- the run is whole where no further letter stands
pub run_of : (alphabet : Alphabet) (text : List ℕ) (from : ℕ) (inside : Bool) (at : ℕ) → HasRead alphabet text from inside at → letter_at alphabet text inside at ≡ None → (letter_at alphabet text false from ≡ None → ⊥) → (letters : List ℕ) × IsRun alphabet text from letters at
run_of alphabet text from inside at h none some = cases h.letters h.are (h.flag)
  where
    cases : (letters : List ℕ) → AreLetters alphabet text false from letters at → inside ≡ are_some letters → (letters : List ℕ) × IsRun alphabet text from letters at
    cases [] are flag = absurd (some (ap (λ n. letter_at alphabet text false n) are ∙ ap (λ b. letter_at alphabet text b at) (sym flag) ∙ none))
    cases (c ∷ cs) are flag = (c ∷ cs, record { some = λ e. cc; are = are; whole = ap (λ b. letter_at alphabet text b at) (sym flag) ∙ none })

-- a run has bytes
pub run_ahead : (alphabet : Alphabet) (text : List ℕ) (from : ℕ) (inside : Bool) (at : ℕ) → HasRead alphabet text from inside at → letter_at alphabet text inside at ≡ None → (letter_at alphabet text false from ≡ None → ⊥) → Follows text from at
run_ahead alphabet text from true at h none some = record { after = h.ahead; seam = h.seam }
run_ahead alphabet text from false at h none some = absurd (some (ap (letter_at alphabet text false) h.ahead ∙ none))

-- whether a letter stands directly after some pieces
abbrev pub after_pieces : Bool → List Piece → Bool
after_pieces inside [] = inside
after_pieces inside (p ∷ pieces) = after_pieces (ends_in_letter p.form) pieces

pub after_push : (inside : Bool) (list : List Piece) (p : Piece) → after_pieces inside (list ++ p ∷ []) ≡ ends_in_letter p.form
after_push inside [] p = refl
after_push inside (first ∷ list) p = after_push (ends_in_letter first.form) list p

-- one piece more
pub splits_push : (alphabet : Alphabet) (text : List ℕ) (inside : Bool) (from at : ℕ) (list : List Piece) (p : Piece) → Splits alphabet text inside from list at → at < length text → Stands alphabet text (after_pieces inside list) at p → Splits alphabet text inside from (list ++ p ∷ []) p.to
splits_push alphabet text inside from at [] p splits within stands = (subst (λ n. n < length text) (sym splits) within, subst (λ n. Stands alphabet text inside n p) (sym splits) stands, refl)
splits_push alphabet text inside from at (first ∷ list) p splits within stands = (splits.0, splits.1, splits_push alphabet text (ends_in_letter first.form) first.to at list p splits.2 within stands)
