-- A text has one list of pieces.
use Rattle.std.proofs.Common.{◌≡◌, ◌≢◌, ℕ, Bool, true, false, List, [], ◌∷◌, length, refl, sym, ap, ◌∙◌, subst, arith}
use Rattle.std.specs.Prelude.{Option, Some, None, MatchOption}
use Rattle.query_pieces.specs.declared.piece.Piece.{Piece}
use Rattle.query_pieces.specs.Operators.{operator_at}
use Rattle.query_pieces.specs.Letters.{Alphabet, Letter, letter_at}
use Rattle.query_pieces.specs.Pieces.{AreLetters, IsRun, IsWord, IsPlain, Stands, ends_in_letter, Splits, ArePieces, after_start, word_piece, separator_at}
use Rattle.query_pieces.proofs.LetterRuns.{after_flag}

same_letter : {a b : Letter} {o : Option Letter} → o ≡ Some a → o ≡ Some b → a ≡ b
same_letter {a} {b} e f = ap (λ o. elim o [ Some l ↦ l | None ↦ a ]) (sym e ∙ f)

none_some : {a : Letter} {o : Option Letter} → o ≡ None → o ≡ Some a → ⊥
none_some e f = cc

ends_same : (alphabet : Alphabet) (text : List ℕ) (flag : Bool) (from : ℕ) (a b : List ℕ) (to to' : ℕ) → AreLetters alphabet text flag from a to → AreLetters alphabet text flag from b to' → letter_at alphabet text (after_flag flag a) to ≡ None → letter_at alphabet text (after_flag flag b) to' ≡ None → to ≡ to'
ends_same alphabet text flag from [] [] to to' are are' none none' = sym are ∙ are'
ends_same alphabet text flag from [] (d ∷ ds) to to' are are' none none' = absurd (none_some (ap (letter_at alphabet text flag) are ∙ none) are'.1)
ends_same alphabet text flag from (c ∷ cs) [] to to' are are' none none' = absurd (none_some (ap (letter_at alphabet text flag) are' ∙ none') are.1)
ends_same alphabet text flag from (c ∷ cs) (d ∷ ds) to to' are are' none none' =
    let next = subst (λ (l : Letter). AreLetters alphabet text true l.to ds to') (sym (same_letter are.1 are'.1)) are'.3 in
    ends_same alphabet text true are.0.to cs ds to to' are.3 next (later to cs none) (later to' ds none')
  where
    later : (at : ℕ) (ls : List ℕ) → letter_at alphabet text true at ≡ None → letter_at alphabet text (after_flag true ls) at ≡ None
    later at [] e = e
    later at (l ∷ ls) e = e

run_ends : (alphabet : Alphabet) (text : List ℕ) (from : ℕ) (a b : List ℕ) (to to' : ℕ) → IsRun alphabet text from a to → IsRun alphabet text from b to' → to ≡ to'
run_ends alphabet text from a b to to' run run' = ends_same alphabet text false from a b to to' run.are run'.are (whole to a run.some run.whole) (whole to' b run'.some run'.whole)
  where
    whole : (at : ℕ) (ls : List ℕ) → ls ≢ [] → letter_at alphabet text true at ≡ None → letter_at alphabet text (after_flag false ls) at ≡ None
    whole at [] some e = absurd (some refl)
    whole at (l ∷ ls) some e = e

word_same : (alphabet : Alphabet) (text : List ℕ) (place : ℕ) (p q : Piece) → IsWord alphabet text place p → IsWord alphabet text place q → p ≡ q
word_same alphabet text place p q a b =
    a.is ∙ ap (word_piece alphabet text place (after_start text place)) (run_ends alphabet text (after_start text place) a.letters b.letters a.to b.to a.run b.run) ∙ sym b.is

plain_same : (alphabet : Alphabet) (text : List ℕ) (place : ℕ) (p q : Piece) → IsPlain alphabet text place p → IsPlain alphabet text place q → p ≡ q
plain_same alphabet text place p q = by (letter_at alphabet text false (after_start text place))
  where
    by : (o : Option Letter) → MatchOption o (p ≡ separator_at text place) (λ letter. IsWord alphabet text place p) → MatchOption o (q ≡ separator_at text place) (λ letter. IsWord alphabet text place q) → p ≡ q
    by None a b = a ∙ sym b
    by (Some letter) a b = word_same alphabet text place p q a b

pub stands_same : (alphabet : Alphabet) (text : List ℕ) (inside : Bool) (place : ℕ) (p q : Piece) → Stands alphabet text inside place p → Stands alphabet text inside place q → p ≡ q
stands_same alphabet text inside place p q = by (operator_at text inside place)
  where
    by : (o : Option Piece) → MatchOption o (IsPlain alphabet text place p) (λ operator. p ≡ operator) → MatchOption o (IsPlain alphabet text place q) (λ operator. q ≡ operator) → p ≡ q
    by None a b = plain_same alphabet text place p q a b
    by (Some operator) a b = a ∙ sym b

pub splits_same : (alphabet : Alphabet) (text : List ℕ) (inside : Bool) (from : ℕ) (a b : List Piece) → Splits alphabet text inside from a (length text) → Splits alphabet text inside from b (length text) → a ≡ b
splits_same alphabet text inside from [] [] x y = refl
splits_same alphabet text inside from [] (q ∷ b) x y = absurd (omega (arith, x, y.0))
splits_same alphabet text inside from (p ∷ a) [] x y = absurd (omega (arith, y, x.0))
splits_same alphabet text inside from (p ∷ a) (q ∷ b) x y =
    let first : p ≡ q = stands_same alphabet text inside from p q x.1 y.1 in
    let rest : Splits alphabet text (ends_in_letter p.form) p.to b (length text) = subst (λ (r : Piece). Splits alphabet text (ends_in_letter r.form) r.to b (length text)) (sym first) y.2 in
    ap (λ (r : Piece). r ∷ a) first ∙ ap (λ l. q ∷ l) (splits_same alphabet text (ends_in_letter p.form) p.to a b x.2 rest)

pub pieces_same : (alphabet : Alphabet) (text : List ℕ) (a b : List Piece) → ArePieces alphabet text a → ArePieces alphabet text b → a ≡ b
pieces_same alphabet text a b = splits_same alphabet text false 0 a b
