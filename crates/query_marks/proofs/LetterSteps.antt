-- What each character is folded to, one character after the other.
use Rattle.std.proofs.Common.{◌≡◌, ◌≢◌, ℕ, ◌+◌, ◌<◌, ◌≤◌, Bool, true, false, eqb, List, [], ◌∷◌, ◌++◌, length, get_or, drop, sym, ap, ◌∙◌, append_assoc, append-nil}
use Rattle.std.specs.Prelude.{Option, None}
use Rattle.std.proofs.lemmas.Bool.{cond-false, ne_eqb}
use Rattle.std.proofs.lemmas.List.{drop_more, drop_all}
use Rattle.query_marks.specs.QueryWords.{plain_letter, letters_from}

-- The letters of the characters before a place, with what those from there on give, are as wanted.
pub record Folds (fold : ℕ → Option ℕ) (characters : List ℕ) (place : ℕ) (escaped : Bool) (letters : List (Option ℕ)) : Type 0 where
  pub is : letters ++ letters_from fold escaped (drop place characters) ≡ letters_from fold false characters

-- one element more
pub pushed : {X : Type 0} (done next : List X) (x : X) (rest whole all : List X) → next ≡ done ++ x ∷ [] → whole ≡ x ∷ rest → done ++ whole ≡ all → next ++ rest ≡ all
pushed done next x rest whole all grown front is = ap (λ l. l ++ rest) grown ∙ append_assoc done (x ∷ []) rest ∙ ap (λ l. done ++ l) (sym front) ∙ is

pub folds_start : (fold : ℕ → Option ℕ) (characters : List ℕ) (letters : List (Option ℕ)) → letters ≡ [] → Folds fold characters 0 false letters
folds_start fold characters letters empty = record { is = ap (λ l. l ++ letters_from fold false characters) empty }

-- the character after a `\`
pub folds_escaped : (fold : ℕ → Option ℕ) (characters : List ℕ) (place : ℕ) (letters next : List (Option ℕ)) → place < length characters → Folds fold characters place true letters → next ≡ letters ++ fold (get_or characters place 0) ∷ [] → Folds fold characters (place + 1) false next
folds_escaped fold characters place letters next below folds grown = record {
  is = pushed letters next (fold (get_or characters place 0)) (letters_from fold false (drop (place + 1) characters)) (letters_from fold true (drop place characters)) (letters_from fold false characters) grown
      (ap (letters_from fold true) (drop_more characters place 0 below)) folds.is;
}

-- a `\`
pub folds_backslash : (fold : ℕ → Option ℕ) (characters : List ℕ) (place : ℕ) (letters : List (Option ℕ)) → place < length characters → get_or characters place 0 ≡ 92 → Folds fold characters place false letters → Folds fold characters (place + 1) true letters
folds_backslash fold characters place letters below is folds = record {
  is = ap (λ (c : ℕ). letters ++ letters_from fold false (c ∷ drop (place + 1) characters)) (sym is)
      ∙ ap (λ (l : List ℕ). letters ++ letters_from fold false l) (sym (drop_more characters place 0 below)) ∙ folds.is;
}

-- any other character
pub folds_plain : (fold : ℕ → Option ℕ) (characters : List ℕ) (place : ℕ) (letters next : List (Option ℕ)) → place < length characters → get_or characters place 0 ≢ 92 → Folds fold characters place false letters → next ≡ letters ++ plain_letter fold (get_or characters place 0) ∷ [] → Folds fold characters (place + 1) false next
folds_plain fold characters place letters next below other folds grown = record {
  is = pushed letters next (plain_letter fold (get_or characters place 0)) (letters_from fold false (drop (place + 1) characters)) (letters_from fold false (drop place characters)) (letters_from fold false characters) grown
      (ap (letters_from fold false) (drop_more characters place 0 below)
      ∙ cond-false (eqb (get_or characters place 0) 92) (letters_from fold true (drop (place + 1) characters)) (plain_letter fold (get_or characters place 0) ∷ letters_from fold false (drop (place + 1) characters)) (ne_eqb (get_or characters place 0) 92 other))
      folds.is;
}

-- at the end
pub folds_end : (fold : ℕ → Option ℕ) (characters : List ℕ) (place : ℕ) (letters : List (Option ℕ)) → length characters ≤ place → Folds fold characters place false letters → letters ≡ letters_from fold false characters
folds_end fold characters place letters past folds = sym (append-nil letters) ∙ ap (λ (l : List ℕ). letters ++ letters_from fold false l) (sym (drop_all place characters past)) ∙ folds.is

pub folds_end_escaped : (fold : ℕ → Option ℕ) (characters : List ℕ) (place : ℕ) (letters next : List (Option ℕ)) → length characters ≤ place → Folds fold characters place true letters → next ≡ letters ++ None ∷ [] → next ≡ letters_from fold false characters
folds_end_escaped fold characters place letters next past folds grown = grown ∙ ap (λ (l : List ℕ). letters ++ letters_from fold true l) (sym (drop_all place characters past)) ∙ folds.is
