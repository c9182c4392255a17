-- Sentence ends, character by character.
use Rattle.std.proofs.Common.{Bool, IsUtf8, ◌≡◌, ℕ, ◌+◌, List, [], ◌∷◌, ◌++◌, reverse, sym, ◌∙◌, ap, refl, subst, append_assoc, append-nil}
use Rattle.std.specs.Prelude.{Option}
use Rattle.std.specs.Char.{len_utf8, encode_utf8}
use Rattle.std.specs.Str.{chars}
use Rattle.std.proofs.lemmas.Str.{chars_past_char, chars-append}
use Rattle.std.proofs.lemmas.List.{reverse-append}
use Rattle.mark_scan.specs.declared.mark.Mark.{Mark}
use Rattle.mark_scan.specs.declared.sentences.Before.{Before}
use Rattle.mark_scan.specs.steps.Scanning.{IsBefore}
use Rattle.mark_scan.specs.Sentences.{ends_sentence, sentence_mark, sentence_marks}

-- Some characters of a text were looked at, and these are left: with the marks of those the list is as wanted.
pub record Reached (fold : ℕ → Option ℕ) (after : List ℕ) (from : ℕ) (text seen : List ℕ) (old : List Mark) (state : Before) (place : ℕ) (left : List ℕ) (list : List Mark) : Type 0 where
  pub now : List ℕ
  pub is_before : IsBefore fold state now
  pub same_end : reverse left ++ now ≡ reverse text ++ seen
  pub marks : list ++ sentence_marks fold place now left after ≡ old ++ sentence_marks fold from seen text after

-- a list turned round ends with what it began with
reverse_cons : (c : ℕ) (l : List ℕ) → reverse (c ∷ l) ≡ reverse l ++ c ∷ []
reverse_cons c l = reverse-append (c ∷ []) l

-- one character more
pub reached_next : (fold : ℕ → Option ℕ) (after : List ℕ) (from : ℕ) (text seen : List ℕ) (old : List Mark) (state next : Before) (place : ℕ) (c : ℕ) (left : List ℕ) (list new : List Mark)
    → (reached : Reached fold after from text seen old state place (c ∷ left) list)
    → IsBefore fold next (c ∷ reached.now)
    → new ≡ list ++ sentence_mark (ends_sentence fold reached.now c (left ++ after)) place
    → Reached fold after from text seen old next (place + len_utf8 c) left new
reached_next fold after from text seen old state next place c left list new reached is_before new_is = record {
  now = c ∷ reached.now;
  is_before = is_before;
  same_end = sym (append_assoc (reverse left) (c ∷ []) reached.now) ∙ ap (λ (l : List ℕ). l ++ reached.now) (sym (reverse_cons c left)) ∙ reached.same_end;
  marks = ap (λ (l : List Mark). l ++ sentence_marks fold (place + len_utf8 c) (c ∷ reached.now) left after) new_is ∙ append_assoc list _ _ ∙ reached.marks;
}

-- at the start
pub reached_start : (fold : ℕ → Option ℕ) (after : List ℕ) (from : ℕ) (text seen : List ℕ) (old : List Mark) (state : Before) → IsBefore fold state seen → Reached fold after from text seen old state from text old
reached_start fold after from text seen old state is = record { now = seen; is_before = is; same_end = refl; marks = refl }

-- at the end
pub reached_end : (fold : ℕ → Option ℕ) (after : List ℕ) (from : ℕ) (text seen : List ℕ) (old : List Mark) (state : Before) (place : ℕ) (list : List Mark) → Reached fold after from text seen old state place [] list → (list ≡ old ++ sentence_marks fold from seen text after) × IsBefore fold state (reverse text ++ seen)
reached_end fold after from text seen old state place list reached = (sym (append-nil list) ∙ reached.marks, subst (IsBefore fold state) reached.same_end reached.is_before)

-- one character more of a text that is left
pub reached_step : (fold : ℕ → Option ℕ) (after : List ℕ) (from : ℕ) (text seen : List ℕ) (old : List Mark) (state next : Before) (place place' : ℕ) (c : ℕ) (rest beyond : List ℕ) (list new : List Mark) (ends : Bool)
    → IsUtf8 rest → rest ≡ encode_utf8 c ++ beyond → IsUtf8 beyond
    → Reached fold (chars after) from text seen old state place (chars rest) list
    → ((now : List ℕ) → IsBefore fold state now → IsBefore fold next (c ∷ now))
    → ((now : List ℕ) → IsBefore fold state now → ends ≡ ends_sentence fold now c (chars (beyond ++ after)))
    → place' ≡ place + len_utf8 c
    → new ≡ list ++ sentence_mark ends place
    → Reached fold (chars after) from text seen old next place' (chars beyond) new
reached_step fold after from text seen old state next place place' c rest beyond list new ends utf8 is after_utf8 reached next_is ends_is place_is new_is =
    let turned = subst (λ (l : List ℕ). Reached fold (chars after) from text seen old state place l list) (chars_past_char rest beyond c utf8 is) reached in
    let ending = ends_is turned.now turned.is_before ∙ ap (λ (l : List ℕ). ends_sentence fold turned.now c l) (chars-append beyond after after_utf8) in
    subst (λ (p : ℕ). Reached fold (chars after) from text seen old next p (chars beyond) new) (sym place_is)
    (reached_next fold (chars after) from text seen old state next place c (chars beyond) list new turned (next_is turned.now turned.is_before) (new_is ∙ ap (λ (b : Bool). list ++ sentence_mark b place) ending))
