-- The marks of a text, one piece after the other.
use Rattle.std.proofs.Common.{◌≡◌, ◌≢◌, ◌⊎◌, inl, inr, ℕ, ◌-◌, ◌<◌, ◌≤◌, Bool, true, false, List, [], ◌∷◌, ◌++◌, length, length-append, append_assoc, refl, sym, ap, ◌∙◌, subst, arith, Vec, Global}
use Rattle.std.specs.Prelude.{Option, Some, None, ◌&&◌, ◌||◌, not, nat_lt, if◌then◌else◌, option_to_list, Result, Ok, Err, IfOk}
use Rattle.std.specs.Option.{option_map}
use Rattle.std.specs.Str.{IsCharBoundary}
use Rattle.std.proofs.lemmas.Bool.{and_parts, ltb-true}
use Rattle.std.proofs.lemmas.List.Folds.{list_any-append}
use Rattle.query_pieces.specs.declared.piece.Form.{Form}
use Rattle.query_pieces.specs.declared.piece.Form.TheVariants as forms
use Rattle.query_pieces.specs.declared.piece.Piece.{Piece}
use Rattle.query_pieces.specs.Letters.{Alphabet}
use Rattle.query_pieces.specs.Pieces.{Stands, Splits, ArePieces, ends_in_letter}
use Rattle.query_pieces.proofs.OneReading.{stands_same}
use Rattle.query_marks.specs.declared.fault.Wrong.{Wrong}
use Rattle.query_tree.specs.declared.key.Key.{Key}
use Rattle.query_tree.specs.declared.key.How.{How}
use Rattle.query_tree.specs.declared.key.How.TheVariants as hows
use Rattle.query_marks.specs.declared.limits.Limits.{Limits}
use Rattle.query_marks.specs.declared.mark.Mark.{Mark}
use Rattle.query_marks.specs.declared.mark.Sign.TheVariants as signs
use Rattle.query_marks.specs.declared.state.State.{State}
use Rattle.query_marks.specs.Marks.{Setting, mark_at, mark_of, after, marks_from, marks_of, at_start, before_marks, but_last, word_sign, phrase_sign, loose_sign, quoted_sign, zone_sign}
use Rattle.query_marks.specs.Enough.{is_not, has_not, has_wrong, depth_by, depth_after, AreEnough}

-- ---- how deep groups are
depth_append : (n : ℕ) (a b : List Mark) → depth_after n (a ++ b) ≡ depth_after (depth_after n a) b
depth_append n [] b = refl
depth_append n (m ∷ a) b = depth_append (depth_by n m.sign) a b

word_flat : (n at : ℕ) (wrong : Option Wrong) (prefix : Bool) (keys : List Key) → n ≡ depth_after n (option_to_list (option_map (mark_at at wrong) (word_sign prefix keys)))
word_flat n at wrong prefix [] = refl
word_flat n at wrong prefix (key ∷ keys) = refl

phrase_flat : (n at : ℕ) (wrong : Option Wrong) (keys : List Key) → n ≡ depth_after n (option_to_list (option_map (mark_at at wrong) (phrase_sign keys)))
phrase_flat n at wrong [] = refl
phrase_flat n at wrong (key ∷ []) = refl
phrase_flat n at wrong (key ∷ other ∷ keys) = refl

loose_flat : (n at : ℕ) (wrong : Option Wrong) (keys : List Key) (how : How) → n ≡ depth_after n (option_to_list (option_map (mark_at at wrong) (loose_sign keys how)))
loose_flat n at wrong [] how = refl
loose_flat n at wrong (key ∷ keys) how = refl

quoted_flat : (n at : ℕ) (wrong : Option Wrong) (keys : List Key) (how : How) → n ≡ depth_after n (option_to_list (option_map (mark_at at wrong) (quoted_sign keys how)))
quoted_flat n at wrong keys hows.Phrase = phrase_flat n at wrong keys
quoted_flat n at wrong keys (hows.Within k) = loose_flat n at wrong keys (hows.Within k)
quoted_flat n at wrong keys (hows.AtLeast k) = loose_flat n at wrong keys (hows.AtLeast k)
quoted_flat n at wrong keys (hows.Share digits places) = loose_flat n at wrong keys (hows.Share digits places)

span_flat : (n : ℕ) (b : Bool) (zones : List ℕ) → n ≡ depth_by n (if b then signs.Spans zones else signs.Limits)
span_flat n true zones = refl
span_flat n false zones = refl

but_last_length : (around : List Limits) → length (but_last around) ≡ length around - 1
but_last_length [] = omega arith
but_last_length (outer ∷ []) = omega arith
but_last_length (outer ∷ next ∷ around) = omega (arith, but_last_length (next ∷ around))

form_depth : (setting : Setting) (state : State) (text : List ℕ) (at : ℕ) (form : Form) → length (after setting state text form).around ≡ depth_after (length state.around) (option_to_list (mark_of setting state text at form))
form_depth setting state text at (forms.Word w) = word_flat (length state.around) at _ _ _
form_depth setting state text at (forms.Quoted q) = quoted_flat (length state.around) at _ _ _
form_depth setting state text at forms.Unclosed = refl
form_depth setting state text at forms.Open = length-append state.around (state.here ∷ [])
form_depth setting state text at forms.Close = but_last_length state.around
form_depth setting state text at forms.Or = refl
form_depth setting state text at forms.Before = refl
form_depth setting state text at forms.Not = refl
form_depth setting state text at forms.Maybe = refl
form_depth setting state text at forms.Sentence = refl
form_depth setting state text at forms.Paragraph = refl
form_depth setting state text at (forms.Near s) = refl
form_depth setting state text at (forms.Fields limit) = refl
form_depth setting state text at (forms.Zones limit) = zones setting.zones
  where
    zones : (list : List (List ℕ)) → length state.around ≡ depth_by (length state.around) (zone_sign list text limit)
    zones [] = refl
    zones (zone ∷ list) = span_flat (length state.around) limit.span _
form_depth setting state text at forms.Relaxed = refl
form_depth setting state text at forms.Separator = refl

-- ---- marks
before_is : (o : Option Mark) (marks : List Mark) → before_marks o marks ≡ option_to_list o ++ marks
before_is None marks = refl
before_is (Some mark) marks = refl

-- there is the end at least
some_marks : (setting : Setting) (text : List ℕ) (state : State) (at : ℕ) (pieces : List Piece) → marks_from setting text state at pieces ≢ []
some_marks setting text state at [] = λ e. cc
some_marks setting text state at (p ∷ pieces) = before (mark_of setting state text at p.form) _ (some_marks setting text (after setting state text p.form) p.to pieces)
  where
    before : (o : Option Mark) (marks : List Mark) → marks ≢ [] → before_marks o marks ≢ []
    before None marks some = some
    before (Some mark) marks some = λ e. cc

-- The pieces that are left, with the marks that they give, after those that were read.
pub record Left (alphabet : Alphabet) (setting : Setting) (text : List ℕ) (marks : List Mark) (state : State) (inside : Bool) (at : ℕ) (pieces : List Piece) : Type 0 where
  pub rest : List Piece
  pub splits : Splits alphabet text inside at rest (length text)
  pub is : marks_of setting text pieces ≡ marks ++ marks_from setting text state at rest

-- what is known between two pieces
pub record Marked (alphabet : Alphabet) (setting : Setting) (text : List ℕ) (marks : List Mark) (state : State) (inside : Bool) (at : ℕ) (negated : Bool) : Type 0 where
  pub seam : IsCharBoundary text at
  pub left : (pieces : List Piece) → ArePieces alphabet text pieces → Left alphabet setting text marks state inside at pieces
  pub not : negated ≡ has_not marks
  pub deep : length state.around ≡ depth_after 0 marks

pub marked_start : (alphabet : Alphabet) (setting : Setting) (text : List ℕ) (marks : List Mark) (state : State) → IsCharBoundary text 0 → marks ≡ [] → state ≡ at_start setting → Marked alphabet setting text marks state false 0 false
marked_start alphabet setting text marks state seam none start = record {
  seam = seam;
  left = λ pieces are. record {
    rest = pieces;
    splits = are;
    is = ap (λ s. marks_from setting text s 0 pieces) (sym start) ∙ ap (λ l. l ++ marks_from setting text state 0 pieces) (sym none);
  };
  not = ap has_not (sym none);
  deep = ap (λ (s : State). length s.around) start ∙ ap (depth_after 0) (sym none);
}

left_next : (alphabet : Alphabet) (setting : Setting) (text : List ℕ) (marks next : List Mark) (state then_state : State) (inside then_inside : Bool) (at : ℕ) (p : Piece) (found : Option Mark) (pieces : List Piece) →
    at < length text → Stands alphabet text inside at p → found ≡ mark_of setting state text at p.form → then_state ≡ after setting state text p.form → next ≡ marks ++ option_to_list found → then_inside ≡ ends_in_letter p.form →
    Left alphabet setting text marks state inside at pieces → Left alphabet setting text next then_state then_inside p.to pieces
left_next alphabet setting text marks next state then_state inside then_inside at p found pieces within stands found_is state_is next_is inside_is left = by left.rest left.splits left.is
  where
    by : (rest : List Piece) → Splits alphabet text inside at rest (length text) → marks_of setting text pieces ≡ marks ++ marks_from setting text state at rest → Left alphabet setting text next then_state then_inside p.to pieces
    by [] splits is = absurd (omega (arith, splits, within))
    by (q ∷ rest) splits is =
        let same : q ≡ p = stands_same alphabet text inside at q p splits.1 stands in
        let ahead : List Mark = marks_from setting text (after setting state text p.form) p.to rest in
        record {
          rest = rest;
          splits = subst (λ (b : Bool). Splits alphabet text b p.to rest (length text)) (sym inside_is) (subst (λ (r : Piece). Splits alphabet text (ends_in_letter r.form) r.to rest (length text)) same splits.2);
          is = is
              ∙ ap (λ (r : Piece). marks ++ before_marks (mark_of setting state text at r.form) (marks_from setting text (after setting state text r.form) r.to rest)) same
              ∙ ap (λ l. marks ++ l) (before_is (mark_of setting state text at p.form) ahead)
              ∙ sym (append_assoc marks (option_to_list (mark_of setting state text at p.form)) ahead)
              ∙ ap (λ o. (marks ++ option_to_list o) ++ ahead) (sym found_is)
              ∙ ap (λ l. l ++ ahead) (sym next_is)
              ∙ ap (λ s. next ++ marks_from setting text s p.to rest) (sym state_is);
        }

pub marked_next : (alphabet : Alphabet) (setting : Setting) (text : List ℕ) (marks next : List Mark) (state then_state : State) (inside then_inside : Bool) (at : ℕ) (p : Piece) (found : Option Mark) (negated then_negated : Bool) →
    at < length text → Stands alphabet text inside at p → IsCharBoundary text p.to → found ≡ mark_of setting state text at p.form → then_state ≡ after setting state text p.form → next ≡ marks ++ option_to_list found → then_inside ≡ ends_in_letter p.form →
    then_negated ≡ (negated || has_not (option_to_list found)) →
    Marked alphabet setting text marks state inside at negated → Marked alphabet setting text next then_state then_inside p.to then_negated
marked_next alphabet setting text marks next state then_state inside then_inside at p found negated then_negated within stands seam found_is state_is next_is inside_is negated_is marked = record {
  seam = seam;
  left = λ pieces are. left_next alphabet setting text marks next state then_state inside then_inside at p found pieces within stands found_is state_is next_is inside_is (marked.left pieces are);
  not = negated_is ∙ ap (λ b. b || has_not (option_to_list found)) marked.not ∙ sym (list_any-append (λ (m : Mark). is_not m.sign) marks (option_to_list found)) ∙ ap has_not (sym next_is);
  deep = ap (λ (s : State). length s.around) state_is ∙ form_depth setting state text at p.form ∙ ap (λ n. depth_after n (option_to_list (mark_of setting state text at p.form))) marked.deep
      ∙ sym (depth_append 0 marks (option_to_list (mark_of setting state text at p.form))) ∙ ap (λ o. depth_after 0 (marks ++ option_to_list o)) (sym found_is) ∙ ap (depth_after 0) (sym next_is);
}

-- at the text's end
pub enough_all : (alphabet : Alphabet) (setting : Setting) (text : List ℕ) (marks given : List Mark) (state : State) (inside : Bool) (at : ℕ) (negated : Bool) → length text ≤ at → given ≡ marks ++ mark_at (length text) None signs.End ∷ [] → Marked alphabet setting text marks state inside at negated → (pieces : List Piece) → ArePieces alphabet text pieces → AreEnough (length text) (marks_of setting text pieces) given
enough_all alphabet setting text marks given state inside at negated past given_is marked pieces are = let left = marked.left pieces are in by left.rest left.splits left.is
  where
    by : (rest : List Piece) → Splits alphabet text inside at rest (length text) → marks_of setting text pieces ≡ marks ++ marks_from setting text state at rest → AreEnough (length text) (marks_of setting text pieces) given
    by [] splits is = inl (given_is ∙ sym is)
    by (q ∷ rest) splits is = absurd (omega (arith, splits.0, past))

-- where enough was read
pub enough_cut : (alphabet : Alphabet) (setting : Setting) (text : List ℕ) (marks before given : List Mark) (state : State) (inside : Bool) (at : ℕ) (negated wrong : Bool) (found : Option Mark) → marks ≡ before ++ option_to_list found → wrong ≡ has_wrong (option_to_list found) → (nat_lt 32 (length state.around) || (wrong && not negated)) ≡ true → given ≡ marks ++ mark_at (length text) None signs.End ∷ [] → Marked alphabet setting text marks state inside at negated → (pieces : List Piece) → ArePieces alphabet text pieces → AreEnough (length text) (marks_of setting text pieces) given
enough_cut alphabet setting text marks before given state inside at negated wrong found marks_is wrong_is ends given_is marked pieces are =
    let left = marked.left pieces are in
    inr (record {
      read = marks;
      rest = marks_from setting text state at left.rest;
      is = left.is;
      left = some_marks setting text state at left.rest;
      given_is = given_is;
      decided = decided (nat_lt 32 (length state.around)) refl ends;
    })
  where
    yes : (b : Bool) → not b ≡ true → b ≡ false
    yes false e = refl
    yes true e = sym e

    or_true : (b : Bool) → (b || true) ≡ true
    or_true true = refl
    or_true false = refl

    decided : (b : Bool) → nat_lt 32 (length state.around) ≡ b → (b || (wrong && not negated)) ≡ true → (32 < depth_after 0 marks) ⊎ ((has_wrong marks ≡ true) × (has_not marks ≡ false))
    decided true e ends = inl (omega (arith, ltb-true 32 (length state.around) e, marked.deep))
    decided false e ends =
        let both = and_parts wrong (not negated) ends in
        let any : has_wrong marks ≡ true =
        ap has_wrong marks_is ∙ list_any-append _ before (option_to_list found)
        ∙ ap (λ b. has_wrong before || b) (sym wrong_is ∙ both.0) ∙ or_true (has_wrong before) in
        inr (any, sym marked.not ∙ yes negated both.1)

-- what is known of the marks with the end after them, where there are any
pub ended : {E : Type 0} (alphabet : Alphabet) (setting : Setting) (text : List ℕ) (marks : List Mark) (r : Result (Vec Mark Global) E) → ((given : List Mark) → given ≡ marks ++ mark_at (length text) None signs.End ∷ [] → (pieces : List Piece) → ArePieces alphabet text pieces → AreEnough (length text) (marks_of setting text pieces) given) → IfOk r (λ (all : Vec Mark Global). all.items ≡ marks ++ mark_at (length text) None signs.End ∷ []) → IfOk r (λ (all : Vec Mark Global). (pieces : List Piece) → ArePieces alphabet text pieces → AreEnough (length text) (marks_of setting text pieces) all.items)
ended alphabet setting text marks (Ok all) enough is = enough all.items is
ended alphabet setting text marks (Err e) enough is = is
