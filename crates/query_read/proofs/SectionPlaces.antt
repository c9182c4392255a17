-- Where a section stands in its AND: after it comes a limit, or the AND ends.
use Rattle.std.proofs.Common.{◌≡◌, Bool, true, false, List, [], ◌∷◌, ◌++◌, ◌⊎◌, inl, inr, refl, sym, ◌∙◌, ap, append_assoc}
use Rattle.query_marks.specs.declared.mark.Mark.{Mark}
use Rattle.token_grammar.specs.Values.{AreInRow}
use Rattle.query_tree.specs.declared.query.Node.{Node}
use Rattle.query_grammar.specs.Grammar.{Section, IsSection, IsAnd}
use Rattle.query_grammar.specs.QueryFaults.{IsAnyLimit}
use Rattle.query_read.proofs.EndedRefused.{limit_first}

-- ---- rows
-- one of the parts of a row
record InRow {X : Type 0} (P : X → List Mark → Type 0) (x : X) (after : List X) (u : List Mark) : Type 0 where
  p : List Mark
  s : List Mark
  q : List Mark
  is : u ≡ p ++ (s ++ q)
  here : P x s
  later : AreInRow P after q

in_row : {X : Type 0} (P : X → List Mark → Type 0) (before : List X) (x : X) (after : List X) (u : List Mark) → AreInRow P (before ++ x ∷ after) u → InRow P x after u
in_row P [] x after u (a, b, is, here, later) = record { p = []; s = a; q = b; is = is; here = here; later = later }
in_row P (w ∷ before) x after u (a, b, is, first, later) =
    let r : InRow P x after b = in_row P before x after b later in
    record { p = a ++ r.p; s = r.s; q = r.q; is = is ∙ ap (λ (l : List Mark). a ++ l) r.is ∙ sym (append_assoc a r.p (r.s ++ r.q)); here = r.here; later = r.later }

-- ---- sections
-- nothing, or a limit first
abbrev pub IsEnded : List Mark → Type 0
IsEnded q = (q ≡ []) ⊎ ((m : Mark) × (r : List Mark) × (q ≡ m ∷ r) × IsAnyLimit m.sign)

-- a section of an AND
pub record SectionIn (Group : Node → List Mark → Type 0) (section : Section) (u : List Mark) : Type 0 where
  pub p : List Mark
  pub s : List Mark
  pub q : List Mark
  pub is : u ≡ p ++ (s ++ q)
  pub isfirst : Bool
  pub stands : IsSection Group isfirst section s
  pub later : IsEnded q

module _ (Group : Node → List Mark → Type 0) where
  -- further sections begin with a limit
  ended : (sections : List Section) (q : List Mark) → AreInRow (IsSection Group false) sections q → IsEnded q
  ended [] q is = inl is
  ended (section ∷ sections) q (a, b, is, ([], inl never, span_is, some, parts), later) = cc
  ended (section ∷ sections) q (a, b, is, ([], inr given, span_is, some, parts), later) = absurd (given refl)
  ended (section ∷ sections) q (a, b, is, (o ∷ list, given, span_is, some, (l, i, a_is, (x, y, l_is, limit, limits), items)), later) =
      let (m, x_is, sign) = limit_first o x limit in
      inr (m, (y ++ i) ++ b, is ∙ ap (λ (w : List Mark). w ++ b) (a_is ∙ ap (λ (w : List Mark). w ++ i) (l_is ∙ ap (λ (w : List Mark). w ++ y) x_is)), sign)

  pub section_in : (before : List Section) (section : Section) (after : List Section) (u : List Mark) → IsAnd Group (before ++ section ∷ after) u → SectionIn Group section u
  section_in [] section after u (a, b, is, here, later) = record { p = []; s = a; q = b; is = is; isfirst = true; stands = here; later = ended after b later }
  section_in (first ∷ before) section after u (a, b, is, here, later) =
      let r : InRow (IsSection Group false) section after b = in_row (IsSection Group false) before section after b later in
      record {
        p = a ++ r.p;
        s = r.s;
        q = r.q;
        is = is ∙ ap (λ (l : List Mark). a ++ l) r.is ∙ sym (append_assoc a r.p (r.s ++ r.q));
        isfirst = false;
        stands = r.here;
        later = ended after r.q r.later;
      }
