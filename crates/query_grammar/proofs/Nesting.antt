-- What a stop is called. A deeper query goes on with it exactly where it is `(` and doesn't stand after SENTENCE or PARAGRAPH.
use Rattle.std.proofs.Common.{◌≡◌, ℕ, suc, List, [], ◌∷◌, ◌++◌, true, false, inl, inr, sym, ◌∙◌, ap, subst, append_assoc}
use Rattle.std.specs.Prelude.{not}
use Rattle.std.proofs.lemmas.Bool.{cases_Bool}
use Rattle.token_grammar.specs.Language.{In}
use Rattle.token_grammar.specs.Values.{Begins}
use Rattle.token_grammar.proofs.Bools.{and_first, and_second, not_true, clash}
use Rattle.query_marks.specs.declared.mark.Mark.{Mark}
use Rattle.query_marks.specs.declared.mark.Sign.TheVariants as signs
use Rattle.query_grammar.specs.declared.class.Class.TheVariants as classes
use Rattle.query_grammar.specs.Grammar.{IsQuery}
use Rattle.query_grammar.specs.QueryFaults.{Any, Stops}
use Rattle.query_grammar.specs.steps.Classes.{fits, is_ended}
use Rattle.query_grammar.specs.steps.Joined.{ends_joined}
use Rattle.query_grammar.specs.steps.MarkAlphabet.{query_marks}
use Rattle.query_grammar.specs.steps.QueryGrammar.{query}
use Rattle.query_grammar.proofs.MarkSigns.{sign_is, class_fits}
use Rattle.query_grammar.proofs.QueryAgreement.{query_agrees}
use Rattle.query_grammar.proofs.GroupsCut.{goes_at_depth}
use Rattle.query_grammar.proofs.AfterJoins.{none_after_joins}
use Rattle.query_grammar.proofs.Deepening.{goes_on, is_whole}
use Rattle.query_grammar.proofs.ExprDeepens.{query_begins, query_deepens}

-- the last mark of a query is the end
record EndsThere (u : List Mark) : Type 0 where
  pub front : List Mark
  pub last : Mark
  pub is : u ≡ front ++ (last ∷ [])
  pub ends : fits classes.End last ≡ true

ends_there : (d : ℕ) (u : List Mark) → In query_marks (query d) u → EndsThere u
unfolding query In
ends_there d u (a, bc, e, relaxed, (b, c, f, expr, (z, ez, fz))) =
    record { front = a ++ b; last = z; is = e ∙ ap (λ w. a ++ w) (f ∙ ap (λ w. b ++ w) ez) ∙ sym (append_assoc a b (z ∷ [])); ends = fz }

-- no mark stands after the end
none_after_end : (a : List Mark) (z m : Mark) (b : List Mark) → fits classes.End z ≡ true → is_ended (a ++ (z ∷ m ∷ b)) ≡ true → ⊥
none_after_end [] z m b ends e = clash (fits classes.End z) ends (not_true (fits classes.End z) (and_first (not (fits classes.End z)) (is_ended (m ∷ b)) e))
none_after_end (x ∷ []) z m b ends e = none_after_end [] z m b ends (and_second (not (fits classes.End x)) (is_ended (z ∷ m ∷ b)) e)
none_after_end (x ∷ y ∷ a) z m b ends e = none_after_end (y ∷ a) z m b ends (and_second (not (fits classes.End x)) (is_ended ((y ∷ a) ++ (z ∷ m ∷ b))) e)

whole_no_more : (d : ℕ) (front : List Mark) (m : Mark) (b : List Mark) → is_ended (front ++ (m ∷ b)) ≡ true → In query_marks (query d) front → ⊥
whole_no_more d front m b ended h =
    let there = ends_there d front h in
    let is : front ++ (m ∷ b) ≡ there.front ++ (there.last ∷ m ∷ b) = ap (λ w. w ++ (m ∷ b)) there.is ∙ append_assoc there.front (there.last ∷ []) (m ∷ b) in
    none_after_end there.front there.last m b there.ends (sym (ap is_ended is) ∙ ended)

-- what begins a query and isn't a whole one goes on with a group one deeper
goes_on_deeper : (d : ℕ) (m : Mark) (front later rest : List Mark) → fits classes.Open m ≡ true → ends_joined front ≡ false → In query_marks (query d) (front ++ later) → is_ended (front ++ (m ∷ rest)) ≡ true → (tail : List Mark) × In query_marks (query (suc d)) (front ++ (m ∷ tail))
goes_on_deeper d m [] later rest opens joins h ended =
    let begins = query_begins m d opens in
    (begins.later, begins.is)
goes_on_deeper d m (x ∷ front) later rest opens joins h ended = elim ((query_deepens m d opens).goes x front later h joins) [
  | goes_on tail i ↦ (tail, i)
  | is_whole may i ↦ absurd (whole_no_more (suc d) (x ∷ front) m rest ended i)
]

-- A group that is one too deep: a query one deeper goes on with it, ..
pub goes_deeper : {marks front : List Mark} {stop : Mark} → Stops marks front stop → is_ended marks ≡ true → stop.sign ≡ signs.Open → ends_joined front ≡ false → (depth : ℕ) × Begins (IsQuery Any depth) (front ++ stop ∷ [])
goes_deeper {marks} {front} {stop} stops ended sign joins =
    let (x, later, h) = stops.begins in
    let opens : fits classes.Open stop ≡ true = class_fits signs.Open stop sign in
    let text : In query_marks (query 32) (front ++ later) = (query_agrees 32).text x (front ++ later) h in
    let (tail, i) = goes_on_deeper 32 stop front later stops.rest opens joins text (sym (ap is_ended stops.is) ∙ ended) in
    let longer : In query_marks (query 33) ((front ++ stop ∷ []) ++ tail) = subst (λ u. In query_marks (query 33) u) (sym (append_assoc front (stop ∷ []) tail)) i in
    let (y, j) = (query_agrees 33).value ((front ++ stop ∷ []) ++ tail) longer in
    (33, (y, tail, j))

-- .. and with no other stop does any query go on, however deep.
pub no_deeper : {marks front : List Mark} {stop : Mark} → Stops marks front stop → (stop.sign ≡ signs.Open → ends_joined front ≡ true) → (depth : ℕ) → Begins (IsQuery Any depth) (front ++ stop ∷ []) → ⊥
no_deeper {marks} {front} {stop} stops joins depth (x, later, h) =
    let text : In query_marks (query depth) ((front ++ stop ∷ []) ++ later) = (query_agrees depth).text x ((front ++ stop ∷ []) ++ later) h in
    elim (cases_Bool (fits classes.Open stop)) [
      | inl opens ↦
          none_after_joins depth front stop later (joins (sign_is classes.Open stop opens)) opens (subst (λ u. In query_marks (query depth) u) (append_assoc front (stop ∷ []) later) text)
      | inr unlike ↦
          let (y, w, i) = stops.begins in
          let (tail, goes) = goes_at_depth 32 depth front stop w later unlike ((query_agrees 32).text y (front ++ w) i) text in
          let (z, j) = (query_agrees 32).value ((front ++ stop ∷ []) ++ tail) goes in
          stops.stops (z, tail, j)
    ]
