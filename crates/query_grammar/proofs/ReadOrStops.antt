-- Marks that the end ends are a query, or reading stops among them.
use Rattle.std.proofs.Common.{◌≡◌, List, [], ◌∷◌, ◌++◌, true, Option, Some, None, ◌⊎◌, inl, inr, refl, ◌∙◌, ap, subst, append_assoc, append-nil}
use Rattle.std.specs.Prelude.{Contains, not}
use Rattle.token_grammar.specs.Language.{In, verdict}
use Rattle.token_grammar.proofs.Bools.{and_second}
use Rattle.token_grammar.proofs.Verdicts.{Leaving, verdict_none, verdict_some}
use Rattle.query_marks.specs.declared.mark.Mark.{Mark}
use Rattle.query_grammar.specs.declared.class.Class.TheVariants as classes
use Rattle.query_tree.specs.declared.query.Node.{Node}
use Rattle.query_grammar.specs.Grammar.{IsQuery}
use Rattle.query_grammar.specs.QueryFaults.{Any, Stops, IsRead}
use Rattle.query_grammar.specs.steps.Classes.{fits, is_ended}
use Rattle.query_grammar.specs.steps.MarkAlphabet.{query_marks}
use Rattle.query_grammar.specs.steps.QueryGrammar.{query}
use Rattle.query_grammar.proofs.MarkPlaces.{first_contained, contained_later}
use Rattle.query_grammar.proofs.MarkOrder.{inner_front}
use Rattle.query_grammar.proofs.QueryAgreement.{query_agrees}
use Rattle.query_grammar.proofs.QueryFronts.{query_ends}

-- what is ended has an end
ended_has : (marks : List Mark) → is_ended marks ≡ true → (m : Mark) × Contains marks m × (fits classes.End m ≡ true)
ended_has [] ended = cc
ended_has (m ∷ []) ended = (m, first_contained m [], ended)
ended_has (m ∷ n ∷ marks) ended = let (end, has, is) = ended_has (n ∷ marks) (and_second (not (fits classes.End m)) (is_ended (n ∷ marks)) ended) in (end, contained_later m (n ∷ marks) end has, is)

-- nothing stands after what is ended
none_after : (marks more : List Mark) → is_ended marks ≡ true → is_ended (marks ++ more) ≡ true → more ≡ []
none_after marks [] ended whole = refl
none_after marks (n ∷ more) ended whole =
    let (end, has, is) = ended_has marks ended in
    let other = inner_front marks (n ∷ more) (λ e. cc) whole end has in
    cc

pub stops_or_reads : (marks : List Mark) → is_ended marks ≡ true → ((node : Node) × IsQuery Any 32 node marks) ⊎ ((front : List Mark) × (stop : Mark) × Stops marks front stop)
stops_or_reads marks ended = by (verdict query_marks (query 32) marks) refl
  where
    read : ((more : List Mark) × In query_marks (query 32) (marks ++ more)) → (node : Node) × IsQuery Any 32 node marks
    read (more, goes) =
        let last : more ≡ [] = none_after marks more ended (query_ends 32 (marks ++ more) goes) in
        (query_agrees 32).value marks (subst (λ u. In query_marks (query 32) u) (ap (λ w. marks ++ w) last ∙ append-nil marks) goes)

    stopped : (rest : List Mark) → Leaving query_marks (query 32) marks rest → (front : List Mark) × (stop : Mark) × Stops marks front stop
    stopped rest l =
        let (more, goes) = l.goes in
        let (node, is) = (query_agrees 32).value (l.before ++ more) goes in (
          l.before,
          l.next,
          record {
            rest = l.later;
            is = l.is;
            begins = (node, more, is);
            stops = λ (other, later, h). l.stops later (subst (λ u. In query_marks (query 32) u) (append_assoc l.before (l.next ∷ []) later) ((query_agrees 32).text other ((l.before ++ l.next ∷ []) ++ later) h));
          },
        )

    by : (o : Option (List Mark)) → verdict query_marks (query 32) marks ≡ o → ((node : Node) × IsQuery Any 32 node marks) ⊎ ((front : List Mark) × (stop : Mark) × Stops marks front stop)
    by None e = inl (read (verdict_none query_marks marks (query 32) e))
    by (Some rest) e = inr (stopped rest (verdict_some query_marks marks (query 32) rest e))

-- so some front of them is read
pub some_read : (marks : List Mark) → is_ended marks ≡ true → (read : List Mark) × IsRead marks read
some_read marks ended = elim (stops_or_reads marks ended) [
  | inl query ↦ (marks, inl (query.0, query.1, refl))
  | inr stopped ↦ (stopped.0, inr (stopped.1, stopped.2))
]
