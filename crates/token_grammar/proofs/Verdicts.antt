-- The place of a fault depends on the texts of a grammar alone.
use Rattle.std.proofs.Common.{◌≡◌, List, [], ◌∷◌, ◌++◌, Option, Some, None, refl, sym, ap}
use Rattle.token_grammar.specs.Alphabets.{Alphabet}
use Rattle.token_grammar.specs.Language.{Re, In, after, next, verdict}
use Rattle.token_grammar.proofs.Laws.{InAny, after_from, after_to, some_text}

-- each text of the one is a text of the other
abbrev pub Within : {C T : Type 0} → Alphabet C T → Re C → Re C → Type 0
Within {T = T} Σ r s = (u : List T) → In Σ r u → In Σ s u

-- the same of what follows a token
WithinAny : {C T : Type 0} → Alphabet C T → Option (Re C) → Option (Re C) → Type 0
WithinAny {T = T} Σ o p = (u : List T) → InAny Σ o u → InAny Σ p u

-- Where a list of tokens leaves a grammar: the tokens before the rest begin a text, and none goes on with the next one.
pub record Leaving {C T : Type 0} (Σ : Alphabet C T) (r : Re C) (u rest : List T) : Type 0 where
  pub before : List T
  pub next : T
  pub later : List T
  pub rest_is : rest ≡ next ∷ later
  pub is : u ≡ before ++ next ∷ later
  pub goes : (w : List T) × In Σ r (before ++ w)
  pub stops : (w : List T) → In Σ r (before ++ next ∷ w) → ⊥

module _ {C T : Type 0} (Σ : Alphabet C T) where
  next_same : (place : List T) (o p : Option (Re C)) (u : List T) → WithinAny Σ o p → WithinAny Σ p o → ((r s : Re C) → Within Σ r s → Within Σ s r → verdict Σ r u ≡ verdict Σ s u) → next place o (λ r. verdict Σ r u) ≡ next place p (λ r. verdict Σ r u)
  unfolding WithinAny
  next_same place None None u there back same = refl
  next_same place None (Some s) u there back same = absurd (back (some_text Σ s).0 (some_text Σ s).1)
  next_same place (Some r) None u there back same = absurd (there (some_text Σ r).0 (some_text Σ r).1)
  next_same place (Some r) (Some s) u there back same = same r s there back

  -- grammars with the same texts leave a list of tokens at the same place
  pub verdict_same : (u : List T) (r s : Re C) → Within Σ r s → Within Σ s r → verdict Σ r u ≡ verdict Σ s u
  unfolding verdict WithinAny
  verdict_same [] r s there back = refl
  verdict_same (t ∷ u) r s there back =
      next_same (t ∷ u) (after Σ t r) (after Σ t s) u (λ v h. after_from Σ s t v (there (t ∷ v) (after_to Σ r t v h))) (λ v h. after_from Σ r t v (back (t ∷ v) (after_to Σ s t v h))) (verdict_same u)

  -- only the texts that begin with the first token count
  pub verdict_begun : (t : T) (u : List T) (r s : Re C) → ((v : List T) → In Σ r (t ∷ v) → In Σ s (t ∷ v)) → ((v : List T) → In Σ s (t ∷ v) → In Σ r (t ∷ v)) → verdict Σ r (t ∷ u) ≡ verdict Σ s (t ∷ u)
  unfolding verdict WithinAny
  verdict_begun t u r s there back =
      next_same (t ∷ u) (after Σ t r) (after Σ t s) u (λ v h. after_from Σ s t v (there v (after_to Σ r t v h))) (λ v h. after_from Σ r t v (back v (after_to Σ s t v h))) (verdict_same u)

  -- a list of tokens that leaves a grammar nowhere begins a text
  pub verdict_none : (u : List T) (r : Re C) → verdict Σ r u ≡ None → (w : List T) × In Σ r (u ++ w)
  unfolding verdict
  verdict_none [] r e = some_text Σ r
  verdict_none (t ∷ u) r e = go (after Σ t r) (after_to Σ r t) e (verdict_none u)
    where
      go : (o : Option (Re C)) → ((v : List T) → InAny Σ o v → In Σ r (t ∷ v)) → next (t ∷ u) o (λ s. verdict Σ s u) ≡ None → ((s : Re C) → verdict Σ s u ≡ None → (w : List T) × In Σ s (u ++ w)) → (w : List T) × In Σ r (t ∷ (u ++ w))
      go None back is rest = cc
      go (Some s) back is rest = let (w, h) = rest s is in (w, back (u ++ w) h)

  some_rest : (u v : List T) → Some u ≡ Some v → u ≡ v
  some_rest u v e = cc

  pub verdict_some : (u : List T) (r : Re C) (rest : List T) → verdict Σ r u ≡ Some rest → Leaving Σ r u rest
  unfolding verdict
  verdict_some [] r rest e = cc
  verdict_some (t ∷ u) r rest e = go (after Σ t r) (after_to Σ r t) (after_from Σ r t) e (verdict_some u)
    where
      go : (o : Option (Re C)) → ((v : List T) → InAny Σ o v → In Σ r (t ∷ v)) → ((v : List T) → In Σ r (t ∷ v) → InAny Σ o v) → next (t ∷ u) o (λ s. verdict Σ s u) ≡ Some rest → ((s : Re C) (q : List T) → verdict Σ s u ≡ Some q → Leaving Σ s u q) → Leaving Σ r (t ∷ u) rest
      go None back there is following = record { before = []; next = t; later = u; rest_is = sym (some_rest (t ∷ u) rest is); is = refl; goes = some_text Σ r; stops = λ w h. there w h }
      go (Some s) back there is following =
          let l = following s rest is in
          record { before = t ∷ l.before; next = l.next; later = l.later; rest_is = l.rest_is; is = ap (λ v. t ∷ v) l.is; goes = (l.goes.0, back (l.before ++ l.goes.0) l.goes.1); stops = λ w h. l.stops w (there (l.before ++ l.next ∷ w) h) }
