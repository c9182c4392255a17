-- What a token tells once it has learnt a history: what it had seen before, and what it left in doubt, are of one line with that.
use Rattle.std.proofs.Common.{◌≡◌, ◌⊎◌, ⊎_elim, inl, inr, Bool, true, false, nat_le, List, length, Option, Some, None, refl, subst, arith}
use Rattle.std.proofs.lemmas.Bool.Decides.{nat_tests}
use mathlib.Core.List.{IsPrefix}
use Rattle.step_book.proofs.Prefixes.{prefix_shorter, prefix_trans}
use Rattle.step_history.specs.History.{Step}
use Rattle.step_tokens.specs.Tokens.{Agrees, AreOnOneLine, HasCome, TokenValue}
use Rattle.snap_share.specs.Closings.{IsOnLine}

-- two beginnings of one history
one_line : (one other whole : List Step) → IsPrefix one whole → IsPrefix other whole → AreOnOneLine one other
one_line one other whole p q =
    elim (nat_le (length one) (length other)) as (λ b. nat_le (length one) (length other) ≡ b → AreOnOneLine one other) [
      | true ↦ λ less. inl (prefix_shorter one other whole p q (grind (arith, nat_tests, less)))
      | false ↦ λ more. inr (prefix_shorter other one whole q p (grind (arith, nat_tests, more)))
    ] refl

had_seen : (old new steps : List Step) → (new ≡ old) ⊎ (new ≡ steps) → IsPrefix old new → IsPrefix steps new → AreOnOneLine old steps
had_seen old new steps one before told =
    ⊎_elim (λ same. inr (subst (λ (s : List Step). IsPrefix steps s) same told)) (λ is. inl (subst (λ (s : List Step). IsPrefix old s) is before)) one

had_entered : (entered : Option (List Step)) (seen steps : List Step) (come : Bool) → HasCome entered seen come → IsPrefix steps seen → Agrees entered steps
had_entered None seen steps come has told = tt
had_entered (Some entered) seen steps true has told = one_line entered steps seen has told
had_entered (Some entered) seen steps false has told = inr (prefix_trans steps seen entered told has.0)

pub met : (old new : TokenValue) (steps : List Step) (come : Bool) → (new.seen ≡ old.seen) ⊎ (new.seen ≡ steps) → IsPrefix old.seen new.seen → IsPrefix steps new.seen → new.entered ≡ old.entered → HasCome new.entered new.seen come → IsOnLine steps old
met old new steps come one before told same has = record {
  seen = had_seen old.seen new.seen steps one before told;
  entered = had_entered old.entered new.seen steps come (subst (λ (e : Option (List Step)). HasCome e new.seen come) same has) told;
}
