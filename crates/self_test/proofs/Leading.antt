-- What was asked leads on and on.
use Rattle.std.proofs.Common.{◌≡◌, ℕ, List, [], ◌∷◌, ◌++◌, refl, subst}
use Rattle.index_conf.specs.declared.conf.IndexConf.{IndexConf}
use Rattle.ql_answers.specs.declared.state.State.{State}
use Rattle.ql_session.specs.Events.{Event, NoMemory, Read, Follows, StoreWords}
use Rattle.ql_session.specs.Machines.{FollowAll}
use Rattle.self_test.specs.Asking.{Asks, Leads}

follow_then : {D E : Type 0} (follows : D → E → D → Type 0) (xs ys : List E) (a b c : D) → FollowAll follows a xs b → FollowAll follows b ys c → FollowAll follows a (xs ++ ys) c
follow_then {D} follows [] ys a b c first next = subst (λ (d : D). FollowAll follows d ys c) first next
follow_then follows (x ∷ xs) ys a b c first next = (first.0, first.1, follow_then follows xs ys first.0 b c first.2 next)

module _ {D F : Type 0} (confs : D → List IndexConf) (words : StoreWords D F) where
  -- nothing was asked
  pub leads_none : (a : D) → Leads confs words a a
  leads_none a = record { events = []; follows = refl }

  -- more was asked
  pub leads_then : (a b c : D) → Leads confs words a b → Leads confs words b c → Leads confs words a c
  leads_then a b c first next = record { events = first.events ++ next.events; follows = follow_then (Follows confs words) first.events next.events a b c first.follows next.follows }

  -- a text was asked
  pub asked_leads : (text reply : List ℕ) (old new : State) (before left : D) → Asks confs words text reply old before new left → Leads confs words before left
  unfolding Asks
  asked_leads text reply old new before left (events, answers, follows) = record { events = events; follows = follows }

  -- memory was refused
  pub none_leads : (before left : D) → words.settles before left → Leads confs words before left
  none_leads before left settles = record { events = NoMemory ∷ []; follows = (left, settles, refl) }

  -- an index was read
  pub read_leads : (place : ℕ) (front : F) (before left : D) → Follows confs words before (Read place front) left → Leads confs words before left
  read_leads place front before left reads = record { events = Read place front ∷ []; follows = (left, reads, refl) }
