-- What was replied to a text that is one statement.
use Rattle.std.proofs.Common.{◌≡◌, ℕ, List, [], ◌∷◌, ◌++◌, Bool, true, false, refl, sym, ap, ◌∙◌, subst, inl, inr, append-nil}
use Rattle.mysql_wire.specs.Packets.{packets_from, sequence_after}
use Rattle.index_conf.specs.declared.conf.IndexConf.{IndexConf}
use Rattle.ql_tree.specs.declared.statement.Statement.{Statement}
use Rattle.ql_refusals.specs.Refusals.{Refused, no_memory}
use Rattle.ql_answers.specs.Replies.{Fails, Reply, is_refusal, payloads}
use Rattle.ql_answers.specs.States.{status_of}
use Rattle.ql_answers.specs.declared.state.State.{State}
use Rattle.ql_session.specs.Events.{Configured, Event, Follows, StoreWords}
use Rattle.ql_session.specs.Machines.{FollowAll}
use Rattle.ql_session.specs.Statements.{AnswersText, AreAnswered, RefusesText, Replies, States}
use Rattle.ql_write.specs.Canonical.{canonical_text}
use Rattle.self_test.specs.Asking.{Asks, IsReplied, IsTold, bytes_of}

-- what the law says that a text is read in one way
abbrev pub OneList : Type 0
OneList = (text : List ℕ) (a b : List Statement) → States text a → States text b → a ≡ b

abbrev pub NotBoth : Type 0
NotBoth = (text : List ℕ) (list : List Statement) (refusal : Refused) → States text list → RefusesText text refusal → ⊥

module _ {D F : Type 0} (confs : D → List IndexConf) (words : StoreWords D F) (statement : Statement) (old new : State) (before left : D) where
  -- Memory to read the text was refused; or this was replied to the statement.
  pub data Came (bytes : List ℕ) : Type 0 where
    unread : bytes ≡ packets_from 1 (payloads 0 (Fails no_memory)) → Came bytes
    replied : (reply : Reply) → IsReplied confs words statement reply old before new left → bytes ≡ bytes_of new reply → Came bytes

  nothing_follows : (given : List IndexConf) (refused : Bool) (seq : ℕ) (mid : State) (later : List (Event F)) (tail : List ℕ)
      → AreAnswered words.documents given mid seq refused [] later tail new → (later ≡ []) × (tail ≡ []) × (new ≡ mid)
  nothing_follows given true seq mid later tail (none, empty, same) = (none, empty, same)
  nothing_follows given false seq mid later tail (none, empty, same) = (none, empty, same)

  by_event : (given : List IndexConf) (event : Event F) (reply : Reply) → Replies words.documents given old statement event reply new
      → FollowAll (Follows confs words) before (Configured given ∷ event ∷ []) left → IsTold confs words statement reply old before new left
  by_event given event reply replies (first, (configured, still), (second, follows, ended)) =
      let here : Follows confs words before event second = subst (λ (d : D). Follows confs words d event second) still follows in
      record {
        event = event;
        replies = subst (λ (c : List IndexConf). Replies words.documents c old statement event reply new) configured replies;
        follows = subst (λ (d : D). Follows confs words before event d) (sym ended) here;
      }

  by_answered : (given : List IndexConf) (bytes : List ℕ) (later : List (Event F)) → AreAnswered words.documents given old 1 false (statement ∷ []) later bytes new
      → FollowAll (Follows confs words) before (Configured given ∷ later) left → (reply : Reply) × IsTold confs words statement reply old before new left × (bytes ≡ bytes_of new reply)
  by_answered given bytes later (event, reply, mid, more, tail, replies, events_are, bytes_are, rest) follows =
      let none = nothing_follows given (is_refusal reply) (sequence_after 1 (payloads (status_of mid false) reply)) mid more tail rest in
      let events : later ≡ event ∷ [] = events_are ∙ ap (λ (list : List (Event F)). event ∷ list) none.0 in
      let at_mid : bytes ≡ bytes_of mid reply = bytes_are ∙ ap (λ (t : List ℕ). bytes_of mid reply ++ t) none.1 ∙ append-nil (bytes_of mid reply) in (
        reply,
        by_event given event reply (subst (λ (s : State). Replies words.documents given old statement event reply s) (sym none.2) replies)
            (subst (λ (list : List (Event F)). FollowAll (Follows confs words) before (Configured given ∷ list) left) events follows),
        at_mid ∙ ap (λ (s : State). bytes_of s reply) (sym none.2),
      )

  module _ (one_list : OneList) (not_both : NotBoth) (text : List ℕ) (is : text ≡ canonical_text statement) (states : States text (statement ∷ [])) where
    by_text : (bytes : List ℕ) (events : List (Event F)) → Asks confs words text bytes old before new left → AnswersText words.documents old text events bytes new
        → FollowAll (Follows confs words) before events left → Came bytes
    by_text bytes events asks (inl (refusal, refuses, none, one, same)) follows = absurd (not_both text (statement ∷ []) refusal states refuses)
    by_text bytes events asks (inr (inl (given, list, later, stated, events_are, answered))) follows =
        let one : list ≡ statement ∷ [] = one_list text list (statement ∷ []) stated states in
        let (reply, told, bytes_are) = by_answered given bytes later (subst (λ (l : List Statement). AreAnswered words.documents given old 1 false l later bytes new) one answered)
        (subst (λ (l : List (Event F)). FollowAll (Follows confs words) before l left) events_are follows) in
        replied reply
        (record {
          told = told;
          asks = subst (λ (t : List ℕ). Asks confs words t (bytes_of new reply) old before new left) is (subst (λ (b : List ℕ). Asks confs words text b old before new left) bytes_are asks);
        })
        bytes_are
    by_text bytes events asks (inr (inr (noted, refusal, same))) follows = unread refusal

    -- what came of a text that is this statement
    pub came : (bytes : List ℕ) → Asks confs words text bytes old before new left → Came bytes
    unfolding Asks
    came bytes asks = by_text bytes asks.0 asks asks.1 asks.2
