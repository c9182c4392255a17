-- What came of a statement has one reply, and so has what came of the statements of a text; and they leave the session in one state.
use Rattle.std.proofs.Common.{◌≡◌, ℕ, List, [], ◌∷◌, ◌++◌, Bool, true, false, sym, ap, subst, ◌∙◌, inl, inr}
use Rattle.std.specs.Prelude.{Option}
use Rattle.std.proofs.lemmas.List.Elements.{All-head, All-tail}
use Rattle.index_conf.specs.declared.conf.IndexConf.{IndexConf}
use Rattle.doc_types.specs.Snapshots.{SnapshotValue}
use Rattle.doc_types.specs.declared.transactions.Txn.{Txn}
use Rattle.mysql_wire.specs.Packets.{packets_from, sequence_after}
use Rattle.ql_tree.specs.declared.statement.Statement.{Statement}
use Rattle.ql_refusals.specs.Refusals.{Refused}
use Rattle.ql_answers.specs.declared.event.Need.{Need}
use Rattle.ql_answers.specs.declared.event.Need.TheVariants as needs
use Rattle.ql_answers.specs.declared.plan.Plan.{Plan}
use Rattle.ql_answers.specs.declared.state.State.{State}
use Rattle.ql_answers.specs.Plans.{Refuses, Wants}
use Rattle.ql_answers.specs.Replies.{Fails, Reply, is_refusal, payloads}
use Rattle.ql_answers.specs.Sessions.{AreAlike, Decides, Happened, HasLayers, need_of, next_of, pending_of}
use Rattle.ql_answers.specs.States.{status_of}
use Rattle.ql_answers.proofs.OneReply.{alike_itself}
use Rattle.ql_session.specs.Events.{Configured, Event, NoMemory, Nothing}
use Rattle.ql_session.specs.Statements.{AnswersText, AreAnswered, HaveLayers, Meets, RefusesText, Replies, States, is_more, told}

-- two events are the same
abbrev Are : {F : Type 0} → Event F → Event F → Type 0
Are one other = one ≡ other

-- want of memory isn't what came of a plan: its statement took memory
pub never_met : (F : Type 0) (need : Need) (pending : Option Txn) → Meets {F = F} need pending NoMemory → ⊥
never_met F needs.Nothing pending meets = meets
never_met F (needs.Read place) pending meets = meets
never_met F (needs.Commit place) pending meets = meets
never_met F (needs.Reshape place job) pending meets = meets

two_events : {F : Type 0} (event : Event F) → event ≡ Nothing → event ≡ NoMemory → ⊥
two_events {F} event nothing memory = let clash : Are {F = F} Nothing NoMemory = sym nothing ∙ memory in cc

-- ---- a statement
module _
    (one_plan : (confs : List IndexConf) (state : State) (statement : Statement) (a b : Plan) → Wants confs state statement a → Wants confs state statement b → a ≡ b)
    (one_refusal : (confs : List IndexConf) (state : State) (statement : Statement) (a b : Refused) → Refuses confs state statement a → Refuses confs state statement b → a ≡ b)
    (never_both : (confs : List IndexConf) (state : State) (statement : Statement) (plan : Plan) (refusal : Refused) → Wants confs state statement plan → Refuses confs state statement refusal → ⊥)
    (one_decided : (plan : Plan) (happened other : Happened) (a b : Reply) → AreAlike plan happened other → Decides plan happened a → Decides plan other b → a ≡ b)
    {F : Type 0} (documents : F → SnapshotValue) where
  pub one_reply : (confs : List IndexConf) (old : State) (statement : Statement) (event : Event F) (a b : Reply) (x y : State) → HasLayers (told documents event)
      → Replies documents confs old statement event a x → Replies documents confs old statement event b y → (a ≡ b) × (x ≡ y)
  one_reply confs old statement event a b x y layers (inl (r, refuses, is, says, stays)) (inl (s, refuses', is', says', stays')) =
      (says ∙ ap Fails (one_refusal confs old statement r s refuses refuses') ∙ sym says', stays ∙ sym stays')
  one_reply confs old statement event a b x y layers (inl (r, refuses, is, says, stays)) (inr (inl (plan, wants, meets, decides, next))) = absurd (never_both confs old statement plan r wants refuses)
  one_reply confs old statement event a b x y layers (inl (r, refuses, is, says, stays)) (inr (inr (takes, is', says', stays'))) = absurd (two_events event is is')
  one_reply confs old statement event a b x y layers (inr (inl (plan, wants, meets, decides, next))) (inl (r, refuses, is, says, stays)) = absurd (never_both confs old statement plan r wants refuses)
  one_reply confs old statement event a b x y layers (inr (inl (plan, wants, meets, decides, next))) (inr (inl (other, wants', meets', decides', next'))) =
      let same : other ≡ plan = one_plan confs old statement other plan wants' wants in
      let says : a ≡ b = one_decided plan (told documents event) (told documents event) a b (alike_itself plan (told documents event) layers) decides (subst (λ (p : Plan). Decides p (told documents event) b) same decides') in (
        says,
        next ∙ ap (λ (p : Plan). next_of p (told documents event) a old) (sym same) ∙ ap (λ (r : Reply). next_of other (told documents event) r old) says ∙ sym next',
      )
  one_reply confs old statement event a b x y layers (inr (inl (plan, wants, meets, decides, next))) (inr (inr (takes, is, says, stays))) =
      absurd (never_met F (need_of plan) (pending_of old plan) (subst (λ (e : Event F). Meets (need_of plan) (pending_of old plan) e) is meets))
  one_reply confs old statement event a b x y layers (inr (inr (takes, is, says, stays))) (inl (r, refuses, is', says', stays')) = absurd (two_events event is' is)
  one_reply confs old statement event a b x y layers (inr (inr (takes, is, says, stays))) (inr (inl (plan, wants, meets, decides, next))) =
      absurd (never_met F (need_of plan) (pending_of old plan) (subst (λ (e : Event F). Meets (need_of plan) (pending_of old plan) e) is meets))
  one_reply confs old statement event a b x y layers (inr (inr (takes, is, says, stays))) (inr (inr (takes', is', says', stays'))) = (says ∙ sym says', stays ∙ sym stays')

-- ---- a text
module _ {F : Type 0} where
  first_is : (event other : Event F) (later others : List (Event F)) → event ∷ later ≡ other ∷ others → event ≡ other
  first_is event other later others e = cc

  rest_is : (event other : Event F) (later others : List (Event F)) → event ∷ later ≡ other ∷ others → later ≡ others
  rest_is event other later others e = cc

  confs_are : (confs others : List IndexConf) → Are {F = F} (Configured confs) (Configured others) → confs ≡ others
  confs_are confs others e = cc

  no_event : (events : List (Event F)) (event : Event F) (later : List (Event F)) → events ≡ [] → events ≡ event ∷ later → ⊥
  no_event events event later none some = let clash : [] ≡ event ∷ later = sym none ∙ some in cc

  not_configured : (confs : List IndexConf) → Are {F = F} (Configured confs) NoMemory → ⊥
  not_configured confs e = cc

  -- the events but for the first one
  layers_after : (documents : F → SnapshotValue) (events : List (Event F)) (event : Event F) (later : List (Event F)) → events ≡ event ∷ later → HaveLayers documents events → HaveLayers documents later
  layers_after documents events event later are layers =
      All-tail (λ (e : Event F). HasLayers (told documents e)) event later (subst (HaveLayers documents) are layers)

module _ {F : Type 0} (documents : F → SnapshotValue)
    (one_said : (confs : List IndexConf) (old : State) (statement : Statement) (event : Event F) (a b : Reply) (x y : State) → HasLayers (told documents event)
    → Replies documents confs old statement event a x → Replies documents confs old statement event b y → (a ≡ b) × (x ≡ y)) where
  one_run : (confs : List IndexConf) (old : State) (seq : ℕ) (ended : Bool) (statements : List Statement) (events : List (Event F)) (a b : List ℕ) (x y : State) → HaveLayers documents events
      → AreAnswered documents confs old seq ended statements events a x → AreAnswered documents confs old seq ended statements events b y → (a ≡ b) × (x ≡ y)
  one_run confs old seq true statements events a b x y layers one two = (one.1 ∙ sym two.1, one.2 ∙ sym two.2)
  one_run confs old seq false [] events a b x y layers one two = (one.1 ∙ sym two.1, one.2 ∙ sym two.2)
  one_run confs old seq false (statement ∷ rest) events a b x y layers (event, reply, mid, later, tail, replies, are, is, answered) (event', reply', mid', later', tail', replies', are', is', answered') =
      let lists : event' ∷ later' ≡ event ∷ later = sym are' ∙ are in
      let here : HasLayers (told documents event) = All-head (λ (e : Event F). HasLayers (told documents e)) event later (subst (HaveLayers documents) are layers) in
      let said : Replies documents confs old statement event reply' mid' = subst (λ (e : Event F). Replies documents confs old statement e reply' mid') (first_is event' event later' later lists) replies' in
      let same = one_said confs old statement event reply' reply mid' mid here said replies in
      let packets : State → Reply → List ℕ = λ s r. packets_from seq (payloads (status_of s (is_more rest)) r) in
      let next : State → Reply → ℕ = λ s r. sequence_after seq (payloads (status_of s (is_more rest)) r) in
      let on : AreAnswered documents confs mid' (next mid' reply') (is_refusal reply') rest later tail' y =
      subst (λ (list : List (Event F)). AreAnswered documents confs mid' (next mid' reply') (is_refusal reply') rest list tail' y) (rest_is event' event later' later lists) answered' in
      let by_reply : AreAnswered documents confs mid' (next mid' reply) (is_refusal reply) rest later tail' y =
      subst (λ (r : Reply). AreAnswered documents confs mid' (next mid' r) (is_refusal r) rest later tail' y) same.0 on in
      let goes : AreAnswered documents confs mid (next mid reply) (is_refusal reply) rest later tail' y =
      subst (λ (s : State). AreAnswered documents confs s (next s reply) (is_refusal reply) rest later tail' y) same.1 by_reply in
      let tails = one_run confs mid (next mid reply) (is_refusal reply) rest later tail tail' x y (layers_after documents events event later are layers) answered goes in
      let equal : packets mid reply ≡ packets mid' reply' = ap (λ (s : State). packets s reply) (sym same.1) ∙ ap (packets mid') (sym same.0) in
      (is ∙ ap (λ (t : List ℕ). packets mid reply ++ t) tails.0 ∙ ap (λ (p : List ℕ). p ++ tail') equal ∙ sym is', tails.1)

  module _
      (one_list : (text : List ℕ) (a b : List Statement) → States text a → States text b → a ≡ b)
      (one_refused : (text : List ℕ) (a b : Refused) → RefusesText text a → RefusesText text b → a ≡ b) where
    pub one_answer : (old : State) (text : List ℕ) (events : List (Event F)) (a b : List ℕ) (x y : State) → HaveLayers documents events
        → AnswersText documents old text events a x → AnswersText documents old text events b y → (a ≡ b) × (x ≡ y)
    one_answer old text events a b x y layers (inl (r, refuses, none, is, stays)) (inl (s, refuses', none', is', stays')) =
        (is ∙ ap (λ (refusal : Refused). packets_from 1 (payloads 0 (Fails refusal))) (one_refused text r s refuses refuses') ∙ sym is', stays ∙ sym stays')
    one_answer old text events a b x y layers (inl (r, refuses, none, is, stays)) (inr (inl (confs, statements, later, states, are, answered))) = absurd (no_event events (Configured confs) later none are)
    one_answer old text events a b x y layers (inl (r, refuses, none, is, stays)) (inr (inr (are, is', stays'))) = absurd (no_event events NoMemory [] none are)
    one_answer old text events a b x y layers (inr (inl (confs, statements, later, states, are, answered))) (inl (r, refuses, none, is, stays)) = absurd (no_event events (Configured confs) later none are)
    one_answer old text events a b x y layers (inr (inl (confs, statements, later, states, are, answered))) (inr (inl (confs', statements', later', states', are', answered'))) =
        let lists : Configured confs' ∷ later' ≡ Configured confs ∷ later = sym are' ∙ are in
        let configured : confs' ≡ confs = confs_are confs' confs (first_is (Configured confs') (Configured confs) later' later lists) in
        let rest : later' ≡ later = rest_is (Configured confs') (Configured confs) later' later lists in
        let stated : statements' ≡ statements = one_list text statements' statements states' states in
        let by_confs : AreAnswered documents confs old 1 false statements' later' b y = subst (λ (c : List IndexConf). AreAnswered documents c old 1 false statements' later' b y) configured answered' in
        let by_list : AreAnswered documents confs old 1 false statements later' b y = subst (λ (l : List Statement). AreAnswered documents confs old 1 false l later' b y) stated by_confs in
        let by_events : AreAnswered documents confs old 1 false statements later b y = subst (λ (l : List (Event F)). AreAnswered documents confs old 1 false statements l b y) rest by_list in
        one_run confs old 1 false statements later a b x y (layers_after documents events (Configured confs) later are layers) answered by_events
    one_answer old text events a b x y layers (inr (inl (confs, statements, later, states, are, answered))) (inr (inr (are', is', stays'))) =
        let lists : Configured confs ∷ later ≡ NoMemory ∷ [] = sym are ∙ are' in
        absurd (not_configured confs (first_is (Configured confs) NoMemory later [] lists))
    one_answer old text events a b x y layers (inr (inr (are, is, stays))) (inl (r, refuses, none, is', stays')) = absurd (no_event events NoMemory [] none are)
    one_answer old text events a b x y layers (inr (inr (are, is, stays))) (inr (inl (confs, statements, later, states, are', answered))) =
        let lists : Configured confs ∷ later ≡ NoMemory ∷ [] = sym are' ∙ are in
        absurd (not_configured confs (first_is (Configured confs) NoMemory later [] lists))
    one_answer old text events a b x y layers (inr (inr (are, is, stays))) (inr (inr (are', is', stays'))) = (is ∙ sym is', stays ∙ sym stays')
