-- What a text that is told comes to: what has to be replied, another thing, or want of memory.
use Rattle.std.proofs.Common.{◌≡◌, ◌≢◌, ◌<◌, ◌⊎◌, ℕ, ◌+◌, ◌-◌, List, [], ◌∷◌, true, false, length, refl, sym, ap, ◌∙◌, subst, arith, inl, inr}
use Rattle.mysql_wire.specs.Packets.{max_payload, packets_from}
use Rattle.mysql_wire.specs.Replies.{ok_packet}
use Rattle.index_conf.specs.declared.conf.IndexConf.{IndexConf}
use Rattle.ql_tree.specs.declared.statement.Statement.{Statement}
use Rattle.ql_tree.specs.declared.statement.Statement.TheVariants as statements
use Rattle.ql_answers.specs.Replies.{is_refusal, payloads}
use Rattle.ql_answers.specs.States.{status_of}
use Rattle.ql_answers.specs.declared.state.State.{State}
use Rattle.ql_session.specs.Events.{StoreWords}
use Rattle.ql_session.specs.Statements.{States}
use Rattle.ql_write.specs.Canonical.{canonical_text}
use Rattle.self_test.specs.Asking.{AreDone, Asks, GoAstray, IsAstray, IsDone, IsLost, Shows, Telling, bytes_of}
use Rattle.self_test.specs.Texts.{count_select}
use Rattle.self_test.specs.declared.fault.Astray.{Astray}
use Rattle.self_test.specs.declared.summary.Count.{Count}
use Rattle.self_test.specs.steps.Replies.{is_err, stops}
use Rattle.self_test.proofs.Codes.{not_stop, ok_is_read, refusal_errs, set_is_no_err, stop_unread}
use Rattle.self_test.proofs.Finding.{Answered, count_answered, found, one_set, refused}
use Rattle.self_test.proofs.Replied.{Came, NotBoth, OneList, came, replied, unread}

module _ {D F : Type 0} (confs : D → List IndexConf) (words : StoreWords D F) (one_list : OneList) (not_both : NotBoth)
    (old new : State) (before left : D) (text bytes : List ℕ) (asks : Asks confs words text bytes old before new left) where
  module _ (statement : Statement) (is : text ≡ canonical_text statement) (states : States text (statement ∷ [])) where
    abbrev Came_so : Type 0
    Came_so = Came confs words statement old new before left bytes

    came_so : Came_so
    came_so = came confs words statement old new before left one_list not_both text is states bytes asks

    abbrev pub telling : ℕ → ℕ → Astray → Telling
    telling affected status otherwise = record { statement = statement; affected = affected; status = status; otherwise = otherwise }

    -- what has to be replied was replied
    done_of : (affected status : ℕ) (otherwise : Astray) → bytes ≡ ok_packet 1 affected status → Came_so → IsDone confs words (telling affected status otherwise) old before new left
    done_of affected status otherwise ok (unread none) = absurd (ok_is_read bytes affected status ok none)
    done_of affected status otherwise ok (replied reply told same) = record { reply = reply; replied = told; wanted = sym same ∙ ok }

    pub done : (affected status : ℕ) (otherwise : Astray) → bytes ≡ ok_packet 1 affected status → AreDone confs words (telling affected status otherwise ∷ []) old before new left
    done affected status otherwise ok = (new, left, done_of affected status otherwise ok came_so, (refl, refl))

    -- another thing was
    astray_of : (affected status : ℕ) (otherwise : Astray) → bytes ≢ ok_packet 1 affected status → stops bytes ≡ false → Came_so → IsAstray confs words (telling affected status otherwise) old before new left
    astray_of affected status otherwise other on (unread none) = absurd (stop_unread bytes on none)
    astray_of affected status otherwise other on (replied reply told same) = record {
      reply = reply;
      replied = told;
      unwanted = λ (ok : bytes_of new reply ≡ ok_packet 1 affected status). other (same ∙ ok);
      goes_on = not_stop new reply bytes same on;
    }

    pub astray : (affected status : ℕ) (otherwise : Astray) → bytes ≢ ok_packet 1 affected status → stops bytes ≡ false → GoAstray confs words otherwise (telling affected status otherwise ∷ []) old before new left
    astray affected status otherwise other on = inl (refl, astray_of affected status otherwise other on came_so)

  module _ (count : Count) (number : ℕ) (is : text ≡ canonical_text (statements.Select (count_select count number))) (states : States text (statements.Select (count_select count number) ∷ [])) where
    abbrev Came_select : Type 0
    Came_select = Came confs words (statements.Select (count_select count number)) old new before left bytes

    came_select : Came_select
    came_select = came_so (statements.Select (count_select count number)) is states

    -- a SELECT was refused, or its reply is too long
    lost_of : stops bytes ≡ false → (is_err bytes ≡ true) ⊎ (max_payload < length bytes) → Came_select → IsLost confs words (count_select count number) old before new left
    lost_of on why (unread none) = absurd (stop_unread bytes on none)
    lost_of on why (replied reply told same) = record { reply = reply; replied = told; lost = lost_by why (count_answered confs words count number old new before left reply told.told); goes_on = not_stop new reply bytes same on }
      where
        lost_by : (is_err bytes ≡ true) ⊎ (max_payload < length bytes) → Answered confs words (count_select count number) reply before left → (is_refusal reply ≡ true) ⊎ (max_payload < length (bytes_of new reply))
        lost_by why (refused refusal fails) = inl (ap is_refusal fails)
        lost_by (inl errs) (found has) = absurd (set_is_no_err new reply bytes has.set same (has.is (status_of new false)) has.one errs)
        lost_by (inr long) (found has) = inr (subst (λ (b : List ℕ). max_payload < length b) same long)

    pub lost : stops bytes ≡ false → (is_err bytes ≡ true) ⊎ (max_payload < length bytes) → IsLost confs words (count_select count number) old before new left
    lost on why = lost_of on why came_select

    -- its rows were replied
    shows_of : is_err bytes ≡ false → stops bytes ≡ false → (packets rows : ℕ) → ((payloads : List (List ℕ)) → bytes ≡ packets_from 1 payloads → packets ≡ length payloads) → rows ≡ packets - 4 → Came_select
        → Shows confs words (count_select count number) rows old before new left
    shows_of ok on packets rows counted rows_are (unread none) = absurd (stop_unread bytes on none)
    shows_of ok on packets rows counted rows_are (replied reply told same) = shown (count_answered confs words count number old new before left reply told.told)
      where
        shown : Answered confs words (count_select count number) reply before left → Shows confs words (count_select count number) rows old before new left
        shown (refused refusal fails) = absurd (cc (ok, refusal_errs new reply bytes refusal same fails))
        shown (found has) =
            let list : List (List ℕ) = payloads (status_of new false) reply in
            let many : length list ≡ length has.set.rows + 4 = ap length (has.is (status_of new false)) ∙ one_set (status_of new false) has.set has.one in
            let all : packets ≡ length list = counted list same in
            let rows_same : rows ≡ length has.set.rows = omega (arith, rows_are, all, many) in
            subst (λ (n : ℕ). Shows confs words (count_select count number) n old before new left) (sym rows_same)
            ((bytes_of new reply, told.asks, (list, refl, many)), has.finds)

    pub shows : is_err bytes ≡ false → stops bytes ≡ false → (packets rows : ℕ) → ((payloads : List (List ℕ)) → bytes ≡ packets_from 1 payloads → packets ≡ length payloads) → rows ≡ packets - 4
        → Shows confs words (count_select count number) rows old before new left
    shows ok on packets rows counted rows_are = shows_of ok on packets rows counted rows_are came_select
