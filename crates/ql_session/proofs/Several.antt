-- Statements one after another.
use Rattle.std.proofs.Common.{◌≡◌, ℕ, List, [], ◌∷◌, ◌++◌, Bool, true, false, not, refl, sym, ap, subst, ◌∙◌, append_assoc, append-nil, length, arith, inl, inr}
use Rattle.std.specs.Prelude.{◌==◌}
use Rattle.std.proofs.Math.Dec.{eqb-suc-zero}
use Rattle.index_conf.specs.declared.conf.IndexConf.{IndexConf}
use Rattle.ql_tree.specs.declared.statement.Statement.{Statement}
use Rattle.mysql_wire.specs.Packets.{packets_from, sequence_after}
use Rattle.reply_rows.specs.Written.{Written, begun}
use Rattle.ql_refusals.specs.Refusals.{Refused, no_memory}
use Rattle.ql_answers.specs.declared.state.State.{State}
use Rattle.ql_answers.specs.Replies.{Fails, is_refusal, payloads, replied}
use Rattle.ql_answers.specs.States.{status_of}
use Rattle.ql_session.specs.Events.{Configured, Event, NoMemory, StoreWords}
use Rattle.ql_session.specs.Statements.{AreAnswered, RefusesText, States, is_more}
use Rattle.ql_session.specs.steps.Running.{RepliesText, Runs, RunsAll}

module _ {D F : Type 0} (confs : D → List IndexConf) (words : StoreWords D F) where
  -- no statement is left
  pub none_left : (tables : D) (state : State) (statements : List Statement) (out : Written) → length statements ≡ 0 → RunsAll confs words tables state statements tables state out out
  none_left tables state [] out none = ([], [], (refl, refl, refl), refl, sym (append-nil out.bytes))
  none_left tables state (statement ∷ statements) out none = absurd (omega (arith, none))

  -- a statement, and those after it unless it is refused
  pub runs_on : (before mid after : D) (old between new : State) (statement : Statement) (rest : List Statement) (out longer longest : Written)
      → Runs confs words before old statement (is_more rest) mid between out longer → longer.refused ≡ false → RunsAll confs words mid between rest after new longer longest
      → RunsAll confs words before old (statement ∷ rest) after new out longest
  runs_on before mid after old between new statement rest out longer longest runs goes (events, bytes, answered, follow, is) =
      let sent : List (List ℕ) = payloads (status_of between (is_more rest)) runs.reply in
      let put : List ℕ = packets_from out.next sent in
      let on : is_refusal runs.reply ≡ false = sym (ap (λ (w : Written). w.refused) runs.says) ∙ goes in
      let by_confs : AreAnswered words.documents (confs before) between longer.next false rest events bytes new =
      subst (λ (indexes : List IndexConf). AreAnswered words.documents indexes between longer.next false rest events bytes new) runs.same answered in
      let by_next : AreAnswered words.documents (confs before) between (sequence_after out.next sent) false rest events bytes new =
      subst (λ (n : ℕ). AreAnswered words.documents (confs before) between n false rest events bytes new) (ap (λ (w : Written). w.next) runs.says) by_confs in (
        runs.event ∷ events,
        put ++ bytes,
        (
          runs.event,
          runs.reply,
          between,
          events,
          bytes,
          runs.replies,
          refl,
          refl,
          subst (λ (b : Bool). AreAnswered words.documents (confs before) between (sequence_after out.next sent) b rest events bytes new) (sym on) by_next,
        ),
        (mid, runs.follows, follow),
        is ∙ ap (λ (w : Written). w.bytes ++ bytes) runs.says ∙ append_assoc out.bytes put bytes,
      )

  pub runs_last : (before after : D) (old new : State) (statement : Statement) (rest : List Statement) (out longer : Written)
      → Runs confs words before old statement (is_more rest) after new out longer → longer.refused ≡ true → RunsAll confs words before old (statement ∷ rest) after new out longer
  runs_last before after old new statement rest out longer runs ends =
      let sent : List (List ℕ) = payloads (status_of new (is_more rest)) runs.reply in
      let put : List ℕ = packets_from out.next sent in
      let ended : is_refusal runs.reply ≡ true = sym (ap (λ (w : Written). w.refused) runs.says) ∙ ends in
      let last : List (Event F) = [] in
      let none : List ℕ = [] in (
        runs.event ∷ [],
        put ++ [],
        (
          runs.event,
          runs.reply,
          new,
          [],
          [],
          runs.replies,
          refl,
          refl,
          subst (λ (b : Bool). AreAnswered words.documents (confs before) new (sequence_after out.next sent) b rest last none new) (sym ended) (refl, refl, refl),
        ),
        (after, runs.follows, refl),
        ap (λ (w : Written). w.bytes) runs.says ∙ ap (λ (tail : List ℕ). out.bytes ++ tail) (sym (append-nil put)),
      )

  -- a text's statements were run
  pub text_runs : (tables left : D) (old seen new : State) (text : List ℕ) (statements run : List Statement) (out longer : Written) → seen ≡ old → run ≡ statements → out ≡ begun 1
      → States text statements → RunsAll confs words tables seen run left new out longer → RepliesText confs words old text tables left longer.bytes new
  text_runs tables left old seen new text statements run out longer same is begins states ran =
      let (events, bytes, answered, follow, put) = subst (λ (w : Written). RunsAll confs words tables seen run left new w longer) begins ran in
      let by_state : AreAnswered words.documents (confs tables) old 1 false run events bytes new = subst (λ (s : State). AreAnswered words.documents (confs tables) s 1 false run events bytes new) same answered in
      let by_list : AreAnswered words.documents (confs tables) old 1 false statements events bytes new = subst (λ (l : List Statement). AreAnswered words.documents (confs tables) old 1 false l events bytes new) is by_state in (
        Configured (confs tables) ∷ events,
        inr (inl (confs tables, statements, events, states, refl, subst (λ (b : List ℕ). AreAnswered words.documents (confs tables) old 1 false statements events b new) (sym put) by_list)),
        (tables, (refl, refl), follow),
      )

  -- the bytes of a refusal, where nothing was written before
  one_refusal : (refusal : Refused) (out longer : Written) → out ≡ begun 1 → longer ≡ replied out 0 (Fails refusal) → longer.bytes ≡ packets_from 1 (payloads 0 (Fails refusal))
  one_refusal refusal out longer begins put = ap (λ (w : Written). w.bytes) (put ∙ ap (λ (w : Written). replied w 0 (Fails refusal)) begins)

  -- memory to read a text was refused
  pub text_unread : (tables : D) (old : State) (text : List ℕ) (refusal : Refused) (out longer : Written) → words.settles tables tables → refusal ≡ no_memory → out ≡ begun 1
      → longer ≡ replied out 0 (Fails refusal) → RepliesText confs words old text tables tables longer.bytes old
  text_unread tables old text refusal out longer stays is begins put = (
    NoMemory ∷ [],
    inr (inr (refl, one_refusal refusal out longer begins put ∙ ap (λ (r : Refused). packets_from 1 (payloads 0 (Fails r))) is, refl)),
    (tables, stays, refl),
  )

  -- a text was refused
  pub text_refused : (tables : D) (old : State) (text : List ℕ) (refusal : Refused) (out longer : Written) → RefusesText text refusal → out ≡ begun 1
      → longer ≡ replied out 0 (Fails refusal) → RepliesText confs words old text tables tables longer.bytes old
  text_refused tables old text refusal out longer refuses begins put = ([], inl (refusal, refuses, refl, one_refusal refusal out longer begins put, refl), refl)

-- whether there are more, as a list's length tells it
pub more_by_length : (rest : List Statement) → not (length rest == 0) ≡ is_more rest
more_by_length [] = refl
more_by_length (statement ∷ rest) = ap not (eqb-suc-zero (length rest))
