-- No SELECT of a selftest is lost, where the index is ours and the documents that it reads have ids below 2^64.
use Rattle.std.proofs.Common.{◌≡◌, ◌<◌, ◌⊎◌, ℕ, List, [], ◌∷◌, true, false, None, length, ap, ◌∙◌, subst, inl, inr}
use Rattle.std.specs.Prelude.{All}
use Rattle.doc_types.specs.Snapshots.{all_living}
use Rattle.doc_types.specs.declared.documents.DocRow.{DocRow}
use Rattle.index_conf.specs.declared.conf.IndexConf.{IndexConf}
use Rattle.mysql_wire.specs.Packets.{max_payload, packets_from}
use Rattle.mysql_wire.specs.declared.rows.Column.{Column}
use Rattle.reply_rows.specs.ResultSets.{sets_payloads}
use Rattle.reply_rows.specs.declared.result_set.ResultSet.{ResultSet}
use Rattle.ql_tree.specs.declared.statement.Statement.TheVariants as statements
use Rattle.ql_select.specs.Selections.{Selects}
use Rattle.ql_select.specs.declared.selection.Selection.{Selection}
use Rattle.ql_answers.specs.Reading.{facet_sets, found_sets, table_set}
use Rattle.ql_answers.specs.Replies.{Reply, is_refusal, payloads}
use Rattle.ql_answers.specs.Sessions.{Decides, DecidesSearch, need_of, pending_of}
use Rattle.ql_answers.specs.States.{status_of}
use Rattle.ql_answers.specs.declared.event.Need.TheVariants as needs
use Rattle.ql_answers.specs.declared.plan.Plan.{Plan}
use Rattle.ql_answers.specs.declared.plan.Plan.TheVariants.{Search}
use Rattle.ql_answers.specs.declared.state.State.{State}
use Rattle.ql_session.specs.Events.{Commit, Configured, Event, Follows, NoMemory, Nothing, Read, Reshape, StoreWords}
use Rattle.ql_session.specs.Statements.{Meets, Replies, told}
use Rattle.self_test.specs.Asking.{IsLost, bytes_of, is_stop}
use Rattle.self_test.specs.Texts.{count_select}
use Rattle.self_test.specs.declared.summary.Count.{Count}
use Rattle.self_test.specs.declared.summary.Count.TheVariants.{Words, Pairs, Groups}
use Rattle.self_test.specs.Own.{IsOurs}
use Rattle.self_test.proofs.Brief.{IsSmallDoc, long_never}
use Rattle.self_test.proofs.Losing.{Laws}
use Rattle.self_test.proofs.Served.{refused_never, same_served}

no_facets : (conf : IndexConf) (count : Count) (number : ℕ) (selection : Selection) → Selects conf (count_select count number) selection → selection.facets ≡ []
no_facets conf Words number selection selects = ap (λ (s : Selection). s.facets) selects.means
no_facets conf Pairs number selection selects = ap (λ (s : Selection). s.facets) selects.means
no_facets conf Groups number selection selects = ap (λ (s : Selection). s.facets) selects.means

module _ (laws : Laws) (conf : IndexConf) (ours : IsOurs conf) {D F : Type 0} (confs : D → List IndexConf) (words : StoreWords D F)
    (count : Count) (number : ℕ) (below : number < 50) (old new : State) (before left : D)
    (small : (at : ℕ) (front : F) → Follows confs words before (Read at front) left → All IsSmallDoc (all_living (words.documents front).layers)) (reply : Reply) (refuses : is_refusal reply ≡ true → ⊥) (long : max_payload < length (bytes_of new reply)) where
  by_decision : (docs : List DocRow) → All IsSmallDoc docs → (selection : Selection) → Selects conf (count_select count number) selection → DecidesSearch selection docs reply → ⊥
  by_decision docs few selection selects (inl (found, are, is)) =
      let one : found_sets selection found ≡ table_set selection.shown found.table ∷ [] =
      ap (λ (columns : List Column). table_set selection.shown found.table ∷ facet_sets columns found.facets) (no_facets conf count number selection selects) in
      let same : payloads (status_of new false) reply ≡ sets_payloads (status_of new false) (table_set selection.shown found.table ∷ []) =
      ap (λ (r : Reply). payloads (status_of new false) r) is ∙ ap (λ (sets : List ResultSet). sets_payloads (status_of new false) sets) one in
      long_never conf selection count number selects docs few (status_of new false) found are (subst (λ (list : List (List ℕ)). max_payload < length (packets_from 1 list)) same long)
  by_decision docs few selection selects (inr (inl (id, lacking, is))) = refuses (ap is_refusal is)
  by_decision docs few selection selects (inr (inr (many, too_many, is))) = refuses (ap is_refusal is)

  long_by_event : (place : ℕ) (selection : Selection) (event : Event F) → Selects conf (count_select count number) selection → Meets (needs.Read place) None event → Decides (Search place selection) (told words.documents event) reply
      → Follows confs words before event left → ⊥
  long_by_event place selection (Configured others) selects meets decides follows = meets
  long_by_event place selection Nothing selects meets decides follows = meets
  long_by_event place selection NoMemory selects meets decides follows = meets
  long_by_event place selection (Read at front) selects meets decides follows = by_decision (all_living (words.documents front).layers) (small at front follows) selection selects decides
  long_by_event place selection (Commit at ops outcome front) selects meets decides follows = meets
  long_by_event place selection (Reshape at done outcome mine front) selects meets decides follows = meets

  long_by_replies : (event : Event F) → Replies words.documents (conf ∷ []) old (statements.Select (count_select count number)) event reply new → Follows confs words before event left → ⊥
  long_by_replies event (inl (refusal, why, idle, is, same)) follows = refuses (ap is_refusal is)
  long_by_replies event (inr (inl (plan, (place, selection, wants, planned), meets, decides, next))) follows =
      long_by_event place selection event
      (subst (λ (c : IndexConf). Selects c (count_select count number) selection) (same_served laws.each_has laws.no_fault laws.one_query laws.one_table conf ours count number place wants.conf wants.serves) wants.selects)
      (subst (λ (p : Plan). Meets (need_of p) (pending_of old p) event) planned meets)
      (subst (λ (p : Plan). Decides p (told words.documents event) reply) planned decides) follows
  long_by_replies event (inr (inr (takes, none, is, same))) follows = refuses (ap is_refusal is)

module _ (laws : Laws) (conf : IndexConf) (ours : IsOurs conf) {D F : Type 0} (confs : D → List IndexConf) (words : StoreWords D F)
    (count : Count) (number : ℕ) (below : number < 50) (old new : State) (before left : D)
    (small : (at : ℕ) (front : F) → Follows confs words before (Read at front) left → All IsSmallDoc (all_living (words.documents front).layers)) (is : confs before ≡ conf ∷ []) where
  lost_by : (reply : Reply) (event : Event F) → Replies words.documents (conf ∷ []) old (statements.Select (count_select count number)) event reply new → Follows confs words before event left
      → (is_refusal reply ≡ true) ⊎ (max_payload < length (bytes_of new reply)) → is_stop reply ≡ false → ⊥
  lost_by reply event replies follows (inl refuses) goes_on = refused_never laws.each_has laws.no_fault laws.one_query laws.one_table conf ours words.documents count number below old new reply refuses event replies goes_on
  lost_by reply event replies follows (inr long) goes_on =
      long_by_replies laws conf ours confs words count number below old new before left small reply
      (λ (refuses : is_refusal reply ≡ true). refused_never laws.each_has laws.no_fault laws.one_query laws.one_table conf ours words.documents count number below old new reply refuses event replies goes_on) long event replies follows

  -- no SELECT is lost over such a store
  pub lost_never : IsLost confs words (count_select count number) old before new left → ⊥
  lost_never lost =
      lost_by lost.reply lost.replied.told.event
      (subst (λ (c : List IndexConf). Replies words.documents c old (statements.Select (count_select count number)) lost.replied.told.event lost.reply new) is lost.replied.told.replies)
      lost.replied.told.follows lost.lost lost.goes_on
