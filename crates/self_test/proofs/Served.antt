-- No SELECT of a selftest is refused but for want of memory, where the index is ours.
use Rattle.std.proofs.Common.{◌≡◌, ◌<◌, ℕ, ◌+◌, ◌%◌, List, [], ◌∷◌, true, false, Option, Some, None, Ok, Err, refl, sym, ap, ◌∙◌, subst, arith, inl, inr}
use Rattle.std.specs.List.{AllZip}
use Rattle.std.specs.Str.{is_utf8}
use Rattle.std.proofs.lemmas.Str.{is_utf8-from_IsUtf8}
use Rattle.srch_base.specs.declared.faults.Or.TheVariants as ends
use Rattle.doc_types.specs.Snapshots.{SnapshotValue, all_living}
use Rattle.doc_types.specs.declared.documents.DocRow.{DocRow}
use Rattle.doc_types.specs.declared.hits.Hits.{Hits}
use Rattle.doc_types.specs.declared.schema.Schema.{Schema}
use Rattle.charset_map.specs.Spans.{folded}
use Rattle.index_conf.specs.declared.conf.IndexConf.{IndexConf}
use Rattle.query_tree.specs.declared.key.How.TheVariants as hows
use Rattle.query_tree.specs.declared.key.Key.{Key}
use Rattle.query_tree.specs.declared.query.Node.{Node}
use Rattle.query_tree.specs.declared.query.Query.{Query}
use Rattle.query_tree.specs.TreeKeys.{node_keys, query_keys}
use Rattle.query_tree.proofs.NodeKeys.{keys_quoted, keys_word}
use Rattle.query_marks.specs.Marks.{Setting, mark_at, setting_of}
use Rattle.query_marks.specs.declared.mark.Sign.TheVariants as signs
use Rattle.query_grammar.specs.declared.fault.QueryFault.{QueryFault}
use Rattle.query_grammar.specs.Queries.{ReadsQuery}
use Rattle.op_eval.specs.Sentences.{query_for}
use Rattle.op_eval.proofs.AndNodes.{of_quoted, of_word}
use Rattle.rankers.specs.Weight.{weight}
use Rattle.rankers.specs.declared.ranker.Ranker.{Ranker}
use Rattle.rankers.specs.declared.ranker.Ranker.TheVariants as rankers
use Rattle.doc_search.specs.Rankings.{weigh}
use Rattle.doc_search.specs.declared.question.Question.{Question}
use Rattle.doc_search.specs.declared.ranking.Ranking.{Ranking}
use Rattle.doc_search.specs.declared.ranking.Ranking.TheVariants as rankings
use Rattle.prefix_terms.specs.Prefixes.{IsListOf, Lists, prefixes, words_together}
use Rattle.prefix_search.specs.Searches.{AreTooMany, IsFirstLacking}
use Rattle.ql_refusals.specs.Refusals.{Refused}
use Rattle.ql_tree.specs.declared.statement.Statement.TheVariants as statements
use Rattle.ql_select.specs.Faults.{select_fault}
use Rattle.ql_select.specs.Options.{IsRanking, RefusesRanking}
use Rattle.ql_select.specs.Parts.{match_text}
use Rattle.ql_select.specs.Selections.{RefusesSelection, Selects, setting}
use Rattle.ql_select.specs.declared.selection.Selection.{Selection}
use Rattle.ql_answers.specs.Indexes.{Serves}
use Rattle.ql_answers.specs.Reading.{RefusesSelect}
use Rattle.ql_answers.specs.Replies.{Reply, is_refusal}
use Rattle.ql_answers.specs.Sessions.{Decides, DecidesSearch, need_of, pending_of}
use Rattle.ql_answers.specs.declared.event.Need.TheVariants as needs
use Rattle.ql_answers.specs.declared.plan.Plan.{Plan}
use Rattle.ql_answers.specs.declared.plan.Plan.TheVariants.{Search}
use Rattle.ql_answers.specs.declared.state.State.{State}
use Rattle.ql_session.specs.Events.{Commit, Configured, Event, NoMemory, Nothing, Read, Reshape}
use Rattle.ql_session.specs.Statements.{Meets, Replies, told}
use Rattle.self_test.specs.Asking.{is_stop}
use Rattle.self_test.specs.Texts.{count_select}
use Rattle.self_test.specs.declared.summary.Count.{Count}
use Rattle.self_test.specs.declared.summary.Count.TheVariants.{Words, Pairs, Groups}
use Rattle.self_test.specs.Own.{IsOurs, own_schema}
use Rattle.self_test.proofs.Querying.{EachHas, NoFault, OneQuery, OneTable, has_none, keeps_words, key_of, pair_node, pair_never, pair_query, word_never, word_node, word_query}
use Rattle.self_test.proofs.Values.{query_utf8}
use Rattle.self_test.proofs.Wants.{first_served, never_missing}

-- A query without prefixes has no words of prefixes.

no_more : (docs : List DocRow) (lists : Lists) → AllZip (IsListOf docs) [] lists → lists ≡ []
no_more docs [] zip = refl
no_more docs (list ∷ lists) zip = absurd zip

pub never_many : (query : Query) (docs : List DocRow) (count : ℕ) → prefixes (query_keys query) ≡ [] → AreTooMany query docs count → ⊥
never_many query docs count none many =
    let lists : many.lists ≡ [] = no_more docs many.lists (subst (λ (keys : List Key). AllZip (IsListOf docs) keys many.lists) none many.words) in
    omega (arith, many.is, many.many, ap words_together lists)

-- A plain ranker gives each document a weight.

pub never_lacks : (question : Question) (ranker : Ranker) (docs : List DocRow) (id : ℕ) → question.ranker ≡ rankings.Plain ranker → IsFirstLacking question docs id → ⊥
never_lacks question ranker docs id plain lacking =
    let hits : Hits = record { keywords = question.query.keywords; list = lacking.lacks.hits } in
    let weighs : weigh question.ranker hits question.weights.list lacking.doc.doc.values ≡ Some (weight ranker hits question.weights.list) =
    ap (λ (r : Ranking). weigh r hits question.weights.list lacking.doc.doc.values) plain in
    let clash : Some (weight ranker hits question.weights.list) ≡ None = sym weighs ∙ lacking.lacks.none in
    absurd (cc clash)

-- Nothing is wrong with the SELECTs, and none of their options is a ranker.

no_fault_in : (count : Count) (number : ℕ) → select_fault own_schema (count_select count number) ≡ None
no_fault_in Words number = refl
no_fault_in Pairs number = refl
no_fault_in Groups number = refl

no_expression : (schema : Schema) (count : Count) (number : ℕ) (refusal : Refused) → RefusesRanking schema (count_select count number).options refusal → ⊥
no_expression schema Words number refusal refuses = refuses
no_expression schema Pairs number refusal refuses = refuses
no_expression schema Groups number refusal refuses = refuses

plain_ranking : (schema : Schema) (count : Count) (number : ℕ) (ranking : Ranking) → IsRanking schema (count_select count number).options ranking → ranking ≡ rankings.Plain rankers.Proximity
plain_ranking schema Words number ranking is = is
plain_ranking schema Pairs number ranking is = is
plain_ranking schema Groups number ranking is = is

-- the keywords of the queries, none of which is a prefix

word_keys : (number : ℕ) → prefixes (query_keys (query_for own_schema (record { root = Some (word_node number); keywords = 1 }))) ≡ []
word_keys number = ap (λ (node : Node). prefixes (node_keys node)) (of_word (key_of 1 number)) ∙ ap (λ (keys : List Key). prefixes keys) (keys_word (key_of 1 number))

pair_keys : (number after : ℕ) → prefixes (query_keys (query_for own_schema (record { root = Some (pair_node number after); keywords = 2 }))) ≡ []
pair_keys number after =
    ap (λ (node : Node). prefixes (node_keys node)) (of_quoted (key_of 1 number ∷ key_of 2 after ∷ []) hows.Phrase)
    ∙ ap (λ (keys : List Key). prefixes keys) (keys_quoted (key_of 1 number ∷ key_of 2 after ∷ []) hows.Phrase)

module _ (each_has : EachHas) (no_fault : NoFault) (one_query : OneQuery) (one_table : OneTable) (conf : IndexConf) (ours : IsOurs conf) where
  abbrev fold : ℕ → Option ℕ
  fold = folded conf.charset

  abbrev own : Setting
  own = setting_of fold own_schema

  is_own : setting conf ≡ own
  is_own = ap (λ (schema : Schema). setting_of fold schema) ours.columns

  own_never : (count : Count) (number : ℕ) → number < 50 → (fault : QueryFault) → ReadsQuery own (match_text (count_select count number).conds) (Err (ends.Fault fault)) → ⊥
  own_never Words number below fault reads =
      word_never fold (has_none one_table fold ours.table) (keeps_words one_table fold ours.table) each_has no_fault number below (query_utf8 Words number below) fault reads
  own_never Pairs number below fault reads =
      pair_never fold (has_none one_table fold ours.table) (keeps_words one_table fold ours.table) each_has no_fault number ((number + 1) % 50) below (omega arith) (query_utf8 Pairs number below) fault reads
  own_never Groups number below fault reads = (reads [] refl).1 (mark_at 0 None signs.End, refl, refl)

  text_never : (count : Count) (number : ℕ) → number < 50 → (fault : QueryFault) → ReadsQuery (setting conf) (match_text (count_select count number).conds) (Err (ends.Fault fault)) → ⊥
  text_never count number below fault reads =
      own_never count number below fault (subst (λ (s : Setting). ReadsQuery s (match_text (count_select count number).conds) (Err (ends.Fault fault))) is_own reads)

  own_keys : (count : Count) (number : ℕ) → number < 50 → (query : Query) → ReadsQuery own (match_text (count_select count number).conds) (Ok query) → prefixes (query_keys (query_for own_schema query)) ≡ []
  own_keys Words number below query reads =
      ap (λ (q : Query). prefixes (query_keys (query_for own_schema q)))
      (word_query fold (has_none one_table fold ours.table) (keeps_words one_table fold ours.table) each_has one_query number below (query_utf8 Words number below) query reads)
      ∙ word_keys number
  own_keys Pairs number below query reads =
      ap (λ (q : Query). prefixes (query_keys (query_for own_schema q)))
      (pair_query fold (has_none one_table fold ours.table) (keeps_words one_table fold ours.table) each_has one_query number ((number + 1) % 50) below (omega arith) (query_utf8 Pairs number below) query reads)
      ∙ pair_keys number ((number + 1) % 50)
  own_keys Groups number below query reads =
      ap (λ (q : Query). prefixes (query_keys (query_for own_schema q)))
      (one_query own [] [] query (record { root = None; keywords = 0 }) (reads [] refl) ((mark_at 0 None signs.End, refl, refl), refl))

  no_prefixes : (count : Count) (number : ℕ) → number < 50 → (query : Query) → ReadsQuery (setting conf) (match_text (count_select count number).conds) (Ok query) → prefixes (query_keys (query_for conf.schema query)) ≡ []
  no_prefixes count number below query reads =
      ap (λ (schema : Schema). prefixes (query_keys (query_for schema query))) ours.columns
      ∙ own_keys count number below query (subst (λ (s : Setting). ReadsQuery s (match_text (count_select count number).conds) (Ok query)) is_own reads)

  text_utf8 : (count : Count) (number : ℕ) → number < 50 → is_utf8 (match_text (count_select count number).conds) ≡ true
  text_utf8 Words number below = is_utf8-from_IsUtf8 _ (query_utf8 Words number below)
  text_utf8 Pairs number below = is_utf8-from_IsUtf8 _ (query_utf8 Pairs number below)
  text_utf8 Groups number below = is_utf8-from_IsUtf8 _ (query_utf8 Groups number below)

  -- the index doesn't refuse them
  selection_never : (count : Count) (number : ℕ) → number < 50 → (refusal : Refused) → RefusesSelection conf (count_select count number) refusal → ⊥
  selection_never count number below refusal (inl (fault, some, is)) =
      let clash : Some fault ≡ None = sym some ∙ (ap (λ (schema : Schema). select_fault schema (count_select count number)) ours.columns ∙ no_fault_in count number) in
      absurd (cc clash)
  selection_never count number below refusal (inr (good, inl (inl (bad, is)))) =
      let clash : false ≡ true = sym bad ∙ text_utf8 count number below in
      absurd (cc clash)
  selection_never count number below refusal (inr (good, inl (inr (utf8, (fault, reads, is))))) = text_never count number below fault reads
  selection_never count number below refusal (inr (good, inr (reads, refuses))) = no_expression conf.schema count number refusal refuses

  pub same_served : (count : Count) (number place : ℕ) (other : IndexConf) → Serves (conf ∷ []) (count_select count number).index place other → other ≡ conf
  same_served Words number place other serves = (first_served conf ours.own place other serves).1
  same_served Pairs number place other serves = (first_served conf ours.own place other serves).1
  same_served Groups number place other serves = (first_served conf ours.own place other serves).1

  -- the documents don't
  decision_never : (count : Count) (number : ℕ) → number < 50 → (selection : Selection) → Selects conf (count_select count number) selection → (docs : List DocRow) (reply : Reply) → DecidesSearch selection docs reply → is_refusal reply ≡ true → ⊥
  decision_never count number below selection selects docs reply (inl (found, are, is)) refuses =
      let clash : false ≡ true = ap is_refusal (sym is) ∙ refuses in
      absurd (cc clash)
  decision_never count number below selection selects docs reply (inr (inl (id, lacking, is))) refuses =
      never_lacks selection.asked.question rankers.Proximity docs id
      (ap (λ (s : Selection). s.asked.question.ranker) selects.means ∙ plain_ranking conf.schema count number selects.ranking selects.ranks) lacking
  decision_never count number below selection selects docs reply (inr (inr (many, too_many, is))) refuses =
      never_many selection.asked.question.query docs many
      (ap (λ (s : Selection). prefixes (query_keys s.asked.question.query)) selects.means ∙ no_prefixes count number below selects.query selects.reads) too_many

  -- so nothing does
  select_never : (count : Count) (number : ℕ) → number < 50 → (refusal : Refused) → RefusesSelect (conf ∷ []) (count_select count number) refusal → ⊥
  select_never Words number below refusal (inl missing) = never_missing conf ours.own refusal missing
  select_never Pairs number below refusal (inl missing) = never_missing conf ours.own refusal missing
  select_never Groups number below refusal (inl missing) = never_missing conf ours.own refusal missing
  select_never count number below refusal (inr (place, other, serves, refuses)) =
      selection_never count number below refusal (subst (λ (c : IndexConf). RefusesSelection c (count_select count number) refusal) (same_served count number place other serves) refuses)

  module _ {F : Type 0} (words : F → SnapshotValue) (count : Count) (number : ℕ) (below : number < 50) (old new : State) (reply : Reply) (refuses : is_refusal reply ≡ true) where
    by_event : (place : ℕ) (selection : Selection) (event : Event F) → Selects conf (count_select count number) selection → Meets (needs.Read place) None event → Decides (Search place selection) (told words event) reply → ⊥
    by_event place selection (Configured others) selects meets decides = meets
    by_event place selection Nothing selects meets decides = meets
    by_event place selection NoMemory selects meets decides = meets
    by_event place selection (Read at front) selects meets decides = decision_never count number below selection selects (all_living (words front).layers) reply decides refuses
    by_event place selection (Commit at ops outcome front) selects meets decides = meets
    by_event place selection (Reshape at done outcome mine front) selects meets decides = meets

    -- a SELECT is refused for want of memory alone
    pub refused_never : (event : Event F) → Replies words (conf ∷ []) old (statements.Select (count_select count number)) event reply new → is_stop reply ≡ false → ⊥
    refused_never event (inl (refusal, why, idle, is, same)) goes_on = select_never count number below refusal why
    refused_never event (inr (inl (plan, (place, selection, wants, planned), meets, decides, next))) goes_on =
        by_event place selection event
        (subst (λ (c : IndexConf). Selects c (count_select count number) selection) (same_served count number place wants.conf wants.serves) wants.selects)
        (subst (λ (p : Plan). Meets (need_of p) (pending_of old p) event) planned meets)
        (subst (λ (p : Plan). Decides p (told words event) reply) planned decides)
    refused_never event (inr (inr (takes, none, is, same))) goes_on =
        let clash : true ≡ false = ap is_stop (sym is) ∙ goes_on in
        absurd (cc clash)
