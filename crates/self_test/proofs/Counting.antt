-- What a selftest's SELECTs find, where the end of its engine was well: none is lost, and their sums are those of the documents that were
-- written.
use Rattle.std.proofs.Common.{◌≡◌, ◌≤◌, ℕ, zero, suc, List, [], ◌∷◌, length, refl, sym, subst, ◌∙◌, arith, inl, inr}
use Rattle.std.proofs.lemmas.List.{length-map}
use Rattle.doc_types.specs.Rows.{rows_of}
use Rattle.doc_types.specs.Snapshots.{all_living, live}
use Rattle.doc_types.specs.declared.documents.DocRow.{DocRow}
use Rattle.doc_types.specs.declared.schema.Schema.{Schema}
use Rattle.index_conf.specs.declared.conf.IndexConf.{IndexConf}
use Rattle.ql_tree.specs.declared.select.Select.{Select}
use Rattle.ql_select.specs.Selections.{Selects}
use Rattle.ql_answers.specs.Indexes.{Serves}
use Rattle.ql_answers.specs.declared.state.State.{State}
use Rattle.ql_session.specs.Events.{Event, Read, StoreWords}
use Rattle.ql_session.specs.Machines.{FollowAll}
use Rattle.step_book.specs.Fronts.{FrontValue}
use Rattle.step_history.specs.History.{Base, Step, chunks_for}
use Rattle.engine_tables.specs.Workers.{WorkerValue, by_tokens, documents_of}
use Rattle.self_test.specs.Asking.{AreCounted, Leads}
use Rattle.self_test.specs.Conversations.{ComesAstray, Converses, Counts, LosesOne, LosesSome, Sums, merged_chunks, of_groups, of_pairs, of_words}
use Rattle.self_test.specs.Findings.{FindsRows}
use Rattle.self_test.specs.Own.{IsEmpty, IsOurs}
use Rattle.self_test.specs.Summaries.{AreCounts, FindUpTo, FindsIn, IsSummary, many}
use Rattle.self_test.specs.Texts.{count_select}
use Rattle.self_test.specs.declared.fault.Astray.TheVariants.{Unexpected}
use Rattle.self_test.specs.declared.generator.Document.{Document}
use Rattle.self_test.specs.declared.summary.Count.{Count}
use Rattle.self_test.specs.declared.summary.Count.TheVariants.{Words, Pairs, Groups}
use Rattle.self_test.specs.declared.summary.Summary.{Summary}
use Rattle.self_test.proofs.Ending.{IsOver, first_worker, front_rows, never_astray, written}
use Rattle.self_test.proofs.Inserting.{docs_of}
use Rattle.self_test.proofs.Leading.{leads_none, leads_then, read_leads}
use Rattle.self_test.proofs.Losing.{Laws, below_fifty}
use Rattle.self_test.proofs.Lost.{lost_never}
use Rattle.self_test.proofs.Reading.{small_read, small_stored}
use Rattle.self_test.proofs.Seated.{Moves}
use Rattle.self_test.proofs.Served.{same_served}
use Rattle.self_test.proofs.Standing.{AreDrawn, Rests, long_stored, rests_read}

-- what OPTIMIZE leaves of so many documents is what a job leaves of their rows
chunks_same : (documents : List Document) (rows : List DocRow) → length rows ≡ length documents → merged_chunks (length documents) ≡ chunks_for rows
chunks_same [] [] long = refl
chunks_same [] (row ∷ rows) long = absurd (omega (arith, long))
chunks_same (document ∷ documents) [] long = absurd (omega (arith, long))
chunks_same (document ∷ documents) (row ∷ rows) long = refl

module _ {D F : Type 0} (confs : D → List IndexConf) (words : StoreWords D F) where
  -- what was counted leads on
  counted_leads : (select : ℕ → Select) (number sum : ℕ) (old new : State) (before left : D) → AreCounted confs words select number sum old before new left → Leads confs words before left
  counted_leads select zero sum old new before left counted = subst (λ (d : D). Leads confs words before d) (sym counted.2) (leads_none confs words before)
  counted_leads select (suc number) sum old new before left (earlier, rows, mid, between, counted, shows, is) =
      leads_then confs words before between left (counted_leads select number earlier old mid before between counted) (read_leads confs words shows.1.place shows.1.front between left shows.1.reads)

  count_leads : (count : Count) (sum : ℕ) (old new : State) (before left : D) → Counts confs words count sum old before new left → Leads confs words before left
  count_leads count sum old new before left counts = counted_leads (count_select count) (many count) sum old new before left counts

  -- so does what was lost behind it
  lose_leads : (count : Count) (begun : State) (first left : D) → LosesOne confs words count begun first left → Leads confs words first left
  lose_leads count begun first left lose =
      leads_then confs words first lose.before left (counted_leads (count_select count) lose.number lose.sum begun lose.old first lose.before lose.counted)
      (record { events = lose.lost.replied.told.event ∷ []; follows = (left, lose.lost.replied.told.follows, refl) })

  loses_lead : (state : State) (between left : D) → LosesSome confs words state between left → Leads confs words between left
  loses_lead state between left (of_words lose) = lose_leads Words state between left lose
  loses_lead state between left (of_pairs sum mid later counts lose) =
      leads_then confs words between later left (count_leads Words sum state mid between later counts) (lose_leads Pairs mid later left lose)
  loses_lead state between left (of_groups first second mid later (at, here, one, two) lose) =
      leads_then confs words between here left (count_leads Words first state at between here one)
      (leads_then confs words here later left (count_leads Pairs second at mid here later two) (lose_leads Groups mid later left lose))

  -- and what was found
  sums_lead : (documents : ℕ) (summary : Summary) (state : State) (between left : D) → Sums confs words documents summary state between left → Leads confs words between left
  sums_lead documents summary state between left sums =
      let (first, one, of_first, (second, two, of_second, of_third)) = sums.counts in
      leads_then confs words between one left (count_leads Words summary.words state first between one of_first)
      (leads_then confs words one two left (count_leads Pairs summary.pairs first second one two of_second)
      (leads_then confs words two sums.between left (count_leads Groups summary.groups second sums.state two sums.between of_third)
      (read_leads confs words 0 sums.sees.front sums.between left sums.sees.reads)))

module _ (laws : Laws) (schema : ℕ → Schema) (base : ℕ → Base) (history : List Step) (conf : IndexConf) (ours : IsOurs conf) (documents : List Document) where
  abbrev confs_of : WorkerValue → List IndexConf
  confs_of worker = worker.confs

  abbrev store : StoreWords WorkerValue FrontValue
  store = by_tokens schema base

  module _ (known : List Step) (list : List DocRow) where
    -- reads change nothing but what was seen
    rests_counted : (select : ℕ → Select) (number sum : ℕ) (old new : State) (before after : WorkerValue) → Rests conf known list documents before → AreCounted confs_of store select number sum old before new after
        → Rests conf known list documents after
    rests_counted select zero sum old new before after rests counted = subst (λ (w : WorkerValue). Rests conf known list documents w) (sym counted.2) rests
    rests_counted select (suc number) sum old new before after rests (earlier, rows, mid, between, counted, shows, is) =
        rests_read schema base history conf ours.own known list documents between after shows.1.place shows.1.front (rests_counted select number earlier old mid before between rests counted) shows.1.reads

    rests_count : (count : Count) (sum : ℕ) (old new : State) (before after : WorkerValue) → Rests conf known list documents before → Counts confs_of store count sum old before new after → Rests conf known list documents after
    rests_count count sum old new before after rests counts = rests_counted (count_select count) (many count) sum old new before after rests counts

  module _ (empty : IsEmpty (base 0)) (drawn : AreDrawn documents) (few : length documents ≤ 100000) (left : WorkerValue) (over : IsOver history left) where
    module _ (known : List Step) (list : List DocRow) where
      -- what a SELECT reads that is the last statement
      last_rows : (before : WorkerValue) (place : ℕ) (front : FrontValue) → Rests conf known list documents before → Moves schema base before (Read place front) left → live (documents_of base front) ≡ rows_of list
      last_rows before place front rests reads =
          front_rows schema base history conf ours.own empty documents drawn few left over known list before left place front [] rests reads refl
          (rests_read schema base history conf ours.own known list documents before left place front rests reads)

      -- none is lost
      lose_never : (count : Count) (begun : State) (first : WorkerValue) → Rests conf known list documents first → LosesOne confs_of store count begun first left → ⊥
      lose_never count begun first rests lose =
          let here : Rests conf known list documents lose.before = rests_counted known list (count_select count) lose.number lose.sum begun lose.old first lose.before rests lose.counted in
          lost_never laws conf ours confs_of store count lose.number (below_fifty count lose.number lose.below) lose.old lose.new lose.before left
          (λ at front reads. small_read (all_living (documents_of base front).layers) list (last_rows lose.before at front here reads) (small_stored conf 0 documents list rests.are (omega (arith, few)))) here.confs lose.lost

      loses_never : (state : State) (between : WorkerValue) → Rests conf known list documents between → LosesSome confs_of store state between left → ⊥
      loses_never state between rests (of_words lose) = lose_never Words state between rests lose
      loses_never state between rests (of_pairs sum mid later counts lose) = lose_never Pairs mid later (rests_count known list Words sum state mid between later rests counts) lose
      loses_never state between rests (of_groups first second mid later (at, here, one, two) lose) =
          lose_never Groups mid later (rests_count known list Pairs second at mid here later (rests_count known list Words first state at between here rests one) two) lose

      module _ (ended : Rests conf known list documents left) where
        -- what a SELECT finds
        finds_one : (count : Count) (number rows : ℕ) (before after : WorkerValue) (events : List (Event FrontValue)) → Rests conf known list documents before → FindsRows confs_of store (count_select count number) rows before after
            → FollowAll (Moves schema base) after events left → FindsIn conf list (count_select count number) rows
        finds_one count number rows before after events rests finds follows = record {
          selection = finds.selection;
          selects = subst (λ (c : IndexConf). Selects c (count_select count number) finds.selection)
              (same_served laws.each_has laws.no_fault laws.one_query laws.one_table conf ours count number finds.place finds.wants.conf
              (subst (λ (c : List IndexConf). Serves c (count_select count number).index finds.place finds.wants.conf) rests.confs finds.wants.serves)) finds.wants.selects;
          ordered = all_living (documents_of base finds.front).layers;
          same = front_rows schema base history conf ours.own empty documents drawn few left over known list before after finds.place finds.front events rests finds.reads follows ended;
          apart = finds.reads.1.layers.distinct;
          found = finds.found;
          finds = finds.finds;
          shown = finds.many;
        }

        find_up : (count : Count) (number sum : ℕ) (old new : State) (before after : WorkerValue) (events : List (Event FrontValue)) → Rests conf known list documents before
            → AreCounted confs_of store (count_select count) number sum old before new after → FollowAll (Moves schema base) after events left → FindUpTo conf list (count_select count) number sum
        find_up count zero sum old new before after events rests counted follows = counted.0
        find_up count (suc number) sum old new before after events rests (earlier, rows, mid, between, counted, shows, is) follows = (
          earlier,
          rows,
          find_up count number earlier old mid before between (Read shows.1.place shows.1.front ∷ events) rests counted (after, shows.1.reads, follows),
          finds_one count number rows between after events (rests_counted known list (count_select count) number earlier old mid before between rests counted) shows.1 follows,
          is,
        )

        -- what all of them find
        find_all : (count : Count) (sum : ℕ) (old new : State) (before after : WorkerValue) → Rests conf known list documents before → Counts confs_of store count sum old before new after → Leads confs_of store after left
            → AreCounts conf list count sum
        find_all count sum old new before after rests counts leads = find_up count (many count) sum old new before after leads.events rests counts leads.follows

      -- so what was found is a summary
      sums_so : (summary : Summary) (state : State) (between : WorkerValue) → Rests conf known list documents between → Sums confs_of store (length documents) summary state between left → summary.chunks ≡ merged_chunks (length documents)
          → IsSummary documents summary
      sums_so summary state between rests sums merged =
          let (first, one, of_first, (second, two, of_second, of_third)) = sums.counts in
          let at_one : Rests conf known list documents one = rests_count known list Words summary.words state first between one rests of_first in
          let at_two : Rests conf known list documents two = rests_count known list Pairs summary.pairs first second one two at_one of_second in
          let at_three : Rests conf known list documents sums.between = rests_count known list Groups summary.groups second sums.state two sums.between at_two of_third in
          let ended : Rests conf known list documents left = rests_read schema base history conf ours.own known list documents sums.between left 0 sums.sees.front at_three sums.sees.reads in
          let chunks : Leads confs_of store sums.between left = read_leads confs_of store 0 sums.sees.front sums.between left sums.sees.reads in
          let groups : Leads confs_of store two left = leads_then confs_of store two sums.between left (count_leads confs_of store Groups summary.groups second sums.state two sums.between of_third) chunks in
          let pairs : Leads confs_of store one left = leads_then confs_of store one two left (count_leads confs_of store Pairs summary.pairs first second one two of_second) groups in
          record {
            conf = conf;
            ours = ours;
            rows = list;
            stored = rests.are;
            all = sums.many;
            words = find_all ended Words summary.words state first between one rests of_first pairs;
            pairs = find_all ended Pairs summary.pairs first second one two at_one of_second groups;
            groups = find_all ended Groups summary.groups second sums.state two sums.between at_two of_third chunks;
            chunks = merged ∙ chunks_same documents list (sym (length-map list (λ (row : DocRow). row.doc)) ∙ long_stored conf 0 documents (docs_of list) rests.are);
          }

    -- what a conversation found is a summary of its documents
    pub found_so : (summary : Summary) → Converses confs_of store documents summary (first_worker conf) left → IsSummary documents summary
    found_so summary converses =
        let leads : Leads confs_of store converses.between left = sums_lead confs_of store (length documents) summary converses.state converses.between left converses.sums in
        let stands = written schema base history conf ours.own empty documents drawn few left over converses.state converses.between leads.events converses.done leads.follows in
        sums_so stands.known stands.list summary converses.state converses.between stands.rests converses.sums converses.merged

    -- and none goes astray but for a job
    pub astray_never : ComesAstray confs_of store documents Unexpected (first_worker conf) left → ⊥
    astray_never (inl (state, gone)) = never_astray schema base history conf ours.own empty documents drawn few left over state left [] gone refl
    astray_never (inr (state, between, done, lose)) =
        let leads : Leads confs_of store between left = loses_lead confs_of store state between left lose in
        let stands = written schema base history conf ours.own empty documents drawn few left over state between leads.events done leads.follows in
        loses_never stands.known stands.list state between stands.rests lose
