-- What the answers to a SELECT mean, by its text: it is read as a query, or refused.
use Rattle.std.proofs.Common.{◌≡◌, ◌∙◌, ℕ, List, Bool, true, false, None, Ok, Err, Result, ap, inl, inr, refl, subst, sym}
use Rattle.std.specs.Str.{IsUtf8, is_utf8}
use Rattle.std.proofs.lemmas.Str.{IsUtf8-from_is_utf8, is_utf8-from_IsUtf8}
use Rattle.srch_base.specs.declared.faults.Or.{Or}
use Rattle.srch_base.specs.declared.faults.Or.TheVariants.{NoMemory, Fault}
use Rattle.index_conf.specs.declared.conf.IndexConf.{IndexConf}
use Rattle.ql_tree.specs.declared.select.Select.{Select}
use Rattle.ql_refusals.specs.Refusals.{Refused, bad_query}
use Rattle.query_read.specs.QueryFault.{QueryFault}
use Rattle.query_tree.specs.declared.query.Query.{Query}
use Rattle.query_read.specs.Queries.{ReadsQuery}
use Rattle.ql_select.specs.declared.selection.Selection.{Selection}
use Rattle.ql_select.specs.Faults.{select_fault}
use Rattle.ql_select.specs.Names.{names_of}
use Rattle.ql_select.specs.Parts.{match_text}
use Rattle.op_eval.specs.Sentences.{query_for}
use Rattle.doc_search.specs.declared.ranking.Ranking.{Ranking}
use Rattle.ql_select.specs.Options.{IsRanking, RefusesRanking}
use Rattle.ql_select.specs.Selections.{MeansOr, RefusesText, setting}
use Rattle.ql_select.specs.declared.rest.Rest.{Rest}
use Rattle.ql_select.specs.steps.Rankings.{AsksOr, RefusesAfter}
use Rattle.ql_select.specs.steps.Rests.{rest_of, with_query}
use Rattle.ql_select.specs.steps.Texts.{ReadsText}

refuted : (b : Bool) → (b ≡ true → ⊥) → b ≡ false
refuted true never = absurd (never refl)
refuted false never = refl

pub no_text : (bytes : List ℕ) → (IsUtf8 bytes → ⊥) → is_utf8 bytes ≡ false
no_text bytes never = refuted (is_utf8 bytes) (λ h. never (IsUtf8-from_is_utf8 bytes h))

pub reads_text : (conf : IndexConf) (bytes text : List ℕ) (query : Query) → text ≡ bytes → IsUtf8 bytes → ReadsQuery (setting conf) text (Ok query) → ReadsText conf bytes (Ok query)
reads_text conf bytes text query same utf8 reads =
    (is_utf8-from_IsUtf8 bytes utf8, subst (λ (read : List ℕ). ReadsQuery (setting conf) read (Ok query)) same reads)

pub refuses_text : (conf : IndexConf) (bytes text : List ℕ) (fault : QueryFault) (refusal : Refused) → text ≡ bytes → IsUtf8 bytes → ReadsQuery (setting conf) text (Err (Fault fault)) → refusal ≡ bad_query fault → RefusesText conf bytes refusal
refuses_text conf bytes text fault refusal same utf8 reads is =
    inr (is_utf8-from_IsUtf8 bytes utf8, (fault, subst (λ (read : List ℕ). ReadsQuery (setting conf) read (Err (Fault fault))) same reads, is))

pub refused_text : (conf : IndexConf) (text : List ℕ) (rest : Rest) (ranking : Ranking) (end : Or Refused) → ReadsText conf text (Err end) → AsksOr conf text rest ranking (Err end)
refused_text conf text rest ranking NoMemory reads = tt
refused_text conf text rest ranking (Fault refusal) reads = reads

pub asked_with : (conf : IndexConf) (text : List ℕ) (rest : Rest) (ranking : Ranking) (query : Query) (selection : Selection) → ReadsText conf text (Ok query) → selection ≡ with_query (query_for conf.schema query) ranking rest → AsksOr conf text rest ranking (Ok selection)
asked_with conf text rest ranking query selection reads means = (query, reads, means)

-- the text is refused, or else what comes after it
pub after_fault : (conf : IndexConf) (text : List ℕ) (later : Refused) (end : Or Refused) → ReadsText conf text (Err end) → RefusesAfter conf text later end
after_fault conf text later NoMemory reads = tt
after_fault conf text later (Fault refusal) reads = inl reads

pub means_or : (conf : IndexConf) (select : Select) (rest : Rest) (ranking : Ranking) → select_fault conf.schema select ≡ None → rest ≡ rest_of conf select (names_of conf.schema select) → IsRanking conf.schema select.options ranking
    → (result : Result Selection (Or Refused)) → AsksOr conf (match_text select.conds) rest ranking result → MeansOr conf select result
means_or conf select rest ranking good is ranks (Ok selection) (query, reads, means) = record {
  good = good;
  text = reads.0;
  query = query;
  reads = reads.1;
  ranking = ranking;
  ranks = ranks;
  means = means ∙ ap (λ (r : Rest). with_query (query_for conf.schema query) ranking r) is;
}
means_or conf select rest ranking good is ranks (Err NoMemory) reads = tt
means_or conf select rest ranking good is ranks (Err (Fault refusal)) refuses = inr (good, inl refuses)

pub refused_or : (conf : IndexConf) (select : Select) (later : Refused) → select_fault conf.schema select ≡ None → RefusesRanking conf.schema select.options later
    → (end : Or Refused) → RefusesAfter conf (match_text select.conds) later end → MeansOr conf select (Err end)
refused_or conf select later good refuses NoMemory after = tt
refused_or conf select later good refuses (Fault refusal) (inl text) = inr (good, inl text)
refused_or conf select later good refuses (Fault refusal) (inr (reads, is)) = inr (good, inr (reads, subst (RefusesRanking conf.schema select.options) (sym is) refuses))
