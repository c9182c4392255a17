-- What a SELECT means is asked of its index: the keywords of the query that was read are numbered.
use Rattle.std.proofs.Common.{sym, subst}
use Rattle.std.proofs.lemmas.Str.{IsUtf8-from_is_utf8}
use Rattle.index_conf.specs.declared.conf.IndexConf.{IndexConf}
use Rattle.prefix_search.specs.Searches.{IsReadOf}
use Rattle.doc_types.specs.Schemas.{IsSchema}
use Rattle.query_read.proofs.QueryKeys.{few_when_read, numbered_when_read}
use Rattle.op_eval.specs.Numbered.{IsNumbered}
use Rattle.op_eval.proofs.NumberedHits.{numbers_kept}
use Rattle.ql_tree.specs.declared.select.Select.{Select}
use Rattle.ql_select.specs.declared.selection.Selection.{Selection}
use Rattle.ql_select.specs.Names.{names_of}
use Rattle.ql_select.specs.Parts.{match_text}
use Rattle.ql_select.specs.Selections.{Selects, setting}
use Rattle.ql_select.proofs.Questions.{is_asked}

-- the query of a SELECT has its keywords numbered
numbered_query : (conf : IndexConf) (select : Select) (selection : Selection) → (selects : Selects conf select selection) → IsNumbered selects.query
numbered_query conf select selection selects =
    let text = match_text select.conds in
    let utf8 = IsUtf8-from_is_utf8 text selects.text in
    let few = few_when_read (setting conf) text selects.query utf8 selects.reads in
    record {
      few = few.0;
      count = few.1;
      numbers = numbered_when_read (setting conf) text selects.query utf8 selects.reads;
    }

pub selection_is_asked : (conf : IndexConf) (select : Select) (selection : Selection) → IsSchema conf.schema → Selects conf select selection → IsReadOf conf.schema selection.asked.question
selection_is_asked conf select selection schema selects =
    subst (λ (s : Selection). IsReadOf conf.schema s.asked.question) (sym selects.means)
    (is_asked conf select (names_of conf.schema select) selects.query selects.ranking schema selects.good
    (numbers_kept conf.schema selects.query (numbered_query conf select selection selects)))
