-- A SELECT means one thing or is refused for one reason, since the text of its MATCH is one query or has one first fault.
use Rattle.std.proofs.Common.{◌≡◌, ℕ, List, Option, Some, None, true, sym, ap, ◌∙◌, ◌⊎◌, inl, inr}
use Rattle.std.specs.Prelude.{Ok, Err}
use Rattle.std.specs.Str.{IsUtf8, is_utf8}
use Rattle.std.proofs.lemmas.Bool.{false≢true}
use Rattle.std.proofs.lemmas.Str.{IsUtf8-from_is_utf8}
use Rattle.srch_base.specs.declared.faults.Or.TheVariants as ends
use Rattle.index_conf.specs.declared.conf.IndexConf.{IndexConf}
use Rattle.ql_tree.specs.declared.select.Select.{Select}
use Rattle.ql_tree.specs.declared.select.OptionValue.{OptionValue}
use Rattle.ql_tree.specs.declared.select.OptionValue.TheVariants as values
use Rattle.doc_types.specs.declared.schema.Schema.{Schema}
use Rattle.doc_search.specs.declared.ranking.Ranking.{Ranking}
use Rattle.doc_search.specs.declared.ranking.Ranking.TheVariants as rankings
use Rattle.rank_expr.specs.ExprFaults as exprs
use Rattle.rank_expr.specs.declared.expr.RankExpr.{RankExpr}
use Rattle.rank_expr.specs.declared.fault.ExprFault.{ExprFault}
use Rattle.ql_refusals.specs.Refusals.{Refused, bad_expr, bad_query}
use Rattle.ql_refusals.proofs.Options.{not_both, one_value}
use Rattle.query_read.specs.QueryFault.{QueryFault}
use Rattle.query_tree.specs.declared.query.Query.{Query}
use Rattle.query_read.specs.Queries.{IsRefused, IsValue, ReadsQuery}
use Rattle.query_read.specs.Marks.{Setting, alphabet_in, marks_of}
use Rattle.query_read.specs.Piece.{Piece}
use Rattle.query_read.specs.Letters.{Alphabet}
use Rattle.query_read.specs.Pieces.{ArePieces}
use Rattle.ql_select.specs.declared.first_fault.Fault.{Fault}
use Rattle.ql_select.specs.declared.selection.Selection.{Selection}
use Rattle.ql_select.specs.Faults.{select_fault}
use Rattle.ql_select.specs.Names.{names_of}
use Rattle.ql_select.specs.Parts.{match_text}
use Rattle.ql_select.specs.Options.{IsRankingIn, RefusesRankingIn, last_value, ranker_option}
use Rattle.ql_select.specs.Selections.{RefusesSelection, RefusesText, RefusesWeights, Selects, selection_of, setting}

module _
    (has_pieces : (alphabet : Alphabet) (text : List ℕ) → IsUtf8 text → (pieces : List Piece) × ArePieces alphabet text pieces)
    (one_query : (setting : Setting) (text : List ℕ) (pieces : List Piece) (a b : Query) → IsValue a (marks_of setting text pieces) → IsValue b (marks_of setting text pieces) → a ≡ b)
    (no_fault : (setting : Setting) (text : List ℕ) (pieces : List Piece) (query : Query) (fault : QueryFault) → IsValue query (marks_of setting text pieces) → IsRefused fault (marks_of setting text pieces) → ⊥)
    (one_fault : (setting : Setting) (text : List ℕ) (pieces : List Piece) (a b : QueryFault) → IsUtf8 text → ArePieces (alphabet_in setting) text pieces → IsRefused a (marks_of setting text pieces) → IsRefused b (marks_of setting text pieces) → a ≡ b)
    (one_expr : (schema : Schema) (text : List ℕ) (a b : RankExpr) → exprs.IsValue schema text a → exprs.IsValue schema text b → a ≡ b)
    (no_expr_fault : (schema : Schema) (text : List ℕ) (expr : RankExpr) (fault : ExprFault) → exprs.IsValue schema text expr → exprs.IsRefused schema text fault → ⊥)
    (one_expr_fault : (schema : Schema) (text : List ℕ) (a b : ExprFault) → exprs.IsRefused schema text a → exprs.IsRefused schema text b → a ≡ b) where
  -- ---- a text
  one_read : (setting : Setting) (text : List ℕ) (a b : Query) → is_utf8 text ≡ true → ReadsQuery setting text (Ok a) → ReadsQuery setting text (Ok b) → a ≡ b
  one_read setting text a b utf8 one two =
      let (pieces, are) = has_pieces (alphabet_in setting) text (IsUtf8-from_is_utf8 text utf8) in
      one_query setting text pieces a b (one pieces are) (two pieces are)

  not_read : (setting : Setting) (text : List ℕ) (query : Query) (fault : QueryFault) → is_utf8 text ≡ true → ReadsQuery setting text (Ok query) → ReadsQuery setting text (Err (ends.Fault fault)) → ⊥
  not_read setting text query fault utf8 one two =
      let (pieces, are) = has_pieces (alphabet_in setting) text (IsUtf8-from_is_utf8 text utf8) in
      no_fault setting text pieces query fault (one pieces are) (two pieces are)

  one_first : (setting : Setting) (text : List ℕ) (a b : QueryFault) → is_utf8 text ≡ true → ReadsQuery setting text (Err (ends.Fault a)) → ReadsQuery setting text (Err (ends.Fault b)) → a ≡ b
  one_first setting text a b utf8 one two =
      let read = IsUtf8-from_is_utf8 text utf8 in
      let (pieces, are) = has_pieces (alphabet_in setting) text read in
      one_fault setting text pieces a b read are (one pieces are) (two pieces are)

  one_refused_text : (conf : IndexConf) (text : List ℕ) (a b : Refused) → RefusesText conf text a → RefusesText conf text b → a ≡ b
  one_refused_text conf text a b (inl (bytes, says)) (inl (bytes', says')) = says ∙ sym says'
  one_refused_text conf text a b (inl (bytes, says)) (inr (utf8, refused)) = absurd (false≢true (sym bytes ∙ utf8))
  one_refused_text conf text a b (inr (utf8, refused)) (inl (bytes, says)) = absurd (false≢true (sym bytes ∙ utf8))
  one_refused_text conf text a b (inr (utf8, (f, reads, says))) (inr (utf8', (g, reads', says'))) =
      says ∙ ap bad_query (one_first (setting conf) text f g utf8 reads reads') ∙ sym says'

  not_refused_text : (conf : IndexConf) (text : List ℕ) (query : Query) (refusal : Refused) → is_utf8 text ≡ true → ReadsQuery (setting conf) text (Ok query) → RefusesText conf text refusal → ⊥
  not_refused_text conf text query refusal utf8 reads (inl (bytes, says)) = false≢true (sym bytes ∙ utf8)
  not_refused_text conf text query refusal utf8 reads (inr (utf8', (fault, refuses, says))) = not_read (setting conf) text query fault utf8 reads refuses

  -- ---- how documents are weighed
  one_ranking : (schema : Schema) (value : Option OptionValue) (a b : Ranking) → IsRankingIn schema value a → IsRankingIn schema value b → a ≡ b
  one_ranking schema (Some (values.Call name text)) a b (e, its, is) (f, its', is') = is ∙ ap (λ (x : RankExpr). rankings.Expr x) (one_expr schema text e f its its') ∙ sym is'
  one_ranking schema None a b is is' = is ∙ sym is'
  one_ranking schema (Some (values.Name name)) a b is is' = is ∙ sym is'
  one_ranking schema (Some (values.Number n)) a b is is' = is ∙ sym is'
  one_ranking schema (Some (values.Text text)) a b is is' = is ∙ sym is'
  one_ranking schema (Some (values.List list)) a b is is' = is ∙ sym is'

  one_refused_ranking : (schema : Schema) (value : Option OptionValue) (a b : Refused) → RefusesRankingIn schema value a → RefusesRankingIn schema value b → a ≡ b
  one_refused_ranking schema (Some (values.Call name text)) a b (f, its, is) (g, its', is') = is ∙ ap bad_expr (one_expr_fault schema text f g its its') ∙ sym is'
  one_refused_ranking schema value a b refuses refuses' = absurd refuses

  not_refused_ranking : (schema : Schema) (value : Option OptionValue) (ranking : Ranking) (refusal : Refused) → IsRankingIn schema value ranking → RefusesRankingIn schema value refusal → ⊥
  not_refused_ranking schema (Some (values.Call name text)) ranking refusal (e, its, is) (fault, refuses, says) = no_expr_fault schema text e fault its refuses
  not_refused_ranking schema value ranking refusal ranks refuses = refuses

  one_refused_select_text : (conf : IndexConf) (select : Select) (a b : Refused) → RefusesText conf (match_text select.conds) a ⊎ RefusesWeights conf select a → RefusesText conf (match_text select.conds) b ⊎ RefusesWeights conf select b → a ≡ b
  one_refused_select_text conf select a b (inl text) (inl text') = one_refused_text conf (match_text select.conds) a b text text'
  one_refused_select_text conf select a b (inl text) (inr ((query, reads), refuses)) = absurd (not_refused_text conf (match_text select.conds) query a reads.0 reads.1 text)
  one_refused_select_text conf select a b (inr ((query, reads), refuses)) (inl text) = absurd (not_refused_text conf (match_text select.conds) query b reads.0 reads.1 text)
  one_refused_select_text conf select a b (inr (reads, refuses)) (inr (reads', refuses')) = one_refused_ranking conf.schema (last_value select.options ranker_option) a b refuses refuses'

  -- ---- a SELECT
  pub one_selection : (conf : IndexConf) (select : Select) (a b : Selection) → Selects conf select a → Selects conf select b → a ≡ b
  one_selection conf select a b one two =
      let query : one.query ≡ two.query = one_read (setting conf) (match_text select.conds) one.query two.query one.text one.reads two.reads in
      let ranking : one.ranking ≡ two.ranking = one_ranking conf.schema (last_value select.options ranker_option) one.ranking two.ranking one.ranks two.ranks in
      one.means
      ∙ ap (λ (q : Query). selection_of conf select (names_of conf.schema select) q one.ranking) query
      ∙ ap (selection_of conf select (names_of conf.schema select) two.query) ranking
      ∙ sym two.means

  pub one_selection_fault : (conf : IndexConf) (select : Select) (a b : Refused) → RefusesSelection conf select a → RefusesSelection conf select b → a ≡ b
  one_selection_fault conf select a b (inl (fault, is, says)) (inl (fault', is', says')) =
      says ∙ ap (λ (f : Fault). f.refusal) (one_value (select_fault conf.schema select) fault fault' is is') ∙ sym says'
  one_selection_fault conf select a b (inl (fault, is, says)) (inr (good, text)) = absurd (not_both (select_fault conf.schema select) fault good is)
  one_selection_fault conf select a b (inr (good, text)) (inl (fault, is, says)) = absurd (not_both (select_fault conf.schema select) fault good is)
  one_selection_fault conf select a b (inr (good, text)) (inr (good', text')) = one_refused_select_text conf select a b text text'

  pub not_refused_selection : (conf : IndexConf) (select : Select) (selection : Selection) (refusal : Refused) → Selects conf select selection → RefusesSelection conf select refusal → ⊥
  not_refused_selection conf select selection refusal selects (inl (fault, is, says)) = not_both (select_fault conf.schema select) fault selects.good is
  not_refused_selection conf select selection refusal selects (inr (good, inl text)) = not_refused_text conf (match_text select.conds) selects.query refusal selects.text selects.reads text
  not_refused_selection conf select selection refusal selects (inr (good, inr (reads, refuses))) = not_refused_ranking conf.schema (last_value select.options ranker_option) selects.ranking refusal selects.ranks refuses
