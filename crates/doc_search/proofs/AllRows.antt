-- A question without a word and without conditions, which takes each document that lives.
use Rattle.std.proofs.Common.{◌≡◌, ◌+◌, ◌<◌, ◌≤◌, ◌++◌, ◌∷◌, [], ℕ, List, true, false, cond, Option, None, Some, length, slice_get, refl, sym, ap, subst, arith}
use Rattle.std.specs.List.{filter, list_any}
use Rattle.std.specs.Prelude.{◌==◌}
use Rattle.doc_types.specs.Snapshots.{LayerValue, living}
use Rattle.doc_types.specs.declared.documents.DocRow.{DocRow}
use Rattle.query_tree.specs.TreeKeys.{query_keys}
use Rattle.query_tree.specs.declared.query.Node.{Node}
use Rattle.op_eval.specs.Finding.{Found}
use Rattle.op_eval.specs.Matching.{matches}
use Rattle.op_eval.specs.Streams.{Stream, ahead}
use Rattle.op_eval.specs.steps.Streaming.{is_matching}
use Rattle.op_eval.proofs.NextMatches.{dead_row, none_finds}
use Rattle.op_eval.proofs.RowsAhead.{end_ahead}
use Rattle.row_select.specs.Filters.{hold_unweighed}
use Rattle.row_select.specs.declared.row.Row.{Row}
use Rattle.doc_search.specs.declared.question.Question.{Question}
use Rattle.doc_search.specs.steps.Gathering.{Gathers, IsAmid, IsAskedOfDocs, IsOnWay, IsWeighed, TakesAll, unweighed}
use Rattle.doc_search.proofs.Gathering.{on_way_first, on_way_last, on_way_next}
use Rattle.doc_search.proofs.Weighing.{one_without_keywords, weighs_one}

no_keys : (root : Option Node) (keywords : ℕ) → root ≡ None → query_keys (record { root = root; keywords = keywords }) ≡ []
no_keys None keywords is = refl
no_keys (Some node) keywords is = cc

module _ (question : Question) (all : TakesAll question) where
  pub fits : (doc : DocRow) → matches question.query doc ≡ true
  fits doc = ap (λ (found : Found). found.matches) (none_finds question.query doc all.root)

  pub passes : (doc : DocRow) → hold_unweighed question.filters (unweighed doc) ≡ true
  passes doc = ap (λ filters. hold_unweighed filters (unweighed doc)) all.none

  pub weighs : (docs : List DocRow) (doc : DocRow) → IsAskedOfDocs question docs → IsWeighed question doc (Some (Some 1))
  weighs docs doc asked =
      let none : question.query.keywords ≡ 0 = (let some = asked.asked.positions.count in let no = ap (λ keys. length keys) (no_keys question.query.root question.query.keywords all.root) in omega (arith, some, no)) in
      weighs_one question question.query doc (one_without_keywords question none) refl (fits doc)

-- the question before a row of the layer
abbrev pub before_row : Question → LayerValue → ℕ → Stream
before_row question layer row = record { query = question.query; rows = layer.rows; dead = layer.dead; at = row }

module _ {S : Type 0} (Took : S → List Row → S → Type 0) (question : Question) (layer : LayerValue) (start : S) where
  abbrev pub IsBefore : ℕ → S → Type 0
  IsBefore row here = IsOnWay Took question layer start (before_row question layer row) here

  pub at_first : IsBefore 0 start
  at_first = on_way_first Took question layer layer.rows layer.dead (before_row question layer 0) start refl refl refl

  -- a dead row
  pub past_dead : (row : ℕ) (here : S) → row < length layer.rows → list_any (λ d. d == row) layer.dead ≡ true → IsBefore row here → IsBefore (row + 1) here
  past_dead row here within dead way =
      let past : ahead (before_row question layer row) ≡ ahead (before_row question layer (row + 1)) = dead_row question.query layer.rows layer.dead row within dead in
      record {
        query = way.query;
        docs = way.docs;
        dead = way.dead;
        amid = λ first before so. subst (λ numbers. IsAmid Took question first layer.rows (filter (matches question.query) (living layer)) before numbers here) past (way.amid first before so);
      }

  -- and one that lives
  pub past_living : (row : ℕ) (here there : S) → TakesAll question → row < length layer.rows → list_any (λ d. d == row) layer.dead ≡ false
      → ((first : S) (before : List DocRow) (doc : DocRow) → slice_get layer.rows row ≡ Some doc → Gathers Took question first before here → Gathers Took question first (before ++ doc ∷ []) there)
      → IsBefore row here → IsBefore (row + 1) there
  past_living row here there all within living_row takes way =
      on_way_next Took question layer layer.rows row (before_row question layer row) (before_row question layer row) (before_row question layer (row + 1)) start here there refl
      (record { stands = refl; on = omega arith; within = within; living = living_row; kept = refl }) refl way
      (λ first gathered doc at so.
      subst (λ found. Gathers Took question first (gathered ++ found) there) (sym (ap (λ b. cond b (doc ∷ []) []) (fits question all doc))) (takes first gathered doc at so))

  pub at_last : (row : ℕ) (here : S) → length layer.rows ≤ row → IsBefore row here → (first : S) (before : List DocRow) → Gathers Took question first before start → Gathers Took question first (before ++ filter (matches question.query) (living layer)) here
  at_last row here past way =
      on_way_last Took question layer (before_row question layer row) start here (end_ahead (is_matching question.query layer.dead) layer.rows row past) way
