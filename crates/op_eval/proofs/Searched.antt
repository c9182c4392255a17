-- A search's keywords and terms, as those of its node.
use Rattle.std.proofs.Common.{◌≡◌, Bool, false, List, [], ◌∷◌, ◌++◌, Bor, Some, map, Result, Ok, Err, refl, sym, ap, subst, ◌∙◌}
use Rattle.std.specs.Prelude.{IfOk, OnOk}
use Rattle.std.specs.List.{list_any}
use Rattle.doc_types.specs.declared.documents.DocRow.{DocRow}
use Rattle.query_tree.specs.declared.key.Key.{Key}
use Rattle.query_tree.specs.declared.query.Node.{Node}
use Rattle.query_tree.specs.TreeKeys.{node_keys}
use Rattle.occ_lists.specs.declared.term.Term.{Term}
use Rattle.occ_lists.specs.OccLists.{SameMembers}
use Rattle.op_eval.specs.declared.finding.Finding.{Finding}
use Rattle.word_rows.specs.declared.marks.RowMarks.{RowMarks}
use Rattle.word_rows.specs.Keywords.{Spans}
use Rattle.op_eval.specs.Finding.{Found, node_finds, nothing}
use Rattle.word_rows.specs.RowMarks.{Knows}
use Rattle.op_eval.specs.steps.Evaluating.{Appends, Finds}
use Rattle.op_eval.specs.steps.Searching.{node_found}
use Rattle.word_rows.specs.Slots.{number_among}
use Rattle.word_rows.specs.Terms.{AreSeenIn, AreTermsOf}
use Rattle.op_eval.specs.steps.Verdicts.{AreApart}
use Rattle.op_eval.proofs.SoundFindings.{sound}
use Rattle.op_eval.proofs.WordNumbers.{numbers_apart}

-- the numbers of a node's words tell them apart
pub node_apart : (node : Node) → AreApart (number_among (node_keys node)) (node_keys node)
node_apart node = numbers_apart (record { root = Some node; keywords = 0 })

pub words_are : (keys : List (Bor Key)) → map (λ (key : Bor Key). key.now.word) keys ≡ map (λ (key : Key). key.word) (map (λ (key : Bor Key). key.now) keys)
words_are [] = refl
words_are (key ∷ keys) = ap (λ words. key.now.word ∷ words) (words_are keys)

pub seen_as : (row : DocRow) (keys others : List Key) (items terms : List Term) → keys ≡ others → terms ≡ items → AreSeenIn row keys items → AreSeenIn row others terms
seen_as row keys others items terms same are seen = subst (λ ks. AreSeenIn row ks terms) same (subst (AreSeenIn row keys) (sym are) seen)

-- ---- what is found
pub appended : {X : Type 0} (old new found : List X) → Appends old new found → old ≡ [] → SameMembers new found
appended old new found appends none = λ passes. ap (list_any passes) (appends.is ∙ ap (λ xs. xs ++ appends.added) none) ∙ appends.same passes

pub nothing_found : (node : Node) (row : DocRow) → (node_found node row).matches ≡ false → node_found node row ≡ nothing
nothing_found node row fails = sound row (number_among (node_keys node)) node [] fails

module _ (row : DocRow) (node other : Node) (same : other ≡ node) where
  pub terms_as : (items terms : List Term) → terms ≡ items → AreTermsOf row (number_among (node_keys node)) (node_keys node) items → AreTermsOf row (number_among (node_keys node)) (node_keys other) terms
  terms_as items terms are of = subst (λ n. AreTermsOf row (number_among (node_keys node)) (node_keys n) terms) (sym same) (subst (AreTermsOf row (number_among (node_keys node)) (node_keys node)) (sym are) of)

  pub knows_as : (marks : RowMarks) → Knows row node marks → Knows row other marks
  knows_as marks knows = subst (λ n. Knows row n marks) (sym same) knows

  pub finds_as : {E : Type 0} (short : Type 0) (spans : Spans) (old new : Finding) (result : Result Bool E) → spans ≡ [] → IfOk result (Finds short (node_finds row (number_among (node_keys node)) other spans) old new) → IfOk result (Finds short (node_found node row) old new)
  finds_as short spans old new result none finds =
      subst (λ n. IfOk result (Finds short (node_finds row (number_among (node_keys node)) n []) old new)) same
      (subst (λ s. IfOk result (Finds short (node_finds row (number_among (node_keys node)) other s) old new)) none finds)

-- what was found, in lists that were empty
module _ {E : Type 0} (short : Type 0) (found : Found) (old new : Finding) where
  pub told_is : (result : Result Bool E) → IfOk result (Finds short found old new) → IfOk result (λ told. told ≡ found.matches)
  told_is (Ok told) finds = finds.matches
  told_is (Err end) finds = tt

  pub occs_are : (result : Result Bool E) → IfOk result (Finds short found old new) → old.occs.items ≡ [] → OnOk result (SameMembers new.occs.items found.occurrences)
  occs_are (Ok told) finds none = appended old.occs.items new.occs.items found.occurrences finds.occurrences none
  occs_are (Err end) finds none = tt

  pub hits_are : (result : Result Bool E) → short → IfOk result (Finds short found old new) → old.hits.items ≡ [] → OnOk result (SameMembers new.hits.items found.hits)
  hits_are (Ok told) its finds none = appended old.hits.items new.hits.items found.hits (finds.hits its) none
  hits_are (Err end) its finds none = tt
