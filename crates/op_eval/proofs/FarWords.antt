-- Two keywords of which NEAR makes nothing, by their terms.
use Rattle.std.proofs.Common.{◌≡◌, ℕ, List, [], ◌∷◌, map, refl, sym, ◌∙◌, ap, subst, append-nil}
use Rattle.doc_types.specs.declared.documents.DocRow.{DocRow}
use Rattle.query_tree.specs.declared.key.Key.{Key}
use Rattle.query_tree.specs.declared.query.Node.{Node}
use Rattle.query_tree.specs.declared.query.Node.TheVariants as nodes
use Rattle.query_tree.specs.TreeKeys.{node_keys}
use Rattle.query_tree.proofs.NodeKeys.{keys_word}
use Rattle.occ_lists.specs.declared.occ.Occ.{Occ}
use Rattle.occ_lists.specs.declared.term.Term.{Term}
use Rattle.occ_lists.specs.Joined.{near}
use Rattle.occ_lists.specs.Places.{at_place}
use Rattle.word_rows.specs.Keywords.{Spans}
use Rattle.word_rows.specs.Terms.{AreTermsOf}
use Rattle.op_eval.specs.Finding.{Found, node_finds}
use Rattle.op_eval.specs.steps.Worded.{term_places, worded}
use Rattle.op_eval.proofs.TermPlaces.{node_worded}

module _ (row : DocRow) (number : List ℕ → ℕ) (spans : Spans) where
  -- it has one term, and an occurrence at each of its places
  one_term : (key : Key) (terms : List Term) (found : Found) → AreTermsOf row number (key ∷ []) terms → worded spans terms ≡ found → (term : Term) × (terms ≡ term ∷ []) × (found.occurrences ≡ map at_place (term_places spans term))
  one_term key [] found z is = absurd z
  one_term key (term ∷ other ∷ terms) found z is = absurd z.1
  one_term key (term ∷ []) found z is = (term, refl, ap (λ (f : Found). f.occurrences) (sym is) ∙ ap (map at_place) (append-nil (term_places spans term)))

  word_term : (node : Node) (terms : List Term) → (key : Key) × (node ≡ nodes.Word key) → AreTermsOf row number (node_keys node) terms → (term : Term) × (terms ≡ term ∷ []) × ((node_finds row number node spans).occurrences ≡ map at_place (term_places spans term))
  word_term node terms word z =
      one_term word.0 terms (node_finds row number node spans)
      (subst (λ (keys : List Key). AreTermsOf row number keys terms) (ap node_keys word.1 ∙ keys_word word.0) z)
      (node_worded row number spans node word.0 terms word.1 z)

  pub words_apart : (n : ℕ) (a b : Node) (left right : List Term) → (key : Key) × (a ≡ nodes.Word key) → (key : Key) × (b ≡ nodes.Word key)
      → ((x y : Term) → left ≡ x ∷ [] → right ≡ y ∷ [] → near n (map at_place (term_places spans x)) (map at_place (term_places spans y)) ≡ [])
      → AreTermsOf row number (node_keys a) left → AreTermsOf row number (node_keys b) right
      → near n (node_finds row number a spans).occurrences (node_finds row number b spans).occurrences ≡ []
  words_apart n a b left right first second far za zb =
      let x = word_term a left first za in
      let y = word_term b right second zb in
      ap (λ (occs : List Occ). near n occs (node_finds row number b spans).occurrences) x.2
      ∙ ap (near n (map at_place (term_places spans x.0))) y.2
      ∙ far x.0 y.0 x.1 y.1
