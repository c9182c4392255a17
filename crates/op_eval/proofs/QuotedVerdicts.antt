-- What is told of keywords that are quoted together.
use Rattle.std.proofs.Common.{◌≡◌, refl, sym, ap, ◌∙◌, subst, ℕ, Bool, true, false, cond, List, [], ◌∷◌, length, ◌⊎◌, inl, inr}
use Rattle.std.specs.Prelude.{◌&&◌, if◌then◌else◌, count_by}
use Rattle.std.specs.List.{list_all}
use Rattle.std.proofs.lemmas.Bool.{cases_Bool, and_cases}
use Rattle.doc_types.specs.declared.documents.DocRow.{DocRow}
use Rattle.query_tree.specs.declared.key.Key.{Key}
use Rattle.query_tree.specs.declared.key.How.{How}
use Rattle.query_tree.specs.declared.key.How.TheVariants as hows
use Rattle.occ_lists.specs.declared.term.Term.{Term}
use Rattle.word_rows.specs.Keywords.{Spans}
use Rattle.op_eval.specs.Finding.{Found, is_some, is_enough, nothing}
use Rattle.op_eval.specs.declared.verdict.Verdict.{Verdict}
use Rattle.op_eval.specs.declared.verdict.Verdict.TheVariants as verdicts
use Rattle.word_rows.specs.Terms.{AreSeenIn}
use Rattle.op_eval.specs.steps.Verdicts.{AreApart, Tells, stands_in, quoted_matches}
use Rattle.op_eval.proofs.AbsentWords.{HasAbsent, absent_seen, no_runs, no_windows}
use Rattle.op_eval.proofs.Standing.{none_there}
use Rattle.op_eval.proofs.Telling.{tells_as}

-- a choice matches where it is made
pub guard_matches : (t : Bool) (found : Found) → found.matches ≡ true → (cond t found nothing).matches ≡ t
guard_matches true found e = e
guard_matches false found e = refl

-- they are to stand in one piece of a text
abbrev pub IsClose : How → Type 0
IsClose how = (how ≡ hows.Phrase) ⊎ ((n : ℕ) × (how ≡ hows.Within n))

-- so many of them are to stand somewhere
abbrev pub IsLoose : How → Type 0
IsLoose how = ((k : ℕ) × (how ≡ hows.AtLeast k)) ⊎ ((digits : ℕ) × (decimals : ℕ) × (how ≡ hows.Share digits decimals))

-- nothing is listed, or a word isn't there
abbrev pub IsLacking : DocRow → List Key → Type 0
IsLacking row keys = (keys ≡ []) ⊎ HasAbsent row keys

module _ (row : DocRow) (number : List ℕ → ℕ) where
  none_seen : (keys : List Key) (terms : List Term) → AreSeenIn row keys terms → terms ≡ [] → keys ≡ []
  none_seen [] terms seen e = refl
  none_seen (key ∷ keys) terms seen e = absurd (subst (λ (ts : List Term). AreSeenIn row (key ∷ keys) ts) e seen)

  lacking : (keys : List Key) (terms : List Term) → AreSeenIn row keys terms → (is_some terms && list_all (λ (term : Term). term.present) terms) ≡ false → IsLacking row keys
  lacking keys terms seen e = elim (and_cases (is_some terms) (list_all (λ (term : Term). term.present) terms) e) [
    | inl none ↦ inl (none_seen keys terms seen (none_there terms none))
    | inr absent ↦ inr (absent_seen row keys terms seen absent)
  ]

  pub close_none : (keys : List Key) (how : How) (spans : Spans) → IsClose how → AreApart number keys → IsLacking row keys → quoted_matches row number keys how spans ≡ false
  close_none keys how spans (inl e) apart (inl none) = ap (λ (h : How). quoted_matches row number keys h spans) e ∙ ap (λ (ks : List Key). quoted_matches row number ks hows.Phrase spans) none
  close_none keys how spans (inl e) apart (inr absent) = ap (λ (h : How). quoted_matches row number keys h spans) e ∙ ap is_some (no_runs row spans keys absent)
  close_none keys how spans (inr (n, e)) apart (inl none) = ap (λ (h : How). quoted_matches row number keys h spans) e ∙ ap (λ (ks : List Key). quoted_matches row number ks (hows.Within n) spans) none
  close_none keys how spans (inr (n, e)) apart (inr absent) = ap (λ (h : How). quoted_matches row number keys h spans) e ∙ ap is_some (no_windows row number spans n keys apart absent)

  pub close_told : (keys : List Key) (terms : List Term) (how : How) (spanned : Bool) (v : Verdict) → IsClose how → AreApart number keys → AreSeenIn row keys terms
      → v ≡ (if is_some terms && list_all (λ (term : Term). term.present) terms then verdicts.Open else verdicts.No) → Tells spanned (quoted_matches row number keys how) v
  close_told keys terms how spanned v close apart seen is =
      let test = is_some terms && list_all (λ (term : Term). term.present) terms in
      elim (cases_Bool test) [
        | inl may ↦ subst (Tells spanned (quoted_matches row number keys how)) (sym (is ∙ ap (λ t. if t then verdicts.Open else verdicts.No) may)) tt
        | inr not ↦ subst (Tells spanned (quoted_matches row number keys how)) (sym (is ∙ ap (λ t. if t then verdicts.Open else verdicts.No) not)) (λ spans concerns. close_none keys how spans close apart (lacking keys terms seen not))
      ]

  pub loose_is : (keys : List Key) (how : How) (spans : Spans) → IsLoose how → quoted_matches row number keys how spans ≡ is_enough how (length keys) (count_by (stands_in row spans) keys)
  loose_is keys how spans (inl (k, e)) =
      ap (λ (h : How). quoted_matches row number keys h spans) e ∙ guard_matches (is_enough (hows.AtLeast k) (length keys) (count_by (stands_in row spans) keys)) _ refl
      ∙ ap (λ (h : How). is_enough h (length keys) (count_by (stands_in row spans) keys)) (sym e)
  loose_is keys how spans (inr (digits, decimals, e)) =
      ap (λ (h : How). quoted_matches row number keys h spans) e ∙ guard_matches (is_enough (hows.Share digits decimals) (length keys) (count_by (stands_in row spans) keys)) _ refl
      ∙ ap (λ (h : How). is_enough h (length keys) (count_by (stands_in row spans) keys)) (sym e)

  pub loose_told : (keys : List Key) (how : How) (spanned : Bool) (v : Verdict) → IsLoose how → Tells spanned (λ spans. is_enough how (length keys) (count_by (stands_in row spans) keys)) v → Tells spanned (quoted_matches row number keys how) v
  loose_told keys how spanned v loose told =
      tells_as spanned (λ spans. is_enough how (length keys) (count_by (stands_in row spans) keys)) (quoted_matches row number keys how) v (λ spans concerns. loose_is keys how spans loose) told
