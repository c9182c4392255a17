-- Words of a dictionary that ascend: each is a word, they ascend in pairs, and none is another.
use Rattle.std.proofs.Common.{◌≡◌, ℕ, List, [], ◌∷◌, sym, ap, ◌∙◌, arith}
use Rattle.std.specs.List.{AllByRecursion, AllPairs}
use Rattle.std.specs.Cmp.Lexicographic.{slice_cmp}
use Rattle.std.specs.Ordering.{is_eq, nat_cmp, ordering_reverse}
use Rattle.std.specs.declared.cmp.Ordering.TheVariants.{Less}
use Rattle.std.proofs.lemmas.Cmp.{nat_list_cmp_total}
use Rattle.std.proofs.lemmas.Map.Text.{is_eq-slice_cmp}
use Rattle.std.proofs.lemmas.List.Elements.{All-from_recursion}
use Rattle.std.proofs.lemmas.List.Kept.{AllPairs-cons}
use Rattle.doc_types.specs.Documents.{IsWord}
use Rattle.item_lists.specs.Items.{AllFit}
use Rattle.chunk_damage.specs.WordOrder.{IsNextWord, and_word}
use Rattle.image_rows.specs.steps.ContentsOf.{AllDiffer, Differs}

abbrev pub IsAbove : List ℕ → List ℕ → Type 0
IsAbove word later = slice_cmp nat_cmp word later ≡ Less

-- words that ascend behind a word are all above it
above : (least before : List ℕ) (ws : List (List ℕ)) → IsAbove least before → AllFit and_word IsNextWord before ws → AllByRecursion (IsAbove least) ws
above least before [] low fit = tt
above least before (w ∷ ws) low fit = let its : IsAbove least w = nat_list_cmp_total.trans least before w low fit.0.above in (its, above least w ws its fit.1)

all_above : (before : List ℕ) (ws : List (List ℕ)) → AllFit and_word IsNextWord before ws → AllByRecursion (IsAbove before) ws
all_above before [] fit = tt
all_above before (w ∷ ws) fit = (fit.0.above, above before w ws fit.0.above fit.1)

pub ascend : (before : List ℕ) (ws : List (List ℕ)) → AllFit and_word IsNextWord before ws → AllPairs IsAbove ws
ascend before [] fit = λ i j d low high. absurd (omega arith)
ascend before (w ∷ ws) fit = AllPairs-cons IsAbove w ws (All-from_recursion (IsAbove w) ws (all_above w ws fit.1)) (ascend w ws fit.1)

differ : (word : List ℕ) (ws : List (List ℕ)) → AllByRecursion (IsAbove word) ws → Differs word ws
differ word [] above = tt
differ word (w ∷ ws) above =
    ((sym (is_eq-slice_cmp word w) ∙ ap is_eq above.0, sym (is_eq-slice_cmp w word) ∙ ap is_eq (nat_list_cmp_total.antisymm w word ∙ ap ordering_reverse above.0)), differ word ws above.1)

pub apart : (before : List ℕ) (ws : List (List ℕ)) → AllFit and_word IsNextWord before ws → AllDiffer ws
apart before [] fit = tt
apart before (w ∷ ws) fit = (differ w ws (all_above w ws fit.1), apart w ws fit.1)

pub are_words : (before : List ℕ) (ws : List (List ℕ)) → AllFit and_word IsNextWord before ws → AllByRecursion IsWord ws
are_words before [] fit = tt
are_words before (w ∷ ws) fit = (fit.0.is, are_words w ws fit.1)
