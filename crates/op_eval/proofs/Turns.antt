-- One turn of a loop over the items of an AND, and over the spans of zones.
use Rattle.std.proofs.Common.{◌≡◌, ℕ, ◌+◌, ◌<◌, ◌≤◌, Bool, true, false, cond, List, [], ◌∷◌, ◌++◌, length, get_or, map, take, drop, refl, sym, ◌∙◌, ap, subst}
use mathlib.Core.Bool.{beq}
use Rattle.std.specs.Prelude.{◌||◌, ◌&&◌, not, All}
use Rattle.std.specs.List.{filter, list_all, list_any}
use Rattle.std.proofs.lemmas.Bool.{and_from, or_left, or_right}
use Rattle.std.proofs.lemmas.List.{drop_more, map-append, map_more, take_more, take-append-drop}
use Rattle.std.proofs.lemmas.List.Elements.{filter-append}
use Rattle.std.proofs.lemmas.List.Folds.{list_all-append, list_any-append}
use Rattle.doc_types.specs.declared.documents.DocRow.{DocRow}
use Rattle.doc_types.specs.declared.tokens.ZoneSpan.{ZoneSpan}
use Rattle.query_tree.specs.declared.query.Item.{Item}
use Rattle.query_tree.specs.declared.query.Node.{Node}
use Rattle.query_tree.specs.TreeKeys.{node_keys}
use Rattle.occ_lists.specs.declared.term.Term.{Term}
use Rattle.op_eval.specs.declared.finding.Finding.{Finding}
use Rattle.word_rows.specs.declared.marks.RowMarks.{RowMarks}
use Rattle.word_rows.specs.Keywords.{Spans, is_among}
use Rattle.op_eval.specs.Finding.{Found, Part, all_of, any_of, node_finds, passes}
use Rattle.word_rows.specs.RowMarks.{Knows}
use Rattle.op_eval.specs.steps.Evaluating.{Finds, founds_in, items_keys, part_finds, part_in}
use Rattle.word_rows.specs.Terms.{AreTermsOf, IsShort, IsTermOf}
use Rattle.op_eval.proofs.Appending.{Passed, finds_both, passed_fails, passed_more}
use Rattle.op_eval.proofs.TermParts.{item_parts}

-- ---- items

passes_alike : (negated matches : Bool) → cond negated (not matches) matches ≡ not (beq matches negated)
passes_alike true true = refl
passes_alike true false = refl
passes_alike false true = refl
passes_alike false false = refl

module _ (row : DocRow) (number : List ℕ → ℕ) (marks : RowMarks) (spans : Spans) (items : List Item) (at : ℕ) (item : Item) (within : at < length items) (is : item ≡ get_or items at item) where
  abbrev parts : List Item → List Part
  parts list = map (part_in row number spans) list

  pub parts_more : parts (take (at + 1) items) ≡ parts (take at items) ++ part_in row number spans item ∷ []
  parts_more = map_more (part_in row number spans) items at item within ∙ ap (λ (i : Item). parts (take at items) ++ part_in row number spans i ∷ []) (sym is)

  pub parts_split : parts items ≡ parts (take at items) ++ part_in row number spans item ∷ parts (drop (at + 1) items)
  parts_split =
      ap parts (sym (take-append-drop at items) ∙ ap (λ (list : List Item). take at items ++ list) (drop_more items at item within ∙ ap (λ (i : Item). i ∷ drop (at + 1) items) (sym is)))
      ∙ map-append (part_in row number spans) (take at items) (item ∷ drop (at + 1) items)

  module _ (rest own later : List Term) (whole : rest ≡ own ++ later) (long : length (node_keys item.node) ≤ length rest → length own ≡ length (node_keys item.node)) where
    -- the terms of the item, and those of the later ones
    pub terms_split : AreTermsOf row number (items_keys (drop at items)) rest → AreTermsOf row number (node_keys item.node) own × AreTermsOf row number (items_keys (drop (at + 1) items)) later
    terms_split z =
        let both = item_parts (IsTermOf row number) items at item rest own later within z whole (subst (λ (i : Item). length (node_keys i.node) ≤ length rest → length own ≡ length (node_keys i.node)) is long) in
        (subst (λ (i : Item). AreTermsOf row number (node_keys i.node) own) (sym is) both.0, both.1)

    abbrev pub Told : (Found → Type 0) → Type 0
    Told P = AreTermsOf row number (node_keys item.node) own → Knows row item.node marks → P (part_finds (part_in row number spans item))

    known : All (λ (i : Item). Knows row i.node marks) items → Knows row item.node marks
    known knows = subst (λ (i : Item). Knows row i.node marks) (sym is) (knows at item within)

    pub turn_passes : (old mid new : Finding) (told : Bool) → All (λ (i : Item). Knows row i.node marks) items → AreTermsOf row number (items_keys (drop at items)) rest × Passed (IsShort number) (parts (take at items)) old mid
        → Told (λ found. Finds (IsShort number) found mid new told) → told ≡ true → AreTermsOf row number (items_keys (drop (at + 1) items)) later × Passed (IsShort number) (parts (take (at + 1) items)) old new
    turn_passes old mid new told knows before call is_true =
        let both = terms_split before.0 in
        (both.1, subst (λ (list : List Part). Passed (IsShort number) list old new) (sym parts_more) (passed_more (parts (take at items)) (part_in row number spans item) old mid new told before.1 (call both.0 (known knows)) is_true))

    pub turn_fails : (old mid new cut : Finding) (told : Bool) → All (λ (i : Item). Knows row i.node marks) items → AreTermsOf row number (items_keys (drop at items)) rest × Passed (IsShort number) (parts (take at items)) old mid
        → Told (λ found. Finds (IsShort number) found mid new told) → told ≡ false → cut.occs.items ≡ take (length old.occs.items) new.occs.items → cut.hits.items ≡ take (length old.hits.items) new.hits.items
        → Finds (IsShort number) (all_of (parts items)) old cut false
    turn_fails old mid new cut told knows before call is_false occs hits =
        subst (λ (list : List Part). Finds (IsShort number) (all_of list) old cut false) (sym parts_split)
        (passed_fails (parts (take at items)) (parts (drop (at + 1) items)) (part_in row number spans item) old mid new cut told before.1 (call (terms_split before.0).0 (known knows)) is_false occs hits)

    -- whether the item passes, by whether its node matches
    told_item : (found : Bool) → All (λ (i : Item). Knows row i.node marks) items → AreTermsOf row number (items_keys (drop at items)) rest
        → (AreTermsOf row number (node_keys item.node) own → Knows row item.node marks → found ≡ (node_finds row number item.node spans).matches) → passes (part_in row number spans item) ≡ not (beq found item.negated)
    told_item found knows before call =
        passes_alike item.negated (node_finds row number item.node spans).matches ∙ ap (λ b. not (beq b item.negated)) (sym (call (terms_split before).0 (known knows)))

    pub told_passes : (found : Bool) → All (λ (i : Item). Knows row i.node marks) items → AreTermsOf row number (items_keys (drop at items)) rest × (list_all passes (parts (take at items)) ≡ true)
        → (AreTermsOf row number (node_keys item.node) own → Knows row item.node marks → found ≡ (node_finds row number item.node spans).matches) → beq found item.negated ≡ false
        → AreTermsOf row number (items_keys (drop (at + 1) items)) later × (list_all passes (parts (take (at + 1) items)) ≡ true)
    told_passes found knows before call differs =
        let here : passes (part_in row number spans item) ≡ true = told_item found knows before.0 call ∙ ap not differs in (
          (terms_split before.0).1,
          ap (list_all passes) parts_more ∙ list_all-append passes (parts (take at items)) (part_in row number spans item ∷ [])
              ∙ and_from (list_all passes (parts (take at items))) (passes (part_in row number spans item) && true) before.1 (and_from (passes (part_in row number spans item)) true here refl),
        )

    pub told_fails : (found : Bool) → All (λ (i : Item). Knows row i.node marks) items → AreTermsOf row number (items_keys (drop at items)) rest × (list_all passes (parts (take at items)) ≡ true)
        → (AreTermsOf row number (node_keys item.node) own → Knows row item.node marks → found ≡ (node_finds row number item.node spans).matches) → beq found item.negated ≡ true
        → false ≡ list_all passes (parts items)
    told_fails found knows before call equals =
        let here : passes (part_in row number spans item) ≡ false = told_item found knows before.0 call ∙ ap not equals in
        sym (ap (list_all passes) parts_split ∙ list_all-append passes (parts (take at items)) (part_in row number spans item ∷ parts (drop (at + 1) items))
        ∙ ap (λ t. t && (passes (part_in row number spans item) && list_all passes (parts (drop (at + 1) items)))) before.1
        ∙ ap (λ t. t && list_all passes (parts (drop (at + 1) items))) here)

-- ---- spans

module _ (row : DocRow) (number : List ℕ → ℕ) (node : Node) (spans : Spans) (zones : List ℕ) where
  founds_split : (xs ys : Spans) → founds_in row number node spans zones (xs ++ ys) ≡ founds_in row number node spans zones xs ++ founds_in row number node spans zones ys
  founds_split xs ys =
      ap (map (λ (span : ℕ × ZoneSpan). node_finds row number node (spans ++ span ∷ []))) (filter-append (λ (span : ℕ × ZoneSpan). is_among zones span.1.zone) xs ys)
      ∙ map-append (λ (span : ℕ × ZoneSpan). node_finds row number node (spans ++ span ∷ [])) (filter (λ (span : ℕ × ZoneSpan). is_among zones span.1.zone) xs) (filter (λ (span : ℕ × ZoneSpan). is_among zones span.1.zone) ys)

  pub founds_more : (all : Spans) (at : ℕ) (span d : ℕ × ZoneSpan) → at < length all → span ≡ get_or all at d
      → founds_in row number node spans zones (take (at + 1) all) ≡ founds_in row number node spans zones (take at all) ++ founds_in row number node spans zones (span ∷ [])
  founds_more all at span d within is =
      ap (founds_in row number node spans zones) (take_more all at d within ∙ ap (λ (s : ℕ × ZoneSpan). take at all ++ s ∷ []) (sym is))
      ∙ founds_split (take at all) (span ∷ [])

  pub turn_found : (all : Spans) (at : ℕ) (span d : ℕ × ZoneSpan) → at < length all → span ≡ get_or all at d → (old mid new : Finding) (some told : Bool)
      → Finds (IsShort number) (any_of (founds_in row number node spans zones (take at all))) old mid some → Finds (IsShort number) (any_of (founds_in row number node spans zones (span ∷ []))) mid new told
      → Finds (IsShort number) (any_of (founds_in row number node spans zones (take (at + 1) all))) old new (some || told)
  turn_found all at span d within is old mid new some told before next =
      subst (λ (founds : List Found). Finds (IsShort number) (any_of founds) old new (some || told)) (sym (founds_more all at span d within is))
      (finds_both (founds_in row number node spans zones (take at all)) (founds_in row number node spans zones (span ∷ [])) old mid new some told before next)

  -- one span within which the node matches
  pub found_at : (all : Spans) (at : ℕ) (span d : ℕ × ZoneSpan) → at < length all → span ≡ get_or all at d → (any_of (founds_in row number node spans zones (span ∷ []))).matches ≡ true
      → true ≡ (any_of (founds_in row number node spans zones all)).matches
  found_at all at span d within is here =
      let matching = λ (founds : List Found). list_any (λ (f : Found). f.matches) founds in
      let before = founds_in row number node spans zones (take at all) in
      let later = founds_in row number node spans zones (drop (at + 1) all) in
      let this = founds_in row number node spans zones (span ∷ []) in
      sym (ap (λ (list : Spans). matching (founds_in row number node spans zones list)) (sym (take-append-drop (at + 1) all))
      ∙ ap matching (founds_split (take (at + 1) all) (drop (at + 1) all) ∙ ap (λ (founds : List Found). founds ++ later) (founds_more all at span d within is))
      ∙ list_any-append (λ (f : Found). f.matches) (before ++ this) later
      ∙ or_left (matching (before ++ this)) (matching later)
      (list_any-append (λ (f : Found). f.matches) before this ∙ or_right (matching before) (matching this) here))
