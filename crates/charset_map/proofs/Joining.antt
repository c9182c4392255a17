-- Adding spans one by one to a table.
use Rattle.std.proofs.Common.{◌≡◌, ℕ, suc, ◌+◌, ◌<◌, ◌≤◌, List, [], ◌∷◌, ◌++◌, length, map, take, take_all, drop, get_or, refl, sym, ◌∙◌, ap, subst, arith}
use Rattle.std.specs.Prelude.{Contains, IsPermutation}
use Rattle.std.specs.Option.{option_or}
use Rattle.std.proofs.Math.Seq.{take-suc}
use Rattle.std.proofs.lemmas.List.{map-append, take-append-drop}
use Rattle.std.proofs.lemmas.List.Elements.{Contains-append_left}
use Rattle.charset_map.specs.declared.gathering.Written.{Written}
use Rattle.charset_map.specs.declared.span.Span.{Span}
use Rattle.charset_map.specs.Spans.{number_in, number_of}
use Rattle.charset_map.specs.steps.Gathering.{NoneDiffer, SomeDiffer, span_in}
use Rattle.charset_map.specs.steps.SpanLists.{Differ, SameWhereBoth}
use Rattle.charset_map.proofs.Differing.{none_differ_more, none_differ_nil, none_differ_sorted, number_of_more, some_differ_more, some_differ_sorted, some_differ_within, values_sorted}

-- the table has the spans of the first so many entries
pub record HasJoined (list : List Written) (count : ℕ) (table : List Span) : Type 0 where
  pub none : NoneDiffer (map span_in (take count list))
  pub values : (n : ℕ) → number_of table n ≡ number_of (map span_in (take count list)) n

pub has_joined_none : (list : List Written) → HasJoined list 0 []
has_joined_none list = record { none = none_differ_nil; values = λ n. refl }

-- the spans of one more entry
pub one_more : (list : List Written) (at : ℕ) (d : Written) → at < length list → map span_in (take (at + 1) list) ≡ map span_in (take at list) ++ (get_or list at d).span ∷ []
one_more list at d within =
    let next : at + 1 ≡ suc at = omega arith in
    ap (λ (n : ℕ). map span_in (take n list)) next
    ∙ ap (map span_in) (take-suc list at d within)
    ∙ map-append span_in (take at list) (get_or list at d ∷ [])

pub has_joined_more : (list : List Written) (at : ℕ) (d : Written) (old new : List Span) → at < length list → HasJoined list at old → SameWhereBoth (number_of old) (number_in (get_or list at d).span) → ((n : ℕ) → number_of new n ≡ option_or (number_of old n) (number_in (get_or list at d).span n)) → HasJoined list (at + 1) new
has_joined_more list at d old new within has same adds =
    let spans = map span_in (take at list) in
    let span = (get_or list at d).span in
    let more : map span_in (take (at + 1) list) ≡ spans ++ span ∷ [] = one_more list at d within in
    record {
      none = subst NoneDiffer (sym more) (none_differ_more spans span has.none (λ n v w gives gets. same n v w (has.values n ∙ gives) gets));
      values = λ n.
          adds n
          ∙ ap (λ o. option_or o (number_in span n)) (has.values n)
          ∙ sym (number_of_more spans span n)
          ∙ ap (λ (ss : List Span). number_of ss n) (sym more);
    }

-- the first entries differ, and so all do
pub joined_differ : (given sorted : List Written) (at : ℕ) (d : Written) (old : List Span) → IsPermutation given sorted → at < length sorted → HasJoined sorted at old → Differ (number_of old) (number_in (get_or sorted at d).span) → SomeDiffer (map span_in given)
joined_differ given sorted at d old order within has differ =
    let spans = map span_in (take at sorted) in
    let span = (get_or sorted at d).span in
    let two : SomeDiffer (spans ++ span ∷ []) = some_differ_more spans span (record {
      number = differ.number;
      within = differ.within;
      first = differ.first;
      by_first = sym (has.values differ.number) ∙ differ.by_first;
      second = differ.second;
      by_second = differ.by_second;
      differ = differ.differ;
    }) in
    let front : SomeDiffer (map span_in (take (at + 1) sorted)) = subst SomeDiffer (sym (one_more sorted at d within)) two in
    let whole : map span_in (take (at + 1) sorted) ++ map span_in (drop (at + 1) sorted) ≡ map span_in sorted =
    sym (map-append span_in (take (at + 1) sorted) (drop (at + 1) sorted)) ∙ ap (map span_in) (take-append-drop (at + 1) sorted) in
    some_differ_sorted given sorted order
    (some_differ_within (map span_in (take (at + 1) sorted)) (map span_in sorted)
    (λ s has. subst (λ (ss : List Span). Contains ss s) whole (Contains-append_left (map span_in (take (at + 1) sorted)) (map span_in (drop (at + 1) sorted)) s has))
    front)

pub joined_all : (given sorted : List Written) (count : ℕ) (table : List Span) → IsPermutation given sorted → length sorted ≤ count → HasJoined sorted count table → NoneDiffer (map span_in given) × ((n : ℕ) → number_of table n ≡ number_of (map span_in given) n)
joined_all given sorted count table order all has =
    let whole : take count sorted ≡ sorted = take_all count sorted all in
    let none : NoneDiffer (map span_in sorted) = subst (λ (ws : List Written). NoneDiffer (map span_in ws)) whole has.none in (
      none_differ_sorted given sorted order none,
      λ n. has.values n ∙ ap (λ (ws : List Written). number_of (map span_in ws) n) whole ∙ values_sorted given sorted order none n,
    )

-- the first entry that differs from one before it is from one place on and before another
pub record HasClashWithin (list : List Written) (low high : ℕ) : Type 0 where
  pub order : low < high
  pub within : high ≤ length list
  pub none : NoneDiffer (map span_in (take low list))
  pub some : SomeDiffer (map span_in (take high list))

pub has_clash : (list : List Written) → SomeDiffer (map span_in list) → HasClashWithin list 0 (length list)
has_clash list two = record {
  order = has_any list two;
  within = omega arith;
  none = none_differ_nil;
  some = subst (λ (ws : List Written). SomeDiffer (map span_in ws)) (sym (take_all (length list) list (omega arith))) two;
} where
  has_any : (list : List Written) → SomeDiffer (map span_in list) → 0 < length list
  has_any [] two = absurd (omega (arith, two.has_one.1))
  has_any (first ∷ list) two = omega arith

-- the entries before the middle agree, or they don't
pub clash_later : (list front : List Written) (low middle high : ℕ) → HasClashWithin list low high → middle < high → front ≡ take middle list → NoneDiffer (map span_in front) → HasClashWithin list middle high
clash_later list front low middle high has before is none = record {
  order = before;
  within = has.within;
  none = subst (λ (ws : List Written). NoneDiffer (map span_in ws)) is none;
  some = has.some;
}

pub clash_sooner : (list front : List Written) (low middle high : ℕ) → HasClashWithin list low high → low < middle → middle < high → front ≡ take middle list → SomeDiffer (map span_in front) → HasClashWithin list low middle
clash_sooner list front low middle high has after before is some = record {
  order = after;
  within = omega (arith, has.within);
  none = has.none;
  some = subst (λ (ws : List Written). SomeDiffer (map span_in ws)) is some;
}
