-- What a scan makes of limits, sections, ANDs and groups.
use Rattle.std.proofs.Common.{◌≡◌, ℕ, zero, suc, length, arith, Bool, true, false, List, [], ◌∷◌, ◌++◌, Option, Some, None, ◌⊎◌, inl, inr, refl, sym, ◌∙◌, ap, subst, append_assoc}
use Rattle.std.specs.Prelude.{not, ◌||◌, ◌≢◌, Contains}
use Rattle.std.proofs.Math.Bool.{or_assoc, or-false}
use Rattle.std.proofs.lemmas.List.Folds.{list_any-append}
use Rattle.std.proofs.lemmas.List.Elements.{Contains-append_cases}
use Rattle.query_marks.specs.declared.mark.Mark.{Mark}
use Rattle.query_marks.specs.declared.mark.Sign.TheVariants as signs
use Rattle.token_grammar.specs.Values.{◌then◌, AreInRow}
use Rattle.query_tree.specs.declared.query.Node.{Node}
use Rattle.query_tree.specs.declared.query.Item.{Item}
use Rattle.query_read.specs.declared.levels.Row.{Row}
use Rattle.query_read.specs.declared.levels.Level.{Level}
use Rattle.query_read.specs.declared.levels.Scan.{Scan}
use Rattle.query_grammar.specs.Grammar.{IsItem, Section, IsLimit, last_of, IsSection, items_of, all_items, IsAnd, has_item, IsOrder, IsAndNode, IsExpr, IsGroup}
use Rattle.query_grammar.specs.QueryFaults.{Any, IsAnyLimit, FirstItem}
use Rattle.query_read.specs.steps.Levels.{no_items, no_level, first_or, with_one, limited, outer, scanned}
use Rattle.query_read.proofs.Ascending.{contains_cases}
use Rattle.query_read.proofs.ScanSteps.{innermost_is, outer_is}
use Rattle.query_read.proofs.PartScans.{resting, going, stepped, one_scanned, scanned_both, sign_no_limit, IsPart, IsBegun, items_begun}

-- ---- limits
-- the span after limits
abbrev pub span_after : Option Row → List (Option (List ℕ)) → Option Row
span_after span [] = span
span_after span (None ∷ list) = span_after None list
span_after span (Some zones ∷ list) = span_after (Some no_items) list

-- the span of a section before its items
abbrev pub fresh_span : Option (List ℕ) → Option Row
fresh_span None = None
fresh_span (Some zones) = Some no_items

pub limits_scanned : (list : List (Option (List ℕ))) (u : List Mark) → AreInRow IsLimit list u → (level : Level) (around : List Level) → scanned (resting level around) u ≡ resting (limited (span_after level.span list) level) around
limits_scanned [] u is level around = ap (scanned (resting level around)) is
limits_scanned (None ∷ list) u (a, b, is, (m, is', sign), later) level around =
    scanned_both (resting level around) (resting (limited None level) around) (resting (limited (span_after None list) level) around) u a b is (one_scanned (resting level around) a m signs.Limits is' sign) (limits_scanned list b later (limited None level) around)
limits_scanned (Some zones ∷ list) u (a, b, is, (m, is', sign), later) level around =
    scanned_both (resting level around) (resting (limited (Some no_items) level) around) (resting (limited (span_after (Some no_items) list) level) around) u a b is (one_scanned (resting level around) a m (signs.Spans zones) is' sign) (limits_scanned list b later (limited (Some no_items) level) around)

one_contains : (m n : Mark) (u : List Mark) → u ≡ m ∷ [] → Contains u n → m ≡ n
one_contains m n u is has = elim (contains_cases m [] n (subst (λ (l : List Mark). Contains l n) is has)) [
  | inl same ↦ same
  | inr (k, within, at) ↦ absurd (omega (arith, within))
]

is_limit : (o : Option (List ℕ)) (u : List Mark) → IsLimit o u → (m : Mark) → Contains u m → IsAnyLimit m.sign
is_limit None u (n, is, sign) m has = inl (ap (λ (k : Mark). k.sign) (sym (one_contains n m u is has)) ∙ sign)
is_limit (Some zones) u (n, is, sign) m has = inr (zones, ap (λ (k : Mark). k.sign) (sym (one_contains n m u is has)) ∙ sign)

pub are_limits : (list : List (Option (List ℕ))) (u : List Mark) → AreInRow IsLimit list u → (m : Mark) → Contains u m → IsAnyLimit m.sign
are_limits [] u is m (k, within, at) = let none : length u ≡ 0 = ap length is in absurd (omega (arith, within, none))
are_limits (o ∷ list) u (a, b, is, first, later) m has = elim (Contains-append_cases a b m (subst (λ (l : List Mark). Contains l m) is has)) [
  | inl here ↦ is_limit o a first m here
  | inr there ↦ are_limits list b later m there
]

fresh_after : (o : Option (List ℕ)) (list : List (Option (List ℕ))) → span_after (fresh_span o) list ≡ fresh_span (last_of o list)
fresh_after o [] = refl
fresh_after o (None ∷ list) = fresh_after None list
fresh_after o (Some zones ∷ list) = fresh_after (Some zones) list

-- the last limit counts, and none where none stands and no ZONESPAN is in force
pub last_span : (span : Option Row) (list : List (Option (List ℕ))) → (span ≡ None) ⊎ (list ≢ []) → span_after span list ≡ fresh_span (last_of None list)
last_span span list (inl none) = ap (λ (s : Option Row). span_after s list) none ∙ fresh_after None list
last_span span [] (inr some) = absurd (some refl)
last_span span (None ∷ list) (inr some) = fresh_after None list
last_span span (Some zones ∷ list) (inr some) = fresh_after (Some zones) list

-- ---- sections
-- Limits, and items that begin at the first mark after them. The level after a section is that with one item more.
pub record SectionScan (section : Section) (u : List Mark) : Type 0 where
  pub list : List (Option (List ℕ))
  pub limiting : List Mark
  pub items : List Mark
  pub is : u ≡ limiting ++ items
  pub limits : AreInRow IsLimit list limiting
  pub span_is : section.span ≡ last_of None list
  pub begun : IsBegun (not (has_item section.items)) items

-- the level before the items of a section, and after them
abbrev pub before_items : Section → Level → Level
before_items section level = limited (fresh_span section.span) level

abbrev pub after_items : Section → ℕ → Level → Level
after_items section at level = with_one at (not (has_item section.items)) (before_items section level)

pub limits_of : {section : Section} {u : List Mark} (s : SectionScan section u) (level : Level) (around : List Level) → (level.span ≡ None) ⊎ (s.list ≢ []) → scanned (resting level around) s.limiting ≡ resting (before_items section level) around
limits_of {section} {u} s level around clear =
    limits_scanned s.list s.limiting s.limits level around ∙ ap (λ (span : Option Row). resting (limited span level) around) (last_span level.span s.list clear ∙ ap fresh_span (sym s.span_is))

pub section_scanned : {section : Section} {u : List Mark} (s : SectionScan section u) (level : Level) (around : List Level) → (level.span ≡ None) ⊎ (s.list ≢ []) → scanned (resting level around) u ≡ resting (after_items section s.begun.first.at level) around
section_scanned {section} {u} s level around clear =
    scanned_both (resting level around) (resting (before_items section level) around) (resting (after_items section s.begun.first.at level) around) u s.limiting s.items s.is (limits_of s level around clear) (s.begun.begins (before_items section level) around)

double_not : (b : Bool) → not (not b) ≡ b
double_not true = refl
double_not false = refl

-- what a section adds to the items of its AND
wanted_of : (span : Option (List ℕ)) (items : List Item) (at : ℕ) (level : Level) → (with_one at (not (has_item items)) (limited (fresh_span span) level)).and.wanted ≡ (level.and.wanted || has_item (items_of span items))
wanted_of None items at level = ap (λ (b : Bool). level.and.wanted || b) (double_not (has_item items))
wanted_of (Some zones) items at level = refl

first_of : (span : Option (List ℕ)) (items : List Item) (at : ℕ) (level : Level) → (with_one at (not (has_item items)) (limited (fresh_span span) level)).and.first ≡ first_or level.and.first at
first_of None items at level = refl
first_of (Some zones) items at level = refl

-- the AND's own row after some marks
pub record RowAt (level : Level) (first : ℕ) (wanted : Bool) : Type 0 where
  pub first_is : level.and.first ≡ Some first
  pub wanted_is : level.and.wanted ≡ wanted

row_more : (section : Section) (sections : List Section) (at first : ℕ) (wanted : Bool) (level last : Level) → RowAt level first wanted → RowAt last first ((after_items section at level).and.wanted || has_item (all_items sections)) → RowAt last first (wanted || has_item (all_items (section ∷ sections)))
row_more section sections at first wanted level last before after =
    let one : (after_items section at level).and.wanted ≡ (wanted || has_item (items_of section.span section.items)) =
    wanted_of section.span section.items at level ∙ ap (λ (w : Bool). w || has_item (items_of section.span section.items)) before.wanted_is in
    let all : has_item (all_items (section ∷ sections)) ≡ (has_item (items_of section.span section.items) || has_item (all_items sections)) =
    list_any-append (λ (item : Item). not item.negated) (items_of section.span section.items) (all_items sections) in
    record {
      first_is = after.first_is;
      wanted_is = after.wanted_is
          ∙ ap (λ (w : Bool). w || has_item (all_items sections)) one
          ∙ or_assoc wanted (has_item (items_of section.span section.items)) (has_item (all_items sections))
          ∙ ap (λ (b : Bool). wanted || b) (sym all);
    }

-- the row after the first section, and after all
row_first : (section : Section) (sections : List Section) (at : ℕ) (last : Level) → RowAt last at ((after_items section at no_level).and.wanted || has_item (all_items sections)) → RowAt last at (has_item (all_items (section ∷ sections)))
row_first section sections at last after =
    let one : (after_items section at no_level).and.wanted ≡ has_item (items_of section.span section.items) = wanted_of section.span section.items at no_level in
    record {
      first_is = after.first_is;
      wanted_is = after.wanted_is
          ∙ ap (λ (w : Bool). w || has_item (all_items sections)) one
          ∙ sym (list_any-append (λ (item : Item). not item.negated) (items_of section.span section.items) (all_items sections));
    }

-- The level after an AND, and its first item.
pub record AndScan (sections : List Section) (u : List Mark) : Type 0 where
  pub item : Mark
  pub first : FirstItem u item.at
  pub scans : (around : List Level) → (last : Level) × (scanned (resting no_level around) u ≡ resting last around) × RowAt last item.at (has_item (all_items sections))

-- what is read between `(` and `)`
pub Closes : List Mark → Type 0
Closes u = (around : List Level) → (last : Level) × (scanned (resting no_level around) u ≡ resting last around)

module _ (Group : Node → List Mark → Type 0) (group_part : (node : Node) (u : List Mark) → Group node u → IsPart u) where
  pub section_scan : (isfirst : Bool) (section : Section) (u : List Mark) → IsSection Group isfirst section u → SectionScan section u
  section_scan isfirst section u (list, given, span_is, some, (l, i, is, limits, items)) =
      record { list = list; limiting = l; items = i; is = is; limits = limits; span_is = span_is; begun = items_begun Group group_part section.items i some items }

  pub section_some : (isfirst : Bool) (section : Section) (u : List Mark) → IsSection Group isfirst section u → section.items ≢ []
  section_some isfirst section u (list, given, span_is, some, p) = some

  pub section_row : (isfirst : Bool) (section : Section) (u : List Mark) (p : IsSection Group isfirst section u) → AreInRow (IsItem Group) section.items (section_scan isfirst section u p).items
  unfolding section_scan
  section_row isfirst section u (list, given, span_is, some, (l, i, is, limits, items)) = items

  -- a further section has a limit
  pub has_limit : (section : Section) (u : List Mark) (p : IsSection Group false section u) → (section_scan false section u p).list ≢ []
  unfolding section_scan
  has_limit section u (list, inl never, span_is, some, p) none = cc
  has_limit section u (list, inr given, span_is, some, p) none = given none

  -- further sections of an AND
  sections_scanned : (sections : List Section) (u : List Mark) → AreInRow (IsSection Group false) sections u → (first : ℕ) (wanted : Bool) (level : Level) (around : List Level) → RowAt level first wanted → (last : Level) × (scanned (resting level around) u ≡ resting last around) × RowAt last first (wanted || has_item (all_items sections))
  sections_scanned [] u is first wanted level around row =
      (level, ap (scanned (resting level around)) is, record { first_is = row.first_is; wanted_is = row.wanted_is ∙ sym (or-false wanted) })
  sections_scanned (section ∷ sections) u (a, b, is, here, later) first wanted level around row =
      let s : SectionScan section a = section_scan false section a here in
      let next : Level = after_items section s.begun.first.at level in
      let first_is : next.and.first ≡ Some first = first_of section.span section.items s.begun.first.at level ∙ ap (λ (o : Option ℕ). first_or o s.begun.first.at) row.first_is in
      let (last, scan, after) = sections_scanned sections b later first next.and.wanted next around (record { first_is = first_is; wanted_is = refl }) in
      (last, scanned_both (resting level around) (resting next around) (resting last around) u a b is (section_scanned s level around (inr (has_limit section a here))) scan, row_more section sections s.begun.first.at first wanted level last row after)

  -- ---- ANDs
  pub and_scanned : (sections : List Section) (u : List Mark) → IsAnd Group sections u → AndScan sections u
  and_scanned [] u never = absurd never
  and_scanned (section ∷ sections) u (a, b, is, here, later) =
      let s : SectionScan section a = section_scan true section a here in
      let next : Level = after_items section s.begun.first.at no_level in
      let first_is : next.and.first ≡ Some s.begun.first.at = first_of section.span section.items s.begun.first.at no_level in
      record {
        item = s.begun.first;
        first = record {
          limiting = s.limiting;
          item = s.begun.first;
          rest = s.begun.rest ++ b;
          is = is ∙ ap (λ (l : List Mark). l ++ b) (s.is ∙ ap (λ (l : List Mark). s.limiting ++ l) s.begun.is) ∙ append_assoc s.limiting (s.begun.first ∷ s.begun.rest) b;
          are = are_limits s.list s.limiting s.limits;
          no_limit = s.begun.no_limit;
          at = refl;
        };
        scans = λ around.
            let (last, scan, after) = sections_scanned sections b later s.begun.first.at next.and.wanted next around (record { first_is = first_is; wanted_is = refl }) in (
              last,
              scanned_both (resting no_level around) (resting next around) (resting last around) u a b is (section_scanned s no_level around (inl refl)) scan,
              row_first section sections s.begun.first.at last after,
            );
      }

  order_scanned : (o : Option ℕ) (u : List Mark) → IsOrder o u → (level : Level) (around : List Level) → scanned (resting level around) u ≡ resting no_level around
  order_scanned None u (m, is, sign) level around = one_scanned (resting level around) u m signs.Before is sign
  order_scanned (Some n) u (m, is, sign) level around = one_scanned (resting level around) u m (signs.Near n) is sign

  orders_scanned : (rest : List (Option ℕ × Node)) (u : List Mark) → AreInRow (λ next. IsOrder next.0 then IsAndNode Any Group next.1) rest u → (level : Level) (around : List Level) → (last : Level) × (scanned (resting level around) u ≡ resting last around)
  orders_scanned [] u is level around = (level, ap (scanned (resting level around)) is)
  orders_scanned (next ∷ rest) u (a, b, is, (o, v, is', order, (sections, any, node_is, and)), later) level around =
      let (mid, scan, row) = (and_scanned sections v and).scans around in
      let (last, scan') = orders_scanned rest b later mid around in
      (last, scanned_both (resting level around) (resting mid around) (resting last around) u a b is (scanned_both (resting level around) (resting no_level around) (resting mid around) a o v is' (order_scanned next.0 o order level around) scan) scan')

  pub expr_closes : (node : Node) (u : List Mark) → IsExpr Any Group node u → Closes u
  unfolding Closes
  expr_closes node u (first, rest, node_is, (a, b, is, (sections, any, node_is', and), later)) around =
      let (mid, scan, row) = (and_scanned sections a and).scans around in
      let (last, scan') = orders_scanned rest b later mid around in
      (last, scanned_both (resting no_level around) (resting mid around) (resting last around) u a b is scan scan')

-- ---- groups
-- after `)` the level around it is the one that is read
closing : (level outside : Level) (around : List Level) (at : ℕ) → stepped (resting level (around ++ outside ∷ [])) at signs.Close ≡ resting outside around
closing level outside around at =
    ap (λ (l : Level). resting l (outer (around ++ outside ∷ []))) (innermost_is outside around) ∙ ap (λ (ls : List Level). resting outside ls) (outer_is outside around)

-- a group, from where its parenthesis leads
group_scanned : (scan : Scan) (level : Level) (around : List Level) (u a bc b c : List Mark) (m n : Mark) → u ≡ a ++ bc → a ≡ m ∷ [] → m.sign ≡ signs.Open → bc ≡ b ++ c → Closes b → c ≡ n ∷ [] → n.sign ≡ signs.Close → stepped scan m.at signs.Open ≡ resting no_level (around ++ level ∷ []) → scanned scan u ≡ resting level around
unfolding Closes
group_scanned scan level around u a bc b c m n is first open_sign later closes last close_sign opens =
    let (end, inside) = closes (around ++ level ∷ []) in
    let rest : scanned (resting no_level (around ++ level ∷ [])) bc ≡ resting level around =
    scanned_both (resting no_level (around ++ level ∷ [])) (resting end (around ++ level ∷ [])) (resting level around) bc b c later inside (one_scanned (resting end (around ++ level ∷ [])) c n signs.Close last close_sign ∙ closing end level around n.at) in
    scanned_both scan (resting no_level (around ++ level ∷ [])) (resting level around) u a bc is (one_scanned scan a m signs.Open first open_sign ∙ opens) rest

pub group_part : (depth : ℕ) (node : Node) (u : List Mark) → IsGroup Any depth node u → IsPart u
unfolding IsGroup
group_part zero node u never = absurd never
group_part (suc depth) node u (a, bc, is, (m, first, open_sign), (b, c, later, expr, (n, last, close_sign))) =
    let closes : Closes b = expr_closes (IsGroup Any depth) (group_part depth) node b expr in
    record {
      first = m;
      rest = bc;
      is = is ∙ ap (λ (l : List Mark). l ++ bc) first;
      no_limit = sign_no_limit m signs.Open open_sign refl;
      goes = λ level around. group_scanned (going level around) level around u a bc b c m n is first open_sign later closes last close_sign refl;
      begins = λ level around. group_scanned (resting level around) (with_one m.at false level) around u a bc b c m n is first open_sign later closes last close_sign refl;
    }
