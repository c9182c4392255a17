-- What ended with negated items alone is refused by a scan, or something before it, and it stands at a NOT.
use Rattle.std.proofs.Common.{◌≡◌, ℕ, ◌≤◌, min, Bool, true, false, List, [], ◌∷◌, ◌++◌, Option, Some, None, ◌⊎◌, inl, inr, refl, sym, ◌∙◌, ap, subst, append_assoc, arith}
use Rattle.std.specs.Prelude.{not, ◌≢◌, Contains}
use Rattle.std.proofs.lemmas.Bool.{or_parts, cond-false}
use Rattle.std.proofs.lemmas.List.Folds.{list_any-append}
use Rattle.std.proofs.lemmas.List.Elements.{Contains-append_left, Contains-append_right}
use Rattle.query_marks.specs.declared.mark.Mark.{Mark}
use Rattle.query_marks.specs.declared.mark.Sign.{Sign}
use Rattle.query_marks.specs.declared.mark.Sign.TheVariants as signs
use Rattle.token_grammar.specs.Values.{AreInRow}
use Rattle.token_grammar.proofs.Stops.{goes_over}
use Rattle.query_tree.specs.declared.query.Item.{Item}
use Rattle.query_read.specs.declared.levels.Row.{Row}
use Rattle.query_read.specs.declared.levels.Level.{Level}
use Rattle.query_read.specs.declared.levels.Scan.{Scan}
use Rattle.query_grammar.specs.Grammar.{IsItem, Section, IsLimit, IsSection, items_of, all_items, IsAnd, has_item, IsGroup}
use Rattle.query_grammar.specs.QueryFaults.{Any, BeginsAnd, EndsAnd, IsAnyLimit, LastIs, FirstItem, EndedAnd, EndedSpan}
use Rattle.query_read.specs.steps.Levels.{no_items, no_level, with_item, with_one, limited, scanned, at_start, earlier, refused_row, refused_span, refused_and, refused_by, Refuses}
use Rattle.query_read.proofs.Ascending.{contains_at}
use Rattle.query_read.proofs.ScanSteps.{scanned_append, refused_after}
use Rattle.query_read.proofs.PartScans.{resting, stepped, sign_step, sign_no_limit, clash, IsBegun, items_begun}
use Rattle.query_read.proofs.AndScans.{are_limits, AndScan, and_scanned, group_part}

-- ---- where an AND begins
pub last_step : (scan : Scan) (a : List Mark) (m : Mark) (sign : Sign) → m.sign ≡ sign → scanned scan (a ++ m ∷ []) ≡ stepped (scanned scan a) m.at sign
last_step scan a m sign is = scanned_append scan a (m ∷ []) ∙ sign_step (scanned scan a) m sign is

fresh_after : (a : List Mark) (m : Mark) → BeginsAnd m.sign → (around : List Level) × (scanned at_start (a ++ m ∷ []) ≡ resting no_level around)
fresh_after a m (inl relaxed) = ((scanned at_start a).around, last_step at_start a m signs.Relaxed relaxed)
fresh_after a m (inr (inl opens)) = ((stepped (scanned at_start a) m.at signs.Open).around, last_step at_start a m signs.Open opens)
fresh_after a m (inr (inr (inl before))) = ((scanned at_start a).around, last_step at_start a m signs.Before before)
fresh_after a m (inr (inr (inr (n, near)))) = ((scanned at_start a).around, last_step at_start a m (signs.Near n) near)

-- nothing is known of an AND where it begins
pub fresh : (a : List Mark) → LastIs BeginsAnd a → (around : List Level) × (scanned at_start a ≡ resting no_level around)
fresh a (inl none) = ([], ap (scanned at_start) none)
fresh a (inr (before, m, is, begins)) = let (around, scan) = fresh_after before m begins in (around, ap (scanned at_start) is ∙ scan)

-- ---- the first item
not_among : (limiting : List Mark) (m : Mark) (more rest : List Mark) → ((n : Mark) → Contains limiting n → IsAnyLimit n.sign) → (IsAnyLimit m.sign → ⊥) → limiting ≡ more ++ m ∷ rest → ⊥
not_among limiting m more rest are none is = none (are m (subst (λ (l : List Mark). Contains l m) (sym is) (contains_at more m rest)))

pub one_first : (u : List Mark) (p q : ℕ) (f : FirstItem u p) (g : FirstItem u q) → f.item ≡ g.item
one_first u p q f g =
    (goes_over f.limiting g.limiting f.item g.item f.rest g.rest (sym f.is ∙ g.is)
    (λ (more, e). not_among g.limiting f.item f.limiting more g.are f.no_limit e)
    (λ (more, e). not_among f.limiting g.item g.limiting more f.are g.no_limit e)).0

pub one_place : (u : List Mark) (p q : ℕ) → FirstItem u p → FirstItem u q → p ≡ q
one_place u p q f g = f.at ∙ ap (λ (m : Mark). m.at) (one_first u p q f g) ∙ sym g.at

-- ---- enders
pub and_refused : (level : Level) (sign : Sign) → EndsAnd sign → refused_by level sign ≡ refused_and level
and_refused level sign (inl is) = ap (refused_by level) is
and_refused level sign (inr (inl is)) = ap (refused_by level) is
and_refused level sign (inr (inr (inl is))) = ap (refused_by level) is
and_refused level sign (inr (inr (inr (n, is)))) = ap (refused_by level) is

pub span_refused : (level : Level) (sign : Sign) → IsAnyLimit sign → refused_by level sign ≡ refused_span level
span_refused level sign (inl is) = ap (refused_by level) is
span_refused level sign (inr (zones, is)) = ap (refused_by level) is

earlier_left : (p : ℕ) (o : Option ℕ) → (q : ℕ) × (earlier (Some p) o ≡ Some q) × (q ≤ p)
earlier_left p None = (p, refl, omega arith)
earlier_left p (Some b) = (min p b, refl, omega arith)

earlier_right : (o : Option ℕ) (p : ℕ) → (q : ℕ) × (earlier o (Some p) ≡ Some q) × (q ≤ p)
earlier_right None p = (p, refl, omega arith)
earlier_right (Some a) p = (min a p, refl, omega arith)

refused_here : (read x y : List Mark) (m : Mark) (scan : Scan) (place : ℕ) → read ≡ x ++ m ∷ y → scanned at_start x ≡ scan → refused_by scan.level m.sign ≡ Some place → Refuses at_start read place
refused_here read x y m scan place is at refused =
    subst (λ (l : List Mark). Refuses at_start l place) (sym is) (refused_after at_start x (m ∷ y) place (inl (ap (λ (s : Scan). refused_by s.level m.sign) at ∙ refused)))

row_refused : (row : Row) (place : ℕ) → row.first ≡ Some place → row.wanted ≡ false → refused_row row ≡ Some place
row_refused row place first none = cond-false row.wanted None row.first none ∙ first

-- an AND that ended
and_ended : (read : List Mark) (place : ℕ) → EndedAnd read place → (least : ℕ) × Refuses at_start read least × (least ≤ place)
and_ended read place e =
    let (around, at_begin) = fresh e.a e.begins in
    let and : AndScan e.sections e.b = and_scanned (IsGroup Any 32) (group_part 32) e.sections e.b e.and in
    let (last, scan, row) = and.scans around in
    let here : place ≡ and.item.at = one_place e.b place and.item.at e.at and.first in
    let refused : refused_row last.and ≡ Some and.item.at = row_refused last.and and.item.at row.first_is (row.wanted_is ∙ e.none) in
    let (least, earliest, up) = earlier_left and.item.at (refused_span last) in
    let both : scanned at_start (e.a ++ e.b) ≡ resting last around = scanned_append at_start e.a e.b ∙ ap (λ (s : Scan). scanned s e.b) at_begin ∙ scan in
    let by_next : refused_by last e.next.sign ≡ Some least = and_refused last e.next.sign e.ends ∙ ap (λ (o : Option ℕ). earlier o (refused_span last)) refused ∙ earliest in
    (least, refused_here read (e.a ++ e.b) e.c e.next (resting last around) least (e.is ∙ sym (append_assoc e.a e.b (e.next ∷ e.c))) both by_next, omega (arith, up, here))

-- ---- what a ZONESPAN stands over
-- items that don't begin with a limit stand after none
record JustItems (items : List Item) (b : List Mark) : Type 0 where
  pub some : items ≢ []
  pub row : AreInRow (IsItem (IsGroup Any 32)) items b

pub limit_first : (o : Option (List ℕ)) (u : List Mark) → IsLimit o u → (m : Mark) × (u ≡ m ∷ []) × IsAnyLimit m.sign
limit_first None u (m, is, sign) = (m, is, inl sign)
limit_first (Some zones) u (m, is, sign) = (m, is, inr (zones, sign))

just_items : (items : List Item) (b : List Mark) → IsSection (IsGroup Any 32) true (record { span = None; items = items }) b → ((m : Mark) (rest : List Mark) → b ≡ m ∷ rest → IsAnyLimit m.sign → ⊥) → JustItems items b
just_items items b ([], given, span_is, some, (l, i, is, none, row)) begun =
    let same : b ≡ i = is ∙ ap (λ (u : List Mark). u ++ i) none in
    record { some = some; row = subst (λ (u : List Mark). AreInRow (IsItem (IsGroup Any 32)) items u) (sym same) row }
just_items items b (o ∷ list, given, span_is, some, (l, i, is, (x, y, l_is, limit, later), row)) begun =
    let (m, x_is, sign) = limit_first o x limit in
    absurd (begun m (y ++ i) (is ∙ ap (λ (u : List Mark). u ++ i) (l_is ∙ ap (λ (u : List Mark). u ++ y) x_is)) sign)

-- its first mark
pub first_of_items : {negated : Bool} (b : List Mark) → (g : IsBegun negated b) → FirstItem b g.first.at
first_of_items b g = record { limiting = []; item = g.first; rest = g.rest; is = g.is; are = λ m (k, within, at). absurd (omega (arith, within)); no_limit = g.no_limit; at = refl }

span_ended : (read : List Mark) (place : ℕ) → EndedSpan read place → (least : ℕ) × Refuses at_start read least × (least ≤ place)
span_ended read place e = by_next e.ends
  where
    items : JustItems e.items e.b
    items = just_items e.items e.b e.section e.begun

    begun : IsBegun (not (has_item e.items)) e.b
    begun = items_begun (IsGroup Any 32) (group_part 32) e.items e.b items.some items.row

    here : place ≡ begun.first.at
    here = one_place e.b place begun.first.at e.at (first_of_items e.b begun)

    outer_scan : Scan
    outer_scan = scanned at_start e.a

    last : Level
    last = with_one begun.first.at (not (has_item e.items)) (limited (Some no_items) outer_scan.level)

    at_limit : scanned at_start (e.a ++ e.limit ∷ []) ≡ resting (limited (Some no_items) outer_scan.level) outer_scan.around
    at_limit = last_step at_start e.a e.limit (signs.Spans e.zones) e.spanning

    before : List Mark
    before = (e.a ++ e.limit ∷ []) ++ e.b

    at_end : scanned at_start before ≡ resting last outer_scan.around
    at_end = scanned_append at_start (e.a ++ e.limit ∷ []) e.b ∙ ap (λ (s : Scan). scanned s e.b) at_limit ∙ begun.begins (limited (Some no_items) outer_scan.level) outer_scan.around

    all : read ≡ before ++ e.next ∷ e.c
    all = e.is ∙ sym (append_assoc e.a (e.limit ∷ []) (e.b ++ e.next ∷ e.c)) ∙ sym (append_assoc (e.a ++ e.limit ∷ []) e.b (e.next ∷ e.c))

    refused : refused_span last ≡ Some begun.first.at
    refused = ap (λ (h : Bool). refused_row (with_item begun.first.at (not h) no_items)) e.none

    by_next : EndsAnd e.next.sign ⊎ IsAnyLimit e.next.sign → (least : ℕ) × Refuses at_start read least × (least ≤ place)
    by_next (inl ends) =
        let (least, earliest, up) = earlier_right (refused_row last.and) begun.first.at in
        let is : refused_by last e.next.sign ≡ Some least = and_refused last e.next.sign ends ∙ ap (earlier (refused_row last.and)) refused ∙ earliest in
        (least, refused_here read before e.c e.next (resting last outer_scan.around) least all at_end is, omega (arith, up, here))
    by_next (inr limit) =
        let is : refused_by last e.next.sign ≡ Some begun.first.at = span_refused last e.next.sign limit ∙ refused in
        (begun.first.at, refused_here read before e.c e.next (resting last outer_scan.around) begun.first.at all at_end is, omega (arith, here))

pub ended_refused : (read : List Mark) (place : ℕ) → EndedAnd read place ⊎ EndedSpan read place → (least : ℕ) × Refuses at_start read least × (least ≤ place)
ended_refused read place (inl and) = and_ended read place and
ended_refused read place (inr span) = span_ended read place span

-- ---- NOT
-- the first mark of items that are all negated
record FirstNot (u : List Mark) : Type 0 where
  pub first : Mark
  pub rest : List Mark
  pub is : u ≡ first ∷ rest
  pub negates : first.sign ≡ signs.Not

items_not : (items : List Item) (u : List Mark) → items ≢ [] → AreInRow (IsItem (IsGroup Any 32)) items u → has_item items ≡ false → FirstNot u
items_not [] u some row none = absurd (some refl)
items_not (item ∷ items) u some (a, b, is, inl (negated, (n, j, a_is, (m, n_is, sign), join)), later) none =
    record { first = m; rest = j ++ b; is = is ∙ ap (λ (l : List Mark). l ++ b) (a_is ∙ ap (λ (l : List Mark). l ++ j) n_is); negates = sign }
items_not (item ∷ items) u some (a, b, is, inr (kept, alt), later) none =
    let first : not item.negated ≡ false = (or_parts (not item.negated) (has_item items) none).0 in
    clash (not item.negated) (ap not kept) first

-- none of the items that a section gives is kept
section_none : (span : Option (List ℕ)) (items : List Item) → has_item (items_of span items) ≡ false → has_item items ≡ false
section_none None items none = none
section_none (Some zones) items none = cc

stands_at : (read x y b : List Mark) (place : ℕ) (limiting rest : List Mark) (m : Mark) → read ≡ x ++ (b ++ y) → b ≡ limiting ++ m ∷ rest → place ≡ m.at → m.sign ≡ signs.Not → (n : Mark) × Contains read n × (n.at ≡ place) × (n.sign ≡ signs.Not)
stands_at read x y b place limiting rest m is b_is at negates =
    (m, subst (λ (l : List Mark). Contains l m) (sym is) (Contains-append_right x (b ++ y) m (Contains-append_left b y m (subst (λ (l : List Mark). Contains l m) (sym b_is) (contains_at limiting m rest)))), sym at, negates)

and_at_not : (read x y : List Mark) (place : ℕ) (sections : List Section) (b : List Mark) → IsAnd (IsGroup Any 32) sections b → has_item (all_items sections) ≡ false → FirstItem b place → read ≡ x ++ (b ++ y) → (n : Mark) × Contains read n × (n.at ≡ place) × (n.sign ≡ signs.Not)
and_at_not read x y place [] b never none first is = absurd never
and_at_not read x y place (section ∷ sections) b (u, v, b_is, (list, given, span_is, some, (l, i, u_is, limits, row)), later) none first is =
    let here : has_item (items_of section.span section.items) ≡ false =
    (or_parts (has_item (items_of section.span section.items)) (has_item (all_items sections)) (sym (list_any-append (λ (item : Item). not item.negated) (items_of section.span section.items) (all_items sections)) ∙ none)).0 in
    let start : FirstNot i = items_not section.items i some row (section_none section.span section.items here) in
    let all : b ≡ l ++ start.first ∷ (start.rest ++ v) = b_is ∙ ap (λ (w : List Mark). w ++ v) (u_is ∙ ap (λ (w : List Mark). l ++ w) start.is) ∙ append_assoc l (start.first ∷ start.rest) v in
    let item : FirstItem b start.first.at =
    record { limiting = l; item = start.first; rest = start.rest ++ v; is = all; are = are_limits list l limits; no_limit = sign_no_limit start.first signs.Not start.negates refl; at = refl } in
    stands_at read x y b place l (start.rest ++ v) start.first is all (one_place b place start.first.at first item) start.negates

pub ended_at_not : (read : List Mark) (place : ℕ) → EndedAnd read place ⊎ EndedSpan read place → (m : Mark) × Contains read m × (m.at ≡ place) × (m.sign ≡ signs.Not)
ended_at_not read place (inl e) = and_at_not read e.a (e.next ∷ e.c) place e.sections e.b e.and e.none e.at e.is
ended_at_not read place (inr e) =
    let items : JustItems e.items e.b = just_items e.items e.b e.section e.begun in
    let start : FirstNot e.b = items_not e.items e.b items.some items.row e.none in
    let item : FirstItem e.b start.first.at = record { limiting = []; item = start.first; rest = start.rest; is = start.is; are = λ m (k, within, at). absurd (omega (arith, within)); no_limit = sign_no_limit start.first signs.Not start.negates refl; at = refl } in
    stands_at read (e.a ++ e.limit ∷ []) (e.next ∷ e.c) e.b place [] start.rest start.first (e.is ∙ sym (append_assoc e.a (e.limit ∷ []) (e.b ++ e.next ∷ e.c))) start.is (one_place e.b place start.first.at e.at item) start.negates
