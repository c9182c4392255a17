-- A text has one first fault: two are at one place and of one kind, and their names are one, since marks that are read stand at
-- places of their own, and one that has something wrong with it is neither the stop nor the NOT of negated items.
use Rattle.std.proofs.Common.{arith, ◌≡◌, ℕ, List, [], ◌∷◌, ◌++◌, Some, None, ◌⊎◌, inl, inr, true, slice_get, refl, sym, ◌∙◌, ap, subst, append-nil}
use Rattle.std.specs.Prelude.{Contains}
use Rattle.std.proofs.lemmas.List.Elements.{Contains-append_left, Contains-append_right}
use Rattle.token_grammar.specs.Values.{IsStop}
use Rattle.token_grammar.proofs.Stops.{value_no_stop, one_stop}
use Rattle.query_marks.specs.declared.fault.QueryKind.{QueryKind}
use Rattle.query_marks.specs.declared.fault.QueryKind.TheVariants as kinds
use Rattle.query_marks.specs.declared.fault.Wrong.{Wrong}
use Rattle.query_marks.specs.declared.mark.Mark.{Mark}
use Rattle.query_marks.specs.declared.mark.Sign.TheVariants as signs
use Rattle.query_grammar.specs.Grammar.{IsGroup, IsQuery}
use Rattle.query_grammar.specs.QueryFaults.{order, Any, Told, Stops, IsRead, FirstItem, IsCandidate, by_stop, by_itself, by_and, by_span, IsUpTo, IsFirstFault}
use Rattle.query_grammar.specs.steps.MarkFacts.{Ascend, AreOrderly}
use Rattle.query_grammar.proofs.MarkPlaces.{first_contained, contained_later, ascend_apart, one_at_place}
use Rattle.query_grammar.proofs.NegatedItems.{section_first, and_first}

-- What is read is one list, a front of the marks.
abbrev pub as_stop : {marks front : List Mark} {stop : Mark} → Stops marks front stop → IsStop (IsQuery Any 32) marks stop
as_stop {marks} {front} {stop} s = record { front = front; rest = s.rest; is = s.is; begins = s.begins; stops = s.stops }

pub one_read : {marks : List Mark} (a b : List Mark) → IsRead marks a → IsRead marks b → a ≡ b
one_read {marks} a b (inl (node, query, e)) (inl (other, query', f)) = e ∙ sym f
one_read {marks} a b (inl (node, query, e)) (inr (stop, stops)) = absurd (value_no_stop node query (as_stop stops))
one_read {marks} a b (inr (stop, stops)) (inl (node, query, e)) = absurd (value_no_stop node query (as_stop stops))
one_read {marks} a b (inr (stop, stops)) (inr (other, stops')) = (one_stop (as_stop stops) (as_stop stops')).1

read_front : {marks : List Mark} (read : List Mark) → IsRead marks read → (rest : List Mark) × (marks ≡ read ++ rest)
read_front {marks} read (inl (node, query, e)) = ([], sym e ∙ sym (append-nil read))
read_front {marks} read (inr (stop, stops)) = (stop ∷ stops.rest, stops.is)

pub read_contained : {marks : List Mark} (read : List Mark) (m : Mark) → IsRead marks read → Contains read m → Contains marks m
read_contained {marks} read m reads has = let (rest, e) = read_front read reads in subst (λ u. Contains u m) (sym e) (Contains-append_left read rest m has)

-- a mark that is read stands at the place, and something is wrong with it by itself
record IsWrongAt (marks : List Mark) (place : ℕ) : Type 0 where
  read : List Mark
  mark : Mark
  wrong : Wrong
  reads : IsRead marks read
  has : Contains read mark
  is : mark.wrong ≡ Some wrong
  at : place ≡ mark.at

-- The fault is what is wrong with a mark by itself, ..
abbrev IsItself : List Mark → Told → Type 0
IsItself marks told = (found : IsWrongAt marks told.place) × (told.name ≡ found.wrong.name)

-- .. or it has no name, and no such mark stands at its place.
abbrev IsNameless : List Mark → Told → Type 0
IsNameless marks told = (told.name ≡ []) × (IsWrongAt marks told.place → ⊥)

stop_apart : {marks front : List Mark} {stop : Mark} → AreOrderly marks → Stops marks front stop → (read : List Mark) (m : Mark) → IsRead marks read → Contains read m → stop.at ≡ m.at → ⊥
stop_apart {marks} {front} {stop} orderly stops read m reads has places =
    let front_is : read ≡ front = one_read read front reads (inr (stop, stops)) in
    let below = ascend_apart front (stop ∷ stops.rest) m stop (subst (λ u. Ascend u) stops.is orderly.ascend) (subst (λ u. Contains u m) front_is has) (first_contained stop stops.rest) in
    omega (arith, below, places)

first_contains : {marks : List Mark} {place : ℕ} (first : FirstItem marks place) → Contains marks first.item
first_contains {marks} {place} first =
    subst (λ u. Contains u first.item) (sym first.is) (Contains-append_right first.limiting (first.item ∷ first.rest) first.item (first_contained first.item first.rest))

-- a NOT stands at the place
not_apart : {marks : List Mark} {place : ℕ} → AreOrderly marks → (read : List Mark) (m : Mark) → IsRead marks read → Contains read m → m.sign ≡ signs.Not → place ≡ m.at → IsWrongAt marks place → ⊥
not_apart {marks} {place} orderly read m reads has is_not at found =
    let here : Contains marks m = read_contained read m reads has in
    let same : m ≡ found.mark = one_at_place marks m found.mark orderly.ascend here (read_contained found.read found.mark found.reads found.has) (sym at ∙ found.at) in
    let clean : m.wrong ≡ None = orderly.clean m here is_not in
    let wrong : m.wrong ≡ Some found.wrong = ap (λ (x : Mark). x.wrong) same ∙ found.is in
    cc

which : {marks : List Mark} → AreOrderly marks → (told : Told) → IsCandidate marks told → IsItself marks told ⊎ IsNameless marks told
which {marks} orderly _ (by_itself read m wrong reads has is) = inl (record { read = read; mark = m; wrong = wrong; reads = reads; has = has; is = is; at = refl }, refl)
which {marks} orderly _ (by_stop front stop kind stops named) = inr (refl, λ found. stop_apart orderly stops found.read found.mark found.reads found.has found.at)
which {marks} orderly _ (by_and read place reads ended) = inr (refl, λ found. not_apart orderly read ended.at.item reads has is_not ended.at.at found)
  where
    has : Contains read ended.at.item
    has = subst (λ u. Contains u ended.at.item) (sym ended.is) (Contains-append_right ended.a (ended.b ++ ended.next ∷ ended.c) ended.at.item (Contains-append_left ended.b (ended.next ∷ ended.c) ended.at.item (first_contains ended.at)))

    is_not : ended.at.item.sign ≡ signs.Not
    is_not = and_first (IsGroup Any 32) ended.sections ended.b place ended.and ended.none ended.at
which {marks} orderly _ (by_span read place reads ended) = inr (refl, λ found. not_apart orderly read ended.at.item reads has is_not ended.at.at found)
  where
    has : Contains read ended.at.item
    has =
        let inner : Contains (ended.b ++ ended.next ∷ ended.c) ended.at.item = Contains-append_left ended.b (ended.next ∷ ended.c) ended.at.item (first_contains ended.at) in
        subst (λ u. Contains u ended.at.item) (sym ended.is) (Contains-append_right ended.a (ended.limit ∷ (ended.b ++ ended.next ∷ ended.c)) ended.at.item (contained_later ended.limit (ended.b ++ ended.next ∷ ended.c) ended.at.item inner))

    is_not : ended.at.item.sign ≡ signs.Not
    is_not = section_first (IsGroup Any 32) true (record { span = None; items = ended.items }) ended.b [] ended.b place ended.section ended.none (sym (append-nil ended.b)) ended.at

one_name : {marks : List Mark} {a b : Told} → AreOrderly marks → a.place ≡ b.place → IsCandidate marks a → IsCandidate marks b → a.name ≡ b.name
one_name {marks} {a} {b} orderly places is_a is_b = by (which orderly a is_a) (which orderly b is_b)
  where
    by : IsItself marks a ⊎ IsNameless marks a → IsItself marks b ⊎ IsNameless marks b → a.name ≡ b.name
    by (inl (c, name)) (inl (d, other)) =
        let same : c.mark ≡ d.mark = one_at_place marks c.mark d.mark orderly.ascend (read_contained c.read c.mark c.reads c.has) (read_contained d.read d.mark d.reads d.has) (sym c.at ∙ places ∙ d.at) in
        let wrongs : Some c.wrong ≡ Some d.wrong = sym c.is ∙ ap (λ (m : Mark). m.wrong) same ∙ d.is in
        let wrong : c.wrong ≡ d.wrong = cc in
        name ∙ ap (λ (w : Wrong). w.name) wrong ∙ sym other
    by (inl (c, name)) (inr (empty, never)) = absurd (never (subst (λ p. IsWrongAt marks p) places c))
    by (inr (empty, never)) (inl (d, name)) = absurd (never (subst (λ p. IsWrongAt marks p) (sym places) d))
    by (inr (empty, never)) (inr (other, never')) = empty ∙ sym other

-- Kinds by their order.
abbrev kind_values : List QueryKind
kind_values = kinds.UnclosedQuote ∷ kinds.Syntax ∷ kinds.OnlyNot ∷ kinds.UnknownField ∷ kinds.UnknownZone ∷ kinds.NameTooLong ∷ kinds.NumberOutOfRange ∷ kinds.Nesting ∷ kinds.TooManyKeywords ∷ kinds.ZoneSpanBeforeOperator ∷ kinds.PrefixTooShort ∷ []

kind_numbered : (kind : QueryKind) → slice_get kind_values (order kind) ≡ Some kind
kind_numbered kinds.UnclosedQuote = refl
kind_numbered kinds.Syntax = refl
kind_numbered kinds.OnlyNot = refl
kind_numbered kinds.UnknownField = refl
kind_numbered kinds.UnknownZone = refl
kind_numbered kinds.NameTooLong = refl
kind_numbered kinds.NumberOutOfRange = refl
kind_numbered kinds.Nesting = refl
kind_numbered kinds.TooManyKeywords = refl
kind_numbered kinds.ZoneSpanBeforeOperator = refl
kind_numbered kinds.PrefixTooShort = refl

pub one_kind : (j k : QueryKind) → order j ≡ order k → j ≡ k
one_kind j k e =
    let same : Some j ≡ Some k = sym (kind_numbered j) ∙ ap (λ n. slice_get kind_values n) e ∙ kind_numbered k in
    cc

-- each isn't after the other
level : (a b : Told) → IsUpTo a b → IsUpTo b a → (a.place ≡ b.place) × (order a.kind ≡ order b.kind)
level a b (inl h) (inl k) = absurd (omega (arith, h, k))
level a b (inl h) (inr (e, k)) = absurd (omega (arith, h, e))
level a b (inr (e, h)) (inl k) = absurd (omega (arith, e, k))
level a b (inr (e, h)) (inr (f, k)) = (e, omega (arith, h, k))

pub one_fault : {marks : List Mark} {a b : Told} → AreOrderly marks → IsFirstFault marks a → IsFirstFault marks b → a ≡ b
one_fault {marks} {a} {b} orderly f g =
    let (places, orders) = level a b (f.first b g.is) (g.first a f.is) in
    let kind : a.kind ≡ b.kind = one_kind a.kind b.kind orders in
    let name : a.name ≡ b.name = one_name orderly places f.is g.is in
    ap (λ (p : ℕ). record { place = p; kind = a.kind; name = a.name }) places
    ∙ ap (λ (k : QueryKind). record { place = b.place; kind = k; name = a.name }) kind
    ∙ ap (λ (n : List ℕ). record { place = b.place; kind = b.kind; name = n }) name
