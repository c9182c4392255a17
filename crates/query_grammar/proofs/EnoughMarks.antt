-- Marks that are cut short have the first fault of all marks of the text: either reading stops in what both have, or all of that
-- is read, and the first mark in it with which something is wrong is the first fault of both.
use Rattle.std.proofs.Common.{◌≡◌, ◌⊎◌, inl, inr, ℕ, ◌<◌, true, false, List, [], ◌∷◌, ◌++◌, length, refl, sym, ◌∙◌, ap, subst, arith, append_assoc, append-nil, IsUtf8}
use Rattle.std.specs.Prelude.{Option, Some, None, Contains, ◌||◌}
use Rattle.std.specs.Option.{is_some}
use Rattle.std.proofs.lemmas.List.Elements.{Contains-append_left, Contains-append_right, Contains-append_cases}
use Rattle.token_grammar.specs.Values.{Begins}
use Rattle.token_grammar.proofs.Bools.{or_first, or_second, clash}
use Rattle.token_grammar.proofs.Stops.{one_stop}
use Rattle.query_pieces.specs.declared.piece.Piece.{Piece}
use Rattle.query_pieces.specs.Pieces.{ArePieces}
use Rattle.query_marks.specs.declared.fault.Wrong.{Wrong}
use Rattle.query_marks.specs.declared.mark.Mark.{Mark}
use Rattle.query_marks.specs.declared.mark.Sign.TheVariants as signs
use Rattle.query_marks.specs.Marks.{Setting, alphabet_in, mark_at, marks_of}
use Rattle.query_marks.specs.Enough.{is_not, has_not, has_wrong, depth_after, IsCutShort, AreEnough}
use Rattle.query_grammar.specs.Grammar.{IsGroup, IsQuery}
use Rattle.query_grammar.specs.QueryFaults.{order, Any, Told, Stops, IsRead, FirstItem, IsCandidate, by_stop, by_itself, by_and, by_span, IsUpTo, IsFirstFault}
use Rattle.query_grammar.specs.steps.Answers.{StopsAt}
use Rattle.query_grammar.specs.steps.Classes.{is_ended}
use Rattle.query_grammar.specs.steps.MarkFacts.{Ascend, AreOrderly}
use Rattle.query_grammar.proofs.MarkClasses.{split}
use Rattle.query_grammar.proofs.MarkPlaces.{none_contained, first_contained, contained_cases, ascend_apart}
use Rattle.query_grammar.proofs.NegatedItems.{section_first, and_first}
use Rattle.query_grammar.proofs.OneFault.{as_stop, one_read, read_contained, one_fault}
use Rattle.query_grammar.proofs.MarkOrder.{orderly, orderly_given}
use Rattle.query_grammar.proofs.QueryFronts.{front_nests}
use Rattle.query_grammar.proofs.ReadOrStops.{stops_or_reads, some_read}

-- a query begins with these marks
abbrev AreBegun : List Mark → Type 0
AreBegun marks = Begins (IsQuery Any 32) marks

-- ---- what is wrong first
record FirstWrong (marks : List Mark) : Type 0 where
  before : List Mark
  mark : Mark
  later : List Mark
  wrong : Wrong
  is : marks ≡ before ++ mark ∷ later
  clean : (m : Mark) → Contains before m → m.wrong ≡ None
  has : mark.wrong ≡ Some wrong

first_wrong : (marks : List Mark) → has_wrong marks ≡ true → FirstWrong marks
first_wrong [] e = cc
first_wrong (m ∷ marks) e = by m.wrong refl (first_wrong marks)
  where
    by : (o : Option Wrong) → m.wrong ≡ o → (has_wrong marks ≡ true → FirstWrong marks) → FirstWrong (m ∷ marks)
    by (Some wrong) is rest = record { before = []; mark = m; later = marks; wrong = wrong; is = refl; clean = λ n has. absurd (none_contained n has); has = is }
    by None is rest =
        let found : FirstWrong marks = rest (sym (ap (λ o. is_some o || has_wrong marks) is) ∙ e) in
        record {
          before = m ∷ found.before;
          mark = found.mark;
          later = found.later;
          wrong = found.wrong;
          is = ap (λ l. m ∷ l) found.is;
          clean = λ n has. elim (contained_cases m found.before n has) [
            | inl same ↦ ap (λ (x : Mark). x.wrong) (sym same) ∙ is
            | inr inside ↦ found.clean n inside
          ];
          has = found.has;
        }

wrong_inside : (marks : List Mark) (w : FirstWrong marks) → Contains marks w.mark
wrong_inside marks w = subst (λ l. Contains l w.mark) (sym w.is) (Contains-append_right w.before (w.mark ∷ w.later) w.mark (first_contained w.mark w.later))

no_not : (marks : List Mark) → has_not marks ≡ false → (m : Mark) → Contains marks m → m.sign ≡ signs.Not → ⊥
no_not [] e m has is = none_contained m has
no_not (n ∷ marks) e m has is = elim (contained_cases n marks m has) [
  | inl same ↦ clash (is_not n.sign) (ap (λ (x : Mark). is_not x.sign) same ∙ ap is_not is) (or_first (is_not n.sign) (has_not marks) e)
  | inr inside ↦ no_not marks (or_second (is_not n.sign) (has_not marks) e) m inside is
]

-- ---- where reading stops in what two lists have in common
-- a list of which all fronts that are read, and all stops, are those of another one has its candidates
carry : (marks others : List Mark) (told : Told) → ((front : List Mark) (stop : Mark) → Stops marks front stop → Stops others front stop) → ((read : List Mark) → IsRead marks read → IsRead others read) → IsCandidate marks told → IsCandidate others told
carry marks others _ stops reads (by_stop front stop kind s named) = by_stop front stop kind (stops front stop s) named
carry marks others _ stops reads (by_itself read m wrong r has is) = by_itself read m wrong (reads read r) has is
carry marks others _ stops reads (by_and read place r ended) = by_and read place (reads read r) ended
carry marks others _ stops reads (by_span read place r ended) = by_span read place (reads read r) ended

-- reading stops before the end of these marks
record StopsIn (read : List Mark) : Type 0 where
  front : List Mark
  stop : Mark
  later : List Mark
  is : read ≡ front ++ stop ∷ later
  begins : AreBegun front
  stops : AreBegun (front ++ stop ∷ []) → ⊥

stops_at : (read rest : List Mark) (s : StopsIn read) → Stops (read ++ rest) s.front s.stop
stops_at read rest s = record { rest = s.later ++ rest; is = ap (λ l. l ++ rest) s.is ∙ append_assoc s.front (s.stop ∷ s.later) rest; begins = s.begins; stops = s.stops }

same_candidates : (read rest other : List Mark) → StopsIn read → (told : Told) → IsCandidate (read ++ rest) told → IsCandidate (read ++ other) told
same_candidates read rest other s told = carry (read ++ rest) (read ++ other) told stops reads
  where
    stops : (front : List Mark) (stop : Mark) → Stops (read ++ rest) front stop → Stops (read ++ other) front stop
    stops front stop h =
        let same = one_stop (as_stop h) (as_stop (stops_at read rest s)) in
        subst (λ l. Stops (read ++ other) l stop) (sym same.1) (subst (λ (m : Mark). Stops (read ++ other) s.front m) (sym same.0) (stops_at read other s))

    reads : (front : List Mark) → IsRead (read ++ rest) front → IsRead (read ++ other) front
    reads front h =
        let same : front ≡ s.front = one_read front s.front h (inr (s.stop, stops_at read rest s)) in
        subst (λ l. IsRead (read ++ other) l) (sym same) (inr (s.stop, stops_at read other s))

same_fault : (read rest other : List Mark) → StopsIn read → (told : Told) → IsFirstFault (read ++ rest) told → IsFirstFault (read ++ other) told
same_fault read rest other s told fault = record {
  is = same_candidates read rest other s told fault.is;
  first = λ next candidate. fault.first next (same_candidates read other rest s next candidate);
}

-- ---- where all of that is read
begun_front : (front later : List Mark) → AreBegun (front ++ later) → AreBegun front
begun_front front later (node, more, is) = (node, later ++ more, subst (λ u. IsQuery Any 32 node u) (append_assoc front later more) is)

stops_or_begun : (read : List Mark) (end : Mark) → is_ended (read ++ end ∷ []) ≡ true → StopsIn read ⊎ AreBegun read
stops_or_begun read end ended = elim (stops_or_reads (read ++ end ∷ []) ended) [
  | inl query ↦ inr (query.0, end ∷ [], query.1)
  | inr stopped ↦ within stopped.0 stopped.1 stopped.2
]
  where
    within : (front : List Mark) (stop : Mark) → Stops (read ++ end ∷ []) front stop → StopsIn read ⊎ AreBegun read
    within front stop s = elim (split read (end ∷ []) front (stop ∷ s.rest) s.is) [
      | inl h ↦ inr (begun_front read h.0 (subst AreBegun h.1 s.begins))
      | inr h ↦
          let same : h.0 ≡ stop = cc (h.3) in
          inl (record { front = front; stop = stop; later = h.1; is = h.2 ∙ ap (λ (m : Mark). front ++ m ∷ h.1) same; begins = s.begins; stops = s.stops })
    ]

-- what is read is no less
reads_over : (read rest front : List Mark) → AreBegun read → IsRead (read ++ rest) front → (more : List Mark) × (front ≡ read ++ more)
reads_over read rest front begun (inl (node, query, e)) = (rest, e)
reads_over read rest front begun (inr (stop, s)) = elim (split read rest front (stop ∷ s.rest) s.is) [
  | inl h ↦ (h.0, h.1)
  | inr h ↦
      let same : h.0 ≡ stop = cc (h.3) in
      let whole : read ≡ (front ++ stop ∷ []) ++ h.1 = h.2 ∙ ap (λ (m : Mark). front ++ m ∷ h.1) same ∙ sym (append_assoc front (stop ∷ []) h.1) in
      absurd (s.stops (begun_front (front ++ stop ∷ []) h.1 (subst AreBegun whole begun)))
]

ascend_later : (before later : List Mark) (m n : Mark) → Ascend (before ++ m ∷ later) → Contains later n → m.at < n.at
ascend_later [] later m n ascend has = ascend.0 n has
ascend_later (x ∷ before) later m n ascend has = ascend_later before later m n ascend.1 has

abbrev told_wrong : Mark → Wrong → Told
told_wrong m wrong = record { place = m.at; kind = wrong.kind; name = wrong.name }

-- the mark of the first item of what is read stands in it
item_inside : (a b c : List Mark) (place : ℕ) (first : FirstItem b place) → Contains (a ++ (b ++ c)) first.item
item_inside a b c place first =
    Contains-append_right a (b ++ c) first.item
    (Contains-append_left b c first.item (subst (λ u. Contains u first.item) (sym first.is) (Contains-append_right first.limiting (first.item ∷ first.rest) first.item (first_contained first.item first.rest))))

-- The first mark with which something is wrong is the first fault: what stops reading stands after it, and so does each NOT.
wrong_first : (read rest : List Mark) → AreOrderly (read ++ rest) → AreBegun read → has_not read ≡ false → (w : FirstWrong read) → IsFirstFault (read ++ rest) (told_wrong w.mark w.wrong)
wrong_first read rest orderly begun none w = record { is = candidate; first = after }
  where
    inside : (front : List Mark) → IsRead (read ++ rest) front → Contains front w.mark
    inside front reads =
        let over = reads_over read rest front begun reads in
        subst (λ u. Contains u w.mark) (sym over.1) (Contains-append_left read over.0 w.mark (wrong_inside read w))

    candidate : IsCandidate (read ++ rest) (told_wrong w.mark w.wrong)
    candidate = let found = some_read (read ++ rest) orderly.ended in by_itself found.0 w.mark w.wrong found.1 (inside found.0 found.1) w.has

    whole : read ++ rest ≡ w.before ++ w.mark ∷ (w.later ++ rest)
    whole = ap (λ u. u ++ rest) w.is ∙ append_assoc w.before (w.mark ∷ w.later) rest

    -- a NOT stands after it
    after_not : (place : ℕ) (m : Mark) → Contains (read ++ rest) m → m.sign ≡ signs.Not → place ≡ m.at → w.mark.at < place
    after_not place m has is at = elim (Contains-append_cases read rest m has) [
      | inl early ↦ absurd (no_not read none m early is)
      | inr later ↦ omega (arith, at, ascend_apart read rest w.mark m orderly.ascend (wrong_inside read w) later)
    ]

    -- and so does what else is wrong, or it is that
    after_wrong : (m : Mark) (wrong : Wrong) → Contains (read ++ rest) m → m.wrong ≡ Some wrong → IsUpTo (told_wrong w.mark w.wrong) (told_wrong m wrong)
    after_wrong m wrong has is = elim (Contains-append_cases w.before (w.mark ∷ (w.later ++ rest)) m (subst (λ u. Contains u m) whole has)) [
      | inl early ↦ absurd (both (sym (w.clean m early) ∙ is))
      | inr there ↦ elim (contained_cases w.mark (w.later ++ rest) m there) [
        | inl same ↦
            let found : Some w.wrong ≡ Some wrong = sym w.has ∙ ap (λ (x : Mark). x.wrong) same ∙ is in
            let one : w.wrong ≡ wrong = cc in
            inr (ap (λ (x : Mark). x.at) same, omega (arith, ap (λ (x : Wrong). order x.kind) one))
        | inr later ↦ inl (ascend_later w.before (w.later ++ rest) w.mark m (subst Ascend whole orderly.ascend) later)
      ]
    ]
      where
        both : None ≡ Some wrong → ⊥
        both e = cc

    after : (told : Told) → IsCandidate (read ++ rest) told → IsUpTo (told_wrong w.mark w.wrong) told
    after _ (by_stop front stop kind s named) =
        inl (ascend_apart front (stop ∷ s.rest) w.mark stop (subst Ascend s.is orderly.ascend) (inside front (inr (stop, s))) (first_contained stop s.rest))
    after _ (by_itself front m wrong reads has is) = after_wrong m wrong (read_contained front m reads has) is
    after _ (by_and front place reads ended) =
        let has : Contains front ended.at.item = subst (λ u. Contains u ended.at.item) (sym ended.is) (item_inside ended.a ended.b (ended.next ∷ ended.c) place ended.at) in
        inl (after_not place ended.at.item (read_contained front ended.at.item reads has) (and_first (IsGroup Any 32) ended.sections ended.b place ended.and ended.none ended.at) ended.at.at)
    after _ (by_span front place reads ended) =
        let split_is : front ≡ (ended.a ++ ended.limit ∷ []) ++ (ended.b ++ ended.next ∷ ended.c) = ended.is ∙ sym (append_assoc ended.a (ended.limit ∷ []) (ended.b ++ ended.next ∷ ended.c)) in
        let has : Contains front ended.at.item = subst (λ u. Contains u ended.at.item) (sym split_is) (item_inside (ended.a ++ ended.limit ∷ []) ended.b (ended.next ∷ ended.c) place ended.at) in
        let is_not = section_first (IsGroup Any 32) true (record { span = None; items = ended.items }) ended.b [] ended.b place ended.section ended.none (sym (append-nil ended.b)) ended.at in
        inl (after_not place ended.at.item (read_contained front ended.at.item reads has) is_not ended.at.at)

-- ---- the first fault
-- what is read isn't nested too deep
not_deep : (read : List Mark) → AreBegun read → 32 < depth_after 0 read → ⊥
not_deep read begun deep = omega (arith, front_nests 32 read begun, deep)

same_first : (read rest : List Mark) (end : Mark) (told : Told) → AreOrderly (read ++ end ∷ []) → AreOrderly (read ++ rest) → (32 < depth_after 0 read) ⊎ ((has_wrong read ≡ true) × (has_not read ≡ false)) → IsFirstFault (read ++ end ∷ []) told → IsFirstFault (read ++ rest) told
same_first read rest end told given all decided fault = elim (stops_or_begun read end given.ended) [
  | inl stops ↦ same_fault read (end ∷ []) rest stops told fault
  | inr begun ↦ elim decided [
    | inl deep ↦ absurd (not_deep read begun deep)
    | inr wrong ↦
        let w : FirstWrong read = first_wrong read wrong.0 in
        let same : told ≡ told_wrong w.mark w.wrong = one_fault given fault (wrong_first read (end ∷ []) given begun wrong.1 w) in
        subst (λ (t : Told). IsFirstFault (read ++ rest) t) (sym same) (wrong_first read rest all begun wrong.1 w)
  ]
]

pub first_of_enough : (size : ℕ) (all given : List Mark) (told : Told) → AreOrderly all → AreOrderly given → AreEnough size all given → IsFirstFault given told → IsFirstFault all told
first_of_enough size all given told all_orderly given_orderly (inl same) fault = subst (λ l. IsFirstFault l told) same fault
first_of_enough size all given told all_orderly given_orderly (inr cut) fault =
    subst (λ l. IsFirstFault l told) (sym cut.is)
    (same_first cut.read cut.rest (mark_at size None signs.End) told (subst AreOrderly cut.given_is given_orderly) (subst AreOrderly cut.is all_orderly) cut.decided (subst (λ l. IsFirstFault l told) cut.given_is fault))

-- the first fault of the marks that are given is that of all
pub first_of_all : (setting : Setting) (text : List ℕ) (pieces : List Piece) (given : List Mark) (told : Told) → IsUtf8 text → ArePieces (alphabet_in setting) text pieces → AreEnough (length text) (marks_of setting text pieces) given → IsFirstFault given told → IsFirstFault (marks_of setting text pieces) told
first_of_all setting text pieces given told utf8 are enough fault =
    first_of_enough (length text) (marks_of setting text pieces) given told (orderly setting text pieces utf8 are) (orderly_given setting text pieces given utf8 are enough) enough fault

-- ---- where there is no fault
-- a query without a fault was not cut short
not_cut : (size : ℕ) (all given : List Mark) → ((told : Told) → IsCandidate given told → ⊥) → StopsAt given None → IsCutShort size all given → ⊥
not_cut size all given sound (node, query) cut =
    let begun : AreBegun cut.read = (node, mark_at size None signs.End ∷ [], subst (λ u. IsQuery Any 32 node u) cut.given_is query) in
    elim cut.decided [
      | inl deep ↦ not_deep cut.read begun deep
      | inr wrong ↦
          let w : FirstWrong cut.read = first_wrong cut.read wrong.0 in
          let has : Contains given w.mark = subst (λ u. Contains u w.mark) (sym cut.given_is) (Contains-append_left cut.read (mark_at size None signs.End ∷ []) w.mark (wrong_inside cut.read w)) in
          sound (told_wrong w.mark w.wrong) (by_itself given w.mark w.wrong (inl (node, query, refl)) has w.has)
    ]

pub all_given : (size : ℕ) (all given : List Mark) → AreEnough size all given → ((told : Told) → IsCandidate given told → ⊥) → StopsAt given None → given ≡ all
all_given size all given (inl same) sound stops = same
all_given size all given (inr cut) sound stops = absurd (not_cut size all given sound stops cut)
