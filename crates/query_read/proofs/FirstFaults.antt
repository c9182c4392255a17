-- The choice of the first fault: within the marks that are read before the stop, and the stop where there is none.
use Rattle.std.proofs.Common.{◌≡◌, ℕ, suc, ◌+◌, ◌<◌, ◌≤◌, ltb, List, [], ◌∷◌, length, length-append, get_or, take, Option, Some, None, ◌⊎◌, inl, inr, refl, sym, ◌∙◌, ap, subst, append-nil, arith}
use Rattle.std.specs.Prelude.{Contains}
use Rattle.std.specs.List.{prefix_len}
use Rattle.std.proofs.Math.Seq.{take-append_seam, get_or-append_seam}
use Rattle.std.proofs.lemmas.Bool.{cases_order}
use Rattle.std.proofs.lemmas.List.Elements.{Contains-append_cases, Contains-append_left}
use Rattle.query_marks.specs.declared.fault.QueryKind.{QueryKind}
use Rattle.query_marks.specs.declared.fault.QueryKind.TheVariants as kinds
use Rattle.query_marks.specs.declared.fault.Wrong.{Wrong}
use Rattle.query_marks.specs.declared.mark.Mark.{Mark}
use Rattle.token_grammar.specs.Values.{Begins, IsStop}
use Rattle.token_grammar.proofs.Stops.{value_no_stop, one_stop}
use Rattle.query_grammar.specs.declared.fault.QueryFault.{QueryFault}
use Rattle.query_grammar.specs.Grammar.{IsQuery}
use Rattle.query_grammar.specs.QueryFaults.{Any, Told, Stops, IsNamed, EndedAnd, EndedSpan, IsRead, IsCandidate, by_stop, by_itself, by_and, by_span, IsUpTo, order}
use Rattle.query_grammar.specs.Queries.{told_of}
use Rattle.query_grammar.specs.steps.MarkFacts.{Ascend, AreOrderly}
use Rattle.query_grammar.specs.steps.Answers.{StopsAt, IsFound}
use Rattle.query_read.specs.steps.Choice.{nameless, wrong_at, IsReadUpTo, AreRead, IsFirstWrong, IsWithin, by_mark, by_end, IsFirstWithin, IsCalled}
use Rattle.query_read.specs.steps.Levels.{at_start, Refuses, IsLeast}
use Rattle.query_read.proofs.Ascending.{contains_first, contains_cases, split_contains, ascend_before, ascend_after, ascend_over, one_at_place, length_before}
use Rattle.query_read.proofs.EndedRefused.{ended_refused, ended_at_not}
use Rattle.query_read.proofs.Enders.{refused_ended}

-- ---- the marks that are read
is_stop : {marks front : List Mark} {stop : Mark} → Stops marks front stop → IsStop (IsQuery Any 32) marks stop
is_stop {marks} {front} {stop} s = record { front = front; rest = s.rest; is = s.is; begins = s.begins; stops = s.stops }

-- the marks before the place of the stop
before_place : (marks : List Mark) (place n : ℕ) → Ascend marks → StopsAt marks (Some place) → n ≡ prefix_len (λ (m : Mark). ltb m.at place) marks → IsReadUpTo marks (Some place) (take n marks)
before_place marks place n up (front, stop, s, at) n_is =
    let count : prefix_len (λ (m : Mark). ltb m.at place) marks ≡ length front =
    ap (λ (p : ℕ). prefix_len (λ (m : Mark). ltb m.at p) marks) at ∙ ap (prefix_len (λ (m : Mark). ltb m.at stop.at)) s.is ∙ length_before front stop s.rest (subst Ascend s.is up) in
    let read : take n marks ≡ front = ap (λ (k : ℕ). take k marks) (n_is ∙ count) ∙ ap (take (length front)) s.is ∙ take-append_seam front (stop ∷ s.rest) in
    (stop, subst (λ (l : List Mark). Stops marks l stop) (sym read) s, at)

pub read_before : (marks : List Mark) (stop : Option ℕ) (place n : ℕ) → stop ≡ Some place → Ascend marks → StopsAt marks stop → n ≡ prefix_len (λ (m : Mark). ltb m.at place) marks → IsReadUpTo marks stop (take n marks)
read_before marks stop place n is up stops n_is =
    subst (λ (o : Option ℕ). IsReadUpTo marks o (take n marks)) (sym is) (before_place marks place n up (subst (StopsAt marks) is stops) n_is)

read_of : (marks read : List Mark) (stop : Option ℕ) → IsReadUpTo marks stop read → IsRead marks read
read_of marks read None ((node, h), is) = inl (node, h, is)
read_of marks read (Some place) (stop, s, at) = inr (stop, s)

-- what is read is one list
one_read : (marks a b : List Mark) → IsRead marks a → IsRead marks b → a ≡ b
unfolding is_stop
one_read marks a b (inl (node, h, is)) (inl (node', h', is')) = is ∙ sym is'
one_read marks a b (inl (node, h, is)) (inr (stop, s)) = absurd (value_no_stop node h (is_stop s))
one_read marks a b (inr (stop, s)) (inl (node, h, is)) = absurd (value_no_stop node h (is_stop s))
one_read marks a b (inr (stop, s)) (inr (stop', s')) = (one_stop (is_stop s) (is_stop s')).1

-- the marks that are read are as a scan wants them
pub are_read : (marks read : List Mark) (stop : Option ℕ) → AreOrderly marks → IsReadUpTo marks stop read → AreRead read
are_read marks read None orderly ((node, h), is) = record {
  begins = (node, [], subst (λ (l : List Mark). IsQuery Any 32 node l) (sym is ∙ sym (append-nil read)) h);
  ascend = subst Ascend (sym is) orderly.ascend;
  clean = λ m has. orderly.clean m (subst (λ (l : List Mark). Contains l m) is has);
}
are_read marks read (Some place) orderly (stop, s, at) = record {
  begins = s.begins;
  ascend = ascend_before read (stop ∷ s.rest) (subst Ascend s.is orderly.ascend);
  clean = λ m has. orderly.clean m (subst (λ (l : List Mark). Contains l m) (sym s.is) (Contains-append_left read (stop ∷ s.rest) m has));
}

-- ---- the first within them
some_none : {P : Type 0} {wrong : Wrong} (m : Mark) → m.wrong ≡ Some wrong → m.wrong ≡ None → P
some_none m some none = cc

some_wrong : (o : Option Wrong) (a b : Wrong) → o ≡ Some a → o ≡ Some b → a ≡ b
some_wrong o a b one other = cc

kind_of : (told : Told) (place : ℕ) (kind : QueryKind) → told ≡ nameless place kind → told.kind ≡ kind
kind_of told place kind is = ap (λ (t : Told). t.kind) is

place_of : (told other : Told) → told ≡ other → told.place ≡ other.place
place_of told other is = ap (λ (t : Told). t.place) is

up_to_itself : (told other : Told) → told ≡ other → IsUpTo told other
up_to_itself told other is =
    let kinds_same : order told.kind ≡ order other.kind = ap (λ (t : Told). order t.kind) is in
    inr (place_of told other is, omega (arith, kinds_same))

pub none_within : (read : List Mark) → IsLeast (Refuses at_start read) None → IsFirstWrong read None → IsFirstWithin read None
none_within read none clean told (by_mark m wrong has is told_is) = some_none m is (clean m has)
none_within read none clean told (by_end ended told_is) = let (least, is, up) = ended_refused read told.place ended in none least is

-- the first mark with which something is wrong, before each place that is refused
pub wrong_within : (read : List Mark) (fault : QueryFault) → Ascend read → ((place : ℕ) → Refuses at_start read place → fault.place < place) → IsFirstWrong read (Some fault) → IsFirstWithin read (Some fault)
wrong_within read fault up before (a, m, b, wrong, read_is, is, fault_is, clean) =
    (by_mark m wrong (split_contains read a m b read_is) is fault_is, others)
  where
    at : fault.place ≡ m.at
    at = place_of (told_of fault) (wrong_at m wrong) fault_is

    later : (n : Mark) → Contains b n → m.at < n.at
    later n has = (ascend_after a (m ∷ b) (subst Ascend read_is up)).0 n has

    others : (other : Told) → IsWithin read other → IsUpTo (told_of fault) other
    others other (by_end ended other_is) =
        let (least, refused, up') = ended_refused read other.place ended in
        let below : fault.place < least = before least refused in
        inl (omega (arith, below, up'))
    others other (by_mark n wrong' has is' other_is) = elim (Contains-append_cases a (m ∷ b) n (subst (λ (l : List Mark). Contains l n) read_is has)) [
      | inl first ↦ some_none n is' (clean n first)
      | inr second ↦ elim (contains_cases m b n second) [
        | inl same ↦ up_to_itself (told_of fault) other
            (fault_is ∙ ap (λ (k : Mark). wrong_at k wrong) same ∙ ap (λ (w : Wrong). wrong_at n w) (some_wrong n.wrong wrong wrong' (ap (λ (k : Mark). k.wrong) (sym same) ∙ is) is') ∙ sym other_is)
        | inr after ↦ (
            let below : m.at < n.at = later n after in
            let there : other.place ≡ n.at = place_of other (wrong_at n wrong') other_is in
            inl (omega (arith, at, below, there)))
      ]
    ]

-- the least place that is refused, before each mark with which something is wrong
pub refused_within : (read : List Mark) (fault : QueryFault) (place : ℕ) → Begins (IsQuery Any 32) read → IsLeast (Refuses at_start read) (Some place) → ((m : Mark) (wrong : Wrong) → Contains read m → m.wrong ≡ Some wrong → place < m.at) → told_of fault ≡ nameless place kinds.OnlyNot → IsFirstWithin read (Some fault)
refused_within read fault place begins (has, least) before fault_is =
    (by_end (subst (λ (p : ℕ). EndedAnd read p ⊎ EndedSpan read p) (sym at) (refused_ended read place begins has)) (fault_is ∙ ap (λ (p : ℕ). nameless p kinds.OnlyNot) (sym at)), others)
  where
    at : fault.place ≡ place
    at = place_of (told_of fault) (nameless place kinds.OnlyNot) fault_is

    others : (other : Told) → IsWithin read other → IsUpTo (told_of fault) other
    others other (by_mark m wrong has' is other_is) =
        let below : place < m.at = before m wrong has' is in
        let there : other.place ≡ m.at = place_of other (wrong_at m wrong) other_is in
        inl (omega (arith, at, below, there))
    others other (by_end ended other_is) =
        let (p, refused, up) = ended_refused read other.place ended in
        let below : place ≤ p = least p refused in
        let kind : order fault.kind ≡ 2 = ap order (kind_of (told_of fault) place kinds.OnlyNot fault_is) in
        let kind' : order other.kind ≡ 2 = ap order (kind_of other other.place kinds.OnlyNot other_is) in
        elim (cases_order fault.place other.place) [
          | inl same ↦ inr (same, omega (arith, kind, kind'))
          | inr (inl less) ↦ inl less
          | inr (inr more) ↦ absurd (omega (arith, more, at, below, up))
        ]

-- nothing is wrong with the mark at a place that is refused
pub wrong_apart : (read : List Mark) (place : ℕ) (m : Mark) (wrong : Wrong) → AreRead read → Refuses at_start read place → Contains read m → m.wrong ≡ Some wrong → place ≡ m.at → ⊥
wrong_apart read place m wrong are refused has is same =
    let (n, has', at, negates) = ended_at_not read place (refused_ended read place are.begins refused) in
    let one : m ≡ n = one_at_place read m n are.ascend has has' (sym same ∙ sym at) in
    some_none m is (ap (λ (k : Mark). k.wrong) one ∙ are.clean n has' negates)

-- the first mark with which something is wrong is before the others
wrong_first : (read : List Mark) (fault : QueryFault) → Ascend read → IsFirstWrong read (Some fault) → (n : Mark) (wrong : Wrong) → Contains read n → n.wrong ≡ Some wrong → fault.place ≤ n.at
wrong_first read fault up (a, m, b, wrong', read_is, is, fault_is, clean) n wrong has is' =
    let at : fault.place ≡ m.at = place_of (told_of fault) (wrong_at m wrong') fault_is in
    elim (Contains-append_cases a (m ∷ b) n (subst (λ (l : List Mark). Contains l n) read_is has)) [
      | inl first ↦ some_none n is' (clean n first)
      | inr second ↦ elim (contains_cases m b n second) [
        | inl same ↦ (let there : m.at ≡ n.at = ap (λ (k : Mark). k.at) same in omega (arith, at, there))
        | inr after ↦ (let below : m.at < n.at = (ascend_after a (m ∷ b) (subst Ascend read_is up)).0 n after in omega (arith, at, below))
      ]
    ]

-- ---- what a choice between both answers
Refused : List Mark → Option ℕ → Type 0
Refused read found = IsLeast (Refuses at_start read) found

pub choose_wrong : (read : List Mark) (found : Option ℕ) (place : ℕ) (wrong : Option QueryFault) (fault : QueryFault) → AreRead read → IsLeast (Refuses at_start read) found → IsFirstWrong read wrong → found ≡ Some place → wrong ≡ Some fault → fault.place < place → IsFirstWithin read (Some fault)
unfolding Refused
choose_wrong read found place wrong fault are least first found_is wrong_is below =
    let (has, up) = subst (Refused read) found_is least in
    wrong_within read fault are.ascend (λ p refused. let more : place ≤ p = up p refused in omega (arith, more, below)) (subst (IsFirstWrong read) wrong_is first)

pub choose_refused : (read : List Mark) (found : Option ℕ) (place : ℕ) (wrong : Option QueryFault) (other fault : QueryFault) → AreRead read → IsLeast (Refuses at_start read) found → IsFirstWrong read wrong → found ≡ Some place → wrong ≡ Some other → place ≤ other.place → told_of fault ≡ nameless place kinds.OnlyNot → IsFirstWithin read (Some fault)
unfolding Refused
choose_refused read found place wrong other fault are least first found_is wrong_is below fault_is =
    let refused : Refused read (Some place) = subst (Refused read) found_is least in
    refused_within read fault place are.begins refused (λ m w has is. before m w has is (wrong_first read other are.ascend (subst (IsFirstWrong read) wrong_is first) m w has is) refused.0) fault_is
  where
    before : (m : Mark) (w : Wrong) → Contains read m → m.wrong ≡ Some w → other.place ≤ m.at → Refuses at_start read place → place < m.at
    before m w has is up refused = elim (cases_order place m.at) [
      | inl same ↦ absurd (wrong_apart read place m w are refused has is same)
      | inr (inl less) ↦ less
      | inr (inr more) ↦ absurd (omega (arith, more, up, below))
    ]

pub choose_only : (read : List Mark) (found : Option ℕ) (place : ℕ) (wrong : Option QueryFault) (fault : QueryFault) → AreRead read → IsLeast (Refuses at_start read) found → IsFirstWrong read wrong → found ≡ Some place → wrong ≡ None → told_of fault ≡ nameless place kinds.OnlyNot → IsFirstWithin read (Some fault)
unfolding Refused
choose_only read found place wrong fault are least first found_is wrong_is fault_is =
    refused_within read fault place are.begins (subst (Refused read) found_is least) (λ m w has is. some_none m is (subst (IsFirstWrong read) wrong_is first m has)) fault_is

pub choose_none : (read : List Mark) (found : Option ℕ) (wrong : Option QueryFault) → AreRead read → IsLeast (Refuses at_start read) found → IsFirstWrong read wrong → found ≡ None → IsFirstWithin read wrong
unfolding Refused
choose_none read found wrong are least first found_is = chosen wrong first (subst (Refused read) found_is least)
  where
    chosen : (wrong : Option QueryFault) → IsFirstWrong read wrong → Refused read None → IsFirstWithin read wrong
    chosen None first none = none_within read none first
    chosen (Some fault) first none = wrong_within read fault are.ascend (λ p refused. absurd (none p refused)) first

-- ---- the first of a text
candidate_of : (marks read : List Mark) → IsRead marks read → (told : Told) → IsWithin read told → IsCandidate marks told
candidate_of marks read is_read told (by_mark m wrong has is told_is) = subst (IsCandidate marks) (sym told_is) (by_itself read m wrong is_read has is)
candidate_of marks read is_read told (by_end (inl ended) told_is) = subst (IsCandidate marks) (sym told_is) (by_and read told.place is_read ended)
candidate_of marks read is_read told (by_end (inr ended) told_is) = subst (IsCandidate marks) (sym told_is) (by_span read told.place is_read ended)

-- a fault of the stop
record IsStopFault (marks : List Mark) (told : Told) : Type 0 where
  front : List Mark
  stop : Mark
  kind : QueryKind
  stops : Stops marks front stop
  named : IsNamed front stop kind
  is : told ≡ nameless stop.at kind

-- a fault is that of the stop, or stands within what is read
judged : (marks read : List Mark) → IsRead marks read → (told : Told) → IsCandidate marks told → IsStopFault marks told ⊎ IsWithin read told
judged marks read is_read told (by_stop front stop kind stops named) = inl (record { front = front; stop = stop; kind = kind; stops = stops; named = named; is = refl })
judged marks read is_read told (by_itself other m wrong r has is) = inr (by_mark m wrong (subst (λ (l : List Mark). Contains l m) (one_read marks other read r is_read) has) is refl)
judged marks read is_read told (by_and other place r ended) = inr (by_end (inl (subst (λ (l : List Mark). EndedAnd l place) (one_read marks other read r is_read) ended)) refl)
judged marks read is_read told (by_span other place r ended) = inr (by_end (inr (subst (λ (l : List Mark). EndedSpan l place) (one_read marks other read r is_read) ended)) refl)

-- what is refused within the marks that are read stands at one of them
within_at : (read : List Mark) (told : Told) → IsWithin read told → (m : Mark) × Contains read m × (m.at ≡ told.place)
within_at read told (by_mark m wrong has is told_is) = (m, has, sym (place_of told (wrong_at m wrong) told_is))
within_at read told (by_end ended told_is) = let (m, has, at, negates) = ended_at_not read told.place ended in (m, has, at)

-- the stop is where it was told
same_stop : (marks read : List Mark) (place : ℕ) (told : Told) → IsReadUpTo marks (Some place) read → IsStopFault marks told → told.place ≡ place
unfolding is_stop
same_stop marks read place told (stop, s, at) f =
    let (same, fronts) = one_stop (is_stop f.stops) (is_stop s) in
    place_of told (nameless f.stop.at f.kind) f.is ∙ ap (λ (m : Mark). m.at) same ∙ sym at

-- a fault within what is read is the first of the text
pub found_within : (marks read : List Mark) (stop : Option ℕ) (fault : QueryFault) → AreOrderly marks → IsReadUpTo marks stop read → IsFirstWithin read (Some fault) → IsFound marks (Some fault)
found_within marks read stop fault orderly up (has, least) =
    let is_read : IsRead marks read = read_of marks read stop up in
    record { is = candidate_of marks read is_read (told_of fault) has; first = λ other candidate. elim (judged marks read is_read other candidate) [ inl f ↦ before_stop stop up other f | inr within ↦ least other within ] }
  where
    before_stop : (stop : Option ℕ) → IsReadUpTo marks stop read → (other : Told) → IsStopFault marks other → IsUpTo (told_of fault) other
    before_stop None ((node, h), is) other f = absurd (value_no_stop node h (is_stop f.stops))
    before_stop (Some place) up other f =
        let (s, stops, at) = up in
        let (m, here, m_at) = within_at read (told_of fault) has in
        let below : m.at < s.at = ascend_over read (s ∷ stops.rest) m s (subst Ascend stops.is orderly.ascend) here (contains_first s stops.rest) in
        let there : other.place ≡ place = same_stop marks read place other up f in
        inl (omega (arith, below, there, at, m_at))

-- no fault within what is read, and no stop
pub found_none : (marks read : List Mark) → IsReadUpTo marks None read → IsFirstWithin read None → IsFound marks None
found_none marks read ((node, h), is) none told candidate = elim (judged marks read (inl (node, h, is)) told candidate) [
  | inl f ↦ value_no_stop node h (is_stop f.stops)
  | inr within ↦ none told within
]

-- no fault within what is read: that of the stop is the first of the text
pub found_stop : (marks read : List Mark) (place : ℕ) (stop : Mark) (kind : QueryKind) (fault : QueryFault) → Stops marks read stop → place ≡ stop.at → IsCalled read stop kind → IsFirstWithin read None → told_of fault ≡ nameless place kind → IsFound marks (Some fault)
unfolding is_stop
found_stop marks read place stop kind fault stops at called none fault_is =
    let told_is : told_of fault ≡ nameless stop.at kind = fault_is ∙ ap (λ (p : ℕ). nameless p kind) at in
    record { is = subst (IsCandidate marks) (sym told_is) (by_stop read stop kind stops called.named); first = λ other candidate. elim (judged marks read (inr (stop, stops)) other candidate) [ inl f ↦ after told_is other f | inr within ↦ absurd (none other within) ] }
  where
    after : told_of fault ≡ nameless stop.at kind → (other : Told) → IsStopFault marks other → IsUpTo (told_of fault) other
    after told_is other f =
        let (same, fronts) = one_stop (is_stop f.stops) (is_stop stops) in
        let named : IsNamed read stop f.kind = subst (λ (m : Mark). IsNamed read m f.kind) same (subst (λ (l : List Mark). IsNamed l f.stop f.kind) fronts f.named) in
        let up : order kind ≤ order f.kind = called.first f.kind named in
        let here : fault.place ≡ stop.at = place_of (told_of fault) (nameless stop.at kind) told_is in
        let there : other.place ≡ f.stop.at = place_of other (nameless f.stop.at f.kind) f.is in
        let stops_at : f.stop.at ≡ stop.at = ap (λ (m : Mark). m.at) same in
        let kind_here : order fault.kind ≡ order kind = ap order (kind_of (told_of fault) stop.at kind told_is) in
        let kind_there : order other.kind ≡ order f.kind = ap order (kind_of other f.stop.at f.kind f.is) in
        inr (here ∙ sym stops_at ∙ sym there, omega (arith, up, kind_here, kind_there))

-- the mark after those that are read is the stop
pub stop_after : (marks read : List Mark) (stop : Option ℕ) (place : ℕ) (m : Mark) → stop ≡ Some place → IsReadUpTo marks stop read → m ≡ get_or marks (length read) m → Stops marks read m × (place ≡ m.at)
stop_after marks read stop place m is up m_is =
    let (s, stops, at) = subst (λ (o : Option ℕ). IsReadUpTo marks o read) is up in
    let same : m ≡ s = m_is ∙ ap (λ (l : List Mark). get_or l (length read) m) stops.is ∙ get_or-append_seam read s stops.rest m in
    (subst (Stops marks read) (sym same) stops, at ∙ ap (λ (n : Mark). n.at) (sym same))

pub stop_within : (marks read : List Mark) (stop : Option ℕ) (place : ℕ) → stop ≡ Some place → IsReadUpTo marks stop read → length read < length marks
stop_within marks read stop place is up =
    let (s, stops, at) = subst (λ (o : Option ℕ). IsReadUpTo marks o read) is up in
    let count : length marks ≡ length read + length (s ∷ stops.rest) = ap length stops.is ∙ length-append read (s ∷ stops.rest) in
    let more : length (s ∷ stops.rest) ≡ suc (length stops.rest) = refl in
    omega (arith, count, more)
