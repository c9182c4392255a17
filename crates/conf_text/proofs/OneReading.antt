-- A text is read in one way.
use Rattle.std.proofs.Common.{◌≡◌, ℕ, zero, suc, ◌<◌, Bool, true, false, List, [], ◌∷◌, ◌++◌, Option, Some, None, append_assoc, map, refl, sym, ◌∙◌, ap, subst, arith, inl, inr, ◌⊎◌}
use Rattle.std.specs.Prelude.{reverse, All, not, ◌||◌}
use Rattle.std.specs.Char.{IsScalar}
use Rattle.std.specs.List.{AllZip}
use Rattle.std.proofs.lemmas.Bool.{cases_lt, cases_order}
use Rattle.std.proofs.lemmas.List.{map-append, reverse-append}
use Rattle.charset_map.specs.declared.span.Span.{Span}
use Rattle.charset_map.specs.TableText.{IsTableOf, default_text}
use Rattle.charset_map.specs.Spans.{folded}
use Rattle.doc_types.specs.declared.schema.AttrKind.{AttrKind}
use Rattle.doc_types.specs.declared.schema.Schema.{Schema}
use Rattle.mark_scan.specs.declared.mark.MarkRules.{MarkRules}
use Rattle.index_conf.specs.declared.conf.Conf.{Conf}
use Rattle.index_conf.specs.declared.conf.IndexConf.{IndexConf}
use Rattle.conf_text.specs.declared.fault.ConfFault.{ConfFault}
use Rattle.conf_text.specs.declared.fault.ConfKind.{ConfKind}
use Rattle.conf_text.specs.declared.fault.ConfKind.TheVariants as kinds
use Rattle.conf_text.specs.declared.keys.Key.TheVariants as keys
use Rattle.conf_text.specs.Confs.{AreFaultless, AreLinesOf, AreSameIndex, IsCharsetBy, IsConfOf, IsFaultOf, IsFirstBadLine, IsFirstFault, IsIndexOf, IsUtf8Line, at_line, is_last, no_index, not_text, shape, shapes_back, too_long}
use Rattle.conf_text.specs.Faults.{AreGood, IsFaultAt, IsGoodAt, NoneStands, Stands, fits, is_outside, kinds_before}
use Rattle.conf_text.specs.Lines.{Line, lines_of}
use Rattle.conf_text.specs.Sections.{IndexText, Spot, given, indexes_in, place_after, place_in, spot_in}
use Rattle.conf_text.specs.Shapes.{Shape}
use Rattle.conf_text.proofs.Pairs.{all_head, all_tail}

-- ---- two places of a list
-- where the second place is: at the first one, after it, or before it
data Meets {T : Type 0} (before : List T) (here : T) (after : List T) (before' : List T) (here' : T) (after' : List T) : Type 0 where
  same : before ≡ before' → here ≡ here' → after ≡ after' → Meets before here after before' here' after'
  beyond : (between : List T) → before' ≡ before ++ here ∷ between → after ≡ between ++ here' ∷ after' → Meets before here after before' here' after'
  ahead : (between : List T) → before ≡ before' ++ here' ∷ between → after' ≡ between ++ here ∷ after → Meets before here after before' here' after'

meets_later : {T : Type 0} (x : T) (before after before' after' : List T) (here here' : T) → Meets before here after before' here' after' → Meets (x ∷ before) here after (x ∷ before') here' after'
meets_later x before after before' after' here here' (same a b c) = same (ap (λ l. x ∷ l) a) b c
meets_later x before after before' after' here here' (beyond between a b) = beyond between (ap (λ l. x ∷ l) a) b
meets_later x before after before' after' here here' (ahead between a b) = ahead between (ap (λ l. x ∷ l) a) b

meets : {T : Type 0} (before after before' after' : List T) (here here' : T) → before ++ here ∷ after ≡ before' ++ here' ∷ after' → Meets before here after before' here' after'
meets [] after [] after' here here' are =
    let first : here ≡ here' = cc in
    let rest : after ≡ after' = cc in
    same refl first rest
meets [] after (x ∷ before') after' here here' are =
    let first : here ≡ x = cc in
    let rest : after ≡ before' ++ here' ∷ after' = cc in
    beyond before' (ap (λ y. y ∷ before') (sym first)) rest
meets (x ∷ before) after [] after' here here' are =
    let first : x ≡ here' = cc in
    let rest : before ++ here ∷ after ≡ after' = cc in
    ahead before (ap (λ y. y ∷ before) first) (sym rest)
meets (x ∷ before) after (y ∷ before') after' here here' are =
    let first : x ≡ y = cc in
    let rest : before ++ here ∷ after ≡ before' ++ here' ∷ after' = cc in
    subst (λ z. Meets (x ∷ before) here after (z ∷ before') here' after') first (meets_later x before after before' after' here here' (meets before after before' after' here here' rest))

-- all that hold of a list hold of a place in it
all_here : {T : Type 0} (P : T → Type 0) (before after : List T) (here : T) → All P (before ++ here ∷ after) → P here
all_here P [] after here all = all_head P here after all
all_here P (x ∷ before) after here all = all_here P before after here (all_tail P x (before ++ here ∷ after) all)

-- ---- the kinds of faults of one line
-- how many kinds are looked for before
abbrev number : ConfKind → ℕ
number kinds.NotText = 0
number kinds.Syntax = 1
number kinds.UnknownSection = 2
number kinds.UnknownKey = 3
number kinds.BadValue = 4
number kinds.Repeated = 5
number kinds.Missing = 6
number kinds.Limit = 7

kind_of : ℕ → ConfKind
kind_of zero = kinds.NotText
kind_of (suc zero) = kinds.Syntax
kind_of (suc (suc zero)) = kinds.UnknownSection
kind_of (suc (suc (suc zero))) = kinds.UnknownKey
kind_of (suc (suc (suc (suc zero)))) = kinds.BadValue
kind_of (suc (suc (suc (suc (suc zero))))) = kinds.Repeated
kind_of (suc (suc (suc (suc (suc (suc zero)))))) = kinds.Missing
kind_of _ = kinds.Limit

kind_is : (kind : ConfKind) → kind_of (number kind) ≡ kind
unfolding kind_of
kind_is kinds.NotText = refl
kind_is kinds.Syntax = refl
kind_is kinds.UnknownSection = refl
kind_is kinds.UnknownKey = refl
kind_is kinds.BadValue = refl
kind_is kinds.Repeated = refl
kind_is kinds.Missing = refl
kind_is kinds.Limit = refl

few_kinds : (kind : ConfKind) → number kind < 8
few_kinds kinds.NotText = omega arith
few_kinds kinds.Syntax = omega arith
few_kinds kinds.UnknownSection = omega arith
few_kinds kinds.UnknownKey = omega arith
few_kinds kinds.BadValue = omega arith
few_kinds kinds.Repeated = omega arith
few_kinds kinds.Missing = omega arith
few_kinds kinds.Limit = omega arith

same_kind : (kind other : ConfKind) → number kind ≡ number other → kind ≡ other
same_kind kind other is = sym (kind_is kind) ∙ ap kind_of is ∙ kind_is other

-- the kinds before a kind are the one before it, and those before that one
next_kind : (n : ℕ) → n < 7 → kinds_before (kind_of (suc n)) ≡ kind_of n ∷ kinds_before (kind_of n)
unfolding kind_of
next_kind zero small = refl
next_kind (suc zero) small = refl
next_kind (suc (suc zero)) small = refl
next_kind (suc (suc (suc zero))) small = refl
next_kind (suc (suc (suc (suc zero)))) small = refl
next_kind (suc (suc (suc (suc (suc zero))))) small = refl
next_kind (suc (suc (suc (suc (suc (suc zero)))))) small = refl
next_kind (suc (suc (suc (suc (suc (suc (suc n))))))) small = absurd (omega (arith, small))

none_below : (n : ℕ) (spot : Spot) (line : Shape) (last : Bool) → n < 8 → NoneStands (kinds_before (kind_of n)) spot line last → (other : ConfKind) → number other < n → ¬ (Stands other spot line last)
none_below zero spot line last small none other below = absurd (omega (arith, below))
none_below (suc n) spot line last small none other below =
    let both : NoneStands (kind_of n ∷ kinds_before (kind_of n)) spot line last = subst (λ (ks : List ConfKind). NoneStands ks spot line last) (next_kind n (omega (arith, small))) none in
    elim (cases_lt (number other) n) [
      | inl less ↦ none_below n spot line last (omega (arith, small)) both.1 other less
      | inr at ↦ (let is : n ≡ number other = omega (arith, at, below) in subst (λ (k : ConfKind). ¬ (Stands k spot line last)) (ap kind_of is ∙ kind_is other) both.0)
    ]

none_before : (kind : ConfKind) (spot : Spot) (line : Shape) (last : Bool) → NoneStands (kinds_before kind) spot line last → (other : ConfKind) → number other < number kind → ¬ (Stands other spot line last)
none_before kind spot line last none = none_below (number kind) spot line last (few_kinds kind) (subst (λ (k : ConfKind). NoneStands (kinds_before k) spot line last) (sym (kind_is kind)) none)

none_stands : (kind : ConfKind) (spot : Spot) (line : Shape) (last : Bool) → IsGoodAt spot line last → ¬ (Stands kind spot line last)
none_stands kind spot line last good = elim (cases_lt (number kind) 7) [
  | inl less ↦ none_before kinds.Limit spot line last good.1 kind less
  | inr at ↦ (let is : 7 ≡ number kind = omega (arith, at, few_kinds kind) in subst (λ (k : ConfKind). ¬ (Stands k spot line last)) (same_kind kinds.Limit kind is) good.0)
]

one_kind : (kind other : ConfKind) (spot : Spot) (line : Shape) (last : Bool) → IsFaultAt kind spot line last → IsFaultAt other spot line last → kind ≡ other
one_kind kind other spot line last is are = elim (cases_order (number kind) (number other)) [
  | inl equal ↦ same_kind kind other equal
  | inr (inl less) ↦ absurd (none_before other spot line last are.first kind less is.stands)
  | inr (inr less) ↦ absurd (none_before kind spot line last is.first other less are.stands)
]

-- ---- lines
-- a line with others after it has no fault where none stands at any of them
good_within : (after : List Shape) (line : Shape) (before : List Shape) → AreGood (after ++ line ∷ before) → IsGoodAt (spot_in before) line false
good_within [] line before good = good.0
good_within (x ∷ after) line before good = good_within after line before good.1

shapes_around : (before between : List Line) (line : Line) → shapes_back (before ++ line ∷ between) ≡ shapes_back between ++ shape line ∷ shapes_back before
shapes_around before between line =
    ap reverse (map-append shape before (line ∷ between))
    ∙ reverse-append (map shape before) (shape line ∷ map shape between)
    ∙ ap (λ ls. ls ++ shapes_back before) (reverse-append (shape line ∷ []) (map shape between))
    ∙ append_assoc (shapes_back between) (shape line ∷ []) (shapes_back before)

-- a line that others follow, and at which a fault stands, is none of those at which none stands
not_passed : (lines : List Line) (fault : ConfFault) (first : IsFirstFault lines fault) (between : List Line) → AreGood (shapes_back (first.before ++ first.line ∷ between)) → is_last first.after ≡ false → ⊥
not_passed lines fault first between good followed =
    let spot : Spot = spot_in (shapes_back first.before) in
    let good : IsGoodAt spot (shape first.line) false = good_within (shapes_back between) (shape first.line) (shapes_back first.before) (subst AreGood (shapes_around first.before between first.line) good) in
    none_stands fault.kind spot (shape first.line) false good (subst (Stands fault.kind spot (shape first.line)) followed first.kind.stands)

not_last : (after between more : List Line) (line : Line) → after ≡ between ++ line ∷ more → is_last after ≡ false
not_last after [] more line are = ap is_last are
not_last after (x ∷ between) more line are = ap is_last are

same_parts : (f g : ConfFault) → f.line ≡ g.line → f.kind ≡ g.kind → f ≡ g
same_parts f g line kind =
    let by_line : record { line = f.line; kind = f.kind } ≡ record { line = g.line; kind = f.kind } = ap (λ (n : ℕ). let made : ConfFault = record { line = n; kind = f.kind } in made) line in
    by_line ∙ ap (λ (k : ConfKind). let made : ConfFault = record { line = g.line; kind = k } in made) kind

fault_here : (kind : ConfKind) (before other : List Line) (line here : Line) (after more : List Line) → before ≡ other → line ≡ here → after ≡ more → IsFaultAt kind (spot_in (shapes_back before)) (shape line) (is_last after) → IsFaultAt kind (spot_in (shapes_back other)) (shape here) (is_last more)
fault_here kind before other line here after more front is back fault =
    subst (λ (ls : List Line). IsFaultAt kind (spot_in (shapes_back ls)) (shape here) (is_last more)) front
    (subst (λ (l : Line). IsFaultAt kind (spot_in (shapes_back before)) (shape l) (is_last more)) is
    (subst (λ (ls : List Line). IsFaultAt kind (spot_in (shapes_back before)) (shape line) (is_last ls)) back fault))

one_first_fault : (lines : List Line) (f g : ConfFault) → IsFirstFault lines f → IsFirstFault lines g → f ≡ g
one_first_fault lines f g is are = elim (meets is.before is.after are.before are.after is.line are.line (sym is.are ∙ are.are)) [
  | same front here back ↦ same_parts f g (is.at ∙ ap (λ (l : Line). l.number) here ∙ sym are.at)
      (one_kind f.kind g.kind (spot_in (shapes_back are.before)) (shape are.line) (is_last are.after) (fault_here f.kind is.before are.before is.line are.line is.after are.after front here back is.kind) are.kind)
  | beyond between front back ↦ absurd (not_passed lines f is between (subst (λ (ls : List Line). AreGood (shapes_back ls)) front are.good) (not_last is.after between are.after are.line back))
  | ahead between front back ↦ absurd (not_passed lines g are between (subst (λ (ls : List Line). AreGood (shapes_back ls)) front is.good) (not_last are.after between is.after is.line back))
]

-- the last line has a fault only where others could have it there, or the text ends in a section
last_stands : (kind : ConfKind) (spot : Spot) (line : Shape) → is_outside (place_after spot.place line) ≡ true → Stands kind spot line true → Stands kind spot line false
last_stands kinds.Syntax spot line ends stands = ap (λ b. not (fits spot.place line) || not b) (sym ends) ∙ stands
last_stands kinds.NotText spot line ends stands = stands
last_stands kinds.UnknownSection spot line ends stands = stands
last_stands kinds.UnknownKey spot line ends stands = stands
last_stands kinds.BadValue spot line ends stands = stands
last_stands kinds.Repeated spot line ends stands = stands
last_stands kinds.Missing spot line ends stands = stands
last_stands kinds.Limit spot line ends stands = stands

last_is : (after : List Line) → (is_last after ≡ false) ⊎ (after ≡ [])
last_is [] = inr refl
last_is (line ∷ after) = inl refl

-- faultless lines have no first fault
not_both : (lines : List Line) (fault : ConfFault) → AreFaultless lines → IsFirstFault lines fault → ⊥
not_both lines fault fine first =
    let good : AreGood (shapes_back (first.before ++ first.line ∷ first.after)) = subst (λ (ls : List Line). AreGood (shapes_back ls)) first.are fine.good in
    elim (last_is first.after) [
      | inl followed ↦ not_passed lines fault first first.after good followed
      | inr none ↦ (
          let spot : Spot = spot_in (shapes_back first.before) in
          let all : lines ≡ first.before ++ first.line ∷ [] = first.are ∙ ap (λ (ls : List Line). first.before ++ first.line ∷ ls) none in
          let ends : is_outside (place_in (shapes_back (first.before ++ first.line ∷ []))) ≡ true = ap (λ (ls : List Line). is_outside (place_in (shapes_back ls))) (sym all) ∙ fine.ended in
          let shapes : shapes_back (first.before ++ first.line ∷ []) ≡ shape first.line ∷ shapes_back first.before = shapes_around first.before [] first.line in
          let beyond : is_outside (place_after spot.place (shape first.line)) ≡ true = ap (λ (ls : List Shape). is_outside (place_in ls)) (sym shapes) ∙ ends in
          let here : IsGoodAt spot (shape first.line) false = good_within (shapes_back first.after) (shape first.line) (shapes_back first.before) (subst AreGood (shapes_around first.before first.after first.line) good) in
          none_stands fault.kind spot (shape first.line) false here
          (last_stands fault.kind spot (shape first.line) beyond (subst (λ (ls : List Line). Stands fault.kind spot (shape first.line) (is_last ls)) none first.kind.stands)))
    ]

-- ---- bad lines
no_bad_line : (lines : List Line) (number : ℕ) → All IsUtf8Line lines → IsFirstBadLine lines number → ⊥
no_bad_line lines number all bad = bad.bad (all_here IsUtf8Line bad.before bad.after bad.line (subst (All IsUtf8Line) bad.are all))

one_bad_line : (lines : List Line) (m n : ℕ) → IsFirstBadLine lines m → IsFirstBadLine lines n → m ≡ n
one_bad_line lines m n is are = elim (meets is.before is.after are.before are.after is.line are.line (sym is.are ∙ are.are)) [
  | same front here back ↦ is.at ∙ ap (λ (l : Line). l.number) here ∙ sym are.at
  | beyond between front back ↦ absurd (is.bad (all_here IsUtf8Line is.before between is.line (subst (All IsUtf8Line) front are.good)))
  | ahead between front back ↦ absurd (are.bad (all_here IsUtf8Line are.before between are.line (subst (All IsUtf8Line) front is.good)))
]

-- ---- texts
same_lines : (text : List ℕ) (lines others : List Line) → AreLinesOf text lines → AreLinesOf text others → lines ≡ others
same_lines text lines others are these = are.are ∙ sym these.are

no_bad_text : (text : List ℕ) (lines : List Line) (number : ℕ) → AreLinesOf text lines → IsFirstBadLine (lines_of text) number → ⊥
no_bad_text text lines number are bad = no_bad_line (lines_of text) number (subst (All IsUtf8Line) are.are are.texts) bad

pub one_fault : (text : List ℕ) (f g : ConfFault) → IsFaultOf text f → IsFaultOf text g → f ≡ g
one_fault text f g (too_long long is) (too_long long' is') = is ∙ sym is'
one_fault text f g (too_long long is) (not_text short bad kind) = absurd (omega (arith, long, short))
one_fault text f g (too_long long is) (at_line lines are first) = absurd (omega (arith, long, are.short))
one_fault text f g (too_long long is) (no_index lines are fine none is') = absurd (omega (arith, long, are.short))
one_fault text f g (not_text short bad kind) (too_long long is) = absurd (omega (arith, long, short))
one_fault text f g (not_text short bad kind) (not_text short' bad' kind') = same_parts f g (one_bad_line (lines_of text) f.line g.line bad bad') (kind ∙ sym kind')
one_fault text f g (not_text short bad kind) (at_line lines are first) = absurd (no_bad_text text lines f.line are bad)
one_fault text f g (not_text short bad kind) (no_index lines are fine none is) = absurd (no_bad_text text lines f.line are bad)
one_fault text f g (at_line lines are first) (too_long long is) = absurd (omega (arith, long, are.short))
one_fault text f g (at_line lines are first) (not_text short bad kind) = absurd (no_bad_text text lines g.line are bad)
one_fault text f g (at_line lines are first) (at_line others these other) = one_first_fault others f g (subst (λ (ls : List Line). IsFirstFault ls f) (same_lines text lines others are these) first) other
one_fault text f g (at_line lines are first) (no_index others these fine none is) = absurd (not_both others f fine (subst (λ (ls : List Line). IsFirstFault ls f) (same_lines text lines others are these) first))
one_fault text f g (no_index lines are fine none is) (too_long long is') = absurd (omega (arith, long, are.short))
one_fault text f g (no_index lines are fine none is) (not_text short bad kind) = absurd (no_bad_text text lines g.line are bad)
one_fault text f g (no_index lines are fine none is) (at_line others these first) = absurd (not_both others g (subst AreFaultless (same_lines text lines others are these) fine) first)
one_fault text f g (no_index lines are fine none is) (no_index others these fine' none' is') = is ∙ sym is'

pub conf_or_fault : (text : List ℕ) (conf : Conf) (fault : ConfFault) → IsConfOf text conf → ¬ (IsFaultOf text fault)
conf_or_fault text conf fault is (too_long long kind) = omega (arith, long, is.are.short)
conf_or_fault text conf fault is (not_text short bad kind) = no_bad_text text is.lines fault.line is.are bad
conf_or_fault text conf fault is (at_line lines are first) = not_both lines fault (subst AreFaultless (same_lines text is.lines lines is.are are) is.faultless) first
conf_or_fault text conf fault is (no_index lines are fine none kind) = is.some (ap (λ (ls : List Line). indexes_in (shapes_back ls)) (same_lines text is.lines lines is.are are) ∙ none)

-- ---- configurations
-- a text is one table
abbrev OneTable : Type 0
OneTable = (text : List ℕ) (f g : ℕ → Option ℕ) (c : ℕ) → IsScalar c → IsTableOf text f → IsTableOf text g → f c ≡ g c

same_charset : OneTable → (value : Option (List ℕ)) (a b : List Span) → IsCharsetBy value a → IsCharsetBy value b → (c : ℕ) → IsScalar c → folded a c ≡ folded b c
same_charset one None a b is are c scalar = one default_text (folded a) (folded b) c scalar is are
same_charset one (Some value) a b is are c scalar = one value (folded a) (folded b) c scalar is are

made_schema : List ℕ → List (List ℕ) → List (List ℕ × AttrKind) → List (List ℕ) → Bool → ℕ → Schema
made_schema name fields attrs zones sp min_prefix = record { name = name; fields = fields; attrs = attrs; zones = zones; sp = sp; min_prefix = min_prefix }

same_schema : (a b : Schema) → a.name ≡ b.name → a.fields ≡ b.fields → a.attrs ≡ b.attrs → a.zones ≡ b.zones → a.sp ≡ b.sp → a.min_prefix ≡ b.min_prefix → a ≡ b
unfolding made_schema
same_schema a b name fields attrs zones sp min_prefix =
    let is : made_schema a.name a.fields a.attrs a.zones a.sp a.min_prefix ≡ made_schema b.name b.fields b.attrs b.zones b.sp b.min_prefix = cc in
    is

made_rules : Bool → Bool → List (List ℕ) → MarkRules
made_rules strip sp zones = record { strip = strip; sp = sp; zones = zones }

same_rules : (a b : MarkRules) → a.strip ≡ b.strip → a.sp ≡ b.sp → a.zones ≡ b.zones → a ≡ b
unfolding made_rules
same_rules a b strip sp zones =
    let is : made_rules a.strip a.sp a.zones ≡ made_rules b.strip b.sp b.zones = cc in
    is

some_same : (a b : List ℕ) → Some a ≡ Some b → a ≡ b
some_same a b is = cc

same_index : OneTable → (text : IndexText) (a b : IndexConf) → IsIndexOf text a → IsIndexOf text b → AreSameIndex a b
same_index one text a b is are =
    let zones : a.schema.zones ≡ b.schema.zones = is.zones ∙ sym are.zones in
    let sp : a.schema.sp ≡ b.schema.sp = is.sp ∙ sym are.sp in
    record {
      schema = same_schema a.schema b.schema (is.name ∙ sym are.name) (is.fields ∙ sym are.fields) (is.attrs ∙ sym are.attrs) zones sp (is.prefix ∙ sym are.prefix);
      rules = same_rules a.rules b.rules (is.strip ∙ sym are.strip) (is.rules_sp ∙ sp ∙ sym are.rules_sp) (is.rules_zones ∙ zones ∙ sym are.rules_zones);
      path = some_same a.path b.path (sym is.path ∙ are.path);
      charset = same_charset one (given keys.CharsetTable text.entries) a.charset b.charset is.charset are.charset;
    }

same_indexes : OneTable → (texts : List IndexText) (a b : List IndexConf) → AllZip IsIndexOf texts a → AllZip IsIndexOf texts b → AllZip AreSameIndex a b
same_indexes one [] [] [] is are = tt
same_indexes one [] (x ∷ a) b is are = absurd is
same_indexes one [] [] (y ∷ b) is are = absurd are
same_indexes one (t ∷ texts) [] b is are = absurd is
same_indexes one (t ∷ texts) (x ∷ a) [] is are = absurd are
same_indexes one (t ∷ texts) (x ∷ a) (y ∷ b) is are = (same_index one t x y is.0 are.0, same_indexes one texts a b is.1 are.1)

pub same_conf : OneTable → (text : List ℕ) (a b : Conf) → IsConfOf text a → IsConfOf text b → AllZip AreSameIndex a.indexes b.indexes
same_conf one text a b is are =
    same_indexes one (indexes_in (shapes_back are.lines)) a.indexes b.indexes
    (subst (λ (ls : List Line). AllZip IsIndexOf (indexes_in (shapes_back ls)) a.indexes) (same_lines text is.lines are.lines is.are are.are) is.indexes)
    are.indexes
