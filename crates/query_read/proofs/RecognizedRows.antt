-- What the recognizers make of parts in a row: a part that was read is a text of its expression, and so are parts that were.
use Rattle.std.proofs.Common.{arith, ◌≡◌, ◌<◌, ℕ, List, [], ◌∷◌, ◌++◌, length, Bool, true, false, inl, inr, refl, sym, ◌∙◌, ap, subst}
use Rattle.std.specs.Prelude.{Result, Err}
use Rattle.std.specs.Result.{IsErrAnd}
use Rattle.std.proofs.lemmas.Bool.{eq-eqb}
use Rattle.std.proofs.lemmas.Result.{err_from_is_err_and}
use Rattle.srch_base.specs.declared.faults.Or.{Or}
use Rattle.srch_base.specs.declared.faults.Or.TheVariants.{Fault}
use Rattle.token_grammar.specs.Language.{Re, one, seq, many, Repeats, none, more, In, nullable, ◌⨾◌, ◌∣◌}
use Rattle.token_grammar.specs.Firsts.{is_in, may_follow}
use Rattle.token_grammar.specs.Values.{IsOne, AreInRow}
use Rattle.token_grammar.specs.Reading.{FailsPart, TakesPart, IsNextOf, TakesIf}
use Rattle.token_grammar.specs.steps.Deciding.{begun, excludes}
use Rattle.token_grammar.specs.steps.Progress.{TakesRow}
use Rattle.token_grammar.proofs.Bools.{clash}
use Rattle.token_grammar.proofs.Laws.{has_nullable}
use Rattle.token_grammar.proofs.Rows.{any_follows, takes_seq, plain_seq, plain_next, takes_as, takes_shorter, from_there, now_there}
use Rattle.token_grammar.proofs.Choices.{takes_if, fails_if, takes_second, fails_second}
use Rattle.token_grammar.proofs.Lists.{row_none, row_more, row_fails, row_done}
use Rattle.query_marks.specs.declared.mark.Mark.{Mark}
use Rattle.query_grammar.specs.declared.class.Class.{Class}
use Rattle.query_grammar.specs.steps.Classes.{class_number, same_class, fits}
use Rattle.query_grammar.specs.steps.MarkAlphabet.{query_marks}
use Rattle.query_read.specs.steps.Recognizing.{Recognized, Recognizes, TakesEither}
use Rattle.query_read.proofs.RowSteps.{IsOver, TakesFrom, from_first, from_more, from_fails, from_done, over_else, over_either, takes_less}

-- the exit of a `?`
pub stops_with : {r : Re Class} {cs : List Class} {before : List Mark} (now : List Mark) {place : ℕ} (result : Result (Unit {0}) ℕ) → IsErrAnd result (λ y. y ≡ place) → FailsPart query_marks r cs before (Fault place) → Recognizes r cs before result now
stops_with {r} {cs} {before} now result err h =
    let (y, is, same) = err_from_is_err_and result err in
    subst (λ (x : Result (Unit {0}) ℕ). Recognizes r cs before x now) (sym (is ∙ ap Err same)) h

-- A mark of a class was taken, ..
pub taken : {c : Class} {before now : List Mark} → TakesPart query_marks (one c) [] (IsOne (λ m. fits c m ≡ true)) before now → Recognized (one c) [] before now
unfolding In
taken h = takes_as (λ u i. i) h

-- .. of one of two classes, where it isn't of the first
pub taken_second : {c : Class} (d : Class) {before mid : List Mark} (now : List Mark) (answer : Bool) → mid ≡ before → IsNextOf query_marks c before false → TakesIf query_marks d (IsOne (λ m. fits d m ≡ true)) mid answer now → TakesEither c d before answer now
taken_second {c} d now true same n (h, m) = inr (taken (from_there same h), subst (λ u. IsNextOf query_marks d u true) same m)
taken_second {c} d now false same n (still, m) = (still ∙ same, n, subst (λ u. IsNextOf query_marks d u false) same m)

-- a part and another
pub part_then : {r s : Re Class} {cs ds : List Class} {before mid now : List Mark} → Recognized r cs before mid → may_follow query_marks cs s ds ≡ true → Recognized s ds mid now → Recognized (seq r s) ds before now
unfolding In
part_then first follows second = takes_as (λ u h. h) (takes_seq first follows second)

-- a class is itself
pub itself : (c : Class) → same_class c c ≡ true
itself c = eq-eqb (class_number c) (class_number c) refl

repeats : (s : Re Class) (parts : List (Unit {0})) (u : List Mark) → AreInRow (λ (x : Unit {0}). In query_marks s) parts u → Repeats (In query_marks s) u
repeats s [] u is = none is
repeats s (x ∷ parts) u (a, b, is, first, rest) = more a b is first (repeats s parts b rest)

-- Parts in a row that were read so far, each of which begins with a class: none, ..
abbrev pub RowRead : Class → Re Class → List Mark → List Mark → Type 0
RowRead c s before now = (parts : List (Unit {0})) × TakesRow query_marks s (c ∷ []) (λ (x : Unit {0}). In query_marks s) before parts now

pub row_begins : {c : Class} {s : Re Class} {before : List Mark} → RowRead c s before before
row_begins = ([], row_none)

-- .. one more, ..
pub row_goes : {c : Class} {s : Re Class} {before mid now : List Mark} → RowRead c s before mid → IsNextOf query_marks c mid true → Recognized s [] mid now → RowRead c s before now
row_goes {c} {s} (parts, row) n h = (parts ++ tt ∷ [], row_more row n h (any_follows query_marks (many s) (c ∷ [])))

-- .. one that can't be read, ..
pub row_stops : {c : Class} {s : Re Class} {before mid : List Mark} {e : Or ℕ} → RowRead c s before mid → IsNextOf query_marks c mid true → FailsPart query_marks s [] mid e → FailsPart query_marks (many s) (c ∷ []) before e
row_stops {c} {s} (parts, row) n h = row_fails row n h (any_follows query_marks (many s) (c ∷ []))

-- .. and no more
pub row_ends : {c : Class} {s : Re Class} {before there now : List Mark} → RowRead c s before there → now ≡ there → IsNextOf query_marks c there false → begun query_marks c s ≡ true → Recognized (many s) (c ∷ []) before now
unfolding In
row_ends {c} {s} (parts, row) same n begins = now_there same (takes_as (λ u h. repeats s parts u h) (row_done row n begins))

-- A part that was read, and then others in a row: the first, ..
abbrev pub PartsRead : Re Class → Re Class → List Class → List Mark → List Mark → Type 0
PartsRead r s ds before now = (parts : List (Unit {0})) × TakesFrom query_marks r s ds (In query_marks r) (λ (x : Unit {0}). In query_marks s) before parts now

pub parts_first : {r s : Re Class} {cs ds : List Class} {before now : List Mark} → Recognized r cs before now → may_follow query_marks cs (many s) ds ≡ true → PartsRead r s ds before now
parts_first h follows = ([], from_first h follows)

-- .. one more, ..
pub parts_more : {r s : Re Class} {c : Class} {cs ds : List Class} {before mid now : List Mark} → PartsRead r s ds before mid → IsNextOf query_marks c mid true → is_in query_marks c ds ≡ true → Recognized s cs mid now → may_follow query_marks cs (many s) ds ≡ true → PartsRead r s ds before now
parts_more (parts, row) n among h follows = (parts ++ tt ∷ [], from_more row n among h follows)

-- .. one that can't be read, ..
pub parts_fail : {r s : Re Class} {c : Class} {cs ds : List Class} {before mid : List Mark} {e : Or ℕ} → PartsRead r s ds before mid → IsNextOf query_marks c mid true → is_in query_marks c ds ≡ true → FailsPart query_marks s cs mid e → may_follow query_marks cs (many s) ds ≡ true → FailsPart query_marks (seq r (many s)) ds before e
parts_fail (parts, row) n among h follows = from_fails row n among h follows

-- .. and no more
pub parts_done : {r s : Re Class} {ds : List Class} {before now : List Mark} → PartsRead r s ds before now → IsOver query_marks s now → Recognized (seq r (many s)) ds before now
unfolding In
parts_done {r} {s} (parts, row) over = takes_as (λ u (a, b, is, first, rest). (a, b, is, first, repeats s parts b rest)) (from_done row over)

-- Two operators between parts, of the classes c and d.
abbrev pub either_then : Class → Class → Re Class → Re Class
either_then c d x = one c ⨾ x ∣ one d ⨾ x

pub record IsChoice (c d : Class) (x : Re Class) (cs ds : List Class) : Type 0 where
  pub first_in : is_in query_marks c ds ≡ true
  pub second_in : is_in query_marks d ds ≡ true
  pub first_apart : excludes query_marks c (one d ⨾ x) ≡ true
  pub second_apart : excludes query_marks d (one c ⨾ x) ≡ true
  pub follows : may_follow query_marks cs (many (either_then c d x)) ds ≡ true

module _ {c d : Class} {x : Re Class} {cs ds : List Class} (choice : IsChoice c d x cs ds) where
  -- one part more, ..
  pub choice_more : {before mid there now : List Mark} → PartsRead x (either_then c d x) ds before mid → TakesEither c d mid true there → Recognized x cs there now → PartsRead x (either_then c d x) ds before now
  unfolding In
  choice_more row (inl (between, n)) h = parts_more row n choice.first_in (takes_if n choice.first_apart (takes_as (λ u i. inl i) (plain_seq between h))) choice.follows
  choice_more row (inr (between, n)) h = parts_more row n choice.second_in (takes_second n choice.second_apart (takes_as (λ u i. inr i) (plain_seq between h))) choice.follows

  -- .. one that can't be read, ..
  pub choice_fails : {before mid there : List Mark} {e : Or ℕ} → PartsRead x (either_then c d x) ds before mid → TakesEither c d mid true there → FailsPart query_marks x cs there e → FailsPart query_marks (x ⨾ many (either_then c d x)) ds before e
  choice_fails row (inl (between, n)) h = parts_fail row n choice.first_in (fails_if n choice.first_apart (plain_next between h)) choice.follows
  choice_fails row (inr (between, n)) h = parts_fail row n choice.second_in (fails_second n choice.second_apart (plain_next between h)) choice.follows

  -- .. and no more
  pub choice_done : {before mid now : List Mark} → PartsRead x (either_then c d x) ds before mid → TakesEither c d mid false now → Recognized (x ⨾ many (either_then c d x)) ds before now
  choice_done row (same, n, m) = now_there same (parts_done row (over_either query_marks _ _ (over_else query_marks _ n (itself c)) (over_else query_marks _ m (itself d))))

-- What was read leaves less: a mark, ..
pub mark_less : {c : Class} {cs : List Class} {before now : List Mark} → Recognized (one c) cs before now → length now < length before
unfolding In
mark_less h = takes_less (λ u (m, is, fit). (m, [], is)) h

-- .. a mark and a part, ..
pub next_less : {c : Class} {r : Re Class} {cs ds : List Class} {before mid now : List Mark} → Recognized (one c) cs before mid → Recognized r ds mid now → length now < length before
next_less between h = omega (arith, mark_less between, takes_shorter h)

pub either_less : {c d : Class} {r : Re Class} {ds : List Class} {before mid now : List Mark} → TakesEither c d before true mid → Recognized r ds mid now → length now < length before
either_less (inl (between, n)) h = next_less between h
either_less (inr (between, n)) h = next_less between h

-- .. and a part that isn't empty
pub part_less : {r : Re Class} {cs : List Class} {before now : List Mark} → nullable r ≡ false → Recognized r cs before now → length now < length before
part_less {r} some h = takes_less (λ u i. filled u i) h
  where
    filled : (u : List Mark) → In query_marks r u → (m : Mark) × (rest : List Mark) × (u ≡ m ∷ rest)
    filled [] i = absurd (clash (nullable r) (has_nullable query_marks r i) some)
    filled (m ∷ rest) i = (m, rest, refl)
