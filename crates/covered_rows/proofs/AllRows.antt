-- The first row that is noted, or has a place that isn't taken, is the first that isn't covered.
use Rattle.std.proofs.Common.{◌≡◌, ℕ, ◌+◌, ◌<◌, ◌≤◌, List, [], ◌∷◌, ◌++◌, Option, Some, None, MatchOption, length, get_or, refl, sym, ap, subst, ◌∙◌, arith, inl, inr}
use Rattle.std.specs.List.{AllByRecursion}
use Rattle.std.proofs.lemmas.Bool.{cases_lt}
use Rattle.doc_types.specs.declared.tokens.TheConstants.{MAX_POSITION}
use Rattle.chunk_damage.specs.Cover.{AllCovered, IsCovered, IsUncovered}
use Rattle.chunk_damage.specs.RowMarks.{FieldMarks, RowMarks}
use Rattle.chunk_damage.specs.WordLists.{AreEntries, Entry}
use Rattle.image_cover.specs.Places.{Seen, take_all}
use Rattle.image_cover.specs.Lists.{places_of_lists}
use Rattle.covered_rows.specs.Marked.{AllShort, AreMarked, ArePassed, IsRowMarked, IsStopped, RowsMarked}
use Rattle.covered_rows.proofs.Counts.{all_lower, clear_free, noted_twice, set_taken, times, twice_noted}
use Rattle.covered_rows.proofs.Ranges.{LiesInRow, lists_lie, lists_within, one_row}
use Rattle.covered_rows.proofs.RowCover.{covered_between, is_covered, is_once}

module _ (starts : List ℕ) (width : ℕ) (s : Seen) (marks : List RowMarks) (marked : AreMarked starts width s marks) (lists : List (List Entry)) (are : AllByRecursion (AreEntries (length marks) 0) lists) (few : width ≤ 33) where
  abbrev rows : ℕ
  rows = length marks

  abbrev all : List (ℕ × ℕ)
  all = places_of_lists starts width lists

  abbrev final : Seen
  final = take_all s all

  abbrev InRow : ℕ × ℕ → Type 0
  InRow = LiesInRow starts width rows

  -- a row among those that are passed is covered
  passed_row : (passed_by row : ℕ) (m : RowMarks) → passed_by ≤ rows → ArePassed starts width final passed_by → row < passed_by → IsRowMarked starts width s row m.fields → AllByRecursion (λ (f : FieldMarks). f.last ≤ MAX_POSITION) m.fields → IsCovered lists row m
  passed_row passed_by row m most passed low its short = is_covered starts width rows s marked.laid lists are few row (omega (arith, low, most)) m its short once (its.good (omega (arith, ahead, all_lower s all)))
    where
      ahead : row < final.1
      ahead = elim (cases_lt row final.1) [ inl is ↦ is | inr not ↦ absurd ((passed final.1 (omega (arith, not, low))).0 refl) ]

      once : (k : ℕ) → InRow (row, k) → get_or s.0 k 0 + times k all ≡ 1
      once k lies =
          let some = set_taken s all k (lists_within starts width rows (length s.0) marked.laid lists are) ((passed row low).1 k lies.to) in
          elim (cases_lt 1 (get_or s.0 k 0 + times k all)) [
            | inl twice ↦
                let noted = twice_noted InRow s all k (lists_lie starts width rows (length s.0) marked.laid lists are) (lists_within starts width rows (length s.0) marked.laid lists are) (marked.bits k) twice in
                let same : noted.0 ≡ row = one_row starts width rows (length s.0) marked.laid noted.0 row k noted.1 lies in
                absurd (omega (arith, noted.2, same, ahead))
            | inr not_twice ↦ omega (arith, some, not_twice)
          ]

  -- the row at which it stops isn't
  stopped_row : (row : ℕ) (m : RowMarks) → IsStopped starts width final rows row → IsRowMarked starts width s row m.fields → AllByRecursion (λ (f : FieldMarks). f.last ≤ MAX_POSITION) m.fields → IsCovered lists row m → ⊥
  stopped_row row m stopped its short covered =
      let once = is_once starts width rows s marked.laid lists are few row stopped.low m its short covered in
      elim stopped.here [
        | inl noted ↦ elim (noted_twice InRow s all (lists_lie starts width rows (length s.0) marked.laid lists are) (lists_within starts width rows (length s.0) marked.laid lists are)) [
          | inl before ↦ its.bad (sym before ∙ noted) (covered_between lists row 0 m.fields covered.fields)
          | inr twice ↦ absurd (omega (arith, twice.2, once twice.0 (subst (λ r. InRow (r, twice.0)) noted twice.1)))
        ]
        | inr clear ↦
            let none = clear_free s all clear.0 (lists_within starts width rows (length s.0) marked.laid lists are) clear.3 in
            absurd (omega (arith, none, once clear.0 (record { low = stopped.low; from = clear.1; to = clear.2 })))
      ]

  all_passed : (n : ℕ) (ms : List RowMarks) → n + length ms ≡ rows → RowsMarked starts width s n ms → AllShort ms → ArePassed starts width final rows → AllCovered lists n ms
  all_passed n [] e its short passed = tt
  all_passed n (m ∷ ms) e its short passed = (passed_row rows n m (omega arith) passed (omega (arith, e)) its.0 short.0, all_passed (n + 1) ms (omega (arith, e)) its.1 short.1 passed)

  -- the rows before one, and itself
  record SplitAt (n row : ℕ) (ms : List RowMarks) : Type 0 where
    before : List RowMarks
    m : RowMarks
    behind : List RowMarks
    both : ms ≡ before ++ m ∷ behind
    number_is : row ≡ n + length before
    good : AllCovered lists n before
    bad : IsCovered lists row m → ⊥

  split_at : (n row : ℕ) (ms : List RowMarks) → n ≤ row → row < n + length ms → RowsMarked starts width s n ms → AllShort ms → IsStopped starts width final rows row → SplitAt n row ms
  split_at n row [] low high its short stopped = absurd (omega (arith, low, high))
  split_at n row (m ∷ ms) low high its short stopped = elim (cases_lt n row) [
    | inl later ↦
        let more = split_at (n + 1) row ms (omega (arith, later)) (omega (arith, high)) its.1 short.1 stopped in
        record {
          before = m ∷ more.before;
          m = more.m;
          behind = more.behind;
          both = ap (λ l. m ∷ l) more.both;
          number_is = omega (arith, more.number_is);
          good = (passed_row row n m (omega (arith, stopped.low)) stopped.before later its.0 short.0, more.good);
          bad = more.bad;
        }
    | inr here ↦
        let same : n ≡ row = omega (arith, low, here) in
        record {
          before = [];
          m = m;
          behind = ms;
          both = refl;
          number_is = omega (arith, same);
          good = tt;
          bad = stopped_row row m stopped (subst (λ r. IsRowMarked starts width s r m.fields) same its.0) short.0;
        }
  ]

  uncovered_is : (row : ℕ) → AllShort marks → IsStopped starts width final rows row → IsUncovered lists marks row
  uncovered_is row short stopped =
      let its = split_at 0 row marks (omega arith) (omega (arith, stopped.low)) marked.rows short stopped in
      record { before = its.before; m = its.m; behind = its.behind; are = its.both; number_is = its.number_is ∙ nought (length its.before); good = its.good; bad = its.bad }
    where
      nought : (n : ℕ) → 0 + n ≡ n
      nought n = omega arith

  covered_are : AllShort marks → ArePassed starts width final rows → AllCovered lists 0 marks
  covered_are short passed = all_passed 0 marks (omega arith) marked.rows short passed

  pub answer : (found : Option ℕ) → AllShort marks → MatchOption found (ArePassed starts width final rows) (IsStopped starts width final rows) → MatchOption found (AllCovered lists 0 marks) (IsUncovered lists marks)
  answer None short passed = covered_are short passed
  answer (Some row) short stopped = uncovered_is row short stopped
