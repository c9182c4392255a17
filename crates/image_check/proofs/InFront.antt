-- Rows up to the first that isn't covered are laid out as they are: before them there are no more places than bytes.
use Rattle.std.proofs.Common.{◌≡◌, ℕ, zero, suc, ◌+◌, ◌*◌, ◌≤◌, List, [], ◌∷◌, ◌++◌, Option, Some, None, MatchOption, length, get_or, sym, ap, subst, ◌∙◌, arith, append-nil}
use Rattle.doc_types.specs.declared.schema.Schema.{Schema}
use Rattle.chunk_damage.specs.Header.{four_in, rows_in}
use Rattle.chunk_damage.specs.RowMarks.{RowMarks}
use Rattle.chunk_damage.specs.Cover.{AllCovered, IsUncovered}
use Rattle.image_cover.specs.Lists.{places_of_lists}
use Rattle.image_cover.specs.Places.{Seen}
use Rattle.covered_rows.specs.Marked.{ArePassed, IsStopped}
use Rattle.image_head.specs.declared.header.Sizes.{Sizes}
use Rattle.image_marks.specs.Markings.{rows_bits, rows_starts}
use Rattle.image_marks.proofs.Fronts.{laid_all, laid_front, laid_wide, stands_at}
use Rattle.image_marks.proofs.Laying.{HaveWidth, rows_stand}
use Rattle.image_marks.proofs.Marking.{marks_wide}
use Rattle.image_marks.proofs.RowLaying.{laid_many}
use Rattle.image_check.specs.Begun.{HaveLists, IsBegun, laid_in, width_of}
use Rattle.image_check.proofs.Owned.{all_gaps, laid_gaps, lists_some, marks_some, ones, ones_all, ones_full, ones_none, ones_rows}
use Rattle.image_check.proofs.Parts.{marks_long, postings_long}

rows_sized : (n size : ℕ) → n ≤ n * (20 + size)
rows_sized zero size = omega arith
rows_sized (suc n) size = let step : suc n * (20 + size) ≡ n * (20 + size) + (20 + size) = omega arith in omega (arith, step, rows_sized n size)

module _ (schema : Schema) (bytes : List ℕ) (sizes : Sizes) (is : IsBegun schema bytes sizes) (starts : List ℕ) (s : Seen) (have : HaveLists schema bytes starts s) where
  abbrev marks : List RowMarks
  marks = have.marks.marks

  abbrev kept : List RowMarks
  kept = laid_in bytes marks

  abbrev width : ℕ
  width = width_of schema

  abbrev its_places : List (ℕ × ℕ)
  its_places = places_of_lists starts width have.lists

  -- so many of the first places are taken at most
  most_taken : (n : ℕ) → ones n s.0 ≤ length bytes
  most_taken n =
      let by_hits : ones n s.0 ≤ ones n have.before.0 + length its_places = subst (λ (t : Seen). ones n t.0 ≤ ones n have.before.0 + length its_places) (sym have.taken) (ones_all n have.before its_places) in
      let by_marks : ones n have.before.0 ≤ ones n [] + length kept + all_gaps kept = subst (λ l. ones n l ≤ ones n [] + length kept + all_gaps kept) (sym have.marks.bits) (ones_rows n [] kept) in
      let many : length kept ≡ rows_in bytes = laid_many (length bytes) [] marks ∙ have.marks.are.counted in
      let gaps : all_gaps marks ≤ four_in bytes 20 = omega (arith, marks_some (0, 0) marks, ap length have.marks.are.is, marks_long schema bytes sizes is) in
      let hits : length its_places ≤ four_in bytes 28 = omega (arith, lists_some starts width 0 have.lists, ap length have.are.is, postings_long schema bytes sizes is) in
      omega (arith, by_hits, by_marks, ones_none n, many, laid_gaps (length bytes) [] marks, gaps, hits, rows_sized (rows_in bytes) (8 * length schema.attrs), is.head.sums_up.sum)

  -- where rows are passed, there are no more places than bytes before the next one
  few_passed : (row : ℕ) → ArePassed starts width s row → get_or starts (row * width) 0 ≤ length bytes
  few_passed zero passed = let none : 0 * width ≡ 0 = omega arith in omega (arith, have.marks.marked.from, ap (λ j. get_or starts j 0) none)
  few_passed (suc row) passed =
      let next : suc row * width ≡ (row + 1) * width = ap (λ n. n * width) (up row) in
      let full = ones_full (get_or starts ((row + 1) * width) 0) s.0 ((passed row (omega arith)).1) in
      omega (arith, full, most_taken (get_or starts ((row + 1) * width) 0), ap (λ j. get_or starts j 0) next)
    where
      up : (n : ℕ) → suc n ≡ n + 1
      up n = omega arith

  wide : HaveWidth width kept
  wide = laid_wide (length bytes) width [] marks (marks_wide schema bytes (0, 0) marks have.marks.are.fit)

  places_before : (before rest : List RowMarks) → kept ≡ before ++ rest → get_or starts (length before * width) 0 ≡ length (rows_bits [] before)
  places_before before rest e =
      let stand = rows_stand starts [] width 0 [] (before ++ rest) (subst (HaveWidth width) e wide) (have.marks.begin ∙ ap (rows_starts []) e) (omega arith) in
      ap (λ n. get_or starts (n * width) 0) (nought (length before)) ∙ stands_at starts width 0 [] before rest stand
    where
      nought : (n : ℕ) → n ≡ 0 + n
      nought n = omega arith

  uncovered_of : (row : ℕ) → IsStopped starts width s sizes.rows row → IsUncovered have.lists kept row → IsUncovered have.lists marks row
  uncovered_of row stopped bad =
      let few : length (rows_bits [] bad.before) ≤ length bytes = omega (arith, few_passed row stopped.before, places_before bad.before (bad.m ∷ bad.behind) bad.are, ap (λ n. get_or starts (n * width) 0) bad.number_is) in
      let front = laid_front (length bytes) [] marks bad.before bad.behind bad.m bad.are few in
      record { before = bad.before; m = bad.m; behind = front.0; are = front.1; number_is = bad.number_is; good = bad.good; bad = bad.bad }

  covered_of : ArePassed starts width s sizes.rows → AllCovered have.lists 0 kept → AllCovered have.lists 0 marks
  covered_of passed good =
      let many : length kept ≡ sizes.rows = laid_many (length bytes) [] marks ∙ have.marks.are.counted ∙ sym is.head.are.rows in
      let few : length (rows_bits [] kept) ≤ length bytes = omega (arith, few_passed sizes.rows passed, places_before kept [] (sym (append-nil kept)), ap (λ n. get_or starts (n * width) 0) many) in
      subst (λ l. AllCovered have.lists 0 l) (laid_all (length bytes) [] marks few) good

  -- what is found of the rows as they are laid out is found of the rows
  pub of_kept : (found : Option ℕ) → MatchOption found (ArePassed starts width s sizes.rows) (λ row. IsStopped starts width s sizes.rows row) → MatchOption found (AllCovered have.lists 0 kept) (λ row. IsUncovered have.lists kept row)
      → MatchOption found (AllCovered have.lists 0 marks) (λ row. IsUncovered have.lists marks row)
  of_kept None passed good = covered_of passed good
  of_kept (Some row) stopped bad = uncovered_of row stopped bad
