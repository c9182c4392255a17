-- Marks that were read, with the places that they lay out.
use Rattle.std.proofs.Common.{◌≡◌, ℕ, ◌≤◌, List, [], length, sym, subst, ◌∙◌, arith, Option, None, Some, MatchOption}
use Rattle.doc_types.specs.declared.schema.Schema.{Schema}
use Rattle.chunk_damage.specs.Header.{marks_part, rows_in}
use Rattle.chunk_damage.specs.RowMarks.{AreBadMarks, AreMarks, RowMarks}
use Rattle.image_head.specs.declared.header.Sizes.{Sizes}
use Rattle.image_marks.specs.Markings.{rows_bits, rows_least, rows_starts}
use Rattle.image_marks.proofs.Fronts.{laid_fit, laid_wide}
use Rattle.image_marks.proofs.RowLaying.{laid_many}
use Rattle.image_marks.specs.Parts.{AreBadMarksIn, AreMarksIn}
use Rattle.image_marks.proofs.Marking.{marked, marks_fit, marks_wide}
use Rattle.covered_rows.specs.Marked.{AreMarked}
use Rattle.image_check.specs.Begun.{HaveMarks, IsBegun, laid_in, width_of}

module _ (schema : Schema) (bytes : List ℕ) (sizes : Sizes) (is : IsBegun schema bytes sizes) where
  pub have_marks : (part starts bits : List ℕ) (least first : ℕ) (marks : List RowMarks) → part ≡ marks_part schema bytes → sizes.rows ≤ first → AreMarksIn schema bytes part sizes.rows marks
      → starts ≡ rows_starts [] (laid_in bytes marks) → bits ≡ rows_bits [] (laid_in bytes marks) → least ≡ rows_least 0 first (laid_in bytes marks) → HaveMarks schema bytes starts (bits, least)
  have_marks part starts bits least first marks whole few are begin taken noted =
      let all : AreMarks schema bytes marks = record { counted = are.counted ∙ is.head.are.rows; fit = are.fit; is = sym whole ∙ are.is } in
      let kept = laid_in bytes marks in
      let its = marked (width_of schema) first kept (omega arith) (laid_wide (length bytes) (width_of schema) [] marks (marks_wide schema bytes (0, 0) marks are.fit)) (laid_fit (length bytes) [] marks (marks_fit schema bytes (0, 0) marks are.fit)) (omega (arith, are.counted, few, laid_many (length bytes) [] marks)) in
      let placed : AreMarked starts (width_of schema) (rows_bits [] kept, rows_least 0 first kept) kept = subst (λ s. AreMarked s (width_of schema) (rows_bits [] kept, rows_least 0 first kept) kept) (sym begin) its in
      let noted_all : AreMarked starts (width_of schema) (bits, rows_least 0 first kept) kept = subst (λ b. AreMarked starts (width_of schema) (b, rows_least 0 first kept) kept) (sym taken) placed in
      record { marks = marks; are = all; begin = begin; bits = taken; marked = subst (λ n. AreMarked starts (width_of schema) (bits, n) kept) (sym noted) noted_all }

  pub wrong_marks : (part : List ℕ) (at : ℕ) → part ≡ marks_part schema bytes → AreBadMarksIn schema bytes part sizes.rows at → AreBadMarks schema bytes at
  wrong_marks part at whole bad = subst (λ p. AreBadMarksIn schema bytes p (rows_in bytes) at) whole (subst (λ n. AreBadMarksIn schema bytes part n at) is.head.are.rows bad)

  pub wrong_found : (N : Type 0) (part : List ℕ) (found : Option ℕ) (at : ℕ) → part ≡ marks_part schema bytes → found ≡ Some at → MatchOption found N (λ place. AreBadMarksIn schema bytes part sizes.rows place) → AreBadMarks schema bytes at
  wrong_found N part found at whole e tells = wrong_marks part at whole (subst (λ (f : Option ℕ). MatchOption f N (λ place. AreBadMarksIn schema bytes part sizes.rows place)) e tells)

  pub have_found : (W : ℕ → Type 0) (part starts shown bits : List ℕ) (least first : ℕ) (found : Option ℕ) → part ≡ marks_part schema bytes → sizes.rows ≤ first → shown ≡ starts → found ≡ None
      → MatchOption found ((marks : List RowMarks) × AreMarksIn schema bytes part sizes.rows marks × (starts ≡ rows_starts [] (laid_in bytes marks)) × (bits ≡ rows_bits [] (laid_in bytes marks)) × (least ≡ rows_least 0 first (laid_in bytes marks))) W → HaveMarks schema bytes shown (bits, least)
  have_found W part starts shown bits least first found whole few same e tells =
      let its : (marks : List RowMarks) × AreMarksIn schema bytes part sizes.rows marks × (starts ≡ rows_starts [] (laid_in bytes marks)) × (bits ≡ rows_bits [] (laid_in bytes marks)) × (least ≡ rows_least 0 first (laid_in bytes marks)) =
      subst (λ (f : Option ℕ). MatchOption f ((marks : List RowMarks) × AreMarksIn schema bytes part sizes.rows marks × (starts ≡ rows_starts [] (laid_in bytes marks)) × (bits ≡ rows_bits [] (laid_in bytes marks)) × (least ≡ rows_least 0 first (laid_in bytes marks))) W) e tells in
      have_marks part shown bits least first its.0 whole few its.1 (same ∙ its.2) its.3 its.4
