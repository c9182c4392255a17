-- Damage of each kind, where the parts before are good.
use Rattle.std.proofs.Common.{◌≡◌, ℕ, ◌+◌, ◌*◌, ◌<◌, List, [], ◌∷◌, Err, length, sym, ap, subst, arith}
use Rattle.std.specs.List.{AllByRecursion}
use Rattle.srch_base.specs.declared.faults.Or.{Or}
use Rattle.srch_base.specs.declared.faults.Or.TheVariants.{Fault}
use Rattle.doc_types.specs.declared.schema.Schema.{Schema}
use Rattle.item_lists.specs.Items.{AllFit}
use Rattle.chunk_damage.specs.declared.fault.BadChunk.{BadChunk}
use Rattle.chunk_damage.specs.declared.fault.ChunkKind.TheVariants as kinds
use Rattle.chunk_damage.specs.Header.{row_at}
use Rattle.chunk_damage.specs.RowOrder.{IsUnordered}
use Rattle.chunk_damage.specs.RowMarks.{AreBadMarks}
use Rattle.chunk_damage.specs.WordTable.{IsBadEntry}
use Rattle.chunk_damage.specs.WordOrder.{IsBadWord}
use Rattle.chunk_damage.specs.WordLists.{AreEntries, Entry, IsBadList, IsList, and_list}
use Rattle.chunk_damage.specs.Cover.{AllCovered, IsUncovered}
use Rattle.chunk_damage.specs.Damage.{HasLists, HasMarks, HasRowOrder, HasTable, HasWordOrder, IsBadChunk, IsUndamaged}
use Rattle.image_head.specs.declared.header.Sizes.{Sizes}
use Rattle.image_check.specs.Begun.{IsBegun}
use Rattle.image_check.specs.Checks.{Checks}
use Rattle.image_check.proofs.Parts.{row_within}

-- a fault that was made of damage tells it
pub told : (schema : Schema) (bytes : List ℕ) (fault : Or BadChunk) (bad : BadChunk) → fault ≡ Fault bad → IsBadChunk schema bytes bad → Checks schema bytes (Err fault)
told schema bytes fault bad e is = subst (λ f. Checks schema bytes (Err f)) (sym e) is

-- entries of each list are of rows
pub all_entries : (table : List ℕ) (rows n : ℕ) (lists : List (List Entry)) → AllFit and_list (IsList table rows) n lists → AllByRecursion (AreEntries rows 0) lists
all_entries table rows n [] fit = tt
all_entries table rows n (l ∷ lists) fit = (fit.0.are, all_entries table rows (n + 1) lists fit.1)

module _ (schema : Schema) (bytes : List ℕ) (sizes : Sizes) (is : IsBegun schema bytes sizes) where
  -- the place of a row is small
  pub row_place : (row attrs : ℕ) → attrs ≡ length schema.attrs → 32 + row * (20 + 8 * attrs) ≡ row_at schema row
  row_place row attrs e = ap (λ n. 32 + row * (20 + 8 * n)) e

  pub row_small : (row attrs : ℕ) → attrs ≡ length schema.attrs → row < sizes.rows → 32 + row * (20 + 8 * attrs) < 4294967296
  row_small row attrs e low = omega (arith, row_place row attrs e, row_within schema bytes sizes is row low, is.short)

  pub bad_row : (row place : ℕ) → row < sizes.rows → IsUnordered schema bytes row → place ≡ row_at schema row → IsBadChunk schema bytes (record { place = place; kind = kinds.RowOrder })
  bad_row row place low wrong at = record { good = (is.head.begins, is.head.sums_up); wrong = (row, omega (arith, low, is.head.are.rows), wrong, at) }

  pub bad_marks : HasRowOrder schema bytes → (at place : ℕ) → AreBadMarks schema bytes at → place ≡ sizes.marks + at → IsBadChunk schema bytes (record { place = place; kind = kinds.Marks })
  bad_marks rows at place wrong e = record { good = (is.head.begins, is.head.sums_up, rows); wrong = (at, wrong, omega (arith, e, is.head.are.marks)) }

  pub bad_table : HasRowOrder schema bytes → HasMarks schema bytes → (n place : ℕ) → IsBadEntry schema bytes n → place ≡ sizes.table + 12 * n → IsBadChunk schema bytes (record { place = place; kind = kinds.WordTable })
  bad_table rows marks n place wrong e = record { good = (is.head.begins, is.head.sums_up, rows, marks); wrong = (n, wrong, omega (arith, e, is.head.are.table)) }

  pub bad_order : HasRowOrder schema bytes → HasMarks schema bytes → HasTable schema bytes → (at place : ℕ) → IsBadWord schema bytes at → place ≡ sizes.dictionary + at → IsBadChunk schema bytes (record { place = place; kind = kinds.WordOrder })
  bad_order rows marks table at place wrong e = record { good = (is.head.begins, is.head.sums_up, rows, marks, table); wrong = (at, wrong, omega (arith, e, is.head.are.dictionary)) }

  pub bad_lists : HasRowOrder schema bytes → HasMarks schema bytes → HasTable schema bytes → HasWordOrder schema bytes → (at place : ℕ) → IsBadList schema bytes at → place ≡ sizes.postings + at → IsBadChunk schema bytes (record { place = place; kind = kinds.Postings })
  bad_lists rows marks table order at place wrong e = record { good = (is.head.begins, is.head.sums_up, rows, marks, table, order); wrong = (at, wrong, omega (arith, e, is.head.are.postings)) }

  pub bad_cover : HasRowOrder schema bytes → (marks : HasMarks schema bytes) → HasTable schema bytes → HasWordOrder schema bytes → (lists : HasLists schema bytes) → (row place : ℕ) → IsUncovered lists.0 marks.0 row → place ≡ row_at schema row
      → IsBadChunk schema bytes (record { place = place; kind = kinds.Cover })
  bad_cover rows marks table order lists row place wrong at = record {
    good = (is.head.begins, is.head.sums_up, rows, marks, table, order, lists);
    wrong = (row, record { marks = marks.0; lists = lists.0; marks_are = marks.1; lists_are = lists.1; uncovered = wrong }, at);
  }

  pub undamaged : HasRowOrder schema bytes → (marks : HasMarks schema bytes) → HasTable schema bytes → HasWordOrder schema bytes → (lists : HasLists schema bytes) → AllCovered lists.0 0 marks.0 → IsUndamaged schema bytes
  undamaged rows marks table order lists cover = record { magic_is = is.head.begins; sizes = is.head.sums_up; row_order = rows; marks = marks; table = table; word_order = order; lists = lists; cover = cover }
