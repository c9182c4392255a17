-- The marks of rows one row at a time.
use Rattle.std.proofs.Common.{◌≡◌, ℕ, zero, suc, ◌+◌, ◌<◌, List, [], ◌∷◌, ◌++◌, length, drop, refl, sym, ap, subst, ◌∙◌, arith, append-nil, add-one, append_assoc, length-append}
use Rattle.doc_types.specs.declared.schema.Schema.{Schema}
use Rattle.item_lists.specs.Items.{spelled}
use Rattle.item_lists.specs.steps.Places.{IsItemAt}
use Rattle.item_lists.proofs.Reading.{Gone, all_read, gone_more, gone_none, left_wrong, none_wrong}
use Rattle.chunk_damage.specs.RowMarks.{AreTold, RowMarks, and_marks, bytes_of, told_place}
use Rattle.image_marks.specs.Markings.{fields_least, laid_row, laid_rows, row_bits, row_starts, rows_bits, rows_least, rows_starts}
use Rattle.image_marks.specs.Parts.{AreBadMarksIn, AreMarksIn}
use Rattle.image_marks.specs.steps.MarkItems.{rows_begun}
use Rattle.image_marks.proofs.RowReading.{NoRow}
use Rattle.image_marks.proofs.RowLaying.{RowLaid, laid_many}

module _ (schema : Schema) (image : List ℕ) (enough : ℕ) where
  abbrev Told : ℕ × ℕ → RowMarks → Type 0
  Told = AreTold schema image

  abbrev fields : ℕ
  fields = length schema.fields

  abbrev pub Last : List ℕ → ℕ → ℕ → ℕ → Type 0
  Last part last at zero = at ≡ 0
  Last part last at (suc i) =
      (earlier : List RowMarks) × (m : RowMarks) × (rest : List ℕ) × (s : ℕ × ℕ) × Gone bytes_of and_marks (AreTold schema image) part 0 last (0, 0) s i earlier × IsItemAt bytes_of (AreTold schema image) part last s m rest × (at ≡ last + length (bytes_of s m))

  pub record RowsRead (part : List ℕ) (at last n : ℕ) (starts bits starts_now bits_now : List ℕ) (least least_now : ℕ) : Type 0 where
    pub marks : List RowMarks
    pub gone : Gone bytes_of and_marks (AreTold schema image) part 0 at (0, 0) (n, at) n marks
    pub its_last : Last part last at n
    pub begun : starts_now ≡ starts ++ rows_begun bits (laid_rows enough bits marks)
    pub taken : bits_now ≡ rows_bits bits (laid_rows enough bits marks)
    pub least_is : least_now ≡ rows_least 0 least (laid_rows enough bits marks)

  pub rows_none : (part starts bits : List ℕ) (least : ℕ) → RowsRead part 0 0 0 starts bits starts bits least least
  rows_none part starts bits least = record { marks = []; gone = gone_none bytes_of and_marks Told part 0 (0, 0); its_last = refl; begun = sym (append-nil starts); taken = refl; least_is = refl }

  more_bits : (bits : List ℕ) (marks : List RowMarks) (m : RowMarks) → rows_bits bits (marks ++ m ∷ []) ≡ row_bits (rows_bits bits marks) m.fields
  more_bits bits [] m = refl
  more_bits bits (k ∷ marks) m = more_bits (row_bits bits k.fields) marks m

  more_begun : (bits : List ℕ) (marks : List RowMarks) (m : RowMarks) → rows_begun bits (marks ++ m ∷ []) ≡ rows_begun bits marks ++ row_starts (rows_bits bits marks) m.fields
  more_begun bits [] m = append-nil (row_starts bits m.fields)
  more_begun bits (k ∷ marks) m =
      ap (λ l. row_starts bits k.fields ++ l) (more_begun (row_bits bits k.fields) marks m) ∙ sym (append_assoc (row_starts bits k.fields) (rows_begun (row_bits bits k.fields) marks) (row_starts (rows_bits (row_bits bits k.fields) marks) m.fields))

  more_least : (n least : ℕ) (marks : List RowMarks) (m : RowMarks) → rows_least n least (marks ++ m ∷ []) ≡ fields_least (n + length marks) (rows_least n least marks) m.fields
  more_least n least [] m = let same : n ≡ n + 0 = omega arith in ap (λ k. fields_least k least m.fields) same
  more_least n least (k ∷ marks) m =
      let same : n + 1 + length marks ≡ n + suc (length marks) = omega arith in
      more_least (n + 1) (fields_least n least k.fields) marks m ∙ ap (λ r. fields_least r (rows_least (n + 1) (fields_least n least k.fields) marks) m.fields) same

  more_laid : (bits bits_now : List ℕ) (marks : List RowMarks) (m : RowMarks) → bits_now ≡ rows_bits bits (laid_rows enough bits marks) → laid_rows enough bits (marks ++ m ∷ []) ≡ laid_rows enough bits marks ++ laid_row enough bits_now m ∷ []
  more_laid bits bits_now [] m e = ap (λ b. laid_row enough b m ∷ []) (sym e)
  more_laid bits bits_now (k ∷ marks) m e = ap (λ l. laid_row enough bits k ∷ l) (more_laid (row_bits bits (laid_row enough bits k).fields) bits_now marks m e)

  pub rows_more : (part : List ℕ) (at end last n told : ℕ) (starts bits starts_now bits_now starts_after bits_after : List ℕ) (least least_now least_after : ℕ) → RowsRead part at last n starts bits starts_now bits_now least least_now → told ≡ told_place schema image n → told ≡ at
      → RowLaid part at enough fields n starts_now bits_now starts_after bits_after least_now least_after end → RowsRead part end at (n + 1) starts bits starts_after bits_after least least_after
  rows_more part at end last n told starts bits starts_now bits_now starts_after bits_after least least_now least_after g t same read =
      let m = read.0 in
      let l = laid_rows enough bits g.marks in
      let k = laid_row enough bits_now m in
      let item : IsItemAt bytes_of Told part at (n, at) m read.1 = record { fits = record { told = sym t ∙ same; fits = read.2.fits }; here = read.2.here } in
      let more = gone_more bytes_of and_marks Told part 0 at end (0, 0) (n, at) n g.marks m read.1 g.gone item read.3 in
      let number : 0 + length l ≡ n = omega (arith, g.gone.counted, laid_many enough bits g.marks) in
      let both : laid_rows enough bits (g.marks ++ m ∷ []) ≡ l ++ k ∷ [] = more_laid bits bits_now g.marks m g.taken in
      record {
        marks = g.marks ++ m ∷ [];
        gone = subst (λ k. Gone bytes_of and_marks Told part 0 end (0, 0) (n + 1, k) (n + 1) (g.marks ++ m ∷ [])) (sym read.3) more;
        its_last = subst (Last part at end) (sym (add-one n)) (g.marks, m, read.1, (n, at), g.gone, item, read.3);
        begun = read.4 ∙ ap (λ s. s ++ row_starts bits_now k.fields) g.begun ∙ ap (λ c. (starts ++ rows_begun bits l) ++ row_starts c k.fields) g.taken ∙ append_assoc starts (rows_begun bits l) (row_starts (rows_bits bits l) k.fields) ∙ ap (λ s. starts ++ s) (sym (more_begun bits l k)) ∙ ap (λ s. starts ++ rows_begun bits s) (sym both);
        taken = read.5 ∙ ap (λ c. row_bits c k.fields) g.taken ∙ sym (more_bits bits l k) ∙ ap (rows_bits bits) (sym both);
        least_is = read.6 ∙ ap (λ j. fields_least n j k.fields) g.least_is ∙ ap (λ r. fields_least r (rows_least 0 least l) k.fields) (sym number) ∙ sym (more_least 0 least l k) ∙ ap (rows_least 0 least) (sym both);
      }

  pub rows_more_of : (part : List ℕ) (at end last n told count : ℕ) (starts bits starts_now bits_now starts_after bits_after : List ℕ) (least least_now least_after : ℕ) → RowsRead part at last n starts bits starts_now bits_now least least_now → told ≡ told_place schema image n → told ≡ at → count ≡ fields
      → RowLaid part at enough count n starts_now bits_now starts_after bits_after least_now least_after end → RowsRead part end at (n + 1) starts bits starts_after bits_after least least_after
  rows_more_of part at end last n told count starts bits starts_now bits_now starts_after bits_after least least_now least_after g t same e read =
      rows_more part at end last n told starts bits starts_now bits_now starts_after bits_after least least_now least_after g t same (subst (λ k. RowLaid part at enough k n starts_now bits_now starts_after bits_after least_now least_after end) e read)

  -- the next row's marks aren't there, or the row says another place
  pub rows_stop : (part : List ℕ) (at last n rows : ℕ) (starts bits starts_now bits_now : List ℕ) (least least_now : ℕ) → RowsRead part at last n starts bits starts_now bits_now least least_now → n < rows → NoRow part at fields → AreBadMarksIn schema image part rows at
  rows_stop part at last n rows starts bits starts_now bits_now least least_now g low none =
      none_wrong bytes_of and_marks Told part at (0, 0) (n, at) n rows g.marks g.gone low (λ m rest is. none m rest (record { fits = is.fits.fits; here = is.here }))

  pub rows_untold : (part : List ℕ) (at last n rows told : ℕ) (starts bits starts_now bits_now : List ℕ) (least least_now : ℕ) → RowsRead part at last n starts bits starts_now bits_now least least_now → n < rows → told ≡ told_place schema image n → (told ≡ at → ⊥) → AreBadMarksIn schema image part rows at
  rows_untold part at last n rows told starts bits starts_now bits_now least least_now g low t other =
      none_wrong bytes_of and_marks Told part at (0, 0) (n, at) n rows g.marks g.gone low (λ m rest is. other (t ∙ is.fits.told))

  pub rows_left : (part : List ℕ) (at last n rows : ℕ) (starts bits starts_now bits_now : List ℕ) (least least_now : ℕ) → RowsRead part at last n starts bits starts_now bits_now least least_now → n ≡ rows → (rows ≡ 0 → length part ≡ 0) → (at ≡ length part → ⊥) → AreBadMarksIn schema image part rows last
  rows_left part at last zero rows starts bits starts_now bits_now least least_now g e none more = absurd (more (g.its_last ∙ sym (none (sym e))))
  rows_left part at last (suc i) rows starts bits starts_now bits_now least least_now g e none more =
      let l = g.its_last in
      left_wrong bytes_of and_marks Told part last at (0, 0) l.3 i rows l.0 l.1 l.2 l.4 (omega (arith, e)) l.5 l.6 not_past
    where
      not_past : at < length part
      not_past =
          let long : length part ≡ length (spelled bytes_of and_marks (0, 0) g.marks) + length (drop at part) = ap length g.gone.here ∙ length-append (spelled bytes_of and_marks (0, 0) g.marks) (drop at part) in
          omega (arith, long, g.gone.place, more)

  abbrev pub PartRead : List ℕ → ℕ → List ℕ → List ℕ → List ℕ → List ℕ → ℕ → ℕ → Type 0
  PartRead part rows starts bits starts_after bits_after least least_after =
      (marks : List RowMarks) × AreMarksIn schema image part rows marks × (starts_after ≡ starts ++ rows_begun bits (laid_rows enough bits marks)) × (bits_after ≡ rows_bits bits (laid_rows enough bits marks)) × (least_after ≡ rows_least 0 least (laid_rows enough bits marks))

  pub rows_all : (part : List ℕ) (at last n rows : ℕ) (starts bits starts_now bits_now : List ℕ) (least least_now : ℕ) → RowsRead part at last n starts bits starts_now bits_now least least_now → n ≡ rows → at ≡ length part → PartRead part rows starts bits starts_now bits_now least least_now
  rows_all part at last n rows starts bits starts_now bits_now least least_now g e all = (g.marks, all_read bytes_of and_marks Told part at (0, 0) (n, at) n rows g.marks g.gone e all, g.begun, g.taken, g.least_is)

-- where rows begin, and where the last one ends
pub ended : (bits : List ℕ) (marks : List RowMarks) → rows_begun bits marks ++ length (rows_bits bits marks) ∷ [] ≡ rows_starts bits marks
ended bits [] = refl
ended bits (m ∷ marks) = append_assoc (row_starts bits m.fields) (rows_begun (row_bits bits m.fields) marks) (length (rows_bits (row_bits bits m.fields) marks) ∷ []) ∙ ap (λ l. row_starts bits m.fields ++ l) (ended (row_bits bits m.fields) marks)

-- all rows were read, and the place where the last one ends is appended
pub part_answer : (schema : Schema) (image : List ℕ) (enough : ℕ) (part : List ℕ) (rows end : ℕ) (starts bits starts_read starts_after bits_after : List ℕ) (least least_after : ℕ) → starts ≡ [] → bits ≡ [] → PartRead schema image enough part rows starts bits starts_read bits_after least least_after → end ≡ length bits_after
    → starts_after ≡ starts_read ++ end ∷ []
    → (marks : List RowMarks) × AreMarksIn schema image part rows marks × (starts_after ≡ rows_starts [] (laid_rows enough [] marks)) × (bits_after ≡ rows_bits [] (laid_rows enough [] marks)) × (least_after ≡ rows_least 0 least (laid_rows enough [] marks))
part_answer schema image enough part rows end starts bits starts_read starts_after bits_after least least_after s b read e a =
    let marks = read.0 in
    let l = laid_rows enough [] marks in
    let taken : bits_after ≡ rows_bits [] l = read.3 ∙ ap (λ k. rows_bits k (laid_rows enough k marks)) b in
    let begun : starts_read ≡ rows_begun [] l = read.2 ∙ ap (λ s. s ++ rows_begun bits (laid_rows enough bits marks)) s ∙ ap (λ k. rows_begun k (laid_rows enough k marks)) b in
    (marks, read.1, a ∙ ap (λ s. s ++ end ∷ []) begun ∙ ap (λ n. rows_begun [] l ++ n ∷ []) (e ∙ ap length taken) ∙ ended [] l, taken, read.4 ∙ ap (λ k. rows_least 0 least (laid_rows enough k marks)) b)
