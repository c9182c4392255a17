-- A field, piece by piece, and fields one at a time.
use Rattle.std.proofs.Common.{◌≡◌, ℕ, ◌+◌, ◌<◌, ◌≤◌, List, [], ◌∷◌, ◌++◌, Option, Some, None, MatchOption, length, drop, replicate, refl, sym, ap, ◌∙◌, arith, append_assoc, append-nil, length-append}
use Rattle.std.proofs.lemmas.List.{length-replicate}
use Rattle.doc_types.specs.declared.tokens.Gap.{Gap}
use Rattle.byte_fields.specs.Fields.{AllFrom}
use Rattle.posting_codec.specs.Numbers.{number, IsNumberAt}
use Rattle.posting_codec.proofs.Spellings.{one_number}
use Rattle.item_lists.specs.Items.{AllFit, AreApart}
use Rattle.item_lists.specs.steps.Places.{IsItemAt}
use Rattle.item_lists.proofs.Reading.{Gone, behind, gone_all, gone_more, gone_none, gone_stop, one_list}
use Rattle.chunk_damage.specs.RowMarks.{FieldMarks, IsGapBehind}
use Rattle.image_marks.specs.Markings.{field_bits, fields_bits, fields_least, fields_starts, gap_bits, noted, some_misplaced}
use Rattle.image_marks.specs.steps.MarkItems.{AreFieldsAt, AreGapsAt, IsField, and_field, and_gap, field_bytes, fields_bytes, gap_bytes, gaps_bytes}
use Rattle.image_marks.proofs.GapSteps.{gap_bits_long, gaps_apart}

-- boundaries that fit, as they are read and as they are said
pub all_fit : (before : ℕ) (gs : List (ℕ × Gap)) → AllFrom IsGapBehind (λ (gap : ℕ × Gap). gap.0) before gs → AllFit and_gap IsGapBehind before gs
all_fit before [] all = tt
all_fit before (g ∷ gs) all = (all.0, all_fit g.0 gs all.1)

pub fit_all : (before : ℕ) (gs : List (ℕ × Gap)) → AllFit and_gap IsGapBehind before gs → AllFrom IsGapBehind (λ (gap : ℕ × Gap). gap.0) before gs
fit_all before [] all = tt
fit_all before (g ∷ gs) all = (all.0, fit_all g.0 gs all.1)

spread : (a b c rest : List ℕ) → (a ++ (b ++ c)) ++ rest ≡ a ++ (b ++ (c ++ rest))
spread a b c rest = append_assoc a (b ++ c) rest ∙ ap (λ l. a ++ l) (append_assoc b c rest)

pub fields_apart : AreApart field_bytes IsField
fields_apart u f g x y isf isg e =
    let h : number f.last ++ (number (length f.gaps) ++ (gaps_bytes f.gaps ++ x)) ≡ number g.last ++ (number (length g.gaps) ++ (gaps_bytes g.gaps ++ y)) =
    sym (spread (number f.last) (number (length f.gaps)) (gaps_bytes f.gaps) x) ∙ e ∙ spread (number g.last) (number (length g.gaps)) (gaps_bytes g.gaps) y in
    let last = one_number f.last g.last (number (length f.gaps) ++ (gaps_bytes f.gaps ++ x)) (number (length g.gaps) ++ (gaps_bytes g.gaps ++ y)) h in
    let count = one_number (length f.gaps) (length g.gaps) (gaps_bytes f.gaps ++ x) (gaps_bytes g.gaps ++ y) last.1 in
    let gaps = one_list gap_bytes and_gap IsGapBehind gaps_apart 0 f.gaps g.gaps x y (all_fit 0 f.gaps isf.ascend) (all_fit 0 g.gaps isg.ascend) count.0 count.1 in
    let l : f.last ≡ g.last = last.0 in let s : f.gaps ≡ g.gaps = gaps.0 in
    ((λ i. record { last = l i; gaps = s i }), gaps.1)

abbrev pub NoField : List ℕ → ℕ → Type 0
NoField bytes at = (m : FieldMarks) (rest : List ℕ) → IsItemAt field_bytes IsField bytes at tt m rest → ⊥

-- the numbers of a field that is there
last_there : (bytes : List ℕ) (at : ℕ) (m : FieldMarks) (rest : List ℕ) → IsItemAt field_bytes IsField bytes at tt m rest → IsNumberAt bytes at m.last (number (length m.gaps) ++ (gaps_bytes m.gaps ++ rest))
last_there bytes at m rest is = record { fits = omega (arith, is.fits.short); here = is.here ∙ spread (number m.last) (number (length m.gaps)) (gaps_bytes m.gaps) rest }

-- what stands behind its first number
behind_last : (bytes : List ℕ) (at last counted : ℕ) (later : List ℕ) (m : FieldMarks) (rest : List ℕ) → IsNumberAt bytes at last later → counted ≡ at + length (number last) → IsItemAt field_bytes IsField bytes at tt m rest
    → (last ≡ m.last) × IsNumberAt bytes counted (length m.gaps) (gaps_bytes m.gaps ++ rest)
behind_last bytes at last counted later m rest it e is =
    let its = one_number last m.last later (number (length m.gaps) ++ (gaps_bytes m.gaps ++ rest)) (sym it.here ∙ (last_there bytes at m rest is).here) in
    (its.0, record { fits = is.fits.few; here = behind bytes (number last) later at counted it.here e ∙ its.1 })

pub no_last : (bytes : List ℕ) (at : ℕ) → ((n : ℕ) (rest : List ℕ) → IsNumberAt bytes at n rest → ⊥) → NoField bytes at
no_last bytes at none m rest is = none m.last (number (length m.gaps) ++ (gaps_bytes m.gaps ++ rest)) (last_there bytes at m rest is)

pub too_long : (bytes : List ℕ) (at last : ℕ) (later : List ℕ) → IsNumberAt bytes at last later → 65535 < last → NoField bytes at
too_long bytes at last later it high m rest is = absurd (omega (arith, (behind_last bytes at last (at + length (number last)) later m rest it refl is).0, high, is.fits.short))

pub no_count : (bytes : List ℕ) (at last counted : ℕ) (later : List ℕ) → IsNumberAt bytes at last later → counted ≡ at + length (number last) → ((n : ℕ) (rest : List ℕ) → IsNumberAt bytes counted n rest → ⊥) → NoField bytes at
no_count bytes at last counted later it e none m rest is = none (length m.gaps) (gaps_bytes m.gaps ++ rest) (behind_last bytes at last counted later m rest it e is).1

no_gaps : (bytes : List ℕ) (at last counted count first : ℕ) (later more : List ℕ) → IsNumberAt bytes at last later → counted ≡ at + length (number last) → IsNumberAt bytes counted count more → first ≡ counted + length (number count)
    → ((gaps : List (ℕ × Gap)) (rest : List ℕ) → AreGapsAt bytes first count gaps rest → ⊥) → NoField bytes at
no_gaps bytes at last counted count first later more it e counts f none m rest is =
    let its = behind_last bytes at last counted later m rest it e is in
    let same = one_number count (length m.gaps) more (gaps_bytes m.gaps ++ rest) (sym counts.here ∙ its.1.here) in
    none m.gaps rest (record { counted = sym same.0; fit = all_fit 0 m.gaps is.fits.ascend; here = behind bytes (number count) more counted first counts.here f ∙ same.1 })

abbrev pub FieldRead : List ℕ → ℕ → ℕ → List ℕ → List ℕ → List ℕ → List ℕ → ℕ → ℕ → ℕ → Type 0
FieldRead bytes at row starts bits starts_after bits_after least least_after end =
    (m : FieldMarks) × (rest : List ℕ) × IsItemAt field_bytes IsField bytes at tt m rest × (end ≡ at + length (field_bytes tt m)) × (starts_after ≡ starts ++ length bits ∷ []) × (bits_after ≡ field_bits bits m) × (least_after ≡ noted (some_misplaced 0 m.last m.gaps) row least)

pub field_answer : (bytes : List ℕ) (at last counted count first row start : ℕ) (later more starts bits grown starts_after bits_after : List ℕ) (least least_grown least_after : ℕ) (found : Option ℕ)
    → IsNumberAt bytes at last later → counted ≡ at + length (number last) → last ≤ 65535 → IsNumberAt bytes counted count more → first ≡ counted + length (number count) → start ≡ length bits → starts_after ≡ starts ++ start ∷ [] → grown ≡ bits ++ replicate last 0 → least_grown ≡ least
    → MatchOption found ((gaps : List (ℕ × Gap)) (rest : List ℕ) → AreGapsAt bytes first count gaps rest → ⊥) (λ end. (gaps : List (ℕ × Gap)) × (rest : List ℕ) × AreGapsAt bytes first count gaps rest × (end ≡ first + length (gaps_bytes gaps)) × (bits_after ≡ gap_bits start last grown gaps) × (least_after ≡ noted (some_misplaced 0 last gaps) row least_grown))
    → MatchOption found (NoField bytes at) (FieldRead bytes at row starts bits starts_after bits_after least least_after)
field_answer bytes at last counted count first row start later more starts bits grown starts_after bits_after least least_grown least_after None it e low counts f s a g l none = no_gaps bytes at last counted count first later more it e counts f none
field_answer bytes at last counted count first row start later more starts bits grown starts_after bits_after least least_grown least_after (Some end) it e low counts f s a g l read =
    let gaps = read.0 in let rest = read.1 in let are = read.2 in
    let left = behind bytes (number last) later at counted it.here e in
    let after = behind bytes (number count) more counted first counts.here f in
    let here : drop at bytes ≡ number last ++ (number (length gaps) ++ (gaps_bytes gaps ++ rest)) =
    it.here ∙ ap (λ x. number last ++ x) (sym left ∙ counts.here ∙ ap (λ x. number count ++ x) (sym after ∙ are.here) ∙ ap (λ n. number n ++ (gaps_bytes gaps ++ rest)) (sym are.counted)) in
    let long = length-append (number last) (number (length gaps) ++ gaps_bytes gaps) in
    let longer = length-append (number (length gaps)) (gaps_bytes gaps) in
    let same : length (number (length gaps)) ≡ length (number count) = ap (λ n. length (number n)) are.counted in (
      record { last = last; gaps = gaps },
      rest,
      record { fits = record { short = low; few = omega (arith, are.counted, counts.fits); ascend = fit_all 0 gaps are.fit }; here = here ∙ sym (spread (number last) (number (length gaps)) (gaps_bytes gaps) rest) },
      omega (arith, read.3, f, e, long, longer, same),
      a ∙ ap (λ n. starts ++ n ∷ []) s,
      read.4 ∙ ap (λ c. gap_bits start last c gaps) g ∙ ap (λ n. gap_bits n last (bits ++ replicate last 0) gaps) s,
      read.5 ∙ ap (noted (some_misplaced 0 last gaps) row) l,
    )

-- ---- fields one at a time

pub field_bits_long : (bits : List ℕ) (m : FieldMarks) → length (field_bits bits m) ≡ length bits + m.last
field_bits_long bits m = gap_bits_long (length bits) m.last (bits ++ replicate m.last 0) m.gaps ∙ length-append bits (replicate m.last 0) ∙ ap (λ n. length bits + n) (length-replicate m.last 0)

-- so many fields were read, and their places appended
pub record FieldsGone (bytes : List ℕ) (start at i row : ℕ) (starts bits starts_now bits_now : List ℕ) (least least_now : ℕ) : Type 0 where
  pub ms : List FieldMarks
  pub gone : Gone field_bytes and_field IsField bytes start at tt tt i ms
  pub begun : starts_now ≡ starts ++ fields_starts bits ms
  pub taken : bits_now ≡ fields_bits bits ms
  pub least_is : least_now ≡ fields_least row least ms

pub fields_none : (bytes : List ℕ) (start row : ℕ) (starts bits : List ℕ) (least : ℕ) → FieldsGone bytes start start 0 row starts bits starts bits least least
fields_none bytes start row starts bits least = record { ms = []; gone = gone_none field_bytes and_field IsField bytes start tt; begun = sym (append-nil starts); taken = refl; least_is = refl }

more_bits : (bits : List ℕ) (ms : List FieldMarks) (m : FieldMarks) → fields_bits bits (ms ++ m ∷ []) ≡ field_bits (fields_bits bits ms) m
more_bits bits [] m = refl
more_bits bits (f ∷ ms) m = more_bits (field_bits bits f) ms m

more_starts : (bits : List ℕ) (ms : List FieldMarks) (m : FieldMarks) → fields_starts bits (ms ++ m ∷ []) ≡ fields_starts bits ms ++ length (fields_bits bits ms) ∷ []
more_starts bits [] m = refl
more_starts bits (f ∷ ms) m = ap (λ l. length bits ∷ l) (more_starts (field_bits bits f) ms m)

more_least : (row least : ℕ) (ms : List FieldMarks) (m : FieldMarks) → fields_least row least (ms ++ m ∷ []) ≡ noted (some_misplaced 0 m.last m.gaps) row (fields_least row least ms)
more_least row least [] m = refl
more_least row least (f ∷ ms) m = more_least row (noted (some_misplaced 0 f.last f.gaps) row least) ms m

pub fields_more : (bytes : List ℕ) (start at end i row : ℕ) (starts bits starts_now bits_now starts_after bits_after : List ℕ) (least least_now least_after : ℕ) → FieldsGone bytes start at i row starts bits starts_now bits_now least least_now
    → FieldRead bytes at row starts_now bits_now starts_after bits_after least_now least_after end → FieldsGone bytes start end (i + 1) row starts bits starts_after bits_after least least_after
fields_more bytes start at end i row starts bits starts_now bits_now starts_after bits_after least least_now least_after g read =
    let m = read.0 in
    record {
      ms = g.ms ++ m ∷ [];
      gone = gone_more field_bytes and_field IsField bytes start at end tt tt i g.ms m read.1 g.gone read.2 read.3;
      begun = read.4 ∙ ap (λ l. l ++ length bits_now ∷ []) g.begun ∙ ap (λ c. (starts ++ fields_starts bits g.ms) ++ length c ∷ []) g.taken ∙ append_assoc starts (fields_starts bits g.ms) (length (fields_bits bits g.ms) ∷ []) ∙ ap (λ l. starts ++ l) (sym (more_starts bits g.ms m));
      taken = read.5 ∙ ap (λ c. field_bits c m) g.taken ∙ sym (more_bits bits g.ms m);
      least_is = read.6 ∙ ap (noted (some_misplaced 0 m.last m.gaps) row) g.least_is ∙ sym (more_least row least g.ms m);
    }

pub fields_stop : (bytes : List ℕ) (start at i count row : ℕ) (starts bits starts_now bits_now : List ℕ) (least least_now : ℕ) → FieldsGone bytes start at i row starts bits starts_now bits_now least least_now → i < count → NoField bytes at
    → (ms : List FieldMarks) (rest : List ℕ) → AreFieldsAt bytes start count ms rest → ⊥
fields_stop bytes start at i count row starts bits starts_now bits_now least least_now g low none = gone_stop field_bytes and_field IsField fields_apart bytes start at tt tt i count g.ms g.gone low none

abbrev pub FieldsRead : List ℕ → ℕ → ℕ → ℕ → List ℕ → List ℕ → List ℕ → List ℕ → ℕ → ℕ → ℕ → Type 0
FieldsRead bytes at count row starts bits starts_after bits_after least least_after end =
    (ms : List FieldMarks) × (rest : List ℕ) × AreFieldsAt bytes at count ms rest × (end ≡ at + length (fields_bytes ms)) × (starts_after ≡ starts ++ fields_starts bits ms) × (bits_after ≡ fields_bits bits ms) × (least_after ≡ fields_least row least ms)

pub fields_all : (bytes : List ℕ) (start at i count row : ℕ) (starts bits starts_now bits_now : List ℕ) (least least_now : ℕ) → FieldsGone bytes start at i row starts bits starts_now bits_now least least_now → i ≡ count
    → FieldsRead bytes start count row starts bits starts_now bits_now least least_now at
fields_all bytes start at i count row starts bits starts_now bits_now least least_now g e =
    let its = gone_all field_bytes and_field IsField bytes start at tt tt i count g.ms g.gone e in
    (g.ms, drop at bytes, its.0, its.1, g.begun, g.taken, g.least_is)
