-- Boundaries one at a time.
use Rattle.std.proofs.Common.{◌≡◌, ℕ, ◌+◌, ◌-◌, ◌*◌, ◌/◌, ◌%◌, ◌<◌, ◌≤◌, ◌^◌, Bool, true, false, cond, leb, ◌||◌, set, List, [], ◌∷◌, ◌++◌, length, drop, refl, sym, ap, subst, ◌∙◌, arith, inl, inr}
use Rattle.std.proofs.lemmas.Bool.{cases_lt, lt-ltb, le-ltb}
use Rattle.std.proofs.lemmas.List.{length-set}
use Rattle.doc_types.specs.declared.tokens.Gap.{Gap}
use Rattle.doc_types.specs.declared.tokens.Gap.TheVariants as kinds
use Rattle.doc_types.specs.Chunks.{is_boundary}
use Rattle.posting_codec.specs.Numbers.{number, IsNumberAt}
use Rattle.posting_codec.proofs.Spellings.{one_number}
use Rattle.chunk_image.specs.Marks.{kind_bit}
use Rattle.item_lists.specs.Items.{AreApart, left_by}
use Rattle.item_lists.specs.steps.Places.{IsItemAt}
use Rattle.item_lists.proofs.Reading.{Gone, gone_all, gone_more, gone_none, gone_stop}
use Rattle.chunk_damage.specs.RowMarks.{IsGapBehind}
use Rattle.chunk_damage.proofs.MarksApart.{one_gap}
use Rattle.image_cover.specs.Places.{with_row}
use Rattle.image_marks.specs.Markings.{gap_bits, is_misplaced, noted, some_misplaced, with_bit}
use Rattle.image_marks.specs.steps.MarkItems.{AreGapsAt, and_gap, gap_bytes, gaps_bytes}

pub gaps_apart : AreApart gap_bytes IsGapBehind
gaps_apart before g h x y isg ish e = one_gap before g h x y isg ish e

-- the boundary of a number
abbrev pub GapRead : List ℕ → ℕ → ℕ → ℕ → ℕ → Type 0
GapRead bytes at before position end = (gap : ℕ × Gap) × (rest : List ℕ) × IsItemAt gap_bytes IsGapBehind bytes at before gap rest × (gap.0 ≡ position) × (end ≡ at + length (gap_bytes before gap)) × (position < before + 2 ^ 31)

of_kind : (bytes : List ℕ) (at before n end position : ℕ) (rest : List ℕ) (gap : ℕ × Gap) → IsNumberAt bytes at n rest → end ≡ at + length (number n) → before < gap.0 → is_boundary gap.1 ≡ true → 2 * (gap.0 - before) + kind_bit gap.1 ≡ n → gap.0 ≡ position → position < before + 2 ^ 31
    → GapRead bytes at before position end
of_kind bytes at before n end position rest gap is ends behind kind same here low =
    (gap, rest, record { fits = record { behind = behind; kind = kind; counted = omega (arith, is.fits, same) }; here = is.here ∙ ap (λ k. number k ++ rest) (sym same) }, here, ends ∙ ap (λ k. at + length (number k)) (sym same), low)

pub gap_read : (bytes : List ℕ) (at before n end position : ℕ) (rest : List ℕ) → IsNumberAt bytes at n rest → end ≡ at + length (number n) → 2 ≤ n → position ≡ before + n / 2 → GapRead bytes at before position end
gap_read bytes at before n end position rest is ends some e =
    let low : position < before + 2 ^ 31 = omega (arith, e, is.fits) in
    elim (cases_lt (n % 2) 1) [
      | inl even ↦ of_kind bytes at before n end position rest (position, kinds.Sentence) is ends (omega (arith, e, some)) refl (omega (arith, e, even)) refl low
      | inr odd ↦ of_kind bytes at before n end position rest (position, kinds.Paragraph) is ends (omega (arith, e, some)) refl (omega (arith, e, odd)) refl low
    ]

-- no number, no boundary; nor where it is too small
pub no_number : (bytes : List ℕ) (at before : ℕ) → ((n : ℕ) (rest : List ℕ) → IsNumberAt bytes at n rest → ⊥) → (gap : ℕ × Gap) (rest : List ℕ) → IsItemAt gap_bytes IsGapBehind bytes at before gap rest → ⊥
no_number bytes at before none gap rest is = none (2 * (gap.0 - before) + kind_bit gap.1) rest (record { fits = is.fits.counted; here = is.here })

pub too_small : (bytes : List ℕ) (at before n : ℕ) (read : List ℕ) → IsNumberAt bytes at n read → n < 2 → (gap : ℕ × Gap) (rest : List ℕ) → IsItemAt gap_bytes IsGapBehind bytes at before gap rest → ⊥
too_small bytes at before n read it low gap rest is =
    let its = one_number n (2 * (gap.0 - before) + kind_bit gap.1) read rest (sym it.here ∙ is.here) in
    absurd (omega (arith, its.0, low, is.fits.behind))

-- ---- what boundaries take and note

pub with_bit_long : (start last : ℕ) (bits : List ℕ) (position : ℕ) → length (with_bit start last bits position) ≡ length bits
with_bit_long start last bits position = elim (leb position last) as (λ b. length (cond b (set bits (start + position - 1) 1) bits) ≡ length bits) [
  | true ↦ length-set bits (start + position - 1) 1
  | false ↦ refl
]

pub gap_bits_long : (start last : ℕ) (bits : List ℕ) (gs : List (ℕ × Gap)) → length (gap_bits start last bits gs) ≡ length bits
gap_bits_long start last bits [] = refl
gap_bits_long start last bits (g ∷ gs) = gap_bits_long start last (with_bit start last bits g.0) gs ∙ with_bit_long start last bits g.0

-- a row that is noted twice is noted
same_row : (row least : ℕ) → with_row (with_row least row) row ≡ with_row least row
same_row row least = elim (cases_lt row least) [
  | inl low ↦ let here : with_row least row ≡ row = ap (λ b. cond b row least) (lt-ltb row least low) in ap (λ k. with_row k row) here ∙ ap (λ b. cond b row row) (le-ltb row row (omega arith)) ∙ sym here
  | inr high ↦ let here : with_row least row ≡ least = ap (λ b. cond b row least) (le-ltb row least high) in ap (λ k. with_row k row) here
]

pub noted_both : (a b : Bool) (row least : ℕ) → noted b row (noted a row least) ≡ noted (a || b) row least
noted_both true true row least = same_row row least
noted_both true false row least = refl
noted_both false b row least = refl

more_bits : (start last before : ℕ) (bits : List ℕ) (gs : List (ℕ × Gap)) (g : ℕ × Gap) → gap_bits start last bits (gs ++ g ∷ []) ≡ with_bit start last (gap_bits start last bits gs) g.0
more_bits start last before bits [] g = refl
more_bits start last before bits (h ∷ gs) g = more_bits start last h.0 (with_bit start last bits h.0) gs g

or_assoc : (a b c : Bool) → (a || (b || c)) ≡ ((a || b) || c)
or_assoc true b c = refl
or_assoc false b c = refl

or_none : (a : Bool) → (a || false) ≡ a
or_none true = refl
or_none false = refl

more_misplaced : (before last : ℕ) (gs : List (ℕ × Gap)) (g : ℕ × Gap) → some_misplaced before last (gs ++ g ∷ []) ≡ (some_misplaced before last gs || is_misplaced (left_by and_gap before gs) last g.0)
more_misplaced before last [] g = or_none (is_misplaced before last g.0)
more_misplaced before last (h ∷ gs) g = ap (λ b. is_misplaced before last h.0 || b) (more_misplaced h.0 last gs g) ∙ or_assoc (is_misplaced before last h.0) (some_misplaced h.0 last gs) (is_misplaced (left_by and_gap h.0 gs) last g.0)

-- so many were read
pub record Marked (bytes : List ℕ) (start at position i row first last : ℕ) (before bits : List ℕ) (least_before least : ℕ) : Type 0 where
  pub gaps : List (ℕ × Gap)
  pub gone : Gone gap_bytes and_gap IsGapBehind bytes start at 0 position i gaps
  pub long : length bits ≡ length before
  pub low : position ≤ i * 2147483648
  pub taken : bits ≡ gap_bits first last before gaps
  pub least_is : least ≡ noted (some_misplaced 0 last gaps) row least_before

pub marked_none : (bytes : List ℕ) (start row first last : ℕ) (before : List ℕ) (least : ℕ) → Marked bytes start start 0 0 row first last before before least least
marked_none bytes start row first last before least = record { gaps = []; gone = gone_none gap_bytes and_gap IsGapBehind bytes start 0; long = refl; low = omega arith; taken = refl; least_is = refl }

pub marked_more : (bytes : List ℕ) (start at end position next i row first last : ℕ) (before bits after : List ℕ) (least_before least least_after : ℕ) → Marked bytes start at position i row first last before bits least_before least → GapRead bytes at position next end
    → after ≡ with_bit first last bits next → least_after ≡ noted (is_misplaced position last next) row least
    → Marked bytes start end next (i + 1) row first last before after least_before least_after
marked_more bytes start at end position next i row first last before bits after least_before least least_after m read a l =
    let gap = read.0 in
    let here : gap.0 ≡ next = read.3 in
    let wrong : some_misplaced 0 last (m.gaps ++ gap ∷ []) ≡ (some_misplaced 0 last m.gaps || is_misplaced position last next) =
    more_misplaced 0 last m.gaps gap ∙ ap (λ k. some_misplaced 0 last m.gaps || is_misplaced k last gap.0) m.gone.ended ∙ ap (λ k. some_misplaced 0 last m.gaps || is_misplaced position last k) here in
    record {
      gaps = m.gaps ++ gap ∷ [];
      gone = subst (λ k. Gone gap_bytes and_gap IsGapBehind bytes start end 0 k (i + 1) (m.gaps ++ gap ∷ [])) here (gone_more gap_bytes and_gap IsGapBehind bytes start at end 0 position i m.gaps gap read.1 m.gone read.2 read.4);
      long = ap length a ∙ with_bit_long first last bits next ∙ m.long;
      low = omega (arith, m.low, read.5);
      taken = a ∙ ap (λ c. with_bit first last c next) m.taken ∙ ap (λ k. with_bit first last (gap_bits first last before m.gaps) k) (sym here) ∙ sym (more_bits first last 0 before m.gaps gap);
      least_is = l ∙ ap (noted (is_misplaced position last next) row) m.least_is ∙ noted_both (some_misplaced 0 last m.gaps) (is_misplaced position last next) row least_before ∙ ap (λ b. noted b row least_before) (sym wrong);
    }

pub marked_stop : (bytes : List ℕ) (start at position i count row first last : ℕ) (before bits : List ℕ) (least_before least : ℕ) → Marked bytes start at position i row first last before bits least_before least → i < count
    → ((gap : ℕ × Gap) (rest : List ℕ) → IsItemAt gap_bytes IsGapBehind bytes at position gap rest → ⊥) → (gaps : List (ℕ × Gap)) (rest : List ℕ) → AreGapsAt bytes start count gaps rest → ⊥
marked_stop bytes start at position i count row first last before bits least_before least m low none = gone_stop gap_bytes and_gap IsGapBehind gaps_apart bytes start at 0 position i count m.gaps m.gone low none

abbrev pub GapsRead : List ℕ → ℕ → ℕ → ℕ → ℕ → ℕ → List ℕ → List ℕ → ℕ → ℕ → ℕ → Type 0
GapsRead bytes start count row first last before after least_before least_after end =
    (gaps : List (ℕ × Gap)) × (rest : List ℕ) × AreGapsAt bytes start count gaps rest × (end ≡ start + length (gaps_bytes gaps)) × (after ≡ gap_bits first last before gaps) × (least_after ≡ noted (some_misplaced 0 last gaps) row least_before)

pub marked_all : (bytes : List ℕ) (start at position i count row first last : ℕ) (before bits : List ℕ) (least_before least : ℕ) → Marked bytes start at position i row first last before bits least_before least → i ≡ count → GapsRead bytes start count row first last before bits least_before least at
marked_all bytes start at position i count row first last before bits least_before least m e =
    let its = gone_all gap_bytes and_gap IsGapBehind bytes start at 0 position i count m.gaps m.gone e in
    (m.gaps, drop at bytes, its.0, its.1, m.taken, m.least_is)
