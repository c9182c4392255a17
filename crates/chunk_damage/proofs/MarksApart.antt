-- Marks are told by their bytes.
use Rattle.std.proofs.Common.{◌≡◌, ℕ, ◌+◌, ◌-◌, ◌*◌, ◌≤◌, true, List, [], ◌∷◌, ◌++◌, Option, Some, None, length, refl, sym, ap, subst, ◌∙◌, arith, append_assoc}
use Rattle.std.specs.List.{AllByRecursion, flat_map}
use Rattle.std.proofs.lemmas.List.Concat.{flat_map-append}
use Rattle.doc_types.specs.declared.schema.Schema.{Schema}
use Rattle.doc_types.specs.declared.tokens.Gap.{Gap}
use Rattle.doc_types.specs.declared.tokens.Gap.TheVariants as kinds
use Rattle.doc_types.specs.Chunks.{is_boundary}
use Rattle.byte_fields.specs.Fields.{AllFrom}
use Rattle.doc_bytes.specs.Reading.{FieldSpan}
use Rattle.posting_codec.specs.Numbers.{number}
use Rattle.posting_codec.proofs.Spellings.{one_number}
use Rattle.chunk_image.specs.Marks.{gap_numbers, kind_bit, span_numbers}
use Rattle.item_lists.specs.Items.{AreApart}
use Rattle.chunk_damage.specs.RowMarks.{AreFieldMarks, AreMarksOf, AreTold, FieldMarks, IsGapBehind, IsSpanIn, RowMarks, bytes_of, field_numbers, mark_bytes, mark_numbers}

-- ---- boundaries

-- boundaries of one number are one
same_kind : (g h : Gap) → is_boundary g ≡ true → is_boundary h ≡ true → kind_bit g ≡ kind_bit h → g ≡ h
same_kind kinds.None h bg bh e = absurd cc
same_kind g kinds.None bg bh e = absurd cc
same_kind kinds.Sentence kinds.Sentence bg bh e = refl
same_kind kinds.Sentence kinds.Paragraph bg bh e = absurd (omega (arith, e))
same_kind kinds.Paragraph kinds.Sentence bg bh e = absurd (omega (arith, e))
same_kind kinds.Paragraph kinds.Paragraph bg bh e = refl

bit_small : (g : Gap) → kind_bit g ≤ 1
bit_small kinds.None = omega arith
bit_small kinds.Sentence = omega arith
bit_small kinds.Paragraph = omega arith

pub one_gap : (before : ℕ) (g h : ℕ × Gap) (x y : List ℕ) → IsGapBehind before g → IsGapBehind before h → number (2 * (g.0 - before) + kind_bit g.1) ++ x ≡ number (2 * (h.0 - before) + kind_bit h.1) ++ y → (g ≡ h) × (x ≡ y)
one_gap before g h x y isg ish e =
    let its = one_number (2 * (g.0 - before) + kind_bit g.1) (2 * (h.0 - before) + kind_bit h.1) x y e in
    let bits : kind_bit g.1 ≡ kind_bit h.1 = omega (arith, its.0, bit_small g.1, bit_small h.1) in
    let at : g.0 ≡ h.0 = omega (arith, its.0, bits, isg.behind, ish.behind) in
    let kind : g.1 ≡ h.1 = same_kind g.1 h.1 isg.kind ish.kind bits in
    ((λ i. (at i, kind i)), its.1)

abbrev Ascending : ℕ → List (ℕ × Gap) → Type 0
Ascending before gaps = AllFrom IsGapBehind (λ gap. gap.0) before gaps

one_gaps : (before : ℕ) (gs hs : List (ℕ × Gap)) (x y : List ℕ) → Ascending before gs → Ascending before hs → length gs ≡ length hs → flat_map number (gap_numbers before gs) ++ x ≡ flat_map number (gap_numbers before hs) ++ y → (gs ≡ hs) × (x ≡ y)
one_gaps before [] [] x y fg fh l e = (refl, e)
one_gaps before [] (h ∷ hs) x y fg fh l e = absurd (omega (arith, l))
one_gaps before (g ∷ gs) [] x y fg fh l e = absurd (omega (arith, l))
one_gaps before (g ∷ gs) (h ∷ hs) x y fg fh l e =
    let first = number (2 * (g.0 - before) + kind_bit g.1) in
    let other = number (2 * (h.0 - before) + kind_bit h.1) in
    let its = one_gap before g h (flat_map number (gap_numbers g.0 gs) ++ x) (flat_map number (gap_numbers h.0 hs) ++ y) fg.0 fh.0 (sym (append_assoc first (flat_map number (gap_numbers g.0 gs)) x) ∙ e ∙ append_assoc other (flat_map number (gap_numbers h.0 hs)) y) in
    let same : g ≡ h = its.0 in
    let more = one_gaps g.0 gs hs x y fg.1 (subst (λ (k : ℕ × Gap). Ascending k.0 hs) (sym same) fh.1) (omega (arith, l)) (its.1 ∙ ap (λ (k : ℕ × Gap). flat_map number (gap_numbers k.0 hs) ++ y) (sym same)) in
    ((let tail : gs ≡ hs = more.0 in cc), more.1)

-- ---- fields

one_field : (m n : FieldMarks) (x y : List ℕ) → AreFieldMarks m → AreFieldMarks n → flat_map number (field_numbers m) ++ x ≡ flat_map number (field_numbers n) ++ y → (m ≡ n) × (x ≡ y)
one_field m n x y ism isn e =
    let gm = flat_map number (gap_numbers 0 m.gaps) in let gn = flat_map number (gap_numbers 0 n.gaps) in
    let a = one_number m.last n.last ((number (length m.gaps) ++ gm) ++ x) ((number (length n.gaps) ++ gn) ++ y) (sym (append_assoc (number m.last) (number (length m.gaps) ++ gm) x) ∙ e ∙ append_assoc (number n.last) (number (length n.gaps) ++ gn) y) in
    let b = one_number (length m.gaps) (length n.gaps) (gm ++ x) (gn ++ y) (sym (append_assoc (number (length m.gaps)) gm x) ∙ a.1 ∙ append_assoc (number (length n.gaps)) gn y) in
    let c = one_gaps 0 m.gaps n.gaps x y ism.ascend isn.ascend b.0 b.1 in
    let last : m.last ≡ n.last = a.0 in let gaps : m.gaps ≡ n.gaps = c.0 in
    ((λ i. record { last = last i; gaps = gaps i }), c.1)

one_fields : (ms ns : List FieldMarks) (x y : List ℕ) → AllByRecursion AreFieldMarks ms → AllByRecursion AreFieldMarks ns → length ms ≡ length ns → flat_map number (flat_map field_numbers ms) ++ x ≡ flat_map number (flat_map field_numbers ns) ++ y → (ms ≡ ns) × (x ≡ y)
one_fields [] [] x y fm fn l e = (refl, e)
one_fields [] (n ∷ ns) x y fm fn l e = absurd (omega (arith, l))
one_fields (m ∷ ms) [] x y fm fn l e = absurd (omega (arith, l))
one_fields (m ∷ ms) (n ∷ ns) x y fm fn l e =
    let its = one_field m n (flat_map number (flat_map field_numbers ms) ++ x) (flat_map number (flat_map field_numbers ns) ++ y) fm.0 fn.0 (sym (split m ms x) ∙ e ∙ split n ns y) in
    let more = one_fields ms ns x y fm.1 fn.1 (omega (arith, l)) its.1 in
    let head : m ≡ n = its.0 in let tail : ms ≡ ns = more.0 in (cc, more.1)
  where
    split : (m : FieldMarks) (ms : List FieldMarks) (x : List ℕ) → flat_map number (flat_map field_numbers (m ∷ ms)) ++ x ≡ flat_map number (field_numbers m) ++ (flat_map number (flat_map field_numbers ms) ++ x)
    split m ms x = ap (λ l. l ++ x) (flat_map-append number (field_numbers m) (flat_map field_numbers ms)) ∙ append_assoc (flat_map number (field_numbers m)) (flat_map number (flat_map field_numbers ms)) x

-- ---- spans

one_span : (s t : FieldSpan) (x y : List ℕ) → s.1.first ≤ s.1.last → t.1.first ≤ t.1.last → flat_map number (span_numbers s) ++ x ≡ flat_map number (span_numbers t) ++ y → (s ≡ t) × (x ≡ y)
one_span s t x y os ot e =
    let e4 : List ℕ → FieldSpan → List ℕ = λ z k. number (k.1.last - k.1.first) ++ z in
    let e3 : List ℕ → FieldSpan → List ℕ = λ z k. number k.1.first ++ e4 z k in
    let e2 : List ℕ → FieldSpan → List ℕ = λ z k. number k.1.zone ++ e3 z k in
    let a = one_number s.0 t.0 (e2 x s) (e2 y t) (sym (spread s x) ∙ e ∙ spread t y) in
    let b = one_number s.1.zone t.1.zone (e3 x s) (e3 y t) a.1 in
    let c = one_number s.1.first t.1.first (e4 x s) (e4 y t) b.1 in
    let d = one_number (s.1.last - s.1.first) (t.1.last - t.1.first) x y c.1 in
    let field : s.0 ≡ t.0 = a.0 in let zone : s.1.zone ≡ t.1.zone = b.0 in let first : s.1.first ≡ t.1.first = c.0 in
    let last : s.1.last ≡ t.1.last = omega (arith, c.0, d.0, os, ot) in
    ((λ i. (field i, record { zone = zone i; first = first i; last = last i })), d.1)
  where
    spread : (k : FieldSpan) (z : List ℕ) → flat_map number (span_numbers k) ++ z ≡ number k.0 ++ (number k.1.zone ++ (number k.1.first ++ (number (k.1.last - k.1.first) ++ z)))
    spread k z =
        append_assoc (number k.0) (number k.1.zone ++ (number k.1.first ++ (number (k.1.last - k.1.first) ++ []))) z
        ∙ ap (λ l. number k.0 ++ l) (append_assoc (number k.1.zone) (number k.1.first ++ (number (k.1.last - k.1.first) ++ [])) z
        ∙ ap (λ l. number k.1.zone ++ l) (append_assoc (number k.1.first) (number (k.1.last - k.1.first) ++ []) z
        ∙ ap (λ l. number k.1.first ++ l) (append_assoc (number (k.1.last - k.1.first)) [] z)))

one_spans : (fields others : List FieldMarks) (before after : Option FieldSpan) (ss ts : List FieldSpan) (x y : List ℕ) → AllFrom (IsSpanIn fields) Some before ss → AllFrom (IsSpanIn others) Some after ts → length ss ≡ length ts → flat_map number (flat_map span_numbers ss) ++ x ≡ flat_map number (flat_map span_numbers ts) ++ y
    → (ss ≡ ts) × (x ≡ y)
one_spans fields others before after [] [] x y fs ft l e = (refl, e)
one_spans fields others before after [] (t ∷ ts) x y fs ft l e = absurd (omega (arith, l))
one_spans fields others before after (s ∷ ss) [] x y fs ft l e = absurd (omega (arith, l))
one_spans fields others before after (s ∷ ss) (t ∷ ts) x y fs ft l e =
    let its = one_span s t (flat_map number (flat_map span_numbers ss) ++ x) (flat_map number (flat_map span_numbers ts) ++ y) fs.0.order ft.0.order (sym (split s ss x) ∙ e ∙ split t ts y) in
    let more = one_spans fields others (Some s) (Some t) ss ts x y fs.1 ft.1 (omega (arith, l)) its.1 in
    let head : s ≡ t = its.0 in let tail : ss ≡ ts = more.0 in (cc, more.1)
  where
    split : (s : FieldSpan) (ss : List FieldSpan) (x : List ℕ) → flat_map number (flat_map span_numbers (s ∷ ss)) ++ x ≡ flat_map number (span_numbers s) ++ (flat_map number (flat_map span_numbers ss) ++ x)
    split s ss x = ap (λ l. l ++ x) (flat_map-append number (span_numbers s) (flat_map span_numbers ss)) ∙ append_assoc (flat_map number (span_numbers s)) (flat_map number (flat_map span_numbers ss)) x

-- ---- a row

pub one_marks : (fields : ℕ) (m n : RowMarks) (x y : List ℕ) → AreMarksOf fields m → AreMarksOf fields n → mark_bytes m ++ x ≡ mark_bytes n ++ y → (m ≡ n) × (x ≡ y)
unfolding mark_bytes
one_marks fields m n x y ism isn e =
    let sm = flat_map number (flat_map span_numbers m.spans) in let sn = flat_map number (flat_map span_numbers n.spans) in
    let a = one_fields m.fields n.fields ((number (length m.spans) ++ sm) ++ x) ((number (length n.spans) ++ sn) ++ y) ism.fields_fit isn.fields_fit (ism.many ∙ sym isn.many) (sym (split m x) ∙ e ∙ split n y) in
    let b = one_number (length m.spans) (length n.spans) (sm ++ x) (sn ++ y) (sym (append_assoc (number (length m.spans)) sm x) ∙ a.1 ∙ append_assoc (number (length n.spans)) sn y) in
    let c = one_spans m.fields n.fields None None m.spans n.spans x y ism.spans_fit isn.spans_fit b.0 b.1 in
    let f : m.fields ≡ n.fields = a.0 in let s : m.spans ≡ n.spans = c.0 in
    ((λ i. record { fields = f i; spans = s i }), c.1)
  where
    split : (m : RowMarks) (x : List ℕ) → flat_map number (mark_numbers m) ++ x ≡ flat_map number (flat_map field_numbers m.fields) ++ ((number (length m.spans) ++ flat_map number (flat_map span_numbers m.spans)) ++ x)
    split m x = ap (λ l. l ++ x) (flat_map-append number (flat_map field_numbers m.fields) (length m.spans ∷ flat_map span_numbers m.spans)) ∙ append_assoc (flat_map number (flat_map field_numbers m.fields)) (number (length m.spans) ++ flat_map number (flat_map span_numbers m.spans)) x

pub marks_apart : (schema : Schema) (bytes : List ℕ) → AreApart bytes_of (AreTold schema bytes)
marks_apart schema bytes before m n x y ism isn e = one_marks (length schema.fields) m n x y ism.fits isn.fits e
