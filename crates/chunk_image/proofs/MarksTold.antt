-- A row's marks tell its boundaries and spans.
use Rattle.std.proofs.Common.{◌≡◌, ℕ, ◌+◌, ◌-◌, ◌*◌, ◌≤◌, List, [], ◌∷◌, ◌++◌, length, refl, sym, ap, subst, ◌∙◌, arith, map, All, zero, ◌⊎◌, inl, inr, append-nil, append_assoc}
use Rattle.std.specs.List.{flat_map, AllZip}
use Rattle.doc_types.specs.declared.documents.DocRow.{DocRow}
use Rattle.doc_types.specs.declared.tokens.FieldTokens.{FieldTokens}
use Rattle.doc_types.specs.declared.tokens.Gap.{Gap}
use Rattle.doc_types.specs.declared.tokens.Gap.TheVariants as gaps
use Rattle.doc_types.specs.declared.tokens.ZoneSpan.{ZoneSpan}
use Rattle.doc_types.specs.Chunks.{gaps_of, last_position, spans_of}
use Rattle.doc_types.proofs.Numbers.{All-tail}
use Rattle.posting_codec.specs.Numbers.{number}
use Rattle.posting_codec.proofs.Spellings.{one_number}
use Rattle.chunk_image.specs.Marks.{kind_bit, gap_numbers, field_numbers, span_numbers, row_marks}

abbrev numbers : List ℕ → List ℕ
numbers ns = flat_map number ns

-- one number less
next : (m n : ℕ) (ms ns x y : List ℕ) → numbers (m ∷ ms) ++ x ≡ numbers (n ∷ ns) ++ y → (m ≡ n) × (numbers ms ++ x ≡ numbers ns ++ y)
next m n ms ns x y e =
    one_number m n (numbers ms ++ x) (numbers ns ++ y) (sym (append_assoc (number m) (numbers ms) x) ∙ e ∙ append_assoc (number n) (numbers ns) y)

-- boundaries that lie one behind the other, the first one behind this position or at it
abbrev pub Rise : ℕ → List (ℕ × Gap) → Type 0
Rise before [] = Unit {0}
Rise before (gap ∷ others) = (before ≤ gap.0) × ((gap.1 ≡ gaps.Sentence) ⊎ (gap.1 ≡ gaps.Paragraph)) × Rise gap.0 others

-- boundaries of one number are one
one_gap : (before : ℕ) (g h : ℕ × Gap) → before ≤ g.0 → before ≤ h.0 → (g.1 ≡ gaps.Sentence) ⊎ (g.1 ≡ gaps.Paragraph) → (h.1 ≡ gaps.Sentence) ⊎ (h.1 ≡ gaps.Paragraph) → 2 * (g.0 - before) + kind_bit g.1 ≡ 2 * (h.0 - before) + kind_bit h.1 → g ≡ h
one_gap before g h bg bh (inl kg) (inl kh) e =
    let same : g.0 ≡ h.0 = omega (arith, e, ap kind_bit kg, ap kind_bit kh, bg, bh) in let kind : g.1 ≡ h.1 = kg ∙ sym kh in λ i. (same i, kind i)
one_gap before g h bg bh (inl kg) (inr kh) e = absurd (omega (arith, e, ap kind_bit kg, ap kind_bit kh))
one_gap before g h bg bh (inr kg) (inl kh) e = absurd (omega (arith, e, ap kind_bit kg, ap kind_bit kh))
one_gap before g h bg bh (inr kg) (inr kh) e =
    let same : g.0 ≡ h.0 = omega (arith, e, ap kind_bit kg, ap kind_bit kh, bg, bh) in let kind : g.1 ≡ h.1 = kg ∙ sym kh in λ i. (same i, kind i)

gaps_told : (before : ℕ) (gs hs : List (ℕ × Gap)) (ms ns x y : List ℕ) → length gs ≡ length hs → Rise before gs → Rise before hs
    → numbers (gap_numbers before gs ++ ms) ++ x ≡ numbers (gap_numbers before hs ++ ns) ++ y → (gs ≡ hs) × (numbers ms ++ x ≡ numbers ns ++ y)
gaps_told before [] [] ms ns x y long rg rh e = (refl, e)
gaps_told before [] (h ∷ hs) ms ns x y long rg rh e = absurd (omega (arith, long))
gaps_told before (g ∷ gs) [] ms ns x y long rg rh e = absurd (omega (arith, long))
gaps_told before (g ∷ gs) (h ∷ hs) ms ns x y long rg rh e =
    let its = next (2 * (g.0 - before) + kind_bit g.1) (2 * (h.0 - before) + kind_bit h.1) (gap_numbers g.0 gs ++ ms) (gap_numbers h.0 hs ++ ns) x y e in
    let here : g ≡ h = one_gap before g h rg.0 rh.0 rg.1 rh.1 its.0 in
    let at : g.0 ≡ h.0 = ap (λ p. p.0) here in
    let rest = gaps_told g.0 gs hs ms ns x y (omega (arith, long)) rg.2 (subst (λ n. Rise n hs) (sym at) rh.2) (its.1 ∙ ap (λ n. numbers (gap_numbers n hs ++ ns) ++ y) (sym at)) in
    (let more : gs ≡ hs = rest.0 in cc, rest.1)

field_told : (f g : FieldTokens) (ms ns x y : List ℕ) → Rise 0 (gaps_of f) → Rise 0 (gaps_of g)
    → numbers (field_numbers f ++ ms) ++ x ≡ numbers (field_numbers g ++ ns) ++ y → (gaps_of f ≡ gaps_of g) × (numbers ms ++ x ≡ numbers ns ++ y)
field_told f g ms ns x y rf rg e =
    let last = next (last_position f) (last_position g) (length (gaps_of f) ∷ (gap_numbers 0 (gaps_of f) ++ ms)) (length (gaps_of g) ∷ (gap_numbers 0 (gaps_of g) ++ ns)) x y e in
    let count = next (length (gaps_of f)) (length (gaps_of g)) (gap_numbers 0 (gaps_of f) ++ ms) (gap_numbers 0 (gaps_of g) ++ ns) x y last.1 in
    gaps_told 0 (gaps_of f) (gaps_of g) ms ns x y count.0 rf rg count.1

fields_told : (fs gs : List FieldTokens) (ms ns x y : List ℕ) → length fs ≡ length gs → All (λ f. Rise 0 (gaps_of f)) fs → All (λ f. Rise 0 (gaps_of f)) gs
    → numbers (flat_map field_numbers fs ++ ms) ++ x ≡ numbers (flat_map field_numbers gs ++ ns) ++ y → (map gaps_of fs ≡ map gaps_of gs) × (numbers ms ++ x ≡ numbers ns ++ y)
fields_told [] [] ms ns x y long rf rg e = (refl, e)
fields_told [] (g ∷ gs) ms ns x y long rf rg e = absurd (omega (arith, long))
fields_told (f ∷ fs) [] ms ns x y long rf rg e = absurd (omega (arith, long))
fields_told (f ∷ fs) (g ∷ gs) ms ns x y long rf rg e =
    let joined : numbers (field_numbers f ++ (flat_map field_numbers fs ++ ms)) ++ x ≡ numbers (field_numbers g ++ (flat_map field_numbers gs ++ ns)) ++ y =
    ap (λ l. numbers l ++ x) (sym (append_assoc (field_numbers f) (flat_map field_numbers fs) ms)) ∙ e ∙ ap (λ l. numbers l ++ y) (append_assoc (field_numbers g) (flat_map field_numbers gs) ns) in
    let its = field_told f g (flat_map field_numbers fs ++ ms) (flat_map field_numbers gs ++ ns) x y (rf zero f (omega arith)) (rg zero g (omega arith)) joined in
    let rest = fields_told fs gs ms ns x y (omega (arith, long)) (All-tail (λ (f : FieldTokens). Rise 0 (gaps_of f)) f fs rf) (All-tail (λ (f : FieldTokens). Rise 0 (gaps_of f)) g gs rg) its.1 in
    (let here : gaps_of f ≡ gaps_of g = its.0 in let more : map gaps_of fs ≡ map gaps_of gs = rest.0 in cc, rest.1)

-- a span that doesn't end before it begins
abbrev pub IsOrdered : ℕ × ZoneSpan → Type 0
IsOrdered span = span.1.first ≤ span.1.last

span_told : (a b : ℕ × ZoneSpan) (ms ns x y : List ℕ) → IsOrdered a → IsOrdered b → numbers (span_numbers a ++ ms) ++ x ≡ numbers (span_numbers b ++ ns) ++ y → (a ≡ b) × (numbers ms ++ x ≡ numbers ns ++ y)
span_told a b ms ns x y oa ob e =
    let field = next a.0 b.0 (a.1.zone ∷ a.1.first ∷ (a.1.last - a.1.first) ∷ ms) (b.1.zone ∷ b.1.first ∷ (b.1.last - b.1.first) ∷ ns) x y e in
    let zone = next a.1.zone b.1.zone (a.1.first ∷ (a.1.last - a.1.first) ∷ ms) (b.1.first ∷ (b.1.last - b.1.first) ∷ ns) x y field.1 in
    let first = next a.1.first b.1.first ((a.1.last - a.1.first) ∷ ms) ((b.1.last - b.1.first) ∷ ns) x y zone.1 in
    let size = next (a.1.last - a.1.first) (b.1.last - b.1.first) ms ns x y first.1 in
    let last : a.1.last ≡ b.1.last = omega (arith, size.0, first.0, oa, ob) in
    let f : a.0 ≡ b.0 = field.0 in let z : a.1.zone ≡ b.1.zone = zone.0 in let s : a.1.first ≡ b.1.first = first.0 in
    (λ i. (f i, record { zone = z i; first = s i; last = last i }), size.1)

spans_told : (us ws : List (ℕ × ZoneSpan)) (ms ns x y : List ℕ) → length us ≡ length ws → All IsOrdered us → All IsOrdered ws
    → numbers (flat_map span_numbers us ++ ms) ++ x ≡ numbers (flat_map span_numbers ws ++ ns) ++ y → (us ≡ ws) × (numbers ms ++ x ≡ numbers ns ++ y)
spans_told [] [] ms ns x y long oa ob e = (refl, e)
spans_told [] (b ∷ ws) ms ns x y long oa ob e = absurd (omega (arith, long))
spans_told (a ∷ us) [] ms ns x y long oa ob e = absurd (omega (arith, long))
spans_told (a ∷ us) (b ∷ ws) ms ns x y long oa ob e =
    let joined : numbers (span_numbers a ++ (flat_map span_numbers us ++ ms)) ++ x ≡ numbers (span_numbers b ++ (flat_map span_numbers ws ++ ns)) ++ y = e in
    let its = span_told a b (flat_map span_numbers us ++ ms) (flat_map span_numbers ws ++ ns) x y (oa zero a (omega arith)) (ob zero b (omega arith)) joined in
    let rest = spans_told us ws ms ns x y (omega (arith, long)) (All-tail IsOrdered a us oa) (All-tail IsOrdered b ws ob) its.1 in
    (let here : a ≡ b = its.0 in let more : us ≡ ws = rest.0 in cc, rest.1)

-- what is asked of a row here
pub record HasOrder (row : DocRow) : Type 0 where
  pub gaps : All (λ f. Rise 0 (gaps_of f)) row.doc.fields
  pub spans : All IsOrdered (spans_of row)

row_told : (r s : DocRow) (x y : List ℕ) → length r.doc.fields ≡ length s.doc.fields → HasOrder r → HasOrder s
    → row_marks r ++ x ≡ row_marks s ++ y → (map gaps_of r.doc.fields ≡ map gaps_of s.doc.fields) × (spans_of r ≡ spans_of s) × (x ≡ y)
unfolding row_marks
row_told r s x y long or os e =
    let fields = fields_told r.doc.fields s.doc.fields (length (spans_of r) ∷ flat_map span_numbers (spans_of r)) (length (spans_of s) ∷ flat_map span_numbers (spans_of s)) x y long or.gaps os.gaps e in
    let count = next (length (spans_of r)) (length (spans_of s)) (flat_map span_numbers (spans_of r)) (flat_map span_numbers (spans_of s)) x y fields.1 in
    let whole : numbers (flat_map span_numbers (spans_of r) ++ []) ++ x ≡ numbers (flat_map span_numbers (spans_of s) ++ []) ++ y =
    ap (λ l. numbers l ++ x) (append-nil (flat_map span_numbers (spans_of r))) ∙ count.1 ∙ ap (λ l. numbers l ++ y) (sym (append-nil (flat_map span_numbers (spans_of s)))) in
    let spans = spans_told (spans_of r) (spans_of s) [] [] x y count.0 or.spans os.spans whole in
    (fields.0, spans.0, spans.1)

-- rows with as many fields that have the same marks have the same boundaries and spans
pub record AreMarkedAlike (r s : DocRow) : Type 0 where
  pub gaps : map gaps_of r.doc.fields ≡ map gaps_of s.doc.fields
  pub spans : spans_of r ≡ spans_of s

pub rows_told : (rs ss : List DocRow) (x y : List ℕ) → AllZip (λ (r s : DocRow). length r.doc.fields ≡ length s.doc.fields) rs ss → All HasOrder rs → All HasOrder ss
    → flat_map row_marks rs ++ x ≡ flat_map row_marks ss ++ y → AllZip AreMarkedAlike rs ss × (x ≡ y)
rows_told [] [] x y long or os e = (tt, e)
rows_told [] (s ∷ ss) x y long or os e = absurd long
rows_told (r ∷ rs) [] x y long or os e = absurd long
rows_told (r ∷ rs) (s ∷ ss) x y long or os e =
    let joined : row_marks r ++ (flat_map row_marks rs ++ x) ≡ row_marks s ++ (flat_map row_marks ss ++ y) =
    sym (append_assoc (row_marks r) (flat_map row_marks rs) x) ∙ e ∙ append_assoc (row_marks s) (flat_map row_marks ss) y in
    let its = row_told r s (flat_map row_marks rs ++ x) (flat_map row_marks ss ++ y) long.0 (or zero r (omega arith)) (os zero s (omega arith)) joined in
    let rest = rows_told rs ss x y long.1 (All-tail HasOrder r rs or) (All-tail HasOrder s ss os) its.2 in
    ((record { gaps = its.0; spans = its.1 }, rest.0), rest.1)
