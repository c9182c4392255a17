-- Spans, number by number.
use Rattle.std.proofs.Common.{◌≡◌, ℕ, ◌+◌, ◌-◌, ◌<◌, ◌≤◌, true, false, List, [], ◌∷◌, ◌++◌, Option, Some, None, length, drop, refl, sym, ap, subst, ◌∙◌, arith, append_assoc, length-append}
use Rattle.doc_bytes.specs.Reading.{FieldSpan, is_behind}
use Rattle.posting_codec.specs.Numbers.{number, IsNumberAt}
use Rattle.posting_codec.proofs.Spellings.{one_number}
use Rattle.item_lists.specs.Items.{AreApart}
use Rattle.item_lists.specs.steps.Places.{IsItemAt}
use Rattle.item_lists.proofs.Reading.{Gone, behind, gone_all, gone_more, gone_none, gone_stop}
use Rattle.image_marks.specs.steps.SpanItems.{AreCountedSpans, AreFour, counted_spans, spans_bytes, IsSpan, and_span, four_bytes, span_bytes, stands}

spread : (a b c d rest : List ℕ) → (a ++ (b ++ (c ++ d))) ++ rest ≡ a ++ (b ++ (c ++ (d ++ rest)))
spread a b c d rest = append_assoc a (b ++ (c ++ d)) rest ∙ ap (λ l. a ++ l) (append_assoc b (c ++ d) rest ∙ ap (λ l. b ++ l) (append_assoc c d rest))

abbrev pub NoNumber : List ℕ → ℕ → Type 0
NoNumber bytes at = (n : ℕ) (rest : List ℕ) → IsNumberAt bytes at n rest → ⊥

abbrev pub NoFour : List ℕ → ℕ → Type 0
NoFour bytes at = (a b c d : ℕ) (rest : List ℕ) → AreFour bytes at a b c d rest → ⊥

-- the number that was read is the one that is there, and what lies behind it
step : (bytes : List ℕ) (at n end m : ℕ) (later more : List ℕ) → IsNumberAt bytes at n later → end ≡ at + length (number n) → drop at bytes ≡ number m ++ more → (n ≡ m) × (drop end bytes ≡ more)
step bytes at n end m later more is e here = let its = one_number n m later more (sym is.here ∙ here) in (its.0, behind bytes (number n) later at end is.here e ∙ its.1)

whole : (bytes : List ℕ) (at a b c d : ℕ) (rest : List ℕ) → AreFour bytes at a b c d rest → drop at bytes ≡ number a ++ (number b ++ (number c ++ (number d ++ rest)))
whole bytes at a b c d rest four = four.here ∙ spread (number a) (number b) (number c) (number d) rest

pub none_first : (bytes : List ℕ) (at : ℕ) → NoNumber bytes at → NoFour bytes at
none_first bytes at none a b c d rest four = none a (number b ++ (number c ++ (number d ++ rest))) (record { fits = four.fit.0; here = whole bytes at a b c d rest four })

pub none_second : (bytes : List ℕ) (at m at2 : ℕ) (l : List ℕ) → IsNumberAt bytes at m l → at2 ≡ at + length (number m) → NoNumber bytes at2 → NoFour bytes at
none_second bytes at m at2 l is e none a b c d rest four =
    let one = step bytes at m at2 a l (number b ++ (number c ++ (number d ++ rest))) is e (whole bytes at a b c d rest four) in
    none b (number c ++ (number d ++ rest)) (record { fits = four.fit.1; here = one.1 })

pub none_third : (bytes : List ℕ) (at m at2 n at3 : ℕ) (l k : List ℕ) → IsNumberAt bytes at m l → at2 ≡ at + length (number m) → IsNumberAt bytes at2 n k → at3 ≡ at2 + length (number n) → NoNumber bytes at3 → NoFour bytes at
none_third bytes at m at2 n at3 l k is e its f none a b c d rest four =
    let one = step bytes at m at2 a l (number b ++ (number c ++ (number d ++ rest))) is e (whole bytes at a b c d rest four) in
    let two = step bytes at2 n at3 b k (number c ++ (number d ++ rest)) its f one.1 in
    none c (number d ++ rest) (record { fits = four.fit.2; here = two.1 })

pub none_fourth : (bytes : List ℕ) (at m at2 n at3 o at4 : ℕ) (l k j : List ℕ) → IsNumberAt bytes at m l → at2 ≡ at + length (number m) → IsNumberAt bytes at2 n k → at3 ≡ at2 + length (number n) → IsNumberAt bytes at3 o j → at4 ≡ at3 + length (number o) → NoNumber bytes at4 → NoFour bytes at
none_fourth bytes at m at2 n at3 o at4 l k j is e its f this g none a b c d rest four =
    let one = step bytes at m at2 a l (number b ++ (number c ++ (number d ++ rest))) is e (whole bytes at a b c d rest four) in
    let two = step bytes at2 n at3 b k (number c ++ (number d ++ rest)) its f one.1 in
    let three = step bytes at3 o at4 c j (number d ++ rest) this g two.1 in
    none d rest (record { fits = four.fit.3; here = three.1 })

pub four_found : (bytes : List ℕ) (at a at2 b at3 c at4 d end : ℕ) (l k j i : List ℕ) → IsNumberAt bytes at a l → at2 ≡ at + length (number a) → IsNumberAt bytes at2 b k → at3 ≡ at2 + length (number b) → IsNumberAt bytes at3 c j → at4 ≡ at3 + length (number c) → IsNumberAt bytes at4 d i → end ≡ at4 + length (number d)
    → (rest : List ℕ) × AreFour bytes at a b c d rest × (end ≡ at + length (four_bytes a b c d))
four_found bytes at a at2 b at3 c at4 d end l k j i one e two f three g four h =
    let behind_a = behind bytes (number a) l at at2 one.here e in
    let behind_b = behind bytes (number b) k at2 at3 two.here f in
    let behind_c = behind bytes (number c) j at3 at4 three.here g in (
      i,
      record {
        fit = (one.fits, two.fits, three.fits, four.fits);
        here = one.here ∙ ap (λ x. number a ++ x) (sym behind_a ∙ two.here ∙ ap (λ x. number b ++ x) (sym behind_b ∙ three.here ∙ ap (λ x. number c ++ x) (sym behind_c ∙ four.here))) ∙ sym (spread (number a) (number b) (number c) (number d) i);
      },
      omega (arith, e, f, g, h, length-append (number a) (number b ++ (number c ++ number d)), length-append (number b) (number c ++ number d), length-append (number c) (number d)),
    )

-- as many numbers at one place are the same
pub record SameFour (a b c d e f g h : ℕ) : Type 0 where
  pub first : a ≡ e
  pub second : b ≡ f
  pub third : c ≡ g
  pub fourth : d ≡ h

pub one_four : (bytes : List ℕ) (at a b c d e f g h : ℕ) (x y : List ℕ) → AreFour bytes at a b c d x → AreFour bytes at e f g h y → SameFour a b c d e f g h × (x ≡ y)
one_four bytes at a b c d e f g h x y one other =
    let q = one_number a e (number b ++ (number c ++ (number d ++ x))) (number f ++ (number g ++ (number h ++ y))) (sym (whole bytes at a b c d x one) ∙ whole bytes at e f g h y other) in
    let r = one_number b f (number c ++ (number d ++ x)) (number g ++ (number h ++ y)) q.1 in
    let s = one_number c g (number d ++ x) (number h ++ y) r.1 in
    let t = one_number d h x y s.1 in
    (record { first = q.0; second = r.0; third = s.0; fourth = t.0 }, t.1)

-- the numbers of a span
pub span_four : (own bits bytes : List ℕ) (at : ℕ) (before : Option FieldSpan) (span : FieldSpan) (rest : List ℕ) → IsItemAt span_bytes (IsSpan own bits) bytes at before span rest → AreFour bytes at span.0 span.1.zone span.1.first (span.1.last - span.1.first) rest
span_four own bits bytes at before span rest is = record { fit = (is.fits.small, omega (arith, is.fits.zone), is.fits.first, is.fits.size); here = is.here }

abbrev pub NoSpan : List ℕ → List ℕ → List ℕ → ℕ → Option FieldSpan → Type 0
NoSpan own bits bytes at before = (span : FieldSpan) (rest : List ℕ) → IsItemAt span_bytes (IsSpan own bits) bytes at before span rest → ⊥

module _ (own bits bytes : List ℕ) (at : ℕ) (before : Option FieldSpan) (field zone first size : ℕ) (read : List ℕ) (four : AreFour bytes at field zone first size read) where
  its : (span : FieldSpan) (rest : List ℕ) → IsItemAt span_bytes (IsSpan own bits) bytes at before span rest → SameFour field zone first size span.0 span.1.zone span.1.first (span.1.last - span.1.first)
  its span rest is = (one_four bytes at field zone first size span.0 span.1.zone span.1.first (span.1.last - span.1.first) read rest four (span_four own bits bytes at before span rest is)).0

  pub no_field : length own ≤ field + 1 → NoSpan own bits bytes at before
  no_field high span rest is = absurd (omega (arith, high, (its span rest is).first, is.fits.field))

  pub no_zone : 65535 < zone → NoSpan own bits bytes at before
  no_zone high span rest is = absurd (omega (arith, high, (its span rest is).second, is.fits.zone))

  pub no_begin : stands own bits field first ≡ false → NoSpan own bits bytes at before
  no_begin not span rest is =
      let s = its span rest is in
      let t : stands own bits field first ≡ true = ap (λ f. stands own bits f first) s.first ∙ ap (stands own bits span.0) s.third ∙ is.fits.begins in
      absurd cc

  pub no_end : stands own bits field (first + size) ≡ false → NoSpan own bits bytes at before
  no_end not span rest is =
      let s = its span rest is in
      let last : first + size ≡ span.1.last = omega (arith, s.third, s.fourth, is.fits.order) in
      let t : stands own bits field (first + size) ≡ true = ap (λ f. stands own bits f (first + size)) s.first ∙ ap (stands own bits span.0) last ∙ is.fits.ends in
      absurd cc

  pub not_behind : (made : FieldSpan) → made ≡ (field, record { zone = zone; first = first; last = first + size }) → is_behind before made ≡ false → NoSpan own bits bytes at before
  not_behind made e not span rest is =
      let s = its span rest is in
      let last : first + size ≡ span.1.last = omega (arith, s.third, s.fourth, is.fits.order) in
      let a : field ≡ span.0 = s.first in let b : zone ≡ span.1.zone = s.second in let c : first ≡ span.1.first = s.third in
      let same : made ≡ span = e ∙ (λ i. (a i, record { zone = b i; first = c i; last = last i })) in
      let t : is_behind before made ≡ true = ap (is_behind before) same ∙ is.fits.behind in
      absurd cc

  pub span_found : (end : ℕ) (made : FieldSpan) → made ≡ (field, record { zone = zone; first = first; last = first + size }) → end ≡ at + length (four_bytes field zone first size) → field + 1 < length own → zone ≤ 65535 → stands own bits field first ≡ true → stands own bits field (first + size) ≡ true → is_behind before made ≡ true
      → (rest : List ℕ) × IsItemAt span_bytes (IsSpan own bits) bytes at before made rest × (end ≡ at + length (span_bytes before made))
  span_found end made e ends f z b l behind_it =
      let size_is : first + size - first ≡ size = omega arith in
      let bytes_are : span_bytes before (field, record { zone = zone; first = first; last = first + size }) ≡ four_bytes field zone first size = ap (four_bytes field zone first) size_is in
      subst (λ (m : FieldSpan). (rest : List ℕ) × IsItemAt span_bytes (IsSpan own bits) bytes at before m rest × (end ≡ at + length (span_bytes before m))) (sym e) (
        read,
        record {
          fits = record { field = f; small = four.fit.0; zone = omega (arith, z); first = four.fit.2; order = omega arith; size = omega (arith, size_is, four.fit.3); begins = b; ends = l; behind = sym (ap (is_behind before) e) ∙ behind_it };
          here = four.here ∙ ap (λ x. x ++ read) (sym bytes_are);
        },
        ends ∙ ap (λ x. at + length x) (sym bytes_are),
      )

pub spans_apart : (own bits : List ℕ) → AreApart span_bytes (IsSpan own bits)
spans_apart own bits before s t x y iss ist e =
    let its = one_four (span_bytes before s ++ x) 0 s.0 s.1.zone s.1.first (s.1.last - s.1.first) t.0 t.1.zone t.1.first (t.1.last - t.1.first) x y (record { fit = (iss.small, omega (arith, iss.zone), iss.first, iss.size); here = refl }) (record { fit = (ist.small, omega (arith, ist.zone), ist.first, ist.size); here = e }) in
    let a : s.0 ≡ t.0 = its.0.first in let b : s.1.zone ≡ t.1.zone = its.0.second in let c : s.1.first ≡ t.1.first = its.0.third in
    let d : s.1.last ≡ t.1.last = omega (arith, its.0.third, its.0.fourth, iss.order, ist.order) in
    ((λ i. (a i, record { zone = b i; first = c i; last = d i })), its.1)

-- so many spans were read
pub record SpansGone (own bits bytes : List ℕ) (start at : ℕ) (before : Option FieldSpan) (i : ℕ) : Type 0 where
  pub spans : List FieldSpan
  pub gone : Gone span_bytes and_span (IsSpan own bits) bytes start at None before i spans

pub spans_none : (own bits bytes : List ℕ) (start : ℕ) → SpansGone own bits bytes start start None 0
spans_none own bits bytes start = record { spans = []; gone = gone_none span_bytes and_span (IsSpan own bits) bytes start None }

pub spans_more : (own bits bytes : List ℕ) (start at end : ℕ) (before : Option FieldSpan) (i : ℕ) (span : FieldSpan) (rest : List ℕ) → SpansGone own bits bytes start at before i → IsItemAt span_bytes (IsSpan own bits) bytes at before span rest → end ≡ at + length (span_bytes before span) → SpansGone own bits bytes start end (Some span) (i + 1)
spans_more own bits bytes start at end before i span rest g is e = record { spans = g.spans ++ span ∷ []; gone = gone_more span_bytes and_span (IsSpan own bits) bytes start at end None before i g.spans span rest g.gone is e }

pub spans_stop : (own bits bytes : List ℕ) (at count start place : ℕ) (later : List ℕ) (before : Option FieldSpan) (i : ℕ) → IsNumberAt bytes at count later → start ≡ at + length (number count) → SpansGone own bits bytes start place before i → i < count → NoSpan own bits bytes place before
    → (spans : List FieldSpan) (rest : List ℕ) → AreCountedSpans own bits bytes at spans rest → ⊥
spans_stop own bits bytes at count start place later before i is e g low none spans rest are =
    let one = step bytes at count start (length spans) later (spans_bytes spans ++ rest) is e (are.here ∙ append_assoc (number (length spans)) (spans_bytes spans) rest) in
    gone_stop span_bytes and_span (IsSpan own bits) (spans_apart own bits) bytes start place None before i count g.spans g.gone low none spans rest (record { counted = sym one.0; fit = are.fit; here = one.1 })

pub no_span_count : (own bits bytes : List ℕ) (at : ℕ) → NoNumber bytes at → (spans : List FieldSpan) (rest : List ℕ) → AreCountedSpans own bits bytes at spans rest → ⊥
no_span_count own bits bytes at none spans rest are = none (length spans) (spans_bytes spans ++ rest) (record { fits = are.few; here = are.here ∙ append_assoc (number (length spans)) (spans_bytes spans) rest })

pub spans_all : (own bits bytes : List ℕ) (at count start place : ℕ) (later : List ℕ) (before : Option FieldSpan) (i : ℕ) → IsNumberAt bytes at count later → start ≡ at + length (number count) → SpansGone own bits bytes start place before i → i ≡ count
    → (spans : List FieldSpan) × (rest : List ℕ) × AreCountedSpans own bits bytes at spans rest × (place ≡ at + length (counted_spans spans))
spans_all own bits bytes at count start place later before i is e g done =
    let all = gone_all span_bytes and_span (IsSpan own bits) bytes start place None before i count g.spans g.gone done in
    let left = behind bytes (number count) later at start is.here e in (
      g.spans,
      drop place bytes,
      record {
        few = omega (arith, all.0.counted, is.fits);
        fit = all.0.fit;
        here = is.here ∙ ap (λ l. number count ++ l) (sym left ∙ all.0.here) ∙ ap (λ n. number n ++ (spans_bytes g.spans ++ drop place bytes)) (sym all.0.counted) ∙ sym (append_assoc (number (length g.spans)) (spans_bytes g.spans) (drop place bytes));
      },
      omega (arith, all.1, e, length-append (number (length g.spans)) (spans_bytes g.spans), ap (λ n. length (number n)) all.0.counted),
    )
