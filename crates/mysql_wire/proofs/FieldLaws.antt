-- A field that is read is spelled by the bytes that it takes, and what is spelled so is read.
use Rattle.std.proofs.Common.{◌≡◌, ℕ, Bool, true, false, cond, eqb, ltb, leb, List, [], ◌∷◌, ◌++◌, length, take, drop, Option, Some, None, option_map, zero-add, refl, sym, ap, ◌∙◌, append_assoc, arith, inl, inr}
use Rattle.std.specs.Prelude.{◌⊎◌, nat_eq}
use Rattle.std.specs.Cmp.Lexicographic.{pointwise, same_text}
use Rattle.std.proofs.lemmas.Bool.{eqb-true, eq-eqb, ltb-true, lt-ltb, leb-true, le-leb}
use Rattle.std.proofs.lemmas.Cmp.{nat_list_eq_equiv}
use Rattle.std.proofs.lemmas.List.{take_at, drop_at, take-append-drop, length-append, length-take-le}
use Rattle.std.proofs.lemmas.Option.{cond_some, some_pair_parts}
use Rattle.srch_base.specs.Numbers.{number_of}
use Rattle.mysql_wire.specs.steps.NumberFronts.{fixed_front, lenenc_front}
use Rattle.mysql_wire.specs.Fields.{IsPlain, IsMarked, IsNumber, Field, Exactly, Sized, Plain, Number, Lengthed, IsField}
use Rattle.mysql_wire.specs.steps.Scanning.{exactly_at, sized_at, if_number, if_text, known_at, behind, text_at}

-- The bytes begin with the field, and go on with the rest.
pub record Begins (field : Field) (bytes rest : List ℕ) : Type 0 where
  pub part : List ℕ
  pub is : bytes ≡ part ++ rest
  pub spelled : IsField field part

-- which way a test went
pub chosen : {A : Type 0} (b : Bool) (x y z : A) → cond b x y ≡ z → ((b ≡ true) × (x ≡ z)) ⊎ ((b ≡ false) × (y ≡ z))
chosen true x y z e = inl (refl, e)
chosen false x y z e = inr (refl, e)

-- ---- bytes

exactly_takes : (want bytes rest : List ℕ) → exactly_at want bytes ≡ Some rest → bytes ≡ want ++ rest
exactly_takes want bytes rest e =
    let g = cond_some (pointwise nat_eq (take (length want) bytes) want) (drop (length want) bytes) rest e in
    let same : take (length want) bytes ≡ want = same_text (take (length want) bytes) want (sym g.0) in
    sym (take-append-drop (length want) bytes) ∙ ap (λ (front : List ℕ). front ++ drop (length want) bytes) same ∙ ap (λ (after : List ℕ). want ++ after) g.1

exactly_again : (want rest : List ℕ) → exactly_at want (want ++ rest) ≡ Some rest
exactly_again want rest = rw (take_at want rest (length want) refl, drop_at want rest (length want) refl, nat_list_eq_equiv.refl want) refl

pub sized_takes : (size : ℕ) (bytes text rest : List ℕ) → sized_at size bytes ≡ Some (text, rest) → (bytes ≡ text ++ rest) × (length text ≡ size)
sized_takes size bytes text rest e =
    let g = cond_some (leb size (length bytes)) (take size bytes, drop size bytes) (text, rest) e in
    let text-is : take size bytes ≡ text = ap (λ (p : List ℕ × List ℕ). p.0) g.1 in
    let rest-is : drop size bytes ≡ rest = ap (λ (p : List ℕ × List ℕ). p.1) g.1 in
    (sym (take-append-drop size bytes) ∙ ap (λ (front : List ℕ). front ++ drop size bytes) text-is ∙ ap (λ (after : List ℕ). text ++ after) rest-is, ap length (sym text-is) ∙ length-take-le size bytes (leb-true size (length bytes) g.0))

pub sized_again : (size : ℕ) (text rest : List ℕ) → length text ≡ size → sized_at size (text ++ rest) ≡ Some (text, rest)
sized_again size text rest len =
    let long : leb size (length (text ++ rest)) ≡ true = le-leb _ _ (omega (arith, length-append text rest)) in
    rw (long, take_at text rest size len, drop_at text rest size len) refl

-- ---- numbers

-- a front number, by one test
fixed_by : (size : ℕ) (bytes : List ℕ) → fixed_front size bytes ≡ cond (leb size (length bytes)) (Some (number_of (take size bytes), drop size bytes)) None
fixed_by size bytes = rw (zero-add size) (by (leb size (length bytes)))
  where
    by : (b : Bool) → option_map {T = ℕ} {U = ℕ × List ℕ} (λ number. (number, drop size bytes)) (cond b (Some (number_of (take size bytes))) None) ≡ cond b (Some (number_of (take size bytes), drop size bytes)) None
    by true = refl
    by false = refl

pub plain_takes : (size : ℕ) (bytes : List ℕ) (n : ℕ) (rest : List ℕ) → fixed_front size bytes ≡ Some (n, rest) → Begins (Plain size n) bytes rest
plain_takes size bytes n rest e =
    let g = cond_some (leb size (length bytes)) (number_of (take size bytes), drop size bytes) (n, rest) (sym (fixed_by size bytes) ∙ e) in
    let n-is : number_of (take size bytes) ≡ n = ap (λ (p : ℕ × List ℕ). p.0) g.1 in
    let rest-is : drop size bytes ≡ rest = ap (λ (p : ℕ × List ℕ). p.1) g.1 in
    record { part = take size bytes; is = sym (take-append-drop size bytes) ∙ ap (λ (after : List ℕ). take size bytes ++ after) rest-is; spelled = (length-take-le size bytes (leb-true size (length bytes) g.0), sym n-is) }

pub plain_again : (size : ℕ) (part : List ℕ) (n : ℕ) (rest : List ℕ) → IsPlain size part n → fixed_front size (part ++ rest) ≡ Some (n, rest)
plain_again size part n rest h =
    let long : leb size (length (part ++ rest)) ≡ true = le-leb _ _ (omega (arith, h.0, length-append part rest)) in
    fixed_by size (part ++ rest) ∙ rw (long, take_at part rest size h.0, drop_at part rest size h.0, ← h.1) refl

marked : (mark size first : ℕ) (low : List ℕ) (n : ℕ) (rest : List ℕ) → eqb first mark ≡ true → fixed_front size low ≡ Some (n, rest) → (part : List ℕ) × (first ∷ low ≡ part ++ rest) × IsMarked mark size part n
marked mark size first low n rest is_mark e =
    let t = plain_takes size low n rest e in
    (mark ∷ t.part, ap (λ (m : ℕ). m ∷ low) (eqb-true first mark is_mark) ∙ ap (λ (tail : List ℕ). mark ∷ tail) t.is, (t.part, refl, t.spelled))

pub number_takes : (bytes : List ℕ) (n : ℕ) (rest : List ℕ) → lenenc_front bytes ≡ Some (n, rest) → Begins (Number n) bytes rest
number_takes [] n rest e = absurd cc
number_takes (mark ∷ low) n rest e =
    elim (chosen (ltb mark 251) (Some (mark, low)) _ _ e) [
      | inl one ↦
          let same : (mark ≡ n) × (low ≡ rest) = some_pair_parts mark n low rest one.1 in
          record { part = n ∷ []; is = ap (λ (m : ℕ). m ∷ low) same.0 ∙ ap (λ (tail : List ℕ). n ∷ tail) same.1; spelled = inl (refl, omega (arith, same.0, ltb-true mark 251 one.0)) }
      | inr long ↦ elim (chosen (eqb mark 0xfc) (fixed_front 2 low) _ _ long.1) [
        | inl two ↦ let m = marked 0xfc 2 mark low n rest two.0 two.1 in record { part = m.0; is = m.1; spelled = inr (inl m.2) }
        | inr more ↦ elim (chosen (eqb mark 0xfd) (fixed_front 3 low) _ _ more.1) [
          | inl three ↦ let m = marked 0xfd 3 mark low n rest three.0 three.1 in record { part = m.0; is = m.1; spelled = inr (inr (inl m.2)) }
          | inr most ↦ elim (chosen (eqb mark 0xfe) (fixed_front 8 low) _ _ most.1) [
            | inl eight ↦ let m = marked 0xfe 8 mark low n rest eight.0 eight.1 in record { part = m.0; is = m.1; spelled = inr (inr (inr m.2)) }
            | inr none ↦ absurd (let h = none.1 in cc)
          ]
        ]
      ]
    ]

pub number_again : (part : List ℕ) (n : ℕ) (rest : List ℕ) → IsNumber part n → lenenc_front (part ++ rest) ≡ Some (n, rest)
number_again part n rest h =
    elim h [
      | inl one ↦ ap (λ (p : List ℕ). lenenc_front (p ++ rest)) one.0 ∙ rw (lt-ltb n 251 one.1) refl
      | inr long ↦ elim long [
        | inl two ↦ ap (λ (p : List ℕ). lenenc_front (p ++ rest)) two.1 ∙ plain_again 2 two.0 n rest two.2
        | inr more ↦ elim more [
          | inl three ↦ ap (λ (p : List ℕ). lenenc_front (p ++ rest)) three.1 ∙ plain_again 3 three.0 n rest three.2
          | inr eight ↦ ap (λ (p : List ℕ). lenenc_front (p ++ rest)) eight.1 ∙ plain_again 8 eight.0 n rest eight.2
        ]
      ]
    ]

-- a number that is the one that was looked for
if_number_takes : (want : ℕ) (read : Option (ℕ × List ℕ)) (rest : List ℕ) → if_number want read ≡ Some rest → read ≡ Some (want, rest)
if_number_takes want None rest e = absurd cc
if_number_takes want (Some (n, after)) rest e =
    let g = cond_some (eqb n want) after rest e in
    let same : n ≡ want = eqb-true n want g.0 in
    ap (λ (m : ℕ). Some (m, after)) same ∙ ap (λ (r : List ℕ). Some (want, r)) g.1

if_number_again : (want : ℕ) (read : Option (ℕ × List ℕ)) (rest : List ℕ) → read ≡ Some (want, rest) → if_number want read ≡ Some rest
if_number_again want read rest e = ap (if_number want) e ∙ rw (eq-eqb want want refl) refl

-- ---- texts

if_text_takes : (want : List ℕ) (read : Option (List ℕ)) (rest : List ℕ) → if_text want read ≡ Some rest → read ≡ Some (want ++ rest)
if_text_takes want None rest e = absurd cc
if_text_takes want (Some bytes) rest e = ap (λ (b : List ℕ). Some b) (exactly_takes want bytes rest e)

behind_takes : (read : Option (ℕ × List ℕ)) (text rest : List ℕ) → behind read ≡ Some (text, rest) → read ≡ Some (length text, text ++ rest)
behind_takes None text rest e = absurd cc
behind_takes (Some (size, bytes)) text rest e =
    let t = sized_takes size bytes text rest e in
    ap (λ (b : List ℕ). Some (size, b)) t.0 ∙ ap (λ (n : ℕ). Some (n, text ++ rest)) (sym t.1)

-- a length and the text after it
lengthed : (bytes text rest : List ℕ) → lenenc_front bytes ≡ Some (length text, text ++ rest) → Begins (Lengthed text) bytes rest
lengthed bytes text rest e =
    let t = number_takes bytes (length text) (text ++ rest) e in
    record { part = t.part ++ text; is = t.is ∙ sym (append_assoc t.part text rest); spelled = (t.part, t.spelled, refl) }

number_of_text : (part text rest : List ℕ) → IsField (Lengthed text) part → lenenc_front (part ++ rest) ≡ Some (length text, text ++ rest)
number_of_text part text rest h =
    ap (λ (p : List ℕ). lenenc_front (p ++ rest)) h.2 ∙ ap lenenc_front (append_assoc h.0 text rest) ∙ number_again h.0 (length text) (text ++ rest) h.1

pub text_takes : (bytes text rest : List ℕ) → text_at bytes ≡ Some (text, rest) → Begins (Lengthed text) bytes rest
text_takes bytes text rest e = lengthed bytes text rest (behind_takes (lenenc_front bytes) text rest e)

pub text_again : (part text rest : List ℕ) → IsField (Lengthed text) part → text_at (part ++ rest) ≡ Some (text, rest)
text_again part text rest h = ap behind (number_of_text part text rest h) ∙ sized_again (length text) text rest refl

-- ---- a field that is known beforehand

pub known_takes : (field : Field) (bytes rest : List ℕ) → known_at field bytes ≡ Some rest → Begins field bytes rest
known_takes (Exactly want) bytes rest e = record { part = want; is = exactly_takes want bytes rest e; spelled = refl }
known_takes (Sized size want) bytes rest e =
    elim (chosen (eqb (length want) size) (exactly_at want bytes) None (Some rest) e) [
      | inl right ↦ record { part = want; is = exactly_takes want bytes rest right.1; spelled = (eqb-true (length want) size right.0, refl) }
      | inr wrong ↦ absurd (let h = wrong.1 in cc)
    ]
known_takes (Plain size want) bytes rest e = plain_takes size bytes want rest (if_number_takes want (fixed_front size bytes) rest e)
known_takes (Number want) bytes rest e = number_takes bytes want rest (if_number_takes want (lenenc_front bytes) rest e)
known_takes (Lengthed want) bytes rest e =
    lengthed bytes want rest (if_number_takes (length want) (lenenc_front bytes) (want ++ rest) (if_text_takes want (if_number (length want) (lenenc_front bytes)) rest e))

pub known_again : (field : Field) (part rest : List ℕ) → IsField field part → known_at field (part ++ rest) ≡ Some rest
known_again (Exactly want) part rest h = ap (λ (p : List ℕ). exactly_at want (p ++ rest)) h ∙ exactly_again want rest
known_again (Sized size want) part rest h =
    ap (λ (p : List ℕ). known_at (Sized size want) (p ++ rest)) h.1 ∙ rw (eq-eqb (length want) size h.0) (exactly_again want rest)
known_again (Plain size want) part rest h = if_number_again want (fixed_front size (part ++ rest)) rest (plain_again size part want rest h)
known_again (Number want) part rest h = if_number_again want (lenenc_front (part ++ rest)) rest (number_again part want rest h)
known_again (Lengthed want) part rest h =
    ap (if_text want) (if_number_again (length want) (lenenc_front (part ++ rest)) (want ++ rest) (number_of_text part want rest h)) ∙ exactly_again want rest
