-- The escapes of a text, resolved byte by byte.
use Rattle.std.proofs.Common.{◌≡◌, ◌≢◌, ℕ, zero, suc, ◌+◌, ◌-◌, ◌<◌, ◌≤◌, Bool, true, false, eqb, ◌&&◌, List, [], ◌∷◌, ◌++◌, Some, None, length, get_or, drop, slice_range, refl, sym, ap, ◌∙◌, subst, arith, ⊎_elim, append_assoc, append-nil, Vec, Global}
use Rattle.std.specs.Vec.{vec_len, vec_capacity}
use Rattle.std.proofs.lemmas.Bool.{and_parts, cond-false, ne_eqb, eq-eqb, eqb-true, false≢true, cases_lt}
use Rattle.std.proofs.lemmas.List.{drop_more, drop_all}
use Rattle.memchr.specs.Find.{IsFirstByte, is_byte}
use Rattle.ql_lex.specs.Shapes.{is_plain, is_inner}
use Rattle.ql_lex.specs.Values.{escaped, unescaped}
use Rattle.ql_lex.proofs.Slices.{slice_byte, slice_length, slice_more, slice_none}

-- what is left to resolve, with the `\` before it that was read already
abbrev pub left : Bool → List ℕ → List ℕ
left true rest = 92 ∷ rest
left false rest = rest

-- a byte that stands for itself
pub unescaped_plain : (b : ℕ) (rest : List ℕ) → b ≢ 92 → unescaped (b ∷ rest) ≡ b ∷ unescaped rest
unescaped_plain b [] plain = refl
unescaped_plain b (c ∷ rest) plain = cond-false (eqb b 92) (escaped c ∷ unescaped rest) (b ∷ unescaped (c ∷ rest)) (ne_eqb b 92 plain)

inner_plain_rest : (quote b : ℕ) (rest : List ℕ) → b ≢ 92 → is_inner quote (b ∷ rest) ≡ true → is_inner quote rest ≡ true
inner_plain_rest quote b [] plain is = refl
inner_plain_rest quote b (c ∷ rest) plain is =
    (and_parts (is_plain quote b) (is_inner quote (c ∷ rest)) (sym (cond-false (eqb b 92) (is_inner quote rest) (is_plain quote b && is_inner quote (c ∷ rest)) (ne_eqb b 92 plain)) ∙ is)).1

-- Some bytes between quotes were resolved, and with those that are left it is as wanted.
pub record Resolves (quote : ℕ) (inner old : List ℕ) (place : ℕ) (after_backslash : Bool) (items : List ℕ) : Type 0 where
  pub value : items ++ unescaped (left after_backslash (drop place inner)) ≡ old ++ unescaped inner
  pub inner_left : is_inner quote (left after_backslash (drop place inner)) ≡ true

pub resolve_start : (quote : ℕ) (inner old items : List ℕ) → is_inner quote inner ≡ true → items ≡ old → Resolves quote inner old 0 false items
resolve_start quote inner old items is same = record { value = ap (λ (l : List ℕ). l ++ unescaped inner) same; inner_left = is }

-- the byte after a `\`
pub resolve_escaped : (quote : ℕ) (inner old : List ℕ) (place : ℕ) (items new : List ℕ) → place < length inner → Resolves quote inner old place true items → new ≡ items ++ escaped (get_or inner place 0) ∷ [] → Resolves quote inner old (place + 1) false new
resolve_escaped quote inner old place items new within resolves is =
    let more : drop place inner ≡ get_or inner place 0 ∷ drop (place + 1) inner = drop_more inner place 0 within in
    record {
      value =
          ap (λ (l : List ℕ). l ++ unescaped (drop (place + 1) inner)) is
          ∙ append_assoc items (escaped (get_or inner place 0) ∷ []) (unescaped (drop (place + 1) inner))
          ∙ ap (λ (l : List ℕ). items ++ unescaped (92 ∷ l)) (sym more)
          ∙ resolves.value;
      inner_left = ap (λ (l : List ℕ). is_inner quote (92 ∷ l)) (sym more) ∙ resolves.inner_left;
    }

-- a `\`
pub resolve_backslash : (quote : ℕ) (inner old : List ℕ) (place : ℕ) (items : List ℕ) → place < length inner → get_or inner place 0 ≡ 92 → Resolves quote inner old place false items → Resolves quote inner old (place + 1) true items
resolve_backslash quote inner old place items within backslash resolves =
    let more : 92 ∷ drop (place + 1) inner ≡ drop place inner = ap (λ (b : ℕ). b ∷ drop (place + 1) inner) (sym backslash) ∙ sym (drop_more inner place 0 within) in
    record {
      value = ap (λ (l : List ℕ). items ++ unescaped l) more ∙ resolves.value;
      inner_left = ap (is_inner quote) more ∙ resolves.inner_left;
    }

-- a byte that stands for itself
pub resolve_plain : (quote : ℕ) (inner old : List ℕ) (place : ℕ) (items new : List ℕ) → place < length inner → get_or inner place 0 ≢ 92 → Resolves quote inner old place false items → new ≡ items ++ get_or inner place 0 ∷ [] → Resolves quote inner old (place + 1) false new
resolve_plain quote inner old place items new within plain resolves is =
    let more : drop place inner ≡ get_or inner place 0 ∷ drop (place + 1) inner = drop_more inner place 0 within in
    record {
      value =
          ap (λ (l : List ℕ). l ++ unescaped (drop (place + 1) inner)) is
          ∙ append_assoc items (get_or inner place 0 ∷ []) (unescaped (drop (place + 1) inner))
          ∙ ap (λ (l : List ℕ). items ++ l) (sym (unescaped_plain (get_or inner place 0) (drop (place + 1) inner) plain))
          ∙ ap (λ (l : List ℕ). items ++ unescaped l) (sym more)
          ∙ resolves.value;
      inner_left = inner_plain_rest quote (get_or inner place 0) (drop (place + 1) inner) plain (ap (is_inner quote) (sym more) ∙ resolves.inner_left);
    }

-- at the end
pub resolve_end : (quote : ℕ) (inner old : List ℕ) (place : ℕ) (after_backslash : Bool) (items : List ℕ) → length inner ≤ place → Resolves quote inner old place after_backslash items → items ≡ old ++ unescaped inner
resolve_end quote inner old place false items past resolves =
    sym (append-nil items) ∙ ap (λ (l : List ℕ). items ++ unescaped l) (sym (drop_all place inner past)) ∙ resolves.value
resolve_end quote inner old place true items past resolves =
    absurd (false≢true (ap (λ (l : List ℕ). is_inner quote (92 ∷ l)) (sym (drop_all place inner past)) ∙ resolves.inner_left))

-- The same of a vector, with room for the bytes that are left.
pub record Resolving (quote : ℕ) (inner old : List ℕ) (place : ℕ) (out : Vec ℕ Global) : Type 0 where
  pub resolves : Resolves quote inner old place false out.items
  pub room : vec_len out + (length inner - place) ≤ vec_capacity out

-- no byte from a place up to another is a `\`
abbrev pub NoEscape : List ℕ → ℕ → ℕ → Type 0
NoEscape inner from to = (k : ℕ) → from ≤ k → k < to → get_or inner k 0 ≢ 92

-- bytes that stand for themselves
pub resolve_piece : (quote : ℕ) (inner old : List ℕ) (place n : ℕ) (items : List ℕ) → place + n ≤ length inner → NoEscape inner place (place + n) → Resolves quote inner old place false items
    → Resolves quote inner old (place + n) false (items ++ slice_range inner place (place + n))
resolve_piece quote inner old place zero items within plain resolves =
    let e : place ≡ place + 0 = omega arith in
    let none : items ≡ items ++ slice_range inner place (place + 0) = sym (append-nil items) ∙ ap (λ (l : List ℕ). items ++ l) (sym (slice_none inner place)) ∙ ap (λ k. items ++ slice_range inner place k) e in
    subst (λ (l : List ℕ). Resolves quote inner old (place + 0) false l) none (subst (λ k. Resolves quote inner old k false items) e resolves)
resolve_piece quote inner old place (suc n) items within plain resolves =
    let before = resolve_piece quote inner old place n items (omega (arith, within)) (λ k above below. plain k above (omega arith)) resolves in
    let e : place + n + 1 ≡ place + suc n = omega arith in
    let is : items ++ slice_range inner place (place + suc n) ≡ (items ++ slice_range inner place (place + n)) ++ get_or inner (place + n) 0 ∷ [] =
    ap (λ k. items ++ slice_range inner place k) (sym e)
    ∙ ap (λ (l : List ℕ). items ++ l) (slice_more inner place (place + n) (omega arith) (omega (arith, within)))
    ∙ sym (append_assoc items (slice_range inner place (place + n)) (get_or inner (place + n) 0 ∷ [])) in
    subst (λ k. Resolves quote inner old k false (items ++ slice_range inner place (place + suc n))) e
    (resolve_plain quote inner old (place + n) (items ++ slice_range inner place (place + n)) (items ++ slice_range inner place (place + suc n)) (omega (arith, within)) (plain (place + n) (omega arith) (omega arith)) before is)

-- a `\` is followed by a byte
pub resolve_more : (quote : ℕ) (inner old : List ℕ) (place : ℕ) (items : List ℕ) → Resolves quote inner old place true items → place < length inner
resolve_more quote inner old place items resolves =
    ⊎_elim (λ below. below)
    (λ past. absurd (false≢true (ap (λ (l : List ℕ). is_inner quote (92 ∷ l)) (sym (drop_all place inner past)) ∙ resolves.inner_left)))
    (cases_lt place (length inner))

-- the first `\` of a rest, if there is one
pub record FirstEscape (inner : List ℕ) (at place : ℕ) : Type 0 where
  pub within : place < length inner
  pub is : get_or inner place 0 ≡ 92
  pub plain : NoEscape inner at place

unescaped_before : (inner : List ℕ) (at n : ℕ) → at + n ≤ length inner → ((k : ℕ) → 0 ≤ k → k < n → is_byte 92 (get_or (slice_range inner at (length inner)) k 0) ≡ true → ⊥) → NoEscape inner at (at + n)
unescaped_before inner at n within none k above below is =
    let j = k - at in
    let e : at + j ≡ k = omega arith in
    let here : get_or (slice_range inner at (length inner)) j 0 ≡ get_or inner k 0 = slice_byte inner at (length inner) j (omega arith) ∙ ap (λ i. get_or inner i 0) e in
    none j (omega arith) (omega arith) (eq-eqb (get_or (slice_range inner at (length inner)) j 0) 92 (here ∙ is))

pub first_escape : (inner : List ℕ) (at plain : ℕ) → at < length inner → IsFirstByte (is_byte 92) (slice_range inner at (length inner)) (Some plain) → FirstEscape inner at (at + plain)
first_escape inner at plain below found =
    let size = slice_length inner at (length inner) (omega arith) in
    let high = found.0.high in
    let within : at + plain < length inner = omega (arith, size, high) in
    record {
      within = within;
      is = sym (slice_byte inner at (length inner) plain within) ∙ eqb-true (get_or (slice_range inner at (length inner)) plain 0) 92 found.1;
      plain = unescaped_before inner at plain (omega arith) found.0.before;
    }

pub no_escape : (inner : List ℕ) (at : ℕ) → at < length inner → IsFirstByte (is_byte 92) (slice_range inner at (length inner)) None → NoEscape inner at (length inner)
no_escape inner at below none =
    let size = slice_length inner at (length inner) (omega arith) in
    let e : at + (length inner - at) ≡ length inner = omega arith in
    subst (NoEscape inner at) e (unescaped_before inner at (length inner - at) (omega arith) (λ k low high. none k low (omega (arith, size))))

-- bytes that stand for themselves, and then an escaped one
pub escape_more : (quote : ℕ) (inner old : List ℕ) (at plain : ℕ) (items : List ℕ) → at < length inner → IsFirstByte (is_byte 92) (slice_range inner at (length inner)) (Some plain)
    → Resolves quote inner old at false items → Resolves quote inner old (at + plain + 1) true (items ++ slice_range inner at (at + plain))
escape_more quote inner old at plain items below found resolves =
    let first = first_escape inner at plain below found in
    let within = first.within in
    resolve_backslash quote inner old (at + plain) (items ++ slice_range inner at (at + plain)) within first.is
    (resolve_piece quote inner old at plain items (omega (arith, within)) first.plain resolves)

pub resolve_escape : (quote : ℕ) (inner old : List ℕ) (at plain : ℕ) (items piece new : List ℕ) → at < length inner → IsFirstByte (is_byte 92) (slice_range inner at (length inner)) (Some plain)
    → Resolves quote inner old at false items → piece ≡ items ++ slice_range inner at (at + plain) → new ≡ piece ++ escaped (get_or inner (at + plain + 1) 0) ∷ [] → Resolves quote inner old (at + plain + 2) false new
resolve_escape quote inner old at plain items piece new below found resolves piece_is new_is =
    let read = escape_more quote inner old at plain items below found resolves in
    let e : at + plain + 1 + 1 ≡ at + plain + 2 = omega arith in
    subst (λ k. Resolves quote inner old k false new) e
    (resolve_escaped quote inner old (at + plain + 1) (items ++ slice_range inner at (at + plain)) new (resolve_more quote inner old (at + plain + 1) (items ++ slice_range inner at (at + plain)) read) read
    (new_is ∙ ap (λ (l : List ℕ). l ++ escaped (get_or inner (at + plain + 1) 0) ∷ []) piece_is))

-- bytes that stand for themselves up to the end
pub resolve_rest : (quote : ℕ) (inner old : List ℕ) (at : ℕ) (items new : List ℕ) → at < length inner → IsFirstByte (is_byte 92) (slice_range inner at (length inner)) None
    → Resolves quote inner old at false items → new ≡ items ++ slice_range inner at (length inner) → new ≡ old ++ unescaped inner
resolve_rest quote inner old at items new below none resolves new_is =
    let n = length inner - at in
    let e : length inner ≡ at + n = omega arith in
    let plain : NoEscape inner at (at + n) = subst (NoEscape inner at) e (no_escape inner at below none) in
    let read = resolve_piece quote inner old at n items (omega arith) plain resolves in
    new_is ∙ ap (λ k. items ++ slice_range inner at k) e ∙ resolve_end quote inner old (at + n) false (items ++ slice_range inner at (at + n)) (omega arith) read
