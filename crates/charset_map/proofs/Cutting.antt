-- Where a text is cut: at the first of a byte.
use Rattle.std.proofs.Common.{◌≡◌, ◌≢◌, ℕ, zero, suc, ◌+◌, ◌<◌, ◌≤◌, false, cond, eqb, List, [], ◌∷◌, ◌++◌, length, length-append, length-drop, take, drop, get_or, refl, sym, ◌∙◌, ap, subst, arith, inl, inr}
use Rattle.std.specs.Prelude.{not}
use Rattle.std.specs.List.{position_or_len}
use Rattle.std.specs.Char.{digit_value}
use Rattle.std.specs.Str.Parse.{AllDigits}
use Rattle.std.proofs.lemmas.Bool.{cases_Bool, true≢false, eqb-true, eqb-false, eq-eqb, ne_eqb}
use Rattle.std.proofs.lemmas.List.{take-append-drop, get_or_default}
use Rattle.charset_map.specs.Characters.{IsCharacter, is_plain}
use Rattle.charset_map.specs.steps.Sides.{Lacks}
use Rattle.charset_map.proofs.CharacterLemmas.{digit_at}

-- the place of the first such byte
abbrev pub place : ℕ → List ℕ → ℕ
place byte text = position_or_len (λ b. eqb b byte) text

place_here : (byte b : ℕ) (text : List ℕ) → b ≡ byte → place byte (b ∷ text) ≡ 0
place_here byte b text is = ap (λ t. cond (not t) (1 + place byte text) 0) (eq-eqb b byte is)

place_later : (byte b : ℕ) (text : List ℕ) → b ≢ byte → place byte (b ∷ text) ≡ 1 + place byte text
place_later byte b text other = ap (λ t. cond (not t) (1 + place byte text) 0) (ne_eqb b byte other)

pub place_within : (byte : ℕ) (text : List ℕ) → place byte text ≤ length text
place_within byte [] = omega arith
place_within byte (b ∷ text) = elim (cases_Bool (eqb b byte)) [
  | inl here ↦ omega (arith, place_here byte b text (eqb-true _ _ here))
  | inr other ↦ omega (arith, place_later byte b text (eqb-false _ _ other), place_within byte text)
]

lacks_nil : (byte : ℕ) → Lacks byte []
lacks_nil byte k d below = absurd (omega arith)

pub lacks_cons : (byte b : ℕ) (text : List ℕ) → b ≢ byte → Lacks byte text → Lacks byte (b ∷ text)
lacks_cons byte b text other rest zero d below = other
lacks_cons byte b text other rest (suc k) d below = rest k d (omega arith)

lacks_tail : (byte b : ℕ) (text : List ℕ) → Lacks byte (b ∷ text) → Lacks byte text
lacks_tail byte b text lacks k d below = lacks (suc k) d (omega arith)

pub lacks_append : (byte : ℕ) (a b : List ℕ) → Lacks byte a → Lacks byte b → Lacks byte (a ++ b)
lacks_append byte [] b first second = second
lacks_append byte (x ∷ a) b first second = lacks_cons byte x (a ++ b) (first 0 x (omega arith)) (lacks_append byte a b (lacks_tail byte x a first) second)

-- what stands before the first such byte has none
pub lacks_before : (byte : ℕ) (text : List ℕ) → Lacks byte (take (place byte text) text)
lacks_before byte [] = lacks_nil byte
lacks_before byte (b ∷ text) = elim (cases_Bool (eqb b byte)) [
  | inl here ↦ subst (λ (n : ℕ). Lacks byte (take n (b ∷ text))) (sym (place_here byte b text (eqb-true _ _ here))) (lacks_nil byte)
  | inr other ↦ (let is : suc (place byte text) ≡ place byte (b ∷ text) = omega (arith, place_later byte b text (eqb-false _ _ other)) in
      subst (λ (n : ℕ). Lacks byte (take n (b ∷ text))) is (lacks_cons byte b (take (place byte text) text) (eqb-false _ _ other) (lacks_before byte text)))
]

-- the byte stands at its place
pub byte_at_place : (byte : ℕ) (text : List ℕ) → place byte text < length text → get_or (drop (place byte text) text) 0 0 ≡ byte
byte_at_place byte [] within = absurd (omega arith)
byte_at_place byte (b ∷ text) within = elim (cases_Bool (eqb b byte)) [
  | inl here ↦ subst (λ (n : ℕ). get_or (drop n (b ∷ text)) 0 0 ≡ byte) (sym (place_here byte b text (eqb-true _ _ here))) (eqb-true _ _ here)
  | inr other ↦ (let is : suc (place byte text) ≡ place byte (b ∷ text) = omega (arith, place_later byte b text (eqb-false _ _ other)) in
      subst (λ (n : ℕ). get_or (drop n (b ∷ text)) 0 0 ≡ byte) is (byte_at_place byte text (omega (arith, is))))
]

-- a cut at the first such byte is at its place
pub place_is : (byte : ℕ) (left right : List ℕ) → Lacks byte left → place byte (left ++ byte ∷ right) ≡ length left
place_is byte [] right lacks = place_here byte byte right refl
place_is byte (b ∷ left) right lacks = omega (arith, place_later byte b (left ++ byte ∷ right) (lacks 0 b (omega arith)), place_is byte left right (lacks_tail byte b left lacks))

drop_length : (left right : List ℕ) → drop (length left) (left ++ right) ≡ right
drop_length [] right = refl
drop_length (b ∷ left) right = drop_length left right

take_length : (left right : List ℕ) → take (length left) (left ++ right) ≡ left
take_length [] right = refl
take_length (b ∷ left) right = ap (λ t. b ∷ t) (take_length left right)

-- a text without the byte has no cut there
pub no_cut : (byte : ℕ) (text left right : List ℕ) → place byte text ≡ length text → Lacks byte left → text ≢ left ++ byte ∷ right
no_cut byte text left right whole lacks is =
    let at : place byte text ≡ length left = ap (place byte) is ∙ place_is byte left right lacks in
    absurd (omega (arith, whole, at, ap length is, length-append left (byte ∷ right)))

-- a text that lacks the byte has its place at the end
pub place_of_lacking : (byte : ℕ) (text : List ℕ) → Lacks byte text → place byte text ≡ length text
place_of_lacking byte [] lacks = refl
place_of_lacking byte (b ∷ text) lacks = omega (arith, place_later byte b text (lacks 0 b (omega arith)), place_of_lacking byte text (lacks_tail byte b text lacks))

-- the two parts of a cut
pub left_is : (byte : ℕ) (left right left' right' : List ℕ) → Lacks byte left → Lacks byte left' → left ++ byte ∷ right ≡ left' ++ byte ∷ right' → left ≡ left'
left_is byte left right left' right' lacks lacks' same =
    let at : length left ≡ length left' = sym (place_is byte left right lacks) ∙ ap (place byte) same ∙ place_is byte left' right' lacks' in
    sym (take_length left (byte ∷ right)) ∙ ap (take (length left)) same ∙ ap (λ n. take n (left' ++ byte ∷ right')) at ∙ take_length left' (byte ∷ right')

pub right_is : (byte : ℕ) (left right left' right' : List ℕ) → Lacks byte left → Lacks byte left' → left ++ byte ∷ right ≡ left' ++ byte ∷ right' → byte ∷ right ≡ byte ∷ right'
right_is byte left right left' right' lacks lacks' same =
    let at : length left ≡ length left' = sym (place_is byte left right lacks) ∙ ap (place byte) same ∙ place_is byte left' right' lacks' in
    sym (drop_length left (byte ∷ right)) ∙ ap (drop (length left)) same ∙ ap (λ n. drop n (left' ++ byte ∷ right')) at ∙ drop_length left' (byte ∷ right')

-- two bytes at a text's front
two_first : (first second : ℕ) (text : List ℕ) → 2 ≤ length text → get_or text 0 0 ≡ first → get_or text 1 0 ≡ second → text ≡ first ∷ second ∷ drop 2 text
two_first first second [] long a b = absurd (omega arith)
two_first first second (x ∷ []) long a b = absurd (omega arith)
two_first first second (x ∷ y ∷ text) long a b = cc

-- a text by its first mark
pub mark_found : (mark next : ℕ) (text : List ℕ) → 2 ≤ length (drop (place mark text) text) → get_or (drop (place mark text) text) 1 0 ≡ next → text ≡ take (place mark text) text ++ mark ∷ next ∷ drop 2 (drop (place mark text) text)
mark_found mark next text long second =
    let within : place mark text < length text = omega (arith, long, length-drop (place mark text) text) in
    sym (take-append-drop (place mark text) text)
    ∙ ap (λ rest. take (place mark text) text ++ rest) (two_first mark next (drop (place mark text) text) long (byte_at_place mark text within) second)

rest_is : (mark next : ℕ) (text left right : List ℕ) → Lacks mark left → text ≡ left ++ mark ∷ next ∷ right → drop (place mark text) text ≡ mark ∷ next ∷ right
rest_is mark next text left right lacks is =
    ap (λ t. drop (place mark t) t) is
    ∙ ap (λ n. drop n (left ++ mark ∷ next ∷ right)) (place_is mark left (next ∷ right) lacks)
    ∙ drop_length left (mark ∷ next ∷ right)

pub mark_short : (mark next : ℕ) (text left right : List ℕ) → length (drop (place mark text) text) < 2 → Lacks mark left → text ≢ left ++ mark ∷ next ∷ right
mark_short mark next text left right short lacks is =
    omega (arith, short, ap length (rest_is mark next text left right lacks is))

pub mark_other : (mark next : ℕ) (text left right : List ℕ) → get_or (drop (place mark text) text) 1 0 ≢ next → Lacks mark left → text ≢ left ++ mark ∷ next ∷ right
mark_other mark next text left right other lacks is =
    other (ap (λ t. get_or t 1 0) (rest_is mark next text left right lacks is))

digits_lack : (byte : ℕ) (digits : List ℕ) → 16 ≤ digit_value byte → AllDigits 16 digits → Lacks byte digits
digits_lack byte digits high all k d below is =
    let here : get_or digits k 0 ≡ byte = get_or_default digits k 0 d below ∙ is in
    let digit : digit_value byte < 16 = subst (λ b. digit_value b < 16) here (digit_at digits k all below) in
    omega (arith, high, digit)

-- a character has none of the marks
pub character_lacks : (byte : ℕ) (text : List ℕ) (c : ℕ) → is_plain byte ≡ false → 85 ≢ byte → 43 ≢ byte → 16 ≤ digit_value byte → IsCharacter text c → Lacks byte text
character_lacks byte text c mark capital plus high (inl (is, plain)) =
    let other : c ≢ byte = λ same. true≢false (sym plain ∙ ap is_plain same ∙ mark) in
    subst (Lacks byte) (sym is) (lacks_cons byte c [] other (lacks_nil byte))
character_lacks byte text c mark capital plus high (inr code) =
    subst (Lacks byte) (sym code.is) (lacks_cons byte 85 (43 ∷ code.digits) capital (lacks_cons byte 43 code.digits plus (digits_lack byte code.digits high code.hexadecimal)))
