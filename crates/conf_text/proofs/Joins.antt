-- Lines of several parts.
use Rattle.std.proofs.Common.{◌≡◌, ℕ, ◌+◌, ◌<◌, ◌≤◌, Bool, true, false, cond, List, [], ◌∷◌, ◌++◌, length, length-append, append_assoc, append-nil, refl, sym, ◌∙◌, ap, subst, arith, inl, inr, ◌≢◌}
use Rattle.std.specs.Prelude.{◌⊎◌, All, ◌&&◌, not, ◌==◌}
use Rattle.std.specs.Str.{IsUtf8}
use Rattle.std.specs.Str.Lines.{lines}
use Rattle.std.proofs.lemmas.List.Elements.{All-nil, All-push}
use Rattle.std.proofs.lemmas.Bool.{true≢false, cases_Bool, eqb-true, eqb-false, and_cases, and_parts, not-false, not-true}
use Rattle.std.proofs.lemmas.List.{get_or_append_left}
use Rattle.std.proofs.Math.Seq.{get_or-append_seam}
use Rattle.conf_text.specs.declared.lines.Lines.{Lines}
use Rattle.conf_text.specs.declared.lines.PartHead.{PartHead}
use Rattle.conf_text.specs.Lines.{Line, is_joined, joined_parts, lines_from, onto_line, unjoined}
use Rattle.conf_text.specs.steps.LineReader.{bound, left, IsPartRead, IsLineRead}

-- parts that are joined, before the first of these lines
abbrev pub onto_lines : ℕ → List (List ℕ) → List Line → List Line
onto_lines number [] lines = lines
onto_lines number (part ∷ parts) lines = onto_line number part (onto_lines (number + 1) parts lines)

-- a line of these parts
abbrev pub line_of : ℕ → List (List ℕ) → Line
line_of number parts = record { number = number; parts = parts }

one_more : (number next : ℕ) (front : List (List ℕ)) (part : List ℕ) (lines : List Line) → next ≡ number + length front → onto_lines number front (onto_line next part lines) ≡ onto_lines number (front ++ part ∷ []) lines
one_more number next [] part lines is = ap (λ n. onto_line n part lines) (omega (arith, is))
one_more number next (first ∷ front) part lines is = ap (onto_line number first) (one_more (number + 1) next front part lines (omega (arith, is)))

last_one : (number next : ℕ) (front : List (List ℕ)) (part : List ℕ) (lines : List Line) → next ≡ number + length front → onto_lines number front (line_of next (part ∷ []) ∷ lines) ≡ line_of number (front ++ part ∷ []) ∷ lines
last_one number next [] part lines is = ap (λ n. line_of n (part ∷ []) ∷ lines) (omega (arith, is))
last_one number next (first ∷ front) part lines is = ap (onto_line number first) (last_one (number + 1) next front part lines (omega (arith, is)))

joined_more : (front : List (List ℕ)) (part : List ℕ) → joined_parts (front ++ part ∷ []) ≡ joined_parts front ++ unjoined part
joined_more [] part = append-nil (unjoined part)
joined_more (first ∷ front) part = ap (λ rest. unjoined first ++ rest) (joined_more front part) ∙ sym (append_assoc (unjoined first) (joined_parts front) (unjoined part))

-- the parts of a line that were read so far
pub record Joined (old now : Lines) (number : ℕ) (buffer : List ℕ) (utf8 : Bool) : Type 0 where
  pub front : List (List ℕ)
  pub count : now.number ≡ number + length front
  pub are : left old ≡ onto_lines number front (left now)
  pub buffer_is : buffer ≡ joined_parts front
  pub text : utf8 ≡ true → All IsUtf8 front
  pub no_text : utf8 ≡ false → ¬ (All IsUtf8 front)
  pub some : 0 < length now.rest.now
  pub shorter : length now.rest.now ≤ length old.rest.now
  pub bounded : bound now ≤ bound old
  pub size : length buffer + length now.rest.now ≤ length old.rest.now

pub joined_none : (old : Lines) (buffer : List ℕ) → 0 < length old.rest.now → buffer ≡ [] → Joined old old old.number buffer true
joined_none old buffer some empty = record {
  front = [];
  count = omega arith;
  are = refl;
  buffer_is = empty;
  text = λ yes. All-nil IsUtf8;
  no_text = λ no. cc;
  some = some;
  shorter = omega arith;
  bounded = omega arith;
  size = omega (arith, ap length empty);
}

all_front : {X : Type 0} (P : X → Type 0) (xs : List X) (y : X) → All P (xs ++ y ∷ []) → All P xs
all_front P xs y all k d below = subst P (get_or_append_left xs (y ∷ []) d k below) (all k d (omega (arith, below, length-append xs (y ∷ []))))

all_last : {X : Type 0} (P : X → Type 0) (xs : List X) (y : X) → All P (xs ++ y ∷ []) → P y
all_last P xs y all = subst P (get_or-append_seam xs y [] y) (all (length xs) y (omega (arith, length-append xs (y ∷ []))))

both_text : (front : List (List ℕ)) (part : List ℕ) (a b : Bool) → (a ≡ true → All IsUtf8 front) → (b ≡ true → IsUtf8 part) → (a && b) ≡ true → All IsUtf8 (front ++ part ∷ [])
both_text front part true true text is both = All-push IsUtf8 front part (text refl) (is refl)
both_text front part true false text is both = absurd (true≢false (sym both))
both_text front part false b text is both = absurd (true≢false (sym both))

some_no_text : (front : List (List ℕ)) (part : List ℕ) (a b : Bool) → (a ≡ false → ¬ (All IsUtf8 front)) → (b ≡ false → ¬ (IsUtf8 part)) → (a && b) ≡ false → ¬ (All IsUtf8 (front ++ part ∷ []))
some_no_text front part true true f g none all = absurd (true≢false none)
some_no_text front part true false f g none all = g refl (all_last IsUtf8 front part all)
some_no_text front part false b f g none all = f refl (all_front IsUtf8 front part all)

-- the part goes on
pub joined_next : (old now : Lines) (number : ℕ) (buffer : List ℕ) (utf8 : Bool) (new : Lines) (after : List ℕ) (head : PartHead) → Joined old now number buffer utf8 → IsPartRead now buffer new after head → head.goes_on ≡ true → Joined old new number after (utf8 && head.utf8)
joined_next old now number buffer utf8 new after head joined read goes =
    let both : (is_joined read.part && not (length new.rest.now == 0)) ≡ true = sym read.goes_on ∙ goes in
    let is : is_joined read.part ≡ true = (and_parts (is_joined read.part) (not (length new.rest.now == 0)) both).0 in
    let other : length new.rest.now ≢ 0 = eqb-false (length new.rest.now) 0 (not-true (length new.rest.now == 0) ((and_parts (is_joined read.part) (not (length new.rest.now == 0)) both).1)) in
    let some : 0 < length new.rest.now = omega arith in
    let here : left now ≡ onto_line now.number read.part (left new) =
    ap (lines_from now.number) read.parts
    ∙ ap (λ t. cond t (onto_line now.number read.part (lines_from (now.number + 1) (lines new.rest.now))) (line_of now.number (read.part ∷ []) ∷ lines_from (now.number + 1) (lines new.rest.now))) is
    ∙ ap (λ n. onto_line now.number read.part (lines_from n (lines new.rest.now))) (sym read.number) in
    record {
      front = joined.front ++ read.part ∷ [];
      count = omega (arith, joined.count, read.number, length-append joined.front (read.part ∷ []));
      are = joined.are ∙ ap (onto_lines number joined.front) here ∙ one_more number now.number joined.front read.part (left new) joined.count;
      buffer_is = read.buffer ∙ ap (λ b. b ++ unjoined read.part) joined.buffer_is ∙ sym (joined_more joined.front read.part);
      text = both_text joined.front read.part utf8 head.utf8 joined.text read.text;
      no_text = some_no_text joined.front read.part utf8 head.utf8 joined.no_text read.no_text;
      some = some;
      shorter = omega (arith, read.shorter, joined.shorter);
      bounded = omega (arith, read.shorter, read.number, joined.bounded);
      size = omega (arith, read.size, joined.size);
    }

-- a line, and those after it
line_alone : (number : ℕ) (part : List ℕ) (rest : List ℕ) → is_joined part ≡ false → lines_from number (part ∷ lines rest) ≡ line_of number (part ∷ []) ∷ lines_from (number + 1) (lines rest)
line_alone number part rest alone = ap (λ t. cond t (onto_line number part (lines_from (number + 1) (lines rest))) (line_of number (part ∷ []) ∷ lines_from (number + 1) (lines rest))) alone

line_at_end : (number : ℕ) (part : List ℕ) → lines_from number (part ∷ []) ≡ line_of number (part ∷ []) ∷ []
line_at_end number part = elim (cases_Bool (is_joined part)) [
  | inl goes ↦ ap (λ t. cond t (line_of number (part ∷ []) ∷ []) (line_of number (part ∷ []) ∷ [])) goes
  | inr alone ↦ line_alone number part [] alone
]

lines_here : (number : ℕ) (part : List ℕ) (rest : List ℕ) → (is_joined part ≡ false) ⊎ (length rest ≡ 0) → lines_from number (part ∷ lines rest) ≡ line_of number (part ∷ []) ∷ lines_from (number + 1) (lines rest)
lines_here number part rest (inl alone) = line_alone number part rest alone
lines_here number part [] (inr end) = line_at_end number part
lines_here number part (b ∷ rest) (inr end) = absurd (omega arith)

ends_here : (part rest : List ℕ) → (is_joined part && not (length rest == 0)) ≡ false → (is_joined part ≡ false) ⊎ (length rest ≡ 0)
ends_here part rest ends = elim (and_cases _ _ ends) [
  | inl alone ↦ inl alone
  | inr some ↦ inr (eqb-true _ _ (not-false _ some))
]

-- the line is whole
pub joined_end : (old now : Lines) (number : ℕ) (buffer : List ℕ) (utf8 : Bool) (new : Lines) (after : List ℕ) (head : PartHead) → Joined old now number buffer utf8 → IsPartRead now buffer new after head → head.goes_on ≡ false → IsLineRead old new after (record { number = number; utf8 = utf8 && head.utf8 })
joined_end old now number buffer utf8 new after head joined read ends =
    let stop = ends_here read.part new.rest.now (sym read.goes_on ∙ ends) in
    let here : left now ≡ line_of now.number (read.part ∷ []) ∷ left new =
    ap (lines_from now.number) read.parts
    ∙ lines_here now.number read.part new.rest.now stop
    ∙ ap (λ n. line_of now.number (read.part ∷ []) ∷ lines_from n (lines new.rest.now)) (sym read.number) in
    record {
      line = line_of number (joined.front ++ read.part ∷ []);
      are = joined.are ∙ ap (onto_lines number joined.front) here ∙ last_one number now.number joined.front read.part (left new) joined.count;
      number = refl;
      buffer_is = read.buffer ∙ ap (λ b. b ++ unjoined read.part) joined.buffer_is ∙ sym (joined_more joined.front read.part);
      text = both_text joined.front read.part utf8 head.utf8 joined.text read.text;
      no_text = some_no_text joined.front read.part utf8 head.utf8 joined.no_text read.no_text;
      shorter = omega (arith, read.shorter, joined.shorter);
      bounded = omega (arith, read.shorter, read.number, joined.bounded);
      size = omega (arith, read.size, joined.size);
    }
