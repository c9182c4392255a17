-- The rest of a text run, across the parts of the rest of a text.
use Rattle.std.proofs.Common.{◌≡◌, ℕ, ◌+◌, ◌<◌, ◌≤◌, true, false, cond, Bool, List, [], ◌∷◌, ◌++◌, length, get_or, drop, take, None, IsUtf8, refl, sym, ◌∙◌, ap, subst, arith, length-take-le}
use Rattle.std.specs.Char.{encode_utf8}
use Rattle.std.specs.Str.{chars, IsCharBoundary}
use Rattle.std.proofs.iter.FirstChar.{cut}
use Rattle.std.proofs.lemmas.Str.{IsUtf8-append, IsCharBoundary-after_ascii, chars-nil, chars_past_char}
use Rattle.mark_scan.specs.declared.cutting.Rest.{Rest}
use Rattle.mark_scan.specs.Markup.{BeginsMarkup, BeginsWith, TextPart, plain, comment, tag, part_bytes, AreParts}
use Rattle.mark_scan.specs.Marks.{run_of, IsWhole, PartsBy}
use Rattle.mark_scan.specs.Tags.{is_removed}
use Rattle.mark_scan.specs.steps.Scanning.{PartsOf, run_from, next_of, then_of}
use Rattle.mark_scan.proofs.Cuts.{part_within}
use Rattle.mark_scan.proofs.Fronts.{markup_opens, byte_after, byte_within}

pub nothing_utf8 : IsUtf8 []
nothing_utf8 = ([], (refl, refl))

-- a front of a text, and what lies after it
front_utf8 : (text front : List ℕ) (n : ℕ) → IsUtf8 text → n ≤ length text → IsCharBoundary text n → front ≡ take n text → IsUtf8 front × IsUtf8 (drop (length front) text)
front_utf8 text front n utf8 within boundary is =
    let both = cut text n utf8 boundary in
    let size : length front ≡ n = ap length is ∙ length-take-le n text within in
    (subst (λ (s : List ℕ). IsUtf8 s) (sym is) both.0, subst (λ (m : ℕ). IsUtf8 (drop m text)) (sym size) both.1)

-- after an ASCII byte
past_utf8 : (text front : List ℕ) (n m : ℕ) → IsUtf8 text → n < length text → get_or text n 0 < 128 → m ≡ n + 1 → front ≡ take m text → IsUtf8 front × IsUtf8 (drop (length front) text)
past_utf8 text front n m utf8 within ascii next is =
    front_utf8 text front (n + 1) utf8 (omega arith) (IsCharBoundary-after_ascii text n utf8 within ascii) (is ∙ ap (λ (k : ℕ). take k text) next)

-- markup at a place begins with `<` there
opens_at : (text : List ℕ) (n : ℕ) → BeginsMarkup (drop n text) → get_or text n 0 ≡ 60
opens_at text n begins =
    let at : n ≡ n + 0 = omega arith in
    ap (λ (i : ℕ). get_or text i 0) at ∙ sym (byte_after n text 0) ∙ markup_opens (drop n text) begins

-- a part that a UTF-8 text begins with is UTF-8, and so is what lies after it: they meet beside `<`, `>` or at the end
part_utf8 : (text : List ℕ) (part : TextPart) → IsUtf8 text → BeginsWith text part → IsUtf8 (part_bytes part) × IsUtf8 (drop (length (part_bytes part)) text)
part_utf8 text (plain bytes) utf8 begins =
    let within = part_within text (plain bytes) begins in
    front_utf8 text bytes (length bytes) utf8 within
    (within, λ below high. absurd (omega (arith, high, opens_at text (length bytes) (begins.up_to below))))
    begins.front
part_utf8 text (comment bytes) utf8 begins =
    past_utf8 text bytes (begins.end + 2) (begins.end + 3) utf8 (byte_within text (begins.end + 2) (omega (arith, begins.begins.ends.third))) (omega (arith, begins.begins.ends.third)) (omega arith) begins.is
part_utf8 text (tag t) utf8 begins =
    past_utf8 text t.text begins.last (begins.last + 1) utf8 (byte_within text begins.last (omega (arith, begins.begins.closes))) (omega (arith, begins.begins.closes)) refl begins.is

-- what follows of a run in the parts of a text is UTF-8
parts_run_utf8 : (zones : List (List ℕ)) (text : List ℕ) (parts : List TextPart) → IsUtf8 text → AreParts text parts → IsUtf8 (run_of zones parts)
parts_run_utf8 zones text [] utf8 are = nothing_utf8
parts_run_utf8 zones text (plain bytes ∷ parts) utf8 are =
    let both = part_utf8 text (plain bytes) utf8 are.0 in
    IsUtf8-append bytes _ both.0 (parts_run_utf8 zones (drop (length bytes) text) parts both.1 are.1)
parts_run_utf8 zones text (comment bytes ∷ parts) utf8 are = nothing_utf8
parts_run_utf8 zones text (tag t ∷ parts) utf8 are =
    let beyond = parts_run_utf8 zones (drop (length t.text) text) parts (part_utf8 text (tag t) utf8 are.0).1 are.1 in
    elim (is_removed zones t.name) as (λ b. IsUtf8 (cond b (run_of zones parts) [])) [ true ↦ beyond | false ↦ nothing_utf8 ]

whole_run_utf8 : (zones : List (List ℕ)) (text : List ℕ) (parts : List TextPart) → IsUtf8 text → IsWhole text parts → IsUtf8 (run_of zones parts)
whole_run_utf8 zones [] parts utf8 are = subst (λ (ps : List TextPart). IsUtf8 (run_of zones ps)) (sym are) nothing_utf8
whole_run_utf8 zones (b ∷ bytes) parts utf8 are = subst (λ (ps : List TextPart). IsUtf8 (run_of zones ps)) (sym are) (IsUtf8-append (b ∷ bytes) [] utf8 nothing_utf8)

rest_run_utf8 : (zones : List (List ℕ)) (strip : Bool) (text : List ℕ) (parts : List TextPart) → IsUtf8 text → PartsBy strip text parts → IsUtf8 (run_of zones parts)
rest_run_utf8 zones true text parts utf8 are = parts_run_utf8 zones text parts utf8 are
rest_run_utf8 zones false text parts utf8 are = whole_run_utf8 zones text parts utf8 are

pub run_utf8 : (zones : List (List ℕ)) (text : List ℕ) (rest : Rest) (parts : List TextPart) → IsUtf8 text → IsUtf8 rest.text.now → PartsOf rest parts → IsUtf8 (run_from zones text parts)
run_utf8 zones text rest parts text_utf8 utf8 are = IsUtf8-append text _ text_utf8 (rest_run_utf8 zones rest.strip rest.text.now parts utf8 are)

-- the characters of a run from its next one on
pub next_chars : (zones : List (List ℕ)) (run : List ℕ) (c : ℕ) (text : List ℕ) (parts : List TextPart) → IsUtf8 run → run ≡ encode_utf8 c ++ run_from zones text parts → chars run ≡ c ∷ chars (run_from zones text parts)
next_chars zones run c text parts utf8 is = chars_past_char run (run_from zones text parts) c utf8 is

-- a run that ends here has no next character
pub next_of_none : (run : List ℕ) → run ≡ [] → None ≡ next_of (chars run)
next_of_none run is = sym (ap (λ (r : List ℕ). next_of (chars r)) is ∙ ap next_of chars-nil)

pub then_of_none : (run : List ℕ) → run ≡ [] → None ≡ then_of (chars run)
then_of_none run is = sym (ap (λ (r : List ℕ). then_of (chars r)) is ∙ ap then_of chars-nil)
