-- A text has one list of parts, and one list of marks.
use Rattle.std.proofs.Common.{◌≡◌, ℕ, ◌+◌, ◌-◌, ◌<◌, ◌==◌, true, false, Bool, List, [], ◌∷◌, length, get_or, drop, take, sym, ◌∙◌, ap, subst, refl, arith, ⊎_elim}
use Rattle.std.specs.Prelude.{Option, slice_range, IsTrue}
use Rattle.std.specs.Char.{is_ascii_alphabetic}
use Rattle.std.proofs.lemmas.Bool.{cases_lt}
use Rattle.mark_scan.specs.declared.mark.Mark.{Mark}
use Rattle.mark_scan.specs.declared.mark.MarkRules.{MarkRules}
use Rattle.mark_scan.specs.Markup.{BeginsComment, BeginsTag, by_comment, by_tag, TagText, BeginsWith, BeginsPlain, BeginsWithTag, TextPart, plain, comment, tag, part_bytes, Splits, AreParts}
use Rattle.mark_scan.specs.Marks.{PartsBy, IsWhole, AreMarks, marks_after}
use Rattle.mark_scan.proofs.Cuts.{part_some, part_within}

-- two numbers, neither of which is below the other, are one
neither_below : (m n : ℕ) → (m < n → ⊥) → (n < m → ⊥) → m ≡ n
neither_below m n first second = ⊎_elim (λ below. absurd (first below)) (λ above. ⊎_elim (λ below. absurd (second below)) (λ other. omega arith) (cases_lt n m)) (cases_lt m n)

-- two plain texts at the front of one text: neither is shorter
plain_not_shorter : (text a b : List ℕ) → BeginsPlain text a → BeginsPlain text b → length a < length b → ⊥
plain_not_shorter text a b first second below =
    second.none (length a) below (first.up_to (omega (arith, part_within text (plain b) second)))

plain_unique : (text a b : List ℕ) → BeginsPlain text a → BeginsPlain text b → a ≡ b
plain_unique text a b first second =
    let same = neither_below (length a) (length b) (plain_not_shorter text a b first second) (plain_not_shorter text b a second first) in
    first.front ∙ ap (λ (n : ℕ). take n text) same ∙ sym second.front

comment_unique : (text : List ℕ) (m n : ℕ) → BeginsComment text m → BeginsComment text n → m ≡ n
comment_unique text m n first second =
    neither_below m n (λ below. second.next m first.opened below first.ends) (λ below. first.next n second.opened below second.ends)

-- what stands after `<` and isn't `/` is a letter
no_letter : (text : List ℕ) (b : ℕ) → is_ascii_alphabetic b ≡ false → get_or text 1 0 ≡ b → IsTrue (is_ascii_alphabetic (get_or text 1 0)) → ⊥
no_letter text b other is letter = let same = ap is_ascii_alphabetic is in cc

tag_from : (text : List ℕ) (from to last from' to' last' : ℕ) → BeginsTag text from to last → BeginsTag text from' to' last' → from ≡ from'
tag_from text from to last from' to' last' first second =
    ⊎_elim
    (λ one. ⊎_elim (λ one'. omega arith) (λ two'. absurd (no_letter text 47 refl two'.1 (subst (λ (n : ℕ). IsTrue (is_ascii_alphabetic (get_or text n 0))) one first.letter))) second.slash)
    (λ two. ⊎_elim (λ one'. absurd (no_letter text 47 refl two.1 (subst (λ (n : ℕ). IsTrue (is_ascii_alphabetic (get_or text n 0))) one' second.letter))) (λ two'. omega (arith, two.0, two'.0)) second.slash)
    first.slash

-- a name doesn't end before another that begins at its place
tag_to_below : (text : List ℕ) (from to last from' to' last' : ℕ) → BeginsTag text from to last → BeginsTag text from' to' last' → from ≡ from' → to < to' → ⊥
tag_to_below text from to last from' to' last' first second same below =
    let part = second.name to (omega (arith, first.some)) below in
    let whole = first.whole in
    cc

tag_last_below : (text : List ℕ) (from to last from' to' last' : ℕ) → BeginsTag text from to last → BeginsTag text from' to' last' → to ≡ to' → last < last' → ⊥
tag_last_below text from to last from' to' last' first second same below = second.next last (omega (arith, first.after)) below first.closes

comment_no_tag : (text : List ℕ) (end from to last : ℕ) → BeginsComment text end → BeginsTag text from to last → ⊥
comment_no_tag text end from to last first second =
    ⊎_elim
    (λ one. no_letter text 33 refl first.bang (subst (λ (n : ℕ). IsTrue (is_ascii_alphabetic (get_or text n 0))) one second.letter))
    (λ two. omega (arith, two.1, first.bang))
    second.slash

tag_unique : (text : List ℕ) (s t : TagText) → BeginsWithTag text s → BeginsWithTag text t → s ≡ t
tag_unique text s t first second =
    let from = tag_from text first.from first.to first.last second.from second.to second.last first.begins second.begins in
    let to = neither_below first.to second.to (tag_to_below text _ _ first.last _ _ second.last first.begins second.begins from) (tag_to_below text _ _ second.last _ _ first.last second.begins first.begins (sym from)) in
    let last = neither_below first.last second.last (tag_last_below text first.from _ _ second.from _ _ first.begins second.begins to) (tag_last_below text second.from _ _ first.from _ _ second.begins first.begins (sym to)) in
    let text_is = first.is ∙ ap (λ (n : ℕ). take (n + 1) text) last ∙ sym second.is in
    let name_is = first.name ∙ (λ i. slice_range text (from i) (to i)) ∙ sym second.name in
    let closing_is = first.closing ∙ ap (λ (n : ℕ). n == 2) from ∙ sym second.closing in
    let empty_is = first.empty ∙ ap (λ (n : ℕ). get_or text (n - 1) 0 == 47) last ∙ sym second.empty in
    λ i. record { text = text_is i; name = name_is i; closing = closing_is i; empty = empty_is i }

-- a text begins with one part
pub part_unique : (text : List ℕ) (p q : TextPart) → BeginsWith text p → BeginsWith text q → p ≡ q
part_unique text (plain a) (plain b) first second = ap plain (plain_unique text a b first second)
part_unique text (plain a) (comment b) first second = absurd (first.none 0 first.some (by_comment second.end second.begins))
part_unique text (plain a) (tag t) first second = absurd (first.none 0 first.some (by_tag second.from second.to second.last second.begins))
part_unique text (comment a) (plain b) first second = absurd (second.none 0 second.some (by_comment first.end first.begins))
part_unique text (comment a) (comment b) first second =
    ap comment (first.is ∙ ap (λ (n : ℕ). take (n + 3) text) (comment_unique text first.end second.end first.begins second.begins) ∙ sym second.is)
part_unique text (comment a) (tag t) first second = absurd (comment_no_tag text first.end second.from second.to second.last first.begins second.begins)
part_unique text (tag s) (plain b) first second = absurd (second.none 0 second.some (by_tag first.from first.to first.last first.begins))
part_unique text (tag s) (comment b) first second = absurd (comment_no_tag text second.end first.from first.to first.last second.begins first.begins)
part_unique text (tag s) (tag t) first second = ap tag (tag_unique text s t first second)

-- an empty text has no part
pub no_part : (part : TextPart) → BeginsWith [] part → ⊥
no_part part begins = omega (arith, part_some [] part begins, part_within [] part begins)

-- a text has one list of parts
parts_unique : (text : List ℕ) (ps qs : List TextPart) → AreParts text ps → AreParts text qs → ps ≡ qs
parts_unique text [] [] first second = refl
parts_unique text [] (q ∷ qs) first second = absurd (no_part q (subst (λ (s : List ℕ). BeginsWith s q) (sym first) second.0))
parts_unique text (p ∷ ps) [] first second = absurd (no_part p (subst (λ (s : List ℕ). BeginsWith s p) (sym second) first.0))
parts_unique text (p ∷ ps) (q ∷ qs) first second =
    let same = part_unique text p q first.0 second.0 in
    let rest = parts_unique (drop (length (part_bytes p)) text) ps qs first.1 (subst (λ (r : TextPart). Splits (drop (length (part_bytes r)) text) qs []) (sym same) second.1) in
    λ i. same i ∷ rest i

whole_unique : (text : List ℕ) (ps qs : List TextPart) → IsWhole text ps → IsWhole text qs → ps ≡ qs
whole_unique [] ps qs first second = first ∙ sym second
whole_unique (b ∷ bytes) ps qs first second = first ∙ sym second

by_unique : (strip : Bool) (text : List ℕ) (ps qs : List TextPart) → PartsBy strip text ps → PartsBy strip text qs → ps ≡ qs
by_unique true text ps qs first second = parts_unique text ps qs first second
by_unique false text ps qs first second = whole_unique text ps qs first second

-- a text has one list of marks
pub marks_unique : (fold : ℕ → Option ℕ) (rules : MarkRules) (text : List ℕ) (ms ns : List Mark) → AreMarks fold rules text ms → AreMarks fold rules text ns → ms ≡ ns
marks_unique fold rules text ms ns first second =
    first.marks_are ∙ ap (λ (ps : List TextPart). marks_after fold rules 0 [] ps) (by_unique rules.strip text first.parts second.parts first.are second.are) ∙ sym second.marks_are
