-- Marks in the order of their places, some of which were passed.
use Rattle.std.proofs.Common.{◌≡◌, ℕ, ◌<◌, ◌≤◌, Bool, true, false, cond, nat_lt, nat_le, ◌||◌, ◌&&◌, List, [], ◌∷◌, ◌++◌, All, take, drop, refl, sym, ◌∙◌, ap, arith}
use Rattle.std.specs.Prelude.{Option, Some, None, filter, option_to_list}
use Rattle.std.specs.List.{list_any, flat_map}
use Rattle.std.proofs.lemmas.Bool.Decides.{nat_tests}
use Rattle.std.proofs.lemmas.List.{take-append-drop}
use Rattle.std.proofs.lemmas.List.Elements.{All-head, All-tail, filter-append}
use Rattle.std.proofs.lemmas.List.Folds.{list_any-append}
use Rattle.mark_scan.specs.declared.mark.Mark.{Mark}
use Rattle.mark_scan.specs.declared.mark.MarkKind.{MarkKind}
use Rattle.mark_scan.specs.declared.mark.MarkKind.TheVariants as kinds
use Rattle.doc_tokens.specs.declared.walk.Passed.{Passed}
use Rattle.doc_tokens.specs.declared.sign.TextSign.{TextSign}
use Rattle.doc_tokens.specs.declared.sign.TextSign.TheVariants as signs
use Rattle.doc_tokens.specs.TextSigns.{is_text, is_removed_tag, is_sentence_end, covers, is_covered, run_sign, char_signs, tag_signs, begins_in, tags_in}
use Rattle.doc_tokens.specs.steps.TokenReader.{reaches, sign_by, tag_sign, Ordered, BeginFrom, HasPassed}

-- marks after a place are after each place before it
pub ordered_weaker : (low high : ℕ) (marks : List Mark) → low ≤ high → Ordered high marks → Ordered low marks
ordered_weaker low high [] below ordered = tt
ordered_weaker low high (mark ∷ marks) below ordered = let from = ordered.0 in (omega (arith, from), ordered.1)

pub ordered_from : (low high : ℕ) (marks : List Mark) → Ordered low marks → BeginFrom high marks → Ordered high marks
ordered_from low high [] ordered begin = tt
ordered_from low high (mark ∷ marks) ordered begin = (begin, ordered.1)

-- tests of a mark's place
starts_late : (from to place : ℕ) → to ≤ place → (nat_le from place && nat_lt place to) ≡ false
starts_late from to place late = grind (arith, nat_tests)

starts_early : (from to place : ℕ) → place < from → (nat_le from place && nat_lt place to) ≡ false
starts_early from to place early = grind (arith, nat_tests)

starts_in : (from to place : ℕ) → from ≤ place → place < to → (nat_le from place && nat_lt place to) ≡ true
starts_in from to place low high = grind (arith, nat_tests)

covers_late : (kind : Bool) (from to place end : ℕ) → to ≤ place → (kind && (nat_lt place to && nat_lt from end)) ≡ false
covers_late true from to place end late = grind (arith, nat_tests)
covers_late false from to place end late = refl

covers_begun : (kind : Bool) (from to place end : ℕ) → place < to → (kind && (nat_lt place to && nat_lt from end)) ≡ (kind && nat_lt from end)
covers_begun true from to place end begun = grind (arith, nat_tests)
covers_begun false from to place end begun = refl

-- no tag begins before a place among marks that begin there or after it
pub tags_late : (from to : ℕ) (marks : List Mark) → Ordered to marks → tags_in marks from to ≡ []
tags_late from to [] ordered = refl
tags_late from to (mark ∷ marks) ordered =
    ap (λ (b : Bool). flat_map (λ (m : Mark). tag_signs m.kind) (cond b (mark ∷ filter (begins_in from to) marks) (filter (begins_in from to) marks))) (starts_late from to mark.from ordered.0)
    ∙ tags_late from to marks (ordered_weaker to mark.from marks ordered.0 ordered.1)

filter_early : (from to : ℕ) (marks : List Mark) → All (λ (m : Mark). m.from < from) marks → filter (begins_in from to) marks ≡ []
filter_early from to [] early = refl
filter_early from to (mark ∷ marks) early =
    let here : mark.from < from = All-head (λ (m : Mark). m.from < from) mark marks early in
    ap (λ (b : Bool). cond b (mark ∷ filter (begins_in from to) marks) (filter (begins_in from to) marks)) (starts_early from to mark.from here)
    ∙ filter_early from to marks (All-tail (λ (m : Mark). m.from < from) mark marks early)

-- the tags that begin from a place on are those of the marks that weren't passed
pub tags_left : (marks : List Mark) (next from to : ℕ) → All (λ (m : Mark). m.from < from) (take next marks) → tags_in marks from to ≡ tags_in (drop next marks) from to
tags_left marks next from to early =
    let signs_of : List Mark → List TextSign = flat_map (λ (m : Mark). tag_signs m.kind) in
    ap (λ (ms : List Mark). tags_in ms from to) (sym (take-append-drop next marks))
    ∙ ap signs_of (filter-append (begins_in from to) (take next marks) (drop next marks))
    ∙ ap (λ (ms : List Mark). signs_of (ms ++ filter (begins_in from to) (drop next marks))) (filter_early from to (take next marks) early)

-- the next mark's tag is the first of them
pub tags_next : (from to : ℕ) (mark : Mark) (marks : List Mark) → from ≤ mark.from → mark.from < to → tags_in (mark ∷ marks) from to ≡ tag_signs mark.kind ++ tags_in marks from to
tags_next from to mark marks low high =
    ap (λ (b : Bool). flat_map (λ (m : Mark). tag_signs m.kind) (cond b (mark ∷ filter (begins_in from to) marks) (filter (begins_in from to) marks))) (starts_in from to mark.from low high)

-- a tag as a sign, or none
pub tag_sign-list : (kind : MarkKind) → tag_signs kind ≡ option_to_list (tag_sign kind)
tag_sign-list kinds.Text = refl
tag_sign-list kinds.Inline = refl
tag_sign-list kinds.Sentence = refl
tag_sign-list kinds.Paragraph = refl
tag_sign-list (kinds.Open zone) = refl
tag_sign-list (kinds.Close zone) = refl

-- a character is covered exactly where the marks that were passed reach beyond its place
any_late : (is_kind : MarkKind → Bool) (from to : ℕ) (marks : List Mark) → Ordered to marks → list_any (covers is_kind from to) marks ≡ false
any_late is_kind from to [] ordered = refl
any_late is_kind from to (mark ∷ marks) ordered =
    ap (λ (b : Bool). b || list_any (covers is_kind from to) marks) (covers_late (is_kind mark.kind) from to mark.from mark.to ordered.0)
    ∙ any_late is_kind from to marks (ordered_weaker to mark.from marks ordered.0 ordered.1)

any_begun : (is_kind : MarkKind → Bool) (from to : ℕ) (marks : List Mark) → All (λ (m : Mark). m.from < to) marks → list_any (covers is_kind from to) marks ≡ reaches is_kind from marks
any_begun is_kind from to [] begun = refl
any_begun is_kind from to (mark ∷ marks) begun =
    let here : mark.from < to = All-head (λ (m : Mark). m.from < to) mark marks begun in
    let rest = any_begun is_kind from to marks (All-tail (λ (m : Mark). m.from < to) mark marks begun) in
    let first = covers_begun (is_kind mark.kind) from to mark.from mark.to here in
    λ i. first i || rest i

or_false : (b : Bool) → (b || false) ≡ b
or_false true = refl
or_false false = refl

covered_is : (is_kind : MarkKind → Bool) (marks : List Mark) (next from to : ℕ) → All (λ (m : Mark). m.from < to) (take next marks) → Ordered to (drop next marks) → is_covered is_kind marks from to ≡ reaches is_kind from (take next marks)
covered_is is_kind marks next from to before after =
    ap (list_any (covers is_kind from to)) (sym (take-append-drop next marks))
    ∙ list_any-append (covers is_kind from to) (take next marks) (drop next marks)
    ∙ (λ i. any_begun is_kind from to (take next marks) before i || any_late is_kind from to (drop next marks) after i)
    ∙ or_false (reaches is_kind from (take next marks))

sign_choice : (text removed : Bool) (sign : TextSign) → cond text (sign ∷ []) (cond removed [] (signs.Separator ∷ [])) ≡ option_to_list (cond text (Some sign) (cond removed None (Some signs.Separator)))
sign_choice true removed sign = refl
sign_choice false true sign = refl
sign_choice false false sign = refl

-- what a character is, by the marks that were passed
pub char_sign-list : (fold : ℕ → Option ℕ) (marks : List Mark) (passed : Passed) (from to c : ℕ) → HasPassed marks passed to → char_signs fold marks from to c ≡ option_to_list (sign_by fold passed.cover from c)
char_sign-list fold marks passed from to c has =
    let text = covered_is is_text marks passed.next from to has.before has.after ∙ sym (has.cover.text from) in
    let removed = covered_is is_removed_tag marks passed.next from to has.before has.after ∙ sym (has.cover.removed from) in
    let sentence = covered_is is_sentence_end marks passed.next from to has.before has.after ∙ sym (has.cover.sentence from) in
    (λ i. cond (text i) (run_sign (fold c) (sentence i) ∷ []) (cond (removed i) [] (signs.Separator ∷ [])))
    ∙ sign_choice (nat_lt from passed.cover.text) (nat_lt from passed.cover.removed) (run_sign (fold c) (nat_lt from passed.cover.sentence))
