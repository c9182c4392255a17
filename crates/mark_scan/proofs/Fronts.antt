-- What stands at the front of a text's rests.
use Rattle.std.proofs.Common.{◌≡◌, ℕ, ◌+◌, ◌<◌, List, length, get_or, drop, sym, ◌∙◌, ap, subst, arith, get_or-drop, ⊎_elim}
use Rattle.std.proofs.lemmas.List.{drop-drop, get_or_past}
use Rattle.std.proofs.lemmas.Bool.{cases_lt}
use Rattle.mark_scan.specs.Markup.{EndsComment, BeginsComment, BeginsTag, BeginsMarkup, by_comment, by_tag}
use Rattle.mark_scan.specs.steps.Scanning.{Rules, Begins}
use Rattle.mark_scan.specs.declared.markup.Found.{Found}
use Rattle.mark_scan.specs.declared.markup.Found.TheVariants as founds
use Rattle.mark_scan.specs.declared.markup.Ends.{Ends}

-- a text that begins with no comment and no tag begins with no markup
pub no_markup : (text : List ℕ) → ((end : ℕ) → BeginsComment text end → ⊥) → ((from to last : ℕ) → BeginsTag text from to last → ⊥) → BeginsMarkup text → ⊥
no_markup text no_comment no_tag (by_comment end begins) = no_comment end begins
no_markup text no_comment no_tag (by_tag from to last begins) = no_tag from to last begins

-- markup begins with `<`
pub markup_opens : (text : List ℕ) → BeginsMarkup text → get_or text 0 0 ≡ 60
markup_opens text (by_comment end begins) = begins.opens
markup_opens text (by_tag from to last begins) = begins.opens

-- the byte at a place of what follows a front
pub byte_after : (n : ℕ) (text : List ℕ) (k : ℕ) → get_or (drop n text) k 0 ≡ get_or text (n + k) 0
byte_after n text k = get_or-drop n text k 0

-- `-->` after a front is one of the text
pub ends_after : (n : ℕ) (text : List ℕ) (k : ℕ) → EndsComment (drop n text) k → EndsComment text (n + k)
ends_after n text k ends = record {
  first = sym (byte_after n text k) ∙ ends.first;
  second = ap (λ i. get_or text i 0) (omega arith) ∙ sym (byte_after n text (k + 1)) ∙ ends.second;
  third = ap (λ i. get_or text i 0) (omega arith) ∙ sym (byte_after n text (k + 2)) ∙ ends.third;
}

-- what doesn't follow in a text doesn't follow after a front of it
pub rules_after : (ends : Ends) (text : List ℕ) (n : ℕ) → Rules ends text → Rules ends (drop n text)
rules_after ends text n rules = record {
  tag = λ none k is. rules.tag none (n + k) (sym (byte_after n text k) ∙ is);
  comment = λ none k above is. rules.comment none (n + k) (omega arith) (ends_after n text k is);
}

-- a front and one byte more
pub drop_next : (n : ℕ) (text : List ℕ) → drop 1 (drop n text) ≡ drop (n + 1) text
drop_next n text = drop-drop 1 n text

-- the same one byte further
pub rules_next : (ends : Ends) (text : List ℕ) (n : ℕ) → Rules ends (drop n text) → Rules ends (drop (n + 1) text)
rules_next ends text n rules = subst (Rules ends) (drop_next n text) (rules_after ends (drop n text) 1 rules)

-- a byte that isn't 0 stands in the text
pub byte_within : (text : List ℕ) (k : ℕ) → 0 < get_or text k 0 → k < length text
byte_within text k some = ⊎_elim (λ within. within) (λ past. absurd (omega (arith, get_or_past text k 0 past))) (cases_lt k (length text))

-- what was found is markup
pub found_markup : (text : List ℕ) (found : Found) → Begins text found → BeginsMarkup text
found_markup text (founds.Comment end) begins = by_comment end begins
found_markup text (founds.Tag places) begins = by_tag places.from places.to places.last begins
