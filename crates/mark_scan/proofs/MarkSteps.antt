-- Marks, part by part.
use Rattle.std.proofs.Common.{◌≡◌, ℕ, ◌+◌, Bool, false, cond, map, List, [], ◌∷◌, ◌++◌, length, sym, ◌∙◌, ap, subst, append_assoc, append-nil}
use Rattle.std.specs.Prelude.{Option}
use Rattle.mark_scan.specs.declared.mark.Mark.{Mark}
use Rattle.mark_scan.specs.declared.mark.MarkRules.{MarkRules}
use Rattle.mark_scan.specs.declared.marking.Reader.{Reader}
use Rattle.mark_scan.specs.Markup.{TextPart, TagText, comment, tag}
use Rattle.mark_scan.specs.Marks.{run_before, part_marks, marks_after, PartsBy, AreMarks}
use Rattle.mark_scan.specs.steps.Scanning.{IsBefore, Keeps, AddsTextPart}
use Rattle.mark_scan.specs.Tags.{is_removed, tag_kinds, span}

-- The marks up to a place were made, and these parts are left: with their marks the list is that of parts of the whole text.
pub record Marked (fold : ℕ → Option ℕ) (rules : MarkRules) (text : List ℕ) (reader : Reader) (list : List Mark) (left : List TextPart) : Type 0 where
  pub before : List TextPart
  pub keeps : Keeps rules.sp fold reader.before (run_before rules.zones before)
  pub parts : List TextPart
  pub are : PartsBy rules.strip text parts
  pub marks : list ++ marks_after fold rules reader.place before left ≡ marks_after fold rules 0 [] parts

-- one part more
pub marked_next : (fold : ℕ → Option ℕ) (rules : MarkRules) (text : List ℕ) (reader next : Reader) (part : TextPart) (left : List TextPart) (list new : List Mark) → Marked fold rules text reader list (part ∷ left) → AddsTextPart fold rules reader list part left next new → Marked fold rules text next new left
marked_next fold rules text reader next part left list new marked adds = record {
  before = part ∷ marked.before;
  keeps = adds.keeps marked.before marked.keeps;
  parts = marked.parts;
  are = marked.are;
  marks =
      ap (λ (l : List Mark). l ++ marks_after fold rules next.place (part ∷ marked.before) left) (adds.marks marked.before marked.keeps)
      ∙ append_assoc list _ _
      ∙ ap (λ (p : ℕ). list ++ (part_marks fold rules reader.place marked.before part left ++ marks_after fold rules p (part ∷ marked.before) left)) adds.place
      ∙ marked.marks;
}

-- at the end
pub marked_end : (fold : ℕ → Option ℕ) (rules : MarkRules) (text : List ℕ) (reader : Reader) (list : List Mark) → Marked fold rules text reader list [] → AreMarks fold rules text list
marked_end fold rules text reader list marked = record { parts = marked.parts; are = marked.are; marks_are = sym (append-nil list) ∙ marked.marks }

-- a comment has no marks, and a run begins after it
pub adds_comment : (fold : ℕ → Option ℕ) (rules : MarkRules) (reader : Reader) (old : List Mark) (bytes : List ℕ) (rest : List TextPart) (next : Reader) → next.place ≡ reader.place + length bytes → IsBefore fold next.before [] → AddsTextPart fold rules reader old (comment bytes) rest next old
adds_comment fold rules reader old bytes rest next place starts = record {
  place = place;
  marks = λ before keeps. sym (append-nil old);
  keeps = λ before keeps sp. starts;
}

-- a tag that isn't removed has its marks, and a run begins after it
pub adds_kept : (fold : ℕ → Option ℕ) (rules : MarkRules) (reader : Reader) (old : List Mark) (t : TagText) (rest : List TextPart) (next : Reader) (new : List Mark) → next.place ≡ reader.place + length t.text → IsBefore fold next.before [] → is_removed rules.zones t.name ≡ false → new ≡ old ++ map (span reader.place (reader.place + length t.text)) (tag_kinds rules.sp rules.zones t) → AddsTextPart fold rules reader old (tag t) rest next new
adds_kept fold rules reader old t rest next new place starts kept is = record {
  place = place;
  marks = λ before keeps. is;
  keeps = λ before keeps sp. subst (λ (l : List ℕ). IsBefore fold next.before l) (sym (ap (λ (b : Bool). cond b (run_before rules.zones before) []) kept)) starts;
}
