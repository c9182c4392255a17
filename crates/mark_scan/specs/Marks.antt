-- The marks of a text.
use Rattle.std.specs.Prelude.{◌≡◌, ℕ, ◌+◌, List, [], ◌∷◌, ◌++◌, reverse, map, length, Bool, true, false, Option, if◌then◌else◌}
use Rattle.std.specs.Str.{chars}
use Rattle.mark_scan.specs.declared.mark.Mark.{Mark}
use Rattle.mark_scan.specs.declared.mark.MarkKind.TheVariants.{Text}
use Rattle.mark_scan.specs.declared.mark.MarkRules.{MarkRules}
use Rattle.mark_scan.specs.Markup.{TextPart, plain, comment, tag, part_bytes, AreParts}
use Rattle.mark_scan.specs.Tags.{is_removed, tag_kinds, span}
use Rattle.mark_scan.specs.Sentences.{sentence_marks}

-- The bytes of the text run that these parts begin with: up to the first comment or tag that separates, without the tags
-- that are removed.
abbrev pub run_of : List (List ℕ) → List TextPart → List ℕ
run_of zones [] = []
run_of zones (plain bytes ∷ parts) = bytes ++ run_of zones parts
run_of zones (comment bytes ∷ parts) = []
run_of zones (tag t ∷ parts) = if is_removed zones t.name then run_of zones parts else []

-- The characters of the text run that these parts end with, from the last one on. The parts are given from the last one on.
abbrev pub run_before : List (List ℕ) → List TextPart → List ℕ
run_before zones [] = []
run_before zones (plain bytes ∷ before) = reverse (chars bytes) ++ run_before zones before
run_before zones (comment bytes ∷ before) = []
run_before zones (tag t ∷ before) = if is_removed zones t.name then run_before zones before else []

-- the ends of sentences in a piece of a run, where they are looked for
abbrev pub sentences_of : Bool → (ℕ → Option ℕ) → ℕ → List ℕ → List ℕ → List ℕ → List Mark
sentences_of false fold place before cs after = []
sentences_of true fold place before cs after = sentence_marks fold place before cs after

-- The marks of a part of a text at a place, by the parts before it, from the last one on, and those after it.
abbrev pub part_marks : (ℕ → Option ℕ) → MarkRules → ℕ → List TextPart → TextPart → List TextPart → List Mark
part_marks fold rules place before (plain bytes) after =
    span place (place + length bytes) Text
    ∷ sentences_of rules.sp fold place (run_before rules.zones before) (chars bytes) (chars (run_of rules.zones after))
part_marks fold rules place before (comment bytes) after = []
part_marks fold rules place before (tag t) after = map (span place (place + length t.text)) (tag_kinds rules.sp rules.zones t)

-- The marks of parts, the first of which stands at the place, after other parts, which are given from the last one on.
abbrev pub marks_after : (ℕ → Option ℕ) → MarkRules → ℕ → List TextPart → List TextPart → List Mark
marks_after fold rules place before [] = []
marks_after fold rules place before (part ∷ parts) =
    part_marks fold rules place before part parts ++ marks_after fold rules (place + length (part_bytes part)) (part ∷ before) parts

-- the whole text is one part, unless it is empty
abbrev pub IsWhole : List ℕ → List TextPart → Type 0
IsWhole [] parts = parts ≡ []
IsWhole (b ∷ bytes) parts = parts ≡ plain (b ∷ bytes) ∷ []

-- The parts of a text by its rules: where markup isn't stripped, the whole text is one.
abbrev pub PartsBy : Bool → List ℕ → List TextPart → Type 0
PartsBy true text parts = AreParts text parts
PartsBy false text parts = IsWhole text parts

-- These are the marks of a text.
pub record AreMarks (fold : ℕ → Option ℕ) (rules : MarkRules) (text : List ℕ) (marks : List Mark) : Type 0 where
  pub parts : List TextPart
  pub are : PartsBy rules.strip text parts
  pub marks_are : marks ≡ marks_after fold rules 0 [] parts
