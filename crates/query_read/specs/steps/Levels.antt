-- A scan of marks for what has negated items alone: what is known of an AND after some marks, and which place is refused where
-- it ends.
use Rattle.std.specs.Prelude.{◌≡◌, ◌⊎◌, ◌≤◌, ℕ, List, [], ◌∷◌, ◌++◌, Bool, true, false, not, ◌||◌, Option, Some, None, if◌then◌else◌, min}
use Rattle.query_marks.specs.declared.mark.Mark.{Mark}
use Rattle.query_marks.specs.declared.mark.Sign.{Sign}
use Rattle.query_marks.specs.declared.mark.Sign.TheVariants as signs
use Rattle.query_read.specs.declared.levels.Row.{Row}
use Rattle.query_read.specs.declared.levels.Level.{Level}
use Rattle.query_read.specs.declared.levels.Scan.{Scan}

abbrev pub no_items : Row
no_items = record { first = None; wanted = false }

abbrev pub first_or : Option ℕ → ℕ → Option ℕ
first_or (Some first) at = Some first
first_or None at = Some at

-- with an item more, at this place
abbrev pub with_item : ℕ → Bool → Row → Row
with_item at negated row = record { first = first_or row.first at; wanted = row.wanted || not negated }

-- the place of the first item, where all are negated
abbrev pub refused_row : Row → Option ℕ
refused_row row = if row.wanted then None else row.first

abbrev pub earlier : Option ℕ → Option ℕ → Option ℕ
earlier (Some a) (Some b) = Some (min a b)
earlier (Some a) None = Some a
earlier None b = b

abbrev pub no_level : Level
no_level = record { and = no_items; span = None }

-- what ZONESPAN stands over is an item of the AND that isn't negated
abbrev pub and_with : ℕ → Bool → Option Row → Row → Row
and_with at negated None and = with_item at negated and
and_with at negated (Some row) and = with_item at false and

abbrev pub span_with : ℕ → Bool → Option Row → Option Row
span_with at negated None = None
span_with at negated (Some row) = Some (with_item at negated row)

abbrev pub with_one : ℕ → Bool → Level → Level
with_one at negated level = record { and = and_with at negated level.span level.and; span = span_with at negated level.span }

abbrev pub limited : Option Row → Level → Level
limited span level = record { and = level.and; span = span }

-- the next mark goes on with an item that has begun
abbrev pub goes_on : Sign → Bool
goes_on signs.Or = true
goes_on signs.Maybe = true
goes_on signs.Sentence = true
goes_on signs.Paragraph = true
goes_on signs.Not = true
goes_on _ = false

-- The level after a mark. A group is an item that begins with its parenthesis.
abbrev pub level_after : Level → Bool → ℕ → Sign → Level
level_after level goes at signs.Not = with_one at true level
level_after level goes at (signs.Bare key) = if goes then level else with_one at false level
level_after level goes at (signs.Phrase keys) = if goes then level else with_one at false level
level_after level goes at (signs.Loose keys how) = if goes then level else with_one at false level
level_after level goes at signs.Open = if goes then level else with_one at false level
level_after level goes at signs.Limits = limited None level
level_after level goes at (signs.Spans zones) = limited (Some no_items) level
level_after level goes at signs.Before = no_level
level_after level goes at (signs.Near n) = no_level
level_after level goes at signs.Relaxed = no_level
level_after level goes at signs.End = no_level
level_after level goes at _ = level

-- the innermost of the levels around
abbrev pub innermost : List Level → Level
innermost [] = no_level
innermost (level ∷ []) = level
innermost (first ∷ level ∷ levels) = innermost (level ∷ levels)

-- those around it
abbrev pub outer : List Level → List Level
outer [] = []
outer (level ∷ []) = []
outer (first ∷ level ∷ levels) = first ∷ outer (level ∷ levels)

abbrev pub next_level : Scan → ℕ → Sign → Level
next_level scan at signs.Open = no_level
next_level scan at signs.Close = innermost scan.around
next_level scan at sign = level_after scan.level scan.goes at sign

abbrev pub next_around : Scan → ℕ → Sign → List Level
next_around scan at signs.Open = scan.around ++ level_after scan.level scan.goes at signs.Open ∷ []
next_around scan at signs.Close = outer scan.around
next_around scan at sign = scan.around

-- after a mark more
abbrev pub step : Scan → Mark → Scan
step scan m = record { level = next_level scan m.at m.sign; around = next_around scan m.at m.sign; goes = goes_on m.sign }

abbrev pub at_start : Scan
at_start = record { level = no_level; around = []; goes = false }

-- after some marks more
abbrev pub scanned : Scan → List Mark → Scan
scanned scan [] = scan
scanned scan (m ∷ marks) = scanned (step scan m) marks

abbrev pub refused_option : Option Row → Option ℕ
refused_option None = None
refused_option (Some row) = refused_row row

abbrev pub refused_span : Level → Option ℕ
refused_span level = refused_option level.span

abbrev pub refused_and : Level → Option ℕ
refused_and level = earlier (refused_row level.and) (refused_span level)

-- The place that is refused where a mark comes next: of an AND that ends before it, or of a ZONESPAN.
abbrev pub refused_by : Level → Sign → Option ℕ
refused_by level signs.Close = refused_and level
refused_by level signs.Before = refused_and level
refused_by level (signs.Near n) = refused_and level
refused_by level signs.End = refused_and level
refused_by level signs.Limits = refused_span level
refused_by level (signs.Spans zones) = refused_span level
refused_by level _ = None

abbrev pub refused_at : Scan → Mark → Option ℕ
refused_at scan m = refused_by scan.level m.sign

-- the scan refuses the place at one of the marks
abbrev pub Refuses : Scan → List Mark → ℕ → Type 0
Refuses scan [] place = ⊥
Refuses scan (m ∷ marks) place = (refused_at scan m ≡ Some place) ⊎ Refuses (step scan m) marks place

-- the least place with a property, where there is one
abbrev pub IsLeast : (ℕ → Type 0) → Option ℕ → Type 0
IsLeast P None = (place : ℕ) → P place → ⊥
IsLeast P (Some least) = P least × ((place : ℕ) → P place → least ≤ place)
