-- What marks say of keywords, apart from any text: they are numbered one after the other, and those without a mark between them
-- that may change the limits stand under the same ones.
use Rattle.std.specs.Prelude.{◌≡◌, ◌≢◌, ◌≤◌, ℕ, ◌+◌, List, [], ◌∷◌, Option, Some, length}
use Rattle.doc_types.specs.declared.schema.Schema.{Schema}
use Rattle.query_tree.specs.declared.key.Limit.{Limit}
use Rattle.query_tree.specs.declared.key.How.TheVariants as hows
use Rattle.query_marks.specs.declared.mark.Mark.{Mark}
use Rattle.query_marks.specs.declared.mark.Sign.{Sign}
use Rattle.query_marks.specs.declared.mark.Sign.TheVariants as signs
use Rattle.query_write.specs.steps.Signs.{IsPlainWord, IsKeyOf}
use Rattle.query_write.specs.steps.TokenRun.{key_after, IsInRange, IsRightHow, AreRightZones}
use Rattle.query_write.specs.steps.Writable.{IsRightLimit, AreKeys}

-- The sign stands after so many keywords under a limit, and after it there are so many keywords, and this limit is in force.
abbrev pub IsStep : (ℕ → Option ℕ) → Schema → ℕ → Limit → Sign → ℕ → Limit → Type 0
IsStep fold schema n here (signs.Bare key) m there = (m ≡ n + 1) × (m ≤ 255) × (there ≡ here) × (key ≡ key_after n here key) × IsPlainWord fold key.word × IsKeyOf schema key
IsStep fold schema n here (signs.Phrase keys) m there = (m ≡ n + length keys) × (m ≤ 255) × (there ≡ here) × (2 ≤ length keys) × AreKeys fold here n keys
IsStep fold schema n here (signs.Loose keys how) m there = (m ≡ n + length keys) × (m ≤ 255) × (there ≡ here) × (keys ≢ []) × AreKeys fold here n keys × (how ≢ hows.Phrase) × IsRightHow how
IsStep fold schema n here signs.Sentence m there = (m ≡ n) × (there ≡ here)
IsStep fold schema n here signs.Paragraph m there = (m ≡ n) × (there ≡ here)
IsStep fold schema n here (signs.Near distance) m there = (m ≡ n) × IsRightLimit schema there × IsInRange distance
IsStep fold schema n here (signs.Spans zones) m there = (m ≡ n) × IsRightLimit schema there × AreRightZones schema zones
IsStep fold schema n here _ m there = (m ≡ n) × IsRightLimit schema there

-- the marks, one after the other
abbrev pub Carries : (ℕ → Option ℕ) → Schema → ℕ → Limit → List Mark → ℕ → Limit → Type 0
Carries fold schema n here [] m there = (m ≡ n) × (there ≡ here)
Carries fold schema n here (mark ∷ marks) m there = (k : ℕ) × (mid : Limit) × IsStep fold schema n here mark.sign k mid × Carries fold schema k mid marks m there

-- the table of all characters, each of which is folded to itself
abbrev pub every : ℕ → Option ℕ
every c = Some c
