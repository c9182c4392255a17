-- Runs of letters.
use Rattle.std.specs.Prelude.{ℕ, ◌==◌, if◌then◌else◌}

-- 1 for a run of some letters, and 0 for an empty one
abbrev pub one_or_none : ℕ → ℕ
one_or_none len = if len == 0 then 0 else 1
