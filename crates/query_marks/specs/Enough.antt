-- How far the marks of a text are given: to its end, or as far as the first fault needs them.
use Rattle.std.specs.Prelude.{◌≡◌, ◌≢◌, ◌<◌, ◌⊎◌, ℕ, ◌+◌, ◌-◌, List, [], ◌∷◌, ◌++◌, Bool, true, false, None}
use Rattle.std.specs.List.{list_any}
use Rattle.std.specs.Option.{is_some}
use Rattle.query_marks.specs.declared.mark.Mark.{Mark}
use Rattle.query_marks.specs.declared.mark.Sign.{Sign}
use Rattle.query_marks.specs.declared.mark.Sign.TheVariants as signs
use Rattle.query_marks.specs.Marks.{mark_at}

abbrev pub is_not : Sign → Bool
is_not signs.Not = true
is_not _ = false

-- one of the marks is NOT
abbrev pub has_not : List Mark → Bool
has_not marks = list_any (λ m. is_not m.sign) marks

-- something is wrong with one of them by itself
abbrev pub has_wrong : List Mark → Bool
has_wrong marks = list_any (λ m. is_some m.wrong) marks

-- how many groups are open after a sign
abbrev pub depth_by : ℕ → Sign → ℕ
depth_by n signs.Open = n + 1
depth_by n signs.Close = n - 1
depth_by n _ = n

-- how many are open after marks
abbrev pub depth_after : ℕ → List Mark → ℕ
depth_after n [] = n
depth_after n (m ∷ marks) = depth_after (depth_by n m.sign) marks

-- The first marks are given, and the end after them. Those that are left out, at least the end itself, change no first fault:
-- more than 32 groups are open, or something is wrong with a mark and no AND before it can have negated items alone, since
-- there is no NOT.
pub record IsCutShort (size : ℕ) (all given : List Mark) : Type 0 where
  pub read : List Mark
  pub rest : List Mark
  pub is : all ≡ read ++ rest
  pub left : rest ≢ []
  pub given_is : given ≡ read ++ mark_at size None signs.End ∷ []
  pub decided : (32 < depth_after 0 read) ⊎ ((has_wrong read ≡ true) × (has_not read ≡ false))

-- All marks of a text of this size are given, or enough of them.
abbrev pub AreEnough : ℕ → List Mark → List Mark → Type 0
AreEnough size all given = (given ≡ all) ⊎ IsCutShort size all given
