-- Places near each other, whether or not one comes before the other: where no place of a keyword is near one of another, NEAR makes
-- nothing of the two.
use Rattle.std.specs.Prelude.{ℕ, ◌-◌, Bool, ◌&&◌, ◌==◌, nat_le}

-- in one field, at most n positions apart
abbrev pub is_close : ℕ → ℕ × ℕ → ℕ × ℕ → Bool
is_close n x y = (x.0 == y.0) && (nat_le (x.1 - y.1) n && nat_le (y.1 - x.1) n)
