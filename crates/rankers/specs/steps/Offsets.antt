-- A ring of the counts of the last offsets.
use Rattle.std.specs.Prelude.{ℕ, ◌%◌, List, ◌==◌, if◌then◌else◌, slice_index_or}

-- how many hits the ring has counted at the offset: none where its place is another one's
abbrev pub count_in : List ℕ → List ℕ → ℕ → ℕ
count_in offsets counts offset =
    if slice_index_or offsets (offset % 256) 0 == offset then slice_index_or counts (offset % 256) 0 else 0
