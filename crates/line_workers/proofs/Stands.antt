-- What the indexes stand for, and how many chunks are on the disk where they are still read; which doesn't matter to quiet lines.
use Rattle.std.proofs.Common.{◌≡◌, ℕ, List, ◌∷◌, Bool, true, false, sym, ◌∙◌}
use Rattle.std.specs.Prelude.{⊤}
use Rattle.doc_types.specs.Rows.{Rows}
use Rattle.doc_types.specs.Snapshots.{SnapshotValue}
use Rattle.ql_answers.specs.declared.plan.Plan.{Plan}
use Rattle.ql_answers.specs.declared.plan.Plan.TheVariants.{Status}
use Rattle.ql_answers.specs.Sessions.{LookAlike, disk_count}
use Rattle.line_workers.proofs.Quiet.{Fits}

-- The documents of an index, and the number of the last commit to it.
pub record Plain : Type 0 where
  pub number : ℕ
  pub rows : Rows

-- The documents of each index, and how many chunks are on the disk of those that are still read, in their order.
pub record Stand : Type 0 where
  pub of : ℕ → Plain
  pub chunks : List ℕ

look_alike : (plan : Plan) (front other : SnapshotValue) → disk_count front ≡ disk_count other → LookAlike plan front other
look_alike (Status place) front other same = same
look_alike plan front other same = tt

first_number : (m n : ℕ) (ms ns : List ℕ) → m ∷ ms ≡ n ∷ ns → m ≡ n
first_number m n ms ns e = cc

other_numbers : (m n : ℕ) (ms ns : List ℕ) → m ∷ ms ≡ n ∷ ns → ms ≡ ns
other_numbers m n ms ns e = cc

-- as many chunks are on the disk where indexes are still read, which doesn't matter to quiet lines
abbrev pub SameChunks : Bool → Stand → Stand → Type 0
SameChunks true a b = ⊤
SameChunks false a b = a.chunks ≡ b.chunks

pub chunks_as : (quiet : Bool) (old old' new new' : Stand) → new.chunks ≡ old.chunks → new'.chunks ≡ old'.chunks → SameChunks quiet old old' → SameChunks quiet new new'
chunks_as true old old' new new' keeps keeps' same = tt
chunks_as false old old' new new' keeps keeps' same = keeps ∙ same ∙ sym keeps'

-- what is left of the counts of chunks once an index was read
pub chunks_left : (quiet : Bool) (front other : SnapshotValue) (old old' new new' : Stand) → old.chunks ≡ disk_count front ∷ new.chunks → old'.chunks ≡ disk_count other ∷ new'.chunks → SameChunks quiet old old'
    → SameChunks quiet new new'
chunks_left true front other old old' new new' counts counts' same = tt
chunks_left false front other old old' new new' counts counts' same = other_numbers (disk_count front) (disk_count other) new.chunks new'.chunks (sym counts ∙ same ∙ counts')

-- a quiet line has no plan that tells of chunks
look_quietly : (plan : Plan) (front other : SnapshotValue) → Fits true plan → LookAlike plan front other
look_quietly (Status place) front other fits = absurd (cc fits)
look_quietly plan front other fits = tt

pub look_so : (quiet : Bool) (plan : Plan) (front other : SnapshotValue) (old old' new new' : Stand) → Fits quiet plan → old.chunks ≡ disk_count front ∷ new.chunks → old'.chunks ≡ disk_count other ∷ new'.chunks
    → SameChunks quiet old old' → LookAlike plan front other
look_so true plan front other old old' new new' fits counts counts' same = look_quietly plan front other fits
look_so false plan front other old old' new new' fits counts counts' same =
    look_alike plan front other (first_number (disk_count front) (disk_count other) new.chunks new'.chunks (sym counts ∙ same ∙ counts'))
