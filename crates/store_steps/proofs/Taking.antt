-- One more batch in the newer log.
use Rattle.std.proofs.Common.{◌≡◌, ◌⊎◌, inl, inr, ℕ, ◌+◌, ◌≤◌, ◌<◌, List, [], ◌∷◌, ◌++◌, map, Bool, cond, Option, Some, None, IfSome, sym, ◌∙◌, ap, subst, arith, append_assoc, length, length-append, All}
use Rattle.std.specs.List.{fold}
use Rattle.std.proofs.lemmas.List.Sums.{fold-append}
use Rattle.std.proofs.lemmas.List.Elements.{All-push, filter-append}
use Rattle.std.proofs.lemmas.Bool.{cases_lt, lt-ltb, le-ltb}
use Rattle.doc_types.specs.declared.schema.Schema.{Schema}
use Rattle.doc_types.specs.Commits.{Entry}
use Rattle.doc_types.specs.Rows.{Rows, rows_of}
use Rattle.doc_types.specs.Snapshots.{SnapshotValue, all_living}
use Rattle.gate_log.specs.Logs.{MayFollow, last_number}
use Rattle.step_history.specs.History.{Base, Step, CommitFollows, last_snapshot}
use Rattle.store_steps.specs.Batches.{AreFrom, Batch, IsBatchOf, above, after_batch, batch_of, record_of}
use Rattle.store_steps.specs.Directory.{Directory, IsInOrder, Reaches, directory_number, directory_rows, layers_of, logged, taken}
use Rattle.store_steps.specs.Doubts.{Doubted, MayStand, shadow_of}
use Rattle.store_steps.specs.Kept.{Says}

-- the directory with one more batch
abbrev pub with_batch : Directory → Batch → Directory
with_batch dir b = record dir { newer = dir.newer ++ b ∷ [] }

above-cons : (t : ℕ) (b : Batch) (bs : List Batch) → ((t < b.number) × (above t (b ∷ bs) ≡ b ∷ above t bs)) ⊎ (above t (b ∷ bs) ≡ above t bs)
above-cons t b bs = elim (cases_lt t b.number) [
  | inl lt ↦ inl (lt, ap (λ (c : Bool). cond c (b ∷ above t bs) (above t bs)) (lt-ltb t b.number lt))
  | inr le ↦ inr (ap (λ (c : Bool). cond c (b ∷ above t bs) (above t bs)) (le-ltb t b.number le))
]

low : (t n : ℕ) (bs : List Batch) → t ≤ n → t ≤ fold (λ (m : ℕ) (b : Batch). b.number) n (above t bs)
low t n [] le = le
low t n (b ∷ bs) le = elim (above-cons t b bs) [
  | inl taken ↦ subst (λ (l : List Batch). t ≤ fold (λ (m : ℕ) (b : Batch). b.number) n l) (sym taken.1) (low t b.number bs (omega (arith, taken.0)))
  | inr passed ↦ subst (λ (l : List Batch). t ≤ fold (λ (m : ℕ) (b : Batch). b.number) n l) (sym passed) (low t n bs le)
]

-- no number is below the last commit that the chunks have
pub number-low : (dir : Directory) → dir.state.through ≤ directory_number dir
number-low dir = low dir.state.through dir.state.through (logged dir) (omega arith)

taken-push : (dir : Directory) (b : Batch) → dir.state.through < b.number → taken (with_batch dir b) ≡ taken dir ++ b ∷ []
taken-push dir b lt =
    let one : above dir.state.through (b ∷ []) ≡ b ∷ [] = ap (λ (c : Bool). cond c (b ∷ []) []) (lt-ltb dir.state.through b.number lt) in
    ap (λ (l : List Batch). above dir.state.through l) (sym (append_assoc dir.older dir.newer (b ∷ [])))
    ∙ filter-append _ (logged dir) (b ∷ []) ∙ ap (λ (l : List Batch). taken dir ++ l) one

-- the batch's number is the last one then
pub number-push : (dir : Directory) (b : Batch) → dir.state.through < b.number → directory_number (with_batch dir b) ≡ b.number
number-push dir b lt =
    ap (λ (l : List Batch). fold (λ (m : ℕ) (c : Batch). c.number) dir.state.through l) (taken-push dir b lt)
    ∙ fold-append (λ (m : ℕ) (c : Batch). c.number) dir.state.through (taken dir) (b ∷ [])

-- and its rows come last
pub rows-push : (dir : Directory) (b : Batch) → dir.state.through < b.number → directory_rows (with_batch dir b) ≡ after_batch (directory_rows dir) b
rows-push dir b lt =
    ap (λ (l : List Batch). fold after_batch (rows_of (all_living (layers_of dir))) l) (taken-push dir b lt)
    ∙ fold-append after_batch (rows_of (all_living (layers_of dir))) (taken dir) (b ∷ [])

-- with a commit's batch the directory says what the commit makes
pub says_more : (base : Base) (steps : List Step) (dir : Directory) (snapshot : SnapshotValue) (entry : Entry) → Says dir (last_snapshot base steps) → CommitFollows base steps entry snapshot → Says (with_batch dir (batch_of entry)) snapshot
says_more base steps dir snapshot entry says follows =
    let b = batch_of entry in
    let lt : dir.state.through < b.number = omega (arith, number-low dir, says.number, follows.numbered) in
    record {
      rows = ap (λ (l : List Batch). fold after_batch (rows_of (all_living (layers_of dir))) l) (taken-push dir b lt)
          ∙ fold-append after_batch (rows_of (all_living (layers_of dir))) (taken dir) (b ∷ [])
          ∙ ap (λ (rows : Rows). after_batch rows b) says.rows ∙ sym follows.rows;
      number = number-push dir b lt ∙ follows.numbered ∙ sym follows.number;
      chunks = says.chunks ∙ sym follows.chunks;
    }

from-push : (n : ℕ) (bs : List Batch) (b : Batch) → AreFrom n bs → b.number ≡ n + length bs → AreFrom n (bs ++ b ∷ [])
from-push n [] b from is = (omega (arith, is), tt)
from-push n (c ∷ bs) b from is = (from.0, from-push (n + 1) bs b from.1 (omega (arith, is)))

pub from-behind : (n : ℕ) (xs bs : List Batch) → AreFrom n (xs ++ bs) → AreFrom (n + length xs) bs
from-behind n [] bs from =
    let is : n ≡ n + 0 = omega arith in
    subst (λ (m : ℕ). AreFrom m bs) is from
from-behind n (a ∷ xs) bs from =
    let is : (n + 1) + length xs ≡ n + length (a ∷ xs) = omega arith in
    subst (λ (m : ℕ). AreFrom m bs) is (from-behind (n + 1) xs bs from.1)

last-follows : (n : ℕ) (bs : List Batch) → AreFrom n bs → MayFollow (last_number (map record_of bs)) (n + length bs)
last-follows n [] from = tt
last-follows n (b ∷ []) from = omega (arith, from.0)
last-follows n (b ∷ c ∷ bs) from =
    let is : (n + 1) + length (c ∷ bs) ≡ n + length (b ∷ c ∷ bs) = omega arith in
    subst (λ (m : ℕ). MayFollow (last_number (map record_of (c ∷ bs))) m) is (last-follows (n + 1) (c ∷ bs) from.1)

-- the next number may follow the last record of the newer log
pub next_follows : (dir : Directory) → Reaches dir → MayFollow (last_number (map record_of dir.newer)) (directory_number dir + 1)
next_follows dir reaches =
    let is : (reaches.first + length dir.older) + length dir.newer ≡ directory_number dir + 1 = omega (arith, reaches.next, length-append dir.older dir.newer) in
    subst (λ (m : ℕ). MayFollow (last_number (map record_of dir.newer)) m) is (last-follows (reaches.first + length dir.older) dir.newer (from-behind reaches.first dir.older dir.newer reaches.numbers))

logged-push : (dir : Directory) (b : Batch) → logged (with_batch dir b) ≡ logged dir ++ b ∷ []
logged-push dir b = sym (append_assoc dir.older dir.newer (b ∷ []))

numbers-push : (dir : Directory) (b : Batch) (reaches : Reaches dir) → b.number ≡ directory_number dir + 1 → AreFrom reaches.first (logged (with_batch dir b))
numbers-push dir b reaches is =
    subst (λ (l : List Batch). AreFrom reaches.first l) (sym (logged-push dir b)) (from-push reaches.first (logged dir) b reaches.numbers (omega (arith, is, reaches.next)))

pub reaches_more : (dir : Directory) (b : Batch) → Reaches dir → b.number ≡ directory_number dir + 1 → Reaches (with_batch dir b)
reaches_more dir b reaches is = record {
  first = reaches.first;
  low = reaches.low;
  numbers = numbers-push dir b reaches is;
  next = omega (arith, number-push dir b (omega (arith, is, number-low dir)), is, reaches.next, ap length (logged-push dir b), length-append (logged dir) (b ∷ []));
}

pub order_more : (schema : Schema) (dir : Directory) (b : Batch) → IsInOrder schema dir → Reaches dir → b.number ≡ directory_number dir + 1 → IsBatchOf schema b → IsInOrder schema (with_batch dir b)
order_more schema dir b order reaches is of = record {
  text = order.text;
  chunks = order.chunks;
  once = order.once;
  numbers = (reaches.first, reaches.low, numbers-push dir b reaches is);
  batches = subst (λ (l : List Batch). All (IsBatchOf schema) l) (sym (logged-push dir b)) (All-push (IsBatchOf schema) (logged dir) b order.batches of);
}

-- a state in doubt says one more batch too
may-one : (schema : Schema) (next_file : ℕ) (dir : Directory) (d : Doubted) (b : Batch) → MayStand schema next_file dir d → b.number ≡ directory_number dir + 1 → IsBatchOf schema b → MayStand schema next_file (with_batch dir b) d
may-one schema next_file dir d b may is of =
    let other : b.number ≡ directory_number (shadow_of dir d) + 1 = omega (arith, is, may.number) in
    let low_own : dir.state.through < b.number = omega (arith, number-low dir, is) in
    let low_other : d.state.through < b.number = omega (arith, number-low (shadow_of dir d), other) in
    record {
      state = may.state;
      older = may.older;
      made = may.made;
      in_order = order_more schema (shadow_of dir d) b may.in_order may.reaches other of;
      reaches = reaches_more (shadow_of dir d) b may.reaches other;
      rows = rows-push (shadow_of dir d) b low_other ∙ ap (λ (rows : Rows). after_batch rows b) may.rows ∙ sym (rows-push dir b low_own);
      number = number-push (shadow_of dir d) b low_other ∙ sym (number-push dir b low_own);
    }

pub may_more : (schema : Schema) (next_file : ℕ) (dir : Directory) (doubt : Option Doubted) (b : Batch) → IfSome doubt (MayStand schema next_file dir) → b.number ≡ directory_number dir + 1 → IsBatchOf schema b → IfSome doubt (MayStand schema next_file (with_batch dir b))
may_more schema next_file dir None b may is of = tt
may_more schema next_file dir (Some d) b may is of = may-one schema next_file dir d b may is of
