-- How an engine ends: the keeper's words at the number of the index.
use Rattle.std.proofs.Common.{◌≡◌, ⊎_elim, inl, inr, ℕ, ◌≤◌, ◌==◌, false, All, List, [], ◌∷◌, length, map, Option, None, Result, Ok, Err, refl, sym, ◌∙◌, ap, subst, arith}
use Rattle.std.proofs.lemmas.Bool.Decides.{nat_tests}
use Rattle.std.proofs.lemmas.List.Elements.{All-cons, All-nil}
use Rattle.std.proofs.lemmas.List.Sums.{sum_by-cons}
use Rattle.std.proofs.lemmas.Map.Keys.{IsDistinct-head, IsDistinct-tail}
use Rattle.std.specs.List.{AllByRecursion, AllZip, list_any, sum_by}
use Rattle.srch_base.specs.declared.faults.Or.{Or}
use Rattle.srch_base.specs.declared.faults.Or.TheVariants as causes
use Rattle.chunk_store.specs.declared.disk.Disk.{Ghosts as DiskWords}
use Rattle.commit_outcomes.specs.declared.strayed.Strayed.{Strayed}
use Rattle.doc_types.specs.declared.schema.Schema.{Schema}
use Rattle.step_book.specs.Fronts.{FrontValue}
use Rattle.step_book.specs.Shares.{AreApart, BeginAll, SeenBy, calls_by, sum_of_shares}
use Rattle.step_book.specs.Tellings.{AtOpening}
use Rattle.step_book.proofs.Prefixes.{prefix_length}
use Rattle.step_book.proofs.Sums.{shares_fit}
use Rattle.step_history.specs.History.{Base}
use Rattle.step_line.specs.Lines.{IsLine, LineValue, new_line}
use Rattle.step_tokens.specs.Tokens.{TokenValue, faults_of, stops_of}
use Rattle.store_keep.specs.Charges.{IsBacked, MayHaveStopped}
use Rattle.store_keep.specs.Commits.{front_of}
use Rattle.store_keep.specs.Tellings.{AreTokensOf, IsTold, first_stray}
use Rattle.store_keep.proofs.Telling.{all_have}
use Rattle.snap_share.specs.Closings.{Closes, HasKept, IsOnLine, IsStoppedByNumbers, Keeps, Says, SharesFit, WorkersDiffer}
use Rattle.snap_share.specs.steps.Endings.{EndsBy}
use Rattle.snap_share.specs.steps.Takings.{HasTaken}

-- tokens of an index and its workers are those of its line
pub of_line : (index workers : ℕ) (line : LineValue) (tokens : List TokenValue) → index ≡ line.index → workers ≡ line.workers → AreTokensOf (new_line index workers) tokens → AreTokensOf line tokens
of_line index workers line [] index_is workers_is of = tt
of_line index workers line (token ∷ tokens) index_is workers_is of =
    (of.0 ∙ index_is, of.1, subst (λ (w : ℕ). token.worker ≤ w) workers_is of.2, of_line index workers line tokens index_is workers_is of.3)

-- what a token has taken of the line of faults
abbrev faults_by : TokenValue → SeenBy
faults_by token = record { worker = token.worker; calls = token.faults }

sums_alike : (tokens : List TokenValue) → sum_by faults_of tokens ≡ sum_of_shares (map faults_by tokens)
sums_alike [] = refl
sums_alike (token ∷ tokens) =
    let rest = sums_alike tokens in
    let left = sum_by-cons faults_of token tokens in
    let right = sum_by-cons (λ (one : SeenBy). calls_by one.worker one.calls) (faults_by token) (map faults_by tokens) in
    omega (arith, rest, left, right)

begin_all : (faults stops : List ℕ) (tokens : List TokenValue) → AllByRecursion (HasTaken faults stops) tokens → BeginAll faults (map faults_by tokens)
begin_all faults stops [] all = tt
begin_all faults stops (token ∷ tokens) all = (all.0.faults_begin, begin_all faults stops tokens all.1)

none_of : (worker : ℕ) (tokens : List TokenValue) → AllByRecursion (λ (w : ℕ). (worker == w) ≡ false) (map (λ (t : TokenValue). t.worker) tokens) → list_any (λ (other : SeenBy). other.worker == worker) (map faults_by tokens) ≡ false
none_of worker [] all = refl
none_of worker (token ∷ tokens) all =
    let rest = none_of worker tokens all.1 in
    let apart : (token.worker == worker) ≡ false = grind (arith, nat_tests, all.0) in
    rw apart rest

are_apart : (tokens : List TokenValue) → WorkersDiffer tokens → AreApart (map faults_by tokens)
are_apart [] differ = tt
are_apart (token ∷ tokens) differ =
    let workers : List ℕ = map (λ (t : TokenValue). t.worker) tokens in
    (none_of token.worker tokens (IsDistinct-head (λ (one other : ℕ). one == other) token.worker workers differ), are_apart tokens (IsDistinct-tail (λ (one other : ℕ). one == other) token.worker workers differ))

-- the shares of tokens that took no more than the line has
fit : (opened : AtOpening) (now : ℕ) (faults stops : List ℕ) (tokens : List TokenValue) → IsBacked opened now faults → AllByRecursion (HasTaken faults stops) tokens → WorkersDiffer tokens → SharesFit opened tokens now
fit opened now faults stops tokens backed all differ =
    let few : sum_of_shares (map faults_by tokens) ≤ length faults = shares_fit faults (map faults_by tokens) (are_apart tokens differ) (begin_all faults stops tokens all) in
    let alike = sums_alike tokens in
    ⊎_elim (λ below. inl (omega (arith, few, alike, below))) (λ end. inr end) backed

empty : (calls : List ℕ) → length calls ≤ 0 → calls ≡ []
empty [] few = refl
empty (call ∷ calls) few = absurd (omega (arith, few))

-- a token that took of a line without stops has none
no_stop : (faults stops : List ℕ) (token : TokenValue) → stops ≡ [] → HasTaken faults stops token → stops_of token ≡ 0
no_stop faults stops token none taken =
    let few = prefix_length token.stops stops taken.stops_begin in
    let zero : length stops ≡ 0 = ap length none in
    ap (λ (c : List ℕ). calls_by token.worker c) (empty token.stops (omega (arith, few, zero)))

by_numbers : (opened : AtOpening) (line : LineValue) (now : ℕ) (faults stops : List ℕ) (tokens : List TokenValue) → AllByRecursion (HasTaken faults stops) tokens → MayHaveStopped opened line.history now None stops → All (IsStoppedByNumbers opened line now) tokens
by_numbers opened line now faults stops [] all may = All-nil (IsStoppedByNumbers opened line now)
by_numbers opened line now faults stops (token ∷ tokens) all may =
    All-cons (IsStoppedByNumbers opened line now) token tokens
    (⊎_elim (λ none. inl (no_stop faults stops token none all.0)) (λ others. ⊎_elim (λ held. absurd (held refl)) (λ ended. inr ended) others) may)
    (by_numbers opened line now faults stops tokens all.1 may)

module _ {D : Type 0} (words : DiskWords D) (schema : ℕ → Schema) (base : ℕ → Base) (opened : ℕ → AtOpening) (line : LineValue) (faults stops : List ℕ) (held : Option Strayed) (told : List Strayed) (old new : List TokenValue) (disk : D) (note : FrontValue) where
  -- what is answered says what it is to say
  says : (result : Result (Unit {0}) (Or Strayed)) → note ≡ front_of line → AllByRecursion (HasTaken faults stops) old → MayHaveStopped (opened line.index) line.history (words.faults disk) held stops → AllZip (IsTold note) old new → EndsBy held told (first_stray (base line.index) line old) result
      → Says (base line.index) (opened line.index) told old line (words.faults disk) result new
  says (Ok done) note_is all may taught ends = (
    ends.1,
    all_have (base line.index) line old new ends.2 (subst (λ (n : FrontValue). AllZip (IsTold n) old new) note_is taught),
    by_numbers (opened line.index) line (words.faults disk) faults stops old all (subst (λ (h : Option Strayed). MayHaveStopped (opened line.index) line.history (words.faults disk) h stops) ends.0 may),
  )
  says (Err (causes.Fault numbers)) note_is all may taught ends = ends
  says (Err causes.NoMemory) note_is all may taught ends = all_have (base line.index) line old new ends (subst (λ (n : FrontValue). AllZip (IsTold n) old new) note_is taught)

  -- what a keeper's end leaves and says
  closes_at : (result : Result (Unit {0}) (Or Strayed)) → Keeps words (schema line.index) (base line.index) disk line → HasKept words (schema line.index) (base line.index) disk line → IsLine (schema line.index) (base line.index) line → note ≡ front_of line → IsBacked (opened line.index) (words.faults disk) faults
      → AllByRecursion (HasTaken faults stops) old → WorkersDiffer old → MayHaveStopped (opened line.index) line.history (words.faults disk) held stops → All (IsOnLine note.steps) old → AllZip (IsTold note) old new → EndsBy held told (first_stray (base line.index) line old) result
      → Closes words schema base opened line.index line.workers told old disk note result new
  closes_at result gives kept is note_is backed all differ may fronts taught ends = (
    line,
    record {
      left = record { index_is = refl; workers_are = refl; is = is; gives = gives; kept = kept };
      note_is = note_is;
      shares = fit (opened line.index) (words.faults disk) faults stops old backed all differ;
      fronts = fronts;
      taught = taught;
    },
    says result note_is all may taught ends,
  )

  -- and at the number of the index
  pub closes_so : (index workers : ℕ) (result : Result (Unit {0}) (Or Strayed)) → index ≡ line.index → workers ≡ line.workers → Keeps words (schema line.index) (base line.index) disk line → HasKept words (schema line.index) (base line.index) disk line → IsLine (schema line.index) (base line.index) line → note ≡ front_of line
      → IsBacked (opened line.index) (words.faults disk) faults → AllByRecursion (HasTaken faults stops) old → WorkersDiffer old → MayHaveStopped (opened line.index) line.history (words.faults disk) held stops → All (IsOnLine note.steps) old → AllZip (IsTold note) old new
      → EndsBy held told (first_stray (base line.index) line old) result → Closes words schema base opened index workers told old disk note result new
  closes_so index workers result index_is workers_are gives kept is note_is backed all differ may fronts taught ends =
      subst (λ (i : ℕ). Closes words schema base opened i workers told old disk note result new) (sym index_is)
      (subst (λ (n : ℕ). Closes words schema base opened line.index n told old disk note result new) (sym workers_are)
      (closes_at result gives kept is note_is backed all differ may fronts taught ends))
