-- A connection is read in one way.
use Rattle.std.proofs.Common.{◌≡◌, ℕ, zero, suc, ◌≤◌, List, [], ◌∷◌, ◌++◌, length, take, map, refl, sym, ◌∙◌, ap, subst, arith, append_assoc}
use Rattle.std.specs.List.{flat_map}
use Rattle.mysql_wire.specs.Packets.{packet, max_payload, BeginsWith}
use Rattle.serve_line.specs.Machines.{Machine}
use Rattle.serve_line.specs.Line.{Phase, Opened, Greeted, Talking, Turn, Step, Run}

-- Bytes begin with one packet at most.
abbrev pub OnePacket : Type 0
OnePacket = (expect : ℕ) (bytes p q r s : List ℕ) → BeginsWith expect bytes p r → BeginsWith expect bytes q s → (p ≡ q) × (r ≡ s)

-- how far a phase is
pub place : {S : Type 0} → Phase S → ℕ
place (Opened connection start) = 0
place (Greeted start) = 1
place (Talking state answered) = 2

-- what a turn reads at a place, and the place after it
AtPlace : ℕ → List ℕ → Type 0
AtPlace zero read = read ≡ []
AtPlace (suc zero) read = (payload : List ℕ) × (length payload ≤ max_payload) × (read ≡ packet 1 payload)
AtPlace (suc (suc n)) read = (payload : List ℕ) × (length payload ≤ max_payload) × (read ≡ packet 0 payload)

place_after : ℕ → ℕ
place_after zero = 1
place_after (suc n) = 2

reads_at : {S E : Type 0} (machine : Machine S E) (old new : Phase S) (turn : Turn E) → Step machine old turn new → AtPlace (place old) turn.read × (place new ≡ place_after (place old))
unfolding place AtPlace place_after
reads_at machine (Opened connection start) (Greeted start') turn step = (step.0, refl)
reads_at machine (Greeted start) (Talking state answered) turn step = ((step.0, step.2.0, step.2.1), refl)
reads_at machine (Talking old n) (Talking new m) turn step = ((step.0, step.2.0, step.2.1), refl)
reads_at machine (Opened connection start) (Opened connection' start') turn step = absurd step
reads_at machine (Opened connection start) (Talking state answered) turn step = absurd step
reads_at machine (Greeted start) (Opened connection start') turn step = absurd step
reads_at machine (Greeted start) (Greeted start') turn step = absurd step
reads_at machine (Talking old n) (Opened connection start) turn step = absurd step
reads_at machine (Talking old n) (Greeted start) turn step = absurd step

module _ (one : OnePacket) where
  packet_once : (expect : ℕ) (read read' rest rest' : List ℕ) → (payload : List ℕ) × (length payload ≤ max_payload) × (read ≡ packet expect payload)
      → (payload : List ℕ) × (length payload ≤ max_payload) × (read' ≡ packet expect payload) → read ++ rest ≡ read' ++ rest' → (read ≡ read') × (rest ≡ rest')
  packet_once expect read read' rest rest' first second same =
      let a : read ++ rest ≡ packet expect first.0 ++ rest = ap (λ (r : List ℕ). r ++ rest) first.2 in
      let b : read ++ rest ≡ packet expect second.0 ++ rest' = same ∙ ap (λ (r : List ℕ). r ++ rest') second.2 in
      let both = one expect (read ++ rest) first.0 second.0 rest rest' (first.1, a) (second.1, b) in
      (first.2 ∙ ap (packet expect) both.0 ∙ sym second.2, both.1)

  turn_once : (at : ℕ) (read read' rest rest' : List ℕ) → AtPlace at read → AtPlace at read' → read ++ rest ≡ read' ++ rest' → (read ≡ read') × (rest ≡ rest')
  unfolding AtPlace
  turn_once zero read read' rest rest' first second same =
      (first ∙ sym second, ap (λ (r : List ℕ). r ++ rest) (sym first) ∙ same ∙ ap (λ (r : List ℕ). r ++ rest') second)
  turn_once (suc zero) read read' rest rest' first second same = packet_once 1 read read' rest rest' first second same
  turn_once (suc (suc n)) read read' rest rest' first second same = packet_once 0 read read' rest rest' first second same

  -- two runs over the same bytes read the same packets, as far as both go
  pub runs_once : {S E : Type 0} (machine : Machine S E) (turns more : List (Turn E)) (old new old' new' : Phase S) (rest left : List ℕ) → place old ≡ place old'
      → Run machine old turns new → Run machine old' more new'
      → flat_map (λ t. t.read) turns ++ rest ≡ flat_map (λ t. t.read) more ++ left → length turns ≤ length more
      → map (λ t. t.read) turns ≡ take (length turns) (map (λ t. t.read) more)
  runs_once machine [] more old new old' new' rest left alike run run' same short = refl
  runs_once machine (turn ∷ turns) [] old new old' new' rest left alike run run' same short = absurd (omega arith)
  runs_once machine (turn ∷ turns) (turn' ∷ more) old new old' new' rest left alike run run' same short =
      let here = reads_at machine old run.0 turn run.1 in
      let there = reads_at machine old' run'.0 turn' run'.1 in
      let both = turn_once (place old) turn.read turn'.read (flat_map (λ t. t.read) turns ++ rest) (flat_map (λ t. t.read) more ++ left)
      here.0 (subst (λ (n : ℕ). AtPlace n turn'.read) (sym alike) there.0)
      (sym (append_assoc turn.read (flat_map (λ t. t.read) turns) rest) ∙ same ∙ append_assoc turn'.read (flat_map (λ t. t.read) more) left) in
      let onward = runs_once machine turns more run.0 new run'.0 new' rest left (here.1 ∙ ap place_after alike ∙ sym there.1) run.2 run'.2 both.1 (omega arith) in
      ap (λ (r : List ℕ). r ∷ map (λ t. t.read) turns) both.0 ∙ ap (λ (rs : List (List ℕ)). turn'.read ∷ rs) onward
