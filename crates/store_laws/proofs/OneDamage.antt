-- One damage, or none: what is wrong with files is one thing, and nothing is where they can be read.
use Rattle.std.proofs.Common.{◌≡◌, ◌≢◌, ◌⊎◌, inl, inr, ℕ, zero, suc, ◌+◌, ◌≤◌, ◌<◌, Bool, cond, List, [], ◌∷◌, ◌++◌, Option, Some, None, length, map, refl, sym, ◌∙◌, ap, subst, arith}
use Rattle.std.specs.Prelude.{All}
use Rattle.std.specs.List.{fold}
use Rattle.std.proofs.lemmas.Bool.{le-ltb}
use Rattle.std.proofs.lemmas.List.Elements.{All-head, All-tail}
use Rattle.chunk_damage.specs.Header.{row_at}
use Rattle.doc_types.specs.declared.documents.DocRow.{DocRow}
use Rattle.doc_types.specs.declared.schema.Schema.{Schema}
use Rattle.doc_types.specs.Rows.{Rows}
use Rattle.doc_types.specs.Schemas.{IsSchema}
use Rattle.doc_types.specs.Snapshots.{all_living}
use Rattle.chunk_store.specs.Images.{Image, contents}
use Rattle.gate_log.specs.Logs.{last_number}
use Rattle.gate_log.specs.Reading.{Begins, MayCome, behind}
use Rattle.gate_log.specs.declared.reading.Before.{Before}
use Rattle.gate_log.specs.declared.reading.Before.TheVariants.{Chunks, Record}
use Rattle.gate_log.specs.declared.records.LogRecord.{LogRecord}
use Rattle.gate_log.proofs.OneReading.{behind_is, one_list}
use Rattle.root_slots.specs.Choosing.{IsBadRoot, IsGood}
use Rattle.root_slots.specs.Slots.{IsRoot, Slot, slots_of}
use Rattle.root_slots.specs.States.{IsState}
use Rattle.root_slots.specs.declared.fault.RootKind.{RootKind}
use Rattle.root_slots.specs.declared.state.RootState.{RootState}
use Rattle.store_steps.specs.Batches.{Batch, AreFrom, IsBatchOf, above, record_of}
use Rattle.store_steps.specs.Damage.{AreBadChunks, AreBadLogs, AreChunks, EndsEarly, HasBadChunks, HasIdTwice, IsAgain, IsBadLog, IsBadNewer, IsBadOlder, IsBadRootState, IsBadSlot, IsBadState, IsDamaged, IsGoodState, IsLastGate, IsRootIn, of_root}
use Rattle.store_steps.specs.Directory.{Directory, Holds, HoldsFiles, IsOlderLog, Reaches, StandsFor, directory_number, layers_from, logged}
use Rattle.store_steps.specs.declared.damage.Damage.{Damage}
use Rattle.store_steps.specs.declared.damage.DamageKind.{DamageKind}
use Rattle.store_steps.specs.declared.damage.DamageKind.TheVariants as kinds
use Rattle.store_steps.proofs.Apart.{AreApart}
use Rattle.store_laws.proofs.OneChunk.{ImageLaws, never_again, never_bad_chunks, one_again, one_bad_chunks}
use Rattle.store_laws.proofs.OneDirectory.{HasRoot, newer_are, older_are, one_list_of_chunks, root_of, same_directory}
use Rattle.store_laws.proofs.OneLog.{never_bad_log, one_bad_log}
use Rattle.store_laws.proofs.OneRoot.{both_good, never_bad, none_good, no_root, one_bad, one_slot}

-- ---- slots

-- Both slots are read.
abbrev AreGood : Image → Type 0
AreGood x = IsGood (x 0) × IsGood (x 1)

never_bad_root : (slot place : ℕ) (kind : RootKind) (x : Image) → AreGood x → IsBadRoot slot place kind (slots_of x) → ⊥
never_bad_root zero place kind x good bad = never_bad place kind (x 0) good.0 bad
never_bad_root (suc zero) place kind x good bad = never_bad place kind (x 1) good.1 bad.1
never_bad_root (suc (suc slot)) place kind x good bad = bad

one_bad_root : (slot other place its : ℕ) (kind another : RootKind) (x : Image) → IsBadRoot slot place kind (slots_of x) → IsBadRoot other its another (slots_of x) → (slot ≡ other) × (place ≡ its) × (kind ≡ another)
one_bad_root zero zero place its kind another x one two = let same = one_bad place its kind another (x 0) one two in (refl, same.0, same.1)
one_bad_root zero (suc zero) place its kind another x one two = absurd (never_bad place kind (x 0) two.0 one)
one_bad_root zero (suc (suc other)) place its kind another x one two = absurd two
one_bad_root (suc zero) zero place its kind another x one two = absurd (never_bad its another (x 0) one.0 two)
one_bad_root (suc zero) (suc zero) place its kind another x one two = let same = one_bad place its kind another (x 1) one.1 two.1 in (refl, same.0, same.1)
one_bad_root (suc zero) (suc (suc other)) place its kind another x one two = absurd two
one_bad_root (suc (suc slot)) other place its kind another x one two = absurd one

one_bad_slot : (x : Image) (damage other : Damage) → IsBadSlot x damage → IsBadSlot x other → damage ≡ other
one_bad_slot x damage other one two =
    let same = one_bad_root damage.file other.file damage.place other.place one.kind two.kind x one.bad two.bad in
    let kind : damage.kind ≡ other.kind = one.is ∙ ap of_root same.2 ∙ sym two.is in
    λ i. record { file = same.0 i; place = same.1 i; kind = kind i }

-- ---- what the root says

-- a state that can't be taken is so in one way, and it isn't one that can
one_bad_state : (schema : Schema) (state : RootState) (kind its : DamageKind) (place other : ℕ) → IsBadState schema state kind place → IsBadState schema state its other → (kind ≡ its) × (place ≡ other)
one_bad_state schema state kinds.RootSchema kinds.RootSchema place other one two = (refl, one.1 ∙ sym two.1)
one_bad_state schema state kinds.RootSchema its place other one two = absurd two
one_bad_state schema state kind its place other one two = absurd one

never_bad_state : (schema : Schema) (state : RootState) (kind : DamageKind) (place : ℕ) → IsGoodState schema state → IsBadState schema state kind place → ⊥
never_bad_state schema state kinds.RootSchema place good bad = bad.0 good
never_bad_state schema state kind place good bad = bad

-- ---- what the chunks say

-- the state that a slot holds keeps the layout
pub state_in : (file : ℕ) (root : Slot) (x : Image) → IsRootIn file root x → IsState root.state
state_in zero root x is = is.0.slot.state
state_in (suc zero) root x is = is.0.slot.state
state_in (suc (suc file)) root x is = absurd is

-- the chunks are wrong
abbrev AreWrongChunks : Schema → RootState → Image → Damage → Type 0
AreWrongChunks schema state x damage = AreBadChunks schema state.through x damage state.chunks ⊎ HasIdTwice schema state x damage

module _ (schema : Schema) (limits : IsSchema schema) (laws : ImageLaws schema) (state : RootState) (is : IsState state) (x : Image) where
  bad_never_good : (chunks : List (List DocRow)) (damage : Damage) → AreChunks schema state x chunks → AreBadChunks schema state.through x damage state.chunks → ⊥
  bad_never_good chunks damage are bad = never_bad_chunks schema limits laws x state.through state.next_file (state.older ∷ state.newer ∷ []) state.chunks chunks damage is.chunks are.files are.rows bad

  one_chunks : (xs ys : List (List DocRow)) → AreChunks schema state x xs → AreChunks schema state x ys → xs ≡ ys
  one_chunks xs ys one two = one_list_of_chunks schema x state.through state.chunks xs ys limits one.files two.files one.rows two.rows

  one_wrong_chunks : (damage other : Damage) → AreWrongChunks schema state x damage → AreWrongChunks schema state x other → damage ≡ other
  one_wrong_chunks damage other (inl one) (inl two) = one_bad_chunks schema limits laws x state.through state.next_file (state.older ∷ state.newer ∷ []) state.chunks damage other is.chunks one two
  one_wrong_chunks damage other (inl one) (inr two) = absurd (bad_never_good two.chunks damage two.are one)
  one_wrong_chunks damage other (inr one) (inl two) = absurd (bad_never_good one.chunks other one.are two)
  one_wrong_chunks damage other (inr one) (inr two) =
      let same = one_chunks two.chunks one.chunks two.are one.are in
      let both = one_again [] state.chunks one.chunks damage.file other.file one.row two.row one.again (subst (λ (chunks : List (List DocRow)). IsAgain [] state.chunks chunks other.file two.row) same two.again) in
      let kind : damage.kind ≡ other.kind = one.kind ∙ sym two.kind in
      let place : damage.place ≡ other.place = one.place ∙ ap (row_at schema) both.1 ∙ sym two.place in
      λ i. record { file = both.0 i; place = place i; kind = kind i }

  -- good chunks aren't wrong
  never_wrong_chunks : (chunks : List (List DocRow)) (damage : Damage) → AreChunks schema state x chunks → AreApart (all_living (layers_from state.chunks chunks)) → AreWrongChunks schema state x damage → ⊥
  never_wrong_chunks chunks damage are once (inl bad) = bad_never_good chunks damage are bad
  never_wrong_chunks chunks damage are once (inr twice) =
      never_again [] state.chunks chunks damage.file twice.row once (subst (λ (chunks : List (List DocRow)). IsAgain [] state.chunks chunks damage.file twice.row) (one_chunks twice.chunks chunks twice.are are) twice.again)

-- ---- what the logs say

never_bad_older : (schema : Schema) (x : Image) (before : Before) (file : ℕ) (batches : List Batch) (kind : DamageKind) (place : ℕ) → file ≢ 0 → Begins before (map record_of batches) → All (IsBatchOf schema) batches → IsOlderLog x file batches
    → IsBadLog schema before kind place (x file) → ⊥
never_bad_older schema x before zero batches kind place some begins of log bad = some refl
never_bad_older schema x before (suc file) batches kind place some begins of log bad = never_bad_log schema before batches kind place (x (suc file)) begins of log bad

-- the records of the older log
older_records : (x : Image) (file : ℕ) (xs ys : List Batch) → IsOlderLog x file xs → IsOlderLog x file ys → map record_of xs ≡ map record_of ys
older_records x zero xs ys one two = ap (map record_of) (one ∙ sym two)
older_records x (suc file) xs ys one two = one_list (contents (x (suc file))) (map record_of xs) (map record_of ys) one two

-- the logs are wrong
abbrev AreWrong : Schema → RootState → Image → Damage → Type 0
AreWrong schema state x damage = IsBadOlder schema state x damage ⊎ IsBadNewer schema state x damage

older_first : (schema : Schema) (state : RootState) (x : Image) (damage other : Damage) → IsBadOlder schema state x damage → IsBadNewer schema state x other → ⊥
older_first schema state x damage other older newer = never_bad_older schema x (Chunks state.through) state.older newer.older damage.kind damage.place older.0 newer.begins newer.of newer.is_older older.2

one_bad_newer : (schema : Schema) (state : RootState) (x : Image) (damage other : Damage) → IsBadNewer schema state x damage → IsBadNewer schema state x other → damage ≡ other
one_bad_newer schema state x damage other one two =
    let records = older_records x state.older two.older one.older two.is_older one.is_older in
    let both = one_bad_log schema (behind (Chunks state.through) (last_number (map record_of one.older))) damage.kind other.kind damage.place other.place (x state.newer) one.bad
    (subst (λ (rs : List LogRecord). IsBadLog schema (behind (Chunks state.through) (last_number rs)) other.kind other.place (x state.newer)) records two.bad) in
    let file : damage.file ≡ other.file = one.file ∙ sym two.file in
    λ i. record { file = file i; place = both.1 i; kind = both.0 i }

one_wrong : (schema : Schema) (state : RootState) (x : Image) (damage other : Damage) → AreWrong schema state x damage → AreWrong schema state x other → damage ≡ other
one_wrong schema state x damage other (inl one) (inl two) =
    let both = one_bad_log schema (Chunks state.through) damage.kind other.kind damage.place other.place (x state.older) one.2 two.2 in
    let file : damage.file ≡ other.file = one.1 ∙ sym two.1 in
    λ i. record { file = file i; place = both.1 i; kind = both.0 i }
one_wrong schema state x damage other (inl one) (inr two) = absurd (older_first schema state x damage other one two)
one_wrong schema state x damage other (inr one) (inl two) = absurd (older_first schema state x other damage two one)
one_wrong schema state x damage other (inr one) (inr two) = one_bad_newer schema state x damage other one two

-- ---- a directory isn't damaged

begins_first : (through first : ℕ) (older newer : List Batch) → first ≤ through + 1 → AreFrom first (older ++ newer) → Begins (Chunks through) (map record_of older)
begins_first through first [] newer low from = tt
begins_first through first (b ∷ older) newer low from = omega (arith, low, from.0)

begins_behind : (before : Before) (first : ℕ) (older newer : List Batch) → MayCome before first → AreFrom first (older ++ newer) → Begins (behind before (last_number (map record_of older))) (map record_of newer)
begins_behind before first [] [] may from = tt
begins_behind before first [] (b ∷ newer) may from = subst (MayCome before) (sym from.0) may
begins_behind before first (b ∷ older) newer may from =
    let is : first + 1 ≡ b.number + 1 = omega (arith, from.0) in
    subst (λ (c : Before). Begins c (map record_of newer)) (sym (behind_is before (record_of b) (map record_of older))) (begins_behind (Record b.number) (first + 1) older newer is from.1)

never_wrong : (schema : Schema) (x : Image) (dir : Directory) (damage : Damage) → HoldsFiles schema dir x → AreWrong schema dir.state x damage → ⊥
never_wrong schema x dir damage holds wrong =
    let numbers = holds.in_order.numbers in
    let first = begins_first dir.state.through numbers.0 dir.older dir.newer numbers.1 numbers.2 in
    elim wrong [
      | inl older ↦ never_bad_older schema x (Chunks dir.state.through) dir.state.older dir.older damage.kind damage.place older.0 first (older_are schema dir x holds) holds.files.older older.2
      | inr newer ↦
          let before = λ (rs : List LogRecord). behind (Chunks dir.state.through) (last_number rs) in
          let records = older_records x dir.state.older dir.older newer.older holds.files.older newer.is_older in
          let begins = subst (λ (rs : List LogRecord). Begins (before rs) (map record_of dir.newer)) records (begins_behind (Chunks dir.state.through) numbers.0 dir.older dir.newer numbers.1 numbers.2) in
          never_bad_log schema (before (map record_of newer.older)) dir.newer damage.kind damage.place (x dir.state.newer) begins (newer_are schema dir x holds) holds.newer newer.bad
    ]

-- ---- logs that end early

none_above : (through : ℕ) (bs : List Batch) → All (λ b. b.number < through) bs → above through bs ≡ []
none_above through [] all = refl
none_above through (b ∷ bs) all =
    ap (λ (c : Bool). cond c (b ∷ above through bs) (above through bs)) (le-ltb through b.number (let low = All-head (λ (b : Batch). b.number < through) b bs all in omega (arith, low)))
    ∙ none_above through bs (All-tail (λ (b : Batch). b.number < through) b bs all)

low_end : (through number : ℕ) (bs : List Batch) → AreFrom number bs → All (λ b. b.number < through) bs → 0 < length bs → number + length bs ≤ through
low_end through number [] from all some = absurd (omega (arith, some))
low_end through number (b ∷ []) from all some = let low = All-head (λ (b : Batch). b.number < through) b [] all in omega (arith, low, from.0)
low_end through number (b ∷ c ∷ bs) from all some = let rest = low_end through (number + 1) (c ∷ bs) from.1 (All-tail (λ (b : Batch). b.number < through) b (c ∷ bs) all) (omega arith) in omega (arith, rest)

-- logs that end early don't reach as far as the chunks
never_early : (dir : Directory) → Reaches dir → 0 < length (logged dir) → All (λ b. b.number < dir.state.through) (logged dir) → ⊥
never_early dir reaches some early =
    let number : directory_number dir ≡ dir.state.through = ap (fold (λ (number : ℕ) (b : Batch). b.number) dir.state.through) (none_above dir.state.through (logged dir) early) in
    let low = low_end dir.state.through reaches.first (logged dir) reaches.numbers early some in
    omega (arith, number, low, reaches.next)

one_gate : (state : RootState) (older newer : List Batch) (file its place other : ℕ) → IsLastGate state older newer file place → IsLastGate state older newer its other → (file ≡ its) × (place ≡ other)
one_gate state older [] file its place other one two = (one.0 ∙ sym two.0, one.1 ∙ sym two.1)
one_gate state older (b ∷ newer) file its place other one two = (one.0 ∙ sym two.0, one.1 ∙ sym two.1)

one_early : (schema : Schema) (x : Image) (damage other : Damage) → IsSchema schema → EndsEarly schema x damage → EndsEarly schema x other → damage ≡ other
one_early schema x damage other limits one two =
    let same = same_directory schema x two.dir one.dir limits two.holds one.holds in
    let both = one_gate one.dir.state one.dir.older one.dir.newer damage.file other.file damage.place other.place one.gate (subst (λ (dir : Directory). IsLastGate dir.state dir.older dir.newer other.file other.place) same two.gate) in
    let kind : damage.kind ≡ other.kind = one.kind ∙ sym two.kind in
    λ i. record { file = both.0 i; place = both.1 i; kind = kind i }

-- ---- files of a directory

module _ (schema : Schema) (limits : IsSchema schema) (laws : ImageLaws schema) (x : Image) (dir : Directory) (holds : HoldsFiles schema dir x) where
  at : HasRoot dir x
  at = root_of schema dir x holds

  -- another root is this one
  state_of : (file : ℕ) (root : Slot) → IsRootIn file root x → root.state ≡ dir.state
  state_of file root stands = ap (λ (s : Slot). s.state) (one_slot file at.slot root at.root x stands at.stands).1 ∙ at.state

  layout : IsState dir.state
  layout = subst IsState at.state (state_in at.slot at.root x at.stands)

  held_slot : (damage : Damage) → IsBadSlot x damage → ⊥
  held_slot damage bad = never_bad_root damage.file damage.place bad.kind x (both_good at.slot at.root x at.stands) bad.bad

  held_state : (damage : Damage) → IsBadRootState schema x damage → ⊥
  held_state damage state = never_bad_state schema state.root.state damage.kind damage.place (ap (λ (s : RootState). s.schema_text) (state_of damage.file state.root state.stands) ∙ holds.in_order.text) state.bad

  held_chunks : (damage : Damage) → HasBadChunks schema x damage → ⊥
  held_chunks damage chunks =
      never_wrong_chunks schema limits laws dir.state layout x dir.chunks damage (record { files = holds.files.chunks; rows = holds.in_order.chunks }) holds.in_order.once
      (subst (λ (s : RootState). AreWrongChunks schema s x damage) (state_of chunks.file chunks.root chunks.stands) chunks.bad)

  held_logs : (damage : Damage) → AreBadLogs schema x damage → ⊥
  held_logs damage logs = never_wrong schema x dir damage holds (subst (λ (s : RootState). AreWrong schema s x damage) (state_of logs.file logs.root logs.stands) logs.bad)

  held_never : (damage : Damage) → Reaches dir → IsDamaged schema x damage → ⊥
  held_never damage reaches (inl slot) = held_slot damage slot
  held_never damage reaches (inr (inl state)) = held_state damage state
  held_never damage reaches (inr (inr (inl chunks))) = held_chunks damage chunks
  held_never damage reaches (inr (inr (inr (inl logs)))) = held_logs damage logs
  held_never damage reaches (inr (inr (inr (inr early)))) =
      let same = same_directory schema x early.dir dir limits early.holds holds in
      never_early dir reaches (subst (λ (d : Directory). 0 < length (logged d)) same early.some) (subst (λ (d : Directory). All (λ b. b.number < d.state.through) (logged d)) same early.early)

none_never : (schema : Schema) (x : Image) (damage : Damage) → IsRoot None (slots_of x) → IsDamaged schema x damage → ⊥
none_never schema x damage none (inl slot) = never_bad_root damage.file damage.place slot.kind x (none_good x none) slot.bad
none_never schema x damage none (inr (inl state)) = no_root damage.file state.root x none state.stands
none_never schema x damage none (inr (inr (inl chunks))) = no_root chunks.file chunks.root x none chunks.stands
none_never schema x damage none (inr (inr (inr (inl logs)))) = no_root logs.file logs.root x none logs.stands
none_never schema x damage none (inr (inr (inr (inr early)))) = let at = root_of schema early.dir x early.holds in no_root at.slot at.root x none at.stands

pub found_never : (schema : Schema) (x : Image) (found : Option Directory) (damage : Damage) → IsSchema schema → ImageLaws schema → Holds schema found x → IsDamaged schema x damage → ⊥
found_never schema x None damage limits laws holds damaged = none_never schema x damage holds damaged
found_never schema x (Some dir) damage limits laws holds damaged = held_never schema limits laws x dir holds.0 damage holds.1 damaged

-- Files that are damaged stand for nothing.
pub never_damaged : (schema : Schema) (x : Image) (rows : Rows) (number : ℕ) (damage : Damage) → IsSchema schema → ImageLaws schema → StandsFor schema x rows number → IsDamaged schema x damage → ⊥
never_damaged schema x rows number damage limits laws stands damaged = found_never schema x stands.found damage limits laws stands.holds damaged

-- ---- one damage

-- a root stands, and neither slot is wrong
never_slot : (x : Image) (damage : Damage) (slot : ℕ) (root : Slot) → IsRootIn slot root x → IsBadSlot x damage → ⊥
never_slot x damage slot root stands bad = never_bad_root damage.file damage.place bad.kind x (both_good slot root x stands) bad.bad

one_root_state : (schema : Schema) (x : Image) (damage other : Damage) → IsBadRootState schema x damage → IsBadRootState schema x other → damage ≡ other
one_root_state schema x damage other one two =
    let same = one_slot damage.file other.file one.root two.root x one.stands two.stands in
    let both = one_bad_state schema one.root.state damage.kind other.kind damage.place other.place one.bad (subst (λ (s : Slot). IsBadState schema s.state other.kind other.place) (sym same.1) two.bad) in
    λ i. record { file = same.0 i; place = both.1 i; kind = both.0 i }

-- a root that can be taken, and one that can't
never_state : (schema : Schema) (x : Image) (damage : Damage) (file : ℕ) (root : Slot) → IsRootIn file root x → IsGoodState schema root.state → IsBadRootState schema x damage → ⊥
never_state schema x damage file root stands good state =
    let same = one_slot file damage.file root state.root x stands state.stands in
    never_bad_state schema state.root.state damage.kind damage.place (subst (λ (s : Slot). IsGoodState schema s.state) same.1 good) state.bad

module _ (schema : Schema) (limits : IsSchema schema) (laws : ImageLaws schema) (x : Image) where
  one_of_chunks : (damage other : Damage) → HasBadChunks schema x damage → HasBadChunks schema x other → damage ≡ other
  one_of_chunks damage other one two =
      let same = one_slot two.file one.file two.root one.root x two.stands one.stands in
      one_wrong_chunks schema limits laws one.root.state (state_in one.file one.root x one.stands) x damage other one.bad (subst (λ (s : Slot). AreWrongChunks schema s.state x other) same.1 two.bad)

  chunks_or_logs : (damage other : Damage) → HasBadChunks schema x damage → AreBadLogs schema x other → ⊥
  chunks_or_logs damage other chunks logs =
      let same = one_slot chunks.file logs.file chunks.root logs.root x chunks.stands logs.stands in
      never_wrong_chunks schema limits laws logs.root.state (state_in logs.file logs.root x logs.stands) x logs.chunks damage logs.are logs.once (subst (λ (s : Slot). AreWrongChunks schema s.state x damage) same.1 chunks.bad)

  one_of_logs : (damage other : Damage) → AreBadLogs schema x damage → AreBadLogs schema x other → damage ≡ other
  one_of_logs damage other one two =
      let same = one_slot two.file one.file two.root one.root x two.stands one.stands in
      one_wrong schema one.root.state x damage other one.bad (subst (λ (s : Slot). AreWrong schema s.state x other) same.1 two.bad)

  -- what comes before logs that end early
  before_early : (damage other : Damage) → EndsEarly schema x other → IsBadSlot x damage ⊎ (IsBadRootState schema x damage ⊎ (HasBadChunks schema x damage ⊎ AreBadLogs schema x damage)) → ⊥
  before_early damage other early (inl slot) = held_slot schema limits laws x early.dir early.holds damage slot
  before_early damage other early (inr (inl state)) = held_state schema limits laws x early.dir early.holds damage state
  before_early damage other early (inr (inr (inl chunks))) = held_chunks schema limits laws x early.dir early.holds damage chunks
  before_early damage other early (inr (inr (inr logs))) = held_logs schema limits laws x early.dir early.holds damage logs

  -- Files are damaged in one way.
  pub one_damage : (damage other : Damage) → IsDamaged schema x damage → IsDamaged schema x other → damage ≡ other
  one_damage damage other (inl one) (inl two) = one_bad_slot x damage other one two
  one_damage damage other (inl one) (inr (inl two)) = absurd (never_slot x damage other.file two.root two.stands one)
  one_damage damage other (inl one) (inr (inr (inl two))) = absurd (never_slot x damage two.file two.root two.stands one)
  one_damage damage other (inl one) (inr (inr (inr (inl two)))) = absurd (never_slot x damage two.file two.root two.stands one)
  one_damage damage other (inl one) (inr (inr (inr (inr two)))) = absurd (before_early damage other two (inl one))
  one_damage damage other (inr (inl one)) (inl two) = absurd (never_slot x other damage.file one.root one.stands two)
  one_damage damage other (inr (inl one)) (inr (inl two)) = one_root_state schema x damage other one two
  one_damage damage other (inr (inl one)) (inr (inr (inl two))) = absurd (never_state schema x damage two.file two.root two.stands two.good one)
  one_damage damage other (inr (inl one)) (inr (inr (inr (inl two)))) = absurd (never_state schema x damage two.file two.root two.stands two.good one)
  one_damage damage other (inr (inl one)) (inr (inr (inr (inr two)))) = absurd (before_early damage other two (inr (inl one)))
  one_damage damage other (inr (inr (inl one))) (inl two) = absurd (never_slot x other one.file one.root one.stands two)
  one_damage damage other (inr (inr (inl one))) (inr (inl two)) = absurd (never_state schema x other one.file one.root one.stands one.good two)
  one_damage damage other (inr (inr (inl one))) (inr (inr (inl two))) = one_of_chunks damage other one two
  one_damage damage other (inr (inr (inl one))) (inr (inr (inr (inl two)))) = absurd (chunks_or_logs damage other one two)
  one_damage damage other (inr (inr (inl one))) (inr (inr (inr (inr two)))) = absurd (before_early damage other two (inr (inr (inl one))))
  one_damage damage other (inr (inr (inr (inl one)))) (inl two) = absurd (never_slot x other one.file one.root one.stands two)
  one_damage damage other (inr (inr (inr (inl one)))) (inr (inl two)) = absurd (never_state schema x other one.file one.root one.stands one.good two)
  one_damage damage other (inr (inr (inr (inl one)))) (inr (inr (inl two))) = absurd (chunks_or_logs other damage two one)
  one_damage damage other (inr (inr (inr (inl one)))) (inr (inr (inr (inl two)))) = one_of_logs damage other one two
  one_damage damage other (inr (inr (inr (inl one)))) (inr (inr (inr (inr two)))) = absurd (before_early damage other two (inr (inr (inr one))))
  one_damage damage other (inr (inr (inr (inr one)))) (inl two) = absurd (before_early other damage one (inl two))
  one_damage damage other (inr (inr (inr (inr one)))) (inr (inl two)) = absurd (before_early other damage one (inr (inl two)))
  one_damage damage other (inr (inr (inr (inr one)))) (inr (inr (inl two))) = absurd (before_early other damage one (inr (inr (inl two))))
  one_damage damage other (inr (inr (inr (inr one)))) (inr (inr (inr (inl two)))) = absurd (before_early other damage one (inr (inr (inr two))))
  one_damage damage other (inr (inr (inr (inr one)))) (inr (inr (inr (inr two)))) = one_early schema x damage other limits one two
