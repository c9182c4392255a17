-- Files hold a directory, or they are damaged: never neither.
use Rattle.std.proofs.Common.{◌≡◌, ◌≢◌, ◌⊎◌, inl, inr, ℕ, zero, suc, ◌+◌, ◌≤◌, ◌<◌, List, [], ◌∷◌, ◌++◌, Option, Some, None, length, map, refl, sym, ◌∙◌, ap, subst, arith, All, AllPairs}
use Rattle.std.proofs.lemmas.Bool.{cases_lt}
use Rattle.std.proofs.lemmas.List.Elements.{All-append, All-cons, All-nil}
use Rattle.chunk_damage.specs.Header.{row_at}
use Rattle.chunk_files.proofs.Once.{apart_all}
use Rattle.chunk_store.specs.Images.{Image, contents}
use Rattle.doc_types.specs.declared.documents.DocRow.{DocRow}
use Rattle.doc_types.specs.declared.schema.Schema.{Schema}
use Rattle.doc_types.specs.Schemas.{IsSchema}
use Rattle.doc_types.specs.Snapshots.{all_living}
use Rattle.doc_bytes.specs.SchemaText.{schema_text}
use Rattle.gate_log.specs.Logs.{AreConsecutive, last_number, spelled}
use Rattle.gate_log.specs.Reading.{Begins, behind}
use Rattle.gate_log.specs.declared.reading.Before.{Before}
use Rattle.gate_log.specs.declared.reading.Before.TheVariants.{Chunks, Record}
use Rattle.image_rows.proofs.Undamaged.{are_all_bytes}
use Rattle.root_slots.specs.Slots.{Slot}
use Rattle.root_slots.specs.declared.state.RootState.{RootState}
use Rattle.store_steps.specs.Batches.{AreFrom, Batch, IsBatchOf, record_of}
use Rattle.store_steps.specs.Damage.{AreChunks, IsBadLog, IsBadNewer, IsBadOlder, IsDamaged, IsLastGate, IsRootIn}
use Rattle.store_steps.specs.Directory.{Directory, Holds, HoldsFiles, IsOlderLog, layers_from, logged}
use Rattle.store_steps.specs.declared.damage.Damage.{Damage}
use Rattle.store_steps.specs.declared.damage.DamageKind.{DamageKind}
use Rattle.store_steps.specs.declared.damage.DamageKind.TheVariants as kinds
use Rattle.store_steps.proofs.Opening.{reached}
use Rattle.store_laws.specs.Outcomes.{HaveBytes}
use Rattle.store_laws.proofs.OneRoot.{root_in}
use Rattle.store_laws.proofs.SomeChunks.{option_is, some_again, some_chunks}
use Rattle.store_laws.proofs.SomeLog.{IsFine, some_log}
use Rattle.store_laws.proofs.SomeRoot.{some_root}

-- batches that end below a number are all below it
all_under : (t n : ℕ) (bs : List Batch) → AreFrom n bs → n + length bs ≤ t → All (λ b. b.number < t) bs
all_under t n [] from le = All-nil (λ (b : Batch). b.number < t)
all_under t n (b ∷ bs) from le = All-cons (λ (b : Batch). b.number < t) b bs (omega (arith, from.0, le)) (all_under t (n + 1) bs from.1 (omega (arith, le)))

some_logged : (bs : List Batch) (first through : ℕ) → (length bs ≡ 0 → first ≡ through + 1) → first + length bs ≤ through → 0 < length bs
some_logged [] first through none le = absurd (let is = none refl in omega (arith, is, le))
some_logged (b ∷ bs) first through none le = omega arith

-- ---- the numbers of two logs

from_of : (n : ℕ) (b : Batch) (bs : List Batch) → b.number ≡ n → AreConsecutive (map record_of (b ∷ bs)) → AreFrom n (b ∷ bs)
from_of n b [] is are = (is, tt)
from_of n b (c ∷ bs) is are = (is, from_of (n + 1) c bs (omega (arith, are.0, is)) are.1)

last_of : (b : Batch) (bs : List Batch) → AreConsecutive (map record_of (b ∷ bs)) → last_number (map record_of (b ∷ bs)) ≡ Some (b.number + length bs)
last_of b [] are = ap Some (omega arith)
last_of b (c ∷ bs) are = last_of c bs are.1 ∙ ap Some (omega (arith, are.0))

from_append : (n : ℕ) (xs ys : List Batch) → AreFrom n xs → AreFrom (n + length xs) ys → AreFrom n (xs ++ ys)
from_append n [] ys first second = subst (λ (m : ℕ). AreFrom m ys) (omega arith) second
from_append n (x ∷ xs) ys first second = (first.0, from_append (n + 1) xs ys first.1 (subst (λ (m : ℕ). AreFrom m ys) (omega arith) second))

-- The batches of both are numbered from here.
record AreNumbered (through : ℕ) (batches : List Batch) : Type 0 where
  first : ℕ
  low : first ≤ through + 1
  from : AreFrom first batches
  none : length batches ≡ 0 → first ≡ through + 1

numbered : (through : ℕ) (older newer : List Batch) → AreConsecutive (map record_of older) → AreConsecutive (map record_of newer) → Begins (Chunks through) (map record_of older) → Begins (behind (Chunks through) (last_number (map record_of older))) (map record_of newer) → AreNumbered through (older ++ newer)
numbered through [] [] first second begins goes_on = record { first = through + 1; low = omega arith; from = tt; none = λ _. refl }
numbered through [] (b ∷ newer) first second begins goes_on = record { first = b.number; low = goes_on; from = from_of b.number b newer refl second; none = λ is. absurd (omega (arith, is)) }
numbered through (a ∷ older) newer first second begins goes_on = record {
  first = a.number;
  low = begins;
  from = from_append a.number (a ∷ older) newer (from_of a.number a older refl first)
      (behind_all newer second (subst (λ (o : Option ℕ). Begins (behind (Chunks through) o) (map record_of newer)) (last_of a older first) goes_on));
  none = λ is. absurd (omega (arith, is));
}
  where
    behind_all : (newer : List Batch) → AreConsecutive (map record_of newer) → Begins (Record (a.number + length older)) (map record_of newer) → AreFrom (a.number + length (a ∷ older)) newer
    behind_all [] are goes_on = tt
    behind_all (b ∷ newer) are goes_on = from_of (a.number + length (a ∷ older)) b newer (omega (arith, goes_on)) are

-- the gate behind the last record of two logs
last_gate : (state : RootState) (older newer : List Batch) → (file : ℕ) × (place : ℕ) × IsLastGate state older newer file place
last_gate state older [] = (state.older, length (spelled (map record_of older)), (refl, refl))
last_gate state older (b ∷ newer) = (state.newer, length (spelled (map record_of (b ∷ newer))), (refl, refl))

module _ (schema : Schema) (limits : IsSchema schema) (x : Image) (have : HaveBytes x) (never : (damage : Damage) → IsDamaged schema x damage → ⊥) where
  -- ---- one log

  some_of : (before : Before) (file : ℕ) → ((kind : DamageKind) (place : ℕ) → IsBadLog schema before kind place (x file) → ⊥) → ((batches : List Batch) → IsFine schema before (contents (x file)) batches → ⊥) → ⊥
  some_of before file bad good = elim (option_is (x file)) [
    | inl none ↦ bad kinds.LogMissing 0 (subst (IsBadLog schema before kinds.LogMissing 0) (sym none) (refl, refl))
    | inr there ↦
        some_log schema before there.0 (are_all_bytes there.0 (subst (λ (f : Option (List ℕ)). All (λ byte. byte < 256) (contents f)) there.1 (have file)))
        (λ kind place wrong. bad kind place (subst (IsBadLog schema before kind place) (sym there.1) wrong))
        (λ batches fine. good batches (subst (λ (f : Option (List ℕ)). IsFine schema before (contents f) batches) (sym there.1) fine))
  ]

  -- The older log was read, where there is one.
  record IsOlderFine (through file : ℕ) (batches : List Batch) : Type 0 where
    of : All (IsBatchOf schema) batches
    begins : Begins (Chunks through) (map record_of batches)
    numbers : AreConsecutive (map record_of batches)
    log : IsOlderLog x file batches

  some_older : (through file : ℕ) → ((kind : DamageKind) (place : ℕ) → file ≢ 0 → IsBadLog schema (Chunks through) kind place (x file) → ⊥) → ((batches : List Batch) → IsOlderFine through file batches → ⊥) → ⊥
  some_older through zero bad good = good [] (record { of = All-nil (IsBatchOf schema); begins = tt; numbers = tt; log = refl })
  some_older through (suc file) bad good =
      some_of (Chunks through) (suc file) (λ kind place wrong. bad kind place (λ is. absurd (omega (arith, is))) wrong)
      (λ batches fine. good batches (record { of = fine.of; begins = fine.begins; numbers = fine.log.records_are.numbers; log = fine.log }))

  -- ---- a root that can be taken, and its chunks

  module _ (never_held : (found : Option Directory) → Holds schema found x → ⊥) (file : ℕ) (root : Slot) (stands : IsRootIn file root x) (good : root.state.schema_text ≡ schema_text schema) where
    module _ (chunks : List (List DocRow)) (are : AreChunks schema root.state x chunks) (once : AllPairs (λ row other. row.doc.id ≢ other.doc.id) (all_living (layers_from root.state.chunks chunks))) where
      bad_logs : (damage : Damage) → IsBadOlder schema root.state x damage ⊎ IsBadNewer schema root.state x damage → ⊥
      bad_logs damage bad = never damage (inr (inr (inr (inl (record { file = file; root = root; stands = stands; good = good; chunks = chunks; are = are; once = once; bad = bad })))))

      both_fine : (older newer : List Batch) → IsOlderFine root.state.through root.state.older older → IsFine schema (behind (Chunks root.state.through) (last_number (map record_of older))) (contents (x root.state.newer)) newer → ⊥
      both_fine older newer first second =
          let through = root.state.through in
          let dir : Directory = record { state = root.state; chunks = chunks; older = older; newer = newer } in
          let numbers = numbered through older newer first.numbers second.log.records_are.numbers first.begins second.begins in
          let holds : HoldsFiles schema dir x = record {
            number = root.number;
            files = record { root = root_in file root x stands; chunks = are.files; older = first.log };
            newer = second.log;
            in_order = record { text = good; chunks = are.rows; once = once; numbers = (numbers.first, numbers.low, numbers.from); batches = All-append (IsBatchOf schema) older newer first.of second.of };
          } in
          elim (cases_lt through (numbers.first + length (logged dir))) [
            | inl reach ↦ never_held (Some dir) (holds, reached dir numbers.first numbers.low numbers.from reach)
            | inr low ↦
                let gate = last_gate root.state older newer in
                never (record { file = gate.0; place = gate.1; kind = kinds.RecordNumber }) (inr (inr (inr (inr (record {
                  dir = dir;
                  holds = holds;
                  some = some_logged (logged dir) numbers.first through numbers.none low;
                  early = all_under through numbers.first (logged dir) numbers.from low;
                  kind = refl;
                  gate = gate.2;
                })))))
          ]

      some_logs : ⊥
      some_logs =
          some_older root.state.through root.state.older
          (λ kind place there wrong. bad_logs (record { file = root.state.older; place = place; kind = kind }) (inl (there, refl, wrong)))
          (λ older first.
          some_of (behind (Chunks root.state.through) (last_number (map record_of older))) root.state.newer
          (λ kind place wrong. bad_logs (record { file = root.state.newer; place = place; kind = kind }) (inr (record { older = older; is_older = first.log; begins = first.begins; of = first.of; file = refl; bad = wrong })))
          (λ newer second. both_fine older newer first second))

    some_taken : ⊥
    some_taken =
        some_chunks schema limits root.state.through x root.state.chunks have
        (λ damage bad. never damage (inr (inr (inl (record { file = file; root = root; stands = stands; good = good; bad = inl bad })))))
        (λ chunks files rows. elim (some_again [] root.state.chunks chunks) [
          | inl twice ↦ never (record { file = twice.0; place = row_at schema twice.1; kind = kinds.IdTwice }) (inr (inr (inl (record {
            file = file;
            root = root;
            stands = stands;
            good = good;
            bad = inr (record { chunks = chunks; are = record { files = files; rows = rows }; row = twice.1; again = twice.2; kind = refl; place = refl });
          }))))
          | inr none ↦ some_logs chunks (record { files = files; rows = rows }) (apart_all schema root.state.through [] root.state.chunks chunks rows (λ i j d l h. absurd (omega (arith, h))) none)
        ])

  -- Files that have no damage are those of a directory.
  pub some_directory : ((found : Option Directory) → Holds schema found x → ⊥) → ⊥
  some_directory never_held =
      some_root x have (λ damage bad. never damage (inl bad)) (never_held None)
      (λ file root stands. never (record { file = file; place = 13; kind = kinds.RootSchema }) (inr (inl (record { root = root; stands = stands; bad = ((λ good. some_taken never_held file root stands good), refl) }))))
