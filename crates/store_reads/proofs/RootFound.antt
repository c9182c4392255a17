-- The root that was read, and what is wrong with it.
use Rattle.std.proofs.Common.{◌≡◌, ◌≢◌, inl, inr, ℕ, ◌+◌, ◌-◌, ◌≤◌, List, Bool, true, false, Option, Some, None, Err, refl, sym, ◌∙◌, ap, subst, arith}
use Rattle.std.specs.Arc.{arc_value}
use Rattle.std.specs.FinMap as finite
use Rattle.chunk_store.specs.Images.{Image, Told}
use Rattle.doc_bytes.specs.SchemaText.{schema_text}
use Rattle.doc_types.specs.declared.schema.Schema.{Schema}
use Rattle.doc_types.specs.Snapshots.{LayerValue, SnapshotValue, live}
use Rattle.gate_log.specs.Logs.{last_number, quiet_log}
use Rattle.gate_log.specs.declared.records.LogRecord.{LogRecord}
use Rattle.root_slots.specs.Choosing.{IsBadRoot}
use Rattle.root_slots.specs.Openings.{Opens}
use Rattle.root_slots.specs.Roots.{Stand, Stands as RootStands, Stays, own_slot}
use Rattle.root_slots.specs.Slots.{IsBelow, Slot, slots_of}
use Rattle.root_slots.specs.declared.fault.RootKind.{RootKind}
use Rattle.root_slots.specs.declared.root.Holder.{Holder}
use Rattle.root_slots.specs.declared.root.Holder.TheVariants.{Neither, Zeroth, First}
use Rattle.root_slots.specs.declared.root.Root.{Root}
use Rattle.root_slots.specs.declared.state.RootState.{RootState}
use Rattle.root_slots.proofs.Standing.{held_is}
use Rattle.store_steps.specs.Damage.{IsBadRootState, IsBadSlot, IsRootIn, of_root}
use Rattle.store_steps.specs.Doubts.{sure_files}
use Rattle.store_steps.specs.declared.damage.Damage.{Damage}
use Rattle.store_steps.specs.declared.damage.DamageKind.TheVariants as kinds
use Rattle.store_reads.specs.Reads.{SaysDamage}
use Rattle.store_reads.specs.declared.fault.StoreFault.{StoreFault}
use Rattle.store_reads.specs.declared.fault.StoreFault.TheVariants as faults
use Rattle.store_reads.specs.declared.found.Found.{Found}
use Rattle.store_reads.specs.declared.logs.Logs.{Logs}
use Rattle.store_reads.specs.steps.Founds.{ChecksState, FindsEarly, IsLoadedAs}
use Rattle.store_reads.specs.steps.Loads.{IsLoaded, IsSnapshotOf, number_after}

-- the root that was read
abbrev pub IsOpen : Option Image → Root → RootState → Type 0
IsOpen told root state = Told (λ image. Opens root (Some state) (slots_of image)) told

below_of : (shut : Bool) (bound : ℕ) (file : Option (List ℕ)) → Stays shut bound None file → IsBelow bound file
below_of true bound file stays = inl (inr stays)
below_of false bound file (inl short) = inl (inl short)
below_of false bound file (inr (s, holds, older)) = elim (held_is s file holds) [
  | inl shut ↦ inl (inr shut)
  | inr was ↦ elim older [ inl lt ↦ inr (s, lt, was) | inr doubted ↦ absurd (cc doubted) ]
]

stand_in : (holder : Holder) (zs fs : Bool) (own : Slot) (x : Image) → Stand holder zs fs (Some own) None (slots_of x) → IsRootIn (own_slot holder) own x
stand_in Neither zs fs own x stand = absurd stand
stand_in Zeroth zs fs own x stand = (stand.1, below_of fs (own.number + 1) (x 1) stand.2)
stand_in First zs fs own x stand = (stand.1, below_of zs own.number (x 0) stand.2)

pub root_in : (root : Root) (own : Slot) (x : Image) → RootStands root (Some own) None (slots_of x) → IsRootIn (own_slot root.holder) own x
root_in root own x stands = stand_in root.holder root.zeroth_shut root.first_shut own x stands.slots_are

pub bad_slot : (image : Image) (damage : Damage) (slot place : ℕ) (kind : RootKind) → damage ≡ record { file = slot; place = place; kind = of_root kind } → IsBadRoot slot place kind (slots_of image) → IsBadSlot image damage
bad_slot image damage slot place kind is bad = subst (λ (d : Damage). IsBadSlot image d) (sym is) (record { kind = kind; is = refl; bad = bad })

pub bad_columns : (schema : Schema) (root : Root) (state : RootState) (own : Slot) (x : Image) (file : ℕ) → file ≡ own_slot root.holder → state.schema_text ≢ schema_text schema → own.state ≡ state → RootStands root (Some own) None (slots_of x)
    → IsBadRootState schema x (record { file = file; place = 13; kind = kinds.RootSchema })
bad_columns schema root state own x file file_is other same stands = record {
  root = own;
  stands = subst (λ (n : ℕ). IsRootIn n own x) (sym file_is) (root_in root own x stands);
  bad = (subst (λ (s : RootState). s.schema_text ≢ schema_text schema) (sym same) other, refl);
}

-- what is said of a root that can't be taken
pub says_root : (schema : Schema) (root : Root) (state : RootState) (told : Option Image) (fault : StoreFault) → IsOpen told root state → ChecksState schema root state (Err fault) → SaysDamage schema told fault
says_root schema root state told faults.NoMemory read checks = tt
says_root schema root state told faults.DiskFault read checks = tt
says_root schema root state told (faults.Damaged damage) read checks = λ image is. inr (inl (checks image (record { number = root.number; state = state }) refl (read image is).stands))

-- where the last record, if there is one, isn't before a number, the next one isn't either
late_enough : (through : ℕ) (named : Option ℕ) → ((last : ℕ) → named ≡ Some last → through ≤ last) → through ≤ number_after through named
late_enough through None late = omega arith
late_enough through (Some last) late = late last refl

pub loaded_as : (schema : Schema) (chunks : List LayerValue) (root : Root) (state : RootState) (logs : Logs) (records : List LogRecord) (found : Found) (snapshot : SnapshotValue) (number : ℕ) → IsSnapshotOf schema chunks state.through records snapshot → arc_value found.snapshot ≡ snapshot → number ≡ snapshot.number → IsLoaded schema chunks state.through records logs.loaded → FindsEarly state logs None
    → found.files ≡ sure_files root state (quiet_log state.newer logs.end.end logs.end.last) → found.records ≡ number - state.through → found.documents ≡ finite.len (live snapshot) → IsLoadedAs schema chunks root state logs records found
loaded_as schema chunks root state logs records found snapshot number is same number_is loaded late files many documents = record {
  files_are = files;
  snapshot = subst (λ (s : SnapshotValue). IsSnapshotOf schema chunks state.through records s) (sym same) is;
  reach = late_enough state.through (last_number records) (λ last named. late last (loaded.last_is ∙ named));
  records_are = many ∙ ap (λ (n : ℕ). n - state.through) (number_is ∙ ap (λ (s : SnapshotValue). s.number) (sym same));
  documents_are = documents ∙ ap (λ (s : SnapshotValue). finite.len (live s)) (sym same);
}
