-- The chunks of a root that were read.
use Rattle.std.proofs.Common.{◌≡◌, ◌≢◌, inl, inr, ℕ, zero, suc, ◌+◌, ◌≤◌, ◌<◌, ◌^◌, List, [], ◌∷◌, ◌++◌, Option, Some, Err, AllPairs, length, get_or, take, refl, sym, ◌∙◌, ap, subst, arith, All}
use Rattle.chunk_files.specs.Reads as chunks
use Rattle.chunk_files.proofs.Rooted.{are_layers, ascend_all}
use Rattle.chunk_store.specs.Images.{Image}
use Rattle.chunk_store.specs.Calls.{OnlyReads}
use Rattle.chunk_store.specs.declared.disk.Disk.{Ghosts as DiskWords}
use Rattle.doc_types.specs.declared.schema.Schema.{Schema}
use Rattle.doc_types.specs.Schemas.{IsSchema}
use Rattle.doc_types.specs.Snapshots.{AreLayers, IsLayer, LayerValue, all_living}
use Rattle.root_slots.specs.Roots.{own_slot}
use Rattle.root_slots.specs.States.{IsState}
use Rattle.root_slots.specs.declared.root.Root.{Root}
use Rattle.root_slots.specs.declared.state.RootState.{RootState}
use Rattle.store_steps.specs.Damage.{IsGoodState}
use Rattle.store_reads.specs.Reads.{SaysDamage}
use Rattle.store_reads.specs.declared.fault.StoreFault.{StoreFault}
use Rattle.store_reads.specs.declared.fault.StoreFault.TheVariants as faults
use Rattle.store_reads.specs.steps.Bases.{IsBaseRead, ReadsBase}
use Rattle.store_reads.specs.steps.LogFiles.{ReadsLogs}
use Rattle.store_reads.proofs.RootFound.{IsOpen, root_in}

-- ---- the chunks

pub base_read : (schema : Schema) (state : RootState) (told : Option Image) (layers : List LayerValue) → IsSchema schema → IsState state → chunks.AreRead schema state told layers → IsBaseRead schema state told layers
base_read schema state told layers limits is read = record {
  read = read;
  sound = subst (All IsLayer) (sym read.are) (are_layers schema state.through state.chunks read.chunks limits (ascend_all state.next_file (state.older ∷ state.newer ∷ []) state.chunks is.chunks) read.rows);
}

-- calls that look leave it so
pub base_then : {D : Type 0} (words : DiskWords D) (schema : Schema) (state : RootState) (mid new : D) (layers : List LayerValue) → OnlyReads words mid new → IsBaseRead schema state (words.told mid) layers → IsBaseRead schema state (words.told new) layers
base_then words schema state mid new layers looks base = record {
  read = record { chunks = base.read.chunks; are = base.read.are; rows = base.read.rows; files = λ image is. base.read.files image (sym looks.same ∙ is); once = base.read.once };
  sound = base.sound;
}

-- they are layers of a snapshot, where they aren't too many
pub base_sound : (schema : Schema) (state : RootState) (told : Option Image) (layers : List LayerValue) → IsBaseRead schema state told layers → length layers < 2 ^ 16 → length (all_living layers) < 2 ^ 32 → AreLayers layers
base_sound schema state told layers base few many = record {
  each = base.sound;
  distinct = subst (λ (ls : List LayerValue). AllPairs (λ row other. row.doc.id ≢ other.doc.id) (all_living ls)) (sym base.read.are) base.read.once;
  few_layers = few;
  few_rows = many;
}

-- ---- damage

-- what is said of chunks that can't be read
pub says_base : (schema : Schema) (root : Root) (state : RootState) (told : Option Image) (fault : StoreFault) → IsOpen told root state → IsGoodState schema state → ReadsBase schema state told (Err fault) → SaysDamage schema told fault
says_base schema root state told faults.NoMemory read good bad = tt
says_base schema root state told faults.DiskFault read good bad = tt
says_base schema root state told (faults.Damaged damage) read good bad = λ image is.
    inr (inr (inl (record {
      file = own_slot root.holder;
      root = record { number = root.number; state = state };
      stands = root_in root (record { number = root.number; state = state }) image (read image is).stands;
      good = good;
      bad = bad image is;
    })))

-- what is said of logs that can't be read
pub says_logs : (schema : Schema) (layers : List LayerValue) (root : Root) (state : RootState) (told : Option Image) (fault : StoreFault) → IsOpen told root state → IsGoodState schema state → IsBaseRead schema state told layers → ReadsLogs schema layers state told (Err fault) → SaysDamage schema told fault
says_logs schema layers root state told faults.NoMemory read good base bad = tt
says_logs schema layers root state told faults.DiskFault read good base bad = tt
says_logs schema layers root state told (faults.Damaged damage) read good base bad = λ image is.
    inr (inr (inr (inl (record {
      file = own_slot root.holder;
      root = record { number = root.number; state = state };
      stands = root_in root (record { number = root.number; state = state }) image (read image is).stands;
      good = good;
      chunks = base.read.chunks;
      are = record { files = base.read.files image is; rows = base.read.rows };
      once = base.read.once;
      bad = bad image is;
    }))))
