-- Chunks that are read two at a time.
use Rattle.std.proofs.Common.{◌≡◌, inl, inr, ℕ, zero, suc, ◌<◌, ◌≤◌, length, get_or, slice_get, take, arith, List, [], ◌∷◌, ◌++◌, Option, Some, Ok, Err, refl, sym, ◌∙◌, ap, subst, AllPairs, append_assoc}
use Rattle.std.specs.List.{AllZip}
use Rattle.std.proofs.lemmas.List.Elements.{All-cons}
use Rattle.srch_base.specs.declared.faults.Or.{Or}
use Rattle.srch_base.specs.declared.faults.Or.TheVariants as causes
use Rattle.chunk_store.specs.Images.{Image, Told}
use Rattle.doc_types.specs.declared.documents.DocRow.{DocRow}
use Rattle.doc_types.specs.declared.schema.Schema.{Schema}
use Rattle.doc_types.specs.Snapshots.{LayerValue}
use Rattle.root_slots.specs.declared.state.ChunkEntry.{ChunkEntry}
use Rattle.store_steps.specs.Damage.{AreBadChunks}
use Rattle.store_steps.specs.Directory.{IsChunkFile, IsChunkOf, layer_from, layers_from}
use Rattle.store_steps.specs.declared.damage.Damage.{Damage}
use Rattle.chunk_files.specs.declared.fault.ChunkFault.{ChunkFault}
use Rattle.chunk_files.specs.declared.fault.ChunkFault.TheVariants as faults
use Rattle.chunk_files.specs.steps.Files.{ReadsFile}
use Rattle.chunk_files.specs.steps.Pairs.{IsCause, IsFirstFault, ReadsBoth, chunk_fault}
use Rattle.chunk_files.specs.steps.Rests.{AreFront, AscendAll, Refuses, ReadsOne}
use Rattle.chunk_files.proofs.Resting.{bad-behind, one_bad, one_read}

-- ---- one chunk

pub one_front : (schema : Schema) (through : ℕ) (entry : ChunkEntry) (told : Option Image) (layer : LayerValue) → ReadsOne schema through entry told (Ok layer) → AreFront schema through (entry ∷ []) told (layer ∷ [])
one_front schema through entry told layer one = record {
  chunks = one.0 ∷ [];
  are = ap (λ (l : LayerValue). l ∷ []) one.1;
  rows = (one.2, tt);
  files = λ image is. (one.3 image is, tt);
}

pub one_refused : (schema : Schema) (through : ℕ) (entry : ChunkEntry) (told : Option Image) (fault : Or ChunkFault) → ReadsOne schema through entry told (Err fault) → Refuses schema through (entry ∷ []) told fault
one_refused schema through entry told causes.NoMemory one = tt
one_refused schema through entry told (causes.Fault faults.Failed) one = tt
one_refused schema through entry told (causes.Fault (faults.Damaged damage)) one = λ image is. inl (one.0, one.1 image is)

-- what is found of a file and refused
pub file_refused : (schema : Schema) (through : ℕ) (entry : ChunkEntry) (told : Option Image) (file : Option (List ℕ)) (fault : Or Damage) → Told (λ image. image entry.file ≡ file) told → ReadsFile schema through entry file (Err fault) → ReadsOne schema through entry told (Err (chunk_fault fault))
file_refused schema through entry told file causes.NoMemory found is = tt
file_refused schema through entry told file (causes.Fault damage) found is = one_bad schema through entry told file damage found is

-- a fault that isn't damage
cause_refused : (schema : Schema) (through : ℕ) (entries : List ChunkEntry) (told : Option Image) (fault : Or ChunkFault) → IsCause {T = Unit {0}} (Err fault) → Refuses schema through entries told fault
cause_refused schema through entries told causes.NoMemory is = tt
cause_refused schema through entries told (causes.Fault faults.Failed) is = tt
cause_refused schema through entries told (causes.Fault (faults.Damaged damage)) is = absurd is

-- ---- two chunks

module _ (schema : Schema) (through : ℕ) (first second : ChunkEntry) (told : Option Image) where
  pub two_front : (file other : Option (List ℕ)) (one two : LayerValue) → Told (λ image. image first.file ≡ file) told → Told (λ image. image second.file ≡ other) told → ReadsFile schema through first file (Ok one) → ReadsFile schema through second other (Ok two)
      → AreFront schema through (first ∷ second ∷ []) told (one ∷ two ∷ [])
  two_front file other one two found its read also =
      let a = one_read schema through first told file one found read in
      let b = one_read schema through second told other two its also in
      record {
        chunks = a.0 ∷ b.0 ∷ [];
        are = (λ i. a.1 i ∷ b.1 i ∷ []);
        rows = (a.2, (b.2, tt));
        files = λ image is. (a.3 image is, (b.3 image is, tt));
      }

  -- the first one is refused
  first_refused : (file : Option (List ℕ)) (fault : Or Damage) → Told (λ image. image first.file ≡ file) told → ReadsFile schema through first file (Err fault) → Refuses schema through (first ∷ second ∷ []) told (chunk_fault fault)
  first_refused file causes.NoMemory found is = tt
  first_refused file (causes.Fault damage) found is =
      let bad = one_bad schema through first told file damage found is in
      λ image at. inl (bad.0, bad.1 image at)

  second_refused : (file other : Option (List ℕ)) (one : LayerValue) (fault : Or Damage) → Told (λ image. image first.file ≡ file) told → Told (λ image. image second.file ≡ other) told → ReadsFile schema through first file (Ok one) → ReadsFile schema through second other (Err fault)
      → Refuses schema through (first ∷ second ∷ []) told (chunk_fault fault)
  second_refused file other one causes.NoMemory found its read is = tt
  second_refused file other one (causes.Fault damage) found its read is =
      let a = one_read schema through first told file one found read in
      let bad = one_bad schema through second told other damage its is in
      λ image at. inr (a.0, a.3 image at, a.2, inl (bad.0, bad.1 image at))

  pub two_refused : (file other : Option (List ℕ)) (fault : Or Damage) → Told (λ image. image first.file ≡ file) told → Told (λ image. image second.file ≡ other) told → ReadsBoth schema through first second file other (Err fault) → Refuses schema through (first ∷ second ∷ []) told (chunk_fault fault)
  two_refused file other fault found its both = elim both [
    | inl is ↦ first_refused file fault found is
    | inr is ↦ second_refused file other is.0 fault found its is.1 is.2
  ]

  -- the second one wasn't found
  pub first_told : (file : Option (List ℕ)) (fault result : Or ChunkFault) → Told (λ image. image first.file ≡ file) told → IsCause {T = Unit {0}} (Err fault) → IsFirstFault schema through first file fault result → Refuses schema through (first ∷ second ∷ []) told result
  first_told file fault result found cause is = elim is [
    | inl same ↦ subst (λ (f : Or ChunkFault). Refuses schema through (first ∷ second ∷ []) told f) (sym same) (cause_refused schema through (first ∷ second ∷ []) told fault cause)
    | inr sooner ↦ subst (λ (f : Or ChunkFault). Refuses schema through (first ∷ second ∷ []) told f) (sym sooner.2) (first_refused file sooner.0 found sooner.1)
  ]

pub same_told : (entry : ChunkEntry) (file : Option (List ℕ)) (old new : Option Image) → new ≡ old → Told (λ image. image entry.file ≡ file) old → Told (λ image. image entry.file ≡ file) new
same_told entry file old new same found = λ image is. found image (sym same ∙ is)

-- ---- one entry or two

pub one_entry : (pair : List ChunkEntry) (first : ChunkEntry) → 0 < length pair → length pair ≤ 1 → get_or pair 0 first ≡ first → pair ≡ first ∷ []
one_entry [] first some few is = absurd (omega (arith, some))
one_entry (a ∷ []) first some few is = ap (λ (e : ChunkEntry). e ∷ []) is
one_entry (a ∷ b ∷ pair) first some few is = absurd (omega (arith, few))

pub two_entries : (pair : List ChunkEntry) (first second : ChunkEntry) → length pair ≤ 2 → get_or pair 0 first ≡ first → slice_get pair 1 ≡ Some second → pair ≡ first ∷ second ∷ []
two_entries [] first second few is at = absurd cc
two_entries (a ∷ []) first second few is at = absurd cc
two_entries (a ∷ b ∷ []) first second few is at = let same : b ≡ second = cc in (λ i. is i ∷ same i ∷ [])
two_entries (a ∷ b ∷ c ∷ pair) first second few is at = absurd (omega (arith, few))

-- ---- pairs one behind the other

zip-append : {A B : Type 0} (R : A → B → Type 0) (xs more : List A) (ys others : List B) → AllZip R xs ys → AllZip R more others → AllZip R (xs ++ more) (ys ++ others)
zip-append R [] more [] others all its = its
zip-append R [] more (y ∷ ys) others all its = absurd all
zip-append R (x ∷ xs) more [] others all its = absurd all
zip-append R (x ∷ xs) more (y ∷ ys) others all its = (all.0, zip-append R xs more ys others all.1 its)

layers-append : (R : ChunkEntry → List DocRow → Type 0) (entries more : List ChunkEntry) (chunks others : List (List DocRow)) → AllZip R entries chunks → layers_from (entries ++ more) (chunks ++ others) ≡ layers_from entries chunks ++ layers_from more others
layers-append R [] more [] others all = refl
layers-append R [] more (rs ∷ chunks) others all = absurd all
layers-append R (e ∷ entries) more [] others all = absurd all
layers-append R (e ∷ entries) more (rs ∷ chunks) others all = ap (λ (ls : List LayerValue). layer_from e rs ∷ ls) (layers-append R entries more chunks others all.1)

-- what was read of the chunks before, and of the rest nothing yet
pub record IsAmid (schema : Schema) (through : ℕ) (entries rest : List ChunkEntry) (told : Option Image) (layers : List LayerValue) : Type 0 where
  pub before : List ChunkEntry
  pub are : entries ≡ before ++ rest
  pub front : AreFront schema through before told layers

pub amid_begins : (schema : Schema) (through : ℕ) (entries : List ChunkEntry) (told : Option Image) (layers : List LayerValue) → layers ≡ [] → IsAmid schema through entries entries told layers
amid_begins schema through entries told layers none = record {
  before = [];
  are = refl;
  front = record { chunks = []; are = none; rows = tt; files = λ image is. tt };
}

pub amid_more : (schema : Schema) (through : ℕ) (entries rest pair others : List ChunkEntry) (mid told : Option Image) (old new more : List LayerValue) → told ≡ mid → rest ≡ pair ++ others → IsAmid schema through entries rest mid old → new ≡ old ++ more → AreFront schema through pair told more
    → IsAmid schema through entries others told new
amid_more schema through entries rest pair others mid told old new more same cut amid are two =
    let front = amid.front in
    record {
      before = amid.before ++ pair;
      are = amid.are ∙ ap (λ (es : List ChunkEntry). amid.before ++ es) cut ∙ sym (append_assoc amid.before pair others);
      front = record {
        chunks = front.chunks ++ two.chunks;
        are = are ∙ (λ i. front.are i ++ two.are i) ∙ sym (layers-append (IsChunkOf schema through) amid.before pair front.chunks two.chunks front.rows);
        rows = zip-append (IsChunkOf schema through) amid.before pair front.chunks two.chunks front.rows two.rows;
        files = λ image is. zip-append (IsChunkFile schema image) amid.before pair front.chunks two.chunks (front.files image (sym same ∙ is)) (two.files image is);
      };
    }

pub amid_ends : (schema : Schema) (through : ℕ) (entries rest : List ChunkEntry) (told : Option Image) (layers : List LayerValue) → rest ≡ [] → IsAmid schema through entries rest told layers → AreFront schema through entries told layers
amid_ends schema through entries rest told layers none amid =
    subst (λ (es : List ChunkEntry). AreFront schema through es told layers) (sym (amid.are ∙ ap (λ (es : List ChunkEntry). amid.before ++ es) none ∙ nothing-behind amid.before)) amid.front
  where
    nothing-behind : (es : List ChunkEntry) → es ++ [] ≡ es
    nothing-behind [] = refl
    nothing-behind (e ∷ es) = ap (λ (l : List ChunkEntry). e ∷ l) (nothing-behind es)

bad_within : (schema : Schema) (through : ℕ) (x : Image) (damage : Damage) (pair others : List ChunkEntry) → AreBadChunks schema through x damage pair → AreBadChunks schema through x damage (pair ++ others)
bad_within schema through x damage [] others bad = absurd bad
bad_within schema through x damage (entry ∷ pair) others bad = elim bad [
  | inl here ↦ inl here
  | inr later ↦ inr (later.0, later.1, later.2, bad_within schema through x damage pair others later.3)
]

-- of two more, one isn't read
pub amid_stops : (schema : Schema) (through : ℕ) (entries rest pair others : List ChunkEntry) (mid told : Option Image) (old : List LayerValue) (fault : Or ChunkFault) → told ≡ mid → rest ≡ pair ++ others → IsAmid schema through entries rest mid old → Refuses schema through pair told fault
    → Refuses schema through entries told fault
amid_stops schema through entries rest pair others mid told old causes.NoMemory same cut amid wrong = tt
amid_stops schema through entries rest pair others mid told old (causes.Fault faults.Failed) same cut amid wrong = tt
amid_stops schema through entries rest pair others mid told old (causes.Fault (faults.Damaged damage)) same cut amid wrong = λ image is.
    subst (λ (es : List ChunkEntry). AreBadChunks schema through image damage es) (sym (amid.are ∙ ap (λ (es : List ChunkEntry). amid.before ++ es) cut))
    (bad-behind schema through image damage amid.before (pair ++ others) amid.front.chunks (amid.front.files image (sym same ∙ is)) amid.front.rows (bad_within schema through image damage pair others (wrong image is)))

-- ---- what the next pair needs

pub ascend_pair : (entries before rest : List ChunkEntry) (n : ℕ) → AscendAll entries → entries ≡ before ++ rest → AscendAll (take n rest)
ascend_pair entries before rest n all are =
    front n rest (behind before rest (subst AscendAll are all))
  where
    behind : (before rest : List ChunkEntry) → AscendAll (before ++ rest) → AscendAll rest
    behind [] rest all = all
    behind (e ∷ before) rest all = behind before rest (λ k d h. all (suc k) d (omega (arith, h)))

    front : (n : ℕ) (rest : List ChunkEntry) → AscendAll rest → AscendAll (take n rest)
    front zero rest all = λ k d h. absurd (omega (arith, h))
    front (suc n) [] all = λ k d h. absurd (omega (arith, h))
    front (suc n) (e ∷ rest) all =
        All-cons (λ (entry : ChunkEntry). AllPairs (λ (row later : ℕ). row < later) entry.dead) e (take n rest) (all 0 e (omega arith)) (front n rest (λ j b low. all (suc j) b (omega (arith, low))))
