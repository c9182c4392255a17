-- Chunks are good, or they are wrong: never neither.
use Rattle.std.proofs.Common.{◌≡◌, ◌⊎◌, inl, inr, ℕ, ◌<◌, List, [], ◌∷◌, ◌++◌, Option, Some, None, refl, sym, subst, All}
use Rattle.std.specs.Prelude.{nat_lt}
use Rattle.std.specs.List.{AllZip, position}
use Rattle.chunk_damage.specs.Header.{row_at}
use Rattle.chunk_store.specs.Images.{Image, contents}
use Rattle.damage_laws.proofs.SomeDamage.{some_damage}
use Rattle.doc_types.specs.declared.documents.DocRow.{DocRow}
use Rattle.doc_types.specs.declared.schema.Schema.{Schema}
use Rattle.doc_types.specs.Schemas.{IsSchema}
use Rattle.doc_types.specs.Snapshots.{LayerValue}
use Rattle.image_rows.proofs.Undamaged.{are_all_bytes, undamaged}
use Rattle.root_slots.specs.declared.state.ChunkEntry.{ChunkEntry}
use Rattle.chunk_files.specs.steps.Rests.{NoneAgain}
use Rattle.chunk_files.proofs.Scanned.{none_newer}
use Rattle.store_steps.specs.Damage.{AreBadBytes, AreBadChunks, AreBytesOf, IsAgain, IsBadFile, again_in}
use Rattle.store_steps.specs.Directory.{IsChunkFile, IsChunkOf, layer_from}
use Rattle.store_steps.specs.declared.damage.Damage.{Damage}
use Rattle.store_steps.specs.declared.damage.DamageKind.{DamageKind}
use Rattle.store_steps.specs.declared.damage.DamageKind.TheVariants as kinds
use Rattle.store_laws.specs.Outcomes.{HaveBytes}

pub option_is : {X : Type 0} (o : Option X) → (o ≡ None) ⊎ ((value : X) × (o ≡ Some value))
option_is None = inl refl
option_is (Some value) = inr (value, refl)

module _ (schema : Schema) (limits : IsSchema schema) (through : ℕ) where
  -- the rows of an image, by the root's entry
  some_rows : (entry : ChunkEntry) (bytes : List ℕ) (rows : List DocRow) → AreBytesOf schema entry rows bytes → ((kind : DamageKind) (place : ℕ) → AreBadBytes schema through entry kind place bytes → ⊥) → (IsChunkOf schema through entry rows → ⊥) → ⊥
  some_rows entry bytes rows are bad good =
      bad kinds.DeadRows 0 (
        rows,
        are,
        (λ dead. elim (option_is (position (λ (row : DocRow). nat_lt through row.born) rows)) [
          | inl none ↦ good (record { of = are.of; small = are.small; zones = are.zones; dead = dead; born = none_newer through rows none })
          | inr newer ↦ bad kinds.Born (row_at schema newer.0) (rows, are, dead, (newer.0, newer.1, refl))
        ]),
        refl,
      )

  some_bytes : (entry : ChunkEntry) (bytes : List ℕ) → All (λ byte. byte < 256) bytes → ((kind : DamageKind) (place : ℕ) → AreBadBytes schema through entry kind place bytes → ⊥) → ((rows : List DocRow) → AreBytesOf schema entry rows bytes → IsChunkOf schema through entry rows → ⊥) → ⊥
  some_bytes entry bytes all bad good =
      bad kinds.ChunkLength 0 (
        (λ size. some_damage schema bytes
            (λ whole.
            let image = undamaged schema bytes (are_all_bytes bytes all) limits whole in
            let are : AreBytesOf schema entry image.rows bytes = record { size = size; image = image.are; of = image.of; small = image.small; zones = image.zones } in
            some_rows entry bytes image.rows are bad (good image.rows are))
            (λ wrong is. bad (kinds.Image wrong.kind) wrong.place (size, is))),
        refl,
      )

  some_file : (x : Image) (entry : ChunkEntry) → HaveBytes x → ((kind : DamageKind) (place : ℕ) → IsBadFile schema through entry kind place (x entry.file) → ⊥) → ((rows : List DocRow) → IsChunkFile schema x entry rows → IsChunkOf schema through entry rows → ⊥) → ⊥
  some_file x entry have bad good = elim (option_is (x entry.file)) [
    | inl none ↦ bad kinds.ChunkMissing 0 (subst (IsBadFile schema through entry kinds.ChunkMissing 0) (sym none) (refl, refl))
    | inr there ↦
        some_bytes entry there.0 (subst (λ (f : Option (List ℕ)). All (λ byte. byte < 256) (contents f)) there.1 (have entry.file))
        (λ kind place wrong. bad kind place (subst (IsBadFile schema through entry kind place) (sym there.1) wrong))
        (λ rows are of. good rows (record { bytes = there.0; is = there.1; size = are.size; image = are.image }) of)
  ]

  pub some_chunks : (x : Image) (entries : List ChunkEntry) → HaveBytes x → ((damage : Damage) → AreBadChunks schema through x damage entries → ⊥) → ((chunks : List (List DocRow)) → AllZip (IsChunkFile schema x) entries chunks → AllZip (IsChunkOf schema through) entries chunks → ⊥) → ⊥
  some_chunks x [] have bad good = good [] tt tt
  some_chunks x (entry ∷ entries) have bad good =
      some_file x entry have
      (λ kind place wrong. bad (record { file = entry.file; place = place; kind = kind }) (inl (refl, wrong)))
      (λ rows file of. some_chunks x entries have (λ damage wrong. bad damage (inr (rows, file, of, wrong))) (λ chunks files are. good (rows ∷ chunks) (file, files) (of, are)))

-- an id lives again, or none does
pub some_again : (before : List LayerValue) (entries : List ChunkEntry) (chunks : List (List DocRow)) → ((file : ℕ) × (row : ℕ) × IsAgain before entries chunks file row) ⊎ NoneAgain before entries chunks
some_again before [] chunks = inr tt
some_again before (entry ∷ entries) [] = inr tt
some_again before (entry ∷ entries) (rows ∷ chunks) = elim (option_is (again_in before (layer_from entry rows))) [
  | inr found ↦ inl (entry.file, found.0, inl (found.1, refl))
  | inl none ↦ elim (some_again (before ++ layer_from entry rows ∷ []) entries chunks) [
    | inl later ↦ inl (later.0, later.1, inr (none, later.2))
    | inr nothing ↦ inr (none, nothing)
  ]
]
