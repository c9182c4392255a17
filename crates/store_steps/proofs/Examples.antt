-- The example of a small index.
use Rattle.std.proofs.Common.{◌≡◌, inl, inr, ℕ, ◌+◌, ◌<◌, ◌^◌, List, [], ◌∷◌, ◌++◌, map, take, Some, None, refl, ◌∙◌, ap, arith, length, length-append}
use Rattle.std.specs.Int.{w32, w64, to_le_bytes, from_le_bytes}
use Rattle.std.specs.FinMap as finite
use Rattle.std.proofs.lemmas.Nat.{from_le_bytes-to_le_bytes_4}
use Rattle.std.proofs.lemmas.List.Elements.{All-nil}
use Rattle.doc_types.specs.declared.schema.Schema.{Schema}
use Rattle.chunk_image.specs.Example.{example_schema}
use Rattle.chunk_store.specs.Images.{Image}
use Rattle.gate_log.specs.Frames.{frame}
use Rattle.gate_log.specs.Logs.{Fits, spelled}
use Rattle.gate_log.specs.declared.records.LogRecord.{LogRecord}
use Rattle.root_slots.specs.Slots.{IsClosed, IsOpen, tail}
use Rattle.root_slots.specs.States.{IsState}
use Rattle.store_steps.specs.Batches.{IsBatchOf, record_of}
use Rattle.store_steps.specs.Damage.{IsBadBehind, IsDamaged}
use Rattle.store_steps.specs.Directory.{StandsFor}
use Rattle.store_steps.specs.Example.{behind_length, damaged_log, example_batch, example_log, example_root, example_slot, example_state, files_of}
use Rattle.store_steps.specs.declared.damage.DamageKind.TheVariants.{RecordLength}
use Rattle.gate_log.specs.declared.reading.Before.TheVariants.{Chunks}

pub log_bytes : spelled (map record_of (example_batch ∷ [])) ++ 0 ∷ [] ≡ example_log
log_bytes = refl

pub root_bytes : 1 ∷ tail example_slot ≡ example_root
root_bytes = refl

pub nothing : (schema : Schema) (x : Image) → IsClosed (x 0) → IsClosed (x 1) → StandsFor schema x finite.empty 0
nothing schema x zeroth first = record { found = None; holds = (zeroth, first); rows_are = refl; number_is = refl }

keeps_layout : IsState example_state
keeps_layout = record {
  text = omega arith;
  through = omega arith;
  next_file = omega arith;
  older = inl refl;
  newer = record { no_slot = omega arith; made = omega arith; apart = refl };
  few = omega arith;
  chunks = tt;
  fits = omega arith;
}

root_is_open : IsOpen example_slot (Some example_root)
root_is_open = record { slot = record { number = omega arith; state = keeps_layout }; rest = []; is = refl }

-- no record of 255 bytes stands behind this gate
no_record : (r : LogRecord) (after : List ℕ) → length r.payload < 2 ^ 32 → 0 < length after → 255 ∷ 0 ∷ 0 ∷ 0 ∷ behind_length ≡ frame r ++ after → ⊥
no_record r after short some is =
    let front : take 4 (frame r ++ after) ≡ to_le_bytes w32 (length r.payload) = refl in
    let size : 255 ≡ length r.payload = ap (λ (l : List ℕ). from_le_bytes w32 (take 4 l)) is ∙ ap (from_le_bytes w32) front ∙ from_le_bytes-to_le_bytes_4 (length r.payload) short in
    let all : length (frame r ++ after) ≡ 12 + length r.payload + length after =
    omega (arith, length-append (frame r) after, length-append (to_le_bytes w32 (length r.payload) ++ to_le_bytes w64 r.number) r.payload) in
    omega (arith, ap length is, all, size, some)

wrong_length : IsBadBehind example_schema (Chunks 0) RecordLength 0 [] damaged_log
wrong_length = record {
  records_are = record { fit = All-nil Fits; numbers = tt };
  begins = tt;
  of = All-nil (IsBatchOf example_schema);
  rest = damaged_log;
  is = refl;
  gated = λ some. absurd (omega (arith, some));
  place_is = refl;
  wrong = inr (255 ∷ 0 ∷ 0 ∷ 0 ∷ behind_length, refl, no_record);
}

pub damaged : IsDamaged example_schema (files_of example_root damaged_log) (record { file = 2; place = 0; kind = RecordLength })
damaged = inr (inr (inr (inl (record {
  file = 0;
  root = example_slot;
  stands = (root_is_open, inl (inl (omega arith)));
  good = refl;
  chunks = [];
  are = record { files = tt; rows = tt };
  once = λ i j d l h. absurd (omega (arith, h));
  bad = inr (record { older = []; is_older = refl; begins = tt; of = All-nil (IsBatchOf example_schema); file = refl; bad = ([], wrong_length) });
}))))
