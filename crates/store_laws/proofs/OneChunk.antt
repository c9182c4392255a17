-- One damage of chunks, or none.
use Rattle.std.proofs.Common.{◌≡◌, inl, inr, ℕ, zero, suc, ◌+◌, ◌≤◌, ◌<◌, ◌^◌, List, [], ◌∷◌, ◌++◌, Bool, true, false, ◌==◌, ◌&&◌, not, nat_lt, cond, Option, Some, None, length, get_or, map, refl, sym, ◌∙◌, ap, subst, arith, append_assoc, All}
use Rattle.std.specs.List.{AllZip, Contains, enumerate_from, filter, list_any, position}
use Rattle.std.proofs.lemmas.Bool.Decides.{nat_tests}
use Rattle.std.proofs.lemmas.Grind.{flat_map-append}
use Rattle.std.proofs.lemmas.List.Elements.{Contains-append_left, Contains-append_right}
use Rattle.std.proofs.lemmas.List.FromFn.{get_or-enumerate_from, length-enumerate_from}
use Rattle.std.proofs.lemmas.List.Quantifiers.{position-Some}
use Rattle.chunk_damage.specs.Damage.{IsBadChunk}
use Rattle.chunk_damage.specs.declared.fault.BadChunk.{BadChunk}
use Rattle.chunk_damage.specs.declared.fault.ChunkKind.{ChunkKind}
use Rattle.chunk_damage.specs.Header.{row_at}
use Rattle.doc_types.specs.declared.documents.DocRow.{DocRow}
use Rattle.doc_types.specs.declared.schema.Schema.{Schema}
use Rattle.doc_types.specs.Documents.{AreRowsOf}
use Rattle.doc_types.specs.Schemas.{IsSchema}
use Rattle.doc_types.specs.Snapshots.{LayerValue, all_living, is_dead, living}
use Rattle.chunk_image.specs.ChunkImage.{IsImageOf}
use Rattle.chunk_image.proofs.OneImage.{one_image}
use Rattle.chunk_store.specs.Images.{Image}
use Rattle.image_parts.specs.Images.{HasZones}
use Rattle.root_slots.specs.States.{AreEntries, naming}
use Rattle.root_slots.specs.declared.state.ChunkEntry.{ChunkEntry}
use Rattle.store_steps.specs.Damage.{AreBadBytes, AreBadChunks, AreBytesOf, IsAgain, IsBadFile, again_in, is_again}
use Rattle.store_steps.specs.Directory.{IsChunkFile, IsChunkOf, layer_from, layers_from}
use Rattle.store_steps.specs.declared.damage.Damage.{Damage}
use Rattle.store_steps.specs.declared.damage.DamageKind.{DamageKind}
use Rattle.store_steps.specs.declared.damage.DamageKind.TheVariants as kinds
use Rattle.store_steps.proofs.Apart.{AreApart, across, there_id}

-- What is known of images: that of rows of the schema has no damage, and damage is one.
pub record ImageLaws (schema : Schema) : Type 0 where
  pub never : (rows : List DocRow) (bytes : List ℕ) (bad : BadChunk) → AreRowsOf schema rows → All HasZones rows → IsImageOf schema rows bytes → length bytes < 2 ^ 32 → IsBadChunk schema bytes bad → ⊥
  pub one : (bytes : List ℕ) (bad other : BadChunk) → IsBadChunk schema bytes bad → IsBadChunk schema bytes other → bad ≡ other

not_less : (a b : ℕ) → b ≤ a → nat_lt a b ≡ true → ⊥
not_less a b le is = grind (arith, nat_tests)

not_newer : (through : ℕ) (rows : List DocRow) (row : ℕ) → All (λ r. r.born ≤ through) rows → position (λ r. nat_lt through r.born) rows ≡ Some row → ⊥
not_newer through [] row all is = absurd cc
not_newer through (r ∷ rows) row all is =
    let at = position-Some (λ (r : DocRow). nat_lt through r.born) (r ∷ rows) row r is in
    not_less through (get_or (r ∷ rows) row r).born (all row r at.0) at.1

kind_of : (a b : BadChunk) → a ≡ b → kinds.Image a.kind ≡ kinds.Image b.kind
kind_of a b is = ap (λ (bad : BadChunk). kinds.Image bad.kind) is

same_row : {X : Type 0} (f : List X → Option ℕ) (xs ys : List X) (a b : ℕ) → xs ≡ ys → f xs ≡ Some a → f ys ≡ Some b → a ≡ b
same_row f xs ys a b same one two = cc (one, two, ap f same)

module _ (schema : Schema) (limits : IsSchema schema) (laws : ImageLaws schema) where
  one_rows : (entry : ChunkEntry) (rows others : List DocRow) (bytes : List ℕ) → AreBytesOf schema entry rows bytes → AreBytesOf schema entry others bytes → rows ≡ others
  one_rows entry rows others bytes one two = one_image schema schema rows others bytes limits limits one.of two.of one.small two.small one.image two.image

  no_damage : (entry : ChunkEntry) (rows : List DocRow) (bytes : List ℕ) (kind : ChunkKind) (place : ℕ) → entry.length < 2 ^ 32 → AreBytesOf schema entry rows bytes → IsBadChunk schema bytes (record { place = place; kind = kind }) → ⊥
  no_damage entry rows bytes kind place fits are bad = laws.never rows bytes (record { place = place; kind = kind }) are.of are.zones are.image (let size = are.size in omega (arith, size, fits)) bad

  -- ---- one file

  never_bad_bytes : (through : ℕ) (entry : ChunkEntry) (rows : List DocRow) (bytes : List ℕ) (kind : DamageKind) (place : ℕ) → entry.length < 2 ^ 32 → AreBytesOf schema entry rows bytes → All (λ row. row < length rows) entry.dead → All (λ row. row.born ≤ through) rows
      → AreBadBytes schema through entry kind place bytes → ⊥
  never_bad_bytes through entry rows bytes kinds.ChunkLength place fits are dead born bad = bad.0 are.size
  never_bad_bytes through entry rows bytes (kinds.Image kind) place fits are dead born bad = no_damage entry rows bytes kind place fits are bad.1
  never_bad_bytes through entry rows bytes kinds.DeadRows place fits are dead born (others, theirs, wrong, at) =
      wrong (subst (λ (rs : List DocRow). All (λ row. row < length rs) entry.dead) (one_rows entry rows others bytes are theirs) dead)
  never_bad_bytes through entry rows bytes kinds.Born place fits are dead born (others, theirs, its, (row, first, at)) =
      not_newer through others row (subst (All (λ (r : DocRow). r.born ≤ through)) (one_rows entry rows others bytes are theirs) born) first
  never_bad_bytes through entry rows bytes kind place fits are dead born bad = bad

  one_bad_bytes : (through : ℕ) (entry : ChunkEntry) (bytes : List ℕ) (kind its : DamageKind) (place other : ℕ) → entry.length < 2 ^ 32 → AreBadBytes schema through entry kind place bytes → AreBadBytes schema through entry its other bytes → (kind ≡ its) × (place ≡ other)
  one_bad_bytes through entry bytes kinds.ChunkLength kinds.ChunkLength place other fits one two = (refl, one.1 ∙ sym two.1)
  one_bad_bytes through entry bytes kinds.ChunkLength (kinds.Image its) place other fits one two = absurd (one.0 two.0)
  one_bad_bytes through entry bytes kinds.ChunkLength kinds.DeadRows place other fits one (rows, are, wrong, at) = absurd (one.0 are.size)
  one_bad_bytes through entry bytes kinds.ChunkLength kinds.Born place other fits one (rows, are, dead, newer) = absurd (one.0 are.size)
  one_bad_bytes through entry bytes (kinds.Image kind) kinds.ChunkLength place other fits one two = absurd (two.0 one.0)
  one_bad_bytes through entry bytes (kinds.Image kind) (kinds.Image its) place other fits one two =
      let same = laws.one bytes (record { place = place; kind = kind }) (record { place = other; kind = its }) one.1 two.1 in
      (kind_of (record { place = place; kind = kind }) (record { place = other; kind = its }) same, ap (λ (bad : BadChunk). bad.place) same)
  one_bad_bytes through entry bytes (kinds.Image kind) kinds.DeadRows place other fits one (rows, are, wrong, at) = absurd (no_damage entry rows bytes kind place fits are one.1)
  one_bad_bytes through entry bytes (kinds.Image kind) kinds.Born place other fits one (rows, are, dead, newer) = absurd (no_damage entry rows bytes kind place fits are one.1)
  one_bad_bytes through entry bytes kinds.DeadRows kinds.ChunkLength place other fits (rows, are, wrong, at) two = absurd (two.0 are.size)
  one_bad_bytes through entry bytes kinds.DeadRows (kinds.Image its) place other fits (rows, are, wrong, at) two = absurd (no_damage entry rows bytes its other fits are two.1)
  one_bad_bytes through entry bytes kinds.DeadRows kinds.DeadRows place other fits (rows, are, wrong, at) (others, theirs, its, there) = (refl, at ∙ sym there)
  one_bad_bytes through entry bytes kinds.DeadRows kinds.Born place other fits (rows, are, wrong, at) (others, theirs, dead, newer) =
      absurd (wrong (subst (λ (rs : List DocRow). All (λ row. row < length rs) entry.dead) (one_rows entry others rows bytes theirs are) dead))
  one_bad_bytes through entry bytes kinds.Born kinds.ChunkLength place other fits (rows, are, dead, newer) two = absurd (two.0 are.size)
  one_bad_bytes through entry bytes kinds.Born (kinds.Image its) place other fits (rows, are, dead, newer) two = absurd (no_damage entry rows bytes its other fits are two.1)
  one_bad_bytes through entry bytes kinds.Born kinds.DeadRows place other fits (rows, are, dead, newer) (others, theirs, wrong, at) =
      absurd (wrong (subst (λ (rs : List DocRow). All (λ row. row < length rs) entry.dead) (one_rows entry rows others bytes are theirs) dead))
  one_bad_bytes through entry bytes kinds.Born kinds.Born place other fits (rows, are, dead, (row, first, at)) (others, theirs, its, (number, found, there)) =
      let same : row ≡ number = same_row (position (λ (r : DocRow). nat_lt through r.born)) rows others row number (one_rows entry rows others bytes are theirs) first found in
      (refl, at ∙ ap (row_at schema) same ∙ sym there)
  one_bad_bytes through entry bytes kinds.ChunkLength its place other fits one two = absurd two
  one_bad_bytes through entry bytes (kinds.Image kind) its place other fits one two = absurd two
  one_bad_bytes through entry bytes kinds.DeadRows its place other fits one two = absurd two
  one_bad_bytes through entry bytes kinds.Born its place other fits one two = absurd two
  one_bad_bytes through entry bytes kind its place other fits one two = absurd one

  never_bad_file : (x : Image) (through : ℕ) (entry : ChunkEntry) (rows : List DocRow) (kind : DamageKind) (place : ℕ) → entry.length < 2 ^ 32 → IsChunkFile schema x entry rows → IsChunkOf schema through entry rows → IsBadFile schema through entry kind place (x entry.file) → ⊥
  never_bad_file x through entry rows kind place fits file of bad =
      never_bad_bytes through entry rows file.bytes kind place fits (record { size = file.size; image = file.image; of = of.of; small = of.small; zones = of.zones }) of.dead of.born
      (subst (λ (f : Option (List ℕ)). IsBadFile schema through entry kind place f) file.is bad)

  one_bad_file : (through : ℕ) (entry : ChunkEntry) (kind its : DamageKind) (place other : ℕ) (file : Option (List ℕ)) → entry.length < 2 ^ 32 → IsBadFile schema through entry kind place file → IsBadFile schema through entry its other file → (kind ≡ its) × (place ≡ other)
  one_bad_file through entry kind its place other None fits one two = (one.0 ∙ sym two.0, one.1 ∙ sym two.1)
  one_bad_file through entry kind its place other (Some bytes) fits one two = one_bad_bytes through entry bytes kind its place other fits one two

  -- ---- all files

  pub one_bad_chunks : (x : Image) (through next : ℕ) (named : List ℕ) (entries : List ChunkEntry) (damage other : Damage) → AreEntries next named entries → AreBadChunks schema through x damage entries → AreBadChunks schema through x other entries → damage ≡ other
  one_bad_chunks x through next named [] damage other fits one two = absurd one
  one_bad_chunks x through next named (entry ∷ entries) damage other fits (inl (file, bad)) (inl (its, wrong)) =
      let both = one_bad_file through entry damage.kind other.kind damage.place other.place (x entry.file) fits.0.size bad wrong in
      let same : damage.file ≡ other.file = file ∙ sym its in
      λ i. record { file = same i; place = both.1 i; kind = both.0 i }
  one_bad_chunks x through next named (entry ∷ entries) damage other fits (inl (file, bad)) (inr (rows, is, of, rest)) = absurd (never_bad_file x through entry rows damage.kind damage.place fits.0.size is of bad)
  one_bad_chunks x through next named (entry ∷ entries) damage other fits (inr (rows, is, of, rest)) (inl (file, bad)) = absurd (never_bad_file x through entry rows other.kind other.place fits.0.size is of bad)
  one_bad_chunks x through next named (entry ∷ entries) damage other fits (inr (rows, is, of, rest)) (inr (others, its, theirs, behind)) = one_bad_chunks x through next (naming named entry) entries damage other fits.1 rest behind

  pub never_bad_chunks : (x : Image) (through next : ℕ) (named : List ℕ) (entries : List ChunkEntry) (chunks : List (List DocRow)) (damage : Damage) → AreEntries next named entries → AllZip (IsChunkFile schema x) entries chunks → AllZip (IsChunkOf schema through) entries chunks
      → AreBadChunks schema through x damage entries → ⊥
  never_bad_chunks x through next named [] chunks damage fits files are bad = bad
  never_bad_chunks x through next named (entry ∷ entries) [] damage fits files are bad = files
  never_bad_chunks x through next named (entry ∷ entries) (rows ∷ chunks) damage fits files are (inl (file, bad)) = never_bad_file x through entry rows damage.kind damage.place fits.0.size files.0 are.0 bad
  never_bad_chunks x through next named (entry ∷ entries) (rows ∷ chunks) damage fits files are (inr (others, is, of, rest)) = never_bad_chunks x through next (naming named entry) entries chunks damage fits.1 files.1 are.1 rest

-- ---- ids

none_some : {a : ℕ} (o : Option ℕ) → o ≡ Some a → o ≡ None → ⊥
none_some o one two = absurd cc

some_some : (o : Option ℕ) (a b : ℕ) → o ≡ Some a → o ≡ Some b → a ≡ b
some_some o a b one two = cc

pub one_again : (before : List LayerValue) (entries : List ChunkEntry) (chunks : List (List DocRow)) (file its row other : ℕ) → IsAgain before entries chunks file row → IsAgain before entries chunks its other → (file ≡ its) × (row ≡ other)
one_again before [] chunks file its row other one two = absurd one
one_again before (entry ∷ entries) [] file its row other one two = absurd one
one_again before (entry ∷ entries) (rows ∷ chunks) file its row other (inl (is, at)) (inl (was, there)) = (at ∙ sym there, some_some (again_in before (layer_from entry rows)) row other is was)
one_again before (entry ∷ entries) (rows ∷ chunks) file its row other (inl (is, at)) (inr (none, rest)) = absurd (none_some (again_in before (layer_from entry rows)) is none)
one_again before (entry ∷ entries) (rows ∷ chunks) file its row other (inr (none, rest)) (inl (is, at)) = absurd (none_some (again_in before (layer_from entry rows)) is none)
one_again before (entry ∷ entries) (rows ∷ chunks) file its row other (inr (none, rest)) (inr (nothing, behind)) = one_again (before ++ layer_from entry rows ∷ []) entries chunks file its row other rest behind

both : (a b : Bool) → (not a && b) ≡ true → (a ≡ false) × (b ≡ true)
both true b is = absurd cc
both false true is = (refl, refl)
both false false is = absurd cc

-- the rows of numbers that aren't out
abbrev left : (ℕ → Bool) → ℕ → List DocRow → List DocRow
left out n rows = map (λ e. e.1) (filter (λ e. not (out e.0)) (enumerate_from n rows))

left_has : (out : ℕ → Bool) (n k : ℕ) (rows : List DocRow) (d : DocRow) → k < length rows → out (n + k) ≡ false → Contains (left out n rows) (get_or rows k d)
left_has out n k [] d lt is = absurd (omega (arith, lt))
left_has out n zero (r ∷ rows) d lt is =
    let here : out n ≡ false = ap out (omega arith) ∙ is in
    subst (λ b. Contains (map (λ (e : ℕ × DocRow). e.1) (cond (not b) ((n, r) ∷ filter (λ e. not (out e.0)) (enumerate_from (n + 1) rows)) (filter (λ e. not (out e.0)) (enumerate_from (n + 1) rows)))) r) (sym here) (0, omega arith, refl)
left_has out n (suc k) (r ∷ rows) d lt is =
    let later : Contains (left out (n + 1) rows) (get_or rows k d) = left_has out (n + 1) k rows d (omega (arith, lt)) (ap out (omega arith) ∙ is) in
    elim (not (out n)) as (λ b. Contains (map (λ (e : ℕ × DocRow). e.1) (cond b ((n, r) ∷ filter (λ e. not (out e.0)) (enumerate_from (n + 1) rows)) (filter (λ e. not (out e.0)) (enumerate_from (n + 1) rows)))) (get_or rows k d)) [
      | true ↦ Contains-append_right (r ∷ []) (left out (n + 1) rows) (get_or rows k d) later
      | false ↦ later
    ]

-- where an id lives again, rows aren't apart
meet : (before : List LayerValue) (layer : LayerValue) (rest : List LayerValue) (row : ℕ) → AreApart (all_living (before ++ layer ∷ rest)) → again_in before layer ≡ Some row → (rows : List DocRow) → layer.rows ≡ rows → ⊥
meet before layer rest row apart is [] are = absurd (none_some (again_in before layer) is (ap (λ (rs : List DocRow). position (is_again before layer) (enumerate_from 0 rs)) are))
meet before layer rest row apart is (r ∷ rows) are =
    let at = position-Some (is_again before layer) (enumerate_from 0 layer.rows) row (0, r) is in
    let low : row < length layer.rows = omega (arith, at.0, length-enumerate_from 0 layer.rows) in
    let found = get_or layer.rows row r in
    let here : row ≡ 0 + row = omega arith in
    let tested : is_again before layer (row, found) ≡ true = ap (λ (n : ℕ). is_again before layer (n, found)) here ∙ ap (is_again before layer) (sym (get_or-enumerate_from 0 layer.rows row (0, r) low)) ∙ at.1 in
    let parts = both (is_dead layer row) (list_any (λ row. row.doc.id == found.doc.id) (all_living before)) tested in
    let its = there_id (all_living before) found.doc.id parts.1 in
    let there : Contains (living layer) found = left_has (is_dead layer) 0 row layer.rows r low (ap (is_dead layer) (sym here) ∙ parts.0) in
    across (all_living before) (all_living (layer ∷ rest)) its.0 found (subst AreApart (flat_map-append living before (layer ∷ rest)) apart) its.1 (Contains-append_left (living layer) (all_living rest) found there) its.2

pub never_again : (before : List LayerValue) (entries : List ChunkEntry) (chunks : List (List DocRow)) (file row : ℕ) → AreApart (all_living (before ++ layers_from entries chunks)) → IsAgain before entries chunks file row → ⊥
never_again before [] chunks file row apart again = again
never_again before (entry ∷ entries) [] file row apart again = again
never_again before (entry ∷ entries) (rows ∷ chunks) file row apart (inl (is, at)) = meet before (layer_from entry rows) (layers_from entries chunks) row apart is rows refl
never_again before (entry ∷ entries) (rows ∷ chunks) file row apart (inr (none, rest)) =
    never_again (before ++ layer_from entry rows ∷ []) entries chunks file row
    (subst (λ (ls : List LayerValue). AreApart (all_living ls)) (sym (append_assoc before (layer_from entry rows ∷ []) (layers_from entries chunks))) apart) rest
