-- The lines of chunks, one chunk after the other.
use Rattle.std.proofs.Common.{◌≡◌, ℕ, Bool, true, false, cond, List, [], ◌∷◌, Result, Ok, Err, refl, sym, ap, subst, arith, length, map}
use Rattle.std.specs.List.{AllZip, filter}
use Rattle.doc_types.specs.Chunks.{AreWordsOf}
use Rattle.doc_types.specs.Snapshots.{LayerValue}
use Rattle.doc_types.specs.declared.documents.DocRow.{DocRow}
use Rattle.image_chunk.specs.steps.OneWords.{one_words}
use Rattle.root_slots.specs.declared.state.ChunkEntry.{ChunkEntry}
use Rattle.index_tool.specs.ToolLines.{each_chunk}
use Rattle.index_tool.specs.declared.host.ToolHost.{Ghosts as HostWords}
use Rattle.index_tool.specs.declared.printing.Stop.{Stop}
use Rattle.index_tool.specs.steps.Shown.{rows_on_disk}
use Rattle.index_tool.specs.steps.Sides.{PrintsLines}
use Rattle.index_tool.proofs.Printed.{lines_none, lines_stop, lines_then}

abbrev Words : Type 0
Words = List (List (List ℕ))

abbrev Lines : Type 0
Lines = ChunkEntry → List DocRow → List (List ℕ) → List ℕ

-- a layer that is on the disk, or isn't
pub on_disk : (layer : LayerValue) (layers : List LayerValue) → layer.disk ≡ true → rows_on_disk (layer ∷ layers) ≡ layer.rows ∷ rows_on_disk layers
on_disk layer layers is = ap (λ (b : Bool). map (λ (l : LayerValue). l.rows) (cond b (layer ∷ filter (λ l. l.disk) layers) (filter (λ l. l.disk) layers))) is

pub in_memory : (layer : LayerValue) (layers : List LayerValue) → layer.disk ≡ false → rows_on_disk (layer ∷ layers) ≡ rows_on_disk layers
in_memory layer layers is = ap (λ (b : Bool). map (λ (l : LayerValue). l.rows) (cond b (layer ∷ filter (λ l. l.disk) layers) (filter (λ l. l.disk) layers))) is

pub no_layers : (layers : List LayerValue) → length layers ≡ 0 → rows_on_disk layers ≡ []
no_layers [] none = refl
no_layers (layer ∷ layers) none = absurd (omega (arith, none))

-- the words of one chunk more
pub words_more : (rows : List DocRow) (chunks : List (List DocRow)) (own : List (List ℕ)) → AreWordsOf rows own → (words : Words) × AllZip AreWordsOf chunks words → (words : Words) × AllZip AreWordsOf (rows ∷ chunks) words
words_more rows chunks own is (words, are) = (own ∷ words, (is, are))

-- those of a layer more
pub known_more : (layer : LayerValue) (layers : List LayerValue) (content : List DocRow) (own : List (List ℕ)) → content ≡ layer.rows → AreWordsOf content own → (words : Words) × AllZip AreWordsOf (rows_on_disk layers) words
    → (words : Words) × AllZip AreWordsOf (rows_on_disk (layer ∷ layers)) words
known_more layer layers content own same is rest =
    let its : AreWordsOf layer.rows own = subst (λ (rs : List DocRow). AreWordsOf rs own) same is in
    elim layer.disk as (λ b. layer.disk ≡ b → (words : Words) × AllZip AreWordsOf (rows_on_disk (layer ∷ layers)) words) [
      | true ↦ λ here. subst (λ (chunks : List (List DocRow)). (words : Words) × AllZip AreWordsOf chunks words) (sym (on_disk layer layers here)) (words_more layer.rows (rows_on_disk layers) own its rest)
      | false ↦ λ here. subst (λ (chunks : List (List DocRow)). (words : Words) × AllZip AreWordsOf chunks words) (sym (in_memory layer layers here)) rest
    ] refl

no_chunks : (lines : Lines) (entries : List ChunkEntry) (words : Words) → each_chunk lines entries [] words ≡ []
no_chunks lines [] words = refl
no_chunks lines (entry ∷ entries) words = refl

module _ {H S : Type 0} (T : Type 0) (host : HostWords H S) (lines : Lines) where
  -- what was printed of chunks, whatever words they have
  abbrev pub PrintsChunks : Result T Stop → List ChunkEntry → List (List DocRow) → H → H → Type 0
  PrintsChunks r entries chunks old new = (words : Words) → AllZip AreWordsOf chunks words → PrintsLines host r (each_chunk lines entries chunks words) old new

  -- there is none
  pub chunks_none : (done : T) (entries : List ChunkEntry) (h : H) → PrintsChunks (Ok done) entries [] h h
  chunks_none done entries h = λ words are. subst (λ (l : List ℕ). PrintsLines {T = T} host (Ok done) l h h) (sym (no_chunks lines entries words)) (lines_none host done h)

  pub entries_none : (done : T) (chunks : List (List DocRow)) (h : H) → PrintsChunks (Ok done) [] chunks h h
  entries_none done chunks h = λ words are. lines_none host done h

  -- the first one, and the others
  pub chunks_more : (done : T) (r : Result T Stop) (entry : ChunkEntry) (entries : List ChunkEntry) (rows : List DocRow) (chunks : List (List DocRow)) (old mid new : H) → ((own : List (List ℕ)) → AreWordsOf rows own → PrintsLines {T = T} host (Ok done) (lines entry rows own) old mid)
      → PrintsChunks r entries chunks mid new → PrintsChunks r (entry ∷ entries) (rows ∷ chunks) old new
  chunks_more done r entry entries rows chunks old mid new first then [] are = absurd are
  chunks_more done r entry entries rows chunks old mid new first then (own ∷ words) are =
      lines_then host done r (lines entry rows own) (each_chunk lines entries chunks words) old mid new (first own are.0) (then words are.1)

  -- those of the first one weren't all printed
  pub chunks_stop : (stop : Stop) (entry : ChunkEntry) (entries : List ChunkEntry) (rows : List DocRow) (chunks : List (List DocRow)) (old new : H) → ((own : List (List ℕ)) → AreWordsOf rows own → PrintsLines {T = T} host (Err stop) (lines entry rows own) old new)
      → PrintsChunks (Err stop) (entry ∷ entries) (rows ∷ chunks) old new
  chunks_stop stop entry entries rows chunks old new first [] are = absurd are
  chunks_stop stop entry entries rows chunks old new first (own ∷ words) are =
      lines_stop host T T stop (lines entry rows own) (each_chunk lines entries chunks words) old new (first own are.0)

-- a chunk's own words are those of its rows
pub own_words : {H S T : Type 0} (host : HostWords H S) (lines : Lines) (r : Result T Stop) (entry : ChunkEntry) (rows content : List DocRow) (own : List (List ℕ)) (old new : H) → content ≡ rows → AreWordsOf content own → PrintsLines host r (lines entry content own) old new
    → (words : List (List ℕ)) → AreWordsOf rows words → PrintsLines host r (lines entry rows words) old new
own_words host lines r entry rows content own old new same is prints words are =
    let its : AreWordsOf rows own = subst (λ (rs : List DocRow). AreWordsOf rs own) same is in
    let one : own ≡ words = one_words rows own words its are in
    subst (λ (ws : List (List ℕ)). PrintsLines host r (lines entry rows ws) old new) one (subst (λ (rs : List DocRow). PrintsLines host r (lines entry rs own) old new) same prints)
