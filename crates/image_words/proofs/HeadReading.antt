-- Entries by their heads.
use Rattle.std.proofs.Common.{◌≡◌, ℕ, ◌+◌, ◌-◌, ◌<◌, ◌≤◌, List, [], ◌∷◌, ◌++◌, length, take, drop, sym, ap, ◌∙◌, arith, length-append}
use Rattle.std.proofs.lemmas.List.{length-drop, length-take, take-append-drop}
use Rattle.posting_codec.specs.Numbers.{number, IsNumberAt}
use Rattle.posting_codec.proofs.Spellings.{one_number}
use Rattle.posting_codec.proofs.HitSteps.{behind}
use Rattle.item_lists.specs.steps.Places.{IsItemAt}
use Rattle.item_lists.proofs.Reading.{Gone, gone_all, gone_more, gone_none, gone_stop}
use Rattle.chunk_damage.specs.WordTable.{Headed, IsHeaded, and_entry, headed_bytes, headed_list}
use Rattle.chunk_damage.proofs.WordsApart.{headed_apart, spread}
use Rattle.image_words.specs.steps.Heads.{AreHeadedAt}

abbrev pub NoHeaded : List ℕ → ℕ → Type 0
NoHeaded bytes at = (entry : Headed) (rest : List ℕ) → IsItemAt headed_bytes IsHeaded bytes at tt entry rest → ⊥

heads : (bytes : List ℕ) (at : ℕ) (entry : Headed) (rest : List ℕ) → IsItemAt headed_bytes IsHeaded bytes at tt entry rest → drop at bytes ≡ number entry.0 ++ (number (length entry.1) ++ (entry.1 ++ rest))
heads bytes at entry rest is = is.here ∙ spread (number entry.0) (number (length entry.1)) entry.1 rest

pub no_distance : (bytes : List ℕ) (at : ℕ) → ((n : ℕ) (rest : List ℕ) → IsNumberAt bytes at n rest → ⊥) → NoHeaded bytes at
no_distance bytes at none entry rest is = none entry.0 (number (length entry.1) ++ (entry.1 ++ rest)) (record { fits = is.fits.distance; here = heads bytes at entry rest is })

size_there : (bytes : List ℕ) (at n sized : ℕ) (later : List ℕ) (entry : Headed) (rest : List ℕ) → IsNumberAt bytes at n later → sized ≡ at + length (number n) → IsItemAt headed_bytes IsHeaded bytes at tt entry rest → IsNumberAt bytes sized (length entry.1) (entry.1 ++ rest)
size_there bytes at n sized later entry rest it e is =
    let its = one_number n entry.0 later (number (length entry.1) ++ (entry.1 ++ rest)) (sym it.here ∙ heads bytes at entry rest is) in
    record { fits = is.fits.size; here = behind bytes (number n) later at sized it.here e ∙ its.1 }

pub no_size : (bytes : List ℕ) (at n sized : ℕ) (later : List ℕ) → IsNumberAt bytes at n later → sized ≡ at + length (number n) → ((m : ℕ) (rest : List ℕ) → IsNumberAt bytes sized m rest → ⊥) → NoHeaded bytes at
no_size bytes at n sized later it e none entry rest is = none (length entry.1) (entry.1 ++ rest) (size_there bytes at n sized later entry rest it e is)

-- fewer bytes are left than the head says
pub too_few : (bytes : List ℕ) (at n sized size start : ℕ) (later more : List ℕ) → IsNumberAt bytes at n later → sized ≡ at + length (number n) → IsNumberAt bytes sized size more → start ≡ sized + length (number size) → length bytes - start < size → NoHeaded bytes at
too_few bytes at n sized size start later more it e its f few entry rest is =
    let there = size_there bytes at n sized later entry rest it e is in
    let same = one_number size (length entry.1) more (entry.1 ++ rest) (sym its.here ∙ there.here) in
    let left : drop start bytes ≡ entry.1 ++ rest = behind bytes (number size) more sized start its.here f ∙ same.1 in
    absurd (omega (arith, few, same.0, ap length left, length-drop start bytes, length-append entry.1 rest))

pub entry_found : (bytes : List ℕ) (at n sized size start : ℕ) (later more : List ℕ) → IsNumberAt bytes at n later → sized ≡ at + length (number n) → IsNumberAt bytes sized size more → start ≡ sized + length (number size) → size ≤ length bytes - start
    → (entry : Headed) × (rest : List ℕ) × IsItemAt headed_bytes IsHeaded bytes at tt entry rest × (start + size ≡ at + length (headed_bytes tt entry))
entry_found bytes at n sized size start later more it e its f enough =
    let piece = take size (drop start bytes) in
    let long : length piece ≡ size = omega (arith, length-take size (drop start bytes), length-drop start bytes, enough) in
    let rest = drop size (drop start bytes) in
    let here : drop at bytes ≡ number n ++ (number (length piece) ++ (piece ++ rest)) =
    it.here ∙ ap (λ l. number n ++ l) (sym (behind bytes (number n) later at sized it.here e) ∙ its.here ∙ ap (λ l. number size ++ l) (sym (behind bytes (number size) more sized start its.here f) ∙ sym (take-append-drop size (drop start bytes))) ∙ ap (λ k. number k ++ (piece ++ rest)) (sym long)) in (
      (n, piece),
      rest,
      record { fits = record { distance = it.fits; size = omega (arith, long, its.fits) }; here = here ∙ sym (spread (number n) (number (length piece)) piece rest) },
      omega (arith, e, f, long, length-append (number n) (number (length piece) ++ piece), length-append (number (length piece)) piece, ap (λ k. length (number k)) long),
    )

pub record Skipped (bytes : List ℕ) (start at i : ℕ) : Type 0 where
  pub entries : List Headed
  pub gone : Gone headed_bytes and_entry IsHeaded bytes start at tt tt i entries

pub skipped_none : (bytes : List ℕ) (start : ℕ) → Skipped bytes start start 0
skipped_none bytes start = record { entries = []; gone = gone_none headed_bytes and_entry IsHeaded bytes start tt }

pub skipped_more : (bytes : List ℕ) (start at end i : ℕ) (entry : Headed) (rest : List ℕ) → Skipped bytes start at i → IsItemAt headed_bytes IsHeaded bytes at tt entry rest → end ≡ at + length (headed_bytes tt entry) → Skipped bytes start end (i + 1)
skipped_more bytes start at end i entry rest s is e = record { entries = s.entries ++ entry ∷ []; gone = gone_more headed_bytes and_entry IsHeaded bytes start at end tt tt i s.entries entry rest s.gone is e }

pub skipped_stop : (bytes : List ℕ) (start at i count : ℕ) → Skipped bytes start at i → i < count → NoHeaded bytes at → (entries : List Headed) (rest : List ℕ) → AreHeadedAt bytes start count entries rest → ⊥
skipped_stop bytes start at i count s low none = gone_stop headed_bytes and_entry IsHeaded headed_apart bytes start at tt tt i count s.entries s.gone low none

pub skipped_all : (bytes : List ℕ) (start at i count : ℕ) → Skipped bytes start at i → i ≡ count → (entries : List Headed) × (rest : List ℕ) × AreHeadedAt bytes start count entries rest × (at ≡ start + length (headed_list 0 entries))
skipped_all bytes start at i count s e = let its = gone_all headed_bytes and_entry IsHeaded bytes start at tt tt i count s.entries s.gone e in (s.entries, drop at bytes, its.0, its.1)
