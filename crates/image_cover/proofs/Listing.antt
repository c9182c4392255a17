-- Entries while they are read.
use Rattle.std.proofs.Common.{◌≡◌, ◌≢◌, ℕ, ◌+◌, ◌-◌, ◌<◌, ◌≤◌, List, [], ◌∷◌, ◌++◌, length, drop, refl, sym, ap, subst, ◌∙◌, arith, append_assoc, append-nil, length-append}
use Rattle.std.proofs.lemmas.List.Concat.{flat_map-append}
use Rattle.posting_codec.specs.HitLists.{AreHitsAt, hit_list}
use Rattle.posting_codec.specs.PostingLists.{IsEntry, IsEntryAt, posting, posting_list}
use Rattle.posting_codec.specs.steps.Heads.{IsHeadAt, head_length}
use Rattle.posting_codec.proofs.Entries.{no_head as codec_no_head, no_hits, wrong_size, entry_head, one_head}
use Rattle.posting_codec.proofs.HitSteps.{behind}
use Rattle.chunk_damage.specs.WordLists.{AreEntries, Entry}
use Rattle.chunk_damage.proofs.ListsApart.{front, least_behind}
use Rattle.image_cover.specs.Places.{Seen, take_all}
use Rattle.image_cover.specs.Lists.{AreEntriesAt, places_in, places_of}
use Rattle.image_cover.proofs.Taken.{all_long, take_append}

-- no entry of such a row is spelled here
abbrev pub NoEntry : List ℕ → ℕ → ℕ → ℕ → Type 0
NoEntry bytes at least rows = (row : ℕ) (hits : List (ℕ × ℕ)) (rest : List ℕ) → IsEntryAt bytes at least row hits rest → row < rows → ⊥

pub no_head : (bytes : List ℕ) (at least rows : ℕ) → ((row size : ℕ) (rest : List ℕ) → IsHeadAt bytes at least row size rest → ⊥) → NoEntry bytes at least rows
no_head bytes at least rows none row hits rest is low = codec_no_head bytes at least none row hits rest is

pub no_such_row : (bytes : List ℕ) (at least rows row size : ℕ) (later : List ℕ) → IsHeadAt bytes at least row size later → rows ≤ row → NoEntry bytes at least rows
no_such_row bytes at least rows row size later h high other hits rest is low =
    let same = one_head bytes at least row other size (length (hit_list hits)) later (hit_list hits ++ rest) h (entry_head bytes at least other hits rest is) in
    absurd (omega (arith, same.rows, high, low))

pub no_such_hits : (bytes : List ℕ) (at least rows row size start : ℕ) (later : List ℕ) → IsHeadAt bytes at least row size later → start ≡ at + head_length least row size
    → ((hits : List (ℕ × ℕ)) (rest : List ℕ) → AreHitsAt bytes start hits rest → ⊥) → NoEntry bytes at least rows
no_such_hits bytes at least rows row size start later h e none other hits rest is low = no_hits bytes at least row size start later h e none other hits rest is

pub no_such_size : (bytes : List ℕ) (at least rows row size start end : ℕ) (later : List ℕ) (found : List (ℕ × ℕ)) (more : List ℕ) → IsHeadAt bytes at least row size later → start ≡ at + head_length least row size
    → AreHitsAt bytes start found more → end ≡ start + length (hit_list found) → end - start ≢ size → NoEntry bytes at least rows
no_such_size bytes at least rows row size start end later found more h e are ends differs other hits rest is low = wrong_size bytes at least row size start end later found more h e are ends differs other hits rest is

more_entries : (rows least : ℕ) (es : List Entry) (e : Entry) → AreEntries rows least es → IsEntry (least_behind least es) e.0 e.1 → e.0 < rows → AreEntries rows least (es ++ e ∷ [])
more_entries rows least [] e are is low = (is, low, tt)
more_entries rows least (f ∷ es) e are is low = (are.0, are.1, more_entries rows (f.0 + 1) es e are.2 is low)

more_least : (least : ℕ) (es : List Entry) (e : Entry) → least_behind least (es ++ e ∷ []) ≡ e.0 + 1
more_least least [] e = refl
more_least least (f ∷ es) e = more_least (f.0 + 1) es e

more_bytes : (least : ℕ) (es : List Entry) (e : Entry) → posting_list least (es ++ e ∷ []) ≡ posting_list least es ++ posting (least_behind least es) e.0 e.1
more_bytes least [] e = append-nil (posting least e.0 e.1)
more_bytes least (f ∷ es) e =
    ap (λ l. posting least f.0 f.1 ++ l) (more_bytes (f.0 + 1) es e) ∙ sym (append_assoc (posting least f.0 f.1) (posting_list (f.0 + 1) es) (posting (least_behind (f.0 + 1) es) e.0 e.1))

-- so many entries were read up to this place and counted
pub record Listed (bytes : List ℕ) (rows start at least i : ℕ) (starts : List ℕ) (width : ℕ) (before cells : Seen) : Type 0 where
  pub entries : List Entry
  pub counted : length entries ≡ i
  pub are : AreEntries rows 0 entries
  pub ended : least_behind 0 entries ≡ least
  pub place : at ≡ start + length (posting_list 0 entries)
  pub here : drop start bytes ≡ posting_list 0 entries ++ drop at bytes
  pub long : length cells.0 ≡ length before.0
  pub tally : cells ≡ take_all before (places_in starts width entries)

pub listed_none : (bytes : List ℕ) (rows start : ℕ) (starts : List ℕ) (width : ℕ) (before : Seen) → Listed bytes rows start start 0 0 starts width before before
listed_none bytes rows start starts width before = record { entries = []; counted = refl; are = tt; ended = refl; place = omega arith; here = refl; long = refl; tally = refl }

pub listed_more : (bytes : List ℕ) (rows start at end least next i : ℕ) (starts : List ℕ) (width : ℕ) (before cells after : Seen) (row : ℕ) (hits : List (ℕ × ℕ)) (rest : List ℕ) → Listed bytes rows start at least i starts width before cells
    → IsEntryAt bytes at least row hits rest → row < rows → end ≡ at + length (posting least row hits) → next ≡ row + 1 → after ≡ take_all cells (places_of starts width (row, hits)) → Listed bytes rows start end next (i + 1) starts width before after
listed_more bytes rows start at end least next i starts width before cells after row hits rest g is low ends n a =
    let e : Entry = (row, hits) in
    let piece = posting least row hits in
    let more : posting_list 0 (g.entries ++ e ∷ []) ≡ posting_list 0 g.entries ++ piece = more_bytes 0 g.entries e ∙ ap (λ k. posting_list 0 g.entries ++ posting k row hits) g.ended in
    let long : length (posting_list 0 (g.entries ++ e ∷ [])) ≡ length (posting_list 0 g.entries) + length piece = ap length more ∙ length-append (posting_list 0 g.entries) piece in
    let left : drop end bytes ≡ rest = behind bytes piece rest at end is.here ends in
    let own : IsEntry (least_behind 0 g.entries) row hits = subst (λ k. IsEntry k row hits) (sym g.ended) is.is in
    record {
      entries = g.entries ++ e ∷ [];
      counted = length-append g.entries (e ∷ []) ∙ ap (λ n. n + 1) g.counted;
      are = more_entries rows 0 g.entries e g.are own low;
      ended = more_least 0 g.entries e ∙ sym n;
      place = omega (arith, ends, g.place, long);
      here = g.here ∙ ap (λ l. posting_list 0 g.entries ++ l) (is.here ∙ ap (λ l. piece ++ l) (sym left)) ∙ sym (append_assoc (posting_list 0 g.entries) piece (drop end bytes)) ∙ ap (λ l. l ++ drop end bytes) (sym more);
      long = ap (λ (s : Seen). length s.0) a ∙ all_long cells (places_of starts width e) ∙ g.long;
      tally = a ∙ ap (λ c. take_all c (places_of starts width e)) g.tally
          ∙ sym (ap (take_all before) (flat_map-append (places_of starts width) g.entries (e ∷ []) ∙ ap (λ l. places_in starts width g.entries ++ l) (append-nil (places_of starts width e))) ∙ take_append before (places_in starts width g.entries) (places_of starts width e));
    }

-- where no entry stands behind those that were read, there are no more
pub listed_stop : (bytes : List ℕ) (rows start at least i count : ℕ) (starts : List ℕ) (width : ℕ) (before cells : Seen) → Listed bytes rows start at least i starts width before cells → i < count → NoEntry bytes at least rows
    → (all : List Entry) (rest : List ℕ) → AreEntriesAt bytes start rows 0 count all rest → ⊥
listed_stop bytes rows start at least i count starts width before cells g left none all rest are =
    let its = front rows 0 g.entries all (drop at bytes) rest g.are are.are (omega (arith, g.counted, are.counted)) (sym g.here ∙ are.here) in
    stop its.0 its.1 its.2 its.3 where
      stop : (later : List Entry) → all ≡ g.entries ++ later → drop at bytes ≡ posting_list (least_behind 0 g.entries) later ++ rest → AreEntries rows (least_behind 0 g.entries) later → ⊥
      stop [] e here its = absurd (omega (arith, left, g.counted, are.counted, ap length e, length-append g.entries []))
      stop (f ∷ later) e here its =
          none f.0 f.1 (posting_list (f.0 + 1) later ++ rest) (record {
            is = subst (λ k. IsEntry k f.0 f.1) g.ended its.0;
            here = here ∙ append_assoc (posting (least_behind 0 g.entries) f.0 f.1) (posting_list (f.0 + 1) later) rest ∙ ap (λ k. posting k f.0 f.1 ++ (posting_list (f.0 + 1) later ++ rest)) g.ended;
          }) its.1

abbrev pub ListRead : List ℕ → ℕ → ℕ → ℕ → List ℕ → ℕ → Seen → Seen → ℕ → Type 0
ListRead bytes rows start count starts width before after end = (entries : List Entry) × (rest : List ℕ) × AreEntriesAt bytes start rows 0 count entries rest × (end ≡ start + length (posting_list 0 entries)) × (after ≡ take_all before (places_in starts width entries))

pub listed_all : (bytes : List ℕ) (rows start at least i count : ℕ) (starts : List ℕ) (width : ℕ) (before cells : Seen) → Listed bytes rows start at least i starts width before cells → i ≡ count → ListRead bytes rows start count starts width before cells at
listed_all bytes rows start at least i count starts width before cells g e = (g.entries, drop at bytes, record { counted = g.counted ∙ e; are = g.are; here = g.here }, g.place, g.tally)
