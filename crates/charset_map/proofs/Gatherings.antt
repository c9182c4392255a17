-- Gathering the entries of a text, one after the other.
use Rattle.std.proofs.Common.{◌≡◌, ℕ, ◌+◌, ◌-◌, ◌<◌, ◌≤◌, eqb, List, [], ◌∷◌, ◌++◌, append_assoc, length, length-drop, length-take, take, take_all, drop, get_or, sym, ◌∙◌, ap, subst, arith, inl, inr, None, Some}
use Rattle.std.specs.Prelude.{All}
use Rattle.std.specs.List.{slice_split, prefix_len}
use Rattle.std.proofs.lemmas.Bool.{cases_lt, ne_eqb}
use Rattle.std.proofs.lemmas.List.{length-take-le}
use Rattle.std.proofs.lemmas.List.Elements.{All-push}
use Rattle.std.proofs.lemmas.List.Splits.{slice_split_first, slice_split_none}
use Rattle.std.proofs.lemmas.List.Sums.{prefix_len-le-length}
use Rattle.charset_map.specs.declared.entries.Entry.{Entry}
use Rattle.charset_map.specs.declared.fault.CharsetFault.{CharsetFault}
use Rattle.charset_map.specs.declared.gathering.Written.{Written}
use Rattle.charset_map.specs.Characters.{is_blank}
use Rattle.charset_map.specs.TableText.{EntryText, entry_text_at, entry_texts_from, without_front, without_back, IsFaulty}
use Rattle.charset_map.specs.steps.Gathering.{AreWritten, Gathers, IsEntrySpan, IsGathered}
use Rattle.charset_map.specs.steps.SpanLists.{IsSound}
use Rattle.charset_map.specs.steps.Sides.{Lacks}
use Rattle.charset_map.proofs.Cutting.{place, place_within, lacks_before}

-- the entries before the rest of the text are in the list
pub record HasGathered (text rest : List ℕ) (list : List Written) : Type 0 where
  pub within : length rest ≤ length text
  pub gathered : IsGathered text list (entry_texts_from (length text - length rest) (slice_split (λ b. eqb b 44) rest))
  pub sound : All (λ (written : Written). IsSound written.span) list

pub has_gathered_none : (text : List ℕ) → HasGathered text text []
has_gathered_none text =
    let start : length text - length text ≡ 0 = omega arith in
    record {
      within = omega arith;
      gathered = record {
        before = [];
        are = ap (λ n. entry_texts_from n (slice_split (λ b. eqb b 44) text)) (sym start);
        written = tt;
      };
      sound = λ k d below. absurd (omega arith);
    }

-- the last part is all that is left
last_part : (rest : List ℕ) → place 44 rest ≡ length rest → slice_split (λ b. eqb b 44) rest ≡ take (place 44 rest) rest ∷ []
last_part rest end =
    let whole : take (place 44 rest) rest ≡ rest = take_all (place 44 rest) rest (omega (arith, end)) in
    let lacks : Lacks 44 rest = subst (Lacks 44) whole (lacks_before 44 rest) in
    slice_split_none (λ b. eqb b 44) rest (λ k d below. ne_eqb (get_or rest k d) 44 (lacks k d below)) ∙ ap (λ part. part ∷ []) (sym whole)

-- a part ends at the first comma
next_part : (rest : List ℕ) → place 44 rest < length rest → slice_split (λ b. eqb b 44) rest ≡ take (place 44 rest) rest ∷ slice_split (λ b. eqb b 44) (drop (place 44 rest + 1) rest)
next_part rest within = slice_split_first (λ b. eqb b 44) rest 0 within

are_written_more : (texts : List EntryText) (list : List Written) (text : EntryText) (written : Written) → AreWritten texts list → written.place ≡ text.place → IsEntrySpan text.text written.span → AreWritten (texts ++ text ∷ []) (list ++ written ∷ [])
are_written_more [] [] text written are at is = ((at, is), tt)
are_written_more [] (w ∷ list) text written are at is = absurd are
are_written_more (t ∷ texts) [] text written are at is = absurd are
are_written_more (t ∷ texts) (w ∷ list) text written are at is = (are.0, are_written_more texts list text written are.1 at is)

-- the first entry's text of what is left
pub first_entry_text : (start : ℕ) (rest : List ℕ) → (after : List EntryText) × (entry_texts_from start (slice_split (λ b. eqb b 44) rest) ≡ entry_text_at start (take (place 44 rest) rest) ∷ after)
first_entry_text start rest = elim (cases_lt (place 44 rest) (length rest)) [
  | inl within ↦ (entry_texts_from (start + length (take (place 44 rest) rest) + 1) (slice_split (λ b. eqb b 44) (drop (place 44 rest + 1) rest)), ap (entry_texts_from start) (next_part rest within))
  | inr end ↦ ([], ap (entry_texts_from start) (last_part rest (omega (arith, end, place_within 44 rest))))
]

-- the text of the next entry, and its place
abbrev pub next_text : List ℕ → List ℕ
next_text rest = without_back (without_front (take (place 44 rest) rest))

abbrev pub next_place : List ℕ → List ℕ → ℕ
next_place text rest = length text - length rest + prefix_len is_blank (take (place 44 rest) rest)

pub has_gathered_more : (text rest : List ℕ) (list : List Written) (written : Written) → HasGathered text rest list → place 44 rest < length rest → written.place ≡ next_place text rest → IsEntrySpan (next_text rest) written.span → HasGathered text (drop (place 44 rest + 1) rest) (list ++ written ∷ [])
has_gathered_more text rest list written has within at is =
    let start : ℕ = length text - length rest in
    let part : List ℕ = take (place 44 rest) rest in
    let left : List ℕ = drop (place 44 rest + 1) rest in
    let later : List (List ℕ) = slice_split (λ b. eqb b 44) left in
    let shorter : length left ≡ length rest - (place 44 rest + 1) = length-drop (place 44 rest + 1) rest in
    let size : length part ≡ place 44 rest = length-take-le (place 44 rest) rest (omega (arith, within)) in
    let next : start + length part + 1 ≡ length text - length left = omega (arith, shorter, size, has.within, within) in
    let old = has.gathered in
    record {
      within = omega (arith, shorter, has.within);
      gathered = record {
        before = old.before ++ entry_text_at start part ∷ [];
        are =
            old.are
            ∙ ap (λ ps. old.before ++ entry_texts_from start ps) (next_part rest within)
            ∙ ap (λ (n : ℕ). old.before ++ entry_text_at start part ∷ entry_texts_from n later) next
            ∙ sym (append_assoc old.before (entry_text_at start part ∷ []) (entry_texts_from (length text - length left) later));
        written = are_written_more old.before list (entry_text_at start part) written old.written at is;
      };
      sound = All-push (λ (w : Written). IsSound w.span) list written has.sound is.sound;
    }

pub gathered_all : (text rest : List ℕ) (list : List Written) (written : Written) → HasGathered text rest list → place 44 rest ≡ length rest → written.place ≡ next_place text rest → IsEntrySpan (next_text rest) written.span → Gathers text (list ++ written ∷ []) None
gathered_all text rest list written has end at is =
    let start : ℕ = length text - length rest in
    let part : List ℕ = take (place 44 rest) rest in
    let old = has.gathered in
    record {
      before = old.before ++ entry_text_at start part ∷ [];
      are =
          old.are
          ∙ ap (λ ps. old.before ++ entry_texts_from start ps) (last_part rest end)
          ∙ sym (append_assoc old.before (entry_text_at start part ∷ []) []);
      written = are_written_more old.before list (entry_text_at start part) written old.written at is;
    }

pub gathered_fault : (text rest : List ℕ) (list : List Written) (fault : CharsetFault) → HasGathered text rest list → fault.place ≡ next_place text rest → ((entries : List Entry) → IsFaulty entries (next_text rest) fault.kind) → Gathers text list (Some fault)
gathered_fault text rest list fault has at faulty =
    let start : ℕ = length text - length rest in
    let first = first_entry_text start rest in
    let old = has.gathered in
    record {
      entry_text = entry_text_at start (take (place 44 rest) rest);
      after = first.0;
      gathered = record {
        before = old.before;
        are = old.are ∙ ap (λ (ps : List EntryText). old.before ++ ps) first.1;
        written = old.written;
      };
      place = at;
      faulty = faulty;
    }

pub place_small : (text rest : List ℕ) → length rest ≤ length text → next_place text rest ≤ length text
place_small text rest within = omega (arith, prefix_len-le-length is_blank (take (place 44 rest) rest), length-take (place 44 rest) rest)
