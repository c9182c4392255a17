-- The word table beside the words and their lists: places are those of consecutive pieces.
use Rattle.std.proofs.Common.{◌≡◌, ℕ, suc, ◌+◌, ◌-◌, ◌*◌, ◌≤◌, List, [], ◌∷◌, ◌++◌, length, refl, sym, ap, subst, ◌∙◌, arith, append_assoc, length-append}
use Rattle.std.specs.Int.{w32, to_le_bytes}
use Rattle.std.specs.List.{AllByRecursion}
use Rattle.byte_fields.proofs.Taking.{IsBytes}
use Rattle.posting_codec.specs.HitLists.{hit_list}
use Rattle.posting_codec.specs.Numbers.{number}
use Rattle.posting_codec.specs.PostingLists.{posting, posting_list}
use Rattle.posting_codec.proofs.Entries.{list_short}
use Rattle.item_lists.specs.Items.{AllFit, left_by, spelled}
use Rattle.item_lists.proofs.Reading.{fit_more, spell_more}
use Rattle.chunk_damage.specs.WordTable.{EndAt, Headed, IsEntered, IsHeaded, IsHeadedList, and_entry, and_list, and_word, headed_bytes, headed_list, list_place, row_count, word_place}
use Rattle.chunk_damage.specs.WordLists.{AreEntries, Entry, IsList}
use Rattle.chunk_damage.specs.WordLists.{and_list as and_entries}
use Rattle.image_rows.specs.steps.Contents.{entries_bytes, lists_bytes}
use Rattle.image_rows.proofs.Pieces.{four_back, piece, two_pieces}

-- ---- a list by the heads of its entries

abbrev pub headed : ℕ → List Entry → List Headed
headed least [] = []
headed least (entry ∷ entries) = (entry.0 + 1 - least, hit_list entry.1) ∷ headed (entry.0 + 1) entries

headed_many : (least : ℕ) (entries : List Entry) → length (headed least entries) ≡ length entries
headed_many least [] = refl
headed_many least (e ∷ entries) = ap suc (headed_many (e.0 + 1) entries)

headed_fit : (rows least : ℕ) (entries : List Entry) → AreEntries rows least entries → AllFit and_entry IsHeaded tt (headed least entries)
headed_fit rows least [] are = tt
headed_fit rows least (e ∷ entries) are = (record { distance = omega (arith, are.0.counted); size = omega (arith, list_short e.1 are.0.are) }, headed_fit rows (e.0 + 1) entries are.2)

headed_spelled : (least : ℕ) (entries : List Entry) → spelled headed_bytes and_entry tt (headed least entries) ≡ posting_list least entries
headed_spelled least [] = refl
headed_spelled least (e ∷ entries) =
    ap (λ l. l ++ spelled headed_bytes and_entry tt (headed (e.0 + 1) entries)) (sym (append_assoc (number (e.0 + 1 - least)) (number (length (hit_list e.1))) (hit_list e.1)))
    ∙ ap (λ l. posting least e.0 e.1 ++ l) (headed_spelled (e.0 + 1) entries)

-- ---- where lists end

left_count : (n : ℕ) (lists : List (List Headed)) → left_by and_list n lists ≡ n + length lists
left_count n [] = omega arith
left_count n (l ∷ lists) = omega (arith, left_count (n + 1) lists)

-- the place behind one more list
pub record Further (table postings : List ℕ) (n place : ℕ) (rest : List ℕ) : Type 0 where
  pub at : EndAt table postings n place
  pub left : at.rest ≡ rest

end_more : (table postings : List ℕ) (rows n place : ℕ) (list : List Entry) (rest : List ℕ) → Further table postings n place (posting_list 0 list ++ rest)
    → IsList table rows n list → Further table postings (n + 1) (place + length (posting_list 0 list)) rest
end_more table postings rows n place list rest is own =
    let one = headed 0 list in
    let before = is.at.lists in
    let bytes : headed_list n one ≡ posting_list 0 list = headed_spelled 0 list in
    let number : left_by and_list 0 before ≡ n = omega (arith, left_count 0 before, is.at.counted) in
    let its : IsHeadedList table n one = record { counted = headed_many 0 list ∙ own.counted; fit = headed_fit rows 0 list own.are } in
    let more : spelled headed_list and_list 0 (before ++ one ∷ []) ≡ spelled headed_list and_list 0 before ++ posting_list 0 list = spell_more headed_list and_list (IsHeadedList table) 0 before one
    ∙ ap (λ l. spelled headed_list and_list 0 before ++ l) bytes in
    let size : length (spelled headed_list and_list 0 (before ++ one ∷ [])) ≡ place + length (posting_list 0 list) = ap length more
    ∙ length-append (spelled headed_list and_list 0 before) (posting_list 0 list) ∙ ap (λ k. k + length (posting_list 0 list)) (sym is.at.place_is) in
    record {
      at = record {
        lists = before ++ one ∷ [];
        rest = rest;
        counted = length-append before (one ∷ []) ∙ ap (λ k. k + 1) is.at.counted;
        fit = fit_more headed_list and_list (IsHeadedList table) 0 before one is.at.fit (subst (λ k. IsHeadedList table k one) (sym number) its);
        is = is.at.is ∙ ap (λ l. spelled headed_list and_list 0 before ++ l) is.left
            ∙ sym (append_assoc (spelled headed_list and_list 0 before) (posting_list 0 list) rest) ∙ ap (λ l. l ++ rest) (sym more);
        place_is = sym size;
      };
      left = refl;
    }

pub at_front : (table postings : List ℕ) → Further table postings 0 0 postings
at_front table postings = record { at = record { lists = []; rest = postings; counted = refl; fit = tt; is = refl; place_is = refl }; left = refl }

-- ---- the entries of words

entry_times : (n : ℕ) → 12 * suc n ≡ 12 + 12 * n
entry_times n = omega arith

entry_is : (table : List ℕ) (n a c b : ℕ) → IsBytes table → 12 * n + 12 ≤ length table → word_place table n ≡ a → row_count table n ≡ c → list_place table n ≡ b
    → piece 12 (12 * n) table ≡ to_le_bytes w32 a ++ to_le_bytes w32 c ++ to_le_bytes w32 b
entry_is table n a c b fit long first second third =
    let one = four_back (12 * n) table fit (omega (arith, long)) in
    let two = four_back (12 * n + 4) table fit (omega (arith, long)) in
    let three = four_back (12 * n + 8) table fit (omega (arith, long)) in
    two_pieces (4 + 4) 4 (12 * n) table ∙ ap (λ l. l ++ piece 4 (12 * n + 8) table) (two_pieces 4 4 (12 * n) table)
    ∙ ap (λ l. l ++ piece 4 (12 * n + 4) table ++ piece 4 (12 * n + 8) table) (sym one ∙ ap (to_le_bytes w32) first)
    ∙ ap (λ l. to_le_bytes w32 a ++ l ++ piece 4 (12 * n + 8) table) (sym two ∙ ap (to_le_bytes w32) second)
    ∙ ap (λ l. to_le_bytes w32 a ++ to_le_bytes w32 c ++ l) (sym three ∙ ap (to_le_bytes w32) third)

pub entries_are : (table postings : List ℕ) (rows n a b : ℕ) (words : List (List ℕ)) (lists : List (List Entry)) → IsBytes table → length words ≡ length lists
    → 12 * n + 12 * length words ≤ length table
    → AllFit and_word (IsEntered table postings rows) (n, a) words → AllFit and_entries (IsList table rows) n lists → Further table postings n b (lists_bytes lists)
    → piece (12 * length words) (12 * n) table ≡ entries_bytes a b words lists
entries_are table postings rows n a b [] lists fit same long entered listed is = refl
entries_are table postings rows n a b (w ∷ words) [] fit same long entered listed is = absurd (omega (arith, same))
entries_are table postings rows n a b (w ∷ words) (l ∷ lists) fit same long entered listed is =
    let here = entry_is table n a (length l) b fit (omega (arith, long)) entered.0.place (sym listed.0.counted) (entered.0.list b is.at) in
    let next : 12 * n + 12 ≡ 12 * (n + 1) = omega arith in
    let rest = entries_are table postings rows (n + 1) (a + 1 + length w) (b + length (posting_list 0 l)) words lists fit (omega (arith, same)) (omega (arith, long)) entered.1 listed.1 (end_more table postings rows n b l (lists_bytes lists) is listed.0) in
    ap (λ k. piece k (12 * n) table) (entry_times (length words)) ∙ two_pieces 12 (12 * length words) (12 * n) table
    ∙ ap (λ e. e ++ piece (12 * length words) (12 * n + 12) table) here
    ∙ ap (λ e. to_le_bytes w32 a ++ to_le_bytes w32 (length l) ++ to_le_bytes w32 b ++ e) (ap (λ k. piece (12 * length words) k table) next ∙ rest)

-- ---- what is said of each list

pub some_entries : (table postings : List ℕ) (rows n a : ℕ) (words : List (List ℕ)) (lists : List (List Entry)) → length words ≡ length lists
    → AllFit and_word (IsEntered table postings rows) (n, a) words → AllFit and_entries (IsList table rows) n lists
    → AllByRecursion (λ (list : List Entry). 1 ≤ length list) lists
some_entries table postings rows n a words [] same entered listed = tt
some_entries table postings rows n a [] (l ∷ lists) same entered listed = absurd (omega (arith, same))
some_entries table postings rows n a (w ∷ words) (l ∷ lists) same entered listed = (omega (arith, listed.0.counted, entered.0.some), some_entries table postings rows (n + 1) (a + 1 + length w) words lists (omega (arith, same)) entered.1 listed.1)

pub all_entries : (table : List ℕ) (rows n : ℕ) (lists : List (List Entry)) → AllFit and_entries (IsList table rows) n lists → AllByRecursion (AreEntries rows 0) lists
all_entries table rows n [] listed = tt
all_entries table rows n (l ∷ lists) listed = (listed.0.are, all_entries table rows (n + 1) lists listed.1)
