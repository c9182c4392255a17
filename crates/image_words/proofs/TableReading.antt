-- The word table, one word at a time.
use Rattle.std.proofs.Common.{◌≡◌, ℕ, zero, suc, ◌+◌, ◌-◌, ◌*◌, ◌<◌, ◌≤◌, List, [], ◌∷◌, ◌++◌, Option, Some, None, IfSome, MatchOption, length, get_or, take, drop, refl, sym, ap, subst, ◌∙◌, arith, add-one, append_assoc, length-append}
use Rattle.chunk_image.specs.ChunkImage.{word_bytes}
use Rattle.posting_codec.proofs.HitSteps.{behind}
use Rattle.item_lists.specs.Items.{AllFit, left_by, spelled}
use Rattle.item_lists.specs.steps.Places.{IsItemAt}
use Rattle.item_lists.proofs.Reading.{Gone, fit_more, gone_more, gone_none, left_wrong, none_wrong, one_list, spell_more, front}
use Rattle.std.proofs.Math.Seq.{drop-cons}
use Rattle.std.proofs.lemmas.List.{length-drop, length-take, take-append-drop}
use Rattle.image_words.proofs.Ordered.{there}
use Rattle.chunk_damage.proofs.WordsApart.{headed_lists_apart}
use Rattle.chunk_damage.specs.Header.{four_in}
use Rattle.chunk_damage.specs.WordTable.{EndAt, Headed, IsEntered, IsHeadedList, and_list, and_word, bytes_of, headed_list, row_count}
use Rattle.image_words.specs.Parts.{IsBadEntryIn}
use Rattle.image_words.specs.steps.Heads.{AreHeadedAt, IsWordAt, ListEnds}

count_on : (table : List ℕ) (n : ℕ) (lists : List (List Headed)) → left_by and_list n lists ≡ n + length lists
count_on table n [] = omega arith
count_on table n (l ∷ ls) = omega (arith, count_on table (n + 1) ls)

pub end_none : (table postings : List ℕ) → EndAt table postings 0 0
end_none table postings = record { lists = []; rest = postings; counted = refl; fit = tt; is = refl; place_is = refl }

pub end_more : (table postings : List ℕ) (words place count end : ℕ) (entries : List Headed) (rest : List ℕ) → EndAt table postings words place → count ≡ row_count table words → AreHeadedAt postings place count entries rest → end ≡ place + length (headed_list 0 entries) → EndAt table postings (words + 1) end
end_more table postings words place count end entries rest e c are ends =
    let n : left_by and_list 0 e.lists ≡ words = count_on table 0 e.lists ∙ first_add (length e.lists) ∙ e.counted in
    let fits : IsHeadedList table words entries = record { counted = are.counted ∙ c; fit = are.fit } in
    let left : drop place postings ≡ e.rest = behind postings (spelled headed_list and_list 0 e.lists) e.rest 0 place e.is (omega (arith, e.place_is)) in
    let more : spelled headed_list and_list 0 (e.lists ++ entries ∷ []) ≡ spelled headed_list and_list 0 e.lists ++ headed_list 0 entries = spell_more headed_list and_list (IsHeadedList table) 0 e.lists entries in
    record {
      lists = e.lists ++ entries ∷ [];
      rest = rest;
      counted = length-append e.lists (entries ∷ []) ∙ ap (λ k. k + 1) e.counted;
      fit = fit_more headed_list and_list (IsHeadedList table) 0 e.lists entries e.fit (subst (λ k. IsHeadedList table k entries) (sym n) fits);
      is = e.is ∙ ap (λ l. spelled headed_list and_list 0 e.lists ++ l) (sym left ∙ are.here) ∙ sym (append_assoc (spelled headed_list and_list 0 e.lists) (headed_list 0 entries) rest) ∙ ap (λ l. l ++ rest) (sym more);
      place_is = omega (arith, ends, e.place_is, ap length more, length-append (spelled headed_list and_list 0 e.lists) (headed_list 0 entries));
    }
  where
    first_add : (k : ℕ) → 0 + k ≡ k
    first_add k = omega arith

pub end_stop : (table postings : List ℕ) (words place count : ℕ) → EndAt table postings words place → count ≡ row_count table words → ((entries : List Headed) (rest : List ℕ) → AreHeadedAt postings place count entries rest → ⊥) → (end : ℕ) → EndAt table postings (words + 1) end → ⊥
end_stop table postings words place count e c none end its =
    let parts = front headed_list and_list (IsHeadedList table) (headed_lists_apart table) 0 e.lists its.lists e.rest its.rest e.fit its.fit (omega (arith, e.counted, its.counted)) (sym e.is ∙ its.is) in
    let left : drop place postings ≡ e.rest = behind postings (spelled headed_list and_list 0 e.lists) e.rest 0 place e.is (omega (arith, e.place_is)) in
    by parts.0 parts.1 (left ∙ parts.2) parts.3
  where
    by : (later : List (List Headed)) → its.lists ≡ e.lists ++ later → drop place postings ≡ spelled headed_list and_list (left_by and_list 0 e.lists) later ++ its.rest → AllFit and_list (IsHeadedList table) (left_by and_list 0 e.lists) later → ⊥
    by [] same here fit = absurd (omega (arith, e.counted, its.counted, ap length same, length-append e.lists []))
    by (entries ∷ later) same here fit =
        let n : left_by and_list 0 e.lists ≡ words = count_on table 0 e.lists ∙ first_add (length e.lists) ∙ e.counted in
        none entries (spelled headed_list and_list (left_by and_list 0 e.lists + 1) later ++ its.rest) (record {
          counted = fit.0.counted ∙ ap (row_count table) n ∙ sym c;
          fit = fit.0.fit;
          here = here ∙ append_assoc (headed_list 0 entries) (spelled headed_list and_list (left_by and_list 0 e.lists + 1) later) its.rest;
        })
      where
        first_add : (k : ℕ) → 0 + k ≡ k
        first_add k = omega arith

-- a list with an element has a last one
last_of : (x : List Headed) (xs : List (List Headed)) → (front_of : List (List Headed)) × (last : List Headed) × (x ∷ xs ≡ front_of ++ last ∷ [])
last_of x [] = ([], x, refl)
last_of x (y ∷ ys) = let its = last_of y ys in (x ∷ its.0, its.1, ap (λ l. x ∷ l) its.2)

fit_front : (table : List ℕ) (n : ℕ) (xs ys : List (List Headed)) → AllFit and_list (IsHeadedList table) n (xs ++ ys) → AllFit and_list (IsHeadedList table) n xs
fit_front table n [] ys fit = tt
fit_front table n (x ∷ xs) ys fit = (fit.0, fit_front table (n + 1) xs ys fit.1)

-- where some lists don't end, more don't
pub end_never : (table postings : List ℕ) (words : ℕ) → ((place : ℕ) → EndAt table postings words place → ⊥) → (place : ℕ) → EndAt table postings (words + 1) place → ⊥
end_never table postings words none place its = by its.lists its.counted its.fit its.is
  where
    by : (all : List (List Headed)) → length all ≡ words + 1 → AllFit and_list (IsHeadedList table) 0 all → postings ≡ spelled headed_list and_list 0 all ++ its.rest → ⊥
    by [] count fit is = absurd (omega (arith, count))
    by (x ∷ xs) count fit is =
        let l = last_of x xs in
        let own = spelled headed_list and_list 0 l.0 in
        let tail = headed_list (left_by and_list 0 l.0) l.1 in
        let same : spelled headed_list and_list 0 (x ∷ xs) ≡ own ++ tail = ap (spelled headed_list and_list 0) l.2 ∙ spell_more headed_list and_list (IsHeadedList table) 0 l.0 l.1 in
        none (length own) (record {
          lists = l.0;
          rest = tail ++ its.rest;
          counted = omega (arith, count, ap length l.2, length-append l.0 (l.1 ∷ []));
          fit = fit_front table 0 l.0 (l.1 ∷ []) (subst (λ (k : List (List Headed)). AllFit and_list (IsHeadedList table) 0 k) l.2 fit);
          is = is ∙ ap (λ b. b ++ its.rest) same ∙ append_assoc own tail its.rest;
          place_is = refl;
        })

pub ends_answer : (table postings : List ℕ) (words place count : ℕ) (found : Option ℕ) → EndAt table postings words place → count ≡ row_count table words
    → MatchOption found ((entries : List Headed) (rest : List ℕ) → AreHeadedAt postings place count entries rest → ⊥) (λ end. (entries : List Headed) × (rest : List ℕ) × AreHeadedAt postings place count entries rest × (end ≡ place + length (headed_list 0 entries))) → ListEnds table postings (words + 1) found
ends_answer table postings words place count None e c none = end_stop table postings words place count e c none
ends_answer table postings words place count (Some end) e c read = end_more table postings words place count end read.0 read.1 e c read.2 read.3

pub word_cut : (table dictionary : List ℕ) (rows n at : ℕ) (list : Option ℕ) → length dictionary - at ≤ get_or dictionary at 0 → (word rest : List ℕ) → IsWordAt table dictionary rows n at list word rest → ⊥
word_cut table dictionary rows n at list short word rest is = let t = there dictionary at word rest is.here in absurd (omega (arith, short, t.size, t.long))

pub word_there : (table dictionary : List ℕ) (rows n at size : ℕ) (list : Option ℕ) → at < length dictionary → size ≡ get_or dictionary at 0 → size < 256 → size < length dictionary - at → four_in table (12 * n) ≡ at → 1 ≤ row_count table n → row_count table n ≤ rows → IfSome list (λ place. four_in table (12 * n + 8) ≡ place)
    → (word : List ℕ) × (rest : List ℕ) × IsWordAt table dictionary rows n at list word rest × (at + 1 + size ≡ at + 1 + length word)
word_there table dictionary rows n at size list low s byte enough place some many told =
    let word = take size (drop (at + 1) dictionary) in
    let long : length word ≡ size = omega (arith, length-take size (drop (at + 1) dictionary), length-drop (at + 1) dictionary, enough) in
    let rest = drop size (drop (at + 1) dictionary) in
    let first : drop at dictionary ≡ get_or dictionary at 0 ∷ drop (at + 1) dictionary = rw (add-one at) (drop-cons dictionary at 0 low) in
    let here : drop at dictionary ≡ word_bytes word ++ rest = first ∙ ap (λ k. k ∷ drop (at + 1) dictionary) (sym s ∙ sym long) ∙ ap (λ l. length word ∷ l) (sym (take-append-drop size (drop (at + 1) dictionary))) in
    (word, rest, record { short = omega (arith, long, byte); place = place; some = some; many = many; list = told; here = here }, omega (arith, long))

pub end_one : (table postings : List ℕ) (words a b : ℕ) → EndAt table postings words a → EndAt table postings words b → a ≡ b
end_one table postings words a b ea eb =
    let same = one_list headed_list and_list (IsHeadedList table) (headed_lists_apart table) 0 ea.lists eb.lists ea.rest eb.rest ea.fit eb.fit (ea.counted ∙ sym eb.counted) (sym ea.is ∙ eb.is) in
    ea.place_is ∙ ap (λ l. length (spelled headed_list and_list 0 l)) same.0 ∙ sym eb.place_is

-- ---- a word with its entry

pub entered : (table postings dictionary : List ℕ) (rows n at : ℕ) (list : Option ℕ) (word rest : List ℕ) → ListEnds table postings n list → IsWordAt table dictionary rows n at list word rest → IsItemAt bytes_of (IsEntered table postings rows) dictionary at (n, at) word rest
entered table postings dictionary rows n at None word rest ends is = record { fits = record { short = is.short; place = is.place; some = is.some; many = is.many; list = λ place e. absurd (ends place e) }; here = is.here }
entered table postings dictionary rows n at (Some p) word rest ends is = record { fits = record { short = is.short; place = is.place; some = is.some; many = is.many; list = λ place e. is.list ∙ end_one table postings n p place ends e }; here = is.here }

pub not_entered : (table postings dictionary : List ℕ) (rows n at : ℕ) (list : Option ℕ) → ListEnds table postings n list → ((word rest : List ℕ) → IsWordAt table dictionary rows n at list word rest → ⊥) → (word rest : List ℕ) → IsItemAt bytes_of (IsEntered table postings rows) dictionary at (n, at) word rest → ⊥
not_entered table postings dictionary rows n at None ends none word rest is = none word rest (record { short = is.fits.short; place = is.fits.place; some = is.fits.some; many = is.fits.many; list = tt; here = is.here })
not_entered table postings dictionary rows n at (Some p) ends none word rest is = none word rest (record { short = is.fits.short; place = is.fits.place; some = is.fits.some; many = is.fits.many; list = is.fits.list p ends; here = is.here })

-- what the last word that was read is
abbrev pub Last : List ℕ → List ℕ → ℕ → List ℕ → ℕ → ℕ → ℕ → Type 0
Last table postings rows dictionary last at zero = at ≡ 0
Last table postings rows dictionary last at (suc i) =
    (earlier : List (List ℕ)) × (word : List ℕ) × (rest : List ℕ) × (before : ℕ) × (s : ℕ × ℕ) × Gone bytes_of and_word (IsEntered table postings rows) dictionary 0 before (0, 0) s i earlier × IsItemAt bytes_of (IsEntered table postings rows) dictionary before s word rest × (at ≡ before + length (bytes_of s word)) × (last ≡ i)

pub record Entered (table postings : List ℕ) (rows : ℕ) (dictionary : List ℕ) (at last n : ℕ) (list : Option ℕ) : Type 0 where
  pub words : List (List ℕ)
  pub gone : Gone bytes_of and_word (IsEntered table postings rows) dictionary 0 at (0, 0) (n, at) n words
  pub ends : ListEnds table postings n list
  pub its_last : Last table postings rows dictionary last at n

pub entered_none : (table postings : List ℕ) (rows : ℕ) (dictionary : List ℕ) → Entered table postings rows dictionary 0 0 0 (Some 0)
entered_none table postings rows dictionary = record { words = []; gone = gone_none bytes_of and_word (IsEntered table postings rows) dictionary 0 (0, 0); ends = end_none table postings; its_last = refl }

pub entered_more : (table postings : List ℕ) (rows : ℕ) (dictionary : List ℕ) (at end last n : ℕ) (list next : Option ℕ) (word rest : List ℕ) → Entered table postings rows dictionary at last n list → IsWordAt table dictionary rows n at list word rest → end ≡ at + 1 + length word → ListEnds table postings (n + 1) next
    → Entered table postings rows dictionary end n (n + 1) next
entered_more table postings rows dictionary at end last n list next word rest g is e ends =
    let item = entered table postings dictionary rows n at list word rest g.ends is in
    let size : end ≡ at + length (bytes_of (n, at) word) = omega (arith, e) in
    let more = gone_more bytes_of and_word (IsEntered table postings rows) dictionary 0 at end (0, 0) (n, at) n g.words word rest g.gone item size in
    record {
      words = g.words ++ word ∷ [];
      gone = subst (λ k. Gone bytes_of and_word (IsEntered table postings rows) dictionary 0 end (0, 0) (n + 1, k) (n + 1) (g.words ++ word ∷ [])) (sym e) more;
      ends = ends;
      its_last = subst (Last table postings rows dictionary n end) (sym (add-one n)) (g.words, word, rest, at, (n, at), g.gone, item, size, refl);
    }

pub entered_stop : (table postings : List ℕ) (rows : ℕ) (dictionary : List ℕ) (at last n words : ℕ) (list : Option ℕ) → Entered table postings rows dictionary at last n list → n < words → ((word rest : List ℕ) → IsWordAt table dictionary rows n at list word rest → ⊥)
    → (place : ℕ) × (bad : IsBadEntryIn table postings rows words dictionary place) × (length bad.before ≡ n)
entered_stop table postings rows dictionary at last n words list g low none =
    (at, none_wrong bytes_of and_word (IsEntered table postings rows) dictionary at (0, 0) (n, at) n words g.words g.gone low (not_entered table postings dictionary rows n at list g.ends none), g.gone.counted)

pub entered_left : (table postings : List ℕ) (rows : ℕ) (dictionary : List ℕ) (at last n words : ℕ) (list : Option ℕ) → Entered table postings rows dictionary at last n list → n ≡ words → (words ≡ 0 → length dictionary ≡ 0) → (at ≡ length dictionary → ⊥)
    → (place : ℕ) × (bad : IsBadEntryIn table postings rows words dictionary place) × (length bad.before ≡ last)
entered_left table postings rows dictionary at last zero words list g e none more = absurd (more (g.its_last ∙ sym (none (sym e))))
entered_left table postings rows dictionary at last (suc i) words list g e none more =
    let l = g.its_last in
    (l.3, left_wrong bytes_of and_word (IsEntered table postings rows) dictionary l.3 at (0, 0) l.4 i words l.0 l.1 l.2 l.5 (omega (arith, e)) l.6 l.7 not_past, l.5.counted ∙ sym l.8)
  where
    not_past : at < length dictionary
    not_past =
        let long : length dictionary ≡ length (spelled bytes_of and_word (0, 0) g.words) + length (drop at dictionary) = ap length g.gone.here ∙ length-append (spelled bytes_of and_word (0, 0) g.words) (drop at dictionary) in
        omega (arith, long, g.gone.place, more)
