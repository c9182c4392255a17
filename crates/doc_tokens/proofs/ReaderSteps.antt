-- The reader, sign by sign.
use Rattle.std.proofs.Common.{◌≡◌, ℕ, ◌+◌, ◌-◌, ◌<◌, ◌≤◌, Bool, true, false, cond, nat_lt, List, [], ◌∷◌, ◌++◌, All, length, map, take, min, Option, Some, None, Result, Ok, Err, IsUtf8, refl, sym, ◌∙◌, ap, subst, arith, append_assoc, append-nil, length-append, encode_utf8_all}
use Rattle.std.specs.Prelude.{find}
use Rattle.std.specs.Char.{encode_utf8}
use Rattle.std.specs.Str.{IsAscii}
use Rattle.std.specs.String.{string_bytes}
use Rattle.std.proofs.lemmas.List.{length-take, map-append, length_push, take_min}
use Rattle.std.specs.Option.{option_or}
use Rattle.std.proofs.lemmas.Bool.Decides.{nat_tests}
use Rattle.std.proofs.lemmas.List.Elements.{All-push, All-head, All-tail}
use Rattle.std.proofs.lemmas.List.Folds.{find-append}
use Rattle.std.proofs.lemmas.Str.{length-le-encodes, encodes-IsAscii, IsAscii-take}
use Rattle.doc_types.specs.declared.tokens.TheConstants.{MAX_POSITION}
use Rattle.doc_types.specs.declared.tokens.Gap.TheVariants as gaps
use Rattle.doc_types.specs.declared.tokens.TokenWord.{TokenWord}
use Rattle.doc_types.specs.Documents.{step, IsWord}
use Rattle.srch_base.specs.declared.faults.Or.{Or}
use Rattle.srch_base.specs.declared.faults.Or.TheVariants as causes
use Rattle.doc_tokens.specs.declared.field.TooLong.{TooLong}
use Rattle.doc_tokens.specs.declared.reader.Reader.{Reader}
use Rattle.doc_tokens.specs.declared.sign.TextSign.{TextSign}
use Rattle.doc_tokens.specs.declared.sign.TextSign.TheVariants as signs
use Rattle.doc_tokens.specs.Words.{Segment, segments, word_of}
use Rattle.doc_tokens.specs.Spans.{tags_after}
use Rattle.doc_tokens.specs.Tokens.{first_above}
use Rattle.doc_tokens.specs.steps.TokenReader.{gap_after, signs_ahead, word_after, words_after, all_words, BeginApart, Holds, Wants, EndsRun, ReadsSign, ReadsSome, Finds, IsFound}
use Rattle.doc_tokens.proofs.Runs.{segments_run, apart_before, ahead_letters, word_more, encodes_short}
use Rattle.doc_tokens.proofs.WordLists.{all_positions}

-- tests of numbers
not_below : (m n : ℕ) → n ≤ m → nat_lt m n ≡ false
not_below m n h = grind (arith, nat_tests)

is_below : (m n : ℕ) → m < n → nat_lt m n ≡ true
is_below m n h = grind (arith, nat_tests)

-- letters join the run, of which as many are kept as there is room for
pub letters_joined : (all : List TextSign) (old new : Reader) (letters more : List ℕ) (kept : ℕ) (rest : List TextSign)
    → new.found ≡ old.found → new.position ≡ old.position → new.gap ≡ old.gap
    → kept ≡ min (42 - old.letters) (length more)
    → string_bytes new.run ≡ string_bytes old.run ++ encode_utf8_all (take kept more) → new.letters ≡ old.letters + kept
    → Holds all old letters (signs_ahead more rest) → Holds all new (letters ++ more) rest
letters_joined all old new letters more kept rest found position gap room run_is count holds =
    let ahead = sym (ahead_letters letters more rest) in
    let had = holds.count in
    let size = length-take 42 letters in
    let taken = length-take 42 (letters ++ more) in
    let both = length-append letters more in
    let room_is : kept ≡ min (42 - length letters) (length more) = omega (arith, room, had, size) in
    let front : take kept more ≡ take (42 - length letters) more = ap (λ (n : ℕ). take n more) room_is ∙ take_min (42 - length letters) more in
    record {
      run = run_is ∙ (λ i. holds.run i ++ encode_utf8_all (front i)) ∙ sym (word_more letters more);
      count = omega (arith, room, had, size, taken, both, count);
      words = (λ i. (found i).words.items ++ words_after (position i) (gap i) (segments (ahead i))) ∙ holds.words;
      tags = (λ i. (found i).tags.items ++ tags_after (length (found i).words.items) (segments (ahead i))) ∙ holds.tags;
      below = subst (λ f. All (λ (w : TokenWord). w.position ≤ MAX_POSITION) f.words.items) (sym found) holds.below;
      sound = subst (λ f. All (λ (w : TokenWord). IsWord w.word) f.words.items) (sym found) holds.sound;
    }

-- a run that has no letter has ended
nothing_taken : (letters : List ℕ) → length (take 42 letters) ≡ 0 → letters ≡ []
nothing_taken [] none = refl
nothing_taken (c ∷ letters) none = absurd (omega (arith, none))

pub holds_nothing : (all : List TextSign) (reader : Reader) (letters : List ℕ) (rest : List TextSign) → reader.letters ≡ 0 → Holds all reader letters rest → Holds all reader [] rest
holds_nothing all reader letters rest none holds =
    subst (λ (l : List ℕ). Holds all reader l rest) (nothing_taken letters (sym holds.count ∙ none)) holds

-- the word of a run
run_is_word : (c : ℕ) (letters : List ℕ) → IsUtf8 (word_of (c ∷ letters)) → IsWord (word_of (c ∷ letters))
run_is_word c letters utf8 =
    let kept = take 42 (c ∷ letters) in
    let count = length-take 42 (c ∷ letters) in
    let some = length-le-encodes kept in
    let few = encodes_short kept in
    record {
      some = omega (arith, count, some);
      short = omega (arith, count, few);
      utf8 = utf8;
    }

-- the run has ended: its word stands after the others
pub holds_word : (all : List TextSign) (old new : Reader) (c : ℕ) (letters : List ℕ) (rest : List TextSign) → BeginApart rest → IsUtf8 (string_bytes old.run)
    → old.position + step (gap_after old.position old.gap) ≤ MAX_POSITION
    → string_bytes new.run ≡ [] → new.letters ≡ 0 → new.position ≡ old.position + step (gap_after old.position old.gap) → new.gap ≡ gaps.None
    → new.found.tags.items ≡ old.found.tags.items
    → new.found.words.items ≡ old.found.words.items ++ record (word_after old.position old.gap []) { word = string_bytes old.run } ∷ []
    → Holds all old (c ∷ letters) rest → Holds all new [] rest
holds_word all old new c letters rest apart utf8 within run_is count position gap tags words holds =
    let is = segments_run c letters rest apart in
    let word : TokenWord = word_after old.position old.gap (c ∷ letters) in
    let words_are : new.found.words.items ≡ old.found.words.items ++ word ∷ [] =
    words ∙ ap (λ (w : List ℕ). old.found.words.items ++ record word { word = w } ∷ []) holds.run in
    let sound = run_is_word c letters (subst IsUtf8 holds.run utf8) in
    record {
      run = run_is;
      count = count;
      words =
          (λ i. words_are i ++ words_after (position i) (gap i) (segments rest))
          ∙ append_assoc old.found.words.items (word ∷ []) _
          ∙ ap (λ (ps : List Segment). old.found.words.items ++ words_after old.position old.gap ps) (sym is)
          ∙ holds.words;
      tags =
          (λ i. tags i ++ tags_after (length (words_are i)) (segments rest))
          ∙ ap (λ (n : ℕ). old.found.tags.items ++ tags_after n (segments rest)) (length_push old.found.words.items word)
          ∙ ap (λ (ps : List Segment). old.found.tags.items ++ tags_after (length old.found.words.items) ps) (sym is)
          ∙ holds.tags;
      below = subst (All (λ (w : TokenWord). w.position ≤ MAX_POSITION)) (sym words_are) (All-push (λ (w : TokenWord). w.position ≤ MAX_POSITION) old.found.words.items word holds.below within);
      sound = subst (All (λ (w : TokenWord). IsWord w.word)) (sym words_are) (All-push (λ (w : TokenWord). IsWord w.word) old.found.words.items word holds.sound sound);
    }

-- no word up to the limit is above it
pub none_above : (words : List TokenWord) → All (λ (w : TokenWord). w.position ≤ MAX_POSITION) words → find (λ (p : ℕ). nat_lt MAX_POSITION p) (map (λ (w : TokenWord). w.position) words) ≡ None
none_above [] below = refl
none_above (word ∷ words) below =
    let here : word.position ≤ MAX_POSITION = All-head (λ (w : TokenWord). w.position ≤ MAX_POSITION) word words below in
    let rest = none_above words (All-tail (λ (w : TokenWord). w.position ≤ MAX_POSITION) word words below) in
    ap (λ (b : Bool). cond b (Some word.position) (find (λ (p : ℕ). nat_lt MAX_POSITION p) (map (λ (w : TokenWord). w.position) words))) (not_below MAX_POSITION word.position here) ∙ rest

-- a word above the limit is the first one
pub word_above : (all : List TextSign) (old : Reader) (c : ℕ) (letters : List ℕ) (rest : List TextSign) (position : ℕ) → BeginApart rest
    → MAX_POSITION < position → position ≡ old.position + step (gap_after old.position old.gap)
    → Holds all old (c ∷ letters) rest → first_above (segments all) ≡ Some position
word_above all old c letters rest position apart above is holds =
    let test : ℕ → Bool = λ p. nat_lt MAX_POSITION p in
    let at : TokenWord → ℕ = λ w. w.position in
    let found = old.found.words.items in
    let word : TokenWord = word_after old.position old.gap (c ∷ letters) in
    let later = words_after word.position gaps.None (segments rest) in
    let words : all_words (segments all) ≡ found ++ word ∷ later =
    sym holds.words ∙ ap (λ (ps : List Segment). found ++ words_after old.position old.gap ps) (segments_run c letters rest apart) in
    ap (find test) (sym (all_positions (segments all)) ∙ ap (map at) words ∙ map-append at found (word ∷ later))
    ∙ find-append test (map at found) (map at (word ∷ later))
    ∙ ap (λ (o : Option ℕ). option_or o (find test (map at (word ∷ later)))) (none_above found holds.below)
    ∙ ap (λ (b : Bool). cond b (Some word.position) (find test (map at later))) (is_below MAX_POSITION word.position (subst (λ (p : ℕ). MAX_POSITION < p) is above))
    ∙ ap Some (sym is)

-- the same for any letters, of which the reader has some
pub run_above : (all : List TextSign) (old : Reader) (letters : List ℕ) (rest : List TextSign) (position : ℕ) → (old.letters ≡ 0 → ⊥) → BeginApart rest
    → MAX_POSITION < position → position ≡ old.position + step (gap_after old.position old.gap)
    → Holds all old letters rest → first_above (segments all) ≡ Some position
run_above all old [] rest position some apart above is holds = absurd (some holds.count)
run_above all old (c ∷ letters) rest position some apart above is holds = word_above all old c letters rest position apart above is holds

pub run_ended : (all : List TextSign) (old new : Reader) (letters : List ℕ) (rest : List TextSign) → (old.letters ≡ 0 → ⊥) → BeginApart rest → IsUtf8 (string_bytes old.run)
    → old.position + step (gap_after old.position old.gap) ≤ MAX_POSITION
    → string_bytes new.run ≡ [] → new.letters ≡ 0 → new.position ≡ old.position + step (gap_after old.position old.gap) → new.gap ≡ gaps.None
    → new.found.tags.items ≡ old.found.tags.items
    → new.found.words.items ≡ old.found.words.items ++ record (word_after old.position old.gap []) { word = string_bytes old.run } ∷ []
    → Holds all old letters rest → Holds all new [] rest
run_ended all old new [] rest some apart utf8 within run_is count position gap tags words holds = absurd (some holds.count)
run_ended all old new (c ∷ letters) rest some apart utf8 within run_is count position gap tags words holds = holds_word all old new c letters rest apart utf8 within run_is count position gap tags words holds

-- a letter joins a run that isn't cut, and one that is
pub letter_kept : (all : List TextSign) (old new : Reader) (letters : List ℕ) (c : ℕ) (rest : List TextSign)
    → new.found ≡ old.found → new.position ≡ old.position → new.gap ≡ old.gap → old.letters < 42
    → string_bytes new.run ≡ string_bytes old.run ++ encode_utf8 c → new.letters ≡ old.letters + 1
    → Holds all old letters (signs.Letter c ∷ rest) → Holds all new (letters ++ c ∷ []) rest
letter_kept all old new letters c rest found position gap below run_is count holds =
    letters_joined all old new letters (c ∷ []) 1 rest found position gap (omega (arith, below))
    (run_is ∙ ap (λ (bytes : List ℕ). string_bytes old.run ++ bytes) (sym (append-nil (encode_utf8 c)))) count holds

pub letter_cut : (all : List TextSign) (old : Reader) (letters : List ℕ) (c : ℕ) (rest : List TextSign) → 42 ≤ old.letters → Holds all old letters (signs.Letter c ∷ rest) → Holds all old (letters ++ c ∷ []) rest
letter_cut all old letters c rest full holds =
    letters_joined all old old letters (c ∷ []) 0 rest refl refl refl (omega (arith, full)) (sym (append-nil (string_bytes old.run))) (omega arith) holds

-- ASCII letters join a run, as many of them as there is room for
pub run_joined : (all : List TextSign) (old new : Reader) (run piece : List ℕ) (kept : ℕ) (rest : List TextSign)
    → new.found ≡ old.found → new.position ≡ old.position → new.gap ≡ old.gap → IsAscii run
    → kept ≡ min (42 - old.letters) (length run) → piece ≡ take kept run
    → string_bytes new.run ≡ string_bytes old.run ++ piece → new.letters ≡ old.letters + kept
    → Wants all old (signs_ahead run rest) → Wants all new rest
run_joined all old new run piece kept rest found position gap ascii room piece_is run_is count wants = record {
  letters = wants.letters ++ run;
  holds = letters_joined all old new wants.letters run kept rest found position gap room
      (run_is ∙ ap (λ (bytes : List ℕ). string_bytes old.run ++ bytes) (piece_is ∙ sym (encodes-IsAscii (take kept run) (IsAscii-take run kept ascii))))
      count wants.holds;
}

-- a sign that can't be read for the word before it
pub read_above : (old new : Reader) (sign : TextSign) (fault : Or TooLong) → BeginApart (sign ∷ []) → EndsRun old new (Err fault) → ReadsSign old sign new (Err fault)
read_above old new sign causes.NoMemory apart ends = tt
read_above old new sign (causes.Fault too_long) apart ends = λ all rest wants. ends all wants.letters (sign ∷ rest) (apart_before sign rest apart) wants.holds

pub finish_above : (old new : Reader) (fault : Or TooLong) (all : List TextSign) → EndsRun old new (Err fault) → Wants all old [] → Finds all (Err fault)
finish_above old new causes.NoMemory all ends wants = tt
finish_above old new (causes.Fault too_long) all ends wants = ends all wants.letters [] tt wants.holds

-- all was read
pub all_found : (all : List TextSign) (reader : Reader) → Holds all reader [] [] → IsFound all reader.found
all_found all reader holds = record {
  words = sym (append-nil reader.found.words.items) ∙ holds.words;
  tags = sym (append-nil reader.found.tags.items) ∙ holds.tags;
  below = holds.below;
  sound = holds.sound;
}

-- a sign that was read is a list of one
pub some_read : (old : Reader) (sign : TextSign) (new : Reader) (result : Result (Unit {0}) (Or TooLong)) → ReadsSign old sign new result → ReadsSome old (sign ∷ []) new result
some_read old sign new (Ok done) reads = reads
some_read old sign new (Err causes.NoMemory) reads = tt
some_read old sign new (Err (causes.Fault too_long)) reads = reads
