-- Words of a dictionary one at a time.
use Rattle.std.proofs.Common.{◌≡◌, true, false, ℕ, zero, suc, ◌+◌, ◌-◌, ◌<◌, ◌≤◌, List, [], ◌∷◌, ◌++◌, length, get_or, take, drop, refl, sym, ap, subst, ◌∙◌, arith, add-one, length-append}
use Rattle.std.proofs.Math.Seq.{drop-cons, take-append_seam}
use Rattle.std.proofs.lemmas.List.{drop-drop, length-drop, length-take, take-append-drop}
use Rattle.std.specs.Str.{IsUtf8, is_utf8}
use Rattle.std.specs.Cmp.Lexicographic.{slice_cmp}
use Rattle.std.specs.Ordering.{nat_cmp}
use Rattle.std.specs.declared.cmp.Ordering.TheVariants.{Less}
use Rattle.std.proofs.lemmas.Str.{IsUtf8-from_is_utf8, is_utf8-from_IsUtf8}
use Rattle.chunk_image.specs.ChunkImage.{word_bytes}
use Rattle.item_lists.specs.Items.{spelled}
use Rattle.item_lists.specs.steps.Places.{IsItemAt}
use Rattle.item_lists.proofs.Reading.{Gone, all_read, gone_more, gone_none, left_wrong, none_wrong}
use Rattle.chunk_damage.specs.WordOrder.{IsNextWord, and_word, bytes_of}
use Rattle.image_words.specs.Parts.{AreOrderedIn, IsBadWordIn}

-- a word that is there
first_of : (bytes : List ℕ) (at : ℕ) → at < length bytes → drop at bytes ≡ get_or bytes at 0 ∷ drop (at + 1) bytes
first_of bytes at h = rw (add-one at) (drop-cons bytes at 0 h)

-- its length, and its bytes
pub record There (bytes : List ℕ) (at : ℕ) (word rest : List ℕ) : Type 0 where
  pub within : at < length bytes
  pub size : get_or bytes at 0 ≡ length word
  pub word_is : take (length word) (drop (at + 1) bytes) ≡ word
  pub long : at + 1 + length word ≤ length bytes

pub there : (bytes : List ℕ) (at : ℕ) (word rest : List ℕ) → drop at bytes ≡ word_bytes word ++ rest → There bytes at word rest
there bytes at word rest e =
    let long : length (drop at bytes) ≡ suc (length word + length rest) = ap length e ∙ ap suc (length-append word rest) in
    let low : at < length bytes = omega (arith, long, length-drop at bytes) in
    let split : get_or bytes at 0 ∷ drop (at + 1) bytes ≡ length word ∷ (word ++ rest) = sym (first_of bytes at low) ∙ e in
    let tail : drop (at + 1) bytes ≡ word ++ rest = cc in
    record { within = low; size = cc; word_is = ap (take (length word)) tail ∙ take-append_seam word rest; long = omega (arith, long, length-drop at bytes) }

pub found : (bytes : List ℕ) (at : ℕ) (before word : List ℕ) → at < length bytes → at + 1 + length word ≤ length bytes → get_or bytes at 0 ≡ length word → word ≡ take (length word) (drop (at + 1) bytes) → IsNextWord before word → IsItemAt bytes_of IsNextWord bytes at before word (drop (at + 1 + length word) bytes)
found bytes at before word low long size is fits = record {
  fits = fits;
  here = first_of bytes at low ∙ ap (λ n. n ∷ drop (at + 1) bytes) size ∙ ap (λ l. length word ∷ l) (sym (take-append-drop (length word) (drop (at + 1) bytes)) ∙ ap (λ l. take (length word) (drop (at + 1) bytes) ++ l) (drop-drop (length word) (at + 1) bytes) ∙ ap (λ l. l ++ drop (at + 1 + length word) bytes) (sym is));
}

abbrev pub NoWord : List ℕ → ℕ → List ℕ → Type 0
NoWord bytes at before = (word rest : List ℕ) → IsItemAt bytes_of IsNextWord bytes at before word rest → ⊥

pub past_end : (bytes : List ℕ) (at : ℕ) (before : List ℕ) → length bytes ≤ at → NoWord bytes at before
past_end bytes at before past word rest is = absurd (omega (arith, past, (there bytes at word rest is.here).within))

pub cut_short : (bytes : List ℕ) (at : ℕ) (before : List ℕ) → length bytes - at ≤ get_or bytes at 0 → NoWord bytes at before
cut_short bytes at before short word rest is = let t = there bytes at word rest is.here in absurd (omega (arith, short, t.size, t.long))

pub empty_word : (bytes : List ℕ) (at : ℕ) (before : List ℕ) → get_or bytes at 0 ≡ 0 → NoWord bytes at before
empty_word bytes at before none word rest is = absurd (omega (arith, none, (there bytes at word rest is.here).size, is.fits.is.some))

pub long_word : (bytes : List ℕ) (at : ℕ) (before : List ℕ) → 168 < get_or bytes at 0 → NoWord bytes at before
long_word bytes at before high word rest is = absurd (omega (arith, high, (there bytes at word rest is.here).size, is.fits.is.short))

-- the word that would be there isn't one
pub not_text : (bytes : List ℕ) (at : ℕ) (before text : List ℕ) → text ≡ take (get_or bytes at 0) (drop (at + 1) bytes) → is_utf8 text ≡ false → NoWord bytes at before
not_text bytes at before text e not word rest is =
    let t = there bytes at word rest is.here in
    let same : text ≡ word = e ∙ ap (λ n. take n (drop (at + 1) bytes)) t.size ∙ t.word_is in
    let yes_is : is_utf8 text ≡ true = is_utf8-from_IsUtf8 text (subst IsUtf8 (sym same) is.fits.is.utf8) in
    absurd cc

pub not_above : (bytes : List ℕ) (at : ℕ) (before text : List ℕ) → text ≡ take (get_or bytes at 0) (drop (at + 1) bytes) → (slice_cmp nat_cmp before text ≡ Less → ⊥) → NoWord bytes at before
not_above bytes at before text e not word rest is =
    let t = there bytes at word rest is.here in
    let same : text ≡ word = e ∙ ap (λ n. take n (drop (at + 1) bytes)) t.size ∙ t.word_is in
    not (ap (slice_cmp nat_cmp before) same ∙ is.fits.above)

pub word_found : (bytes : List ℕ) (at size : ℕ) (before text : List ℕ) → at < length bytes → size ≡ get_or bytes at 0 → size < length bytes - at → 1 ≤ size → size ≤ 168 → text ≡ take size (drop (at + 1) bytes) → is_utf8 text ≡ true → slice_cmp nat_cmp before text ≡ Less
    → (rest : List ℕ) × IsItemAt bytes_of IsNextWord bytes at before text rest
word_found bytes at size before text low s fits some short e utf8 above =
    let long : length text ≡ size = ap length e ∙ short_take in
    (drop (at + 1 + length text) bytes, found bytes at before text low (omega (arith, long, fits)) (sym s ∙ sym long) (e ∙ ap (λ n. take n (drop (at + 1) bytes)) (sym long)) (record { is = record { some = omega (arith, long, some); short = omega (arith, long, short); utf8 = IsUtf8-from_is_utf8 text utf8 }; above = above }))
  where
    short_take : length (take size (drop (at + 1) bytes)) ≡ size
    short_take = omega (arith, length-take size (drop (at + 1) bytes), length-drop (at + 1) bytes, fits)

-- so many words were read up to this place, of which this is the last one
abbrev pub Last : List ℕ → ℕ → ℕ → ℕ → Type 0
Last bytes last at zero = (last ≡ 0) × (at ≡ 0)
Last bytes last at (suc i) = (earlier : List (List ℕ)) × (word : List ℕ) × (rest : List ℕ) × (before : List ℕ) × Gone bytes_of and_word IsNextWord bytes 0 last [] before i earlier × IsItemAt bytes_of IsNextWord bytes last before word rest × (at ≡ last + length (bytes_of before word))

pub record Words (bytes : List ℕ) (at last i : ℕ) (before : List ℕ) : Type 0 where
  pub list : List (List ℕ)
  pub gone : Gone bytes_of and_word IsNextWord bytes 0 at [] before i list
  pub its_last : Last bytes last at i

pub words_none : (bytes : List ℕ) → Words bytes 0 0 0 []
words_none bytes = record { list = []; gone = gone_none bytes_of and_word IsNextWord bytes 0 []; its_last = (refl, refl) }

pub words_more : (bytes : List ℕ) (at end last i : ℕ) (before word rest : List ℕ) → Words bytes at last i before → IsItemAt bytes_of IsNextWord bytes at before word rest → end ≡ at + 1 + length word → Words bytes end at (i + 1) word
words_more bytes at end last i before word rest w is e =
    let size : end ≡ at + length (bytes_of before word) = omega (arith, e) in
    record {
      list = w.list ++ word ∷ [];
      gone = gone_more bytes_of and_word IsNextWord bytes 0 at end [] before i w.list word rest w.gone is size;
      its_last = subst (Last bytes at end) (sym (add-one i)) (w.list, word, rest, before, w.gone, is, size);
    }

pub words_stop : (bytes : List ℕ) (at last i count : ℕ) (before : List ℕ) → Words bytes at last i before → i < count → NoWord bytes at before → IsBadWordIn count bytes at
words_stop bytes at last i count before w low none = none_wrong bytes_of and_word IsNextWord bytes at [] before i count w.list w.gone low none

pub words_left : (bytes : List ℕ) (at last i count : ℕ) (before : List ℕ) → Words bytes at last i before → i ≡ count → (count ≡ 0 → length bytes ≡ 0) → (at ≡ length bytes → ⊥) → IsBadWordIn count bytes last
words_left bytes at last zero count before w e none more = absurd (more (w.its_last.1 ∙ sym (none (sym e))))
words_left bytes at last (suc i) count before w e none more =
    let l = w.its_last in
    left_wrong bytes_of and_word IsNextWord bytes last at [] l.3 i count l.0 l.1 l.2 l.4 (omega (arith, e)) l.5 l.6 not_past
  where
    not_past : at < length bytes
    not_past =
        let long : length bytes ≡ length (spelled bytes_of and_word [] w.list) + length (drop at bytes) = ap length w.gone.here ∙ length-append (spelled bytes_of and_word [] w.list) (drop at bytes) in
        omega (arith, long, w.gone.place, more)

pub words_all : (bytes : List ℕ) (at last i count : ℕ) (before : List ℕ) → Words bytes at last i before → i ≡ count → at ≡ length bytes → (list : List (List ℕ)) × AreOrderedIn count bytes list
words_all bytes at last i count before w e all = (w.list, all_read bytes_of and_word IsNextWord bytes at [] before i count w.list w.gone e all)
