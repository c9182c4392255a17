-- Words and entries by their heads are told by their bytes.
use Rattle.std.proofs.Common.{◌≡◌, ℕ, List, ◌++◌, length, sym, ap, ◌∙◌, append_assoc}
use Rattle.posting_codec.specs.Numbers.{number}
use Rattle.posting_codec.proofs.Spellings.{one_number}
use Rattle.chunk_image.specs.ChunkImage.{word_bytes}
use Rattle.chunk_image.proofs.Fixed.{parted}
use Rattle.item_lists.specs.Items.{AreApart}
use Rattle.item_lists.proofs.Reading.{one_list}
use Rattle.chunk_damage.specs.WordTable.{IsEntered, IsHeaded, IsHeadedList, and_entry, bytes_of as entered_bytes, headed_bytes, headed_list}
use Rattle.chunk_damage.specs.WordOrder.{IsNextWord, bytes_of as ordered_bytes}

pub one_word : (w v x y : List ℕ) → word_bytes w ++ x ≡ word_bytes v ++ y → (w ≡ v) × (x ≡ y)
one_word w v x y e =
    let size : length w ≡ length v = cc in
    let behind : w ++ x ≡ v ++ y = cc in
    parted w v x y size behind

pub ordered_apart : AreApart ordered_bytes IsNextWord
ordered_apart before w v x y isw isv e = one_word w v x y e

pub entered_apart : (table postings : List ℕ) (rows : ℕ) → AreApart entered_bytes (IsEntered table postings rows)
entered_apart table postings rows before w v x y isw isv e = one_word w v x y e

pub spread : (a b c rest : List ℕ) → (a ++ (b ++ c)) ++ rest ≡ a ++ (b ++ (c ++ rest))
spread a b c rest = append_assoc a (b ++ c) rest ∙ ap (λ l. a ++ l) (append_assoc b c rest)

pub headed_apart : AreApart headed_bytes IsHeaded
headed_apart u e f x y ise isf eq =
    let one = one_number e.0 f.0 (number (length e.1) ++ (e.1 ++ x)) (number (length f.1) ++ (f.1 ++ y)) (sym (spread (number e.0) (number (length e.1)) e.1 x) ∙ eq ∙ spread (number f.0) (number (length f.1)) f.1 y) in
    let two = one_number (length e.1) (length f.1) (e.1 ++ x) (f.1 ++ y) one.1 in
    let three = parted e.1 f.1 x y two.0 two.1 in
    let a : e.0 ≡ f.0 = one.0 in let b : e.1 ≡ f.1 = three.0 in
    ((λ i. (a i, b i)), three.1)

pub headed_lists_apart : (table : List ℕ) → AreApart headed_list (IsHeadedList table)
headed_lists_apart table n es fs x y ise isf e = one_list headed_bytes and_entry IsHeaded headed_apart tt es fs x y ise.fit isf.fit (ise.counted ∙ sym isf.counted) e
