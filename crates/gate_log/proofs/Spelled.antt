-- Bytes that spell numbers.
use Rattle.std.proofs.Common.{◌≡◌, ℕ, ◌/◌, ◌%◌, ◌<◌, ◌≤◌, List, [], ◌∷◌, ◌++◌, Some, length, drop, get_or, sym, ◌∙◌, ap, arith}
use Rattle.std.specs.List.{slice_range}
use Rattle.std.proofs.lemmas.List.{append-nil, drop_all}
use Rattle.srch_base.specs.steps.Fields.{field_at-whole}
use Rattle.std.proofs.lemmas.List.Folds.{drop_split}
use Rattle.std.specs.Int.{w32, w64, to_le_bytes}
use Rattle.srch_base.specs.Numbers.{field_at, number_of}
use Rattle.gate_log.specs.Frames.{frame}

pub spelled_4 : (n a b c d : ℕ) → a < 256 → b < 256 → c < 256 → d < 256 → n ≡ number_of (a ∷ b ∷ c ∷ d ∷ []) → to_le_bytes w32 n ≡ a ∷ b ∷ c ∷ d ∷ []
spelled_4 n a b c d ha hb hc hd is =
    let e0 : n % 256 ≡ a = omega arith in
    let e1 : n / 256 % 256 ≡ b = omega arith in
    let e2 : n / 65536 % 256 ≡ c = omega arith in
    let e3 : n / 16777216 % 256 ≡ d = omega arith in
    cc

pub spelled_8 : (n a b c d e f g h : ℕ) → a < 256 → b < 256 → c < 256 → d < 256 → e < 256 → f < 256 → g < 256 → h < 256 → n ≡ number_of (a ∷ b ∷ c ∷ d ∷ e ∷ f ∷ g ∷ h ∷ []) → to_le_bytes w64 n ≡ a ∷ b ∷ c ∷ d ∷ e ∷ f ∷ g ∷ h ∷ []
spelled_8 n a b c d e f g h ha hb hc hd he hf hg hh is =
    let e0 : n % 256 ≡ a = omega arith in
    let e1 : n / 256 % 256 ≡ b = omega arith in
    let e2 : n / 65536 % 256 ≡ c = omega arith in
    let e3 : n / 16777216 % 256 ≡ d = omega arith in
    let e4 : n / 4294967296 % 256 ≡ e = omega arith in
    let e5 : n / 1099511627776 % 256 ≡ f = omega arith in
    let e6 : n / 281474976710656 % 256 ≡ g = omega arith in
    let e7 : n / 72057594037927936 % 256 ≡ h = omega arith in
    cc

-- the bytes are the frame of what was read from them
pub whole : (all payload rest : List ℕ) (size number : ℕ) → ((i : ℕ) → get_or all i 0 < 256) → field_at 4 all 0 ≡ Some size → field_at 8 all 4 ≡ Some number → payload ++ rest ≡ drop 12 all → length payload ≡ size → all ≡ frame (record { number = number; payload = payload }) ++ rest
whole ([]) payload rest size number bytes four eight behind long = absurd (cc (eight))
whole (b0 ∷ []) payload rest size number bytes four eight behind long = absurd (cc (eight))
whole (b0 ∷ b1 ∷ []) payload rest size number bytes four eight behind long = absurd (cc (eight))
whole (b0 ∷ b1 ∷ b2 ∷ []) payload rest size number bytes four eight behind long = absurd (cc (eight))
whole (b0 ∷ b1 ∷ b2 ∷ b3 ∷ []) payload rest size number bytes four eight behind long = absurd (cc (eight))
whole (b0 ∷ b1 ∷ b2 ∷ b3 ∷ b4 ∷ []) payload rest size number bytes four eight behind long = absurd (cc (eight))
whole (b0 ∷ b1 ∷ b2 ∷ b3 ∷ b4 ∷ b5 ∷ []) payload rest size number bytes four eight behind long = absurd (cc (eight))
whole (b0 ∷ b1 ∷ b2 ∷ b3 ∷ b4 ∷ b5 ∷ b6 ∷ []) payload rest size number bytes four eight behind long = absurd (cc (eight))
whole (b0 ∷ b1 ∷ b2 ∷ b3 ∷ b4 ∷ b5 ∷ b6 ∷ b7 ∷ []) payload rest size number bytes four eight behind long = absurd (cc (eight))
whole (b0 ∷ b1 ∷ b2 ∷ b3 ∷ b4 ∷ b5 ∷ b6 ∷ b7 ∷ b8 ∷ []) payload rest size number bytes four eight behind long = absurd (cc (eight))
whole (b0 ∷ b1 ∷ b2 ∷ b3 ∷ b4 ∷ b5 ∷ b6 ∷ b7 ∷ b8 ∷ b9 ∷ []) payload rest size number bytes four eight behind long = absurd (cc (eight))
whole (b0 ∷ b1 ∷ b2 ∷ b3 ∷ b4 ∷ b5 ∷ b6 ∷ b7 ∷ b8 ∷ b9 ∷ b10 ∷ []) payload rest size number bytes four eight behind long = absurd (cc (eight))
whole (b0 ∷ b1 ∷ b2 ∷ b3 ∷ b4 ∷ b5 ∷ b6 ∷ b7 ∷ b8 ∷ b9 ∷ b10 ∷ b11 ∷ tail) payload rest size number bytes four eight behind long =
    let s : size ≡ number_of (b0 ∷ b1 ∷ b2 ∷ b3 ∷ []) = cc (four, field_at-whole 4 (b0 ∷ b1 ∷ b2 ∷ b3 ∷ b4 ∷ b5 ∷ b6 ∷ b7 ∷ b8 ∷ b9 ∷ b10 ∷ b11 ∷ tail) 0 (omega arith)) in
    let n : number ≡ number_of (b4 ∷ b5 ∷ b6 ∷ b7 ∷ b8 ∷ b9 ∷ b10 ∷ b11 ∷ []) = cc (eight, field_at-whole 8 (b0 ∷ b1 ∷ b2 ∷ b3 ∷ b4 ∷ b5 ∷ b6 ∷ b7 ∷ b8 ∷ b9 ∷ b10 ∷ b11 ∷ tail) 4 (omega arith)) in
    let one = spelled_4 (length payload) b0 b1 b2 b3 (bytes 0) (bytes 1) (bytes 2) (bytes 3) (long ∙ s) in
    let two = spelled_8 number b4 b5 b6 b7 b8 b9 b10 b11 (bytes 4) (bytes 5) (bytes 6) (bytes 7) (bytes 8) (bytes 9) (bytes 10) (bytes 11) n in
    ap (λ (l : List ℕ). b0 ∷ b1 ∷ b2 ∷ b3 ∷ b4 ∷ b5 ∷ b6 ∷ b7 ∷ b8 ∷ b9 ∷ b10 ∷ b11 ∷ l) (sym behind)
    ∙ ap (λ (l : List ℕ). b0 ∷ b1 ∷ b2 ∷ b3 ∷ (l ++ (payload ++ rest))) (sym two) ∙ ap (λ (l : List ℕ). l ++ (to_le_bytes w64 number ++ (payload ++ rest))) (sym one)

tail_is : (xs : List ℕ) (at : ℕ) → at ≤ length xs → slice_range xs at (length xs) ≡ drop at xs
tail_is xs at le = sym (drop_split xs at (length xs) le ∙ ap (λ (l : List ℕ). slice_range xs at (length xs) ++ l) (drop_all (length xs) xs (omega arith)) ∙ append-nil (slice_range xs at (length xs)))

pub joined : (all behind payload rest : List ℕ) (size : ℕ) → 12 ≤ length all → behind ≡ slice_range all 12 (length all) → payload ≡ slice_range behind 0 size → rest ≡ slice_range behind size (length behind) → size ≤ length behind → payload ++ rest ≡ drop 12 all
joined all behind payload rest size long b p r le =
    (λ i. p i ++ (r ∙ tail_is behind size le) i) ∙ sym (drop_split behind 0 size (omega arith)) ∙ b ∙ tail_is all 12 long
