-- States that are read are those that are written, field by field.
use Rattle.std.proofs.Common.{◌≡◌, ◌⊎◌, inl, inr, ℕ, zero, suc, ◌^◌, ◌<◌, ◌≤◌, Bool, true, false, cond, not, eqb, ltb, leb, ◌||◌, ◌&&◌, List, [], ◌∷◌, ◌++◌, length, take, drop, Ok, Err, refl, sym, ap, subst, ◌∙◌, append_assoc, arith}
use Rattle.std.specs.List.{flat_map, list_any}
use Rattle.std.specs.Int.{w16, w32, w64, to_le_bytes}
use Rattle.std.proofs.lemmas.Bool.{and_from, and_parts, eqb-true, eq-eqb, leb-true, le-leb, le-ltb, ltb-false, ltb-true, lt-ltb, not-true, not_from_false, or_cases, or_left, or_right}
use Rattle.std.proofs.lemmas.List.{append-nil, drop_at, length-append, length-take, nil_from_length, take-append-drop, take_at}
use Rattle.std.proofs.lemmas.List.Concat.{flat_map-cons}
use Rattle.byte_fields.specs.Fields.{◌>>=◌, Read, number_at}
use Rattle.byte_fields.proofs.Taking.{Inverse, IsBytes, Takes, Takes-then, IsBytes-drop, bind_ok, done, guard_kept, guard_ok, ok_is, checked_inverse, inverse16, inverse32, inverse64}
use Rattle.byte_fields.proofs.Rows.{many_inverse}
use Rattle.root_slots.specs.Reading.{may_name, text_at, through_at, file_at, older_at, count_at, row_at, rows_at, entry_at, entries_at, chunks_at, state_at}
use Rattle.root_slots.specs.States.{AreEntries, AreRows, IsEntry, IsRow, IsState, MayName, after_row, chunks_bytes, entry_bytes, most_chunks, naming, state_bytes, text_bytes}
use Rattle.root_slots.specs.declared.state.ChunkEntry.{ChunkEntry}
use Rattle.root_slots.specs.declared.state.RootState.{RootState}

-- the same with other words for what fits
inverse_by : {A : Type 0} (read : List ℕ → Read A) (write : A → List ℕ) (F G : A → Type 0) → Inverse read write F → ((x : A) → F x → G x) → ((x : A) → G x → F x) → Inverse read write G
inverse_by read write F G inverse to from = record {
  takes = λ bytes x fits e. let t = inverse.takes bytes x fits e in (t.0, to x.0 t.1);
  again = λ x rest g. inverse.again x rest (from x g);
}

-- ---- fields

text_takes : (bytes : List ℕ) (x : List ℕ × List ℕ) → IsBytes bytes → text_at bytes ≡ Ok x → Takes bytes (text_bytes x.0) x.1 × (length x.0 < 2 ^ 16)
unfolding text_at
text_takes bytes x fits e =
    let a = bind_ok (number_at w16 bytes) (λ size. cond (ltb (length size.1) size.0) (Err (length bytes)) (Ok (take size.0 size.1, drop size.0 size.1))) x e in
    let g = guard_ok (ltb (length a.0.1) a.0.0) (length bytes) (Ok (take a.0.0 a.0.1, drop a.0.0 a.0.1)) x a.2 in
    let size = inverse16.takes bytes a.0 fits a.1 in
    let len : length (take a.0.0 a.0.1) ≡ a.0.0 = omega (arith, length-take a.0.0 a.0.1, ltb-false _ _ g.0) in
    let text : Takes a.0.1 (take a.0.0 a.0.1) (drop a.0.0 a.0.1) = record { parts = sym (take-append-drop a.0.0 a.0.1); rest_fits = IsBytes-drop a.0.0 a.0.1 size.0.rest_fits } in
    let both = Takes-then bytes (to_le_bytes w16 a.0.0) a.0.1 (take a.0.0 a.0.1) (drop a.0.0 a.0.1) size.0 text in
    let whole : Takes bytes (text_bytes (take a.0.0 a.0.1)) (drop a.0.0 a.0.1) = subst (λ (n : ℕ). Takes bytes (to_le_bytes w16 n ++ take a.0.0 a.0.1) (drop a.0.0 a.0.1)) (sym len) both in
    subst (λ (p : List ℕ × List ℕ). Takes bytes (text_bytes p.0) p.1 × (length p.0 < 2 ^ 16)) (ok_is (take a.0.0 a.0.1, drop a.0.0 a.0.1) x g.1) (whole, subst (λ (n : ℕ). n < 2 ^ 16) (sym len) size.1)

text_again : (text rest : List ℕ) → length text < 2 ^ 16 → text_at (text_bytes text ++ rest) ≡ Ok (text, rest)
unfolding text_at
text_again text rest few =
    let long : ltb (length (text ++ rest)) (length text) ≡ false = le-ltb _ _ (omega (arith, length-append text rest)) in
    ap text_at (append_assoc (to_le_bytes w16 (length text)) text rest)
    ∙ rw (inverse16.again (length text) (text ++ rest) few, long, take_at text rest (length text) refl, drop_at text rest (length text) refl) refl

pub text_inverse : Inverse text_at text_bytes (λ text. length text < 2 ^ 16)
text_inverse = record { takes = text_takes; again = text_again }

pub through_inverse : Inverse through_at (to_le_bytes w64) (λ n. n < 2 ^ 63)
unfolding through_at
through_inverse = inverse_by through_at (to_le_bytes w64) (λ n. (n < 2 ^ 64) × (ltb n (2 ^ 63) ≡ true)) (λ n. n < 2 ^ 63)
    (checked_inverse (λ n. ltb n (2 ^ 63)) (number_at w64) (to_le_bytes w64) (λ n. n < 2 ^ 64) inverse64)
    (λ n is. ltb-true n (2 ^ 63) is.1) (λ n lt. (omega (arith, lt), lt-ltb n (2 ^ 63) lt))

is_name : (next_file : ℕ) (named : List ℕ) (file : ℕ) → may_name next_file named file ≡ true → MayName next_file named file
is_name next_file named file is =
    let one = and_parts (leb 2 file && ltb file next_file) (not (list_any (λ (other : ℕ). eqb other file) named)) is in
    let two = and_parts (leb 2 file) (ltb file next_file) one.0 in
    record { no_slot = leb-true 2 file two.0; made = ltb-true file next_file two.1; apart = not-true (list_any (λ (other : ℕ). eqb other file) named) one.1 }

pub may_be_named : (next_file : ℕ) (named : List ℕ) (file : ℕ) (among : Bool) → 2 ≤ file → file < next_file → among ≡ list_any (λ (other : ℕ). eqb other file) named → not among ≡ may_name next_file named file
may_be_named next_file named file among low made is = rw (le-leb 2 file low, lt-ltb file next_file made) (ap not is)

named_so : (next_file : ℕ) (named : List ℕ) (file : ℕ) → MayName next_file named file → may_name next_file named file ≡ true
named_so next_file named file may =
    and_from (leb 2 file && ltb file next_file) (not (list_any (λ (other : ℕ). eqb other file) named))
    (and_from (leb 2 file) (ltb file next_file) (le-leb 2 file may.no_slot) (lt-ltb file next_file may.made)) (not_from_false (list_any (λ (other : ℕ). eqb other file) named) may.apart)

pub file_inverse : (next_file : ℕ) (named : List ℕ) → next_file < 2 ^ 32 → Inverse (file_at next_file named) (to_le_bytes w32) (MayName next_file named)
unfolding file_at
file_inverse next_file named fits = inverse_by (file_at next_file named) (to_le_bytes w32) (λ n. (n < 2 ^ 32) × (may_name next_file named n ≡ true)) (MayName next_file named)
    (checked_inverse (may_name next_file named) (number_at w32) (to_le_bytes w32) (λ n. n < 2 ^ 32) inverse32)
    (λ n is. is_name next_file named n is.1) (λ n may. (omega (arith, may.made, fits), named_so next_file named n may))

abbrev IsOlder : ℕ → ℕ → Type 0
IsOlder next_file n = (n ≡ 0) ⊎ MayName next_file [] n

is_older : (next_file n : ℕ) → (eqb n 0 || may_name next_file [] n) ≡ true → IsOlder next_file n
is_older next_file n is = elim (or_cases (eqb n 0) (may_name next_file [] n) is) [
  | inl none ↦ inl (eqb-true n 0 none)
  | inr some ↦ inr (is_name next_file [] n some)
]

older_so : (next_file n : ℕ) → IsOlder next_file n → (eqb n 0 || may_name next_file [] n) ≡ true
older_so next_file n (inl none) = or_left (eqb n 0) (may_name next_file [] n) (eq-eqb n 0 none)
older_so next_file n (inr some) = or_right (eqb n 0) (may_name next_file [] n) (named_so next_file [] n some)

older_fits : (next_file n : ℕ) → next_file < 2 ^ 32 → IsOlder next_file n → n < 2 ^ 32
older_fits next_file n fits (inl none) = omega (arith, none)
older_fits next_file n fits (inr some) = omega (arith, some.made, fits)

pub older_inverse : (next_file : ℕ) → next_file < 2 ^ 32 → Inverse (older_at next_file) (to_le_bytes w32) (IsOlder next_file)
unfolding older_at
older_inverse next_file fits = inverse_by (older_at next_file) (to_le_bytes w32) (λ n. (n < 2 ^ 32) × ((eqb n 0 || may_name next_file [] n) ≡ true)) (IsOlder next_file)
    (checked_inverse (λ n. eqb n 0 || may_name next_file [] n) (number_at w32) (to_le_bytes w32) (λ n. n < 2 ^ 32) inverse32)
    (λ n is. is_older next_file n is.1) (λ n older. (older_fits next_file n fits older, older_so next_file n older))

pub count_inverse : Inverse count_at (to_le_bytes w16) (λ n. n ≤ most_chunks)
unfolding count_at
count_inverse = inverse_by count_at (to_le_bytes w16) (λ n. (n < 2 ^ 16) × (leb n most_chunks ≡ true)) (λ n. n ≤ most_chunks)
    (checked_inverse (λ n. leb n most_chunks) (number_at w16) (to_le_bytes w16) (λ n. n < 2 ^ 16) inverse16)
    (λ n is. leb-true n most_chunks is.1) (λ n few. (omega (arith, few), le-leb n most_chunks few))

row_inverse : (low : ℕ) → Inverse (row_at low) (to_le_bytes w32) (IsRow low)
unfolding row_at
row_inverse low = inverse_by (row_at low) (to_le_bytes w32) (λ n. (n < 2 ^ 32) × (leb low n ≡ true)) (IsRow low)
    (checked_inverse (leb low) (number_at w32) (to_le_bytes w32) (λ n. n < 2 ^ 32) inverse32)
    (λ n is. record { later = leb-true low n is.1; fits = is.0 }) (λ n row. (row.fits, le-leb low n row.later))

rows_inverse : (count low : ℕ) → Inverse (rows_at count low) (flat_map (to_le_bytes w32)) (λ rows. (length rows ≡ count) × AreRows low rows)
rows_inverse count low = many_inverse row_at after_row (to_le_bytes w32) IsRow row_inverse count low

-- ---- chunks

module _ (next_file : ℕ) (made_few : next_file < 2 ^ 32) where
  entry_takes : (named bytes : List ℕ) (x : ChunkEntry × List ℕ) → IsBytes bytes → entry_at next_file named bytes ≡ Ok x → Takes bytes (entry_bytes x.0) x.1 × IsEntry next_file named x.0
  unfolding entry_at
  entry_takes named bytes x fits e =
      let a = bind_ok (file_at next_file named bytes) (λ file. number_at w32 file.1 >>= λ size. number_at w32 size.1 >>= λ count. rows_at count.0 0 count.1 >>= λ dead. Ok (record { file = file.0; length = size.0; dead = dead.0 }, dead.1)) x e in
      let b = bind_ok (number_at w32 a.0.1) (λ size. number_at w32 size.1 >>= λ count. rows_at count.0 0 count.1 >>= λ dead. Ok (record { file = a.0.0; length = size.0; dead = dead.0 }, dead.1)) x a.2 in
      let c = bind_ok (number_at w32 b.0.1) (λ count. rows_at count.0 0 count.1 >>= λ dead. Ok (record { file = a.0.0; length = b.0.0; dead = dead.0 }, dead.1)) x b.2 in
      let d = bind_ok (rows_at c.0.0 0 c.0.1) (λ dead. Ok (record { file = a.0.0; length = b.0.0; dead = dead.0 }, dead.1)) x c.2 in
      let made : ChunkEntry × List ℕ = (record { file = a.0.0; length = b.0.0; dead = d.0.0 }, d.0.1) in
      let file = (file_inverse next_file named made_few).takes bytes a.0 fits a.1 in
      let size = inverse32.takes a.0.1 b.0 file.0.rest_fits b.1 in
      let count = inverse32.takes b.0.1 c.0 size.0.rest_fits c.1 in
      let dead = (rows_inverse c.0.0 0).takes c.0.1 d.0 count.0.rest_fits d.1 in
      let two = Takes-then bytes (to_le_bytes w32 a.0.0) a.0.1 (to_le_bytes w32 b.0.0) b.0.1 file.0 size.0 in
      let three = Takes-then bytes (to_le_bytes w32 a.0.0 ++ to_le_bytes w32 b.0.0) b.0.1 (to_le_bytes w32 c.0.0) c.0.1 two count.0 in
      let four = Takes-then bytes (to_le_bytes w32 a.0.0 ++ to_le_bytes w32 b.0.0 ++ to_le_bytes w32 c.0.0) c.0.1 (flat_map (to_le_bytes w32) d.0.0) d.0.1 three dead.0 in
      let all : Takes bytes (entry_bytes made.0) d.0.1 = subst (λ (n : ℕ). Takes bytes (to_le_bytes w32 a.0.0 ++ to_le_bytes w32 b.0.0 ++ to_le_bytes w32 n ++ flat_map (to_le_bytes w32) d.0.0) d.0.1) (sym dead.1.0) four in
      let is : IsEntry next_file named made.0 = record { file = file.1; size = size.1; few = subst (λ (n : ℕ). n < 2 ^ 32) (sym dead.1.0) count.1; dead = dead.1.1 } in
      subst (λ (y : ChunkEntry × List ℕ). Takes bytes (entry_bytes y.0) y.1 × IsEntry next_file named y.0) (ok_is made x d.2) (all, is)

  entry_again : (named : List ℕ) (entry : ChunkEntry) (rest : List ℕ) → IsEntry next_file named entry → entry_at next_file named (entry_bytes entry ++ rest) ≡ Ok (entry, rest)
  unfolding entry_at
  entry_again named entry rest is =
      let f = to_le_bytes w32 entry.file in
      let s = to_le_bytes w32 entry.length in
      let n = to_le_bytes w32 (length entry.dead) in
      let d = flat_map (to_le_bytes w32) entry.dead in
      let grouped : (f ++ s ++ n ++ d) ++ rest ≡ f ++ (s ++ (n ++ (d ++ rest))) = append_assoc (f ++ s ++ n) d rest ∙ append_assoc (f ++ s) n (d ++ rest) ∙ append_assoc f s (n ++ (d ++ rest)) in
      ap (entry_at next_file named) grouped
      ∙ rw (
        (file_inverse next_file named made_few).again entry.file (s ++ (n ++ (d ++ rest))) is.file,
        inverse32.again entry.length (n ++ (d ++ rest)) is.size,
        inverse32.again (length entry.dead) (d ++ rest) is.few,
        (rows_inverse (length entry.dead) 0).again entry.dead rest (refl, is.dead),
      ) refl

  entries_takes : (n : ℕ) (named bytes : List ℕ) (x : List ChunkEntry × List ℕ) → IsBytes bytes → entries_at next_file n named bytes ≡ Ok x → Takes bytes (flat_map entry_bytes x.0) x.1 × ((length x.0 ≡ n) × AreEntries next_file named x.0)
  unfolding entries_at
  entries_takes zero named bytes x fits e =
      subst (λ (y : List ChunkEntry × List ℕ). Takes bytes (flat_map entry_bytes y.0) y.1 × ((length y.0 ≡ 0) × AreEntries next_file named y.0)) (ok_is ([], bytes) x e) (record { parts = refl; rest_fits = fits }, (refl, tt))
  entries_takes (suc n) named bytes x fits e =
      let a = bind_ok (entry_at next_file named bytes) (λ first. entries_at next_file n (naming named first.0) first.1 >>= λ others. Ok (first.0 ∷ others.0, others.1)) x e in
      let b = bind_ok (entries_at next_file n (naming named a.0.0) a.0.1) (λ others. Ok (a.0.0 ∷ others.0, others.1)) x a.2 in
      let first = entry_takes named bytes a.0 fits a.1 in
      let second = entries_takes n (naming named a.0.0) a.0.1 b.0 first.0.rest_fits b.1 in
      let both = Takes-then bytes (entry_bytes a.0.0) a.0.1 (flat_map entry_bytes b.0.0) b.0.1 first.0 second.0 in
      let made : List ChunkEntry × List ℕ = (a.0.0 ∷ b.0.0, b.0.1) in
      subst (λ (y : List ChunkEntry × List ℕ). Takes bytes (flat_map entry_bytes y.0) y.1 × ((length y.0 ≡ suc n) × AreEntries next_file named y.0)) (ok_is made x b.2) (rw flat_map-cons both, (ap suc second.1.0, (first.1, second.1.1)))

  entries_again : (named : List ℕ) (chunks : List ChunkEntry) (rest : List ℕ) → AreEntries next_file named chunks → entries_at next_file (length chunks) named (flat_map entry_bytes chunks ++ rest) ≡ Ok (chunks, rest)
  unfolding entries_at
  entries_again named [] rest are = refl
  entries_again named (c ∷ chunks) rest are =
      let grouped : flat_map entry_bytes (c ∷ chunks) ++ rest ≡ entry_bytes c ++ (flat_map entry_bytes chunks ++ rest) = ap (λ (l : List ℕ). l ++ rest) (flat_map-cons entry_bytes c chunks) ∙ append_assoc (entry_bytes c) (flat_map entry_bytes chunks) rest in
      ap (entries_at next_file (suc (length chunks)) named) grouped ∙ rw (entry_again named c (flat_map entry_bytes chunks ++ rest) are.0, entries_again (naming named c) chunks rest are.1) refl

  chunks_takes : (named bytes : List ℕ) (chunks : List ChunkEntry) → IsBytes bytes → chunks_at next_file named bytes ≡ Ok chunks → (bytes ≡ chunks_bytes chunks) × ((length chunks ≤ most_chunks) × AreEntries next_file named chunks)
  unfolding chunks_at
  chunks_takes named bytes chunks fits e =
      let a = bind_ok (count_at bytes) (λ count. entries_at next_file count.0 named count.1 >>= λ x. cond (eqb (length x.1) 0) (Ok x.0) (Err (length x.1))) chunks e in
      let b = bind_ok (entries_at next_file a.0.0 named a.0.1) (λ x. cond (eqb (length x.1) 0) (done x.0) (Err (length x.1))) chunks a.2 in
      let g = guard_kept (eqb (length b.0.1) 0) (length b.0.1) b.0.0 chunks b.2 in
      let count = count_inverse.takes bytes a.0 fits a.1 in
      let rest = entries_takes a.0.0 named a.0.1 b.0 count.0.rest_fits b.1 in
      let nothing : b.0.1 ≡ [] = nil_from_length b.0.1 (eqb-true _ _ g.0) in
      let both = (Takes-then bytes (to_le_bytes w16 a.0.0) a.0.1 (flat_map entry_bytes b.0.0) b.0.1 count.0 rest.0).parts in
      let whole : bytes ≡ chunks_bytes b.0.0 = both ∙ ap (λ (r : List ℕ). (to_le_bytes w16 a.0.0 ++ flat_map entry_bytes b.0.0) ++ r) nothing ∙ append-nil (to_le_bytes w16 a.0.0 ++ flat_map entry_bytes b.0.0) ∙ ap (λ (k : ℕ). to_le_bytes w16 k ++ flat_map entry_bytes b.0.0) (sym rest.1.0) in
      subst (λ (v : List ChunkEntry). (bytes ≡ chunks_bytes v) × ((length v ≤ most_chunks) × AreEntries next_file named v)) g.1 (whole, (subst (λ (n : ℕ). n ≤ most_chunks) (sym rest.1.0) count.1, rest.1.1))

  chunks_again : (named : List ℕ) (chunks : List ChunkEntry) → length chunks ≤ most_chunks → AreEntries next_file named chunks → chunks_at next_file named (chunks_bytes chunks) ≡ Ok chunks
  unfolding chunks_at
  chunks_again named chunks few are =
      let rest : entries_at next_file (length chunks) named (flat_map entry_bytes chunks) ≡ Ok (chunks, []) = ap (entries_at next_file (length chunks) named) (sym (append-nil (flat_map entry_bytes chunks))) ∙ entries_again named chunks [] are in
      rw (count_inverse.again (length chunks) (flat_map entry_bytes chunks) few, rest) refl

-- ---- states

pub state_takes : (bytes : List ℕ) (s : RootState) → IsBytes bytes → length bytes < 2 ^ 32 → state_at bytes ≡ Ok s → IsState s × (bytes ≡ state_bytes s)
unfolding state_at
state_takes bytes s fits short e =
    let a = bind_ok (text_at bytes) (λ text. through_at text.1 >>= λ through. number_at w32 through.1 >>= λ next. older_at next.0 next.1 >>= λ older. file_at next.0 (older.0 ∷ []) older.1 >>= λ newer. chunks_at next.0 (older.0 ∷ newer.0 ∷ []) newer.1 >>= λ chunks.
    Ok (record { schema_text = text.0; through = through.0; next_file = next.0; older = older.0; newer = newer.0; chunks = chunks })) s e in
    let b = bind_ok (through_at a.0.1) (λ through. number_at w32 through.1 >>= λ next. older_at next.0 next.1 >>= λ older. file_at next.0 (older.0 ∷ []) older.1 >>= λ newer. chunks_at next.0 (older.0 ∷ newer.0 ∷ []) newer.1 >>= λ chunks.
    Ok (record { schema_text = a.0.0; through = through.0; next_file = next.0; older = older.0; newer = newer.0; chunks = chunks })) s a.2 in
    let c = bind_ok (number_at w32 b.0.1) (λ next. older_at next.0 next.1 >>= λ older. file_at next.0 (older.0 ∷ []) older.1 >>= λ newer. chunks_at next.0 (older.0 ∷ newer.0 ∷ []) newer.1 >>= λ chunks.
    Ok (record { schema_text = a.0.0; through = b.0.0; next_file = next.0; older = older.0; newer = newer.0; chunks = chunks })) s b.2 in
    let d = bind_ok (older_at c.0.0 c.0.1) (λ older. file_at c.0.0 (older.0 ∷ []) older.1 >>= λ newer. chunks_at c.0.0 (older.0 ∷ newer.0 ∷ []) newer.1 >>= λ chunks.
    Ok (record { schema_text = a.0.0; through = b.0.0; next_file = c.0.0; older = older.0; newer = newer.0; chunks = chunks })) s c.2 in
    let f = bind_ok (file_at c.0.0 (d.0.0 ∷ []) d.0.1) (λ newer. chunks_at c.0.0 (d.0.0 ∷ newer.0 ∷ []) newer.1 >>= λ chunks.
    Ok (record { schema_text = a.0.0; through = b.0.0; next_file = c.0.0; older = d.0.0; newer = newer.0; chunks = chunks })) s d.2 in
    let h = bind_ok (chunks_at c.0.0 (d.0.0 ∷ f.0.0 ∷ []) f.0.1) (λ chunks.
    Ok (record { schema_text = a.0.0; through = b.0.0; next_file = c.0.0; older = d.0.0; newer = f.0.0; chunks = chunks })) s f.2 in
    let made : RootState = record { schema_text = a.0.0; through = b.0.0; next_file = c.0.0; older = d.0.0; newer = f.0.0; chunks = h.0 } in
    let text = text_inverse.takes bytes a.0 fits a.1 in
    let through = through_inverse.takes a.0.1 b.0 text.0.rest_fits b.1 in
    let next = inverse32.takes b.0.1 c.0 through.0.rest_fits c.1 in
    let older = (older_inverse c.0.0 next.1).takes c.0.1 d.0 next.0.rest_fits d.1 in
    let newer = (file_inverse c.0.0 (d.0.0 ∷ []) next.1).takes d.0.1 f.0 older.0.rest_fits f.1 in
    let chunks = chunks_takes c.0.0 next.1 (d.0.0 ∷ f.0.0 ∷ []) f.0.1 h.0 newer.0.rest_fits h.1 in
    let whole : bytes ≡ state_bytes made = joined bytes (text_bytes a.0.0) a.0.1 (to_le_bytes w64 b.0.0) b.0.1 (to_le_bytes w32 c.0.0) c.0.1 (to_le_bytes w32 d.0.0) d.0.1 (to_le_bytes w32 f.0.0) f.0.1 (chunks_bytes h.0)
    text.0.parts through.0.parts next.0.parts older.0.parts newer.0.parts chunks.0 in
    let is : IsState made = record { text = text.1; through = through.1; next_file = next.1; older = older.1; newer = newer.1; few = chunks.1.0; chunks = chunks.1.1; fits = subst (λ (l : List ℕ). length l < 2 ^ 32) whole short } in
    subst (λ (x : RootState). IsState x × (bytes ≡ state_bytes x)) (ok_is made s h.2) (is, whole)
  where
    joined : (bytes t r0 a r1 b r2 c r3 d r4 last : List ℕ) → bytes ≡ t ++ r0 → r0 ≡ a ++ r1 → r1 ≡ b ++ r2 → r2 ≡ c ++ r3 → r3 ≡ d ++ r4 → r4 ≡ last → bytes ≡ t ++ (a ++ b ++ c ++ d) ++ last
    joined bytes t r0 a r1 b r2 c r3 d r4 last e0 e1 e2 e3 e4 e5 =
        e0 ∙ ap (λ (l : List ℕ). t ++ l) (e1 ∙ ap (λ (l : List ℕ). a ++ l) (e2 ∙ ap (λ (l : List ℕ). b ++ l) (e3 ∙ ap (λ (l : List ℕ). c ++ l) (e4 ∙ ap (λ (l : List ℕ). d ++ l) e5)))) ∙ simp append_assoc refl

pub state_again : (s : RootState) → IsState s → state_at (state_bytes s) ≡ Ok s
unfolding state_at
state_again s is =
    let a = to_le_bytes w64 s.through in
    let b = to_le_bytes w32 s.next_file in
    let c = to_le_bytes w32 s.older in
    let d = to_le_bytes w32 s.newer in
    let last = chunks_bytes s.chunks in
    ap state_at (grouped (text_bytes s.schema_text) a b c d last)
    ∙ rw (
      text_inverse.again s.schema_text (a ++ (b ++ (c ++ (d ++ last)))) is.text,
      through_inverse.again s.through (b ++ (c ++ (d ++ last))) is.through,
      inverse32.again s.next_file (c ++ (d ++ last)) is.next_file,
      (older_inverse s.next_file is.next_file).again s.older (d ++ last) is.older,
      (file_inverse s.next_file (s.older ∷ []) is.next_file).again s.newer last is.newer,
      chunks_again s.next_file is.next_file (s.older ∷ s.newer ∷ []) s.chunks is.few is.chunks,
    ) refl
  where
    grouped : (t a b c d last : List ℕ) → t ++ (a ++ b ++ c ++ d) ++ last ≡ t ++ (a ++ (b ++ (c ++ (d ++ last))))
    grouped t a b c d last = simp append_assoc refl
