-- A text is read in one way.
use Rattle.std.proofs.Common.{◌≡◌, ℕ, zero, suc, ◌+◌, ◌<◌, ◌≤◌, true, List, [], ◌∷◌, ◌++◌, length, length-append, take, take_all, cond, get_or, Option, Some, None, refl, sym, ◌∙◌, ap, subst, arith, inl, inr, ◌⊎◌}
use Rattle.std.specs.Char.{IsScalar}
use Rattle.std.specs.List.{list_all, prefix_len}
use Rattle.std.proofs.Math.ListN.{drop_of_length-le}
use Rattle.std.proofs.lemmas.Bool.{and_parts, true≢false}
use Rattle.std.specs.Option.{option_or}
use Rattle.std.specs.Str.Parse.{digits_value}
use Rattle.std.proofs.Math.Seq.{get_or-append_seam}
use Rattle.std.proofs.lemmas.List.{get_or_append_left}
use Rattle.charset_map.specs.declared.entries.CharRange.{CharRange}
use Rattle.charset_map.specs.declared.entries.Entry.{Entry}
use Rattle.charset_map.specs.declared.fault.CharsetFault.{CharsetFault}
use Rattle.charset_map.specs.declared.fault.CharsetKind.{CharsetKind}
use Rattle.charset_map.specs.declared.fault.CharsetKind.TheVariants as kinds
use Rattle.charset_map.specs.Characters.{IsCharacter, IsCode, is_blank}
use Rattle.charset_map.specs.Entries.{IsSingle, IsRange, IsMapped, IsEntry, single, range, mapped, mapped_range}
use Rattle.charset_map.specs.Table.{Rises, IsEven, value_in, value_of, IsTable}
use Rattle.charset_map.specs.TableText.{EntryText, entry_text_at, entry_texts, without_front, without_back, AreEntries, GivesAnother, IsFaulty, IsTableOf, IsFirstFault}
use Rattle.charset_map.specs.steps.Sides.{Lacks}
use Rattle.charset_map.proofs.Cutting.{place, no_cut, place_of_lacking, left_is, right_is}
use Rattle.charset_map.proofs.Gatherings.{first_entry_text}
use Rattle.charset_map.proofs.Spelling.{lacks_dot, single_lacks, range_lacks, not_both, left_same, right_same}

-- ---- characters
code_length : (text : List ℕ) (c : ℕ) → IsCode text c → 3 ≤ length text
code_length text c code = omega (arith, ap length code.is, code.some)

same_character : (text : List ℕ) (c d : ℕ) → IsCharacter text c → IsCharacter text d → c ≡ d
same_character text c d (inl (is, plain)) (inl (is', plain')) = cc
same_character text c d (inl (is, plain)) (inr code) = absurd (omega (arith, ap length is, code_length text d code))
same_character text c d (inr code) (inl (is, plain)) = absurd (omega (arith, ap length is, code_length text c code))
same_character text c d (inr code) (inr code') =
    let digits : code.digits ≡ code'.digits = cc in
    sym code.value ∙ ap (digits_value 16) digits ∙ code'.value

-- ---- ranges and entries
same_range : (r s : CharRange) → r.first ≡ s.first → r.last ≡ s.last → r ≡ s
same_range r s first last =
    let by_first : record { first = r.first; last = r.last } ≡ record { first = s.first; last = r.last } = ap (λ (n : ℕ). let made : CharRange = record { first = n; last = r.last } in made) first in
    by_first ∙ ap (λ (n : ℕ). let made : CharRange = record { first = s.first; last = n } in made) last

same_single : (text : List ℕ) (r s : CharRange) → IsSingle text r → IsSingle text s → r ≡ s
same_single text r s is are =
    let first : r.first ≡ s.first = same_character text r.first s.first is.0 are.0 in
    same_range r s first (is.1 ∙ first ∙ sym are.1)

same_written_range : (text : List ℕ) (r s : CharRange) → IsRange text r → IsRange text s → r ≡ s
same_written_range text r s is are =
    let cut : is.low ++ 46 ∷ 46 ∷ is.high ≡ are.low ++ 46 ∷ 46 ∷ are.high = sym is.is ∙ are.is in
    let lacks : Lacks 46 is.low = lacks_dot is.low r.first is.first in
    let lacks' : Lacks 46 are.low = lacks_dot are.low s.first are.first in
    let low : is.low ≡ are.low = left_is 46 is.low (46 ∷ is.high) are.low (46 ∷ are.high) lacks lacks' cut in
    let rest : 46 ∷ 46 ∷ is.high ≡ 46 ∷ 46 ∷ are.high = right_is 46 is.low (46 ∷ is.high) are.low (46 ∷ are.high) lacks lacks' cut in
    let high : is.high ≡ are.high = cc in
    same_range r s
    (same_character are.low r.first s.first (subst (λ (t : List ℕ). IsCharacter t r.first) low is.first) are.first)
    (same_character are.high r.last s.last (subst (λ (t : List ℕ). IsCharacter t r.last) high is.last) are.last)

same_parts : (e f : Entry) → e.from ≡ f.from → e.to ≡ f.to → e ≡ f
same_parts e f from to =
    let by_from : record { from = e.from; to = e.to } ≡ record { from = f.from; to = e.to } = ap (λ (r : CharRange). let made : Entry = record { from = r; to = e.to } in made) from in
    by_from ∙ ap (λ (r : CharRange). let made : Entry = record { from = f.from; to = r } in made) to

-- an entry without an arrow isn't one with an arrow
no_arrow : (text : List ℕ) (e : Entry) (IsIt : List ℕ → CharRange → Type 0) → Lacks 45 text → (m : IsMapped IsIt text e) → Lacks 45 m.left → ⊥
no_arrow text e IsIt lacks m left = no_cut 45 text m.left (62 ∷ m.right) (place_of_lacking 45 text lacks) left m.is

pub same_entry : (text : List ℕ) (e f : Entry) → IsEntry text e → IsEntry text f → e ≡ f
same_entry text e f (single is own) (single is' own') =
    let from : e.from ≡ f.from = same_single text e.from f.from is is' in
    same_parts e f from (own ∙ from ∙ sym own')
same_entry text e f (range is own) (range is' own') =
    let from : e.from ≡ f.from = same_written_range text e.from f.from is is' in
    same_parts e f from (own ∙ from ∙ sym own')
same_entry text e f (single is own) (range is' own') = absurd (not_both text e.from f.from is is')
same_entry text e f (range is own) (single is' own') = absurd (not_both text f.from e.from is' is)
same_entry text e f (single is own) (mapped m) = absurd (no_arrow text f IsSingle (single_lacks text e.from is) m (single_lacks m.left f.from m.from))
same_entry text e f (single is own) (mapped_range m) = absurd (no_arrow text f IsRange (single_lacks text e.from is) m (range_lacks m.left f.from m.from))
same_entry text e f (range is own) (mapped m) = absurd (no_arrow text f IsSingle (range_lacks text e.from is) m (single_lacks m.left f.from m.from))
same_entry text e f (range is own) (mapped_range m) = absurd (no_arrow text f IsRange (range_lacks text e.from is) m (range_lacks m.left f.from m.from))
same_entry text e f (mapped m) (single is own) = absurd (no_arrow text e IsSingle (single_lacks text f.from is) m (single_lacks m.left e.from m.from))
same_entry text e f (mapped_range m) (single is own) = absurd (no_arrow text e IsRange (single_lacks text f.from is) m (range_lacks m.left e.from m.from))
same_entry text e f (mapped m) (range is own) = absurd (no_arrow text e IsSingle (range_lacks text f.from is) m (single_lacks m.left e.from m.from))
same_entry text e f (mapped_range m) (range is own) = absurd (no_arrow text e IsRange (range_lacks text f.from is) m (range_lacks m.left e.from m.from))
same_entry text e f (mapped m) (mapped n) =
    let lacks : Lacks 45 m.left = single_lacks m.left e.from m.from in
    let lacks' : Lacks 45 n.left = single_lacks n.left f.from n.from in
    same_parts e f
    (same_single n.left e.from f.from (left_same text n.left n.right e IsSingle m lacks lacks' n.is) n.from)
    (same_single n.right e.to f.to (right_same text n.left n.right e IsSingle m lacks lacks' n.is) n.to)
same_entry text e f (mapped_range m) (mapped_range n) =
    let lacks : Lacks 45 m.left = range_lacks m.left e.from m.from in
    let lacks' : Lacks 45 n.left = range_lacks n.left f.from n.from in
    same_parts e f
    (same_written_range n.left e.from f.from (left_same text n.left n.right e IsRange m lacks lacks' n.is) n.from)
    (same_written_range n.right e.to f.to (right_same text n.left n.right e IsRange m lacks lacks' n.is) n.to)
same_entry text e f (mapped m) (mapped_range n) =
    absurd (not_both n.left e.from f.from (left_same text n.left n.right e IsSingle m (single_lacks m.left e.from m.from) (range_lacks n.left f.from n.from) n.is) n.from)
same_entry text e f (mapped_range m) (mapped n) =
    absurd (not_both n.left f.from e.from n.from (left_same text n.left n.right e IsRange m (range_lacks m.left e.from m.from) (single_lacks n.left f.from n.from) n.is))

-- ---- lists of entries
pub same_entries : (entry_texts : List EntryText) (es fs : List Entry) → AreEntries entry_texts es → AreEntries entry_texts fs → es ≡ fs
same_entries [] [] [] are are' = refl
same_entries [] [] (f ∷ fs) are are' = absurd are'
same_entries [] (e ∷ es) fs are are' = absurd are
same_entries (p ∷ entry_texts) [] fs are are' = absurd are
same_entries (p ∷ entry_texts) (e ∷ es) [] are are' = absurd are'
same_entries (p ∷ entry_texts) (e ∷ es) (f ∷ fs) are are' =
    ap (λ (x : Entry). x ∷ es) (same_entry p.text e f are.0 are'.0) ∙ ap (λ (xs : List Entry). f ∷ xs) (same_entries entry_texts es fs are.1 are'.1)

-- the entries of a list of entry_texts, at one of them
pub record Parted (before : List EntryText) (entry_text : EntryText) (entries : List Entry) : Type 0 where
  pub first : List Entry
  pub entry : Entry
  pub later : List Entry
  pub are : entries ≡ first ++ entry ∷ later
  pub spelled : AreEntries before first
  pub is : IsEntry entry_text.text entry

parted : (before : List EntryText) (entry_text : EntryText) (after : List EntryText) (entries : List Entry) → AreEntries (before ++ entry_text ∷ after) entries → Parted before entry_text entries
parted [] entry_text after [] are = absurd are
parted [] entry_text after (e ∷ entries) are = record { first = []; entry = e; later = entries; are = refl; spelled = tt; is = are.0 }
parted (p ∷ before) entry_text after [] are = absurd are
parted (p ∷ before) entry_text after (e ∷ entries) are =
    let rest = parted before entry_text after entries are.1 in
    record { first = e ∷ rest.first; entry = rest.entry; later = rest.later; are = ap (λ es. e ∷ es) rest.are; spelled = (are.0, rest.spelled); is = rest.is }

or_some : (a b : Option ℕ) (v : ℕ) → option_or a b ≡ Some v → (a ≡ Some v) ⊎ (b ≡ Some v)
or_some None b v is = inr is
or_some (Some u) b v is = inl is

-- the value of a list of entries is that of one of them
value_from : (es : List Entry) (c v : ℕ) → value_of es c ≡ Some v → (k : ℕ) × (k < length es) × ((d : Entry) → value_in (get_or es k d) c ≡ Some v)
value_from [] c v gives = cc
value_from (e ∷ es) c v gives = elim (or_some (value_in e c) (value_of es c) v gives) [
  | inl here ↦ (0, omega arith, λ d. here)
  | inr later ↦ (let rest = value_from es c v later in (suc rest.0, omega (arith, rest.1), rest.2))
]

-- an entry of a table is even, and agrees with those before it
even_inside : (first : List Entry) (entry : Entry) (later : List Entry) → IsTable (first ++ entry ∷ later) → IsEven entry
even_inside first entry later table = subst IsEven (get_or-append_seam first entry later entry) (table.even (length first) entry (omega (arith, length-append first (entry ∷ later))))

no_other_inside : (first : List Entry) (entry : Entry) (later : List Entry) → IsTable (first ++ entry ∷ later) → ¬ (GivesAnother (value_of first) entry)
no_other_inside first entry later table other =
    let had = value_from first other.character other.had other.has_had in
    let gives : value_in (get_or (first ++ entry ∷ later) had.0 entry) other.character ≡ Some other.had =
    ap (λ (e : Entry). value_in e other.character) (get_or_append_left first (entry ∷ later) entry had.0 had.1) ∙ had.2 entry in
    let gets : value_in (get_or (first ++ entry ∷ later) (length first) entry) other.character ≡ Some other.gets =
    ap (λ (e : Entry). value_in e other.character) (get_or-append_seam first entry later entry) ∙ other.would_get in
    other.differ (table.agree had.0 (length first) entry had.1 (omega (arith, length-append first (entry ∷ later))) other.character other.had other.gets other.scalar gives gets)

-- nothing is wrong with an entry of a table
sound_inside : (text : List ℕ) (first : List Entry) (entry : Entry) (later : List Entry) (kind : CharsetKind) → IsTable (first ++ entry ∷ later) → IsEntry text entry → ¬ (IsFaulty first text kind)
sound_inside text first entry later kinds.Entry table is faulty = faulty entry is
sound_inside text first entry later kinds.Range table is faulty =
    let even : IsEven faulty.0 = subst IsEven (same_entry text entry faulty.0 is faulty.1) (even_inside first entry later table) in
    faulty.2 (even.from, even.to)
sound_inside text first entry later kinds.Lengths table is faulty =
    let even : IsEven faulty.0 = subst IsEven (same_entry text entry faulty.0 is faulty.1) (even_inside first entry later table) in
    faulty.3 even.length
sound_inside text first entry later kinds.Twice table is faulty =
    no_other_inside first entry later table (subst (λ (e : Entry). GivesAnother (value_of first) e) (same_entry text faulty.0 entry faulty.1 is) faulty.3)
sound_inside text first entry later kinds.Empty table is faulty = faulty

no_fault_inside : (before : List EntryText) (entry_text : EntryText) (after : List EntryText) (full entries : List Entry) (kind : CharsetKind) → AreEntries (before ++ entry_text ∷ after) full → IsTable full → AreEntries before entries → IsFaulty entries entry_text.text kind → ⊥
no_fault_inside before entry_text after full entries kind are table spelled faulty =
    let part = parted before entry_text after full are in
    let same : entries ≡ part.first = same_entries before entries part.first spelled part.spelled in
    sound_inside entry_text.text part.first part.entry part.later kind (subst IsTable part.are table) part.is (subst (λ (es : List Entry). IsFaulty es entry_text.text kind) same faulty)

-- two cuts of one list
same_cut : (a : List EntryText) (p : EntryText) (b a' : List EntryText) (p' : EntryText) (b' : List EntryText) → a ++ p ∷ b ≡ a' ++ p' ∷ b' → ((a ≡ a') × (p ≡ p')) ⊎ (((rest : List EntryText) × (a' ≡ a ++ p ∷ rest)) ⊎ ((rest : List EntryText) × (a ≡ a' ++ p' ∷ rest)))
same_cut [] p b [] p' b' same = inl (refl, cc)
same_cut [] p b (x ∷ a') p' b' same = inr (inl (a', cc))
same_cut (x ∷ a) p b [] p' b' same = inr (inr (a, cc))
same_cut (x ∷ a) p b (x' ∷ a') p' b' same =
    let head : x ≡ x' = cc in
    let tail : a ++ p ∷ b ≡ a' ++ p' ∷ b' = cc in
    elim (same_cut a p b a' p' b' tail) [
      | inl both ↦ inl (ap (λ (y : EntryText). y ∷ a) head ∙ ap (λ (ys : List EntryText). x' ∷ ys) both.0, both.1)
      | inr other ↦ (elim other [
        | inl longer ↦ inr (inl (longer.0, ap (λ (y : EntryText). y ∷ a') (sym head) ∙ ap (λ (ys : List EntryText). x ∷ ys) longer.1))
        | inr shorter ↦ inr (inr (shorter.0, ap (λ (y : EntryText). y ∷ a) head ∙ ap (λ (ys : List EntryText). x' ∷ ys) shorter.1))
      ])
    ]

falls_not_rises : (text : List ℕ) (e f : Entry) → IsEntry text e → IsEntry text f → ¬ (Rises e.from × Rises e.to) → Rises f.from × Rises f.to → ⊥
falls_not_rises text e f is are falls rises = falls (subst (λ (x : Entry). Rises x.from × Rises x.to) (same_entry text f e are is) rises)

-- a entry_text has one fault after the same entries
same_kind : (entries : List Entry) (text : List ℕ) (k l : CharsetKind) → IsFaulty entries text k → IsFaulty entries text l → k ≡ l
same_kind entries text kinds.Entry kinds.Entry a b = refl
same_kind entries text kinds.Entry kinds.Range a b = absurd (a b.0 b.1)
same_kind entries text kinds.Entry kinds.Lengths a b = absurd (a b.0 b.1)
same_kind entries text kinds.Entry kinds.Twice a b = absurd (a b.0 b.1)
same_kind entries text kinds.Entry kinds.Empty a b = absurd b
same_kind entries text kinds.Range kinds.Entry a b = absurd (b a.0 a.1)
same_kind entries text kinds.Range kinds.Range a b = refl
same_kind entries text kinds.Range kinds.Lengths a b = absurd (falls_not_rises text a.0 b.0 a.1 b.1 a.2 b.2)
same_kind entries text kinds.Range kinds.Twice a b = absurd (falls_not_rises text a.0 b.0 a.1 b.1 a.2 (b.2.from, b.2.to))
same_kind entries text kinds.Range kinds.Empty a b = absurd b
same_kind entries text kinds.Lengths kinds.Entry a b = absurd (b a.0 a.1)
same_kind entries text kinds.Lengths kinds.Range a b = absurd (falls_not_rises text b.0 a.0 b.1 a.1 b.2 a.2)
same_kind entries text kinds.Lengths kinds.Lengths a b = refl
same_kind entries text kinds.Lengths kinds.Twice a b = absurd (a.3 (subst IsEven (same_entry text b.0 a.0 b.1 a.1) b.2).length)
same_kind entries text kinds.Lengths kinds.Empty a b = absurd b
same_kind entries text kinds.Twice kinds.Entry a b = absurd (b a.0 a.1)
same_kind entries text kinds.Twice kinds.Range a b = absurd (falls_not_rises text b.0 a.0 b.1 a.1 b.2 (a.2.from, a.2.to))
same_kind entries text kinds.Twice kinds.Lengths a b = absurd (b.3 (subst IsEven (same_entry text a.0 b.0 a.1 b.1) a.2).length)
same_kind entries text kinds.Twice kinds.Twice a b = refl
same_kind entries text kinds.Twice kinds.Empty a b = absurd b
same_kind entries text kinds.Empty kinds.Entry a b = absurd a
same_kind entries text kinds.Empty kinds.Range a b = absurd a
same_kind entries text kinds.Empty kinds.Lengths a b = absurd a
same_kind entries text kinds.Empty kinds.Twice a b = absurd a
same_kind entries text kinds.Empty kinds.Empty a b = absurd a

pub table_or_fault : (text : List ℕ) (table : ℕ → Option ℕ) (fault : CharsetFault) → IsTableOf text table → IsFirstFault text fault → ⊥
table_or_fault text table fault is wrong =
    no_fault_inside wrong.before wrong.entry_text wrong.after is.entries wrong.entries fault.kind
    (subst (λ (ps : List EntryText). AreEntries ps is.entries) wrong.are is.spelled) is.sound wrong.spelled wrong.faulty

pub same_values : (text : List ℕ) (f g : ℕ → Option ℕ) (c : ℕ) → IsScalar c → IsTableOf text f → IsTableOf text g → f c ≡ g c
same_values text f g c scalar is are =
    is.values c scalar ∙ ap (λ (es : List Entry). value_of es c) (same_entries (entry_texts text) is.entries are.entries is.spelled are.spelled) ∙ sym (are.values c scalar)

fault_is : (f g : CharsetFault) → f.place ≡ g.place → f.kind ≡ g.kind → f ≡ g
fault_is f g place kind =
    let by_place : record { place = f.place; kind = f.kind } ≡ record { place = g.place; kind = f.kind } = ap (λ (n : ℕ). let made : CharsetFault = record { place = n; kind = f.kind } in made) place in
    by_place ∙ ap (λ (k : CharsetKind). let made : CharsetFault = record { place = g.place; kind = k } in made) kind

pub same_fault : (text : List ℕ) (f g : CharsetFault) → IsFirstFault text f → IsFirstFault text g → f ≡ g
same_fault text f g a b =
    elim (same_cut a.before a.entry_text a.after b.before b.entry_text b.after (sym a.are ∙ b.are)) [
      | inl both ↦ (
          let entries : a.entries ≡ b.entries = same_entries b.before a.entries b.entries (subst (λ (ps : List EntryText). AreEntries ps a.entries) both.0 a.spelled) b.spelled in
          let there : IsFaulty a.entries b.entry_text.text f.kind = subst (λ (p : EntryText). IsFaulty a.entries p.text f.kind) both.1 a.faulty in
          let kind : f.kind ≡ g.kind = same_kind b.entries b.entry_text.text f.kind g.kind (subst (λ (es : List Entry). IsFaulty es b.entry_text.text f.kind) entries there) b.faulty in
          fault_is f g (a.place ∙ ap (λ (p : EntryText). p.place) both.1 ∙ sym b.place) kind)
      | inr other ↦ absurd (elim other [
        | inl longer ↦ no_fault_inside a.before a.entry_text longer.0 b.entries a.entries f.kind (subst (λ (ps : List EntryText). AreEntries ps b.entries) longer.1 b.spelled) b.sound a.spelled a.faulty
        | inr shorter ↦ no_fault_inside b.before b.entry_text shorter.0 a.entries b.entries g.kind (subst (λ (ps : List EntryText). AreEntries ps a.entries) shorter.1 a.spelled) a.sound b.spelled b.faulty
      ])
    ]

-- ---- a text of blanks
blank_length : (text : List ℕ) → list_all is_blank text ≡ true → prefix_len is_blank text ≡ length text
blank_length [] blank = refl
blank_length (b ∷ text) blank =
    let both = and_parts _ _ blank in
    ap (λ t. cond t (1 + prefix_len is_blank text) 0) both.0 ∙ omega (arith, blank_length text both.1)

blank_lacks_comma : (text : List ℕ) → list_all is_blank text ≡ true → Lacks 44 text
blank_lacks_comma [] blank k d below = absurd (omega arith)
blank_lacks_comma (b ∷ text) blank zero d below =
    λ comma. true≢false (sym (and_parts _ _ blank).0 ∙ ap is_blank comma)
blank_lacks_comma (b ∷ text) blank (suc k) d below = blank_lacks_comma text (and_parts _ _ blank).1 k d (omega arith)

blank_is_nothing : (text : List ℕ) → list_all is_blank text ≡ true → without_back (without_front text) ≡ []
blank_is_nothing text blank = ap without_back (drop_of_length-le text (omega (arith, blank_length text blank)))

no_character : (c : ℕ) → ¬ (IsCharacter [] c)
no_character c (inl (is, plain)) = cc
no_character c (inr code) = absurd (omega (arith, code_length [] c code))

no_empty_entry : (entry : Entry) → ¬ (IsEntry [] entry)
no_empty_entry entry (single is own) = no_character entry.from.first is.0
no_empty_entry entry (range is own) = absurd (omega (arith, ap length is.is, length-append is.low (46 ∷ 46 ∷ is.high)))
no_empty_entry entry (mapped m) = absurd (omega (arith, ap length m.is, length-append m.left (45 ∷ 62 ∷ m.right)))
no_empty_entry entry (mapped_range m) = absurd (omega (arith, ap length m.is, length-append m.left (45 ∷ 62 ∷ m.right)))

-- the entry of the first entry_text
entry_of_first : (entry_text : EntryText) (after : List EntryText) (entries : List Entry) → AreEntries (entry_text ∷ after) entries → (entry : Entry) × IsEntry entry_text.text entry
entry_of_first entry_text after [] are = absurd are
entry_of_first entry_text after (entry ∷ entries) are = (entry, are.0)

pub blank_is_no_table : (text : List ℕ) (table : ℕ → Option ℕ) → list_all is_blank text ≡ true → ¬ (IsTableOf text table)
blank_is_no_table text table blank is =
    let first = first_entry_text 0 text in
    let whole : take (place 44 text) text ≡ text = take_all (place 44 text) text (omega (arith, place_of_lacking 44 text (blank_lacks_comma text blank))) in
    let entry = entry_of_first (entry_text_at 0 (take (place 44 text) text)) first.0 is.entries (subst (λ (ps : List EntryText). AreEntries ps is.entries) first.1 is.spelled) in
    no_empty_entry entry.0 (subst (λ (t : List ℕ). IsEntry t entry.0) (ap (λ (part : List ℕ). without_back (without_front part)) whole ∙ blank_is_nothing text blank) entry.1)
