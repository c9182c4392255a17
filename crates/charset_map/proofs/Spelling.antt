-- Texts that are no side of an entry, and no entry.
use Rattle.std.proofs.Common.{◌≡◌, ◌≢◌, ℕ, List, ◌∷◌, ◌++◌, length, Option, None, MatchOption, refl, sym, ◌∙◌, subst, arith}
use Rattle.charset_map.specs.declared.entries.CharRange.{CharRange}
use Rattle.charset_map.specs.declared.entries.Entry.{Entry}
use Rattle.charset_map.specs.declared.entries.Side.{Side}
use Rattle.charset_map.specs.declared.entries.Side.TheVariants.{Single, Range}
use Rattle.charset_map.specs.Characters.{IsCharacter}
use Rattle.charset_map.specs.Entries.{IsSingle, IsRange, IsMapped, IsEntry, single, range, mapped, mapped_range}
use Rattle.charset_map.specs.steps.Sides.{Lacks, IsSide}
use Rattle.charset_map.proofs.Cutting.{place, lacks_cons, lacks_append, no_cut, place_of_lacking, left_is, right_is, character_lacks}

-- what a `?` gives back
pub at_none : {A : Type 0} (o : Option A) (P : Type 0) (Q : A → Type 0) → o ≡ None → P → MatchOption o P Q
at_none o P Q none holds = subst (λ r. MatchOption r P Q) (sym none) holds

pub lacks_dot : (text : List ℕ) (c : ℕ) → IsCharacter text c → Lacks 46 text
lacks_dot text c written = character_lacks 46 text c refl (omega arith) (omega arith) (omega arith) written

lacks_dash : (text : List ℕ) (c : ℕ) → IsCharacter text c → Lacks 45 text
lacks_dash text c written = character_lacks 45 text c refl (omega arith) (omega arith) (omega arith) written

-- ---- sides
pub no_side_whole : (text : List ℕ) → place 46 text ≡ length text → ((c : ℕ) → ¬ (IsCharacter text c)) → (side : Side) → ¬ (IsSide text side)
no_side_whole text whole none (Single r) is = none r.first is.0
no_side_whole text whole none (Range r) is = no_cut 46 text is.low (46 ∷ is.high) whole (lacks_dot is.low r.first is.first) is.is

pub no_side_cut : (text : List ℕ) → place 46 text ≢ length text → ((left right : List ℕ) → Lacks 46 left → text ≢ left ++ 46 ∷ 46 ∷ right) → (side : Side) → ¬ (IsSide text side)
no_side_cut text part none (Single r) is = part (place_of_lacking 46 text (lacks_dot text r.first is.0))
no_side_cut text part none (Range r) is = none is.low is.high (lacks_dot is.low r.first is.first) is.is

pub no_side_low : (text low high : List ℕ) → place 46 text ≢ length text → Lacks 46 low → text ≡ low ++ 46 ∷ 46 ∷ high → ((c : ℕ) → ¬ (IsCharacter low c)) → (side : Side) → ¬ (IsSide text side)
no_side_low text low high part lacks cut none (Single r) is = part (place_of_lacking 46 text (lacks_dot text r.first is.0))
no_side_low text low high part lacks cut none (Range r) is =
    let same : is.low ≡ low = left_is 46 is.low (46 ∷ is.high) low (46 ∷ high) (lacks_dot is.low r.first is.first) lacks (sym is.is ∙ cut) in
    none r.first (subst (λ (t : List ℕ). IsCharacter t r.first) same is.first)

pub no_side_high : (text low high : List ℕ) → place 46 text ≢ length text → Lacks 46 low → text ≡ low ++ 46 ∷ 46 ∷ high → ((c : ℕ) → ¬ (IsCharacter high c)) → (side : Side) → ¬ (IsSide text side)
no_side_high text low high part lacks cut none (Single r) is = part (place_of_lacking 46 text (lacks_dot text r.first is.0))
no_side_high text low high part lacks cut none (Range r) is =
    let rest : 46 ∷ 46 ∷ is.high ≡ 46 ∷ 46 ∷ high = right_is 46 is.low (46 ∷ is.high) low (46 ∷ high) (lacks_dot is.low r.first is.first) lacks (sym is.is ∙ cut) in
    let same : is.high ≡ high = cc in
    none r.last (subst (λ (t : List ℕ). IsCharacter t r.last) same is.last)

-- ---- entries
pub single_lacks : (text : List ℕ) (side : CharRange) → IsSingle text side → Lacks 45 text
single_lacks text side is = lacks_dash text side.first is.0

pub range_lacks : (text : List ℕ) (side : CharRange) → IsRange text side → Lacks 45 text
range_lacks text side is =
    subst (Lacks 45) (sym is.is) (lacks_append 45 is.low (46 ∷ 46 ∷ is.high) (lacks_dash is.low side.first is.first)
    (lacks_cons 45 46 (46 ∷ is.high) (omega arith) (lacks_cons 45 46 is.high (omega arith) (lacks_dash is.high side.last is.last))))

pub not_both : (text : List ℕ) (one many : CharRange) → IsSingle text one → IsRange text many → ⊥
not_both text one many is are =
    no_cut 46 text are.low (46 ∷ are.high) (place_of_lacking 46 text (lacks_dot text one.first is.0)) (lacks_dot are.low many.first are.first) are.is

-- the side of a mapped entry by another cut at the same mark
pub left_same : (text left right : List ℕ) (entry : Entry) (IsIt : List ℕ → CharRange → Type 0) (m : IsMapped IsIt text entry) → Lacks 45 m.left → Lacks 45 left → text ≡ left ++ 45 ∷ 62 ∷ right → IsIt left entry.from
left_same text left right entry IsIt m lacks lacks' cut =
    subst (λ (t : List ℕ). IsIt t entry.from) (left_is 45 m.left (62 ∷ m.right) left (62 ∷ right) lacks lacks' (sym m.is ∙ cut)) m.from

pub right_same : (text left right : List ℕ) (entry : Entry) (IsIt : List ℕ → CharRange → Type 0) (m : IsMapped IsIt text entry) → Lacks 45 m.left → Lacks 45 left → text ≡ left ++ 45 ∷ 62 ∷ right → IsIt right entry.to
right_same text left right entry IsIt m lacks lacks' cut =
    let rest : 45 ∷ 62 ∷ m.right ≡ 45 ∷ 62 ∷ right = right_is 45 m.left (62 ∷ m.right) left (62 ∷ right) lacks lacks' (sym m.is ∙ cut) in
    let same : m.right ≡ right = cc in
    subst (λ (t : List ℕ). IsIt t entry.to) same m.to

pub no_entry_whole : (text : List ℕ) → place 45 text ≡ length text → ((side : Side) → ¬ (IsSide text side)) → (entry : Entry) → ¬ (IsEntry text entry)
no_entry_whole text whole none entry (single is own) = none (Single entry.from) is
no_entry_whole text whole none entry (range is own) = none (Range entry.from) is
no_entry_whole text whole none entry (mapped m) = no_cut 45 text m.left (62 ∷ m.right) whole (single_lacks m.left entry.from m.from) m.is
no_entry_whole text whole none entry (mapped_range m) = no_cut 45 text m.left (62 ∷ m.right) whole (range_lacks m.left entry.from m.from) m.is

-- a text with the mark in it is no side
no_own_single : (text : List ℕ) (side : CharRange) → place 45 text ≢ length text → ¬ (IsSingle text side)
no_own_single text side part is = part (place_of_lacking 45 text (single_lacks text side is))

no_own_range : (text : List ℕ) (side : CharRange) → place 45 text ≢ length text → ¬ (IsRange text side)
no_own_range text side part is = part (place_of_lacking 45 text (range_lacks text side is))

pub no_entry_cut : (text : List ℕ) → place 45 text ≢ length text → ((left right : List ℕ) → Lacks 45 left → text ≢ left ++ 45 ∷ 62 ∷ right) → (entry : Entry) → ¬ (IsEntry text entry)
no_entry_cut text part none entry (single is own) = no_own_single text entry.from part is
no_entry_cut text part none entry (range is own) = no_own_range text entry.from part is
no_entry_cut text part none entry (mapped m) = none m.left m.right (single_lacks m.left entry.from m.from) m.is
no_entry_cut text part none entry (mapped_range m) = none m.left m.right (range_lacks m.left entry.from m.from) m.is

pub no_entry_left : (text left right : List ℕ) → place 45 text ≢ length text → Lacks 45 left → text ≡ left ++ 45 ∷ 62 ∷ right → ((side : Side) → ¬ (IsSide left side)) → (entry : Entry) → ¬ (IsEntry text entry)
no_entry_left text left right part lacks cut none entry (single is own) = no_own_single text entry.from part is
no_entry_left text left right part lacks cut none entry (range is own) = no_own_range text entry.from part is
no_entry_left text left right part lacks cut none entry (mapped m) = none (Single entry.from) (left_same text left right entry IsSingle m (single_lacks m.left entry.from m.from) lacks cut)
no_entry_left text left right part lacks cut none entry (mapped_range m) = none (Range entry.from) (left_same text left right entry IsRange m (range_lacks m.left entry.from m.from) lacks cut)

pub no_entry_right : (text left right : List ℕ) → place 45 text ≢ length text → Lacks 45 left → text ≡ left ++ 45 ∷ 62 ∷ right → ((side : Side) → ¬ (IsSide right side)) → (entry : Entry) → ¬ (IsEntry text entry)
no_entry_right text left right part lacks cut none entry (single is own) = no_own_single text entry.from part is
no_entry_right text left right part lacks cut none entry (range is own) = no_own_range text entry.from part is
no_entry_right text left right part lacks cut none entry (mapped m) = none (Single entry.to) (right_same text left right entry IsSingle m (single_lacks m.left entry.from m.from) lacks cut)
no_entry_right text left right part lacks cut none entry (mapped_range m) = none (Range entry.to) (right_same text left right entry IsRange m (range_lacks m.left entry.from m.from) lacks cut)

-- one character on one side and a range on the other
pub no_entry_single_range : (text left right : List ℕ) (from to : CharRange) → place 45 text ≢ length text → Lacks 45 left → text ≡ left ++ 45 ∷ 62 ∷ right → IsSingle left from → IsRange right to → (entry : Entry) → ¬ (IsEntry text entry)
no_entry_single_range text left right from to part lacks cut one many entry (single is own) = no_own_single text entry.from part is
no_entry_single_range text left right from to part lacks cut one many entry (range is own) = no_own_range text entry.from part is
no_entry_single_range text left right from to part lacks cut one many entry (mapped m) = not_both right entry.to to (right_same text left right entry IsSingle m (single_lacks m.left entry.from m.from) lacks cut) many
no_entry_single_range text left right from to part lacks cut one many entry (mapped_range m) = not_both left from entry.from one (left_same text left right entry IsRange m (range_lacks m.left entry.from m.from) lacks cut)

pub no_entry_range_single : (text left right : List ℕ) (from to : CharRange) → place 45 text ≢ length text → Lacks 45 left → text ≡ left ++ 45 ∷ 62 ∷ right → IsRange left from → IsSingle right to → (entry : Entry) → ¬ (IsEntry text entry)
no_entry_range_single text left right from to part lacks cut many one entry (single is own) = no_own_single text entry.from part is
no_entry_range_single text left right from to part lacks cut many one entry (range is own) = no_own_range text entry.from part is
no_entry_range_single text left right from to part lacks cut many one entry (mapped m) = not_both left entry.from from (left_same text left right entry IsSingle m (single_lacks m.left entry.from m.from) lacks cut) many
no_entry_range_single text left right from to part lacks cut many one entry (mapped_range m) = not_both right to entry.to one (right_same text left right entry IsRange m (range_lacks m.left entry.from m.from) lacks cut)
