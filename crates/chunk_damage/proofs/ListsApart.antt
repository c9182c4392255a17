-- Posting lists are told by their bytes.
use Rattle.std.proofs.Common.{◌≡◌, ℕ, ◌+◌, ◌-◌, ◌≤◌, List, [], ◌∷◌, ◌++◌, length, refl, sym, ap, subst, ◌∙◌, arith, append_assoc, append-nil, length-append}
use Rattle.posting_codec.specs.Numbers.{number}
use Rattle.posting_codec.specs.HitLists.{hit_list}
use Rattle.posting_codec.specs.PostingLists.{IsEntry, posting, posting_list}
use Rattle.posting_codec.proofs.Spellings.{one_number}
use Rattle.posting_codec.proofs.HitSteps.{one_hit_list}
use Rattle.item_lists.specs.Items.{AreApart}
use Rattle.chunk_damage.specs.WordLists.{AreEntries, Entry, IsList, bytes_of}

spread : (a b c rest : List ℕ) → a ++ b ++ c ++ rest ≡ a ++ (b ++ (c ++ rest))
spread a b c rest = append_assoc (a ++ b) c rest ∙ append_assoc a b (c ++ rest)

pub one_entry : (least r s : ℕ) (g h : List (ℕ × ℕ)) (x y : List ℕ) → IsEntry least r g → IsEntry least s h → posting least r g ++ x ≡ posting least s h ++ y → (r ≡ s) × (g ≡ h) × (x ≡ y)
one_entry least r s g h x y isg ish e =
    let f : number (r + 1 - least) ++ (number (length (hit_list g)) ++ (hit_list g ++ x)) ≡ number (s + 1 - least) ++ (number (length (hit_list h)) ++ (hit_list h ++ y)) =
    sym (spread (number (r + 1 - least)) (number (length (hit_list g))) (hit_list g) x) ∙ e ∙ spread (number (s + 1 - least)) (number (length (hit_list h))) (hit_list h) y in
    let distance = one_number (r + 1 - least) (s + 1 - least) (number (length (hit_list g)) ++ (hit_list g ++ x)) (number (length (hit_list h)) ++ (hit_list h ++ y)) f in
    let size = one_number (length (hit_list g)) (length (hit_list h)) (hit_list g ++ x) (hit_list h ++ y) distance.1 in
    let hits = one_hit_list g h x y isg.are ish.are size.1 in
    (omega (arith, distance.0, isg.behind, ish.behind), hits.0, hits.1)

-- the least row behind some entries
abbrev pub least_behind : ℕ → List Entry → ℕ
least_behind least [] = least
least_behind least (entry ∷ entries) = least_behind (entry.0 + 1) entries

-- what begins with some entries begins with those of any longer list of them
pub front : (rows least : ℕ) (es all : List Entry) (x y : List ℕ) → AreEntries rows least es → AreEntries rows least all → length es ≤ length all → posting_list least es ++ x ≡ posting_list least all ++ y
    → (later : List Entry) × (all ≡ es ++ later) × (x ≡ posting_list (least_behind least es) later ++ y) × AreEntries rows (least_behind least es) later
front rows least [] all x y ae aa long e = (all, refl, e, aa)
front rows least (f ∷ es) [] x y ae aa long e = absurd (omega (arith, long))
front rows least (f ∷ es) (a ∷ all) x y ae aa long e =
    let g : posting least f.0 f.1 ++ (posting_list (f.0 + 1) es ++ x) ≡ posting least a.0 a.1 ++ (posting_list (a.0 + 1) all ++ y) =
    sym (append_assoc (posting least f.0 f.1) (posting_list (f.0 + 1) es) x) ∙ e ∙ append_assoc (posting least a.0 a.1) (posting_list (a.0 + 1) all) y in
    let its = one_entry least f.0 a.0 f.1 a.1 (posting_list (f.0 + 1) es ++ x) (posting_list (a.0 + 1) all ++ y) ae.0 aa.0 g in
    let row : f.0 ≡ a.0 = its.0 in let hits : f.1 ≡ a.1 = its.1 in
    let same : f ≡ a = λ i. (row i, hits i) in
    let rest : posting_list (f.0 + 1) es ++ x ≡ posting_list (f.0 + 1) all ++ y = its.2 ∙ ap (λ r. posting_list (r + 1) all ++ y) (sym row) in
    let behind : AreEntries rows (f.0 + 1) all = subst (λ r. AreEntries rows (r + 1) all) (sym row) aa.2 in
    let more = front rows (f.0 + 1) es all x y ae.2 behind (omega (arith, long)) rest in
    (more.0, (let tail : all ≡ es ++ more.0 = more.1 in cc), more.2, more.3)

none_later : (xs ys zs : List Entry) → zs ≡ xs ++ ys → length zs ≡ length xs → (ys ≡ []) × (zs ≡ xs)
none_later xs [] zs e l = (refl, e ∙ append-nil xs)
none_later xs (y ∷ ys) zs e l = absurd (omega (arith, l, ap length e, length-append xs (y ∷ ys)))

pub lists_apart : (table : List ℕ) (rows : ℕ) → AreApart bytes_of (IsList table rows)
lists_apart table rows n es fs x y ise isf e =
    let its = front rows 0 es fs x y ise.are isf.are (omega (arith, ise.counted, isf.counted)) e in
    let none = none_later es its.0 fs its.1 (omega (arith, ise.counted, isf.counted)) in
    (sym none.1, its.2 ∙ ap (λ later. posting_list (least_behind 0 es) later ++ y) none.0)
