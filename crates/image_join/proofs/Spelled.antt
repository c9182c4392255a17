-- A posting list while it is written.
use Rattle.std.proofs.Common.{◌≡◌, ℕ, ◌+◌, ◌<◌, ◌≤◌, List, ◌∷◌, ◌++◌, length, drop, get_or, sym, ap, subst, ◌∙◌, append_assoc}
use Rattle.std.specs.Borrow.{Bor}
use Rattle.posting_codec.specs.PostingLists.{spelled_posting}
use Rattle.image_write.proofs.Marked.{drop_next}
use Rattle.image_join.specs.steps.Entries.{Rising, lent, spelled_list}

abbrev Found : Type 0
Found = ℕ × Bor (List ℕ)

-- one entry more
pub list_more : (found : List Found) (i least : ℕ) (entry : Found) (start now after : List ℕ) → i < length found → entry ≡ get_or found i entry
    → now ++ spelled_list least (lent (drop i found)) ≡ start ++ spelled_list 0 (lent found) → after ≡ now ++ spelled_posting least entry.0 entry.1.now
    → after ++ spelled_list (entry.0 + 1) (lent (drop (i + 1) found)) ≡ start ++ spelled_list 0 (lent found)
list_more found i least entry start now after low is was put =
    let here : drop i found ≡ entry ∷ drop (i + 1) found = drop_next found i entry low is in
    let rest = spelled_list (entry.0 + 1) (lent (drop (i + 1) found)) in
    ap (λ l. l ++ rest) put ∙ append_assoc now (spelled_posting least entry.0 entry.1.now) rest ∙ ap (λ l. now ++ l) (sym (ap (λ (es : List Found). spelled_list least (lent es)) here)) ∙ was

pub rising_more : (found : List Found) (i least : ℕ) (entry : Found) → i < length found → entry ≡ get_or found i entry → least ≤ entry.0 → entry.0 < 4294967295
    → (Rising least (lent (drop i found)) → Rising 0 (lent found)) → Rising (entry.0 + 1) (lent (drop (i + 1) found)) → Rising 0 (lent found)
rising_more found i least entry low is behind small was up =
    let here : drop i found ≡ entry ∷ drop (i + 1) found = drop_next found i entry low is in
    was (subst (λ (es : List Found). Rising least (lent es)) (sym here) (behind, small, up))
