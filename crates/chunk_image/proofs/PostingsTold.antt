-- A posting list of so many entries is of one list of entries.
use Rattle.std.proofs.Common.{◌≡◌, ℕ, ◌+◌, ◌-◌, ◌≤◌, List, [], ◌∷◌, ◌++◌, length, refl, sym, ap, subst, ◌∙◌, arith, append_assoc}
use Rattle.posting_codec.specs.Numbers.{number}
use Rattle.posting_codec.specs.HitLists.{AreHits, hit_list}
use Rattle.posting_codec.proofs.Spellings.{one_number}
use Rattle.posting_codec.proofs.HitSteps.{one_hit_list}
use Rattle.posting_codec.specs.PostingLists.{posting, posting_list}

-- entries of ascending rows, the first of which is this one at least, each with some hits
abbrev pub ArePosted : ℕ → List (ℕ × List (ℕ × ℕ)) → Type 0
ArePosted least [] = Unit {0}
ArePosted least (entry ∷ entries) = (least ≤ entry.0) × AreHits entry.1 × ArePosted (entry.0 + 1) entries

entry_told : (least : ℕ) (p q : ℕ × List (ℕ × ℕ)) (x y : List ℕ) → least ≤ p.0 → least ≤ q.0 → AreHits p.1 → AreHits q.1
    → posting least p.0 p.1 ++ x ≡ posting least q.0 q.1 ++ y → (p ≡ q) × (x ≡ y)
entry_told least p q x y lp lq hp hq e =
    let a = number (p.0 + 1 - least) in let b = number (q.0 + 1 - least) in
    let m = number (length (hit_list p.1)) in let n = number (length (hit_list q.1)) in
    let row = one_number (p.0 + 1 - least) (q.0 + 1 - least) (m ++ (hit_list p.1 ++ x)) (n ++ (hit_list q.1 ++ y))
    (sym (ap (λ l. a ++ l) (append_assoc m (hit_list p.1) x)) ∙ sym (append_assoc a (m ++ hit_list p.1) x) ∙ ap (λ l. l ++ x) (sym (append_assoc a m (hit_list p.1))) ∙ e
    ∙ ap (λ l. l ++ y) (append_assoc b n (hit_list q.1)) ∙ append_assoc b (n ++ hit_list q.1) y ∙ ap (λ l. b ++ l) (append_assoc n (hit_list q.1) y)) in
    let size = one_number (length (hit_list p.1)) (length (hit_list q.1)) (hit_list p.1 ++ x) (hit_list q.1 ++ y) row.1 in
    let hits = one_hit_list p.1 q.1 x y hp hq size.1 in
    let r : p.0 ≡ q.0 = omega (arith, row.0, lp, lq) in let h : p.1 ≡ q.1 = hits.0 in
    (λ i. (r i, h i), hits.1)

pub list_told : (least : ℕ) (ps qs : List (ℕ × List (ℕ × ℕ))) (x y : List ℕ) → length ps ≡ length qs → ArePosted least ps → ArePosted least qs
    → posting_list least ps ++ x ≡ posting_list least qs ++ y → (ps ≡ qs) × (x ≡ y)
list_told least [] [] x y long ap aq e = (refl, e)
list_told least [] (q ∷ qs) x y long ap aq e = absurd (omega (arith, long))
list_told least (p ∷ ps) [] x y long ap aq e = absurd (omega (arith, long))
list_told least (p ∷ ps) (q ∷ qs) x y long posted its_posted e =
    let its = entry_told least p q (posting_list (p.0 + 1) ps ++ x) (posting_list (q.0 + 1) qs ++ y) posted.0 its_posted.0 posted.1 its_posted.1
    (sym (append_assoc (posting least p.0 p.1) (posting_list (p.0 + 1) ps) x) ∙ e ∙ append_assoc (posting least q.0 q.1) (posting_list (q.0 + 1) qs) y) in
    let row : p.0 ≡ q.0 = ap (λ z. z.0) its.0 in
    let rest = list_told (p.0 + 1) ps qs x y (omega (arith, long)) posted.2 (subst (λ n. ArePosted (n + 1) qs) (sym row) its_posted.2) (its.1 ∙ ap (λ n. posting_list (n + 1) qs ++ y) (sym row)) in
    (let here : p ≡ q = its.0 in let more : ps ≡ qs = rest.0 in cc, rest.1)
