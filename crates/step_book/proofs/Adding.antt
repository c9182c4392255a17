-- The exchanges that take a turn and that add an entry keep the rule.
use Rattle.std.proofs.Common.{◌≡◌, ℕ, zero, suc, ◌+◌, ◌<◌, ◌≤◌, ◌==◌, ◌⊎◌, Bool, true, false, List, [], ◌∷◌, ◌++◌, length, slice_set, refl, ap, sym, subst, ◌∙◌, arith, inl, inr, ⊎_elim, length-append, length-set, true≢false, Option}
use Rattle.std.proofs.lemmas.List.{append-nil}
use Rattle.std.proofs.lemmas.Bool.{cases_lt}
use Rattle.std.proofs.lemmas.Bool.Decides.{nat_tests}
use mathlib.Core.List.{IsPrefix}
use prog.Atomic.{either}
use Rattle.logbook.specs.Pages.{Cell, cell, keeps, gives, adds, no_nib, nib, may_write, may_make, step, Moves, Goes}
use Rattle.step_book.specs.Rules.{IsKept, Takes, Adds, mark, turn_at, right_of}
use Rattle.step_book.proofs.Prefixes.{prefix_length, prefix_trans, prefix_whole}

abbrev pub shown : {E : Type 0} → List E → List E
shown log = []

abbrev pub moved : {E : Type 0} → List E → List E → ℕ → Type 0
moved xs ys n = Unit {0}

both_home : (key : ℕ) → key < 2 → (cell ((0, true) ∷ (0, true) ∷ []) key).1 ≡ true
both_home zero lt = refl
both_home (suc zero) lt = refl
both_home (suc (suc key)) lt = absurd (omega (arith, lt))

-- a line without entries, of which no turn is taken
pub opened : {E : Type 0} → IsKept {E = E} ((0, true) ∷ (0, true) ∷ []) []
opened = record { taken = 0; once = omega arith; head = refl; turns = refl; home = both_home }

same_half : (n m t : ℕ) → n + n + t ≡ m + m → t ≤ 1 → t ≡ 0
same_half zero zero t e once = omega (arith, e)
same_half zero (suc m) t e once = absurd (omega (arith, e, once))
same_half (suc n) zero t e once = absurd (omega (arith, e))
same_half (suc n) (suc m) t e once = same_half n m t (omega (arith, e)) once

before : (cells : List Cell) (one : Cell) (key : ℕ) → key < length cells → cell (cells ++ one ∷ []) key ≡ cell cells key
before [] one key lt = absurd (omega (arith, lt))
before (c ∷ cells) one zero lt = refl
before (c ∷ cells) one (suc key) lt = before cells one key (omega (arith, lt))

-- where one cell is brought home, it and those that were at home are
brought : (cells : List Cell) (at key : ℕ) → at < length cells → (key ≡ at) ⊎ ((cell cells key).1 ≡ true) → (cell (slice_set cells at (0, true)) key).1 ≡ true
brought [] at key lt is = absurd (omega (arith, lt))
brought (c ∷ cells) zero zero lt is = refl
brought (c ∷ cells) zero (suc key) lt (inl e) = absurd (omega (arith, e))
brought (c ∷ cells) zero (suc key) lt (inr e) = e
brought (c ∷ cells) (suc at) zero lt (inl e) = absurd (omega (arith, e))
brought (c ∷ cells) (suc at) zero lt (inr e) = e
brought (c ∷ cells) (suc at) (suc key) lt (inl e) = brought cells at key (omega (arith, lt)) (inl (omega (arith, e)))
brought (c ∷ cells) (suc at) (suc key) lt (inr e) = brought cells at key (omega (arith, lt)) (inr e)

at_or_before : (key at : ℕ) → key ≤ at → (key ≡ at) ⊎ (key < at)
at_or_before zero zero le = inl refl
at_or_before zero (suc at) le = inr (omega arith)
at_or_before (suc key) zero le = absurd (omega (arith, le))
at_or_before (suc key) (suc at) le = ⊎_elim (λ e. inl (omega (arith, e))) (λ lt. inr (omega (arith, lt))) (at_or_before key at (omega (arith, le)))

-- no entry more is the same line
same_line : {E : Type 0} (P : List E → Type 0) (log : List E) → P log → P (log ++ [])
same_line P log p = subst P (sym (append-nil log)) p

-- the word is written with what it was
stays_home : {E : Type 0} (c : Cell) (cells : List Cell) (log : List E) → IsKept (c ∷ cells) log → (key : ℕ) → key < turn_at (length log) → (cell ((c.0, true) ∷ cells) key).1 ≡ true
stays_home c cells log kept zero lt = refl
stays_home c cells log kept (suc key) lt = kept.home (suc key) lt

stays : {E : Type 0} (c : Cell) (cells : List Cell) (log : List E) → IsKept (c ∷ cells) log → IsKept ((c.0, true) ∷ cells) log
stays c cells log kept = record { taken = kept.taken; once = kept.once; head = kept.head; turns = kept.turns; home = stays_home c cells log kept }

-- a turn is taken where none was
takes_home : {E : Type 0} (c : Cell) (cells : List Cell) (log : List E) (n : ℕ) → IsKept (c ∷ cells) log → length (c ∷ cells) ≡ turn_at (length log) → (key : ℕ) → key < turn_at (length log) → (cell ((n, true) ∷ (cells ++ (0, false) ∷ [])) key).1 ≡ true
takes_home c cells log n kept free zero lt = refl
takes_home c cells log n kept free (suc key) lt = ap (λ (c : Cell). c.1) (before cells (0, false) key (omega (arith, lt, free))) ∙ kept.home (suc key) lt

takes : {E : Type 0} (c : Cell) (cells : List Cell) (log : List E) (n : ℕ) → IsKept (c ∷ cells) log → n ≡ mark (length log) 1 → length (c ∷ cells) ≡ turn_at (length log)
    → IsKept ((n, true) ∷ (cells ++ (0, false) ∷ [])) log
takes c cells log n kept is free =
    let more : length (cells ++ (0, false) ∷ []) ≡ length cells + 1 = length-append cells ((0, false) ∷ []) in
    record { taken = 1; once = omega arith; head = is; turns = omega (arith, free, more); home = takes_home c cells log n kept free }

-- the turn that is taken comes home with an entry
comes_home : {E : Type 0} (c : Cell) (cells : List Cell) (log : List E) (n at : ℕ) → IsKept (c ∷ cells) log → suc at ≡ turn_at (length log) → at < length cells → (key : ℕ) → key ≤ suc at → (cell ((n, true) ∷ slice_set cells at (0, true)) key).1 ≡ true
comes_home c cells log n at kept here within zero le = refl
comes_home c cells log n at kept here within (suc key) le =
    ⊎_elim (λ e. brought cells at key within (inl e)) (λ lt. brought cells at key within (inr (kept.home (suc key) (omega (arith, lt, here))))) (at_or_before key at (omega (arith, le)))

comes : {E : Type 0} (c : Cell) (cells : List Cell) (log : List E) (e : E) (n at : ℕ) → IsKept (c ∷ cells) log → n ≡ mark (length log + 1) 0 → suc at ≡ turn_at (length log) → length (c ∷ cells) ≡ turn_at (length log) + 1
    → IsKept ((n, true) ∷ slice_set cells at (0, true)) (log ++ e ∷ [])
comes c cells log e n at kept is here full =
    let more : length (log ++ e ∷ []) ≡ length log + 1 = length-append log (e ∷ []) in
    let as_many : length (slice_set cells at (0, true)) ≡ length cells = length-set cells at (0, true) in
    record {
      taken = 0;
      once = omega arith;
      head = omega (arith, is, more);
      turns = omega (arith, more, full, as_many);
      home = λ key lt. comes_home c cells log n at kept here (omega (arith, here, full)) key (omega (arith, lt, more, here));
    }

takes_goes : {E : Type 0} (v : List E) (e : E) (s : Option ℕ) (old entries : ℕ) → old ≡ entries + entries → (c : Cell) (cells : List Cell) (log : List E) → IsKept (c ∷ cells) log
    → (b : Bool) → (c.0 == old) ≡ b
    → Goes IsKept shown moved 0 (v, (no_nib, s)) (λ n. either (n == old) (old + 1) n) (Takes (step 0 old (old + 1) e) (v, (no_nib, s))) (c ∷ cells) log
takes_goes v e s old entries even c cells log kept true is =
    let here : c.0 ≡ old = grind (arith, nat_tests) in
    let head : c.0 ≡ mark (length log) kept.taken = kept.head in
    let free : kept.taken ≡ 0 = same_half (length log) entries kept.taken (omega (arith, here, head, even)) kept.once in
    let len : length (log ++ []) ≡ length log = ap length (append-nil log) in
    let turns : length (c ∷ cells) ≡ turn_at (length log) + kept.taken = kept.turns in
    let full : length (c ∷ cells) ≡ turn_at (length log) = omega (arith, turns, free) in
    let next : either (c.0 == old) (old + 1) c.0 ≡ mark (length log) 1 = rw is (omega (arith, here, head, free)) in
    let told : mark (length (log ++ [])) 0 ≡ c.0 = omega (arith, len, head, free) in
    let right : nib may_make (length (c ∷ cells)) 0 ≡ nib may_make (turn_at (length (log ++ []))) 0 = ap (λ k. nib may_make k 0) (omega (arith, len, full)) in (
      adds,
      [],
      s,
      tt,
      same_line (IsKept ((either (c.0 == old) (old + 1) c.0, true) ∷ (cells ++ (0, false) ∷ []))) log (takes c cells log (either (c.0 == old) (old + 1) c.0) kept next full),
      inl (refl, refl),
      rw is (told, right),
    )
takes_goes v e s old entries even c cells log kept false is =
    let same : c.0 ≡ either (c.0 == old) (old + 1) c.0 = rw is refl in (
      keeps,
      [],
      s,
      tt,
      same_line (IsKept ((either (c.0 == old) (old + 1) c.0, true) ∷ cells)) log (subst (λ n. IsKept ((n, true) ∷ cells) log) same (stays c cells log kept)),
      inl (refl, refl),
      rw is tt,
    )

-- Whatever the line is, the exchange takes the turn of a line with half as many entries as the number that it finds, or does nothing.
pub takes_moves : {E : Type 0} (v : List E) (e : E) (s : Option ℕ) (old entries : ℕ) → old ≡ entries + entries
    → Moves IsKept shown moved 0 (v, (no_nib, s)) (λ n. either (n == old) (old + 1) n) (Takes (step 0 old (old + 1) e) (v, (no_nib, s)))
takes_moves v e s old entries even [] log kept pre away = absurd (let turns : 0 ≡ turn_at (length log) + kept.taken = kept.turns in omega (arith, turns))
takes_moves v e s old entries even (c ∷ cells) log kept pre away =
    (omega arith, kept.home 0 (omega arith), takes_goes v e s old entries even c cells log kept (c.0 == old) refl)

-- Who has the turn has seen all of the line.
whole : {E : Type 0} (v log : List E) (cells : List Cell) → IsKept cells log → IsPrefix v log → (cell cells (turn_at (length v))).1 ≡ false → (length v < length log) ⊎ (length log ≤ length v) → v ≡ log
whole v log cells kept pre away (inl lt) = absurd (true≢false (sym (kept.home (turn_at (length v)) (omega (arith, lt))) ∙ away))
whole v log cells kept pre away (inr le) = prefix_whole v log pre le

adds_goes : {E : Type 0} (log : List E) (e : E) (s : Option ℕ) (old at key : ℕ) → old ≡ mark (length log) 1 → suc at ≡ turn_at (length log) → key ≡ suc at → (c : Cell) (cells : List Cell) → IsKept (c ∷ cells) log → key < length (c ∷ cells)
    → Goes IsKept shown moved 0 (log, (nib may_write key 0, s)) (λ n. either (n == old) (old + 1) n) (Adds (step 0 old (old + 1) e) (log, (nib may_write key 0, s))) (c ∷ cells) log
adds_goes log e s old at key is here this c cells kept within =
    let once : kept.taken ≤ 1 = kept.once in
    let turns : length (c ∷ cells) ≡ turn_at (length log) + kept.taken = kept.turns in
    let head : c.0 ≡ mark (length log) kept.taken = kept.head in
    let taken : kept.taken ≡ 1 = omega (arith, once, turns, within, this, here) in
    let full : length (c ∷ cells) ≡ turn_at (length log) + 1 = omega (arith, turns, taken) in
    let found : c.0 ≡ old = omega (arith, head, taken, is) in
    let hit : (c.0 == old) ≡ true = grind (arith, nat_tests) in
    let next : either (c.0 == old) (old + 1) c.0 ≡ mark (length log + 1) 0 = rw hit (omega (arith, is)) in
    let after : IsKept ((either (c.0 == old) (old + 1) c.0, true) ∷ slice_set cells at (0, true)) (log ++ e ∷ []) = comes c cells log e (either (c.0 == old) (old + 1) c.0) at kept next here full in (
      gives,
      e ∷ [],
      s,
      refl,
      subst (λ k. IsKept (slice_set ((either (c.0 == old) (old + 1) c.0, true) ∷ cells) k (0, true)) (log ++ e ∷ [])) (sym this) after,
      inl (refl, refl),
      (sym is, refl),
    )

-- Whatever the line is, the exchange adds the entry; and what the turn was taken behind, and what was learnt since, was all of it.
pub adds_moves : {E : Type 0} (v seen : List E) (e : E) (s : Option ℕ) (old : ℕ) → old ≡ mark (length v) 1 → IsPrefix v seen
    → Moves IsKept shown moved 0 (seen, (right_of (length v), s)) (λ n. either (n == old) (old + 1) n) (Adds (step 0 old (old + 1) e) (seen, (right_of (length v), s)))
adds_moves v seen e s old is begins [] log kept pre away = absurd (let turns : 0 ≡ turn_at (length log) + kept.taken = kept.turns in omega (arith, turns))
adds_moves v seen e s old is begins (c ∷ cells) log kept pre away =
    let same : v ≡ log = whole v log (c ∷ cells) kept (prefix_trans v seen log begins pre) (away refl).1 (cases_lt (length v) (length log)) in
    let long : length v ≡ length log = ap length same in
    let most = prefix_length v seen begins in
    let learnt : seen ≡ log = prefix_whole seen log pre (omega (arith, long, most)) in (
      omega arith,
      kept.home 0 (omega arith),
      subst
          (λ w. Goes IsKept shown moved 0 (w, (right_of (length v), s)) (λ n. either (n == old) (old + 1) n) (Adds (step 0 old (old + 1) e) (w, (right_of (length v), s))) (c ∷ cells) log)
          (sym learnt)
          (adds_goes log e s old (length log + 1) (turn_at (length v)) (omega (arith, is, long)) (omega arith) (omega (arith, long)) c cells kept (away refl).0),
    )
