-- A token that doesn't contradict its keeper, and what a crash leaves of a whole commit.
use Rattle.std.proofs.Common.{◌≡◌, inl, inr, ⊎_elim, ℕ, Bool, true, false, cond, not, ◌||◌, ◌==◌, nat_lt, ◌≤◌, length, Some, None, refl, subst, arith}
use Rattle.std.proofs.lemmas.Bool.{eqb-true}
use Rattle.std.proofs.lemmas.Bool.Decides.{nat_tests}
use Rattle.chunk_store.specs.declared.disk.Disk.{Ghosts as DiskWords}
use Rattle.doc_types.specs.declared.schema.Schema.{Schema}
use Rattle.step_history.specs.History.{Base}
use Rattle.step_line.specs.Lines.{LineValue, entered, kept_by, settled}
use Rattle.step_tokens.specs.Tokens.{TokenValue}
use Rattle.store_steps.specs.Kept.{GivesEither, LeavesOnly}
use Rattle.store_steps.specs.Refusals.{numbers_of, stray_of}
use Rattle.store_steps.proofs.Leaving.{leaves_then, leaves_weaker}
use Rattle.store_keep.specs.Commits.{GivesAny, GivesEntered}

is_false : {X : Type 0} (b : Bool) (x : X) → cond b (Some x) None ≡ None → b ≡ false
is_false true x is = absurd (cc (is))
is_false false x is = refl

same : (a b : Bool) → (a || not b) ≡ false → b ≡ true
same true b is = absurd (cc (is))
same false true is = refl
same false false is = absurd (cc (is))

or_left : (a b : Bool) → (a || b) ≡ false → a ≡ false
or_left true b is = absurd (cc (is))
or_left false b is = refl

-- it has seen no more than the keeper has
pub seen_within : (base : Base) (line : LineValue) (token : TokenValue) → stray_of base line token ≡ None → length token.seen ≤ length line.history
seen_within base line token none =
    let low : nat_lt (length line.history) (length token.seen) ≡ false = or_left (nat_lt (length line.history) (length token.seen)) (not (token.made == kept_by token.worker line)) (is_false _ (numbers_of base line token) none) in
    grind (arith, nat_tests, low)

-- it counts its worker's commits as the keeper does
pub counts_alike : (base : Base) (line : LineValue) (token : TokenValue) → stray_of base line token ≡ None → token.made ≡ kept_by token.worker line
counts_alike base line token none =
    eqb-true token.made (kept_by token.worker line) (same (nat_lt (length line.history) (length token.seen)) (token.made == kept_by token.worker line) (is_false _ (numbers_of base line token) none))

-- before a commit is tried
pub ready_leaves : {D : Type 0} (words : DiskWords D) (schema : Schema) (base : Base) (old now : D) (line new : LineValue) → LeavesOnly words old now (GivesEither schema base line.history line.waiting) → LeavesOnly words old now (GivesAny schema base line new)
ready_leaves words schema base old now line new leaves =
    leaves_weaker words old now {P = GivesEither schema base line.history line.waiting} {R = GivesAny schema base line new} (λ x gives. ⊎_elim (λ a. inl a) (λ b. inr (inl b)) gives) leaves

-- and until it has ended
pub commit_leaves : {D : Type 0} (words : DiskWords D) (schema : ℕ → Schema) (base : ℕ → Base) (old between now : D) (line mid new : LineValue) → mid ≡ settled line → LeavesOnly words old between (GivesEither (schema line.index) (base line.index) line.history line.waiting)
    → LeavesOnly words between now (GivesEntered (schema mid.index) (base mid.index) mid.history new) → LeavesOnly words old now (GivesAny (schema line.index) (base line.index) line new)
commit_leaves words schema base old between now line mid new is first second =
    let moved : LeavesOnly words between now (GivesEntered (schema line.index) (base line.index) (entered line) new) = subst (λ (l : LineValue). LeavesOnly words between now (GivesEntered (schema l.index) (base l.index) l.history new)) is second in
    leaves_then words old between now {P = GivesEither (schema line.index) (base line.index) line.history line.waiting} {Q = GivesEntered (schema line.index) (base line.index) (entered line) new} {R = GivesAny (schema line.index) (base line.index) line new} first moved
    (λ x gives. ⊎_elim (λ a. inl a) (λ b. inr (inl b)) gives) (λ x gives. inr gives)
