-- How what moved in calls over a link adds up.
use Rattle.std.proofs.Common.{◌≡◌, ℕ, ◌+◌, ◌<◌, ◌≤◌, List, [], ◌++◌, length, take, drop, refl, sym, ◌∙◌, ap, ◌-◌, arith, length-drop, take-append-drop}
use Rattle.std.specs.Prelude.{◌==◌, ◌&&◌}
use Rattle.std.specs.Bool.{OnTrue}
use Rattle.std.proofs.lemmas.Bool.{OnTrue_at, lt-ltb}
use Rattle.std.proofs.Math.Dec.{ltb}
use Rattle.std.proofs.Math.Seq.{take-add}
use Rattle.std.proofs.lemmas.List.{take_all}
use Rattle.srch_base.specs.declared.link.Link.{Ghosts as LinkWords}
use Rattle.srch_base.specs.Told.{then_bytes}
use Rattle.srch_base.specs.steps.Telling.{then_bytes-none, then_bytes-twice}
use Rattle.srch_base.specs.Moves.{Meters, meters_of, Moves, IsCut}

-- a link's counts are later
pub record Later (old new : Meters) : Type 0 where
  pub reads : old.read_faults ≤ new.read_faults
  pub writes : old.write_faults ≤ new.write_faults

-- a prefix of bytes before their end is a cut
pub cut_at : (bytes : List ℕ) (done : ℕ) → done < length bytes → IsCut (take done bytes) bytes
cut_at bytes done within =
    (drop done bytes, (λ none. absurd (omega (arith, length-drop done bytes, ap length none))), sym (take-append-drop done bytes))

-- a prefix of bytes, and the next ones of the rest
pub take_next : (bytes : List ℕ) (done count : ℕ) → done ≤ length bytes → take done bytes ++ take count (take (length bytes - done) (drop done bytes)) ≡ take (done + count) bytes
take_next bytes done count within =
    ap (λ (rest : List ℕ). take done bytes ++ take count rest) (take_all (length bytes - done) (drop done bytes) (omega (arith, length-drop done bytes)))
    ∙ sym (take-add done count bytes)

-- what holds where nothing moved of something
pub stuck : (count size : ℕ) (P : Type 0) → count ≡ 0 → 0 < size → OnTrue ((count == 0) && ltb 0 size) P → P
stuck count size P none some holds =
    OnTrue_at (ap (λ (n : ℕ). (n == 0) && ltb 0 size) none ∙ lt-ltb 0 size some) holds

-- a link's members
module _ {L : Type 0} (words : LinkWords L) where
  -- one write
  pub Moves-from_write : (old new : L) (P : Meters → Meters → List ℕ → List ℕ → Type 0) (moved : List ℕ)
      → words.written_bytes new ≡ then_bytes (words.written_bytes old) moved → words.read_bytes new ≡ words.read_bytes old
      → words.write_faults old ≤ words.write_faults new → words.read_faults new ≡ words.read_faults old
      → P (meters_of words old) (meters_of words new) [] moved
      → Moves words old new P
  Moves-from_write old new P moved tells same later still holds = record {
    read = [];
    written = moved;
    tells_read = same ∙ sym (then_bytes-none (words.read_bytes old));
    tells_written = tells;
    reads_later = omega (arith, still);
    writes_later = later;
    holds = holds;
  }

  -- what moved first and what moved then
  pub Moves-then : (old mid new : L) (P Q R : Meters → Meters → List ℕ → List ℕ → Type 0)
      → Moves words old mid P → Moves words mid new Q
      → ((read written read' written' : List ℕ) → words.read_faults old ≤ words.read_faults mid → words.write_faults old ≤ words.write_faults mid
      → words.read_faults mid ≤ words.read_faults new → words.write_faults mid ≤ words.write_faults new
      → P (meters_of words old) (meters_of words mid) read written
      → Q (meters_of words mid) (meters_of words new) read' written'
      → R (meters_of words old) (meters_of words new) (read ++ read') (written ++ written'))
      → Moves words old new R
  Moves-then old mid new P Q R first then join = record {
    read = first.read ++ then.read;
    written = first.written ++ then.written;
    tells_read = then.tells_read ∙ ap (λ told. then_bytes told then.read) first.tells_read ∙ then_bytes-twice (words.read_bytes old) first.read then.read;
    tells_written = then.tells_written ∙ ap (λ told. then_bytes told then.written) first.tells_written ∙ then_bytes-twice (words.written_bytes old) first.written then.written;
    reads_later = omega (arith, first.reads_later, then.reads_later);
    writes_later = omega (arith, first.writes_later, then.writes_later);
    holds = join first.read first.written then.read then.written first.reads_later first.writes_later then.reads_later then.writes_later first.holds then.holds;
  }

  -- A prefix was written before, and a write moved more.
  pub Moves-more : (first link new : L) (bytes : List ℕ) (front moved : List ℕ) (P : Meters → Meters → List ℕ → List ℕ → Type 0)
      → Moves words first link (λ before now read written. (read ≡ []) × (written ≡ front))
      → words.written_bytes new ≡ then_bytes (words.written_bytes link) moved → words.read_bytes new ≡ words.read_bytes link
      → words.write_faults link ≤ words.write_faults new → words.read_faults new ≡ words.read_faults link
      → (words.write_faults first ≤ words.write_faults link → P (meters_of words first) (meters_of words new) [] (front ++ moved))
      → Moves words first new P
  Moves-more first link new bytes front moved P before tells same later still holds =
      Moves-then first link new (λ before now read written. (read ≡ []) × (written ≡ front)) (λ before now read written. (read ≡ []) × (written ≡ moved)) P
      before
      (Moves-from_write link new (λ before now read written. (read ≡ []) × (written ≡ moved)) moved tells same later still (refl, refl))
      (λ r w r' w' a b d e p q. rw (p.0, p.1, q.0, q.1) (holds b))

  -- The same moved, and more is known of it.
  pub Moves-weaker : (old new : L) (P Q : Meters → Meters → List ℕ → List ℕ → Type 0)
      → Moves words old new P
      → ((read written : List ℕ) → P (meters_of words old) (meters_of words new) read written
      → Q (meters_of words old) (meters_of words new) read written)
      → Moves words old new Q
  Moves-weaker old new P Q moves weaker = record {
    read = moves.read;
    written = moves.written;
    tells_read = moves.tells_read;
    tells_written = moves.tells_written;
    reads_later = moves.reads_later;
    writes_later = moves.writes_later;
    holds = weaker moves.read moves.written moves.holds;
  }
