-- The lines of a door, one more and at the end.
use Rattle.std.proofs.Common.{◌≡◌, inl, inr, ℕ, ◌+◌, ◌*◌, ◌≤◌, ◌<◌, List, [], ◌∷◌, ◌++◌, length, map, refl, sym, ap, subst, ◌∙◌, arith, append_assoc, append-nil, length-append}
use Rattle.srch_base.specs.Counts.{Rose}
use Rattle.srch_base.specs.declared.door.Door.{Ghosts as DoorWords}
use Rattle.srch_base.specs.declared.link.Link.{Ghosts as LinkWords}
use Rattle.index_conf.specs.declared.conf.IndexConf.{IndexConf}
use Rattle.srch_base.specs.Moves.{Moves}
use Rattle.ql_session.specs.Events.{Event, Follows, StoreWords}
use Rattle.ql_session.specs.LinkEnd.{LinkEnd}
use Rattle.ql_session.specs.Machines.{FollowAll}
use Rattle.ql_session.specs.Session.{IsSession}
use Rattle.line_workers.specs.Lines.{Service, ServesLine, ServesLines, ServesDoor, connection_of}
use Rattle.line_workers.specs.declared.serving.SeatEnd.TheVariants as ends
use Rattle.line_workers.specs.declared.serving.Next.TheVariants as nexts
use Rattle.line_workers.specs.steps.Turns.{HasServed, ServesNext, TakesLine}

map_then : {A B : Type 0} (f : A → B) (xs : List A) (x : A) → map f (xs ++ x ∷ []) ≡ map f xs ++ f x ∷ []
map_then f [] x = refl
map_then {A} {B} f (y ∷ xs) x = ap (λ (ys : List B). f y ∷ ys) (map_then f xs x)

-- a line that was served, with its events
pub serves_line : {K D F : Type 0} (link : LinkWords K) (confs : D → List IndexConf) (words : StoreWords D F) (connection : ℕ) (line back : K) (end : LinkEnd) (old new : D)
    → Moves link line back (λ before now read written. (events : List (Event F)) × IsSession words.documents connection before now read written end events × FollowAll (Follows confs words) old events new)
    → (service : Service K F) × ServesLine link confs words connection service old new × (service.line ≡ line) × (service.back ≡ back)
serves_line link confs words connection line back end old new moves = (
  record { line = line; back = back; events = moves.holds.0 },
  (
    (
      end,
      record {
        read = moves.read;
        written = moves.written;
        tells_read = moves.tells_read;
        tells_written = moves.tells_written;
        reads_later = moves.reads_later;
        writes_later = moves.writes_later;
        holds = moves.holds.1;
      },
    ),
    moves.holds.2,
  ),
  refl,
  refl,
)

module _ {E K D F : Type 0} (door : DoorWords E K) (link : LinkWords K) (confs : D → List IndexConf) (words : StoreWords D F) (workers worker : ℕ) where
  lines_then : (line : ℕ) (services : List (Service K F)) (service : Service K F) (old mid new : D) → ServesLines link confs words workers worker line services old mid
      → ServesLine link confs words (connection_of workers worker (line + length services)) service mid new → ServesLines link confs words workers worker line (services ++ service ∷ []) old new
  lines_then line [] service old mid new first next =
      (new, subst (λ (d : D). ServesLine link confs words (connection_of workers worker line) service d new) first (subst (λ (n : ℕ). ServesLine link confs words (connection_of workers worker n) service mid new) (omega arith) next), refl)
  lines_then line (s ∷ services) service old mid new first next =
      (first.0, first.1, lines_then (line + 1) services service first.0 mid new first.2 (subst (λ (n : ℕ). ServesLine link confs words (connection_of workers worker n) service mid new) (omega arith) next))

  -- no line yet
  pub served_none : (old : E) (before : D) → length (door.returned old) ≤ length (door.given old) → HasServed door link confs words workers worker 0 old old before before
  served_none old before within = record {
    services = [];
    counts = refl;
    given = sym (append-nil (door.given old));
    returned = sym (append-nil (door.returned old));
    serves = refl;
    calm = refl;
    within = within;
  }

  -- one line more
  pub served_more : (count : ℕ) (old mid new : E) (before between after : D) → HasServed door link confs words workers worker count old mid before between
      → TakesLine door link confs words (workers * count + worker) mid new between after → HasServed door link confs words workers worker (count + 1) old new before after
  served_more count old mid new before between after so_far takes =
      let lines = map (λ (s : Service K F). s.line) so_far.services in
      let backs = map (λ (s : Service K F). s.back) so_far.services in
      let number : workers * count + worker ≡ connection_of workers worker (1 + length so_far.services) = ap (λ (n : ℕ). workers * n + worker) (omega (arith, so_far.counts)) in
      record {
        services = so_far.services ++ takes.service ∷ [];
        counts = omega (arith, length-append so_far.services (takes.service ∷ []), so_far.counts);
        given = takes.given ∙ ap (λ (ls : List K). ls ++ takes.service.line ∷ []) so_far.given ∙ append_assoc (door.given old) lines (takes.service.line ∷ [])
            ∙ ap (λ (ls : List K). door.given old ++ ls) (sym (map_then (λ (s : Service K F). s.line) so_far.services takes.service));
        returned = takes.returned ∙ ap (λ (ls : List K). ls ++ takes.service.back ∷ []) so_far.returned ∙ append_assoc (door.returned old) backs (takes.service.back ∷ [])
            ∙ ap (λ (ls : List K). door.returned old ++ ls) (sym (map_then (λ (s : Service K F). s.back) so_far.services takes.service));
        serves = lines_then 1 so_far.services takes.service before between after so_far.serves (subst (λ (n : ℕ). ServesLine link confs words n takes.service between after) number takes.serves);
        calm = takes.calm ∙ so_far.calm;
        within = (
            let gives = ap length takes.given ∙ length-append (door.given mid) (takes.service.line ∷ []) in
            let gets = ap length takes.returned ∙ length-append (door.returned mid) (takes.service.back ∷ []) in
            omega (arith, gives, gets, so_far.within)
            );
      }

  -- as many as the worker may serve
  pub served_all : (sessions : ℕ) (old now : E) (before after : D) → HasServed door link confs words workers worker sessions old now before after
      → (services : List (Service K F)) × ServesDoor door link confs words workers worker sessions services old now ends.Done before after
  served_all sessions old now before after so_far =
      (so_far.services, record { given = so_far.given; returned = so_far.returned; few = omega (arith, so_far.counts); serves = so_far.serves; ends = (inr so_far.counts, so_far.calm) })

  -- the door has ended
  pub served_ended : (sessions count : ℕ) (old mid new : E) (before between after : D) → count < sessions → HasServed door link confs words workers worker count old mid before between
      → ServesNext door link confs words (workers * count + worker) mid new between after nexts.Ended
      → (services : List (Service K F)) × ServesDoor door link confs words workers worker sessions services old new ends.Done before after
  served_ended sessions count old mid new before between after below so_far takes = (
    so_far.services,
    record {
      given = takes.0.given ∙ so_far.given;
      returned = takes.0.returned ∙ so_far.returned;
      few = omega (arith, so_far.counts);
      serves = subst (λ (d : D). ServesLines link confs words workers worker 1 so_far.services before d) (sym takes.0.store) so_far.serves;
      ends = (inl takes.1, takes.2 ∙ so_far.calm);
    },
  )

  -- the door failed
  pub served_failed : (sessions count : ℕ) (old mid new : E) (before between after : D) → count < sessions → HasServed door link confs words workers worker count old mid before between
      → ServesNext door link confs words (workers * count + worker) mid new between after nexts.Failed
      → (services : List (Service K F)) × ServesDoor door link confs words workers worker sessions services old new ends.HostFault before after
  served_failed sessions count old mid new before between after below so_far takes = (
    so_far.services,
    record {
      given = takes.0.given ∙ so_far.given;
      returned = takes.0.returned ∙ so_far.returned;
      few = omega (arith, so_far.counts);
      serves = subst (λ (d : D). ServesLines link confs words workers worker 1 so_far.services before d) (sym takes.0.store) so_far.serves;
      ends = subst (λ (n : ℕ). Rose n (door.faults new)) so_far.calm takes.1;
    },
  )
