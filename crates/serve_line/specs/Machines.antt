-- What answers the commands of a connection, and what the outside has to do with it. No command but COM_QUIT is named here.
use Rattle.std.specs.Prelude.{◌≡◌, ℕ, List, [], ◌∷◌}
use Rattle.mysql_wire.specs.Commands.{ClientCommand}

-- A machine with sessions S and events E: what the outside decides about a command is its events.
pub record Machine (S E : Type 0) : Type 1 where
  -- the status that packets carry in this state of the session
  pub status : S → ℕ
  -- the command is answered by these bytes, with these events, and leaves the session in this state
  pub answers : S → ClientCommand → List E → List ℕ → S → Type 0

-- What events lead from and to, one after another.
abbrev pub FollowAll : {D E : Type 0} → (D → E → D → Type 0) → D → List E → D → Type 0
FollowAll follows old [] new = new ≡ old
FollowAll {D} follows old (event ∷ events) new = (next : D) × follows old event next × FollowAll follows next events new

-- The command is answered by these bytes, and its events lead the store from before to after.
abbrev pub Answered : {S E D : Type 0} → Machine S E → (D → E → D → Type 0) → S → ClientCommand → D → D → List ℕ → S → Type 0
Answered {S} {E} machine follows old asked before after bytes new =
    (events : List E) × machine.answers old asked events bytes new × FollowAll follows before events after
