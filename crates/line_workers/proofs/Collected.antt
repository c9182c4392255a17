-- The tokens of all seats, where they are collected.
use Rattle.std.proofs.Common.{◌≡◌, [], List, ◌++◌, length, ap, sym, subst, ◌∙◌, arith}
use Rattle.std.specs.Prelude.{All}
use Rattle.engine_tables.specs.Endings.{CanEnd, EndingValue}
use Rattle.engine_tables.specs.Engines.{EnginesValue}
use Rattle.engine_tables.specs.Names.{IsRoomFor}
use Rattle.engine_tables.specs.Tokens.{SeatsDiffer, SitsAt, TokensValue}

-- where none were there before, these alone are
pub all_there : (ending new : EndingValue) (tokens : List TokensValue) → ending.seats ≡ [] → new ≡ record ending { seats = ending.seats ++ tokens } → new.seats ≡ tokens
all_there ending new tokens none is = ap (λ (e : EndingValue). e.seats) is ∙ ap (λ (s : List TokensValue). s ++ tokens) none

-- and engines can end with them
pub can_end : (engines : EnginesValue) (ending new : EndingValue) (tokens : List TokensValue) → IsRoomFor (length engines.confs) engines.workers ending → All (SitsAt engines) tokens → SeatsDiffer tokens → new ≡ record ending { seats = ending.seats ++ tokens }
    → CanEnd engines new
can_end engines ending new tokens room sit differ is = record {
  room = omega (arith, room.indexes_fit, ap (λ (e : EndingValue). e.indexes) is);
  sit = subst (λ (s : List TokensValue). All (SitsAt engines) s) (sym (all_there ending new tokens room.none is)) sit;
  differ = subst SeatsDiffer (sym (all_there ending new tokens room.none is)) differ;
}
