-- Nothing need happen: tokens that stay as they are have seen what they had seen.
use Rattle.std.proofs.Common.{◌≡◌, List, [], ◌∷◌, refl}
use Rattle.std.specs.List.{AllZip}
use Rattle.step_book.proofs.Prefixes.{prefix_self}
use Rattle.step_tokens.specs.Tokens.{TokenValue}
use Rattle.engine_tables.specs.Tokens.{TokensValue}
use Rattle.engine_tables.specs.Workers.{Grows, GrowAll, WorkerValue}

pub grows_itself : (token : TokenValue) → Grows token token
grows_itself token = record { is = refl; seen = prefix_self token.seen }

pub grow_alike : (tokens : List TokenValue) → AllZip Grows tokens tokens
grow_alike [] = tt
grow_alike (token ∷ tokens) = (grows_itself token, grow_alike tokens)

pub all_stay : (tokens : TokensValue) → GrowAll tokens tokens
all_stay tokens = (refl, grow_alike tokens.list, refl)

-- a worker whose tokens stay
pub stays : (worker : WorkerValue) → (worker.confs ≡ worker.confs) × GrowAll worker.tokens worker.tokens
stays worker = (refl, all_stay worker.tokens)
