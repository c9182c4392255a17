-- The tokens of an engine are those of its users.
use Rattle.std.proofs.Common.{◌≡◌, ℕ, List, [], ◌∷◌, All}
use Rattle.std.proofs.lemmas.List.Elements.{All-nil, All-cons, All-head, All-tail}
use Rattle.doc_types.specs.declared.schema.Schema.{Schema}
use Rattle.snap_share.specs.Engines.{EngineValue}
use Rattle.snap_share.specs.Lines.{new_line}
use Rattle.snap_share.specs.Tellings.{AreTokensOf}
use Rattle.snap_share.specs.Tokens.{TokenValue}
use Rattle.share_vectors.specs.Users.{IsUser, plain}

pub are_users : (schema : ℕ → Schema) (engine : EngineValue) (tokens : List TokenValue) → schema engine.index ≡ plain → AreTokensOf (new_line engine.index engine.workers) tokens → All (IsUser schema engine) tokens
are_users schema engine [] columns of = All-nil (IsUser schema engine)
are_users schema engine (token ∷ tokens) columns of =
    All-cons (IsUser schema engine) token tokens (record { columns = columns; index = of.0; worker = of.1; known = of.2 }) (are_users schema engine tokens columns of.3)

pub are_tokens : (schema : ℕ → Schema) (engine : EngineValue) (tokens : List TokenValue) → All (IsUser schema engine) tokens → AreTokensOf (new_line engine.index engine.workers) tokens
are_tokens schema engine [] users = tt
are_tokens schema engine (token ∷ tokens) users =
    let user = All-head (IsUser schema engine) token tokens users in
    (user.index, user.worker, user.known, are_tokens schema engine tokens (All-tail (IsUser schema engine) token tokens users))
