-- What was asked leaves whose the tokens of a worker are.
use Rattle.std.proofs.Common.{◌≡◌, ℕ, List, [], ◌∷◌, length, length-set, refl, ap, ◌∙◌, arith}
use Rattle.std.specs.List.{AllZip}
use Rattle.doc_types.specs.declared.schema.Schema.{Schema}
use Rattle.step_book.specs.Fronts.{FrontValue}
use Rattle.step_history.specs.History.{Base}
use Rattle.step_tokens.specs.Tokens.{TokenValue}
use Rattle.ql_session.specs.Events.{Event, Configured, Nothing, NoMemory, Read, Commit, Reshape, Follows}
use Rattle.ql_session.specs.Machines.{FollowAll}
use Rattle.engine_tables.specs.Engines.{EnginesValue}
use Rattle.engine_tables.specs.Tokens.{SitsAt, TokensValue}
use Rattle.engine_tables.specs.Workers.{Grows, WorkerValue, by_tokens}
use Rattle.self_test.specs.Asking.{Leads}

long_zip : (xs ys : List TokenValue) → AllZip Grows xs ys → length ys ≡ length xs
long_zip [] [] zip = refl
long_zip [] (y ∷ ys) zip = absurd zip
long_zip (x ∷ xs) [] zip = absurd zip
long_zip (x ∷ xs) (y ∷ ys) zip = omega (arith, long_zip xs ys zip.1)

module _ (schema : ℕ → Schema) (base : ℕ → Base) where
  abbrev Moves : WorkerValue → Event FrontValue → WorkerValue → Type 0
  Moves = Follows (λ (worker : WorkerValue). worker.confs) (by_tokens schema base)

  -- how the indexes are configured, whose the tokens are, and of how many indexes
  record IsLike (old new : WorkerValue) : Type 0 where
    pub confs : new.confs ≡ old.confs
    pub worker : new.tokens.worker ≡ old.tokens.worker
    pub many : length new.tokens.list ≡ length old.tokens.list

  is_same : (old new : WorkerValue) → new ≡ old → IsLike old new
  is_same old new same = record { confs = ap (λ (w : WorkerValue). w.confs) same; worker = ap (λ (w : WorkerValue). w.tokens.worker) same; many = ap (λ (w : WorkerValue). length w.tokens.list) same }

  one_like : (old new : WorkerValue) (event : Event FrontValue) → Moves old event new → IsLike old new
  one_like old new (Configured confs) follows = is_same old new follows.1
  one_like old new Nothing follows = is_same old new follows
  one_like old new NoMemory follows = record { confs = follows.0; worker = follows.1.0; many = long_zip old.tokens.list new.tokens.list follows.1.1 }
  one_like old new (Read place front) follows = record { confs = follows.0.0; worker = follows.0.1.0; many = long_zip old.tokens.list new.tokens.list follows.0.1.1 }
  one_like old new (Commit place ops outcome front) follows =
      let mid = follows.0 in
      let made = follows.2.1 in record {
        confs = follows.2.0 ∙ follows.1.0;
        worker = ap (λ (t : TokensValue). t.worker) made.left ∙ follows.1.1.0;
        many = ap (λ (t : TokensValue). length t.list) made.left ∙ length-set mid.tokens.list place made.after ∙ long_zip old.tokens.list mid.tokens.list follows.1.1.1;
      }
  one_like old new (Reshape place job outcome own front) follows =
      let mid = follows.0 in
      let made = follows.3.1 in record {
        confs = follows.3.0 ∙ follows.1.0;
        worker = ap (λ (t : TokensValue). t.worker) made.left ∙ follows.1.1.0;
        many = ap (λ (t : TokensValue). length t.list) made.left ∙ length-set mid.tokens.list place made.after ∙ long_zip old.tokens.list mid.tokens.list follows.1.1.1;
      }

  all_like : (old new : WorkerValue) (events : List (Event FrontValue)) → FollowAll Moves old events new → IsLike old new
  all_like old new [] follows = is_same old new follows
  all_like old new (event ∷ events) follows =
      let first = one_like old follows.0 event follows.1 in
      let rest = all_like follows.0 new events follows.2 in
      record { confs = rest.confs ∙ first.confs; worker = rest.worker ∙ first.worker; many = rest.many ∙ first.many }

  -- a worker's tokens still are those of these engines
  pub still_sits : (engines : EnginesValue) (old new : WorkerValue) → SitsAt engines old.tokens → Leads (λ (worker : WorkerValue). worker.confs) (by_tokens schema base) old new → SitsAt engines new.tokens
  still_sits engines old new sits leads =
      let like = all_like old new leads.events leads.follows in
      record { many = like.many ∙ sits.many; above = omega (arith, like.worker, sits.above); within = omega (arith, like.worker, sits.within) }
