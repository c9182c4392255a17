-- Workers: what each worker does with its door, over its tokens of all indexes.
use Rattle.std.specs.Prelude.{◌≡◌, ⊤, ℕ, ◌+◌, List, [], ◌∷◌, Option, Some, All, length, slice_get}
use Rattle.std.specs.Option.{option_or}
use mathlib.Core.List.{IsPrefix}
use Rattle.srch_base.specs.declared.door.Door.{Ghosts as DoorWords}
use Rattle.srch_base.specs.declared.link.Link.{Ghosts as LinkWords}
use Rattle.commit_outcomes.specs.declared.strayed.Strayed.{Strayed}
use Rattle.doc_types.specs.declared.schema.Schema.{Schema}
use Rattle.index_conf.specs.declared.conf.IndexConf.{IndexConf}
use Rattle.ql_session.specs.Events.{Event}
use Rattle.step_book.specs.Fronts.{FrontValue}
use Rattle.step_history.specs.History.{Base}
use Rattle.step_tokens.specs.Tokens.{TokenValue, faults_of, stops_of}
use Rattle.engine_tables.specs.Tokens.{TokensValue, new_seat}
use Rattle.engine_tables.specs.Workers.{by_tokens}
use Rattle.line_workers.specs.Attempts.{OnFront, all_of, attempts, events_of, faults, stops, told_by}
use Rattle.line_workers.specs.Lines.{Service, ServesDoor}
use Rattle.line_workers.specs.declared.seat.Seat.{Seat}

-- Of these events the token counts, on its index, the commits that were acknowledged or are in doubt, the calls that a fault of the disk
-- refused or left in doubt, and those that a contradiction stopped, or that numbers of files or of roots had ended.
pub record CountsThem {F : Type 0} (index : ℕ) (events : List (Event F)) (before after : TokenValue) : Type 0 where
  pub made : after.made ≡ before.made + length (all_of attempts index events)
  pub faults : faults_of after ≡ faults_of before + length (all_of faults index events)
  pub stops : stops_of after ≡ stops_of before + length (all_of stops index events)

-- What a worker did with the door of its seat, from the tokens that it had to those that it had left. It served lines over them: so
-- the fronts of their events rise, and each begins with all that its token had seen. What a token has seen in the end begins with
-- each front of its index, and the token counts what these events are (`CountsThem`). Beside it stands the first contradiction that a
-- commit or a job of its index was told.
pub record Works {E K J : Type 0} (door : DoorWords E K) (link : LinkWords K) (schema : ℕ → Schema) (base : ℕ → Base) (confs : List IndexConf) (workers sessions : ℕ) (services : List (Service K FrontValue)) (had left : TokensValue) (old new : Seat E J K) : Type 0 where
  pub serves : ServesDoor door link (λ tables. tables.confs) (by_tokens schema base) workers had.worker sessions services old.door new.door new.end
      (record { confs = confs; tokens = had }) (record { confs = confs; tokens = left })
  pub fronts : (index : ℕ) (token : TokenValue) → slice_get left.list index ≡ Some token
      → All (OnFront index (λ front. IsPrefix front.steps token.seen)) (events_of services)
  pub counts : (index : ℕ) (before after : TokenValue) → slice_get had.list index ≡ Some before → slice_get left.list index ≡ Some after
      → CountsThem index (events_of services) before after
  pub told : (index : ℕ) (before after : Option Strayed) → slice_get had.told index ≡ Some before → slice_get left.told index ≡ Some after
      → after ≡ option_or before (told_by index (events_of services))

-- the tokens of a worker that has seen and made nothing yet
abbrev pub first_tokens : List IndexConf → ℕ → TokensValue
first_tokens confs worker = new_seat (length confs) worker

-- So did each worker with its first tokens, the first of which has this number.
abbrev pub AllWork : {E K J : Type 0} → DoorWords E K → LinkWords K → (ℕ → Schema) → (ℕ → Base) → List IndexConf → ℕ → ℕ → ℕ → List (List (Service K FrontValue)) → List TokensValue → List (Seat E J K) → List (Seat E J K) → Type 0
AllWork door link schema base confs workers sessions worker [] [] [] [] = ⊤
AllWork door link schema base confs workers sessions worker (services ∷ others) (left ∷ lefts) (old ∷ olds) (new ∷ news) =
    Works door link schema base confs workers sessions services (first_tokens confs worker) left old new
    × AllWork door link schema base confs workers sessions (worker + 1) others lefts olds news
AllWork door link schema base confs workers sessions worker services lefts olds news = ⊥
