-- One worker at its seat.
use Rattle.std.proofs.Common.{◌≡◌, ℕ, List, Some, ap, subst, ◌∙◌, arith}
use Rattle.srch_base.specs.declared.door.Door.{Ghosts as DoorWords}
use Rattle.srch_base.specs.declared.link.Link.{Ghosts as LinkWords}
use Rattle.doc_types.specs.declared.schema.Schema.{Schema}
use Rattle.index_conf.specs.declared.conf.IndexConf.{IndexConf}
use Rattle.step_book.specs.Fronts.{FrontValue}
use Rattle.step_history.specs.History.{Base}
use Rattle.ql_session.specs.Machines.{FollowAll}
use Rattle.engine_tables.specs.Engines.{EnginesValue}
use Rattle.engine_tables.specs.Tokens.{SitsAt, TokensValue}
use Rattle.engine_tables.specs.Workers.{WorkerValue, by_tokens}
use Rattle.line_workers.specs.Attempts.{events_of}
use Rattle.line_workers.specs.Lines.{Service, ServesDoor}
use Rattle.line_workers.specs.declared.seat.Seat.{Seat}
use Rattle.line_workers.specs.steps.Working.{HasWorked}
use Rattle.line_workers.proofs.Moving.{Leads, lines_follow, same_confs, same_shape}
use Rattle.line_workers.proofs.Whole.{works_so}

module _ {E K J : Type 0} (door : DoorWords E K) (link : LinkWords K) (schema : ℕ → Schema) (base : ℕ → Base) (engines : EnginesValue) (sessions : ℕ) where
  -- it served over its tokens of these engines
  abbrev Serves : ℕ → ℕ → List (Service K FrontValue) → Seat E J K → Seat E J K → WorkerValue → WorkerValue → Type 0
  Serves workers worker services old new before after = ServesDoor door link (λ tables. tables.confs) (by_tokens schema base) workers worker sessions services old.door new.door new.end before after

  pub worked_so : (old new : Seat E J K) (had : TokensValue) (before after : WorkerValue) (workers worker : ℕ) (services : List (Service K FrontValue)) → old.tokens ≡ Some had → SitsAt engines had → new.tokens ≡ Some (after.tokens)
      → before ≡ record { confs = engines.confs; tokens = had } → workers ≡ engines.workers → worker ≡ had.worker → Serves workers worker services old new before after → HasWorked door link schema base engines sessions old new
  worked_so old new had before after workers worker services is sits leaves begins many own serves =
      let start : WorkerValue = record { confs = engines.confs; tokens = had } in
      let here : Serves engines.workers had.worker services old new start after =
      subst (λ (b : WorkerValue). Serves engines.workers had.worker services old new b after) begins
      (subst (λ (w : ℕ). Serves w had.worker services old new before after) many (subst (λ (w : ℕ). Serves workers w services old new before after) own serves)) in
      let follows : FollowAll (Leads schema base 0) start (events_of services) after =
      lines_follow link (λ (tables : WorkerValue). tables.confs) (by_tokens schema base) engines.workers had.worker 1 services start after here.serves in
      let confs : after.confs ≡ engines.confs = same_confs schema base 0 start after (events_of services) follows in
      let shape = same_shape schema base 0 start after (events_of services) follows in
      let ends : after ≡ record { confs = engines.confs; tokens = after.tokens } = ap (λ (cs : List IndexConf). record { confs = cs; tokens = after.tokens }) confs in
      record {
        had = had;
        left = after.tokens;
        is = is;
        leaves = leaves;
        sits = record { many = shape.1 ∙ sits.many; above = omega (arith, shape.0, sits.above); within = omega (arith, shape.0, sits.within) };
        own = shape.0;
        services = services;
        works = works_so door link schema base engines.confs engines.workers sessions services had after.tokens old new
            (subst (λ (a : WorkerValue). Serves engines.workers had.worker services old new start a) ends here);
      }
