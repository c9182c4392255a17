-- What comes of serving, in words that have no names.
use Rattle.std.proofs.Common.{◌≡◌, ℕ, List, sym, ap, ◌∙◌, length, map}
use Rattle.std.specs.Prelude.{Err}
use Rattle.chunk_store.specs.declared.disk.Disk.{Ghosts as DiskWords}
use Rattle.doc_types.specs.declared.schema.Schema.{Schema}
use Rattle.engine_tables.specs.Endings.{ComeBack}
use Rattle.engine_tables.specs.declared.ended.Ended.{Ended}
use Rattle.index_conf.specs.declared.conf.IndexConf.{IndexConf}
use Rattle.line_workers.specs.Served.{IsServed}
use Rattle.line_workers.specs.declared.seat.Seat.{Seat}
use Rattle.srch_base.specs.declared.door.Door.{Ghosts as DoorWords}
use Rattle.srch_base.specs.declared.faults.Or.TheVariants as Or
use Rattle.srch_base.specs.declared.link.Link.{Ghosts as LinkWords}
use Rattle.step_book.specs.Tellings.{AtOpening}
use Rattle.step_history.specs.History.{Base}
use Rattle.store_keep.specs.declared.opening.Opened.{Opened}
use Rattle.served_stores.specs.Serving.{HasNone, HasServed, end_of, outcome_of, some_failed}
use Rattle.served_stores.specs.declared.serving.Outcome.TheVariants as outcomes
use Rattle.served_stores.specs.declared.serving.Served.{Served}
use Rattle.served_stores.proofs.Nameless.{any_ended, any_seat, back_any, same_doors, same_ends, same_failed, served_any, unserved_back, unserved_ends, unserved_of}

-- All workers served, under whatever names.
pub has_served : {D E K J : Type 0} (disk : DiskWords D) (door : DoorWords E K) (link : LinkWords K) (schema : ℕ → Schema) (base : ℕ → Base) (opened : ℕ → AtOpening) (confs : List IndexConf) (sessions : ℕ)
    (olds news left : List (Seat E J K)) (ended : List (Ended D J)) (doors : List E) (served : Served D E) → map (λ (seat : Seat E J K). seat.door) olds ≡ doors → left ≡ news
    → IsServed disk door link schema base opened confs sessions olds news ended → served.doors.items ≡ map (λ (seat : Seat E J K). seat.door) left → served.ends.items ≡ map end_of ended → served.outcome ≡ outcome_of (some_failed left)
    → HasServed disk door link schema base opened confs sessions doors served
has_served {D} {E} {K} {J} disk door link schema base opened confs sessions olds news left ended doors served sat same is stood ends outcome = record {
  seats = map any_seat olds;
  left = map any_seat news;
  ended = map any_ended ended;
  sat = same_doors olds ∙ sat;
  stood = same_doors news ∙ ap (map (λ (seat : Seat E J K). seat.door)) (sym same) ∙ sym stood;
  ends = same_ends ended ∙ sym ends;
  is = served_any door link schema base confs disk opened sessions olds news ended is;
  outcome = outcome ∙ ap outcome_of (ap some_failed same ∙ sym (same_failed news));
}

-- Engines were not all made, under whatever names.
pub has_none : {D E J : Type 0} (disk : DiskWords D) (schema : ℕ → Schema) (base : ℕ → Base) (opened : ℕ → AtOpening) (stores : List (Opened D)) (doors : List E) (ended : List (Ended D J)) (served : Served D E)
    → served.outcome ≡ outcomes.NoMemory → served.doors.items ≡ doors → served.ends.items ≡ map end_of ended → ComeBack disk schema base opened (length doors) stores ended
    → HasNone disk schema base opened stores doors served
has_none disk schema base opened stores doors ended served outcome same ends back = record {
  outcome = outcome;
  same = same;
  ended = map any_ended ended;
  ends = same_ends ended ∙ sym ends;
  back = back_any disk schema base opened (length doors) stores ended back;
}

-- No engine was made.
pub none_made : {D E : Type 0} (disk : DiskWords D) (schema : ℕ → Schema) (base : ℕ → Base) (opened : ℕ → AtOpening) (stores : List (Opened D)) (doors : List E) (served : Served D E)
    → served.outcome ≡ outcomes.NoMemory → served.doors.items ≡ doors → served.ends.items ≡ map (λ (store : Opened D). record { disk = store.disk; answer = Err Or.NoMemory }) stores
    → HasNone disk schema base opened stores doors served
none_made disk schema base opened stores doors served outcome same ends = record {
  outcome = outcome;
  same = same;
  ended = map unserved_of stores;
  ends = unserved_ends stores ∙ sym ends;
  back = unserved_back disk schema base opened (length doors) stores;
}
