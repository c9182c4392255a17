-- How a run ends in which nothing fails.
use Rattle.std.proofs.Common.{◌≡◌, ⊎_elim, ◌+◌, ℕ, suc, length, map, take, List, [], ◌∷◌, ◌++◌, All, Bool, false, ◌||◌, Option, None, Some, Result, Ok, Err, slice_get, refl, sym, ap, subst, ◌∙◌, arith}
use Rattle.srch_base.specs.Counts.{Rose}
use Rattle.srch_base.specs.declared.door.Door.{Ghosts as DoorWords}
use Rattle.srch_base.specs.declared.faults.Or.{Or}
use Rattle.srch_base.specs.declared.faults.Or.TheVariants as causes
use Rattle.srch_base.specs.declared.link.Link.{Ghosts as LinkWords}
use Rattle.chunk_store.specs.declared.disk.Disk.{Ghosts as DiskWords}
use Rattle.command_line.specs.Modes.{Mode, check, selftest, serve, session}
use Rattle.commit_outcomes.specs.declared.strayed.Strayed.{Strayed as Numbers}
use Rattle.conf_text.specs.Confs.{IsConfOf, IsFaultOf}
use Rattle.conf_text.specs.declared.fault.ConfFault.{ConfFault}
use Rattle.conf_text.specs.declared.size.TheConstants.{MAX_CONF_BYTES}
use Rattle.doc_types.specs.declared.schema.Schema.{Schema}
use Rattle.index_conf.specs.declared.conf.Conf.{Conf}
use Rattle.index_conf.specs.declared.conf.IndexConf.{IndexConf}
use Rattle.step_book.specs.Fronts.{FrontValue}
use Rattle.step_history.specs.History.{Base}
use Rattle.engine_tables.specs.Tokens.{TokensValue}
use Rattle.line_workers.specs.Lines.{SaysEnd, Service}
use Rattle.line_workers.specs.Workers.{AllWork}
use Rattle.line_workers.specs.declared.seat.Seat.{Seat}
use Rattle.line_workers.specs.declared.serving.SeatEnd.{SeatEnd}
use Rattle.line_workers.specs.declared.serving.SeatEnd.TheVariants as ends
use Rattle.served_stores.specs.Serving.{is_failed, some_failed}
use Rattle.program_host.specs.Lending.{Lent, back_of, given_of}
use Rattle.program_host.specs.Texts.{AreReadOf, Texts}
use Rattle.program_host.specs.declared.host.Host.{Ghosts as HostWords}
use Rattle.program_host.specs.declared.requests.Request.{Request}
use Rattle.program_host.specs.declared.status.Status.{Status}
use Rattle.program_host.specs.declared.status.Status.TheVariants.{Config, Damaged, Done, HostFault, JobFailed, NoMemory, Strayed, Usage}
use Rattle.searchd_top.specs.Checks.{AreOpen, ChecksIndexes, Holdings, SaysUngiven, SaysUnopened, Stops, StopsAt}
use Rattle.searchd_top.specs.Deeds.{Count, Deeds}
use Rattle.searchd_top.specs.Output.{SaysLines}
use Rattle.searchd_top.specs.Plans.{Plan}
use Rattle.searchd_top.specs.Runs.{Runs, SaysRefused, Works}
use Rattle.searchd_top.specs.Selftests.{SaysSelftest}
use Rattle.searchd_top.specs.Sessions.{HaveWorked, SaysIdle, ServesIndexes, status_after, status_of_ends, unless_decided}
use Rattle.run_laws.specs.GoodRuns.{EndsWell, IsCalm, IsConfiguration, IsGoodRun, AreUndamaged, IsUndamaged, IsWellAsked, NothingFails}

-- ---- places in lists

get_behind : {X : Type 0} (xs ys : List X) (x : X) → slice_get (xs ++ x ∷ ys) (length xs) ≡ Some x
get_behind [] ys x = refl
get_behind (y ∷ xs) ys x = get_behind xs ys x

first_has : {X : Type 0} (P : X → Type 0) (x : X) (xs : List X) → All P (x ∷ xs) → P x
first_has P x xs all = all 0 x (omega arith)

rest_have : {X : Type 0} (P : X → Type 0) (x : X) (xs : List X) → All P (x ∷ xs) → All P xs
rest_have P x xs all = λ k d below. all (suc k) d (omega (arith, below))

last_has : {X : Type 0} (P : X → Type 0) (xs : List X) (x : X) → All P (xs ++ x ∷ []) → P x
last_has P [] x all = first_has P x [] all
last_has P (y ∷ xs) x all = last_has P xs x (rest_have P y (xs ++ x ∷ []) all)

-- ---- ends

-- a run ends well, of whatever mode
abbrev Well : Status → Type 0
Well = EndsWell None

well_in : (mode : Option Mode) (status : Status) → Well status → EndsWell mode status
well_in mode Done well = tt
well_in mode NoMemory well = tt
well_in mode (Strayed index numbers) well = tt
well_in mode JobFailed well = absurd well
well_in mode Usage well = absurd well
well_in mode (Config line kind) well = absurd well
well_in mode HostFault well = absurd well
well_in mode (Damaged index file place kind) well = absurd well

-- ---- what was refused

never_faulty : (only : (text : List ℕ) (conf : Conf) (fault : ConfFault) → IsConfOf text conf → IsFaultOf text fault → ⊥) (text : Option (List ℕ)) (bytes : List ℕ) (fault : ConfFault) → IsConfiguration text → AreReadOf text MAX_CONF_BYTES bytes → IsFaultOf bytes fault → ⊥
never_faulty only None bytes fault is read faulty = is
never_faulty only (Some text) bytes fault is read faulty = only (take (MAX_CONF_BYTES + 1) text) is.0 fault is.1 (subst (λ (b : List ℕ). IsFaultOf b fault) read faulty)

module _ (only : (text : List ℕ) (conf : Conf) (fault : ConfFault) → IsConfOf text conf → IsFaultOf text fault → ⊥) (texts : Texts) (mode : Option Mode) (asked : IsWellAsked texts mode) where
  refused_well : (status : Status) (requests : List Request) (faults : Count) → IsCalm faults → SaysRefused texts mode status requests faults → Well status
  refused_well Usage requests faults calm says = asked.asks says.0
  refused_well (Config line kind) requests faults calm says = never_faulty only (texts says.0) says.2.bytes (record { line = line; kind = kind }) (asked.conf says.0 says.1) says.2.read says.2.is
  refused_well HostFault requests faults calm says = calm says.3
  refused_well NoMemory requests faults calm says = tt
  refused_well Done requests faults calm says = absurd says
  refused_well (Damaged index file place kind) requests faults calm says = absurd says
  refused_well (Strayed index numbers) requests faults calm says = absurd says
  refused_well JobFailed requests faults calm says = absurd says

-- ---- stores

open_long : {S : Type 0} (store : DiskWords S) (indexes : List IndexConf) (stores : List (Lent S)) (holdings : List Holdings) → AreOpen store indexes stores holdings → length stores ≡ length indexes
open_long store [] [] [] are = refl
open_long store (index ∷ indexes) (lent ∷ stores) (has ∷ holdings) are = ap suc (open_long store indexes stores holdings are.1)
open_long store indexes stores holdings are = absurd are

ungiven_well : (status : Status) (faults : Count) → IsCalm faults → SaysUngiven status faults → Well status
ungiven_well HostFault faults calm says = calm says
ungiven_well NoMemory faults calm says = tt
ungiven_well Done faults calm says = absurd says
ungiven_well Usage faults calm says = absurd says
ungiven_well (Config line kind) faults calm says = absurd says
ungiven_well (Damaged index file place kind) faults calm says = absurd says
ungiven_well (Strayed index numbers) faults calm says = absurd says
ungiven_well JobFailed faults calm says = absurd says

unopened_well : {S : Type 0} (store : DiskWords S) (index : IndexConf) (lent : Lent S) (status : Status) → (Rose (store.faults lent.given) (store.faults lent.back) → ⊥) → IsUndamaged store index.schema lent.given → SaysUnopened store index lent status → Well status
unopened_well store index lent HostFault calm good says = calm says
unopened_well store index lent (Damaged name file place kind) calm good says = good.good (record { file = file; place = place; kind = kind }) (says.1 good.image good.told)
unopened_well store index lent NoMemory calm good says = tt
unopened_well store index lent Done calm good says = absurd says
unopened_well store index lent Usage calm good says = absurd says
unopened_well store index lent (Config line kind) calm good says = absurd says
unopened_well store index lent (Strayed name numbers) calm good says = absurd says
unopened_well store index lent JobFailed calm good says = absurd says

module _ {S D K : Type 0} (store : DiskWords S) (door : DoorWords D K) (link : LinkWords K) (indexes : List IndexConf) (deeds : Deeds S D) (nothing : NothingFails store door deeds) (good : AreUndamaged store indexes deeds) where
  stopped_by : (before after : List IndexConf) (index : IndexConf) (opened : List (Lent S)) (holdings : List Holdings) (last : List (Lent S)) (status : Status) → indexes ≡ before ++ index ∷ after → AreOpen store before opened holdings → deeds.stores ≡ opened ++ last
      → Stops store index last status deeds.faults → Well status
  stopped_by before after index opened holdings [] status are opens stores stops = ungiven_well status deeds.faults nothing.host stops
  stopped_by before after index opened holdings (lent ∷ []) status are opens stores stops =
      let here : slice_get indexes (length before) ≡ Some index = ap (λ (is : List IndexConf). slice_get is (length before)) are ∙ get_behind before after index in
      let there : slice_get deeds.stores (length before) ≡ Some lent = ap (λ (ls : List (Lent S)). slice_get ls (length before)) stores ∙ ap (λ (i : ℕ). slice_get (opened ++ lent ∷ []) i) (sym (open_long store before opened holdings opens)) ∙ get_behind opened [] lent in
      unopened_well store index lent status (last_has (λ (l : Lent S). Rose (store.faults l.given) (store.faults l.back) → ⊥) opened lent (subst (λ (ls : List (Lent S)). All (λ (l : Lent S). Rose (store.faults l.given) (store.faults l.back) → ⊥) ls) stores nothing.stores))
      (good.each (length before) index lent here there) stops.1
  stopped_by before after index opened holdings (lent ∷ other ∷ more) status are opens stores stops = absurd stops

  stopped_well : (requests : List Request) (status : Status) → StopsAt store indexes requests status deeds → Well status
  stopped_well requests status at = stopped_by at.before at.after at.index at.opened at.holdings at.last status at.are at.opens at.stores at.stops

  -- ---- doors

  end_calm : (sessions served : ℕ) (end : SeatEnd) (old new : D) → SaysEnd door sessions end served old new → (Rose (door.faults old) (door.faults new) → ⊥) → is_failed end ≡ false
  end_calm sessions served ends.Ready old new says calm = refl
  end_calm sessions served ends.Done old new says calm = refl
  end_calm sessions served ends.HostFault old new says calm = absurd (calm says)

  none_failed : {J : Type 0} (schema : ℕ → Schema) (base : ℕ → Base) (confs : List IndexConf) (workers sessions worker : ℕ) (services : List (List (Service K FrontValue))) (lefts : List TokensValue) (olds news : List (Seat D J K)) (doors : List (Lent D))
      → AllWork door link schema base confs workers sessions worker services lefts olds news → map (λ seat. seat.door) olds ≡ given_of doors → map (λ seat. seat.door) news ≡ back_of doors
      → All (λ (l : Lent D). Rose (door.faults l.given) (door.faults l.back) → ⊥) doors → some_failed news ≡ false
  none_failed schema base confs workers sessions worker [] [] [] [] doors work sat stood calm = refl
  none_failed schema base confs workers sessions worker (services ∷ others) (left ∷ lefts) (old ∷ olds) (new ∷ news) [] work sat stood calm = absurd (cc sat)
  none_failed {J} schema base confs workers sessions worker (services ∷ others) (left ∷ lefts) (old ∷ olds) (new ∷ news) (lent ∷ doors) work sat stood calm =
      let given : old.door ≡ lent.given = cc sat in
      let back : new.door ≡ lent.back = cc stood in
      let calm_here : Rose (door.faults old.door) (door.faults new.door) → ⊥ = λ rose. first_has (λ (l : Lent D). Rose (door.faults l.given) (door.faults l.back) → ⊥) lent doors calm
      (subst (λ (d : D). Rose (door.faults d) (door.faults lent.back)) given (subst (λ (d : D). Rose (door.faults old.door) (door.faults d)) back rose)) in
      let here : is_failed new.end ≡ false = end_calm sessions (length services) new.end old.door new.door work.0.serves.ends calm_here in
      let rest : some_failed news ≡ false = none_failed schema base confs workers sessions (worker + 1) others lefts olds news doors work.1 (cc sat) (cc stood) (rest_have (λ (l : Lent D). Rose (door.faults l.given) (door.faults l.back) → ⊥) lent doors calm) in
      ap (λ (b : Bool). b || some_failed news) here ∙ rest
  none_failed schema base confs workers sessions worker services lefts olds news doors work sat stood calm = absurd work

  -- ---- serving

  unless_well : (status : Status) → Well status → Well (unless_decided status)
  unless_well Done well = tt
  unless_well NoMemory well = tt
  unless_well (Strayed index numbers) well = tt
  unless_well JobFailed well = absurd well
  unless_well Usage well = absurd well
  unless_well (Config line kind) well = absurd well
  unless_well HostFault well = absurd well
  unless_well (Damaged index file place kind) well = absurd well

  ends_well : (confs : List IndexConf) (answers : List (Result (Unit {0}) (Or Numbers))) → Well (status_of_ends confs answers)
  ends_well [] answers = tt
  ends_well (index ∷ confs) [] = tt
  ends_well (index ∷ confs) (Ok done ∷ answers) = ends_well confs answers
  ends_well (index ∷ confs) (Err (causes.Fault strayed) ∷ answers) = tt
  ends_well (index ∷ confs) (Err causes.NoMemory ∷ answers) = unless_well (status_of_ends confs answers) (ends_well confs answers)

  worked_well : (plan : Plan) (requests : List Request) (opened : _) (status : Status) → HaveWorked store door link indexes plan requests opened status deeds → Well status
  worked_well plan requests opened status worked =
      let none = none_failed worked.schema worked.base indexes (length worked.seats) plan.sessions 1 worked.served.services worked.served.left worked.seats worked.left deeds.doors worked.served.works worked.sat worked.stood nothing.doors in
      let answers = map (λ end. end.answer) worked.ended in
      subst Well (sym (worked.says ∙ ap (λ (b : Bool). status_after b (status_of_ends indexes answers)) none)) (ends_well indexes answers)

  idle_says : (requests : List Request) (status : Status) → SaysIdle requests status deeds → Well status
  idle_says requests HostFault says = nothing.host says.1
  idle_says requests NoMemory says = tt
  idle_says requests Done says = absurd says
  idle_says requests Usage says = absurd says
  idle_says requests (Config line kind) says = absurd says
  idle_says requests (Damaged index file place kind) says = absurd says
  idle_says requests (Strayed index numbers) says = absurd says
  idle_says requests JobFailed says = absurd says

  served_well : (plan : Plan) (requests : List Request) (status : Status) → ServesIndexes store door link indexes plan requests status deeds → Well status
  served_well plan requests status serves =
      ⊎_elim (λ opens. ⊎_elim (λ worked. worked_well plan requests opens.opened status worked) (λ idle. idle_says requests status idle.says) opens.goes)
      (λ stops. stopped_well _ status stops.stops) serves.serves

  -- ---- what is printed

  lines_well : (status : Status) (lines : List ℕ) → SaysLines status lines deeds.output deeds.print_faults → Well status
  lines_well Done lines says = tt
  lines_well HostFault lines says = nothing.prints says.1
  lines_well NoMemory lines says = tt
  lines_well Usage lines says = absurd says
  lines_well (Config line kind) lines says = absurd says
  lines_well (Damaged index file place kind) lines says = absurd says
  lines_well (Strayed index numbers) lines says = absurd says
  lines_well JobFailed lines says = absurd says

  checked_well : (requests : List Request) (status : Status) → ChecksIndexes store indexes requests status deeds → Well status
  checked_well requests status checks = ⊎_elim (λ all. lines_well status _ all.says) (λ stops. stopped_well requests status stops) checks.checks

  selftest_says : (number docs : ℕ) (status : Status) → SaysSelftest number docs status deeds.output deeds.print_faults → EndsWell (Some (selftest number docs)) status
  selftest_says number docs (Strayed index numbers) says = tt
  selftest_says number docs JobFailed says = tt
  selftest_says number docs NoMemory says = tt
  selftest_says number docs Done says = tt
  selftest_says number docs Usage says = well_in (Some (selftest number docs)) Usage (lines_well Usage says.0 says.2)
  selftest_says number docs (Config line kind) says = well_in (Some (selftest number docs)) (Config line kind) (lines_well (Config line kind) says.0 says.2)
  selftest_says number docs HostFault says = well_in (Some (selftest number docs)) HostFault (lines_well HostFault says.0 says.2)
  selftest_says number docs (Damaged index file place kind) says = well_in (Some (selftest number docs)) (Damaged index file place kind) (lines_well (Damaged index file place kind) says.0 says.2)

  works_well : (mode : Option Mode) (status : Status) → Works store door link mode indexes status deeds → EndsWell mode status
  works_well (Some (session file)) status works = well_in (Some (session file)) status (served_well _ _ status works)
  works_well (Some (serve file listen workers sessions)) status works = well_in (Some (serve file listen workers sessions)) status (served_well _ _ status works)
  works_well (Some (check file)) status works = well_in (Some (check file)) status (checked_well _ status works)
  works_well (Some (selftest number docs)) status works = selftest_says number docs status works.says
  works_well None status works = absurd works

-- ---- runs

fails_later : {S D K : Type 0} (store : DiskWords S) (door : DoorWords D K) (deeds : Deeds S D) (requests : List Request) → NothingFails store door deeds → NothingFails store door (record deeds { requests = requests })
fails_later store door deeds requests nothing = record { host = nothing.host; prints = nothing.prints; stores = nothing.stores; doors = nothing.doors }

module _ {H S D K : Type 0} (only : (text : List ℕ) (conf : Conf) (fault : ConfFault) → IsConfOf text conf → IsFaultOf text fault → ⊥) (host : HostWords H S D K) (store : DiskWords S) (door : DoorWords D K) (link : LinkWords K) where
  pub run_well : (mode : Option Mode) (status : Status) (old new : H) → Runs host store door link mode status old new → IsWellAsked (host.text old) mode → IsGoodRun host store door mode old new → EndsWell mode status
  run_well mode status old new (deeds, does, outcome) asked good =
      let nothing = good.nothing deeds does in
      ⊎_elim (λ refused. well_in mode status (refused_well only (host.text old) mode asked status deeds.requests deeds.faults nothing.host refused.says))
      (λ work. works_well store door link work.indexes (record deeds { requests = work.later }) (fails_later store door deeds work.later nothing) (record { each = (good.undamaged deeds work.indexes does work.are).each }) mode status work.works) outcome
