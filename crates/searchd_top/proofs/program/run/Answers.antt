use Rattle.std.proofs.Common.{◌≡◌, ℕ, List, map, string_bytes, sym, subst, rules}
use Rattle.std.specs.Prelude.{Option, Some, None}
use Rattle.command_line.specs.Modes.{Mode, check, mode, selftest, serve, session}
use Rattle.command_line.specs.declared.mode.Mode.TheVariants.{Session, Serve, Check, Selftest}
use Rattle.program_host.specs.declared.status.Status.TheVariants.{NoMemory}
use Rattle.searchd_top.specs.Runs.{Runs}
use Rattle.searchd_top.proofs.Running.{runs_none, runs_unread}
use Rattle.searchd_top.proofs.Words.{documents_within, mode_is, not_usage, serves_within}
use Rattle.searchd_top.proofs.program.run.Goals as goal

pub returns-in-Some-Session-clause-runs : goal.returns-in-Some-Session-clause-runs
returns-in-Some-Session-clause-runs g c =
    let words : List (List ℕ) = map string_bytes c.args.words.now in
    let read : c.in-Ok.mode ≡ Some (Session c.in-Some-Session.config) = search rules in
    let is : mode words ≡ Some (session c.in-Some-Session.config.now) = mode_is words c.in-Ok.mode (Some (Session c.in-Some-Session.config)) c.in-Ok.ensures.reads read in
    subst (λ (mode : Option Mode). Runs g.H.Host g.H.Store.Disk g.H.Entry.Door g.H.Entry.Line.Link mode c.run_session.result c.args.host.now c.run_session.new.host) (sym is) c.run_session.ensures.runs

pub returns-in-Some-Check-clause-runs : goal.returns-in-Some-Check-clause-runs
returns-in-Some-Check-clause-runs g c =
    let words : List (List ℕ) = map string_bytes c.args.words.now in
    let read : c.in-Ok.mode ≡ Some (Check c.in-Some-Check.config) = search rules in
    let is : mode words ≡ Some (check c.in-Some-Check.config.now) = mode_is words c.in-Ok.mode (Some (Check c.in-Some-Check.config)) c.in-Ok.ensures.reads read in
    subst (λ (mode : Option Mode). Runs g.H.Host g.H.Store.Disk g.H.Entry.Door g.H.Entry.Line.Link mode c.run_check.result c.args.host.now c.run_check.new.host) (sym is) c.run_check.ensures.runs

pub returns-in-Some-Selftest-clause-runs : goal.returns-in-Some-Selftest-clause-runs
returns-in-Some-Selftest-clause-runs g c =
    let words : List (List ℕ) = map string_bytes c.args.words.now in
    let read : c.in-Ok.mode ≡ Some (Selftest c.in-Some-Selftest.number c.in-Some-Selftest.docs) = search rules in
    let is : mode words ≡ Some (selftest c.in-Some-Selftest.number c.in-Some-Selftest.docs) = mode_is words c.in-Ok.mode (Some (Selftest c.in-Some-Selftest.number c.in-Some-Selftest.docs)) c.in-Ok.ensures.reads read in
    subst (λ (mode : Option Mode). Runs g.H.Host g.H.Store.Disk g.H.Entry.Door g.H.Entry.Line.Link mode c.run_selftest.result c.args.host.now c.run_selftest.new.host) (sym is) c.run_selftest.ensures.runs

pub returns-in-Some-Serve-clause-runs : goal.returns-in-Some-Serve-clause-runs
returns-in-Some-Serve-clause-runs g c =
    let words : List (List ℕ) = map string_bytes c.args.words.now in
    let v = c.in-Some-Serve in
    let read : c.in-Ok.mode ≡ Some (Serve v.config v.listen v.workers v.sessions) = search rules in
    let is : mode words ≡ Some (serve v.config.now v.listen.now v.workers v.sessions) = mode_is words c.in-Ok.mode (Some (Serve v.config v.listen v.workers v.sessions)) c.in-Ok.ensures.reads read in
    subst (λ (mode : Option Mode). Runs g.H.Host g.H.Store.Disk g.H.Entry.Door g.H.Entry.Line.Link mode c.run_serve.result c.args.host.now c.run_serve.new.host) (sym is) c.run_serve.ensures.runs

pub returns-in-None-clause-runs : goal.returns-in-None-clause-runs
returns-in-None-clause-runs g c =
    let words : List (List ℕ) = map string_bytes c.args.words.now in
    let is : mode words ≡ None = mode_is words c.in-Ok.mode None c.in-Ok.ensures.reads c.in-None.is in
    runs_none g.H.Host g.H.Store.Disk g.H.Entry.Door g.H.Entry.Line.Link (mode words) c.args.host.now is

pub returns-in-Err-clause-usage : goal.returns-in-Err-clause-usage
returns-in-Err-clause-usage g c = not_usage (map string_bytes c.args.words.now) NoMemory (λ same. cc) c.in-Err.ensures.scarce

pub returns-in-Err-clause-runs : goal.returns-in-Err-clause-runs
returns-in-Err-clause-runs g c =
    runs_unread g.H.Host g.H.Store.Disk g.H.Entry.Door g.H.Entry.Line.Link (mode (map string_bytes c.args.words.now)) c.args.host.now

pub run_serve-requires-clause-some : goal.run_serve-requires-clause-some
run_serve-requires-clause-some g c κs within =
    let v = c.in-Some-Serve in
    let read : c.in-Ok.mode ≡ Some (Serve v.config v.listen v.workers v.sessions) = search rules in
    (serves_within (map string_bytes c.args.words.now) v.config.now v.listen.now v.workers v.sessions
    (mode_is (map string_bytes c.args.words.now) c.in-Ok.mode (Some (Serve v.config v.listen v.workers v.sessions)) c.in-Ok.ensures.reads read)).0

pub run_serve-requires-clause-numbers : goal.run_serve-requires-clause-numbers
run_serve-requires-clause-numbers g c κs within =
    let v = c.in-Some-Serve in
    let read : c.in-Ok.mode ≡ Some (Serve v.config v.listen v.workers v.sessions) = search rules in
    (serves_within (map string_bytes c.args.words.now) v.config.now v.listen.now v.workers v.sessions
    (mode_is (map string_bytes c.args.words.now) c.in-Ok.mode (Some (Serve v.config v.listen v.workers v.sessions)) c.in-Ok.ensures.reads read)).1

pub run_selftest-requires-clause-few : goal.run_selftest-requires-clause-few
run_selftest-requires-clause-few g c κs within =
    let v = c.in-Some-Selftest in
    let read : c.in-Ok.mode ≡ Some (Selftest v.number v.docs) = search rules in
    documents_within (map string_bytes c.args.words.now) v.number v.docs
    (mode_is (map string_bytes c.args.words.now) c.in-Ok.mode (Some (Selftest v.number v.docs)) c.in-Ok.ensures.reads read)
