use Rattle.std.proofs.Common.{◌≡◌, ◌*◌, ◌^◌, ◌≤◌}
use Rattle.ql_session.specs.Fitting.{Fits}
use Rattle.self_test.specs.Asking.{AreCounted, Leads}
use Rattle.self_test.specs.Texts.{count_select}
use Rattle.self_test.proofs.running.count.Given as goal

abbrev pub invariant-numbers : goal.invariant-numbers
invariant-numbers g l = record {
  fits : Fits (g.T.Catalog.confs l.tables) l.client.session;
  confs : g.T.Catalog.confs l.tables ≡ g.T.Catalog.confs l.fn.tables;
  leads : Leads g.T.Catalog.confs g.T.TableStore.words l.fn.tables l.tables;
  counted : AreCounted g.T.Catalog.confs g.T.TableStore.words (count_select l.count) l.number l.sum l.fn.client.session l.fn.tables l.client.session l.tables;
  most : l.sum ≤ l.number * 2 ^ 32;
}
