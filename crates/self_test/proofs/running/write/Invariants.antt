use Rattle.std.proofs.Common.{◌≡◌, ◌+◌, length}
use Rattle.ql_session.specs.Fitting.{Fits}
use Rattle.self_test.specs.Asking.{Leads}
use Rattle.self_test.proofs.Conversing.{AreWritten}
use Rattle.self_test.proofs.running.write.Given as goal

abbrev pub invariant-documents : goal.invariant-documents
invariant-documents g l = record {
  fits : Fits (g.T.Catalog.confs l.tables) l.client.session;
  confs : g.T.Catalog.confs l.tables ≡ g.T.Catalog.confs l.fn.tables;
  leads : Leads g.T.Catalog.confs g.T.TableStore.words l.fn.tables l.tables;
  left : l.number + length l.rest ≡ length l.documents;
  written : AreWritten g.T.Catalog.confs g.T.TableStore.words l.before l.last l.documents l.number l.rest l.fn.client.session l.fn.tables l.client.session l.tables;
}

abbrev pub decreases-documents : goal.decreases-documents
decreases-documents g l = length l.rest
