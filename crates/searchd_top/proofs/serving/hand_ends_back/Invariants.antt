use Rattle.std.proofs.Common.{◌≡◌, ◌+◌, ◌≤◌, ◌++◌, length, map}
use Rattle.served_stores.specs.declared.ends.IndexEnd.{IndexEnd}
use Rattle.searchd_top.specs.steps.Sides.{KeepsPrints}
use Rattle.searchd_top.proofs.serving.hand_ends_back.Given as goal

abbrev pub invariant-ends : goal.invariant-ends
invariant-ends g l = record {
  can : (goal.iterator-ends g).can_next l.end-iterator;
  finite : (goal.iterator-ends g).is_finite l.end-iterator;
  takes_stores : g.H.Host.stores_back l.host ++ map (λ (end : IndexEnd _). end.disk) l.end-iterator.rest.items ≡ g.H.Host.stores_back l.fn.host ++ map (λ (end : IndexEnd _). end.disk) l.fn.ends.items;
  room : length (g.H.Host.stores_back l.host) + length l.end-iterator.rest.items ≤ length (g.H.Host.stores_given l.fn.host);
  gives_stores : g.H.Host.stores_given l.host ≡ g.H.Host.stores_given l.fn.host;
  gives_doors : g.H.Host.doors_given l.host ≡ g.H.Host.doors_given l.fn.host;
  takes_doors : g.H.Host.doors_back l.host ≡ g.H.Host.doors_back l.fn.host;
  asks : g.H.Host.requests l.host ≡ g.H.Host.requests l.fn.host;
  count : g.H.Host.faults l.host ≡ g.H.Host.faults l.fn.host;
  prints : KeepsPrints g.H.Host l.fn.host l.host;
}
