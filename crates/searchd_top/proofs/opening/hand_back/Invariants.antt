use Rattle.std.proofs.Common.{◌≡◌, ◌+◌, ◌≤◌, ◌++◌, length}
use Rattle.searchd_top.specs.steps.Openings.{disks_of}
use Rattle.searchd_top.specs.steps.Sides.{KeepsPrints}
use Rattle.searchd_top.proofs.opening.hand_back.Given as goal

abbrev pub invariant-stores : goal.invariant-stores
invariant-stores g l = record {
  can : (goal.iterator-stores g).can_next l.store-iterator;
  finite : (goal.iterator-stores g).is_finite l.store-iterator;
  takes_stores : g.H.Host.stores_back l.host ++ disks_of l.store-iterator.rest.items ≡ g.H.Host.stores_back l.fn.host ++ disks_of l.fn.opened.items;
  room : length (g.H.Host.stores_back l.host) + length l.store-iterator.rest.items ≤ length (g.H.Host.stores_given l.fn.host);
  gives_stores : g.H.Host.stores_given l.host ≡ g.H.Host.stores_given l.fn.host;
  gives_doors : g.H.Host.doors_given l.host ≡ g.H.Host.doors_given l.fn.host;
  takes_doors : g.H.Host.doors_back l.host ≡ g.H.Host.doors_back l.fn.host;
  asks : g.H.Host.requests l.host ≡ g.H.Host.requests l.fn.host;
  count : g.H.Host.faults l.host ≡ g.H.Host.faults l.fn.host;
  prints : KeepsPrints g.H.Host l.fn.host l.host;
}
