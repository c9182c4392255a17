use Rattle.occ_lists.specs.Terms.{listed_in}
use Rattle.occ_lists.proofs.WindowMembers.{widest_made, windows_made}
use Rattle.occ_lists.proofs.windows.put_windows.Goals as goal

pub returns-clause-windows : goal.returns-clause-windows
returns-clause-windows c = windows_made c.args.n (listed_in c.args.spans.now c.args.terms.now) c.in_ok-proximity.proximity c.in_ok-proximity.ensures.is c.args.out.now.items c.put_both.new.out.items c.in_ok-put_both.ensures.made

pub returns-clause-widest : goal.returns-clause-widest
returns-clause-widest c = widest_made c.args.n (listed_in c.args.spans.now c.args.terms.now) c.in_ok-proximity.proximity c.in_ok-proximity.ensures.is c.in_ok-proximity.ensures.sorted c.args.longest.now.items c.put_both.new.longest.items c.in_ok-put_both.ensures.widest
