use Rattle.std.proofs.Common.{◌+◌, length, ap, sym, ◌∙◌}
use Rattle.std.proofs.lemmas.List.{length-map}
use Rattle.occ_lists.specs.Terms.{listed_in}
use Rattle.occ_lists.proofs.Gathering.{listing}
use Rattle.occ_lists.proofs.WindowEnds.{small_same}
use Rattle.occ_lists.proofs.WordLists.{all_ready, holds_alike}
use Rattle.occ_lists.proofs.windows.gathered.Goals as goal

pub returns-clause-sorted : goal.returns-clause-sorted
returns-clause-sorted c = record {
  words = all_ready (listed_in c.args.spans.now c.args.terms.now) c.in_ok-words.words.items c.in_ok-words.ensures;
  ascend = c.in_ok-all.ensures.ascend;
  small = small_same c.args.spans.now c.args.terms.now c.in_ok-all.all.items c.requires c.in_ok-all.ensures.same;
}

pub returns-clause-is : goal.returns-clause-is
returns-clause-is c = record {
  size = ap (λ n. n + length c.args.terms.now) c.from.ensures ∙ ap (λ k. c.args.n + k) (sym (length-map c.args.terms.now (listing c.args.spans.now)));
  words = holds_alike (listed_in c.args.spans.now c.args.terms.now) c.in_ok-words.words.items c.in_ok-words.ensures;
  all = c.in_ok-all.ensures.same;
}
