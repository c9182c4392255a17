use Rattle.std.proofs.Common.{ℕ, ◌<◌, ◌≤◌, ◌∙◌, sym, subst}
use Rattle.std.specs.Arc.{arc_value}
use Rattle.directory_vectors.specs.Ready.{workers}
use Rattle.directory_vectors.proofs.Beginning.{of_columns, seen_now}
use Rattle.directory_vectors.proofs.jobs.begin.Goals as goal

pub build-requires : goal.build-requires
build-requires g c = (
  g.J.Naming.schema 0,
  c.requires.columns,
  of_columns g.J.Naming.schema g.J.Naming.base c.args.seat.now.token.index c.snapshot.new.token.seen (arc_value c.in-Ok.found) c.requires.seat.own.index c.snapshot.ensures.good c.in-Ok.ensures.found,
)

pub returns-in-Ok-build : goal.returns-in-Ok-build
returns-in-Ok-build g c =
    let own = c.requires.seat.own in
    let same = c.snapshot.ensures.same in
    let of = of_columns g.J.Naming.schema g.J.Naming.base c.args.seat.now.token.index c.snapshot.new.token.seen (arc_value c.in-Ok.found) own.index c.snapshot.ensures.good c.in-Ok.ensures.found in
    record {
      own = record {
        index = same.index ∙ own.index;
        some = subst (λ (worker : ℕ). 0 < worker) (sym same.worker) own.some;
        among = subst (λ (worker : ℕ). worker ≤ workers) (sym same.worker) own.among;
      };
      begun = record {
        seen = seen_now g.J.Naming.base c.args.seat.now.token.index c.snapshot.new.token.seen (arc_value c.in-Ok.found) c.in-Ok-build.new.from own.index c.in-Ok.ensures.found c.in-Ok-build.ensures.1;
        chunk = c.in-Ok-build.ensures.3 (g.J.Naming.schema 0) c.requires.columns of;
      };
    }
