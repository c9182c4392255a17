use Rattle.std.proofs.Common.{◌≡◌, ◌+◌, true, rules}
use Rattle.image_join.specs.JoinedImages.{HasImageLength}
use Rattle.job_chunks.specs.steps.Making.{stays}
use Rattle.job_chunks.proofs.Staying.{one_more}
use Rattle.job_chunks.proofs.limits.with_layer.Goals as goal

pub returns : goal.returns
returns g c = λ layers was.
    let yes : stays c.args.job c.args.layer.now ≡ true = search rules in
    let has : HasImageLength c.args.layer.now.rows c.image_size-size.result = search rules in
    let chunks : c.in_ok-chunks.chunks ≡ c.args.staying.chunks + 1 = search rules in
    let bytes : c.in_ok-bytes.bytes ≡ c.args.staying.bytes + c.image_size-size.result = search rules in
    one_more c.args.job c.args.layer.now layers c.args.staying (record { chunks = c.in_ok-chunks.chunks; bytes = c.in_ok-bytes.bytes }) c.image_size-size.result yes has chunks bytes was
