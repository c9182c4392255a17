use Rattle.std.proofs.Common.{◌≡◌, length, refl, sym, arith, subst, rules}
use Rattle.doc_types.specs.Snapshots.{all_living}
use Rattle.image_join.specs.JoinedImages.{IsJoinedImage}
use Rattle.job_chunks.specs.Limits.{HasBytes}
use Rattle.job_chunks.proofs.Built.{whole_bytes}
use Rattle.job_chunks.proofs.making.joined.Goals as goal

pub returns-then-saturating_add-gt-MAX_IMAGES : goal.returns-then-saturating_add-gt-MAX_IMAGES
returns-then-saturating_add-gt-MAX_IMAGES c =
    let rows = all_living c.args.layers.now in
    let joined : IsJoinedImage rows c.in-Whole.image.items = search rules in
    let long : c.len-need.result ≡ length c.in-Whole.image.items = search rules in
    (refl, refl, subst (HasBytes rows) (sym long) (whole_bytes rows c.in-Whole.image.items c.requires.of c.requires.some joined), omega (arith, c.saturating_add.ensures, c.if-saturating_add-gt-MAX_IMAGES.true))
