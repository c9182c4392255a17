use Rattle.std.proofs.Common.{[], ◌∷◌, All, subst, sym}
use Rattle.std.proofs.lemmas.List.Elements.{All-nil, All-cons, All-append}
use Rattle.image_chunk.specs.Places.{StandsIn}
use Rattle.image_chunk.proofs.skips.put_skip.Goals as goal

pub returns-in_ok-push : goal.returns-in_ok-push
returns-in_ok-push c =
    let chunk = c.args.chunk.now in
    let stands = StandsIn chunk.image.0.0 chunk.image.0.1 chunk.bytes in
    subst (All stands) (sym c.in_ok-push.ensures.items) (All-append stands c.args.into.now.items (c.args.cursor ∷ []) c.requires.all (All-cons stands c.args.cursor [] c.requires.stands (All-nil stands)))
