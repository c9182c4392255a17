use Rattle.store_reads.proofs.Laid.{piece_laid, piece_of_one, piece_sound, piece_up}
use Rattle.store_reads.proofs.laying.lay.Goals as goal

pub left_of-requires : goal.left_of-requires
left_of-requires c = piece_up _ _ _ _ _ _ c.args.piece _ c.deref.ensures.value c.requires.2.4 c.requires.2.5

pub with_layer-requires : goal.with_layer-requires
with_layer-requires c = c.requires.2.5.made.content

pub snapshot_of-requires : goal.snapshot_of-requires
snapshot_of-requires c = piece_sound _ _ _ _ _ _ c.args.piece _ c.deref.ensures.value c.requires.2.4 c.requires.2.5 _ _ c.in_ok-left.ensures.left c.in_ok-layers.ensures c.in_ok-left.ensures.sound

pub upkept-requires : goal.upkept-requires
upkept-requires c = piece_of_one _ _ _ _ _ _ c.args.piece _ c.deref.ensures.value c.requires.2.4 c.requires.2.5 _ _ c.in_ok-left.ensures.left c.in_ok-layers.ensures c.requires.1 c.in_ok-next.next c.in_ok-next.ensures.layers

pub returns : goal.returns
returns c = λ schema chunks through front records laid of.
    piece_laid schema chunks through front records _ c.args.piece _ c.deref.ensures.value laid of _ _ c.in_ok-left.ensures.left c.in_ok-layers.ensures c.in_ok-next.next c.upkept.result c.in_ok-next.ensures.layers
    c.in_ok-next.ensures.shape c.upkept.ensures.merges c.upkept.ensures.sound c.upkept.ensures.apart
