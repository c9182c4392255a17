use Rattle.snap_share.proofs.Meeting.{met}
use Rattle.snap_share.proofs.telling.meet.Goals as goal

pub returns-clause-front : goal.returns-clause-front
returns-clause-front g c =
    let learnt = c.learn in
    met c.args.token.now learnt.new.token c.args.note.now.steps c.has_come-come.result learnt.ensures.one learnt.ensures.seen learnt.ensures.told learnt.ensures.same.entered c.has_come-come.ensures
