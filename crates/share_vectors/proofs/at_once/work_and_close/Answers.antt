use Rattle.share_vectors.proofs.Users.{are_tokens}
use Rattle.share_vectors.proofs.at_once.work_and_close.Goals as goal

pub end-steps-requires : goal.end-steps-requires
end-steps-requires g c = are_tokens g.J.Naming.schema c.args.engine c.work_all.new.tokens c.work_all.ensures
