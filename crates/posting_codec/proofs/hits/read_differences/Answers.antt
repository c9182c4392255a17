use Rattle.std.proofs.Common.{◌≡◌, [], ◌∷◌, ◌++◌}
use Rattle.posting_codec.proofs.Reading.{gone_more}
use Rattle.posting_codec.proofs.hits.read_differences.Goals as goal

pub hits-preserved : goal.hits-preserved
hits-preserved c =
    let its = c.in-Some.ensures in
    let pushed : c.push.new.self.items ≡ c.hits.into.items ++ c.in-Some.hit ∷ [] = cc (c.in_ok-push-in-Some.ensures.items) in
    gone_more c.args.bytes.now c.args.start c.hits.at c.in-Some.end c.hits.last c.key_of-last.result c.hits.into.items c.push.new.self.items c.in-Some.hit its.0 c.hits.counter c.hits.invariant its.1 its.2 pushed c.key_of-last.ensures
