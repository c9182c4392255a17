use Rattle.std.proofs.Common.{◌≡◌, ◌∷◌, [], ap, refl, true, ◌∙◌}
use Rattle.std.specs.Prelude.{codes}
use Rattle.mysql_wire.specs.Packets.{packets_from}
use Rattle.mysql_wire.specs.Replies.{err_payload}
use Rattle.reply_rows.specs.Written.{Written, then_reply}
use Rattle.ql_session.proofs.session.Session.step.Goals as goal

pub returns-in-Unknown-clause-steps : goal.returns-in-Unknown-clause-steps
returns-in-Unknown-clause-steps g c =
    let whole : c.put_error.new.self.bytes ≡ packets_from 1 (err_payload 1047 (codes "08S01") (codes "unknown command") ∷ []) =
    ap (λ (w : Written). w.bytes) (c.put_error.ensures ∙ ap (λ (w : Written). then_reply w (err_payload 1047 (codes "08S01") (codes "unknown command") ∷ []) true) c.requires.begun) in
    rw c.in-Unknown.is ((λ e. cc), ([], (refl, whole, refl), refl))
