-- Where memory for a reply was refused, that is the reply.
use Rattle.std.proofs.Common.{◌≡◌, Bool, refl, ap, inr, ◌∙◌}
use Rattle.std.specs.Prelude.{Err}
use Rattle.reply_rows.specs.Written.{Written}
use Rattle.ql_answers.specs.Replies.{Fails, replied}
use Rattle.ql_refusals.specs.Refusals.{Refused, no_memory}
use Rattle.ql_answers.specs.Sessions.{Happened, Replied, Standing}
use Rattle.ql_session.specs.steps.Running.{RepliesPlan}

pub says_want : {E : Type 0} (e : E) (old now : Standing) (happened : Happened) (more : Bool) (refusal : Refused) (before between after : Written)
    → Replied {T = Unit {0}} old happened more (Err e) before between now → refusal ≡ no_memory → after ≡ replied between 0 (Fails refusal) → RepliesPlan old happened more now.state before after
says_want e old now happened more refusal before between after (plan, at, takes, some, same, stays) is put = (
  plan,
  Fails no_memory,
  at,
  inr (takes, refl, ap (λ (standing : Standing). standing.state) stays),
  put ∙ ap (λ (w : Written). replied w 0 (Fails refusal)) same ∙ ap (λ (r : Refused). replied before 0 (Fails r)) is,
)
