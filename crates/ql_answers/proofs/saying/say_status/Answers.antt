use Rattle.std.proofs.Common.{◌≡◌, ◌∙◌, ℕ, ap, subst}
use Rattle.std.specs.FinMap as finite
use Rattle.std.specs.Prelude.{OnOk}
use Rattle.doc_types.specs.Snapshots.{live}
use Rattle.reply_rows.specs.declared.result_set.ResultSet.{ResultSet}
use Rattle.ql_answers.specs.Replies.{Shows, replied}
use Rattle.ql_answers.specs.Sessions.{disk_count}
use Rattle.ql_answers.specs.Showing.{index_status}
use Rattle.ql_answers.proofs.saying.say_status.Goals as goal

pub returns-clause-ok : goal.returns-clause-ok
returns-clause-ok g c =
    let set : ResultSet = c.in_ok-set.set in
    let count = finite.len (live c.args.snapshot.now) in
    let chunks = disk_count c.args.snapshot.now in
    let same : set ≡ index_status count chunks =
    c.in_ok-set.ensures ∙ ap (λ (n : ℕ). index_status n c.from.result) (c.from-documents.ensures ∙ c.live_count.ensures)
    ∙ ap (λ (n : ℕ). index_status count n) (c.from.ensures ∙ c.disk_chunks.ensures) in
    subst (λ (s : ResultSet). OnOk c.put_set.result (c.put_set.new.self ≡ replied c.args.replies.now c.args.status (Shows s))) same c.put_set.ensures.ok
