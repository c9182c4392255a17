use Rattle.std.proofs.Common.{◌≡◌, ◌≢◌, ◌-◌, false, rules}
use Rattle.mysql_wire.specs.Replies.{ok_packet}
use Rattle.self_test.specs.steps.Replies.{stops}
use Rattle.self_test.proofs.Answering.{astray, done}
use Rattle.self_test.proofs.asking.Client.tell.Goals as goal

pub returns-then-eq-clause-told : goal.returns-then-eq-clause-told
returns-then-eq-clause-told g c = λ statement is states.
    let same : c.ask.new.self.replies.bytes ≡ ok_packet 1 c.args.affected c.args.status = search rules in
    done g.T.Catalog.confs g.T.TableStore.words c.a_text_is_read_in_one_way.ensures.statements c.a_text_is_read_in_one_way.ensures.not_both
    c.args.self.now.session c.ask.new.self.session c.args.tables.now c.ask.new.tables c.args.text.now c.ask.new.self.replies.bytes c.ask.ensures.asks
    statement is states c.args.affected c.args.status c.args.otherwise same

pub returns-clause-told : goal.returns-clause-told
returns-clause-told g c = λ statement is states.
    let differs : c.ask.new.self.replies.bytes ≢ ok_packet 1 c.args.affected c.args.status = search rules in
    let on : stops c.ask.new.self.replies.bytes ≡ false = search rules in
    astray g.T.Catalog.confs g.T.TableStore.words c.a_text_is_read_in_one_way.ensures.statements c.a_text_is_read_in_one_way.ensures.not_both
    c.args.self.now.session c.ask.new.self.session c.args.tables.now c.ask.new.tables c.args.text.now c.ask.new.self.replies.bytes c.ask.ensures.asks
    statement is states c.args.affected c.args.status c.args.otherwise differs on
