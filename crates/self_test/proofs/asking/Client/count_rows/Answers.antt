use Rattle.std.proofs.Common.{◌≡◌, ◌≢◌, ◌≤◌, ◌<◌, ◌⊎◌, ℕ, ◌-◌, List, Bool, true, false, length, arith, ap, sym, ◌∙◌, inl, inr, rules, subst}
use Rattle.mysql_wire.specs.Packets.{max_payload}
use Rattle.mysql_wire.specs.Replies.{ok_packet}
use Rattle.self_test.specs.steps.Replies.{is_err, is_err_of, stops}
use Rattle.self_test.proofs.Answering.{lost, shows}
use Rattle.self_test.proofs.asking.Client.count_rows.Goals as goal

pub returns-then-says_err-clause-rows : goal.returns-then-says_err-clause-rows
returns-then-says_err-clause-rows g c = λ count number is states.
    let bytes : List ℕ = c.ask.new.self.replies.bytes in
    let on : stops bytes ≡ false = search rules in
    lost g.T.Catalog.confs g.T.TableStore.words c.a_text_is_read_in_one_way.ensures.statements c.a_text_is_read_in_one_way.ensures.not_both
    c.args.self.now.session c.ask.new.self.session c.args.tables.now c.ask.new.tables c.args.text.now bytes c.ask.ensures.asks
    count number is states on (inl (search rules))

pub returns-then-reply-gt-MAX_REPLY-clause-rows : goal.returns-then-reply-gt-MAX_REPLY-clause-rows
returns-then-reply-gt-MAX_REPLY-clause-rows g c = λ count number is states.
    let bytes : List ℕ = c.ask.new.self.replies.bytes in
    let on : stops bytes ≡ false = search rules in
    lost g.T.Catalog.confs g.T.TableStore.words c.a_text_is_read_in_one_way.ensures.statements c.a_text_is_read_in_one_way.ensures.not_both
    c.args.self.now.session c.ask.new.self.session c.args.tables.now c.ask.new.tables c.args.text.now bytes c.ask.ensures.asks
    count number is states on (inr (search rules))

pub returns-clause-rows : goal.returns-clause-rows
returns-clause-rows g c = λ count number is states.
    let bytes : List ℕ = c.ask.new.self.replies.bytes in
    let ok : is_err bytes ≡ false = search rules in
    let on : stops bytes ≡ false = search rules in
    shows g.T.Catalog.confs g.T.TableStore.words c.a_text_is_read_in_one_way.ensures.statements c.a_text_is_read_in_one_way.ensures.not_both
    c.args.self.now.session c.ask.new.self.session c.args.tables.now c.ask.new.tables c.args.text.now bytes c.ask.ensures.asks
    count number is states ok on c.count_packets.result _ (search rules) (search rules)
