use Rattle.std.proofs.Common.{rules, ◌≡◌, suc, List, [], ◌∷◌, ◌++◌, length, ap, sym, ◌∙◌, arith}
use Rattle.step_tokens.specs.Tokens.{TokenValue}
use Rattle.store_keep.specs.Names.{first_tokens}
use Rattle.engine_tables.specs.Tokens.{TokensValue, new_seats}
use Rattle.engine_tables.proofs.Dealing.{dealt, dealt_all, length_first, undealt}
use Rattle.engine_tables.proofs.Makings.{length_new}
use Rattle.engine_tables.proofs.Numbering.{length_none}
use Rattle.engine_tables.proofs.making.+deal.Goals as goal

pub take_last-token-requires : goal.take_last-token-requires
take_last-token-requires g t c = omega (arith, c.args.tokens.now.ok.0, ap length c.requires.tokens, length_first c.args.place (length c.args.seats.now), c.in-Some.ensures.cases.1)

pub push-requires-clause-next : goal.push-requires-clause-next
push-requires-clause-next g t c =
    let d = dealt c.args.place c.args.seats.now c.in-Some.others.now c.in-Some.seat.now c.args.tokens.now.items c.take_last-token.new.self.items c.take_last-token.result c.in-Some.ensures.cases.0 c.requires.seats c.take_last-token.ensures.items c.requires.tokens in
    d.index

pub push-requires-clause-own : goal.push-requires-clause-own
push-requires-clause-own g t c =
    let d = dealt c.args.place c.args.seats.now c.in-Some.others.now c.in-Some.seat.now c.args.tokens.now.items c.take_last-token.new.self.items c.take_last-token.result c.in-Some.ensures.cases.0 c.requires.seats c.take_last-token.ensures.items c.requires.tokens in
    d.own

pub deal-requires : goal.deal-requires
deal-requires g t c κs =
    let d = dealt c.args.place c.args.seats.now c.in-Some.others.now c.in-Some.seat.now c.args.tokens.now.items c.take_last-token.new.self.items c.take_last-token.result c.in-Some.ensures.cases.0 c.requires.seats c.take_last-token.ensures.items c.requires.tokens in
    let seats : c.in-Some.others.now ≡ new_seats c.args.place (length c.in-Some.others.now) = d.others_are in
    let tokens : c.take_last-token.new.self.items ≡ first_tokens c.args.place (length c.in-Some.others.now) = d.front_is in
    search rules

pub returns-in-Ok-deal-clause-ok : goal.returns-in-Ok-deal-clause-ok
returns-in-Ok-deal-clause-ok g t c =
    let d = dealt c.args.place c.args.seats.now c.in-Some.others.now c.in-Some.seat.now c.args.tokens.now.items c.take_last-token.new.self.items c.take_last-token.result c.in-Some.ensures.cases.0 c.requires.seats c.take_last-token.ensures.items c.requires.tokens in
    dealt_all c.args.place c.args.seats.now c.in-Some.others.now c.deal.new.seats c.in-Some.seat.now c.push.new.self c.take_last-token.new.self.items c.take_last-token.result c.in-Some.ensures.cases.0 d c.in-Ok-deal.ensures.ok c.in-Ok.ensures.ok

pub returns-in-Err-deal-clause-err : goal.returns-in-Err-deal-clause-err
returns-in-Err-deal-clause-err g t c =
    let seat = c.in-Some.seat.now in
    let last = c.take_last-token-in-Err-deal in
    let d = dealt c.args.place c.args.seats.now c.in-Some.others.now seat c.args.tokens.now.items c.take_last-token.new.self.items c.take_last-token.result c.in-Some.ensures.cases.0 c.requires.seats c.take_last-token.ensures.items c.requires.tokens in
    let alike : length seat.told ≡ length seat.list =
    omega (arith, ap (λ (s : TokensValue). length s.told) d.seat_is, ap (λ (s : TokensValue). length s.list) d.seat_is, length_none c.args.place, length_new (suc (length c.in-Some.others.now)) c.args.place) in
    let same = undealt seat c.push.new.self last.new.self c.take_last-token.result last.result.0 c.in-Ok.ensures.ok alike last.ensures.left last.ensures.last in (
      ap (λ (l : List TokensValue). l ++ last.new.self ∷ []) c.in-Err-deal.ensures.err.0 ∙ ap (λ (s : TokensValue). c.in-Some.others.now ++ s ∷ []) same.0 ∙ sym c.in-Some.ensures.cases.0,
      c.push_reserved.ensures.items ∙ ap (λ (l : List TokenValue). l ++ last.result.0 ∷ []) c.in-Err-deal.ensures.err.1 ∙ ap (λ (b : TokenValue). c.take_last-token.new.self.items ++ b ∷ []) same.1 ∙ sym c.take_last-token.ensures.items,
    )
