use Rattle.std.proofs.Common.{rules, ◌≤◌, ◌+◌, [], ◌∷◌, All, List, length, ap, sym, subst, arith, length-append, vec_capacity}
use Rattle.std.proofs.lemmas.List.Elements.{All-head, All-tail}
use Rattle.std.specs.Option.{option_to_list}
use Rattle.step_line.specs.Lines.{new_line}
use Rattle.store_keep.specs.Tellings.{AreTokensOf}
use Rattle.engine_tables.specs.Tokens.{AreOf, TokensValue}
use Rattle.engine_tables.proofs.Endings.{at_most_one, tokens_more}
use Rattle.engine_tables.proofs.ending.+take_column.Goals as goal

pub take_last-token-requires : goal.take_last-token-requires
take_last-token-requires g t c =
    let all = subst (λ (s : List TokensValue). All (AreOf (c.args.place + 1) c.args.workers) s) c.in-Some.ensures.cases.0 c.requires.of in
    let first = All-head (AreOf (c.args.place + 1) c.args.workers) c.in-Some.tokens.now c.in-Some.others.now all in
    omega (arith, first.many)

pub take_column-requires : goal.take_column-requires
take_column-requires g t c κs =
    let all = subst (λ (s : List TokensValue). All (AreOf (c.args.place + 1) c.args.workers) s) c.in-Some.ensures.cases.0 c.requires.of in
    let first = All-head (AreOf (c.args.place + 1) c.args.workers) c.in-Some.tokens.now c.in-Some.others.now all in
    let of : All (AreOf (c.args.place + 1) c.args.workers) c.in-Some.others.now = All-tail (AreOf (c.args.place + 1) c.args.workers) c.in-Some.tokens.now c.in-Some.others.now all in
    let one : AreTokensOf (new_line c.args.place c.args.workers) (c.take_last-token.result.0 ∷ []) = (omega (arith, c.take_last-token.ensures.index, first.many), omega (arith, c.take_last-token.ensures.worker, first.above), omega (arith, c.take_last-token.ensures.worker, first.within), tt) in
    let tokens : AreTokensOf (new_line c.args.place c.args.workers) c.push_reserved.new.self.items =
    subst (AreTokensOf (new_line c.args.place c.args.workers)) (sym c.push_reserved.ensures.items) (tokens_more c.args.place c.args.workers c.args.column.now.items (c.take_last-token.result.0 ∷ []) c.requires.tokens one) in
    let room : length c.push_reserved.new.self.items + length c.in-Some.others.now ≤ vec_capacity c.push_reserved.new.self =
    omega (arith, ap length c.push_reserved.ensures.items, length-append c.args.column.now.items (c.take_last-token.result.0 ∷ []), c.in-Some.ensures.cases.1, c.requires.room, c.push_reserved.ensures.capacity) in
    let told : length c.push_some.new.told.items + length c.in-Some.others.now ≤ vec_capacity c.push_some.new.told =
    omega (arith, ap length c.push_some.ensures.told, length-append c.args.told.now.items (option_to_list c.take_last-token.result.1), at_most_one c.take_last-token.result.1, c.in-Some.ensures.cases.1, c.requires.told, c.push_some.ensures.room) in
    search rules
