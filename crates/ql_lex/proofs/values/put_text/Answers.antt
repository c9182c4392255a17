use Rattle.std.proofs.Common.{ℕ, ◌+◌, false, List, ◌∷◌, [], ◌++◌, length, get_or, slice_range, ap, ◌∙◌, arith}
use Rattle.ql_lex.specs.Shapes.{inside}
use Rattle.ql_lex.proofs.Slices.{slice_length}
use Rattle.ql_lex.proofs.Unescaping.{first_escape, escape_more, resolve_more, resolve_start, resolve_escape, resolve_rest, resolve_end}
use Rattle.ql_lex.proofs.values.put_text.Goals as goal

pub pieces-init : goal.pieces-init
pieces-init c = record {
  resolves = resolve_start (get_or c.args.token.now 0 0) (inside c.args.token.now) c.args.out.now.items c.reserve.new.self.items c.requires.inner c.in_ok-reserve.ensures.items;
  room = omega (arith, c.in_ok-reserve.ensures.ok);
}

pub returns-in_err-extend_from_slice-in-None-clause-err : goal.returns-in_err-extend_from_slice-in-None-clause-err
returns-in_err-extend_from_slice-in-None-clause-err c =
    let inner : List ℕ = inside c.args.token.now in
    let size = slice_length inner c.pieces.at (length inner) (omega arith) in
    absurd (omega (arith, size, c.in_err-extend_from_slice-in-None.ensures.full, c.pieces.invariant.room))

pub returns-in-None-clause-ok : goal.returns-in-None-clause-ok
returns-in-None-clause-ok c =
    resolve_rest (get_or c.args.token.now 0 0) (inside c.args.token.now) c.args.out.now.items c.pieces.at c.pieces.out.items c.extend_from_slice.new.self.items c.pieces-test.true c.in-None.ensures c.pieces.invariant.resolves c.in_ok-extend_from_slice-in-None.ensures.items

pub returns-in_err-extend_from_slice-in-Some-clause-err : goal.returns-in_err-extend_from_slice-in-Some-clause-err
returns-in_err-extend_from_slice-in-Some-clause-err c =
    let inner : List ℕ = inside c.args.token.now in
    let within = (first_escape inner c.pieces.at c.in-Some.plain c.pieces-test.true c.in-Some.ensures).within in
    let size = slice_length inner c.pieces.at (c.pieces.at + c.in-Some.plain) (omega (arith, within)) in
    absurd (omega (arith, size, within, c.in_err-extend_from_slice-in-Some.ensures.full, c.pieces.invariant.room))

pub bounds-inner-place : goal.bounds-inner-place
bounds-inner-place c =
    let quote : ℕ = get_or c.args.token.now 0 0 in
    let inner : List ℕ = inside c.args.token.now in
    let read = escape_more quote inner c.args.out.now.items c.pieces.at c.in-Some.plain c.pieces.out.items c.pieces-test.true c.in-Some.ensures c.pieces.invariant.resolves in
    resolve_more quote inner c.args.out.now.items (c.pieces.at + c.in-Some.plain + 1) (c.pieces.out.items ++ slice_range inner c.pieces.at (c.pieces.at + c.in-Some.plain)) read

pub push_reserved-requires : goal.push_reserved-requires
push_reserved-requires c =
    let inner : List ℕ = inside c.args.token.now in
    let within = (first_escape inner c.pieces.at c.in-Some.plain c.pieces-test.true c.in-Some.ensures).within in
    let size = slice_length inner c.pieces.at (c.pieces.at + c.in-Some.plain) (omega (arith, within)) in
    let extended = c.in_ok-extend_from_slice-in-Some.ensures in
    omega (arith, size, within, extended.len, extended.capacity, c.pieces.invariant.room)

pub pieces-preserved : goal.pieces-preserved
pieces-preserved c =
    let quote : ℕ = get_or c.args.token.now 0 0 in
    let inner : List ℕ = inside c.args.token.now in
    let within = (first_escape inner c.pieces.at c.in-Some.plain c.pieces-test.true c.in-Some.ensures).within in
    let size = slice_length inner c.pieces.at (c.pieces.at + c.in-Some.plain) (omega (arith, within)) in
    let extended = c.in_ok-extend_from_slice-in-Some.ensures in
    let pushed = c.push_reserved.ensures in
    record {
      resolves = resolve_escape quote inner c.args.out.now.items c.pieces.at c.in-Some.plain c.pieces.out.items c.extend_from_slice-in-Some.new.self.items c.push_reserved.new.self.items c.pieces-test.true c.in-Some.ensures c.pieces.invariant.resolves extended.items
          (pushed.items ∙ ap (λ (b : ℕ). c.extend_from_slice-in-Some.new.self.items ++ b ∷ []) c.escaped.ensures);
      room = omega (arith, size, within, extended.len, extended.capacity, pushed.len, pushed.capacity, c.pieces.invariant.room);
    }

pub returns-clause-ok : goal.returns-clause-ok
returns-clause-ok c = resolve_end (get_or c.args.token.now 0 0) (inside c.args.token.now) c.args.out.now.items c.pieces.at false c.pieces.out.items c.pieces-test.false c.pieces.invariant.resolves
