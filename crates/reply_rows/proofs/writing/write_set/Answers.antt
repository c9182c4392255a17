use Rattle.std.proofs.Common.{◌≡◌, ℕ, ◌<◌, List, [], ◌∷◌, ◌++◌, Ok, map, length, subst, rules, arith}
use Rattle.mysql_wire.specs.LengthEncoded.{lenenc}
use Rattle.mysql_wire.specs.Replies.{eof_payload}
use Rattle.mysql_wire.specs.Rows.{column_payload, row_payload}
use Rattle.reply_rows.specs.steps.Appending.{Appends}
use Rattle.reply_rows.proofs.Numbering.{Appends-then, set_parts}
use Rattle.reply_rows.proofs.writing.write_set.Goals as goal

pub returns-clause-appends : goal.returns-clause-appends
returns-clause-appends g c =
    let count : List ℕ = lenenc (length (g.T.Table.set c.args.table.now).columns) in
    let eof : List ℕ = eof_payload c.args.status in
    let columns : List (List ℕ) = map column_payload (g.T.Table.set c.args.table.now).columns in
    let rows : List (List ℕ) = map row_payload (g.T.Table.set c.args.table.now).rows in
    let seq : ℕ = c.args.seq in
    let small : seq < 256 = omega (arith, c.ranges.seq.fits) in
    let old : List ℕ = c.args.out.now.items in
    let Counted : List ℕ → Type 0 = λ p. Appends {E = Unit {0}} (Ok c.in_ok-first.first) seq (p ∷ []) old c.write_payload.new.out.items in
    let e : c.as_slice.result.now ≡ count = search rules in
    let a : Counted count = subst Counted e c.in_ok-first.ensures.appends in
    let b : Appends {E = Unit {0}} (Ok c.in_ok-second.second) seq ((count ∷ []) ++ columns) old c.write_columns.new.out.items =
    Appends-then {E = Unit {0}} (Ok c.in_ok-second.second) seq c.in_ok-first.first (count ∷ []) columns old c.write_payload.new.out.items c.write_columns.new.out.items small a.0 a.1 c.in_ok-second.ensures.appends in
    let d : Appends {E = Unit {0}} (Ok c.in_ok-third.third) seq (((count ∷ []) ++ columns) ++ eof ∷ []) old c.write_eof.new.out.items =
    Appends-then {E = Unit {0}} (Ok c.in_ok-third.third) seq c.in_ok-second.second ((count ∷ []) ++ columns) (eof ∷ []) old c.write_columns.new.out.items c.write_eof.new.out.items small b.0 b.1 c.in_ok-third.ensures.appends in
    let f : Appends {E = Unit {0}} (Ok c.in_ok-fourth.fourth) seq ((((count ∷ []) ++ columns) ++ eof ∷ []) ++ rows) old c.write_rows.new.out.items =
    Appends-then {E = Unit {0}} (Ok c.in_ok-fourth.fourth) seq c.in_ok-third.third (((count ∷ []) ++ columns) ++ eof ∷ []) rows old c.write_eof.new.out.items c.write_rows.new.out.items small d.0 d.1 c.in_ok-fourth.ensures.appends in
    let All : List (List ℕ) → Type 0 = λ ps. Appends c.write_eof-2.result seq ps old c.write_eof-2.new.out.items in
    let whole : All (((((count ∷ []) ++ columns) ++ eof ∷ []) ++ rows) ++ eof ∷ []) =
    Appends-then c.write_eof-2.result seq c.in_ok-fourth.fourth ((((count ∷ []) ++ columns) ++ eof ∷ []) ++ rows) (eof ∷ []) old c.write_rows.new.out.items c.write_eof-2.new.out.items small f.0 f.1 c.write_eof-2.ensures.appends in
    subst All (set_parts count eof columns rows) whole
