use Rattle.std.proofs.Common.{Bor, List, ℕ, Ok, Err, rules, map}
use Rattle.std.specs.Ordering.{nat_cmp}
use Rattle.std.specs.Str.{str_to_ascii_lowercase}
use Rattle.std.specs.Cmp.Lexicographic.{slice_cmp}
use Rattle.std.proofs.lemmas.Fn.{always_returns_same}
use Rattle.name_table.specs.Order.{IsInOrder}
use Rattle.name_table.proofs.OrderLemmas.{place_from_search}
use Rattle.name_table.proofs.table.NameTable.find.Goals as goal

pub returns-in-Ok : goal.returns-in-Ok
returns-in-Ok g c =
    let small = str_to_ascii_lowercase c.args.word.now in
    let entries = c.self.inside.words.now in
    let order : IsInOrder (map (λ word. word.now) entries) = rw c.self.view_is c.requires.order in
    rw (← c.self.view_is) (place_from_search entries small (Ok c.in-Ok.place) order c.in-Ok.ensures.bound (c.in-Ok.ensures.position (λ (entry : Bor (List ℕ)). slice_cmp nat_cmp entry.now small) (always_returns_same _ _ _ (λ a r f' k. search rules))))

pub returns-in-Err : goal.returns-in-Err
returns-in-Err g c =
    let small = str_to_ascii_lowercase c.args.word.now in
    let entries = c.self.inside.words.now in
    let order : IsInOrder (map (λ word. word.now) entries) = rw c.self.view_is c.requires.order in
    rw (← c.self.view_is) (place_from_search entries small (Err c.in-Err.field-0) order c.in-Err.ensures.bound (c.in-Err.ensures.position (λ (entry : Bor (List ℕ)). slice_cmp nat_cmp entry.now small) (always_returns_same _ _ _ (λ a r f' k. search rules))))
