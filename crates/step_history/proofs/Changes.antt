-- What a commit leaves of a row.
use Rattle.std.proofs.Common.{◌≡◌, ℕ, List, [], ◌∷◌, Bool, true, false, ◌==◌, ◌||◌, cond, Option, Some, None, refl, sym, ap, ◌∙◌, arith}
use Rattle.std.specs.FinMap as finite
use Rattle.std.specs.List.{fold, list_any}
use Rattle.std.specs.Ordering.{nat_cmp, eq_by_cmp}
use Rattle.std.specs.Cmp.{unsigned_tied}
use Rattle.std.proofs.lemmas.Bool.Decides.{nat_tests}
use Rattle.std.proofs.lemmas.Cmp.{nat_cmp_total}
use Rattle.doc_types.specs.declared.documents.DocRow.{DocRow}
use Rattle.doc_types.specs.Rows.{Rows}
use Rattle.doc_types.specs.Commits.{Change, Put, Kill, Clear, after_change}
use Rattle.step_history.specs.History.{is_put}

flipped : (a b : ℕ) → (a == b) ≡ false → (b == a) ≡ false
flipped a b h = grind (arith, nat_tests)

same : (a b : ℕ) → (a == b) ≡ true → a ≡ b
same a b h = grind (arith, nat_tests)

turned : (a b : ℕ) → (a == b) ≡ true → (b == a) ≡ true
turned a b h = grind (arith, nat_tests)

from_or : (a b : Bool) → b ≡ false → (a || b) ≡ true → a ≡ true
from_or true b n e = refl
from_or false b n e = cc (n, e)

from_none : (b : Bool) (found : Option DocRow) (row : DocRow) → cond b None found ≡ Some row → found ≡ Some row
from_none true found row e = cc
from_none false found row e = e

from_other : (b : Bool) (new : DocRow) (found : Option DocRow) (row : DocRow) → b ≡ false → cond b (Some new) found ≡ Some row → found ≡ Some row
from_other true new found row n e = cc
from_other false new found row n e = e

-- a change that doesn't put the id leaves its row, where it leaves one
pub one_unput : (number : ℕ) (rows : Rows) (change : Change) (id : ℕ) (row : DocRow) → is_put id change ≡ false → finite.get (after_change number rows change) id ≡ Some row → finite.get rows id ≡ Some row
one_unput number rows (Put doc) id row miss e =
    from_other (eq_by_cmp nat_cmp id doc.id) (record { doc = doc; born = number }) (finite.get rows id) row (unsigned_tied id doc.id ∙ flipped doc.id id miss)
    (sym (finite.get-insert nat_cmp_total rows doc.id (record { doc = doc; born = number }) id) ∙ e)
one_unput number rows (Kill killed) id row miss e = from_none (eq_by_cmp nat_cmp id killed) (finite.get rows id) row (sym (finite.get-remove nat_cmp_total rows killed id) ∙ e)
one_unput number rows Clear id row miss e = absurd (cc (finite.get-empty nat_cmp id, e))

or_left : (a b : Bool) → (a || b) ≡ false → a ≡ false
or_left true b e = cc
or_left false b e = refl

or_right : (a b : Bool) → (a || b) ≡ false → b ≡ false
or_right true b e = cc
or_right false b e = e

pub unput : (number : ℕ) (rows : Rows) (changes : List Change) (id : ℕ) (row : DocRow) → list_any (is_put id) changes ≡ false → finite.get (fold (after_change number) rows changes) id ≡ Some row → finite.get rows id ≡ Some row
unput number rows [] id row miss e = e
unput number rows (change ∷ changes) id row miss e =
    one_unput number rows change id row (or_left (is_put id change) (list_any (is_put id) changes) miss)
    (unput number (after_change number rows change) changes id row (or_right (is_put id change) (list_any (is_put id) changes) miss) e)

-- a row that was put is of the commit that put it
put_born : (number : ℕ) (rows : Rows) (change : Change) (id : ℕ) (row : DocRow) → is_put id change ≡ true → finite.get (after_change number rows change) id ≡ Some row → row.born ≡ number
put_born number rows (Put doc) id row hit e =
    let own : finite.get (after_change number rows (Put doc)) id ≡ Some (record { doc = doc; born = number }) =
    finite.get-insert nat_cmp_total rows doc.id (record { doc = doc; born = number }) id
    ∙ ap (λ b. cond b (Some (record { doc = doc; born = number })) (finite.get rows id)) (unsigned_tied id doc.id ∙ turned doc.id id hit) in
    cc (own, e)
put_born number rows (Kill killed) id row hit e = cc
put_born number rows Clear id row hit e = cc

pub put_rows : (number : ℕ) (rows : Rows) (changes : List Change) (id : ℕ) (row : DocRow) → list_any (is_put id) changes ≡ true → finite.get (fold (after_change number) rows changes) id ≡ Some row → row.born ≡ number
put_rows number rows [] id row hit e = cc
put_rows number rows (change ∷ changes) id row hit e =
    elim (list_any (is_put id) changes) as (λ b. list_any (is_put id) changes ≡ b → row.born ≡ number) [
      | true ↦ λ later. put_rows number (after_change number rows change) changes id row later e
      | false ↦ λ none. put_born number rows change id row (from_or (is_put id change) (list_any (is_put id) changes) none hit) (unput number (after_change number rows change) changes id row none e)
    ] refl
