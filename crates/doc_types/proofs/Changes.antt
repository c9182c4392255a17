-- What changes make of the rows, and which ids are there after them.
use Rattle.std.proofs.Common.{◌≡◌, ◌≢◌, ℕ, ◌+◌, List, [], ◌∷◌, Bool, true, false, ◌==◌, ◌||◌, ◌&&◌, not, cond, Option, Some, None, is_some, refl, sym, ap, ◌∙◌, map, arith}
use Rattle.std.specs.FinMap as finite
use Rattle.std.specs.Ordering.{nat_cmp}
use Rattle.std.specs.Cmp.{unsigned_tied}
use Rattle.std.proofs.lemmas.Cmp.{nat_cmp_total}
use Rattle.doc_types.specs.declared.documents.Doc.{Doc}
use Rattle.doc_types.specs.declared.documents.DocRow.{DocRow}
use Rattle.doc_types.specs.declared.transactions.TxnOp.{TxnOp}
use Rattle.doc_types.specs.declared.transactions.TxnOp.TheVariants as operations
use Rattle.doc_types.specs.Rows.{Rows, rows_of}
use Rattle.doc_types.specs.Commits.{Change, Verdict, Accepted, Duplicate, Put, Kill, Clear, after_change, change_of, there_after, tried, verdict, with_change}
use Rattle.doc_types.proofs.Ids.{same, tied_apart, tied_same}

-- what a put and a kill leave of an id
pub put_other : (number : ℕ) (rows : Rows) (doc : Doc) (id : ℕ) → id ≢ doc.id → finite.get (after_change number rows (Put doc)) id ≡ finite.get rows id
put_other number rows doc id other =
    finite.get-insert nat_cmp_total rows doc.id (record { doc = doc; born = number }) id
    ∙ ap (λ b. cond b (Some (record { doc = doc; born = number })) (finite.get rows id)) (tied_apart id doc.id other)

pub put_own : (number : ℕ) (rows : Rows) (doc : Doc) → finite.get (after_change number rows (Put doc)) doc.id ≡ Some (record { doc = doc; born = number })
put_own number rows doc =
    finite.get-insert nat_cmp_total rows doc.id (record { doc = doc; born = number }) doc.id
    ∙ ap (λ b. cond b (Some (record { doc = doc; born = number })) (finite.get rows doc.id)) (tied_same doc.id)

pub kill_other : (number : ℕ) (rows : Rows) (killed id : ℕ) → id ≢ killed → finite.get (after_change number rows (Kill killed)) id ≡ finite.get rows id
kill_other number rows killed id other = finite.get-remove nat_cmp_total rows killed id ∙ ap (λ b. cond b None (finite.get rows id)) (tied_apart id killed other)

pub kill_own : (number : ℕ) (rows : Rows) (killed : ℕ) → finite.get (after_change number rows (Kill killed)) killed ≡ None
kill_own number rows killed = finite.get-remove nat_cmp_total rows killed killed ∙ ap (λ b. cond b None (finite.get rows killed)) (tied_same killed)

-- operations are tried alike where the same ids are there
pub tried_alike : (here there : ℕ → Bool) → ((id : ℕ) → here id ≡ there id) → (ops : List TxnOp) → tried here ops ≡ tried there ops
tried_alike here there e ops = let same : here ≡ there = λ i id. e id i in ap (λ ids. tried ids ops) same

some_or : (b : Bool) (row : DocRow) (found : Option DocRow) → (b || is_some found) ≡ is_some (cond b (Some row) found)
some_or true row found = refl
some_or false row found = refl

none_and : (b : Bool) (found : Option DocRow) → (not b && is_some found) ≡ is_some (cond b None found)
none_and true found = refl
none_and false found = refl

put_there : (number : ℕ) (rows : Rows) (doc : Doc) (id : ℕ) → ((id == doc.id) || finite.contains_key rows id) ≡ finite.contains_key (after_change number rows (Put doc)) id
put_there number rows doc id =
    some_or (id == doc.id) (record { doc = doc; born = number }) (finite.get rows id)
    ∙ ap (λ b. is_some (cond b (Some (record { doc = doc; born = number })) (finite.get rows id))) (sym (unsigned_tied id doc.id))
    ∙ ap is_some (sym (finite.get-insert nat_cmp_total rows doc.id (record { doc = doc; born = number }) id))

kill_there : (number : ℕ) (rows : Rows) (killed id : ℕ) → (not (id == killed) && finite.contains_key rows id) ≡ finite.contains_key (after_change number rows (Kill killed)) id
kill_there number rows killed id =
    none_and (id == killed) (finite.get rows id)
    ∙ ap (λ b. is_some (cond b None (finite.get rows id))) (sym (unsigned_tied id killed))
    ∙ ap is_some (sym (finite.get-remove nat_cmp_total rows killed id))

clear_there : (number : ℕ) (rows : Rows) (id : ℕ) → false ≡ finite.contains_key (after_change number rows Clear) id
clear_there number rows id = sym (ap is_some (finite.get-empty nat_cmp id))

-- each operation is tried over the rows after those before it
pub tried_insert : (number : ℕ) (rows : Rows) (doc : Doc) (ops : List TxnOp) → verdict (operations.Insert doc ∷ ops) rows ≡ cond (finite.contains_key rows doc.id) (Duplicate doc.id) (with_change (Put doc) 0 (verdict ops (after_change number rows (Put doc))))
tried_insert number rows doc ops = ap (λ rest. cond (finite.contains_key rows doc.id) (Duplicate doc.id) (with_change (Put doc) 0 rest)) (tried_alike _ _ (put_there number rows doc) ops)

pub tried_put : (number : ℕ) (rows : Rows) (doc : Doc) (ops : List TxnOp) → verdict (operations.Put doc ∷ ops) rows ≡ with_change (Put doc) 0 (verdict ops (after_change number rows (Put doc)))
tried_put number rows doc ops = ap (with_change (Put doc) 0) (tried_alike _ _ (put_there number rows doc) ops)

pub tried_kill : (number : ℕ) (rows : Rows) (killed : ℕ) (ops : List TxnOp) → verdict (operations.Kill killed ∷ ops) rows ≡ with_change (Kill killed) (cond (finite.contains_key rows killed) 1 0) (verdict ops (after_change number rows (Kill killed)))
tried_kill number rows killed ops = ap (with_change (Kill killed) (cond (finite.contains_key rows killed) 1 0)) (tried_alike _ _ (kill_there number rows killed) ops)

pub tried_clear : (number : ℕ) (rows : Rows) (ops : List TxnOp) → verdict (operations.Clear ∷ ops) rows ≡ with_change Clear 0 (verdict ops (after_change number rows Clear))
tried_clear number rows ops = ap (with_change Clear 0) (tried_alike _ _ (clear_there number rows) ops)

-- the second kill of an id finds it gone
pub killed_twice : (rows : Rows) (id : ℕ) → verdict (operations.Kill id ∷ operations.Kill id ∷ []) rows ≡ Accepted (Kill id ∷ Kill id ∷ []) (cond (finite.contains_key rows id) 1 0)
killed_twice rows id =
    let gone : (not (id == id) && finite.contains_key rows id) ≡ false = ap (λ b. not b && finite.contains_key rows id) (same id id refl) in
    let count : cond (finite.contains_key rows id) 1 0 + (cond (not (id == id) && finite.contains_key rows id) 1 0 + 0) ≡ cond (finite.contains_key rows id) 1 0 = rw gone (omega arith) in
    ap (Accepted (Kill id ∷ Kill id ∷ [])) count

-- over a list of rows the ids that are there can be computed
pub tried_over : (rows : List DocRow) (ops : List TxnOp) → verdict ops (rows_of rows) ≡ tried (λ id. is_some (finite.find nat_cmp id (map (λ row. (row.doc.id, row)) rows))) ops
tried_over rows ops = tried_alike _ _ (λ id. ap is_some (finite.get-from_entries nat_cmp_total (map (λ (row : DocRow). (row.doc.id, row)) rows) id)) ops

-- where a verdict with one more change at its front accepts, the one without it does
without : (change : Change) (count : ℕ) (rest : Verdict) (changes : List Change) (removed : ℕ) → with_change change count rest ≡ Accepted changes removed → (more : List Change) × (n : ℕ) × (rest ≡ Accepted more n) × (changes ≡ change ∷ more)
without change count (Duplicate id) changes removed e = cc
without change count (Accepted more n) changes removed e = (more, n, refl, cc)

one_more : (there : ℕ → Bool) (ops : List TxnOp) (change : Change) (count : ℕ) (changes : List Change) (removed : ℕ) → ((more : List Change) (n : ℕ) → tried there ops ≡ Accepted more n → more ≡ map change_of ops) → with_change change count (tried there ops) ≡ Accepted changes removed → changes ≡ change ∷ map change_of ops
one_more there ops change count changes removed rest e =
    let before = without change count (tried there ops) changes removed e in
    before.3 ∙ ap (λ more. change ∷ more) (rest before.0 before.1 before.2)

-- what is accepted are the changes that the operations are
pub accepted : (there : ℕ → Bool) (ops : List TxnOp) (changes : List Change) (removed : ℕ) → tried there ops ≡ Accepted changes removed → changes ≡ map change_of ops
accepted there [] changes removed e = cc
accepted there (operations.Insert doc ∷ ops) changes removed e =
    elim (there doc.id) as (λ b. cond b (Duplicate doc.id) (with_change (Put doc) 0 (tried (there_after there (operations.Insert doc)) ops)) ≡ Accepted changes removed → changes ≡ Put doc ∷ map change_of ops) [
      | true ↦ λ h. cc
      | false ↦ one_more (there_after there (operations.Insert doc)) ops (Put doc) 0 changes removed (accepted (there_after there (operations.Insert doc)) ops)
    ] e
accepted there (operations.Put doc ∷ ops) changes removed e = one_more (there_after there (operations.Put doc)) ops (Put doc) 0 changes removed (accepted (there_after there (operations.Put doc)) ops) e
accepted there (operations.Kill id ∷ ops) changes removed e = one_more (there_after there (operations.Kill id)) ops (Kill id) (cond (there id) 1 0) changes removed (accepted (there_after there (operations.Kill id)) ops) e
accepted there (operations.Clear ∷ ops) changes removed e = one_more (there_after there operations.Clear) ops Clear 0 changes removed (accepted (there_after there operations.Clear) ops) e
