-- Documents that are inserted under new ids, a transaction after the other: what becomes of each transaction, and the rows after them.
use Rattle.std.proofs.Common.{◌≡◌, ◌≤◌, ◌<◌, ℕ, ◌+◌, ◌*◌, ◌-◌, List, [], ◌∷◌, ◌++◌, Bool, true, false, ◌==◌, ◌||◌, cond, Some, None, map, length, refl, sym, ap, subst, ◌∙◌, arith, append_assoc, append-nil, length-append}
use Rattle.std.specs.Prelude.{nat_lt, sum_by}
use Rattle.std.specs.List.{fold, list_any}
use Rattle.std.specs.FinMap as finite
use Rattle.std.specs.Ordering.{eq_by_cmp, nat_cmp}
use Rattle.std.proofs.lemmas.Bool.Decides.{nat_tests}
use Rattle.std.proofs.lemmas.Cmp.{nat_cmp_total}
use Rattle.std.proofs.lemmas.List.{length-map}
use Rattle.std.proofs.lemmas.List.Sums.{sum_by-append, sum_by-cons}
use Rattle.commit_outcomes.specs.Outcomes.{changed}
use Rattle.commit_outcomes.specs.declared.outcome.FullKind.TheVariants as limits
use Rattle.commit_outcomes.specs.declared.outcome.TheConstants.{MAX_DOCUMENTS}
use Rattle.doc_types.specs.Commits.{Accepted, Change, Entry, Put, Verdict, after, after_change, after_entry, there_after, tried, verdict, with_change}
use Rattle.doc_types.specs.Payloads.{doc_length}
use Rattle.doc_types.specs.Rows.{Rows, rows_of}
use Rattle.doc_types.specs.Snapshots.{SnapshotValue, live}
use Rattle.doc_types.specs.declared.documents.Doc.{Doc}
use Rattle.doc_types.specs.declared.documents.DocRow.{DocRow}
use Rattle.doc_types.specs.declared.schema.Schema.{Schema}
use Rattle.doc_types.specs.declared.transactions.TxnOp.{TxnOp}
use Rattle.doc_types.specs.declared.transactions.TxnOp.TheVariants as operations
use Rattle.step_history.specs.History.{Base, Commit, CommitFollows, ReshapeFollows, IsGood, Reshape, Step, commits, last_snapshot}
use Rattle.step_history.specs.Logs.{change_length, log_at, log_from, record_length}
use Rattle.step_history.proofs.Counts.{rows}
use Rattle.step_history.proofs.Steps.{last_one}
use Rattle.self_test.specs.Own.{IsEmpty}
use Rattle.store_steps.specs.Refusals.{batch_length, full_documents, full_numbers, full_of, is_put, most_log}
use Rattle.store_steps.specs.declared.limits.TheConstants.{LAST_COMMIT, MOST_LOG, MOST_LOG_BY_REMOVALS}

-- the operations that insert documents, and the changes that they are
abbrev pub inserting : List Doc → List TxnOp
inserting docs = map operations.Insert docs

abbrev pub putting : List Doc → List Change
putting docs = map Put docs

-- the rows that a commit of this number puts for documents
abbrev pub rows_at : ℕ → List Doc → List DocRow
rows_at number docs = map (λ (doc : Doc). record { doc = doc; born = number }) docs

-- The ids of documents are those behind this number, one after the other.
abbrev pub AreNumbered : ℕ → List Doc → Type 0
AreNumbered n [] = Unit {0}
AreNumbered n (doc ∷ docs) = (doc.id ≡ n + 1) × AreNumbered (n + 1) docs

-- Each takes few bytes in a log.
abbrev pub AreLight : List Doc → Type 0
AreLight [] = Unit {0}
AreLight (doc ∷ docs) = (doc_length doc ≤ 199) × AreLight docs

-- the documents of rows
abbrev pub docs_of : List DocRow → List Doc
docs_of list = map (λ (row : DocRow). row.doc) list

abbrev keyed : DocRow → ℕ × DocRow
keyed row = (row.doc.id, row)

-- nothing behind the number is there
abbrev IsFresh : (ℕ → Bool) → ℕ → Type 0
IsFresh there n = (id : ℕ) → n < id → there id ≡ false

differ : (a b : ℕ) → b < a → (a == b) ≡ false
differ a b less = grind (arith, nat_tests)

or_false : (a b : Bool) → a ≡ false → b ≡ false → (a || b) ≡ false
or_false true b no_a no_b = no_a
or_false false b no_a no_b = no_b

one_accepted : (there : ℕ → Bool) (doc : Doc) (ops : List TxnOp) (b : Bool) (changes : List Change) → there doc.id ≡ b → b ≡ false → tried (there_after there (operations.Insert doc)) ops ≡ Accepted changes 0
    → tried there (operations.Insert doc ∷ ops) ≡ Accepted (Put doc ∷ changes) 0
one_accepted there doc ops b changes is none rest = rw (is, none) (ap (λ (v : Verdict). with_change (Put doc) 0 v) rest)

-- insertions of new ids are accepted
tried_new : (there : ℕ → Bool) (n : ℕ) (docs : List Doc) → IsFresh there n → AreNumbered n docs → tried there (inserting docs) ≡ Accepted (putting docs) 0
tried_new there n [] fresh numbered = refl
tried_new there n (doc ∷ docs) fresh (here, numbered) =
    let now : IsFresh (there_after there (operations.Insert doc)) (n + 1) =
    λ id above. or_false (id == doc.id) (there id) (differ id doc.id (omega (arith, here, above))) (fresh id (omega (arith, above))) in
    one_accepted there doc (inserting docs) (there doc.id) (putting docs) refl (fresh doc.id (omega (arith, here))) (tried_new (there_after there (operations.Insert doc)) (n + 1) docs now numbered)

apart_tests : (a b : ℕ) → b < a → eq_by_cmp nat_cmp a b ≡ false
apart_tests a b less = grind (arith, nat_tests)

-- no row of these has a later id
found_none : (n : ℕ) (list : List DocRow) (id : ℕ) → AreNumbered n (docs_of list) → n + length list < id → finite.find nat_cmp id (map keyed list) ≡ None
found_none n [] id numbered above = refl
found_none n (row ∷ list) id (here, numbered) above =
    let rest = found_none (n + 1) list id numbered (omega (arith, above)) in
    rw (apart_tests id row.doc.id (omega (arith, here, above))) rest

absent : (list : List DocRow) (id : ℕ) → AreNumbered 0 (docs_of list) → length list < id → finite.contains_key (rows_of list) id ≡ false
absent list id numbered above =
    let none : finite.get (rows_of list) id ≡ None =
    finite.get-from_entries nat_cmp_total (map keyed list) id ∙ found_none 0 list id numbered (omega (arith, above)) in
    rw none refl

-- documents with new ids are accepted
pub accepted : (list : List DocRow) (docs : List Doc) → AreNumbered 0 (docs_of list) → AreNumbered (length list) docs → verdict (inserting docs) (rows_of list) ≡ Accepted (putting docs) 0
accepted list docs numbered next = tried_new (λ id. finite.contains_key (rows_of list) id) (length list) docs (λ id above. absent list id numbered above) next

numbered_then : (n : ℕ) (front more : List Doc) → AreNumbered n front → AreNumbered (n + length front) more → AreNumbered n (front ++ more)
numbered_then n [] more first next = subst (λ (m : ℕ). AreNumbered m more) (omega arith) next
numbered_then n (doc ∷ front) more (here, first) next = (here, numbered_then (n + 1) front more first (subst (λ (m : ℕ). AreNumbered m more) (omega arith) next))

pub docs_then : (front more : List DocRow) → docs_of (front ++ more) ≡ docs_of front ++ docs_of more
docs_then [] more = refl
docs_then (row ∷ front) more = ap (λ (l : List Doc). row.doc ∷ l) (docs_then front more)

pub docs_at : (number : ℕ) (docs : List Doc) → docs_of (rows_at number docs) ≡ docs
docs_at number [] = refl
docs_at number (doc ∷ docs) = ap (λ (l : List Doc). doc ∷ l) (docs_at number docs)

entries_then : (front : List DocRow) (row : DocRow) → map keyed (front ++ row ∷ []) ≡ map keyed front ++ (row.doc.id, row) ∷ []
entries_then [] row = refl
entries_then (one ∷ front) row = ap (λ (l : List (ℕ × DocRow)). (one.doc.id, one) ∷ l) (entries_then front row)

-- one row more
one_row : (list : List DocRow) (row : DocRow) → AreNumbered 0 (docs_of list) → row.doc.id ≡ length list + 1 → finite.insert (rows_of list) row.doc.id row ≡ rows_of (list ++ row ∷ [])
one_row list row numbered here =
    sym (ap (λ (l : List (ℕ × DocRow)). finite.from_entries l) (entries_then list row)
    ∙ finite.from_entries_push nat_cmp_total finite.nat_cmp-IsAntisymmetric (map keyed list) row.doc.id row (found_none 0 list row.doc.id numbered (omega (arith, here))))

-- the rows after puts of new ids
put_rows : (number : ℕ) (list : List DocRow) (docs : List Doc) → AreNumbered 0 (docs_of list) → AreNumbered (length list) docs
    → fold (after_change number) (rows_of list) (putting docs) ≡ rows_of (list ++ rows_at number docs)
put_rows number list [] numbered next = ap (λ (l : List DocRow). rows_of l) (sym (append-nil list))
put_rows number list (doc ∷ docs) numbered (here, next) =
    let row : DocRow = record { doc = doc; born = number } in
    let longer : List DocRow = list ++ row ∷ [] in
    let long : length longer ≡ length list + 1 = length-append list (row ∷ []) in
    let all : AreNumbered 0 (docs_of longer) = subst (λ (l : List Doc). AreNumbered 0 l) (sym (docs_then list (row ∷ [])))
    (numbered_then 0 (docs_of list) (doc ∷ []) numbered (omega (arith, here, length-map list (λ (r : DocRow). r.doc)), tt)) in
    let rest : fold (after_change number) (rows_of longer) (putting docs) ≡ rows_of (longer ++ rows_at number docs) =
    put_rows number longer docs all (subst (λ (n : ℕ). AreNumbered n docs) (sym long) next) in
    ap (λ (r : Rows). fold (after_change number) r (putting docs)) (one_row list row numbered here) ∙ rest ∙ ap (λ (l : List DocRow). rows_of l) (append_assoc list (row ∷ []) (rows_at number docs))

added : (b : Bool) (n m : ℕ) → n ≤ m → cond b n (n + 1) ≤ m + 1
added true n m least = omega (arith, least)
added false n m least = omega (arith, least)

-- no more rows than there are
rows_few : (list : List DocRow) → finite.len (rows_of list) ≤ length list
rows_few [] = rw (finite.len-empty nat_cmp DocRow) (omega arith)
rows_few (row ∷ list) =
    let size : finite.len (rows_of (row ∷ list)) ≡ cond (finite.contains_key (rows_of list) row.doc.id) (finite.len (rows_of list)) (finite.len (rows_of list) + 1) =
    finite.len-insert nat_cmp_total (rows_of list) row.doc.id row in
    omega (arith, size, added (finite.contains_key (rows_of list) row.doc.id) (finite.len (rows_of list)) (length list) (rows_few list))

-- Logs.

changes_light : (docs : List Doc) → AreLight docs → sum_by change_length (putting docs) ≤ 200 * length docs
changes_light [] light = omega arith
changes_light (doc ∷ docs) (one, light) = omega (arith, sum_by-cons change_length (Put doc) (putting docs), one, changes_light docs light)

log_few : (place : ℕ) (steps : List Step) → log_from place steps ≤ place + sum_by record_length (commits steps)
log_few place [] = omega arith
log_few place (Commit entry snapshot ∷ steps) = omega (arith, sum_by-cons record_length entry (commits steps), log_few (place + record_length entry) steps)
log_few place (Reshape job through snapshot ∷ steps) = omega (arith, log_few 0 steps)

-- Entries wrote rows: these are all rows after them, their ids are 1 and the next ones, and their records take few bytes.
pub record Wrote (entries : List Entry) (list : List DocRow) : Type 0 where
  pub are : after finite.empty entries ≡ rows_of list
  pub numbered : AreNumbered 0 (docs_of list)
  pub logs : sum_by record_length entries ≤ 217 * length list
  pub few : length entries ≤ length list

pub wrote_none : Wrote [] []
wrote_none = record { are = refl; numbered = tt; logs = omega arith; few = omega arith }

fold_one : (rows : Rows) (entries : List Entry) (entry : Entry) → after rows (entries ++ entry ∷ []) ≡ after_entry (after rows entries) entry
fold_one rows [] entry = refl
fold_one rows (one ∷ entries) entry = fold_one (after_entry rows one) entries entry

pub wrote_more : (entries : List Entry) (list : List DocRow) (entry : Entry) (docs : List Doc) → Wrote entries list → entry.changes ≡ putting docs → AreNumbered (length list) docs → AreLight docs → 0 < length docs
    → Wrote (entries ++ entry ∷ []) (list ++ rows_at entry.number docs)
wrote_more entries list entry docs wrote changes next light some =
    let more : List DocRow = rows_at entry.number docs in
    let long : length (list ++ more) ≡ length list + length docs = length-append list more ∙ ap (λ (n : ℕ). length list + n) (length-map docs (λ (doc : Doc). record { doc = doc; born = entry.number })) in
    let here : sum_by change_length entry.changes ≤ 200 * length docs = subst (λ (c : List Change). sum_by change_length c ≤ 200 * length docs) (sym changes) (changes_light docs light) in
    let alike : AreNumbered (0 + length (docs_of list)) (docs_of more) =
    subst (λ (n : ℕ). AreNumbered n (docs_of more)) (sym (omega (arith, length-map list (λ (r : DocRow). r.doc)))) (subst (λ (l : List Doc). AreNumbered (length list) l) (sym (docs_at entry.number docs)) next) in
    record {
      are = fold_one finite.empty entries entry ∙ ap (λ (r : Rows). after_entry r entry) wrote.are ∙ ap (λ (c : List Change). fold (after_change entry.number) (rows_of list) c) changes ∙ put_rows entry.number list docs wrote.numbered next;
      numbered = subst (λ (l : List Doc). AreNumbered 0 l) (sym (docs_then list more)) (numbered_then 0 (docs_of list) (docs_of more) wrote.numbered alike);
      logs = omega (arith, wrote.logs, sum_by-append record_length entries (entry ∷ []), here, long, some);
      few = omega (arith, wrote.few, length-append entries (entry ∷ []), long, some);
    }

-- a good history, cut one step later
later : (schema : Schema) (base : Base) (before : List Step) (step : Step) (rest : List Step) → IsGood schema base (before ++ step ∷ rest) → IsGood schema base ((before ++ step ∷ []) ++ rest)
later schema base before step rest good = subst (IsGood schema base) (sym (append_assoc before (step ∷ []) rest)) good

-- each commit raises the number by one
number_of : (schema : Schema) (base : Base) (before rest : List Step) → IsGood schema base (before ++ rest) → (last_snapshot base (before ++ rest)).number ≡ (last_snapshot base before).number + length (commits rest)
number_of schema base before [] good = rw (append-nil before) (omega arith)
number_of schema base before (Commit entry next ∷ rest) good =
    let step : Step = Commit entry next in
    let f : CommitFollows base before entry next = (good.each before step rest refl).0 in
    let on = number_of schema base (before ++ step ∷ []) rest (later schema base before step rest good) in
    let on' : (last_snapshot base (before ++ step ∷ rest)).number ≡ next.number + length (commits rest) = rw (last_one base before step, append_assoc before (step ∷ []) rest) at on in
    omega (arith, on', f.number)
number_of schema base before (Reshape job through next ∷ rest) good =
    let step : Step = Reshape job through next in
    let f : ReshapeFollows base before job through next = (good.each before step rest refl).0 in
    let on = number_of schema base (before ++ step ∷ []) rest (later schema base before step rest good) in
    let on' : (last_snapshot base (before ++ step ∷ rest)).number ≡ next.number + length (commits rest) = rw (last_one base before step, append_assoc before (step ∷ []) rest) at on in
    omega (arith, on', f.number)

not_less : (a b : ℕ) → b ≤ a → nat_lt a b ≡ false
not_less a b least = grind (arith, nat_tests)

passed_over : {X : Type 0} (b : Bool) (x y : X) → b ≡ false → cond b x y ≡ y
passed_over true x y is = absurd cc
passed_over false x y is = refl

most_least : (b : Bool) → MOST_LOG ≤ cond b MOST_LOG MOST_LOG_BY_REMOVALS
most_least true = omega arith
most_least false = omega arith

module _ (schema : Schema) (base : Base) (steps : List Step) (list : List DocRow) (begun : IsEmpty base) (good : IsGood schema base steps) (wrote : Wrote (commits steps) list) where
  -- the rows of the history
  pub rows_are : live (last_snapshot base steps) ≡ rows_of list
  rows_are = rows schema base steps good ∙ ap (λ (r : Rows). after r (commits steps)) begun.none ∙ wrote.are

  module _ (docs : List Doc) (next : AreNumbered (length list) docs) where
    -- new documents are accepted
    pub next_accepted : verdict (inserting docs) (live (last_snapshot base steps)) ≡ Accepted (putting docs) 0
    next_accepted = ap (λ (r : Rows). verdict (inserting docs) r) rows_are ∙ accepted list docs wrote.numbered next

    module _ (light : AreLight docs) (few : length list + length docs ≤ 100000) where
      abbrev before : SnapshotValue
      before = last_snapshot base steps

      number_is : before.number ≡ base.opening.number + length (commits steps)
      number_is = number_of schema base [] steps good

      no_numbers : full_numbers before ≡ None
      no_numbers =
          passed_over (nat_lt LAST_COMMIT (before.number + 1)) (Some (record { what = limits.Numbers; at = before.number; need = 1 })) None
          (not_less LAST_COMMIT (before.number + 1) (omega (arith, number_is, begun.number, wrote.few, few)))

      changed_are : changed before (putting docs) ≡ rows_of (list ++ rows_at (before.number + 1) docs)
      changed_are = ap (λ (r : Rows). fold (after_change (before.number + 1)) r (putting docs)) rows_are ∙ put_rows (before.number + 1) list docs wrote.numbered next

      size : finite.len (changed before (putting docs)) ≤ 100000
      size =
          let more : List DocRow = rows_at (before.number + 1) docs in
          let all : length (list ++ more) ≡ length list + length docs = length-append list more ∙ ap (λ (n : ℕ). length list + n) (length-map docs (λ (doc : Doc). record { doc = doc; born = before.number + 1 })) in
          let least : finite.len (rows_of (list ++ more)) ≤ length (list ++ more) = rows_few (list ++ more) in
          let same : finite.len (changed before (putting docs)) ≡ finite.len (rows_of (list ++ more)) = ap (λ (r : Rows). finite.len r) changed_are in
          omega (arith, same, least, all, few)

      no_documents : full_documents before (putting docs) ≡ None
      no_documents =
          passed_over (nat_lt MAX_DOCUMENTS (finite.len (changed before (putting docs))))
          (Some (record { what = limits.Documents; at = finite.len (live before); need = finite.len (changed before (putting docs)) - finite.len (live before) })) (full_numbers before)
          (not_less MAX_DOCUMENTS (finite.len (changed before (putting docs))) (omega (arith, size))) ∙ no_numbers

      -- and no limit is passed
      pub next_fits : full_of base steps (putting docs) ≡ None
      next_fits =
          passed_over (nat_lt (most_log (putting docs)) (log_at base steps + batch_length (putting docs)))
          (Some (record { what = limits.Log; at = log_at base steps; need = batch_length (putting docs) })) (full_documents before (putting docs))
          (not_less (most_log (putting docs)) (log_at base steps + batch_length (putting docs))
          (omega (arith, most_least (list_any is_put (putting docs)), log_few base.log steps, changes_light docs light, wrote.logs, begun.log, few))) ∙ no_documents
