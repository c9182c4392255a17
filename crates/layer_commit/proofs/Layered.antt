-- Layers of which rows died, and one more behind them: the snapshot after a commit.
use Rattle.std.proofs.Common.{◌≡◌, ◌≢◌, ℕ, zero, suc, ◌+◌, ◌-◌, ◌<◌, ◌≤◌, ◌^◌, List, [], ◌∷◌, ◌++◌, Bool, true, false, cond, ◌==◌, ◌||◌, not, Option, Some, None, Err, is_some, map, length, take, get_or, refl, sym, ap, subst, ◌∙◌, arith, All, AllPairs, Bor, append-nil, length-append}
use Rattle.std.specs.FinMap as finite
use Rattle.std.specs.List.{filter, find, fold, list_any}
use Rattle.std.specs.Option.{option_map_or}
use Rattle.std.specs.Ordering.{nat_cmp}
use Rattle.std.proofs.lemmas.Cmp.{nat_cmp_total}
use Rattle.std.proofs.lemmas.List.{length-map, map-append, take_more}
use Rattle.std.proofs.lemmas.List.Elements.{All-append, All-filter, All-head, All-map, All-tail, filter-append, filter_passes}
use Rattle.std.proofs.lemmas.List.Filters.{length-filter_both}
use Rattle.std.proofs.lemmas.List.Kept.{AllPairs-cons, AllPairs-filter}
use Rattle.doc_types.specs.declared.documents.Doc.{Doc}
use Rattle.doc_types.specs.declared.documents.DocRow.{DocRow}
use Rattle.doc_types.specs.declared.schema.Schema.{Schema}
use Rattle.doc_types.specs.declared.transactions.TxnOp.{TxnOp}
use Rattle.doc_types.specs.declared.transactions.TxnOp.TheVariants as operations
use Rattle.doc_types.specs.Commits as commits
use Rattle.doc_types.specs.Commits.{after_change, change_of, tried, verdict}
use Rattle.doc_types.specs.Documents.{AreRowsOf, IsDocOf}
use Rattle.doc_types.specs.Rows.{rows_of}
use Rattle.doc_types.specs.Schemas.{IsSchema}
use Rattle.doc_types.specs.Snapshots.{AreLayers, IsLayer, LayerValue, SnapshotValue, all_living, live}
use Rattle.doc_types.specs.Transactions.{IsOpOf}
use Rattle.doc_types.proofs.Changes.{tried_alike}
use Rattle.doc_types.proofs.Ids.{apart, same}
use Rattle.doc_types.proofs.Living.{map_len}
use Rattle.srch_base.specs.declared.faults.Or.{Or}
use Rattle.srch_base.specs.declared.faults.Or.TheVariants as causes
use Rattle.layer_commit.specs.declared.refusal.Refusal.{Refusal}
use Rattle.layer_commit.specs.declared.refusal.Refusal.TheVariants as refusals
use Rattle.layer_commit.specs.declared.trial.Outcome.{Outcome}
use Rattle.commit_outcomes.specs.declared.outcome.Full.{Full}
use Rattle.commit_outcomes.specs.declared.outcome.FullKind.TheVariants.{Documents}
use Rattle.commit_outcomes.specs.Outcomes.{IsFull, changed}
use Rattle.layer_commit.specs.Commits.{Applies, ArePut, Commits, is_kept, layer_after, layers_after, layers_of, named, removals, row_at}
use Rattle.layer_commit.specs.steps.Finding.{AreOfOne, layer_with, lives}
use Rattle.layer_commit.specs.steps.Trying.{ComesTo, Tries, row_after, row_then}
use Rattle.layer_commit.proofs.DeadRows.{layer_is}
use Rattle.layer_commit.proofs.Lives.{living_after, living_kept, there}
use Rattle.layer_commit.proofs.RowMaps.{get_changes, get_rows, named_put, put_at, rows_after, true_false}

-- the ids whose rows die
abbrev pub dies : Outcome → ℕ → Bool
dies outcome id = outcome.cleared || list_any (λ n. n == id) outcome.ids.items

-- the rows that the commit of this number puts
abbrev pub put_rows : ℕ → Outcome → List DocRow
put_rows number outcome = map (λ doc. row_at number doc.now) outcome.docs.items

-- the layers after it
abbrev pub next_layers : ℕ → Outcome → List LayerValue → List LayerValue
next_layers number outcome layers = filter is_kept (map (layer_with (dies outcome)) layers) ++ layers_of (put_rows number outcome)

own_found : (rows : List DocRow) → AllPairs (λ row later. row.doc.id < later.doc.id) rows → (k : ℕ) (d : DocRow) → k < length rows → find (λ row. row.doc.id == (get_or rows k d).doc.id) rows ≡ Some (get_or rows k d)
own_found [] up k d h = absurd (omega (arith, h))
own_found (row ∷ rows) up zero d h = ap (λ b. cond b (Some row) (find (λ other. other.doc.id == row.doc.id) rows)) (same row.doc.id row.doc.id refl)
own_found (row ∷ rows) up (suc k) d h =
    let below : row.doc.id < (get_or rows k d).doc.id = up 0 (suc k) d (omega arith) h in
    ap (λ b. cond b (Some row) (find (λ other. other.doc.id == (get_or rows k d).doc.id) rows)) (apart row.doc.id (get_or rows k d).doc.id (omega (arith, below)))
    ∙ own_found rows (λ i j d l h. up (suc i) (suc j) d (omega (arith, l)) (omega (arith, h))) k d (omega (arith, h))

-- a row that operations leave is of the schema
left_of : (schema : Schema) (number id : ℕ) (ops : List TxnOp) → All (IsOpOf schema) ops → (o : Option DocRow) → ((row : DocRow) → o ≡ Some row → IsDocOf schema row.doc) → (row : DocRow) → row_after number id o (map change_of ops) ≡ Some row → IsDocOf schema row.doc
left_of schema number id [] of o before row e = before row e
left_of schema number id (op ∷ ops) of o before row e =
    left_of schema number id ops (All-tail (IsOpOf schema) op ops of) (row_then number id o (change_of op)) (one op (All-head (IsOpOf schema) op ops of)) row e
  where
    put : (doc : Doc) → IsDocOf schema doc → (row : DocRow) → cond (doc.id == id) (Some (row_at number doc)) o ≡ Some row → IsDocOf schema row.doc
    put doc is row e =
        elim (doc.id == id) as (λ b. cond b (Some (row_at number doc)) o ≡ Some row → IsDocOf schema row.doc) [
          | true ↦ λ e. subst (λ (r : DocRow). IsDocOf schema r.doc) (ap (λ (o : Option DocRow). option_map_or (λ r. r) o row) e) is
          | false ↦ λ e. before row e
        ] e

    one : (op : TxnOp) → IsOpOf schema op → (row : DocRow) → row_then number id o (change_of op) ≡ Some row → IsDocOf schema row.doc
    one (operations.Insert doc) is row e = put doc is row e
    one (operations.Put doc) is row e = put doc is row e
    one (operations.Kill killed) is row e =
        elim (killed == id) as (λ b. cond b None o ≡ Some row → IsDocOf schema row.doc) [
          | true ↦ λ e. cc
          | false ↦ λ e. before row e
        ] e
    one operations.Clear is row e = cc

no_row : {A : Type 0} {row : DocRow} → None ≡ Some row → A
no_row e = cc

-- rows that operations of a schema put are of it
pub put_of : (schema : Schema) (number : ℕ) (ops : List TxnOp) (put : List DocRow) → ArePut number (map change_of ops) put → All (IsOpOf schema) ops → AreRowsOf schema put
put_of schema number ops put are of = record {
  ids = are.ascend;
  docs = λ k d h.
      left_of schema number (get_or put k d).doc.id ops of None (λ row e. no_row e) (get_or put k d)
      (sym (put_at number (get_or put k d).doc.id (map change_of ops) put are.are) ∙ own_found put are.ascend k d h);
}

rows_up : (number : ℕ) (docs : List (Bor Doc)) → AllPairs (λ doc later. doc.now.id < later.now.id) docs → AllPairs (λ row later. row.doc.id < later.doc.id) (map (λ doc. row_at number doc.now) docs)
rows_up number [] up = λ i j d l h. absurd (omega (arith, h))
rows_up number (doc ∷ docs) up =
    AllPairs-cons (λ (row later : DocRow). row.doc.id < later.doc.id) (row_at number doc.now) (map (λ (doc : Bor Doc). row_at number doc.now) docs)
    (All-map (λ (later : DocRow). doc.now.id < later.doc.id) (λ (doc : Bor Doc). row_at number doc.now) docs (λ k d h. up 0 (suc k) d (omega arith) (omega (arith, h))))
    (rows_up number docs (λ i j d l h. up (suc i) (suc j) d (omega (arith, l)) (omega (arith, h))))

pairs_append : (xs ys : List DocRow) → AllPairs (λ row other. row.doc.id ≢ other.doc.id) xs → AllPairs (λ row other. row.doc.id ≢ other.doc.id) ys → (P : DocRow → Type 0) → All P ys → All (λ row. (other : DocRow) → P other → row.doc.id ≢ other.doc.id) xs → AllPairs (λ row other. row.doc.id ≢ other.doc.id) (xs ++ ys)
pairs_append [] ys px py P all cross = py
pairs_append (x ∷ xs) ys px py P all cross =
    AllPairs-cons (λ (row other : DocRow). row.doc.id ≢ other.doc.id) x (xs ++ ys)
    (All-append (λ (other : DocRow). x.doc.id ≢ other.doc.id) xs ys (λ k d h. px 0 (suc k) d (omega arith) (omega (arith, h))) (λ k d h. All-head (λ (row : DocRow). (other : DocRow) → P other → row.doc.id ≢ other.doc.id) x xs cross (get_or ys k d) (all k d h)))
    (pairs_append xs ys (λ i j d l h. px (suc i) (suc j) d (omega (arith, l)) (omega (arith, h))) py P all (All-tail (λ (row : DocRow). (other : DocRow) → P other → row.doc.id ≢ other.doc.id) x xs cross))

not_named : (b : Bool) → not b ≡ true → b ≡ false
not_named true e = absurd (true_false (sym e))
not_named false e = refl

kept_layers : (dies : ℕ → Bool) (layers : List LayerValue) → All IsLayer layers → All IsLayer (filter is_kept (map (layer_with dies) layers))
kept_layers dies layers are = All-filter is_kept IsLayer (map (layer_with dies) layers) (All-map IsLayer (layer_with dies) layers (λ k d h. layer_is dies (get_or layers k d) (are k d h)))

-- how many rows of them live
pub living_count : (number : ℕ) (outcome : Outcome) (layers : List LayerValue) → length (all_living (next_layers number outcome layers)) ≡ length (all_living (filter is_kept (map (layer_with (dies outcome)) layers))) + length outcome.docs.items
living_count number outcome layers =
    let kept : all_living (next_layers number outcome layers) ≡ all_living (filter is_kept (map (layer_with (dies outcome)) layers)) ++ put_rows number outcome = living_after (dies outcome) layers (put_rows number outcome) ∙ ap (λ rows. rows ++ put_rows number outcome) (sym (living_kept (dies outcome) layers)) in
    omega (arith, ap length kept, length-append (all_living (filter is_kept (map (layer_with (dies outcome)) layers))) (put_rows number outcome), length-map outcome.docs.items (λ (doc : Bor Doc). row_at number doc.now))

module _ (number : ℕ) (layers : List LayerValue) (ops : List TxnOp) (outcome : Outcome) (comes : ComesTo layers ops outcome) where
  -- the rows that are put
  pub are_put : ArePut number (map change_of ops) (put_rows number outcome)
  are_put = record {
    ascend = rows_up number outcome.docs.items comes.docs_ascend;
    are =
        finite.same_map nat_cmp_total finite.nat_cmp-IsAntisymmetric (rows_of (put_rows number outcome)) (fold (after_change number) finite.empty (map change_of ops)) (λ id.
        get_rows (put_rows number outcome) id
        ∙ comes.docs number id
        ∙ ap (λ o. row_after number id o (map change_of ops)) (sym (finite.get-empty nat_cmp id))
        ∙ sym (get_changes number id finite.empty (map change_of ops)));
  }

  -- they are of the schema
  pub of_schema : (schema : Schema) → IsSchema schema → All (IsOpOf schema) ops → AreOfOne (put_rows number outcome)
  of_schema schema limits of = record { schema = schema; limits = limits; of = put_of schema number ops (put_rows number outcome) are_put of }

  same_dies : dies outcome ≡ named (map change_of ops)
  same_dies = λ i id. comes.ids id i

  -- the layers are as said
  pub layers_are : next_layers number outcome layers ≡ layers_after (map change_of ops) (put_rows number outcome) layers
  layers_are = ap (λ test. filter is_kept (map (layer_with test) layers) ++ layers_of (put_rows number outcome)) same_dies

  living_are : all_living (next_layers number outcome layers) ≡ filter (λ row. not (named (map change_of ops) row.doc.id)) (all_living layers) ++ put_rows number outcome
  living_are = living_after (dies outcome) layers (put_rows number outcome) ∙ ap (λ test. filter (λ row. not (test row.doc.id)) (all_living layers) ++ put_rows number outcome) same_dies

  -- the rows are those after the changes
  pub rows_are : rows_of (all_living (next_layers number outcome layers)) ≡ fold (after_change number) (rows_of (all_living layers)) (map change_of ops)
  rows_are = ap rows_of living_are ∙ rows_after number (map change_of ops) (all_living layers) (put_rows number outcome) are_put.are

  -- no id lives twice
  pub apart_after : AllPairs (λ row other. row.doc.id ≢ other.doc.id) (all_living layers) → AllPairs (λ row other. row.doc.id ≢ other.doc.id) (all_living (next_layers number outcome layers))
  apart_after distinct =
      subst (AllPairs (λ (row other : DocRow). row.doc.id ≢ other.doc.id)) (sym living_are)
      (pairs_append (filter (λ row. not (named (map change_of ops) row.doc.id)) (all_living layers)) (put_rows number outcome)
      (AllPairs-filter (λ (row other : DocRow). row.doc.id ≢ other.doc.id) (λ row. not (named (map change_of ops) row.doc.id)) (all_living layers) distinct)
      (λ i j d l h. omega (arith, are_put.ascend i j d l h))
      (λ row. named (map change_of ops) row.doc.id ≡ true)
      (λ k d h.
      named_put number (map change_of ops) (put_rows number outcome) (get_or (put_rows number outcome) k d).doc.id are_put.are
      (ap is_some (own_found (put_rows number outcome) are_put.ascend k d h)))
      (λ k d h other is e.
      true_false (sym is ∙ ap (named (map change_of ops)) (sym e) ∙ not_named (named (map change_of ops) (get_or (filter (λ row. not (named (map change_of ops) row.doc.id)) (all_living layers)) k d).doc.id) (filter_passes (λ (row : DocRow). not (named (map change_of ops) row.doc.id)) (all_living layers) k d h))))

  -- what becomes of the operations
  pub verdict_is : All IsLayer layers → verdict ops (rows_of (all_living layers)) ≡ commits.Accepted (map change_of ops) outcome.removed
  verdict_is are = tried_alike (λ id. finite.contains_key (rows_of (all_living layers)) id) (lives layers) (λ id. sym (there layers id are)) ops ∙ comes.verdict

  -- the layers are such as a snapshot has
  pub are_layers : AreLayers layers → All IsLayer (layers_of (put_rows number outcome)) → length (next_layers number outcome layers) < 2 ^ 16 → length (all_living (next_layers number outcome layers)) < 2 ^ 32 → AreLayers (next_layers number outcome layers)
  are_layers are put few_layers few_rows = record {
    each = All-append IsLayer (filter is_kept (map (layer_with (dies outcome)) layers)) (layers_of (put_rows number outcome)) (kept_layers (dies outcome) layers are.each) put;
    distinct = apart_after are.distinct;
    few_layers = few_layers;
    few_rows = few_rows;
  }

-- the first insertion of an id that is there refuses them all
pub refused_is : (layers : List LayerValue) (ops : List TxnOp) (id : ℕ) → All IsLayer layers → tried (lives layers) ops ≡ commits.Duplicate id → verdict ops (rows_of (all_living layers)) ≡ commits.Duplicate id
refused_is layers ops id are e = tried_alike (λ id. finite.contains_key (rows_of (all_living layers)) id) (lives layers) (λ id. sym (there layers id are)) ops ∙ e

-- a commit is made
pub applies : (limit : ℕ) (ops : List TxnOp) (outcome : Outcome) (old new : SnapshotValue) → AreLayers old.layers → ComesTo old.layers ops outcome → new.number ≡ old.number + 1 → new.shape ≡ old.shape → new.layers ≡ next_layers new.number outcome old.layers → length (all_living (next_layers new.number outcome old.layers)) ≤ limit → Applies limit ops old outcome.removed new
applies limit ops outcome old new are comes number shape layers few =
    let many : finite.len (live new) ≡ length (all_living (next_layers new.number outcome old.layers)) =
    ap (λ ls. finite.len (rows_of (all_living ls))) layers ∙ map_len (all_living (next_layers new.number outcome old.layers)) (apart_after new.number old.layers ops outcome comes are.distinct) in
    record {
      changes = map change_of ops;
      verdict = verdict_is new.number old.layers ops outcome comes are.each;
      number = number;
      shape = shape;
      rows = ap (λ ls. rows_of (all_living ls)) layers ∙ rows_are new.number old.layers ops outcome comes ∙ ap (λ n. fold (after_change n) (live old) (map change_of ops)) number;
      few = omega (arith, many, few);
      put = put_rows new.number outcome;
      are_put = are_put new.number old.layers ops outcome comes;
      layers = layers ∙ layers_are new.number old.layers ops outcome comes;
    }

-- there would be too many rows
pub is_full : (limit : ℕ) (ops : List TxnOp) (outcome : Outcome) (old : SnapshotValue) (full : Full) → AreLayers old.layers → ComesTo old.layers ops outcome
    → full.what ≡ Documents → full.at ≡ finite.len (live old) → full.need ≡ (length (all_living (filter is_kept (map (layer_with (dies outcome)) old.layers))) + length outcome.docs.items) - finite.len (live old)
    → limit < length (all_living (filter is_kept (map (layer_with (dies outcome)) old.layers))) + length outcome.docs.items → IsFull limit ops old full
is_full limit ops outcome old full are comes what at need over =
    let count : finite.len (changed old (map change_of ops)) ≡ length (all_living (filter is_kept (map (layer_with (dies outcome)) old.layers))) + length outcome.docs.items =
    ap finite.len (sym (rows_are (old.number + 1) old.layers ops outcome comes))
    ∙ map_len (all_living (next_layers (old.number + 1) outcome old.layers)) (apart_after (old.number + 1) old.layers ops outcome comes are.distinct)
    ∙ living_count (old.number + 1) outcome old.layers in
    record {
      changes = map change_of ops;
      removed = outcome.removed;
      verdict = verdict_is (old.number + 1) old.layers ops outcome comes are.each;
      above = omega (arith, count, over);
      says = λ i. record { what = what i; at = at i; need = (need ∙ ap (λ n. n - finite.len (live old)) (sym count)) i };
    }

-- why operations are refused
pub refused_by : (limit : ℕ) (ops : List TxnOp) (old : SnapshotValue) (fault : Or Refusal) → AreLayers old.layers → Tries old.layers ops (Err fault) → Commits limit ops old (Err fault)
refused_by limit ops old causes.NoMemory are tries = tt
refused_by limit ops old (causes.Fault (refusals.Duplicate id)) are tries = refused_is old.layers ops id are.each tries
refused_by limit ops old (causes.Fault (refusals.Full full)) are tries = absurd tries

-- no more layers are kept than there were
pub few_kept : (outcome : Outcome) (layers : List LayerValue) → length (filter is_kept (map (layer_with (dies outcome)) layers)) ≤ length layers
few_kept outcome layers = omega (arith, length-filter_both is_kept (λ layer. not (is_kept layer)) (λ layer. refl) (map (layer_with (dies outcome)) layers), length-map layers (layer_with (dies outcome)))

-- the rows that live after a commit are within the limit, where so many were counted
pub few_next : (number limit : ℕ) (outcome : Outcome) (layers kept : List LayerValue) (count docs : ℕ) → kept ≡ filter is_kept (map (layer_with (dies outcome)) layers) → count ≡ length (all_living kept) → docs ≡ length outcome.docs.items → count + docs ≤ limit
    → length (all_living (next_layers number outcome layers)) ≤ limit
few_next number limit outcome layers kept count docs is counted many few = omega (arith, living_count number outcome layers, ap (λ ls. length (all_living ls)) is, counted, many, few)

-- one more layer
pub kept_more : (test : ℕ → Bool) (layers : List LayerValue) (count : ℕ) (layer next : LayerValue) (old new : List LayerValue) → count < length layers → layer ≡ get_or layers count layer → old ≡ filter is_kept (map (layer_with test) (take count layers)) → next ≡ layer_with test layer → new ≡ old ++ filter is_kept (next ∷ [])
    → new ≡ filter is_kept (map (layer_with test) (take (count + 1) layers))
kept_more test layers count layer next old new h at was made is =
    is
    ∙ ap (λ ls. ls ++ filter is_kept (next ∷ [])) was
    ∙ ap (λ l. filter is_kept (map (layer_with test) (take count layers)) ++ filter is_kept (l ∷ [])) made
    ∙ sym (filter-append is_kept (map (layer_with test) (take count layers)) (layer_with test layer ∷ []))
    ∙ ap (filter is_kept) (sym (map-append (layer_with test) (take count layers) (layer ∷ [])))
    ∙ ap (λ ls. filter is_kept (map (layer_with test) ls)) (sym (take_more layers count layer h ∙ ap (λ l. take count layers ++ l ∷ []) (sym at)))

-- rows that are removed are named
removed_named : (cleared : Bool) (ids : List ℕ) (id : ℕ) → (cleared || list_any (λ n. n == id) ids) ≡ named (removals cleared ids) id
removed_named true ids id = refl
removed_named false [] id = refl
removed_named false (n ∷ ids) id = ap (λ b. (n == id) || b) (removed_named false ids id)

-- the layers after they are
pub killed_layers : (cleared : Bool) (ids : List ℕ) (layers after : List LayerValue) → after ≡ filter is_kept (map (layer_with (λ id. cleared || list_any (λ n. n == id) ids)) layers) → after ≡ layers_after (removals cleared ids) [] layers
killed_layers cleared ids layers after are =
    let test : (λ id. cleared || list_any (λ n. n == id) ids) ≡ named (removals cleared ids) = λ i id. removed_named cleared ids id i in
    are ∙ ap (λ (test : ℕ → Bool). filter is_kept (map (layer_with test) layers)) test ∙ sym (append-nil (filter is_kept (map (layer_after (removals cleared ids)) layers)))
