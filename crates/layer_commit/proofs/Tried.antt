-- The operations of a transaction, tried one by one.
use Rattle.std.proofs.Common.{◌≡◌, ℕ, ◌+◌, ◌<◌, ◌≤◌, suc, List, [], ◌∷◌, ◌++◌, Bool, true, false, cond, ◌==◌, ◌||◌, ◌&&◌, not, Option, Some, None, is_some, map, length, take, drop, get_or, refl, sym, ap, subst, ◌∙◌, arith, All, AllPairs, Bor, append-nil, append_assoc}
use Rattle.std.specs.BTreeMap.{IsOrdered, get}
use Rattle.std.specs.BTreeSet.{BTreeSet, contains}
use Rattle.std.specs.List.{find, list_any}
use Rattle.std.specs.List.Sorted.{IsStrictlySortedBy}
use Rattle.std.specs.Map.{keys_of, lookup, values_of}
use Rattle.std.specs.Option.{option_map, option_map_or}
use Rattle.std.specs.Ordering.{is_eq, nat_cmp}
use Rattle.std.proofs.lemmas.Bool.Decides.{nat_tests}
use Rattle.std.proofs.Math.ListN.{drop_of_length-le}
use Rattle.std.proofs.lemmas.Cmp.{nat_cmp_total}
use Rattle.std.proofs.lemmas.List.{drop_more, map-append, take_all, take_more}
use Rattle.std.proofs.lemmas.List.Elements.{All-cons, All-head, All-tail}
use Rattle.std.proofs.lemmas.List.Folds.{list_any-append}
use Rattle.std.proofs.lemmas.List.Kept.{AllPairs-cons, AllPairs-from_increasing}
use Rattle.std.proofs.lemmas.List.Sums.{fold-append}
use Rattle.std.proofs.lemmas.Map.Keys.{IsStrictlyIncreasing-from_sorted}
use Rattle.std.proofs.lemmas.Map.Views.{All-found}
use Rattle.doc_types.specs.declared.documents.Doc.{Doc}
use Rattle.doc_types.specs.declared.documents.DocRow.{DocRow}
use Rattle.doc_types.specs.declared.transactions.TxnOp.{TxnOp}
use Rattle.doc_types.specs.declared.transactions.TxnOp.TheVariants as operations
use Rattle.doc_types.specs.Commits.{Change, Put, Kill, Clear, Verdict, Accepted, Duplicate, change_of, there_after, tried, with_change}
use Rattle.doc_types.specs.Snapshots.{LayerValue}
use Rattle.doc_types.proofs.Changes.{tried_alike}
use Rattle.layer_commit.specs.declared.trial.Outcome.{Outcome}
use Rattle.layer_commit.specs.declared.trial.Trial.{Trial}
use Rattle.layer_commit.specs.Commits.{names, named, row_at}
use Rattle.layer_commit.specs.steps.Finding.{lives}
use Rattle.layer_commit.specs.steps.Trying.{Clears, ComesTo, GoesOn, HasTried, Kills, Puts, is_there, removes, row_after, row_then}
use Rattle.layer_commit.proofs.RowMaps.{equal, flipped}

-- the changes of operations that were tried, before those of the rest
abbrev pub with_changes : List Change → ℕ → Verdict → Verdict
with_changes changes removed (Duplicate id) = Duplicate id
with_changes changes removed (Accepted later more) = Accepted (changes ++ later) (removed + more)

pub with_none : (rest : Verdict) → with_changes [] 0 rest ≡ rest
with_none (Duplicate id) = refl
with_none (Accepted later more) = (let none : 0 + more ≡ more = omega arith in ap (Accepted later) none)

pub with_more : (changes : List Change) (removed : ℕ) (change : Change) (count : ℕ) (rest : Verdict) → with_changes changes removed (with_change change count rest) ≡ with_changes (changes ++ change ∷ []) (removed + count) rest
with_more changes removed change count (Duplicate id) = refl
with_more changes removed change count (Accepted later more) =
    ap (λ all. Accepted all (removed + (count + more))) (sym (append_assoc changes (change ∷ []) later)) ∙ ap (Accepted ((changes ++ change ∷ []) ++ later)) (omega arith)

-- which ids are there after a put, a kill and a clearing
put_there : (b c n l : Bool) (o : Option (Bor Doc)) (doc : Bor Doc) → (is_some (cond b (Some doc) o) || (not (c || (b || n)) && l)) ≡ (b || (is_some o || (not (c || n) && l)))
put_there true c n l o doc = refl
put_there false c n l o doc = refl

kill_there : (b c n l : Bool) (o : Option (Bor Doc)) → (is_some (cond b None o) || (not (c || (b || n)) && l)) ≡ (not b && (is_some o || (not (c || n) && l)))
kill_there true true n l o = refl
kill_there true false n l o = refl
kill_there false c n l o = refl

there_put : (layers : List LayerValue) (old new : Trial) (doc : Bor Doc) (id : ℕ) → Puts doc old new → is_there layers new id ≡ ((id == doc.now.id) || is_there layers old id)
there_put layers old new doc id puts =
    ap (λ o. is_some o || (not (new.cleared || contains nat_cmp new.ids id) && lives layers id)) (puts.docs id)
    ∙ ap (λ b. is_some (cond (doc.now.id == id) (Some doc) (get nat_cmp old.docs id)) || (not (new.cleared || b) && lives layers id)) (puts.ids id)
    ∙ ap (λ c. is_some (cond (doc.now.id == id) (Some doc) (get nat_cmp old.docs id)) || (not (c || ((doc.now.id == id) || contains nat_cmp old.ids id)) && lives layers id)) puts.cleared
    ∙ put_there (doc.now.id == id) old.cleared (contains nat_cmp old.ids id) (lives layers id) (get nat_cmp old.docs id) doc
    ∙ ap (λ b. b || is_there layers old id) (flipped doc.now.id id)

there_kill : (layers : List LayerValue) (old new : Trial) (killed id : ℕ) → Kills killed old new → is_there layers new id ≡ (not (id == killed) && is_there layers old id)
there_kill layers old new killed id kills =
    ap (λ o. is_some o || (not (new.cleared || contains nat_cmp new.ids id) && lives layers id)) (kills.docs id)
    ∙ ap (λ b. is_some (cond (killed == id) None (get nat_cmp old.docs id)) || (not (new.cleared || b) && lives layers id)) (kills.ids id)
    ∙ ap (λ c. is_some (cond (killed == id) None (get nat_cmp old.docs id)) || (not (c || ((killed == id) || contains nat_cmp old.ids id)) && lives layers id)) kills.cleared
    ∙ kill_there (killed == id) old.cleared (contains nat_cmp old.ids id) (lives layers id) (get nat_cmp old.docs id)
    ∙ ap (λ b. not b && is_there layers old id) (flipped killed id)

there_clear : (layers : List LayerValue) (old new : Trial) (id : ℕ) → Clears old new → is_there layers new id ≡ false
there_clear layers old new id clears =
    ap (λ o. is_some o || (not (new.cleared || contains nat_cmp new.ids id) && lives layers id)) (clears.docs id)
    ∙ ap (λ c. not (c || contains nat_cmp new.ids id) && lives layers id) clears.cleared

-- the ids that are named and the rows that are put by one change more
named_more : (changes : List Change) (change : Change) (id : ℕ) → named (changes ++ change ∷ []) id ≡ (names change id || named changes id)
named_more changes change id = list_any-append (λ change. names change id) changes (change ∷ []) ∙ turned (named changes id) (names change id)
  where
    turned : (a b : Bool) → (a || (b || false)) ≡ (b || a)
    turned true true = refl
    turned true false = refl
    turned false true = refl
    turned false false = refl

row_more : (number id : ℕ) (changes : List Change) (change : Change) → row_after number id None (changes ++ change ∷ []) ≡ row_then number id (row_after number id None changes) change
row_more number id changes change = fold-append (row_then number id) None changes (change ∷ [])

over : (a b c : Bool) → (a || (b || c)) ≡ (b || (a || c))
over true true c = refl
over true false c = refl
over false b c = refl

row_of : (number : ℕ) → Option (Bor Doc) → Option DocRow
row_of number o = option_map (λ doc. row_at number doc.now) o

tried_put : (changes : List Change) (old new : Trial) (doc : Bor Doc) → Puts doc old new → HasTried changes old → HasTried (changes ++ Put doc.now ∷ []) new
tried_put changes old new doc puts has = record {
  ids = λ id.
      ap (λ c. c || contains nat_cmp new.ids id) puts.cleared
      ∙ ap (λ b. old.cleared || b) (puts.ids id)
      ∙ over old.cleared (doc.now.id == id) (contains nat_cmp old.ids id)
      ∙ ap (λ b. (doc.now.id == id) || b) (has.ids id)
      ∙ sym (named_more changes (Put doc.now) id);
  docs = λ number id.
      ap (option_map (λ doc. row_at number doc.now)) (puts.docs id)
      ∙ elim (doc.now.id == id) as (λ b. option_map (λ doc. row_at number doc.now) (cond b (Some doc) (get nat_cmp old.docs id)) ≡ cond b (Some (row_at number doc.now)) (option_map (λ doc. row_at number doc.now) (get nat_cmp old.docs id))) [ true ↦ refl | false ↦ refl ]
      ∙ ap (λ o. cond (doc.now.id == id) (Some (row_at number doc.now)) o) (has.docs number id)
      ∙ sym (row_more number id changes (Put doc.now));
  own = λ id other e. own_put old new doc id other puts has.own (sym (puts.docs id) ∙ e);
}
  where
    own_put : (old new : Trial) (doc : Bor Doc) (id : ℕ) (other : Bor Doc) → Puts doc old new → ((id : ℕ) (doc : Bor Doc) → get nat_cmp old.docs id ≡ Some doc → doc.now.id ≡ id) → cond (doc.now.id == id) (Some doc) (get nat_cmp old.docs id) ≡ Some other → other.now.id ≡ id
    own_put old new doc id other puts own e =
        elim (doc.now.id == id) as (λ b. (doc.now.id == id) ≡ b → cond b (Some doc) (get nat_cmp old.docs id) ≡ Some other → other.now.id ≡ id) [
          | true ↦ λ at same_doc. sym (ap (λ (o : Option (Bor Doc)). option_map_or (λ doc. doc.now.id) o id) same_doc) ∙ equal doc.now.id id at
          | false ↦ λ at found. own id other found
        ] refl e

tried_kill : (changes : List Change) (old new : Trial) (killed : ℕ) → Kills killed old new → HasTried changes old → HasTried (changes ++ Kill killed ∷ []) new
tried_kill changes old new killed kills has = record {
  ids = λ id.
      ap (λ c. c || contains nat_cmp new.ids id) kills.cleared
      ∙ ap (λ b. old.cleared || b) (kills.ids id)
      ∙ over old.cleared (killed == id) (contains nat_cmp old.ids id)
      ∙ ap (λ b. (killed == id) || b) (has.ids id)
      ∙ sym (named_more changes (Kill killed) id);
  docs = λ number id.
      ap (option_map (λ doc. row_at number doc.now)) (kills.docs id)
      ∙ elim (killed == id) as (λ b. option_map (λ doc. row_at number doc.now) (cond b None (get nat_cmp old.docs id)) ≡ cond b None (option_map (λ doc. row_at number doc.now) (get nat_cmp old.docs id))) [ true ↦ refl | false ↦ refl ]
      ∙ ap (λ o. cond (killed == id) None o) (has.docs number id)
      ∙ sym (row_more number id changes (Kill killed));
  own = λ id other e.
      elim (killed == id) as (λ b. cond b None (get nat_cmp old.docs id) ≡ Some other → other.now.id ≡ id) [
        | true ↦ λ none. cc
        | false ↦ λ found. has.own id other found
      ] (sym (kills.docs id) ∙ e);
}

tried_clear : (changes : List Change) (old new : Trial) → Clears old new → HasTried (changes ++ Clear ∷ []) new
tried_clear changes old new clears = record {
  ids = λ id. ap (λ c. c || contains nat_cmp new.ids id) clears.cleared ∙ sym (named_more changes Clear id);
  docs = λ number id. ap (option_map (λ doc. row_at number doc.now)) (clears.docs id) ∙ sym (row_more number id changes Clear);
  own = λ id other e. none (sym (clears.docs id) ∙ e);
}
  where
    none : {A : Type 0} {other : Bor Doc} → None ≡ Some other → A
    none e = cc

no_more : (n m : ℕ) → m ≡ n → m ≡ n + 0
no_more n m e = omega (arith, e)

-- each operation that isn't refused goes on
pub put_goes_on : (layers : List LayerValue) (old new : Trial) (doc : Bor Doc) → Puts doc old new → GoesOn layers (operations.Put doc.now) old new
put_goes_on layers old new doc puts = record {
  accepted = λ rest. refl;
  there = λ id. there_put layers old new doc id puts;
  more = λ changes has. tried_put changes old new doc puts has;
  removed = no_more old.removed new.removed puts.removed;
}

pub insert_goes_on : (layers : List LayerValue) (old new : Trial) (doc : Bor Doc) → is_there layers old doc.now.id ≡ false → Puts doc old new → GoesOn layers (operations.Insert doc.now) old new
insert_goes_on layers old new doc absent puts = record {
  accepted = λ rest. ap (λ b. cond b (Duplicate doc.now.id) (with_change (Put doc.now) 0 (tried (there_after (is_there layers old) (operations.Insert doc.now)) rest))) absent;
  there = λ id. there_put layers old new doc id puts;
  more = λ changes has. tried_put changes old new doc puts has;
  removed = no_more old.removed new.removed puts.removed;
}

pub kill_goes_on : (layers : List LayerValue) (old mid new : Trial) (killed : ℕ) → mid ≡ record old { removed = old.removed + removes (is_there layers old) (operations.Kill killed) } → Kills killed mid new → GoesOn layers (operations.Kill killed) old new
kill_goes_on layers old mid new killed counted kills =
    let kills_old : Kills killed (record old { removed = old.removed + removes (is_there layers old) (operations.Kill killed) }) new = subst (λ mid. Kills killed mid new) counted kills in
    let plain : Kills killed old (record new { removed = old.removed }) = record { cleared = kills_old.cleared; ids = kills_old.ids; docs = kills_old.docs; removed = refl } in
    record {
      accepted = λ rest. refl;
      there = λ id. there_kill layers old (record new { removed = old.removed }) killed id plain;
      more = λ changes has. (let tried_so : HasTried (changes ++ Kill killed ∷ []) (record new { removed = old.removed }) = tried_kill changes old (record new { removed = old.removed }) killed plain has in record { ids = tried_so.ids; docs = tried_so.docs; own = tried_so.own });
      removed = kills_old.removed;
    }

pub clear_goes_on : (layers : List LayerValue) (old new : Trial) → Clears old new → GoesOn layers operations.Clear old new
clear_goes_on layers old new clears = record {
  accepted = λ rest. refl;
  there = λ id. there_clear layers old new id clears;
  more = λ changes has. tried_clear changes old new clears;
  removed = no_more old.removed new.removed clears.removed;
}

-- What is known after so many operations were tried.
pub record IsTried (layers : List LayerValue) (ops : List TxnOp) (count : ℕ) (trial : Trial) : Type 0 where
  pub verdict : tried (lives layers) ops ≡ with_changes (map change_of (take count ops)) trial.removed (tried (is_there layers trial) (drop count ops))
  pub has : HasTried (map change_of (take count ops)) trial
  pub few : trial.removed ≤ count

-- before the first
pub none_tried : (layers : List LayerValue) (ops : List TxnOp) (trial : Trial) → trial.cleared ≡ false → trial.removed ≡ 0 → ((id : ℕ) → contains nat_cmp trial.ids id ≡ false) → ((id : ℕ) → get nat_cmp trial.docs id ≡ None) → IsTried layers ops 0 trial
none_tried layers ops trial cleared removed ids docs =
    let there : (id : ℕ) → lives layers id ≡ is_there layers trial id = λ id. sym (ap (λ o. is_some o || (not (trial.cleared || contains nat_cmp trial.ids id) && lives layers id)) (docs id)
    ∙ ap (λ c. not (c || contains nat_cmp trial.ids id) && lives layers id) cleared
    ∙ ap (λ b. not b && lives layers id) (ids id)) in
    record {
      verdict = tried_alike (lives layers) (is_there layers trial) there ops ∙ sym (with_none (tried (is_there layers trial) ops)) ∙ ap (λ n. with_changes [] n (tried (is_there layers trial) ops)) (sym removed);
      has = record {
        ids = λ id. ap (λ c. c || contains nat_cmp trial.ids id) cleared ∙ ids id;
        docs = λ number id. ap (option_map (λ doc. row_at number doc.now)) (docs id);
        own = λ id doc e. absurd (no_doc (sym (docs id) ∙ e));
      };
      few = omega (arith, removed);
    }
  where
    no_doc : {doc : Bor Doc} → None ≡ Some doc → ⊥
    no_doc e = cc

removes_few : (there : ℕ → Bool) (op : TxnOp) → removes there op ≤ 1
removes_few there (operations.Insert doc) = omega arith
removes_few there (operations.Put doc) = omega arith
removes_few there (operations.Kill id) = elim (there id) as (λ b. cond b 1 0 ≤ 1) [ true ↦ omega arith | false ↦ omega arith ]
removes_few there operations.Clear = omega arith

changes_more : (ops : List TxnOp) (count : ℕ) (op : TxnOp) → count < length ops → op ≡ get_or ops count op → map change_of (take (count + 1) ops) ≡ map change_of (take count ops) ++ change_of op ∷ []
changes_more ops count op h at = ap (map change_of) (take_more ops count op h ∙ ap (λ o. take count ops ++ o ∷ []) (sym at)) ∙ map-append change_of (take count ops) (op ∷ [])

rest_is : (ops : List TxnOp) (count : ℕ) (op : TxnOp) → count < length ops → op ≡ get_or ops count op → drop count ops ≡ op ∷ drop (count + 1) ops
rest_is ops count op h at = drop_more ops count op h ∙ ap (λ o. o ∷ drop (count + 1) ops) (sym at)

-- one more
pub one_tried : (layers : List LayerValue) (ops : List TxnOp) (count : ℕ) (op : TxnOp) (old new : Trial) → count < length ops → op ≡ get_or ops count op → IsTried layers ops count old → GoesOn layers op old new → IsTried layers ops (count + 1) new
one_tried layers ops count op old new h at is goes = record {
  verdict =
      is.verdict
      ∙ ap (λ rest. with_changes (map change_of (take count ops)) old.removed (tried (is_there layers old) rest)) (rest_is ops count op h at)
      ∙ ap (with_changes (map change_of (take count ops)) old.removed) (goes.accepted (drop (count + 1) ops))
      ∙ with_more (map change_of (take count ops)) old.removed (change_of op) (removes (is_there layers old) op) (tried (there_after (is_there layers old) op) (drop (count + 1) ops))
      ∙ ap (λ n. with_changes (map change_of (take count ops) ++ change_of op ∷ []) n (tried (there_after (is_there layers old) op) (drop (count + 1) ops))) (sym goes.removed)
      ∙ ap (with_changes (map change_of (take count ops) ++ change_of op ∷ []) new.removed) (tried_alike (there_after (is_there layers old) op) (is_there layers new) (λ id. sym (goes.there id)) (drop (count + 1) ops))
      ∙ ap (λ changes. with_changes changes new.removed (tried (is_there layers new) (drop (count + 1) ops))) (sym (changes_more ops count op h at));
  has = subst (λ changes. HasTried changes new) (sym (changes_more ops count op h at)) (goes.more (map change_of (take count ops)) is.has);
  few = omega (arith, goes.removed, removes_few (is_there layers old) op, is.few);
}

-- one that is refused
pub refused_at : (layers : List LayerValue) (ops : List TxnOp) (count : ℕ) (op : TxnOp) (old : Trial) (id : ℕ) → count < length ops → op ≡ get_or ops count op → IsTried layers ops count old → ((rest : List TxnOp) → tried (is_there layers old) (op ∷ rest) ≡ Duplicate id) → tried (lives layers) ops ≡ Duplicate id
refused_at layers ops count op old id h at is refused =
    is.verdict
    ∙ ap (λ rest. with_changes (map change_of (take count ops)) old.removed (tried (is_there layers old) rest)) (rest_is ops count op h at)
    ∙ ap (with_changes (map change_of (take count ops)) old.removed) (refused (drop (count + 1) ops))

tied : (a b : ℕ) → (a == b) ≡ is_eq (nat_cmp b a)
tied a b = grind (arith, nat_tests)

-- ids of a set
set_has : (set : BTreeSet ℕ) (id : ℕ) → contains nat_cmp set id ≡ list_any (λ n. n == id) set.keys
set_has set id = (let same_test : (λ (k : ℕ). is_eq (nat_cmp id k)) ≡ (λ n. n == id) = λ i k. sym (tied k id) i in ap (λ test. list_any test set.keys) same_test)

keys_up : (keys : List ℕ) → IsStrictlySortedBy nat_cmp keys → AllPairs (λ id later. id < later) keys
keys_up keys sorted = AllPairs-from_increasing keys (IsStrictlyIncreasing-from_sorted keys sorted)

values_above : (n : ℕ) (es : List (ℕ × Bor Doc)) → All (λ e. e.1.now.id ≡ e.0) es → All (λ key. n < key) (keys_of es) → All (λ doc. n < doc.now.id) (values_of es)
values_above n [] own low = λ k d h. absurd (omega (arith, h))
values_above n (e ∷ es) own low =
    All-cons (λ (doc : Bor Doc). n < doc.now.id) e.1 (values_of es)
    (omega (arith, All-head (λ (e : ℕ × Bor Doc). e.1.now.id ≡ e.0) e es own, All-head (λ key. n < key) e.0 (keys_of es) low))
    (values_above n es (All-tail (λ (e : ℕ × Bor Doc). e.1.now.id ≡ e.0) e es own) (All-tail (λ key. n < key) e.0 (keys_of es) low))

values_up : (es : List (ℕ × Bor Doc)) → All (λ e. e.1.now.id ≡ e.0) es → AllPairs (λ id later. id < later) (keys_of es) → AllPairs (λ doc later. doc.now.id < later.now.id) (values_of es)
values_up [] own up = λ i j d l h. absurd (omega (arith, h))
values_up (e ∷ es) own up =
    let here : e.1.now.id ≡ e.0 = All-head (λ (e : ℕ × Bor Doc). e.1.now.id ≡ e.0) e es own in
    let rest = All-tail (λ (e : ℕ × Bor Doc). e.1.now.id ≡ e.0) e es own in
    AllPairs-cons (λ (doc later : Bor Doc). doc.now.id < later.now.id) e.1 (values_of es)
    (subst (λ n. All (λ (doc : Bor Doc). n < doc.now.id) (values_of es)) (sym here) (values_above e.0 es rest (λ k d h. up 0 (suc k) d (omega arith) (omega (arith, h)))))
    (values_up es rest (λ i j d l h. up (suc i) (suc j) d (omega (arith, l)) (omega (arith, h))))

values_found : (number id : ℕ) (es : List (ℕ × Bor Doc)) → All (λ e. e.1.now.id ≡ e.0) es → find (λ row. row.doc.id == id) (map (λ doc. row_at number doc.now) (values_of es)) ≡ option_map (λ doc. row_at number doc.now) (lookup (λ k. is_eq (nat_cmp id k)) es)
values_found number id [] own = refl
values_found number id (e ∷ es) own =
    let rest = values_found number id es (All-tail (λ (e : ℕ × Bor Doc). e.1.now.id ≡ e.0) e es own) in
    let tie : (e.1.now.id == id) ≡ is_eq (nat_cmp id e.0) = ap (λ n. n == id) (All-head (λ (e : ℕ × Bor Doc). e.1.now.id ≡ e.0) e es own) ∙ tied e.0 id in
    ap (λ b. cond b (Some (row_at number e.1.now)) (find (λ row. row.doc.id == id) (map (λ (doc : Bor Doc). row_at number doc.now) (values_of es)))) tie
    ∙ elim (is_eq (nat_cmp id e.0)) as (λ b. cond b (Some (row_at number e.1.now)) (find (λ row. row.doc.id == id) (map (λ (doc : Bor Doc). row_at number doc.now) (values_of es))) ≡ option_map (λ doc. row_at number doc.now) (cond b (Some e.1) (lookup (λ k. is_eq (nat_cmp id k)) es))) [ true ↦ refl | false ↦ rest ]

-- what all operations come to
pub all_tried : (layers : List LayerValue) (ops : List TxnOp) (count : ℕ) (trial : Trial) (outcome : Outcome) → length ops ≤ count → IsTried layers ops count trial → IsOrdered nat_cmp trial.docs → IsStrictlySortedBy nat_cmp trial.ids.keys
    → outcome.cleared ≡ trial.cleared → outcome.removed ≡ trial.removed → outcome.ids.items ≡ trial.ids.keys → outcome.docs.items ≡ values_of trial.docs.entries → ComesTo layers ops outcome
all_tried layers ops count trial outcome all is ordered sorted cleared removed ids docs =
    let changes : map change_of (take count ops) ≡ map change_of ops = ap (map change_of) (take_all count ops all) in
    let own : All (λ (e : ℕ × Bor Doc). e.1.now.id ≡ e.0) trial.docs.entries = λ k d h. is.has.own (get_or trial.docs.entries k d).0 (get_or trial.docs.entries k d).1 (All-found nat_cmp_total trial.docs ordered k d h) in
    record {
      verdict =
          is.verdict
          ∙ ap (λ rest. with_changes (map change_of (take count ops)) trial.removed (tried (is_there layers trial) rest)) (drop_of_length-le ops {i = count} all)
          ∙ ap (λ later. Accepted later (trial.removed + 0)) (append-nil (map change_of (take count ops)) ∙ changes)
          ∙ ap (Accepted (map change_of ops)) (omega (arith, removed));
      ascend = subst (AllPairs (λ id later. id < later)) (sym ids) (keys_up trial.ids.keys sorted);
      ids = λ id.
          ap (λ c. c || list_any (λ n. n == id) outcome.ids.items) cleared
          ∙ ap (λ keys. trial.cleared || list_any (λ n. n == id) keys) ids
          ∙ ap (λ b. trial.cleared || b) (sym (set_has trial.ids id))
          ∙ is.has.ids id
          ∙ ap (λ changes. named changes id) changes;
      docs_ascend = subst (AllPairs (λ (doc later : Bor Doc). doc.now.id < later.now.id)) (sym docs) (values_up trial.docs.entries own (keys_up (keys_of trial.docs.entries) ordered));
      docs = λ number id.
          ap (λ docs. find (λ row. row.doc.id == id) (map (λ (doc : Bor Doc). row_at number doc.now) docs)) docs
          ∙ values_found number id trial.docs.entries own
          ∙ is.has.docs number id
          ∙ ap (row_after number id None) changes;
    }

pub same_test : (a b : ℕ) → (a == b) ≡ is_eq (nat_cmp a b)
same_test a b = grind (arith, nat_tests)

-- a set with one more key
pub set_put : (old new : BTreeSet ℕ) (key : ℕ) → ((q : ℕ) → contains nat_cmp new q ≡ cond (is_eq (nat_cmp key q)) true (contains nat_cmp old q)) → (q : ℕ) → contains nat_cmp new q ≡ ((key == q) || contains nat_cmp old q)
set_put old new key updates q =
    updates q
    ∙ ap (λ b. cond b true (contains nat_cmp old q)) (sym (same_test key q))
    ∙ elim (key == q) as (λ b. cond b true (contains nat_cmp old q) ≡ (b || contains nat_cmp old q)) [ true ↦ refl | false ↦ refl ]

-- a map with another value, or none, at a key
pub map_put : {X : Type 0} (old new : ℕ → Option X) (key : ℕ) (value : Option X) → ((q : ℕ) → new q ≡ cond (is_eq (nat_cmp key q)) value (old q)) → (q : ℕ) → new q ≡ cond (key == q) value (old q)
map_put old new key value updates q = updates q ∙ ap (λ b. cond b value (old q)) (sym (same_test key q))
