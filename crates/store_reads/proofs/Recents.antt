-- What is recent after changes, and over the layers before it.
use Rattle.std.proofs.Common.{◌≡◌, ℕ, List, [], ◌∷◌, Bool, true, false, cond, ◌||◌, Option, Some, None, is_some, refl, sym, ◌∙◌, ap, map}
use Rattle.std.specs.BTreeMap.{get}
use Rattle.std.specs.FinMap as finite
use Rattle.std.specs.Option.{option_or}
use Rattle.std.specs.Ordering.{nat_cmp}
use Rattle.doc_types.specs.declared.documents.DocRow.{DocRow}
use Rattle.doc_types.specs.declared.transactions.TxnOp.{TxnOp}
use Rattle.doc_types.specs.Commits.{Change, change_of}
use Rattle.doc_types.specs.Snapshots.{SnapshotValue, live}
use Rattle.layer_commit.specs.Commits.{named, names}
use Rattle.layer_commit.specs.steps.Trying.{row_after}
use Rattle.layer_commit.proofs.RowMaps.{named_alike, unnamed}
use Rattle.store_reads.specs.declared.recent.Recent.{Recent}
use Rattle.store_reads.specs.steps.Recents.{Changes, Owns, is_gone, row_from}

-- the row of this id, over the layers
abbrev pub row_over : Recent → SnapshotValue → ℕ → Option DocRow
row_over recent laid id = row_from recent (finite.get (live laid) id) id

or_false : (b : Bool) → (b || false) ≡ b
or_false true = refl
or_false false = refl

or_assoc : (a b c : Bool) → ((a || b) || c) ≡ (a || (b || c))
or_assoc true b c = refl
or_assoc false b c = refl

-- Of a transaction's operations these are left, and what they change is what all of them change.
pub record AreLeft (number : ℕ) (all rest : List TxnOp) (old now : Recent) : Type 0 where
  pub rows : (id : ℕ) → row_after number id (get nat_cmp now.rows id) (map change_of rest) ≡ row_after number id (get nat_cmp old.rows id) (map change_of all)
  pub gone : (id : ℕ) → (is_gone now id || named (map change_of rest) id) ≡ (is_gone old id || named (map change_of all) id)

pub one_less : (number : ℕ) (all rest : List TxnOp) (op : TxnOp) (old now new : Recent) → AreLeft number all (op ∷ rest) old now → Changes number (change_of op ∷ []) now new → AreLeft number all rest old new
one_less number all rest op old now new left changes = record {
  rows = λ id. ap (λ (o : Option DocRow). row_after number id o (map change_of rest)) (changes.rows id) ∙ left.rows id;
  gone = λ id.
      ap (λ b. b || named (map change_of rest) id) (changes.gone id ∙ ap (λ b. is_gone now id || b) (or_false (names (change_of op) id)))
      ∙ or_assoc (is_gone now id) (names (change_of op) id) (named (map change_of rest) id)
      ∙ left.gone id;
}

pub none_left : (number : ℕ) (all : List TxnOp) (old now : Recent) → AreLeft number all [] old now → Changes number (map change_of all) old now
none_left number all old now left = record {
  rows = left.rows;
  gone = λ id. sym (or_false (is_gone now id)) ∙ left.gone id;
}

-- the row of an id over the layers, after changes
over_after : (number id : ℕ) (changes : List Change) (gone : Bool) (own other : Option DocRow) → option_or (row_after number id own changes) (cond (gone || named changes id) None other) ≡ row_after number id (option_or own (cond gone None other)) changes
over_after number id changes gone own other =
    elim (named changes id) as (λ b. named changes id ≡ b → option_or (row_after number id own changes) (cond (gone || b) None other) ≡ row_after number id (option_or own (cond gone None other)) changes) [
      | true ↦ λ e.
          ap (λ b. option_or (row_after number id own changes) (cond b None other)) (or_true gone)
          ∙ or_none (row_after number id own changes)
          ∙ named_alike number id changes e own (option_or own (cond gone None other))
      | false ↦ λ e.
          ap (λ b. option_or (row_after number id own changes) (cond b None other)) (or_false gone)
          ∙ ap (λ o. option_or o (cond gone None other)) (unnamed number id own changes e)
          ∙ sym (unnamed number id (option_or own (cond gone None other)) changes e)
    ] refl
  where
    or_true : (b : Bool) → (b || true) ≡ true
    or_true true = refl
    or_true false = refl

    or_none : (o : Option DocRow) → option_or o None ≡ o
    or_none None = refl
    or_none (Some row) = refl

pub row_changed : (number id : ℕ) (changes : List Change) (old new : Recent) (before : Option DocRow) → Changes number changes old new → row_from new before id ≡ row_after number id (row_from old before id) changes
row_changed number id changes old new before made =
    ap (λ b. option_or (get nat_cmp new.rows id) (cond b None before)) (made.gone id)
    ∙ ap (λ o. option_or o (cond (is_gone old id || named changes id) None before)) (made.rows id)
    ∙ over_after number id changes (is_gone old id) (get nat_cmp old.rows id) before

-- rows that were put stay named
pub owns_after : (number : ℕ) (changes : List Change) (old new : Recent) → Changes number changes old new → Owns old → Owns new
owns_after number changes old new made owns id some =
    elim (named changes id) as (λ b. named changes id ≡ b → is_gone new id ≡ true) [
      | true ↦ λ e. made.gone id ∙ ap (λ b. is_gone old id || b) e ∙ or_true (is_gone old id)
      | false ↦ λ e.
          let own : is_some (get nat_cmp old.rows id) ≡ true = ap is_some (sym (unnamed number id (get nat_cmp old.rows id) changes e) ∙ sym (made.rows id)) ∙ some in
          made.gone id ∙ ap (λ b. b || named changes id) (owns id own)
    ] refl
  where
    or_true : (b : Bool) → (b || true) ≡ true
    or_true true = refl
    or_true false = refl
