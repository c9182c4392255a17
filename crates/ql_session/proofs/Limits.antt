-- Operations that nothing forbids: they are few, on the index of those that are pending.
use Rattle.std.proofs.Common.{◌≡◌, ℕ, ◌<◌, ◌≤◌, ◌^◌, List, [], ◌++◌, Bool, true, false, Option, None, Some, map, length, length-append, refl, sym, ap, subst, ◌∙◌, arith}
use Rattle.std.specs.Prelude.{All, ◌==◌, nat_le, slice_get}
use Rattle.std.proofs.lemmas.Bool.Decides.{nat_tests}
use Rattle.std.proofs.lemmas.List.{length-map}
use Rattle.std.proofs.lemmas.List.Elements.{All-append, All-cons, All-map, All-nil}
use Rattle.std.proofs.lemmas.Option.{none-some, same_Some}
use Rattle.doc_types.specs.declared.schema.Schema.{Schema}
use Rattle.doc_types.specs.declared.transactions.Txn.{Txn}
use Rattle.doc_types.specs.declared.transactions.TxnOp.{TxnOp}
use Rattle.doc_types.specs.declared.transactions.TxnOp.TheVariants.{Clear, Insert, Kill, Put}
use Rattle.doc_types.specs.Transactions.{IsOpOf, IsTxnOf}
use Rattle.index_conf.specs.declared.conf.IndexConf.{IndexConf}
use Rattle.ql_refusals.specs.Refusals.{Refused, first, other_index, too_many_operations, transaction_too_large, unless}
use Rattle.ql_tree.specs.declared.statement.Ids.{Ids}
use Rattle.ql_tree.specs.declared.statement.Ids.TheVariants.{One, Several}
use Rattle.ql_answers.specs.declared.pending.TheConstants.{MAX_OPERATIONS, MAX_TRANSACTION_BYTES}
use Rattle.ql_answers.specs.declared.state.State.{State}
use Rattle.ql_answers.specs.Pending.{PendingValue, size_of}
use Rattle.ql_answers.specs.States.{pending_ops}
use Rattle.ql_answers.specs.Transactions.{clearing, index_fault_of, killing, put_by, size_fault, stored, write_fault}
use Rattle.ql_session.specs.Fitting.{CanCommit, FitsPending}

-- neither of two faults is there
no_first : (a b : Option Refused) → first a b ≡ None → a ≡ None
no_first None b is = refl
no_first (Some fault) b is = is

no_later : (a b : Option Refused) → first a b ≡ None → b ≡ None
no_later None b is = is
no_later (Some fault) b is = absurd (none-some fault (sym is))

-- what had to hold holds
holds_if : (holds : Bool) (refusal : Refused) → unless holds refusal ≡ None → holds ≡ true
holds_if true refusal is = refl
holds_if false refusal is = absurd (none-some refusal (sym is))

at_most : (count limit : ℕ) → nat_le count limit ≡ true → count ≤ limit
at_most count limit is = grind (arith, nat_tests)

same_number : (a b : ℕ) → (a == b) ≡ true → a ≡ b
same_number a b is = grind (arith, nat_tests)

-- so few operations are there
few_ops : (state : State) (place : ℕ) (txn : Txn) → write_fault state place txn ≡ None → length (pending_ops state.pending ++ txn.ops) ≤ MAX_OPERATIONS
few_ops state place txn fits =
    let ops = pending_ops state.pending ++ txn.ops in
    let size = no_later (index_fault_of state.pending place) (size_fault ops) fits in
    let count = no_first (unless (nat_le (length ops) MAX_OPERATIONS) too_many_operations) (unless (nat_le (size_of ops) MAX_TRANSACTION_BYTES) transaction_too_large) size in
    at_most (length ops) MAX_OPERATIONS (holds_if (nat_le (length ops) MAX_OPERATIONS) too_many_operations count)

few_of : (state : State) (place : ℕ) (txn : Txn) → write_fault state place txn ≡ None → length txn.ops < 2 ^ 32
few_of state place txn fits =
    let few = few_ops state place txn fits in
    let sum = length-append (pending_ops state.pending) txn.ops in
    omega (arith, few, sum)

-- ---- the operations of each statement
put_op : (schema : Schema) (op : TxnOp) → IsOpOf schema op → IsOpOf schema (put_by op)
put_op schema (Insert doc) is = is
put_op schema (Put doc) is = is
put_op schema (Kill id) is = is
put_op schema Clear is = is

pub stored_of : (schema : Schema) (replace : Bool) (txn : Txn) → IsTxnOf schema txn → IsTxnOf schema (stored replace txn)
stored_of schema false txn of = of
stored_of schema true txn of =
    let count = length-map txn.ops put_by in
    let few : length (map put_by txn.ops) < 2 ^ 32 = omega (arith, count, of.few) in
    record { few = few; operations = All-map (IsOpOf schema) put_by txn.ops (λ i d h. put_op schema _ (of.operations i d h)) }

kills_all : (schema : Schema) (ids : Ids) → All (IsOpOf schema) (killing ids).ops
kills_all schema (One id) = All-cons (IsOpOf schema) (Kill id) [] tt (All-nil (IsOpOf schema))
kills_all schema (Several ids) = All-map (IsOpOf schema) Kill ids (λ i d h. tt)

pub killing_of : (schema : Schema) (state : State) (place : ℕ) (ids : Ids) → write_fault state place (killing ids) ≡ None → IsTxnOf schema (killing ids)
killing_of schema state place ids fits = record { few = few_of state place (killing ids) fits; operations = kills_all schema ids }

pub clearing_of : (schema : Schema) → IsTxnOf schema clearing
clearing_of schema =
    let few : 1 < 2 ^ 32 = omega arith in
    record { few = few; operations = All-cons (IsOpOf schema) Clear [] tt (All-nil (IsOpOf schema)) }

-- ---- operations behind those that are pending
behind : (confs : List IndexConf) (pending : Option PendingValue) (place : ℕ) (txn : Txn) → index_fault_of pending place ≡ None → length (pending_ops pending ++ txn.ops) ≤ MAX_OPERATIONS
    → FitsPending confs pending → CanCommit confs place txn → CanCommit confs place (record { ops = pending_ops pending ++ txn.ops })
behind confs None place txn here few fits can = can
behind confs (Some pending) place txn here few fits can =
    let same : pending.place ≡ place = same_number pending.place place (holds_if (pending.place == place) other_index here) in
    let conf : fits.conf ≡ can.conf = same_Some fits.conf can.conf (sym fits.is ∙ ap (slice_get confs) same ∙ can.is) in
    let of = subst (λ (c : IndexConf). IsTxnOf c.schema (record { ops = pending.ops })) conf fits.of in
    let fewer : length (pending.ops ++ txn.ops) < 2 ^ 32 = omega (arith, few) in
    record {
      conf = can.conf;
      is = can.is;
      of = record { few = fewer; operations = All-append (IsOpOf can.conf.schema) pending.ops txn.ops of.operations can.of.operations };
    }

pub kept_fits : (confs : List IndexConf) (state : State) (place : ℕ) (txn : Txn) → write_fault state place txn ≡ None → FitsPending confs state.pending → CanCommit confs place txn
    → CanCommit confs place (record { ops = pending_ops state.pending ++ txn.ops })
kept_fits confs state place txn free fits can =
    behind confs state.pending place txn (no_first (index_fault_of state.pending place) (size_fault (pending_ops state.pending ++ txn.ops)) free) (few_ops state place txn free) fits can
