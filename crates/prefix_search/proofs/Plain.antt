-- A query without prefixes is asked itself.
use Rattle.std.proofs.Common.{◌≡◌, ◌∙◌, ◌≤◌, ℕ, Bool, true, false, cond, List, [], ◌∷◌, ap, arith, refl, subst, sym, All}
use Rattle.std.specs.Borrow.{Bor}
use Rattle.std.specs.List.{AllZip, filter, list_any}
use Rattle.std.proofs.lemmas.Bool.{or_parts}
use Rattle.std.proofs.lemmas.List.Elements.{All-cons, All-nil}
use Rattle.doc_types.specs.declared.documents.DocRow.{DocRow}
use Rattle.query_tree.specs.declared.key.Key.{Key}
use Rattle.query_tree.specs.declared.query.Query.{Query}
use Rattle.query_tree.specs.TreeKeys.{query_keys}
use Rattle.prefix_terms.specs.Prefixes.{IsListOf, prefixes}
use Rattle.prefix_finds.proofs.Itself.{plain_itself}
use Rattle.prefix_search.specs.Asking.{IsAskedFor}

abbrev HaveNone : List Key → Type 0
HaveNone keys = list_any (λ (key : Key). key.prefix) keys ≡ false

none_listed : (keys : List Key) → HaveNone keys → prefixes keys ≡ []
none_listed [] none = refl
none_listed (key ∷ keys) none =
    let parts = or_parts key.prefix (list_any (λ (key : Key). key.prefix) keys) none in
    ap (λ b. cond b (key ∷ prefixes keys) (prefixes keys)) parts.0 ∙ none_listed keys parts.1

all_plain : (keys : List Key) → HaveNone keys → All (λ key. key.prefix ≡ false) keys
all_plain [] none = All-nil (λ (key : Key). key.prefix ≡ false)
all_plain (key ∷ keys) none =
    let parts = or_parts key.prefix (list_any (λ (key : Key). key.prefix) keys) none in
    All-cons (λ (key : Key). key.prefix ≡ false) key keys parts.0 (all_plain keys parts.1)

pub asked_itself : (query : Query) (docs : List DocRow) → HaveNone (query_keys query) → IsAskedFor query docs query
asked_itself query docs none = record {
  lists = [];
  words = subst (λ keys. AllZip (IsListOf docs) keys []) (sym (none_listed (query_keys query) none)) tt;
  few = omega arith;
  is = plain_itself [] query (all_plain (query_keys query) none);
}
