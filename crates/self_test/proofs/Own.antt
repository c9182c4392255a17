-- The index of a selftest can be served.
use Rattle.std.proofs.Common.{◌≡◌, ◌≢◌, ℕ, List, [], ◌∷◌, refl, sym, subst, arith, ◌∙◌}
use Rattle.std.specs.Prelude.{All, IsTrue, codes, false}
use Rattle.std.specs.List.{AllPairs}
use Rattle.std.proofs.lemmas.List.Elements.{All-cons, All-nil}
use Rattle.std.proofs.lemmas.List.Kept.{AllPairs-cons}
use Rattle.doc_types.specs.Schemas.{AreZones, IsName, IsSchema, is_column_name}
use Rattle.doc_types.specs.declared.schema.Schema.{Schema}
use Rattle.index_conf.specs.declared.conf.IndexConf.{IndexConf}
use Rattle.self_test.specs.Own.{IsOwn, own_schema}
use Rattle.self_test.specs.steps.Servable.{IsServable}

none_apart : AllPairs (λ (a b : List ℕ). a ≢ b) []
none_apart i j d l h = absurd (omega (arith, h))

pub own_is_schema : IsSchema own_schema
own_is_schema = record {
  name = record { short = omega arith; small = refl };
  few_fields = omega arith;
  few_attrs = omega arith;
  names = All-cons IsName (codes "title") (codes "gid" ∷ []) (record { short = omega arith; small = refl }) (All-cons IsName (codes "gid") [] (record { short = omega arith; small = refl }) (All-nil IsName));
  form = All-cons (λ (name : List ℕ). IsTrue (is_column_name name)) (codes "title") (codes "gid" ∷ []) refl (All-cons (λ (name : List ℕ). IsTrue (is_column_name name)) (codes "gid") [] refl (All-nil (λ (name : List ℕ). IsTrue (is_column_name name))));
  distinct = AllPairs-cons (λ (a b : List ℕ). a ≢ b) (codes "title") (codes "gid" ∷ []) (All-cons (λ (b : List ℕ). codes "title" ≢ b) (codes "gid") [] (λ (same : codes "title" ≡ codes "gid"). cc same) (All-nil (λ (b : List ℕ). codes "title" ≢ b)))
      (AllPairs-cons (λ (a b : List ℕ). a ≢ b) (codes "gid") [] (All-nil (λ (b : List ℕ). codes "gid" ≢ b)) none_apart);
  zones = record { few = omega arith; names = All-nil IsName; distinct = none_apart };
  prefixes = omega arith;
}

-- an index with these columns can be served
pub own_servable : (index : IndexConf) → index.schema ≡ own_schema → index.rules.zones ≡ [] → IsServable index
own_servable index is none = record { schema = subst IsSchema (sym is) own_is_schema; zones = rw is none }
