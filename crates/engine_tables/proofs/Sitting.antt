-- A worker's store between its calls.
use Rattle.std.proofs.Common.{◌≡◌, ℕ, List, [], ◌∷◌, All, length, refl, ap, sym, subst, ◌∙◌, arith}
use Rattle.std.specs.List.{AllZip}
use Rattle.doc_types.specs.Documents.{AreRowsOf}
use Rattle.doc_types.specs.Snapshots.{SnapshotValue}
use Rattle.doc_types.specs.declared.schema.Schema.{Schema}
use Rattle.index_conf.specs.declared.conf.IndexConf.{IndexConf}
use Rattle.step_book.specs.Fronts.{FrontValue}
use Rattle.step_history.specs.History.{AreOf, Base, last_snapshot}
use Rattle.step_tokens.specs.Tokens.{TokenValue}
use Rattle.store_keep.proofs.Following.{last_of}
use Rattle.engine_tables.specs.Engines.{EnginesValue}
use Rattle.engine_tables.specs.Tokens.{SitsAt, TokensValue}
use Rattle.engine_tables.specs.Workers.{Grows, GrowAll, HasSeen, documents_of}

pub long_zip : (xs ys : List TokenValue) → AllZip Grows xs ys → length ys ≡ length xs
long_zip [] [] zip = refl
long_zip [] (y ∷ ys) zip = absurd zip
long_zip (x ∷ xs) [] zip = absurd zip
long_zip (x ∷ xs) (y ∷ ys) zip = omega (arith, long_zip xs ys zip.1)

-- tokens that grew are those of the same worker
pub sits_still : (engines : EnginesValue) (old new : TokensValue) → SitsAt engines old → GrowAll old new → SitsAt engines new
sits_still engines old new sits grows = record {
  many = long_zip old.list new.list grows.1 ∙ sits.many;
  above = omega (arith, sits.above, grows.0);
  within = omega (arith, sits.within, grows.0);
}

-- the rows that a front shows are of the columns of its index
pub rows_of_front : (schema : ℕ → Schema) (base : ℕ → Base) (tokens : TokensValue) (place : ℕ) (conf : IndexConf) (shown : SnapshotValue) → schema place ≡ conf.schema
    → (front : FrontValue) × HasSeen schema base tokens place front × (shown ≡ documents_of base front)
    → All (λ layer. AreRowsOf conf.schema layer.rows) shown.layers
rows_of_front schema base tokens place conf shown named (front, seen, is) =
    let of : AreOf (schema place) (last_snapshot (base place) front.steps) = last_of (schema place) (base place) front.steps seen.good in
    let here : shown ≡ last_snapshot (base place) front.steps = is ∙ ap (λ (i : ℕ). last_snapshot (base i) front.steps) seen.of in
    subst (λ (s : Schema). AreOf s shown) named (subst (AreOf (schema place)) (sym here) of)
