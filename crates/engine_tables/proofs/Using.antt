-- What is said of a worker's tokens of which one was used.
use Rattle.std.proofs.Common.{◌≡◌, ⊎_elim, ℕ, ◌<◌, Some, length, length-set, List, Option, slice_get, slice_index_or, slice_set, refl, ap, sym, subst, ◌∙◌, arith}
use Rattle.std.proofs.lemmas.Option.{slice_get_read, slice_get_within}
use mathlib.Core.List.{IsPrefix}
use Rattle.commit_outcomes.specs.declared.strayed.Strayed.{Strayed}
use Rattle.doc_types.specs.declared.schema.Schema.{Schema}
use Rattle.doc_types.specs.Snapshots.{AreLayers, SnapshotValue}
use Rattle.step_book.specs.Fronts.{FrontValue}
use Rattle.step_history.specs.History.{Base, IsGood, Step, last_snapshot}
use Rattle.step_tokens.specs.Tokens.{IsSameBut, TokenValue}
use Rattle.snap_share.specs.Answers.{seen_by}
use Rattle.engine_tables.specs.Tokens.{AreInOrder, TokensValue}
use Rattle.engine_tables.specs.Workers.{Grows, GrowAll, HasSeen, documents_of}
use Rattle.engine_tables.specs.steps.Staying.{grows_itself}
use Rattle.engine_tables.proofs.Places.{get_set_cases, get_set_same, zip_set}

-- the tokens, with another one at a place
abbrev pub with_token : TokensValue → ℕ → TokenValue → TokensValue
with_token old place token = record old { list = slice_set old.list place token }

-- a token of which all but what it has seen is as before
pub same_but : (old new : TokenValue) → IsSameBut old new → new ≡ record old { seen = new.seen }
same_but old new same =
    ap (λ (i : ℕ). record new { index = i }) same.index
    ∙ ap (λ (w : ℕ). record new { index = old.index; worker = w }) same.worker
    ∙ ap (λ (m : ℕ). record new { index = old.index; worker = old.worker; made = m }) same.made
    ∙ ap (λ (f : List ℕ). record new { index = old.index; worker = old.worker; made = old.made; faults = f }) same.faults
    ∙ ap (λ (s : List ℕ). record old { seen = new.seen; stops = s; entered = new.entered }) same.stops
    ∙ ap (λ (e : Option (List Step)). record old { seen = new.seen; entered = e }) same.entered

-- a token that was used stays in its place
pub in_order_still : (old : TokensValue) (place : ℕ) (before after : TokenValue) → AreInOrder old → slice_get old.list place ≡ Some before → after.index ≡ before.index → after.worker ≡ before.worker → AreInOrder (with_token old place after)
in_order_still old place before after order at index worker =
    let own = order.each place before at in
    record {
      alike = order.alike ∙ sym (length-set old.list place after);
      each = λ k token found.
          ⊎_elim
          (λ (same : (k ≡ place) × (token ≡ after)).
          (ap (λ (t : TokenValue). t.index) same.1 ∙ index ∙ own.0 ∙ sym same.0, ap (λ (t : TokenValue). t.worker) same.1 ∙ worker ∙ own.1))
          (λ (other : slice_get old.list k ≡ Some token). order.each k token other)
          (get_set_cases old.list place k after token found);
    }

-- and what its worker was told isn't in the way
pub in_order_told : (tokens : TokensValue) (told : List (Option Strayed)) → AreInOrder tokens → length told ≡ length tokens.told → AreInOrder (record tokens { told = told })
in_order_told tokens told order same = record { alike = same ∙ order.alike; each = order.each }

-- one token grew
pub grow_at : (old : TokensValue) (place : ℕ) (before after : TokenValue) → slice_get old.list place ≡ Some before → Grows before after → GrowAll old (with_token old place after)
grow_at old place before after at grows = (refl, zip_set Grows grows_itself old.list place before after at grows, refl)

-- what is seen of an index by a token that was used
pub seen_at : (schema : ℕ → Schema) (base : ℕ → Base) (old : TokensValue) (place : ℕ) (before after : TokenValue) → AreInOrder old → slice_get old.list place ≡ Some before → after.index ≡ before.index
    → IsGood (schema before.index) (base before.index) after.seen
    → AreLayers (last_snapshot (base before.index) after.seen).layers
    → HasSeen schema base (with_token old place after) place (seen_by after)
seen_at schema base old place before after order at index good layers =
    let own = order.each place before at in
    record {
      token = after;
      at = get_set_same old.list place after (slice_get_within old.list place before at);
      is = refl;
      of = index ∙ own.0;
      good = subst (λ (i : ℕ). IsGood (schema i) (base i) after.seen) own.0 good;
      layers = subst (λ (i : ℕ). AreLayers (last_snapshot (base i) after.seen).layers) (sym index) layers;
    }

-- The token at a place of a worker's tokens was read, and another one stands there now.
pub record IsUsed (view old : TokensValue) (place : ℕ) (before after : TokenValue) : Type 0 where
  pub view_is : view ≡ old
  pub order : AreInOrder view
  pub at : slice_get view.list place ≡ Some before
  pub index : after.index ≡ before.index
  pub worker : after.worker ≡ before.worker

pub is_used : (view old : TokensValue) (n place : ℕ) (before after : TokenValue) → view ≡ old → n ≡ length view.list → AreInOrder view → place < length old.list → before ≡ slice_index_or view.list place before → after.index ≡ before.index → after.worker ≡ before.worker → IsUsed view old place before after
is_used view old n place before after is long order within read index worker =
    let inside : place < n = omega (arith, within, long, ap (λ (t : TokensValue). length t.list) is) in
    record { view_is = is; order = order; at = slice_get_read view.list n place before long inside read; index = index; worker = worker }

module _ (view old : TokensValue) (place : ℕ) (before after : TokenValue) (used : IsUsed view old place before after) where
  pub used_in_order : AreInOrder (with_token view place after)
  used_in_order = in_order_still view place before after used.order used.at used.index used.worker

  pub used_index : before.index ≡ place
  used_index = (used.order.each place before used.at).0

  pub used_grows : IsSameBut before after → IsPrefix before.seen after.seen → GrowAll old (with_token view place after)
  used_grows same seen =
      subst (λ (o : TokensValue). GrowAll o (with_token view place after)) used.view_is
      (grow_at view place before after used.at (record { is = same_but before after same; seen = seen }))

  -- what was shown is the last snapshot of what is seen then
  pub used_shows : (schema : ℕ → Schema) (base : ℕ → Base) (shown : SnapshotValue) → shown ≡ last_snapshot (base before.index) after.seen → IsGood (schema before.index) (base before.index) after.seen → AreLayers shown.layers
      → (front : FrontValue) × HasSeen schema base (with_token view place after) place front × (shown ≡ documents_of base front)
  used_shows schema base shown is good layers = (
    seen_by after,
    seen_at schema base view place before after used.order used.at used.index good (subst (λ (s : SnapshotValue). AreLayers s.layers) is layers),
    is ∙ ap (λ (i : ℕ). last_snapshot (base i) after.seen) (sym used.index),
  )
