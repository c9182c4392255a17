-- How engines are made one after the other: what is there of all stores, from what was there of those before the last one.
use Rattle.std.proofs.Common.{◌≡◌, ⊎_elim, ℕ, zero, suc, ◌+◌, ◌≤◌, List, [], ◌∷◌, ◌++◌, All, Some, None, length, map, slice_get, refl, ap, sym, subst, ◌∙◌, arith, length-append}
use Rattle.std.proofs.Math.Numerals.{add-one}
use Rattle.std.proofs.Math.Seq.{get_or-append_seam}
use Rattle.std.proofs.lemmas.List.{get_or_append_left, map-append}
use Rattle.std.proofs.lemmas.List.Elements.{All-append, All-cons, All-nil}
use Rattle.std.specs.List.{enumerate_from}
use Rattle.chunk_store.specs.declared.disk.Disk.{Ghosts as DiskWords}
use Rattle.doc_types.specs.declared.schema.Schema.{Schema}
use Rattle.doc_types.specs.Schemas.{AreZones, IsSchema}
use Rattle.logbook.specs.Pages.{Book}
use Rattle.index_conf.specs.declared.conf.IndexConf.{IndexConf}
use Rattle.step_book.specs.Tellings.{AtOpening}
use Rattle.step_history.specs.History.{Base}
use Rattle.step_line.specs.Lines.{new_token}
use Rattle.store_keep.specs.declared.opening.Opened.{Opened}
use Rattle.snap_share.specs.Engines.{EngineValue}
use Rattle.engine_tables.specs.Engines.{ArePlaced, engine_over}
use Rattle.engine_tables.specs.Names.{AreNamed, AreServed}
use Rattle.engine_tables.specs.Tokens.{AreOf, TokensValue, new_seat, new_seats, new_tokens, none_told}
use Rattle.engine_tables.specs.steps.Makings.{IsNamedAt}
use Rattle.engine_tables.proofs.Places.{get_end, get_more, get_more_cases}

-- the same list with one element more
pub snoc_same : {A : Type 0} (xs ys : List A) (a b : A) → xs ++ a ∷ [] ≡ ys ++ b ∷ [] → (xs ≡ ys) × (a ≡ b)
snoc_same [] [] a b is = (refl, cc)
snoc_same [] (y ∷ []) a b is = absurd (cc (is))
snoc_same [] (y ∷ z ∷ ys) a b is = absurd (cc (is))
snoc_same (x ∷ []) [] a b is = absurd (cc (is))
snoc_same (x ∷ w ∷ xs) [] a b is = absurd (cc (is))
snoc_same (x ∷ xs) (y ∷ ys) a b is =
    let rest = snoc_same xs ys a b (cc (is)) in
    let head : x ≡ y = cc (is) in
    (cc (head, rest.0), rest.1)

pub all_front : {A : Type 0} (P : A → Type 0) (xs : List A) (y : A) → All P (xs ++ y ∷ []) → All P xs
all_front P xs y all k d within = subst P (get_or_append_left xs (y ∷ []) d k within) (all k d (omega (arith, length-append xs (y ∷ []))))

pub all_end : {A : Type 0} (P : A → Type 0) (xs : List A) (y : A) → All P (xs ++ y ∷ []) → P y
all_end P xs y all = subst P (get_or-append_seam xs y [] y) (all (length xs) y (omega (arith, length-append xs (y ∷ []))))

-- stores with their names
module _ {D : Type 0} (words : DiskWords D) (book faults stops : ℕ → Book) (schema : ℕ → Schema) (base : ℕ → Base) (opened : ℕ → AtOpening) (confs : List IndexConf) (stores : List (Opened D)) (conf : IndexConf) (store : Opened D) where
  pub as_long : AreNamed words book faults stops schema base opened (confs ++ conf ∷ []) (stores ++ store ∷ []) → length stores ≡ length confs
  as_long named = omega (arith, named.many, length-append stores (store ∷ []), length-append confs (conf ∷ []))

  pub named_before : AreNamed words book faults stops schema base opened (confs ++ conf ∷ []) (stores ++ store ∷ []) → AreNamed words book faults stops schema base opened confs stores
  named_before named = record {
    many = as_long named;
    columns = λ place its at. named.columns place its (get_more confs conf its place at);
    books = λ place its at. named.books place its (get_more stores store its place at);
    fault_books = λ place its at. named.fault_books place its (get_more stores store its place at);
    stop_books = λ place its at. named.stop_books place its (get_more stores store its place at);
    bases = λ place its at. named.bases place its (get_more stores store its place at);
    openings = λ place its at. named.openings place its (get_more stores store its place at);
    are_opened = λ place its at. named.are_opened place its (get_more stores store its place at);
  }

  pub served_before : AreServed (confs ++ conf ∷ []) → AreServed confs
  served_before served = record {
    few = omega (arith, served.few, length-append confs (conf ∷ []));
    schemas = all_front (λ (c : IndexConf). IsSchema c.schema) confs conf served.schemas;
    zones = all_front (λ (c : IndexConf). c.rules.zones ≡ c.schema.zones) confs conf served.zones;
  }

  pub named_last : AreNamed words book faults stops schema base opened (confs ++ conf ∷ []) (stores ++ store ∷ []) → AreServed (confs ++ conf ∷ []) → IsNamedAt words book faults stops schema base opened (length confs) conf store
  named_last named served =
      let here : slice_get (confs ++ conf ∷ []) (length confs) ≡ Some conf = get_end confs conf (length confs) refl in
      let there : slice_get (stores ++ store ∷ []) (length confs) ≡ Some store = get_end stores store (length confs) (sym (as_long named)) in
      let is_schema : IsSchema conf.schema = all_end (λ (c : IndexConf). IsSchema c.schema) confs conf served.schemas in
      record {
        columns = named.columns (length confs) conf here;
        served = is_schema;
        zones = subst AreZones (sym (all_end (λ (c : IndexConf). c.rules.zones ≡ c.schema.zones) confs conf served.zones)) is_schema.zones;
        book_is = named.books (length confs) store there;
        faults_are = named.fault_books (length confs) store there;
        stops_are = named.stop_books (length confs) store there;
        base_is = named.bases (length confs) store there;
        opened_is = named.openings (length confs) store there;
        is_opened = named.are_opened (length confs) store there;
      }

-- engines over stores

enumerate_more : {A : Type 0} (n : ℕ) (xs : List A) (y : A) → enumerate_from n (xs ++ y ∷ []) ≡ enumerate_from n xs ++ (n + length xs, y) ∷ []
enumerate_more {A} n [] y = ap (λ (k : ℕ). (k, y) ∷ []) (let at : n ≡ n + 0 = omega arith in at)
enumerate_more n (x ∷ xs) y =
    ap (λ rest. (n, x) ∷ rest) (enumerate_more (n + 1) xs y)
    ∙ ap (λ (k : ℕ). (n, x) ∷ enumerate_from (n + 1) xs ++ (k, y) ∷ []) (let at : n + 1 + length xs ≡ n + suc (length xs) = omega arith in at)

pub engines_more : {D : Type 0} (workers : ℕ) (stores : List (Opened D)) (store : Opened D)
    → map (λ e. engine_over workers e.0 e.1) (enumerate_from 0 (stores ++ store ∷ [])) ≡ map (λ e. engine_over workers e.0 e.1) (enumerate_from 0 stores) ++ engine_over workers (length stores) store ∷ []
engines_more workers stores store =
    ap (map (λ e. engine_over workers e.0 e.1)) (enumerate_more 0 stores store)
    ∙ map-append (λ e. engine_over workers e.0 e.1) (enumerate_from 0 stores) ((0 + length stores, store) ∷ [])
    ∙ ap (λ (k : ℕ). map (λ e. engine_over workers e.0 e.1) (enumerate_from 0 stores) ++ engine_over workers k store ∷ []) (let at : 0 + length stores ≡ length stores = omega arith in at)

placed_from : {D : Type 0} (n workers : ℕ) (stores : List (Opened D)) (k : ℕ) (engine : EngineValue) → slice_get (map (λ e. engine_over workers e.0 e.1) (enumerate_from n stores)) k ≡ Some engine → (engine.index ≡ n + k) × (engine.workers ≡ workers)
placed_from n workers [] k engine at = absurd (cc (at))
placed_from n workers (store ∷ stores) zero engine at =
    let is : engine_over workers n store ≡ engine = cc (at) in
    (sym (ap (λ (e : EngineValue). e.index) is) ∙ omega arith, sym (ap (λ (e : EngineValue). e.workers) is))
placed_from n workers (store ∷ stores) (suc k) engine at =
    let rest = placed_from (n + 1) workers stores k engine at in (rest.0 ∙ omega arith, rest.1)

pub placed_over : {D : Type 0} (workers : ℕ) (stores : List (Opened D)) → ArePlaced workers (map (λ e. engine_over workers e.0 e.1) (enumerate_from 0 stores))
placed_over workers stores = record { each = λ k engine at. let both = placed_from 0 workers stores k engine at in (both.0 ∙ omega arith, both.1) }

-- an engine more
pub placed_more : (workers : ℕ) (engines : List EngineValue) (engine : EngineValue) → ArePlaced workers engines → engine.index ≡ length engines → engine.workers ≡ workers → ArePlaced workers (engines ++ engine ∷ [])
placed_more workers engines engine placed index own = record {
  each = λ k its at.
      ⊎_elim
      (λ (same : (k ≡ length engines) × (its ≡ engine)). (ap (λ (e : EngineValue). e.index) same.1 ∙ index ∙ sym same.0, ap (λ (e : EngineValue). e.workers) same.1 ∙ own))
      (λ (earlier : slice_get engines k ≡ Some its). placed.each k its earlier)
      (get_more_cases engines engine its k at);
}

-- and one less
pub placed_before : (workers : ℕ) (engines : List EngineValue) (engine : EngineValue) → ArePlaced workers (engines ++ engine ∷ []) → ArePlaced workers engines
placed_before workers engines engine placed = record { each = λ k its at. placed.each k its (get_more engines engine its k at) }

-- tokens of workers

pub length_new : (worker indexes : ℕ) → length (new_tokens worker indexes) ≡ indexes
length_new worker zero = refl
length_new worker (suc indexes) = omega (arith, length-append (new_tokens worker indexes) (new_token indexes worker [] ∷ []), length_new worker indexes)

pub new_more : (worker indexes : ℕ) → new_tokens worker (indexes + 1) ≡ new_tokens worker indexes ++ new_token indexes worker [] ∷ []
new_more worker indexes = rw (add-one indexes) refl

pub none_more : (indexes : ℕ) → none_told (indexes + 1) ≡ none_told indexes ++ None ∷ []
none_more indexes = rw (add-one indexes) refl

pub length_seats : (indexes workers : ℕ) → length (new_seats indexes workers) ≡ workers
length_seats indexes zero = refl
length_seats indexes (suc workers) = omega (arith, length-append (new_seats indexes workers) (new_seat indexes (suc workers) ∷ []), length_seats indexes workers)

pub seats_sit : (indexes workers most : ℕ) → workers ≤ most → All (AreOf indexes most) (new_seats indexes workers)
seats_sit indexes zero most within = All-nil (AreOf indexes most)
seats_sit indexes (suc workers) most within =
    let last : TokensValue = new_seat indexes (suc workers) in
    let of : AreOf indexes most last = record { many = length_new (suc workers) indexes; above = omega arith; within = within } in
    All-append (AreOf indexes most) (new_seats indexes workers) (last ∷ []) (seats_sit indexes workers most (omega arith)) (All-cons (AreOf indexes most) last [] of (All-nil (AreOf indexes most)))
