-- What stands at a place of the engines, and what is taken from the end of a worker's tokens.
use Rattle.std.proofs.Common.{◌≡◌, ⊎_elim, ℕ, ◌+◌, ◌-◌, ◌<◌, List, [], ◌∷◌, ◌++◌, Some, length, map, Option, None, slice_get, take, slice_index_or, refl, ap, sym, subst, ◌∙◌, arith, length-append}
use Rattle.std.proofs.Math.Seq.{take-append_seam}
use Rattle.std.proofs.lemmas.List.{length-map}
use Rattle.std.proofs.lemmas.Option.{slice_get-map, slice_get_read}
use Rattle.std.specs.Option.{option_map, option_to_list}
use Rattle.commit_outcomes.specs.declared.strayed.Strayed.{Strayed}
use Rattle.step_book.proofs.Prefixes.{prefix_get}
use Rattle.step_tokens.specs.Tokens.{TokenValue}
use Rattle.engine_tables.specs.Engines.{ArePlaced, EnginesValue, TableValue}
use Rattle.engine_tables.specs.Tokens.{AreInOrder, TokensValue, told_of}
use Rattle.engine_tables.proofs.Places.{get_end, get_more_cases}

-- the table is that of the index at this place
pub record IsAt (engines : EnginesValue) (place : ℕ) (table : TableValue) : Type 0 where
  pub conf : slice_get engines.confs place ≡ Some table.conf
  pub engine : slice_get engines.engines place ≡ Some table.engine
  pub index : table.engine.index ≡ place
  pub workers : table.engine.workers ≡ engines.workers

-- what engines are that are held in a list
abbrev pub engines_in : List TableValue → ℕ → EnginesValue
engines_in tables workers = record { confs = map (λ table. table.conf) tables; engines = map (λ table. table.engine) tables; workers = workers }

pub is_at : (tables : List TableValue) (workers n place : ℕ) (engines : EnginesValue) (table : TableValue) → engines_in tables workers ≡ engines → n ≡ length tables → ArePlaced workers (map (λ table. table.engine) tables) → place < length engines.confs → table ≡ slice_index_or tables place table → IsAt engines place table
is_at tables workers n place engines table is long placed within read =
    let many : length (map (λ (t : TableValue). t.conf) tables) ≡ length engines.confs = ap (λ (v : EnginesValue). length v.confs) is in
    let inside : place < n = omega (arith, within, many, length-map tables (λ (t : TableValue). t.conf), long) in
    let at : slice_get tables place ≡ Some table = slice_get_read tables n place table long inside read in
    let conf : slice_get (map (λ (t : TableValue). t.conf) tables) place ≡ Some table.conf = slice_get-map (λ (t : TableValue). t.conf) tables place ∙ ap (option_map (λ (t : TableValue). t.conf)) at in
    let engine : slice_get (map (λ (t : TableValue). t.engine) tables) place ≡ Some table.engine = slice_get-map (λ (t : TableValue). t.engine) tables place ∙ ap (option_map (λ (t : TableValue). t.engine)) at in
    let own = placed.each place table.engine engine in
    record {
      conf = subst (λ (v : EnginesValue). slice_get v.confs place ≡ Some table.conf) is conf;
      engine = subst (λ (v : EnginesValue). slice_get v.engines place ≡ Some table.engine) is engine;
      index = own.0;
      workers = own.1 ∙ ap (λ (v : EnginesValue). v.workers) is;
    }

-- tokens before the last one stay in order
pub in_order_front : (worker : ℕ) (list front : List TokenValue) (last : TokenValue) (told before : List (Option Strayed)) (one : Option Strayed) → list ≡ front ++ last ∷ [] → told ≡ before ++ one ∷ []
    → AreInOrder (record { worker = worker; list = list; told = told }) → AreInOrder (record { worker = worker; list = front; told = before })
in_order_front worker list front last told before one is told_is order = record {
  alike = omega (arith, order.alike, ap length is, ap length told_is, length-append front (last ∷ []), length-append before (one ∷ []));
  each = λ k token at. order.each k token (prefix_get front list k token (last ∷ [], sym is) at);
}

-- and with one more
pub in_order_more : (worker : ℕ) (list lists : List TokenValue) (told tolds : List (Option Strayed)) (token : TokenValue) (one : Option Strayed) → AreInOrder (record { worker = worker; list = list; told = told })
    → token.index ≡ length list → token.worker ≡ worker → lists ≡ list ++ token ∷ [] → tolds ≡ told ++ one ∷ [] → AreInOrder (record { worker = worker; list = lists; told = tolds })
in_order_more worker list lists told tolds token one order index own is told_is = record {
  alike = omega (arith, order.alike, ap length is, ap length told_is, length-append list (token ∷ []), length-append told (one ∷ []));
  each = λ k its at.
      ⊎_elim
      (λ (last : (k ≡ length list) × (its ≡ token)). (ap (λ (t : TokenValue). t.index) last.1 ∙ index ∙ sym last.0, ap (λ (t : TokenValue). t.worker) last.1 ∙ own))
      (λ (earlier : slice_get list k ≡ Some its). order.each k its earlier)
      (get_more_cases list token its k (subst (λ (l : List TokenValue). slice_get l k ≡ Some its) is at));
}

-- what is taken from the end is the last one, and what is left stands before it
pub last_is : {A : Type 0} (list front : List A) (last : A) → list ≡ front ++ last ∷ [] → slice_get list (length list - 1) ≡ Some last
last_is {A} list front last is =
    subst (λ (l : List A). slice_get l (length l - 1) ≡ Some last) (sym is) (get_end front last (length (front ++ last ∷ []) - 1) (omega (arith, length-append front (last ∷ []))))

pub front_is : {A : Type 0} (list front : List A) (last : A) → list ≡ front ++ last ∷ [] → front ≡ take (length list - 1) list
front_is {A} list front last is =
    let short : length front ≡ length list - 1 = omega (arith, ap length is, length-append front (last ∷ [])) in
    sym (take-append_seam front (last ∷ [])) ∙ ap (λ (k : ℕ). take k (front ++ last ∷ [])) short ∙ ap (λ (l : List A). take (length list - 1) l) (sym is)

-- what was told of the last index
pub told_is : (one : Option Strayed) → told_of (Some one) ≡ option_to_list one
told_is None = refl
told_is (Some numbers) = refl

-- it is of the last index, and the worker's
pub last_own : (tokens : TokensValue) (front : List TokenValue) (last : TokenValue) → AreInOrder tokens → tokens.list ≡ front ++ last ∷ [] → (last.index + 1 ≡ length tokens.list) × (last.worker ≡ tokens.worker)
last_own tokens front last order is =
    let at : slice_get tokens.list (length front) ≡ Some last = subst (λ (l : List TokenValue). slice_get l (length front) ≡ Some last) (sym is) (get_end front last (length front) refl) in
    let own = order.each (length front) last at in
    (omega (arith, own.0, ap length is, length-append front (last ∷ [])), own.1)
