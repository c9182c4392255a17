-- How each worker gets its token of the next index: from the last worker to the first.
use Rattle.std.proofs.Common.{◌≡◌, ℕ, zero, suc, ◌+◌, ◌-◌, List, [], ◌∷◌, ◌++◌, length, take, Option, Some, None, slice_get, refl, ap, sym, ◌∙◌, arith, length-append}
use Rattle.std.proofs.Math.Seq.{take-append_seam}
use Rattle.std.specs.Option.{option_to_list}
use Rattle.commit_outcomes.specs.declared.strayed.Strayed.{Strayed}
use Rattle.step_tokens.specs.Tokens.{TokenValue}
use Rattle.step_line.specs.Lines.{new_token}
use Rattle.store_keep.specs.Names.{first_tokens}
use Rattle.engine_tables.specs.Tokens.{TokensValue, new_seat, new_seats, new_tokens, none_told}
use Rattle.engine_tables.specs.steps.Lasts.{last_token, shortened}
use Rattle.engine_tables.proofs.Places.{get_end}
use Rattle.engine_tables.proofs.Makings.{length_new, new_more, none_more, snoc_same}

pub length_first : (index workers : ℕ) → length (first_tokens index workers) ≡ workers
length_first index zero = refl
length_first index (suc workers) = omega (arith, length-append (first_tokens index workers) (new_token index (suc workers) [] ∷ []), length_first index workers)

-- The last worker's tokens, and its token of the index at this place.
pub record IsDealt (place : ℕ) (others : List TokensValue) (seat : TokensValue) (front : List TokenValue) (token : TokenValue) : Type 0 where
  pub others_are : others ≡ new_seats place (length others)
  pub front_is : front ≡ first_tokens place (length others)
  pub seat_is : seat ≡ new_seat place (suc (length others))
  pub token_is : token ≡ new_token place (suc (length others)) []
  pub index : token.index ≡ length seat.list
  pub own : token.worker ≡ seat.worker

pub dealt : (place : ℕ) (seats others : List TokensValue) (seat : TokensValue) (tokens front : List TokenValue) (token : TokenValue) → seats ≡ others ++ seat ∷ [] → seats ≡ new_seats place (length seats) → tokens ≡ front ++ token ∷ [] → tokens ≡ first_tokens place (length seats) → IsDealt place others seat front token
dealt place seats others seat tokens front token seats_is are tokens_is first =
    let long : length seats ≡ suc (length others) = omega (arith, ap length seats_is, length-append others (seat ∷ [])) in
    let last : TokensValue = new_seat place (suc (length others)) in
    let both = snoc_same others (new_seats place (length others)) seat last (sym seats_is ∙ are ∙ ap (new_seats place) long) in
    let two = snoc_same front (first_tokens place (length others)) token (new_token place (suc (length others)) []) (sym tokens_is ∙ first ∙ ap (first_tokens place) long) in
    record {
      others_are = both.0;
      front_is = two.0;
      seat_is = both.1;
      token_is = two.1;
      index = ap (λ (t : TokenValue). t.index) two.1 ∙ sym (length_new (suc (length others)) place) ∙ ap (λ (s : TokensValue). length s.list) (sym both.1);
      own = ap (λ (t : TokenValue). t.worker) two.1 ∙ ap (λ (s : TokensValue). s.worker) (sym both.1);
    }

-- all have their tokens once the others have theirs
pub dealt_all : (place : ℕ) (seats others left : List TokensValue) (seat next : TokensValue) (front : List TokenValue) (token : TokenValue) → seats ≡ others ++ seat ∷ [] → IsDealt place others seat front token → left ≡ new_seats (place + 1) (length others) → next ≡ record seat { list = seat.list ++ token ∷ []; told = seat.told ++ None ∷ [] } → left ++ next ∷ [] ≡ new_seats (place + 1) (length seats)
dealt_all place seats others left seat next front token seats_is is left_is next_is =
    let long : length seats ≡ suc (length others) = omega (arith, ap length seats_is, length-append others (seat ∷ [])) in
    let more : next ≡ new_seat (place + 1) (suc (length others)) =
    next_is
    ∙ ap (λ (s : TokensValue). record s { list = s.list ++ token ∷ []; told = s.told ++ None ∷ [] }) is.seat_is
    ∙ ap (λ (t : TokenValue). record { worker = suc (length others); list = new_tokens (suc (length others)) place ++ t ∷ []; told = none_told place ++ None ∷ [] }) is.token_is
    ∙ ap (λ (l : List TokenValue). record { worker = suc (length others); list = l; told = none_told place ++ None ∷ [] }) (sym (new_more (suc (length others)) place))
    ∙ ap (λ (l : List (Option Strayed)). record { worker = suc (length others); list = new_tokens (suc (length others)) (place + 1); told = l }) (sym (none_more place)) in
    ap (λ (s : List TokensValue). s ++ next ∷ []) left_is ∙ ap (λ (n : TokensValue). new_seats (place + 1) (length others) ++ n ∷ []) more ∙ ap (new_seats (place + 1)) (sym long)

-- a token that was dealt comes back as it was
pub undealt : (seat dealt left : TokensValue) (token back : TokenValue) → dealt ≡ record seat { list = seat.list ++ token ∷ []; told = seat.told ++ None ∷ [] } → length seat.told ≡ length seat.list → left ≡ shortened dealt → last_token dealt ≡ back ∷ [] → (left ≡ seat) × (back ≡ token)
undealt seat dealt left token back dealt_is alike left_is last =
    let long : length (seat.list ++ token ∷ []) - 1 ≡ length seat.list = omega (arith, length-append seat.list (token ∷ [])) in
    let list : take (length (seat.list ++ token ∷ []) - 1) (seat.list ++ token ∷ []) ≡ seat.list = ap (λ (n : ℕ). take n (seat.list ++ token ∷ [])) long ∙ take-append_seam seat.list (token ∷ []) in
    let told : take (length (seat.list ++ token ∷ []) - 1) (seat.told ++ None ∷ []) ≡ seat.told = ap (λ (n : ℕ). take n (seat.told ++ None ∷ [])) (long ∙ sym alike) ∙ take-append_seam seat.told (None ∷ []) in
    let found : slice_get (seat.list ++ token ∷ []) (length (seat.list ++ token ∷ []) - 1) ≡ Some token = get_end seat.list token (length (seat.list ++ token ∷ []) - 1) long in
    let one : token ∷ [] ≡ back ∷ [] = sym (ap option_to_list found) ∙ ap last_token (sym dealt_is) ∙ last in (
      left_is ∙ ap shortened dealt_is
          ∙ ap (λ (l : List TokenValue). record seat { list = l; told = take (length (seat.list ++ token ∷ []) - 1) (seat.told ++ None ∷ []) }) list
          ∙ ap (λ (l : List (Option Strayed)). record seat { told = l }) told,
      cc (one),
    )
