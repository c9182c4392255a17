-- All tokens are told the whole history.
use Rattle.std.proofs.Common.{◌≡◌, ⊎_elim, ℕ, List, [], ◌∷◌, Option, Some, None, refl, sym, ◌∙◌, ap, subst}
use Rattle.std.specs.List.{AllZip}
use Rattle.std.specs.Option.{option_or}
use mathlib.Core.List.{IsPrefix}
use Rattle.step_book.proofs.Prefixes.{prefix_whole}
use Rattle.step_history.specs.History.{Base, Step}
use Rattle.step_line.specs.Lines.{LineValue}
use Rattle.step_tokens.specs.Tokens.{IsSameBut, TokenValue}
use Rattle.store_steps.specs.Refusals.{stray_of}
use Rattle.store_keep.specs.Commits.{front_of}
use Rattle.store_keep.specs.Tellings.{AreOfIndex, AreTokensOf, HasSeenAll, IsTold, first_stray}
use Rattle.store_keep.proofs.Straying.{counts_alike, seen_within}

none_first : {X : Type 0} (a b : Option X) → option_or a b ≡ None → a ≡ None
none_first None b is = refl
none_first (Some x) b is = absurd (cc (is))

none_second : {X : Type 0} (a b : Option X) → option_or a b ≡ None → b ≡ None
none_second None b is = is
none_second (Some x) b is = absurd (cc (is))

with_seen : (old new : TokenValue) (seen : List Step) → IsSameBut old new → new.seen ≡ seen → new ≡ record old { seen = seen }
with_seen old new seen same is =
    ap (λ (x : ℕ). record { index = x; worker = new.worker; seen = new.seen; made = new.made; faults = new.faults; stops = new.stops; entered = new.entered }) same.index
    ∙ ap (λ (x : ℕ). record { index = old.index; worker = x; seen = new.seen; made = new.made; faults = new.faults; stops = new.stops; entered = new.entered }) same.worker
    ∙ ap (λ (x : ℕ). record { index = old.index; worker = old.worker; seen = new.seen; made = x; faults = new.faults; stops = new.stops; entered = new.entered }) same.made
    ∙ ap (λ (x : List ℕ). record { index = old.index; worker = old.worker; seen = new.seen; made = old.made; faults = x; stops = new.stops; entered = new.entered }) same.faults
    ∙ ap (λ (x : List ℕ). record { index = old.index; worker = old.worker; seen = new.seen; made = old.made; faults = old.faults; stops = x; entered = new.entered }) same.stops
    ∙ ap (λ (x : Option (List Step)). record { index = old.index; worker = old.worker; seen = new.seen; made = old.made; faults = old.faults; stops = old.stops; entered = x }) same.entered
    ∙ ap (λ (x : List Step). record { index = old.index; worker = old.worker; seen = x; made = old.made; faults = old.faults; stops = old.stops; entered = old.entered }) is

-- tokens of a line are of its index
pub of_index : (line : LineValue) (tokens : List TokenValue) → AreTokensOf line tokens → AreOfIndex line.index tokens
of_index line [] of = tt
of_index line (token ∷ tokens) of = (of.0, of_index line tokens of.3)

-- a token that doesn't contradict the keeper has seen the whole history then
has_all : (base : Base) (line : LineValue) (old new : TokenValue) → stray_of base line old ≡ None → IsTold (front_of line) old new → HasSeenAll line old new
has_all base line old new none told =
    let seen : new.seen ≡ line.history = ⊎_elim (λ (same : new.seen ≡ old.seen). same ∙ sym (prefix_whole line.history old.seen (subst (λ (s : List Step). IsPrefix line.history s) same told.told) (seen_within base line old none))) (λ (is : new.seen ≡ line.history). is) told.one in
    record {
      is = with_seen old new line.history told.same seen;
      before = subst (λ (s : List Step). IsPrefix old.seen s) seen told.before;
      counts = counts_alike base line old none;
    }

-- and so have all
pub all_have : (base : Base) (line : LineValue) (old new : List TokenValue) → first_stray base line old ≡ None → AllZip (IsTold (front_of line)) old new → AllZip (HasSeenAll line) old new
all_have base line [] [] none told = tt
all_have base line [] (token ∷ new) none told = absurd told
all_have base line (token ∷ old) [] none told = absurd told
all_have base line (token ∷ old) (after ∷ new) none told =
    (has_all base line token after (none_first (stray_of base line token) (first_stray base line old) none) told.0, all_have base line old new (none_second (stray_of base line token) (first_stray base line old) none) told.1)
