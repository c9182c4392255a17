-- The least of the parts' next words.
use Rattle.std.proofs.Common.{◌≡◌, ◌≢◌, ℕ, zero, suc, ◌+◌, ◌<◌, ◌≤◌, List, [], ◌∷◌, Bool, true, false, cond, ◌==◌, Option, Some, None, if◌then◌else◌, nat_le, nat_lt, slice_get, length, get_or, refl, sym, ap, subst, ◌∙◌, arith, All, ◌⊎◌, ⊎_elim}
use Rattle.std.proofs.lemmas.Bool.Decides.{nat_tests}
use Rattle.std.proofs.lemmas.List.{get_or_default}
use Rattle.std.proofs.lemmas.Option.{get_or_from_slice_get, slice_get_within}
use Rattle.doc_types.specs.Chunks.{AreWordsOf}
use Rattle.image_write.specs.Heads.{tells}
use Rattle.image_join.specs.steps.Merging.{IsBefore, IsDone, IsHeadOf, IsLeast, IsLeastHead, StandAt, StandsAt, is_ahead, less, lesser, next_at, with_head}
use Rattle.image_join.specs.declared.nexts.Next.{Next}
use Rattle.image_join.specs.declared.nexts.TheConstants.{NO_HEAD}
use Rattle.image_join.specs.steps.Parts.{PartValue, blank_part, part_at}
use Rattle.image_join.proofs.Headed.{behind_head, behind_told, one}
use Rattle.image_join.proofs.Order.{not_back, not_itself, not_less}

clash : (b : Bool) → b ≡ true → b ≡ false → ⊥
clash b one two = let e : true ≡ false = sym one ∙ two in cc

-- words at two numbers of a part
pub in_order : (part : PartValue) (n m : ℕ) (word other : List ℕ) → AreWordsOf part.rows part.words → n < m → slice_get part.words n ≡ Some word → slice_get part.words m ≡ Some other → less word other ≡ true
in_order part n m word other are low at behind =
    let within : m < length part.words = slice_get_within part.words m other behind in
    let one : get_or part.words n word ≡ word = get_or_from_slice_get part.words n word word at in
    let two : get_or part.words m word ≡ other = get_or_from_slice_get part.words m other word behind in
    let up = are.ascend n m word low within in
    let less_told : less (get_or part.words n word) (get_or part.words m word) ≡ true = rw up refl in
    subst (λ o. less word o ≡ true) two (subst (λ o. less o (get_or part.words m word) ≡ true) one less_told)

le_true : (a b : ℕ) → a ≤ b → nat_le a b ≡ true
le_true a b low = grind (arith, nat_tests)

le_false : (a b : ℕ) → b < a → nat_le a b ≡ false
le_false a b low = grind (arith, nat_tests)

pub le_told : (a b : ℕ) → nat_le a b ≡ true → a ≤ b
le_told a b e = grind (arith, nat_tests)

module _ (last : Option (List ℕ)) (part : PartValue) (next : Next) (are : AreWordsOf part.rows part.words) (stands : StandsAt last part next) where
  -- the part's next word is ahead, and the first that is
  pub front_ahead : (front : List ℕ) → slice_get part.words next.number ≡ Some front → is_ahead last front ≡ true
  front_ahead front at = stands.split next.number front at ∙ le_true next.number next.number (omega arith)

  front_first : (front : List ℕ) → slice_get part.words next.number ≡ Some front → IsBefore last front part
  front_first front at = record {
    least = λ n other here ahead.
        let low : next.number ≤ n = le_told next.number n (sym (stands.split n other here) ∙ ahead) in
        ⊎_elim
        (λ same. let one : front ≡ other = same_at part.words next.number n front other same at here in subst (λ o. less o front ≡ false) one (not_itself front))
        (λ behind. not_back front other (in_order part next.number n front other are behind at here))
        (equal_or_behind next.number n low);
  }
    where
      same_at : (words : List (List ℕ)) (a b : ℕ) (word other : List ℕ) → a ≡ b → slice_get words a ≡ Some word → slice_get words b ≡ Some other → word ≡ other
      same_at words a b word other same at here = let both : Some word ≡ Some other = sym at ∙ ap (slice_get words) same ∙ here in cc

      equal_or_behind : (a b : ℕ) → a ≤ b → (a ≡ b) ⊎ (a < b)
      equal_or_behind a b low = grind arith

  -- where it has none, none is ahead
  pub front_done : slice_get part.words next.number ≡ None → IsDone last part
  front_done at = record {
    none = λ n word here.
        let within : n < length part.words = slice_get_within part.words n word here in
        let past : length part.words ≤ next.number = past_end part.words next.number at in
        stands.split n word here ∙ le_false next.number n (omega (arith, within, past));
  }
    where
      past_end : (words : List (List ℕ)) (head : ℕ) → slice_get words head ≡ None → length words ≤ head
      past_end [] head e = omega arith
      past_end (w ∷ ws) zero e = absurd cc
      past_end (w ∷ ws) (suc head) e = let rest = past_end ws head e in omega (arith, rest)

  -- no word of the part that is ahead stands before one that its next word doesn't stand before
  pub front_before : (word : List ℕ) → ((front : List ℕ) → slice_get part.words next.number ≡ Some front → less front word ≡ false) → IsBefore last word part
  front_before word low = by_front (slice_get part.words next.number) refl
    where
      by_front : (front : Option (List ℕ)) → slice_get part.words next.number ≡ front → IsBefore last word part
      by_front None at = record { least = λ n own here ahead. absurd (clash (is_ahead last own) ahead ((front_done at).none n own here)) }
      by_front (Some front) at = record { least = λ n own here ahead. not_less own front word ((front_first front at).least n own here ahead) (low front at) }

-- no word has a head that tells and is none
no_tell : (number : ℕ) → number ≡ NO_HEAD → tells number ≡ true → ⊥
no_tell number same tell = clash (tells NO_HEAD) (ap tells (sym same) ∙ tell) refl

-- the next word is this one where both have one head that tells it
pub next_told : (part : PartValue) (next : Next) (word : List ℕ) (number : ℕ) → IsHeadOf (slice_get part.words next.number) next.head → IsHeadOf (Some word) number → next.head ≡ number → tells number ≡ true → slice_get part.words next.number ≡ Some word
next_told part next word number is its same tell = by_front (slice_get part.words next.number) refl
  where
    by_front : (front : Option (List ℕ)) → slice_get part.words next.number ≡ front → slice_get part.words next.number ≡ Some word
    by_front None at = absurd (no_tell number (sym same ∙ subst (λ o. IsHeadOf o next.head) at is) tell)
    by_front (Some front) at = at ∙ ap Some (one front word next.head number (subst (λ o. IsHeadOf o next.head) at is) its same tell)

-- the next word of the part of this number
abbrev pub front_at : List PartValue → List Next → ℕ → Option (List ℕ)
front_at parts nexts k = slice_get (part_at parts k).words (next_at nexts k).number

-- the least of the next words that have this head, up to here, where none has a smaller one
abbrev pub IsLeastTo : Option (List ℕ) → List PartValue → List Next → ℕ → ℕ → Option (List ℕ) → Type 0
IsLeastTo last parts nexts number i None = (k : ℕ) → k < i → (front : List ℕ) → front_at parts nexts k ≡ Some front → number < (next_at nexts k).head
IsLeastTo last parts nexts number i (Some word) = IsHeadOf (Some word) number × (is_ahead last word ≡ true) × ((k : ℕ) → k < i → (front : List ℕ) → front_at parts nexts k ≡ Some front → less front word ≡ false)

equal_or_below : (a b : ℕ) → a < b + 1 → (a ≡ b) ⊎ (a < b)
equal_or_below a b low = grind arith

equal_or_apart : (a b : ℕ) → (a ≡ b) ⊎ ((a + 1 ≤ b) ⊎ (b + 1 ≤ a))
equal_or_apart a b = grind arith

one_more : (P : ℕ → Type 0) (i : ℕ) → ((k : ℕ) → k < i → P k) → P i → (k : ℕ) → k < i + 1 → P k
one_more P i was here k low = ⊎_elim (λ same. subst P (sym same) here) (λ below. was k below) (equal_or_below k i low)

less_told : (a b : ℕ) → nat_lt a b ≡ true → a < b
less_told a b e = grind (arith, nat_tests)

not_less_told : (a b : ℕ) → nat_lt a b ≡ false → b ≤ a
not_less_told a b e = grind (arith, nat_tests)

same_told : (a b : ℕ) → (a == b) ≡ true → a ≡ b
same_told a b e = grind (arith, nat_tests)

other_told : (a b : ℕ) → a ≤ b → (b == a) ≡ false → a < b
other_told a b low e = grind (arith, nat_tests)

module _ (nexts : List Next) (i place number : ℕ) (was : IsLeastHead nexts i place number) where
  abbrev own : ℕ
  own = (next_at nexts i).head

  greater_kept : number ≤ own → own ≤ NO_HEAD → IsLeastHead nexts (i + 1) place number
  greater_kept low within = record {
    within = was.within;
    least = one_more (λ k. number ≤ (next_at nexts k).head) i was.least low;
    here = λ some. let at = was.here some in (omega (arith, at.0), at.1);
    none = λ same. one_more (λ k. (next_at nexts k).head ≡ NO_HEAD) i (was.none same) (omega (arith, low, within, same));
  }

  smaller_taken : own < number → IsLeastHead nexts (i + 1) i own
  smaller_taken less = record {
    within = omega (arith, less, was.within);
    least = one_more (λ k. own ≤ (next_at nexts k).head) i (λ k low. let at = was.least k low in omega (arith, at, less)) (omega arith);
    here = λ some. (omega arith, refl);
    none = λ same. absurd (omega (arith, less, was.within, same));
  }

  -- one head more
  pub heads_more : (next_place next_number : ℕ) → next_place ≡ (if nat_lt own number then i else place) → next_number ≡ (if nat_lt own number then own else number) → own ≤ NO_HEAD → IsLeastHead nexts (i + 1) next_place next_number
  heads_more next_place next_number at is within =
      subst (λ p. IsLeastHead nexts (i + 1) p next_number) (sym at) (subst (IsLeastHead nexts (i + 1) (if nat_lt own number then i else place)) (sym is) (by_test (nat_lt own number) refl))
    where
      by_test : (b : Bool) → nat_lt own number ≡ b → IsLeastHead nexts (i + 1) (cond b i place) (cond b own number)
      by_test true e = smaller_taken (less_told own number e)
      by_test false e = greater_kept (not_less_told own number e) within

nothing : (word : List ℕ) → None ≡ Some word → ⊥
nothing word e = cc

some_same : (word own : List ℕ) → Some word ≡ Some own → word ≡ own
some_same word own e = cc

no_lesser : (word : Option (List ℕ)) → lesser word None ≡ word
no_lesser None = refl
no_lesser (Some word) = refl

module _ (last : Option (List ℕ)) (parts : List PartValue) (nexts : List Next) (are : All (λ part. AreWordsOf part.rows part.words) parts) (stand : StandAt last parts nexts) where
  head_at : (k : ℕ) (front : List ℕ) → k < length parts → front_at parts nexts k ≡ Some front → IsHeadOf (Some front) (next_at nexts k).head
  head_at k front low at = subst (λ o. IsHeadOf o (next_at nexts k).head) at (stand.each k low).headed

  ahead_at : (k : ℕ) (front : List ℕ) → k < length parts → front_at parts nexts k ≡ Some front → is_ahead last front ≡ true
  ahead_at k front low at = front_ahead last (part_at parts k) (next_at nexts k) (are k blank_part low) (stand.each k low) front at

  -- a next word is the least where none stands before it
  least_of_all : (word : List ℕ) → is_ahead last word ≡ true → ((k : ℕ) → k < length parts → (front : List ℕ) → front_at parts nexts k ≡ Some front → less front word ≡ false) → IsLeast last parts word
  least_of_all word ahead none = record {
    ahead = ahead;
    each = λ k d low. subst (IsBefore last word) (get_or_default parts k blank_part d low) (front_before last (part_at parts k) (next_at nexts k) (are k blank_part low) (stand.each k low) word (none k low));
  }

  module _ (place number : ℕ) (least : IsLeastHead nexts (length nexts) place number) where
    low_at : (k : ℕ) → k < length parts → number ≤ (next_at nexts k).head
    low_at k low = least.least k (omega (arith, low, stand.long))

    -- the least head, where it tells its word
    pub least_told : (word : List ℕ) → tells number ≡ true → front_at parts nexts place ≡ Some word → IsLeast last parts word × IsHeadOf (Some word) number
    least_told word tell at =
        let here = least.here (λ same. no_tell number same tell) in
        let within : place < length parts = omega (arith, here.0, stand.long) in
        let is : IsHeadOf (Some word) number = subst (IsHeadOf (Some word)) here.1 (head_at place word within at) in
        (least_of_all word (ahead_at place word within at) (λ k low front own. behind_told front word (next_at nexts k).head number (head_at k front low own) is (low_at k low) tell), is)

    abbrev to : ℕ → Option (List ℕ) → Type 0
    to i word = IsLeastTo last parts nexts number i word

    abbrev IsGreater : ℕ → Type 0
    IsGreater k = (front : List ℕ) → front_at parts nexts k ≡ Some front → number < (next_at nexts k).head

    abbrev NotBefore : List ℕ → ℕ → Type 0
    NotBefore word k = (front : List ℕ) → front_at parts nexts k ≡ Some front → less front word ≡ false

    greater_passed : (i : ℕ) (now : Option (List ℕ)) → i < length parts → number < (next_at nexts i).head → to i now → to (i + 1) now
    greater_passed i None low more was = one_more IsGreater i was (λ front at. more)
    greater_passed i (Some word) low more was = (was.0, was.1, one_more (NotBefore word) i was.2 (λ front at. behind_head front word (next_at nexts i).head number (head_at i front low at) was.0 more))

    none_passed : (i : ℕ) (now : Option (List ℕ)) → front_at parts nexts i ≡ None → to i now → to (i + 1) now
    none_passed i None none was = one_more IsGreater i was (λ front at. absurd (nothing front (sym none ∙ at)))
    none_passed i (Some word) none was = (was.0, was.1, one_more (NotBefore word) i was.2 (λ front at. absurd (nothing front (sym none ∙ at))))

    taken : (i : ℕ) (now : Option (List ℕ)) (front : List ℕ) → i < length parts → front_at parts nexts i ≡ Some front → (next_at nexts i).head ≡ number → to i now → to (i + 1) (lesser now (Some front))
    taken i None front low at same was =
        let is : IsHeadOf (Some front) number = subst (IsHeadOf (Some front)) same (head_at i front low at) in
        (is, ahead_at i front low at, one_more (NotBefore front) i (λ k below own here. behind_head own front (next_at nexts k).head number (head_at k own (omega (arith, below, low)) here) is (was k below own here)) (λ own here. subst (λ o. less o front ≡ false) (some_same front own (sym at ∙ here)) (not_itself front)))
    taken i (Some word) front low at same was =
        let is : IsHeadOf (Some front) number = subst (IsHeadOf (Some front)) same (head_at i front low at) in
        elim (less front word) as (λ b. less front word ≡ b → to (i + 1) (cond b (Some front) (Some word))) [
          | true ↦ λ e. (is, ahead_at i front low at, one_more (NotBefore front) i (λ k below own here. not_less own word front (was.2 k below own here) (not_back front word e)) (λ own here. subst (λ o. less o front ≡ false) (some_same front own (sym at ∙ here)) (not_itself front)))
          | false ↦ λ e. (was.0, was.1, one_more (NotBefore word) i was.2 (λ own here. subst (λ o. less o word ≡ false) (some_same front own (sym at ∙ here)) e))
        ] refl

    -- one part more
    least_more : (i : ℕ) (now : Option (List ℕ)) → i < length parts → to i now → to (i + 1) (lesser now (with_head number (next_at nexts i) (front_at parts nexts i)))
    least_more i now low was =
        elim ((next_at nexts i).head == number) as (λ b. ((next_at nexts i).head == number) ≡ b → to (i + 1) (lesser now (cond b (front_at parts nexts i) None))) [
          | true ↦ λ e. by_front (same_told (next_at nexts i).head number e) (front_at parts nexts i) refl
          | false ↦ λ e. subst (to (i + 1)) (sym (no_lesser now)) (greater_passed i now low (other_told number (next_at nexts i).head (low_at i low) e) was)
        ] refl
      where
        by_front : (next_at nexts i).head ≡ number → (front : Option (List ℕ)) → front_at parts nexts i ≡ front → to (i + 1) (lesser now front)
        by_front same None at = subst (to (i + 1)) (sym (no_lesser now)) (none_passed i now at was)
        by_front same (Some front) at = taken i now front low at same was

    pub least_put : (i : ℕ) (part : PartValue) (now own after : Option (List ℕ)) → i < length parts → part ≡ get_or parts i part → own ≡ with_head number (next_at nexts i) (slice_get part.words (next_at nexts i).number) → after ≡ lesser now own → to i now → to (i + 1) after
    least_put i part now own after low is with put was =
        let here : part ≡ part_at parts i = is ∙ get_or_default parts i part blank_part low in
        let its : own ≡ with_head number (next_at nexts i) (front_at parts nexts i) = with ∙ ap (λ (p : PartValue). with_head number (next_at nexts i) (slice_get p.words (next_at nexts i).number)) here in
        subst (to (i + 1)) (sym (put ∙ ap (lesser now) its)) (least_more i now low was)

    -- at the end
    pub least_found : (i : ℕ) (word : List ℕ) → length parts ≤ i → to i (Some word) → IsLeast last parts word
    least_found i word past is = least_of_all word is.1 (λ k low. is.2 k (omega (arith, low, past)))

    pub none_left : (i : ℕ) → length parts ≤ i → to i None → All (IsDone last) parts
    none_left i past is k d low =
        subst (IsDone last) (get_or_default parts k blank_part d low) (front_done last (part_at parts k) (next_at nexts k) (are k blank_part low) (stand.each k low) (none (front_at parts nexts k) refl))
      where
        no_place : number ≢ NO_HEAD → (front : Option (List ℕ)) → front_at parts nexts place ≡ front → ⊥
        no_place some None at =
            let here = least.here some in
            let headed : IsHeadOf (front_at parts nexts place) (next_at nexts place).head = (stand.each place (omega (arith, here.0, stand.long))).headed in
            some (sym here.1 ∙ subst (λ o. IsHeadOf o (next_at nexts place).head) at headed)
        no_place some (Some front) at =
            let here = least.here some in
            let more : number < (next_at nexts place).head = is place (omega (arith, here.0, stand.long, past)) front at in
            omega (arith, more, here.1)

        none : (front : Option (List ℕ)) → front_at parts nexts k ≡ front → front_at parts nexts k ≡ None
        none None at = at
        none (Some front) at =
            let more : number < (next_at nexts k).head = is k (omega (arith, low, past)) front at in
            absurd (⊎_elim
            (λ same. let its = least.none same k (omega (arith, low, stand.long)) in omega (arith, more, same, its))
            (λ other. no_place (λ same. ⊎_elim (λ low. omega (arith, same, low)) (λ high. omega (arith, same, high)) other) (front_at parts nexts place) refl)
            (equal_or_apart number NO_HEAD))
