-- Which words are listed, and that occurrences hold them all.
use Rattle.std.proofs.Common.{◌≡◌, ℕ, ◌+◌, ◌-◌, ◌<◌, ◌≤◌, Bool, true, false, ◌&&◌, ◌==◌, not, cond, List, [], ◌∷◌, ◌++◌, length, take, get_or, refl, sym, ap, subst, ◌∙◌, inl, inr, arith, All, nat_le}
use Rattle.std.specs.List.{list_any, list_all, range_with_len}
use Rattle.std.proofs.lemmas.Bool.{cases_Bool, true≢false, eq-eqb, eqb-true, not_from_true}
use Rattle.std.proofs.lemmas.List.Elements.{All-push, All-tail}
use Rattle.std.proofs.lemmas.List.Folds.{list_all-append, list_all_at, Any-from_list_any}
use Rattle.doc_types.specs.declared.tokens.ZoneSpan.{ZoneSpan}
use Rattle.occ_lists.specs.declared.occ.Occ.{Occ}
use Rattle.occ_lists.specs.declared.term.Term.{Term}
use Rattle.occ_lists.specs.declared.wanted.Wanted.{Wanted}
use Rattle.occ_lists.specs.Places.{has_place}
use Rattle.occ_lists.specs.Windows.{Listed, held, holds_all, stands, times}
use Rattle.occ_lists.specs.Terms.{listed_in}
use Rattle.occ_lists.specs.steps.Wanted.{AreWanted, IsReady, IsWanted, held_of, holds_words}
use Rattle.occ_lists.proofs.Counts.{count_agree, count_cons}
use Rattle.occ_lists.proofs.Gathering.{listed_more, listing}

and_true : (b : Bool) → (b && true) ≡ b
and_true true = refl
and_true false = refl

and_false : (b : Bool) → (b && false) ≡ false
and_false true = refl
and_false false = refl

-- a word that is there already
known_again : (test : ℕ → Bool) (word : ℕ) (words : List Wanted) → list_any (λ w. w.word == word) words ≡ true → list_all (λ w. test w.word) words ≡ (list_all (λ w. test w.word) words && test word)
known_again test word words known = elim (cases_Bool (test word)) [
  | inl passes ↦ sym (ap (λ b. list_all (λ w. test w.word) words && b) passes ∙ and_true (list_all (λ w. test w.word) words))
  | inr fails ↦
      let found = Any-from_list_any (λ (w : Wanted). w.word == word) words known in
      let same : (get_or words found.0 found.1).word ≡ word = ap (λ w. w.word) found.3 ∙ eqb-true found.1.word word found.4 in
      list_all_at (λ (w : Wanted). test w.word) words found.0 found.1 found.2 (ap test same ∙ fails)
      ∙ sym (ap (λ b. list_all (λ w. test w.word) words && b) fails ∙ and_false (list_all (λ w. test w.word) words))
]

-- The words of these keywords, with what all the listed ones say of them.
pub record HasWords (listed front : List Listed) (words : List Wanted) : Type 0 where
  pub each : All (λ wanted. IsWanted listed wanted.word wanted) words
  pub all : (test : ℕ → Bool) → list_all (λ w. test w.word) words ≡ list_all (λ l. test l.word) front

front_push : (test : ℕ → Bool) (front : List Listed) (l : Listed) → list_all (λ x. test x.word) (front ++ l ∷ []) ≡ (list_all (λ x. test x.word) front && test l.word)
front_push test front l = list_all-append (λ (x : Listed). test x.word) front (l ∷ []) ∙ ap (λ b. list_all (λ x. test x.word) front && b) (and_true (test l.word))

words_known : (listed front : List Listed) (l : Listed) (words : List Wanted) → list_any (λ w. w.word == l.word) words ≡ true → HasWords listed front words → HasWords listed (front ++ l ∷ []) words
words_known listed front l words known before = record {
  each = before.each;
  all = λ test. known_again test l.word words known ∙ ap (λ b. b && test l.word) (before.all test) ∙ sym (front_push test front l);
}

itself : (listed : List Listed) (word : ℕ) (wanted : Wanted) → IsWanted listed word wanted → IsWanted listed wanted.word wanted
itself listed word wanted is = subst (λ n. IsWanted listed n wanted) (sym is.is) is

words_push : (listed front : List Listed) (l : Listed) (words : List Wanted) (wanted : Wanted) → IsWanted listed l.word wanted → HasWords listed front words → HasWords listed (front ++ l ∷ []) (words ++ wanted ∷ [])
words_push listed front l words wanted is before = record {
  each = All-push (λ w. IsWanted listed w.word w) words wanted before.each (itself listed l.word wanted is);
  all = λ test.
      list_all-append (λ (w : Wanted). test w.word) words (wanted ∷ [])
      ∙ ap (λ b. list_all (λ w. test w.word) words && b) (and_true (test wanted.word) ∙ ap test is.is)
      ∙ ap (λ b. b && test l.word) (before.all test)
      ∙ sym (front_push test front l);
}

module _ (spans : List (ℕ × ZoneSpan)) (terms : List Term) (i : ℕ) (term : Term) (within : i < length terms) (is : term ≡ get_or terms i term) (listed : List Listed) (words : List Wanted) where
  pub known_more : list_any (λ w. w.word == term.word) words ≡ true → HasWords listed (listed_in spans (take i terms)) words → HasWords listed (listed_in spans (take (i + 1) terms)) words
  known_more known before =
      subst (λ (front : List Listed). HasWords listed front words) (sym (listed_more spans terms i term within is))
      (words_known listed (listed_in spans (take i terms)) (listing spans term) words known before)

  pub new_more : (after : List Wanted) (wanted : Wanted) → IsWanted listed term.word wanted → after ≡ words ++ wanted ∷ [] → HasWords listed (listed_in spans (take i terms)) words → HasWords listed (listed_in spans (take (i + 1) terms)) after
  new_more after wanted more grown before =
      subst (λ (ws : List Wanted). HasWords listed (listed_in spans (take (i + 1) terms)) ws) (sym grown)
      (subst (λ (front : List Listed). HasWords listed front (words ++ wanted ∷ [])) (sym (listed_more spans terms i term within is))
      (words_push listed (listed_in spans (take i terms)) (listing spans term) words wanted more before))

-- ---- what follows for listed words
-- a word that some keyword has is listed
counted : (word : ℕ) (listed : List Listed) → list_all (λ l. not (l.word == word)) listed ≡ false → 1 ≤ times word listed
counted word [] fails = absurd (true≢false fails)
counted word (l ∷ listed) fails =
    subst (λ n. 1 ≤ n) (sym (count_cons (λ (x : Listed). x.word == word) l listed))
    (elim (l.word == word) as (λ b. (not b && list_all (λ x. not (x.word == word)) listed) ≡ false → 1 ≤ cond b 1 0 + times word listed) [
      | true ↦ λ e. omega arith
      | false ↦ λ e. let rest : 1 ≤ times word listed = counted word listed e in omega arith
    ] fails)

pub all_ready : (listed : List Listed) (words : List Wanted) → AreWanted listed words → All IsReady words
all_ready listed words are k d within =
    let wanted : Wanted = get_or words k d in
    let here = are.each k d within in
    let test : ℕ → Bool = λ n. not (n == wanted.word) in
    let fails : list_all (λ w. test w.word) words ≡ false = list_all_at (λ (w : Wanted). test w.word) words k d within (not_from_true (wanted.word == wanted.word) (eq-eqb wanted.word wanted.word refl)) in
    record {
      some = let listed_once : 1 ≤ times wanted.word listed = counted wanted.word listed (sym (are.all test) ∙ fails) in omega (arith, here.often);
      ascend = here.ascend;
    }

-- tests that agree at each element
pub all_alike : {X : Type 0} (p q : X → Bool) (xs : List X) → All (λ x. p x ≡ q x) xs → list_all p xs ≡ list_all q xs
all_alike p q [] alike = refl
all_alike p q (x ∷ xs) alike = ap (λ b. b && list_all p xs) (alike 0 x (omega arith)) ∙ ap (λ b. q x && b) (all_alike p q xs (All-tail (λ y. p y ≡ q y) x xs alike))

held_alike : (listed : List Listed) (wanted : Wanted) (o : Occ) → IsWanted listed wanted.word wanted → nat_le wanted.times (held_of wanted.places.items o) ≡ nat_le (times wanted.word listed) (held listed wanted.word o)
held_alike listed wanted o is =
    ap (λ n. nat_le n (held_of wanted.places.items o)) is.often
    ∙ ap (nat_le (times wanted.word listed))
    (count_agree (λ position. has_place wanted.places.items (o.field, position)) (λ position. stands listed wanted.word (o.field, position)) (λ position. is.stand (o.field, position)) (range_with_len o.first (o.last + 1 - o.first)))

-- an occurrence holds all that are listed exactly where it holds the words
pub holds_alike : (listed : List Listed) (words : List Wanted) → AreWanted listed words → (o : Occ) → holds_words words o ≡ holds_all listed o
holds_alike listed words are o =
    let test : ℕ → Bool = λ word. nat_le (times word listed) (held listed word o) in
    all_alike (λ w. nat_le w.times (held_of w.places.items o)) (λ w. test w.word) words (λ k d h. held_alike listed (get_or words k d) o (are.each k d h))
    ∙ are.all test
