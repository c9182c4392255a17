-- Words that can be read one after the other are the words of a field.
use Rattle.std.proofs.Common.{◌≡◌, ℕ, zero, suc, ◌+◌, ◌<◌, ◌≤◌, All, true, List, [], ◌∷◌, refl, arith}
use Rattle.std.proofs.lemmas.Bool.Decides.{nat_tests}
use Rattle.std.proofs.lemmas.List.Elements.{All-cons, All-head, All-tail}
use Rattle.std.proofs.lemmas.List.Kept.{AllPairs-cons}
use Rattle.doc_types.specs.Documents.{BeginPlain, Follow, IsWord, step}
use Rattle.doc_types.specs.declared.tokens.TheConstants.{MAX_POSITION}
use Rattle.doc_types.specs.declared.tokens.Gap.{Gap}
use Rattle.doc_types.specs.declared.tokens.Gap.TheVariants as gaps
use Rattle.doc_types.specs.declared.tokens.TokenWord.{TokenWord}
use Rattle.byte_fields.specs.Fields.{AllFrom}
use Rattle.doc_bytes.specs.Reading.{may_stand}
use Rattle.doc_bytes.specs.steps.Sorted.{AreSorted}
use Rattle.doc_bytes.proofs.Fitting.{some_step}
use Rattle.doc_bytes.proofs.Words.{MayFollow}

-- the words behind a position, as the rules of documents have them
pub record ArePlacedBehind (before : ℕ) (words : List TokenWord) : Type 0 where
  pub each : All (λ token. IsWord token.word) words
  pub follow : Follow before words
  pub within : All (λ token. token.position ≤ MAX_POSITION) words
  pub begin : before ≡ 0 → BeginPlain words

fits_in : (before : ℕ) (gap : Gap) → may_stand before gap ≡ true → before + step gap ≤ MAX_POSITION
fits_in before gaps.None e = grind (arith, nat_tests)
fits_in before gaps.Sentence e = grind (arith, nat_tests)
fits_in before gaps.Paragraph e = grind (arith, nat_tests)

is_plain : (before : ℕ) (gap : Gap) → may_stand before gap ≡ true → before ≡ 0 → gap ≡ gaps.None
is_plain before gaps.None e is = refl
is_plain before gaps.Sentence e is = absurd (grind (arith, nat_tests))
is_plain before gaps.Paragraph e is = absurd (grind (arith, nat_tests))

stands : (before : ℕ) (gap : Gap) → before + step gap ≤ MAX_POSITION → (before ≡ 0 → gap ≡ gaps.None) → may_stand before gap ≡ true
stands before gaps.None fits plain = grind (arith, nat_tests)
stands zero gaps.Sentence fits plain = absurd (cc (plain refl))
stands (suc before) gaps.Sentence fits plain = grind (arith, nat_tests)
stands zero gaps.Paragraph fits plain = absurd (cc (plain refl))
stands (suc before) gaps.Paragraph fits plain = grind (arith, nat_tests)

pub placed_from : (before : ℕ) (words : List TokenWord) → AllFrom MayFollow (λ word. word.position) before words → ArePlacedBehind before words
placed_from before [] all = record { each = λ i d h. absurd (omega arith); follow = tt; within = λ i d h. absurd (omega arith); begin = λ is. tt }
placed_from before (word ∷ words) all =
    let rest = placed_from word.position words all.1 in
    let low : word.position ≤ MAX_POSITION = omega (arith, all.0.position, fits_in before word.gap all.0.stands) in
    record {
      each = All-cons (λ (token : TokenWord). IsWord token.word) word words all.0.word rest.each;
      follow = (all.0.position, rest.follow);
      within = All-cons (λ (token : TokenWord). token.position ≤ MAX_POSITION) word words low rest.within;
      begin = λ is. is_plain before word.gap all.0.stands is;
    }

pub from_placed : (before : ℕ) (words : List TokenWord) → ArePlacedBehind before words → AllFrom MayFollow (λ word. word.position) before words
from_placed before [] placed = tt
from_placed before (word ∷ words) placed =
    let low : word.position ≤ MAX_POSITION = All-head (λ (token : TokenWord). token.position ≤ MAX_POSITION) word words placed.within in
    let some : 1 ≤ step word.gap = some_step word.gap in (
      record {
        word = All-head (λ (token : TokenWord). IsWord token.word) word words placed.each;
        position = placed.follow.0;
        stands = stands before word.gap (omega (arith, placed.follow.0, low)) (λ is. placed.begin is);
      },
      from_placed word.position words (record {
        each = All-tail (λ (token : TokenWord). IsWord token.word) word words placed.each;
        follow = placed.follow.1;
        within = All-tail (λ (token : TokenWord). token.position ≤ MAX_POSITION) word words placed.within;
        begin = λ is. absurd (omega (arith, is, placed.follow.0, some));
      }),
    )

-- words that follow a position stand behind it, and each before the later ones
behind : (before : ℕ) (words : List TokenWord) → Follow before words → All (λ token. before < token.position) words
behind before [] follow = λ i d h. absurd (omega arith)
behind before (word ∷ words) follow =
    let some : 1 ≤ step word.gap = some_step word.gap in
    let later = behind word.position words follow.1 in
    All-cons (λ (token : TokenWord). before < token.position) word words (omega (arith, follow.0, some)) (λ i d h. omega (arith, later i d h, follow.0))

pub sorted : (before : ℕ) (words : List TokenWord) → Follow before words → AreSorted words
sorted before [] follow = λ i j d low high. absurd (omega arith)
sorted before (word ∷ words) follow = AllPairs-cons (λ (a b : TokenWord). a.position < b.position) word words (behind word.position words follow.1) (sorted word.position words follow.1)
