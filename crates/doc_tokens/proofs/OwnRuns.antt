-- Runs of ASCII letters that fold to themselves.
use Rattle.std.proofs.Common.{◌≡◌, ℕ, zero, suc, ◌+◌, ◌<◌, ◌≤◌, Bool, true, false, cond, ◌&&◌, List, [], ◌∷◌, ◌++◌, map, get_or, take, drop, Option, Some, None, IsUtf8, refl, sym, ◌∙◌, ap, subst, arith}
use Rattle.std.specs.Prelude.{◌==◌}
use Rattle.std.specs.Char.{is_ascii}
use Rattle.std.specs.List.{prefix_len}
use Rattle.std.specs.Option.{option_eq}
use Rattle.std.specs.Str.{chars, IsAscii, IsCharBoundary}
use Rattle.std.proofs.lemmas.Bool.{false≢true}
use Rattle.std.proofs.lemmas.Bool.Decides.{nat_tests}
use Rattle.std.proofs.lemmas.List.{map-append, take-append-drop}
use Rattle.std.proofs.lemmas.List.Sums.{prefix_len_passes, prefix_len-le-length}
use Rattle.std.proofs.lemmas.Str.{chars-append, chars-IsAscii, IsUtf8-from_ascii, IsUtf8-drop, IsCharBoundary-start, IsCharBoundary-after_ascii}
use Rattle.std.proofs.lemmas.Str.Ascii.{IsAscii-nil}
use Rattle.doc_tokens.specs.declared.sign.TextSign.{TextSign}
use Rattle.doc_tokens.specs.declared.sign.TextSign.TheVariants as signs
use Rattle.doc_tokens.specs.TextSigns.{run_sign}
use Rattle.doc_tokens.specs.steps.TokenReader.{plain_signs, is_own, BeginsWithRun}

-- such a character is ASCII, and its sign is the letter itself
both_true : (a b : Bool) → (a && b) ≡ true → (a ≡ true) × (b ≡ true)
both_true true b is = (refl, is)
both_true false b is = absurd (false≢true is)

same_letter : (folded : Option ℕ) (c : ℕ) → option_eq (λ a b. a == b) folded (Some c) ≡ true → run_sign folded false ≡ signs.Letter c
same_letter None c is = absurd (false≢true is)
same_letter (Some d) c is = let same : d ≡ c = grind (arith, nat_tests) in ap signs.Letter same

own_ascii : (fold : ℕ → Option ℕ) (c : ℕ) → is_own fold c ≡ true → c < 128
own_ascii fold c own = let ascii : is_ascii c ≡ true = (both_true (is_ascii c) _ own).0 in grind (arith, nat_tests)

own_sign : (fold : ℕ → Option ℕ) (c : ℕ) → is_own fold c ≡ true → run_sign (fold c) false ≡ signs.Letter c
own_sign fold c own = same_letter (fold c) c (both_true (is_ascii c) _ own).1

-- ASCII bytes, whose signs are these letters
record IsRun (fold : ℕ → Option ℕ) (bytes : List ℕ) : Type 0 where
  pub ascii : IsAscii bytes
  pub letters : plain_signs fold bytes ≡ map signs.Letter bytes

ascii_more : (b : ℕ) (bytes : List ℕ) → b < 128 → IsAscii bytes → IsAscii (b ∷ bytes)
ascii_more b bytes below ascii zero = below
ascii_more b bytes below ascii (suc i) = ascii i

one_more : (fold : ℕ → Option ℕ) (b count : ℕ) (bytes : List ℕ) (own : Bool) → is_own fold b ≡ own → IsRun fold (take count bytes) → IsRun fold (take (cond own (1 + count) 0) (b ∷ bytes))
one_more fold b count bytes true own run =
    let more : IsRun fold (b ∷ take count bytes) = record {
      ascii = ascii_more b (take count bytes) (own_ascii fold b own) run.ascii;
      letters = λ i. own_sign fold b own i ∷ run.letters i;
    } in
    let next : suc count ≡ 1 + count = omega arith in
    subst (λ (n : ℕ). IsRun fold (take n (b ∷ bytes))) next more
one_more fold b count bytes false own run = record { ascii = IsAscii-nil; letters = refl }

front_run : (fold : ℕ → Option ℕ) (bytes : List ℕ) → IsRun fold (take (prefix_len (is_own fold) bytes) bytes)
front_run fold [] = record { ascii = IsAscii-nil; letters = refl }
front_run fold (b ∷ bytes) = one_more fold b (prefix_len (is_own fold) bytes) bytes (is_own fold b) refl (front_run fold bytes)

-- a text may be cut after any of these letters
cut_within : (fold : ℕ → Option ℕ) (text : List ℕ) (n : ℕ) → IsUtf8 text → n ≤ prefix_len (is_own fold) text → IsCharBoundary text n
cut_within fold text zero utf8 within = IsCharBoundary-start text utf8
cut_within fold text (suc k) utf8 within =
    let size = prefix_len-le-length (is_own fold) text in
    let last : get_or text k 0 < 128 = own_ascii fold _ (prefix_len_passes (is_own fold) text k 0 (omega (arith, within))) in
    let next : k + 1 ≡ suc k = omega arith in
    subst (IsCharBoundary text) next (IsCharBoundary-after_ascii text k utf8 (omega (arith, within, size)) last)

pub cut_run : (fold : ℕ → Option ℕ) (text : List ℕ) (n : ℕ) → IsUtf8 text → n ≡ prefix_len (is_own fold) text → IsCharBoundary text n
cut_run fold text n utf8 is = cut_within fold text n utf8 (omega (arith, is))

-- the front of a text up to there, and the text after it
pub cut_parts : (fold : ℕ → Option ℕ) (text run beyond : List ℕ) (n : ℕ) → IsUtf8 text → n ≡ prefix_len (is_own fold) text → run ≡ take n text → beyond ≡ drop n text → BeginsWithRun fold text run beyond
cut_parts fold text run beyond n utf8 is run_is beyond_is =
    let front : IsRun fold run = subst (IsRun fold) (sym (run_is ∙ ap (λ (m : ℕ). take m text) is)) (front_run fold text) in
    let parts : text ≡ run ++ beyond = sym (take-append-drop n text) ∙ (λ i. sym run_is i ++ sym beyond_is i) in
    let read : chars text ≡ run ++ chars beyond =
    ap chars parts ∙ chars-append run beyond (IsUtf8-from_ascii run front.ascii) ∙ ap (λ (cs : List ℕ). cs ++ chars beyond) (chars-IsAscii run front.ascii) in
    record {
      ascii = front.ascii;
      parts = parts;
      utf8 = subst IsUtf8 (sym beyond_is) (IsUtf8-drop text n utf8 (cut_run fold text n utf8 is));
      signs =
          ap (plain_signs fold) read
          ∙ map-append (λ (c : ℕ). run_sign (fold c) false) run (chars beyond)
          ∙ ap (λ (s : List TextSign). s ++ plain_signs fold (chars beyond)) front.letters;
    }
