-- What is appended piece by piece.
use Rattle.std.proofs.Common.{◌≡◌, ℕ, suc, ◌+◌, ◌-◌, ◌<◌, List, [], ◌∷◌, ◌++◌, Result, Ok, Err, refl, sym, ◌∙◌, ap, append_assoc, append-nil, arith}
use Rattle.std.specs.Prelude.{replicate}
use Rattle.std.specs.Result.{IsErr}
use Rattle.srch_base.specs.declared.faults.NoMemory.{NoMemory}
use Rattle.std.proofs.lemmas.Grind.{flat_map-append}
use Rattle.doc_types.specs.declared.schema.Schema.{Schema}
use Rattle.query_write.specs.Written.{WrittenToken, token_text, tokens_text}
use Rattle.query_write.specs.steps.Writes.{Keeps, IsPart, Appended}

pub kept_all : (before bytes after : List ℕ) → after ≡ before ++ bytes → Keeps before after
kept_all before bytes after e = record { more = bytes; is = e }

-- what was kept from there is kept from before
pub kept : (before mid after : List ℕ) → Keeps before mid → Keeps mid after → Keeps before after
kept before mid after k l = record { more = k.more ++ l.more; is = l.is ∙ ap (λ v. v ++ l.more) k.is ∙ append_assoc before k.more l.more }

-- an error that comes where nothing was lost
pub failed : (bytes before after : List ℕ) (r : Result (Unit {0}) NoMemory) → IsErr r → Keeps before after → Appended bytes before r after
failed bytes before after (Ok x) e k = cc
failed bytes before after (Err x) e k = k

-- an error that comes after some bytes
pub failed_after : (bytes first before mid after : List ℕ) (r : Result (Unit {0}) NoMemory) → IsErr r → mid ≡ before ++ first → Keeps mid after → Appended bytes before r after
failed_after bytes first before mid after r f e k = failed bytes before after r f (kept before mid after (kept_all before first mid e) k)

-- some bytes, and then some others
pub then_appended : (first second before mid after : List ℕ) (r : Result (Unit {0}) NoMemory) → mid ≡ before ++ first → Appended second mid r after → Appended (first ++ second) before r after
then_appended first second before mid after (Ok done) e f = f ∙ ap (λ v. v ++ second) e ∙ append_assoc before first second
then_appended first second before mid after (Err x) e f = kept before mid after (kept_all before first mid e) f

pub joined_text : (schema : Schema) (a b : List WrittenToken) → tokens_text schema (a ++ b) ≡ tokens_text schema a ++ tokens_text schema b
joined_text schema a b = flat_map-append (token_text schema) a b

-- ---- a part of what is to be written

pub begun : (before whole : List ℕ) → IsPart before before whole whole
begun before whole = record { more = []; is = sym (append-nil before); goes_on = refl }

pub went : (before mid after whole bytes rest : List ℕ) → IsPart before mid whole (bytes ++ rest) → after ≡ mid ++ bytes → IsPart before after whole rest
went before mid after whole bytes rest p e = record {
  more = p.more ++ bytes;
  is = e ∙ ap (λ v. v ++ bytes) p.is ∙ append_assoc before p.more bytes;
  goes_on = append_assoc p.more bytes rest ∙ p.goes_on;
}

pub part_kept : (before after whole rest : List ℕ) → IsPart before after whole rest → Keeps before after
part_kept before after whole rest p = record { more = p.more; is = p.is }

pub ended : (before after whole : List ℕ) → IsPart before after whole [] → after ≡ before ++ whole
ended before after whole p = p.is ∙ ap (λ v. before ++ v) (sym (append-nil p.more) ∙ p.goes_on)

pub part_failed : (bytes before mid after whole rest : List ℕ) (r : Result (Unit {0}) NoMemory) → IsPart before mid whole rest → IsErr r → Keeps mid after → Appended bytes before r after
part_failed bytes before mid after whole rest r p e k = failed bytes before after r e (kept before mid after (part_kept before mid whole rest p) k)

pub part_failed_after : (bytes first before mid then after whole rest : List ℕ) (r : Result (Unit {0}) NoMemory) → IsPart before mid whole rest → then ≡ mid ++ first → IsErr r → Keeps then after → Appended bytes before r after
part_failed_after bytes first before mid then after whole rest r p f e k = part_failed bytes before mid after whole rest r p e (kept mid then after (kept_all mid first then f) k)

pub zeros_next : (places place : ℕ) → place < places → replicate {A = ℕ} (places - place) 48 ≡ 48 ∷ replicate {A = ℕ} (places - (place + 1)) 48
zeros_next places place below =
    let e : places - place ≡ suc (places - (place + 1)) = omega (arith, below) in
    ap (λ n. replicate {A = ℕ} n 48) e
