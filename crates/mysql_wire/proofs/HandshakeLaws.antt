-- Reading from left to right against the grammar: what is read is in it, and what is in it is read.
use Rattle.std.proofs.Common.{◌≡◌, ◌≢◌, ◌⊎◌, inl, inr, ℕ, ◌<◌, ◌≤◌, Bool, true, false, not, ◌==◌, nat_lt, nat_le, cond, List, [], ◌∷◌, ◌++◌, Option, Some, None, Result, Ok, Err, option_map, MatchOption, MatchResult, length, take, drop, refl, sym, ap, subst, ◌∙◌, arith, length-append, append_assoc, length-take-le}
use Rattle.std.specs.Bool.{MatchBool}
use Rattle.std.proofs.lemmas.Bool.{eqb-true, eqb-false, leb-true, le-leb, ltb-true, lt-ltb}
use Rattle.std.proofs.lemmas.Bool.Decides.{nat_tests}
use Rattle.std.proofs.lemmas.List.{take-append-drop, drop_at}
use Rattle.std.proofs.lemmas.Option.{none-some}
use Rattle.mysql_wire.specs.steps.NumberFronts.{lenenc_front}
use Rattle.mysql_wire.specs.Fields.{Lengthed, IsField}
use Rattle.mysql_wire.proofs.FieldLaws.{number_takes, number_again}
use Rattle.mysql_wire.specs.Handshake.{Response, has, connect_with_database, secure_connection, length_encoded_answer, flags_of, speaks_41, HasNoNul, EndsAtNul, HasAnswer, IsResponse, IsBadResponse, cut_place}
use Rattle.mysql_wire.specs.Answered.{response_by}
use Rattle.mysql_wire.specs.declared.handshake.Response41.{Response41}
use Rattle.mysql_wire.specs.declared.handshake.BadHandshake.{BadHandshake}
use Rattle.mysql_wire.specs.steps.ResponseFronts.{GivesResponse, behind, behind_counted, behind_byte, text_front, text_or_all, behind_answer, database_of, response_with, response_behind, response_of}

-- texts

abbrev TextSays : List ℕ → Option (List ℕ × List ℕ) → Type 0
TextSays bytes split = MatchOption split (HasNoNul bytes) (λ split. EndsAtNul bytes split.0 split.1)

text_step : (nul : Bool) (byte : ℕ) (bytes : List ℕ) (split : Option (List ℕ × List ℕ)) → (nul ≡ true → byte ≡ 0) → (nul ≡ false → byte ≢ 0) → TextSays bytes split
    → TextSays (byte ∷ bytes) (cond nul (Some ([], bytes)) (option_map {T = List ℕ × List ℕ} {U = List ℕ × List ℕ} (λ split. (byte ∷ split.0, split.1)) split))
text_step true byte bytes split is not says = (tt, ap (λ b. b ∷ bytes) (is refl))
text_step false byte bytes None is not says = (not refl, says)
text_step false byte bytes (Some split) is not says = ((not refl, says.0), ap (λ l. byte ∷ l) says.1)

pub text_says : (bytes : List ℕ) → TextSays bytes (text_front bytes)
text_says [] = tt
text_says (byte ∷ bytes) = text_step (byte == 0) byte bytes (text_front bytes) (eqb-true byte 0) (eqb-false byte 0) (text_says bytes)

not_nul : (byte : ℕ) → byte ≢ 0 → (byte == 0) ≡ false
not_nul byte not = grind (arith, nat_tests)

pub text_again : (text rest : List ℕ) → HasNoNul text → text_front (text ++ 0 ∷ rest) ≡ Some (text, rest)
text_again [] rest none = refl
text_again (byte ∷ text) rest none = rw (not_nul byte none.0, text_again text rest none.1)

pub text_without : (bytes : List ℕ) → HasNoNul bytes → text_front bytes ≡ None
text_without [] none = refl
text_without (byte ∷ bytes) none = rw (not_nul byte none.0, text_without bytes none.1)

-- the authentication answer

abbrev AnswerBy : Bool → Bool → List ℕ → List ℕ → Type 0
AnswerBy encoded secure bytes rest = (answer : List ℕ) × MatchBool encoded ((part : List ℕ) × IsField (Lengthed answer) part × (bytes ≡ part ++ rest)) (MatchBool secure (bytes ≡ length answer ∷ answer ++ rest) (EndsAtNul bytes answer rest))

-- bytes after a size are an answer
behind_says : {X : Type 0} (f : ℕ → List ℕ → X) (fits : Bool) (size : ℕ) (bytes : List ℕ) → (fits ≡ true → size ≤ length bytes)
    → MatchOption (cond fits (Some (drop size bytes)) None) (Unit {0}) (λ rest. (answer : List ℕ) × (f size bytes ≡ f (length answer) (answer ++ rest)))
behind_says f false size bytes is = tt
behind_says f true size bytes is = (take size bytes, ap (λ n. f n bytes) (sym (length-take-le size bytes (is refl))) ∙ ap (f (length (take size bytes))) (sym (take-append-drop size bytes)))

counted_says : (counted : Option (ℕ × List ℕ)) → MatchOption (behind_counted counted) (Unit {0}) (λ rest. (answer : List ℕ) × (counted ≡ Some (length answer, answer ++ rest)))
counted_says None = tt
counted_says (Some counted) = behind_says (λ n bytes. Some (n, bytes)) (nat_le counted.0 (length counted.1)) counted.0 counted.1 (leb-true counted.0 (length counted.1))

encoded_says : (bytes : List ℕ) (behind : Option (List ℕ)) → MatchOption behind (Unit {0}) (λ rest. (answer : List ℕ) × (lenenc_front bytes ≡ Some (length answer, answer ++ rest)))
    → MatchOption behind (Unit {0}) (λ rest. AnswerBy true false bytes rest)
encoded_says bytes None says = tt
encoded_says bytes (Some rest) (answer, is) =
    let number = number_takes bytes (length answer) (answer ++ rest) is in
    (answer, (number.part ++ answer, (number.part, number.spelled, refl), number.is ∙ sym (append_assoc number.part answer rest)))

ended_says : (bytes : List ℕ) (split : Option (List ℕ × List ℕ)) → TextSays bytes split
    → MatchOption (option_map {T = List ℕ × List ℕ} (λ split. split.1) split) (Unit {0}) (λ rest. (answer : List ℕ) × EndsAtNul bytes answer rest)
ended_says bytes None says = tt
ended_says bytes (Some split) says = (split.0, says)

behind_again : (answer rest : List ℕ) → behind (length answer) (answer ++ rest) ≡ Some rest
behind_again answer rest = rw (le-leb (length answer) (length (answer ++ rest)) (omega (arith, length-append answer rest)), drop_at answer rest (length answer) refl)

abbrev behind_by : Bool → Bool → List ℕ → Option (List ℕ)
behind_by encoded secure bytes = cond encoded (behind_counted (lenenc_front bytes)) (cond secure (behind_byte bytes) (option_map {T = List ℕ × List ℕ} (λ split. split.1) (text_front bytes)))

abbrev BehindSays : Bool → Bool → List ℕ → Type 0
BehindSays encoded secure bytes = MatchOption (behind_by encoded secure bytes) (Unit {0}) (λ rest. AnswerBy encoded secure bytes rest)

answer_says : (encoded secure : Bool) (bytes : List ℕ) → BehindSays encoded secure bytes
answer_says true secure bytes = encoded_says bytes (behind_by true secure bytes) (counted_says (lenenc_front bytes))
answer_says false true [] = tt
answer_says false true (size ∷ bytes) = behind_says ◌∷◌ (nat_le size (length bytes)) size bytes (leb-true size (length bytes))
answer_says false false bytes = ended_says bytes (text_front bytes) (text_says bytes)

answer_again : (encoded secure : Bool) (bytes rest : List ℕ) → AnswerBy encoded secure bytes rest → behind_by encoded secure bytes ≡ Some rest
answer_again true secure bytes rest (answer, (part, (head, number, spelled), is)) =
    let whole : bytes ≡ head ++ (answer ++ rest) = is ∙ ap (λ part. part ++ rest) spelled ∙ append_assoc head answer rest in
    rw (whole, number_again head (length answer) (answer ++ rest) number, behind_again answer rest)
answer_again false true bytes rest (answer, is) = rw (is, behind_again answer rest)
answer_again false false bytes rest (answer, is) = rw (is.1, text_again answer rest is.0)

-- the database

abbrev DatabaseBy : Bool → List ℕ → Option (List ℕ) → Type 0
DatabaseBy named bytes None = named ≡ false
DatabaseBy named bytes (Some name) = (named ≡ true) × HasNoNul name × ((bytes ≡ name) ⊎ ((rest : List ℕ) × (bytes ≡ name ++ 0 ∷ rest)))

abbrev database_by : Bool → List ℕ → Option (List ℕ × List ℕ) → Option (List ℕ)
database_by named bytes split = cond named (Some (text_or_all split bytes)) None

database_says : (named : Bool) (bytes : List ℕ) (split : Option (List ℕ × List ℕ)) → TextSays bytes split → DatabaseBy named bytes (database_by named bytes split)
database_says false bytes split says = refl
database_says true bytes None says = (refl, says, inl refl)
database_says true bytes (Some split) says = (refl, says.0, inr (split.1, says.1))

database_again : (named : Bool) (bytes : List ℕ) (database : Option (List ℕ)) → DatabaseBy named bytes database → database ≡ database_by named bytes (text_front bytes)
database_again named bytes None is = rw is
database_again named bytes (Some name) (on, none, inl whole) = rw (on, text_without bytes (subst HasNoNul (sym whole) none), whole)
database_again named bytes (Some name) (on, none, inr (rest, ended)) = rw (on, ended, text_again name rest none)

-- the response

abbrev Says : List ℕ → Result Response ℕ → Type 0
Says payload read = MatchResult read (IsResponse payload) (IsBadResponse payload)

with_says : (payload user behind_user : List ℕ) (behind : Option (List ℕ)) → speaks_41 payload ≡ true → 32 ≤ length payload → EndsAtNul (drop 32 payload) user behind_user
    → behind ≡ behind_answer (flags_of payload) behind_user → MatchOption behind (Unit {0}) (HasAnswer (flags_of payload) behind_user) → Says payload (response_with (flags_of payload) user behind)
unfolding behind_answer database_of
with_says payload user behind_user None speaks long ends is says =
    let flags = flags_of payload in
    let missing : (rest : List ℕ) → HasAnswer flags behind_user rest → ⊥ =
    λ rest has_it. none-some rest (is ∙ answer_again (has flags length_encoded_answer) (has flags secure_connection) behind_user rest has_it) in
    inr (inr (inr (speaks, long, (user, behind_user, ends, missing, refl))))
with_says payload user behind_user (Some rest) speaks long ends is says =
    let flags = flags_of payload in
    (speaks, long, refl, (behind_user, rest, ends, says, database_says (has flags connect_with_database) rest (text_front rest) (text_says rest)))

behind_says_user : (payload : List ℕ) (split : Option (List ℕ × List ℕ)) → speaks_41 payload ≡ true → 32 ≤ length payload → TextSays (drop 32 payload) split → Says payload (response_behind (flags_of payload) split)
unfolding behind_answer
behind_says_user payload None speaks long says = inr (inr (inl (speaks, long, says, refl)))
behind_says_user payload (Some split) speaks long says =
    let flags = flags_of payload in
    with_says payload split.0 split.1 (behind_answer flags split.1) speaks long says refl (answer_says (has flags length_encoded_answer) (has flags secure_connection) split.1)

head_says : (payload : List ℕ) (speaks short : Bool) → speaks_41 payload ≡ speaks → (short ≡ true → length payload < 32) → (short ≡ false → 32 ≤ length payload)
    → Says payload (cond speaks (cond short (Err (cut_place (length payload))) (response_behind (flags_of payload) (text_front (drop 32 payload)))) (Err 0))
head_says payload false short speaks is not = inl (speaks, refl)
head_says payload true true speaks is not = inr (inl (speaks, is refl, refl))
head_says payload true false speaks is not = behind_says_user payload (text_front (drop 32 payload)) speaks (not refl) (text_says (drop 32 payload))

pub response_says : (payload : List ℕ) → Says payload (response_of payload)
unfolding response_of
response_says payload =
    head_says payload (speaks_41 payload) (nat_lt (length payload) 32) refl (λ is. ltb-true (length payload) 32 is) (λ is. grind (arith, nat_tests, is))

-- a result that is what was read from the user on
result_says : (payload : List ℕ) (read : Result Response ℕ) (result : Result Response41 BadHandshake) → Says payload read → GivesResponse result read
    → MatchResult result (λ r. IsResponse payload (response_by r)) (λ e. IsBadResponse payload e.place)
result_says payload read (Ok r) says reads = subst (Says payload) reads says
result_says payload read (Err e) says reads = subst (Says payload) reads says

pub user_says : (payload fields : List ℕ) (flags : ℕ) (result : Result Response41 BadHandshake) → (speaks_41 payload ≡ true) × (flags ≡ flags_of payload) → 32 ≤ length payload → fields ≡ drop 32 payload
    → GivesResponse result (response_behind flags (text_front fields)) → MatchResult result (λ r. IsResponse payload (response_by r)) (λ e. IsBadResponse payload e.place)
user_says payload fields flags result head long rest reads =
    result_says payload (response_behind (flags_of payload) (text_front (drop 32 payload))) result
    (behind_says_user payload (text_front (drop 32 payload)) head.0 long (text_says (drop 32 payload)))
    (rw (head.1, rest) at reads)

-- a payload of 32 bytes and more
long_not_short : (n : ℕ) → 32 ≤ n → nat_lt n 32 ≡ false
long_not_short n long = grind (arith, nat_tests)

pub response_again : (payload : List ℕ) (response : Response) → IsResponse payload response → response_of payload ≡ Ok response
unfolding response_of behind_answer database_of
response_again payload response (speaks, long, flags, (behind_user, rest, user, answer, database)) =
    let f = response.flags in
    let named = database_again (has f connect_with_database) rest response.database database in
    rw (speaks, long_not_short (length payload) long, ← flags, user.1, text_again response.user behind_user user.0, answer_again (has f length_encoded_answer) (has f secure_connection) behind_user rest answer, ← named)

-- what isn't there isn't found
none_found : (flags : ℕ) (bytes : List ℕ) → ((rest : List ℕ) → HasAnswer flags bytes rest → ⊥) → behind_answer flags bytes ≡ None
unfolding behind_answer
none_found flags bytes none = none_by (behind_answer flags bytes) (answer_says (has flags length_encoded_answer) (has flags secure_connection) bytes)
  where
    none_by : (behind : Option (List ℕ)) → MatchOption behind (Unit {0}) (HasAnswer flags bytes) → behind ≡ None
    none_by None says = refl
    none_by (Some rest) says = absurd (none rest says)

pub bad_again : (payload : List ℕ) (place : ℕ) → IsBadResponse payload place → response_of payload ≡ Err place
unfolding response_of
bad_again payload place (inl (speaks, is)) = rw (speaks, is)
bad_again payload place (inr (inl (speaks, short, is))) = rw (speaks, lt-ltb (length payload) 32 short, is)
bad_again payload place (inr (inr (inl (speaks, long, none, is)))) = rw (speaks, long_not_short (length payload) long, text_without (drop 32 payload) none, is)
bad_again payload place (inr (inr (inr (speaks, long, (user, behind_user, ends, missing, is))))) =
    rw (speaks, long_not_short (length payload) long, ends.1, text_again user behind_user ends.0, none_found (flags_of payload) behind_user missing, is)

pub one_response : (payload : List ℕ) (a b : Response) → IsResponse payload a → IsResponse payload b → a ≡ b
one_response payload a b first second = cc (response_again payload a first, response_again payload b second)

pub one_place : (payload : List ℕ) (m n : ℕ) → IsBadResponse payload m → IsBadResponse payload n → m ≡ n
one_place payload m n first second = cc (bad_again payload m first, bad_again payload n second)

pub not_both : (payload : List ℕ) (response : Response) (place : ℕ) → IsResponse payload response → IsBadResponse payload place → ⊥
not_both payload response place is bad = cc (response_again payload response is, bad_again payload place bad)

pub one_of_both : (payload : List ℕ) → ((response : Response) × IsResponse payload response) ⊎ ((place : ℕ) × IsBadResponse payload place)
one_of_both payload = by_cases (response_of payload) (response_says payload)
  where
    by_cases : (read : Result Response ℕ) → Says payload read → ((response : Response) × IsResponse payload response) ⊎ ((place : ℕ) × IsBadResponse payload place)
    by_cases (Ok response) says = inl (response, says)
    by_cases (Err place) says = inr (place, says)
