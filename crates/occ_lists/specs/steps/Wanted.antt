-- Listed words with the places at which their keywords stand.
use Rattle.std.specs.Prelude.{◌≡◌, ℕ, ◌+◌, ◌-◌, ◌≤◌, List, All, Option, Some, None, Bool, false, nat_le, count_by}
use Rattle.std.specs.List.{list_all, range_with_len}
use Rattle.occ_lists.specs.declared.occ.Occ.{Occ}
use Rattle.occ_lists.specs.declared.wanted.Wanted.{Wanted}
use Rattle.occ_lists.specs.Places.{ArePlaces, has_place}
use Rattle.occ_lists.specs.Windows.{Listed, stands, times}

-- at how many positions of the occurrence one of the places lies
abbrev pub held_of : List (ℕ × ℕ) → Occ → ℕ
held_of places o = count_by (λ position. has_place places (o.field, position)) (range_with_len o.first (o.last + 1 - o.first))

-- the occurrence holds each of the words as often as it is listed
abbrev pub holds_words : List Wanted → Occ → Bool
holds_words words o = list_all (λ wanted. nat_le wanted.times (held_of wanted.places.items o)) words

-- the position is this one or a later one; none is, where there is no such one
abbrev pub is_upto : Option ℕ → ℕ → Bool
is_upto None last = false
is_upto (Some end) last = nat_le end last

-- It is listed, and its places ascend.
pub record IsReady (wanted : Wanted) : Type 0 where
  pub some : 1 ≤ wanted.times
  pub ascend : ArePlaces wanted.places.items

-- It is this word, with how often it is listed and the places at which a listed keyword of it stands, ascending.
pub record IsWanted (listed : List Listed) (word : ℕ) (wanted : Wanted) : Type 0 where
  pub is : wanted.word ≡ word
  pub often : wanted.times ≡ times word listed
  pub stand : (place : ℕ × ℕ) → has_place wanted.places.items place ≡ stands listed word place
  pub ascend : ArePlaces wanted.places.items

-- They are the listed words.
pub record AreWanted (listed : List Listed) (words : List Wanted) : Type 0 where
  pub each : All (λ wanted. IsWanted listed wanted.word wanted) words
  pub all : (test : ℕ → Bool) → list_all (λ wanted. test wanted.word) words ≡ list_all (λ l. test l.word) listed
