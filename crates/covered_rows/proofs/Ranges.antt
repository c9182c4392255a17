-- In which row's range a place lies.
use Rattle.std.proofs.Common.{◌≡◌, ℕ, ◌+◌, ◌*◌, ◌<◌, ◌≤◌, List, [], ◌∷◌, ◌++◌, get_or, map, ap, arith, inl, inr}
use Rattle.std.specs.List.{AllByRecursion}
use Rattle.std.proofs.lemmas.Bool.{cases_lt}
use Rattle.std.proofs.lemmas.Nat.{row_fits}
use Rattle.posting_codec.specs.HitLists.{Ascend, key}
use Rattle.chunk_damage.specs.WordLists.{AreEntries, Entry}
use Rattle.image_cover.specs.Places.{own_at, place_in}
use Rattle.image_cover.specs.Layouts.{AreLaid}
use Rattle.image_cover.specs.Lists.{places_in, places_of, places_of_lists}
use Rattle.image_cover.proofs.Apart.{place_is}

-- a place of one of so many rows, within those of the row
pub record LiesInRow (starts : List ℕ) (width rows : ℕ) (x : ℕ × ℕ) : Type 0 where
  pub low : x.0 < rows
  pub from : get_or starts (x.0 * width) 0 ≤ x.1
  pub to : x.1 < get_or starts ((x.0 + 1) * width) 0

pub next_row : (row width : ℕ) → (row + 1) * width ≡ row * width + width
next_row row width = omega arith

pub row_up : (row rows width : ℕ) → row < rows → row * width + width ≤ rows * width
row_up row rows width low = row_fits row width rows width low (omega arith)

append_all : {X : Type 0} (P : X → Type 0) (xs ys : List X) → AllByRecursion P xs → AllByRecursion P ys → AllByRecursion P (xs ++ ys)
append_all P [] ys ax ay = ay
append_all P (x ∷ xs) ys ax ay = (ax.0, append_all P xs ys ax.1 ay)

module _ (starts : List ℕ) (width rows places : ℕ) (laid : AreLaid starts width rows places) where
  up : (i j : ℕ) → i ≤ j → j ≤ rows * width → get_or starts i 0 ≤ get_or starts j 0
  up i j le h = laid.rise i j le (omega (arith, laid.long, h))

  pub hit_lies : (row : ℕ) (hit : ℕ × ℕ) → row < rows → 1 ≤ hit.1 → LiesInRow starts width rows (place_in row (own_at starts width row) hit)
  hit_lies row hit low one =
      let top = row_up row rows width low in
      let next : get_or starts ((row + 1) * width) 0 ≡ get_or starts (row * width + width) 0 = ap (λ j. get_or starts j 0) (next_row row width) in
      elim (place_is starts width rows row places hit laid low one) [
        | inl inside ↦
            let f = inside.0.field in
            record {
              low = low;
              from = omega (arith, inside.1, one, up (row * width) (row * width + hit.0 + 1) (omega arith) (omega (arith, top, f)));
              to = omega (arith, inside.1, one, next, inside.0.within, up (row * width + hit.0 + 2) (row * width + width) (omega (arith, f)) (omega (arith, top)));
            }
        | inr outside ↦ record {
          low = low;
          from = omega (arith, outside.1);
          to = omega (arith, outside.1, next, laid.outer row low, up (row * width + 1) (row * width + width) (omega (arith, laid.wide)) (omega (arith, top)));
        }
      ]

  hits_lie : (row before : ℕ) (hits : List (ℕ × ℕ)) → row < rows → Ascend before hits → AllByRecursion (LiesInRow starts width rows) (map (place_in row (own_at starts width row)) hits)
  hits_lie row before [] low ascend = tt
  hits_lie row before (h ∷ hits) low ascend = (hit_lies row h low ascend.0.from_one, hits_lie row (key h) hits low ascend.2)

  entries_lie : (least : ℕ) (es : List Entry) → AreEntries rows least es → AllByRecursion (LiesInRow starts width rows) (places_in starts width es)
  entries_lie least [] are = tt
  entries_lie least (e ∷ es) are = append_all (LiesInRow starts width rows) (places_of starts width e) (places_in starts width es) (hits_lie e.0 0 e.1 are.1 are.0.are.ascend) (entries_lie (e.0 + 1) es are.2)

  pub lists_lie : (lists : List (List Entry)) → AllByRecursion (AreEntries rows 0) lists → AllByRecursion (LiesInRow starts width rows) (places_of_lists starts width lists)
  lists_lie [] are = tt
  lists_lie (l ∷ ls) are = append_all (LiesInRow starts width rows) (places_in starts width l) (places_of_lists starts width ls) (entries_lie 0 l are.0) (lists_lie ls are.1)

  apart : (a b k : ℕ) → LiesInRow starts width rows (a, k) → LiesInRow starts width rows (b, k) → a < b → ⊥
  apart a b k in_a in_b low =
      let le : (a + 1) * width ≤ b * width = omega (arith, next_row a width, row_up a b width low) in
      absurd (omega (arith, in_a.to, in_b.from, up ((a + 1) * width) (b * width) le (omega (arith, row_up b rows width in_b.low))))

  pub one_row : (a b k : ℕ) → LiesInRow starts width rows (a, k) → LiesInRow starts width rows (b, k) → a ≡ b
  one_row a b k in_a in_b = elim (cases_lt a b) [
    | inl low ↦ absurd (apart a b k in_a in_b low)
    | inr high ↦ elim (cases_lt b a) [
      | inl low ↦ absurd (apart b a k in_b in_a low)
      | inr same ↦ omega (arith, high, same)
    ]
  ]

  within_all : (xs : List (ℕ × ℕ)) → AllByRecursion (LiesInRow starts width rows) xs → AllByRecursion (λ (x : ℕ × ℕ). x.1 < places) xs
  within_all [] all = tt
  within_all (x ∷ xs) all = (
    omega (arith, all.0.to, laid.within ((x.0 + 1) * width) (omega (arith, laid.long, next_row x.0 width, row_up x.0 rows width all.0.low))),
    within_all xs all.1,
  )

  pub lists_within : (lists : List (List Entry)) → AllByRecursion (AreEntries rows 0) lists → AllByRecursion (λ (x : ℕ × ℕ). x.1 < places) (places_of_lists starts width lists)
  lists_within lists are = within_all (places_of_lists starts width lists) (lists_lie lists are)
