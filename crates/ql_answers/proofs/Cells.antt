-- A row's payload, value by value.
use Rattle.std.proofs.Common.{◌≡◌, ℕ, ◌+◌, ◌<◌, List, [], ◌∷◌, ◌++◌, map, take, length, get_or, append_assoc, sym, ap, ◌∙◌}
use Rattle.std.proofs.lemmas.List.{map_more}
use Rattle.std.proofs.lemmas.Grind.{flat_map-append}
use Rattle.mysql_wire.specs.LengthEncoded.{lenenc_text}
use Rattle.mysql_wire.specs.Rows.{cell_text, row_payload}
use Rattle.mysql_wire.specs.declared.rows.Cell.{Cell}

-- the payload of values and more is that of the values and then of the others
joined : (cells others : List Cell) → row_payload (cells ++ others) ≡ row_payload cells ++ row_payload others
unfolding row_payload
joined cells others = flat_map-append (λ (cell : Cell). lenenc_text (cell_text cell)) cells others

-- the payload of one value more stands behind that of the values before
pub more : {X : Type 0} (value : X → Cell) (xs : List X) (i : ℕ) (d : X) (old mid new : List ℕ) → i < length xs → mid ≡ old ++ row_payload (map value (take i xs))
    → new ≡ mid ++ row_payload (value (get_or xs i d) ∷ []) → new ≡ old ++ row_payload (map value (take (i + 1) xs))
more value xs i d old mid new below before one =
    one ∙ ap (λ (l : List ℕ). l ++ row_payload (value (get_or xs i d) ∷ [])) before
    ∙ append_assoc old (row_payload (map value (take i xs))) (row_payload (value (get_or xs i d) ∷ []))
    ∙ sym (ap (λ (l : List ℕ). old ++ l) (ap row_payload (map_more value xs i d below) ∙ joined (map value (take i xs)) (value (get_or xs i d) ∷ [])))
