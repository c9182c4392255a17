use Rattle.std.proofs.Common.{◌≡◌, ◌<◌, ◌≤◌, ◌/◌, ◌^◌, ℕ, false, ◌∙◌, refl, sym, arith, rules}
use Rattle.std.proofs.lemmas.Bool.{le-ltb}
use Rattle.std.proofs.lemmas.Nat.{div_below}
use Rattle.std.proofs.Math.Pow.{pow_pos, pow_mono}
use Rattle.word_rows.specs.Keywords.{has_field}
use Rattle.row_flags.proofs.keys.has_field.Goals as goal

no_bit : (fields field : ℕ) → fields < 2 ^ 32 → 32 ≤ field → has_field fields field ≡ false
no_bit fields field small high =
    let wide : 2 ^ 32 ≤ 2 ^ field = pow_mono high in
    let none : fields / 2 ^ field < 1 = div_below fields (2 ^ field) 1 (pow_pos field) (omega arith) in
    let zero : fields / 2 ^ field ≡ 0 = omega arith in
    rw zero refl

pub returns-else-field-lt32 : goal.returns-else-field-lt32
returns-else-field-lt32 c =
    le-ltb c.args.field 32 (omega arith) ∙ sym (no_bit c.args.fields c.args.field (search rules) (omega arith))
