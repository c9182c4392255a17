-- An index without columns keeps the limits.
use Rattle.std.proofs.Common.{[], refl, arith}
use Rattle.std.specs.Bool.{IsTrue}
use Rattle.std.proofs.lemmas.List.Elements.{All-nil}
use Rattle.doc_types.specs.Schemas.{IsName, IsSchema, is_column_name}
use Rattle.doc_vectors.specs.steps.Plain.{plain}

pub is_schema : IsSchema plain
is_schema = record {
  name = record { short = omega arith; small = refl };
  few_fields = omega arith;
  few_attrs = omega arith;
  names = All-nil IsName;
  form = All-nil (λ name. IsTrue (is_column_name name));
  distinct = λ i j d l h. absurd (omega (arith, h));
  zones = record { few = omega arith; names = All-nil IsName; distinct = λ i j d l h. absurd (omega (arith, h)) };
  prefixes = omega arith;
}
