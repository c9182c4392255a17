-- Those who make the steps of a script.
use Rattle.doc_types.specs.declared.schema.Schema.{Schema}
use Rattle.step_history.specs.History.{Base}
use Rattle.directory_vectors.specs.Ready.{IsOwn, IsSeat}
use Rattle.directory_vectors.specs.declared.seats.Seats.{Seats}

-- One has a token of the index, and each of the others can end the job that it began.
pub record AreSeats {J : Type 0} (schema : Schema) (base : Base) (seats : Seats J) : Type 0 where
  pub commits : IsOwn seats.commits
  pub first : IsSeat schema base seats.first.token seats.first.chunk
  pub second : IsSeat schema base seats.second.token seats.second.chunk
