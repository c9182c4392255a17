-- What a run does through its host, as one value.
use Rattle.std.specs.Prelude.{◌≡◌, ℕ, List, []}
use Rattle.srch_base.specs.Counts.{Rose}
use Rattle.srch_base.specs.Told.{then_bytes}
use Rattle.program_host.specs.Lending.{Lent, Lends}
use Rattle.program_host.specs.Requests.{Requested}
use Rattle.program_host.specs.declared.host.Host.{Ghosts as HostWords}
use Rattle.program_host.specs.declared.host.Stream.TheVariants.{Out}
use Rattle.program_host.specs.declared.requests.Request.{Request}

-- a count of faults, before and after
pub record Count : Type 0 where
  pub before : ℕ
  pub now : ℕ

abbrev pub HasRisen : Count → Type 0
HasRisen count = Rose count.before count.now

abbrev pub IsStill : Count → Type 0
IsStill count = count.now ≡ count.before

-- What a run did.
pub record Deeds (S D : Type 0) : Type 0 where
  -- what it asked for, in that order
  pub requests : List Request
  -- the stores and the doors that it was given and handed back
  pub stores : List (Lent S)
  pub doors : List (Lent D)
  -- what it printed to the output
  pub output : List ℕ
  -- how often the host failed to give something, and how often to print to the output
  pub faults : Count
  pub print_faults : Count

-- The host saw these deeds between two of its states.
pub record Does {H S D K : Type 0} (host : HostWords H S D K) (old new : H) (deeds : Deeds S D) : Type 0 where
  pub asks : Requested (host.requests old) (host.requests new) deeds.requests
  pub lends_stores : Lends (host.stores_given old) (host.stores_given new) (host.stores_back old) (host.stores_back new) deeds.stores
  pub lends_doors : Lends (host.doors_given old) (host.doors_given new) (host.doors_back old) (host.doors_back new) deeds.doors
  pub prints : host.printed new Out ≡ then_bytes (host.printed old Out) deeds.output
  pub counts : deeds.faults ≡ (record { before = host.faults old; now = host.faults new })
  pub counts_prints : deeds.print_faults ≡ (record { before = host.print_faults old Out; now = host.print_faults new Out })

-- Nothing was given, and nothing printed.
pub record IsIdle {S D : Type 0} (deeds : Deeds S D) : Type 0 where
  pub stores : deeds.stores ≡ []
  pub doors : deeds.doors ≡ []
  pub output : deeds.output ≡ []
  pub print_faults : IsStill deeds.print_faults
