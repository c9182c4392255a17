-- The standard streams, and how often each has failed.
use Rattle.std.specs.Prelude.{ℕ}
use Rattle.program_host.specs.Printing.{of_stream}
use Rattle.program_host.specs.declared.host.Stream.{Stream}
use Rattle.real_host.specs.declared.streams.Streams.{Streams}

-- how often printing to a stream has failed
abbrev pub faults_of : Streams → Stream → ℕ
faults_of streams to = of_stream to streams.out_faults streams.error_faults
