-- A host over memory: what it holds, and what each call makes of it.
use Rattle.std.specs.Prelude.{◌+◌, ◌-◌, ◌==◌, ◌||◌, ℕ, List, [], ◌∷◌, ◌++◌, Bool, nat_lt, Option, Some, is_none, find, option_map, Result, Ok, Err, length, take}
use Rattle.std.specs.Option.{option_map_or}
use Rattle.std.specs.Str.{bytes_eq}
use Rattle.std.specs.List.{list_any, position, remove}
use Rattle.srch_base.specs.Memory.{Lines, one_more}
use Rattle.chunk_store.specs.declared.memory_disk.MemoryDisk.{MemoryDisk}
use Rattle.srch_base.specs.declared.faults.OpenFault.{OpenFault}
use Rattle.srch_base.specs.declared.faults.OpenFault.TheVariants as opening
use Rattle.program_host.specs.Printing.{of_stream}
use Rattle.program_host.specs.declared.requests.Request.{Request}
use Rattle.program_host.specs.declared.host.Stream.{Stream}
use Rattle.program_host.specs.declared.host.Stream.TheVariants as streams

-- A host over memory.
pub record HostMemory : Type 0 where
  -- its files: the path and the text of each
  pub texts : List (List ℕ × List ℕ)
  -- the stores that it has still to give, each with its path; and those that it gave and got back, as they were then
  pub stores : List (List ℕ × MemoryDisk)
  pub stores_given : List MemoryDisk
  pub stores_back : List MemoryDisk
  -- all doors that it gives, and how many of them were given
  pub doors : List Lines
  pub at : ℕ
  pub back : List Lines
  -- the numbers of the calls that fail, the first call being 1, and the number of calls so far
  pub failing : List ℕ
  pub calls : ℕ
  -- the requests, until memory was refused for the record
  pub requests : Option (List Request)
  -- what was printed to each stream
  pub out : List ℕ
  pub errors : List ℕ
  -- how many calls for texts, stores and doors failed, and how many prints to each stream
  pub faults : ℕ
  pub out_faults : ℕ
  pub error_faults : ℕ

-- the host over these files, stores and doors before its first call
abbrev pub host_over : List (List ℕ × List ℕ) → List (List ℕ × MemoryDisk) → List Lines → List ℕ → HostMemory
host_over texts stores doors failing =
    record { texts = texts; stores = stores; stores_given = []; stores_back = []; doors = doors; at = 0; back = []; failing = failing; calls = 0; requests = Some []; out = []; errors = []; faults = 0; out_faults = 0; error_faults = 0 }

-- the text of the first file with this path
abbrev pub text_at : List (List ℕ × List ℕ) → List ℕ → Option (List ℕ)
text_at files path = option_map (λ file. file.1) (find (λ file. bytes_eq file.0 path) files)

-- such a host tells it
abbrev pub text_of : HostMemory → List ℕ → Option (List ℕ)
text_of h path = text_at h.texts path

-- the place of the first store with this path, the store, and those that are left without it
abbrev pub store_place : List (List ℕ × MemoryDisk) → List ℕ → Option ℕ
store_place stores path = position (λ store. bytes_eq store.0 path) stores

abbrev pub store_at : List (List ℕ × MemoryDisk) → List ℕ → Option MemoryDisk
store_at stores path = option_map (λ store. store.1) (find (λ store. bytes_eq store.0 path) stores)

abbrev pub stores_without : List (List ℕ × MemoryDisk) → List ℕ → List (List ℕ × MemoryDisk)
stores_without stores path = option_map_or (λ place. remove stores place) (store_place stores path) stores

-- what was printed to a stream
abbrev pub printed_to : Stream → HostMemory → List ℕ
printed_to streams.Out h = h.out
printed_to streams.Err h = h.errors

-- such a host tells it
abbrev pub printed_of : HostMemory → Stream → Option (List ℕ)
printed_of h stream = Some (printed_to stream h)

-- how often printing to each stream has failed
abbrev pub print_faults_of : HostMemory → Stream → ℕ
print_faults_of h to = of_stream to h.out_faults h.error_faults

-- the doors that it gave
abbrev pub doors_of : HostMemory → List Lines
doors_of h = take h.at h.doors

-- the next call is one of those that fail
abbrev pub fails_next : HostMemory → Bool
fails_next h = list_any (λ number. number == h.calls + 1) h.failing

-- the next call can't read a file with this path
abbrev pub reads_none : HostMemory → List ℕ → Bool
reads_none h path = fails_next h || is_none (text_of h path)

-- the next call can't give a store with this path
abbrev pub gives_none : HostMemory → List ℕ → Bool
gives_none h path = fails_next h || is_none (store_at h.stores path)

-- the next call can't give so many doors
abbrev pub opens_none : HostMemory → ℕ → Bool
opens_none h n = fails_next h || nat_lt (length h.doors - h.at) n

-- the host after a call for a text, a store or doors that failed
abbrev pub after_fault : HostMemory → HostMemory
after_fault h = record h { calls = one_more h.calls; faults = one_more h.faults }

-- the host with one more print to this stream that failed
abbrev pub with_print_fault : HostMemory → Stream → HostMemory
with_print_fault h streams.Out = record h { out_faults = one_more h.out_faults }
with_print_fault h streams.Err = record h { error_faults = one_more h.error_faults }

-- the host that has printed this as well
abbrev pub with_printed : HostMemory → Stream → List ℕ → HostMemory
with_printed h streams.Out bytes = record h { out = h.out ++ bytes }
with_printed h streams.Err bytes = record h { errors = h.errors ++ bytes }

-- the host after a print that failed, or printed the whole line
abbrev pub after_print : {T E : Type 0} → HostMemory → Stream → List ℕ → Result T E → HostMemory
after_print h to line (Err e) = with_print_fault (record h { calls = one_more h.calls }) to
after_print h to line (Ok x) = with_printed (record h { calls = one_more h.calls }) to line

-- the host after a call that failed, was refused memory, or read a text, but for the record of requests
abbrev pub after_read : {T : Type 0} → HostMemory → Result T OpenFault → HostMemory
after_read h (Err opening.Failed) = after_fault h
after_read h (Err opening.NoMemory) = record h { calls = one_more h.calls }
after_read h (Ok x) = record h { calls = one_more h.calls }

-- the host after a call that failed, was refused memory, or gave the store with this path, but for the record of requests
abbrev pub after_store : HostMemory → List ℕ → Result MemoryDisk OpenFault → HostMemory
after_store h path (Err opening.Failed) = after_fault h
after_store h path (Err opening.NoMemory) = record h { calls = one_more h.calls }
after_store h path (Ok store) = record h { calls = one_more h.calls; stores = stores_without h.stores path; stores_given = h.stores_given ++ store ∷ [] }

-- the host after a call that failed, was refused memory, or gave so many doors, but for the record of requests
abbrev pub after_doors : {T : Type 0} → HostMemory → ℕ → Result T OpenFault → HostMemory
after_doors h n (Err opening.Failed) = after_fault h
after_doors h n (Err opening.NoMemory) = record h { calls = one_more h.calls }
after_doors h n (Ok x) = record h { calls = one_more h.calls; at = h.at + n }
