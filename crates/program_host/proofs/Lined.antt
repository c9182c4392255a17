-- Each status but Done has a line.
use Rattle.std.proofs.Common.{◌≡◌, ◌<◌, ◌∷◌, ◌++◌, [], ℕ, List, codes, decimal, refl, arith, length, length-append}
use Rattle.conf_text.specs.FaultTexts.{kind_text}
use Rattle.store_steps.specs.DamageTexts.{damage_text}
use Rattle.program_host.specs.Statuses.{line, line_of}
use Rattle.program_host.specs.declared.status.Status.{Status}
use Rattle.program_host.specs.declared.status.Status.TheVariants.{Done, Usage, Config, HostFault, Damaged, NoMemory, Strayed, JobFailed}

ended : (text : List ℕ) → 0 < length (line text)
ended text = omega (arith, length-append text (10 ∷ []))

pub has_line : (status : Status) → (status ≡ Done → ⊥) → 0 < length (line_of status)
has_line Done other = absurd (other refl)
has_line Usage other = ended (codes "searchd: bad arguments")
has_line (Config number kind) other = ended (codes "searchd: config line " ++ decimal number ++ codes ": " ++ kind_text kind)
has_line HostFault other = ended (codes "searchd: host fault")
has_line (Damaged index file place kind) other = ended (codes "searchd: index " ++ index ++ codes ": file " ++ decimal file ++ codes " at " ++ decimal place ++ codes ": " ++ damage_text kind)
has_line NoMemory other = ended (codes "searchd: out of memory")
has_line (Strayed index strayed) other = ended (codes "searchd: index " ++ index ++ codes ": history strayed")
has_line JobFailed other = ended (codes "searchd: job failed")
