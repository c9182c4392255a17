-- Lines that were printed one after the other.
use Rattle.std.proofs.Common.{◌≡◌, ℕ, ◌≤◌, List, [], ◌++◌, Option, Some, None, Result, Ok, Err, refl, sym, ◌∙◌, ap, subst, arith, length, take, append_assoc, zero, suc, ◌∷◌}
use Rattle.std.specs.Io.{StartsWith}
use Rattle.std.proofs.lemmas.List.{append-nil, take-append-le}
use Rattle.std.proofs.Math.Seq.{take-append-add}
use Rattle.std.proofs.lemmas.List.{length-append}
use Rattle.srch_base.specs.Counts.{Rose}
use Rattle.srch_base.specs.Told.{then_bytes}
use Rattle.program_host.specs.Printing.{CountsPrint, PrintsLine}
use Rattle.program_host.specs.declared.host.Stream.TheVariants.{Out, Err as Errors}
use Rattle.index_tool.specs.declared.host.ToolHost.{Ghosts as HostWords}
use Rattle.index_tool.specs.declared.printing.Stop.{Stop}
use Rattle.index_tool.specs.declared.printing.Stop.TheVariants as stops
use Rattle.index_tool.specs.steps.Sides.{BuffersLines, KeepsLent, PrintsLines, Puts}

told_then : (told : Option (List ℕ)) (a b : List ℕ) → then_bytes (then_bytes told a) b ≡ then_bytes told (a ++ b)
told_then None a b = refl
told_then (Some t) a b = ap Some (append_assoc t a b)

told_nothing : (told : Option (List ℕ)) → told ≡ then_bytes told []
told_nothing None = refl
told_nothing (Some t) = ap Some (sym (append-nil t))

-- prefixes
starts_none : (lines : List ℕ) → StartsWith lines []
starts_none lines = refl

starts_short : (lines front : List ℕ) → StartsWith lines front → length front ≤ length lines
starts_short lines front starts = omega (arith, length_take (length front) lines, ap length starts)
  where
    length_take : (n : ℕ) (l : List ℕ) → length (take n l) ≤ length l
    length_take zero l = omega arith
    length_take (suc n) [] = omega arith
    length_take (suc n) (x ∷ l) = omega (arith, length_take n l)

starts_more : (lines more front : List ℕ) → StartsWith lines front → StartsWith (lines ++ more) front
starts_more lines more front starts = take-append-le (length front) lines more (starts_short lines front starts) ∙ starts

starts_behind : (lines more front : List ℕ) → StartsWith more front → StartsWith (lines ++ more) (lines ++ front)
starts_behind lines more front starts =
    ap (λ (n : ℕ). take n (lines ++ more)) (length-append lines front) ∙ take-append-add lines more (length front) ∙ ap (λ (l : List ℕ). lines ++ l) starts

module _ {H S : Type 0} (host : HostWords H S) where
  lent_nothing : (h : H) → KeepsLent host h h
  lent_nothing h = record { asks = refl; gives = refl; takes = refl; count = refl }

  lent_then : (old mid new : H) → KeepsLent host old mid → KeepsLent host mid new → KeepsLent host old new
  lent_then old mid new first second = record {
    asks = second.asks ∙ first.asks;
    gives = second.gives ∙ first.gives;
    takes = second.takes ∙ first.takes;
    count = second.count ∙ first.count;
  }

  pub puts_nothing : (h : H) → Puts host [] h h
  puts_nothing h = record { prints = told_nothing (host.printed h Out); errors = refl; error_count = refl; lent = lent_nothing h }

  puts_then : (a b : List ℕ) (old mid new : H) → Puts host a old mid → Puts host b mid new → Puts host (a ++ b) old new
  puts_then a b old mid new first second = record {
    prints = second.prints ∙ ap (λ (told : Option (List ℕ)). then_bytes told b) first.prints ∙ told_then (host.printed old Out) a b;
    errors = second.errors ∙ first.errors;
    error_count = second.error_count ∙ first.error_count;
    lent = lent_then old mid new first.lent second.lent;
  }

  -- no line
  pub lines_none : {T : Type 0} (done : T) (h : H) → PrintsLines {T = T} host (Ok done) [] h h
  lines_none done h = (puts_nothing h, refl)

  -- memory was wanting before any line
  pub lines_wanting : (T : Type 0) (lines : List ℕ) (h : H) → PrintsLines {T = T} host (Err stops.NoMemory) lines h h
  lines_wanting T lines h = ([], starts_none lines, puts_nothing h, refl)

  -- lines, and further ones
  pub lines_then : {T U : Type 0} (done : T) (r : Result U Stop) (a b : List ℕ) (old mid new : H) → PrintsLines {T = T} host (Ok done) a old mid → PrintsLines host r b mid new → PrintsLines host r (a ++ b) old new
  lines_then done (Ok value) a b old mid new first second = (puts_then a b old mid new first.0 second.0, second.1 ∙ first.1)
  lines_then done (Err stops.HostFault) a b old mid new first second =
      (a ++ second.0, starts_behind a b second.0 second.1, puts_then a second.0 old mid new first.0 second.2, subst (λ (n : ℕ). Rose n (host.print_faults new Out)) first.1 second.3)
  lines_then done (Err stops.NoMemory) a b old mid new first second =
      (a ++ second.0, starts_behind a b second.0 second.1, puts_then a second.0 old mid new first.0 second.2, second.3 ∙ first.1)

  -- lines that weren't all printed
  pub lines_stop : (T U : Type 0) (stop : Stop) (a b : List ℕ) (old new : H) → PrintsLines {T = T} host (Err stop) a old new → PrintsLines {T = U} host (Err stop) (a ++ b) old new
  lines_stop T U stops.HostFault a b old new is = (is.0, starts_more a b is.0 is.1, is.2, is.3)
  lines_stop T U stops.NoMemory a b old new is = (is.0, starts_more a b is.0 is.1, is.2, is.3)

  -- one line that was printed, or a prefix of it
  pub line_done : {T U : Type 0} (E : Type 0) (x : T) (done : U) (bytes : List ℕ) (old new : H) → PrintsLine {T = T} {E = E} (Ok x) Out bytes (host.printed old) (host.printed new) → CountsPrint {T = T} {E = E} (Ok x) Out (host.print_faults old) (host.print_faults new) → KeepsLent host old new
      → PrintsLines {T = U} host (Ok done) bytes old new
  line_done E x done bytes old new prints counts lent =
      (record { prints = prints.out; errors = prints.errors ∙ sym (told_nothing (host.printed old Errors)); error_count = counts.1; lent = lent }, counts.0)

  pub line_failed : {E : Type 0} (T U : Type 0) (e : E) (bytes : List ℕ) (old new : H) → PrintsLine {T = T} {E = E} (Err e) Out bytes (host.printed old) (host.printed new) → CountsPrint {T = T} {E = E} (Err e) Out (host.print_faults old) (host.print_faults new) → KeepsLent host old new
      → PrintsLines {T = U} host (Err stops.HostFault) bytes old new
  line_failed T U e bytes old new prints counts lent =
      (prints.0, prints.1, record { prints = prints.2.out; errors = prints.2.errors ∙ sym (told_nothing (host.printed old Errors)); error_count = counts.2; lent = lent }, counts.1)

  -- ---- lines in a buffer

  abbrev At : Type 0
  At = List ℕ × H

  pub buffer_none : {T : Type 0} (done : T) (at : At) → BuffersLines {T = T} host (Ok done) [] at at
  buffer_none done at = ([], append-nil at.0, puts_nothing at.1, refl)

  pub buffer_wanting : (T : Type 0) (lines : List ℕ) (at : At) → BuffersLines {T = T} host (Err stops.NoMemory) lines at at
  buffer_wanting T lines at = lines_wanting T (at.0 ++ lines) at.1

  -- lines, and further ones
  pub buffer_then : {T U : Type 0} (done : T) (r : Result U Stop) (a b : List ℕ) (old mid new : At) → BuffersLines {T = T} host (Ok done) a old mid → BuffersLines host r b mid new → BuffersLines host r (a ++ b) old new
  buffer_then done (Ok value) a b old mid new first second =
      let both = lines_then done (Ok value) first.0 second.0 old.1 mid.1 new.1 (first.2, first.3) (second.2, second.3) in (
        first.0 ++ second.0,
        sym (append_assoc old.0 a b)
            ∙ ap (λ (l : List ℕ). l ++ b) first.1
            ∙ append_assoc first.0 mid.0 b
            ∙ ap (λ (l : List ℕ). first.0 ++ l) second.1
            ∙ sym (append_assoc first.0 second.0 new.0),
        both.0,
        both.1,
      )
  buffer_then {T} {U} done (Err stop) a b old mid new first second =
      let all : first.0 ++ (mid.0 ++ b) ≡ old.0 ++ (a ++ b) =
      sym (append_assoc first.0 mid.0 b) ∙ ap (λ (l : List ℕ). l ++ b) (sym first.1) ∙ append_assoc old.0 a b in
      subst (λ (l : List ℕ). PrintsLines {T = U} host (Err stop) l old.1 new.1) all
      (lines_then {T = T} {U = U} done (Err stop) first.0 (mid.0 ++ b) old.1 mid.1 new.1 (first.2, first.3) second)

  -- lines that didn't all go on
  pub buffer_stop : (T U : Type 0) (stop : Stop) (a b : List ℕ) (old new : At) → BuffersLines {T = T} host (Err stop) a old new → BuffersLines {T = U} host (Err stop) (a ++ b) old new
  buffer_stop T U stop a b old new is =
      subst (λ (l : List ℕ). PrintsLines {T = U} host (Err stop) l old.1 new.1) (append_assoc old.0 a b)
      (lines_stop T U stop (old.0 ++ a) b old.1 new.1 is)

  -- all that the buffer has was printed
  pub buffer_printed : {T : Type 0} (r : Result T Stop) (old new : At) → PrintsLines host r old.0 old.1 new.1 → new.0 ≡ [] → BuffersLines host r [] old new
  buffer_printed (Ok done) old new prints none = (old.0, ap (λ (l : List ℕ). old.0 ++ l) (sym none), prints.0, prints.1)
  buffer_printed {T} (Err stop) old new prints none =
      subst (λ (l : List ℕ). PrintsLines {T = T} host (Err stop) l old.1 new.1) (sym (append-nil old.0)) prints

  -- a line that was put into it first
  pub buffer_put : {T : Type 0} (r : Result T Stop) (bytes old mid : List ℕ) (h : H) (new : At) → mid ≡ old ++ bytes → BuffersLines host r [] (mid, h) new → BuffersLines host r bytes (old, h) new
  buffer_put (Ok done) bytes old mid h new is rest = (rest.0, sym is ∙ sym (append-nil mid) ∙ rest.1, rest.2, rest.3)
  buffer_put {T} (Err stop) bytes old mid h new is rest =
      subst (λ (l : List ℕ). PrintsLines {T = T} host (Err stop) l h new.1) (append-nil mid ∙ is) rest

  -- from an empty buffer on, and then what it has is printed
  pub buffer_rest : {T U : Type 0} (done : T) (r : Result U Stop) (lines : List ℕ) (old mid : At) (new : H) → old.0 ≡ [] → BuffersLines {T = T} host (Ok done) lines old mid → PrintsLines host r mid.0 mid.1 new → PrintsLines host r lines old.1 new
  buffer_rest done r lines old mid new none buffered prints =
      subst (λ (l : List ℕ). PrintsLines host r l old.1 new) (sym buffered.1 ∙ ap (λ (l : List ℕ). l ++ lines) none)
      (lines_then done r buffered.0 mid.0 old.1 mid.1 new (buffered.2, buffered.3) prints)

  pub buffer_stopped : (T U : Type 0) (stop : Stop) (lines : List ℕ) (old new : At) → old.0 ≡ [] → BuffersLines {T = T} host (Err stop) lines old new → PrintsLines {T = U} host (Err stop) lines old.1 new.1
  buffer_stopped T U stop lines old new none is =
      subst (λ (l : List ℕ). PrintsLines {T = U} host (Err stop) l old.1 new.1) (append-nil (old.0 ++ lines) ∙ ap (λ (l : List ℕ). l ++ lines) none)
      (lines_stop T U stop (old.0 ++ lines) [] old.1 new.1 is)
