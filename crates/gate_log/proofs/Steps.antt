-- What the two writes of a record, whole or cut short, make of a log's file.
use Rattle.std.proofs.Common.{◌≡◌, ℕ, ◌+◌, ◌-◌, ◌<◌, ◌^◌, List, [], ◌∷◌, ◌++◌, false, Option, Some, None, length, drop, get_or, min, refl, sym, ◌∙◌, ap, subst, arith, append_assoc, length-append}
use Rattle.chunk_store.specs.Images.{contents, Writes, over}
use Rattle.chunk_store.specs.CrashModel.{Torn, Tears}
use Rattle.chunk_store.proofs.Parts.{torn_behind, over_behind, torn_over, over_it}
use Rattle.gate_log.specs.declared.records.LogRecord.{LogRecord}
use Rattle.gate_log.specs.declared.log.GateLog.{GateLog}
use Rattle.gate_log.specs.Frames.{frame}
use Rattle.gate_log.proofs.OneMore.{last-push, records-push, spelled-push, length-spelled-push}
use Rattle.gate_log.specs.Logs.{Stands, staging, opening, opened, opened_by, MayFollow, spelled}

-- a file that has bytes is torn as these bytes are
torn_bytes : (at n : ℕ) (d x : Option (List ℕ)) → 0 < length (contents d) → Tears at n d x → Torn at n (contents d) (contents x)
torn_bytes at n None x some tears = absurd (omega arith)
torn_bytes at n (Some d) None some tears = absurd tears
torn_bytes at n (Some d) (Some x) some tears = tears

module _ (log : GateLog) (records : List LogRecord) where
  -- the gate lies in the file
  pub is_long : (next : Option LogRecord) (d : Option (List ℕ)) → Stands log records next d → log.end < length (contents d)
  is_long next d stands = omega (arith, ap length stands.is, length-append (spelled records) (stands.gate ∷ stands.rest), stands.end)

  -- a write behind the gate that is cut short leaves the records
  pub stage_torn : (at n : ℕ) (d x : Option (List ℕ)) → at ≡ log.end + 1 → Tears at n d x → Stands log records None d → Stands log records None x
  stage_torn at n d x same tears stands =
      let torn : Torn (log.end + 1) n (spelled records ++ stands.gate ∷ stands.rest) (contents x) =
      subst (λ (m : ℕ). Torn m n (spelled records ++ stands.gate ∷ stands.rest) (contents x)) same
      (subst (λ (l : List ℕ). Torn at n l (contents x)) stands.is (torn_bytes at n d x (omega (arith, is_long None d stands)) tears)) in
      record {
        records_are = stands.records_are;
        end = stands.end;
        last = stands.last;
        staged = stands.staged;
        gate = stands.gate;
        rest = drop (log.end + 1) (contents x);
        is = torn_behind (spelled records) stands.gate stands.rest log.end (sym stands.end) n (contents x) torn;
        closed = stands.closed;
        behind = tt;
      }

  -- one that is whole stages the record
  pub stage_whole : (at : ℕ) (r : LogRecord) (d x : Option (List ℕ)) → at ≡ log.end + 1 → length r.payload < 2 ^ 32 → r.number < 2 ^ 63 → MayFollow log.last r.number → Writes at (frame r ++ 0 ∷ []) d x
      → Stands log records None d → Stands (staging log r) records (Some r) x
  stage_whole at r d x same fits number follows writes stands =
      let bytes = frame r ++ 0 ∷ [] in
      let whole = spelled records ++ stands.gate ∷ stands.rest in
      let is : contents x ≡ over (log.end + 1) bytes whole = ap contents writes ∙ ap (λ (m : ℕ). over m bytes (contents d)) same ∙ ap (λ (l : List ℕ). over (log.end + 1) bytes l) stands.is in
      record {
        records_are = records-push records r stands.records_are (record { payload = fits; number = number }) (subst (λ (o : Option ℕ). MayFollow o r.number) stands.last follows);
        end = stands.end;
        last = stands.last;
        staged = refl;
        gate = stands.gate;
        rest = bytes ++ drop (log.end + 1 + length bytes) whole;
        is = is ∙ over_behind (spelled records) stands.gate stands.rest log.end (sym stands.end) bytes;
        closed = stands.closed;
        behind = (0, drop (log.end + 1 + length bytes) whole, omega arith, append_assoc (frame r) (0 ∷ []) (drop (log.end + 1 + length bytes) whole));
      }

  -- a write over the gate that is cut short leaves any gate
  pub gate_torn : (r : LogRecord) (d x : Option (List ℕ)) → Tears log.end 1 d x → Stands log records (Some r) d → Stands (opening log) records (Some r) x
  gate_torn r d x tears stands =
      let torn : Torn log.end 1 (spelled records ++ stands.gate ∷ stands.rest) (contents x) =
      subst (λ (l : List ℕ). Torn log.end 1 l (contents x)) stands.is (torn_bytes log.end 1 d x (omega (arith, is_long (Some r) d stands)) tears) in
      record {
        records_are = stands.records_are;
        end = stands.end;
        last = stands.last;
        staged = stands.staged;
        gate = get_or (contents x) log.end 0;
        rest = stands.rest;
        is = torn_over (spelled records) stands.gate stands.rest log.end (sym stands.end) (contents x) torn;
        closed = λ no. absurd (cc);
        behind = stands.behind;
      }

  -- one that is whole adds the record
  pub gate_whole : (r : LogRecord) (d x : Option (List ℕ)) → length (contents d) < 2 ^ 64 → Writes log.end (1 ∷ []) d x → Stands log records (Some r) d → Stands (opened log) (records ++ r ∷ []) None x
  gate_whole r d x short writes stands =
      let whole = spelled records ++ stands.gate ∷ stands.rest in
      let behind = stands.behind in
      let more : List ℕ = behind.0 ∷ behind.1 in
      let is : contents x ≡ spelled records ++ 1 ∷ stands.rest = ap contents writes ∙ ap (λ (l : List ℕ). over log.end (1 ∷ []) l) stands.is ∙ over_it (spelled records) stands.gate stands.rest log.end (sym stands.end) 1 in
      let end : log.end + (13 + length r.payload) ≡ length (spelled (records ++ r ∷ [])) = omega (arith, stands.end, length-spelled-push records r) in
      let fits : log.end + (13 + length r.payload) < 2 ^ 64 = omega (arith, ap length stands.is, length-append (spelled records) (stands.gate ∷ stands.rest), ap length behind.3, length-append (frame r) more, stands.end, short) in
      let opened_is : opened log ≡ record log { end = min (log.end + (13 + length r.payload)) (2 ^ 64 - 1); last = Some r.number; staged = None; pending = false } = ap (opened_by log) stands.staged in
      subst (λ (l : GateLog). Stands l (records ++ r ∷ []) None x) (sym opened_is)
      (record {
        records_are = stands.records_are;
        end = omega (arith, end, fits);
        last = sym (last-push records r);
        staged = refl;
        gate = behind.0;
        rest = behind.1;
        is = is ∙ ap (λ (l : List ℕ). spelled records ++ 1 ∷ l) behind.3 ∙ sym (spelled-push records r more);
        closed = λ (_ : _). behind.2;
        behind = tt;
      })
