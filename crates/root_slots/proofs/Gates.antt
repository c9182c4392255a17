-- What writes behind a gate, and over it, make of a slot.
use Rattle.std.proofs.Common.{◌≡◌, inl, inr, ℕ, zero, suc, ◌+◌, ◌≤◌, ◌<◌, List, [], ◌∷◌, ◌++◌, Bool, true, false, Option, Some, None, refl, sym, ◌∙◌, ap, subst, arith, length, take, drop, min, get_or}
use Rattle.std.specs.Int.{w64, to_le_bytes}
use Rattle.chunk_store.specs.Images.{contents, Writes, over}
use Rattle.chunk_store.specs.CrashModel.{Torn, Tears}
use Rattle.chunk_store.proofs.Parts.{torn_over, over_it}
use Rattle.root_slots.specs.Slots.{Slot, IsSlot, IsShut, sized, tail}
use Rattle.root_slots.specs.Roots.{Stays}
use Rattle.root_slots.specs.steps.Gates.{IsFilled, ToSame, ToShut, KeepsShut, ToFilled, ToHeld, ToOpened, SlotReplacing, SlotReplaced, ToDoubt}

gate_kept : (at n gate : ℕ) (rest x : List ℕ) → 1 ≤ at → Torn at n (gate ∷ rest) x → (more : List ℕ) × (x ≡ gate ∷ more)
gate_kept at n gate rest [] low torn = absurd (omega (arith, torn.no_shorter))
gate_kept zero n gate rest (y ∷ ys) low torn = absurd (omega arith)
gate_kept (suc a) n gate rest (y ∷ ys) low torn =
    let m : min (suc a) (suc (length rest)) ≡ suc (min a (length rest)) = omega arith in
    let front : y ∷ take (min a (length rest)) ys ≡ gate ∷ take a rest = ap (λ (k : ℕ). take k (y ∷ ys)) (sym m) ∙ torn.before in
    let same : y ≡ gate = cc in
    (ys, ap (λ (b : ℕ). b ∷ ys) same)

-- a closed gate stays closed under a write behind it
pub shut_torn : (at n : ℕ) (d x : Option (List ℕ)) → 1 ≤ at → Tears at n d x → IsShut d → IsShut x
shut_torn at n None x low tears shut = absurd (cc (shut.is))
shut_torn at n (Some d) None low tears shut = absurd tears
shut_torn at n (Some d) (Some x) low tears shut =
    let kept = gate_kept at n shut.gate shut.rest x low (subst (λ (l : List ℕ). Torn at n l x) shut.is tears) in
    record { gate = shut.gate; rest = kept.0; closed = shut.closed; is = kept.1 }

pub shut_written : (bytes : List ℕ) (d x : Option (List ℕ)) → Writes 1 bytes d x → IsShut d → IsShut x
shut_written bytes d x writes shut =
    record { gate = shut.gate; rest = bytes ++ drop (1 + length bytes) (shut.gate ∷ shut.rest); closed = shut.closed; is = ap contents writes ∙ ap (λ (l : List ℕ). over 1 bytes l) shut.is }

-- a gate that is being written is any gate, and nothing else changes
pub gate_torn : (gate : ℕ) (rest : List ℕ) (d x : Option (List ℕ)) → contents d ≡ gate ∷ rest → Tears 0 1 d x → (b : ℕ) × (contents x ≡ b ∷ rest)
gate_torn gate rest None x is tears = absurd (cc (is))
gate_torn gate rest (Some d) None is tears = absurd tears
gate_torn gate rest (Some d) (Some x) is tears = (get_or x 0 0, torn_over [] gate rest 0 refl x (subst (λ (l : List ℕ). Torn 0 1 l x) is tears))

pub gate_written : (gate b : ℕ) (rest : List ℕ) (d x : Option (List ℕ)) → contents d ≡ gate ∷ rest → Writes 0 (b ∷ []) d x → contents x ≡ b ∷ rest
gate_written gate b rest d x is writes = ap contents writes ∙ ap (λ (l : List ℕ). over 0 (b ∷ []) l) is ∙ over_it [] gate rest 0 refl b

short_torn : (d x : Option (List ℕ)) → Tears 0 1 d x → length (contents d) < 13 → length (contents x) < 13
short_torn None None tears short = short
short_torn None (Some x) tears short = omega (arith, tears.no_longer)
short_torn (Some d) None tears short = absurd tears
short_torn (Some d) (Some x) tears short = omega (arith, tears.no_longer)

-- a slot whose gate is being closed holds what it held, behind any gate
pub stays_torn : (bound : ℕ) (doubt : Option Slot) (d x : Option (List ℕ)) → Tears 0 1 d x → Stays false bound doubt d → Stays false bound doubt x
stays_torn bound doubt d x tears (inl short) = inl (short_torn d x tears short)
stays_torn bound doubt d x tears (inr holds) =
    let h = holds.1 in
    let torn = gate_torn h.gate (tail holds.0 ++ h.rest) d x h.is tears in
    inr (holds.0, record { slot = h.slot; gate = torn.0; rest = h.rest; is = torn.1 }, holds.2)

-- a gate that is closed, where it wasn't known to be
pub written_shut : (d x : Option (List ℕ)) → Writes 0 (0 ∷ []) d x → IsShut x
written_shut d x writes = record { gate = 0; rest = drop 1 (contents d); closed = omega arith; is = ap contents writes }

to_shut : (d x : Option (List ℕ)) → Writes 0 (0 ∷ []) d x → ToShut false d x
to_shut d x writes bound doubt stays = written_shut d x writes

to_same : (d x : Option (List ℕ)) → Tears 0 1 d x → ToSame false d x
to_same d x tears bound doubt stays = stays_torn bound doubt d x tears stays

pub same_shut : (shut : Bool) (file : Option (List ℕ)) → shut ≡ true → ToShut shut file file
same_shut shut file is bound doubt stays = subst (λ (b : Bool). Stays b bound doubt file) is stays

pub shuts : (shut : Bool) (d x : Option (List ℕ)) → shut ≡ false → Writes 0 (0 ∷ []) d x → ToShut shut d x
shuts shut d x is writes = subst (λ (b : Bool). ToShut b d x) (sym is) (to_shut d x writes)

pub sames : (shut : Bool) (d x : Option (List ℕ)) → shut ≡ false → Tears 0 1 d x → ToSame shut d x
sames shut d x is tears = subst (λ (b : Bool). ToSame b d x) (sym is) (to_same d x tears)

pub shut_left : (shut : Bool) (d i x : Option (List ℕ)) → IsShut i → x ≡ i → ToShut shut d x
shut_left shut d i x is same bound doubt stays = subst IsShut (sym same) is

-- the number and the state are written behind a closed gate
pub to_filled : (s : Slot) → IsSlot s → (raw : List ℕ) → raw ≡ sized s.state → (d e x : Option (List ℕ)) → Writes 1 (to_le_bytes w64 s.number) d e → Writes 9 raw e x → ToFilled s d x
to_filled s slot raw same d e x first second shut =
    let one : contents e ≡ shut.gate ∷ (to_le_bytes w64 s.number ++ drop 8 shut.rest) = ap contents first ∙ ap (λ (l : List ℕ). over 1 (to_le_bytes w64 s.number) l) shut.is in
    let two : contents x ≡ shut.gate ∷ (to_le_bytes w64 s.number ++ raw ++ drop (9 + length raw) (contents e)) = ap contents second ∙ ap (λ (l : List ℕ). take 9 l ++ raw ++ drop (9 + length raw) (contents e)) one in
    record {
      slot = slot;
      gate = shut.gate;
      rest = drop (9 + length raw) (contents e);
      closed = shut.closed;
      is = two ∙ ap (λ (l : List ℕ). shut.gate ∷ (to_le_bytes w64 s.number ++ l ++ drop (9 + length raw) (contents e))) same;
    }

pub filled_left : (s : Slot) (d i x : Option (List ℕ)) → IsFilled s i → x ≡ i → ToFilled s d x
filled_left s d i x is same shut = subst (IsFilled s) (sym same) is

-- nine bytes are there once the number is written
pub nine : (number : ℕ) (d e : Option (List ℕ)) → Writes 1 (to_le_bytes w64 number) d e → IsShut d → 9 ≤ length (contents e)
nine number d e first shut =
    let one : contents e ≡ shut.gate ∷ (to_le_bytes w64 number ++ drop 8 shut.rest) = ap contents first ∙ ap (λ (l : List ℕ). over 1 (to_le_bytes w64 number) l) shut.is in
    omega (arith, ap length one)

-- the gate is being opened, and is open
pub to_held : (d x : Option (List ℕ)) → Tears 0 1 d x → ToHeld d x
to_held d x tears s filled = let torn = gate_torn filled.gate (tail s ++ filled.rest) d x filled.is tears in record { slot = filled.slot; gate = torn.0; rest = filled.rest; is = torn.1 }

pub to_opened : (d x : Option (List ℕ)) → Writes 0 (1 ∷ []) d x → ToOpened d x
to_opened d x writes s filled = record { slot = filled.slot; rest = filled.rest; is = gate_written filled.gate 1 (tail s ++ filled.rest) d x filled.is writes }

-- a file that is torn, and is as one is whose gate is open
pub opened_left : (d i x : Option (List ℕ)) (rest : List ℕ) → Tears 0 1 d x → contents i ≡ 1 ∷ rest → x ≡ i → ToOpened d x
opened_left d i x rest tears is same s filled =
    let held = to_held d x tears s filled in
    let begins : held.gate ∷ (tail s ++ held.rest) ≡ 1 ∷ rest = sym held.is ∙ ap contents same ∙ is in
    let gate : held.gate ≡ 1 = ap (λ (l : List ℕ). get_or l 0 0) begins in
    record { slot = held.slot; rest = held.rest; is = held.is ∙ ap (λ (g : ℕ). g ∷ (tail s ++ held.rest)) gate }

pub begins_open : (d x : Option (List ℕ)) → Writes 0 (1 ∷ []) d x → (rest : List ℕ) × (contents x ≡ 1 ∷ rest)
begins_open d x writes = (drop 1 (contents d), ap contents writes)

-- the parts of replacing, one after the other
abbrev pub ToWhole : Bool → Slot → Option (List ℕ) → Option (List ℕ) → Type 0
ToWhole shut s old new = (bound : ℕ) (doubt : Option Slot) → Stays shut bound doubt old → IsFilled s new

pub whole : (shut : Bool) (s : Slot) (d e x : Option (List ℕ)) → ToShut shut d e → ToFilled s e x → ToWhole shut s d x
whole shut s d e x first second bound doubt stays = second (first bound doubt stays)

pub replaces_same : (shut : Bool) (s : Slot) (d x : Option (List ℕ)) → ToSame shut d x → SlotReplacing shut s d x
replaces_same shut s d x same bound doubt stays = inl (same bound doubt stays)

pub replaces_shut : (shut : Bool) (s : Slot) (d e x : Option (List ℕ)) → ToShut shut d e → KeepsShut e x → SlotReplacing shut s d x
replaces_shut shut s d e x first second bound doubt stays = inr (inl (second (first bound doubt stays)))

pub replaces_held : (shut : Bool) (s : Slot) (d e x : Option (List ℕ)) → ToWhole shut s d e → ToHeld e x → SlotReplacing shut s d x
replaces_held shut s d e x first second bound doubt stays = inr (inr (second s (first bound doubt stays)))

pub was_replaced : (shut : Bool) (s : Slot) (d e x : Option (List ℕ)) → ToWhole shut s d e → ToOpened e x → SlotReplaced shut s d x
was_replaced shut s d e x first second bound doubt stays = second s (first bound doubt stays)

pub doubts_same : (shut : Bool) (doubt : Option Slot) (d x : Option (List ℕ)) → ToSame shut d x → ToDoubt shut shut doubt doubt d x
doubts_same shut doubt d x same bound stays = same bound doubt stays

pub doubts_shut : (shut : Bool) (doubt : Option Slot) (d e x : Option (List ℕ)) → ToShut shut d e → KeepsShut e x → ToDoubt shut true doubt doubt d x
doubts_shut shut doubt d e x first second bound stays = second (first bound doubt stays)

pub doubts_new : (shut : Bool) (s : Slot) (doubt : Option Slot) (d e x : Option (List ℕ)) → ToWhole shut s d e → ToHeld e x → ToDoubt shut false doubt (Some s) d x
doubts_new shut s doubt d e x first second bound stays = inr (s, second s (first bound doubt stays), inr refl)
