-- Writes in a row.
use Rattle.std.proofs.Common.{◌≡◌, ◌<◌, ◌^◌, ℕ, ◌+◌, List, [], ◌∷◌, ◌++◌, Result, Ok, Err, refl, sym, ◌∙◌, ap, All, length, take, get_or, append_assoc}
use Rattle.std.specs.Prelude.{OnOk}
use Rattle.std.specs.List.{flat_map}
use Rattle.std.proofs.lemmas.List.{append-nil, take_more}
use Rattle.std.proofs.lemmas.Grind.{flat_map-append}
use Rattle.std.proofs.lemmas.List.Elements.{All-nil, All-cons}
use Rattle.root_slots.specs.States.{AreEntries, entry_bytes, naming}
use Rattle.root_slots.specs.declared.state.ChunkEntry.{ChunkEntry}

-- so many writes, the last of which may fail
pub two : {T E : Type 0} (r : Result T E) (o o1 o2 a b : List ℕ) → o1 ≡ o ++ a → OnOk r (o2 ≡ o1 ++ b) → OnOk r (o2 ≡ o ++ (a ++ b))
two (Err e) o o1 o2 a b one last = tt
two (Ok x) o o1 o2 a b one last = last ∙ ap (λ (l : List ℕ). l ++ b) one ∙ append_assoc o a b

pub three : {T E : Type 0} (r : Result T E) (o o1 o2 o3 a b c : List ℕ) → o1 ≡ o ++ a → o2 ≡ o1 ++ b → OnOk r (o3 ≡ o2 ++ c) → OnOk r (o3 ≡ o ++ (a ++ b ++ c))
three (Err e) o o1 o2 o3 a b c first second last = tt
three (Ok x) o o1 o2 o3 a b c first second last = last ∙ ap (λ (l : List ℕ). l ++ c) (second ∙ ap (λ (l : List ℕ). l ++ b) first) ∙ grouped
  where
    grouped : o ++ a ++ b ++ c ≡ o ++ (a ++ b ++ c)
    grouped = simp append_assoc refl

pub four : {T E : Type 0} (r : Result T E) (o o1 o2 o3 o4 a b c d : List ℕ) → o1 ≡ o ++ a → o2 ≡ o1 ++ b → o3 ≡ o2 ++ c → OnOk r (o4 ≡ o3 ++ d) → OnOk r (o4 ≡ o ++ (a ++ b ++ c ++ d))
four (Err e) o o1 o2 o3 o4 a b c d first second third last = tt
four (Ok x) o o1 o2 o3 o4 a b c d first second third last =
    last ∙ ap (λ (l : List ℕ). l ++ d) (third ∙ ap (λ (l : List ℕ). l ++ c) (second ∙ ap (λ (l : List ℕ). l ++ b) first)) ∙ grouped
  where
    grouped : o ++ a ++ b ++ c ++ d ≡ o ++ (a ++ b ++ c ++ d)
    grouped = simp append_assoc refl

-- one chunk more
pub one_more : (o out new : List ℕ) (chunks : List ChunkEntry) (i : ℕ) (c : ChunkEntry) → i < length chunks → c ≡ get_or chunks i c → out ≡ o ++ flat_map entry_bytes (take i chunks) → new ≡ out ++ entry_bytes c → new ≡ o ++ flat_map entry_bytes (take (i + 1) chunks)
one_more o out new chunks i c within is before written =
    let more : take (i + 1) chunks ≡ take i chunks ++ c ∷ [] = take_more chunks i c within ∙ ap (λ (e : ChunkEntry). take i chunks ++ e ∷ []) (sym is) in
    let both : flat_map entry_bytes (take (i + 1) chunks) ≡ flat_map entry_bytes (take i chunks) ++ entry_bytes c =
    ap (λ (cs : List ChunkEntry). flat_map entry_bytes cs) more ∙ flat_map-append entry_bytes (take i chunks) (c ∷ []) ∙ ap (λ (l : List ℕ). flat_map entry_bytes (take i chunks) ++ l) (append-nil (entry_bytes c)) in
    written ∙ ap (λ (l : List ℕ). l ++ entry_bytes c) before ∙ append_assoc o (flat_map entry_bytes (take i chunks)) (entry_bytes c) ∙ ap (λ (l : List ℕ). o ++ l) (sym both)

-- the number of a chunk's dead rows can be written
pub few_dead : (next_file : ℕ) (named : List ℕ) (chunks : List ChunkEntry) → AreEntries next_file named chunks → All (λ c. length c.dead < 2 ^ 32) chunks
few_dead next_file named [] are = All-nil (λ (c : ChunkEntry). length c.dead < 2 ^ 32)
few_dead next_file named (c ∷ chunks) are = All-cons (λ (c : ChunkEntry). length c.dead < 2 ^ 32) c chunks are.0.few (few_dead next_file (naming named c) chunks are.1)
