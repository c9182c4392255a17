-- What a scan refuses over the marks that are read ended with negated items alone.
use Rattle.std.proofs.Common.{◌≡◌, ℕ, List, [], ◌∷◌, ◌++◌, ◌⊎◌, inl, inr, refl, ◌∙◌, ap, append_assoc, arith}
use Rattle.query_marks.specs.declared.mark.Mark.{Mark}
use Rattle.query_marks.specs.declared.mark.Sign.TheVariants as signs
use Rattle.token_grammar.specs.Values.{IsPerhaps, Begins}
use Rattle.query_tree.specs.declared.query.Node.{Node}
use Rattle.query_grammar.specs.Grammar.{Is, Section, IsGroup, IsQuery, IsOpenAnd, all_items, has_item}
use Rattle.query_grammar.specs.QueryFaults.{Any, BeginsAnd, LastIs, EndedAnd, EndedSpan}
use Rattle.query_read.specs.steps.Levels.{at_start, Refuses}
use Rattle.query_read.proofs.PartScans.{clash}
use Rattle.query_read.proofs.SoundScans.{Sound, Ends, Found, sound_both, sound_front, sound_none, sound_one, quiet, found_in}
use Rattle.query_read.proofs.SoundAnds.{AfterAnd, any_part, any_to, expr_sound, group_sound}

-- what stands before the first AND
pub relaxed_begins : (u : List Mark) → IsPerhaps (Is signs.Relaxed) u → LastIs BeginsAnd u
relaxed_begins u (inl (m, is, sign)) = inr ([], m, is, inl sign)
relaxed_begins u (inr none) = inl none

relaxed_sound : (Passes : List Section → Type 0) (u : List Mark) → IsPerhaps (Is signs.Relaxed) u → Sound Passes [] u
relaxed_sound Passes u (inl (m, is, sign)) = sound_one Passes [] u m is (quiet Passes [] m signs.Relaxed sign (λ level. refl))
relaxed_sound Passes u (inr none) = sound_none Passes [] u none

query_sound : (Passes : List Section → Type 0) (node : Node) (u : List Mark) → IsQuery Passes 32 node u → Sound Passes [] u
query_sound Passes node u (a, bc, is, relaxed, (b, c, later, expr, (m, last, sign))) =
    let inside : AfterAnd Passes a b = expr_sound Passes (IsGroup Passes 32) (any_part Passes 32) (group_sound Passes 32 (omega arith)) (any_to Passes 32 (omega arith)) node b a (relaxed_begins a relaxed) expr in
    sound_both Passes [] u a bc is (relaxed_sound Passes a relaxed) (sound_both Passes a bc b c later inside.sound (sound_one Passes (a ++ b) c m last (inside.ends m (inr (inr (inl sign))))))

pub ended_of : (read x y : List Mark) (m : Mark) (place : ℕ) → read ≡ x ++ m ∷ y → Ends Any x m place → EndedAnd read place ⊎ EndedSpan read place
ended_of read x y m place is (inl (ends, at)) = inl (record {
  a = at.a;
  b = at.b;
  next = m;
  c = y;
  is = is ∙ ap (λ (w : List Mark). w ++ m ∷ y) at.is ∙ append_assoc at.a at.b (m ∷ y);
  begins = at.begins;
  ends = ends;
  sections = at.sections;
  and = at.and;
  none = at.none;
  at = at.at;
})
ended_of read x y m place is (inr (ends, at)) = inr (record {
  a = at.a;
  zones = at.zones;
  limit = at.limit;
  b = at.b;
  next = m;
  c = y;
  is = is ∙ ap (λ (w : List Mark). w ++ m ∷ y) at.is ∙ append_assoc at.a (at.limit ∷ at.b) (m ∷ y);
  spanning = at.spanning;
  ends = ends;
  items = at.section.items;
  section = at.stands;
  begun = at.begun;
  none = at.none;
  at = at.at;
})

pub refused_ended : (read : List Mark) (place : ℕ) → Begins (IsQuery Any 32) read → Refuses at_start read place → EndedAnd read place ⊎ EndedSpan read place
refused_ended read place (node, more, query) refused =
    let f : Found Any [] read place = found_in Any [] read place (sound_front Any [] read more (query_sound Any node (read ++ more) query)) refused in
    ended_of read f.x f.y f.m place f.is f.ends

-- Nothing is refused over the marks of a query whose ANDs are open.
pub open_refuses_none : (node : Node) (marks : List Mark) → IsQuery IsOpenAnd 32 node marks → (place : ℕ) → Refuses at_start marks place → ⊥
open_refuses_none node marks query place refused =
    let f : Found IsOpenAnd [] marks place = found_in IsOpenAnd [] marks place (query_sound IsOpenAnd node marks query) refused in
    by f.x f.m f.ends
  where
    by : (x : List Mark) (m : Mark) → Ends IsOpenAnd x m place → ⊥
    by x m (inl (ends, at)) = clash (has_item (all_items at.sections)) at.passes.0 at.none
    by x m (inr (ends, at)) =
        let (some, spans) = at.among.passes in
        clash (has_item at.section.items) (spans at.section at.zones at.among.before at.among.after at.among.is at.under) at.none
