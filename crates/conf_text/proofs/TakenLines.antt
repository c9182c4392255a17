-- Lines that were taken.
use Rattle.std.proofs.Common.{◌≡◌, ℕ, Bool, true, false, cond, List, [], ◌∷◌, ◌++◌, append-nil, sym, ap, subst}
use Rattle.std.specs.Prelude.{Option, Some, None, Result, Ok, Err}
use Rattle.std.specs.List.{AllZip}
use Rattle.std.proofs.lemmas.Bool.{true≢false}
use Rattle.srch_base.specs.declared.faults.Or.{Or}
use Rattle.srch_base.specs.declared.faults.Or.TheVariants as causes
use Rattle.index_conf.specs.declared.conf.IndexConf.{IndexConf}
use Rattle.conf_text.specs.declared.draft.Draft.{Draft}
use Rattle.conf_text.specs.declared.fault.ConfKind.{ConfKind}
use Rattle.conf_text.specs.declared.fault.ConfKind.TheVariants as kinds
use Rattle.conf_text.specs.declared.keys.Key.{Key}
use Rattle.conf_text.specs.declared.reading.LinePlace.{LinePlace as CodePlace}
use Rattle.conf_text.specs.declared.reading.LinePlace.TheVariants as places
use Rattle.conf_text.specs.declared.reading.Section.TheVariants as sections
use Rattle.conf_text.specs.Confs.{IsIndexOf}
use Rattle.conf_text.specs.steps.Drafts.{AreIndexes, EndsIndex, IsDraft, entry_with}
use Rattle.conf_text.specs.Faults.{IsFaultAt, is_syntax}
use Rattle.conf_text.specs.Sections.{Entry, IndexText, LinePlace, after_head, after_opening, entries_after, headed, index, inside, other, outside, spot_at}
use Rattle.conf_text.specs.Shapes.{closing, entry, index_head, opening, other_head}
use Rattle.conf_text.specs.steps.Taking.{Begins, Closes, Enters, EntersIndex, Leads, PlaceHas, TakesLine, place_of, reached}
use Rattle.conf_text.proofs.Spots.{faulty_end, faulty_entry, faulty_head, good_closing, good_entry, good_head, good_opening, good_other_closing, good_other_entry, good_other_head, leads_on, unknown_entry}

-- two lists side by side, with one more
zip_more : {A B : Type 0} (R : A → B → Type 0) (xs : List A) (ys : List B) (x : A) (y : B) → AllZip R xs ys → R x y → AllZip R (xs ++ x ∷ []) (ys ++ y ∷ [])
zip_more R [] [] x y all is = (is, tt)
zip_more R [] (b ∷ ys) x y all is = absurd all
zip_more R (a ∷ xs) [] x y all is = absurd all
zip_more R (a ∷ xs) (b ∷ ys) x y all is = (all.0, zip_more R xs ys x y all.1 is)

-- an index that ended
pub closes_index : (texts : List IndexText) (entries : List Entry) (place next : CodePlace) (draft : Draft) (old new : List IndexConf) (made : IndexConf) → place ≡ places.Inside (sections.Index draft) → next ≡ places.Outside → ((name : List ℕ) (es : List Entry) → IsDraft name es draft → EndsIndex name es (Ok made)) → new ≡ old ++ made ∷ [] → AreIndexes texts old → PlaceHas entries place → Closes texts entries (place_of place) new (Ok next)
closes_index texts entries place next draft old new made is left ends added are has =
    subst (λ (p : CodePlace). PlaceHas entries p → Closes texts entries (place_of p) new (Ok next)) (sym is)
    (λ is_draft. let end = ends draft.name entries is_draft in
    (end.0, subst (AreIndexes (texts ++ record { name = draft.name; entries = entries } ∷ [])) (sym added) (zip_more IsIndexOf texts old (record { name = draft.name; entries = entries }) made are end.1), left))
    has

entered_draft : (texts : List IndexText) (entries : List Entry) (name value : List ℕ) (new : Draft) (key : Option Key) (result : Result (Unit {0}) (Or ConfKind)) → EntersIndex texts entries name key value (reached new result) → Enters texts entries (inside (index name)) key value (reached (places.Inside (sections.Index new)) result)
entered_draft texts entries name value new None (Ok done) enters = absurd enters
entered_draft texts entries name value new None (Err causes.NoMemory) enters = tt
entered_draft texts entries name value new None (Err (causes.Fault kind)) enters = enters
entered_draft texts entries name value new (Some key) (Ok done) enters = (enters.0, leads_on name (entries ++ entry_with key value ∷ []) new enters.1)
entered_draft texts entries name value new (Some key) (Err causes.NoMemory) enters = tt
entered_draft texts entries name value new (Some key) (Err (causes.Fault kind)) enters = enters

-- an index that took an entry
pub enters_index : (texts : List IndexText) (entries : List Entry) (place : CodePlace) (old new : Draft) (key : Option Key) (value : List ℕ) (result : Result (Unit {0}) (Or ConfKind)) → place ≡ places.Inside (sections.Index old) → (IsDraft old.name entries old → EntersIndex texts entries old.name key value (reached new result)) → PlaceHas entries place → Enters texts entries (place_of place) key value (reached (places.Inside (sections.Index new)) result)
enters_index texts entries place old new key value result is enters has =
    subst (λ (p : CodePlace). PlaceHas entries p → Enters texts entries (place_of p) key value (reached (places.Inside (sections.Index new)) result)) (sym is)
    (λ is_draft. entered_draft texts entries old.name value new key result (enters is_draft))
    has

-- the head of an index was taken
pub begun : (texts : List IndexText) (entries : List Entry) (place : LinePlace) (name : List ℕ) (opens last : Bool) (old : List IndexConf) (result : Result CodePlace (Or ConfKind)) → is_syntax place (index_head name opens) last ≡ false → AreIndexes texts old → Begins texts name opens result → TakesLine (spot_at texts entries place) (index_head name opens) last old result
begun texts entries (headed section) name opens last old result fine are begins = absurd (true≢false fine)
begun texts entries (inside section) name opens last old result fine are begins = absurd (true≢false fine)
begun texts entries outside name opens last old (Ok next) fine are begins = record { good = good_head texts entries name opens last fine begins.0; indexes = are; leads = begins.1 }
begun texts entries outside name opens last old (Err causes.NoMemory) fine are begins = tt
begun texts entries outside name opens last old (Err (causes.Fault kind)) fine are begins = faulty_head texts entries name opens last kind fine begins

other_head_leads : (opens : Bool) (next : CodePlace) → next ≡ cond opens (places.Inside sections.Other) (places.Headed sections.Other) → Leads (after_head other opens) [] next
other_head_leads true next made = record { place_is = ap place_of made; has = subst (PlaceHas []) (sym made) tt }
other_head_leads false next made = record { place_is = ap place_of made; has = subst (PlaceHas []) (sym made) tt }

-- the head of another section was taken
pub begun_other : (texts : List IndexText) (entries : List Entry) (place : LinePlace) (opens last : Bool) (old : List IndexConf) (next : CodePlace) → is_syntax place (other_head opens) last ≡ false → AreIndexes texts old → next ≡ cond opens (places.Inside sections.Other) (places.Headed sections.Other) → TakesLine (spot_at texts entries place) (other_head opens) last old (Ok next)
begun_other texts entries (headed section) opens last old next fine are made = absurd (true≢false fine)
begun_other texts entries (inside section) opens last old next fine are made = absurd (true≢false fine)
begun_other texts entries outside opens last old next fine are made = record { good = good_other_head texts entries opens last fine; indexes = are; leads = other_head_leads opens next made }

-- `{` was taken
pub opened : (texts : List IndexText) (entries : List Entry) (place : LinePlace) (last : Bool) (old : List IndexConf) (next : CodePlace) → is_syntax place opening last ≡ false → AreIndexes texts old → Leads (after_opening place) entries next → TakesLine (spot_at texts entries place) opening last old (Ok next)
opened texts entries place last old next fine are leads = record { good = good_opening (spot_at texts entries place) last fine; indexes = are; leads = leads }

-- `}` was taken
pub closed : (texts : List IndexText) (entries : List Entry) (place : LinePlace) (last : Bool) (new : List IndexConf) (result : Result CodePlace (Or ConfKind)) → is_syntax place closing last ≡ false → Closes texts entries place new result → TakesLine (spot_at texts entries place) closing last new result
closed texts entries outside last new result fine closes = absurd (true≢false fine)
closed texts entries (headed section) last new result fine closes = absurd (true≢false fine)
closed texts entries (inside (index name)) last new (Ok next) fine closes = record {
  good = good_closing texts entries name last fine closes.0;
  indexes = closes.1;
  leads = record { place_is = ap place_of closes.2; has = subst (PlaceHas entries) (sym closes.2) tt };
}
closed texts entries (inside (index name)) last new (Err causes.NoMemory) fine closes = tt
closed texts entries (inside (index name)) last new (Err (causes.Fault kind)) fine closes = faulty_end texts entries name last kind fine closes
closed texts entries (inside other) last new (Ok next) fine closes = record {
  good = good_other_closing texts entries last fine;
  indexes = subst (λ (ts : List IndexText). AreIndexes ts new) (sym (append-nil texts)) closes.0;
  leads = record { place_is = ap place_of closes.1; has = subst (PlaceHas entries) (sym closes.1) tt };
}
closed texts entries (inside other) last new (Err causes.NoMemory) fine closes = tt
closed texts entries (inside other) last new (Err (causes.Fault kind)) fine closes = absurd closes

unknown_key : (texts : List IndexText) (entries : List Entry) (name value : List ℕ) (last : Bool) (kind : ConfKind) → is_syntax (inside (index name)) (entry None value) last ≡ false → kind ≡ kinds.UnknownKey → IsFaultAt kind (spot_at texts entries (inside (index name))) (entry None value) last
unknown_key texts entries name value last kind fine is =
    subst (λ (k : ConfKind). IsFaultAt k (spot_at texts entries (inside (index name))) (entry None value) last) (sym is) (unknown_entry texts entries name value last fine)

-- an entry was taken
pub entered : (texts : List IndexText) (entries : List Entry) (place : LinePlace) (key : Option Key) (value : List ℕ) (last : Bool) (old : List IndexConf) (result : Result CodePlace (Or ConfKind)) → is_syntax place (entry key value) last ≡ false → AreIndexes texts old → Enters texts entries place key value result → TakesLine (spot_at texts entries place) (entry key value) last old result
entered texts entries outside key value last old result fine are enters = absurd (true≢false fine)
entered texts entries (headed section) key value last old result fine are enters = absurd (true≢false fine)
entered texts entries (inside (index name)) None value last old (Ok next) fine are enters = absurd enters
entered texts entries (inside (index name)) None value last old (Err causes.NoMemory) fine are enters = tt
entered texts entries (inside (index name)) None value last old (Err (causes.Fault kind)) fine are enters = unknown_key texts entries name value last kind fine enters
entered texts entries (inside (index name)) (Some key) value last old (Ok next) fine are enters = record {
  good = good_entry texts entries name key value last fine enters.0;
  indexes = are;
  leads = enters.1;
}
entered texts entries (inside (index name)) (Some key) value last old (Err causes.NoMemory) fine are enters = tt
entered texts entries (inside (index name)) (Some key) value last old (Err (causes.Fault kind)) fine are enters = faulty_entry texts entries name key value last kind fine enters
entered texts entries (inside other) key value last old (Ok next) fine are enters = record {
  good = good_other_entry texts entries key value last fine;
  indexes = are;
  leads = record { place_is = ap place_of enters; has = subst (PlaceHas (entries_after entries (entry key value))) (sym enters) tt };
}
entered texts entries (inside other) key value last old (Err causes.NoMemory) fine are enters = tt
entered texts entries (inside other) key value last old (Err (causes.Fault kind)) fine are enters = absurd enters
