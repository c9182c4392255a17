-- What stands at a line, by its shape and its place.
use Rattle.std.proofs.Common.{◌≡◌, ℕ, suc, cond, Bool, true, false, List, [], ◌∷◌, refl, sym, ◌∙◌, ap, subst}
use Rattle.std.specs.Prelude.{Option, Some, None, length}
use Rattle.std.proofs.lemmas.Bool.{true≢false}
use Rattle.conf_text.specs.declared.fault.ConfKind.{ConfKind}
use Rattle.conf_text.specs.declared.fault.ConfKind.TheVariants as kinds
use Rattle.conf_text.specs.declared.keys.Key.{Key}
use Rattle.index_conf.specs.declared.conf.IndexConf.{IndexConf}
use Rattle.conf_text.specs.declared.draft.Draft.{Draft}
use Rattle.conf_text.specs.declared.reading.LinePlace.{LinePlace as CodePlace}
use Rattle.conf_text.specs.declared.reading.LinePlace.TheVariants as places
use Rattle.conf_text.specs.declared.reading.Section.TheVariants as sections
use Rattle.conf_text.specs.steps.Taking.{IsGoodHead, IsHeadFault, Leads, PlaceHas, place_of}
use Rattle.conf_text.specs.steps.Drafts.{AreIndexes, IsDraft, IsEndFault, IsEntryFault, IsGoodEnd, IsGoodEntry}
use Rattle.conf_text.specs.Faults.{IsFaultAt, IsGoodAt, StandsAt, StandsAtEnd, StandsAtEntry, StandsAtHead, is_syntax}
use Rattle.conf_text.specs.Sections.{Entry, IndexText, LinePlace, Spot, after_head, headed, index, inside, other, outside, spot_at}
use Rattle.conf_text.specs.Shapes.{Shape, closing, entry, index_head, opening, other_head}

-- no fault stands at a line that isn't misplaced, where none of the others does
pub good_from : (spot : Spot) (line : Shape) (last : Bool) → is_syntax spot.place line last ≡ false → ((kind : ConfKind) → StandsAt kind spot.indexes spot.entries spot.place line → ⊥) → IsGoodAt spot line last
good_from spot line last fine none = (none kinds.Limit, (none kinds.Missing, (none kinds.Repeated, (none kinds.BadValue, (none kinds.UnknownKey, (none kinds.UnknownSection, ((λ yes. true≢false (sym yes ∙ fine)), (none kinds.NotText, tt))))))))

opening_none : (texts : List IndexText) (entries : List Entry) (place : LinePlace) (kind : ConfKind) → StandsAt kind texts entries place opening → ⊥
opening_none texts entries outside kind stands = stands
opening_none texts entries (headed section) kind stands = stands
opening_none texts entries (inside (index name)) kind stands = stands
opening_none texts entries (inside other) kind stands = stands

-- `{` has no other fault
pub good_opening : (spot : Spot) (last : Bool) → is_syntax spot.place opening last ≡ false → IsGoodAt spot opening last
good_opening spot last fine = good_from spot opening last fine (opening_none spot.indexes spot.entries spot.place)

-- an entry of a section that is no index has no other fault
pub good_other_entry : (texts : List IndexText) (entries : List Entry) (key : Option Key) (value : List ℕ) (last : Bool) → is_syntax (inside other) (entry key value) last ≡ false → IsGoodAt (spot_at texts entries (inside other)) (entry key value) last
good_other_entry texts entries key value last fine = good_from (spot_at texts entries (inside other)) (entry key value) last fine (λ kind h. h)

pub good_other_closing : (texts : List IndexText) (entries : List Entry) (last : Bool) → is_syntax (inside other) closing last ≡ false → IsGoodAt (spot_at texts entries (inside other)) closing last
good_other_closing texts entries last fine = good_from (spot_at texts entries (inside other)) closing last fine (λ kind h. h)

-- the head of another section has no fault
pub good_other_head : (texts : List IndexText) (entries : List Entry) (opens last : Bool) → is_syntax outside (other_head opens) last ≡ false → IsGoodAt (spot_at texts entries outside) (other_head opens) last
good_other_head texts entries opens last fine = good_from (spot_at texts entries outside) (other_head opens) last fine (λ kind h. h)

no_head_fault : (texts : List IndexText) (name : List ℕ) → IsGoodHead texts name → (kind : ConfKind) → StandsAtHead kind texts name → ⊥
no_head_fault texts name good kinds.Repeated stands = true≢false (sym stands ∙ good.new)
no_head_fault texts name good kinds.Limit stands = true≢false (sym stands ∙ good.within)
no_head_fault texts name good _ stands = stands

pub good_head : (texts : List IndexText) (entries : List Entry) (name : List ℕ) (opens last : Bool) → is_syntax outside (index_head name opens) last ≡ false → IsGoodHead texts name → IsGoodAt (spot_at texts entries outside) (index_head name opens) last
good_head texts entries name opens last fine good = good_from (spot_at texts entries outside) (index_head name opens) last fine (no_head_fault texts name good)

-- the fault of the head of an index
pub faulty_head : (texts : List IndexText) (entries : List Entry) (name : List ℕ) (opens last : Bool) (kind : ConfKind) → is_syntax outside (index_head name opens) last ≡ false → IsHeadFault kind texts name → IsFaultAt kind (spot_at texts entries outside) (index_head name opens) last
faulty_head texts entries name opens last kinds.Repeated fine fault = record {
  stands = fault;
  first = ((λ h. h), ((λ h. h), ((λ h. h), ((λ yes. true≢false (sym yes ∙ fine)), ((λ h. h), tt)))));
}
faulty_head texts entries name opens last kinds.Limit fine fault = record {
  stands = fault.1;
  first = ((λ h. h), ((λ yes. true≢false (sym yes ∙ fault.0)), ((λ h. h), ((λ h. h), ((λ h. h), ((λ yes. true≢false (sym yes ∙ fine)), ((λ h. h), tt)))))));
}
faulty_head texts entries name opens last _ fine fault = absurd fault

no_entry_fault : (texts : List IndexText) (entries : List Entry) (key : Key) (value : List ℕ) → IsGoodEntry texts entries key value → (kind : ConfKind) → StandsAtEntry kind texts entries key value → ⊥
no_entry_fault texts entries key value good kinds.BadValue stands = stands good.value_is
no_entry_fault texts entries key value good kinds.Repeated stands = true≢false (sym stands ∙ good.new)
no_entry_fault texts entries key value good kinds.Limit stands = true≢false (sym stands ∙ good.within)
no_entry_fault texts entries key value good _ stands = stands

pub good_entry : (texts : List IndexText) (entries : List Entry) (name : List ℕ) (key : Key) (value : List ℕ) (last : Bool) → is_syntax (inside (index name)) (entry (Some key) value) last ≡ false → IsGoodEntry texts entries key value → IsGoodAt (spot_at texts entries (inside (index name))) (entry (Some key) value) last
good_entry texts entries name key value last fine good = good_from (spot_at texts entries (inside (index name))) (entry (Some key) value) last fine (no_entry_fault texts entries key value good)

no_end_fault : (entries : List Entry) → IsGoodEnd entries → (kind : ConfKind) → StandsAtEnd kind entries → ⊥
no_end_fault entries good kinds.BadValue stands = true≢false (sym stands ∙ good.stripped)
no_end_fault entries good kinds.Missing stands = true≢false (sym stands ∙ good.whole)
no_end_fault entries good _ stands = stands

pub good_closing : (texts : List IndexText) (entries : List Entry) (name : List ℕ) (last : Bool) → is_syntax (inside (index name)) closing last ≡ false → IsGoodEnd entries → IsGoodAt (spot_at texts entries (inside (index name))) closing last
good_closing texts entries name last fine good = good_from (spot_at texts entries (inside (index name))) closing last fine (no_end_fault entries good)

-- the fault of a key that is none of an index
pub unknown_entry : (texts : List IndexText) (entries : List Entry) (name value : List ℕ) (last : Bool) → is_syntax (inside (index name)) (entry None value) last ≡ false → IsFaultAt kinds.UnknownKey (spot_at texts entries (inside (index name))) (entry None value) last
unknown_entry texts entries name value last fine = record { stands = tt; first = ((λ h. h), ((λ yes. true≢false (sym yes ∙ fine)), ((λ h. h), tt))) }

-- the fault of an entry
pub faulty_entry : (texts : List IndexText) (entries : List Entry) (name : List ℕ) (key : Key) (value : List ℕ) (last : Bool) (kind : ConfKind) → is_syntax (inside (index name)) (entry (Some key) value) last ≡ false → IsEntryFault kind texts entries key value → IsFaultAt kind (spot_at texts entries (inside (index name))) (entry (Some key) value) last
faulty_entry texts entries name key value last kinds.BadValue fine fault = record {
  stands = fault;
  first = ((λ h. h), ((λ h. h), ((λ yes. true≢false (sym yes ∙ fine)), ((λ h. h), tt))));
}
faulty_entry texts entries name key value last kinds.Repeated fine fault = record {
  stands = fault.1;
  first = ((λ bad. bad fault.0), ((λ h. h), ((λ h. h), ((λ yes. true≢false (sym yes ∙ fine)), ((λ h. h), tt)))));
}
faulty_entry texts entries name key value last kinds.Limit fine fault = record {
  stands = fault.2;
  first = ((λ h. h), ((λ yes. true≢false (sym yes ∙ fault.1)), ((λ bad. bad fault.0), ((λ h. h), ((λ h. h), ((λ yes. true≢false (sym yes ∙ fine)), ((λ h. h), tt)))))));
}
faulty_entry texts entries name key value last _ fine fault = absurd fault

-- the fault of an index's end
pub faulty_end : (texts : List IndexText) (entries : List Entry) (name : List ℕ) (last : Bool) (kind : ConfKind) → is_syntax (inside (index name)) closing last ≡ false → IsEndFault kind entries → IsFaultAt kind (spot_at texts entries (inside (index name))) closing last
faulty_end texts entries name last kinds.BadValue fine fault = record {
  stands = fault;
  first = ((λ h. h), ((λ h. h), ((λ yes. true≢false (sym yes ∙ fine)), ((λ h. h), tt))));
}
faulty_end texts entries name last kinds.Missing fine fault = record {
  stands = fault.1;
  first = ((λ h. h), ((λ yes. true≢false (sym yes ∙ fault.0)), ((λ h. h), ((λ h. h), ((λ yes. true≢false (sym yes ∙ fine)), ((λ h. h), tt))))));
}
faulty_end texts entries name last _ fine fault = absurd fault

-- an index that begins
pub begins_index : (name : List ℕ) (draft : Draft) (opens : Bool) (next : CodePlace) → IsDraft name [] draft → next ≡ cond opens (places.Inside (sections.Index draft)) (places.Headed (sections.Index draft)) → Leads (after_head (index name) opens) [] next
begins_index name draft true next is made = record {
  place_is = ap place_of made ∙ ap (λ n. inside (index n)) is.named;
  has = subst (PlaceHas []) (sym made) (subst (λ n. IsDraft n [] draft) (sym is.named) is);
}
begins_index name draft false next is made = record {
  place_is = ap place_of made ∙ ap (λ n. headed (index n)) is.named;
  has = subst (PlaceHas []) (sym made) (subst (λ n. IsDraft n [] draft) (sym is.named) is);
}

-- as many texts as indexes
pub as_many : (texts : List IndexText) (indexes : List IndexConf) → AreIndexes texts indexes → length texts ≡ length indexes
as_many [] [] are = refl
as_many [] (i ∷ indexes) are = absurd are
as_many (t ∷ texts) [] are = absurd are
as_many (t ∷ texts) (i ∷ indexes) are = ap suc (as_many texts indexes are.1)

-- an index with one more entry
pub leads_on : (name : List ℕ) (entries : List Entry) (draft : Draft) → IsDraft name entries draft → Leads (inside (index name)) entries (places.Inside (sections.Index draft))
leads_on name entries draft is = record {
  place_is = ap (λ n. inside (index n)) is.named;
  has = subst (λ n. IsDraft n entries draft) (sym is.named) is;
}
