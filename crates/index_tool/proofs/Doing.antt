-- Deeds: asking alone, asking before others, and a report behind them.
use Rattle.std.proofs.Common.{◌≡◌, ℕ, List, [], ◌++◌, refl, sym, ap, subst, ◌∙◌, append-nil, append_assoc}
use Rattle.std.specs.Prelude.{Option, Some, None}
use Rattle.srch_base.specs.Told.{then_bytes}
use Rattle.program_host.specs.Lending.{back_of, given_of}
use Rattle.program_host.specs.Requests.{Requested}
use Rattle.program_host.specs.declared.host.Stream.TheVariants.{Out}
use Rattle.program_host.specs.declared.requests.Request.{Request}
use Rattle.index_tool.specs.Runs.{Count, Deeds, Does, IsIdle}
use Rattle.index_tool.specs.declared.host.ToolHost.{Ghosts as HostWords}
use Rattle.index_tool.specs.steps.Sides.{Asks, KeepsLent}

-- nothing was asked for
pub requested_none : (before now : Option (List Request)) → now ≡ before → Requested before now []
requested_none None None same = tt
requested_none (Some earlier) None same = tt
requested_none None (Some all) same = let clash : Some all ≡ None = same in cc
requested_none (Some earlier) (Some all) same =
    let told : Some all ≡ Some earlier = same in
    let list : all ≡ earlier = cc in list ∙ sym (append-nil earlier)

-- requests, and then further ones
pub requested_then : (before between now : Option (List Request)) (requests more : List Request) → Requested before between requests → Requested between now more
    → Requested before now (requests ++ more)
requested_then before between None requests more first then = tt
requested_then before None (Some all) requests more first then = absurd then
requested_then None (Some earlier) (Some all) requests more first then = absurd first
requested_then (Some first) (Some earlier) (Some all) requests more is then = then ∙ ap (λ (list : List Request). list ++ more) is ∙ append_assoc first requests more

-- nothing more was recorded
pub then_nothing : (told : Option (List ℕ)) → then_bytes told [] ≡ told
then_nothing None = refl
then_nothing (Some bytes) = ap Some (append-nil bytes)

-- a count in two parts
pub count_from : {before between now : ℕ} (count : Count) → between ≡ before → count ≡ record { before = between; now = now } → count ≡ record { before = before; now = now }
count_from {before} {between} {now} count same is = is ∙ ap (λ (n : ℕ). record { before = n; now = now }) same

pub count_to : {before between now : ℕ} (count : Count) → now ≡ between → count ≡ record { before = before; now = between } → count ≡ record { before = before; now = now }
count_to {before} {between} {now} count same is = is ∙ ap (λ (n : ℕ). record { before = before; now = n }) (sym same)

module _ {H S : Type 0} (host : HostWords H S) where
  -- the deeds of asking alone
  abbrev pub asking : List Request → H → H → Deeds S
  asking requests old new =
      record {
        requests = requests;
        stores = [];
        output = [];
        faults = record { before = host.faults old; now = host.faults new };
        print_faults = record { before = host.print_faults old Out; now = host.print_faults new Out };
      }

  pub does_asking : (requests : List Request) (old new : H) → Asks host old new requests → Does host old new (asking requests old new)
  does_asking requests old new asks = record {
    asks = asks.asks;
    lends = record { gives = asks.gives ∙ sym (append-nil (host.stores_given old)); takes = asks.takes ∙ sym (append-nil (host.stores_back old)) };
    prints = ap (λ (told : _). told Out) asks.prints ∙ sym (then_nothing (host.printed old Out));
    counts = refl;
    counts_prints = refl;
  }

  pub idle_asking : (requests : List Request) (old new : H) → Asks host old new requests → IsIdle (asking requests old new)
  idle_asking requests old new asks = record { stores = refl; output = refl; print_faults = ap (λ (counts : _). counts Out) asks.print_count }

  -- nothing was asked for
  pub asks_nothing : (old : H) → Asks host old old []
  asks_nothing old = record { asks = requested_none (host.requests old) (host.requests old) refl; gives = refl; takes = refl; prints = refl; print_count = refl }

  -- something was asked for first
  pub does_after : (first : List Request) (old between new : H) (deeds : Deeds S) → Asks host old between first → host.faults between ≡ host.faults old → Does host between new deeds
      → Does host old new (record deeds { requests = first ++ deeds.requests })
  does_after first old between new deeds asks still does = record {
    asks = requested_then (host.requests old) (host.requests between) (host.requests new) first deeds.requests asks.asks does.asks;
    lends = record {
      gives = does.lends.gives ∙ ap (λ (list : List S). list ++ given_of deeds.stores) asks.gives;
      takes = does.lends.takes ∙ ap (λ (list : List S). list ++ back_of deeds.stores) asks.takes;
    };
    prints = does.prints ∙ ap (λ (told : _). then_bytes (told Out) deeds.output) asks.prints;
    counts = count_from deeds.faults still does.counts;
    counts_prints = count_from deeds.print_faults (ap (λ (counts : _). counts Out) asks.print_count) does.counts_prints;
  }

  -- something was printed to the errors alone
  pub does_then : (old between new : H) (deeds : Deeds S) → Does host old between deeds → KeepsLent host between new → host.printed new Out ≡ host.printed between Out → host.print_faults new Out ≡ host.print_faults between Out → Does host old new deeds
  does_then old between new deeds does lent printed quiet = record {
    asks = subst (λ (told : Option (List Request)). Requested (host.requests old) told deeds.requests) (sym lent.asks) does.asks;
    lends = record { gives = lent.gives ∙ does.lends.gives; takes = lent.takes ∙ does.lends.takes };
    prints = printed ∙ does.prints;
    counts = count_to deeds.faults lent.count does.counts;
    counts_prints = count_to deeds.print_faults quiet does.counts_prints;
  }
