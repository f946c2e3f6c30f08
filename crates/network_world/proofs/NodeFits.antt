-- Each node of a network that some moves led to has all its places, its settings, and two lists of frames for each
-- link.
use Rattle.std.proofs.Common.{◌≡◌, ◌≤◌, ℕ, Bool, true, false, List, [], ◌∷◌, length, Option, Some, None, inl, inr, ◌⊎◌, nat_eq, refl, sym, subst, ◌∙◌, arith}
use Rattle.std.specs.Prelude.{if◌then◌else◌, slice_get}
use Rattle.std.proofs.lemmas.List.{length-replicate, length-set}
use Rattle.settings.specs.Configuration.{Configuration}
use Rattle.settings.specs.Well.{IsWell}
use Rattle.signalling_types.specs.declared.limits.TheConstants.Limits.{LINKS}
use Rattle.m2pa_codec.specs.Frames.{FrameValue, EmptyFrame, MessageFrame, StatusFrame}
use Rattle.exchange_rules.specs.declared.wants.Wants.{Wants}
use Rattle.exchange_rules.specs.declared.wants.Wants.TheVariants as wants
use Rattle.exchange_rules.specs.Exchange.{frame_to_take, wants_of}
use Rattle.exchange_rules.specs.Lasting.{HasAllPlaces, after_each}
use Rattle.exchange_rules.specs.Queues.{whole}
use Rattle.exchange_rules.specs.State as happening
use Rattle.exchange_rules.specs.State.{Asking, Happens, Happening}
use Rattle.exchange_rules.proofs.LastingPlaces.{places-first, places-stay}
use Rattle.pair_rules.specs.Pairs.{Doing, Submits, Takes, Delivers, DeliversStatus, LosesStatus, DoublesStatus, Loses, Ticks, Activates, Deactivates, Releases, AddsTitle, SetsTitle, RemovesTitle, OpensFirst, OpensSecond, in_flight, may_follow, with_status_twice, without_data, without_status}
use Rattle.network_rules.specs.Networks.{NetworkNode, NetworkState, Place, change_statuses, changed, comes_up, deliver_frame, did, did_here, end_of, first_network, first_node, happens, is_led, may_open_there, opens_first, opens_second, other_end, reaches, sends, submit, take_frame}
use Rattle.network_world.specs.NetworkStands.{IsNetworkReached}
use Rattle.network_rules.specs.Outside.{HearsOutside, Move, OpensOutside, Within, after_move, after_moves, hears, hears_outside, leads_out, opens_outside, speaks_within}
use Rattle.network_rules.proofs.Joined.{placed-well}

pub record Fits (x : NetworkNode) : Type 0 where
  pub places : HasAllPlaces x.exchange.settings x.exchange.node
  pub statuses : length x.incoming.statuses ≡ length x.exchange.settings.links
  pub user_data : length x.incoming.user_data ≡ length x.exchange.settings.links

-- and it has its settings
pub record FitsTo (c : Configuration) (x : NetworkNode) : Type 0 where
  pub settings : x.exchange.settings ≡ c
  pub fits : Fits x

-- ---- at one node

module _ (c : Configuration) (x : NetworkNode) (f : FitsTo c x) where
  -- its exchange is asked something
  after-asked : (asked : Asking) → HasAllPlaces x.exchange.settings (after_each (asked ∷ []) x.exchange).node
  after-asked asked = places-stay (asked ∷ []) x.exchange f.fits.places

  happens-fits : (what : Happening) → FitsTo c (happens what x)
  happens-fits what = record { settings = f.settings; fits = record { places = after-asked (Happens what); statuses = f.fits.statuses; user_data = f.fits.user_data } }

  sends-fits : (link : ℕ) → FitsTo c (sends link x)
  sends-fits link = record { settings = f.settings; fits = record { places = after-asked (happening.Takes link); statuses = f.fits.statuses; user_data = f.fits.user_data } }

  reaches-fits : (frame : FrameValue) (link : ℕ) → FitsTo c (reaches frame link x)
  reaches-fits (StatusFrame bsn fsn status) link = record {
    settings = f.settings;
    fits = record { places = f.fits.places; statuses = length-set x.incoming.statuses link _ ∙ f.fits.statuses; user_data = f.fits.user_data };
  }
  reaches-fits (EmptyFrame bsn fsn) link = record {
    settings = f.settings;
    fits = record { places = f.fits.places; statuses = f.fits.statuses; user_data = length-set x.incoming.user_data link _ ∙ f.fits.user_data };
  }
  reaches-fits (MessageFrame bsn fsn sio sif) link = record {
    settings = f.settings;
    fits = record { places = f.fits.places; statuses = f.fits.statuses; user_data = length-set x.incoming.user_data link _ ∙ f.fits.user_data };
  }

  comes_up-fits : (link : ℕ) → FitsTo c (comes_up link x)
  comes_up-fits link = record {
    settings = f.settings;
    fits = record {
      places = after-asked (Happens (happening.CameUp link));
      statuses = length-set x.incoming.statuses link [] ∙ f.fits.statuses;
      user_data = length-set x.incoming.user_data link [] ∙ f.fits.user_data;
    };
  }

  is_led-fits : (link : ℕ) → FitsTo c (is_led link x)
  is_led-fits link = record {
    settings = f.settings;
    fits = record {
      places = f.fits.places;
      statuses = length-set x.incoming.statuses link [] ∙ f.fits.statuses;
      user_data = length-set x.incoming.user_data link [] ∙ f.fits.user_data;
    };
  }

  submit-fits : (m : _) → FitsTo c (submit m x)
  submit-fits m = record { settings = f.settings; fits = record { places = after-asked (Happens (happening.Submitted m)); statuses = f.fits.statuses; user_data = f.fits.user_data } }

  deliver-data : (text : Option (List ℕ)) (link : ℕ) → FitsTo c (deliver_frame text link (without_data link x.incoming) x)
  deliver-data None link = f
  deliver-data (Some text) link = record {
    settings = f.settings;
    fits = record {
      places = after-asked (Happens (happening.FrameCame link text));
      statuses = f.fits.statuses;
      user_data = length-set x.incoming.user_data link _ ∙ f.fits.user_data;
    };
  }

  deliver-status : (text : Option (List ℕ)) (link : ℕ) → FitsTo c (deliver_frame text link (without_status link x.incoming) x)
  deliver-status None link = f
  deliver-status (Some text) link = record {
    settings = f.settings;
    fits = record {
      places = after-asked (Happens (happening.FrameCame link text));
      statuses = length-set x.incoming.statuses link _ ∙ f.fits.statuses;
      user_data = f.fits.user_data;
    };
  }

  lose-status : (text : Option (List ℕ)) (link : ℕ) → FitsTo c (change_statuses text (without_status link x.incoming) x)
  lose-status None link = f
  lose-status (Some text) link = record {
    settings = f.settings;
    fits = record { places = f.fits.places; statuses = length-set x.incoming.statuses link _ ∙ f.fits.statuses; user_data = f.fits.user_data };
  }

  double-status : (text : Option (List ℕ)) (link : ℕ) → FitsTo c (change_statuses text (with_status_twice link x.incoming) x)
  double-status None link = f
  double-status (Some text) link = record {
    settings = f.settings;
    fits = record { places = f.fits.places; statuses = length-set x.incoming.statuses link _ ∙ f.fits.statuses; user_data = f.fits.user_data };
  }

  second-fits : (wish : Wants) (may : Bool) (link : ℕ) → FitsTo c (opens_second wish may link x)
  second-fits wants.Open true link = record {
    settings = f.settings;
    fits = record { places = after-asked (Happens (happening.CameUp link)); statuses = f.fits.statuses; user_data = f.fits.user_data };
  }
  second-fits wants.Open false link = f
  second-fits wants.Nothing may link = f
  second-fits wants.Close may link = f

  hears-fits : (link : ℕ) (text : List ℕ) → FitsTo c (hears link text x)
  hears-fits link text = record {
    settings = f.settings;
    fits = record { places = after-asked (Happens (happening.FrameCame link text)); statuses = f.fits.statuses; user_data = f.fits.user_data };
  }

  pub here-fits : (what : Doing) → FitsTo c (did_here what x)
  here-fits (Submits m) = submit-fits m
  here-fits (Delivers link) = deliver-data (slice_get (in_flight x.incoming.user_data link) 0) link
  here-fits (DeliversStatus link) = deliver-status (slice_get (in_flight x.incoming.statuses link) 0) link
  here-fits (LosesStatus link) = lose-status (slice_get (in_flight x.incoming.statuses link) 0) link
  here-fits (DoublesStatus link) = double-status (slice_get (in_flight x.incoming.statuses link) 0) link
  here-fits (Loses link) = happens-fits _
  here-fits Ticks = happens-fits _
  here-fits (Activates link emergency) = happens-fits _
  here-fits (Deactivates link) = happens-fits _
  here-fits (Releases link) = happens-fits _
  here-fits (AddsTitle row is_memory_refused) = happens-fits _
  here-fits (SetsTitle row is_memory_refused) = happens-fits _
  here-fits (RemovesTitle key digits) = happens-fits _
  here-fits (OpensSecond link) = second-fits (wants_of x.exchange link) (may_follow (end_of x) link) link
  here-fits (Takes link) = f
  here-fits (OpensFirst link) = f

-- ---- at all

module _ (settings : (point : ℕ) → Configuration) where
  abbrev pub AllFit : NetworkState → Type 0
  AllFit w = (point : ℕ) → FitsTo (settings point) (w.node point)

  changed-fit : (point : ℕ) (change : NetworkNode → NetworkNode) (w : NetworkState) → AllFit w
      → ((c : Configuration) (x : NetworkNode) → FitsTo c x → FitsTo c (change x)) → AllFit (changed point change w)
  changed-fit point change w all keeps = λ other. by other (nat_eq other point)
    where
      by : (other : ℕ) (b : Bool) → FitsTo (settings other) (if b then change (w.node other) else w.node other)
      by other true = keeps (settings other) (w.node other) (all other)
      by other false = all other

  take-fit : (frame : Option FrameValue) (point link : ℕ) (there : Option Place) (w : NetworkState) → AllFit w → AllFit (take_frame frame point link there w)
  take-fit None point link there w all = all
  take-fit (Some frame) point link None w all = changed-fit point (sends link) w all (λ c x f. sends-fits c x f link)
  take-fit (Some frame) point link (Some there) w all =
      changed-fit there.point (reaches frame there.link) (changed point (sends link) w)
      (changed-fit point (sends link) w all (λ c x f. sends-fits c x f link))
      (λ c x f. reaches-fits c x f frame there.link)

  first-fit : (wish : Wants) (may : Bool) (point link : ℕ) (there : Option Place) (w : NetworkState) → AllFit w → AllFit (opens_first wish may point link there w)
  first-fit wants.Open true point link (Some there) w all =
      changed-fit there.point (is_led there.link) (changed point (comes_up link) w)
      (changed-fit point (comes_up link) w all (λ c x f. comes_up-fits c x f link))
      (λ c x f. is_led-fits c x f there.link)
  first-fit wants.Open true point link None w all = all
  first-fit wants.Open false point link there w all = all
  first-fit wants.Nothing may point link there w all = all
  first-fit wants.Close may point link there w all = all

  pub did-fit : (what : Doing) (point : ℕ) (w : NetworkState) → AllFit w → AllFit (did what point w)
  did-fit (Takes link) point w all = take-fit (frame_to_take whole (w.node point).exchange link) point link (other_end w point link) w all
  did-fit (OpensFirst link) point w all =
      first-fit (wants_of (w.node point).exchange link) (may_open_there w (other_end w point link)) point link (other_end w point link) w all
  did-fit (Submits m) point w all = changed-fit point (did_here (Submits m)) w all (λ c x f. here-fits c x f (Submits m))
  did-fit (Delivers link) point w all = changed-fit point (did_here (Delivers link)) w all (λ c x f. here-fits c x f (Delivers link))
  did-fit (DeliversStatus link) point w all = changed-fit point (did_here (DeliversStatus link)) w all (λ c x f. here-fits c x f (DeliversStatus link))
  did-fit (LosesStatus link) point w all = changed-fit point (did_here (LosesStatus link)) w all (λ c x f. here-fits c x f (LosesStatus link))
  did-fit (DoublesStatus link) point w all = changed-fit point (did_here (DoublesStatus link)) w all (λ c x f. here-fits c x f (DoublesStatus link))
  did-fit (Loses link) point w all = changed-fit point (did_here (Loses link)) w all (λ c x f. here-fits c x f (Loses link))
  did-fit Ticks point w all = changed-fit point (did_here Ticks) w all (λ c x f. here-fits c x f Ticks)
  did-fit (Activates link emergency) point w all = changed-fit point (did_here (Activates link emergency)) w all (λ c x f. here-fits c x f (Activates link emergency))
  did-fit (Deactivates link) point w all = changed-fit point (did_here (Deactivates link)) w all (λ c x f. here-fits c x f (Deactivates link))
  did-fit (Releases link) point w all = changed-fit point (did_here (Releases link)) w all (λ c x f. here-fits c x f (Releases link))
  did-fit (AddsTitle row refused) point w all = changed-fit point (did_here (AddsTitle row refused)) w all (λ c x f. here-fits c x f (AddsTitle row refused))
  did-fit (SetsTitle row refused) point w all = changed-fit point (did_here (SetsTitle row refused)) w all (λ c x f. here-fits c x f (SetsTitle row refused))
  did-fit (RemovesTitle key digits) point w all = changed-fit point (did_here (RemovesTitle key digits)) w all (λ c x f. here-fits c x f (RemovesTitle key digits))
  did-fit (OpensSecond link) point w all = changed-fit point (did_here (OpensSecond link)) w all (λ c x f. here-fits c x f (OpensSecond link))

  opens-fit : (out : Bool) (point link : ℕ) (w : NetworkState) → AllFit w → AllFit (opens_outside out point link w)
  opens-fit true point link w all = changed-fit point (happens (happening.CameUp link)) w all (λ c x f. happens-fits c x f (happening.CameUp link))
  opens-fit false point link w all = all

  outside-fit : (out speaks : Bool) (point link : ℕ) (text : List ℕ) (w : NetworkState) → AllFit w → AllFit (hears_outside out speaks point link text w)
  outside-fit true false point link text w all = changed-fit point (hears link text) w all (λ c x f. hears-fits c x f link text)
  outside-fit true true point link text w all = all
  outside-fit false speaks point link text w all = all

  move-fit : (move : Move) (w : NetworkState) → AllFit w → AllFit (after_move move w)
  move-fit (Within step) w all = did-fit step.what step.point w all
  move-fit (OpensOutside point link) w all = opens-fit (leads_out w point link) point link w all
  move-fit (HearsOutside point link text) w all = outside-fit (leads_out w point link) (speaks_within w text) point link text w all

  moves-fit : (moves : List Move) (w : NetworkState) → AllFit w → AllFit (after_moves moves w)
  moves-fit [] w all = all
  moves-fit (move ∷ moves) w all = moves-fit moves (after_move move w) (move-fit move w all)

-- ---- from the first on

pub few-links : (c : Configuration) → IsWell c ⊎ (c.links ≡ []) → length c.links ≤ LINKS
few-links c (inl well) = well.link_count.below
few-links c (inr e) = subst (λ (links : List _). length links ≤ LINKS) (sym e) (omega arith)

pub first-fits : (c : Configuration) → length c.links ≤ LINKS → FitsTo c (first_node c)
first-fits c few = record {
  settings = refl;
  fits = record {
    places = places-first c few;
    statuses = length-replicate (length c.links) [];
    user_data = length-replicate (length c.links) [];
  };
}

pub reached-fit : {points : List ℕ} (w : NetworkState) (r : IsNetworkReached points w) (point : ℕ) → FitsTo (r.settings point) (w.node point)
reached-fit {points} w r point =
    subst (λ (v : NetworkState). FitsTo (r.settings point) (v.node point)) (sym r.by)
    (moves-fit r.settings r.moves (first_network r.settings) (λ other. first-fits (r.settings other) (few-links (r.settings other) (placed-well r.settings points r.placed other))) point)
