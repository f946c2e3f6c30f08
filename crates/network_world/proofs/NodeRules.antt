-- What becomes of what is done at a node of a network, on what is kept, is what is kept of what becomes of it.
use Rattle.std.proofs.Common.{◌≡◌, ℕ, Bool, true, false, List, ◌++◌, Option, Some, None, refl, ap, ◌∙◌}
use Rattle.std.specs.Prelude.{option_to_list, slice_get, slice_set}
use Rattle.signalling_types.specs.Message.{Message}
use Rattle.signalling_types.specs.declared.outcome.Outcome.{Outcome}
use Rattle.settings.specs.Configuration.{Configuration}
use Rattle.exchange_rules.specs.declared.wants.Wants.{Wants}
use Rattle.exchange_rules.specs.declared.wants.Wants.TheVariants as wants
use Rattle.exchange_rules.specs.State.{Happening, CameUp, WentDown, FrameCame, Ticked, Submitted, Activated, Deactivated, Released, TitleAdded, TitleSet, TitleRemoved}
use Rattle.exchange_rules.specs.Conserving.{brought_in}
use Rattle.exchange_rules.specs.Queues.{whole}
use Rattle.exchange_rules.specs.Exchange.{outcome_of, wants_of}
use Rattle.exchange_rules.specs.Lasting.{HasAllPlaces}
use Rattle.exchange_rules.specs.Receiving.{new_message}
use Rattle.exchange_rules.specs.First.{Abstract, IsSound}
use Rattle.exchange.specs.Calls.{Kept, StandsFor, kept_of}
use Rattle.exchange.specs.KeptQueues.{kept}
use Rattle.exchange.proofs.Standing.{stands-after, stands-outcome}
use Rattle.pair_rules.specs.Pairs.{Doing, Submits, Takes, Delivers, DeliversStatus, LosesStatus, DoublesStatus, Loses, Ticks, Activates, Deactivates, Releases, AddsTitle, SetsTitle, RemovesTitle, OpensFirst, OpensSecond, Streams, in_flight, may_follow, with_status_twice, without_data, without_status}
use Rattle.network_rules.specs.Networks.{NetworkNode, change_statuses, deliver_frame, did_here, end_of, entered_by, happens, opens_second, refused_by, submit}
use Rattle.network_world.specs.KeptSites.{newly_brought, newly_carried, site_changes, site_follows}
use Rattle.network_world.specs.KeptNodes.{NodeTurn, arrivals, entered_of, kept_node_of, node_did, node_happens, node_hears, node_of_site, node_submits, refused_of, site_of_node}
use Rattle.network_world.specs.NetworkStands.{IsNodeOf, hear_outcome, here_outcome, if_any, second_outcome}
use Rattle.network_world.proofs.Brought.{frame-same, submission-same}
use Rattle.network_world.proofs.Newly.{newly-same, stands-itself}

pub record IsNodeSame (t : NodeTurn) (outcome : Outcome) (x : NetworkNode) : Type 0 where
  pub outcome_same : t.outcome ≡ outcome
  pub node : IsNodeOf t.left x

-- of the message that came, if one did
entered-same : (o : Option Message) (c : Configuration) (brought : List Message) → entered_of (option_to_list o) c brought ≡ entered_by o c brought
entered-same (Some m) c brought = refl
entered-same None c brought = refl

refused-same : (o : Option Message) (c : Configuration) (outcome : Outcome) → refused_of (option_to_list o) c outcome ≡ refused_by o c outcome
refused-same (Some m) c outcome = refl
refused-same None c outcome = refl

module _ (x : NetworkNode) (sound : IsSound x.exchange) (places : HasAllPlaces x.exchange.settings x.exchange.node) where
  abbrev a : Abstract
  a = x.exchange

  abbrev k : StandsFor (kept_of a) a
  k = stands-itself a sound

  itself : IsNodeOf (kept_node_of x) x
  itself = record { sound = sound; kept = refl }

  pub happens-same : (what : Happening) → IsNodeSame (node_happens what (kept_node_of x)) (outcome_of whole what a) (happens what x)
  happens-same what =
      let s = stands-after what (kept_of a) a k in
      record {
        outcome_same = stands-outcome what (kept_of a) a k;
        node = record { sound = s.sound; kept = ap (λ (e : Kept). record (kept_node_of x) { exchange = e }) s.kept };
      }

  submit-same : (m : Message) → IsNodeSame (node_submits m (kept_node_of x)) (outcome_of whole (Submitted m) a) (submit m x)
  submit-same m =
      let s = stands-after (Submitted m) (kept_of a) a k in
      let b = submission-same a sound places m in
      record {
        outcome_same = stands-outcome (Submitted m) (kept_of a) a k;
        node = record {
          sound = s.sound;
          kept = λ i. record {
            exchange = s.kept i;
            incoming = x.incoming;
            following = x.following;
            accepted = x.accepted ++ b i;
            arrived = x.arrived;
            entered = x.entered ++ b i;
            refused = x.refused;
          };
        };
      }

  -- a frame comes
  module _ (link : ℕ) (text : List ℕ) where
    abbrev new : Option Message
    new = new_message link text a

    abbrev carried : List Message
    carried = newly_carried link text (kept_of a)

    abbrev brought : List Message
    brought = newly_brought link text (kept_of a)

    abbrev came : Happening
    came = FrameCame link text

    carried-same : carried ≡ option_to_list new
    carried-same = newly-same link text a sound places

    brought-same : brought ≡ brought_in came a
    brought-same = frame-same a sound places link text

    entered-so : entered_of carried a.settings brought ≡ entered_by new a.settings (brought_in came a)
    entered-so =
        ap (λ (ms : List Message). entered_of ms a.settings brought) carried-same ∙ entered-same new a.settings brought
        ∙ ap (λ (ms : List Message). entered_by new a.settings ms) brought-same

    refused-so : refused_of carried a.settings (outcome_of kept came (kept_of a)) ≡ refused_by new a.settings (outcome_of whole came a)
    refused-so =
        ap (λ (ms : List Message). refused_of ms a.settings (outcome_of kept came (kept_of a))) carried-same
        ∙ refused-same new a.settings (outcome_of kept came (kept_of a))
        ∙ ap (λ (o : Outcome). refused_by new a.settings o) (stands-outcome came (kept_of a) a k)

    pub frame-node : (left : Streams) → IsNodeSame (node_hears (Some text) link left (kept_node_of x)) (outcome_of whole came a) (deliver_frame (Some text) link left x)
    frame-node left =
        let s = stands-after came (kept_of a) a k in
        record {
          outcome_same = stands-outcome came (kept_of a) a k;
          node = record {
            sound = s.sound;
            kept = λ i. record {
              exchange = s.kept i;
              incoming = left;
              following = x.following;
              accepted = x.accepted ++ brought-same i;
              arrived = x.arrived ++ arrivals link (carried-same i);
              entered = x.entered ++ entered-so i;
              refused = x.refused ++ refused-so i;
            };
          };
        }

  hear-by : (text : Option (List ℕ)) (link : ℕ) (left : Streams) → IsNodeSame (node_hears text link left (kept_node_of x)) (hear_outcome text link x) (deliver_frame text link left x)
  hear-by None link left = record { outcome_same = refl; node = itself }
  hear-by (Some text) link left = frame-node link text left

  change-by : (text : Option (List ℕ)) (left : Streams)
      → IsNodeSame (node_of_site (site_changes text left (site_of_node (kept_node_of x))) (kept_node_of x)) (if_any text) (change_statuses text left x)
  change-by None left = record { outcome_same = refl; node = itself }
  change-by (Some text) left = record { outcome_same = refl; node = record { sound = sound; kept = refl } }

  -- it follows the other end of a link
  follow-by : (wish : Wants) (may : Bool) (link : ℕ)
      → IsNodeSame (node_of_site (site_follows wish may link (site_of_node (kept_node_of x))) (kept_node_of x)) (second_outcome wish may) (opens_second wish may link x)
  follow-by wants.Open true link =
      let s = stands-after (CameUp link) (kept_of a) a k in
      record {
        outcome_same = refl;
        node = record {
          sound = s.sound;
          kept = ap (λ (e : Kept). record (kept_node_of x) { exchange = e; following = slice_set x.following link false }) s.kept;
        };
      }
  follow-by wants.Open false link = record { outcome_same = refl; node = itself }
  follow-by wants.Nothing may link = record { outcome_same = refl; node = itself }
  follow-by wants.Close may link = record { outcome_same = refl; node = itself }

  pub here-same : (what : Doing) → IsNodeSame (node_did what (kept_node_of x)) (here_outcome what x) (did_here what x)
  here-same (Submits m) = submit-same m
  here-same (Delivers link) = hear-by (slice_get (in_flight x.incoming.user_data link) 0) link (without_data link x.incoming)
  here-same (DeliversStatus link) = hear-by (slice_get (in_flight x.incoming.statuses link) 0) link (without_status link x.incoming)
  here-same (LosesStatus link) = change-by (slice_get (in_flight x.incoming.statuses link) 0) (without_status link x.incoming)
  here-same (DoublesStatus link) = change-by (slice_get (in_flight x.incoming.statuses link) 0) (with_status_twice link x.incoming)
  here-same (Loses link) = happens-same (WentDown link)
  here-same Ticks = happens-same Ticked
  here-same (Activates link emergency) = happens-same (Activated link emergency)
  here-same (Deactivates link) = happens-same (Deactivated link)
  here-same (Releases link) = happens-same (Released link)
  here-same (AddsTitle row is_memory_refused) = happens-same (TitleAdded row is_memory_refused)
  here-same (SetsTitle row is_memory_refused) = happens-same (TitleSet row is_memory_refused)
  here-same (RemovesTitle key digits) = happens-same (TitleRemoved key digits)
  here-same (OpensSecond link) = follow-by (wants_of a link) (may_follow (end_of x) link) link
  here-same (Takes link) = record { outcome_same = refl; node = itself }
  here-same (OpensFirst link) = record { outcome_same = refl; node = itself }
