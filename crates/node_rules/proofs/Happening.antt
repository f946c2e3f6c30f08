-- The run of two nodes, by computation.
use Rattle.std.proofs.Common.{◌≡◌, arith, true, false, Some, refl, subst}
use Rattle.timers.specs.Timers.{set_timer, start_unless_running, clear_timer, clear_set, due_name, after_due, due_count, names_of}
use Rattle.routes.specs.Routes.{first_sets, links_below, choice_among, link_by}
use Rattle.route_management.specs.Told.{owes_nothing}
use Rattle.m2pa_codec.specs.Frames.{FrameValue, spelled, status_of}
use Rattle.changeback.specs.Return.{changes_of, changes}
use Rattle.flow_hold.specs.Holds.{any_flow, flows}
use Rattle.exchange_rules.specs.Exchange.{apply, frame_to_take}
use Rattle.exchange_rules.specs.Queues.{whole}
use Rattle.exchange_rules.specs.Telling.{tell_owed}
use Rattle.exchange_rules.specs.ChangingBack.{take_back_each}
use Rattle.sctp_receiving.specs.Receiver.{drained}
use Rattle.sctp_receiving.specs.Sack.{run_from, blocks_from}
use Rattle.sctp_sending.specs.Outgoing.{lost_from}
use Rattle.sctp_sending.specs.Sending.{named_below, passed_below, given, next_place, gone_again, gone_first, confirmation}
use Rattle.sctp_sending.specs.Sending.{confirmed, settled, acknowledged, after_t3}
use Rattle.sctp_rules.specs.Confirming.{going}
use Rattle.sctp_rules.specs.Endpoint as endpoint
use Rattle.sctp_rules.specs.Endpoint.{after}
use Rattle.sctp_rules.specs.Rows.{address}
use Rattle.sctp_rules.specs.Sending.{may_send}
use Rattle.sctp_ends.specs.Example.{packet_at}
use Rattle.sctp_ends.proofs.Happening.{good, arrives}
use Rattle.pair_rules.proofs.RunSettings.{joined}
use Rattle.neighbour_rules.proofs.Special.{sharing}
use Rattle.pair_rules.specs.OneEndFirst.{near_settings, far_settings}
use Rattle.node_rules.specs.Worlds.{Associates, IsBetween, Sends, at_near, at_far, message_of}
use Rattle.node_rules.specs.Example as run
use Rattle.node_rules.specs.Example.{Happens}

-- the link is number 0 at both nodes
abbrev pub near-between : IsBetween near_settings far_settings 0
near-between = record { there = 0; is = refl }

abbrev pub far-between : IsBetween far_settings near_settings 0
far-between = record { there = 0; is = refl }

some-is : (a b : FrameValue) → Some a ≡ Some b → a ≡ b
some-is a b e = cc

by-frame : (frame : FrameValue) → frame_to_take whole run.opened_second.near.books.exchange 0 ≡ Some frame
    → may_send (message_of (spelled frame)) (run.opened_second.near.ports 0).site.state ≡ true
unfolding after going drained run_from blocks_from lost_from named_below passed_below given next_place gone_again gone_first confirmation confirmed settled acknowledged after_t3 apply tell_owed first_sets links_below status_of set_timer clear_timer start_unless_running clear_set due_name after_due due_count names_of choice_among link_by changes_of changes take_back_each owes_nothing any_flow flows
by-frame frame e =
    subst (λ (f : FrameValue). may_send (message_of (spelled f)) (run.opened_second.near.ports 0).site.state ≡ true) (some-is _ frame e) refl

pub happens : Happens
unfolding after going drained run_from blocks_from lost_from named_below passed_below given next_place gone_again gone_first confirmation confirmed settled acknowledged after_t3 apply tell_owed first_sets links_below status_of set_timer clear_timer start_unless_running clear_set due_name after_due due_count names_of choice_among link_by changes_of changes take_back_each owes_nothing any_flow flows
happens = record {
  neighbours = record { sharing = sharing near_settings far_settings joined; near_good = λ link. good 1000; far_good = λ link. good 2000 };
  steps = (
    at_far (Associates 0 (endpoint.Opens 10 false)) (far-between, record { wants = refl; down = λ e. absurd cc }) refl,
    (
      at_near (Associates 0 (endpoint.Opens 10 true)) (near-between, record { wants = refl; down = λ e. absurd cc }) refl,
      (
        at_far (Associates 0 (endpoint.Came 10 address (packet_at (run.tried.near.ports 0).site 0)))
            (far-between, (arrives (run.tried.near.ports 0).site 0 1 0 refl (omega arith) refl (omega arith), λ e. refl)) refl,
        (
          at_near (Associates 0 (endpoint.Came 10 address (packet_at (run.answered.far.ports 0).site 0)))
              (near-between, (arrives (run.answered.far.ports 0).site 0 1 0 refl (omega arith) refl (omega arith), λ e. refl)) refl,
          (
            at_far (Associates 0 (endpoint.Came 10 address (packet_at (run.echoed.near.ports 0).site 0)))
                (far-between, (arrives (run.echoed.near.ports 0).site 0 2 0 refl (omega arith) refl (omega arith), λ e. refl)) refl,
            (
              at_far (Associates 0 (endpoint.Flushes 10)) (far-between, tt) refl,
              (
                at_near (Associates 0 (endpoint.Came 10 address (packet_at (run.confirmed.far.ports 0).site 0)))
                    (near-between, (arrives (run.confirmed.far.ports 0).site 0 2 0 refl (omega arith) refl (omega arith), λ e. refl)) refl,
                (
                  at_near (Sends 0) (near-between, λ frame e. by-frame frame e) refl,
                  (
                    at_near (Associates 0 (endpoint.Flushes 10)) (near-between, tt) refl,
                    (
                      at_far (Associates 0 (endpoint.Came 10 address (packet_at (run.gone.near.ports 0).site 0)))
                          (far-between, (arrives (run.gone.near.ports 0).site 0 3 1 refl (omega arith) refl (omega arith), λ e. absurd cc)) refl,
                      (
                        at_far (Associates 0 (endpoint.Came 10 address (packet_at (run.come.near.ports 0).site 0)))
                            (far-between, (arrives (run.come.near.ports 0).site 0 3 1 refl (omega arith) refl (omega arith), λ e. absurd cc)) refl,
                        tt,
                      ),
                    ),
                  ),
                ),
              ),
            ),
          ),
        ),
      ),
    ),
  );
  far_opens = refl;
  near_waits = refl;
  near_opens = refl;
  aligns = refl;
  once = refl;
}
