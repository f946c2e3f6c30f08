-- The run of three nodes, by computation: each step is a lemma over any world, and only what may be done there is
-- computed.
use Rattle.std.proofs.Common.{◌≡◌, ◌*◌, ℕ, arith, true, false, Some, refl, subst}
use Rattle.timers.specs.Timers.{set_timer, start_unless_running, clear_timer, clear_set, due_name, after_due, due_count, names_of}
use Rattle.routes.specs.Routes.{first_sets, links_below, choice_among, link_by}
use Rattle.route_management.specs.Told.{owes_nothing}
use Rattle.m2pa_codec.specs.Frames.{FrameValue, spelled, status_of}
use Rattle.changeback.specs.Return.{changes_of, changes}
use Rattle.flow_hold.specs.Holds.{any_flow, flows}
use Rattle.exchange_rules.specs.Exchange.{apply}
use Rattle.exchange_rules.specs.Telling.{tell_owed}
use Rattle.exchange_rules.specs.ChangingBack.{take_back_each}
use Rattle.sctp_receiving.specs.Receiver.{drained}
use Rattle.sctp_receiving.specs.Sack.{run_from, blocks_from}
use Rattle.sctp_sending.specs.Outgoing.{lost_from}
use Rattle.sctp_sending.specs.Sending.{named_below, passed_below, given, next_place, gone_again, gone_first, confirmation}
use Rattle.sctp_sending.specs.Sending.{confirmed, settled, acknowledged, after_t3}
use Rattle.sctp_rules.specs.Confirming.{going}
use Rattle.sctp_rules.specs.Endpoint as endpoint
use Rattle.sctp_rules.specs.Endpoint.{after}
use Rattle.sctp_rules.specs.Sending.{may_send}
use Rattle.sctp_ends.proofs.Happening.{good, arrives}
use Rattle.network_rules.proofs.RowSettings as rows
use Rattle.node_rules.specs.Worlds.{CanGo, MayAssociate, message_of}
use Rattle.network_datagrams.specs.NetworkWorlds.{NetworkWorld, Associates, HasEnd, Sends, Step, bare, new_world, shown}
use Rattle.network_datagrams.specs.Example as run
use Rattle.network_datagrams.specs.Example.{Happens, does, hears, latest, make}

some-is : (a b : FrameValue) → Some a ≡ Some b → a ≡ b
some-is a b e = cc

-- ---- steps on link 0

does-step : (point : ℕ) (what : endpoint.Happening) (w : NetworkWorld) → (e : HasEnd (shown w) point 0) → MayAssociate ((w.node e.there.point).ports e.there.link).site 0 what (bare (w.node point))
    → Step make w (does point (Associates 0 what) w)
does-step point what w e may = record { point = point; what = Associates 0 what; may = (e, may); is = refl }

sends-step : (point : ℕ) (w : NetworkWorld) → HasEnd (shown w) point 0 → CanGo 0 (bare (w.node point)) → Step make w (does point (Sends 0) w)
sends-step point w e can = record { point = point; what = Sends 0; may = (e, can); is = refl }

pub happens : Happens
unfolding after going drained run_from blocks_from lost_from named_below passed_below given next_place gone_again gone_first confirmation confirmed settled acknowledged after_t3 apply tell_owed first_sets links_below status_of set_timer clear_timer start_unless_running clear_set due_name after_due due_count names_of choice_among link_by changes_of changes take_back_each owes_nothing any_flow flows
happens = record {
  joined = record { joined = rows.joined; good = λ point link. good (1000 * point) };
  steps = (
    does-step 1 (endpoint.Opens 10 false) (new_world make) (record { there = record { point = 3; link = 0 }; is = refl }) (record { wants = refl; down = λ e. absurd cc }),
    (
      does-step 3 (endpoint.Opens 10 true) run.waiting (record { there = record { point = 1; link = 0 }; is = refl }) (record { wants = refl; down = λ e. absurd cc }),
      (
        does-step 1 (latest 3 run.tried) run.tried (record { there = record { point = 3; link = 0 }; is = refl })
            (arrives ((run.tried.node 3).ports 0).site 0 1 0 refl (omega arith) refl (omega arith), λ e. refl),
        (
          does-step 3 (latest 1 run.answered) run.answered (record { there = record { point = 1; link = 0 }; is = refl })
              (arrives ((run.answered.node 1).ports 0).site 0 1 0 refl (omega arith) refl (omega arith), λ e. refl),
          (
            does-step 1 (latest 3 run.echoed) run.echoed (record { there = record { point = 3; link = 0 }; is = refl })
                (arrives ((run.echoed.node 3).ports 0).site 0 2 0 refl (omega arith) refl (omega arith), λ e. refl),
            (
              does-step 1 (endpoint.Flushes 10) run.opened_first (record { there = record { point = 3; link = 0 }; is = refl }) tt,
              (
                does-step 3 (latest 1 run.confirmed) run.confirmed (record { there = record { point = 1; link = 0 }; is = refl })
                    (arrives ((run.confirmed.node 1).ports 0).site 0 2 0 refl (omega arith) refl (omega arith), λ e. refl),
                (
                  sends-step 3 run.opened_second (record { there = record { point = 1; link = 0 }; is = refl })
                      (λ frame e. subst (λ (f : FrameValue). may_send (message_of (spelled f)) ((run.opened_second.node 3).ports 0).site.state ≡ true) (some-is _ frame e) refl),
                  (
                    does-step 3 (endpoint.Flushes 10) run.given (record { there = record { point = 1; link = 0 }; is = refl }) tt,
                    (
                      does-step 1 (latest 3 run.gone) run.gone (record { there = record { point = 3; link = 0 }; is = refl })
                          (arrives ((run.gone.node 3).ports 0).site 0 3 1 refl (omega arith) refl (omega arith), λ e. absurd cc),
                      (
                        does-step 1 (latest 3 run.come) run.come (record { there = record { point = 3; link = 0 }; is = refl })
                            (arrives ((run.come.node 3).ports 0).site 0 3 1 refl (omega arith) refl (omega arith), λ e. absurd cc),
                        tt,
                      ),
                    ),
                  ),
                ),
              ),
            ),
          ),
        ),
      ),
    ),
  );
  first_opens = refl;
  third_waits = refl;
  third_opens = refl;
  aligns = refl;
  once = refl;
}
