-- The run in which a message comes after a restart, by computation, except whether it waits, which is looked at once.
use Rattle.exchange_rules.specs.Exchange.{leaving}
use Rattle.pair_rules.proofs.Basics.{◌≡◌, ◌<◌, ℕ, zero, suc, Bool, true, false, [], ◌∷◌, ◌++◌, None, Some, refl, ap, sym, subst, ◌∙◌, arith}
use Rattle.pair_rules.proofs.Definitions.{flow_of, set_timer, start_unless_running, clear_timer, clear_set, due_name, after_due, due_count, first_sets, choice_among, link_by, any_flow, flows, no_holds, none_at_first, Done, Node, WholeQueues, whole, no_room, waits, link_of, apply, settled, take_back_each, PairState, taken_in, may_follow, may_open_at, turned}
use Rattle.timers.specs.Timers.{names_of}
use Rattle.routes.specs.Routes.{links_below}
use Rattle.route_management.specs.Told.{owes_nothing}
use Rattle.m2pa_codec.specs.Frames.{status_of}
use Rattle.changeback.specs.Return.{changes_of, changes}
use Rattle.flow_hold.specs.declared.procedure.Procedure.TheVariants.{Changeover}
use Rattle.exchange_rules.specs.Messages.{offer}
use Rattle.exchange_rules.specs.Telling.{tell_owed}
use Rattle.pair_rules.specs.OneEndFirst.{far_settings, near_settings, the_message}
use Rattle.pair_rules.proofs.OneEndFirst.{free-lifted, none-held}
use Rattle.pair_rules.proofs.RunSettings.{joined}
use Rattle.neighbour_rules.specs.Neighbours.{Does, AtNear, AtFar, after_steps, far_end, users_to}
use Rattle.neighbour_rules.specs.Promises.{waiting}
use Rattle.neighbour_rules.specs.Anew.{IsQuietEnd, Stays, most, times_late, times_lost}
use Rattle.neighbour_rules.specs.AfterRestart.{ComesAfterRestart, broken, returned, submitted}
use Rattle.pair_rules.specs.Pairs.{Takes, Delivers}
use Rattle.neighbour_rules.proofs.Special.{sharing}

-- ---- the message is queued

abbrev node : Node WholeQueues
node = returned.near.exchange.node

abbrev offered : Bool → Done WholeQueues
offered waiting =
    settled whole near_settings (offer whole near_settings (no_room whole near_settings the_message node.queues) waiting (link_of near_settings node.parts (flow_of the_message)) None the_message node)

abbrev queued_by : Bool → PairState
queued_by waiting = record returned {
  near = record returned.near {
    exchange = leaving returned.near.exchange (offered waiting).left;
    accepted = returned.near.accepted ++ users_to far_settings.own (taken_in (offered waiting).outcome the_message);
  };
}

goes-first : submitted ≡ queued_by (waits near_settings node.parts.holds the_message)
unfolding apply tell_owed first_sets links_below status_of set_timer clear_timer start_unless_running clear_set due_name after_due due_count names_of choice_among link_by changes_of changes take_back_each owes_nothing any_flow flows
goes-first = refl

free-first : waits near_settings node.parts.holds the_message ≡ false
unfolding apply tell_owed first_sets links_below status_of set_timer clear_timer start_unless_running clear_set due_name after_due due_count names_of choice_among link_by changes_of changes take_back_each owes_nothing any_flow flows
free-first = none-held node.parts.holds (free-lifted (no_holds 2 1 1) (Changeover 0) _ (λ procedure. none_at_first 2 1 1 procedure 0 0))

submitted-is : submitted ≡ queued_by false
submitted-is = goes-first ∙ ap queued_by free-first

-- ---- what the states show

submitted-so : {A : Type 0} (f : PairState → A) (a : A) → f (queued_by false) ≡ a → f submitted ≡ a
submitted-so f a e = ap f submitted-is ∙ e

abbrev come_from : PairState → PairState
come_from p = after_steps (AtNear (Does (Takes 0)) ∷ AtFar (Does (Delivers 0)) ∷ []) p

broken-quiet : IsQuietEnd broken
unfolding apply tell_owed first_sets links_below status_of set_timer clear_timer start_unless_running clear_set due_name after_due due_count names_of choice_among link_by changes_of changes take_back_each owes_nothing any_flow flows
broken-quiet = record { links = links; held = refl }
  where
    links : (link other : ℕ) → far_end broken link ≡ Some other → (may_open_at broken.near link ≡ true) × (may_follow broken.near link ≡ false)
    links zero other e = (refl, refl)
    links (suc zero) other e = (refl, refl)
    links (suc (suc link)) other e = absurd cc

stays : (n before after : ℕ) → n < most → before ≡ n → after ≡ n → Stays before after
stays n before after few e f = record { countable = subst (λ (x : ℕ). x < most) (sym e) few; same = f ∙ sym e }

pub comes-after : ComesAfterRestart
unfolding apply tell_owed first_sets links_below status_of set_timer clear_timer start_unless_running clear_set due_name after_due due_count names_of choice_among link_by changes_of changes take_back_each owes_nothing any_flow flows
comes-after = record {
  sharing = sharing near_settings far_settings joined;
  lost = refl;
  quiet = record { there = broken-quiet; back = back };
  accepted = submitted-so (λ p. p.near.accepted) (the_message ∷ []) refl;
  waits = submitted-so (λ p. waiting p) (the_message ∷ []) refl;
  received = submitted-so (λ p. (come_from p).far.received) (the_message ∷ []) refl;
  none_waits = submitted-so (λ p. waiting (come_from p)) [] refl;
  since = record {
    near = stays 1 _ _ (omega arith) refl (submitted-so (λ p. times_lost (come_from p)) 1 refl);
    far = stays 0 _ _ (omega arith) refl (submitted-so (λ p. times_lost (turned (come_from p))) 0 refl);
  };
  punctual = stays 0 _ _ (omega arith) refl (submitted-so (λ p. times_late (come_from p)) 0 refl);
}
  where
    links : (link other : ℕ) → far_end (turned broken) link ≡ Some other → (may_open_at broken.far link ≡ true) × (may_follow broken.far link ≡ false)
    links zero other e = (refl, refl)
    links (suc zero) other e = (refl, refl)
    links (suc (suc link)) other e = absurd cc

    back : IsQuietEnd (turned broken)
    back = record { links = links; held = refl }
