-- A link goes on in its alignment, by a status, a frame or a timer: by moves. A status was heard before.
use Rattle.node_moves.proofs.Basics.{◌≡◌, ◌≢◌, ℕ, Bool, true, false, not, ◌&&◌, ◌<◌, List, length, refl, ap, sym, subst, ◌∙◌, if◌then◌else◌, ⊎_elim, cases_eq}
use Rattle.node_moves.proofs.Machine.{LinkEnd, Network, Shape, Place, line_at}
use Rattle.node_moves.proofs.Definitions.{Message, Configuration, IsWell, Node, WholeQueues, Parts, whole, with_parts, answer, link_at, links_with, in_service, down, Link, is_down, is_in_service}
use Rattle.node_moves.proofs.Reading.{IsShape}
use Rattle.node_moves.proofs.Sets.{end-set}
use Rattle.node_moves.proofs.Shown.{Books, Mid, Shows, IsShown, IsSized, IsSilent, shown_in, is_heard, place, shown-alike, link-inside, own-inside}
use Rattle.node_moves.proofs.Grown.{Grown, same-grown, both-grown}
use Rattle.node_moves.proofs.Going.{IsAt, Arrives, arrives-here, arrives-both, at-last, is_broken}
use Rattle.node_moves.proofs.Handling.{mid}
use Rattle.node_moves.proofs.Own.{K, both, stays, either, relinked}
use Rattle.node_moves.proofs.Failures.{IsAlikeBut, arrives-by-end, booked-alike}
use Rattle.node_moves.proofs.Failing.{HasParts, link-but, link-is, fail-goes}
use Rattle.node_moves.proofs.Entering.{anew-goes, returned-goes, test_if-goes}
use Rattle.node_moves.proofs.Entries.{leads-up, expiry-heard}
use Rattle.exchange_rules.proofs.Serving as serving
use Rattle.exchange_rules.proofs.Serving.{IsStep, each-step, goes-up, fails-up}
use Rattle.exchange_rules.proofs.SteppingLinks.{stepping-there, stepped-other}
use Rattle.exchange_rules.specs.ChangingOver.{has_other}
use Rattle.exchange_rules.specs.Frames.{step_on, become_busy, end_busy, enters, enters_traffic, moved_on, take_step, advance, serve_status, act_by_status, begin_outage, hear_outage, end_outage, let_back, tells_outage, tells_recovery, is_recovery, on_link_status, act_by_timer, run_out}
use Rattle.link.specs.declared.action.Action.{Action}
use Rattle.link.specs.declared.action.Action.TheVariants as act
use Rattle.link.specs.declared.action.Input.{Input}
use Rattle.link.specs.declared.action.Input.TheVariants.{Status, Expiry}
use Rattle.link.specs.declared.action.LinkTimer.{LinkTimer}
use Rattle.link.specs.declared.action.Transition.{Transition}
use Rattle.m2pa_codec.specs.declared.status.LinkStatus.{LinkStatus}
use Rattle.m2pa_codec.specs.declared.status.LinkStatus.TheVariants as says
use Rattle.network_moves.specs.Moves as moves
use Rattle.network_moves.specs.Returning.{with_service}
use Rattle.node_links.specs.NodeLinks.{acts_on, stepped, recovered}
use Rattle.signalling_types.specs.declared.notice.FailureReason.TheVariants as reasons
use Rattle.signalling_types.specs.declared.outcome.Outcome.TheVariants.{Handled}

module _ (shape : Shape) (o : IsShape shape) (c : Configuration) (well : IsWell c) where
  -- ---- where the network is known to have heard a link

  abbrev pub HeardAt : (link : ℕ) → Network → Type 0
  HeardAt link p = (line_at p (place c link)).near.heard ≡ true

  pub record GoesIf (P : Network → Type 0) (v w : Mid) : Type 0 where
    pub grown : Grown (is_broken shape v) (is_broken shape w)
    pub goes : (p : Network) → IsAt shape c p → Shows c p v → P p → Arrives shape c (is_broken shape v) p w

  pub record KIf (link : ℕ) (n m : Node WholeQueues) : Type 0 where
    pub each : (a l : List Message) (k : Books) → GoesIf (HeardAt link) (mid n a l k) (mid m a l k)

  pub if-so : (link : ℕ) (n m : Node WholeQueues) → K shape o c well n m → KIf link n m
  if-so link n m e = record { each = λ a l k. record { grown = (e.each a l k).grown; goes = λ p h s heard. (e.each a l k).goes p h s } }

  pub if-then : (link : ℕ) (n m q : Node WholeQueues) → KIf link n m → K shape o c well m q → KIf link n q
  if-then link n m q e f = record {
    each = λ a l k. record {
      grown = both-grown (e.each a l k).grown (f.each a l k).grown;
      goes = λ p h s heard.
          let first : Arrives shape c n.parts.times_broken p (mid m a l k) = (e.each a l k).goes p h s heard in
          arrives-both shape c p (mid m a l k) (mid q a l k) (e.each a l k).grown (f.each a l k).grown first ((f.each a l k).goes _ (at-last shape c p (mid m a l k) first h) first.shows);
    };
  }

  -- a node of which only a link changed, as the same network shows it
  shows-by-end : (p : Network) (n m : Node WholeQueues) (link : ℕ) (a l : List Message) (k : Books) → Shows c p (mid n a l k) → IsAlikeBut c n m link → link < length c.links
      → IsShown m link (line_at p (place c link)).near → Shows c p (mid m a l k)
  shows-by-end p n m link a l k s e inside shown = record {
    sized = e.sized s.sized;
    ends = λ other there.
        ⊎_elim
        (λ (same : other ≡ link). subst (λ (i : ℕ). IsShown m i (line_at p (place c i)).near) (sym same) shown)
        (λ (d : other ≢ link). shown-alike n m other (line_at p (place c other)).near (e.others other d) (s.ends other there))
        (cases_eq other link);
    booked = booked-alike (p.node c.own) n m a l k e.held e.lost s.booked;
  }

  -- ---- a step of an alignment

  module _ (link : ℕ) (input : Input) (step : Transition) (n : Node WholeQueues) (e : acts_on (link_at n.parts link) input ≡ act.Go step) where
    abbrev next : Link
    next = stepped step (link_at n.parts link)

    abbrev stepping : Node WholeQueues
    stepping = with_parts n (step_on c link step n.parts)

    its : HasParts n stepping (links_with n.parts link next) n.parts.changeovers
    its = record { queues = refl; links = refl; changeovers = refl; lost = refl; marks = refl }

    was-up : down n.parts link ≡ false
    was-up = goes-up (link_at n.parts link).period (link_at n.parts link).alignment input step e

    is-up : is_down step.state ≡ false
    is-up = leads-up (link_at n.parts link).period (link_at n.parts link).alignment input step e

    -- it isn't down then
    quiet : IsSilent (link_at n.parts link) → IsSilent next
    quiet h = record {
      waiting = λ gone. (let no : true ≡ false = sym gone ∙ is-up in absurd cc);
      owed = λ gone. (let no : true ≡ false = sym gone ∙ is-up in absurd cc);
    }

    there : IsSized c n → link < length c.links
    there s = subst (λ (i : ℕ). link < i) s.links (stepping-there n.parts link input step e)

    shown-so : (f : LinkEnd) → IsSized c n → IsShown n link f → (g : LinkEnd) → g.queue ≡ f.queue → g.phase ≡ f.phase → g.up ≡ f.up → g.serving ≡ is_in_service step.state
        → g.incomplete ≡ f.incomplete → g.awaited ≡ f.awaited → g.heard ≡ true → IsShown stepping link g
    shown-so f s x g same_queue same_phase same_up serves same_incomplete same_awaited hears =
        let at : (link_at stepping.parts link).alignment ≡ step.state = ap (λ (y : Link). y.alignment) (link-is c n stepping link next quiet its s (there s)) in
        record {
          queue = x.queue ∙ ap (λ q. shown_in f.phase q) (sym same_queue) ∙ ap (λ ph. shown_in ph g.queue) (sym same_phase);
          up = same_up ∙ x.up ∙ ap not (was-up ∙ sym is-up ∙ ap is_down (sym at));
          serving = serves ∙ ap is_in_service (sym at);
          incomplete = same_incomplete ∙ x.incomplete;
          awaited = same_awaited ∙ x.awaited;
          heard = λ heard. hears;
        }

    steps-by : (before after : Bool) → in_service n.parts link ≡ before → is_in_service step.state ≡ after → KIf link n stepping
    steps-by before after f g = record {
      each = λ a l k. record {
        grown = same-grown refl;
        goes = λ p h s heard. by before after f g a l k p h s heard;
      };
    }
      where
        stay : (a l : List Message) (k : Books) (p : Network) → Shows c p (mid n a l k) → HeardAt link p → in_service n.parts link ≡ is_in_service step.state → Arrives shape c n.parts.times_broken p (mid stepping a l k)
        stay a l k p s heard same =
            let near : LinkEnd = (line_at p (place c link)).near in
            let x : IsShown n link near = s.ends link (there s.sized) in
            arrives-here shape c p (mid stepping a l k) (shows-by-end p n stepping link a l k s (link-but c n stepping link next quiet its) (there s.sized)
            (shown-so near s.sized x near refl refl refl (x.serving ∙ same) refl refl heard))

        by : (before after : Bool) → in_service n.parts link ≡ before → is_in_service step.state ≡ after → (a l : List Message) (k : Books) (p : Network) → IsAt shape c p → Shows c p (mid n a l k) → HeardAt link p
            → Arrives shape c n.parts.times_broken p (mid stepping a l k)
        by true true f g a l k p h s heard = stay a l k p s heard (f ∙ sym g)
        by false false f g a l k p h s heard = stay a l k p s heard (f ∙ sym g)
        by true false f g a l k p h s heard =
            (let no : true ≡ false = sym ((each-step (link_at n.parts link).period (link_at n.parts link).alignment input step e).stays f) ∙ g in absurd cc)
        by false true f g a l k p h s heard =
            let place_there : Place = place c link in
            let near : LinkEnd = (line_at p place_there).near in
            let x : IsShown n link near = s.ends link (there s.sized) in
            arrives-by-end shape o c well p n stepping link a l k s (link-but c n stepping link next quiet its) (there s.sized)
            (record {
              end = (with_service (line_at p place_there)).near;
              came = refl;
              shown = shown-so near s.sized x (with_service (line_at p place_there)).near refl refl refl (sym g) refl refl heard;
              move = moves.enters (record {
                place = place_there;
                up = x.up ∙ ap not was-up;
                heard = heard;
                after = end-set shape p place_there _ _ (link-inside shape o c well link) (own-inside shape o c well link);
              });
            })

    pub advance-if : KIf link n (advance whole c link step n)
    advance-if =
        let first : Bool = enters_traffic link step n.parts && not (has_other c link n.parts) in
        let moved : Node WholeQueues = with_parts n (moved_on c link step n.parts) in
        let took : Node WholeQueues = take_step whole c link step n in
        if-then link n took _
        (if-then link n moved took
        (if-then link n stepping moved (steps-by (in_service n.parts link) (is_in_service step.state) refl refl) (anew-goes shape o c well first link stepping (step_on c link step n.parts) (stays shape o c well stepping)))
        (returned-goes shape o c well (enters_traffic link step n.parts) link (step_on c link step n.parts) n
        (λ other apart serves. ap (λ (l : Link). is_in_service l.alignment) (stepped-other c link other step n.parts apart) ∙ serves)))
        (test_if-goes shape o c well (enters link step n.parts) link took)

    -- where it heard the other end before
    pub advance-goes : is_heard (link_at n.parts link).alignment ≡ true → K shape o c well n (advance whole c link step n)
    advance-goes heard = record {
      each = λ a l k. record {
        grown = (advance-if.each a l k).grown;
        goes = λ p h s. (advance-if.each a l k).goes p h s ((s.ends link (there s.sized)).heard heard);
      };
    }

  -- ---- statuses and timers of a link

  parts-by : (b : Bool) (n : Node WholeQueues) (p q : Parts) → K shape o c well n (with_parts n p) → K shape o c well n (with_parts n q) → K shape o c well n (with_parts n (if b then p else q))
  parts-by true n p q e f = e
  parts-by false n p q e f = f

  busy-goes : (link : ℕ) (n : Node WholeQueues) → K shape o c well n (with_parts n (become_busy c link n.parts))
  busy-goes link n =
      parts-by (link_at n.parts link).peer_busy n n.parts _ (stays shape o c well n) (relinked shape o c well n link (record (link_at n.parts link) { peer_busy = true }) _ refl refl refl refl refl (λ h. record { waiting = h.waiting; owed = h.owed }))

  idle-goes : (link outstanding : ℕ) (n : Node WholeQueues) → K shape o c well n (with_parts n (end_busy c link outstanding n.parts))
  idle-goes link outstanding n =
      parts-by (link_at n.parts link).peer_busy n _ n.parts (relinked shape o c well n link (record (link_at n.parts link) { peer_busy = false }) _ refl refl refl refl refl (λ h. record { waiting = h.waiting; owed = h.owed })) (stays shape o c well n)

  serve-goes : (link : ℕ) (status : LinkStatus) (n : Node WholeQueues) → K shape o c well n (serve_status whole c link status n)
  serve-goes link says.Alignment n = stays shape o c well n
  serve-goes link says.ProvingNormal n = stays shape o c well n
  serve-goes link says.ProvingEmergency n = stays shape o c well n
  serve-goes link says.Ready n = stays shape o c well n
  serve-goes link says.ProcessorOutage n = stays shape o c well n
  serve-goes link says.ProcessorRecovered n = stays shape o c well n
  serve-goes link says.Busy n = busy-goes link n
  serve-goes link says.BusyEnded n =
      parts-by (link_at n.parts link).peer_outage n n.parts _ (stays shape o c well n) (idle-goes link (whole.outstanding n.queues link) n)
  serve-goes link says.OutOfService n = stays shape o c well n

  by_status-if : (a : Action) (link : ℕ) (status : LinkStatus) (n : Node WholeQueues) → acts_on (link_at n.parts link) (Status status) ≡ a → KIf link n (act_by_status whole c a link status n).left
  by_status-if act.Ignored link status n e = if-so link n n (stays shape o c well n)
  by_status-if act.Fail link status n e = if-so link n _ (fail-goes shape o c well link n reasons.Status (fails-up (link_at n.parts link).period (link_at n.parts link).alignment (Status status) e))
  by_status-if (act.Go step) link status n e =
      let next : Node WholeQueues = advance whole c link step n in
      if-then link n next _ (advance-if link (Status status) step n e) (either shape o c well step.serve next (serve_status whole c link status next) next (serve-goes link status next) (stays shape o c well next))

  begin_outage-goes : (link : ℕ) (n : Node WholeQueues) → K shape o c well n (begin_outage whole c link n)
  begin_outage-goes link n =
      let one : Node WholeQueues = with_parts n (end_busy c link (whole.outstanding n.queues link) n.parts) in
      let two : Node WholeQueues = with_parts n (become_busy c link one.parts) in
      both shape o c well n one _ (idle-goes link (whole.outstanding n.queues link) n)
      (both shape o c well one two _ (busy-goes link one) (relinked shape o c well two link (record (link_at two.parts link) { peer_outage = true }) _ refl refl refl refl refl (λ h. record { waiting = h.waiting; owed = h.owed })))

  hear_outage-goes : (out : Bool) (link : ℕ) (n : Node WholeQueues) → K shape o c well n (if out then n else begin_outage whole c link n)
  hear_outage-goes true link n = stays shape o c well n
  hear_outage-goes false link n = begin_outage-goes link n

  end_outage-goes : (link : ℕ) (n : Node WholeQueues) → down n.parts link ≡ false → K shape o c well n (end_outage whole c link n)
  end_outage-goes link n up =
      let back : Node WholeQueues = with_parts n (let_back link n.parts) in
      both shape o c well n back _ (relinked shape o c well n link (recovered (link_at n.parts link)) _ refl refl refl refl refl (λ h. record { waiting = λ gone. up-not gone; owed = h.owed })) (idle-goes link (whole.outstanding n.queues link) back)
    where
      up-not : {A : Type 0} → down n.parts link ≡ true → A
      up-not gone = (let no : true ≡ false = sym gone ∙ up in absurd cc)

  recovering-up : {A : Type 0} (a b d : Bool) → (a && (b && d)) ≡ true → (b ≡ true → A) → A
  recovering-up true true d e f = f refl
  recovering-up true false d e f = absurd cc
  recovering-up false b d e f = absurd cc

  told-if : (out back : Bool) (link : ℕ) (status : LinkStatus) (n : Node WholeQueues) → tells_recovery link status n.parts ≡ back
      → KIf link n (if out then answer Handled (hear_outage whole c link n) else if back then answer Handled (end_outage whole c link n)
      else act_by_status whole c (acts_on (link_at n.parts link) (Status status)) link status n).left
  told-if true back link status n e = if-so link n _ (hear_outage-goes (link_at n.parts link).peer_outage link n)
  told-if false true link status n e = if-so link n _ (end_outage-goes link n (recovering-up (is_recovery status) (in_service n.parts link) (link_at n.parts link).peer_outage e (serving.serves-up (link_at n.parts link).alignment)))
  told-if false false link status n e = by_status-if (acts_on (link_at n.parts link) (Status status)) link status n refl

  pub link_status-if : (link : ℕ) (status : LinkStatus) (n : Node WholeQueues) → KIf link n (on_link_status whole c link status n).left
  link_status-if link status n = told-if (tells_outage c link status n.parts) (tells_recovery link status n.parts) link status n refl

  by_timer-goes : (a : Action) (link : ℕ) (timer : LinkTimer) (n : Node WholeQueues) → acts_on (link_at n.parts link) (Expiry timer) ≡ a → K shape o c well n (act_by_timer whole c a link n)
  by_timer-goes act.Ignored link timer n e = stays shape o c well n
  by_timer-goes act.Fail link timer n e = fail-goes shape o c well link n reasons.Timer (fails-up (link_at n.parts link).period (link_at n.parts link).alignment (Expiry timer) e)
  by_timer-goes (act.Go step) link timer n e =
      advance-goes link (Expiry timer) step n e (expiry-heard (link_at n.parts link).period (link_at n.parts link).alignment timer step e)

  pub run_out-goes : (link : ℕ) (timer : LinkTimer) (n : Node WholeQueues) → K shape o c well n (run_out whole c link timer n)
  run_out-goes link timer n = by_timer-goes (acts_on (link_at n.parts link) (Expiry timer)) link timer n refl
