-- What an outage changes of a node, as it begins and as it ends.
use Rattle.exchange_rules.proofs.Basics.{◌≡◌, ◌≢◌, ◌<◌, ℕ, Bool, true, false, List, [], ◌∷◌, length, Some, None, refl, ap, sym, ◌∙◌, arith, nat_eq, nat_lt, if◌then◌else◌, max, get_or-set_same, get_or-set_other}
use Rattle.exchange_rules.proofs.Definitions.{carries_traffic, Configuration, Message, LinkStatus, Link, recovered, with_ready, down_link, is_in_service, Facts, TimerName, Running, set_timer, clear_timer, left-set, left-set_other, left-clear as gone, left-clear_other, counts-clear, HoldSet, with_flows, Changeover, Parts, Node, with_parts, link_at, links_with, in_service, facts, is_failed, put_out, let_back, end_busy, end_outage, begin_outage, WholeQueues, whole, HasAllPlaces, has_name}
use Rattle.std.proofs.lemmas.Bool.{lt-ltb}
use Rattle.flow_hold.proofs.Pairing.{ends_its_own, leaves_others}
use Rattle.node_links.specs.NodeLinks.{serving}
use Rattle.timers.specs.declared.name.TimerName.TheVariants.{L6, L7}
use Rattle.exchange_rules.specs.LawsOfOutage.{BeginsOutage, EndsOutage}
use Rattle.exchange_rules.proofs.Lists.{map-set_alike}
use Rattle.exchange_rules.proofs.Failures.{is_failure, failed-holds}
use Rattle.exchange_rules.proofs.LinkTimers.{timed_busy_ended-for}
use Rattle.exchange_rules.proofs.Steps.{with_busy, without_busy, outed}
use Rattle.exchange_rules.proofs.Outages.{service-there, back-serves}

-- ---- links

abbrev quiet : Link → Link
quiet l = record l { peer_busy = false }

still : (waiting : List LinkStatus) → waiting ≢ [] → with_ready waiting ≡ waiting
still [] some = absurd (some refl)
still (status ∷ others) some = refl

-- one link changes, but not whether it carries traffic
same-serving : (p : Parts) (link : ℕ) (x : Link) → carries_traffic x ≡ carries_traffic (link_at p link) → serving (links_with p link x) ≡ serving p.links
same-serving p link x e = sym (map-set_alike carries_traffic p.links link x down_link e)

facts-alike : (c : Configuration) (p q : Parts) → serving q.links ≡ serving p.links → q.routes ≡ p.routes → facts c q ≡ facts c p
facts-alike c p q e f = ap (λ (s : List Bool). record (facts c q) { in_service = s }) e ∙ ap (λ r. record (facts c p) { routes = r }) f

-- ---- that the peer takes messages again, whether or not it took none

module _ (c : Configuration) (link outstanding : ℕ) where
  record Ended (p q : Parts) : Type 0 where
    state : link_at q link ≡ quiet (link_at p link)
    others : (other : ℕ) → other ≢ link → link_at q other ≡ link_at p other
    serves : serving q.links ≡ serving p.links
    counts : q.timers.counts ≡ p.timers.counts
    timers : (timer : TimerName) → timer ≢ L6 link → timer ≢ L7 link → q.timers.left timer ≡ p.timers.left timer
    rest : q ≡ record p { links = q.links; timers = q.timers }

  l6-gone : (none : Bool) (r : Running) → (if none then clear_timer (L6 link) r else set_timer (L7 link) c.timers.l7 (clear_timer (L6 link) r)).left (L6 link) ≡ None
  l6-gone true r = gone (L6 link) r
  l6-gone false r = left-set_other (L7 link) (L6 link) c.timers.l7 (clear_timer (L6 link) r) (λ e. cc) ∙ gone (L6 link) r

  l7-then : (none : Bool) (r : Running) → has_name r.counts (L7 link) ≡ true
      → (if none then clear_timer (L6 link) r else set_timer (L7 link) c.timers.l7 (clear_timer (L6 link) r)).left (L7 link) ≡ (if none then r.left (L7 link) else Some (max 1 c.timers.l7))
  l7-then true r e = left-clear_other (L6 link) (L7 link) r (λ f. cc)
  l7-then false r e = left-set (L7 link) c.timers.l7 (clear_timer (L6 link) r) (ap (λ k. has_name k (L7 link)) (counts-clear (L6 link) r) ∙ e)

  others-then : (none : Bool) (r : Running) (timer : TimerName) → timer ≢ L6 link → timer ≢ L7 link
      → (if none then clear_timer (L6 link) r else set_timer (L7 link) c.timers.l7 (clear_timer (L6 link) r)).left timer ≡ r.left timer
  others-then true r timer d f = left-clear_other (L6 link) timer r (λ e. d (sym e))
  others-then false r timer d f =
      left-set_other (L7 link) timer c.timers.l7 (clear_timer (L6 link) r) (λ e. f (sym e)) ∙ left-clear_other (L6 link) timer r (λ e. d (sym e))

  ended-so : (p : Parts) → in_service p link ≡ true → Ended p (without_busy c link outstanding p)
  ended-so p e = record {
    state = get_or-set_same p.links link (quiet (link_at p link)) down_link (service-there p link e);
    others = λ other apart. get_or-set_other p.links link other (quiet (link_at p link)) down_link apart;
    serves = same-serving p link (quiet (link_at p link)) refl;
    counts = (timed_busy_ended-for link c outstanding p.timers).counts;
    timers = others-then (nat_eq outstanding 0) p.timers;
    rest = refl;
  }

  not-busy : (p : Parts) → (link_at p link).peer_busy ≡ false → Ended p p
  not-busy p e = record {
    state = ap (λ (b : Bool). record (link_at p link) { peer_busy = b }) e;
    others = λ other apart. refl;
    serves = refl;
    counts = refl;
    timers = λ timer d f. refl;
    rest = refl;
  }

  ended : (p : Parts) → in_service p link ≡ true → Ended p (end_busy c link outstanding p)
  ended p e = by (link_at p link).peer_busy refl
    where
      by : (busy : Bool) → (link_at p link).peer_busy ≡ busy → Ended p (if busy then without_busy c link outstanding p else p)
      by true f = ended-so p e
      by false f = not-busy p f

-- ---- an outage begins

module _ (c : Configuration) (link : ℕ) (n : Node WholeQueues) (places : HasAllPlaces c n) (serves : in_service n.parts link ≡ true) where
  abbrev left : ℕ
  left = whole.outstanding n.queues link

  abbrev ms : List Message
  ms = whole.unconfirmed n.queues link

  named : nat_lt link n.parts.timers.counts.links ≡ true
  named = lt-ltb link n.parts.timers.counts.links (omega (arith, service-there n.parts link serves, places.parts.links, places.timers.links))

  abbrev one : Parts
  one = end_busy c link left n.parts

  was : Ended c link left n.parts one
  was = ended c link left n.parts serves

  abbrev busy : Parts
  busy = with_busy c link one

  abbrev pub begun : Parts
  begun = put_out c link ms busy

  -- it wasn't busy any more
  pub begun-is : begin_outage whole c link n ≡ with_parts n begun
  begun-is = ap (λ (b : Bool). with_parts n (put_out c link ms (if b then one else busy))) (ap (λ (l : Link). l.peer_busy) was.state)

  there-one : link < length one.links
  there-one = service-there one link (ap (λ (l : Link). is_in_service l.alignment) was.state ∙ serves)

  busy-at : link_at busy link ≡ record (link_at n.parts link) { peer_busy = true }
  busy-at =
      get_or-set_same one.links link (record (link_at one link) { peer_busy = true }) down_link there-one
      ∙ ap (λ (l : Link). record l { peer_busy = true }) was.state

  there-busy : link < length busy.links
  there-busy = service-there busy link (ap (λ (l : Link). is_in_service l.alignment) busy-at ∙ serves)

  facts-stay : facts c (outed link busy) ≡ facts c n.parts
  facts-stay =
      facts-alike c n.parts (outed link busy)
      (same-serving busy link (record (link_at busy link) { peer_outage = true }) refl ∙ same-serving one link (record (link_at one link) { peer_busy = true }) refl ∙ was.serves)
      (ap (λ (p : Parts). p.routes) was.rest)

  holds-are : begun.holds ≡ failed-holds c link n
  holds-are =
      ap (λ (h : HoldSet). with_flows h (Changeover link) (is_failed c (facts c (outed link busy)) link ms)) (ap (λ (p : Parts). p.holds) was.rest)
      ∙ ap (λ (f : Facts). with_flows n.parts.holds (Changeover link) (is_failed c f link ms)) facts-stay

  pub begins : BeginsOutage c link n (with_parts n begun)
  begins = record {
    only = record {
      links = λ other apart.
          get_or-set_other busy.links link other (record (link_at busy link) { peer_outage = true }) down_link apart
          ∙ get_or-set_other one.links link other (record (link_at one link) { peer_busy = true }) down_link apart ∙ was.others other apart;
      holds = (is_failure c link n (with_parts n begun) places.parts serves holds-are).others;
      timers = λ timer d f.
          left-set_other (L6 link) timer c.timers.l6 (clear_timer (L7 link) one.timers) (λ e. d (sym e)) ∙ left-clear_other (L7 link) timer one.timers (λ e. f (sym e)) ∙ was.timers timer d f;
      rest = ap (λ (p : Parts). with_parts n (record p { links = begun.links; holds = begun.holds; timers = begun.timers })) was.rest;
    };
    state =
        get_or-set_same busy.links link (record (link_at busy link) { peer_outage = true }) down_link there-busy
        ∙ ap (λ (l : Link). record l { peer_outage = true }) busy-at;
    holds = is_failure c link n (with_parts n begun) places.parts serves holds-are;
    l6 = left-set (L6 link) c.timers.l6 (clear_timer (L7 link) one.timers) (ap (λ k. has_name k (L6 link)) (counts-clear (L7 link) one.timers ∙ was.counts) ∙ named);
    l7 = left-set_other (L6 link) (L7 link) c.timers.l6 (clear_timer (L7 link) one.timers) (λ e. cc) ∙ gone (L7 link) one.timers;
  }

  -- ---- it ends

  module _ (out : (link_at n.parts link).peer_outage ≡ true) (is_busy : (link_at n.parts link).peer_busy ≡ true) where
    abbrev back : Parts
    back = let_back link n.parts

    abbrev pub ended-parts : Parts
    ended-parts = without_busy c link left back

    back-at : link_at back link ≡ recovered (link_at n.parts link)
    back-at = get_or-set_same n.parts.links link (recovered (link_at n.parts link)) down_link (service-there n.parts link serves)

    pub ended-is : end_outage whole c link n ≡ with_parts n ended-parts
    ended-is = ap (λ (b : Bool). with_parts n (if b then ended-parts else back)) (ap (λ (l : Link). l.peer_busy) back-at ∙ is_busy)

    ran : Ended c link left back ended-parts
    ran = ended-so c link left back (back-serves link n.parts link ∙ serves)

    is : link_at ended-parts link ≡ quiet (recovered (link_at n.parts link))
    is = ran.state ∙ ap quiet back-at

    pub ends : EndsOutage c link n (with_parts n ended-parts)
    ends = record {
      only = record {
        links = λ other apart. ran.others other apart ∙ get_or-set_other n.parts.links link other (recovered (link_at n.parts link)) down_link apart;
        holds = λ procedure destination sls apart. leaves_others n.parts.holds (Changeover link) procedure destination sls (λ e. apart (sym e));
        timers = ran.timers;
        rest = refl;
      };
      state = is ∙ ap (λ (xs : List LinkStatus). record (quiet (link_at n.parts link)) { peer_outage = false; waiting = xs }) (sym (ap (λ (l : Link). l.waiting) is));
      ready = λ e. ap (λ (l : Link). l.waiting) is ∙ ap with_ready e;
      waits = λ some. ap (λ (l : Link). l.waiting) is ∙ still (link_at n.parts link).waiting some;
      holds = λ destination sls. ends_its_own n.parts.holds (Changeover link) destination sls;
      l6 = l6-gone c link left (nat_eq left 0) n.parts.timers;
      l7 = l7-then c link left (nat_eq left 0) n.parts.timers named;
    }
