-- Each step of a network is a list of moves, and so is each list of steps from the first network on.
use Rattle.node_moves.proofs.Basics.{◌≡◌, ◌≢◌, ℕ, Bool, true, false, not, ◌/◌, ◌%◌, ◌^◌, ◌<◌, List, [], ◌∷◌, ◌++◌, length, drop, take, Option, Some, None, nat_lt, slice_get, refl, ap, sym, subst, ◌∙◌, arith, nat_tests, if◌then◌else◌, length-replicate, ⊎_elim, cases_eq}
use Rattle.node_moves.proofs.Machine.{Side, Near, Far, LinkEnd, Network, Shape, seen, last_of, Sound}
use Rattle.node_moves.proofs.Definitions.{Configuration, Node, WholeQueues, whole, answer, refuse, is_link, link_at, changeover_of, first_queue, Link, down_link, Standing, no_changeover, is_down, is_in_service}
use Rattle.node_moves.proofs.Reading.{IsShape, KnowsOutside, says_of, place_by}
use Rattle.node_moves.proofs.Shown.{no_books, IsShown, IsSilent, is_heard}
use Rattle.node_moves.proofs.Grown.{Grown, same-grown, both-grown, unraised-first, unraised-then, never-raised}
use Rattle.node_moves.proofs.Going.{IsLed, goes-none, last-append, moves-append}
use Rattle.node_moves.proofs.Handling.{mid}
use Rattle.node_moves.proofs.World.{IsFlown, Shown, rests, place_at}
use Rattle.node_moves.proofs.Flights.{changed-here, changed-other}
use Rattle.node_moves.proofs.BothEnds.{is-other}
use Rattle.node_moves.proofs.Steps.{StepGoes, Reaches, step-none, step-by-goes, grown-before, event-settles, submits-step, loses-step, ticks-step, activates-step, deactivates-step, releases-step, adds-step, sets-step, removes-step}
use Rattle.node_moves.proofs.Handing.{changed-alike, data-step, status-step, lost-step, doubled-step}
use Rattle.node_moves.proofs.Opening.{MayComeUp, wants-open, second-step, first-step}
use Rattle.node_moves.proofs.Sending.{takes-step}
use Rattle.node_moves.specs.Networks.{NetworkNode, NetworkState, Doing, Step, IsNode, is_node, changed, updated, next_in, happens, hear_data, hear_status, with_statuses, follow, come_up, be_led, open_first, may_open_at, other_end, did, did_here, after_step, after_steps, first_network}
use Rattle.node_moves.specs.Networks as of_nodes
use Rattle.node_moves.specs.Laws.{IsUnbroken}
use Rattle.node_moves.specs.Outside.{ArePlaced}
unfoldable use Rattle.exchange_rules.specs.Exchange.{apply}
use Rattle.exchange_rules.specs.Exchange.{handle_event}
use Rattle.exchange_rules.specs.Opening.{may_open, wanted, open_link, association_up}
use Rattle.exchange_rules.specs.State.{CameUp}
use Rattle.exchange_rules.specs.declared.wants.Wants.{Wants}
use Rattle.exchange_rules.specs.declared.wants.Wants.TheVariants.{Nothing, Open, Close}
use Rattle.exchange_rules.proofs.Lists.{each-replicate}
use Rattle.changeover.specs.Changeover.{may_restart}
use Rattle.network_moves.proofs.First.{quiet-first}
use Rattle.network_moves.proofs.Keeping.{sound-always}
use Rattle.network_moves.proofs.Lasting.{lasts-after, lasts-first}
use Rattle.network_moves.specs.Quiet as quiet
use Rattle.signalling_types.specs.declared.cause.Cause.TheVariants as causes
use Rattle.signalling_types.specs.declared.outcome.Outcome.TheVariants.{Handled}
use Rattle.std.proofs.lemmas.List.{get_or-replicate}

-- ---- the network's shape: a node at each point code, and a line for each two of them and a code

abbrev pub point_by : Side → ℕ → ℕ
point_by Near link = link / 2 ^ 18
point_by Far link = link / 2 ^ 4 % 2 ^ 14

unfoldable pub all_points : Shape
all_points = record { nodes = 2 ^ 14; links = 2 ^ 32; point = λ link side. point_by side link; leads = λ link side m. true; outside = λ point. true }

line-within : (first : Bool) (own other slc : ℕ) → own < 2 ^ 14 → other < 2 ^ 14 → slc < 2 ^ 4 → (place_by first own other slc).link < 2 ^ 32
line-within true own other slc a b d = omega (arith, a, b, d)
line-within false own other slc a b d = omega (arith, a, b, d)

point-back : (first : Bool) (own other slc : ℕ) → own < 2 ^ 14 → other < 2 ^ 14 → slc < 2 ^ 4 → point_by (place_by first own other slc).side (place_by first own other slc).link ≡ own
point-back true own other slc a b d = omega (arith, a, b, d)
point-back false own other slc a b d = omega (arith, a, b, d)

-- any message may go by any link there
pub all-led : (c : Configuration) → IsLed all_points c
unfolding all_points
all-led c = record { routed = λ p m link inside ways e plain. refl; others = λ m link e. refl }

pub are-all : IsShape all_points
unfolding all_points
are-all = record {
  nodes = λ point l. l;
  links = λ own other slc a b d. line-within (nat_lt own other) own other slc a b d;
  points = λ own other slc a b d. point-back (nat_lt own other) own other slc a b d;
}

-- and any point may be outside
pub all-outside : (settings : (point : ℕ) → Configuration) → KnowsOutside settings all_points
unfolding all_points
all-outside settings = record { each = λ point none. refl }

-- ---- the next text in flight

pub record IsNextIn (c : Configuration) (link : ℕ) (texts : List (List ℕ)) (text : List ℕ) : Type 0 where
  pub inside : link < length c.links
  pub flying : texts ≡ text ∷ drop 1 texts

first-text : (texts : List (List ℕ)) (text : List ℕ) → slice_get texts 0 ≡ Some text → texts ≡ text ∷ drop 1 texts
first-text [] text e = absurd cc
first-text (t ∷ texts) text e = (let same : t ≡ text = cc in ap (λ (s : List ℕ). s ∷ texts) same)

pub next-is : (c : Configuration) (link : ℕ) (texts : List (List ℕ)) (text : List ℕ) → next_in c link texts ≡ Some text → IsNextIn c link texts text
next-is c link texts text e = by (nat_lt link (length c.links)) refl e
  where
    by : (b : Bool) → nat_lt link (length c.links) ≡ b → (if b then slice_get texts 0 else None) ≡ Some text → IsNextIn c link texts text
    by true f g = record { inside = grind (arith, nat_tests, f); flying = first-text texts text g }
    by false f g = absurd cc

module _ (settings : (point : ℕ) → Configuration) (t : ArePlaced settings) (shape : Shape) (o : IsShape shape) where
  abbrev pub Goes_on : NetworkState → NetworkState → Type 0
  Goes_on w v = StepGoes settings t shape o w v

  -- ---- one step

  -- where the change comes to another
  as-changed : (w : NetworkState) (x : ℕ) (f g : NetworkNode → NetworkNode) → f (w.node x) ≡ g (w.node x) → Goes_on w (changed x g w) → Goes_on w (changed x f w)
  as-changed w x f g same e = subst (Goes_on w) (sym (changed-alike x f g w same)) e

  -- or to none
  unchanged : (w : NetworkState) (x : ℕ) (f : NetworkNode → NetworkNode) → IsNode settings x → f (w.node x) ≡ w.node x → Goes_on w (changed x f w)
  unchanged w x f fx same =
      as-changed w x f (λ e. e) same
      (step-by-goes settings t shape o w x (λ e. e) fx (λ l. record { user_data = refl; statuses = refl; follows = refl; came = refl }) (goes-none shape (settings x) (rests settings t (w.node x))))

  data-by : (w : NetworkState) (x link : ℕ) (next : Option (List ℕ)) → IsNode settings x → next_in (settings x) link ((w.node x).user_data link) ≡ next → Goes_on w (changed x (did_here (of_nodes.Delivers link) (settings x)) w)
  data-by w x link None fx e = unchanged w x (did_here (of_nodes.Delivers link) (settings x)) fx (ap (λ (q : Option (List ℕ)). hear_data (settings x) q link (w.node x)) e)
  data-by w x link (Some text) fx e =
      let is : IsNextIn (settings x) link ((w.node x).user_data link) text = next-is (settings x) link ((w.node x).user_data link) text e in
      as-changed w x (did_here (of_nodes.Delivers link) (settings x)) (hear_data (settings x) (Some text) link) (ap (λ (q : Option (List ℕ)). hear_data (settings x) q link (w.node x)) e)
      (data-step settings t shape o w x link fx is.inside text (drop 1 ((w.node x).user_data link)) is.flying)

  status-by : (w : NetworkState) (x link : ℕ) (next : Option (List ℕ)) → IsNode settings x → next_in (settings x) link ((w.node x).statuses link) ≡ next → Goes_on w (changed x (did_here (of_nodes.DeliversStatus link) (settings x)) w)
  status-by w x link None fx e = unchanged w x (did_here (of_nodes.DeliversStatus link) (settings x)) fx (ap (λ (q : Option (List ℕ)). hear_status (settings x) q link (w.node x)) e)
  status-by w x link (Some text) fx e =
      let is : IsNextIn (settings x) link ((w.node x).statuses link) text = next-is (settings x) link ((w.node x).statuses link) text e in
      as-changed w x (did_here (of_nodes.DeliversStatus link) (settings x)) (hear_status (settings x) (Some text) link) (ap (λ (q : Option (List ℕ)). hear_status (settings x) q link (w.node x)) e)
      (status-step settings t shape o w x link fx is.inside text (drop 1 ((w.node x).statuses link)) is.flying)

  lost-by : (w : NetworkState) (x link : ℕ) (next : Option (List ℕ)) → IsNode settings x → next_in (settings x) link ((w.node x).statuses link) ≡ next → Goes_on w (changed x (did_here (of_nodes.LosesStatus link) (settings x)) w)
  lost-by w x link None fx e =
      unchanged w x (did_here (of_nodes.LosesStatus link) (settings x)) fx (ap (λ (q : Option (List ℕ)). with_statuses q link (drop 1 ((w.node x).statuses link)) (w.node x)) e)
  lost-by w x link (Some text) fx e =
      let is : IsNextIn (settings x) link ((w.node x).statuses link) text = next-is (settings x) link ((w.node x).statuses link) text e in
      as-changed w x (did_here (of_nodes.LosesStatus link) (settings x)) (with_statuses (Some text) link (drop 1 ((w.node x).statuses link)))
      (ap (λ (q : Option (List ℕ)). with_statuses q link (drop 1 ((w.node x).statuses link)) (w.node x)) e)
      (lost-step settings t shape o w x link fx is.inside text (drop 1 ((w.node x).statuses link)) is.flying)

  doubled-by : (w : NetworkState) (x link : ℕ) (next : Option (List ℕ)) → IsNode settings x → next_in (settings x) link ((w.node x).statuses link) ≡ next → Goes_on w (changed x (did_here (of_nodes.DoublesStatus link) (settings x)) w)
  doubled-by w x link None fx e =
      unchanged w x (did_here (of_nodes.DoublesStatus link) (settings x)) fx
      (ap (λ (q : Option (List ℕ)). with_statuses q link (take 1 ((w.node x).statuses link) ++ (w.node x).statuses link) (w.node x)) e)
  doubled-by w x link (Some text) fx e =
      let is : IsNextIn (settings x) link ((w.node x).statuses link) text = next-is (settings x) link ((w.node x).statuses link) text e in
      let rest : List (List ℕ) = drop 1 ((w.node x).statuses link) in
      as-changed w x (did_here (of_nodes.DoublesStatus link) (settings x)) (with_statuses (Some text) link (text ∷ text ∷ rest))
      (ap (λ (q : Option (List ℕ)). with_statuses q link (take 1 ((w.node x).statuses link) ++ (w.node x).statuses link) (w.node x)) e
      ∙ ap (λ (texts : List (List ℕ)). with_statuses (Some text) link (take 1 texts ++ texts) (w.node x)) is.flying)
      (doubled-step settings t shape o w x link fx is.inside text rest is.flying)

  -- ---- openings

  -- an association that comes up breaks nothing
  up-broken : (c : Configuration) (link : ℕ) (n : Node WholeQueues) → (association_up whole c link n).left.parts.times_broken ≡ n.parts.times_broken
  up-broken c link n = by (is_link n.parts link) (may_open (link_at n.parts link)) (may_restart (changeover_of n.parts link))
    where
      by : (a b d : Bool) → (if a then (if b then (if d then answer Handled (open_link whole c link n) else refuse causes.ChangeoverPending n) else refuse causes.LinkNotReady n) else refuse causes.NoSuchName n).left.parts.times_broken
          ≡ n.parts.times_broken
      by true true true = refl
      by true true false = refl
      by true false d = refl
      by false b d = refl

  up-grown : (x link : ℕ) (fx : IsNode settings x) (n : Node WholeQueues) → Grown n.parts.times_broken (apply whole (settings x) (CameUp link) n).left.parts.times_broken
  up-grown x link fx n =
      let left : Node WholeQueues = (handle_event whole (settings x) (CameUp link) n).left in
      both-grown (same-grown (up-broken (settings x) link n))
      (event-settles shape o (settings x) (t.well x fx) (CameUp link) (mid left [] [] no_books) n no_books (goes-none shape (settings x) (mid left [] [] no_books))).grown

  -- a link that isn't there doesn't want to open
  nowhere : {A : Type 0} (w : NetworkState) (x link : ℕ) (p : Network) → IsNode settings x → Shown settings t w p → MayComeUp (w.node x).node.parts link → nat_lt link (length (settings x).links) ≡ false → A
  nowhere w x link p fx s m e =
      let no : true ≡ false = sym m.there ∙ ap (nat_lt link) (s.nodes x fx).sized.links ∙ e in
      absurd cc

  second-by : (w : NetworkState) (x link : ℕ) (wants : Wants) (may : Bool) → IsNode settings x → wanted (w.node x).node.parts link ≡ wants → (w.node x).follows link ≡ may
      → Goes_on w (changed x (did_here (of_nodes.OpensSecond link) (settings x)) w)
  second-by w x link Nothing may fx e f = unchanged w x (did_here (of_nodes.OpensSecond link) (settings x)) fx (ap (λ (q : Wants). follow (settings x) q ((w.node x).follows link) link (w.node x)) e)
  second-by w x link Close may fx e f = unchanged w x (did_here (of_nodes.OpensSecond link) (settings x)) fx (ap (λ (q : Wants). follow (settings x) q ((w.node x).follows link) link (w.node x)) e)
  second-by w x link Open false fx e f =
      unchanged w x (did_here (of_nodes.OpensSecond link) (settings x)) fx (ap (λ (q : Wants). follow (settings x) q ((w.node x).follows link) link (w.node x)) e ∙ ap (λ (b : Bool). follow (settings x) Open b link (w.node x)) f)
  second-by w x link Open true fx e f =
      let g : NetworkNode → NetworkNode = λ q. record (happens (settings x) (CameUp link) q) { follows = updated q.follows link false } in
      as-changed w x (did_here (of_nodes.OpensSecond link) (settings x)) g
      (ap (λ (q : Wants). follow (settings x) q ((w.node x).follows link) link (w.node x)) e ∙ ap (λ (b : Bool). follow (settings x) Open b link (w.node x)) f)
      (by (nat_lt link (length (settings x).links)) refl)
    where
      m : MayComeUp (w.node x).node.parts link
      m = wants-open (w.node x).node.parts link e

      up : NetworkNode → NetworkNode
      up q = record (happens (settings x) (CameUp link) q) { follows = updated q.follows link false }

      by : (b : Bool) → nat_lt link (length (settings x).links) ≡ b → Goes_on w (changed x up w)
      by true h = second-step settings t shape o w x link fx (grind (arith, nat_tests, h)) m f
      by false h = record {
        grown = grown-before settings t shape o w (changed x up w) x fx (λ y d. changed-other x up w y d)
            (both-grown (up-grown x link fx (w.node x).node) (same-grown (ap (λ (q : NetworkNode). q.node.parts.times_broken) (changed-here x up w))));
        goes = λ p at s. nowhere w x link p fx s m h;
      }

  led-broken : (w : NetworkState) (y l i : ℕ) → ((changed y (be_led l) w).node i).node.parts.times_broken ≡ (w.node i).node.parts.times_broken
  led-broken w y l i =
      ⊎_elim
      (λ (same : i ≡ y). subst (λ (j : ℕ). ((changed y (be_led l) w).node j).node.parts.times_broken ≡ (w.node j).node.parts.times_broken) (sym same) (ap (λ (q : NetworkNode). q.node.parts.times_broken) (changed-here y (be_led l) w)))
      (λ (d : i ≢ y). ap (λ (q : NetworkNode). q.node.parts.times_broken) (changed-other y (be_led l) w i d))
      (cases_eq i y)

  first-by : (w : NetworkState) (x link : ℕ) (wants : Wants) (may : Bool) (there : Option of_nodes.LinkEnd) → IsNode settings x → wanted (w.node x).node.parts link ≡ wants → may_open_at settings w there ≡ may → other_end settings x link ≡ there
      → Goes_on w (open_first settings wants may x link there w)
  first-by w x link Nothing may there fx e f g = step-none settings t shape o w
  first-by w x link Close may there fx e f g = step-none settings t shape o w
  first-by w x link Open false there fx e f g = step-none settings t shape o w
  first-by w x link Open true None fx e f g = step-none settings t shape o w
  first-by w x link Open true (Some there) fx e f g = by (nat_lt link (length (settings x).links)) refl
    where
      m : MayComeUp (w.node x).node.parts link
      m = wants-open (w.node x).node.parts link e

      one : NetworkState
      one = changed x (come_up (settings x) link) w

      by : (b : Bool) → nat_lt link (length (settings x).links) ≡ b → Goes_on w (changed there.point (be_led there.link) (changed x (come_up (settings x) link) w))
      by true h =
          let inside : link < length (settings x).links = grind (arith, nat_tests, h) in
          first-step settings t shape o w x link fx inside m there (is-other settings t shape o x link there fx inside g) f
      by false h = record {
        grown = λ i fi. both-grown
            (grown-before settings t shape o w one x fx (λ y d. changed-other x (come_up (settings x) link) w y d)
            (both-grown (up-grown x link fx (w.node x).node) (same-grown (ap (λ (q : NetworkNode). q.node.parts.times_broken) (changed-here x (come_up (settings x) link) w)))) i fi)
            (same-grown (led-broken one there.point there.link i));
        goes = λ p at s. nowhere w x link p fx s m h;
      }

  -- ---- any of them

  step-goes : (w : NetworkState) (x : ℕ) (what : Doing) → IsNode settings x → Goes_on w (did settings what x w)
  step-goes w x (of_nodes.Submits m) fx = submits-step settings t shape o w x m fx
  step-goes w x (of_nodes.Takes link) fx = takes-step settings t shape o w x link fx
  step-goes w x (of_nodes.Delivers link) fx = data-by w x link (next_in (settings x) link ((w.node x).user_data link)) fx refl
  step-goes w x (of_nodes.DeliversStatus link) fx = status-by w x link (next_in (settings x) link ((w.node x).statuses link)) fx refl
  step-goes w x (of_nodes.LosesStatus link) fx = lost-by w x link (next_in (settings x) link ((w.node x).statuses link)) fx refl
  step-goes w x (of_nodes.DoublesStatus link) fx = doubled-by w x link (next_in (settings x) link ((w.node x).statuses link)) fx refl
  step-goes w x (of_nodes.Loses link) fx = loses-step settings t shape o w x link fx
  step-goes w x of_nodes.Ticks fx = ticks-step settings t shape o w x fx
  step-goes w x (of_nodes.Activates link emergency) fx = activates-step settings t shape o w x link emergency fx
  step-goes w x (of_nodes.Deactivates link) fx = deactivates-step settings t shape o w x link fx
  step-goes w x (of_nodes.Releases link) fx = releases-step settings t shape o w x link fx
  step-goes w x (of_nodes.AddsTitle row refused) fx = adds-step settings t shape o w x row refused fx
  step-goes w x (of_nodes.SetsTitle row refused) fx = sets-step settings t shape o w x row refused fx
  step-goes w x (of_nodes.RemovesTitle key digits) fx = removes-step settings t shape o w x key digits fx
  step-goes w x (of_nodes.OpensFirst link) fx =
      first-by w x link (wanted (w.node x).node.parts link) (may_open_at settings w (other_end settings x link)) (other_end settings x link) fx refl refl refl
  step-goes w x (of_nodes.OpensSecond link) fx = second-by w x link (wanted (w.node x).node.parts link) ((w.node x).follows link) fx refl refl

  -- ---- lists of them

  both-steps : (w v u : NetworkState) → Goes_on w v → Goes_on v u → Goes_on w u
  both-steps w v u f g = record {
    grown = λ i fi. both-grown (f.grown i fi) (g.grown i fi);
    goes = λ p h s.
        let a : Reaches settings t shape o w p v = f.goes p h s in
        let b : Reaches settings t shape o v (last_of p a.networks) u =
        g.goes (last_of p a.networks)
        (λ x fx. record { lasts = lasts-after shape says_of p a.networks a.moves (h x fx).lasts; led = (h x fx).led }) a.shown in
        record {
          networks = a.networks ++ b.networks;
          moves = moves-append shape p a.networks b.networks a.moves b.moves;
          broken = λ point none. ap (λ (q : Network). q.broken point) (last-append shape p a.networks b.networks) ∙ b.broken point (λ fx. unraised-then (f.grown point fx) (g.grown point fx) (none fx))
              ∙ a.broken point (λ fx. unraised-first (f.grown point fx) (g.grown point fx) (none fx));
          shown = subst (Shown settings t u) (sym (last-append shape p a.networks b.networks)) b.shown;
        };
  }

  one-step : (step : Step) (w : NetworkState) → Goes_on w (after_step settings step w)
  one-step step w = by (is_node settings step.point) refl
    where
      by : (b : Bool) → is_node settings step.point ≡ b → Goes_on w (if b then did settings step.what step.point w else w)
      by true e = step-goes w step.point step.what e
      by false e = step-none settings t shape o w

  pub all-steps : (steps : List Step) (w : NetworkState) → Goes_on w (after_steps settings steps w)
  all-steps [] w = step-none settings t shape o w
  all-steps (step ∷ steps) w = both-steps w (after_step settings step w) (after_steps settings steps (after_step settings step w)) (one-step step w) (all-steps steps (after_step settings step w))

  -- ---- from the first

  first-near : (side : Side) → (seen side quiet.closed_line).near ≡ quiet.closed_end
  first-near Near = refl
  first-near Far = refl

  first-flown : (c : Configuration) (link : ℕ) (side : Side) → IsFlown (of_nodes.first_node c) link (seen side quiet.closed_line)
  first-flown c link Near = record { user_data = tt; statuses = tt; follows = refl; came = λ test. refl }
  first-flown c link Far = record { user_data = tt; statuses = tt; follows = refl; came = λ test. refl }

  pub first-shown : Shown settings t (first_network settings) quiet.first_network
  first-shown = record {
    nodes = λ y fy.
        let c : Configuration = settings y in
        record {
          sized = record {
            links = length-replicate (length c.links) down_link;
            queues = length-replicate (length c.links) first_queue;
            changeovers = length-replicate (length c.links) no_changeover;
            silent = λ link. each-replicate IsSilent (length c.links) link down_link (record { waiting = λ gone. refl; owed = λ gone. refl });
            ways = refl;
          };
          ends = λ link l. subst (λ (e : LinkEnd). IsShown (of_nodes.first_node c).node link e) (sym (first-near (place_at settings t y link).side)) (closed-shown c link l);
          booked = record { bag = λ test. refl; accepted = λ test. refl; named = omega arith; within = λ test. omega arith };
        };
    flown = λ y l fy k. first-flown (settings y) l (place_at settings t y l).side;
    idle = λ link unused. refl;
  }
    where
      closed-shown : (c : Configuration) (link : ℕ) → link < length c.links → IsShown (of_nodes.first_node c).node link quiet.closed_end
      closed-shown c link l =
          let at : link_at (of_nodes.first_node c).node.parts link ≡ down_link = get_or-replicate (length c.links) link down_link down_link l in
          let idle : changeover_of (of_nodes.first_node c).node.parts link ≡ no_changeover = get_or-replicate (length c.links) link no_changeover no_changeover l in
          record {
            queue = get_or-replicate (length c.links) link first_queue first_queue l;
            up = ap (λ (y : Link). not (is_down y.alignment)) (sym at);
            serving = ap (λ (y : Link). is_in_service y.alignment) (sym at);
            incomplete = ap (λ (s : Standing). s.incomplete) (sym idle);
            awaited = ap (λ (s : Standing). s.awaited) (sym idle);
            heard = λ h. (let no : false ≡ true = sym (ap (λ (y : Link). is_heard y.alignment) at) ∙ h in absurd cc);
          }

  module _ (led : (x : ℕ) → IsNode settings x → IsLed shape (settings x)) where
    -- so each network that steps reach shows as one that moves reach
    pub reaches : (steps : List Step) → Reaches settings t shape o (first_network settings) quiet.first_network (after_steps settings steps (first_network settings))
    reaches steps =
        (all-steps steps (first_network settings)).goes quiet.first_network (λ x fx. record { lasts = lasts-first shape says_of; led = led x fx }) first-shown

    -- and while no node is broken all laws of moves hold there
    pub reached : (steps : List Step) → IsUnbroken settings (after_steps settings steps (first_network settings))
        → (p : Network) × Sound shape says_of p × Shown settings t (after_steps settings steps (first_network settings)) p
    reached steps none =
        let r : Reaches settings t shape o (first_network settings) quiet.first_network (after_steps settings steps (first_network settings)) = reaches steps in
        let whole_then : (point : ℕ) → (last_of quiet.first_network r.networks).broken point ≡ false = λ point. r.broken point (λ fx. never-raised (none point fx)) in (
          last_of quiet.first_network r.networks,
          sound-always shape says_of quiet.first_network r.networks (quiet-first says_of) r.moves whole_then,
          r.shown,
        )
