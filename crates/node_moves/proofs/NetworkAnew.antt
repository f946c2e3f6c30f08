-- A network anew: from each state on in which nothing is left at any node.
use Rattle.node_moves.proofs.Basics.{◌≡◌, ℕ, Bool, true, false, ◌&&◌, ◌+◌, ◌<◌, List, [], ◌∷◌, count_by, nat_lt, refl, ap, sym, subst, ◌∙◌, arith, nat_tests, length}
use Rattle.std.specs.Prelude.{is_some}
use Rattle.node_moves.proofs.Machine.{Near, Network, last_of, Sound}
use Rattle.node_moves.proofs.Definitions.{Message, Configuration}
use Rattle.node_moves.proofs.Grown.{same-grown}
use Rattle.node_moves.proofs.Reading.{says_of}
use Rattle.node_moves.proofs.Shown.{Shows, IsBooked}
use Rattle.node_moves.proofs.World.{Shown, rests}
use Rattle.node_moves.proofs.Running.{all_points, are-all, all-outside, all-led, all-steps, first-shown}
use Rattle.node_moves.proofs.Steps.{Reaches}
use Rattle.node_moves.proofs.Ending.{ends, placed}
use Rattle.node_moves.proofs.EndToEnd.{across, accounted, end-to-end, are-joined, all-nodes, no-node, sum-nowhere}
use Rattle.node_moves.proofs.Everywhere.{steps-keep}
use Rattle.node_moves.proofs.Booking.{IsInOrder, order-kept, first-in-order, takes-each}
use Rattle.node_moves.proofs.Changes.{nobody, spares-nobody, AreAt, at-after, Comes, all-changes}
use Rattle.node_moves.proofs.CountedSince.{HasCounted, counted-kept, IsCapped}
use Rattle.node_moves.proofs.Begun.{settled_line, begun, begun-shown, begun-lasts, at-rest, rest-unused}
use Rattle.node_moves.proofs.Anew.{begun-counted, capped-after, first-quiet, unraised}
use Rattle.node_moves.specs.Anew.{Change, Stays, after_changes, begun_anew}
use Rattle.node_moves.specs.EndToEnd.{ComeFromEndToEnd, IsAccounted, to_point, to_user_parts, total}
use Rattle.node_moves.specs.Lossless.{ComeWhole, EndsWhole}
use Rattle.node_moves.specs.Fates.{TakesEachIn}
use Rattle.node_moves.specs.Laws.{AreTheirs, EndsOnce, gone_at, is_user}
use Rattle.node_moves.specs.Outside.{ArePlaced}
use Rattle.node_moves.specs.NetworkAnew.{IsQuietNetwork, NoneBrokenSince, NoneLostSince, EndsOnceSince, nodes_begin_anew, ends_begin_anew, sums_begin_anew, nodes_lose_nothing_anew, nothing_is_lost_from_end_to_end_anew, first_networks_are_quiet}
use Rattle.node_moves.specs.Networks as of_nodes
use Rattle.node_moves.specs.Networks.{NetworkNode, NetworkState, IsNode, Step, is_node, other_end, points, after_steps, first_network}
use Rattle.network_moves.proofs.Counts.{count-cons}
use Rattle.network_moves.proofs.Keeping.{sound-always}
use Rattle.network_moves.proofs.Lasting.{Lasts, lasts-after, lasts-first}
use Rattle.network_moves.specs.Lasting.{odd}
use Rattle.network_moves.specs.Networks as net
use Rattle.network_moves.specs.Quiet as quiet
use Rattle.network_moves.specs.Quiet.{AreOthers, IsIdle, IsQuiet}
use Rattle.std.proofs.lemmas.List.Sums.{count_by-le-length}

-- ---- a network of moves whose books begin, without what it has at points that have no node

abbrev emptied : (is : Bool) → net.Node → net.Node
emptied true n = n
emptied false n = quiet.first_node

none-at : (ms : List Message) → count_by (λ m. true) ms ≡ 0 → AreOthers says_of ms
none-at [] e = tt
none-at (m ∷ ms) e = absurd (omega (arith, e, count-cons (λ m. true) m ms))

and-first : (a b : Bool) → (a && b) ≡ true → a ≡ true
and-first true b e = refl
and-first false b e = absurd cc

module _ (settings : (point : ℕ) → Configuration) (t : ArePlaced settings) where
  abbrev alone : Network → Network
  alone p = record (begun p) { node = λ x. emptied (is_node settings x) ((begun p).node x) }

  alone-shown : (w : NetworkState) (p : Network) → Shown settings t w p → Shown settings t (begun_anew w) (alone p)
  alone-shown w p s =
      let b : Shown settings t (begun_anew w) (begun p) = begun-shown settings t w p s in
      record {
        nodes = λ y fy.
            let h : Shows (settings y) (begun p) (rests settings t ((begun_anew w).node y)) = b.nodes y fy in
            record {
              sized = h.sized;
              ends = h.ends;
              booked =
                  subst (λ (q : Bool). IsBooked (emptied q ((begun p).node (settings y).own)) (rests settings t ((begun_anew w).node y))) (sym (ap (is_node settings) (t.own y fy) ∙ fy)) h.booked;
            };
        flown = b.flown;
        idle = b.idle;
      }

  alone-lasts : (p : Network) → Lasts all_points says_of p → Lasts all_points says_of (alone p)
  alone-lasts p h =
      let l : Lasts all_points says_of (begun p) = begun-lasts all_points p h in
      record { bags = λ x. by (is_node settings x) x (l.bags x); lines = l.lines }
    where
      by : (q : Bool) (x : ℕ) → count_by (odd says_of) ((begun p).node x).bag ≡ 0 → count_by (odd says_of) (emptied q ((begun p).node x)).bag ≡ 0
      by true x e = e
      by false x e = refl

  module _ (all_joined : (x link : ℕ) → IsNode settings x → link < length (settings x).links → is_some (other_end settings x link) ≡ true)
      (w : NetworkState) (p : Network) (s : Shown settings t w p) (lasts : Lasts all_points says_of p) (quiet_then : IsQuietNetwork settings w) where
    lines-rest : (link : ℕ) → quiet.IsAtRest (settled_line (p.line link))
    lines-rest link = by (is_node settings (all_points.point link Near)) refl
      where
        by : (b : Bool) → is_node settings (all_points.point link Near) ≡ b → quiet.IsAtRest (settled_line (p.line link))
        by true fx = at-rest settings t all_points are-all w p s lasts (λ k. true) (λ x l fx k e. all_joined x l fx k) (λ x l fx k e. (quiet_then x fx).links l k) link refl fx
        by false none =
            rest-unused settings t all_points are-all w p s lasts (λ k. true) (λ x l fx k e. all_joined x l fx k) (λ x l fx k e. (quiet_then x fx).links l k) link
            (no-node settings t all_joined all_points are-all (all_points.point link Near) link Near none refl)

    bag-others : (x : ℕ) → IsNode settings x → AreOthers says_of (p.node x).bag
    bag-others x fx =
        let b : IsBooked (p.node x) (rests settings t (w.node x)) = subst (λ (i : ℕ). IsBooked (p.node i) (rests settings t (w.node x))) (t.own x fx) (s.nodes x fx).booked in
        none-at (p.node x).bag (b.bag (λ m. true) ∙ ap (λ (ms : List Message). count_by (λ m. true) ms + 0) (quiet_then x fx).held)

    alone-quiet : IsQuiet says_of (alone p)
    alone-quiet = record { lines = lines-rest; nodes = λ x. by x (is_node settings x) refl }
      where
        by : (x : ℕ) (q : Bool) → is_node settings x ≡ q → IsIdle says_of (emptied q ((begun p).node x))
        by x true fx = record { bag = bag-others x fx; submitted = refl; accepted = refl; ended = refl; gone = refl; named = refl }
        by x false none = record { bag = tt; submitted = refl; accepted = refl; ended = refl; gone = refl; named = refl }

-- ---- from such a network on

module _ (settings : (point : ℕ) → Configuration) (before : List Change) (steps : List Step) (its : AreTheirs settings) (quiet_then : IsQuietNetwork settings (after_changes settings before (first_network settings))) where
  abbrev t : ArePlaced settings
  t = placed settings its

  abbrev start : NetworkState
  start = after_changes settings before (first_network settings)

  abbrev now : NetworkState
  now = after_steps settings steps (begun_anew start)

  no-nodes : (point : ℕ) → nobody point ≡ true → IsNode settings point
  no-nodes point e = absurd cc

  at-first : AreAt settings t all_points are-all quiet.first_network
  at-first x fx = record { lasts = lasts-first all_points says_of; led = all-led (settings x) }

  abbrev reached : Comes settings t all_points are-all nobody no-nodes (first_network settings) quiet.first_network start
  reached = (all-changes settings t all_points are-all nobody no-nodes (all-outside settings) before (spares-nobody before) (first_network settings)).goes quiet.first_network at-first (first-shown settings t all_points are-all)

  abbrev p : Network
  p = last_of quiet.first_network reached.networks

  at-p : AreAt settings t all_points are-all p
  at-p = at-after settings t all_points are-all quiet.first_network reached.networks reached.moves at-first

  lasts-p : Lasts all_points says_of p
  lasts-p = lasts-after all_points says_of quiet.first_network reached.networks reached.moves (lasts-first all_points says_of)

  at-alone : AreAt settings t all_points are-all (alone settings t p)
  at-alone x fx = record { lasts = alone-lasts settings t p lasts-p; led = (at-p x fx).led }

  abbrev since : Reaches settings t all_points are-all (begun_anew start) (alone settings t p) now
  since = (all-steps settings t all_points are-all steps (begun_anew start)).goes (alone settings t p) at-alone (alone-shown settings t start p reached.shown)

  abbrev q : Network
  q = last_of (alone settings t p) since.networks

  -- ---- what the nodes count

  counts : (y : ℕ) → HasCounted (start.node y).node.parts (now.node y)
  counts y = steps-keep (λ c x. HasCounted (start.node y).node.parts x) (counted-kept (start.node y).node.parts) settings y steps (begun_anew start) (begun-counted settings 0 0 y start)

  caps : (y : ℕ) → IsCapped (start.node y)
  caps y = capped-after settings 0 0 y before (first_network settings) (record { breaks = same-grown refl; messages = same-grown refl })

  pub whole-so : NoneLostSince settings start now → NoneBrokenSince settings start now
  whole-so none y fy =
      let h : Stays (start.node y).node.parts.times_lost (now.node y).node.parts.times_lost = none y fy in
      record { countable = omega (arith, h.countable, (caps y).breaks.capped); same = (counts y).unbroken (unraised _ _ h) }

  -- ---- what comes in has its fate

  begun-order : (y : ℕ) → IsInOrder (settings y) ((begun_anew start).node y)
  begun-order y =
      let h : IsInOrder (settings y) (of_nodes.first_node (settings y)) = first-in-order (settings y) in
      record { submitted = h.submitted; came = h.came; accepted = h.accepted; made = h.made; made_once = h.made_once }

  pub takes : (y : ℕ) → TakesEachIn settings now y
  takes y = takes-each settings now y (steps-keep IsInOrder order-kept settings y steps (begun_anew start) (begun-order y))

  module _ (whole : NoneBrokenSince settings start now) where
    sound : Sound all_points says_of q
    sound =
        sound-always all_points says_of (alone settings t p) since.networks (alone-quiet settings t its.joined start p reached.shown lasts-p quiet_then) since.moves
        (λ x. since.broken x (λ fx. unraised _ _ (whole x fx)))

    pub each : (x : ℕ) → IsNode settings x → EndsOnce settings now x
    each x fx = ends settings t all_points are-all now q since.shown x fx (λ link inside. its.joined x link fx inside) sound

    pub each-since : (x : ℕ) → IsNode settings x → EndsOnceSince settings start now x
    each-since x fx = record {
      once = (each x fx).once;
      named = (each x fx).named;
      counted = λ test. omega (arith, (each x fx).named test, count_by-le-length (λ m. is_user m && test m) (now.node x).named, (counts x).lost);
    }

    pub ends-since : (x : ℕ) → IsNode settings x → ComeFromEndToEnd settings now x
    ends-since x fx =
        let inside : x < points = (let l : nat_lt x points ≡ true = and-first (nat_lt x points) _ fx in grind (arith, nat_tests, l)) in
        end-to-end settings t now each takes (λ test. across settings t its.joined all_points are-all now q sound since.shown test are-joined all-nodes) x fx inside

    pub sums-since : IsAccounted settings now
    sums-since = accounted settings t now each takes (λ test. across settings t its.joined all_points are-all now q sound since.shown test are-joined all-nodes)

  pub none-gone : NoneLostSince settings start now → (x : ℕ) → IsNode settings x → (test : Message → Bool) → gone_at settings now test x ≡ 0
  none-gone none x fx test =
      let e : EndsOnceSince settings start now x = each-since (whole-so none) x fx in
      let h : Stays (start.node x).node.parts.times_lost (now.node x).node.parts.times_lost = none x fx in
      omega (arith, e.counted test, (counts x).none_lost (unraised _ _ h), h.countable, (caps x).messages.capped)

  last : (a b : ℕ) → b ≡ 0 → a + b ≡ a
  last a b e = omega (arith, e)

  none-anywhere : NoneLostSince settings start now → (test : Message → Bool) → total settings now (gone_at settings now test) ≡ 0
  none-anywhere none test = sum-nowhere (is_node settings) (gone_at settings now test) (λ x fx. none-gone none x fx test) points

  pub ends-whole : NoneLostSince settings start now → (x : ℕ) → IsNode settings x → EndsWhole settings now x
  ends-whole none x fx = record { once = λ test. (each (whole-so none) x fx).once test ∙ last _ _ (none-gone none x fx test) }

  pub comes-whole : NoneLostSince settings start now → (x : ℕ) → IsNode settings x → ComeWhole settings now x
  comes-whole none x fx =
      let e : ComeFromEndToEnd settings now x = ends-since (whole-so none) x fx in
      record {
        once = λ test. e.once test ∙ last _ _ (none-anywhere none (to_user_parts x test));
        with_sccp = λ test. e.with_sccp test ∙ last _ _ (none-anywhere none (to_point x test));
      }

pub nodes-anew : nodes_begin_anew
nodes-anew settings before steps t quiet_then whole = each-since settings before steps t quiet_then whole

pub ends-anew : ends_begin_anew
ends-anew settings before steps t quiet_then whole = ends-since settings before steps t quiet_then whole

pub sums-anew : sums_begin_anew
sums-anew settings before steps t quiet_then whole = sums-since settings before steps t quiet_then whole

pub nodes-lose-none : nodes_lose_nothing_anew
nodes-lose-none settings before steps t quiet_then none = ends-whole settings before steps t quiet_then none

pub none-lost : nothing_is_lost_from_end_to_end_anew
none-lost settings before steps t quiet_then none = comes-whole settings before steps t quiet_then none

pub first-networks-quiet : first_networks_are_quiet
first-networks-quiet settings point fx = record { links = λ link l. first-quiet (settings point) link l; held = refl }
