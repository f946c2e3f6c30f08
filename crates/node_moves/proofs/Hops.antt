-- What becomes of the messages of one node for an adjacent one, where one set alone leads between the two: their counts
-- of breaks alone matter.
use Rattle.node_moves.proofs.Basics.{◌≡◌, ℕ, Bool, true, false, ◌&&◌, ◌||◌, ◌+◌, ◌≤◌, ◌<◌, List, [], ◌∷◌, length, Some, count_by, nat_eq, refl, ap, sym, subst, ◌∙◌, arith, if◌then◌else◌, ⊎_elim, eq-eqb, eqb-true, ne_eqb, true≢false}
use Rattle.std.specs.Prelude.{is_some}
use Rattle.node_moves.proofs.Machine.{Side, Near, Far, opposite, is_user_message, user, Line, Network, turned, line_at, last_of, one_if}
use Rattle.node_moves.proofs.Definitions.{Message, flow_of, dpc_of, Configuration, Parts, peer_of, link_of}
use Rattle.node_moves.proofs.Reading.{says_of}
use Rattle.node_moves.proofs.Shown.{HasWays, IsBooked, users_that, any_message, place}
use Rattle.node_moves.proofs.Grown.{never-raised}
use Rattle.node_moves.proofs.Going.{IsLed}
use Rattle.node_moves.proofs.Heard.{own-apart}
use Rattle.node_moves.proofs.World.{Shown, rests, place_at}
use Rattle.node_moves.proofs.Steps.{Reaches}
use Rattle.node_moves.proofs.Running.{all_points, reaches}
use Rattle.node_moves.proofs.Ending.{any-by, placed, came-by, fates-same, fewer, node_books, sum-ends-by, users-same, waits-by}
use Rattle.node_moves.proofs.Closed.{either-true, led-by, is_one_of, for_one_of, concerning, is_between, hop_points, are-hop, stays-between, concerned, point-near, point-far, link-between, goes-there, goes-elsewhere}
use Rattle.node_moves.proofs.Lossless.{flags-tell}
use Rattle.node_moves.specs.EndToEnd.{to_point}
use Rattle.node_moves.specs.Hops.{IsHop, over_hop, accepted_for, came_over, waits_for, ComesOver, AreUnbroken, messages_come_over_a_hop, nothing_is_lost_over_a_hop}
use Rattle.node_moves.specs.Laws as law
use Rattle.node_moves.specs.Laws.{any_fate, came_by, fates_that, most, waiting_on}
use Rattle.node_moves.specs.Outside.{ArePlaced}
use Rattle.node_moves.specs.Lossless.{CountsNothing}
use Rattle.node_moves.specs.Networks.{NetworkState, IsNode, Step, other_end, after_steps, first_network}
use Rattle.settings.specs.Sharing.{LeadsAlone}
use Rattle.network_moves.proofs.Counts.{count-cons, sum-alike}
use Rattle.network_moves.proofs.Grouped.{groups-decide}
use Rattle.network_moves.specs.Groups.{says_of_group, sum_within, came_within, gone_within, users_for, EndsOnceWithin}
use Rattle.network_moves.specs.Networks.{waiting}
use Rattle.network_moves.specs.Quiet.{closed_line}
use Rattle.network_moves.specs.Quiet as quiet

or-true : (a b : Bool) → b ≡ true → (a || b) ≡ true
or-true true b e = refl
or-true false b e = e

if-alike : (b : Bool) (m n : ℕ) → m ≡ n → (if b then m else 0) ≡ (if b then n else 0)
if-alike true m n e = e
if-alike false m n e = refl

if-when : (b : Bool) (m n : ℕ) → (b ≡ true → m ≡ n) → (if b then m else 0) ≡ (if b then n else 0)
if-when true m n e = e refl
if-when false m n e = refl

and-if : (a b : Bool) (n : ℕ) → (if a && b then n else 0) ≡ (if b then (if a then n else 0) else 0)
and-if true b n = refl
and-if false true n = refl
and-if false false n = refl

both-parts : {a b d e : ℕ} → a ≡ d → b ≡ e → a + b ≡ d + e
both-parts e f = omega (arith, e, f)

count-alike : (t u : Message → Bool) (ms : List Message) → ((m : Message) → t m ≡ u m) → count_by t ms ≡ count_by u ms
count-alike t u [] h = refl
count-alike t u (m ∷ ms) h = omega (arith, count-cons t m ms, count-cons u m ms, ap one_if (h m), count-alike t u ms h)

module _ (near far : ℕ) where
  abbrev pub group : ℕ → Bool
  group = is_one_of near far

  pub near-in : group near ≡ true
  near-in = ap (λ (b : Bool). b || nat_eq near far) (eq-eqb near near refl)

  pub far-in : group far ≡ true
  far-in = or-true (nat_eq far near) (nat_eq far far) (eq-eqb far far refl)

  -- a message for the far point is one for the two
  for-far : (a b d e : Bool) → (a && ((b || d) && (d && e))) ≡ (a && (d && e))
  for-far true true d e = refl
  for-far true false true e = refl
  for-far true false false e = refl
  for-far false b d e = refl

  -- a link is between the two if one end is at one of them, and the other end too
  sides-are : (side : Side) (link other : ℕ) → group (all_points.point link side) ≡ true → all_points.point link (opposite side) ≡ other → is_between near far link ≡ group other
  sides-are Near link other e f = ap (λ (b : Bool). b && group (all_points.point link Far)) e ∙ ap group f
  sides-are Far link other e f = and-right (group (all_points.point link Near)) (group (all_points.point link Far)) e ∙ ap group f
    where
      and-right : (a b : Bool) → b ≡ true → (a && b) ≡ a
      and-right true b g = g
      and-right false b g = refl

module _ (settings : (point : ℕ) → Configuration) (t : ArePlaced settings) (near far : ℕ) (fn : IsNode settings near) (ff : IsNode settings far) (hop : IsHop settings near far) where
  -- ---- each node puts messages where it may

  other-in : (x : ℕ) (fx : IsNode settings x) (p : Parts) (m : Message) (link : ℕ) → HasWays (settings x) p → link_of (settings x) p (flow_of m) ≡ Some link → group near far x ≡ true → group near far (dpc_of m) ≡ true
      → group near far (peer_of (settings x) link) ≡ true
  other-in x fx p m link ways e here to =
      ⊎_elim
      (λ (is : nat_eq x near ≡ true).
      let same : x ≡ near = eqb-true x near is in
      ⊎_elim
      (λ (back : nat_eq (dpc_of m) near ≡ true). absurd (goes-elsewhere (settings x) p m link ways (t.well x fx) (eqb-true (dpc_of m) near back ∙ sym same ∙ sym (t.own x fx)) e))
      (λ (on : nat_eq (dpc_of m) far ≡ true).
      let it : peer_of (settings x) link ≡ far =
      goes-there (settings x) p m link ways far hop.near_set (subst (λ (i : ℕ). LeadsAlone (settings i) far hop.near_set) (sym same) hop.near_leads) (eqb-true (dpc_of m) far on) e in
      subst (λ (k : ℕ). group near far k ≡ true) (sym it) (far-in near far))
      (either-true (nat_eq (dpc_of m) near) (nat_eq (dpc_of m) far) to))
      (λ (is : nat_eq x far ≡ true).
      let same : x ≡ far = eqb-true x far is in
      ⊎_elim
      (λ (on : nat_eq (dpc_of m) near ≡ true).
      let it : peer_of (settings x) link ≡ near =
      goes-there (settings x) p m link ways near hop.far_set (subst (λ (i : ℕ). LeadsAlone (settings i) near hop.far_set) (sym same) hop.far_leads) (eqb-true (dpc_of m) near on) e in
      subst (λ (k : ℕ). group near far k ≡ true) (sym it) (near-in near far))
      (λ (back : nat_eq (dpc_of m) far ≡ true). absurd (goes-elsewhere (settings x) p m link ways (t.well x fx) (eqb-true (dpc_of m) far back ∙ sym same ∙ sym (t.own x fx)) e))
      (either-true (nat_eq (dpc_of m) near) (nat_eq (dpc_of m) far) to))
      (either-true (nat_eq x near) (nat_eq x far) here)

  pub led : (x : ℕ) → IsNode settings x → IsLed (hop_points near far) (settings x)
  led x fx =
      let c : Configuration = settings x in
      record {
        routed = λ p m link inside ways e plain.
            led-by (group near far (all_points.point (place c link).link (place c link).side)) (concerning near far m) (is_between near far (place c link).link) (λ here of.
            let own : group near far c.own ≡ true = ap (group near far) (sym (point-near near far c (t.well x fx) link)) ∙ here in
            link-between near far c (t.well x fx) link own (other-in x fx p m link ways e (ap (group near far) (sym (t.own x fx)) ∙ own) (concerned near far m plain of)));
        others = λ m link e.
            led-by (group near far (all_points.point (place c link).link (place c link).side)) (concerning near far m) (is_between near far (place c link).link) (λ here of.
            absurd (true≢false (sym of ∙ ap (says_of_group all_points says_of (group near far) (for_one_of near far) (for_one_of near far m)) e)));
      }

  -- ---- where the two decide alone

  module _ (w : NetworkState) (p : Network) (s : Shown settings t w p) (within : EndsOnceWithin (hop_points near far) says_of (group near far) (for_one_of near far) p near) where
    abbrev c : Configuration
    c = settings near

    abbrev line_on : (link : ℕ) → Line
    line_on link = line_at p (place_at settings t near link)

    -- a link to the other has its other end there
    there : (link : ℕ) → link < length c.links → nat_eq (peer_of c link) far ≡ true → is_some (other_end settings near link) ≡ true
    there link l to = t.joined near link fn l (subst (IsNode settings) (sym (eqb-true (peer_of c link) far to)) ff)

    -- whether a link is between the two
    between-is : (link : ℕ) → is_between near far (place c link).link ≡ nat_eq (peer_of c link) far
    between-is link =
        sides-are near far (place c link).side (place c link).link (peer_of c link) (ap (group near far) (point-near near far c (t.well near fn) link ∙ t.own near fn) ∙ near-in near far) (point-far near far c (t.well near fn) link)
        ∙ ap (λ (b : Bool). b || nat_eq (peer_of c link) far) (ne_eqb (peer_of c link) near (λ same. own-apart c (t.well near fn) link (t.own near fn ∙ sym same)))

    -- a sum within, by the links of the near node
    sum-over : (f : Line → ℕ) → f closed_line ≡ 0 → sum_within (hop_points near far) says_of (group near far) (for_one_of near far) f p near ≡ over_hop settings near far (λ link. f (line_on link))
    sum-over f closed =
        sum-alike near_ends within_ends (hop_points near far).links
        (λ link l. both-parts (and-if (is_between near far link) (nat_eq (all_points.point link Near) near) (f (p.line link)))
        (and-if (is_between near far link) (nat_eq (all_points.point link Far) near) (f (turned (p.line link)))))
        ∙ sum-ends-by settings t (hop_points near far) (are-hop near far) near fn p s.idle (λ link z. if is_between near far link then f z else 0) (λ link. either-none (is_between near far link))
        ∙ sum-alike (λ link. if nat_eq (peer_of c link) far then f (line_on link) else 0) (λ link. if is_between near far (place c link).link then f (line_on link) else 0) (length c.links)
        (λ link l. ap (λ (b : Bool). if b then f (line_on link) else 0) (between-is link))
      where
        within_ends : ℕ → ℕ
        within_ends link =
            (if is_between near far link && nat_eq (all_points.point link Near) near then f (p.line link) else 0)
            + (if is_between near far link && nat_eq (all_points.point link Far) near then f (turned (p.line link)) else 0)

        near_ends : ℕ → ℕ
        near_ends link =
            (if nat_eq (all_points.point link Near) near then (if is_between near far link then f (p.line link) else 0) else 0)
            + (if nat_eq (all_points.point link Far) near then (if is_between near far link then f (turned (p.line link)) else 0) else 0)

        either-none : (b : Bool) → (if b then f closed_line else 0) ≡ 0
        either-none true = closed
        either-none false = refl

    module _ (test : Message → Bool) where
      abbrev to_far : Message → Bool
      to_far = to_point far test

      abbrev users : Message → Bool
      users = user says_of to_far

      abbrev of_two : Message → Bool
      of_two = users_for (hop_points near far) says_of (group near far) (for_one_of near far) to_far

      same-users : (ms : List Message) → count_by of_two ms ≡ count_by users ms
      same-users ms = count-alike of_two users ms (λ m. for-far near far (is_user_message (says_of m)) (nat_eq (dpc_of m) near) (nat_eq (dpc_of m) far) (test m))

      books : IsBooked (p.node near) (rests settings t (w.node near))
      books = node_books settings t (hop_points near far) (are-hop near far) w p s near fn

      came : came_within (hop_points near far) says_of (group near far) (for_one_of near far) of_two p near ≡ came_over settings near far w test
      came =
          sum-over (λ z. count_by of_two z.near.came) refl
          ∙ sum-alike (λ link. if nat_eq (peer_of c link) far then fates_that any_fate to_far (came_by settings w (other_end settings near link)) else 0)
          (λ link. if nat_eq (peer_of c link) far then count_by of_two (line_on link).near.came else 0) (length c.links)
          (λ link l. if-when (nat_eq (peer_of c link) far) (count_by of_two (line_on link).near.came) (fates_that any_fate to_far (came_by settings w (other_end settings near link)))
          (λ to. same-users (line_on link).near.came ∙ came-by settings t (hop_points near far) (are-hop near far) w p s near fn users link l (there link l to) ∙ sym (fates-same to_far (came_by settings w (other_end settings near link)))))

      waits : sum_within (hop_points near far) says_of (group near far) (for_one_of near far) (λ z. count_by of_two (waiting z)) p near
          ≡ over_hop settings near far (λ link. law.users_that to_far (waiting_on settings w near link))
      waits =
          sum-over (λ z. count_by of_two (waiting z)) refl
          ∙ sum-alike (λ link. if nat_eq (peer_of c link) far then law.users_that to_far (waiting_on settings w near link) else 0)
          (λ link. if nat_eq (peer_of c link) far then count_by of_two (waiting (line_on link)) else 0) (length c.links)
          (λ link l. if-when (nat_eq (peer_of c link) far) (count_by of_two (waiting (line_on link))) (law.users_that to_far (waiting_on settings w near link))
          (λ to. same-users (waiting (line_on link)) ∙ ap (count_by users) (sym (waits-by settings t (hop_points near far) (are-hop near far) w p s near fn link l (there link l to))) ∙ sym (users-same to_far (waiting_on settings w near link))))

      abbrev gone : ℕ
      gone = gone_within (hop_points near far) says_of (group near far) (for_one_of near far) of_two p near

      sum : accepted_for settings near far w test ≡ came_over settings near far w test + waits_for settings near far w test + gone
      sum =
          omega (
            arith,
            within.each to_far,
            books.bag users,
            books.accepted to_far,
            came,
            waits,
            same-users (p.node near).accepted,
            same-users (p.node near).ended,
            same-users (p.node near).bag,
            users-same to_far (w.node near).accepted,
            users-same to_far (w.node near).node.queues.held,
          )

      few : gone ≤ users_that to_far (p.node near).named
      few = omega (arith, within.named to_far, same-users (p.node near).named)

    pub comes-by : ComesOver settings near far w
    comes-by = record {
      once = λ test. omega (arith, sum test);
      named = λ test. omega (arith, sum test, few test, (books test).within (to_point far test), users-same (to_point far test) (w.node near).named);
      counted = λ test. omega (
        arith,
        sum test,
        few test,
        fewer (user says_of (to_point far test)) (user says_of any_message) (p.node near).named (λ m. any-by (is_user_message (says_of m)) (to_point far test m)),
        (books test).named,
      );
    }

  -- ---- after a list of steps

  module _ (steps : List Step) (whole : AreUnbroken settings near far (after_steps settings steps (first_network settings))) where
    abbrev reached : Reaches settings t (hop_points near far) (are-hop near far) (first_network settings) quiet.first_network (after_steps settings steps (first_network settings))
    reached = reaches settings t (hop_points near far) (are-hop near far) led steps

    two-whole : (other : ℕ) → group near far other ≡ true → ((after_steps settings steps (first_network settings)).node other).node.parts.times_broken ≡ 0
    two-whole other e =
        let w : NetworkState = after_steps settings steps (first_network settings) in
        ⊎_elim
        (λ (is : nat_eq other near ≡ true). subst (λ (i : ℕ). (w.node i).node.parts.times_broken ≡ 0) (sym (eqb-true other near is)) whole.near_whole)
        (λ (is : nat_eq other far ≡ true). subst (λ (i : ℕ). (w.node i).node.parts.times_broken ≡ 0) (sym (eqb-true other far is)) whole.far_whole)
        (either-true (nat_eq other near) (nat_eq other far) e)

    comes : ComesOver settings near far (after_steps settings steps (first_network settings))
    comes =
        comes-by (after_steps settings steps (first_network settings)) (last_of quiet.first_network reached.networks) reached.shown
        (groups-decide (hop_points near far) says_of (group near far) (for_one_of near far) reached.networks near (stays-between near far) reached.moves
        (λ other e. reached.broken other (λ f. never-raised (two-whole other e))) (near-in near far))

pub comes-over : messages_come_over_a_hop
comes-over settings steps near far t fn ff hop whole = comes settings (placed settings t) near far fn ff hop steps whole

pub loses-nothing : nothing_is_lost_over_a_hop
loses-nothing settings steps near far test t fn ff hop none =
    let w : NetworkState = after_steps settings steps (first_network settings) in
    let near_counts : CountsNothing (w.node near).node.parts = flags-tell settings steps near none.near_none in
    let far_counts : CountsNothing (w.node far).node.parts = flags-tell settings steps far none.far_none in
    let it : ComesOver settings near far w = comes settings (placed settings t) near far fn ff hop steps (record { near_whole = near_counts.unbroken; far_whole = far_counts.unbroken }) in
    omega (arith, it.once test, it.counted test, near_counts.none_lost)
