-- A hop anew: from each network on in which nothing is left between its two nodes.
use Rattle.node_moves.proofs.Basics.{◌≡◌, ◌≢◌, ℕ, Bool, true, false, ◌||◌, ◌&&◌, not, ◌<◌, ◌+◌, List, [], ◌∷◌, length, count_by, nat_eq, refl, ap, sym, subst, ◌∙◌, arith, ⊎_elim, cases_eq, eqb-true, ne_eqb, ◌++◌, Ok, Err, Result, if◌then◌else◌}
use Rattle.node_moves.proofs.Machine.{Network, last_of, one_if}
use Rattle.node_moves.proofs.Definitions.{Message, Configuration, Node, WholeQueues, is_management, link_at, changeover_of, Link, down_link, is_down, Standing, no_changeover}
use Rattle.node_moves.proofs.Grown.{IsUnraised, same-grown}
use Rattle.node_moves.proofs.Reading.{says_of}
use Rattle.node_moves.proofs.Flights.{changed-here, changed-other}
use Rattle.node_moves.proofs.Running.{first-shown}
use Rattle.node_moves.proofs.Closed.{either-true, each-true, is_one_of, for_one_of, hop_points, are-hop, hop-outside, stays-between}
use Rattle.node_moves.proofs.Hops.{near-in, far-in, led, comes-by}
use Rattle.node_moves.proofs.Everywhere.{IsKept, IsSameNode, one-step}
use Rattle.node_moves.proofs.Changes.{SpareAll, nobody, spares-nobody, AreAt, at-after, Comes, ChangeGoes, all-changes}
use Rattle.node_moves.proofs.CountedSince.{HasCounted, counted-kept, IsCapped, capped-kept}
use Rattle.node_moves.proofs.Begun.{begun, begun-shown, begun-lasts, none-left}
use Rattle.node_moves.specs.Anew.{Change, Does, Restarts, GivesUp, OpensOutside, ComesOutside, restarted, given_up, after_change, after_changes, IsQuietEnd, NothingIsLeft, begun_anew, Stays, AreOfOthers, AreUnbrokenSince, HaveLostNothingSince, ComesOverSince, hops_begin_anew, nothing_is_lost_anew, networks_begin_quietly}
use Rattle.node_moves.specs.EndToEnd.{to_point}
use Rattle.node_moves.specs.Hops.{IsHop, ComesOver, accepted_for, came_over, gone_for, waits_for}
use Rattle.node_moves.specs.Laws.{is_user}
use Rattle.node_moves.specs.Outside.{ArePlaced, leads_out, may_come, put_in}
use Rattle.node_moves.specs.Networks.{NetworkNode, NetworkState, IsNode, after_step, be_led, changed, first_network, first_node, state_of, updated}
use Rattle.exchange_rules.proofs.Settling.{take-waits}
use Rattle.exchange_rules.proofs.Sound.{done-waits}
use Rattle.exchange_rules.specs.Routing.{all_wait, is_flow_held, waits}
use Rattle.exchange_rules.specs.State.{FrameCame, Submitted}
use Rattle.flow_hold.specs.Holds.{HoldSet}
use Rattle.network_moves.proofs.Counts.{count-cons}
use Rattle.network_moves.proofs.Apart.{IsApart}
use Rattle.network_moves.proofs.Grouped.{apart-after, apart-first, groups-anew}
use Rattle.network_moves.proofs.Lasting.{lasts-first}
use Rattle.network_moves.specs.Groups.{EndsOnceWithin}
use Rattle.network_moves.specs.Quiet as quiet
use Rattle.std.proofs.lemmas.List.{get_or-replicate}
use Rattle.m2pa_codec.specs.Frames.{FrameValue, EmptyFrame, MessageFrame, StatusFrame, read_frame}
use Rattle.signalling_types.specs.declared.notice.FrameFault.{FrameFault}
use Rattle.std.proofs.lemmas.List.Sums.{count_by-le-length}

-- ---- changes of others

neither : (a b : Bool) → a ≡ false → b ≡ false → (a || b) ≡ false
neither false b e f = f
neither true b e f = absurd cc

others-spared : (near far : ℕ) (changes : List Change) → AreOfOthers near far changes → SpareAll (is_one_of near far) changes
others-spared near far [] h = tt
others-spared near far (Does step ∷ changes) h = (tt, others-spared near far changes h.1)
others-spared near far (Restarts point ∷ changes) h = (neither (nat_eq point near) (nat_eq point far) (ne_eqb point near h.0.0) (ne_eqb point far h.0.1), others-spared near far changes h.1)
others-spared near far (GivesUp point link ∷ changes) h = (neither (nat_eq point near) (nat_eq point far) (ne_eqb point near h.0.0) (ne_eqb point far h.0.1), others-spared near far changes h.1)
others-spared near far (OpensOutside point link ∷ changes) h = (tt, others-spared near far changes h.1)
others-spared near far (ComesOutside point link text ∷ changes) h = (tt, others-spared near far changes h.1)

pub unraised : (before after : ℕ) → Stays before after → IsUnraised before after
unraised before after h = record { same = omega (arith, h.same); low = h.countable }

-- ---- what is in Held waits

abbrev EachWaits : Configuration → NetworkNode → Type 0
EachWaits c x = all_wait c x.node.parts.holds x.node.queues.held ≡ true

waits-kept : IsKept EachWaits
waits-kept = record {
  handed = λ c m x h. done-waits (Submitted m) (state_of c x);
  heard = λ c link text x inside h. done-waits (FrameCame link text) (state_of c x);
  happened = λ c what x h. done-waits what (state_of c x);
  taken = λ c link x h. take-waits c link x.node h;
  flown = λ c x y s h. subst (λ (n : Node WholeQueues). all_wait c n.parts.holds n.queues.held ≡ true) (sym s.node) h;
}

-- and management never does
none-managed : (c : Configuration) (holds : HoldSet) (ms : List Message) → all_wait c holds ms ≡ true → count_by is_management ms ≡ 0
none-managed c holds [] e = refl
none-managed c holds (m ∷ ms) e =
    let two : (waits c holds m ≡ true) × (all_wait c holds ms ≡ true) = each-true (waits c holds m) (all_wait c holds ms) e in
    omega (arith, count-cons is_management m ms, by (is_management m) refl two.0, none-managed c holds ms two.1)
  where
    by : (b : Bool) → is_management m ≡ b → waits c holds m ≡ true → one_if (is_management m) ≡ 0
    by false f g = ap one_if f
    by true f g = (let no : false ≡ true = sym (ap (λ (q : Bool). not q && is_flow_held c holds m) f) ∙ g in absurd cc)

module _ (settings : (point : ℕ) → Configuration) (near far : ℕ) where
  -- something may be done to one node
  done-keeps : (P : Configuration → NetworkNode → Type 0) → (y : ℕ) (w : NetworkState) (point : ℕ) (b : Bool) (f : NetworkNode → NetworkNode) → (P (settings point) (w.node point) → P (settings point) (f (w.node point)))
      → P (settings y) (w.node y) → P (settings y) ((if b then changed point f w else w).node y)
  done-keeps P y w point false f g k = k
  done-keeps P y w point true f g k =
      ⊎_elim
      (λ (is : y ≡ point).
      subst (λ (i : ℕ). P (settings i) (w.node i) → P (settings i) ((changed point f w).node i)) (sym is) (λ j. subst (P (settings point)) (sym (changed-here point f w)) (g j)) k)
      (λ (d : y ≢ point). subst (P (settings y)) (sym (changed-other point f w y d)) k)
      (cases_eq y point)

  outside-keeps : (P : Configuration → NetworkNode → Type 0) → IsKept P → (y : ℕ) (w : NetworkState) (point : ℕ) (b : Bool) (f : NetworkNode → NetworkNode) → ((x : NetworkNode) → IsSameNode x (f x)) → P (settings y) (w.node y)
      → P (settings y) ((if b then changed point f w else w).node y)
  outside-keeps P kept y w point b f same k = done-keeps P y w point b f (λ j. kept.flown (settings point) (w.node point) (f (w.node point)) (same (w.node point)) j) k

  -- what comes from outside changes what is in flight alone, or is handed in
  put-keeps : (P : Configuration → NetworkNode → Type 0) → IsKept P → (y : ℕ) (w : NetworkState) (point link : ℕ) (b : Bool) (text : List ℕ) (r : Result FrameValue FrameFault) → P (settings y) (w.node y)
      → P (settings y) ((if b then changed point (put_in settings point link text r) w else w).node y)
  put-keeps P kept y w point link b text (Ok (StatusFrame bsn fsn status)) k =
      outside-keeps P kept y w point b (put_in settings point link text (Ok (StatusFrame bsn fsn status))) (λ x. record { node = refl; submitted = refl; came = refl; accepted = refl; made = refl; named = refl }) k
  put-keeps P kept y w point link b text (Ok (EmptyFrame bsn fsn)) k =
      outside-keeps P kept y w point b (put_in settings point link text (Ok (EmptyFrame bsn fsn))) (λ x. record { node = refl; submitted = refl; came = refl; accepted = refl; made = refl; named = refl }) k
  put-keeps P kept y w point link b text (Ok (MessageFrame bsn fsn sio sif)) k =
      outside-keeps P kept y w point b (put_in settings point link text (Ok (MessageFrame bsn fsn sio sif))) (λ x. by x (may_come settings (record { sio = sio; sif = sif }))) k
    where
      by : (x : NetworkNode) (b : Bool) → IsSameNode x (if b then record x { user_data = updated x.user_data link (x.user_data link ++ text ∷ []) } else x)
      by x true = record { node = refl; submitted = refl; came = refl; accepted = refl; made = refl; named = refl }
      by x false = record { node = refl; submitted = refl; came = refl; accepted = refl; made = refl; named = refl }
  put-keeps P kept y w point link b text (Err fault) k =
      done-keeps P y w point b (put_in settings point link text (Err fault)) (kept.happened (settings point) (FrameCame link text) (w.node point)) k

  -- a node that is neither of the two is another than one that is
  others-apart : (y : ℕ) → is_one_of near far y ≡ true → (point : ℕ) → (point ≢ near) × (point ≢ far) → y ≢ point
  others-apart y e point d same =
      ⊎_elim (λ (is : nat_eq y near ≡ true). d.0 (sym same ∙ eqb-true y near is)) (λ (is : nat_eq y far ≡ true). d.1 (sym same ∙ eqb-true y far is)) (either-true (nat_eq y near) (nat_eq y far) e)

  -- what a node counts, while it doesn't start again
  counted-after : (y : ℕ) (before : NetworkNode) (changes : List Change) → (is_one_of near far y ≡ true) → AreOfOthers near far changes → (w : NetworkState)
      → HasCounted before.node.parts (w.node y) → HasCounted before.node.parts ((after_changes settings changes w).node y)
  counted-after y before [] e h w k = k
  counted-after y before (Does step ∷ changes) e h w k =
      counted-after y before changes e h.1 (after_step settings step w) (one-step (λ c x. HasCounted before.node.parts x) (counted-kept before.node.parts) settings y step w k)
  counted-after y before (OpensOutside point link ∷ changes) e h w k =
      counted-after y before changes e h.1 (after_change settings (OpensOutside point link) w)
      (outside-keeps (λ c x. HasCounted before.node.parts x) (counted-kept before.node.parts) y w point (leads_out settings point link) (be_led link) (λ x. record { node = refl; submitted = refl; came = refl; accepted = refl; made = refl; named = refl }) k)
  counted-after y before (ComesOutside point link text ∷ changes) e h w k =
      counted-after y before changes e h.1 (after_change settings (ComesOutside point link text) w)
      (put-keeps (λ c x. HasCounted before.node.parts x) (counted-kept before.node.parts) y w point link (leads_out settings point link) text (read_frame text) k)
  counted-after y before (Restarts point ∷ changes) e h w k =
      counted-after y before changes e h.1 (after_change settings (Restarts point) w)
      (subst (HasCounted before.node.parts) (sym (changed-other point (restarted (settings point)) w y (others-apart y e point h.0))) k)
  counted-after y before (GivesUp point link ∷ changes) e h w k =
      counted-after y before changes e h.1 (after_change settings (GivesUp point link) w)
      (subst (HasCounted before.node.parts) (sym (changed-other point (given_up link) w y (others-apart y e point h.0))) k)

  -- what all that a node does keeps, and its restart, all changes keep
  pub changes-keep : (P : Configuration → NetworkNode → Type 0) → IsKept P → ((c : Configuration) (x : NetworkNode) → P c x → P c (restarted c x)) → (y : ℕ) (changes : List Change) (w : NetworkState)
      → P (settings y) (w.node y) → P (settings y) ((after_changes settings changes w).node y)
  changes-keep P kept again y [] w k = k
  changes-keep P kept again y (Does step ∷ changes) w k = changes-keep P kept again y changes (after_step settings step w) (one-step P kept settings y step w k)
  changes-keep P kept again y (Restarts point ∷ changes) w k =
      changes-keep P kept again y changes (after_change settings (Restarts point) w)
      (⊎_elim
      (λ (same : y ≡ point).
      subst (λ (i : ℕ). P (settings i) ((after_change settings (Restarts point) w).node i)) (sym same)
      (subst (P (settings point)) (sym (changed-here point (restarted (settings point)) w)) (again (settings point) (w.node point) (subst (λ (i : ℕ). P (settings i) (w.node i)) same k))))
      (λ (d : y ≢ point). subst (P (settings y)) (sym (changed-other point (restarted (settings point)) w y d)) k)
      (cases_eq y point))
  changes-keep P kept again y (GivesUp point link ∷ changes) w k =
      changes-keep P kept again y changes (after_change settings (GivesUp point link) w)
      (outside-keeps P kept y w point true (given_up link) (λ x. record { node = refl; submitted = refl; came = refl; accepted = refl; made = refl; named = refl }) k)
  changes-keep P kept again y (OpensOutside point link ∷ changes) w k =
      changes-keep P kept again y changes (after_change settings (OpensOutside point link) w)
      (outside-keeps P kept y w point (leads_out settings point link) (be_led link) (λ x. record { node = refl; submitted = refl; came = refl; accepted = refl; made = refl; named = refl }) k)
  changes-keep P kept again y (ComesOutside point link text ∷ changes) w k =
      changes-keep P kept again y changes (after_change settings (ComesOutside point link text) w)
      (put-keeps P kept y w point link (leads_out settings point link) text (read_frame text) k)

  -- at each node, whatever is done
  pub capped-after : (y : ℕ) (changes : List Change) (w : NetworkState) → IsCapped (w.node y) → IsCapped ((after_changes settings changes w).node y)
  capped-after = changes-keep (λ c x. IsCapped x) capped-kept (λ c x h. record { breaks = same-grown refl; messages = same-grown refl })

  -- in Held there is no management
  pub holds-users : (y : ℕ) (changes : List Change) → count_by is_management ((after_changes settings changes (first_network settings)).node y).node.queues.held ≡ 0
  holds-users y changes =
      none-managed (settings y) ((after_changes settings changes (first_network settings)).node y).node.parts.holds ((after_changes settings changes (first_network settings)).node y).node.queues.held
      (changes-keep (λ c x. EachWaits c x) waits-kept (λ c x h. refl) y changes (first_network settings) refl)

  pub begun-counted : (y : ℕ) (w : NetworkState) → HasCounted (w.node y).node.parts ((begun_anew w).node y)
  begun-counted y w = record { lost = omega arith; grown = same-grown refl; none_lost = λ u. refl; unbroken = λ u. refl }

module _ (settings : (point : ℕ) → Configuration) (t : ArePlaced settings) (near far : ℕ) (fn : IsNode settings near) (ff : IsNode settings far) (hop : IsHop settings near far) (before changes : List Change)
    (quiet_then : NothingIsLeft settings near far (after_changes settings before (first_network settings))) (others : AreOfOthers near far changes) where
  abbrev start : NetworkState
  start = after_changes settings before (first_network settings)

  abbrev now : NetworkState
  now = after_changes settings changes (begun_anew start)

  no-nodes : (point : ℕ) → nobody point ≡ true → IsNode settings point
  no-nodes point e = absurd cc

  two-nodes : (point : ℕ) → is_one_of near far point ≡ true → IsNode settings point
  two-nodes point e =
      ⊎_elim
      (λ (is : nat_eq point near ≡ true). subst (IsNode settings) (sym (eqb-true point near is)) fn)
      (λ (is : nat_eq point far ≡ true). subst (IsNode settings) (sym (eqb-true point far is)) ff)
      (either-true (nat_eq point near) (nat_eq point far) e)

  -- ---- as moves show it

  at-first : AreAt settings t (hop_points near far) (are-hop near far) quiet.first_network
  at-first x fx = record { lasts = lasts-first (hop_points near far) says_of; led = led settings t near far fn ff hop x fx }

  abbrev reached : Comes settings t (hop_points near far) (are-hop near far) nobody no-nodes (first_network settings) quiet.first_network start
  reached =
      (all-changes settings t (hop_points near far) (are-hop near far) nobody no-nodes (hop-outside settings near far fn ff) before (spares-nobody before) (first_network settings)).goes quiet.first_network at-first
      (first-shown settings t (hop_points near far) (are-hop near far))

  abbrev p : Network
  p = last_of quiet.first_network reached.networks

  at-p : AreAt settings t (hop_points near far) (are-hop near far) p
  at-p = at-after settings t (hop_points near far) (are-hop near far) quiet.first_network reached.networks reached.moves at-first

  apart : IsApart (hop_points near far) says_of (is_one_of near far) (for_one_of near far) p
  apart =
      apart-after (hop_points near far) says_of (is_one_of near far) (for_one_of near far) (stays-between near far) quiet.first_network reached.networks reached.moves
      (apart-first (hop_points near far) says_of (is_one_of near far) (for_one_of near far))

  at-begun : AreAt settings t (hop_points near far) (are-hop near far) (begun p)
  at-begun x fx = record { lasts = begun-lasts (hop_points near far) p (at-p x fx).lasts; led = (at-p x fx).led }

  abbrev since : ChangeGoes settings t (hop_points near far) (are-hop near far) (is_one_of near far) two-nodes (begun_anew start) now
  since = all-changes settings t (hop_points near far) (are-hop near far) (is_one_of near far) two-nodes (hop-outside settings near far fn ff) changes (others-spared near far changes others) (begun_anew start)

  abbrev goes_on : Comes settings t (hop_points near far) (are-hop near far) (is_one_of near far) two-nodes (begun_anew start) (begun p) now
  goes_on = since.goes (begun p) at-begun (begun-shown settings t start p reached.shown)

  -- ---- what the two count

  counts : (y : ℕ) → is_one_of near far y ≡ true → HasCounted (start.node y).node.parts (now.node y)
  counts y e = counted-after settings near far y (start.node y) changes e others (begun_anew start) (begun-counted settings near far y start)

  caps : (y : ℕ) → IsCapped (start.node y)
  caps y = capped-after settings near far y before (first_network settings) (record { breaks = same-grown refl; messages = same-grown refl })

  -- where no possible loss is counted, no break is, nor a message
  unbroken-so : (y : ℕ) → is_one_of near far y ≡ true → Stays (start.node y).node.parts.times_lost (now.node y).node.parts.times_lost → Stays (start.node y).node.parts.times_broken (now.node y).node.parts.times_broken
  unbroken-so y e h = record { countable = omega (arith, h.countable, (caps y).breaks.capped); same = (counts y e).unbroken (unraised _ _ h) }

  pub whole-so : HaveLostNothingSince near far start now → AreUnbrokenSince near far start now
  whole-so none = record { near_whole = unbroken-so near (near-in near far) none.near_none; far_whole = unbroken-so far (far-in near far) none.far_none }

  module _ (whole : AreUnbrokenSince near far start now) where
    two-whole : (other : ℕ) → is_one_of near far other ≡ true → IsUnraised (start.node other).node.parts.times_broken (now.node other).node.parts.times_broken
    two-whole other e =
        ⊎_elim
        (λ (is : nat_eq other near ≡ true).
        subst (λ (i : ℕ). IsUnraised (start.node i).node.parts.times_broken (now.node i).node.parts.times_broken) (sym (eqb-true other near is)) (unraised _ _ whole.near_whole))
        (λ (is : nat_eq other far ≡ true).
        subst (λ (i : ℕ). IsUnraised (start.node i).node.parts.times_broken (now.node i).node.parts.times_broken) (sym (eqb-true other far is)) (unraised _ _ whole.far_whole))
        (either-true (nat_eq other near) (nat_eq other far) e)

    within : EndsOnceWithin (hop_points near far) says_of (is_one_of near far) (for_one_of near far) (last_of (begun p) goes_on.networks) near
    within =
        groups-anew (hop_points near far) says_of (is_one_of near far) (for_one_of near far) (begun p) goes_on.networks near (stays-between near far)
        (none-left settings t near far fn ff start p reached.shown (at-p near fn).lasts apart quiet_then (λ x. holds-users settings near far x before)) goes_on.moves
        (λ other e. goes_on.broken other e (λ f. two-whole other e)) (near-in near far)

    comes : ComesOver settings near far now
    comes = comes-by settings t near far fn ff hop now (last_of (begun p) goes_on.networks) goes_on.shown within

    pub comes-since : ComesOverSince settings near far start now
    comes-since = record {
      once = comes.once;
      named = comes.named;
      counted = λ test. omega (arith, comes.named test, count_by-le-length (λ m. is_user m && to_point far test m) (now.node near).named, (counts near (near-in near far)).lost);
    }

  pub none-gone : HaveLostNothingSince near far start now → (test : Message → Bool) → gone_for settings near far now test ≡ 0
  none-gone none test =
      let c : ComesOverSince settings near far start now = comes-since (whole-so none) in
      omega (arith, c.counted test, (counts near (near-in near far)).none_lost (unraised _ _ none.near_none), none.near_none.countable, (caps near).messages.capped)

  pub each-comes : HaveLostNothingSince near far start now → (test : Message → Bool) → accepted_for settings near far now test ≡ came_over settings near far now test + waits_for settings near far now test
  each-comes none test = (comes-since (whole-so none)).once test ∙ last _ _ (none-gone none test)
    where
      last : (a b : ℕ) → b ≡ 0 → a + b ≡ a
      last a b e = omega (arith, e)

pub hops-anew : hops_begin_anew
hops-anew settings before changes near far t fn ff hop quiet_then others whole = comes-since settings t near far fn ff hop before changes quiet_then others whole

pub nothing-lost : nothing_is_lost_anew
nothing-lost settings before changes near far test t fn ff hop quiet_then others none = each-comes settings t near far fn ff hop before changes quiet_then others none test

-- ---- the first network

pub first-quiet : (c : Configuration) (link : ℕ) → link < length c.links → IsQuietEnd (first_node c) link
first-quiet c link l =
    let at : link_at (first_node c).node.parts link ≡ down_link = get_or-replicate (length c.links) link down_link down_link l in
    let idle : changeover_of (first_node c).node.parts link ≡ no_changeover = get_or-replicate (length c.links) link no_changeover no_changeover l in
    record {
      down = ap (λ (y : Link). is_down y.alignment) at;
      complete = ap (λ (s : Standing). s.incomplete) idle;
      unawaited = ap (λ (s : Standing). s.awaited) idle;
      alone = refl;
    }

pub begin-quietly : networks_begin_quietly
begin-quietly settings near far = record {
  near_quiet = record { links = λ link l e. first-quiet (settings near) link l; held = refl };
  far_quiet = record { links = λ link l e. first-quiet (settings far) link l; held = refl };
}
