-- Between two nodes that have only each other, each step does what it does in `pair_rules`.
use Rattle.exchange_rules.specs.State.{Reroutings}
use Rattle.pair_rules.proofs.Basics.{◌≡◌, ◌<◌, ◌≤◌, ◌+◌, count_by, drop, ℕ, Ok, Bool, true, false, not, ◌&&◌, suc, List, [], ◌∷◌, ◌++◌, length, map, Option, Some, None, refl, ap, sym, subst, ◌∙◌, nat_eq, arith, if◌then◌else◌, All, slice_get, option_to_list, eq-eqb, ◌||◌, IsDistinct, list_any, nat_tests, slice_index_or}
use Rattle.std.proofs.lemmas.Option.{slice_get-get_or, slice_get_past}
use Rattle.pair_rules.proofs.Definitions.{DestinationEntry, IsWell, IsDestination, LeadsOnlyTo, Message, dpc_of, is_management, Configuration, LinkEntry, FrameValue, read_frame, Node, WholeQueues, queue_at, whole, FrameCame, Submitted, entry_of, peer_of, link_with_code, wanted, Nothing, Open, Close, brought_in, new_message, users_of, frame_taken, frame_to_take, PairState, Streams, in_flight, may_open_at, first_pair, without_data, without_status, turned, AreJoined}
use Rattle.exchange_rules.specs.declared.wants.Wants.{Wants}
use Rattle.exchange_rules.specs.Exchange.{outcome_of, after}
use Rattle.exchange_rules.specs.First.{Abstract}
use Rattle.settings.specs.Sharing.{LeadsAlone, has_link_of, sets_to}
use Rattle.exchange_rules.proofs.FacingNodes.{code-means, destination-found, destinations-one, peer-sole, set-found, set-sole, sets-one}
use Rattle.pair_rules.specs.Sharing.{AreSharing}
use Rattle.pair_rules.specs.Pairs as pairs
use Rattle.pair_rules.specs.Promises as alone
use Rattle.pair_rules.specs.Promises.{BothWays, IsPunctual, LostNothing, of_flow, user}
use Rattle.link.specs.Queue.{Queue}
use Rattle.pair_moves.specs.Order.{join_to}
use Rattle.pair_moves.proofs.Joins.{join-alike}
use Rattle.pair_rules.proofs.UserLists.{each-drop}
use Rattle.neighbour_rules.specs.Promises.{AreBooked, EachOnce, InOrder, waiting, waiting_by, waiting_on}
use Rattle.pair_rules.specs.Pairs.{Doing, Step, Turn}
use Rattle.exchange_rules.specs.Laws.{carried_message}
use Rattle.exchange_rules.proofs.CarriedMessages.{new-carried}
use Rattle.exchange_rules.proofs.FacingNodes.{facing-turned}
use Rattle.pair_rules.proofs.Good.{Each, IsTelling}
use Rattle.pair_rules.proofs.CarriedTexts.{tells-none}
use Rattle.pair_rules.proofs.Flights.{IsFirst, first-frame, tells-back}
use Rattle.pair_rules.proofs.Opening.{listed, wants-open}
use Rattle.pair_rules.proofs.Standing.{end_with}
use Rattle.neighbour_rules.proofs.AllSteps.{stands-turned, steps-stand, turn-stands}
use Rattle.neighbour_rules.proofs.Bound.{IsBound}
use Rattle.neighbour_rules.proofs.Good as good
use Rattle.neighbour_rules.proofs.Good.{IsFlying}
use Rattle.neighbour_rules.proofs.Lone.{HasOnly, all-to, has-only, heard, its-point, not-own, submitted}
use Rattle.neighbour_rules.proofs.Promised.{each-in-order, each-once, first-stands}
use Rattle.neighbour_rules.proofs.Sharing.{AreOwn, facing-own, AreFacing, are-facing, facing_back, from_first}
use Rattle.neighbour_rules.proofs.Standing.{Stands}
use Rattle.neighbour_rules.proofs.Steps.{flies-back}
use Rattle.pair_rules.proofs.Steps.{taken-there}
use Rattle.neighbour_rules.specs.Neighbours.{after_steps, did_between, deliver_frame, end_there, far_end, far_may_open, opens_first, take_frame, takes_in, turn, users_to}
use Rattle.neighbour_rules.proofs.Staying.{books-stay, with_settings, written}
use Rattle.neighbour_rules.specs.Alone.{lifted, alone_is_special}

-- ---- the messages of a frame that are for a point

one-to : (point : ℕ) (m : Message) (b : Bool) → (b ≡ false → dpc_of m ≡ point) → (if not b && nat_eq (dpc_of m) point then m ∷ [] else []) ≡ (if not b then m ∷ [] else [])
one-to point m true e = refl
one-to point m false e = ap (λ (b : Bool). if b then m ∷ [] else []) (eq-eqb (dpc_of m) point (e refl))

new-to : (point : ℕ) (o : Option Message) → ((m : Message) → o ≡ Some m → is_management m ≡ false → dpc_of m ≡ point) → users_to point (option_to_list o) ≡ users_of (option_to_list o)
new-to point None h = refl
new-to point (Some m) h = one-to point m (is_management m) (h m refl)

-- ---- the far end of a link is the link of the same number

module _ (c z : Configuration) (g : AreJoined c z) where
  abbrev none : LinkEntry
  none = record { name = []; set = 0; slc = 0; share = None }

  pub same-end : (link : ℕ) → link < length c.links → end_there c z (slice_get c.links link) ≡ Some link
  same-end link l =
      ap (end_there c z) (slice_get-get_or c.links link none l)
      ∙ ap (λ (b : Bool). if b then link_with_code z c.own (entry_of c link).slc else None)
      (eq-eqb (peer_of c link) z.own (peer-sole c z.own g.facing.near_leads g.near_well link))
      ∙ code-means c z g.facing g.far_well link l

  past-end : (link : ℕ) → length c.links ≤ link → end_there c z (slice_get c.links link) ≡ None
  past-end link l = ap (end_there c z) (slice_get_past c.links link l)

-- ---- settings that face each other share a set

abbrev none_known : DestinationEntry
none_known = record { point = 0; sets = []; joined = false }

-- sets of one kind, at least one, none of them twice
only-set : (sets : List ℕ) → 1 ≤ length sets → All (λ set. set < 1) sets → IsDistinct nat_eq sets → sets ≡ 0 ∷ []
unfolding IsDistinct
only-set [] l within differ = absurd (omega (arith, l))
only-set (set ∷ []) l within differ = ap (λ (s : ℕ). s ∷ []) (sole set (within 0 0 (omega arith)))
  where
    sole : (k : ℕ) → k < 1 → k ≡ 0
    sole k h = omega (arith, h)
only-set (set ∷ other ∷ sets) l within differ =
    let one : set < 1 = within 0 0 (omega arith) in
    let two : other < 1 = within 1 0 (omega arith) in
    let apart : nat_eq set other ≡ false = differ.0.0 in
    absurd (grind (arith, nat_tests, one, two, apart))

module _ (c : Configuration) (point : ℕ) (leads : LeadsOnlyTo c point) (well : IsWell c) where
  its-sets : (slice_index_or c.destinations 0 none_known).sets ≡ 0 ∷ []
  its-sets =
      let known : IsDestination c.own (length c.sets) (slice_index_or c.destinations 0 none_known) = well.destinations 0 none_known (omega (arith, destinations-one c point leads)) in
      only-set (slice_index_or c.destinations 0 none_known).sets known.some (λ k d l. omega (arith, known.within k d l, sets-one c point leads)) known.differ

  leads-alone : LeadsAlone c point 0
  leads-alone = record { adjacent = set-found c point leads well; only = ap (sets_to c) (destination-found c point leads well) ∙ its-sets }

-- whether a link has a code is told by the list of codes, where all links are of set 0
any-code : (slc : ℕ) (links : List LinkEntry) → ((k : ℕ) → (slice_index_or links k (record { name = []; set = 0; slc = 0; share = None })).set ≡ 0)
    → has_link_of 0 slc links ≡ list_any (λ (code : ℕ). nat_eq code slc) (map (λ (l : LinkEntry). l.slc) links)
any-code slc [] h = refl
any-code slc (l ∷ links) h =
    ap (λ (b : Bool). (b && nat_eq l.slc slc) || has_link_of 0 slc links) (eq-eqb l.set 0 (h 0))
    ∙ ap (λ (b : Bool). nat_eq l.slc slc || b) (any-code slc links (λ k. h (suc k)))

pub sharing : (near far : Configuration) → AreJoined near far → AreSharing near far
sharing near far g = record {
  near_well = g.near_well;
  far_well = g.far_well;
  shares = record {
    near_set = 0;
    far_set = 0;
    near_leads = leads-alone near far.own g.facing.near_leads g.near_well;
    far_leads = leads-alone far near.own g.facing.far_leads g.far_well;
    network = g.facing.network;
    codes = λ slc.
        any-code slc near.links (set-sole near far.own g.facing.near_leads g.near_well)
        ∙ ap (λ (codes : List ℕ). list_any (λ (code : ℕ). nat_eq code slc) codes) g.facing.codes
        ∙ sym (any-code slc far.links (set-sole far near.own g.facing.far_leads g.far_well));
  };
}

abbrev pub facing : (near far : Configuration) → AreJoined near far → AreFacing near far
facing near far g = from_first near far (are-facing near far (sharing near far g))

-- their messages are for each other
pub sharing-own : (near far : Configuration) (g : AreJoined near far) → AreOwn near far (facing near far g)
sharing-own near far g = (let own : AreOwn near far (are-facing near far (sharing near far g)) = facing-own near far (sharing near far g) in record { there = own.there; back = own.back })

-- ---- what is done at the near end

module _ (c z : Configuration) (g : AreJoined c z) (n m : Node WholeQueues) (nb fb : Reroutings) (ni fi : Streams) (nv fv : List Bool) (na nr fa fr : List Message) where
  abbrev p : PairState
  p = record { near = end_with c n nb ni nv na nr; far = end_with z m fb fi fv fa fr }

  module _ (f : AreFacing c z) (s : Stands c z f p) where
    abbrev a : Abstract
    a = p.near.exchange

    -- both nodes have one destination
    only : HasOnly c z.own
    only = has-only c z.own g.facing.near_leads

    far-only : HasOnly z c.own
    far-only = has-only z c.own g.facing.far_leads

    submit-same : (message : Message) → takes_in (Submitted message) p ≡ pairs.submit message p
    submit-same message =
        ap (λ (ms : List Message). record {
          outcome = outcome_of whole (Submitted message) a;
          left = record p { near = record p.near { exchange = after whole (Submitted message) a; accepted = na ++ ms } };
        }) (all-to z.own (brought_in (Submitted message) a) (submitted c z.own only n message))

    -- a frame that came, with what it brings
    abbrev came : (link : ℕ) (text : List ℕ) (left : Streams) → (accepted received : List Message) → Turn
    came link text left accepted received = record {
      outcome = outcome_of whole (FrameCame link text) a;
      left = record p {
        near = record p.near {
          exchange = after whole (FrameCame link text) a;
          incoming = left;
          accepted = na ++ accepted;
          received = nr ++ received;
        };
      };
    }

    came-same : (link : ℕ) (text : List ℕ) (left : Streams) → ((message : Message) → new_message link text a ≡ Some message → IsBound z message)
        → deliver_frame (Some text) link left p ≡ pairs.deliver_frame (Some text) link left p
    came-same link text left bound =
        ap (λ (ms : List Message). came link text left ms (users_to c.own (option_to_list (new_message link text a))))
        (all-to z.own (brought_in (FrameCame link text) a) (heard c z.own only n link text (λ message e. not-own z message (bound message e).onward)))
        ∙ ap (λ (ms : List Message). came link text left (brought_in (FrameCame link text) a) ms)
        (new-to c.own (new_message link text a) (λ message e. its-point z c.own far-only message (bound message e).known))

    -- the message that a frame newly carries is the one that it carries
    carried-bound : (link : ℕ) (text : List ℕ) (frame : FrameValue) → IsFlying z c f.base.back f.far_set frame → read_frame text ≡ Ok frame → (message : Message) → new_message link text a ≡ Some message
        → IsBound z message
    carried-bound link text frame flying reads message e = by frame flying (ap carried_message (sym reads) ∙ new-carried link text a message e)
      where
        by : (x : FrameValue) → IsFlying z c f.base.back f.far_set x → carried_message (Ok x) ≡ Some message → IsBound z message
        by _ (good.empty bsn fsn sayable) h = absurd cc
        by _ (good.carrying bsn fsn sio sif sayable sent bound) h = subst (IsBound z) (let same : record { sio = sio; sif = sif } ≡ message = cc in same) bound

    data-same : (link : ℕ) (left : Streams) → deliver_frame (slice_get (in_flight ni.user_data link) 0) link left p ≡ pairs.deliver_frame (slice_get (in_flight ni.user_data link) 0) link left p
    data-same link left = by (slice_get (in_flight ni.user_data link) 0) refl
      where
        by : (o : Option (List ℕ)) → slice_get (in_flight ni.user_data link) 0 ≡ o → deliver_frame o link left p ≡ pairs.deliver_frame o link left p
        by None e = refl
        by (Some text) e =
            let frames : List FrameValue = s.to_near.user_data link in
            let first : IsFirst frames (in_flight ni.user_data link) text = first-frame frames (in_flight ni.user_data link) text (s.near_texts.user_data.each link) e in
            let flying : IsFlying z c f.base.back f.far_set first.frame = (subst (Each (IsFlying z c f.base.back f.far_set)) first.first (s.near_good.coming.user_data link)).0 in
            came-same link text left
            (carried-bound link text first.frame flying (ap read_frame first.spells ∙ flies-back z c f.base.back f.far_set first.frame flying))

    status-same : (link : ℕ) (left : Streams) → deliver_frame (slice_get (in_flight ni.statuses link) 0) link left p ≡ pairs.deliver_frame (slice_get (in_flight ni.statuses link) 0) link left p
    status-same link left = by (slice_get (in_flight ni.statuses link) 0) refl
      where
        by : (o : Option (List ℕ)) → slice_get (in_flight ni.statuses link) 0 ≡ o → deliver_frame o link left p ≡ pairs.deliver_frame o link left p
        by None e = refl
        by (Some text) e =
            let frames : List FrameValue = s.to_near.statuses link in
            let first : IsFirst frames (in_flight ni.statuses link) text = first-frame frames (in_flight ni.statuses link) text (s.near_texts.statuses.each link) e in
            let telling : IsTelling first.frame = (subst (Each IsTelling) first.first (s.near_good.coming.statuses link)).0 in
            came-same link text left
            (λ message h.
            (let no : None ≡ Some message =
            sym (tells-none first.frame telling) ∙ ap carried_message (sym (ap read_frame first.spells ∙ tells-back first.frame telling)) ∙ new-carried link text a message h in
            absurd cc))

    take-same : (link : ℕ) → take_frame (frame_to_take whole a link) link (far_end p link) p ≡ pairs.take_frame (frame_to_take whole a link) link p
    take-same link = by (frame_taken whole c link n) refl
      where
        by : (o : Option FrameValue) → frame_taken whole c link n ≡ o → take_frame o link (far_end p link) p ≡ pairs.take_frame o link p
        by None e = refl
        by (Some frame) e =
            let l : link < length c.links = subst (λ (k : ℕ). link < k) s.near_good.fits.places.parts.links (taken-there c link n frame e) in
            ap (λ (other : Option ℕ). take_frame (Some frame) link other p) (same-end c z g link l)

    -- a link that isn't there doesn't want to open
    first-by : (wish : Wants) (link : ℕ) → wanted n.parts link ≡ wish → opens_first wish (far_end p link) (far_may_open p (far_end p link)) link p ≡ pairs.opens_first wish (may_open_at p.far link) link p
    first-by Open link e =
        let l : link < length c.links = listed c z n link (wants-open n.parts link e) s.near_good.fits in
        ap (λ (other : Option ℕ). opens_first Open other (far_may_open p other) link p) (same-end c z g link l) ∙ by (may_open_at p.far link)
      where
        by : (b : Bool) → opens_first Open (Some link) b link p ≡ pairs.opens_first Open b link p
        by true = refl
        by false = refl
    first-by Nothing link e = refl
    first-by Close link e = refl

    did-same : (what : Doing) → did_between what p ≡ pairs.did what p
    did-same (pairs.Submits message) = submit-same message
    did-same (pairs.Takes link) = take-same link
    did-same (pairs.Delivers link) = data-same link (without_data link ni)
    did-same (pairs.DeliversStatus link) = status-same link (without_status link ni)
    did-same (pairs.LosesStatus link) = refl
    did-same (pairs.DoublesStatus link) = refl
    did-same (pairs.Loses link) = refl
    did-same pairs.Ticks = refl
    did-same (pairs.Activates link emergency) = refl
    did-same (pairs.Deactivates link) = refl
    did-same (pairs.Releases link) = refl
    did-same (pairs.AddsTitle row is_memory_refused) = refl
    did-same (pairs.SetsTitle row is_memory_refused) = refl
    did-same (pairs.RemovesTitle key digits) = refl
    did-same (pairs.OpensFirst link) = first-by (wanted n.parts link) link refl
    did-same (pairs.OpensSecond link) = refl

    -- ---- all user messages that wait are for the far point

    users-alike : (ms : List Message) → Each (IsBound c) ms → users_to z.own ms ≡ users_of ms
    users-alike [] h = refl
    users-alike (m ∷ ms) h = by (is_management m) refl (users-alike ms h.1)
      where
        by : (b : Bool) → is_management m ≡ b → users_to z.own ms ≡ users_of ms
            → (if not b && nat_eq (dpc_of m) z.own then m ∷ users_to z.own ms else users_to z.own ms) ≡ (if not b then m ∷ users_of ms else users_of ms)
        by true e rest = rest
        by false e rest =
            ap (λ (b : Bool). if b then m ∷ users_to z.own ms else users_to z.own ms) (eq-eqb (dpc_of m) z.own (its-point c z.own only m h.0.known e))
            ∙ ap (λ (xs : List Message). m ∷ xs) rest

    waiting-same : waiting p ≡ alone.waiting p
    waiting-same =
        ap (λ (ms : List Message). ms ++ users_to z.own n.queues.held)
        (join-alike (alone.waiting_on p) (waiting_on p) (length c.links) (λ link l.
        let q : Queue = queue_at n.queues link in
        ap (waiting_by p link) (same-end c z g link l)
        ∙ users-alike (drop (alone.accepted_there p link) q.all) (each-drop (IsBound c) (alone.accepted_there p link) q.all (s.near_knows.bound.queued link))))
        ∙ ap (λ (ms : List Message). join_to (alone.waiting_on p) (length c.links) ++ ms) (users-alike n.queues.held s.near_knows.bound.held)

-- ---- any step, and lists of them

near-same : (c z : Configuration) (g : AreJoined c z) (f : AreFacing c z) (what : Doing) (p : PairState) → Stands c z f p → did_between what p ≡ pairs.did what p
near-same c z g f what p s =
    let e : p ≡ with_settings c z p = written c z p s.near_settings s.far_settings in
    subst (λ (q : PairState). did_between what q ≡ pairs.did what q) (sym e)
    (did-same c z g p.near.exchange.node p.far.exchange.node p.near.exchange.reroutings p.far.exchange.reroutings p.near.incoming p.far.incoming p.near.following p.far.following p.near.accepted p.near.received p.far.accepted p.far.received f (subst (Stands c z f) e s) what)

-- settings that face each other, seen from the far node
pub joined-back : (c z : Configuration) → AreJoined c z → AreJoined z c
joined-back c z g = record { near_well = g.far_well; far_well = g.near_well; facing = facing-turned c z g.facing }

turn-same : (c z : Configuration) (g : AreJoined c z) (step : Step) (p : PairState) → Stands c z (facing c z g) p → turn (lifted step) p ≡ pairs.turn step p
turn-same c z g (pairs.AtNear what) p s = near-same c z g (facing c z g) what p s
turn-same c z g (pairs.AtFar what) p s =
    ap (λ (t : Turn). record { outcome = t.outcome; left = turned t.left })
    (near-same z c (joined-back c z g) (facing_back c z (facing c z g)) what (turned p) (stands-turned c z (facing c z g) p s))

steps-same : (c z : Configuration) (g : AreJoined c z) (steps : List Step) (p : PairState) → Stands c z (facing c z g) p → after_steps (map lifted steps) p ≡ pairs.after_steps steps p
steps-same c z g [] p s = refl
steps-same c z g (step ∷ steps) p s =
    steps-same c z g steps (turn (lifted step) p).left (turn-stands c z (facing c z g) (sharing-own c z g) (lifted step) p s)
    ∙ ap (λ (t : Turn). pairs.after_steps steps t.left) (turn-same c z g step p s)

-- what waits is the same
near-waits : (c z : Configuration) (g : AreJoined c z) (f : AreFacing c z) (p : PairState) → Stands c z f p → waiting p ≡ alone.waiting p
near-waits c z g f p s =
    let e : p ≡ with_settings c z p = written c z p s.near_settings s.far_settings in
    subst (λ (q : PairState). waiting q ≡ alone.waiting q) (sym e)
    (waiting-same c z g p.near.exchange.node p.far.exchange.node p.near.exchange.reroutings p.far.exchange.reroutings p.near.incoming p.far.incoming p.near.following p.far.following p.near.accepted p.near.received p.far.accepted p.far.received f (subst (Stands c z f) e s))

as-once : (p : PairState) → waiting p ≡ alone.waiting p → EachOnce p → alone.EachOnce p
as-once p e h = λ test. h test ∙ ap (λ (ms : List Message). count_by (user test) p.far.received + count_by (user test) ms) e

as-order : (p : PairState) → waiting p ≡ alone.waiting p → (IsPunctual p → InOrder p) → IsPunctual p → alone.InOrder p
as-order p e h punctual = λ flow. h punctual flow ∙ ap (λ (ms : List Message). of_flow flow p.far.received ++ of_flow flow ms) e

-- so the general machine shows what comes of steps between the two
pub stands-alone : (near far : Configuration) (g : AreJoined near far) (steps : List Step) → Stands near far (facing near far g) (pairs.after_steps steps (first_pair near far))
stands-alone near far g steps =
    let first : PairState = first_pair near far in
    let f : AreFacing near far = facing near far g in
    subst (Stands near far f) (steps-same near far g steps first (first-stands near far f)) (steps-stand near far f (sharing-own near far g) (map lifted steps) first (first-stands near far f))

pub is-special : alone_is_special
is-special near far steps g =
    let first : PairState = first_pair near far in
    let f : AreFacing near far = facing near far g in
    let alike : after_steps (map lifted steps) first ≡ pairs.after_steps steps first = steps-same near far g steps first (first-stands near far f) in
    let q : PairState = pairs.after_steps steps first in
    let s : Stands near far f q = stands-alone near far g steps in
    let there : waiting q ≡ alone.waiting q = near-waits near far g f q s in
    let back : waiting (turned q) ≡ alone.waiting (turned q) = near-waits far near (joined-back near far g) (facing_back near far f) (turned q) (stands-turned near far f q s) in
    let once : LostNothing q → BothWays EachOnce q = subst (λ (x : PairState). LostNothing x → BothWays EachOnce x) alike (each-once near far (map lifted steps) (sharing near far g)) in
    let order : LostNothing q → BothWays (λ x. IsPunctual x → InOrder x) q =
    subst (λ (x : PairState). LostNothing x → BothWays (λ y. IsPunctual y → InOrder y) x) alike (each-in-order near far (map lifted steps) (sharing near far g)) in
    let books : BothWays AreBooked q = subst (BothWays AreBooked) alike (books-stay near far (map lifted steps) (sharing near far g)) in
    record {
      sharing = sharing near far g;
      steps_alike = alike;
      turns_alike = λ step. turn-same near far g step q s;
      accepted = record { there = books.there.accepted; back = books.back.accepted };
      once = λ lost. record { there = as-once q there (once lost).there; back = as-once (turned q) back (once lost).back };
      in_order = λ lost. record { there = as-order q there (order lost).there; back = as-order (turned q) back (order lost).back };
    }
