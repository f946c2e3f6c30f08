-- Each step of a pair, at either end, goes by moves; and so does each list of them.
use Rattle.exchange_rules.specs.State.{Reroutings}
use Rattle.exchange_rules.specs.Routing.{facts}
use Rattle.exchange_rules.specs.Reroutings.{counted, first_reroutings}
use Rattle.pair_rules.proofs.Basics.{inl, ◌≡◌, ◌≢◌, ◌<◌, ℕ, Bool, true, false, List, [], ◌∷◌, length, Option, Some, None, append-nil, refl, ap, sym, subst, ◌∙◌, slice_get, slice_index_or, slice_set, get_or-set_other, get_or-set_same, length-set, ⊎_elim, cases_eq}
use Rattle.pair_rules.proofs.Definitions.{Message, in_flight, new_message, Handled, Configuration, FrameValue, Nothing, Open, Close, Node, Done, answer, CameUp, FrameCame, WholeQueues, whole, open_link, wanted, apply, settled, done-waits, Reading, PairState, Streams, may_follow, may_open_at, turned}
use Rattle.exchange_rules.specs.declared.wants.Wants.{Wants}
use Rattle.exchange_rules.specs.Exchange.{tick}
use Rattle.pair_moves.specs.Ends as ends
use Rattle.pair_rules.specs.Pairs as pairs
use Rattle.pair_rules.specs.Pairs.{Turn, emptied}
use Rattle.pair_rules.proofs.World.{Flying, World, turned_world}
use Rattle.pair_rules.proofs.Good.{Each, IsTelling}
use Rattle.pair_rules.proofs.Going.{Goes, goes-both}
use Rattle.pair_rules.proofs.Turned.{goes-turned}
use Rattle.pair_rules.proofs.Opening.{MayComeUp, came-up, may_open-at, opened_near, wants-open}
use Rattle.pair_rules.proofs.Standing.{AreStreams, Waits, end_with, rests, world_of}
use Rattle.pair_rules.proofs.Flights.{changed_at, changed-here, changed-other, texts-changed}
use Rattle.neighbour_rules.specs.Neighbours.{Doing, Does, OpensElsewhere, HearsElsewhere, Step, AtNear, AtFar, after_steps, after_steps_for, did_between_for, did_for, end_there, far_may_open, leads_elsewhere, opens_first, speaks_for_either, takes_elsewhere_for, takes_in_for, turn, turn_for}
use Rattle.neighbour_rules.proofs.Untold.{IsUntoldBy}
use Rattle.neighbour_rules.proofs.Counted.{turned_base}
use Rattle.neighbour_rules.proofs.World.{reading, reads-alike, shown}
use Rattle.neighbour_rules.proofs.Good.{AreFlying, Good, IsFlying, Joint, Passes, at, passes-both}
use Rattle.neighbour_rules.proofs.Adjacents.{KnowsPoints, event-knows}
use Rattle.neighbour_rules.proofs.Events.{event-passes, settled-passes}
use Rattle.neighbour_rules.proofs.Expiries.{release_bar-passes}
use Rattle.neighbour_rules.proofs.Sharing.{AreFacing, AreOwn, facing_back, far_joint, near_joint}
use Rattle.neighbour_rules.proofs.FarEnds.{IsLine, LeadsAway, is-line, its-far, leads-away}
use Rattle.neighbour_rules.proofs.FarEnds as far_ends
use Rattle.neighbour_rules.proofs.LateOrders.{late_by-passes}
use Rattle.neighbour_rules.proofs.Opening.{away-up, first-goes, opened-good, second-goes}
use Rattle.neighbour_rules.proofs.Arriving.{away-comes, speaks_for}
use Rattle.neighbour_rules.proofs.Statuses.{activate-passes, add_title-passes, set_title-passes, association_down-passes, deactivate-passes, remove_title-passes, tick-passes}
use Rattle.neighbour_rules.proofs.Standing.{IsAway, IsQuiet, Stands, happens-stands, left, near-stands, regood}
use Rattle.neighbour_rules.proofs.Steps.{deliver-stands, deliver_status-stands, double_status-stands, lose_status-stands, submit-stands, take-stands}

-- ---- what the far end tells of no route to the point

-- of what is done at the near end: no message that a frame from the far one newly carries does so
abbrev pub IsUntoldDoing : (c z : Configuration) (a : AreFacing c z) → Doing → PairState → Type 0
IsUntoldDoing c z a (Does (pairs.Delivers link)) p =
    (text : List ℕ) → slice_get (in_flight p.near.incoming.user_data link) 0 ≡ Some text → (m : Message) → new_message link text p.near.exchange ≡ Some m → IsUntoldBy c z (near_joint c z a) m
IsUntoldDoing c z a (Does (pairs.Submits message)) p = Unit {0}
IsUntoldDoing c z a (Does (pairs.Takes link)) p = Unit {0}
IsUntoldDoing c z a (Does (pairs.DeliversStatus link)) p = Unit {0}
IsUntoldDoing c z a (Does (pairs.LosesStatus link)) p = Unit {0}
IsUntoldDoing c z a (Does (pairs.DoublesStatus link)) p = Unit {0}
IsUntoldDoing c z a (Does (pairs.Loses link)) p = Unit {0}
IsUntoldDoing c z a (Does pairs.Ticks) p = Unit {0}
IsUntoldDoing c z a (Does (pairs.Activates link emergency)) p = Unit {0}
IsUntoldDoing c z a (Does (pairs.Deactivates link)) p = Unit {0}
IsUntoldDoing c z a (Does (pairs.Releases link)) p = Unit {0}
IsUntoldDoing c z a (Does (pairs.AddsTitle row is_memory_refused)) p = Unit {0}
IsUntoldDoing c z a (Does (pairs.SetsTitle row is_memory_refused)) p = Unit {0}
IsUntoldDoing c z a (Does (pairs.RemovesTitle key digits)) p = Unit {0}
IsUntoldDoing c z a (Does (pairs.OpensFirst link)) p = Unit {0}
IsUntoldDoing c z a (Does (pairs.OpensSecond link)) p = Unit {0}
IsUntoldDoing c z a (OpensElsewhere link) p = Unit {0}
IsUntoldDoing c z a (HearsElsewhere link text) p = Unit {0}

abbrev pub IsUntoldStep : (c z : Configuration) (a : AreFacing c z) → Step → PairState → Type 0
IsUntoldStep c z a (AtNear what) p = IsUntoldDoing c z a what p
IsUntoldStep c z a (AtFar what) p = IsUntoldDoing z c (facing_back c z a) what (turned p)

abbrev pub AreUntold : (c z : Configuration) (a : AreFacing c z) → List Step → PairState → Type 0
AreUntold c z a [] p = Unit {0}
AreUntold c z a (step ∷ steps) p = IsUntoldStep c z a step p × AreUntold c z a steps (turn_for a.base.there a.base.back step p).left

module _ (c z : Configuration) (a : AreFacing c z) where
  abbrev j : Joint c z
  j = near_joint c z a

  -- the pair as the far end sees it
  pub stands-turned : (p : PairState) → Stands c z a p → Stands z c (facing_back c z a) (turned p)
  stands-turned p s = record {
    near_settings = s.far_settings;
    far_settings = s.near_settings;
    near_waits = s.far_waits;
    far_waits = s.near_waits;
    near_knows = s.far_knows;
    far_knows = s.near_knows;
    to_near = s.to_far;
    to_far = s.to_near;
    near_texts = s.far_texts;
    far_texts = s.near_texts;
    near_flags = s.far_flags;
    far_flags = s.near_flags;
    near_quiet = s.far_quiet;
    far_quiet = s.near_quiet;
    near_alone = s.far_alone;
    far_alone = s.near_alone;
    near_good = s.far_good;
    far_good = s.near_good;
    goes =
        (let w : World = world_of p s.to_near s.to_far in
        subst (λ (read : Reading). Goes read (ends.turned a.start) (shown z c a.far_set a.near_set (turned_base a.base) (turned_world w))) (reads-alike c.own z.own a.base)
        (goes-turned (reading c.own z.own a.base) a.start (shown c z a.near_set a.far_set a.base w) s.goes));
  }

  -- ---- a link opens at the near end

  opened-node : (d : Configuration) (n : Node WholeQueues) (link : ℕ) → MayComeUp n.parts link → (apply whole d (CameUp link) n).left ≡ (settled whole d (answer Handled (open_link whole d link n))).left
  unfolding apply
  opened-node d n link m = ap (λ (x : Done WholeQueues). (settled whole d x).left) (came-up d n link m)

  abbrev far_of : (link : ℕ) → Option ℕ
  far_of link = end_there c z (slice_get c.links link)

  module _ (n m : Node WholeQueues) (nb fb : Reroutings) (ni fi : Streams) (nv fv : List Bool) (na nr fa fr : List Message) where
    abbrev p : PairState
    p = record { near = end_with c n nb ni nv na nr; far = end_with z m fb fi fv fa fr }

    -- nothing is in flight to an end on the link then
    abbrev without : ℕ → Flying → Flying
    without link f = record { statuses = changed_at link [] f.statuses; user_data = changed_at link [] f.user_data }

    none-left : (P : FrameValue → Type 0) (link : ℕ) (f : ℕ → List FrameValue) → ((other : ℕ) → Each P (f other)) → (other : ℕ) → Each P (changed_at link [] f other)
    none-left P link f each other =
        ⊎_elim
        (λ (same : other ≡ link).
        subst (λ (i : ℕ). Each P (changed_at link [] f i)) (sym same) (subst (Each P) (sym (changed-here link [] f)) tt))
        (λ (d : other ≢ link). subst (Each P) (sym (changed-other link [] f other d)) (each other))
        (cases_eq other link)

    -- a list that was empty is
    still-none : (link : ℕ) (f : ℕ → List FrameValue) (other : ℕ) → f other ≡ [] → changed_at link [] f other ≡ []
    still-none link f other e =
        ⊎_elim (λ (same : other ≡ link). subst (λ (i : ℕ). changed_at link [] f i ≡ []) (sym same) (changed-here link [] f))
        (λ (d : other ≢ link). changed-other link [] f other d ∙ e)
        (cases_eq other link)

    still-quiet : (link : ℕ) (f : Flying) (other : ℕ) → IsQuiet f other → IsQuiet (without link f) other
    still-quiet link f other q = record { user_data = still-none link f.user_data other q.user_data; statuses = still-none link f.statuses other q.statuses }

    still : (x y : Configuration) (there its link : ℕ) (f : Flying) → AreFlying x y there its f → AreFlying x y there its (without link f)
    still x y there its link f s = record { statuses = none-left IsTelling link f.statuses s.statuses; user_data = none-left (IsFlying x y there its) link f.user_data s.user_data }

    empty-texts : (d : Configuration) (t : Streams) (f : Flying) (link : ℕ) → AreStreams d t f → link < length d.links → AreStreams d (emptied link t) (without link f)
    empty-texts d t f link s l = record {
      statuses = texts-changed d t.statuses f.statuses link [] [] s.statuses l refl;
      user_data = texts-changed d t.user_data f.user_data link [] [] s.user_data l refl;
    }

    abbrev near_left : ℕ → Node WholeQueues
    near_left link = (settled whole c (answer Handled (open_link whole c link n))).left

    none-away : (link other i : ℕ) → far_of link ≡ Some other → IsAway c z i → i ≢ link
    none-away link other i e away same = (let no : None ≡ Some other = sym away ∙ ap far_of same ∙ e in absurd cc)

    module _ (link other : ℕ) (line : IsLine c z j link other) where
      back : end_there z c (slice_get z.links other) ≡ Some link
      back = its-far z c (far_joint c z a) other link (far_ends.ends-turned c z a.near_set a.far_set link other line)

      here : far_of link ≡ Some other
      here = its-far c z j link other line

      none-away-there : (i : ℕ) → IsAway z c i → i ≢ other
      none-away-there i away same = (let no : None ≡ Some link = sym away ∙ ap (λ (x : ℕ). end_there z c (slice_get z.links x)) same ∙ back in absurd cc)

      -- it is the first of the two
      abbrev first_left : Node WholeQueues → PairState
      first_left x = record { near = end_with c x (counted c (facts c x.parts) nb) (emptied link ni) (slice_set nv link false) na nr; far = end_with z m fb (emptied other fi) (slice_set fv other true) fa fr }

      first-at : MayComeUp n.parts link → may_open_at p.far other ≡ true → Stands c z a p → Stands c z a (first_left (near_left link))
      first-at near far s =
          let w : World = world_of p s.to_near s.to_far in
          let g : Flying = without link s.to_near in
          let f : Flying = without other s.to_far in
          let v : ℕ → Bool = λ i. slice_index_or (slice_set nv link false) i false in
          let u : ℕ → Bool = λ i. slice_index_or (slice_set fv other true) i false in
          let one : World = opened_near c w link v u g f in
          let first : Goes (reading c.own z.own a.base) (shown c z a.near_set a.far_set a.base w) (shown c z a.near_set a.far_set a.base one) =
          first-goes c z j w link near v u g f other line (record {
            near_here = changed-here link [] s.to_near.user_data;
            far_here = changed-here other [] s.to_far.user_data;
            near_told = changed-here link [] s.to_near.statuses;
            far_told = changed-here other [] s.to_far.statuses;
            near_follows = get_or-set_same nv link false false (subst (λ (i : ℕ). link < i) (sym s.near_flags) line.here);
            far_follows = get_or-set_same fv other true false (subst (λ (i : ℕ). other < i) (sym s.far_flags) line.there);
          }) (record {
            to_near = changed-other link [] s.to_near.user_data;
            to_far = changed-other other [] s.to_far.user_data;
            told_near = changed-other link [] s.to_near.statuses;
            told_far = changed-other other [] s.to_far.statuses;
            near_follows = λ i d. get_or-set_other nv link i false false d;
            far_follows = λ i d. get_or-set_other fv other i true false d;
          }) (may_open-at m other far) s.near_good in
          let near_one : Good c z j one = opened-good c z j w link near v u g f (still z c a.base.back a.far_set link s.to_near s.near_good.coming) s.near_good in
          let x : Passes c z j one (at c z j one (near_left link) [] []) = settled-passes c z j one (answer Handled (open_link whole c link n)) in
          let two : World = at c z j one (near_left link) [] [] in
          let far_two : Good z c (far_joint c z a) (turned_world two) = record {
            fits = s.far_good.fits;
            route = s.far_good.route;
            settled = s.far_good.settled;
            silent = s.far_good.silent;
            queued = s.far_good.queued;
            elsewhere = s.far_good.elsewhere;
            held = s.far_good.held;
            loose = s.far_good.loose;
            arrived = s.far_good.arrived;
            coming = still c z a.base.there a.near_set other s.to_far s.far_good.coming;
            counted = s.far_good.counted;
          } in
          record {
            near_settings = refl;
            far_settings = refl;
            near_waits = subst (Waits c) (opened-node c n link near) (done-waits (CameUp link) (record { settings = c; node = n; reroutings = first_reroutings c }));
            far_waits = s.far_waits;
            near_knows = subst (KnowsPoints c) (opened-node c n link near) (event-knows c (CameUp link) n s.near_knows);
            far_knows = s.far_knows;
            to_near = g;
            to_far = f;
            near_texts = empty-texts c ni s.to_near link s.near_texts line.here;
            far_texts = empty-texts z fi s.to_far other s.far_texts line.there;
            near_flags = length-set nv link false ∙ s.near_flags;
            far_flags = length-set fv other true ∙ s.far_flags;
            near_quiet = λ i away. still-quiet link s.to_near i (s.near_quiet i away);
            far_quiet = λ i away. still-quiet other s.to_far i (s.far_quiet i away);
            near_alone = λ i away. get_or-set_other nv link i false false (none-away link other i here away) ∙ s.near_alone i away;
            far_alone = λ i away. get_or-set_other fv other i true false (none-away-there i away) ∙ s.far_alone i away;
            near_good = x.good near_one;
            far_good = far_two;
            goes = goes-both (reading c.own z.own a.base) _ _ _ s.goes (goes-both (reading c.own z.own a.base) _ _ _ first (x.goes near_one));
          }

      -- it follows the other
      abbrev second_left : Node WholeQueues → PairState
      second_left x = record { near = end_with c x (counted c (facts c x.parts) nb) ni (slice_set nv link false) na nr; far = end_with z m fb fi fv fa fr }

      second-at : MayComeUp n.parts link → may_follow p.near link ≡ true → Stands c z a p → Stands c z a (second_left (near_left link))
      second-at near follows s =
          let w : World = world_of p s.to_near s.to_far in
          let v : ℕ → Bool = λ i. slice_index_or (slice_set nv link false) i false in
          let u : ℕ → Bool = λ i. may_follow p.far i in
          let one : World = opened_near c w link v u s.to_near s.to_far in
          let second : Goes (reading c.own z.own a.base) (shown c z a.near_set a.far_set a.base w) (shown c z a.near_set a.far_set a.base one) =
          second-goes c z j w link near v u s.to_near s.to_far other line (record {
            followed = follows;
            near_here = refl;
            far_here = refl;
            near_told = refl;
            far_told = refl;
            near_follows = get_or-set_same nv link false false (subst (λ (i : ℕ). link < i) (sym s.near_flags) line.here);
            far_follows = refl;
          }) (record {
            to_near = λ i d. refl;
            to_far = λ i d. refl;
            told_near = λ i d. refl;
            told_far = λ i d. refl;
            near_follows = λ i d. get_or-set_other nv link i false false d;
            far_follows = λ i d. refl;
          }) s.near_good in
          let near_one : Good c z j one = opened-good c z j w link near v u s.to_near s.to_far s.near_good.coming s.near_good in
          let x : Passes c z j one (at c z j one (near_left link) [] []) = settled-passes c z j one (answer Handled (open_link whole c link n)) in
          record {
            near_settings = refl;
            far_settings = refl;
            near_waits = subst (Waits c) (opened-node c n link near) (done-waits (CameUp link) (record { settings = c; node = n; reroutings = first_reroutings c }));
            far_waits = s.far_waits;
            near_knows = subst (KnowsPoints c) (opened-node c n link near) (event-knows c (CameUp link) n s.near_knows);
            far_knows = s.far_knows;
            to_near = s.to_near;
            to_far = s.to_far;
            near_texts = s.near_texts;
            far_texts = s.far_texts;
            near_flags = length-set nv link false ∙ s.near_flags;
            far_flags = s.far_flags;
            near_quiet = s.near_quiet;
            far_quiet = s.far_quiet;
            near_alone = λ i away. get_or-set_other nv link i false false (none-away link other i here away) ∙ s.near_alone i away;
            far_alone = s.far_alone;
            near_good = x.good near_one;
            far_good = regood z c (far_joint c z a) (rests p.far) (rests p.near) _ s.to_far s.to_near s.to_near _ _ _ _ s.far_good;
            goes = goes-both (reading c.own z.own a.base) _ _ _ s.goes (goes-both (reading c.own z.own a.base) _ _ _ second (x.goes near_one));
          }

    first-by : (v : Wants) (o : Option ℕ) (b : Bool) (link : ℕ) → wanted n.parts link ≡ v → far_of link ≡ o → far_may_open p o ≡ b → Stands c z a p → Stands c z a (opens_first v o b link p).left
    first-by Open (Some other) true link e f h s =
        let near : MayComeUp n.parts link = wants-open n.parts link e in
        let line : IsLine c z j link other = is-line c z j link other f in
        subst (λ (x : Node WholeQueues). Stands c z a (first_left link other line x)) (sym (opened-node c n link near)) (first-at link other line near h s)
    first-by Open (Some other) false link e f h s = s
    first-by Open None b link e f h s = s
    first-by Nothing o b link e f h s = s
    first-by Close o b link e f h s = s

    second-by : (v : Wants) (b : Bool) (o : Option ℕ) (link : ℕ) → wanted n.parts link ≡ v → may_follow p.near link ≡ b → far_of link ≡ o → Stands c z a p → Stands c z a (pairs.opens_second v b link p).left
    second-by Open true (Some other) link e f h s =
        let near : MayComeUp n.parts link = wants-open n.parts link e in
        let line : IsLine c z j link other = is-line c z j link other h in
        subst (λ (x : Node WholeQueues). Stands c z a (second_left link other line x)) (sym (opened-node c n link near)) (second-at link other line near f s)
    second-by Open true None link e f h s = (let no : true ≡ false = sym f ∙ s.near_alone link h in absurd cc)
    second-by Open false o link e f h s = s
    second-by Nothing b o link e f h s = s
    second-by Close b o link e f h s = s

    -- ---- on links that lead elsewhere

    up-elsewhere : (link : ℕ) → leads_elsewhere p link ≡ true → Stands c z a p → Stands c z a (takes_in_for a.base.there (CameUp link) p).left
    up-elsewhere link e s =
        let w : World = world_of p s.to_near s.to_far in
        let away : LeadsAway c z j link = leads-away c z j link e in
        subst (λ (ms : List Message). Stands c z a (left c z a n m nb fb ni fi nv fv na nr fa fr (apply whole c (CameUp link) n).left ni ms nr)) (sym (append-nil na))
        (near-stands c z a n m nb fb ni fi nv fv na nr fa fr s (apply whole c (CameUp link) n).left ni na nr s.to_near (done-waits (CameUp link) (record { settings = c; node = n; reroutings = first_reroutings c })) (event-knows c (CameUp link) n s.near_knows) s.near_texts s.near_quiet
        (event-passes c z j (CameUp link) w w n (away-up c z j w n link away.apart)))

    heard-elsewhere : (link : ℕ) (text : List ℕ) → leads_elsewhere p link ≡ true → speaks_for c.own z.own text ≡ false → Stands c z a p → Stands c z a (takes_in_for a.base.there (FrameCame link text) p).left
    heard-elsewhere link text e honest s =
        let away : LeadsAway c z j link = leads-away c z j link e in
        near-stands c z a n m nb fb ni fi nv fv na nr fa fr s (apply whole c (FrameCame link text) n).left ni _ nr s.to_near (done-waits (FrameCame link text) (record { settings = c; node = n; reroutings = first_reroutings c })) (event-knows c (FrameCame link text) n s.near_knows) s.near_texts s.near_quiet
        (away-comes c z j (world_of p s.to_near s.to_far) n link text s.near_waits s.near_knows away.apart away.here honest)

    up-by : (b : Bool) (link : ℕ) → leads_elsewhere p link ≡ b → Stands c z a p → Stands c z a (takes_elsewhere_for a.base.there b false (CameUp link) p).left
    up-by true link e s = up-elsewhere link e s
    up-by false link e s = s

    heard-by : (b speaks : Bool) (link : ℕ) (text : List ℕ) → leads_elsewhere p link ≡ b → speaks_for_either p text ≡ speaks → Stands c z a p → Stands c z a (takes_elsewhere_for a.base.there b speaks (FrameCame link text) p).left
    heard-by true false link text e f s = heard-elsewhere link text e f s
    heard-by true true link text e f s = s
    heard-by false speaks link text e f s = s

    -- ---- what is done at the near end

    between-stands : (what : pairs.Doing) → IsUntoldDoing c z a (Does what) p → Stands c z a p → Stands c z a (did_between_for a.base.there a.base.back what p).left
    between-stands (pairs.Submits message) untold s = submit-stands c z a n m nb fb ni fi nv fv na nr fa fr message s
    between-stands (pairs.Takes link) untold s = take-stands c z a n m nb fb ni fi nv fv na nr fa fr link s
    between-stands (pairs.Delivers link) untold s = deliver-stands c z a n m nb fb ni fi nv fv na nr fa fr link untold s
    between-stands (pairs.DeliversStatus link) untold s = deliver_status-stands c z a n m nb fb ni fi nv fv na nr fa fr link s
    between-stands (pairs.LosesStatus link) untold s = lose_status-stands c z a n m nb fb ni fi nv fv na nr fa fr link s
    between-stands (pairs.DoublesStatus link) untold s = double_status-stands c z a n m nb fb ni fi nv fv na nr fa fr link s
    between-stands (pairs.AddsTitle row is_memory_refused) untold s = happens-stands c z a n m nb fb ni fi nv fv na nr fa fr _ (λ w. add_title-passes c z j row is_memory_refused w n) s
    between-stands (pairs.SetsTitle row is_memory_refused) untold s = happens-stands c z a n m nb fb ni fi nv fv na nr fa fr _ (λ w. set_title-passes c z j row is_memory_refused w n) s
    between-stands (pairs.RemovesTitle key digits) untold s = happens-stands c z a n m nb fb ni fi nv fv na nr fa fr _ (λ w. remove_title-passes c z j key digits w n) s
    between-stands (pairs.Loses link) untold s = happens-stands c z a n m nb fb ni fi nv fv na nr fa fr _ (λ w. association_down-passes c z j w n link) s
    between-stands pairs.Ticks untold s = happens-stands c z a n m nb fb ni fi nv fv na nr fa fr _ (λ w. passes-both c z j _ _ _ (tick-passes c z j w n) (late_by-passes c z j Handled w (tick whole c n).left)) s
    between-stands (pairs.Activates link emergency) untold s = happens-stands c z a n m nb fb ni fi nv fv na nr fa fr _ (λ w. activate-passes c z j emergency w n link) s
    between-stands (pairs.Deactivates link) untold s = happens-stands c z a n m nb fb ni fi nv fv na nr fa fr _ (λ w. deactivate-passes c z j w n link) s
    between-stands (pairs.Releases link) untold s = happens-stands c z a n m nb fb ni fi nv fv na nr fa fr _ (λ w. release_bar-passes c z j w n link) s
    between-stands (pairs.OpensFirst link) untold s = first-by (wanted n.parts link) (far_of link) (far_may_open p (far_of link)) link refl refl refl s
    between-stands (pairs.OpensSecond link) untold s = second-by (wanted n.parts link) (may_follow p.near link) (far_of link) link refl refl refl s

    did-stands : (what : Doing) → IsUntoldDoing c z a what p → Stands c z a p → Stands c z a (did_for a.base.there a.base.back what p).left
    did-stands (Does what) untold s = between-stands what untold s
    did-stands (OpensElsewhere link) untold s = up-by (leads_elsewhere p link) link refl s
    did-stands (HearsElsewhere link text) untold s = heard-by (leads_elsewhere p link) (speaks_for_either p text) link text refl refl s

-- ---- any step, and lists of them

module _ (c z : Configuration) (a : AreFacing c z) where
  -- the pair with the settings written out
  abbrev written : PairState → PairState
  written p = record {
    near = end_with c p.near.exchange.node p.near.exchange.reroutings p.near.incoming p.near.following p.near.accepted p.near.received;
    far = end_with z p.far.exchange.node p.far.exchange.reroutings p.far.incoming p.far.following p.far.accepted p.far.received;
  }

  is-written : (p : PairState) → p.near.exchange.settings ≡ c → p.far.exchange.settings ≡ z → p ≡ written p
  is-written p e f =
      ap (λ (x : Configuration). record p { near = end_with x p.near.exchange.node p.near.exchange.reroutings p.near.incoming p.near.following p.near.accepted p.near.received }) e
      ∙ ap (λ (y : Configuration). record (written p) { far = end_with y p.far.exchange.node p.far.exchange.reroutings p.far.incoming p.far.following p.far.accepted p.far.received }) f

  done-stands : (what : Doing) (p : PairState) → IsUntoldDoing c z a what p → Stands c z a p → Stands c z a (did_for a.base.there a.base.back what p).left
  done-stands what p untold s =
      let e : p ≡ written p = is-written p s.near_settings s.far_settings in
      subst (λ (q : PairState). Stands c z a (did_for a.base.there a.base.back what q).left) (sym e)
      (did-stands c z a p.near.exchange.node p.far.exchange.node p.near.exchange.reroutings p.far.exchange.reroutings p.near.incoming p.far.incoming p.near.following p.far.following p.near.accepted p.near.received p.far.accepted p.far.received what
      (subst (IsUntoldDoing c z a what) e untold) (subst (Stands c z a) e s))

module _ (c z : Configuration) (a : AreFacing c z) where
  pub turn_for-stands : (step : Step) (p : PairState) → IsUntoldStep c z a step p → Stands c z a p → Stands c z a (turn_for a.base.there a.base.back step p).left
  turn_for-stands (AtNear what) p untold s = done-stands c z a what p untold s
  turn_for-stands (AtFar what) p untold s =
      stands-turned z c (facing_back c z a) (did_for a.base.back a.base.there what (turned p)).left
      (done-stands z c (facing_back c z a) what (turned p) untold (stands-turned c z a p s))

  pub steps_for-stand : (steps : List Step) (p : PairState) → AreUntold c z a steps p → Stands c z a p → Stands c z a (after_steps_for a.base.there a.base.back steps p)
  steps_for-stand [] p untold s = s
  steps_for-stand (step ∷ steps) p untold s = steps_for-stand steps (turn_for a.base.there a.base.back step p).left untold.1 (turn_for-stands step p untold.0 s)

-- ---- where the messages are for the two themselves

-- nobody else's route is told of
pub own-untold : (c z : Configuration) (a : AreFacing c z) → a.base.there ≡ z.own → (what : Doing) (p : PairState) → IsUntoldDoing c z a what p
own-untold c z a own (Does (pairs.Delivers link)) p = λ text e m f. inl own
own-untold c z a own (Does (pairs.Submits message)) p = tt
own-untold c z a own (Does (pairs.Takes link)) p = tt
own-untold c z a own (Does (pairs.DeliversStatus link)) p = tt
own-untold c z a own (Does (pairs.LosesStatus link)) p = tt
own-untold c z a own (Does (pairs.DoublesStatus link)) p = tt
own-untold c z a own (Does (pairs.Loses link)) p = tt
own-untold c z a own (Does pairs.Ticks) p = tt
own-untold c z a own (Does (pairs.Activates link emergency)) p = tt
own-untold c z a own (Does (pairs.Deactivates link)) p = tt
own-untold c z a own (Does (pairs.Releases link)) p = tt
own-untold c z a own (Does (pairs.AddsTitle row is_memory_refused)) p = tt
own-untold c z a own (Does (pairs.SetsTitle row is_memory_refused)) p = tt
own-untold c z a own (Does (pairs.RemovesTitle key digits)) p = tt
own-untold c z a own (Does (pairs.OpensFirst link)) p = tt
own-untold c z a own (Does (pairs.OpensSecond link)) p = tt
own-untold c z a own (OpensElsewhere link) p = tt
own-untold c z a own (HearsElsewhere link text) p = tt

step-untold : (c z : Configuration) (a : AreFacing c z) → AreOwn c z a → (step : Step) (p : PairState) → IsUntoldStep c z a step p
step-untold c z a own (AtNear what) p = own-untold c z a own.there what p
step-untold c z a own (AtFar what) p = own-untold z c (facing_back c z a) own.back what (turned p)

-- the points for which their messages are are those of their settings
pub own-turn : (c z : Configuration) (a : AreFacing c z) (step : Step) (p : PairState) → Stands c z a p → turn step p ≡ turn_for z.own c.own step p
own-turn c z a step p s = same step
  where
    there : p.far.exchange.settings.own ≡ z.own
    there = ap (λ (x : Configuration). x.own) s.far_settings

    back : p.near.exchange.settings.own ≡ c.own
    back = ap (λ (x : Configuration). x.own) s.near_settings

    same : (step : Step) → turn step p ≡ turn_for z.own c.own step p
    same (AtNear what) = ap (λ (k : ℕ). did_for k p.near.exchange.settings.own what p) there ∙ ap (λ (k : ℕ). did_for z.own k what p) back
    same (AtFar what) =
        ap (λ (k : ℕ). record { outcome = (did_for p.near.exchange.settings.own k what (turned p)).outcome; left = turned (did_for p.near.exchange.settings.own k what (turned p)).left }) there
        ∙ ap (λ (k : ℕ). record { outcome = (did_for k z.own what (turned p)).outcome; left = turned (did_for k z.own what (turned p)).left }) back

pub turn-stands : (c z : Configuration) (a : AreFacing c z) → AreOwn c z a → (step : Step) (p : PairState) → Stands c z a p → Stands c z a (turn step p).left
turn-stands c z a own step p s =
    subst (λ (t : Turn). Stands c z a t.left) (sym (own-turn c z a step p s))
    (subst (λ (k : ℕ). Stands c z a (turn_for z.own k step p).left) own.back
    (subst (λ (k : ℕ). Stands c z a (turn_for k a.base.back step p).left) own.there (turn_for-stands c z a step p (step-untold c z a own step p) s)))

pub own-steps : (c z : Configuration) (a : AreFacing c z) → AreOwn c z a → (steps : List Step) (p : PairState) → Stands c z a p → after_steps steps p ≡ after_steps_for z.own c.own steps p
own-steps c z a own [] p s = refl
own-steps c z a own (step ∷ steps) p s =
    own-steps c z a own steps (turn step p).left (turn-stands c z a own step p s)
    ∙ ap (λ (t : Turn). after_steps_for z.own c.own steps t.left) (own-turn c z a step p s)

pub steps-stand : (c z : Configuration) (a : AreFacing c z) → AreOwn c z a → (steps : List Step) (p : PairState) → Stands c z a p → Stands c z a (after_steps steps p)
steps-stand c z a own [] p s = s
steps-stand c z a own (step ∷ steps) p s = steps-stand c z a own steps (turn step p).left (turn-stands c z a own step p s)
