-- What a network books doesn't matter to what becomes of it: but for the books, it comes to the same, whether these
-- begin anew before or after some changes.
use Rattle.std.proofs.Common.{◌≡◌, ℕ, Bool, true, false, List, [], ◌∷◌, Option, Some, None, nat_eq, refl, ap, sym, subst, ◌∙◌}
use Rattle.std.specs.Prelude.{if◌then◌else◌, slice_get}
use Rattle.settings.specs.Configuration.{Configuration, LinkEntry}
use Rattle.m2pa_codec.specs.Frames.{FrameValue}
use Rattle.exchange_rules.specs.declared.wants.Wants.{Wants}
use Rattle.exchange_rules.specs.declared.wants.Wants.TheVariants as wants
use Rattle.exchange_rules.specs.Exchange.{frame_to_take, wants_of}
use Rattle.exchange_rules.specs.Queues.{whole}
use Rattle.pair_rules.specs.Pairs.{Doing, Submits, Takes, Delivers, DeliversStatus, LosesStatus, DoublesStatus, Loses, Ticks, Activates, Deactivates, Releases, AddsTitle, SetsTitle, RemovesTitle, OpensFirst, OpensSecond, Streams, in_flight, may_follow, with_status_twice, without_data, without_status}
use Rattle.network_rules.specs.Anew.{Change, GivesUp, Restarts, Steps, after_all, after_change, begun_anew, given_up, restarted}
use Rattle.network_rules.specs.Networks.{NetworkNode, NetworkState, Place, change_statuses, changed, comes_up, deliver_frame, did, did_here, end_of, is_led, may_open_there, opens_first, opens_second, other_end, place_there, reaches, sends, take_frame}

abbrev pub unbooked : NetworkNode → NetworkNode
unbooked x = record x { accepted = []; arrived = []; entered = []; refused = [] }

-- ---- at one node

-- what is done comes to the same without the books
record IsAside (change : NetworkNode → NetworkNode) : Type 0 where
  same : (x : NetworkNode) → unbooked (change (unbooked x)) ≡ unbooked (change x)

delivered : (text : Option (List ℕ)) (link : ℕ) (left : Streams) (x : NetworkNode) → unbooked (deliver_frame text link left (unbooked x)) ≡ unbooked (deliver_frame text link left x)
delivered None link left x = refl
delivered (Some text) link left x = refl

statuses-changed : (text : Option (List ℕ)) (left : Streams) (x : NetworkNode) → unbooked (change_statuses text left (unbooked x)) ≡ unbooked (change_statuses text left x)
statuses-changed None left x = refl
statuses-changed (Some text) left x = refl

followed : (wish : Wants) (follows : Bool) (link : ℕ) (x : NetworkNode) → unbooked (opens_second wish follows link (unbooked x)) ≡ unbooked (opens_second wish follows link x)
followed wants.Open true link x = refl
followed wants.Open false link x = refl
followed wants.Nothing follows link x = refl
followed wants.Close follows link x = refl

here-same : (what : Doing) (x : NetworkNode) → unbooked (did_here what (unbooked x)) ≡ unbooked (did_here what x)
here-same (Submits m) x = refl
here-same (Delivers link) x = delivered (slice_get (in_flight x.incoming.user_data link) 0) link (without_data link x.incoming) x
here-same (DeliversStatus link) x = delivered (slice_get (in_flight x.incoming.statuses link) 0) link (without_status link x.incoming) x
here-same (LosesStatus link) x = statuses-changed (slice_get (in_flight x.incoming.statuses link) 0) (without_status link x.incoming) x
here-same (DoublesStatus link) x = statuses-changed (slice_get (in_flight x.incoming.statuses link) 0) (with_status_twice link x.incoming) x
here-same (Loses link) x = refl
here-same Ticks x = refl
here-same (Activates link emergency) x = refl
here-same (Deactivates link) x = refl
here-same (Releases link) x = refl
here-same (AddsTitle row is_memory_refused) x = refl
here-same (SetsTitle row is_memory_refused) x = refl
here-same (RemovesTitle key digits) x = refl
here-same (OpensSecond link) x = followed (wants_of x.exchange link) (may_follow (end_of x) link) link x
here-same (Takes link) x = refl
here-same (OpensFirst link) x = refl

here-aside : (what : Doing) → IsAside (did_here what)
here-aside what = record { same = here-same what }

sends-aside : (link : ℕ) → IsAside (sends link)
sends-aside link = record { same = λ x. refl }

reaches-aside : (frame : FrameValue) (link : ℕ) → IsAside (reaches frame link)
reaches-aside frame link = record { same = λ x. refl }

-- ---- at all

-- two networks are the same but for their books
record AreSame (w v : NetworkState) : Type 0 where
  each : (point : ℕ) → unbooked (w.node point) ≡ unbooked (v.node point)

as-one : (w v : NetworkState) → AreSame w v → begun_anew w ≡ begun_anew v
as-one w v s = λ i. record { node = λ point. s.each point i }

itself-same : (w : NetworkState) → AreSame (begun_anew w) w
itself-same w = record { each = λ point. refl }

changed-same : (point : ℕ) (change : NetworkNode → NetworkNode) (w v : NetworkState) → IsAside change → AreSame w v → AreSame (changed point change w) (changed point change v)
changed-same point change w v aside s = record { each = λ other. by other (nat_eq other point) }
  where
    by : (other : ℕ) (b : Bool) → unbooked (if b then change (w.node other) else w.node other) ≡ unbooked (if b then change (v.node other) else v.node other)
    by other true =
        sym (aside.same (w.node other)) ∙ ap (λ (x : NetworkNode). unbooked (change x)) (s.each other) ∙ aside.same (v.node other)
    by other false = s.each other

module _ (w : NetworkState) where
  abbrev v : NetworkState
  v = begun_anew w

  anew : AreSame v w
  anew = itself-same w

  end-by : (c : Configuration) (entry : Option LinkEntry) → place_there v c entry ≡ place_there w c entry
  end-by c (Some l) = refl
  end-by c None = refl

  ends-same : (point link : ℕ) → other_end v point link ≡ other_end w point link
  ends-same point link = end-by (w.node point).exchange.settings (slice_get (w.node point).exchange.settings.links link)

  taken-same : (frame : Option FrameValue) (point link : ℕ) (there : Option Place) → AreSame (take_frame frame point link there v) (take_frame frame point link there w)
  taken-same None point link there = anew
  taken-same (Some frame) point link None = changed-same point (sends link) v w (sends-aside link) anew
  taken-same (Some frame) point link (Some there) =
      changed-same there.point (reaches frame there.link) (changed point (sends link) v) (changed point (sends link) w) (reaches-aside frame there.link)
      (changed-same point (sends link) v w (sends-aside link) anew)

  may-same : (there : Option Place) → may_open_there v there ≡ may_open_there w there
  may-same (Some there) = refl
  may-same None = refl

  opened-same : (wish : Wants) (may : Bool) (point link : ℕ) (there : Option Place) → AreSame (opens_first wish may point link there v) (opens_first wish may point link there w)
  opened-same wants.Open true point link (Some there) =
      changed-same there.point (is_led there.link) (changed point (comes_up link) v) (changed point (comes_up link) w) (record { same = λ x. refl })
      (changed-same point (comes_up link) v w (record { same = λ x. refl }) anew)
  opened-same wants.Open true point link None = anew
  opened-same wants.Open false point link there = anew
  opened-same wants.Nothing may point link there = anew
  opened-same wants.Close may point link there = anew

  took : (point link : ℕ) → AreSame (did (Takes link) point v) (did (Takes link) point w)
  took point link =
      let frame : Option FrameValue = frame_to_take whole (w.node point).exchange link in
      subst (λ (there : Option Place). AreSame (take_frame frame point link there v) (did (Takes link) point w)) (sym (ends-same point link))
      (taken-same frame point link (other_end w point link))

  opened : (point link : ℕ) → AreSame (did (OpensFirst link) point v) (did (OpensFirst link) point w)
  opened point link =
      let wish : Wants = wants_of (w.node point).exchange link in
      subst (λ (there : Option Place). AreSame (opens_first wish (may_open_there v there) point link there v) (did (OpensFirst link) point w)) (sym (ends-same point link))
      (subst (λ (may : Bool). AreSame (opens_first wish may point link (other_end w point link) v) (did (OpensFirst link) point w)) (sym (may-same (other_end w point link)))
      (opened-same wish (may_open_there w (other_end w point link)) point link (other_end w point link)))

  abbrev Here : Doing → (point : ℕ) → Type 0
  Here what point = AreSame (changed point (did_here what) v) (changed point (did_here what) w)

  here : (what : Doing) (point : ℕ) → Here what point
  here what point = changed-same point (did_here what) v w (here-aside what) anew

  did-same : (what : Doing) (point : ℕ) → AreSame (did what point v) (did what point w)
  did-same (Takes link) point = took point link
  did-same (OpensFirst link) point = opened point link
  did-same (Submits m) point = here (Submits m) point
  did-same (Delivers link) point = here (Delivers link) point
  did-same (DeliversStatus link) point = here (DeliversStatus link) point
  did-same (LosesStatus link) point = here (LosesStatus link) point
  did-same (DoublesStatus link) point = here (DoublesStatus link) point
  did-same (Loses link) point = here (Loses link) point
  did-same Ticks point = here Ticks point
  did-same (Activates link emergency) point = here (Activates link emergency) point
  did-same (Deactivates link) point = here (Deactivates link) point
  did-same (Releases link) point = here (Releases link) point
  did-same (AddsTitle row refused) point = here (AddsTitle row refused) point
  did-same (SetsTitle row refused) point = here (SetsTitle row refused) point
  did-same (RemovesTitle key digits) point = here (RemovesTitle key digits) point
  did-same (OpensSecond link) point = here (OpensSecond link) point

  change-same : (change : Change) → AreSame (after_change change v) (after_change change w)
  change-same (Steps step) = did-same step.what step.point
  change-same (Restarts point) = changed-same point restarted v w (record { same = λ x. refl }) anew
  change-same (GivesUp point link) = changed-same point (given_up link) v w (record { same = λ x. refl }) anew

pub aside : (changes : List Change) (w : NetworkState) → begun_anew (after_all changes (begun_anew w)) ≡ begun_anew (after_all changes w)
aside [] w = refl
aside (change ∷ changes) w =
    let later : NetworkState = after_change change (begun_anew w) in
    sym (aside changes later)
    ∙ ap (λ (x : NetworkState). begun_anew (after_all changes x)) (as-one later (after_change change w) (change-same w change))
    ∙ aside changes (after_change change w)
