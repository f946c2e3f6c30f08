-- What may be done to a network.
use Rattle.node_moves.proofs.Basics.{◌≡◌, ◌<◌, ◌++◌, ◌&&◌, ◌||◌, ◌^◌, ℕ, Bool, true, false, not, List, [], ◌∷◌, length, drop, take, Option, Some, None, Result, Ok, Err, nat_eq, nat_lt, slice_get, refl, ap, ◌∙◌, arith, nat_tests, if◌then◌else◌, eqb-true}
use Rattle.node_moves.proofs.Definitions.{Configuration, Message, Management, MgmtFault, dpc_of, opc_of, peer_of, read_management, service_indicator}
use Rattle.node_moves.proofs.Closed.{both-true}
use Rattle.node_moves.proofs.Flights.{changed-here, updated-here}
use Rattle.node_moves.specs.Networks.{NetworkNode, NetworkState, IsNode, DoublesStatus, Loses, LosesStatus, Ticks, after_step, changed, did_here, next_in, with_statuses}
use Rattle.node_moves.specs.Anew.{ComesOutside, after_change}
use Rattle.node_moves.specs.Networks.{be_led, is_node, updated}
use Rattle.node_moves.specs.Outside.{is_from_outside, leads_out, may_come, put_in, spoofs_nobody}
use Rattle.node_moves.specs.Possible.{IsFromOutside, MayBeSaid, MayComeFromOutside, links_may_fail, outside_may_say_anything_else, statuses_may_be_harmed}
use Rattle.m2pa_codec.specs.Frames.{FrameValue, EmptyFrame, MessageFrame, StatusFrame, read_frame}
use Rattle.mtp3_codec.specs.declared.management.Management.TheVariants as says
use Rattle.signalling_types.specs.declared.limits.TheConstants.Limits.{SIF_OCTETS}
use Rattle.signalling_types.specs.declared.notice.FrameFault.{FrameFault}

module _ (settings : (point : ℕ) → Configuration) (w : NetworkState) (point : ℕ) (its : IsNode settings point) where
  module _ (link : ℕ) (first : List ℕ) (others : List (List ℕ)) (inside : link < length (settings point).links) (e : (w.node point).statuses link ≡ first ∷ others) where
    next : next_in (settings point) link ((w.node point).statuses link) ≡ Some first
    next =
        let listed : nat_lt link (length (settings point).links) ≡ true = grind (arith, nat_tests, inside) in
        ap (λ (b : Bool). if b then slice_get ((w.node point).statuses link) 0 else None) listed
        ∙ ap (λ (texts : List (List ℕ)). slice_get texts 0) e

    left : (texts : List (List ℕ)) → (with_statuses (next_in (settings point) link ((w.node point).statuses link)) link texts (w.node point)).statuses link ≡ texts
    left texts = ap (λ (o : Option (List ℕ)). (with_statuses o link texts (w.node point)).statuses link) next ∙ updated-here (w.node point).statuses link texts

    lost : ((after_step settings (record { point = point; what = LosesStatus link }) w).node point).statuses link ≡ others
    lost =
        ap (λ (b : Bool). ((if b then changed point (did_here (LosesStatus link) (settings point)) w else w).node point).statuses link) its
        ∙ ap (λ (x : NetworkNode). x.statuses link) (changed-here point (did_here (LosesStatus link) (settings point)) w)
        ∙ left (drop 1 ((w.node point).statuses link))
        ∙ ap (λ (texts : List (List ℕ)). drop 1 texts) e

    doubled : ((after_step settings (record { point = point; what = DoublesStatus link }) w).node point).statuses link ≡ first ∷ first ∷ others
    doubled =
        ap (λ (b : Bool). ((if b then changed point (did_here (DoublesStatus link) (settings point)) w else w).node point).statuses link) its
        ∙ ap (λ (x : NetworkNode). x.statuses link) (changed-here point (did_here (DoublesStatus link) (settings point)) w)
        ∙ left (take 1 ((w.node point).statuses link) ++ (w.node point).statuses link)
        ∙ ap (λ (texts : List (List ℕ)). take 1 texts ++ texts) e

pub may-be-harmed : statuses_may_be_harmed
may-be-harmed settings w point link first others its inside e = record { lost = lost settings w point its link first others inside e; doubled = doubled settings w point its link first others inside e }

pub may-fail : links_may_fail
may-fail settings w point link its = record {
  lost =
      ap (λ (b : Bool). ((if b then changed point (did_here (Loses link) (settings point)) w else w).node point).node) its
      ∙ ap (λ (x : NetworkNode). x.node) (changed-here point (did_here (Loses link) (settings point)) w);
  ticks =
      ap (λ (b : Bool). ((if b then changed point (did_here Ticks (settings point)) w else w).node point).node) its
      ∙ ap (λ (x : NetworkNode). x.node) (changed-here point (did_here Ticks (settings point)) w);
}

-- ---- from outside

not-so : (b : Bool) → (b ≡ true → ⊥) → not b ≡ true
not-so true none = absurd (none refl)
not-so false none = refl

not-both-so : (a b : Bool) → (a ≡ true → b ≡ true → ⊥) → not (a && b) ≡ true
not-both-so true true none = absurd (none refl refl)
not-both-so true false none = refl
not-both-so false b none = refl

if-managed : (a b : Bool) → (a ≡ true → b ≡ true) → (not a || b) ≡ true
if-managed true b so = so refl
if-managed false b so = refl

module _ (settings : (point : ℕ) → Configuration) where
  from-so : (m : Message) (number : ℕ) → IsFromOutside settings m number → is_from_outside settings m number ≡ true
  from-so m number h =
      both-true (not (is_node settings (opc_of m) && is_node settings (dpc_of m))) (nat_lt number (2 ^ 24))
      (not-both-so (is_node settings (opc_of m)) (is_node settings (dpc_of m)) h.apart)
      (grind (arith, nat_tests, h.fits))

  said-so : (m : Message) → MayBeSaid settings m → service_indicator m ≡ 0 → (r : Result Management MgmtFault) → read_management m.sif ≡ r → spoofs_nobody settings m r ≡ true
  said-so m h lowest (Ok (says.ExtendedChangeoverOrder slc number)) e = from-so m number (h.order lowest slc number e)
  said-so m h lowest (Ok (says.ExtendedChangeoverAcknowledgement slc number)) e = from-so m number (h.answer lowest slc number e)
  said-so m h lowest (Ok (says.EmergencyChangeoverOrder slc)) e = absurd (h.no_emergency_order lowest slc e)
  said-so m h lowest (Ok (says.EmergencyChangeoverAcknowledgement slc)) e = absurd (h.no_emergency_answer lowest slc e)
  said-so m h lowest (Ok (says.ChangebackDeclaration slc code)) e = refl
  said-so m h lowest (Ok (says.ChangebackAcknowledgement slc code)) e = refl
  said-so m h lowest (Ok (says.TransferProhibited point)) e = refl
  said-so m h lowest (Ok (says.TransferRestricted point)) e = refl
  said-so m h lowest (Ok (says.TransferAllowed point)) e = refl
  said-so m h lowest (Ok (says.RouteSetTestProhibited point)) e = refl
  said-so m h lowest (Ok (says.RouteSetTestRestricted point)) e = refl
  said-so m h lowest (Ok says.TrafficRestartAllowed) e = refl
  said-so m h lowest (Ok (says.UserPartUnavailable point user_part cause)) e = refl
  said-so m h lowest (Err fault) e = refl

  comes-so : (m : Message) → MayBeSaid settings m → may_come settings m ≡ true
  comes-so m h =
      both-true (not (nat_lt SIF_OCTETS (length m.sif))) (not (nat_eq (service_indicator m) 0) || spoofs_nobody settings m (read_management m.sif))
      (grind (arith, nat_tests, h.short))
      (if-managed (nat_eq (service_indicator m) 0) (spoofs_nobody settings m (read_management m.sif)) (λ lowest. said-so m h (eqb-true (service_indicator m) 0 lowest) (read_management m.sif) refl))

  module _ (w : NetworkState) (point link : ℕ) (its : IsNode settings point) (inside : link < length (settings point).links) (none : IsNode settings (peer_of (settings point) link) → ⊥) where
    out : leads_out settings point link ≡ true
    out =
        both-true (is_node settings point) (nat_lt link (length (settings point).links) && not (is_node settings (peer_of (settings point) link))) its
        (both-true (nat_lt link (length (settings point).links)) (not (is_node settings (peer_of (settings point) link))) (grind (arith, nat_tests, inside))
        (not-so (is_node settings (peer_of (settings point) link)) none))

    abbrev x : NetworkNode
    x = w.node point

    at-there : (f : NetworkNode → NetworkNode) → (if leads_out settings point link then changed point f w else w).node point ≡ f x
    at-there f = ap (λ (b : Bool). (if b then changed point f w else w).node point) out ∙ changed-here point f w

    put-so : (text : List ℕ) (r : Result FrameValue FrameFault) → read_frame text ≡ r → (after_change settings (ComesOutside point link text) w).node point ≡ put_in settings point link text r x
    put-so text r e = at-there (put_in settings point link text (read_frame text)) ∙ ap (λ (q : Result FrameValue FrameFault). put_in settings point link text q x) e

    pub outside-may : MayComeFromOutside settings w point link
    outside-may = record {
      opens = ap (λ (y : NetworkNode). y.follows link) (at-there (be_led link)) ∙ updated-here x.follows link true;
      statuses = λ text bsn fsn status e. ap (λ (y : NetworkNode). y.statuses link) (put-so text (Ok (StatusFrame bsn fsn status)) e) ∙ updated-here x.statuses link (x.statuses link ++ text ∷ []);
      empty_data = λ text bsn fsn e. ap (λ (y : NetworkNode). y.user_data link) (put-so text (Ok (EmptyFrame bsn fsn)) e) ∙ updated-here x.user_data link (x.user_data link ++ text ∷ []);
      messages = λ text bsn fsn sio sif e h.
          ap (λ (y : NetworkNode). y.user_data link) (put-so text (Ok (MessageFrame bsn fsn sio sif)) e)
          ∙ ap (λ (b : Bool). (if b then record x { user_data = updated x.user_data link (x.user_data link ++ text ∷ []) } else x).user_data link) (comes-so (record { sio = sio; sif = sif }) h)
          ∙ updated-here x.user_data link (x.user_data link ++ text ∷ []);
      malformed = λ text fault e. ap (λ (y : NetworkNode). y.node) (put-so text (Err fault) e);
    }

pub may-come : outside_may_say_anything_else
may-come settings w point link its inside none = outside-may settings w point link its inside none
