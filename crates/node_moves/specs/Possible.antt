-- What is promised of a network is promised against this: what the links between its nodes may do, and points outside.
use Rattle.std.specs.Prelude.{◌≡◌, ◌<◌, ◌≤◌, ◌^◌, ℕ, true, List, [], ◌∷◌, ◌++◌, length, Ok, Err}
use Rattle.signalling_types.specs.Message.{Message, dpc_of, opc_of, service_indicator}
use Rattle.signalling_types.specs.declared.limits.TheConstants.Limits.{SIF_OCTETS}
use Rattle.settings.specs.Configuration.{Configuration}
use Rattle.exchange_rules.specs.Routing.{peer_of}
use Rattle.exchange_rules.specs.State.{FrameCame, Ticked, WentDown}
use Rattle.m2pa_codec.specs.Frames.{EmptyFrame, MessageFrame, StatusFrame, read_frame}
use Rattle.m2pa_codec.specs.declared.status.LinkStatus.{LinkStatus}
use Rattle.mtp3_codec.specs.Management.{read_management}
use Rattle.mtp3_codec.specs.declared.management.Management.TheVariants as says
use Rattle.signalling_types.specs.declared.notice.FrameFault.{FrameFault}
use Rattle.node_moves.specs.Anew.{OpensOutside, ComesOutside, after_change}
use Rattle.node_moves.specs.Networks.{NetworkState, IsNode, DoublesStatus, Loses, LosesStatus, Ticks, after_event}
use Rattle.node_moves.specs.Networks.{after_step}

module _ (settings : (point : ℕ) → Configuration) (w : NetworkState) (point : ℕ) where
  -- the first of the link statuses that are in flight to a node on a link may be lost, or come twice
  pub record MayBeHarmed (link : ℕ) (first : List ℕ) (others : List (List ℕ)) : Type 0 where
    pub lost :
        ((after_step settings (record { point = point; what = LosesStatus link }) w).node point).statuses link
        ≡ others
    pub doubled :
        ((after_step settings (record { point = point; what = DoublesStatus link }) w).node point).statuses link
        ≡ first ∷ first ∷ others

  -- at a node the association of a link may be lost at any moment, and a tick may pass; its exchange does what the
  -- rules say then
  pub record MayHappen (link : ℕ) : Type 0 where
    pub lost :
        ((after_step settings (record { point = point; what = Loses link }) w).node point).node
        ≡ after_event (settings point) (WentDown link) (w.node point)
    pub ticks :
        ((after_step settings (record { point = point; what = Ticks }) w).node point).node
        ≡ after_event (settings point) Ticked (w.node point)

abbrev pub statuses_may_be_harmed : Type 0
statuses_may_be_harmed =
    (settings : (point : ℕ) → Configuration) (w : NetworkState) (point link : ℕ) (first : List ℕ)
    (others : List (List ℕ)) → IsNode settings point → link < length (settings point).links →
    (w.node point).statuses link ≡ first ∷ others → MayBeHarmed settings w point link first others

abbrev pub links_may_fail : Type 0
links_may_fail =
    (settings : (point : ℕ) → Configuration) (w : NetworkState) (point link : ℕ) → IsNode settings point →
    MayHappen settings w point link

-- ---- what may come from outside

module _ (settings : (point : ℕ) → Configuration) where
  -- an order to change over or an answer, with this number, isn't from one node to another, and the number has 24 bits
  pub record IsFromOutside (m : Message) (number : ℕ) : Type 0 where
    pub apart : IsNode settings (opc_of m) → IsNode settings (dpc_of m) → ⊥
    pub fits : number < 2 ^ 24

  -- a message has room in a signalling information field; and if it is an order or an answer it is such a one, and no
  -- emergency one
  pub record MayBeSaid (m : Message) : Type 0 where
    pub short : length m.sif ≤ SIF_OCTETS
    pub order : service_indicator m ≡ 0 → (slc number : ℕ) →
        read_management m.sif ≡ Ok (says.ExtendedChangeoverOrder slc number) → IsFromOutside m number
    pub answer : service_indicator m ≡ 0 → (slc number : ℕ) →
        read_management m.sif ≡ Ok (says.ExtendedChangeoverAcknowledgement slc number) → IsFromOutside m number
    pub no_emergency_order : service_indicator m ≡ 0 → (slc : ℕ) →
        read_management m.sif ≡ Ok (says.EmergencyChangeoverOrder slc) → ⊥
    pub no_emergency_answer : service_indicator m ≡ 0 → (slc : ℕ) →
        read_management m.sif ≡ Ok (says.EmergencyChangeoverAcknowledgement slc) → ⊥

  -- by a link to a point without a node the other end may open, and then the node may follow; and these frames may be in
  -- flight to it: any link status, any User Data without a message, and any with a message that may be said. A text that
  -- is no frame may be handed in
  pub record MayComeFromOutside (w : NetworkState) (point link : ℕ) : Type 0 where
    pub opens : ((after_change settings (OpensOutside point link) w).node point).follows link ≡ true
    pub statuses : (text : List ℕ) (bsn fsn : ℕ) (status : LinkStatus) →
        read_frame text ≡ Ok (StatusFrame bsn fsn status) →
        ((after_change settings (ComesOutside point link text) w).node point).statuses link
        ≡ (w.node point).statuses link ++ text ∷ []
    pub empty_data : (text : List ℕ) (bsn fsn : ℕ) → read_frame text ≡ Ok (EmptyFrame bsn fsn) →
        ((after_change settings (ComesOutside point link text) w).node point).user_data link
        ≡ (w.node point).user_data link ++ text ∷ []
    pub messages : (text : List ℕ) (bsn fsn sio : ℕ) (sif : List ℕ) →
        read_frame text ≡ Ok (MessageFrame bsn fsn sio sif) → MayBeSaid (record { sio = sio; sif = sif }) →
        ((after_change settings (ComesOutside point link text) w).node point).user_data link
        ≡ (w.node point).user_data link ++ text ∷ []
    pub malformed : (text : List ℕ) (fault : FrameFault) → read_frame text ≡ Err fault →
        ((after_change settings (ComesOutside point link text) w).node point).node
        ≡ after_event (settings point) (FrameCame link text) (w.node point)

abbrev pub outside_may_say_anything_else : Type 0
outside_may_say_anything_else =
    (settings : (point : ℕ) → Configuration) (w : NetworkState) (point link : ℕ) → IsNode settings point →
    link < length (settings point).links → (IsNode settings (peer_of (settings point) link) → ⊥) →
    MayComeFromOutside settings w point link
