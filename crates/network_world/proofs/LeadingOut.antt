-- Which links lead out of a network, and who speaks for its nodes, by what is kept; and that nothing is done by a link
-- that doesn't lead out.
use Rattle.std.proofs.Common.{◌≡◌, ◌&&◌, ◌||◌, ℕ, Bool, false, not, List, length, Option, Some, None, nat_eq, refl, ap, sym, subst, ◌∙◌}
use Rattle.std.specs.Prelude.{nat_lt, option_to_list, slice_get}
use Rattle.std.specs.List.{list_any}
use Rattle.signalling_types.specs.Message.{Message, dpc_of, opc_of, service_indicator}
use Rattle.settings.specs.Configuration.{Configuration, LinkEntry}
use Rattle.m2pa_codec.specs.Frames.{read_frame}
use Rattle.exchange_rules.specs.Laws.{carried_message}
use Rattle.exchange_rules.specs.Routing.{adjacent_of}
use Rattle.exchange_rules.specs.State.{CameUp}
use Rattle.network_rules.specs.Networks.{NetworkNode, NetworkState, first_node}
use Rattle.network_rules.specs.Outside.{is_management_within, is_within, leads_out, leads_out_by, speaks_within}
use Rattle.network_world.specs.Joined.{no_settings}
use Rattle.network_world.specs.KeptNodes.{KeptNode, kept_node_of, node_happens}
use Rattle.network_world.specs.KeptNetworks.{node_at, place_at}
use Rattle.network_world.specs.KeptOutside.{comes_outside, has_sets, kept_hears_outside, kept_leads_by, kept_leads_out, kept_opens_outside, kept_sends_outside, kept_speaks_within, kept_management_within, kept_within, node_hears_outside, sent_out}
use Rattle.network_world.specs.NetworkStands.{IsNodeAt}
use Rattle.network_world.proofs.AsKept.{IsKept}
use Rattle.network_world.proofs.NetworkSteps as steps
use Rattle.network_world.proofs.NodePlaces.{keeps-none}
use Rattle.network_world.proofs.Shown.{node-there}

module _ (k : List KeptNode) (w : NetworkState) (s : IsKept k w) where
  within-by : (point : ℕ) (o : Option KeptNode) → IsNodeAt point o (w.node point) → has_sets o ≡ is_within w point
  within-by point (Some n) is = ap (λ (m : KeptNode). nat_lt 0 (length m.exchange.settings.sets)) is.kept
  within-by point None is = sym (ap (λ (y : NetworkNode). nat_lt 0 (length y.exchange.settings.sets)) is)

  within-same : (point : ℕ) → kept_within point k ≡ is_within w point
  within-same point = within-by point (node_at point k) (node-there k w s point)

  leads-by : (c : Configuration) (entry : Option LinkEntry) → kept_leads_by k c entry ≡ leads_out_by w c entry
  leads-by c (Some l) = ap not (within-same (adjacent_of c l.set))
  leads-by c None = refl

  speaks-by : (o : Option Message) → list_any (kept_management_within k) (option_to_list o) ≡ list_any (is_management_within w) (option_to_list o)
  speaks-by None = refl
  speaks-by (Some m) =
      ap (λ (b : Bool). (nat_eq (service_indicator m) 0 && (b && kept_within (dpc_of m) k)) || false) (within-same (opc_of m))
      ∙ ap (λ (b : Bool). (nat_eq (service_indicator m) 0 && (is_within w (opc_of m) && b)) || false) (within-same (dpc_of m))

  pub speaks-same : (text : List ℕ) → kept_speaks_within k text ≡ speaks_within w text
  speaks-same text = speaks-by (carried_message (read_frame text))

  -- ---- where no node is at the point

  pub none-out : (point link : ℕ) → place_at point k ≡ None → leads_out w point link ≡ false
  none-out point link e =
      let first : w.node point ≡ first_node (no_settings point) = subst (λ (o : Option KeptNode). IsNodeAt point o (w.node point)) (keeps-none k point e) (s.nodes point) in
      ap (λ (y : NetworkNode). leads_out_by w y.exchange.settings (slice_get y.exchange.settings.links link)) first

  -- ---- at a node whose place is known

  module _ (point place : ℕ) (e : place_at point k ≡ Some place) where
    got : slice_get k place ≡ Some (kept_node_of (w.node point))
    got = steps.got k w s point place e

    pub leads-same : (link : ℕ) → kept_leads_out k (slice_get k place) link ≡ leads_out w point link
    leads-same link = ap (λ (o : Option KeptNode). kept_leads_out k o link) got ∙ leads-by (w.node point).exchange.settings (slice_get (w.node point).exchange.settings.links link)

  -- ---- by a link that doesn't lead out nothing is done

  module _ (point link : ℕ) (within : leads_out w point link ≡ false) where
    opens-by : (o : Option ℕ) → place_at point k ≡ o → (kept_opens_outside o link k).left ≡ k
    opens-by None e = refl
    opens-by (Some place) e =
        ap (λ (out : Bool). (comes_outside out false place (node_happens (CameUp link)) k).left) (leads-same point place e link ∙ within)

    pub opens-still : (kept_opens_outside (place_at point k) link k).left ≡ k
    opens-still = opens-by (place_at point k) refl

    hears-by : (text : List ℕ) (o : Option ℕ) → place_at point k ≡ o → (kept_hears_outside o link text k).left ≡ k
    hears-by text None e = refl
    hears-by text (Some place) e =
        ap (λ (out : Bool). (comes_outside out (kept_speaks_within k text) place (node_hears_outside link text) k).left) (leads-same point place e link ∙ within)

    pub hears-still : (text : List ℕ) → (kept_hears_outside (place_at point k) link text k).left ≡ k
    hears-still text = hears-by text (place_at point k) refl

    sends-by : (o : Option ℕ) → place_at point k ≡ o → (kept_sends_outside o link k).left ≡ k
    sends-by None e = refl
    sends-by (Some place) e = ap (λ (out : Bool). (sent_out out place link (slice_get k place) k).left) (leads-same point place e link ∙ within)

    pub sends-still : (kept_sends_outside (place_at point k) link k).left ≡ k
    sends-still = sends-by (place_at point k) refl
