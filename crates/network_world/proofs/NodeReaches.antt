-- What becomes of two nodes of a network, where something that is done at one reaches the other.
use Rattle.std.proofs.Common.{◌≡◌, ◌<◌, ℕ, Bool, true, false, List, length, Option, Some, None, nat_lt, refl, ap, sym, subst, ◌∙◌}
use Rattle.std.specs.Prelude.{◌&&◌, if◌then◌else◌, slice_set}
use Rattle.std.specs.Option.{option_map}
use Rattle.signalling_types.specs.declared.outcome.Outcome.{Outcome}
use Rattle.signalling_types.specs.declared.outcome.Outcome.TheVariants.{Handled, Ignored}
use Rattle.m2pa_codec.specs.Frames.{FrameValue, spelled}
use Rattle.exchange_rules.specs.declared.wants.Wants.{Wants}
use Rattle.exchange_rules.specs.declared.wants.Wants.TheVariants as wants
use Rattle.exchange_rules.specs.State.{CameUp, is_link}
use Rattle.exchange_rules.specs.Queues.{whole}
use Rattle.exchange_rules.specs.Exchange.{frame_to_take, wants_of}
use Rattle.exchange_rules.specs.First.{Abstract, IsSound}
use Rattle.exchange.specs.Calls.{Kept, StandsFor, kept_of}
use Rattle.exchange.specs.Views.{may_restart_at}
use Rattle.exchange.proofs.Standing.{stands-after, stands-frame, stands-taken}
use Rattle.pair_rules.specs.Pairs.{Streams, emptied, may_open_at}
use Rattle.network_rules.specs.Networks.{NetworkNode, comes_up, end_of, is_led, reaches, sends}
use Rattle.network_world.specs.declared.doing.Reach.TheVariants as reach
use Rattle.network_world.specs.KeptSites.{behind_its, has_link, take_outcome, text_to_take}
use Rattle.network_world.specs.KeptNodes.{BothTurn, both_did, both_open, both_take, kept_node_of, node_takes}
use Rattle.network_world.specs.NetworkStands.{IsNodeOf, if_any}
use Rattle.network_world.proofs.Fetching.{behind-same, both-there, data-same, is-there, nothing-taken, statuses-same}
use Rattle.network_world.proofs.Newly.{stands-itself}
use Rattle.network_world.proofs.NodeFits.{Fits}
use Rattle.network_world.proofs.NodeRules.{IsNodeSame}

-- both nodes after it
pub record AreBothSame (t : BothTurn) (outcome : Outcome) (near far : NetworkNode) : Type 0 where
  pub outcome_same : t.outcome ≡ outcome
  pub near_node : IsNodeOf t.near near
  pub far_node : IsNodeOf t.far far

-- with the frame that was fetched, if there was one
abbrev pub sent_by : Option FrameValue → (link : ℕ) → NetworkNode → NetworkNode
sent_by (Some frame) link x = sends link x
sent_by None link x = x

abbrev pub reached_with : Option FrameValue → (link : ℕ) → NetworkNode → NetworkNode
reached_with (Some frame) link x = reaches frame link x
reached_with None link x = x

-- with the link that opened, if it did
abbrev pub opened_by : Wants → (may : Bool) → (link : ℕ) → NetworkNode → NetworkNode
opened_by wants.Open true link x = comes_up link x
opened_by wish may link x = x

abbrev pub led_by : Wants → (may : Bool) → (link : ℕ) → NetworkNode → NetworkNode
led_by wants.Open true link x = is_led link x
led_by wish may link x = x

abbrev pub open_outcome : Wants → (may : Bool) → Outcome
open_outcome wants.Open true = Handled
open_outcome wish may = Ignored

module _ (x : NetworkNode) (sound : IsSound x.exchange) (link : ℕ) where
  abbrev a : Abstract
  a = x.exchange

  abbrev k : StandsFor (kept_of a) a
  k = stands-itself a sound

  -- where there is no other end
  take-by : (frame : Option FrameValue) → frame_to_take whole a link ≡ frame
      → IsNodeSame (record { outcome = take_outcome (option_map spelled frame); left = (node_takes link (kept_node_of x)).left }) (if_any frame) (sent_by frame link x)
  take-by None e =
      record {
        outcome_same = refl;
        node = record {
          sound = sound;
          kept = ap (λ (e : Kept). record (kept_node_of x) { exchange = e }) ((stands-taken link (kept_of a) a k).kept ∙ ap kept_of (nothing-taken a link e));
        };
      }
  take-by (Some frame) e =
      let s = stands-taken link (kept_of a) a k in
      record {
        outcome_same = refl;
        node = record { sound = s.sound; kept = ap (λ (e : Kept). record (kept_node_of x) { exchange = e }) s.kept };
      }

  abbrev frame_now : Option FrameValue
  frame_now = frame_to_take whole a link

  pub text-same : text_to_take (kept_of a) link ≡ option_map spelled frame_now
  text-same = ap (option_map spelled) (stands-frame link (kept_of a) a k)

  pub take-alone : IsNodeSame (node_takes link (kept_node_of x)) (if_any frame_now) (sent_by frame_now link x)
  take-alone =
      let t = take-by frame_now refl in
      record { outcome_same = ap take_outcome text-same ∙ t.outcome_same; node = t.node }

  -- and where it is at another node
  module _ (y : NetworkNode) (far_sound : IsSound y.exchange) (fits : Fits y) (other : ℕ) (there : other < length y.exchange.settings.links) where
    has-place : has_link other y.incoming ≡ true
    has-place =
        both-there
        (is-there other (length y.incoming.statuses) (subst (λ (n : ℕ). other < n) (sym fits.statuses) there))
        (is-there other (length y.incoming.user_data) (subst (λ (n : ℕ). other < n) (sym fits.user_data) there))

    far-by : (frame : Option FrameValue) → IsNodeOf (record (kept_node_of y) { incoming = behind_its (option_map spelled frame) other y.incoming }) (reached_with frame other y)
    far-by None = record {
      sound = far_sound;
      kept = λ i. record (kept_node_of y) { incoming = record { statuses = statuses-same y.incoming other i; user_data = data-same y.incoming other i } };
    }
    far-by (Some frame) = record {
      sound = far_sound;
      kept = ap (λ (s : Streams). record (kept_node_of y) { incoming = s }) (behind-same y.incoming other frame);
    }

    take-both : AreBothSame (both_take link other (kept_node_of x) (kept_node_of y)) (if_any frame_now) (sent_by frame_now link x) (reached_with frame_now other y)
    take-both =
        let t = take-alone in
        let f = far-by frame_now in
        record {
          outcome_same = t.outcome_same;
          near_node = t.node;
          far_node = record {
            sound = f.sound;
            kept = ap (λ (text : Option (List ℕ)). record (kept_node_of y) { incoming = behind_its text other y.incoming }) text-same ∙ f.kept;
          };
        }

    pub fetch-same : AreBothSame (both_did reach.Fetch link other (kept_node_of x) (kept_node_of y)) (if_any frame_now) (sent_by frame_now link x) (reached_with frame_now other y)
    fetch-same =
        subst (λ (b : Bool). AreBothSame (if b then both_take link other (kept_node_of x) (kept_node_of y) else record { outcome = Ignored; near = kept_node_of x; far = kept_node_of y })
        (if_any frame_now) (sent_by frame_now link x) (reached_with frame_now other y))
        (sym has-place) take-both

    -- the link opens
    none-opens : AreBothSame (record { outcome = Ignored; near = kept_node_of x; far = kept_node_of y }) Ignored x y
    none-opens = record { outcome_same = refl; near_node = record { sound = sound; kept = refl }; far_node = record { sound = far_sound; kept = refl } }

    open-by : (wish : Wants) (may : Bool)
        → AreBothSame (both_open wish may link other (kept_node_of x) (kept_node_of y)) (open_outcome wish may) (opened_by wish may link x) (led_by wish may other y)
    open-by wants.Open true =
        let s = stands-after (CameUp link) (kept_of a) a k in
        record {
          outcome_same = refl;
          near_node = record {
            sound = s.sound;
            kept = ap (λ (e : Kept). record (kept_node_of x) { exchange = e; incoming = emptied link x.incoming; following = slice_set x.following link false }) s.kept;
          };
          far_node = record { sound = far_sound; kept = refl };
        }
    open-by wants.Open false = none-opens
    open-by wants.Nothing may = none-opens
    open-by wants.Close may = none-opens

    abbrev may_there : Bool
    may_there = may_open_at (end_of y) other

    may-same : may_restart_at (kept_of y.exchange) other ≡ may_there
    may-same =
        let is : is_link y.exchange.node.parts other ≡ true = ap (nat_lt other) fits.places.parts.links ∙ is-there other (length y.exchange.settings.links) there in
        ap (λ (b : Bool). b && may_there) is

    pub open-same : AreBothSame (both_did reach.Open link other (kept_node_of x) (kept_node_of y)) (open_outcome (wants_of a link) may_there) (opened_by (wants_of a link) may_there link x)
        (led_by (wants_of a link) may_there other y)
    open-same =
        subst (λ (b : Bool). AreBothSame (both_open (wants_of a link) b link other (kept_node_of x) (kept_node_of y)) (open_outcome (wants_of a link) may_there)
        (opened_by (wants_of a link) may_there link x) (led_by (wants_of a link) may_there other y))
        (sym may-same) (open-by (wants_of a link) may_there)
