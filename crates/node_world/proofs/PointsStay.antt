-- Whatever is done, the nodes of a world stay at their points.
use Rattle.std.proofs.Common.{◌≡◌, ℕ, Bool, true, false, List, Some, length, refl, ap, sym, ◌∙◌}
use Rattle.std.specs.Prelude.{slice_get, slice_set}
use Rattle.std.proofs.Math.Seq.{map-set_same}
use Rattle.std.proofs.lemmas.Option.{get_or_from_slice_get}
use Rattle.settings.specs.Configuration.{Configuration}
use Rattle.exchange.specs.declared.event.Event.{Event}
use Rattle.signalling_types.specs.declared.outcome.Outcome.{Outcome}
use Rattle.sctp_gate.specs.Calling as calling
use Rattle.node_world.specs.Calls.{NodesCall, NodesStep}
use Rattle.node_world.specs.Kept.{KeptNode, points_of}
use Rattle.node_world.specs.Worlds.{is_own}
use Rattle.node_world.proofs.Worlds.{call-length, step-length}

abbrev own : KeptNode → ℕ
own n = n.exchange.settings.own

-- as many nodes, at the same points
pub record StayThere (was is : List KeptNode) : Type 0 where
  pub many : length is ≡ length was
  pub points : points_of is ≡ points_of was

put-points : (k : List KeptNode) (place : ℕ) (old new : KeptNode) → slice_get k place ≡ Some old → new.exchange.settings ≡ old.exchange.settings → points_of (slice_set k place new) ≡ points_of k
put-points k place old new there same =
    map-set_same own k place new old (ap (λ (c : Configuration). c.own) same ∙ sym (ap own (get_or_from_slice_get k place old old there)))

all-same : (was is : List KeptNode) → is ≡ was → StayThere was is
all-same was is e = record { many = ap length e; points = ap points_of e }

pub stay-steps : (was is : List KeptNode) (place : ℕ) (event : Event) (outcome : Outcome) → (is_own event ≡ true → NodesStep place event outcome was is) → (is_own event ≡ false → is ≡ was)
    → StayThere was is
stay-steps was is place event outcome steps unchanged = by (is_own event) refl
  where
    by : (b : Bool) → is_own event ≡ b → StayThere was is
    by true own =
        let t : NodesStep place event outcome was is = steps own in
        record { many = step-length was is place event outcome t; points = ap points_of t.new_is ∙ put-points was place t.old t.new t.old_is t.settings }
    by false own = all-same was is (unchanged own)

pub stay-called : (was is : List KeptNode) (place link : ℕ) (call : calling.Call) (done : Bool) → (done ≡ true → NodesCall place link call was is) → (done ≡ false → is ≡ was) → StayThere was is
stay-called was is place link call true calls unchanged =
    let t : NodesCall place link call was is = calls refl in
    record { many = call-length was is place link call t; points = ap points_of t.new_is ∙ put-points was place t.old t.new t.old_is t.settings }
stay-called was is place link call false calls unchanged = all-same was is (unchanged refl)
