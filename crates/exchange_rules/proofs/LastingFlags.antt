-- The flags never fall.
use Rattle.exchange_rules.proofs.Basics.{◌≡◌, true, refl, ◌∙◌}
use Rattle.exchange_rules.proofs.Definitions.{Configuration, Node, lost_any, late_any, WholeQueues, losses_stay, lateness_stays}
use Rattle.exchange_rules.proofs.Steps.{IsOfSteps}
use Rattle.exchange_rules.proofs.Asked.{any, IsOfAll, all-of, asked-all}

-- from one node to another the flags don't fall
pub record Flags (n m : Node WholeQueues) : Type 0 where
  pub lost : lost_any n.parts ≡ true → lost_any m.parts ≡ true
  pub late : late_any n.parts ≡ true → late_any m.parts ≡ true

same-flags : (n m : Node WholeQueues) → lost_any m.parts ≡ lost_any n.parts → late_any m.parts ≡ late_any n.parts → Flags n m
same-flags n m e f = record { lost = λ h. e ∙ h; late = λ h. f ∙ h }

pub flags-steps : (c : Configuration) → IsOfSteps c any any Flags
flags-steps c = record {
  none = λ n. same-flags _ _ refl refl;
  both = λ n m o f g. record { lost = λ h. g.lost (f.lost h); late = λ h. g.late (f.late h) };
  routed = λ link m n e. same-flags _ _ refl refl;
  declared = λ link other code n e f. same-flags _ _ refl refl;
  tested = λ link point test n e f. same-flags _ _ refl refl;
  probed = λ link n e. same-flags _ _ refl refl;
  held = λ m n e. same-flags _ _ refl refl;
  taken_out = λ n. same-flags _ _ refl refl;
  noted = λ notice n e. same-flags _ _ refl refl;
  lost = λ n. record { lost = λ h. refl; late = λ h. h };
  counted = λ messages broken n. record { lost = λ h. h; late = λ h. h };
  asked = λ link n e. record { lost = λ h. h; late = λ h. h };
  late = λ n. record { lost = λ h. h; late = λ h. refl };
  timed = λ r n e. same-flags _ _ refl refl;
  holding = λ h n e. same-flags _ _ refl refl;
  coded = λ set code awaited n. same-flags _ _ refl refl;
  rerouted = λ routes n e. same-flags _ _ refl refl;
  told = λ t n e. same-flags _ _ refl refl;
  titled = λ rows n. same-flags _ _ refl refl;
  unequipped = λ counts n e. same-flags _ _ refl refl;
  failed = λ link why st n e f. same-flags _ _ refl refl;
  dropped = λ link why n e. same-flags _ _ refl refl;
  completed = λ link number st n e f. same-flags _ _ refl refl;
  answered = λ link st n e f w. same-flags _ _ refl refl;
  linked = λ link x n e o. same-flags _ _ refl refl;
  parted = λ link n e. same-flags _ _ refl refl;
  opened = λ link n own e f g. same-flags _ _ refl refl;
  stepped = λ link input step n own e. same-flags _ _ refl refl;
  passed = λ link n e. same-flags _ _ refl refl;
  busied = λ link n own e f. same-flags _ _ refl refl;
  resumed = λ link n own e f. same-flags _ _ refl refl;
  accepted = λ link d confirmed n own e f. same-flags _ _ refl refl;
  sent = λ link next n own e. same-flags _ _ refl refl;
}

flags-all : (c : Configuration) → IsOfAll c Flags
flags-all c = all-of (flags-steps c) (λ n. same-flags _ _ refl refl) (λ n. same-flags _ _ refl refl)

pub losses-stay : losses_stay
losses-stay asked a = (asked-all (flags-all a.settings) asked a refl).lost

pub lateness-stays : lateness_stays
lateness-stays asked a = (asked-all (flags-all a.settings) asked a refl).late
