-- The routes to adjacent points over their own sets are allowed in each state reached from the first.
use Rattle.exchange_rules.proofs.Basics.{◌≡◌, ℕ, false, List, [], Option, None, refl, ap, subst, sym, ◌∙◌, slice_index_or, get_or-map}
use Rattle.exchange_rules.proofs.Definitions.{Configuration, DestinationEntry, first_routes, ToldTable, is_number, Node, WholeQueues, first_parts, first_state}
use Rattle.exchange_rules.specs.LastingRoutes.{own_routes_stay_allowed}
use Rattle.exchange_rules.proofs.Steps.{AreOwnAllowed, IsOfSteps}
use Rattle.exchange_rules.proofs.Asked.{any, IsOfAll, all-of, asked-all}
use Rattle.exchange_rules.proofs.OwnRoutes.{over, first-allowed}

-- from one node to another they stay so
record Keeps (n m : Node WholeQueues) : Type 0 where
  stay : AreOwnAllowed n.parts.told n.parts.routes → AreOwnAllowed m.parts.told m.parts.routes

-- other parts change
same : (n m : Node WholeQueues) → m.parts.told ≡ n.parts.told → m.parts.routes ≡ n.parts.routes → Keeps n m
same n m e f = record { stay = λ h. subst (λ routes. AreOwnAllowed m.parts.told routes) (sym f) (subst (λ t. AreOwnAllowed t n.parts.routes) (sym e) h) }

-- the points of sets are the same
pub as-told : (t u : ToldTable) (n : Node WholeQueues) → u.adjacents ≡ t.adjacents → AreOwnAllowed t n.parts.routes → AreOwnAllowed u n.parts.routes
as-told t u n e h = record {
  each = λ set destination status is f.
      h.each set destination status (ap (λ (places : List (Option ℕ)). is_number destination (slice_index_or places set None)) (sym e) ∙ is) f;
}

routes-steps : (c : Configuration) → IsOfSteps c any any Keeps
routes-steps c = record {
  none = λ n. same _ _ refl refl;
  both = λ n m o f g. record { stay = λ h. g.stay (f.stay h) };
  routed = λ link m n e. same _ _ refl refl;
  declared = λ link other code n e f. same _ _ refl refl;
  tested = λ link point test n e f. same _ _ refl refl;
  probed = λ link n e. same _ _ refl refl;
  held = λ m n e. same _ _ refl refl;
  taken_out = λ n. same _ _ refl refl;
  noted = λ notice n e. same _ _ refl refl;
  lost = λ n. same _ _ refl refl;
  counted = λ messages broken n. same _ _ refl refl;
  asked = λ link n e. same _ _ refl refl;
  late = λ n. same _ _ refl refl;
  timed = λ r n e. same _ _ refl refl;
  holding = λ h n e. same _ _ refl refl;
  coded = λ set code awaited n. same _ _ refl refl;
  rerouted = λ routes n e. record { stay = e.own };
  told = λ t n e. record { stay = as-told n.parts.told t n e.adjacents };
  titled = λ rows n. same _ _ refl refl;
  unequipped = λ counts n e. same _ _ refl refl;
  failed = λ link why st n e f. same _ _ refl refl;
  dropped = λ link why n e. same _ _ refl refl;
  completed = λ link number st n e f. same _ _ refl refl;
  answered = λ link st n e f w. same _ _ refl refl;
  linked = λ link x n e o. same _ _ refl refl;
  parted = λ link n e. same _ _ refl refl;
  opened = λ link n own e f g. same _ _ refl refl;
  stepped = λ link input step n own e. same _ _ refl refl;
  passed = λ link n e. same _ _ refl refl;
  busied = λ link n own e f. same _ _ refl refl;
  resumed = λ link n own e f. same _ _ refl refl;
  accepted = λ link d confirmed n own e f. same _ _ refl refl;
  sent = λ link next n own e. same _ _ refl refl;
}

routes-all : (c : Configuration) → IsOfAll c Keeps
routes-all c = all-of (routes-steps c) (λ n. same _ _ refl refl) (λ n. same _ _ refl refl)

pub routes-first : (c : Configuration) → AreOwnAllowed (first_parts c).told (first_parts c).routes
routes-first c =
    let none : DestinationEntry = record { point = 0; sets = []; joined = false } in
    record {
      each = λ set destination status is e.
          first-allowed (slice_index_or c.destinations destination none).joined (slice_index_or c.destinations destination none).sets set status (sym (ap (over set) (get_or-map first_routes c.destinations destination none)) ∙ e);
    }

pub own-stay : own_routes_stay_allowed
own-stay c asked set destination status is e = ((asked-all (routes-all c) asked (first_state c) refl).stay (routes-first c)).each set destination status is e
