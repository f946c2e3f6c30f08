-- A point to which the links of one set lead, and of no other, over every event and every take: laws.
use Rattle.std.specs.Prelude.{◌≡◌, ◌≢◌, ◌&&◌, ℕ, Bool, false, not, nat_eq, List, [], ◌∷◌, Some, slice_index_or}
use Rattle.std.specs.List.{list_any}
use Rattle.signalling_types.specs.Message.{Message, dpc_of, is_management}
use Rattle.settings.specs.Configuration.{Configuration}
use Rattle.settings.specs.Readings.{destination_place}
use Rattle.settings.specs.Sharing.{LeadsAlone}
use Rattle.routes.specs.Routes.{first_route, chosen_link}
use Rattle.exchange_rules.specs.State.{Asking, Parts, Node, in_traffic}
use Rattle.exchange_rules.specs.Routing.{set_of, facts}
use Rattle.exchange_rules.specs.Queues.{WholeQueues, queue_at}
use Rattle.exchange_rules.specs.Lasting.{after_each}
use Rattle.exchange_rules.specs.First.{first_state}

abbrev pub is_user_to : (point : ℕ) → Message → Bool
is_user_to point m = not (is_management m) && nat_eq (dpc_of m) point

-- the route to the point is allowed; each flow there that has a link has one of the set; and the user messages for it
-- that are on links are on links of the set
pub record GoesBySet (c : Configuration) (set point destination : ℕ) (node : Node WholeQueues) : Type 0 where
  pub route : slice_index_or node.parts.routes destination [] ≡ first_route set ∷ []
  pub links : (sls link : ℕ) → chosen_link (facts c node.parts) destination sls ≡ Some link → set_of c link ≡ set
  pub queues : (link : ℕ) → set_of c link ≢ set → list_any (is_user_to point) (queue_at node.queues link).all ≡ false

-- this holds in each state reached from the first
abbrev pub flows_stay_on_their_set : Type 0
flows_stay_on_their_set =
    (c : Configuration) (asked : List Asking) (set point destination : ℕ) → LeadsAlone c point set →
    destination_place c point ≡ Some destination →
    GoesBySet c set point destination (after_each asked (first_state c)).node

-- which link of the set a flow takes depends only on which of its links carry traffic
abbrev pub the_set_decides_its_flows : Type 0
the_set_decides_its_flows =
    (c : Configuration) (before after : Parts) (set destination sls : ℕ) →
    slice_index_or before.routes destination [] ≡ first_route set ∷ [] →
    slice_index_or after.routes destination [] ≡ first_route set ∷ [] →
    ((link : ℕ) → set_of c link ≡ set → in_traffic before link ≡ in_traffic after link) →
    chosen_link (facts c before) destination sls ≡ chosen_link (facts c after) destination sls
