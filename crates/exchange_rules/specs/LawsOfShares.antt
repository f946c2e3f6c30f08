-- A link's share of the pool: laws.
use Rattle.std.specs.Prelude.{◌≡◌, ◌≢◌, ◌≤◌, ◌<◌, ◌↔◌, ℕ, true, false, length, map, Option, None, Some}
use Rattle.settings.specs.Configuration.{Configuration, LinkEntry}
use Rattle.signalling_types.specs.Message.{Message, dpc_of, flow_of, is_management}
use Rattle.signalling_types.specs.declared.cause.Cause.TheVariants.{ShareFull}
use Rattle.signalling_types.specs.declared.outcome.Outcome.TheVariants.{Refused}
use Rattle.exchange_rules.specs.State.{Node}
use Rattle.exchange_rules.specs.Routing.{entry_of, link_of, waits}
use Rattle.exchange_rules.specs.Messages.{is_destination, transfer}
use Rattle.exchange_rules.specs.Queues.{WholeQueues, whole}

-- A user message for a destination of the settings finds room in the pool, and doesn't wait. Its link has a share of
-- the pool, and at least as many unconfirmed messages.
pub record FindsFullShare (c : Configuration) (m : Message) (node : Node WholeQueues) : Type 0 where
  pub user : is_management m ≡ false
  pub known : is_destination c (dpc_of m) ≡ true
  pub room : whole.users node.queues < c.pool
  pub free : waits c node.parts.holds m ≡ false
  pub link : ℕ
  pub share : ℕ
  pub its_link : link_of c node.parts (flow_of m) ≡ Some link
  pub its_share : (entry_of c link).share ≡ Some share
  pub full : share ≤ length (whole.unconfirmed node.queues link)

-- such a message is refused ShareFull, and no other
abbrev pub full_shares_refuse : Type 0
full_shares_refuse =
    (c : Configuration) (from : Option ℕ) (m : Message) (node : Node WholeQueues) →
    ((transfer whole c from m node).outcome ≡ Refused ShareFull) ↔ FindsFullShare c m node

-- the same link without a share, and the same settings with no share for any link
abbrev pub without_share : LinkEntry → LinkEntry
without_share l = record l { share = None }

abbrev pub without_shares : Configuration → Configuration
without_shares c = record c { links = map without_share c.links }

-- all other messages go as if no link had a share
abbrev pub others_know_no_shares : Type 0
others_know_no_shares =
    (c : Configuration) (from : Option ℕ) (m : Message) (node : Node WholeQueues) →
    (transfer whole c from m node).outcome ≢ Refused ShareFull →
    transfer whole c from m node ≡ transfer whole (without_shares c) from m node
