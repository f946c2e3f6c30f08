-- What lasts of each link, over every event and every take: laws.
use Rattle.std.specs.Prelude.{◌≡◌, ◌≤◌, ◌-◌, ◌&&◌, ℕ, Bool, true, false, nat_lt, length, List, []}
use Rattle.settings.specs.Configuration.{Configuration}
use Rattle.signalling_types.specs.declared.limits.TheConstants.Limits.{LINKS, WINDOW}
use Rattle.timers.specs.declared.name.TimerName.TheVariants.{L7}
use Rattle.timers.specs.Timers.{is_running}
use Rattle.link.specs.Queue.{Queue, IsQueue}
use Rattle.node_links.specs.NodeLinks.{Link, is_down, is_in_service}
use Rattle.changeover.specs.Changeover.{Standing}
use Rattle.exchange_rules.specs.State.{Asking, Node, link_at}
use Rattle.exchange_rules.specs.ChangingOver.{changeover_of}
use Rattle.exchange_rules.specs.Sending.{may_send}
use Rattle.exchange_rules.specs.Queues.{WholeQueues, queue_at}
use Rattle.exchange_rules.specs.Lasting.{after_each, HasAllPlaces}
use Rattle.exchange_rules.specs.First.{Abstract, first_state}

-- what holds of a link, by its state, its changeover, its queue, and whether its L7 runs
pub record IsSteady (window : ℕ) (l : Link) (s : Standing) (q : Queue) (l7_runs : Bool) : Type 0 where
  -- counts are in order, and no more than a window is sent and unconfirmed
  pub queue : IsQueue window q
  -- it is down while it has no association
  pub associated : l.association ≡ false → is_down l.alignment ≡ true
  -- and while its changeover isn't complete, or the answer to its order is awaited
  pub changing : s.incomplete ≡ true → is_down l.alignment ≡ true
  pub awaiting : s.awaited ≡ true → is_down l.alignment ≡ true
  -- out of service, messages are in its queue only until its changeover is complete
  pub moved : is_in_service l.alignment ≡ false → s.incomplete ≡ false → q.all ≡ []
  -- L7 runs exactly while it is in service, its peer isn't busy, and something that was sent isn't confirmed
  pub watched : l7_runs ≡ (may_send l && nat_lt 0 (q.sent - q.confirmed))

-- whether that of a link holds in a node
abbrev pub is_l7_running : Node WholeQueues → ℕ → Bool
is_l7_running node link = is_running (L7 link) node.parts.timers

-- each link is steady
pub record AreLinksSteady (window : ℕ) (node : Node WholeQueues) : Type 0 where
  pub each :
      (link : ℕ) →
      IsSteady window (link_at node.parts link) (changeover_of node.parts link) (queue_at node.queues link)
      (is_l7_running node link)

-- at first each is
abbrev pub links_first_steady : Type 0
links_first_steady = (c : Configuration) → c.window ≤ WINDOW → AreLinksSteady c.window (first_state c).node

-- and this stays so for each, whatever is asked
abbrev pub links_stay_steady : Type 0
links_stay_steady =
    (asked : List Asking) (a : Abstract) → HasAllPlaces a.settings a.node →
    AreLinksSteady a.settings.window a.node →
    AreLinksSteady a.settings.window (after_each asked a).node

-- so L7 watches what was sent, in each state reached from the first
abbrev pub l7_watches : Type 0
l7_watches =
    (c : Configuration) (asked : List Asking) (link : ℕ) → length c.links ≤ LINKS → c.window ≤ WINDOW →
    is_l7_running (after_each asked (first_state c)).node link
    ≡ (may_send (link_at (after_each asked (first_state c)).node.parts link)
    && nat_lt 0
    ((queue_at (after_each asked (first_state c)).node.queues link).sent
    - (queue_at (after_each asked (first_state c)).node.queues link).confirmed))
