-- The checked settings of a node, as plain data.
use Rattle.std.specs.Prelude.{ℕ, Bool, List, [], Option, None}
use Rattle.settings.specs.declared.timer_ticks.TimerTicks.{TimerTicks}
use Rattle.settings.specs.declared.title_row.TitleRoute.{TitleRoute}

-- a link set: its name, and the point that its links lead to
pub record SetEntry : Type 0 where
  pub name : List ℕ
  pub adjacent : ℕ

-- a link: its name, the number of its set, its signalling link code there, and its share of the pool, which is how many
-- messages it may keep before more are refused; without a share, as many as the pool has room for
pub record LinkEntry : Type 0 where
  pub name : List ℕ
  pub set : ℕ
  pub slc : ℕ
  pub share : Option ℕ

-- a destination: its point code, the numbers of the sets that lead to it, the preferred one first, and whether the
-- first two of them are joined, which means preferred alike
pub record DestinationEntry : Type 0 where
  pub point : ℕ
  pub sets : List ℕ
  pub joined : Bool

-- how a translation row changes the title of a called address: the numbering plan and the nature of address that it
-- gets in place of its own, if any, how many of its first digits are taken off, and the digits that are then put on in
-- front (Q.714 §2.4)
pub record ChangeEntry : Type 0 where
  pub plan : Option ℕ
  pub nature : Option ℕ
  pub removed : ℕ
  pub added : List ℕ

-- no change: the title goes on as it came
abbrev pub unchanged : ChangeEntry
unchanged = record { plan = None; nature = None; removed = 0; added = [] }

-- a translation row: what its addresses begin with, where they lead, the point that they lead to while that one can't
-- be reached, if any, and how their titles change (Q.714 §2.4)
pub record TitleEntry : Type 0 where
  pub translation : ℕ
  pub plan : ℕ
  pub nature : ℕ
  pub digits : List ℕ
  pub point : ℕ
  pub backup : Option ℕ
  pub route : TitleRoute
  pub change : ChangeEntry

-- all settings of a node, its sets, links and destinations by number in the order of the settings; among them whether
-- it relays extended unitdata (XUDT, XUDTS), whether it answers a test of a subsystem that it has (SST), and whether it
-- tells the sender of a message for a user part that it doesn't have so (UPU, Q.704 §11.2.7); whether a link stays in
-- service while its peer's processor is out (Q.703 §8), and whether it sends Out of Service before Alignment as its
-- association comes up (RFC 4165 §5.1); and whether an order to change over goes out wherever there is a way to the
-- adjacent point, not only by another link of the same set (Q.704 §5, Q.2210)
pub record Configuration : Type 0 where
  pub own : ℕ
  pub network : ℕ
  pub window : ℕ
  pub pool : ℕ
  pub users : List ℕ
  pub subsystems : List ℕ
  pub extended_unitdata : Bool
  pub subsystem_tests : Bool
  pub user_part_unavailable : Bool
  pub processor_outage : Bool
  pub out_of_service : Bool
  pub changeover_by_any_route : Bool
  pub timers : TimerTicks
  pub sets : List SetEntry
  pub links : List LinkEntry
  pub destinations : List DestinationEntry
  pub titles : List TitleEntry
