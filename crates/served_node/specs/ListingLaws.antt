-- What the console lists, by hand: a list that leaves something out makes the law false.
use Rattle.std.specs.Prelude.{◌≡◌, List, [], ◌∷◌, length, ℕ}
use Rattle.settings.specs.declared.timer_ticks.TimerTicks.{TimerTicks}
use Rattle.console.specs.TimerKeys.{keyed_timers}
use Rattle.console.specs.declared.settings_part.SettingsPart.{SettingsPart}
use Rattle.console.specs.declared.settings_part.SettingsPart.TheVariants as part
use Rattle.console.specs.declared.settings_part.TheConstants.{SETTINGS_PARTS, USER_INDICATORS}
use Rattle.console.specs.declared.timer_keys.TheConstants.{TIMERS}
use Rattle.served_node.specs.declared.console_session.link_facts.LinkFact.{LinkFact}
use Rattle.served_node.specs.declared.console_session.link_facts.LinkFact.TheVariants as fact
use Rattle.served_node.specs.declared.console_session.link_facts.TheConstants.{LINK_FACTS}

-- what is known of a link
abbrev pub every_fact : List LinkFact
every_fact =
    fact.Name ∷ fact.Set ∷ fact.Code ∷ fact.Adjacent ∷ fact.State ∷ fact.Waiting ∷ fact.LastSent ∷ fact.LastAccepted
    ∷ fact.Barred ∷ fact.Share ∷ fact.LastFailure ∷ fact.Retransmissions ∷ []

-- the parts of a settings file
abbrev pub every_part : List SettingsPart
every_part =
    part.Node ∷ part.Users ∷ part.UsersEnd ∷ part.Subsystems ∷ part.SubsystemsEnd ∷ part.Timers ∷ part.Sets
    ∷ part.Links ∷ part.Destinations ∷ part.Titles ∷ []

pub record ListingsAreWhole : Type 0 where
  pub facts : LINK_FACTS.now ≡ every_fact
  pub parts : SETTINGS_PARTS.now ≡ every_part
  -- user parts have the service indicators from 4 on (Q.704 §14.2.1)
  pub users : USER_INDICATORS.now ≡ 4 ∷ 5 ∷ 6 ∷ 7 ∷ 8 ∷ 9 ∷ 10 ∷ 11 ∷ 12 ∷ 13 ∷ 14 ∷ 15 ∷ []
  pub timers : (ticks : TimerTicks) → length (keyed_timers ticks) ≡ TIMERS
