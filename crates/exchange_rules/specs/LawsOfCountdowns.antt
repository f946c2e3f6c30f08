-- What is known of each prohibited subsystem at another point is when its next test is due: what changes that, and what
-- is tested: laws (Q.714 §5.2.3, §5.3.2 to §5.3.4).
use Rattle.std.specs.Prelude.{◌≡◌, ◌≢◌, ℕ, true, false, not, is_some, List, [], ◌∷◌, filter, map, None}
use Rattle.std.specs.List.{list_any}
use Rattle.signalling_types.specs.Message.{Message}
use Rattle.settings.specs.Configuration.{Configuration}
use Rattle.sccp_relay.specs.Points.{OwnValue}
use Rattle.sccp_relay.specs.Statuses.{TitlesValue, counted, heard, is_due, is_prohibited, is_same, leads_to}
use Rattle.sccp_relay.specs.SubsystemTests.{is_test_led, ticked}
use Rattle.sccp_relay.specs.declared.subsystem.ProhibitedSubsystem.{ProhibitedSubsystem}
use Rattle.sccp_relay.specs.declared.subsystem.Subsystem.{Subsystem}
use Rattle.sccp_relay.specs.declared.subsystem.SubsystemNews.{SubsystemNews}
use Rattle.exchange_rules.specs.Exchange.{taken}
use Rattle.exchange_rules.specs.First.{Abstract, first_state}
use Rattle.exchange_rules.specs.LawsOfSubsystems.{known_of}
use Rattle.exchange_rules.specs.Messages.{test_of, tests_due, with_titles}
use Rattle.exchange_rules.specs.Queues.{whole}
use Rattle.exchange_rules.specs.State.{Parts}

-- ---- an SSP and an SSA

-- an SSP or an SSA leaves what is known of each other subsystem. An SSP about one that is prohibited changes nothing,
-- so its test comes when it would; of one that wasn't, the first test comes after all the ticks between two
pub record IsKnownAs (sst : ℕ) (news : SubsystemNews) (titles : TitlesValue) : Type 0 where
  pub others : (subsystem : Subsystem) → is_same subsystem news.subsystem ≡ false →
      known_of subsystem (heard sst news titles).prohibited ≡ known_of subsystem titles.prohibited
  pub again : news.is_prohibited ≡ true → is_prohibited titles.prohibited news.subsystem ≡ true →
      heard sst news titles ≡ titles
  pub first : news.is_prohibited ≡ true → is_prohibited titles.prohibited news.subsystem ≡ false →
      is_prohibited (heard sst news titles).prohibited news.subsystem ≡ true →
      known_of news.subsystem (heard sst news titles).prohibited
      ≡ record { subsystem = news.subsystem; ticks = sst } ∷ []

abbrev pub news_change_one : Type 0
news_change_one = (sst : ℕ) (news : SubsystemNews) (titles : TitlesValue) → IsKnownAs sst news titles

-- ---- what else changes it

-- as a node starts all subsystems are allowed
abbrev pub none_is_prohibited_at_first : Type 0
none_is_prohibited_at_first = (c : Configuration) → (first_state c).node.parts.titles.prohibited ≡ []

-- a take leaves rows and prohibited subsystems
abbrev pub takes_leave_titles : Type 0
takes_leave_titles = (a : Abstract) (link : ℕ) → (taken whole a link).node.parts.titles ≡ a.node.parts.titles

-- a subsystem to which no row leads any more is forgotten by the tick by which its test is due, and not before that, as
-- long as its point is reached
abbrev pub unled_ones_go_as_due : Type 0
unled_ones_go_as_due =
    (own : OwnValue) (sst : ℕ) (titles : TitlesValue) (subsystem : Subsystem) →
    is_test_led own subsystem.point ≡ true → list_any (leads_to subsystem) titles.rows ≡ false →
    known_of subsystem (ticked own sst titles).prohibited
    ≡ filter (λ other. not (is_due other)) (map (counted sst) (known_of subsystem titles.prohibited))

-- ---- what is tested

-- the tests that go out while these subsystems are prohibited
abbrev pub tests_among : Configuration → Parts → List ProhibitedSubsystem → List Message
tests_among c p prohibited = tests_due c (with_titles (record p.titles { prohibited = prohibited }) p)

-- one test of each subsystem that has no tick left, in their order, and of no other; and none at all where it isn't
-- heard what other points say of their subsystems
pub record AreTestsOf (c : Configuration) (p : Parts) (one : ProhibitedSubsystem) (others : List ProhibitedSubsystem)
    : Type 0 where
  pub none : tests_among c p [] ≡ []
  pub due : is_some c.timers.sst ≡ true → one.ticks ≡ 0 →
      tests_among c p (one ∷ others) ≡ test_of c one.subsystem ∷ tests_among c p others
  pub later : one.ticks ≢ 0 → tests_among c p (one ∷ others) ≡ tests_among c p others
  pub unheard : c.timers.sst ≡ None → tests_among c p (one ∷ others) ≡ []

abbrev pub each_is_tested_as_due : Type 0
each_is_tested_as_due =
    (c : Configuration) (p : Parts) (one : ProhibitedSubsystem) (others : List ProhibitedSubsystem) →
    AreTestsOf c p one others
