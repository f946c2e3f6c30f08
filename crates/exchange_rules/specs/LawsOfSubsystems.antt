-- What is known of subsystems at other points, how they are tested, and what that does to messages by title: laws
-- (Q.714 §5.2.3, §5.3.2 to §5.3.4).
use Rattle.std.specs.Prelude.{◌≡◌, ◌≢◌, ◌≤◌, ◌<◌, ◌^◌, ◌%◌, ◌&&◌, ◌||◌, ℕ, zero, suc, Bool, true, false, not, is_some, nat_eq, List, [], drop, filter, map, Option, Some, None, Ok, Err}
use Rattle.std.specs.List.{list_any}
use Rattle.std.specs.Option.{option_map_or}
use Rattle.signalling_types.specs.declared.cause.Cause.TheVariants.{SubsystemProhibited}
use Rattle.signalling_types.specs.declared.outcome.Outcome.TheVariants.{Handled}
use Rattle.signalling_types.specs.Message.{Message, network_indicator, service_indicator}
use Rattle.settings.specs.Configuration.{Configuration, TitleEntry}
use Rattle.settings.specs.declared.title_row.TitleRoute.TheVariants as route
use Rattle.mtp3_codec.specs.Headings.{label_at}
use Rattle.sccp_codec.specs.declared.address.Routing.TheVariants.{Ssn}
use Rattle.sccp_codec.specs.declared.title.TitleKey.{TitleKey}
use Rattle.sccp_codec.specs.Management.{ManagementValue, read_management}
use Rattle.sccp_codec.specs.declared.management.ManagementKind.TheVariants as kinds
use Rattle.sccp_codec.specs.declared.management.ManagementKind.TheVariants.{SubsystemStatusTest}
use Rattle.sccp_codec.specs.Messages.{AddressValue, PartsValue, UdtValue}
use Rattle.sccp_relay.specs.Points.{OwnValue, is_backup_open, is_open, is_reached, is_shut, point_by, unless_barred}
use Rattle.sccp_relay.specs.Relay.{is_status, news_from}
use Rattle.sccp_relay.specs.Sccp.{Plain, is_class_connectionless, read_sccp}
use Rattle.sccp_relay.specs.Statuses.{TitlesValue, counted, first_prohibited, heard, is_due, is_full, is_prohibited, is_same, leads_to}
use Rattle.sccp_relay.specs.SubsystemTests.{is_test_led, ticked}
use Rattle.sccp_relay.specs.declared.subsystem.ProhibitedSubsystem.{ProhibitedSubsystem}
use Rattle.sccp_relay.specs.declared.subsystem.Subsystem.{Subsystem}
use Rattle.sccp_relay.specs.declared.subsystem.SubsystemNews.{SubsystemNews}
use Rattle.exchange_rules.specs.Exchange.{after}
use Rattle.exchange_rules.specs.First.{Abstract}
use Rattle.exchange_rules.specs.LawsOfMessages.{is_heard}
use Rattle.exchange_rules.specs.Messages.{local, own_of, sccp, sst_ticks, test_of, with_titles}
use Rattle.exchange_rules.specs.Receiving.{new_message}
use Rattle.exchange_rules.specs.State.{Node, answer, with_parts, Happening, CameUp, WentDown, FrameCame, Ticked, Submitted, Activated, Deactivated, Released, TitleAdded, TitleSet, TitleRemoved}
use Rattle.exchange_rules.specs.Queues.{WholeQueues, whole}

-- ---- what is heard

-- a message of SCCP for this point from another says this of a subsystem: it is a UDT of a class without a connection,
-- for SCCP management by its subsystem number, with an SSP or an SSA, where these are heard
pub record Says (c : Configuration) (m : Message) (about : ManagementValue) : Type 0 where
  pub heard_here : is_some c.timers.sst ≡ true
  pub of_sccp : nat_eq (service_indicator m) sccp ≡ true
  pub class_octet : ℕ
  pub parts : PartsValue
  pub reads : read_sccp c.extended_unitdata (drop 4 m.sif) ≡ Ok (Plain (UdtValue class_octet parts))
  pub connectionless : is_class_connectionless class_octet ≡ true
  pub routed : parts.called.routing ≡ Ssn
  pub management : parts.called.ssn ≡ Some 1
  pub elsewhere : nat_eq (label_at m.sif).opc c.own ≡ false
  pub says : read_management parts.data ≡ Ok about
  pub status : is_status about.kind ≡ true

-- news say from which point they came, which subsystem they are about, and that it is prohibited where they came in an
-- SSP, and allowed where in an SSA
pub record IsNewsOf (sender : ℕ) (about : ManagementValue) (news : SubsystemNews) : Type 0 where
  pub from : news.sender ≡ sender
  pub subsystem : news.subsystem ≡ record { point = about.point; ssn = about.ssn }
  pub ssp : about.kind ≡ kinds.SubsystemProhibited → news.is_prohibited ≡ true
  pub ssa : about.kind ≡ kinds.SubsystemAllowed → news.is_prohibited ≡ false

abbrev pub news_say_what_came : Type 0
news_say_what_came = (sender : ℕ) (about : ManagementValue) → IsNewsOf sender about (news_from sender about)

-- it is handled, and nothing changes but what is known of subsystems
abbrev pub statuses_are_heard : Type 0
statuses_are_heard =
    (c : Configuration) (from : Option ℕ) (m : Message) (about : ManagementValue) (node : Node WholeQueues) →
    Says c m about → local whole c from m node
    ≡ answer Handled
    (with_parts node (with_titles (heard (sst_ticks c) (news_from (label_at m.sif).opc about) node.parts.titles)
    node.parts))

-- the rows stay
abbrev pub rows_stay : Type 0
rows_stay = (sst : ℕ) (news : SubsystemNews) (titles : TitlesValue) → (heard sst news titles).rows ≡ titles.rows

-- after an SSP those subsystems are prohibited that were, and the one that it is about, if the point of that says it, a
-- row leads there, and there is room
abbrev pub an_ssp_prohibits_one : Type 0
an_ssp_prohibits_one =
    (sst : ℕ) (news : SubsystemNews) (titles : TitlesValue) (subsystem : Subsystem) → news.is_prohibited ≡ true →
    is_prohibited (heard sst news titles).prohibited subsystem
    ≡ (is_prohibited titles.prohibited subsystem
    || (nat_eq news.sender news.subsystem.point && list_any (leads_to news.subsystem) titles.rows
    && not (is_full titles.prohibited) && is_same subsystem news.subsystem))

-- after an SSA those that were, without the one that it is about, if the point of that says it
abbrev pub an_ssa_allows_one : Type 0
an_ssa_allows_one =
    (sst : ℕ) (news : SubsystemNews) (titles : TitlesValue) (subsystem : Subsystem) → news.is_prohibited ≡ false →
    is_prohibited (heard sst news titles).prohibited subsystem
    ≡ (is_prohibited titles.prohibited subsystem
    && not (nat_eq news.sender news.subsystem.point && is_same subsystem news.subsystem))

-- ---- what else changes which are prohibited

-- whether an event may change rows, or which subsystems are prohibited: a message that says something of a subsystem at
-- another point, and is heard, a tick, and an order about rows
abbrev pub changes_titles : Happening → Abstract → Bool
changes_titles (FrameCame link text) a = option_map_or (is_heard a.settings) (new_message link text a) false
changes_titles (Submitted m) a = is_heard a.settings m
changes_titles Ticked a = true
changes_titles (TitleAdded row is_memory_refused) a = true
changes_titles (TitleSet row is_memory_refused) a = true
changes_titles (TitleRemoved key digits) a = true
changes_titles (CameUp link) a = false
changes_titles (WentDown link) a = false
changes_titles (Activated link emergency) a = false
changes_titles (Deactivated link) a = false
changes_titles (Released link) a = false

-- no other does
abbrev pub nothing_else_changes_titles : Type 0
nothing_else_changes_titles =
    (what : Happening) (a : Abstract) → changes_titles what a ≡ false →
    (after whole what a).node.parts.titles ≡ a.node.parts.titles

-- by one that brings a message that is heard, what that says changes them, and nothing else
pub record IsHeardAs (c : Configuration) (m : Message) (old new : TitlesValue) : Type 0 where
  pub about : ManagementValue
  pub says : Says c m about
  pub is : new ≡ heard (sst_ticks c) (news_from (label_at m.sif).opc about) old

pub record IsHeardIn (m : Message) (a : Abstract) : Type 0 where
  pub framed : (link : ℕ) (text : List ℕ) → new_message link text a ≡ Some m →
      IsHeardAs a.settings m a.node.parts.titles (after whole (FrameCame link text) a).node.parts.titles
  pub submitted :
      IsHeardAs a.settings m a.node.parts.titles (after whole (Submitted m) a).node.parts.titles

abbrev pub what_is_heard_changes_titles : Type 0
what_is_heard_changes_titles =
    (m : Message) (a : Abstract) → is_heard a.settings m ≡ true → IsHeardIn m a

-- and an order about rows leaves which are prohibited
abbrev pub orders_leave_subsystems : Type 0
orders_leave_subsystems =
    (row : TitleEntry) (is_memory_refused : Bool) (key : TitleKey) (digits : List ℕ) (a : Abstract) →
    ((after whole (TitleAdded row is_memory_refused) a).node.parts.titles.prohibited ≡ a.node.parts.titles.prohibited)
    × ((after whole (TitleSet row is_memory_refused) a).node.parts.titles.prohibited ≡ a.node.parts.titles.prohibited)
    × ((after whole (TitleRemoved key digits) a).node.parts.titles.prohibited ≡ a.node.parts.titles.prohibited)

-- by a tick each has one less until its next test, and those stay whose point is reached as it ends and, if a test of
-- them is due, to which a row leads
abbrev pub a_tick_counts_them : Type 0
a_tick_counts_them =
    (a : Abstract) →
    (after whole Ticked a).node.parts.titles
    ≡ ticked (own_of a.settings (after whole Ticked a).node.parts) (sst_ticks a.settings) a.node.parts.titles

-- so after it the points of all that are prohibited are reached, by each link selection
abbrev pub none_is_where_nothing_leads : Type 0
none_is_where_nothing_leads =
    (a : Abstract) (subsystem : Subsystem) (sls : ℕ) →
    is_prohibited (after whole Ticked a).node.parts.titles.prohibited subsystem ≡ true →
    is_reached (own_of a.settings (after whole Ticked a).node.parts) sls subsystem.point ≡ true

-- ---- tests

-- what is known of a subsystem that is prohibited
abbrev pub known_of : Subsystem → List ProhibitedSubsystem → List ProhibitedSubsystem
known_of subsystem prohibited = filter (λ other. is_same subsystem other.subsystem) prohibited

-- a subsystem whose point is reached, and to which a row leads, stays prohibited over a tick
abbrev pub reached_ones_stay : Type 0
reached_ones_stay =
    (own : OwnValue) (sst : ℕ) (titles : TitlesValue) (subsystem : Subsystem) →
    is_test_led own subsystem.point ≡ true → list_any (leads_to subsystem) titles.rows ≡ true →
    known_of subsystem (ticked own sst titles).prohibited ≡ map (counted sst) (known_of subsystem titles.prohibited)

-- what is left after so many ticks
abbrev pub counted_times : (sst times : ℕ) → ProhibitedSubsystem → ProhibitedSubsystem
counted_times sst zero prohibited = prohibited
counted_times sst (suc more) prohibited = counted sst (counted_times sst more prohibited)

-- a test is due whenever so many ticks have passed since it was prohibited, and so many since then
abbrev pub tests_come_in_turn : Type 0
tests_come_in_turn =
    (sst times : ℕ) (subsystem : Subsystem) → 1 ≤ sst → 1 ≤ times →
    is_due (counted_times sst times (first_prohibited sst subsystem)) ≡ nat_eq (times % sst) 0

-- the address of SCCP management: subsystem 1, without a point and a title (Q.713 §3.4.2.2)
pub record IsManagementAddress (a : AddressValue) : Type 0 where
  pub routed : a.routing ≡ Ssn
  pub ssn : a.ssn ≡ Some 1
  pub point : a.point ≡ None
  pub untitled : a.title_indicator ≡ 0

-- a message reads as a test of a subsystem: an SST about it in a UDT of class 0, from SCCP management of this point to
-- that of its own
pub record ReadsAsTest (c : Configuration) (subsystem : Subsystem) (m : Message) : Type 0 where
  pub of_sccp : service_indicator m ≡ 3
  pub network : network_indicator m ≡ c.network
  pub label : label_at m.sif ≡ record { dpc = subsystem.point; opc = c.own; sls = 0 }
  pub parts : PartsValue
  pub reads : (extended : Bool) → read_sccp extended (drop 4 m.sif) ≡ Ok (Plain (UdtValue 0 parts))
  pub called : IsManagementAddress parts.called
  pub calling : IsManagementAddress parts.calling
  pub says : read_management parts.data
      ≡ Ok (record { kind = SubsystemStatusTest; ssn = subsystem.ssn; point = subsystem.point; multiplicity = 0 })

abbrev pub tests_read_as_such : Type 0
tests_read_as_such =
    (c : Configuration) (subsystem : Subsystem) → c.own < 2 ^ 14 → subsystem.point < 2 ^ 14 →
    ReadsAsTest c subsystem (test_of c subsystem)

-- ---- where a row leads

-- Messages reach a point if it is this one, or a link leads to it. For a row by number it is open if they do and that
-- subsystem isn't prohibited there, and shut if they do and it is. A row by title knows of no subsystem.
pub record IsSeenAs (own : OwnValue) (prohibited : List ProhibitedSubsystem) (sls point : ℕ) : Type 0 where
  pub here : is_reached own sls own.point ≡ true
  pub elsewhere : point ≢ own.point → is_reached own sls point ≡ own.leads point sls
  pub by_number : (ssn : ℕ) → is_open own prohibited sls (route.Ssn ssn) point
      ≡ (is_reached own sls point && not (is_prohibited prohibited (record { point = point; ssn = ssn })))
  pub shut_by_number : (ssn : ℕ) → is_shut own prohibited sls (route.Ssn ssn) point
      ≡ (is_reached own sls point && is_prohibited prohibited (record { point = point; ssn = ssn }))
  pub by_title : (number : Option ℕ) → is_open own prohibited sls (route.Title number) point
      ≡ is_reached own sls point
  pub shut_by_title : (number : Option ℕ) → is_shut own prohibited sls (route.Title number) point ≡ false

abbrev pub points_are_open_or_shut : Type 0
points_are_open_or_shut =
    (own : OwnValue) (prohibited : List ProhibitedSubsystem) (sls point : ℕ) → IsSeenAs own prohibited sls point

-- Where a row leads a message of a link selection that came from this sender, if from any.
pub record IsChoice (own : OwnValue) (prohibited : List ProhibitedSubsystem) (sender : Option ℕ) (sls : ℕ)
    (row : TitleEntry) : Type 0 where
  -- an open point is taken
  pub first : is_open own prohibited sls row.route row.point ≡ true
      → (unless_barred own prohibited sender sls (Ok row) ≡ Ok row)
      × (point_by own prohibited sender sls row ≡ row.point)
  -- else an open backup that isn't the sender
  pub second : (backup : ℕ) → row.backup ≡ Some backup → is_open own prohibited sls row.route row.point ≡ false
      → is_backup_open own prohibited sender sls row.route backup ≡ true
      → (unless_barred own prohibited sender sls (Ok row) ≡ Ok row)
      × (point_by own prohibited sender sls row ≡ backup)
  -- else the message is refused, if the point is shut, or the backup
  pub shut : is_shut own prohibited sls row.route row.point ≡ true
      → ((backup : ℕ) → row.backup ≡ Some backup → is_backup_open own prohibited sender sls row.route backup ≡ false)
      → unless_barred own prohibited sender sls (Ok row) ≡ Err SubsystemProhibited
  pub backup_shut : (backup : ℕ) → row.backup ≡ Some backup
      → is_open own prohibited sls row.route row.point ≡ false
      → is_shut own prohibited sls row.route backup ≡ true
      → unless_barred own prohibited sender sls (Ok row) ≡ Err SubsystemProhibited
  -- else it goes to the point, as if nothing were known of subsystems
  pub neither : is_shut own prohibited sls row.route row.point ≡ false
      → ((backup : ℕ) → row.backup ≡ Some backup → (is_backup_open own prohibited sender sls row.route backup ≡ false)
      × (is_shut own prohibited sls row.route backup ≡ false))
      → (unless_barred own prohibited sender sls (Ok row) ≡ Ok row)
      × (point_by own prohibited sender sls row ≡ row.point)

abbrev pub rows_lead_where_it_is_open : Type 0
rows_lead_where_it_is_open =
    (own : OwnValue) (prohibited : List ProhibitedSubsystem) (sender : Option ℕ) (sls : ℕ) (row : TitleEntry) →
    IsChoice own prohibited sender sls row

-- a row by title leads as if no subsystem were prohibited: it isn't known yet which one a message is for
abbrev pub titles_are_led_on : Type 0
titles_are_led_on =
    (own : OwnValue) (prohibited : List ProhibitedSubsystem) (sender : Option ℕ) (sls : ℕ) (row : TitleEntry)
    (number : Option ℕ) → row.route ≡ route.Title number →
    (unless_barred own prohibited sender sls (Ok row) ≡ Ok row)
    × (point_by own prohibited sender sls row ≡ point_by own [] sender sls row)

-- a row isn't refused for the subsystems at points that aren't reached
abbrev pub unreached_points_bar_nothing : Type 0
unreached_points_bar_nothing =
    (own : OwnValue) (prohibited : List ProhibitedSubsystem) (sender : Option ℕ) (sls : ℕ) (row : TitleEntry) →
    is_reached own sls row.point ≡ false →
    ((backup : ℕ) → row.backup ≡ Some backup → is_reached own sls backup ≡ false) →
    unless_barred own prohibited sender sls (Ok row) ≡ Ok row
