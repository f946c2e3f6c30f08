-- Which links of a node are captured, and what a client of the console is told of it.
use Rattle.std.specs.Prelude.{ℕ, Bool, true, false, if◌then◌else◌, List, [], ◌++◌, codes, length, replicate}
use Rattle.std.specs.Prelude.{slice_index_or, slice_set, Option, None, Some}
use Rattle.settings.specs.Configuration.{Configuration}
use Rattle.settings.specs.Readings.{link_place}
use Rattle.exchange.specs.Calls.{Kept}
use Rattle.console.specs.Names.{name_in}
use Rattle.served_node.specs.Counters.{first_texts}
use Rattle.served_node.specs.declared.captured_links.CaptureOrder.{CaptureOrder}
use Rattle.served_node.specs.declared.captured_links.TheConstants.{LINK_NUMBERS}
use Rattle.served_node.specs.declared.console_session.capturing.TheConstants.{HANDLED, IGNORED, NO_SUCH_NAME}

-- whether there is a capture, and for each number of a link whether that is captured
pub record Captured : Type 0 where
  pub is_there : Bool
  pub links : List Bool

abbrev pub none_captured : Captured
none_captured = record { is_there = false; links = replicate LINK_NUMBERS false }

abbrev pub all_captured : Captured
all_captured = record { is_there = true; links = replicate LINK_NUMBERS true }

abbrev pub is_captured : (link : ℕ) → Captured → Bool
is_captured link captured = slice_index_or captured.links link false

-- the links after an order to capture one, or all
abbrev pub links_by : (is_on : Bool) → (link : Option ℕ) → List Bool → List Bool
links_by is_on (Some link) links = slice_set links link is_on
links_by is_on None links = replicate LINK_NUMBERS is_on

-- an order changes nothing if there is no capture
abbrev pub captured_by : CaptureOrder → Captured → Captured
captured_by order captured =
    if captured.is_there
    then record captured { links = links_by order.is_on order.link captured.links }
    else captured

-- ---- by the name of a link

-- the order of a line, if it names no link, or one that is there
abbrev pub order_to : (is_on : Bool) → Option ℕ → Option CaptureOrder
order_to is_on None = None
order_to is_on (Some link) = Some (record { is_on = is_on; link = Some link })

abbrev pub order_of : Configuration → (is_on : Bool) → (name : Option (List ℕ)) → Option CaptureOrder
order_of configuration is_on None = Some (record { is_on = is_on; link = None })
order_of configuration is_on (Some name) = order_to is_on (link_place configuration name)

abbrev pub after_order : Option CaptureOrder → Captured → Captured
after_order None captured = captured
after_order (Some order) captured = captured_by order captured

abbrev pub answer_to : Option CaptureOrder → Captured → List ℕ
answer_to None captured = NO_SUCH_NAME.now
answer_to (Some order) captured = if captured.is_there then HANDLED.now else IGNORED.now

-- ---- what is shown

-- the line of the link of this name
abbrev pub captured_line : (name : List ℕ) → (is_on : Bool) → List ℕ
captured_line name true = codes "capture " ++ name ++ codes " on\n"
captured_line name false = codes "capture " ++ name ++ codes " off\n"

-- a line for each link, in the order of the settings
abbrev pub links_text : Kept → Captured → List ℕ
links_text s captured =
    first_texts (λ k. captured_line (name_in s.settings k) (is_captured k captured)) (length s.settings.links)

-- nothing if there is no capture
abbrev pub captured_text : Kept → Captured → List ℕ
captured_text s captured = if captured.is_there then links_text s captured else []
