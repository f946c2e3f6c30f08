-- What goes on, and what is returned, has a label, and fits a signalling information field.
use Rattle.std.proofs.Common.{◌≡◌, ◌≤◌, ℕ, ◌+◌, Bool, true, false, List, ◌++◌, drop, length, Some, Result, Ok, Err, subst, ◌⊎◌, inl, inr, arith, None}
use Rattle.std.proofs.lemmas.Bool.Decides.{nat_tests}
use Rattle.std.specs.Prelude.{◌^◌, ◌&&◌, nat_le, nat_lt, unwrap_or}
use Rattle.signalling_types.specs.declared.cause.Cause.{Cause}
use Rattle.signalling_types.specs.declared.limits.TheConstants.Limits.{SIF_OCTETS}
use Rattle.settings.specs.Configuration.{TitleEntry}
use Rattle.mtp3_codec.specs.declared.label.Label.{Label}
use Rattle.mtp3_codec.specs.Headings.{label_at, label_octets}
use Rattle.sccp_codec.specs.declared.address.Routing.{Routing}
use Rattle.sccp_codec.specs.declared.address.Routing.TheVariants.{Title, Ssn}
use Rattle.sccp_codec.specs.Messages.{address_octets, parts_of, pointed}
use Rattle.sccp_codec.specs.Extended.{after_parts, extended_octets, optional_pointer}
use Rattle.sccp_relay.specs.Sccp.{SccpValue, Plain, Extended, sccp_parts, with_new_parts, read_sccp, lowered, is_sccp_writable, sccp_octets}
use Rattle.sccp_relay.specs.Points.{OwnValue, point_by, unless_barred}
use Rattle.sccp_relay.specs.Statuses.{TitlesValue}
use Rattle.sccp_relay.specs.declared.subsystem.ProhibitedSubsystem.{ProhibitedSubsystem}
use Rattle.sccp_relay.specs.Relay.{Onward, relay, row_of, label_to, written, led_on, allowed, translated}
use Rattle.sccp_relay.specs.Returning.{return_cause, service, return_by, return_by_row, returned, sent_back, led_back}
use Rattle.sccp_relay.proofs.SaidMessages.{written-text}
use Rattle.sccp_relay.proofs.GoingOn.{Leads, Answered, in-case, read-leads}
use Rattle.sccp_relay.proofs.GoingBack.{goes-back, is-led_back, number-returns, read-returns}

pub record Fits (sif : List ℕ) : Type 0 where
  pub long : 4 ≤ length sif
  pub short : length sif ≤ SIF_OCTETS

at-most : (a b : ℕ) → nat_le a b ≡ true → a ≤ b
at-most a b e = grind (arith, nat_tests, e)

last-of-three : (a b c : Bool) → (a && b && c) ≡ true → c ≡ true
last-of-three true true c e = e
last-of-three true false c e = absurd cc
last-of-three false b c e = absurd cc

last-of-four : (a b c d : Bool) → (a && b && c && d) ≡ true → d ≡ true
last-of-four true b c d e = last-of-three b c d e
last-of-four false b c d e = absurd cc

octets-fit : (m : SccpValue) → is_sccp_writable m ≡ true → 4 + length (sccp_octets m) ≤ SIF_OCTETS
octets-fit (Plain u) e =
    let p = parts_of u in
    let pointers = nat_lt (3 + length (address_octets 0 p.called) + length (address_octets 0 p.calling)) (2 ^ 8) in
    let most : 4 + 2 + length (pointed p) ≤ SIF_OCTETS =
    at-most (4 + 2 + length (pointed p)) SIF_OCTETS (last-of-three pointers (nat_lt (length p.data) (2 ^ 8)) (nat_le (4 + 2 + length (pointed p)) SIF_OCTETS) e) in
    omega (arith, most)
octets-fit (Extended v) e =
    let p = v.parts in
    let pointers = nat_lt (4 + length (address_octets 0 p.called) + length (address_octets 0 p.calling)) (2 ^ 8) in
    at-most (4 + length (extended_octets v)) SIF_OCTETS
    (last-of-four pointers (nat_lt (length p.data) (2 ^ 8)) (nat_lt (optional_pointer v.optional (after_parts p)) (2 ^ 8)) (nat_le (4 + length (extended_octets v)) SIF_OCTETS) e)

written-fits : (point own : ℕ) (label : Label) (m : SccpValue) (field : List ℕ) → written point own label m ≡ Some field → Fits field
written-fits point own label m field e =
    let short = octets-fit m (in-case (is_sccp_writable m) (Some (label_octets (label_to point own label) ++ sccp_octets m)) field e).0 in
    subst Fits (written-text point own label m field e) (record { long = omega arith; short = omega (arith, short) })

leads-fits : (own : OwnValue) (titles : TitlesValue) (label : Label) (came : SccpValue) (field : List ℕ) → Leads own titles label came field ⊎ Answered own titles label came field → Fits field
leads-fits own titles label came field (inl l) =
    written-fits (point_by own titles.prohibited (Some label.opc) label.sls l.row) own.point label (with_new_parts (lowered came) (led_on l.called label.opc (sccp_parts came))) field l.writes
leads-fits own titles label came field (inr answered) = written-fits label.opc own.point label (allowed answered.answers.test) field answered.answers.writes

pub onward-fits : (own : OwnValue) (titles : TitlesValue) (text sif : List ℕ) → relay own titles text ≡ Onward sif → Fits sif
unfolding relay
onward-fits own titles text sif e =
    let r = read-leads own titles (label_at text) (read_sccp own.extended (drop 4 text)) sif e in
    leads-fits own titles (label_at text) r.came sif r.leads

-- ---- what is returned

row-fits : (own : OwnValue) (prohibited : List ProhibitedSubsystem) (label : Label) (number : ℕ) (came : SccpValue) (found : Result TitleEntry Cause) (field : List ℕ) → return_by_row own prohibited label number came found ≡ Some field → Fits field
row-fits own prohibited label number came (Err cause) field e = absurd cc
row-fits own prohibited label number came (Ok row) field e =
    let point = point_by own prohibited None label.sls row in
    let l = is-led_back own label number came point (translated row (sccp_parts came).calling) field e in
    let goes = service number came (led_back l.called (sccp_parts came)) in
    written-fits point own.point label goes field (goes-back own.point label point goes field l.returns).writes

routing-fits : (routing : Routing) (own : OwnValue) (titles : TitlesValue) (label : Label) (number : ℕ) (came : SccpValue) (field : List ℕ)
    → return_by routing own titles label number came ≡ Some field → Fits field
routing-fits Title own titles label number came field e = row-fits own titles.prohibited label number came (unless_barred own titles.prohibited None label.sls (row_of titles.rows (sccp_parts came).calling)) field e
routing-fits Ssn own titles label number came field e =
    let goes = service number came (sent_back (sccp_parts came)) in
    let point = unwrap_or (sccp_parts came).calling.point label.opc in
    written-fits point own.point label goes field
    (goes-back own.point label point goes field (number-returns own.point titles.prohibited label number came point field e).1).writes

pub returned-fits : (own : OwnValue) (titles : TitlesValue) (text : List ℕ) (cause : Cause) (sif : List ℕ) → returned own titles text cause ≡ Some sif → Fits sif
unfolding returned
returned-fits own titles text cause sif e =
    let r = read-returns own titles (label_at text) (return_cause cause) (read_sccp own.extended (drop 4 text)) sif e in
    routing-fits (sccp_parts r.came).calling.routing own titles (label_at text) r.number r.came sif r.returns
