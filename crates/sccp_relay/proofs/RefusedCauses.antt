-- The causes for which SCCP messages are refused.
use Rattle.std.proofs.Common.{◌≡◌, ℕ, Bool, true, false, List, [], ◌∷◌, drop, length, Option, Some, None, Result, Ok, Err, refl, not}
use Rattle.std.specs.List.{list_any}
use Rattle.std.specs.Prelude.{◌%◌, nat_eq, nat_lt, if◌then◌else◌}
use Rattle.signalling_types.specs.declared.cause.Cause.{Cause}
use Rattle.signalling_types.specs.declared.cause.Cause.TheVariants.{NoNature, NoDigits, SubsystemProhibited, NotInProfile, BadSccp, Unequipped, HopCounter, TooLong}
use Rattle.settings.specs.Configuration.{ChangeEntry, TitleEntry}
use Rattle.mtp3_codec.specs.declared.label.Label.{Label}
use Rattle.mtp3_codec.specs.Headings.{label_at}
use Rattle.sccp_codec.specs.Titles.{TitleValue, digits_in, read_octets, read_title, title_octets}
use Rattle.sccp_codec.specs.Messages.{AddressValue}
use Rattle.sccp_codec.specs.declared.address.Routing.{Routing}
use Rattle.sccp_codec.specs.declared.address.Routing.TheVariants.{Title, Ssn}
use Rattle.sccp_codec.specs.declared.fault.SccpFault.{SccpFault}
use Rattle.sccp_codec.specs.declared.fault.SccpFault.TheVariants.{Short, Pointer, Kind}
use Rattle.sccp_relay.specs.Translation.{has_key, or_refusal}
use Rattle.sccp_relay.specs.Sccp.{SccpValue, sccp_parts, with_new_parts, read_sccp, is_connectionless, has_valid_hops, lowered, is_spent}
use Rattle.sccp_relay.specs.Changing.{is_unchanged, changed_key, changed_digits, changed_octets, title_after}
use Rattle.sccp_relay.specs.Points.{OwnValue, is_barred, point_by, unless_barred}
use Rattle.sccp_relay.specs.Statuses.{TitlesValue}
use Rattle.sccp_relay.specs.declared.subsystem.SubsystemNews.{SubsystemNews}
use Rattle.sccp_relay.specs.Relay.{RelayedValue, Delivered, Onward, Heard, Refused, relay, relay_read, relay_by_routing, relay_by_row, row_of, row_of_title, ssn_by, led_with, translated, written, onward, led_on, lead_on, is_equipped, answered_or, answer, news, heard_or}

abbrev pub is_relay_cause : Cause → Bool
is_relay_cause NoNature = true
is_relay_cause NoDigits = true
is_relay_cause SubsystemProhibited = true
is_relay_cause NotInProfile = true
is_relay_cause BadSccp = true
is_relay_cause Unequipped = true
is_relay_cause HopCounter = true
is_relay_cause TooLong = true
is_relay_cause cause = false

abbrev pub is_refused_so : RelayedValue → Bool
is_refused_so Delivered = true
is_refused_so (Onward sif) = true
is_refused_so (Heard news) = true
is_refused_so (Refused cause) = is_relay_cause cause

either-so : (b : Bool) (v w : RelayedValue) → is_refused_so v ≡ true → is_refused_so w ≡ true → is_refused_so (if b then v else w) ≡ true
either-so true v w h k = h
either-so false v w h k = k

-- of a row, or of a title
abbrev is_row_so : Result TitleEntry Cause → Bool
is_row_so (Ok row) = true
is_row_so (Err cause) = is_relay_cause cause

abbrev is_title_so : Result TitleValue Cause → Bool
is_title_so (Ok title) = true
is_title_so (Err cause) = is_relay_cause cause

abbrev is_text_so : Result (List ℕ) Cause → Bool
is_text_so (Ok octets) = true
is_text_so (Err cause) = is_relay_cause cause

abbrev is_address_so : Result AddressValue Cause → Bool
is_address_so (Ok address) = true
is_address_so (Err cause) = is_relay_cause cause

octets-so : (octets : List ℕ) → is_title_so (read_octets octets) ≡ true
octets-so [] = refl
octets-so (a ∷ []) = refl
octets-so (a ∷ b ∷ []) = refl
octets-so (a ∷ b ∷ d ∷ rest) = by (nat_eq (b % 16) 1) (nat_eq (b % 16) 2) _ _
  where
    by : (odd even : Bool) (s t : TitleValue) → is_title_so (if odd then Ok s else (if even then Ok t else Err NoNature)) ≡ true
    by true even s t = refl
    by false true s t = refl
    by false false s t = refl

title-so : (b : Bool) (octets : List ℕ) → is_title_so (if b then read_octets octets else Err NoNature) ≡ true
title-so true octets = octets-so octets
title-so false octets = refl

translated-so : (row : Option TitleEntry) (b : Bool) → is_row_so (or_refusal row (if b then NoDigits else NoNature)) ≡ true
translated-so (Some row) b = refl
translated-so None true = refl
translated-so None false = refl

row-so : (rows : List TitleEntry) (title : Result TitleValue Cause) → is_title_so title ≡ true → is_row_so (row_of_title rows title) ≡ true
row-so rows (Err cause) h = h
row-so rows (Ok title) h = translated-so _ (list_any (has_key title.key) rows)

onward-so : (sif : Option (List ℕ)) → is_refused_so (onward sif) ≡ true
onward-so (Some sif) = refl
onward-so None = refl

answered-so : (answer : Option (List ℕ)) (b : Bool) → is_refused_so (answered_or answer (if b then Delivered else Refused Unequipped)) ≡ true
answered-so (Some sif) b = refl
answered-so None true = refl
answered-so None false = refl

-- ---- a title that is changed

text-so : (none long : Bool) (octets : List ℕ) → is_text_so (if none then Err NoDigits else if long then Err TooLong else Ok octets) ≡ true
text-so true long octets = refl
text-so false true octets = refl
text-so false false octets = refl

changed-so : (change : ChangeEntry) (read : Result TitleValue Cause) → is_title_so read ≡ true → is_text_so (changed_octets change read) ≡ true
changed-so change (Err cause) h = h
changed-so change (Ok title) h = text-so (nat_eq (length (changed_digits change (digits_in title.scheme title.digit_octets))) 0) (nat_lt 254 (length (title_octets (changed_key change title.key) (changed_digits change (digits_in title.scheme title.digit_octets))))) _

after-so : (same : Bool) (octets : List ℕ) (read : Result (List ℕ) Cause) → is_text_so read ≡ true → is_text_so (if same then Ok octets else read) ≡ true
after-so true octets read h = refl
after-so false octets read h = h

with-so : (row : TitleEntry) (a : AddressValue) (title : Result (List ℕ) Cause) → is_text_so title ≡ true → is_address_so (led_with row a title) ≡ true
with-so row a (Ok title) h = refl
with-so row a (Err cause) h = h

led-so : (row : TitleEntry) (a : AddressValue) → is_address_so (translated row a) ≡ true
led-so row a =
    with-so row a (title_after row.change a)
    (after-so (is_unchanged row.change) a.title (changed_octets row.change (read_title a.title_indicator a.title))
    (changed-so row.change (read_title a.title_indicator a.title) (title-so (nat_eq a.title_indicator 4) a.title)))

-- ---- a message

module _ (own : OwnValue) (label : Label) (titles : TitlesValue) where
  lead_on-so : (m : SccpValue) (point : ℕ) (to : Result AddressValue Cause) → is_address_so to ≡ true → is_refused_so (lead_on own label m point to) ≡ true
  lead_on-so m point (Err cause) h = h
  lead_on-so m point (Ok called) h = onward-so (written point own.point label (with_new_parts (lowered m) (led_on called label.opc (sccp_parts m))))

  by_row-so : (m : SccpValue) (row : Result TitleEntry Cause) → is_row_so row ≡ true → is_refused_so (relay_by_row own titles.prohibited label m row) ≡ true
  by_row-so m (Err cause) h = h
  by_row-so m (Ok row) h =
      either-so (nat_eq (point_by own titles.prohibited (Some label.opc) label.sls row) own.point) _ _ (answered-so (answer own label m (ssn_by row.route (sccp_parts m).called.ssn)) (is_equipped own (ssn_by row.route (sccp_parts m).called.ssn)))
      (lead_on-so m (point_by own titles.prohibited (Some label.opc) label.sls row) (translated row (sccp_parts m).called) (led-so row (sccp_parts m).called))

  heard-so : (news : Option SubsystemNews) (v : RelayedValue) → is_refused_so v ≡ true → is_refused_so (heard_or news v) ≡ true
  heard-so (Some news) v h = refl
  heard-so None v h = h

  open-so : (row : Result TitleEntry Cause) → is_row_so row ≡ true → is_row_so (unless_barred own titles.prohibited (Some label.opc) label.sls row) ≡ true
  open-so (Err cause) h = h
  open-so (Ok row) h = by (is_barred own titles.prohibited (Some label.opc) label.sls row)
    where
      by : (b : Bool) → is_row_so (if b then Err SubsystemProhibited else Ok row) ≡ true
      by true = refl
      by false = refl

  routing-so : (routing : Routing) (m : SccpValue) → is_refused_so (relay_by_routing routing own titles label m) ≡ true
  routing-so Ssn m =
      heard-so (news own label.opc m (sccp_parts m).called.ssn) _
      (answered-so (answer own label m (sccp_parts m).called.ssn) (is_equipped own (sccp_parts m).called.ssn))
  routing-so Title m =
      either-so (is_spent (lowered m)) (Refused HopCounter) _ refl
      (by_row-so m (unless_barred own titles.prohibited (Some label.opc) label.sls (row_of titles.rows (sccp_parts m).called))
      (open-so (row_of titles.rows (sccp_parts m).called)
      (row-so titles.rows (read_title (sccp_parts m).called.title_indicator (sccp_parts m).called.title)
      (title-so (nat_eq (sccp_parts m).called.title_indicator 4) (sccp_parts m).called.title))))

  read-so : (r : Result SccpValue SccpFault) → is_refused_so (relay_read own titles label r) ≡ true
  read-so (Err Short) = refl
  read-so (Err Pointer) = refl
  read-so (Err Kind) = refl
  read-so (Ok m) =
      either-so (not (is_connectionless m)) (Refused NotInProfile) _ refl
      (either-so (not (has_valid_hops m)) (Refused HopCounter) _ refl (routing-so (sccp_parts m).called.routing m))

pub refused-so : (own : OwnValue) (titles : TitlesValue) (sif : List ℕ) → is_refused_so (relay own titles sif) ≡ true
unfolding relay
refused-so own titles sif = read-so own (label_at sif) titles (read_sccp own.extended (drop 4 sif))
