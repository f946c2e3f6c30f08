-- How a row is found, by its way, the digits of its key followed by its own; and where it leads, as one number.
use Rattle.std.specs.Prelude.{ℕ, Bool, ◌&&◌, is_none, ◌+◌, ◌*◌, ◌^◌, ◌/◌, ◌%◌, ◌<◌, ◌≤◌, IfSome, if◌then◌else◌, nat_eq, nat_lt, List, [], ◌∷◌, ◌++◌, Option, Some, None}
use Rattle.std.specs.Str.{bytes_eq}
use Rattle.sccp_relay.specs.Digits.{DigitMap}
use Rattle.sccp_codec.specs.declared.title.TitleKey.{TitleKey}
use Rattle.settings.specs.Configuration.{TitleEntry, unchanged}
use Rattle.settings.specs.TitleRanges.{HasTitleRanges, HasChangeRanges}
use Rattle.settings.specs.declared.title_row.TitleRoute.{TitleRoute}
use Rattle.settings.specs.declared.title_row.TitleRoute.TheVariants.{Title, Ssn}
use Rattle.sccp_relay.specs.Changing.{is_unchanged}
use Rattle.sccp_relay.specs.Rows.{key_of}

-- the digits of a key: two of the translation type, the plan, two of the nature
abbrev pub key_digits : TitleKey → List ℕ
key_digits key = key.translation / 16 ∷ key.translation % 16 ∷ key.plan ∷ key.nature / 16 ∷ key.nature % 16 ∷ []

-- the way to a row
abbrev pub way_of : TitleEntry → List ℕ
way_of row = key_digits (key_of row) ++ row.digits

-- how a row is routed, as a number: that of the subsystem, or 0, and 256 more if it is routed by this number
abbrev pub ssn_number : Option ℕ → ℕ
ssn_number None = 0
ssn_number (Some ssn) = ssn

abbrev pub route_number : TitleRoute → ℕ
route_number (Title ssn) = ssn_number ssn
route_number (Ssn ssn) = 256 + ssn

abbrev pub route_of : ℕ → TitleRoute
route_of number =
    if nat_eq (number % 256) 0 then Title None
    else if nat_lt number 256 then Title (Some (number % 256))
    else Ssn (number % 256)

-- whether a row has no backup, and changes no titles
abbrev pub is_plain : TitleEntry → Bool
is_plain row = is_none row.backup && is_unchanged row.change

-- where a row leads, as a number, and whether it is plain
abbrev pub lead_of : TitleEntry → ℕ
lead_of row = (if is_plain row then 0 else 1) * 2 ^ 23 + (route_number row.route * 2 ^ 14 + row.point)

-- the plain row of this key and these digits that leads there
abbrev pub row_led : TitleKey → List ℕ → ℕ → TitleEntry
row_led key digits lead = record {
  translation = key.translation;
  plan = key.plan;
  nature = key.nature;
  digits = digits;
  point = lead % 2 ^ 14;
  backup = None;
  route = route_of (lead / 2 ^ 14);
  change = unchanged;
}

-- where rows lead, by their ways
abbrev pub leads_of : List TitleEntry → DigitMap
leads_of [] way = None
leads_of (row ∷ rows) way = if bytes_eq way (way_of row) then Some (lead_of row) else leads_of rows way

-- a subsystem number is an octet, and not 0
abbrev pub IsSsn : ℕ → Type 0
IsSsn ssn = (1 ≤ ssn) × (ssn < 2 ^ 8)

abbrev pub IsRoute : TitleRoute → Type 0
IsRoute (Title ssn) = IfSome ssn IsSsn
IsRoute (Ssn ssn) = IsSsn ssn

-- a row has its ranges
pub record IsRow (row : TitleEntry) : Type 0 where
  pub ranges : HasTitleRanges row.plan row.nature row.digits
  pub point : row.point < 2 ^ 14
  pub backup : IfSome row.backup (λ point. point < 2 ^ 14)
  pub route : IsRoute row.route
  pub change : HasChangeRanges row.change
