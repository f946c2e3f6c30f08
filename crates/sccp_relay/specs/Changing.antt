-- The title of an address as the row that leads it on leaves it: with another numbering plan or nature of address, or
-- with other digits in front (Q.714 §2.4).
use Rattle.std.specs.Prelude.{ℕ, Bool, ◌&&◌, if◌then◌else◌, nat_eq, nat_lt, List, ◌++◌, length, drop, is_none, unwrap_or, Result, Ok, Err}
use Rattle.signalling_types.specs.declared.cause.Cause.{Cause}
use Rattle.signalling_types.specs.declared.cause.Cause.TheVariants.{NoDigits, TooLong}
use Rattle.settings.specs.Configuration.{ChangeEntry}
use Rattle.sccp_codec.specs.declared.title.TitleKey.{TitleKey}
use Rattle.sccp_codec.specs.Messages.{AddressValue}
use Rattle.sccp_codec.specs.Titles.{TitleValue, read_title, digits_in, title_octets}

-- whether a title stays as it came
abbrev pub is_unchanged : ChangeEntry → Bool
is_unchanged change =
    is_none change.plan && is_none change.nature && nat_eq change.removed 0 && nat_eq (length change.added) 0

-- the plan and the nature are those of the change, where it has them; the translation type stays
abbrev pub changed_key : ChangeEntry → TitleKey → TitleKey
changed_key change key = record {
  translation = key.translation;
  plan = unwrap_or change.plan key.plan;
  nature = unwrap_or change.nature key.nature;
}

-- so many leading digits are taken off, all if there are fewer, and then others are put on in front
abbrev pub changed_digits : ChangeEntry → List ℕ → List ℕ
changed_digits change digits = change.added ++ drop change.removed digits

-- the octets of a title with these digits, if there are any, and if it fits an address: this has 255 octets at most, of
-- which the first isn't the title's (Q.713 §3.4)
abbrev pub octets_of_title : TitleKey → List ℕ → Result (List ℕ) Cause
octets_of_title key digits =
    if nat_eq (length digits) 0 then Err NoDigits
    else if nat_lt 254 (length (title_octets key digits)) then Err TooLong
    else Ok (title_octets key digits)

abbrev pub changed_octets : ChangeEntry → Result TitleValue Cause → Result (List ℕ) Cause
changed_octets change (Err cause) = Err cause
changed_octets change (Ok title) =
    octets_of_title (changed_key change title.key)
    (changed_digits change (digits_in title.scheme title.digit_octets))

-- the octets of the title of an address after a change; without one they are kept as they came, octet by octet
abbrev pub title_after : ChangeEntry → AddressValue → Result (List ℕ) Cause
title_after change address =
    if is_unchanged change then Ok address.title
    else changed_octets change (read_title address.title_indicator address.title)
