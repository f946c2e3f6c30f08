-- The keys of the files that a capture goes into, if they are a ring.
use Rattle.std.specs.Prelude.{ℕ, ℤ, pos, negsuc, ◌*◌, Bool, ◌&&◌, nat_le, if◌then◌else◌, bytes_eq, codes, is_some}
use Rattle.std.specs.Prelude.{List, Option, None, Some, option_and_then, Result, Ok, Err}
use Rattle.std.specs.Option.{option_map}
use Rattle.toml.specs.Data.{Data, Members, as_integer}
use Rattle.settings_file.specs.declared.serve.key.ServeKey.TheVariants as key
use Rattle.settings_file.specs.declared.serve.fault.ServeFault.{ServeFault}
use Rattle.settings_file.specs.declared.serve.fault.ServeFault.TheVariants.{Missing, Kind, Range}
use Rattle.settings_file.specs.declared.serve.capture.CaptureLimits.{CaptureLimits}
use Rattle.settings_file.specs.Durations.{digits_of, unit_of}
use Rattle.settings_file.specs.Durations as digits
use Rattle.settings_file.specs.Keyed.{number_in}
use Rattle.settings_file.specs.ServeKeys.{found_at}
use Rattle.settings_file.specs.Shapes.{and_then, integer_in, text_in}

-- how many octets a unit is
abbrev pub unit_octets : List ℕ → Option ℕ
unit_octets unit =
    if bytes_eq unit (codes "kB")
    then Some 1000
    else (if bytes_eq unit (codes "MB")
    then Some 1000000
    else (if bytes_eq unit (codes "GB") then Some 1000000000 else None))

-- how many octets a text says, if it is a whole number of a unit: `100MB`
abbrev pub octets_in : List ℕ → Option ℕ
octets_in text =
    option_and_then (λ number. option_map (λ octets. number * octets) (unit_octets (unit_of text)))
    (digits.number_in (digits_of text))

-- a file of a ring has at most 2 MB to 1 TB
abbrev pub size_of : Option ℕ → Result ℕ ServeFault
size_of None = Err (Range key.CaptureSize)
size_of (Some octets) =
    if nat_le 2000000 octets && nat_le octets 1000000000000 then Ok octets else Err (Range key.CaptureSize)

abbrev pub natural : ℤ → Option ℕ
natural (pos n) = Some n
natural (negsuc n) = None

-- an integer is a number of octets, and so is a text
abbrev pub size_by : Option ℤ → Data → Result ℕ ServeFault
size_by (Some number) d = size_of (natural number)
size_by None d = and_then (text_in (Kind key.CaptureSize) d) (λ text. size_of (octets_in text))

unfoldable pub size_in : Data → Result ℕ ServeFault
size_in d = size_by (as_integer d) d

-- there are at most 2 to 1,000 files
unfoldable pub files_in : Data → Result ℕ ServeFault
files_in d = and_then (integer_in (Kind key.CaptureFiles) d) (number_in key.CaptureFiles 2 1000)

-- of both keys neither is there, or both are, and a capture
abbrev pub limits_in : (size files : Option Data) → (capture : Option (List ℕ))
    → Result (Option CaptureLimits) ServeFault
limits_in None None capture = Ok None
limits_in None (Some f) capture = Err (Missing key.CaptureSize)
limits_in (Some d) None capture = Err (Missing key.CaptureFiles)
limits_in (Some d) (Some f) capture =
    and_then (size_in d) (λ size.
    and_then (files_in f) (λ files.
    if is_some capture then Ok (Some (record { size = size; files = files })) else Err (Missing key.Capture)))

-- the limits of a file of version 4, which brought them
unfoldable pub limits_at : (is_fourth : Bool) → (capture : Option (List ℕ)) → Members
    → Result (Option CaptureLimits) ServeFault
limits_at is_fourth capture t =
    if is_fourth then limits_in (found_at key.CaptureSize t) (found_at key.CaptureFiles t) capture else Ok None
