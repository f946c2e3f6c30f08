-- How the codes of one set are kept.
use Rattle.std.specs.Prelude.{◌≡◌, Bool, List, length}
use Rattle.signalling_types.specs.declared.limits.TheConstants.Limits.{CHANGEBACK_CODES}
use Rattle.changeback.specs.declared.set_codes.SetCodes.TheInside.{Inside}

abbrev pub codes_in : Inside → List Bool
codes_in s = s.outstanding

-- there is a mark for each code
pub record HasCodes (s : Inside) : Type 0 where
  pub codes : length s.outstanding ≡ CHANGEBACK_CODES
