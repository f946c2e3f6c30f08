-- The ranges of a translation row.
use Rattle.std.specs.Prelude.{ℕ, ◌≤◌, ◌<◌, ◌^◌, List, length, All, IfSome}
use Rattle.settings.specs.Configuration.{ChangeEntry}
use Rattle.signalling_types.specs.declared.limits.TheConstants.Limits.{TITLE_DIGITS}

-- a numbering plan of four bits, a nature of address of seven, and 1 to 32 digits of four bits (Q.713 §3.4.2.3)
pub record HasTitleRanges (p : ℕ) (n : ℕ) (ds : List ℕ) : Type 0 where
  pub plan : p < 2 ^ 4
  pub nature : n < 2 ^ 7
  pub some : 1 ≤ length ds
  pub fits : length ds ≤ TITLE_DIGITS
  pub values : All (λ digit. digit < 2 ^ 4) ds

-- a new numbering plan and a new nature of address of as many bits, if any; 0 to 32 digits are taken off, and as many
-- of four bits put on
pub record HasChangeRanges (c : ChangeEntry) : Type 0 where
  pub plan : IfSome c.plan (λ plan. plan < 2 ^ 4)
  pub nature : IfSome c.nature (λ nature. nature < 2 ^ 7)
  pub removed : c.removed ≤ TITLE_DIGITS
  pub fits : length c.added ≤ TITLE_DIGITS
  pub values : All (λ digit. digit < 2 ^ 4) c.added
