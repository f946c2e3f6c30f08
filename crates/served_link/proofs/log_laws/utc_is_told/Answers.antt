use Rattle.std.proofs.Common.{refl}
use Rattle.served_link.specs.Utc.{date_after, date_from}
use Rattle.served_link.proofs.log_laws.utc_is_told.Goals as goal

pub returns-clause-times : goal.returns-clause-times
unfolding date_after date_from
returns-clause-times c = record { first = refl; leap_day = refl; december = refl; no_leap_day = refl; last = refl; behind = refl }

pub returns-clause-months : goal.returns-clause-months
unfolding date_after date_from
returns-clause-months c = record {
  january = refl;
  february = refl;
  march = refl;
  april = refl;
  may = refl;
  june = refl;
  july = refl;
  august = refl;
  september = refl;
  october = refl;
  november = refl;
  december = refl;
}
