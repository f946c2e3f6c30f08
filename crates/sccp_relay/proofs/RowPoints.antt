-- The point that a row leads to.
use Rattle.std.proofs.Common.{◌≡◌, ℕ, ◌<◌, ◌^◌, Bool, true, false, List, Option, Some, None, Result, Ok, Err, refl, sym, subst, ◌∙◌, not}
use Rattle.std.specs.Prelude.{◌&&◌, if◌then◌else◌, IfSome}
use Rattle.settings.specs.Configuration.{TitleEntry}
use Rattle.settings.specs.declared.title_row.TitleRoute.{TitleRoute}
use Rattle.signalling_types.specs.declared.cause.Cause.{Cause}
use Rattle.signalling_types.specs.declared.cause.Cause.TheVariants.{SubsystemProhibited}
use Rattle.sccp_relay.specs.Points.{OwnValue, is_backup_open, is_barred, is_open, point_by, point_or, unless_barred}
use Rattle.sccp_relay.specs.Led.{IsLedTo}
use Rattle.sccp_relay.specs.Ways.{IsRow}
use Rattle.sccp_relay.specs.declared.subsystem.ProhibitedSubsystem.{ProhibitedSubsystem}

record IsChosen (first second : Bool) (point other : ℕ) : Type 0 where
  pub first_reached : first ≡ true → (if not first && second then other else point) ≡ point
  pub second_alone : first ≡ false → second ≡ true → (if not first && second then other else point) ≡ other
  pub second_not : second ≡ false → (if not first && second then other else point) ≡ point

chosen : (first second : Bool) (point other : ℕ) → IsChosen first second point other
chosen true second point other = record { first_reached = λ e. refl; second_alone = λ e f. absurd cc; second_not = λ e. refl }
chosen false true point other = record { first_reached = λ e. absurd cc; second_alone = λ e f. refl; second_not = λ e. absurd cc }
chosen false false point other = record { first_reached = λ e. absurd cc; second_alone = λ e f. absurd cc; second_not = λ e. refl }

not-barred : (b : Bool) (found : Result TitleEntry Cause) (row : TitleEntry) → (if b then Err SubsystemProhibited else found) ≡ Ok row → found ≡ Ok row
not-barred true found row e = absurd cc
not-barred false found row e = e

module _ (own : OwnValue) (prohibited : List ProhibitedSubsystem) (sender : Option ℕ) (sls : ℕ) where
  led-by : (row : TitleEntry) (backup : Option ℕ) → row.backup ≡ backup → IsLedTo own prohibited sender sls row (point_or own prohibited sender sls row.route row.point backup)
  led-by row None e = record { alone = λ n. refl; first = λ r. refl; backup = λ other s no yes. absurd cc; neither = λ other s no. refl }
  led-by row (Some backup) e =
      let c = chosen (is_open own prohibited sls row.route row.point) (is_backup_open own prohibited sender sls row.route backup) row.point backup in
      record {
        alone = λ n. absurd cc;
        first = λ r. c.first_reached r;
        backup = λ other s no yes. let same : other ≡ backup = cc in c.second_alone no (subst (λ (p : ℕ). is_backup_open own prohibited sender sls row.route p ≡ true) same yes) ∙ sym same;
        neither = λ other s no. let same : other ≡ backup = cc in c.second_not (subst (λ (p : ℕ). is_backup_open own prohibited sender sls row.route p ≡ false) same no);
      }

  pub led-to : (row : TitleEntry) → IsLedTo own prohibited sender sls row (point_by own prohibited sender sls row)
  unfolding point_by
  led-to row = led-by row row.backup refl

  -- a row that isn't barred is the one that was found
  pub open-found : (found : Result TitleEntry Cause) (row : TitleEntry) → unless_barred own prohibited sender sls found ≡ Ok row → found ≡ Ok row
  open-found (Err cause) row e = absurd cc
  open-found (Ok other) row e = not-barred (is_barred own prohibited sender sls other) (Ok other) row e

either-fits : (b : Bool) (point other : ℕ) → point < 2 ^ 14 → other < 2 ^ 14 → (if b then other else point) < 2 ^ 14
either-fits true point other h k = k
either-fits false point other h k = h

module _ (own : OwnValue) (prohibited : List ProhibitedSubsystem) (sender : Option ℕ) (sls : ℕ) where
  or-fits : (to : TitleRoute) (point : ℕ) (backup : Option ℕ) → point < 2 ^ 14 → IfSome backup (λ other. other < 2 ^ 14) → point_or own prohibited sender sls to point backup < 2 ^ 14
  or-fits to point None h k = h
  or-fits to point (Some backup) h k = either-fits (not (is_open own prohibited sls to point) && is_backup_open own prohibited sender sls to backup) point backup h k

  pub point-fits : (row : TitleEntry) → IsRow row → point_by own prohibited sender sls row < 2 ^ 14
  unfolding point_by
  point-fits row is = or-fits row.route row.point row.backup is.point is.backup
