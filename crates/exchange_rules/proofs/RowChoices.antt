-- Where rows lead, by what is known of subsystems: to a point, to its backup, or nowhere.
use Rattle.std.proofs.Common.{◌≡◌, ℕ, Bool, true, false, not, List, [], Option, Some, None, Result, Ok, Err, refl, sym, ap, ◌∙◌, ◌≢◌, arith}
use Rattle.std.specs.Prelude.{◌&&◌, ◌||◌, if◌then◌else◌, nat_eq, unwrap_or}
use Rattle.signalling_types.specs.declared.cause.Cause.{Cause}
use Rattle.signalling_types.specs.declared.cause.Cause.TheVariants.{SubsystemProhibited}
use Rattle.settings.specs.declared.title_row.TitleRoute.{TitleRoute}
use Rattle.settings.specs.Configuration.{TitleEntry}
use Rattle.sccp_relay.specs.Points.{OwnValue, is_backup_open, is_barred, is_barred_with, is_open, is_out, is_reached, is_sender, is_shut, point_by, point_or, unless_barred}
use Rattle.sccp_relay.specs.declared.subsystem.ProhibitedSubsystem.{ProhibitedSubsystem}
use Rattle.exchange_rules.specs.LawsOfSubsystems.{IsChoice, rows_lead_where_it_is_open, points_are_open_or_shut, titles_are_led_on, unreached_points_bar_nothing}
use Rattle.std.proofs.lemmas.Bool.Decides.{nat_tests}
use Rattle.settings.specs.declared.title_row.TitleRoute.TheVariants as route

-- ---- its point, its backup, or neither

open-shut : (r out : Bool) → (r && not out) ≡ true → (out && r) ≡ false
open-shut true true e = absurd cc
open-shut true false e = refl
open-shut false out e = absurd cc

shut-open : (r out : Bool) → (out && r) ≡ true → (r && not out) ≡ false
shut-open true true e = refl
shut-open true false e = absurd cc
shut-open false out e = refl

shut-backup : (r out other : Bool) → (out && r) ≡ true → ((r && not out) && other) ≡ false
shut-backup true true other e = refl
shut-backup true false other e = absurd cc
shut-backup false true other e = absurd cc
shut-backup false false other e = absurd cc

-- by whether the point and the backup are shut, the point is open, and the backup is taken
abbrev barred-by : (s t o b : Bool) → Bool
barred-by s t o b = (s || t && not o) && not b

abbrev or-refused : TitleEntry → Bool → Result TitleEntry Cause
or-refused row b = if b then Err SubsystemProhibited else Ok row

-- an open point isn't shut, and a shut backup isn't open
module _ (own : OwnValue) (prohibited : List ProhibitedSubsystem) (sender : Option ℕ) (sls : ℕ) where
  not-shut : (to : TitleRoute) (point : ℕ) → is_open own prohibited sls to point ≡ true → is_shut own prohibited sls to point ≡ false
  not-shut to point e = open-shut (is_reached own sls point) (is_out prohibited to point) e

  not-open : (to : TitleRoute) (point : ℕ) → is_shut own prohibited sls to point ≡ true → is_open own prohibited sls to point ≡ false
  not-open to point e = shut-open (is_reached own sls point) (is_out prohibited to point) e

  not-backup : (to : TitleRoute) (backup : ℕ) → is_shut own prohibited sls to backup ≡ true → is_backup_open own prohibited sender sls to backup ≡ false
  not-backup to backup e = shut-backup (is_reached own sls backup) (is_out prohibited to backup) (not (is_sender sender backup)) e

  module _ (row : TitleEntry) where
    abbrev s : Bool
    s = is_shut own prohibited sls row.route row.point

    abbrev o : Bool
    o = is_open own prohibited sls row.route row.point

    barred-some : (k : ℕ) → row.backup ≡ Some k
        → is_barred own prohibited sender sls row
        ≡ barred-by s (is_shut own prohibited sls row.route k) o (is_backup_open own prohibited sender sls row.route k)
    unfolding is_barred
    barred-some k e = ap (λ (backup : Option ℕ). is_barred_with own prohibited sender sls row.route row.point backup) e

    barred-none : row.backup ≡ None → is_barred own prohibited sender sls row ≡ s
    unfolding is_barred
    barred-none e = ap (λ (backup : Option ℕ). is_barred_with own prohibited sender sls row.route row.point backup) e

    point-some : (k : ℕ) → row.backup ≡ Some k
        → point_by own prohibited sender sls row ≡ (if not o && is_backup_open own prohibited sender sls row.route k then k else row.point)
    unfolding point_by
    point-some k e = ap (λ (backup : Option ℕ). point_or own prohibited sender sls row.route row.point backup) e

    point-none : row.backup ≡ None → point_by own prohibited sender sls row ≡ row.point
    unfolding point_by
    point-none e = ap (λ (backup : Option ℕ). point_or own prohibited sender sls row.route row.point backup) e

    led : (b : Bool) → is_barred own prohibited sender sls row ≡ b → unless_barred own prohibited sender sls (Ok row) ≡ or-refused row b
    led b e = ap (or-refused row) e

    choice-none : row.backup ≡ None → IsChoice own prohibited sender sls row
    choice-none e = record {
      first = λ taken. (led false (barred-none e ∙ not-shut row.route row.point taken), point-none e);
      second = λ k has. absurd (let no : None ≡ Some k = sym e ∙ has in cc);
      shut = λ shut others. led true (barred-none e ∙ shut);
      backup_shut = λ k has. absurd (let no : None ≡ Some k = sym e ∙ has in cc);
      neither = λ shut others. (led false (barred-none e ∙ shut), point-none e);
    }

    choice-some : (k : ℕ) → row.backup ≡ Some k → IsChoice own prohibited sender sls row
    choice-some k e =
        let t : Bool = is_shut own prohibited sls row.route k in
        let b : Bool = is_backup_open own prohibited sender sls row.route k in
        record {
          first = λ taken. (
            led false (barred-some k e ∙ by-open s t o b (not-shut row.route row.point taken) taken),
            point-some k e ∙ ap (λ (x : Bool). if not x && b then k else row.point) taken,
          );
          second = λ other has closed taken.
              let same : k ≡ other = some-same k other (sym e ∙ has) in
              let its : b ≡ true = ap (λ (x : ℕ). is_backup_open own prohibited sender sls row.route x) same ∙ taken in (
                led false (barred-some k e ∙ by-taken s t o b its),
                point-some k e ∙ by-both k row.point o b closed its ∙ same,
              );
          shut = λ shut others. led true (barred-some k e ∙ by-shut s t o b shut (others k e));
          backup_shut = λ other has closed shut.
              let same : k ≡ other = some-same k other (sym e ∙ has) in
              let its : t ≡ true = ap (λ (x : ℕ). is_shut own prohibited sls row.route x) same ∙ shut in
              led true (barred-some k e ∙ by-backup s t o b closed its (not-backup row.route k its));
          neither = λ shut others. (
            led false (barred-some k e ∙ by-none s t o b shut (others k e).1),
            point-some k e ∙ by-point k row.point o b (others k e).0,
          );
        }
      where
        some-same : (x y : ℕ) → Some x ≡ Some y → x ≡ y
        some-same x y q = ap (λ (z : Option ℕ). unwrap_or z x) q

        by-open : (s t o b : Bool) → s ≡ false → o ≡ true → barred-by s t o b ≡ false
        by-open s t o b p q = ap (λ (x : Bool). barred-by x t o b) p ∙ ap (λ (x : Bool). barred-by false t x b) q ∙ nothing t b
          where
            nothing : (t b : Bool) → barred-by false t true b ≡ false
            nothing true b = refl
            nothing false b = refl

        by-taken : (s t o b : Bool) → b ≡ true → barred-by s t o b ≡ false
        by-taken true true o b p = ap (λ (x : Bool). not x) p
        by-taken true false o b p = ap (λ (x : Bool). not x) p
        by-taken false true true b p = refl
        by-taken false true false b p = ap (λ (x : Bool). not x) p
        by-taken false false o b p = refl

        by-both : (k point : ℕ) (o b : Bool) → o ≡ false → b ≡ true → (if not o && b then k else point) ≡ k
        by-both k point o b p q = ap (λ (x : Bool). if not x && b then k else point) p ∙ ap (λ (x : Bool). if x then k else point) q

        by-shut : (s t o b : Bool) → s ≡ true → b ≡ false → barred-by s t o b ≡ true
        by-shut s t o b p q = ap (λ (x : Bool). barred-by x t o b) p ∙ ap (λ (x : Bool). not x) q

        by-backup : (s t o b : Bool) → o ≡ false → t ≡ true → b ≡ false → barred-by s t o b ≡ true
        by-backup true t o b p q r = ap (λ (x : Bool). not x) r
        by-backup false t o b p q r =
            ap (λ (x : Bool). barred-by false x o b) q ∙ ap (λ (x : Bool). barred-by false true x b) p ∙ ap (λ (x : Bool). not x) r

        by-none : (s t o b : Bool) → s ≡ false → t ≡ false → barred-by s t o b ≡ false
        by-none s t o b p q = ap (λ (x : Bool). barred-by x t o b) p ∙ ap (λ (x : Bool). barred-by false x o b) q

        by-point : (k point : ℕ) (o b : Bool) → b ≡ false → (if not o && b then k else point) ≡ point
        by-point k point true b p = refl
        by-point k point false b p = ap (λ (x : Bool). if x then k else point) p

pub choices : rows_lead_where_it_is_open
choices own prohibited sender sls row = by row.backup refl
  where
    by : (backup : Option ℕ) → row.backup ≡ backup → IsChoice own prohibited sender sls row
    by None e = choice-none own prohibited sender sls row e
    by (Some k) e = choice-some own prohibited sender sls row k e

-- ---- rows by title, points that are not reached, and which are open

module _ (own : OwnValue) (prohibited : List ProhibitedSubsystem) (sender : Option ℕ) (sls : ℕ) where
  barred-open : (b : Bool) (row : TitleEntry) → b ≡ false → (if b then Err SubsystemProhibited else Ok row) ≡ Ok row
  barred-open true row e = absurd (let no : true ≡ false = e in cc)
  barred-open false row e = refl

  title-barred : (number : Option ℕ) (point : ℕ) (backup : Option ℕ) → is_barred_with own prohibited sender sls (route.Title number) point backup ≡ false
  title-barred number point None = refl
  title-barred number point (Some backup) = no-bar (is_open own prohibited sls (route.Title number) point)
    where
      no-bar : (o : Bool) → ((false || (false && not o)) && not (is_backup_open own prohibited sender sls (route.Title number) backup)) ≡ false
      no-bar true = refl
      no-bar false = refl

  title-point : (number : Option ℕ) (point : ℕ) (backup : Option ℕ)
      → point_or own prohibited sender sls (route.Title number) point backup ≡ point_or own [] sender sls (route.Title number) point backup
  title-point number point None = refl
  title-point number point (Some backup) = refl

  unreached-barred : (to : TitleRoute) (point : ℕ) (backup : Option ℕ) → is_reached own sls point ≡ false
      → ((other : ℕ) → backup ≡ Some other → is_reached own sls other ≡ false) → is_barred_with own prohibited sender sls to point backup ≡ false
  unreached-barred to point None e f = shut (is_out prohibited to point) (is_reached own sls point) e
    where
      shut : (out reached : Bool) → reached ≡ false → (out && reached) ≡ false
      shut out true e = absurd (let no : true ≡ false = e in cc)
      shut true false e = refl
      shut false false e = refl
  unreached-barred to point (Some backup) e f =
      shut (is_out prohibited to point) (is_reached own sls point) (is_out prohibited to backup) (is_reached own sls backup) (is_open own prohibited sls to point) _ e (f backup refl)
    where
      shut : (out reached other there o taken : Bool) → reached ≡ false → there ≡ false → (((out && reached) || ((other && there) && not o)) && not taken) ≡ false
      shut out true other there o taken e g = absurd (let no : true ≡ false = e in cc)
      shut out false other true o taken e g = absurd (let no : true ≡ false = g in cc)
      shut true false true false o taken e g = refl
      shut true false false false o taken e g = refl
      shut false false true false o taken e g = refl
      shut false false false false o taken e g = refl

pub titles-led-on : titles_are_led_on
unfolding is_barred point_by
titles-led-on own prohibited sender sls row number e = (
  barred-open own prohibited sender sls (is_barred own prohibited sender sls row) row
      (ap (λ (to : TitleRoute). is_barred_with own prohibited sender sls to row.point row.backup) e ∙ title-barred own prohibited sender sls number row.point row.backup),
  ap (λ (to : TitleRoute). point_or own prohibited sender sls to row.point row.backup) e
      ∙ title-point own prohibited sender sls number row.point row.backup
      ∙ ap (λ (to : TitleRoute). point_or own [] sender sls to row.point row.backup) (sym e),
)

pub unreached-bar-nothing : unreached_points_bar_nothing
unfolding is_barred
unreached-bar-nothing own prohibited sender sls row e f =
    barred-open own prohibited sender sls (is_barred own prohibited sender sls row) row (unreached-barred own prohibited sender sls row.route row.point row.backup e f)

and-turned : (a b : Bool) → (a && b) ≡ (b && a)
and-turned true true = refl
and-turned true false = refl
and-turned false true = refl
and-turned false false = refl

and-true : (a : Bool) → (a && true) ≡ a
and-true true = refl
and-true false = refl

same-here : (point : ℕ) (leads : Bool) → (nat_eq point point || leads) ≡ true
same-here point leads =
    let same : nat_eq point point ≡ true = grind (arith, nat_tests) in
    ap (λ (b : Bool). b || leads) same

not-here : (point own : ℕ) (leads : Bool) → point ≢ own → (nat_eq point own || leads) ≡ leads
not-here point own leads e =
    let other : nat_eq point own ≡ false = grind (arith, nat_tests, e) in
    ap (λ (b : Bool). b || leads) other

pub open-or-shut : points_are_open_or_shut
open-or-shut own prohibited sls point = record {
  here = same-here own.point (own.leads own.point sls);
  elsewhere = λ e. not-here point own.point (own.leads point sls) e;
  by_number = λ ssn. refl;
  shut_by_number = λ ssn. and-turned (is_out prohibited (route.Ssn ssn) point) (is_reached own sls point);
  by_title = λ number. and-true (is_reached own sls point);
  shut_by_title = λ number. refl;
}
