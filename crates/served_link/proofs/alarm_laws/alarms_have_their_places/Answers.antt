-- By the kinds of alarms.
use Rattle.std.proofs.Common.{◌≡◌, ℕ, ◌<◌, Some, refl, arith}
use Rattle.std.proofs.lemmas.Bool.Decides.{nat_tests}
use Rattle.std.proofs.lemmas.Grind.{common_steps}
use Rattle.served_link.specs.Alarms.{IsAlarm, alarm_at, place_of}
use Rattle.served_link.specs.declared.alarm.Alarm.{Alarm}
use Rattle.served_link.specs.declared.alarm.Alarm.TheVariants as alarm
use Rattle.served_link.proofs.alarm_laws.alarms_have_their_places.Goals as goal

own-place : (a : Alarm) → IsAlarm a → alarm_at (place_of a) ≡ Some a
own-place alarm.LostAny h = refl
own-place alarm.LateAny h = refl
own-place alarm.Pool h = refl
own-place alarm.Capture h = refl
own-place alarm.Behind h = refl
own-place (alarm.Link link) h = grind (arith, common_steps, nat_tests)
own-place (alarm.Set set) h = grind (arith, common_steps, nat_tests)
own-place (alarm.Destination destination) h = grind (arith, common_steps, nat_tests)

pub returns : goal.returns
returns c = own-place
