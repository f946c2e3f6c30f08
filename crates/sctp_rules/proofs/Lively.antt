-- The sending half under any list of calls stays lively.
use Rattle.std.proofs.Common.{◌≡◌, ℕ, zero, suc, ◌+◌, ◌-◌, ◌*◌, ◌/◌, ◌<◌, ◌≤◌, Bool, true, false, List, [], ◌∷◌}
use Rattle.std.proofs.Common.{Option, Some, None, length, map, take, drop, set, get_or, refl, ap, sym, ◌∙◌, arith}
use Rattle.std.proofs.Common.{nat_lt, nat_le, eqb, length-append, length-drop, min, subst}
use Rattle.std.specs.Prelude.{◌&&◌, ◌||◌, not, ◌==◌, if◌then◌else◌, IfSome, is_some, slice_index}
use Rattle.std.proofs.Math.Nat.{le-min, le-max_right}
use Rattle.std.proofs.Math.Seq.{map-set_same}
use Rattle.std.proofs.Math.ListN.{get_or-map}
use Rattle.std.proofs.lemmas.Bool.{and_from, or_right, lt-ltb, eqb-true, eq-eqb, ltb-false}
use Rattle.std.proofs.lemmas.List.{length-map, length-set, length-take-le, get_or-drop, get_or_append_left, get_or-set_same, get_or-set_other}
use Rattle.std.proofs.lemmas.Option.{IfSome_then}
use Rattle.sctp_sending.specs.declared.bounds.Bounds.{Bounds}
use Rattle.sctp_sending.specs.declared.timed.Timed.{Timed}
use Rattle.sctp_sending.specs.declared.confirmation.Confirmation.{Confirmation}
use Rattle.sctp_sending.specs.declared.confirmation.Confirmation.TheVariants.{Old, Beyond, Of}
use Rattle.sctp_sending.specs.Congestion.{Congestion, packet_octets, halved, grown, grown_slowly, grown_evenly}
use Rattle.sctp_sending.specs.Congestion.{after_loss, after_all}
use Rattle.sctp_sending.specs.Outgoing.{Message, Outgoing, no_message, new_outgoing, outgoing_at, gone_out, named_or_not}
use Rattle.sctp_sending.specs.Outgoing.{octets_of, passed_over, timed_out, lost_from}
use Rattle.sctp_sending.specs.Sending.{Sending, given, next_of, next_place, gone_again, gone_first, confirmation, confirmed}
use Rattle.sctp_sending.specs.Sending.{settled, acknowledged, after_cumulative, after_sack, after_t3, named_below, passed_below}
use Rattle.sctp_sending.specs.Sending.{naming_of, passing_of, is_named, is_timed_named, timed_from, timed_without, timed_behind}
use Rattle.sctp_sending.specs.Sending.{most_messages, running, under_way, has_credit, finds_window, congestion_by, Naming, Passing}
use Rattle.sctp_codec.specs.Packets.{DataChunk}
use Rattle.sctp_rules.specs.Confirming.{Gone, going, gone_from}
use Rattle.sctp_rules.specs.GivenMessages.{Call, Gives, PutsOut, Hears, HearsShutdown, TimesOut, Course, first_course}
use Rattle.sctp_rules.specs.GivenMessages.{after_putting, after_call, after_calls}
use Rattle.sctp_rules.specs.Lively.{half_after, halves_are_lively, is_waiting, idle_halves_put_out, messages_go_out_as_data}
use Rattle.sctp_rules.proofs.Halves.{unsettled, confirmed-within, next-within}

-- ---- whether a message went out again stays with it

abbrev again_of : Outgoing → Bool
again_of o = o.again

abbrev blank : Outgoing
blank = new_outgoing no_message 0

kept-again : (f : Outgoing → Outgoing) → ((o : Outgoing) → again_of (f o) ≡ again_of o) → (out : List Outgoing) (place : ℕ) →
    map again_of (set out place (f (outgoing_at out place))) ≡ map again_of out
kept-again f h out place = map-set_same again_of out place (f (outgoing_at out place)) blank (h (outgoing_at out place))

either-again : (b : Bool) (o x : Outgoing) → again_of x ≡ again_of o → again_of (if b then o else x) ≡ again_of o
either-again true o x e = refl
either-again false o x e = e

passed-one : (o : Outgoing) → again_of (passed_over o) ≡ again_of o
passed-one o =
    either-again (o.named || o.lost) o
    (record {
      message = o.message;
      sequence = o.sequence;
      again = o.again;
      missing = min (o.missing + 1) 3;
      named = false;
      lost = nat_le 2 o.missing && not o.again;
    }) refl

named-again : (names : ℕ → Bool) (out : List Outgoing) (n : ℕ) → map again_of (named_below names out n).out ≡ map again_of out
unfolding named_below
named-again names out zero = refl
named-again names out (suc place) =
    kept-again (λ o. named_or_not (is_named names place) o) (λ o. refl) (named_below names out place).out place
    ∙ named-again names out place

passed-again : (out : List Outgoing) (n : ℕ) → map again_of (passed_below out n).out ≡ map again_of out
unfolding passed_below
passed-again out zero = refl
passed-again out (suc place) =
    kept-again (λ o. passed_over o) passed-one (passed_below out place).out place ∙ passed-again out place

at-again : (xs ys : List Outgoing) (place : ℕ) → map again_of xs ≡ map again_of ys →
    (outgoing_at xs place).again ≡ (outgoing_at ys place).again
at-again xs ys place e =
    sym (get_or-map again_of xs place blank)
    ∙ ap (λ (bs : List Bool). get_or bs place false) e
    ∙ get_or-map again_of ys place blank

same-many : (xs ys : List Outgoing) → map again_of xs ≡ map again_of ys → length xs ≡ length ys
same-many xs ys e = sym (length-map xs again_of) ∙ ap (λ (bs : List Bool). length bs) e ∙ length-map ys again_of

-- ---- what is timed went out, and once

pub record Once (out : List Outgoing) (went : ℕ) (t : Timed) : Type 0 where
  pub place : t.place < went
  pub once : (outgoing_at out t.place).again ≡ false

once-same : (timed : Option Timed) (xs ys : List Outgoing) (went : ℕ) → map again_of xs ≡ map again_of ys →
    IfSome timed (Once xs went) → IfSome timed (Once ys went)
once-same timed xs ys went e h =
    IfSome_then timed h (λ t o. record { place = o.place; once = sym (at-again xs ys t.place e) ∙ o.once })

once-if : (b : Bool) (timed : Option Timed) (out : List Outgoing) (went : ℕ) → IfSome timed (Once out went) →
    IfSome (if b then None else timed) (Once out went)
once-if true timed out went h = tt
once-if false timed out went h = h

once-behind : (timed : Option Timed) (out : List Outgoing) (went count : ℕ) → IfSome timed (Once out went) →
    IfSome (timed_behind timed count) (Once (drop count out) (went - count))
once-behind None out went count h = tt
once-behind (Some t) out went count h = by (nat_lt t.place count) refl
  where
    by : (b : Bool) → nat_lt t.place count ≡ b →
        IfSome (if b then None else Some (record { place = t.place - count; since = t.since })) (Once (drop count out) (went - count))
    by true e = tt
    by false e =
        let above : count ≤ t.place = ltb-false t.place count e in
        record {
          place = omega (arith, above, h.place);
          once = ap again_of (get_or-drop count out (t.place - count) blank)
              ∙ ap (λ (n : ℕ). (outgoing_at out n).again) (let whole : count + (t.place - count) ≡ t.place = omega (arith, above) in whole)
              ∙ h.once;
        }

once-without : (timed : Option Timed) (out : List Outgoing) (went place : ℕ) (o : Outgoing) → IfSome timed (Once out went) →
    IfSome (timed_without timed place) (Once (set out place o) went)
once-without None out went place o h = tt
once-without (Some t) out went place o h = by (eqb t.place place) refl
  where
    by : (b : Bool) → eqb t.place place ≡ b → IfSome (if b then None else Some t) (Once (set out place o) went)
    by true e = tt
    by false e = record {
      place = h.place;
      once = ap again_of (get_or-set_other out place t.place o blank
          (λ f. absurd (let equal : eqb t.place place ≡ true = eq-eqb t.place place (omega (arith, f)) in cc))) ∙ h.once;
    }

once-from : (timed : Option Timed) (out : List Outgoing) (went now : ℕ) (o : Outgoing) → went < length out → o.again ≡ false →
    IfSome timed (Once out went) → IfSome (timed_from timed went now) (Once (set out went o) (went + 1))
once-from None out went now o l e h =
    record { place = omega arith; once = ap again_of (get_or-set_same out went o blank l) ∙ e }
once-from (Some t) out went now o l e h =
    let place = h.place in
    record {
      place = omega (arith, place);
      once = ap again_of (get_or-set_other out went t.place o blank (λ f. absurd (omega (arith, f, place)))) ∙ h.once;
    }

-- ---- the congestion window

wide-if : (b : Bool) (x y : Congestion) → packet_octets ≤ x.window → packet_octets ≤ y.window →
    packet_octets ≤ (if b then x else y).window
wide-if true x y a e = a
wide-if false x y a e = e

wide-half : (c : Congestion) → packet_octets ≤ halved c
wide-half c = (let four = le-max_right (c.window / 2) (4 * packet_octets) in omega (arith, four))

wide-grown : (c : Congestion) (octets : ℕ) (full : Bool) → packet_octets ≤ c.window → packet_octets ≤ (grown c octets full).window
wide-grown c octets full h =
    let slowly : packet_octets ≤ (grown_slowly c octets full).window =
    wide-if full _ c (le-min (omega (arith, h)) (omega arith)) h in
    let evenly : packet_octets ≤ (grown_evenly c octets full).window =
    wide-if (nat_lt (c.summed + octets) c.window) _ _ h (wide-if full _ _ (le-min (omega (arith, h)) (omega arith)) h) in
    wide-if (nat_lt 0 c.recovering) c _ h (wide-if (nat_le c.window c.threshold) _ _ slowly evenly)

wide-loss : (c : Congestion) (under_way : ℕ) → packet_octets ≤ c.window → packet_octets ≤ (after_loss c under_way).window
wide-loss c under_way h = wide-if (nat_lt 0 c.recovering) c _ h (wide-half c)

wide-by : (c : Congestion) (lost : Bool) (went octets : ℕ) (full : Bool) → packet_octets ≤ c.window →
    packet_octets ≤ (congestion_by c lost went octets full).window
wide-by c lost went octets full h = wide-if lost _ _ (wide-loss c went h) (wide-grown c octets full h)

-- ---- what every call keeps

pub record Stays (s : Sending) : Type 0 where
  pub within : s.went ≤ length s.out
  pub timer : 0 < s.went → is_some s.t3 ≡ true
  pub timed : IfSome s.timed (Once s.out s.went)
  pub window : packet_octets ≤ s.congestion.window

settled-stays : (s : Sending) (count now : ℕ) → Stays s → Stays (settled s count now)
unfolding settled
settled-stays s count now h = by (s.went == 0) (nat_lt 0 count) refl
  where
    by : (b d : Bool) → (s.went == 0) ≡ b →
        Stays (if b
        then record s { t3 = None; congestion = after_all s.congestion }
        else if d then record s { t3 = Some (now + s.round_trips.timeout) } else s)
    by true d e = record {
      within = h.within;
      timer = λ l. absurd (let none : s.went ≡ 0 = eqb-true s.went 0 e in omega (arith, l, none));
      timed = h.timed;
      window = h.window;
    }
    by false true e = record { within = h.within; timer = λ l. refl; timed = h.timed; window = h.window }
    by false false e = h

confirmed-stays : (s : Sending) (count now : ℕ) → count ≤ s.went → Stays s → Stays (confirmed s count now)
unfolding confirmed
confirmed-stays s count now l h = record {
  within = omega (arith, l, h.within, length-drop count s.out);
  timer = λ m. h.timer (omega (arith, m));
  timed = once-behind s.timed s.out s.went count h.timed;
  window = h.window;
}

acknowledged-stays : (s : Sending) (now window count : ℕ) (names : ℕ → Bool) → count ≤ s.went → Stays s →
    Stays (acknowledged s now window count names)
unfolding acknowledged
acknowledged-stays s now window count names l h =
    let left : Sending = confirmed s count now in
    let k : Stays left = confirmed-stays s count now l h in
    let naming : Naming = naming_of names left in
    let passing : Passing = passing_of naming in
    let same : map again_of passing.out ≡ map again_of left.out =
    passed-again naming.out naming.reach ∙ named-again names left.out left.went in
    settled-stays (unsettled s now window count names) count now (record {
      within = omega (arith, k.within, same-many passing.out left.out same);
      timer = k.timer;
      timed = once-if (is_timed_named passing.out left.timed) left.timed passing.out left.went
          (once-same left.timed left.out passing.out left.went (sym same) k.timed);
      window = wide-by left.congestion passing.any left.went _ _ k.window;
    })

sack-stays : (answer : Confirmation) (s : Sending) (now window cumulative : ℕ) (names : ℕ → Bool) →
    confirmation s cumulative ≡ answer → Stays s → Stays (after_sack s now window names answer)
sack-stays Old s now window cumulative names e h = h
sack-stays Beyond s now window cumulative names e h = h
sack-stays (Of count) s now window cumulative names e h =
    acknowledged-stays s now window count names (confirmed-within s cumulative count e) h

shutdown-stays : (answer : Confirmation) (s : Sending) (now cumulative : ℕ) → confirmation s cumulative ≡ answer → Stays s →
    Stays (after_cumulative s now answer)
shutdown-stays Old s now cumulative e h = h
shutdown-stays Beyond s now cumulative e h = h
shutdown-stays (Of count) s now cumulative e h =
    settled-stays (confirmed s count now) count now (confirmed-stays s count now (confirmed-within s cumulative count e) h)

given-stays : (s : Sending) (m : Message) → Stays s → Stays (given s m)
unfolding given
given-stays s m h =
    let more : List Outgoing = new_outgoing m (slice_index s.sequences m.stream) ∷ [] in
    record {
      within = omega (arith, h.within, length-append s.out more);
      timer = h.timer;
      timed = IfSome_then s.timed h.timed (λ t o. record {
        place = o.place;
        once = ap again_of (get_or_append_left s.out more blank t.place (let place = o.place in omega (arith, place, h.within))) ∙ o.once;
      });
      window = h.window;
    }

runs : (timer : Option ℕ) (moment : ℕ) → is_some (running timer moment) ≡ true
runs None moment = refl
runs (Some t) moment = refl

runs-if : (b : Bool) (timer : Option ℕ) (moment : ℕ) → is_some (if b then Some moment else running timer moment) ≡ true
runs-if true timer moment = refl
runs-if false timer moment = runs timer moment

again-stays : (s : Sending) (place now : ℕ) → Stays s → Stays (gone_again s place now)
unfolding gone_again
again-stays s place now h =
    let o : Outgoing = gone_out true (outgoing_at s.out place) in
    record {
      within = omega (arith, h.within, length-set s.out place o);
      timer = λ l. runs-if (place == 0) s.t3 (now + s.round_trips.timeout);
      timed = once-without s.timed s.out s.went place o h.timed;
      window = h.window;
    }

first-stays : (s : Sending) (now : ℕ) → s.went < length s.out → Stays s → Stays (gone_first s now)
unfolding gone_first
first-stays s now l h =
    let o : Outgoing = gone_out false (outgoing_at s.out s.went) in
    record {
      within = omega (arith, l, length-set s.out s.went o);
      timer = λ m. runs s.t3 (now + s.round_trips.timeout);
      timed = once-from s.timed s.out s.went now o l refl h.timed;
      window = h.window;
    }

goes-stays : (b : Bool) (s : Sending) (place now : ℕ) → nat_lt place s.went ≡ b → place < length s.out → Stays s →
    Stays (if b then gone_again s place now else gone_first s now)
goes-stays true s place now e l h = again-stays s place now h
goes-stays false s place now e l h =
    let above : s.went ≤ place = ltb-false place s.went e in
    first-stays s now (omega (arith, above, l)) h

puts-stays : (place : Option ℕ) (c : Course) (now : ℕ) → next_place c.half ≡ place → Stays c.half →
    Stays (after_putting place now c).half
unfolding next_place
puts-stays None c now e h = record { within = h.within; timer = h.timer; timed = h.timed; window = h.window }
puts-stays (Some place) c now e h =
    goes-stays (nat_lt place c.half.went) c.half place now refl
    (next-within (lost_from c.half.out 0 c.half.went) c.half place refl e) h

t3-many : (s : Sending) (now : ℕ) → s.went ≤ length s.out → s.went ≤ length (after_t3 s now).out
unfolding after_t3
t3-many s now l =
    let whole = length-append (map timed_out (take s.went s.out)) (drop s.went s.out) in
    let front = length-map (take s.went s.out) timed_out in
    omega (arith, l, whole, front, length-take-le s.went s.out l)

t3-stays : (s : Sending) (now : ℕ) → Stays s → Stays (after_t3 s now)
unfolding after_t3
t3-stays s now h = record {
  within = t3-many s now h.within;
  timer = λ l. refl;
  timed = tt;
  window = omega arith;
}

call-stays : (call : Call) (c : Course) → Stays c.half → Stays (after_call call c).half
call-stays (Gives m) c h = given-stays c.half m h
call-stays (PutsOut now) c h = puts-stays (next_place c.half) c now refl h
call-stays (Hears now window cumulative names) c h =
    sack-stays (confirmation c.half cumulative) c.half now window cumulative names refl h
call-stays (HearsShutdown now cumulative) c h = shutdown-stays (confirmation c.half cumulative) c.half now cumulative refl h
call-stays (TimesOut now) c h = t3-stays c.half now h

calls-stay : (calls : List Call) (c : Course) → Stays c.half → Stays (after_calls calls c).half
calls-stay [] c h = h
calls-stay (call ∷ calls) c h = calls-stay calls (after_call call c) (call-stays call c h)

always-stays : (bounds : Bounds) (first window : ℕ) (calls : List Call) → Stays (half_after bounds first window calls)
always-stays bounds first window calls =
    calls-stay calls (first_course bounds first window)
    (record { within = omega arith; timer = λ l. absurd (omega (arith, l)); timed = tt; window = omega arith })

pub always-lively : halves_are_lively
always-lively bounds first window calls =
    let h = always-stays bounds first window calls in
    record {
      timer = h.timer;
      timed = IfSome_then (half_after bounds first window calls).timed h.timed (λ t o. o.once);
      window = h.window;
    }

-- ---- something may go

idle-next : (s : Sending) → packet_octets ≤ s.congestion.window → under_way s ≡ 0 → is_waiting s ≡ true → is_some (next_place s) ≡ true
unfolding next_place
idle-next s wide idle waits = by (lost_from s.out 0 s.went) waits
  where
    credit : has_credit s ≡ true
    credit = lt-ltb (under_way s) s.congestion.window (omega (arith, wide, idle))

    window : (octets : ℕ) → finds_window s octets ≡ true
    window octets = or_right (nat_le octets s.peer_window) (under_way s == 0) (eq-eqb (under_way s) 0 idle)

    by : (lost : Option ℕ) → (is_some lost || nat_lt s.went (length s.out)) ≡ true → is_some (next_of s lost) ≡ true
    by None e =
        let begins : (nat_lt s.went (length s.out) && has_credit s && finds_window s (octets_of (outgoing_at s.out s.went))) ≡ true =
        and_from (nat_lt s.went (length s.out) && has_credit s) (finds_window s (octets_of (outgoing_at s.out s.went)))
        (and_from (nat_lt s.went (length s.out)) (has_credit s) e credit) (window (octets_of (outgoing_at s.out s.went))) in
        ap (λ (b : Bool). is_some (if b then Some s.went else None)) begins
    by (Some place) e =
        ap (λ (b : Bool). is_some (if b then Some place else None)) (or_right _ (has_credit s) credit)

pub idle-puts-out : idle_halves_put_out
idle-puts-out bounds first window calls idle waits =
    let h = always-stays bounds first window calls in
    idle-next (half_after bounds first window calls) h.window idle waits

one-more : (found : Option ℕ) (rest : Sending → Gone) (now : ℕ) (s : Sending) → is_some found ≡ true →
    0 < length (map DataChunk (gone_from rest now found s).chunks)
one-more None rest now s e = absurd cc
one-more (Some place) rest now s e = omega arith

pub goes-as-data : messages_go_out_as_data
unfolding going
goes-as-data now a takes next =
    subst (λ (b : Bool). 0 < length (if b then map DataChunk (going (suc most_messages) now a.sender).chunks else [])) (sym takes)
    (one-more (next_place a.sender) (λ left. going most_messages now left) now a.sender next)
