-- The sending half under any list of calls.
use Rattle.std.proofs.Common.{◌≡◌, ℕ, zero, suc, ◌+◌, ◌-◌, ◌%◌, ◌^◌, ◌<◌, ◌≤◌, Bool, true, false, List, [], ◌∷◌, ◌++◌}
use Rattle.std.proofs.Common.{Option, Some, None, length, map, drop, set, get_or, refl, ap, sym, ◌∙◌, arith}
use Rattle.std.proofs.Common.{nat_lt, length-append, length-drop}
use Rattle.std.specs.Prelude.{if◌then◌else◌, All, slice_index_or}
use Rattle.std.proofs.Math.Seq.{map-set_same}
use Rattle.std.proofs.Math.ListN.{get_or-map, get_or-append}
use Rattle.std.proofs.lemmas.Bool.Decides.{nat_tests}
use Rattle.std.proofs.lemmas.List.{map-append, length-map, length-set, get_or-drop, drop-map, drop-drop, drop-append-le}
use Rattle.std.proofs.lemmas.List.Elements.{All-append, All-weaker, All-nil}
use Rattle.sctp_sending.specs.declared.confirmation.Confirmation.{Confirmation}
use Rattle.sctp_sending.specs.declared.confirmation.Confirmation.TheVariants.{Old, Beyond, Of}
use Rattle.sctp_sending.specs.Outgoing.{Message, Outgoing, no_message, new_outgoing, outgoing_at, gone_out}
use Rattle.sctp_sending.specs.Outgoing.{lost_from}
use Rattle.sctp_sending.specs.Sending.{Sending, given, next_place, gone_next, confirmation, confirmed, settled}
use Rattle.sctp_sending.specs.Sending.{gone_again, gone_first}
use Rattle.sctp_sending.specs.Sending.{after_cumulative, after_sack, after_t3}
use Rattle.sctp_sending.specs.Sending.{acknowledged}
use Rattle.sctp_codec.specs.Packets.{DataValue}
use Rattle.sctp_rules.specs.Confirming.{data_at}
use Rattle.sctp_rules.specs.GivenMessages.{Call, Gives, PutsOut, Hears, HearsShutdown, TimesOut, Course, first_course, counted}
use Rattle.sctp_rules.specs.GivenMessages.{after_putting, after_call, after_calls, message_of, IsGiven, IsInOrder}
use Rattle.sctp_rules.specs.GivenMessages.{given_messages_go_out}
use Rattle.std.proofs.lemmas.Simd.{map-map}
use Rattle.sctp_rules.proofs.Halves.{Numbered, numbered_of, message_in, Same, settled-same, acknowledged-same, t3-same, confirmed-within, next-within}

-- ---- what stays with each message

pub kept-at : (f : Outgoing → Outgoing) → ((o : Outgoing) → message_of (f o) ≡ message_of o) → (out : List Outgoing) (place : ℕ) →
    map message_of (set out place (f (outgoing_at out place))) ≡ map message_of out
kept-at f h out place =
    map-set_same message_of out place (f (outgoing_at out place)) (new_outgoing no_message 0) (h (outgoing_at out place))

same-length : (xs ys : List Outgoing) → map message_of xs ≡ map message_of ys → length xs ≡ length ys
same-length xs ys e = sym (length-map xs message_of) ∙ ap (λ (ms : List Message). length ms) e ∙ length-map ys message_of

-- ---- what holds of every course

pub record IsCourse (first : ℕ) (c : Course) : Type 0 where
  pub order : IsInOrder first c
  pub went : c.half.went ≤ length c.half.out
  pub within : c.confirmed ≤ length c.messages

-- another half with the same messages
pub record Alike (s t : Sending) : Type 0 where
  pub out : map message_of s.out ≡ map message_of t.out
  pub first : s.first ≡ t.first
  pub went : s.went ≡ t.went

pub alike-so : (first : ℕ) (c : Course) (s : Sending) → Alike s c.half → IsCourse first c → IsCourse first (record c { half = s })
alike-so first c s a h = record {
  order = record { out = a.out ∙ h.order.out; tsn = a.first ∙ h.order.tsn; chunks = h.order.chunks };
  went = omega (arith, h.went, a.went, same-length s.out c.half.out a.out);
  within = h.within;
}

-- of the same messages under their numbers
alike-of : (s t : Sending) → Same t s → Alike s t
alike-of s t a = record {
  out = sym (map-map message_in numbered_of s.out)
      ∙ ap (λ (ns : List Numbered). map message_in ns) (sym a.out)
      ∙ map-map message_in numbered_of t.out;
  first = sym a.first_is;
  went = sym a.went_is;
}

-- ---- messages are confirmed

on-wire : (first before more : ℕ) → ((first + before) % 2 ^ 32 + more) % 2 ^ 32 ≡ (first + (before + more)) % 2 ^ 32
on-wire first before more = omega arith

pub left-over : (first : ℕ) (c : Course) → IsCourse first c → length c.half.out ≡ length c.messages - c.confirmed
left-over first c h =
    sym (length-map c.half.out message_of) ∙ ap (λ (ms : List Message). length ms) h.order.out ∙ length-drop c.confirmed c.messages

confirmed-so : (first : ℕ) (c : Course) (count now : ℕ) → count ≤ c.half.went → IsCourse first c →
    IsCourse first (record c { half = confirmed c.half count now; confirmed = c.confirmed + count })
unfolding confirmed
confirmed-so first c count now l h = record {
  order = record {
    out = sym (drop-map message_of count c.half.out)
        ∙ ap (λ (ms : List Message). drop count ms) h.order.out
        ∙ drop-drop count c.confirmed c.messages;
    tsn = ap (λ (n : ℕ). (n + count) % 2 ^ 32) h.order.tsn ∙ on-wire first c.confirmed count;
    chunks = h.order.chunks;
  };
  went = omega (arith, h.went, length-drop count c.half.out);
  within = omega (arith, l, h.went, left-over first c h, h.within);
}

hears-so : (answer : Confirmation) (first : ℕ) (c : Course) (now window cumulative : ℕ) (names : ℕ → Bool) →
    confirmation c.half cumulative ≡ answer → IsCourse first c →
    IsCourse first (record c { half = after_sack c.half now window names answer; confirmed = counted answer c.confirmed })
hears-so Old first c now window cumulative names e h = h
hears-so Beyond first c now window cumulative names e h = h
hears-so (Of count) first c now window cumulative names e h =
    let later : Course = record c { half = confirmed c.half count now; confirmed = c.confirmed + count } in
    alike-so first later (acknowledged c.half now window count names) (alike-of (acknowledged c.half now window count names) (confirmed c.half count now) (acknowledged-same c.half now window count names))
    (confirmed-so first c count now (confirmed-within c.half cumulative count e) h)

shutdown-so : (answer : Confirmation) (first : ℕ) (c : Course) (now cumulative : ℕ) →
    confirmation c.half cumulative ≡ answer → IsCourse first c →
    IsCourse first (record c { half = after_cumulative c.half now answer; confirmed = counted answer c.confirmed })
shutdown-so Old first c now cumulative e h = h
shutdown-so Beyond first c now cumulative e h = h
shutdown-so (Of count) first c now cumulative e h =
    let later : Course = record c { half = confirmed c.half count now; confirmed = c.confirmed + count } in
    alike-so first later (settled (confirmed c.half count now) count now) (alike-of (settled (confirmed c.half count now) count now) (confirmed c.half count now) (settled-same (confirmed c.half count now) count now))
    (confirmed-so first c count now (confirmed-within c.half cumulative count e) h)

-- ---- a message goes out

only : (P : DataValue → Type 0) (x : DataValue) → P x → All P (x ∷ [])
only P x h zero d l = h
only P x h (suc k) d l = absurd (omega (arith, l))

-- the chunk of a message that isn't confirmed
chunk-given : (first : ℕ) (c : Course) (p : ℕ) → IsCourse first c → p < length c.half.out →
    IsGiven first c.messages (data_at c.half p)
chunk-given first c p h l = record {
  place = c.confirmed + p;
  within = omega (arith, l, left-over first c h, h.within);
  tsn = ap (λ (n : ℕ). (n + p) % 2 ^ 32) h.order.tsn ∙ on-wire first c.confirmed p;
  message = sym (get_or-drop c.confirmed c.messages p no_message)
      ∙ ap (λ (ms : List Message). get_or ms p no_message) (sym h.order.out)
      ∙ get_or-map message_of c.half.out p (new_outgoing no_message 0);
}

pub again-alike : (s : Sending) (p now : ℕ) → Alike (gone_again s p now) s
unfolding gone_again
again-alike s p now = record { out = kept-at (λ o. gone_out true o) (λ o. refl) s.out p; first = refl; went = refl }

first-goes : (first : ℕ) (c : Course) (now : ℕ) → c.half.went < length c.half.out → IsCourse first c →
    IsCourse first (record c { half = gone_first c.half now })
unfolding gone_first
first-goes first c now l h =
    let place : ℕ = c.half.went in
    let long : length (set c.half.out place (gone_out false (outgoing_at c.half.out place))) ≡ length c.half.out =
    length-set c.half.out place (gone_out false (outgoing_at c.half.out place)) in
    record {
      order = record {
        out = kept-at (λ o. gone_out false o) (λ o. refl) c.half.out place ∙ h.order.out;
        tsn = h.order.tsn;
        chunks = h.order.chunks;
      };
      went = omega (arith, l, long);
      within = h.within;
    }

goes-so : (b : Bool) (first : ℕ) (c : Course) (p now : ℕ) → nat_lt p c.half.went ≡ b → p < length c.half.out → IsCourse first c →
    IsCourse first (record c { half = if b then gone_again c.half p now else gone_first c.half now })
goes-so true first c p now e l h = alike-so first c (gone_again c.half p now) (again-alike c.half p now) h
goes-so false first c p now e l h =
    let above : c.half.went ≤ p = grind (arith, nat_tests, e) in
    first-goes first c now (omega (arith, above, l)) h

-- a chunk more
chunk-more : (first : ℕ) (c : Course) (chunk : DataValue) → IsGiven first c.messages chunk → IsCourse first c →
    IsCourse first (record c { chunks = c.chunks ++ chunk ∷ [] })
chunk-more first c chunk g h = record {
  order = record {
    out = h.order.out;
    tsn = h.order.tsn;
    chunks = All-append (λ (x : DataValue). IsGiven first c.messages x) c.chunks (chunk ∷ []) h.order.chunks
        (only (λ (x : DataValue). IsGiven first c.messages x) chunk g);
  };
  went = h.went;
  within = h.within;
}

puts-so : (place : Option ℕ) (first : ℕ) (c : Course) (now : ℕ) → next_place c.half ≡ place → IsCourse first c →
    IsCourse first (after_putting place now c)
unfolding next_place
puts-so None first c now e h =
    alike-so first c (gone_next c.half now None) (record { out = refl; first = refl; went = refl }) h
puts-so (Some p) first c now e h =
    let within : p < length c.half.out = next-within (lost_from c.half.out 0 c.half.went) c.half p refl e in
    chunk-more first (record c { half = gone_next c.half now (Some p) }) (data_at c.half p) (chunk-given first c p h within)
    (goes-so (nat_lt p c.half.went) first c p now refl within h)

-- ---- a message is given

still-given : (first : ℕ) (messages : List Message) (m : Message) (chunk : DataValue) → IsGiven first messages chunk →
    IsGiven first (messages ++ m ∷ []) chunk
still-given first messages m chunk g = record {
  place = g.place;
  within = omega (arith, g.within, length-append messages (m ∷ []));
  tsn = g.tsn;
  message = get_or-append messages (m ∷ []) no_message g.place g.within ∙ g.message;
}

gives-so : (first : ℕ) (c : Course) (m : Message) → IsCourse first c →
    IsCourse first (record c { half = given c.half m; messages = c.messages ++ m ∷ [] })
unfolding given
gives-so first c m h =
    let number : ℕ = slice_index_or c.half.sequences m.stream 0 in
    record {
      order = record {
        out = map-append message_of c.half.out (new_outgoing m number ∷ [])
            ∙ ap (λ (ms : List Message). ms ++ m ∷ []) h.order.out
            ∙ sym (drop-append-le c.confirmed c.messages (m ∷ []) h.within);
        tsn = h.order.tsn;
        chunks = All-weaker (λ (chunk : DataValue). IsGiven first c.messages chunk)
            (λ (chunk : DataValue). IsGiven first (c.messages ++ m ∷ []) chunk) (still-given first c.messages m) c.chunks h.order.chunks;
      };
      went = omega (arith, h.went, length-append c.half.out (new_outgoing m number ∷ []));
      within = omega (arith, h.within, length-append c.messages (m ∷ []));
    }

-- ---- all calls

pub timed-alike : (s : Sending) (now : ℕ) → Alike (after_t3 s now) s
timed-alike s now = alike-of (after_t3 s now) s (t3-same s now)

pub call-so : (call : Call) (first : ℕ) (c : Course) → IsCourse first c → IsCourse first (after_call call c)
call-so (Gives m) first c h = gives-so first c m h
call-so (PutsOut now) first c h = puts-so (next_place c.half) first c now refl h
call-so (Hears now window cumulative names) first c h =
    hears-so (confirmation c.half cumulative) first c now window cumulative names refl h
call-so (HearsShutdown now cumulative) first c h = shutdown-so (confirmation c.half cumulative) first c now cumulative refl h
call-so (TimesOut now) first c h = alike-so first c (after_t3 c.half now) (timed-alike c.half now) h

calls-so : (calls : List Call) (first : ℕ) (c : Course) → IsCourse first c → IsCourse first (after_calls calls c)
calls-so [] first c h = h
calls-so (call ∷ calls) first c h = calls-so calls first (after_call call c) (call-so call first c h)

pub all-given : given_messages_go_out
all-given bounds first window calls fits =
    let start : IsCourse first (first_course bounds first window) = record {
      order = record { out = refl; tsn = omega (arith, fits); chunks = All-nil (λ (chunk : DataValue). IsGiven first [] chunk) };
      went = omega arith;
      within = omega arith;
    } in
    (calls-so calls first (first_course bounds first window) start).order
