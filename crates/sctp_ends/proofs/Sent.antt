-- Messages that are given, go out, and are confirmed, as moves.
use Rattle.std.proofs.Common.{◌≡◌, ◌⊎◌, inl, inr, ℕ, zero, suc, ◌+◌, ◌-◌, ◌%◌, ◌^◌, ◌<◌, ◌≤◌, arith, Bool, true, false, List, [], ◌∷◌, ◌++◌, Option, Some, None, length, map, take, drop, refl, ap, sym, ◌∙◌, subst}
use Rattle.std.proofs.Common.{nat_lt, nat_le, length-append}
use Rattle.std.specs.Prelude.{if◌then◌else◌, slice_get}
use Rattle.std.specs.List.{Contains}
use Rattle.std.proofs.lemmas.Grind.{common_steps}
use Rattle.std.proofs.lemmas.Bool.Decides.{nat_tests}
use Rattle.std.proofs.lemmas.List.{map-append, length-map, length-set}
use Rattle.std.proofs.lemmas.List.Elements.{All-nil}
use Rattle.sctp_codec.specs.Packets.{DataValue}
use Rattle.sctp_sending.specs.declared.confirmation.Confirmation.{Confirmation}
use Rattle.sctp_sending.specs.declared.confirmation.Confirmation.TheVariants.{Old, Beyond, Of}
use Rattle.sctp_sending.specs.Outgoing as outgoing
use Rattle.sctp_sending.specs.Outgoing.{Outgoing, new_outgoing, no_message, outgoing_at, tsn_at, ahead_of}
use Rattle.sctp_sending.specs.Sending.{Sending, given, next_place, gone_next, gone_again, gone_first, confirmation, after_sack, after_cumulative, after_t3, stopped}
use Rattle.sctp_sending.specs.Outgoing.{gone_out, lost_from}
use Rattle.sctp_rules.specs.Confirming.{data_at, going, gone_from}
use Rattle.sctp_rules.specs.GivenMessages as courses
use Rattle.sctp_rules.specs.GivenMessages.{Course, IsInOrder, IsGiven, message_of, counted}
use Rattle.sctp_rules.proofs.GivenMessages.{IsCourse, call-so, kept-at, timed-alike, left-over}
use Rattle.sctp_rules.proofs.Halves.{next-within}
use Rattle.sctp_moves.specs.Numbers.{modulus, window, number_of, cumulative, steps_between}
use Rattle.sctp_moves.specs.Ends.{Message, Chunk, Acknowledgement, Epoch, End}
use Rattle.sctp_moves.specs.Moves.{chunk_of}
use Rattle.sctp_moves.specs.Theorems.{HasOther}
use Rattle.sctp_moves.proofs.Members.{In, in-from}
use Rattle.sctp_moves.proofs.Keeping.{IsSound}
use Rattle.sctp_moves.proofs.Concluded.{has-other}
use Rattle.sctp_ends.specs.Said.{Each, load, since, young, IsData, chunk_in, text_in}
use Rattle.sctp_ends.specs.Shown.{SendsOut, IsTaken, given_as, texts, course_of}
use Rattle.sctp_ends.specs.Told.{text_given}
use Rattle.sctp_ends.proofs.Said.{first-in}
use Rattle.sctp_ends.proofs.Alike.{SameOut, out-same, sends-same, only-one}

-- ---- lists

at-map : (out : List Outgoing) (p : ℕ) → p < length out → slice_get (map message_of out) p ≡ Some (message_of (outgoing_at out p))
at-map [] p l = absurd (omega (arith, l))
at-map (o ∷ os) zero l = refl
at-map (o ∷ os) (suc p) l = at-map os p (omega (arith, l))

get-drop : {A : Type 0} (n : ℕ) (xs : List A) (p : ℕ) (x : A) → slice_get (drop n xs) p ≡ Some x → slice_get xs (n + p) ≡ Some x
get-drop zero xs p x e = let z : 0 + p ≡ p = omega arith in subst (λ (i : ℕ). slice_get xs i ≡ Some x) (sym z) e
get-drop (suc n) [] p x e = absurd (grind (arith, common_steps))
get-drop (suc n) (y ∷ ys) p x e =
    let z : suc n + p ≡ suc (n + p) = omega arith in
    subst (λ (i : ℕ). slice_get (y ∷ ys) i ≡ Some x) (sym z) (get-drop n ys p x e)

some-is : {A : Type 0} (x y : A) → Some x ≡ Some y → x ≡ y
some-is x y e = cc

unmap : {A B : Type 0} (f : A → B) (xs : List A) (i : ℕ) (y : B) → slice_get (map f xs) i ≡ Some y → (x : A) × (slice_get xs i ≡ Some x) × (f x ≡ y)
unmap f [] i y e = absurd (grind (arith, common_steps))
unmap f (x ∷ xs) zero y e = (x, refl, some-is (f x) y e)
unmap f (x ∷ xs) (suc i) y e = unmap f xs i y e

get-take : {A : Type 0} (n : ℕ) (xs : List A) (i : ℕ) (x : A) → slice_get (take n xs) i ≡ Some x → slice_get xs i ≡ Some x
get-take zero xs i x e = absurd (grind (arith, common_steps))
get-take (suc n) [] i x e = absurd (grind (arith, common_steps))
get-take (suc n) (y ∷ ys) zero x e = e
get-take (suc n) (y ∷ ys) (suc i) x e = get-take n ys i x e

push-cases : {A : Type 0} (xs : List A) (y : A) (i : ℕ) (x : A) → slice_get (xs ++ y ∷ []) i ≡ Some x →
    (slice_get xs i ≡ Some x) ⊎ ((i ≡ length xs) × (y ≡ x))
push-cases [] y zero x e = inr (refl, some-is y x e)
push-cases [] y (suc i) x e = absurd (grind (arith, common_steps))
push-cases (z ∷ zs) y zero x e = inl e
push-cases (z ∷ zs) y (suc i) x e = by (push-cases zs y i x e) where
  by : (slice_get zs i ≡ Some x) ⊎ ((i ≡ length zs) × (y ≡ x)) → (slice_get (z ∷ zs) (suc i) ≡ Some x) ⊎ ((suc i ≡ length (z ∷ zs)) × (y ≡ x))
  by (inl m) = inl m
  by (inr m) = inr (let k : i ≡ length zs = m.0 in omega (arith, k), m.1)

pub last-there : {A : Type 0} (xs : List A) (y : A) → slice_get (xs ++ y ∷ []) (length xs) ≡ Some y
last-there [] y = refl
last-there (x ∷ xs) y = last-there xs y

take-self : {A : Type 0} (xs : List A) → take (length xs) xs ≡ xs
take-self [] = refl
take-self (x ∷ xs) = ap (λ ys. x ∷ ys) (take-self xs)

take-map : {A B : Type 0} (f : A → B) (n : ℕ) (xs : List A) → map f (take n xs) ≡ take n (map f xs)
take-map f zero xs = refl
take-map f (suc n) [] = refl
take-map f (suc n) (x ∷ xs) = ap (λ ys. f x ∷ ys) (take-map f n xs)

take-drop : {A : Type 0} (n m : ℕ) (xs : List A) → take m (drop n xs) ≡ drop n (take (n + m) xs)
take-drop {A = A} zero m xs = let z : 0 + m ≡ m = omega arith in ap (λ (k : ℕ). take {A = A} k xs) (sym z)
take-drop {A = A} (suc n) zero [] =
    let z : suc n + 0 ≡ suc n = omega arith in
    sym (ap (λ (k : ℕ). drop {A = A} (suc n) (take {A = A} k [])) z)
take-drop {A = A} (suc n) (suc m) [] =
    let z : suc n + suc m ≡ suc (n + suc m) = omega arith in
    sym (ap (λ (k : ℕ). drop {A = A} (suc n) (take {A = A} k [])) z)
take-drop {A = A} (suc n) m (x ∷ xs) =
    let z : suc n + m ≡ suc (n + m) = omega arith in
    take-drop n m xs ∙ sym (ap (λ (k : ℕ). drop {A = A} (suc n) (take {A = A} k (x ∷ xs))) z)

length-take : {A : Type 0} (n : ℕ) (xs : List A) → n ≤ length xs → length (take n xs) ≡ n
length-take zero xs l = refl
length-take (suc n) [] l = absurd (omega (arith, l))
length-take (suc n) (x ∷ xs) l = let r : length (take n xs) ≡ n = length-take n xs (omega (arith, l)) in omega (arith, r)

take-twice : {A : Type 0} (n m : ℕ) (xs : List A) → n ≤ m → take n (take m xs) ≡ take n xs
take-twice zero m xs l = refl
take-twice (suc n) zero xs l = absurd (omega (arith, l))
take-twice (suc n) (suc m) [] l = refl
take-twice (suc n) (suc m) (x ∷ xs) l = ap (λ ys. x ∷ ys) (take-twice n m xs (omega (arith, l)))

taken-within : {A : Type 0} (n : ℕ) (xs : List A) → length (take n xs) ≤ length xs
taken-within zero xs = omega arith
taken-within (suc n) [] = omega arith
taken-within (suc n) (x ∷ xs) = let r : length (take n xs) ≤ length xs = taken-within n xs in omega (arith, r)

-- ---- a sending half as a course

is-course : (e : End) (epoch : Epoch) (b : Bool) (s : Sending) → (h : SendsOut e epoch b s) → IsCourse epoch.own.first (course_of s h.given epoch.acked)
is-course e epoch b s h = record {
  order = h.order;
  went = h.went;
  within = let l : length (texts h.given) ≡ length h.given = length-map h.given given_as in omega (arith, l, h.within);
}

part-within : (given sent : List Message) → given ≡ take (length given) sent → length given ≤ length sent
part-within given sent e =
    let l : length given ≡ length (take (length given) sent) = ap (λ (ms : List Message). length ms) e in
    omega (arith, l, taken-within (length given) sent)

-- ---- the age of what comes

-- no more is received than was sent, and no more is confirmed than was received
pub received-young : (e other : End) → IsSound e other → (epoch : Epoch) → Contains e.epochs epoch → (tag : ℕ) → epoch.own.tag ≡ tag →
    (d : Chunk) → d.to ≡ tag → (young other).chunk d → length epoch.received + window ≤ d.place + modulus
received-young e other sound epoch i tag t d to aged = by (length epoch.received) refl where
  by : (n : ℕ) → n ≡ length epoch.received → length epoch.received + window ≤ d.place + modulus
  by zero n = omega (arith, n)
  by (suc k) n =
      let here : In epoch e.epochs = in-from e.epochs epoch i in
      let o : HasOther other.epochs epoch = has-other e other sound epoch here ((sound.carrying.0.each epoch here).fed (omega (arith, n))) in
      let flow = sound.carrying.1.flows o.other epoch (in-from other.epochs o.other o.there) here (record { there = sym o.one.back; back = sym o.one.there }) in
      let bound : length o.other.sent + window ≤ d.place + modulus = aged o.other o.there (sym o.one.there ∙ t ∙ sym to) in
      let within : length epoch.received ≤ length o.other.sent = flow.within in
      omega (arith, bound, within)

pub confirmed-young : (e other : End) → IsSound e other → (epoch : Epoch) → Contains e.epochs epoch → (tag : ℕ) → epoch.own.tag ≡ tag →
    (a : Acknowledgement) → a.to ≡ tag → (young other).ack a → epoch.acked + window < a.count + modulus
confirmed-young e other sound epoch i tag t a to aged = by epoch.acked refl where
  by : (n : ℕ) → n ≡ epoch.acked → epoch.acked + window < a.count + modulus
  by zero n = omega (arith, n)
  by (suc k) n =
      let here : In epoch e.epochs = in-from e.epochs epoch i in
      let o : HasOther other.epochs epoch = has-other e other sound epoch here ((sound.carrying.0.each epoch here).confirmed (omega (arith, n))) in
      let flow = sound.carrying.0.flows epoch o.other here (in-from other.epochs o.other o.there) o.one in
      let bound : length o.other.received + window < a.count + modulus = aged o.other o.there (sym o.one.there ∙ t ∙ sym to) in
      let within : epoch.acked ≤ length o.other.received = flow.acked in
      omega (arith, bound, within)

-- ---- a message is given

abbrev pub with_sent : Epoch → Message → Epoch
with_sent epoch m = record epoch { sent = epoch.sent ++ m ∷ [] }

pub given-sends : (e f : End) (epoch : Epoch) (s : Sending) (m : outgoing.Message) → SendsOut e epoch true s → IsTaken (text_given m) →
    ((d : Chunk) → Contains e.chunks d → Contains f.chunks d) → Contains f.chunks (chunk_of epoch (length epoch.sent) (text_given m)) → (b : Bool) →
    SendsOut f (with_sent epoch (text_given m)) b (given s m)
given-sends e f epoch s m h fine more here b =
    let text : Message = text_given m in
    let all : h.given ++ text ∷ [] ≡ epoch.sent ++ text ∷ [] = ap (λ (ms : List Message). ms ++ text ∷ []) (h.all refl) in
    let after : IsCourse epoch.own.first (courses.after_call (courses.Gives m) (course_of s h.given epoch.acked)) =
    call-so (courses.Gives m) epoch.own.first (course_of s h.given epoch.acked) (is-course e epoch true s h) in
    let same : texts h.given ++ m ∷ [] ≡ texts (h.given ++ text ∷ []) = sym (map-append given_as h.given (text ∷ [])) in
    let course : IsCourse epoch.own.first (course_of (given s m) (h.given ++ text ∷ []) epoch.acked) =
    subst (λ (ms : List outgoing.Message). IsCourse epoch.own.first (record { half = given s m; messages = ms; confirmed = epoch.acked; chunks = [] })) same after in
    record {
      given = h.given ++ text ∷ [];
      part = all ∙ sym (take-self (epoch.sent ++ text ∷ [])) ∙ ap (λ (ms : List Message). take (length ms) (epoch.sent ++ text ∷ [])) (sym all);
      order = course.order;
      went = course.went;
      within = omega (arith, h.within, length-append h.given (text ∷ []));
      all = λ q. all;
      taken = λ place x i. taken-so place x (push-cases epoch.sent text place x i);
      put = λ place x i. put-so place x (push-cases epoch.sent text place x i);
    } where
      taken-so : (place : ℕ) (x : Message) → (slice_get epoch.sent place ≡ Some x) ⊎ ((place ≡ length epoch.sent) × (text_given m ≡ x)) → IsTaken x
      taken-so place x (inl i) = h.taken place x i
      taken-so place x (inr q) = subst IsTaken q.1 fine

      put-so : (place : ℕ) (x : Message) → (slice_get epoch.sent place ≡ Some x) ⊎ ((place ≡ length epoch.sent) × (text_given m ≡ x)) →
          Contains f.chunks (chunk_of epoch place x)
      put-so place x (inl i) = more (chunk_of epoch place x) (h.put place x i)
      put-so place x (inr q) =
          subst (λ (y : Message). Contains f.chunks (chunk_of epoch place y)) q.1
          (subst (λ (n : ℕ). Contains f.chunks (chunk_of epoch n (text_given m))) (sym q.0) here)

-- how many wait for their confirmation
pub out-length : (e : End) (epoch : Epoch) (b : Bool) (s : Sending) → (h : SendsOut e epoch b s) → length s.out ≡ length h.given - epoch.acked
out-length e epoch b s h =
    let l : length s.out ≡ length (texts h.given) - epoch.acked = left-over epoch.own.first (course_of s h.given epoch.acked) (is-course e epoch b s h) in
    let k : length (texts h.given) ≡ length h.given = length-map h.given given_as in
    omega (arith, l, k)

-- ---- messages are confirmed

abbrev pub with_acked : Epoch → ℕ → Epoch
with_acked epoch acked = record epoch { acked = acked }

of-cases : (a b : Bool) (n count : ℕ) → (if a then Old else (if b then Beyond else Of n)) ≡ Of count → n ≡ count
of-cases true b n count e = absurd (cc)
of-cases false true n count e = absurd (cc)
of-cases false false n count e = cc

pub count-is : (s : Sending) (number count : ℕ) → confirmation s number ≡ Of count → ahead_of (tsn_at number 1) s.first ≡ count
unfolding confirmation
count-is s number count e =
    let n : ℕ = ahead_of (tsn_at number 1) s.first in
    of-cases (nat_le (2 ^ 31) n) (nat_lt s.went n) n count e

pub record Confirms (e f : End) (epoch : Epoch) (b : Bool) (count : ℕ) (t : Sending) : Type 0 where
  pub within : epoch.acked + count ≤ length epoch.sent
  pub sends : SendsOut f (with_acked epoch (epoch.acked + count)) b t

confirms-so : (e f : End) (epoch : Epoch) (b : Bool) (s t : Sending) (count : ℕ) → (h : SendsOut e epoch b s) → f.chunks ≡ e.chunks →
    IsCourse epoch.own.first (course_of t h.given (epoch.acked + count)) → Confirms e f epoch b count t
confirms-so e f epoch b s t count h same c =
    let l : length (texts h.given) ≡ length h.given = length-map h.given given_as in
    let within : epoch.acked + count ≤ length h.given = omega (arith, l, c.within) in
    record {
      within = omega (arith, within, part-within h.given epoch.sent h.part);
      sends = record {
        given = h.given;
        part = h.part;
        order = c.order;
        went = c.went;
        within = within;
        all = h.all;
        taken = h.taken;
        put = λ place m i. subst (λ (chunks : List Chunk). Contains chunks (chunk_of epoch place m)) (sym same) (h.put place m i);
      };
    }

pub sack-confirms : (e f : End) (epoch : Epoch) (b : Bool) (s : Sending) (now window number count : ℕ) (names : ℕ → Bool) →
    confirmation s number ≡ Of count → SendsOut e epoch b s → f.chunks ≡ e.chunks →
    Confirms e f epoch b count (after_sack s now window names (Of count))
sack-confirms e f epoch b s now window number count names is h same =
    let after : IsCourse epoch.own.first (courses.after_call (courses.Hears now window number names) (course_of s h.given epoch.acked)) =
    call-so (courses.Hears now window number names) epoch.own.first (course_of s h.given epoch.acked) (is-course e epoch b s h) in
    let c : IsCourse epoch.own.first (course_of (after_sack s now window names (Of count)) h.given (epoch.acked + count)) =
    subst (λ (x : Confirmation). IsCourse epoch.own.first (course_of (after_sack s now window names x) h.given (counted x epoch.acked))) is after in
    confirms-so e f epoch b s (after_sack s now window names (Of count)) count h same c

pub shutdown-confirms : (e f : End) (epoch : Epoch) (b : Bool) (s : Sending) (now number count : ℕ) →
    confirmation s number ≡ Of count → SendsOut e epoch b s → f.chunks ≡ e.chunks →
    Confirms e f epoch b count (after_cumulative s now (Of count))
shutdown-confirms e f epoch b s now number count is h same =
    let after : IsCourse epoch.own.first (courses.after_call (courses.HearsShutdown now number) (course_of s h.given epoch.acked)) =
    call-so (courses.HearsShutdown now number) epoch.own.first (course_of s h.given epoch.acked) (is-course e epoch b s h) in
    let c : IsCourse epoch.own.first (course_of (after_cumulative s now (Of count)) h.given (epoch.acked + count)) =
    subst (λ (x : Confirmation). IsCourse epoch.own.first (course_of (after_cumulative s now x) h.given (counted x epoch.acked))) is after in
    confirms-so e f epoch b s (after_cumulative s now (Of count)) count h same c

-- the distance is that of the moves
pub distance-is : (first acked number : ℕ) →
    ahead_of (tsn_at number 1) ((first + acked) % 2 ^ 32) ≡ steps_between (cumulative first acked) number
distance-is first acked number = omega arith

-- ---- what didn't go out is dropped

pub gone-only : (e : End) (epoch : Epoch) (b : Bool) (s : Sending) → SendsOut e epoch b s → SendsOut e epoch false (stopped s)
unfolding stopped
gone-only e epoch b s h =
    let many : ℕ = epoch.acked + s.went in
    let long : length s.out ≡ length h.given - epoch.acked = out-length e epoch b s h in
    let enough : many ≤ length h.given = omega (arith, long, h.went, h.within) in
    let kept : length (take many h.given) ≡ many = length-take many h.given enough in
    record {
      given = take many h.given;
      part = ap (λ (ms : List Message). take many ms) h.part ∙ take-twice many (length h.given) epoch.sent enough
          ∙ ap (λ (n : ℕ). take n epoch.sent) (sym kept);
      order = record {
        out = take-map message_of s.went s.out
            ∙ ap (λ (ms : List outgoing.Message). take s.went ms) h.order.out
            ∙ take-drop epoch.acked s.went (texts h.given)
            ∙ ap (λ (ms : List outgoing.Message). drop epoch.acked ms) (sym (take-map given_as many h.given));
        tsn = h.order.tsn;
        chunks = All-nil (λ (d : DataValue). IsGiven epoch.own.first (texts (take many h.given)) d);
      };
      went = let l : length (take s.went s.out) ≡ s.went = length-take s.went s.out h.went in omega (arith, l);
      within = omega (arith, kept);
      all = λ q. absurd (cc);
      taken = h.taken;
      put = h.put;
    }

-- ---- messages go out

gone-first : (s : Sending) (now place : ℕ) → place < length s.out → s.went ≤ place → SameOut s (gone_first s now)
unfolding gone_first
gone-first s now place l m =
    let long : length _ ≡ length s.out = length-set s.out s.went (gone_out false (outgoing_at s.out s.went)) in
    record {
      out = sym (kept-at (λ o. gone_out false o) (λ o. refl) s.out s.went);
      first = refl;
      went = λ k. omega (arith, l, m, long);
    }

gone-again : (s : Sending) (now place : ℕ) → SameOut s (gone_again s place now)
unfolding gone_again
gone-again s now place =
    let long : length _ ≡ length s.out = length-set s.out place (gone_out true (outgoing_at s.out place)) in
    record {
      out = sym (kept-at (λ o. gone_out true o) (λ o. refl) s.out place);
      first = refl;
      went = λ k. omega (arith, k, long);
    }

goes-same : (b : Bool) (s : Sending) (now place : ℕ) → nat_lt place s.went ≡ b → place < length s.out →
    SameOut s (if b then gone_again s place now else gone_first s now)
goes-same true s now place e l = gone-again s now place
goes-same false s now place e l =
    let above : s.went ≤ place = grind (arith, nat_tests, e) in
    gone-first s now place l above

place-within : (s : Sending) (place : ℕ) → next_place s ≡ Some place → place < length s.out
unfolding next_place
place-within s place e = next-within (lost_from s.out 0 s.went) s place refl e

next-same : (found : Option ℕ) (s : Sending) (now : ℕ) → next_place s ≡ found → SameOut s (gone_next s now found)
next-same None s now e = record { out = refl; first = refl; went = λ l. l }
next-same (Some place) s now e = goes-same (nat_lt place s.went) s now place refl (place-within s place e)

same-on : (s t u : Sending) → SameOut s t → SameOut t u → SameOut s u
same-on s t u a b = record { out = a.out ∙ b.out; first = a.first ∙ b.first; went = λ l. b.went (a.went l) }

abbrev chunk-with : (to number : ℕ) → Message → (place : ℕ) → Chunk
chunk-with to number m place = record { to = to; number = number; message = m; place = place }

module _ (mark : ℕ) (e other : End) (sound : IsSound e other) (late : mark ≤ load e.epochs) (epoch : Epoch) (past : List Epoch)
    (now-is : e.epochs ≡ epoch ∷ past) (tag : ℕ) (tag-is : epoch.far.tag ≡ tag) where
  data-said : (b : Bool) (s : Sending) (p : ℕ) → p < length s.out → SendsOut e epoch b s → IsData (since mark e) e tag (data_at s p)
  data-said b s p l h =
      let o : Outgoing = outgoing_at s.out p in
      let place : ℕ = epoch.acked + p in
      let there : slice_get (drop epoch.acked (texts h.given)) p ≡ Some (message_of o) =
      subst (λ (ms : List outgoing.Message). slice_get ms p ≡ Some (message_of o)) h.order.out (at-map s.out p l) in
      let found = unmap given_as h.given place (message_of o) (get-drop epoch.acked (texts h.given) p (message_of o) there) in
      let m : Message = found.0 in
      let sent : slice_get epoch.sent place ≡ Some m =
      get-take (length h.given) epoch.sent place m (subst (λ (ms : List Message). slice_get ms place ≡ Some m) h.part found.1) in
      let text : m ≡ text_in (data_at s p) = ap text_given found.2 in
      let fine : IsTaken (text_in (data_at s p)) = subst IsTaken text (h.taken place m sent) in
      let number : number_of epoch.own.first place ≡ tsn_at s.first p = tsn-is epoch.own.first epoch.acked p s.first h.order.tsn in
      let is : chunk_of epoch place m ≡ chunk_in tag (data_at s p) place =
      same-chunk epoch.far.tag tag (number_of epoch.own.first place) (tsn_at s.first p) m (text_in (data_at s p)) place tag-is number text in
      record {
        begins = refl;
        ends = refl;
        stream = fine.stream;
        octets = fine.octets;
        place = place;
        there = subst (Contains e.chunks) is (h.put place m sent);
        aged = λ g i t.
            let one : g ≡ epoch = only-one e other sound epoch past now-is g i (t ∙ sym tag-is) in
            let long : length g.sent ≡ length epoch.sent = ap (λ (k : Epoch). length k.sent) one in
            let here : Contains e.epochs epoch = subst (λ (es : List Epoch). Contains es epoch) (sym now-is) (first-in epoch past) in
            let room : length epoch.sent ≤ epoch.acked + window = (sound.carrying.0.each epoch (in-from e.epochs epoch here)).room in
            omega (arith, long, room, late);
      } where
        tsn-is : (first acked p n : ℕ) → n ≡ (first + acked) % 2 ^ 32 → number_of first (acked + p) ≡ (n + p) % 2 ^ 32
        tsn-is first acked p n e = omega (arith, e)

        same-chunk : (t u n m : ℕ) (x y : Message) (place : ℕ) → t ≡ u → n ≡ m → x ≡ y →
            chunk-with t n x place ≡ chunk-with u m y place
        same-chunk t u n m x y place a b c = cc

  pub going-said : (many now : ℕ) (b : Bool) (s : Sending) → SendsOut e epoch b s → Each (IsData (since mark e) e tag) (going many now s).chunks
  unfolding going
  going-said zero now b s h = tt
  going-said (suc many) now b s h =
      by (next_place s) refl (λ left g. going-said many now b left g) where
        by : (found : Option ℕ) → next_place s ≡ found →
            ((left : Sending) → SendsOut e epoch b left → Each (IsData (since mark e) e tag) (going many now left).chunks) →
            Each (IsData (since mark e) e tag) (gone_from (λ left. going many now left) now found s).chunks
        by None q rest = tt
        by (Some place) q rest = (
          data-said b s place (place-within s place q) h,
          rest (gone_next s now (Some place)) (sends-same e epoch b b s (gone_next s now (Some place)) (λ x. x) (next-same (Some place) s now q) h),
        )

pub going-same : (many now : ℕ) (s : Sending) → SameOut s (going many now s).left
unfolding going
going-same zero now s = out-same s
going-same (suc many) now s = by (next_place s) refl (λ left. going-same many now left) where
  by : (found : Option ℕ) → next_place s ≡ found → ((left : Sending) → SameOut left (going many now left).left) →
      SameOut s (gone_from (λ left. going many now left) now found s).left
  by None q rest = next-same None s now q
  by (Some place) q rest =
      same-on s (gone_next s now (Some place)) (going many now (gone_next s now (Some place))).left (next-same (Some place) s now q)
      (rest (gone_next s now (Some place)))

-- ---- T3 runs out

pub timed-same : (s : Sending) (now : ℕ) → SameOut s (after_t3 s now)
timed-same s now =
    let a = timed-alike s now in
    record {
      out = sym a.out;
      first = sym a.first;
      went = λ l.
          let long : length (after_t3 s now).out ≡ length s.out =
          sym (length-map (after_t3 s now).out message_of) ∙ ap (λ (ms : List outgoing.Message). length ms) a.out ∙ length-map s.out message_of in
          omega (arith, a.went, long, l);
    }
