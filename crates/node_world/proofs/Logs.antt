-- What is kept of what a gate puts out.
use Rattle.std.proofs.Common.{◌≡◌, ◌<◌, ◌≤◌, ◌⊎◌, inl, inr, ℕ, Bool, true, false, List, [], ◌∷◌, ◌++◌, length, refl, ap, sym, subst, ◌∙◌, arith, length-append}
use Rattle.std.specs.Prelude.{All}
use Rattle.std.specs.List.{Contains}
use Rattle.std.proofs.lemmas.List.{append-nil}
use Rattle.std.proofs.lemmas.List.Elements.{All-nil, All-cons, All-append, All-weaker, All-contains, Contains-append_left, Contains-append_right}
use Rattle.sctp_moves.proofs.Members.{In, in-from, contains-from}
use Rattle.sctp_bundling.specs.Watching.{Sent}
use Rattle.exchange.specs.Calls.{Kept}
use Rattle.exchange_rules.specs.Queues.{WholeQueues}
use Rattle.sctp_gate.specs.Watching.{Sight, Gives}
use Rattle.sctp_gate.specs.Gates.{Gate, Did}
use Rattle.sctp_gate.specs.Making.{MakesWhole}
use Rattle.gate_rules.proofs.Seen.{in-either, in-front, in-behind}
use Rattle.node_world.specs.Kept.{KeptLog, HasSent, KeptPort}
use Rattle.exchange.specs.Calls as exchanges
use Rattle.exchange_rules.specs.First.{Abstract}
use Rattle.exchange_rules.specs.Queues.{whole}
use Rattle.sctp_gate.specs.Calling.{called}
use Rattle.node_world.specs.declared.call.Call.{Call}
use Rattle.node_world.specs.Calls.{PortCalls, told}

all-there : (xs : List Sent) → All (Contains xs) xs
all-there [] = All-nil (Contains [])
all-there (x ∷ xs) =
    All-cons (Contains (x ∷ xs)) x xs (contains-from (x ∷ xs) x (inl refl))
    (All-weaker (Contains xs) (Contains (x ∷ xs)) (λ y i. Contains-append_right (x ∷ []) xs y i) xs (all-there xs))

-- ---- one sight more

all-more : (had sent log : List Sent) → All (Contains had) log → All (Contains (had ++ sent)) log
all-more had sent log h = All-weaker (Contains had) (Contains (had ++ sent)) (λ y i. Contains-append_left had sent y i) log h

-- nothing went out
pub kept-still : (was : KeptLog) (seen : List Sight) → Gives HasSent was was [] seen
kept-still was seen = record {
  more = λ had saw h. record {
    part = subst (λ (l : List Sent). All (Contains l) was.sent) (sym (append-nil had)) h.part;
    all = λ w. h.all w ∙ sym (append-nil had);
    fewer = λ f. subst (λ (l : List Sent). length was.sent < length l) (sym (append-nil had)) (h.fewer f);
  };
}

-- one that went out is kept
pub kept-one : (was is : KeptLog) (x : Sent) → is ≡ record was { sent = was.sent ++ x ∷ [] } → Gives HasSent was is (x ∷ []) []
kept-one was is x e = subst (λ (l : KeptLog). Gives HasSent was l (x ∷ []) []) (sym e) (record {
  more = λ had saw h. record {
    part = All-append (Contains (had ++ x ∷ [])) was.sent (x ∷ []) (all-more had (x ∷ []) was.sent h.part)
        (All-cons (Contains (had ++ x ∷ [])) x [] (Contains-append_right had (x ∷ []) x (contains-from (x ∷ []) x (inl refl))) (All-nil (Contains (had ++ x ∷ []))));
    all = λ w. ap (λ (l : List Sent). l ++ x ∷ []) (h.all w);
    fewer = λ f. omega (arith, h.fewer f, length-append was.sent (x ∷ []), length-append had (x ∷ []));
  };
})

-- no more are kept than were sent
none-over : (log : KeptLog) (sent : List Sent) (seen : List Sight) → HasSent log sent seen → length log.sent ≤ length sent
none-over log sent seen h = by log.is_whole refl
  where
    by : (b : Bool) → log.is_whole ≡ b → length log.sent ≤ length sent
    by true e = omega (arith, ap length (h.all e))
    by false e = omega (arith, h.fewer e)

-- or memory ran out for it
pub kept-none : (was mid is : KeptLog) (x : Sent) → mid ≡ was → is ≡ record mid { is_whole = false } → Gives HasSent was is (x ∷ []) []
kept-none was mid is x same e =
    subst (λ (l : KeptLog). Gives HasSent was l (x ∷ []) []) (sym (e ∙ ap (λ (l : KeptLog). record l { is_whole = false }) same)) (record {
      more = λ had saw h. record {
        part = all-more had (x ∷ []) was.sent h.part;
        all = λ w. absurd (cc);
        fewer = λ f. omega (arith, none-over was had saw h, length-append had (x ∷ []));
      };
    })

-- ---- a call

-- what a log has that is whole, and one that isn't
has-whole : (log : KeptLog) → log.is_whole ≡ true → HasSent log log.sent []
has-whole log e = record { part = all-there log.sent; all = λ w. refl; fewer = λ f. absurd (cc (e, f)) }

has-fewer : (log : KeptLog) (sent : List Sent) → log.is_whole ≡ false → All (Contains sent) log.sent → length log.sent < length sent → HasSent log sent []
has-fewer log sent e there less = record { part = there; all = λ w. absurd (cc (w, e)); fewer = λ f. less }

abbrev with_one : KeptLog → Sent → List Sent
with_one log x = log.sent ++ x ∷ []

has-one : (log : KeptLog) (x : Sent) → log.is_whole ≡ false → HasSent log (with_one log x) []
has-one log x e =
    has-fewer log (with_one log x) e (all-more log.sent (x ∷ []) log.sent (all-there log.sent)) (omega (arith, length-append log.sent (x ∷ [])))

has-two : (log : KeptLog) (x : Sent) → log.is_whole ≡ false → HasSent log (with_one log x ++ x ∷ []) []
has-two log x e =
    has-fewer log (with_one log x ++ x ∷ []) e (all-more (with_one log x) (x ∷ []) log.sent (all-more log.sent (x ∷ []) log.sent (all-there log.sent)))
    (omega (arith, length-append log.sent (x ∷ []), length-append (with_one log x) (x ∷ [])))

-- a log that is whole after a call was whole before: else it would have two lengths
one-more : (xs sent : List Sent) (x : Sent) → xs ++ sent ≡ (xs ++ x ∷ []) ++ sent → ⊥
one-more xs sent x e =
    omega (arith, sym (length-append xs sent) ∙ ap length e ∙ length-append (xs ++ x ∷ []) sent, length-append xs (x ∷ []))

some-sent : Sent
some-sent = record { octets = []; to = record { host = []; port = 0 } }

was-whole-by : (b : Bool) (was is : KeptLog) (sent : List Sent) (seen : List Sight) → was.is_whole ≡ b → Gives HasSent was is sent seen → is.is_whole ≡ true → b ≡ true
was-whole-by true was is sent seen e g w = refl
was-whole-by false was is sent seen e g w =
    let one = g.more (with_one was some-sent) [] (has-one was some-sent e) in
    let two = g.more (with_one was some-sent ++ some-sent ∷ []) [] (has-two was some-sent e) in
    absurd (one-more (with_one was some-sent) sent some-sent (sym (one.all w) ∙ two.all w))

-- a datagram that isn't this one
abbrev other_than : Sent → Sent
other_than x = record { octets = 0 ∷ x.octets; to = x.to }

unlike : (x : Sent) → x ≡ other_than x → ⊥
unlike x e = omega (arith, ap (λ (s : Sent). length s.octets) e)

-- what is in a list with another one in it is in the list without
without : (x : Sent) (xs ys : List Sent) → In x ((xs ++ other_than x ∷ []) ++ ys) → In x (xs ++ ys)
without x xs ys i = behind-or (in-either x (xs ++ other_than x ∷ []) ys i)
  where
    front-or : In x xs ⊎ In x (other_than x ∷ []) → In x (xs ++ ys)
    front-or (inl j) = in-front x xs ys j
    front-or (inr (inl e)) = absurd (unlike x e)
    front-or (inr (inr j)) = absurd j

    behind-or : In x (xs ++ other_than x ∷ []) ⊎ In x ys → In x (xs ++ ys)
    behind-or (inl j) = front-or (in-either x xs (other_than x ∷ []) j)
    behind-or (inr j) = in-behind x xs ys j

each-all : (P : Sent → Type 0) (xs : List Sent) → ((x : Sent) → In x xs → P x) → All P xs
each-all P [] h = All-nil P
each-all P (x ∷ xs) h = All-cons P x xs (h x (inl refl)) (each-all P xs (λ y i. h y (inr i)))

module _ (was is : KeptLog) (sent : List Sent) (seen : List Sight) (g : Gives HasSent was is sent seen) where
  part-by : (b : Bool) → was.is_whole ≡ b → All (Contains (was.sent ++ sent)) is.sent
  part-by true e = let all = g.more was.sent [] (has-whole was e) in all.part
  part-by false e =
      each-all (Contains (was.sent ++ sent)) is.sent
      (λ x i.
      let more = g.more (with_one was (other_than x)) [] (has-one was (other_than x) e) in
      contains-from (was.sent ++ sent) x
      (without x was.sent sent
      (in-from (with_one was (other_than x) ++ sent) x
      (All-contains (Contains (with_one was (other_than x) ++ sent)) is.sent x more.part (contains-from is.sent x i)))))

  few-of : (b : Bool) → was.is_whole ≡ false → is.is_whole ≡ b → length is.sent ≤ length (was.sent ++ sent)
  few-of true e f = absurd (cc (was-whole-by was.is_whole was is sent seen refl g f, e))
  few-of false e f =
      let more = g.more (with_one was some-sent) [] (has-one was some-sent e) in
      omega (arith, more.fewer f, length-append (with_one was some-sent) sent, length-append was.sent (some-sent ∷ []), length-append was.sent sent)

  few-by : (b : Bool) → was.is_whole ≡ b → length is.sent ≤ length (was.sent ++ sent)
  few-by true e = none-over is (was.sent ++ sent) ([] ++ seen) (g.more was.sent [] (has-whole was e))
  few-by false e = few-of is.is_whole e refl

  fewer-so : was.is_whole ≡ true → is.is_whole ≡ false → length is.sent < length (was.sent ++ sent)
  fewer-so e f = let all = g.more was.sent [] (has-whole was e) in all.fewer f

  all-so : is.is_whole ≡ true → is.sent ≡ was.sent ++ sent
  all-so w = let all = g.more was.sent [] (has-whole was (was-whole-by was.is_whole was is sent seen refl g w)) in all.all w

pub port-calls : (was : KeptPort) (gate : Gate) (log : KeptLog) (exchange : Kept) (d : Did WholeQueues) → MakesWhole HasSent was.log log gate exchange d
    → PortCalls was (record { gate = gate; log = log }) exchange d
port-calls was gate log exchange d m = record {
  gate_is = m.gate_is;
  stands = m.stands;
  part = part-by was.log log _ d.seen m.gives was.log.is_whole refl;
  was_whole = λ w. was-whole-by was.log.is_whole was.log log _ d.seen refl m.gives w;
  all = all-so was.log log _ d.seen m.gives;
  few = few-by was.log log _ d.seen m.gives was.log.is_whole refl;
  fewer = fewer-so was.log log _ d.seen m.gives;
}

-- the same of a call of the code
pub calls-as : (call one : Call) (octets : List ℕ) (now : ℕ) (inside was : KeptPort) (gate : Gate) (log : KeptLog) (before exchange : Kept) → call ≡ one → inside ≡ was
    → ((a : Abstract) → exchanges.StandsFor before a → MakesWhole HasSent inside.log log gate exchange (called whole (told one octets now) inside.gate a))
    → (a : Abstract) → exchanges.StandsFor before a → PortCalls was (record { gate = gate; log = log }) exchange (called whole (told call octets now) was.gate a)
calls-as call one octets now inside was gate log before exchange e f m a s =
    subst (λ (x : Call). PortCalls was (record { gate = gate; log = log }) exchange (called whole (told x octets now) was.gate a)) (sym e)
    (subst (λ (w : KeptPort). PortCalls w (record { gate = gate; log = log }) exchange (called whole (told one octets now) w.gate a)) f
    (port-calls inside gate log exchange (called whole (told one octets now) inside.gate a) (m a s)))
