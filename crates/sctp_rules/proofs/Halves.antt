-- What each rule of the sending half does to its messages, with their numbers on their streams.
use Rattle.std.proofs.Common.{◌≡◌, ℕ, zero, suc, ◌+◌, ◌-◌, ◌^◌, ◌<◌, ◌≤◌, Bool, true, false, List, [], ◌∷◌, ◌++◌}
use Rattle.std.proofs.Common.{Option, Some, None, length, map, take, drop, set, get_or, refl, inl, inr, ap, sym, ◌∙◌, subst, arith}
use Rattle.std.proofs.Common.{nat_lt, nat_le, length-drop, min}
use Rattle.std.specs.Prelude.{◌&&◌, ◌||◌, not, ◌==◌, if◌then◌else◌, All, sum_by}
use Rattle.std.proofs.Math.Seq.{map-set_same}
use Rattle.std.proofs.Math.ListN.{get_or-map}
use Rattle.std.proofs.lemmas.Bool.{cases_lt}
use Rattle.std.proofs.lemmas.Bool.Decides.{nat_tests}
use Rattle.std.proofs.lemmas.List.{length-map, length-set, drop-map}
use Rattle.std.proofs.lemmas.List.Elements.{All-nil, All-cons}
use Rattle.sctp_sending.specs.declared.confirmation.Confirmation.{Confirmation}
use Rattle.sctp_sending.specs.declared.confirmation.Confirmation.TheVariants.{Old, Beyond, Of}
use Rattle.sctp_sending.specs.Outgoing.{Message, Outgoing, no_message, new_outgoing, outgoing_at, gone_out, named_or_not}
use Rattle.sctp_sending.specs.Outgoing.{passed_over, timed_out, newly_confirmed_of, octets_of, tsn_at, ahead_of, lost_from}
use Rattle.sctp_sending.specs.Sending.{Sending, next_place, gone_next, gone_again, gone_first, confirmation, confirmed, settled, acknowledged}
use Rattle.sctp_sending.specs.Sending.{after_cumulative, after_t3, named_below, passed_below, naming_of, passing_of, is_named, under_way}
use Rattle.sctp_sending.specs.Sending.{next_of, may_begin, may_repeat, has_credit, finds_window, is_timed_named, congestion_by, burst_octets, measured_in}
use Rattle.sctp_codec.specs.Packets.{DataValue, SackValue}
use Rattle.sctp_rules.specs.Confirming.{data_at, going, gone_from, Gone, with_sack_of}

pub record Numbered : Type 0 where
  pub message : Message
  pub sequence : ℕ

abbrev pub numbered_of : Outgoing → Numbered
numbered_of o = record { message = o.message; sequence = o.sequence }

abbrev pub message_in : Numbered → Message
message_in n = n.message

abbrev pub numbered_in : List Outgoing → List Numbered
numbered_in out = map numbered_of out

abbrev pub no_number : Numbered
no_number = record { message = no_message; sequence = 0 }

-- ---- a half with the same messages

pub record Half : Type 0 where
  pub out : List Outgoing
  pub first : ℕ
  pub sequences : List ℕ
  pub went : ℕ

abbrev pub half_of : Sending → Half
half_of s = record { out = s.out; first = s.first; sequences = s.sequences; went = s.went }

pub record AreSame (x y : Half) : Type 0 where
  pub out : numbered_in x.out ≡ numbered_in y.out
  pub first_is : x.first ≡ y.first
  pub numbers_are : x.sequences ≡ y.sequences
  pub went_is : x.went ≡ y.went

abbrev pub Same : Sending → Sending → Type 0
Same s t = AreSame (half_of s) (half_of t)

pub same : (s : Sending) → Same s s
same s = record { out = refl; first_is = refl; numbers_are = refl; went_is = refl }

pub same-on : (s t u : Sending) → Same s t → Same t u → Same s u
same-on s t u a b = record {
  out = a.out ∙ b.out;
  first_is = a.first_is ∙ b.first_is;
  numbers_are = a.numbers_are ∙ b.numbers_are;
  went_is = a.went_is ∙ b.went_is;
}

pub same-length : (xs ys : List Outgoing) → numbered_in xs ≡ numbered_in ys → length xs ≡ length ys
same-length xs ys e = sym (length-map xs numbered_of) ∙ ap (λ (ns : List Numbered). length ns) e ∙ length-map ys numbered_of

kept-at : (f : Outgoing → Outgoing) → ((o : Outgoing) → numbered_of (f o) ≡ numbered_of o) → (out : List Outgoing) (place : ℕ) →
    numbered_in (set out place (f (outgoing_at out place))) ≡ numbered_in out
kept-at f h out place =
    map-set_same numbered_of out place (f (outgoing_at out place)) (new_outgoing no_message 0) (h (outgoing_at out place))

either-numbered : (b : Bool) (o x : Outgoing) → numbered_of x ≡ numbered_of o → numbered_of (if b then o else x) ≡ numbered_of o
either-numbered true o x e = refl
either-numbered false o x e = e

passed-numbered : (o : Outgoing) → numbered_of (passed_over o) ≡ numbered_of o
passed-numbered o =
    either-numbered (o.named || o.lost) o
    (record {
      message = o.message;
      sequence = o.sequence;
      again = o.again;
      missing = min (o.missing + 1) 3;
      named = false;
      lost = nat_le 2 o.missing && not o.again;
    }) refl

named-same : (names : ℕ → Bool) (out : List Outgoing) (n : ℕ) → numbered_in (named_below names out n).out ≡ numbered_in out
unfolding named_below
named-same names out zero = refl
named-same names out (suc place) =
    kept-at (λ o. named_or_not (is_named names place) o) (λ o. refl) (named_below names out place).out place
    ∙ named-same names out place

passed-same : (out : List Outgoing) (n : ℕ) → numbered_in (passed_below out n).out ≡ numbered_in out
unfolding passed_below
passed-same out zero = refl
passed-same out (suc place) =
    kept-at (λ o. passed_over o) passed-numbered (passed_below out place).out place ∙ passed-same out place

timed-same : (n : ℕ) (out : List Outgoing) → numbered_in (map timed_out (take n out) ++ drop n out) ≡ numbered_in out
timed-same zero out = refl
timed-same (suc n) [] = refl
timed-same (suc n) (o ∷ os) = ap (λ (ns : List Numbered). numbered_of o ∷ ns) (timed-same n os)

pub t3-same : (s : Sending) (now : ℕ) → Same s (after_t3 s now)
unfolding after_t3
t3-same s now = record { out = sym (timed-same s.went s.out); first_is = refl; numbers_are = refl; went_is = refl }

settled-if : (b d : Bool) (x y z : Sending) → Same z x → Same z y → Same z (if b then x else (if d then y else z))
settled-if true d x y z a e = a
settled-if false true x y z a e = e
settled-if false false x y z a e = same z

pub settled-same : (s : Sending) (count now : ℕ) → Same s (settled s count now)
unfolding settled
settled-same s count now = settled-if (s.went == 0) (nat_lt 0 count) _ _ s (same s) (same s)

-- ---- messages are confirmed

-- the first ones leave
pub record IsConfirmed (count : ℕ) (s t : Sending) : Type 0 where
  pub enough : count ≤ s.went
  pub out : numbered_in t.out ≡ drop count (numbered_in s.out)
  pub first_is : t.first ≡ tsn_at s.first count
  pub numbers_are : s.sequences ≡ t.sequences
  pub went_within : s.went ≤ length s.out → t.went ≤ length t.out

abbrev pub IsAnswered : Confirmation → Sending → Sending → Type 0
IsAnswered Old s t = Same s t
IsAnswered Beyond s t = Same s t
IsAnswered (Of count) s t = IsConfirmed count s t

of-cases : (a b : Bool) (n count : ℕ) → (if a then Old else (if b then Beyond else Of n)) ≡ Of count → (b ≡ false) × (n ≡ count)
of-cases true b n count e = absurd (cc)
of-cases false true n count e = absurd (cc)
of-cases false false n count e = (refl, cc)

pub confirmed-within : (s : Sending) (cumulative count : ℕ) → confirmation s cumulative ≡ Of count → count ≤ s.went
unfolding confirmation
confirmed-within s cumulative count e =
    let n : ℕ = ahead_of (tsn_at cumulative 1) s.first in
    let parts = of-cases (nat_le (2 ^ 31) n) (nat_lt s.went n) n count e in
    let enough : n ≤ s.went = grind (arith, nat_tests, parts.0) in
    omega (arith, enough, parts.1)

pub count-is : (s : Sending) (cumulative count : ℕ) → confirmation s cumulative ≡ Of count →
    ahead_of (tsn_at cumulative 1) s.first ≡ count
unfolding confirmation
count-is s cumulative count e =
    let n : ℕ = ahead_of (tsn_at cumulative 1) s.first in
    let parts = of-cases (nat_le (2 ^ 31) n) (nat_lt s.went n) n count e in
    parts.1

confirmed-so : (s : Sending) (count now : ℕ) → count ≤ s.went → IsConfirmed count s (confirmed s count now)
unfolding confirmed
confirmed-so s count now l = record {
  enough = l;
  out = sym (drop-map numbered_of count s.out);
  first_is = refl;
  numbers_are = refl;
  went_within = λ w. omega (arith, w, length-drop count s.out);
}

then-same : (count : ℕ) (s t u : Sending) → IsConfirmed count s t → Same t u → IsConfirmed count s u
then-same count s t u c a = record {
  enough = c.enough;
  out = sym a.out ∙ c.out;
  first_is = sym a.first_is ∙ c.first_is;
  numbers_are = c.numbers_are ∙ a.numbers_are;
  went_within = λ w. omega (arith, c.went_within w, a.went_is, same-length t.out u.out a.out);
}

-- the half before T3 is looked at
abbrev pub unsettled : Sending → (now window count : ℕ) → (ℕ → Bool) → Sending
unsettled s now window count names =
    let full = nat_le s.congestion.window (under_way s) in
    let left = confirmed s count now in
    let naming = naming_of names left in
    let passing = passing_of naming in
    let octets = sum_by newly_confirmed_of (take count s.out) + naming.octets in
    let measured = is_timed_named passing.out left.timed in
    let after = record left {
      out = passing.out;
      congestion = congestion_by left.congestion passing.any left.went octets full;
      burst = if passing.any then burst_octets else left.burst;
      round_trips = if measured then measured_in left.round_trips left.timed left.went now else left.round_trips;
      timed = if measured then None else left.timed;
    } in
    record after { peer_window = window - under_way after }

pub acknowledged-same : (s : Sending) (now window count : ℕ) (names : ℕ → Bool) →
    Same (confirmed s count now) (acknowledged s now window count names)
unfolding acknowledged
acknowledged-same s now window count names =
    let left : Sending = confirmed s count now in
    let u : Sending = unsettled s now window count names in
    let a : Same u (settled u count now) = settled-same u count now in
    record {
      out = sym (passed-same (naming_of names left).out (naming_of names left).reach ∙ named-same names left.out left.went) ∙ a.out;
      first_is = a.first_is;
      numbers_are = a.numbers_are;
      went_is = a.went_is;
    }

pub sack-answered : (answer : Confirmation) (s : Sending) (now : ℕ) (sack : SackValue) → confirmation s sack.cumulative ≡ answer →
    IsAnswered answer s (with_sack_of answer now sack s)
sack-answered Old s now sack e = same s
sack-answered Beyond s now sack e = same s
sack-answered (Of count) s now sack e =
    then-same count s (confirmed s count now) (with_sack_of (Of count) now sack s)
    (confirmed-so s count now (confirmed-within s sack.cumulative count e)) (acknowledged-same s now sack.window count _)

pub shutdown-answered : (answer : Confirmation) (s : Sending) (now cumulative : ℕ) → confirmation s cumulative ≡ answer →
    IsAnswered answer s (after_cumulative s now answer)
shutdown-answered Old s now cumulative e = same s
shutdown-answered Beyond s now cumulative e = same s
shutdown-answered (Of count) s now cumulative e =
    then-same count s (confirmed s count now) (settled (confirmed s count now) count now)
    (confirmed-so s count now (confirmed-within s cumulative count e)) (settled-same (confirmed s count now) count now)

-- ---- messages go out

-- the chunk of a message under this TSN
abbrev pub data_by : (tsn : ℕ) → Numbered → DataValue
data_by tsn n = record {
  immediate = false;
  unordered = false;
  begins = true;
  ends = true;
  tsn = tsn;
  stream = n.message.stream;
  sequence = n.sequence;
  protocol = n.message.protocol;
  octets = n.message.octets;
}

-- a chunk is that of one of these, the first of which has this TSN
pub record IsDataOf (first : ℕ) (numbered : List Numbered) (chunk : DataValue) : Type 0 where
  pub place : ℕ
  pub within : place < length numbered
  pub is : chunk ≡ data_by (tsn_at first place) (get_or numbered place no_number)

-- a half with the same messages, of which more went out
pub record Goes (s t : Sending) : Type 0 where
  pub out : numbered_in s.out ≡ numbered_in t.out
  pub first_is : s.first ≡ t.first
  pub numbers_are : s.sequences ≡ t.sequences
  pub went_within : s.went ≤ length s.out → t.went ≤ length t.out

goes-on : (s t u : Sending) → Goes s t → Goes t u → Goes s u
goes-on s t u a b = record {
  out = a.out ∙ b.out;
  first_is = a.first_is ∙ b.first_is;
  numbers_are = a.numbers_are ∙ b.numbers_are;
  went_within = λ l. b.went_within (a.went_within l);
}

first-goes : (s : Sending) (now place : ℕ) → place < length s.out → s.went ≤ place → Goes s (gone_first s now)
unfolding gone_first
first-goes s now place l m =
    let long : length _ ≡ length s.out = length-set s.out s.went (gone_out false (outgoing_at s.out s.went)) in
    record {
      out = sym (kept-at (λ o. gone_out false o) (λ o. refl) s.out s.went);
      first_is = refl;
      numbers_are = refl;
      went_within = λ k. omega (arith, l, m, long);
    }

again-goes : (s : Sending) (now place : ℕ) → Goes s (gone_again s place now)
unfolding gone_again
again-goes s now place =
    let long : length _ ≡ length s.out = length-set s.out place (gone_out true (outgoing_at s.out place)) in
    record {
      out = sym (kept-at (λ o. gone_out true o) (λ o. refl) s.out place);
      first_is = refl;
      numbers_are = refl;
      went_within = λ k. omega (arith, k, long);
    }

place-goes : (b : Bool) (s : Sending) (now place : ℕ) → nat_lt place s.went ≡ b → place < length s.out →
    Goes s (if b then gone_again s place now else gone_first s now)
place-goes true s now place e l = again-goes s now place
place-goes false s now place e l =
    let above : s.went ≤ place = grind (arith, nat_tests, e) in
    first-goes s now place l above

beyond : {A : Type 0} → (xs : List A) (i : ℕ) (d : A) → length xs ≤ i → get_or xs i d ≡ d
beyond [] i d l = refl
beyond (x ∷ xs) zero d l = absurd (omega (arith, l))
beyond (x ∷ xs) (suc i) d l = beyond xs i d (omega (arith, l))

found-or : (b : Bool) (out : List Outgoing) (place p : ℕ) (rest : Option ℕ) → (outgoing_at out place).lost ≡ b →
    (if b then Some place else rest) ≡ Some p → (rest ≡ Some p → (outgoing_at out p).lost ≡ true) → (outgoing_at out p).lost ≡ true
found-or true out place p rest b e h =
    let same : place ≡ p = cc in
    subst (λ (i : ℕ). (outgoing_at out i).lost ≡ true) same b
found-or false out place p rest b e h = h e

lost-is : (out : List Outgoing) (place left p : ℕ) → lost_from out place left ≡ Some p → (outgoing_at out p).lost ≡ true
unfolding lost_from
lost-is out place zero p e = absurd (cc)
lost-is out place (suc left) p e =
    found-or (outgoing_at out place).lost out place p (lost_from out (place + 1) left) refl e (λ f. lost-is out (place + 1) left p f)

lost-within : (out : List Outgoing) (p : ℕ) → (outgoing_at out p).lost ≡ true → p < length out
lost-within out p e =
    elim (cases_lt p (length out)) [
      | inl below ↦ below
      | inr above ↦
          let default : outgoing_at out p ≡ new_outgoing no_message 0 = beyond out p (new_outgoing no_message 0) above in
          let no : (outgoing_at out p).lost ≡ false = ap (λ (o : Outgoing). o.lost) default in
          absurd (cc)
    ]

if-some : (b : Bool) (q p : ℕ) → (if b then Some q else None) ≡ Some p → (b ≡ true) × (q ≡ p)
if-some true q p e = (refl, cc)
if-some false q p e = absurd (cc)

both-parts : (x y : Bool) → (x && y) ≡ true → x ≡ true
both-parts true y e = refl
both-parts false y e = absurd (cc)

pub next-within : (lost : Option ℕ) (s : Sending) (p : ℕ) → lost_from s.out 0 s.went ≡ lost → next_of s lost ≡ Some p → p < length s.out
next-within (Some q) s p f e =
    let parts = if-some (may_repeat s q) q p e in
    let there : (outgoing_at s.out p).lost ≡ true =
    subst (λ (i : ℕ). (outgoing_at s.out i).lost ≡ true) parts.1 (lost-is s.out 0 s.went q f) in
    lost-within s.out p there
next-within None s p f e =
    let parts = if-some (may_begin s) s.went p e in
    let fresh : nat_lt s.went (length s.out) ≡ true =
    both-parts (nat_lt s.went (length s.out)) (has_credit s)
    (both-parts (nat_lt s.went (length s.out) && has_credit s) (finds_window s (octets_of (outgoing_at s.out s.went))) parts.0) in
    let below : s.went < length s.out = grind (arith, nat_tests, fresh) in
    omega (arith, below, parts.1)

place-within : (s : Sending) (place : ℕ) → next_place s ≡ Some place → place < length s.out
unfolding next_place
place-within s place e = next-within (lost_from s.out 0 s.went) s place refl e

next-goes : (found : Option ℕ) (s : Sending) (now : ℕ) → next_place s ≡ found → Goes s (gone_next s now found)
next-goes None s now e = record { out = refl; first_is = refl; numbers_are = refl; went_within = λ l. l }
next-goes (Some place) s now e = place-goes (nat_lt place s.went) s now place refl (place-within s place e)

-- chunks that go out, and the half afterwards
pub record AreGone (s : Sending) (g : Gone) : Type 0 where
  pub chunks : All (IsDataOf s.first (numbered_in s.out)) g.chunks
  pub left : Goes s g.left

at-place : (s : Sending) (place : ℕ) → place < length s.out → IsDataOf s.first (numbered_in s.out) (data_at s place)
at-place s place l = record {
  place = place;
  within = omega (arith, l, length-map s.out numbered_of);
  is = ap (λ (n : Numbered). data_by (tsn_at s.first place) n)
      (sym (get_or-map numbered_of s.out place (new_outgoing no_message 0)));
}

data-of : (s t : Sending) (chunks : List DataValue) → Goes s t → All (IsDataOf t.first (numbered_in t.out)) chunks →
    All (IsDataOf s.first (numbered_in s.out)) chunks
data-of s t chunks a h =
    subst (λ (first : ℕ). All (IsDataOf first (numbered_in s.out)) chunks) (sym a.first_is)
    (subst (λ (ns : List Numbered). All (IsDataOf t.first ns) chunks) (sym a.out) h)

gone-so : (found : Option ℕ) (rest : Sending → Gone) (now : ℕ) (s : Sending) → next_place s ≡ found →
    ((left : Sending) → AreGone left (rest left)) → AreGone s (gone_from rest now found s)
gone-so None rest now s e h = record { chunks = All-nil (IsDataOf s.first (numbered_in s.out)); left = next-goes None s now e }
gone-so (Some place) rest now s e h =
    let next : Sending = gone_next s now (Some place) in
    let a : Goes s next = next-goes (Some place) s now e in
    let more : AreGone next (rest next) = h next in
    record {
      chunks = All-cons (IsDataOf s.first (numbered_in s.out)) (data_at s place) (rest next).chunks
          (at-place s place (place-within s place e)) (data-of s next (rest next).chunks a more.chunks);
      left = goes-on s next (rest next).left a more.left;
    }

pub going-so : (many now : ℕ) (s : Sending) → AreGone s (going many now s)
unfolding going
going-so zero now s = record {
  chunks = All-nil (IsDataOf s.first (numbered_in s.out));
  left = record { out = refl; first_is = refl; numbers_are = refl; went_within = λ l. l };
}
going-so (suc many) now s = gone-so (next_place s) (λ left. going many now left) now s refl (λ left. going-so many now left)
