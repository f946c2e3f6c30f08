-- Which messages there are after each rule.
use Rattle.std.proofs.Common.{◌≡◌, ℕ, zero, suc, Bool, true, false, cond, ltb, eqb, ◌||◌, List, [], ◌∷◌, ◌++◌, take, drop, map, Option, Some, None, refl, sym, ap, ◌∙◌}
use Rattle.std.proofs.Math.ListN.{set, get_or-map}
use Rattle.std.proofs.lemmas.List.{map-set, map-append, drop-map, set-get_or, take-append-drop}
use Rattle.std.proofs.lemmas.Simd.{map-map}
use Rattle.sctp_sending.specs.declared.confirmation.Confirmation.{Confirmation}
use Rattle.sctp_sending.specs.declared.confirmation.Confirmation.TheVariants.{Old, Beyond, Of}
use Rattle.sctp_sending.specs.Outgoing.{Message, Outgoing, no_message, outgoing_at, passed_over, timed_out}
use Rattle.sctp_sending.specs.Sending.{Sending, given, gone_again, gone_first, gone_next, confirmed, settled, after_cumulative, named_below, passed_below, naming_of, acknowledged, after_sack, after_t3, messages_of, count_of}
use Rattle.sctp_sending.proofs.Windows.{blank}

abbrev message_of : Outgoing → Message
message_of o = o.message

-- a message that is changed stays the message that it is
kept : (out : List Outgoing) (place : ℕ) (o : Outgoing) → o.message ≡ (outgoing_at out place).message → map message_of (set out place o) ≡ map message_of out
kept out place o e =
    map-set message_of out place o ∙ ap (set (map message_of out) place) (e ∙ sym (get_or-map message_of out place blank)) ∙ set-get_or (map message_of out) place no_message

either : (b : Bool) (x y : Sending) (messages : List Message) → messages_of x ≡ messages → messages_of y ≡ messages → messages_of (cond b x y) ≡ messages
either true x y messages e f = e
either false x y messages e f = f

pub given-messages : (s : Sending) (m : Message) → messages_of (given s m) ≡ messages_of s ++ m ∷ []
unfolding given
given-messages s m = map-append message_of s.out _

pub gone-messages : (s : Sending) (now : ℕ) (place : Option ℕ) → messages_of (gone_next s now place) ≡ messages_of s
unfolding gone_again gone_first
gone-messages s now None = refl
gone-messages s now (Some place) =
    either (ltb place s.went) (gone_again s place now) (gone_first s now) (messages_of s) (kept s.out place _ refl) (kept s.out s.went _ refl)

pub t3-messages : (s : Sending) (now : ℕ) → messages_of (after_t3 s now) ≡ messages_of s
unfolding after_t3
t3-messages s now =
    map-append message_of (map timed_out (take s.went s.out)) (drop s.went s.out)
    ∙ ap (λ (front : List Message). front ++ map message_of (drop s.went s.out)) (map-map message_of timed_out (take s.went s.out))
    ∙ sym (map-append message_of (take s.went s.out) (drop s.went s.out)) ∙ ap (map message_of) (take-append-drop s.went s.out)

settled-messages : (s : Sending) (count now : ℕ) → messages_of (settled s count now) ≡ messages_of s
unfolding settled
settled-messages s count now = either (eqb s.went 0) _ _ (messages_of s) refl (either (ltb 0 count) _ s (messages_of s) refl refl)

confirmed-messages : (s : Sending) (count now : ℕ) → messages_of (confirmed s count now) ≡ drop count (messages_of s)
unfolding confirmed
confirmed-messages s count now = sym (drop-map message_of count s.out)

pub cumulative-messages : (s : Sending) (now : ℕ) (c : Confirmation) → messages_of (after_cumulative s now c) ≡ drop (count_of c) (messages_of s)
cumulative-messages s now Old = refl
cumulative-messages s now Beyond = refl
cumulative-messages s now (Of count) = settled-messages (confirmed s count now) count now ∙ confirmed-messages s count now

named-messages : (names : ℕ → Bool) (out : List Outgoing) (n : ℕ) → map message_of (named_below names out n).out ≡ map message_of out
unfolding named_below
named-messages names out zero = refl
named-messages names out (suc n) = kept (named_below names out n).out n _ refl ∙ named-messages names out n

same_message : (b : Bool) (o p : Outgoing) → p.message ≡ o.message → (cond b o p).message ≡ o.message
same_message true o p e = refl
same_message false o p e = e

passed-messages : (out : List Outgoing) (n : ℕ) → map message_of (passed_below out n).out ≡ map message_of out
unfolding passed_below
passed-messages out zero = refl
passed-messages out (suc n) =
    let o = outgoing_at (passed_below out n).out n in
    kept (passed_below out n).out n (passed_over o) (same_message (o.named || o.lost) o _ refl) ∙ passed-messages out n

pub sack-messages : (s : Sending) (now window : ℕ) (names : ℕ → Bool) (c : Confirmation) → messages_of (after_sack s now window names c) ≡ drop (count_of c) (messages_of s)
unfolding acknowledged
sack-messages s now window names Old = refl
sack-messages s now window names Beyond = refl
sack-messages s now window names (Of count) =
    let left = confirmed s count now in
    settled-messages _ count now
    ∙ passed-messages (naming_of names left).out (naming_of names left).reach
    ∙ named-messages names left.out left.went ∙ confirmed-messages s count now
