-- Messages that go out, one after another.
use Rattle.std.proofs.Common.{◌≡◌, ℕ, suc, ◌+◌, ◌-◌, ◌<◌, ◌≤◌, Bool, true, false, List, [], ◌∷◌, ◌++◌, length, map, Option, Some, None, refl, sym, ap, subst, ◌∙◌, arith}
use Rattle.std.specs.Prelude.{nat_lt, is_some, if◌then◌else◌}
use Rattle.std.proofs.lemmas.Bool.{ltb-false}
use Rattle.std.proofs.lemmas.List.{length-set, get_or-set_same}
use Rattle.sctp_codec.specs.Packets.{ChunkValue, DataValue, DataChunk}
use Rattle.sctp_sending.specs.Cells.{given_as}
use Rattle.sctp_sending.specs.Outgoing as out
use Rattle.sctp_sending.specs.Outgoing.{Outgoing, outgoing_at, tsn_at, gone_out, new_outgoing, no_message}
use Rattle.sctp_sending.specs.Sending.{Sending, next_place, gone, gone_next, gone_again, gone_first}
use Rattle.sctp_sending.specs.declared.message.Message.{Message}
use Rattle.sctp_rules.specs.State.{Told}
use Rattle.sctp_rules.specs.Confirming.{Gone, data_of, data_at, gone_from, going}
use Rattle.sctp_endpoint.specs.Endpoints.{Endpoint}
use Rattle.sctp_bundling.specs.Watching.{Sent}
use Rattle.sctp_bundling.specs.Bundling.{Draft, Adds, carried_as}
use Rattle.sctp_endpoint.specs.Flushing.{next_chunks, with_sender}
use Rattle.sctp_bundling.proofs.Bundling.{adds-then, adds-none}

-- ---- one message

long-by : (b : Bool) (s : Sending) (place now : ℕ) → length (if b then gone_again s place now else gone_first s now).out ≡ length s.out
unfolding gone_again gone_first
long-by true s place now = length-set s.out place (gone_out true (outgoing_at s.out place))
long-by false s place now = length-set s.out s.went (gone_out false (outgoing_at s.out s.went))

pub gone-long : (s : Sending) (place now : ℕ) → length (gone s place now).out ≡ length s.out
gone-long s place now = long-by (nat_lt place s.went) s place now

data-by : (b : Bool) (s : Sending) (place now : ℕ) → nat_lt place s.went ≡ b → place < length s.out → place ≤ s.went → data_at (if b then gone_again s place now else gone_first s now) place ≡ data_at s place
unfolding gone_again gone_first
data-by true s place now e within next =
    ap (data_of (tsn_at s.first place)) (get_or-set_same s.out place (gone_out true (outgoing_at s.out place)) (new_outgoing no_message 0) within)
data-by false s place now e within next =
    let here : s.went ≡ place = omega (arith, ltb-false place s.went e, next) in
    rw here (ap (data_of (tsn_at s.first place)) (get_or-set_same s.out place (gone_out false (outgoing_at s.out place)) (new_outgoing no_message 0) within))

-- it says what it said before
pub gone-data : (s : Sending) (place now : ℕ) → place < length s.out → place ≤ s.went → data_at (gone s place now) place ≡ data_at s place
gone-data s place now within next = data-by (nat_lt place s.went) s place now refl within next

pub message-said : (s : Sending) (place tsn sequence : ℕ) (m : Message) → tsn ≡ tsn_at s.first place → sequence ≡ (outgoing_at s.out place).sequence → given_as m ≡ (outgoing_at s.out place).message
    → DataChunk (carried_as tsn sequence (given_as m)) ≡ DataChunk (data_at s place)
message-said s place tsn sequence m t q e =
    ap (λ (n : ℕ). DataChunk (carried_as n sequence (given_as m))) t ∙ ap (λ (n : ℕ). DataChunk (carried_as (tsn_at s.first place) n (given_as m))) q
    ∙ ap (λ (x : out.Message). DataChunk (carried_as (tsn_at s.first place) (outgoing_at s.out place).sequence x)) e

pub next-said : (s : Sending) (place : ℕ) (t : Sending) (now : ℕ) → next_place s ≡ Some place → t ≡ gone s place now → place < length s.out → place ≤ s.went
    → next_chunks s (next_place s) ≡ DataChunk (data_at t place) ∷ []
next-said s place t now e is within next = rw (e, is) (ap (λ (d : DataValue). DataChunk d ∷ []) (sym (gone-data s place now within next)))

-- ---- one after another

going-next : (n now : ℕ) (s : Sending) (o : Option ℕ) → next_place s ≡ o → going (suc n) now s ≡ gone_from (λ left. going n now left) now o s
unfolding going
going-next n now s o e = ap (λ (p : Option ℕ). gone_from (λ left. going n now left) now p s) e

from-more : (n now : ℕ) (s : Sending) (o : Option ℕ) → is_some o ≡ true → map DataChunk (gone_from (λ left. going n now left) now o s).chunks ≡ next_chunks s o ++ map DataChunk (going n now (gone_next s now o)).chunks
from-more n now s None e = absurd (cc)
from-more n now s (Some place) e = refl

from-more-left : (n now : ℕ) (s : Sending) (o : Option ℕ) → is_some o ≡ true → (gone_from (λ left. going n now left) now o s).left ≡ (going n now (gone_next s now o)).left
from-more-left n now s None e = absurd (cc)
from-more-left n now s (Some place) e = refl

from-none : (n now : ℕ) (s : Sending) (o : Option ℕ) → is_some o ≡ false → map DataChunk (gone_from (λ left. going n now left) now o s).chunks ≡ next_chunks s o
from-none n now s None e = refl
from-none n now s (Some place) e = absurd (cc)

from-none-left : (n now : ℕ) (s : Sending) (o : Option ℕ) → is_some o ≡ false → (gone_from (λ left. going n now left) now o s).left ≡ gone_next s now o
from-none-left n now s None e = refl
from-none-left n now s (Some place) e = absurd (cc)

-- n turns are left
turns : (i : ℕ) → i < 257 → 257 - i ≡ suc (257 - (i + 1))
turns i l = omega (arith, l)

going-at : (i now : ℕ) (s : Sending) → i < 257 → going (257 - i) now s ≡ gone_from (λ left. going (257 - (i + 1)) now left) now (next_place s) s
going-at i now s l = ap (λ (n : ℕ). going n now s) (turns i l) ∙ going-next (257 - (i + 1)) now s (next_place s) refl

pub turn-kept : (first e f : Endpoint) (t : Sending) → e ≡ with_sender first e.state.association.sender → f ≡ with_sender e t → f ≡ with_sender first f.state.association.sender
turn-kept first e f t k m =
    let whole : f ≡ with_sender first t = m ∙ ap (λ (x : Endpoint). with_sender x t) k in
    whole ∙ ap (λ (x : Endpoint). with_sender first x.state.association.sender) (sym whole)

pub turn-left : (e f : Endpoint) (i now : ℕ) (r : Bool) → i < 257 → r ≡ true → r ≡ is_some (next_place e.state.association.sender)
    → f ≡ with_sender e (gone_next e.state.association.sender now (next_place e.state.association.sender))
    → (going (257 - (i + 1)) now f.state.association.sender).left ≡ (going (257 - i) now e.state.association.sender).left
turn-left e f i now r l went is m =
    let s = e.state.association.sender in
    ap (λ (x : Endpoint). (going (257 - (i + 1)) now x.state.association.sender).left) m
    ∙ sym (ap (λ (g : Gone). g.left) (going-at i now s l) ∙ from-more-left (257 - (i + 1)) now s (next_place s) (sym is ∙ went))

pub turn-added : {W : Type 0} (has : W → List Sent → List Told → Type 0) (e f : Endpoint) (i now : ℕ) (r : Bool) (watch next last : W) (old mid new : Draft)
    → i < 257 → r ≡ true → r ≡ is_some (next_place e.state.association.sender)
    → f ≡ with_sender e (gone_next e.state.association.sender now (next_place e.state.association.sender))
    → Adds has watch next old mid (next_chunks e.state.association.sender (next_place e.state.association.sender))
    → Adds has next last mid new (map DataChunk (going (257 - (i + 1)) now f.state.association.sender).chunks)
    → Adds has watch last old new (map DataChunk (going (257 - i) now e.state.association.sender).chunks)
turn-added has e f i now r watch next last old mid new l went is m b more =
    let s = e.state.association.sender in
    let t : Sending = gone_next s now (next_place s) in
    let rest : Adds has next last mid new (map DataChunk (going (257 - (i + 1)) now t).chunks) =
    subst (λ (x : Endpoint). Adds has next last mid new (map DataChunk (going (257 - (i + 1)) now x.state.association.sender).chunks)) m more in
    let chunks = ap (λ (g : Gone). map DataChunk g.chunks) (going-at i now s l) ∙ from-more (257 - (i + 1)) now s (next_place s) (sym is ∙ went) in
    subst (λ (xs : List ChunkValue). Adds has watch last old new xs) (sym chunks)
    (adds-then has watch next last old mid new (next_chunks s (next_place s)) (map DataChunk (going (257 - (i + 1)) now t).chunks) b rest)

-- no message may go out
pub stop-added : {W : Type 0} (has : W → List Sent → List Told → Type 0) (e : Endpoint) (i now : ℕ) (r : Bool) (watch next : W) (old new : Draft)
    → i < 257 → r ≡ false → r ≡ is_some (next_place e.state.association.sender)
    → Adds has watch next old new (next_chunks e.state.association.sender (next_place e.state.association.sender))
    → Adds has watch next old new (map DataChunk (going (257 - i) now e.state.association.sender).chunks)
stop-added has e i now r watch next old new l stays is b =
    let s = e.state.association.sender in
    let chunks = ap (λ (g : Gone). map DataChunk g.chunks) (going-at i now s l) ∙ from-none (257 - (i + 1)) now s (next_place s) (sym is ∙ stays) in
    subst (λ (xs : List ChunkValue). Adds has watch next old new xs) (sym chunks) b

pub stop-left : (first e f : Endpoint) (i now : ℕ) (r : Bool) (last : Sending) → i < 257 → r ≡ false → r ≡ is_some (next_place e.state.association.sender) → e ≡ with_sender first e.state.association.sender
    → f ≡ with_sender e (gone_next e.state.association.sender now (next_place e.state.association.sender)) → (going (257 - i) now e.state.association.sender).left ≡ last → f ≡ with_sender first last
stop-left first e f i now r last l stays is k m is_last =
    let s = e.state.association.sender in
    m ∙ ap (λ (x : Endpoint). with_sender x (gone_next s now (next_place s))) k
    ∙ ap (with_sender first) (sym (ap (λ (g : Gone). g.left) (going-at i now s l) ∙ from-none-left (257 - (i + 1)) now s (next_place s) (sym is ∙ stays)) ∙ is_last)

-- the turns are over
over : (i now : ℕ) (s : Sending) → 257 ≤ i → going (257 - i) now s ≡ record { chunks = []; left = s }
unfolding going
over i now s m =
    let none : 257 - i ≡ 0 = omega (arith, m) in
    ap (λ (n : ℕ). going n now s) none

pub over-added : {W : Type 0} (has : W → List Sent → List Told → Type 0) (watch : W) (d : Draft) (i now : ℕ) (s : Sending) → 257 ≤ i
    → Adds has watch watch d d (map DataChunk (going (257 - i) now s).chunks)
over-added has watch d i now s m = rw (over i now s m) (adds-none has watch d)

pub over-left : (first e : Endpoint) (i now : ℕ) (last : Sending) → 257 ≤ i → e ≡ with_sender first e.state.association.sender → (going (257 - i) now e.state.association.sender).left ≡ last → e ≡ with_sender first last
over-left first e i now last m k is_last =
    k ∙ ap (with_sender first) (sym (ap (λ (g : Gone). g.left) (over i now e.state.association.sender m)) ∙ is_last)
