-- What messages say in a network of nodes, and the places of links there: each by its two points and its signalling link
-- code, whatever other nodes there are.
use Rattle.node_moves.proofs.Basics.{◌≡◌, ◌≢◌, ℕ, Bool, true, false, ◌+◌, ◌*◌, ◌^◌, ◌<◌, ◌≤◌, length, Result, Ok, Err, nat_eq, nat_lt, refl, ap, ◌∙◌, arith, nat_tests}
use Rattle.node_moves.proofs.Machine.{Near, Far, opposite, Saying, UserMessage, Order, Answer, Other, is_user_message, Shape, Place, point_at}
use Rattle.node_moves.proofs.Definitions.{Configuration, Message, is_management, dpc_of, opc_of, service_indicator, SIF_OCTETS, testing, Management, MgmtFault, read_management}
use Rattle.node_moves.specs.Networks.{is_node}
use Rattle.mtp3_codec.specs.declared.management.Management.TheVariants as says

-- ---- places

abbrev pub place_by : (is_first : Bool) → (own other slc : ℕ) → Place
place_by true own other slc = record { link = (own * 2 ^ 14 + other) * 2 ^ 4 + slc; side = Near }
place_by false own other slc = record { link = (other * 2 ^ 14 + own) * 2 ^ 4 + slc; side = Far }

-- the end at a point of the link with a code to another point
abbrev pub place_of : (own other slc : ℕ) → Place
place_of own other slc = place_by (nat_lt own other) own other slc

-- a network with a node at each point, and each link that points and codes name; no node starts again
pub record IsShape (shape : Shape) : Type 0 where
  pub nodes : (point : ℕ) → point < 2 ^ 14 → point < shape.nodes
  pub links : (own other slc : ℕ) → own < 2 ^ 14 → other < 2 ^ 14 → slc < 2 ^ 4 → (place_of own other slc).link < shape.links
  pub points : (own other slc : ℕ) → own < 2 ^ 14 → other < 2 ^ 14 → slc < 2 ^ 4 → point_at shape (place_of own other slc) ≡ own

-- where there is no node a point is outside
pub record KnowsOutside (settings : (point : ℕ) → Configuration) (shape : Shape) : Type 0 where
  pub each : (point : ℕ) → is_node settings point ≡ false → shape.outside point ≡ true

same-link : (first second : Bool) (own one other slc code : ℕ) → nat_lt own one ≡ first → nat_lt own other ≡ second → own < 2 ^ 14 → one < 2 ^ 14 → other < 2 ^ 14 → slc < 2 ^ 4 → code < 2 ^ 4
    → (place_by first own one slc).link ≡ (place_by second own other code).link → (one ≡ other) × (slc ≡ code)
same-link true true own one other slc code e f a b c d g h = (omega (arith, h), omega (arith, h))
same-link true false own one other slc code e f a b c d g h =
    (let l : own < one = grind (arith, nat_tests, e) in (omega (arith, h, l), omega (arith, h, l)))
same-link false true own one other slc code e f a b c d g h =
    (let l : own < other = grind (arith, nat_tests, f) in (omega (arith, h, l), omega (arith, h, l)))
same-link false false own one other slc code e f a b c d g h = (omega (arith, h), omega (arith, h))

-- links of one node to other points, or with other codes, are other links
pub places-apart : (own one other slc code : ℕ) → own < 2 ^ 14 → one < 2 ^ 14 → other < 2 ^ 14 → slc < 2 ^ 4 → code < 2 ^ 4
    → (place_of own one slc).link ≡ (place_of own other code).link → (one ≡ other) × (slc ≡ code)
places-apart own one other slc code a b c d e f = same-link (nat_lt own one) (nat_lt own other) own one other slc code refl refl a b c d e f

-- the other end of a link
abbrev pub across : Place → Place
across place = record place { side = opposite place.side }

across-by : (first second : Bool) (own other slc : ℕ) → nat_lt own other ≡ first → nat_lt other own ≡ second → own ≢ other → place_by second other own slc ≡ across (place_by first own other slc)
across-by true true own other slc e f d = (let l : own < other = grind (arith, nat_tests, e) in let k : other < own = grind (arith, nat_tests, f) in absurd (omega (arith, l, k)))
across-by true false own other slc e f d = refl
across-by false true own other slc e f d = refl
across-by false false own other slc e f d = absurd (d (let l : other ≤ own = grind (arith, nat_tests, e) in let k : own ≤ other = grind (arith, nat_tests, f) in omega (arith, l, k)))

pub other-place : (own other slc : ℕ) → own ≢ other → place_of other own slc ≡ across (place_of own other slc)
other-place own other slc d = across-by (nat_lt own other) (nat_lt other own) own other slc refl refl d

-- ---- what messages say

-- what is never under way: no end has this number
abbrev pub never : Saying
never = Order 0 Near (2 ^ 24)

abbrev pub order_at : Place → (number : ℕ) → Saying
order_at place number = Order place.link place.side number

abbrev pub answer_at : Place → (number : ℕ) → Saying
answer_at place number = Answer place.link place.side number

-- by who sent it, and who is to have it. No node makes an emergency changeover order, or answers one
abbrev pub word_says : (opc dpc : ℕ) → Management → Saying
word_says opc dpc (says.ExtendedChangeoverOrder slc number) = order_at (place_of opc dpc slc) number
word_says opc dpc (says.ExtendedChangeoverAcknowledgement slc number) = answer_at (place_of opc dpc slc) number
word_says opc dpc (says.EmergencyChangeoverOrder slc) = never
word_says opc dpc (says.EmergencyChangeoverAcknowledgement slc) = never
word_says opc dpc (says.ChangebackDeclaration slc code) = Other
word_says opc dpc (says.ChangebackAcknowledgement slc code) = Other
word_says opc dpc (says.TransferProhibited point) = Other
word_says opc dpc (says.TransferRestricted point) = Other
word_says opc dpc (says.TransferAllowed point) = Other
word_says opc dpc (says.RouteSetTestProhibited point) = Other
word_says opc dpc (says.RouteSetTestRestricted point) = Other
word_says opc dpc says.TrafficRestartAllowed = Other
word_says opc dpc (says.UserPartUnavailable point user_part cause) = Other

abbrev pub read_says : (opc dpc : ℕ) → Result Management MgmtFault → Saying
read_says opc dpc (Ok word) = word_says opc dpc word
read_says opc dpc (Err fault) = Other

-- nor is a message under way that is too long for a frame
abbrev pub says_by : (is_long is_managing is_test : Bool) → Message → Saying
says_by true is_managing is_test m = never
says_by false false is_test m = UserMessage
says_by false true true m = Other
says_by false true false m = read_says (opc_of m) (dpc_of m) (read_management m.sif)

abbrev pub is_long : Message → Bool
is_long m = nat_lt SIF_OCTETS (length m.sif)

unfoldable pub says_of : Message → Saying
says_of m = says_by (is_long m) (is_management m) (nat_eq (service_indicator m) testing) m

-- ---- whether it is a user message

word-no-user : (opc dpc : ℕ) (word : Management) → is_user_message (word_says opc dpc word) ≡ false
word-no-user opc dpc (says.ExtendedChangeoverOrder slc number) = refl
word-no-user opc dpc (says.ExtendedChangeoverAcknowledgement slc number) = refl
word-no-user opc dpc (says.EmergencyChangeoverOrder slc) = refl
word-no-user opc dpc (says.EmergencyChangeoverAcknowledgement slc) = refl
word-no-user opc dpc (says.ChangebackDeclaration slc code) = refl
word-no-user opc dpc (says.ChangebackAcknowledgement slc code) = refl
word-no-user opc dpc (says.TransferProhibited point) = refl
word-no-user opc dpc (says.TransferRestricted point) = refl
word-no-user opc dpc (says.TransferAllowed point) = refl
word-no-user opc dpc (says.RouteSetTestProhibited point) = refl
word-no-user opc dpc (says.RouteSetTestRestricted point) = refl
word-no-user opc dpc says.TrafficRestartAllowed = refl
word-no-user opc dpc (says.UserPartUnavailable point user_part cause) = refl

read-no-user : (opc dpc : ℕ) (r : Result Management MgmtFault) → is_user_message (read_says opc dpc r) ≡ false
read-no-user opc dpc (Ok word) = word-no-user opc dpc word
read-no-user opc dpc (Err fault) = refl

managing-by : (is_long is_test : Bool) (m : Message) → is_user_message (says_by is_long true is_test m) ≡ false
managing-by true is_test m = refl
managing-by false true m = refl
managing-by false false m = read-no-user (opc_of m) (dpc_of m) (read_management m.sif)

pub says-managing : (m : Message) → is_management m ≡ true → is_user_message (says_of m) ≡ false
unfolding says_of
says-managing m e =
    ap (λ (b : Bool). is_user_message (says_by (is_long m) b (nat_eq (service_indicator m) testing) m)) e ∙ managing-by (is_long m) (nat_eq (service_indicator m) testing) m

pub says-user : (m : Message) → is_long m ≡ false → is_management m ≡ false → says_of m ≡ UserMessage
unfolding says_of
says-user m short e =
    ap (λ (b : Bool). says_by b (is_management m) (nat_eq (service_indicator m) testing) m) short
    ∙ ap (λ (b : Bool). says_by false b (nat_eq (service_indicator m) testing) m) e

pub says-long : (m : Message) → is_long m ≡ true → says_of m ≡ never
unfolding says_of
says-long m long = ap (λ (b : Bool). says_by b (is_management m) (nat_eq (service_indicator m) testing) m) long

pub says-test : (m : Message) → is_long m ≡ false → service_indicator m ≡ 1 → says_of m ≡ Other
unfolding says_of
says-test m short e =
    ap (λ (b : Bool). says_by b (is_management m) (nat_eq (service_indicator m) testing) m) short
    ∙ ap (λ (k : ℕ). says_by false (nat_lt k 2) (nat_eq k testing) m) e

pub says-managed : (m : Message) → is_long m ≡ false → service_indicator m ≡ 0 → says_of m ≡ read_says (opc_of m) (dpc_of m) (read_management m.sif)
unfolding says_of
says-managed m short e =
    ap (λ (b : Bool). says_by b (is_management m) (nat_eq (service_indicator m) testing) m) short
    ∙ ap (λ (k : ℕ). says_by false (nat_lt k 2) (nat_eq k testing) m) e
