-- What a release leaves: each message of Held waits, and if each did before, nothing changed. Telling leaves this so.
use Rattle.exchange_rules.proofs.Basics.{◌≡◌, ℕ, Bool, true, false, ◌&&◌, not, List, [], ◌∷◌, ◌++◌, Option, Some, None, refl, ap, sym, ◌∙◌, if◌then◌else◌, append-nil, append_assoc}
use Rattle.exchange_rules.proofs.Definitions.{is_led, Message, flow_of, Cause, Configuration, Prohibited, Owed, owed, HoldSet, Node, with_parts, WholeQueues, whole, facts, link_of, waits, all_wait, go_on, go_by, go, go_each, release, Outgoing, SendsStatus, SendsMessage, Acknowledges, SendsNothing, goes_out, after_sending, after_take, set_of, no_room, send, send_routed, route_message, told_parts, inhibited, is_inhibited, may_tell, tell, tell_if, tell_each, tell_owed, prohibit, prohibit_if, answer_no_route, answer_no_user_part, is_unequipped_told, tell_unavailable, unavailable, unequipped_counted}
use Rattle.std.proofs.lemmas.List.Folds.{list_all-append}

-- all messages of Held wait for holds that stay as they are
pub record Waits (c : Configuration) (holds : HoldSet) (n : Node WholeQueues) : Type 0 where
  pub same : n.parts.holds ≡ holds
  pub all : all_wait c holds n.queues.held ≡ true

pub one_more : (c : Configuration) (holds : HoldSet) (ms : List Message) (m : Message) → all_wait c holds ms ≡ true → waits c holds m ≡ true → all_wait c holds (ms ++ m ∷ []) ≡ true
one_more c holds ms m e f =
    list_all-append (waits c holds) ms (m ∷ [])
    ∙ ap (λ (b : Bool). b && (waits c holds m && true)) e
    ∙ ap (λ (b : Bool). b && true) f

module _ (c : Configuration) (holds : HoldSet) where
  go_on-waits : (link : Option ℕ) (m : Message) (n : Node WholeQueues) → Waits c holds n → Waits c holds (go_on whole c link m n)
  go_on-waits (Some l) m n w = record { same = w.same; all = w.all }
  go_on-waits None m n w = record { same = w.same; all = w.all }

  go_by-waits : (b : Bool) (m : Message) (n : Node WholeQueues) → waits c holds m ≡ b → Waits c holds n → Waits c holds (go_by whole c b m n)
  go_by-waits true m n e w = record { same = w.same; all = one_more c holds n.queues.held m w.all e }
  go_by-waits false m n e w = go_on-waits (link_of c n.parts (flow_of m)) m n w

  pub go-waits : (m : Message) (n : Node WholeQueues) → Waits c holds n → Waits c holds (go whole c m n)
  go-waits m n w = go_by-waits (waits c n.parts.holds m) m n (ap (λ (t : HoldSet). waits c t m) (sym w.same)) w

  go_each-waits : (ms : List Message) (n : Node WholeQueues) → Waits c holds n → Waits c holds (go_each whole c ms n)
  go_each-waits [] n w = w
  go_each-waits (m ∷ ms) n w = go_each-waits ms (go whole c m n) (go-waits m n w)

-- after a release each message of Held waits
pub release-waits : (c : Configuration) (n : Node WholeQueues) → all_wait c (release whole c n).parts.holds (release whole c n).queues.held ≡ true
release-waits c n =
    let w : Waits c n.parts.holds (release whole c n) = go_each-waits c n.parts.holds n.queues.held (record n { queues = whole.without_held n.queues }) (record { same = refl; all = refl }) in
    ap (λ (t : HoldSet). all_wait c t (release whole c n).queues.held) w.same ∙ w.all

-- a take leaves Held and the holds as they are
after_sending-waits : (c : Configuration) (l : ℕ) (out : Outgoing) (n : Node WholeQueues) → all_wait c n.parts.holds n.queues.held ≡ true
    → all_wait c (after_sending whole c l n out).parts.holds (after_sending whole c l n out).queues.held ≡ true
after_sending-waits c l (SendsStatus status) n e = e
after_sending-waits c l (SendsMessage next) n e = e
after_sending-waits c l Acknowledges n e = e
after_sending-waits c l SendsNothing n e = e

pub take-waits : (c : Configuration) (l : ℕ) (n : Node WholeQueues) → all_wait c n.parts.holds n.queues.held ≡ true
    → all_wait c (after_take whole c l n).parts.holds (after_take whole c l n).queues.held ≡ true
take-waits c l n e = after_sending-waits c l (goes_out whole c l n) n e

-- ---- where each message waits, a release changes nothing

pub left-true : (a b : Bool) → (a && b) ≡ true → a ≡ true
left-true true b e = refl
left-true false b e = absurd cc

pub right-true : (a b : Bool) → (a && b) ≡ true → b ≡ true
right-true true b e = e
right-true false b e = absurd cc

abbrev pub with_held : List Message → Node WholeQueues → Node WholeQueues
with_held held n = record n { queues = record n.queues { held = held } }

stays : (c : Configuration) (m : Message) (n : Node WholeQueues) → waits c n.parts.holds m ≡ true → go whole c m n ≡ with_held (n.queues.held ++ m ∷ []) n
stays c m n e = ap (λ (b : Bool). go_by whole c b m n) e

all_stay : (c : Configuration) (ms : List Message) (n : Node WholeQueues) → all_wait c n.parts.holds ms ≡ true → go_each whole c ms n ≡ with_held (n.queues.held ++ ms) n
all_stay c [] n e = ap (λ (xs : List Message). with_held xs n) (sym (append-nil n.queues.held))
all_stay c (m ∷ ms) n e =
    let f : waits c n.parts.holds m ≡ true = left-true (waits c n.parts.holds m) (all_wait c n.parts.holds ms) e in
    let g : all_wait c n.parts.holds ms ≡ true = right-true (waits c n.parts.holds m) (all_wait c n.parts.holds ms) e in
    ap (λ (x : Node WholeQueues). go_each whole c ms x) (stays c m n f)
    ∙ all_stay c ms (with_held (n.queues.held ++ m ∷ []) n) g
    ∙ ap (λ (xs : List Message). with_held xs n) (append_assoc n.queues.held (m ∷ []) ms)

pub nothing_released : (c : Configuration) (n : Node WholeQueues) → all_wait c n.parts.holds n.queues.held ≡ true → release whole c n ≡ n
nothing_released c n e = all_stay c n.queues.held (with_held [] n) e

-- ---- what is told leaves Held and the holds as they are

module _ (c : Configuration) (holds : HoldSet) where
  send-waits : (room : Option Cause) (link : Option ℕ) (m : Message) (n : Node WholeQueues) → Waits c holds n → Waits c holds (send whole c room link m n)
  send-waits (Some cause) link m n w = record { same = w.same; all = w.all }
  send-waits None None m n w = record { same = w.same; all = w.all }
  send-waits None (Some l) m n w = record { same = w.same; all = w.all }

  send_routed-waits : (m : Message) (n : Node WholeQueues) → Waits c holds n → Waits c holds (send_routed whole c m n)
  send_routed-waits m n w = send-waits (no_room whole c m n.queues) (link_of c n.parts (flow_of m)) m n w

  either-waits : (b : Bool) (n o : Node WholeQueues) → Waits c holds n → Waits c holds o → Waits c holds (if b then n else o)
  either-waits true n o v w = v
  either-waits false n o v w = w

  tell-waits : (o : Owed) (n : Node WholeQueues) → Waits c holds n → Waits c holds (tell whole c o n)
  tell-waits o n w =
      send_routed-waits (route_message c o.set o.destination o.status) (with_parts n (told_parts c o n.parts)) (record { same = w.same; all = w.all })

  tell_each-waits : (os : List Owed) (n : Node WholeQueues) → Waits c holds n → Waits c holds (tell_each whole c os n)
  tell_each-waits [] n w = w
  tell_each-waits (o ∷ os) n w =
      tell_each-waits os (tell_if whole c o n) (either-waits (may_tell whole c n) (tell whole c o n) n (tell-waits o n w) w)

  prohibit_if-waits : (place destination : ℕ) (n : Node WholeQueues) → Waits c holds n → Waits c holds (prohibit_if whole c place destination n)
  prohibit_if-waits place destination n w =
      either-waits (may_tell whole c n && not (is_inhibited place destination n.parts) && is_led c (route_message c place destination Prohibited) n.parts) (prohibit whole c place destination n) n
      (send_routed-waits (route_message c place destination Prohibited) (with_parts n (inhibited c place destination n.parts))
      (record { same = w.same; all = w.all })) w

  turned_away-waits : (link destination : Option ℕ) (n : Node WholeQueues) → Waits c holds n → Waits c holds (answer_no_route whole c link destination n)
  turned_away-waits (Some link) (Some destination) n w = prohibit_if-waits (set_of c link) destination n w
  turned_away-waits (Some link) None n w = w
  turned_away-waits None destination n w = w

  without_part-waits : (link origin : Option ℕ) (m : Message) (n : Node WholeQueues) → Waits c holds n → Waits c holds (answer_no_user_part whole c link origin m n)
  without_part-waits (Some link) (Some origin) m n w =
      let next : Node WholeQueues = with_parts n (unequipped_counted origin n.parts) in
      let still : Waits c holds next = record { same = w.same; all = w.all } in
      either-waits c.user_part_unavailable (tell_unavailable whole c origin m n) n
      (either-waits (is_unequipped_told whole c origin m n) (send_routed whole c (unavailable c m) next) next (send_routed-waits (unavailable c m) next still) still) w
  without_part-waits (Some link) None m n w = w
  without_part-waits None origin m n w = w

-- each message of Held waits, by the holds that the node has
waits-by : (c : Configuration) (holds : HoldSet) (n : Node WholeQueues) → Waits c holds n → all_wait c n.parts.holds n.queues.held ≡ true
waits-by c holds n w = ap (λ (t : HoldSet). all_wait c t n.queues.held) w.same ∙ w.all

pub tell_owed-waits : (c : Configuration) (n : Node WholeQueues) → all_wait c n.parts.holds n.queues.held ≡ true
    → all_wait c (tell_owed whole c n).parts.holds (tell_owed whole c n).queues.held ≡ true
unfolding tell_owed
tell_owed-waits c n e =
    let os : List Owed = owed (facts c n.parts) n.parts.told in
    waits-by c n.parts.holds (tell_each whole c os n) (tell_each-waits c n.parts.holds os n (record { same = refl; all = e }))

pub answer_no_route-waits : (c : Configuration) (link destination : Option ℕ) (n : Node WholeQueues) → all_wait c n.parts.holds n.queues.held ≡ true
    → all_wait c (answer_no_route whole c link destination n).parts.holds (answer_no_route whole c link destination n).queues.held ≡ true
answer_no_route-waits c link destination n e =
    waits-by c n.parts.holds (answer_no_route whole c link destination n)
    (turned_away-waits c n.parts.holds link destination n (record { same = refl; all = e }))

pub answer_no_user_part-waits : (c : Configuration) (link origin : Option ℕ) (m : Message) (n : Node WholeQueues) → all_wait c n.parts.holds n.queues.held ≡ true
    → all_wait c (answer_no_user_part whole c link origin m n).parts.holds (answer_no_user_part whole c link origin m n).queues.held ≡ true
answer_no_user_part-waits c link origin m n e =
    waits-by c n.parts.holds (answer_no_user_part whole c link origin m n)
    (without_part-waits c n.parts.holds link origin m n (record { same = refl; all = e }))
