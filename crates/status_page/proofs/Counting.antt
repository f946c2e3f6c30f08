-- Which messages of a queue a number leaves.
use Rattle.std.proofs.Common.{◌≡◌, ◌∙◌, refl, sym, ap, ℕ, List, drop, unwrap_or, Option, Some, None, false}
use Rattle.std.proofs.lemmas.Bool.{eq-eqb}
use Rattle.std.specs.Option.{option_map}
use Rattle.signalling_types.specs.Message.{Message}
use Rattle.signalling_types.specs.Numbers.{next_number, previous_number}
use Rattle.link.specs.Queue.{confirmation, count_confirmed}
use Rattle.link.specs.Counts.{Counts, kept_accept_answer, kept_last_accepted, kept_newly_confirmed}
use Rattle.exchange_rules.specs.State.{State}
use Rattle.exchange.specs.Counting.{kept_behind_number}
use Rattle.exchange.specs.KeptQueues.{KeptQueues, counts_at, kept, link_lane}
use Rattle.exchange.specs.Views.{link_view}
use Rattle.exchange.specs.declared.view.LinkView.{LinkView}
use Rattle.status_page.specs.Measuring.{confirmed_by, count_user_messages, users_on}

-- a number that isn't within what was sent confirms none
confirms : (count : Option ℕ) → unwrap_or count 0 ≡ count_confirmed (confirmation count)
confirms None = refl
confirms (Some n) = refl

-- after a number there are the messages that it doesn't confirm
left_behind : (k : Counts) (lane : List Message) (n : ℕ)
    → kept_behind_number k lane n ≡ drop (count_confirmed (kept_accept_answer k (kept_last_accepted k) n false)) lane
left_behind k lane n =
    rw (eq-eqb (previous_number k.expected) (previous_number k.expected) refl)
    (ap (λ (count : ℕ). drop count lane) (confirms (kept_newly_confirmed k n)))

-- the user messages after the number of a link's next message
pub users_left : (s : State KeptQueues) (link : ℕ) (shown : Option LinkView) (v : LinkView) (number n : ℕ)
    → shown ≡ link_view kept s link → shown ≡ Some v → number ≡ next_number v.last_sent
    → n ≡ count_user_messages (kept_behind_number (counts_at s.node.queues.counts link) (link_lane s.node.queues link) number)
    → n ≡ users_on kept s link
users_left s link shown v number n is some next count =
    count
    ∙ ap (λ (x : ℕ). count_user_messages
    (kept_behind_number (counts_at s.node.queues.counts link) (link_lane s.node.queues link) x)) next
    ∙ ap (λ (ms : List Message). count_user_messages ms)
    (left_behind (counts_at s.node.queues.counts link) (link_lane s.node.queues link) (next_number v.last_sent))
    ∙ ap (λ (o : Option LinkView). unwrap_or (option_map (λ (w : LinkView). count_user_messages
    (drop (confirmed_by kept s link (next_number w.last_sent)) (kept.unconfirmed s.node.queues link))) o) 0)
    (sym some ∙ is)
