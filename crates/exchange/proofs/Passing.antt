-- A list that is walked message by message: what is done with the first of the remaining ones.
use Rattle.exchange.proofs.Basics.{add-one, if◌then◌else◌, not, is_some, length, ◌≡◌, ◌<◌, ◌≤◌, ℕ, zero, suc, ◌+◌, Bool, true, false, List, [], ◌∷◌, drop, take, refl, ap, sym, ◌∙◌, arith, Option, Some, None, slice_get, Message, Configuration, HoldSet, Parts, with_messages, with_head, is_management, LostUnconfirmed, Counts, users_of, kept_doubted, kept_accepted_count, kept_in_doubt, kept_queued_anew, flagged, KeptQueues, kept, counts_at, link_lane, lose, lose_each, with_losses, lose_one, lose_users, lose_first}
use Rattle.changeover.specs.Changeover.{is_unreasonable}
use Rattle.exchange_rules.specs.State.{broken_if}

abbrev get_some : Option ℕ → ℕ
get_some (Some n) = n
get_some None = 0

holds-suc : (c : Configuration) (link place : ℕ) (ms : List Message) (holds : HoldSet)
    → with_messages c link (drop place ms) holds ≡ with_messages c link (drop (suc place) ms) (with_head c link (slice_get ms place) holds)
holds-suc c link zero [] holds = refl
holds-suc c link (suc place) [] holds = refl
holds-suc c link zero (m ∷ ms) holds = refl
holds-suc c link (suc place) (m ∷ ms) holds = holds-suc c link place ms holds

pub next_held : (c : Configuration) (link place : ℕ) (ms : List Message) (holds : HoldSet)
    → with_messages c link (drop (place + 1) ms) (with_head c link (slice_get ms place) holds) ≡ with_messages c link (drop place ms) holds
next_held c link place ms holds =
    ap (λ (n : ℕ). with_messages c link (drop n ms) (with_head c link (slice_get ms place) holds)) (add-one place) ∙ sym (holds-suc c link place ms holds)

lost-suc : (count place : ℕ) (ms : List Message) (p : Parts) → place < count
    → lose_users (drop place (take count ms)) p ≡ lose_users (drop (suc place) (take count ms)) (lose_one (slice_get ms place) p)
lost-suc zero place ms p h = absurd (omega (arith, h))
lost-suc (suc count) zero [] p h = refl
lost-suc (suc count) (suc place) [] p h = refl
lost-suc (suc count) zero (m ∷ ms) p h = refl
lost-suc (suc count) (suc place) (m ∷ ms) p h = lost-suc count place ms p (omega (arith, h))

pub next_lost : (count place : ℕ) (ms : List Message) (p : Parts) → place < count
    → lose_users (drop (place + 1) (take count ms)) (lose_one (slice_get ms place) p) ≡ lose_users (drop place (take count ms)) p
next_lost count place ms p h =
    ap (λ (n : ℕ). lose_users (drop n (take count ms)) (lose_one (slice_get ms place) p)) (add-one place) ∙ sym (lost-suc count place ms p h)

pub shorter : (count : ℕ) (ms : List Message) → length (take count ms) ≤ count
shorter zero ms = omega arith
shorter (suc count) [] = omega arith
shorter (suc count) (m ∷ ms) = omega (arith, shorter count ms)

-- ---- what a completion loses

users-lost : (b : Bool) (m : Message) (ms : List Message) (p : Parts) → is_management m ≡ b
    → lose_each (users_of ms) (if b then p else lose LostUnconfirmed m p) ≡ lose_each (if not b then m ∷ users_of ms else users_of ms) p
users-lost true m ms p e = refl
users-lost false m ms p e = refl

lose_users-each : (ms : List Message) (p : Parts) → lose_users ms p ≡ lose_each (users_of ms) p
lose_users-each [] p = refl
lose_users-each (m ∷ ms) p = lose_users-each ms (lose_one (Some m) p) ∙ users-lost (is_management m) m ms p refl

with_losses-by : (number o : Option ℕ) (k : Counts) (lane : List Message) (anew : List Message) (count : ℕ) (p : Parts) → kept_doubted k o ≡ Some count
    → broken_if (is_some number) (flagged (lose_first count lane p))
    ≡ with_losses (record { is_reasonable = is_some o; is_wrong = is_unreasonable number o; lost = users_of (kept_in_doubt k lane o); queued_anew = anew }) p
with_losses-by number (Some n) k lane anew count p e = absurd cc
with_losses-by number None k lane anew count p e =
    let many : k.outstanding ≡ count = ap (λ (o : Option ℕ). get_some o) e in
    ap (λ (n : ℕ). broken_if (is_some number) (flagged (lose_first n lane p))) (sym many)
    ∙ ap (λ (x : Parts). broken_if (is_some number) (flagged x)) (lose_users-each (take k.outstanding lane) p)

pub doubtful : (k : KeptQueues) (link : ℕ) (number : Option ℕ) (count : ℕ) (p : Parts)
    → kept_doubted (counts_at k.counts link) (kept_accepted_count (counts_at k.counts link) number) ≡ Some count
    → broken_if (is_some number) (flagged (lose_first count (link_lane k link) p)) ≡ with_losses (kept.found k link number) p
doubtful k link number count p e =
    with_losses-by number (kept_accepted_count (counts_at k.counts link) number) (counts_at k.counts link) (link_lane k link) (kept_queued_anew (counts_at k.counts link) (link_lane k link) number) count p e
