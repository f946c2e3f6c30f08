-- How many messages wait by what is kept is how many wait of the abstract pair.
use Rattle.std.proofs.Common.{◌≡◌, ◌+◌, ◌<◌, ◌&&◌, ℕ, Bool, true, false, List, [], ◌∷◌, drop, length, refl, ap, sym, ◌∙◌, nat_eq, nat_lt, not, Option, Some, None}
use Rattle.std.specs.Prelude.{count_by, filter, if◌then◌else◌, slice_get}
use Rattle.std.proofs.lemmas.List.Sums.{length-filter}
use Rattle.signalling_types.specs.Message.{Message, dpc_of, is_management}
use Rattle.link.specs.Queue.{last_accepted}
use Rattle.cell_pool.specs.Lanes.{is_user_picked}
use Rattle.exchange_rules.specs.State.{is_link}
use Rattle.exchange_rules.specs.Queues.{whole}
use Rattle.exchange.specs.Counting.{kept_behind_number}
use Rattle.exchange.specs.KeptQueues.{counts_at, link_lane}
use Rattle.exchange.specs.Calls.{Kept, kept_of}
use Rattle.exchange.specs.Views.{link_shown}
use Rattle.exchange.proofs.Showing.{stands-link}
use Rattle.exchange.proofs.Waiting.{stands-behind}
use Rattle.exchange_rules.specs.First.{IsSound}
use Rattle.pair_moves.specs.Order.{join_to}
use Rattle.pair_moves.proofs.Counts.{count-append}
use Rattle.pair_rules.specs.Pairs.{PairState}
use Rattle.pair_rules.specs.Promises.{queue_of, user}
use Rattle.pair_rules.proofs.Promised.{count-join, sum-alike}
use Rattle.neighbour_rules.specs.Neighbours.{far_end, users_to}
use Rattle.neighbour_rules.specs.Promises.{accepted_there, waiting, waiting_by, waiting_on}
use Rattle.network_world.specs.KeptSites.{accepted_number, number_shown}
use Rattle.network_world.specs.Waiting.{kept_waiting, kept_waiting_by, kept_waiting_on, picked_to}
use Rattle.network_world.proofs.Newly.{shown-number, stands-itself}
use Rattle.network_world.proofs.Ready.{IsReady, far-there}
use Rattle.network_world.proofs.Fetching.{is-there}

-- of a list, those that are for a point and that a choice takes
module _ (point : ℕ) (picks : Message → Bool) where
  abbrev chosen : Message → Bool
  chosen = is_user_picked (picked_to point picks)

  filters : (ms : List Message) → filter (user picks) (users_to point ms) ≡ filter chosen ms
  filters [] = refl
  filters (m ∷ ms) = by (is_management m) (nat_eq (dpc_of m) point) refl refl (filters ms)
    where
      by : (b d : Bool) → is_management m ≡ b → nat_eq (dpc_of m) point ≡ d → filter (user picks) (users_to point ms) ≡ filter chosen ms
          → filter (user picks) (if not b && d then m ∷ users_to point ms else users_to point ms) ≡ (if not b && (d && picks m) then m ∷ filter chosen ms else filter chosen ms)
      by true d e f rest = rest
      by false false e f rest = rest
      by false true e f rest =
          ap (λ (x : Bool). if not x && picks m then m ∷ filter (user picks) (users_to point ms) else filter (user picks) (users_to point ms)) e
          ∙ ap (λ (xs : List Message). if picks m then m ∷ xs else xs) rest

  count-to : (ms : List Message) → count_by chosen ms ≡ count_by (user picks) (users_to point ms)
  count-to ms = sym (length-filter chosen ms) ∙ ap length (sym (filters ms)) ∙ length-filter (user picks) (users_to point ms)

module _ (picks : Message → Bool) (p : PairState) (near_sound : IsSound p.near.exchange) (far_sound : IsSound p.far.exchange) (ready : IsReady p) where
  abbrev links : ℕ
  links = length p.near.exchange.settings.links

  abbrev near : Kept
  near = kept_of p.near.exchange

  abbrev far : Kept
  far = kept_of p.far.exchange

  abbrev far_point : ℕ
  far_point = p.far.exchange.settings.own

  accepted-number : (other : ℕ) → other < length p.far.exchange.settings.links → accepted_number far other ≡ last_accepted (queue_of p.far other)
  accepted-number other l =
      let there : is_link p.far.exchange.node.parts other ≡ true = ap (nat_lt other) ready.far_places.parts.links ∙ is-there other (length p.far.exchange.settings.links) l in
      ap number_shown (stands-link other far p.far.exchange (stands-itself p.far.exchange far_sound))
      ∙ shown-number (is_link p.far.exchange.node.parts other) (link_shown whole p.far.exchange.node other)
      ∙ ap (λ (b : Bool). if b then last_accepted (queue_of p.far other) else 0) there

  by-end : (link : ℕ) (other : Option ℕ) → far_end p link ≡ other → kept_waiting_by picks near far link other ≡ count_by (user picks) (waiting_by p link other)
  by-end link None e = refl
  by-end link (Some other) e =
      ap (λ (number : ℕ). count_by (chosen far_point picks) (kept_behind_number (counts_at near.node.queues.counts link) (link_lane near.node.queues link) number))
      (accepted-number other (far-there p.near.exchange.settings p.far.exchange.settings (slice_get p.near.exchange.settings.links link) other e))
      ∙ ap (count_by (chosen far_point picks)) (stands-behind link (last_accepted (queue_of p.far other)) near p.near.exchange (stands-itself p.near.exchange near_sound))
      ∙ count-to far_point picks (drop (accepted_there p link other) (queue_of p.near link).all)

  on-link : (link : ℕ) → kept_waiting_on picks near far link ≡ count_by (user picks) (waiting_on p link)
  on-link link = by-end link (far_end p link) refl

  abbrev held : List Message
  held = p.near.exchange.node.queues.held

  pub waiting-same : kept_waiting picks near far ≡ count_by (user picks) (waiting p)
  waiting-same =
      ap (λ (sum : ℕ). sum + count_by (chosen far_point picks) held)
      (sum-alike (kept_waiting_on picks near far) (λ link. count_by (user picks) (waiting_on p link)) links on-link ∙ sym (count-join (user picks) (waiting_on p) links))
      ∙ ap (λ (k : ℕ). count_by (user picks) (join_to (waiting_on p) links) + k) (count-to far_point picks held)
      ∙ sym (count-append (user picks) (join_to (waiting_on p) links) (users_to far_point held))
