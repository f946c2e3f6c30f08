-- A message that no full share refuses goes as if no link had a share.
use Rattle.std.specs.Option.{option_map_or}
use Rattle.settings.specs.Configuration.{LinkEntry}
use Rattle.signalling_types.specs.declared.point.Flow.{Flow}
use Rattle.signalling_types.specs.declared.cause.Cause.TheVariants as causes
use Rattle.routes.specs.Routes.{has_code, links_below}
unfoldable use Rattle.routes.specs.Routes.{first_sets}
use Rattle.exchange_rules.specs.LawsOfShares.{without_share, without_shares, others_know_no_shares}
use Rattle.exchange_rules.proofs.Basics.{◌≡◌, ◌≢◌, ℕ, zero, suc, Bool, true, false, ◌&&◌, ◌||◌, not, List, [], length, map, position, Option, Some, None, is_some, option_or, option_and_then, refl, ap, sym, ◌∙◌, nat_le, if◌then◌else◌, get_or-map}
use Rattle.exchange_rules.proofs.Definitions.{is_led, Message, dpc_of, flow_of, is_management, Configuration, Cause, destination_place, chosen_link, Refused, Parts, Node, Done, refuse, with_parts, entry_of, set_of, link_of, facts, waits, is_destination, no_room, is_share_full, no_room_on, no_room_for, offer, transfer, send, route_message, Prohibited, inhibited, is_inhibited, may_tell, prohibit, prohibit_if, answer_no_route, WholeQueues, whole}
use Rattle.exchange_rules.proofs.Lists.{position-map}

-- ---- the links of each set

position-plain : (set code : ℕ) (links : List LinkEntry) → position (has_code set code) (map without_share links) ≡ position (has_code set code) links
position-plain set code links = position-map (has_code set code) without_share links

below-plain : (limit : ℕ) (links : List LinkEntry) (set : ℕ) → links_below limit (map without_share links) set ≡ links_below limit links set
unfolding links_below
below-plain zero links set = refl
below-plain (suc code) links set = rw (below-plain code links set, position-plain set code links) refl

sets-plain : (sets : ℕ) (links : List LinkEntry) → first_sets sets (map without_share links) ≡ first_sets sets links
unfolding first_sets
sets-plain zero links = refl
sets-plain (suc sets) links = rw (sets-plain sets links, below-plain 16 links sets) refl

-- ---- a message

module _ (c : Configuration) where
  abbrev none : Configuration
  none = without_shares c

  link-plain : (p : Parts) (flow : Flow) → link_of none p flow ≡ link_of c p flow
  link-plain p flow =
      ap (λ (sets : List (List ℕ)). option_and_then (λ place. chosen_link (record (facts c p) { sets = sets }) place flow.sls) (destination_place c flow.point))
      (sets-plain (length c.sets) c.links)

  entry-plain : (link : ℕ) → entry_of none link ≡ without_share (entry_of c link)
  entry-plain link = get_or-map without_share c.links link (record { name = []; set = 0; slc = 0; share = None })

  none-full : (link : Option ℕ) (waiting : Bool) (m : Message) (qs : WholeQueues) → no_room_on whole none link waiting m qs ≡ None
  none-full None waiting m qs = refl
  none-full (Some link) waiting m qs =
      ap (λ (l : LinkEntry). if option_map_or (λ share. nat_le share (length (whole.unconfirmed qs link))) l.share false && not (waiting || is_management m) then Some causes.ShareFull else None) (entry-plain link)

  send-plain : (room : Option Cause) (link : Option ℕ) (m : Message) (n : Node WholeQueues) → send whole none room link m n ≡ send whole c room link m n
  send-plain (Some cause) link m n = refl
  send-plain None None m n = refl
  send-plain None (Some link) m n = refl

  prohibit-plain : (set destination : ℕ) (n : Node WholeQueues) → prohibit whole none set destination n ≡ prohibit whole c set destination n
  prohibit-plain set destination n =
      let next : Node WholeQueues = with_parts n (inhibited c set destination n.parts) in
      let m : Message = route_message c set destination Prohibited in
      send-plain (no_room whole c m n.queues) (link_of none next.parts (flow_of m)) m next
      ∙ ap (λ (link : Option ℕ). send whole c (no_room whole c m n.queues) link m next) (link-plain next.parts (flow_of m))

  answer-plain : (link destination : Option ℕ) (n : Node WholeQueues) → answer_no_route whole none link destination n ≡ answer_no_route whole c link destination n
  answer-plain (Some link) (Some destination) n =
      let set : ℕ = set_of c link in
      let m : Message = route_message c set destination Prohibited in
      ap (λ (l : LinkEntry). prohibit_if whole none l.set destination n) (entry-plain link)
      ∙ ap (λ (its : Option ℕ). if may_tell whole c n && not (is_inhibited set destination n.parts) && is_some its then prohibit whole none set destination n else n) (link-plain n.parts (flow_of m))
      ∙ ap (λ (x : Node WholeQueues). if may_tell whole c n && not (is_inhibited set destination n.parts) && is_led c m n.parts then x else n) (prohibit-plain set destination n)
  answer-plain (Some link) None n = refl
  answer-plain None destination n = refl

  offer-plain : (room : Option Cause) (waiting : Bool) (link from : Option ℕ) (m : Message) (n : Node WholeQueues)
      → offer whole c room waiting link from m n ≡ offer whole none room waiting link from m n
  offer-plain (Some cause) waiting link from m n = refl
  offer-plain None true link from m n = refl
  offer-plain None false None from m n = ap (λ (x : Node WholeQueues). refuse causes.NoRoute x) (sym (answer-plain from (destination_place c (dpc_of m)) n))
  offer-plain None false (Some link) from m n = refl

module _ (c : Configuration) (from : Option ℕ) (m : Message) (n : Node WholeQueues) where
  abbrev offered : (known : Bool) (room : Option Cause) (waiting : Bool) (link : Option ℕ) → Done WholeQueues
  offered known room waiting link = if known then offer whole c room waiting link from m n else refuse causes.UnknownDestination n

  open-share : (full waiting : Bool) (link : Option ℕ) → (offer whole c (if full then Some causes.ShareFull else None) waiting link from m n).outcome ≢ Refused causes.ShareFull
      → offer whole c (if full then Some causes.ShareFull else None) waiting link from m n ≡ offer whole c None waiting link from m n
  open-share true waiting link h = absurd (h refl)
  open-share false waiting link h = refl

  no-share : (known : Bool) (pool : Option Cause) (waiting : Bool) (link : Option ℕ)
      → (offered known (option_or pool (no_room_on whole c link waiting m n.queues)) waiting link).outcome ≢ Refused causes.ShareFull
      → offered known (option_or pool (no_room_on whole c link waiting m n.queues)) waiting link ≡ offered known (option_or pool None) waiting link
  no-share false pool waiting link h = refl
  no-share true (Some cause) waiting link h = refl
  no-share true None waiting None h = refl
  no-share true None waiting (Some link) h = open-share (is_share_full whole c link n.queues && not (waiting || is_management m)) waiting (Some link) h

  room-plain : no_room_for whole (without_shares c) m n ≡ option_or (no_room whole c m n.queues) None
  room-plain = ap (option_or (no_room whole c m n.queues)) (none-full c (link_of (without_shares c) n.parts (flow_of m)) (waits c n.parts.holds m) m n.queues)

  transfer-plain : (transfer whole c from m n).outcome ≢ Refused causes.ShareFull → transfer whole c from m n ≡ transfer whole (without_shares c) from m n
  transfer-plain h =
      let known : Bool = is_destination c (dpc_of m) in
      let waiting : Bool = waits c n.parts.holds m in
      let link : Option ℕ = link_of c n.parts (flow_of m) in
      let pool : Option Cause = no_room whole c m n.queues in
      no-share known pool waiting link h
      ∙ ap (λ (d : Done WholeQueues). if known then d else refuse causes.UnknownDestination n) (offer-plain c (option_or pool None) waiting link from m n)
      ∙ ap (λ (its : Option ℕ). if known then offer whole (without_shares c) (option_or pool None) waiting its from m n else refuse causes.UnknownDestination n) (sym (link-plain c n.parts (flow_of m)))
      ∙ ap (λ (r : Option Cause). if known then offer whole (without_shares c) r waiting (link_of (without_shares c) n.parts (flow_of m)) from m n else refuse causes.UnknownDestination n) (sym room-plain)

pub others-plain : others_know_no_shares
others-plain c from m n h = transfer-plain c from m n h
