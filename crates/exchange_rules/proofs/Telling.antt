-- Adjacent points are told what they are owed, one destination after the other and one set after the other.
use Rattle.exchange_rules.proofs.Basics.{◌≡◌, ◌≢◌, ℕ, Bool, true, false, ◌||◌, not, List, [], ◌∷◌, Option, Some, None, refl, ap, sym, ◌∙◌, if◌then◌else◌}
use Rattle.exchange_rules.proofs.Definitions.{Cause, Message, flow_of, Configuration, Facts, ToldTable, row_of, with_told, Owed, owed, all_told, owes_nothing, QueueKind, Parts, Node, facts, link_of, no_room, send, may_tell, tell, tell_if, tell_each, tell_owed, is_all_told, route_message, told_parts}
use Rattle.route_management.proofs.Walking.{row_kept, AreTo}
use Rattle.route_management.proofs.Settled.{none_from_owes_nothing, all_told_owes_nothing}

-- ---- what a message that is told leaves

-- links, routes and what was told are those of other parts
pub record KeepsRoutes (p o : Parts) : Type 0 where
  pub facts : (c : Configuration) → facts c p ≡ facts c o
  pub told : p.told ≡ o.told

module _ {Q : Type 0} (q : QueueKind Q) (c : Configuration) where
  pub send-routes : (room : Option Cause) (link : Option ℕ) (m : Message) (n : Node Q) → KeepsRoutes (send q c room link m n).parts n.parts
  send-routes (Some cause) link m n = record { facts = λ c. refl; told = refl }
  send-routes None None m n = record { facts = λ c. refl; told = refl }
  send-routes None (Some l) m n = record { facts = λ c. refl; told = refl }

  tell-routes : (o : Owed) (n : Node Q) → KeepsRoutes (tell q c o n).parts (told_parts c o n.parts)
  tell-routes o n =
      let m : Message = route_message c o.set o.destination o.status in
      let next : Node Q = record { queues = n.queues; parts = told_parts c o n.parts } in
      send-routes (no_room q c m n.queues) (link_of c next.parts (flow_of m)) m next

  pub tell-facts : (o : Owed) (n : Node Q) → facts c (tell q c o n).parts ≡ facts c n.parts
  tell-facts o n = (tell-routes o n).facts c

  pub tell-told : (o : Owed) (n : Node Q) → (tell q c o n).parts.told ≡ with_told o.set o.destination o.status n.parts.told
  tell-told o n = (tell-routes o n).told

  either-facts : (b : Bool) (o : Owed) (n : Node Q) → facts c (if b then tell q c o n else n).parts ≡ facts c n.parts
  either-facts true o n = tell-facts o n
  either-facts false o n = refl

  pub tell_each-facts : (os : List Owed) (n : Node Q) → facts c (tell_each q c os n).parts ≡ facts c n.parts
  tell_each-facts [] n = refl
  tell_each-facts (o ∷ os) n = tell_each-facts os (tell_if q c o n) ∙ either-facts (may_tell q c n) o n

  either-row : (b : Bool) (o : Owed) (other : ℕ) (n : Node Q) → o.set ≢ other → row_of (if b then tell q c o n else n).parts.told other ≡ row_of n.parts.told other
  either-row true o other n apart = ap (λ (t : ToldTable). row_of t other) (tell-told o n) ∙ row_kept o.set other o.destination o.status n.parts.told apart
  either-row false o other n apart = refl

  pub tell_each-row : (set other : ℕ) (os : List Owed) (n : Node Q) → AreTo set os → set ≢ other → row_of (tell_each q c os n).parts.told other ≡ row_of n.parts.told other
  tell_each-row set other [] n to apart = refl
  tell_each-row set other (o ∷ os) n to apart =
      tell_each-row set other os (tell_if q c o n) to.1 apart ∙ either-row (may_tell q c n) o other n (λ e. apart (sym to.0 ∙ e))

  either-adjacents : (b : Bool) (o : Owed) (n : Node Q) → (if b then tell q c o n else n).parts.told.adjacents ≡ n.parts.told.adjacents
  either-adjacents true o n = ap (λ (t : ToldTable). t.adjacents) (tell-told o n)
  either-adjacents false o n = refl

  pub tell_each-adjacents : (os : List Owed) (n : Node Q) → (tell_each q c os n).parts.told.adjacents ≡ n.parts.told.adjacents
  tell_each-adjacents [] n = refl
  tell_each-adjacents (o ∷ os) n = tell_each-adjacents os (tell_if q c o n) ∙ either-adjacents (may_tell q c n) o n

  -- ---- room

  -- where there is none, nothing is told
  pub none_told : (os : List Owed) (n : Node Q) → may_tell q c n ≡ false → tell_each q c os n ≡ n
  none_told [] n full = refl
  none_told (o ∷ os) n full =
      ap (λ (b : Bool). tell_each q c os (if b then tell q c o n else n)) full ∙ none_told os n full

  full-then : (b : Bool) (os : List Owed) (o : Owed) (n : Node Q) → may_tell q c n ≡ b → may_tell q c (tell_each q c os (if b then tell q c o n else n)) ≡ true → b ≡ true
  full-then true os o n e room = refl
  full-then false os o n e room = sym e ∙ sym (ap (may_tell q c) (none_told os n e)) ∙ room

  -- where there is some in the end, all was told
  pub all_were_told : (os : List Owed) (n : Node Q) → may_tell q c (tell_each q c os n) ≡ true → (tell_each q c os n).parts.told ≡ all_told os n.parts.told
  all_were_told [] n room = refl
  all_were_told (o ∷ os) n room =
      let had : may_tell q c n ≡ true = full-then (may_tell q c n) os o n refl room in
      all_were_told os (tell_if q c o n) room
      ∙ ap (λ (b : Bool). all_told os (if b then tell q c o n else n).parts.told) had
      ∙ ap (all_told os) (tell-told o n)

  -- so in the end nothing is owed that finds room
  settled-by : (b : Bool) (n : Node Q) → may_tell q c (tell_each q c (owed (facts c n.parts) n.parts.told) n) ≡ b
      → (not b || owes_nothing (facts c (tell_each q c (owed (facts c n.parts) n.parts.told) n).parts) (tell_each q c (owed (facts c n.parts) n.parts.told) n).parts.told) ≡ true
  settled-by true n room =
      let os : List Owed = owed (facts c n.parts) n.parts.told in
      ap (λ (f : Facts). owes_nothing f (tell_each q c os n).parts.told) (tell_each-facts os n)
      ∙ ap (owes_nothing (facts c n.parts)) (all_were_told os n room)
      ∙ all_told_owes_nothing (facts c n.parts) n.parts.told
  settled-by false n room = refl

  pub all_is_told : (n : Node Q) → is_all_told q c (tell_owed q c n) ≡ true
  unfolding tell_owed
  all_is_told n =
      let next : Node Q = tell_each q c (owed (facts c n.parts) n.parts.told) n in
      settled-by (may_tell q c next) n refl

  -- ---- nothing to tell

  pub nothing_told : (n : Node Q) → owes_nothing (facts c n.parts) n.parts.told ≡ true → tell_owed q c n ≡ n
  unfolding tell_owed
  nothing_told n e = ap (λ (os : List Owed). tell_each q c os n) (none_from_owes_nothing (facts c n.parts) n.parts.told e)

  pub no_room_told : (n : Node Q) → may_tell q c n ≡ false → tell_owed q c n ≡ n
  unfolding tell_owed
  no_room_told n full = none_told (owed (facts c n.parts) n.parts.told) n full

  all-told-by : (b : Bool) (n : Node Q) → may_tell q c n ≡ b → (not b || owes_nothing (facts c n.parts) n.parts.told) ≡ true → tell_owed q c n ≡ n
  all-told-by true n room e = nothing_told n e
  all-told-by false n room e = no_room_told n room

  pub told_already : (n : Node Q) → is_all_told q c n ≡ true → tell_owed q c n ≡ n
  told_already n e = all-told-by (may_tell q c n) n refl e
