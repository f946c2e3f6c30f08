-- A node of a network of `network_rules`, and one of `node_moves` that is alike, with what both keep.
use Rattle.std.proofs.Common.{◌≡◌, ◌≢◌, ◌<◌, ℕ, Bool, false, List, [], ◌∷◌, ◌++◌, length, map, Option, Some, None, nat_eq, refl, ap, sym, subst, ◌∙◌, append-nil}
use Rattle.std.proofs.Math.Logic.{⊎_elim}
use Rattle.std.proofs.lemmas.Bool.{cases_eq, ne_eqb, eq-eqb}
use Rattle.std.proofs.lemmas.List.{map-append}
use Rattle.std.proofs.lemmas.List.Elements.{filter-append}
use Rattle.std.specs.Prelude.{filter, if◌then◌else◌, slice_index_or}
use Rattle.std.specs.Option.{option_to_list}
use Rattle.signalling_types.specs.Message.{Message}
use Rattle.signalling_types.specs.declared.outcome.Outcome.{Outcome}
use Rattle.settings.specs.Configuration.{Configuration}
unfoldable use Rattle.exchange_rules.specs.Exchange.{apply}
use Rattle.exchange_rules.specs.Conserving.{brought_in}
use Rattle.exchange_rules.specs.Exchange.{after, taken}
use Rattle.exchange_rules.specs.First.{Abstract}
use Rattle.exchange_rules.specs.Lasting.{HasAllPlaces}
use Rattle.exchange_rules.specs.Queues.{WholeQueues, whole}
use Rattle.exchange_rules.specs.Receiving.{new_message}
use Rattle.exchange_rules.specs.Reroutings.{first_reroutings}
use Rattle.exchange_rules.specs.Sending.{after_take}
use Rattle.exchange_rules.specs.State.{Happening, CameUp, WentDown, FrameCame, Ticked, Submitted, Activated, Deactivated, Released, TitleAdded, TitleSet, TitleRemoved, Happens, Takes, Node}
use Rattle.exchange_rules.proofs.LastingPlaces.{places-stay}
use Rattle.node_moves.specs.Networks as nodes
use Rattle.node_moves.specs.Networks.{Fate, messages_of, updated}
use Rattle.pair_rules.specs.Pairs.{Streams, in_flight}
use Rattle.network_rules.specs.Networks.{Arrival, NetworkNode}
use Rattle.node_law.specs.Alike.{came_by}
use Rattle.node_moves.proofs.Flights.{updated-here, updated-other}
use Rattle.node_law.proofs.Streams.{AreSilent}

-- the exchanges
pub record IsSameExchange (c : Configuration) (a : Abstract) (n : Node WholeQueues) : Type 0 where
  pub settings : a.settings ≡ c
  pub places : HasAllPlaces c a.node
  pub node : a.node ≡ n

-- what is in flight, and which links may follow
pub record IsSameFlight (links : ℕ) (s : Streams) (following : List Bool) (to_status to_data : ℕ → List (List ℕ)) (may : ℕ → Bool) : Type 0 where
  pub status_links : length s.statuses ≡ links
  pub data_links : length s.user_data ≡ links
  pub following_links : length following ≡ links
  pub statuses : (link : ℕ) → in_flight s.statuses link ≡ to_status link
  pub user_data : (link : ℕ) → in_flight s.user_data link ≡ to_data link
  pub follows : (link : ℕ) → slice_index_or following link false ≡ may link
  pub silent : (link : ℕ) → AreSilent (to_status link)

-- each came by a link that is there
abbrev pub AreWithin : (links : ℕ) → List Arrival → Type 0
AreWithin links [] = Unit {0}
AreWithin links (a ∷ arrived) = (a.link < links) × AreWithin links arrived

-- what is booked
pub record AreSameBooks (links : ℕ) (accepted : List Message) (arrived : List Arrival) (took : List Message) (came_with : ℕ → List Fate) : Type 0 where
  pub taken : accepted ≡ took
  pub came : (link : ℕ) → came_by link arrived ≡ messages_of (came_with link)
  pub within : AreWithin links arrived

pub record IsSame (c : Configuration) (x : NetworkNode) (y : nodes.NetworkNode) : Type 0 where
  pub exchange : IsSameExchange c x.exchange y.node
  pub flight : IsSameFlight (length c.links) x.incoming x.following y.statuses y.user_data y.follows
  pub books : AreSameBooks (length c.links) x.accepted x.arrived y.accepted y.came

-- ---- what an exchange does

-- the state that both read
abbrev pub state_at : Configuration → Node WholeQueues → Abstract
state_at c n = record { settings = c; node = n; reroutings = first_reroutings c }

module _ (c : Configuration) (a : Abstract) (n : Node WholeQueues) (h : IsSameExchange c a n) where
  -- what reads settings and node alone is the same of both
  pub same-of : {A : Type 0} (f : Configuration → Node WholeQueues → A) → f a.settings a.node ≡ f c n
  same-of {A} f = ap (λ (d : Configuration). f d a.node) h.settings ∙ ap (f c) h.node

  brought-anew : (what : Happening) → brought_in what a ≡ brought_in what (state_at a.settings a.node)
  brought-anew (CameUp link) = refl
  brought-anew (WentDown link) = refl
  brought-anew (FrameCame link text) = refl
  brought-anew Ticked = refl
  brought-anew (Submitted message) = refl
  brought-anew (Activated link emergency) = refl
  brought-anew (Deactivated link) = refl
  brought-anew (Released link) = refl
  brought-anew (TitleAdded row is_memory_refused) = refl
  brought-anew (TitleSet row is_memory_refused) = refl
  brought-anew (TitleRemoved key digits) = refl

  pub same-brought : (what : Happening) → brought_in what a ≡ brought_in what (state_at c n)
  same-brought what = brought-anew what ∙ same-of (λ d m. brought_in what (state_at d m))

  pub same-new : (link : ℕ) (text : List ℕ) → new_message link text a ≡ new_message link text (state_at c n)
  same-new link text = same-of (λ d m. new_message link text (state_at d m))

  -- after an event, and after a take
  pub same-after : (what : Happening) → IsSameExchange c (after whole what a) (apply whole c what n).left
  same-after what = record {
    settings = h.settings;
    places = subst (λ (d : Configuration). HasAllPlaces d (after whole what a).node) h.settings
        (places-stay (Happens what ∷ []) a (subst (λ (d : Configuration). HasAllPlaces d a.node) (sym h.settings) h.places));
    node = same-of (λ d m. (apply whole d what m).left);
  }

  pub same-taken : (link : ℕ) → IsSameExchange c (taken whole a link) (after_take whole c link n)
  same-taken link = record {
    settings = h.settings;
    places = subst (λ (d : Configuration). HasAllPlaces d (taken whole a link).node) h.settings
        (places-stay (Takes link ∷ []) a (subst (λ (d : Configuration). HasAllPlaces d a.node) (sym h.settings) h.places));
    node = same-of (λ d m. after_take whole d link m);
  }

-- ---- what came

abbrev arrivals : (link : ℕ) → Option Message → List Arrival
arrivals link o = map (λ m. record { link = link; message = m }) (option_to_list o)

abbrev fated : Outcome → Option Message → List Fate
fated outcome o = map (λ m. record { message = m; outcome = outcome }) (option_to_list o)

came-one : (link : ℕ) (o : Option Message) → came_by link (arrivals link o) ≡ option_to_list o
came-one link None = refl
came-one link (Some m) = ap (λ (b : Bool). map (λ (a : Arrival). a.message) (if b then record { link = link; message = m } ∷ [] else [])) (eq-eqb link link refl)

came-none : (link other : ℕ) (o : Option Message) → other ≢ link → came_by other (arrivals link o) ≡ []
came-none link other None d = refl
came-none link other (Some m) d = ap (λ (b : Bool). map (λ (a : Arrival). a.message) (if b then record { link = link; message = m } ∷ [] else [])) (ne_eqb link other (λ same. d (sym same)))

fated-one : (outcome : Outcome) (o : Option Message) → messages_of (fated outcome o) ≡ option_to_list o
fated-one outcome None = refl
fated-one outcome (Some m) = refl

came-both : (link : ℕ) (xs ys : List Arrival) → came_by link (xs ++ ys) ≡ came_by link xs ++ came_by link ys
came-both link xs ys =
    ap (map (λ (a : Arrival). a.message)) (filter-append (λ a. nat_eq a.link link) xs ys)
    ∙ map-append (λ (a : Arrival). a.message) (filter (λ a. nat_eq a.link link) xs) (filter (λ a. nat_eq a.link link) ys)

pub came-more : (arrived : List Arrival) (came : ℕ → List Fate) (link : ℕ) (o : Option Message) (outcome : Outcome) → ((j : ℕ) → came_by j arrived ≡ messages_of (came j)) → (j : ℕ)
    → came_by j (arrived ++ arrivals link o) ≡ messages_of (updated came link (came link ++ fated outcome o) j)
came-more arrived came link o outcome same j =
    ⊎_elim
    (λ (here : j ≡ link).
    subst (λ (i : ℕ). came_by i (arrived ++ arrivals link o) ≡ messages_of (updated came link (came link ++ fated outcome o) i)) (sym here)
    (came-both link arrived (arrivals link o) ∙ ap (λ (ms : List Message). ms ++ came_by link (arrivals link o)) (same link)
    ∙ ap (λ (ms : List Message). messages_of (came link) ++ ms) (came-one link o ∙ sym (fated-one outcome o))
    ∙ sym (map-append (λ (f : Fate). f.message) (came link) (fated outcome o)) ∙ ap messages_of (sym (updated-here came link (came link ++ fated outcome o)))))
    (λ (away : j ≢ link).
    came-both j arrived (arrivals link o) ∙ ap (λ (ms : List Message). came_by j arrived ++ ms) (came-none link j o away) ∙ append-nil (came_by j arrived) ∙ same j
    ∙ ap messages_of (sym (updated-other came link (came link ++ fated outcome o) j away)))
    (cases_eq j link)

pub within-more : (links : ℕ) (arrived : List Arrival) (link : ℕ) (o : Option Message) → link < links → AreWithin links arrived → AreWithin links (arrived ++ arrivals link o)
within-more links [] link None less h = tt
within-more links [] link (Some m) less h = (less, tt)
within-more links (a ∷ arrived) link o less h = (h.0, within-more links arrived link o less h.1)
