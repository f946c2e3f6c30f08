-- User Data on a link in service changes nothing before its numbers are looked at.
use Rattle.link.specs.declared.period.Period.{Period}
use Rattle.link.specs.declared.period.Period.TheVariants.{Fixed, Normal, Hurried, Emergency}
use Rattle.link.specs.declared.action.Action.TheVariants.{Go}
use Rattle.link.specs.Table.{period_after, staying}
use Rattle.exchange.proofs.Basics.{◌≡◌, ◌∙◌, ℕ, true, refl, ap, append-nil, set-get_or, Configuration, UserData, Transition, Alignment, Down, NotAligned, Aligned, Proving, AlignedReady, InService, action_at, Link, down_link, is_in_service, stepped, QueueKind, Parts, Node, link_at, in_service, links_with, advance, Carrying, act_by_data, receive_data, handle}

-- the step of a link in service about User Data
abbrev staying_in_service : Period → Transition
staying_in_service period = record (staying InService period) { serve = true }

same_period : (period : Period) → period_after period UserData ≡ period
same_period Fixed = refl
same_period Normal = refl
same_period Hurried = refl
same_period Emergency = refl

same_link : (l : Link) → l.alignment ≡ InService → stepped (staying_in_service l.period) l ≡ l
same_link l e = rw (append-nil l.waiting, ← e) refl

same_links : (p : Parts) (link : ℕ) → (link_at p link).alignment ≡ InService
    → links_with p link (stepped (staying_in_service (link_at p link).period) (link_at p link)) ≡ p.links
same_links p link e = rw (same_link (link_at p link) e) (set-get_or p.links link down_link)

module _ {Q : Type 0} (q : QueueKind Q) (c : Configuration) where
  same_node : (link : ℕ) (node : Node Q) → (link_at node.parts link).alignment ≡ InService
      → advance q c link (staying_in_service (link_at node.parts link).period) node ≡ node
  same_node link node e =
      rw e (ap (λ links. record node { parts = record node.parts { links = links } }) (same_links node.parts link e))

  by_alignment : (a : Alignment) (link : ℕ) (d : Carrying) (node : Node Q) → (link_at node.parts link).alignment ≡ a → is_in_service a ≡ true
      → act_by_data q c (action_at (link_at node.parts link).period a UserData) link d node ≡ handle q c link d node
  by_alignment InService link d node e serves =
      ap (λ (period : Period). act_by_data q c (Go (staying_in_service period)) link d node) (same_period (link_at node.parts link).period)
      ∙ ap (handle q c link d) (same_node link node e)
  by_alignment Down link d node e serves = absurd cc
  by_alignment NotAligned link d node e serves = absurd cc
  by_alignment Aligned link d node e serves = absurd cc
  by_alignment (Proving ready) link d node e serves = absurd cc
  by_alignment AlignedReady link d node e serves = absurd cc

  pub taken_in_service : (link : ℕ) (d : Carrying) (node : Node Q) → in_service node.parts link ≡ true
      → receive_data q c link d node ≡ handle q c link d node
  taken_in_service link d node serves = by_alignment (link_at node.parts link).alignment link d node refl serves
