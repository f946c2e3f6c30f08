-- Of the lines between two nodes, the near end of one changes.
use Rattle.pair_rules.proofs.Basics.{◌≡◌, ◌≢◌, ◌<◌, ◌≤◌, ℕ, true, false, not, [], ◌∷◌, length, ap, sym, subst, ◌∙◌, slice_set, slice_index_or, ⊎_elim, cases_lt, get_or_past, get_or-set_other, get_or-set_same}
use Rattle.pair_rules.proofs.Definitions.{Configuration, down_link, is_down, is_in_service, Link, Standing, no_changeover, Queue, first_queue, Node, Parts, down, in_service, link_at, WholeQueues, queue_at, with_queue, changeover_of, Fits, LinkEnd}
use Rattle.exchange_rules.proofs.Moves.{serving-there}
use Rattle.pair_rules.proofs.World.{is_heard, end_of}

module _ (c z : Configuration) where
  -- a link in service is one of the settings, and so is one that isn't down
  pub served-listed : (n : Node WholeQueues) (link : ℕ) → Fits c n → in_service n.parts link ≡ true → link < length c.links
  served-listed n link f e = subst (λ (k : ℕ). link < k) f.places.parts.links (serving-there n.parts link e)

  past-down : (p : Parts) (link : ℕ) → length p.links ≤ link → down p link ≡ true
  past-down p link l = ap (λ (x : Link). down (record p { links = x ∷ [] }) 0) (get_or_past p.links link down_link l)

  pub up-listed : (n : Node WholeQueues) (link : ℕ) → Fits c n → down n.parts link ≡ false → link < length c.links
  up-listed n link f e =
      ⊎_elim (λ (l : link < length c.links). l)
      (λ (l : length c.links ≤ link).
      let gone : down n.parts link ≡ true = past-down n.parts link (subst (λ (k : ℕ). k ≤ link) (sym f.places.parts.links) l) in
      absurd cc)
      (cases_lt link (length c.links))

  -- ---- one queue changes

  pub queue-here : (n : Node WholeQueues) (link : ℕ) (q : Queue) → Fits c n → link < length c.links → queue_at (with_queue n.queues link q) link ≡ q
  queue-here n link q f l = get_or-set_same n.queues.links link q first_queue (subst (λ (k : ℕ). link < k) (sym f.places.queues) l)

  pub queue-other : (qs : WholeQueues) (link other : ℕ) (q : Queue) → other ≢ link → queue_at (with_queue qs link q) other ≡ queue_at qs other
  queue-other qs link other q d = get_or-set_other qs.links link other q first_queue d

  -- ---- an end by its queue, its link and its changeover

  abbrev pub end_by : Queue → Link → Standing → LinkEnd
  end_by q l s = record {
    queue = q;
    up = not (is_down l.alignment);
    serving = is_in_service l.alignment;
    incomplete = s.incomplete;
    awaited = s.awaited;
    heard = is_heard l.alignment;
  }

  -- that of one link, where another link changed
  pub end-by : (n o : Node WholeQueues) (link : ℕ) (q : Queue) (l : Link) (s : Standing) → queue_at o.queues link ≡ q → link_at o.parts link ≡ l → changeover_of o.parts link ≡ s
      → end_of o link ≡ end_by q l s
  end-by n o link q l s e f g =
      ap (λ (x : Queue). end_by x (link_at o.parts link) (changeover_of o.parts link)) e
      ∙ ap (λ (x : Link). end_by q x (changeover_of o.parts link)) f
      ∙ ap (λ (x : Standing). end_by q l x) g

  pub link-here : (p : Parts) (link : ℕ) (l : Link) → link < length p.links → slice_index_or (slice_set p.links link l) link down_link ≡ l
  link-here p link l h = get_or-set_same p.links link l down_link h

  pub link-other : (p : Parts) (link other : ℕ) (l : Link) → other ≢ link → slice_index_or (slice_set p.links link l) other down_link ≡ link_at p other
  link-other p link other l d = get_or-set_other p.links link other l down_link d

  pub standing-here : (p : Parts) (link : ℕ) (s : Standing) → link < length p.changeovers → slice_index_or (slice_set p.changeovers link s) link no_changeover ≡ s
  standing-here p link s h = get_or-set_same p.changeovers link s no_changeover h

  pub standing-other : (p : Parts) (link other : ℕ) (s : Standing) → other ≢ link → slice_index_or (slice_set p.changeovers link s) other no_changeover ≡ changeover_of p other
  standing-other p link other s d = get_or-set_other p.changeovers link other s no_changeover d
