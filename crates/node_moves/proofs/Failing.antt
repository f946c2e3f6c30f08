-- The rules by which a link fails go by moves.
use Rattle.node_moves.proofs.Basics.{◌≡◌, ℕ, Bool, true, false, ◌||◌, ◌<◌, List, length, refl, ap, sym, subst, ◌∙◌, if◌then◌else◌, get_or-set_same, get_or-set_other, length-set, slice_index_or}
use Rattle.node_moves.proofs.Machine.{is_user_message, Shape}
use Rattle.node_moves.proofs.Definitions.{Message, flow_of, Configuration, IsWell, Node, WholeQueues, Parts, whole, with_parts, queue_at, link_at, links_with, in_service, down, changeover_of, set_of, link_of, no_room, last_accepted, Standing, no_changeover, Link, down_link}
use Rattle.node_moves.proofs.Reading.{IsShape}
use Rattle.node_moves.proofs.Shown.{IsSized, IsSilent, Marks, marks_of}
use Rattle.exchange_rules.proofs.Lists.{each-set}
use Rattle.node_moves.proofs.Going.{goes-both}
use Rattle.node_moves.proofs.Own.{K, stays, sends-loose}
use Rattle.node_moves.proofs.Failures.{IsAlikeBut, falls, orders, order-says, number-fits, up-listed}
use Rattle.exchange_rules.specs.ChangingOver.{suspended, has_other, is_ordered, changeover_order, fail_link, changing, make_unavailable, begin, change_over, fail, begin_by_peer, fail_by_peer, fail_by_order}
use Rattle.exchange_rules.specs.Opening.{fail_if_up}
use Rattle.exchange_rules.specs.Rerouting.{without_tests}
use Rattle.changeover.specs.Changeover.{failed, begun_by_peer, with_standing}
use Rattle.node_links.specs.NodeLinks.{after_failure, link_in}
use Rattle.signalling_types.specs.declared.notice.FailureReason.{FailureReason}
use Rattle.signalling_types.specs.declared.notice.FailureReason.TheVariants as reasons

-- ---- parts of which links, changeovers and counts are given

pub record HasParts (n m : Node WholeQueues) (its : List Link) (standings : List Standing) : Type 0 where
  pub queues : m.queues ≡ n.queues
  pub links : m.parts.links ≡ its
  pub changeovers : m.parts.changeovers ≡ standings
  pub lost : m.parts.messages_lost ≡ n.parts.messages_lost
  pub marks : marks_of m.parts ≡ marks_of n.parts

-- one link changed, and its changeover
module _ (c : Configuration) (n m : Node WholeQueues) (link : ℕ) (x : Link) (s : Standing) (quiet : IsSilent (link_at n.parts link) → IsSilent x)
    (h : HasParts n m (links_with n.parts link x) (with_standing n.parts.changeovers link s)) where
  pub parts-but : IsAlikeBut c n m link
  parts-but = record {
    held = ap (λ (q : WholeQueues). q.held) h.queues;
    others = λ other d. record {
      queue = ap (λ (q : WholeQueues). queue_at q other) h.queues;
      alignment = ap (λ (xs : List Link). (link_in xs other).alignment) h.links ∙ ap (λ (y : Link). y.alignment) (get_or-set_other n.parts.links link other x down_link d);
      standing = ap (λ (xs : List Standing). slice_index_or xs other no_changeover) h.changeovers ∙ get_or-set_other n.parts.changeovers link other s no_changeover d;
    };
    sized = λ z. record {
      links = ap (λ (xs : List Link). length xs) h.links ∙ length-set n.parts.links link x ∙ z.links;
      queues = ap (λ (q : WholeQueues). length q.links) h.queues ∙ z.queues;
      changeovers = ap (λ (xs : List Standing). length xs) h.changeovers ∙ length-set n.parts.changeovers link s ∙ z.changeovers;
      silent = λ other. subst (λ (xs : List Link). IsSilent (link_in xs other)) (sym h.links) (each-set IsSilent n.parts.links link other x down_link z.silent (quiet (z.silent link)));
      ways = ap (λ (k : Marks). k.ways) h.marks ∙ z.ways;
    };
    lost = h.lost;
    marks = h.marks;
  }

  pub parts-link : IsSized c n → link < length c.links → link_at m.parts link ≡ x
  parts-link z l = ap (λ (xs : List Link). link_in xs link) h.links ∙ get_or-set_same n.parts.links link x down_link (subst (λ (k : ℕ). link < k) (sym z.links) l)

  pub parts-standing : IsSized c n → link < length c.links → changeover_of m.parts link ≡ s
  parts-standing z l =
      ap (λ (xs : List Standing). slice_index_or xs link no_changeover) h.changeovers ∙ get_or-set_same n.parts.changeovers link s no_changeover (subst (λ (k : ℕ). link < k) (sym z.changeovers) l)

-- the changeover alone
module _ (c : Configuration) (n m : Node WholeQueues) (link : ℕ) (s : Standing) (h : HasParts n m n.parts.links (with_standing n.parts.changeovers link s)) where
  pub standing-but : IsAlikeBut c n m link
  standing-but = record {
    held = ap (λ (q : WholeQueues). q.held) h.queues;
    others = λ other d. record {
      queue = ap (λ (q : WholeQueues). queue_at q other) h.queues;
      alignment = ap (λ (xs : List Link). (link_in xs other).alignment) h.links;
      standing = ap (λ (xs : List Standing). slice_index_or xs other no_changeover) h.changeovers ∙ get_or-set_other n.parts.changeovers link other s no_changeover d;
    };
    sized = λ z. record {
      links = ap (λ (xs : List Link). length xs) h.links ∙ z.links;
      queues = ap (λ (q : WholeQueues). length q.links) h.queues ∙ z.queues;
      changeovers = ap (λ (xs : List Standing). length xs) h.changeovers ∙ length-set n.parts.changeovers link s ∙ z.changeovers;
      silent = λ other. subst (λ (xs : List Link). IsSilent (link_in xs other)) (sym h.links) (z.silent other);
      ways = ap (λ (k : Marks). k.ways) h.marks ∙ z.ways;
    };
    lost = h.lost;
    marks = h.marks;
  }

  pub standing-is : IsSized c n → link < length c.links → changeover_of m.parts link ≡ s
  standing-is z l =
      ap (λ (xs : List Standing). slice_index_or xs link no_changeover) h.changeovers ∙ get_or-set_same n.parts.changeovers link s no_changeover (subst (λ (k : ℕ). link < k) (sym z.changeovers) l)

-- the link alone
module _ (c : Configuration) (n m : Node WholeQueues) (link : ℕ) (x : Link) (quiet : IsSilent (link_at n.parts link) → IsSilent x) (h : HasParts n m (links_with n.parts link x) n.parts.changeovers) where
  pub link-but : IsAlikeBut c n m link
  link-but = record {
    held = ap (λ (q : WholeQueues). q.held) h.queues;
    others = λ other d. record {
      queue = ap (λ (q : WholeQueues). queue_at q other) h.queues;
      alignment = ap (λ (xs : List Link). (link_in xs other).alignment) h.links ∙ ap (λ (y : Link). y.alignment) (get_or-set_other n.parts.links link other x down_link d);
      standing = ap (λ (xs : List Standing). slice_index_or xs other no_changeover) h.changeovers;
    };
    sized = λ z. record {
      links = ap (λ (xs : List Link). length xs) h.links ∙ length-set n.parts.links link x ∙ z.links;
      queues = ap (λ (q : WholeQueues). length q.links) h.queues ∙ z.queues;
      changeovers = ap (λ (xs : List Standing). length xs) h.changeovers ∙ z.changeovers;
      silent = λ other. subst (λ (xs : List Link). IsSilent (link_in xs other)) (sym h.links) (each-set IsSilent n.parts.links link other x down_link z.silent (quiet (z.silent link)));
      ways = ap (λ (k : Marks). k.ways) h.marks ∙ z.ways;
    };
    lost = h.lost;
    marks = h.marks;
  }

  pub link-is : IsSized c n → link < length c.links → link_at m.parts link ≡ x
  link-is z l = ap (λ (xs : List Link). link_in xs link) h.links ∙ get_or-set_same n.parts.links link x down_link (subst (λ (k : ℕ). link < k) (sym z.links) l)

-- ---- a link goes down

-- what is left of tests of routes shows nowhere
gone-by : (n : Node WholeQueues) (link : ℕ) (b : Bool) (set : ℕ) (p : Parts) → p.links ≡ links_with n.parts link (after_failure (link_at n.parts link)) → p.changeovers ≡ n.parts.changeovers
    → p.messages_lost ≡ n.parts.messages_lost → marks_of p ≡ marks_of n.parts
    → HasParts n (with_parts n (if b then p else without_tests set p)) (links_with n.parts link (after_failure (link_at n.parts link))) n.parts.changeovers
gone-by n link true set p e f g h = record { queues = refl; links = e; changeovers = f; lost = g; marks = h }
gone-by n link false set p e f g h = record { queues = refl; links = e; changeovers = f; lost = g; marks = h }

module _ (shape : Shape) (o : IsShape shape) (c : Configuration) (well : IsWell c) (link : ℕ) (n : Node WholeQueues) where
  abbrev fallen : Link
  fallen = after_failure (link_at n.parts link)

  fallen-silent : IsSilent (link_at n.parts link) → IsSilent fallen
  fallen-silent h = record { waiting = λ gone. refl; owed = λ gone. refl }

  pub gone-parts : (why : FailureReason) → HasParts n (make_unavailable whole c true link why n) (links_with n.parts link fallen) n.parts.changeovers
  gone-parts why =
      let p : Parts = fail_link link why (suspended c link (whole.unconfirmed n.queues link) n.parts) in
      gone-by n link (has_other c link p) (set_of c link) p refl refl refl refl

  -- in service, so that a changeover begins
  falls-serving : (m : Node WholeQueues) (s : Standing) → HasParts n m (links_with n.parts link fallen) (with_standing n.parts.changeovers link s) → in_service n.parts link ≡ true → down n.parts link ≡ false
      → s.incomplete ≡ true → ((changeover_of n.parts link).awaited ≡ false → s.awaited ≡ false) → K shape o c well n m
  falls-serving m s h serves up begins waits =
      falls shape o c well n m link up (parts-but c n m link fallen s fallen-silent h)
      (λ z l. record {
        queue = ap (λ (q : WholeQueues). queue_at q link) h.queues;
        alignment = ap (λ (x : Link). x.alignment) (parts-link c n m link fallen s fallen-silent h z l);
        incomplete = ap (λ (t : Standing). t.incomplete) (parts-standing c n m link fallen s fallen-silent h z l) ∙ begins ∙ sym (ap (λ (b : Bool). b || (changeover_of n.parts link).incomplete) serves);
        awaited = λ e. ap (λ (t : Standing). t.awaited) (parts-standing c n m link fallen s fallen-silent h z l) ∙ waits e;
      })

  -- not in service yet
  falls-early : (m : Node WholeQueues) → HasParts n m (links_with n.parts link fallen) n.parts.changeovers → in_service n.parts link ≡ false → down n.parts link ≡ false → K shape o c well n m
  falls-early m h unserved up =
      falls shape o c well n m link up (link-but c n m link fallen fallen-silent h)
      (λ z l. record {
        queue = ap (λ (q : WholeQueues). queue_at q link) h.queues;
        alignment = ap (λ (x : Link). x.alignment) (link-is c n m link fallen fallen-silent h z l);
        incomplete = ap (λ (xs : List Standing). (slice_index_or xs link no_changeover).incomplete) h.changeovers ∙ sym (ap (λ (b : Bool). b || (changeover_of n.parts link).incomplete) unserved);
        awaited = λ e. ap (λ (xs : List Standing). (slice_index_or xs link no_changeover).awaited) h.changeovers ∙ e;
      })

  -- ---- and its changeover begins

  -- a node with one more changeover
  begun-parts : (gone : Node WholeQueues) (s : Standing) (p : Parts) → HasParts n gone (links_with n.parts link fallen) n.parts.changeovers → p.links ≡ gone.parts.links
      → p.changeovers ≡ with_standing gone.parts.changeovers link s → p.messages_lost ≡ gone.parts.messages_lost → marks_of p ≡ marks_of gone.parts
      → HasParts n (with_parts gone p) (links_with n.parts link fallen) (with_standing n.parts.changeovers link s)
  begun-parts gone s p h links changeovers lost marks = record {
    queues = h.queues;
    links = links ∙ h.links;
    changeovers = changeovers ∙ ap (λ (xs : List Standing). with_standing xs link s) h.changeovers;
    lost = lost ∙ h.lost;
    marks = marks ∙ h.marks;
  }

  begin-goes : (ordered : Bool) (gone : Node WholeQueues) → HasParts n gone (links_with n.parts link fallen) n.parts.changeovers → in_service n.parts link ≡ true → down n.parts link ≡ false
      → K shape o c well n (begin whole c ordered link gone)
  begin-goes false gone h serves up =
      falls-serving (with_parts gone (changing c false link gone.parts)) (failed false (changeover_of gone.parts link)) (begun-parts gone _ _ h refl refl refl refl) serves up refl (λ e. refl)
  begin-goes true gone h serves up =
      let one : Node WholeQueues = with_parts gone (changing c false link gone.parts) in
      let two : Node WholeQueues = with_parts gone (changing c true link gone.parts) in
      let order : Message = changeover_order c link (last_accepted (queue_at gone.queues link)) in
      let first : HasParts n one (links_with n.parts link fallen) (with_standing n.parts.changeovers link (failed false (changeover_of gone.parts link))) = begun-parts gone _ _ h refl refl refl refl in
      let second : HasParts n two (links_with n.parts link fallen) (with_standing n.parts.changeovers link (failed true (changeover_of gone.parts link))) = begun-parts gone _ _ h refl refl refl refl in
      record {
        each = λ a l k.
            goes-both shape c _ _ _ ((falls-serving one (failed false (changeover_of gone.parts link)) first serves up refl (λ e. refl)).each a l k)
            (goes-both shape c _ _ _ (orders shape o c well one two link a l k
            (record {
              held = refl;
              others = λ other d. record {
                queue = refl;
                alignment = refl;
                standing = get_or-set_other gone.parts.changeovers link other (failed true (changeover_of gone.parts link)) no_changeover d
                    ∙ sym (get_or-set_other gone.parts.changeovers link other (failed false (changeover_of gone.parts link)) no_changeover d);
              };
              sized = λ z. record {
                links = z.links;
                queues = z.queues;
                changeovers = length-set gone.parts.changeovers link (failed true (changeover_of gone.parts link)) ∙ sym (length-set gone.parts.changeovers link (failed false (changeover_of gone.parts link))) ∙ z.changeovers;
                silent = z.silent;
                ways = z.ways;
              };
              lost = refl;
              marks = refl;
            })
            (λ z. up-there gone h up z)
            (λ z inside.
            let there : link < length gone.parts.changeovers = subst (λ (i : ℕ). link < i) (sym (sym (length-set gone.parts.changeovers link (failed false (changeover_of gone.parts link))) ∙ z.changeovers)) inside in
            record {
              queue = refl;
              alignment = refl;
              incomplete = ap (λ (t : Standing). t.incomplete) (get_or-set_same gone.parts.changeovers link (failed false (changeover_of gone.parts link)) no_changeover there);
              unawaited = ap (λ (t : Standing). t.awaited) (get_or-set_same gone.parts.changeovers link (failed false (changeover_of gone.parts link)) no_changeover there);
              still = ap (λ (t : Standing). t.incomplete) (get_or-set_same gone.parts.changeovers link (failed true (changeover_of gone.parts link)) no_changeover there);
              awaited = ap (λ (t : Standing). t.awaited) (get_or-set_same gone.parts.changeovers link (failed true (changeover_of gone.parts link)) no_changeover there);
            }))
            (sends-loose shape o c well (no_room whole c order two.queues) (link_of c two.parts (flow_of order)) order two a l k refl
            (ap is_user_message (order-says c well link (last_accepted (queue_at gone.queues link)) (number-fits _)))));
      }
    where
      up-there : (gone : Node WholeQueues) → HasParts n gone (links_with n.parts link fallen) n.parts.changeovers → down n.parts link ≡ false
          → IsSized c (with_parts gone (changing c false link gone.parts)) → link < length c.links
      up-there gone h up z = up-listed c n link (sym (length-set n.parts.links link fallen) ∙ sym (ap (λ (xs : List Link). length xs) h.links) ∙ z.links) up

  failing : (served : Bool) (why : FailureReason) → in_service n.parts link ≡ served → down n.parts link ≡ false
      → K shape o c well n (change_over whole c served link (make_unavailable whole c served link why n))
  failing true why e up =
      let gone : Node WholeQueues = make_unavailable whole c true link why n in
      begin-goes (is_ordered c link gone.parts) gone (gone-parts why) e up
  failing false why e up = falls-early (with_parts n (fail_link link why n.parts)) (record { queues = refl; links = refl; changeovers = refl; lost = refl; marks = refl }) e up

  pub fail-goes : (why : FailureReason) → down n.parts link ≡ false → K shape o c well n (fail whole c link why n)
  fail-goes why up = failing (in_service n.parts link) why refl up

  by_peer : (served : Bool) → in_service n.parts link ≡ served → down n.parts link ≡ false
      → K shape o c well n (begin_by_peer whole c served link (make_unavailable whole c served link reasons.Changeover n))
  by_peer true e up =
      let gone : Node WholeQueues = make_unavailable whole c true link reasons.Changeover n in
      let h : HasParts n gone (links_with n.parts link fallen) n.parts.changeovers = gone-parts reasons.Changeover in
      falls-serving _ (begun_by_peer (changeover_of gone.parts link)) (begun-parts gone _ _ h refl refl refl refl) e up refl
      (λ f. ap (λ (xs : List Standing). (slice_index_or xs link no_changeover).awaited) h.changeovers ∙ f)
  by_peer false e up = falls-early (with_parts n (fail_link link reasons.Changeover n.parts)) (record { queues = refl; links = refl; changeovers = refl; lost = refl; marks = refl }) e up

  unless-down : (b : Bool) (m : Node WholeQueues) → down n.parts link ≡ b → (down n.parts link ≡ false → K shape o c well n m) → K shape o c well n (if b then n else m)
  unless-down true m e f = stays shape o c well n
  unless-down false m e f = f e

  pub by_order-goes : K shape o c well n (fail_by_order whole c link n)
  by_order-goes = unless-down (down n.parts link) (fail_by_peer whole c link n) refl (λ up. by_peer (in_service n.parts link) refl up)

  pub if_up-goes : (why : FailureReason) → K shape o c well n (fail_if_up whole c link why n)
  if_up-goes why = unless-down (down n.parts link) (fail whole c link why n) refl (λ up. fail-goes why up)
