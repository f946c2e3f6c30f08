-- The processor of a link's peer is out, and back, where the link stays in service: by moves.
use Rattle.pair_rules.proofs.Basics.{◌≡◌, ◌≢◌, ◌<◌, ◌&&◌, ℕ, Bool, true, false, List, [], length, refl, ap, sym, ◌∙◌, inl, inr, nat_eq, if◌then◌else◌, ⊎_elim, cases_eq}
use Rattle.pair_rules.proofs.Definitions.{Message, Configuration, HoldSet, Link, Node, with_parts, down, in_service, link_at, WholeQueues, whole, facts, set_of, StaysFit, fit-steps, with_busy, without_busy}
use Rattle.signalling_types.specs.declared.notice.FailureReason.TheVariants as reasons
use Rattle.flow_hold.specs.Holds as hold
use Rattle.flow_hold.specs.declared.procedure.Procedure.TheVariants as held_by
use Rattle.exchange_rules.specs.ChangingOver.{is_failed}
use Rattle.exchange_rules.specs.Frames.{become_busy, begin_outage, end_busy, end_outage, in_outage, let_back}
use Rattle.exchange_rules.specs.Timing.{timed_busy, timed_busy_ended}
use Rattle.exchange_rules.proofs.Outages.{back-serves, begun-serves, ended-serves, out-serves, outed-serves, recovering-serves}
use Rattle.node_links.specs.NodeLinks.{recovered}
use Rattle.exchange_rules.proofs.Places.{lifted-fits}
use Rattle.exchange_rules.proofs.Serving.{serves-up}
use Rattle.exchange_rules.proofs.Steps.{outed, recovering}
use Rattle.exchange_rules.proofs.SteppingFailures.{suspended-steps}
use Rattle.pair_moves.specs.Ends as ends
use Rattle.pair_moves.specs.Moves as moves
use Rattle.pair_rules.proofs.World.{World}
use Rattle.pair_rules.proofs.Going.{goes-one}
use Rattle.pair_rules.proofs.Lines.{up-listed}
use Rattle.neighbour_rules.proofs.World.{code_of, holds_of, reading}
use Rattle.neighbour_rules.proofs.Good.{Joint, Passes, at, passes-both, passes-good, passes-none, set}
use Rattle.neighbour_rules.proofs.Lines.{at-line, own-line}
use Rattle.neighbour_rules.proofs.Falling.{apart-elsewhere, hold-others, hold_by, holds-by}
use Rattle.neighbour_rules.proofs.Completions.{others-hold}
use Rattle.neighbour_rules.proofs.Relinked.{relinked-passes}
use Rattle.neighbour_rules.proofs.Unseen.{own, unseen-passes}

module _ (c z : Configuration) (j : Joint c z) where
  -- ---- the changeover of a link in service holds other flows, and nothing else changes

  module _ (w : World) (n : Node WholeQueues) (link : ℕ) (h : HoldSet) (serves : in_service n.parts link ≡ true)
      (leaves : (procedure : ends.Procedure) (sls : ℕ) → ((code : ℕ) → procedure ≡ ends.Changeover code → own c z j code ≢ link)
      → hold_by c z j h procedure sls ≡ hold_by c z j n.parts.holds procedure sls) where
    abbrev held : Node WholeQueues
    held = with_parts n (record n.parts { holds = h })

    up : down n.parts link ≡ false
    up = serves-up (link_at n.parts link).alignment serves

    between : set_of c link ≡ set c z j → StaysFit c n held → Passes c z j (at c z j w n [] []) (at c z j w held [] [])
    between its stay = record {
      goes = λ g.
          let l : link < length c.links = up-listed c z n link g.fits up in
          let mine : own c z j (code_of c link) ≡ link = own-line c j.near_well (set c z j) link l its in
          goes-one (reading c.own z.own j.base) _ _
          (moves.holds_in_service (record {
            link = code_of c link;
            serving = ap (λ (k : ℕ). in_service n.parts k) mine ∙ serves;
            holds = holds_of c j.base.there (set c z j) held.parts;
            only = λ procedure flow d.
                holds-by c z j held.parts procedure flow
                ∙ ap (λ (b : Bool). nat_eq flow.point j.base.there && b)
                (leaves procedure flow.sls (λ code e same. d (e ∙ ap ends.Changeover (sym (at-line c j.near_well (set c z j) link code l same).its_code))))
                ∙ sym (holds-by c z j n.parts procedure flow);
            after = refl;
          }));
      good = λ g. record {
        fits = stay.stay g.fits;
        route = g.route;
        settled = g.settled;
        silent = g.silent;
        queued = g.queued;
        elsewhere = g.elsewhere;
        held = g.held;
        loose = g.loose;
        arrived = g.arrived;
        coming = g.coming;
        counted = g.counted;
      };
    }

    past : link < length c.links → set_of c link ≢ set c z j → StaysFit c n held → Passes c z j (at c z j w n [] []) (at c z j w held [] [])
    past l d stay = unseen-passes c z j n held (record {
      fits = stay;
      queues = refl;
      alignments = λ code. refl;
      untested = λ code. refl;
      standings = λ code. refl;
      holds = λ procedure sls. leaves procedure sls (λ code e. apart-elsewhere c z j w n [] [] link reasons.Status code l d);
      codes = λ code. refl;
      lost = refl;
      late = refl;
      route = λ e. e;
      settled = λ f. f;
      silent = λ f. f;
    }) w [] []

    holding-passes : StaysFit c n held → Passes c z j (at c z j w n [] []) (at c z j w held [] [])
    holding-passes stay =
        ⊎_elim (λ (its : set_of c link ≡ set c z j). between its stay)
        (λ (d : set_of c link ≢ set c z j). passes-good c z j _ _ (λ g. past (up-listed c z n link g.fits up) d stay))
        (cases_eq (set_of c link) (set c z j))

  -- ---- whether the peer takes messages, and whether that is because its processor is out

  pub begun-busy : (b : Bool) (w : World) (n : Node WholeQueues) (link : ℕ) → in_service n.parts link ≡ true → (link_at n.parts link).peer_busy ≡ b
      → Passes c z j (at c z j w n [] []) (at c z j w (with_parts n (if b then n.parts else with_busy c link n.parts)) [] [])
  begun-busy true w n link serves e = passes-none c z j (at c z j w n [] [])
  begun-busy false w n link serves e =
      relinked-passes c z j w n [] [] link (record (link_at n.parts link) { peer_busy = true }) (timed_busy c link n.parts.timers) refl refl (λ h. h) ((fit-steps c).busied link n tt serves e)

  pub ended-busy : (b : Bool) (w : World) (n : Node WholeQueues) (link : ℕ) → in_service n.parts link ≡ true → (link_at n.parts link).peer_busy ≡ b
      → Passes c z j (at c z j w n [] []) (at c z j w (with_parts n (if b then without_busy c link (whole.outstanding n.queues link) n.parts else n.parts)) [] [])
  ended-busy true w n link serves e =
      relinked-passes c z j w n [] [] link (record (link_at n.parts link) { peer_busy = false }) (timed_busy_ended c link (whole.outstanding n.queues link) n.parts.timers) refl refl (λ h. h)
      ((fit-steps c).resumed link n tt serves e)
  ended-busy false w n link serves e = passes-none c z j (at c z j w n [] [])

  outed-passes : c.processor_outage ≡ true → (w : World) (n : Node WholeQueues) (link : ℕ)
      → Passes c z j (at c z j w n [] []) (at c z j w (with_parts n (outed link n.parts)) [] [])
  outed-passes asked w n link =
      let x : Link = record (link_at n.parts link) { peer_outage = true } in
      relinked-passes c z j w n [] [] link x n.parts.timers refl refl (λ h. h)
      ((fit-steps c).linked link x n (record { alignment = refl; period = refl; association = refl; busy = refl; waits = inl refl; untested = refl }) (λ out. inr asked))

  recovering-passes : (w : World) (n : Node WholeQueues) (link : ℕ) → in_service n.parts link ≡ true → Passes c z j (at c z j w n [] []) (at c z j w (with_parts n (recovering link n.parts)) [] [])
  recovering-passes w n link e =
      let x : Link = recovered (link_at n.parts link) in
      relinked-passes c z j w n [] [] link x n.parts.timers refl refl
      (λ h gone. absurd (let no : true ≡ false = sym gone ∙ serves-up (link_at n.parts link).alignment e in cc))
      ((fit-steps c).linked link x n (record { alignment = refl; period = refl; association = refl; busy = refl; waits = inr (inr refl); untested = refl }) (λ out. absurd cc))

  -- ---- an outage begins and ends

  begins : c.processor_outage ≡ true → (w : World) (n : Node WholeQueues) (link : ℕ) → in_service n.parts link ≡ true → Passes c z j (at c z j w n [] []) (at c z j w (begin_outage whole c link n) [] [])
  begins asked w n link e =
      let one : Node WholeQueues = with_parts n (end_busy c link (whole.outstanding n.queues link) n.parts) in
      let two : Node WholeQueues = with_parts n (become_busy c link one.parts) in
      let out : Node WholeQueues = with_parts n (outed link two.parts) in
      let ms : List Message = whole.unconfirmed n.queues link in
      let e1 : in_service one.parts link ≡ true = ended-serves c link (whole.outstanding n.queues link) n.parts link ∙ e in
      let e2 : in_service two.parts link ≡ true = begun-serves c link one.parts link ∙ e1 in
      let e3 : in_service out.parts link ≡ true = outed-serves link two.parts link ∙ e2 in
      passes-both c z j _ _ _ (ended-busy (link_at n.parts link).peer_busy w n link e refl)
      (passes-both c z j _ _ _ (begun-busy (link_at one.parts link).peer_busy w one link e1 refl)
      (passes-both c z j _ _ _ (outed-passes asked w two link)
      (holding-passes w out link (hold.with_flows out.parts.holds (held_by.Changeover link) (is_failed c (facts c out.parts) link ms)) e3
      (λ procedure sls d. hold-others c z j out.parts.holds link (is_failed c (facts c out.parts) link ms) procedure sls d)
      (suspended-steps (fit-steps c) link ms out))))

  pub begins-passes : c.processor_outage ≡ true → (out : Bool) (w : World) (n : Node WholeQueues) (link : ℕ) → in_service n.parts link ≡ true
      → Passes c z j (at c z j w n [] []) (at c z j w (if out then n else begin_outage whole c link n) [] [])
  begins-passes asked true w n link e = passes-none c z j (at c z j w n [] [])
  begins-passes asked false w n link e = begins asked w n link e

  pub ends-passes : (w : World) (n : Node WholeQueues) (link : ℕ) → in_outage n.parts link ≡ true → Passes c z j (at c z j w n [] []) (at c z j w (end_outage whole c link n) [] [])
  ends-passes w n link o =
      let e : in_service n.parts link ≡ true = out-serves n.parts link o in
      let out : Node WholeQueues = with_parts n (recovering link n.parts) in
      let back : Node WholeQueues = with_parts n (let_back link n.parts) in
      passes-both c z j _ _ _ (recovering-passes w n link e)
      (passes-both c z j _ _ _
      (holding-passes w out link (hold.lifted out.parts.holds (held_by.Changeover link)) (recovering-serves link n.parts link ∙ e)
      (λ procedure sls d. others-hold c z j out.parts.holds link procedure sls d)
      ((fit-steps c).holding _ out (record { fits = lifted-fits c out.parts.holds (held_by.Changeover link) })))
      (ended-busy (link_at back.parts link).peer_busy w back link (back-serves link n.parts link ∙ e) refl))
