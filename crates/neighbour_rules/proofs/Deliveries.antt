-- User Data is handed in, the next that is in flight on a link between the two, or by a link that leads elsewhere: by
-- moves.
use Rattle.pair_rules.proofs.Basics.{slice_index_or, inl, ◌≡◌, ◌≢◌, ◌<◌, ℕ, Bool, true, false, not, List, [], ◌∷◌, length, Option, Some, Result, Ok, Err, refl, ap, sym, subst, ◌∙◌, option_to_list}
use Rattle.pair_rules.proofs.Definitions.{Period, Message, Flow, FailureReason, Configuration, FrameValue, EmptyFrame, MessageFrame, Alignment, Down, NotAligned, Aligned, Proving, AlignedReady, InService, Action, UserData, action_at, acts_on, SeqFault, Link, after_failure, down_link, is_down, is_in_service, Node, with_parts, down, in_service, link_at, set_of, WholeQueues, whole, fail, Carrying, accept, act_by_data, empty_data, handle_by, message_data, numbers, owing, new_by, new_at, advance, Fits, fit-steps, alike-at, confirming, owing-steps, fail-links, advance-serves, data-serves, all_wait, brought_by, accept_data, count_confirmed, Saying, Pair}
use Rattle.exchange_rules.proofs.Rules.{rules-of}
use Rattle.exchange_rules.proofs.SteppingLinks.{advance-steps}
use Rattle.std.specs.Prelude.{map}
use Rattle.signalling_types.specs.declared.notice.FailureReason.TheVariants as reasons
use Rattle.link.specs.declared.action.Action.TheVariants as act
use Rattle.exchange_rules.proofs.AddedHolds.{advance-waits}
use Rattle.pair_moves.specs.Ends as ends
use Rattle.pair_moves.specs.Moves as moves
use Rattle.pair_rules.proofs.World.{World, frame_of}
use Rattle.pair_rules.proofs.Good.{Each}
use Rattle.pair_rules.proofs.Going.{goes-one}
use Rattle.pair_rules.proofs.Deliveries.{serving-up}
use Rattle.pair_rules.proofs.Lines.{link-here}
use Rattle.neighbour_rules.proofs.Untold.{IsUntoldBy}
use Rattle.neighbour_rules.proofs.World.{code_of, is_between, line_of, reading, says_of, shown}
use Rattle.neighbour_rules.proofs.Good.{IsFlying, IsSent, Joint, Passes, at, carrying, passes-both, passes-good, set}
use Rattle.neighbour_rules.proofs.Adjacents.{KnowsPoints, points-steps, still-knows}
use Rattle.neighbour_rules.proofs.Bound.{AreBound, bound-steps}
use Rattle.neighbour_rules.proofs.Bringing.{accepting, none-accepted}
use Rattle.neighbour_rules.proofs.Entries.{data-heard}
use Rattle.neighbour_rules.proofs.Failures.{fail-passes}
use Rattle.neighbour_rules.proofs.Falling.{holds-alike}
use Rattle.neighbour_rules.proofs.Frames.{Pops, accepted-elsewhere, accepted-good, accepted-set, accepts-here, bringing, dropping-frame, first-here, mine, none-brought, popped}
use Rattle.neighbour_rules.proofs.Hearing.{deliver-away, deliver-passes}
use Rattle.neighbour_rules.proofs.Relinked.{relinked-passes}
use Rattle.neighbour_rules.proofs.Returns.{advance-elsewhere, advance-passes}

-- ---- what the table of the alignment says

-- a link that is up acts about User Data
data-acts : (period : Period) (a : Alignment) → is_down a ≡ false → action_at period a UserData ≡ act.Ignored → false ≡ true
data-acts period Down e f = sym e
data-acts period NotAligned e f = absurd cc
data-acts period Aligned e f = absurd cc
data-acts period (Proving true) e f = absurd cc
data-acts period (Proving false) e f = absurd cc
data-acts period AlignedReady e f = absurd cc
data-acts period InService e f = absurd cc

-- a link that has to acknowledge serves as before
serves-owing : (link : ℕ) (m : Message) (n : Node WholeQueues) → in_service n.parts link ≡ true → in_service (owing link (Some m) n.parts) link ≡ true
serves-owing link m n serves =
    ap is_in_service (alike-at (λ (l : Link). l.alignment) n.parts.links link link (record (link_at n.parts link) { acknowledgement_owed = true }) down_link refl) ∙ serves

module _ (c z : Configuration) (j : Joint c z) where
  abbrev read : Message → Saying
  read = says_of c.own z.own j.base.there

  abbrev view : World → Pair
  view w = shown c z (set c z j) j.shares.far_set j.base w

  -- a link that failed is down
  failed-down : (link : ℕ) (why : FailureReason) (n : Node WholeQueues) → Fits c n → link < length c.links → down (fail whole c link why n).parts link ≡ true
  failed-down link why n f l =
      ap (λ (xs : List Link). is_down (slice_index_or xs link down_link).alignment) (fail-links c link why n)
      ∙ ap (λ (x : Link). is_down x.alignment) (link-here c z n.parts link (after_failure (link_at n.parts link)) (subst (λ (k : ℕ). link < k) (sym f.places.parts.links) l))

  -- what an acknowledgement that is owed leaves
  owed-passes : (w : World) (n : Node WholeQueues) (link : ℕ) (m : Message) (arrived : List Message) → down n.parts link ≡ false
      → Passes c z j (at c z j w n arrived []) (at c z j w (with_parts n (owing link (Some m) n.parts)) arrived [])
  owed-passes w n link m arrived up =
      relinked-passes c z j w n arrived [] link (record (link_at n.parts link) { acknowledgement_owed = true }) n.parts.timers refl refl
      (λ h gone. (let no : true ≡ false = sym gone ∙ up in absurd cc))
      (owing-steps (rules-of (fit-steps c)) link (Some m) n)

  -- User Data is accepted, with its message
  confirmed-knows : (d : Carrying) (n : Node WholeQueues) (confirmed : ℕ) (m : Message) (link : ℕ) → in_service n.parts link ≡ true → numbers whole c link d n ≡ Ok confirmed → KnowsPoints c n
      → KnowsPoints c (with_parts (confirming c link d confirmed n) (owing link (Some m) (confirming c link d confirmed n).parts))
  confirmed-knows d n confirmed m link serves e knows =
      let b : AreBound c (confirming c link d confirmed n) = ((bound-steps c knows.well).accepted link d confirmed n tt serves e).stay knows.bound in
      record { well = knows.well; bound = record { held = b.held; queued = b.queued }; adjacents = knows.adjacents }

  next-knows : (link : ℕ) (step : _) (n : Node WholeQueues) → acts_on (link_at n.parts link) UserData ≡ act.Go step → KnowsPoints c n → KnowsPoints c (advance whole c link step n)
  next-knows link step n e knows =
      still-knows c n (advance whole c link step n) (advance-steps (rules-of (points-steps c)) link UserData step n tt e)
      (advance-steps (rules-of (bound-steps c knows.well)) link UserData step n tt e) knows

  -- ---- between the two

  module _ (w : World) (link : ℕ) (frame : FrameValue) (f : ℕ → List FrameValue) (p : Pops c z j w link frame f) where
    -- it fails the link, and is dropped
    failing-frame : (n : Node WholeQueues) (why : FailureReason) → down n.parts link ≡ false
        → Passes c z j (at c z j w n [] []) (at c z j (bringing c z j (popped c z j w f) [] []) (fail whole c link why n) [] [])
    failing-frame n why up =
        none-brought c z j (at c z j w n [] []) (popped c z j w f) (fail whole c link why n) [] []
        (passes-good c z j _ _ (λ g.
        passes-both c z j _ _ _ (fail-passes c z j w n [] link why up) (dropping-frame c z j w link frame f p (fail whole c link why n) (failed-down link why n g.fits p.inside))))

  -- ---- User Data without a message

  module _ (w : World) (link bsn fsn : ℕ) (f : ℕ → List FrameValue) (p : Pops c z j w link (EmptyFrame bsn fsn) f) where
    empty-taken : (n : Node WholeQueues) (confirmed : ℕ) → in_service n.parts link ≡ true → numbers whole c link (empty_data bsn fsn) n ≡ Ok confirmed
        → Passes c z j (at c z j w n [] []) (at c z j (popped c z j w f) (confirming c link (empty_data bsn fsn) confirmed n) [] [])
    empty-taken n confirmed serves accepts = record {
      goes = λ g.
          let o : Node WholeQueues = confirming c link (empty_data bsn fsn) confirmed n in
          let after : Pair = view (at c z j (popped c z j w f) o [] []) in
          goes-one (reading c.own z.own j.base) (view (at c z j w n [] [])) after
          (moves.takes_empty (record {
            link = code_of c link;
            fsn = fsn;
            bsn = bsn;
            rest = map frame_of p.rest;
            first = first-here c z j w link (EmptyFrame bsn fsn) f p;
            up = ap (λ (k : ℕ). not (down n.parts k)) (mine c z j w link (EmptyFrame bsn fsn) f p) ∙ ap not (serving-up (link_at n.parts link).alignment serves);
            count = confirmed;
            accepted = accepts-here c z j w link (EmptyFrame bsn fsn) f p n (empty_data bsn fsn) confirmed serves accepts;
            lines = line_of c z (set c z j) j.shares.far_set (at c z j (popped c z j w f) o [] []);
            set = accepted-set c z j w link (EmptyFrame bsn fsn) f p n (empty_data bsn fsn) confirmed serves accepts [] g.fits;
            after = ap (λ (h : ends.Procedure → Flow → Bool). record after { near = record after.near { holds = h } }) (holds-alike c z j n.parts o.parts refl);
          }));
      good = λ g. accepted-good c z j w link (EmptyFrame bsn fsn) f p n (empty_data bsn fsn) confirmed serves accepts [] (λ h. tt) g;
    }

    empty-handled : (r : Result ℕ SeqFault) (n : Node WholeQueues) → in_service n.parts link ≡ true → numbers whole c link (empty_data bsn fsn) n ≡ r
        → Passes c z j (at c z j w n [] [])
        (at c z j (bringing c z j (popped c z j w f) (option_to_list (new_by r (empty_data bsn fsn))) (brought_by (new_by r (empty_data bsn fsn)) (handle_by whole c r link (empty_data bsn fsn) n).outcome c (accept whole c link (empty_data bsn fsn) (count_confirmed r) n)))
        (handle_by whole c r link (empty_data bsn fsn) n).left [] [])
    empty-handled (Ok confirmed) n serves e =
        none-brought c z j (at c z j w n [] []) (popped c z j w f) _ [] [] (empty-taken n confirmed serves e)
    empty-handled (Err fault) n serves e = failing-frame w link (EmptyFrame bsn fsn) f p n reasons.Sequence (serving-up (link_at n.parts link).alignment serves)

    pub empty-acted : (a : Action) (n : Node WholeQueues) → acts_on (link_at n.parts link) UserData ≡ a → down n.parts link ≡ false
        → Passes c z j (at c z j w n [] [])
        (at c z j (bringing c z j (popped c z j w f) (option_to_list (new_at a link (empty_data bsn fsn) c n)) (brought_by (new_at a link (empty_data bsn fsn) c n) (act_by_data whole c a link (empty_data bsn fsn) n).outcome c (accept_data a link (empty_data bsn fsn) c n)))
        (act_by_data whole c a link (empty_data bsn fsn) n).left [] [])
    empty-acted act.Ignored n e up = (let no : false ≡ true = data-acts (link_at n.parts link).period (link_at n.parts link).alignment up e in absurd cc)
    empty-acted act.Fail n e up = failing-frame w link (EmptyFrame bsn fsn) f p n reasons.Sequence up
    empty-acted (act.Go step) n e up =
        let next : Node WholeQueues = advance whole c link step n in
        passes-both c z j _ _ _ (advance-passes c z j w n [] link UserData step e (inl (data-heard (link_at n.parts link).period (link_at n.parts link).alignment step e)))
        (empty-handled (numbers whole c link (empty_data bsn fsn) next) next (advance-serves c link UserData step n e ∙ data-serves (link_at n.parts link).period (link_at n.parts link).alignment step e) refl)

  -- ---- User Data with a message

  module _ (w : World) (link bsn fsn sio : ℕ) (sif : List ℕ) (f : ℕ → List FrameValue) (p : Pops c z j w link (MessageFrame bsn fsn sio sif) f) where
    abbrev came : Message
    came = record { sio = sio; sif = sif }

    abbrev d : Carrying
    d = message_data bsn fsn sio sif

    sent : ((other : ℕ) → Each (IsFlying z c j.base.back j.shares.far_set) (w.to_near.user_data other)) → IsSent z c j.base.back j.shares.far_set came
    sent each = by (subst (Each (IsFlying z c j.base.back j.shares.far_set)) p.first (each link)).0
      where
        by : IsFlying z c j.base.back j.shares.far_set (MessageFrame bsn fsn sio sif) → IsSent z c j.base.back j.shares.far_set came
        by (carrying b k s t sayable x bound) = x

    message-taken : (n : Node WholeQueues) (confirmed : ℕ) → in_service n.parts link ≡ true → numbers whole c link d n ≡ Ok confirmed
        → Passes c z j (at c z j w n [] []) (at c z j (popped c z j w f) (confirming c link d confirmed n) (came ∷ []) [])
    message-taken n confirmed serves accepts = record {
      goes = λ g.
          let o : Node WholeQueues = confirming c link d confirmed n in
          let after : Pair = view (at c z j (popped c z j w f) o (came ∷ []) []) in
          goes-one (reading c.own z.own j.base) (view (at c z j w n [] [])) after
          (moves.takes_message (record {
            link = code_of c link;
            fsn = fsn;
            bsn = bsn;
            message = came;
            rest = map frame_of p.rest;
            first = first-here c z j w link (MessageFrame bsn fsn sio sif) f p;
            up = ap (λ (k : ℕ). not (down n.parts k)) (mine c z j w link (MessageFrame bsn fsn sio sif) f p) ∙ ap not (serving-up (link_at n.parts link).alignment serves);
            count = confirmed;
            accepted = accepts-here c z j w link (MessageFrame bsn fsn sio sif) f p n d confirmed serves accepts;
            lines = line_of c z (set c z j) j.shares.far_set (at c z j (popped c z j w f) o (came ∷ []) []);
            set = accepted-set c z j w link (MessageFrame bsn fsn sio sif) f p n d confirmed serves accepts (came ∷ []) g.fits;
            after = ap (λ (h : ends.Procedure → Flow → Bool). record after { near = record after.near { holds = h } }) (holds-alike c z j n.parts o.parts refl);
          }));
      good = λ g. accepted-good c z j w link (MessageFrame bsn fsn sio sif) f p n d confirmed serves accepts (came ∷ []) (λ h. (sent h.coming.user_data, tt)) g;
    }

    -- a message that it newly carries tells nothing of the route to the point
    abbrev IsUntoldIn : Option Message → Type 0
    IsUntoldIn o = (m : Message) → o ≡ Some m → IsUntoldBy c z j m

    message-handled : (r : Result ℕ SeqFault) (n : Node WholeQueues) → in_service n.parts link ≡ true → numbers whole c link d n ≡ r
        → ((other : ℕ) → Each (IsFlying z c j.base.back j.shares.far_set) (w.to_near.user_data other)) → all_wait c n.parts.holds n.queues.held ≡ true → KnowsPoints c n → IsUntoldIn (new_by r d)
        → Passes c z j (at c z j w n [] [])
        (at c z j (bringing c z j (popped c z j w f) (option_to_list (new_by r d)) (brought_by (new_by r d) (handle_by whole c r link d n).outcome c (accept whole c link d (count_confirmed r) n)))
        (handle_by whole c r link d n).left [] [])
    message-handled (Ok confirmed) n serves e each wait knows untold =
        let o : Node WholeQueues = confirming c link d confirmed n in
        passes-both c z j _ _ _ (message-taken n confirmed serves e)
        (passes-both c z j _ _ _ (owed-passes (popped c z j w f) o link came (came ∷ []) (serving-up (link_at n.parts link).alignment serves))
        (deliver-passes c z j (popped c z j w f) (accept whole c link d confirmed n) link came (serves-owing link came o serves) wait (confirmed-knows d n confirmed came link serves e knows) (sent each) (untold came refl)))
    message-handled (Err fault) n serves e each wait knows untold = failing-frame w link (MessageFrame bsn fsn sio sif) f p n reasons.Sequence (serving-up (link_at n.parts link).alignment serves)

    pub message-acted : (a : Action) (n : Node WholeQueues) → acts_on (link_at n.parts link) UserData ≡ a → down n.parts link ≡ false
        → ((other : ℕ) → Each (IsFlying z c j.base.back j.shares.far_set) (w.to_near.user_data other)) → all_wait c n.parts.holds n.queues.held ≡ true → KnowsPoints c n → IsUntoldIn (new_at a link d c n)
        → Passes c z j (at c z j w n [] [])
        (at c z j (bringing c z j (popped c z j w f) (option_to_list (new_at a link d c n)) (brought_by (new_at a link d c n) (act_by_data whole c a link d n).outcome c (accept_data a link d c n)))
        (act_by_data whole c a link d n).left [] [])
    message-acted act.Ignored n e up each wait knows untold = (let no : false ≡ true = data-acts (link_at n.parts link).period (link_at n.parts link).alignment up e in absurd cc)
    message-acted act.Fail n e up each wait knows untold = failing-frame w link (MessageFrame bsn fsn sio sif) f p n reasons.Sequence up
    message-acted (act.Go step) n e up each wait knows untold =
        let next : Node WholeQueues = advance whole c link step n in
        passes-both c z j _ _ _ (advance-passes c z j w n [] link UserData step e (inl (data-heard (link_at n.parts link).period (link_at n.parts link).alignment step e)))
        (message-handled (numbers whole c link d next) next (advance-serves c link UserData step n e ∙ data-serves (link_at n.parts link).period (link_at n.parts link).alignment step e) refl each (advance-waits c link step n wait) (next-knows link step n e knows) untold)

  -- ---- by a link that leads elsewhere

  module _ (w : World) (link : ℕ) (away : set_of c link ≢ set c z j) where
    failing-away : (n : Node WholeQueues) (why : FailureReason) → down n.parts link ≡ false → Passes c z j (at c z j w n [] []) (at c z j (accepting c z j w []) (fail whole c link why n) [] [])
    failing-away n why up = passes-both c z j _ _ _ (fail-passes c z j w n [] link why up) (none-accepted c z j w (fail whole c link why n))

    -- without a message
    module _ (bsn fsn : ℕ) where
      abbrev x : Carrying
      x = empty_data bsn fsn

      empty-past : (r : Result ℕ SeqFault) (n : Node WholeQueues) → in_service n.parts link ≡ true → numbers whole c link x n ≡ r
          → Passes c z j (at c z j w n [] [])
          (at c z j (accepting c z j w (brought_by (new_by r x) (handle_by whole c r link x n).outcome c (accept whole c link x (count_confirmed r) n))) (handle_by whole c r link x n).left [] [])
      empty-past (Ok confirmed) n serves e =
          passes-both c z j _ _ _ (accepted-elsewhere c z j w n link away x confirmed serves e [] []) (none-accepted c z j w (confirming c link x confirmed n))
      empty-past (Err fault) n serves e = failing-away n reasons.Sequence (serving-up (link_at n.parts link).alignment serves)

      pub empty-away : (a : Action) (n : Node WholeQueues) → acts_on (link_at n.parts link) UserData ≡ a → down n.parts link ≡ false
          → Passes c z j (at c z j w n [] [])
          (at c z j (accepting c z j w (brought_by (new_at a link x c n) (act_by_data whole c a link x n).outcome c (accept_data a link x c n))) (act_by_data whole c a link x n).left [] [])
      empty-away act.Ignored n e up = (let no : false ≡ true = data-acts (link_at n.parts link).period (link_at n.parts link).alignment up e in absurd cc)
      empty-away act.Fail n e up = failing-away n reasons.Sequence up
      empty-away (act.Go step) n e up =
          let next : Node WholeQueues = advance whole c link step n in
          passes-both c z j _ _ _ (advance-elsewhere c z j w n [] link UserData step e away)
          (empty-past (numbers whole c link x next) next (advance-serves c link UserData step n e ∙ data-serves (link_at n.parts link).period (link_at n.parts link).alignment step e) refl)

    -- with one that isn't management between the two
    module _ (bsn fsn sio : ℕ) (sif : List ℕ) (apart : is_between c.own z.own (record { sio = sio; sif = sif }) ≡ false) where
      abbrev m : Message
      m = record { sio = sio; sif = sif }

      abbrev y : Carrying
      y = message_data bsn fsn sio sif

      message-past : (r : Result ℕ SeqFault) (n : Node WholeQueues) → in_service n.parts link ≡ true → numbers whole c link y n ≡ r → all_wait c n.parts.holds n.queues.held ≡ true → KnowsPoints c n
          → Passes c z j (at c z j w n [] [])
          (at c z j (accepting c z j w (brought_by (new_by r y) (handle_by whole c r link y n).outcome c (accept whole c link y (count_confirmed r) n))) (handle_by whole c r link y n).left [] [])
      message-past (Ok confirmed) n serves e wait knows =
          let o : Node WholeQueues = confirming c link y confirmed n in
          passes-both c z j _ _ _ (accepted-elsewhere c z j w n link away y confirmed serves e [] [])
          (passes-both c z j _ _ _ (owed-passes w o link m [] (serving-up (link_at n.parts link).alignment serves))
          (deliver-away c z j w link m (accept whole c link y confirmed n) (serves-owing link m o serves) wait (confirmed-knows y n confirmed m link serves e knows) apart))
      message-past (Err fault) n serves e wait knows = failing-away n reasons.Sequence (serving-up (link_at n.parts link).alignment serves)

      pub message-away : (a : Action) (n : Node WholeQueues) → acts_on (link_at n.parts link) UserData ≡ a → down n.parts link ≡ false → all_wait c n.parts.holds n.queues.held ≡ true → KnowsPoints c n
          → Passes c z j (at c z j w n [] [])
          (at c z j (accepting c z j w (brought_by (new_at a link y c n) (act_by_data whole c a link y n).outcome c (accept_data a link y c n))) (act_by_data whole c a link y n).left [] [])
      message-away act.Ignored n e up wait knows = (let no : false ≡ true = data-acts (link_at n.parts link).period (link_at n.parts link).alignment up e in absurd cc)
      message-away act.Fail n e up wait knows = failing-away n reasons.Sequence up
      message-away (act.Go step) n e up wait knows =
          let next : Node WholeQueues = advance whole c link step n in
          passes-both c z j _ _ _ (advance-elsewhere c z j w n [] link UserData step e away)
          (message-past (numbers whole c link y next) next (advance-serves c link UserData step n e ∙ data-serves (link_at n.parts link).period (link_at n.parts link).alignment step e) refl (advance-waits c link step n wait) (next-knows link step n e knows))
