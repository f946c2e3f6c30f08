-- A frame comes, between the two nodes or from elsewhere: whole events at the near node, by moves.
use Rattle.exchange_rules.specs.Reroutings.{first_reroutings}
use Rattle.pair_rules.proofs.Basics.{◌≡◌, ◌≢◌, ◌<◌, ◌++◌, ◌∷◌, ◌&&◌, ℕ, Bool, true, false, not, ◌||◌, List, [], length, Option, None, Result, Ok, Err, refl, ap, sym, subst, ◌∙◌, nat_lt, arith, nat_tests, if◌then◌else◌, option_to_list, Some}
use Rattle.pair_rules.proofs.Definitions.{Message, Ignored, Outcome, Configuration, FrameValue, EmptyFrame, MessageFrame, StatusFrame, read_frame, set_of, Node, Done, FrameCame, UserData, acts_on, WholeQueues, whole, is_link, link_at, down, answer, refuse, with_parts, fit-steps, Fits, read, all_wait, apply, handle_event, accept_text, brought_by, brought_in, new_message, new_of}
use Rattle.signalling_types.specs.declared.cause.Cause.TheVariants as causes
use Rattle.signalling_types.specs.declared.notice.FailureReason.TheVariants as reasons
use Rattle.signalling_types.specs.declared.notice.FrameFault.{FrameFault}
use Rattle.signalling_types.specs.declared.notice.FrameFault.TheVariants as faults
use Rattle.signalling_types.specs.declared.notice.Notice.TheVariants as notices
use Rattle.exchange_rules.specs.First.{Abstract}
use Rattle.exchange_rules.specs.Frames.{receive}
use Rattle.exchange_rules.specs.Laws.{carried_message}
use Rattle.exchange_rules.specs.State.{note}
use Rattle.std.specs.List.{list_any}
use Rattle.pair_rules.proofs.Good.{Each, IsTelling, telling}
use Rattle.pair_rules.proofs.Steps.{outcome-same}
use Rattle.pair_rules.proofs.World.{Flying, World}
use Rattle.neighbour_rules.specs.Neighbours.{is_management_between, users_to}
use Rattle.neighbour_rules.proofs.Untold.{IsUntoldBy}
use Rattle.neighbour_rules.proofs.World.{is_between}
use Rattle.neighbour_rules.proofs.Good.{Good, IsFlying, Joint, Passes, at, carrying, empty, passes-both, passes-good, set}
use Rattle.neighbour_rules.proofs.Bringing.{accepting, none-accepted}
use Rattle.neighbour_rules.proofs.Adjacents.{KnowsPoints}
use Rattle.neighbour_rules.proofs.Deliveries.{empty-acted, empty-away, message-acted, message-away}
use Rattle.neighbour_rules.proofs.Events.{event-passes}
use Rattle.neighbour_rules.proofs.Failures.{fail-passes}
use Rattle.neighbour_rules.proofs.Frames.{Pops, Retells, bringing, dropping-frame, none-brought, popped, retold, status-doubled, status-taken}
use Rattle.neighbour_rules.proofs.LateOrders.{late_by-passes}
use Rattle.neighbour_rules.proofs.Relinked.{noted-passes}
use Rattle.neighbour_rules.proofs.Statuses.{status-elsewhere, status-passes}

-- whether a frame carries management in the name of one of two for the other
abbrev pub speaks_for : (one two : ℕ) (text : List ℕ) → Bool
speaks_for one two text =
    list_any (λ (m : Message). is_management_between one two m || is_management_between two one m) (option_to_list (carried_message (read_frame text)))

module _ (c z : Configuration) (j : Joint c z) where
  abbrev pub exchange : Node WholeQueues → Abstract
  exchange n = record { settings = c; node = n; reroutings = first_reroutings c }

  -- a frame came, and this is in flight to the node then
  abbrev pub came : World → Flying → (link : ℕ) (text : List ℕ) → Node WholeQueues → World
  came w f link text n = record w {
    to_near = f;
    near = record w.near {
      accepted = w.near.accepted ++ users_to j.base.there (brought_in (FrameCame link text) (exchange n));
      received = w.near.received ++ users_to j.base.back (option_to_list (new_message link text (exchange n)));
    };
  }

  -- the first of those that are in flight to the node on a link, which is one between the two
  pub record IsNext (now later : ℕ → List FrameValue) (link : ℕ) (frame : FrameValue) : Type 0 where
    pub rest : List FrameValue
    pub first : now link ≡ frame ∷ rest
    pub here : later link ≡ rest
    pub others : (other : ℕ) → other ≢ link → later other ≡ now other
    pub inside : link < length c.links
    pub its : set_of c link ≡ set c z j

  -- a link of the settings is there
  is-there : (n : Node WholeQueues) (link : ℕ) → Fits c n → link < length c.links → is_link n.parts link ≡ true
  is-there n link fits inside = below link (length n.parts.links) (subst (λ (k : ℕ). link < k) (sym fits.places.parts.links) inside)
    where
      below : (m k : ℕ) → m < k → nat_lt m k ≡ true
      below m k h = grind (arith, nat_tests, h)

  -- ---- a frame is handed in: where its link is there and isn't down it is read

  -- `book` says what is in flight and on the books then, by what was received and what was accepted
  module _ (w : World) (book : (received accepted : List Message) → World) (n : Node WholeQueues) (link : ℕ) (text : List ℕ) where
    -- by what the text says
    abbrev read_as : Result FrameValue FrameFault → World
    read_as r =
        at c z j (book (option_to_list (new_of r link c n)) (brought_by (new_of r link c n) (read whole c link r n).outcome c (accept_text link r (exchange n)))) (read whole c link r n).left [] []

    abbrev taken : (l b : Bool) → Done WholeQueues
    taken l b = (if l then (if b then answer Ignored n else read whole c link (read_frame text) n) else refuse causes.NoSuchName n)

    abbrev newly : (l b : Bool) → Option Message
    newly l b = if l && not b then new_of (read_frame text) link c n else None

    abbrev taken_at : (l b : Bool) → World
    taken_at l b =
        at c z j (book (option_to_list (newly l b)) (brought_by (newly l b) (taken l b).outcome c (accept_text link (read_frame text) (exchange n)))) (taken l b).left [] []

    module _ (inside : link < length c.links) (drops : down n.parts link ≡ true → Passes c z j (at c z j w n [] []) (at c z j (book [] []) n [] []))
        (acts : Good c z j (at c z j w n [] []) → down n.parts link ≡ false → Passes c z j (at c z j w n [] []) (read_as (read_frame text))) where
      by-state : (l b : Bool) → down n.parts link ≡ b → l ≡ true → Good c z j (at c z j w n [] []) → Passes c z j (at c z j w n [] []) (taken_at l b)
      by-state true true e l g = drops e
      by-state true false e l g = acts g e
      by-state false b e l g = absurd cc

      received : Passes c z j (at c z j w n [] []) (taken_at (is_link n.parts link) (down n.parts link))
      received = passes-good c z j _ _ (λ g. by-state (is_link n.parts link) (down n.parts link) refl (is-there n link g.fits inside) g)

      -- the orders that go out late then
      abbrev received_at : World
      received_at =
          book (option_to_list (newly (is_link n.parts link) (down n.parts link)))
          (brought_by (newly (is_link n.parts link) (down n.parts link)) (receive whole c link text n).outcome c (accept_text link (read_frame text) (exchange n)))

      ordered : Passes c z j (at c z j received_at (receive whole c link text n).left [] []) (at c z j received_at (handle_event whole c (FrameCame link text) n).left [] [])
      ordered = late_by-passes c z j (receive whole c link text n).outcome received_at (receive whole c link text n).left

      -- the whole event
      event-received : Passes c z j (at c z j w n [] []) (at c z j (book (option_to_list (new_message link text (exchange n))) (brought_in (FrameCame link text) (exchange n))) (apply whole c (FrameCame link text) n).left [] [])
      event-received =
          event-passes c z j (FrameCame link text) w (book (option_to_list (new_message link text (exchange n))) (brought_in (FrameCame link text) (exchange n))) n
          (subst (λ (o : Outcome).
          Passes c z j (at c z j w n [] [])
          (at c z j (book (option_to_list (new_message link text (exchange n))) (brought_by (new_message link text (exchange n)) o c (accept_text link (read_frame text) (exchange n))))
          (handle_event whole c (FrameCame link text) n).left [] []))
          (sym (outcome-same c (FrameCame link text) n)) (passes-both c z j _ _ _ received ordered))

  -- ---- between the two

  module _ (w : World) (n : Node WholeQueues) (link : ℕ) (text : List ℕ) (wait : all_wait c n.parts.holds n.queues.held ≡ true) (knows : KnowsPoints c n) where
    -- a message that a frame newly carries tells nothing of the route to the point
    abbrev IsUntoldIn : Option Message → Type 0
    IsUntoldIn o = (m : Message) → o ≡ Some m → IsUntoldBy c z j m

    newly-is : (l b : Bool) → l ≡ true → b ≡ false → (if l && not b then new_of (read_frame text) link c n else None) ≡ new_of (read_frame text) link c n
    newly-is true false e f = refl
    newly-is true true e f = absurd cc
    newly-is false b e f = absurd cc

    data-read : (f : ℕ → List FrameValue) (frame : FrameValue) → IsFlying z c j.base.back j.shares.far_set frame → Pops c z j w link frame f → down n.parts link ≡ false
        → ((other : ℕ) → Each (IsFlying z c j.base.back j.shares.far_set) (w.to_near.user_data other)) → IsUntoldIn (new_of (Ok frame) link c n)
        → Passes c z j (at c z j w n [] []) (read_as w (bringing c z j (popped c z j w f)) n link text (Ok frame))
    data-read f _ (empty bsn fsn s) p up each untold = empty-acted c z j w link bsn fsn f p (acts_on (link_at n.parts link) UserData) n refl up
    data-read f _ (carrying bsn fsn sio sif s is bound) p up each untold =
        message-acted c z j w link bsn fsn sio sif f p (acts_on (link_at n.parts link) UserData) n refl up each wait knows untold

    pub data-comes : (f : ℕ → List FrameValue) (frame : FrameValue) → IsNext w.to_near.user_data f link frame → read_frame text ≡ Ok frame → IsUntoldIn (new_message link text (exchange n))
        → Passes c z j (at c z j w n [] []) (at c z j (came w (record w.to_near { user_data = f }) link text n) (apply whole c (FrameCame link text) n).left [] [])
    data-comes f frame is reads untold =
        let p : Pops c z j w link frame f = record { rest = is.rest; first = is.first; here = is.here; others = is.others; inside = is.inside; its = is.its } in
        event-received w (bringing c z j (popped c z j w f)) n link text is.inside
        (λ gone. none-brought c z j (at c z j w n [] []) (popped c z j w f) n [] [] (dropping-frame c z j w link frame f p n gone))
        (λ g up.
        subst (λ (r : Result FrameValue FrameFault). Passes c z j (at c z j w n [] []) (read_as w (bringing c z j (popped c z j w f)) n link text r)) (sym reads)
        (data-read f frame (subst (Each (IsFlying z c j.base.back j.shares.far_set)) is.first (g.coming.user_data link)).0 p up g.coming.user_data
        (subst IsUntoldIn (newly-is (is_link n.parts link) (down n.parts link) (is-there n link g.fits is.inside) up ∙ ap (λ (r : Result FrameValue FrameFault). new_of r link c n) reads) untold)))

    status-read : (f : ℕ → List FrameValue) (frame : FrameValue) (rest : List FrameValue) → IsTelling frame → Retells c z j w link frame rest rest f
        → Passes c z j (at c z j w n [] []) (read_as w (bringing c z j (retold c z j w f)) n link text (Ok frame))
    status-read f _ rest (telling bsn fsn status s) r = status-passes c z j w n link bsn fsn status rest f r

    pub status-comes : (f : ℕ → List FrameValue) (frame : FrameValue) → IsNext w.to_near.statuses f link frame → read_frame text ≡ Ok frame
        → Passes c z j (at c z j w n [] []) (at c z j (came w (record w.to_near { statuses = f }) link text n) (apply whole c (FrameCame link text) n).left [] [])
    status-comes f frame is reads =
        let r : Retells c z j w link frame is.rest is.rest f = record { first = is.first; here = is.here; others = is.others; inside = is.inside; its = is.its } in
        event-received w (bringing c z j (retold c z j w f)) n link text is.inside
        (λ gone. none-brought c z j (at c z j w n [] []) (retold c z j w f) n [] [] (status-taken c z j w link frame is.rest f r n))
        (λ g up.
        subst (λ (x : Result FrameValue FrameFault). Passes c z j (at c z j w n [] []) (read_as w (bringing c z j (retold c z j w f)) n link text x)) (sym reads)
        (status-read f frame is.rest (subst (Each IsTelling) is.first (g.coming.statuses link)).0 r))

    -- ---- from elsewhere

    abbrev booked : (received accepted : List Message) → World
    booked _ ms = accepting c z j w ms

    abbrev Comes : Result FrameValue FrameFault → Type 0
    Comes r = Passes c z j (at c z j w n [] []) (read_as w booked n link text r)

    aside : (fault : FrameFault) → Passes c z j (at c z j w n [] []) (at c z j w (with_parts n (note (notices.Frame fault link) n.parts)) [] [])
    aside fault = noted-passes c z j w n [] [] (note (notices.Frame fault link) n.parts).notices ((fit-steps c).noted (notices.Frame fault link) n (record { other = refl; lost = λ f. absurd cc; late = λ f. absurd cc }))

    none-booked : (o : Node WholeQueues) → Passes c z j (at c z j w n [] []) (at c z j w o [] []) → Passes c z j (at c z j w n [] []) (at c z j (accepting c z j w []) o [] [])
    none-booked o p = passes-both c z j _ _ _ p (none-accepted c z j w o)

    away-read : set_of c link ≢ set c z j → down n.parts link ≡ false → (r : Result FrameValue FrameFault)
        → list_any (λ (m : Message). is_management_between c.own z.own m || is_management_between z.own c.own m) (option_to_list (carried_message r)) ≡ false → Comes r
    away-read apart up (Ok (EmptyFrame bsn fsn)) honest = empty-away c z j w link apart bsn fsn (acts_on (link_at n.parts link) UserData) n refl up
    away-read apart up (Ok (MessageFrame bsn fsn sio sif)) honest =
        message-away c z j w link apart bsn fsn sio sif (first-false (is_between c.own z.own (record { sio = sio; sif = sif })) honest) (acts_on (link_at n.parts link) UserData) n refl up wait knows
      where
        first-false : (b : Bool) → (b || false) ≡ false → b ≡ false
        first-false true e = e
        first-false false e = refl
    away-read apart up (Ok (StatusFrame bsn fsn status)) honest = none-booked _ (status-elsewhere c z j w n link status apart)
    away-read apart up (Err faults.Length) honest = none-booked _ (fail-passes c z j w n [] link reasons.Length up)
    away-read apart up (Err faults.Short) honest = none-booked _ (aside faults.Short)
    away-read apart up (Err faults.Version) honest = none-booked _ (aside faults.Version)
    away-read apart up (Err faults.Unknown) honest = none-booked _ (aside faults.Unknown)

    pub away-comes : set_of c link ≢ set c z j → link < length c.links → speaks_for c.own z.own text ≡ false
        → Passes c z j (at c z j w n [] []) (at c z j (accepting c z j w (brought_in (FrameCame link text) (exchange n))) (apply whole c (FrameCame link text) n).left [] [])
    away-comes apart l honest =
        event-received w booked n link text l (λ gone. none-accepted c z j w n) (λ g up. away-read apart up (read_frame text) honest)

  -- ---- a link status is lost, or comes twice

  module _ (w : World) (n : Node WholeQueues) (link : ℕ) where
    pub status-lost : (f : ℕ → List FrameValue) (frame : FrameValue) → IsNext w.to_near.statuses f link frame
        → Passes c z j (at c z j w n [] []) (at c z j (record w { to_near = record w.to_near { statuses = f } }) n [] [])
    status-lost f frame is =
        status-taken c z j w link frame is.rest f (record { first = is.first; here = is.here; others = is.others; inside = is.inside; its = is.its }) n

    pub status-twice : (f : ℕ → List FrameValue) (frame : FrameValue) (rest : List FrameValue) → w.to_near.statuses link ≡ frame ∷ rest → f link ≡ frame ∷ frame ∷ rest
        → ((other : ℕ) → other ≢ link → f other ≡ w.to_near.statuses other) → link < length c.links → set_of c link ≡ set c z j
        → Passes c z j (at c z j w n [] []) (at c z j (record w { to_near = record w.to_near { statuses = f } }) n [] [])
    status-twice f frame rest first here others inside its =
        status-doubled c z j w link frame rest f (record { first = first; here = here; others = others; inside = inside; its = its }) n
