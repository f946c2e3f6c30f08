-- User Data is handed in: by moves.
use Rattle.node_moves.proofs.Basics.{◌≡◌, ℕ, Bool, true, false, not, ◌&&◌, ◌<◌, List, [], ◌∷◌, length, Option, Some, None, Result, Ok, Err, nat_lt, refl, ap, sym, subst, ◌∙◌, arith, nat_tests, if◌then◌else◌}
use Rattle.node_moves.proofs.Machine.{Frame, Network, Shape, Place, line_at, last_of}
use Rattle.node_moves.proofs.Definitions.{Message, Configuration, IsWell, Node, Done, WholeQueues, whole, with_parts, answer, refuse, is_link, link_at, in_service, down}
use Rattle.node_moves.proofs.Reading.{IsShape}
use Rattle.node_moves.proofs.Shown.{Books, accepting, Mid}
use Rattle.node_moves.proofs.Going.{IsAt, Goes, goes-none, goes-both}
use Rattle.node_moves.proofs.Handling.{mid}
use Rattle.node_moves.proofs.Own.{K, both, aside}
use Rattle.node_moves.proofs.Failing.{fail-goes}
use Rattle.node_moves.proofs.Aligning.{advance-goes}
use Rattle.node_moves.proofs.Entries.{data-heard}
use Rattle.node_moves.proofs.Bringing.{delivered-to, none-more}
use Rattle.node_moves.proofs.World.{books_of, AreData, IsData, data_of, ShownAt, rests, place_at}
use Rattle.node_moves.proofs.Relining.{Leads, leads-none, leads-both, leads-at, leads-goes}
use Rattle.node_moves.proofs.Grown.{Grown, same-grown, both-grown}
use Rattle.node_moves.proofs.Coming.{frame_of, ignored-down, popped, drops-frame, takes-frame, taken-serves, taken-grown}
use Rattle.node_moves.specs.Networks.{NetworkState, IsNode, changed, state_of}
use Rattle.node_moves.specs.Outside.{ArePlaced}
use Rattle.exchange_rules.proofs.Serving.{data-serves, fails-up}
use Rattle.exchange_rules.proofs.Serving as serving
use Rattle.exchange_rules.proofs.SteppingLinks.{advance-serves, failed_if_up-down}
use Rattle.exchange_rules.specs.ChangingOver.{fail}
use Rattle.exchange_rules.specs.Conserving.{brought_by}
unfoldable use Rattle.exchange_rules.specs.Exchange.{apply}
use Rattle.exchange_rules.specs.Frames.{Carrying, empty_data, message_data, numbers, accept, carry, handle_by, act_by_data, advance, read, receive}
use Rattle.exchange_rules.specs.Laws.{accept_data, accept_text}
use Rattle.exchange_rules.specs.Messages.{whither_goes, deliver_to}
use Rattle.exchange_rules.specs.Receiving.{new_by, new_at, new_of, new_message}
use Rattle.exchange_rules.specs.State.{note_outcome}
use Rattle.link.specs.Queue.{count_confirmed}
use Rattle.link.specs.declared.action.Action.{Action}
use Rattle.link.specs.declared.action.Action.TheVariants as act
use Rattle.link.specs.declared.action.Input.TheVariants.{UserData}
use Rattle.link.specs.declared.fault.SeqFault.{SeqFault}
use Rattle.m2pa_codec.specs.Frames.{FrameValue, EmptyFrame, MessageFrame, StatusFrame, read_frame}
use Rattle.node_links.specs.NodeLinks.{acts_on}
use Rattle.signalling_types.specs.declared.cause.Cause.TheVariants as causes
use Rattle.signalling_types.specs.declared.notice.FailureReason.TheVariants as reasons
use Rattle.signalling_types.specs.declared.notice.FrameFault.{FrameFault}
use Rattle.signalling_types.specs.declared.outcome.Outcome.{Outcome}
use Rattle.signalling_types.specs.declared.outcome.Outcome.TheVariants.{Ignored, Refused}
use Rattle.std.specs.Option.{option_to_list}

module _ (settings : (point : ℕ) → Configuration) (t : ArePlaced settings) (shape : Shape) (o : IsShape shape) (w : NetworkState) (x link : ℕ) (fx : IsNode settings x) (inside : link < length (settings x).links) where
  abbrev pub c : Configuration
  c = settings x

  abbrev well : IsWell c
  well = t.well x fx

  abbrev its : Place
  its = place_at settings t x link

  abbrev pub n : Node WholeQueues
  n = (w.node x).node

  abbrev pub k : Books
  k = books_of (w.node x)

  abbrev pub there : List Message → NetworkState
  there new = changed x (popped link new) w

  module _ (text : List ℕ) (rest : List (List ℕ)) (value : FrameValue) (flying : (w.node x).user_data link ≡ text ∷ rest) (reads : read_frame text ≡ Ok value) (d : Carrying) (carried : data_of value ≡ Some (frame_of d)) where
    -- the first frame, as the machine has it
    first-at : (m : Mid) (q : Network) → ShownAt settings t w x m q → (fs : List Frame) × ((line_at q its).to_near ≡ frame_of d ∷ fs)
    first-at m q s = by (line_at q its).to_near refl (subst (λ (texts : List (List ℕ)). AreData texts (line_at q its).to_near) flying (s.flown x link fx inside).user_data)
      where
        is : (frame : Frame) → IsData text frame → frame ≡ frame_of d
        is frame e =
            let same : Ok e.value ≡ Ok value = sym e.reads ∙ reads in
            let it : e.value ≡ value = cc in
            let some : Some frame ≡ Some (frame_of d) = sym e.carries ∙ ap data_of it ∙ carried in
            cc

        by : (frames : List Frame) → (line_at q its).to_near ≡ frames → AreData (text ∷ rest) (line_at q its).to_near → (fs : List Frame) × ((line_at q its).to_near ≡ frame_of d ∷ fs)
        by [] e h = absurd (subst (AreData (text ∷ rest)) e h)
        by (frame ∷ fs) e h = (fs, e ∙ ap (λ (f : Frame). f ∷ fs) (is frame (subst (AreData (text ∷ rest)) e h).0))

    -- what comes of it
    pub record Hears (left : Node WholeQueues) (new brought : List Message) : Type 0 where
      pub grown : Grown n.parts.times_broken left.parts.times_broken
      pub leads : (p : Network) → IsAt shape c p → ShownAt settings t w x (rests settings t (w.node x)) p → Leads settings t shape o n.parts.times_broken p (there new) x (mid left [] [] (accepting k brought))

    abbrev pub Comes : Done WholeQueues → Option Message → Node WholeQueues → Type 0
    Comes r new acc = Hears r.left (option_to_list new) (brought_by new r.outcome c acc)

    -- it is dropped by a link that is down then
    dropped : (left : Node WholeQueues) → K shape o c well n left → down left.parts link ≡ true → Hears left [] []
    dropped left e gone = record {
      grown = (e.each [] [] k).grown;
      leads = λ p h s.
          let l : Leads settings t shape o n.parts.times_broken p w x (mid left [] [] k) =
          leads-goes settings t shape o p w x (rests settings t (w.node x)) (mid left [] [] k) fx h (leads-none settings t shape o p w x (rests settings t (w.node x)) s) (e.each [] [] k) in
          let f : (fs : List Frame) × ((line_at (last_of p l.networks) its).to_near ≡ frame_of d ∷ fs) = first-at (mid left [] [] k) (last_of p l.networks) l.shown in
          let m : Leads settings t shape o n.parts.times_broken p (there []) x (mid left [] [] k) =
          leads-both settings t shape o p w (there []) x (mid left [] [] k) (mid left [] [] k) l
          (drops-frame settings t shape o w x link fx inside (mid left [] [] k) (last_of p l.networks) (frame_of d) f.0 l.shown f.1 gone) in
          leads-goes settings t shape o p (there []) x (mid left [] [] k) (mid left [] [] (accepting k [])) fx h m (none-more shape o c well (mid left [] [] k) left [] [] k (goes-none shape c (mid left [] [] k)));
    }

    -- a link that fails is down
    failed-down : (m : Node WholeQueues) → down m.parts link ≡ false → down (fail whole c link reasons.Sequence m).parts link ≡ true
    failed-down m up = failed_if_up-down c false link reasons.Sequence m up

    -- ---- the message that it carries

    noted : (result : Outcome) (m : Node WholeQueues) → K shape o c well m (with_parts m (note_outcome link result m.parts))
    noted (Refused cause) m = aside shape o c well m _ refl refl refl refl
    noted outcome m = record { each = λ a l j. goes-none shape c (mid m a l j) }

    carry-goes : (message : Option Message) (m : Node WholeQueues) → in_service m.parts link ≡ true
        → Goes shape c (mid m (option_to_list message) [] k) (mid (carry whole c link message m).left [] [] (accepting k (brought_by message (carry whole c link message m).outcome c m)))
    carry-goes None m serves = none-more shape o c well _ m [] [] k (goes-none shape c (mid m [] [] k))
    carry-goes (Some message) m serves =
        let r : Done WholeQueues = deliver_to whole c (whither_goes c message) link message m in
        goes-both shape c _ _ _ (delivered-to shape o c well (whither_goes c message) link message m [] [] k serves refl) ((noted r.outcome r.left).each [] [] _)

    -- ---- its numbers

    by-numbers : (r : Result ℕ SeqFault) (next : Node WholeQueues) → numbers whole c link d next ≡ r → in_service next.parts link ≡ true → down next.parts link ≡ false → K shape o c well n next
        → Comes (handle_by whole c r link d next) (new_by r d) (accept whole c link d (count_confirmed r) next)
    by-numbers (Err fault) next e serves up g =
        dropped (fail whole c link reasons.Sequence next) (both shape o c well n next _ g (fail-goes shape o c well link next reasons.Sequence up)) (failed-down next up)
    by-numbers (Ok confirmed) next e serves up g =
        let taken : Node WholeQueues = accept whole c link d confirmed next in
        let left : Node WholeQueues = (carry whole c link d.message taken).left in
        let brought : List Message = brought_by d.message (carry whole c link d.message taken).outcome c taken in
        let on : Goes shape c (mid taken (option_to_list d.message) [] k) (mid left [] [] (accepting k brought)) =
        carry-goes d.message taken (taken-serves settings t shape o w x link fx inside next d confirmed k e serves) in
        record {
          grown = both-grown (g.each [] [] k).grown (both-grown (taken-grown settings t shape o w x link fx inside next d confirmed k e serves) on.grown);
          leads = λ p h s.
              let l : Leads settings t shape o n.parts.times_broken p w x (mid next [] [] k) =
              leads-goes settings t shape o p w x (rests settings t (w.node x)) (mid next [] [] k) fx h (leads-none settings t shape o p w x (rests settings t (w.node x)) s) (g.each [] [] k) in
              let f : (fs : List Frame) × ((line_at (last_of p l.networks) its).to_near ≡ frame_of d ∷ fs) = first-at (mid next [] [] k) (last_of p l.networks) l.shown in
              let m : Leads settings t shape o n.parts.times_broken p (there (option_to_list d.message)) x (mid taken (option_to_list d.message) [] k) =
              leads-both settings t shape o p w (there (option_to_list d.message)) x (mid next [] [] k) (mid taken (option_to_list d.message) [] k)
              l
              (takes-frame settings t shape o w x link fx inside next d confirmed k e serves (last_of p l.networks) f.0 (leads-at settings t shape o p w x (mid next [] [] k) l h) l.shown f.1) in
              leads-goes settings t shape o p (there (option_to_list d.message)) x (mid taken (option_to_list d.message) [] k) (mid left [] [] (accepting k brought)) fx h m on;
        }

    -- ---- what the link does about it

    serves-up : (m : Node WholeQueues) → in_service m.parts link ≡ true → down m.parts link ≡ false
    serves-up m e = serving.serves-up (link_at m.parts link).alignment e

    at-action : (a : Action) → acts_on (link_at n.parts link) UserData ≡ a → down n.parts link ≡ false → Comes (act_by_data whole c a link d n) (new_at a link d c n) (accept_data a link d c n)
    at-action act.Ignored e up = (let no : true ≡ false = sym (ignored-down (link_at n.parts link).period (link_at n.parts link).alignment e) ∙ up in absurd cc)
    at-action act.Fail e up = dropped (fail whole c link reasons.Sequence n) (fail-goes shape o c well link n reasons.Sequence up) (failed-down n up)
    at-action (act.Go step) e up =
        let next : Node WholeQueues = advance whole c link step n in
        let serves : in_service next.parts link ≡ true = advance-serves c link UserData step n e ∙ data-serves (link_at n.parts link).period (link_at n.parts link).alignment step e in
        by-numbers (numbers whole c link d next) next refl serves (serves-up next serves)
        (advance-goes shape o c well link UserData step n e (data-heard (link_at n.parts link).period (link_at n.parts link).alignment step e))

    acts : down n.parts link ≡ false → Comes (act_by_data whole c (acts_on (link_at n.parts link) UserData) link d n) (new_at (acts_on (link_at n.parts link) UserData) link d c n)
        (accept_data (acts_on (link_at n.parts link) UserData) link d c n)
    acts up = at-action (acts_on (link_at n.parts link) UserData) refl up

    -- ---- a frame

    received-by : (l b : Bool) → is_link n.parts link ≡ l → down n.parts link ≡ b → (r : Result FrameValue FrameFault) → (down n.parts link ≡ false → Comes (read whole c link r n) (new_of r link c n) (accept_text link r (state_of c (w.node x))))
        → Comes (if l then (if b then answer Ignored n else read whole c link r n) else refuse causes.NoSuchName n) (if l && not b then new_of r link c n else None) (accept_text link r (state_of c (w.node x)))
    received-by true true e gone r f = dropped n (record { each = λ a l j. goes-none shape c (mid n a l j) }) gone
    received-by true false e up r f = f up
    received-by false b e gone r f = record {
      grown = same-grown refl;
      leads = λ p h s.
          let known : nat_lt link (length n.parts.links) ≡ true = listed (length n.parts.links) (subst (λ (i : ℕ). link < i) (sym s.here.sized.links) inside) in
          let no : true ≡ false = sym known ∙ e in
          absurd cc;
    }
      where
        listed : (many : ℕ) → link < many → nat_lt link many ≡ true
        listed many l = grind (arith, nat_tests, l)

    pub received : (down n.parts link ≡ false → Comes (read whole c link (Ok value) n) (new_of (Ok value) link c n) (accept_text link (Ok value) (state_of c (w.node x))))
        → Comes (receive whole c link text n) (new_message link text (state_of c (w.node x))) (accept_text link (read_frame text) (state_of c (w.node x)))
    received f =
        subst (λ (r : Result FrameValue FrameFault).
        Comes (if is_link n.parts link then (if down n.parts link then answer Ignored n else read whole c link r n) else refuse causes.NoSuchName n)
        (if is_link n.parts link && not (down n.parts link) then new_of r link c n else None) (accept_text link r (state_of c (w.node x)))) (sym reads)
        (received-by (is_link n.parts link) (down n.parts link) refl refl (Ok value) f)

  -- ---- by its kind

  module _ (text : List ℕ) (rest : List (List ℕ)) (flying : (w.node x).user_data link ≡ text ∷ rest) where
    -- what comes of it, whatever it reads as
    pub record Comes_in : Type 0 where
      pub grown : Grown n.parts.times_broken (receive whole c link text n).left.parts.times_broken
      pub leads : (p : Network) → IsAt shape c p → ShownAt settings t w x (rests settings t (w.node x)) p
          → Leads settings t shape o n.parts.times_broken p (there (option_to_list (new_message link text (state_of c (w.node x))))) x
          (mid (receive whole c link text n).left [] []
          (accepting k (brought_by (new_message link text (state_of c (w.node x))) (receive whole c link text n).outcome c (accept_text link (read_frame text) (state_of c (w.node x))))))

    pub kind-comes : (value : FrameValue) → read_frame text ≡ Ok value → (frame : Frame) → data_of value ≡ Some frame → Comes_in
    kind-comes (EmptyFrame bsn fsn) e frame f =
        let r : _ = received text rest (EmptyFrame bsn fsn) flying e (empty_data bsn fsn) refl (λ up. acts text rest (EmptyFrame bsn fsn) flying e (empty_data bsn fsn) refl up) in
        record { grown = r.grown; leads = r.leads }
    kind-comes (MessageFrame bsn fsn sio sif) e frame f =
        let r : _ = received text rest (MessageFrame bsn fsn sio sif) flying e (message_data bsn fsn sio sif) refl (λ up. acts text rest (MessageFrame bsn fsn sio sif) flying e (message_data bsn fsn sio sif) refl up) in
        record { grown = r.grown; leads = r.leads }
    kind-comes (StatusFrame bsn fsn status) e frame f = absurd cc
