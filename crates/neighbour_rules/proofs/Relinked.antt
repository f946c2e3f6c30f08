-- One link changes, but neither its alignment, its changeover nor whether it has a test to pass; or only timers,
-- notices or translation rows change: the same pair is shown.
use Rattle.pair_rules.proofs.Basics.{◌≡◌, ℕ, List, [], refl, ap, sym, ◌∙◌, slice_set}
use Rattle.pair_rules.proofs.Definitions.{Message, Outcome, Handled, Held, Ignored, Local, Queued, Refused, Configuration, Alignment, Running, Link, down_link, is_down, Node, Noted, with_parts, link_at, WholeQueues, note_outcome, with_titles, StaysFit, fit-steps, alike-at, each-set}
use Rattle.sccp_relay.specs.Statuses.{TitlesValue}
use Rattle.signalling_types.specs.declared.notice.Notice.TheVariants as notices
use Rattle.pair_rules.proofs.World.{World}
use Rattle.pair_rules.proofs.Good.{IsSilent}
use Rattle.neighbour_rules.proofs.Good.{Joint, Passes, at, passes-none}
use Rattle.neighbour_rules.proofs.Unseen.{aside-passes, own, unseen-passes}

module _ (c z : Configuration) (j : Joint c z) where
  -- ---- one link changes, whichever it is, but not its alignment, its changeover, or whether it has a test to pass; and
  -- timers

  module _ (w : World) (n : Node WholeQueues) (arrived loose : List Message) (link : ℕ) (x : Link) (t : Running) (same : x.alignment ≡ (link_at n.parts link).alignment) (still : x.untested ≡ (link_at n.parts link).untested) where
    abbrev relinked : Node WholeQueues
    relinked = with_parts n (record n.parts { links = slice_set n.parts.links link x; timers = t })

    alignment-same : (other : ℕ) → (link_at relinked.parts other).alignment ≡ (link_at n.parts other).alignment
    alignment-same other = alike-at (λ (l : Link). l.alignment) n.parts.links link other x down_link same

    pub relinked-passes : (IsSilent (link_at n.parts link) → IsSilent x) → StaysFit c n relinked → Passes c z j (at c z j w n arrived loose) (at c z j w relinked arrived loose)
    relinked-passes quiet stay = unseen-passes c z j n relinked (record {
      fits = stay;
      queues = refl;
      alignments = λ code. alignment-same (own c z j code);
      untested = λ code. alike-at (λ (l : Link). l.untested) n.parts.links link (own c z j code) x down_link still;
      standings = λ code. refl;
      holds = λ procedure sls. refl;
      codes = λ code. refl;
      lost = refl;
      late = refl;
      route = λ e. e;
      settled = λ h other up. h other (ap (λ (a : Alignment). is_down a) (sym (alignment-same other)) ∙ up);
      silent = λ h other. each-set (λ (l : Link). IsSilent l) n.parts.links link other x down_link h (quiet (h link));
    }) w arrived loose

  -- ---- only timers, only notices, or only translation rows

  pub timed-passes : (w : World) (n : Node WholeQueues) (arrived loose : List Message) (t : Running) → StaysFit c n (with_parts n (record n.parts { timers = t }))
      → Passes c z j (at c z j w n arrived loose) (at c z j w (with_parts n (record n.parts { timers = t })) arrived loose)
  timed-passes w n arrived loose t stay = aside-passes c z j w n arrived loose (record n.parts { timers = t }) stay refl refl refl refl refl refl (λ e. e)

  pub noted-passes : (w : World) (n : Node WholeQueues) (arrived loose : List Message) (notices : Noted) → StaysFit c n (with_parts n (record n.parts { notices = notices }))
      → Passes c z j (at c z j w n arrived loose) (at c z j w (with_parts n (record n.parts { notices = notices })) arrived loose)
  noted-passes w n arrived loose notices stay = aside-passes c z j w n arrived loose (record n.parts { notices = notices }) stay refl refl refl refl refl refl (λ e. e)

  pub titled-passes : (w : World) (n : Node WholeQueues) (titles : TitlesValue) → Passes c z j (at c z j w n [] []) (at c z j w (with_parts n (with_titles titles n.parts)) [] [])
  titled-passes w n titles = aside-passes c z j w n [] [] (with_titles titles n.parts) ((fit-steps c).titled titles n) refl refl refl refl refl refl (λ e. e)

  -- a refusal that is noted
  pub note_outcome-passes : (o : Outcome) (link : ℕ) (w : World) (n : Node WholeQueues) (arrived loose : List Message)
      → Passes c z j (at c z j w n arrived loose) (at c z j w (with_parts n (note_outcome link o n.parts)) arrived loose)
  note_outcome-passes (Refused cause) link w n arrived loose =
      noted-passes w n arrived loose _ ((fit-steps c).noted (notices.Refused cause link) n (record { other = refl; lost = λ f. absurd cc; late = λ f. absurd cc }))
  note_outcome-passes (Queued other) link w n arrived loose = passes-none c z j (at c z j w n arrived loose)
  note_outcome-passes Held link w n arrived loose = passes-none c z j (at c z j w n arrived loose)
  note_outcome-passes Local link w n arrived loose = passes-none c z j (at c z j w n arrived loose)
  note_outcome-passes Handled link w n arrived loose = passes-none c z j (at c z j w n arrived loose)
  note_outcome-passes Ignored link w n arrived loose = passes-none c z j (at c z j w n arrived loose)
