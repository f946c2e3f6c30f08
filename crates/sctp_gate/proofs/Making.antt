-- One call after another, and what a bridge has as its endpoint tells it more.
use Rattle.std.proofs.Common.{◌≡◌, ◌∙◌, Bool, true, false, List, [], ◌∷◌, ◌++◌, refl, sym, ap, subst, append_assoc, append-nil}
use Rattle.std.proofs.lemmas.List.{map-append}
use Rattle.std.specs.Prelude.{map, if◌then◌else◌}
use Rattle.sctp_rules.specs.State.{Told}
use Rattle.sctp_bundling.specs.Watching.{Sent, sent_as}
use Rattle.exchange.specs.KeptQueues.{KeptQueues, kept}
use Rattle.exchange.specs.Calls.{Kept}
use Rattle.sctp_gate.specs.Standing.{stands_by}
use Rattle.sctp_gate.specs.Watching.{Sight, Gives}
use Rattle.sctp_gate.specs.Handing.{after_one, after_told, sight_of, sights_of}
use Rattle.sctp_gate.specs.Gates.{Gate, Did, nothing, followed_by}
use Rattle.sctp_gate.specs.Making.{Makes, Beginning, HasHanded}
use Rattle.sctp_gate.proofs.HandedEvents.{standing-more, after-more, sights-more}

module _ {W : Type 0} (has : W → List Sent → List Sight → Type 0) where
  -- ---- what is given

  pub gives-none : (w : W) → Gives has w w [] []
  gives-none w = record {
    more = λ had saw h.
        subst (λ (xs : List Sent). has w xs (saw ++ [])) (sym (append-nil had))
        (subst (λ (ys : List Sight). has w had ys) (sym (append-nil saw)) h);
  }

  pub gives-then : (w x y : W) (sent more_sent : List Sent) (seen more_seen : List Sight) → Gives has w x sent seen → Gives has x y more_sent more_seen
      → Gives has w y (sent ++ more_sent) (seen ++ more_seen)
  gives-then w x y sent more_sent seen more_seen a b = record {
    more = λ had saw h.
        subst (λ (xs : List Sent). has y xs (saw ++ (seen ++ more_seen))) (append_assoc had sent more_sent)
        (subst (λ (ys : List Sight). has y ((had ++ sent) ++ more_sent) ys) (append_assoc saw seen more_seen)
        (b.more (had ++ sent) (saw ++ seen) (a.more had saw h)));
  }

  -- ---- calls

  pub makes-nothing : (w : W) (g : Gate) (s : Kept) → Makes has w w g s (nothing g s)
  makes-nothing w g s = record { gate_is = refl; exchange_is = refl; gives = gives-none w }

  pub makes-then : (w x y : W) (g h : Gate) (s t : Kept) (d : Did KeptQueues) (call : Gate → Kept → Did KeptQueues) → Makes has w x g s d → Makes has x y h t (call g s)
      → Makes has w y h t (followed_by d call)
  makes-then w x y g h s t d call a b =
      let e : Did KeptQueues = call d.gate d.exchange in
      let c : Makes has x y h t e =
      subst (λ (k : Gate). Makes has x y h t (call k d.exchange)) a.gate_is (subst (λ (u : Kept). Makes has x y h t (call g u)) a.exchange_is b)
      in
      record {
        gate_is = c.gate_is;
        exchange_is = c.exchange_is;
        gives =
            subst (λ (xs : List Sent). Gives has w y xs (d.seen ++ e.seen)) (sym (map-append sent_as d.sent e.sent))
            (gives-then w x y (map sent_as d.sent) (map sent_as e.sent) d.seen e.seen a.gives c.gives);
      }

  pub makes-if : (b : Bool) (w x : W) (g : Gate) (s : Kept) (d e : Did KeptQueues) → Makes has w x g s (if b then d else e) → b ≡ true → Makes has w x g s d
  makes-if true w x g s d e m same = m
  makes-if false w x g s d e m same = absurd cc

  -- ---- a bridge

  module _ (had : List Sent → List Sight → Type 0) (b : Beginning) where
    pub handed-none : (w : W) → ((sent : List Sent) (seen : List Sight) → had sent seen → has w sent seen) → HasHanded has had b [] [] b w
    handed-none w h = record { now_is = refl; seen = λ before saw k. (gives-none w).more before saw (h before saw k) }

    pub handed-sent : (sent : List Sent) (told : List Told) (one : Sent) (now : Beginning) (w x : W) → HasHanded has had b sent told now w
        → Gives has w x (one ∷ []) [] → HasHanded has had b (sent ++ one ∷ []) told now x
    handed-sent sent told one now w x h g = record {
      now_is = h.now_is;
      seen = λ before saw k.
          subst (λ (xs : List Sent). has x xs (saw ++ sights_of kept b.link told b.exchange)) (append_assoc before sent (one ∷ []))
          (subst (λ (ys : List Sight). has x ((before ++ sent) ++ one ∷ []) ys) (append-nil (saw ++ sights_of kept b.link told b.exchange))
          (g.more (before ++ sent) (saw ++ sights_of kept b.link told b.exchange) (h.seen before saw k)));
    }

    pub handed-told : (sent : List Sent) (told : List Told) (one : Told) (now next : Beginning) (w x : W) → HasHanded has had b sent told now w
        → Gives has w x [] (sight_of kept now.link one now.exchange ∷ [])
        → next ≡ record now { standing = stands_by now.time one now.standing; exchange = after_one kept now.link one now.exchange }
        → HasHanded has had b sent (told ++ one ∷ []) next x
    handed-told sent told one now next w x h g e =
        let s : Kept = after_told kept b.link told b.exchange in
        let all : List Sight = sights_of kept b.link told b.exchange in
        let one_seen : Sight = sight_of kept b.link one s in
        let gs : Gives has w x [] (one_seen ∷ []) = subst (λ (n : Beginning). Gives has w x [] (sight_of kept n.link one n.exchange ∷ [])) h.now_is g in
        record {
          now_is =
              e ∙ ap (λ (n : Beginning). record n { standing = stands_by n.time one n.standing; exchange = after_one kept n.link one n.exchange }) h.now_is
              ∙ rw (standing-more b.time told one b.standing, after-more kept b.link told one b.exchange) refl;
          seen = λ before saw k.
              subst (λ (ys : List Sight). has x (before ++ sent) (saw ++ ys)) (sym (sights-more kept b.link told one b.exchange))
              (subst (λ (ys : List Sight). has x (before ++ sent) ys) (append_assoc saw all (one_seen ∷ []))
              (subst (λ (xs : List Sent). has x xs ((saw ++ all) ++ one_seen ∷ [])) (append-nil (before ++ sent)) (gs.more (before ++ sent) (saw ++ all) (h.seen before saw k))));
        }
