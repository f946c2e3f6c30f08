-- A link that changes passes on that its holds have their word, as long as it stays what it was.
use Rattle.exchange_rules.proofs.Basics.{◌≡◌, Bool, true, false, refl, ap, sym, ◌∙◌, ◌&&◌, not, and_parts, and_from}
use Rattle.exchange_rules.proofs.Definitions.{Period, acts_on, Configuration, Link, Alignment, Input, Go, Transition, stepped, opened_by, may_open, is_down, is_in_service}
use Rattle.exchange_rules.proofs.Steps.{IsSameLink}
use Rattle.exchange_rules.proofs.Serving.{each-step, goes-up, down-is}
use Rattle.exchange_rules.proofs.WillEnding.{no-way, LinkAs}

pub linked-as : (l x : Link) → IsSameLink l x → x.peer_outage ≡ l.peer_outage → LinkAs l x
linked-as l x e o = record {
  passes = λ h. record {
    watched = λ out. ap (λ (a : Alignment). is_in_service a && x.peer_busy) e.alignment ∙ ap (λ (b : Bool). is_in_service l.alignment && b) e.busy ∙ h.watched (sym o ∙ out);
    alone = λ f. ap is_down e.alignment ∙ h.alone (sym e.association ∙ f);
  };
  out = λ h out. o ∙ out;
}

pub passed-as : (l : Link) → LinkAs l (record l { test_failed = false; untested = false })
passed-as l = record { passes = λ h. record { watched = h.watched; alone = h.alone }; out = λ h o. o }

pub parted-as : (l : Link) → is_down l.alignment ≡ true → LinkAs l (record l { association = false })
parted-as l e = record { passes = λ h. record { watched = h.watched; alone = λ f. e }; out = λ h o. o }

down-idle : (a : Alignment) → is_down a ≡ true → is_in_service a ≡ false
down-idle a e = ap is_in_service (down-is a e)

pub opened-as : (c : Configuration) (period : Period) (l : Link) → may_open l ≡ true → LinkAs l (opened_by c period l)
opened-as c period l e = record {
  passes = λ h. record { watched = λ o. absurd cc; alone = λ f. absurd cc };
  out = λ h o. no-way (is_in_service l.alignment) (down-idle l.alignment (h.alone (unassociated l.association l.active e))) (and_parts (is_in_service l.alignment) l.peer_busy (h.watched o)).0;
}
  where
    unassociated : (association active : Bool) → (not association && active) ≡ true → association ≡ false
    unassociated true active e = absurd cc
    unassociated false active e = refl

pub stepped-as : (l : Link) (input : Input) (step : Transition) → acts_on l input ≡ Go step → LinkAs l (stepped step l)
stepped-as l input step e = record {
  passes = λ h. record {
    watched = λ o.
        let w = and_parts (is_in_service l.alignment) l.peer_busy (h.watched o) in
        and_from (is_in_service step.state) l.peer_busy ((each-step l.period l.alignment input step e).stays w.0) w.1;
    alone = λ f. no-way (is_down l.alignment) (goes-up l.period l.alignment input step e) (h.alone f);
  };
  out = λ h o. o;
}

pub busied-as : (l : Link) → LinkAs l (record l { peer_busy = true })
busied-as l = record {
  passes = λ h. record { watched = λ o. and_from (is_in_service l.alignment) true (and_parts (is_in_service l.alignment) l.peer_busy (h.watched o)).0 refl; alone = h.alone };
  out = λ h o. o;
}

pub resumed-as : (l : Link) → l.peer_outage ≡ false → LinkAs l (record l { peer_busy = false })
resumed-as l e = record { passes = λ h. record { watched = λ o. no-way l.peer_outage e o; alone = h.alone }; out = λ h o. o }
