-- What is carried between exchanges is what is carried between the abstract exchanges that they stand for.
use Rattle.std.proofs.Common.{◌≡◌, ◌∙◌, ℕ, Option, refl, sym, ap, subst}
use Rattle.std.specs.Option.{option_map}
use Rattle.m2pa_codec.specs.Frames.{FrameValue, spelled}
use Rattle.exchange_rules.specs.Queues.{whole}
use Rattle.exchange_rules.specs.State.{WentDown, FrameCame}
use Rattle.exchange_rules.specs.Exchange.{after, taken}
use Rattle.exchange_rules.specs.First.{Abstract}
use Rattle.exchange.specs.KeptQueues.{kept}
use Rattle.exchange.specs.Calls.{Kept, StandsFor}
use Rattle.exchange.proofs.Standing.{stands-after, stands-outcome, stands-frame, stands-taken}
use Rattle.lab.specs.Carrying.{Carriage, Carries, text_to_take}
use Rattle.lab.specs.declared.carrying.Carried.{Carried}
use Rattle.lab.specs.declared.carrying.Carried.TheVariants.{Nothing, Got, Lost}

-- ---- what is carried

pub record CarriesAbstract (from to : ℕ) (c : Carried) (near_new far_new : Kept) (a b : Abstract) (old new : Carriage) : Type 0 where
  pub near : Abstract
  pub far : Abstract
  pub near_stands : StandsFor near_new near
  pub far_stands : StandsFor far_new far
  pub carries : Carries whole from to c a near b far old new

text-stands : (from : ℕ) (k : Kept) (a : Abstract) → StandsFor k a → text_to_take kept k from ≡ text_to_take whole a from
text-stands from k a s = ap (λ (f : Option FrameValue). option_map spelled f) (stands-frame from k a s)

stands-by : (k t : Kept) (a : Abstract) → t ≡ k → StandsFor k a → StandsFor t a
stands-by k t a e s = subst (λ (x : Kept). StandsFor x a) (sym e) s

pub carries-stands : (from to : ℕ) (c : Carried) (k t m u : Kept) (a b : Abstract) (old new : Carriage) → StandsFor k a → StandsFor m b
    → Carries kept from to c k t m u old new → CarriesAbstract from to c t u a b old new
carries-stands from to Nothing k t m u a b old new s r h = record {
  near = a;
  far = b;
  near_stands = stands-by k t a h.1 s;
  far_stands = stands-by m u b h.2 r;
  carries = (sym (text-stands from k a s) ∙ h.0, refl, refl, h.3);
}
carries-stands from to (Got outcome) k t m u a b old new s r h =
    let hands = h.4 in
    record {
      near = taken whole a from;
      far = after whole (FrameCame to hands.text) b;
      near_stands = stands-by (taken kept k from) t (taken whole a from) h.2 (stands-taken from k a s);
      far_stands = stands-by _ u _ hands.left (stands-after (FrameCame to hands.text) m b r);
      carries = (
        h.0,
        sym (text-stands from k a s) ∙ h.1,
        refl,
        h.3,
        record {
          text = hands.text;
          came = hands.came;
          answer = hands.answer ∙ stands-outcome (FrameCame to hands.text) m b r;
          left = refl;
        },
      );
    }
carries-stands from to Lost k t m u a b old new s r h = record {
  near = after whole (WentDown from) (taken whole a from);
  far = after whole (WentDown to) b;
  near_stands = stands-by _ t _ h.2 (stands-after (WentDown from) (taken kept k from) (taken whole a from) (stands-taken from k a s));
  far_stands = stands-by _ u _ h.3 (stands-after (WentDown to) m b r);
  carries = (h.0, sym (text-stands from k a s) ∙ h.1, refl, refl, h.4);
}
