-- No link is ever in an outage where the settings don't ask for it.
use Rattle.exchange_rules.proofs.Basics.{◌≡◌, true, false, refl, sym, ◌∙◌, ⊎_elim, false_from_ne_true}
use Rattle.exchange_rules.proofs.Definitions.{Configuration, Link}
use Rattle.exchange_rules.specs.LawsOfOutage.{no_outage_unasked}
use Rattle.exchange_rules.proofs.LastingPeriods.{IsLasting, in-each}

in-none : (c : Configuration) → c.processor_outage ≡ false → IsLasting c (λ (x : Link). x.peer_outage ≡ false)
in-none c unasked = record {
  failed = λ x h. refl;
  alike = λ x y e f may w h.
      false_from_ne_true y.peer_outage
      (λ out. ⊎_elim (λ was. (let no : false ≡ true = sym h ∙ was in cc)) (λ asked. (let no : false ≡ true = sym unasked ∙ asked in cc)) (may out));
  opened = λ p link x. refl;
  stepped = λ x input step e h. h;
}

pub unasked : no_outage_unasked
unasked c asked link off = in-each c (λ (x : Link). x.peer_outage ≡ false) (in-none c off) asked refl link
