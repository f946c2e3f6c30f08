-- What one of two nodes of a network sends on a link that leads elsewhere carries no management of one of the two for
-- the other.
use Rattle.pair_rules.proofs.Basics.{◌≡◌, ◌≢◌, ◌&&◌, ◌||◌, ℕ, Bool, true, false, not, List, Option, Some, None, refl, ap, sym, ◌∙◌, slice_get, eq-eqb, list_any, option_to_list}
use Rattle.pair_rules.proofs.Definitions.{Message, Configuration, FrameValue, whole, queue_at, spelled, frame_to_take, link_with_code, set_of}
use Rattle.pair_moves.specs.Sayings.{Other}
use Rattle.pair_rules.proofs.Good.{Each}
use Rattle.neighbour_rules.specs.Neighbours.{is_management_between}
use Rattle.neighbour_rules.proofs.World.{says_of}
use Rattle.neighbour_rules.proofs.Good.{Joint, set}
use Rattle.neighbour_rules.proofs.Sharing.{AreFacing, near_joint}
use Rattle.network_rules.specs.Networks.{NetworkState, Place, other_end}
use Rattle.network_rules.specs.Pairs.{AreTheirPoints}
use Rattle.network_rules.proofs.Alike.{away}
use Rattle.network_rules.proofs.Ends.{EndOk, end-fine, is_fine, taken-harmless}
use Rattle.network_rules.proofs.Places.{IsNamed, Leads, between, elsewhere, leads, named-leads, nowhere, place-named}
use Rattle.network_rules.proofs.Texts.{IsHarmless, same-some}

-- ---- what is fine of two points

and-turned : (a b : Bool) → (a && b) ≡ (b && a)
and-turned true true = refl
and-turned true false = refl
and-turned false true = refl
and-turned false false = refl

pub harmless-turned : (one two : ℕ) (text : List ℕ) → IsHarmless (is_fine one two) text → IsHarmless (is_fine two one) text
harmless-turned one two text h =
    record { carried = λ m e. and-turned (not (is_management_between two one m)) (not (is_management_between one two m)) ∙ h.carried m e }

abbrev pub speaks_between : (one two : ℕ) → Option Message → Bool
speaks_between one two o = list_any (λ m. is_management_between one two m || is_management_between two one m) (option_to_list o)

neither : (a b : Bool) → (not a && not b) ≡ true → ((a || b) || false) ≡ false
neither true b e = absurd cc
neither false true e = absurd cc
neither false false e = refl

pub speaks-none : (one two : ℕ) (o : Option Message) → ((m : Message) → o ≡ Some m → is_fine one two m ≡ true) → speaks_between one two o ≡ false
speaks-none one two None h = refl
speaks-none one two (Some m) h = neither (is_management_between one two m) (is_management_between two one m) (h m refl)

-- ---- of two nodes, one that sends elsewhere

module _ (settings : (point : ℕ) → Configuration) (near far : ℕ) (points : AreTheirPoints settings) (a : AreFacing (settings near) (settings far)) where
  abbrev pub c : Configuration
  c = settings near

  abbrev pub z : Configuration
  z = settings far

  abbrev pub j : Joint c z
  j = near_joint c z a

  -- the settings of each node
  pub record AreKept (w : NetworkState) : Type 0 where
    pub kept : (point : ℕ) → (w.node point).exchange.settings ≡ settings point

  -- on its links that lead elsewhere the near node has nothing that the two say to each other
  abbrev pub SaysElsewhere : NetworkState → Type 0
  SaysElsewhere w = (link : ℕ) → set_of c link ≢ set c z j → Each (λ (m : Message). says_of c.own z.own j.base.there m ≡ Other) (queue_at (w.node near).exchange.node.queues link).all

  module _ (w : NetworkState) (k : AreKept w) where
    abbrev cw : Configuration
    cw = (w.node near).exchange.settings

    abbrev zw : Configuration
    zw = (w.node far).exchange.settings

    away-is : (link : ℕ) → away cw zw link ≡ away c z link
    away-is link = ap (λ (s : Configuration). away s zw link) (k.kept near) ∙ ap (λ (s : Configuration). away c s link) (k.kept far)

    -- a link between the two has its other end at the far node, where it leads back
    leads-back : (link : ℕ) (there : Place) → other_end w near link ≡ Some there → away c z link ≡ false → (far ≡ there.point → away z c there.link ≡ true) → ⊥
    leads-back link there e d watched = by (leads w cw far (slice_get cw.links link) (ap (λ (s : Configuration). s.own) (k.kept far) ∙ points far))
      where
        by : Leads w cw far (slice_get cw.links link) → ⊥
        by (nowhere f g) = (let no : None ≡ Some there = sym f ∙ e in absurd cc)
        by (elsewhere other f g h i) = (let no : true ≡ false = sym i ∙ away-is link ∙ d in absurd cc)
        by (between other f g h) =
            let same : record { point = far; link = other } ≡ there = same-some (record { point = far; link = other }) there (sym f ∙ e) in
            let at : far ≡ there.point = ap (λ (p : Place). p.point) same in
            let named : IsNamed w cw there = place-named w cw (slice_get cw.links link) there e in
            let found : link_with_code z c.own named.slc ≡ Some there.link =
            ap (λ (s : Configuration). link_with_code z s.own named.slc) (sym (k.kept near))
            ∙ ap (λ (s : Configuration). link_with_code s cw.own named.slc) (sym (ap (λ (n : ℕ). (w.node n).exchange.settings) (sym at) ∙ k.kept far)) ∙ named.named in
            let leads_back : away z c there.link ≡ false = named-leads z c c.own named.slc there.link found ∙ ap not (eq-eqb c.own c.own refl) in
            let no : true ≡ false = sym (watched at) ∙ leads_back in
            absurd cc

    pub end-harmless : (link : ℕ) (frame : FrameValue) (there : Place) → EndOk c z j (w.node near).exchange.node → SaysElsewhere w
        → frame_to_take whole (w.node near).exchange link ≡ Some frame → other_end w near link ≡ Some there
        → (far ≡ there.point → away z c there.link ≡ true) → IsHarmless (is_fine c.own z.own) (spelled frame)
    end-harmless link frame there h others e f watched = by (away c z link) refl
      where
        by : (b : Bool) → away c z link ≡ b → IsHarmless (is_fine c.own z.own) (spelled frame)
        by true d = taken-harmless (is_fine c.own z.own) cw (w.node near).exchange.node link frame (λ i m g. end-fine c z j (w.node near).exchange.node link h d others i m g) e
        by false d = absurd (leads-back link there f d watched)
