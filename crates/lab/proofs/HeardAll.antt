-- One datagram after another.
use Rattle.std.proofs.Common.{◌≡◌, ◌∙◌, ℕ, ◌+◌, List, [], ◌∷◌, ◌++◌, Option, Some, None, refl, sym, ap, subst, arith, append_assoc, length-append}
use Rattle.sctp_codec.specs.Reading.{read_packet}
use Rattle.exchange.specs.KeptQueues.{KeptQueues, kept}
use Rattle.exchange.specs.Calls.{Kept, StandsFor}
use Rattle.exchange_rules.specs.State.{State}
use Rattle.exchange_rules.specs.Queues.{WholeQueues, whole}
use Rattle.exchange_rules.specs.First.{Abstract}
use Rattle.sctp_rules.specs.State.{Datagram}
use Rattle.sctp_bundling.specs.Watching.{Sent}
use Rattle.sctp_gate.specs.Watching.{Sight}
use Rattle.sctp_gate.specs.Gates.{Gate, Did, nothing, followed_by, heard}
use Rattle.sctp_gate.specs.Making.{Makes, MakesWhole}
use Rattle.sctp_gate.proofs.Making.{makes-nothing, makes-then}
use Rattle.sctp_gate.proofs.Whole.{Same, same-heard, makes-whole}
use Rattle.lab.specs.Hearing.{Came, one_by_one, hears, heard_all, Loses, GivesEach}

-- one more at the end
more-done : {Q : Type 0} (call : Came → Gate → State Q → Did Q) (d : Did Q) (came : List Came) (one : Came)
    → one_by_one call d (came ++ one ∷ []) ≡ followed_by (one_by_one call d came) (call one)
more-done call d [] one = refl
more-done call d (first ∷ more) one = more-done call (followed_by d (call first)) more one

loses-none : (all : Option (List Came)) → Loses all all []
loses-none (Some all) = refl
loses-none None = tt

loses-more : (a b c : Option (List Came)) (came : List Came) (one : Came) → Loses a b came → Loses b c (one ∷ []) → Loses a c (came ++ one ∷ [])
loses-more (Some a) (Some b) (Some c) came one f g = f ∙ ap (λ (xs : List Came). came ++ xs) g ∙ sym (append_assoc came (one ∷ []) c)
loses-more None None None came one f g = tt
loses-more (Some a) None c came one f g = absurd f
loses-more None (Some b) c came one f g = absurd f
loses-more (Some a) (Some b) None came one f g = absurd g
loses-more None None (Some c) came one f g = absurd g

-- ---- the same on an abstract exchange

same-nothing : (g : Gate) (k : Kept) (a : Abstract) → StandsFor k a → Same (nothing g k) (nothing g a)
same-nothing g k a s = record { sent_is = refl; seen_is = refl; gate_is = refl; stands = s }

same-then : (d : Did KeptQueues) (e : Did WholeQueues) (f : Gate → Kept → Did KeptQueues) (h : Gate → Abstract → Did WholeQueues) → Same d e
    → ((g : Gate) (k : Kept) (a : Abstract) → StandsFor k a → Same (f g k) (h g a)) → Same (followed_by d f) (followed_by e h)
same-then d e f h s t =
    let u : Same (f d.gate d.exchange) (h e.gate e.exchange) =
    subst (λ (g : Gate). Same (f g d.exchange) (h e.gate e.exchange)) (sym s.gate_is) (t e.gate d.exchange e.exchange s.stands)
    in
    record {
      sent_is =
          ap (λ (xs : List Datagram). xs ++ (f d.gate d.exchange).sent) s.sent_is ∙ ap (λ (xs : List Datagram). e.sent ++ xs) u.sent_is;
      seen_is =
          ap (λ (xs : List Sight). xs ++ (f d.gate d.exchange).seen) s.seen_is ∙ ap (λ (xs : List Sight). e.seen ++ xs) u.seen_is;
      gate_is = u.gate_is;
      stands = u.stands;
    }

same-each : (f : Came → Gate → Kept → Did KeptQueues) (h : Came → Gate → Abstract → Did WholeQueues)
    → ((one : Came) (g : Gate) (k : Kept) (a : Abstract) → StandsFor k a → Same (f one g k) (h one g a))
    → (d : Did KeptQueues) (e : Did WholeQueues) (came : List Came) → Same d e → Same (one_by_one f d came) (one_by_one h e came)
same-each f h t d e [] s = s
same-each f h t d e (one ∷ more) s = same-each f h t (followed_by d (f one)) (followed_by e (h one)) more (same-then d e (f one) (h one) s (t one))

-- ---- one call after another

module _ {W : Type 0} (has : W → List Sent → List Sight → Type 0) (now : ℕ) where
  -- what was heard so far
  abbrev pub SoFar : (count : ℕ) → (before after : Option (List Came)) → (w x : W) → (g h : Gate) → (s t : Kept) → Type 0
  SoFar count before after w x g h s t = GivesEach count before after (λ came. Makes has w x h t (heard_all kept now came g s))

  pub heard-none : (all : Option (List Came)) (w : W) (g : Gate) (s : Kept) → SoFar 0 all all w w g g s s
  heard-none all w g s = record { came = []; many = refl; received = loses-none all; made = makes-nothing has w g s }

  pub heard-more : (count : ℕ) (a b c : Option (List Came)) (one : Came) (w x y : W) (g h i : Gate) (s t u : Kept) → SoFar count a b w x g h s t → Loses b c (one ∷ [])
      → Makes has x y i u (heard kept now (read_packet one.octets) one.source h t) → SoFar (count + 1) a c w y g i s u
  heard-more count a b c one w x y g h i s t u f lost m = record {
    came = f.came ++ one ∷ [];
    many = let both = length-append f.came (one ∷ []) in let some = f.many in omega (arith, both, some);
    received = loses-more a b c f.came one f.received lost;
    made =
        subst (λ (d : Did KeptQueues). Makes has w y i u d) (sym (more-done (hears kept now) (nothing g s) f.came one))
        (makes-then has w x y h i t u (heard_all kept now f.came g s) (hears kept now one) f.made m);
  }

  pub heard-whole : (count : ℕ) (before after : Option (List Came)) (w x : W) (g h : Gate) (s t : Kept) (a : Abstract) → StandsFor s a → SoFar count before after w x g h s t
      → GivesEach count before after (λ came. MakesWhole has w x h t (heard_all whole now came g a))
  heard-whole count before after w x g h s t a stands f = record {
    came = f.came;
    many = f.many;
    received = f.received;
    made = makes-whole has w x h t _ _ f.made (same-each (hears kept now) (hears whole now) (λ one h t b stood. same-heard now (read_packet one.octets) one.source h t b stood) (nothing g s) (nothing g a) f.came (same-nothing g s a stands));
  }
