-- Each node is the new one of its settings and gates.
use Rattle.std.proofs.Common.{rules, ◌≡◌, List, [], ◌∷◌, ◌++◌, ap, sym, subst, ◌∙◌}
use Rattle.std.proofs.lemmas.List.{append_assoc, map-append}
use Rattle.std.proofs.lemmas.List.Elements.{All-append, All-cons, All-nil}
use Rattle.std.specs.Vec.Iter.{into_iter_items}
use Rattle.gate_rules.specs.Octets.{HavePorts}
use Rattle.node_world.specs.declared.making.GateMaking.{GateMaking}
use Rattle.node_world.specs.declared.node_making.NodeMaking.{NodeMaking}
use Rattle.node_world.specs.Kept.{KeptNode}
use Rattle.node_world.specs.Making.{Suits, first_node, its_make, make_of, node_first}
use Rattle.node_world.proofs.booting.make_all.Goals as goal

pub loop-making-preserved : goal.loop-making-preserved
loop-making-preserved c =
    let making : NodeMaking = c.in-Some.making in
    let gates_are = c.as_slice.ensures.value in
    let grown : c.push.new.self.items ≡ c.loop-making.made.items ++ c.in_ok-node.node ∷ [] = search rules in
    let is_first : c.in_ok-node.node ≡ node_first making = c.in_ok-node.ensures.first ∙ ap (λ (gates : List GateMaking). first_node c.in-Some.making.settings gates) gates_are in
    let ports : HavePorts (its_make making) = subst (λ (gates : List GateMaking). HavePorts (make_of c.in-Some.making.settings gates)) gates_are c.in_ok-node.ensures.ports in
    let suit : Suits making.settings making.gates.items = subst (λ (gates : List GateMaking). Suits c.in-Some.making.settings gates) gates_are c.in_ok-node.ensures.suit in
    record {
      all = append_assoc c.loop-making.yielded (making ∷ []) (into_iter_items c.next.new.self)
          ∙ ap (λ (rest : List NodeMaking). c.loop-making.yielded ++ rest) (sym (c.in-Some.ensures.steps).0) ∙ c.loop-making.invariant.all;
      first = grown ∙ ap (λ (n : KeptNode). c.loop-making.made.items ++ n ∷ []) is_first
          ∙ ap (λ (l : List KeptNode). l ++ node_first making ∷ []) c.loop-making.invariant.first
          ∙ sym (map-append node_first c.loop-making.yielded (making ∷ []));
      ports = All-append (λ m. HavePorts (its_make m)) c.loop-making.yielded (making ∷ []) c.loop-making.invariant.ports
          (All-cons (λ m. HavePorts (its_make m)) making [] ports (All-nil (λ m. HavePorts (its_make m))));
      suit = All-append (λ m. Suits m.settings m.gates.items) c.loop-making.yielded (making ∷ []) c.loop-making.invariant.suit
          (All-cons (λ m. Suits m.settings m.gates.items) making [] suit (All-nil (λ m. Suits m.settings m.gates.items)));
      many = search rules;
    }
